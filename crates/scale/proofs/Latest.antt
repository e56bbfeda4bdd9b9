-- The one law of order that every code's writing goes by.
use mathlib.Core.Path.{◌≡◌}
use Prim.Native.Nat.{◌<◌}
use native.Mathlib.Omega.{arith}
use Rattle.base.proofs.Signed.{same, le_yes, le_so}
use Rattle.scale.specs.Time.{Time, per_second, worth}
use Rattle.scale.specs.Latest.{NotAfter, Latest}
use Rattle.scale.proofs.Laws.{worth_one}

pub not_after_own : (a : Time) → NotAfter a a
not_after_own a = le_so (worth a) (worth a) (omega arith)

pub not_after_then : (a b c : Time) → NotAfter a b → NotAfter b c → NotAfter a c
not_after_then a b c p q = le_so (worth a) (worth c) (omega (arith, le_yes (worth a) (worth b) p, le_yes (worth b) (worth c) q))

pub not_after_both : (a b : Time) → a.ticks < per_second → b.ticks < per_second → NotAfter a b → NotAfter b a → a ≡ b
not_after_both a b ha hb p q =
    worth_one a b ha hb (same (worth a) (worth b) (omega (arith, le_yes (worth a) (worth b) p, le_yes (worth b) (worth a) q)))

-- the latest among the same times, said otherwise
pub latest_by : (Has Has' : Time → Type 0) (s m : Time) → ((x : Time) → Has x → Has' x) → ((x : Time) → Has' x → Has x) → Latest Has s m → Latest Has' s m
latest_by Has Has' s m to from l = record { had = to m l.had; not_after = l.not_after; no_later = λ x h k. l.no_later x (from x h) k }

module _ (Has : Time → Type 0) (s m : Time) (l : Latest Has s m) where
  -- a later source never gets an earlier time
  pub later_source : (s' m' : Time) → Latest Has s' m' → NotAfter s s' → NotAfter m m'
  later_source s' m' l' h = l'.no_later m l.had (not_after_then m s s' l.not_after h)

  -- a time that can be had is its own latest
  pub own_latest : m.ticks < per_second → s.ticks < per_second → Has s → m ≡ s
  own_latest hm hs h = not_after_both m s hm hs l.not_after (l.no_later s h (not_after_own s))
