-- The laws of the exact scale.
use mathlib.Core.Path.{◌≡◌, refl, sym, ap, ◌∙◌}
use mathlib.Core.Bool.{Bool, true, false, cond, ◌&&◌}
use Prim.Native.Nat.{ℕ, ◌+◌, ◌*◌, ◌-◌, ◌^◌, ◌<◌}
use native.Mathlib.Omega.{arith}
use lib.Dec.{ltb, lit<}
use lib.IntN.{ℤ, pos, negsuc, neg_ℤ, ◌+ℤ◌, ◌-ℤ◌}
use lib.Signed.{lt_z}
use borrow.Author.Tests.{ltb-true, ltb-false, lt-ltb}
use Rattle.base.specs.Outcome.{Outcome, done, need}
use Rattle.base.proofs.Ladders.{need_done, done_is}
use Rattle.base.specs.Parts.{plus, minus, within}
use Rattle.base.proofs.Bools.{and_true, and_yes, by_two}
use Rattle.base.proofs.Signed.{same, sum, difference, line, floor_line, floor_rest, neg_plus, neg_minus, apart, within_low, within_high, within_yes, lt_yes, lt_no, lt_so, lt_not}
use Rattle.scale.specs.Time.{Time, per_second, worth, of_ticks, good, held, is_record, is_span, earlier}
use Rattle.scale.specs.Inner.{Within, Less, Together}

-- ---- a good time, and the same of its parts
pub good_within : (H : ℕ) (t : Time) → 0 < H → good H t ≡ true → Within H t
unfolding good
good_within H t p e =
    let b = and_true (within (neg_ℤ (pos H)) (pos (H - 1)) t.sec) (ltb t.ticks per_second) e in
    let l = within_low (neg_ℤ (pos H)) (pos (H - 1)) t.sec b.0 in
    let h = within_high (neg_ℤ (pos H)) (pos (H - 1)) t.sec b.0 in
    record {
      low = omega (arith, neg_plus (pos H), neg_minus (pos H), apart t.sec);
      high = omega (arith, apart t.sec);
      below = ltb-true t.ticks per_second b.1;
    }

pub within_good : (H : ℕ) (t : Time) → Within H t → good H t ≡ true
unfolding good
within_good H t p =
    and_yes _ (within_yes (neg_ℤ (pos H)) (pos (H - 1)) t.sec (omega (arith, neg_plus (pos H), neg_minus (pos H))) (omega arith))
    ∙ lt-ltb t.ticks per_second p.below

-- a record and a span are such by the last seconds of the two types
pub held_record : (t : Time) → held (pos (2 ^ 41 - 1)) t ≡ is_record t
held_record t = refl

pub held_span : (t : Time) → held (pos (2 ^ 42 - 1)) t ≡ is_span t
held_span t = refl

-- the range by its last second, as the code tests it
pub held_is : (last : ℤ) (t : Time) → within (negsuc 0 -ℤ last) last t.sec && ltb t.ticks per_second ≡ held last t
unfolding good
held_is (pos n) t =
    let first : negsuc 0 -ℤ pos n ≡ neg_ℤ (pos (n + 1)) = same _ _ (omega (arith, difference (negsuc 0) (pos n), apart (negsuc 0 -ℤ pos n), neg_plus (pos (n + 1)), neg_minus (pos (n + 1)))) in
    let last : n ≡ n + 1 - 1 = omega arith in
    ap (λ (z : ℤ). within z (pos n) t.sec && ltb t.ticks per_second) first ∙ ap (λ (m : ℕ). within (neg_ℤ (pos (n + 1))) (pos m) t.sec && ltb t.ticks per_second) last
held_is (negsuc n) t =
    let lo = negsuc 0 -ℤ negsuc n in
    let none : within lo (negsuc n) t.sec ≡ false = by_two _ false (λ h. absurd (omega (arith, within_low lo (negsuc n) t.sec h, within_high lo (negsuc n) t.sec h, difference (negsuc 0) (negsuc n), apart lo))) (λ h. refl) in
    ap (λ (b : Bool). b && ltb t.ticks per_second) none

-- what passes the test of a range is what went in, and good
pub passed : (H : ℕ) (t x : Time) → ◌≡◌ {A = Outcome Time} (done x) (need (good H t) 7 (done t)) → (good H x ≡ true) × (t ≡ x)
passed H t x e =
    let b = need_done (good H t) 7 (done t) x (sym e) in
    let same : t ≡ x = done_is t x b.1 in
    (rw same at b.0, same)

pub record_ticks : (t : Time) → is_record t ≡ true → t.ticks < per_second
record_ticks t e = (good_within (2 ^ 41) t (lit< tt) e).below

-- ---- worth, and the time of a worth, are inverse
pub worth_parts : (t : Time) → plus (worth t) + minus t.sec * per_second ≡ minus (worth t) + (plus t.sec * per_second + t.ticks)
worth_parts t = line t.sec per_second t.ticks

pub of_ticks_worth : (t : Time) → t.ticks < per_second → of_ticks (worth t) ≡ t
of_ticks_worth t h = λ i. record { sec = (floor_line per_second t.sec t.ticks h).0 i; ticks = (floor_line per_second t.sec t.ticks h).1 i }

pub worth_of_ticks : (z : ℤ) → worth (of_ticks z) ≡ z
worth_of_ticks z = floor_rest z per_second (lit< tt)

-- two times of one worth are one
pub worth_one : (s t : Time) → s.ticks < per_second → t.ticks < per_second → worth s ≡ worth t → s ≡ t
worth_one s t hs ht e = sym (of_ticks_worth s hs) ∙ ap of_ticks e ∙ of_ticks_worth t ht

-- ---- exactness, from an equation of parts: t is the difference of a and b, or their sum
is_exact : (z : ℤ) (t : Time) → t.ticks < per_second → plus z + minus (worth t) ≡ plus (worth t) + minus z → of_ticks z ≡ t
is_exact z t h e = ap of_ticks (same z (worth t) e) ∙ of_ticks_worth t h

pub is_difference : (t a b : Time) → Less a b t → of_ticks (worth a -ℤ worth b) ≡ t
is_difference t a b h =
    is_exact (worth a -ℤ worth b) t h.below
    (omega (arith, difference (worth a) (worth b), worth_parts a, worth_parts b, worth_parts t))

pub is_sum : (t a b : Time) → Together a b t → of_ticks (worth a +ℤ worth b) ≡ t
is_sum t a b h =
    is_exact (worth a +ℤ worth b) t h.below
    (omega (arith, sum (worth a) (worth b), worth_parts a, worth_parts b, worth_parts t))

-- a difference of two records is as narrow as a span
pub difference_within : (a b d : Time) → Within (2 ^ 41) a → Within (2 ^ 41) b → d.ticks < per_second → worth d ≡ worth a -ℤ worth b → Within (2 ^ 42) d
difference_within a b d pa pb h e =
    omega (
      arith,
      ap plus e,
      ap minus e,
      difference (worth a) (worth b),
      worth_parts a,
      worth_parts b,
      worth_parts d,
      apart d.sec,
    )

-- ---- the order is that of the worths
pub earlier_worth : (a b : Time) → a.ticks < per_second → b.ticks < per_second → earlier a b ≡ lt_z (worth a) (worth b)
earlier_worth a b ha hb = go (lt_z a.sec b.sec) (lt_z b.sec a.sec) refl refl
  where
    go : (s t : Bool) → lt_z a.sec b.sec ≡ s → lt_z b.sec a.sec ≡ t → cond s true (cond t false (ltb a.ticks b.ticks)) ≡ lt_z (worth a) (worth b)
    go true t e f = sym (lt_so (worth a) (worth b) (omega (arith, lt_yes a.sec b.sec e, worth_parts a, worth_parts b)))
    go false true e f = sym (lt_not (worth a) (worth b) (omega (arith, lt_yes b.sec a.sec f, worth_parts a, worth_parts b)))
    go false false e f =
        by_two (ltb a.ticks b.ticks) (lt_z (worth a) (worth b))
        (λ h. lt_so (worth a) (worth b) (omega (arith, ltb-true a.ticks b.ticks h, lt_no a.sec b.sec e, lt_no b.sec a.sec f, worth_parts a, worth_parts b)))
        (λ h. lt_not (worth a) (worth b) (omega (arith, ltb-false a.ticks b.ticks h, lt_no a.sec b.sec e, lt_no b.sec a.sec f, worth_parts a, worth_parts b)))
