-- What a receiver's state is judged as, and what a good one holds.
use mathlib.Core.Path.{◌≡◌, refl, sym, ap, ◌∙◌}
use mathlib.Core.Bool.{true}
use mathlib.Core.List.{List, ◌++◌}
use Prim.Native.Nat.{ℕ, ◌+◌, ◌-◌, ◌<◌, ◌≤◌}
use native.Mathlib.Omega.{arith}
use lib.Dec.{ltb}
use lib.IntN.{ℤ}
use lib.ListN.{length, drop, replicate, length-drop, length-append, length-replicate, take-append-drop}
use lib.Seq.{take_at, drop_at, length-take-le}
use borrow.Author.Tests.{lt-ltb, ltb-true}
use Rattle.base.specs.Outcome.{done, need}
use Rattle.base.proofs.Bools.{and_true}
use Rattle.base.proofs.Ladders.{need_done, then_done, done_is}
use Rattle.pfield.specs.PField.{laid}
use Rattle.pfield.specs.declared.PField.{PField}
use Rattle.pfield.specs.declared.Codes.TheVariants.{All}
use Rattle.pfield.specs.declared.Layout.{Layout}
use Rattle.codes.specs.Reading.{width_of}
use Rattle.receiver.specs.Receiver.{holding, held_in, all_zero, is_state, layout_of}
use Rattle.receiver.specs.declared.Receiver.{Receiver}
use Rattle.receiver.proofs.Clear.{zeros_are, zeros_all}

module _ (r : Receiver) where
  pub state : (l : Layout) → laid All r.p r.epoch ≡ done l → r.count < width_of l → all_zero (drop r.count r.pending) ≡ true → layout_of r ≡ done l
  unfolding layout_of is_state
  state l h k e = rw (h, lt-ltb r.count (width_of l) k, e)

  -- ---- what a good one is
  pub record Good (l : Layout) : Type 0 where
    pub lays : laid All r.p r.epoch ≡ done l
    pub few : r.count < width_of l
    pub clear : all_zero (drop r.count r.pending) ≡ true

  pub good : (l : Layout) → layout_of r ≡ done l → Good l
  unfolding layout_of is_state
  good l h =
      let (m, (a, b)) = then_done (laid All r.p r.epoch) (λ l. need (is_state l r) 7 (done l)) l h in
      let (s, d) = need_done (is_state m r) 7 (done m) l b in
      let (k, z) = and_true (ltb r.count (width_of m)) _ s in
      let e : m ≡ l = done_is m l d in
      record { lays = a ∙ ap done e; few = rw e at (ltb-true r.count (width_of m) k); clear = z }

  pub few : (l : Layout) → layout_of r ≡ done l → r.count < width_of l
  few l h = (good l h).few

  -- its octets, and zeros behind them, are all that there is to it
  pub state_is : (l : Layout) → length r.pending ≡ 12 → layout_of r ≡ done l → width_of l ≤ 13 → r ≡ holding r.p r.epoch (held_in r)
  state_is l size h low =
      let g = good l h in
      let n : length (held_in r) ≡ r.count = length-take-le r.count r.pending (omega (arith, g.few)) in
      let d = drop r.count r.pending in
      let m : length d ≡ 12 - length (held_in r) = omega (arith, length-drop r.count r.pending) in
      let e : r.pending ≡ held_in r ++ replicate (12 - length (held_in r)) 0 =
      sym (take-append-drop r.count r.pending) ∙ ap (λ (x : List ℕ). held_in r ++ x) (zeros_are d g.clear ∙ ap (λ (k : ℕ). replicate k 0) m) in
      (λ i. record { p = r.p; epoch = r.epoch; pending = e i; count = sym n i })

-- ---- one that holds some octets
module _ (p : PField) (e : ℤ) (h : List ℕ) where
  pub held_is : held_in (holding p e h) ≡ h
  held_is = take_at h (replicate (12 - length h) 0) (length h) refl

  pub holding_size : length h ≤ 12 → length (holding p e h).pending ≡ 12
  holding_size k = length-append h (replicate (12 - length h) 0) ∙ ap (λ (n : ℕ). length h + n) (length-replicate (12 - length h) 0) ∙ omega arith

  pub holding_state : (l : Layout) → laid All p e ≡ done l → length h < width_of l → layout_of (holding p e h) ≡ done l
  holding_state l lays k =
      state (holding p e h) l lays k (ap all_zero (drop_at h (replicate (12 - length h) 0) (length h) refl) ∙ zeros_all (12 - length h))
