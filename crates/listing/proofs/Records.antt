-- What is listed of a window of records, over any bias B, any naming rule p and any tick count k: exactly the named moments from the start on and before the end, ascending, each once; and adjoining windows.
use mathlib.Core.Bool.{Bool, true, false, cond}
use mathlib.Core.List.{List, map, map-append}
use mathlib.Core.Logic.{◌↔◌}
use mathlib.Core.Path.{◌≡◌, refl, sym, ap, ◌∙◌, subst}
use Prim.Native.Nat.{ℕ, ◌+◌, ◌^◌, ◌≤◌, ◌<◌}
use native.Mathlib.Omega.{arith}
use borrow.Author.Tests.{lt-ltb, le-ltb, ltb-true, ltb-false}
use lib.Dec.{ltb, lit<}
use lib.IntN.{ℤ}
use lib.Signed.{lt_z}
use Rattle.base.specs.Parts.{plus, minus, lowered_by}
use Rattle.base.proofs.Bools.{never_both}
use Rattle.base.proofs.Signed.{lt_z_at, lt_yes, lt_no, apart, lower_is}
use Rattle.scale.specs.Time.{Time, per_second, is_record, earlier}
use Rattle.scale.specs.Inner.{Within}
use Rattle.scale.proofs.Laws.{good_within, within_good}
use Rattle.window.specs.Among.{Among, Ascending}
use Rattle.window.specs.Seconds.{raised_by, first_second}
use Rattle.window.specs.Window.{named_in}
use Rattle.window.proofs.Maps.{among_map, among_of, ascends_map}
use Rattle.window.proofs.Members.{right}
use Rattle.window.proofs.Moments.{splice}
use Rattle.window.proofs.Seconds.{raised_at, lowered_from, raised_lowered, lowered_raised}
use Rattle.window.proofs.Ticks.{before_first, first_up}
use Rattle.listing.specs.Records.{start_at, moments_in, IsListed, Inside, Sooner, adjoined}

-- the order by the seconds alone
not_earlier : (m t : Time) → earlier m t ≡ false → plus t.sec + minus m.sec ≤ plus m.sec + minus t.sec
not_earlier m t h = go (lt_z m.sec t.sec) refl h
  where
    go : (a : Bool) → lt_z m.sec t.sec ≡ a → cond a true (cond (lt_z t.sec m.sec) false (ltb m.ticks t.ticks)) ≡ false → plus t.sec + minus m.sec ≤ plus m.sec + minus t.sec
    go true e h = never_both refl h
    go false e h = lt_no m.sec t.sec e

not_later : (m t : Time) → earlier m t ≡ true → plus m.sec + minus t.sec ≤ plus t.sec + minus m.sec
not_later m t h = go (lt_z m.sec t.sec) (lt_z t.sec m.sec) refl refl h
  where
    go : (a b : Bool) → lt_z m.sec t.sec ≡ a → lt_z t.sec m.sec ≡ b → cond a true (cond b false (ltb m.ticks t.ticks)) ≡ true → plus m.sec + minus t.sec ≤ plus t.sec + minus m.sec
    go true b e f h = omega (arith, lt_yes m.sec t.sec e)
    go false true e f h = never_both h refl
    go false false e f h = lt_no t.sec m.sec f

-- ---- on the axis of raised seconds
-- a time from -B on
abbrev pub From : ℕ → Time → Type 0
From B t = minus t.sec ≤ B

module _ (B : ℕ) where
  pub later_from : (m t : Time) → From B t → earlier m t ≡ false → From B m
  later_from m t f h = omega (arith, not_earlier m t h, apart m.sec)

  -- the order of times, on the axis of raised seconds
  raised_earlier : (m t : Time) → From B m → From B t → earlier m t ≡ cond (ltb (raised_by B m.sec) (raised_by B t.sec)) true (cond (ltb (raised_by B t.sec) (raised_by B m.sec)) false (ltb m.ticks t.ticks))
  raised_earlier m t f g =
      rw (lt_z_at B (raised_by B m.sec) (raised_by B t.sec) m.sec t.sec (raised_at B m.sec f) (raised_at B t.sec g), lt_z_at B (raised_by B t.sec) (raised_by B m.sec) t.sec m.sec (raised_at B t.sec g) (raised_at B m.sec f))

  -- a moment at tick k is before t exactly when its second is before the first one
  earlier_start : (k : ℕ) (m t : Time) → m.ticks ≡ k → From B m → From B t → earlier m t ≡ ltb (raised_by B m.sec) (start_at B k t)
  unfolding start_at
  earlier_start k m t e f g =
      raised_earlier m t f g
      ∙ before_first (raised_by B m.sec) m.ticks (raised_by B t.sec) t.ticks
      ∙ ap (λ (j : ℕ). ltb (raised_by B m.sec) (first_second (raised_by B t.sec) t.ticks j)) e

  pub start_up : (k : ℕ) (a b : Time) → From B a → earlier b a ≡ false → start_at B k a ≤ start_at B k b
  unfolding start_at
  start_up k a b f h =
      first_up (raised_by B a.sec) a.ticks (raised_by B b.sec) b.ticks k (sym (raised_earlier b a (later_from b a f h) f) ∙ h)

-- inside of a window of records all are records
pub inside_valid : (from to m : Time) → is_record from ≡ true → is_record to ≡ true → m.ticks < per_second → Inside from to m → is_record m ≡ true
inside_valid from to m p q t (i, j) =
    let f : Within (2 ^ 41) from = good_within (2 ^ 41) from (lit< tt) p in
    let g : Within (2 ^ 41) to = good_within (2 ^ 41) to (lit< tt) q in
    within_good (2 ^ 41) m
    (record {
      low = omega (arith, not_earlier m from i, apart m.sec);
      high = omega (arith, not_later m to j, apart m.sec);
      below = t;
    })

module _ (B : ℕ) (p : ℕ → Bool) (k : ℕ) where
  -- a time that p names, at tick k
  abbrev pub Named-at : Time → Type 0
  Named-at m = (p (raised_by B m.sec) ≡ true) × (m.ticks ≡ k)

  module _ (from to : Time) (low : minus from.sec ≤ B) (order : earlier to from ≡ false) where
    ends : start_at B k from ≤ start_at B k to
    ends = start_up B k from to low order

    to_low : From B to
    to_low = later_from B to from low order

    pub listed_named : (m : Time) → IsListed (moments_in B p k from to) m → Named-at m × Inside from to m
    unfolding moments_in
    listed_named m (e, i) =
        let (x, (j, f)) = among_of (lowered_by B) m.sec (named_in p (start_at B k from) (start_at B k to)) i in
        let (lo, hi, n) = (right p (start_at B k from) (start_at B k to) ends).named x j in
        let r : raised_by B m.sec ≡ x = ap (raised_by B) (sym f) ∙ raised_lowered B x in
        let g : From B m = subst (λ (z : ℤ). minus z ≤ B) f (lowered_from B x) in (
          (ap p r ∙ n, e),
          (
            earlier_start B k m from e g low ∙ le-ltb (raised_by B m.sec) (start_at B k from) (omega arith),
            earlier_start B k m to e g to_low ∙ lt-ltb (raised_by B m.sec) (start_at B k to) (omega arith),
          ),
        )

    pub named_listed : (m : Time) → Named-at m → Inside from to m → IsListed (moments_in B p k from to) m
    unfolding moments_in
    named_listed m (n, e) (i, j) =
        let g : From B m = later_from B m from low i in
        let x = raised_by B m.sec in
        let lo : start_at B k from ≤ x = ltb-false x (start_at B k from) (sym (earlier_start B k m from e g low) ∙ i) in
        let hi : x < start_at B k to = ltb-true x (start_at B k to) (sym (earlier_start B k m to e g to_low) ∙ j) in (
          e,
          subst (λ (z : ℤ). Among z (map (lowered_by B) (named_in p (start_at B k from) (start_at B k to)))) (lowered_raised B m.sec g)
              (among_map (lowered_by B) ((right p (start_at B k from) (start_at B k to) ends).all x lo hi n)),
        )

    -- "The window takes its start and not its end": listed are exactly the named moments inside
    pub listed_exactly : (m : Time) → IsListed (moments_in B p k from to) m ↔ (Named-at m × Inside from to m)
    listed_exactly m = (listed_named m, λ h. named_listed m h.0 h.1)

    -- ascending, and each once
    pub ascends : Ascending Sooner (moments_in B p k from to).all
    unfolding moments_in
    ascends =
        ascends_map (lowered_by B) ◌<◌ Sooner (λ x y h. lt_z_at B x y (lowered_by B x) (lowered_by B y) (lower_is B x) (lower_is B y) ∙ lt-ltb x y h)
        (right p (start_at B k from) (start_at B k to) ends).ascends

  -- the list of a window followed by that of the adjoining one is the list of both
  pub adjoins : (a b c : Time) → minus a.sec ≤ B → earlier b a ≡ false → earlier c b ≡ false → moments_in B p k a c ≡ adjoined (moments_in B p k a b) (moments_in B p k b c)
  unfolding moments_in
  adjoins a b c low h i =
      ap (λ (l : List ℤ). record { ticks = k; all = l })
      (ap (map (lowered_by B)) (splice p (start_up B k a b low h) (start_up B k b c (later_from B b a low h) i))
      ∙ map-append (lowered_by B) (named_in p (start_at B k a) (start_at B k b)) (named_in p (start_at B k b) (start_at B k c)))
