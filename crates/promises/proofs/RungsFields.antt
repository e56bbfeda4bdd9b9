-- The T-field of each code is refused by its rungs, by any table.
use mathlib.Core.Path.{◌≡◌, refl, sym, ap, ◌∙◌}
use mathlib.Core.Bool.{Bool, true, false, cond, ◌&&◌}
use mathlib.Core.List.{List, [], ◌∷◌}
use Prim.Native.Nat.{ℕ, suc, ◌+◌, ◌/◌, ◌≤◌, ◌<◌}
use native.Mathlib.Omega.{arith}
use lib.Dec.{leb, ltb, eqb}
use lib.IntN.{ℤ, pos, ◌+ℤ◌}
use lib.ListN.{length, get_or, drop}
use lib.Seq.{get_or-drop, drop-drop}
use borrow.Author.Tests.{leb-true, le-leb, ltb-true, lt-ltb, eqb-true}
use Rattle.base.specs.Outcome.{Outcome, done, need, and_then, given}
use Rattle.base.proofs.Bools.{and_true}
use Rattle.base.proofs.Ladders.{need_yes, needs_yes}
use Rattle.scale.specs.Time.{Time}
use Rattle.octets.specs.Places.{number, all_good, be, octet_value, octet_good, bcd_value, bcd_good}
use Rattle.octets.specs.Counts.{count_of, count_at}
use Rattle.octets.proofs.Places.{good_split, all_good_lem}
use Rattle.calendar.specs.Gregorian.{index_of_date, index_of_ordinal, day_of_date, day_of_ordinal, from_epoch}
use Rattle.clock.specs.Clock.{clock_of}
use Rattle.clock.proofs.Laws.{shows}
use Rattle.leap.specs.Table.{Table}
use Rattle.moment.specs.Moment.{moment}
use Rattle.moment.specs.declared.Moment.{Moment}
use Rattle.cuc.specs.Cuc as U
use Rattle.cuc.specs.declared.Layout.{Layout as CucLayout}
use Rattle.cuc.proofs.Layouts as UL
use Rattle.cds.specs.Cds as D
use Rattle.cds.specs.declared.Layout.{Layout as CdsLayout}
use Rattle.cds.proofs.Laws as DL
use Rattle.ccs.specs.Ccs as C
use Rattle.ccs.specs.declared.Layout.{Layout as CcsLayout}
use Rattle.ccs.proofs.Rungs as CR
use Rattle.codes.specs.Reading.{field_of}
use Rattle.pfield.specs.declared.Layout.{Layout}
use Rattle.pfield.specs.declared.Layout.TheVariants.{Cuc, Cds, Ccs}
use Rattle.pfield.proofs.Layouts.{is_layout_of}
use Rattle.promises.specs.RungsBinary.{count_in, pairs_in, milli_in, part_in, part_good, date_good, index_in, clock_good, second_in, octets_of, field_good, field_rungs}
use Rattle.promises.specs.Rungs.{Rung, rung, all_hold}
use Rattle.promises.proofs.Rungs.{verdict, judged, climb, step, need_both, then_need, rung_so, both_ways, given_need}
use Rattle.promises.proofs.RungsCalendar.{read_rungs}
use Rattle.base.specs.Said.{said}
use Rattle.std.specs.Prelude.{Result, Ok, Err}
use Rattle.base.specs.declared.Refusal.{Refusal}
use Rattle.base.specs.declared.Refusal.TheVariants.{Short, Field}

-- ---- runs of elements
-- two neighbouring runs are one
pub good_from_lem : (ok : ℕ → Bool) (s : List ℕ) (at w k : ℕ) → all_good ok (drop at s) (w + k) ≡ all_good ok (drop at s) w && all_good ok (drop (at + w) s) k
good_from_lem ok s at w k =
    good_split ok (drop at s) w k ∙ ap (λ (t : List ℕ). all_good ok (drop at s) w && all_good ok t k) (drop-drop w at s)

-- the octets of a slice of bytes keep their rule, so that a count is never 4 of itself
pub bytes_good : (s : List ℕ) (at w : ℕ) → ((i : ℕ) → get_or s i 0 < 256) → all_good octet_good (drop at s) w ≡ true
bytes_good s at w h = all_good_lem octet_good (drop at s) w (λ i l. rw get_or-drop (lt-ltb (get_or s (at + i) 0) 256 (h (at + i))))

-- a run that is not too wide: what runs out is 1, and then an element that breaks its rule 4
module _ (b : ℕ) (v : ℕ → ℕ) (ok : ℕ → Bool) (widest : ℕ) (s : List ℕ) (at w : ℕ) (narrow : leb w widest ≡ true) where
  pub run_climbs : said (count_of b v ok widest s at w) ≡ climb (rung 1 (leb (at + w) (length s)) ∷ rung 4 (all_good ok (drop at s) w) ∷ []) (number b v (drop at s) w)
  unfolding count_of
  run_climbs =
      ap (λ (t : Bool). said (cond (t && leb (at + w) (length s)) (cond (all_good ok (drop at s) w) (Ok (number b v (drop at s) w)) (Err Field)) (Err Short))) narrow
      ∙ go (leb (at + w) (length s)) (all_good ok (drop at s) w)
    where
      go : (t g : Bool) → said (cond t (cond g (Ok (number b v (drop at s) w)) (Err Field)) (Err Short)) ≡ need t 1 (need g 4 (done (number b v (drop at s) w)))
      go true true = refl
      go true false = refl
      go false g = refl

  -- one that is there
  pub run_there : leb (at + w) (length s) ≡ true → said (count_of b v ok widest s at w) ≡ need (all_good ok (drop at s) w) 4 (done (number b v (drop at s) w))
  run_there h = run_climbs ∙ need_yes 1 _ h

  -- and what comes after it
  pub run_then : {B : Type 0} (k : ℕ → Outcome B) → leb (at + w) (length s) ≡ true → and_then (said (count_of b v ok widest s at w)) k ≡ need (all_good ok (drop at s) w) 4 (k (number b v (drop at s) w))
  run_then k h =
      ap (λ (y : Outcome ℕ). and_then y k) (run_there h) ∙ then_need (all_good ok (drop at s) w) 4 (number b v (drop at s) w) k

-- ---- CUC
-- the time that the two counts name
abbrev pub cuc_named : List ℕ → ℕ → CucLayout → Time
cuc_named s at l = U.time_of l (count_in s at l.coarse) (count_in s (at + l.coarse) l.fine)

pub cuc_climbs : (s : List ℕ) (at : ℕ) (l : CucLayout) → U.is_layout l ≡ true → U.field s at l ≡ climb (rung 1 (leb (at + (l.coarse + l.fine)) (length s)) ∷ rung 4 (all_good octet_good (drop at s) (l.coarse + l.fine)) ∷ []) (cuc_named s at l)
unfolding U.field U.is_layout
cuc_climbs s at l h =
    needs_yes (U.is_width l) _ 3 7 _ h
    ∙ ap (λ (w : ℕ). need (leb (at + w) (length s)) 1 (counts (count_at s at l.coarse))) (UL.width_is l h)
    ∙ rung_so (leb (at + (l.coarse + l.fine)) (length s)) 1 (λ t.
    let g = UL.layout_good l h in
    let k : at + (l.coarse + l.fine) ≤ length s = leb-true _ _ t in
    let g1 = all_good octet_good (drop at s) l.coarse in
    let g2 = all_good octet_good (drop (at + l.coarse) s) l.fine in
    run_then 256 octet_value octet_good 8 s at l.coarse (le-leb l.coarse 8 (omega (arith, g.narrow)))
    (λ c. given (U.time_of l c) (said (count_at s (at + l.coarse) l.fine))) (le-leb (at + l.coarse) (length s) (omega arith))
    ∙ ap (λ (y : Outcome ℕ). need g1 4 (given (U.time_of l (count_in s at l.coarse)) y))
    (run_there 256 octet_value octet_good 8 s (at + l.coarse) l.fine (le-leb l.fine 8 (omega (arith, g.short))) (le-leb (at + l.coarse + l.fine) (length s) (omega arith)))
    ∙ ap (need g1 4) (given_need (U.time_of l (count_in s at l.coarse)) g2 4 (done (count_in s (at + l.coarse) l.fine)))
    ∙ need_both g1 g2 4 (done (cuc_named s at l))
    ∙ ap (λ (b : Bool). need b 4 (done (cuc_named s at l))) (sym (good_from_lem octet_good s at l.coarse l.fine)))
  where
    counts : Result ℕ Refusal → Outcome Time
    counts c = and_then (said c) (λ c. given (U.time_of l c) (said (count_at s (at + l.coarse) l.fine)))

cuc_rungs : (t : Table) (s : List ℕ) (at : ℕ) (l : CucLayout) → U.is_layout l ≡ true → verdict (U.field s at l) ≡ judged (field_rungs t s at (Cuc l))
cuc_rungs t s at l h =
    let w = l.coarse + l.fine in
    ap verdict (cuc_climbs s at l h)
    ∙ step (leb (at + w) (length s)) 1 _ _ (λ k. step (all_good octet_good (drop at s) w) 4 _ _ (λ g. refl))

-- a T-field that is all there, and whose fields keep their rules
abbrev field_up_to4 : List ℕ → ℕ → Layout → List Rung
field_up_to4 s at l = rung 1 (leb (at + octets_of l) (length s)) ∷ rung 4 (field_good s at l) ∷ []

-- ---- CDS
lt_le : (p n : ℕ) → ltb p (suc n) ≡ leb p n
lt_le p n =
    both_ways (ltb p (suc n)) (leb p n) (λ h. le-leb p n (omega (arith, ltb-true p (suc n) h))) (λ h. lt-ltb p (suc n) (omega (arith, leb-true p n h)))

pub part_is : (w : ℕ) (s : List ℕ) → ltb (be s w) (D.parts w) ≡ part_good w (be s w)
part_is w s = go (eqb w 0) (eqb w 2) refl
  where
    go : (a b : Bool) → eqb w 0 ≡ a → ltb (be s w) (cond a 1 (cond b 1000 1000000000)) ≡ cond a true (cond b (leb (be s w) 999) (leb (be s w) 999999999))
    go true b e = let z : w ≡ 0 = eqb-true w 0 e in rw z
    go false true e = lt_le (be s w) 999
    go false false e = lt_le (be s w) 999999999

needs_five : {A : Type 0} (a b c d e : Bool) (n : ℕ) (x : Outcome A) → need a n (need b n (need c n (need d n (need e n x)))) ≡ need (a && b && c && (d && e)) n x
needs_five true true true true e n x = refl
needs_five true true true false e n x = refl
needs_five true true false d e n x = refl
needs_five true false c d e n x = refl
needs_five false b c d e n x = refl

module _ (s : List ℕ) (at : ℕ) (l : CdsLayout) (h : D.is_layout l ≡ true) where
  pub octets_good : all_good octet_good (drop at s) l.day && all_good octet_good (drop (at + l.day) s) 4 && all_good octet_good (drop (at + l.day + 4) s) l.part ≡ all_good octet_good (drop at s) (l.day + 4 + l.part)
  octets_good =
      let e : at + (l.day + 4) ≡ at + l.day + 4 = omega arith in
      sym (good_from_lem octet_good s at (l.day + 4) l.part
      ∙ ap (λ (n : ℕ). all_good octet_good (drop at s) (l.day + 4) && all_good octet_good (drop n s) l.part) e
      ∙ ap (λ (t : Bool). t && all_good octet_good (drop (at + l.day + 4) s) l.part) (good_from_lem octet_good s at l.day 4))

  -- the moment that the fields name
  abbrev cds_named : Moment
  cds_named = moment (l.epoch +ℤ pos (count_in s at l.day)) (milli_in s at l / 1000) (D.fraction l.part (milli_in s at l) (part_in s at l))

  abbrev cds_counts : Outcome Moment
  cds_counts = and_then (said (count_at s at l.day)) (λ d. and_then (said (count_at s (at + l.day) 4)) (λ m. and_then (said (count_at s (at + l.day + 4) l.part)) (λ p. D.moment_by l d m p)))

  cds_moment : leb (at + (l.day + 4 + l.part)) (length s) ≡ true → cds_counts ≡ need (field_good s at (Cds l)) 4 (done cds_named)
  unfolding D.moment_by
  cds_moment t =
      let g = DL.layout_good l h in
      let k : at + (l.day + 4 + l.part) ≤ length s = leb-true _ _ t in
      let g1 = all_good octet_good (drop at s) l.day in
      let g2 = all_good octet_good (drop (at + l.day) s) 4 in
      let g3 = all_good octet_good (drop (at + l.day + 4) s) l.part in
      run_then 256 octet_value octet_good 8 s at l.day (le-leb l.day 8 (omega (arith, g.day)))
      (λ d. and_then (said (count_at s (at + l.day) 4)) (λ m. and_then (said (count_at s (at + l.day + 4) l.part)) (λ p. D.moment_by l d m p)))
      (le-leb (at + l.day) (length s) (omega arith))
      ∙ ap (need g1 4) (run_then 256 octet_value octet_good 8 s (at + l.day) 4 refl
      (λ m. and_then (said (count_at s (at + l.day + 4) l.part)) (λ p. D.moment_by l (count_in s at l.day) m p))
      (le-leb (at + l.day + 4) (length s) (omega arith)))
      ∙ ap (λ (y : Outcome Moment). need g1 4 (need g2 4 y)) (run_then 256 octet_value octet_good 8 s (at + l.day + 4) l.part (le-leb l.part 8 (omega (arith, g.part)))
      (λ p. D.moment_by l (count_in s at l.day) (milli_in s at l) p)
      (le-leb (at + l.day + 4 + l.part) (length s) (omega arith)))
      ∙ needs_five g1 g2 g3 (leb (milli_in s at l) 86400999) (ltb (part_in s at l) (D.parts l.part)) 4 (done cds_named)
      ∙ ap (λ (b : Bool). need (b && (leb (milli_in s at l) 86400999 && ltb (part_in s at l) (D.parts l.part))) 4 (done cds_named)) octets_good
      ∙ ap (λ (b : Bool). need (all_good octet_good (drop at s) (l.day + 4 + l.part) && (leb (milli_in s at l) 86400999 && b)) 4 (done cds_named)) (part_is l.part (drop (at + l.day + 4) s))

  cds_climbs : D.field s at l ≡ climb (field_up_to4 s at (Cds l)) cds_named
  unfolding D.field D.is_layout
  cds_climbs =
      needs_yes (D.is_width l) _ 3 7 _ h
      ∙ ap (λ (w : ℕ). need (leb (at + w) (length s)) 1 cds_counts) (DL.width_is l h)
      ∙ rung_so (leb (at + (l.day + 4 + l.part)) (length s)) 1 cds_moment

  cds_low : all_hold (field_up_to4 s at (Cds l)) ≡ true → leb (milli_in s at l / 1000) 86400 ≡ true
  cds_low a =
      let (_, b) = and_true (leb (at + (l.day + 4 + l.part)) (length s)) _ a in
      let (c, _) = and_true (field_good s at (Cds l)) true b in
      let (_, d) = and_true (all_good octet_good (drop at s) (l.day + 4 + l.part)) _ c in
      let m : milli_in s at l ≤ 86400999 = leb-true _ _ (and_true (leb (milli_in s at l) 86400999) _ d).0 in
      le-leb (milli_in s at l / 1000) 86400 (omega arith)

-- ---- CCS
pairs_then : {B : Type 0} (s : List ℕ) (at w : ℕ) → leb w 9 ≡ true → (k : ℕ → Outcome B) → at + w ≤ length s → and_then (C.pairs s at w) k ≡ need (all_good bcd_good (drop at s) w) 4 (k (pairs_in s at w))
pairs_then s at w n k t = run_then 100 bcd_value bcd_good 9 s at w n k (le-leb (at + w) (length s) t)

date_climbs : (o : Bool) (s : List ℕ) (at : ℕ) → at + 4 ≤ length s → C.day_at o s at ≡ need (all_good bcd_good (drop at s) 4 && date_good o s at) 4 (done (from_epoch (index_in o s at)))
unfolding C.day_at index_of_ordinal index_of_date
date_climbs true s at t =
    let a = all_good bcd_good (drop at s) 2 in
    let b = all_good bcd_good (drop (at + 2) s) 2 in
    let x = done (from_epoch (index_in true s at)) in
    pairs_then s at 2 refl (λ y. and_then (C.pairs s (at + 2) 2) (λ d. day_of_ordinal y d)) (omega arith)
    ∙ ap (need a 4) (pairs_then s (at + 2) 2 refl (λ d. day_of_ordinal (pairs_in s at 2) d) (omega arith))
    ∙ need_both a b 4 _
    ∙ ap (need (a && b) 4) (given_need from_epoch (date_good true s at) 4 (done (index_in true s at)))
    ∙ need_both (a && b) (date_good true s at) 4 x
    ∙ ap (λ (g : Bool). need (g && date_good true s at) 4 x) (sym (good_from_lem bcd_good s at 2 2))
date_climbs false s at t =
    let a = all_good bcd_good (drop at s) 2 in
    let b = all_good bcd_good (drop (at + 2) s) 1 in
    let c = all_good bcd_good (drop (at + 3) s) 1 in
    let x = done (from_epoch (index_in false s at)) in
    pairs_then s at 2 refl (λ y. and_then (C.pairs s (at + 2) 1) (λ m. and_then (C.pairs s (at + 3) 1) (λ d. day_of_date y m d))) (omega arith)
    ∙ ap (need a 4) (pairs_then s (at + 2) 1 refl (λ m. and_then (C.pairs s (at + 3) 1) (λ d. day_of_date (pairs_in s at 2) m d)) (omega arith))
    ∙ need_both a b 4 _
    ∙ ap (need (a && b) 4) (pairs_then s (at + 3) 1 refl (λ d. day_of_date (pairs_in s at 2) (pairs_in s (at + 2) 1) d) (omega arith))
    ∙ need_both (a && b) c 4 _
    ∙ ap (need (a && b && c) 4) (given_need from_epoch (date_good false s at) 4 (done (index_in false s at)))
    ∙ need_both (a && b && c) (date_good false s at) 4 x
    ∙ ap (λ (g : Bool). need (g && c && date_good false s at) 4 x) (sym (good_from_lem bcd_good s at 2 1))
    ∙ ap (λ (g : Bool). need (g && date_good false s at) 4 x) (sym (good_from_lem bcd_good s at 3 1))

clock_climbs : (s : List ℕ) (at : ℕ) → at + 3 ≤ length s → C.clock_at s at ≡ need (all_good bcd_good (drop at s) 3 && clock_good s at) 4 (done (second_in s at))
unfolding C.clock_at
clock_climbs s at t =
    let a = all_good bcd_good (drop at s) 1 in
    let b = all_good bcd_good (drop (at + 1) s) 1 in
    let c = all_good bcd_good (drop (at + 2) s) 1 in
    let x = done (second_in s at) in
    pairs_then s at 1 refl (λ h. and_then (C.pairs s (at + 1) 1) (λ m. and_then (C.pairs s (at + 2) 1) (λ x. clock_of h m x))) (omega arith)
    ∙ ap (need a 4) (pairs_then s (at + 1) 1 refl (λ m. and_then (C.pairs s (at + 2) 1) (λ x. clock_of (pairs_in s at 1) m x)) (omega arith))
    ∙ need_both a b 4 _
    ∙ ap (need (a && b) 4) (pairs_then s (at + 2) 1 refl (λ x. clock_of (pairs_in s at 1) (pairs_in s (at + 1) 1) x) (omega arith))
    ∙ need_both (a && b) c 4 _
    ∙ need_both (a && b && c) (clock_good s at) 4 x
    ∙ ap (λ (g : Bool). need (g && c && clock_good s at) 4 x) (sym (good_from_lem bcd_good s at 1 1))
    ∙ ap (λ (g : Bool). need (g && clock_good s at) 4 x) (sym (good_from_lem bcd_good s at 2 1))

-- digits first, then ranges
sorted : {A : Type 0} (a d b c f : Bool) (n : ℕ) (x : Outcome A) → need (a && d) n (need (b && c) n (need f n x)) ≡ need (a && b && f && (d && c)) n x
sorted true true true true true n x = refl
sorted true true true true false n x = refl
sorted true true true false true n x = refl
sorted true true true false false n x = refl
sorted true true false c f n x = refl
sorted true false true c true n x = refl
sorted true false true c false n x = refl
sorted true false false c f n x = refl
sorted false d b c f n x = refl

module _ (s : List ℕ) (at : ℕ) (l : CcsLayout) (h : C.is_layout l ≡ true) where
  pub pairs_good : all_good bcd_good (drop at s) 4 && all_good bcd_good (drop (at + 4) s) 3 && all_good bcd_good (drop (at + 7) s) l.segments ≡ all_good bcd_good (drop at s) (7 + l.segments)
  pairs_good =
      sym (good_from_lem bcd_good s at 7 l.segments
      ∙ ap (λ (t : Bool). t && all_good bcd_good (drop (at + 7) s) l.segments) (good_from_lem bcd_good s at 4 3))

  abbrev ccs_named : Moment
  ccs_named = moment (from_epoch (index_in l.ordinal s at)) (second_in s (at + 4)) (C.ticks_of l.segments (pairs_in s (at + 7) l.segments))

  -- what is read of a day, and of a second of it
  abbrev ccs_on : ℤ → ℕ → Outcome Moment
  ccs_on d x = and_then (C.pairs s (at + 7) l.segments) (λ f. done (moment d x (C.ticks_of l.segments f)))

  abbrev ccs_from : ℤ → Outcome Moment
  ccs_from d = and_then (C.clock_at s (at + 4)) (λ x. ccs_on d x)

  ccs_moment : leb (at + (7 + l.segments)) (length s) ≡ true → and_then (C.day_at l.ordinal s at) ccs_from ≡ need (field_good s at (Ccs l)) 4 (done ccs_named)
  ccs_moment t =
      let few : l.segments ≤ 6 = leb-true _ _ h in
      let k : at + (7 + l.segments) ≤ length s = leb-true _ _ t in
      let n = from_epoch (index_in l.ordinal s at) in
      let z = second_in s (at + 4) in
      let a = all_good bcd_good (drop at s) 4 in
      let b = all_good bcd_good (drop (at + 4) s) 3 in
      let f = all_good bcd_good (drop (at + 7) s) l.segments in
      let d = date_good l.ordinal s at in
      let c = clock_good s (at + 4) in
      ap (λ (y : Outcome ℤ). and_then y ccs_from) (date_climbs l.ordinal s at (omega arith))
      ∙ then_need (a && d) 4 n ccs_from
      ∙ ap (λ (y : Outcome ℕ). need (a && d) 4 (and_then y (ccs_on n))) (clock_climbs s (at + 4) (omega arith))
      ∙ ap (need (a && d) 4) (then_need (b && c) 4 z (ccs_on n))
      ∙ ap (λ (y : Outcome Moment). need (a && d) 4 (need (b && c) 4 y)) (pairs_then s (at + 7) l.segments (le-leb l.segments 9 (omega arith)) (λ f. done (moment n z (C.ticks_of l.segments f))) (omega arith))
      ∙ sorted a d b c f 4 (done ccs_named)
      ∙ ap (λ (g : Bool). need (g && (d && c)) 4 (done ccs_named)) pairs_good

  ccs_climbs : C.field s at l ≡ climb (field_up_to4 s at (Ccs l)) ccs_named
  unfolding C.field
  ccs_climbs =
      need_yes 3 _ h
      ∙ ap (λ (w : ℕ). need (leb (at + w) (length s)) 1 (and_then (C.day_at l.ordinal s at) ccs_from)) (CR.width_is l (leb-true _ _ h))
      ∙ rung_so (leb (at + (7 + l.segments)) (length s)) 1 ccs_moment

  ccs_low : all_hold (field_up_to4 s at (Ccs l)) ≡ true → leb (second_in s (at + 4)) 86400 ≡ true
  ccs_low a =
      let (_, b) = and_true (leb (at + (7 + l.segments)) (length s)) _ a in
      let (c, _) = and_true (field_good s at (Ccs l)) true b in
      let (_, d) = and_true (all_good bcd_good (drop at s) (7 + l.segments)) _ c in
      let (_, e) = and_true (date_good l.ordinal s at) _ d in
      le-leb (second_in s (at + 4)) 86400 (shows (pairs_in s (at + 4) 1) (pairs_in s (at + 4 + 1) 1) (pairs_in s (at + 4 + 2) 1) e).low

-- ---- whichever the code is
pub field_rungs_lem : (t : Table) (s : List ℕ) (at : ℕ) (l : Layout) → is_layout_of l ≡ true → verdict (field_of t s at l) ≡ judged (field_rungs t s at l)
field_rungs_lem t s at (Cuc l) h = cuc_rungs t s at l h
field_rungs_lem t s at (Cds l) h = read_rungs t (D.field s at l) (field_up_to4 s at (Cds l)) (cds_named s at l h) (cds_climbs s at l h) (cds_low s at l h)
field_rungs_lem t s at (Ccs l) h = read_rungs t (C.field s at l) (field_up_to4 s at (Ccs l)) (ccs_named s at l h) (ccs_climbs s at l h) (ccs_low s at l h)
