-- A T-field that is all there keeps its rules, as the rung of 4 has them, exactly if none of its fields, one by one, is bad.
use mathlib.Core.Path.{◌≡◌, refl, sym, ap, ap₂, ◌∙◌}
use mathlib.Core.Bool.{Bool, true, false, cond, ◌&&◌}
use mathlib.Core.List.{List, [], ◌∷◌, ◌++◌}
use Prim.Native.Nat.{ℕ, zero, suc, ◌+◌, ◌≤◌}
use native.Mathlib.Omega.{arith}
use borrow.Author.Tests.{leb-true, le-leb, lt-ltb}
use lib.Dec.{leb, ltb}
use lib.ListN.{length, drop}
use Rattle.base.proofs.Bools.{and_false, and_yes, cond_yes}
use Rattle.octets.specs.Places.{number, all_good, octet_value, octet_good, bcd_value, bcd_good}
use Rattle.octets.specs.Counts.{count_of, count_at, bcd_at}
use Rattle.octets.proofs.Places.{bcd_rule, number_lt}
use Rattle.calendar.specs.Gregorian.{is_year, is_date, is_ordinal}
use Rattle.clock.specs.Clock.{clock_ok}
use Rattle.field.specs.Fields.{Field, field, first_bad, or_then}
use Rattle.field.specs.Rules.{is_month, is_day, is_day_of_year, is_hour, is_minute, is_second}
use Rattle.field.proofs.Laws.{is_nowhere, first_append, three_none, two_none, none_field, none_then, date_none, ordinal_none, clock_none}
use Rattle.cuc.specs.Cuc as U
use Rattle.cuc.specs.declared.Layout as UT
use Rattle.cuc.proofs.Layouts as UL
use Rattle.cds.specs.Cds as D
use Rattle.cds.specs.declared.Layout as DT
use Rattle.cds.proofs.Laws as DL
use Rattle.ccs.specs.Ccs as C
use Rattle.ccs.specs.declared.Layout as CT
use Rattle.pfield.specs.declared.Layout.{Layout}
use Rattle.pfield.specs.declared.Layout.TheVariants.{Cuc, Cds, Ccs}
use Rattle.pfield.proofs.Layouts.{is_layout_of}
use Rattle.codes.proofs.Fields.{width_some}
use Rattle.place.specs.Binary.{kept, number_in, any, cuc_fields, cds_fields, date_in, clock_in, segments_in, ccs_fields, fields_by, fields_at}
use Rattle.place.proofs.Whole.{all_there}
use Rattle.promises.specs.RungsBinary.{count_in, pairs_in, milli_in, part_in, part_good, date_good, clock_good, octets_of, field_good}
use Rattle.promises.proofs.RungsFields.{good_from_lem, part_is, octets_good, pairs_good}
use Rattle.promises.proofs.RungsReceiver.{width_octets}
use Rattle.std.specs.Prelude.{Result, Ok, Err}
use Rattle.base.specs.declared.Refusal.{Refusal}
use Rattle.base.specs.declared.Refusal.TheVariants as Why

-- ---- a run that is there is good, or bad
abbrev told : Bool → ℕ → Result ℕ Refusal
told g n = cond g (Ok n) (Err Why.Field)

module _ (b : ℕ) (v : ℕ → ℕ) (ok : ℕ → Bool) (widest : ℕ) (s : List ℕ) (at w : ℕ) (narrow : leb w widest ≡ true) (there : at + w ≤ length s) where
  run_told : count_of b v ok widest s at w ≡ told (all_good ok (drop at s) w) (number b v (drop at s) w)
  unfolding count_of
  run_told = cond_yes _ _ (and_yes _ narrow ∙ le-leb (at + w) (length s) there)

-- and keeps its rule if it is good and its number does
kept_told : (g : Bool) (n : ℕ) (rule : ℕ → Bool) → kept (told g n) rule ≡ g && rule n
kept_told true n rule = refl
kept_told false n rule = refl

kept_any : (g : Bool) (n : ℕ) → kept (told g n) any ≡ g
kept_any true n = refl
kept_any false n = refl

octets_told : (s : List ℕ) (at w : ℕ) → w ≤ 8 → at + w ≤ length s → count_at s at w ≡ told (all_good octet_good (drop at s) w) (count_in s at w)
octets_told s at w h k = run_told 256 octet_value octet_good 8 s at w (le-leb w 8 h) k

pairs_told : (s : List ℕ) (at w : ℕ) → w ≤ 9 → at + w ≤ length s → bcd_at s at w ≡ told (all_good bcd_good (drop at s) w) (pairs_in s at w)
pairs_told s at w h k = run_told 100 bcd_value bcd_good 9 s at w (le-leb w 9 h) k

-- ---- CUC
cuc_judged : (s : List ℕ) (at : ℕ) (l : UT.Layout) → U.is_layout l ≡ true → at + (l.coarse + l.fine) ≤ length s → is_nowhere (first_bad (cuc_fields s at l)) ≡ field_good s at (Cuc l)
cuc_judged s at l h k =
    let g = UL.layout_good l h in
    two_none 0 l.coarse (kept (count_at s at l.coarse) any) (kept (count_at s (at + l.coarse) l.fine) any)
    ∙ ap₂ ◌&&◌
    (ap (λ (c : Result ℕ Refusal). kept c any) (octets_told s at l.coarse (omega (arith, g.narrow)) (omega arith)) ∙ kept_any (all_good octet_good (drop at s) l.coarse) (count_in s at l.coarse))
    (ap (λ (c : Result ℕ Refusal). kept c any) (octets_told s (at + l.coarse) l.fine (omega (arith, g.short)) (omega arith)) ∙ kept_any (all_good octet_good (drop (at + l.coarse) s) l.fine) (count_in s (at + l.coarse) l.fine))
    ∙ sym (good_from_lem octet_good s at l.coarse l.fine)

-- ---- CDS
sorted_three : (a b c m p : Bool) → a && ((b && m) && (c && p)) ≡ a && b && c && (m && p)
sorted_three true true true m p = refl
sorted_three true true false true p = refl
sorted_three true true false false p = refl
sorted_three true false c m p = refl
sorted_three false b c m p = refl

cds_judged : (s : List ℕ) (at : ℕ) (l : DT.Layout) → D.is_layout l ≡ true → at + (l.day + 4 + l.part) ≤ length s → is_nowhere (first_bad (cds_fields s at l)) ≡ field_good s at (Cds l)
cds_judged s at l h k =
    let g = DL.layout_good l h in
    let a = all_good octet_good (drop at s) l.day in
    let b = all_good octet_good (drop (at + l.day) s) 4 in
    let c = all_good octet_good (drop (at + l.day + 4) s) l.part in
    let m = leb (milli_in s at l) 86400999 in
    three_none 0 l.day (l.day + 4) (kept (count_at s at l.day) any) (kept (count_at s (at + l.day) 4) (λ m. leb m 86400999)) (kept (count_at s (at + l.day + 4) l.part) (λ p. ltb p (D.parts l.part)))
    ∙ ap₂ ◌&&◌
    (ap (λ (c : Result ℕ Refusal). kept c any) (octets_told s at l.day (omega (arith, g.day)) (omega arith)) ∙ kept_any a (count_in s at l.day))
    (ap₂ ◌&&◌
    (ap (λ (c : Result ℕ Refusal). kept c (λ m. leb m 86400999)) (octets_told s (at + l.day) 4 (omega arith) (omega arith)) ∙ kept_told b _ (λ m. leb m 86400999))
    (ap (λ (c : Result ℕ Refusal). kept c (λ p. ltb p (D.parts l.part))) (octets_told s (at + l.day + 4) l.part (omega (arith, g.part)) (omega arith)) ∙ kept_told c _ (λ p. ltb p (D.parts l.part)) ∙ ap (λ (t : Bool). c && t) (part_is l.part (drop (at + l.day + 4) s))))
    ∙ sorted_three a b c m (part_good l.part (part_in s at l))
    ∙ ap (λ (t : Bool). t && (m && part_good l.part (part_in s at l))) (octets_good s at l h)

-- ---- CCS
-- the fields of a date of three numbers, of two, and of a clock
date_told : (a b c : Bool) (y m d : ℕ) → let Y = told a y in let M = told b m in
    is_nowhere (first_bad (field 0 (kept Y is_year) ∷ field 2 (kept M is_month) ∷ field 3 (kept (told c d) (is_day (number_in Y) (number_in M))) ∷ [])) ≡ a && b && c && is_date y m d
date_told true true true y m d = date_none 0 2 3 y m d
date_told true true false y m d = three_none 0 2 3 (is_year y) (is_month m) false ∙ and_false (is_year y) _ (and_false (is_month m) false refl)
date_told true false c y m d = three_none 0 2 3 (is_year y) false (kept (told c d) (is_day y 0)) ∙ and_false (is_year y) false refl
date_told false b c y m d = refl

ordinal_told : (a b : Bool) (y d : ℕ) → let Y = told a y in is_nowhere (first_bad (field 0 (kept Y is_year) ∷ field 2 (kept (told b d) (is_day_of_year (number_in Y))) ∷ [])) ≡ a && b && is_ordinal y d
ordinal_told true true y d = ordinal_none 0 2 y d
ordinal_told true false y d = two_none 0 2 (is_year y) false ∙ and_false (is_year y) false refl
ordinal_told false b y d = refl

clock_told_lem : (a b c : Bool) (h m x : ℕ) → let H = told a h in let M = told b m in
    is_nowhere (first_bad (field 4 (kept H is_hour) ∷ field 5 (kept M is_minute) ∷ field 6 (kept (told c x) (is_second (number_in H) (number_in M))) ∷ [])) ≡ a && b && c && clock_ok h m x
clock_told_lem true true true h m x = clock_none 4 5 6 h m x
clock_told_lem true true false h m x = three_none 4 5 6 (is_hour h) (is_minute m) false ∙ and_false (is_hour h) _ (and_false (is_minute m) false refl)
clock_told_lem true false c h m x = three_none 4 5 6 (is_hour h) false (kept (told c x) (is_second h 0)) ∙ and_false (is_hour h) false refl
clock_told_lem false b c h m x = refl

date_judged : (o : Bool) (s : List ℕ) (at : ℕ) → at + 4 ≤ length s → is_nowhere (first_bad (date_in o s at)) ≡ all_good bcd_good (drop at s) 4 && date_good o s at
date_judged true s at k =
    rw (pairs_told s at 2 (omega arith) (omega arith), pairs_told s (at + 2) 2 (omega arith) (omega arith)) (ordinal_told (all_good bcd_good (drop at s) 2) (all_good bcd_good (drop (at + 2) s) 2) (pairs_in s at 2) (pairs_in s (at + 2) 2))
    ∙ ap (λ (t : Bool). t && date_good true s at) (sym (good_from_lem bcd_good s at 2 2))
date_judged false s at k =
    rw (pairs_told s at 2 (omega arith) (omega arith), pairs_told s (at + 2) 1 (omega arith) (omega arith), pairs_told s (at + 3) 1 (omega arith) (omega arith))
    (date_told (all_good bcd_good (drop at s) 2) (all_good bcd_good (drop (at + 2) s) 1) (all_good bcd_good (drop (at + 3) s) 1) (pairs_in s at 2) (pairs_in s (at + 2) 1) (pairs_in s (at + 3) 1))
    ∙ ap (λ (t : Bool). t && all_good bcd_good (drop (at + 3) s) 1 && date_good false s at) (sym (good_from_lem bcd_good s at 2 1))
    ∙ ap (λ (t : Bool). t && date_good false s at) (sym (good_from_lem bcd_good s at 3 1))

clock_judged : (s : List ℕ) (at : ℕ) → at + 7 ≤ length s → is_nowhere (first_bad (clock_in s at)) ≡ all_good bcd_good (drop (at + 4) s) 3 && clock_good s (at + 4)
clock_judged s at k =
    let five : at + 5 ≡ at + 4 + 1 = omega arith in
    let six : at + 6 ≡ at + 4 + 2 = omega arith in
    rw (five, six, pairs_told s (at + 4) 1 (omega arith) (omega arith), pairs_told s (at + 4 + 1) 1 (omega arith) (omega arith), pairs_told s (at + 4 + 2) 1 (omega arith) (omega arith))
    (clock_told_lem (all_good bcd_good (drop (at + 4) s) 1) (all_good bcd_good (drop (at + 4 + 1) s) 1) (all_good bcd_good (drop (at + 4 + 2) s) 1) (pairs_in s (at + 4) 1) (pairs_in s (at + 4 + 1) 1) (pairs_in s (at + 4 + 2) 1))
    ∙ ap (λ (t : Bool). t && all_good bcd_good (drop (at + 4 + 2) s) 1 && clock_good s (at + 4)) (sym (good_from_lem bcd_good s (at + 4) 1 1))
    ∙ ap (λ (t : Bool). t && clock_good s (at + 4)) (sym (good_from_lem bcd_good s (at + 4) 2 1))

pair_kept : (s : List ℕ) (at : ℕ) → at + 1 ≤ length s → kept (bcd_at s at 1) (λ d. ltb d 100) ≡ all_good bcd_good (drop at s) 1
pair_kept s at k =
    ap (λ (c : Result ℕ Refusal). kept c (λ d. ltb d 100)) (pairs_told s at 1 (omega arith) k)
    ∙ kept_told (all_good bcd_good (drop at s) 1) (pairs_in s at 1) (λ d. ltb d 100)
    ∙ go (all_good bcd_good (drop at s) 1) refl
  where
    go : (g : Bool) → all_good bcd_good (drop at s) 1 ≡ g → g && ltb (pairs_in s at 1) 100 ≡ g
    go true e = lt-ltb (pairs_in s at 1) 100 (number_lt bcd_rule (drop at s) 1 e)
    go false e = refl

segments_judged : (s : List ℕ) (at i n : ℕ) → at + i + n ≤ length s → is_nowhere (first_bad (segments_in s at i n)) ≡ all_good bcd_good (drop (at + i) s) n
segments_judged s at i zero k = refl
segments_judged s at i (suc n) k =
    let e : at + suc i ≡ at + i + 1 = omega arith in
    let f : suc n ≡ 1 + n = omega arith in
    none_field i (kept (bcd_at s (at + i) 1) (λ d. ltb d 100)) (segments_in s at (suc i) n)
    ∙ ap₂ ◌&&◌ (pair_kept s (at + i) (omega arith)) (segments_judged s at (suc i) n (omega arith) ∙ ap (λ (j : ℕ). all_good bcd_good (drop j s) n) e)
    ∙ sym (ap (all_good bcd_good (drop (at + i) s)) f ∙ good_from_lem bcd_good s (at + i) 1 n)

sorted_date : (a d b c f : Bool) → a && d && (b && c && f) ≡ a && b && f && (d && c)
sorted_date true true true true true = refl
sorted_date true true true true false = refl
sorted_date true true true false true = refl
sorted_date true true true false false = refl
sorted_date true true false c f = refl
sorted_date true false true c true = refl
sorted_date true false true c false = refl
sorted_date true false false c f = refl
sorted_date false d b c f = refl

ccs_judged : (s : List ℕ) (at : ℕ) (l : CT.Layout) → C.is_layout l ≡ true → at + (7 + l.segments) ≤ length s → is_nowhere (first_bad (ccs_fields s at l)) ≡ field_good s at (Ccs l)
ccs_judged s at l h k =
    let o = l.ordinal in
    let n = l.segments in
    let a = all_good bcd_good (drop at s) 4 in
    let b = all_good bcd_good (drop (at + 4) s) 3 in
    let f = all_good bcd_good (drop (at + 7) s) n in
    let d = date_in o s at in
    let c = clock_in s at in
    let g = segments_in s at 7 n in
    ap is_nowhere (first_append d (c ++ g) ∙ ap (or_then (first_bad d)) (first_append c g))
    ∙ none_then (first_bad d) (or_then (first_bad c) (first_bad g))
    ∙ ap₂ ◌&&◌ (date_judged o s at (omega arith)) (none_then (first_bad c) (first_bad g) ∙ ap₂ ◌&&◌ (clock_judged s at (omega arith)) (segments_judged s at 7 n (omega arith)))
    ∙ sorted_date a (date_good o s at) b (clock_good s (at + 4)) f
    ∙ ap (λ (t : Bool). t && (date_good o s at && clock_good s (at + 4))) (pairs_good s at l h)

-- ---- whichever the code is
by_judged : (s : List ℕ) (at : ℕ) (l : Layout) → is_layout_of l ≡ true → at + octets_of l ≤ length s → is_nowhere (first_bad (fields_by s at l)) ≡ field_good s at l
by_judged s at (Cuc l) h k = cuc_judged s at l h k
by_judged s at (Cds l) h k = cds_judged s at l h k
by_judged s at (Ccs l) h k = ccs_judged s at l h k

pub fields_judged : (s : List ℕ) (at : ℕ) (l : Layout) → is_layout_of l ≡ true → leb (at + octets_of l) (length s) ≡ true → is_nowhere (first_bad (fields_at s at l)) ≡ field_good s at l
fields_judged s at l h k =
    let t : at + octets_of l ≤ length s = leb-true (at + octets_of l) (length s) k in
    ap (λ (fs : List Field). is_nowhere (first_bad fs)) (sym (all_there s at l (width_some l h) (omega (arith, width_octets l h)))) ∙ by_judged s at l h t
