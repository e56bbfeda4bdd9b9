-- A field that can be read and keeps its rule.
use mathlib.Core.Path.{◌≡◌, refl, sym}
use mathlib.Core.Bool.{Bool, true, false, cond}
use mathlib.Core.List.{List, [], ◌∷◌}
use Prim.Native.Nat.{ℕ, ◌+◌, ◌-◌, ◌<◌, ◌≤◌}
use native.Mathlib.Omega.{arith}
use borrow.Author.Tests.{leb-true, lt-leb}
use lib.Dec.{leb, ltb}
use lib.ListN.{length, get_or}
use Rattle.std.specs.Prelude.{Result, Ok, Err, Some, None}
use Rattle.std.specs.Result.{result_unwrap_or}
use Rattle.base.specs.declared.Refusal.{Refusal}
use Rattle.base.proofs.Bools.{and_true, and_false}
use Rattle.octets.specs.Counts.{count_at}
use Rattle.octets.proofs.Counts.{never_refused}
use Rattle.calendar.specs.Gregorian.{kind, row, year_length, month_length, is_year}
use Rattle.calendar.proofs.Years.{kind_lt}
use Rattle.calendar.proofs.Rows.{length_in}
use Rattle.field.specs.Fields.{field, first_bad}
use Rattle.field.specs.Rules.{is_month, is_day, is_day_of_year, date_fields, ordinal_fields}
use Rattle.cds.specs.Cds.{parts}
use Rattle.cds.specs.declared.Layout.{Layout}
use Rattle.place.specs.Binary.{kept, number_in, any, cds_fields}

-- octets that are there are a count
pub octets_kept : (s : List ℕ) (at w : ℕ) → ((i : ℕ) → get_or s i 0 < 256) → w ≤ 8 → at + w ≤ length s → kept (count_at s at w) any ≡ true
octets_kept s at w b h l = go (count_at s at w) refl
  where
    go : (c : Result ℕ Refusal) → count_at s at w ≡ c → kept c any ≡ true
    go (Ok n) e = refl
    go (Err why) e = absurd (never_refused s at w h l b why e)

-- ---- CDS
module _ (s : List ℕ) (at : ℕ) (l : Layout) (day : kept (count_at s at l.day) any ≡ true) where
  abbrev milli : Bool
  milli = kept (count_at s (at + l.day) 4) (λ m. leb m 86400999)

  abbrev part : Bool
  part = kept (count_at s (at + l.day + 4) l.part) (λ p. ltb p (parts l.part))

  pub milli_bad : milli ≡ false → Some l.day ≡ first_bad (cds_fields s at l)
  milli_bad h = rw (day, h)

  pub part_bad : milli ≡ true → part ≡ false → Some (l.day + 4) ≡ first_bad (cds_fields s at l)
  part_bad h k = rw (day, h, k)

  pub all_good_lem : milli ≡ true → part ≡ true → None ≡ first_bad (cds_fields s at l)
  all_good_lem h k = rw (day, h, k)

-- ---- dates and clocks
-- a field's number, or the greatest u64, which no rule takes: so the tests of ranges are the tests of digits too
abbrev most : ℕ
most = 18446744073709551615

abbrev pub number_of : Result ℕ Refusal → ℕ
number_of r = result_unwrap_or r 18446744073709551615

pub kept_as : (r : Result ℕ Refusal) (rule : ℕ → Bool) → rule most ≡ false → kept r rule ≡ rule (number_of r)
kept_as (Ok n) rule e = refl
kept_as (Err why) rule e = sym e

month_short : (y m : ℕ) → month_length y m ≤ 31
unfolding month_length
month_short y m = go (is_month m) refl
  where
    go : (t : Bool) → is_month m ≡ t → cond t (get_or (row (kind y)) (m - 1) 0) 0 ≤ 31
    go true e =
        let (a, b) = and_true (leb 1 m) (leb m 12) e in
        (length_in (kind y) (kind_lt y) (m - 1) (omega (arith, leb-true 1 m a, leb-true m 12 b))).1
    go false e = omega arith

no_day : (y m : ℕ) → is_day y m most ≡ false
no_day y m = and_false (leb 1 most) (leb most (month_length y m)) (lt-leb most (month_length y m) (omega (arith, month_short y m)))

no_day_of_year : (y : ℕ) → is_day_of_year y most ≡ false
no_day_of_year y = and_false (leb 1 most) (leb most (year_length y)) (lt-leb most (year_length y) (omega (arith, kind_lt y)))

pub date_read : (y m d : Result ℕ Refusal) → first_bad (date_fields 0 2 3 (number_of y) (number_of m) (number_of d)) ≡ first_bad (field 0 (kept y is_year) ∷ field 2 (kept m is_month) ∷ field 3 (kept d (is_day (number_in y) (number_in m))) ∷ [])
date_read (Ok y) (Ok m) d = rw (kept_as d (is_day y m) (no_day y m))
date_read (Ok y) (Err why) d = refl
date_read (Err why) m d = refl

pub ordinal_read : (y d : Result ℕ Refusal) → first_bad (ordinal_fields 0 2 (number_of y) (number_of d)) ≡ first_bad (field 0 (kept y is_year) ∷ field 2 (kept d (is_day_of_year (number_in y))) ∷ [])
ordinal_read (Ok y) d = rw (kept_as d (is_day_of_year y) (no_day_of_year y))
ordinal_read (Err why) d = refl
