-- ASCII time codes A and B (document 01, "The codes"): which moment of UTC a text names, and which text names a moment. No table is asked.
use Rattle.std.specs.Prelude.{◌≡◌, Bool, true, false, cond, not, List, [], ◌∷◌, ◌++◌, ℕ, zero, suc, ◌+◌, ◌-◌, ◌*◌, ◌/◌, ◌%◌, ◌^◌, leb, eqb, length, get_or, drop}
use Rattle.base.specs.Outcome.{Outcome, done, need, and_then}
use Rattle.scale.specs.Time.{per_second}
use Rattle.octets.specs.Places.{decimal_of, digits}
use Rattle.calendar.specs.Gregorian.{ordinal_on, date_in, index_of_date, index_of_ordinal, from_epoch, index_of_day}
use Rattle.clock.specs.Clock.{clock_of, minute_of}
use Rattle.moment.specs.Decimal.{ticks_of}
use Rattle.moment.specs.Moment.{moment, is_moment}
use Rattle.moment.specs.declared.Moment.{Moment}
use Rattle.shape.specs.Shapes.{shaped}
use Rattle.ascii.specs.Shapes.{code_shapes}
use Rattle.ascii.specs.declared.Layout.{Layout}

-- ---- layouts: "ASCII A or B, digits 0 to 12, Z or none"
abbrev pub is_layout : Layout → Bool
is_layout l = leb l.digits 12

-- how long a code is without fraction and Z
abbrev pub front_of : Bool → ℕ
front_of ordinal = cond ordinal 17 19

-- "With 0 digits there is no period"
abbrev pub part_size : ℕ → ℕ
part_size d = cond (eqb d 0) 0 (d + 1)

abbrev pub bit : Bool → ℕ
bit true = 1
bit false = 0

-- how long a code is; 0 where the layout is none
unfoldable pub width : Layout → ℕ
width l = cond (is_layout l) (front_of l.ordinal + part_size l.digits + bit l.zone) 0

-- the layout of a text of right shape: form A has its second dash, Z stands last, and what is left past the period is the fraction
unfoldable pub layout_of : List ℕ → Layout
layout_of s =
    let ordinal = not (eqb (get_or s 7 0) 45) in
    let zone = eqb (get_or s (length s - 1) 0) 90 in
    record { ordinal = ordinal; digits = length s - bit zone - (front_of ordinal + 1); zone = zone }

-- ---- reading
-- the number in w digits from a place on
abbrev pub number_at : List ℕ → ℕ → ℕ → ℕ
number_at s at w = decimal_of (drop at s) w

-- the index of the day that a date names; a bad date is 4
unfoldable pub day_at : Bool → List ℕ → Outcome ℕ
day_at true s = index_of_ordinal (number_at s 0 4) (number_at s 5 3)
day_at false s = index_of_date (number_at s 0 4) (number_at s 5 2) (number_at s 8 2)

-- the second of the day that a clock from a place on shows
unfoldable pub clock_at : List ℕ → ℕ → Outcome ℕ
clock_at s at = clock_of (number_at s at 2) (number_at s (at + 3) 2) (number_at s (at + 6) 2)

-- the moment that the fields name; a field out of its range is 4
unfoldable pub fields_of : Layout → List ℕ → Outcome Moment
fields_of l s =
    and_then (day_at l.ordinal s) (λ day.
    and_then (clock_at s (front_of l.ordinal - 8)) (λ second.
    done (moment (from_epoch day) second (ticks_of l.digits (number_at s (front_of l.ordinal + 1) l.digits)))))

-- "ASCII is empty" 1; "a field .. character or length breaks its rule" 4, the shape before the ranges. 5 and 6 are judged above, by a table
unfoldable pub text : List ℕ → Outcome Moment
text s = need (leb 1 (length s)) 1 (need (shaped code_shapes s) 4 (fields_of (layout_of s) s))

-- ---- writing
-- a character and w digits
abbrev pub lead : ℕ → ℕ → ℕ → List ℕ
lead c w n = c ∷ digits w n

-- the date of the day with an index: form B, or form A
unfoldable pub day_text : Bool → ℕ → List ℕ
day_text true n = digits 4 (ordinal_on n).year ++ lead 45 3 (ordinal_on n).day
day_text false n =
    digits 4 (date_in (ordinal_on n)).year ++ (lead 45 2 (date_in (ordinal_on n)).month ++ lead 45 2 (date_in (ordinal_on n)).day)

unfoldable pub clock_text : ℕ → List ℕ
clock_text n = lead 84 2 (minute_of n / 60) ++ (lead 58 2 (minute_of n % 60) ++ lead 58 2 (n - minute_of n * 60))

abbrev pub fraction_text : ℕ → ℕ → List ℕ
fraction_text zero f = []
fraction_text (suc d) f = lead 46 (suc d) f

abbrev pub zone_text : Bool → List ℕ
zone_text true = 90 ∷ []
zone_text false = []

-- the code of a second of a day and a fraction
unfoldable pub code_text : Layout → ℕ → ℕ → ℕ → List ℕ
code_text l day second f =
    day_text l.ordinal day ++ (clock_text second ++ (fraction_text l.digits f ++ zone_text l.zone))

-- "The writer takes the fraction downward and never wraps"
abbrev pub part_of : ℕ → ℕ → ℕ
part_of d k = k / (per_second / 10 ^ d)

-- "then 2, 3 .. target 7": digits over 12 are 3, and a day outside the calendar is 7. A writer given a moment that is none refuses 7; no call shows it
unfoldable pub bytes_of : Layout → Moment → Outcome (List ℕ)
bytes_of l m =
    need (is_layout l) 3
    (need (is_moment m) 7
    (and_then (index_of_day m.day) (λ n. done (code_text l n m.second (part_of l.digits m.ticks)))))

-- ---- the moments that codes of a layout can hold: those that a text of that layout reads as
pub record Reads (l : Layout) (m : Moment) : Type 0 where
  pub code : List ℕ
  pub read : text code ≡ done m
  pub own : layout_of code ≡ l
