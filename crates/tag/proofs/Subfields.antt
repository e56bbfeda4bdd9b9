-- The subfields of a full code that was put together of a day, a second of it and a fraction.
use mathlib.Core.Path.{◌≡◌, refl, ap, ◌∙◌}
use mathlib.Core.Bool.{Bool, true, false}
use mathlib.Core.List.{List, ◌++◌}
use Prim.Native.Nat.{ℕ, zero, suc, ◌-◌, ◌*◌, ◌/◌, ◌%◌, ◌≤◌}
use lib.ListN.{take, drop}
use lib.Seq.{take_at}
use Rattle.octets.specs.Places.{digits}
use Rattle.calendar.specs.Gregorian.{ordinal_on, date_in}
use Rattle.ascii.specs.declared.Layout.{Layout}
use Rattle.clock.specs.Clock.{minute_of}
use Rattle.ascii.specs.Ascii.{front_of, day_text, clock_text, fraction_text, zone_text, code_text}
use Rattle.ascii.proofs.Texts.{digits_length}
use Rattle.ascii.proofs.Back.{code_shaped}
use Rattle.tag.specs.Shortening.{Subfield, by_ordinal, by_month, by_clock, calendar_by, clock_from, calendar_fields, clock_fields, zone_of}

abbrev pub dated : Bool → ℕ → List Subfield
dated true n = by_ordinal (digits 4 (ordinal_on n).year) (digits 3 (ordinal_on n).day)
dated false n = by_month (digits 4 (date_in (ordinal_on n)).year) (digits 2 (date_in (ordinal_on n)).month) (digits 2 (date_in (ordinal_on n)).day)

abbrev pub clocked : ℕ → List ℕ → List Subfield
clocked x ds = by_clock (digits 2 (minute_of x / 60)) (digits 2 (minute_of x % 60)) (digits 2 (x - minute_of x * 60)) ds

-- the fraction's digits, behind the period
digits_in : (d f : ℕ) (z : List ℕ) → take d (drop 1 (fraction_text d f ++ z)) ≡ digits d f
digits_in zero f z = refl
digits_in (suc d) f z = take_at (digits (suc d) f) z (suc d) (digits_length (suc d) f)

dated_in : (o : Bool) (n : ℕ) (r : List ℕ) → calendar_by o (day_text o n ++ r) ≡ dated o n
unfolding day_text
dated_in true n r = refl
dated_in false n r = refl

clocked_in : (o : Bool) (n x d f : ℕ) (z : List ℕ) → clock_from (front_of o - 8) d (day_text o n ++ (clock_text x ++ (fraction_text d f ++ z))) ≡ clocked x (digits d f)
unfolding day_text clock_text
clocked_in true n x d f z =
    ap (λ (ds : List ℕ). clocked x ds) (digits_in d f z)
clocked_in false n x d f z =
    ap (λ (ds : List ℕ). clocked x ds) (digits_in d f z)

module _ (l : Layout) (n x f : ℕ) (h : l.digits ≤ 12) where
  pub calendar_of : calendar_fields (code_text l n x f) ≡ dated l.ordinal n
  unfolding code_text calendar_fields
  calendar_of =
      ap (λ (k : Layout). calendar_by k.ordinal (code_text l n x f)) (code_shaped l n x f h).1
      ∙ dated_in l.ordinal n _

  pub clock_of_lem : clock_fields (code_text l n x f) ≡ clocked x (digits l.digits f)
  unfolding code_text clock_fields
  clock_of_lem =
      ap (λ (k : Layout). clock_from (front_of k.ordinal - 8) k.digits (code_text l n x f)) (code_shaped l n x f h).1
      ∙ clocked_in l.ordinal n x l.digits f (zone_text l.zone)

  pub zone_of_lem : zone_of (code_text l n x f) ≡ zone_text l.zone
  unfolding zone_of
  zone_of_lem = ap (λ (k : Layout). zone_text k.zone) (code_shaped l n x f h).1
