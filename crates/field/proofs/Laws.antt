-- The first field that breaks its rule, and the rules of a date and of a clock together.
use mathlib.Core.Path.{◌≡◌, refl, sym, ◌∙◌}
use mathlib.Core.Bool.{Bool, true, false, ◌&&◌, false≢true}
use mathlib.Core.List.{List, [], ◌∷◌, ◌++◌}
use Prim.Native.Nat.{ℕ}
use native.Mathlib.Omega.{arith}
use lib.Dec.{leb}
use borrow.Author.Tests.{leb-true}
use Rattle.base.proofs.Bools.{and_true, cond_no}
use Rattle.calendar.specs.Gregorian.{is_year, year_length, month_length, is_date, is_ordinal}
use Rattle.clock.specs.Clock.{clock_ok}
use Rattle.field.specs.Fields.{Field, field, first_bad, or_then}
use Rattle.field.specs.Rules.{is_month, is_day, is_day_of_year, is_hour, is_minute, is_second, date_fields, ordinal_fields, clock_fields}
use Rattle.std.specs.Prelude.{Option, Some, None}

-- fields before others
pub first_append : (fs gs : List Field) → first_bad (fs ++ gs) ≡ or_then (first_bad fs) (first_bad gs)
first_append [] gs = refl
first_append (f ∷ fs) gs = go f.kept (first_append fs gs)
  where
    go : (t : Bool) → first_bad (fs ++ gs) ≡ or_then (first_bad fs) (first_bad gs) → first_bad (field f.start t ∷ fs ++ gs) ≡ or_then (first_bad (field f.start t ∷ fs)) (first_bad gs)
    go true e = e
    go false e = refl

-- ---- the rules together are the test of the whole
pub date_last : (y m d : ℕ) → is_year y ≡ true → is_date y m d ≡ is_day y m d
unfolding is_date
date_last y m d e = rw e

module _ (a b c y m d : ℕ) (e : is_year y ≡ true) (f : is_month m ≡ true) where
  pub date_good : is_date y m d ≡ true → None ≡ first_bad (date_fields a b c y m d)
  date_good g = rw (e, f, sym (date_last y m d e) ∙ g)

  pub date_bad : is_date y m d ≡ false → Some c ≡ first_bad (date_fields a b c y m d)
  date_bad g = rw (e, f, sym (date_last y m d e) ∙ g)

pub ordinal_last : (y d : ℕ) → is_year y ≡ true → is_ordinal y d ≡ is_day_of_year y d
unfolding is_ordinal
ordinal_last y d e = rw e

-- a month that there is not has no day
no_days : (y m : ℕ) → is_month m ≡ false → month_length y m ≡ 0
unfolding month_length
no_days y m e = cond_no _ _ e

no_month : (y m d : ℕ) → is_month m ≡ false → is_day y m d ≡ false
no_month y m d e = go (is_day y m d) refl
  where
    go : (t : Bool) → is_day y m d ≡ t → t ≡ false
    go true f =
        let (a, b) = and_true (leb 1 d) (leb d (month_length y m)) f in
        absurd (omega (arith, leb-true 1 d a, leb-true d (month_length y m) b, no_days y m e))
    go false f = refl

pub date_all : (y m d : ℕ) → is_year y && (is_month m && is_day y m d) ≡ is_date y m d
unfolding is_date
date_all y m d = go (is_year y) (is_month m) refl
  where
    go : (a b : Bool) → is_month m ≡ b → a && (b && is_day y m d) ≡ a && leb 1 d && leb d (month_length y m)
    go true true e = refl
    go true false e = sym (no_month y m d e)
    go false b e = refl

pub ordinal_all : (y d : ℕ) → is_year y && is_day_of_year y d ≡ is_ordinal y d
unfolding is_ordinal
ordinal_all y d = go (is_year y)
  where
    go : (a : Bool) → a && is_day_of_year y d ≡ a && leb 1 d && leb d (year_length y)
    go true = refl
    go false = refl

-- ---- whether there is a bad field
abbrev pub is_nowhere : Option ℕ → Bool
is_nowhere (Some n) = false
is_nowhere None = true

pub nowhere_is : (p : Option ℕ) → is_nowhere p ≡ true → p ≡ None
nowhere_is (Some n) e = absurd (false≢true e)
nowhere_is None e = refl

pub somewhere_is : (p : Option ℕ) → is_nowhere p ≡ false → (n : ℕ) × (p ≡ Some n)
somewhere_is (Some n) e = (n, refl)
somewhere_is None e = absurd (false≢true (sym e))

pub none_field : (a : ℕ) (x : Bool) (fs : List Field) → is_nowhere (first_bad (field a x ∷ fs)) ≡ x && is_nowhere (first_bad fs)
none_field a true fs = refl
none_field a false fs = refl

-- the fields of a date, of a day of the year and of a clock are good exactly if the whole is
pub three_none : (a b c : ℕ) (x y z : Bool) → is_nowhere (first_bad (field a x ∷ field b y ∷ field c z ∷ [])) ≡ x && (y && z)
three_none a b c true true true = refl
three_none a b c true true false = refl
three_none a b c true false z = refl
three_none a b c false y z = refl

pub two_none : (a b : ℕ) (x y : Bool) → is_nowhere (first_bad (field a x ∷ field b y ∷ [])) ≡ x && y
two_none a b true true = refl
two_none a b true false = refl
two_none a b false y = refl

pub date_none : (a b c y m d : ℕ) → is_nowhere (first_bad (date_fields a b c y m d)) ≡ is_date y m d
date_none a b c y m d = three_none a b c (is_year y) (is_month m) (is_day y m d) ∙ date_all y m d

pub ordinal_none : (a b y d : ℕ) → is_nowhere (first_bad (ordinal_fields a b y d)) ≡ is_ordinal y d
ordinal_none a b y d = two_none a b (is_year y) (is_day_of_year y d) ∙ ordinal_all y d

pub clock_none : (a b c h m s : ℕ) → is_nowhere (first_bad (clock_fields a b c h m s)) ≡ clock_ok h m s
clock_none a b c h m s = three_none a b c (is_hour h) (is_minute m) (is_second h m s)

pub none_then : (p q : Option ℕ) → is_nowhere (or_then p q) ≡ is_nowhere p && is_nowhere q
none_then (Some n) q = refl
none_then None q = refl
