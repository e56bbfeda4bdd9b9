-- A day's fields, as the search asks for them: year and day of the year together, month and day together.
use mathlib.Core.Bool.{Bool, true, false, ◌&&◌}
use mathlib.Core.Path.{◌≡◌, refl, ap}
use Prim.Native.Nat.{ℕ, ◌≤◌}
use borrow.Author.Tests.{le-leb}
use Rattle.base.specs.Outcome.{done, given}
use Rattle.base.proofs.Bools.{and_false}
use Rattle.base.proofs.Ladders.{need_yes}
use Rattle.calendar.specs.Gregorian.{ordinal_on, date_in, ordinal_at, date_at}
use Rattle.seek.specs.Naming.{may, day_fits}
use Rattle.seek.specs.declared.Calendar.{Calendar}

pub ordinal_here : (n : ℕ) → n ≤ 3652058 → ordinal_at n ≡ done (ordinal_on n)
unfolding ordinal_at
ordinal_here n h = need_yes 7 _ (le-leb n 3652058 h)

pub date_here : (n : ℕ) → n ≤ 3652058 → date_at n ≡ done (date_in (ordinal_on n))
date_here n h = ap (given date_in) (ordinal_here n h)

pairs : (y m d o : Bool) → (y && (m && (d && o))) ≡ ((y && o) && (m && d))
pairs false m d o = refl
pairs true m d true = ap (λ (b : Bool). m && b) (last d)
  where
    last : (d : Bool) → (d && true) ≡ d
    last true = refl
    last false = refl
pairs true m d false = and_false m (d && false) (and_false d false refl)

pub in_pairs : (c : Calendar) (n : ℕ) → day_fits c n ≡ ((may c.year (ordinal_on n).year && may c.ordinal (ordinal_on n).day) && (may c.month (date_in (ordinal_on n)).month && may c.day (date_in (ordinal_on n)).day))
unfolding day_fits
in_pairs c n = pairs (may c.year (ordinal_on n).year) (may c.month (date_in (ordinal_on n)).month) (may c.day (date_in (ordinal_on n)).day) (may c.ordinal (ordinal_on n).day)
