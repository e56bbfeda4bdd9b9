-- The code's forms and the forms on paper, and what a form that was found tells of a text: what is computed once over all forms, and carried to each by one law.
use mathlib.Core.Path.{◌≡◌, refl, sym, subst, ◌∙◌}
use mathlib.Core.Bool.{Bool, true, false, cond}
use mathlib.Core.List.{List, [], ◌∷◌, ◌++◌}
use Prim.Native.Nat.{ℕ, ◌+◌}
use native.Mathlib.Omega.{arith}
use borrow.Author.Tests.{leb-true}
use lib.Dec.{leb}
use lib.ListN.{length, get_or, drop}
use Rattle.std.specs.List as L
use Rattle.std.specs.Prelude.{Some}
use Rattle.base.specs.Outcome.{done}
use Rattle.base.proofs.Bools.{and_true}
use Rattle.base.proofs.Ladders.{never, done_is}
use Rattle.octets.specs.Places.{all_good, digit_good}
use Rattle.shape.proofs.Tests.{same_is}
use Rattle.shape.specs.Shapes.{shape_of, fits}
use Rattle.shape.proofs.Shapes as S
use Rattle.shape.proofs.Shapes.{shape_length}
use Rattle.tag.specs.Forms.{Place, free, lowest, at, Form, form, Forms, days, months, hours, minutes, find}
use Rattle.tag.specs.Inner.{form_as, forms_as, found, stands, is_calendar, is_time, are_times, Digits, HasCalendar, HasClock}
use Rattle.tag.specs.declared.Form as F

-- ---- the permitted forms by rows
unfoldable pub forms : Forms
forms = days ++ (months ++ (hours ++ minutes))

abbrev no_form : Form
no_form = form [] free free free free

abbrev pub form_at : ℕ → Form
form_at i = get_or forms i no_form

-- the search of a form
pub finds : (fs : List F.Form) (s : List ℕ) → found (L.find (λ (f : F.Form). fits f.0.now s) fs) ≡ find (forms_as fs) s
finds [] s = refl
finds (f ∷ fs) s = go (fits f.0.now s) (finds fs s)
  where
    go : (t : Bool) → found (L.find (λ (f : F.Form). fits f.0.now s) fs) ≡ find (forms_as fs) s → found (cond t (Some f) (L.find (λ (f : F.Form). fits f.0.now s) fs)) ≡ cond t (done (form_as f)) (find (forms_as fs) s)
    go true e = refl
    go false e = e

-- ---- digits stand where the fields are
days_stand : L.list_all is_calendar days ≡ true
unfolding days
days_stand = refl

calendars_stand : L.list_all is_calendar (days ++ months) ≡ true
unfolding days months
calendars_stand = refl

pub hours_stand : are_times hours ≡ true
unfolding hours
hours_stand = refl

pub times_stand : are_times (hours ++ minutes) ≡ true
unfolding hours minutes
times_stand = refl

digits_by_lem : (s p : List ℕ) (w : ℕ) (x : Place) → p ≡ shape_of s → stands p w x ≡ true → Digits s w x
digits_by_lem s p w free f e = tt
digits_by_lem s p w lowest f e = tt
digits_by_lem s p w (at i) f e =
    let (a, b) = and_true (leb (i + w) (length (shape_of s))) (all_good digit_good (drop i (shape_of s)) w) (rw f at e) in
    (omega (arith, leb-true (i + w) (length (shape_of s)) a, shape_length s), sym (S.digits_at s i w) ∙ b)

-- a form that was found is one of the forms, and the text has its shape
found_passes : (test : Form → Bool) (fs : Forms) (s : List ℕ) (f : Form) → L.list_all test fs ≡ true → find fs s ≡ done f → (test f ≡ true) × (f.shape ≡ shape_of s)
found_passes test [] s f h e = never 4 f e
found_passes test (g ∷ fs) s f h e = let (a, b) = and_true (test g) (L.list_all test fs) h in go a (fits g.shape s) refl e (λ k. found_passes test fs s f b k)
  where
    go : test g ≡ true → (t : Bool) → fits g.shape s ≡ t → cond t (done g) (find fs s) ≡ done f → (find fs s ≡ done f → (test f ≡ true) × (f.shape ≡ shape_of s)) → (test f ≡ true) × (f.shape ≡ shape_of s)
    go a true q k r = subst (λ (x : Form). (test x ≡ true) × (x.shape ≡ shape_of s)) (done_is g f k) (a, same_is g.shape (shape_of s) q)
    go a false q k r = r k

calendar_there : (fs : Forms) (s : List ℕ) (f : Form) → L.list_all is_calendar fs ≡ true → find fs s ≡ done f → HasCalendar s f
calendar_there fs s f h e =
    let (t, p) = found_passes is_calendar fs s f h e in
    let (a, t1) = and_true (stands f.shape 4 f.first) _ t in
    let (b, t2) = and_true (stands f.shape 2 f.second) _ t1 in
    let (c, d) = and_true (stands f.shape 2 f.third) (stands f.shape 3 f.fourth) t2 in
    (digits_by_lem s f.shape 4 f.first p a, digits_by_lem s f.shape 2 f.second p b, digits_by_lem s f.shape 2 f.third p c, digits_by_lem s f.shape 3 f.fourth p d)

pub has_day : (s : List ℕ) (f : Form) → find days s ≡ done f → HasCalendar s f
has_day s f e = calendar_there days s f days_stand e

pub has_calendar : (s : List ℕ) (f : Form) → find (days ++ months) s ≡ done f → HasCalendar s f
has_calendar s f e = calendar_there (days ++ months) s f calendars_stand e

pub has_clock : (fs : Forms) (s : List ℕ) (f : Form) → are_times fs ≡ true → find fs s ≡ done f → HasClock s f
has_clock fs s f h e =
    let (t, p) = found_passes is_time fs s f h e in
    let (a, t1) = and_true (stands f.shape 2 f.first) _ t in
    let (b, c) = and_true (stands f.shape 2 f.second) (stands f.shape 2 f.third) t1 in
    (digits_by_lem s f.shape 2 f.first p a, digits_by_lem s f.shape 2 f.second p b, digits_by_lem s f.shape 2 f.third p c)
