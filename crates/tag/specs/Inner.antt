-- What the private functions ask and answer: the permitted forms as the code has them, and what a text of one has. No promise cites these.
use Rattle.std.specs.Prelude.{◌≡◌, Bool, true, ◌&&◌, List, map, ℕ, ◌+◌, ◌≤◌, leb, length, drop, Result, Option, Some, None}
use Rattle.std.specs.List.{list_all}
use Rattle.base.specs.Outcome.{Outcome, done, refused}
use Rattle.base.specs.Said.{says}
use Rattle.base.specs.declared.Refusal.{Refusal}
use Rattle.octets.specs.Places.{all_good, digit_good}
use Rattle.field.specs.declared.Starts.{Starts}
use Rattle.tag.specs.Forms.{Place, free, lowest, at, Form, form, Forms}
use Rattle.tag.specs.Tags.{Daytime, daytime}
use Rattle.tag.specs.declared.Time.{Time}
use Rattle.tag.specs.declared.Place as P
use Rattle.tag.specs.declared.Place.TheVariants as V
use Rattle.tag.specs.declared.Form as F

-- ---- forms
abbrev pub place_as : P.Place → Place
place_as V.Free = free
place_as V.Lowest = lowest
place_as (V.At n) = at n

abbrev pub form_as : F.Form → Form
form_as f = form f.0.now (place_as f.1) (place_as f.2) (place_as f.3) (place_as f.4)

abbrev pub forms_as : List F.Form → Forms
forms_as fs = map form_as fs

-- the form that was found; none is 4
abbrev pub found : Option F.Form → Outcome Form
found (Some f) = done (form_as f)
found None = refused 4

-- ---- what a text has
-- w digits stand where a field of w digits is
abbrev pub Digits : List ℕ → ℕ → Place → Type 0
Digits s w free = Unit {0}
Digits s w lowest = Unit {0}
Digits s w (at i) = (i + w ≤ length s) × (all_good digit_good (drop i s) w ≡ true)

-- the digits of the fields of a calendar and of a clock
abbrev pub HasCalendar : List ℕ → Form → Type 0
HasCalendar s f = Digits s 4 f.first × Digits s 2 f.second × Digits s 2 f.third × Digits s 3 f.fourth

abbrev pub HasClock : List ℕ → Form → Type 0
HasClock s f = Digits s 2 f.first × Digits s 2 f.second × Digits s 2 f.third

-- every text of a shape has its digits
abbrev pub stands : List ℕ → ℕ → Place → Bool
stands p w free = true
stands p w lowest = true
stands p w (at i) = leb (i + w) (length p) && all_good digit_good (drop i p) w

abbrev pub is_calendar : Form → Bool
is_calendar f = stands f.shape 4 f.first && (stands f.shape 2 f.second && (stands f.shape 2 f.third && stands f.shape 3 f.fourth))

abbrev pub is_time : Form → Bool
is_time f = stands f.shape 2 f.first && (stands f.shape 2 f.second && stands f.shape 2 f.third)

abbrev pub are_times : Forms → Bool
are_times fs = list_all is_time fs

-- ---- where fields begin
-- a number says where a field begins, if it stands in the text
abbrev pub Begins : ℕ → Place → Type 0
Begins n free = Unit {0}
Begins n lowest = Unit {0}
Begins n (at i) = n ≡ i

-- where the first three fields of a form begin
abbrev pub Begin : Form → Starts → Type 0
Begin f r = Begins r.first f.first × Begins r.second f.second × Begins r.third f.third

abbrev pub daytime_of : Time → Daytime
daytime_of t = daytime t.clock t.ticks

abbrev pub says_time : Result Time Refusal → Outcome Daytime
says_time r = says daytime_of r
