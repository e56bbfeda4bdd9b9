-- What is named on a covered day, for any good table: the day must fit, and the second of the day.
use mathlib.Core.Bool.{true, false, ◌&&◌}
use mathlib.Core.Path.{◌≡◌, refl, sym, ap, ◌∙◌}
use Prim.Native.Nat.{ℕ, ◌+◌, ◌-◌, ◌*◌, ◌≤◌, ◌<◌}
use native.Mathlib.Omega.{arith}
use lib.Dec.{leb}
use borrow.Author.Tests.{le-leb, lt-leb, leb-true}
use Rattle.base.specs.Outcome.{done}
use Rattle.base.proofs.Bools.{and_true, and_yes, and_no, and_false}
use Rattle.std.specs.Prelude.{Result, Ok}
use Rattle.base.specs.declared.Refusal.{Refusal}
use Rattle.base.specs.Said.{said}
use Rattle.base.proofs.Once.{said_done}
use Rattle.leap.specs.declared.Day.{Day}
use Rattle.leap.specs.Table.{Table, good, offset, start, day_length, covers, day_on, day_at}
use Rattle.leap.specs.Builtin.{builtin, first_index, first_raised, last_index, past_index, past_raised}
use Rattle.leap.proofs.Builtin.{covered_days, day_in_lem}
use Rattle.leap.proofs.Days.{start_next, length_range}
use Rattle.leap.proofs.Outcomes.{second_done, day_done}
use Rattle.leap.proofs.Promises.{second_then_reading}
use Rattle.window.specs.Window.{Unnamed}
use Rattle.seek.specs.Naming.{day_fits, clock_fits, fits_reading, names, covers_window}
use Rattle.seek.specs.declared.Wants.{Wants}

-- the covered days have no gap
pub covers_between : (t : Table) (a b d : ℕ) → covers t a ≡ true → covers t b ≡ true → a ≤ d → d ≤ b → covers t d ≡ true
unfolding covers
covers_between t a b d p q l h =
    let (p0, p1) = and_true (leb t.first.day a) (leb a t.last) p in
    let (q0, q1) = and_true (leb t.first.day b) (leb b t.last) q in
    and_yes _ (le-leb t.first.day d (omega (arith, leb-true t.first.day a p0))) ∙ le-leb d t.last (omega (arith, leb-true b t.last q1))

pub cover_ends : (d : ℕ) → covers builtin d ≡ true → (first_index ≤ d) × (d ≤ last_index)
cover_ends d e =
    let (p, q) = and_true (leb first_index d) (leb d last_index) (sym (covered_days d) ∙ e) in
    (leb-true _ _ p, leb-true _ _ q)

-- what the table tells of a covered day
pub span_told : (d : ℕ) (r : Result Day Refusal) → first_index ≤ d → d < past_index → said r ≡ day_at builtin d → r ≡ Ok (day_on builtin d)
span_told d r l h e = said_done r (day_on builtin d) (e ∙ day_done builtin d (day_in_lem d l (omega arith)))

pub span_is : {d : ℕ} {r : Result Day Refusal} {y : Day} → first_index ≤ d → d < past_index → said r ≡ day_at builtin d → r ≡ Ok y → (y.start ≡ start builtin d) × (y.length ≡ day_length builtin d)
span_is {d} {r} {y} l h e k =
    let t = span_told d r l h e in
    let z : y ≡ day_on builtin d = cc in
    (ap (λ x. x.start) z, ap (λ x. x.length) z)

-- the cover's ends, of windows
covered_window : (from to : ℕ) → covers_window builtin from to ≡ (leb first_raised from && leb to past_raised)
unfolding covers_window start offset builtin
covered_window from to = refl

module _ (from to : ℕ) where
  pub window_in : first_raised ≤ from → to ≤ past_raised → covers_window builtin from to ≡ true
  window_in l h = covered_window from to ∙ and_yes _ (le-leb first_raised from l) ∙ le-leb to past_raised h

  pub window_before : from < first_raised → covers_window builtin from to ≡ false
  window_before h = covered_window from to ∙ and_no _ (lt-leb first_raised from h)

  pub window_after : past_raised < to → covers_window builtin from to ≡ false
  window_after h = covered_window from to ∙ and_false (leb first_raised from) (leb to past_raised) (lt-leb to past_raised h)

module _ (t : Table) (ok : good t ≡ true) (g : Wants) (d : ℕ) (in_table : covers t d ≡ true) where
  pub named_at : (x : ℕ) → x < day_length t d → names t g (start t d + x) ≡ (day_fits g.calendar d && clock_fits g.clock x)
  unfolding names start
  named_at x h =
      let e : d * 86400 + x + offset t d ≡ d * 86400 + offset t d + x = omega arith in
      let s = second_done t d x (omega (arith, length_range t ok d)) in_table h ∙ ap done e in
      ap (fits_reading g) (second_then_reading t ok d x (d * 86400 + offset t d + x) s)

  -- the same of a second of the day by its own number
  pub named_in : (k : ℕ) → start t d ≤ k → k < start t (d + 1) → names t g k ≡ (day_fits g.calendar d && clock_fits g.clock (k - start t d))
  named_in k l h =
      let e : start t d + (k - start t d) ≡ k = omega arith in
      sym (ap (names t g) e) ∙ named_at (k - start t d) (omega (arith, start_next t ok d))

  -- no second of a day that does not fit is named
  pub day_none : day_fits g.calendar d ≡ false → Unnamed (names t g) (start t d) (start t (d + 1))
  day_none f k l h = named_in k l h ∙ and_no _ f

  -- nor one whose second of the day does not fit
  pub second_none : (k : ℕ) → start t d ≤ k → k < start t (d + 1) → clock_fits g.clock (k - start t d) ≡ false → names t g k ≡ false
  second_none k l h f = named_in k l h ∙ and_false (day_fits g.calendar d) _ f

  -- one that fits is, on a day that fits
  pub fits_named : (x : ℕ) → x < day_length t d → day_fits g.calendar d ≡ true → clock_fits g.clock x ≡ true → names t g (start t d + x) ≡ true
  fits_named x h a b = named_at x h ∙ rw (a, b)
