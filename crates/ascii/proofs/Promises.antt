-- What spans two calls, as theorems about the definitions that the contracts cite: of moments, before any table.
use mathlib.Core.Path.{◌≡◌, refl, sym, ap, ◌∙◌}
use mathlib.Core.Bool.{true, false}
use mathlib.Core.List.{List}
use Prim.Native.Nat.{ℕ, ◌+◌, ◌-◌, ◌^◌, ◌<◌, ◌≤◌}
use native.Mathlib.Omega.{arith}
use lib.IntN.{ℤ}
use lib.ListN.{length}
use Rattle.base.specs.Outcome.{done, refused}
use Rattle.base.proofs.Ladders.{done_is}
use Rattle.scale.proofs.Fractions as F
use Rattle.calendar.specs.Gregorian.{from_epoch, index_of_day}
use Rattle.calendar.proofs.Numbers.{index_of_number, number_of_index}
use Rattle.moment.specs.Moment.{moment, is_moment, Floor}
use Rattle.moment.specs.declared.Moment.{Moment}
use Rattle.moment.proofs.Decimal.{grain}
use Rattle.moment.proofs.Laws.{moment_parts, parts_moment}
use Rattle.ascii.specs.declared.Layout.{Layout}
use Rattle.moment.specs.Decimal.{ticks_of}
use Rattle.ascii.specs.Ascii.{is_layout, front_of, width, layout_of, number_at, text, code_text, part_of, bytes_of, Reads}
use Rattle.ascii.proofs.Shapes.{shaped_right}
use Rattle.ascii.proofs.Sizes.{front_in}
use Rattle.ascii.proofs.Texts.{code_length, code_width}
use Rattle.ascii.proofs.Back.{code_shaped, fields_back}
use Rattle.ascii.proofs.Forth.{code_again, part_lt, day_high, clock_high}
use Rattle.ascii.proofs.Ladder.{text_shaped, told, index_high, bytes_none, bytes_invalid, bytes_by, put}
use borrow.Author.Tests.{le-leb}

-- ---- reading
-- what was read is a moment
pub read_valid : (s : List ℕ) (m : Moment) → text s ≡ done m → is_moment m ≡ true
read_valid s m e =
    let w = told s m e in
    let l = layout_of s in
    let (p, r) = shaped_right s w.right in
    let f = number_at s (front_of l.ordinal + 1) l.digits in
    rw w.is at (parts_moment (moment (from_epoch w.day) w.second (ticks_of l.digits f)) (clock_high s (front_of l.ordinal - 8) w.second w.clocked) (F.ticks_lt (grain l.digits p.few) f (part_lt l s r)))

-- what was read, written with the text's own form, digits and Z, gives the same bytes
pub read_written : (s : List ℕ) (m : Moment) → text s ≡ done m → bytes_of (layout_of s) m ≡ done s
read_written s m e =
    let w = told s m e in
    let l = layout_of s in
    let (p, r) = shaped_right s w.right in
    let f = number_at s (front_of l.ordinal + 1) l.digits in
    let i : index_of_day m.day ≡ done w.day = ap (λ (x : Moment). index_of_day x.day) (sym w.is) ∙ index_of_number w.day (day_high l.ordinal s w.day w.dated) in
    bytes_by l m (le-leb l.digits 12 p.few) (read_valid s m e) (done w.day) i
    ∙ ap (λ (x : Moment). done (code_text l w.day x.second (part_of l.digits x.ticks))) (sym w.is)
    ∙ ap (λ (n : ℕ). done (code_text l w.day w.second n)) (F.part_ticks (grain l.digits p.few) f)
    ∙ ap done (code_again l s w.day w.second r w.dated w.clocked)

-- so two texts of one layout that read alike are one
pub one_text : (s s' : List ℕ) (m : Moment) → text s ≡ done m → text s' ≡ done m → layout_of s ≡ layout_of s' → s ≡ s'
one_text s s' m e f h = done_is s s' (sym (read_written s m e) ∙ ap (λ (l : Layout). bytes_of l m) h ∙ read_written s' m f)

-- every code that can be put together reads, as what it was put together from
pub code_reads : (l : Layout) (n x f : ℕ) → n ≤ 3652058 → x ≤ 86400 → l.digits ≤ 12 → f < 10 ^ l.digits → (text (code_text l n x f) ≡ done (moment (from_epoch n) x (ticks_of l.digits f))) × (layout_of (code_text l n x f) ≡ l)
code_reads l n x f h k few i =
    let c = code_text l n x f in
    let (a, b) = code_shaped l n x f few in
    let o : 1 ≤ length c = omega (arith, code_length l n x f, front_in l.ordinal) in
    (text_shaped c o a ∙ rw b (fields_back l n x f h k i), b)

-- ---- writing
pub write_width : (l : Layout) (m : Moment) (code : List ℕ) → bytes_of l m ≡ done code → length code ≡ width l
write_width l m code e =
    let p = put l m code e in
    ap length (sym p.is) ∙ code_width l p.index m.second (part_of l.digits m.ticks) p.few

module _ (l : Layout) (m : Moment) where
  -- the moment's fraction downward
  abbrev pub held : Moment
  held = moment m.day m.second (ticks_of l.digits (part_of l.digits m.ticks))

  held_read : (code : List ℕ) → bytes_of l m ≡ done code → (text code ≡ done held) × (layout_of code ≡ l)
  held_read code e =
      let p = put l m code e in
      let (h, k) = moment_parts m p.valid in
      let (a, b) = code_reads l p.index m.second (part_of l.digits m.ticks) (index_high m.day p.index p.inside) h p.few (F.part_lt (grain l.digits p.few) m.ticks k) in
      rw (← p.is) (a ∙ ap (λ (z : ℤ). done (moment z m.second (ticks_of l.digits (part_of l.digits m.ticks)))) (number_of_index m.day p.index p.inside), b)

  -- "The writer takes the fraction downward and never wraps": of all moments of that second that codes of the layout hold, a written code reads as the latest that is not after the source
  pub written_reads : (code : List ℕ) → bytes_of l m ≡ done code → (n : Moment) × ((Floor (Reads l) m n) × (text code ≡ done n))
  written_reads code e =
      let p = put l m code e in
      let (a, b) = held_read code e in
      let g = grain l.digits p.few in
      let floor : Floor (Reads l) m held =
      record {
        had = record { code = code; read = a; own = b };
        day = refl;
        second = refl;
        below = F.part_le g m.ticks;
        most = λ x q h.
            let w = told q.code x q.read in
            let f = number_at q.code (front_of l.ordinal + 1) l.digits in
            let t : ticks_of l.digits f ≡ x.ticks = rw q.own at (ap (λ (y : Moment). y.ticks) w.is) in
            rw (← t) (F.part_most g m.ticks f (rw (← t) at h));
      } in
      (held, (floor, a))

  -- in the writer's layout
  pub written_layout : (code : List ℕ) → bytes_of l m ≡ done code → layout_of code ≡ l
  written_layout code e = (held_read code e).1

  -- ---- refused exactly: a layout that is none 3, then a moment that is none 7, then a day outside the calendar 7; and nothing else
  pub digits_refused : is_layout l ≡ false → bytes_of l m ≡ refused 3
  digits_refused e = bytes_none l m e

  pub moment_refused : is_layout l ≡ true → is_moment m ≡ false → bytes_of l m ≡ refused 7
  moment_refused e f = bytes_invalid l m e f

  pub outside_refused : is_layout l ≡ true → is_moment m ≡ true → index_of_day m.day ≡ refused 7 → bytes_of l m ≡ refused 7
  outside_refused e f h = bytes_by l m e f (refused 7) h

  pub written : is_layout l ≡ true → is_moment m ≡ true → (n : ℕ) → index_of_day m.day ≡ done n → bytes_of l m ≡ done (code_text l n m.second (part_of l.digits m.ticks))
  written e f n h = bytes_by l m e f (done n) h
