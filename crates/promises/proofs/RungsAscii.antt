-- ASCII codes are refused by their rungs, in reading by any table, and in writing by any that reckons.
use mathlib.Core.Path.{◌≡◌, refl, ap, ◌∙◌}
use mathlib.Core.Bool.{Bool, true, false, ◌&&◌}
use mathlib.Core.List.{List, [], ◌∷◌}
use Prim.Native.Nat.{ℕ, ◌+◌, ◌-◌}
use native.Mathlib.Nat.{zero-add}
use lib.Dec.{leb}
use lib.ListN.{length}
use borrow.Author.Tests.{leb-true, le-leb}
use Rattle.base.specs.Outcome.{Outcome, done, need, and_then}
use Rattle.base.proofs.Bools.{and_true}
use Rattle.scale.specs.Time.{Time, is_record}
use Rattle.octets.specs.Writes.{roomed}
use Rattle.calendar.specs.Gregorian.{from_epoch, index_of_date, index_of_ordinal}
use Rattle.clock.proofs.Laws.{shows}
use Rattle.leap.specs.Table.{Table}
use Rattle.moment.specs.Moment.{moment}
use Rattle.moment.specs.declared.Moment.{Moment}
use Rattle.utc.specs.Reckoning.{written_by, reckons}
use Rattle.utc.proofs.Laws.{moment_valid, moment_index}
use Rattle.shape.specs.Shapes.{shaped}
use Rattle.ascii.specs.Shapes.{code_shapes}
use Rattle.moment.specs.Decimal.{ticks_of}
use Rattle.ascii.specs.Ascii.{is_layout, front_of, layout_of, number_at, width, day_at, clock_at, fields_of, text, code_text, part_of, bytes_of}
use Rattle.ascii.specs.declared.Layout.{Layout}
use Rattle.ascii.proofs.Texts.{code_width}
use Rattle.ascii.proofs.Promises as A
use Rattle.codes.specs.Text.{text_of, letters}
use Rattle.codes.specs.Setting.{ascii_of, default_layout, wall_of}
use Rattle.promises.specs.Rungs.{Rung, rung, all_hold}
use Rattle.promises.specs.RungsCalendar.{covered_second}
use Rattle.promises.specs.RungsAscii.{date_good, index_in, clock_good, second_in, is_b, clock_in, read_ascii_rungs, write_ascii_rungs, write_wall_rungs}
use Rattle.promises.proofs.Rungs.{verdict, judged, climb, step, rise, need_both, then_need}
use Rattle.promises.proofs.RungsCalendar.{read_rungs, moment_here, moment_here_lem, written_rungs}

-- ---- reading
day_climbs : (o : Bool) (s : List ℕ) → day_at o s ≡ need (date_good o s) 4 (done (index_in o s))
unfolding day_at index_of_ordinal index_of_date
day_climbs true s = refl
day_climbs false s = refl

clock_climbs : (s : List ℕ) (at : ℕ) → clock_at s at ≡ need (clock_good s at) 4 (done (second_in s at))
unfolding clock_at
clock_climbs s at = refl

-- the moment that the fields of a layout name
abbrev named : Layout → List ℕ → Moment
named l s =
    moment (from_epoch (index_in l.ordinal s)) (second_in s (front_of l.ordinal - 8)) (ticks_of l.digits (number_at s (front_of l.ordinal + 1) l.digits))

fields_climb : (l : Layout) (s : List ℕ) → fields_of l s ≡ need (date_good l.ordinal s && clock_good s (front_of l.ordinal - 8)) 4 (done (named l s))
unfolding fields_of
fields_climb l s =
    ap (λ (y : Outcome ℕ). and_then y (λ day. and_then (clock_at s at) (λ second. whole day second))) (day_climbs l.ordinal s)
    ∙ then_need (date_good l.ordinal s) 4 (index_in l.ordinal s) (λ day. and_then (clock_at s at) (λ second. whole day second))
    ∙ ap (λ (y : Outcome ℕ). need (date_good l.ordinal s) 4 (and_then y (λ second. whole (index_in l.ordinal s) second))) (clock_climbs s at)
    ∙ ap (need (date_good l.ordinal s) 4) (then_need (clock_good s at) 4 (second_in s at) (λ second. whole (index_in l.ordinal s) second))
    ∙ need_both (date_good l.ordinal s) (clock_good s at) 4 (done (named l s))
  where
    at : ℕ
    at = front_of l.ordinal - 8

    whole : ℕ → ℕ → Outcome Moment
    whole day second = done (moment (from_epoch day) second (ticks_of l.digits (number_at s (front_of l.ordinal + 1) l.digits)))

-- a text that is not empty, and whose characters and fields keep their rules
abbrev up_to4 : List ℕ → List Rung
up_to4 s = rung 1 (leb 1 (length s)) ∷ rung 4 (shaped code_shapes s && (date_good (is_b s) s && clock_good s (clock_in s))) ∷ []

text_climbs : (s : List ℕ) → text s ≡ climb (up_to4 s) (named (layout_of s) s)
unfolding text
text_climbs s =
    ap (λ (y : Outcome Moment). need (leb 1 (length s)) 1 (need (shaped code_shapes s) 4 y)) (fields_climb (layout_of s) s)
    ∙ ap (need (leb 1 (length s)) 1) (need_both (shaped code_shapes s) (date_good (is_b s) s && clock_good s (clock_in s)) 4 (done (named (layout_of s) s)))

text_low : (s : List ℕ) → all_hold (up_to4 s) ≡ true → leb (second_in s (clock_in s)) 86400 ≡ true
text_low s h =
    let (_, a) = and_true (leb 1 (length s)) _ h in
    let (b, _) = and_true (shaped code_shapes s && (date_good (is_b s) s && clock_good s (clock_in s))) true a in
    let (_, c) = and_true (shaped code_shapes s) (date_good (is_b s) s && clock_good s (clock_in s)) b in
    let (_, d) = and_true (date_good (is_b s) s) (clock_good s (clock_in s)) c in
    le-leb _ 86400 (shows (number_at s (clock_in s) 2) (number_at s (clock_in s + 3) 2) (number_at s (clock_in s + 6) 2) d).low

pub read_ascii_rungs_lem : (t : Table) (s : List ℕ) → verdict (text_of t s) ≡ judged (read_ascii_rungs t s)
read_ascii_rungs_lem t s = read_rungs t (text s) (up_to4 s) (named (layout_of s) s) (text_climbs s) (text_low s)

-- ---- writing
-- a code of known length in the lent bytes
pub room_rung : (code out : List ℕ) (w : ℕ) → length code ≡ w → verdict (roomed out 0 code) ≡ judged (rung 8 (leb w (length out)) ∷ [])
unfolding roomed
room_rung code out w e =
    ap (λ (n : ℕ). verdict (need (leb n (length out)) 8 (done code))) (zero-add (length code) ∙ e)
    ∙ step (leb w (length out)) 8 _ _ (λ h. refl)

module _ (t : Table) (g : reckons t ≡ true) where
  -- the code of a covered moment, in the lent bytes
  here_rung : (l : Layout) (r : Time) (out : List ℕ) → is_record r ≡ true → is_layout l ≡ true → covered_second t r.sec ≡ true → verdict (and_then (bytes_of l (moment_here t r)) (roomed out 0)) ≡ judged (rung 8 (leb (width l) (length out)) ∷ [])
  here_rung l r out v h c =
      let m = moment_here t r in
      let e = moment_here_lem t r c in
      let (n, i) = moment_index t g r m e in
      ap (λ (x : Outcome (List ℕ)). verdict (and_then x (roomed out 0))) (A.written l m h (moment_valid t g r m v e) n i)
      ∙ room_rung (code_text l n m.second (part_of l.digits m.ticks)) out (width l) (code_width l _ _ _ (leb-true l.digits 12 h))

  pub write_ascii_rungs_lem : (l : Layout) (r : Time) (out : List ℕ) → verdict (ascii_of t l r out) ≡ judged (write_ascii_rungs t l r out)
  unfolding letters
  write_ascii_rungs_lem l r out =
      rise (is_record r) 7 (need (is_layout l) 3 (written_by t (bytes_of l) r)) (roomed out 0) _ (λ v.
      rise (is_layout l) 3 (written_by t (bytes_of l) r) (roomed out 0) _ (λ h.
      written_rungs t (bytes_of l) r (roomed out 0) _ (here_rung l r out v h)))

  pub write_wall_rungs_lem : (r : Time) (out : List ℕ) → verdict (wall_of t r out) ≡ judged (write_wall_rungs t r out)
  unfolding width
  write_wall_rungs_lem r out = write_ascii_rungs_lem default_layout r out
