-- THE PROMISES: the user's demands, for every call, every code and every setting, over the definitions that the contracts of the C interface cite: by any table that reckons, as the built-in one does. Each cites what the crates below have proved.
use mathlib.Core.Path.{◌≡◌, refl, sym, ap, ◌∙◌}
use mathlib.Core.Bool.{Bool, true, false}
use mathlib.Core.List.{List}
use mathlib.Core.Logic.{◌⊎◌, ◌↔◌}
use Prim.Native.Nat.{ℕ, ◌*◌, ◌-◌, ◌≤◌, ◌<◌}
use native.Mathlib.Nat.{zero-add}
use lib.IntN.{ℤ, pos, ◌+ℤ◌}
use lib.ListN.{length, get_or, take, drop}
use lib.Seq.{take_at, drop_at}
use Rattle.base.specs.Outcome.{Outcome, done, refused, given, status, cell}
use Rattle.base.proofs.Ladders.{done_is}
use Rattle.scale.specs.Time.{Time, is_record, difference_of}
use Rattle.scale.specs.Latest.{NotAfter}
use Rattle.scale.proofs.Latest.{later_source}
use Rattle.drift.specs.Fraction.{Fraction}
use Rattle.drift.specs.Answers.{Lowered}
use Rattle.octets.specs.Stores.{pasted}
use Rattle.octets.specs.Writes.{filled}
use Rattle.leap.specs.Table.{Table}
use Rattle.leap.specs.Builtin.{builtin}
use Rattle.leap.specs.declared.Row.{Row}
use Rattle.utc.specs.Reckoning.{reckons}
use Rattle.utc.proofs.Laws.{table_good}
use Rattle.shape.specs.Quoted.{bytes}
use Rattle.ascii.specs.Ascii.{is_layout, clock_text, code_text}
use Rattle.ascii.specs.declared.Layout.{Layout}
use Rattle.pfield.specs.PField.{laid}
use Rattle.pfield.specs.declared.PField.{PField}
use Rattle.pfield.specs.declared.Codes.TheVariants.{All}
use Rattle.codes.specs.Reading.{Scanned, scanned, scan_of, used_of, width_of}
use Rattle.codes.specs.Range.{HoldsIn}
use Rattle.codes.specs.Writing.{write_of}
use Rattle.codes.specs.Setting.{ascii_of, written, default_layout, wall_of}
use Rattle.pfield.specs.declared.Preamble.{Preamble}
use Rattle.pfield.specs.declared.Layout as P
use Rattle.codes.specs.declared.setting.Setting.{Setting}
use Rattle.codes.specs.declared.setting.Setting.TheVariants.{Binary, Ascii}
use Rattle.receiver.specs.Fields.{whole_in, answers_in}
use Rattle.receiver.specs.Receiver.{Fate, next_of}
use Rattle.receiver.specs.Answers.{rows_after}
use Rattle.receiver.specs.declared.Receiver.{Receiver}
use Rattle.receiver.proofs.Promises.{as_read}
use Rattle.window.specs.Among.{Among}
use Rattle.window.specs.Window.{Named, listed, leaves}
use Rattle.promises.specs.Promises.{Call, outcome_of, Done, Refused, last_number, read_under, code_in, OfSetting, Holdable, Yields, Ready, Holds, FitsIn, Outside, second, Shows, SecondApart, Shortened, list_by, Lists}
use Rattle.promises.specs.RungsCalls.{rungs_of}
use Rattle.promises.proofs.Rungs.{ends_by, answers_by}
use Rattle.promises.proofs.RungsCalls.{calls_numbered, calls_exactly}
use Rattle.promises.proofs.Settings as S
use Rattle.promises.proofs.Ranges as R
use Rattle.promises.proofs.Scale as Z
use Rattle.promises.proofs.Listings as T
use Rattle.window.specs.declared.Listed.{Listed}

-- ==== 1
-- "Every entry point takes any bytes, any record, any settings and any room, and ends with a result or one of nine numbered refusals", joined by 10 and 11 (document 02); given exactly when documents 01 and 02 say: proofs/RungsCalls
pub ends_numbered : (t : Table) → reckons t ≡ true → (c : Call) → Done (outcome_of t c) ⊎ Refused (outcome_of t c)
ends_numbered t g c = ends_by (outcome_of t c) (rungs_of t c) (calls_exactly t g c) (calls_numbered t c)

-- what a call from C answers: 0 exactly with a result, and else a number up to the last
pub answers_numbered : (t : Table) → reckons t ≡ true → (c : Call) → ((status (outcome_of t c) ≡ 0) ↔ Done (outcome_of t c)) × (status (outcome_of t c) ≤ last_number)
answers_numbered t g c = answers_by (outcome_of t c) (ends_numbered t g c)

-- "A refused call changes no lent memory": each lent cell ..
pub refused_leaves_cells : {A B : Type 0} (o : Outcome A) (n : ℕ) → o ≡ refused n → (f : A → B) (old : B) → cell f o old ≡ old
refused_leaves_cells o n h f old = rw h

-- .. each lent byte ..
pub refused_leaves_bytes : (o : Outcome (List ℕ)) (n : ℕ) → o ≡ refused n → (at : ℕ) (out : List ℕ) → filled at o out ≡ out
refused_leaves_bytes o n h at out = rw h

-- .. each element of a lent list, and the cells of a listing
pub refused_leaves_list : {B : Type 0} (o : Outcome (Named ℤ)) (n : ℕ) → o ≡ refused n → (entry : List ℤ) (f : Listed → B) (old : B) → (leaves o entry ≡ entry) × (cell f (given (listed entry) o) old ≡ old)
refused_leaves_list o n h entry f old = rw h (refl, refl)

-- .. the two cells of a rate ..
pub refused_leaves_rate : (o : Outcome Fraction) (n : ℕ) → o ≡ refused n → (old new : Fraction) → Lowered o old new → new ≡ old
refused_leaves_rate o n h old new l = rw h at l

-- .. and a receiver with its rows: "with state and memory unchanged"
pub refused_leaves_receiver : (o : Outcome Fate) (n : ℕ) → o ≡ refused n → (r : Receiver) (rows : List (List ℤ)) → (next_of r o ≡ r) × (rows_after o rows ≡ rows)
refused_leaves_receiver o n h r rows = rw h (refl, refl)

-- "a refused binary read hands back all its bytes as unread"
pub refused_reads_none : (t : Table) (s : List ℕ) (p : Preamble) (e : ℤ) (n : ℕ) → scan_of t s p e ≡ refused n → (used_of (scan_of t s p e) ≡ 0) × (drop (used_of (scan_of t s p e)) s ≡ s)
refused_reads_none t s p e n h = rw h (refl, refl)

-- ==== 2, for every setting: CUC, CDS, CCS, ASCII A and B
-- the writing calls are those of a setting; the wall clock's is the default one
pub calls_of_settings : (t : Table) (r : Time) (p : PField) (e : ℤ) (front : Bool) (l : Layout) (out : List ℕ) → (write_of t r p e front out ≡ written t r (Binary p e front) out) × (ascii_of t l r out ≡ written t r (Ascii l) out) × (wall_of t r out ≡ written t r (Ascii default_layout) out)
calls_of_settings t r p e front l out = (refl, refl, refl)

-- "on one exact scale": 23:59:60 and the following 00:00:00 are one second apart, in every ASCII form, on the day before each later row of the table ..
pub leap_second_apart : (row : Row) → Among row builtin.later → (l : Layout) → is_layout l ≡ true → SecondApart builtin (code_text l (row.day - 1) 86400 0) (code_text l row.day 0 0)
leap_second_apart = Z.leap_apart

pub leap_second_texts : (clock_text 86400 ≡ bytes "T23:59:60") × (clock_text 0 ≡ bytes "T00:00:00")
unfolding clock_text
leap_second_texts = (refl, refl)

-- "A written code fills the first bytes; later ones stay"
pub written_first : (o : Outcome (List ℕ)) (code : List ℕ) → o ≡ done code → (out : List ℕ) → (take (length code) (filled 0 o out) ≡ code) × (drop (length code) (filled 0 o out) ≡ drop (length code) out)
unfolding pasted
written_first o code h out =
    rw (h, zero-add) (take_at code (drop (length code) out) (length code) refl, drop_at code (drop (length code) out) (length code) refl)

module _ (t : Table) (g : reckons t ≡ true) where
  -- what is read is a valid source
  pub read_valid : (setting : Setting) (s : List ℕ) (m : Time) → read_under t setting s ≡ done m → is_record m ≡ true
  read_valid = S.valid_read t g

  -- .. and so is what a receiver answers, where it answers no refusal
  pub answers_valid : (p : PField) (e : ℤ) (l : P.Layout) → laid All p e ≡ done l → (s : List ℕ) (i : ℕ) → i < whole_in l s → (m : Time) → get_or (answers_in t l s) i (refused 0) ≡ done m → is_record m ≡ true
  answers_valid p e l a s i h m x =
      read_valid (Binary p e false) (drop (i * width_of l) s) m (ap (given (λ (y : Scanned). y.moment)) (as_read t p e l a s i h ∙ ap (given (scanned (width_of l))) x))

  -- .. and in all codes, be it one or two of them: whatever reads to times that show them
  pub codes_second_apart : (setting setting' : Setting) (s s' : List ℕ) (m m' : Time) (day : ℤ) → read_under t setting s ≡ done m → read_under t setting' s' ≡ done m' → Shows t m day 86400 → Shows t m' (day +ℤ pos 1) 0 → m'.ticks ≡ m.ticks → difference_of m' m ≡ done second
  codes_second_apart setting setting' s s' m m' day h h' a b same =
      Z.one_second m m' (read_valid setting s m h) (read_valid setting' s' m' h')
      (Z.midnight_after t (table_good t g) m.sec m'.sec a.utc b.utc a.reading b.reading a.at (b.on ∙ ap (λ (z : ℤ). z +ℤ pos 1) (sym a.on)) b.at) same

  -- what is written yields "the latest time the target can hold that is not after the source"
  pub written_latest : (setting : Setting) (r : Time) (out code : List ℕ) → written t r setting out ≡ done code → (m : Time) × Yields t setting r code m
  written_latest = S.yields t g

  -- "With a valid source, settings and epochs and enough room, writing yields the latest time the target can hold that is not after the source" ..
  pub writes_latest : (setting : Setting) (r : Time) (out : List ℕ) → Ready r setting out → Holds t setting r → (code : List ℕ) × (m : Time) × (written t r setting out ≡ done code) × Yields t setting r code m
  writes_latest setting r out d h =
      let (code, w) = R.held_written t g setting r out d h in
      let (m, y) = written_latest setting r out code w in
      (code, m, w, y)

  -- .. it is written exactly where the target holds it ..
  pub writes_exactly : (setting : Setting) (r : Time) (out : List ℕ) → Ready r setting out → Done (written t r setting out) ↔ Holds t setting r
  writes_exactly = R.written_exactly t g

  -- .. "and refuses exactly outside the target's range or, for UTC codes, the table's days"
  pub refuses_exactly : (setting : Setting) (r : Time) (out : List ℕ) → Ready r setting out → (n : ℕ) → (written t r setting out ≡ refused n) ↔ Outside t setting r n
  refuses_exactly = R.refused_exactly t g

  -- the target's range by document 01's counts: "of whole seconds from the epoch, taken downward (CUC), or of UTC days from the epoch (CDS), is not negative and fits the field. CCS and ASCII hold every covered moment"
  pub range_counted : (p : PField) (e : ℤ) (l : P.Layout) (r : Time) → is_record r ≡ true → laid All p e ≡ done l → HoldsIn t l r ↔ FitsIn t l r
  range_counted = R.held_fits t g

  -- "Under one setting and epoch, a later source never gets an earlier time"
  pub later_never_earlier : (setting : Setting) (r r' : Time) (out out' code code' : List ℕ) (m m' : Time)
      → written t r setting out ≡ done code → written t r' setting out' ≡ done code' → read_under t setting code ≡ done m → read_under t setting code' ≡ done m'
      → NotAfter r r' → NotAfter m m'
  later_never_earlier setting r r' out out' code code' m m' w w' h h' n =
      let (x, y) = written_latest setting r out code w in
      let (x', y') = written_latest setting r' out' code' w' in
      let i : x ≡ m = done_is x m (sym (S.alone t g setting code x y.reads) ∙ h) in
      let i' : x' ≡ m' = done_is x' m' (sym (S.alone t g setting code' x' y'.reads) ∙ h') in
      rw (← i, ← i') (later_source (Holdable t setting) r x y.latest r' x' y'.latest n)

  -- "Given room, writing what was read, with the same settings and epoch, gives the same bytes"
  pub same_bytes : (setting : Setting) (s out : List ℕ) (m : Time) → OfSetting setting s → read_under t setting s ≡ done m → length (code_in t setting s) ≤ length out → written t m setting out ≡ done (code_in t setting s)
  same_bytes = S.back t g

  -- ==== 3, for CUC and ASCII tags
  -- "A shortened tag (a CUC code whose counter wraps, or an ASCII subset with its left part dropped) can mean many moments. Given the tag, its epoch if it is CUC, and a window, which for ASCII lies inside the table's days, we list exactly the moments in the window that the tag names by the published code: ascending, each once, the earliest first when room runs out. "More" is said exactly when a further one remains"
  pub lists : (tag : Shortened) (from to : Time) (entry : List ℤ) (answer : Listed) → given (listed entry) (list_by t tag from to) ≡ done answer → Lists t tag from to entry (leaves (list_by t tag from to) entry) answer
  lists = T.lists_by t g
