-- Document 01, "Known times": the lines marked M, as one table. Each line is a call and what it answers. What a call answers is made of the definitions that the contracts cite, and of nothing else.
use Rattle.std.specs.Prelude.{Bool, true, false, List, [], ◌∷◌, ℕ, ◌+◌, ◌-◌, ◌*◌, ◌/◌, ℤ, pos, negsuc, replicate}
use Rattle.base.specs.Outcome.{Outcome, done, refused, given}
use Rattle.scale.specs.Time.{Time, per_second}
use Rattle.octets.specs.Writes.{end_of, filled}
use Rattle.window.specs.Window.{Named, listed, leaves}
use Rattle.shape.specs.Quoted.{bytes}
use Rattle.leap.specs.Builtin.{builtin}
use Rattle.codes.specs.Text.{text_of}
use Rattle.codes.specs.Reading.{Scanned, scan_of}
use Rattle.codes.specs.Setting.{written}
use Rattle.pfield.specs.PField.{octet}
use Rattle.pfield.specs.declared.Preamble.TheVariants.{Front}
use Rattle.codes.specs.declared.setting.Setting.{Setting}
use Rattle.codes.specs.declared.setting.Setting.TheVariants.{Binary, Ascii}
use Rattle.listing.specs.CucTag.{list_cuc}
use Rattle.window.specs.declared.Listed.{Listed}

-- ---- calls and answers
-- a call: of what, and with how much lent memory
pub data Call : Type 0 where
  -- an ASCII code
  read_ascii : List ℕ → Call
  -- a binary code, its P octet in front, and the epoch
  read_binary : List ℕ → ℤ → Call
  -- a record in a setting, and how many bytes are lent
  write : Time → Setting → ℕ → Call
  -- a CUC tag, its P octet in front, the epoch, the window's start and end, and how many elements are lent
  list : List ℕ → ℤ → Time → Time → ℕ → Call

-- an answer: what is said, and what the lent memory holds afterwards
pub data Answer : Type 0 where
  moment : Time → Answer
  -- .. and how many bytes its code takes
  taken : Scanned → Answer
  -- how many bytes are written
  wrote : ℕ → List ℕ → Answer
  lists : Listed → List ℤ → Answer
  -- "A refusal carries its number alone"
  refusal : ℕ → Answer

abbrev pub told : {A : Type 0} → (A → Answer) → Outcome A → Answer
told f (done a) = f a
told f (refused n) = refusal n

-- lent memory before a call: bytes of EE, and elements of -1
abbrev pub lent_bytes : ℕ → List ℕ
lent_bytes n = replicate n 0xEE

abbrev pub lent_list : ℕ → List ℤ
lent_list n = replicate n (negsuc 0)

abbrev pub told_written : Outcome (List ℕ) → List ℕ → Answer
told_written x out = told (λ n. wrote n (filled 0 x out)) (given (end_of 0) x)

abbrev pub told_listed : Outcome (Named ℤ) → List ℤ → Answer
told_listed x out = told (λ l. lists l (leaves x out)) (given (listed out) x)

abbrev pub answer : Call → Answer
answer (read_ascii s) = told moment (text_of builtin s)
answer (read_binary s e) = told taken (scan_of builtin s Front e)
answer (write r setting n) = told_written (written builtin r setting (lent_bytes n)) (lent_bytes n)
answer (list s e from to n) = told_listed (list_cuc s Front e from to) (lent_list n)

-- ---- the table
pub record Line : Type 0 where
  pub call : Call
  pub says : Answer

abbrev pub line : Call → Answer → Line
line c a = record { call = c; says = a }

abbrev pub at : ℕ → ℕ → Time
at s k = record { sec = pos s; ticks = k }

abbrev pub read : Time → ℕ → Answer
read t n = taken (record { moment = t; used = n })

-- under a P octet, with the octet in front; the epoch is 1958
abbrev pub binary : ℕ → Setting
binary p = Binary (octet p) (pos 0) true

-- form B, 6 digits, Z
abbrev pub form_b : Setting
form_b = Ascii (record { ordinal = true; digits = 6; zone = true })

-- document 001's moment, in CUC, and as that is read back
abbrev pub shown : Time
shown = at 948216067 505675776000000

abbrev pub sent : List ℕ
sent = 0x1D ∷ 0x38 ∷ 0x84 ∷ 0xA1 ∷ 0x03 ∷ 31 ∷ []

abbrev pub kept : Time
kept = at 948216067 (per_second * 31 / 256)

-- 2016-12-31T23:59:60, and its codes
abbrev pub inserted : ℕ
inserted = 1861920036

abbrev pub cuc : List ℕ
cuc = 0x1C ∷ 0x6E ∷ 0xFA ∷ 0xA5 ∷ 0x24 ∷ []

abbrev pub cds : List ℕ
cds = 0x40 ∷ 0x54 ∷ 0x2D ∷ 0x05 ∷ 0x26 ∷ 0x5C ∷ 0x00 ∷ []

abbrev pub ordinal_ccs : List ℕ
ordinal_ccs = 0x58 ∷ 0x20 ∷ 0x16 ∷ 0x03 ∷ 0x66 ∷ 0x23 ∷ 0x59 ∷ 0x60 ∷ []

abbrev pub month_ccs : List ℕ
month_ccs = 0x50 ∷ 0x20 ∷ 0x16 ∷ 0x12 ∷ 0x31 ∷ 0x23 ∷ 0x59 ∷ 0x60 ∷ []

-- the CUC tag 10 00 over the window 0 to 1024
abbrev pub list_tag : ℕ → Call
list_tag room = list (0x10 ∷ 0x00 ∷ []) (pos 0) (at 0 0) (at 1024 0) room

abbrev pub named : ℕ → Bool → Listed
named n m = record { ticks = 0; count = n; more = m }

unfoldable pub table : List Line
table =
    -- "1988-018T17:20:43.123456Z (document 001): second 948,216,067, ticks 505,675,776,000,000"
    line (read_ascii (bytes "1988-018T17:20:43.123456Z")) (moment shown) ∷
    -- "The same moment as CUC with one fine octet: fraction 31/256 ..
    line (write shown (binary 0x1D) 6) (wrote 6 sent) ∷
    line (read_binary sent (pos 0)) (read kept 6) ∷
    -- .. written back with 6 digits as .121093"
    line (write kept form_b 25) (wrote 25 (bytes "1988-018T17:20:43.121093Z")) ∷
    -- "2016-12-31T23:59:60: second 1,861,920,036 ..
    line (read_ascii (bytes "2016-12-31T23:59:60")) (moment (at inserted 0)) ∷
    -- .. CUC 1C 6E FA A5 24; CDS 40 54 2D 05 26 5C 00; CCS 58 20 16 03 66 23 59 60 or 50 20 16 12 31 23 59 60"
    line (read_binary cuc (pos 0)) (read (at inserted 0) 5) ∷
    line (write (at inserted 0) (binary 0x1C) 5) (wrote 5 cuc) ∷
    line (read_binary cds (pos 0)) (read (at inserted 0) 7) ∷
    line (write (at inserted 0) (binary 0x40) 7) (wrote 7 cds) ∷
    line (read_binary ordinal_ccs (pos 0)) (read (at inserted 0) 8) ∷
    line (write (at inserted 0) (binary 0x58) 8) (wrote 8 ordinal_ccs) ∷
    line (read_binary month_ccs (pos 0)) (read (at inserted 0) 8) ∷
    line (write (at inserted 0) (binary 0x50) 8) (wrote 8 month_ccs) ∷
    -- "23:59:59 that day is one second less; 2017-01-01T00:00:00 is one more"
    line (read_ascii (bytes "2016-12-31T23:59:59")) (moment (at (inserted - 1) 0)) ∷
    line (read_ascii (bytes "2017-01-01T00:00:00")) (moment (at (inserted + 1) 0)) ∷
    -- "2015-12-31T23:59:60: 6. 2026-01-01T00:00:00: 5. 1971-12-31T23:59:59: 5. 2016-12-31T12:00:60: 4"
    line (read_ascii (bytes "2015-12-31T23:59:60")) (refusal 6) ∷
    line (read_ascii (bytes "2026-01-01T00:00:00")) (refusal 5) ∷
    line (read_ascii (bytes "1971-12-31T23:59:59")) (refusal 5) ∷
    line (read_ascii (bytes "2016-12-31T12:00:60")) (refusal 4) ∷
    -- "CUC 10 00, epoch 1958, window 0 to 1024: 0, 256, 512, 768, no more ..
    line (list_tag 5) (lists (named 4 false) (pos 0 ∷ pos 256 ∷ pos 512 ∷ pos 768 ∷ negsuc 0 ∷ [])) ∷
    -- .. Room 2: 0, 256, more"
    line (list_tag 2) (lists (named 2 true) (pos 0 ∷ pos 256 ∷ [])) ∷ []
