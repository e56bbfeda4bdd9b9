-- What a call from C answers and leaves, as one record for each kind of call: the answer, and each lent cell or list before and after it.
use Rattle.std.specs.Prelude.{◌≡◌, Bool, List, ℕ, ℤ}
use Rattle.base.specs.Outcome.{Outcome, done, status, cell, given}
use Rattle.drift.specs.Fraction.{Fraction}
use Rattle.drift.specs.Run as D
use Rattle.drift.specs.Answers as A
use Rattle.drift.specs.declared.Report.{Report}
use Rattle.octets.specs.Writes.{filled}
use Rattle.window.specs.Window.{Named, listed, leaves}
use Rattle.codes.specs.Reading.{Scanned}
use Rattle.receiver.specs.Receiver.{Fate, next_of}
use Rattle.receiver.specs.Answers.{count_of, rows_after}
use Rattle.receiver.specs.declared.Receiver.{Receiver}
use Rattle.honigzange.specs.Cells.{state_of, receiver_in, numbers_of, length_of, scanned_sec, scanned_ticks, scanned_used, listed_ticks, listed_count, listed_more}

-- a binary read: the record's seconds and ticks, and how many bytes the code takes
pub record Scans (x : Outcome Scanned) (r : ℕ) (sec sec' : ℤ) (ticks ticks' used used' : ℕ) : Type 0 where
  pub answer : r ≡ status x
  pub seconds : sec' ≡ cell scanned_sec x sec
  pub parts : ticks' ≡ cell scanned_ticks x ticks
  pub count : used' ≡ cell scanned_used x used

-- a write: the lent bytes, and how many of them the code takes
pub record Writes (x : Outcome (List ℕ)) (r : ℕ) (out out' : List ℕ) (written written' : ℕ) : Type 0 where
  pub answer : r ≡ status x
  pub bytes : out' ≡ filled 0 x out
  pub count : written' ≡ cell length_of x written

-- a listing: the lent list, the one tick count, how many are listed, and whether more remain
pub record Listing (x : Outcome (Named ℤ)) (r : ℕ) (list list' : List ℤ) (ticks ticks' count count' : ℕ) (more more' : Bool) : Type 0 where
  pub answer : r ≡ status x
  pub seconds : list' ≡ leaves x list
  pub parts : ticks' ≡ cell listed_ticks (given (listed list) x) ticks
  pub number : count' ≡ cell listed_count (given (listed list) x) count
  pub further : more' ≡ cell listed_more (given (listed list) x) more

-- a rate: its numerator and denominator
pub record RateCells (x : Outcome Fraction) (r : ℕ) (num num' : ℤ) (den den' : ℕ) : Type 0 where
  pub answer : r ≡ status x
  pub rate : A.Lowered x (record { num = num; den = den }) (record { num = num'; den = den' })

-- a run's report: it is never refused, and its cells are the numbers of a report that meets the definition
pub record ReportCells (x : D.Report) (r : ℕ) (cells' : List ℕ) : Type 0 where
  pub answer : r ≡ 0
  pub report : Report
  pub meets : A.Reports x report
  pub cells : cells' ≡ numbers_of report

-- a receiver's making: its octets
pub record MakeCells (x : Outcome Receiver) (r : ℕ) (state state' : List ℕ) : Type 0 where
  pub answer : r ≡ status x
  pub octets : state' ≡ cell state_of x state

-- a piece for a receiver: its octets afterwards, the rows, and how many of them are answers
pub record FeedCells (x : Outcome Fate) (r : ℕ) (state state' : List ℕ) (rows rows' : List (List ℤ)) (count count' : ℕ) : Type 0 where
  pub answer : r ≡ status x
  pub octets : state' ≡ cell (λ (f : Fate). state_of (next_of (receiver_in state) (done f))) x state
  pub answers : rows' ≡ rows_after x rows
  pub number : count' ≡ cell count_of x count
