-- What the code's answers say on paper, and what a call promises of all that is lent to it.
use Rattle.std.specs.Prelude.{◌≡◌, List, [], ◌∷◌, ◌++◌, map, ℕ, ℤ, pos, length, drop}
use Rattle.base.specs.Outcome.{Outcome, done, refused, given}
use Rattle.scale.specs.Time.{Time}
use Rattle.receiver.specs.Receiver.{Fate, next_of}
use Rattle.receiver.specs.declared.Fed.{Fed}
use Rattle.receiver.specs.declared.Receiver.{Receiver}
use Rattle.base.specs.Said.{said}

-- how many answers a piece gives
abbrev pub count_of : Fate → ℕ
count_of f = length f.answers

-- an answer as a row: 0, and the record's seconds and ticks; or the refusal's number, and zeros
abbrev pub row_of : Outcome Time → List ℤ
row_of (done m) = pos 0 ∷ m.sec ∷ pos m.ticks ∷ []
row_of (refused n) = pos n ∷ pos 0 ∷ pos 0 ∷ []

-- the rows that answers fill: later ones stay
abbrev pub rows_over : List (Outcome Time) → List (List ℤ) → List (List ℤ)
rows_over answers old = map row_of answers ++ drop (length answers) old

-- what the lent rows hold afterwards
abbrev pub rows_after : Outcome Fate → List (List ℤ) → List (List ℤ)
rows_after (done f) old = rows_over f.answers old
rows_after (refused n) old = old

-- a call: its answer, the next receiver and the lent rows
pub record Feeds (x : Outcome Fate) (r : Receiver) (old new : List (List ℤ)) (f : Fed) : Type 0 where
  pub answer : said f.answer ≡ given count_of x
  pub next : f.next ≡ next_of r x
  pub rows : new ≡ rows_after x old

-- a making answers no T-field
abbrev pub none_by : Receiver → ℕ
none_by r = 0

-- a making: its answer, and the receiver. One that is refused is judged again by each call
pub record Makes (x : Outcome Receiver) (fresh : Receiver) (f : Fed) : Type 0 where
  pub answer : said f.answer ≡ given none_by x
  pub next : f.next ≡ fresh
