-- What the private functions ask and answer. No promise cites these.
use Rattle.std.specs.Prelude.{◌≡◌, List, ◌++◌, ℕ, ◌-◌, ◌<◌, ◌≤◌, ℤ, length, take, replicate, Result}
use Rattle.base.specs.Outcome.{Outcome, given}
use Rattle.base.specs.Said.{said}
use Rattle.base.specs.declared.Refusal.{Refusal}
use Rattle.leap.specs.Builtin.{builtin}
use Rattle.pfield.specs.declared.Layout.{Layout}
use Rattle.codes.specs.Reading.{width_of}
use Rattle.receiver.specs.Fields.{whole_in, answers_in, left_in}
use Rattle.receiver.specs.Receiver.{run_of, Fate}
use Rattle.receiver.specs.Answers.{count_of, rows_over, rows_after}
use Rattle.receiver.specs.declared.Held.{Held}
use Rattle.receiver.specs.declared.Receiver.{Receiver}

-- the first n octets of a run, with zeros behind its end
unfoldable pub padded : ℕ → List ℕ → List ℕ
padded n s = take n (s ++ replicate n 0)

-- what holds some octets
abbrev pub keeps : List ℕ → Held
keeps s = record { bytes = s ++ replicate (12 - length s) 0; count = length s }

-- a piece that completes n T-fields, for which there is room
pub record Passes (l : Layout) (n : ℕ) (r : Receiver) (piece : List ℕ) (rows : List (List ℤ)) : Type 0 where
  pub few : r.count < width_of l
  pub many : n ≡ whole_in l (run_of r piece)
  pub room : n ≤ length rows

-- what a run comes to
pub record Passed (l : Layout) (run : List ℕ) (old new : List (List ℤ)) (h : Held) : Type 0 where
  pub left : h ≡ keeps (left_in l run)
  pub rows : new ≡ rows_over (answers_in builtin l run) old

-- a call: how many T-fields are answered and what is then held, and the lent rows
pub record Accepts (x : Outcome Fate) (old new : List (List ℤ)) (a : Result (ℕ × Held) Refusal) : Type 0 where
  pub answer : said a ≡ given (λ (f : Fate). (count_of f, keeps f.left)) x
  pub rows : new ≡ rows_after x old
