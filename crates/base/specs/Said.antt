-- What an answer of the code says on paper: the value, or the number of the refusal.
use Rattle.std.specs.Prelude.{Result, Ok, Err}
use Rattle.base.specs.Outcome.{Outcome, done, refused}
use Rattle.base.specs.Refusals.{number}
use Rattle.base.specs.declared.Refusal.{Refusal}

abbrev pub said : {A : Type 0} → Result A Refusal → Outcome A
said (Ok a) = done a
said (Err why) = refused (number why)

-- the same, with the paper's form f of the value
abbrev pub says : {A B : Type 0} → (A → B) → Result A Refusal → Outcome B
says f (Ok a) = done (f a)
says f (Err why) = refused (number why)
