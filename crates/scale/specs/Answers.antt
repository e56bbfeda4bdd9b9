-- What each answer of the code says on paper.
use Rattle.std.specs.Prelude.{ℕ, ◌-◌, ◌^◌, Result}
use Rattle.base.specs.Outcome.{Outcome}
use Rattle.base.specs.Said.{says}
use Rattle.base.specs.declared.Refusal.{Refusal}
use Rattle.scale.specs.Time.{Time}
use Rattle.scale.specs.declared.Seconds.{Seconds}

abbrev pub Record : Type 0
Record = Seconds (2 ^ 41 - 1)

abbrev pub Span : Type 0
Span = Seconds (2 ^ 42 - 1)

-- a record or a span, on paper
abbrev pub timed : {H : ℕ} → Seconds H → Time
timed t = record { sec = t.sec; ticks = t.ticks }

abbrev pub recorded : Record → Time
recorded r = timed r

abbrev pub spanned : Span → Time
spanned s = timed s

abbrev pub says_record : Result Record Refusal → Outcome Time
says_record = says recorded

abbrev pub says_span : Result Span Refusal → Outcome Time
says_span = says spanned
