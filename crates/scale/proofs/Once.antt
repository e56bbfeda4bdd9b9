-- Two answers that say the same are the same.
use mathlib.Core.Path.{◌≡◌, refl}
use Rattle.std.specs.Prelude.{Result}
use Rattle.base.specs.Outcome.{Outcome}
use Rattle.base.specs.declared.Refusal.{Refusal}
use Rattle.base.proofs.Once.{says_once}
use Rattle.scale.specs.Time.{Time}
use Rattle.scale.specs.Answers.{recorded, spanned, Record, Span, says_record, says_span}

pub record_once : (o : Outcome Time) (a b : Result Record Refusal) → says_record a ≡ o → says_record b ≡ o → a ≡ b
record_once = says_once recorded (λ t. record { sec = t.sec; ticks = t.ticks }) (λ r. refl)

pub span_once : (o : Outcome Time) (a b : Result Span Refusal) → says_span a ≡ o → says_span b ≡ o → a ≡ b
span_once = says_once spanned (λ t. record { sec = t.sec; ticks = t.ticks }) (λ s. refl)
