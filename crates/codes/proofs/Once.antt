-- Two answers that say the same are the same.
use mathlib.Core.Path.{◌≡◌, refl}
use Rattle.std.specs.Prelude.{Result}
use Rattle.base.specs.Outcome.{Outcome}
use Rattle.base.specs.declared.Refusal.{Refusal}
use Rattle.base.proofs.Once.{says_once}
use Rattle.codes.specs.Reading.{Scanned}
use Rattle.codes.specs.Answers.{scanned_as, says_scan}
use Rattle.codes.specs.declared.Decoded.{Decoded}

pub scan_once : (o : Outcome Scanned) (a b : Result Decoded Refusal) → says_scan a ≡ o → says_scan b ≡ o → a ≡ b
scan_once =
    says_once scanned_as (λ x. record { moment = record { sec = x.moment.sec; ticks = x.moment.ticks }; used = x.used }) (λ x. refl)
