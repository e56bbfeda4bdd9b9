-- What each answer of the code says on paper.
use Rattle.std.specs.Prelude.{Result}
use Rattle.base.specs.Outcome.{Outcome}
use Rattle.base.specs.Said.{says}
use Rattle.base.specs.declared.Refusal.{Refusal}
use Rattle.scale.specs.Answers.{recorded}
use Rattle.codes.specs.Reading.{Scanned, scanned}
use Rattle.codes.specs.declared.Decoded.{Decoded}

abbrev pub scanned_as : Decoded → Scanned
scanned_as x = scanned x.used (recorded x.moment)

abbrev pub says_scan : Result Decoded Refusal → Outcome Scanned
says_scan r = says scanned_as r
