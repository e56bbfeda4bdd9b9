-- What the private functions ask and answer. No promise cites these.
use Rattle.std.specs.Prelude.{◌^◌, ◌<◌, ◌≤◌, Result}
use Rattle.base.specs.Outcome.{Outcome}
use Rattle.base.specs.Said.{says}
use Rattle.listing.specs.declared.periodic.Periodic as P
use Rattle.scale.specs.Answers.{recorded}
use Rattle.scale.specs.Inner.{Within}
use Rattle.listing.specs.CucTag.{Periodic}
use Rattle.base.specs.declared.Refusal.{Refusal}

abbrev pub periodic_as : P.Periodic → Periodic
periodic_as g = record { first = recorded g.first; period = g.period }

abbrev pub says_periodic : Result P.Periodic Refusal → Outcome Periodic
says_periodic r = says periodic_as r

-- a first moment that is a record, and a period that the counter takes
pub record Short (g : Periodic) : Type 0 where
  pub valid : Within (2 ^ 41) g.first
  pub some : 0 < g.period
  pub short : g.period ≤ 2 ^ 63
