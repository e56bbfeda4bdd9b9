-- What a target can hold, by the times that its T-fields read to.
use Rattle.std.specs.Prelude.{◌≡◌}
use Rattle.base.specs.Outcome.{done}
use Rattle.scale.specs.Time.{Time}
use Rattle.leap.specs.Table.{Table}
use Rattle.leap.specs.Utc.{utc_of_second}
use Rattle.leap.specs.declared.Utc.{Utc}
use Rattle.cuc.specs.Cuc.{Holds}
use Rattle.pfield.specs.declared.Layout.{Layout}
use Rattle.pfield.specs.declared.Layout.TheVariants.{Cuc, Cds, Ccs}
use Rattle.codes.specs.Reading.{HasDay}

-- "A target holds a source when its count of whole seconds from the epoch, taken downward (CUC), or of UTC days from the epoch (CDS), is not negative and fits the field. CCS and ASCII hold every covered moment": of that second, or on that day, there is a time that some T-field reads to
abbrev pub HoldsIn : Table → Layout → Time → Type 0
HoldsIn t (Cuc l) r = Holds l r
HoldsIn t (Cds l) r = (u : Utc) × ((utc_of_second t r.sec ≡ done u) × HasDay t (Cds l) u.day)
HoldsIn t (Ccs l) r = (u : Utc) × (utc_of_second t r.sec ≡ done u)
