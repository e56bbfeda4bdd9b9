-- Settings (document 01, "Writer settings: a P octet with epoch, and whether the octet is written; or ASCII A or B, digits 0 to 12, Z or none").
use Rattle.std.specs.Prelude.{true, false, List, ℕ}
use Rattle.base.specs.Outcome.{Outcome, and_then}
use Rattle.scale.specs.Time.{Time}
use Rattle.octets.specs.Writes.{roomed}
use Rattle.leap.specs.Table.{Table}
use Rattle.ascii.specs.declared.Layout.{Layout}
use Rattle.codes.specs.Writing.{write_of}
use Rattle.codes.specs.Text.{letters}
use Rattle.codes.specs.declared.setting.Setting.{Setting}
use Rattle.codes.specs.declared.setting.Setting.TheVariants.{Binary, Ascii}

-- an ASCII code where the lent bytes have room for it
abbrev pub ascii_of : Table → Layout → Time → List ℕ → Outcome (List ℕ)
ascii_of t l r out = and_then (letters t l r) (roomed out 0)

-- what is written in a setting
abbrev pub written : Table → Time → Setting → List ℕ → Outcome (List ℕ)
written t r (Binary p e front) out = write_of t r p e front out
written t r (Ascii l) out = ascii_of t l r out

-- "The default setting is ASCII A, 3 digits, Z"
abbrev pub default_layout : Layout
default_layout = record { ordinal = false; digits = 3; zone = true }

-- "a wall-clock call that writes a record in the default setting"
abbrev pub wall_of : Table → Time → List ℕ → Outcome (List ℕ)
wall_of t r out = ascii_of t default_layout r out
