-- The built-in table reckons: computed over the whole table.
use mathlib.Core.Path.{◌≡◌, refl}
use mathlib.Core.Bool.{true}
use Rattle.leap.specs.Table.{offset, start}
use Rattle.leap.specs.Builtin.{builtin}
use Rattle.utc.specs.Reckoning.{reckons}

pub builtin_reckons : reckons builtin ≡ true
unfolding reckons start offset builtin
builtin_reckons = refl
