-- An identification that no code has is allowed nowhere.
use mathlib.Core.Path.{◌≡◌, refl}
use mathlib.Core.Bool.{Bool, true, false, ◌||◌}
use Prim.Native.Nat.{ℕ}
use lib.Dec.{eqb}
use Rattle.pfield.specs.declared.Codes.{Codes}
use Rattle.pfield.specs.declared.Codes.TheVariants.{All, Cuc}
use Rattle.pfield.specs.PField.{allows}

first_no : (a b c : Bool) → (a || b || c) ≡ false → a ≡ false
first_no true b c h = h
first_no false b c h = refl

pub none_allowed : (c : Codes) (n : ℕ) → allows All n ≡ false → allows c n ≡ false
unfolding allows
none_allowed All n h = h
none_allowed Cuc n h = first_no (eqb n 1 || eqb n 2) (eqb n 4) (eqb n 5) h
