-- What the private functions ask and answer: the tests of a shape, made directly. No promise cites these; proofs/Shapes says that together they are `shaped code_shapes`.
use Rattle.std.specs.Prelude.{Bool, true, false, ◌&&◌, ◌||◌, List, ℕ, ◌+◌, ◌-◌, eqb, get_or, drop}
use Rattle.octets.specs.Places.{all_good, digit_good}
use Rattle.ascii.specs.Ascii.{front_of}
use Rattle.ascii.specs.declared.Layout.{Layout}

-- w digits stand from a place on
abbrev pub figures_at : List ℕ → ℕ → ℕ → Bool
figures_at s at w = all_good digit_good (drop at s) w

unfoldable pub date_figures : Bool → List ℕ → Bool
date_figures true s = figures_at s 0 4 && figures_at s 5 3
date_figures false s = figures_at s 0 4 && (figures_at s 5 2 && figures_at s 8 2)

unfoldable pub clock_figures : List ℕ → ℕ → Bool
clock_figures s at = figures_at s at 2 && (figures_at s (at + 3) 2 && figures_at s (at + 6) 2)

unfoldable pub figures : Layout → List ℕ → Bool
figures l s =
    date_figures l.ordinal s && (clock_figures s (front_of l.ordinal - 8) && figures_at s (front_of l.ordinal + 1) l.digits)

-- the dash, T, the colons and the period; the second dash and Z are what a layout was told by
abbrev pub marked : List ℕ → ℕ → ℕ → Bool
marked s at c = eqb (get_or s at 0) c

unfoldable pub separators : Layout → List ℕ → Bool
separators l s =
    marked s 4 45
    && (marked s (front_of l.ordinal - 9) 84
    && (marked s (front_of l.ordinal - 6) 58
    && (marked s (front_of l.ordinal - 3) 58
    && (eqb l.digits 0 || marked s (front_of l.ordinal) 46))))
