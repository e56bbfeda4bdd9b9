-- Shapes of texts. A shape is a text with 0 for any digit; every other character stands for itself.
use Rattle.std.specs.Prelude.{Bool, true, false, cond, ◌&&◌, ◌||◌, List, [], ◌∷◌, map, ℕ, zero, suc, eqb, length, take}
use Rattle.octets.specs.Places.{digit_good}

-- what stands for a character in a shape
abbrev pub kind_of : ℕ → ℕ
kind_of b = cond (digit_good b) 48 b

-- the shape of a text
unfoldable pub shape_of : List ℕ → List ℕ
shape_of s = map kind_of s

abbrev pub Shapes : Type 0
Shapes = List (List ℕ)

-- ---- a text that has a shape
abbrev pub same : List ℕ → List ℕ → Bool
same [] [] = true
same [] (y ∷ ys) = false
same (x ∷ xs) [] = false
same (x ∷ xs) (y ∷ ys) = eqb x y && same xs ys

-- the text has the shape, to its end
abbrev pub fits : List ℕ → List ℕ → Bool
fits p s = same p (shape_of s)

-- the text has one of the shapes
unfoldable pub shaped : Shapes → List ℕ → Bool
shaped [] s = false
shaped (p ∷ ps) s = fits p s || shaped ps s

-- ---- a text that begins a shape
-- the first is a start of the second
abbrev pub leads : List ℕ → List ℕ → Bool
leads [] y = true
leads (a ∷ x) [] = false
leads (a ∷ x) (b ∷ y) = eqb a b && leads x y

-- the text begins one of the shapes, whatever its digits
unfoldable pub begins : Shapes → List ℕ → Bool
begins [] s = false
begins (p ∷ ps) s = leads (shape_of s) p || begins ps s

-- the longest start of at most n characters that begins one of the shapes
abbrev pub along_to : Shapes → List ℕ → ℕ → ℕ
along_to ps s zero = 0
along_to ps s (suc n) = cond (begins ps (take (suc n) s)) (suc n) (along_to ps s n)

-- "the length of its longest start that also begins a permitted shape, whatever its digits"
unfoldable pub along : Shapes → List ℕ → ℕ
along ps s = along_to ps s (length s)
