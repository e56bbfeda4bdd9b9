-- What the private functions ask and answer: the table by which the permitted shapes are followed, a character at a time. No promise cites these.
use Rattle.std.specs.Prelude.{Bool, true, false, cond, not, ◌&&◌, ◌||◌, List, [], ◌∷◌, ℕ, ◌-◌, eqb, ltb, get_or, take, Option, Some, None}
use Rattle.octets.specs.Places.{digit_good}
use Rattle.shape.specs.Quoted.{bytes}
use Rattle.shape.specs.Shapes.{Shapes, same, shaped}
use Rattle.shape.proofs.Tests.{passes, down_to}
use Rattle.shape.proofs.Starts.{after, none}
use Rattle.ascii.specs.Shapes.{code_shapes}
use Rattle.tag.specs.Forms.{tag_shapes}
use Rattle.fit.specs.declared.State.{State}

-- ---- columns
-- the column of a character: a digit, one of - T : . Z, or any other
abbrev pub column_of : ℕ → ℕ
column_of b =
    cond (digit_good b) 0
    (cond (eqb b 45) 1
    (cond (eqb b 84) 2
    (cond (eqb b 58) 3
    (cond (eqb b 46) 4
    (cond (eqb b 90) 5 6)))))

-- the character that a column is of in a shape; the last is of none
abbrev pub letter : ℕ → ℕ
letter k = get_or (bytes "0-T:.Z") k 0

-- the shapes go on, if they do, with a character that has a column of its own
abbrev pub plain : List ℕ → Bool
plain p = ltb (column_of (get_or p 0 48)) 6

abbrev pub plains : Shapes → Bool
plains ps = passes plain ps

-- ---- states
-- those where codes and tags begin
abbrev pub is_start : ℕ → Bool
is_start q = eqb q 0 || eqb q 34

-- the shapes that are followed there
abbrev pub permitted : ℕ → Shapes
permitted q = cond (ltb q 34) code_shapes tag_shapes

-- a start that leads to a state
abbrev pub start_of : ℕ → List ℕ
start_of q =
    let full = bytes "0000-00-00T00:00:00.000000000000Z" in
    cond (ltb q 34) (take q full)
    (cond (ltb q 68) (take (q - 34) full)
    (get_or (bytes "-" ∷ bytes ":" ∷ bytes "::" ∷ []) (q - 68) []))

-- what can follow it
abbrev pub behind : Shapes → List ℕ → Shapes
behind ps [] = ps
behind ps (c ∷ s) = behind (after c ps) s

unfoldable pub live : ℕ → Shapes
live q = behind (permitted q) (start_of q)

-- ---- the table
abbrev pub nexts : State → List (Option ℕ)
nexts t = t.0 ∷ t.1 ∷ t.2 ∷ t.3 ∷ t.4 ∷ t.5 ∷ []

-- where column k leads; the last leads nowhere
abbrev pub next_in : State → ℕ → Option ℕ
next_in t k = get_or (nexts t) k None

abbrev pub next_of : State → ℕ → Option ℕ
next_of t b = next_in t (column_of b)

abbrev pub sames : Shapes → Shapes → Bool
sames [] [] = true
sames [] (y ∷ ys) = false
sames (x ∷ xs) [] = false
sames (x ∷ xs) (y ∷ ys) = same x y && sames xs ys

abbrev pub agree : Bool → Bool → Bool
agree true b = b
agree false b = not b

-- these shapes are those of a next state, and there are some; or there is none, and no next state
abbrev pub leads : Shapes → Option ℕ → Bool
leads ps None = none ps
leads ps (Some r) = ltb r 71 && (not (none ps) && sames ps (live r))

-- what a state says of these shapes: whether one ends here, and where column k leads
abbrev pub end_right : State → Shapes → Bool
end_right t ps = agree (shaped ps []) t.6

abbrev pub turn_right : State → Shapes → ℕ → Bool
turn_right t ps k = leads (after (letter k) ps) (next_in t k)

abbrev pub state_right : State → Shapes → Bool
state_right t ps = plains ps && (end_right t ps && down_to 7 (turn_right t ps))

-- row q says what can follow in its state
unfoldable pub right : ℕ → State → Bool
right q t = state_right t (live q)
