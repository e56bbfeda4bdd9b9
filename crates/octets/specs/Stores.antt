-- Texts stored into lent bytes.
use Rattle.std.specs.Prelude.{◌≡◌, Bool, cond, List, ◌++◌, ℕ, ◌+◌, leb, length, take, drop}

-- a text put in at a place, over what stood there
unfoldable pub pasted : List ℕ → ℕ → List ℕ → List ℕ
pasted out at text = take at out ++ text ++ drop (at + length text) out

abbrev pub has_room : List ℕ → ℕ → List ℕ → Bool
has_room out at text = leb (at + length text) (length out)

-- where there is room the text is put in, and else all stays
pub record Stored (text : List ℕ) (at : ℕ) (old new : List ℕ) (r : Bool) : Type 0 where
  pub answer : r ≡ has_room old at text
  pub bytes : new ≡ cond (has_room old at text) (pasted old at text) old
