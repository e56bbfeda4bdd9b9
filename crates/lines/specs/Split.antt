-- A whole input, and input that comes in pieces.
use Rattle.std.specs.Prelude.{cond, List, [], ◌∷◌, ◌++◌, ℕ, suc, ◌+◌, ◌-◌, eqb, ltb, length, take}
use Rattle.leap.specs.Table.{Table}
use Rattle.lines.specs.Answer.{answer_of}

-- ---- the whole: "one a line, each ended by a line feed (the last may lack it)"
-- what is printed for a last line that lacks its line feed; where nothing stands after the last line feed there is no such line
unfoldable pub last_of : Table → List ℕ → List ℕ
last_of t p = cond (eqb (length p) 0) [] (answer_of t p)

-- what is printed for an input, p being the line so far
unfoldable pub answers_from : Table → List ℕ → List ℕ → List ℕ
answers_from t p [] = last_of t p
answers_from t p (b ∷ s) = cond (eqb b 10) (answer_of t p ++ answers_from t [] s) (answers_from t (p ++ b ∷ []) s)

-- what is printed for a whole input
abbrev pub answers : Table → List ℕ → List ℕ
answers t s = answers_from t [] s

-- how many bytes stand before the first line feed
unfoldable pub before : List ℕ → ℕ
before [] = 0
before (b ∷ s) = cond (eqb b 10) 0 (suc (before s))

-- ---- the pieces
-- of a line its first 65 bytes are held, since more is refusal 4 all the same
abbrev pub kept : List ℕ → List ℕ
kept p = take 65 p

-- What a piece comes to: the line that is held after it, the bytes written, and how many bytes of it were used.
pub record Fate : Type 0 where
  pub held : List ℕ
  pub wrote : List ℕ
  pub used : ℕ

-- nothing more is used
abbrev pub rests : List ℕ → Fate
rests p = record { held = p; wrote = []; used = 0 }

-- w written and n used, and then f
abbrev pub after : List ℕ → ℕ → Fate → Fate
after w n f = record { held = f.held; wrote = w ++ f.wrote; used = n + f.used }

-- p is held and there is room for so many bytes: a line feed is used, and its line answered, while 80 bytes of room are left; any other byte is used
unfoldable pub fate : Table → List ℕ → List ℕ → ℕ → Fate
fate t p [] room = rests p
fate t p (b ∷ s) room =
    cond (eqb b 10)
    (cond (ltb room 80) (rests p) (after (answer_of t p) 1 (fate t [] s (room - length (answer_of t p)))))
    (after [] 1 (fate t (kept (p ++ b ∷ [])) s room))

-- the end of the input: a last line that lacks its line feed is answered where 80 bytes of room are left
unfoldable pub ending : Table → List ℕ → ℕ → List ℕ
ending t p room = cond (ltb room 80) [] (last_of t p)
