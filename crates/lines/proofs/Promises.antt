-- What spans two calls, as theorems about the definitions that the contracts cite: however the input is cut into pieces, what is written is what the whole input comes to.
use mathlib.Core.Path.{◌≡◌, refl, sym, ap, ◌∙◌}
use mathlib.Core.Bool.{Bool, true, false}
use mathlib.Core.List.{List, [], ◌∷◌, ◌++◌, append_assoc, append-nil}
use Prim.Native.Nat.{ℕ, suc, ◌+◌, ◌-◌, ◌*◌, ◌<◌, ◌≤◌}
use native.Mathlib.Decide.{dec_lt}
use native.Mathlib.Numerals.{one-add}
use native.Mathlib.Omega.{arith}
use lib.Dec.{eqb, ltb}
use lib.ListN.{length, drop}
use lib.Seq.{take_all, length-take-le, drop-length}
use borrow.Author.Tests.{le-ltb, ne_eqb}
use Rattle.leap.specs.Builtin.{builtin}
use Rattle.lines.specs.Answer.{answer_of}
use Rattle.lines.specs.Split.{Fate, fate, kept, before, last_of, answers_from, answers, ending}
use Rattle.lines.specs.Runs.{Run, last, more, fed_all, whole_of, Roomy, none, also}
use Rattle.lines.proofs.Texts.{length_answer}
use Rattle.lines.specs.Says.{Fares}
use Rattle.lines.specs.declared.Fed.{Fed}
use Rattle.lines.proofs.Fates.{take_join, kept_answer, some_used}

-- ---- the input, line by line
pub no_input : answers builtin [] ≡ []
unfolding answers_from last_of
no_input = refl

abbrev Line : List ℕ → List ℕ → List ℕ → Type 0
Line p line s = before line ≡ length line → answers_from builtin p (line ++ 10 ∷ s) ≡ answer_of builtin (p ++ line) ++ answers builtin s

abbrev Last : List ℕ → List ℕ → Type 0
Last p line = before line ≡ length line → answers_from builtin p line ≡ last_of builtin (p ++ line)

line_at : (p : List ℕ) (b : ℕ) (line s : List ℕ) (t : Bool) → eqb b 10 ≡ t → (Line (p ++ b ∷ []) line s → Line p (b ∷ line) s) × (Last (p ++ b ∷ []) line → Last p (b ∷ line))
unfolding answers_from before
line_at p b line s true e = (λ more_of h. let z : 0 ≡ suc (length line) = simp e at h in absurd (omega arith), λ more_of h. let z : 0 ≡ suc (length line) = simp e at h in absurd (omega arith))
line_at p b line s false e = (
  λ more_of h. let z : suc (before line) ≡ suc (length line) = simp e at h in simp e (more_of (omega arith) ∙ rw append_assoc),
  λ more_of h. let z : suc (before line) ≡ suc (length line) = simp e at h in simp e (more_of (omega arith) ∙ rw append_assoc),
)

line_from : (p line s : List ℕ) → Line p line s
unfolding answers_from
line_from p [] s h = rw append-nil
line_from p (b ∷ line) s h = (line_at p b line s (eqb b 10) refl).0 (line_from (p ++ b ∷ []) line s) h

last_from : (p line : List ℕ) → Last p line
unfolding answers_from
last_from p [] h = rw append-nil
last_from p (b ∷ line) h = (line_at p b line [] (eqb b 10) refl).1 (last_from (p ++ b ∷ []) line) h

-- a text without a line feed and then a line feed is a line: it is answered, and then what follows
pub line_first : (line s : List ℕ) → before line ≡ length line → answers builtin (line ++ 10 ∷ s) ≡ answer_of builtin line ++ answers builtin s
line_first line s h = line_from [] line s h

-- a text without a line feed, to the input's end, is a last line: it is answered unless it is empty
pub line_last : (line : List ℕ) → before line ≡ length line → answers builtin line ≡ last_of builtin line
line_last line h = last_from [] line h

-- ---- 65 bytes of a line say as much as all of it
kept_last : (p : List ℕ) → last_of builtin (kept p) ≡ last_of builtin p
unfolding last_of
kept_last p = go (dec_lt 65 (length p))
  where
    go : Dec (65 < length p) → last_of builtin (kept p) ≡ last_of builtin p
    go (yes h) =
        let a = ne_eqb (length (kept p)) 0 (λ e. omega (arith, length-take-le 65 p (omega arith))) in
        let b = ne_eqb (length p) 0 (λ e. omega arith) in
        rw (a, b) (kept_answer p)
    go (no h) = ap (last_of builtin) (take_all 65 p (omega arith))

kept_answers : (p s : List ℕ) → answers_from builtin (kept p) s ≡ answers_from builtin p s
unfolding answers_from
kept_answers p [] = kept_last p
kept_answers p (b ∷ s) =
    let more_of : answers_from builtin (kept p ++ b ∷ []) s ≡ answers_from builtin (p ++ b ∷ []) s =
    sym (kept_answers (kept p ++ b ∷ []) s) ∙ ap (λ (q : List ℕ). answers_from builtin q s) (take_join 65 p (b ∷ [])) ∙ kept_answers (p ++ b ∷ []) s in
    rw (kept_answer p, more_of)

-- ---- a piece: what it writes, and then what is still to come, is what the whole comes to
abbrev Tells : List ℕ → List ℕ → List ℕ → Fate → Type 0
Tells p piece s f = answers_from builtin p (piece ++ s) ≡ f.wrote ++ answers_from builtin f.held (drop f.used piece ++ s)

tells_at : (p : List ℕ) (b : ℕ) (piece s : List ℕ) (room : ℕ) (t u : Bool) → eqb b 10 ≡ t → ltb room 80 ≡ u
    → Tells [] piece s (fate builtin [] piece (room - length (answer_of builtin p))) → Tells (kept (p ++ b ∷ [])) piece s (fate builtin (kept (p ++ b ∷ [])) piece room) → Tells p (b ∷ piece) s (fate builtin p (b ∷ piece) room)
unfolding fate answers_from
tells_at p b piece s room true true e d fresh on = simp (e, d)
tells_at p b piece s room true false e d fresh on = simp (e, d, one-add, append_assoc) (ap (λ (l : List ℕ). answer_of builtin p ++ l) fresh)
tells_at p b piece s room false u e d fresh on = simp (e, one-add) (sym (kept_answers (p ++ b ∷ []) (piece ++ s)) ∙ on)

pub piece_tells : (p piece s : List ℕ) (room : ℕ) → answers_from builtin p (piece ++ s) ≡ (fate builtin p piece room).wrote ++ answers_from builtin (fate builtin p piece room).held (drop (fate builtin p piece room).used piece ++ s)
unfolding fate
piece_tells p [] s room = refl
piece_tells p (b ∷ piece) s room =
    tells_at p b piece s room (eqb b 10) (ltb room 80) refl refl (piece_tells [] piece s (room - length (answer_of builtin p))) (piece_tells (kept (p ++ b ∷ [])) piece s room)

ending_is : (p : List ℕ) (room : ℕ) → 80 ≤ room → ending builtin p room ≡ last_of builtin p
unfolding ending
ending_is p room h = rw (le-ltb room 80 h)

-- "however the input is cut": whatever the pieces and the rooms of the calls, what they write is what the whole input comes to
run_from : {p s w : List ℕ} → Run builtin p s w → w ≡ answers_from builtin p s
unfolding answers_from
run_from (last room h e) = e ∙ ending_is _ room h
run_from {p} (more piece left v room e f r) =
    f ∙ ap (λ (l : List ℕ). (fate builtin p piece room).wrote ++ l) (run_from r) ∙ sym (piece_tells p piece left room) ∙ ap (answers_from builtin p) (sym e)

pub run_answers : (s w : List ℕ) → Run builtin [] s w → w ≡ answers builtin s
run_answers s w r = run_from r

-- ---- room enough: a piece is used whole
uses_at : (p : List ℕ) (b : ℕ) (s : List ℕ) (room : ℕ) (t : Bool) → eqb b 10 ≡ t → 80 + 25 * length (b ∷ s) ≤ room
    → (80 + 25 * length s ≤ room - length (answer_of builtin p) → (fate builtin [] s (room - length (answer_of builtin p))).used ≡ length s)
    → (80 + 25 * length s ≤ room → (fate builtin (kept (p ++ b ∷ [])) s room).used ≡ length s) → (fate builtin p (b ∷ s) room).used ≡ length (b ∷ s)
unfolding fate
uses_at p b s room true e h fresh on =
    let d = le-ltb room 80 (omega arith) in
    simp (e, d, one-add) (ap suc (fresh (omega (arith, length_answer p))))
uses_at p b s room false e h fresh on = simp (e, one-add) (ap suc (on (omega arith)))

pub uses_all : (p s : List ℕ) (room : ℕ) → 80 + 25 * length s ≤ room → (fate builtin p s room).used ≡ length s
unfolding fate
uses_all p [] room h = refl
uses_all p (b ∷ s) room h = uses_at p b s room (eqb b 10) refl h (uses_all [] s (room - length (answer_of builtin p))) (uses_all (kept (p ++ b ∷ [])) s room)

all_from : (p : List ℕ) (room : ℕ) (pieces : List (List ℕ)) → Roomy room pieces → fed_all builtin p room pieces ≡ answers_from builtin p (whole_of pieces)
unfolding answers_from
all_from p room [] (none h) = ending_is p room h
all_from p room (piece ∷ pieces) (also h r) =
    let f = fate builtin p piece room in
    let u : drop f.used piece ++ whole_of pieces ≡ whole_of pieces = rw (uses_all p piece room h, drop-length piece) in
    ap (λ (l : List ℕ). f.wrote ++ l) (all_from f.held room pieces r ∙ ap (answers_from builtin f.held) (sym u)) ∙ sym (piece_tells p piece (whole_of pieces) room)

-- pieces fed one after another with room enough, and then the end: the texts whole_of are the answers to the whole_of input
pub pieces_answers : (room : ℕ) (pieces : List (List ℕ)) → Roomy room pieces → fed_all builtin [] room pieces ≡ answers builtin (whole_of pieces)
pieces_answers room pieces r = all_from [] room pieces r

-- a call with room for an answer uses something of a piece, so that feeding what is left comes to an end
pub uses_some : (p : List ℕ) (b : ℕ) (s : List ℕ) (room : ℕ) → 80 ≤ room → 0 < (fate builtin p (b ∷ s) room).used
unfolding fate
uses_some p b s room h = go (eqb b 10) refl
  where
    go : (t : Bool) → eqb b 10 ≡ t → 0 < (fate builtin p (b ∷ s) room).used
    go true e = let d = le-ltb room 80 h in simp (e, d) (omega arith)
    go false e = simp e (omega arith)

-- ---- a call that is given bytes, and room for an answer, uses a byte at least: so a loop of calls over a piece ends
pub uses : (p piece old new : List ℕ) (r : Fed) → Fares (fate builtin p piece (length old)) piece old new r → 0 < length piece → 80 ≤ length old → 0 < r.used
uses p piece old new r g n h = rw g.answer (some_used p piece (length old) n h)
