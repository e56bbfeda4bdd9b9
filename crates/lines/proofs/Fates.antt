-- What a piece comes to, line by line: up to its first line feed, and past it.
use mathlib.Core.Path.{◌≡◌, refl, sym, ap, ◌∙◌}
use mathlib.Core.Bool.{Bool, true, false}
use mathlib.Core.List.{List, [], ◌∷◌, ◌++◌, append_assoc, append-nil}
use Prim.Native.Nat.{ℕ, zero, suc, ◌+◌, ◌-◌, ◌<◌, ◌≤◌}
use native.Mathlib.Decide.{dec_lt}
use native.Mathlib.Numerals.{one-add}
use native.Mathlib.Omega.{arith}
use lib.Dec.{eqb}
use lib.ListN.{length, take, drop, length-take}
use lib.Seq.{take_all, length-take-le}
use borrow.Author.Tests.{lt-ltb, le-ltb}
use Rattle.leap.specs.Builtin.{builtin}
use Rattle.lines.specs.Answer.{printed, answer_of}
use Rattle.lines.specs.Split.{before, Fate, fate, after, kept}
use Rattle.lines.proofs.Texts.{of_long}

-- ---- what is kept of a line
pub take_join : (n : ℕ) (x y : List ℕ) → take n (take n x ++ y) ≡ take n (x ++ y)
take_join zero x y = refl
take_join (suc n) [] y = refl
take_join (suc n) (a ∷ x) y = ap (λ (l : List ℕ). a ∷ l) (take_join n x y)

pub kept_join : (p : List ℕ) (b : ℕ) (s : List ℕ) → kept (kept (p ++ b ∷ []) ++ s) ≡ kept (p ++ b ∷ s)
kept_join p b s = take_join 65 (p ++ b ∷ []) s ∙ ap kept (append_assoc p (b ∷ []) s)

pub kept_small : (p : List ℕ) → length (kept p) ≤ 65
kept_small p = omega (arith, length-take 65 p)

pub kept_none : (p : List ℕ) → length p ≤ 65 → kept (p ++ []) ≡ p
kept_none p h = rw append-nil (take_all 65 p h)

-- 65 bytes of a line say as much as all of it
pub kept_answer : (p : List ℕ) → answer_of builtin (kept p) ≡ answer_of builtin p
kept_answer p = go (dec_lt 65 (length p))
  where
    go : Dec (65 < length p) → answer_of builtin (kept p) ≡ answer_of builtin p
    go (yes h) = ap printed (of_long (kept p) (omega (arith, length-take-le 65 p (omega arith))) ∙ sym (of_long p (omega arith)))
    go (no h) = ap (answer_of builtin) (take_all 65 p (omega arith))

-- ---- up to the first line feed: where there is none, or no room for an answer, all of that is held
abbrev Stops : List ℕ → List ℕ → ℕ → Type 0
Stops p s room = fate builtin p s room ≡ record { held = kept (p ++ take (before s) s); wrote = []; used = before s }

stops_at : (p : List ℕ) (b : ℕ) (s : List ℕ) (room : ℕ) (t : Bool) → eqb b 10 ≡ t → length p ≤ 65 → (before (b ∷ s) < length (b ∷ s) → room < 80)
    → ((before s < length s → room < 80) → Stops (kept (p ++ b ∷ [])) s room) → Stops p (b ∷ s) room
unfolding fate before
stops_at p b s room true e l h more = simp (e, kept_none p l, lt-ltb room 80 (h (simp e (omega arith))))
stops_at p b s room false e l h more =
    let f = more (λ k. h (simp e (omega arith))) in
    simp (e, f, kept_join p b (take (before s) s), one-add)

pub stops : (p s : List ℕ) (room : ℕ) → length p ≤ 65 → (before s < length s → room < 80) → fate builtin p s room ≡ record { held = kept (p ++ take (before s) s); wrote = []; used = before s }
unfolding fate before
stops p [] room l h = rw (kept_none p l)
stops p (b ∷ s) room l h = stops_at p b s room (eqb b 10) refl l h (stops (kept (p ++ b ∷ [])) s room (kept_small (p ++ b ∷ [])))

-- ---- past the first line feed, where there is room: its line is answered, and what follows comes to what it comes to
abbrev Goes : List ℕ → List ℕ → ℕ → List ℕ → Type 0
Goes p s room line = fate builtin p s room ≡ after (answer_of builtin line) (suc (before s)) (fate builtin [] (drop (suc (before s)) s) (room - length (answer_of builtin line)))

after_step : (w : List ℕ) (n : ℕ) (f : Fate) → after [] 1 (after w n f) ≡ after w (suc n) f
after_step w n f = let u : 1 + (n + f.used) ≡ suc n + f.used = omega arith in rw u

goes_at : (p : List ℕ) (b : ℕ) (s : List ℕ) (room : ℕ) (t : Bool) → eqb b 10 ≡ t → length p ≤ 65 → 80 ≤ room → before (b ∷ s) < length (b ∷ s)
    → (before s < length s → Goes (kept (p ++ b ∷ [])) s room (kept (kept (p ++ b ∷ []) ++ take (before s) s))) → Goes p (b ∷ s) room (kept (p ++ take (before (b ∷ s)) (b ∷ s)))
unfolding fate before
goes_at p b s room true e l h k more = simp (e, kept_none p l, le-ltb room 80 h)
goes_at p b s room false e l h k more =
    let m : suc (before s) < suc (length s) = simp e at k in
    let f = more (omega arith) in
    let q = kept_join p b (take (before s) s) in
    let left : List ℕ → Fate = λ l. fate builtin [] (drop (suc (before s)) s) (room - length (answer_of builtin l)) in
    let line = kept (kept (p ++ b ∷ []) ++ take (before s) s) in
    simp e (ap (after [] 1) f ∙ after_step (answer_of builtin line) (suc (before s)) (left line) ∙ ap (λ (l : List ℕ). after (answer_of builtin l) (suc (suc (before s))) (left l)) q)

pub goes : (p s : List ℕ) (room : ℕ) → length p ≤ 65 → 80 ≤ room → before s < length s
    → fate builtin p s room ≡ after (answer_of builtin (kept (p ++ take (before s) s))) (suc (before s)) (fate builtin [] (drop (suc (before s)) s) (room - length (answer_of builtin (kept (p ++ take (before s) s)))))
unfolding fate before
goes p [] room l h k = absurd (omega arith)
goes p (b ∷ s) room l h k = goes_at p b s room (eqb b 10) refl l h k (goes (kept (p ++ b ∷ [])) s room (kept_small (p ++ b ∷ [])) h)

-- ---- a piece is got on with: where there is room for an answer, its first byte is used at least
used_at : (p : List ℕ) (b : ℕ) (s : List ℕ) (room : ℕ) (t : Bool) → eqb b 10 ≡ t → 80 ≤ room → 0 < (fate builtin p (b ∷ s) room).used
unfolding fate
used_at p b s room true e h = simp (e, le-ltb room 80 h) (omega arith)
used_at p b s room false e h = simp e (omega arith)

pub some_used : (p s : List ℕ) (room : ℕ) → 0 < length s → 80 ≤ room → 0 < (fate builtin p s room).used
some_used p [] room n h = absurd (omega arith)
some_used p (b ∷ s) room n h = used_at p b s room (eqb b 10) refl h
