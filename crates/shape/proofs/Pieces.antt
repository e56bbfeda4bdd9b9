-- Texts put together of separators and numbers: their shapes, and how a text is told by its shape and its numbers.
use mathlib.Core.Path.{◌≡◌, refl, sym, ap, ap₂, ◌∙◌}
use mathlib.Core.Bool.{Bool, true, not, ◌&&◌}
use mathlib.Core.List.{List, [], ◌∷◌, ◌++◌, append_assoc}
use Prim.Native.Nat.{ℕ, ◌+◌, ◌^◌, ◌≤◌, ◌<◌}
use native.Mathlib.Nat.{add-zero}
use native.Mathlib.Omega.{arith}
use lib.Dec.{eqb}
use lib.ListN.{length, get_or, take, drop, length-append, length-drop, take-append-drop, drop_of_length-le}
use lib.Seq.{drop_at, drop-drop, get_or-drop}
use borrow.Author.Tests.{eqb-true, eq-eqb, not-true}
use Rattle.base.proofs.Bools.{never_both, and_true, by_two}
use Rattle.octets.specs.Places.{all_good, digit_value, digit_of, digit_good, digits, decimal_of}
use Rattle.octets.proofs.Places.{digit_rule, length_places, number_append, number_places, places_number}
use Rattle.shape.specs.Shapes.{shape_of, same}
use Rattle.shape.proofs.Tests.{fails, yes_both, same_is, is_same}
use Rattle.shape.proofs.Shapes.{zeros, kind_other, shape_append, shape_shape, shape_digits, run_in, run_out, mark_in, mark_out}

-- a separator, or a number in w digits
pub data Piece : Type 0 where
  sep : ℕ → Piece
  num : ℕ → ℕ → Piece

-- w digits, where their number does not matter
abbrev pub run : ℕ → Piece
run w = num w 0

abbrev pub spell : List Piece → List ℕ
spell [] = []
spell (sep c ∷ ps) = c ∷ spell ps
spell (num w n ∷ ps) = digits w n ++ spell ps

abbrev pub outline : List Piece → List ℕ
outline [] = []
outline (sep c ∷ ps) = c ∷ outline ps
outline (num w n ∷ ps) = zeros w ++ outline ps

abbrev pub size : List Piece → ℕ
size [] = 0
size (sep c ∷ ps) = 1 + size ps
size (num w n ∷ ps) = w + size ps

-- no separator is a digit
abbrev pub clean : List Piece → Bool
clean [] = true
clean (sep c ∷ ps) = not (digit_good c) && clean ps
clean (num w n ∷ ps) = clean ps

-- the numbers of a text from a place on
abbrev pub Agree : ℕ → List ℕ → List Piece → Type 0
Agree i s [] = Unit {0}
Agree i s (sep c ∷ ps) = Agree (i + 1) s ps
Agree i s (num w n ∷ ps) = (decimal_of (drop i s) w ≡ n) × Agree (i + w) s ps

-- the separators and digits of a text from a place on
abbrev pub Stand : ℕ → List ℕ → List Piece → Type 0
Stand i s [] = Unit {0}
Stand i s (sep c ∷ ps) = (eqb (get_or s i 0) c ≡ true) × Stand (i + 1) s ps
Stand i s (num w n ∷ ps) = (all_good digit_good (drop i s) w ≡ true) × Stand (i + w) s ps

pub spell_shape : (ps : List Piece) → clean ps ≡ true → shape_of (spell ps) ≡ outline ps
unfolding shape_of
spell_shape [] e = refl
spell_shape (sep c ∷ ps) e =
    let (a, b) = and_true (not (digit_good c)) (clean ps) e in
    ap₂ (λ (x : ℕ) (l : List ℕ). x ∷ l) (kind_other c (not-true _ a)) (spell_shape ps b)
spell_shape (num w n ∷ ps) e =
    shape_append (digits w n) (spell ps) ∙ ap₂ (λ (a b : List ℕ). a ++ b) (shape_digits w n) (spell_shape ps e)

-- the numbers of what was spelled are those that it was spelled from
abbrev pub Small : List Piece → Type 0
Small [] = Unit {0}
Small (sep c ∷ ps) = Small ps
Small (num w n ∷ ps) = (n < 10 ^ w) × Small ps

agree_behind : (p : List ℕ) (ps : List Piece) → Small ps → Agree (length p) (p ++ spell ps) ps
agree_behind p [] h = tt
agree_behind p (sep c ∷ ps) h =
    rw (append_assoc p (c ∷ []) (spell ps), length-append p (c ∷ [])) at (agree_behind (p ++ (c ∷ [])) ps h)
agree_behind p (num w n ∷ ps) (l, h) =
    let d : length (digits w n) ≡ w = length_places 10 digit_of w n in (
      ap (λ (t : List ℕ). decimal_of t w) (drop_at p (digits w n ++ spell ps) (length p) refl)
          ∙ number_append 10 digit_value (digits w n) (spell ps) w (omega arith)
          ∙ number_places digit_rule w n l,
      rw (append_assoc p (digits w n) (spell ps), length-append p (digits w n), d) at (agree_behind (p ++ digits w n) ps h),
    )

pub agree_spelled : (ps : List Piece) → Small ps → Agree 0 (spell ps) ps
agree_spelled ps h = agree_behind [] ps h

-- a text is told by its shape and its numbers
pub spelled : (ps : List Piece) (s : List ℕ) (i : ℕ) → clean ps ≡ true → shape_of (drop i s) ≡ outline ps → Agree i s ps → drop i s ≡ spell ps
unfolding shape_of
spelled [] s i e f a = none (drop i s) f
  where
    none : (t : List ℕ) → shape_of t ≡ [] → t ≡ []
    none [] h = refl
    none (x ∷ t) h = let z : ◌≡◌ {A = ℕ} 0 1 = cc in absurd (omega arith)
spelled (sep c ∷ ps) s i e f a =
    let (x, b) = and_true (not (digit_good c)) (clean ps) e in
    let (p, q) = mark_in c (outline ps) (drop i s) (not-true _ x) f in
    p ∙ ap (λ (l : List ℕ). c ∷ l) (drop-drop 1 i s ∙ spelled ps s (i + 1) b (rw drop-drop at q) a)
spelled (num w n ∷ ps) s i e f (a, b) =
    let (l, g, q) = run_in w (outline ps) (drop i s) f in
    let d : digits w n ≡ take w (drop i s) = ap (digits w) (sym a) ∙ places_number digit_rule (drop i s) w l g in
    sym (take-append-drop w (drop i s))
    ∙ ap₂ (λ (x y : List ℕ). x ++ y) (sym d) (drop-drop w i s ∙ spelled ps s (i + w) e (rw drop-drop at q) b)

-- a text whose separators and digits stand has the shape
pub stands : (ps : List Piece) (s : List ℕ) (i : ℕ) → clean ps ≡ true → length s ≡ i + size ps → Stand i s ps → shape_of (drop i s) ≡ outline ps
unfolding shape_of
stands [] s i e l t = let n : drop i s ≡ [] = drop_of_length-le s {i = i} (omega arith) in rw n
stands (sep c ∷ ps) s i e l (m, t) =
    let (x, b) = and_true (not (digit_good c)) (clean ps) e in
    let k : 1 ≤ length (drop i s) = simp length-drop (omega arith) in
    mark_out c (outline ps) (drop i s) (not-true _ x) k (rw (get_or-drop, add-zero) m) (rw drop-drop (stands ps s (i + 1) b (omega arith) t))
stands (num w n ∷ ps) s i e l (g, t) =
    let k : w ≤ length (drop i s) = simp length-drop (omega arith) in
    run_out w (outline ps) (drop i s) k g (rw drop-drop (stands ps s (i + w) e (omega arith) t))

-- its outline is of the same shape
pub outlined : (ps : List Piece) → clean ps ≡ true → shape_of (spell ps) ≡ shape_of (outline ps)
outlined ps e = sym (shape_shape (spell ps)) ∙ ap shape_of (spell_shape ps e)

-- the same agreement as a test
abbrev pub agree : ℕ → List ℕ → List Piece → Bool
agree i s [] = true
agree i s (sep c ∷ ps) = agree (i + 1) s ps
agree i s (num w n ∷ ps) = eqb (decimal_of (drop i s) w) n && agree (i + w) s ps

pub agree_is : (i : ℕ) (s : List ℕ) (ps : List Piece) → agree i s ps ≡ true → Agree i s ps
agree_is i s [] e = tt
agree_is i s (sep c ∷ ps) e = agree_is (i + 1) s ps e
agree_is i s (num w n ∷ ps) e =
    let (a, b) = and_true (eqb (decimal_of (drop i s) w) n) (agree (i + w) s ps) e in
    (eqb-true (decimal_of (drop i s) w) n a, agree_is (i + w) s ps b)

pub is_agree : (i : ℕ) (s : List ℕ) (ps : List Piece) → Agree i s ps → agree i s ps ≡ true
is_agree i s [] h = refl
is_agree i s (sep c ∷ ps) h = is_agree (i + 1) s ps h
is_agree i s (num w n ∷ ps) (e, h) = yes_both (eq-eqb (decimal_of (drop i s) w) n e) (is_agree (i + w) s ps h)

-- a number in w digits is another exactly if the texts are the same
pub same_digits : (w n m : ℕ) → n < 10 ^ w → m < 10 ^ w → same (digits w n) (digits w m) ≡ eqb m n
same_digits w n m h k =
    by_two (same (digits w n) (digits w m)) (eqb m n)
    (λ e. eq-eqb m n (sym (number_places digit_rule w m k) ∙ ap (λ (t : List ℕ). decimal_of t w) (sym (same_is (digits w n) (digits w m) e)) ∙ number_places digit_rule w n h))
    (λ e. fails (eqb m n) (λ f. never_both (is_same (digits w n) (digits w m) (ap (digits w) (sym (eqb-true m n f)))) e))
