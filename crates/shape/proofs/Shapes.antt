-- The shape of a text: its characters, its length, its separators and its digits; and a test that holds of every shape of a list holds of the shape of each text that has one of them.
use mathlib.Core.Path.{◌≡◌, refl, sym, ap, ap₂, subst, ◌∙◌}
use mathlib.Core.Bool.{Bool, true, false, ◌&&◌, ◌||◌, false≢true}
use mathlib.Core.List.{List, [], ◌∷◌, ◌++◌, map}
use Prim.Native.Nat.{ℕ, zero, suc, ◌+◌, ◌≤◌, ◌<◌}
use native.Mathlib.Nat.{not-suc-le-zero, le_of_suc-le-suc}
use native.Mathlib.Omega.{arith}
use borrow.Author.Tests.{ne_eqb, eqb-true}
use lib.Dec.{eqb}
use lib.ListN.{length, get_or, take, drop, replicate, length-append, length-replicate, take-append-drop, length-map, get_or-map}
use lib.Seq.{take-length, drop_at}
use Rattle.base.proofs.Bools.{never_both, and_true, and_one, and_assoc, cond_yes, cond_no}
use Rattle.octets.specs.Places.{digit_good, digit_of, digits, all_good}
use Rattle.octets.proofs.Places.{digit_rule, all_good_lem, places_good, length_places}
use Rattle.shape.specs.Shapes.{kind_of, shape_of, Shapes, same, fits, shaped}
use Rattle.shape.specs.Parts.{followed}
use Rattle.shape.proofs.Tests.{passes, or_left, or_right, same_is, is_same}

-- ---- a character
pub kind_digit : (b : ℕ) → digit_good b ≡ true → kind_of b ≡ 48
kind_digit b e = cond_yes 48 b e

pub kind_other : (b : ℕ) → digit_good b ≡ false → kind_of b ≡ b
kind_other b e = cond_no 48 b e

-- a digit's is a digit, and no other's
pub kind_good : (b : ℕ) → digit_good (kind_of b) ≡ digit_good b
kind_good b = go (digit_good b) refl
  where
    go : (t : Bool) → digit_good b ≡ t → digit_good (kind_of b) ≡ digit_good b
    go true f = ap digit_good (kind_digit b f) ∙ sym f
    go false f = ap digit_good (kind_other b f)

pub kind_kind : (b : ℕ) → kind_of (kind_of b) ≡ kind_of b
kind_kind b = go (digit_good b) refl
  where
    go : (t : Bool) → digit_good b ≡ t → kind_of (kind_of b) ≡ kind_of b
    go true f = ap kind_of (kind_digit b f) ∙ sym (kind_digit b f)
    go false f = ap kind_of (kind_other b f)

pub other_kind : (b c : ℕ) → digit_good c ≡ false → kind_of b ≡ c → b ≡ c
other_kind b c n e = go (digit_good b) refl
  where
    go : (t : Bool) → digit_good b ≡ t → b ≡ c
    go true f = never_both (kind_good b ∙ f) (ap digit_good e ∙ n)
    go false f = sym (kind_other b f) ∙ e

-- a separator is itself, and nothing else becomes one
pub kind_sep : (b c : ℕ) → digit_good c ≡ false → eqb (kind_of b) c ≡ eqb b c
kind_sep b c n = go (digit_good b) refl
  where
    go : (t : Bool) → digit_good b ≡ t → eqb (kind_of b) c ≡ eqb b c
    go true f =
        ne_eqb (kind_of b) c (λ e. never_both (kind_good b ∙ f) (ap digit_good e ∙ n))
        ∙ sym (ne_eqb b c (λ e. never_both f (ap digit_good e ∙ n)))
    go false f = ap (λ (k : ℕ). eqb k c) (kind_other b f)

-- ---- a text
pub shape_length : (s : List ℕ) → length (shape_of s) ≡ length s
unfolding shape_of
shape_length s = length-map s kind_of

pub shape_append : (a b : List ℕ) → shape_of (a ++ b) ≡ shape_of a ++ shape_of b
unfolding shape_of
shape_append [] b = refl
shape_append (x ∷ a) b = ap (λ (l : List ℕ). kind_of x ∷ l) (shape_append a b)

pub shape_take : (n : ℕ) (s : List ℕ) → shape_of (take n s) ≡ take n (shape_of s)
unfolding shape_of
shape_take zero s = refl
shape_take (suc n) [] = refl
shape_take (suc n) (b ∷ s) = ap (λ (l : List ℕ). kind_of b ∷ l) (shape_take n s)

pub shape_drop : (n : ℕ) (s : List ℕ) → shape_of (drop n s) ≡ drop n (shape_of s)
unfolding shape_of
shape_drop zero s = refl
shape_drop (suc n) [] = refl
shape_drop (suc n) (b ∷ s) = shape_drop n s

-- a shape is its own
pub shape_shape : (s : List ℕ) → shape_of (shape_of s) ≡ shape_of s
unfolding shape_of
shape_shape [] = refl
shape_shape (b ∷ s) = ap₂ (λ (x : ℕ) (l : List ℕ). x ∷ l) (kind_kind b) (shape_shape s)

pub kind_at : (s : List ℕ) (i : ℕ) → get_or (shape_of s) i 0 ≡ kind_of (get_or s i 0)
unfolding shape_of
kind_at s i = get_or-map kind_of s i 0

-- its separators stand where the text's do
pub sep_at : (s : List ℕ) (i c : ℕ) → digit_good c ≡ false → eqb (get_or (shape_of s) i 0) c ≡ eqb (get_or s i 0) c
sep_at s i c n = ap (λ (k : ℕ). eqb k c) (kind_at s i) ∙ kind_sep (get_or s i 0) c n

-- and so do its digits
pub digits_in : (s : List ℕ) (w : ℕ) → all_good digit_good (shape_of s) w ≡ all_good digit_good s w
digits_in s zero = refl
digits_in s (suc w) = ap₂ ◌&&◌ (digits_in s w) (ap digit_good (kind_at s w) ∙ kind_good (get_or s w 0))

pub digits_at : (s : List ℕ) (i w : ℕ) → all_good digit_good (drop i (shape_of s)) w ≡ all_good digit_good (drop i s) w
digits_at s i w = ap (λ (t : List ℕ). all_good digit_good t w) (sym (shape_drop i s)) ∙ digits_in (drop i s) w

-- ---- digits only
abbrev pub zeros : ℕ → List ℕ
zeros w = replicate w 48

zeros_good : (w : ℕ) (q : List ℕ) → all_good digit_good (zeros w ++ q) w ≡ true
zeros_good w q = all_good_lem digit_good (zeros w ++ q) w (zero_at w q)
  where
    zero_at : (w : ℕ) (q : List ℕ) (i : ℕ) → i < w → digit_good (get_or (zeros w ++ q) i 0) ≡ true
    zero_at zero q i h = absurd (not-suc-le-zero h)
    zero_at (suc w) q zero h = refl
    zero_at (suc w) q (suc i) h = zero_at w q i (le_of_suc-le-suc h)

good_first : (b : ℕ) (s : List ℕ) (w : ℕ) → all_good digit_good (b ∷ s) (suc w) ≡ digit_good b && all_good digit_good s w
good_first b s zero = and_one (digit_good b)
good_first b s (suc w) =
    ap (λ (t : Bool). t && digit_good (get_or s w 0)) (good_first b s w)
    ∙ and_assoc (digit_good b) (all_good digit_good s w) (digit_good (get_or s w 0))

good_zeros : (w : ℕ) (s : List ℕ) → w ≤ length s → all_good digit_good s w ≡ true → shape_of (take w s) ≡ zeros w
unfolding shape_of
good_zeros zero s l g = refl
good_zeros (suc w) [] l g = absurd (not-suc-le-zero l)
good_zeros (suc w) (b ∷ s) l g =
    let (x, y) = and_true (digit_good b) (all_good digit_good s w) (sym (good_first b s w) ∙ g) in
    ap₂ (λ (k : ℕ) (t : List ℕ). k ∷ t) (kind_digit b x) (good_zeros w s (le_of_suc-le-suc l) y)

pub good_shape : (s : List ℕ) → all_good digit_good s (length s) ≡ true → shape_of s ≡ zeros (length s)
good_shape s g = ap shape_of (sym (take-length s)) ∙ good_zeros (length s) s (omega arith) g

pub shape_digits : (w n : ℕ) → shape_of (digits w n) ≡ zeros w
shape_digits w n =
    let l : length (digits w n) ≡ w = length_places 10 digit_of w n in
    rw l at (good_shape (digits w n) (rw l (places_good digit_rule w n)))

-- w digits and what follows
pub run_in : (w : ℕ) (q s : List ℕ) → shape_of s ≡ zeros w ++ q → (w ≤ length s) × (all_good digit_good s w ≡ true) × (shape_of (drop w s) ≡ q)
run_in w q s e = (
  omega (arith, shape_length s, ap length e, length-append (zeros w) q, length-replicate {A = ℕ} w 48),
  sym (digits_in s w) ∙ ap (λ (t : List ℕ). all_good digit_good t w) e ∙ zeros_good w q,
  shape_drop w s ∙ ap (drop w) e ∙ drop_at (zeros w) q w (length-replicate {A = ℕ} w 48),
)

pub run_out : (w : ℕ) (q s : List ℕ) → w ≤ length s → all_good digit_good s w ≡ true → shape_of (drop w s) ≡ q → shape_of s ≡ zeros w ++ q
run_out w q s l g e =
    ap shape_of (sym (take-append-drop w s))
    ∙ shape_append (take w s) (drop w s)
    ∙ ap₂ (λ (a b : List ℕ). a ++ b) (good_zeros w s l g) e

-- a separator and what follows
pub mark_in : (c : ℕ) (q s : List ℕ) → digit_good c ≡ false → shape_of s ≡ c ∷ q → (s ≡ c ∷ drop 1 s) × (shape_of (drop 1 s) ≡ q)
unfolding shape_of
mark_in c q [] n e = let z : ◌≡◌ {A = ℕ} 0 1 = cc in absurd (omega arith)
mark_in c q (b ∷ s) n e =
    let h : kind_of b ≡ c = cc in
    (rw (other_kind b c n h), cc)

pub mark_out : (c : ℕ) (q s : List ℕ) → digit_good c ≡ false → 1 ≤ length s → eqb (get_or s 0 0) c ≡ true → shape_of (drop 1 s) ≡ q → shape_of s ≡ c ∷ q
unfolding shape_of
mark_out c q [] n l m e = absurd (not-suc-le-zero l)
mark_out c q (b ∷ s) n l m e =
    ap₂ (λ (k : ℕ) (t : List ℕ). k ∷ t) (ap kind_of (eqb-true b c m) ∙ kind_other c n) e

-- ---- a text that has one of the shapes
-- a test that holds of each holds of the text's own
pub each_shape : (P : List ℕ → Bool) (ps : Shapes) (s : List ℕ) → passes P ps ≡ true → shaped ps s ≡ true → P (shape_of s) ≡ true
unfolding shaped
each_shape P [] s h e = absurd (false≢true e)
each_shape P (p ∷ ps) s h e =
    let (a, b) = and_true (P p) (passes P ps) h in
    go (fits p s) refl a e (λ k. each_shape P ps s b k)
  where
    go : (t : Bool) → fits p s ≡ t → P p ≡ true → t || shaped ps s ≡ true → (shaped ps s ≡ true → P (shape_of s) ≡ true) → P (shape_of s) ≡ true
    go true f a e k = subst (λ (q : List ℕ). P q ≡ true) (same_is p (shape_of s) f) a
    go false f a e k = k e

-- a text of the same shape has one of them too
pub shaped_alike : (ps : Shapes) (s t : List ℕ) → shape_of s ≡ shape_of t → shaped ps s ≡ shaped ps t
unfolding shaped
shaped_alike [] s t e = refl
shaped_alike (p ∷ ps) s t e = ap₂ ◌||◌ (ap (same p) e) (shaped_alike ps s t e)

-- lists of shapes, put together
pub shaped_first : (ps qs : Shapes) (s : List ℕ) → shaped ps s ≡ true → shaped (ps ++ qs) s ≡ true
unfolding shaped
shaped_first [] qs s e = absurd (false≢true e)
shaped_first (p ∷ ps) qs s e = go (fits p s) e (shaped_first ps qs s)
  where
    go : (t : Bool) → t || shaped ps s ≡ true → (shaped ps s ≡ true → shaped (ps ++ qs) s ≡ true) → t || shaped (ps ++ qs) s ≡ true
    go true e k = refl
    go false e k = k e

pub shaped_second : (ps qs : Shapes) (s : List ℕ) → shaped qs s ≡ true → shaped (ps ++ qs) s ≡ true
unfolding shaped
shaped_second [] qs s e = e
shaped_second (p ∷ ps) qs s e = or_right (fits p s) (shaped_second ps qs s e)

after_one : (p a b : List ℕ) (qs : Shapes) → fits p a ≡ true → shaped qs b ≡ true → shaped (map (λ q. p ++ q) qs) (a ++ b) ≡ true
unfolding shaped
after_one p a b [] f e = absurd (false≢true e)
after_one p a b (q ∷ qs) f e = go (fits q b) refl e (after_one p a b qs f)
  where
    go : (t : Bool) → fits q b ≡ t → t || shaped qs b ≡ true → (shaped qs b ≡ true → shaped (map (λ q. p ++ q) qs) (a ++ b) ≡ true) → fits (p ++ q) (a ++ b) || shaped (map (λ q. p ++ q) qs) (a ++ b) ≡ true
    go true g e k = or_left (shaped (map (λ q. p ++ q) qs) (a ++ b)) (is_same (p ++ q) (shape_of (a ++ b)) (ap₂ (λ (x y : List ℕ). x ++ y) (same_is p (shape_of a) f) (same_is q (shape_of b) g) ∙ sym (shape_append a b)))
    go false g e k = or_right (fits (p ++ q) (a ++ b)) (k e)

pub shaped_followed : (ps qs : Shapes) (a b : List ℕ) → shaped ps a ≡ true → shaped qs b ≡ true → shaped (followed ps qs) (a ++ b) ≡ true
unfolding shaped
shaped_followed [] qs a b e f = absurd (false≢true e)
shaped_followed (p ∷ ps) qs a b e f = go (fits p a) refl e (λ k. shaped_followed ps qs a b k f)
  where
    go : (t : Bool) → fits p a ≡ t → t || shaped ps a ≡ true → (shaped ps a ≡ true → shaped (followed ps qs) (a ++ b) ≡ true) → shaped (map (λ q. p ++ q) qs ++ followed ps qs) (a ++ b) ≡ true
    go true g e k = shaped_first (map (λ q. p ++ q) qs) (followed ps qs) (a ++ b) (after_one p a b qs g f)
    go false g e k = shaped_second (map (λ q. p ++ q) qs) (followed ps qs) (a ++ b) (k e)
