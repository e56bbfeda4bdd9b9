-- The permitted shapes, and the same tests made directly: a text has one of the shapes exactly if it is as long as its own layout's codes, has their separators, and has digits elsewhere.
use mathlib.Core.Path.{◌≡◌, refl, sym, ap, ap₂, ◌∙◌}
use mathlib.Core.Bool.{Bool, true, false, not, ◌&&◌, ◌||◌, false≢true}
use mathlib.Core.List.{List, [], ◌∷◌, ◌++◌}
use Prim.Native.Nat.{ℕ, zero, suc, ◌+◌, ◌-◌, ◌*◌, ◌/◌, ◌%◌, ◌≤◌}
use native.Mathlib.Omega.{arith}
use borrow.Author.Tests.{eqb-true, ne_eqb, leb-true, le-leb, not-false}
use lib.Dec.{eqb}
use lib.ListN.{length}
use Rattle.base.proofs.Bools.{and_true}
use Rattle.calendar.specs.Gregorian.{ordinal_on, date_in}
use Rattle.clock.specs.Clock.{minute_of}
use Rattle.shape.specs.Shapes.{shape_of, same, shaped}
use Rattle.shape.proofs.Tests.{passes, down_to, down_at, same_is}
use Rattle.shape.proofs.Shapes.{shape_length, shape_shape, sep_at, digits_at, each_shape, shaped_alike}
use Rattle.shape.proofs.Pieces.{Piece, sep, num, spell, outline, size, clean, Stand, spell_shape, stands}
use Rattle.ascii.specs.declared.Layout.{Layout}
use Rattle.ascii.specs.Shapes.{code_shapes}
use Rattle.ascii.specs.Ascii.{is_layout, front_of, part_size, bit, layout_of, day_text, clock_text, fraction_text, zone_text, code_text}
use Rattle.ascii.proofs.Sizes.{Placed}
use Rattle.ascii.specs.Inner.{figures_at, date_figures, clock_figures, figures, marked, separators}

abbrev pub lay : Bool → ℕ → Bool → Layout
lay o d z = record { ordinal = o; digits = d; zone = z }

-- ---- the pieces of a code
abbrev pub day_pieces : Bool → ℕ → List Piece
day_pieces true n = num 4 (ordinal_on n).year ∷ sep 45 ∷ num 3 (ordinal_on n).day ∷ []
day_pieces false n = num 4 (date_in (ordinal_on n)).year ∷ sep 45 ∷ num 2 (date_in (ordinal_on n)).month ∷ sep 45 ∷ num 2 (date_in (ordinal_on n)).day ∷ []

abbrev pub clock_pieces : ℕ → List Piece
clock_pieces x = sep 84 ∷ num 2 (minute_of x / 60) ∷ sep 58 ∷ num 2 (minute_of x % 60) ∷ sep 58 ∷ num 2 (x - minute_of x * 60) ∷ []

abbrev fraction_pieces : ℕ → ℕ → List Piece
fraction_pieces zero f = []
fraction_pieces (suc d) f = sep 46 ∷ num (suc d) f ∷ []

abbrev zone_pieces : Bool → List Piece
zone_pieces true = sep 90 ∷ []
zone_pieces false = []

abbrev pub tail_pieces : ℕ → Bool → ℕ → List Piece
tail_pieces d z f = fraction_pieces d f ++ zone_pieces z

abbrev pub code_pieces : Layout → ℕ → ℕ → ℕ → List Piece
code_pieces l n x f = day_pieces l.ordinal n ++ (clock_pieces x ++ tail_pieces l.digits l.zone f)

-- ---- the shape of a layout
abbrev pub shape_by : Layout → List ℕ
shape_by l = outline (code_pieces l 0 0 0)

tail_spells : (d : ℕ) (z : Bool) (f : ℕ) → spell (tail_pieces d z f) ≡ fraction_text d f ++ zone_text z
tail_spells zero true f = refl
tail_spells zero false f = refl
tail_spells (suc d) true f = refl
tail_spells (suc d) false f = refl

pub code_spells : (l : Layout) (n x f : ℕ) → spell (code_pieces l n x f) ≡ code_text l n x f
unfolding code_text day_text clock_text
code_spells l n x f = go l.ordinal
  where
    go : (o : Bool) → spell (day_pieces o n ++ (clock_pieces x ++ tail_pieces l.digits l.zone f)) ≡ day_text o n ++ (clock_text x ++ (fraction_text l.digits f ++ zone_text l.zone))
    go true = ap (λ (t : List ℕ). day_text true n ++ (clock_text x ++ t)) (tail_spells l.digits l.zone f)
    go false = ap (λ (t : List ℕ). day_text false n ++ (clock_text x ++ t)) (tail_spells l.digits l.zone f)

tail_clean : (d : ℕ) (z : Bool) (f : ℕ) → (clean (tail_pieces d z f) ≡ true) × (outline (tail_pieces d z f) ≡ outline (tail_pieces d z 0)) × (size (tail_pieces d z f) ≡ part_size d + bit z)
tail_clean zero true f = (refl, refl, refl)
tail_clean zero false f = (refl, refl, refl)
tail_clean (suc d) z f = rw (ne_eqb (suc d) 0 (λ k. omega (arith, k))) (go z)
  where
    go : (z : Bool) → (clean (tail_pieces (suc d) z f) ≡ true) × (outline (tail_pieces (suc d) z f) ≡ outline (tail_pieces (suc d) z 0)) × (size (tail_pieces (suc d) z f) ≡ suc d + 1 + bit z)
    go true = (refl, refl, omega arith)
    go false = (refl, refl, omega arith)

pub code_clean : (l : Layout) (n x f : ℕ) → (clean (code_pieces l n x f) ≡ true) × (outline (code_pieces l n x f) ≡ shape_by l) × (size (code_pieces l n x f) ≡ front_of l.ordinal + part_size l.digits + bit l.zone)
code_clean l n x f = go l.ordinal (tail_clean l.digits l.zone f)
  where
    go : (o : Bool) → (clean (tail_pieces l.digits l.zone f) ≡ true) × (outline (tail_pieces l.digits l.zone f) ≡ outline (tail_pieces l.digits l.zone 0)) × (size (tail_pieces l.digits l.zone f) ≡ part_size l.digits + bit l.zone)
        → (clean (day_pieces o n ++ (clock_pieces x ++ tail_pieces l.digits l.zone f)) ≡ true) × (outline (day_pieces o n ++ (clock_pieces x ++ tail_pieces l.digits l.zone f)) ≡ outline (day_pieces o 0 ++ (clock_pieces 0 ++ tail_pieces l.digits l.zone 0))) × (size (day_pieces o n ++ (clock_pieces x ++ tail_pieces l.digits l.zone f)) ≡ front_of o + part_size l.digits + bit l.zone)
    go true (a, b, c) = (a, ap (λ (t : List ℕ). outline (day_pieces true 0 ++ clock_pieces 0) ++ t) b, omega arith)
    go false (a, b, c) = (a, ap (λ (t : List ℕ). outline (day_pieces false 0 ++ clock_pieces 0) ++ t) b, omega arith)

-- what is written has the shape of its layout
pub code_shape : (l : Layout) (n x f : ℕ) → shape_of (code_text l n x f) ≡ shape_by l
code_shape l n x f =
    let (a, b, c) = code_clean l n x f in
    ap shape_of (sym (code_spells l n x f)) ∙ spell_shape (code_pieces l n x f) a ∙ b

-- ---- each layout's shape is one of them, and tells the layout
pub layout_shape : (s : List ℕ) → layout_of (shape_of s) ≡ layout_of s
unfolding layout_of
layout_shape s = rw (shape_length s, sep_at s 7 45 refl, sep_at s (length s - 1) 90 refl)

abbrev alike_bits : Bool → Bool → Bool
alike_bits true b = b
alike_bits false b = not b

bits_are : (a b : Bool) → alike_bits a b ≡ true → a ≡ b
bits_are true true e = refl
bits_are true false e = absurd (false≢true e)
bits_are false true e = absurd (false≢true e)
bits_are false false e = refl

abbrev told : Bool → Bool → ℕ → Bool
told o z d =
    let p = shape_by (lay o d z) in
    shaped code_shapes p && (alike_bits (layout_of p).ordinal o && (eqb (layout_of p).digits d && alike_bits (layout_of p).zone z))

all_told : (o z : Bool) → down_to 13 (told o z) ≡ true
unfolding code_shapes shaped shape_of layout_of
all_told true true = refl
all_told true false = refl
all_told false true = refl
all_told false false = refl

lay_is : (l : Layout) (o : Bool) (d : ℕ) (z : Bool) → l.ordinal ≡ o → l.digits ≡ d → l.zone ≡ z → l ≡ lay o d z
lay_is l o d z p q r = λ i. record { ordinal = p i; digits = q i; zone = r i }

pub own_shaped : (l : Layout) (s : List ℕ) → is_layout l ≡ true → shape_of s ≡ shape_by l → (shaped code_shapes s ≡ true) × (layout_of s ≡ l)
own_shaped l s h e =
    let o = l.ordinal in
    let d = l.digits in
    let z = l.zone in
    let p = shape_by l in
    let (a, b) = and_true _ _ (down_at 13 (told o z) (all_told o z) d (let k : d ≤ 12 = leb-true d 12 h in omega arith)) in
    let (f, g) = and_true _ _ b in
    let (u, v) = and_true _ _ g in (
      shaped_alike code_shapes s p (sym (shape_shape s) ∙ ap shape_of e) ∙ a,
      sym (layout_shape s) ∙ ap layout_of e ∙ lay_is (layout_of p) o d z (bits_are _ _ f) (eqb-true _ _ u) (bits_are _ _ v),
    )

-- ---- each of the shapes is that of its own layout, and passes the tests that the code makes
pub record Right (l : Layout) (s : List ℕ) : Type 0 where
  pub own : shape_of s ≡ shape_by l
  pub seps : separators l s ≡ true
  pub figs : figures l s ≡ true

abbrev right : List ℕ → Bool
right p =
    let l = layout_of p in
    same p (shape_by l) && (is_layout l && (eqb (length p) (front_of l.ordinal + part_size l.digits + bit l.zone) && (separators l p && figures l p)))

count : length code_shapes ≡ 52
unfolding code_shapes
count = refl

all_right : passes right code_shapes ≡ true
unfolding code_shapes layout_of separators figures date_figures clock_figures
all_right = refl

-- the tests are the same on a text and on its shape
separators_shape : (l : Layout) (s : List ℕ) → separators l (shape_of s) ≡ separators l s
unfolding separators
separators_shape l s =
    let e = front_of l.ordinal in
    rw (sep_at s 4 45 refl, sep_at s (e - 9) 84 refl, sep_at s (e - 6) 58 refl, sep_at s (e - 3) 58 refl, sep_at s e 46 refl)

figures_shape : (l : Layout) (s : List ℕ) → figures l (shape_of s) ≡ figures l s
unfolding figures date_figures clock_figures
figures_shape l s =
    let e = front_of l.ordinal in
    ap₂ ◌&&◌ (date l.ordinal) (rw (digits_at s (e - 8) 2, digits_at s (e - 8 + 3) 2, digits_at s (e - 8 + 6) 2, digits_at s (e + 1) l.digits))
  where
    date : (o : Bool) → date_figures o (shape_of s) ≡ date_figures o s
    date true = rw (digits_at s 0 4, digits_at s 5 3)
    date false = rw (digits_at s 0 4, digits_at s 5 2, digits_at s 8 2)

-- "a permitted shape is a pattern of digits and separators"
pub shaped_right : (s : List ℕ) → shaped code_shapes s ≡ true → (Placed (layout_of s) (length s)) × (Right (layout_of s) s)
shaped_right s e =
    let l = layout_of s in
    let k = layout_shape s in
    let (a, b) = and_true _ _ (each_shape right code_shapes s all_right e) in
    let (c, d) = and_true _ _ b in
    let (i, j) = and_true _ _ d in
    let (f, g) = and_true _ _ j in
    let n : length (shape_of s) ≡ front_of l.ordinal + part_size l.digits + bit l.zone = eqb-true _ _ i ∙ ap (λ (m : Layout). front_of m.ordinal + part_size m.digits + bit m.zone) k in (
      record { few = leb-true l.digits 12 (ap is_layout (sym k) ∙ c); size = sym (shape_length s) ∙ n },
      record {
        own = same_is _ _ a ∙ ap shape_by k;
        seps = sym (separators_shape l s) ∙ ap (λ (m : Layout). separators m (shape_of s)) (sym k) ∙ f;
        figs = sym (figures_shape l s) ∙ ap (λ (m : Layout). figures m (shape_of s)) (sym k) ∙ g;
      },
    )

-- its own layout tells the second dash and Z
tail_stand : (d : ℕ) (z : Bool) (s : List ℕ) (at : ℕ) → length s ≡ at + part_size d + bit z → eqb d 0 || marked s at 46 ≡ true → figures_at s (at + 1) d ≡ true → (z ≡ true → marked s (length s - 1) 90 ≡ true) → Stand at s (tail_pieces d z 0)
tail_stand zero true s at h m f y = let k : length s - 1 ≡ at = omega arith in (rw k at (y refl), tt)
tail_stand zero false s at h m f y = tt
tail_stand (suc d) z s at h m f y = let n = ne_eqb (suc d) 0 (λ k. omega (arith, k)) in (rw n at m, (f, go z (rw n at h) y))
  where
    go : (z : Bool) → length s ≡ at + (suc d + 1) + bit z → (z ≡ true → marked s (length s - 1) 90 ≡ true) → Stand (at + 1 + suc d) s (zone_pieces z)
    go true h y = let k : length s - 1 ≡ at + 1 + suc d = omega arith in (rw k at (y refl), tt)
    go false h y = tt

stand_by : (o : Bool) (d : ℕ) (z : Bool) (s : List ℕ) → length s ≡ front_of o + part_size d + bit z → separators (lay o d z) s ≡ true → figures (lay o d z) s ≡ true → (o ≡ false → marked s 7 45 ≡ true) → (z ≡ true → marked s (length s - 1) 90 ≡ true) → Stand 0 s (code_pieces (lay o d z) 0 0 0)
unfolding separators figures date_figures clock_figures
stand_by o d z s h p f x y =
    let (a, p) = and_true _ _ p in
    let (t, p) = and_true _ _ p in
    let (b, p) = and_true _ _ p in
    let (c, p) = and_true _ _ p in
    let (q, f) = and_true _ _ f in
    let (k, g) = and_true _ _ f in
    let (i, k) = and_true _ _ k in
    let (j, k) = and_true _ _ k in
    go o h a t b c p q i j k g x
  where
    go : (o : Bool) → length s ≡ front_of o + part_size d + bit z → marked s 4 45 ≡ true → marked s (front_of o - 9) 84 ≡ true → marked s (front_of o - 6) 58 ≡ true → marked s (front_of o - 3) 58 ≡ true → eqb d 0 || marked s (front_of o) 46 ≡ true → date_figures o s ≡ true
        → figures_at s (front_of o - 8) 2 ≡ true → figures_at s (front_of o - 8 + 3) 2 ≡ true → figures_at s (front_of o - 8 + 6) 2 ≡ true → figures_at s (front_of o + 1) d ≡ true → (o ≡ false → marked s 7 45 ≡ true) → Stand 0 s (code_pieces (lay o d z) 0 0 0)
    go true h a t b c p q i j k g x = let (u, v) = and_true _ _ q in (u, (a, (v, (t, (i, (b, (j, (c, (k, tail_stand d z s 17 h p g y)))))))))
    go false h a t b c p q i j k g x =
        let (u, q) = and_true _ _ q in
        let (v, w) = and_true _ _ q in
        (u, (a, (v, (x refl, (w, (t, (i, (b, (j, (c, (k, tail_stand d z s 19 h p g y)))))))))))

pub right_shaped : (s : List ℕ) → Placed (layout_of s) (length s) → separators (layout_of s) s ≡ true → figures (layout_of s) s ≡ true → shaped code_shapes s ≡ true
unfolding layout_of
right_shaped s h p f =
    let l = layout_of s in
    let (a, b, c) = code_clean l 0 0 0 in
    (own_shaped l s (le-leb l.digits 12 h.few)
    (stands (code_pieces l 0 0 0) s 0 a (h.size ∙ sym c ∙ omega arith) (stand_by l.ordinal l.digits l.zone s h.size p f (λ x. not-false _ x) (λ x. x)) ∙ b)).0
