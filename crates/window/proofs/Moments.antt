-- What a filter over a window holds: laws over any naming rule.
use mathlib.Core.Bool.{Bool, true, false}
use mathlib.Core.List.{List, [], ◌∷◌, ◌++◌}
use mathlib.Core.Logic.{◌⊎◌, inl, inr, ⊎_elim}
use mathlib.Core.Path.{◌≡◌, refl, sym, ◌∙◌, ap, subst}
use Prim.Native.Nat.{ℕ, zero, suc, ◌+◌, ◌-◌, ◌≤◌, ◌<◌}
use native.Mathlib.Nat.{add-zero, eq-or-lt_of_le}
use native.Mathlib.Decide.{dec_le}
use lib.ListN.{length}
use native.Mathlib.Numerals.{add-one}
use native.Mathlib.Omega.{arith}
use Rattle.window.specs.Window.{up, range, cons_if, filter, named_in, Unnamed, first_of}
use Rattle.std.specs.Prelude.{Some, None}

pub le_or_lt : (b a : ℕ) → (b ≤ a) ⊎ (a < b)
le_or_lt b a = go (dec_le b a)
  where
    go : Dec (b ≤ a) → (b ≤ a) ⊎ (a < b)
    go (yes h) = inl h
    go (no h) = inr (omega arith)

pub range_none : {a b : ℕ} → b ≤ a → range a b ≡ []
unfolding range up
range_none {a} {b} h = let e : b - a ≡ 0 = omega arith in ap (λ (k : ℕ). up k a) e

pub range_cons : {a b : ℕ} → a < b → range a b ≡ a ∷ range (suc a) b
unfolding range up
range_cons {a} {b} h = let e : b - a ≡ suc (b - suc a) = omega arith in ap (λ (k : ℕ). up k a) e

-- a rule that names m, the least one from a on, before e
pub record Least (p : ℕ → Bool) (a e m : ℕ) : Type 0 where
  pub from : a ≤ m
  pub before : m < e
  pub named : p m ≡ true
  pub none : Unnamed p a m

module _ (p : ℕ → Bool) where
  pub empty : {a b : ℕ} → b ≤ a → named_in p a b ≡ []
  unfolding named_in filter
  empty h = ap (filter p) (range_none h)

  pub look : {a b : ℕ} → a < b → named_in p a b ≡ cons_if (p a) a (named_in p (suc a) b)
  unfolding named_in filter
  look h = ap (filter p) (range_cons h)

  -- a named one is the first
  pub hit : {a b : ℕ} → a < b → p a ≡ true → named_in p a b ≡ a ∷ named_in p (suc a) b
  unfolding cons_if
  hit {a} {b} h t = look h ∙ ap (λ (q : Bool). cons_if q a (named_in p (suc a) b)) t

  -- one that is not named is passed over
  pub miss : {a : ℕ} (b : ℕ) → p a ≡ false → named_in p a b ≡ named_in p (suc a) b
  unfolding cons_if
  miss {a} b f =
      ⊎_elim
      (λ (h : b ≤ a). empty h ∙ sym (empty (omega arith)))
      (λ (h : a < b). look h ∙ ap (λ (q : Bool). cons_if q a (named_in p (suc a) b)) f)
      (le_or_lt b a)

  skip_by : (n a b : ℕ) → Unnamed p a (a + n) → named_in p a b ≡ named_in p (a + n) b
  skip_by zero a b f = ap (λ (k : ℕ). named_in p k b) (omega arith)
  skip_by (suc n) a b f =
      miss b (f a (omega arith) (omega arith))
      ∙ (skip_by n (suc a) b (λ k l h. f k (omega arith) (omega arith))
      ∙ ap (λ (k : ℕ). named_in p k b) (omega arith))

  -- a stretch with none named is passed over; it may run past the window's end
  pub skip : {a m : ℕ} (b : ℕ) → a ≤ m → Unnamed p a m → named_in p a b ≡ named_in p m b
  skip {a} {m} b h f =
      skip_by (m - a) a b (λ k l g. f k l (omega arith)) ∙ ap (λ (k : ℕ). named_in p k b) (omega arith)

  -- THE STEP: the least one from a on is the first of the list, and the rest is the list from the next second on
  pub step : {a e m : ℕ} (b : ℕ) → m < b → Least p a e m → named_in p a b ≡ m ∷ named_in p (m + 1) b
  step {a} {e} {m} b h l =
      skip b l.from l.none ∙ (hit h l.named ∙ ap (λ (k : ℕ). m ∷ named_in p k b) (sym (add-one m)))

  -- THE END: none named, an empty list
  pub none_left : {a b : ℕ} → Unnamed p a b → named_in p a b ≡ []
  none_left {a} {b} f =
      ⊎_elim (λ (h : b ≤ a). empty h) (λ (h : a < b). skip b (omega arith) f ∙ empty (omega arith)) (le_or_lt b a)

  -- one second more on the left of both
  splice_one : {a m b : ℕ} → a < m → m ≤ b → named_in p (suc a) b ≡ named_in p (suc a) m ++ named_in p m b → named_in p a b ≡ named_in p a m ++ named_in p m b
  splice_one {a} {m} {b} h g rest = go (p a) refl
    where
      go : (q : Bool) → p a ≡ q → named_in p a b ≡ named_in p a m ++ named_in p m b
      go true t = rw (hit {a = a} {b = b} (omega arith) t, hit {a = a} {b = m} h t) (ap (λ (l : List ℕ). a ∷ l) rest)
      go false f = rw (miss {a = a} b f, miss {a = a} m f) rest

  splice_by : (n a b : ℕ) → a + n ≤ b → named_in p a b ≡ named_in p a (a + n) ++ named_in p (a + n) b
  splice_by zero a b h = rw (add-zero a, empty {a = a} {b = a} (omega arith))
  splice_by (suc n) a b h =
      splice_one (omega arith) (omega arith)
      (subst (λ (k : ℕ). named_in p (suc a) b ≡ named_in p (suc a) k ++ named_in p k b) (omega arith)
      (splice_by n (suc a) b (omega arith)))

  -- adjoining windows concatenate
  pub splice : {a m b : ℕ} → a ≤ m → m ≤ b → named_in p a b ≡ named_in p a m ++ named_in p m b
  splice {a} {m} {b} h g =
      subst (λ (k : ℕ). named_in p a b ≡ named_in p a k ++ named_in p k b) (omega arith)
      (splice_by (m - a) a b (omega arith))

  -- the least one is the first of the list, and the other way
  pub first_at : {a e m : ℕ} → Least p a e m → first_of (named_in p a e) ≡ Some m
  unfolding first_of
  first_at {a} {e} {m} l = ap first_of (step e l.before l)

  pub first_none : {a e : ℕ} → Unnamed p a e → first_of (named_in p a e) ≡ None
  unfolding first_of
  first_none f = ap first_of (none_left f)

  least_one : {a e m : ℕ} → a < e → Some m ≡ first_of (named_in p a e) → (Some m ≡ first_of (named_in p (suc a) e) → Least p (suc a) e m) → Least p a e m
  unfolding first_of
  least_one {a} {e} {m} h q ih = go (p a) refl
    where
      none_yet : p a ≡ false → Unnamed p (suc a) m → Unnamed p a m
      none_yet f g k l lt =
          ⊎_elim (λ (i : a ≡ k). subst (λ (j : ℕ). p j ≡ false) i f) (λ (i : a < k). g k i lt) (eq-or-lt_of_le l)

      go : (t : Bool) → p a ≡ t → Least p a e m
      go true t =
          let r : Some m ≡ Some a = q ∙ ap first_of (hit h t) in
          let i : m ≡ a = cc in
          record { from = omega arith; before = omega arith; named = ap p i ∙ t; none = λ k l lt. absurd (omega arith) }
      go false f =
          let l : Least p (suc a) e m = ih (q ∙ ap first_of (miss e f)) in
          record { from = omega arith; before = l.before; named = l.named; none = none_yet f l.none }

  never_first : {a e m : ℕ} → e ≤ a → Some m ≡ first_of (named_in p a e) → ⊥
  unfolding first_of
  never_first h q = let r : Some _ ≡ None = q ∙ ap first_of (empty h) in let z : ◌≡◌ {A = ℕ} 0 1 = cc in omega arith

  least_by : (n a m : ℕ) → Some m ≡ first_of (named_in p a (a + n)) → Least p a (a + n) m
  least_by zero a m q = absurd (never_first (omega arith) q)
  least_by (suc n) a m q =
      least_one (omega arith) q
      (λ q'. subst (λ (e : ℕ). Least p (suc a) e m) (omega arith)
      (least_by n (suc a) m (subst (λ (e : ℕ). Some m ≡ first_of (named_in p (suc a) e)) (omega arith) q')))

  pub least_of : {a e m : ℕ} → Some m ≡ first_of (named_in p a e) → Least p a e m
  least_of {a} {e} {m} q =
      ⊎_elim
      (λ (h : e ≤ a). absurd (never_first h q))
      (λ (h : a < e).
      let i : e ≡ a + (e - a) = omega arith in
      subst (λ (k : ℕ). Least p a k m) (sym i)
      (least_by (e - a) a m (subst (λ (k : ℕ). Some m ≡ first_of (named_in p a k)) i q)))
      (le_or_lt e a)

  -- what a search over the axis up to e says of a window that ends at b, at most e
  pub found_in : (a e b : ℕ) {m : ℕ} → Some m ≡ first_of (named_in p a e) → m < b → named_in p a b ≡ m ∷ named_in p (m + 1) b
  found_in a e b q h = step b h (least_of q)

  pub found_past : (a e b : ℕ) {m : ℕ} → Some m ≡ first_of (named_in p a e) → b ≤ m → named_in p a b ≡ []
  found_past a e b {m} q h =
      let l : Least p a e m = least_of q in none_left (λ k g lt. l.none k g (omega arith))

  pub found_none : (a e b : ℕ) → None ≡ first_of (named_in p a e) → b ≤ e → named_in p a b ≡ []
  unfolding first_of
  found_none a e b q h =
      ⊎_elim (λ (g : b ≤ a). empty g) (λ (g : a < b). left (named_in p a b) (named_in p b e) (q ∙ ap first_of (splice (omega arith) h))) (le_or_lt b a)
    where
      left : (s t : List ℕ) → None ≡ first_of (s ++ t) → s ≡ []
      left [] t r = refl
      left (x ∷ s) t r = let z : ◌≡◌ {A = ℕ} 0 1 = cc in absurd (omega arith)

module _ (p : ℕ → Bool) where
  none_one : {a e : ℕ} → a < e → named_in p a e ≡ [] → (named_in p (suc a) e ≡ [] → Unnamed p (suc a) e) → Unnamed p a e
  none_one {a} {e} h q ih = go (p a) refl
    where
      go : (t : Bool) → p a ≡ t → Unnamed p a e
      go true t = let r = sym (hit p h t) ∙ q in let z : ◌≡◌ {A = ℕ} 0 1 = cc in absurd (omega arith)
      go false f =
          λ k l lt. ⊎_elim (λ (i : a ≡ k). subst (λ (j : ℕ). p j ≡ false) i f) (λ (i : a < k). ih (sym (miss p e f) ∙ q) k i lt) (eq-or-lt_of_le l)

  none_by_lem : (n a : ℕ) → named_in p a (a + n) ≡ [] → Unnamed p a (a + n)
  none_by_lem zero a q = λ k l lt. absurd (omega arith)
  none_by_lem (suc n) a q =
      none_one (omega arith) q
      (λ q'. subst (λ (e : ℕ). Unnamed p (suc a) e) (omega arith)
      (none_by_lem n (suc a) (subst (λ (e : ℕ). named_in p (suc a) e ≡ []) (omega arith) q')))

  -- nothing found: none named
  pub none_of_lem : {a e : ℕ} → None ≡ first_of (named_in p a e) → Unnamed p a e
  none_of_lem {a} {e} q k l lt =
      let i : a + (e - a) ≡ e = omega arith in
      none_by_lem (e - a) a (rw i (found_none p a e e q (omega arith))) k l (omega arith)

-- a count of the named ones below each second
pub bit : Bool → ℕ
bit true = 1
bit false = 0

pub bit_true : bit true ≡ 1
unfolding bit
bit_true = refl

pub bit_false : bit false ≡ 0
unfolding bit
bit_false = refl

length_cons_if : (q : Bool) (x : ℕ) (l : List ℕ) → length (cons_if q x l) ≡ bit q + length l
unfolding cons_if bit
length_cons_if true x l = omega arith
length_cons_if false x l = omega arith

-- a function that goes up by one at each named second, and nowhere else, counts them
module _ (p : ℕ → Bool) (below : ℕ → ℕ) (goes : (x : ℕ) → below (suc x) ≡ below x + bit (p x)) where
  count_by : (n a : ℕ) → length (named_in p a (a + n)) + below a ≡ below (a + n)
  count_by zero a = rw (add-zero a, empty p {a = a} {b = a} (omega arith)) (omega arith)
  count_by (suc n) a =
      let ih : length (named_in p (suc a) (suc a + n)) + below (suc a) ≡ below (suc a + n) = count_by n (suc a) in
      let e : a + suc n ≡ suc a + n = omega arith in
      rw (e, look p {a = a} {b = suc a + n} (omega arith), length_cons_if (p a) a (named_in p (suc a) (suc a + n)))
      (omega (arith, goes a))

  pub count_is : {a b : ℕ} → a ≤ b → length (named_in p a b) ≡ below b - below a
  count_is {a} {b} h =
      let i : a + (b - a) ≡ b = omega arith in
      let q : length (named_in p a b) + below a ≡ below b = rw i at (count_by (b - a) a) in
      omega arith

  pub count_up : {a b : ℕ} → a ≤ b → below a ≤ below b
  count_up {a} {b} h =
      let i : a + (b - a) ≡ b = omega arith in
      let q : length (named_in p a b) + below a ≡ below b = rw i at (count_by (b - a) a) in
      omega arith

-- two stretches with none named that meet are one
pub join : (p : ℕ → Bool) {a b : ℕ} (m : ℕ) → Unnamed p a m → Unnamed p m b → Unnamed p a b
join p m f g k l lt = ⊎_elim (λ (h : m ≤ k). g k h lt) (λ (h : k < m). f k l h) (le_or_lt m k)

-- two rules that agree from a on name the same
module _ (p q : ℕ → Bool) where
  alike_by : (n a : ℕ) → ((k : ℕ) → a ≤ k → p k ≡ q k) → filter p (up n a) ≡ filter q (up n a)
  unfolding filter up
  alike_by zero a f = refl
  alike_by (suc n) a f = rw (f a (omega arith), alike_by n (suc a) (λ k h. f k (omega arith)))

  pub alike : (a b : ℕ) → ((k : ℕ) → a ≤ k → p k ≡ q k) → named_in p a b ≡ named_in q a b
  unfolding named_in range
  alike a b f = alike_by (b - a) a f
