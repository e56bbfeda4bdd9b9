-- A list of named moments holds exactly those of the window that are named, ascending, each once.
use mathlib.Core.Bool.{Bool, true, false}
use mathlib.Core.List.{List, [], ◌∷◌}
use mathlib.Core.Logic.{⊎_elim}
use mathlib.Core.Path.{◌≡◌, refl, sym, ◌∙◌, ap, subst}
use Prim.Native.Nat.{ℕ, zero, suc, ◌+◌, ◌-◌, ◌≤◌, ◌<◌}
use native.Mathlib.Nat.{eq-or-lt_of_le}
use native.Mathlib.Omega.{arith}
use Rattle.window.specs.Window.{named_in}
use Rattle.window.specs.Among.{Among, here, there, Ascending, none, first}
use Rattle.window.proofs.Moments.{empty, hit, miss}

no_one : {X : Type 0} {x : ℕ} {xs : List ℕ} → Among x xs → xs ≡ [] → X
no_one here e = let z : ◌≡◌ {A = ℕ} 0 1 = cc in absurd (omega arith)
no_one (there i) e = let z : ◌≡◌ {A = ℕ} 0 1 = cc in absurd (omega arith)

module _ (p : ℕ → Bool) where
  -- what holds of a window's list
  pub record Right (a b : ℕ) (l : List ℕ) : Type 0 where
    pub named : (x : ℕ) → Among x l → (a ≤ x) × (x < b) × (p x ≡ true)
    pub all : (x : ℕ) → a ≤ x → x < b → p x ≡ true → Among x l
    pub ascends : Ascending ◌<◌ l

  right_none : (a b : ℕ) → b ≤ a → Right a b []
  right_none a b h = record { named = λ x i. no_one i refl; all = λ x l u t. absurd (omega arith); ascends = none }

  right_hit : (a b : ℕ) (l : List ℕ) → a < b → p a ≡ true → Right (suc a) b l → Right a b (a ∷ l)
  right_hit a b l h t r =
      record {
        named = λ x i. was x i;
        all = λ x lo u e. ⊎_elim (λ (q : a ≡ x). subst (λ (y : ℕ). Among y (a ∷ l)) q here) (λ (q : a < x). there (r.all x q u e)) (eq-or-lt_of_le lo);
        ascends = first (λ y i. (r.named y i).0) r.ascends;
      }
    where
      was : (x : ℕ) → Among x (a ∷ l) → (a ≤ x) × (x < b) × (p x ≡ true)
      was x here = (omega arith, h, t)
      was x (there i) = let (lo, u, e) = r.named x i in (omega arith, u, e)

  right_miss : (a b : ℕ) (l : List ℕ) → p a ≡ false → Right (suc a) b l → Right a b l
  right_miss a b l f r =
      record {
        named = λ x i. let (lo, u, e) = r.named x i in (omega arith, u, e);
        all = λ x lo u e. ⊎_elim (λ (q : a ≡ x). absurd (never (sym f ∙ (ap p q ∙ e)))) (λ (q : a < x). r.all x q u e) (eq-or-lt_of_le lo);
        ascends = r.ascends;
      }
    where
      never : ◌≡◌ {A = Bool} false true → ⊥
      never z = let y : ◌≡◌ {A = ℕ} 0 1 = cc in omega arith

  right_one : (a b : ℕ) → a < b → Right (suc a) b (named_in p (suc a) b) → Right a b (named_in p a b)
  right_one a b h later = go (p a) refl
    where
      go : (t : Bool) → p a ≡ t → Right a b (named_in p a b)
      go true t = rw (hit p {a = a} {b = b} h t) (right_hit a b _ h t later)
      go false f = rw (miss p {a = a} b f) (right_miss a b _ f later)

  right_by : (n a : ℕ) → Right a (a + n) (named_in p a (a + n))
  right_by zero a = rw (empty p {a = a} {b = a + 0} (omega arith)) (right_none a (a + 0) (omega arith))
  right_by (suc n) a =
      let e : suc a + n ≡ a + suc n = omega arith in
      right_one a (a + suc n) (omega arith) (rw e at (right_by n (suc a)))

  pub right : (a b : ℕ) → a ≤ b → Right a b (named_in p a b)
  right a b h = let e : a + (b - a) ≡ b = omega arith in rw e at (right_by (b - a) a)
