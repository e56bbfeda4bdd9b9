-- ASCII texts: those of wrong shape, and those of right shape. A full code is a tag of full forms, and its fields are found as such.
use mathlib.Core.Path.{◌≡◌, refl, sym, ap}
use mathlib.Core.Bool.{Bool, true, false, cond}
use mathlib.Core.List.{List}
use Prim.Native.Nat.{ℕ}
use native.Mathlib.Omega.{arith}
use Rattle.shape.specs.Shapes.{Shapes, shaped, along}
use Rattle.fit.specs.Fit.{fit_of}
use Rattle.field.specs.Fields.{Field, first_bad}
use Rattle.place.specs.Text.{place_by}
use Rattle.std.specs.Prelude.{Ok, Err, Some}

module _ (ps : Shapes) (fields : List ℕ → List Field) (s : List ℕ) where
  pub wrong_place : (n : ℕ) → fit_of ps s ≡ Err n → Some n ≡ place_by ps fields s
  unfolding fit_of
  wrong_place n e = go (shaped ps s) e
    where
      go : (t : Bool) → cond t (Ok (tt {0})) (Err (along ps s)) ≡ Err n → Some n ≡ cond t (first_bad (fields s)) (Some (along ps s))
      go true h = absurd (let z : ◌≡◌ {A = ℕ} 0 1 = cc in let y : ⊥ = omega arith in y)
      go false h = let z : along ps s ≡ n = cc in ap Some (sym z)

  pub right_shape : fit_of ps s ≡ (Ok (tt {0})) → shaped ps s ≡ true
  unfolding fit_of
  right_shape e = go (shaped ps s) e
    where
      go : (t : Bool) → cond t (Ok (tt {0})) (Err (along ps s)) ≡ (Ok (tt {0})) → t ≡ true
      go true h = refl
      go false h = absurd (let z : ◌≡◌ {A = ℕ} 0 1 = cc in let y : ⊥ = omega arith in y)

  pub right_place : fit_of ps s ≡ (Ok (tt {0})) → first_bad (fields s) ≡ place_by ps fields s
  right_place e = rw (right_shape e)
