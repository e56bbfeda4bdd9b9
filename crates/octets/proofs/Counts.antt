-- What gives each answer of reading, and what each tells.
use mathlib.Core.Path.{◌≡◌, refl, sym, ap, ◌∙◌, subst}
use mathlib.Core.Bool.{Bool, true, false, cond, ◌&&◌}
use mathlib.Core.List.{List, ◌++◌}
use Prim.Native.Nat.{ℕ, ◌+◌, ◌^◌, ◌<◌, ◌≤◌}
use native.Mathlib.Nat.{le_refl}
use native.Mathlib.Omega.{arith}
use borrow.Author.Tests.{leb-true, leb-false, le-leb, lt-ltb}
use lib.Dec.{leb}
use lib.ListN.{length, get_or, take, drop, length-append, length-drop}
use lib.Seq.{get_or-drop}
use Rattle.base.proofs.Bools.{and_true, and_yes, cond_yes, cond_no, never_both}
use Rattle.octets.specs.Places.{number, places, all_good, octet_good}
use Rattle.octets.specs.Counts.{count_of, count_at}
use Rattle.std.specs.Prelude.{Result, Ok, Err}
use Rattle.base.specs.declared.Refusal.{Refusal}
use Rattle.base.specs.declared.Refusal.TheVariants.{Short, Field}
use Rattle.octets.proofs.Places.{Rule, number_lt, number_append, number_places, places_number, places_good, length_places, good_append, not_good, all_good_lem}

never_err : {A : Type 0} (why : Refusal) (a : A) → ◌≡◌ {A = Result A Refusal} (Ok a) (Err why) → ⊥
never_err why a e = grind arith

-- n is what the first i of w elements from `at` on write, and these are good
pub record Read (b : ℕ) (v : ℕ → ℕ) (ok : ℕ → Bool) (widest : ℕ) (s : List ℕ) (at w n i : ℕ) : Type 0 where
  pub narrow : w ≤ widest
  pub within : at + w ≤ length s
  pub part : i ≤ w
  pub is : n ≡ number b v (drop at s) i
  pub good : all_good ok (drop at s) i ≡ true

module _ {b : ℕ} {v : ℕ → ℕ} {ok : ℕ → Bool} {widest : ℕ} {s : List ℕ} {at w n i : ℕ} (r : Read b v ok widest s at w n i) where
  held : leb w widest && leb (at + w) (length s) ≡ true
  held = and_yes _ (le-leb w widest r.narrow) ∙ le-leb (at + w) (length s) r.within

  pub gives_ok : w ≤ i → Ok n ≡ count_of b v ok widest s at w
  unfolding count_of
  gives_ok h =
      let e : i ≡ w = omega arith in
      sym (cond_yes _ _ held ∙ cond_yes _ _ (rw e at r.good) ∙ ap Ok (sym (rw e at r.is)))

  pub gives_field : i < w → ok (get_or s (at + i) 0) ≡ false → Err Field ≡ count_of b v ok widest s at w
  unfolding count_of
  gives_field h g = sym (cond_yes _ _ held ∙ cond_no _ _ (not_good ok (drop at s) w i h (rw get_or-drop g)))

  pub read_lt : {p : ℕ → ℕ} → Rule b v p ok → n < b ^ i
  read_lt rule = rw r.is (number_lt rule (drop at s) i r.good)

  -- the elements are those that write the number
  pub read_text : {p : ℕ → ℕ} → Rule b v p ok → take i (drop at s) ≡ places b p i n
  read_text {p = p} rule =
      sym (ap (places b p i) r.is ∙ places_number rule (drop at s) i (let z : i ≤ length (drop at s) = simp length-drop (omega arith) in z) r.good)

module _ (b : ℕ) (v : ℕ → ℕ) (ok : ℕ → Bool) (widest : ℕ) (s : List ℕ) (at w : ℕ) where
  pub gives_short : leb w widest && leb (at + w) (length s) ≡ false → Err Short ≡ count_of b v ok widest s at w
  unfolding count_of
  gives_short e = sym (cond_no _ _ e)

  abbrev pub Told : Result ℕ Refusal → Type 0
  Told (Ok n) = Read b v ok widest s at w n w
  Told (Err Field) = (leb w widest && leb (at + w) (length s) ≡ true) × (all_good ok (drop at s) w ≡ false)
  Told (Err Short) = leb w widest && leb (at + w) (length s) ≡ false
  Told (Err why) = ⊥

  pub told : (r : Result ℕ Refusal) → count_of b v ok widest s at w ≡ r → Told r
  unfolding count_of
  told r e = subst Told e (go (leb w widest && leb (at + w) (length s)) (all_good ok (drop at s) w) refl refl)
    where
      go : (t g : Bool) → leb w widest && leb (at + w) (length s) ≡ t → all_good ok (drop at s) w ≡ g → Told (cond t (cond g (Ok (number b v (drop at s) w)) (Err Field)) (Err Short))
      go true true p q =
          let h = and_true (leb w widest) (leb (at + w) (length s)) p in
          record { narrow = leb-true _ _ h.0; within = leb-true _ _ h.1; part = le_refl w; is = refl; good = q }
      go true false p q = (p, q)
      go false g p q = p

  -- at a width that is not too great, the bytes ran out
  pub told_short : w ≤ widest → count_of b v ok widest s at w ≡ Err Short → length s < at + w
  told_short h e = leb-false (at + w) (length s) (sym (and_yes _ (le-leb w widest h)) ∙ told (Err Short) e)

  -- bytes that are there are refused for an element that breaks its rule
  pub told_err : (why : Refusal) → w ≤ widest → at + w ≤ length s → count_of b v ok widest s at w ≡ Err why → all_good ok (drop at s) w ≡ false
  unfolding count_of
  told_err why h k e = go (all_good ok (drop at s) w) refl
    where
      held : leb w widest && leb (at + w) (length s) ≡ true
      held = and_yes _ (le-leb w widest h) ∙ le-leb (at + w) (length s) k

      go : (g : Bool) → all_good ok (drop at s) w ≡ g → all_good ok (drop at s) w ≡ false
      go true q = absurd (never_err why (number b v (drop at s) w) (sym (cond_yes _ _ held ∙ cond_yes _ _ q) ∙ e))
      go false q = q

-- octets are never bad
pub never_bad : (s : List ℕ) (at w : ℕ) → ((i : ℕ) → get_or s i 0 < 256) → count_at s at w ≡ Err Field → ⊥
never_bad s at w h e =
    never_both (all_good_lem octet_good (drop at s) w (λ i l. rw get_or-drop (lt-ltb (get_or s (at + i) 0) 256 (h (at + i))))) (told 256 _ octet_good 8 s at w (Err Field) e).1

-- and so octets that are there are never refused
pub never_refused : (s : List ℕ) (at w : ℕ) → w ≤ 8 → at + w ≤ length s → ((i : ℕ) → get_or s i 0 < 256) → (why : Refusal) → count_at s at w ≡ Err why → ⊥
never_refused s at w h k b why e =
    never_both (all_good_lem octet_good (drop at s) w (λ i l. rw get_or-drop (lt-ltb (get_or s (at + i) 0) 256 (b (at + i))))) (told_err 256 _ octet_good 8 s at w why h k e)

-- reading what was written gives the number
pub read_back : {b : ℕ} {v p : ℕ → ℕ} {ok : ℕ → Bool} → Rule b v p ok → (widest : ℕ) (s t : List ℕ) (at w n : ℕ) → w ≤ widest → n < b ^ w → at ≤ length s → drop at s ≡ places b p w n ++ t → Ok n ≡ count_of b v ok widest s at w
read_back {b} {v} {p} {ok} rule widest s t at w n h k a e =
    let x = places b p w n in
    let l = length_places b p w n in
    gives_ok (record {
      narrow = h;
      within = omega (arith, length-drop at s, ap length e, length-append x t);
      part = le_refl w;
      is = sym (ap (λ (y : List ℕ). number b v y w) e ∙ number_append b v x t w (omega arith) ∙ number_places rule w n k);
      good = ap (λ (y : List ℕ). all_good ok y w) e ∙ good_append ok x t w (omega arith) ∙ places_good rule w n;
    }) (le_refl w)
