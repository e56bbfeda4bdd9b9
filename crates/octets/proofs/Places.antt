-- The laws of numbers in places, each once over the width, the base and the kind of element.
use mathlib.Core.Path.{◌≡◌, refl, sym, ap, ◌∙◌}
use mathlib.Core.Bool.{Bool, true, false, ◌&&◌}
use mathlib.Core.List.{List, [], ◌∷◌, ◌++◌, append_assoc, append-nil}
use Prim.Native.Nat.{ℕ, zero, suc, ◌+◌, ◌*◌, ◌/◌, ◌%◌, ◌^◌, ◌<◌, ◌≤◌}
use native.Mathlib.Nat.{not-suc-le-zero, add-zero, add-suc, mul-one, mul_assoc, add-mul, add_assoc, pow-zero, pow-suc, one-le-pow, mod-lt, mod-one, mod-eq_of_lt, div-add-mod', div-lt_iff_lt-mul}
use native.Mathlib.Omega.{arith}
use borrow.Author.Tests.{ltb-true, ltb-false}
use lib.Arith.{digits_lt, digits_div, digits_mod, mod-mul}
use lib.Dec.{ltb, lit<}
use lib.ListN.{length, get_or, take, drop, length-append, take-append-drop, get_or-append}
use lib.Seq.{take-suc, get_or_at, get_or-drop, length-take-le}
use Rattle.base.proofs.Bools.{and_true, and_yes, and_one, and_assoc, never_both}
use Rattle.octets.specs.Places.{number, places, all_good}
pub use Rattle.octets.specs.Rules.{Rule, octet_rule, bcd_rule, digit_rule}

-- ---- any elements
module _ (b : ℕ) (v : ℕ → ℕ) where
  -- only the first w elements count
  pub number_append : (s t : List ℕ) (w : ℕ) → w ≤ length s → number b v (s ++ t) w ≡ number b v s w
  number_append s t zero l = refl
  number_append s t (suc w) l = rw (number_append s t w (omega arith), get_or-append s t 0 w l)

  pub number_take : (s : List ℕ) (w : ℕ) → w ≤ length s → number b v (take w s) w ≡ number b v s w
  number_take s w l =
      sym (number_append (take w s) (drop w s) w (omega (arith, length-take-le w s l)))
      ∙ ap (λ (t : List ℕ). number b v t w) (take-append-drop w s)

  -- a run in two parts
  pub number_split : (s : List ℕ) (w k : ℕ) → number b v s (w + k) ≡ number b v s w * b ^ k + number b v (drop w s) k
  number_split s w zero = rw (add-zero w, pow-zero, mul-one, add-zero)
  number_split s w (suc k) = rw (add-suc, number_split s w k, pow-suc, get_or-drop, add-mul, mul_assoc, add_assoc)

pub length_places : (b : ℕ) (p : ℕ → ℕ) (w n : ℕ) → length (places b p w n) ≡ w
length_places b p zero n = refl
length_places b p (suc w) n = simp length-append (omega (arith, length_places b p w (n / b)))

-- a number's places in two parts
pub places_append : (b : ℕ) (p : ℕ → ℕ) → 0 < b → (w k a c : ℕ) → c < b ^ k → places b p (w + k) (a * b ^ k + c) ≡ places b p w a ++ places b p k c
places_append b p s w zero a c h =
    let z : c ≡ 0 = omega (arith, rw pow-zero at h) in
    let e : a * b ^ zero + c ≡ a = rw (pow-zero, mul-one, z, add-zero) in
    rw (add-zero w, e) (sym (append-nil (places b p w a)))
places_append b p s w (suc k) a c h =
    let e : a * b ^ suc k + c ≡ (a * b ^ k + c / b) * b + c % b = rw (pow-suc, add-mul, mul_assoc, add_assoc, div-add-mod') in
    let m : c % b < b = mod-lt c s in
    let l : c / b < b ^ k = (div-lt_iff_lt-mul s).1 (rw pow-suc at h) in
    rw (add-suc, e, digits_div (a * b ^ k + c / b) m, digits_mod (a * b ^ k + c / b) m, places_append b p s w k a (c / b) l)
    (append_assoc (places b p w a) (places b p k (c / b)) (p (c % b) ∷ []))

module _ (ok : ℕ → Bool) where
  pub good_append : (s t : List ℕ) (w : ℕ) → w ≤ length s → all_good ok (s ++ t) w ≡ all_good ok s w
  good_append s t zero l = refl
  good_append s t (suc w) l = rw (good_append s t w (omega arith), get_or-append s t 0 w l)

  pub good_take : (s : List ℕ) (w : ℕ) → w ≤ length s → all_good ok (take w s) w ≡ all_good ok s w
  good_take s w l =
      sym (good_append (take w s) (drop w s) w (omega (arith, length-take-le w s l)))
      ∙ ap (λ (t : List ℕ). all_good ok t w) (take-append-drop w s)

  -- a run in two parts
  pub good_split : (s : List ℕ) (w k : ℕ) → all_good ok s (w + k) ≡ all_good ok s w && all_good ok (drop w s) k
  good_split s w zero = rw add-zero (and_one (all_good ok s w))
  good_split s w (suc k) = rw (add-suc, good_split s w k, get_or-drop) (and_assoc (all_good ok s w) (all_good ok (drop w s) k) (ok (get_or s (w + k) 0)))

  pub all_good_lem : (s : List ℕ) (w : ℕ) → ((i : ℕ) → i < w → ok (get_or s i 0) ≡ true) → all_good ok s w ≡ true
  all_good_lem s zero f = refl
  all_good_lem s (suc w) f = and_yes _ (all_good_lem s w (λ i h. f i (omega arith))) ∙ f w (omega arith)

  at_last : (s : List ℕ) (w i : ℕ) (t : Bool) → ltb i w ≡ t → i < suc w → ok (get_or s w 0) ≡ true → (i < w → ok (get_or s i 0) ≡ true) → ok (get_or s i 0) ≡ true
  at_last s w i true e h g f = f (ltb-true i w e)
  at_last s w i false e h g f = let z : i ≡ w = omega (arith, ltb-false i w e) in rw z g

  pub good_at : (s : List ℕ) (w i : ℕ) → all_good ok s w ≡ true → i < w → ok (get_or s i 0) ≡ true
  good_at s zero i g h = absurd (not-suc-le-zero h)
  good_at s (suc w) i g h =
      let e = and_true (all_good ok s w) (ok (get_or s w 0)) g in
      at_last s w i (ltb i w) refl h e.1 (λ l. good_at s w i e.0 l)

  pub not_good : (s : List ℕ) (w i : ℕ) → i < w → ok (get_or s i 0) ≡ false → all_good ok s w ≡ false
  not_good s w i h n = go (all_good ok s w) refl
    where
      go : (t : Bool) → all_good ok s w ≡ t → all_good ok s w ≡ false
      go true g = never_both (good_at s w i g h) n
      go false g = g

-- ---- elements that keep a rule
module _ {b : ℕ} {v p : ℕ → ℕ} {ok : ℕ → Bool} (rule : Rule b v p ok) where
  pub number_lt : (s : List ℕ) (w : ℕ) → all_good ok s w ≡ true → number b v s w < b ^ w
  number_lt s zero g = rw pow-zero (lit< tt)
  number_lt s (suc w) g =
      let e = and_true (all_good ok s w) (ok (get_or s w 0)) g in
      rw pow-suc (digits_lt (number_lt s w e.0) (rule.below (get_or s w 0) e.1))

  -- writing what was read gives the same elements
  pub places_number : (s : List ℕ) (w : ℕ) → w ≤ length s → all_good ok s w ≡ true → places b p w (number b v s w) ≡ take w s
  places_number s zero l g = refl
  places_number s (suc w) l g =
      let e = and_true (all_good ok s w) (ok (get_or s w 0)) g in
      let d = rule.below (get_or s w 0) e.1 in
      rw (take-suc s w 0 l, digits_div (number b v s w) d, digits_mod (number b v s w) d, rule.again (get_or s w 0) e.1, places_number s w (omega arith) e.0)

  -- two runs that write the same number are the same
  pub one_run : (s t : List ℕ) (w : ℕ) → w ≤ length s → w ≤ length t → all_good ok s w ≡ true → all_good ok t w ≡ true → number b v s w ≡ number b v t w → take w s ≡ take w t
  one_run s t w l m g h e = sym (places_number s w l g) ∙ ap (places b p w) e ∙ places_number t w m h

  -- reading what was written gives the number, cut to the width
  pub number_cut : (w n : ℕ) → number b v (places b p w n) w ≡ n % b ^ w
  number_cut zero n = rw pow-zero (sym (mod-one n))
  number_cut (suc w) n =
      let q = places b p w (n / b) in
      rw (number_append b v q (p (n % b) ∷ []) w (omega (arith, length_places b p w (n / b))), get_or_at q (p (n % b)) [] 0 w (length_places b p w (n / b)), number_cut w (n / b), rule.value (n % b) (mod-lt n rule.some), pow-suc)
      (sym (mod-mul n (one-le-pow w b rule.some) rule.some))

  pub number_places : (w n : ℕ) → n < b ^ w → number b v (places b p w n) w ≡ n
  number_places w n h = number_cut w n ∙ mod-eq_of_lt h

  pub places_good : (w n : ℕ) → all_good ok (places b p w n) w ≡ true
  places_good zero n = refl
  places_good (suc w) n =
      let q = places b p w (n / b) in
      rw (good_append ok q (p (n % b) ∷ []) w (omega (arith, length_places b p w (n / b))), places_good w (n / b), get_or_at q (p (n % b)) [] 0 w (length_places b p w (n / b)))
      (rule.good (n % b) (mod-lt n rule.some))
