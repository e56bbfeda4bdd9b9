-- The first rate that no rate beats: what is kept, outcome after outcome, is that one. One law for the smallest and the largest, over any order of rates.
use mathlib.Core.Path.{◌≡◌, refl, ap, ◌∙◌}
use mathlib.Core.Bool.{Bool, true, false, cond, not}
use mathlib.Core.List.{List, [], ◌∷◌, ◌++◌, append_assoc, append-nil}
use Prim.Native.Nat.{ℕ, zero, suc, ◌+◌, ◌<◌}
use native.Mathlib.Nat.{add-zero, zero-add}
use native.Mathlib.Omega.{arith}
use lib.ListN.{length, get_or}
use borrow.Author.Tests.{not-true, not-false}
use Rattle.base.specs.Outcome.{Outcome, done, refused}
use Rattle.base.proofs.Bools.{never_both, and_true, cond_no}
use Rattle.drift.specs.Fraction.{Fraction}
use Rattle.drift.specs.Run.{Extreme, nothing, at, unbeaten, first_rate, extreme_of, First}
use Rattle.drift.specs.Inner.{kept}
use Rattle.drift.proofs.Orders.{Ordered}

-- ---- every rate of a list is so
pub data Each (P : Fraction → Type 0) : List (Outcome Fraction) → Type 0 where
  none : Each P []
  rate : {f : Fraction} {os : List (Outcome Fraction)} → P f → Each P os → Each P (done f ∷ os)
  refusal : {n : ℕ} {os : List (Outcome Fraction)} → Each P os → Each P (refused n ∷ os)

pub each_first : {P : Fraction → Type 0} {o : Outcome Fraction} {os : List (Outcome Fraction)} → Each P (o ∷ os) → Each P (o ∷ []) × Each P os
each_first (rate p h) = (rate p none, h)
each_first (refusal h) = (refusal none, h)

pub each_last : {P : Fraction → Type 0} {os : List (Outcome Fraction)} {o : Outcome Fraction} → Each P os → Each P (o ∷ []) → Each P (os ++ o ∷ [])
each_last none k = k
each_last (rate p h) k = rate p (each_last h k)
each_last (refusal h) k = refusal (each_last h k)

each_two : {P Q R : Fraction → Type 0} {os : List (Outcome Fraction)} → ((f : Fraction) → P f → Q f → R f) → Each P os → Each Q os → Each R os
each_two h none none = none
each_two h (rate p ps) (rate q qs) = rate (h _ p q) (each_two h ps qs)
each_two h (refusal ps) (refusal qs) = refusal (each_two h ps qs)

each_so : {P Q : Fraction → Type 0} {os : List (Outcome Fraction)} → ((f : Fraction) → P f → Q f) → Each P os → Each Q os
each_so h ps = each_two (λ f p q. h f p) ps ps

each_at : {P : Fraction → Type 0} {os : List (Outcome Fraction)} (i : ℕ) (f : Fraction) → Each P os → get_or os i (refused 0) ≡ done f → P f
each_at i f none e = let z : ◌≡◌ {A = ℕ} 0 1 = cc in absurd (omega arith)
each_at zero f (rate {f = g} p ps) e = let s : g ≡ f = cc in rw s at p
each_at (suc i) f (rate p ps) e = each_at i f ps e
each_at zero f (refusal ps) e = let z : ◌≡◌ {A = ℕ} 0 1 = cc in absurd (omega arith)
each_at (suc i) f (refusal ps) e = each_at i f ps e

-- ---- the first rate that passes a test
either : Extreme → Extreme → Extreme
either nothing y = y
either (at p b) y = at p b

module _ (test : Fraction → Bool) where
  first_append : (n : ℕ) (os os' : List (Outcome Fraction)) → first_rate n test (os ++ os') ≡ either (first_rate n test os) (first_rate (n + length os) test os')
  unfolding first_rate either
  first_append n [] os' = rw add-zero
  first_append n (done f ∷ os) os' = let e : n + suc (length os) ≡ suc n + length os = omega arith in rw e (go (test f) _ _ _ (first_append (suc n) os os'))
    where
      go : (t : Bool) (x y z : Extreme) → x ≡ either y z → cond t (at n f) x ≡ either (cond t (at n f) y) z
      go true x y z e = refl
      go false x y z e = e
  first_append n (refused m ∷ os) os' = let e : n + suc (length os) ≡ suc n + length os = omega arith in rw e (first_append (suc n) os os')

  first_none : (n : ℕ) {os : List (Outcome Fraction)} → Each (λ f. test f ≡ false) os → first_rate n test os ≡ nothing
  unfolding first_rate
  first_none n none = refl
  first_none n (rate e h) = cond_no _ _ e ∙ first_none (suc n) h
  first_none n (refusal h) = first_none (suc n) h

  first_is : {P : Fraction → Type 0} (n p : ℕ) (b : Fraction) {os : List (Outcome Fraction)} → Each P os → first_rate n test os ≡ at p b → P b
  unfolding first_rate
  first_is n p b none e = let z : ◌≡◌ {A = ℕ} 0 1 = cc in absurd (omega arith)
  first_is {P} n p b (rate {f} {os} q h) e = go (test f) e (first_is (suc n) p b h)
    where
      go : (t : Bool) → cond t (at n f) (first_rate (suc n) test os) ≡ at p b → (first_rate (suc n) test os ≡ at p b → P b) → P b
      go true e next = let s : f ≡ b = cc in rw s at q
      go false e next = next e
  first_is n p b (refusal h) e = first_is (suc n) p b h e

  -- where it stands: none before it passes
  record Placed (n : ℕ) (os : List (Outcome Fraction)) (p : ℕ) (b : Fraction) : Type 0 where
    k : ℕ
    place : p ≡ n + k
    there : get_or os k (refused 0) ≡ done b
    before : (i : ℕ) (f : Fraction) → i < k → get_or os i (refused 0) ≡ done f → test f ≡ false

  first_placed : (n : ℕ) (os : List (Outcome Fraction)) (p : ℕ) (b : Fraction) → first_rate n test os ≡ at p b → Placed n os p b
  unfolding first_rate
  first_placed n [] p b e = let z : ◌≡◌ {A = ℕ} 0 1 = cc in absurd (omega arith)
  first_placed n (done g ∷ os) p b e = go (test g) refl e (first_placed (suc n) os p b)
    where
      shut : test g ≡ false → (i : ℕ) (f : Fraction) (k : ℕ) → i < suc k → get_or (done g ∷ os) i (refused 0) ≡ done f → ((i : ℕ) (f : Fraction) → i < k → get_or os i (refused 0) ≡ done f → test f ≡ false) → test f ≡ false
      shut c zero f k h e next = let s : g ≡ f = cc in rw s at c
      shut c (suc i) f k h e next = next i f (omega arith) e

      go : (t : Bool) → test g ≡ t → cond t (at n g) (first_rate (suc n) test os) ≡ at p b → (first_rate (suc n) test os ≡ at p b → Placed (suc n) os p b) → Placed n (done g ∷ os) p b
      go true c e next =
          let s : g ≡ b = cc in
          let q : n ≡ p = cc in
          record { k = 0; place = omega arith; there = ap done s; before = λ i f h. absurd (omega arith) }
      go false c e next =
          let x = next e in
          record { k = suc x.k; place = omega (arith, x.place); there = x.there; before = λ i f h d. shut c i f x.k h d x.before }
  first_placed n (refused m ∷ os) p b e = later (first_placed (suc n) os p b e)
    where
      shut : (i : ℕ) (f : Fraction) (k : ℕ) → i < suc k → get_or (refused m ∷ os) i (refused 0) ≡ done f → ((i : ℕ) (f : Fraction) → i < k → get_or os i (refused 0) ≡ done f → test f ≡ false) → test f ≡ false
      shut zero f k h e next = let z : ◌≡◌ {A = ℕ} 0 1 = cc in absurd (omega arith)
      shut (suc i) f k h e next = next i f (omega arith) e

      later : Placed (suc n) os p b → Placed n (refused m ∷ os) p b
      later x = record { k = suc x.k; place = omega (arith, x.place); there = x.there; before = λ i f h d. shut i f x.k h d x.before }

first_same : (s t : Fraction → Bool) (n : ℕ) {os : List (Outcome Fraction)} → Each (λ f. s f ≡ t f) os → first_rate n s os ≡ first_rate n t os
unfolding first_rate
first_same s t n none = refl
first_same s t n (rate {f} {os} e h) = rw (e, first_same s t (suc n) h)
first_same s t n (refusal h) = first_same s t (suc n) h

-- ---- over an order of rates
module _ (beats : Fraction → Fraction → Bool) where
  unbeaten_each : (f : Fraction) (os : List (Outcome Fraction)) → unbeaten beats f os ≡ true → Each (λ g. beats g f ≡ false) os
  unfolding unbeaten
  unbeaten_each f [] e = none
  unbeaten_each f (done g ∷ os) e =
      let (p, q) = and_true (not (beats g f)) (unbeaten beats f os) e in
      rate (not-true (beats g f) p) (unbeaten_each f os q)
  unbeaten_each f (refused n ∷ os) e = refusal (unbeaten_each f os e)

  each_unbeaten : (f : Fraction) {os : List (Outcome Fraction)} → Each (λ g. beats g f ≡ false) os → unbeaten beats f os ≡ true
  unfolding unbeaten
  each_unbeaten f none = refl
  each_unbeaten f (rate e h) = rw e (each_unbeaten f h)
  each_unbeaten f (refusal h) = each_unbeaten f h

  -- the extreme is one of the rates
  pub extreme_is : {P : Fraction → Type 0} (os : List (Outcome Fraction)) → Each P os → (p : ℕ) (b : Fraction) → extreme_of beats os ≡ at p b → P b
  unfolding extreme_of
  extreme_is os h p b e = first_is (λ f. unbeaten beats f os) 0 p b h e

  -- what is told of outcomes: that there is no rate; or one at its place, which none beats, and which beats each before it
  pub record Best (os : List (Outcome Fraction)) (p : ℕ) (b : Fraction) : Type 0 where
    pub first : first_rate 0 (λ f. not (beats b f)) os ≡ at p b
    pub best : Each (λ f. beats f b ≡ false) os

  abbrev pub Tells : List (Outcome Fraction) → Extreme → Type 0
  Tells os nothing = Each (λ f. ⊥) os
  Tells os (at p b) = Best os p b

  module _ (order : Ordered beats) where
    -- one outcome more
    module _ (os : List (Outcome Fraction)) where
      alone : (g : Fraction) → Each (λ f. beats g f ≡ true) os → Best (os ++ done g ∷ []) (length os) g
      unfolding first_rate either
      alone g h =
          record {
            first = first_append (λ f. not (beats g f)) 0 os (done g ∷ []) ∙ rw (first_none (λ f. not (beats g f)) 0 (each_so (λ f e. ap not e) h), order.self g, zero-add (length os));
            best = each_last (each_so (λ f e. order.one g f e) h) (rate (order.self g) none);
          }

      stays : (p : ℕ) (b : Fraction) (o : Outcome Fraction) → Best os p b → Each (λ f. beats f b ≡ false) (o ∷ []) → Best (os ++ o ∷ []) p b
      unfolding either
      stays p b o t h =
          record {
            first = first_append (λ f. not (beats b f)) 0 os (o ∷ []) ∙ rw t.first;
            best = each_last t.best h;
          }

      pub tells_next : Each (λ f. 0 < f.den) os → (e : Extreme) (o : Outcome Fraction) → Tells os e → Tells (os ++ o ∷ []) (kept beats e (length os) o)
      tells_next some nothing (refused n) t = each_last t (refusal none)
      tells_next some nothing (done g) t = alone g (each_so (λ f e. absurd e) t)
      tells_next some (at p b) (refused n) t = stays p b (refused n) t (refusal none)
      tells_next some (at p b) (done g) t = go (beats g b) refl
        where
          go : (c : Bool) → beats g b ≡ c → Tells (os ++ done g ∷ []) (cond c (at (length os) g) (at p b))
          go true e = alone g (each_two (λ f z h. order.on g b f z e h) some t.best)
          go false e = stays p b (done g) t (rate e none)

      -- and it is the first that no rate beats
      same_tests : Each (λ f. 0 < f.den) os → (p : ℕ) (b : Fraction) → Best os p b → (f : Fraction) → unbeaten beats f os ≡ not (beats b f)
      same_tests some p b t f = go (beats b f) refl
        where
          z : 0 < b.den
          z = first_is (λ f. not (beats b f)) 0 p b some t.first

          lost : (c : Bool) → unbeaten beats f os ≡ c → beats b f ≡ true → c ≡ false
          lost true e h = never_both h (first_is (λ f. not (beats b f)) 0 p b (unbeaten_each f os e) t.first)
          lost false e h = refl

          quiet : (g : Fraction) (c : Bool) → beats g f ≡ c → beats b f ≡ false → beats g b ≡ false → c ≡ false
          quiet g true e h k = never_both (order.on g f b z e h) k
          quiet g false e h k = refl

          go : (c : Bool) → beats b f ≡ c → unbeaten beats f os ≡ not c
          go true e = lost (unbeaten beats f os) refl e
          go false e = each_unbeaten f (each_so (λ g k. quiet g (beats g f) refl e k) t.best)

      pub tells_extreme : Each (λ f. 0 < f.den) os → (e : Extreme) → Tells os e → extreme_of beats os ≡ e
      unfolding extreme_of
      tells_extreme some nothing t = first_none (λ f. unbeaten beats f os) 0 (each_so (λ f e. absurd e) t)
      tells_extreme some (at p b) t =
          first_same (λ f. unbeaten beats f os) (λ f. not (beats b f)) 0 (each_so (λ f z. same_tests some p b t f) some) ∙ t.first

    -- there is always something to tell
    told_from : (os pre : List (Outcome Fraction)) → Each (λ f. 0 < f.den) pre → Each (λ f. 0 < f.den) os → (e : Extreme) → Tells pre e → (x : Extreme) × Tells (pre ++ os) x
    told_from [] pre s none e t = (e, rw append-nil t)
    told_from (done f ∷ os) pre s (rate p h) e t =
        rw append_assoc at (told_from os (pre ++ done f ∷ []) (each_last s (rate p none)) h (kept beats e (length pre) (done f)) (tells_next pre s e (done f) t))
    told_from (refused n ∷ os) pre s (refusal h) e t =
        rw append_assoc at (told_from os (pre ++ refused n ∷ []) (each_last s (refusal none)) h (kept beats e (length pre) (refused n)) (tells_next pre s e (refused n) t))

    told : (os : List (Outcome Fraction)) → Each (λ f. 0 < f.den) os → Tells os (extreme_of beats os)
    told os s = let (x, t) = told_from os [] none s nothing none in rw (tells_extreme os s x t) t

    -- .. and so the extreme, place by place
    pub extreme_first : (os : List (Outcome Fraction)) → Each (λ f. 0 < f.den) os → (p : ℕ) (b : Fraction) → extreme_of beats os ≡ at p b → First beats os p b
    extreme_first os s p b e =
        let t : Best os p b = rw e at (told os s) in
        let x = first_placed (λ f. not (beats b f)) 0 os p b t.first in
        let q : x.k ≡ p = omega (arith, x.place) in
        record {
          there = rw q at x.there;
          best = λ i f h. each_at i f t.best h;
          first = λ i f l h. not-false (beats b f) (x.before i f (rw q l) h);
        }

    pub extreme_none : (os : List (Outcome Fraction)) → Each (λ f. 0 < f.den) os → extreme_of beats os ≡ nothing → Each (λ f. ⊥) os
    extreme_none os s e = rw e at (told os s)
