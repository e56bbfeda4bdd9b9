-- What rates and reports promise, as theorems about the definitions that the contracts cite.
use mathlib.Core.Path.{◌≡◌, refl, sym, ap, ◌∙◌}
use mathlib.Core.Bool.{Bool, true, false, cond, ◌&&◌}
use mathlib.Core.List.{List, [], ◌∷◌}
use mathlib.Core.Logic.{◌⊎◌, inl, inr, ⊎_elim, ◌↔◌}
use Prim.Native.Nat.{ℕ, suc, ◌+◌, ◌*◌, ◌-◌, ◌<◌}
use native.Mathlib.Nat.{add_comm, mul_comm, mul-pos, add-mul, mul-mul-mul_comm}
use native.Mathlib.Omega.{arith}
use lib.IntN.{pos, nat_abs}
use lib.ListN.{length, get_or}
use Rattle.base.specs.Outcome.{Outcome, done, refused, need}
use Rattle.base.specs.Parts.{plus, minus}
use Rattle.base.proofs.Ladders.{never, refused_is}
use Rattle.base.proofs.Signed.{times_plus, times_minus}
use Rattle.scale.specs.Time.{is_record}
use Rattle.drift.specs.Fraction.{Fraction, below, above, Lowest}
use Rattle.drift.specs.Rate.{Pair, on_grid, of_all, elapsed, short, passed, quotient_of}
use Rattle.drift.specs.Run.{after, twos, is_rate, is_refusal, count, nothing, at, extreme_of, First, report_of}
use Rattle.drift.proofs.Orders.{left, right, below_is, times_test, Ordered, smaller, greater}
use Rattle.drift.proofs.Terms as T
use Rattle.drift.proofs.Tallies.{twos_length, twos_at, twos_some}
use Rattle.drift.proofs.Extremes.{Each, none, rate, refusal, tells_extreme, extreme_first, extreme_none}

-- ---- one rate
-- "in lowest terms": there is one such fraction ..
pub lowest_once : (q f g : Fraction) → 0 < q.den → Lowest q f → Lowest q g → f ≡ g
lowest_once = T.lowest_once

-- .. "a zero rate is 0/1"
pub zero_rate : (q f : Fraction) → 0 < q.den → Lowest q f → q.num ≡ pos 0 → f ≡ record { num = pos 0; den = 1 }
zero_rate = T.lowest_zero

-- the order of the quotients is the order of their lowest terms
cross : (a c q r f g : ℕ) → c * q ≡ a * f → a * r * (f * g) ≡ c * g * (q * r)
cross a c q r f g e = mul-mul-mul_comm a r f g ∙ rw (← e, mul_comm r g) (mul-mul-mul_comm c q g r)

both : (a b c d q r f g : ℕ) → c * q ≡ a * f → d * r ≡ b * g → (a * r + b * q) * (f * g) ≡ (c * g + d * f) * (q * r)
both a b c d q r f g e h =
    let other = rw (mul_comm g f, mul_comm r q) at (cross b d r q g f h) in
    add-mul (a * r) (b * q) (f * g) ∙ rw (cross a c q r f g e, other) (sym (add-mul (c * g) (d * f) (q * r)))

module _ (q r f g : Fraction) (l : Lowest q f) (m : Lowest r g) (zq : 0 < q.den) (zr : 0 < r.den) where
  pub order_lowest : below q r ≡ below f g
  order_lowest =
      let fp = sym (times_plus f.num q.den) ∙ ap plus l.exact ∙ times_plus q.num f.den in
      let fm = sym (times_minus f.num q.den) ∙ ap minus l.exact ∙ times_minus q.num f.den in
      let gp = sym (times_plus g.num r.den) ∙ ap plus m.exact ∙ times_plus r.num g.den in
      let gm = sym (times_minus g.num r.den) ∙ ap minus m.exact ∙ times_minus r.num g.den in
      let k = f.den * g.den in
      let n = q.den * r.den in
      let a : left q r * k ≡ left f g * n = both (plus q.num) (minus r.num) (plus f.num) (minus g.num) q.den r.den f.den g.den fp gm in
      let b : right q r * k ≡ right f g * n =
      rw (add_comm (plus r.num * q.den) (minus q.num * r.den), add_comm (plus g.num * f.den) (minus f.num * g.den))
      (both (minus q.num) (plus r.num) (minus f.num) (plus g.num) q.den r.den f.den g.den fm gp) in
      below_is q r
      ∙ sym (times_test (left q r) (right q r) k (mul-pos l.positive m.positive))
      ∙ rw (a, b) (times_test (left f g) (right f g) n (mul-pos zq zr))
      ∙ sym (below_is f g)

-- "Refused in this order: an invalid record 7, one off the 2^-24 s grid new 11, an elapsed time of 2^32 s or more in size 7, ground elapsed zero or negative new 10": no other number comes
abbrev pub Numbered : ℕ → Type 0
Numbered n = (n ≡ 7) ⊎ ((n ≡ 10) ⊎ (n ≡ 11))

rungs : (a b c d : Bool) (f : Fraction) (n : ℕ) → need a 7 (need b 11 (need c 7 (need d 10 (done f)))) ≡ refused n → Numbered n
rungs false b c d f n e = inl (sym (refused_is 7 n e))
rungs true false c d f n e = inr (inr (sym (refused_is 11 n e)))
rungs true true false d f n e = inl (sym (refused_is 7 n e))
rungs true true true false f n e = inr (inl (sym (refused_is 10 n e)))
rungs true true true true f n e = never n f (sym e)

pub refused_as : (p q : Pair) (n : ℕ) → quotient_of p q ≡ refused n → Numbered n
unfolding quotient_of
refused_as p q n e =
    let onboard = elapsed p.onboard q.onboard in
    let ground = elapsed p.ground q.ground in
    rungs (of_all is_record p q) (of_all on_grid p q) (short onboard && short ground) (passed ground) (record { num = onboard; den = nat_abs ground }) n e

-- ---- a run
-- "taking each neighbouring two": place i is from pair i to the next
pub two_at : (run : List Pair) (i : ℕ) (d : Pair) → suc i < length run → get_or (twos run) i (refused 0) ≡ quotient_of (get_or run i d) (get_or run (suc i) d)
two_at = twos_at

pub twos_many : (run : List Pair) → length (twos run) ≡ length run - 1
twos_many = twos_length

-- the counts add up to the number of twos
one_more : (o : Outcome Fraction) → ((n : ℕ) → o ≡ refused n → Numbered n) → (a b c d : ℕ)
    → cond (is_rate o) (suc a) a + cond (is_refusal 7 o) (suc b) b + cond (is_refusal 10 o) (suc c) c + cond (is_refusal 11 o) (suc d) d ≡ suc (a + b + c + d)
one_more (done f) h a b c d = omega arith
one_more (refused n) h a b c d = ⊎_elim (λ s. rw s (omega arith)) (λ t. ⊎_elim (λ s. rw s (omega arith)) (λ s. rw s (omega arith)) t) (h n refl)

after_add : (p : Pair) (run : List Pair) → count is_rate (after p run) + count (is_refusal 7) (after p run) + count (is_refusal 10) (after p run) + count (is_refusal 11) (after p run) ≡ length run
unfolding count after
after_add p [] = refl
after_add p (q ∷ run) = one_more (quotient_of p q) (refused_as p q) _ _ _ _ ∙ ap suc (after_add q run)

pub counts_add : (run : List Pair) → (report_of run).rates + (report_of run).range + (report_of run).not_elapsed + (report_of run).off_grid ≡ length run - 1
unfolding count twos
counts_add [] = refl
counts_add (p ∷ run) = after_add p run ∙ omega arith

-- the extremes, place by place
pub smallest_first : (run : List Pair) (p : ℕ) (b : Fraction) → (report_of run).smallest ≡ at p b → First below (twos run) p b
smallest_first run = extreme_first below smaller (twos run) (twos_some run)

pub largest_first : (run : List Pair) (p : ℕ) (b : Fraction) → (report_of run).largest ≡ at p b → First above (twos run) p b
largest_first run = extreme_first above greater (twos run) (twos_some run)

-- "or that there is no rate"
no_rates : {os : List (Outcome Fraction)} → Each (λ f. ⊥) os → count is_rate os ≡ 0
unfolding count
no_rates none = refl
no_rates (rate p h) = absurd p
no_rates (refusal h) = no_rates h

some_rate : {os : List (Outcome Fraction)} → Each (λ f. 0 < f.den) os → count is_rate os ≡ 0 → Each (λ f. ⊥) os
unfolding count
some_rate none e = none
some_rate (rate p h) e = absurd (omega arith)
some_rate (refusal h) e = refusal (some_rate h e)

no_extreme : (beats : Fraction → Fraction → Bool) → Ordered beats → (run : List Pair) → (extreme_of beats (twos run) ≡ nothing) ↔ ((report_of run).rates ≡ 0)
no_extreme beats order run =
    let s = twos_some run in (
      λ e. no_rates (extreme_none beats order (twos run) s e),
      λ e. tells_extreme beats order (twos run) s nothing (some_rate s e),
    )

pub no_rate : (run : List Pair) → (((report_of run).smallest ≡ nothing) ↔ ((report_of run).rates ≡ 0)) × (((report_of run).largest ≡ nothing) ↔ ((report_of run).rates ≡ 0))
no_rate run = (no_extreme below smaller run, no_extreme above greater run)
