-- What a ladder of rungs says, once for every call: a call is refused by its rungs where, its value aside, it ends as their ladder does. And how a ladder of `need` comes to that.
use mathlib.Core.Path.{◌≡◌, refl, sym, ap, ◌∙◌}
use mathlib.Core.Bool.{Bool, true, false, cond, ◌&&◌}
use mathlib.Core.List.{List, [], ◌∷◌}
use mathlib.Core.Logic.{◌⊎◌, inl, inr, ◌↔◌}
use Prim.Native.Nat.{ℕ, ◌≤◌}
use native.Mathlib.Omega.{arith}
use lib.Dec.{leb}
use borrow.Author.Tests.{leb-true}
use Rattle.base.specs.Outcome.{Outcome, done, refused, need, and_then, given, status}
use Rattle.base.proofs.Bools.{and_true, and_yes}
use Rattle.base.proofs.Ladders.{never, done_is, need_yes, need_no, need_done, refused_is, given_done}
use Rattle.promises.specs.Promises.{Done, Refused, last_number}
use Rattle.promises.specs.Rungs.{Rung, first_broken, Broken, here, past, all_hold, numbered, Exactly}

-- an outcome, its value aside
abbrev pub verdict : {A : Type 0} → Outcome A → Outcome (Unit {0})
verdict x = given (λ _. tt) x

-- rungs and what is above them
abbrev pub under : {A : Type 0} → List Rung → Outcome A → Outcome A
under [] x = x
under (r ∷ rs) x = need r.holds r.number (under rs x)

abbrev pub climb : {A : Type 0} → List Rung → A → Outcome A
climb rs a = under rs (done a)

abbrev pub judged : List Rung → Outcome (Unit {0})
judged rs = climb rs tt

-- ---- the general law
by_rung : (n : ℕ) (r : Rung) (rs : List Rung) (b : Bool) → r.holds ≡ b → need b r.number (judged rs) ≡ refused n → (judged rs ≡ refused n → Broken n rs) → Broken n (r ∷ rs)
by_rung n r rs true h e f = past h (f e)
by_rung n r rs false h e f = here (refused_is r.number n e) h

judged_broken : (n : ℕ) (rs : List Rung) → judged rs ≡ refused n → Broken n rs
judged_broken n [] e = never n tt (sym e)
judged_broken n (r ∷ rs) e = by_rung n r rs r.holds refl e (judged_broken n rs)

pub broken_judged : (n : ℕ) {rs : List Rung} → Broken n rs → judged rs ≡ refused n
broken_judged n (here {r} {rs} e b) = need_no r.number (judged rs) b ∙ ap refused e
broken_judged n (past {r} {rs} b i) = need_yes r.number (judged rs) b ∙ broken_judged n i

pub climbs_up : {A : Type 0} (rs : List Rung) (a : A) → all_hold rs ≡ true → climb rs a ≡ done a
climbs_up [] a h = refl
climbs_up (r ∷ rs) a h =
    let (p, q) = and_true r.holds (all_hold rs) h in
    need_yes r.number (climb rs a) p ∙ climbs_up rs a q

-- .. and what is reached is what was above
pub climb_is : {A : Type 0} (rs : List Rung) (a b : A) → climb rs a ≡ done b → a ≡ b
climb_is [] a b e = done_is a b e
climb_is (r ∷ rs) a b e = climb_is rs a b (need_done r.holds r.number (climb rs a) b e).1

judged_all : (rs : List Rung) → judged rs ≡ done tt → all_hold rs ≡ true
judged_all [] e = refl
judged_all (r ∷ rs) e =
    let (h, k) = need_done r.holds r.number (judged rs) tt e in
    and_yes (all_hold rs) h ∙ judged_all rs k

judged_status : (rs : List Rung) → status (judged rs) ≡ first_broken rs
judged_status [] = refl
judged_status (r ∷ rs) = go r.holds (judged_status rs)
  where
    go : (b : Bool) → status (judged rs) ≡ first_broken rs → status (need b r.number (judged rs)) ≡ cond b (first_broken rs) r.number
    go true e = e
    go false e = refl

-- ---- a call that ends as its rungs do
verdict_refused : {A : Type 0} (n : ℕ) (x : Outcome A) → verdict x ≡ refused n → x ≡ refused n
verdict_refused n (done a) e = never n tt (sym e)
verdict_refused n (refused m) e = ap refused (refused_is m n e)

verdict_done : {A : Type 0} (x : Outcome A) → verdict x ≡ done tt → Done x
verdict_done x e = let (a, (h, _)) = given_done (λ _. tt) x tt e in (a, h)

verdict_status : {A : Type 0} (x : Outcome A) → status x ≡ status (verdict x)
verdict_status (done a) = refl
verdict_status (refused n) = refl

pub by_rungs : {A : Type 0} (x : Outcome A) (rs : List Rung) → verdict x ≡ judged rs → Exactly x rs
by_rungs x rs e = record {
  refuses = λ n. (λ p. judged_broken n rs (sym e ∙ ap verdict p), λ b. verdict_refused n x (e ∙ broken_judged n b));
  passes = (λ (a, p). judged_all rs (sym e ∙ ap verdict p), λ h. verdict_done x (e ∙ climbs_up rs tt h));
  answers = verdict_status x ∙ ap status e ∙ judged_status rs;
}

-- a refusal's number is that of a rung
broken_number : (n : ℕ) {rs : List Rung} → numbered rs ≡ true → Broken n rs → (1 ≤ n) × (n ≤ last_number)
broken_number n g (here {r} {rs} e b) =
    let (h, _) = and_true (leb 1 r.number && leb r.number last_number) (numbered rs) g in
    let (l, u) = and_true (leb 1 r.number) (leb r.number last_number) h in
    rw (← e) (leb-true 1 r.number l, leb-true r.number last_number u)
broken_number n g (past {r} {rs} b i) = broken_number n (and_true (leb 1 r.number && leb r.number last_number) (numbered rs) g).1 i

pub ends_by : {A : Type 0} (x : Outcome A) (rs : List Rung) → Exactly x rs → numbered rs ≡ true → Done x ⊎ Refused x
ends_by (done a) rs e g = inl (a, refl)
ends_by (refused n) rs e g = let (l, u) = broken_number n g ((e.refuses n).0 refl) in inr (n, refl, l, u)

pub answers_by : {A : Type 0} (x : Outcome A) → Done x ⊎ Refused x → ((status x ≡ 0) ↔ Done x) × (status x ≤ last_number)
answers_by x (inl (a, e)) = rw e ((λ _. (a, refl), λ _. refl), omega arith)
answers_by x (inr (n, e, l, u)) = rw e ((λ z. absurd (omega arith), λ (a, h). never n a h), u)

-- ---- ladders
-- a test, and what comes once it holds
pub step : {A : Type 0} (b : Bool) (n : ℕ) (x : Outcome A) (m : Outcome (Unit {0})) → (b ≡ true → verdict x ≡ m) → verdict (need b n x) ≡ need b n m
step true n x m f = f refl
step false n x m f = refl

-- two tests with one number are one
pub need_both : {A : Type 0} (a b : Bool) (n : ℕ) (x : Outcome A) → need a n (need b n x) ≡ need (a && b) n x
need_both true b n x = refl
need_both false b n x = refl

pub then_need : {A B : Type 0} (b : Bool) (n : ℕ) (a : A) (k : A → Outcome B) → and_then (need b n (done a)) k ≡ need b n (k a)
then_need true n a k = refl
then_need false n a k = refl

pub then_then : {A B C : Type 0} (x : Outcome A) (f : A → Outcome B) (k : B → Outcome C) → and_then (and_then x f) k ≡ and_then x (λ a. and_then (f a) k)
then_then (done a) f k = refl
then_then (refused n) f k = refl

-- what comes after a rung matters once it holds
pub rung_so : {A : Type 0} (b : Bool) (n : ℕ) {x y : Outcome A} → (b ≡ true → x ≡ y) → need b n x ≡ need b n y
rung_so true n f = f refl
rung_so false n f = refl

pub both_ways : (s t : Bool) → (s ≡ true → t ≡ true) → (t ≡ true → s ≡ true) → s ≡ t
both_ways true t f g = sym (f refl)
both_ways false true f g = g refl
both_ways false false f g = refl

pub verdict_given : {A B : Type 0} (f : A → B) (x : Outcome A) → verdict (given f x) ≡ verdict x
verdict_given f (done a) = refl
verdict_given f (refused n) = refl

pub given_need : {A B : Type 0} (f : A → B) (b : Bool) (n : ℕ) (x : Outcome A) → given f (need b n x) ≡ need b n (given f x)
given_need f true n x = refl
given_need f false n x = refl

pub given_climb : {A B : Type 0} (f : A → B) (rs : List Rung) (a : A) → given f (climb rs a) ≡ climb rs (f a)
given_climb f [] a = refl
given_climb f (r ∷ rs) a = given_need f r.holds r.number (climb rs a) ∙ ap (need r.holds r.number) (given_climb f rs a)

-- a test within a part
pub rise : {A B : Type 0} (b : Bool) (n : ℕ) (x : Outcome A) (k : A → Outcome B) (m : Outcome (Unit {0})) → (b ≡ true → verdict (and_then x k) ≡ m) → verdict (and_then (need b n x) k) ≡ need b n m
rise true n x k m f = f refl
rise false n x k m f = refl

climbed : {A B : Type 0} (rs : List Rung) (a : A) (k : A → Outcome B) (m : Outcome (Unit {0})) → (all_hold rs ≡ true → verdict (k a) ≡ m) → verdict (and_then (climb rs a) k) ≡ under rs m
climbed [] a k m f = f refl
climbed (r ∷ rs) a k m f =
    rise r.holds r.number (climb rs a) k (under rs m) (λ h. climbed rs a k m (λ g. f (and_yes (all_hold rs) h ∙ g)))

-- a part that is such a ladder, and what comes after it
pub after : {A B : Type 0} (x : Outcome A) (rs : List Rung) (a : A) (k : A → Outcome B) (m : Outcome (Unit {0})) → x ≡ climb rs a → (all_hold rs ≡ true → verdict (k a) ≡ m) → verdict (and_then x k) ≡ under rs m
after x rs a k m e f = ap (λ (y : Outcome _). verdict (and_then y k)) e ∙ climbed rs a k m f
