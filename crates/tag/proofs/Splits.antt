-- A time that a tag has, taken apart: its head, its fraction and Z, and the digits of its fraction.
use mathlib.Core.Path.{◌≡◌, refl, sym, ap, subst, ◌∙◌}
use mathlib.Core.Logic.{⊎_elim}
use mathlib.Core.Bool.{Bool, true, false, cond, not, ◌&&◌, false≢true}
use mathlib.Core.List.{List, [], ◌∷◌, ◌++◌, append_assoc, append-nil}
use Prim.Native.Nat.{ℕ, suc, ◌+◌, ◌^◌, ◌≤◌, ◌<◌}
use native.Mathlib.Nat.{eq-or-lt_of_le, not-suc-le-zero}
use native.Mathlib.Omega.{arith}
use lib.Dec.{eqb, leb}
use lib.ListN.{length, take, drop, length-drop, take-append-drop}
use lib.Seq.{take-length}
use borrow.Author.Tests.{eqb-true, leb-true}
use Rattle.base.specs.Outcome.{done, given}
use Rattle.base.proofs.Ladders.{done_is, need_done, then_done, given_done}
use Rattle.base.proofs.Bools.{and_true}
use Rattle.octets.specs.Places.{digit_good, digits, decimal_of, all_good}
use Rattle.octets.proofs.Places.{digit_rule, number_lt, places_number}
use Rattle.shape.specs.Quoted.{bytes}
use Rattle.moment.specs.Decimal.{ticks_of}
use Rattle.ascii.specs.Ascii.{zone_text}
use Rattle.tag.specs.Forms.{Place, Form, Forms, find}
use Rattle.tag.specs.Tags.{until, is_free, is_lowest, clock_as, fraction_as, Daytime, daytime, unzoned, time_in}
use Rattle.tag.specs.Shortening.{digits_by, cut, low_from}
use Rattle.tag.proofs.Scans.{until_le, until_cut}
use Rattle.tag.proofs.Fractions.{first_digits}

-- ---- a time, taken apart
record Zoned (s : List ℕ) : Type 0 where
  zone : Bool
  is : s ≡ take (until 90 s) s ++ zone_text zone

zoned : (s : List ℕ) → length s ≤ until 90 s + 1 → Zoned s
zoned s h = ⊎_elim plain cut_off (eq-or-lt_of_le (until_le 90 s))
  where
    plain : until 90 s ≡ length s → Zoned s
    plain e = record { zone = false; is = sym (append-nil (take (until 90 s) s) ∙ ap (λ (k : ℕ). take k s) e ∙ take-length s) }

    nothing : (t : List ℕ) → length t ≡ 0 → t ≡ []
    nothing [] e = refl
    nothing (x ∷ t) e = absurd (omega (arith, e))

    cut_off : until 90 s < length s → Zoned s
    cut_off l =
        let e : drop (until 90 s + 1) s ≡ [] = nothing (drop (until 90 s + 1) s) (let z : length (drop (until 90 s + 1) s) ≡ 0 = simp length-drop (omega arith) in z) in
        record { zone = true; is = until_cut 90 s l ∙ ap (λ (t : List ℕ). take (until 90 s) s ++ (90 ∷ t)) e }

-- what follows the head begins with the period
pub data Follows : List ℕ → Type 0 where
  none : Follows []
  part : (ds : List ℕ) → Follows (46 ∷ ds)

follows : (s : List ℕ) → Follows (drop (until 46 s) s)
follows [] = none
follows (b ∷ s) = go (eqb b 46) refl (follows s)
  where
    go : (t : Bool) → eqb b 46 ≡ t → Follows (drop (until 46 s) s) → Follows (drop (cond t 0 (suc (until 46 s))) (b ∷ s))
    go true e r = subst (λ (x : ℕ). Follows (x ∷ s)) (sym (eqb-true b 46 e)) (part s)
    go false e r = r

pub record Split (fs : Forms) (s : List ℕ) (k : Daytime) : Type 0 where
  pub head : List ℕ
  pub tail : List ℕ
  pub zone : Bool
  pub form_is : Form
  pub is : s ≡ head ++ (tail ++ zone_text zone)
  pub next : Follows tail
  pub found : find fs head ≡ done form_is
  pub clock : clock_as head form_is ≡ k.clock
  pub ticks : fraction_as form_is.third tail ≡ done k.ticks

split_body : (fs : Forms) (s u : List ℕ) (z : Bool) (k : Daytime) → s ≡ u ++ zone_text z → unzoned fs u ≡ done k → Split fs s k
unfolding unzoned
split_body fs s u z k i e =
    let p = until 46 u in
    let (f, (c, d)) = then_done (find fs (take p u)) (λ f. given (daytime (clock_as (take p u) f)) (fraction_as f.third (drop p u))) k e in
    let (n, (g, h)) = given_done (daytime (clock_as (take p u) f)) (fraction_as f.third (drop p u)) k d in
    record {
      head = take p u;
      tail = drop p u;
      zone = z;
      form_is = f;
      is = i ∙ ap (λ (t : List ℕ). t ++ zone_text z) (sym (take-append-drop p u)) ∙ append_assoc (take p u) (drop p u) (zone_text z);
      next = follows u;
      found = c;
      clock = ap (λ (t : Daytime). t.clock) h;
      ticks = g ∙ ap (λ (t : Daytime). done t.ticks) h;
    }

pub split : (fs : Forms) (s : List ℕ) (k : Daytime) → time_in fs s ≡ done k → Split fs s k
unfolding time_in
split fs s k e =
    let (a, b) = need_done (leb (length s) (until 90 s + 1)) 4 _ k e in
    let z = zoned s (leb-true (length s) (until 90 s + 1) a) in
    split_body fs s (take (until 90 s) s) z.zone k z.is b

-- ---- a fraction
pub record Part (p : Place) (tail : List ℕ) (k : ℕ) : Type 0 where
  pub digit_count : ℕ
  pub number : ℕ
  pub few : digit_count ≤ 12
  pub small : number < 10 ^ digit_count
  pub exact : ticks_of digit_count number ≡ k
  pub is : tail ≡ cut 0 digit_count (digits_by (bytes ".") (digits digit_count number))
  pub some : is_free p ≡ true → 1 ≤ digit_count
  pub none : is_lowest p ≡ true → digit_count ≡ 0

all_digits : (ds : List ℕ) → all_good digit_good ds (length ds) ≡ true → digits (length ds) (decimal_of ds (length ds)) ≡ ds
all_digits ds g = places_number digit_rule ds (length ds) (omega arith) g ∙ take-length ds

whole_part : (ds : List ℕ) → 1 ≤ length ds → 46 ∷ ds ≡ cut 0 (length ds) (digits_by (bytes ".") ds)
whole_part [] h = absurd (not-suc-le-zero h)
whole_part (d ∷ ds) h = sym (first_digits (length ds) (d ∷ ds) (omega arith) ∙ ap (λ (t : List ℕ). 46 ∷ t) (take-length (d ∷ ds)))

pub part_back : {tail : List ℕ} (p : Place) (k : ℕ) → Follows tail → fraction_as p tail ≡ done k → Part p tail k
part_back p k none e =
    let (a, b) = need_done (not (is_free p)) 4 (done 0) k e in
    record { digit_count = 0; number = 0; few = omega arith; small = omega arith; exact = done_is 0 k b; is = refl; some = λ f. absurd (false≢true (sym (ap not f) ∙ a)); none = λ f. refl }
part_back p k (part ds) e =
    let (a, b) = need_done (not (is_lowest p) && (leb 1 (length ds) && (leb (length ds) 12 && all_good digit_good ds (length ds)))) 4 _ k e in
    let (c, r) = and_true (not (is_lowest p)) _ a in
    let (l, q) = and_true (leb 1 (length ds)) _ r in
    let (h, g) = and_true (leb (length ds) 12) _ q in
    let n = leb-true 1 (length ds) l in
    record {
      digit_count = length ds;
      number = decimal_of ds (length ds);
      few = leb-true (length ds) 12 h;
      small = number_lt digit_rule ds (length ds) g;
      exact = done_is _ k b;
      is = rw (all_digits ds g) (whole_part ds n);
      some = λ f. n;
      none = λ f. absurd (false≢true (sym (ap not f) ∙ c));
    }

pub low_end : (b ds : List ℕ) → low_from (length ds) (digits_by b ds) ≡ true
low_end b [] = refl
low_end b (d ∷ ds) = low_end [] ds
