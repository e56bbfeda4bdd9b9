-- Digits and what they name, there and back: the date's, the clock's, and a whole T-field's.
use mathlib.Core.Path.{◌≡◌, refl, sym, ap, ◌∙◌}
use mathlib.Core.Bool.{Bool, true, false}
use mathlib.Core.List.{List, ◌++◌, append_assoc}
use Prim.Native.Nat.{ℕ, ◌+◌, ◌-◌, ◌*◌, ◌/◌, ◌%◌, ◌^◌, ◌<◌, ◌≤◌}
use native.Mathlib.Omega.{arith}
use lib.IntN.{ℤ}
use lib.ListN.{length, take, drop, length-append, length-drop}
use lib.Seq.{take-add, drop-drop, drop_at}
use Rattle.base.specs.Outcome.{Outcome, done, given}
use Rattle.base.proofs.Ladders.{then_done, given_done}
use Rattle.octets.specs.Places.{bcd, bcd_element}
use Rattle.octets.proofs.Places.{length_places, bcd_rule}
use Rattle.octets.proofs.Counts.{read_back}
use Rattle.calendar.specs.Gregorian.{index_of_day, ordinal_at, date_at, day_of_date, day_of_ordinal, date_of_day, ordinal_of_day, ymd}
use Rattle.calendar.specs.declared.Date.{Date}
use Rattle.calendar.specs.declared.Ordinal.{Ordinal}
use Rattle.calendar.proofs.Promises.{ordinal_fields_lem, date_fields_lem, ordinal_of_day_back, date_of_day_back, day_of_ordinal_back, day_of_date_back}
use Rattle.clock.specs.Clock.{clock_of, minute_of}
use Rattle.clock.proofs.Laws.{Shown, shown, shown_back, clock_back}
use Rattle.ccs.specs.Ccs.{pairs, ordinal_text, month_text, date_text, clock_text}
use Rattle.ccs.proofs.Wholes.{day_in, clock_in, ordinal_run, month_run, clock_number, digits_of, clock_text_lem}
use Rattle.ccs.proofs.Pairs.{pair_told}
use Rattle.ccs.proofs.Rungs.{code_text}
use Rattle.base.specs.Said.{said}

-- ---- the date
-- what is written of a day is eight digits, and these name the day
pub record Dated (o : Bool) (k : ℤ) (d : List ℕ) : Type 0 where
  pub date : ℕ
  pub text : d ≡ bcd 4 date
  pub small : date < 100000000
  pub names : day_in o date ≡ done k

two : (f : ℕ → ℕ → Outcome ℤ) {a b c d : ℕ} → a ≡ b → c ≡ d → f a c ≡ f b d
two f p q = λ i. f (p i) (q i)

three : {B : Type 0} (f : ℕ → ℕ → ℕ → B) {a b c d x y : ℕ} → a ≡ b → c ≡ d → x ≡ y → f a c x ≡ f b d y
three f p q r = λ i. f (p i) (q i) (r i)

-- the fields of a day that is given are in their ranges
pub ordinal_day_lem : (k : ℤ) (o : Ordinal) → ordinal_of_day k ≡ done o → (1 ≤ o.year) × (o.year ≤ 9999) × (1 ≤ o.day) × (o.day ≤ 366)
ordinal_day_lem k o e = let (n, (p, q)) = then_done (index_of_day k) ordinal_at o e in ordinal_fields_lem n o q

pub date_day : (k : ℤ) (t : Date) → date_of_day k ≡ done t → (1 ≤ t.year) × (t.year ≤ 9999) × (1 ≤ t.month) × (t.month ≤ 12) × (1 ≤ t.day) × (t.day ≤ 31)
date_day k t e = let (n, (p, q)) = then_done (index_of_day k) date_at t e in date_fields_lem n t q

-- with these, the digits of a day are its fields
pub ruleset fields = (ordinal_day_lem, date_day, ordinal_run, month_run)

pub date_written : (o : Bool) (k : ℤ) (d : List ℕ) → date_text o k ≡ done d → Dated o k d
unfolding date_text
date_written true k d e =
    let (r, (p, q)) = given_done ordinal_text (ordinal_of_day k) d e in
    let f = ordinal_day_lem k r p in
    record {
      date = r.year * 10000 + r.day;
      text = sym q ∙ sym (ordinal_run r (omega arith));
      small = omega arith;
      names = two day_of_ordinal (omega arith) (omega arith) ∙ ordinal_of_day_back k r p;
    }
date_written false k d e =
    let (r, (p, q)) = given_done month_text (date_of_day k) d e in
    let f = date_day k r p in
    record {
      date = r.year * 10000 + r.month * 100 + r.day;
      text = sym q ∙ sym (month_run r (omega arith) (omega arith));
      small = omega arith;
      names = three day_of_date (omega arith) (omega arith) (omega arith) ∙ date_of_day_back k r p;
    }

-- and eight digits that name a day are what is written of it
pub date_read : (o : Bool) (k : ℤ) (n : ℕ) → day_in o n ≡ done k → date_text o k ≡ done (bcd 4 n)
unfolding date_text
date_read true k n e =
    let r : Ordinal = record { year = n / 10000; day = n % 10000 } in
    let z : n / 10000 * 10000 + n % 10000 ≡ n = omega arith in
    ap (given ordinal_text) (day_of_ordinal_back r k e) ∙ ap done (sym (ordinal_run r (omega arith)) ∙ ap (bcd 4) z)
date_read false k n e =
    let r : Date = ymd (n / 10000) (n / 100 % 100) (n % 100) in
    let z : n / 10000 * 10000 + n / 100 % 100 * 100 + n % 100 ≡ n = omega arith in
    ap (given month_text) (day_of_date_back r k e) ∙ ap done (sym (month_run r (omega arith) (omega arith)) ∙ ap (bcd 4) z)

-- ---- the clock
pub clock_written : (n : ℕ) → n ≤ 86400 → (digits_of n < 1000000) × (clock_in (digits_of n) ≡ done n)
clock_written n h =
    let m = minute_of n in
    let s : Shown n m = shown n h in
    let a : digits_of n / 10000 ≡ m / 60 = omega arith in
    let b : digits_of n / 100 % 100 ≡ m % 60 = omega arith in
    let c : digits_of n % 100 ≡ n - m * 60 = omega arith in
    (omega arith, three clock_of a b c ∙ shown_back n h)

six : (n : ℕ) → clock_number (n / 10000) (n / 100 % 100) (n % 100) ≡ n
six n = omega arith

pub clock_read : (n x : ℕ) → clock_in n ≡ done x → (x ≤ 86400) × (clock_text x ≡ bcd 3 n)
clock_read n x e =
    let h = n / 10000 in
    let m = n / 100 % 100 in
    let s = n % 100 in
    let c = clock_back h m s x e in
    (c.low, sym (clock_text_lem x c.low) ∙ ap (bcd 3) (three clock_number c.hour c.minute c.second ∙ six n))

-- ---- a whole T-field
pub record Read (s : List ℕ) (at w date clock part : ℕ) : Type 0 where
  pub held : at + (7 + w) ≤ length s
  pub dates : pairs s at 4 ≡ done date
  pub clocks : pairs s (at + 4) 3 ≡ done clock
  pub parts : pairs s (at + 7) w ≡ done part

-- what stands behind a text
behind : (s a r : List ℕ) (at to : ℕ) → to ≡ at + length a → drop at s ≡ a ++ r → drop to s ≡ r
behind s a r at to e d =
    ap (λ (i : ℕ). drop i s) e ∙ sym (drop-drop (length a) at s) ∙ ap (drop (length a)) d ∙ drop_at a r (length a) refl

-- the digits of a code that stands in some bytes are read
pub code_read : (s t : List ℕ) (at w date clock part : ℕ) → w ≤ 6 → date < 100000000 → clock < 1000000 → part < 100 ^ w → at ≤ length s → drop at s ≡ code_text w date clock part ++ t → Read s at w date clock part
code_read s t at w date clock part h hd hc hp k e =
    let a = bcd 4 date in
    let b = bcd 3 clock in
    let c = bcd w part in
    let la = length_places 100 bcd_element 4 date in
    let lb = length_places 100 bcd_element 3 clock in
    let lc = length_places 100 bcd_element w part in
    let e1 : drop at s ≡ a ++ (b ++ c ++ t) = e ∙ append_assoc a (b ++ c) t in
    let e2 : drop (at + 4) s ≡ b ++ (c ++ t) = behind s a (b ++ c ++ t) at (at + 4) (omega arith) e1 ∙ append_assoc b c t in
    let e3 : drop (at + 7) s ≡ c ++ t = behind s b (c ++ t) (at + 4) (at + 7) (omega arith) e2 in
    let n : at + (7 + w) ≤ length s = omega (arith, length-drop at s, ap length e1, length-append a (b ++ c ++ t), length-append (b ++ c) t, length-append b c) in
    record {
      held = n;
      dates = ap said (sym (read_back bcd_rule 9 s (b ++ c ++ t) at 4 date (omega arith) hd k e1));
      clocks = ap said (sym (read_back bcd_rule 9 s (c ++ t) (at + 4) 3 clock (omega arith) hc (omega arith) e2));
      parts = ap said (sym (read_back bcd_rule 9 s t (at + 7) w part (omega arith) hp (omega arith) e3));
    }

-- and read digits are a code's
pub read_code : (s : List ℕ) (at w date clock part : ℕ) → Read s at w date clock part → (part < 100 ^ w) × (take (7 + w) (drop at s) ≡ code_text w date clock part)
read_code s at w date clock part r =
    let d = drop at s in
    let p : take 4 d ≡ bcd 4 date = (pair_told s at 4 date r.dates).1 in
    let q : take 3 (drop 4 d) ≡ bcd 3 clock = ap (take 3) (drop-drop 4 at s) ∙ (pair_told s (at + 4) 3 clock r.clocks).1 in
    let (l, u) = pair_told s (at + 7) w part r.parts in
    let v : take w (drop 7 d) ≡ bcd w part = ap (take w) (drop-drop 7 at s) ∙ u in
    (l, take-add 7 w d ∙ ap (λ (x : List ℕ). x ++ take w (drop 7 d)) (take-add 4 3 d) ∙ append_assoc (take 4 d) (take 3 (drop 4 d)) (take w (drop 7 d)) ∙ (λ i. p i ++ (q i ++ v i)))
