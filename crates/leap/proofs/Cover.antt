-- The built-in cover, of signed numbers: where a number's seat is, what the calls answer.
use Prim.Native.Nat.{ℕ, ◌+◌, ◌-◌, ◌^◌, ◌<◌, ◌≤◌}
use mathlib.Core.Path.{◌≡◌, refl, sym, ap, ◌∙◌}
use mathlib.Core.Bool.{Bool, true, false, cond}
use mathlib.Core.List.{List, [], ◌∷◌}
use native.Mathlib.Omega.{arith}
use lib.Dec.{leb, ltb}
use lib.IntN.{ℤ, pos}
use borrow.Author.Tests.{leb-true, ltb-true, le-leb, lt-leb}
use Rattle.base.specs.Parts.{within, At, lowered_by}
use Rattle.base.specs.Seats.{seat_of}
use Rattle.base.specs.Outcome.{Outcome, done, refused, and_then, given}
use Rattle.base.proofs.Bools.{and_true, never_both}
use Rattle.base.proofs.Ladders.{need_yes, need_no, need_done, then_done, done_is}
use Rattle.base.proofs.Signed.{within_yes, seat_in_lem, seat_out}
use Rattle.leap.specs.declared.Row.{Row}
use Rattle.leap.specs.declared.Reading.{Reading}
use Rattle.leap.specs.Table.{off_from, offset, start, day_length, day_holding, covers, covers_second, second_at, reading, reading_at}
use Rattle.leap.specs.Builtin.{builtin, first_day, first_index, first_raised, first_second, last_day, last_index, last_second, past_raised}
use Rattle.leap.specs.Utc.{day_raise, second_raise, lifted_by, reading_of, second_of, second_of_utc}
use Rattle.leap.proofs.Days.{holding_le}
use Rattle.leap.proofs.Builtin.{builtin_good, covered_days, covered_seconds, second_in_lem, first_second_lem, past_second, passes}
use Rattle.leap.proofs.Outcomes.{reading_done, reading_uncovered, second_uncovered}
use Rattle.leap.proofs.Raised.{raise_at, raise_out}
use Rattle.std.specs.Prelude.{Some, None}

-- a test that can't hold fails
fails : (b : Bool) → (b ≡ true → ◌≡◌ {A = Bool} true false) → b ≡ false
fails true f = f refl
fails false f = refl

-- ---- TAI seconds
pub seconds_in : (z : ℤ) (n : ℕ) → seat_of (pos first_second) (pos last_second) z ≡ Some n → (At second_raise (n + first_raised) z) × (n + first_raised < past_raised)
seconds_in z n e = let s = seat_in_lem (pos first_second) (pos last_second) z n e in (omega (arith, s.place), omega (arith, s.place, s.high))

pub reading_in : (z : ℤ) (n : ℕ) → seat_of (pos first_second) (pos last_second) z ≡ Some n → reading_of builtin z ≡ done (reading builtin (day_holding builtin (n + first_raised)) (n + first_raised - start builtin (day_holding builtin (n + first_raised))))
unfolding reading_of
reading_in z n e =
    let (a, h) = seconds_in z n e in
    ap (λ (x : Outcome ℕ). and_then x (reading_at builtin)) (raise_at second_raise (n + first_raised) z a)
    ∙ reading_done builtin (n + first_raised) (second_in_lem (n + first_raised) (omega arith) h)

uncovered_second : (z : ℤ) (n : ℕ) → within (pos first_second) (pos last_second) z ≡ false → At second_raise n z → covers_second builtin n ≡ false
uncovered_second z n w a =
    fails (covers_second builtin n) (λ c.
    let (p, q) = and_true (leb first_raised n) (ltb n past_raised) (sym (covered_seconds n) ∙ c) in
    never_both (within_yes (pos first_second) (pos last_second) z (omega (arith, leb-true first_raised n p)) (omega (arith, ltb-true n past_raised q))) w)

pub reading_out : (z : ℤ) → seat_of (pos first_second) (pos last_second) z ≡ None → reading_of builtin z ≡ refused 5
unfolding reading_of
reading_out z e =
    raise_out second_raise z (reading_at builtin)
    (λ n a. reading_uncovered builtin n (uncovered_second z n (seat_out (pos first_second) (pos last_second) z e) a))

-- ---- UTC days
pub days_in : (z : ℤ) (n : ℕ) → seat_of (pos first_day) (pos last_day) z ≡ Some n → (At day_raise (n + first_index) z) × (n ≤ last_day - first_day)
days_in z n e = let s = seat_in_lem (pos first_day) (pos last_day) z n e in (omega (arith, s.place), omega (arith, s.place, s.high))

uncovered_day : (z : ℤ) (n : ℕ) → within (pos first_day) (pos last_day) z ≡ false → At day_raise n z → covers builtin n ≡ false
uncovered_day z n w a =
    fails (covers builtin n) (λ c.
    let (p, q) = and_true (leb first_index n) (leb n last_index) (sym (covered_days n) ∙ c) in
    never_both (within_yes (pos first_day) (pos last_day) z (omega (arith, leb-true first_index n p)) (omega (arith, leb-true n last_index q))) w)

module _ (z : ℤ) (x : ℕ) where
  pub utc_over : 86400 < x → second_of_utc builtin z x ≡ refused 4
  unfolding second_of_utc
  utc_over h = need_no 4 _ (lt-leb x 86400 h)

  pub utc_in : (n : ℕ) → x ≤ 86400 → seat_of (pos first_day) (pos last_day) z ≡ Some n → second_of_utc builtin z x ≡ second_of builtin (n + first_index) x
  unfolding second_of_utc
  utc_in n h e =
      need_yes 4 _ (le-leb x 86400 h) ∙ ap (λ (y : Outcome ℕ). and_then y (λ d. second_of builtin d x)) (raise_at day_raise (n + first_index) z (days_in z n e).0)

  pub utc_out : x ≤ 86400 → seat_of (pos first_day) (pos last_day) z ≡ None → second_of_utc builtin z x ≡ refused 5
  unfolding second_of second_of_utc
  utc_out h e =
      need_yes 4 _ (le-leb x 86400 h)
      ∙ raise_out day_raise z (λ n. given (lowered_by second_raise) (second_at builtin n x))
      (λ n a. ap (given (lowered_by second_raise)) (second_uncovered builtin n x h (uncovered_day z n (seat_out (pos first_day) (pos last_day) z e) a)))

-- ---- what the machine's sums need
abbrev low : Row → Bool
low r = leb r.offset 101

either : (b : Bool) (m n : ℕ) → m ≤ 101 → n ≤ 101 → cond b m n ≤ 101
either true m n h k = h
either false m n h k = k

offset_by : (r : Row) (rs : List Row) (d : ℕ) → low r ≡ true → passes low rs ≡ true → off_from r rs d ≤ 101
offset_by r [] d h e = leb-true _ _ h
offset_by r (r' ∷ rs) d h e =
    let (p, q) = and_true (low r') (passes low rs) e in
    either (ltb d r'.day) r.offset (off_from r' rs d) (leb-true _ _ h) (offset_by r' rs d p q)

pub offset_low : (d : ℕ) → offset builtin d ≤ 101
unfolding offset builtin
offset_low d = offset_by builtin.first builtin.later d refl refl

pub second_low : (d x s : ℕ) → second_at builtin d x ≡ done s → s < 2 ^ 60
unfolding second_at
second_low d x s e =
    let (p, q) = need_done (leb x 86400) 4 _ s e in
    let (c, r) = need_done (covers builtin d) 5 _ s q in
    let (l, m) = need_done (ltb x (day_length builtin d)) 6 _ s r in
    let h : leb d last_index ≡ true = (and_true (leb first_index d) (leb d last_index) (sym (covered_days d) ∙ c)).1 in
    omega (arith, done_is _ s m, offset_low d, leb-true x 86400 p, leb-true d last_index h)

pub reading_low : (z : ℤ) (r : Reading) → reading_of builtin z ≡ done r → (r.day ≤ last_index) × (r.offset ≤ 101)
unfolding reading_of reading_at
reading_low z r e =
    let (s, k) = then_done (lifted_by second_raise z) (reading_at builtin) r e in
    let (c, m) = need_done (covers_second builtin s) 5 (done (reading builtin (day_holding builtin s) (s - start builtin (day_holding builtin s)))) r k.1 in
    let (p, q) = and_true (leb first_raised s) (ltb s past_raised) (sym (covered_seconds s) ∙ c) in
    let h : day_holding builtin s ≤ last_index = holding_le builtin builtin_good s last_index (rw first_second_lem (leb-true first_raised s p)) (rw past_second (ltb-true s past_raised q)) in
    rw (← done_is _ r m) (h, offset_low (day_holding builtin s))
