-- The count of the rows that have begun: of the rows before row i, row n is the last that has.
use mathlib.Core.Logic.{◌⊎◌, inl, inr, ⊎_elim}
use mathlib.Core.Path.{◌≡◌, refl}
use mathlib.Core.Bool.{Bool, true, false}
use Prim.Native.Nat.{ℕ, ◌+◌, ◌-◌, ◌*◌, ◌<◌, ◌≤◌}
use native.Mathlib.Omega.{arith}
use borrow.Author.Tests.{leb-true, leb-false}
use lib.Dec.{leb}
use lib.ListN.{get_or, drop}
use mir.Val.{bool_byte}
use Rattle.leap.specs.Builtin.{published, no_leap, builtin, past_raised}
use Rattle.leap.specs.Utc.{second_raise}
use Rattle.leap.specs.Inner.{row_at, end_at, begins}
use Rattle.leap.proofs.Rows.{end_next, begins_rise}
use Rattle.leap.proofs.Builtin.{builtin_good, later_rows, row_read, later_is}

pub record Counted (s n i : ℕ) : Type 0 where
  pub row : n < i
  pub end : i ≤ 28
  pub low : begins (row_at builtin n) ≤ s
  pub high : (n + 1 ≡ i) ⊎ ((n + 1 < i) × (s < begins (row_at builtin (n + 1))))

-- when later row k begins, as the code reads it
abbrev begin : ℕ → ℕ
begin k = let r = get_or (drop 1 published) k no_leap in r.day * 86400 + r.offset

begin_is : (k : ℕ) → k < 27 → begin k + second_raise ≡ begins (row_at builtin (k + 1))
begin_is k h = rw (later_is k) (omega (arith, row_read (k + 1) (omega arith)))

pub day_fits : (k : ℕ) → k < 27 → (get_or (drop 1 published) k no_leap).day < 30000
day_fits k h = rw (later_is k) (omega (arith, row_read (k + 1) (omega arith)))

-- no row has begun that comes after one that has not
last_begun : (s n i : ℕ) → i < 28 → Counted s n i → begins (row_at builtin i) ≤ s → n + 1 ≡ i
last_begun s n i h w k =
    ⊎_elim
    (λ (e : n + 1 ≡ i). e)
    (λ u. absurd (omega (arith, u.1, begins_rise builtin builtin_good (n + 1) i (omega (arith, u.0)) (omega (arith, later_rows)))))
    w.high

turn_by : (s n i x : ℕ) (b : Bool) → leb x (s - second_raise) ≡ b → x + second_raise ≡ begins (row_at builtin i) → second_raise ≤ s → i < 28 → Counted s n i → Counted s (n + bool_byte b) (i + 1)
turn_by s n i x true q f l h w =
    let k : begins (row_at builtin i) ≤ s = omega (arith, leb-true x (s - second_raise) q) in
    let e : n + 1 ≡ i = last_begun s n i h w k in
    record { row = omega arith; end = omega arith; low = rw e k; high = inl (omega arith) }
turn_by s n i x false q f l h w =
    let k : s < begins (row_at builtin i) = omega (arith, leb-false x (s - second_raise) q) in
    let e : n + bool_byte false ≡ n = omega arith in
    rw e record {
      row = omega (arith, w.row);
      end = omega arith;
      low = w.low;
      high = inr (⊎_elim (λ (f : n + 1 ≡ i). (omega arith, rw f k)) (λ u. (omega (arith, u.0), u.1)) w.high);
    }

pub turn : (s n k x : ℕ) → x ≡ begin k → second_raise ≤ s → k < 27 → Counted s n (k + 1) → Counted s (n + bool_byte (leb x (s - second_raise))) (k + 1 + 1)
turn s n k x e l h w = turn_by s n (k + 1) x _ refl (rw e (begin_is k h)) l (omega arith) w

-- all counted: the next row has not begun, and after the last the cover ends
pub ended : (s n : ℕ) → s < past_raised → Counted s n 28 → s < begins (end_at builtin n)
unfolding builtin
ended s n h w =
    ⊎_elim
    (λ (f : n + 1 ≡ 28). let e : n ≡ 27 = omega arith in rw e h)
    (λ u. rw (end_next builtin n (omega (arith, u.0))) u.1)
    w.high
