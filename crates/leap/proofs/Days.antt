-- Laws of any good table: the next day begins where a day's seconds end, and each second stands in one day.
use Prim.Native.Nat.{ℕ, ◌+◌, ◌-◌, ◌*◌, ◌/◌, ◌≤◌, ◌<◌, min}
use mathlib.Core.Path.{◌≡◌, refl, ap, ◌∙◌}
use mathlib.Core.Bool.{Bool, true, false, cond, ◌&&◌, ◌||◌, false≢true}
use mathlib.Core.List.{List, [], ◌∷◌}
use native.Mathlib.Omega.{arith}
use lib.Dec.{ltb, leb, eqb}
use borrow.Author.Tests.{ltb-true, ltb-false, leb-true, eqb-true, lt-ltb, le-ltb}
use Rattle.base.proofs.Bools.{and_true}
use Rattle.base.proofs.Steps.{mono, below, one_step}
use Rattle.leap.specs.declared.Row.{Row}
use Rattle.leap.specs.Table.{Table, near, good_from, last_row, good, off_from, offset, start, day_length, day_from, day_holding}

-- ---- what the rule says of a row and the next
near_by : (a b : ℕ) (s t : Bool) → eqb b (a + 1) ≡ s → eqb a (b + 1) ≡ t → (s || t) ≡ true → (a ≤ b + 1) × (b ≤ a + 1)
near_by a b true t p q e = omega (arith, eqb-true b (a + 1) p)
near_by a b false true p q e = omega (arith, eqb-true a (b + 1) q)
near_by a b false false p q e = absurd (false≢true e)

pub record Next (r r' : Row) (rs : List Row) : Type 0 where
  pub rises : r.day < r'.day
  pub up : r'.offset ≤ r.offset + 1
  pub down : r.offset ≤ r'.offset + 1
  pub rest : good_from r' rs ≡ true

pub next : (r r' : Row) (rs : List Row) → good_from r (r' ∷ rs) ≡ true → Next r r' rs
next r r' rs g =
    let (h, q) = and_true (ltb r.day r'.day && near r.offset r'.offset) (good_from r' rs) g in
    let (p, n) = and_true (ltb r.day r'.day) (near r.offset r'.offset) h in
    let w : (r.offset ≤ r'.offset + 1) × (r'.offset ≤ r.offset + 1) = near_by r.offset r'.offset _ _ refl refl n in
    record { rises = ltb-true r.day r'.day p; up = w.1; down = w.0; rest = q }

-- ---- offsets
pub off_before : (r r' : Row) (rs : List Row) (d : ℕ) → d < r'.day → off_from r (r' ∷ rs) d ≡ r.offset
off_before r r' rs d h = rw (lt-ltb d r'.day h)

pub off_after : (r r' : Row) (rs : List Row) (d : ℕ) → r'.day ≤ d → off_from r (r' ∷ rs) d ≡ off_from r' rs d
off_after r r' rs d h = rw (le-ltb d r'.day h)

pub off_first : (r : Row) (rs : List Row) (d : ℕ) → good_from r rs ≡ true → d ≤ r.day → off_from r rs d ≡ r.offset
off_first r [] d g h = refl
off_first r (r' ∷ rs) d g h = off_before r r' rs d (omega (arith, (next r r' rs g).rises))

-- on its own day, or past the day before it, a row's offset is in force
off_own : (r r' : Row) (rs : List Row) (d : ℕ) → Next r r' rs → d ≡ r'.day → off_from r (r' ∷ rs) d ≡ r'.offset
off_own r r' rs d n e = off_after r r' rs d (omega arith) ∙ off_first r' rs d n.rest (omega arith)

pub record Close (a b : ℕ) : Type 0 where
  pub up : b ≤ a + 1
  pub down : a ≤ b + 1

close_by : (r r' : Row) (rs : List Row) (d : ℕ) → Next r r' rs → Close (off_from r' rs d) (off_from r' rs (d + 1)) → (s t : Bool) → ltb d r'.day ≡ s → ltb (d + 1) r'.day ≡ t → Close (cond s r.offset (off_from r' rs d)) (cond t r.offset (off_from r' rs (d + 1)))
close_by r r' rs d n i true true p q = record { up = omega arith; down = omega arith }
close_by r r' rs d n i true false p q =
    let f : off_from r' rs (d + 1) ≡ r'.offset = off_first r' rs (d + 1) n.rest (omega (arith, ltb-true d r'.day p)) in
    record { up = omega (arith, n.up); down = omega (arith, n.down) }
close_by r r' rs d n i false true p q = absurd (omega (arith, ltb-false d r'.day p, ltb-true (d + 1) r'.day q))
close_by r r' rs d n i false false p q = i

close : (r : Row) (rs : List Row) (d : ℕ) → good_from r rs ≡ true → Close (off_from r rs d) (off_from r rs (d + 1))
close r [] d g = record { up = omega arith; down = omega arith }
close r (r' ∷ rs) d g =
    let n : Next r r' rs = next r r' rs g in
    close_by r r' rs d n (close r' rs d n.rest) _ _ refl refl

-- ---- the day that holds a second
pub record Holds (r : Row) (rs : List Row) (s d : ℕ) : Type 0 where
  pub from : r.day ≤ d
  pub low : d * 86400 + off_from r rs d ≤ s
  pub high : s < (d + 1) * 86400 + off_from r rs (d + 1)

inside : (r r' : Row) (rs : List Row) (s d : ℕ) → Next r r' rs → r.day * 86400 + r.offset ≤ s → s < r'.day * 86400 + r'.offset → d ≡ min ((s - r.offset) / 86400) (r'.day - 1) → (t : Bool) → ltb (d + 1) r'.day ≡ t → Holds r (r' ∷ rs) s d
inside r r' rs s d n h l m true q =
    let k : d + 1 < r'.day = ltb-true (d + 1) r'.day q in
    let f : off_from r (r' ∷ rs) d ≡ r.offset = off_before r r' rs d (omega arith) in
    let f' : off_from r (r' ∷ rs) (d + 1) ≡ r.offset = off_before r r' rs (d + 1) k in
    record { from = omega (arith, n.rises); low = omega arith; high = omega arith }
inside r r' rs s d n h l m false q =
    let k : r'.day ≤ d + 1 = ltb-false (d + 1) r'.day q in
    let a : r.day < r'.day = n.rises in
    let e : d + 1 ≡ r'.day = omega arith in
    let f : off_from r (r' ∷ rs) d ≡ r.offset = off_before r r' rs d (omega arith) in
    let f' : off_from r (r' ∷ rs) (d + 1) ≡ r'.offset = off_own r r' rs (d + 1) n e in
    record { from = omega arith; low = omega arith; high = omega arith }

later : (r r' : Row) (rs : List Row) (s d : ℕ) → Next r r' rs → Holds r' rs s d → Holds r (r' ∷ rs) s d
later r r' rs s d n i =
    let f : off_from r (r' ∷ rs) d ≡ off_from r' rs d = off_after r r' rs d i.from in
    let f' : off_from r (r' ∷ rs) (d + 1) ≡ off_from r' rs (d + 1) = off_after r r' rs (d + 1) (omega (arith, i.from)) in
    record { from = omega (arith, n.rises, i.from); low = omega (arith, i.low); high = omega (arith, i.high) }

holds_by : (r r' : Row) (rs : List Row) (s : ℕ) → Next r r' rs → r.day * 86400 + r.offset ≤ s → (r'.day * 86400 + r'.offset ≤ s → Holds r' rs s (day_from r' rs s)) → (t : Bool) → ltb s (r'.day * 86400 + r'.offset) ≡ t → Holds r (r' ∷ rs) s (cond t (min ((s - r.offset) / 86400) (r'.day - 1)) (day_from r' rs s))
holds_by r r' rs s n h i true p = inside r r' rs s _ n h (ltb-true s (r'.day * 86400 + r'.offset) p) refl _ refl
holds_by r r' rs s n h i false p = later r r' rs s _ n (i (ltb-false s (r'.day * 86400 + r'.offset) p))

holds : (r : Row) (rs : List Row) (s : ℕ) → good_from r rs ≡ true → r.day * 86400 + r.offset ≤ s → Holds r rs s (day_from r rs s)
holds r [] s g h = record { from = omega arith; low = omega arith; high = omega arith }
holds r (r' ∷ rs) s g h =
    let n : Next r r' rs = next r r' rs g in
    holds_by r r' rs s n h (holds r' rs s n.rest) _ refl

-- ---- the same of a table
module _ (t : Table) (g : good t ≡ true) where
  pub rows_good : good_from t.first t.later ≡ true
  rows_good = (and_true (good_from t.first t.later) (leb (last_row t.first t.later).day t.last) g).0

  pub last_day_lem : (last_row t.first t.later).day ≤ t.last
  last_day_lem = leb-true _ _ (and_true (good_from t.first t.later) (leb (last_row t.first t.later).day t.last) g).1

  step : (d : ℕ) → Close (offset t d) (offset t (d + 1))
  unfolding offset
  step d = close t.first t.later d rows_good

  -- the next day begins where the day's seconds end, and a day has 86,399 to 86,401
  pub start_next : (d : ℕ) → start t (d + 1) ≡ start t d + day_length t d
  unfolding start day_length
  start_next d = omega (arith, (step d).up, (step d).down)

  pub length_range : (d : ℕ) → (86399 ≤ day_length t d) × (day_length t d ≤ 86401)
  unfolding start day_length
  length_range d = omega (arith, (step d).up, (step d).down)

  pub length_is : (d : ℕ) → day_length t d ≡ 86400 + offset t (d + 1) - offset t d
  unfolding start day_length
  length_is d = omega (arith, (step d).up, (step d).down)

  pub start_up : (d : ℕ) → start t d ≤ start t (d + 1)
  start_up d = omega (arith, start_next d)

  pub start_mono : (d e : ℕ) → d ≤ e → start t d ≤ start t e
  start_mono = mono (start t) start_up

  pub first_start : start t t.first.day ≡ t.first.day * 86400 + t.first.offset
  unfolding start offset
  first_start = ap (λ (o : ℕ). t.first.day * 86400 + o) (off_first t.first t.later t.first.day rows_good (omega arith))

  pub held : (s : ℕ) → start t t.first.day ≤ s → (t.first.day ≤ day_holding t s) × (start t (day_holding t s) ≤ s) × (s < start t (day_holding t s + 1))
  unfolding start offset day_holding
  held s h =
      let k : t.first.day * 86400 + t.first.offset ≤ s = rw first_start at h in
      let w : Holds _ _ s (day_from t.first t.later s) = holds t.first t.later s rows_good k in
      (w.from, w.low, w.high)

  -- a day in which a second stands is the day that holds it
  pub holding_is : (s d : ℕ) → start t t.first.day ≤ s → start t d ≤ s → s < start t (d + 1) → day_holding t s ≡ d
  holding_is s d h l u = one_step (start t) start_up (day_holding t s) d s (held s h).1 (held s h).2 l u

  -- a second before the end of day e stands in e or a day before it
  pub holding_le : (s e : ℕ) → start t t.first.day ≤ s → s < start t (e + 1) → day_holding t s ≤ e
  holding_le s e h u = below (start t) start_up (day_holding t s) e s (held s h).1 u
