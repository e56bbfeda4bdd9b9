-- A moment and its time, there and back, by any table that reckons.
use mathlib.Core.Path.{◌≡◌, sym, ap, ◌∙◌}
use mathlib.Core.Bool.{true, ◌&&◌}
use Prim.Native.Nat.{ℕ, ◌+◌, ◌^◌, ◌<◌, ◌≤◌}
use native.Mathlib.Omega.{arith}
use lib.Dec.{leb, ltb}
use lib.IntN.{ℤ}
use borrow.Author.Tests.{leb-true, ltb-true}
use Rattle.base.specs.Outcome.{done, refused, given}
use Rattle.base.proofs.Bools.{and_true}
use Rattle.base.proofs.Ladders.{need_done, then_done, given_done}
use Rattle.base.proofs.Signed.{apart}
use Rattle.scale.specs.Time.{Time, per_second, is_record}
use Rattle.scale.proofs.Laws.{within_good, record_ticks}
use Rattle.calendar.specs.Gregorian.{index_of_day}
use Rattle.calendar.proofs.Numbers.{index_of_number}
use Rattle.leap.specs.Table.{Table, good, start, covers_second, reading_at}
use Rattle.leap.specs.Utc.{second_raise, lifted_by, reading_of, utc, utc_of_second, second_of_utc}
use Rattle.leap.specs.declared.Utc.{Utc}
use Rattle.leap.proofs.Promises.{reading_back, utc_then_second, second_then_utc}
use Rattle.leap.proofs.Raised.{raise_is}
use Rattle.moment.specs.Moment.{moment, is_moment}
use Rattle.moment.specs.declared.Moment.{Moment}
use Rattle.moment.proofs.Laws.{parts_moment}
use Rattle.utc.specs.Reckoning.{time_of, moment_of, reckons}

abbrev pub time : ℤ → ℕ → Time
time z k = record { sec = z; ticks = k }

module _ (t : Table) where
  pub time_told : (m : Moment) (x : Time) → time_of t m ≡ done x → (second_of_utc t m.day m.second ≡ done x.sec) × (x.ticks ≡ m.ticks)
  unfolding time_of
  time_told m x e =
      let (z, (a, b)) = given_done (λ z. time z m.ticks) (second_of_utc t m.day m.second) x e in
      (a ∙ ap (λ (y : Time). done y.sec) b, sym (ap (λ (y : Time). y.ticks) b))

  pub moment_told : (r : Time) (m : Moment) → moment_of t r ≡ done m → (u : Utc) × ((utc_of_second t r.sec ≡ done u) × (moment u.day u.second r.ticks ≡ m))
  unfolding moment_of
  moment_told r m e = given_done (λ u. moment u.day u.second r.ticks) (utc_of_second t r.sec) m e

  -- its rungs: the table's refusal stands
  pub time_done : (m : Moment) (z : ℤ) → second_of_utc t m.day m.second ≡ done z → time_of t m ≡ done (time z m.ticks)
  unfolding time_of
  time_done m z e = ap (given (λ z. time z m.ticks)) e

  pub moment_refused : (r : Time) (n : ℕ) → utc_of_second t r.sec ≡ refused n → moment_of t r ≡ refused n
  unfolding moment_of
  moment_refused r n e = ap (given (λ u. moment u.day u.second r.ticks)) e

  pub moment_done : (r : Time) (u : Utc) → utc_of_second t r.sec ≡ done u → moment_of t r ≡ done (moment u.day u.second r.ticks)
  unfolding moment_of
  moment_done r u e = ap (given (λ u. moment u.day u.second r.ticks)) e

  pub moment_ticks : (r : Time) (m : Moment) → moment_of t r ≡ done m → m.ticks ≡ r.ticks
  moment_ticks r m e = sym (ap (λ (y : Moment). y.ticks) (moment_told r m e).1.1)

module _ (t : Table) (g : reckons t ≡ true) where
  pub table_good : good t ≡ true
  unfolding reckons
  table_good = (and_true (good t) _ g).0

  pub last_index_lem : t.last ≤ 3652058
  unfolding reckons
  last_index_lem = leb-true _ _ (and_true (leb t.last 3652058) _ (and_true (good t) _ g).1).0

  pub top_second : start t (t.last + 1) ≤ 2 ^ 41
  unfolding reckons
  top_second = leb-true _ _ (and_true (leb t.last 3652058) _ (and_true (good t) _ g).1).1

  -- the time of a moment has that moment, and the other way round
  pub time_back : (m : Moment) (x : Time) → time_of t m ≡ done x → moment_of t x ≡ done m
  time_back m x e =
      let (a, b) = time_told t m x e in
      let (u, (h, i, j)) = second_then_utc t table_good m.day m.second x.sec a in
      moment_done t x u h ∙ rw (i, j, b)

  pub moment_back : (r : Time) (m : Moment) → moment_of t r ≡ done m → time_of t m ≡ done r
  moment_back r m e =
      let (u, (h, i)) = moment_told t r m e in
      rw (← i) (time_done t (moment u.day u.second r.ticks) r.sec (utc_then_second t table_good r.sec u h))

  -- a covered second is a record's
  second_bounds : (z : ℤ) (u : Utc) → utc_of_second t z ≡ done u → (k : ℕ) → k < per_second → is_record (time z k) ≡ true
  unfolding utc_of_second reading_of reading_at covers_second
  second_bounds z u e k l =
      let (r, (f, i)) = given_done utc _ u e in
      let (s, (a, b)) = then_done (lifted_by second_raise z) _ r f in
      let (c, m) = need_done (leb (start t t.first.day) s && ltb s (start t (t.last + 1))) 5 _ r b in
      let h = ltb-true s (start t (t.last + 1)) (and_true (leb (start t t.first.day) s) _ c).1 in
      let w = raise_is second_raise s z a in
      within_good (2 ^ 41) (time z k) (record { low = omega (arith, w, apart z); high = omega (arith, w, h, top_second, apart z); below = l })

  -- so the time of a moment is a record, and the moment of a record is one, on a day of the calendar
  pub time_valid : (m : Moment) (x : Time) → time_of t m ≡ done x → m.ticks < per_second → is_record x ≡ true
  time_valid m x e h =
      let (u, (a, b)) = moment_told t x m (time_back m x e) in
      second_bounds x.sec u a x.ticks (rw (time_told t m x e).1 h)

  pub moment_low : (r : Time) (m : Moment) → moment_of t r ≡ done m → m.second ≤ 86400
  unfolding utc_of_second
  moment_low r m e =
      let (u, (a, b)) = moment_told t r m e in
      let (v, (f, i)) = given_done utc (reading_of t r.sec) u a in
      rw (← b, ← i) (reading_back t table_good r.sec v f).low

  pub moment_valid : (r : Time) (m : Moment) → is_record r ≡ true → moment_of t r ≡ done m → is_moment m ≡ true
  moment_valid r m v e = parts_moment m (moment_low r m e) (rw (moment_ticks t r m e) (record_ticks r v))

  pub moment_index : (r : Time) (m : Moment) → moment_of t r ≡ done m → (n : ℕ) × (index_of_day m.day ≡ done n)
  unfolding utc_of_second
  moment_index r m e =
      let (u, (a, b)) = moment_told t r m e in
      let (v, (f, i)) = given_done utc (reading_of t r.sec) u a in
      let h : v.day ≤ 3652058 = omega (arith, (reading_back t table_good r.sec v f).covered, last_index_lem) in
      (v.day, ap (λ (y : Moment). index_of_day y.day) (sym b) ∙ ap (λ (y : Utc). index_of_day y.day) (sym i) ∙ index_of_number v.day h)
