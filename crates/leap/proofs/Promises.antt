-- What spans two calls: each covered TAI second is exactly one UTC reading. For any good table, first of raised numbers and then of signed ones.
use Prim.Native.Nat.{ℕ, ◌+◌, ◌-◌, ◌*◌, ◌<◌, ◌≤◌}
use mathlib.Core.Path.{◌≡◌, refl, sym, ap, ◌∙◌}
use mathlib.Core.Bool.{Bool, true, false, ◌&&◌}
use mathlib.Core.Logic.{◌⊎◌, inl, inr}
use native.Mathlib.Omega.{arith}
use lib.Dec.{leb, ltb}
use lib.IntN.{ℤ, pos, ◌+ℤ◌, ◌*ℤ◌}
use borrow.Author.Tests.{leb-true, ltb-true, ltb-false, le-leb, lt-ltb}
use Rattle.base.specs.Outcome.{Outcome, done, and_then, given}
use Rattle.base.specs.Parts.{lowered_by}
use Rattle.base.proofs.Bools.{and_true, and_yes}
use Rattle.base.proofs.Ladders.{need_yes, need_done, then_done, given_done, done_is}
use Rattle.base.proofs.Signed.{same, sum, line, lower_is, lower_at}
use Rattle.base.proofs.Steps.{below}
use Rattle.leap.specs.declared.Reading.{Reading}
use Rattle.leap.specs.declared.Utc.{Utc}
use Rattle.leap.specs.Table.{Table, good, offset, start, day_length, day_holding, covers, covers_second, second_at, reading, reading_at}
use Rattle.leap.specs.Utc.{day_raise, offset_raise, second_raise, lifted_by, reading_of, second_of, utc, utc_of_second, second_of_utc}
use Rattle.leap.proofs.Days.{start_next, length_range, start_mono, start_up, held, holding_is, holding_le}
use Rattle.leap.proofs.Outcomes.{second_done, reading_done}
use Rattle.leap.proofs.Raised.{raise_at, raise_is, raise_lowered}

module _ (t : Table) (g : good t ≡ true) where
  -- what an answered second says
  pub record Second (d x s : ℕ) : Type 0 where
    pub low : x ≤ 86400
    pub covered : covers t d ≡ true
    pub within : x < day_length t d
    pub exact : s ≡ start t d + x

  swap : (d x : ℕ) → d * 86400 + x + offset t d ≡ start t d + x
  unfolding start
  swap d x = omega arith

  pub second_is : (d x s : ℕ) → second_at t d x ≡ done s → Second d x s
  unfolding second_at
  second_is d x s e =
      let (p, q) = need_done (leb x 86400) 4 _ s e in
      let (c, r) = need_done (covers t d) 5 _ s q in
      let (l, m) = need_done (ltb x (day_length t d)) 6 _ s r in
      record { low = leb-true x 86400 p; covered = c; within = ltb-true x (day_length t d) l; exact = sym (done_is _ s m) ∙ swap d x }

  -- the first covered second is not after a covered day's start, nor the last day's end before it
  cover : (d x s : ℕ) → Second d x s → (start t t.first.day ≤ s) × (s < start t (d + 1)) × (s < start t (t.last + 1))
  unfolding covers
  cover d x s w =
      let (p, q) = and_true (leb t.first.day d) (leb d t.last) w.covered in
      let a = start_mono t g t.first.day d (leb-true _ _ p) in
      let b = start_mono t g (d + 1) (t.last + 1) (omega (arith, leb-true d t.last q)) in
      (omega (arith, a, w.exact), omega (arith, w.exact, w.within, start_next t g d), omega (arith, b, w.exact, w.within, start_next t g d))

  -- a reading's second reads as that reading
  pub second_then_reading : (d x s : ℕ) → second_at t d x ≡ done s → reading_at t s ≡ done (reading t d x)
  unfolding covers_second
  second_then_reading d x s e =
      let w = second_is d x s e in
      let (a, b, c) = cover d x s w in
      let h : day_holding t s ≡ d = holding_is t g s d a (omega (arith, w.exact)) b in
      let m : s - start t d ≡ x = omega (arith, w.exact) in
      reading_done t s (and_yes _ (le-leb (start t t.first.day) s a) ∙ lt-ltb s (start t (t.last + 1)) c) ∙ rw (h, m)

  -- and a second's reading is of that second
  pub reading_then_second : (s : ℕ) (r : Reading) → reading_at t s ≡ done r → (second_at t r.day r.second ≡ done s) × (r.offset ≡ offset t r.day)
  unfolding reading_at covers_second covers
  reading_then_second s r e =
      let d = day_holding t s in
      let (c, m) = need_done (leb (start t t.first.day) s && ltb s (start t (t.last + 1))) 5 (done (reading t d (s - start t d))) r e in
      let (p, q) = and_true (leb (start t t.first.day) s) (ltb s (start t (t.last + 1))) c in
      let (h0, h1, h2) = held t g s (leb-true _ _ p) in
      let k : d ≤ t.last = holding_le t g s t.last (leb-true _ _ p) (ltb-true _ _ q) in
      let l : s - start t d < day_length t d = omega (arith, h1, h2, start_next t g d) in
      let sw : d * 86400 + (s - start t d) + offset t d ≡ s = swap d (s - start t d) ∙ omega (arith, h1) in
      rw (← done_is _ r m)
      ((second_done t d (s - start t d) (omega (arith, length_range t g d)) (and_yes _ (le-leb t.first.day d h0) ∙ le-leb d t.last k) l ∙ ap done sw), refl)

  -- so two readings of one second are one: 23:59:60 and the next 00:00:00 never share a second
  pub one_reading : (d x e y s : ℕ) → second_at t d x ≡ done s → second_at t e y ≡ done s → (d ≡ e) × (x ≡ y)
  one_reading d x e y s p q =
      let a = second_then_reading d x s p in
      let b = second_then_reading e y s q in
      let r = done_is _ _ (sym a ∙ b) in
      (ap (λ (z : Reading). z.day) r, ap (λ (z : Reading). z.second) r)

  -- a later second is a later day, or the same day's later second
  pub later_reading : (s s' : ℕ) (r r' : Reading) → reading_at t s ≡ done r → reading_at t s' ≡ done r' → s < s' → (r.day < r'.day) ⊎ ((r.day ≡ r'.day) × (r.second < r'.second))
  later_reading s s' r r' e e' h = go (ltb r.day r'.day) refl
    where
      w : Second r.day r.second s
      w = second_is r.day r.second s (reading_then_second s r e).0

      w' : Second r'.day r'.second s'
      w' = second_is r'.day r'.second s' (reading_then_second s' r' e').0

      le : r.day ≤ r'.day
      le = below (start t) (start_up t g) r.day r'.day s (omega (arith, w.exact)) (omega (arith, w'.exact, w'.within, start_next t g r'.day))

      go : (b : Bool) → ltb r.day r'.day ≡ b → (r.day < r'.day) ⊎ ((r.day ≡ r'.day) × (r.second < r'.second))
      go true p = inl (ltb-true _ _ p)
      go false p =
          let q : r.day ≡ r'.day = omega (arith, le, ltb-false r.day r'.day p) in
          inr (q, omega (arith, w.exact, w'.exact, ap (start t) q))

  -- ---- the same of signed seconds
  -- what the reading of a second says
  pub record Read (z : ℤ) (u : Reading) : Type 0 where
    pub low : u.second ≤ 86400
    pub covered : u.day ≤ t.last
    pub back : second_of t u.day u.second ≡ done z

  pub reading_back : (z : ℤ) (u : Reading) → reading_of t z ≡ done u → Read z u
  unfolding second_of reading_of covers
  reading_back z u e =
      let (s, (a, b)) = then_done (lifted_by second_raise z) (reading_at t) u e in
      let p = (reading_then_second s u b).0 in
      let w = second_is u.day u.second s p in
      record {
        low = w.low;
        covered = leb-true u.day t.last (and_true (leb t.first.day u.day) (leb u.day t.last) w.covered).1;
        back = ap (given (lowered_by second_raise)) p ∙ ap done (lower_at second_raise s z (raise_is second_raise s z a));
      }

  pub second_back : (d x : ℕ) (z : ℤ) → second_of t d x ≡ done z → reading_of t z ≡ done (reading t d x)
  unfolding second_of reading_of
  second_back d x z e =
      let (s, (p, i)) = given_done (lowered_by second_raise) (second_at t d x) z e in
      ap (λ (y : Outcome ℕ). and_then y (reading_at t)) (raise_lowered second_raise s z i) ∙ second_then_reading d x s p

  -- ---- and of signed days
  -- "TAI second = day × 86,400 + second of day + offset of that day"
  pub tai_second : (z : ℤ) (u : Utc) → utc_of_second t z ≡ done u → z ≡ u.day *ℤ pos 86400 +ℤ pos u.second +ℤ u.offset
  unfolding utc_of_second reading_of start
  tai_second z u e =
      let (r, (f, i)) = given_done utc (and_then (lifted_by second_raise z) (reading_at t)) u e in
      let (s, (a, b)) = then_done (lifted_by second_raise z) (reading_at t) r f in
      let (p, q) = reading_then_second s r b in
      let w = second_is r.day r.second s p in
      let d = lowered_by day_raise r.day in
      let o = lowered_by offset_raise r.offset in
      rw (← i)
      (same z (d *ℤ pos 86400 +ℤ pos r.second +ℤ o)
      (omega (arith, raise_is second_raise s z a, w.exact, q, lower_is day_raise r.day, lower_is offset_raise r.offset, line d 86400 r.second, sum (d *ℤ pos 86400 +ℤ pos r.second) o)))

  -- reading and its inverse are inverse both ways
  pub utc_then_second : (z : ℤ) (u : Utc) → utc_of_second t z ≡ done u → second_of_utc t u.day u.second ≡ done z
  unfolding utc_of_second second_of_utc
  utc_then_second z u e =
      let (r, (f, i)) = given_done utc (reading_of t z) u e in
      let w = reading_back z r f in
      rw (← i)
      (need_yes 4 _ (le-leb r.second 86400 w.low)
      ∙ ap (λ (x : Outcome ℕ). and_then x (λ n. second_of t n r.second)) (raise_at day_raise r.day (lowered_by day_raise r.day) (lower_is day_raise r.day))
      ∙ w.back)

  -- a day's second, by its index
  pub utc_index : (n x : ℕ) → x ≤ 86400 → second_of_utc t (lowered_by day_raise n) x ≡ second_of t n x
  unfolding second_of_utc
  utc_index n x h =
      need_yes 4 _ (le-leb x 86400 h)
      ∙ ap (λ (o : Outcome ℕ). and_then o (λ n. second_of t n x)) (raise_at day_raise n (lowered_by day_raise n) (lower_is day_raise n))

  pub utc_low : (z : ℤ) (u : Utc) → utc_of_second t z ≡ done u → u.second ≤ 86400
  unfolding utc_of_second
  utc_low z u e = let (r, (f, i)) = given_done utc (reading_of t z) u e in rw (← i) (reading_back z r f).low

  pub second_then_utc : (d : ℤ) (x : ℕ) (z : ℤ) → second_of_utc t d x ≡ done z → (u : Utc) × ((utc_of_second t z ≡ done u) × (u.day ≡ d) × (u.second ≡ x))
  unfolding utc_of_second second_of_utc
  second_then_utc d x z e =
      let (l, f) = need_done (leb x 86400) 4 _ z e in
      let (n, (a, b)) = then_done (lifted_by day_raise d) (λ n. second_of t n x) z f in
      (utc (reading t n x), (ap (given utc) (second_back n x z b), lower_at day_raise n d (raise_is day_raise n d a), refl))
