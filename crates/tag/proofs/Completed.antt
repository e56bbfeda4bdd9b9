-- A tag, completed: a day and a second that have what it wants give a full code of which it is a shortening.
use mathlib.Core.Path.{◌≡◌, refl, sym, ap, ap₂, subst, ◌∙◌}
use mathlib.Core.Bool.{Bool, true, false, cond}
use mathlib.Core.List.{List, [], ◌∷◌, ◌++◌}
use Prim.Native.Nat.{ℕ, ◌+◌, ◌-◌, ◌*◌, ◌/◌, ◌%◌, ◌^◌, ◌≤◌, ◌<◌}
use native.Mathlib.Omega.{arith}
use lib.Dec.{leb, ltb}
use lib.ListN.{length, take, drop}
use borrow.Author.Tests.{eqb-true, ltb-true}
use Rattle.base.specs.Outcome.{Outcome, done, refused, need, given}
use Rattle.base.proofs.Ladders.{done_is, need_done, then_done, given_done}
use Rattle.base.proofs.Bools.{and_true}
use Rattle.octets.specs.Places.{digits}
use Rattle.ascii.specs.declared.Layout.{Layout}
use Rattle.clock.specs.Clock.{minute_of}
use Rattle.moment.specs.Decimal.{ticks_of}
use Rattle.ascii.specs.Ascii.{zone_text, code_text}
use Rattle.ascii.proofs.Shapes.{lay}
use Rattle.seek.specs.declared.Wants.{Wants}
use Rattle.seek.specs.Naming.{day_fits, clock_fits}
use Rattle.tag.specs.Forms.{Form, days, months, hours, minutes, find}
use Rattle.tag.specs.Tags.{until, calendar_as, time_in, Daytime, tag, midnight, any_day, alone_by, alone, joined, formed, good_tag, want_of}
use Rattle.tag.specs.Shortening.{cut, low_from, Run, Shortening, calendar, time, both}
use Rattle.tag.proofs.Scans.{until_cut}
use Rattle.tag.proofs.Subfields.{dated, clocked, calendar_of, clock_of_lem, zone_of_lem}
use Rattle.tag.proofs.Dates.{DayBack, whole_back, day_back}
use Rattle.tag.proofs.Clocks.{TimeBack, behind_back, alone_back}

-- the full code of a day, a second of it and a tick count that a text is a shortening of
pub record Completed (n x k : ℕ) (s : List ℕ) : Type 0 where
  pub layout : Layout
  pub number : ℕ
  pub few : layout.digits ≤ 12
  pub small : number < 10 ^ layout.digits
  pub exact : ticks_of layout.digits number ≡ k
  pub short : Shortening (code_text layout n x number) s

-- ---- what a tag was formed of
pub data Parts (s : List ℕ) (t : Wants) : Type 0 where
  day : (f : Form) → find (days ++ months) s ≡ done f → tag (calendar_as s f) midnight ≡ t → Parts s t
  clock : (k : Daytime) → time_in (hours ++ minutes) s ≡ done k → tag any_day k ≡ t → Parts s t
  joint : (c r : List ℕ) (f : Form) (k : Daytime) → s ≡ c ++ (84 ∷ r) → find days c ≡ done f → time_in hours r ≡ done k → tag (calendar_as c f) k ≡ t → Parts s t

parts_alone : (s : List ℕ) (t : Wants) → alone s ≡ done t → Parts s t
unfolding alone
parts_alone s t e = go (find (days ++ months) s) refl e
  where
    go : (o : Outcome Form) → find (days ++ months) s ≡ o → alone_by s o ≡ done t → Parts s t
    go (done f) p e = day f p (done_is _ t e)
    go (refused n) p e = let (k, (a, b)) = given_done (tag any_day) (time_in (hours ++ minutes) s) t e in clock k a b

parts_joined : (s c r : List ℕ) (t : Wants) → s ≡ c ++ (84 ∷ r) → joined c r ≡ done t → Parts s t
unfolding joined
parts_joined s c r t i e =
    let (f, (a, b)) = then_done (find days c) (λ f. given (tag (calendar_as c f)) (time_in hours r)) t e in
    let (k, (p, q)) = given_done (tag (calendar_as c f)) (time_in hours r) t b in
    joint c r f k i a p q

pub parts_formed : (s : List ℕ) (t : Wants) → formed s ≡ done t → Parts s t
unfolding formed
parts_formed s t e = go (ltb (until 84 s) (length s)) refl e
  where
    go : (b : Bool) → ltb (until 84 s) (length s) ≡ b → cond b (joined (take (until 84 s) s) (drop (until 84 s + 1) s)) (alone s) ≡ done t → Parts s t
    go true p e = parts_joined s _ _ t (until_cut 84 s (ltb-true (until 84 s) (length s) p)) e
    go false p e = parts_alone s t e

pub parts : (s : List ℕ) (t : Wants) → want_of s ≡ done t → Parts s t × (good_tag t ≡ true)
unfolding want_of
parts s t e =
    let (a, b) = need_done (leb 1 (length s)) 1 _ t e in
    let (u, (c, d)) = then_done (formed s) (λ t. need (good_tag t) 4 (done t)) t b in
    let (g, h) = need_done (good_tag u) 4 (done u) t d in
    let i : u ≡ t = done_is u t h in
    (parts_formed s t (c ∙ ap done i), rw i at g)

-- ---- the code
at_midnight : (x : ℕ) → clock_fits midnight.clock x ≡ true → low_from 0 (clocked x []) ≡ true
unfolding clock_fits
at_midnight x e =
    let (a, q) = and_true _ _ e in
    let (b, c) = and_true _ _ q in
    rw (← eqb-true 0 (minute_of x / 60) a, ← eqb-true 0 (minute_of x % 60) b, ← eqb-true 0 (x - minute_of x * 60) c)

module _ (n x : ℕ) (s : List ℕ) where
  day_code : {w : Bool} → DayBack n s w → low_from 0 (clocked x []) ≡ true → Completed n x 0 s
  day_code b z =
      let l = lay b.ordinal 0 false in
      let e = calendar_of l n x 0 (omega arith) in
      record {
        layout = l;
        number = 0;
        few = omega arith;
        small = omega arith;
        exact = refl;
        short =
            subst (Shortening (code_text l n x 0)) (ap (cut b.lo b.hi) e ∙ sym b.is)
            (calendar b.lo b.hi (rw e b.run) (rw (clock_of_lem l n x 0 (omega arith)) z));
      }

  time_code : {w : Bool} (k : ℕ) → TimeBack w x k s → Completed n x k s
  time_code k b =
      let l = lay false b.digit_count b.zone in
      let f = b.number in
      let e = clock_of_lem l n x f b.few in
      record {
        layout = l;
        number = f;
        few = b.few;
        small = b.small;
        exact = b.exact;
        short =
            subst (Shortening (code_text l n x f)) (ap₂ (λ c z. cut b.lo b.hi c ++ z) e (zone_of_lem l n x f b.few) ∙ sym b.is)
            (time b.lo b.hi b.early (rw e b.run));
      }

both_code : (n x k : ℕ) (s c r : List ℕ) → s ≡ c ++ (84 ∷ r) → DayBack n c true → TimeBack true x k r → Completed n x k s
both_code n x k s c r i d b =
    let l = lay d.ordinal b.digit_count b.zone in
    let f = b.number in
    let h = d.reaches refl in
    let o = b.first refl in
    let e = calendar_of l n x f b.few in
    let g = clock_of_lem l n x f b.few in
    let run : Run d.lo (length (dated d.ordinal n)) (dated d.ordinal n) = subst (λ (j : ℕ). Run d.lo j (dated d.ordinal n)) h d.run in
    let from : Run 0 b.hi (clocked x (digits b.digit_count f)) = subst (λ (j : ℕ). Run j b.hi (clocked x (digits b.digit_count f))) o b.run in
    record {
      layout = l;
      number = f;
      few = b.few;
      small = b.small;
      exact = b.exact;
      short =
          subst (Shortening (code_text l n x f))
          (ap₂ (λ (u v : List ℕ). u ++ (84 ∷ v))
          (ap (λ q. cut d.lo (length q) q) e ∙ ap (λ (j : ℕ). cut d.lo j (dated d.ordinal n)) (sym h) ∙ sym d.is)
          (ap₂ (λ q z. cut 0 b.hi q ++ z) g (zone_of_lem l n x f b.few) ∙ ap (λ (j : ℕ). cut j b.hi (clocked x (digits b.digit_count f)) ++ zone_text b.zone) (sym o) ∙ sym b.is)
          ∙ sym i)
          (both d.lo b.hi (rw e run) (rw g from));
    }

-- each day and second that have what a tag wants
pub completed : (s : List ℕ) (t : Wants) (n x : ℕ) → n ≤ 3652058 → x ≤ 86400 → Parts s t → day_fits t.calendar n ≡ true → clock_fits t.clock x ≡ true → Completed n x t.ticks s
completed s t n x h l (day f e i) p q =
    rw (← i) (day_code n x s (day_back n h s f e (rw (← i) at p)).1 (at_midnight x (rw (← i) at q)))
completed s t n x h l (clock k e i) p q = rw (← i) (time_code n x s k.ticks (alone_back x l s k e (rw (← i) at q)).1)
completed s t n x h l (joint c r f k j e g i) p q =
    rw (← i) (both_code n x k.ticks s c r j (whole_back n h c f e (rw (← i) at p)) (behind_back x l r k g (rw (← i) at q)))
