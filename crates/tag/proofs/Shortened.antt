-- A full code, shortened, is a tag that wants what the code has.
use mathlib.Core.Path.{◌≡◌, refl, sym, ap₂, ◌∙◌}
use mathlib.Core.Bool.{Bool, true}
use mathlib.Core.List.{List, [], ◌∷◌, ◌++◌}
use Prim.Native.Nat.{ℕ, ◌-◌, ◌*◌, ◌/◌, ◌%◌, ◌^◌, ◌≤◌, ◌<◌}
use native.Mathlib.Omega.{arith}
use lib.ListN.{length, length-append}
use lib.Seq.{take_at, drop-append-add}
use borrow.Author.Tests.{eq-eqb}
use Rattle.base.specs.Outcome.{done}
use Rattle.base.proofs.Ladders.{never}
use Rattle.calendar.specs.Gregorian.{kind, row, month_length, is_date}
use Rattle.ascii.specs.declared.Layout.{Layout}
use Rattle.clock.specs.Clock.{minute_of}
use Rattle.moment.specs.Decimal.{ticks_of}
use Rattle.ascii.specs.Ascii.{code_text}
use Rattle.seek.specs.declared.Wants.{Wants}
use Rattle.seek.specs.Naming.{day_fits, clock_fits}
use Rattle.shape.specs.Shapes.{shape_of}
use Rattle.tag.specs.Forms.{Form, days, months, hours, minutes, find}
use Rattle.tag.specs.Tags.{until, calendar_as, unzoned, time_in, Daytime, daytime, tag, midnight, any_day, alone, joined, formed, good_day, good_clock, want_of}
use Rattle.tag.specs.Shortening.{Shortening, calendar, time, both}
use Rattle.tag.proofs.Scans.{until_past}
use Rattle.tag.proofs.Ladder.{joined_done, alone_day, alone_time, formed_joined, formed_alone, tag_done}
use Rattle.tag.proofs.Subfields.{dated, calendar_of, clock_of_lem, zone_of_lem}
use Rattle.tag.proofs.Dates.{Dated, date_forth}
use Rattle.tag.proofs.Clocks.{Timing, Ticking, time_forth, low_hour}

-- ---- a text that is a tag
no_text : {X : Type 0} (f : Form) → find (days ++ months) [] ≡ done f → X
unfolding days months shape_of
no_text f e = never 4 f e

no_time : {X : Type 0} (k : Daytime) → time_in (hours ++ minutes) [] ≡ done k → X
unfolding hours minutes shape_of time_in unzoned
no_time k e = never 4 k e

tag_by : (s : List ℕ) (t : Wants) → 1 ≤ length s → formed s ≡ done t → good_day t.calendar ≡ true → good_clock t.clock ≡ true → want_of s ≡ done t
tag_by s t l e g h = sym (tag_done s l t e g h)

-- no T: a calendar alone, or a time alone
without : (s : List ℕ) → until 84 s ≡ length s → formed s ≡ alone s
without s e = sym (formed_alone s (until 84 s) refl (omega (arith, e)))

pub day_alone : (n : ℕ) (c : List ℕ) (f : Form) → Dated n c f → want_of c ≡ done (tag (calendar_as c f) midnight)
unfolding good_clock
day_alone n [] f d = no_text f d.found
day_alone n (b ∷ c) f d = tag_by (b ∷ c) _ (omega arith) (without (b ∷ c) d.plain ∙ sym (alone_day (b ∷ c) f d.found)) d.good refl

pub time_alone : (b : Bool) (x k : ℕ) (s : List ℕ) (t : Ticking b x k s) → want_of s ≡ done (tag any_day (daytime t.alone.clock k))
unfolding good_day is_date kind row month_length
time_alone b x k [] t = no_time _ t.alone.told
time_alone b x k (c ∷ s) t =
    tag_by (c ∷ s) _ (omega arith) (without (c ∷ s) t.plain ∙ sym (alone_time (c ∷ s) t.other _ t.alone.told)) refl t.alone.good

-- a calendar and a time, joined by T
formed_both : (c s : List ℕ) → until 84 c ≡ length c → formed (c ++ (84 ∷ s)) ≡ joined c s
formed_both c s e =
    let w = c ++ (84 ∷ s) in
    let u : length c ≡ until 84 w = sym (until_past 84 c (84 ∷ s) e ∙ omega arith) in
    sym (formed_joined w (length c) u (omega (arith, length-append c (84 ∷ s))))
    ∙ ap₂ joined (take_at c (84 ∷ s) (length c) refl) (drop-append-add c (84 ∷ s) 1)

pub day_and_time : (n x k : ℕ) (c s : List ℕ) (f : Form) (d : Dated n c f) (t : Timing hours x k s) → find days c ≡ done f → want_of (c ++ (84 ∷ s)) ≡ done (tag (calendar_as c f) (daytime t.clock k))
day_and_time n x k c s f d t e =
    tag_by (c ++ (84 ∷ s)) _ (omega (arith, length-append c (84 ∷ s)))
    (formed_both c s d.plain ∙ sym (joined_done c s f e (daytime t.clock k) t.told))
    d.good t.good

-- ---- what remains of a full code
pub record Meets (n x k : ℕ) (s : List ℕ) : Type 0 where
  pub wanted : Wants
  pub told : want_of s ≡ done wanted
  pub day : day_fits wanted.calendar n ≡ true
  pub second : clock_fits wanted.clock x ≡ true
  pub ticks : wanted.ticks ≡ k

any_fits : (n : ℕ) → day_fits any_day n ≡ true
unfolding day_fits
any_fits n = refl

at_midnight : (x : ℕ) → minute_of x / 60 ≡ 0 → minute_of x % 60 ≡ 0 → x - minute_of x * 60 ≡ 0 → clock_fits midnight.clock x ≡ true
unfolding clock_fits
at_midnight x a b c = rw (a, b, c)

module _ (l : Layout) (n x f : ℕ) (hn : n ≤ 3652058) (hx : x ≤ 86400) (hd : l.digits ≤ 12) (hf : f < 10 ^ l.digits) where
  pub meets : {s : List ℕ} → Shortening (code_text l n x f) s → Meets n x (ticks_of l.digits f) s
  meets (calendar lo hi r low) =
      let e = calendar_of l n x f hd in
      let (a, b, c, k) = low_hour x hx l.digits f hd hf l.zone (rw (clock_of_lem l n x f hd) at low) in
      rw e
      (let d = date_forth n hn l.ordinal lo hi (rw e at r) in
      record { wanted = tag (calendar_as _ d.form_is) midnight; told = day_alone n _ d.form_is d.told; day = d.told.fits; second = at_midnight x a b c; ticks = sym k })
  meets (time lo hi i r) =
      rw (clock_of_lem l n x f hd, zone_of_lem l n x f hd)
      (let t = time_forth x hx l.digits f hd hf l.zone lo hi i (rw (clock_of_lem l n x f hd) at r) in
      record { wanted = tag any_day (daytime t.alone.clock (ticks_of l.digits f)); told = time_alone _ _ _ _ t; day = any_fits n; second = t.alone.fits; ticks = refl })
  meets (both lo hi r q) =
      let e = calendar_of l n x f hd in
      let g = clock_of_lem l n x f hd in
      rw (e, g, zone_of_lem l n x f hd)
      (let d = date_forth n hn l.ordinal lo (length (dated l.ordinal n)) (rw e at r) in
      let t = time_forth x hx l.digits f hd hf l.zone 0 hi (omega arith) (rw g at q) in
      let b = t.behind refl in
      record {
        wanted = tag (calendar_as _ d.form_is) (daytime b.clock (ticks_of l.digits f));
        told = day_and_time n x _ _ _ d.form_is d.told b (d.reaches (eq-eqb (length (dated l.ordinal n)) _ refl));
        day = d.told.fits;
        second = b.fits;
        ticks = refl;
      })
