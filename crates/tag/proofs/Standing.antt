-- The fields that stand in a tag: those that were dropped keep their rules, so that the first bad one of all is one that stands.
use mathlib.Core.Path.{◌≡◌, refl, sym, ap, ◌∙◌}
use mathlib.Core.Bool.{Bool, true, false, cond}
use mathlib.Core.List.{List, [], ◌∷◌, ◌++◌}
use Prim.Native.Nat.{ℕ, ◌+◌, ◌-◌, ◌<◌, ◌≤◌}
use native.Mathlib.Nat.{zero-add}
use native.Mathlib.Omega.{arith}
use lib.Dec.{leb, ltb}
use lib.ListN.{length, take, drop, length-take}
use lib.Seq.{length-take-le}
use borrow.Author.Tests.{leb-true, le-leb, lt-ltb, le-ltb}
use Rattle.std.specs.Option.{unwrap_or}
use Rattle.base.specs.Outcome.{Outcome, done, refused}
use Rattle.base.proofs.Bools.{and_true, cond_yes, cond_no}
use Rattle.calendar.specs.Gregorian.{kind, month_length, is_year}
use Rattle.calendar.proofs.Years.{kind_lt}
use Rattle.calendar.proofs.Rows.{length_in}
use Rattle.calendar.proofs.Dates.{month_is}
use Rattle.field.specs.Fields.{Field, field, first_bad, shifted, or_then}
use Rattle.field.specs.Rules.{is_month, is_day, is_day_of_year, is_hour, is_minute, is_second, date_fields, ordinal_fields, clock_fields}
use Rattle.field.specs.declared.Starts.{Starts}
use Rattle.field.proofs.Laws.{first_append}
use Rattle.seek.specs.declared.Calendar.{Calendar}
use Rattle.seek.specs.declared.Clock.{Clock}
use Rattle.tag.proofs.Scans.{rest_is}
use Rattle.tag.specs.Forms.{Place, free, lowest, at, Form, Forms, days, months, hours, minutes, find}
use Rattle.tag.specs.Tags.{want_at, calendar_as, clock_as, until}
use Rattle.tag.specs.Inner.{are_times, Digits, HasClock, Begins, Begin}
use Rattle.tag.proofs.Rows.{has_clock}
use Rattle.tag.specs.Fields as F
use Rattle.tag.specs.Fields.{there, form_fields}
use Rattle.std.specs.Prelude.{Option, Some, None}

-- ---- fields that were dropped
abbrev pub Dropped : Place → Type 0
Dropped free = Unit {0}
Dropped lowest = Unit {0}
Dropped (at i) = ⊥

-- a field that is good if it was dropped: whether it is listed does not count
pub one_there : (from n : ℕ) (p : Place) (x : Bool) (fs gs : List Field) → Begins n p → (Dropped p → x ≡ true) → (x ≡ true → first_bad fs ≡ first_bad gs) → first_bad (field (from + n) x ∷ fs) ≡ first_bad (there from p x gs)
one_there from n p x fs gs b = go p b
  where
    good : x ≡ true → (x ≡ true → first_bad fs ≡ first_bad gs) → first_bad (field (from + n) x ∷ fs) ≡ first_bad gs
    good h more = rw h (more h)

    stands : (y : Bool) → (y ≡ true → first_bad fs ≡ first_bad gs) → first_bad (field (from + n) y ∷ fs) ≡ first_bad (field (from + n) y ∷ gs)
    stands true more = more refl
    stands false more = refl

    go : (q : Place) → Begins n q → (Dropped q → x ≡ true) → (x ≡ true → first_bad fs ≡ first_bad gs) → first_bad (field (from + n) x ∷ fs) ≡ first_bad (there from q x gs)
    go free b h more = good (h tt) more
    go lowest b h more = good (h tt) more
    go (at i) b h more = rw (← b) (stands x more)

module _ (from : ℕ) where
  last_there : (n : ℕ) (p : Place) (x : Bool) → Begins n p → (Dropped p → x ≡ true) → first_bad (field (from + n) x ∷ []) ≡ first_bad (there from p x [])
  last_there n p x e h = one_there from n p x [] [] e h (λ _. refl)

  two_there : (a b : ℕ) (p q : Place) (x y : Bool) → Begins a p → Begins b q → (Dropped p → x ≡ true) → (Dropped q → x ≡ true → y ≡ true) → first_bad (field (from + a) x ∷ field (from + b) y ∷ []) ≡ first_bad (there from p x (there from q y []))
  two_there a b p q x y d e h k = one_there from a p x (field (from + b) y ∷ []) (there from q y []) d h (λ f. last_there b q y e (λ z. k z f))

  three_there : (a b c : ℕ) (p q r : Place) (x y z : Bool) → Begins a p → Begins b q → Begins c r → (Dropped p → x ≡ true) → (Dropped q → y ≡ true) → (Dropped r → y ≡ true → z ≡ true)
      → first_bad (field (from + a) x ∷ field (from + b) y ∷ field (from + c) z ∷ []) ≡ first_bad (there from p x (there from q y (there from r z [])))
  three_there a b c p q r x y z d e f h k l =
      one_there from a p x (field (from + b) y ∷ field (from + c) z ∷ []) (there from q y (there from r z [])) d h (λ _. two_there b c q r y z e f k l)

-- counted from further on the left, and within the text
shift_there : (from : ℕ) (p : Place) (b : Bool) (fs gs : List Field) → first_bad fs ≡ shifted from (first_bad gs) → first_bad (there from p b fs) ≡ shifted from (first_bad (there 0 p b gs))
shift_there from free b fs gs h = h
shift_there from lowest b fs gs h = h
shift_there from (at i) true fs gs h = h
shift_there from (at i) false fs gs h = ap (λ (n : ℕ). Some (from + n)) (sym (zero-add i))

there_low : (s : List ℕ) (w : ℕ) (p : Place) (b : Bool) (fs : List Field) (n : ℕ) → Digits s w p → (first_bad fs ≡ Some n → n ≤ length s) → first_bad (there 0 p b fs) ≡ Some n → n ≤ length s
there_low s w free b fs n d h e = h e
there_low s w lowest b fs n d h e = h e
there_low s w (at i) true fs n d h e = h e
there_low s w (at i) false fs n (d, _) h e = let z : 0 + i ≡ n = cc in omega (arith, z, d)

-- what a dropped field holds
dropped : (P : ℕ → Type 0) (s : List ℕ) (w low free : ℕ) (p : Place) → P low → P free → Dropped p → P (unwrap_or (want_at s w low p) free)
dropped P s w low d free a b h = b
dropped P s w low d lowest a b h = a
dropped P s w low d (at i) a b h = absurd h

-- every month has a first day
first_day_lem : (y m : ℕ) → is_month m ≡ true → is_day y m 1 ≡ true
first_day_lem y m e =
    let (a, b) = and_true (leb 1 m) (leb m 12) e in
    let l : 1 ≤ m = leb-true 1 m a in
    let h : m ≤ 12 = leb-true m 12 b in
    le-leb 1 (month_length y m) (omega (arith, month_is y m l h, (length_in (kind y) (kind_lt y) (m - 1) (omega arith)).0))

-- ---- a calendar
module _ (s : List ℕ) (f : Form) where
  abbrev Y : ℕ
  Y = unwrap_or (want_at s 4 1 f.first) 2000

  abbrev M : ℕ
  M = unwrap_or (want_at s 2 1 f.second) 1

  abbrev D : ℕ
  D = unwrap_or (want_at s 2 1 f.third) 1

  pub year_kept : Dropped f.first → is_year Y ≡ true
  year_kept = dropped (λ y. is_year y ≡ true) s 4 1 2000 f.first refl refl

  pub month_kept : Dropped f.second → is_month M ≡ true
  month_kept = dropped (λ m. is_month m ≡ true) s 2 1 1 f.second refl refl

  pub day_kept : Dropped f.third → is_month M ≡ true → is_day Y M D ≡ true
  day_kept h m = dropped (λ d. is_day Y M d ≡ true) s 2 1 1 f.third (first_day_lem Y M m) (first_day_lem Y M m) h

  pub ordinal_kept : (o : ℕ) → want_at s 3 1 f.fourth ≡ Some o → Dropped f.fourth → is_day_of_year Y o ≡ true
  ordinal_kept o e = last f.fourth e
    where
      last : (x : Place) → want_at s 3 1 x ≡ Some o → Dropped x → is_day_of_year Y o ≡ true
      last free k h = absurd (let z : ◌≡◌ {A = ℕ} 0 1 = cc in let y : ⊥ = omega arith in y)
      last lowest k h = let z : 1 ≡ o = cc in rw (← z) (le-leb 1 (365 + kind Y) (omega arith))
      last (at i) k h = absurd h

  pub date_stands : (a b c : ℕ) → Begins a f.first → Begins b f.second → Begins c f.third → (calendar_as s f).ordinal ≡ None → first_bad (date_fields (0 + a) (0 + b) (0 + c) Y M D) ≡ first_bad (F.calendar_fields s f)
  unfolding F.calendar_fields calendar_as
  date_stands a b c p q r e =
      rw e
      (three_there 0 a b c f.first f.second f.third (is_year Y) (is_month M) (is_day Y M D) p q r year_kept month_kept day_kept)

  pub ordinal_stands : (a b o : ℕ) → Begins a f.first → Begins b f.fourth → (calendar_as s f).ordinal ≡ Some o → first_bad (ordinal_fields (0 + a) (0 + b) Y o) ≡ first_bad (F.calendar_fields s f)
  unfolding F.calendar_fields calendar_as
  ordinal_stands a b o p q e =
      rw e (two_there 0 a b f.first f.fourth (is_year Y) (is_day_of_year Y o) p q year_kept (λ h _. ordinal_kept o e h))

  -- as it was told
  module _ (c : Calendar) (e : c ≡ calendar_as s f) (y : ℕ) (i : y ≡ unwrap_or c.year 2000) where
    pub date_told : (r : Starts) (m d : ℕ) → Begin f r → m ≡ unwrap_or c.month 1 → d ≡ unwrap_or c.day 1 → c.ordinal ≡ None → first_bad (date_fields r.first r.second r.third y m d) ≡ first_bad (F.calendar_fields s f)
    unfolding calendar_as
    date_told r m d (p, q, t) j k o =
        rw (i, j, k, e) (rw (zero-add r.first, zero-add r.second, zero-add r.third) at (date_stands r.first r.second r.third p q t (ap (λ (x : Calendar). x.ordinal) (sym e) ∙ o)))

    pub ordinal_told : (a b o : ℕ) → Begins a f.first → Begins b f.fourth → c.ordinal ≡ Some o → first_bad (ordinal_fields a b y o) ≡ first_bad (F.calendar_fields s f)
    unfolding calendar_as
    ordinal_told a b o p q h = rw (i, e) (rw (zero-add a, zero-add b) at (ordinal_stands a b o p q (ap (λ (x : Calendar). x.ordinal) (sym e) ∙ h)))

-- ---- a clock
module _ (s : List ℕ) (f : Form) where
  abbrev H : ℕ
  H = unwrap_or (want_at s 2 0 f.first) 23

  abbrev N : ℕ
  N = unwrap_or (want_at s 2 0 f.second) 59

  abbrev X : ℕ
  X = unwrap_or (want_at s 2 0 f.third) 0

  pub hour_kept : Dropped f.first → is_hour H ≡ true
  hour_kept = dropped (λ h. is_hour h ≡ true) s 2 0 23 f.first refl refl

  pub minute_kept : Dropped f.second → is_minute N ≡ true
  minute_kept = dropped (λ m. is_minute m ≡ true) s 2 0 59 f.second refl refl

  pub second_kept : Dropped f.third → is_second H N X ≡ true
  second_kept = dropped (λ x. is_second H N x ≡ true) s 2 0 0 f.third refl refl

  pub clock_stands : (from a b c : ℕ) → Begins a f.first → Begins b f.second → Begins c f.third → first_bad (clock_fields (from + a) (from + b) (from + c) H N X) ≡ first_bad (F.clock_fields from s f)
  unfolding F.clock_fields clock_as
  clock_stands from a b c p q r =
      three_there from a b c f.first f.second f.third (is_hour H) (is_minute N) (is_second H N X) p q r hour_kept minute_kept (λ h _. second_kept h)

  pub clock_told_lem : (k : Clock) (h m x : ℕ) (r : Starts) → k ≡ clock_as s f → Begin f r → h ≡ unwrap_or k.hour 23 → m ≡ unwrap_or k.minute 59 → x ≡ unwrap_or k.second 0 → first_bad (clock_fields r.first r.second r.third h m x) ≡ first_bad (F.clock_fields 0 s f)
  unfolding clock_as
  clock_told_lem k h m x r e (p, q, t) i j l =
      rw (i, j, l, e) (rw (zero-add r.first, zero-add r.second, zero-add r.third) at (clock_stands 0 r.first r.second r.third p q t))

  -- counted from further on the left
  pub clock_shifted : (from : ℕ) → first_bad (F.clock_fields from s f) ≡ shifted from (first_bad (F.clock_fields 0 s f))
  unfolding F.clock_fields clock_as
  clock_shifted from =
      shift_there from f.first (is_hour H) _ _ (shift_there from f.second (is_minute N) _ _ (shift_there from f.third (is_second H N X) [] [] refl))

  -- within the text
  pub clock_low : HasClock s f → (n : ℕ) → first_bad (F.clock_fields 0 s f) ≡ Some n → n ≤ length s
  unfolding F.clock_fields clock_as
  clock_low (a, b, c) n e =
      there_low s 2 f.first (is_hour H) _ n a (there_low s 2 f.second (is_minute N) _ n b (there_low s 2 f.third (is_second H N X) [] n c (λ g. absurd (let z : ◌≡◌ {A = ℕ} 0 1 = cc in let y : ⊥ = omega arith in y)))) e

-- ---- the form that a text has, and which of a calendar and a time
module _ (fs : Forms) (from : ℕ) (s : List ℕ) (p : ℕ) (e : p ≡ until 46 s) where
  abbrev headed : ℕ → List Field
  headed q = let h = take q s in form_fields (F.clock_fields from h) (find fs h)

  head_is : F.head_fields fs from s ≡ headed p
  unfolding F.head_fields
  head_is = ap headed (sym e)

  pub head_none : find fs (take p s) ≡ refused 4 → None ≡ first_bad (F.head_fields fs from s)
  head_none h = ap first_bad (sym (head_is ∙ ap (form_fields (F.clock_fields from (take p s))) h))

  pub head_form : (f : Form) → find fs (take p s) ≡ done f → F.clock_fields from (take p s) f ≡ F.head_fields fs from s
  head_form f h = sym (head_is ∙ ap (form_fields (F.clock_fields from (take p s))) h)

pub time_head : (fs : Forms) (from : ℕ) (s : List ℕ) (e : ℕ) → e ≡ until 90 s → F.head_fields fs from (take e s) ≡ F.time_fields fs from s
unfolding F.time_fields
time_head fs from s e h = ap (λ (q : ℕ). F.head_fields fs from (take q s)) h

pub time_shifted : (fs : Forms) (from : ℕ) (s : List ℕ) → first_bad (F.time_fields fs from s) ≡ shifted from (first_bad (F.time_fields fs 0 s))
unfolding F.time_fields F.head_fields
time_shifted fs from s = let h = take (until 46 (take (until 90 s) s)) (take (until 90 s) s) in go h (find fs h)
  where
    go : (h : List ℕ) (x : Outcome Form) → first_bad (form_fields (F.clock_fields from h) x) ≡ shifted from (first_bad (form_fields (F.clock_fields 0 h) x))
    go h (done f) = clock_shifted h f from
    go h (refused n) = refl

pub time_low : (fs : Forms) (s : List ℕ) (n : ℕ) → are_times fs ≡ true → first_bad (F.time_fields fs 0 s) ≡ Some n → n ≤ length s
unfolding F.time_fields F.head_fields
time_low fs s n t e =
    let z = take (until 90 s) s in
    let h = take (until 46 z) z in
    let l : n ≤ length h = go h (find fs h) refl e in
    omega (arith, l, length-take (until 46 z) z, length-take (until 90 s) s)
  where
    go : (h : List ℕ) (x : Outcome Form) → find fs h ≡ x → first_bad (form_fields (F.clock_fields 0 h) x) ≡ Some n → n ≤ length h
    go h (done f) q g = clock_low h f (has_clock fs h f t q) n g
    go h (refused m) q g = absurd (let z : ◌≡◌ {A = ℕ} 0 1 = cc in let y : ⊥ = omega arith in y)

module _ (s : List ℕ) where
  pub alone_calendar : (f : Form) → find (days ++ months) s ≡ done f → F.calendar_fields s f ≡ F.alone_fields s
  unfolding F.alone_fields
  alone_calendar f h = sym (ap (F.alone_by s) h)

  pub alone_time : find (days ++ months) s ≡ refused 4 → F.time_fields (hours ++ minutes) 0 s ≡ F.alone_fields s
  unfolding F.alone_fields
  alone_time h = sym (ap (F.alone_by s) h)

-- the calendar's place before the time's
pub or_told : (r p q : Option ℕ) → (p ≡ None → r ≡ q) → ((n : ℕ) → p ≡ Some n → r ≡ Some n) → r ≡ or_then p q
or_told r (Some n) q h k = k n refl
or_told r None q h k = h refl

module _ (from : ℕ) (c k : List ℕ) where
  abbrev jointly : Outcome Form → List Field
  jointly x = form_fields (λ f. F.calendar_fields c f ++ F.time_fields hours from k) x

  pub joint_none : find days c ≡ refused 4 → None ≡ first_bad (F.joint_fields from c k)
  unfolding F.joint_fields
  joint_none h = ap first_bad (sym (ap jointly h))

  pub joint_form : (f : Form) → find days c ≡ done f → or_then (first_bad (F.calendar_fields c f)) (first_bad (F.time_fields hours from k)) ≡ first_bad (F.joint_fields from c k)
  unfolding F.joint_fields
  joint_form f h = sym (ap (λ (x : Outcome Form). first_bad (jointly x)) h ∙ first_append (F.calendar_fields c f) (F.time_fields hours from k))

  -- as they are told
  module _ (f : Form) (h : find days c ≡ done f) where
    pub joint_day : (n : ℕ) → Some n ≡ first_bad (F.calendar_fields c f) → Some n ≡ first_bad (F.joint_fields from c k)
    joint_day n p = ap (λ (x : Option ℕ). or_then x (first_bad (F.time_fields hours from k))) p ∙ joint_form f h

    module _ (p : None ≡ first_bad (F.calendar_fields c f)) where
      joint_then : shifted from (first_bad (F.time_fields hours 0 k)) ≡ first_bad (F.joint_fields from c k)
      joint_then = sym (time_shifted hours from k) ∙ ap (λ (x : Option ℕ). or_then x (first_bad (F.time_fields hours from k))) p ∙ joint_form f h

      pub joint_good : None ≡ first_bad (F.time_fields hours 0 k) → None ≡ first_bad (F.joint_fields from c k)
      joint_good q = ap (shifted from) q ∙ joint_then

      pub joint_time : (n : ℕ) → Some n ≡ first_bad (F.time_fields hours 0 k) → Some (from + n) ≡ first_bad (F.joint_fields from c k)
      joint_time n q = ap (shifted from) q ∙ joint_then

module _ (s : List ℕ) (t : ℕ) (e : t ≡ until 84 s) where
  abbrev parted : ℕ → List Field
  parted q = cond (ltb q (length s)) (F.joint_fields (q + 1) (take q s) (drop (q + 1) s)) (F.alone_fields s)

  fields_at : F.fields_of s ≡ parted t
  unfolding F.fields_of
  fields_at = ap parted (sym e)

  pub fields_joint : t < length s → F.joint_fields (t + 1) (take t s) (drop (t + 1) s) ≡ F.fields_of s
  fields_joint h = sym (fields_at ∙ cond_yes _ _ (lt-ltb t (length s) h))

  pub fields_parts : t < length s → first_bad (F.joint_fields (length (take t s) + 1) (take t s) (take (length s - (t + 1)) (drop (t + 1) s))) ≡ first_bad (F.fields_of s)
  fields_parts h = rw (length-take-le t s (omega arith), rest_is s (t + 1)) (ap first_bad (fields_joint h))

  pub fields_alone : length s ≤ t → F.alone_fields s ≡ F.fields_of s
  fields_alone h = sym (fields_at ∙ cond_no _ _ (le-ltb t (length s) h))
