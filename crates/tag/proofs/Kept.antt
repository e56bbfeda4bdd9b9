-- A tag of permitted form is good exactly if every field that stands in it keeps its rule.
use mathlib.Core.Path.{◌≡◌, refl, sym, ap, ap₂, ◌∙◌}
use mathlib.Core.Bool.{Bool, true, false, cond, ◌&&◌}
use mathlib.Core.List.{List, [], ◌++◌}
use Prim.Native.Nat.{ℕ, ◌+◌}
use lib.Dec.{leb, ltb}
use lib.ListN.{length, take, drop}
use Rattle.std.specs.Option.{unwrap_or}
use Rattle.base.specs.Outcome.{Outcome, done, refused, given}
use Rattle.base.proofs.Ladders.{done_is, need_done, then_done, given_done}
use Rattle.base.proofs.Bools.{and_one}
use Rattle.calendar.specs.Gregorian.{is_year, kind, row, month_length, is_date}
use Rattle.field.specs.Fields.{Field, first_bad}
use Rattle.field.specs.Rules.{is_month, is_day, is_day_of_year, is_hour, is_minute, is_second}
use Rattle.field.proofs.Laws.{first_append, date_all, ordinal_all, is_nowhere, none_then}
use Rattle.seek.specs.declared.Calendar.{Calendar}
use Rattle.seek.specs.declared.Wants.{Wants}
use Rattle.tag.specs.Forms.{Place, free, lowest, at, Form, Forms, days, months, hours, minutes, find}
use Rattle.tag.specs.Tags.{calendar_as, clock_as, until, fraction_as, Daytime, daytime, unzoned, time_in, tag, midnight, any_day, alone_by, alone, joined, formed, good_day_by, good_day, good_clock, good_tag}
use Rattle.tag.specs.Fields as F
use Rattle.tag.specs.Fields.{there, form_fields}
use Rattle.tag.proofs.Standing.{Dropped, year_kept, month_kept, day_kept, ordinal_kept, hour_kept, minute_kept, second_kept}
use Rattle.std.specs.Prelude.{Option, Some, None}

-- no field of these is bad
abbrev pub none : List Field → Bool
none fs = is_nowhere (first_bad fs)

none_there : (from : ℕ) (p : Place) (x : Bool) (gs : List Field) (r : Bool) → (Dropped p → x ≡ true) → (x ≡ true → none gs ≡ r) → none (there from p x gs) ≡ x && r
none_there from free x gs r h more = rw (h tt) (more (h tt))
none_there from lowest x gs r h more = rw (h tt) (more (h tt))
none_there from (at i) true gs r h more = more refl
none_there from (at i) false gs r h more = refl

last_there : (from : ℕ) (p : Place) (x : Bool) → (Dropped p → x ≡ true) → none (there from p x []) ≡ x
last_there from p x h = none_there from p x [] true h (λ _. refl) ∙ sym (and_one x)

-- ---- a calendar, and a clock
calendar_none : (s : List ℕ) (f : Form) → none (F.calendar_fields s f) ≡ good_day (calendar_as s f)
unfolding F.calendar_fields good_day calendar_as
calendar_none s f = go (calendar_as s f).ordinal refl
  where
    c : Calendar
    c = calendar_as s f

    go : (w : Option ℕ) → (calendar_as s f).ordinal ≡ w → none (F.calendar_by f (calendar_as s f) w) ≡ good_day_by (calendar_as s f) w
    go None e =
        let Y = unwrap_or (calendar_as s f).year 2000 in
        let M = unwrap_or (calendar_as s f).month 1 in
        let D = unwrap_or (calendar_as s f).day 1 in
        none_there 0 f.first (is_year Y) _ (is_month M && is_day Y M D) (year_kept s f) (λ _. none_there 0 f.second (is_month M) _ (is_day Y M D) (month_kept s f) (λ m. last_there 0 f.third (is_day Y M D) (λ h. day_kept s f h m)))
        ∙ date_all Y M D
    go (Some o) e =
        let Y = unwrap_or (calendar_as s f).year 2000 in
        none_there 0 f.first (is_year Y) _ (is_day_of_year Y o) (year_kept s f) (λ _. last_there 0 f.fourth (is_day_of_year Y o) (ordinal_kept s f o e)) ∙ ordinal_all Y o

clock_none : (from : ℕ) (s : List ℕ) (f : Form) → none (F.clock_fields from s f) ≡ good_clock (clock_as s f)
unfolding F.clock_fields good_clock clock_as
clock_none from s f =
    let H = unwrap_or (clock_as s f).hour 23 in
    let N = unwrap_or (clock_as s f).minute 59 in
    let X = unwrap_or (clock_as s f).second 0 in
    none_there from f.first (is_hour H) _ (is_minute N && is_second H N X) (hour_kept s f) (λ _. none_there from f.second (is_minute N) _ (is_second H N X) (minute_kept s f) (λ _. last_there from f.third (is_second H N X) (second_kept s f)))

-- ---- a time
time_none : (fs : Forms) (from : ℕ) (s : List ℕ) (k : Daytime) → time_in fs s ≡ done k → none (F.time_fields fs from s) ≡ good_clock k.clock
unfolding time_in unzoned F.time_fields F.head_fields
time_none fs from s k e =
    let u = take (until 90 s) s in
    let h = take (until 46 u) u in
    let (_, b) = need_done (leb (length s) (until 90 s + 1)) 4 _ k e in
    let (f, (c, d)) = then_done (find fs h) (λ f. given (daytime (clock_as h f)) (fraction_as f.third (drop (until 46 u) u))) k b in
    let (n, (_, g)) = given_done (daytime (clock_as h f)) (fraction_as f.third (drop (until 46 u) u)) k d in
    ap (λ (x : Outcome Form). none (form_fields (F.clock_fields from h) x)) c ∙ clock_none from h f ∙ ap (λ (x : Daytime). good_clock x.clock) g

-- ---- all of a tag
any_day_lem : good_day any_day ≡ true
unfolding good_day is_date month_length kind row
any_day_lem = refl

at_midnight : good_clock midnight.clock ≡ true
unfolding good_clock
at_midnight = refl

joint_none : (from : ℕ) (c k : List ℕ) (t : Wants) → joined c k ≡ done t → none (F.joint_fields from c k) ≡ good_tag t
unfolding joined F.joint_fields
joint_none from c k t e =
    let (f, (a, b)) = then_done (find days c) (λ f. given (tag (calendar_as c f)) (time_in hours k)) t e in
    let (d, (g, i)) = given_done (tag (calendar_as c f)) (time_in hours k) t b in
    ap (λ (x : Outcome Form). none (form_fields (λ f. F.calendar_fields c f ++ F.time_fields hours from k) x)) a
    ∙ ap is_nowhere (first_append (F.calendar_fields c f) (F.time_fields hours from k))
    ∙ none_then (first_bad (F.calendar_fields c f)) (first_bad (F.time_fields hours from k))
    ∙ ap₂ ◌&&◌ (calendar_none c f) (time_none hours from k d g)
    ∙ ap good_tag i

alone_none : (s : List ℕ) (t : Wants) → alone s ≡ done t → none (F.alone_fields s) ≡ good_tag t
unfolding alone F.alone_fields
alone_none s t e = go (find (days ++ months) s) e
  where
    go : (x : Outcome Form) → alone_by s x ≡ done t → none (F.alone_by s x) ≡ good_tag t
    go (done f) h = calendar_none s f ∙ and_one (good_day (calendar_as s f)) ∙ ap (λ (b : Bool). good_day (calendar_as s f) && b) (sym at_midnight) ∙ ap good_tag (done_is _ t h)
    go (refused n) h =
        let (d, (g, i)) = given_done (tag any_day) (time_in (hours ++ minutes) s) t h in
        time_none (hours ++ minutes) 0 s d g ∙ ap (λ (b : Bool). b && good_clock d.clock) (sym any_day_lem) ∙ ap good_tag i

pub fields_none : (s : List ℕ) (t : Wants) → formed s ≡ done t → none (F.fields_of s) ≡ good_tag t
unfolding formed F.fields_of
fields_none s t e = go (ltb (until 84 s) (length s)) e
  where
    go : (b : Bool) → let q = until 84 s in cond b (joined (take q s) (drop (q + 1) s)) (alone s) ≡ done t → none (cond b (F.joint_fields (q + 1) (take q s) (drop (q + 1) s)) (F.alone_fields s)) ≡ good_tag t
    go true h = joint_none (until 84 s + 1) (take (until 84 s) s) (drop (until 84 s + 1) s) t h
    go false h = alone_none s t h
