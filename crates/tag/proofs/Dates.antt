-- Each form of a calendar is one run of a date's subfields: what is left of a date wants what the date has, and a text that wants what a date has is what is left of it.
use mathlib.Core.Path.{◌≡◌, refl, sym, ap, ap₂, subst, ◌∙◌}
use mathlib.Core.Bool.{Bool, true, false, ◌&&◌, false≢true}
use mathlib.Core.List.{List, [], ◌∷◌, ◌++◌}
use Prim.Native.Nat.{ℕ, zero, suc, ◌+◌, ◌-◌, ◌^◌, ◌≤◌, ◌<◌}
use native.Mathlib.Omega.{arith}
use lib.Dec.{eqb}
use lib.ListN.{length}
use borrow.Author.Tests.{eqb-true}
use Rattle.base.specs.Outcome.{done}
use Rattle.base.proofs.Bools.{and_true, and_one, and_assoc}
use Rattle.calendar.specs.declared.Ordinal.{Ordinal}
use Rattle.calendar.specs.Gregorian.{kind, row, up_to, months_to, ordinal_on, date_in}
use Rattle.calendar.proofs.Years.{kind_lt}
use Rattle.calendar.proofs.Dates.{good_on}
use Rattle.calendar.proofs.Promises.{date_at_done, date_fields_lem}
use Rattle.shape.specs.Shapes.{shape_of}
use Rattle.shape.proofs.Tests.{yes_both}
use Rattle.shape.proofs.Shapes.{shape_length}
use Rattle.shape.proofs.Pieces.{Piece, sep, num, spell, outline, clean, Small, agree, agree_is, is_agree, agree_spelled, spell_shape, spelled, same_digits}
use Rattle.ascii.specs.Ascii.{number_at}
use Rattle.seek.specs.Naming.{day_fits}
use Rattle.tag.specs.Forms.{Form, days, months, hours, minutes, find}
use Rattle.tag.specs.Tags.{until, calendar_as, good_day}
use Rattle.tag.proofs.Rows.{forms, form_at}
use Rattle.tag.specs.Shortening.{cut, low_from, Run}
use Rattle.tag.proofs.Scans.{until_shape, find_spelled, find_each}
use Rattle.tag.proofs.Subfields.{dated}
use Rattle.tag.proofs.Goods.{good_day_lem}

-- a form, and the run that it is: its pieces, and what it wants, which is their numbers and the lowest value of what is deleted on the right
pub record Kept (n : ℕ) (whole ordinal : Bool) (lo hi : ℕ) (f : Form) : Type 0 where
  pub some : lo < hi
  pub end : hi ≤ length (dated ordinal n)
  pub reaches : eqb hi (length (dated ordinal n)) ≡ whole
  pub pieces : List Piece
  pub tidy : clean pieces ≡ true
  pub small : Small pieces
  pub text : spell pieces ≡ cut lo hi (dated ordinal n)
  pub shape : outline pieces ≡ f.shape
  pub plain : until 84 f.shape ≡ length f.shape
  pub found : find (days ++ months) f.shape ≡ done f
  pub first : whole ≡ true → find days f.shape ≡ done f
  pub wants : (c : List ℕ) → day_fits (calendar_as c f) n ≡ agree 0 c pieces && low_from hi (dated ordinal n)

-- ---- what is left of a date
pub record Dated (n : ℕ) (c : List ℕ) (f : Form) : Type 0 where
  pub found : find (days ++ months) c ≡ done f
  pub fits : day_fits (calendar_as c f) n ≡ true
  pub good : good_day (calendar_as c f) ≡ true
  pub plain : until 84 c ≡ length c

pub record Remains (n : ℕ) (c : List ℕ) (whole : Bool) : Type 0 where
  pub form_is : Form
  pub told : Dated n c form_is
  pub reaches : whole ≡ true → find days c ≡ done form_is

pub record DayBack (n : ℕ) (c : List ℕ) (whole : Bool) : Type 0 where
  pub ordinal : Bool
  pub lo : ℕ
  pub hi : ℕ
  pub run : Run lo hi (dated ordinal n)
  pub is : c ≡ cut lo hi (dated ordinal n)
  pub reaches : whole ≡ true → hi ≡ length (dated ordinal n)

module _ (n : ℕ) (h : n ≤ 3652058) {w o : Bool} {lo hi : ℕ} {f : Form} (k : Kept n w o lo hi f) where
  -- its text, which has the form's shape
  abbrev left : List ℕ
  left = spell k.pieces

  left_shape : shape_of left ≡ f.shape
  left_shape = spell_shape k.pieces k.tidy ∙ k.shape

  remains : low_from hi (dated o n) ≡ true → Remains n (cut lo hi (dated o n)) w
  remains low =
      let fits : day_fits (calendar_as left f) n ≡ true = k.wants left ∙ yes_both (is_agree 0 left k.pieces (agree_spelled k.pieces k.small)) low in
      let plain : until 84 left ≡ length left = sym (until_shape 84 refl left) ∙ ap (until 84) left_shape ∙ k.plain ∙ sym (ap length left_shape) ∙ shape_length left in
      subst (λ (c : List ℕ). Remains n c w) k.text
      (record {
        form_is = f;
        told = record { found = find_spelled (days ++ months) k.pieces k.tidy ∙ ap (find (days ++ months)) k.shape ∙ k.found; fits = fits; good = good_day_lem (calendar_as left f) n h fits; plain = plain };
        reaches = λ t. find_spelled days k.pieces k.tidy ∙ ap (find days) k.shape ∙ k.first t;
      })

  back : (c : List ℕ) → shape_of c ≡ f.shape → day_fits (calendar_as c f) n ≡ true → DayBack n c w
  back c e g =
      let (a, low) = and_true (agree 0 c k.pieces) (low_from hi (dated o n)) (sym (k.wants c) ∙ g) in
      record {
        ordinal = o;
        lo = lo;
        hi = hi;
        run = record { some = k.some; end = k.end; low = low };
        is = spelled k.pieces c 0 k.tidy (e ∙ sym k.shape) (agree_is 0 c k.pieces a) ∙ k.text;
        reaches = λ t. eqb-true hi (length (dated o n)) (k.reaches ∙ t);
      }

pub one_low : (a x : Bool) → a && x ≡ a && true && x
one_low a x = sym (and_assoc a true x)

pub two_low : (a b x : Bool) → a && (b && x) ≡ a && (b && true) && x
two_low true b x = one_low b x
two_low false b x = refl

-- the first day of a year is the first of January
first_day_lem : (o : Ordinal) → o.day ≡ 1 → ((date_in o).month ≡ 1) × ((date_in o).day ≡ 1)
unfolding date_in row
first_day_lem o e = rw e (go (kind o.year) (kind_lt o.year))
  where
    go : (k : ℕ) → k < 2 → (months_to (row k) 1 + 1 ≡ 1) × (1 - up_to (row k) (months_to (row k) 1) ≡ 1)
    go zero h = (refl, refl)
    go (suc zero) h = (refl, refl)
    go (suc (suc k)) h = absurd (omega arith)

-- ---- the eight forms
module _ (n : ℕ) (h : n ≤ 3652058) where
  abbrev y : ℕ
  y = (ordinal_on n).year

  abbrev o : ℕ
  o = (ordinal_on n).day

  abbrev m : ℕ
  m = (date_in (ordinal_on n)).month

  abbrev d : ℕ
  d = (date_in (ordinal_on n)).day

  small_all : (y < 10 ^ 4) × (m < 10 ^ 2) × (d < 10 ^ 2) × (o < 10 ^ 3)
  small_all =
      let (a, b, c, d, e, f) = date_fields_lem n (date_in (ordinal_on n)) (date_at_done n h) in
      (omega (arith, (good_on n h).year_high), omega arith, omega arith, omega (arith, (good_on n h).day_high, kind_lt y))

  -- what is deleted on the right stood at its lowest value
  low_day : low_from 2 (dated false n) ≡ eqb 1 d && true
  low_day = ap (λ (t : Bool). t && true) (same_digits 2 d 1 small_all.2 (omega arith))

  low_month : low_from 1 (dated false n) ≡ eqb 1 m && (eqb 1 d && true)
  low_month = ap₂ ◌&&◌ (same_digits 2 m 1 small_all.1 (omega arith)) low_day

  -- all that is computed
  module _ (w : Bool) (f : Form) (b : Bool) (l k : ℕ) (ps : List Piece) where
    keep : l < k → k ≤ length (dated b n) → eqb k (length (dated b n)) ≡ w → clean ps ≡ true → spell ps ≡ cut l k (dated b n) → outline ps ≡ f.shape → until 84 f.shape ≡ length f.shape → find (days ++ months) f.shape ≡ done f → (w ≡ true → find days f.shape ≡ done f) → Small ps → ((c : List ℕ) → day_fits (calendar_as c f) n ≡ agree 0 c ps && low_from k (dated b n)) → Kept n w b l k f
    keep s e r t x p u g i a v = record { some = s; end = e; reaches = r; pieces = ps; tidy = t; small = a; text = x; shape = p; plain = u; found = g; first = i; wants = v }

  full_date : Kept n true false 0 3 (form_at 0)
  unfolding forms days months hours minutes day_fits calendar_as shape_of date_in
  full_date =
      let (a, b, c, e) = small_all in
      keep true (form_at 0) false 0 3 (num 4 y ∷ sep 45 ∷ num 2 m ∷ sep 45 ∷ num 2 d ∷ []) (omega arith) (omega arith) refl refl refl refl refl refl (λ t. refl) (a, (b, (c, tt)))
      (λ s. and_one _)

  from_month : Kept n true false 1 3 (form_at 1)
  unfolding forms days months hours minutes day_fits calendar_as shape_of date_in
  from_month =
      let (a, b, c, e) = small_all in
      keep true (form_at 1) false 1 3 (sep 45 ∷ num 2 m ∷ sep 45 ∷ num 2 d ∷ []) (omega arith) (omega arith) refl refl refl refl refl refl (λ t. refl) (b, (c, tt))
      (λ s. and_one _)

  from_day : Kept n true false 2 3 (form_at 2)
  unfolding forms days months hours minutes day_fits calendar_as shape_of date_in
  from_day =
      let (a, b, c, e) = small_all in
      keep true (form_at 2) false 2 3 (sep 45 ∷ sep 45 ∷ num 2 d ∷ []) (omega arith) (omega arith) refl refl refl refl refl refl (λ t. refl) (c, tt)
      (λ s. and_one _)

  full_ordinal : Kept n true true 0 2 (form_at 3)
  unfolding forms days months hours minutes day_fits calendar_as shape_of date_in
  full_ordinal =
      let (a, b, c, e) = small_all in
      keep true (form_at 3) true 0 2 (num 4 y ∷ sep 45 ∷ num 3 o ∷ []) (omega arith) (omega arith) refl refl refl refl refl refl (λ t. refl) (a, (e, tt))
      (λ s. ap (λ (t : Bool). eqb (number_at s 0 4) y && t) (and_one _) ∙ and_one _)

  from_ordinal : Kept n true true 1 2 (form_at 4)
  unfolding forms days months hours minutes day_fits calendar_as shape_of date_in
  from_ordinal =
      let (a, b, c, e) = small_all in
      keep true (form_at 4) true 1 2 (sep 45 ∷ num 3 o ∷ []) (omega arith) (omega arith) refl refl refl refl refl refl (λ t. refl) (e, tt)
      (λ s. and_one _ ∙ and_one _)

  to_month : Kept n false false 0 2 (form_at 5)
  unfolding forms days months hours minutes day_fits calendar_as shape_of date_in
  to_month =
      let (a, b, c, e) = small_all in
      keep false (form_at 5) false 0 2 (num 4 y ∷ sep 45 ∷ num 2 m ∷ []) (omega arith) (omega arith) refl refl refl refl refl refl (λ t. absurd (false≢true t)) (a, (b, tt))
      (λ s. two_low (eqb (number_at s 0 4) y) (eqb (number_at s 5 2) m) (eqb 1 d && true) ∙ ap (λ (t : Bool). eqb (number_at s 0 4) y && (eqb (number_at s 5 2) m && true) && t) (sym low_day))

  month_only : Kept n false false 1 2 (form_at 6)
  unfolding forms days months hours minutes day_fits calendar_as shape_of date_in
  month_only =
      let (a, b, c, e) = small_all in
      keep false (form_at 6) false 1 2 (sep 45 ∷ num 2 m ∷ []) (omega arith) (omega arith) refl refl refl refl refl refl (λ t. absurd (false≢true t)) (b, tt)
      (λ s. one_low (eqb (number_at s 1 2) m) (eqb 1 d && true) ∙ ap (λ (t : Bool). eqb (number_at s 1 2) m && true && t) (sym low_day))

  year_only : Kept n false false 0 1 (form_at 7)
  unfolding forms days months hours minutes day_fits calendar_as shape_of date_in
  year_only =
      let (a, b, c, e) = small_all in
      keep false (form_at 7) false 0 1 (num 4 y ∷ []) (omega arith) (omega arith) refl refl refl refl refl refl (λ t. absurd (false≢true t)) (a, tt)
      (λ s. one_low (eqb (number_at s 0 4) y) (eqb 1 m && (eqb 1 d && true)) ∙ ap (λ (t : Bool). eqb (number_at s 0 4) y && true && t) (sym low_month))

  -- ---- a date, shortened: each run of its subfields
  first_low : low_from 1 (dated true n) ≡ true → low_from 1 (dated false n) ≡ true
  first_low e =
      let f : o ≡ 1 = sym (eqb-true 1 o (sym (same_digits 3 o 1 small_all.3 (omega arith)) ∙ (and_true _ _ e).0)) in
      let (a, b) = first_day_lem (ordinal_on n) f in
      rw (a, b)

  pub date_forth : (b : Bool) (l k : ℕ) → Run l k (dated b n) → Remains n (cut l k (dated b n)) (eqb k (length (dated b n)))
  unfolding date_in
  date_forth b zero zero r = absurd (omega (arith, r.some))
  date_forth b (suc l) zero r = absurd (omega (arith, r.some))
  date_forth true zero (suc zero) r = remains n h year_only (first_low r.low)
  date_forth true (suc l) (suc zero) r = absurd (omega (arith, r.some))
  date_forth true zero (suc (suc zero)) r = remains n h full_ordinal r.low
  date_forth true (suc zero) (suc (suc zero)) r = remains n h from_ordinal r.low
  date_forth true (suc (suc l)) (suc (suc zero)) r = absurd (omega (arith, r.some))
  date_forth true l (suc (suc (suc k))) r = absurd (omega (arith, r.end))
  date_forth false zero (suc zero) r = remains n h year_only r.low
  date_forth false (suc l) (suc zero) r = absurd (omega (arith, r.some))
  date_forth false zero (suc (suc zero)) r = remains n h to_month r.low
  date_forth false (suc zero) (suc (suc zero)) r = remains n h month_only r.low
  date_forth false (suc (suc l)) (suc (suc zero)) r = absurd (omega (arith, r.some))
  date_forth false zero (suc (suc (suc zero))) r = remains n h full_date r.low
  date_forth false (suc zero) (suc (suc (suc zero))) r = remains n h from_month r.low
  date_forth false (suc (suc zero)) (suc (suc (suc zero))) r = remains n h from_day r.low
  date_forth false (suc (suc (suc l))) (suc (suc (suc zero))) r = absurd (omega (arith, r.some))
  date_forth false l (suc (suc (suc (suc k)))) r = absurd (omega (arith, r.end))

  -- ---- a text that wants what the date has
  module _ (c : List ℕ) (f : Form) where
    pub whole_back : find days c ≡ done f → day_fits (calendar_as c f) n ≡ true → DayBack n c true
    unfolding forms days months hours minutes
    whole_back e =
        find_each (λ g. day_fits (calendar_as c g) n ≡ true → DayBack n c true) days c f e
        (back n h full_date c, (back n h from_month c, (back n h from_day c, (back n h full_ordinal c, (back n h from_ordinal c, tt)))))

    pub day_back : find (days ++ months) c ≡ done f → day_fits (calendar_as c f) n ≡ true → (w : Bool) × DayBack n c w
    unfolding forms days months hours minutes
    day_back e =
        find_each (λ g. day_fits (calendar_as c g) n ≡ true → (w : Bool) × DayBack n c w) (days ++ months) c f e
        (λ p q. (true, back n h full_date c p q), (λ p q. (true, back n h from_month c p q), (λ p q. (true, back n h from_day c p q), (λ p q. (true, back n h full_ordinal c p q), (λ p q. (true, back n h from_ordinal c p q), (λ p q. (false, back n h to_month c p q), (λ p q. (false, back n h month_only c p q), (λ p q. (false, back n h year_only c p q), tt))))))))
