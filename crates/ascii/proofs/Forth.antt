-- A text that reads, written again from what was read: the same bytes.
use mathlib.Core.Path.{◌≡◌, refl, sym, ap, ◌∙◌}
use mathlib.Core.Bool.{Bool, true, false}
use mathlib.Core.List.{List}
use Prim.Native.Nat.{ℕ, zero, suc, ◌+◌, ◌-◌, ◌*◌, ◌/◌, ◌%◌, ◌^◌, ◌<◌, ◌≤◌}
use lib.ListN.{drop}
use Rattle.base.specs.Outcome.{done}
use Rattle.base.proofs.Bools.{and_true}
use Rattle.base.proofs.Ladders.{done_is}
use Rattle.octets.proofs.Places.{digit_rule, number_lt}
use Rattle.calendar.specs.Gregorian.{ordinal_on, date_in}
use Rattle.calendar.specs.declared.Ordinal.{Ordinal}
use Rattle.calendar.specs.declared.Date.{Date}
use Rattle.calendar.proofs.Promises.{ordinal_at_done, date_at_done, index_of_ordinal_back, index_of_date_back}
use Rattle.clock.specs.Clock.{minute_of}
use Rattle.clock.proofs.Laws.{clock_back}
use Rattle.shape.proofs.Pieces.{Agree, spelled}
use Rattle.ascii.specs.declared.Layout.{Layout}
use Rattle.ascii.specs.Ascii.{front_of, number_at, day_at, clock_at, code_text}
use Rattle.ascii.specs.Inner.{figures_at, date_figures, clock_figures, figures}
use Rattle.ascii.proofs.Shapes.{Right, lay, tail_pieces, code_pieces, code_spells, code_clean}

-- ---- the clock that the fields show
clock_agrees : (s : List ℕ) (at n : ℕ) → clock_at s at ≡ done n → (number_at s at 2 ≡ minute_of n / 60) × (number_at s (at + 3) 2 ≡ minute_of n % 60) × (number_at s (at + 6) 2 ≡ n - minute_of n * 60)
unfolding clock_at
clock_agrees s at n e =
    let f = clock_back (number_at s at 2) (number_at s (at + 3) 2) (number_at s (at + 6) 2) n e in
    (sym f.hour, sym f.minute, sym f.second)

pub clock_high : (s : List ℕ) (at n : ℕ) → clock_at s at ≡ done n → n ≤ 86400
unfolding clock_at
clock_high s at n e = (clock_back (number_at s at 2) (number_at s (at + 3) 2) (number_at s (at + 6) 2) n e).low

-- ---- the date that the fields name
pub day_high : (o : Bool) (s : List ℕ) (n : ℕ) → day_at o s ≡ done n → n ≤ 3652058
unfolding day_at
day_high true s n e = (index_of_ordinal_back (record { year = number_at s 0 4; day = number_at s 5 3 }) n e).0
day_high false s n e = (index_of_date_back (record { year = number_at s 0 4; month = number_at s 5 2; day = number_at s 8 2 }) n e).0

ordinal_agrees : (s : List ℕ) (n : ℕ) → day_at true s ≡ done n → record { year = number_at s 0 4; day = number_at s 5 3 } ≡ ordinal_on n
unfolding day_at
ordinal_agrees s n e =
    let (h, f) = index_of_ordinal_back (record { year = number_at s 0 4; day = number_at s 5 3 }) n e in
    sym (done_is (ordinal_on n) _ (sym (ordinal_at_done n h) ∙ f))

date_agrees : (s : List ℕ) (n : ℕ) → day_at false s ≡ done n → record { year = number_at s 0 4; month = number_at s 5 2; day = number_at s 8 2 } ≡ date_in (ordinal_on n)
unfolding day_at
date_agrees s n e =
    let (h, f) = index_of_date_back (record { year = number_at s 0 4; month = number_at s 5 2; day = number_at s 8 2 }) n e in
    sym (done_is (date_in (ordinal_on n)) _ (sym (date_at_done n h) ∙ f))

-- ---- put together
tail_agrees : (d : ℕ) (z : Bool) (s : List ℕ) (at : ℕ) → Agree at s (tail_pieces d z (number_at s (at + 1) d))
tail_agrees zero true s at = tt
tail_agrees zero false s at = tt
tail_agrees (suc d) true s at = (refl, tt)
tail_agrees (suc d) false s at = (refl, tt)

agrees : (o : Bool) (d : ℕ) (z : Bool) (s : List ℕ) (n x : ℕ) → day_at o s ≡ done n → clock_at s (front_of o - 8) ≡ done x → Agree 0 s (code_pieces (lay o d z) n x (number_at s (front_of o + 1) d))
agrees true d z s n x a c =
    let e = ordinal_agrees s n a in
    let (h, m, k) = clock_agrees s 9 x c in
    (ap (λ (o : Ordinal). o.year) e, (ap (λ (o : Ordinal). o.day) e, (h, (m, (k, tail_agrees d z s 17)))))
agrees false d z s n x a c =
    let e = date_agrees s n a in
    let (h, m, k) = clock_agrees s 11 x c in
    (ap (λ (t : Date). t.year) e, (ap (λ (t : Date). t.month) e, (ap (λ (t : Date). t.day) e, (h, (m, (k, tail_agrees d z s 19))))))

pub code_again : (l : Layout) (s : List ℕ) (n x : ℕ) → Right l s → day_at l.ordinal s ≡ done n → clock_at s (front_of l.ordinal - 8) ≡ done x → code_text l n x (number_at s (front_of l.ordinal + 1) l.digits) ≡ s
code_again l s n x e a c =
    let f = number_at s (front_of l.ordinal + 1) l.digits in
    let (p, q, _) = code_clean l n x f in
    sym (spelled (code_pieces l n x f) s 0 p (e.own ∙ sym q) (agrees l.ordinal l.digits l.zone s n x a c) ∙ code_spells l n x f)

-- the fraction has as many digits
pub part_lt : (l : Layout) (s : List ℕ) → Right l s → number_at s (front_of l.ordinal + 1) l.digits < 10 ^ l.digits
unfolding figures
part_lt l s e =
    let (f, g) = and_true (date_figures l.ordinal s) _ e.figs in
    let (h, i) = and_true (clock_figures s (front_of l.ordinal - 8)) (figures_at s (front_of l.ordinal + 1) l.digits) g in
    number_lt digit_rule (drop (front_of l.ordinal + 1) s) l.digits i
