-- How the texts of a code are put in one after another.
use mathlib.Core.Path.{◌≡◌, refl, sym, ap, ◌∙◌}
use mathlib.Core.Bool.{Bool, true, false}
use mathlib.Core.List.{List, ◌∷◌, ◌++◌, append_assoc}
use Prim.Native.Nat.{ℕ, zero, suc, ◌+◌, ◌*◌, ◌/◌, ◌%◌, ◌^◌, ◌<◌, ◌≤◌}
use native.Mathlib.Omega.{arith}
use lib.Dec.{lit<, leb}
use lib.ListN.{length, set, length-set, length-append}
use Rattle.octets.specs.Places.{digit_of, digits}
use Rattle.octets.specs.Stores.{pasted, Stored}
use Rattle.octets.proofs.Places.{places_append}
use Rattle.octets.proofs.Pastes.{length_pasted, paste_none, paste_cons, stored, then}
use Rattle.calendar.specs.Gregorian.{ordinal_on, date_in}
use Rattle.calendar.specs.declared.Ordinal.{Ordinal}
use Rattle.calendar.specs.declared.Date.{Date}
use borrow.Rule.Slice.PartMut.{put_mid}
use lib.Seq.{drop-drop}
use borrow.Author.Tests.{leb-true, leb-false}
use Rattle.octets.specs.Writes.{roomed, Wrote}
use Rattle.octets.proofs.Writes.{refuses, room_out, room_in, fills}
use Rattle.base.specs.declared.Refusal.TheVariants.{Room}
use Rattle.std.specs.Prelude.{Result, Ok, Err}
use Rattle.base.specs.Said.{said}
use Rattle.base.specs.declared.Refusal.{Refusal}
use Rattle.base.proofs.Once.{said_done}
use Rattle.base.proofs.Ladders.{done_is}
use Rattle.calendar.specs.Gregorian.{ordinal_at, date_at}
use Rattle.calendar.proofs.Promises.{ordinal_at_done, date_at_done}
use Rattle.scale.specs.Time.{per_second}
use Rattle.moment.proofs.Decimal.{grain}
use Rattle.ascii.specs.declared.Layout.{Layout}
use Rattle.ascii.specs.Ascii.{width, lead, day_text, clock_text, fraction_text, zone_text, code_text}
use Rattle.ascii.proofs.Texts.{code_width, digits_length}

-- ---- a period and digits
pub lead_length : (w n : ℕ) → length (lead 46 w n) ≡ 1 + w
lead_length w n = omega (arith, digits_length w n)

pub put_mark : (old : List ℕ) {new : List ℕ} {r : Bool} (at w n : ℕ) → at + 1 + w ≤ length old → Stored (digits w n) (at + 1) (set old at 46) new r → new ≡ pasted old at (lead 46 w n)
put_mark old at w n h s =
    (stored (let z : at + 1 + length (digits w n) ≤ length (set old at 46) = omega (arith, digits_length w n, length-set old at 46) in z) s).1
    ∙ paste_cons old at 46 (digits w n) (omega arith)

-- four digits by twos, and three by one and two
pub four : (n : ℕ) → digits 2 (n / 100) ++ digits 2 (n % 100) ≡ digits 4 n
four n =
    let z : n / 100 * 10 ^ 2 + n % 100 ≡ n = omega arith in
    sym (places_append 10 digit_of (lit< tt) 2 2 (n / 100) (n % 100) (omega arith)) ∙ ap (digits 4) z

pub three : (n : ℕ) → n < 1000 → (48 + n / 100) ∷ digits 2 (n % 100) ≡ digits 3 n
three n h =
    let a : n / 100 ≡ n / 100 % 10 = omega arith in
    let z : n / 100 * 10 ^ 2 + n % 100 ≡ n = omega arith in
    ap (λ x. (48 + x) ∷ digits 2 (n % 100)) a
    ∙ sym (places_append 10 digit_of (lit< tt) 1 2 (n / 100) (n % 100) (omega arith))
    ∙ ap (digits 3) z

-- ---- fractions
pub no_fraction : (old : List ℕ) (at d f : ℕ) → d ≡ 0 → (length (fraction_text d f) ≡ 0) × (old ≡ pasted old at (fraction_text d f))
no_fraction old at d f e = rw e (refl, paste_none old at)

pub some_fraction : (d f : ℕ) → (d ≡ 0 → ⊥) → (fraction_text d f ≡ lead 46 d f) × (length (fraction_text d f) ≡ 1 + d)
some_fraction zero f n = absurd (n refl)
some_fraction (suc d) f n = (refl, lead_length (suc d) f)

pub ruleset fractions = (no_fraction, some_fraction)

pub no_zone : (old : List ℕ) (at : ℕ) → old ≡ pasted old at (zone_text false)
no_zone old at = paste_none old at

-- a text that is put leaves the length
pub kept : (old new t : List ℕ) (at : ℕ) → new ≡ pasted old at t → at + length t ≤ length old → length new ≡ length old
kept old new t at e h = ap length e ∙ length_pasted old at t h

-- ---- the whole: four texts, each put where the one before it ends
put_four : (old d k g z : List ℕ) {a b c e : List ℕ} {t u v : ℕ} (at : ℕ) → t ≡ at + length d → u ≡ t + length k → v ≡ u + length g → v + length z ≤ length old → a ≡ pasted old at d → b ≡ pasted a t k → c ≡ pasted b u g → e ≡ pasted c v z → e ≡ pasted old at (d ++ (k ++ (g ++ z)))
put_four old d k g z {a} {b} {c} {e} {t} {u} {v} at h i j l p q r s =
    let two = then old d k at t p q h (omega arith) in
    let three = then old (d ++ k) g at u two r (omega (arith, length-append d k)) (omega arith) in
    let four = then old (d ++ k ++ g) z at v three s (omega (arith, length-append d k, length-append (d ++ k) g)) (omega arith) in
    simp append_assoc at four

module _ (l : Layout) (n x f : ℕ) where
  pub parts_length : l.digits ≤ 12 → width l ≡ length (day_text l.ordinal n) + length (clock_text x) + length (fraction_text l.digits f) + length (zone_text l.zone)
  unfolding code_text
  parts_length h = sym (code_width l n x f h) ∙ simp length-append (omega arith)

  module _ (old : List ℕ) (at : ℕ) (few : l.digits ≤ 12) where
    abbrev code : List ℕ
    code = code_text l n x f

    pub no_room : leb (at + width l) (length old) ≡ false → Wrote (roomed old at code) at old old (Err Room)
    no_room h = refuses Room _ at old (room_out code at old (omega (arith, code_width l n x f few, leb-false _ _ h)))

    pub put_parts : leb (at + width l) (length old) ≡ true → {a b c e : List ℕ} {t u v w : ℕ} → t ≡ at + length (day_text l.ordinal n) → u ≡ t + length (clock_text x) → v ≡ u + length (fraction_text l.digits f) → w ≡ v + length (zone_text l.zone)
        → a ≡ pasted old at (day_text l.ordinal n) → b ≡ pasted a t (clock_text x) → c ≡ pasted b u (fraction_text l.digits f) → e ≡ pasted c v (zone_text l.zone) → Wrote (roomed old at code) at old e (Ok w)
    unfolding code_text
    put_parts r {e = e} {w = w} h i j k p q o s =
        let m = leb-true (at + width l) (length old) r in
        let y = code_width l n x f few in
        let z = parts_length few in
        fills code _ at w old e (room_in code at old (omega arith)) (omega arith)
        (put_four old (day_text l.ordinal n) (clock_text x) (fraction_text l.digits f) (zone_text l.zone) at h i j (omega arith) p q o s)

pub some_ticks : (d : ℕ) → d ≤ 12 → 0 < per_second / 10 ^ d
some_ticks d h = (grain d h).some

-- a text copied over the part that it fills
pub copied : (out text new : List ℕ) (at k : ℕ) → new ≡ text → k ≡ length text → put_mid at k out new ≡ pasted out at text
unfolding pasted
copied out text new at k e f = rw (e, f, drop-drop (length text) at out) (simp append_assoc)

-- every index has its date
pub ordinal_ok : (n : ℕ) (r : Result Ordinal Refusal) → n ≤ 3652058 → said r ≡ ordinal_at n → r ≡ Ok (ordinal_on n)
ordinal_ok n r h e = said_done r _ (e ∙ ordinal_at_done n h)

pub date_ok : (n : ℕ) (r : Result Date Refusal) → n ≤ 3652058 → said r ≡ date_at n → r ≡ Ok (date_in (ordinal_on n))
date_ok n r h e = said_done r _ (e ∙ date_at_done n h)

pub ordinal_is : (n : ℕ) (r : Result Ordinal Refusal) (o : Ordinal) → n ≤ 3652058 → said r ≡ ordinal_at n → r ≡ Ok o → ordinal_on n ≡ o
ordinal_is n r o h e f = done_is _ o (sym (ordinal_at_done n h) ∙ sym e ∙ ap said f)

pub date_is : (n : ℕ) (r : Result Date Refusal) (t : Date) → n ≤ 3652058 → said r ≡ date_at n → r ≡ Ok t → date_in (ordinal_on n) ≡ t
date_is n r t h e f = done_is _ t (sym (date_at_done n h) ∙ sym e ∙ ap said f)
