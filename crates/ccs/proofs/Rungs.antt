-- The rungs of a reading's and a writing's ladder, one law for each.
use mathlib.Core.Path.{◌≡◌, sym, ap, ◌∙◌}
use mathlib.Core.Bool.{Bool, true, false}
use mathlib.Core.List.{List, ◌++◌}
use Prim.Native.Nat.{ℕ, ◌+◌, ◌≤◌}
use native.Mathlib.Omega.{arith}
use lib.Dec.{leb}
use lib.ListN.{length, length-append}
use borrow.Author.Tests.{le-leb, leb-true, leb-false}
use Rattle.base.specs.Outcome.{Outcome, done, and_then}
use Rattle.base.proofs.Bools.{cond_yes}
use Rattle.base.proofs.Ladders.{need_yes}
use Rattle.octets.specs.Places.{bcd, bcd_element}
use Rattle.octets.specs.Stores.{pasted, Stored}
use Rattle.octets.specs.Writes.{Wrote, roomed}
use Rattle.octets.proofs.Writes.{refuses, room_in, room_out, fills}
use Rattle.octets.proofs.Places.{length_places}
use Rattle.octets.proofs.Pastes.{stored, then, length_pasted}
use Rattle.moment.specs.Moment.{is_moment}
use Rattle.moment.specs.declared.Moment.{Moment}
use Rattle.ccs.specs.declared.Layout.{Layout}
use Rattle.ccs.specs.Ccs.{is_layout, width, date_text, clock_text, part_of, bytes_of}
use Rattle.std.specs.Prelude.{Ok, Err}
use Rattle.base.specs.declared.Refusal.TheVariants.{Room}

pub width_is : (l : Layout) → l.segments ≤ 6 → width l ≡ 7 + l.segments
unfolding width
width_is l h = cond_yes _ _ (le-leb l.segments 6 h)

-- ---- writing
-- a T-field of eight, six and twice w digits
abbrev pub code_text : ℕ → ℕ → ℕ → ℕ → List ℕ
code_text w date clock part = bcd 4 date ++ (bcd 3 clock ++ bcd w part)

pub code_length : (w date clock part : ℕ) → length (code_text w date clock part) ≡ 7 + w
code_length w date clock part =
    simp length-append (omega (arith, length_places 100 bcd_element 4 date, length_places 100 bcd_element 3 clock, length_places 100 bcd_element w part))

-- three texts stored one behind the other
pub stored_three : (a b c d : List ℕ) (at to on : ℕ) {e f g : List ℕ} {p q r : Bool} → Stored a at d e p → Stored b to e f q → Stored c on f g r → to ≡ at + length a → on ≡ to + length b → on + length c ≤ length d → g ≡ pasted d at (a ++ (b ++ c))
stored_three a b c d at to on {e} {f} {g} x y z h k l =
    let e1 : e ≡ pasted d at a = (stored (omega arith) x).1 in
    let n1 : length e ≡ length d = ap length e1 ∙ length_pasted d at a (omega arith) in
    let f1 : f ≡ pasted e to b = (stored (omega arith) y).1 in
    let n2 : length f ≡ length e = ap length f1 ∙ length_pasted e to b (omega arith) in
    let g1 : g ≡ pasted f on c = (stored (omega arith) z).1 in
    then d a (b ++ c) at to e1 (then e b c to on f1 g1 k (omega arith)) h (omega arith)

-- a moment's text goes by its day's
pub dated : (l : Layout) (m : Moment) → is_layout l ≡ true → is_moment m ≡ true → {x : Outcome (List ℕ)} → date_text l.ordinal m.day ≡ x → bytes_of l m ≡ and_then x (λ d. done (d ++ (clock_text m.second ++ bcd l.segments (part_of l.segments m.ticks))))
unfolding bytes_of
dated l m h g e = need_yes 3 _ h ∙ need_yes 7 _ g ∙ rw e

-- where the digits have no room, and what they leave where they have
module _ (l : Layout) (h : l.segments ≤ 6) (out : List ℕ) (at date clock part : ℕ) where
  abbrev code : List ℕ
  code = code_text l.segments date clock part

  size : length code ≡ width l
  size = code_length l.segments date clock part ∙ sym (width_is l h)

  pub no_room : leb (at + width l) (length out) ≡ false → Wrote (roomed out at code) at out out (Err Room)
  no_room f = refuses Room _ at out (room_out code at out (omega (arith, size, leb-false _ _ f)))

  pub wrote : leb (at + width l) (length out) ≡ true → {a b e : List ℕ} {x y z : Bool} → Stored (bcd 4 date) at out a x → Stored (bcd 3 clock) (at + 4) a b y → Stored (bcd l.segments part) (at + 7) b e z → Wrote (roomed out at code) at out e (Ok (at + width l))
  wrote f q r s =
      let k = leb-true (at + width l) (length out) f in
      let n = length_places 100 bcd_element 4 date in
      let o = length_places 100 bcd_element 3 clock in
      let w = length_places 100 bcd_element l.segments part in
      fills code _ at _ out _ (room_in code at out (omega (arith, size))) (omega (arith, size))
      (stored_three (bcd 4 date) (bcd 3 clock) (bcd l.segments part) out at (at + 4) (at + 7) q r s (omega arith) (omega arith) (omega (arith, size, code_length l.segments date clock part)))
