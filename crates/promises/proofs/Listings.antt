-- What stands in the lent list, for any kind of tag, by any table that reckons.
use mathlib.Core.Path.{◌≡◌, refl, sym, subst}
use mathlib.Core.Bool.{true}
use mathlib.Core.List.{List, [], ◌∷◌}
use mathlib.Core.Logic.{◌⊎◌, inl, inr, ⊎_elim, ◌↔◌}
use Prim.Native.Nat.{ℕ, zero, suc, ◌<◌, min}
use native.Mathlib.Omega.{arith}
use borrow.Author.Tests.{ltb-true, lt-ltb}
use lib.IntN.{ℤ}
use lib.ListN.{length, take, drop}
use lib.Seq.{length-take-le, take_at, drop_at}
use Rattle.base.specs.Outcome.{done, given}
use Rattle.base.proofs.Ladders.{given_done}
use Rattle.base.proofs.Signed.{lt_yes}
use Rattle.scale.specs.Time.{Time}
use Rattle.leap.specs.Table.{Table}
use Rattle.utc.specs.Reckoning.{reckons}
use Rattle.window.specs.Among.{Among, here, there, Ascending, first}
use Rattle.window.specs.Window.{Named, listed, list_filled, leaves}
use Rattle.listing.specs.Records.{IsListed, Sooner}
use Rattle.listing.proofs.CucPromises as C
use Rattle.listing.proofs.AsciiPromises as A
use Rattle.promises.proofs.Counters.{counted_names}
use Rattle.promises.specs.Promises.{Shortened, counter, letters, list_by, Wanted, Lists}
use Rattle.window.specs.declared.Listed.{Listed}

-- ---- a list cut in two
module _ {B : Type 0} where
  among_take : {z : B} (n : ℕ) (l : List B) → Among z (take n l) → Among z l
  among_take zero l i = elim i [ ]
  among_take (suc n) [] i = elim i [ ]
  among_take (suc n) (x ∷ l) here = here
  among_take (suc n) (x ∷ l) (there i) = there (among_take n l i)

  among_drop : {z : B} (n : ℕ) (l : List B) → Among z (drop n l) → Among z l
  among_drop zero l i = i
  among_drop (suc n) [] i = elim i [ ]
  among_drop (suc n) (x ∷ l) i = there (among_drop n l i)

  among_split : {z : B} (n : ℕ) (l : List B) → Among z l → Among z (take n l) ⊎ Among z (drop n l)
  among_split zero l i = inr i
  among_split (suc n) [] i = elim i [ ]
  among_split (suc n) (x ∷ l) here = inl here
  among_split {z} (suc n) (x ∷ l) (there i) = ⊎_elim (λ (j : Among z (take n l)). inl (there j)) (λ (j : Among z (drop n l)). inr j) (among_split n l i)

  module _ (R : B → B → Type 0) where
    -- what is cut off comes after what is left
    apart : {y z : B} (n : ℕ) (l : List B) → Ascending R l → Among y (take n l) → Among z (drop n l) → R y z
    apart zero l a i j = elim i [ ]
    apart (suc n) [] a i j = elim i [ ]
    apart (suc n) (x ∷ l) (first f a) here j = f _ (among_drop n l j)
    apart (suc n) (x ∷ l) (first f a) (there i) j = apart n l a i j

  some_left : (n : ℕ) (l : List B) → n < length l → (z : B) × Among z (drop n l)
  some_left n [] h = absurd (omega arith)
  some_left zero (x ∷ l) h = (x, here)
  some_left (suc n) (x ∷ l) h = some_left n l (omega arith)

  left_some : {z : B} (n : ℕ) (l : List B) → Among z (drop n l) → n < length l
  left_some zero [] i = elim i [ ]
  left_some (suc n) [] i = elim i [ ]
  left_some zero (x ∷ l) i = omega arith
  left_some (suc n) (x ∷ l) i = let h = left_some n l i in omega arith

not_self : (z : ℤ) → Sooner z z → ⊥
not_self z h = omega (arith, lt_yes z z h)

-- a list list_filled with as much of another as it has room for
module _ (all entry : List ℤ) where
  abbrev fit : ℕ
  fit = min (length entry) (length all)

  cut_length : length (take fit all) ≡ fit
  cut_length = length-take-le fit all (omega arith)

  filled_first : take fit (list_filled all entry) ≡ take fit all
  unfolding list_filled
  filled_first = take_at (take fit all) (drop fit entry) fit cut_length

  filled_rest : drop fit (list_filled all entry) ≡ drop fit entry
  unfolding list_filled
  filled_rest = drop_at (take fit all) (drop fit entry) fit cut_length

-- a list of all wanted moments, ascending, put into a lent list
module _ (t : Table) (tag : Shortened) (from to : Time) (x : Named ℤ) (exact : (m : Time) → IsListed x m ↔ Wanted t tag from to m) (up : Ascending Sooner x.all) (entry : List ℤ) where
  abbrev here_first : List ℤ
  here_first = take (fit x.all entry) x.all

  abbrev further : List ℤ
  further = drop (fit x.all entry) x.all

  -- what stands in the list, and what was left over
  in_list : (z : ℤ) → Among z (take (fit x.all entry) (list_filled x.all entry)) → Among z here_first
  in_list z i = subst (Among z) (filled_first x.all entry) i

  into_list : (z : ℤ) → Among z here_first → Among z (take (fit x.all entry) (list_filled x.all entry))
  into_list z i = subst (Among z) (sym (filled_first x.all entry)) i

  left : (m : Time) → Wanted t tag from to m → (Among m.sec (take (fit x.all entry) (list_filled x.all entry)) → ⊥) → Among m.sec further
  left m w out =
      ⊎_elim (λ (j : Among m.sec here_first). absurd (out (into_list m.sec j))) (λ (j : Among m.sec further). j) (among_split (fit x.all entry) x.all ((exact m).1 w).1)

  full : (z : ℤ) → Among z further → length entry < length x.all
  full z j = let h = left_some (fit x.all entry) x.all j in omega arith

  -- one that was left over, as a moment
  over : length entry < length x.all → (m : Time) × (Wanted t tag from to m × (Among m.sec (take (fit x.all entry) (list_filled x.all entry)) → ⊥))
  over h =
      let (z, j) = some_left (fit x.all entry) x.all (omega arith) in
      let m : Time = record { sec = z; ticks = x.ticks } in
      (m, ((exact m).0 (refl, among_drop (fit x.all entry) x.all j), λ i. not_self z (apart Sooner (fit x.all entry) x.all up (in_list z i) j)))

  lists : Lists t tag from to entry (list_filled x.all entry) (listed entry x)
  unfolding listed
  lists =
      record {
        all = x.all;
        exactly = exact;
        ascending = up;
        number = refl;
        first = filled_first x.all entry;
        earliest = λ m w out.
            let j = left m w out in
            let h = full m.sec j in
            (omega arith, λ z i. apart Sooner (fit x.all entry) x.all up (in_list z i) j);
        more = (λ e. over (ltb-true (length entry) (length x.all) e), λ (m, (w, out)). lt-ltb (length entry) (length x.all) (full m.sec (left m w out)));
        stay = filled_rest x.all entry;
      }

-- ---- both kinds
module _ (t : Table) (g : reckons t ≡ true) where
  exactly_by : (tag : Shortened) (from to : Time) (x : Named ℤ) → list_by t tag from to ≡ done x → (m : Time) → IsListed x m ↔ Wanted t tag from to m
  exactly_by (counter s p e) from to x h m =
      let (c, says) = C.lists_tag s p e from to x h in
      let (to_named, to-listed) = C.lists_exactly s p e c says from to x h m in
      let (to-names, to-counted) = counted_names t s p e c says m in (
        λ i. let (v, n, j) = to_named i in record { named = (v, to-counted n); inside = j },
        λ w. let (v, n) = w.named in to-listed (v, to-names n, w.inside),
      )
  exactly_by (letters s) from to x h m =
      let (to_named, to-listed) = A.lists_exactly t s from to x h g m in
      (λ i. let (n, j) = to_named i in record { named = n; inside = j }, λ w. to-listed (w.named, w.inside))

  ascending_by : (tag : Shortened) (from to : Time) (x : Named ℤ) → list_by t tag from to ≡ done x → Ascending Sooner x.all
  ascending_by (counter s p e) from to x h = let (c, says) = C.lists_tag s p e from to x h in C.lists_ascending s p e c says from to x h
  ascending_by (letters s) from to x h = A.lists_ascending t s from to x h

  lists_of : (tag : Shortened) (from to : Time) (entry : List ℤ) (answer : Listed) (x : Named ℤ) → list_by t tag from to ≡ done x → listed entry x ≡ answer → Lists t tag from to entry (leaves (list_by t tag from to) entry) answer
  lists_of tag from to entry answer x e i =
      rw (e, ← i) (lists t tag from to x (exactly_by tag from to x e) (ascending_by tag from to x e) entry)

  pub lists_by : (tag : Shortened) (from to : Time) (entry : List ℤ) (answer : Listed) → given (listed entry) (list_by t tag from to) ≡ done answer → Lists t tag from to entry (leaves (list_by t tag from to) entry) answer
  lists_by tag from to entry answer h =
      let (x, (e, i)) = given_done (listed entry) (list_by t tag from to) answer h in lists_of tag from to entry answer x e i
