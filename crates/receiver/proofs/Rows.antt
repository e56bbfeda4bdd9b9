-- Answers in their rows: one read, and one after another.
use mathlib.Core.Path.{◌≡◌, refl, ap, ◌∙◌}
use mathlib.Core.List.{List, [], ◌∷◌, ◌++◌, map, append_assoc, append-nil}
use Prim.Native.Nat.{ℕ, suc, ◌+◌, ◌^◌, ◌<◌}
use native.Mathlib.Nat.{lt_of_lt_of_le}
use native.Mathlib.Numerals.{add-one, one-add}
use native.Mathlib.Omega.{arith}
use lib.Dec.{lit≤}
use lib.IntN.{ℤ}
use lib.ListN.{length, take, drop, set, length-append, length-take, drop_of_length-le}
use lib.Seq.{drop-cons, drop-drop, set_at}
use borrow.Rule.Slice.PartMut.{put_mid}
use Rattle.base.specs.Outcome.{Outcome, done}
use Rattle.scale.specs.Time.{Time}
use Rattle.scale.proofs.Laws.{record_ticks}
use Rattle.leap.specs.Builtin.{builtin}
use Rattle.utc.proofs.Builtin.{builtin_reckons}
use Rattle.pfield.specs.declared.Layout.{Layout}
use Rattle.codes.specs.Reading.{field_of}
use Rattle.codes.proofs.Fields.{field_back}
use Rattle.receiver.specs.Answers.{row_of, rows_over}

-- the ticks of what a T-field reads to are a signed number too
pub ticks_low : (s : List ℕ) (at : ℕ) (l : Layout) (m : Time) → field_of builtin s at l ≡ done m → m.ticks < 2 ^ 63
ticks_low s at l m h = lt_of_lt_of_le (record_ticks m (field_back builtin builtin_reckons s at l m h).0) (lit≤ tt)

length_rows_lem : (xs : List (Outcome Time)) → length (map row_of xs) ≡ length xs
length_rows_lem [] = refl
length_rows_lem (x ∷ xs) = ap suc (length_rows_lem xs)

map_append : (xs ys : List (Outcome Time)) → map row_of (xs ++ ys) ≡ map row_of xs ++ map row_of ys
map_append [] ys = refl
map_append (x ∷ xs) ys = ap (λ (l : List (List ℤ)). row_of x ∷ l) (map_append xs ys)

-- one answer more
pub row_more : (xs : List (Outcome Time)) (x : Outcome Time) (old : List (List ℤ)) → length xs < length old → set (rows_over xs old) (length xs) (row_of x) ≡ rows_over (xs ++ x ∷ []) old
row_more xs x old h =
    let n : length (xs ++ x ∷ []) ≡ length xs + 1 = length-append xs (x ∷ []) in
    ap (λ (l : List (List ℤ)). set (map row_of xs ++ l) (length xs) (row_of x)) (drop-cons old (length xs) [] h)
    ∙ set_at (map row_of xs) _ _ (row_of x) (length xs) (length_rows_lem xs)
    ∙ rw (n, map_append xs (x ∷ []), append_assoc (map row_of xs) (row_of x ∷ []) (drop (length xs + 1) old), add-one (length xs))

-- the front rows, filled where they are lent
pub rows_front : (xs : List (Outcome Time)) (n : ℕ) (old : List (List ℤ)) → length xs ≡ n → rows_over xs (take n old) ++ drop n old ≡ rows_over xs old
rows_front xs n old h =
    let d : drop (length xs) (take n old) ≡ [] = drop_of_length-le (take n old) {i = length xs} (omega (arith, length-take n old)) in
    rw (d, append-nil, h)

-- the first, and those behind it
pub row_first : (x : Outcome Time) (xs : List (Outcome Time)) (old : List (List ℤ)) → row_of x ∷ rows_over xs (drop 1 old) ≡ rows_over (x ∷ xs) old
row_first x xs old = ap (λ (y : List (List ℤ)). row_of x ∷ map row_of xs ++ y) (drop-drop (length xs) 1 old ∙ ap (λ (k : ℕ). drop k old) (one-add (length xs)))

-- a first row that is set, and those behind it filled where they are lent
pub others : (row : List ℤ) (old new : List (List ℤ)) (xs : List (Outcome Time)) (n : ℕ) → 0 < length old → new ≡ rows_over xs (take n (drop 1 (set old 0 row))) → length xs ≡ n → put_mid 1 n (set old 0 row) new ≡ row ∷ rows_over xs (drop 1 old)
others row [] new xs n h e k = absurd (omega arith)
others row (y ∷ old) new xs n h e k = ap (λ (x : List (List ℤ)). row ∷ x) (ap (λ (x : List (List ℤ)). x ++ drop n old) e ∙ rows_front xs n old k)
