-- The built-in table: what is computed once over the whole table, and carried to each row by one law.
use Prim.Native.Nat.{ℕ, zero, suc, ◌+◌, ◌≤◌, ◌<◌}
use mathlib.Core.Path.{◌≡◌, refl, sym, ap, ◌∙◌}
use mathlib.Core.Bool.{Bool, true, false, ◌&&◌}
use mathlib.Core.List.{List, [], ◌∷◌, ◌++◌, map}
use native.Mathlib.Nat.{le_of_suc-le-suc, not-suc-le-zero}
use native.Mathlib.Numerals.{add-one}
use lib.Dec.{leb, ltb}
use lib.ListN.{length, get_or, drop}
use borrow.Author.Tests.{leb-true, le-leb, lt-leb, lt-ltb, le-ltb}
use Rattle.base.proofs.Bools.{and_true, and_yes, and_no, and_false}
use Rattle.leap.specs.declared.Row.{Row}
use Rattle.leap.specs.Table.{good, offset, start, covers, covers_second}
use Rattle.leap.specs.Builtin.{published, no_leap, row_of, no_row, leaps, builtin, first_index, first_raised, last_index, past_index, past_raised}
use Rattle.leap.specs.Inner.{row_at, end_at, Small}

pub builtin_good : good builtin ≡ true
unfolding builtin
builtin_good = refl

pub later_rows : length builtin.later ≡ 27
unfolding builtin
later_rows = refl

-- the cover's ends, of days and of raised seconds
pub covered_days : (d : ℕ) → covers builtin d ≡ (leb first_index d && leb d last_index)
unfolding covers builtin
covered_days d = refl

pub covered_seconds : (s : ℕ) → covers_second builtin s ≡ (leb first_raised s && ltb s past_raised)
unfolding covers_second start offset builtin
covered_seconds s = refl

pub first_second_lem : start builtin builtin.first.day ≡ first_raised
unfolding start offset builtin
first_second_lem = refl

pub past_second : start builtin (last_index + 1) ≡ past_raised
unfolding start offset builtin
past_second = refl

pub day_in_lem : (d : ℕ) → first_index ≤ d → d ≤ last_index → covers builtin d ≡ true
day_in_lem d l h = covered_days d ∙ and_yes _ (le-leb first_index d l) ∙ le-leb d last_index h

pub day_under : (d : ℕ) → d < first_index → covers builtin d ≡ false
day_under d h = covered_days d ∙ and_no _ (lt-leb first_index d h)

pub day_over : (d : ℕ) → last_index < d → covers builtin d ≡ false
day_over d h = covered_days d ∙ and_false (leb first_index d) (leb d last_index) (lt-leb d last_index h)

pub second_in_lem : (s : ℕ) → first_raised ≤ s → s < past_raised → covers_second builtin s ≡ true
second_in_lem s l h = covered_seconds s ∙ and_yes _ (le-leb first_raised s l) ∙ lt-ltb s past_raised h

pub second_under : (s : ℕ) → s < first_raised → covers_second builtin s ≡ false
second_under s h = covered_seconds s ∙ and_no _ (lt-leb first_raised s h)

pub second_over : (s : ℕ) → past_raised ≤ s → covers_second builtin s ≡ false
second_over s h = covered_seconds s ∙ and_false (leb first_raised s) (ltb s past_raised) (le-ltb s past_raised h)

-- a row of a mapped list is the row mapped
pub at_map : {A : Type 0} (f : A → Row) (xs : List A) (x : A) (i : ℕ) → i < length xs → get_or (map f xs) i no_row ≡ f (get_or xs i x)
at_map f [] x i h = absurd (not-suc-le-zero h)
at_map f (y ∷ xs) x zero h = refl
at_map f (y ∷ xs) x (suc i) h = at_map f xs x i (le_of_suc-le-suc h)

pub row_is : (i : ℕ) → i < 28 → row_at builtin i ≡ row_of (get_or published i no_leap)
unfolding builtin
row_is i h = at_map row_of published no_leap i h

-- a test that passes over a list passes at each place
abbrev pub passes : {A : Type 0} → (A → Bool) → List A → Bool
passes f [] = true
passes f (x ∷ xs) = f x && passes f xs

pub pass_at : {A : Type 0} (f : A → Bool) (xs : List A) (x : A) → passes f xs ≡ true → (i : ℕ) → i < length xs → f (get_or xs i x) ≡ true
pass_at f [] x e i h = absurd (not-suc-le-zero h)
pass_at f (y ∷ xs) x e zero h = (and_true (f y) (passes f xs) e).0
pass_at f (y ∷ xs) x e (suc i) h = pass_at f xs x (and_true (f y) (passes f xs) e).1 i (le_of_suc-le-suc h)

abbrev small : Row → Bool
small r = leb first_index r.day && leb r.day past_index && leb r.offset 101

small_is : (r : Row) → small r ≡ true → Small r
small_is r e =
    let (h, o) = and_true (leb first_index r.day && leb r.day past_index) (leb r.offset 101) e in
    let (l, d) = and_true (leb first_index r.day) (leb r.day past_index) h in
    record { day_low = leb-true _ _ l; day_high = leb-true _ _ d; offset_high = leb-true _ _ o }

pub row_small : (i : ℕ) → i < 28 → Small (row_at builtin i)
unfolding builtin
row_small i h = small_is (row_at builtin i) (pass_at small leaps no_row refl i h)

-- the numbers that are read of a row
pub row_read : (i : ℕ) → i < 28 → ((get_or published i no_leap).day + 714779 ≡ (row_at builtin i).day) × ((get_or published i no_leap).offset + 64 ≡ (row_at builtin i).offset) × Small (row_at builtin i)
row_read i h = (sym (ap (λ (x : Row). x.day) (row_is i h)), sym (ap (λ (x : Row). x.offset) (row_is i h)), row_small i h)

-- the same of a later row, in the list of the later ones
pub later_is : (k : ℕ) → get_or (drop 1 published) k no_leap ≡ get_or published (k + 1) no_leap
later_is k = rw add-one

pub end_small : (i : ℕ) → i < 28 → Small (end_at builtin i)
unfolding builtin
end_small i h = small_is (end_at builtin i) (pass_at small (drop 1 leaps ++ (record { day = past_index; offset = 101 } ∷ [])) no_row refl i h)
