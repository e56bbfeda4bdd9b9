-- The T-fields of a run: each is read from its own octets, so that a run can be cut.
use mathlib.Core.Path.{◌≡◌, refl, ap, ◌∙◌}
use mathlib.Core.List.{List, [], ◌∷◌, ◌++◌}
use Prim.Native.Nat.{ℕ, zero, suc, ◌+◌, ◌*◌, ◌-◌, ◌<◌, ◌≤◌}
use native.Mathlib.Nat.{zero-mul, suc-mul, zero-add, suc-add, add-zero, div-add-mod', mod-lt}
use native.Mathlib.Omega.{arith}
use lib.ListN.{length, get_or, drop, length-append, length-drop}
use lib.Seq.{take-append-le, drop-drop, drop-append-add, get_or_at}
use Rattle.base.specs.Outcome.{Outcome, refused}
use Rattle.scale.specs.Time.{Time}
use Rattle.leap.specs.Table.{Table}
use Rattle.pfield.specs.declared.Layout.{Layout}
use Rattle.codes.specs.Reading.{field_of, width_of}
use Rattle.codes.proofs.Fields.{field_moved}
use Rattle.receiver.specs.Fields.{fields_in, whole_in, answers_in, left_in}
use Rattle.receiver.specs.Inner.{padded}
use Rattle.receiver.proofs.Pads.{length_padded, padded_front}

module _ (t : Table) (l : Layout) where
  -- ---- one T-field
  -- what follows it does not count
  pub field_first : (s u : List ℕ) → width_of l ≤ length s → field_of t (s ++ u) 0 l ≡ field_of t s 0 l
  field_first s u h =
      field_moved t (s ++ u) s 0 0 l (record { here = omega (arith, length-append s u); there = omega arith; alike = take-append-le (width_of l) s u h })

  -- nor does what stands before it
  pub field_at : (s : List ℕ) (at : ℕ) → at + width_of l ≤ length s → field_of t s at l ≡ field_of t (drop at s) 0 l
  field_at s at h = field_moved t s (drop at s) at 0 l (record { here = h; there = omega (arith, length-drop at s); alike = refl })

  -- nor do zeros in the place of what follows
  pub field_padded : (n : ℕ) (s : List ℕ) → width_of l ≤ n → width_of l ≤ length s → field_of t (padded n s) 0 l ≡ field_of t s 0 l
  field_padded n s h k =
      field_moved t (padded n s) s 0 0 l (record { here = omega (arith, length_padded n s); there = omega arith; alike = padded_front n s (width_of l) h k })

  -- ---- T-fields one after another
  pub length_fields : (n : ℕ) (s : List ℕ) → length (fields_in t l n s) ≡ n
  unfolding fields_in
  length_fields zero s = refl
  length_fields (suc n) s = ap suc (length_fields n (drop (width_of l) s))

  pub length_answers : (s : List ℕ) → length (answers_in t l s) ≡ whole_in l s
  unfolding answers_in
  length_answers s = length_fields (whole_in l s) s

  -- m of them, and then n more
  pub fields_split : (m n : ℕ) (s : List ℕ) → fields_in t l (m + n) s ≡ fields_in t l m s ++ fields_in t l n (drop (m * width_of l) s)
  unfolding fields_in
  fields_split zero n s = rw (zero-add n, zero-mul)
  fields_split (suc m) n s =
      let e : width_of l + m * width_of l ≡ suc m * width_of l = omega (arith, suc-mul m (width_of l)) in
      rw (suc-add, fields_split m n (drop (width_of l) s), drop-drop (m * width_of l) (width_of l) s, e)

  -- each of them, by its number
  pub field_number : (n : ℕ) (s : List ℕ) (i : ℕ) → i < n → get_or (fields_in t l n s) i (refused 0) ≡ field_of t (drop (i * width_of l) s) 0 l
  unfolding fields_in
  field_number n s i h =
      let k : n ≡ i + suc (n - suc i) = omega arith in
      ap (λ (m : ℕ). get_or (fields_in t l m s) i (refused 0)) k
      ∙ ap (λ (x : List (Outcome Time)). get_or x i (refused 0)) (fields_split i (suc (n - suc i)) s)
      ∙ get_or_at (fields_in t l i s) _ _ (refused 0) i (length_fields i s)

  -- one more
  pub fields_more : (n : ℕ) (s : List ℕ) → fields_in t l (n + 1) s ≡ fields_in t l n s ++ field_of t (drop (n * width_of l) s) 0 l ∷ []
  unfolding fields_in
  fields_more n s = fields_split n 1 s

-- ---- a piece behind octets that are held, which lack so many of a T-field: together they hold n T-fields whole
module _ (t : Table) (l : Layout) (held piece : List ℕ) (lacking : ℕ) (e : length held + lacking ≡ width_of l) (some : 0 < width_of l) (n : ℕ) (many : n ≡ whole_in l (held ++ piece)) where
  bounds : (n * width_of l ≤ length held + length piece) × (length held + length piece < n * width_of l + width_of l)
  bounds =
      let d = div-add-mod' (length (held ++ piece)) (width_of l) in
      let m = mod-lt (length (held ++ piece)) some in
      rw many (omega (arith, d, length-append held piece), omega (arith, d, m, length-append held piece))

  -- none: all is left
  pub none_short : n ≡ 0 → length held + length piece < width_of l
  none_short z = let b : length held + length piece < 0 * width_of l + width_of l = rw z at bounds.1 in omega (arith, zero-mul (width_of l))

  pub none_answered : n ≡ 0 → (answers_in t l (held ++ piece) ≡ []) × (left_in l (held ++ piece) ≡ held ++ piece)
  unfolding answers_in left_in fields_in
  none_answered z = rw (← many, z, zero-mul) (refl, refl)

  -- some: the first is completed by the piece, and the others stand in it
  module _ (h : 0 < n) where
    counts : n * width_of l ≡ width_of l + (n - 1) * width_of l
    counts = let k : n ≡ suc (n - 1) = omega arith in ap (λ (x : ℕ). x * width_of l) k ∙ omega (arith, suc-mul (n - 1) (width_of l))

    pub first_whole : width_of l ≤ length (held ++ piece)
    first_whole = omega (arith, bounds, counts, length-append held piece)

    -- less than a T-field follows them
    pub ends_within : (lacking + (n - 1) * width_of l ≤ length piece) × (length piece < lacking + (n - 1) * width_of l + width_of l)
    ends_within = (omega (arith, bounds, counts), omega (arith, bounds, counts))

    behind : (k : ℕ) → drop (width_of l + k) (held ++ piece) ≡ drop (lacking + k) piece
    behind k =
        let i : width_of l + k ≡ length held + (lacking + k) = omega arith in
        ap (λ (x : ℕ). drop x (held ++ piece)) i ∙ drop-append-add held piece (lacking + k)

    pub some_answered : answers_in t l (held ++ piece) ≡ field_of t (held ++ piece) 0 l ∷ fields_in t l (n - 1) (drop lacking piece)
    unfolding answers_in fields_in
    some_answered =
        let b : drop (width_of l) (held ++ piece) ≡ drop lacking piece = simp add-zero at (behind 0) in
        let k : whole_in l (held ++ piece) ≡ suc (n - 1) = omega arith in
        rw (k, b)

    pub some_left : left_in l (held ++ piece) ≡ drop (lacking + (n - 1) * width_of l) piece
    unfolding left_in
    some_left = rw (← many, counts) (behind ((n - 1) * width_of l))
