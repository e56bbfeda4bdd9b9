-- A full code is a tag from which nothing is dropped: its fields, found as a tag's, are those that stand in its fixed places.
use mathlib.Core.Path.{◌≡◌, refl, sym, ap, ap₂, ◌∙◌}
use mathlib.Core.Bool.{Bool, true, false, cond, ◌&&◌}
use mathlib.Core.List.{List, ◌++◌}
use Prim.Native.Nat.{ℕ, zero, suc, ◌+◌, ◌-◌, ◌*◌, ◌<◌, ◌≤◌}
use native.Mathlib.Nat.{add-zero}
use native.Mathlib.Omega.{arith}
use borrow.Author.Tests.{eqb-true, leb-true, ltb-true}
use lib.Dec.{eqb, leb, ltb}
use lib.ListN.{length, get_or, take, drop}
use lib.Seq.{get_or-drop, get_or-take}
use Rattle.base.specs.Outcome.{done}
use Rattle.base.proofs.Bools.{and_true}
use Rattle.octets.specs.Places.{number, digit_value}
use Rattle.shape.specs.Shapes.{shape_of, same, shaped}
use Rattle.shape.specs.Parts.{date_a, date_b, full_clock}
use Rattle.shape.proofs.Tests.{passes, same_is}
use Rattle.shape.proofs.Shapes.{shape_length, shape_take, shape_drop, each_shape}
use Rattle.field.specs.Fields.{first_bad, or_then}
use Rattle.field.proofs.Laws.{first_append}
use Rattle.ascii.specs.Shapes.{code_shapes}
use Rattle.ascii.specs.Ascii.{front_of, layout_of, number_at}
use Rattle.ascii.proofs.Shapes.{layout_shape}
use Rattle.tag.specs.Forms.{Form, form, free, at, days, hours, find}
use Rattle.tag.specs.Tags.{until, calendar_as}
use Rattle.tag.specs.Fields as F
use Rattle.tag.proofs.Scans.{until_shape, find_alike}
use Rattle.tag.proofs.Standing.{date_stands, ordinal_stands, clock_stands, head_form, time_head, joint_form, fields_joint}
use Rattle.place.specs.Text.{date_of, clock_of, code_fields}

-- ---- what each of the 52 shapes says of its parts
abbrev front : Bool → ℕ
front o = cond o 8 10

abbrev date_by : Bool → List ℕ
date_by o = cond o date_b date_a

-- the time behind the T, up to its Z
abbrev timed : ℕ → List ℕ → List ℕ
timed t s = let k = drop (t + 1) s in take (until 90 k) k

abbrev parted : List ℕ → Bool
parted p =
    let t = front (layout_of p).ordinal in
    eqb (until 84 p) t
    && (ltb t (length p)
    && (same (date_by (layout_of p).ordinal) (take t p)
    && (leb 8 (until 90 (drop (t + 1) p)) && (eqb (until 46 (timed t p)) 8 && same full_clock (take 8 (timed t p))))))

all_parted : passes parted code_shapes ≡ true
unfolding code_shapes layout_of
all_parted = refl

pub record Parted (s : List ℕ) (t : ℕ) (date : List ℕ) : Type 0 where
  pub mark : t ≡ until 84 s
  pub within : t < length s
  pub front : shape_of (take t s) ≡ date
  pub zone : 8 ≤ until 90 (drop (t + 1) s)
  pub period : 8 ≡ until 46 (timed t s)
  pub clock : shape_of (take 8 (timed t s)) ≡ full_clock

timed_shape : (t : ℕ) (s : List ℕ) → timed t (shape_of s) ≡ shape_of (timed t s)
timed_shape t s =
    let k = drop (t + 1) s in
    rw (← shape_drop (t + 1) s, until_shape 90 refl k, ← shape_take (until 90 k) k)

code_parted : (s : List ℕ) → shaped code_shapes s ≡ true → Parted s (front (layout_of s).ordinal) (date_by (layout_of s).ordinal)
code_parted s e = go (layout_of s).ordinal (rw (layout_shape s) at (each_shape parted code_shapes s all_parted e))
  where
    go : (o : Bool) → let p = shape_of s in let t = front o in eqb (until 84 p) t && (ltb t (length p) && (same (date_by o) (take t p) && (leb 8 (until 90 (drop (t + 1) p)) && (eqb (until 46 (timed t p)) 8 && same full_clock (take 8 (timed t p)))))) ≡ true → Parted s t (date_by o)
    go o h =
        let p = shape_of s in
        let t = front o in
        let (a, h1) = and_true _ _ h in
        let (b, h2) = and_true _ _ h1 in
        let (c, h3) = and_true _ _ h2 in
        let (d, h4) = and_true _ _ h3 in
        let (f, g) = and_true _ _ h4 in
        record {
          mark = sym (eqb-true _ _ a) ∙ until_shape 84 refl s;
          within = rw (shape_length s) at (ltb-true t (length p) b);
          front = shape_take t s ∙ sym (same_is _ _ c);
          zone = rw (← shape_drop (t + 1) s, until_shape 90 refl (drop (t + 1) s)) at (leb-true 8 (until 90 (drop (t + 1) p)) d);
          period = sym (eqb-true _ _ f) ∙ ap (until 46) (timed_shape t s) ∙ until_shape 46 refl (timed t s);
          clock = shape_take 8 (timed t s) ∙ sym (ap (take 8) (timed_shape t s)) ∙ sym (same_is _ _ g);
        }

-- ---- numbers that stand in a part stand in the whole
alike : (x y : List ℕ) (w : ℕ) → ((i : ℕ) → i < w → get_or x i 0 ≡ get_or y i 0) → number 10 digit_value x w ≡ number 10 digit_value y w
alike x y zero h = refl
alike x y (suc w) h = ap₂ (λ (n d : ℕ). n * 10 + digit_value d) (alike x y w (λ i l. h i (omega arith))) (h w (omega arith))

front_number : (s : List ℕ) (t i w : ℕ) → i + w ≤ t → number_at (take t s) i w ≡ number_at s i w
front_number s t i w h =
    alike (drop i (take t s)) (drop i s) w (λ j l. rw (get_or-drop, get_or-drop) (get_or-take t s (i + j) 0 (omega arith)))

time_number : (s : List ℕ) (t i w : ℕ) → i + w ≤ 8 → 8 ≤ until 90 (drop (t + 1) s) → number_at (take 8 (timed t s)) i w ≡ number_at s (t + 1 + i) w
time_number s t i w h z =
    let k = drop (t + 1) s in
    front_number (timed t s) 8 i w h ∙ front_number k (until 90 k) i w (omega arith)
    ∙ alike (drop i k) (drop (t + 1 + i) s) w (λ j l. rw (get_or-drop, get_or-drop, get_or-drop) (ap (λ (n : ℕ). get_or s n 0) (omega arith)))

-- ---- the forms of a full code
abbrev form_a : Form
form_a = form date_a (at 0) (at 5) (at 8) free

abbrev form_b : Form
form_b = form date_b (at 0) free free (at 5)

abbrev form_c : Form
form_c = form full_clock (at 0) (at 3) (at 6) free

found_day : (o : Bool) (c : List ℕ) → shape_of c ≡ date_by o → find days c ≡ done (cond o form_b form_a)
unfolding days shape_of
found_day true c e = find_alike days c date_b (e ∙ refl)
found_day false c e = find_alike days c date_a (e ∙ refl)

found_clock : (h : List ℕ) → shape_of h ≡ full_clock → find hours h ≡ done form_c
unfolding hours shape_of
found_clock h e = find_alike hours h full_clock (e ∙ refl)

-- ---- the fields
date_there : (o : Bool) (s : List ℕ) → first_bad (F.calendar_fields (take (front o) s) (cond o form_b form_a)) ≡ first_bad (date_of o s)
unfolding calendar_as
date_there true s =
    sym (ordinal_stands (take 8 s) form_b 0 5 (number_at (take 8 s) 5 3) refl refl refl) ∙ rw (front_number s 8 0 4 (omega arith), front_number s 8 5 3 (omega arith))
date_there false s =
    sym (date_stands (take 10 s) form_a 0 5 8 refl refl refl refl)
    ∙ rw (front_number s 10 0 4 (omega arith), front_number s 10 5 2 (omega arith), front_number s 10 8 2 (omega arith))

clock_there : (t : ℕ) (s : List ℕ) → 8 ≤ until 90 (drop (t + 1) s) → first_bad (F.clock_fields (t + 1) (take 8 (timed t s)) form_c) ≡ first_bad (clock_of s (t + 1))
clock_there t s z =
    sym (clock_stands (take 8 (timed t s)) form_c (t + 1) 0 3 6 refl refl refl)
    ∙ rw (time_number s t 0 2 (omega arith) z, time_number s t 3 2 (omega arith) z, time_number s t 6 2 (omega arith) z, add-zero (t + 1))

module _ (s : List ℕ) (o : Bool) (p : Parted s (front o) (date_by o)) where
  abbrev c : List ℕ
  c = take (front o) s

  abbrev k : List ℕ
  k = drop (front o + 1) s

  time_there : first_bad (F.time_fields hours (front o + 1) k) ≡ first_bad (clock_of s (front o + 1))
  time_there =
      ap first_bad (sym (head_form hours (front o + 1) (timed (front o) s) 8 p.period form_c (found_clock (take 8 (timed (front o) s)) p.clock) ∙ time_head hours (front o + 1) k (until 90 k) refl))
      ∙ clock_there (front o) s p.zone

  both_there : first_bad (F.fields_of s) ≡ first_bad (date_of o s ++ clock_of s (front o + 1))
  both_there =
      ap first_bad (sym (fields_joint s (front o) p.mark p.within))
      ∙ sym (joint_form (front o + 1) c k (cond o form_b form_a) (found_day o c p.front))
      ∙ ap₂ or_then (date_there o s) time_there
      ∙ sym (first_append (date_of o s) (clock_of s (front o + 1)))

pub code_fields_lem : (s : List ℕ) → shaped code_shapes s ≡ true → first_bad (F.fields_of s) ≡ first_bad (code_fields s)
code_fields_lem s e = go (layout_of s).ordinal (code_parted s e)
  where
    go : (o : Bool) → Parted s (front o) (date_by o) → first_bad (F.fields_of s) ≡ first_bad (date_of o s ++ clock_of s (front_of o - 8))
    go true p = both_there s true p
    go false p = both_there s false p
