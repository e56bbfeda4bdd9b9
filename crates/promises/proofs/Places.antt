-- A refusal carries an offset exactly when its number is 4, and it is that of the first bad field; what is not refused has no bad field (document 02, request 3). By any table.
use mathlib.Core.Path.{◌≡◌, refl, sym, ap, ap₂, ◌∙◌}
use mathlib.Core.Bool.{Bool, true, false, cond, ◌&&◌}
use mathlib.Core.Logic.{⊎_elim}
use mathlib.Core.List.{List, [], ◌∷◌}
use Prim.Native.Nat.{ℕ, ◌+◌, ◌^◌}
use native.Mathlib.Omega.{arith}
use borrow.Author.Tests.{eqb-true}
use lib.Dec.{eqb, leb, ltb}
use lib.IntN.{ℤ}
use lib.ListN.{length, get_or}
use Rattle.base.specs.Outcome.{Outcome, done, refused, status, need, given}
use Rattle.base.proofs.Bools.{and_true, and_one, and_false}
use Rattle.base.proofs.Ladders.{never, refused_is, need_done, then_done, then_refused, given_done}
use Rattle.scale.specs.Time.{Time}
use Rattle.leap.specs.Table.{Table}
use Rattle.window.specs.Window.{Named}
use Rattle.shape.specs.Shapes.{shaped, along}
use Rattle.field.specs.Fields.{first_bad, shifted, or_then, carried}
use Rattle.field.proofs.Laws.{is_nowhere, nowhere_is, somewhere_is, first_append, none_field, none_then, date_none, ordinal_none, clock_none}
use Rattle.cuc.specs.Cuc as U
use Rattle.ascii.specs.Shapes.{code_shapes}
use Rattle.ascii.specs.Ascii.{number_at}
use Rattle.pfield.specs.PField.{headed, headed_of, ident, allows, laid, laid_as, octet}
use Rattle.pfield.specs.declared.Head.{Head}
use Rattle.pfield.specs.declared.Codes.{Codes}
use Rattle.pfield.specs.declared.PField.{PField}
use Rattle.pfield.specs.declared.Preamble.{Preamble}
use Rattle.pfield.specs.declared.Preamble.TheVariants.{Front, Given}
use Rattle.pfield.specs.declared.Layout.{Layout}
use Rattle.pfield.specs.declared.Layout.TheVariants.{Cuc, Cds, Ccs}
use Rattle.pfield.proofs.Layouts.{is_layout_of, laid_good}
use Rattle.codes.specs.Reading.{Scanned, field_of, width_of, scan_in, scan_of}
use Rattle.codes.specs.Writing.{from}
use Rattle.codes.specs.Text.{text_of}
use Rattle.place.specs.Binary.{fields_at, place_in, headed_place, binary_place, end_field, cuc_tag_place}
use Rattle.place.specs.Text.{date_of, clock_of, code_fields, text_place, tag_place}
use Rattle.tag.specs.Forms.{tag_shapes}
use Rattle.tag.specs.Tags.{formed}
use Rattle.tag.specs.Fields.{fields_of}
use Rattle.tag.proofs.Permitted.{shaped_formed, unshaped_4}
use Rattle.tag.proofs.Kept.{fields_none}
use Rattle.listing.specs.CucTag as L
use Rattle.listing.specs.CucTag.{Periodic, tag_with, tag_in, periodic_of, list_periodic}
use Rattle.listing.specs.AsciiTag.{list_ascii}
use Rattle.promises.specs.Promises as P
use Rattle.promises.specs.Rungs.{Rung, rung, Broken, here, past, Exactly}
use Rattle.promises.specs.Octet.{unextended}
use Rattle.promises.specs.RungsBinary as B
use Rattle.promises.specs.RungsAscii as A
use Rattle.promises.specs.RungsTags.{is_tag}
use Rattle.promises.specs.Places.{Reads, binary, text, cuc_tag, tag, Begins, Carries}
use Rattle.promises.proofs.Rungs.{climb, by_rungs, broken_judged, given_climb}
use Rattle.promises.proofs.RungsFields.{field_rungs_lem}
use Rattle.promises.proofs.RungsCalls.{read_ascii_lem, list_ascii_lem}
use Rattle.promises.proofs.RungsBinary.{laid_climbs}
use Rattle.promises.proofs.RungsTags.{cuc_laid_lem, window_rungs, periodic_rungs}
use Rattle.promises.proofs.Judged.{fields_judged}
use Rattle.std.specs.Prelude.{Option, Some, None}

-- ---- rungs of other numbers than 4 are passed
other : {n : ℕ} {r : Rung} {rs : List Rung} → (r.number ≡ n → ⊥) → Broken n (r ∷ rs) → (r.holds ≡ true) × Broken n rs
other f (here e b) = absurd (f e)
other f (past h b) = (h, b)

own : {n : ℕ} {r : Rung} {rs : List Rung} → (Broken n rs → ⊥) → Broken n (r ∷ rs) → r.holds ≡ false
own f (here e b) = b
own f (past h b) = absurd (f b)

nothing : {n : ℕ} → Broken n [] → ⊥
nothing {n} b = never n tt (sym (broken_judged n b))

-- ---- refusals that are not 4
abbrev Not4 : {A : Type 0} → Outcome A → Type 0
Not4 x = x ≡ refused 4 → ⊥

not_done : {A : Type 0} (a : A) → Not4 (done a)
not_done a e = never 4 a (sym e)

not_need : {A : Type 0} (b : Bool) (n : ℕ) (x : Outcome A) → (n ≡ 4 → ⊥) → Not4 x → Not4 (need b n x)
not_need true n x f g e = g e
not_need false n x f g e = f (refused_is n 4 e)

not_given : {A C : Type 0} (f : A → C) (x : Outcome A) → Not4 x → Not4 (given f x)
not_given f (done a) g e = never 4 (f a) (sym e)
not_given f (refused n) g e = g (ap refused (refused_is n 4 e))

climb_not : {A : Type 0} (rs : List Rung) (a : A) → (Broken 4 rs → ⊥) → Not4 (climb rs a)
climb_not rs a f e = f (((by_rungs (climb rs a) rs (given_climb (λ _. tt) rs a)).refuses 4).0 e)

laid_not : (c : Codes) (p : PField) (e : ℤ) → Not4 (laid c p e)
unfolding laid
laid_not Codes.All p e k =
    climb_not (B.octet_rungs p.octet e) (B.layout_of p.octet e) (λ b. nothing (other (λ z. omega (arith, z)) (other (λ z. omega (arith, z)) (other (λ z. omega (arith, z)) b).1).1).1) (sym (laid_climbs p e) ∙ k)
laid_not Codes.Cuc p e k = go (allows Codes.Cuc (ident p.octet)) refl k
  where
    go : (b : Bool) → allows Codes.Cuc (ident p.octet) ≡ b → Not4 (need b 2 (need (ltb p.octet 128) 3 (laid_as p.octet e)))
    go true h j =
        climb_not (rung 3 (unextended p.octet) ∷ rung 7 (B.cuc_epoch_good p.octet e) ∷ []) (Cuc (B.cuc_of p.octet e)) (λ b. nothing (other (λ z. omega (arith, z)) (other (λ z. omega (arith, z)) b).1).1) (sym (cuc_laid_lem p.octet e h) ∙ j)
    go false h j = absurd (let z : 2 ≡ 4 = refused_is 2 4 j in omega arith)

headed_not : (c : Codes) (s : List ℕ) (p : Preamble) (e : ℤ) → Not4 (headed_of c s p e)
unfolding headed_of
headed_not c s (Given p) e = not_given (headed 0) (laid c p e) (laid_not c p e)
headed_not c s Front e =
    not_need (leb 1 (length s)) 1 (given (headed 1) (laid c (octet (get_or s 0 0)) e)) (λ z. omega (arith, z)) (not_given (headed 1) (laid c (octet (get_or s 0 0)) e) (laid_not c (octet (get_or s 0 0)) e))

headed_good : (c : Codes) (s : List ℕ) (p : Preamble) (e : ℤ) (h : Head) → headed_of c s p e ≡ done h → is_layout_of h.layout ≡ true
unfolding headed_of
headed_good c s (Given p) e h k = let (l, (a, b)) = given_done (headed 0) (laid c p e) h k in ap (λ (x : Head). is_layout_of x.layout) (sym b) ∙ laid_good c p e l a
headed_good c s Front e h k =
    let (_, j) = need_done (leb 1 (length s)) 1 _ h k in
    let (l, (a, b)) = given_done (headed 1) (laid c (octet (get_or s 0 0)) e) h j in
    ap (λ (x : Head). is_layout_of x.layout) (sym b) ∙ laid_good c (octet (get_or s 0 0)) e l a

-- ---- what an outcome carries
is_4 : {A : Type 0} (x : Outcome A) → status x ≡ 4 → x ≡ refused 4
is_4 (done a) e = absurd (omega arith)
is_4 (refused n) e = ap refused e

nowhere_not : {X : Type 0} (n : ℕ) → ◌≡◌ {A = Option ℕ} None (Some n) → X
nowhere_not n e = absurd (let z : ◌≡◌ {A = ℕ} 0 1 = cc in let y : ⊥ = omega arith in y)

-- given that a refusal 4 has a bad field, and what is done none
carries : {A : Type 0} (x : Outcome A) (p : Option ℕ) → (x ≡ refused 4 → is_nowhere p ≡ false) → ((a : A) → x ≡ done a → is_nowhere p ≡ true) → Carries x p
carries {A} x p f g = record { exactly = (only (eqb (status x) 4) refl, there); its = its; none = λ a e. nowhere_is p (g a e) }
  where
    only : (b : Bool) → eqb (status x) 4 ≡ b → Begins (cond b p None) → x ≡ refused 4
    only true e s = is_4 x (eqb-true (status x) 4 e)
    only false e (n, k) = nowhere_not n k

    its : x ≡ refused 4 → carried x p ≡ p
    its e = ap (λ (y : Outcome A). carried y p) e

    there : x ≡ refused 4 → Begins (carried x p)
    there e = let (n, k) = somewhere_is p (f e) in (n, its e ∙ k)

-- ---- a T-field
module _ (t : Table) (s : List ℕ) (at : ℕ) (l : Layout) (good : is_layout_of l ≡ true) where
  field_exactly : Exactly (field_of t s at l) (B.field_rungs t s at l)
  field_exactly = by_rungs (field_of t s at l) (B.field_rungs t s at l) (field_rungs_lem t s at l good)

  field_bad : field_of t s at l ≡ refused 4 → is_nowhere (first_bad (fields_at s at l)) ≡ false
  field_bad e =
      let (h, b) = other (λ z. omega (arith, z)) ((field_exactly.refuses 4).0 e) in
      fields_judged s at l good h
      ∙ own (λ c. nothing (other (λ z. omega (arith, z)) (other (λ z. omega (arith, z)) c).1).1) b

  field_good_lem : (m : Time) → field_of t s at l ≡ done m → is_nowhere (first_bad (fields_at s at l)) ≡ true
  field_good_lem m e =
      let a = field_exactly.passes.0 (m, e) in
      let (h, b) = and_true (leb (at + B.octets_of l) (length s)) _ a in
      let (g, _) = and_true (B.field_good s at l) _ b in
      fields_judged s at l good h ∙ g

shifted_none : (n : ℕ) (p : Option ℕ) → is_nowhere (shifted n p) ≡ is_nowhere p
shifted_none n (Some i) = refl
shifted_none n None = refl

given_4 : {A C : Type 0} (f : A → C) (x : Outcome A) → given f x ≡ refused 4 → x ≡ refused 4
given_4 f (done a) e = never 4 (f a) (sym e)
given_4 f (refused n) e = ap refused (refused_is n 4 e)

-- a binary code
pub binary_carries : (t : Table) (s : List ℕ) (p : Preamble) (e : ℤ) → Carries (scan_of t s p e) (binary_place s p e)
unfolding scan_of binary_place scan_in
binary_carries t s p e = carries (scan_of t s p e) (binary_place s p e) bad read
  where
    bad : scan_of t s p e ≡ refused 4 → is_nowhere (binary_place s p e) ≡ false
    bad k =
        ⊎_elim (λ (z : headed_of Codes.All s p e ≡ refused 4). absurd (headed_not Codes.All s p e z))
        (λ (x : (h : Head) × ((headed_of Codes.All s p e ≡ done h) × (scan_in t s h.start h.layout ≡ refused 4))).
        let (h, (i, j)) = x in
        ap (λ (y : Outcome Head). is_nowhere (headed_place (place_in s) y)) i
        ∙ shifted_none h.start (first_bad (fields_at s h.start h.layout))
        ∙ field_bad t s h.start h.layout (headed_good Codes.All s p e h i) (given_4 _ _ j))
        (then_refused (headed_of Codes.All s p e) (λ h. scan_in t s h.start h.layout) 4 k)

    read : (a : Scanned) → scan_of t s p e ≡ done a → is_nowhere (binary_place s p e) ≡ true
    read a k =
        let (h, (i, j)) = then_done (headed_of Codes.All s p e) (λ h. scan_in t s h.start h.layout) a k in
        let (m, (f, _)) = given_done _ (field_of t s h.start h.layout) a j in
        ap (λ (y : Outcome Head). is_nowhere (headed_place (place_in s) y)) i
        ∙ shifted_none h.start (first_bad (fields_at s h.start h.layout))
        ∙ field_good_lem t s h.start h.layout (headed_good Codes.All s p e h i) m f

-- ---- an ASCII code
text_judged : (s : List ℕ) → is_nowhere (text_place s) ≡ shaped code_shapes s && (A.date_good (A.is_b s) s && A.clock_good s (A.clock_in s))
unfolding text_place
text_judged s = go (shaped code_shapes s)
  where
    dates : (o : Bool) → is_nowhere (first_bad (date_of o s)) ≡ A.date_good o s
    dates true = ordinal_none 0 5 (number_at s 0 4) (number_at s 5 3)
    dates false = date_none 0 5 8 (number_at s 0 4) (number_at s 5 2) (number_at s 8 2)

    both : is_nowhere (first_bad (code_fields s)) ≡ A.date_good (A.is_b s) s && A.clock_good s (A.clock_in s)
    both =
        ap is_nowhere (first_append (date_of (A.is_b s) s) (clock_of s (A.clock_in s)))
        ∙ none_then (first_bad (date_of (A.is_b s) s)) (first_bad (clock_of s (A.clock_in s)))
        ∙ ap₂ ◌&&◌ (dates (A.is_b s)) (clock_none (A.clock_in s) (A.clock_in s + 3) (A.clock_in s + 6) (number_at s (A.clock_in s) 2) (number_at s (A.clock_in s + 3) 2) (number_at s (A.clock_in s + 6) 2))

    go : (b : Bool) → is_nowhere (cond b (first_bad (code_fields s)) (Some (along code_shapes s))) ≡ b && (A.date_good (A.is_b s) s && A.clock_good s (A.clock_in s))
    go true = both
    go false = refl

pub text_carries : (t : Table) (s : List ℕ) → Carries (text_of t s) (text_place s)
text_carries t s =
    carries (text_of t s) (text_place s)
    (λ e.
    let (_, b) = other (λ z. omega (arith, z)) (((read_ascii_lem t s).refuses 4).0 e) in
    text_judged s ∙ own (λ c. nothing (other (λ z. omega (arith, z)) (other (λ z. omega (arith, z)) c).1).1) b)
    (λ a e.
    let (_, b) = and_true (leb 1 (length s)) _ ((read_ascii_lem t s).passes.0 (a, e)) in
    let (g, _) = and_true _ _ b in
    text_judged s ∙ g)

-- ---- a shortened ASCII tag
tag_judged : (s : List ℕ) → is_nowhere (tag_place s) ≡ is_tag (formed s)
unfolding tag_place
tag_judged s = go (shaped tag_shapes s) refl
  where
    go : (b : Bool) → shaped tag_shapes s ≡ b → is_nowhere (cond b (first_bad (fields_of s)) (Some (along tag_shapes s))) ≡ is_tag (formed s)
    go true e = let (w, f) = shaped_formed s e in fields_none s w f ∙ sym (ap is_tag f)
    go false e = sym (ap is_tag (unshaped_4 s e))

pub tag_carries : (t : Table) (s : List ℕ) (since before : Time) → Carries (list_ascii t s since before) (tag_place s)
tag_carries t s since before =
    carries (list_ascii t s since before) (tag_place s)
    (λ e.
    let (_, b) = other (λ z. omega (arith, z)) (((list_ascii_lem t s since before).refuses 4).0 e) in
    tag_judged s ∙ own later b)
    (λ a e.
    let (_, b) = and_true (leb 1 (length s)) _ ((list_ascii_lem t s since before).passes.0 (a, e)) in
    let (g, _) = and_true (is_tag (formed s)) _ b in
    tag_judged s ∙ g)
  where
    later : {a b c d : Bool} → Broken 4 (rung 7 a ∷ rung 7 b ∷ rung 9 c ∷ rung 5 d ∷ []) → ⊥
    later x = nothing (other (λ z. omega (arith, z)) (other (λ z. omega (arith, z)) (other (λ z. omega (arith, z)) (other (λ z. omega (arith, z)) x).1).1).1).1

-- ---- a CUC tag: its T-field is all of it
end_none : (s : List ℕ) (at : ℕ) (l : Layout) → is_nowhere (first_bad (end_field s at l)) ≡ leb (length s) (at + width_of l)
end_none s at l = none_field (at + width_of l) (leb (length s) (at + width_of l)) [] ∙ sym (and_one (leb (length s) (at + width_of l)))

-- what is judged of a tag whose layout is known
abbrev tag_kept : List ℕ → ℕ → Layout → Bool
tag_kept s at l = is_nowhere (first_bad (fields_at s at l)) && leb (length s) (at + width_of l)

cuc_judged : (s : List ℕ) (p : Preamble) (e : ℤ) (h : Head) → headed_of Codes.Cuc s p e ≡ done h → is_nowhere (cuc_tag_place s p e) ≡ tag_kept s h.start h.layout
unfolding cuc_tag_place
cuc_judged s p e h i =
    let at = h.start in
    let l = h.layout in
    ap (λ (y : Outcome Head). is_nowhere (headed_place (λ at l. or_then (place_in s at l) (first_bad (end_field s at l))) y)) i
    ∙ none_then (place_in s at l) (first_bad (end_field s at l))
    ∙ ap₂ ◌&&◌ (shifted_none at (first_bad (fields_at s at l))) (end_none s at l)

with_bad : (t : Table) (s : List ℕ) (at : ℕ) (l : Layout) → is_layout_of l ≡ true → tag_in s at l ≡ refused 4 → tag_kept s at l ≡ false
unfolding tag_in tag_with
with_bad t s at (Cds l) g k = absurd (let z : 2 ≡ 4 = refused_is 2 4 k in omega arith)
with_bad t s at (Ccs l) g k = absurd (let z : 2 ≡ 4 = refused_is 2 4 k in omega arith)
with_bad t s at (Cuc l) g k =
    ⊎_elim (λ (z : U.field s at l ≡ refused 4). ap (λ (b : Bool). b && leb (length s) (at + U.width l)) (field_bad t s at (Cuc l) g z))
    (λ (x : (m : Time) × ((U.field s at l ≡ done m) × (need (leb (length s) (at + U.width l)) 4 (done (tag_of m)) ≡ refused 4))).
    let (m, (i, j)) = x in
    and_false (is_nowhere (first_bad (fields_at s at (Cuc l)))) _ (last (leb (length s) (at + U.width l)) (tag_of m) j))
    (then_refused (U.field s at l) (λ m. need (leb (length s) (at + U.width l)) 4 (done (tag_of m))) 4 k)
  where
    tag_of : Time → Periodic
    tag_of m = record { first = m; period = 256 ^ l.coarse }

    last : (b : Bool) (x : Periodic) → need b 4 (done x) ≡ refused 4 → b ≡ false
    last true x e = never 4 x (sym e)
    last false x e = refl

with_good : (t : Table) (s : List ℕ) (at : ℕ) (l : Layout) → is_layout_of l ≡ true → (g : Periodic) → tag_in s at l ≡ done g → tag_kept s at l ≡ true
unfolding tag_in tag_with
with_good t s at (Cds l) h g k = never 2 g k
with_good t s at (Ccs l) h g k = never 2 g k
with_good t s at (Cuc l) h g k =
    let (m, (i, j)) = then_done (U.field s at l) _ g k in
    let (b, _) = need_done (leb (length s) (at + U.width l)) 4 _ g j in
    ap (λ (x : Bool). x && leb (length s) (at + U.width l)) (field_good_lem t s at (Cuc l) h m i) ∙ b

pub cuc_tag_carries : (t : Table) (s : List ℕ) (p : Preamble) (e : ℤ) (since before : Time) → Carries (L.list_cuc s p e since before) (cuc_tag_place s p e)
unfolding L.list_cuc periodic_of
cuc_tag_carries t s p e since before = carries (L.list_cuc s p e since before) (cuc_tag_place s p e) bad listed
  where
    window : (g : Periodic) → Not4 (list_periodic since before g)
    window g k = nothing (other (λ z. omega (arith, z)) (other (λ z. omega (arith, z)) (other (λ z. omega (arith, z)) (((by_rungs (list_periodic since before g) (window_rungs since before) (periodic_rungs since before g)).refuses 4).0 k)).1).1).1

    tagged : periodic_of s p e ≡ refused 4 → is_nowhere (cuc_tag_place s p e) ≡ false
    tagged k =
        ⊎_elim (λ (z : headed_of Codes.Cuc s p e ≡ refused 4). absurd (headed_not Codes.Cuc s p e z))
        (λ (x : (h : Head) × ((headed_of Codes.Cuc s p e ≡ done h) × (tag_in s h.start h.layout ≡ refused 4))).
        let (h, (i, j)) = x in
        cuc_judged s p e h i ∙ with_bad t s h.start h.layout (headed_good Codes.Cuc s p e h i) j)
        (then_refused (headed_of Codes.Cuc s p e) (λ h. tag_in s h.start h.layout) 4 k)

    bad : L.list_cuc s p e since before ≡ refused 4 → is_nowhere (cuc_tag_place s p e) ≡ false
    bad k =
        ⊎_elim tagged (λ (x : (g : Periodic) × ((periodic_of s p e ≡ done g) × (list_periodic since before g ≡ refused 4))). absurd (window x.0 x.1.1))
        (then_refused (periodic_of s p e) (list_periodic since before) 4 k)

    listed : (a : Named ℤ) → L.list_cuc s p e since before ≡ done a → is_nowhere (cuc_tag_place s p e) ≡ true
    listed a k =
        let (g, (i, _)) = then_done (periodic_of s p e) (list_periodic since before) a k in
        let (h, (j, m)) = then_done (headed_of Codes.Cuc s p e) (λ h. tag_in s h.start h.layout) g i in
        cuc_judged s p e h j ∙ with_good t s h.start h.layout (headed_good Codes.Cuc s p e h j) g m

-- ==== all calls that read: a refusal carries an offset exactly when its number is 4, and it is that of the first bad field
pub calls_carry : (t : Table) (c : P.Call) (p : Option ℕ) → Reads c p → Carries (P.outcome_of t c) p
calls_carry t c p (binary s front o e) = binary_carries t s (from front (octet o)) e
calls_carry t c p (text s) = text_carries t s
calls_carry t c p (cuc_tag s front o e since before) = cuc_tag_carries t s (from front (octet o)) e since before
calls_carry t c p (tag s since before) = tag_carries t s since before
