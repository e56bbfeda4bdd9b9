-- Listings are refused by their rungs, by any table.
use mathlib.Core.Path.{◌≡◌, refl, ap, ◌∙◌}
use mathlib.Core.Bool.{Bool, true, false, ◌&&◌, ◌||◌, false≢true}
use mathlib.Core.List.{List, [], ◌∷◌}
use Prim.Native.Nat.{ℕ, ◌+◌, ◌^◌}
use lib.Dec.{leb, eqb}
use lib.IntN.{ℤ}
use lib.ListN.{length, get_or, drop}
use borrow.Author.Tests.{leb-true, eqb-true}
use Rattle.base.specs.Outcome.{Outcome, done, refused, need, and_then}
use Rattle.base.proofs.Bools.{cond_no}
use Rattle.base.proofs.Ladders.{need_yes}
use Rattle.scale.specs.Time.{Time, is_record}
use Rattle.leap.specs.Table.{Table}
use Rattle.octets.specs.Places.{octet_good, all_good}
use Rattle.cuc.specs.Cuc.{is_layout, width, field}
use Rattle.cuc.specs.declared.Layout.{Layout as CucLayout}
use Rattle.cuc.proofs.Layouts.{width_is}
use Rattle.pfield.specs.PField.{ident, allows, cuc_laid, laid_as, laid, octet}
use Rattle.pfield.specs.declared.PField.{PField}
use Rattle.pfield.specs.declared.Codes.TheVariants as Codes
use Rattle.pfield.proofs.Heads.{head_apart, head_front}
use Rattle.pfield.specs.declared.Preamble.{Preamble}
use Rattle.pfield.specs.declared.Preamble.TheVariants.{Front, Given}
use Rattle.pfield.specs.declared.Layout.TheVariants.{Cuc}
use Rattle.pfield.proofs.Layouts.{laid_good}
use Rattle.seek.specs.declared.Wants.{Wants}
use Rattle.tag.specs.Tags.{formed, good_tag, want_of}
use Rattle.tag.proofs.Witness.{tag_4}
use Rattle.listing.specs.AsciiTag.{covered, list_wanted, list_ascii}
use Rattle.listing.specs.CucTag.{Periodic, tag_with, tag_in, periodic_of, list_periodic, list_cuc}
use Rattle.promises.specs.Octet.{unextended}
use Rattle.promises.specs.Rungs.{Rung, rung}
use Rattle.promises.specs.RungsBinary.{cuc_epoch_good, cuc_of, octets_of}
use Rattle.promises.specs.RungsTags.{in_order, list_cuc_rungs, is_tag, in_cover, list_ascii_rungs}
use Rattle.promises.proofs.Rungs.{verdict, judged, climb, climbs_up, under, step, rise, after, need_both, then_then}
use Rattle.promises.proofs.RungsFields.{cuc_named, cuc_climbs}

-- ---- CUC tags
told : (n : ℕ) → allows Codes.Cuc n ≡ true → (eqb n 5 ≡ false) × (eqb n 4 ≡ false)
unfolding allows
told n h = go (eqb n 1) (eqb n 2) refl refl h
  where
    by : (k : ℕ) → n ≡ k → (eqb k 5 ≡ false) × (eqb k 4 ≡ false) → (eqb n 5 ≡ false) × (eqb n 4 ≡ false)
    by k e f = rw e f

    go : (a b : Bool) → eqb n 1 ≡ a → eqb n 2 ≡ b → a || b ≡ true → (eqb n 5 ≡ false) × (eqb n 4 ≡ false)
    go true b p q h = by 1 (eqb-true n 1 p) (refl, refl)
    go false true p q h = by 2 (eqb-true n 2 q) (refl, refl)
    go false false p q h = absurd (false≢true h)

pub cuc_laid_lem : (o : ℕ) (e : ℤ) → allows Codes.Cuc (ident o) ≡ true → need (unextended o) 3 (laid_as o e) ≡ climb (rung 3 (unextended o) ∷ rung 7 (cuc_epoch_good o e) ∷ []) (Cuc (cuc_of o e))
unfolding laid_as cuc_laid
cuc_laid_lem o e h = let (a, b) = told (ident o) h in ap (need (unextended o) 3) (cond_no _ _ a ∙ cond_no _ _ b)

-- the rungs of the window
abbrev pub window_rungs : Time → Time → List Rung
window_rungs from to = rung 7 (is_record from) ∷ rung 7 (is_record to) ∷ rung 9 (in_order from to) ∷ []

pub periodic_rungs : (from to : Time) (g : Periodic) → verdict (list_periodic from to g) ≡ judged (window_rungs from to)
unfolding list_periodic
periodic_rungs from to g = step (is_record from) 7 _ _ (λ f. step (is_record to) 7 _ _ (λ t. step (in_order from to) 9 _ _ (λ o. refl)))

module _ (s : List ℕ) (at : ℕ) {B : Type 0} (k : Periodic → Outcome B) (m : Outcome (Unit {0})) (rest : (g : Periodic) → verdict (k g) ≡ m) where
  -- all octets of the T-field are there, keep their rule, and none is left
  abbrev field_rungs : CucLayout → List Rung
  field_rungs l = rung 1 (leb (at + octets_of (Cuc l)) (length s)) ∷ rung 4 (all_good octet_good (drop at s) (octets_of (Cuc l)) && leb (length s) (at + octets_of (Cuc l))) ∷ []

  field_then : (l : CucLayout) → is_layout l ≡ true → verdict (and_then (tag_with s at l) k) ≡ under (field_rungs l) m
  unfolding tag_with
  field_then l h =
      let w = octets_of (Cuc l) in
      let t = leb (at + w) (length s) in
      let g = all_good octet_good (drop at s) w in
      let x = leb (length s) (at + w) in
      ap verdict (then_then (field s at l) ends k)
      ∙ after (field s at l) (rung 1 t ∷ rung 4 g ∷ []) (cuc_named s at l) (λ y. and_then (ends y) k) (need x 4 m) (cuc_climbs s at l h) (λ r.
      ap (λ (n : ℕ). verdict (and_then (need (leb (length s) (at + n)) 4 (done (first (cuc_named s at l)))) k)) (width_is l h)
      ∙ rise x 4 (done (first (cuc_named s at l))) k m (λ r. rest _))
      ∙ ap (need t 1) (need_both g x 4 m)
    where
      first : Time → Periodic
      first y = record { first = y; period = 256 ^ l.coarse }

      ends : Time → Outcome Periodic
      ends y = need (leb (length s) (at + width l)) 4 (done (first y))

  tag_then : (p : PField) (e : ℤ) → let o = p.octet in verdict (and_then (and_then (laid Codes.Cuc p e) (tag_in s at)) k) ≡ under (rung 2 (allows Codes.Cuc (ident o)) ∷ rung 3 (unextended o) ∷ rung 7 (cuc_epoch_good o e) ∷ field_rungs (cuc_of o e)) m
  unfolding laid tag_in
  tag_then p e =
      let o = p.octet in
      let rs = rung 3 (unextended o) ∷ rung 7 (cuc_epoch_good o e) ∷ [] in
      ap verdict (then_then (laid Codes.Cuc p e) (tag_in s at) k)
      ∙ rise (allows Codes.Cuc (ident o)) 2 (need (unextended o) 3 (laid_as o e)) (λ l. and_then (tag_in s at l) k) _ (λ c.
      after (need (unextended o) 3 (laid_as o e)) rs (Cuc (cuc_of o e)) (λ l. and_then (tag_in s at l) k) _ (cuc_laid_lem o e c) (λ h.
      field_then (cuc_of o e) (laid_good Codes.Cuc p e (Cuc (cuc_of o e)) (need_yes 2 _ c ∙ cuc_laid_lem o e c ∙ climbs_up rs (Cuc (cuc_of o e)) h))))

pub list_cuc_rungs_lem : (s : List ℕ) (p : Preamble) (e : ℤ) (from to : Time) → verdict (list_cuc s p e from to) ≡ judged (list_cuc_rungs s p e from to)
unfolding list_cuc periodic_of
list_cuc_rungs_lem s Front e from to =
    ap (λ (x : Outcome Periodic). verdict (and_then x (list_periodic from to))) (head_front (λ h. tag_in s h.start h.layout) Codes.Cuc s e)
    ∙ rise (leb 1 (length s)) 1 (and_then (laid Codes.Cuc (octet (get_or s 0 0)) e) (tag_in s 1)) (list_periodic from to) _ (λ h. tag_then s 1 (list_periodic from to) _ (periodic_rungs from to) (octet (get_or s 0 0)) e)
list_cuc_rungs_lem s (Given p) e from to =
    ap (λ (x : Outcome Periodic). verdict (and_then x (list_periodic from to))) (head_apart (λ h. tag_in s h.start h.layout) Codes.Cuc s p e)
    ∙ tag_then s 0 (list_periodic from to) _ (periodic_rungs from to) p e

-- ---- ASCII tags
wanted_rungs : (t : Table) (from to : Time) (g : Wants) → verdict (list_wanted t from to g) ≡ under (window_rungs from to) (judged (rung 5 (in_cover t from to) ∷ []))
unfolding list_wanted covered
wanted_rungs t from to g =
    step (is_record from) 7 _ _ (λ f. step (is_record to) 7 _ _ (λ k. step (in_order from to) 9 _ _ (λ o. step (in_cover t from to) 5 _ _ (λ c. refl))))

-- every refusal of a form is 4
form_4 : (s : List ℕ) → leb 1 (length s) ≡ true → (n : ℕ) → formed s ≡ refused n → n ≡ 4
unfolding want_of
form_4 s some n e =
    tag_4 s n (leb-true 1 (length s) some)
    (need_yes 1 _ some ∙ ap (λ (x : Outcome Wants). and_then x (λ t. need (good_tag t) 4 (done t))) e)

tag_rung : {B : Type 0} (x : Outcome Wants) (k : Wants → Outcome B) (m : Outcome (Unit {0})) → ((n : ℕ) → x ≡ refused n → n ≡ 4) → ((t : Wants) → verdict (k t) ≡ m) → verdict (and_then (and_then x (λ t. need (good_tag t) 4 (done t))) k) ≡ need (is_tag x) 4 m
tag_rung (done t) k m f g = rise (good_tag t) 4 (done t) k m (λ h. g t)
tag_rung (refused n) k m f g = ap refused (f n refl)

pub list_ascii_rungs_lem : (t : Table) (s : List ℕ) (from to : Time) → verdict (list_ascii t s from to) ≡ judged (list_ascii_rungs t s from to)
unfolding list_ascii want_of
list_ascii_rungs_lem t s from to =
    rise (leb 1 (length s)) 1 (and_then (formed s) (λ g. need (good_tag g) 4 (done g))) (list_wanted t from to) _ (λ some.
    tag_rung (formed s) (list_wanted t from to) _ (form_4 s some) (wanted_rungs t from to))
