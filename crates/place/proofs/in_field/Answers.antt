use mathlib.Core.Path.{◌≡◌, sym, ap, subst, ◌∙◌}
use Prim.Native.Nat.{ℕ, ◌+◌, ◌<◌, ◌≤◌}
use native.Mathlib.Omega.{arith}
use borrow.Author.Tests.{leb-true}
use lib.Dec.{leb}
use lib.ListN.{length}
use Rattle.field.specs.Fields.{first_bad}
use Rattle.cds.proofs.Laws as D
use Rattle.ccs.proofs.Rungs as C
use Rattle.pfield.specs.declared.Layout.{Layout}
use Rattle.pfield.specs.declared.Layout.TheVariants.{Cuc, Cds, Ccs}
use Rattle.codes.specs.Reading.{width_of}
use Rattle.place.specs.Binary.{fields_by, fields_at}
use Rattle.place.proofs.Whole.{cds_wide, ccs_few, all_there, cuc_good}
use Rattle.place.proofs.in_field.Goals.{After-fits, Else-not-fits}
use Rattle.place.proofs.in_field.Goals as goal

-- the T-field of the layout that was found is all there, and its fields are those that are judged
own : (c : Else-not-fits) → let a = c.args in (0 < width_of a.l) × (a.at + width_of a.l ≤ length a.s.now)
own c =
    let a = c.args in
    let f : leb (a.at + width_of a.l) (length a.s.now) ≡ c.fits.result = ap (λ (w : ℕ). leb (a.at + w) (length a.s.now)) (sym c.size-w.ensures) ∙ sym c.fits.ensures in
    (omega (arith, c.size-w.ensures), leb-true _ _ (f ∙ c.if-not-fits.false))

whole : (c : Else-not-fits) (l : Layout) → c.args.l ≡ l → (0 < width_of l) × (c.args.at + width_of l ≤ length c.args.s.now)
whole c l e = subst (λ (x : Layout). (0 < width_of x) × (c.args.at + width_of x ≤ length c.args.s.now)) e (own c)

told : (c : Else-not-fits) (l : Layout) → c.args.l ≡ l → first_bad (fields_by c.args.s.now c.args.at l) ≡ first_bad (fields_at c.args.s.now c.args.at c.args.l)
told c l e =
    let a = c.args in
    ap first_bad (ap (fields_by a.s.now a.at) (sym e) ∙ all_there a.s.now a.at a.l (own c).0 (own c).1)

pub in_cds-requires : goal.in_cds-requires
in_cds-requires c =
    let l = c.in-Cds.d in
    let (h, k) = whole (goal.at.in_cds-requires c).Else-not-fits (Cds l) c.in-Cds.is in
    let w = cds_wide l h in
    (w, omega (arith, k, D.width_some l w))

pub in_ccs-requires : goal.in_ccs-requires
in_ccs-requires c =
    let l = c.in-Ccs.c in
    let (h, k) = whole (goal.at.in_ccs-requires c).Else-not-fits (Ccs l) c.in-Ccs.is in
    let f = ccs_few l h in
    (f, omega (arith, k, C.width_is l f))

pub returns-in-Cuc : goal.returns-in-Cuc
returns-in-Cuc c =
    let a = c.args in
    let l = c.in-Cuc.field-0 in
    let (h, k) = whole (goal.at.returns-in-Cuc c).Else-not-fits (Cuc l) c.in-Cuc.is in
    cuc_good a.s.now a.at l (λ i. omega (arith, c.type_inv.s i)) h k ∙ told (goal.at.returns-in-Cuc c).Else-not-fits (Cuc l) c.in-Cuc.is

pub returns-in-Cds : goal.returns-in-Cds
returns-in-Cds c =
    c.in_cds.ensures ∙ told (goal.at.returns-in-Cds c).Else-not-fits (Cds c.in-Cds.d) c.in-Cds.is

pub returns-in-Ccs : goal.returns-in-Ccs
returns-in-Ccs c =
    c.in_ccs.ensures ∙ told (goal.at.returns-in-Ccs c).Else-not-fits (Ccs c.in-Ccs.c) c.in-Ccs.is
