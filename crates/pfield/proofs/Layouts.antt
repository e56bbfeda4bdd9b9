-- A layout that a P octet gives is one that its code has.
use mathlib.Core.Path.{◌≡◌, refl, subst}
use mathlib.Core.Bool.{Bool, true, false, cond, ◌||◌}
use Prim.Native.Nat.{ℕ, zero, suc, ◌+◌, ◌*◌, ◌-◌, ◌/◌, ◌%◌, ◌^◌, ◌<◌}
use native.Mathlib.Omega.{arith}
use borrow.Author.Tests.{ltb-true, le-leb}
use lib.Dec.{ltb, eqb, lit<}
use lib.IntN.{ℤ, pos, neg_ℤ}
use Rattle.base.specs.Parts.{within}
use Rattle.base.specs.Outcome.{done}
use Rattle.base.proofs.Ladders.{need_done, done_is}
use Rattle.base.proofs.Signed.{within_yes, neg_plus, neg_minus}
use Rattle.cuc.specs.Cuc.{is_epoch, is_layout as is_cuc}
use Rattle.cds.specs.Cds.{is_epoch_day, is_width as isCdsWidth, is_layout as isCds}
use Rattle.ccs.specs.Ccs.{is_layout as isCcs}
use Rattle.cuc.proofs.Layouts.{layout_yes}
use Rattle.pfield.specs.declared.PField.{PField}
use Rattle.pfield.specs.declared.Codes.{Codes}
use Rattle.pfield.specs.declared.Layout.{Layout}
use Rattle.pfield.specs.declared.Layout.TheVariants.{Cuc, Cds, Ccs}
use Rattle.pfield.specs.PField.{ident, allows, bit4, cuc_laid, cds_laid, ccs_laid, laid_as, laid}

abbrev pub is_layout_of : Layout → Bool
is_layout_of (Cuc l) = is_cuc l
is_layout_of (Cds l) = isCds l
is_layout_of (Ccs l) = isCcs l

-- an epoch that the code does not use is 0, and one that it uses was tested
epoch_in_lem : (b : Bool) (N : ℕ) (e : ℤ) → within (neg_ℤ (pos N)) (pos (N - 1)) (pos 0) ≡ true → (b || within (neg_ℤ (pos N)) (pos (N - 1)) e) ≡ true → within (neg_ℤ (pos N)) (pos (N - 1)) (cond b (pos 0) e) ≡ true
epoch_in_lem true N e z h = z
epoch_in_lem false N e z h = h

zero_in : (N : ℕ) → 0 < N → within (neg_ℤ (pos N)) (pos (N - 1)) (pos 0) ≡ true
zero_in N h = within_yes (neg_ℤ (pos N)) (pos (N - 1)) (pos 0) (omega (arith, neg_plus (pos N), neg_minus (pos N))) (omega arith)

cuc_good : (o : ℕ) (e : ℤ) (l : Layout) → cuc_laid o e ≡ done l → is_layout_of l ≡ true
unfolding cuc_laid
cuc_good o e l h =
    let (p, q) = need_done (eqb (ident o) 1 || is_epoch e) 7 _ l h in
    subst (λ (x : Layout). is_layout_of x ≡ true) (done_is _ l q)
    (layout_yes _ (omega arith) (omega arith) (omega arith) (epoch_in_lem (eqb (ident o) 1) (2 ^ 40) e (zero_in (2 ^ 40) (lit< tt)) p))

day_in_lem : (n : ℕ) → n < 2 → (eqb (n + 2) 2 || eqb (n + 2) 3) ≡ true
day_in_lem zero h = refl
day_in_lem (suc zero) h = refl
day_in_lem (suc (suc n)) h = absurd (omega arith)

part_in_lem : (n : ℕ) → n < 3 → (eqb (n * 2) 0 || eqb (n * 2) 2 || eqb (n * 2) 4) ≡ true
part_in_lem zero h = refl
part_in_lem (suc zero) h = refl
part_in_lem (suc (suc zero)) h = refl
part_in_lem (suc (suc (suc n))) h = absurd (omega arith)

cds_good : (o : ℕ) (e : ℤ) (l : Layout) → cds_laid o e ≡ done l → is_layout_of l ≡ true
unfolding cds_laid isCds isCdsWidth
cds_good o e l h =
    let (s, h₁) = need_done (ltb (o % 4) 3) 3 _ l h in
    let (p, q) = need_done (eqb (bit4 o) 0 || is_epoch_day e) 7 _ l h₁ in
    subst (λ (x : Layout). is_layout_of x ≡ true) (done_is _ l q)
    (rw (epoch_in_lem (eqb (bit4 o) 0) (2 ^ 24) e (zero_in (2 ^ 24) (lit< tt)) p, day_in_lem (o / 4 % 2) (omega arith), part_in_lem (o % 4) (ltb-true (o % 4) 3 s)))

ccs_good : (o : ℕ) (l : Layout) → ccs_laid o ≡ done l → is_layout_of l ≡ true
unfolding ccs_laid
ccs_good o l h =
    let (s, q) = need_done (ltb (o % 8) 7) 3 _ l h in
    subst (λ (x : Layout). is_layout_of x ≡ true) (done_is _ l q) (le-leb (o % 8) 6 (omega (arith, ltb-true (o % 8) 7 s)))

by_kind : (o : ℕ) (e : ℤ) (l : Layout) (a b : Bool) → cond a (ccs_laid o) (cond b (cds_laid o e) (cuc_laid o e)) ≡ done l → is_layout_of l ≡ true
by_kind o e l true b h = ccs_good o l h
by_kind o e l false true h = cds_good o e l h
by_kind o e l false false h = cuc_good o e l h

pub laid_good : (c : Codes) (p : PField) (e : ℤ) (l : Layout) → laid c p e ≡ done l → is_layout_of l ≡ true
unfolding laid laid_as
laid_good c p e l h =
    let o = p.octet in
    let (k, h₁) = need_done (allows c (ident o)) 2 _ l h in
    let (s, h₂) = need_done (ltb o 128) 3 _ l h₁ in
    by_kind o e l (eqb (ident o) 5) (eqb (ident o) 4) h₂
