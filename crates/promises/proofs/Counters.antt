-- A CUC tag is read as a code is: its first moment is what its bytes read to, and its period is that of its P octet.
use mathlib.Core.Path.{◌≡◌, sym, ap, ◌∙◌}
use mathlib.Core.Bool.{Bool, true, false, cond, false≢true, ◌||◌}
use mathlib.Core.List.{List}
use mathlib.Core.Logic.{◌↔◌}
use Prim.Native.Nat.{ℕ, ◌+◌, ◌^◌}
use native.Mathlib.Omega.{arith}
use borrow.Author.Tests.{le-leb}
use lib.Dec.{eqb}
use lib.IntN.{ℤ}
use lib.ListN.{length, get_or}
use Rattle.base.specs.Outcome.{Outcome, done, and_then, given}
use Rattle.base.proofs.Ladders.{need_done, need_yes, done_is}
use Rattle.scale.specs.Time.{Time}
use Rattle.leap.specs.Table.{Table}
use Rattle.cuc.specs.Cuc.{width}
use Rattle.cuc.specs.declared.Layout as U
use Rattle.pfield.specs.PField.{ident, allows, laid, octet}
use Rattle.pfield.specs.declared.PField.{PField}
use Rattle.pfield.specs.declared.Codes.TheVariants.{All}
use Rattle.pfield.specs.declared.Codes.TheVariants as Codes
use Rattle.pfield.proofs.Heads.{head_apart, head_front}
use Rattle.codes.specs.Reading.{Scanned, scanned, scan_in, scan_of}
use Rattle.pfield.specs.declared.Preamble.{Preamble}
use Rattle.pfield.specs.declared.Preamble.TheVariants.{Front, Given}
use Rattle.pfield.specs.declared.Layout.{Layout}
use Rattle.pfield.specs.declared.Layout.TheVariants.{Cuc, Cds, Ccs}
use Rattle.listing.specs.CucTag.{Periodic, periodic_of, Names}
use Rattle.listing.proofs.CucPromises.{Made, made_apart, made_front}
use Rattle.promises.specs.Octet.{octet_in, coarse}
use Rattle.promises.specs.Promises.{Counted}
use Rattle.promises.specs.RungsBinary.{octet_rungs, cuc_of, cds_of, ccs_of, layout_of}
use Rattle.promises.proofs.Rungs.{climb_is}
use Rattle.promises.proofs.RungsBinary.{laid_climbs}

-- ---- the layout of a P octet that says CUC
abbrev is_cuc : Layout → Bool
is_cuc (Cuc l) = true
is_cuc (Cds l) = false
is_cuc (Ccs l) = false

abbrev coarse_in : Layout → ℕ
coarse_in (Cuc l) = l.coarse
coarse_in (Cds l) = 0
coarse_in (Ccs l) = 0

-- what CUC's identifications allow, all codes' do
laid_all : (o : PField) (e : ℤ) (l : Layout) → laid Codes.Cuc o e ≡ done l → laid All o e ≡ done l
unfolding laid allows
laid_all o e l h =
    let n = ident o.octet in
    let (a, k) = need_done (eqb n 1 || eqb n 2) 2 _ l h in
    need_yes 2 _ (ap (λ (b : Bool). b || eqb n 4 || eqb n 5) a) ∙ k

laid_coarse : (p : PField) (e : ℤ) (l : U.Layout) → laid All p e ≡ done (Cuc l) → l.coarse ≡ coarse p.octet
laid_coarse p e l h = go (eqb (ident o) 5) (eqb (ident o) 4) (climb_is (octet_rungs o e) (layout_of o e) (Cuc l) (sym (laid_climbs p e) ∙ h))
  where
    o : ℕ
    o = p.octet

    go : (a b : Bool) → cond a (Ccs (ccs_of o)) (cond b (Cds (cds_of o e)) (Cuc (cuc_of o e))) ≡ Cuc l → l.coarse ≡ coarse o
    go true b k = absurd (false≢true (ap is_cuc k))
    go false true k = absurd (false≢true (ap is_cuc k))
    go false false k = sym (ap coarse_in k)

module _ (t : Table) where
  -- ---- the tag, by any table: a CUC code asks none
  tagged : (s : List ℕ) (at : ℕ) (o : PField) (e : ℤ) (g : Periodic) (d : Made s at o e g) → (and_then (laid All o e) (scan_in t s at) ≡ done (scanned (length s) g.first)) × (g.period ≡ 256 ^ coarse o.octet)
  unfolding scan_in
  tagged s at o e g d =
      let l = d.layout in
      let lays = laid_all o e (Cuc l) d.lays in (
        ap (λ (x : Outcome Layout). and_then x (scan_in t s at)) lays
            ∙ ap (given (scanned (at + width l))) d.reads
            ∙ ap (λ (n : ℕ). done (scanned n g.first)) d.ends,
        sym (ap (λ (y : Periodic). y.period) d.is) ∙ ap (λ (c : ℕ). 256 ^ c) (laid_coarse o e l lays),
      )

  pub tag_reads : (s : List ℕ) (p : Preamble) (e : ℤ) (g : Periodic) → periodic_of s p e ≡ done g → (scan_of t s p e ≡ done (scanned (length s) g.first)) × (g.period ≡ 256 ^ coarse (octet_in s p))
  unfolding scan_of
  tag_reads s (Given o) e g h =
      let (r, q) = tagged s 0 o e g (made_apart s o e g h) in
      (head_apart (λ h. scan_in t s h.start h.layout) All s o e ∙ r, q)
  tag_reads s Front e g h =
      let d = made_front s e g h in
      let (r, q) = tagged s 1 (octet (get_or s 0 0)) e g d in
      (head_front (λ h. scan_in t s h.start h.layout) All s e ∙ need_yes 1 _ (le-leb 1 (length s) (omega (arith, d.ends))) ∙ r, q)

  -- so it names what its listing's rule names
  pub counted_names : (s : List ℕ) (p : Preamble) (e : ℤ) (g : Periodic) → periodic_of s p e ≡ done g → (m : Time) → Counted t s p e m ↔ Names g m
  counted_names s p e g h m = (forth, back)
    where
      forth : Counted t s p e m → Names g m
      forth c =
          let (r, q) = tag_reads s p e g h in
          let i : c.first ≡ g.first = ap (λ (y : Scanned). y.moment) (done_is _ _ (sym c.reads ∙ r)) in
          (c.k, rw (q, ← i) c.exact)

      back : Names g m → Counted t s p e m
      back (k, x) = let (r, q) = tag_reads s p e g h in record { first = g.first; reads = r; k = k; exact = rw (← q) x }
