-- Binary codes are refused by their rungs, in reading by any table, and in writing by any that reckons.
use mathlib.Core.Path.{◌≡◌, refl, ap, ◌∙◌}
use mathlib.Core.Bool.{Bool, true, false, cond, ◌&&◌}
use mathlib.Core.List.{List, [], ◌∷◌, ◌++◌}
use Prim.Native.Nat.{ℕ, ◌+◌}
use native.Mathlib.Omega.{arith}
use lib.Dec.{leb, ltb, eqb}
use lib.IntN.{ℤ}
use lib.ListN.{length, get_or}
use borrow.Author.Tests.{leb-true}
use Rattle.base.specs.Outcome.{Outcome, done, refused, need, and_then}
use Rattle.base.proofs.Bools.{never_both, and_one}
use Rattle.scale.specs.Time.{Time, is_record}
use Rattle.leap.specs.Table.{Table}
use Rattle.moment.specs.Moment.{is_moment}
use Rattle.utc.specs.Reckoning.{reckons}
use Rattle.utc.proofs.Laws.{moment_valid, moment_index}
use Rattle.cuc.specs.Cuc as U
use Rattle.cuc.proofs.Fields.{bytes_in, bytes_out}
use Rattle.cuc.proofs.Promises as UP
use Rattle.cuc.proofs.Layouts as UL
use Rattle.cds.specs.Cds as D
use Rattle.cds.specs.declared.Layout.{Layout as CdsLayout}
use Rattle.cds.proofs.Laws as DL
use Rattle.cds.proofs.Promises as DP
use Rattle.ccs.specs.Ccs as C
use Rattle.ccs.specs.declared.Layout.{Layout as CcsLayout}
use Rattle.ccs.proofs.Rungs as CR
use Rattle.ccs.proofs.Promises as CP
use Rattle.ascii.specs.Ascii.{bit}
use Rattle.pfield.specs.PField.{ident, allows, cuc_laid, cds_laid, ccs_laid, laid_as, laid, octet}
use Rattle.pfield.specs.declared.PField.{PField}
use Rattle.pfield.specs.declared.Codes.TheVariants.{All}
use Rattle.pfield.proofs.Heads.{head_apart, head_front}
use Rattle.codes.specs.Reading.{field_of, width_of, scanned, scan_in, scan_of}
use Rattle.codes.specs.Writing.{bytes_of, code_of, fronted, write_of}
use Rattle.pfield.specs.declared.Preamble.{Preamble}
use Rattle.pfield.specs.declared.Preamble.TheVariants.{Front, Given}
use Rattle.pfield.specs.declared.Layout.{Layout}
use Rattle.pfield.specs.declared.Layout.TheVariants.{Cuc, Cds, Ccs}
use Rattle.pfield.proofs.Layouts.{is_layout_of, laid_good}
use Rattle.promises.specs.Rungs.{rung, all_hold}
use Rattle.promises.specs.Octet.{unextended, bits67, segments}
use Rattle.promises.specs.RungsCalendar.{covered_second}
use Rattle.promises.specs.RungsBinary.{octet_rungs, cuc_epoch_good, cds_epoch_good, cuc_of, cds_of, ccs_of, layout_of, octets_of, field_rungs, read_binary_rungs, target_good, code_octets, target_rungs, write_binary_rungs}
use Rattle.promises.proofs.Rungs.{verdict, judged, climb, climbs_up, step, after, need_both, verdict_given}
use Rattle.promises.proofs.RungsCalendar.{moment_here, here_day, moment_here_lem, written_rungs}
use Rattle.promises.proofs.RungsAscii.{room_rung}
use Rattle.promises.proofs.RungsFields.{field_rungs_lem}

-- ---- the P octet
pub laid_climbs : (p : PField) (e : ℤ) → laid All p e ≡ climb (octet_rungs p.octet e) (layout_of p.octet e)
unfolding laid laid_as ccs_laid cds_laid cuc_laid
laid_climbs p e = let o = p.octet in ap (need (allows All (ident o)) 2) (go o (eqb (ident o) 5) (eqb (ident o) 4) (unextended o))
  where
    go : (o : ℕ) (a b x : Bool) → need x 3 (cond a (need (ltb (segments o) 7) 3 (done (Ccs (ccs_of o)))) (cond b (need (ltb (bits67 o) 3) 3 (need (cds_epoch_good o e) 7 (done (Cds (cds_of o e))))) (need (cuc_epoch_good o e) 7 (done (Cuc (cuc_of o e))))))
        ≡ need (x && cond a (ltb (segments o) 7) (cond b (ltb (bits67 o) 3) true)) 3 (need (cond a true (cond b (cds_epoch_good o e) (cuc_epoch_good o e))) 7 (done (cond a (Ccs (ccs_of o)) (cond b (Cds (cds_of o e)) (Cuc (cuc_of o e))))))
    go o true b x = need_both x (ltb (segments o) 7) 3 _
    go o false true x = need_both x (ltb (bits67 o) 3) 3 _
    go o false false x = ap (λ (t : Bool). need t 3 (need (cuc_epoch_good o e) 7 (done (Cuc (cuc_of o e))))) (and_one x)

-- the layout of an octet that is not refused is one of its code
pub laid_so : (p : PField) (e : ℤ) → all_hold (octet_rungs p.octet e) ≡ true → is_layout_of (layout_of p.octet e) ≡ true
laid_so p e h =
    laid_good All p e (layout_of p.octet e) (laid_climbs p e ∙ climbs_up (octet_rungs p.octet e) (layout_of p.octet e) h)

-- ---- reading
scan_rungs : (t : Table) (s : List ℕ) (at : ℕ) (p : PField) (e : ℤ) → verdict (and_then (laid All p e) (scan_in t s at)) ≡ judged (octet_rungs p.octet e ++ field_rungs t s at (layout_of p.octet e))
unfolding scan_in
scan_rungs t s at p e =
    let l = layout_of p.octet e in
    after (laid All p e) (octet_rungs p.octet e) l (scan_in t s at) _ (laid_climbs p e) (λ h.
    verdict_given (scanned (at + width_of l)) (field_of t s at l) ∙ field_rungs_lem t s at l (laid_so p e h))

pub read_binary_rungs_lem : (t : Table) (s : List ℕ) (p : Preamble) (e : ℤ) → verdict (scan_of t s p e) ≡ judged (read_binary_rungs t s p e)
unfolding scan_of
read_binary_rungs_lem t s Front e =
    ap verdict (head_front (λ h. scan_in t s h.start h.layout) All s e) ∙ step (leb 1 (length s)) 1 _ _ (λ h. scan_rungs t s 1 (octet (get_or s 0 0)) e)
read_binary_rungs_lem t s (Given p) e = ap verdict (head_apart (λ h. scan_in t s h.start h.layout) All s p e) ∙ scan_rungs t s 0 p e

-- ---- writing
pub code_length : (front : Bool) (o : PField) (c : List ℕ) (w : ℕ) → length c ≡ w → length (code_of front o c) ≡ bit front + w
code_length true o c w e = omega arith
code_length false o c w e = omega arith

module _ (o : PField) (front : Bool) (out : List ℕ) where
  -- a T-field of w octets where the target holds the source, and else 7
  held_rungs : (x : Outcome (List ℕ)) (w : ℕ) (h : Bool) → (h ≡ true → (c : List ℕ) × ((x ≡ done c) × (length c ≡ w))) → (h ≡ false → x ≡ refused 7) → verdict (and_then x (fronted front o out)) ≡ judged (rung 7 h ∷ rung 8 (leb (bit front + w) (length out)) ∷ [])
  held_rungs x w true f n =
      let (c, (e, k)) = f refl in
      ap (λ (y : Outcome (List ℕ)). verdict (and_then y (fronted front o out))) e ∙ room_rung (code_of front o c) out (bit front + w) (code_length front o c w k)
  held_rungs x w false f n = ap (λ (y : Outcome (List ℕ)). verdict (and_then y (fronted front o out))) (n refl)

  cds_held : (t : Table) (l : CdsLayout) (r : Time) → D.held l (moment_here t r).day ≡ target_good t (Cds l) r
  unfolding D.held
  cds_held t l r = ap (D.held l) (here_day t r)

  module _ (t : Table) (g : reckons t ≡ true) (r : Time) (valid : is_record r ≡ true) where
    -- the moment of a covered record is one
    here_valid : covered_second t r.sec ≡ true → is_moment (moment_here t r) ≡ true
    here_valid c = moment_valid t g r (moment_here t r) valid (moment_here_lem t r c)

    cds_target : (l : CdsLayout) → D.is_layout l ≡ true → covered_second t r.sec ≡ true → verdict (and_then (D.bytes_of l (moment_here t r)) (fronted front o out)) ≡ judged (rung 7 (target_good t (Cds l) r) ∷ rung 8 (leb (code_octets front (Cds l)) (length out)) ∷ [])
    cds_target l h c =
        let m = moment_here t r in
        held_rungs (D.bytes_of l m) (octets_of (Cds l)) (target_good t (Cds l) r)
        (λ q. let e = DP.written_held l m h (here_valid c) (cds_held t l r ∙ q) in (_, (e, DP.write_width l m _ e ∙ DL.width_is l h)))
        (λ q. DP.written_out l m h (here_valid c) (cds_held t l r ∙ q))

    ccs_target : (l : CcsLayout) → C.is_layout l ≡ true → covered_second t r.sec ≡ true → verdict (and_then (C.bytes_of l (moment_here t r)) (fronted front o out)) ≡ judged (rung 8 (leb (code_octets front (Ccs l)) (length out)) ∷ [])
    ccs_target l h c =
        let m = moment_here t r in
        let (n, i) = moment_index t g r m (moment_here_lem t r c) in
        let (code, e) = CP.written l m h (here_valid c) n i in
        held_rungs (C.bytes_of l m) (octets_of (Ccs l)) true (λ _. (code, (e, CP.write_width l m code e ∙ CR.width_is l (leb-true l.segments 6 h)))) (λ q. never_both refl q)

    target_rungs_lem : (l : Layout) → is_layout_of l ≡ true → verdict (and_then (bytes_of t l r) (fronted front o out)) ≡ judged (target_rungs t l r front out)
    target_rungs_lem (Cuc l) h =
        held_rungs (U.bytes_of l r) (octets_of (Cuc l)) (U.holds l r)
        (λ q. let e = bytes_in l r valid h q in (_, (e, UP.write_width l r _ e ∙ UL.width_is l h))) (λ q. bytes_out l r valid h q)
    target_rungs_lem (Cds l) h = written_rungs t (D.bytes_of l) r (fronted front o out) _ (cds_target l h)
    target_rungs_lem (Ccs l) h = written_rungs t (C.bytes_of l) r (fronted front o out) _ (ccs_target l h)

pub write_binary_rungs_lem : (t : Table) → reckons t ≡ true → (r : Time) (p : PField) (e : ℤ) (front : Bool) (out : List ℕ) → verdict (write_of t r p e front out) ≡ judged (write_binary_rungs t r p.octet e front out)
unfolding write_of
write_binary_rungs_lem t g r p e front out =
    let l = layout_of p.octet e in
    step (is_record r) 7 _ _ (λ valid.
    after (laid All p e) (octet_rungs p.octet e) l (λ l. and_then (bytes_of t l r) (fronted front p out)) _ (laid_climbs p e) (λ h.
    target_rungs_lem p front out t g r valid l (laid_so p e h)))
