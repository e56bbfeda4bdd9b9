-- When a write is refused, for every setting, by any table that reckons.
use mathlib.Core.Path.{◌≡◌, refl, sym, ap, ◌∙◌, subst}
use mathlib.Core.Bool.{Bool, true, false, false≢true}
use mathlib.Core.List.{List}
use mathlib.Core.Logic.{◌⊎◌, inl, inr, ◌↔◌}
use Prim.Native.Nat.{ℕ, ◌+◌, ◌≤◌}
use native.Mathlib.Omega.{arith}
use lib.IntN.{ℤ}
use lib.ListN.{length}
use Rattle.base.specs.Outcome.{Outcome, done, refused, and_then}
use Rattle.base.proofs.Ladders.{never, need_yes, need_no, refused_is}
use Rattle.scale.specs.Time.{Time, is_record}
use Rattle.leap.specs.Table.{Table}
use Rattle.leap.specs.Utc.{utc_of_second}
use Rattle.moment.specs.declared.Moment.{Moment}
use Rattle.utc.specs.Reckoning.{moment_of, reckons}
use Rattle.utc.proofs.Laws.{moment_told}
use Rattle.utc.proofs.Lift.{written_of}
use Rattle.octets.specs.Writes.{roomed}
use Rattle.octets.proofs.Writes.{room_in}
use Rattle.cuc.proofs.Fields.{bytes_in, bytes_told}
use Rattle.cuc.proofs.Sources.{held_is}
use Rattle.cuc.proofs.Promises as U
use Rattle.cds.specs.Cds as D
use Rattle.cds.proofs.Promises as DP
use Rattle.ccs.specs.Ccs as C
use Rattle.ascii.specs.Ascii.{bit}
use Rattle.pfield.specs.PField.{laid}
use Rattle.pfield.specs.declared.PField.{PField}
use Rattle.pfield.specs.declared.Codes.TheVariants.{All}
use Rattle.codes.specs.Reading.{width_of}
use Rattle.codes.specs.Range.{HoldsIn}
use Rattle.codes.specs.Writing.{bytes_of, code_of, write_of}
use Rattle.codes.specs.Setting.{written}
use Rattle.pfield.specs.declared.Layout.{Layout}
use Rattle.pfield.specs.declared.Layout.TheVariants.{Cuc, Cds, Ccs}
use Rattle.codes.specs.declared.setting.Setting.{Setting}
use Rattle.codes.specs.declared.setting.Setting.TheVariants.{Binary, Ascii}
use Rattle.codes.proofs.Promises as CP
use Rattle.codes.proofs.Texts as TP
use Rattle.codes.proofs.Fields.{bytes_width}
use Rattle.pfield.proofs.Layouts.{laid_good}
use Rattle.codes.proofs.Range.{day_held, held_day, in_range, cuc_out, cds_uncovered, cds_out, ccs_uncovered}
use Rattle.promises.specs.Promises.{Done, Ready, is_utc_in, is_utc, Covered, Holds, FitsIn, Outside}
use Rattle.promises.specs.RungsCalendar.{covered_second}
use Rattle.promises.proofs.RungsCalendar.{utc_climbs}
use Rattle.promises.proofs.RungsBinary.{code_length}
use Rattle.promises.proofs.Settings.{ascii_told}

module _ (t : Table) (g : reckons t ≡ true) where
  -- ---- the table's days
  covered_or : (r : Time) → Covered t r ⊎ (utc_of_second t r.sec ≡ refused 5)
  covered_or r = go (covered_second t r.sec) refl
    where
      go : (b : Bool) → covered_second t r.sec ≡ b → Covered t r ⊎ (utc_of_second t r.sec ≡ refused 5)
      go true e = inl (_, utc_climbs t r.sec ∙ need_yes 5 _ e)
      go false e = inr (utc_climbs t r.sec ∙ need_no 5 _ e)

  not_covered : (r : Time) → utc_of_second t r.sec ≡ refused 5 → Covered t r → ⊥
  not_covered r e (u, f) = never 5 u (sym e ∙ f)

  -- a source that has a moment is covered
  moment_covered : (r : Time) (m : Moment) → moment_of t r ≡ done m → Covered t r
  moment_covered r m e = let (u, (a, _)) = moment_told t r m e in (u, a)

  -- ---- the target holds it: it is written
  pub held_written : (setting : Setting) (r : Time) (out : List ℕ) → Ready r setting out → Holds t setting r → Done (written t r setting out)
  held_written (Binary p e front) r out d (l, (lays, h)) =
      let (c, w) = in_range t g p e r d.source l lays h in
      let k : bit front + width_of l ≤ length out = rw lays at d.room in
      (code_of front p c, CP.writes_by t r p e front out l c d.source lays w (omega (arith, code_length front p c (width_of l) (bytes_width t l r c w))))
  held_written (Ascii l) r out d h =
      let (u, q) = h in
      let (code, w) = TP.covered_written t g l r d.source d.settings u q in
      (code, ap (λ (b : Outcome (List ℕ)). and_then b (roomed out 0)) w ∙ room_in code 0 out (omega (arith, d.room, TP.write_width t l r code w)))

  -- ---- and the other way
  field_held : (p : PField) (e : ℤ) (l : Layout) (r : Time) (c : List ℕ) → laid All p e ≡ done l → bytes_of t l r ≡ done c → HoldsIn t l r
  field_held p e (Cuc l) r c lays w =
      let k = bytes_told l r c w in
      (_, ((c, U.code_alone l r c w), (held_is l r k.held).0))
  field_held p e (Cds l) r c lays w =
      let k = written_of t (D.bytes_of l) r c w in
      let (u, (q, i)) = moment_told t r k.moment k.of in
      let (_, _, h, _) = DP.told l k.moment c k.writes in
      (u, (q, held_day t g p e l lays r u q (ap (λ (m : Moment). D.held l m.day) i ∙ h)))
  field_held p e (Ccs l) r c lays w = let k = written_of t (C.bytes_of l) r c w in moment_covered r k.moment k.of

  -- the range by times that are read is that of the counts
  pub held_fits : (p : PField) (e : ℤ) (l : Layout) (r : Time) → is_record r ≡ true → laid All p e ≡ done l → HoldsIn t l r ↔ FitsIn t l r
  held_fits p e (Cuc l) r v lays =
      let good = laid_good All p e (Cuc l) lays in
      (λ h. let (c, w) = U.held_written l r v good h in (bytes_told l r c w).held, λ k. field_held p e (Cuc l) r _ lays (bytes_in l r v good k))
  held_fits p e (Cds l) r v lays =
      (λ (u, (q, h)). (u, (q, day_held t g l u.day h)), λ (u, (q, k)). (u, (q, held_day t g p e l lays r u q k)))
  held_fits p e (Ccs l) r v lays = (λ h. h, λ h. h)

  pub written_held : (setting : Setting) (r : Time) (out code : List ℕ) → written t r setting out ≡ done code → Holds t setting r
  written_held (Binary p e front) r out code h =
      let w = CP.wrote_of t r p e front out code h in
      (w.layout, (w.lays, field_held p e w.layout r w.bytes w.lays w.writes))
  written_held (Ascii l) r out code h =
      let k = TP.lettered t l r code (ascii_told t g l r out code h) in
      moment_covered r k.by.moment k.by.of

  -- ---- it does not: which refusal
  pub held_covered : (setting : Setting) (r : Time) → is_utc setting ≡ true → Holds t setting r → Covered t r
  held_covered (Binary p e front) r u (l, (lays, h)) = go l h (rw lays at u)
    where
      go : (l : Layout) → HoldsIn t l r → is_utc_in (done l) ≡ true → Covered t r
      go (Cuc l) h u = absurd (false≢true u)
      go (Cds l) (x, (q, _)) u = (x, q)
      go (Ccs l) h u = h
  held_covered (Ascii l) r u h = h

  out_binary : (p : PField) (e : ℤ) (front : Bool) (r : Time) (out : List ℕ) (l : Layout) → is_record r ≡ true → laid All p e ≡ done l → (Holds t (Binary p e front) r → ⊥)
      → (n : ℕ) × ((write_of t r p e front out ≡ refused n) × Outside t (Binary p e front) r n)
  out_binary p e front r out (Cuc l) v lays out_of_lem =
      (7, (cuc_out t g p e r v front out l lays (λ h. out_of_lem (Cuc l, (lays, h))), inr (refl, (λ u. absurd (false≢true (rw lays at u))), out_of_lem)))
  out_binary p e front r out (Cds l) v lays out_of_lem = go (covered_or r)
    where
      go : Covered t r ⊎ (utc_of_second t r.sec ≡ refused 5) → (n : ℕ) × ((write_of t r p e front out ≡ refused n) × Outside t (Binary p e front) r n)
      go (inl (u, q)) = (7, (cds_out t g p e r v front out l u lays q (λ h. out_of_lem (Cds l, (lays, (u, (q, h))))), inr (refl, (λ _. (u, q)), out_of_lem)))
      go (inr z) = (5, (cds_uncovered t g p e r v front out l lays z, inl (refl, rw lays, not_covered r z)))
  out_binary p e front r out (Ccs l) v lays out_of_lem = go (covered_or r)
    where
      go : Covered t r ⊎ (utc_of_second t r.sec ≡ refused 5) → (n : ℕ) × ((write_of t r p e front out ≡ refused n) × Outside t (Binary p e front) r n)
      go (inl c) = absurd (out_of_lem (Ccs l, (lays, c)))
      go (inr z) = (5, (ccs_uncovered t g p e r v front out l lays z, inl (refl, rw lays, not_covered r z)))

  outside_refused : (setting : Setting) (r : Time) (out : List ℕ) → Ready r setting out → (Holds t setting r → ⊥) → (n : ℕ) × ((written t r setting out ≡ refused n) × Outside t setting r n)
  outside_refused (Binary p e front) r out d out_of_lem = let (l, lays) = d.settings in out_binary p e front r out l d.source lays out_of_lem
  outside_refused (Ascii l) r out d out_of_lem = go (covered_or r)
    where
      go : Covered t r ⊎ (utc_of_second t r.sec ≡ refused 5) → (n : ℕ) × ((written t r (Ascii l) out ≡ refused n) × Outside t (Ascii l) r n)
      go (inl c) = absurd (out_of_lem c)
      go (inr z) = (5, (ap (λ (b : Outcome (List ℕ)). and_then b (roomed out 0)) (TP.uncovered_refused t l r d.source d.settings z), inl (refl, refl, not_covered r z)))

  not_held : (setting : Setting) (r : Time) (n : ℕ) → Outside t setting r n → Holds t setting r → ⊥
  not_held setting r n (inl (_, u, c)) h = c (held_covered setting r u h)
  not_held setting r n (inr (_, _, out_of_lem)) h = out_of_lem h

  -- a source is outside in one way only
  one_outside : (setting : Setting) (r : Time) (n m : ℕ) → Outside t setting r n → Outside t setting r m → n ≡ m
  one_outside setting r n m (inl (p, _, _)) (inl (q, _, _)) = p ∙ sym q
  one_outside setting r n m (inl (_, u, c)) (inr (_, f, _)) = absurd (c (f u))
  one_outside setting r n m (inr (_, f, _)) (inl (_, u, c)) = absurd (c (f u))
  one_outside setting r n m (inr (p, _, _)) (inr (q, _, _)) = p ∙ sym q

  module _ (setting : Setting) (r : Time) (out : List ℕ) (d : Ready r setting out) where
    pub written_exactly : Done (written t r setting out) ↔ Holds t setting r
    written_exactly = (λ (code, h). written_held setting r out code h, held_written setting r out d)

    pub refused_exactly : (n : ℕ) → (written t r setting out ≡ refused n) ↔ Outside t setting r n
    refused_exactly n = (forth, back)
      where
        forth : written t r setting out ≡ refused n → Outside t setting r n
        forth h =
            let (m, (w, o)) = outside_refused setting r out d (λ k. let (code, w) = held_written setting r out d k in never n code (sym h ∙ w)) in
            subst (Outside t setting r) (refused_is m n (sym w ∙ h)) o

        back : Outside t setting r n → written t r setting out ≡ refused n
        back o =
            let (m, (w, o')) = outside_refused setting r out d (not_held setting r n o) in
            w ∙ ap refused (one_outside setting r m n o' o)
