-- When a write is refused: with a valid source, setting and epoch and enough room, exactly outside the target's range or, for the UTC codes, the table's days. By any table that reckons.
use mathlib.Core.Path.{◌≡◌, refl, sym, ap, ◌∙◌}
use mathlib.Core.Bool.{Bool, true, false}
use mathlib.Core.List.{List}
use Prim.Native.Nat.{ℕ}
use lib.IntN.{ℤ}
use Rattle.base.specs.Outcome.{Outcome, done, refused, and_then}
use Rattle.base.proofs.Ladders.{need_yes, done_is}
use Rattle.scale.specs.Time.{Time, is_record}
use Rattle.leap.specs.Table.{Table}
use Rattle.leap.specs.Utc.{utc_of_second}
use Rattle.leap.specs.declared.Utc.{Utc}
use Rattle.leap.proofs.Promises.{utc_then_second, utc_low}
use Rattle.moment.specs.Moment.{moment}
use Rattle.moment.specs.declared.Moment.{Moment}
use Rattle.utc.specs.Reckoning.{moment_of, reckons}
use Rattle.utc.proofs.Laws.{time, table_good, time_done, time_back, moment_told, moment_done, moment_refused, moment_valid, moment_index}
use Rattle.utc.proofs.Lift.{read_of, read_so, written_so}
use Rattle.cuc.specs.Cuc.{Holds as CucHolds}
use Rattle.cds.specs.Cds.{held, field as cdsField, bytes_of as cdsBytes}
use Rattle.cds.specs.declared.Layout.{Layout as CdsLayout}
use Rattle.ccs.specs.Ccs.{bytes_of as ccsBytes}
use Rattle.cuc.proofs.Promises as U
use Rattle.cds.proofs.Promises as D
use Rattle.ccs.proofs.Promises as C
use Rattle.pfield.specs.PField.{laid}
use Rattle.pfield.specs.declared.PField.{PField}
use Rattle.pfield.specs.declared.Codes.TheVariants.{All}
use Rattle.codes.specs.Reading.{HasDay}
use Rattle.codes.specs.Range.{HoldsIn}
use Rattle.codes.specs.Writing.{bytes_of, fronted, write_of}
use Rattle.pfield.specs.declared.Layout.{Layout}
use Rattle.pfield.specs.declared.Layout.TheVariants.{Cuc, Cds, Ccs}
use Rattle.pfield.proofs.Layouts.{laid_good}

module _ (t : Table) where
  -- a T-field that is not to be had refuses the write, whatever the room
  pub refuses_by : (r : Time) (o : PField) (e : ℤ) (front : Bool) (out : List ℕ) (l : Layout) (n : ℕ) → is_record r ≡ true → laid All o e ≡ done l → bytes_of t l r ≡ refused n → write_of t r o e front out ≡ refused n
  unfolding write_of
  refuses_by r o e front out l n v p h =
      need_yes 7 _ v
      ∙ ap (λ (x : Outcome Layout). and_then x (λ k. and_then (bytes_of t k r) (fronted front o out))) p
      ∙ ap (λ (x : Outcome (List ℕ)). and_then x (fronted front o out)) h

  uncovered : (code : Moment → Outcome (List ℕ)) (r : Time) → utc_of_second t r.sec ≡ refused 5 → and_then (moment_of t r) code ≡ refused 5
  uncovered code r h = ap (λ (x : Outcome Moment). and_then x code) (moment_refused t r 5 h)

  module _ (g : reckons t ≡ true) where
    -- the days that T-fields of CDS read to are those that its layout holds
    pub day_held : (l : CdsLayout) (d : ℤ) → HasDay t (Cds l) d → held l d ≡ true
    day_held l d h =
        let q = read_of t (cdsField h.reads.0 0 l) h.time h.reads.1 in
        let (u, (a, b)) = moment_told t h.time q.moment (time_back t g q.moment h.time q.is) in
        let c : u ≡ h.utc = done_is u h.utc (sym a ∙ h.reading) in
        let e : q.moment.day ≡ d = sym (ap (λ (x : Moment). x.day) b) ∙ ap (λ (x : Utc). x.day) c ∙ h.on in
        rw e at (D.reads_held l q.moment (h.reads.0, q.named))

    pub held_day : (o : PField) (e : ℤ) (l : CdsLayout) → laid All o e ≡ done (Cds l) → (r : Time) (u : Utc) → utc_of_second t r.sec ≡ done u → held l u.day ≡ true → HasDay t (Cds l) u.day
    held_day o e l p r u h k =
        let m = moment u.day u.second 0 in
        let (s, f) = D.held_reads l (laid_good All o e (Cds l) p) u.day k u.second (utc_low t (table_good t g) r.sec u h) in
        record {
          time = time r.sec 0;
          reads = (s, read_so t (cdsField s 0 l) m (time r.sec 0) f (time_done t m r.sec (utc_then_second t (table_good t g) r.sec u h)));
          utc = u;
          reading = h;
          on = refl;
        }

    module _ (o : PField) (e : ℤ) (r : Time) (v : is_record r ≡ true) where
      -- a moment's T-field of CDS, by whether its layout holds the day
      cds_on : (l : CdsLayout) (u : Utc) → utc_of_second t r.sec ≡ done u → bytes_of t (Cds l) r ≡ cdsBytes l (moment u.day u.second r.ticks)
      cds_on l u q = written_so t (cdsBytes l) r _ (moment_done t r u q)

      -- in range there is a T-field
      pub in_range : (l : Layout) → laid All o e ≡ done l → HoldsIn t l r → (c : List ℕ) × (bytes_of t l r ≡ done c)
      in_range (Cuc l) p h = U.held_written l r v (laid_good All o e (Cuc l) p) h
      in_range (Cds l) p (u, (q, h)) =
          (_, cds_on l u q ∙ D.written_held l _ (laid_good All o e (Cds l) p) (moment_valid t g r _ v (moment_done t r u q)) (day_held l u.day h))
      in_range (Ccs l) p (u, q) =
          let m = moment u.day u.second r.ticks in
          let i = moment_done t r u q in
          let (n, k) = moment_index t g r m i in
          let (c, w) = C.written l m (laid_good All o e (Ccs l) p) (moment_valid t g r m v i) n k in
          (c, written_so t (ccsBytes l) r m i ∙ w)

      -- outside it CUC is refused 7; CDS 5 outside the table's days, and 7 on a day that it has no field for; CCS 5 outside the table's days
      pub cuc_out : (front : Bool) (out : List ℕ) (l : _) → laid All o e ≡ done (Cuc l) → (CucHolds l r → ⊥) → write_of t r o e front out ≡ refused 7
      cuc_out front out l p h = refuses_by r o e front out (Cuc l) 7 v p (U.unheld_refused l r v (laid_good All o e (Cuc l) p) h)

      pub cds_uncovered : (front : Bool) (out : List ℕ) (l : _) → laid All o e ≡ done (Cds l) → utc_of_second t r.sec ≡ refused 5 → write_of t r o e front out ≡ refused 5
      cds_uncovered front out l p h = refuses_by r o e front out (Cds l) 5 v p (uncovered (cdsBytes l) r h)

      pub cds_out : (front : Bool) (out : List ℕ) (l : _) (u : Utc) → laid All o e ≡ done (Cds l) → utc_of_second t r.sec ≡ done u → (HasDay t (Cds l) u.day → ⊥) → write_of t r o e front out ≡ refused 7
      cds_out front out l u p q h = go (held l u.day) refl
        where
          go : (b : Bool) → held l u.day ≡ b → write_of t r o e front out ≡ refused 7
          go true k = absurd (h (held_day o e l p r u q k))
          go false k =
              refuses_by r o e front out (Cds l) 7 v p (cds_on l u q ∙ D.written_out l _ (laid_good All o e (Cds l) p) (moment_valid t g r _ v (moment_done t r u q)) k)

      pub ccs_uncovered : (front : Bool) (out : List ℕ) (l : _) → laid All o e ≡ done (Ccs l) → utc_of_second t r.sec ≡ refused 5 → write_of t r o e front out ≡ refused 5
      ccs_uncovered front out l p h = refuses_by r o e front out (Ccs l) 5 v p (uncovered (ccsBytes l) r h)
