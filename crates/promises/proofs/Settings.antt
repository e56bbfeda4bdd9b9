-- What the codes below promise of a P octet and of an ASCII layout, carried to settings: what a setting can hold, what its written codes read to, and the round trip. By any table that reckons.
use mathlib.Core.Path.{◌≡◌, refl, sym, ap, ◌∙◌, subst}
use mathlib.Core.Bool.{Bool, true, false}
use mathlib.Core.List.{List, [], ◌++◌, append-nil}
use Prim.Native.Nat.{ℕ, ◌≤◌}
use native.Mathlib.Omega.{arith}
use lib.IntN.{ℤ}
use lib.ListN.{length, get_or, take, drop, take-append-drop}
use lib.Seq.{length-take-le, take_at}
use Rattle.base.specs.Outcome.{Outcome, done, refused, and_then, given}
use Rattle.base.proofs.Ladders.{never, need_done, then_done, done_is}
use Rattle.scale.specs.Time.{Time, is_record}
use Rattle.scale.proofs.Laws.{record_ticks}
use Rattle.scale.proofs.Latest.{own_latest, latest_by}
use Rattle.leap.specs.Table.{Table}
use Rattle.utc.specs.Reckoning.{reckons}
use Rattle.ascii.specs.declared.Layout as AL
use Rattle.pfield.specs.PField.{laid, octet}
use Rattle.pfield.specs.declared.PField.{PField}
use Rattle.pfield.specs.declared.Codes.TheVariants.{All}
use Rattle.codes.specs.Reading.{Scanned, scanned, width_of, scan_of, used_of, Readable}
use Rattle.codes.specs.Writing.{bytes_of, code_of, write_of, from}
use Rattle.codes.specs.Text.{letters, Spelled}
use Rattle.pfield.specs.declared.Layout.{Layout}
use Rattle.codes.specs.Setting.{ascii_of, written}
use Rattle.pfield.specs.declared.Preamble.{Preamble}
use Rattle.pfield.specs.declared.Preamble.TheVariants.{Front, Given}
use Rattle.codes.specs.declared.setting.Setting.{Setting}
use Rattle.codes.specs.declared.setting.Setting.TheVariants.{Binary, Ascii}
use Rattle.codes.proofs.Promises as CP
use Rattle.codes.proofs.Texts as TP
use Rattle.codes.proofs.Fields.{field_back, field_width}
use Rattle.octets.specs.Stores.{has_room}
use Rattle.octets.specs.Writes.{roomed}
use Rattle.octets.proofs.Writes.{room_in}
use Rattle.promises.specs.Promises.{read_under, code_in, MayFollow, OfSetting, Holdable, Yields}

moment_of_lem : (o : Outcome Scanned) (x : Time) → given (λ (y : Scanned). y.moment) o ≡ done x → o ≡ done (scanned (used_of o) x)
moment_of_lem (done y) x h = ap (λ (m : Time). done (scanned y.used m)) (done_is y.moment x h)
moment_of_lem (refused n) x h = never n x h

own_octet : (p : PField) (e : ℤ) (front : Bool) (t : List ℕ) → OfSetting (Binary p e front) (code_of front p t)
own_octet p e true t = refl
own_octet p e false t = tt

-- a write under the octet in front is one under the P-field that has it
own : (t : Table) (r : Time) (e : ℤ) (out c : List ℕ) (p : PField) (s : List ℕ) → get_or s 0 0 ≡ p.octet → write_of t r (octet (get_or s 0 0)) e true out ≡ done c → write_of t r p e true out ≡ done c
own t r e out c p s q h = ap (λ (o : ℕ). write_of t r (octet o) e true out) (sym q) ∙ h

module _ (t : Table) (g : reckons t ≡ true) where
  -- ---- binary codes: what can be held does not hang on where the P octet stands
  module _ (p : PField) (e : ℤ) where
    -- a time that T-fields read to, in writing
    record Had (x : Time) : Type 0 where
      layout : Layout
      lays : laid All p e ≡ done layout
      bytes : List ℕ
      writes : bytes_of t layout x ≡ done bytes
      valid : is_record x ≡ true

    had : (x : Time) → Readable t p e x → Had x
    had x (s, (n, h)) =
        let r = CP.read_apart t s p e (scanned n x) h in
        let (v, w) = field_back t g s 0 r.layout x r.reads in
        record { layout = r.layout; lays = r.lays; bytes = take (width_of r.layout) (drop 0 s); writes = w; valid = v }

    pub readable_holdable : (front : Bool) (x : Time) → Readable t p e x → Holdable t (Binary p e front) x
    readable_holdable front x r =
        let a = had x r in
        let c = code_of front p a.bytes in
        let w = CP.writes_by t x p e front c a.layout a.bytes a.valid a.lays a.writes (omega arith) in
        let (m, (late, reads)) = CP.written_latest t g x p e front c c w in
        let i : m ≡ x = own_latest (Readable t p e) x m late (record_ticks m (had m late.had).valid) (record_ticks x a.valid) r in
        (c, own_octet p e front a.bytes, ap (given (λ (y : Scanned). y.moment)) (rw append-nil at (reads [])) ∙ ap done i)

    holdable_front : (x : Time) (s : List ℕ) (n : ℕ) → get_or s 0 0 ≡ p.octet → scan_of t s Front e ≡ done (scanned n x) → n ≤ length s → Readable t p e x
    holdable_front x s n q h k =
        let w : write_of t x p e true s ≡ done (take n s) = own t _ e _ _ p s q (CP.read_written_front t g s e s (scanned n x) h k) in
        let (m, (late, reads)) = CP.written_latest t g x p e true s (take n s) w in
        let f : scan_of t s Front e ≡ done (scanned (length (take n s)) m) = rw (take-append-drop n s) at (reads (drop n s)) in
        let i : m ≡ x = ap (λ (y : Scanned). y.moment) (done_is _ _ (sym f ∙ h)) in
        subst (Readable t p e) i late.had

    -- a code lies within the bytes
    used_in : (front : Bool) (s : List ℕ) (x : Scanned) → scan_of t s (from front p) e ≡ done x → x.used ≤ length s
    used_in front s x h =
        let r = CP.read_of t s (from front p) e x h in
        omega (arith, r.ends, field_width t s r.head.start r.head.layout x.moment r.reads)

    pub holdable_readable : (front : Bool) (x : Time) → Holdable t (Binary p e front) x → Readable t p e x
    holdable_readable true x (s, q, h) =
        let f = moment_of_lem (scan_of t s Front e) x h in
        holdable_front x s (used_of (scan_of t s Front e)) q f (used_in true s (scanned (used_of (scan_of t s Front e)) x) f)
    holdable_readable false x (s, q, h) = (s, (used_of (scan_of t s (Given p) e), moment_of_lem (scan_of t s (Given p) e) x h))

  scanned_valid : (s : List ℕ) (p : Preamble) (e : ℤ) (m : Time) (n : ℕ) → scan_of t s p e ≡ done (scanned n m) → is_record m ≡ true
  scanned_valid s p e m n h =
      let r = CP.read_of t s p e (scanned n m) h in
      (field_back t g s r.head.start r.head.layout m r.reads).0

  -- ---- ASCII
  spelled_holdable : (l : AL.Layout) (x : Time) → Spelled t l x → Holdable t (Ascii l) x
  spelled_holdable l x h = (h.code, h.own, h.read)

  holdable_spelled : (l : AL.Layout) (x : Time) → Holdable t (Ascii l) x → Spelled t l x
  holdable_spelled l x (s, o, h) = record { code = s; read = h; own = o }

  -- what an answered write was made of
  pub ascii_told : (l : AL.Layout) (r : Time) (out code : List ℕ) → ascii_of t l r out ≡ done code → letters t l r ≡ done code
  unfolding roomed
  ascii_told l r out code h =
      let (c, (w, k)) = then_done (letters t l r) (roomed out 0) code h in
      w ∙ ap done (done_is c code (need_done (has_room out 0 c) 8 (done c) code k).1)

  -- ---- what is read is a valid record
  pub valid_read : (setting : Setting) (s : List ℕ) (m : Time) → read_under t setting s ≡ done m → is_record m ≡ true
  valid_read (Binary p e front) s m h = scanned_valid s (from front p) e m (used_of (scan_of t s (from front p) e)) (moment_of_lem (scan_of t s (from front p) e) m h)
  valid_read (Ascii l) s m h = TP.read_valid t g s m h

  -- ---- what a written code yields
  pub yields : (setting : Setting) (r : Time) (out code : List ℕ) → written t r setting out ≡ done code → (m : Time) × Yields t setting r code m
  yields (Binary p e front) r out code h =
      let w = CP.wrote_of t r p e front out code h in
      let (m, (late, reads)) = CP.written_latest t g r p e front out code h in (
        m,
        record {
          latest = latest_by (Readable t p e) (Holdable t (Binary p e front)) r m (readable_holdable p e front) (holdable_readable p e front) late;
          own = subst (OfSetting (Binary p e front)) w.is (own_octet p e front w.bytes);
          reads = λ rest _. ap (given (λ (y : Scanned). y.moment)) (reads rest);
          whole = λ rest _. ap (λ (o : Outcome Scanned). take (used_of o) (code ++ rest)) (reads rest) ∙ take_at code rest (length code) refl;
        },
      )
  yields (Ascii l) r out code h =
      let b = ascii_told l r out code h in
      let (m, (late, reads)) = TP.written_reads t g l r code b in (
        m,
        record {
          latest = latest_by (Spelled t l) (Holdable t (Ascii l)) r m (spelled_holdable l) (holdable_spelled l) late;
          own = TP.written_layout t l r code b;
          reads = λ rest n. rw (n, append-nil) reads;
          whole = λ rest n. rw (n, append-nil);
        },
      )

  -- read alone
  nothing_follows : (setting : Setting) → MayFollow setting []
  nothing_follows (Binary p e front) = tt
  nothing_follows (Ascii l) = refl

  pub alone : (setting : Setting) (code : List ℕ) (m : Time) → ((rest : List ℕ) → MayFollow setting rest → read_under t setting (code ++ rest) ≡ done m) → read_under t setting code ≡ done m
  alone setting code m f = subst (λ (c : List ℕ). read_under t setting c ≡ done m) (append-nil code) (f [] (nothing_follows setting))

  -- ---- what was read is written back
  room_left : (n : ℕ) (s out : List ℕ) → n ≤ length s → length (take n s) ≤ length out → n ≤ length out
  room_left n s out h k = omega (arith, length-take-le n s h)

  back_binary : (p : PField) (e : ℤ) (front : Bool) (s out : List ℕ) (x : Scanned) → OfSetting (Binary p e front) s → scan_of t s (from front p) e ≡ done x → x.used ≤ length out → write_of t x.moment p e front out ≡ done (take x.used s)
  back_binary p e true s out x q h k = own t _ e _ _ p s q (CP.read_written_front t g s e out x h k)
  back_binary p e false s out x q h k = CP.read_written t g s p e out x h k

  pub back : (setting : Setting) (s out : List ℕ) (m : Time) → OfSetting setting s → read_under t setting s ≡ done m → length (code_in t setting s) ≤ length out → written t m setting out ≡ done (code_in t setting s)
  back (Binary p e front) s out m q h k =
      let n = used_of (scan_of t s (from front p) e) in
      let f = moment_of_lem (scan_of t s (from front p) e) m h in
      back_binary p e front s out (scanned n m) q f (room_left n s out (used_in p e front s (scanned n m) f) k)
  back (Ascii l) s out m q h k =
      ap (λ (b : Outcome (List ℕ)). and_then b (roomed out 0)) (rw q at (TP.read_written t g s m h)) ∙ room_in s 0 out (omega arith)
