-- What reading and writing promise together, for CUC, CDS and CCS at once, by any table that reckons.
use mathlib.Core.Path.{◌≡◌, refl, sym, ap, ◌∙◌, subst}
use mathlib.Core.Bool.{Bool, true, false}
use mathlib.Core.List.{List, [], ◌∷◌, ◌++◌}
use Prim.Native.Nat.{ℕ, suc, ◌+◌, ◌≤◌}
use native.Mathlib.Omega.{arith}
use lib.IntN.{ℤ}
use lib.ListN.{length, get_or, take, drop}
use lib.Seq.{length-take-le}
use Rattle.base.specs.Outcome.{Outcome, done, and_then, given}
use Rattle.base.proofs.Ladders.{need_yes, need_done, then_done, given_done, done_is}
use Rattle.scale.specs.Time.{Time, is_record}
use Rattle.scale.specs.Latest.{NotAfter, Latest}
use Rattle.scale.proofs.Latest.{later_source, latest_by}
use Rattle.leap.specs.Table.{Table}
use Rattle.utc.specs.Reckoning.{reckons}
use Rattle.octets.specs.Stores.{has_room}
use Rattle.octets.specs.Writes.{roomed}
use Rattle.octets.proofs.Writes.{room_in}
use Rattle.pfield.specs.PField.{laid, headed, octet, headed_of}
use Rattle.pfield.specs.declared.PField.{PField}
use Rattle.pfield.specs.declared.Codes.TheVariants.{All}
use Rattle.pfield.proofs.Heads.{head_given, head_octet, given_head, octet_head}
use Rattle.codes.specs.Reading.{Scanned, scanned, field_of, width_of, ReadsIn, scan_in, scan_of, Readable}
use Rattle.codes.specs.Writing.{bytes_of, code_of, fronted, write_of, from}
use Rattle.pfield.specs.declared.Layout.{Layout}
use Rattle.pfield.specs.declared.Preamble.{Preamble}
use Rattle.pfield.specs.declared.Preamble.TheVariants.{Front, Given}
use Rattle.codes.proofs.Fields.{field_width, bytes_width, bytes_read, field_back}
use Rattle.pfield.specs.declared.Head.{Head}

module _ (t : Table) where
  -- ---- what a code says under a setting, and what its T-field says under the layout, are the same
  scan_in_lem : (s : List ℕ) (at : ℕ) (l : Layout) (m : Time) → field_of t s at l ≡ done m → scan_in t s at l ≡ done (scanned (at + width_of l) m)
  unfolding scan_in
  scan_in_lem s at l m h = ap (given (scanned (at + width_of l))) h

  scan_of_lem : (s : List ℕ) (p : Preamble) (e : ℤ) (h : Head) (m : Time) → headed_of All s p e ≡ done h → field_of t s h.start h.layout ≡ done m → scan_of t s p e ≡ done (scanned (h.start + width_of h.layout) m)
  unfolding scan_of
  scan_of_lem s p e h m q r =
      ap (λ (x : Outcome Head). and_then x (λ (h : Head). scan_in t s h.start h.layout)) q ∙ scan_in_lem s h.start h.layout m r

  -- what an answered reading was made of
  pub record Read (s : List ℕ) (p : Preamble) (e : ℤ) (x : Scanned) : Type 0 where
    pub head : Head
    pub heads : headed_of All s p e ≡ done head
    pub reads : field_of t s head.start head.layout ≡ done x.moment
    pub ends : head.start + width_of head.layout ≡ x.used

  pub read_of : (s : List ℕ) (p : Preamble) (e : ℤ) (x : Scanned) → scan_of t s p e ≡ done x → Read s p e x
  unfolding scan_of scan_in
  read_of s p e x h =
      let (k, (q, r)) = then_done (headed_of All s p e) (λ (k : Head). scan_in t s k.start k.layout) x h in
      let (m, (f, i)) = given_done (scanned (k.start + width_of k.layout)) (field_of t s k.start k.layout) x r in
      record { head = k; heads = q; reads = f ∙ ap (λ (y : Scanned). done y.moment) i; ends = ap (λ (y : Scanned). y.used) i }

  -- with the P-field apart: the layout that it gives, and the bytes from their start
  pub record Apart (s : List ℕ) (p : PField) (e : ℤ) (x : Scanned) : Type 0 where
    pub layout : Layout
    pub lays : laid All p e ≡ done layout
    pub reads : field_of t s 0 layout ≡ done x.moment
    pub ends : width_of layout ≡ x.used

  pub read_apart : (s : List ℕ) (p : PField) (e : ℤ) (x : Scanned) → scan_of t s (Given p) e ≡ done x → Apart s p e x
  read_apart s p e x h =
      let r = read_of s (Given p) e x h in
      let (a, b) = given_head All e s p r.head r.heads in
      record { layout = r.head.layout; lays = a; reads = ap (λ (n : ℕ). field_of t s n r.head.layout) (sym b) ∙ r.reads; ends = omega (arith, r.ends, b) }

  -- the times that a setting can read are those of its layout
  readable : (p : PField) (e : ℤ) (l : Layout) → laid All p e ≡ done l → (x : Time) → ReadsIn t l x → Readable t p e x
  readable p e l q x (s, h) = (s, (0 + width_of l, scan_of_lem s (Given p) e (headed 0 l) x (head_given All e s p l q) h))

  reads_in : (p : PField) (e : ℤ) (l : Layout) → laid All p e ≡ done l → (x : Time) → Readable t p e x → ReadsIn t l x
  reads_in p e l q x (s, (n, h)) =
      let r = read_apart s p e (scanned n x) h in
      (s, ap (field_of t s 0) (done_is l r.layout (sym q ∙ r.lays)) ∙ r.reads)

  by_setting : (p : PField) (e : ℤ) (l : Layout) → laid All p e ≡ done l → (r m : Time) → Latest (ReadsIn t l) r m → Latest (Readable t p e) r m
  by_setting p e l q r m w = latest_by (ReadsIn t l) (Readable t p e) r m (readable p e l q) (reads_in p e l q) w

  -- ---- writing
  -- what an answered write was made of
  pub record Wrote-of (r : Time) (o : PField) (e : ℤ) (front : Bool) (code : List ℕ) : Type 0 where
    pub valid : is_record r ≡ true
    pub layout : Layout
    pub lays : laid All o e ≡ done layout
    pub bytes : List ℕ
    pub writes : bytes_of t layout r ≡ done bytes
    pub is : code_of front o bytes ≡ code

  pub wrote_of : (r : Time) (o : PField) (e : ℤ) (front : Bool) (out code : List ℕ) → write_of t r o e front out ≡ done code → Wrote-of r o e front code
  unfolding write_of roomed
  wrote_of r o e front out code h =
      let (v, h₁) = need_done (is_record r) 7 _ code h in
      let (l, (p, h₂)) = then_done (laid All o e) (λ k. and_then (bytes_of t k r) (fronted front o out)) code h₁ in
      let (c, (w, h₃)) = then_done (bytes_of t l r) (fronted front o out) code h₂ in
      let (f, h₄) = need_done (has_room out 0 (code_of front o c)) 8 (done (code_of front o c)) code h₃ in
      record { valid = v; layout = l; lays = p; bytes = c; writes = w; is = done_is _ code h₄ }

  -- a written code, with bytes after it, is read
  read_front : (front : Bool) (o : PField) (e : ℤ) (l : Layout) (c rest : List ℕ) (m : Time) → laid All o e ≡ done l → length c ≡ width_of l
      → ((s u : List ℕ) (at : ℕ) → at ≤ length s → drop at s ≡ c ++ u → field_of t s at l ≡ done m)
      → scan_of t (code_of front o c ++ rest) (from front o) e ≡ done (scanned (length (code_of front o c)) m)
  read_front true o e l c rest m p n f =
      let k : 1 + width_of l ≡ suc (length c) = omega arith in
      scan_of_lem (o.octet ∷ c ++ rest) Front e (headed 1 l) m (head_octet All e o.octet (c ++ rest) l p) (f (o.octet ∷ c ++ rest) rest 1 (omega arith) refl)
      ∙ ap (λ (y : ℕ). done (scanned y m)) k
  read_front false o e l c rest m p n f =
      let k : 0 + width_of l ≡ length c = omega arith in
      scan_of_lem (c ++ rest) (Given o) e (headed 0 l) m (head_given All e (c ++ rest) o l p) (f (c ++ rest) rest 0 (omega arith) refl)
      ∙ ap (λ (y : ℕ). done (scanned y m)) k

  -- a T-field that is to be had is written where there is room
  pub writes_by : (m : Time) (o : PField) (e : ℤ) (front : Bool) (out : List ℕ) (l : Layout) (c : List ℕ) → is_record m ≡ true → laid All o e ≡ done l → bytes_of t l m ≡ done c → length (code_of front o c) ≤ length out → write_of t m o e front out ≡ done (code_of front o c)
  unfolding write_of
  writes_by m o e front out l c v p w h =
      need_yes 7 _ v
      ∙ ap (λ (x : Outcome Layout). and_then x (λ k. and_then (bytes_of t k m) (fronted front o out))) p
      ∙ ap (λ (x : Outcome (List ℕ)). and_then x (fronted front o out)) w
      ∙ room_in (code_of front o c) 0 out (omega arith)

  module _ (g : reckons t ≡ true) where
    -- "writing yields the latest time the target can hold that is not after the source": the written code reads, whatever follows it, to the latest time among all that its setting can read that is not after the source
    pub written_latest : (r : Time) (o : PField) (e : ℤ) (front : Bool) (out code : List ℕ) → write_of t r o e front out ≡ done code
        → (m : Time) × ((Latest (Readable t o e) r m) × ((rest : List ℕ) → scan_of t (code ++ rest) (from front o) e ≡ done (scanned (length code) m)))
    written_latest r o e front out code h =
        let w = wrote_of r o e front out code h in
        let l = w.layout in
        let (m, (late, f)) = bytes_read t g l r w.bytes w.valid w.writes in (
          m,
          (
            by_setting o e l w.lays r m late,
            λ rest. subst (λ (c : List ℕ). scan_of t (c ++ rest) (from front o) e ≡ done (scanned (length c) m)) w.is
                (read_front front o e l w.bytes rest m w.lays (bytes_width t l r w.bytes w.writes) f),
          ),
        )

    -- "A later source never gets an earlier time"
    pub later_written : (r r' : Time) (o : PField) (e : ℤ) (front front' : Bool) (out out' code code' : List ℕ) (p : write_of t r o e front out ≡ done code) (p' : write_of t r' o e front' out' ≡ done code') → NotAfter r r'
        → NotAfter (written_latest r o e front out code p).0 (written_latest r' o e front' out' code' p').0
    later_written r r' o e front front' out out' code code' p p' h =
        let w = written_latest r o e front out code p in
        let w' = written_latest r' o e front' out' code' p' in
        later_source (Readable t o e) r w.0 w.1.0 r' w'.0 w'.1.0 h

    -- "Writing what was read, with the same settings and epoch, gives the same bytes"
    -- the P-field supplied apart
    pub read_written : (s : List ℕ) (o : PField) (e : ℤ) (out : List ℕ) (x : Scanned) → scan_of t s (Given o) e ≡ done x → x.used ≤ length out → write_of t x.moment o e false out ≡ done (take x.used s)
    read_written s o e out x h k =
        let r = read_apart s o e x h in
        let l = r.layout in
        let (v, b) = field_back t g s 0 l x.moment r.reads in
        let f : length (take (width_of l) s) ≤ length out = omega (arith, r.ends, length-take-le (width_of l) s (omega (arith, field_width t s 0 l x.moment r.reads))) in
        writes_by x.moment o e false out l (take (width_of l) s) v r.lays b f ∙ ap (λ (y : ℕ). done (take y s)) r.ends

    -- .. or read from the front
    pub read_written_front : (s : List ℕ) (e : ℤ) (out : List ℕ) (x : Scanned) → scan_of t s Front e ≡ done x → x.used ≤ length out → write_of t x.moment (octet (get_or s 0 0)) e true out ≡ done (take x.used s)
    read_written_front s e out x h k =
        let r = read_of s Front e x h in
        let (some, a, b) = octet_head All e s r.head r.heads in
        let l = r.head.layout in
        let q : field_of t s 1 l ≡ done x.moment = ap (λ (n : ℕ). field_of t s n l) (sym b) ∙ r.reads in
        go s x.used l q (omega (arith, r.ends, b)) k some a
      where
        go : (s : List ℕ) (n : ℕ) (l : Layout) → field_of t s 1 l ≡ done x.moment → suc (width_of l) ≡ n → n ≤ length out → 1 ≤ length s → laid All (octet (get_or s 0 0)) e ≡ done l → write_of t x.moment (octet (get_or s 0 0)) e true out ≡ done (take n s)
        go [] n l q i k some a = absurd (omega arith)
        go (o ∷ s) n l q i k some a =
            let (v, b) = field_back t g (o ∷ s) 1 l x.moment q in
            let f : length (o ∷ take (width_of l) s) ≤ length out = omega (arith, i, length-take-le (width_of l) s (omega (arith, field_width t (o ∷ s) 1 l x.moment q))) in
            writes_by x.moment (octet o) e true out l (take (width_of l) s) v a b f ∙ ap (λ (y : ℕ). done (take y (o ∷ s))) i
