-- What reading and writing ASCII codes promise together, as records, by any table that reckons.
use mathlib.Core.Path.{◌≡◌, sym, ap, ◌∙◌}
use mathlib.Core.Bool.{true, false}
use mathlib.Core.List.{List}
use Prim.Native.Nat.{ℕ, ◌<◌}
use lib.ListN.{length}
use Rattle.base.specs.Outcome.{Outcome, done, refused, and_then}
use Rattle.base.proofs.Ladders.{need_yes, need_no, need_done, done_is}
use Rattle.scale.specs.Time.{Time, per_second, is_record}
use Rattle.scale.specs.Latest.{NotAfter, Latest}
use Rattle.scale.proofs.Laws.{record_ticks}
use Rattle.scale.proofs.Latest.{latest_by, later_source, own_latest}
use Rattle.leap.specs.Table.{Table}
use Rattle.leap.specs.Utc.{utc_of_second}
use Rattle.leap.specs.declared.Utc.{Utc}
use Rattle.moment.specs.Moment.{moment}
use Rattle.moment.specs.declared.Moment.{Moment}
use Rattle.moment.proofs.Laws.{moment_parts}
use Rattle.utc.specs.Reckoning.{written_by, reckons, HadBy}
use Rattle.utc.proofs.Laws.{moment_done, moment_refused, moment_valid, moment_index}
use Rattle.utc.proofs.Lift.{read_of, read_so, written_of, written_so, read_again, read_record, floored, floor_is, floor_latest, Written}
use Rattle.ascii.specs.Ascii.{is_layout, width, layout_of, text, bytes_of, Reads}
use Rattle.ascii.specs.declared.Layout.{Layout}
use Rattle.ascii.proofs.Promises as A
use Rattle.codes.specs.Text.{text_of, letters, Spelled}

module _ (t : Table) where
  -- ---- what an answered write was made of
  pub record Lettered (l : Layout) (r : Time) (code : List ℕ) : Type 0 where
    pub valid : is_record r ≡ true
    pub layout : is_layout l ≡ true
    pub by : Written t (bytes_of l) r code

  pub lettered : (l : Layout) (r : Time) (code : List ℕ) → letters t l r ≡ done code → Lettered l r code
  unfolding letters
  lettered l r code e =
      let (v, f) = need_done (is_record r) 7 _ code e in
      let (h, k) = need_done (is_layout l) 3 _ code f in
      record { valid = v; layout = h; by = written_of t (bytes_of l) r code k }

  pub write_width : (l : Layout) (r : Time) (code : List ℕ) → letters t l r ≡ done code → length code ≡ width l
  write_width l r code e = let w = (lettered l r code e).by in A.write_width l w.moment code w.writes

  pub written_layout : (l : Layout) (r : Time) (code : List ℕ) → letters t l r ≡ done code → layout_of code ≡ l
  written_layout l r code e = let w = (lettered l r code e).by in A.written_layout l w.moment code w.writes

  -- ---- its rungs: an invalid record 7, then digits over 12 3, then a second that the table does not cover 5
  pub invalid_refused : (l : Layout) (r : Time) → is_record r ≡ false → letters t l r ≡ refused 7
  unfolding letters
  invalid_refused l r e = need_no 7 _ e

  pub digits_refused : (l : Layout) (r : Time) → is_record r ≡ true → is_layout l ≡ false → letters t l r ≡ refused 3
  unfolding letters
  digits_refused l r v e = need_yes 7 _ v ∙ need_no 3 _ e

  module _ (l : Layout) (r : Time) (v : is_record r ≡ true) (h : is_layout l ≡ true) where
    pub letters_by : letters t l r ≡ written_by t (bytes_of l) r
    unfolding letters
    letters_by = need_yes 7 _ v ∙ need_yes 3 _ h

    pub uncovered_refused : utc_of_second t r.sec ≡ refused 5 → letters t l r ≡ refused 5
    uncovered_refused e = letters_by ∙ ap (λ (x : Outcome Moment). and_then x (bytes_of l)) (moment_refused t r 5 e)

  module _ (g : reckons t ≡ true) where
    -- "ASCII hold[s] every covered moment"
    pub covered_written : (l : Layout) (r : Time) → is_record r ≡ true → is_layout l ≡ true → (u : Utc) → utc_of_second t r.sec ≡ done u → (code : List ℕ) × (letters t l r ≡ done code)
    covered_written l r v h u e =
        let m = moment u.day u.second r.ticks in
        let i = moment_done t r u e in
        let (n, k) = moment_index t g r m i in
        (_, letters_by l r v h ∙ written_so t (bytes_of l) r m i ∙ A.written l m h (moment_valid t g r m v i) n k)

    -- ---- reading
    small : (s : List ℕ) (m : Moment) → text s ≡ done m → m.ticks < per_second
    small s m e = (moment_parts m (A.read_valid s m e)).1

    own_layout : (s : List ℕ) (m : Moment) → text s ≡ done m → is_layout (layout_of s) ≡ true
    unfolding bytes_of
    own_layout s m e = (need_done (is_layout (layout_of s)) 3 _ s (A.read_written s m e)).0

    -- what was read is a valid record
    pub read_valid : (s : List ℕ) (x : Time) → text_of t s ≡ done x → is_record x ≡ true
    read_valid s x e = read_record t g (text s) x e (small s)

    -- what was read, written with the text's own form, digits and Z, gives the same bytes
    pub read_written : (s : List ℕ) (x : Time) → text_of t s ≡ done x → letters t (layout_of s) x ≡ done s
    read_written s x e =
        let r = read_of t (text s) x e in
        letters_by (layout_of s) x (read_valid s x e) (own_layout s r.moment r.named)
        ∙ read_again t g (text s) (bytes_of (layout_of s)) x e
        ∙ A.read_written s r.moment r.named

    -- ---- writing
    -- "writing yields the latest time the target can hold that is not after the source", and a written code reads to that time
    pub written_reads : (l : Layout) (r : Time) (code : List ℕ) → letters t l r ≡ done code → (x : Time) × ((Latest (Spelled t l) r x) × (text_of t code ≡ done x))
    written_reads l r code e =
        let w = lettered l r code e in
        let m = w.by.moment in
        let (n, (f, k)) = A.written_reads l m code w.by.writes in
        let low : (m : Moment) → Reads l m → m.ticks < per_second = λ m q. small q.code m q.read in
        let x = floored t g (Reads l) low r m n w.valid w.by.of f in (
          x,
          (
            latest_by (HadBy t (Reads l)) (Spelled t l) r x
                (λ y (m, (q, i)). record { code = q.code; read = read_so t (text q.code) m y q.read i; own = q.own })
                (λ y q. let p = read_of t (text q.code) y q.read in (p.moment, (record { code = q.code; read = p.named; own = q.own }, p.is)))
                (floor_latest t g (Reads l) low r m n w.valid w.by.of f),
            read_so t (text code) n x k (floor_is t g (Reads l) low r m n w.valid w.by.of f),
          ),
        )

    -- ---- order
    module _ (l : Layout) (r : Time) (code : List ℕ) (x : Time) (e : letters t l r ≡ done code) (f : text_of t code ≡ done x) where
      pub latest_is : Latest (Spelled t l) r x
      latest_is =
          let (n, (a, b)) = written_reads l r code e in
          let h : n ≡ x = done_is n x (sym b ∙ f) in
          rw h at a

      -- a later source never gets an earlier time
      pub later_written : (r' : Time) (code' : List ℕ) (x' : Time) → letters t l r' ≡ done code' → text_of t code' ≡ done x' → NotAfter r r' → NotAfter x x'
      later_written r' code' x' e' f' h =
          let (n, (a, b)) = written_reads l r' code' e' in
          let k : n ≡ x' = done_is n x' (sym b ∙ f') in
          later_source (Spelled t l) r x latest_is r' x' (rw k at a) h

      -- a time that the layout can hold is written exactly
      pub own_written : Spelled t l r → x ≡ r
      own_written h = own_latest (Spelled t l) r x latest_is (record_ticks x (read_valid code x f)) (record_ticks r (read_valid h.code r h.read)) h
