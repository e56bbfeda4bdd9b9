-- What a code promises of moments, lifted to records by any table that reckons: once for CDS, CCS and ASCII.
use mathlib.Core.Path.{◌≡◌, refl, ap, ◌∙◌}
use mathlib.Core.Bool.{Bool, true, false}
use mathlib.Core.List.{List, ◌++◌}
use lib.ListN.{length, drop}
use Prim.Native.Nat.{ℕ, ◌<◌, ◌≤◌}
use native.Mathlib.Omega.{arith}
use lib.Dec.{leb}
use borrow.Author.Tests.{leb-true, leb-false}
use Rattle.base.specs.Outcome.{Outcome, done, and_then}
use Rattle.base.proofs.Ladders.{then_done}
use Rattle.base.proofs.Signed.{le_yes, le_so}
use Rattle.scale.specs.Time.{Time, per_second, worth, is_record}
use Rattle.scale.specs.Latest.{NotAfter, Latest}
use Rattle.scale.proofs.Laws.{worth_parts, record_ticks}
use Rattle.scale.proofs.Latest.{latest_by}
use Rattle.leap.specs.Table.{Table}
use Rattle.leap.specs.Utc.{second_of_utc}
use Rattle.moment.specs.Moment.{is_moment, Floor}
use Rattle.moment.proofs.Laws.{moment_parts}
use Rattle.moment.specs.declared.Moment.{Moment}
use Rattle.utc.specs.Reckoning.{time_of, moment_of, read_by, written_by, reckons, HadBy}
use Rattle.utc.proofs.Laws.{time, time_told, time_done, moment_ticks, time_back, moment_back, time_valid}

-- ---- what a reading by the table was made of
pub record Read (t : Table) (o : Outcome Moment) (x : Time) : Type 0 where
  pub moment : Moment
  pub named : o ≡ done moment
  pub is : time_of t moment ≡ done x

pub read_of : (t : Table) (o : Outcome Moment) (x : Time) → read_by t o ≡ done x → Read t o x
read_of t o x e = let (m, (a, b)) = then_done o (time_of t) x e in record { moment = m; named = a; is = b }

pub read_so : (t : Table) (o : Outcome Moment) (m : Moment) (x : Time) → o ≡ done m → time_of t m ≡ done x → read_by t o ≡ done x
read_so t o m x e f = ap (λ (y : Outcome Moment). and_then y (time_of t)) e ∙ f

-- and a writing
pub record Written (t : Table) {A : Type 0} (code : Moment → Outcome A) (r : Time) (a : A) : Type 0 where
  pub moment : Moment
  pub of : moment_of t r ≡ done moment
  pub writes : code moment ≡ done a

pub written_of : (t : Table) {A : Type 0} (code : Moment → Outcome A) (r : Time) (a : A) → written_by t code r ≡ done a → Written t code r a
written_of t code r a e = let (m, (p, q)) = then_done (moment_of t r) code a e in record { moment = m; of = p; writes = q }

pub written_so : (t : Table) {A : Type 0} (code : Moment → Outcome A) (r : Time) (m : Moment) → moment_of t r ≡ done m → written_by t code r ≡ code m
written_so t code r m e = ap (λ (y : Outcome Moment). and_then y code) e

module _ (t : Table) (g : reckons t ≡ true) where
  -- ---- a time that was read is written as its moment
  pub read_again : {A : Type 0} (o : Outcome Moment) (code : Moment → Outcome A) (x : Time) (e : read_by t o ≡ done x) → written_by t code x ≡ code (read_of t o x e).moment
  read_again o code x e = let r = read_of t o x e in written_so t code x r.moment (time_back t g r.moment x r.is)

  pub read_record : (o : Outcome Moment) (x : Time) → read_by t o ≡ done x → ((m : Moment) → o ≡ done m → m.ticks < per_second) → is_record x ≡ true
  read_record o x e h = let r = read_of t o x e in time_valid t g r.moment x r.is (h r.moment r.named)

  -- ---- the floor of a source's moment is the latest time that is not after the source
  module _ (Has : Moment → Type 0) (small : (m : Moment) → Has m → m.ticks < per_second) (r : Time) (m n : Moment) (v : is_record r ≡ true) (e : moment_of t r ≡ done m) (f : Floor Has m n) where
    abbrev pub floored : Time
    floored = time r.sec n.ticks

    same_ticks : m.ticks ≡ r.ticks
    same_ticks = moment_ticks t r m e

    pub floor_is : time_of t n ≡ done floored
    floor_is =
        time_done t n r.sec
        ((λ i. second_of_utc t (f.day i) (f.second i)) ∙ (time_told t m r (moment_back t g r m e)).0)

    -- a time that can be had is no later than the floor, in its second or before it
    none_between : (x : Time) → x.ticks < per_second → (x.ticks ≤ r.ticks → x.ticks ≤ n.ticks) → NotAfter x r → NotAfter x floored
    none_between x h k l = go (leb x.ticks r.ticks) refl
      where
        go : (b : Bool) → leb x.ticks r.ticks ≡ b → NotAfter x floored
        go true p =
            let q : x.ticks ≤ n.ticks = k (leb-true x.ticks r.ticks p) in
            le_so (worth x) (worth floored) (omega (arith, q, h, record_ticks r v, le_yes (worth x) (worth r) l, worth_parts x, worth_parts r, worth_parts floored))
        go false p =
            le_so (worth x) (worth floored) (omega (arith, leb-false x.ticks r.ticks p, h, record_ticks r v, le_yes (worth x) (worth r) l, worth_parts x, worth_parts r, worth_parts floored))

    pub floor_latest : Latest (HadBy t Has) r floored
    floor_latest = record {
      had = (n, (f.had, floor_is));
      not_after = le_so (worth floored) (worth r) (omega (arith, f.below, same_ticks, worth_parts floored, worth_parts r));
      no_later = λ x (k, (h, i)) l.
          let q = (time_told t k x i).1 in
          none_between x (rw q (small k h)) (λ y. rw q (f.most k h (omega (arith, y, q, same_ticks)))) l;
    }

  -- ---- a code of fields in bytes: what it reads from a place on, and what it writes of a moment
  module _ (field : List ℕ → ℕ → Outcome Moment) (bytes : Moment → Outcome (List ℕ)) where
    abbrev Names : Moment → Type 0
    Names m = (s : List ℕ) × (field s 0 ≡ done m)

    abbrev pub Stands : List ℕ → Moment → Type 0
    Stands code n = (s u : List ℕ) (at : ℕ) → at ≤ length s → drop at s ≡ code ++ u → field s at ≡ done n

    -- what it writes reads, wherever it stands, to the latest time that some bytes read to and that is not after the source
    pub lift_written : ((s : List ℕ) (at : ℕ) (m : Moment) → field s at ≡ done m → is_moment m ≡ true)
        → ((m : Moment) (code : List ℕ) → bytes m ≡ done code → (n : Moment) × (Floor Names m n × Stands code n))
        → (r : Time) (code : List ℕ) → is_record r ≡ true → written_by t bytes r ≡ done code
        → (x : Time) × (Latest (λ y. (s : List ℕ) × (read_by t (field s 0) ≡ done y)) r x × ((s u : List ℕ) (at : ℕ) → at ≤ length s → drop at s ≡ code ++ u → read_by t (field s at) ≡ done x))
    lift_written valid written r code v e =
        let w = written_of t bytes r code e in
        let (n, (f, stands)) = written w.moment code w.writes in
        let small : (m : Moment) → Names m → m.ticks < per_second = λ m (s, h). (moment_parts m (valid s 0 m h)).1 in
        let x = floored Names small r w.moment n v w.of f in
        let i = floor_is Names small r w.moment n v w.of f in (
          x,
          (
            latest_by (HadBy t Names) (λ y. (s : List ℕ) × (read_by t (field s 0) ≡ done y)) r x
                (λ y (m, ((s, h), k)). (s, read_so t (field s 0) m y h k))
                (λ y (s, h). let q = read_of t (field s 0) y h in (q.moment, ((s, q.named), q.is)))
                (floor_latest Names small r w.moment n v w.of f),
            λ s u at h k. read_so t (field s at) n x (stands s u at h k) i,
          ),
        )

    -- and what it reads is a record, written back to the same bytes
    pub lift_read : ((s : List ℕ) (at : ℕ) (m : Moment) → field s at ≡ done m → is_moment m ≡ true)
        → (s : List ℕ) (at : ℕ) (x : Time) (code : List ℕ) → read_by t (field s at) ≡ done x
        → ((m : Moment) → field s at ≡ done m → bytes m ≡ done code)
        → (is_record x ≡ true) × (written_by t bytes x ≡ done code)
    lift_read valid s at x code e back =
        (read_record (field s at) x e (λ m h. (moment_parts m (valid s at m h)).1), read_again (field s at) bytes x e ∙ back _ (read_of t (field s at) x e).named)
