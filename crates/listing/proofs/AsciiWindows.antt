-- An ASCII window, on the axis of leap's raised seconds.
use mathlib.Core.Bool.{Bool, true, false, cond, not}
use mathlib.Core.List.{List}
use mathlib.Core.Path.{◌≡◌, sym, ◌∙◌}
use Prim.Native.Nat.{ℕ, ◌+◌, ◌-◌, ◌^◌, ◌≤◌}
use native.Mathlib.Omega.{arith}
use borrow.Author.Tests.{le-ltb, le-leb, not-true}
use lib.Dec.{ltb}
use lib.IntN.{ℤ}
use Rattle.base.proofs.Bools.{and_true, and_yes}
use Rattle.base.proofs.Ladders.{need_yes}
use Rattle.base.proofs.Signed.{apart}
use Rattle.scale.specs.Time.{Time, earlier}
use Rattle.leap.specs.Table.{Table, start}
use Rattle.leap.specs.Utc.{second_raise}
use Rattle.window.specs.Seconds.{raised_by, first_second}
use Rattle.window.specs.Window.{Lists}
use Rattle.window.proofs.Seconds.{lowered_from, raised_lowered}
use Rattle.seek.specs.declared.Wants.{Wants}
use Rattle.seek.specs.Naming.{covers_window, list_of}
use Rattle.listing.specs.Records.{start_at, moments_in}
use Rattle.listing.specs.AsciiTag.{onset, covered, list_wanted}
use Rattle.listing.proofs.Windows.{Ordered, windowed_yes}
use Rattle.listing.proofs.Records.{From, later_from, start_up}
use Rattle.std.specs.Prelude.{Result}
use Rattle.base.specs.declared.Refusal.{Refusal}
use Rattle.window.specs.declared.Listed.{Listed}

-- from one bias to the other
abbrev pub second_shift : ℕ
second_shift = 2 ^ 41 - second_raise

pub start_shift : (k : ℕ) (t : Time) → From second_raise t → start_at (2 ^ 41) k t ≡ start_at second_raise k t + second_shift
unfolding start_at first_second
start_shift k t h = go (ltb k t.ticks)
  where
    go : (b : Bool) → cond b (raised_by (2 ^ 41) t.sec + 1) (raised_by (2 ^ 41) t.sec) ≡ cond b (raised_by second_raise t.sec + 1) (raised_by second_raise t.sec) + second_shift
    go true = omega (arith, h, apart t.sec)
    go false = omega (arith, h, apart t.sec)

onset_start : (k s : ℕ) → start_at second_raise k (onset s) ≡ s
unfolding start_at first_second
onset_start k s = rw (le-ltb k 0 (omega arith)) (raised_lowered second_raise s)

module _ (table : Table) where
  -- a window in the cover
  pub record Covered (k : ℕ) (from to : Time) : Type 0 where
    pub starts : From second_raise from
    pub ends : From second_raise to
    pub low : start table table.first.day ≤ start_at second_raise k from
    pub high : start_at second_raise k to ≤ start table (table.last + 1)

  pub covered_is : (k : ℕ) (from to : Time) → Ordered from to → covered table from to ≡ true → Covered k from to
  unfolding covered
  covered_is k from to o e =
      let first = start table table.first.day in
      let past = start table (table.last + 1) in
      let (a, b) = and_true (not (earlier from (onset first))) (not (earlier (onset past) to)) e in
      let f = not-true (earlier from (onset first)) a in
      let g = not-true (earlier (onset past) to) b in
      let s : From second_raise from = later_from second_raise from (onset first) (lowered_from second_raise first) f in
      let t : From second_raise to = later_from second_raise to from s o.in_order in
      record {
        starts = s;
        ends = t;
        low = omega (arith, onset_start k first, start_up second_raise k (onset first) from (lowered_from second_raise first) f);
        high = omega (arith, onset_start k past, start_up second_raise k to (onset past) t g);
      }

  module _ (from to : Time) (g : Wants) (o : Ordered from to) (e : covered table from to ≡ true) where
    wanted_lists : list_of table g (start_at second_raise g.ticks from) (start_at second_raise g.ticks to) ≡ list_wanted table from to g
    unfolding list_of list_wanted covers_window moments_in
    wanted_lists =
        let c = covered_is g.ticks from to o e in
        need_yes 5 _ (and_yes _ (le-leb _ _ c.low) ∙ le-leb _ _ c.high)
        ∙ sym (windowed_yes from to _ o ∙ need_yes 5 _ e)

    pub wanted_by : (x y : ℕ) {entry exit : List ℤ} {r : Result Listed Refusal} → Lists (list_of table g x y) entry exit r → x + second_shift ≡ start_at (2 ^ 41) g.ticks from → y + second_shift ≡ start_at (2 ^ 41) g.ticks to → Lists (list_wanted table from to g) entry exit r
    wanted_by x y l f h =
        let c = covered_is g.ticks from to o e in
        let p : x ≡ start_at second_raise g.ticks from = omega (arith, f, start_shift g.ticks from c.starts) in
        let q : y ≡ start_at second_raise g.ticks to = omega (arith, h, start_shift g.ticks to c.ends) in
        rw (← wanted_lists, ← p, ← q) l
