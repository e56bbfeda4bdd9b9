use Rattle.std.proofs.Common.{refl, ap, map, arith}
use mathlib.Core.Logic.{⊎_elim}
use Rattle.base.specs.Parts.{lowered_by}
use Rattle.base.proofs.Ladders.{need_yes, need_no}
use Rattle.leap.specs.Builtin.{builtin}
use Rattle.leap.specs.Utc.{second_raise}
use Rattle.window.proofs.Moments.{empty}
use Rattle.window.proofs.Room.{fill_start, fill_done, lists_refused}
use Rattle.seek.specs.Naming.{names, list_of}
use Rattle.seek.proofs.Days.{window_in, window_before, window_after}
use Rattle.seek.proofs.Search.{reading_told, reading_is}
use Rattle.seek.proofs.list.Goals as goal

pub returns-then-from-lt-FIRST_RAISED : goal.returns-then-from-lt-FIRST_RAISED
unfolding list_of
returns-then-from-lt-FIRST_RAISED c =
    let a = c.args in
    lists_refused _ _ _ (need_no 5 _ (⊎_elim (window_before a.from a.to) (λ h. window_after a.from a.to h.1) c.then-from-lt-FIRST_RAISED.either))

pub returns-then-to-from : goal.returns-then-to-from
unfolding list_of
returns-then-to-from c =
    let a = c.args in
    rw (need_yes 5 _ (window_in a.from a.to (omega arith) (omega arith)))
    (fill_done (ap (map (lowered_by second_raise)) (empty (names builtin a.wants) (omega arith))) (fill_start a.out.now refl) a.wants.ticks)

pub unwrap-last-requires : goal.unwrap-last-requires
unwrap-last-requires c = rw (reading_told _ _ (omega arith) (omega arith) c.reading_at.ensures)

pub invariant_of-moments : goal.invariant_of-moments
invariant_of-moments c =
    let h = reading_is c.reading_at.ensures c.unwrap-last.ensures in
    record { covered = (omega arith, omega arith); ends = (omega arith, omega arith, omega arith) }

pub returns : goal.returns
unfolding list_of
returns c =
    let a = c.args in
    rw (need_yes 5 _ (window_in a.from a.to (omega arith) (omega arith))) c.fill.ensures
