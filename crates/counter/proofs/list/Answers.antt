use Rattle.std.proofs.Common.{◌≡◌, ◌-◌, arith, rules}
use Rattle.std.specs.Int.{div_ceil}
use Rattle.std.proofs.lemmas.Grind.{common_steps}
use Rattle.std.proofs.lemmas.List.{append-nil, take_all, drop_all}
use Rattle.base.proofs.Ladders.{need_yes, need_no}
use Rattle.window.proofs.Room.{lists_refused}
use Rattle.counter.specs.Counter.{list_of}
use Rattle.counter.proofs.Laws.{Good, bad_so, good_so}
use Rattle.counter.proofs.Onward.{all_left}
use Rattle.counter.proofs.list.Goals.{then-not-contains-via-then-not-contains, then-not-contains-via-else-not-contains+then-max-gt-MOST}
use Rattle.counter.proofs.list.Goals as goal

pub returns-then-not-contains : goal.returns-then-not-contains
unfolding list_of
returns-then-not-contains c =
    let a = c.args in
    lists_refused _ _ _ (need_no 7 _ (bad_so a.base a.period a.from a.to (λ g. elim c.then-not-contains.branch [
      | then-not-contains-via-then-not-contains w ↦ let h = w.if-not-contains.ensures in grind (arith, common_steps)
      | then-not-contains-via-else-not-contains+then-max-gt-MOST w ↦ omega arith
    ])))

pub returns : goal.returns
unfolding list_of
returns c =
    let a = c.args in
    let e : c.div_ceil.result ≡ div_ceil (a.from - a.base) a.period = cc in
    let g : Good a.base a.period a.from a.to = record { some = search rules; short = grind (arith, common_steps); based = omega arith; starts = omega arith; ends = omega arith } in
    rw (need_yes 7 _ (good_so _ _ _ _ g), all_left _ _ _ _ _ g.some e) (grind (arith, append-nil, take_all, drop_all))
