use Rattle.std.proofs.Common.{◌≡◌, sym, ◌∙◌, Err, arith, rules}
use Rattle.base.proofs.Ladders.{need_no}
use Rattle.scale.specs.Answers.{recorded}
use Rattle.leap.specs.Builtin.{builtin}
use Rattle.window.proofs.Room.{lists_refused}
use Rattle.listing.specs.AsciiTag.{list_wanted}
use Rattle.listing.proofs.Windows.{windowed_yes, ends_told, ends_refused}
use Rattle.listing.proofs.AsciiWindows.{start_shift, covered_is, wanted_by}
use Rattle.listing.proofs.list_wanted.Goals as goal

pub returns-in_err-start : goal.returns-in_err-start
unfolding list_wanted
returns-in_err-start c =
    let a = c.args in
    let e : c.from_residual.result ≡ Err c.in_err-start.field-0.0 = search rules in
    rw e (lists_refused _ _ _ (ends_refused (recorded a.from) (recorded a.to) a.wants.ticks _ _ (sym c.in_err-start.ensures)))

pub returns-then-not-covered : goal.returns-then-not-covered
unfolding list_wanted
returns-then-not-covered c =
    let a = c.args in
    let (o, f, t) = ends_told (recorded a.from) (recorded a.to) a.wants.ticks _ _ (sym c.in_ok-start.ensures) in
    lists_refused _ _ _ (windowed_yes (recorded a.from) (recorded a.to) _ o ∙ need_no 5 _ (sym c.covered.ensures ∙ c.if-not-covered.true))

pub overflow_sub-start : goal.overflow_sub-start
overflow_sub-start c =
    let a = c.args in
    let (o, f, t) = ends_told (recorded a.from) (recorded a.to) a.wants.ticks _ _ (sym c.in_ok-start.ensures) in
    let k = covered_is builtin a.wants.ticks (recorded a.from) (recorded a.to) o (sym c.covered.ensures ∙ c.if-not-covered.false) in
    omega (arith, f, start_shift a.wants.ticks (recorded a.from) k.starts)

pub overflow_sub-end : goal.overflow_sub-end
overflow_sub-end c =
    let a = c.args in
    let (o, f, t) = ends_told (recorded a.from) (recorded a.to) a.wants.ticks _ _ (sym c.in_ok-start.ensures) in
    let k = covered_is builtin a.wants.ticks (recorded a.from) (recorded a.to) o (sym c.covered.ensures ∙ c.if-not-covered.false) in
    omega (arith, t, start_shift a.wants.ticks (recorded a.to) k.ends)

pub returns : goal.returns
returns c =
    let a = c.args in
    let (o, f, t) = ends_told (recorded a.from) (recorded a.to) a.wants.ticks _ _ (sym c.in_ok-start.ensures) in
    let i = sym c.covered.ensures ∙ c.if-not-covered.false in
    let k = covered_is builtin a.wants.ticks (recorded a.from) (recorded a.to) o i in
    wanted_by builtin (recorded a.from) (recorded a.to) a.wants o i _ _ c.list.ensures
    (omega (arith, f, start_shift a.wants.ticks (recorded a.from) k.starts)) (omega (arith, t, start_shift a.wants.ticks (recorded a.to) k.ends))
