use Rattle.std.specs.Prelude.{◌≡◌}
use Rattle.std.proofs.Common.{rules}
use Rattle.std.proofs.lemmas.List.{nil_from_length}
use Rattle.drift.specs.Inner.{says_tally, none_of}
use Rattle.drift.proofs.Runs.{begins, goes_on, ends, empty}
use Rattle.drift.proofs.report_on.Goals as goal

pub returns-in_default : goal.returns-in_default
returns-in_default c =
    let e : says_tally c.default-tally.result ≡ none_of = search rules in
    rw (e, empty c.args.run.now (nil_from_length _ c.in_default.ensures.cases)) at c.report.ensures

pub loop-place-init : goal.loop-place-init
loop-place-init c =
    let e : says_tally c.default-tally.result ≡ none_of = search rules in
    begins c.args.run.now c.in-Some.rest.now c.in-Some.first.now _ _ c.in-Some.ensures.cases.0 e (rw c.judged-held.ensures c.from.ensures)

pub loop-place-preserved : goal.loop-place-preserved
loop-place-preserved c =
    goes_on _ c.in-Some.rest.now c.loop-place.place _ _ c.loop-place.invariant _ _ _ c.loop-place-test.true (rw c.judged-next.ensures c.from-in-loop-place.ensures) c.between.ensures c.note.ensures.one_more c.note.ensures.noted

pub returns : goal.returns
returns c = rw (ends _ _ _ _ _ c.loop-place.invariant c.loop-place-test.false) at c.report-2.ensures
