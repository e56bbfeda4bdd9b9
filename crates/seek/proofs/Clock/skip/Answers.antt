use Rattle.std.proofs.Common.{refl, sym, ◌∙◌, arith, rules, tests}
use Rattle.seek.proofs.Fields.{past_sixty, leap_fits, leap_not, skip_hour, skip_minute, skip_second, skip_day}
use Rattle.seek.proofs.Clock.skip.Goals as goal

pub returns-then-fits : goal.returns-then-fits
returns-then-fits c = leap_fits _ _ _ c.if-s-eq86400.true (sym c.fits.ensures ∙ c.if-fits.true) refl

pub returns-else-fits : goal.returns-else-fits
returns-else-fits c = leap_not _ _ _ c.if-s-eq86400.true (sym c.fits.ensures ∙ c.if-fits.false) refl

pub returns-then-is_some_and : goal.returns-then-is_some_and
returns-then-is_some_and c =
    skip_day _ _ (omega (arith, c.if-s-eq86400.false)) (past_sixty _ _ c.if-is_some_and.ensures (λ v q. search (rules, tests))) _ refl

pub returns-then-s-h : goal.returns-then-s-h
returns-then-s-h c =
    skip_hour _ _ (omega (arith, c.if-s-eq86400.false)) c.ahead-h.result _ c.ahead-h.ensures (omega arith) (omega (arith, c.min.ensures))

pub returns-then-s-m : goal.returns-then-s-m
returns-then-s-m c =
    skip_minute _ _ (omega (arith, c.if-s-eq86400.false)) c.ahead-m.result _ c.ahead-m.ensures (omega arith) (omega arith)

pub returns : goal.returns
returns c =
    skip_second _ _ (omega (arith, c.if-s-eq86400.false)) c.ahead-h.result c.ahead-m.result _
    c.ahead-h.ensures (omega arith) c.ahead-m.ensures (omega arith) c.ahead.ensures
