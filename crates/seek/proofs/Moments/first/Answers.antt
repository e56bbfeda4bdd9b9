use Rattle.std.proofs.Common.{sym, ap, ◌∙◌, ◌+◌, Some, arith}
use Rattle.leap.specs.Builtin.{builtin}
use Rattle.leap.proofs.Builtin.{builtin_good, day_in_lem}
use Rattle.leap.proofs.Days.{start_mono, length_range}
use Rattle.window.proofs.Moments.{first_at, first_none}
use Rattle.seek.specs.Naming.{names}
use Rattle.seek.proofs.Days.{span_told, span_is}
use Rattle.seek.proofs.Search.{reading_told, reading_is, search_start, search_end, search_on, search_past, search_over, search_found}
use Rattle.seek.proofs.Moments.first.Goals.{then-fits+else-fields-test, else-fits}
use Rattle.seek.proofs.Moments.first.Goals as goal

pub returns-then-self : goal.returns-then-self
returns-then-self c = sym (first_none (names builtin c.args.self.now.wants) (λ k l h. absurd (omega arith)))

pub unwrap-first-requires : goal.unwrap-first-requires
unwrap-first-requires c = rw (reading_told c.args.self.now.at _ (omega arith) (omega arith) c.reading_at.ensures)

pub days-init : goal.days-init
days-init c =
    let h = reading_is c.reading_at.ensures c.unwrap-first.ensures in
    (h.low, search_start builtin builtin_good _ _ _ _ _ h.exact h.before)

pub unwrap-span-requires : goal.unwrap-span-requires
unwrap-span-requires c = rw (span_told _ _ c.days.invariant.0 (omega arith) c.day_at.ensures)

pub overflow_sub-self : goal.overflow_sub-self
overflow_sub-self c =
    omega (arith, span_is c.days.invariant.0 (omega arith) c.day_at.ensures c.unwrap-span.ensures, start_mono builtin builtin_good _ c.args.self.now.last c.if-self-day.false)

pub skip-t-requires : goal.skip-t-requires
skip-t-requires c =
    omega (arith, span_is c.days.invariant.0 (omega arith) c.day_at.ensures c.unwrap-span.ensures, length_range builtin builtin_good c.days.day)

pub fields-preserved : goal.fields-preserved
fields-preserved c =
    search_on builtin builtin_good _ _ _ _ (day_in_lem _ c.days.invariant.0 (omega arith)) c.fields.s c.skip-t.result c.skip-t.ensures c.fields.invariant

pub days-preserved : goal.days-preserved
days-preserved c =
    let t = day_in_lem c.days.day c.days.invariant.0 (omega arith) in (
      omega (arith, c.days.invariant.0),
      elim c.if-fits.branch [
        | then-fits+else-fields-test w ↦ search_past builtin builtin_good _ _ _ _ t w.fields.s w.min-end.result (omega (arith, span_is c.days.invariant.0 (omega arith) w.day_at.ensures w.unwrap-span.ensures)) w.fields-test.false w.fields.invariant
        | else-fits w ↦ search_over builtin builtin_good _ _ _ _ t c.days.s (sym c.fits.ensures ∙ w.if-fits.false) c.days.invariant.1
      ],
    )

pub returns-then-self-day : goal.returns-then-self-day
returns-then-self-day c =
    let s = c.args.self.now in
    sym (first_none _ (search_end builtin builtin_good s.wants s.at s.to s.last c.days.day c.days.s s.ends.1 c.if-self-day.true c.days.invariant.1))

pub returns-then-t-s : goal.returns-then-t-s
returns-then-t-s c =
    let y = span_is c.days.invariant.0 (omega arith) c.day_at.ensures c.unwrap-span.ensures in
    ap (λ b. Some (b + c.fields.s)) y.0
    ∙ sym (first_at _ (search_found builtin builtin_good _ _ _ _ (day_in_lem _ c.days.invariant.0 (omega arith)) c.fields.s c.min-end.result (omega (arith, y))
    c.fields-test.true (sym c.fits.ensures ∙ c.if-fits.true) (c.skip-t.ensures.here c.if-t-s.true) c.fields.invariant))
