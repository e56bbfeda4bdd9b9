use Rattle.std.proofs.Common.{◌≡◌, sym, ap, Err, rules}
use Rattle.base.specs.Outcome.{Outcome, and_then}
use Rattle.scale.specs.Answers.{recorded}
use Rattle.leap.specs.Builtin.{builtin}
use Rattle.window.proofs.Room.{lists_refused}
use Rattle.seek.specs.declared.Wants.{Wants}
use Rattle.listing.specs.AsciiTag.{list_wanted, list_ascii}
use Rattle.listing.proofs.list_ascii.Goals as goal

pub returns-in_err-wants : goal.returns-in_err-wants
unfolding list_ascii
returns-in_err-wants c =
    let a = c.args in
    let e : c.from_residual.result ≡ Err c.in_err-wants.field-0.0 = search rules in
    rw e (lists_refused _ _ _ (ap (λ (x : Outcome Wants). and_then x (list_wanted builtin (recorded a.from) (recorded a.to))) (sym c.in_err-wants.ensures)))

pub returns : goal.returns
unfolding list_ascii
returns c = rw (sym c.in_ok-wants.ensures) c.list_wanted.ensures
