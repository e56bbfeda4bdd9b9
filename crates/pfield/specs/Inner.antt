-- What the private functions ask and answer. No promise cites these.
use Rattle.std.specs.Prelude.{◌≡◌, ℕ, ◌+◌, ◌/◌, ◌%◌, false, ℤ, Result, MatchResult}
use Rattle.base.specs.Outcome.{Outcome, done, need}
use Rattle.base.specs.declared.Refusal.{Refusal}
use Rattle.base.specs.declared.Refusal.TheVariants.{Identification as Unidentified}
use Rattle.cuc.specs.Cuc.{is_epoch}
use Rattle.pfield.specs.declared.Identification.{Identification}
use Rattle.pfield.specs.declared.Identification.TheVariants.{CucFrom1958, CucFromEpoch, Cds, Ccs}
use Rattle.pfield.specs.declared.Codes.TheVariants.{All}
use Rattle.pfield.specs.declared.Layout.{Layout}
use Rattle.pfield.specs.declared.Layout.TheVariants as L
use Rattle.pfield.specs.PField.{ident, allows}

-- the identification that names it
abbrev pub number_of : Identification → ℕ
number_of CucFrom1958 = 1
number_of CucFromEpoch = 2
number_of Cds = 4
number_of Ccs = 5

-- what an octet's identification names, or the refusal of one that no code has
abbrev pub Identifies : ℕ → Result Identification Refusal → Type 0
Identifies o r = MatchResult r (λ id. number_of id ≡ ident o) (λ why. (why ≡ Unidentified) × (allows All (ident o) ≡ false))

-- CUC's layout from an epoch
abbrev pub cuc_from : ℕ → ℤ → Outcome Layout
cuc_from o e = need (is_epoch e) 7 (done (L.Cuc (record { epoch = e; coarse = o / 4 % 4 + 1; fine = o % 4 })))
