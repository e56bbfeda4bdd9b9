-- Two outcomes of a listing that meet its contract are equal: the answer, and the lent list. So are two answers of the parts that it is made of.
use mathlib.Core.List.{List}
use mathlib.Core.Path.{◌≡◌, refl}
use Prim.Native.Nat.{ℕ}
use lib.IntN.{ℤ}
use Rattle.base.specs.Outcome.{Outcome}
use Rattle.base.proofs.Once.{said_once, says_once}
use Rattle.listing.specs.declared.periodic.Periodic as P
use Rattle.scale.specs.Time.{Time}
use Rattle.window.specs.Window.{Lists}
use Rattle.window.proofs.Once.{lists_once}
use Rattle.pfield.specs.declared.Preamble.{Preamble}
use Rattle.listing.specs.CucTag.{Periodic, list_cuc}
use Rattle.listing.specs.AsciiTag.{list_ascii}
use Rattle.leap.specs.Table.{Table}
use Rattle.listing.specs.Inner.{periodic_as, says_periodic}
use Rattle.base.specs.Said.{said}
use Rattle.std.specs.Prelude.{Result}
use Rattle.base.specs.declared.Refusal.{Refusal}
use Rattle.listing.specs.declared.ends.Ends.{Ends}
use Rattle.window.specs.declared.Listed.{Listed}

pub list_cuc_once : (s : List ℕ) (p : Preamble) (e : ℤ) (from to : Time) (entry exit exit' : List ℤ) (r r' : Result Listed Refusal) → Lists (list_cuc s p e from to) entry exit r → Lists (list_cuc s p e from to) entry exit' r' → (r ≡ r') × (exit ≡ exit')
list_cuc_once s p e from to = lists_once (list_cuc s p e from to)

pub list_ascii_once : (t : Table) (s : List ℕ) (from to : Time) (entry exit exit' : List ℤ) (r r' : Result Listed Refusal) → Lists (list_ascii t s from to) entry exit r → Lists (list_ascii t s from to) entry exit' r' → (r ≡ r') × (exit ≡ exit')
list_ascii_once t s from to = lists_once (list_ascii t s from to)

pub ends_once : (o : Outcome Ends) (a b : Result Ends Refusal) → said a ≡ o → said b ≡ o → a ≡ b
ends_once = said_once

pub periodic_once : (o : Outcome Periodic) (a b : Result P.Periodic Refusal) → says_periodic a ≡ o → says_periodic b ≡ o → a ≡ b
periodic_once =
    says_once periodic_as (λ x. record { first = record { sec = x.first.sec; ticks = x.first.ticks }; period = x.period }) (λ g. refl)
