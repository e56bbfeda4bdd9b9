-- Difference and shift are refused by their rungs.
use mathlib.Core.Path.{◌≡◌, refl}
use lib.IntN.{◌+ℤ◌}
use Rattle.scale.specs.Time.{Time, worth, of_ticks, is_record, is_span, difference_of, shift_of}
use Rattle.promises.specs.RungsScale.{difference_rungs, shift_rungs}
use Rattle.promises.proofs.Rungs.{verdict, judged, step}

pub difference_rungs_lem : (a b : Time) → verdict (difference_of a b) ≡ judged (difference_rungs a b)
difference_rungs_lem a b = step (is_record a) 7 _ _ (λ h. step (is_record b) 7 _ _ (λ k. refl))

pub shift_rungs_lem : (r s : Time) → verdict (shift_of r s) ≡ judged (shift_rungs r s)
shift_rungs_lem r s = step (is_record r) 7 _ _ (λ h. step (is_span s) 7 _ _ (λ k. step (is_record (of_ticks (worth r +ℤ worth s))) 7 _ _ (λ l. refl)))
