-- What spans two calls of the scale, as theorems about the definitions that the contracts cite.
use mathlib.Core.Path.{◌≡◌, ap, ◌∙◌}
use mathlib.Core.Bool.{true}
use Prim.Native.Nat.{◌^◌}
use native.Mathlib.Omega.{arith}
use lib.Dec.{lit<}
use lib.IntN.{ℤ, ◌+ℤ◌, ◌-ℤ◌}
use lib.Signed.{lt_z}
use Rattle.base.specs.Outcome.{done}
use Rattle.base.proofs.Ladders.{need_yes}
use Rattle.base.proofs.Signed.{same, sum, difference, rest_lt}
use Rattle.scale.specs.Time.{Time, worth, of_ticks, is_record, is_span, record_of, difference_of, shift_of, earlier}
use Rattle.scale.proofs.Laws.{record_ticks, good_within, within_good, of_ticks_worth, worth_of_ticks, difference_within, earlier_worth}

module _ (a b : Time) (ga : is_record a ≡ true) (gb : is_record b ≡ true) where
  abbrev gap : Time
  gap = of_ticks (worth a -ℤ worth b)

  pub difference_is : difference_of a b ≡ done gap
  difference_is = need_yes 7 _ ga ∙ need_yes 7 _ gb

  -- a difference of two valid records is a valid span
  pub difference_is_span : is_span gap ≡ true
  difference_is_span =
      within_good (2 ^ 42) gap
      (difference_within a b gap (good_within (2 ^ 41) a (lit< tt) ga) (good_within (2 ^ 41) b (lit< tt) gb) (rest_lt (worth a -ℤ worth b) (lit< tt)) (worth_of_ticks (worth a -ℤ worth b)))

  back_again : worth b +ℤ (worth a -ℤ worth b) ≡ worth a
  back_again = same (worth b +ℤ (worth a -ℤ worth b)) (worth a) (omega (arith, sum (worth b) (worth a -ℤ worth b), difference (worth a) (worth b)))

  -- shifting b by a - b gives a
  pub shift_by_difference : shift_of b gap ≡ done a
  shift_by_difference =
      need_yes 7 _ gb
      ∙ need_yes 7 _ difference_is_span
      ∙ ap (λ (z : ℤ). record_of (of_ticks (worth b +ℤ z))) (worth_of_ticks (worth a -ℤ worth b))
      ∙ ap (λ (z : ℤ). record_of (of_ticks z)) back_again
      ∙ ap record_of (of_ticks_worth a (record_ticks a ga))
      ∙ need_yes 7 _ ga

  -- the order by seconds, then ticks, is the order of worths
  pub earlier_is_less : earlier a b ≡ lt_z (worth a) (worth b)
  earlier_is_less = earlier_worth a b (record_ticks a ga) (record_ticks b gb)
