-- A rate (document 02, request 1: "Refused in this order: an invalid record 7, one off the 2^-24 s grid new 11, an elapsed time of 2^32 s or more in size 7, ground elapsed zero or negative new 10").
use Rattle.std.specs.Prelude.{Bool, ◌&&◌, List, [], ◌∷◌, ◌*◌, ◌%◌, ◌^◌, eqb, ℤ, pos, neg_ℤ, ◌-ℤ◌}
use Rattle.std.specs.Int.Signed.{lt_z}
use Rattle.scale.specs.Time.{Time, per_second, worth, is_record}
use Rattle.drift.specs.Rate.{Pair, of_all}
use Rattle.promises.specs.Rungs.{Rung, rung}

-- a whole number of 2^-24 s
abbrev pub whole_steps : Time → Bool
whole_steps t = eqb (t.ticks * 2 ^ 24 % per_second) 0

-- 2^32 s
abbrev pub limit : ℤ
limit = pos (2 ^ 32 * per_second)

-- between -2^32 s and 2^32 s, both left out
abbrev pub inside : ℤ → Bool
inside z = lt_z (neg_ℤ limit) z && lt_z z limit

abbrev pub rate_rungs : Pair → Pair → List Rung
rate_rungs p q =
    rung 7 (of_all is_record p q)
    ∷ rung 11 (of_all whole_steps p q)
    ∷ rung 7 (inside (worth q.onboard -ℤ worth p.onboard) && inside (worth q.ground -ℤ worth p.ground))
    ∷ rung 10 (lt_z (worth p.ground) (worth q.ground))
    ∷ []

-- a run of pairs is never refused: what its twos are refused for is counted
abbrev pub rates_rungs : List Pair → List Rung
rates_rungs run = []
