-- The exact scale (document 01, "The record"). A time is whole seconds and ticks, and is worth a whole number of ticks.
use Rattle.std.specs.Prelude.{ℕ, ◌+◌, ◌-◌, ◌^◌, Bool, true, false, cond, ◌&&◌, ltb, ℤ, pos, negsuc, neg_ℤ, ◌+ℤ◌, ◌-ℤ◌, ◌*ℤ◌}
use Rattle.std.specs.Int.Signed.{lt_z}
use Rattle.base.specs.Parts.{within, floor, rest}
use Rattle.base.specs.Outcome.{Outcome, done, need}

-- "A second has 4,096,000,000,000,000 ticks"
abbrev pub per_second : ℕ
per_second = 4096000000000000

-- a record or a span on paper
pub record Time : Type 0 where
  pub sec : ℤ
  pub ticks : ℕ

-- how many ticks a time is worth
abbrev pub worth : Time → ℤ
worth t = t.sec *ℤ pos per_second +ℤ pos t.ticks

-- the time that is worth z ticks: whole seconds downward, and the ticks above them, never negative
abbrev pub of_ticks : ℤ → Time
of_ticks z = record { sec = floor z per_second; ticks = rest z per_second }

-- seconds from -H to H - 1, and less than a second of ticks
unfoldable pub good : ℕ → Time → Bool
good H t = within (neg_ℤ (pos H)) (pos (H - 1)) t.sec && ltb t.ticks per_second

-- the same by the last second, where a last second before 0 leaves none
abbrev pub held : ℤ → Time → Bool
held (pos n) t = good (n + 1) t
held (negsuc n) t = false

abbrev pub held_of : ℤ → Time → Outcome Time
held_of last t = need (held last t) 7 (done t)

-- "from -2^41 to 2^41 - 1, and ticks from 0 to 4,095,999,999,999,999 .. Anything else is an invalid record"
abbrev pub is_record : Time → Bool
is_record t = good (2 ^ 41) t

-- "A span has signed seconds from -2^42 to 2^42 - 1 and ticks in the same range"
abbrev pub is_span : Time → Bool
is_span t = good (2 ^ 42) t

abbrev pub record_of : Time → Outcome Time
record_of t = need (is_record t) 7 (done t)

abbrev pub span_of : Time → Outcome Time
span_of t = need (is_span t) 7 (done t)

-- "Difference and shift are exact": a - b, and r + s
abbrev pub difference_of : Time → Time → Outcome Time
difference_of a b = need (is_record a) 7 (need (is_record b) 7 (done (of_ticks (worth a -ℤ worth b))))

abbrev pub shift_of : Time → Time → Outcome Time
shift_of r s = need (is_record r) 7 (need (is_span s) 7 (record_of (of_ticks (worth r +ℤ worth s))))

-- by the seconds, then by the ticks
abbrev pub earlier : Time → Time → Bool
earlier a b = cond (lt_z a.sec b.sec) true (cond (lt_z b.sec a.sec) false (ltb a.ticks b.ticks))
