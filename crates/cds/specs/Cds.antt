-- CDS (document 01, "The codes"): which moment of UTC a T-field names, and what a moment's T-field is, under a layout. Whether a table has the moment's second is judged above.
use Rattle.std.specs.Prelude.{◌≡◌, Bool, cond, ◌&&◌, ◌||◌, List, ◌++◌, ℕ, ◌+◌, ◌-◌, ◌*◌, ◌/◌, ◌%◌, ◌^◌, leb, ltb, eqb, ℤ, pos, neg_ℤ, nat_abs, ◌+ℤ◌, ◌-ℤ◌, length}
use Rattle.base.specs.Outcome.{Outcome, done, need, and_then}
use Rattle.base.specs.Parts.{within}
use Rattle.scale.specs.Time.{per_second}
use Rattle.octets.specs.Places.{octets}
use Rattle.octets.specs.Counts.{count_at}
use Rattle.moment.specs.Moment.{moment, is_moment}
use Rattle.moment.specs.declared.Moment.{Moment}
use Rattle.cds.specs.declared.Layout.{Layout}
use Rattle.base.specs.Said.{said}

-- "caller's epoch day (-2^24 to 2^24 - 1)"
abbrev pub is_epoch_day : ℤ → Bool
is_epoch_day e = within (neg_ℤ (pos (2 ^ 24))) (pos (2 ^ 24 - 1)) e

-- "0 day in 16 bits, 1 in 24 .. none, .. microsecond of millisecond (16 bits ..), .. picosecond of millisecond (32 bits ..)"
unfoldable pub is_width : Layout → Bool
is_width l = (eqb l.day 2 || eqb l.day 3) && (eqb l.part 0 || eqb l.part 2 || eqb l.part 4)

unfoldable pub is_layout : Layout → Bool
is_layout l = is_width l && is_epoch_day l.epoch

-- "3, epoch 7": octets that no P octet gives, then an invalid epoch day
abbrev pub settled : {A : Type 0} → Layout → Outcome A → Outcome A
settled l x = need (is_width l) 3 (need (is_epoch_day l.epoch) 7 x)

-- "Order: day, millisecond of day (32 bits ..), remainder"
unfoldable pub width : Layout → ℕ
width l = cond (is_width l) (l.day + 4 + l.part) 0

-- how many parts a millisecond has, by the octets of the remainder, and the ticks of a millisecond and of a part
abbrev pub parts : ℕ → ℕ
parts w = cond (eqb w 0) 1 (cond (eqb w 2) 1000 1000000000)

abbrev pub per_millisecond : ℕ
per_millisecond = per_second / 1000

abbrev pub unit : ℕ → ℕ
unit w = per_millisecond / parts w

-- ---- reading
-- the ticks of a second at millisecond of day m and remainder p
abbrev pub fraction : ℕ → ℕ → ℕ → ℕ
fraction w m p = m % 1000 * per_millisecond + p * unit w

-- the moment of a day from the epoch, a millisecond of day and a remainder: "millisecond of day (.. 0 to 86,400,999)", "0 to 999", "0 to 999,999,999", else 4
unfoldable pub moment_by : Layout → ℕ → ℕ → ℕ → Outcome Moment
moment_by l d m p =
    need (leb m 86400999) 4
    (need (ltb p (parts l.part)) 4
    (done (moment (l.epoch +ℤ pos d) (m / 1000) (fraction l.part m p))))

-- the T-field from `at` on: no layout 3, its epoch 7, bytes that run out 1, then as above
unfoldable pub field : List ℕ → ℕ → Layout → Outcome Moment
field s at l =
    settled l
    (need (leb (at + width l) (length s)) 1
    (and_then (said (count_at s at l.day)) (λ d.
    and_then (said (count_at s (at + l.day) 4)) (λ m.
    and_then (said (count_at s (at + l.day + 4) l.part)) (λ p.
    moment_by l d m p)))))

-- the moments that its T-fields read to
abbrev pub Reads : Layout → Moment → Type 0
Reads l m = (s : List ℕ) × (field s 0 l ≡ done m)

-- ---- writing
-- "A target holds a source when its count .. of UTC days from the epoch (CDS), is not negative and fits the field"
unfoldable pub held : Layout → ℤ → Bool
held l d = within (pos 0) (pos (256 ^ l.day - 1)) (d -ℤ l.epoch)

-- a T-field of its three numbers
unfoldable pub in_octets : Layout → ℕ → ℕ → ℕ → List ℕ
in_octets l d m p = octets l.day d ++ octets 4 m ++ octets l.part p

-- "The writer takes the fraction downward": the remainder of a second's ticks
abbrev pub remainder : ℕ → ℕ → ℕ
remainder w k = k % per_millisecond / unit w

-- the T-field of a moment
abbrev pub coded : Layout → Moment → List ℕ
coded l m = in_octets l (nat_abs (m.day -ℤ l.epoch)) (m.second * 1000 + m.ticks / per_millisecond) (remainder l.part m.ticks)

-- "3, epoch 7, .. target 7"; a writer given a moment that is none refuses 7, between the epoch's and the target's; no call shows it
unfoldable pub bytes_of : Layout → Moment → Outcome (List ℕ)
bytes_of l m = settled l (need (is_moment m) 7 (need (held l m.day) 7 (done (coded l m))))
