-- The ends of a window as the code has them: the two seconds, raised by 2^41, for one tick count.
use Rattle.std.specs.Prelude.{ℕ, ◌^◌}
use Rattle.base.specs.Outcome.{Outcome, done}
use Rattle.scale.specs.Time.{Time}
use Rattle.listing.specs.Records.{windowed, start_at}
use Rattle.listing.specs.declared.ends.Ends.{Ends}

unfoldable pub ends_of : Time → Time → ℕ → Outcome Ends
ends_of from to k = windowed from to (done (record { start = start_at (2 ^ 41) k from; end = start_at (2 ^ 41) k to }))
