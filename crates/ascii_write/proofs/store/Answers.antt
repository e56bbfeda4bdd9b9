use mathlib.Core.Path.{◌≡◌}
use Prim.Native.Nat.{◌+◌, ◌≤◌}
use native.Mathlib.Omega.{arith}
use borrow.Author.Rules.{rules}
use borrow.Author.Tests.{leb-true}
use lib.ListN.{length}
use Rattle.ascii_write.proofs.Puts.{no_room, kept, put_parts, parts_length}
use Rattle.ascii.specs.Ascii.{width, day_text, clock_text, fraction_text, zone_text}
use Rattle.ascii_write.proofs.store.Goals.{Else-not-fits}
use Rattle.ascii_write.proofs.store.Goals as goal

pub returns-then-not-fits : goal.returns-then-not-fits
returns-then-not-fits c =
    let a = c.args in
    no_room a.l a.day a.second a.part a.out.now a.at (omega arith) (search rules)

-- the code fits, and each text leaves the length
module _ (c : Else-not-fits) where
  fits : c.args.at + width c.args.l ≤ length c.args.out.now
  fits = rw c.size.ensures at (leb-true (c.args.at + c.size.result) (length c.args.out.now) (search rules))

  parts : width c.args.l ≡ length (day_text c.args.l.ordinal c.args.day) + length (clock_text c.args.second) + length (fraction_text c.args.l.digits c.args.part) + length (zone_text c.args.l.zone)
  parts = parts_length c.args.l c.args.day c.args.second c.args.part (omega arith)

pub put_day-requires : goal.put_day-requires
put_day-requires c = let e = (goal.at.put_day-requires c).Else-not-fits in (omega arith, omega (arith, fits e, parts e))

pub put-requires : goal.put-requires
put-requires c =
    let e = (goal.at.put-requires c).Else-not-fits in
    let d = c.put_day.ensures in
    let n = kept _ _ _ _ d.puts (omega (arith, fits e, parts e)) in
    rw c.clock_text.ensures (omega (arith, fits e, parts e))

pub put_fraction-requires : goal.put_fraction-requires
put_fraction-requires c =
    let e = (goal.at.put_fraction-requires c).Else-not-fits in
    let d = c.put_day.ensures in
    let n = kept _ _ _ _ d.puts (omega (arith, fits e, parts e)) in
    let k = rw c.clock_text.ensures at c.put.ensures.ends in
    let m = kept _ _ _ _ (rw c.clock_text.ensures at c.put.ensures.puts) (omega (arith, fits e, parts e)) in
    omega (arith, fits e, parts e)

pub put_zone-requires : goal.put_zone-requires
put_zone-requires c =
    let e = (goal.at.put_zone-requires c).Else-not-fits in
    let d = c.put_day.ensures in
    let n = kept _ _ _ _ d.puts (omega (arith, fits e, parts e)) in
    let k = rw c.clock_text.ensures at c.put.ensures.ends in
    let m = kept _ _ _ _ (rw c.clock_text.ensures at c.put.ensures.puts) (omega (arith, fits e, parts e)) in
    let f = c.put_fraction.ensures in
    let o = kept _ _ _ _ f.puts (omega (arith, fits e, parts e)) in
    omega (arith, fits e, parts e)

pub returns : goal.returns
returns c =
    let a = c.args in
    let d = c.put_day.ensures in
    let k = c.put.ensures in
    let f = c.put_fraction.ensures in
    let z = c.put_zone.ensures in
    put_parts a.l a.day a.second a.part a.out.now a.at (omega arith) (search rules) d.ends (rw c.clock_text.ensures at k.ends) f.ends z.ends d.puts (rw c.clock_text.ensures at k.puts) f.puts (search rules)
