-- The latest time, among those that can be had, that is not after another (document 01, demand 2: "writing yields the latest time the target can hold that is not after the source").
use Rattle.std.specs.Prelude.{◌≡◌, true}
use Rattle.std.specs.Int.Signed.{le_z}
use Rattle.scale.specs.Time.{Time, worth}

abbrev pub NotAfter : Time → Time → Type 0
NotAfter a b = le_z (worth a) (worth b) ≡ true

pub record Latest (Has : Time → Type 0) (source m : Time) : Type 0 where
  pub had : Has m
  pub not_after : NotAfter m source
  pub no_later : (x : Time) → Has x → NotAfter x source → NotAfter x m
