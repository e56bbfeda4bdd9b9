-- ASCII codes by a leap second table: what a text reads to, and the text of a time (document 01, "The codes"; "record 7 .. 3 .. cover 5").
use Rattle.std.specs.Prelude.{◌≡◌, List, ℕ}
use Rattle.base.specs.Outcome.{Outcome, done, need}
use Rattle.scale.specs.Time.{Time, is_record}
use Rattle.leap.specs.Table.{Table}
use Rattle.utc.specs.Reckoning.{read_by, written_by}
use Rattle.ascii.specs.Ascii as A
use Rattle.ascii.specs.declared.Layout.{Layout}

abbrev pub text_of : Table → List ℕ → Outcome Time
text_of t s = read_by t (A.text s)

-- the layout is judged before the table
unfoldable pub letters : Table → Layout → Time → Outcome (List ℕ)
letters t l r = need (is_record r) 7 (need (A.is_layout l) 3 (written_by t (A.bytes_of l) r))

-- the times that codes of a layout can hold: those that a text of that layout reads to
pub record Spelled (t : Table) (l : Layout) (x : Time) : Type 0 where
  pub code : List ℕ
  pub read : text_of t code ≡ done x
  pub own : A.layout_of code ≡ l
