-- The standard's own rule of shortening (301.0-B-4, 3.5.1.3), on texts: what remains of a full code when subfields are deleted on the left, their separators kept, and on the right, their separators dropped, the deleted ones having stood at their lowest value. Each digit of a fraction is a subfield of its own.
use Rattle.std.specs.Prelude.{◌≡◌, Bool, true, false, ◌&&◌, List, [], ◌∷◌, ◌++◌, ℕ, zero, suc, ◌+◌, ◌-◌, ◌≤◌, ◌<◌, length, take, drop}
use Rattle.base.specs.Outcome.{done, refused}
use Rattle.scale.specs.Time.{Time}
use Rattle.leap.specs.Table.{Table}
use Rattle.utc.specs.Reckoning.{read_by}
use Rattle.shape.specs.Quoted.{bytes}
use Rattle.shape.specs.Shapes.{same, shaped}
use Rattle.ascii.specs.Shapes.{code_shapes}
use Rattle.ascii.specs.Ascii.{front_of, layout_of, zone_text, text}

-- a subfield: the separator before it, its text, and the text of its lowest value
pub record Subfield : Type 0 where
  pub before : List ℕ
  pub text : List ℕ
  pub lowest : List ℕ

abbrev pub subfield : List ℕ → List ℕ → List ℕ → Subfield
subfield b s l = record { before = b; text = s; lowest = l }

-- w characters from a place on
abbrev pub slice : List ℕ → ℕ → ℕ → List ℕ
slice s at w = take w (drop at s)

-- the subfields of a calendar, of the texts of its year and day of the year, or of its year, month and day
abbrev pub by_ordinal : List ℕ → List ℕ → List Subfield
by_ordinal y d = subfield [] y (bytes "0001") ∷ subfield (bytes "-") d (bytes "001") ∷ []

abbrev pub by_month : List ℕ → List ℕ → List ℕ → List Subfield
by_month y m d = subfield [] y (bytes "0001") ∷ subfield (bytes "-") m (bytes "01") ∷ subfield (bytes "-") d (bytes "01") ∷ []

-- the calendar of a full code: YYYY-DDD or YYYY-MM-DD
abbrev pub calendar_by : Bool → List ℕ → List Subfield
calendar_by true s = by_ordinal (slice s 0 4) (slice s 5 3)
calendar_by false s = by_month (slice s 0 4) (slice s 5 2) (slice s 8 2)

-- the digits of a fraction, the first behind the period
abbrev pub digits_by : List ℕ → List ℕ → List Subfield
digits_by sep [] = []
digits_by sep (d ∷ ds) = subfield sep (d ∷ []) (bytes "0") ∷ digits_by [] ds

-- the subfields of a time, of the texts of its hour, minute, second and fraction
abbrev pub by_clock : List ℕ → List ℕ → List ℕ → List ℕ → List Subfield
by_clock h m x ds =
    subfield [] h (bytes "00") ∷
    subfield (bytes ":") m (bytes "00") ∷
    subfield (bytes ":") x (bytes "00") ∷
    digits_by (bytes ".") ds

-- the time of a full code: hh:mm:ss from a place on, and its fraction
abbrev pub clock_from : ℕ → ℕ → List ℕ → List Subfield
clock_from at digits s = by_clock (slice s at 2) (slice s (at + 3) 2) (slice s (at + 6) 2) (slice s (at + 9) digits)

unfoldable pub calendar_fields : List ℕ → List Subfield
calendar_fields s = calendar_by (layout_of s).ordinal s

unfoldable pub clock_fields : List ℕ → List Subfield
clock_fields s = clock_from (front_of (layout_of s).ordinal - 8) (layout_of s).digits s

unfoldable pub zone_of : List ℕ → List ℕ
zone_of s = zone_text (layout_of s).zone

-- what is left when the first l are deleted, and those from the k-th on
abbrev pub cut : ℕ → ℕ → List Subfield → List ℕ
cut l zero fs = []
cut l (suc k) [] = []
cut zero (suc k) (f ∷ fs) = f.before ++ (f.text ++ cut zero k fs)
cut (suc l) (suc k) (f ∷ fs) = f.before ++ cut l k fs

-- those from the k-th on stand at their lowest value
abbrev pub low_from : ℕ → List Subfield → Bool
low_from zero [] = true
low_from zero (f ∷ fs) = same f.text f.lowest && low_from zero fs
low_from (suc k) [] = true
low_from (suc k) (f ∷ fs) = low_from k fs

-- the first l are deleted, and those from the k-th on, which stand at their lowest; one is left at least
pub record Run (l k : ℕ) (fs : List Subfield) : Type 0 where
  pub some : l < k
  pub end : k ≤ length fs
  pub low : low_from k fs ≡ true

-- a text is a shortening of a full code, in document 01's permitted forms
pub data Shortening (code : List ℕ) : List ℕ → Type 0 where
  -- "A calendar alone means 00:00:00"; it has no Z
  calendar : (l k : ℕ) → Run l k (calendar_fields code) → low_from 0 (clock_fields code) ≡ true → Shortening code (cut l k (calendar_fields code))
  -- "fraction digits are not dropped on the left"
  time : (l k : ℕ) → l ≤ 3 → Run l k (clock_fields code) → Shortening code (cut l k (clock_fields code) ++ zone_of code)
  -- "Joined by T, the calendar must reach its day and the time must begin at hh"
  both : (l k : ℕ) → Run l (length (calendar_fields code)) (calendar_fields code) → Run 0 k (clock_fields code)
      → Shortening code (cut l (length (calendar_fields code)) (calendar_fields code) ++ (84 ∷ (cut 0 k (clock_fields code) ++ zone_of code)))

-- a full code that a tag is a shortening of
pub record Full (tag code : List ℕ) : Type 0 where
  pub full : shaped code_shapes code ≡ true
  pub short : Shortening code tag

-- the naming rule: some full code of which the tag is a shortening reads, by the table, to the moment
abbrev pub Names : Table → List ℕ → Time → Type 0
Names t tag m = (code : List ℕ) × (Full tag code × (read_by t (text code) ≡ done m))

-- no full code of which the tag is a shortening reads to anything but 4, whatever the table
abbrev pub Nameless : List ℕ → Type 0
Nameless tag = (code : List ℕ) → Full tag code → text code ≡ refused 4
