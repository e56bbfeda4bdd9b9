-- What an answer carries beside its number (document 02, request 3: "Refusal 4 must carry the offset of the first byte of the first field that breaks its rule").
use Rattle.std.specs.Prelude.{◌≡◌, Bool, List, ◌↔◌, ℕ, ℤ, Option, Some, None}
use Rattle.base.specs.Outcome.{Outcome, done, refused}
use Rattle.scale.specs.Time.{Time}
use Rattle.field.specs.Fields.{carried}
use Rattle.place.specs.Binary.{binary_place, cuc_tag_place}
use Rattle.place.specs.Text.{text_place, tag_place}
use Rattle.pfield.specs.PField.{octet}
use Rattle.codes.specs.Writing.{from}
use Rattle.promises.specs.Promises.{Call, read_binary, read_ascii, list_cuc, list_ascii}

-- the calls that read a code or a tag, and where the first bad field of their input begins. A receiver's answers stand in its rows; any other call reads no bytes, and answers with its number alone
pub data Reads : Call → Option ℕ → Type 0 where
  binary : (s : List ℕ) (front : Bool) (p : ℕ) (e : ℤ) → Reads (read_binary s front p e) (binary_place s (from front (octet p)) e)
  text : (s : List ℕ) → Reads (read_ascii s) (text_place s)
  cuc_tag : (s : List ℕ) (front : Bool) (p : ℕ) (e : ℤ) (since before : Time) → Reads (list_cuc s front p e since before) (cuc_tag_place s (from front (octet p)) e)
  tag : (s : List ℕ) (since before : Time) → Reads (list_ascii s since before) (tag_place s)

-- an offset
abbrev pub Begins : Option ℕ → Type 0
Begins p = (n : ℕ) × (p ≡ Some n)

-- an outcome carries an offset exactly when it is refused 4, and then that of the first bad field; and what is not refused has no bad field
module _ {A : Type 0} where
  pub record Carries (x : Outcome A) (p : Option ℕ) : Type 0 where
    pub exactly : Begins (carried x p) ↔ (x ≡ refused 4)
    pub its : x ≡ refused 4 → carried x p ≡ p
    pub none : (a : A) → x ≡ done a → p ≡ None
