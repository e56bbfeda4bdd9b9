-- What spans reading and writing (document 01, demand 2), as theorems about the definitions that the contracts cite.
use mathlib.Core.Path.{◌≡◌, refl, sym, ap, ◌∙◌}
use mathlib.Core.Bool.{Bool, true, false}
use mathlib.Core.List.{List, [], ◌++◌, append-nil}
use Prim.Native.Nat.{ℕ, ◌+◌, ◌*◌, ◌^◌, ◌<◌, ◌≤◌}
use native.Mathlib.Omega.{arith}
use lib.IntN.{ℤ, pos, ◌+ℤ◌, ◌-ℤ◌, ◌*ℤ◌}
use lib.ListN.{length, take, drop}
use lib.Seq.{drop-drop}
use Rattle.base.specs.Outcome.{done, refused}
use Rattle.base.specs.Parts.{plus, floor}
use Rattle.base.proofs.Ladders.{done_is}
use Rattle.base.proofs.Signed.{same, difference, line, floor_line, times_plus, times_minus}
use Rattle.scale.specs.Time.{Time, per_second, worth, is_record}
use Rattle.scale.specs.Latest.{NotAfter, Latest}
use Rattle.scale.proofs.Fractions.{part_ticks, part_lt as parts-lt}
use Rattle.scale.proofs.Laws.{worth_parts, record_ticks}
use Rattle.scale.proofs.Latest.{later_source, own_latest}
use Rattle.octets.specs.Places.{be, octet_value}
use Rattle.octets.specs.Counts.{count_at}
use Rattle.octets.proofs.Places.{number_split}
use Rattle.cuc.specs.Cuc.{is_layout, width, unit, field, Reads, since, holds, parts_of, in_octets, coded, bytes_of, Holds}
use Rattle.cuc.specs.declared.Layout.{Layout}
use Rattle.cuc.proofs.Widths.{grain}
use Rattle.cuc.proofs.Layouts.{width_is}
use Rattle.cuc.proofs.Sources.{since_is, held_so, held_is}
use Rattle.cuc.proofs.Times.{valid_time, worth_time, floored, same_second, floored_before, floored_latest}
use Rattle.cuc.proofs.Stores.{length_laid}
use Rattle.cuc.proofs.Fields.{Told, Sourced, count_told, whole_lt, part_lt, told_text, laid_reads, field_told, bytes_in, bytes_out, bytes_told}
use Rattle.std.specs.Prelude.{Ok}

-- the epoch, in ticks
abbrev pub epoch_ticks : Layout → ℤ
epoch_ticks l = l.epoch *ℤ pos per_second

-- ---- the two counts are one: "Big-endian count"
pub one_count : (s : List ℕ) (at w k c f : ℕ) → count_at s at w ≡ Ok c → count_at s (at + w) k ≡ Ok f → be (drop at s) (w + k) ≡ c * 256 ^ k + f
one_count s at w k c f a b =
    rw (number_split 256 octet_value (drop at s) w k, drop-drop w at s, ← (count_told s at w c a).is, ← (count_told s (at + w) k f b).is)

-- ---- reading
module _ (s : List ℕ) (at : ℕ) (l : Layout) (m : Time) (e : field s at l ≡ done m) where
  abbrev says : Told s at l m
  says = field_told s at l m e

  -- what is read is a valid record
  pub read_valid : is_record m ≡ true
  read_valid = ap is_record (sym says.is) ∙ valid_time l says.good says.whole says.part (whole_lt says) (part_lt says)

  -- the field lies within the bytes
  pub read_width : at + width l ≤ length s
  read_width = says.fits

  -- a time of the two counts is held, and these are what is written of it
  read_held : holds l m ≡ true
  read_held = held_so l m says.whole (ap (λ (t : Time). t.sec) says.is) (whole_lt says)

  read_coded : coded l m ≡ in_octets l says.whole says.part
  read_coded =
      let c : plus (since l m) ≡ says.whole = ap plus (since_is l m says.whole (ap (λ (t : Time). t.sec) says.is)) in
      let f : parts_of l m ≡ says.part = ap (parts_of l) (sym says.is) ∙ part_ticks (grain l.fine says.good.short) says.part in
      rw (c, f)

  -- writing what was read gives the same bytes
  pub read_written : bytes_of l m ≡ done (take (width l) (drop at s))
  read_written = bytes_in l m read_valid says.layout read_held ∙ ap done (read_coded ∙ sym (told_text says))

  -- "Big-endian count from the epoch": what is read is worth the one count of all octets, in parts of a second, more than the epoch
  pub read_count : worth m ≡ epoch_ticks l +ℤ pos (be (drop at s) (width l) * unit l.fine)
  read_count =
      ap worth (sym says.is)
      ∙ worth_time l says.good says.whole says.part
      ∙ ap (λ (n : ℕ). epoch_ticks l +ℤ pos (n * unit l.fine)) (sym (ap (be (drop at s)) (width_is l says.layout) ∙ one_count s at l.coarse l.fine says.whole says.part says.wholes says.parts))

-- ---- writing
-- "its count of whole seconds from the epoch, taken downward"
pub since_down : (l : Layout) (r : Time) → r.ticks < per_second → floor (worth r -ℤ epoch_ticks l) per_second ≡ since l r
since_down l r h =
    let z = since l r *ℤ pos per_second +ℤ pos r.ticks in
    let e : worth r -ℤ epoch_ticks l ≡ z =
    same (worth r -ℤ epoch_ticks l) z
    (omega (
      arith,
      difference (worth r) (epoch_ticks l),
      worth_parts r,
      times_plus l.epoch per_second,
      times_minus l.epoch per_second,
      line (since l r) per_second r.ticks,
      difference r.sec l.epoch,
    )) in
    ap (λ (x : ℤ). floor x per_second) e ∙ (floor_line per_second (since l r) r.ticks h).0

pub write_width : (l : Layout) (r : Time) (code : List ℕ) → bytes_of l r ≡ done code → length code ≡ width l
write_width l r code e = let k = bytes_told l r code e in ap length (sym k.is) ∙ length_laid l _ _ ∙ sym (width_is l k.layout)

module _ (l : Layout) (r : Time) (code : List ℕ) (e : bytes_of l r ≡ done code) where
  abbrev tells : Sourced l r code
  tells = bytes_told l r code e

  -- the written code, with bytes before it and after it, reads to the source's second with the whole parts of its ticks
  pub code_reads : (s t : List ℕ) (at : ℕ) → at ≤ length s → drop at s ≡ code ++ t → field s at l ≡ done (floored l r)
  code_reads s t at a d =
      laid_reads s at l tells.layout (plus (since l r)) (parts_of l r) (held_is l r tells.held).1 (parts-lt (grain l.fine tells.good.short) r.ticks (record_ticks r tells.valid)) t a (d ∙ ap (λ (x : List ℕ). x ++ t) (sym tells.is))

  pub code_alone : field code 0 l ≡ done (floored l r)
  code_alone = code_reads code [] 0 (omega arith) (sym (append-nil code))

  pub code_latest : Latest (Reads l) r (floored l r)
  code_latest = record { had = (code, code_alone); not_after = floored_before l r tells.held tells.good; no_later = later }
    where
      later : (x : Time) → Reads l x → NotAfter x r → NotAfter x (floored l r)
      later x (s, f) p =
          let q = field_told s 0 l x f in
          rw (← q.is) (floored_latest l r tells.held tells.good (record_ticks r tells.valid) q.whole q.part (part_lt q) (rw (← q.is) at p))

  -- which is the latest, among all times that its T-fields read to, that is not after the source
  pub written_reads : (m : Time) × ((Latest (Reads l) r m) × ((s t : List ℕ) (at : ℕ) → at ≤ length s → drop at s ≡ code ++ t → field s at l ≡ done m))
  written_reads = (floored l r, (code_latest, code_reads))

-- a later source never gets an earlier time
pub later_written : (l : Layout) (r r' m m' : Time) (code code' : List ℕ) → bytes_of l r ≡ done code → bytes_of l r' ≡ done code' → field code 0 l ≡ done m → field code' 0 l ≡ done m' → NotAfter r r' → NotAfter m m'
later_written l r r' m m' code code' e e' f f' h =
    let i : floored l r ≡ m = done_is _ m (sym (code_alone l r code e) ∙ f) in
    let i' : floored l r' ≡ m' = done_is _ m' (sym (code_alone l r' code' e') ∙ f') in
    rw (← i, ← i') (later_source (Reads l) r (floored l r) (code_latest l r code e) r' (floored l r') (code_latest l r' code' e') h)

-- and a time that its T-fields read to is written as itself
pub own_written : (l : Layout) (r : Time) (code : List ℕ) → Reads l r → bytes_of l r ≡ done code → field code 0 l ≡ done r
own_written l r code h e =
    let m = floored l r in
    let i : m ≡ r = own_latest (Reads l) r m (code_latest l r code e) (record_ticks m (read_valid code 0 l m (code_alone l r code e))) (record_ticks r (bytes_told l r code e).valid) h in
    code_alone l r code e ∙ ap done i

-- ---- refused exactly where no T-field reads to a time of the source's second
module _ (l : Layout) (r : Time) (v : is_record r ≡ true) (h : is_layout l ≡ true) where
  holds_so : Holds l r → holds l r ≡ true
  holds_so (x, ((s, f), i)) =
      let q = field_told s 0 l x f in
      held_so l r q.whole (ap (λ (t : Time). t.sec) q.is ∙ i) (whole_lt q)

  so_holds : holds l r ≡ true → Holds l r
  so_holds k = (floored l r, ((coded l r, code_alone l r (coded l r) (bytes_in l r v h k)), same_second l r k))

  pub held_written : Holds l r → (code : List ℕ) × (bytes_of l r ≡ done code)
  held_written k = (coded l r, bytes_in l r v h (holds_so k))

  pub unheld_refused : (Holds l r → ⊥) → bytes_of l r ≡ refused 7
  unheld_refused n = go (holds l r) refl
    where
      go : (b : Bool) → holds l r ≡ b → bytes_of l r ≡ refused 7
      go true k = absurd (n (so_holds k))
      go false k = bytes_out l r v h k
