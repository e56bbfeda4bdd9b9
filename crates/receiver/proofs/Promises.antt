-- What spans several calls of a receiver, as theorems about the definitions that the contracts cite (document 02, request 2: "However a byte run is cut, given room, the answers must be those of reading it whole, one T-field after another. .. Bytes left at the end stay pending"). By any table.
use mathlib.Core.Path.{◌≡◌, refl, sym, ap, ◌∙◌, subst}
use mathlib.Core.List.{List, [], ◌∷◌, ◌++◌, append_assoc, append-nil}
use mathlib.Core.Logic.{◌↔◌}
use Prim.Native.Nat.{ℕ, suc, ◌*◌, ◌<◌, ◌≤◌}
use native.Mathlib.Nat.{div-eq_of_lt, zero-add, zero-mul, suc-mul, le-mul_of_pos_right, div-lt_iff_lt-mul}
use native.Mathlib.Decide.{dec_lt}
use native.Mathlib.Omega.{arith}
use lib.IntN.{ℤ}
use lib.ListN.{length, get_or, drop, length-append}
use lib.Dec.{leb}
use Rattle.base.specs.Outcome.{Outcome, done, refused, need, and_then, given}
use Rattle.base.proofs.Ladders.{given_done, done_is, never, need_done}
use Rattle.scale.specs.Time.{Time}
use Rattle.leap.specs.Table.{Table}
use Rattle.pfield.specs.PField.{laid}
use Rattle.pfield.specs.declared.PField.{PField}
use Rattle.pfield.specs.declared.Codes.TheVariants.{All}
use Rattle.pfield.specs.declared.Layout.{Layout}
use Rattle.pfield.specs.declared.Preamble.TheVariants.{Given}
use Rattle.pfield.proofs.Heads.{head_given}
use Rattle.codes.specs.Reading.{width_of, scanned, scan_in, scan_of}
use Rattle.codes.proofs.Fields.{width_low, width_some}
use Rattle.pfield.proofs.Layouts.{laid_good}
use Rattle.receiver.specs.Fields.{fields_in, whole_in, answers_in, left_in}
use Rattle.receiver.specs.Receiver.{holding, held_in, made_of, layout_of, run_of, Fate, fate_of, feed_of, next_of}
use Rattle.receiver.specs.Runs.{Piece, call_of, told_by, taken_by, told, last, taken, whole, Roomy, Ample}
use Rattle.receiver.specs.declared.Receiver.{Receiver}
use Rattle.receiver.proofs.States.{good, state_is, held_is, holding_size, holding_state}
use Rattle.receiver.proofs.Calls.{no_room, with_room, counted}
use Rattle.receiver.proofs.Runs.{field_number}
use Rattle.receiver.proofs.Cuts.{parted, cut_answers, cut_left}
use Rattle.pfield.specs.declared.Head.{Head}

-- a receiver that takes T-fields of a layout
pub record Takes (l : Layout) (r : Receiver) : Type 0 where
  pub size : length r.pending ≡ 12
  pub lays : layout_of r ≡ done l

module _ {l : Layout} {r : Receiver} (k : Takes l r) where
  few : length (held_in r) < width_of l
  few = omega (arith, counted r k.size l k.lays, (good r l k.lays).few)

  some : 0 < width_of l
  some = omega (arith, few)

-- one that holds less than a T-field does ..
holding_takes : (p : PField) (e : ℤ) (h : List ℕ) (l : Layout) → laid All p e ≡ done l → length h < width_of l → Takes l (holding p e h)
holding_takes p e h l a k = record { size = holding_size p e h (omega (arith, width_low l)); lays = holding_state p e h l a k }

-- .. as one that was made ..
pub made_takes : (p : PField) (e : ℤ) (r : Receiver) → made_of p e ≡ done r → (r ≡ holding p e []) × ((l : Layout) × ((laid All p e ≡ done l) × Takes l r))
made_takes p e r h =
    let (l, (a, b)) = given_done (λ (l : Layout). holding p e []) (laid All p e) r h in
    let k = holding_takes p e [] l a (width_some l (laid_good All p e l a)) in
    (sym b, (l, (a, subst (Takes l) b k)))

-- .. and as one that a call hands back, whatever the call came to
module _ (t : Table) {l : Layout} {r : Receiver} (k : Takes l r) where
  pub left_takes : (s : List ℕ) → Takes l (holding r.p r.epoch (left_in l s))
  left_takes s = holding_takes r.p r.epoch (left_in l s) l (good r l k.lays).lays (parted t l (some k) s).1

  -- a call that ends with a result is the whole run's
  pub fate_is : (piece : List ℕ) (room : ℕ) (f : Fate) → feed_of t r piece room ≡ done f → f ≡ fate_of t l (run_of r piece)
  unfolding feed_of
  fate_is piece room f h =
      let e = ap (λ (x : Outcome Layout). and_then x (λ l. need (leb (whole_in l (run_of r piece)) room) 8 (done (fate_of t l (run_of r piece))))) k.lays in
      let (_, d) = need_done (leb (whole_in l (run_of r piece)) room) 8 (done (fate_of t l (run_of r piece))) f (sym e ∙ h) in
      sym (done_is _ f d)

  -- less than a T-field: none is answered, and all is left
  short_run : (s : List ℕ) → length s < width_of l → (answers_in t l s ≡ []) × (left_in l s ≡ s)
  unfolding answers_in left_in fields_in
  short_run s h = rw (div-eq_of_lt {n = length s} {m = width_of l} h, zero-mul) (refl, refl)

  -- so a receiver is what it holds
  pub nothing_fed : (answers_in t l (held_in r ++ []) ≡ []) × (holding r.p r.epoch (left_in l (held_in r ++ [])) ≡ r)
  nothing_fed =
      let (a, b) = short_run (held_in r) (few k) in
      rw (append-nil (held_in r), a, b) (refl, sym (state_is r l k.size k.lays (width_low l)))

-- ---- calls one after another
-- what the answers and the last state of calls come to, by the bytes that were taken
abbrev Whole : Table → Layout → Receiver → List ℕ → List (Outcome Time) → Receiver → Type 0
Whole t l r run answers next = (answers ≡ answers_in t l (held_in r ++ run)) × (next ≡ holding r.p r.epoch (left_in l (held_in r ++ run)))

-- one call, and then the others
call_first : (t : Table) (l : Layout) (r : Receiver) → Takes l r → (p : Piece) (ps : List Piece) → ((q : Receiver) → Takes l q → Whole t l q (taken t q ps) (told t q ps) (last t q ps))
    → (x : Outcome Fate) → call_of t r p ≡ x → Whole t l r (taken_by x p.bytes ++ taken t (next_of r x) ps) (told_by x ++ told t (next_of r x) ps) (last t (next_of r x) ps)
call_first t l r k p ps others (refused n) h = others r k
call_first t l r k p ps others (done f) h =
    let run = run_of r p.bytes in
    let left = left_in l run in
    let next = holding r.p r.epoch left in
    let more = taken t next ps in
    let (a, b) = others next (left_takes t k run) in
    let e = held_is r.p r.epoch left in
    let s : held_in r ++ (p.bytes ++ more) ≡ run ++ more = sym (append_assoc (held_in r) p.bytes more) in
    rw (fate_is t k p.bytes p.room f h, s, cut_answers t l (some k) run more, cut_left t l (some k) run more) (
      ap (λ (x : List (Outcome Time)). answers_in t l run ++ x) (a ∙ ap (λ (x : List ℕ). answers_in t l (x ++ more)) e),
      b ∙ ap (λ (x : List ℕ). holding r.p r.epoch (left_in l (x ++ more))) e,
    )

-- ==== THE LAW. Whatever the pieces and the rooms of the calls: the answers of all of them, one after another, are those of reading whole what was held and then the bytes that were taken, one T-field after another; and the last state holds what is left
pub however_cut : (t : Table) (l : Layout) (r : Receiver) → Takes l r → (ps : List Piece) → (told t r ps ≡ answers_in t l (held_in r ++ taken t r ps)) × (last t r ps ≡ holding r.p r.epoch (left_in l (held_in r ++ taken t r ps)))
however_cut t l r k [] = let (a, b) = nothing_fed t k in (sym a, sym b)
however_cut t l r k (p ∷ ps) = call_first t l r k p ps (λ q j. however_cut t l q j ps) (call_of t r p) refl

-- ---- "given room"
pub taken_all : (t : Table) (r : Receiver) (ps : List Piece) → Roomy t r ps → taken t r ps ≡ whole ps
taken_all t r [] m = refl
taken_all t r (p ∷ ps) ((f, e), m) = ap (λ (x : List ℕ). x ++ taken t (next_of r (call_of t r p)) ps) (ap (λ (x : Outcome Fate). taken_by x p.bytes) e) ∙ ap (λ (x : List ℕ). p.bytes ++ x) (taken_all t (next_of r (call_of t r p)) ps m)

-- "However a byte run is cut, given room, the answers must be those of reading it whole, one T-field after another", and the last state is that of the whole: of a receiver that was made ..
pub made_cut : (t : Table) (p : PField) (e : ℤ) (r : Receiver) → made_of p e ≡ done r → (ps : List Piece) → Roomy t r ps
    → (l : Layout) × ((laid All p e ≡ done l) × ((told t r ps ≡ answers_in t l (whole ps)) × (last t r ps ≡ holding p e (left_in l (whole ps)))))
made_cut t p e r h ps m =
    let (i, (l, (a, k))) = made_takes p e r h in
    let (b, c) = however_cut t l r k ps in
    let s : held_in r ++ taken t r ps ≡ whole ps = ap (λ (x : Receiver). held_in x ++ taken t r ps) i ∙ taken_all t r ps m in
    (l, (a, (b ∙ ap (answers_in t l) s, c ∙ ap (λ (x : Receiver). holding x.p x.epoch (left_in l (held_in r ++ taken t r ps))) i ∙ ap (λ (x : List ℕ). holding p e (left_in l x)) s)))

-- .. and of any, as one call with all of it
pub as_one_call : (t : Table) (l : Layout) (r : Receiver) → Takes l r → (ps : List Piece) → Roomy t r ps → (room : ℕ) (f : Fate) → feed_of t r (whole ps) room ≡ done f → (told t r ps ≡ f.answers) × (last t r ps ≡ next_of r (done f))
as_one_call t l r k ps m room f h =
    let (a, b) = however_cut t l r k ps in
    rw (fate_is t k (whole ps) room f h, ← taken_all t r ps m) (a, b)

-- a call that is refused is as if it had not been: "after an 8 the same piece with enough room goes on"
pub refused_nothing : (t : Table) (r : Receiver) (p : Piece) (ps : List Piece) (n : ℕ) → call_of t r p ≡ refused n → (told t r (p ∷ ps) ≡ told t r ps) × (last t r (p ∷ ps) ≡ last t r ps)
refused_nothing t r p ps n e = rw e (refl, refl)

-- ---- how much room: as many rows as T-fields are completed, and no more than the piece has bytes
module _ (t : Table) {l : Layout} {r : Receiver} (k : Takes l r) where
  pub room_exactly : (piece : List ℕ) (room : ℕ) → (feed_of t r piece room ≡ refused 8) ↔ (room < whole_in l (run_of r piece))
  room_exactly piece room = (λ h. go h (dec_lt room (whole_in l (run_of r piece))), λ h. no_room t r piece room l k.lays h)
    where
      go : feed_of t r piece room ≡ refused 8 → Dec (room < whole_in l (run_of r piece)) → room < whole_in l (run_of r piece)
      go h (yes less) = less
      go h (no more) = never 8 _ (sym h ∙ with_room t r piece room l k.lays (omega arith))

  few_completed : (piece : List ℕ) → whole_in l (run_of r piece) ≤ length piece
  few_completed piece =
      let n = length (run_of r piece) in
      let w = width_of l in
      let h : n < suc (length piece) * w = omega (arith, few k, length-append (held_in r) piece, suc-mul (length piece) w, le-mul_of_pos_right (length piece) (some k)) in
      omega (arith, (div-lt_iff_lt-mul {k = w} {x = n} {y = suc (length piece)} (some k)).1 h)

pub ample_roomy : (t : Table) (l : Layout) (r : Receiver) → Takes l r → (ps : List Piece) → Ample ps → Roomy t r ps
ample_roomy t l r k [] m = tt
ample_roomy t l r k (p ∷ ps) (h, m) =
    let e = with_room t r p.bytes p.room l k.lays (omega (arith, few_completed t k p.bytes)) in
    ((fate_of t l (run_of r p.bytes), e), subst (λ (x : Outcome Fate). Roomy t (next_of r x) ps) (sym e) (ample_roomy t l (holding r.p r.epoch (left_in l (run_of r p.bytes))) (left_takes t k (run_of r p.bytes)) ps m))

-- ==== "reading it whole, one T-field after another" is reading the run, from where each T-field begins, as a binary code without its P-field
pub as_read : (t : Table) (p : PField) (e : ℤ) (l : Layout) → laid All p e ≡ done l → (s : List ℕ) (i : ℕ) → i < whole_in l s
    → scan_of t (drop (i * width_of l) s) (Given p) e ≡ given (scanned (width_of l)) (get_or (answers_in t l s) i (refused 0))
unfolding answers_in scan_of scan_in
as_read t p e l a s i h =
    ap (λ (x : Outcome Head). and_then x (λ y. scan_in t (drop (i * width_of l) s) y.start y.layout)) (head_given All e (drop (i * width_of l) s) p l a)
    ∙ rw zero-add (ap (given (scanned (width_of l))) (sym (field_number t l (whole_in l s) s i h)))
