-- A receiver in its octets, and back.
use mathlib.Core.Path.{◌≡◌, refl, sym, ap, ◌∙◌}
use mathlib.Core.Bool.{Bool}
use mathlib.Core.List.{List, [], ◌∷◌, ◌++◌, append_assoc, append-nil}
use Prim.Native.Nat.{ℕ, ◌^◌, ◌<◌, ◌≤◌}
use native.Mathlib.Omega.{arith}
use lib.Dec.{lit<, lit≤}
use lib.IntN.{ℤ, pos, negsuc}
use lib.ListN.{length, get_or, drop, set, replicate, length-append, length-set}
use lib.Seq.{drop-drop, drop_at, get_or_at}
use Rattle.base.specs.Parts.{plus, minus, bits_of, signed_of}
use Rattle.base.specs.Outcome.{Outcome, done, refused, given, cell}
use Rattle.base.proofs.Signed.{signed_bits}
use Rattle.base.proofs.Ladders.{never, refused_is}
use Rattle.octets.specs.Places.{be, octets, octet_value, octet_good, octet_of}
use Rattle.octets.specs.Counts.{count_at}
use Rattle.octets.proofs.Counts.{told, never_refused}
use Rattle.octets.specs.Stores.{pasted, Stored}
use Rattle.octets.proofs.Places.{length_places, number_append, number_places, octet_rule}
use Rattle.octets.proofs.Pastes.{paste_first, paste_one, then, stored, length_pasted}
use Rattle.leap.specs.Builtin.{builtin}
use Rattle.pfield.specs.PField.{octet}
use Rattle.receiver.specs.Receiver.{Fate, feed_of, next_of}
use Rattle.receiver.specs.Answers.{none_by, Feeds}
use Rattle.receiver.specs.declared.Receiver.{Receiver}
use Rattle.receiver.specs.declared.Fed.{Fed}
use Rattle.base.specs.Said.{said}
use Rattle.receiver.proofs.Cuts.{few_left}
use Rattle.honigzange.specs.Cells.{state_of, receiver_in}
use Rattle.honigzange.specs.Calls.{MakeCells, FeedCells}
use Rattle.base.specs.declared.Refusal.{Refusal}
use Rattle.std.specs.Prelude.{Result, Ok, Err}

-- ---- the octets, put in one after another
pub put_in : (p n : ℕ) (mid pending a b : List ℕ) (q : Bool) → length mid ≡ 8 → length pending ≡ 12 → Stored mid 1 (set (replicate 22 0) 0 p) a q → b ≡ pasted (set a 9 n) 10 pending → b ≡ (p ∷ mid) ++ (n ∷ pending)
put_in p n mid pending a b q m s x y =
    let zeros : List ℕ = replicate 22 0 in
    let first : set zeros 0 p ≡ pasted zeros 0 (p ∷ []) = paste_one zeros 0 p (lit< tt) in
    let second : a ≡ pasted zeros 0 (p ∷ mid) = then zeros (p ∷ []) mid 0 1 first (stored (omega arith) x).1 refl (lit≤ tt) in
    let la : length a ≡ 22 = ap length second ∙ length_pasted zeros 0 (p ∷ mid) (omega arith) in
    let third : set a 9 n ≡ pasted zeros 0 ((p ∷ mid) ++ (n ∷ [])) = then zeros (p ∷ mid) (n ∷ []) 0 9 second (paste_one a 9 n (omega arith)) (omega arith) (lit≤ tt) in
    let k : length ((p ∷ mid) ++ (n ∷ [])) ≡ 10 = length-append (p ∷ mid) (n ∷ []) ∙ omega arith in
    let ls : length (set a 9 n) ≡ 22 = length-set a 9 n ∙ la in
    let fourth : b ≡ pasted zeros 0 ((p ∷ mid) ++ (n ∷ []) ++ pending) = then zeros ((p ∷ mid) ++ (n ∷ [])) pending 0 10 third y (omega arith) (lit≤ tt) in
    let all = (p ∷ mid) ++ (n ∷ []) ++ pending in
    let l : length all ≡ 22 = length-append ((p ∷ mid) ++ (n ∷ [])) pending ∙ omega arith in
    fourth ∙ paste_first zeros all ∙ ap (λ (i : ℕ). all ++ drop i zeros) l ∙ append-nil all ∙ append_assoc (p ∷ mid) (n ∷ []) pending

-- ---- and taken out again
parts_in : (p n : ℕ) (mid pending : List ℕ) → length mid ≡ 8 → receiver_in ((p ∷ mid) ++ (n ∷ pending)) ≡ record { p = octet p; epoch = signed_of (be mid 8); pending = pending; count = n }
parts_in p n mid pending m =
    let k : length (p ∷ mid) ≡ 9 = omega arith in
    let a : get_or ((p ∷ mid) ++ (n ∷ pending)) 9 0 ≡ n = get_or_at (p ∷ mid) n pending 0 9 k in
    let b : drop 10 ((p ∷ mid) ++ (n ∷ pending)) ≡ pending = sym (drop-drop 1 9 ((p ∷ mid) ++ (n ∷ pending))) ∙ ap (drop 1) (drop_at (p ∷ mid) (n ∷ pending) 9 k) in
    let e : be (mid ++ (n ∷ pending)) 8 ≡ be mid 8 = number_append 256 octet_value mid (n ∷ pending) 8 (omega arith) in
    λ i. record { p = octet p; epoch = signed_of (e i); pending = b i; count = a i }

bits_low : (z : ℤ) → plus z < 2 ^ 63 → bits_of z < 256 ^ 8
bits_low (pos n) h = omega arith
bits_low (negsuc n) h = omega arith

-- what a call wrote is what the next one reads
pub given_back : (r : Receiver) → plus r.epoch < 2 ^ 63 → minus r.epoch ≤ 2 ^ 63 → receiver_in (state_of r) ≡ r
given_back r low high =
    let bits = bits_of r.epoch in
    let e : signed_of (be (octets 8 bits) 8) ≡ r.epoch = ap signed_of (number_places octet_rule 8 bits (bits_low r.epoch low)) ∙ signed_bits r.epoch low high in
    parts_in r.p.octet r.count (octets 8 bits) r.pending (length_places 256 octet_of 8 bits) ∙ (λ i. record { p = r.p; epoch = e i; pending = r.pending; count = r.count })

-- so a struct that holds a receiver holds the next one after a call, whatever that came to: the law on receivers (`however_cut`) is one on structs
held_after : (r : Receiver) (x : Outcome Fate) → cell (λ (f : Fate). state_of (next_of r (done f))) x (state_of r) ≡ state_of (next_of r x)
held_after r (done f) = refl
held_after r (refused n) = refl

epoch_stays : (r : Receiver) (x : Outcome Fate) → (next_of r x).epoch ≡ r.epoch
epoch_stays r (done f) = refl
epoch_stays r (refused n) = refl

pub handed_on : (r : Receiver) → plus r.epoch < 2 ^ 63 → minus r.epoch ≤ 2 ^ 63 → (piece : List ℕ) (room n : ℕ) (state : List ℕ) (rows new : List (List ℤ)) (count many : ℕ)
    → FeedCells (feed_of builtin (receiver_in (state_of r)) piece room) n (state_of r) state rows new count many
    → (state ≡ state_of (next_of r (feed_of builtin r piece room))) × ((next_of r (feed_of builtin r piece room)).epoch ≡ r.epoch)
handed_on r low high piece room n state rows new count many h =
    let x = feed_of builtin r piece room in
    (h.octets ∙ ap (λ (q : Receiver). cell (λ (f : Fate). state_of (next_of q (done f))) (feed_of builtin q piece room) (state_of r)) (given_back r low high) ∙ held_after r x, epoch_stays r x)

-- a making that is refused leaves the cells
module _ (state : List ℕ) where
  pub make_refused : (x : Outcome Receiver) (n : ℕ) → given none_by x ≡ refused n → MakeCells x n state state
  make_refused (done r) n h = never n 0 (sym h)
  make_refused (refused m) n h = record { answer = sym (refused_is m n h); octets = refl }

-- what is then held is few enough to be counted in an octet
pub few_next : (r : Receiver) (piece : List ℕ) (rows new : List (List ℤ)) (f : Fed) (n : ℕ) → Feeds (feed_of builtin r piece (length rows)) r rows new f → said f.answer ≡ done n → f.next.count < 256
few_next r piece rows new f n h a = go (feed_of builtin r piece (length rows)) refl h
  where
    go : (x : Outcome Fate) → feed_of builtin r piece (length rows) ≡ x → Feeds x r rows new f → f.next.count < 256
    go (done y) e h = rw h.next (omega (arith, few_left builtin r piece (length rows) y e))
    go (refused m) e h = never m n (sym h.answer ∙ a)

-- octets that are there are a number
pub epoch_read : (s : List ℕ) → 9 ≤ length s → ((i : ℕ) → get_or s i 0 < 256) → count_at s 1 8 ≡ Ok (be (drop 1 s) 8)
epoch_read s h k = go (count_at s 1 8) refl
  where
    go : (r : Result ℕ Refusal) → count_at s 1 8 ≡ r → r ≡ Ok (be (drop 1 s) 8)
    go (Ok n) e = ap Ok (told 256 octet_value octet_good 8 s 1 8 (Ok n) e).is
    go (Err why) e = absurd (never_refused s 1 8 (lit≤ tt) h k why e)
