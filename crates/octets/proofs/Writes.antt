-- What a write answers and leaves, by its outcome: one law for each kind of return.
use mathlib.Core.Path.{◌≡◌, sym, ◌∙◌}
use mathlib.Core.List.{List}
use Prim.Native.Nat.{ℕ, ◌+◌, ◌<◌, ◌≤◌}
use borrow.Author.Tests.{le-leb, lt-leb}
use lib.ListN.{length}
use Rattle.base.specs.Outcome.{Outcome, done, refused, given}
use Rattle.std.specs.Prelude.{Result, Ok, Err}
use Rattle.base.specs.Refusals.{number}
use Rattle.base.specs.declared.Refusal.{Refusal}
use Rattle.base.proofs.Ladders.{need_yes, need_no}
use Rattle.base.proofs.Once.{said_once}
use Rattle.octets.specs.Stores.{pasted}
use Rattle.octets.specs.Writes.{roomed, end_of, Wrote}

-- refused, and nothing changed
pub refuses : (why : Refusal) (x : Outcome (List ℕ)) (at : ℕ) (d : List ℕ) → x ≡ refused (number why) → Wrote x at d d (Err why)
refuses why x at d h = record { answer = rw h; bytes = rw h }

-- no room, and nothing changed
pub room_out : (code : List ℕ) (at : ℕ) (d : List ℕ) → length d < at + length code → roomed d at code ≡ refused 8
unfolding roomed
room_out code at d h = need_no 8 _ (lt-leb (at + length code) (length d) h)

pub room_in : (code : List ℕ) (at : ℕ) (d : List ℕ) → at + length code ≤ length d → roomed d at code ≡ done code
unfolding roomed
room_in code at d h = need_yes 8 _ (le-leb (at + length code) (length d) h)

-- written, from `at` to n
pub fills : (code : List ℕ) (x : Outcome (List ℕ)) (at n : ℕ) (d e : List ℕ) → x ≡ done code → n ≡ at + length code → e ≡ pasted d at code → Wrote x at d e (Ok n)
fills code x at n d e h k l = record { answer = rw (h, k); bytes = rw h l }

-- two answers that meet it are equal, and so are the bytes
pub wrote_once : (x : Outcome (List ℕ)) (at : ℕ) (old new new' : List ℕ) (a b : Result ℕ Refusal) → Wrote x at old new a → Wrote x at old new' b → (a ≡ b) × (new ≡ new')
wrote_once x at old new new' a b p q = (said_once (given (end_of at) x) a b p.answer q.answer, p.bytes ∙ sym q.bytes)
