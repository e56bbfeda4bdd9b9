-- Two answers that meet a contract are one. `start` promises an equation `r ≡ ..`, which is this already.
use mathlib.Core.Path.{◌≡◌, sym, ◌∙◌}
use mathlib.Core.List.{List}
use Prim.Native.Nat.{ℕ}
use Rattle.lines.specs.Split.{Fate}
use Rattle.lines.specs.Says.{Fares, Ends}
use Rattle.lines.specs.declared.Fed.{Fed}

pub feed_once : (f : Fate) (piece old x y : List ℕ) (a b : Fed) → Fares f piece old x a → Fares f piece old y b → (a ≡ b) × (x ≡ y)
feed_once f piece old x y a b p q = (p.answer ∙ sym q.answer, p.bytes ∙ sym q.bytes)

pub finish_once : (text old x y : List ℕ) (a b : ℕ) → Ends text old x a → Ends text old y b → (a ≡ b) × (x ≡ y)
finish_once text old x y a b p q = (p.answer ∙ sym q.answer, p.bytes ∙ sym q.bytes)
