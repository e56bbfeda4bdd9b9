-- The verdict on a text's shape (document 02, request 3: "An ASCII text of wrong shape gives the length of its longest start that also begins a permitted shape, whatever its digits").
use Rattle.std.specs.Prelude.{cond, List, ℕ, Result, Ok, Err}
use Rattle.shape.specs.Shapes.{Shapes, shaped, along}

unfoldable pub fit_of : Shapes → List ℕ → Result Unit ℕ
fit_of ps s = cond (shaped ps s) (Ok tt) (Err (along ps s))
