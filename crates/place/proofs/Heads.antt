-- Codes by their P-fields: what is told of one that is read, and of any other.
use mathlib.Core.Path.{◌≡◌, refl, sym, ap, ◌∙◌}
use Rattle.std.specs.Prelude.{Result, Option, Ok, Err, Some, None, List, ℕ, ℤ, ◌≤◌}
use native.Mathlib.Omega.{arith}
use Rattle.std.specs.Result.{result_ok}
use Rattle.base.specs.Outcome.{done}
use Rattle.base.specs.Said.{said}
use Rattle.base.specs.declared.Refusal.{Refusal}
use Rattle.pfield.specs.PField.{headed_of}
use Rattle.pfield.specs.declared.Codes.{Codes}
use Rattle.pfield.specs.declared.Head.{Head}
use Rattle.pfield.specs.declared.Layout.{Layout}
use Rattle.pfield.specs.declared.Preamble.{Preamble}
use Rattle.pfield.proofs.Heads.{start_low}
use Rattle.place.specs.Binary.{headed_place}

said_done : (r : Result Head Refusal) (h : Head) → result_ok r ≡ Some h → said r ≡ done h
said_done (Ok x) h e = let z : x ≡ h = cc in ap done z
said_done (Err why) h e = absurd (grind arith)

module _ (k : Codes) (s : List ℕ) (p : Preamble) (e : ℤ) (r : Result Head Refusal) (t : said r ≡ headed_of k s p e) where
  pub head_low : (h : Head) → result_ok r ≡ Some h → h.start ≤ 1
  head_low h f = start_low k e s p h (sym t ∙ said_done r h f)

  module _ (place : ℕ → Layout → Option ℕ) where
    pub head_none : result_ok r ≡ None → None ≡ headed_place place (headed_of k s p e)
    head_none f = go r f ∙ ap (headed_place place) t
      where
        go : (x : Result Head Refusal) → result_ok x ≡ None → None ≡ headed_place place (said x)
        go (Ok h) g = absurd (grind arith)
        go (Err why) g = refl

    pub head_some : (h : Head) → result_ok r ≡ Some h → place h.start h.layout ≡ headed_place place (headed_of k s p e)
    head_some h f = sym (ap (headed_place place) (sym t ∙ said_done r h f))
