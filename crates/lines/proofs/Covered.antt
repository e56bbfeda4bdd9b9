-- What was read is written: no line that reads as a time is answered by a refusal.
use mathlib.Core.Path.{◌≡◌, refl, sym, ap, ◌∙◌}
use mathlib.Core.List.{List, [], ◌∷◌, ◌++◌}
use Prim.Native.Nat.{ℕ, ◌≤◌}
use lib.ListN.{length}
use Rattle.base.specs.Outcome.{done}
use Rattle.scale.specs.Time.{Time}
use Rattle.leap.specs.Builtin.{builtin}
use Rattle.utc.proofs.Builtin.{builtin_reckons}
use Rattle.utc.proofs.Laws.{time_back, moment_told}
use Rattle.utc.proofs.Lift.{read_of}
use Rattle.ascii.specs.Ascii.{text}
use Rattle.codes.specs.Text.{text_of, letters}
use Rattle.codes.specs.Setting.{default_layout}
use Rattle.codes.proofs.Texts.{read_valid, covered_written}
use Rattle.lines.specs.Answer.{printed, answer_of}
use Rattle.lines.proofs.Texts.{of_read}

pub read_printed : (p : List ℕ) (t : Time) → length p ≤ 64 → text_of builtin p ≡ done t → (code : List ℕ) × ((letters builtin default_layout t ≡ done code) × (answer_of builtin p ≡ code ++ 10 ∷ []))
unfolding printed
read_printed p t h e =
    let r = read_of builtin (text p) t e in
    let (u, (a, b)) = moment_told builtin t r.moment (time_back builtin builtin_reckons r.moment t r.is) in
    let (code, c) = covered_written builtin builtin_reckons default_layout t (read_valid builtin builtin_reckons p t e) refl u a in
    (code, (c, ap printed (of_read p h (done t) (sym e) ∙ c)))
