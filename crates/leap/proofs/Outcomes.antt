-- The rungs of a second's, a reading's and a day's ladder, one law for each.
use Prim.Native.Nat.{ℕ, ◌+◌, ◌-◌, ◌*◌, ◌≤◌, ◌<◌}
use mathlib.Core.Path.{◌≡◌, sym, ◌∙◌}
use mathlib.Core.Bool.{true, false}
use borrow.Author.Tests.{le-leb, lt-leb, lt-ltb, le-ltb}
use Rattle.base.specs.Outcome.{done, refused, need}
use Rattle.base.proofs.Ladders.{need_yes, need_no, need_done, done_is}
use Rattle.leap.specs.Table.{Table, offset, start, day_length, day_holding, covers, covers_second, second_at, reading, reading_at, day_on, day_at}

module _ (t : Table) (d x : ℕ) where
  pub second_over : 86400 < x → second_at t d x ≡ refused 4
  unfolding second_at
  second_over h = need_no 4 _ (lt-leb x 86400 h)

  module _ (h : x ≤ 86400) where
    pub second_uncovered : covers t d ≡ false → second_at t d x ≡ refused 5
    unfolding second_at
    second_uncovered c = need_yes 4 _ (le-leb x 86400 h) ∙ need_no 5 _ c

    pub second_missing : covers t d ≡ true → day_length t d ≤ x → second_at t d x ≡ refused 6
    unfolding second_at
    second_missing c l = need_yes 4 _ (le-leb x 86400 h) ∙ need_yes 5 _ c ∙ need_no 6 _ (le-ltb x (day_length t d) l)

    pub second_done : covers t d ≡ true → x < day_length t d → second_at t d x ≡ done (d * 86400 + x + offset t d)
    unfolding second_at
    second_done c l = need_yes 4 _ (le-leb x 86400 h) ∙ need_yes 5 _ c ∙ need_yes 6 _ (lt-ltb x (day_length t d) l)

-- as the code has it: the covered day's index is the day's
pub second_found : (t : Table) (d x n : ℕ) → x ≤ 86400 → done n ≡ need (covers t d) 5 (done d) → x < day_length t n → done (n * 86400 + x + offset t n) ≡ second_at t d x
unfolding second_at
second_found t d x n h e l =
    let (c, f) = need_done (covers t d) 5 (done d) n (sym e) in
    let g : d ≡ n = done_is d n f in
    rw (← g) (sym (second_done t d x h c (rw g l)))

module _ (t : Table) (s : ℕ) where
  pub reading_uncovered : covers_second t s ≡ false → reading_at t s ≡ refused 5
  unfolding reading_at
  reading_uncovered c = need_no 5 _ c

  pub reading_done : covers_second t s ≡ true → reading_at t s ≡ done (reading t (day_holding t s) (s - start t (day_holding t s)))
  unfolding reading_at
  reading_done c = need_yes 5 _ c

module _ (t : Table) (d : ℕ) where
  pub day_uncovered : covers t d ≡ false → day_at t d ≡ refused 5
  unfolding day_at
  day_uncovered c = need_no 5 _ c

  pub day_done : covers t d ≡ true → day_at t d ≡ done (day_on t d)
  unfolding day_at
  day_done c = need_yes 5 _ c
