-- The search through days and fields, for any good table: what is known of a window when second x of day d is looked at next.
use Rattle.std.proofs.Common.{◌≡◌, sym, ap, ◌∙◌, Result, Ok, true, false, ℕ, ◌+◌, ◌-◌, ◌≤◌, ◌<◌, min, arith}
use mathlib.Core.Logic.{⊎_elim}
use Rattle.base.specs.Said.{said}
use Rattle.base.specs.declared.Refusal.{Refusal}
use Rattle.base.proofs.Once.{said_done}
use Rattle.leap.specs.Builtin.{builtin, first_index, last_index, first_raised, past_raised}
use Rattle.leap.proofs.Builtin.{builtin_good, second_in_lem}
use Rattle.leap.proofs.Outcomes.{reading_done}
use Rattle.leap.specs.Table.{Table, good, start, day_length, covers, reading_at, reading, day_holding}
use Rattle.leap.specs.declared.Reading.{Reading}
use Rattle.leap.proofs.Days.{start_next, start_mono}
use Rattle.leap.proofs.Promises.{Second, second_is, reading_then_second}
use Rattle.window.specs.Window.{Unnamed}
use Rattle.window.proofs.Moments.{Least, le_or_lt}
use Rattle.seek.specs.Naming.{day_fits, clock_fits, names}
use Rattle.seek.specs.Inner.{Skips}
use Rattle.seek.specs.declared.Wants.{Wants}
use Rattle.seek.proofs.Days.{cover_ends, day_none, second_none, fits_named}

-- what the table tells of a covered second
pub reading_told : (s : ℕ) (r : Result Reading Refusal) → first_raised ≤ s → s < past_raised → said r ≡ reading_at builtin s → r ≡ Ok (reading builtin (day_holding builtin s) (s - start builtin (day_holding builtin s)))
reading_told s r l h e = said_done r _ (e ∙ reading_done builtin s (second_in_lem s l h))

pub record Held (d x s : ℕ) : Type 0 where
  pub exact : s ≡ start builtin d + x
  pub low : first_index ≤ d
  pub high : d ≤ last_index
  pub before : s < start builtin (d + 1)

pub reading_is : {s : ℕ} {r : Result Reading Refusal} {y : Reading} → said r ≡ reading_at builtin s → r ≡ Ok y → Held y.day y.second s
reading_is {s} {r} {y} e k =
    let w : Second builtin builtin_good y.day y.second s = second_is builtin builtin_good y.day y.second s (reading_then_second builtin builtin_good s y (sym e ∙ ap said k)).0 in
    let c = cover_ends y.day w.covered in
    record { low = c.0; high = c.1; exact = w.exact; before = omega (arith, w.exact, w.within, start_next builtin builtin_good y.day) }

module _ (t : Table) (ok : good t ≡ true) where
  module _ (g : Wants) (from to : ℕ) where
    -- nothing of the window is named before second x of day d, and its begin lies before the day's end
    pub record Searched (d x : ℕ) : Type 0 where
      pub on : from ≤ start t d + x
      pub begun : from < start t (d + 1)
      pub none : ((k : ℕ) → from ≤ k → k < to → k < start t d + x → k < start t (d + 1) → names t g k ≡ false)

    pub search_start : (d x : ℕ) → from ≡ start t d + x → from < start t (d + 1) → Searched d x
    search_start d x e h =
        record { on = omega arith; begun = h; none = λ k l u g n. absurd (omega arith) }

    -- a day past the one that holds the window's last second
    pub search_end : (last d x : ℕ) → to ≤ start t (last + 1) → last < d → Searched d x → Unnamed (names t g) from to
    search_end last d x h e s k l u =
        let b : to ≤ start t d = omega (arith, start_mono t ok (last + 1) d (omega arith)) in
        s.none k l u (omega arith) (omega (arith, start_next t ok d))

    module _ (d : ℕ) (in_table : covers t d ≡ true) where
      -- a look at a second of the day
      pub search_on : (x r : ℕ) → Skips g.clock x r → Searched d x → Searched d r
      search_on x r q s =
          record {
            on = omega (arith, s.on, q.on);
            begun = s.begun;
            none =
                λ k l u h n.
                ⊎_elim
                (λ (b : start t d + x ≤ k). second_none t ok g d in_table k (omega arith) n (q.none (k - start t d) (omega arith) (omega arith)))
                (λ (b : k < start t d + x). s.none k l u b n)
                (le_or_lt (start t d + x) k);
          }

      -- past the day's end, or the window's
      pub search_past : (x e : ℕ) → e ≡ min (day_length t d) (to - start t d) → e ≤ x → Searched d x → Searched (d + 1) 0
      search_past x e i h s =
          record {
            on = omega (arith, s.begun);
            begun = omega (arith, s.begun, start_next t ok (d + 1));
            none = λ k l u b n. s.none k l u (omega (arith, start_next t ok d)) (omega arith);
          }

      -- a day that does not fit
      pub search_over : (x : ℕ) → day_fits g.calendar d ≡ false → Searched d x → Searched (d + 1) 0
      search_over x f s =
          record {
            on = omega (arith, s.begun);
            begun = omega (arith, s.begun, start_next t ok (d + 1));
            none =
                λ k l u b n.
                ⊎_elim
                (λ (a : start t d ≤ k). day_none t ok g d in_table f k a (omega arith))
                (λ (a : k < start t d). s.none k l u (omega arith) (omega arith))
                (le_or_lt (start t d) k);
          }

      -- a second that fits, on a day that fits
      pub search_found : (x e : ℕ) → e ≡ min (day_length t d) (to - start t d) → x < e → day_fits g.calendar d ≡ true → clock_fits g.clock x ≡ true → Searched d x → Least (names t g) from to (start t d + x)
      search_found x e i h f c s =
          record {
            from = s.on;
            before = omega arith;
            named = fits_named t ok g d in_table x (omega arith) f c;
            none = λ k l b. s.none k l (omega arith) b (omega (arith, start_next t ok d));
          }
