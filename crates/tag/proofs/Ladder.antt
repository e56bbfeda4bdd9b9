-- The rungs of reading a tag, one law for each kind of return.
use mathlib.Core.Path.{◌≡◌, refl, sym, ap, ap₂, ◌∙◌}
use mathlib.Core.Bool.{Bool, true, false, cond, ◌&&◌}
use mathlib.Core.List.{List, ◌++◌}
use Prim.Native.Nat.{ℕ, ◌+◌, ◌-◌, ◌<◌, ◌≤◌}
use borrow.Author.Tests.{lt-ltb, le-ltb, le-leb, lt-leb}
use lib.Dec.{ltb}
use lib.ListN.{length, take, drop}
use Rattle.base.specs.Outcome.{Outcome, done, refused, need, and_then, given}
use Rattle.base.proofs.Bools.{cond_yes, cond_no}
use Rattle.base.proofs.Ladders.{need_yes, need_no}
use Rattle.seek.specs.declared.Wants.{Wants}
use Rattle.tag.proofs.Scans.{rest_is}
use Rattle.tag.specs.Forms.{Form, days, months, hours, minutes, find}
use Rattle.tag.specs.Tags.{calendar_as, until, Daytime, time_in, tag, midnight, any_day, alone_by, alone, joined, formed, good_day, good_clock, good_tag, want_of}

-- ---- a calendar and a time
module _ (c k : List ℕ) where
  pub joined_none : find days c ≡ refused 4 → refused 4 ≡ joined c k
  unfolding joined
  joined_none e = sym (rw e)

  module _ (f : Form) (e : find days c ≡ done f) where
    pub joined_bad : (n : ℕ) → time_in hours k ≡ refused n → refused n ≡ joined c k
    unfolding joined
    joined_bad n g = sym (rw (e, g))

    pub joined_done : (t : Daytime) → time_in hours k ≡ done t → done (tag (calendar_as c f) t) ≡ joined c k
    unfolding joined
    joined_done t g = sym (rw (e, g))

-- ---- one of the two
module _ (s : List ℕ) where
  pub alone_day : (f : Form) → find (days ++ months) s ≡ done f → done (tag (calendar_as s f) midnight) ≡ alone s
  unfolding alone
  alone_day f e = sym (ap (alone_by s) e)

  module _ (e : find (days ++ months) s ≡ refused 4) where
    pub alone_bad : (n : ℕ) → time_in (hours ++ minutes) s ≡ refused n → refused n ≡ alone s
    unfolding alone
    alone_bad n g = sym (ap (alone_by s) e ∙ ap (given (tag any_day)) g)

    pub alone_time : (t : Daytime) → time_in (hours ++ minutes) s ≡ done t → done (tag any_day t) ≡ alone s
    unfolding alone
    alone_time t g = sym (ap (alone_by s) e ∙ ap (given (tag any_day)) g)

-- ---- which of them
module _ (s : List ℕ) (t : ℕ) (e : t ≡ until 84 s) where
  abbrev parted : ℕ → Outcome Wants
  parted q = cond (ltb q (length s)) (joined (take q s) (drop (q + 1) s)) (alone s)

  formed_at : formed s ≡ parted t
  unfolding formed
  formed_at = ap parted (sym e)

  pub formed_joined : t < length s → joined (take t s) (drop (t + 1) s) ≡ formed s
  formed_joined h = sym (formed_at ∙ cond_yes _ _ (lt-ltb t (length s) h))

  pub formed_parts : t < length s → joined (take t s) (take (length s - (t + 1)) (drop (t + 1) s)) ≡ formed s
  formed_parts h = ap (joined (take t s)) (rest_is s (t + 1)) ∙ formed_joined h

  pub formed_alone : length s ≤ t → alone s ≡ formed s
  formed_alone h = sym (formed_at ∙ cond_no _ _ (le-ltb t (length s) h))

-- ---- a tag
module _ (s : List ℕ) where
  pub tag_empty : length s < 1 → refused 1 ≡ want_of s
  unfolding want_of
  tag_empty h = sym (need_no 1 _ (lt-leb 1 (length s) h))

  abbrev ranged : Outcome Wants → Outcome Wants
  ranged x = and_then x (λ t. need (good_tag t) 4 (done t))

  module _ (h : 1 ≤ length s) where
    tag_at : (x : Outcome Wants) → formed s ≡ x → want_of s ≡ ranged x
    unfolding want_of
    tag_at x e = need_yes 1 _ (le-leb 1 (length s) h) ∙ ap ranged e

    pub tag_unformed : (n : ℕ) → formed s ≡ refused n → refused n ≡ want_of s
    tag_unformed n e = sym (tag_at (refused n) e)

    module _ (t : Wants) (e : formed s ≡ done t) where
      ranged_at : (a b : Bool) → good_day t.calendar ≡ a → good_clock t.clock ≡ b → want_of s ≡ need (a && b) 4 (done t)
      ranged_at a b f g = tag_at (done t) e ∙ ap₂ (λ (x y : Bool). need (x && y) 4 (done t)) f g

      pub tag_no_day : good_day t.calendar ≡ false → refused 4 ≡ want_of s
      tag_no_day f = sym (ranged_at false (good_clock t.clock) f refl)

      module _ (f : good_day t.calendar ≡ true) where
        pub tag_no_clock : good_clock t.clock ≡ false → refused 4 ≡ want_of s
        tag_no_clock g = sym (ranged_at true false f g)

        pub tag_done : good_clock t.clock ≡ true → done t ≡ want_of s
        tag_done g = sym (ranged_at true true f g)
