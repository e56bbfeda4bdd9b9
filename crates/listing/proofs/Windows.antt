-- The window of records: its rungs, and its two ends on the axis of raised seconds. For any kind of tag.
use mathlib.Core.Bool.{Bool, true, false, not}
use mathlib.Core.Path.{◌≡◌, refl, sym, ap, ◌∙◌}
use Prim.Native.Nat.{ℕ, ◌^◌, ◌<◌, ◌≤◌}
use native.Mathlib.Omega.{arith}
use lib.Dec.{lit<}
use Rattle.base.specs.Outcome.{Outcome, done, refused, need}
use Rattle.base.proofs.Signed.{lt_no, lt_not}
use Rattle.base.proofs.Ladders.{never, need_yes, need_done, done_is}
use Rattle.scale.specs.Time.{Time, per_second, worth, is_record, earlier}
use Rattle.scale.specs.Inner.{Within}
use Rattle.scale.proofs.Laws.{good_within, earlier_worth}
use Rattle.window.specs.Seconds.{raised_by}
use Rattle.window.proofs.Ticks.{first_near}
use Rattle.listing.specs.Records.{windowed, start_at}
use Rattle.listing.specs.Ends.{ends_of}
use Rattle.listing.specs.declared.ends.Ends.{Ends}

-- a window whose ends are records in their order
pub record Ordered (from to : Time) : Type 0 where
  pub starts : is_record from ≡ true
  pub ends : is_record to ≡ true
  pub in_order : earlier to from ≡ false

not_is : (b : Bool) → not b ≡ true → b ≡ false
not_is b e = sym (not_not b) ∙ ap not e
  where
    not_not : (b : Bool) → not (not b) ≡ b
    not_not true = refl
    not_not false = refl

module _ (from to : Time) where
  -- a ladder over the window that ends in a value passed its rungs
  pub windowed_told : {A : Type 0} (x : Outcome A) (b : A) → windowed from to x ≡ done b → Ordered from to × (x ≡ done b)
  windowed_told x b h =
      let (p, h₁) = need_done (is_record from) 7 _ b h in
      let (q, h₂) = need_done (is_record to) 7 _ b h₁ in
      let (r, h₃) = need_done (not (earlier to from)) 9 x b h₂ in
      (record { starts = p; ends = q; in_order = not_is (earlier to from) r }, h₃)

  pub windowed_yes : {A : Type 0} (x : Outcome A) → Ordered from to → windowed from to x ≡ x
  windowed_yes x o = need_yes 7 _ o.starts ∙ need_yes 7 _ o.ends ∙ need_yes 9 x (ap not o.in_order)

  -- where one is refused by the window, every other is
  pub windowed_refused : {A B : Type 0} (a : A) (y : Outcome B) (n : ℕ) → windowed from to (done a) ≡ refused n → windowed from to y ≡ refused n
  windowed_refused a y n = go (is_record from) (is_record to) (not (earlier to from))
    where
      go : (p q r : Bool) → need p 7 (need q 7 (need r 9 (done a))) ≡ refused n → need p 7 (need q 7 (need r 9 y)) ≡ refused n
      go true true true h = never n a (sym h)
      go true true false h = ap refused (cc)
      go true false r h = ap refused (cc)
      go false q r h = ap refused (cc)

-- the ends that the code found
pub ends_told : (from to : Time) (k a b : ℕ) → ends_of from to k ≡ done (record { start = a; end = b }) → Ordered from to × (start_at (2 ^ 41) k from ≡ a) × (start_at (2 ^ 41) k to ≡ b)
unfolding ends_of
ends_told from to k a b h =
    let (o, e) = windowed_told from to _ _ h in
    let f = done_is _ _ e in
    (o, ap (λ (x : Ends). x.start) f, ap (λ (x : Ends). x.end) f)

pub ends_refused : {B : Type 0} (from to : Time) (k n : ℕ) (y : Outcome B) → ends_of from to k ≡ refused n → windowed from to y ≡ refused n
unfolding ends_of
ends_refused from to k n y h = windowed_refused from to _ y n h

-- an end is within the counter's reach
pub start_low : (k : ℕ) (t : Time) → is_record t ≡ true → start_at (2 ^ 41) k t ≤ 2 ^ 63
unfolding start_at
start_low k t v =
    let w : Within (2 ^ 41) t = good_within (2 ^ 41) t (lit< tt) v in
    omega (arith, first_near (raised_by (2 ^ 41) t.sec) t.ticks k)

-- two windows that adjoin, as one
pub ordered_then : (a b c : Time) → Ordered a b → Ordered b c → Ordered a c
ordered_then a b c o r =
    let f : (t : Time) → is_record t ≡ true → t.ticks < per_second = λ t v. (good_within (2 ^ 41) t (lit< tt) v).below in
    let ta = f a o.starts in
    let tb = f b o.ends in
    let tc = f c r.ends in
    record {
      starts = o.starts;
      ends = r.ends;
      in_order =
          earlier_worth c a tc ta
          ∙ lt_not (worth c) (worth a) (omega (arith, lt_no (worth b) (worth a) (sym (earlier_worth b a tb ta) ∙ o.in_order), lt_no (worth c) (worth b) (sym (earlier_worth c b tc tb) ∙ r.in_order)));
    }
