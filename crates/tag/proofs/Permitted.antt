-- A text is formed to a tag exactly when it has one of the tags' shapes.
use mathlib.Core.Path.{◌≡◌, refl, sym, ap, ◌∙◌}
use mathlib.Core.Bool.{Bool, true, false, cond, not, ◌&&◌, ◌||◌, false≢true}
use mathlib.Core.List.{List, [], ◌∷◌, ◌++◌, map}
use Prim.Native.Nat.{ℕ, suc, ◌+◌, ◌-◌, ◌≤◌}
use native.Mathlib.Omega.{arith}
use lib.Dec.{leb, ltb}
use lib.ListN.{length, take, drop}
use borrow.Author.Tests.{leb-true}
use Rattle.base.specs.Outcome.{Outcome, done, refused, need, and_then, given}
use Rattle.base.proofs.Bools.{and_true, never_both}
use Rattle.base.proofs.Ladders.{never, done_is, need_done}
use Rattle.octets.specs.Places.{all_good, digit_good}
use Rattle.shape.specs.Quoted.{bytes}
use Rattle.shape.specs.Shapes.{shape_of, fits, shaped, begins, along}
use Rattle.shape.specs.Parts.{followed, fractions, zones, mark_t}
use Rattle.shape.proofs.Tests.{passes, down_to, down_at, or_left}
use Rattle.shape.proofs.Shapes.{zeros, shape_length, shape_take, shape_drop, shape_shape, digits_in, good_shape, each_shape, shaped_alike, shaped_first, shaped_second, shaped_followed}
use Rattle.ascii.specs.Shapes.{code_shapes}
use Rattle.ascii.specs.Ascii.{zone_text}
use Rattle.seek.specs.declared.Wants.{Wants}
use Rattle.tag.specs.Forms.{Place, free, lowest, at, Form, Forms, days, months, hours, minutes, find, shapes_of, endings, time_shapes, tag_shapes}
use Rattle.tag.specs.Tags.{until, is_lowest, clock_as, calendar_as, fraction_as, Daytime, daytime, unzoned, time_in, tag, any_day, alone_by, alone, joined, formed}
use Rattle.tag.proofs.Scans.{until_shape, find_alike}
use Rattle.tag.proofs.Splits.{Follows, none, part, split}
use Rattle.tag.proofs.Completed.{Parts, day, clock, joint, parts_formed}
use Rattle.tag.proofs.Witness.{formed_4}

-- ---- a text is formed if and only if its shape is
abbrev is_done : {A : Type 0} → Outcome A → Bool
is_done (done a) = true
is_done (refused n) = false

done_need : {A : Type 0} (b : Bool) (o : Outcome A) → is_done (need b 4 o) ≡ b && is_done o
done_need true o = refl
done_need false o = refl

done_given : {A B : Type 0} (g : A → B) (o : Outcome A) → is_done (given g o) ≡ is_done o
done_given g (done a) = refl
done_given g (refused n) = refl

some_done : {A : Type 0} (o : Outcome A) → is_done o ≡ true → (a : A) × (o ≡ done a)
some_done (done a) e = (a, refl)
some_done (refused n) e = absurd (false≢true e)

find_shape : (fs : Forms) (s : List ℕ) → find fs (shape_of s) ≡ find fs s
find_shape fs s = find_alike fs (shape_of s) s (shape_shape s)

fraction_shape : (p : Place) (s : List ℕ) → is_done (fraction_as p (shape_of s)) ≡ is_done (fraction_as p s)
unfolding shape_of
fraction_shape p [] = refl
fraction_shape p (b ∷ s) =
    done_need (not (is_lowest p) && (leb 1 (length (shape_of s)) && (leb (length (shape_of s)) 12 && all_good digit_good (shape_of s) (length (shape_of s))))) _
    ∙ rw (shape_length s, digits_in s (length s)) (sym (done_need (not (is_lowest p) && (leb 1 (length s) && (leb (length s) 12 && all_good digit_good s (length s)))) _))

done_then : {A B : Type 0} (o : Outcome A) (k l : A → Outcome B) → ((a : A) → is_done (k a) ≡ is_done (l a)) → is_done (and_then o k) ≡ is_done (and_then o l)
done_then (done a) k l h = h a
done_then (refused n) k l h = refl

module _ (fs : Forms) (s : List ℕ) where
  abbrev body : List ℕ → List ℕ → Form → Outcome Daytime
  body h r f = given (daytime (clock_as h f)) (fraction_as f.third r)

  unzoned_shape : is_done (unzoned fs (shape_of s)) ≡ is_done (unzoned fs s)
  unfolding unzoned
  unzoned_shape =
      let p = until 46 s in
      let h = take p s in
      let r = drop p s in
      rw (until_shape 46 refl s, ← shape_take p s, ← shape_drop p s, find_shape fs h)
      (done_then (find fs h) (body (shape_of h) (shape_of r)) (body h r) (λ f. done_given (daytime (clock_as (shape_of h) f)) (fraction_as f.third (shape_of r)) ∙ fraction_shape f.third r ∙ sym (done_given (daytime (clock_as h f)) (fraction_as f.third r))))

time_shape : (fs : Forms) (s : List ℕ) → is_done (time_in fs (shape_of s)) ≡ is_done (time_in fs s)
unfolding time_in
time_shape fs s =
    let e = until 90 s in
    rw (until_shape 90 refl s, ← shape_take e s, shape_length s)
    (done_need (leb (length s) (e + 1)) (unzoned fs (shape_of (take e s))) ∙ ap (λ (t : Bool). leb (length s) (e + 1) && t) (unzoned_shape fs (take e s)) ∙ sym (done_need (leb (length s) (e + 1)) (unzoned fs (take e s))))

alone_shape : (s : List ℕ) → is_done (alone (shape_of s)) ≡ is_done (alone s)
unfolding alone
alone_shape s = rw (find_shape (days ++ months) s) (go (find (days ++ months) s))
  where
    go : (o : Outcome Form) → is_done (alone_by (shape_of s) o) ≡ is_done (alone_by s o)
    go (done f) = refl
    go (refused n) = done_given (tag any_day) (time_in (hours ++ minutes) (shape_of s)) ∙ time_shape (hours ++ minutes) s ∙ sym (done_given (tag any_day) (time_in (hours ++ minutes) s))

joined_shape : (c k : List ℕ) → is_done (joined (shape_of c) (shape_of k)) ≡ is_done (joined c k)
unfolding joined
joined_shape c k =
    rw (find_shape days c)
    (done_then (find days c) (λ f. given (tag (calendar_as (shape_of c) f)) (time_in hours (shape_of k))) (λ f. given (tag (calendar_as c f)) (time_in hours k))
    (λ f. done_given (tag (calendar_as (shape_of c) f)) (time_in hours (shape_of k)) ∙ time_shape hours k ∙ sym (done_given (tag (calendar_as c f)) (time_in hours k))))

formed_shape : (s : List ℕ) → is_done (formed (shape_of s)) ≡ is_done (formed s)
unfolding formed
formed_shape s =
    let t = until 84 s in
    rw (until_shape 84 refl s, ← shape_take t s, ← shape_drop (t + 1) s, shape_length s) (go (ltb t (length s)))
  where
    go : (b : Bool) → is_done (cond b (joined (shape_of (take (until 84 s) s)) (shape_of (drop (until 84 s + 1) s))) (alone (shape_of s))) ≡ is_done (cond b (joined (take (until 84 s) s) (drop (until 84 s + 1) s)) (alone s))
    go true = joined_shape (take (until 84 s) s) (drop (until 84 s + 1) s)
    go false = alone_shape s

-- ---- each of the 266 shapes is formed
count : length tag_shapes ≡ 266
unfolding tag_shapes days months hours minutes
count = refl

all_formed : passes (λ p. is_done (formed p)) tag_shapes ≡ true
unfolding tag_shapes formed alone joined time_in unzoned shape_of days months hours minutes
all_formed = refl

pub shaped_formed : (s : List ℕ) → shaped tag_shapes s ≡ true → (t : Wants) × (formed s ≡ done t)
shaped_formed s e = some_done (formed s) (sym (formed_shape s) ∙ each_shape (λ p. is_done (formed p)) tag_shapes s all_formed e)

-- ---- and what is formed has one of them
one_shaped : (p s : List ℕ) → fits p s ≡ true → shaped (p ∷ []) s ≡ true
unfolding shaped
one_shaped p s e = or_left false e

mark_fits : fits mark_t mark_t ≡ true
unfolding shape_of
mark_fits = refl

find_shaped : (fs : Forms) (s : List ℕ) (f : Form) → find fs s ≡ done f → shaped (shapes_of fs) s ≡ true
unfolding shaped
find_shaped [] s f e = never 4 f e
find_shaped (g ∷ fs) s f e = go (fits g.shape s) e (find_shaped fs s f)
  where
    go : (t : Bool) → cond t (done g) (find fs s) ≡ done f → (find fs s ≡ done f → shaped (shapes_of fs) s ≡ true) → t || shaped (shapes_of fs) s ≡ true
    go true e k = refl
    go false e k = k e

zone_shaped : (z : Bool) → shaped zones (zone_text z) ≡ true
unfolding shaped shape_of
zone_shaped true = refl
zone_shaped false = refl

all_fractions : down_to 12 (λ d. shaped fractions (46 ∷ zeros (suc d))) ≡ true
unfolding shaped shape_of
all_fractions = refl

fraction_shaped : (ds : List ℕ) → 1 ≤ length ds → length ds ≤ 12 → all_good digit_good ds (length ds) ≡ true → shaped fractions (46 ∷ ds) ≡ true
unfolding shape_of
fraction_shaped ds l h g =
    let n = length ds - 1 in
    let i : suc n ≡ length ds = omega arith in
    let e : shape_of ds ≡ zeros (length ds) = good_shape ds g in
    shaped_alike fractions (46 ∷ ds) (46 ∷ zeros (suc n)) (ap (λ (q : List ℕ). 46 ∷ q) (sym (shape_shape ds) ∙ ap shape_of (e ∙ ap zeros (sym i))))
    ∙ down_at 12 (λ d. shaped fractions (46 ∷ zeros (suc d))) all_fractions n (omega arith)

part_shaped : (b : Bool) (ds : List ℕ) (k : ℕ) (n : ℕ) → need (b && (leb 1 (length ds) && (leb (length ds) 12 && all_good digit_good ds (length ds)))) 4 (done n) ≡ done k → shaped fractions (46 ∷ ds) ≡ true
part_shaped b ds k n e =
    let (a, _) = need_done (b && (leb 1 (length ds) && (leb (length ds) 12 && all_good digit_good ds (length ds)))) 4 (done n) k e in
    let (_, c) = and_true b _ a in
    let (l, d) = and_true (leb 1 (length ds)) _ c in
    let (h, g) = and_true (leb (length ds) 12) _ d in
    fraction_shaped ds (leb-true 1 (length ds) l) (leb-true (length ds) 12 h) g

ending_shaped : (p : Place) {tail : List ℕ} (k : ℕ) → Follows tail → fraction_as p tail ≡ done k → shaped (endings p) tail ≡ true
unfolding shaped shape_of
ending_shaped free k none e = never 4 k e
ending_shaped lowest k none e = refl
ending_shaped (at i) k none e = refl
ending_shaped free k (part ds) e = part_shaped true ds k _ e
ending_shaped lowest k (part ds) e = never 4 k e
ending_shaped (at i) k (part ds) e = part_shaped true ds k _ e

time_shaped : (fs : Forms) (h r z : List ℕ) (f : Form) → find fs h ≡ done f → shaped (endings f.third) r ≡ true → shaped zones z ≡ true → shaped (time_shapes fs) (h ++ (r ++ z)) ≡ true
time_shaped [] h r z f e i j = never 4 f e
time_shaped (g ∷ fs) h r z f e i j = go (fits g.shape h) refl e (λ k. time_shaped fs h r z f k i j)
  where
    go : (t : Bool) → fits g.shape h ≡ t → cond t (done g) (find fs h) ≡ done f → (find fs h ≡ done f → shaped (time_shapes fs) (h ++ (r ++ z)) ≡ true) → shaped (followed (g.shape ∷ []) (followed (endings g.third) zones) ++ time_shapes fs) (h ++ (r ++ z)) ≡ true
    go true q e k =
        let own : shaped (endings g.third) r ≡ true = ap (λ (x : Form). shaped (endings x.third) r) (done_is g f e) ∙ i in
        shaped_first (followed (g.shape ∷ []) (followed (endings g.third) zones)) (time_shapes fs) (h ++ (r ++ z))
        (shaped_followed (g.shape ∷ []) (followed (endings g.third) zones) h (r ++ z) (one_shaped g.shape h q) (shaped_followed (endings g.third) zones r z own j))
    go false q e k = shaped_second (followed (g.shape ∷ []) (followed (endings g.third) zones)) (time_shapes fs) (h ++ (r ++ z)) (k e)

timed_shaped : (fs : Forms) (s : List ℕ) (k : Daytime) → time_in fs s ≡ done k → shaped (time_shapes fs) s ≡ true
timed_shaped fs s k e =
    let p = split fs s k e in
    ap (shaped (time_shapes fs)) p.is
    ∙ time_shaped fs p.head p.tail (zone_text p.zone) p.form_is p.found (ending_shaped p.form_is.third k.ticks p.next p.ticks) (zone_shaped p.zone)

parts_shaped : (s : List ℕ) (t : Wants) → Parts s t → shaped tag_shapes s ≡ true
unfolding tag_shapes
parts_shaped s t (day f e i) = shaped_first (shapes_of (days ++ months)) _ s (find_shaped (days ++ months) s f e)
parts_shaped s t (clock k e i) =
    shaped_second (shapes_of (days ++ months)) _ s (shaped_first (time_shapes (hours ++ minutes)) _ s (timed_shaped (hours ++ minutes) s k e))
parts_shaped s t (joint c r f k j e g i) =
    ap (shaped tag_shapes) j
    ∙ shaped_second (shapes_of (days ++ months)) _ (c ++ (84 ∷ r))
    (shaped_second (time_shapes (hours ++ minutes)) _ (c ++ (84 ∷ r))
    (shaped_followed (shapes_of days) (followed (mark_t ∷ []) (time_shapes hours)) c (84 ∷ r) (find_shaped days c f e)
    (shaped_followed (mark_t ∷ []) (time_shapes hours) mark_t r (one_shaped mark_t mark_t mark_fits) (timed_shaped hours r k g))))

pub formed_shaped : (s : List ℕ) (t : Wants) → formed s ≡ done t → shaped tag_shapes s ≡ true
formed_shaped s t e = parts_shaped s t (parts_formed s t e)

-- so a text of no such shape is 4
pub unshaped_4 : (s : List ℕ) → shaped tag_shapes s ≡ false → formed s ≡ refused 4
unshaped_4 s e = go (formed s) refl
  where
    go : (o : Outcome Wants) → formed s ≡ o → formed s ≡ refused 4
    go (done t) f = never_both (formed_shaped s t f) e
    go (refused n) f = f ∙ ap refused (formed_4 s n f)

-- ---- a full code is a tag from which nothing is deleted
all_codes : passes (λ p. shaped tag_shapes p) code_shapes ≡ true
unfolding code_shapes tag_shapes shaped shape_of days months hours minutes
all_codes = refl

pub code_tag : (s : List ℕ) → shaped code_shapes s ≡ true → shaped tag_shapes s ≡ true
code_tag s e =
    shaped_alike tag_shapes s (shape_of s) (sym (shape_shape s)) ∙ each_shape (λ p. shaped tag_shapes p) code_shapes s all_codes e

-- ---- longest starts that begin a tag, by computation: no T behind a month; a letter for a digit; two digits too many; something behind Z
starts : map (along tag_shapes) (bytes "2016-12T10" ∷ bytes "2016-1x" ∷ bytes "12:345" ∷ bytes "12Z5" ∷ bytes "::" ∷ bytes "x" ∷ []) ≡ 7 ∷ 6 ∷ 5 ∷ 3 ∷ 2 ∷ 0 ∷ []
unfolding along begins tag_shapes shape_of days months hours minutes
starts = refl
