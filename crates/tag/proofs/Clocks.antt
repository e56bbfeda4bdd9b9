-- Each form of a time is one run of a time's subfields: what is left of a time wants what the time has, and a text that wants what a time has is what is left of it.
use mathlib.Core.Path.{◌≡◌, refl, sym, ap, ap₂, subst, ◌∙◌}
use mathlib.Core.Bool.{Bool, true, false, ◌&&◌, false≢true}
use mathlib.Core.List.{List, [], ◌∷◌, ◌++◌, append_assoc}
use Prim.Native.Nat.{ℕ, zero, suc, ◌+◌, ◌-◌, ◌*◌, ◌/◌, ◌%◌, ◌^◌, ◌≤◌, ◌<◌}
use native.Mathlib.Omega.{arith}
use lib.Dec.{eqb}
use lib.ListN.{length, get_or, take, length-append}
use lib.Seq.{length-take-le}
use borrow.Author.Tests.{eqb-true, le-leb}
use Rattle.base.specs.Outcome.{done, refused, given}
use Rattle.base.proofs.Bools.{and_true, and_one, and_assoc}
use Rattle.octets.specs.Places.{digit_good, digit_value, digits, all_good}
use Rattle.octets.proofs.Places.{digit_rule, number_take, places_good, all_good_lem, good_at}
use Rattle.clock.specs.Clock.{minute_of}
use Rattle.clock.proofs.Laws.{shown}
use Rattle.shape.specs.Quoted.{bytes}
use Rattle.shape.specs.Shapes.{shape_of, same}
use Rattle.shape.proofs.Tests.{fails, yes_both}
use Rattle.shape.proofs.Shapes.{shape_length, shape_append}
use Rattle.shape.proofs.Pieces.{Piece, sep, num, spell, outline, clean, Small, agree, agree_is, is_agree, agree_spelled, spell_shape, spelled, outlined, same_digits}
use Rattle.moment.specs.Decimal.{ticks_of}
use Rattle.ascii.specs.Ascii.{number_at, zone_text}
use Rattle.ascii.proofs.Texts.{digits_length}
use Rattle.seek.specs.declared.Clock.{Clock}
use Rattle.seek.specs.Naming.{clock_fits}
use Rattle.tag.specs.Forms.{Place, Form, Forms, days, months, hours, minutes, find}
use Rattle.tag.specs.Tags.{until, is_free, is_lowest, clock_as, fraction_as, Daytime, daytime, time_in, good_clock}
use Rattle.tag.proofs.Rows.{forms, form_at}
use Rattle.tag.specs.Shortening.{digits_by, cut, low_from, Run}
use Rattle.tag.proofs.Scans.{until_shape, until_past, find_each, find_alike, find_spelled}
use Rattle.tag.proofs.Subfields.{clocked}
use Rattle.tag.proofs.Fractions.{digits_count, first_digits, ticks_kept}
use Rattle.tag.proofs.Heads.{Tail, none, part, tail_plain, time_told}
use Rattle.tag.proofs.Splits.{Follows, Split, split, part_back, low_end}
use Rattle.tag.proofs.Goods.{good_clock_lem}
use Rattle.tag.proofs.Dates.{one_low, two_low}

-- ---- the fraction that remains
none_told : (d f : ℕ) (p : Place) → d ≤ 12 → f < 10 ^ d → is_free p ≡ false → low_from 0 (digits_by (bytes ".") (digits d f)) ≡ true → fraction_as p [] ≡ done (ticks_of d f)
none_told d f p h l e low = rw e (ap done (ticks_kept d 0 f h (omega arith) l low))

good_take : (s : List ℕ) (w j : ℕ) → w ≡ length s → j ≤ w → all_good digit_good s w ≡ true → all_good digit_good (take j s) (length (take j s)) ≡ true
good_take s w j e h g =
    let l : length (take j s) ≡ j = length-take-le j s (omega arith) in
    rw l (all_good_lem digit_good (take j s) j (λ i k. rw (get s j i k) (good_at digit_good s w i g (omega arith))))
  where
    get : (s : List ℕ) (j i : ℕ) → i < j → get_or (take j s) i 0 ≡ get_or s i 0
    get s zero i k = absurd (omega arith)
    get [] (suc j) i k = refl
    get (x ∷ s) (suc j) zero k = refl
    get (x ∷ s) (suc j) (suc i) k = get s j i (omega arith)

pub part_good_lem : (d j f : ℕ) → j ≤ d → all_good digit_good (take j (digits d f)) (length (take j (digits d f))) ≡ true
part_good_lem d j f h = good_take (digits d f) d j (sym (digits_length d f)) h (places_good digit_rule d f)

part_told : (d j f : ℕ) (p : Place) → d ≤ 12 → suc j ≤ d → f < 10 ^ d → is_lowest p ≡ false → low_from (suc j) (digits_by (bytes ".") (digits d f)) ≡ true
    → fraction_as p (46 ∷ take (suc j) (digits d f)) ≡ done (ticks_of d f)
part_told d j f p h k l e low =
    let s = digits d f in
    let n : length (take (suc j) s) ≡ suc j = length-take-le (suc j) s (omega (arith, digits_length d f)) in
    let g : all_good digit_good (take (suc j) s) (suc j) ≡ true = rw n at (part_good_lem d (suc j) f k) in
    rw (e, n, g, le-leb 1 (suc j) (omega arith), le-leb (suc j) 12 (omega arith))
    (ap done (ap (ticks_of (suc j)) (number_take 10 digit_value s (suc j) (omega (arith, digits_length d f))) ∙ ticks_kept d (suc j) f h k l low))

-- j digits of it, where they may stand
told : (d j f : ℕ) (p : Place) → d ≤ 12 → j ≤ d → f < 10 ^ d → (is_free p ≡ true → 1 ≤ j) → (is_lowest p ≡ true → j ≡ 0) → low_from j (digits_by (bytes ".") (digits d f)) ≡ true
    → Tail (cut 0 j (digits_by (bytes ".") (digits d f))) × (fraction_as p (cut 0 j (digits_by (bytes ".") (digits d f))) ≡ done (ticks_of d f))
told d zero f p h k l u v low = (none, none_told d f p h l (fails (is_free p) (λ e. omega (arith, u e))) low)
told d (suc j) f p h k l u v low =
    rw (first_digits j (digits d f) (omega (arith, digits_length d f)))
    (part (take (suc j) (digits d f)) (part_good_lem d (suc j) f k), part_told d j f p h k l (fails (is_lowest p) (λ e. omega (arith, v e))) low)

-- ---- what a shortened time wants
pub record Timing (fs : Forms) (x k : ℕ) (s : List ℕ) : Type 0 where
  pub clock : Clock
  pub told : time_in fs s ≡ done (daytime clock k)
  pub fits : clock_fits clock x ≡ true
  pub good : good_clock clock ≡ true

-- as a time alone, and behind a T
pub record Ticking (hour : Bool) (x k : ℕ) (s : List ℕ) : Type 0 where
  pub alone : Timing (hours ++ minutes) x k s
  pub behind : hour ≡ true → Timing hours x k s
  pub plain : until 84 s ≡ length s
  pub other : find (days ++ months) s ≡ refused 4

zone_plain : (z : Bool) → until 84 (zone_text z) ≡ length (zone_text z)
zone_plain true = refl
zone_plain false = refl

-- ---- the time of a full code that a text is what is left of
pub record TimeBack (hour : Bool) (x k : ℕ) (s : List ℕ) : Type 0 where
  pub digit_count : ℕ
  pub number : ℕ
  pub zone : Bool
  pub few : digit_count ≤ 12
  pub small : number < 10 ^ digit_count
  pub exact : ticks_of digit_count number ≡ k
  pub lo : ℕ
  pub hi : ℕ
  pub early : lo ≤ 3
  pub run : Run lo hi (clocked x (digits digit_count number))
  pub is : s ≡ cut lo hi (clocked x (digits digit_count number)) ++ zone_text zone
  pub first : hour ≡ true → lo ≡ 0

-- ---- each form of a time is one run of its first subfields, with j digits of the fraction behind the second
pub record Kept (x : ℕ) (hour : Bool) (lo : ℕ) (to : ℕ → ℕ) (f : Form) : Type 0 where
  pub early : lo ≤ 3
  pub first : hour ≡ true → lo ≡ 0
  pub some : (j : ℕ) → (is_free f.third ≡ true → 1 ≤ j) → lo < to j
  pub end : (j : ℕ) → to j ≤ 3 + j
  pub pieces : List Piece
  pub tidy : clean pieces ≡ true
  pub small : Small pieces
  pub text : (j : ℕ) (ds : List ℕ) → (is_lowest f.third ≡ true → j ≡ 0) → spell pieces ++ cut 0 j (digits_by (bytes ".") ds) ≡ cut lo (to j) (clocked x ds)
  pub shape : outline pieces ≡ f.shape
  pub plain : (until 84 f.shape ≡ length f.shape) × (until 90 f.shape ≡ length f.shape) × (until 46 f.shape ≡ length f.shape)
  pub found : find (hours ++ minutes) f.shape ≡ done f
  pub found_hour : hour ≡ true → find hours f.shape ≡ done f
  pub other : (t : List ℕ) → Tail t → (z : Bool) → find (days ++ months) (f.shape ++ (t ++ zone_text z)) ≡ refused 4
  pub lows : Bool
  pub low : (j : ℕ) (ds : List ℕ) → (is_lowest f.third ≡ true → j ≡ 0) → low_from (to j) (clocked x ds) ≡ lows && low_from j (digits_by (bytes ".") ds)
  pub wants : (c : List ℕ) → clock_fits (clock_as c f) x ≡ agree 0 c pieces && lows

module _ (x : ℕ) (hx : x ≤ 86400) {b : Bool} {lo : ℕ} {to : ℕ → ℕ} {f : Form} (kept : Kept x b lo to f) where
  abbrev ps : List Piece
  ps = kept.pieces

  abbrev head : List ℕ
  head = spell ps

  head_shape : shape_of head ≡ f.shape
  head_shape = spell_shape ps kept.tidy ∙ kept.shape

  keeps : (c : ℕ) → digit_good c ≡ false → until c f.shape ≡ length f.shape → until c head ≡ length head
  keeps c n u = sym (until_shape c n head) ∙ ap (until c) head_shape ∙ u ∙ sym (ap length head_shape) ∙ shape_length head

  found_in : (fs : Forms) → find fs f.shape ≡ done f → find fs head ≡ done f
  found_in fs e = find_spelled fs ps kept.tidy ∙ ap (find fs) kept.shape ∙ e

  module _ (k : ℕ) {tail : List ℕ} (t : Tail tail) (z : Bool) (g : fraction_as f.third tail ≡ done k) (low : kept.lows ≡ true) where
    timing : (fs : Forms) → find fs f.shape ≡ done f → Timing fs x k (head ++ (tail ++ zone_text z))
    timing fs e =
        let fits : clock_fits (clock_as head f) x ≡ true = kept.wants head ∙ yes_both (is_agree 0 head ps (agree_spelled ps kept.small)) low in
        record {
          clock = clock_as head f;
          told =
              time_told fs f head tail z t (keeps 90 refl kept.plain.1) (keeps 46 refl kept.plain.2) (found_in fs e)
              ∙ ap (given (daytime (clock_as head f))) g;
          fits = fits;
          good = good_clock_lem (clock_as head f) x hx fits;
        }

    ticking : Ticking b x k (head ++ (tail ++ zone_text z))
    ticking =
        record {
          alone = timing (hours ++ minutes) kept.found;
          behind = λ y. timing hours (kept.found_hour y);
          plain =
              until_past 84 head (tail ++ zone_text z) (keeps 84 refl kept.plain.0)
              ∙ ap (λ (n : ℕ). length head + n) (until_past 84 tail (zone_text z) (tail_plain 84 refl refl refl t) ∙ ap (λ (n : ℕ). length tail + n) (zone_plain z) ∙ sym (length-append tail (zone_text z)))
              ∙ sym (length-append head (tail ++ zone_text z));
          other =
              find_alike (days ++ months) _ _ (shape_append head (tail ++ zone_text z) ∙ ap (λ (p : List ℕ). p ++ shape_of (tail ++ zone_text z)) (outlined ps kept.tidy ∙ ap shape_of kept.shape) ∙ sym (shape_append f.shape (tail ++ zone_text z)))
              ∙ kept.other tail t z;
        }

  -- a time, shortened
  remains : (d j n : ℕ) (z : Bool) → d ≤ 12 → n < 10 ^ d → j ≤ d → (is_free f.third ≡ true → 1 ≤ j) → (is_lowest f.third ≡ true → j ≡ 0) → low_from (to j) (clocked x (digits d n)) ≡ true → Ticking b x (ticks_of d n) (cut lo (to j) (clocked x (digits d n)) ++ zone_text z)
  remains d j n z hd hn hj u v r =
      let ds = digits d n in
      let (p, q) = and_true kept.lows (low_from j (digits_by (bytes ".") ds)) (sym (kept.low j ds v) ∙ r) in
      let (t, g) = told d j n f.third hd hj hn u v q in
      subst (λ (s : List ℕ). Ticking b x (ticks_of d n) s)
      (sym (append_assoc head (cut 0 j (digits_by (bytes ".") ds)) (zone_text z)) ∙ ap (λ (s : List ℕ). s ++ zone_text z) (kept.text j ds v))
      (ticking (ticks_of d n) t z g p)

  -- a text that wants what the time has
  back : (k : ℕ) (s c tail : List ℕ) (z : Bool) → s ≡ c ++ (tail ++ zone_text z) → Follows tail → shape_of c ≡ f.shape → clock_fits (clock_as c f) x ≡ true → fraction_as f.third tail ≡ done k → TimeBack b x k s
  back k s c tail z is next e g q =
      let r = part_back f.third k next q in
      let d = r.digit_count in
      let n = r.number in
      let ds = digits d n in
      let u : length ds ≡ d = digits_length d n in
      let (a, low) = and_true (agree 0 c ps) kept.lows (sym (kept.wants c) ∙ g) in
      record {
        digit_count = d;
        number = n;
        zone = z;
        few = r.few;
        small = r.small;
        exact = r.exact;
        lo = lo;
        hi = to d;
        early = kept.early;
        run = record {
          some = kept.some d r.some;
          end = omega (arith, kept.end d, digits_count (bytes ".") ds, u);
          low = kept.low d ds r.none ∙ yes_both low (rw u at (low_end (bytes ".") ds));
        };
        is =
            is
            ∙ ap₂ (λ (a b : List ℕ). a ++ (b ++ zone_text z)) (spelled ps c 0 kept.tidy (e ∙ sym kept.shape) (agree_is 0 c ps a)) r.is
            ∙ sym (append_assoc head (cut 0 d (digits_by (bytes ".") ds)) (zone_text z))
            ∙ ap (λ (s : List ℕ). s ++ zone_text z) (kept.text d ds r.none);
        first = kept.first;
      }

-- two digits are no calendar
no_day : (t : List ℕ) → Tail t → (z : Bool) → find (days ++ months) (48 ∷ (48 ∷ (t ++ zone_text z))) ≡ refused 4
unfolding days months shape_of
no_day _ none true = refl
no_day _ none false = refl
no_day _ (part ds g) z = refl

-- ---- the seven forms
module _ (x : ℕ) (hx : x ≤ 86400) where
  abbrev h : ℕ
  h = minute_of x / 60

  abbrev m : ℕ
  m = minute_of x % 60

  abbrev s : ℕ
  s = x - minute_of x * 60

  small_all : (h < 10 ^ 2) × (m < 10 ^ 2) × (s < 10 ^ 2)
  small_all = let w = shown x hx in (omega (arith, w.hour), omega (arith, w.minute), omega (arith, w.second))

  low_minute : same (digits 2 m) (bytes "00") ≡ eqb 0 m
  low_minute = same_digits 2 m 0 small_all.1 (omega arith)

  low_second : same (digits 2 s) (bytes "00") ≡ eqb 0 s
  low_second = same_digits 2 s 0 small_all.2 (omega arith)

  module _ (b : Bool) (lo : ℕ) (to : ℕ → ℕ) (f : Form) (ps : List Piece) (l : Bool) where
    keep : lo ≤ 3 → (b ≡ true → lo ≡ 0) → ((j : ℕ) → (is_free f.third ≡ true → 1 ≤ j) → lo < to j) → ((j : ℕ) → to j ≤ 3 + j) → clean ps ≡ true → Small ps → ((j : ℕ) (ds : List ℕ) → (is_lowest f.third ≡ true → j ≡ 0) → spell ps ++ cut 0 j (digits_by (bytes ".") ds) ≡ cut lo (to j) (clocked x ds)) → outline ps ≡ f.shape
        → (until 84 f.shape ≡ length f.shape) × (until 90 f.shape ≡ length f.shape) × (until 46 f.shape ≡ length f.shape) → find (hours ++ minutes) f.shape ≡ done f → (b ≡ true → find hours f.shape ≡ done f) → ((t : List ℕ) → Tail t → (z : Bool) → find (days ++ months) (f.shape ++ (t ++ zone_text z)) ≡ refused 4)
        → ((j : ℕ) (ds : List ℕ) → (is_lowest f.third ≡ true → j ≡ 0) → low_from (to j) (clocked x ds) ≡ l && low_from j (digits_by (bytes ".") ds)) → ((c : List ℕ) → clock_fits (clock_as c f) x ≡ agree 0 c ps && l) → Kept x b lo to f
    keep i a e k t n w p u g r o y q = record { early = i; first = a; some = e; end = k; pieces = ps; tidy = t; small = n; text = w; shape = p; plain = u; found = g; found_hour = r; other = o; lows = l; low = y; wants = q }

  hour_only : Kept x true 0 (λ j. 1) (form_at 8)
  unfolding forms hours minutes days months clock_fits clock_as shape_of
  hour_only =
      let (a, b, c) = small_all in
      keep true 0 (λ j. 1) (form_at 8) (num 2 h ∷ []) (eqb 0 m && eqb 0 s) (omega arith) (λ i. refl) (λ j i. omega arith) (λ j. omega arith) refl (a, tt) (λ j ds e. rw (e refl)) refl (refl, refl, refl) refl (λ i. refl) no_day
      (λ j ds e. rw (e refl, low_minute, low_second) (sym (and_assoc (eqb 0 m) (eqb 0 s) (low_from 0 (digits_by (bytes ".") ds))))) (λ t. one_low (eqb (number_at t 0 2) h) (eqb 0 m && eqb 0 s))

  to_minute : Kept x true 0 (λ j. 2) (form_at 9)
  unfolding forms hours minutes days months clock_fits clock_as shape_of
  to_minute =
      let (a, b, c) = small_all in
      keep true 0 (λ j. 2) (form_at 9) (num 2 h ∷ sep 58 ∷ num 2 m ∷ []) (eqb 0 s) (omega arith) (λ i. refl) (λ j i. omega arith) (λ j. omega arith) refl (a, (b, tt)) (λ j ds e. rw (e refl)) refl (refl, refl, refl) refl (λ i. refl) (λ t a z. refl)
      (λ j ds e. rw (e refl, low_second)) (λ t. two_low (eqb (number_at t 0 2) h) (eqb (number_at t 3 2) m) (eqb 0 s))

  full_time : Kept x true 0 (λ j. suc (suc (suc j))) (form_at 10)
  unfolding forms hours minutes days months clock_fits clock_as shape_of
  full_time =
      let (a, b, c) = small_all in
      keep true 0 (λ j. suc (suc (suc j))) (form_at 10) (num 2 h ∷ sep 58 ∷ num 2 m ∷ sep 58 ∷ num 2 s ∷ []) (true) (omega arith) (λ i. refl) (λ j i. omega arith) (λ j. omega arith) refl (a, (b, (c, tt))) (λ j ds e. refl) refl (refl, refl, refl) refl (λ i. refl) (λ t a z. refl)
      (λ j ds e. refl) (λ t. ap (λ (r : Bool). eqb (number_at t 0 2) h && (eqb (number_at t 3 2) m && r)) (and_one _) ∙ and_one _)

  minute_only : Kept x false 1 (λ j. 2) (form_at 11)
  unfolding forms hours minutes days months clock_fits clock_as shape_of
  minute_only =
      let (a, b, c) = small_all in
      keep false 1 (λ j. 2) (form_at 11) (sep 58 ∷ num 2 m ∷ []) (eqb 0 s) (omega arith) (λ i. absurd (false≢true i)) (λ j i. omega arith) (λ j. omega arith) refl (b, tt) (λ j ds e. rw (e refl)) refl (refl, refl, refl) refl (λ i. absurd (false≢true i)) (λ t a z. refl)
      (λ j ds e. rw (e refl, low_second)) (λ t. one_low (eqb (number_at t 1 2) m) (eqb 0 s))

  from_minute : Kept x false 1 (λ j. suc (suc (suc j))) (form_at 12)
  unfolding forms hours minutes days months clock_fits clock_as shape_of
  from_minute =
      let (a, b, c) = small_all in
      keep false 1 (λ j. suc (suc (suc j))) (form_at 12) (sep 58 ∷ num 2 m ∷ sep 58 ∷ num 2 s ∷ []) (true) (omega arith) (λ i. absurd (false≢true i)) (λ j i. omega arith) (λ j. omega arith) refl (b, (c, tt)) (λ j ds e. refl) refl (refl, refl, refl) refl (λ i. absurd (false≢true i)) (λ t a z. refl)
      (λ j ds e. refl) (λ t. ap (λ (r : Bool). eqb (number_at t 1 2) m && r) (and_one _) ∙ and_one _)

  from_second : Kept x false 2 (λ j. suc (suc (suc j))) (form_at 13)
  unfolding forms hours minutes days months clock_fits clock_as shape_of
  from_second =
      let (a, b, c) = small_all in
      keep false 2 (λ j. suc (suc (suc j))) (form_at 13) (sep 58 ∷ sep 58 ∷ num 2 s ∷ []) (true) (omega arith) (λ i. absurd (false≢true i)) (λ j i. omega arith) (λ j. omega arith) refl (c, tt) (λ j ds e. refl) refl (refl, refl, refl) refl (λ i. absurd (false≢true i)) (λ t a z. refl)
      (λ j ds e. refl) (λ t. and_one _ ∙ and_one _)

  from_fraction : Kept x false 3 (λ j. suc (suc (suc j))) (form_at 14)
  unfolding forms hours minutes days months clock_fits clock_as shape_of
  from_fraction =
      let (a, b, c) = small_all in
      keep false 3 (λ j. suc (suc (suc j))) (form_at 14) (sep 58 ∷ sep 58 ∷ []) (true) (omega arith) (λ i. absurd (false≢true i)) (λ j i. omega (arith, i refl)) (λ j. omega arith) refl tt (λ j ds e. refl) refl (refl, refl, refl) refl (λ i. absurd (false≢true i)) (λ t a z. refl)
      (λ j ds e. refl) (λ t. refl)

  -- ---- a time, shortened: each run of its subfields
  module _ (d f : ℕ) (hd : d ≤ 12) (hf : f < 10 ^ d) (z : Bool) where
    -- all at their lowest: midnight
    pub low_hour : low_from 0 (clocked x (digits d f)) ≡ true → (h ≡ 0) × (m ≡ 0) × (s ≡ 0) × (ticks_of d f ≡ 0)
    low_hour e =
        let (a, p) = and_true (same (digits 2 h) (bytes "00")) _ e in
        let (b, q) = and_true (same (digits 2 m) (bytes "00")) _ p in
        let (c, low) = and_true (same (digits 2 s) (bytes "00")) _ q in
        let low_hour = same_digits 2 h 0 small_all.0 (omega arith) in
        (sym (eqb-true 0 h (sym low_hour ∙ a)), sym (eqb-true 0 m (sym low_minute ∙ b)), sym (eqb-true 0 s (sym low_second ∙ c)), sym (ticks_kept d 0 f hd (omega arith) hf low))

    count : length (clocked x (digits d f)) ≡ 3 + d
    count = omega (arith, digits_count (bytes ".") (digits d f), digits_length d f)

    pub time_forth : (l k : ℕ) → l ≤ 3 → Run l k (clocked x (digits d f)) → Ticking (eqb l 0) x (ticks_of d f) (cut l k (clocked x (digits d f)) ++ zone_text z)
    unfolding forms days months hours minutes
    time_forth zero zero i r = absurd (omega (arith, r.some))
    time_forth (suc l) zero i r = absurd (omega (arith, r.some))
    time_forth zero (suc zero) i r = remains x hx hour_only d 0 f z hd hf (omega arith) (λ e. absurd (false≢true e)) (λ e. refl) r.low
    time_forth (suc l) (suc zero) i r = absurd (omega (arith, r.some))
    time_forth zero (suc (suc zero)) i r = remains x hx to_minute d 0 f z hd hf (omega arith) (λ e. absurd (false≢true e)) (λ e. refl) r.low
    time_forth (suc zero) (suc (suc zero)) i r = remains x hx minute_only d 0 f z hd hf (omega arith) (λ e. absurd (false≢true e)) (λ e. refl) r.low
    time_forth (suc (suc l)) (suc (suc zero)) i r = absurd (omega (arith, r.some))
    time_forth zero (suc (suc (suc j))) i r = remains x hx full_time d j f z hd hf (omega (arith, r.end, count)) (λ e. absurd (false≢true e)) (λ e. absurd (false≢true e)) r.low
    time_forth (suc zero) (suc (suc (suc j))) i r = remains x hx from_minute d j f z hd hf (omega (arith, r.end, count)) (λ e. absurd (false≢true e)) (λ e. absurd (false≢true e)) r.low
    time_forth (suc (suc zero)) (suc (suc (suc j))) i r = remains x hx from_second d j f z hd hf (omega (arith, r.end, count)) (λ e. absurd (false≢true e)) (λ e. absurd (false≢true e)) r.low
    time_forth (suc (suc (suc zero))) (suc (suc (suc j))) i r = remains x hx from_fraction d j f z hd hf (omega (arith, r.end, count)) (λ e. omega (arith, r.some)) (λ e. absurd (false≢true e)) r.low
    time_forth (suc (suc (suc (suc l)))) (suc (suc (suc j))) i r = absurd (omega arith)

  -- ---- a text that wants what the time has: behind a T, and alone
  module _ (t : List ℕ) (k : Daytime) where
    module _ {fs : Forms} (p : Split fs t k) where
      abbrev Back : Bool → Form → Type 0
      Back b f = clock_fits (clock_as p.head f) x ≡ true → fraction_as f.third p.tail ≡ done k.ticks → TimeBack b x k.ticks t

      abbrev Some : Form → Type 0
      Some f = clock_fits (clock_as p.head f) x ≡ true → fraction_as f.third p.tail ≡ done k.ticks → (b : Bool) × TimeBack b x k.ticks t

      on : {b : Bool} {lo : ℕ} {to : ℕ → ℕ} {f : Form} → Kept x b lo to f → shape_of p.head ≡ f.shape → Back b f
      on q = back x hx q k.ticks t p.head p.tail p.zone p.is p.next

      some : {b : Bool} {lo : ℕ} {to : ℕ → ℕ} {f : Form} → Kept x b lo to f → shape_of p.head ≡ f.shape → Some f
      some {b} q e g r = (b, on q e g r)

      fits_head : clock_fits k.clock x ≡ true → clock_fits (clock_as p.head p.form_is) x ≡ true
      fits_head g = ap (λ (c : Clock). clock_fits c x) p.clock ∙ g

    pub behind_back : time_in hours t ≡ done k → clock_fits k.clock x ≡ true → TimeBack true x k.ticks t
    unfolding forms days months hours minutes
    behind_back e g =
        let p = split hours t k e in
        find_each (Back p true) hours p.head p.form_is p.found (on p hour_only, (on p to_minute, (on p full_time, tt)))
        (fits_head p g) p.ticks

    pub alone_back : time_in (hours ++ minutes) t ≡ done k → clock_fits k.clock x ≡ true → (b : Bool) × TimeBack b x k.ticks t
    unfolding forms days months hours minutes
    alone_back e g =
        let p = split (hours ++ minutes) t k e in
        find_each (Some p) (hours ++ minutes) p.head p.form_is p.found
        (some p hour_only, (some p to_minute, (some p full_time, (some p minute_only, (some p from_minute, (some p from_second, (some p from_fraction, tt)))))))
        (fits_head p g) p.ticks
