-- What a tag names, by the codes: a moment that some full code reads to of which the tag is a shortening. And a text is refused 4 exactly when no such code reads to anything but 4.
use mathlib.Core.Path.{◌≡◌, refl, sym, ap, subst, ◌∙◌}
use mathlib.Core.Logic.{◌⊎◌, inl, inr, ⊎_elim}
use mathlib.Core.Bool.{Bool, true, false, false≢true}
use mathlib.Core.List.{List}
use Prim.Native.Nat.{ℕ, ◌+◌, ◌-◌, ◌^◌, ◌≤◌, ◌<◌}
use native.Mathlib.Omega.{arith}
use lib.ListN.{length}
use Rattle.base.specs.Outcome.{Outcome, done, refused, need, and_then}
use Rattle.base.proofs.Ladders.{never, done_is, refused_is}
use Rattle.base.proofs.Bools.{and_true}
use Rattle.scale.specs.Time.{Time}
use Rattle.calendar.specs.Gregorian.{from_epoch}
use Rattle.clock.specs.Clock.{clock_ok}
use Rattle.leap.specs.declared.Reading.{Reading}
use Rattle.leap.specs.Table.{Table, reading}
use Rattle.leap.specs.Utc.{reading_of}
use Rattle.leap.proofs.Promises.{reading_back, second_back, utc_index}
use Rattle.moment.specs.Moment.{moment}
use Rattle.utc.specs.Reckoning.{time_of, read_by, reckons}
use Rattle.utc.proofs.Laws.{table_good, last_index_lem, time_told, time_done}
use Rattle.utc.proofs.Lift.{read_so}
use Rattle.ascii.specs.declared.Layout.{Layout}
use Rattle.shape.specs.Shapes.{shaped}
use Rattle.ascii.specs.Shapes.{code_shapes}
use Rattle.moment.specs.Decimal.{ticks_of}
use Rattle.ascii.specs.Ascii.{front_of, layout_of, number_at, day_at, clock_at, fields_of, text, code_text}
use Rattle.ascii.proofs.Shapes.{shaped_right}
use Rattle.ascii.proofs.Sizes.{front_in}
use Rattle.ascii.proofs.Reading.{day_4}
use Rattle.ascii.proofs.Back.{code_shaped}
use Rattle.ascii.proofs.Forth.{code_again, part_lt, day_high, clock_high}
use Rattle.ascii.proofs.Ladder.{text_shaped}
use Rattle.ascii.proofs.Promises.{code_reads}
use Rattle.seek.specs.declared.Wants.{Wants}
use Rattle.seek.specs.Naming.{day_fits, clock_fits, fits_reading}
use Rattle.tag.specs.Tags.{want_of}
use Rattle.tag.specs.Shortening.{Shortening, Full, Names, Nameless}
use Rattle.tag.proofs.Shortened.{Meets, meets}
use Rattle.tag.proofs.Completed.{Completed, Parts, parts, completed}
use Rattle.tag.proofs.Witness.{day_exists, second_exists, tag_4}

-- ---- a full code is put together of a day, a second and a fraction, or is 4
pub record Spelled (code : List ℕ) : Type 0 where
  pub layout : Layout
  pub day : ℕ
  pub second : ℕ
  pub number : ℕ
  pub few : layout.digits ≤ 12
  pub high : day ≤ 3652058
  pub low : second ≤ 86400
  pub small : number < 10 ^ layout.digits
  pub is : code_text layout day second number ≡ code

clock_4 : (s : List ℕ) (i n : ℕ) → clock_at s i ≡ refused n → n ≡ 4
unfolding clock_at
clock_4 s i n e = go (clock_ok (number_at s i 2) (number_at s (i + 3) 2) (number_at s (i + 6) 2)) _ e
  where
    go : (b : Bool) (x : ℕ) → need b 4 (done x) ≡ refused n → n ≡ 4
    go true x e = never n x (sym e)
    go false x e = sym (refused_is 4 n e)

full_length : (code : List ℕ) → shaped code_shapes code ≡ true → 1 ≤ length code
full_length code e = let (p, r) = shaped_right code e in omega (arith, p.size, front_in (layout_of code).ordinal)

module _ (code : List ℕ) (full : shaped code_shapes code ≡ true) where
  abbrev own : Layout
  own = layout_of code

  abbrev part : ℕ
  part = number_at code (front_of own.ordinal + 1) own.digits

  fields_by_lem : (o : Outcome ℕ) → day_at own.ordinal code ≡ o → (p : Outcome ℕ) → clock_at code (front_of own.ordinal - 8) ≡ p
      → text code ≡ and_then o (λ day. and_then p (λ second. done (moment (from_epoch day) second (ticks_of own.digits part))))
  unfolding fields_of
  fields_by_lem o e p f = text_shaped code (full_length code full) full ∙ rw (e, f)

  full_cases : (text code ≡ refused 4) ⊎ Spelled code
  full_cases = go (day_at own.ordinal code) refl (clock_at code (front_of own.ordinal - 8)) refl
    where
      go : (o : Outcome ℕ) → day_at own.ordinal code ≡ o → (p : Outcome ℕ) → clock_at code (front_of own.ordinal - 8) ≡ p → (text code ≡ refused 4) ⊎ Spelled code
      go (refused k) e p f = inl (fields_by_lem _ e p f ∙ ap refused (day_4 own.ordinal code k e))
      go (done n) e (refused k) f = inl (fields_by_lem _ e _ f ∙ ap refused (clock_4 code _ k f))
      go (done n) e (done x) f =
          let (p, r) = shaped_right code full in
          inr (record {
            layout = own;
            day = n;
            second = x;
            number = part;
            few = p.few;
            high = day_high own.ordinal code n e;
            low = clock_high code _ x f;
            small = part_lt own code r;
            is = code_again own code n x r e f;
          })

-- ---- a text that is a shortening of a code that is not 4 is a tag, and wants what the code has
spelled_meets : (s code : List ℕ) (c : Spelled code) → Shortening code s → Meets c.day c.second (ticks_of c.layout.digits c.number) s
spelled_meets s code c h =
    meets c.layout c.day c.second c.number c.high c.low c.few c.small (subst (λ (k : List ℕ). Shortening k s) (sym c.is) h)

-- the code of a day and a second
code_of : (s : List ℕ) (n x k : ℕ) → n ≤ 3652058 → x ≤ 86400 → Completed n x k s → (code : List ℕ) × (Full s code × (text code ≡ done (moment (from_epoch n) x k)))
code_of s n x k high low c = (
  code_text c.layout n x c.number,
  (
    record { full = (code_shaped c.layout n x c.number c.few).0; short = c.short },
    (code_reads c.layout n x c.number high low c.few c.small).0 ∙ ap (λ (i : ℕ). done (moment (from_epoch n) x i)) c.exact,
  ),
)

module _ (t : Table) (g : reckons t ≡ true) where
  -- the moments that have what a tag wants
  abbrev pub Named : Wants → Time → Type 0
  Named w m = (fits_reading w (reading_of t m.sec) ≡ true) × (m.ticks ≡ w.ticks)

  names_by : (w : Wants) (m : Time) (n x k : ℕ) → x ≤ 86400 → day_fits w.calendar n ≡ true → clock_fits w.clock x ≡ true → w.ticks ≡ k → time_of t (moment (from_epoch n) x k) ≡ done m → Named w m
  names_by w m n x k h d c i e =
      let (a, b) = time_told t (moment (from_epoch n) x k) m e in
      let u : reading_of t m.sec ≡ done (reading t n x) = second_back t (table_good t g) n x m.sec (sym (utc_index t (table_good t g) n x h) ∙ a) in
      (rw (u, d, c), b ∙ sym i)

  -- the tag names what a full code of which it is a shortening reads to ..
  pub names_named : (s : List ℕ) (w : Wants) → want_of s ≡ done w → (m : Time) → Names t s m → Named w m
  names_named s w e m (code, (f, r)) =
      ⊎_elim (λ (h : text code ≡ refused 4). never 4 m (sym (ap (read_by t) h) ∙ r)) (λ (c : Spelled code). go c) (full_cases code f.full)
    where
      go : Spelled code → Named w m
      go c =
          let q = spelled_meets s code c f.short in
          let i : q.wanted ≡ w = done_is q.wanted w (sym q.told ∙ e) in
          let h : time_of t (moment (from_epoch c.day) c.second (ticks_of c.layout.digits c.number)) ≡ done m =
          sym (ap (read_by t) (code_reads c.layout c.day c.second c.number c.high c.low c.few c.small).0) ∙ ap (λ (y : List ℕ). read_by t (text y)) c.is ∙ r in
          subst (λ (y : Wants). Named y m) i (names_by q.wanted m c.day c.second _ c.low q.day q.second q.ticks h)

  -- .. and nothing else
  pub named_names : (s : List ℕ) (w : Wants) → want_of s ≡ done w → (m : Time) → Named w m → Names t s m
  named_names s w e m (f, i) = go (reading_of t m.sec) refl f
    where
      p : Parts s w
      p = (parts s w e).0

      go : (o : Outcome Reading) → reading_of t m.sec ≡ o → fits_reading w o ≡ true → Names t s m
      go (refused n) h f = absurd (false≢true f)
      go (done u) h f =
          let (d, c) = and_true (day_fits w.calendar u.day) (clock_fits w.clock u.second) f in
          let b = reading_back t (table_good t g) m.sec u h in
          let (code, (q, r)) = code_of s u.day u.second w.ticks (omega (arith, b.covered, last_index_lem t g)) b.low (completed s w u.day u.second (omega (arith, b.covered, last_index_lem t g)) b.low p d c) in
          (code, (q, read_so t (text code) _ m r (time_done t _ m.sec (utc_index t (table_good t g) u.day u.second b.low ∙ b.back) ∙ ap (λ (k : ℕ). done (record { sec = m.sec; ticks = k })) (sym i))))

-- ---- refused 4
pub refused_nameless : (s : List ℕ) → want_of s ≡ refused 4 → Nameless s
refused_nameless s e code f =
    ⊎_elim (λ (h : text code ≡ refused 4). h) (λ (c : Spelled code). let w = spelled_meets s code c f.short in never 4 w.wanted (sym e ∙ w.told)) (full_cases code f.full)

-- .. of a text that is not empty, exactly when no full code of which it is a shortening reads to anything but 4
pub nameless_refused : (s : List ℕ) → 1 ≤ length s → Nameless s → want_of s ≡ refused 4
nameless_refused s l none = go (want_of s) refl
  where
    go : (o : Outcome Wants) → want_of s ≡ o → want_of s ≡ refused 4
    go (refused n) e = e ∙ ap refused (tag_4 s n l e)
    go (done w) e =
        let (p, g) = parts s w e in
        let (n, high, d) = day_exists s w p g in
        let (x, low, c) = second_exists w g in
        let (code, (f, r)) = code_of s n x w.ticks high low (completed s w n x high low p d c) in
        never 4 _ (sym (none code f) ∙ r)
