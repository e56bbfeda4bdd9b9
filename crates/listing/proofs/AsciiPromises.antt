-- What an ASCII listing holds, in the words of document 01 and of the standard: exactly the moments of the window that some full code reads to of which the tag is a shortening. By any table that reckons.
use mathlib.Core.Bool.{Bool, true, false, not}
use mathlib.Core.List.{List}
use mathlib.Core.Logic.{◌↔◌}
use mathlib.Core.Path.{◌≡◌, sym, ap, subst, ◌∙◌}
use Prim.Native.Nat.{ℕ, ◌+◌, ◌≤◌}
use native.Mathlib.Omega.{arith}
use lib.IntN.{ℤ}
use lib.ListN.{length}
use Rattle.base.specs.Outcome.{Outcome, done, refused, need, and_then}
use Rattle.base.proofs.Ladders.{never, need_yes, need_done, then_done, done_is, refused_is}
use Rattle.base.proofs.Bools.{and_true, and_yes}
use Rattle.scale.specs.Time.{Time, is_record, earlier}
use Rattle.leap.specs.Table.{Table, start, reading_at}
use Rattle.leap.specs.Utc.{second_raise, reading_of}
use Rattle.leap.proofs.Raised.{raise_at}
use Rattle.utc.specs.Reckoning.{reckons}
use Rattle.window.specs.Among.{Ascending}
use Rattle.window.specs.Seconds.{raised_by}
use Rattle.window.specs.Window.{Named}
use Rattle.window.proofs.Seconds.{raised_at}
use Rattle.seek.specs.declared.Wants.{Wants}
use Rattle.seek.specs.Naming.{names, fits_reading}
use Rattle.tag.specs.Tags.{want_of}
use Rattle.tag.specs.Shortening.{Names, Nameless}
use Rattle.tag.proofs.Naming as N
use Rattle.listing.specs.Records.{windowed, moments_in, IsListed, Inside, Sooner, adjoined}
use Rattle.listing.specs.AsciiTag.{onset, covered, list_wanted, list_ascii}
use Rattle.listing.proofs.Windows.{Ordered, windowed_told, windowed_yes, ordered_then}
use Rattle.listing.proofs.Records.{From, later_from, listed_named, named_listed, ascends, adjoins}
use Rattle.listing.proofs.AsciiWindows.{covered_is}

-- a window's own refusals are not 4
not_4 : {A : Type 0} {X : Type 0} (from to : Time) (b : Bool) (a : A) → windowed from to (need b 5 (done a)) ≡ refused 4 → X
not_4 {A} {X} from to b a = go (is_record from) (is_record to) (not (earlier to from)) b
  where
    go : (p q r b : Bool) → need p 7 (need q 7 (need r 9 (need b 5 (done a)))) ≡ refused 4 → X
    go true true true true e = never 4 a (sym e)
    go true true true false e = absurd (omega (arith, refused_is 5 4 e))
    go true true false b e = absurd (omega (arith, refused_is 9 4 e))
    go true false r b e = absurd (omega (arith, refused_is 7 4 e))
    go false q r b e = absurd (omega (arith, refused_is 7 4 e))

module _ (table : Table) where
  -- ---- the listing
  -- what a tag lists of a window
  abbrev moments : Wants → Time → Time → Named ℤ
  moments t from to = moments_in second_raise (names table t) t.ticks from to

  -- what is listed is listed of a tag, of a window of records in their order, in the cover
  pub record Listed (s : List ℕ) (from to : Time) (x : Named ℤ) : Type 0 where
    pub wanted : Wants
    pub told : want_of s ≡ done wanted
    pub order : Ordered from to
    pub inside : covered table from to ≡ true
    pub is : moments wanted from to ≡ x

  pub lists_tag : (s : List ℕ) (from to : Time) (x : Named ℤ) → list_ascii table s from to ≡ done x → Listed s from to x
  unfolding list_ascii list_wanted
  lists_tag s from to x h =
      let (t, (a, b)) = then_done (want_of s) (list_wanted table from to) x h in
      let (o, c) = windowed_told from to _ x b in
      let (e, d) = need_done (covered table from to) 5 _ x c in
      record { wanted = t; told = a; order = o; inside = e; is = done_is _ x d }

  -- a tag that is one lists something of every such window, be it nothing: it never gives 5 or 6 for its own date
  pub lists_so : (s : List ℕ) (t : Wants) (from to : Time) → want_of s ≡ done t → Ordered from to → covered table from to ≡ true → list_ascii table s from to ≡ done (moments t from to)
  unfolding list_ascii list_wanted
  lists_so s t from to e o c = ap (λ (x : Outcome Wants). and_then x (list_wanted table from to)) e ∙ windowed_yes from to _ o ∙ need_yes 5 _ c

  -- ---- naming, on raised seconds and by the codes
  named_raised : (t : Wants) (m : Time) → From second_raise m → names table t (raised_by second_raise m.sec) ≡ fits_reading t (reading_of table m.sec)
  unfolding names reading_of
  named_raised t m f =
      sym (ap (λ (o : Outcome ℕ). fits_reading t (and_then o (reading_at table))) (raise_at second_raise (raised_by second_raise m.sec) m.sec (raised_at second_raise m.sec f)))

  module _ (s : List ℕ) (from to : Time) (x : Named ℤ) (h : list_ascii table s from to ≡ done x) where
    l : Listed s from to x
    l = lists_tag s from to x h

    low : From second_raise from
    low = (covered_is table l.wanted.ticks from to l.order l.inside).starts

    -- listed are exactly the moments of the window that the tag names
    pub lists_exactly : reckons table ≡ true → (m : Time) → IsListed x m ↔ (Names table s m × Inside from to m)
    lists_exactly g m = (named, listed)
      where
        t : Wants
        t = l.wanted

        named : IsListed x m → Names table s m × Inside from to m
        named i =
            let ((a, b), c) = listed_named second_raise (names table t) t.ticks from to low l.order.in_order m (rw (← l.is) at i) in
            let f = later_from second_raise m from low c.0 in
            (N.named_names table g s t l.told m (sym (named_raised t m f) ∙ a, b), c)

        listed : Names table s m × Inside from to m → IsListed x m
        listed (n, c) =
            let f = later_from second_raise m from low c.0 in
            let (a, b) = N.names_named table g s t l.told m n in
            rw (← l.is) (named_listed second_raise (names table t) t.ticks from to low l.order.in_order m (named_raised t m f ∙ a, b) c)

    -- ascending, and each once
    pub lists_ascending : Ascending Sooner x.all
    lists_ascending = rw (← l.is) (ascends second_raise (names table l.wanted) l.wanted.ticks from to low l.order.in_order)

    -- the tick count is the tag's, also where nothing is listed
    pub lists_ticks : (t : Wants) → want_of s ≡ done t → x.ticks ≡ t.ticks
    unfolding moments_in
    lists_ticks t e = ap (λ (y : Named ℤ). y.ticks) (sym l.is) ∙ ap (λ (u : Wants). u.ticks) (done_is l.wanted t (sym l.told ∙ e))

  cover_adjoins : (a b c : Time) → covered table a b ≡ true → covered table b c ≡ true → covered table a c ≡ true
  unfolding covered
  cover_adjoins a b c e f =
      let first = start table table.first.day in
      let past = start table (table.last + 1) in
      and_yes (not (earlier (onset past) c)) (and_true (not (earlier a (onset first))) (not (earlier (onset past) b)) e).0
      ∙ (and_true (not (earlier b (onset first))) (not (earlier (onset past) c)) f).1

  -- the list of a window followed by that of the adjoining one is the list of both
  pub lists_adjoin : (s : List ℕ) (a b c : Time) (x y : Named ℤ) → list_ascii table s a b ≡ done x → list_ascii table s b c ≡ done y → list_ascii table s a c ≡ done (adjoined x y)
  lists_adjoin s a b c x y h i =
      let p = lists_tag s a b x h in
      let q = lists_tag s b c y i in
      let t = p.wanted in
      let same : q.wanted ≡ t = done_is q.wanted t (sym q.told ∙ p.told) in
      let in-cover = cover_adjoins a b c p.inside q.inside in
      let second : moments t b c ≡ y = subst (λ (u : Wants). moments u b c ≡ y) same q.is in
      rw (← p.is, ← second)
      (lists_so s t a c p.told (ordered_then a b c p.order q.order) in-cover
      ∙ ap done (adjoins second_raise (names table t) t.ticks a b c (covered_is table t.ticks a b p.order p.inside).starts p.order.in_order q.order.in_order))

  -- ---- refused 4, of a text that is not empty: exactly when no full code of which it is a shortening reads to anything but 4
  pub lists_4 : (s : List ℕ) (from to : Time) → 1 ≤ length s → (list_ascii table s from to ≡ refused 4) ↔ Nameless s
  unfolding list_ascii list_wanted
  lists_4 s from to some = (λ e. N.refused_nameless s (tag_4 (want_of s) e), λ n. ap (λ (o : Outcome Wants). and_then o (list_wanted table from to)) (N.nameless_refused s some n))
    where
      tag_4 : (o : Outcome Wants) → and_then o (list_wanted table from to) ≡ refused 4 → o ≡ refused 4
      tag_4 (done t) e = not_4 from to (covered table from to) (moments t from to) e
      tag_4 (refused n) e = ap refused (refused_is n 4 e)
