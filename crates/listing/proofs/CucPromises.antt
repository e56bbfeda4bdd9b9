-- What a CUC listing holds, in the words of document 01: "epoch + T + k × 256^c seconds for every whole k of 0 or more .. T taken with its fraction", from the window's start on and before its end.
use mathlib.Core.Bool.{true}
use mathlib.Core.List.{List}
use mathlib.Core.Logic.{◌↔◌}
use mathlib.Core.Path.{◌≡◌, sym, ap, ◌∙◌}
use Prim.Native.Nat.{ℕ, ◌+◌, ◌^◌, ◌≤◌}
use native.Mathlib.Omega.{arith}
use borrow.Author.Tests.{leb-true}
use lib.Dec.{leb, lit<}
use lib.IntN.{ℤ}
use lib.ListN.{length, get_or}
use Rattle.base.specs.Outcome.{Outcome, done, and_then}
use Rattle.base.specs.Parts.{minus}
use Rattle.base.proofs.Ladders.{never, need_done, then_done, done_is}
use Rattle.scale.specs.Time.{Time, is_record}
use Rattle.scale.proofs.Laws.{good_within, record_ticks}
use Rattle.window.specs.Among.{Ascending}
use Rattle.window.specs.Seconds.{raised_by}
use Rattle.window.specs.Window.{Named}
use Rattle.counter.specs.Counter.{names}
use Rattle.octets.specs.Counts.{count_at}
use Rattle.cuc.specs.Cuc.{field, width, time_of}
use Rattle.cuc.specs.declared.Layout as U
use Rattle.cuc.proofs.Fields.{count_lt, field_told}
use Rattle.cuc.proofs.Layouts.{layout_good}
use Rattle.pfield.specs.PField.{laid, octet, headed_of}
use Rattle.pfield.specs.declared.PField.{PField}
use Rattle.pfield.specs.declared.Codes.TheVariants as Codes
use Rattle.pfield.proofs.Heads.{given_head, octet_head}
use Rattle.pfield.specs.declared.Preamble.{Preamble}
use Rattle.pfield.specs.declared.Preamble.TheVariants.{Front, Given}
use Rattle.pfield.specs.declared.Layout.{Layout}
use Rattle.pfield.specs.declared.Layout.TheVariants.{Cuc, Cds, Ccs}
use Rattle.pfield.proofs.Layouts.{laid_good}
use Rattle.listing.specs.Records.{moments_in, IsListed, Inside, Sooner, adjoined}
use Rattle.listing.specs.CucTag.{Periodic, tag_with, tag_in, periodic_of, list_periodic, list_cuc, Names, CutTo}
use Rattle.listing.specs.Inner.{Short}
use Rattle.listing.proofs.Windows.{Ordered, windowed_told, windowed_yes, ordered_then}
use Rattle.listing.proofs.Records.{inside_valid, listed_named, named_listed, ascends, adjoins}
use Rattle.listing.proofs.CucTags.{whole, tag_good_lem}
use Rattle.listing.proofs.CucNaming.{follows_named, named_follows, counted_follows, follows_counted, names_cut}
use Rattle.std.specs.Prelude.{Ok}
use Rattle.pfield.specs.declared.Head.{Head}

-- ---- the listing
-- what a tag lists of a window
abbrev moments : Periodic → Time → Time → Named ℤ
moments g from to = moments_in (2 ^ 41) (names (raised_by (2 ^ 41) g.first.sec) g.period) g.first.ticks from to

-- what is listed is listed of a tag
pub lists_tag : (s : List ℕ) (p : Preamble) (e : ℤ) (from to : Time) (x : Named ℤ) → list_cuc s p e from to ≡ done x → (g : Periodic) × (periodic_of s p e ≡ done g)
unfolding list_cuc
lists_tag s p e from to x h = let (g, (says, _)) = then_done (periodic_of s p e) (list_periodic from to) x h in (g, says)

module _ (s : List ℕ) (p : Preamble) (e : ℤ) (g : Periodic) (says : periodic_of s p e ≡ done g) where
  lists_of : (from to : Time) → list_cuc s p e from to ≡ list_periodic from to g
  unfolding list_cuc
  lists_of from to = ap (λ (x : Outcome Periodic). and_then x (list_periodic from to)) says

  listed_of : (from to : Time) (x : Named ℤ) → list_cuc s p e from to ≡ done x → Ordered from to × (moments g from to ≡ x)
  unfolding list_periodic
  listed_of from to x h =
      let (o, i) = windowed_told from to _ x (sym (lists_of from to) ∙ h) in
      (o, done_is _ x i)

  lists_so : (from to : Time) → Ordered from to → list_cuc s p e from to ≡ done (moments g from to)
  unfolding list_periodic
  lists_so from to o = lists_of from to ∙ windowed_yes from to _ o

  module _ (from to : Time) (o : Ordered from to) where
    low : minus from.sec ≤ 2 ^ 41
    low = (good_within (2 ^ 41) from (lit< tt) o.starts).low

    short : Short g
    short = tag_good_lem s p e g says

    moments_exactly : (m : Time) → IsListed (moments g from to) m ↔ ((is_record m ≡ true) × Names g m × Inside from to m)
    moments_exactly m = (named, listed)
      where
        named : IsListed (moments g from to) m → (is_record m ≡ true) × Names g m × Inside from to m
        named l =
            let (n, i) = listed_named (2 ^ 41) _ g.first.ticks from to low o.in_order m l in
            let v = inside_valid from to m o.starts o.ends (rw n.1 short.valid.below) i in
            (v, follows_named g m (counted_follows (2 ^ 41) g m short.valid.low (good_within (2 ^ 41) m (lit< tt) v).low n), i)

        listed : (is_record m ≡ true) × Names g m × Inside from to m → IsListed (moments g from to) m
        listed (v, n, i) =
            let f = named_follows g m (record_ticks m v) short.valid.below n in
            named_listed (2 ^ 41) _ g.first.ticks from to low o.in_order m (follows_counted (2 ^ 41) g m short.valid.low f) i

  module _ (from to : Time) (x : Named ℤ) (h : list_cuc s p e from to ≡ done x) where
    order : Ordered from to
    order = (listed_of from to x h).0

    -- "It names epoch + T + k × 256^c seconds", "The window takes its start and not its end": listed are exactly the records that the tag names inside
    pub lists_exactly : (m : Time) → IsListed x m ↔ ((is_record m ≡ true) × Names g m × Inside from to m)
    lists_exactly m = rw (← (listed_of from to x h).1) (moments_exactly from to order m)

    -- ascending, and each once
    pub lists_ascending : Ascending Sooner x.all
    lists_ascending =
        rw (← (listed_of from to x h).1) (ascends (2 ^ 41) _ g.first.ticks from to (low from to order) order.in_order)

    -- the tick count is the tag's, also where nothing is listed
    pub lists_ticks : x.ticks ≡ g.first.ticks
    unfolding moments_in
    lists_ticks = sym (ap (λ (y : Named ℤ). y.ticks) (listed_of from to x h).1)

  -- the list of a window followed by that of the adjoining one is the list of both
  pub lists_adjoin : (a b c : Time) (x y : Named ℤ) → list_cuc s p e a b ≡ done x → list_cuc s p e b c ≡ done y → list_cuc s p e a c ≡ done (adjoined x y)
  lists_adjoin a b c x y h i =
      let (o, f) = listed_of a b x h in
      let (r, k) = listed_of b c y i in
      rw (← f, ← k)
      (lists_so a c (ordered_then a b c o r)
      ∙ ap done (adjoins (2 ^ 41) _ g.first.ticks a b c (low a b o) o.in_order r.in_order))

-- ---- the tag: its P octet and exactly its T-field
-- what a tag from `at` on under the P-field o was made of
pub record Made (s : List ℕ) (at : ℕ) (o : PField) (e : ℤ) (g : Periodic) : Type 0 where
  pub layout : U.Layout
  pub lays : laid Codes.Cuc o e ≡ done (Cuc layout)
  pub reads : field s at layout ≡ done g.first
  pub whole : ℕ
  pub wholes : count_at s at layout.coarse ≡ Ok whole
  pub part : ℕ
  pub parts : count_at s (at + layout.coarse) layout.fine ≡ Ok part
  pub ends : at + width layout ≡ length s
  pub is : record { first = time_of layout whole part; period = 256 ^ layout.coarse } ≡ g

made_with : (s : List ℕ) (at : ℕ) (o : PField) (e : ℤ) (l : U.Layout) (g : Periodic) (m : Time) → laid Codes.Cuc o e ≡ done (Cuc l) → field s at l ≡ done m → whole s at l m ≡ done g → Made s at o e g
made_with s at o e l g m p f h =
    let (long, i) = need_done (leb (length s) (at + width l)) 4 (done (record { first = m; period = 256 ^ l.coarse })) g h in
    let t = field_told s at l m f in
    record {
      layout = l;
      lays = p;
      reads = f ∙ ap (λ (y : Periodic). done y.first) (done_is _ g i);
      whole = t.whole;
      wholes = t.wholes;
      part = t.part;
      parts = t.parts;
      ends = omega (arith, leb-true (length s) (at + width l) long, t.fits);
      is = ap (λ (z : Time). record { first = z; period = 256 ^ l.coarse }) t.is ∙ done_is _ g i;
    }

made_in : (s : List ℕ) (at : ℕ) (o : PField) (e : ℤ) (l : Layout) (g : Periodic) → laid Codes.Cuc o e ≡ done l → tag_in s at l ≡ done g → Made s at o e g
unfolding tag_in tag_with
made_in s at o e (Cuc l) g p h = let (m, (f, k)) = then_done (field s at l) (whole s at l) g h in made_with s at o e l g m p f k
made_in s at o e (Cds l) g p h = never 2 g h
made_in s at o e (Ccs l) g p h = never 2 g h

-- supplied apart, or read from the front
pub made_apart : (s : List ℕ) (o : PField) (e : ℤ) (g : Periodic) → periodic_of s (Given o) e ≡ done g → Made s 0 o e g
unfolding periodic_of
made_apart s o e g h =
    let (k, (p, i)) = then_done (headed_of Codes.Cuc s (Given o) e) (λ (k : Head). tag_in s k.start k.layout) g h in
    let (a, b) = given_head Codes.Cuc e s o k p in
    made_in s 0 o e k.layout g a (ap (λ (n : ℕ). tag_in s n k.layout) (sym b) ∙ i)

pub made_front : (s : List ℕ) (e : ℤ) (g : Periodic) → periodic_of s Front e ≡ done g → Made s 1 (octet (get_or s 0 0)) e g
unfolding periodic_of
made_front s e g h =
    let (k, (p, i)) = then_done (headed_of Codes.Cuc s Front e) (λ (k : Head). tag_in s k.start k.layout) g h in
    let (_, a, b) = octet_head Codes.Cuc e s k p in
    made_in s 1 (octet (get_or s 0 0)) e k.layout g a (ap (λ (n : ℕ). tag_in s n k.layout) (sym b) ∙ i)

-- the tag names a record exactly when the record is at or after the epoch, has the tag's ticks, and its whole seconds from the epoch, cut to the coarse octets, are the tag's
pub made_names : (s : List ℕ) (at : ℕ) (o : PField) (e : ℤ) (g : Periodic) (d : Made s at o e g) (m : Time) → is_record m ≡ true → Names g m ↔ CutTo d.layout d.whole d.part m
made_names s at o e g d m v =
    let l = d.layout in
    rw (← d.is)
    (names_cut l (layout_good l (laid_good Codes.Cuc o e (Cuc l) d.lays)) d.whole d.part m (count_lt s at l.coarse d.whole d.wholes) (count_lt s (at + l.coarse) l.fine d.part d.parts) (record_ticks m v))
