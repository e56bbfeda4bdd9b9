-- A receiver's making and its calls are refused by their rungs, and so is each answer, by any table.
use mathlib.Core.Path.{◌≡◌, refl, sym, ap, ◌∙◌}
use mathlib.Core.Bool.{Bool, true}
use mathlib.Core.List.{List, []}
use Prim.Native.Nat.{ℕ, suc, ◌+◌, ◌*◌, ◌/◌, ◌<◌, ◌≤◌}
use native.Mathlib.Nat.{div-lt_iff_lt-mul, le-div_iff_mul-le, suc-mul}
use native.Mathlib.Omega.{arith}
use lib.Dec.{leb, ltb}
use lib.IntN.{ℤ}
use lib.ListN.{length, get_or, drop, length-append, length-drop}
use borrow.Author.Tests.{leb-true, le-leb, ltb-true, lt-ltb}
use Rattle.base.specs.Outcome.{Outcome, done, refused, need, and_then}
use Rattle.base.proofs.Ladders.{need_yes}
use Rattle.leap.specs.Table.{Table}
use Rattle.cuc.proofs.Layouts as UL
use Rattle.cds.proofs.Laws as DL
use Rattle.ccs.proofs.Rungs as CR
use Rattle.pfield.specs.PField.{laid}
use Rattle.pfield.specs.declared.PField.{PField}
use Rattle.pfield.specs.declared.Codes.TheVariants.{All}
use Rattle.pfield.specs.declared.Layout.{Layout}
use Rattle.pfield.specs.declared.Layout.TheVariants.{Cuc, Cds, Ccs}
use Rattle.pfield.proofs.Layouts.{is_layout_of, laid_good}
use Rattle.codes.specs.Reading.{field_of, width_of}
use Rattle.codes.proofs.Fields.{width_some}
use Rattle.receiver.specs.Fields.{whole_in, answers_in}
use Rattle.receiver.specs.Receiver.{holding, held_in, is_state, made_of, layout_of, run_of, Fate, fate_of, feed_of}
use Rattle.receiver.specs.declared.Receiver.{Receiver}
use Rattle.receiver.proofs.Runs.{field_number}
use Rattle.promises.specs.Rungs.{Exactly}
use Rattle.promises.specs.RungsBinary as B
use Rattle.promises.specs.RungsReceiver.{receiver_make_rungs, unfinished, clear, roomy, state_rungs, receive_rungs, answer_rungs}
use Rattle.promises.proofs.Rungs.{verdict, judged, by_rungs, given_climb, step, after, need_both, then_need, then_then, verdict_given, both_ways}
use Rattle.promises.proofs.RungsBinary.{laid_climbs, laid_so}
use Rattle.promises.proofs.RungsFields.{field_rungs_lem}

-- the octets of a T-field, counted
pub width_octets : (l : Layout) → is_layout_of l ≡ true → width_of l ≡ B.octets_of l
width_octets (Cuc l) h = UL.width_is l h
width_octets (Cds l) h = DL.width_is l h
width_octets (Ccs l) h = CR.width_is l (leb-true l.segments 6 h)

pub receiver_make_rungs_lem : (p : PField) (e : ℤ) → verdict (made_of p e) ≡ judged (receiver_make_rungs p.octet e)
receiver_make_rungs_lem p e =
    verdict_given (λ (l : Layout). holding p e []) (laid All p e) ∙ ap verdict (laid_climbs p e) ∙ given_climb (λ (l : Layout). tt) (B.octet_rungs p.octet e) (B.layout_of p.octet e)

-- as many rows as T-fields are whole: the bytes come to no further one
rows_enough : (n w room : ℕ) → 0 < w → leb (n / w) room ≡ ltb n ((room + 1) * w)
rows_enough n w room some =
    both_ways (leb (n / w) room) (ltb n ((room + 1) * w))
    (λ h. lt-ltb n ((room + 1) * w) ((div-lt_iff_lt-mul {k = w} {x = n} {y = room + 1} some).0 (omega (arith, leb-true (n / w) room h))))
    (λ h. le-leb (n / w) room (omega (arith, (div-lt_iff_lt-mul {k = w} {x = n} {y = room + 1} some).1 (ltb-true n ((room + 1) * w) h))))

module _ (t : Table) (r : Receiver) (piece : List ℕ) (room : ℕ) where
  -- what a call does once the layout is known
  abbrev fed : Layout → Outcome Fate
  fed l = need (leb (whole_in l (run_of r piece)) room) 8 (done (fate_of t l (run_of r piece)))

  room_is : (l : Layout) → is_layout_of l ≡ true → leb (whole_in l (run_of r piece)) room ≡ roomy l r piece room
  room_is l h =
      rows_enough (length (run_of r piece)) (width_of l) room (width_some l h)
      ∙ rw (length-append (held_in r) piece, width_octets l h)

  state_rungs_lem : (l : Layout) → is_layout_of l ≡ true → verdict (and_then (need (is_state l r) 7 (done l)) fed) ≡ judged (state_rungs l r piece room)
  unfolding is_state
  state_rungs_lem l h =
      ap verdict (then_need (is_state l r) 7 l fed ∙ sym (need_both (ltb r.count (width_of l)) (clear r) 7 (fed l)))
      ∙ ap (λ (w : ℕ). verdict (need (ltb r.count w) 7 (need (clear r) 7 (fed l)))) (width_octets l h)
      ∙ step (unfinished l r) 7 _ _ (λ a.
      step (clear r) 7 _ _ (λ b.
      ap (λ (y : Bool). verdict (need y 8 (done (fate_of t l (run_of r piece))))) (room_is l h) ∙ step (roomy l r piece room) 8 _ _ (λ c. refl)))

  pub receive_rungs_lem : verdict (feed_of t r piece room) ≡ judged (receive_rungs r piece room)
  unfolding feed_of layout_of
  receive_rungs_lem =
      let o = r.p.octet in
      let l = B.layout_of o r.epoch in
      ap verdict (then_then (laid All r.p r.epoch) (λ l. need (is_state l r) 7 (done l)) fed)
      ∙ after (laid All r.p r.epoch) (B.octet_rungs o r.epoch) l (λ l. and_then (need (is_state l r) 7 (done l)) fed) _ (laid_climbs r.p r.epoch) (λ h. state_rungs_lem l (laid_so r.p r.epoch h))

-- ---- the answers: each by the octets of its own T-field
module _ (t : Table) (p : PField) (e : ℤ) (l : Layout) (a : laid All p e ≡ done l) (s : List ℕ) (i : ℕ) (h : i < whole_in l s) where
  good : is_layout_of l ≡ true
  good = laid_good All p e l a

  -- all of it is there
  there : 0 + B.octets_of l ≤ length (drop (i * B.octets_of l) s)
  there =
      let w = B.octets_of l in
      let k : i < length s / w = rw (← width_octets l good) h in
      let j : suc i * w ≤ length s = (le-div_iff_mul-le {k = w} {x = suc i} {y = length s} (rw (← width_octets l good) (width_some l good))).0 (omega arith) in
      omega (arith, length-drop (i * w) s, suc-mul i w)

  pub answers_exactly : Exactly (get_or (answers_in t l s) i (refused 0)) (answer_rungs t (drop (i * B.octets_of l) s) l)
  unfolding answers_in
  answers_exactly =
      let own = drop (i * B.octets_of l) s in
      by_rungs _ (answer_rungs t own l)
      (ap verdict (field_number t l (whole_in l s) s i h ∙ ap (λ (w : ℕ). field_of t (drop (i * w) s) 0 l) (width_octets l good))
      ∙ field_rungs_lem t own 0 l good
      ∙ need_yes 1 _ (le-leb (0 + B.octets_of l) (length own) there))
