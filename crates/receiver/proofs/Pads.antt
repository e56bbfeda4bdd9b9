-- The first octets of a run, with zeros behind its end.
use mathlib.Core.Path.{◌≡◌, refl, sym, ap, ◌∙◌}
use mathlib.Core.List.{List, ◌++◌}
use Prim.Native.Nat.{ℕ, ◌+◌, ◌-◌, ◌<◌, ◌≤◌}
use native.Mathlib.Decide.{dec_lt}
use native.Mathlib.Numerals.{add-one}
use native.Mathlib.Omega.{arith}
use lib.ListN.{length, get_or, take, set, replicate, length-append, length-set, length-replicate, get_or-replicate, get_or-append, get_or-eq_default}
use lib.Seq.{take_all, take-take, take-suc, take-suc-set, take-append-le, length-take-le, get_or-take, get_or-append-add, ext_get_or}
use Rattle.receiver.specs.Inner.{padded}

abbrev pub zeros : ℕ → List ℕ
zeros n = replicate n 0

zero_at : (n i : ℕ) → get_or (zeros n) i 0 ≡ 0
zero_at n i = go (dec_lt i n)
  where
    go : Dec (i < n) → get_or (zeros n) i 0 ≡ 0
    go (yes h) = get_or-replicate n i 0 0 h
    go (no h) = get_or-eq_default (zeros n) 0 (omega (arith, length-replicate {A = ℕ} n 0))

-- zeros change nothing that is looked at
behind : (s : List ℕ) (n i : ℕ) → get_or (s ++ replicate n 0) i 0 ≡ get_or s i 0
behind s n i = go (dec_lt i (length s))
  where
    go : Dec (i < length s) → get_or (s ++ replicate n 0) i 0 ≡ get_or s i 0
    go (yes h) = get_or-append s (replicate n 0) 0 i h
    go (no h) =
        let k : i ≡ length s + (i - length s) = omega arith in
        ap (λ (j : ℕ). get_or (s ++ replicate n 0) j 0) k ∙ get_or-append-add s (replicate n 0) (i - length s) 0 ∙ zero_at n (i - length s) ∙ sym (get_or-eq_default s 0 (omega arith))

module _ (n : ℕ) (s : List ℕ) where
  pub length_padded : length (padded n s) ≡ n
  unfolding padded
  length_padded = length-take-le n (s ++ replicate n 0) (omega (arith, length-append s (replicate n 0), length-replicate {A = ℕ} n 0))

  padded_at : (i : ℕ) → i < n → get_or (padded n s) i 0 ≡ get_or s i 0
  unfolding padded
  padded_at i h = get_or-take n (s ++ replicate n 0) i 0 h ∙ behind s n i

  -- a T-field's octets stand in it as in the run
  pub padded_front : (w : ℕ) → w ≤ n → w ≤ length s → take w (padded n s) ≡ take w s
  unfolding padded
  padded_front w h k = take-take w n (s ++ replicate n 0) h ∙ take-append-le w s (replicate n 0) k

  -- a run that is short enough is all there
  pub padded_short : length s ≤ n → padded n s ≡ s ++ replicate (n - length s) 0
  padded_short h =
      ext_get_or 0 (padded n s) (s ++ replicate (n - length s) 0) (length_padded ∙ sym (length-append s (replicate (n - length s) 0) ∙ ap (λ (k : ℕ). length s + k) (length-replicate (n - length s) 0) ∙ omega arith))
      (λ i k. padded_at i (omega (arith, length_padded)) ∙ sym (behind s (n - length s) i))

-- ---- they are stored one by one
pub record Padding (n : ℕ) (s new : List ℕ) (i : ℕ) : Type 0 where
  pub size : length new ≡ n
  pub part : i ≤ n
  pub is : take i new ≡ take i (padded n s)

pub starts : (n : ℕ) (s new : List ℕ) → length new ≡ n → Padding n s new 0
starts n s new h = record { size = h; part = omega arith; is = refl }

module _ {n : ℕ} {s new : List ℕ} {i : ℕ} (p : Padding n s new i) where
  pub goes_on : (x : ℕ) → i < n → x ≡ get_or s i 0 → Padding n s (set new i x) (i + 1)
  goes_on x h e = record {
    size = length-set new i x ∙ p.size;
    part = omega arith;
    is =
        rw (add-one i, take-suc-set new i x (omega (arith, p.size)), take-suc (padded n s) i 0 (omega (arith, length_padded n s)), p.is, padded_at n s i h, e);
  }

  pub ends : n ≤ i → new ≡ padded n s
  ends h =
      let e : i ≡ n = omega (arith, p.part) in
      sym (take_all i new (omega (arith, p.size))) ∙ p.is ∙ take_all i (padded n s) (omega (arith, length_padded n s))

-- ---- the octet of a run at a place: held, or in the piece
pub held_at : (held piece : List ℕ) (i : ℕ) → i < length held → get_or (held ++ piece) i 0 ≡ get_or held i 0
held_at held piece i h = get_or-append held piece 0 i h

pub fed_at : (held piece : List ℕ) (i : ℕ) → length held ≤ i → get_or (held ++ piece) i 0 ≡ get_or piece (i - length held) 0
fed_at held piece i h =
    let e : i ≡ length held + (i - length held) = omega arith in
    ap (λ (j : ℕ). get_or (held ++ piece) j 0) e ∙ get_or-append-add held piece (i - length held) 0
