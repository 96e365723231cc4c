-- The code of UTF-8: what a first byte says, the bytes behind it, and the walk from sequence to sequence.
-- Assumes nothing.
use mathlib.Core.Path.{◌≡◌, refl, sym, ap, ◌∙◌}
use mathlib.Core.Bool.{Bool, true, false, not, ◌&&◌, and-true}
use mathlib.Core.List.{List, [], ◌∷◌}
use Prim.Native.Nat.{ℕ, zero, suc, ◌+◌, ◌-◌, ◌≤◌, ◌<◌}
use native.Mathlib.Omega.{arith}
use lib.Dec.{T, leb, eqb, eqb→eq}
use lib.ListN.{length, drop, get_or, replicate, drop_of_length-le, length-drop}
use lib.Seq.{drop-drop}
use borrow.Author.Tests.{le-leb, lt-leb, not-true, not-false}
use Rattle.cbor.specs.Utf8.{Range, ◌to◌, is_in, rows, Follow, nothing, these, follow_in, follow, are_in, sequence_by, first_bad_from, first_bad}
use Rattle.cbor.specs.Sequences.{ranges, behind_first, Sequence}
use Rattle.memory.proofs.Lists.{front}
use Rattle.cbor.proofs.Table.{both, every, between}

-- What a first byte says. Whether two first bytes ask for the same bytes behind them:
abbrev pub same_ranges : List Range → List Range → Bool
same_ranges [] [] = true
same_ranges [] (h ∷ hs) = false
same_ranges (g ∷ gs) [] = false
same_ranges (g ∷ gs) (h ∷ hs) = eqb g.low h.low && (eqb g.high h.high && same_ranges gs hs)

abbrev pub same : Follow → Follow → Bool
same nothing nothing = true
same nothing (these hs) = false
same (these gs) nothing = false
same (these gs) (these hs) = same_ranges gs hs

same-ranges : (gs hs : List Range) → T (same_ranges gs hs) → gs ≡ hs
same-ranges [] [] t = refl
same-ranges [] (h ∷ hs) t = absurd t
same-ranges (g ∷ gs) [] t = absurd t
same-ranges (g ∷ gs) (h ∷ hs) t =
    let p = both (eqb g.low h.low) (eqb g.high h.high && same_ranges gs hs) t in
    let q = both (eqb g.high h.high) (same_ranges gs hs) p.1 in
    let l : g.low ≡ h.low = eqb→eq g.low h.low p.0 in
    let u : g.high ≡ h.high = eqb→eq g.high h.high q.0 in
    let e : gs ≡ hs = same-ranges gs hs q.1 in
    λ j. (l j to u j) ∷ e j

same-follow : (f g : Follow) → T (same f g) → f ≡ g
same-follow nothing nothing t = refl
same-follow nothing (these hs) t = absurd t
same-follow (these gs) nothing t = absurd t
same-follow (these gs) (these hs) t = ap these (same-ranges gs hs t)

-- the first bytes between two bounds, by a test of each of them
pub lead_rule : {b lo hi : ℕ} (n l h : ℕ) → lo ≤ b → b < hi → T (every (λ k x. same (follow k) (behind_first n l h)) lo (replicate (hi - lo) 0)) → follow b ≡ behind_first n l h
lead_rule {b} {lo} {hi} n l h p q t = same-follow (follow b) (behind_first n l h) (between (λ k. same (follow k) (behind_first n l h)) lo hi t b p q)

-- the first bounds and the last ones, which no test of the code has
module _ {b : ℕ} where
  pub lead_ascii : b < 0x80 → follow b ≡ behind_first 1 0x80 0xbf
  unfolding rows follow_in follow is_in behind_first ranges
  lead_ascii h = lead_rule {lo = 0} 1 0x80 0xbf (omega arith) h tt

  pub lead_last : 0xf5 ≤ b → b < 256 → follow b ≡ behind_first 0 0x80 0xbf
  unfolding rows follow_in follow is_in behind_first ranges
  lead_last l h = lead_rule 0 0x80 0xbf l h tt

-- One byte within bounds.
module _ (s : List ℕ) (at low high : ℕ) where
  pub within_end : length s ≤ at → false ≡ are_in ((low to high) ∷ []) (drop at s)
  unfolding are_in
  within_end h = rw (drop_of_length-le s h)

  pub within-below : at < length s → get_or s at 0 < low → false ≡ are_in ((low to high) ∷ []) (drop at s)
  unfolding are_in is_in
  within-below h l = rw (front s at h) (rw (lt-leb low (get_or s at 0) l))

  pub within-above : at < length s → low ≤ get_or s at 0 → leb (get_or s at 0) high ≡ are_in ((low to high) ∷ []) (drop at s)
  unfolding are_in is_in
  within-above h l = rw (front s at h) (rw (le-leb low (get_or s at 0) l, and-true))

-- The bytes behind a first one: the length of a sequence of n bytes, by whether they are right.
pub whole : ℕ → Bool → ℕ
whole n true = n
whole n false = 0

length-ranges : (n low high : ℕ) → length (ranges n low high) ≡ n
unfolding ranges
length-ranges zero low high = refl
length-ranges (suc n) low high = ap suc (length-ranges n 0x80 0xbf)

sequence-by : (n low high : ℕ) (s : List ℕ) → sequence_by (behind_first n low high) s ≡ whole n (are_in (ranges (n - 1) low high) s)
unfolding behind_first sequence_by ranges are_in whole
sequence-by zero low high s = refl
sequence-by (suc n) low high s = let e : suc n - 1 ≡ n = omega arith in rw e (go (are_in (ranges n low high) s))
  where
    go : (t : Bool) → elim t [ true ↦ suc (length (ranges n low high)) | false ↦ 0 ] ≡ whole (suc n) t
    go true = ap suc (length-ranges n low high)
    go false = refl

are_in_step : (g : Range) (gs : List Range) (s : List ℕ) → are_in (g ∷ gs) s ≡ are_in (g ∷ []) s && are_in gs (drop 1 s)
unfolding are_in
are_in_step g gs [] = refl
are_in_step g gs (b ∷ s) = rw (and-true (is_in g b))

-- The loop: i bytes of the sequence at a place are right, and the next has the bounds low and high.
pub record Behind (s : List ℕ) (at n i low high : ℕ) : Type 0 where
  pub is : sequence_by (follow (get_or s at 0)) (drop (at + 1) s) ≡ whole n (are_in (ranges (n - i) low high) (drop (at + i) s))
  pub inside : at + i ≤ length s

-- the next byte is right or not, and then the others
behind-next : (s : List ℕ) (at n i low high : ℕ) (t : Bool) → Behind s at n i low high → i < n → t ≡ are_in ((low to high) ∷ []) (drop (at + i) s)
    → sequence_by (follow (get_or s at 0)) (drop (at + 1) s) ≡ whole n (t && are_in (ranges (n - (i + 1)) 0x80 0xbf) (drop (at + (i + 1)) s))
unfolding ranges
behind-next s at n i low high t inv h e =
    let m : n - i ≡ suc (n - (i + 1)) = omega arith in
    let a : at + i + 1 ≡ at + (i + 1) = omega arith in
    let d : drop 1 (drop (at + i) s) ≡ drop (at + (i + 1)) s = drop-drop 1 (at + i) s ∙ ap (λ (k : ℕ). drop k s) a in
    let gs = ranges (n - (i + 1)) 0x80 0xbf in
    inv.is
    ∙ ap (λ (k : ℕ). whole n (are_in (ranges k low high) (drop (at + i) s))) m
    ∙ ap (whole n) (are_in_step (low to high) gs (drop (at + i) s))
    ∙ ap (λ (r : List ℕ). whole n (are_in ((low to high) ∷ []) (drop (at + i) s) && are_in gs r)) d
    ∙ ap (λ (u : Bool). whole n (u && are_in gs (drop (at + (i + 1)) s))) (sym e)

are_in_room : (g : Range) (s : List ℕ) → are_in (g ∷ []) s ≡ true → 0 < length s
unfolding are_in
are_in_room g [] e = let z : ◌≡◌ {A = ℕ} 0 1 = cc in absurd (omega arith)
are_in_room g (b ∷ s) e = omega arith

module _ {s : List ℕ} {at : ℕ} where
  pub behind-start : {n low high : ℕ} → at < length s → follow (get_or s at 0) ≡ behind_first n low high → Behind s at n 1 low high
  behind-start {n} {low} {high} h e =
      record { is = ap (λ (f : Follow). sequence_by f (drop (at + 1) s)) e ∙ sequence-by n low high (drop (at + 1) s); inside = omega arith }

  module _ {n i low high : ℕ} {t : Bool} where
    pub behind-on : Behind s at n i low high → i < n → t ≡ are_in ((low to high) ∷ []) (drop (at + i) s) → not t ≡ false → Behind s at n (i + 1) 0x80 0xbf
    behind-on inv h e y =
        let m : 0 < length (drop (at + i) s) = are_in_room (low to high) (drop (at + i) s) (sym e ∙ not-false t y) in
        let is = rw (not-false t y) at (behind-next s at n i low high t inv h e) in
        record { is = is; inside = omega (arith, length-drop (at + i) s) }

    pub behind-bad : Behind s at n i low high → i < n → t ≡ are_in ((low to high) ∷ []) (drop (at + i) s) → not t ≡ true → Sequence s at 0
    unfolding whole
    behind-bad inv h e y =
        let is = rw (not-true t y) at (behind-next s at n i low high t inv h e) in
        record { is = sym is; inside = omega (arith, inv.inside) }

  pub behind-end : {n i low high : ℕ} → Behind s at n i low high → n ≤ i → Sequence s at n
  unfolding whole ranges are_in
  behind-end {n} {i} {low} {high} inv h =
      let z : n - i ≡ 0 = omega arith in
      record { is = sym (inv.is ∙ ap (λ (k : ℕ). whole n (are_in (ranges k low high) (drop (at + i) s))) z); inside = omega (arith, inv.inside) }

-- The walk from sequence to sequence: k bytes may be passed at once.
first-bad-skip : (k : ℕ) (s : List ℕ) → k ≤ length s → first_bad_from k s ≡ k + first_bad_from 0 (drop k s)
unfolding first_bad_from
first-bad-skip zero s h = omega arith
first-bad-skip (suc k) [] h = absurd (omega arith)
first-bad-skip (suc k) (b ∷ s) h = let e = first-bad-skip k s (omega arith) in omega arith

pub first-bad_stop : (b : ℕ) (s : List ℕ) → sequence_by (follow b) s ≡ 0 → first_bad_from 0 (b ∷ s) ≡ 0
unfolding first_bad_from
first-bad_stop b s e = rw (e, first_bad_from)

pub first-bad-on : (b k : ℕ) (s : List ℕ) → sequence_by (follow b) s ≡ suc k → first_bad_from 0 (b ∷ s) ≡ suc (first_bad_from k s)
unfolding first_bad_from
first-bad-on b k s e = rw (e, first_bad_from)

-- the loop: the first bad sequence of what is left is that of the whole
pub record Walked (s : List ℕ) (at : ℕ) : Type 0 where
  pub inside : at ≤ length s
  pub same : at + first_bad (drop at s) ≡ first_bad s

pub walk_start : {s : List ℕ} → Walked s 0
walk_start {s} = record { inside = omega arith; same = omega arith }

module _ {s : List ℕ} {at : ℕ} where
  walk_by : (n : ℕ) → Walked s at → at < length s → sequence_by (follow (get_or s at 0)) (drop (at + 1) s) ≡ n → (n ≡ 0 → ⊥) → at + n ≤ length s → Walked s (at + n)
  unfolding first_bad
  walk_by zero inv h e nz r = absurd (nz refl)
  walk_by (suc k) inv h e nz r =
      let f = ap (first_bad_from 0) (front s at h) ∙ first-bad-on (get_or s at 0) k (drop (at + 1) s) e in
      let le : k ≤ length (drop (at + 1) s) = simp length-drop (omega arith) in
      let g = first-bad-skip k (drop (at + 1) s) le in
      let a : at + 1 + k ≡ at + suc k = omega arith in
      let d : drop k (drop (at + 1) s) ≡ drop (at + suc k) s = drop-drop k (at + 1) s ∙ ap (λ (m : ℕ). drop m s) a in
      record { inside = r; same = omega (arith, ap (first_bad_from 0) d, inv.same) }

  pub walk_ascii : Walked s at → at < length s → get_or s at 0 < 0x80 → Walked s (at + 1)
  unfolding behind_first ranges sequence_by are_in
  walk_ascii inv h l = walk_by 1 inv h (ap (λ (f : Follow). sequence_by f (drop (at + 1) s)) (lead_ascii l)) (omega arith) (omega arith)

  pub walk_on : {n : ℕ} → Walked s at → at < length s → Sequence s at n → (n ≡ 0 → ⊥) → Walked s (at + n)
  walk_on {n} inv h q nz = walk_by n inv h (sym q.is) nz q.inside

  pub walk_bad : {n : ℕ} → Walked s at → at < length s → Sequence s at n → n ≡ 0 → at ≡ first_bad s
  unfolding first_bad
  walk_bad {n} inv h q z =
      let e : sequence_by (follow (get_or s at 0)) (drop (at + 1) s) ≡ 0 = sym q.is ∙ z in
      let f = ap (first_bad_from 0) (front s at h) ∙ first-bad_stop (get_or s at 0) (drop (at + 1) s) e in
      omega (arith, inv.same)

  pub walk_end : Walked s at → length s ≤ at → at ≡ first_bad s
  unfolding first_bad first_bad_from
  walk_end inv h = let f = ap first_bad (drop_of_length-le s h) in omega (arith, inv.same)
