-- Integers whose heads are the shortest.
-- Assumes nothing.
use mathlib.Core.Path.{◌≡◌, refl, sym, ap, ◌∙◌}
use mathlib.Core.Bool.{Bool, true, false}
use mathlib.Core.List.{List, [], ◌∷◌, ◌++◌, append-nil}
use Prim.Native.Nat.{ℕ, zero, suc, ◌+◌, ◌*◌, ◌/◌, ◌%◌, ◌^◌, ◌≤◌, ◌<◌}
use native.Mathlib.Nat.{pow-suc, add-zero}
use native.Mathlib.Numerals.{add-one}
use native.Mathlib.Omega.{arith}
use lib.Dec.{eqb}
use lib.ListN.{length, take, drop, set, get_or, length-drop}
use lib.Seq.{take-suc, get_or-drop}
use mir.Syntax.{w64 as bits64}
use mir.Val.{Fits}
use borrow.Author.Tests.{eqb-true, eqb-false}
use Rattle.cbor.specs.Refusals.{ok}
use Rattle.cbor.specs.Widths.{Width, w0, w1, w2, w4, argument_bytes, shortest, value_from}
use Rattle.cbor.specs.Items.{int, definite}
use Rattle.cbor.specs.Flags.{sign_of}
use Rattle.cbor.specs.Heads.{Major, integers, major_of, argument, information_of, is_float, is_allowed, started}
use Rattle.cbor.specs.Decode.{item_by, item}
use Rattle.cbor.proofs.Arguments.{value_snoc}
use Rattle.cbor.proofs.DecodeEncode.{enter_at}
use Rattle.notation.specs.Printing.{decimal_of, print_int, print_item}
use Rattle.leaf_kind.specs.LeafKinds.{KindOf}
use Rattle.leaf_kind.specs.declared.Kind.TheVariants.{Small, One, Two, Four}
use Rattle.leaf_kind.proofs.KindCode.{small_is, one-is, two_is, four_is}
use Rattle.leaf_written.specs.Laying.{Laid}
use Rattle.leaf_written.specs.LeafTexts.{Room, LeafTold}
use Rattle.std.specs.declared.option.Option.TheVariants.{Some}
use Rattle.leaf_written.proofs.LayCode.{laid-set, laid_more, laid_as, laid-drop}
use Rattle.leaf_written.proofs.LeafCode.{low-information, indicator-none, shortest_0, shortest_1, shortest_2, shortest_4, argument_in, item_plain, told-leaf}
use Rattle.leaf_integer.specs.Digits.{tail_of}
use Rattle.leaf_integer.proofs.DigitCode.{decimal_tail}
use Rattle.leaf_integer.specs.IntegerParts.{minus_of, More, Valued, Signed}

-- THE SIGN

module _ (b : List ℕ) (pos major : ℕ) (h : pos < length b) (l : major ≤ 1) where
  pub sign_laid : Laid b (set b pos 0x2d) pos (minus_of major) (pos + major)
  unfolding minus_of
  sign_laid = by (eqb major 0) refl
    where
      by : (t : Bool) → eqb major 0 ≡ t → Laid b (set b pos 0x2d) pos (elim t [ true ↦ [] | false ↦ 0x2d ∷ [] ]) (pos + major)
      by true e = let z : pos + major ≡ pos = omega (arith, eqb-true major 0 e) in rw z (laid-drop b pos 0x2d h)
      by false e = let z : pos + major ≡ pos + 1 = omega (arith, eqb-false major 0 e) in rw z (laid-set b pos 0x2d h)

-- NUMBERS IN BYTES

pub value-none : {s : List ℕ} {from : ℕ} → Valued s from 0 0
unfolding value_from
value-none = record { is = refl; small = omega arith }

pub value-more : {s : List ℕ} {from k n r : ℕ} → from + k < length s → Valued s from k n → More n (get_or s (from + k) 0) r → Valued s from (k + 1) r
value-more {s} {from} {k} {n} {r} h v m =
    let t = drop from s in
    let b = get_or s (from + k) 0 in
    let l : k < length t = omega (arith, length-drop from s) in
    let e : take (k + 1) t ≡ take k t ++ b ∷ [] = rw add-one (take-suc t k 0 l ∙ ap (λ (x : ℕ). take k t ++ x ∷ []) (get_or-drop from s k 0)) in
    let p : 256 ^ (k + 1) ≡ 256 ^ k * 256 = rw add-one (pow-suc 256 k) in
    record {
      is = m.is ∙ ap (λ (x : ℕ). x * 256 + b) v.is ∙ sym (value_snoc 0 (take k t) b) ∙ ap (value_from 0) (sym e);
      small = omega (arith, m.is, m.byte, v.small);
    }

-- of few bytes
value-few : {s : List ℕ} {from k n : ℕ} → Valued s from k n → k ≤ 4 → n < 0x1_0000_0000
value-few {k = zero} v h = omega (arith, v.small)
value-few {k = suc zero} v h = omega (arith, v.small)
value-few {k = suc (suc zero)} v h = omega (arith, v.small)
value-few {k = suc (suc (suc zero))} v h = omega (arith, v.small)
value-few {k = suc (suc (suc (suc zero)))} v h = omega (arith, v.small)
value-few {k = suc (suc (suc (suc (suc k))))} v h = absurd (omega arith)

pub value-few-more : {s : List ℕ} {from k m n : ℕ} → Valued s from k n → k < m → m ≤ 4 → n < 256 ^ 7
value-few-more v h l = omega (arith, value-few v (omega arith))

pub sum-fits : {s : List ℕ} {from k n m : ℕ} → Valued s from k n → k ≤ 4 → m ≤ 1 → Fits bits64 (n + m)
sum-fits v h l = record { fits = omega (arith, value-few v h) }

-- ITEMS

int-major : (m : ℕ) → m ≤ 1 → major_of m ≡ integers (sign_of (eqb m 1))
unfolding major_of sign_of
int-major zero h = refl
int-major (suc zero) h = refl
int-major (suc (suc m)) h = absurd (omega arith)

int-text : (m : ℕ) → m ≤ 1 → (w : Width) (n : ℕ) → shortest n ≡ w → minus_of m ++ decimal_of (n + m) ≡ print_int (sign_of (eqb m 1)) w n
unfolding minus_of sign_of print_int
int-text zero h w n e = ap decimal_of (add-zero n) ∙ sym (append-nil (decimal_of n)) ∙ ap (λ (x : List ℕ). decimal_of n ++ x) (sym (indicator-none w n e))
int-text (suc zero) h w n e =
    let z : n + 1 ≡ suc n = omega arith in
    ap (λ (x : List ℕ). 0x2d ∷ x) (ap decimal_of z ∙ sym (append-nil (decimal_of (suc n))) ∙ ap (λ (x : List ℕ). decimal_of (suc n) ++ x) (sym (indicator-none w n e)))
int-text (suc (suc m)) h w n e = absurd (omega arith)

module _ {s : List ℕ} {at : ℕ} {b b₁ b₂ : List ℕ} {pos p q : ℕ} where
  int-told : (w : Width) (k n e : ℕ) → get_or s at 0 / 64 ≡ 0 → information_of (get_or s at 0 % 32) ≡ argument w → n ≡ argument_in w (get_or s at 0) (drop (at + 1) s) → shortest n ≡ w → e ≡ at + 1 + argument_bytes w → e ≤ length s
      → k ≤ 9 → (n + get_or s at 0 / 32) / 10 ^ suc k ≡ 0 → Laid b b₁ pos (minus_of (get_or s at 0 / 32)) p → Laid b₁ b₂ p (tail_of k (n + get_or s at 0 / 32)) q → LeafTold s at b b₂ pos (Some (record { end = e; pos = q }))
  unfolding item_by is_float is_allowed print_item
  int-told w k n e h i a sh ee l kk dd x y =
      let m = get_or s at 0 / 32 in
      let u : m ≤ 1 = omega arith in
      let g = int-major m u in
      let r : (d : ℕ) → item d (drop at s) ≡ ok (int (sign_of (eqb m 1)) w n) (drop e s) = λ d.
      item_plain s at w (omega arith) i (ap (λ (z : Major). is_float z w) g) (ap (λ (z : Major). is_allowed z w (argument_in w (get_or s at 0) (drop (at + 1) s))) g) d
      ∙ ap (λ (z : Major). item_by (enter_at d) z (definite w) (argument_in w (get_or s at 0) (drop (at + 1) s)) (length (drop at s)) (drop (at + 1 + argument_bytes w) s)) g
      ∙ (λ j. ok (int (sign_of (eqb m 1)) w (sym a j)) (drop (sym ee j) s)) in
      told-leaf (int (sign_of (eqb m 1)) w n) r l (laid_as (laid_more x y) (ap (λ (z : List ℕ). minus_of m ++ z) (decimal_tail k (n + m) kk dd) ∙ int-text m u w n sh))

-- the major type of an integer
module _ {b : ℕ} where
  pub small-most : KindOf b Small → b / 32 ≤ 1
  small-most k = let f = (small_is k).0 in omega arith

  pub one-most : KindOf b One → b / 32 ≤ 1
  one-most k = let f = (one-is k).0 in omega arith

  pub two_most : KindOf b Two → b / 32 ≤ 1
  two_most k = let f = (two_is k).0 in omega arith

  pub four-most : KindOf b Four → b / 32 ≤ 1
  four-most k = let f = (four_is k).0 in omega arith

pub ruleset major_most = (small-most, one-most, two_most, four-most)

module _ {s : List ℕ} {at : ℕ} {b b₁ b₂ : List ℕ} {pos p q : ℕ} (rm : Room s at b pos) where
  pub small-told : KindOf (get_or s at 0) Small → Laid b b₁ pos (minus_of (get_or s at 0 / 32)) p → Laid b₁ b₂ p (tail_of 1 (get_or s at 0 % 32 + get_or s at 0 / 32)) q → LeafTold s at b b₂ pos (Some (record { end = at + 1; pos = q }))
  unfolding argument_bytes started value_from
  small-told k x y =
      let f = small_is k in
      let n = get_or s at 0 % 32 in
      int-told w0 1 n (at + 1) f.0 (low-information n f.1) refl (shortest_0 n f.1) (omega arith) (omega (arith, rm.block)) (omega arith) (omega arith) x y

  module _ {n : ℕ} where
    pub one_told : KindOf (get_or s at 0) One → Signed s at 1 24 b b₁ pos n p → Laid b₁ b₂ p (tail_of 2 n) q → LeafTold s at b b₂ pos (Some (record { end = at + 2; pos = q }))
    unfolding argument_bytes started information_of
    one_told k x y =
        let f = one-is k in
        let v = x.valued in
        int-told w1 2 x.argument (at + 2) f.0 (ap information_of f.1) v.is (shortest_1 x.argument x.enough (omega (arith, v.small))) (omega arith) (omega (arith, rm.block)) (omega arith) (omega (arith, v.small)) x.laid
        (rw x.is at y)

    pub two_told : KindOf (get_or s at 0) Two → Signed s at 2 0x100 b b₁ pos n p → Laid b₁ b₂ p (tail_of 4 n) q → LeafTold s at b b₂ pos (Some (record { end = at + 3; pos = q }))
    unfolding argument_bytes started information_of
    two_told k x y =
        let f = two_is k in
        let v = x.valued in
        int-told w2 4 x.argument (at + 3) f.0 (ap information_of f.1) v.is (shortest_2 x.argument x.enough (omega (arith, v.small))) (omega arith) (omega (arith, rm.block)) (omega arith) (omega (arith, v.small)) x.laid
        (rw x.is at y)

    pub four-told : KindOf (get_or s at 0) Four → Signed s at 4 0x1_0000 b b₁ pos n p → Laid b₁ b₂ p (tail_of 9 n) q → LeafTold s at b b₂ pos (Some (record { end = at + 5; pos = q }))
    unfolding argument_bytes started information_of
    four-told k x y =
        let f = four_is k in
        let v = x.valued in
        int-told w4 9 x.argument (at + 5) f.0 (ap information_of f.1) v.is (shortest_4 x.argument x.enough (omega (arith, v.small))) (omega arith) (omega (arith, rm.block)) (omega arith) (omega (arith, v.small)) x.laid
        (rw x.is at y)
