-- Digits, laid one behind the other.
-- Assumes nothing.
use mathlib.Core.Path.{◌≡◌, refl, sym, ap, ◌∙◌}
use mathlib.Core.Bool.{Bool, true, false}
use mathlib.Core.List.{List, [], ◌∷◌, ◌++◌, append_assoc, append-nil}
use Prim.Native.Nat.{ℕ, zero, suc, ◌+◌, ◌/◌, ◌%◌, ◌^◌, ◌≤◌, ◌<◌}
use native.Mathlib.Omega.{arith}
use lib.Dec.{eqb, leb}
use lib.ListN.{length, set}
use borrow.Author.Tests.{eq-eqb, ne_eqb, eqb-true, eqb-false, leb-true, leb-false}
use Rattle.notation.specs.Printing.{decimal_of}
use Rattle.decimal_output.proofs.DecimalCode.{decimal-one, decimal-more}
use Rattle.leaf_written.specs.Laying.{Laid}
use Rattle.leaf_written.proofs.LayCode.{laid-set, laid_more, laid_as, laid-drop}
use Rattle.leaf_integer.specs.Digits.{digit_of, tail_of}

-- the digits of q; none of 0
unfoldable front_of : ℕ → List ℕ
front_of q = elim (eqb q 0) [ true ↦ [] | false ↦ decimal_of q ]

front-none : (q : ℕ) → q ≡ 0 → front_of q ≡ []
unfolding front_of
front-none q e = rw (eq-eqb q 0 e, front_of)

front-some : (q : ℕ) → (q ≡ 0 → ⊥) → front_of q ≡ decimal_of q
unfolding front_of
front-some q e = rw (ne_eqb q 0 e, front_of)

digit-none : (q : ℕ) → q ≡ 0 → digit_of q ≡ []
unfolding digit_of
digit-none q e = rw (eq-eqb q 0 e, digit_of)

digit-some : (q : ℕ) → (q ≡ 0 → ⊥) → digit_of q ≡ (0x30 + q % 10) ∷ []
unfolding digit_of
digit-some q e = rw (ne_eqb q 0 e, digit_of)

decimal-front : (n : ℕ) → decimal_of n ≡ front_of (n / 10) ++ (0x30 + n % 10) ∷ []
decimal-front n = by (leb 10 n) refl
  where
    by : (t : Bool) → leb 10 n ≡ t → decimal_of n ≡ front_of (n / 10) ++ (0x30 + n % 10) ∷ []
    by true e = let h = leb-true 10 n e in decimal-more n h ∙ ap (λ (x : List ℕ). x ++ (0x30 + n % 10) ∷ []) (sym (front-some (n / 10) (omega arith)))
    by false e =
        let h = leb-false 10 n e in
        let m : n ≡ n % 10 = omega arith in
        decimal-one n h ∙ ap (λ (k : ℕ). (0x30 + k) ∷ []) m ∙ ap (λ (x : List ℕ). x ++ (0x30 + n % 10) ∷ []) (sym (front-none (n / 10) (omega arith)))

front-more : (q : ℕ) → front_of q ≡ front_of (q / 10) ++ digit_of q
front-more q = by (eqb q 0) refl
  where
    by : (t : Bool) → eqb q 0 ≡ t → front_of q ≡ front_of (q / 10) ++ digit_of q
    by true e =
        let z = eqb-true q 0 e in
        front-none q z ∙ sym (front-none (q / 10) (omega arith)) ∙ sym (append-nil (front_of (q / 10))) ∙ ap (λ (x : List ℕ). front_of (q / 10) ++ x) (sym (digit-none q z))
    by false e = let z = eqb-false q 0 e in front-some q z ∙ decimal-front q ∙ ap (λ (x : List ℕ). front_of (q / 10) ++ x) (sym (digit-some q z))

ten_more : (n k : ℕ) → k ≤ 8 → n / 10 ^ suc k / 10 ≡ n / 10 ^ suc (suc k)
ten_more n zero h = omega arith
ten_more n (suc zero) h = omega arith
ten_more n (suc (suc zero)) h = omega arith
ten_more n (suc (suc (suc zero))) h = omega arith
ten_more n (suc (suc (suc (suc zero)))) h = omega arith
ten_more n (suc (suc (suc (suc (suc zero))))) h = omega arith
ten_more n (suc (suc (suc (suc (suc (suc zero)))))) h = omega arith
ten_more n (suc (suc (suc (suc (suc (suc (suc zero))))))) h = omega arith
ten_more n (suc (suc (suc (suc (suc (suc (suc (suc zero)))))))) h = omega arith
ten_more n (suc (suc (suc (suc (suc (suc (suc (suc (suc k))))))))) h = absurd (omega arith)

front_tail : (k n : ℕ) → k ≤ 9 → decimal_of n ≡ front_of (n / 10 ^ suc k) ++ tail_of k n
unfolding tail_of
front_tail zero n h = decimal-front n
front_tail (suc k) n h =
    front_tail k n (omega arith) ∙ ap (λ (x : List ℕ). x ++ tail_of k n) (front-more (n / 10 ^ suc k) ∙ ap (λ (q : ℕ). front_of q ++ digit_of (n / 10 ^ suc k)) (ten_more n k (omega arith)))
    ∙ append_assoc (front_of (n / 10 ^ suc (suc k))) (digit_of (n / 10 ^ suc k)) (tail_of k n)

-- a number of at most k + 1 digits
pub decimal_tail : (k n : ℕ) → k ≤ 9 → n / 10 ^ suc k ≡ 0 → tail_of k n ≡ decimal_of n
decimal_tail k n h e = sym (front_tail k n h ∙ ap (λ (x : List ℕ). x ++ tail_of k n) (front-none (n / 10 ^ suc k) e))

module _ (b : List ℕ) (pos : ℕ) (h : pos < length b) where
  pub units_laid : (n : ℕ) → Laid b (set b pos (0x30 + n % 10)) pos (tail_of 0 n) (pos + 1)
  unfolding tail_of
  units_laid n = laid-set b pos (0x30 + n % 10) h

  pub digit-laid : (q : ℕ) → (q ≡ 0 → ⊥) → Laid b (set b pos (0x30 + q % 10)) pos (digit_of q) (pos + 1)
  digit-laid q e = laid_as (laid-set b pos (0x30 + q % 10) h) (sym (digit-some q e))

  pub digit_not : (q : ℕ) → q ≡ 0 → Laid b (set b pos (0x30 + q % 10)) pos (digit_of q) pos
  digit_not q e = laid_as (laid-drop b pos (0x30 + q % 10) h) (sym (digit-none q e))

pub ruleset digit_ways = (digit-laid, digit_not)

-- one digit before others
pub tail_more : (k n : ℕ) {b b₁ b₂ : List ℕ} {pos p r : ℕ} → Laid b b₁ pos (digit_of (n / 10 ^ suc k)) p → Laid b₁ b₂ p (tail_of k n) r → Laid b b₂ pos (tail_of (suc k) n) r
unfolding tail_of
tail_more k n x y = laid_more x y
