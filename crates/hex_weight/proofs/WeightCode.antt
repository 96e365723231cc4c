-- The byte that two digits side by side make, by what each adds to it.
-- Assumes nothing.
use mathlib.Core.Path.{◌≡◌, refl, ap}
use mathlib.Core.List.{List}
use mathlib.Core.Bool.{Bool, true, false}
use Prim.Native.Nat.{ℕ, zero, suc, ◌+◌, ◌*◌, ◌≤◌, ◌<◌}
use native.Mathlib.Numerals.{add-one}
use native.Mathlib.Omega.{arith}
use lib.ListN.{get_or}
use Rattle.notation.specs.Numbers.{is_digit, digit_value}
use Rattle.hex_weight.specs.Weights.{pair_weight, Weighs, PairThere}

pub weight_digit : (b : ℕ) → pair_weight b < 256 → (is_digit 16 b ≡ true) × (pair_weight b ≡ digit_value b)
unfolding pair_weight
weight_digit b = go (is_digit 16 b) refl
  where
    go : (t : Bool) → is_digit 16 b ≡ t → elim t [ true ↦ digit_value b | false ↦ 256 ] < 256 → (is_digit 16 b ≡ true) × (◌≡◌ {A = ℕ} (elim t [ true ↦ digit_value b | false ↦ 256 ]) (digit_value b))
    go true e h = (e, refl)
    go false e h = absurd (omega arith)

pub weighed : List ℕ → ℕ → ℕ → ℕ
weighed s at zero = 0
weighed s at (suc k) = weighed s at k * 16 + pair_weight (get_or s (at + k) 0)

pub record Weighed (s : List ℕ) (at k w : ℕ) : Type 0 where
  pub is : w < 256 → w ≡ weighed s at k
  pub most : k ≤ 2
  pub small : k < 2 → w ≤ 512 * k

pub weighed_start : (s : List ℕ) (at : ℕ) → Weighed s at 0 0
unfolding weighed
weighed_start s at = record { is = λ h. refl; most = omega arith; small = λ h. omega arith }

module _ {s : List ℕ} {at k w : ℕ} (inv : Weighed s at k w) where
  module _ (h : k < 2) where
    module _ {v : ℕ} (x : Weighs (get_or s (at + k) 0) v) where
      next_is : w * 16 + v < 256 → w * 16 + v ≡ weighed s at (suc k)
      unfolding weighed
      next_is l = let a = inv.is (omega arith) in let b = x.is (omega arith) in λ i. a i * 16 + b i

      pub weighed_on : Weighed s at (k + 1) (w * 16 + v)
      weighed_on = record { is = rw (add-one k) next_is; most = omega arith; small = grows }
        where
          grows : k + 1 < 2 → w * 16 + v ≤ 512 * (k + 1)
          grows l = omega (arith, inv.small h, x.most)

  pub weighed_end : 2 ≤ k → PairThere s at w
  unfolding weighed
  weighed_end l =
      let e : k ≡ 2 = omega (arith, inv.most) in
      let z : at + 0 ≡ at = omega arith in
      let f : weighed s at k ≡ (0 * 16 + pair_weight (get_or s (at + 0) 0)) * 16 + pair_weight (get_or s (at + 1) 0) = ap (weighed s at) e in
      let g : pair_weight (get_or s (at + 0) 0) ≡ pair_weight (get_or s at 0) = ap (λ (i : ℕ). pair_weight (get_or s i 0)) z in
      record { is = λ u. omega (arith, inv.is u) }
