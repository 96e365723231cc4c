-- Typed arrays in code.
-- Assumes nothing.
use Prim.Native.Nat.{ℕ, ◌+◌, ◌/◌, ◌%◌, ◌^◌, ◌≤◌, ◌<◌}
use native.Mathlib.Omega.{arith}
use mathlib.Core.Path.{◌≡◌, refl}
use mathlib.Core.Bool.{Bool, true, false}
use lib.Dec.{eqb}
use borrow.Author.Tests.{le-leb, lt-leb, eq-eqb, ne_eqb}
use Rattle.cbor.specs.TypedArrays.{element_size, is_typed_array, asked}
use Rattle.typed_array.specs.TypedArrayAnswers.{ElementSize, may_tag_by}

module _ (n : ℕ) where
  element : (e r : ℕ) → n / 16 % 2 + n % 4 ≡ e → r ≡ 2 ^ e → 0 < r → ElementSize n r
  unfolding element_size
  element e r h i p = record { is = rw (h) i; some = p }

  pub element_one : n / 16 % 2 + n % 4 ≡ 0 → ElementSize n 1
  element_one h = element 0 1 h refl (omega arith)

  pub element_two : n / 16 % 2 + n % 4 ≡ 1 → ElementSize n 2
  element_two h = element 1 2 h refl (omega arith)

  pub element_four : n / 16 % 2 + n % 4 ≡ 2 → ElementSize n 4
  element_four h = element 2 4 h refl (omega arith)

  pub element_eight : n / 16 % 2 + n % 4 ≡ 3 → ElementSize n 8
  element_eight h = element 3 8 h refl (omega arith)

  pub element_sixteen : (n / 16 % 2 + n % 4 ≡ 0 → ⊥) → (n / 16 % 2 + n % 4 ≡ 1 → ⊥) → (n / 16 % 2 + n % 4 ≡ 2 → ⊥) → (n / 16 % 2 + n % 4 ≡ 3 → ⊥) → ElementSize n 16
  element_sixteen a b c d = element 4 16 (omega arith) refl (omega arith)

pub ruleset element_ways = (element_one, element_two, element_four, element_eight, element_sixteen)

typed : (n : ℕ) → 64 ≤ n → n ≤ 87 → is_typed_array n ≡ true
unfolding is_typed_array
typed n g h = rw (le-leb 64 n g) (rw (le-leb n 87 h))

module _ (n : ℕ) (bytes : Bool) (l : ℕ) where
  pub may-low : n < 64 → true ≡ may_tag_by n bytes l
  unfolding may_tag_by is_typed_array
  may-low h = simp (may_tag_by, asked, is_typed_array, lt-leb 64 n h)

  module _ (g : 64 ≤ n) where
    pub may-high : 87 < n → true ≡ may_tag_by n bytes l
    unfolding may_tag_by is_typed_array
    may-high h = simp (may_tag_by, asked, is_typed_array, le-leb 64 n g, lt-leb n 87 h)

    module _ (h : n ≤ 87) where
      pub may-reserved : n ≡ 76 → false ≡ may_tag_by n bytes l
      unfolding may_tag_by
      may-reserved e = rw (typed n g h, asked) (rw (eq-eqb n 76 e))

      module _ (e : n ≡ 76 → ⊥) where
        pub may-other : bytes ≡ false → false ≡ may_tag_by n bytes l
        unfolding may_tag_by
        may-other m = rw (typed n g h, asked) (rw (ne_eqb n 76 e) (rw m))

        pub may-bytes : {z : ℕ} → bytes ≡ true → ElementSize n z → eqb (l % z) 0 ≡ may_tag_by n bytes l
        unfolding may_tag_by
        may-bytes m z = rw z.is (rw (typed n g h, asked) (rw (ne_eqb n 76 e) (rw m)))
