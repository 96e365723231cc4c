-- Of the code: items that are passed over by their initial byte. What is said of them holds where they are seen to be such, and no more is said.
use Rattle.std.specs.Prelude.{ℕ, ◌+◌, ◌/◌, ◌%◌, ◌≤◌, ◌<◌, ◌≡◌, List, Bool, true, false, ltb, eqb, length, get_or}
use Rattle.head.specs.HeadAnswers.{argument_size}

-- all bits of a byte, or none
unfoldable pub all_bits : Bool → ℕ
all_bits true = 255
all_bits false = 0

-- the bytes of its string, if a leaf is one
unfoldable pub leaf_content : ℕ → ℕ
leaf_content b = elim (eqb (b / 64) 1) [ true ↦ b % 32 | false ↦ 0 ]

-- the size of a leaf
unfoldable pub leaf_size : ℕ → ℕ
leaf_size b = 1 + (leaf_content b + argument_size (b % 32))

-- what an initial byte of a leaf is: of a number, or with an argument below 24 of a string or a simple value
unfoldable pub is_leaf : ℕ → Bool
is_leaf b =
    elim (eqb (b / 64) 0) [
      | true ↦ ltb (b % 32) 28
      | false ↦ elim (ltb (b % 32) 24) [ true ↦ elim (eqb (b / 64) 1) [ true ↦ true | false ↦ eqb (b / 32) 7 ] | false ↦ false ]
    ]

pub record LeafSize (b r : ℕ) : Type 0 where
  pub is : r < 0x80 → r ≡ leaf_size b
  pub leaf : r < 0x80 → is_leaf b ≡ true
  pub byte : b < 256

pub record LeafContent (b r : ℕ) : Type 0 where
  pub is : r ≡ leaf_content b
  pub small : r < 32

pub record LeafAt (s : List ℕ) (at r : ℕ) : Type 0 where
  pub is : r < 0x80 → LeafSize (get_or s at 0) r

-- a byte b at a place i below n is at most r
pub record Bounded (b i n r : ℕ) : Type 0 where
  pub is : i < n → b ≤ r

-- behind the byte at a place, none of those before place i of the item, and before n, is above m
pub record Topped (s : List ℕ) (at n i m : ℕ) : Type 0 where
  pub is : (j : ℕ) → 0 < j → j < i → j < n → get_or s (at + j) 0 ≤ m

-- if t, a block stands behind the byte at a place
pub record Blocked (s : List ℕ) (at : ℕ) (t : Bool) : Type 0 where
  pub is : t ≡ true → at + 33 ≤ length s

-- if t, an item of n bytes fits into the byte at a place and the block behind it, and if it is a text its bytes are ASCII
pub record Right (s : List ℕ) (at n : ℕ) (t : Bool) : Type 0 where
  pub small : t ≡ true → n < 0x80
  pub inside : t ≡ true → at + 33 ≤ length s
  pub text : t ≡ true → get_or s at 0 / 32 ≡ 3 → (j : ℕ) → 0 < j → j < 33 → j < n → get_or s (at + j) 0 < 0x80
