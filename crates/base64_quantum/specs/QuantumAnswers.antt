-- Of the code: up to four letters of base64 text, and the bytes that they make.
use Rattle.std.specs.Prelude.{ℕ, zero, suc, ◌+◌, ◌*◌, ◌/◌, ◌%◌, ◌≤◌, ◌≡◌, List, [], ◌∷◌, Bool, true, false, ◌&&◌, eqb, leb, ltb, take}
use Rattle.notation.specs.Literals.{Content, stands_for, bad, after, Sextet, sextet, padding, non_alphabet, base64_from}
use Rattle.base64_quantum.specs.declared.Group.{Group}

-- the sextet of a number
unfoldable pub sextet_of : ℕ → Sextet
sextet_of n = elim (leb n 63) [ true ↦ sextet n | false ↦ elim (eqb n 64) [ true ↦ padding | false ↦ non_alphabet ] ]

-- the letters of a group
unfoldable pub waits : ℕ → Sextet → Sextet → Sextet → Sextet → List Sextet
waits zero a b c d = []
waits (suc zero) a b c d = a ∷ []
waits (suc (suc zero)) a b c d = a ∷ b ∷ []
waits (suc (suc (suc zero))) a b c d = a ∷ b ∷ c ∷ []
waits (suc (suc (suc (suc k)))) a b c d = a ∷ b ∷ c ∷ d ∷ []

unfoldable pub waiting_of : Group → List Sextet
waiting_of g = waits g.count (sextet_of g.a) (sextet_of g.b) (sextet_of g.c) (sextet_of g.d)

unfoldable pub all_sextets : Group → Bool
all_sextets g = leb g.a 63 && (leb g.b 63 && (leb g.c 63 && leb g.d 63))

-- r: the group is no four with values
pub record IsLast (g : Group) (r : Bool) : Type 0 where
  pub four : r ≡ false → (4 ≤ g.count) × (all_sextets g ≡ true)
  pub last : r ≡ true → 4 ≤ g.count → all_sextets g ≡ false

-- the bytes of a group
unfoldable pub first_byte : Group → ℕ
first_byte g = g.a % 64 * 4 + g.b % 64 / 16

unfoldable pub second_of : Group → ℕ
second_of g = g.b % 16 * 16 + g.c % 64 / 4

unfoldable pub third_of : Group → ℕ
third_of g = g.c % 4 * 64 + g.d % 64

unfoldable pub base64_bytes : Group → List ℕ
base64_bytes g = first_byte g ∷ second_of g ∷ third_of g ∷ []

-- so many bytes of a group go before what follows; more than 3: nothing does
unfoldable pub flowing : ℕ → Group → Content → Content
flowing n g c = elim (ltb 3 n) [ true ↦ bad | false ↦ after (take n (base64_bytes g)) c ]

unfoldable pub full_size : Group → ℕ
full_size g = elim (all_sextets g) [ true ↦ 3 | false ↦ 4 ]

unfoldable pub last_two_size : ℕ → ℕ → ℕ
last_two_size a b = elim (leb a 63 && (leb b 63 && eqb (b % 16) 0)) [ true ↦ 1 | false ↦ 4 ]

unfoldable pub last_three_size : ℕ → ℕ → ℕ → ℕ
last_three_size a b c = elim (leb a 63 && (leb b 63 && (leb c 63 && eqb (c % 4) 0))) [ true ↦ 2 | false ↦ 4 ]

unfoldable pub last_four_size : Group → ℕ
last_four_size g = elim (eqb g.d 64) [ true ↦ elim (eqb g.c 64) [ true ↦ last_two_size g.a g.b | false ↦ last_three_size g.a g.b g.c ] | false ↦ full_size g ]

-- the letters of a group are the last
pub record Last (g : Group) (r : ℕ) : Type 0 where
  pub is : g.count ≤ 4 → base64_from (waiting_of g) ≡ flowing r g (stands_for [])
  pub most : r ≤ 4
  pub short : r ≤ 3 → g.count ≤ 4 → r ≤ g.count
