-- From the papers: the argument of a head: where it stands, and how (RFC 8949, section 3).
use Rattle.std.specs.Prelude.{ℕ, zero, suc, ◌+◌, ◌*◌, ◌/◌, ◌%◌, List, [], ◌∷◌, ◌++◌, Bool, true, false, leb}

-- in the additional information itself, or in the 1, 2, 4 or 8 bytes behind it
pub data Width : Type 0 where
  w0 w1 w2 w4 w8 : Width

unfoldable pub argument_bytes : Width → ℕ
argument_bytes w0 = 0
argument_bytes w1 = 1
argument_bytes w2 = 2
argument_bytes w4 = 4
argument_bytes w8 = 8

-- the largest argument of a width
unfoldable pub limit : Width → ℕ
limit w0 = 23
limit w1 = 0xff
limit w2 = 0xffff
limit w4 = 0xffff_ffff
limit w8 = 0xffff_ffff_ffff_ffff

unfoldable pub fits : Width → ℕ → Bool
fits w n = leb n (limit w)

-- the shortest width that holds n ("No indicator: shortest head")
unfoldable pub shortest : ℕ → Width
shortest n = elim (fits w0 n) [ true ↦ w0 | false ↦ elim (fits w1 n) [ true ↦ w1 | false ↦ elim (fits w2 n) [ true ↦ w2 | false ↦ elim (fits w4 n) [ true ↦ w4 | false ↦ w8 ] ] ] ]

-- the additional information of a head with the argument n in the width w: n itself, or 24 to 27
unfoldable pub information : Width → ℕ → ℕ
information w0 n = n
information w1 n = 24
information w2 n = 25
information w4 n = 26
information w8 n = 27

-- n in k bytes, high byte first
unfoldable pub big_endian : ℕ → ℕ → List ℕ
big_endian zero n = []
big_endian (suc k) n = big_endian k (n / 256) ++ (n % 256) ∷ []

-- the number that bytes make, high byte first, behind those already read, which make v
unfoldable pub value_from : ℕ → List ℕ → ℕ
value_from v [] = v
value_from v (b ∷ s) = value_from (v * 256 + b) s
