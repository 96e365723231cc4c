-- From the papers: UTF-8 (RFC 3629).
use Rattle.std.specs.Prelude.{ℕ, zero, suc, List, [], ◌∷◌, Bool, true, false, ◌&&◌, leb, eqb, length}

pub record Range : Type 0 where
  pub low : ℕ
  pub high : ℕ

infixl 60 ◌to◌
abbrev pub ◌to◌ : ℕ → ℕ → Range
a to b = record { low = a; high = b }

unfoldable pub is_in : Range → ℕ → Bool
is_in g b = leb g.low b && leb b g.high

pub record Row : Type 0 where
  pub first : Range
  pub rest : List Range

-- The grammar of RFC 3629, section 4, a row for each alternative of UTF8-1, UTF8-2, UTF8-3, UTF8-4: what the first byte is, and
-- those behind it. No row has an overlong form, a surrogate or a number above 10FFFF.
unfoldable pub rows : List Row
rows =
    record { first = 0x00 to 0x7f; rest = [] }
    ∷ record { first = 0xc2 to 0xdf; rest = (0x80 to 0xbf) ∷ [] }
    ∷ record { first = 0xe0 to 0xe0; rest = (0xa0 to 0xbf) ∷ (0x80 to 0xbf) ∷ [] }
    ∷ record { first = 0xe1 to 0xec; rest = (0x80 to 0xbf) ∷ (0x80 to 0xbf) ∷ [] }
    ∷ record { first = 0xed to 0xed; rest = (0x80 to 0x9f) ∷ (0x80 to 0xbf) ∷ [] }
    ∷ record { first = 0xee to 0xef; rest = (0x80 to 0xbf) ∷ (0x80 to 0xbf) ∷ [] }
    ∷ record { first = 0xf0 to 0xf0; rest = (0x90 to 0xbf) ∷ (0x80 to 0xbf) ∷ (0x80 to 0xbf) ∷ [] }
    ∷ record { first = 0xf1 to 0xf3; rest = (0x80 to 0xbf) ∷ (0x80 to 0xbf) ∷ (0x80 to 0xbf) ∷ [] }
    ∷ record { first = 0xf4 to 0xf4; rest = (0x80 to 0x8f) ∷ (0x80 to 0xbf) ∷ (0x80 to 0xbf) ∷ [] }
    ∷ []

-- what must stand behind a first byte
pub data Follow : Type 0 where
  nothing : Follow
  these : List Range → Follow

unfoldable pub follow_in : List Row → ℕ → Follow
follow_in [] b = nothing
follow_in (w ∷ ws) b = elim (is_in w.first b) [ true ↦ these w.rest | false ↦ follow_in ws b ]

unfoldable pub follow : ℕ → Follow
follow b = follow_in rows b

unfoldable pub are_in : List Range → List ℕ → Bool
are_in [] s = true
are_in (g ∷ gs) [] = false
are_in (g ∷ gs) (b ∷ s) = is_in g b && are_in gs s

-- the length of the sequence that begins with b and goes on in s; 0: none does
unfoldable pub sequence_by : Follow → List ℕ → ℕ
sequence_by nothing s = 0
sequence_by (these gs) s = elim (are_in gs s) [ true ↦ suc (length gs) | false ↦ 0 ]

-- the place of the first bad sequence, the length where there is none; k bytes of the last sequence are still to be passed
unfoldable pub first_bad_from : ℕ → List ℕ → ℕ
first_bad_from k [] = 0
first_bad_from (suc k) (b ∷ s) = suc (first_bad_from k s)
first_bad_from zero (b ∷ s) = elim (sequence_by (follow b) s) [ zero ↦ 0 | suc k ↦ suc (first_bad_from k s) ]

unfoldable pub first_bad : List ℕ → ℕ
first_bad s = first_bad_from 0 s

unfoldable pub is_utf8 : List ℕ → Bool
is_utf8 s = eqb (first_bad s) (length s)
