-- Of the code: decimal digits, place by place.
use Rattle.std.specs.Prelude.{ℕ, zero, suc, ◌+◌, ◌/◌, ◌%◌, ◌^◌, true, false, List, [], ◌∷◌, ◌++◌, eqb}

-- the last digit of q; none of 0
unfoldable pub digit_of : ℕ → List ℕ
digit_of q = elim (eqb q 0) [ true ↦ [] | false ↦ (0x30 + q % 10) ∷ [] ]

-- the last k + 1 digits of n, and no zeros before its first
unfoldable pub tail_of : ℕ → ℕ → List ℕ
tail_of zero n = (0x30 + n % 10) ∷ []
tail_of (suc k) n = digit_of (n / 10 ^ suc k) ++ tail_of k n
