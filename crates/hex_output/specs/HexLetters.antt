-- Of the code: a hexadecimal digit by adding.
use Rattle.std.specs.Prelude.{ℕ, true, false, ltb}

-- how far a hexadecimal digit stands behind where the decimal ones would go on
unfoldable pub letters_at : ℕ → ℕ
letters_at v = elim (ltb v 10) [ true ↦ 0 | false ↦ 39 ]
