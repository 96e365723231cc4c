-- For definitions and examples: ASCII texts as bytes, so that definitions and examples can quote them.
use Rattle.std.specs.Prelude.{ℕ, zero, suc, List, [], ◌∷◌}
use Prim.Native.Char.{code}
use Prim.Native.String.{String, len, char_at}

abbrev pub ascii_from : ℕ → ℕ → String → List ℕ
ascii_from zero i t = []
ascii_from (suc n) i t = code (char_at t i) ∷ ascii_from n (suc i) t

abbrev pub ascii : String → List ℕ
ascii t = ascii_from (len t) 0 t
