-- From the papers: encoding indicators (document 01, Tokens: "Indicator").
use Rattle.std.specs.Prelude.{ℕ, List, [], ◌∷◌, true, false, eqb}
use Rattle.cbor.specs.Refusals.{Result, ok, bind}
use Rattle.cbor.specs.Widths.{Width, w0, w1, w2, w4, w8, fits, shortest}
use Rattle.notation.specs.Classes.{is_word}
use Rattle.notation.specs.Scanning.{run, whether}

-- none; `_` alone; a width; any other
pub data Indicator : Type 0 where
  absent indefinitely unknown : Indicator
  wide : Width → Indicator

-- "`_0` to `_3` are additional information 24 to 27, `_i` is 0 to 23"
unfoldable pub indicated : List ℕ → Indicator
indicated [] = indefinitely
indicated (b ∷ []) = elim (eqb b 0x69) [ true ↦ wide w0 | false ↦ elim (eqb b 0x30) [ true ↦ wide w1 | false ↦ elim (eqb b 0x31) [ true ↦ wide w2 | false ↦ elim (eqb b 0x32) [ true ↦ wide w4 | false ↦ elim (eqb b 0x33) [ true ↦ wide w8 | false ↦ unknown ] ] ] ] ]
indicated (b ∷ c ∷ s) = unknown

-- "`_` and any letters and digits, or nothing"
unfoldable pub indicator : List ℕ → Result Indicator
indicator s = bind (whether 0x5f s) (λ there r. elim there [ true ↦ bind (run is_word r) (λ w u. ok (indicated w) u) | false ↦ ok absent r ])

-- the width of the head for the argument n; misfit: the indicator is unknown, not allowed here, or too small
pub data Chosen : Type 0 where
  chosen : Width → Chosen
  misfit : Chosen

unfoldable pub choose : Indicator → ℕ → Chosen
choose absent n = chosen (shortest n)
choose indefinitely n = misfit
choose unknown n = misfit
choose (wide w) n = elim (fits w n) [ true ↦ chosen w | false ↦ misfit ]
