-- The next token, from a place before blanks and comments.
-- Assumes nothing.
use mathlib.Core.Path.{◌≡◌, sym, ap, ◌∙◌}
use mathlib.Core.List.{List}
use Prim.Native.Nat.{ℕ}
use native.Mathlib.Omega.{arith}
use lib.ListN.{length, drop}
use Rattle.cbor.specs.Refusals.{Result, ok, refuse}
use Rattle.cbor.proofs.Results.{refuse_not_ok}
use Rattle.notation.specs.Tokens.{Token}
use Rattle.notation.specs.Cutting.{cut, placed, place, next}
use Rattle.notation.specs.Reading.{marked}
use Rattle.scanning.specs.ScanAnswers.{Skips}
use Rattle.encoding.specs.Cuts.{CutAt, NextAt}

module _ {s : List ℕ} {from at : ℕ} (sk : Skips s from at) where
  next_is : next (drop from (marked s)) ≡ placed (length (drop at (marked s))) (cut (drop at (marked s)))
  unfolding next place
  next_is = rw sk.stands.drops

  pub next-ok : (tok : Token) (r : List ℕ) → next (drop from (marked s)) ≡ ok tok r → cut (drop at (marked s)) ≡ ok tok r
  unfolding placed
  next-ok tok r e = go (cut (drop at (marked s))) (sym next_is ∙ e)
    where
      go : (R : Result Token) → placed (length (drop at (marked s))) R ≡ ok tok r → R ≡ ok tok r
      go (ok t u) f = f
      go (refuse n w) f = absurd (refuse_not_ok f)

  pub next-cut : {nx : ℕ} {tok : Token} → CutAt s at nx tok → NextAt s from nx tok
  unfolding placed
  next-cut c = record { is = next_is ∙ ap (placed (length (drop at (marked s)))) c.is; inside = c.inside; ahead = omega (arith, c.ahead, sk.ahead) }
