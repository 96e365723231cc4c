-- A text with its end mark: what is skipped, and the next token.
use Prim.Native.Nat.{ℕ, suc}
use native.Mathlib.Omega.{arith}
use mathlib.Core.Path.{◌≡◌, refl, ap, ◌∙◌}
use mathlib.Core.Bool.{Bool, true, false}
use mathlib.Core.List.{List, [], ◌∷◌}
use lib.Dec.{eqb}
use lib.ListN.{length, length-append}
use Rattle.cbor.specs.Refusals.{Result, ok, refuse, not_allowed}
use Rattle.cbor.specs.Utf8.{is_in}
use Rattle.notation.specs.Classes.{blank, slash, hash, class_number, class_rows, class_in, class_of, is}
use Rattle.notation.specs.Scanning.{is_comment, Skipping, between, slashed, hashed, Skipped, skips, stops, skipped, left_in, skip_from, skip}
use Rattle.notation.specs.Indicators.{absent}
use Rattle.notation.specs.Tokens.{closes, whole}
use Rattle.notation.specs.Cutting.{cut_by, cut, place, placed, next}
use Rattle.notation.specs.Reading.{marked}
use Rattle.notation.specs.Alone.{plus}
use Rattle.notation_theorems.proofs.MarkedTokens.{more, cut_by_marks}

pub marked-length : (s : List ℕ) → length (marked s) ≡ suc (length s)
unfolding marked
marked-length s = length-append s (256 ∷ []) ∙ omega arith

-- WHAT IS SKIPPED: the rest that a comment keeps has the mark too
abbrev onward : Skipping → Skipping
onward between = between
onward (slashed c) = slashed (marked c)
onward (hashed c) = hashed (marked c)

abbrev stepped : Skipped → Skipped
stepped (skips k) = skips (onward k)
stepped (stops r) = stops (marked r)

commented : (k : Skipping) (c : List ℕ) (u v : Bool) → ◌≡◌ {A = Skipped} (elim u [ true ↦ skips between | false ↦ elim v [ true ↦ skips (onward k) | false ↦ stops (marked c) ] ])
    (stepped (elim u [ true ↦ skips between | false ↦ elim v [ true ↦ skips k | false ↦ stops c ] ]))
commented k c true v = refl
commented k c false true = refl
commented k c false false = refl

skipped-marked : (k : Skipping) (b : ℕ) (s : List ℕ) → skipped (onward k) b (marked s) ≡ stepped (skipped k b s)
unfolding skipped marked
skipped-marked between b s = go (is blank b) (is slash b) (is hash b)
  where
    go : (u v w : Bool) → ◌≡◌ {A = Skipped}
        (elim u [ true ↦ skips between | false ↦ elim v [ true ↦ skips (slashed (marked (b ∷ s))) | false ↦ elim w [ true ↦ skips (hashed (marked (b ∷ s))) | false ↦ stops (marked (b ∷ s)) ] ] ])
        (stepped (elim u [ true ↦ skips between | false ↦ elim v [ true ↦ skips (slashed (b ∷ s)) | false ↦ elim w [ true ↦ skips (hashed (b ∷ s)) | false ↦ stops (b ∷ s) ] ] ]))
    go true v w = refl
    go false true w = refl
    go false false true = refl
    go false false false = refl
skipped-marked (slashed c) b s = commented (slashed c) c (is slash b) (is_comment b)
skipped-marked (hashed c) b s = commented (hashed c) c (eqb b 0x0a) (is_comment b)

from-marked : (k : Skipping) (s : List ℕ) → skip_from (onward k) (marked s) ≡ marked (skip_from k s)
unfolding skip_from skipped left_in marked is_comment is class_number class_of class_in class_rows is_in
from-marked between [] = refl
from-marked (slashed c) [] = refl
from-marked (hashed c) [] = refl
from-marked k (b ∷ s) = rw (skipped-marked k b s, skip_from) (go (skipped k b s) (λ k'. from-marked k' s))
  where
    go : (m : Skipped) → ((k' : Skipping) → skip_from (onward k') (marked s) ≡ marked (skip_from k' s))
        → ◌≡◌ {A = List ℕ} (elim (stepped m) [ skips k' ↦ skip_from k' (marked s) | stops r ↦ r ]) (marked (elim m [ skips k' ↦ skip_from k' s | stops r ↦ r ]))
    go (skips k') h = h k'
    go (stops r) h = refl

pub skip-marked : (s : List ℕ) → skip (marked s) ≡ marked (skip s)
unfolding skip
skip-marked s = from-marked between s

pub place-marked : (s : List ℕ) → place (marked s) ≡ suc (place s)
unfolding place
place-marked s = ap length (skip-marked s) ∙ marked-length (skip s)

-- THE NEXT TOKEN
placed-marked : {A : Type 0} (q : ℕ) (R : Result A) → placed (suc q) (more R) ≡ plus (placed q R)
unfolding placed plus
placed-marked q (ok x r) = refl
placed-marked q (refuse n w) = refl

cut-marked : (b : ℕ) (s : List ℕ) → cut (marked (b ∷ s)) ≡ more (cut (b ∷ s))
unfolding cut marked
cut-marked b s = cut_by_marks (class_of b) b s

pub next-marked : (s : List ℕ) {b : ℕ} {u : List ℕ} → skip s ≡ b ∷ u → next (marked s) ≡ plus (next s)
unfolding next
next-marked s {b} {u} e = rw (place-marked s, skip-marked s, e, cut-marked b u) (placed-marked (place s) (cut (b ∷ u)))

-- where nothing is left but the mark
module _ (s : List ℕ) (e : skip s ≡ []) where
  pub place_end : place s ≡ 0
  unfolding place
  place_end = rw e

  pub next-end : next s ≡ refuse not_allowed 0
  unfolding next cut placed
  next-end = rw (e, place_end)

  pub next-mark : next (marked s) ≡ ok (closes whole absent) []
  unfolding next cut placed cut_by marked class_of class_in class_rows is_in
  next-mark = rw (skip-marked s, e)
