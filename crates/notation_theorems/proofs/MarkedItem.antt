-- The text of one item, read with its end mark, is read as without it.
use Prim.Native.Nat.{ℕ, ◌<◌}
use native.Mathlib.Omega.{arith}
use mathlib.Core.Path.{◌≡◌, refl, ap}
use mathlib.Core.Bool.{Bool, true, false}
use mathlib.Core.List.{List, [], ◌∷◌}
use lib.Dec.{eqb, eqb-suc-suc}
use lib.ListN.{length}
use borrow.Author.Tests.{eqb-true, ne_eqb}
use Rattle.cbor.specs.Refusals.{Result, ok, refuse, bind, not_allowed, refused, verdict_of}
use Rattle.cbor.specs.Items.{Item}
use Rattle.notation.specs.Scanning.{skip}
use Rattle.notation.specs.Tokens.{Token}
use Rattle.notation.specs.Cutting.{next, place}
use Rattle.notation.specs.Form.{one, stray, reads}
use Rattle.notation.specs.Reading.{marked, outside, alone, single}
use Rattle.notation.specs.Alone.{plus, alone_marked, single_marked}
use Rattle.notation_theorems.proofs.MarkedText.{marked-length, place-marked, next-marked}
use Rattle.notation_theorems.proofs.MarkedRules.{reads-marked}

-- whether a blank or a comment stands first
first-marked : (s : List ℕ) → eqb (place (marked s)) (length (marked s)) ≡ eqb (place s) (length s)
first-marked s = rw (place-marked s, marked-length s) (eqb-suc-suc (place s) (length s))

-- a text that begins with a token is not skipped whole
some : (s : List ℕ) → 0 < length s → place s ≡ length s → (b : ℕ) × (u : List ℕ) × (skip s ≡ b ∷ u)
unfolding place
some s h e = go (skip s) refl
  where
    go : (w : List ℕ) → skip s ≡ w → (b : ℕ) × (u : List ℕ) × (skip s ≡ b ∷ u)
    go [] i = absurd (omega (arith, e, ap length i))
    go (b ∷ u) i = (b, u, i)

outside-marked : {A : Type 0} (d : ℕ) (s : List ℕ) → 0 < length s → outside {A = A} d (marked s) ≡ plus (outside d s)
unfolding outside bind plus
outside-marked {A} d s h = rw (first-marked s, outside) (go (eqb (place s) (length s)) refl)
  where
    at-token : (R : Result Token) → bind {B = A} (plus R) (λ t r. refuse (stray d t) (length (marked s))) ≡ plus (bind R (λ t r. refuse (stray d t) (length s)))
    at-token (ok t r) = rw (marked-length s)
    at-token (refuse n w) = refl

    go : (v : Bool) → eqb (place s) (length s) ≡ v
        → ◌≡◌ {A = Result A} (elim v [ true ↦ bind (next (marked s)) (λ t r. refuse (stray d t) (length (marked s))) | false ↦ refuse not_allowed (length (marked s)) ])
        (plus (elim v [ true ↦ bind (next s) (λ t r. refuse (stray d t) (length s)) | false ↦ refuse not_allowed (length s) ]))
    go true e = let w = some s h (eqb-true (place s) (length s) e) in rw (next-marked s w.2) (at-token (next s))
    go false e = rw (marked-length s)

alone-marked : (d : ℕ) (x : Item) (r : List ℕ) → alone_marked d x (marked r) ≡ plus (alone d x r)
unfolding alone_marked alone plus marked
alone-marked d x [] = refl
alone-marked d x (b ∷ r) =
    let e : eqb (length (marked (b ∷ r))) 1 ≡ false = ne_eqb (length (marked (b ∷ r))) 1 (λ i. omega (arith, marked-length (b ∷ r), i)) in
    rw (e, alone_marked) (outside-marked d (b ∷ r) (omega arith))

pub single-is : (d : ℕ) (s : List ℕ) → single_marked d (marked s) ≡ plus (single d s)
unfolding single_marked single bind plus
single-is d s = rw (first-marked s, single_marked) (go (eqb (place s) (length s)))
  where
    at_item : (R : Result Item) → bind (plus R) (alone_marked d) ≡ plus (bind R (alone d))
    at_item (ok x r) = alone-marked d x r
    at_item (refuse n w) = refl

    go : (v : Bool)
        → ◌≡◌ {A = Result Item} (elim v [ true ↦ bind (reads (one d) (marked s)) (alone_marked d) | false ↦ refuse not_allowed (length (marked s)) ])
        (plus (elim v [ true ↦ bind (reads (one d) s) (alone d) | false ↦ refuse not_allowed (length s) ]))
    go true = rw (reads-marked d s) (at_item (reads (one d) s))
    go false = rw (marked-length s)

-- the mark does not show in what is said in the end
pub verdict_marked : {A : Type 0} (s : List ℕ) (R : Result A) → verdict_of (length (marked s)) (plus R) ≡ verdict_of (length s) R
unfolding verdict_of plus
verdict_marked s (ok x r) = refl
verdict_marked s (refuse n left) = ap (λ (q : ℕ). refused n q) (omega (arith, marked-length s))
