-- Of the code: a path followed through bytes that were checked: a place is what is left from there on.
use Rattle.std.specs.Prelude.{ℕ, zero, suc, List, [], ◌∷◌, true, false, eqb}
use Rattle.cbor.specs.Refusals.{Result, ok, refuse}
use Rattle.cbor.specs.Heads.{Head, major_number, next_head}
use Rattle.cbor.specs.Decode.{Until, ended, Step, finished, another, step_at, extent}
use Rattle.cbor.specs.Paths.{Found, found, nowhere}
use Rattle.walk_answer.specs.WalkAnswers.{one_of}

pub data Place : Type 0 where
  at : List ℕ → Place
  astray : Place

unfoldable pub onto : Place → (List ℕ → Place) → Place
onto (at s) go = go s
onto astray go = astray

unfoldable pub behind_one : Result ℕ → Place
behind_one (ok n r) = at r
behind_one (refuse n left) = astray

-- behind one element of an array, or one entry of a map, by the major type
unfoldable pub past_one : ℕ → List ℕ → Place
past_one major s = behind_one (one_of major 17 s)

unfoldable pub step_to : Step → (Until → Place) → Place
step_to (finished r) go = astray
step_to (another u) go = go u

-- at what stands there, if one of them does
unfoldable pub standing : Until → List ℕ → Place
standing u s = step_to (step_at u s) (λ v. at s)

-- at the element or entry number k
unfoldable pub nth_from : ℕ → ℕ → Until → List ℕ → Place
nth_from major zero u s = step_to (step_at u s) (λ v. at s)
nth_from major (suc k) u s = step_to (step_at u s) (λ v. onto (past_one major s) (nth_from major k v))

-- at the element number k, or the value of the entry number k, behind a head
unfoldable pub child_by : ℕ → ℕ → Until → List ℕ → Place
child_by k major u r =
    elim (eqb major 4) [
      | true ↦ nth_from 4 k u r
      | false ↦ elim (eqb major 5) [ true ↦ onto (nth_from 5 k u r) (past_one 4) | false ↦ astray ]
    ]

unfoldable pub child_at : ℕ → Result Head → Place
child_at k (ok h r) = child_by k (major_number h.major) (extent h.size h.argument) r
child_at k (refuse n left) = astray

unfoldable pub child_in : ℕ → List ℕ → Place
child_in k s = child_at k (next_head s)

-- the place that step number i reached, and what is done from there
unfoldable pub numbered : ℕ → Place → (List ℕ → Found (List ℕ)) → Found (List ℕ)
numbered i (at s) go = go s
numbered i astray go = nowhere i

unfoldable pub follow_from : ℕ → List ℕ → List ℕ → Found (List ℕ)
follow_from i [] s = found s
follow_from i (k ∷ p) s = numbered i (child_in k s) (follow_from (suc i) p)

unfoldable pub trace : List ℕ → List ℕ → Found (List ℕ)
trace [] s = nowhere 0
trace (k ∷ p) s = numbered 0 (nth_from 4 k ended s) (follow_from 1 p)
