-- From the papers: where the item at a path stands in a text, by the form (document 01, "What the promises owe": "one runs from the
-- first byte of its first token to the last byte of its last, and its path is counted in the text as in bytes").
use Rattle.std.specs.Prelude.{ℕ, zero, suc, ◌-◌, List, [], ◌∷◌, ◌++◌, length, take, drop}
use Rattle.cbor.specs.Refusals.{Result, ok, refuse, bind, no_such_path}
use Rattle.cbor.specs.Decode.{most_levels}
use Rattle.cbor.specs.Paths.{Found, found, nowhere}
use Rattle.notation.specs.Scanning.{skip}
use Rattle.notation.specs.Tokens.{bracket, brace, tagging, embedding, leaf, literal, chunking, opens, Token, begins, closes, a_comma, a_colon}
use Rattle.notation.specs.Form.{one, Rule, give, deny, take as takes, call, obey, reads}
use Rattle.notation.specs.Reading.{marked}

-- THE WAY TO AN ITEM: a rule that reads all that stands in front of it, d levels being left. 17: there is no such item
pub data Separator : Type 0 where
  by_comma by_colon : Separator

unfoldable pub separated : Separator → Rule Unit → Token → Rule Unit
separated c go (begins g) = deny no_such_path
separated c go (closes h i) = deny no_such_path
separated by_comma go a_comma = go
separated by_colon go a_comma = deny no_such_path
separated by_comma go a_colon = deny no_such_path
separated by_colon go a_colon = go

-- past an item and what separates it from the next
unfoldable pub past : ℕ → Separator → Rule Unit → Rule Unit
past d c go = call (one d) (λ x. takes (separated c go))

unfoldable pub to_element : ℕ → Rule Unit → ℕ → Rule Unit
to_element d go zero = go
to_element d go (suc k) = past d by_comma (to_element d go k)

-- the value of the pair number k
unfoldable pub to_value : ℕ → Rule Unit → ℕ → Rule Unit
to_value d go zero = past d by_colon go
to_value d go (suc k) = past d by_colon (past d by_comma (to_value d go k))

unfoldable pub into : ℕ → Rule Unit → ℕ → Token → Rule Unit
into d go k (begins (leaf x)) = deny no_such_path
into d go k (begins (literal s z b)) = deny no_such_path
into d go k (begins chunking) = deny no_such_path
into d go k (begins (opens (bracket i))) = to_element d go k
into d go k (begins (opens (brace i))) = to_value d go k
into d go k (begins (opens (tagging w n))) = deny no_such_path
into d go k (begins (opens embedding)) = deny no_such_path
into d go k (closes h i) = deny no_such_path
into d go k a_comma = deny no_such_path
into d go k a_colon = deny no_such_path

-- from the front of an item to the one at the path p of it
unfoldable pub toward : ℕ → List ℕ → Rule Unit
toward d [] = give tt
toward zero (k ∷ p) = deny no_such_path
toward (suc d) (k ∷ p) = takes (into d (toward d p) k)

-- the levels that are left at the path p of an item, of d
unfoldable pub levels_at : ℕ → List ℕ → ℕ
levels_at d [] = d
levels_at zero (k ∷ p) = zero
levels_at (suc d) (k ∷ p) = levels_at d p

-- the text from the item at the path k ∷ p on, and the text behind that item
unfoldable pub around : ℕ → List ℕ → List ℕ → Result (List ℕ)
around k p s =
    bind (obey reads (to_element most_levels (toward most_levels p) k) 0 0 (marked s))
    (λ u b. bind (reads (one (levels_at most_levels p)) b) (λ x a. ok (skip b) a))

pub record Span : Type 0 where
  pub start : ℕ
  pub end : ℕ

unfoldable pub span_of : ℕ → Result (List ℕ) → Found Span
span_of n (ok b a) = found (record { start = n - length b; end = n - length a })
span_of n (refuse k left) = nowhere 0

unfoldable pub span_at : List ℕ → List ℕ → Found Span
span_at [] s = nowhere 0
span_at (k ∷ p) s = span_of (suc (length s)) (around k p s)

-- the item's own text
unfoldable pub text_at : List ℕ → Span → List ℕ
text_at s z = take (z.end - z.start) (drop z.start s)

-- a text with another one, a blank before and behind it, in the place of the item
unfoldable pub edited : List ℕ → Span → ℕ → List ℕ → ℕ → List ℕ
edited s z b₁ new b₂ = take z.start s ++ (b₁ ∷ (new ++ (b₂ ∷ drop z.end s)))
