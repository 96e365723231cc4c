-- Rules that begin with an item: the item is read from the same place, by name.
use Prim.Native.Nat.{ℕ}
use mathlib.Core.Path.{◌≡◌, refl, sym, ap, ◌∙◌}
use mathlib.Core.Bool.{Bool, true, false}
use mathlib.Core.List.{List}
use Rattle.cbor.specs.Refusals.{Result, ok, refuse, bind}
use Rattle.cbor.specs.Items.{Item}
use Rattle.cbor.proofs.Results.{refuse_not_ok, bind-same, bind_assoc}
use Rattle.notation.specs.Tokens.{Beginning, Shape, Token, begins, closes, a_comma, a_colon}
use Rattle.notation.specs.Cutting.{next, place}
use Rattle.notation.specs.Form.{Position, one, items, pairs, Rule, give, deny, deny_first, take, call, then, strays, beginning, one_rule, after_item, items_rule, after_key, pairs_rule, rules, Calls, obey, reads}
use Rattle.notation_theorems.proofs.ByName.{bind_ok, reads-is}

-- a rule behind another, that takes a token: the place of the last token before it does not matter
pub then-take : {A B : Type 0} (c : Calls) (r : Rule A) (k : A → Token → Rule B) (p q q' : ℕ) (s : List ℕ)
    → obey c (then r (λ x. take (k x))) p q s ≡ bind (obey c r p q s) (λ x t. obey c (take (k x)) p q' t)
unfolding obey then bind
then-take c (give x) k p q q' s = refl
then-take c (deny n) k p q q' s = refl
then-take c (deny_first n) k p q q' s = refl
then-take c (take f) k p q q' s = bind-same (next s) _ _ (λ t r e. then-take c (f t) k p (place s) q' r) ∙ sym (bind_assoc (next s) _ _)
then-take c (call n j) k p q q' s = bind-same (c n s) _ _ (λ x r e. then-take c (j x) k p q q' r) ∙ sym (bind_assoc (c n s) _ _)

-- an element and what stands behind it
abbrev pub element : {A : Type 0} → ℕ → (Item → Token → Rule A) → Rule A
element d after = call (one d) (λ x. take (after x))

pub one-begins : (d : ℕ) (g : Beginning) (s r : List ℕ) → next s ≡ ok (begins g) r → reads (one d) s ≡ obey reads (beginning d g) (place s) (place s) r
unfolding rules one_rule
one-begins d g s r e = reads-is (one d) s ∙ bind_ok _ e

pub first-is : {A : Type 0} (d : ℕ) (g : Beginning) (after : Item → Token → Rule A) (s r : List ℕ) → next s ≡ ok (begins g) r
    → obey reads (then (beginning d g) (λ x. take (after x))) (place s) (place s) r ≡ obey reads (element d after) (place s) (place s) s
unfolding obey
first-is d g after s r e =
    then-take reads (beginning d g) after (place s) (place s) (place s) r
    ∙ ap (λ R. bind R (λ x t. obey reads (take (after x)) (place s) (place s) t)) (sym (one-begins d g s r e))

-- where an item begins, items and pairs begin with it
pub items-begin : (h : Shape) (b : Position) (d : ℕ) (g : Beginning) (s r : List ℕ) → next s ≡ ok (begins g) r → reads (items h b d) s ≡ obey reads (element d (after_item h d)) (place s) (place s) s
unfolding rules items_rule
items-begin h b d g s r e = reads-is (items h b d) s ∙ bind_ok _ e ∙ first-is d g (after_item h d) s r e

pub pairs-begin : (b : Position) (d : ℕ) (g : Beginning) (s r : List ℕ) → next s ≡ ok (begins g) r → reads (pairs b d) s ≡ obey reads (element d (after_key d)) (place s) (place s) s
unfolding rules pairs_rule
pairs-begin b d g s r e = reads-is (pairs b d) s ∙ bind_ok _ e ∙ first-is d g (after_key d) s r e

-- where an item is read, one begins
pub one-starts : (d : ℕ) (s : List ℕ) {x : Item} {t : List ℕ} → reads (one d) s ≡ ok x t → (g : Beginning) × (r : List ℕ) × (next s ≡ ok (begins g) r)
unfolding bind rules one_rule strays obey
one-starts d s {x} {t} e = go (next s) refl (sym (reads-is (one d) s) ∙ e)
  where
    go : (R : Result Token) → next s ≡ R → bind R (λ t r. obey reads (rules (one d) t) (place s) (place s) r) ≡ ok x t → (g : Beginning) × (r : List ℕ) × (next s ≡ ok (begins g) r)
    go (ok (begins g) r) h e = (g, r, h)
    go (ok (closes h i) r) h' e = absurd (refuse_not_ok e)
    go (ok a_comma r) h e = absurd (refuse_not_ok e)
    go (ok a_colon r) h e = absurd (refuse_not_ok e)
    go (refuse k w) h e = absurd (refuse_not_ok e)

-- a test in a rule
pub obey_if : {A : Type 0} (v : Bool) (r r' : Rule A) (p q : ℕ) (s : List ℕ)
    → ◌≡◌ {A = Result A} (obey {A = A} reads (elim v [ true ↦ r | false ↦ r' ]) p q s) (elim v [ true ↦ obey reads r p q s | false ↦ obey reads r' p q s ])
obey_if true r r' p q s = refl
obey_if false r r' p q s = refl
