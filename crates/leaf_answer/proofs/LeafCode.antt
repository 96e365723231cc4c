-- Leaves: what the readers answer.
-- Assumes nothing.
use mathlib.Core.Path.{◌≡◌, refl, subst⁻¹}
use mathlib.Core.Bool.{Bool, false}
use mathlib.Core.List.{List}
use Prim.Native.Nat.{ℕ}
use native.Mathlib.Omega.{arith}
use borrow.Author.Tests.{le-leb}
use lib.ListN.{length, take}
use Rattle.cbor.specs.Widths.{shortest}
use Rattle.cbor.specs.Items.{Item, levels}
use Rattle.notation.specs.Tokens.{tagging, leaf, opens, begins}
use Rattle.notation.specs.Form.{beginning, one_rule, obey}
use Rattle.encoding.specs.Cuts.{CutAt}
use Rattle.leaf_answer.specs.LeafAnswers.{Whole, LeafMade, LeafTold}
use Rattle.leaf_answer.specs.declared.LeafRead.{LeafRead as LeafS}
use Rattle.leaf_answer.specs.declared.Found.{Found}
use Rattle.leaf_answer.specs.declared.Found.TheVariants.{Leaf, Tag, Odd, Nothing}

never_leaf : {A : Type 0} (f : Found) → f ≡ Nothing → f ≡ Leaf → A
never_leaf f e g = let z : ◌≡◌ {A = ℕ} 0 1 = cc in absurd (omega arith)

odd_leaf : {A : Type 0} (f : Found) → f ≡ Odd → f ≡ Leaf → A
odd_leaf f e g = let z : ◌≡◌ {A = ℕ} 0 1 = cc in absurd (omega arith)

odd_tag : {A : Type 0} (f : Found) → f ≡ Odd → f ≡ Tag → A
odd_tag f e g = let z : ◌≡◌ {A = ℕ} 0 1 = cc in absurd (omega arith)

never_tag : {A : Type 0} (f : Found) → f ≡ Nothing → f ≡ Tag → A
never_tag f e g = let z : ◌≡◌ {A = ℕ} 0 1 = cc in absurd (omega arith)

no-leaf : {A : Type 0} → Tag ≡ Leaf → A
no-leaf g = let z : ◌≡◌ {A = ℕ} 0 1 = cc in absurd (omega arith)

no-tag : {A : Type 0} → Leaf ≡ Tag → A
no-tag g = let z : ◌≡◌ {A = ℕ} 0 1 = cc in absurd (omega arith)

-- nothing was found, and what stands before pos is kept
pub leaf_still : {s b b' : List ℕ} {at pos : ℕ} {q : LeafS} → length b' ≡ length b → take pos b' ≡ take pos b → q.found ≡ Nothing → LeafTold s b b' at pos q
leaf_still {q = q} z k e = record { same = z; kept = k; leaf = λ f. never_leaf q.found e f; tag = λ f. never_tag q.found e f }

pub leaf-none : {s b : List ℕ} {at pos : ℕ} {q : LeafS} → q.found ≡ Nothing → LeafTold s b b at pos q
leaf-none e = leaf_still refl refl e

pub leaf_odd : {s b : List ℕ} {at pos : ℕ} {q : LeafS} → q.found ≡ Odd → LeafTold s b b at pos q
leaf_odd {q = q} e = record { same = refl; kept = refl; leaf = λ f. odd_leaf q.found e f; tag = λ f. odd_tag q.found e f }

pub leaf-made : {s b b' : List ℕ} {at pos next size length' : ℕ} {binary : Bool} {q : LeafS} → q ≡ record { found = Leaf; next = next; size = size; binary = binary; length = length'; number = 0 }
    → LeafMade s b b' at pos (record { found = Leaf; next = next; size = size; binary = binary; length = length'; number = 0 }) → take pos b' ≡ take pos b → LeafTold s b b' at pos q
leaf-made {s} {b} {b'} {at} {pos} e m k = subst⁻¹ (LeafTold s b b' at pos) e (record { same = m.wrote.same; kept = k; leaf = λ f. m; tag = λ f. no-tag f })

pub tag-opened : {s b : List ℕ} {at pos next number : ℕ} {q : LeafS} → q ≡ record { found = Tag; next = next; size = 0; binary = false; length = 0; number = number }
    → CutAt s at next (begins (opens (tagging (shortest number) number))) → LeafTold s b b at pos q
tag-opened {s} {b} {at} {pos} e m = subst⁻¹ (LeafTold s b b at pos) e (record { same = refl; kept = refl; leaf = λ f. no-leaf f; tag = λ f. m })

pub leaf_again : {s b b' : List ℕ} {at pos : ℕ} {q r : LeafS} → q ≡ r → LeafTold s b b' at pos r → LeafTold s b b' at pos q
leaf_again {s} {b} {b'} {at} {pos} e t = subst⁻¹ (LeafTold s b b' at pos) e t

-- a token that is a leaf is all of an item
pub leaf-whole : {s : List ℕ} {at next : ℕ} {x : Item} → levels x ≡ 0 → CutAt s at next (begins (leaf x)) → Whole s at next x
unfolding one_rule beginning obey
leaf-whole {x = x} e c = record { begin = leaf x; cut = c; gives = λ d p r. rw (le-leb (levels x) d (omega (arith, e)), beginning) }
