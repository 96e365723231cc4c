-- Of the code: one item, a leaf, or what opens a level or none. s is a text.
use Rattle.std.specs.Prelude.{ℕ, ◌+◌, ◌-◌, ◌≤◌, ◌^◌, min, ◌≡◌, Bool, true, false, List, length, drop}
use Rattle.cbor.specs.Refusals.{ok, bad_typed_array}
use Rattle.typed_array.specs.TypedArrayAnswers.{may_tag_by}
use Rattle.notation.specs.Tokens.{Opener as Opens, opens, begins}
use Rattle.notation.specs.Cutting.{next}
use Rattle.notation.specs.Reading.{marked}
use Rattle.leaf_answer.specs.declared.Found.{Found}
use Rattle.leaf_answer.specs.declared.Found.TheVariants.{Leaf, Tag as TagFound, Odd, Nothing as NoLeaf}
use Rattle.leaf_answer.specs.declared.LeafRead.{LeafRead}
use Rattle.encoding.specs.ReadAnswers.{Denies}
use Rattle.opening.specs.Openings.{Opened}
use Rattle.std.specs.Prelude.{Ok}
use Rattle.std.specs.Prelude as std
use Rattle.encoding.specs.declared.answer.MadeItem.{MadeItem}
use Rattle.refusal.specs.declared.Refusal.{Refusal}

unfoldable pub is_leaf : Found → Bool
is_leaf Leaf = true
is_leaf TagFound = false
is_leaf Odd = false
is_leaf NoLeaf = false

-- the same where a level may be opened
pub record LevelAt (s : List ℕ) (from at : ℕ) (q : LeafRead) (d : ℕ) : Type 0 where
  pub opened : Opened s from at q
  pub some : 1 ≤ d

-- no level is opened from a place on, where d are left
pub record Flat (s : List ℕ) (from d : ℕ) : Type 0 where
  pub is : (d ≡ 0 → ⊥) → (op : Opens) (r : List ℕ) → next (drop from (marked s)) ≡ ok (begins (opens op)) r → ⊥

-- what becomes of an item behind a tag's head of some bytes
pub record TagMade (n head next' size : ℕ) (binary : Bool) (length' place' : ℕ) (a : std.Result MadeItem Refusal) : Type 0 where
  pub refused : may_tag_by n binary length' ≡ false → Denies bad_typed_array place' a
  pub made : may_tag_by n binary length' ≡ true → a ≡ Ok (record { next = next'; size = min (head + size) (2 ^ 64 - 1); count = 1; indicator = 0; binary = false; length = 0 })
