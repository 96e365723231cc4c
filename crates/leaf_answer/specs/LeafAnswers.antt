-- Of the code: what the readers of leaves answer. s is a text; the definitions read it with its end mark.
use Rattle.std.specs.Prelude.{ℕ, ◌-◌, ◌*◌, ◌≤◌, ◌≡◌, List, length, take}
use Rattle.cbor.specs.Refusals.{ok}
use Rattle.cbor.specs.Widths.{shortest}
use Rattle.cbor.specs.Items.{Item}
use Rattle.cbor.specs.Encode.{encode}
use Rattle.notation.specs.Tokens.{tagging, Beginning, opens, begins}
use Rattle.notation.specs.Cutting.{cut}
use Rattle.notation.specs.Form.{one_rule, obey, reads}
use Rattle.encoding.specs.Cuts.{CutAt}
use Rattle.encoding.specs.ReadAnswers.{held_of, Tells, Wrote}
use Rattle.leaf_answer.specs.declared.LeafRead.{LeafRead as LeafS}
use Rattle.leaf_answer.specs.declared.Found.TheVariants.{Leaf, Tag}

-- a token that is all of an item
pub record Whole (s : List ℕ) (at next : ℕ) (x : Item) : Type 0 where
  pub begin : Beginning
  pub cut : CutAt s at next (begins begin)
  pub gives : (d p : ℕ) (r : List ℕ) → obey reads (one_rule d (begins begin)) p p r ≡ ok x r

-- a leaf was read and written
pub record LeafMade (s b b' : List ℕ) (at pos : ℕ) (q : LeafS) : Type 0 where
  pub item : Item
  pub whole : Whole s at q.next item
  pub sized : q.size ≡ length (encode item)
  pub some : 1 ≤ q.size
  pub short : q.size ≤ 9 * (q.next - at)
  pub tells : Tells (held_of item) q.binary q.length
  pub wrote : Wrote b b' pos (encode item)

-- what was found; where it is no leaf, what stands before pos is kept
pub record LeafTold (s b b' : List ℕ) (at pos : ℕ) (q : LeafS) : Type 0 where
  pub same : length b' ≡ length b
  pub kept : take pos b' ≡ take pos b
  pub leaf : q.found ≡ Leaf → LeafMade s b b' at pos q
  pub tag : q.found ≡ Tag → CutAt s at q.next (begins (opens (tagging (shortest q.number) q.number)))
