-- Of the code: leaves that are written at a glance. What is said of them holds where they are, and no more is said.
use Rattle.std.specs.Prelude.{ℕ, ◌+◌, ◌≤◌, ◌≡◌, Bool, true, List, length, take, drop, IfSome}
use Rattle.std.specs.declared.option.Option.{Option}
use Rattle.cbor.specs.Refusals.{ok}
use Rattle.cbor.specs.Items.{Item}
use Rattle.cbor.specs.Decode.{item}
use Rattle.notation.specs.Printing.{print_item}
use Rattle.leaf_written.specs.Laying.{Laid}
use Rattle.leaf_written.specs.declared.Written.{Written}

-- a block stands behind the initial byte, and there is room for the longest text of a leaf
pub record Room (s : List ℕ) (at : ℕ) (b : List ℕ) (pos : ℕ) : Type 0 where
  pub block : at + 33 ≤ length s
  pub space : pos + 80 ≤ length b

pub record HasBlock (s : List ℕ) (at : ℕ) (t : Bool) : Type 0 where
  pub is : t ≡ true → at + 33 ≤ length s

pub record HasSpace (b : List ℕ) (pos : ℕ) (t : Bool) : Type 0 where
  pub is : t ≡ true → pos + 82 ≤ length b

-- the item at a place, with any number of levels left, and its text
pub record Leaf (s : List ℕ) (at : ℕ) (b b' : List ℕ) (pos : ℕ) (r : Written) : Type 0 where
  pub value : Item
  pub is : (d : ℕ) → item d (drop at s) ≡ ok value (drop r.end s)
  pub inside : r.end ≤ length s
  pub laid : Laid b b' pos (print_item value) r.pos

-- it is written, where the answer tells of it
pub record LeafTold (s : List ℕ) (at : ℕ) (b b' : List ℕ) (pos : ℕ) (r : Option Written) : Type 0 where
  pub same : length b' ≡ length b
  pub kept : take pos b' ≡ take pos b
  pub told : IfSome r (λ w. Leaf s at b b' pos w)
