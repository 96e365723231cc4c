-- Of the code: what stands around items and between them in one pass, and what is told of an item. What is said holds where something is told, and no more is said.
use Rattle.std.specs.Prelude.{ℕ, ◌/◌, ◌%◌, ◌≤◌, ◌<◌, ◌≡◌, Bool, true, false, List, [], ◌∷◌, ◌++◌, eqb, length, take, drop, IfSome}
use Rattle.std.specs.declared.option.Option.{Option}
use Rattle.std.specs.declared.option.Option.TheVariants.{Some}
use Rattle.cbor.specs.Refusals.{ok}
use Rattle.cbor.specs.Items.{Item}
use Rattle.cbor.specs.TypedArrays.{may_tag}
use Rattle.cbor.specs.Decode.{item}
use Rattle.notation.specs.Printing.{decimal_of, indicator_of, print_item}
use Rattle.text_output.specs.PrintParts.{width_by}
use Rattle.leaf_written.specs.Laying.{Laid}
use Rattle.leaf_written.specs.declared.Written.{Written}

-- what stands before an item, of which `left` are left; in a map, that counts keys and values, before a value
unfoldable pub comma_of : Bool → ℕ → ℕ
comma_of false left = 0x2c
comma_of true left = elim (eqb (left % 2) 1) [ true ↦ 0x3a | false ↦ 0x2c ]

-- before each but the first
unfoldable pub separator_of : Bool → ℕ → ℕ → List ℕ
separator_of true c blank = []
separator_of false c blank = c ∷ blank ∷ []

-- a tag's number, and the bracket behind it
unfoldable pub tag_opening : ℕ → ℕ → List ℕ
tag_opening info n = (decimal_of n ++ indicator_of (width_by info) n) ++ 0x28 ∷ []

-- an item stands there, whatever it is
pub record IsItem (s : List ℕ) (at d : ℕ) : Type 0 where
  pub value : Item
  pub rest : List ℕ
  pub is : item d (drop at s) ≡ ok value rest

-- the item at a place, and its text
pub record ItemMade (s : List ℕ) (at d : ℕ) (b b' : List ℕ) (pos : ℕ) (r : Written) : Type 0 where
  pub value : Item
  pub is : item d (drop at s) ≡ ok value (drop r.end s)
  pub inside : r.end ≤ length s
  pub laid : Laid b b' pos (print_item value) r.pos

pub record ItemTold (s : List ℕ) (at d : ℕ) (b b' : List ℕ) (pos : ℕ) (r : Option Written) : Type 0 where
  pub same : length b' ≡ length b
  pub kept : take pos b' ≡ take pos b
  pub told : IfSome r (λ w. ItemMade s at d b b' pos w)

-- c stands behind a part whose text ends before `place`
pub record Shut (b b' : List ℕ) (part : Option Written) (c : ℕ) (r : Written) : Type 0 where
  pub place : ℕ
  pub is : part ≡ Some (record { end = r.end; pos = place })
  pub laid : Laid b b' place (c ∷ []) r.pos

-- so it does, unless nothing is told of the part or there is no room
pub record Closed (b b' : List ℕ) (part : Option Written) (c : ℕ) (r : Option Written) : Type 0 where
  pub same : length b' ≡ length b
  pub kept : (pos : ℕ) → IfSome part (λ w. pos ≤ w.pos) → take pos b' ≡ take pos b
  pub told : IfSome r (λ w. Shut b b' part c w)

-- t: b is the initial byte of a byte string, and its whole head
pub record ShortString (b : ℕ) (t : Bool) : Type 0 where
  pub major : t ≡ true → b / 32 ≡ 2
  pub short : t ≡ true → b % 32 < 24

-- t: the tag n may stand before the item at a place
pub record MayTag (s : List ℕ) (from n : ℕ) (t : Bool) : Type 0 where
  pub is : t ≡ true → (d : ℕ) (x : Item) (r : List ℕ) → item d (drop from s) ≡ ok x r → may_tag n x ≡ true
