-- Of the code: what the code that walks over bytes answers: where an item ends, its major type, and how many bytes of strings are in it.
use Rattle.std.specs.Prelude.{ℕ, zero, suc, ◌+◌, ◌-◌, ◌≤◌, ◌≡◌, List, Bool, true, false, eqb, length, drop}
use Rattle.memory.specs.Sums.{capped}
use Rattle.cbor.specs.Refusals.{Result, ok, refuse, bind, too_deep, bad_typed_array}
use Rattle.cbor.specs.Flags.{kind_of}
use Rattle.cbor.specs.Items.{Chunk, Item, int, string, chunked, array, map, tag, simple, Items, none, more, Pairs, none₂, more₂}
use Rattle.cbor.specs.Heads.{major_number, item_major}
use Rattle.cbor.specs.TypedArrays.{chunks_length, may_tag}
use Rattle.cbor.specs.Decode.{Until, counted, broken, ended, Step, finished, another, step_at, several, chunk_at, Entry, entry_at, item}
use Rattle.refusal.specs.RefusalKinds.{kind_number}
use Rattle.head.specs.HeadAnswers.{head_told, head_at}
use Rattle.head.specs.declared.HeadAt.{HeadAt}
use Rattle.std.specs.Prelude.{Ok, Err}
use Rattle.std.specs.Prelude as std
use Rattle.refusal.specs.declared.Refusal.{Refusal}
use Rattle.walk_answer.specs.declared.Passage.{Passage}
use Rattle.walk_answer.specs.declared.WalkedItem.{WalkedItem}
use Rattle.walk_answer.specs.declared.Mode.{Mode}
use Rattle.walk_answer.specs.declared.Mode.TheVariants.{Counted, Broken, Ended}

-- THE ANSWER

-- of several items, or a part of one: where it ends and how many bytes of strings it has; or a refusal's number and place
pub data PassTold : Type 0 where
  passed : ℕ → ℕ → PassTold
  pass_refused : ℕ → ℕ → PassTold

unfoldable pub pass_told : std.Result Passage Refusal → PassTold
pass_told (Ok m) = passed m.end m.size
pass_told (Err e) = pass_refused (kind_number e.kind) e.place

-- of an item: its major type as well, between the two
pub data WalkTold : Type 0 where
  item_passed : ℕ → ℕ → ℕ → WalkTold
  walk_refused : ℕ → ℕ → WalkTold

unfoldable pub walk_told : std.Result WalkedItem Refusal → WalkTold
walk_told (Ok m) = item_passed m.end m.major m.size
walk_told (Err e) = walk_refused (kind_number e.kind) e.place

unfoldable pub with_major : ℕ → PassTold → WalkTold
with_major m (passed e k) = item_passed e m k
with_major m (pass_refused i p) = walk_refused i p

-- the bytes of the strings in an item: of a string its own, chunked or not
unfoldable mutual
  pub contents : Item → ℕ
  contents (int g w n) = 0
  contents (string k w b) = length b
  contents (chunked k cs) = chunks_length cs
  contents (array z xs) = contents_all xs
  contents (map z ps) = contents_all₂ ps
  contents (tag w n x) = contents x
  contents (simple n) = 0

  pub contents_all : Items → ℕ
  contents_all none = 0
  contents_all (more x xs) = contents x + contents_all xs

  pub contents_all₂ : Pairs → ℕ
  contents_all₂ none₂ = 0
  contents_all₂ (more₂ k x ps) = (contents k + contents x) + contents_all₂ ps

-- a result of whose value something is known: a number, or a text
unfoldable pub map_result : {A B : Type 0} → (A → B) → Result A → Result B
map_result f (ok x r) = ok (f x) r
map_result f (refuse n left) = refuse n left

-- of what was read from n bytes
unfoldable pub told_of : ℕ → Result ℕ → PassTold
told_of n (ok k r) = passed (n - length r) k
told_of n (refuse i left) = pass_refused i (n - left)

unfoldable pub pass_of : ℕ → Result Item → PassTold
pass_of n res = told_of n (map_result contents res)

unfoldable pub walk_of : ℕ → Result Item → WalkTold
walk_of n (ok x r) = item_passed (n - length r) (major_number (item_major x)) (contents x)
walk_of n (refuse i left) = walk_refused i (n - left)

unfoldable pub walk_all_of : ℕ → Result Items → PassTold
walk_all_of n res = told_of n (map_result contents_all res)

-- INSIDE THE CYCLE

-- an item one level down
unfoldable pub below : ℕ → List ℕ → Result Item
below zero s = refuse too_deep (length s)
below (suc d) s = item d s

unfoldable pub entry_contents : Entry → ℕ
entry_contents e = contents e.key + contents e.value

unfoldable pub chunk_contents : Chunk → ℕ
chunk_contents c = length c.content

-- one of several inside an item of a major type: an element of an array, an entry of a map, a chunk of a string
unfoldable pub one_of : ℕ → ℕ → List ℕ → Result ℕ
one_of major d s =
    elim (eqb major 4) [
      | true ↦ map_result contents (below d s)
      | false ↦ elim (eqb major 5) [ true ↦ map_result entry_contents (entry_at (below d) s) | false ↦ map_result chunk_contents (chunk_at (kind_of (eqb major 3)) s) ]
    ]

-- all of them
unfoldable pub all_of : ℕ → ℕ → Until → List ℕ → Result ℕ
all_of major d u s = several 0 ◌+◌ (one_of major d) u s

-- a tag's item, at whose head `left` were left
unfoldable pub tag_of : ℕ → ℕ → ℕ → List ℕ → Result ℕ
tag_of n d left s = bind (item d s) (λ x r. elim (may_tag n x) [ true ↦ ok (contents x) r | false ↦ refuse bad_typed_array left ])

-- how far they go, as the code says it: a number of them, to a break, to the end of the bytes
unfoldable pub until_by : Mode → ℕ → Until
until_by Counted n = counted n
until_by Broken n = broken
until_by Ended n = ended

-- the mode of a number
unfoldable pub mode_numbered : ℕ → Mode
mode_numbered i = elim (eqb i 0) [ true ↦ Counted | false ↦ elim (eqb i 1) [ true ↦ Broken | false ↦ Ended ] ]

unfoldable pub mode_by : ℕ → Mode
mode_by i = elim (eqb i 31) [ true ↦ Broken | false ↦ Counted ]

-- a break is passed
unfoldable pub behind_by : Mode → ℕ
behind_by Counted = 0
behind_by Broken = 1
behind_by Ended = 0

unfoldable pub step_by : Bool → Mode → ℕ → List ℕ → ℕ → Step
step_by true mode n s at = finished (drop (at + behind_by mode) s)
step_by false mode n s at = another (until_by mode (n - 1))

-- r: none of them is left
pub record Turned (s : List ℕ) (at : ℕ) (mode : Mode) (n : ℕ) (r : Bool) : Type 0 where
  pub is : step_at (until_by mode n) (drop at s) ≡ step_by r mode n s at
  pub inside : r ≡ true → at ≤ length s → at + behind_by mode ≤ length s

-- the same answer counted from `from` places before, with `size` bytes of strings before it
unfoldable pub after_told : ℕ → ℕ → PassTold → PassTold
after_told from size (passed e k) = passed (capped from e) (capped size k)
after_told from size (pass_refused i p) = pass_refused i (capped from p)

unfoldable pub item_after : ℕ → WalkTold → WalkTold
item_after from (item_passed e m k) = item_passed (capped from e) m k
item_after from (walk_refused i p) = walk_refused i (capped from p)

-- the head at the front
pub record Headed (s : List ℕ) (h : HeadAt) : Type 0 where
  pub is : head_told (Ok h) ≡ head_at s 0

-- the head at the front is refused, and so is each item that begins with it
pub record Headless (s : List ℕ) (r : std.Result Passage Refusal) : Type 0 where
  pub is : (d : ℕ) → pass_told r ≡ pass_of (length s) (item d s)

pub record Within (s : List ℕ) (from : ℕ) : Type 0 where
  pub inside : from ≤ length s
