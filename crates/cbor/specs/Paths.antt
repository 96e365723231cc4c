-- From the papers: paths (document 01: "A path numbers a top item from 0, then array elements or the values of map pairs; it enters
-- nothing else").
use Rattle.std.specs.Prelude.{ℕ, zero, suc, ◌+◌, List, [], ◌∷◌, ◌++◌, length}
use Rattle.cbor.specs.Items.{Item, int, string, chunked, array, map, tag, simple, Items, none, more, Pairs, none₂, more₂, count, count₂}
use Rattle.cbor.specs.Heads.{arrays, maps}
use Rattle.cbor.specs.Encode.{encode, encode_all, encode_all₂, opening_head, closing_break}

-- an item with the bytes before and behind it
pub record Spot : Type 0 where
  pub before : List ℕ
  pub item : Item
  pub behind : List ℕ

-- what a path leads to, or the number of the step that fails
pub data Found (A : Type 0) : Type 0 where
  found : A → Found A
  nowhere : ℕ → Found A

unfoldable pub within : List ℕ → List ℕ → Found Spot → Found Spot
within a b (found p) = found (record { before = a ++ p.before; item = p.item; behind = p.behind ++ b })
within a b (nowhere i) = nowhere i

-- the item number k, or nowhere: the failing step is i
unfoldable pub nth : ℕ → ℕ → Items → Found Spot
nth i k none = nowhere i
nth i zero (more x xs) = found (record { before = []; item = x; behind = encode_all xs })
nth i (suc k) (more x xs) = within (encode x) [] (nth i k xs)

-- the value of the pair number k
unfoldable pub nth₂ : ℕ → ℕ → Pairs → Found Spot
nth₂ i k none₂ = nowhere i
nth₂ i zero (more₂ y x ps) = found (record { before = encode y; item = x; behind = encode_all₂ ps })
nth₂ i (suc k) (more₂ y x ps) = within (encode y ++ encode x) [] (nth₂ i k ps)

unfoldable pub child : ℕ → ℕ → Item → Found Spot
child i k (int g w n) = nowhere i
child i k (string s w b) = nowhere i
child i k (chunked s cs) = nowhere i
child i k (array z xs) = within (opening_head arrays z (count xs)) (closing_break z) (nth i k xs)
child i k (map z ps) = within (opening_head maps z (count₂ ps)) (closing_break z) (nth₂ i k ps)
child i k (tag w n x) = nowhere i
child i k (simple n) = nowhere i

-- the next step is taken from the item that the last one found
unfoldable pub onward : Found Spot → (Item → Found Spot) → Found Spot
onward (found p) go = within p.before p.behind (go p.item)
onward (nowhere i) go = nowhere i

-- the steps from number i on, inside an item
unfoldable pub descend : ℕ → List ℕ → Item → Found Spot
descend i [] x = found (record { before = []; item = x; behind = [] })
descend i (k ∷ p) x = onward (child i k x) (descend (suc i) p)

-- the item at a path, with all the bytes around it
unfoldable pub locate : List ℕ → Items → Found Spot
locate [] xs = nowhere 0
locate (k ∷ p) xs = onward (nth 0 k xs) (descend 1 p)

-- the part of the bytes that a spot's item has
unfoldable pub start : Spot → ℕ
start p = length p.before

unfoldable pub end : Spot → ℕ
end p = length p.before + length (encode p.item)

-- WITH ANOTHER ITEM THERE

unfoldable pub change_nth : ℕ → (Item → Item) → Items → Items
change_nth k g none = none
change_nth zero g (more x xs) = more (g x) xs
change_nth (suc k) g (more x xs) = more x (change_nth k g xs)

unfoldable pub change_nth₂ : ℕ → (Item → Item) → Pairs → Pairs
change_nth₂ k g none₂ = none₂
change_nth₂ zero g (more₂ y x ps) = more₂ y (g x) ps
change_nth₂ (suc k) g (more₂ y x ps) = more₂ y x (change_nth₂ k g ps)

unfoldable pub change_child : ℕ → (Item → Item) → Item → Item
change_child k g (int s w n) = int s w n
change_child k g (string s w b) = string s w b
change_child k g (chunked s cs) = chunked s cs
change_child k g (array z xs) = array z (change_nth k g xs)
change_child k g (map z ps) = map z (change_nth₂ k g ps)
change_child k g (tag w n x) = tag w n x
change_child k g (simple n) = simple n

-- the item at the path p changed, inside an item and in a list of items
unfoldable pub change_in : List ℕ → (Item → Item) → Item → Item
change_in [] g x = g x
change_in (k ∷ p) g x = change_child k (change_in p g) x

unfoldable pub change_at : List ℕ → (Item → Item) → Items → Items
change_at [] g xs = xs
change_at (k ∷ p) g xs = change_nth k (change_in p g) xs

-- y in the place of the item at the path p
unfoldable pub replace_at : List ℕ → Item → Items → Items
replace_at p y xs = change_at p (λ x. y) xs
