-- Of the code: what the code that prints answers.
use Rattle.std.specs.Prelude.{ℕ, ◌+◌, ◌≤◌, ◌<◌, ◌≡◌, Bool, true, false, List, [], ◌∷◌, ◌++◌, eqb, length, drop}
use Rattle.cbor.specs.Ascii.{ascii}
use Rattle.memory.specs.Buffer.{clipped}
use Rattle.cbor.specs.Refusals.{Result, ok}
use Rattle.cbor.specs.Items.{Kind, Chunk, Item, tag, Items}
use Rattle.cbor.specs.Heads.{major_of, next_head}
use Rattle.cbor.specs.Decode.{Until, several, chunk_at, Entry, entry_at, decode}
use Rattle.walk_answer.specs.WalkAnswers.{map_result as mapped, below}
use Rattle.cbor.specs.Flags.{kind_of}
use Rattle.head.specs.declared.HeadAt.{HeadAt}
use Rattle.notation.specs.Printing.{print_string, print_chunked, size_of, print_item, print_text}
use Rattle.printer.specs.declared.Printed.{Printed}
use Rattle.text_output.specs.PrintParts.{Prints, width_by, size_by}

-- WHAT IS READ, AS TEXT

unfoldable pub entry_text : Entry → List ℕ
entry_text e = print_item e.key ++ (ascii ": " ++ print_item e.value)

unfoldable pub chunk_text : Kind → Chunk → List ℕ
chunk_text k c = print_string k c.width c.content

-- one of several inside an item of a major type: an element of an array, an entry of a map, a chunk of a string
unfoldable pub print_one_of : ℕ → ℕ → List ℕ → Result (List ℕ)
print_one_of major d s =
    elim (eqb major 4) [
      | true ↦ mapped print_item (below d s)
      | false ↦ elim (eqb major 5) [ true ↦ mapped entry_text (entry_at (below d) s) | false ↦ mapped (chunk_text (kind_of (eqb major 3))) (chunk_at (kind_of (eqb major 3)) s) ]
    ]

-- all of them
unfoldable pub print_all_of : ℕ → ℕ → Until → List ℕ → Result (List (List ℕ))
print_all_of major d u s = several [] ◌∷◌ (print_one_of major d) u s

-- a part that starts at a place ends behind it, and within the bytes, of which there are `size`
pub record Moves (at end size : ℕ) (r : Bool) : Type 0 where
  pub yes : r ≡ true → (at < end) × (end ≤ size)
  pub no : r ≡ false → at < end → end ≤ size → ⊥

-- a comma and a byte c stand before each but the first
unfoldable pub separator_of : Bool → ℕ → List ℕ
separator_of true c = []
separator_of false c = 0x2c ∷ c ∷ []

unfoldable pub joined : ℕ → Bool → List (List ℕ) → List ℕ
joined c first [] = []
joined c first (t ∷ ts) = separator_of first c ++ (t ++ joined c false ts)

unfoldable pub opening_by : ℕ → ℕ
opening_by major = elim (eqb major 4) [ true ↦ 0x5b | false ↦ 0x7b ]

unfoldable pub closing_by : ℕ → ℕ
closing_by major = elim (eqb major 4) [ true ↦ 0x5d | false ↦ 0x7d ]

unfoldable pub container_text : ℕ → ℕ → ℕ → List (List ℕ) → List ℕ
container_text major i n ts = opening_by major ∷ (size_of (size_by i) n ++ (joined 0x20 true ts ++ closing_by major ∷ []))

unfoldable pub chunked_text : Kind → List (List ℕ) → List ℕ
chunked_text k [] = print_chunked k []
chunked_text k (t ∷ ts) = ascii "(_ " ++ (joined 0x20 true (t ∷ ts) ++ ascii ")")

unfoldable pub tag_text : ℕ → ℕ → Item → List ℕ
tag_text i n x = print_item (tag (width_by i) n x)

-- THE ANSWER

-- ws is printed, r is left of the bytes s, and this is at `least` or behind it
pub record Done (s : List ℕ) (least : ℕ) (b b' : List ℕ) (pos : ℕ) (p : Printed) (ws r : List ℕ) : Type 0 where
  pub ahead : least ≤ p.end
  pub inside : p.end ≤ length s
  pub drops : drop p.end s ≡ r
  pub prints : Prints b b' pos ws p.pos

-- if reading gives a text, it is printed; of other bytes nothing is said
pub record PrintTold (s : List ℕ) (least : ℕ) (b b' : List ℕ) (pos : ℕ) (p : Printed) (res : Result (List ℕ)) : Type 0 where
  pub same : length b' ≡ length b
  pub done : (ws r : List ℕ) → res ≡ ok ws r → Done s least b b' pos p ws r

-- the head at a place
pub record PrintHeaded (s : List ℕ) (at : ℕ) (h : HeadAt) : Type 0 where
  pub is : next_head (drop at s) ≡ ok (record { major = major_of h.major; size = size_by h.info; argument = h.argument }) (drop h.end s)
  pub ahead : at < h.end
  pub inside : h.end ≤ length s
  pub most : h.major ≤ 7

-- a whole text: its length, and it stands at the front of the buffer, as far as that reaches
pub record PrintedAll (s b b' : List ℕ) (r : ℕ) : Type 0 where
  pub same : length b' ≡ length b
  pub size : (xs : Items) → decode s ≡ ok xs [] → r ≡ length (print_text xs)
  pub is : (xs : Items) → decode s ≡ ok xs [] → b' ≡ clipped b 0 (print_text xs)
