-- Theorems: what holds of the notation's definitions. Each statement is proved in the crate `notation_theorems`, under its name in lower case.
use Rattle.std.specs.Prelude.{ℕ, ◌≤◌, ◌≡◌, List, [], ◌∷◌, ◌++◌, true, ◌⊎◌, length}
use Rattle.cbor.specs.Refusals.{ok, accepted, refused, no_token, not_allowed}
use Rattle.cbor.specs.Items.{Item, Items, levels, levels_all}
use Rattle.cbor.specs.Valid.{Valid, ValidAll}
use Rattle.cbor.specs.Decode.{most_bytes, most_levels}
use Rattle.cbor.specs.Paths.{Spot, found, locate, replace_at}
use Rattle.notation.specs.Classes.{blank, is}
use Rattle.notation.specs.Tokens.{leaf, begins}
use Rattle.notation.specs.Cutting.{next}
use Rattle.notation.specs.Reading.{read_text, read_item}
use Rattle.notation.specs.Places.{levels_at, Span, span_at, text_at, edited}
use Rattle.notation.specs.Printing.{print_item, print_text}

-- READING GIVES WELL-FORMED ITEMS, which decoding accepts.
abbrev pub TextValid : Type 0
TextValid = (s : List ℕ) (xs : Items) → read_text s ≡ accepted xs → ValidAll xs × (levels_all xs ≤ most_levels)

abbrev pub ItemValid : Type 0
ItemValid = (d : ℕ) (s : List ℕ) (x : Item) → read_item d s ≡ accepted x → Valid x × (levels x ≤ d)

-- READING WHAT WAS PRINTED gives the same items, and the same item at every level.
abbrev pub TextOfPrint : Type 0
TextOfPrint = (xs : Items) → ValidAll xs → levels_all xs ≤ most_levels → length (print_text xs) ≤ most_bytes → read_text (print_text xs) ≡ accepted xs

abbrev pub ItemOfPrint : Type 0
ItemOfPrint = (x : Item) (d : ℕ) → Valid x → levels x ≤ d → length (print_item x) ≤ most_bytes → read_item d (print_item x) ≡ accepted x

-- AN EDITED TEXT: t is an accepted text with the items xs, and z is where the item at the path k ∷ p stands in it.
pub record Edits (t : List ℕ) (xs : Items) (k : ℕ) (p : List ℕ) (z : Span) : Type 0 where
  -- that item, and what stands there by itself reads as, is found at the same path in the items
  pub spot : Spot
  pub place : locate (k ∷ p) xs ≡ found spot
  pub same : read_item (levels_at most_levels p) (text_at t z) ≡ accepted spot.item
  -- the text of one item, at the level of the path, with a blank before and behind it, puts that item at the path
  pub replaces : (b₁ b₂ : ℕ) → is blank b₁ ≡ true → is blank b₂ ≡ true → (new : List ℕ) (y : Item) → length (edited t z b₁ new b₂) ≤ most_bytes
      → read_item (levels_at most_levels p) new ≡ accepted y → read_text (edited t z b₁ new b₂) ≡ accepted (replace_at (k ∷ p) y xs)
  -- and a text that is refused by another number than 3 and 11 makes the edited one refused too
  pub refuses : (b₁ b₂ : ℕ) → is blank b₁ ≡ true → is blank b₂ ≡ true → (new : List ℕ) (n q : ℕ) → length (edited t z b₁ new b₂) ≤ most_bytes
      → read_item (levels_at most_levels p) new ≡ refused n q → (n ≡ no_token → ⊥) → (n ≡ not_allowed → ⊥) → (m : ℕ) × (w : ℕ) × (read_text (edited t z b₁ new b₂) ≡ refused m w)

abbrev pub EditedText : Type 0
EditedText = (t : List ℕ) (xs : Items) (k : ℕ) (p : List ℕ) (z : Span) → read_text t ≡ accepted xs → span_at (k ∷ p) t ≡ found z → Edits t xs k p z

-- THE ITEMS OF A TEXT ARE ALL FOUND, so that what is said of edited texts is said of each of them.

-- the path p goes on into an item that the text t writes as one token: a front of p leads to that token
pub record IntoLeaf (t : List ℕ) (p : List ℕ) : Type 0 where
  pub front : List ℕ
  pub step : ℕ
  pub rest : List ℕ
  pub path : p ≡ front ++ (step ∷ rest)
  pub span : Span
  pub place : span_at front t ≡ found span
  pub item : Item
  pub token : next (text_at t span) ≡ ok (begins (leaf item)) []

-- t is an accepted text with the items xs
pub record AllFound (t : List ℕ) (xs : Items) : Type 0 where
  -- an item that a path leads to has its place in the text, unless the path goes into a token
  pub every : (p : List ℕ) (z : Spot) → locate p xs ≡ found z → ((w : Span) × (span_at p t ≡ found w)) ⊎ IntoLeaf t p
  -- and no such path does: an item that is written as one token has no items inside. (A literal that is an array in bytes would narrow
  -- this clause, and no other.)
  pub leaves : (p : List ℕ) (z : Spot) → locate p xs ≡ found z → IntoLeaf t p → ⊥

abbrev pub ItemsFound : Type 0
ItemsFound = (t : List ℕ) (xs : Items) → read_text t ≡ accepted xs → AllFound t xs
