-- From the papers: THE DEMANDS of the mission, over the operations' definitions. Each clause stands under the mission's own words; what
-- document 01 says to it is quoted as such. Each is proved in `proofs/Demands.antt` under its name in lower case.
use Rattle.std.specs.Prelude.{ℕ, ◌≤◌, ◌≡◌, ◌↔◌, List, [], ◌++◌, length, take}
use Rattle.cbor.specs.Refusals.{Verdict, accepted, refused, no_token, not_allowed}
use Rattle.cbor.specs.Items.{Item, Items}
use Rattle.cbor.specs.Encode.{encode, encode_all}
use Rattle.cbor.specs.Valid.{Bytes}
use Rattle.cbor.specs.Decode.{most_bytes}
use Rattle.cbor.specs.Paths.{Spot, found}
use Rattle.notation.specs.Reading.{read_text, read_item}
use Rattle.notation.specs.Places.{Span, span_at, edited}
use Rattle.notation.specs.Theorems.{ItemsFound}
use Rattle.operations.specs.Operations.{Outcome, room, read, items_of, print, look_up, part_of, level, correct}

-- DEMAND 1. "Reading, printing, looking up and correcting take every input, bad or good, and end.": they are functions of all that is
-- lent, so this is no statement here; of the code it is what the check of each function shows. "A refusal is one number from the table
-- and a place" is stated of the public functions (crate edn, Promises), whose refusals have a kind.

-- a refused call leaves the buffer as it was
abbrev pub Kept : List ℕ → Outcome ℕ → Type 0
Kept buffer o = (n place : ℕ) → o.answer ≡ refused n place → o.buffer ≡ buffer

pub record Demand1 : Type 0 where
  -- "the lent output, or the bytes under correction, then hold exactly what they held before"
  pub reading : (text buffer : List ℕ) → Kept buffer (read text buffer)
  pub printing : (bytes buffer : List ℕ) → Kept buffer (print bytes buffer)
  pub correcting : (buffer : List ℕ) (used : ℕ) (path text : List ℕ) → Kept buffer (correct buffer used path text)
  -- document 01: "A refused look up returns an empty part."
  pub looking : (bytes path : List ℕ) (n place : ℕ) → look_up bytes path ≡ refused n place → part_of bytes (look_up bytes path) ≡ []

-- DEMAND 2

-- the rules allow the text, and the n bytes of its items fit
pub record Allowed (text buffer : List ℕ) (n : ℕ) : Type 0 where
  pub items : Items
  pub allows : read_text text ≡ accepted items
  pub sized : length (encode_all items) ≡ n
  pub fits : n ≤ room buffer

-- the items xs stand in the first n bytes, as their encoding, and are what these bytes decode to
pub record Encoded (xs : Items) (n : ℕ) (buffer : List ℕ) : Type 0 where
  pub bytes : take n buffer ≡ encode_all xs
  pub decodes : items_of (take n buffer) ≡ accepted xs

-- the outcome is these bytes
pub record Restores (bytes : List ℕ) (r : Outcome ℕ) : Type 0 where
  pub answers : r.answer ≡ accepted (length bytes)
  pub writes : take (length bytes) r.buffer ≡ bytes

pub record Demand2 : Type 0 where
  -- "A text is accepted exactly when document 01's rules allow it and the bytes fit."
  pub acceptance : (text buffer : List ℕ) (n : ℕ) → ((read text buffer).answer ≡ accepted n) ↔ Allowed text buffer n
  -- "The bytes are the CBOR of RFC 8949 with every encoding indicator obeyed.": they decode to the very items of the text, each with the
  -- width, or the indefinite length, that it has there
  pub encoding : (text buffer : List ℕ) (n : ℕ) (xs : Items) → read_text text ≡ accepted xs → (read text buffer).answer ≡ accepted n → Encoded xs n (read text buffer).buffer
  -- "Printing accepted bytes and reading that text restores them (text at most 65,535 bytes, both fit their buffers).": the text is the
  -- n bytes that printing wrote
  pub round_trip : (bytes : List ℕ) → Bytes bytes → (buffer : List ℕ) (n : ℕ) → (print bytes buffer).answer ≡ accepted n → (buffer' : List ℕ) → length bytes ≤ length buffer'
      → Restores bytes (read (take n (print bytes buffer).buffer) buffer')

-- LOOK UP. Document 01: "a look up handing back all the bytes (the part is that item's encoding)"

-- the part at z is the item's encoding, and the bytes are what is before it, it, and what is behind it
pub record LookedUp (bytes : List ℕ) (z : Spot) : Type 0 where
  pub part : part_of bytes (accepted z) ≡ encode z.item
  pub whole : bytes ≡ z.before ++ (encode z.item ++ z.behind)

abbrev pub PartLookedUp : Type 0
PartLookedUp = (bytes path : List ℕ) (z : Spot) → Bytes bytes → look_up bytes path ≡ accepted z → LookedUp bytes z

-- DEMAND 3

-- document 01: "Each of the two blanks is any of the four", and "Blanks are 09, 0A, 0D, 20 hex."
pub data Blank : Type 0 where
  tab newline carriage_return space : Blank

unfoldable pub blank_byte : Blank → ℕ
blank_byte tab = 0x09
blank_byte newline = 0x0a
blank_byte carriage_return = 0x0d
blank_byte space = 0x20

-- document 01: "A new text has the form of one item when it has no failure as correct's text, by the order above and at the level of
-- the path, or its first one is neither 3 nor 11."
abbrev pub OneItem : Verdict Item → Type 0
OneItem (accepted y) = Unit {0}
OneItem (refused n place) = (n ≡ no_token → ⊥) × (n ≡ not_allowed → ⊥)

-- document 01: "an accepted sheet is a text that this definition accepts; the old bytes are its encoding, at the front of a buffer with
-- anything behind them"
pub record Stored (text buffer : List ℕ) (used : ℕ) : Type 0 where
  pub items : Items
  pub accepts : read_text text ≡ accepted items
  pub sized : length (encode_all items) ≡ used
  pub short : used ≤ most_bytes
  pub within : used ≤ length buffer
  pub held : take used buffer ≡ encode_all items

-- what the mission takes, up to its "Then"
pub record Edit (text buffer : List ℕ) (used : ℕ) (path new : List ℕ) : Type 0 where
  -- "Take any accepted sheet"
  pub stored : Stored text buffer used
  -- "and any item in it that is no map key and not inside a tag, a map key, an embedded sequence or a string."
  pub item : Span
  pub place : span_at path text ≡ found item
  -- "Take any new text that has the form of one item, with no blank or comment outside it."
  pub form : OneItem (read_item (level path) new)
  -- "one blank either side"
  pub before : Blank
  pub behind : Blank
  -- "Suppose it is at most 65,535 bytes."
  pub short : length (edited text item (blank_byte before) new (blank_byte behind)) ≤ most_bytes

-- "The edited sheet is the old text with the new one, one blank either side, in place of that item."
abbrev pub edited_text : {text buffer path new : List ℕ} {used : ℕ} → Edit text buffer used path new → List ℕ
edited_text {text} {buffer} {path} {new} e = edited text e.item (blank_byte e.before) new (blank_byte e.behind)

abbrev pub Succeeds : Outcome ℕ → Type 0
Succeeds o = (n : ℕ) × (o.answer ≡ accepted n)

-- correcting came to c, reading afresh to r
pub record Agree (c r : Outcome ℕ) : Type 0 where
  -- "correcting them there at that item's path, without the old text, succeeds exactly when the edited sheet read afresh into a buffer of
  -- the same length does."
  pub success : Succeeds c ↔ Succeeds r
  -- "Where both succeed, they give the same length"
  pub lengths : (n m : ℕ) → c.answer ≡ accepted n → r.answer ≡ accepted m → n ≡ m
  -- "and the same bytes up to it."
  pub bytes : (n : ℕ) → c.answer ≡ accepted n → r.answer ≡ accepted n → take n c.buffer ≡ take n r.buffer

pub record Demand3 : Type 0 where
  -- "any item in it that is no map key and not inside a tag, a map key, an embedded sequence or a string": those are the items that a path
  -- leads to, and all of them are found in the text
  pub items : ItemsFound
  -- "Then, whatever the length of the buffer that holds the old bytes"
  pub agrees : (text buffer : List ℕ) (used : ℕ) (path new : List ℕ) (e : Edit text buffer used path new) (fresh : List ℕ) → length fresh ≡ length buffer
      → Agree (correct buffer used path new) (read (edited_text e) fresh)
