-- Theorems: what holds of the definitions. Each statement is proved in `proofs/` under its name in lower case.
use Rattle.std.specs.Prelude.{ℕ, ◌≤◌, ◌≡◌, List, [], ◌++◌, length}
use Rattle.cbor.specs.Refusals.{ok}
use Rattle.cbor.specs.Items.{Item, Items, levels, levels_all}
use Rattle.cbor.specs.Encode.{encode, encode_all}
use Rattle.cbor.specs.Valid.{Bytes, Valid, ValidAll}
use Rattle.cbor.specs.Decode.{item, decode, most_bytes, most_levels}
use Rattle.cbor.specs.Paths.{Spot, found, locate, replace_at}

-- Reading the bytes of a valid item gives the item, and leaves what stands behind them.
abbrev pub ItemOfEncode : Type 0
ItemOfEncode = (x : Item) (d : ℕ) (r : List ℕ) → Valid x → levels x ≤ d → item d (encode x ++ r) ≡ ok x r

-- Decoding the bytes of valid items gives the items.
abbrev pub DecodeOfEncode : Type 0
DecodeOfEncode = (xs : Items) → ValidAll xs → levels_all xs ≤ most_levels → length (encode_all xs) ≤ most_bytes → decode (encode_all xs) ≡ ok xs []

-- Whatever decoding accepts is valid and encodes back to the very bytes.
pub record Decoded (s : List ℕ) (xs : Items) (r : List ℕ) : Type 0 where
  pub same : encode_all xs ≡ s
  pub valid : ValidAll xs
  pub low : levels_all xs ≤ most_levels
  pub done : r ≡ []
  pub short : length s ≤ most_bytes

abbrev pub EncodeOfDecode : Type 0
EncodeOfDecode = (s : List ℕ) (xs : Items) (r : List ℕ) → Bytes s → decode s ≡ ok xs r → Decoded s xs r

-- The bytes of items are those before the item at a path, its own, and those behind it; another item at that path changes its
-- own bytes and no others.
pub record Parted (p : List ℕ) (xs : Items) (z : Spot) : Type 0 where
  pub was : encode_all xs ≡ z.before ++ (encode z.item ++ z.behind)
  pub now : (y : Item) → encode_all (replace_at p y xs) ≡ z.before ++ (encode y ++ z.behind)

abbrev pub PartAtPath : Type 0
PartAtPath = (p : List ℕ) (xs : Items) (z : Spot) → locate p xs ≡ found z → Parted p xs z
