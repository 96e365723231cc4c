-- From the papers: the four operations, as functions of all that is lent (texts, bytes, buffers with what they hold) to the answer and
-- to what the buffer holds then; refused calls leave it as it was.
use Rattle.std.specs.Prelude.{ℕ, ◌+◌, ◌-◌, min, List, [], ◌∷◌, ◌++◌, true, false, leb, length, take, drop, replicate}
use Rattle.cbor.specs.Refusals.{Verdict, accepted, refused, verdict_of, too_long, no_room, no_such_path}
use Rattle.cbor.specs.Items.{Item, Items}
use Rattle.cbor.specs.Encode.{encode, encode_all}
use Rattle.cbor.specs.Decode.{decode, most_bytes, most_levels}
use Rattle.cbor.specs.Paths.{Spot, Found, found, nowhere, locate, start, end}
use Rattle.memory.specs.Buffer.{over}
use Rattle.notation.specs.Reading.{read_text, read_item}
use Rattle.notation.specs.Printing.{print_text}
use Rattle.notation.specs.Places.{levels_at}

-- what an operation answers, and what the lent buffer holds then
pub record Outcome (A : Type 0) : Type 0 where
  pub answer : Verdict A
  pub buffer : List ℕ

-- what comes next, where something was accepted
unfoldable pub and_then : {A B : Type 0} → Verdict A → (A → Verdict B) → Verdict B
and_then (accepted x) k = k x
and_then (refused n place) k = refused n place

-- 14, "only if all else passes": the result is over the buffer, or over 65,535
unfoldable pub room : List ℕ → ℕ
room buffer = min (length buffer) most_bytes

unfoldable pub fitting : List ℕ → List ℕ → Verdict (List ℕ)
fitting buffer w = elim (leb (length w) (room buffer)) [ true ↦ accepted w | false ↦ refused no_room 0 ]

-- "Success writes the result at the front"; the answer is its length
unfoldable pub written : List ℕ → (List ℕ → List ℕ) → Verdict (List ℕ) → Outcome ℕ
written buffer laid (accepted w) = record { answer = accepted (length w); buffer = over buffer 0 (laid w) }
written buffer laid (refused n place) = record { answer = refused n place; buffer = buffer }

-- READ: a text to the bytes of its items
unfoldable pub bytes_of : List ℕ → List ℕ → Verdict (List ℕ)
bytes_of text buffer = and_then (read_text text) (λ xs. fitting buffer (encode_all xs))

unfoldable pub read : List ℕ → List ℕ → Outcome ℕ
read text buffer = written buffer (λ w. w) (bytes_of text buffer)

-- CHECK: bytes to their items
unfoldable pub items_of : List ℕ → Verdict Items
items_of bytes = verdict_of (length bytes) (decode bytes)

-- PRINT: bytes to the text of their items
unfoldable pub text_of : List ℕ → List ℕ → Verdict (List ℕ)
text_of bytes buffer = and_then (items_of bytes) (λ xs. fitting buffer (print_text xs))

unfoldable pub print : List ℕ → List ℕ → Outcome ℕ
print bytes buffer = written buffer (λ w. w) (text_of bytes buffer)

-- LOOK UP: "check the bytes first, then 17"
unfoldable pub spot_of : Found Spot → Verdict Spot
spot_of (found z) = accepted z
spot_of (nowhere i) = refused no_such_path i

unfoldable pub look_up : List ℕ → List ℕ → Verdict Spot
look_up bytes path = and_then (items_of bytes) (λ xs. spot_of (locate path xs))

-- the part of the bytes that is returned; "A refused look up returns an empty part"
unfoldable pub part_of : List ℕ → Verdict Spot → List ℕ
part_of bytes (accepted z) = take (end z - start z) (drop (start z) bytes)
part_of bytes (refused n place) = []

-- CORRECT: the bytes are the first `used` of the buffer
unfoldable pub level : List ℕ → ℕ
level [] = most_levels
level (k ∷ p) = levels_at most_levels p

unfoldable pub replaced : Spot → Item → List ℕ
replaced z y = z.before ++ (encode y ++ z.behind)

unfoldable pub correction : List ℕ → ℕ → List ℕ → List ℕ → Verdict (List ℕ)
correction buffer used path text =
    elim (leb used (room buffer)) [
      | true ↦ and_then (look_up (take used buffer) path) (λ z. and_then (read_item (level path) text) (λ y. fitting buffer (replaced z y)))
      | false ↦ refused too_long 0
    ]

-- "a correction that shortens the sheet zeroes those up to the old end"
unfoldable pub zeroed : ℕ → List ℕ → List ℕ
zeroed used w = w ++ replicate (used - length w) 0

unfoldable pub correct : List ℕ → ℕ → List ℕ → List ℕ → Outcome ℕ
correct buffer used path text = written buffer (zeroed used) (correction buffer used path text)
