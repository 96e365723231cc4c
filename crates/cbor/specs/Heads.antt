-- From the papers: heads (RFC 8949, section 3): an initial byte, major type and additional information, and the bytes of the argument
-- behind it.
use Rattle.std.specs.Prelude.{ℕ, suc, ◌+◌, ◌-◌, ◌*◌, ◌/◌, ◌%◌, List, [], ◌∷◌, Bool, true, false, leb, length, take, drop, get_or}
use Rattle.cbor.specs.Refusals.{Result, ok, refuse, bind, float, ends_inside, not_well_formed}
use Rattle.cbor.specs.Widths.{Width, w0, w1, w2, w4, w8, argument_bytes, information, big_endian, value_from}
use Rattle.cbor.specs.Items.{Sign, unsigned, negative, Kind, byte_string, text_string, Size, definite, indefinite, Item, int, string, chunked, array, map, tag, simple}

-- the eight major types (RFC 8949, section 3.1)
pub data Major : Type 0 where
  integers : Sign → Major
  strings : Kind → Major
  arrays maps tags simples : Major

unfoldable pub major_number : Major → ℕ
major_number (integers unsigned) = 0
major_number (integers negative) = 1
major_number (strings byte_string) = 2
major_number (strings text_string) = 3
major_number arrays = 4
major_number maps = 5
major_number tags = 6
major_number simples = 7

unfoldable pub major_of : ℕ → Major
major_of m = get_or (integers unsigned ∷ integers negative ∷ strings byte_string ∷ strings text_string ∷ arrays ∷ maps ∷ tags ∷ []) m simples

unfoldable pub item_major : Item → Major
item_major (int g w n) = integers g
item_major (string k w b) = strings k
item_major (chunked k cs) = strings k
item_major (array z xs) = arrays
item_major (map z ps) = maps
item_major (tag w n x) = tags
item_major (simple n) = simples

-- WRITING

unfoldable pub initial : Major → ℕ → ℕ
initial m i = major_number m * 32 + i

unfoldable pub head : Major → Width → ℕ → List ℕ
head m w n = initial m (information w n) ∷ big_endian (argument_bytes w) n

-- "break", ff: additional information 31 of major type 7
abbrev pub break : ℕ
break = 255

-- READING

pub record Head : Type 0 where
  pub major : Major
  pub size : Size
  pub argument : ℕ

-- what additional information says: an argument of a width, 28 to 30, or 31
pub data Information : Type 0 where
  argument : Width → Information
  reserved open_ended : Information

unfoldable pub information_of : ℕ → Information
information_of i =
    elim (leb i 23) [
      | true ↦ argument w0
      | false ↦ get_or (argument w1 ∷ argument w2 ∷ argument w4 ∷ argument w8 ∷ reserved ∷ reserved ∷ reserved ∷ []) (i - 24) open_ended
    ]

-- half, single and double precision floats: f9, fa, fb
unfoldable pub is_float : Major → Width → Bool
is_float (integers g) w = false
is_float (strings k) w = false
is_float arrays w = false
is_float maps w = false
is_float tags w = false
is_float simples w0 = false
is_float simples w1 = false
is_float simples w2 = true
is_float simples w4 = true
is_float simples w8 = true

-- f8 is followed by 20 hex or more
unfoldable pub is_allowed : Major → Width → ℕ → Bool
is_allowed (integers g) w n = true
is_allowed (strings k) w n = true
is_allowed arrays w n = true
is_allowed maps w n = true
is_allowed tags w n = true
is_allowed simples w0 n = true
is_allowed simples w1 n = leb 32 n
is_allowed simples w2 n = true
is_allowed simples w4 n = true
is_allowed simples w8 n = true

-- 31 is an indefinite length, or the break
unfoldable pub is_indefinite : Major → Bool
is_indefinite (integers g) = false
is_indefinite (strings k) = true
is_indefinite arrays = true
is_indefinite maps = true
is_indefinite tags = false
is_indefinite simples = true

-- the first k bytes of s. 15: they are not there; the refusal stands where `left` were left
unfoldable pub taking : ℕ → ℕ → List ℕ → Result (List ℕ)
taking k left s = elim (leb k (length s)) [ true ↦ ok (take k s) (drop k s) | false ↦ refuse ends_inside left ]

-- the argument starts as the additional information i, or as nothing, and goes on in its bytes
unfoldable pub started : Width → ℕ → ℕ
started w0 i = i
started w1 i = 0
started w2 i = 0
started w4 i = 0
started w8 i = 0

unfoldable pub argued : Major → Width → ℕ → ℕ → List ℕ → Result Head
argued m w n left r = elim (is_allowed m w n) [ true ↦ ok (record { major = m; size = definite w; argument = n }) r | false ↦ refuse not_well_formed left ]

unfoldable pub head_by : Major → Information → ℕ → ℕ → List ℕ → Result Head
head_by m (argument w) i left s =
    elim (is_float m w) [
      | true ↦ refuse float left
      | false ↦ bind (taking (argument_bytes w) left s) (λ bs r. argued m w (value_from (started w i) bs) left r)
    ]
head_by m reserved i left s = refuse not_well_formed left
head_by m open_ended i left s = elim (is_indefinite m) [ true ↦ ok (record { major = m; size = indefinite; argument = 0 }) s | false ↦ refuse not_well_formed left ]

-- The head at the front: 16, 6, 15 in document 01's order, at the head; 15 where there is none.
unfoldable pub next_head : List ℕ → Result Head
next_head [] = refuse ends_inside 0
next_head (b ∷ s) = head_by (major_of (b / 32)) (information_of (b % 32)) (b % 32) (suc (length s)) s
