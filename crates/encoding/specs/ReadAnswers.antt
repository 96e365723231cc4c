-- Of the code: what the readers of the code answer. s is a text; the definitions read it with its end mark.
use Rattle.std.specs.Prelude.{ℕ, ◌+◌, ◌-◌, ◌*◌, ◌%◌, ◌≤◌, ◌<◌, ◌^◌, ◌≡◌, Bool, true, false, List, [], ◌∷◌, ◌++◌, eqb, length, take}
use Rattle.cbor.specs.Refusals.{Result, ok, refuse, bind, Verdict, accepted, refused, bad_indicator, too_deep, not_allowed, mixed_chunks, bad_typed_array}
use Rattle.cbor.specs.Widths.{Width, w0, w1, w2, w4, w8, limit, shortest, information}
use Rattle.cbor.specs.Items.{Kind, byte_string, text_string, Size, definite, indefinite, Chunk, Item, int, string, chunked, array, map, tag, simple, Pairs, count, count₂}
use Rattle.cbor.specs.Encode.{encode_string, encode_chunks, encode, encode_all, encode_all₂}
use Rattle.cbor.specs.TypedArrays.{chunks_length, may_tag}
use Rattle.numbers.specs.NumberAnswers.{choose_by}
use Rattle.memory.specs.Buffer.{over_if_fits}
use Rattle.refusal.specs.RefusalKinds.{kind_number}
use Rattle.head.specs.HeadAnswers.{head_bytes}
use Rattle.notation.specs.Indicators.{Indicator, absent, indefinitely, unknown, wide}
use Rattle.notation.specs.Tokens.{Opener, leaf, literal, chunking, opens, Shape, square, curly, round, angle, whole, Token, begins, closes, a_comma, a_colon}
use Rattle.notation.specs.Cutting.{next, place}
use Rattle.notation.specs.Form.{either, only, one, chunks, Closed, Chunks, stray, inside, is_wanted, literal_item, obey, reads}
use Rattle.notation.specs.Reading.{marked}
use Rattle.scanning.specs.Stands.{Stands}
use Rattle.token.specs.TokenAnswers.{indicator_number, kind_code, size_number, code_of, Spelled}
use Rattle.token.specs.declared.Token.{Token as Cut}
use Rattle.encoding.specs.declared.answer.MadeItem.{MadeItem}
use Rattle.std.specs.Prelude.{Ok, Err}
use Rattle.std.specs.Prelude as std
use Rattle.refusal.specs.declared.Refusal.{Refusal}

-- WHAT THE CODE KNOWS of a thing that was read: its bytes; how many things it is, or how long the content of a chunk; the indicator on
-- the token that closed it, by its number; and what the check of typed arrays asks for
pub data Held : Type 0 where
  unsaid no_bytes : Held
  bytes_of : ℕ → Held

pub record View : Type 0 where
  pub bytes : List ℕ
  pub count : ℕ
  pub indicator : ℕ
  pub held : Held

-- a byte string, with its length, or another item
unfoldable pub held_of : Item → Held
held_of (int g w n) = no_bytes
held_of (string byte_string w b) = bytes_of (length b)
held_of (string text_string w b) = no_bytes
held_of (chunked byte_string cs) = bytes_of (chunks_length cs)
held_of (chunked text_string cs) = no_bytes
held_of (array z xs) = no_bytes
held_of (map z ps) = no_bytes
held_of (tag w n x) = no_bytes
held_of (simple n) = no_bytes

-- the code says it so: whether it is a byte string, and how long
unfoldable pub Tells : Held → Bool → ℕ → Type 0
Tells unsaid t n = Unit {0}
Tells no_bytes t n = t ≡ false
Tells (bytes_of k) t n = (t ≡ true) × (n ≡ k)

unfoldable pub of_item : Item → View
of_item x = record { bytes = encode x; count = 1; indicator = 0; held = held_of x }

unfoldable pub of_closed : Closed → View
of_closed c = record { bytes = encode_all c.all; count = count c.all; indicator = indicator_number c.indicator; held = unsaid }

unfoldable pub of_pairs : Pairs → View
of_pairs ps = record { bytes = encode_all₂ ps; count = count₂ ps; indicator = 0; held = unsaid }

unfoldable pub of_chunk : Kind → Chunk → View
of_chunk k c = record { bytes = encode_string k c.width c.content; count = length c.content; indicator = 0; held = unsaid }

unfoldable pub of_chunks : Kind → Chunks → View
of_chunks k cs = record { bytes = encode_chunks k cs.all; count = chunks_length cs.all; indicator = 0; held = held_of (chunked cs.kind cs.all) }

-- of an item behind the head of a tag
unfoldable pub of_tagged : ℕ → ℕ → Item → View
of_tagged initial n x = record { bytes = head_bytes initial n ++ encode x; count = 1; indicator = 0; held = no_bytes }

-- READERS that the definitions do not name

-- an item, and behind it the token of a code
unfoldable pub follow_by : ℕ → ℕ → Item → Token → ℕ → List ℕ → Result Item
follow_by code d x t p r = elim (eqb (code_of t) code) [ true ↦ ok x r | false ↦ refuse (stray d t) p ]

unfoldable pub followed : ℕ → ℕ → List ℕ → Result Item
followed code d s = bind (reads (one d) s) (λ x r. bind (next r) (λ t r'. follow_by code d x t (place r) r'))

-- a chunk of a kind
unfoldable pub chunk_of : Kind → Kind → Size → List ℕ → ℕ → List ℕ → Result Chunk
chunk_of k k' (definite w) b p r = elim (is_wanted (only k) k') [ true ↦ ok (record { width = w; content = b }) r | false ↦ refuse mixed_chunks p ]
chunk_of k k' indefinite b p r = refuse bad_indicator p

unfoldable pub chunk_read_by : Kind → ℕ → Token → ℕ → List ℕ → Result Chunk
chunk_read_by k d (begins (leaf x)) p r = refuse (stray d (begins (leaf x))) p
chunk_read_by k d (begins (literal k' z b)) p r = chunk_of k k' z b p r
chunk_read_by k d (begins chunking) p r = refuse (stray d (begins chunking)) p
chunk_read_by k d (begins (opens o)) p r = refuse (stray d (begins (opens o))) p
chunk_read_by k d (closes h i) p r = refuse (stray d (closes h i)) p
chunk_read_by k d a_comma p r = refuse (stray d a_comma) p
chunk_read_by k d a_colon p r = refuse (stray d a_colon) p

unfoldable pub chunk_read : Kind → ℕ → List ℕ → Result Chunk
chunk_read k d s = bind (next s) (λ t r. chunk_read_by k d t (place s) r)

-- a string in chunks
unfoldable pub chunked_read : ℕ → List ℕ → Result Item
chunked_read d s = bind (reads (chunks either d) s) (λ c r. ok (chunked c.kind c.all) r)

-- what stands behind an opening token at a place p, and the item of a tag with the check of typed arrays
unfoldable pub behind_opener : ℕ → Opener → ℕ → List ℕ → Result Item
behind_opener d o p s = obey reads (inside d o) p p s

unfoldable pub tagged_read : ℕ → ℕ → ℕ → List ℕ → Result Item
tagged_read d n p s = bind (followed 14 d s) (λ x r. elim (may_tag n x) [ true ↦ ok x r | false ↦ refuse bad_typed_array p ])

-- NUMBERS OF THE CODE

unfoldable pub indicator_for : ℕ → Indicator
indicator_for k =
    elim (eqb k 0) [
      | true ↦ absent
      | false ↦ elim (eqb k 1) [
        | true ↦ indefinitely
        | false ↦ elim (eqb k 2) [
          | true ↦ unknown
          | false ↦ elim (eqb k 3) [
            | true ↦ wide w0
            | false ↦ elim (eqb k 4) [
              | true ↦ wide w1
              | false ↦ elim (eqb k 5) [
                | true ↦ wide w2
                | false ↦ elim (eqb k 6) [ true ↦ wide w4 | false ↦ wide w8 ]
              ]
            ]
          ]
        ]
      ]
    ]

-- a shape by the code of its closing token
unfoldable pub shape_for : ℕ → Shape
shape_for k = elim (eqb k 14) [ true ↦ round | false ↦ elim (eqb k 16) [ true ↦ square | false ↦ elim (eqb k 18) [ true ↦ curly | false ↦ elim (eqb k 20) [ true ↦ angle | false ↦ whole ] ] ] ]

-- a kind of string by the code of its literals
unfoldable pub kind_for : ℕ → Kind
kind_for k = elim (eqb k 4) [ true ↦ text_string | false ↦ byte_string ]

-- the additional information for a width, a size or no indicator, by its number, and the argument n
unfoldable pub info_by : ℕ → ℕ → ℕ
info_by k n =
    elim (eqb k 0) [
      | true ↦ information (shortest n) n
      | false ↦ elim (eqb k 1) [
        | true ↦ 31
        | false ↦ elim (eqb k 3) [ true ↦ n % 32 | false ↦ elim (eqb k 4) [ true ↦ 24 | false ↦ elim (eqb k 5) [ true ↦ 25 | false ↦ elim (eqb k 6) [ true ↦ 26 | false ↦ 27 ] ] ] ]
      ]
    ]

pub record Informed (k n r : ℕ) : Type 0 where
  pub is : r ≡ info_by k n
  pub most : r ≤ 31

-- the initial byte of a token that is a leaf, a literal or a tag
unfoldable pub major_by : ℕ → ℕ
major_by c = elim (eqb c 1) [ true ↦ 0 | false ↦ elim (eqb c 2) [ true ↦ 1 | false ↦ elim (eqb c 3) [ true ↦ 7 | false ↦ elim (eqb c 4) [ true ↦ 3 | false ↦ elim (eqb c 5) [ true ↦ 2 | false ↦ 6 ] ] ] ] ]

unfoldable pub initial_by : Cut → ℕ
initial_by t = major_by t.kind * 32 + info_by t.indicator t.argument

pub record MajorBy (c r : ℕ) : Type 0 where
  pub is : r ≡ major_by c
  pub most : r ≤ 7

-- how many bytes a head has
pub record HeadSize (i r : ℕ) : Type 0 where
  pub is : (n : ℕ) → r ≡ length (head_bytes i n)
  pub most : r ≤ 9

-- the number of a token that may not stand where it does; of what is no token its own
unfoldable pub stray_by : ℕ → ℕ → ℕ → ℕ → ℕ
stray_by d code refusal mark =
    elim (eqb code 0) [
      | true ↦ refusal
      | false ↦ elim (eqb code 20) [
        | true ↦ elim (eqb mark 1) [ true ↦ bad_indicator | false ↦ elim (eqb mark 2) [ true ↦ bad_indicator | false ↦ not_allowed ] ]
        | false ↦ elim (eqb d 0) [
          | true ↦ elim (eqb code 6) [ true ↦ too_deep | false ↦ elim (eqb code 15) [ true ↦ too_deep | false ↦ elim (eqb code 17) [ true ↦ too_deep | false ↦ elim (eqb code 19) [ true ↦ too_deep | false ↦ not_allowed ] ] ] ]
          | false ↦ not_allowed
        ]
      ]
    ]

-- whether a string of a kind, by the code of its literals, is one of bytes
unfoldable pub is_bytes_by : ℕ → Bool
is_bytes_by k = elim (eqb k 4) [ true ↦ false | false ↦ true ]

-- WRITING

-- from b to b': ws was written from p on, if it fits; what stands before it is kept, and of what stands behind it nothing is said. If it does
-- not fit, nothing is said but that the buffer is as long
pub record Wrote (b b' : List ℕ) (p : ℕ) (ws : List ℕ) : Type 0 where
  pub same : length b' ≡ length b
  pub behind : List ℕ
  pub is : p + length ws ≤ length b → b' ≡ take p b ++ (ws ++ behind)

-- what a literal holds was written
pub record Filled (s : List ℕ) (t : Cut) (b b' : List ℕ) (p : ℕ) : Type 0 where
  pub is : (c : List ℕ) → Spelled s t.form t.start t.stop c → Wrote b b' p c
  pub same : length b' ≡ length b

-- WHERE READERS MAY BE CALLED: within a text, with a place in the buffer from which no sum wraps
pub record Room (s : List ℕ) (at pos : ℕ) : Type 0 where
  pub inside : at ≤ length (marked s)
  pub room : pos + 9 * (length (marked s) - at) < 2 ^ 32

-- behind an opening token at a place, with room for a head at pos
pub record Opened (s : List ℕ) (at pos place : ℕ) : Type 0 where
  pub inside : at ≤ length (marked s)
  pub room : pos + 9 + 9 * (length (marked s) - at) < 2 ^ 32
  pub before : place ≤ length (marked s)

-- the same behind `[` or `{` with an indicator, by its number
pub record Bracketed (s : List ℕ) (at pos place mark : ℕ) : Type 0 where
  pub opened : Opened s at pos place
  pub known : indicator_number (indicator_for mark) ≡ mark

-- before chunks of a kind
pub record Strings (s : List ℕ) (at pos kind : ℕ) : Type 0 where
  pub room : Room s at pos
  pub kinds : kind_code (kind_for kind) ≡ kind

pub record Light (n : ℕ) : Type 0 where
  pub fits : n < 2 ^ 40

pub record Heavy (major size : ℕ) : Type 0 where
  pub most : major ≤ 7
  pub fits : size < 2 ^ 40

-- so few that a head says it in one byte
pub record Few (n : ℕ) : Type 0 where
  pub most : n < 24

-- t: there are few things, and no indicator
pub record IsShort (indicator count : ℕ) (t : Bool) : Type 0 where
  pub none : t ≡ true → indicator ≡ 0
  pub few : t ≡ true → count < 24

-- room r for a head at pos, in a buffer of so many bytes: where it is more than one byte, 255 bytes fit behind it
pub record Roomed (pos end r : ℕ) : Type 0 where
  pub some : 1 ≤ r
  pub most : r ≤ 3
  pub ample : 1 < r → pos + 258 ≤ end

-- ANSWERS

-- what each case of a reader's answer says: what was made, with its facts; or the number of the paper's table and the place
unfoldable pub verdict_by : std.Result MadeItem Refusal → Verdict MadeItem
verdict_by (Ok m) = accepted m
verdict_by (Err e) = refused (kind_number e.kind) e.place

-- a reader's answer m, at pos: a thing x was read, and r is left. Its bytes are at most nine for each byte of the text, of which there
-- were `most`, and they are in the buffer from pos on, if they fit
pub record MovedOn (s b b' : List ℕ) (most pos : ℕ) (m : MadeItem) (x : View) (r : List ℕ) : Type 0 where
  pub stands : Stands (marked s) m.next r
  pub sized : m.size ≡ length x.bytes
  pub counted : m.count ≡ x.count
  pub indicated : m.indicator ≡ x.indicator
  pub tells : Tells x.held m.binary m.length
  pub many : x.count ≤ m.size
  pub short : m.size + 9 * length r ≤ 9 * most
  pub wrote : Wrote b b' pos x.bytes

pub record Became {A : Type 0} (v : A → View) (s b b' : List ℕ) (most pos : ℕ) (a : std.Result MadeItem Refusal) (x : A) (r : List ℕ) : Type 0 where
  pub made : MadeItem
  pub is : verdict_by a ≡ accepted made
  pub moved : MovedOn s b b' most pos made (v x) r

-- a refusal by the number k where q is left
pub record Denied (s : List ℕ) (a : std.Result MadeItem Refusal) (k q : ℕ) : Type 0 where
  pub is : verdict_by a ≡ refused k (length (marked s) - q)

unfoldable pub After : {A : Type 0} → (A → View) → List ℕ → List ℕ → List ℕ → ℕ → ℕ → std.Result MadeItem Refusal → Result A → Type 0
After v s b b' most pos a (ok x r) = Became v s b b' most pos a x r
After v s b b' most pos a (refuse k q) = Denied s a k q

-- what a reader at pos tells of the result that the definitions have
pub record ReadTold {A : Type 0} (v : A → View) (s b b' : List ℕ) (most pos : ℕ) (a : std.Result MadeItem Refusal) (res : Result A) : Type 0 where
  pub after : After v s b b' most pos a res

-- the same of chunks of a kind
pub record ChunksTold (kind : ℕ) (s b b' : List ℕ) (most pos : ℕ) (a : std.Result MadeItem Refusal) (res : Result Chunks) : Type 0 where
  pub told : ReadTold (of_chunks (kind_for kind)) s b b' most pos a res
  pub kept : (m : MadeItem) → a ≡ Ok m → (m.binary ≡ is_bytes_by kind) × (m.length ≡ m.count)

-- a refusal at a token that may not stand where it does
pub record Strayed (d : ℕ) (t : Cut) (a : std.Result MadeItem Refusal) : Type 0 where
  pub number : ℕ
  pub is : verdict_by a ≡ refused number t.place
  pub known : 1 ≤ stray_by d t.kind t.refusal t.indicator → stray_by d t.kind t.refusal t.indicator ≤ 17 → number ≡ stray_by d t.kind t.refusal t.indicator

-- a refusal by a number
pub record Denies (k at : ℕ) (a : std.Result MadeItem Refusal) : Type 0 where
  pub is : verdict_by a ≡ refused k at

-- a thing was written at pos that v is the view of
pub record Gave (b b' : List ℕ) (pos next : ℕ) (a : std.Result MadeItem Refusal) (v : View) : Type 0 where
  pub made : MadeItem
  pub is : a ≡ Ok made
  pub next_is : made.next ≡ next
  pub sized : made.size ≡ length v.bytes
  pub counted : made.count ≡ v.count
  pub indicated : made.indicator ≡ v.indicator
  pub tells : Tells v.held made.binary made.length
  pub wrote : Wrote b b' pos v.bytes

-- a head was written, which has r bytes
pub record HeadWritten (b b' : List ℕ) (pos first n r : ℕ) : Type 0 where
  pub wrote : Wrote b b' pos (head_bytes first n)
  pub size : HeadSize first r

-- a leaf: its head
pub record Leafed (t : Cut) (b b' : List ℕ) (pos : ℕ) (a : std.Result MadeItem Refusal) : Type 0 where
  pub is : a ≡ Ok (record { next = t.next; size = length (head_bytes (initial_by t) t.argument); count = 1; indicator = 0; binary = false; length = 0 })
  pub wrote : Wrote b b' pos (head_bytes (initial_by t) t.argument)

-- a string's head and content
pub record Stringed (s : List ℕ) (t : Cut) (b b' : List ℕ) (pos size : ℕ) : Type 0 where
  pub size_is : size ≡ length (head_bytes (initial_by t) t.argument) + t.argument
  pub wrote : (c : List ℕ) → t.argument ≡ length c → Spelled s t.form t.start t.stop c → Wrote b b' pos (head_bytes (initial_by t) t.argument ++ c)
  pub same : length b' ≡ length b

-- a literal: t is one of the kind k, of a size z, which holds c
pub record LiteralIs (s : List ℕ) (t : Cut) (k : Kind) (z : Size) (c : List ℕ) : Type 0 where
  pub code : t.kind ≡ kind_code k
  pub size : t.indicator ≡ size_number z
  pub number : t.argument ≡ length c
  pub spelled : Spelled s t.form t.start t.stop c
  pub fit : (w : Width) → z ≡ definite w → length c ≤ limit w

pub record LiteralTold (s : List ℕ) (t : Cut) (b b' : List ℕ) (pos : ℕ) (a : std.Result MadeItem Refusal) : Type 0 where
  pub is : (k : Kind) (z : Size) (c : List ℕ) → LiteralIs s t k z c → Gave b b' pos t.next a (of_item (literal_item k z c))

-- a head was put, which has r bytes, before the size bytes that stood behind one byte of room for it
pub record Closes (b b' : List ℕ) (pos : ℕ) (hs : List ℕ) (size r : ℕ) : Type 0 where
  pub is : (b₀ ws : List ℕ) → Wrote b₀ b (pos + 1) ws → size ≡ length ws → Wrote b₀ b' pos (hs ++ ws)
  pub sized : r ≡ length hs

-- a container: a head as an indicator asks was put before what was read behind some room for it, or is refused at a place. Where the head is
-- smaller than the room, what was read must have had its place behind the room
pub record Finished (b b' : List ℕ) (pos room major indicator n next size place : ℕ) (binary : Bool) (length' : ℕ) (a : std.Result MadeItem Refusal) : Type 0 where
  pub refused : choose_by indicator n ≡ 0 → Denies bad_indicator place a
  pub made : (choose_by indicator n ≡ 0 → ⊥)
      → a ≡ Ok (record { next = next; size = length (head_bytes (major * 32 + info_by (choose_by indicator n) n) n) + size; count = 1; indicator = 0; binary = binary; length = length' })
  pub closed : (choose_by indicator n ≡ 0 → ⊥) → (b₀ ws : List ℕ) → Wrote b₀ b (pos + room) ws → size ≡ length ws
      → (length (head_bytes (major * 32 + info_by (choose_by indicator n) n) n) < room → pos + room + size ≤ length b) → Wrote b₀ b' pos (head_bytes (major * 32 + info_by (choose_by indicator n) n) n ++ ws)

-- the same without an indicator for few things, whatever the place
pub record FinishedShort (b b' : List ℕ) (pos major n next size : ℕ) (a : std.Result MadeItem Refusal) : Type 0 where
  pub is : (place : ℕ) → Finished b b' pos 1 major 0 n next size place false 0 a

-- a thing of indefinite length: the byte `first` was put before what was read, and a break behind it
pub record Ended (b b' : List ℕ) (pos first next size : ℕ) (binary : Bool) (length' : ℕ) (a : std.Result MadeItem Refusal) : Type 0 where
  pub mid : List ℕ
  pub front : mid ≡ over_if_fits b pos (first ∷ [])
  pub back : Wrote mid b' (pos + size + 1) (255 ∷ [])
  pub is : a ≡ Ok (record { next = next; size = size + 2; count = 1; indicator = 0; binary = binary; length = length' })
