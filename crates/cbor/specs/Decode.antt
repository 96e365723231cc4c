-- From the papers: from bytes to items (RFC 8949; document 01, "Refusal numbers": bytes).
use Rattle.std.specs.Prelude.{ℕ, zero, suc, ◌/◌, List, [], ◌∷◌, true, false, leb, eqb, length}
use Rattle.cbor.specs.Refusals.{Result, ok, refuse, bind, too_long, not_utf8, too_deep, bad_typed_array, ends_inside, not_well_formed}
use Rattle.cbor.specs.Widths.{Width}
use Rattle.cbor.specs.Items.{Kind, Size, definite, indefinite, Chunk, Item, int, string, chunked, array, map, tag, simple, Items, none, more, Pairs, none₂, more₂}
use Rattle.cbor.specs.Heads.{Major, integers, strings, arrays, maps, tags, simples, next_head, taking, major_number, break}
use Rattle.cbor.specs.Valid.{is_text}
use Rattle.cbor.specs.TypedArrays.{may_tag}

-- SEVERAL, one behind the other

-- how far: a number of them (counts are walked, neither doubled nor compared with what is left), to a break, to the end of the bytes
pub data Until : Type 0 where
  counted : ℕ → Until
  broken ended : Until

pub data Step : Type 0 where
  finished : List ℕ → Step
  another : Until → Step

unfoldable pub step_at : Until → List ℕ → Step
step_at (counted zero) s = finished s
step_at (counted (suc n)) s = another (counted n)
step_at broken [] = another broken
step_at broken (b ∷ s) = elim (eqb b break) [ true ↦ finished s | false ↦ another broken ]
step_at ended [] = finished []
step_at ended (b ∷ s) = another ended

-- What rd reads, again and again, put together by nil and cons. Each takes a byte at least, so the length of the bytes bounds
-- their number, f.
module _ {A L : Type 0} (nil : L) (cons : A → L → L) (rd : List ℕ → Result A) where
  unfoldable pub several_by : (Until → List ℕ → Result L) → Step → List ℕ → Result L
  several_by go (finished r) s = ok nil r
  several_by go (another u) s = bind (rd s) (λ x r. bind (go u r) (λ xs r'. ok (cons x xs) r'))

  unfoldable pub several_within : ℕ → Until → List ℕ → Result L
  several_within zero u s = refuse 0 0
  several_within (suc f) u s = several_by (several_within f) (step_at u s) s

  unfoldable pub several : Until → List ℕ → Result L
  several u s = several_within (suc (length s)) u s

-- STRINGS

-- 15, then 2, at the head, where `left` were left
unfoldable pub content_at : Kind → ℕ → ℕ → List ℕ → Result (List ℕ)
content_at k n left s = bind (taking n left s) (λ b r. elim (is_text k b) [ true ↦ ok b r | false ↦ refuse not_utf8 left ])

unfoldable pub chunk_by : Kind → Size → ℕ → ℕ → List ℕ → Result Chunk
chunk_by k (definite w) n left s = bind (content_at k n left s) (λ b r. ok (record { width = w; content = b }) r)
chunk_by k indefinite n left s = refuse not_well_formed left

-- a wrong chunk is 16, whatever else its head has
unfoldable pub chunk_at : Kind → List ℕ → Result Chunk
chunk_at k [] = refuse ends_inside 0
chunk_at k (b ∷ s) = elim (eqb (b / 32) (major_number (strings k))) [ true ↦ bind (next_head (b ∷ s)) (λ h r. chunk_by k h.size h.argument (suc (length s)) r) | false ↦ refuse not_well_formed (suc (length s)) ]

-- ITEMS

pub record Entry : Type 0 where
  pub key : Item
  pub value : Item

unfoldable pub entry_at : (List ℕ → Result Item) → List ℕ → Result Entry
entry_at rd s = bind (rd s) (λ k r. bind (rd r) (λ x r'. ok (record { key = k; value = x }) r'))

unfoldable pub extent : Size → ℕ → Until
extent (definite w) n = counted n
extent indefinite n = broken

unfoldable pub tagged : Width → ℕ → ℕ → Item → List ℕ → Result Item
tagged w n left x r = elim (may_tag n x) [ true ↦ ok (tag w n x) r | false ↦ refuse bad_typed_array left ]

unfoldable pub elements : (List ℕ → Result Item) → Until → List ℕ → Result Items
elements rd = several none more rd

abbrev pub pair : Entry → Pairs → Pairs
pair e ps = more₂ e.key e.value ps

unfoldable pub entries : (List ℕ → Result Item) → Until → List ℕ → Result Pairs
entries rd = several none₂ pair (entry_at rd)

unfoldable pub chunks_of : Kind → List ℕ → Result (List Chunk)
chunks_of k = several [] ◌∷◌ (chunk_at k) broken

-- one level down: what reads items there is handed on; 10 at the head if there is no level left
abbrev pub Enter : Type 0
Enter = ℕ → ((List ℕ → Result Item) → Result Item) → Result Item

-- what stands behind a head, where `left` were left at the head; major type 7 with 31 is a break, and no item
unfoldable pub item_by : Enter → Major → Size → ℕ → ℕ → List ℕ → Result Item
item_by enter (integers g) (definite w) n left r = ok (int g w n) r
item_by enter (integers g) indefinite n left r = refuse not_well_formed left
item_by enter (strings k) (definite w) n left r = bind (content_at k n left r) (λ b r'. ok (string k w b) r')
item_by enter (strings k) indefinite n left r = bind (chunks_of k r) (λ cs r'. ok (chunked k cs) r')
item_by enter arrays z n left r = enter left (λ rd. bind (elements rd (extent z n) r) (λ xs r'. ok (array z xs) r'))
item_by enter maps z n left r = enter left (λ rd. bind (entries rd (extent z n) r) (λ ps r'. ok (map z ps) r'))
item_by enter tags (definite w) n left r = enter left (λ rd. bind (rd r) (tagged w n left))
item_by enter tags indefinite n left r = refuse not_well_formed left
item_by enter simples (definite w) n left r = ok (simple n) r
item_by enter simples indefinite n left r = refuse not_well_formed left

unfoldable pub item_with : Enter → List ℕ → Result Item
item_with enter s = bind (next_head s) (λ h r. item_by enter h.major h.size h.argument (length s) r)

-- the item at the front, with d levels left
unfoldable pub item : ℕ → List ℕ → Result Item
item zero s = item_with (λ left go. refuse too_deep left) s
item (suc d) s = item_with (λ left go. go (item d)) s

-- THE WHOLE: "Text, bytes, result: at most 65,535 bytes each. Depth: 16"
abbrev pub most_bytes : ℕ
most_bytes = 65535

abbrev pub most_levels : ℕ
most_levels = 16

unfoldable pub decode : List ℕ → Result Items
decode s = elim (leb (length s) most_bytes) [ true ↦ elements (item most_levels) ended s | false ↦ refuse too_long (length s) ]
