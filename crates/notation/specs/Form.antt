-- From the papers: the form of a text (document 01, Form), as a table of rules. A rule sees one token at a time: it gives a value;
-- denies the last token, or the rule's own first token; takes one more token; or calls another rule by name. Above each rule stands its
-- line of grammar: LEAF is an integer, a word or simple(n); LITERAL a quoted, h or b64 literal; TAG the opening of a tag; `|` is `or`.
use Rattle.std.specs.Prelude.{ℕ, zero, suc, List, [], ◌∷◌, Bool, true, false, leb, eqb, length}
use Rattle.cbor.specs.Refusals.{Result, ok, refuse, bind, bad_indicator, too_deep, not_allowed, mixed_chunks, bad_typed_array}
use Rattle.cbor.specs.Widths.{Width}
use Rattle.cbor.specs.Items.{Kind, byte_string, text_string, Size, definite, indefinite, Chunk, Item, string, chunked, array, map, tag, Items, none, more, Pairs, none₂, more₂, count, count₂, levels}
use Rattle.cbor.specs.Encode.{encode_all}
use Rattle.cbor.specs.TypedArrays.{may_tag}
use Rattle.notation.specs.Indicators.{Indicator, absent, indefinitely, unknown, wide, Chosen, chosen, misfit, choose}
use Rattle.notation.specs.Tokens.{Opener, bracket, brace, tagging, embedding, Beginning, leaf, literal, chunking, opens, Shape, square, curly, round, angle, whole, Token, begins, closes, a_comma, a_colon}
use Rattle.notation.specs.Cutting.{next, place}

-- WHAT CAN BE READ, d levels being left: an item; the items up to what closes a shape, from its start or behind a comma; the pairs
-- of a map; the chunks of a string, of either kind or of one.
--   text = items    array = [ items    map = { pairs    tag = TAG item )    embedded = << items    chunked = (_ chunks
pub data Wanted : Type 0 where
  either : Wanted
  only : Kind → Wanted

-- where in a list: at its start, where it may end; or behind a comma, where one more must follow
pub data Position : Type 0 where
  at_start behind_comma : Position

pub data Name : Type 0 where
  one : ℕ → Name
  items : Shape → Position → ℕ → Name
  pairs : Position → ℕ → Name
  chunks : Wanted → ℕ → Name

-- items, with the indicator on the token that closes them
pub record Closed : Type 0 where
  pub all : Items
  pub indicator : Indicator

pub record Chunks : Type 0 where
  pub kind : Kind
  pub all : List Chunk

abbrev pub Value : Name → Type 0
Value (one d) = Item
Value (items h b d) = Closed
Value (pairs b d) = Pairs
Value (chunks w d) = Chunks

pub data Rule (A : Type 0) : Type 0 where
  give : A → Rule A
  deny deny_first : ℕ → Rule A
  take : (Token → Rule A) → Rule A
  call : (n : Name) → (Value n → Rule A) → Rule A

-- r, and behind it what k makes of its value
unfoldable pub then : {A B : Type 0} → Rule A → (A → Rule B) → Rule B
then (give x) k = k x
then (deny n) k = deny n
then (deny_first n) k = deny_first n
then (take f) k = take (λ t. then (f t) k)
then (call n j) k = call n (λ x. then (j x) k)

-- A TOKEN THAT IS NOT ALLOWED: "3 to 12 by number". An indicator on `>>` that is unknown or `_` alone is 9 (no other closing token
-- has one), a level too many 10, and else 11
unfoldable pub stray_indicator : Indicator → ℕ
stray_indicator absent = not_allowed
stray_indicator indefinitely = bad_indicator
stray_indicator unknown = bad_indicator
stray_indicator (wide w) = not_allowed

unfoldable pub stray_closing : Shape → Indicator → ℕ
stray_closing square i = not_allowed
stray_closing curly i = not_allowed
stray_closing round i = not_allowed
stray_closing angle i = stray_indicator i
stray_closing whole i = not_allowed

unfoldable pub stray : ℕ → Token → ℕ
stray d (begins (leaf x)) = elim (leb (levels x) d) [ true ↦ not_allowed | false ↦ too_deep ]
stray d (begins (literal k z b)) = not_allowed
stray d (begins chunking) = not_allowed
stray zero (begins (opens o)) = too_deep
stray (suc d) (begins (opens o)) = not_allowed
stray d (closes h i) = stray_closing h i
stray d a_comma = not_allowed
stray d a_colon = not_allowed

unfoldable pub strays : {A : Type 0} → ℕ → Token → Rule A
strays d t = deny (stray d t)

-- the shape h is open, and the token closes h'
unfoldable pub shape_number : Shape → ℕ
shape_number square = 0
shape_number curly = 1
shape_number round = 2
shape_number angle = 3
shape_number whole = 4

unfoldable pub closing_rule : {A : Type 0} → ℕ → Shape → Shape → Indicator → A → Rule A
closing_rule d h h' i x = elim (eqb (shape_number h) (shape_number h')) [ true ↦ give x | false ↦ strays d (closes h' i) ]

-- CONTAINERS: "size of an indicator on a container (9) .. at its closing token", the place being the opening token's
unfoldable pub width_rule : Chosen → (Width → Item) → Rule Item
width_rule (chosen w) make = give (make w)
width_rule misfit make = deny_first bad_indicator

unfoldable pub contains : Indicator → ℕ → (Size → Item) → Rule Item
contains absent n make = width_rule (choose absent n) (λ w. make (definite w))
contains indefinitely n make = give (make indefinite)
contains unknown n make = width_rule (choose unknown n) (λ w. make (definite w))
contains (wide w) n make = width_rule (choose (wide w) n) (λ w. make (definite w))

-- "`<<` sheet `>>`: a byte string of the encoded sheet", under the indicator on `>>`
unfoldable pub embeds : Closed → Rule Item
embeds c = width_rule (choose c.indicator (length (encode_all c.all))) (λ w. string byte_string w (encode_all c.all))

-- behind the item of a tag: the typed-array check at the closing token, its place being the tag's
unfoldable pub tag_rule : Width → ℕ → Item → Rule Item
tag_rule w n x = elim (may_tag n x) [ true ↦ give (tag w n x) | false ↦ deny_first bad_typed_array ]

--   after_tag = )
unfoldable pub after_tag : ℕ → Width → ℕ → Item → Token → Rule Item
after_tag d w n x (begins g) = strays d (begins g)
after_tag d w n x (closes h i) = then (closing_rule d round h i x) (tag_rule w n)
after_tag d w n x a_comma = strays d a_comma
after_tag d w n x a_colon = strays d a_colon

-- behind what opens a level
--   inside = items (up to `]`)  |  pairs  |  item after_tag  |  items (up to `>>`)
unfoldable pub inside : ℕ → Opener → Rule Item
inside d (bracket i) = call (items square at_start d) (λ c. contains i (count c.all) (λ z. array z c.all))
inside d (brace i) = call (pairs at_start d) (λ ps. contains i (count₂ ps) (λ z. map z ps))
inside d (tagging w n) = call (one d) (λ x. take (after_tag d w n x))
inside d embedding = call (items angle at_start d) embeds

-- AN ITEM, d levels being left around it
unfoldable pub literal_item : Kind → Size → List ℕ → Item
literal_item k (definite w) b = string k w b
literal_item k indefinite b = chunked k []

--   beginning = LEAF  |  LITERAL  |  (_ chunks  |  [ inside  |  { inside  |  TAG inside  |  << inside
unfoldable pub beginning : ℕ → Beginning → Rule Item
beginning d (leaf x) = elim (leb (levels x) d) [ true ↦ give x | false ↦ deny too_deep ]
beginning d (literal k z b) = give (literal_item k z b)
beginning d chunking = call (chunks either d) (λ c. give (chunked c.kind c.all))
beginning zero (opens o) = deny too_deep
beginning (suc d) (opens o) = inside d o

--   item = beginning
unfoldable pub one_rule : ℕ → Token → Rule Item
one_rule d (begins g) = beginning d g
one_rule d (closes h i) = strays d (closes h i)
one_rule d a_comma = strays d a_comma
one_rule d a_colon = strays d a_colon

-- ITEMS "with one comma between neighbours, none at the end"
unfoldable pub add_item : Item → Closed → Closed
add_item x c = record { all = more x c.all; indicator = c.indicator }

--   after_item = CLOSE  |  , items_behind_comma
unfoldable pub after_item : Shape → ℕ → Item → Token → Rule Closed
after_item h d x (begins g) = strays d (begins g)
after_item h d x (closes h' i) = closing_rule d h h' i (record { all = more x none; indicator = i })
after_item h d x a_comma = call (items h behind_comma d) (λ c. give (add_item x c))
after_item h d x a_colon = strays d a_colon

--   items = CLOSE  |  beginning after_item          items_behind_comma = beginning after_item
unfoldable pub items_rule : Shape → Position → ℕ → Token → Rule Closed
items_rule h b d (begins g) = then (beginning d g) (λ x. take (after_item h d x))
items_rule h at_start d (closes h' i) = closing_rule d h h' i (record { all = none; indicator = i })
items_rule h behind_comma d (closes h' i) = strays d (closes h' i)
items_rule h b d a_comma = strays d a_comma
items_rule h b d a_colon = strays d a_colon

-- "Map: item `:` item pairs with commas"
--   after_value = }  |  , pairs_behind_comma
unfoldable pub after_value : ℕ → Item → Item → Token → Rule Pairs
after_value d k x (begins g) = strays d (begins g)
after_value d k x (closes h i) = closing_rule d curly h i (more₂ k x none₂)
after_value d k x a_comma = call (pairs behind_comma d) (λ ps. give (more₂ k x ps))
after_value d k x a_colon = strays d a_colon

--   after_key = : item after_value
unfoldable pub after_key : ℕ → Item → Token → Rule Pairs
after_key d k (begins g) = strays d (begins g)
after_key d k (closes h i) = strays d (closes h i)
after_key d k a_comma = strays d a_comma
after_key d k a_colon = call (one d) (λ x. take (after_value d k x))

--   pairs = }  |  beginning after_key               pairs_behind_comma = beginning after_key
unfoldable pub pairs_rule : Position → ℕ → Token → Rule Pairs
pairs_rule b d (begins g) = then (beginning d g) (λ k. take (after_key d k))
pairs_rule at_start d (closes h i) = closing_rule d curly h i none₂
pairs_rule behind_comma d (closes h i) = strays d (closes h i)
pairs_rule b d a_comma = strays d a_comma
pairs_rule b d a_colon = strays d a_colon

-- "`(_`, one or more strings with commas, `)`": 9 for one that is indefinite, 12 for one of the other kind
unfoldable pub add_chunk : Chunk → Chunks → Chunks
add_chunk c cs = record { kind = cs.kind; all = c ∷ cs.all }

--   after_chunk = )  |  , chunks
unfoldable pub after_chunk : ℕ → Kind → Chunk → Token → Rule Chunks
after_chunk d k c (begins g) = strays d (begins g)
after_chunk d k c (closes h i) = closing_rule d round h i (record { kind = k; all = c ∷ [] })
after_chunk d k c a_comma = call (chunks (only k) d) (λ cs. give (add_chunk c cs))
after_chunk d k c a_colon = strays d a_colon

unfoldable pub is_wanted : Wanted → Kind → Bool
is_wanted either k = true
is_wanted (only byte_string) byte_string = true
is_wanted (only byte_string) text_string = false
is_wanted (only text_string) byte_string = false
is_wanted (only text_string) text_string = true

unfoldable pub chunk_rule : Wanted → ℕ → Kind → Size → List ℕ → Rule Chunks
chunk_rule want d k (definite w) b = elim (is_wanted want k) [ true ↦ take (after_chunk d k (record { width = w; content = b })) | false ↦ deny mixed_chunks ]
chunk_rule want d k indefinite b = deny bad_indicator

--   chunks = LITERAL after_chunk
unfoldable pub chunks_rule : Wanted → ℕ → Token → Rule Chunks
chunks_rule want d (begins (leaf x)) = strays d (begins (leaf x))
chunks_rule want d (begins (literal k z b)) = chunk_rule want d k z b
chunks_rule want d (begins chunking) = strays d (begins chunking)
chunks_rule want d (begins (opens o)) = strays d (begins (opens o))
chunks_rule want d (closes h i) = strays d (closes h i)
chunks_rule want d a_comma = strays d a_comma
chunks_rule want d a_colon = strays d a_colon

-- THE TABLE
unfoldable pub rules : (n : Name) → Token → Rule (Value n)
rules (one d) t = one_rule d t
rules (items h b d) t = items_rule h b d t
rules (pairs b d) t = pairs_rule b d t
rules (chunks w d) t = chunks_rule w d t

-- A rule on the text s: p is how much was left at its first token, q at the last one, and c reads what is called.
abbrev pub Calls : Type 0
Calls = (n : Name) → List ℕ → Result (Value n)

unfoldable pub obey : {A : Type 0} → Calls → Rule A → ℕ → ℕ → List ℕ → Result A
obey c (give x) p q s = ok x s
obey c (deny k) p q s = refuse k q
obey c (deny_first k) p q s = refuse k p
obey c (take f) p q s = bind (next s) (λ t r. obey c (f t) p (place s) r)
obey c (call n k) p q s = bind (c n s) (λ x r. obey c (k x) p q r)

-- What is read by name, with f calls one in another. Each call takes a token, so that the text's length bounds them.
unfoldable pub reads_within : ℕ → Calls
reads_within zero n s = refuse 0 0
reads_within (suc f) n s = bind (next s) (λ t r. obey (reads_within f) (rules n t) (place s) (place s) r)

unfoldable pub reads : Calls
reads n s = reads_within (suc (length s)) n s
