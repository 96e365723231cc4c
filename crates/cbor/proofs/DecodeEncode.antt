-- Decoding what was encoded gives it back.
use Prim.Native.Nat.{ℕ, zero, suc, ◌+◌, ◌*◌, ◌/◌, ◌≤◌}
use native.Mathlib.Omega.{arith}
use mathlib.Core.Path.{◌≡◌, refl, sym, ap, ◌∙◌}
use mathlib.Core.Bool.{Bool, true, false, ◌&&◌, ◌||◌, false≢true}
use mathlib.Core.List.{List, [], ◌∷◌, ◌++◌, append_assoc, append-nil}
use lib.Dec.{leb}
use lib.ListN.{length}
use borrow.Author.Tests.{eq-eqb, le-leb, leb-true}
use Rattle.cbor.specs.Refusals.{ok, refuse, bind, too_deep}
use Rattle.cbor.specs.Widths.{Width, w0, w1, limit, fits, shortest, information}
use Rattle.cbor.specs.Items.{Sign, unsigned, negative, Kind, byte_string, text_string, Size, definite, indefinite, Chunk, Item, int, string, chunked, array, map, tag, simple, Items, none, more, Pairs, none₂, more₂, count, count₂, levels, levels_all, levels_all₂}
use Rattle.cbor.specs.Heads.{Major, integers, strings, arrays, maps, tags, simples, major_number, initial, head, Head, is_float, is_allowed, is_indefinite, next_head}
use Rattle.cbor.specs.Encode.{encode_string, opening_head, closing_break, enclosed, encode_chunks, encode, encode_all, encode_all₂}
use Rattle.cbor.specs.TypedArrays.{may_tag}
use Rattle.cbor.specs.Valid.{is_text, ValidString, ValidChunks, Fits, is_simple, Valid, ValidAll, ValidAll₂}
use Rattle.cbor.specs.Decode.{broken, ended, several, content_at, chunk_by, chunk_at, entry_at, extent, tagged, elements, pair, entries, chunks_of, Enter, item_by, item_with, item, decode, most_bytes, most_levels}
use Rattle.cbor.specs.Theorems.{ItemOfEncode, DecodeOfEncode}
use Rattle.cbor.proofs.Heads.{major-most, information-most, head_read, opening_read, taking-all}
use Rattle.cbor.proofs.Several.{tail_of, Meets, Begins, begins-more, Reads, reads_nil, reads_cons, reads_all}

-- THE FIRST BYTE IS NO BREAK

begins-head : (m : Major) (w : Width) (n : ℕ) → n ≤ limit w → Begins (head m w n)
unfolding head initial
begins-head m w n h = record { first = _; rest = _; is = refl; low = omega (arith, major-most m, information-most w n h) }

-- a major type whose heads are no float, are allowed with every argument, and are not the last
pub record Plain (m : Major) : Type 0 where
  pub whole : (w : Width) → is_float m w ≡ false
  pub free : (w : Width) (n : ℕ) → is_allowed m w n ≡ true
  pub most : major_number m ≤ 6

plain_integers : (g : Sign) → Plain (integers g)
unfolding is_float is_allowed major_number
plain_integers unsigned = record { whole = λ w. refl; free = λ w n. refl; most = omega arith }
plain_integers negative = record { whole = λ w. refl; free = λ w n. refl; most = omega arith }

plain_strings : (k : Kind) → Plain (strings k)
unfolding is_float is_allowed major_number
plain_strings byte_string = record { whole = λ w. refl; free = λ w n. refl; most = omega arith }
plain_strings text_string = record { whole = λ w. refl; free = λ w n. refl; most = omega arith }

pub plain_arrays : Plain arrays
unfolding is_float is_allowed major_number
plain_arrays = record { whole = λ w. refl; free = λ w n. refl; most = omega arith }

pub plain_maps : Plain maps
unfolding is_float is_allowed major_number
plain_maps = record { whole = λ w. refl; free = λ w n. refl; most = omega arith }

plain_tags : Plain tags
unfolding is_float is_allowed major_number
plain_tags = record { whole = λ w. refl; free = λ w n. refl; most = omega arith }

begins_opening : (m : Major) (z : Size) (n : ℕ) → Plain m → Fits z n → Begins (opening_head m z n)
unfolding opening_head Fits initial
begins_opening m (definite w) n p h = begins-head m w n h
begins_opening m indefinite n p h = record { first = _; rest = _; is = refl; low = omega (arith, p.most) }

begins-enclosed : (m : Major) (z : Size) (n : ℕ) (b : List ℕ) → Plain m → Fits z n → Begins (enclosed m z n b)
unfolding enclosed
begins-enclosed m z n b p h = begins-more _ (begins_opening m z n p h)

begins-string : (k : Kind) (w : Width) (b : List ℕ) → ValidString k w b → Begins (encode_string k w b)
unfolding encode_string
begins-string k w b v = begins-more b (begins-head (strings k) w (length b) v.fit)

-- a simple value's shortest head is the one that it has
pub record Shortest (n : ℕ) : Type 0 where
  pub fit : n ≤ limit (shortest n)
  pub whole : is_float simples (shortest n) ≡ false
  pub allowed : is_allowed simples (shortest n) n ≡ true

pub shortest-zero : (n : ℕ) → leb n 23 ≡ true → shortest n ≡ w0
unfolding shortest fits limit
shortest-zero n e = rw (e, shortest)

pub shortest-one : (n : ℕ) → leb n 23 ≡ false → leb n 255 ≡ true → shortest n ≡ w1
unfolding shortest fits limit
shortest-one n e f = rw (e, shortest) (rw f)

pub shortest-simple : (n : ℕ) → is_simple n ≡ true → Shortest n
unfolding is_simple limit is_float is_allowed
shortest-simple n e = go (leb n 23) refl (leb 32 n) refl (leb n 255) refl e
  where
    go : (a : Bool) → leb n 23 ≡ a → (b : Bool) → leb 32 n ≡ b → (c : Bool) → leb n 255 ≡ c → (a || (b && c)) ≡ true → Shortest n
    go true p b q c r e = let s = shortest-zero n p in record { fit = rw s (leb-true n 23 p); whole = rw s; allowed = rw s }
    go false p true q true r e = let s = shortest-one n p r in record { fit = rw s (leb-true n 255 r); whole = rw s; allowed = rw s q }
    go false p true q false r e = absurd (false≢true e)
    go false p false q c r e = absurd (false≢true e)

pub begins : (x : Item) → Valid x → Begins (encode x)
unfolding encode Valid Fits
begins (int g w n) v = begins-head (integers g) w n v
begins (string k w b) v = begins-string k w b v
begins (chunked k cs) v = begins-enclosed (strings k) indefinite 0 _ (plain_strings k) tt
begins (array z xs) v = begins-enclosed arrays z (count xs) _ plain_arrays v.0
begins (map z ps) v = begins-enclosed maps z (count₂ ps) _ plain_maps v.0
begins (tag w n x) v = begins-more _ (begins-head tags w n v.0)
begins (simple n) v = begins-head simples (shortest n) n (shortest-simple n v).fit

-- BY THE HEAD

abbrev pub enter_at : ℕ → Enter
enter_at zero = λ left go. refuse too_deep left
enter_at (suc d) = λ left go. go (item d)

pub by-head : (d : ℕ) (s : List ℕ) (h : Head) (r : List ℕ) → next_head s ≡ ok h r → item d s ≡ item_by (enter_at d) h.major h.size h.argument (length s) r
unfolding item item_with bind
by-head zero s h r e = rw e
by-head (suc d) s h r e = rw e

-- the argument that a head shows: an open one shows none
abbrev pub shown : Size → ℕ → ℕ
shown (definite w) n = n
shown indefinite n = 0

pub opening_shown : (m : Major) (z : Size) (n : ℕ) (r : List ℕ) → Plain m → is_indefinite m ≡ true → Fits z n
    → next_head (opening_head m z n ++ r) ≡ ok (record { major = m; size = z; argument = shown z n }) r
unfolding opening_head Fits
opening_shown m (definite w) n r p i h = head_read m w n r h (p.whole w) (p.free w n)
opening_shown m indefinite n r p i h = opening_read m r i

pub closing_tail : (z : Size) (n : ℕ) (r : List ℕ) → closing_break z ++ r ≡ tail_of (extent z n) r
unfolding closing_break extent
closing_tail (definite w) n r = refl
closing_tail indefinite n r = refl

pub shown_meets : (z : Size) (n : ℕ) (r : List ℕ) → Meets (extent z (shown z n)) n r
unfolding extent
shown_meets (definite w) n r = refl
shown_meets indefinite n r = tt

-- an item that encloses others, up to them
enclosed-read : (d : ℕ) (m : Major) (z : Size) (n : ℕ) (c r : List ℕ) → Plain m → is_indefinite m ≡ true → Fits z n
    → (left : ℕ) × (item d (enclosed m z n c ++ r) ≡ item_by (enter_at d) m z (shown z n) left (c ++ tail_of (extent z (shown z n)) r))
unfolding enclosed
enclosed-read d m z n c r p i h =
    let split : (opening_head m z n ++ (c ++ closing_break z)) ++ r ≡ opening_head m z n ++ (c ++ tail_of (extent z (shown z n)) r) = simp append_assoc (rw (closing_tail z (shown z n) r)) in
    (_, ap (item d) split ∙ by-head d _ _ _ (opening_shown m z n (c ++ tail_of (extent z (shown z n)) r) p i h))

content-read : (k : Kind) (b r : List ℕ) (left : ℕ) → is_text k b ≡ true → content_at k (length b) left (b ++ r) ≡ ok b r
unfolding content_at bind
content-read k b r left e = rw (taking-all (length b) left b r refl) (rw (e, bind))

string-head : (k : Kind) (w : Width) (b r : List ℕ) → ValidString k w b
    → next_head (encode_string k w b ++ r) ≡ ok (record { major = strings k; size = definite w; argument = length b }) (b ++ r)
unfolding encode_string
string-head k w b r v =
    rw (append_assoc (head (strings k) w (length b)) b r) (head_read (strings k) w (length b) (b ++ r) v.fit ((plain_strings k).whole w) ((plain_strings k).free w (length b)))

-- CHUNKS

pub chunk_by_lem : (k : Kind) (b : ℕ) (s : List ℕ) (h : Head) (r : List ℕ) → b / 32 ≡ major_number (strings k) → next_head (b ∷ s) ≡ ok h r
    → chunk_at k (b ∷ s) ≡ chunk_by k h.size h.argument (suc (length s)) r
unfolding chunk_at bind
chunk_by_lem k b s h r e f = rw (eq-eqb (b / 32) (major_number (strings k)) e, chunk_at) (rw f)

chunk_read_lem : (k : Kind) (c : Chunk) (r : List ℕ) → ValidString k c.width c.content → chunk_at k (encode_string k c.width c.content ++ r) ≡ ok c r
unfolding chunk_by bind encode_string head initial
chunk_read_lem k c r v =
    let m : (major_number (strings k) * 32 + information c.width (length c.content)) / 32 ≡ major_number (strings k) = omega (arith, information-most c.width (length c.content) v.fit) in
    chunk_by_lem k _ _ _ _ m (string-head k c.width c.content r v) ∙ rw (content-read k c.content r _ v.good)

chunks-read : (k : Kind) (cs : List Chunk) → ValidChunks k cs → Reads [] ◌∷◌ (chunk_at k) cs (length cs) (encode_chunks k cs)
unfolding ValidChunks encode_chunks
chunks-read k [] v = reads_nil [] ◌∷◌ (chunk_at k)
chunks-read k (c ∷ cs) v =
    reads_cons [] ◌∷◌ (chunk_at k) c cs (length cs) _ _ (begins-string k c.width c.content v.0) (λ s. chunk_read_lem k c s v.0) (chunks-read k cs v.1)

-- ITEMS

entry_read : (d : ℕ) (a b : List ℕ) (k x : Item) → ((s : List ℕ) → item d (a ++ s) ≡ ok k s) → ((s : List ℕ) → item d (b ++ s) ≡ ok x s) → (s : List ℕ)
    → entry_at (item d) ((a ++ b) ++ s) ≡ ok (record { key = k; value = x }) s
unfolding entry_at bind
entry_read d a b k x e f s = rw (append_assoc a b s, e (b ++ s)) (rw (f s))

tag_read : (d : ℕ) (w : Width) (n : ℕ) (x : Item) (b r : List ℕ) → n ≤ limit w → may_tag n x ≡ true → item d (b ++ r) ≡ ok x r → item (suc d) ((head tags w n ++ b) ++ r) ≡ ok (tag w n x) r
unfolding item_by tagged bind
tag_read d w n x b r h t e =
    ap (item (suc d)) (append_assoc (head tags w n) b r) ∙ by-head (suc d) _ _ _ (head_read tags w n (b ++ r) h (plain_tags.whole w) (plain_tags.free w n)) ∙ rw e (rw (t, tagged))

mutual
  unfolding encode encode_all encode_all₂ Valid ValidAll ValidAll₂ levels levels_all levels_all₂ count count₂ Fits is_indefinite item_by elements entries chunks_of extent bind

  pub item-read : (x : Item) (d : ℕ) (r : List ℕ) → Valid x → levels x ≤ d → item d (encode x ++ r) ≡ ok x r
  item-read (int g w n) d r v h = by-head d _ _ r (head_read (integers g) w n r v ((plain_integers g).whole w) ((plain_integers g).free w n))
  item-read (string k w b) d r v h = by-head d _ _ (b ++ r) (string-head k w b r v) ∙ rw (content-read k b r _ v.good)
  item-read (chunked k cs) d r v h =
      (enclosed-read d (strings k) indefinite 0 (encode_chunks k cs) r (plain_strings k) refl tt).1 ∙ rw (reads_all [] ◌∷◌ (chunk_at k) cs (length cs) _ (chunks-read k cs v) broken r tt)
  item-read (array z xs) zero r v h = absurd (omega arith)
  item-read (array z xs) (suc d) r v h =
      (enclosed-read (suc d) arrays z (count xs) (encode_all xs) r plain_arrays refl v.0).1
      ∙ rw (reads_all none more (item d) xs (count xs) _ (items-read xs d v.1 (omega arith)) (extent z (shown z (count xs))) r (shown_meets z (count xs) r))
  item-read (map z ps) zero r v h = absurd (omega arith)
  item-read (map z ps) (suc d) r v h =
      (enclosed-read (suc d) maps z (count₂ ps) (encode_all₂ ps) r plain_maps refl v.0).1
      ∙ rw (reads_all none₂ pair (entry_at (item d)) ps (count₂ ps) _ (pairs-read ps d v.1 (omega arith)) (extent z (shown z (count₂ ps))) r (shown_meets z (count₂ ps) r))
  item-read (tag w n x) zero r v h = absurd (omega arith)
  item-read (tag w n x) (suc d) r v h = tag_read d w n x (encode x) r v.0 v.1 (item-read x d r v.2 (omega arith))
  item-read (simple n) d r v h = let s = shortest-simple n v in by-head d _ _ r (head_read simples (shortest n) n r s.fit s.whole s.allowed)

  pub items-read : (xs : Items) (d : ℕ) → ValidAll xs → levels_all xs ≤ d → Reads none more (item d) xs (count xs) (encode_all xs)
  items-read none d v h = reads_nil none more (item d)
  items-read (more x xs) d v h =
      reads_cons none more (item d) x xs (count xs) (encode x) (encode_all xs) (begins x v.0) (λ s. item-read x d s v.0 (omega arith)) (items-read xs d v.1 (omega arith))

  pairs-read : (ps : Pairs) (d : ℕ) → ValidAll₂ ps → levels_all₂ ps ≤ d → Reads none₂ pair (entry_at (item d)) ps (count₂ ps) (encode_all₂ ps)
  pairs-read none₂ d v h = reads_nil none₂ pair (entry_at (item d))
  pairs-read (more₂ k x ps) d v h =
      reads_cons none₂ pair (entry_at (item d)) (record { key = k; value = x }) ps (count₂ ps) (encode k ++ encode x) (encode_all₂ ps) (begins-more _ (begins k v.0))
      (entry_read d (encode k) (encode x) k x (λ s. item-read k d s v.0 (omega arith)) (λ s. item-read x d s v.1 (omega arith))) (pairs-read ps d v.2 (omega arith))

pub item_of_encode : ItemOfEncode
item_of_encode x d r v h = item-read x d r v h

pub decode_of_encode : DecodeOfEncode
unfolding decode elements
decode_of_encode xs v h l =
    rw (le-leb (length (encode_all xs)) most_bytes l, decode) (ap (several none more (item most_levels) ended) (sym (append-nil (encode_all xs))) ∙ reads_all none more (item most_levels) xs (count xs) (encode_all xs) (items-read xs most_levels v h) ended [] refl)
