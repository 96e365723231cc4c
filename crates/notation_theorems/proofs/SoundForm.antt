-- Whatever is read by name is well formed, has no more levels than are left, and its code is at most nine times its text: for every
-- rule of the table, if its tokens are well formed and what it calls is so.
use Prim.Native.Nat.{ℕ, zero, suc, ◌+◌, ◌-◌, ◌*◌, ◌≤◌}
use native.Mathlib.Omega.{arith}
use mathlib.Core.Path.{◌≡◌, refl}
use mathlib.Core.Bool.{true}
use mathlib.Core.List.{List, [], ◌∷◌}
use lib.Dec.{leb, eqb}
use lib.ListN.{length, length-append}
use borrow.Author.Tests.{leb-true}
use Rattle.cbor.specs.Widths.{Width, w8, limit}
use Rattle.cbor.specs.Items.{Kind, byte_string, text_string, Size, definite, indefinite, Item, int, string, chunked, array, map, tag, simple, Items, none, more, Pairs, none₂, more₂, count, count₂, levels, levels_all, levels_all₂}
use Rattle.cbor.specs.Heads.{Major, strings, arrays, maps, tags as tag_heads, head}
use Rattle.cbor.specs.Encode.{encode_string, opening_head, closing_break as closing_bytes, enclosed, encode_chunks, encode, encode_all, encode_all₂}
use Rattle.cbor.specs.Valid.{is_text, ValidString, ValidChunks, Fits, Valid, ValidAll, ValidAll₂}
use Rattle.cbor.specs.TypedArrays.{may_tag}
use Rattle.cbor.proofs.EncodeBytes.{encode-all-bytes}
use Rattle.cbor.proofs.Utf8Text.{Text}
use Rattle.notation.specs.Indicators.{Indicator, absent, indefinitely, unknown, wide, Chosen, chosen, misfit, choose}
use Rattle.notation.specs.Tokens.{Opener, bracket, brace, tagging, embedding, Beginning, leaf, literal, chunking, opens, Shape, curly, round, Token, begins, closes, a_comma, a_colon}
use Rattle.notation.specs.Cutting.{place}
use Rattle.notation.specs.Form.{Position, at_start, behind_comma, Wanted, only, Name, one, items, pairs, chunks, Closed, Chunks, Value, Rule, give, deny, deny_first, take, call, then, strays, shape_number, closing_rule, width_rule, contains, embeds, tag_rule, after_tag, inside, literal_item, beginning, one_rule, add_item, after_item, items_rule, after_value, after_key, pairs_rule, add_chunk, after_chunk, is_wanted, chunk_rule, chunks_rule, rules, Calls, obey, reads_within, reads}
use Rattle.notation_theorems.proofs.TextScan.{tested, Leaves, leaves-bind}
use Rattle.notation_theorems.proofs.SoundToken.{most, OpenerSound, TokenSound, weight, head-most, Chose, choose-fits, Next, next_sound}

-- LENGTHS OF CODE

string-most : (k : Kind) (w : Width) (b : List ℕ) → length (encode_string k w b) ≤ 9 + length b
unfolding encode_string
string-most k w b = rw length-append (omega (arith, head-most (strings k) w (length b)))

enclosed-most : (m : Major) (z : Size) (n : ℕ) (b : List ℕ) → length (enclosed m z n b) ≤ 9 + length b
unfolding enclosed opening_head closing_bytes
enclosed-most m (definite w) n b = simp length-append (omega (arith, head-most m w n))
enclosed-most m indefinite n b = simp length-append (omega arith)

enclosed-some : (m : Major) (z : Size) (n : ℕ) (b : List ℕ) → 1 ≤ length (enclosed m z n b)
unfolding enclosed opening_head closing_bytes head
enclosed-some m (definite w) n b = omega arith
enclosed-some m indefinite n b = omega arith

encode-some : (x : Item) → 1 ≤ length (encode x)
unfolding encode encode_string head
encode-some (int g w n) = omega arith
encode-some (string k w b) = omega arith
encode-some (chunked k cs) = enclosed-some (strings k) indefinite 0 (encode_chunks k cs)
encode-some (array z xs) = enclosed-some arrays z (count xs) (encode_all xs)
encode-some (map z ps) = enclosed-some maps z (count₂ ps) (encode_all₂ ps)
encode-some (tag w n x) = omega arith
encode-some (simple n) = omega arith

count_most : (xs : Items) → count xs ≤ length (encode_all xs)
unfolding count encode_all
count_most none = omega arith
count_most (more x xs) = rw length-append (omega (arith, encode-some x, count_most xs))

count₂-most : (ps : Pairs) → count₂ ps ≤ length (encode_all₂ ps)
unfolding count₂ encode_all₂
count₂-most none₂ = omega arith
count₂-most (more₂ k x ps) = simp length-append (omega (arith, encode-some k, count₂-most ps))

-- WHAT IS SAID of a value that d levels were left for and that was read from j

pub record Held {A : Type 0} (Good : A → Type 0) (depth : A → ℕ) (code : A → List ℕ) (d j : ℕ) (x : A) : Type 0 where
  pub good : Good x
  pub deep : depth x ≤ d
  pub size : length (code x) ≤ 9 * j

abbrev pub HeldItem : ℕ → ℕ → Item → Type 0
HeldItem d j x = Held Valid levels encode d j x

abbrev pub HeldItems : ℕ → ℕ → Items → Type 0
HeldItems d j xs = Held ValidAll levels_all encode_all d j xs

abbrev pub HeldClosed : ℕ → ℕ → Closed → Type 0
HeldClosed d j c = HeldItems d j c.all

abbrev pub HeldPairs : ℕ → ℕ → Pairs → Type 0
HeldPairs d j ps = Held ValidAll₂ levels_all₂ encode_all₂ d j ps

pub record HeldChunks (w : Wanted) (j : ℕ) (c : Chunks) : Type 0 where
  pub good : ValidChunks c.kind c.all
  pub wanted : is_wanted w c.kind ≡ true
  pub size : length (encode_chunks c.kind c.all) ≤ 9 * j

abbrev pub Sound : (n : Name) → ℕ → Value n → Type 0
Sound (one d) j x = HeldItem d j x
Sound (items h b d) j c = HeldClosed d j c
Sound (pairs b d) j ps = HeldPairs d j ps
Sound (chunks w d) j c = HeldChunks w j c

item_later : {d i : ℕ} (j : ℕ) {x : Item} → i ≤ j → HeldItem d i x → HeldItem d j x
item_later j l h = record { good = h.good; deep = h.deep; size = omega arith }

none-held : (d j : ℕ) → HeldItems d j none
unfolding ValidAll levels_all encode_all
none-held d j = record { good = tt; deep = omega arith; size = omega arith }

more-held : {d i j : ℕ} (k : ℕ) {x : Item} {xs : Items} → i + j ≤ k → HeldItem d i x → HeldItems d j xs → HeldItems d k (more x xs)
unfolding ValidAll levels_all encode_all
more-held k l h g = record { good = (h.good, g.good); deep = omega arith; size = rw length-append (omega arith) }

none₂-held : (d j : ℕ) → HeldPairs d j none₂
unfolding ValidAll₂ levels_all₂ encode_all₂
none₂-held d j = record { good = tt; deep = omega arith; size = omega arith }

more₂-held : {d h i j : ℕ} (l : ℕ) {k x : Item} {ps : Pairs} → h + i + j ≤ l → HeldItem d h k → HeldItem d i x → HeldPairs d j ps → HeldPairs d l (more₂ k x ps)
unfolding ValidAll₂ levels_all₂ encode_all₂
more₂-held l m p q r = record { good = (p.good, q.good, r.good); deep = omega arith; size = simp length-append (omega arith) }

-- A RULE KEEPS P, m being read so far: what it gives is P, if its tokens and what it calls are sound

-- the token t was taken behind m, which made it j
record Taken (m : ℕ) (t : Token) (j : ℕ) : Type 0 where
  short : j ≤ most
  fed : 9 * m + 9 + weight t ≤ 9 * j
  sound : TokenSound t

abbrev Keeps : {A : Type 0} → (ℕ → A → Type 0) → ℕ → Rule A → Type 0
Keeps P m (give x) = P m x
Keeps P m (deny k) = Unit {0}
Keeps P m (deny_first k) = Unit {0}
Keeps P m (take f) = (t : Token) (j : ℕ) → Taken m t j → Keeps P j (f t)
Keeps P m (call n k) = (x : Value n) (j : ℕ) → m + j ≤ most → Sound n j x → Keeps P (m + j) (k x)

keeps_then : {A B : Type 0} (P : ℕ → A → Type 0) (Q : ℕ → B → Type 0) (r : Rule A) (k : A → Rule B) (m : ℕ) → m ≤ most → Keeps P m r
    → ((x : A) (j : ℕ) → j ≤ most → P j x → Keeps Q j (k x)) → Keeps Q m (then r k)
unfolding then
keeps_then P Q (give x) k m l h g = g x m l h
keeps_then P Q (deny n) k m l h g = tt
keeps_then P Q (deny_first n) k m l h g = tt
keeps_then P Q (take f) k m l h g = λ t j c. keeps_then P Q (f t) k j c.short (h t j c) g
keeps_then P Q (call n c) k m l h g = λ x j b s. keeps_then P Q (c x) k (m + j) b (h x j b s) g

keeps_closing : {A : Type 0} (P : ℕ → A → Type 0) (m d : ℕ) (h h' : Shape) (i : Indicator) (x : A) → P m x → Keeps P m (closing_rule d h h' i x)
unfolding closing_rule strays
keeps_closing P m d h h' i x p = tested (Keeps P m) (eqb (shape_number h) (shape_number h')) _ _ (λ e. p) (λ e. tt)

-- CONTAINERS

keeps_sized : (P : ℕ → Item → Type 0) (m n : ℕ) (c : Chosen) (make : Width → Item) → Chose n c → ((w : Width) → n ≤ limit w → P m (make w)) → Keeps P m (width_rule c make)
unfolding width_rule
keeps_sized P m n (chosen w) make h k = k w h
keeps_sized P m n misfit make h k = tt

keeps_contains : (P : ℕ → Item → Type 0) (m n : ℕ) (i : Indicator) (make : Size → Item) → n ≤ limit w8 → ((z : Size) → Fits z n → P m (make z)) → Keeps P m (contains i n make)
unfolding contains Fits
keeps_contains P m n absent make h k = keeps_sized P m n (choose absent n) (λ w. make (definite w)) (choose-fits absent n h) (λ w. k (definite w))
keeps_contains P m n indefinitely make h k = k indefinite tt
keeps_contains P m n unknown make h k = keeps_sized P m n (choose unknown n) (λ w. make (definite w)) (choose-fits unknown n h) (λ w. k (definite w))
keeps_contains P m n (wide w) make h k = keeps_sized P m n (choose (wide w) n) (λ w. make (definite w)) (choose-fits (wide w) n h) (λ w. k (definite w))

keeps_embeds : (d m : ℕ) (c : Closed) → m ≤ most → 9 + length (encode_all c.all) ≤ 9 * m → ValidAll c.all → Keeps (HeldItem d) m (embeds c)
unfolding embeds limit Valid levels encode is_text
keeps_embeds d m c l h v =
    keeps_sized (HeldItem d) m (length (encode_all c.all)) (choose c.indicator (length (encode_all c.all))) (λ w. string byte_string w (encode_all c.all))
    (choose-fits c.indicator (length (encode_all c.all)) (omega arith))
    (λ w f. record { good = record { fit = f; bytes = encode-all-bytes c.all v; good = refl }; deep = omega arith; size = omega (arith, string-most byte_string w (encode_all c.all)) })

keeps_tag : (d i : ℕ) (w : Width) (n : ℕ) (x : Item) → n ≤ limit w → HeldItem d i x → (t : Token) (m : ℕ) → Taken i t m
    → Keeps (HeldItem (suc d)) m (after_tag d w n x t)
unfolding after_tag strays tag_rule Valid levels encode
keeps_tag d i w n x f h (begins g) m c = tt
keeps_tag d i w n x f h a_comma m c = tt
keeps_tag d i w n x f h a_colon m c = tt
keeps_tag d i w n x f h (closes s o) m c =
    keeps_then (λ j y. HeldItem d i y × (m ≤ j)) (HeldItem (suc d)) (closing_rule d round s o x) (tag_rule w n) m c.short
    (keeps_closing (λ j y. HeldItem d i y × (m ≤ j)) m d round s o x (h, omega arith)) go
  where
    go : (y : Item) (j : ℕ) → j ≤ most → HeldItem d i y × (m ≤ j) → Keeps (HeldItem (suc d)) j (tag_rule w n y)
    go y j b k =
        tested (Keeps (HeldItem (suc d)) j) (may_tag n y) _ _
        (λ e. record { good = (f, e, k.0.good); deep = omega arith; size = rw length-append (omega (arith, head-most tag_heads w n)) }) (λ e. tt)

keeps_inside : (d : ℕ) (o : Opener) (m : ℕ) → 1 ≤ m → OpenerSound o → Keeps (HeldItem (suc d)) m (inside d o)
unfolding inside limit Valid levels encode
keeps_inside d (bracket i) m l s = λ c j b h.
    keeps_contains (HeldItem (suc d)) (m + j) (count c.all) i (λ z. array z c.all) (omega (arith, count_most c.all))
    (λ z f. record { good = (f, h.good); deep = omega arith; size = omega (arith, enclosed-most arrays z (count c.all) (encode_all c.all)) })
keeps_inside d (brace i) m l s = λ ps j b h.
    keeps_contains (HeldItem (suc d)) (m + j) (count₂ ps) i (λ z. map z ps) (omega (arith, count₂-most ps))
    (λ z f. record { good = (f, h.good); deep = omega arith; size = omega (arith, enclosed-most maps z (count₂ ps) (encode_all₂ ps)) })
keeps_inside d (tagging w n) m l s = λ x j b h t i c. keeps_tag d (m + j) w n x s (item_later (m + j) (omega arith) h) t i c
keeps_inside d embedding m l s = λ c j b h. keeps_embeds (suc d) (m + j) c b (omega (arith, h.size)) h.good

-- AN ITEM

keeps_literal : (d : ℕ) (k : Kind) (z : Size) (b : List ℕ) (m : ℕ) → Taken 0 (begins (literal k z b)) m → HeldItem d m (literal_item k z b)
unfolding literal_item Valid levels encode ValidChunks encode_chunks
keeps_literal d k (definite w) b m c = record { good = c.sound; deep = omega arith; size = omega (arith, string-most k w b) }
keeps_literal d k indefinite b m c = record { good = tt; deep = omega arith; size = omega (arith, enclosed-most (strings k) indefinite 0 []) }

keeps_beginning : (d : ℕ) (g : Beginning) (m : ℕ) → Taken 0 (begins g) m → Keeps (HeldItem d) m (beginning d g)
unfolding beginning Valid levels encode
keeps_beginning d (leaf x) m c =
    tested (Keeps (HeldItem d) m) (leb (levels x) d) _ _ (λ e. record { good = c.sound.0; deep = leb-true (levels x) d e; size = omega (arith, c.sound.1) }) (λ e. tt)
keeps_beginning d (literal k z b) m c = keeps_literal d k z b m c
keeps_beginning d chunking m c = λ cs j b h.
    record { good = h.good; deep = omega arith; size = omega (arith, h.size, enclosed-most (strings cs.kind) indefinite 0 (encode_chunks cs.kind cs.all)) }
keeps_beginning zero (opens o) m c = tt
keeps_beginning (suc d) (opens o) m c = keeps_inside d o m (omega arith) c.sound

-- ITEMS

keeps_after-item : (h : Shape) (d : ℕ) (x : Item) (i : ℕ) → HeldItem d i x → (t : Token) (m : ℕ) → Taken i t m
    → Keeps (HeldClosed d) m (after_item h d x t)
unfolding after_item strays add_item
keeps_after-item h d x i p (begins g) m c = tt
keeps_after-item h d x i p (closes h' o) m c =
    keeps_closing (HeldClosed d) m d h h' o (record { all = more x none; indicator = o }) (more-held m (omega arith) p (none-held d 0))
keeps_after-item h d x i p a_comma m c = λ xs j b q. more-held (m + j) (omega arith) p q
keeps_after-item h d x i p a_colon m c = tt

keeps_items : (h : Shape) (b : Position) (d : ℕ) (t : Token) (m : ℕ) → Taken 0 t m → Keeps (HeldClosed d) m (items_rule h b d t)
unfolding items_rule strays
keeps_items h b d (begins g) m c =
    keeps_then (HeldItem d) (HeldClosed d) (beginning d g) (λ x. take (after_item h d x)) m c.short (keeps_beginning d g m c) (λ x i k p. keeps_after-item h d x i p)
keeps_items h at_start d (closes h' o) m c = keeps_closing (HeldClosed d) m d h h' o (record { all = none; indicator = o }) (none-held d m)
keeps_items h behind_comma d (closes h' o) m c = tt
keeps_items h b d a_comma m c = tt
keeps_items h b d a_colon m c = tt

-- PAIRS

keeps_after-value : (d : ℕ) (k x : Item) (h i : ℕ) → HeldItem d h k → HeldItem d i x → (t : Token) (m : ℕ) → Taken (h + i) t m
    → Keeps (HeldPairs d) m (after_value d k x t)
unfolding after_value strays
keeps_after-value d k x h i p q (begins g) m c = tt
keeps_after-value d k x h i p q (closes h' o) m c = keeps_closing (HeldPairs d) m d curly h' o (more₂ k x none₂) (more₂-held m (omega arith) p q (none₂-held d 0))
keeps_after-value d k x h i p q a_comma m c = λ ps j b r. more₂-held (m + j) (omega arith) p q r
keeps_after-value d k x h i p q a_colon m c = tt

keeps_after-key : (d : ℕ) (k : Item) (i : ℕ) → HeldItem d i k → (t : Token) (m : ℕ) → Taken i t m → Keeps (HeldPairs d) m (after_key d k t)
unfolding after_key strays
keeps_after-key d k i p (begins g) m c = tt
keeps_after-key d k i p (closes h o) m c = tt
keeps_after-key d k i p a_comma m c = tt
keeps_after-key d k i p a_colon m c = λ x j b q t n e. keeps_after-value d k x m j (item_later m (omega arith) p) q t n e

keeps_pairs : (b : Position) (d : ℕ) (t : Token) (m : ℕ) → Taken 0 t m → Keeps (HeldPairs d) m (pairs_rule b d t)
unfolding pairs_rule strays
keeps_pairs b d (begins g) m c = keeps_then (HeldItem d) (HeldPairs d) (beginning d g) (λ k. take (after_key d k)) m c.short (keeps_beginning d g m c) (λ k i e p. keeps_after-key d k i p)
keeps_pairs at_start d (closes h o) m c = keeps_closing (HeldPairs d) m d curly h o none₂ (none₂-held d m)
keeps_pairs behind_comma d (closes h o) m c = tt
keeps_pairs b d a_comma m c = tt
keeps_pairs b d a_colon m c = tt

-- CHUNKS

wanted_is : (k k' : Kind) → is_wanted (only k) k' ≡ true → k' ≡ k
unfolding is_wanted
wanted_is byte_string byte_string e = refl
wanted_is byte_string text_string e = cc
wanted_is text_string byte_string e = cc
wanted_is text_string text_string e = refl

keeps_after_chunk : (want : Wanted) (d : ℕ) (k : Kind) (w : Width) (b : List ℕ) → is_wanted want k ≡ true → ValidString k w b → (i : ℕ) → 9 + length b ≤ 9 * i
    → (t : Token) (m : ℕ) → Taken i t m → Keeps (HeldChunks want) m (after_chunk d k (record { width = w; content = b }) t)
unfolding after_chunk strays add_chunk ValidChunks encode_chunks
keeps_after_chunk want d k w b e v i h (begins g) m c = tt
keeps_after_chunk want d k w b e v i h (closes h' o) m c =
    keeps_closing (HeldChunks want) m d round h' o (record { kind = k; all = record { width = w; content = b } ∷ [] })
    (record { good = (v, tt); wanted = e; size = rw length-append (omega (arith, string-most k w b)) })
keeps_after_chunk want d k w b e v i h a_comma m c = λ cs j a q.
    let f = wanted_is k cs.kind q.wanted in
    record { good = (rw f v, q.good); wanted = rw f e; size = rw length-append (omega (arith, string-most cs.kind w b, q.size)) }
keeps_after_chunk want d k w b e v i h a_colon m c = tt

keeps_chunk : (want : Wanted) (d : ℕ) (k : Kind) (z : Size) (b : List ℕ) (m : ℕ) → Taken 0 (begins (literal k z b)) m → Keeps (HeldChunks want) m (chunk_rule want d k z b)
unfolding chunk_rule
keeps_chunk want d k (definite w) b m c = tested (Keeps (HeldChunks want) m) (is_wanted want k) _ _ (λ e. keeps_after_chunk want d k w b e c.sound m (omega arith)) (λ e. tt)
keeps_chunk want d k indefinite b m c = tt

keeps_chunks : (want : Wanted) (d : ℕ) (t : Token) (m : ℕ) → Taken 0 t m → Keeps (HeldChunks want) m (chunks_rule want d t)
unfolding chunks_rule strays
keeps_chunks want d (begins (leaf x)) m c = tt
keeps_chunks want d (begins (literal k z b)) m c = keeps_chunk want d k z b m c
keeps_chunks want d (begins chunking) m c = tt
keeps_chunks want d (begins (opens o)) m c = tt
keeps_chunks want d (closes h o) m c = tt
keeps_chunks want d a_comma m c = tt
keeps_chunks want d a_colon m c = tt

-- THE TABLE

keeps_one : (d : ℕ) (t : Token) (m : ℕ) → Taken 0 t m → Keeps (HeldItem d) m (one_rule d t)
unfolding one_rule strays
keeps_one d (begins g) m c = keeps_beginning d g m c
keeps_one d (closes h o) m c = tt
keeps_one d a_comma m c = tt
keeps_one d a_colon m c = tt

keeps_rules : (n : Name) (t : Token) (m : ℕ) → Taken 0 t m → Keeps (Sound n) m (rules n t)
unfolding rules
keeps_rules (one d) t m c = keeps_one d t m c
keeps_rules (items h b d) t m c = keeps_items h b d t m c
keeps_rules (pairs b d) t m c = keeps_pairs b d t m c
keeps_rules (chunks w d) t m c = keeps_chunks w d t m c

-- READING, of n altogether, with k left

abbrev pub Reads : {A : Type 0} → (ℕ → A → Type 0) → ℕ → A → ℕ → Type 0
Reads P n x k = (j : ℕ) × (j + k ≡ n) × P j x

module _ (c : Calls) (c-sound : (n : Name) (s : List ℕ) → Text true [] s → length s ≤ most → Leaves (Reads (Sound n) (length s)) (c n s)) where
  obey_sound : {A : Type 0} (P : ℕ → A → Type 0) (r : Rule A) (m p q n : ℕ) (s : List ℕ) → Text true [] s → m + length s ≡ n → n ≤ most → Keeps P m r → Leaves (Reads P n) (obey c r p q s)
  unfolding obey
  obey_sound P (give x) m p q n s t e l h = (t, (m, e, h))
  obey_sound P (deny k) m p q n s t e l h = tt
  obey_sound P (deny_first k) m p q n s t e l h = tt
  obey_sound P (take f) m p q n s t e l h =
      leaves-bind (Next (length s)) (Reads P n) _ _ (next_sound s t (omega arith))
      (λ x r u g. obey_sound P (f x) (n - length r) p (place s) n r u (omega (arith, g.1)) l (h x (n - length r) (record { short = omega arith; fed = omega (arith, g.1); sound = g.0 })))
  obey_sound P (call a k) m p q n s t e l h =
      leaves-bind (Reads (Sound a) (length s)) (Reads P n) _ _ (c-sound a s t (omega arith))
      (λ x r u g. obey_sound P (k x) (m + g.0) p q n r u (omega (arith, g.1)) l (h x g.0 (omega (arith, g.1)) g.2))

within_sound : (f : ℕ) (n : Name) (s : List ℕ) → Text true [] s → length s ≤ most → Leaves (Reads (Sound n) (length s)) (reads_within f n s)
unfolding reads_within
within_sound zero n s t l = tt
within_sound (suc f) n s t l =
    leaves-bind (Next (length s)) (Reads (Sound n) (length s)) _ _ (next_sound s t l)
    (λ x r u g. obey_sound (reads_within f) (within_sound f) (Sound n) (rules n x) (length s - length r) (place s) (place s) (length s) r u (omega (arith, g.1)) l
    (keeps_rules n x (length s - length r) (record { short = omega arith; fed = omega (arith, g.1); sound = g.0 })))

pub reads_sound : (n : Name) (s : List ℕ) → Text true [] s → length s ≤ most → Leaves (Reads (Sound n) (length s)) (reads n s)
unfolding reads
reads_sound n s t l = within_sound (suc (length s)) n s t l
