-- Literals as items and as chunks, and strings in chunks.
-- Assumes nothing.
use mathlib.Core.Path.{◌≡◌, refl, sym, ap, ◌∙◌}
use mathlib.Core.List.{List, [], ◌∷◌, ◌++◌, append-nil}
use mathlib.Core.Bool.{Bool, true, false, true≢false}
use Prim.Native.Nat.{ℕ, suc, ◌+◌, ◌-◌, ◌*◌, ◌≤◌, ◌<◌}
use native.Mathlib.Omega.{arith}
use lib.Dec.{eqb}
use lib.ListN.{length, drop, length-append}
use mir.Syntax.{w8 as bits8, w64 as bits64}
use mir.Val.{Fits}
use Rattle.cbor.specs.Refusals.{Result, ok, refuse, bind, bad_indicator, mixed_chunks}
use Rattle.cbor.specs.Widths.{Width, w8, limit}
use Rattle.cbor.specs.Items.{unsigned, negative, Kind, byte_string, text_string, Size, definite, indefinite, Chunk, Item, int, string, chunked, array, map, tag, simple}
use Rattle.cbor.specs.Heads.{strings, major_number, initial, head}
use Rattle.cbor.specs.Encode.{encode_string, encode_chunks, encode, enclosed, opening_head, closing_break}
use Rattle.cbor.specs.TypedArrays.{chunks_length}
use Rattle.cbor.proofs.Results.{bind-same, bind_assoc}
use Rattle.head.specs.HeadAnswers.{head_bytes}
use Rattle.refusal.specs.declared.Refusal.{Refusal}
use Rattle.notation.specs.Indicators.{Indicator}
use Rattle.notation.specs.Tokens.{bracket, brace, tagging, embedding, leaf, literal, chunking, opens, round, Token, begins, closes, a_comma, a_colon}
use Rattle.notation.specs.Cutting.{next, place}
use Rattle.notation.specs.Form.{either, only, one, chunks, Chunks, give, stray, strays, shape_number, beginning, one_rule, literal_item, add_chunk, after_chunk, is_wanted, chunk_rule, chunks_rule, rules, obey, reads, closing_rule as closes_by}
use Rattle.notation.specs.Reading.{marked}
use Rattle.scanning.specs.Stands.{Stands}
use Rattle.token.specs.TokenAnswers.{item_code, open_code, kind_code, size_number, begin_code, shape_code, code_of, mark_of, begin_mark, number_of, begin_number, Written, BeginsAs, Seen, Took}
use Rattle.encoding.specs.ReadAnswers.{held_of, Tells, of_item, of_chunk, of_chunks, chunk_of, chunk_read_by, chunk_read, chunked_read, kind_for, major_by, initial_by, is_bytes_by, MajorBy, Wrote, Room, Opened, Strings, Light, MovedOn, ReadTold, Strayed, Denies, Stringed, LiteralIs, LiteralTold, Ended, ChunksTold}
use Rattle.token.specs.declared.Token.{Token as Cut}
use Rattle.encoding.specs.declared.answer.MadeItem.{MadeItem}
use Rattle.notation_theorems.proofs.ByName.{reads-is}
use Rattle.notation_theorems.proofs.Equations.{obey_if}
use Rattle.notation_theorems.proofs.SoundToken.{head-most}
use Rattle.scanning.proofs.Marked.{stands-left}
use Rattle.encoding.proofs.ReadTokens.{SizeFine, Fine}
use Rattle.encoding.proofs.Wrote.{wrote-more, wrote-front}
use Rattle.encoding.proofs.ReadWriting.{width_some, kind-major, string-head}
use Rattle.encoding.proofs.Telling.{bind-yes, bind-no, told-no, told-ok, told-lost, told_stop, denied, got, lost, token, place_at, place-left, said-refused, made_never}
use Rattle.encoding.proofs.ReadRules.{step, shape_low, one-is}
use Rattle.string_reader.proofs.ReadLoops.{Row, Run, row_start, row_room, row_refused, row_fits, row_count, row_comma, row_less, row_close, row_stray}
use Rattle.std.specs.Prelude.{Ok, Err}
use Rattle.std.specs.Prelude as std

-- A LITERAL, by its code
record LiteralTok (tok : Token) : Type 0 where
  pub kind : Kind
  pub size : Size
  pub held : List ℕ
  pub is : tok ≡ begins (literal kind size held)

as_literal : (tok : Token) → 3 < code_of tok → code_of tok ≤ 5 → LiteralTok tok
unfolding code_of begin_code item_code open_code
as_literal (begins (leaf (int unsigned w n))) l h = absurd (omega arith)
as_literal (begins (leaf (int negative w n))) l h = absurd (omega arith)
as_literal (begins (leaf (string k w b))) l h = absurd (omega arith)
as_literal (begins (leaf (chunked k cs))) l h = absurd (omega arith)
as_literal (begins (leaf (array z xs))) l h = absurd (omega arith)
as_literal (begins (leaf (map z ps))) l h = absurd (omega arith)
as_literal (begins (leaf (tag w n x))) l h = absurd (omega arith)
as_literal (begins (leaf (simple n))) l h = absurd (omega arith)
as_literal (begins (literal k z b)) l h = record { kind = k; size = z; held = b; is = refl }
as_literal (begins chunking) l h = absurd (omega arith)
as_literal (begins (opens (bracket i))) l h = absurd (omega arith)
as_literal (begins (opens (brace i))) l h = absurd (omega arith)
as_literal (begins (opens (tagging w n))) l h = absurd (omega arith)
as_literal (begins (opens embedding)) l h = absurd (omega arith)
as_literal (closes h' i) l h = absurd (omega (arith, shape_low h'))
as_literal a_comma l h = absurd (omega arith)
as_literal a_colon l h = absurd (omega arith)

-- a literal from a place on
pub record LiteralHere (s : List ℕ) (at : ℕ) (t : Cut) : Type 0 where
  pub kind : Kind
  pub size : Size
  pub held : List ℕ
  pub rest : List ℕ
  pub next_is : next (drop at (marked s)) ≡ ok (begins (literal kind size held)) rest
  pub facts : LiteralIs s t kind size held
  pub stands : Stands (marked s) t.next rest
  pub short : length held + t.place < t.next

pub literal-here : {s : List ℕ} {at pos : ℕ} {t : Cut} → Took s at t → Room s at pos → 3 < t.kind → t.kind ≤ 5 → LiteralHere s at t
unfolding code_of mark_of number_of Written begin_code begin_mark begin_number BeginsAs limit
literal-here {s} {at} {pos} {t} tk rm l h =
    let ta = token tk (λ z. omega arith) in
    let lt = as_literal ta.tok (rw ta.seen.code at l) (rw ta.seen.code at h) in
    let se : Seen s t (begins (literal lt.kind lt.size lt.held)) ta.rest = rw lt.is at ta.seen in
    let fi : Fine (place (drop at (marked s)) - 1) (begins (literal lt.kind lt.size lt.held)) (length ta.rest) = rw lt.is at ta.fine in
    let sh : length lt.held + t.place < t.next = omega (arith, fi.1, place-left tk, stands-left se.next, se.next.inside, tk.place.inside, ta.ahead) in
    let few : length lt.held ≤ limit w8 = omega (arith, sh, se.next.inside, rm.room, tk.from, rm.inside) in
    record {
      kind = lt.kind;
      size = lt.size;
      held = lt.held;
      rest = ta.rest;
      next_is = ta.is ∙ ap (λ (u : Token). ok u ta.rest) lt.is;
      facts = record { code = se.code; size = se.indicator; number = se.number; spelled = se.written; fit = λ w e. fits_by lt.size w (length lt.held) e fi.0 few };
      stands = se.next;
      short = sh;
    }
  where
    fits_by : (z : Size) (w : Width) (n : ℕ) → z ≡ definite w → SizeFine z n → n ≤ limit w8 → n ≤ limit w
    fits_by z w n e f h = (rw e at f) h

pub literal_light : {s : List ℕ} {at : ℕ} {t : Cut} (pos : ℕ) → Took s at t → Room s at pos → 3 < t.kind → t.kind ≤ 5 → Light (pos + t.argument)
literal_light pos tk rm l h =
    let li = literal-here tk rm l h in
    record { fits = omega (arith, li.short, li.facts.number, li.stands.inside, rm.room, rm.inside, tk.from) }

-- a literal that is an item
literal-size : (k : Kind) (z : Size) (c : List ℕ) → (1 ≤ length (encode (literal_item k z c))) × (length (encode (literal_item k z c)) ≤ 9 + length c)
unfolding literal_item encode encode_string enclosed opening_head closing_break encode_chunks head
literal-size k (definite w) c =
    let l : length (head (strings k) w (length c) ++ c) ≡ length (head (strings k) w (length c)) + length c = length-append (head (strings k) w (length c)) c in
    (omega (arith, l), omega (arith, l, head-most (strings k) w (length c)))
literal-size k indefinite c = (omega arith, omega arith)

pub item-literal : {s b b' : List ℕ} {at pos : ℕ} {t : Cut} {a : std.Result MadeItem Refusal} (d : ℕ) → Took s at t → Room s at pos → 3 < t.kind → t.kind ≤ 5 → LiteralTold s t b b' pos a
    → ReadTold of_item s b b' (length (marked s) - at) pos a (reads (one d) (drop at (marked s)))
unfolding of_item one_rule beginning obey
item-literal {s} {b} {b'} {at} {pos} {t} {a} d tk rm l h to =
    let li = literal-here tk rm l h in
    let x : Item = literal_item li.kind li.size li.held in
    let g = to.is li.kind li.size li.held li.facts in
    let z = literal-size li.kind li.size li.held in
    told-ok x _ (one-is d (drop at (marked s)) ∙ bind-yes (next (drop at (marked s))) _ (begins (literal li.kind li.size li.held)) li.rest li.next_is) g.is
    (record {
      stands = rw g.next_is li.stands;
      sized = g.sized;
      counted = g.counted;
      indicated = g.indicated;
      tells = g.tells;
      many = omega (arith, z.0, g.sized);
      short = omega (arith, z.1, g.sized, li.short, stands-left li.stands, li.stands.inside, tk.from);
      wrote = g.wrote;
    })

room_fits : {s : List ℕ} {at pos : ℕ} → Room s at pos → Fits bits64 pos
room_fits r = record { fits = omega (arith, r.room) }

-- CHUNKS, as a row
unfoldable pub last_chunk : Kind → Chunk → Indicator → Chunks
last_chunk k c i = record { kind = k; all = c ∷ [] }

chunk_step : (k : Kind) (d : ℕ) (c : Chunk) (u : Token) (p q : ℕ) (r : List ℕ) → obey reads (after_chunk d k c u) p q r ≡ step (reads (chunks (only k) d)) add_chunk (last_chunk k) d round c u q r
unfolding obey after_chunk step strays closes_by last_chunk
chunk_step k d c (begins g) p q r = refl
chunk_step k d c (closes h i) p q r = obey_if (eqb (shape_number round) (shape_number h)) (give (last_chunk k c i)) (strays d (closes h i)) p q r
chunk_step k d c a_comma p q r = refl
chunk_step k d c a_colon p q r = refl

abbrev pub Behind : Kind → ℕ → Chunk → List ℕ → Result Chunks
Behind k d c r = bind (next r) (λ u r'. step (reads (chunks (only k) d)) add_chunk (last_chunk k) d round c u (place r) r')

chunk_by_lem : (k : Kind) (d : ℕ) (t : Token) (p : ℕ) (r : List ℕ) → obey reads (chunks_rule (only k) d t) p p r ≡ bind (chunk_read_by k d t p r) (λ c r'. Behind k d c r')
unfolding chunks_rule chunk_rule is_wanted chunk_read_by chunk_of obey bind strays
chunk_by_lem k d (begins (leaf x)) p r = refl
chunk_by_lem byte_string d (begins (literal byte_string (definite w) b)) p r = bind-same (next r) _ _ (λ u r' e. chunk_step byte_string d (record { width = w; content = b }) u p (place r) r')
chunk_by_lem byte_string d (begins (literal text_string (definite w) b)) p r = refl
chunk_by_lem text_string d (begins (literal byte_string (definite w) b)) p r = refl
chunk_by_lem text_string d (begins (literal text_string (definite w) b)) p r = bind-same (next r) _ _ (λ u r' e. chunk_step text_string d (record { width = w; content = b }) u p (place r) r')
chunk_by_lem k d (begins (literal k' indefinite b)) p r = refl
chunk_by_lem k d (begins chunking) p r = refl
chunk_by_lem k d (begins (opens o)) p r = refl
chunk_by_lem k d (closes h i) p r = refl
chunk_by_lem k d a_comma p r = refl
chunk_by_lem k d a_colon p r = refl

pub chunks-more : (k : Kind) (d : ℕ) (s : List ℕ) → reads (chunks (only k) d) s ≡ bind (chunk_read k d s) (λ c r. Behind k d c r)
unfolding rules chunk_read
chunks-more k d s = reads-is (chunks (only k) d) s ∙ bind-same (next s) _ _ (λ t r e. chunk_by_lem k d t (place s) r) ∙ sym (bind_assoc (next s) _ _)

pub chunks-bytes : (k : Kind) (c : Chunk) (cs : Chunks) → (of_chunks k (add_chunk c cs)).bytes ≡ (of_chunk k c).bytes ++ (of_chunks k cs).bytes
unfolding of_chunks of_chunk add_chunk encode_chunks
chunks-bytes k c cs = refl

pub chunks-count : (k : Kind) (c : Chunk) (cs : Chunks) → (of_chunks k (add_chunk c cs)).count ≡ (of_chunk k c).count + (of_chunks k cs).count
unfolding of_chunks of_chunk add_chunk chunks_length
chunks-count k c cs = refl

pub chunks-last : (k : Kind) (c : Chunk) (i : Indicator) → (of_chunks k (last_chunk k c i)).bytes ≡ (of_chunk k c).bytes
unfolding of_chunks of_chunk last_chunk encode_chunks
chunks-last k c i = append-nil (encode_string k c.width c.content)

pub chunks-last-count : (k : Kind) (c : Chunk) (i : Indicator) → (of_chunks k (last_chunk k c i)).count ≡ (of_chunk k c).count
unfolding of_chunks of_chunk last_chunk chunks_length
chunks-last-count k c i = omega arith

pub chunks_plain : (k : Kind) (cs : Chunks) → (of_chunks k cs).indicator ≡ 0
unfolding of_chunks
chunks_plain k cs = refl

tells_of : {v : Bool} (n : ℕ) (k k' : Kind) (cs : List Chunk) → v ≡ is_bytes_by (kind_code k') → Tells (held_of (chunked k cs)) v n → k ≡ k'
unfolding Tells held_of is_bytes_by kind_code
tells_of n byte_string byte_string cs e h = refl
tells_of n byte_string text_string cs e h = absurd (true≢false (sym h.0 ∙ e))
tells_of n text_string byte_string cs e h = absurd (true≢false (sym e ∙ h))
tells_of n text_string text_string cs e h = refl

tells_as : (k : Kind) (cs : List Chunk) → Tells (held_of (chunked k cs)) (is_bytes_by (kind_code k)) (chunks_length cs)
unfolding Tells held_of is_bytes_by kind_code
tells_as byte_string cs = (refl, refl)
tells_as text_string cs = refl

pub chunks_add : (k : Kind) (c : Chunk) (cs : Chunks) → Tells (of_chunks k cs).held (is_bytes_by (kind_code k)) (of_chunks k cs).count → Tells (of_chunks k (add_chunk c cs)).held (is_bytes_by (kind_code k)) (of_chunks k (add_chunk c cs)).count
unfolding of_chunks add_chunk
chunks_add k c cs h = rw (tells_of (chunks_length cs.all) cs.kind k cs.all refl h) (tells_as k (c ∷ cs.all))

pub chunks-end : (k : Kind) (c : Chunk) (i : Indicator) → Tells (of_chunks k (last_chunk k c i)).held (is_bytes_by (kind_code k)) (of_chunks k (last_chunk k c i)).count
unfolding of_chunks last_chunk
chunks-end k c i = tells_as k (c ∷ [])

abbrev pub chunks_row : Kind → ℕ → Row
chunks_row k d =
    record {
      Elem = Chunk;
      All = Chunks;
      of_elem = of_chunk k;
      of_all = of_chunks k;
      elem = chunk_read k d;
      first = reads (chunks (only k) d);
      rest = reads (chunks (only k) d);
      add = add_chunk;
      last = last_chunk k;
      closer = round;
      levels = d;
      rest-is = chunks-more k d;
      add_bytes = chunks-bytes k;
      add_count = chunks-count k;
      last-bytes = chunks-last k;
      last-count = chunks-last-count k;
      plain = chunks_plain k;
      binary = is_bytes_by (kind_code k);
      add_tells = chunks_add k;
      last-tells = chunks-end k;
    }

-- the code's `chunks`
pub record Chunks-run (kind d : ℕ) (s b₀ : List ℕ) (i pos at n size : ℕ) (b : List ℕ) : Type 0 where
  pub from : Strings s i pos kind
  pub run : Run (chunks_row (kind_for kind) d) s b₀ i pos at n size b

pub chunks_start : {s : List ℕ} {i pos kind : ℕ} (b : List ℕ) (d : ℕ) → Strings s i pos kind → Chunks-run kind d s b i pos i 0 0 b
chunks_start {pos = pos} {kind = kind} b d st = record { from = st; run = row_start (chunks_row (kind_for kind) d) b pos refl st.room }

pub chunks-strings : {s b₀ : List ℕ} {kind d i pos at n size : ℕ} {b : List ℕ} → Chunks-run kind d s b₀ i pos at n size b → Strings s at (pos + size) kind
chunks-strings {kind = kind} {d = d} r = record { room = row_room (chunks_row (kind_for kind) d) r.run; kinds = r.from.kinds }

pub chunks-place : {s b₀ : List ℕ} {kind d i pos at n size : ℕ} {b : List ℕ} → Chunks-run kind d s b₀ i pos at n size b → Fits bits64 (pos + size)
chunks-place r = room_fits (chunks-strings r).room

made_kept : (a : std.Result MadeItem Refusal) (m m' : MadeItem) → a ≡ Ok m → a ≡ Ok m' → (v : Bool) → (m.binary ≡ v) × (m.length ≡ m.count) → (m'.binary ≡ v) × (m'.length ≡ m'.count)
made_kept a m m' f g v h = let e : m ≡ m' = cc in rw e at h

module _ {s b₀ : List ℕ} {kind d i pos at n size : ℕ} {b b' : List ℕ} (a : std.Result MadeItem Refusal)
    (run : Chunks-run kind d s b₀ i pos at n size b) (told : ReadTold (of_chunk (kind_for kind)) s b b' (length (marked s) - at) (pos + size) a (chunk_read (kind_for kind) d (drop at (marked s)))) where
  pub chunks-lost : {b'' : List ℕ} {e : Refusal} → a ≡ Err e → ChunksTold kind s b₀ b'' (length (marked s) - i) pos (Err e) (reads (chunks (only (kind_for kind)) d) (drop i (marked s)))
  chunks-lost {e = e} f = record { told = row_refused (chunks_row (kind_for kind) d) a run.run told f; kept = λ m g. made_never (Err e) (said-refused (Err e) e refl) g }

  module _ {m : MadeItem} (g : a ≡ Ok m) where
    pub chunks-fits : Fits bits64 (size + m.size)
    chunks-fits = row_fits (chunks_row (kind_for kind) d) a run.run told g

    pub chunks-same : length b' ≡ length b₀
    chunks-same = (got a told g).moved.wrote.same ∙ run.run.wrote.same

    pub chunks-sum : Fits bits64 (n + m.count)
    chunks-sum = row_count (chunks_row (kind_for kind) d) a run.run told g

    module _ {t : Cut} (tk : Took s m.next t) where
      pub chunks_comma : t.kind ≡ 11 → Chunks-run kind d s b₀ i pos t.next (n + m.count) (size + m.size) b'
      chunks_comma e = record { from = run.from; run = row_comma (chunks_row (kind_for kind) d) a run.run told g tk e }

      pub chunks_less : t.kind ≡ 11 → length (marked s) - t.next < length (marked s) - at
      chunks_less e = row_less (chunks_row (kind_for kind) d) a run.run told g tk e

      module _ {a' : std.Result MadeItem Refusal} where
        pub chunks_close : {v : Bool} → t.kind ≡ 14 → v ≡ is_bytes_by kind → a' ≡ Ok (record { next = t.next; size = size + m.size; count = n + m.count; indicator = 0; binary = v; length = n + m.count })
            → ChunksTold kind s b₀ b' (length (marked s) - i) pos a' (reads (chunks (only (kind_for kind)) d) (drop i (marked s)))
        unfolding shape_code
        chunks_close e w f = record { told = row_close (chunks_row (kind_for kind) d) a run.run told g tk e (rw run.from.kinds (rw w at f)); kept = λ m' q. made_kept a' _ m' f q (is_bytes_by kind) (w, refl) }

        pub chunks-stray : (t.kind ≡ 14 → ⊥) → (t.kind ≡ 11 → ⊥) → Strayed d t a'
            → ChunksTold kind s b₀ b' (length (marked s) - i) pos a' (reads (chunks (only (kind_for kind)) d) (drop i (marked s)))
        unfolding shape_code
        chunks-stray nc n11 f = record { told = row_stray (chunks_row (kind_for kind) d) a run.run told g tk nc n11 f; kept = λ m' q. made_never a' f.is q }

pub ruleset chunks_ways = (chunks-lost, chunks_close, chunks-stray)

-- ONE CHUNK
not_literal : (k : Kind) (d : ℕ) (tok : Token) (p : ℕ) (r : List ℕ) → (3 < code_of tok → code_of tok ≤ 5 → ⊥) → chunk_read_by k d tok p r ≡ refuse (stray d tok) p
unfolding chunk_read_by code_of begin_code kind_code
not_literal k d (begins (leaf x)) p r n = refl
not_literal k d (begins (literal byte_string z b)) p r n = absurd (n (omega arith) (omega arith))
not_literal k d (begins (literal text_string z b)) p r n = absurd (n (omega arith) (omega arith))
not_literal k d (begins chunking) p r n = refl
not_literal k d (begins (opens o)) p r n = refl
not_literal k d (closes h i) p r n = refl
not_literal k d a_comma p r n = refl
not_literal k d a_colon p r n = refl

wanted_by : (k k' : Kind) → kind_code k' ≡ kind_code k → k' ≡ k
unfolding kind_code
wanted_by byte_string byte_string e = refl
wanted_by byte_string text_string e = absurd (omega arith)
wanted_by text_string byte_string e = absurd (omega arith)
wanted_by text_string text_string e = refl

wanted_same : (k : Kind) → is_wanted (only k) k ≡ true
unfolding is_wanted
wanted_same byte_string = refl
wanted_same text_string = refl

wanted_other : (k k' : Kind) → (kind_code k' ≡ kind_code k → ⊥) → is_wanted (only k) k' ≡ false
unfolding is_wanted
wanted_other byte_string byte_string n = absurd (n refl)
wanted_other byte_string text_string n = refl
wanted_other text_string byte_string n = refl
wanted_other text_string text_string n = absurd (n refl)

open_by : (k k' : Kind) (z : Size) (b : List ℕ) (p : ℕ) (r : List ℕ) → size_number z ≡ 1 → chunk_of k k' z b p r ≡ refuse bad_indicator p
unfolding chunk_of size_number
open_by k k' (definite w) b p r q = absurd (omega (arith, width_some w))
open_by k k' indefinite b p r q = refl

mixed_by : (k k' : Kind) (z : Size) (b : List ℕ) (p : ℕ) (r : List ℕ) → (size_number z ≡ 1 → ⊥) → (kind_code k' ≡ kind_code k → ⊥) → chunk_of k k' z b p r ≡ refuse mixed_chunks p
unfolding chunk_of size_number
mixed_by k k' (definite w) b p r n m = rw (wanted_other k k' m, chunk_of)
mixed_by k k' indefinite b p r n m = absurd (n refl)

-- a chunk that was written
done-by : {s b b' : List ℕ} {at pos size : ℕ} {t : Cut} {a : std.Result MadeItem Refusal} (k k' : Kind) (z : Size) (c r : List ℕ) (res : Result Chunk) → Took s at t → (t.indicator ≡ 1 → ⊥) → k' ≡ k → LiteralIs s t k' z c
    → res ≡ chunk_of k k' z c (place (drop at (marked s))) r → Stands (marked s) t.next r → length c + t.place < t.next → Stringed s t b b' pos size
    → a ≡ Ok (record { next = t.next; size = size; count = t.argument; indicator = 0; binary = false; length = 0 }) → ReadTold (of_chunk k) s b b' (length (marked s) - at) pos a res
unfolding chunk_of size_number of_chunk encode_string head Tells
done-by k k' indefinite c r res tk n1 same l e sn sh sg f = absurd (n1 l.size)
done-by {s} {b} {b'} {at} {pos} {size} {t} {a} k k' (definite w) c r res tk n1 same l e sn sh sg f =
    let hs : head_bytes (initial_by t) t.argument ≡ head (strings k) w (length c) = string-head l ∙ ap (λ (x : Kind). head (strings x) w (length c)) same in
    let q : size ≡ length (head (strings k) w (length c) ++ c) = sg.size_is ∙ (rw (hs, l.number)) ∙ sym (length-append (head (strings k) w (length c)) c) in
    let z : length (head (strings k) w (length c) ++ c) ≡ length (head (strings k) w (length c)) + length c = length-append (head (strings k) w (length c)) c in
    told-ok (record { width = w; content = c }) res (e ∙ (rw same (rw (wanted_same k, chunk_of)))) f
    (record {
      stands = sn;
      sized = q;
      counted = l.number;
      indicated = refl;
      tells = tt;
      many = omega (arith, q, z);
      short = omega (arith, q, z, head-most (strings k) w (length c), sh, stands-left sn, sn.inside, tk.from);
      wrote = rw hs at (sg.wrote c l.number l.spelled);
    })

chunk_is : {s : List ℕ} {at : ℕ} {t : Cut} (k : Kind) (d : ℕ) (li : LiteralHere s at t)
    → chunk_read k d (drop at (marked s)) ≡ chunk_of k li.kind li.size li.held (place (drop at (marked s))) li.rest
unfolding chunk_read chunk_read_by
chunk_is {s} {at} k d li = bind-yes (next (drop at (marked s))) _ (begins (literal li.kind li.size li.held)) li.rest li.next_is

module _ {s b b' : List ℕ} {at pos kind : ℕ} {t : Cut} {a : std.Result MadeItem Refusal} (d : ℕ) (st : Strings s at pos kind) (tk : Took s at t) where
  chunk_other : (3 < t.kind → t.kind ≤ 5 → ⊥) → Strayed d t a → ReadTold (of_chunk (kind_for kind)) s b b' (length (marked s) - at) pos a (chunk_read (kind_for kind) d (drop at (marked s)))
  unfolding chunk_read
  chunk_other n f = told_stop d _ _ tk f refl (λ tok r e u. not_literal (kind_for kind) d tok (place (drop at (marked s))) r (λ l h. n (rw e l) (rw e h)))

  pub chunk_low : t.kind ≤ 3 → Strayed d t a → ReadTold (of_chunk (kind_for kind)) s b b' (length (marked s) - at) pos a (chunk_read (kind_for kind) d (drop at (marked s)))
  chunk_low h f = chunk_other (λ l m. absurd (omega arith)) f

  pub chunk_high : 5 < t.kind → Strayed d t a → ReadTold (of_chunk (kind_for kind)) s b b' (length (marked s) - at) pos a (chunk_read (kind_for kind) d (drop at (marked s)))
  chunk_high h f = chunk_other (λ l m. absurd (omega arith)) f

  module _ (l : 3 < t.kind) (h : t.kind ≤ 5) where
    pub chunk_open : t.indicator ≡ 1 → Denies bad_indicator t.place a → ReadTold (of_chunk (kind_for kind)) s b b' (length (marked s) - at) pos a (chunk_read (kind_for kind) d (drop at (marked s)))
    chunk_open e f =
        let li = literal-here tk st.room l h in
        told-no bad_indicator (place (drop at (marked s))) _ (chunk_is (kind_for kind) d li ∙ open_by (kind_for kind) li.kind li.size li.held (place (drop at (marked s))) li.rest (sym li.facts.size ∙ e)) (denied f (place_at tk))

    module _ (n1 : t.indicator ≡ 1 → ⊥) where
      pub chunk_mixed : (t.kind ≡ kind → ⊥) → Denies mixed_chunks t.place a → ReadTold (of_chunk (kind_for kind)) s b b' (length (marked s) - at) pos a (chunk_read (kind_for kind) d (drop at (marked s)))
      chunk_mixed n f =
          let li = literal-here tk st.room l h in
          told-no mixed_chunks (place (drop at (marked s))) _
          (chunk_is (kind_for kind) d li ∙ mixed_by (kind_for kind) li.kind li.size li.held (place (drop at (marked s))) li.rest (λ z. n1 (li.facts.size ∙ z)) (λ e. n (li.facts.code ∙ e ∙ st.kinds))) (denied f (place_at tk))

      pub chunk_done : {size : ℕ} → t.kind ≡ kind → Stringed s t b b' pos size → a ≡ Ok (record { next = t.next; size = size; count = t.argument; indicator = 0; binary = false; length = 0 })
          → ReadTold (of_chunk (kind_for kind)) s b b' (length (marked s) - at) pos a (chunk_read (kind_for kind) d (drop at (marked s)))
      chunk_done {size} e sg f =
          let li = literal-here tk st.room l h in
          done-by (kind_for kind) li.kind li.size li.held li.rest _ tk n1 (wanted_by (kind_for kind) li.kind (sym li.facts.code ∙ e ∙ sym st.kinds)) li.facts (chunk_is (kind_for kind) d li) li.stands li.short sg f

pub ruleset chunk_ways = (chunk_low, chunk_high, chunk_open, chunk_mixed, chunk_done)

pub chunk_light : {s : List ℕ} {at kind : ℕ} {t : Cut} (pos : ℕ) → Strings s at pos kind → Took s at t → 3 < t.kind → t.kind ≤ 5 → Light (pos + t.argument)
chunk_light pos st tk l h = literal_light pos tk st.room l h

-- A STRING IN CHUNKS
either-by : (k : Kind) (d : ℕ) (z : Size) (b : List ℕ) (p : ℕ) (r : List ℕ) → obey reads (chunk_rule either d k z b) p p r ≡ obey reads (chunk_rule (only k) d k z b) p p r
unfolding chunk_rule is_wanted
either-by byte_string d (definite w) b p r = refl
either-by text_string d (definite w) b p r = refl
either-by k d indefinite b p r = refl

chunks-either : {s : List ℕ} {at : ℕ} {t : Cut} (d : ℕ) (li : LiteralHere s at t) → reads (chunks either d) (drop at (marked s)) ≡ reads (chunks (only li.kind) d) (drop at (marked s))
unfolding rules chunks_rule
chunks-either {s} {at} d li =
    reads-is (chunks either d) (drop at (marked s)) ∙ bind-yes (next (drop at (marked s))) _ (begins (literal li.kind li.size li.held)) li.rest li.next_is
    ∙ either-by li.kind d li.size li.held (place (drop at (marked s))) li.rest
    ∙ sym (reads-is (chunks (only li.kind) d) (drop at (marked s)) ∙ bind-yes (next (drop at (marked s))) _ (begins (literal li.kind li.size li.held)) li.rest li.next_is)

kind-back : (k : Kind) → kind_for (kind_code k) ≡ k
unfolding kind_for kind_code
kind-back byte_string = refl
kind-back text_string = refl

not_either : (d : ℕ) (tok : Token) (p : ℕ) (r : List ℕ) → (3 < code_of tok → code_of tok ≤ 5 → ⊥) → obey reads (chunks_rule either d tok) p p r ≡ refuse (stray d tok) p
unfolding chunks_rule obey strays code_of begin_code kind_code
not_either d (begins (leaf x)) p r n = refl
not_either d (begins (literal byte_string z b)) p r n = absurd (n (omega arith) (omega arith))
not_either d (begins (literal text_string z b)) p r n = absurd (n (omega arith) (omega arith))
not_either d (begins chunking) p r n = refl
not_either d (begins (opens o)) p r n = refl
not_either d (closes h i) p r n = refl
not_either d a_comma p r n = refl
not_either d a_colon p r n = refl

abbrev Whole : Chunks → List ℕ → Result Item
Whole c r = ok (chunked c.kind c.all) r

pub open_room : {s : List ℕ} {at place : ℕ} (pos : ℕ) → Opened s at pos place → Room s at (pos + 1)
open_room pos o = record { inside = o.inside; room = omega (arith, o.room) }

module _ {s b b' : List ℕ} {at pos place' : ℕ} {t : Cut} {a : std.Result MadeItem Refusal} (d : ℕ) (o : Opened s at pos place') (tk : Took s at t) where
  chunked-other : (3 < t.kind → t.kind ≤ 5 → ⊥) → Strayed d t a → ReadTold of_item s b b' (length (marked s) - at + 1) pos a (chunked_read d (drop at (marked s)))
  unfolding chunked_read rules bind
  chunked-other n f =
      told_stop d _ _ tk f (ap (λ (u : Result Chunks). bind u (λ c r. Whole c r)) (reads-is (chunks either d) (drop at (marked s))) ∙ bind_assoc (next (drop at (marked s))) _ _)
      (λ tok r e u. bind-no _ (λ c r. Whole c r) _ _ (not_either d tok (place (drop at (marked s))) r (λ l h. n (rw e l) (rw e h))))

  pub chunked-low : t.kind ≤ 3 → Strayed d t a → ReadTold of_item s b b' (length (marked s) - at + 1) pos a (chunked_read d (drop at (marked s)))
  chunked-low h f = chunked-other (λ l m. absurd (omega arith)) f

  pub chunked-high : 5 < t.kind → Strayed d t a → ReadTold of_item s b b' (length (marked s) - at + 1) pos a (chunked_read d (drop at (marked s)))
  chunked-high h f = chunked-other (λ l m. absurd (omega arith)) f

kind-told : {s b b' : List ℕ} {most pos : ℕ} {m : MadeItem} {r : List ℕ} (k : Kind) (cs : Chunks) → m.binary ≡ is_bytes_by (kind_code k) → MovedOn s b b' most pos m (of_chunks k cs) r → cs.kind ≡ k
unfolding of_chunks
kind-told {m = m} k cs e mv = tells_of m.length cs.kind k cs.all e mv.tells

-- the chunks between their first byte and the break
whole-told : {s b b' b'' : List ℕ} {at pos place' first : ℕ} {m : MadeItem} {a' : std.Result MadeItem Refusal} (k : Kind) (cs : Chunks) (res : Result Item) (r : List ℕ) → res ≡ ok (chunked cs.kind cs.all) r → cs.kind ≡ k
    → first ≡ major_by (kind_code k) * 32 + 31 → MovedOn s b b' (length (marked s) - at) (pos + 1) m (of_chunks k cs) r → Ended b' b'' pos first m.next m.size m.binary m.length a' → Opened s at pos place'
    → ReadTold of_item s b b'' (length (marked s) - at + 1) pos a' res
unfolding of_item of_chunks encode enclosed opening_head closing_break initial
whole-told {s} {b} {b'} {b''} {at} {pos} {place'} {first} {m} {a'} k cs res r e same fe mv en o =
    let q : first ≡ major_number (strings k) * 32 + 31 = fe ∙ ap (λ (x : ℕ). x * 32 + 31) (kind-major k) in
    let bs : List ℕ = encode_chunks k cs.all in
    let l : length (first ∷ (bs ++ 255 ∷ [])) ≡ m.size + 2 = ap suc (length-append bs (255 ∷ [])) ∙ omega (arith, mv.sized) in
    let p : pos + m.size + 1 ≡ pos + length (first ∷ bs) = omega (arith, mv.sized) in
    let w : Wrote b b'' pos (first ∷ (bs ++ 255 ∷ [])) = wrote-more (wrote-front mv.wrote en.front) en.back p in
    told-ok (chunked k cs.all) res (e ∙ ap (λ (x : Kind). ok (chunked x cs.all) r) same) en.is
    (record {
      stands = mv.stands;
      sized = sym (ap length (λ j. sym q j ∷ (bs ++ 255 ∷ [])) ∙ l);
      counted = refl;
      indicated = refl;
      tells = rw same at mv.tells;
      many = omega arith;
      short = omega (arith, mv.short);
      wrote = rw q at w;
    })

pub chunked-strings : {s : List ℕ} {at place' : ℕ} {t : Cut} (pos : ℕ) → Opened s at pos place' → Took s at t → 3 < t.kind → t.kind ≤ 5 → Strings s at (pos + 1) t.kind
chunked-strings pos o tk l h =
    let li = literal-here tk (open_room pos o) l h in
    record { room = open_room pos o; kinds = rw li.facts.code (ap kind_code (kind-back li.kind)) }

module _ {s b b' : List ℕ} {at pos place' : ℕ} {t : Cut} (d : ℕ) (a : std.Result MadeItem Refusal) (o : Opened s at pos place') (tk : Took s at t) (l : 3 < t.kind) (h : t.kind ≤ 5)
    (ct : ChunksTold t.kind s b b' (length (marked s) - at) (pos + 1) a (reads (chunks (only (kind_for t.kind)) d) (drop at (marked s)))) where
  chunked-is : chunked_read d (drop at (marked s)) ≡ bind (reads (chunks (only (kind_for t.kind)) d) (drop at (marked s))) (λ c r. Whole c r)
  unfolding chunked_read
  chunked-is =
      let li = literal-here tk (open_room pos o) l h in
      let e : li.kind ≡ kind_for t.kind = sym (kind-back li.kind) ∙ ap kind_for (sym li.facts.code) in
      ap (λ (u : Result Chunks). bind u (λ c r. Whole c r)) (chunks-either d li ∙ ap (λ (k : Kind). reads (chunks (only k) d) (drop at (marked s))) e)

  pub chunked-lost : {b'' : List ℕ} {e : Refusal} → a ≡ Err e → ReadTold of_item s b b'' (length (marked s) - at + 1) pos (Err e) (chunked_read d (drop at (marked s)))
  chunked-lost f = told-lost _ _ (lost a ct.told f) chunked-is

  module _ {m : MadeItem} (g : a ≡ Ok m) where
    pub chunked_light : Light (pos + m.size)
    chunked_light = record { fits = omega (arith, (got a ct.told g).moved.short, o.room) }

    pub chunked-done : {b'' : List ℕ} {a' : std.Result MadeItem Refusal} {major : ℕ} → MajorBy t.kind major → Ended b' b'' pos (major * 32 + 31) m.next m.size m.binary m.length a'
        → ReadTold of_item s b b'' (length (marked s) - at + 1) pos a' (chunked_read d (drop at (marked s)))
    chunked-done mj en =
        let it = got a ct.told g in
        let code : kind_code (kind_for t.kind) ≡ t.kind = (chunked-strings pos o tk l h).kinds in
        let k = ct.kept m g in
        let same : it.thing.kind ≡ kind_for t.kind = kind-told (kind_for t.kind) it.thing (k.0 ∙ ap is_bytes_by (sym code)) it.moved in
        whole-told (kind_for t.kind) it.thing _ it.rest (chunked-is ∙ bind-yes (reads (chunks (only (kind_for t.kind)) d) (drop at (marked s))) _ it.thing it.rest it.is) same
        (ap (λ (x : ℕ). x * 32 + 31) (mj.is ∙ ap major_by (sym code))) it.moved en o

pub ruleset chunked_ways = (chunked-low, chunked-high, chunked-lost, chunked-done)

pub major-fits : {c r : ℕ} → MajorBy c r → Fits bits8 (r * 32)
major-fits m = record { fits = omega (arith, m.most) }

pub major_open : {c r : ℕ} → MajorBy c r → Fits bits8 (r * 32 + 31)
major_open m = record { fits = omega (arith, m.most) }

pub opened-fits : {s : List ℕ} {at place' : ℕ} (pos : ℕ) → Opened s at pos place' → Fits bits64 (pos + 1)
opened-fits pos o = record { fits = omega (arith, o.room) }
