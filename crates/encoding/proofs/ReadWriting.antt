-- What the reader writes: heads before what they are heads of; leaves and literals.
-- Assumes nothing.
use mathlib.Core.Path.{◌≡◌, refl, sym, ap, ◌∙◌}
use mathlib.Core.Bool.{Bool, false}
use mathlib.Core.List.{List, [], ◌∷◌, ◌++◌}
use Prim.Native.Nat.{ℕ, zero, suc, ◌+◌, ◌-◌, ◌≤◌}
use native.Mathlib.Omega.{arith}
use lib.ListN.{length, take, drop, length-append}
use mir.Syntax.{w64 as bits64}
use mir.Val.{Fits}
use Rattle.cbor.specs.Widths.{Width, w0, w1, w2, w4, w8, limit, information}
use Rattle.cbor.specs.Items.{Kind, byte_string, text_string, Size, definite, indefinite, string, chunked}
use Rattle.cbor.specs.Heads.{strings, major_number, initial, head}
use Rattle.cbor.specs.Encode.{encode_string, encode, encode_chunks, enclosed, opening_head, closing_break}
use Rattle.cbor.specs.TypedArrays.{chunks_length}
use Rattle.memory.specs.Buffer.{over_if_fits}
use Rattle.head.specs.HeadAnswers.{head_bytes}
use Rattle.head.proofs.HeadCode.{head_bytes_lem}
use Rattle.notation.specs.Quoted.{character, unquote}
use Rattle.notation.specs.Literals.{Content, hex_content, base64_content}
use Rattle.notation.specs.Form.{literal_item}
use Rattle.notation.specs.Reading.{marked}
use Rattle.literal_body.specs.LiteralAnswers.{Fills, Quotes as Quoting}
use Rattle.token.specs.TokenAnswers.{width_number, kind_code, size_number, QuotedAs, EncodedAs, Spelled}
use Rattle.encoding.proofs.ReadSmall.{one_byte}
use Rattle.encoding.proofs.Wrote.{wrote-written, wrote-over, wrote-more}
use Rattle.encoding.specs.ReadAnswers.{held_of, Tells, of_item, info_by, major_by, initial_by, is_bytes_by, HeadSize, HeadWritten, Light, Wrote, Filled, Gave, Leafed, Stringed, LiteralIs, LiteralTold, Ended}
use Rattle.token.specs.declared.Token.{Token as Cut}
use Rattle.std.specs.Prelude.{Ok}
use Rattle.std.specs.Prelude as std
use Rattle.encoding.specs.declared.answer.MadeItem.{MadeItem}
use Rattle.refusal.specs.declared.Refusal.{Refusal}

-- HEADS of tokens
pub info_width : (w : Width) (n : ℕ) → n ≤ limit w → info_by (width_number w) n ≡ information w n
unfolding info_by width_number information limit
info_width w0 n h = omega arith
info_width w1 n h = refl
info_width w2 n h = refl
info_width w4 n h = refl
info_width w8 n h = refl

pub kind-major : (k : Kind) → major_by (kind_code k) ≡ major_number (strings k)
unfolding major_by kind_code major_number
kind-major byte_string = refl
kind-major text_string = refl

-- A HEAD
module _ {b b' : List ℕ} {pos first size : ℕ} (n : ℕ) (h : HeadSize first size) where
  pub written-short : size ≡ 1 → b' ≡ over_if_fits b pos (first ∷ []) → HeadWritten b b' pos first n 1
  written-short e w = record { wrote = rw (one_byte first n (sym (h.is n) ∙ e)) (wrote-written w); size = rw (← e) h }

  pub written_long : b' ≡ over_if_fits b pos (head_bytes first n) → HeadWritten b b' pos first n size
  written_long w = record { wrote = wrote-written w; size = h }

pub ruleset written_ways = (written-short, written_long)

-- A LEAF
pub leafed_is : {b b' : List ℕ} {pos first size : ℕ} {a : std.Result MadeItem Refusal} (t : Cut) → first ≡ initial_by t → HeadWritten b b' pos first t.argument size
    → a ≡ Ok (record { next = t.next; size = size; count = 1; indicator = 0; binary = false; length = 0 }) → Leafed t b b' pos a
leafed_is {first = first} {size = size} t e h f =
    let q : size ≡ length (head_bytes (initial_by t) t.argument) = h.size.is t.argument ∙ ap (λ (x : ℕ). length (head_bytes x t.argument)) e in
    record {
      is = f ∙ ap (λ (x : ℕ). Ok (record { next = t.next; size = x; count = 1; indicator = 0; binary = false; length = 0 })) q;
      wrote = rw e at h.wrote;
    }

-- WHAT A LITERAL HOLDS
module _ (s : List ℕ) (t : Cut) {b b' : List ℕ} {pos : ℕ} where
  by_quotes : (q : ℕ) → Quoting b b' pos (unquote q character (drop t.start (marked s))) → ((c : List ℕ) → Spelled s t.form t.start t.stop c → QuotedAs s q t.start c) → Filled s t b b' pos
  by_quotes q h g = record { is = λ c sp. wrote-over h.same (h.is c (g c sp).rest (g c sp).is); same = h.same }

  by_encodes : (read : List ℕ → Content) → Fills b b' pos (read (take (t.stop - t.start) (drop t.start s))) → ((c : List ℕ) → Spelled s t.form t.start t.stop c → EncodedAs s read t.start t.stop c)
      → Filled s t b b' pos
  by_encodes read h g = record { is = λ c sp. wrote-over h.same (h.is c (g c sp).is); same = h.same }

  pub fill_0 : t.form ≡ 0 → Quoting b b' pos (unquote 0x22 character (drop t.start (marked s))) → Filled s t b b' pos
  unfolding Spelled
  fill_0 e h = by_quotes 0x22 h (λ c sp. rw e at sp)

  pub fill_1 : t.form ≡ 1 → Quoting b b' pos (unquote 0x27 character (drop t.start (marked s))) → Filled s t b b' pos
  unfolding Spelled
  fill_1 e h = by_quotes 0x27 h (λ c sp. rw e at sp)

  pub fill_2 : t.form ≡ 2 → Fills b b' pos (hex_content (take (t.stop - t.start) (drop t.start s))) → Filled s t b b' pos
  unfolding Spelled
  fill_2 e h = by_encodes hex_content h (λ c sp. rw e at sp)

  pub fill_3 : (t.form ≡ 0 → ⊥) → (t.form ≡ 1 → ⊥) → (t.form ≡ 2 → ⊥) → Fills b b' pos (base64_content (take (t.stop - t.start) (drop t.start s))) → Filled s t b b' pos
  unfolding Spelled
  fill_3 n0 n1 n2 h = by_encodes base64_content h (λ c sp. go t.form n0 n1 n2 c sp)
    where
      go : (f : ℕ) → (f ≡ 0 → ⊥) → (f ≡ 1 → ⊥) → (f ≡ 2 → ⊥) → (c : List ℕ) → Spelled s f t.start t.stop c → EncodedAs s base64_content t.start t.stop c
      go zero n0 n1 n2 c sp = absurd (n0 refl)
      go (suc zero) n0 n1 n2 c sp = absurd (n1 refl)
      go (suc (suc zero)) n0 n1 n2 c sp = absurd (n2 refl)
      go (suc (suc (suc f))) n0 n1 n2 c sp = sp

pub ruleset fill_ways = (fill_0, fill_1, fill_2, fill_3)

-- A STRING
module _ (pos n : ℕ) (l : Light (pos + n)) where
  pub string-place : {i r : ℕ} → HeadSize i r → Fits bits64 (pos + r)
  string-place h = record { fits = omega (arith, l.fits, h.most) }

  pub string-size : {i r : ℕ} → HeadSize i r → Fits bits64 (r + n)
  string-size h = record { fits = omega (arith, l.fits, h.most) }

pub string-is : {s b b₁ b₂ : List ℕ} {pos first size : ℕ} (t : Cut) → first ≡ initial_by t → HeadSize first size → b₁ ≡ over_if_fits b pos (head_bytes first t.argument) → Filled s t b₁ b₂ (pos + size)
    → Stringed s t b b₂ pos (size + t.argument)
string-is {s} {b} {b₁} {b₂} {pos} {first} {size} t e h w f =
    let q : size ≡ length (head_bytes (initial_by t) t.argument) = h.is t.argument ∙ ap (λ (x : ℕ). length (head_bytes x t.argument)) e in
    let wr : Wrote b b₁ pos (head_bytes (initial_by t) t.argument) = wrote-written (w ∙ ap (λ (x : ℕ). over_if_fits b pos (head_bytes x t.argument)) e) in
    record {
      size_is = ap (λ (x : ℕ). x + t.argument) q;
      wrote = λ c n sp. wrote-more wr (f.is c sp) (ap (λ (x : ℕ). pos + x) q);
      same = f.same ∙ wr.same;
    }

-- OF INDEFINITE LENGTH
module _ (pos size : ℕ) (l : Light (pos + size)) where
  pub ended-place : Fits bits64 (pos + size)
  ended-place = record { fits = omega (arith, l.fits) }

  pub ended-break : Fits bits64 (pos + size + 1)
  ended-break = record { fits = omega (arith, l.fits) }

  pub ended-size : Fits bits64 (size + 2)
  ended-size = record { fits = omega (arith, l.fits) }

pub ended_is : {b b₁ b₂ : List ℕ} {pos first next size : ℕ} {binary : Bool} {length' : ℕ} {a : std.Result MadeItem Refusal} → b₁ ≡ over_if_fits b pos (first ∷ []) → b₂ ≡ over_if_fits b₁ (pos + size + 1) (255 ∷ [])
    → a ≡ Ok (record { next = next; size = size + 2; count = 1; indicator = 0; binary = binary; length = length' }) → Ended b b₂ pos first next size binary length' a
ended_is {b₁ = b₁} e f g = record { mid = b₁; front = e; back = wrote-written f; is = g }

-- A LITERAL THAT IS AN ITEM
tells-string : (k : Kind) (w : Width) (c : List ℕ) → Tells (held_of (string k w c)) (is_bytes_by (kind_code k)) (length c)
unfolding Tells held_of is_bytes_by kind_code
tells-string byte_string w c = (refl, refl)
tells-string text_string w c = refl

tells-chunked : (k : Kind) → Tells (held_of (chunked k [])) (is_bytes_by (kind_code k)) 0
unfolding Tells held_of is_bytes_by kind_code chunks_length
tells-chunked byte_string = (refl, refl)
tells-chunked text_string = refl

pub width_some : (w : Width) → 3 ≤ width_number w
unfolding width_number
width_some w0 = omega arith
width_some w1 = omega arith
width_some w2 = omega arith
width_some w4 = omega arith
width_some w8 = omega arith

-- the head of a string of a definite length
pub string-head : {s : List ℕ} {t : Cut} {k : Kind} {w : Width} {c : List ℕ} → LiteralIs s t k (definite w) c → head_bytes (initial_by t) t.argument ≡ head (strings k) w (length c)
unfolding initial_by initial size_number
string-head {t = t} {k = k} {w = w} {c = c} l =
    let n : length c ≤ limit w = l.fit w refl in
    let e : initial_by t ≡ initial (strings k) (information w (length c)) = rw (l.code, l.size, l.number, kind-major k, info_width w (length c) n) in
    rw (e, l.number) (sym (head_bytes_lem (strings k) w (length c) n))

module _ (s : List ℕ) (t : Cut) {b b' : List ℕ} {pos : ℕ} {a : std.Result MadeItem Refusal} where
  literal_open_by : {binary : Bool} {first : ℕ} → first ≡ initial_by t → t.indicator ≡ 1 → binary ≡ is_bytes_by t.kind → Ended b b' pos first t.next 0 binary 0 a
      → (k : Kind) (z : Size) (c : List ℕ) → LiteralIs s t k z c → Gave b b' pos t.next a (of_item (literal_item k z c))
  unfolding of_item literal_item encode enclosed opening_head closing_break encode_chunks initial_by initial size_number info_by
  literal_open_by fe e te en k (definite w) c l = absurd (omega (arith, l.size, width_some w))
  literal_open_by {binary} {first} fe e te en k indefinite c l =
      let q : first ≡ initial (strings k) 31 = fe ∙ rw (l.code, e, kind-major k) in
      let p : pos + 0 + 1 ≡ pos + 1 = omega arith in
      record {
        made = _;
        is = en.is;
        next_is = refl;
        sized = refl;
        counted = refl;
        indicated = refl;
        tells = rw (te ∙ ap is_bytes_by l.code) (tells-chunked k);
        wrote = rw (← q) (wrote-more (wrote-written en.front) en.back p);
      }

  pub literal_open : {binary : Bool} {first : ℕ} → first ≡ initial_by t → t.indicator ≡ 1 → binary ≡ is_bytes_by t.kind → Ended b b' pos first t.next 0 binary 0 a → LiteralTold s t b b' pos a
  literal_open fe e te en = record { is = literal_open_by fe e te en }

  literal-by : {binary : Bool} {size : ℕ} → (t.indicator ≡ 1 → ⊥) → binary ≡ is_bytes_by t.kind → Stringed s t b b' pos size
      → a ≡ Ok (record { next = t.next; size = size; count = 1; indicator = 0; binary = binary; length = t.argument })
      → (k : Kind) (z : Size) (c : List ℕ) → LiteralIs s t k z c → Gave b b' pos t.next a (of_item (literal_item k z c))
  unfolding of_item literal_item encode encode_string size_number
  literal-by n1 te st f k indefinite c l = absurd (n1 l.size)
  literal-by {binary} {size} n1 te st f k (definite w) c l =
      let hs : head_bytes (initial_by t) t.argument ≡ head (strings k) w (length c) = string-head l in
      let q : size ≡ length (head (strings k) w (length c) ++ c) = st.size_is ∙ (rw (hs, l.number)) ∙ sym (length-append (head (strings k) w (length c)) c) in
      record {
        made = _;
        is = f;
        next_is = refl;
        sized = q;
        counted = refl;
        indicated = refl;
        tells = rw (te ∙ ap is_bytes_by l.code, l.number) (tells-string k w c);
        wrote = rw hs at (st.wrote c l.number l.spelled);
      }

  pub literal-done : {binary : Bool} {size : ℕ} → (t.indicator ≡ 1 → ⊥) → binary ≡ is_bytes_by t.kind → Stringed s t b b' pos size
      → a ≡ Ok (record { next = t.next; size = size; count = 1; indicator = 0; binary = binary; length = t.argument }) → LiteralTold s t b b' pos a
  literal-done n1 te st f = record { is = literal-by n1 te st f }

pub ruleset literal_ways = (literal_open, literal-done)

pub light_none : (pos n : ℕ) → Light (pos + n) → Light (pos + 0)
light_none pos n l = record { fits = omega (arith, l.fits) }
