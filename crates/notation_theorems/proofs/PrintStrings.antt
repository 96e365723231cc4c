-- Printed strings are cut as themselves, before every text that cannot go on in a token.
use Prim.Native.Nat.{ℕ, ◌+◌, ◌*◌, ◌/◌, ◌%◌, ◌≤◌, ◌<◌}
use native.Mathlib.Omega.{arith}
use mathlib.Core.Path.{◌≡◌, refl, ◌∙◌}
use mathlib.Core.Bool.{Bool, true, false, ◌||◌, not, false≢true}
use mathlib.Core.List.{List, [], ◌∷◌, ◌++◌, append_assoc}
use lib.Dec.{T, ltb, eqb}
use lib.ListN.{length, replicate}
use borrow.Author.Tests.{ltb-true, ltb-false, eqb-true, le-leb, lt-leb, lt-ltb, not-true}
use Rattle.cbor.specs.Ascii.{ascii}
use Rattle.cbor.specs.Refusals.{ok, bind}
use Rattle.cbor.specs.Widths.{Width}
use Rattle.cbor.specs.Items.{Kind, byte_string, text_string, definite, indefinite}
use Rattle.cbor.specs.Utf8.{is_in}
use Rattle.cbor.specs.Valid.{Bytes, ValidString}
use Rattle.cbor.proofs.Table.{every, between}
use Rattle.notation.specs.Classes.{blank, slash, hash, class_number, class_rows, class_in, class_of, is, is_word}
use Rattle.notation.specs.Scanning.{run, whether}
use Rattle.notation.specs.Indicators.{Indicator, indicated, indicator, chosen, choose}
use Rattle.notation.specs.Numbers.{digit_value, is_digit}
use Rattle.notation.specs.Quoted.{utf8_of, no_surrogate, Quoting, character, escape, unicode, gives, escapes, escaped_in, whole_unit, unit, move_at, unquote}
use Rattle.notation.specs.Literals.{literal_token, quoted_token, quoted, is_body, body, stands_for, after, no_comment, no_half, high, half_end, hex_digit, hex_from, hex_content, contained, encoded_literal}
use Rattle.notation.specs.Words.{same, prefixed, word}
use Rattle.notation.specs.Tokens.{begins, literal}
use Rattle.notation.specs.Cutting.{cut_by, next}
use Rattle.notation.specs.Printing.{hex_digit_of, hex_byte_of, hex_of, escape_of, escaped_of, indicator_of, print_string, print_chunked}
use Rattle.notation_theorems.proofs.Good.{Stop}
use Rattle.notation_theorems.proofs.PrintNumbers.{run-all, sure, either_false, next_at, Plain, plain_absent, plain_wide, named, stop_word, stop_halts, stop_indicates}

-- HEXADECIMAL DIGITS

record HexDigit (v : ℕ) : Type 0 where
  value : digit_value (hex_digit_of v) ≡ v
  digit : is_digit 16 (hex_digit_of v) ≡ true
  in_body : is_body (hex_digit_of v) ≡ true
  no_quote : eqb (hex_digit_of v) 0x27 ≡ false
  no_escape : eqb (hex_digit_of v) 0x5c ≡ false
  no_blank : is blank (hex_digit_of v) ≡ false
  no_slash : is slash (hex_digit_of v) ≡ false
  no_hash : is hash (hex_digit_of v) ≡ false

-- a test that passes at each v below 16
pub sixteen : (f : ℕ → Bool) → T (every (λ k x. f k) 0 (replicate 16 0)) → (v : ℕ) → v < 16 → f v ≡ true
sixteen f t v h = sure (f v) (between f 0 16 t v (omega arith) h)

hex-digit : (v : ℕ) → v < 16 → HexDigit v
unfolding hex_digit_of digit_value is_digit is_body is class_number class_of class_in class_rows is_in
hex-digit v h =
    record {
      value = eqb-true (digit_value (hex_digit_of v)) v (sixteen (λ v. eqb (digit_value (hex_digit_of v)) v) tt v h);
      digit = sixteen (λ v. is_digit 16 (hex_digit_of v)) tt v h;
      in_body = sixteen (λ v. is_body (hex_digit_of v)) tt v h;
      no_quote = not-true _ (sixteen (λ v. not (eqb (hex_digit_of v) 0x27)) tt v h);
      no_escape = not-true _ (sixteen (λ v. not (eqb (hex_digit_of v) 0x5c)) tt v h);
      no_blank = not-true _ (sixteen (λ v. not (is blank (hex_digit_of v))) tt v h);
      no_slash = not-true _ (sixteen (λ v. not (is slash (hex_digit_of v))) tt v h);
      no_hash = not-true _ (sixteen (λ v. not (is hash (hex_digit_of v))) tt v h);
    }

-- BYTE STRINGS

body-digit : (v : ℕ) (s c r : List ℕ) → v < 16 → body s ≡ ok c r → body (hex_digit_of v ∷ s) ≡ ok (hex_digit_of v ∷ c) r
unfolding body bind
body-digit v s c r h e = let d = hex-digit v h in rw (d.no_quote, body) (rw d.no_escape (rw d.in_body (rw e)))

body-hex : (b s : List ℕ) → Bytes b → body (hex_of b ++ (0x27 ∷ s)) ≡ ok (hex_of b) s
unfolding hex_of hex_byte_of Bytes body
body-hex [] s u = refl
body-hex (x ∷ b) s u =
    let l = u.0 in
    body-digit (x / 16) (hex_digit_of (x % 16) ∷ (hex_of b ++ (0x27 ∷ s))) _ s (omega arith) (body-digit (x % 16) (hex_of b ++ (0x27 ∷ s)) _ s (omega arith) (body-hex b s u.1))

hex-first : (v : ℕ) (s : List ℕ) → v < 16 → hex_from no_comment no_half (hex_digit_of v ∷ s) ≡ hex_from no_comment (high v) s
unfolding hex_from hex_digit
hex-first v s h = let d = hex-digit v h in rw (d.no_blank, hex_from) (rw d.no_slash (rw d.no_hash (rw d.digit (rw d.value))))

hex-second : (u v : ℕ) (s : List ℕ) → v < 16 → hex_from no_comment (high u) (hex_digit_of v ∷ s) ≡ after ((u * 16 + v) ∷ []) (hex_from no_comment no_half s)
unfolding hex_from hex_digit
hex-second u v s h = let d = hex-digit v h in rw (d.no_blank, hex_from) (rw d.no_slash (rw d.no_hash (rw d.digit (rw d.value))))

hex-content : (b : List ℕ) → Bytes b → hex_content (hex_of b) ≡ stands_for b
unfolding hex_content hex_of hex_byte_of Bytes hex_from half_end after
hex-content [] u = refl
hex-content (x ∷ b) u =
    let l = u.0 in
    let e : x / 16 * 16 + x % 16 ≡ x = omega arith in
    hex-first (x / 16) (hex_digit_of (x % 16) ∷ hex_of b) (omega arith) ∙ hex-second (x / 16) (x % 16) (hex_of b) (omega arith) ∙ rw (hex-content b u.1) (rw e)

literal-token : (k : Kind) (w : Width) (b r : List ℕ) (i : Indicator) → choose i (length b) ≡ chosen w → literal_token k b i r ≡ ok (begins (literal k (definite w) b)) r
unfolding literal_token
literal-token k w b r i e = rw (e, literal_token)

-- a literal's text, the quote q that ends it, and what stands behind
closing_split : (a : List ℕ) (q : ℕ) (i r : List ℕ) → (a ++ (q ∷ i)) ++ r ≡ a ++ (q ∷ (i ++ r))
closing_split a q i r = append_assoc a (q ∷ i) r

next-bytes : (w : Width) (b r : List ℕ) → ValidString byte_string w b → Stop r → next (print_string byte_string w b ++ r) ≡ ok (begins (literal byte_string (definite w) b)) r
unfolding print_string cut_by word run whether prefixed same encoded_literal contained bind is_word is class_number class_of class_in class_rows is_in
next-bytes w b r v st =
    let i = named w (length b) v.fit in
    rw (closing_split (hex_of b) 0x27 (indicator_of w (length b)) r)
    (next_at 0x68 _ refl
    (rw (body-hex b (indicator_of w (length b) ++ r) v.bytes)
    (rw (i.reads r (stop_indicates st)) (rw (hex-content b v.bytes) (literal-token byte_string w b r i.mark i.width)))))

-- TEXT STRINGS

unquote-on : (k : Quoting) (b : ℕ) (s : List ℕ) {k' : Quoting} {w c r : List ℕ} → move_at 0x22 k b ≡ gives w k' → unquote 0x22 k' s ≡ ok c r → unquote 0x22 k (b ∷ s) ≡ ok (w ++ c) r
unfolding unquote bind
unquote-on k b s e f = rw (e, unquote) (rw f)

-- a text and what it stands for, with the next element c in front of it
module _ (s w r : List ℕ) (e : unquote 0x22 character s ≡ ok w r) where
  escape-quoted : (c : ℕ) → (eqb c 0x22 || eqb c 0x5c) ≡ true → unquote 0x22 character (0x5c ∷ (c ∷ s)) ≡ ok (c ∷ w) r
  unfolding move_at escaped_in escapes
  escape-quoted c h = go (eqb c 0x22) refl (eqb c 0x5c) refl h
    where
      go : (x : Bool) → eqb c 0x22 ≡ x → (y : Bool) → eqb c 0x5c ≡ y → (x || y) ≡ true → unquote 0x22 character (0x5c ∷ (c ∷ s)) ≡ ok (c ∷ w) r
      go true p y q h = rw (eqb-true c 0x22 p) (unquote-on character 0x5c (0x22 ∷ s) refl (unquote-on (escape no_surrogate) 0x22 s refl e))
      go false p true q h = rw (eqb-true c 0x5c q) (unquote-on character 0x5c (0x5c ∷ s) refl (unquote-on (escape no_surrogate) 0x5c s refl e))
      go false p false q h = absurd (false≢true h)

  whole-unit : (c : ℕ) → c < 0x20 → whole_unit no_surrogate c ≡ gives (c ∷ []) character
  unfolding whole_unit is_in utf8_of
  whole-unit c h = rw (lt-leb 0xd800 c (omega arith), whole_unit) (rw (lt-leb 0xdc00 c (omega arith)) (rw (lt-ltb c 0x80 (omega arith), utf8_of)))

  last-digit : (c : ℕ) → c < 0x20 → move_at 0x22 (unicode 1 (0 * 16 + digit_value (hex_digit_of (c / 16))) no_surrogate) (hex_digit_of (c % 16)) ≡ gives (c ∷ []) character
  unfolding move_at unit
  last-digit c h =
      let d = hex-digit (c / 16) (omega arith) in
      let d' = hex-digit (c % 16) (omega arith) in
      let v : (0 * 16 + digit_value (hex_digit_of (c / 16))) * 16 + digit_value (hex_digit_of (c % 16)) ≡ c = rw (d.value, d'.value) (omega arith) in
      rw (d'.digit, move_at) (rw v (whole-unit c h))

  first-digit : (v : ℕ) → v < 16 → move_at 0x22 (unicode 2 0 no_surrogate) (hex_digit_of v) ≡ gives [] (unicode 1 (0 * 16 + digit_value (hex_digit_of v)) no_surrogate)
  unfolding move_at unit
  first-digit v h = rw ((hex-digit v h).digit, move_at)

  escape_control : (c : ℕ) → c < 0x20 → unquote 0x22 character (ascii "\\u00" ++ (hex_byte_of c ++ s)) ≡ ok (c ∷ w) r
  unfolding hex_byte_of move_at unit digit_value is_digit is_in
  escape_control c h =
      unquote-on character 0x5c (0x75 ∷ (0x30 ∷ (0x30 ∷ (hex_byte_of c ++ s)))) refl
      (unquote-on (escape no_surrogate) 0x75 (0x30 ∷ (0x30 ∷ (hex_byte_of c ++ s))) refl
      (unquote-on (unicode 4 0 no_surrogate) 0x30 (0x30 ∷ (hex_byte_of c ++ s)) refl
      (unquote-on (unicode 3 0 no_surrogate) 0x30 (hex_byte_of c ++ s) refl
      (unquote-on (unicode 2 0 no_surrogate) (hex_digit_of (c / 16)) (hex_digit_of (c % 16) ∷ s) (first-digit (c / 16) (omega arith))
      (unquote-on (unicode 1 (0 * 16 + digit_value (hex_digit_of (c / 16))) no_surrogate) (hex_digit_of (c % 16)) s (last-digit c h) e)))))

  escape_plain : (c : ℕ) → (eqb c 0x22 || eqb c 0x5c) ≡ false → 0x20 ≤ c → c < 256 → unquote 0x22 character (c ∷ s) ≡ ok (c ∷ w) r
  unfolding move_at
  escape_plain c h l l' =
      let p = either_false (eqb c 0x22) (eqb c 0x5c) h in
      unquote-on character c s {k' = character} {w = c ∷ []} (rw (p.0, move_at) (rw p.1 (rw (le-leb 0x20 c l, le-leb c 0xff (omega arith))))) e

  escape-read : (c : ℕ) → c < 256 → unquote 0x22 character (escape_of c ++ s) ≡ ok (c ∷ w) r
  unfolding escape_of
  escape-read c l = go (eqb c 0x22 || eqb c 0x5c) refl (ltb c 0x20) refl
    where
      go : (x : Bool) → (eqb c 0x22 || eqb c 0x5c) ≡ x → (y : Bool) → ltb c 0x20 ≡ y
          → unquote 0x22 character ((elim x [ true ↦ 0x5c ∷ c ∷ [] | false ↦ elim y [ true ↦ ascii "\\u00" ++ hex_byte_of c | false ↦ c ∷ [] ] ]) ++ s) ≡ ok (c ∷ w) r
      go true p y q = escape-quoted c p
      go false p true q = escape_control c (ltb-true c 0x20 q)
      go false p false q = escape_plain c p (ltb-false c 0x20 q) l

escaped_read : (b s : List ℕ) → Bytes b → unquote 0x22 character (escaped_of b ++ (0x22 ∷ s)) ≡ ok b s
unfolding escaped_of Bytes unquote move_at
escaped_read [] s u = refl
escaped_read (c ∷ b) s u = rw (append_assoc (escape_of c) (escaped_of b) (0x22 ∷ s)) (escape-read (escaped_of b ++ (0x22 ∷ s)) b s (escaped_read b s u.1) c u.0)

quoted-token : {i : Indicator} (k : Kind) (b r : List ℕ) → Plain i → quoted_token k b i r ≡ literal_token k b i r
unfolding quoted_token
quoted-token k b r plain_absent = refl
quoted-token k b r plain_wide = refl

next-text : (w : Width) (b r : List ℕ) → ValidString text_string w b → Stop r → next (print_string text_string w b ++ r) ≡ ok (begins (literal text_string (definite w) b)) r
unfolding print_string cut_by quoted bind is class_number class_of class_in class_rows is_in
next-text w b r v st =
    let i = named w (length b) v.fit in
    rw (closing_split (escaped_of b) 0x22 (indicator_of w (length b)) r)
    (next_at 0x22 _ refl
    (rw (escaped_read b (indicator_of w (length b) ++ r) v.bytes)
    (rw (i.reads r (stop_indicates st)) (quoted-token text_string b r i.plain ∙ literal-token text_string w b r i.mark i.width))))

-- a string of either kind
pub next-string : (k : Kind) (w : Width) (b r : List ℕ) → ValidString k w b → Stop r → next (print_string k w b ++ r) ≡ ok (begins (literal k (definite w) b)) r
next-string byte_string w b r v st = next-bytes w b r v st
next-string text_string w b r v st = next-text w b r v st

-- a chunked string with no chunk: `''_`, `""_`
pub next_unchunked : (k : Kind) (r : List ℕ) → Stop r → next (print_chunked k [] ++ r) ≡ ok (begins (literal k indefinite [])) r
unfolding print_chunked cut_by quoted quoted_token unquote move_at indicator indicated whether bind is class_number class_of class_in class_rows is_in
next_unchunked byte_string r st = next_at 0x27 _ refl (rw (run-all is_word [] r tt (stop_halts is_word stop_word st)))
next_unchunked text_string r st = next_at 0x22 _ refl (rw (run-all is_word [] r tt (stop_halts is_word stop_word st)))
