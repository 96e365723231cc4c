-- Every token is well formed and leaves a text in UTF-8: leaves are well formed items of no level, literals strings that fit their
-- heads, tags fit theirs. What it holds is at most nine times its text.
use Prim.Native.Nat.{ℕ, zero, suc, ◌+◌, ◌*◌, ◌≤◌, ◌<◌}
use native.Mathlib.Omega.{arith}
use mathlib.Core.Path.{◌≡◌, refl}
use mathlib.Core.Bool.{true, false}
use mathlib.Core.Logic.{inl}
use mathlib.Core.List.{List, [], ◌∷◌}
use lib.Dec.{leb, eqb}
use lib.ListN.{length}
use borrow.Author.Tests.{leb-true, eqb-true}
use Rattle.cbor.specs.Refusals.{Result, ok, refuse, bind, no_token, unknown_word, bad_indicator}
use Rattle.cbor.specs.Widths.{Width, w0, w1, w2, w4, w8, argument_bytes, limit, fits, shortest}
use Rattle.cbor.specs.Items.{Sign, unsigned, negative, Kind, byte_string, text_string, Size, definite, indefinite, levels}
use Rattle.cbor.specs.Heads.{Major, integers, simples, head}
use Rattle.cbor.specs.Encode.{encode}
use Rattle.cbor.specs.Utf8.{Range, is_utf8}
use Rattle.cbor.specs.Valid.{Bytes, is_text, ValidString, is_simple, Valid}
use Rattle.cbor.proofs.Arguments.{length_big}
use Rattle.cbor.proofs.Utf8Text.{Text, text-utf8, text-bytes, text-past, text_tail}
use Rattle.notation.specs.Classes.{Class, other, blank, digit, letter, underscore, minus, dot, quote, apostrophe, slash, hash, comma, colon, open_paren, close_paren, open_bracket, close_bracket, open_brace, close_brace, less, greater, end_mark, class_number, class_of, is, is_word}
use Rattle.notation.specs.Scanning.{skip, fault, expect}
use Rattle.notation.specs.Indicators.{Indicator, absent, indefinitely, unknown, wide, indicator, Chosen, chosen, misfit, choose}
use Rattle.notation.specs.Numbers.{digit_value, is_digit, number_from, digits, is_floating, Radix, in_radix, no_radix, radix_of, judged, integer_token, integer, other_integer, decimal, based, after_zero, number}
use Rattle.notation.specs.Literals.{literal_token, quoted_token, quoted, is_body, body, Content, stands_for, bad, hex_content, base64_content, contained, encoded_literal}
use Rattle.notation.specs.Words.{same, false_word, true_word, null_word, undefined_word, simple_word, infinity_word, hex_prefix, base64_prefix, is_float_word, is_plain_decimal, simple_by, simple_token, value, worded, prefixed, word}
use Rattle.notation.specs.Tokens.{Opener, bracket, brace, tagging, embedding, leaf, literal, chunking, opens, Token, begins, closes, a_comma, a_colon}
use Rattle.notation.specs.Cutting.{starts_with, after_minus, opening_token, cut_by, cut, place, placed, next}
use Rattle.notation_theorems.proofs.TextScan.{tested, Leaves, leaves-bind, Upto, class-alone, is-alone, word-alone, digit-alone, skip-text, run-leaves, whether-leaves, expect-leaves, indicator-leaves}
use Rattle.notation_theorems.proofs.TextQuoted.{Unquoted, unquote-text}
use Rattle.notation_theorems.proofs.SoundContent.{Holds, hex-content, base64_content_lem}

-- the most that a text has, the end mark with it
abbrev pub most : ℕ
most = 65536

-- A TOKEN

abbrev pub LiteralSound : Kind → Size → List ℕ → Type 0
LiteralSound k (definite w) b = ValidString k w b
LiteralSound k indefinite b = b ≡ []

abbrev pub OpenerSound : Opener → Type 0
OpenerSound (bracket i) = Unit
OpenerSound (brace i) = Unit
OpenerSound (tagging w n) = n ≤ limit w
OpenerSound embedding = Unit

abbrev pub TokenSound : Token → Type 0
TokenSound (begins (leaf x)) = Valid x × (length (encode x) ≤ 9) × (levels x ≡ 0)
TokenSound (begins (literal k z b)) = LiteralSound k z b
TokenSound (begins chunking) = Unit
TokenSound (begins (opens o)) = OpenerSound o
TokenSound (closes h i) = Unit
TokenSound a_comma = Unit
TokenSound a_colon = Unit

-- what it holds beside a head
abbrev pub weight : Token → ℕ
weight (begins (leaf x)) = 0
weight (begins (literal k z b)) = length b
weight (begins chunking) = 0
weight (begins (opens o)) = 0
weight (closes h i) = 0
weight a_comma = 0
weight a_colon = 0

-- a token read from n, with k left
abbrev Cuts : ℕ → Token → ℕ → Type 0
Cuts n t k = TokenSound t × (weight t + 9 * k ≤ 9 * n)

abbrev Cut : ℕ → Result Token → Type 0
Cut n R = Leaves (Cuts n) R

then-cut : {A : Type 0} (n : ℕ) (R : Result A) (f : A → List ℕ → Result Token) → Leaves (Upto n) R → ((x : A) (r : List ℕ) → Text true [] r → length r ≤ n → Cut n (f x r)) → Cut n (bind R f)
then-cut n R f h k = leaves-bind (Upto n) (Cuts n) R f h k

-- WIDTHS

width-most : (w : Width) → argument_bytes w ≤ 8
unfolding argument_bytes
width-most w0 = omega arith
width-most w1 = omega arith
width-most w2 = omega arith
width-most w4 = omega arith
width-most w8 = omega arith

pub head-most : (m : Major) (w : Width) (n : ℕ) → length (head m w n) ≤ 9
unfolding head
head-most m w n = omega (arith, width-most w, length_big (argument_bytes w) n)

abbrev pub Chose : ℕ → Chosen → Type 0
Chose n (chosen w) = n ≤ limit w
Chose n misfit = Unit {0}

pub choose-fits : (i : Indicator) (n : ℕ) → n ≤ limit w8 → Chose n (choose i n)
unfolding choose shortest fits
choose-fits absent n h =
    tested (λ w. n ≤ limit w) (leb n (limit w0)) _ _ (λ e. leb-true n (limit w0) e)
    (λ e. tested (λ w. n ≤ limit w) (leb n (limit w1)) _ _ (λ e. leb-true n (limit w1) e)
    (λ e. tested (λ w. n ≤ limit w) (leb n (limit w2)) _ _ (λ e. leb-true n (limit w2) e)
    (λ e. tested (λ w. n ≤ limit w) (leb n (limit w4)) _ _ (λ e. leb-true n (limit w4) e) (λ e. h))))
choose-fits indefinitely n h = tt
choose-fits unknown n h = tt
choose-fits (wide w) n h = tested (Chose n) (leb n (limit w)) _ _ (λ e. leb-true n (limit w) e) (λ e. tt)

-- INTEGERS AND TAGS, read from n

int_sound : (g : Sign) (m : ℕ) (w : Width) → m ≤ limit w → TokenSound (integer_token g m w) × (weight (integer_token g m w) ≡ 0)
unfolding integer_token Valid encode levels
int_sound g m w h = ((h, head-most (integers g) w m, refl), refl)

-- a letter that gives a radix is ASCII
abbrev Gives : ℕ → Radix → Type 0
Gives c (in_radix n) = c < 128
Gives c no_radix = Unit {0}

radix_of_lem : (c : ℕ) → Gives c (radix_of c)
unfolding radix_of
radix_of_lem c =
    tested (Gives c) (eqb c 0x78) _ _ (λ e. omega (arith, eqb-true c 0x78 e))
    (λ e. tested (Gives c) (eqb c 0x6f) _ _ (λ e. omega (arith, eqb-true c 0x6f e))
    (λ e. tested (Gives c) (eqb c 0x62) _ _ (λ e. omega (arith, eqb-true c 0x62 e)) (λ e. tt)))

module _ (n : ℕ) where
  judged-cuts : (m : ℕ) (i : Indicator) (make : Width → Token) → ((w : Width) → m ≤ limit w → TokenSound (make w) × (weight (make w) ≡ 0)) → (r : List ℕ) → Text true [] r → length r ≤ n
      → Cut n (judged m (choose i m) make r)
  unfolding judged
  judged-cuts m i make h r t l = tested (Cut n) (leb m (limit w8)) _ _ (λ e. go (choose i m) (choose-fits i m (leb-true m (limit w8) e))) (λ e. tt)
    where
      go : (c : Chosen) → Chose m c → Cut n (elim c [ chosen w ↦ ok (make w) r | misfit ↦ fault bad_indicator ])
      go (chosen w) f = let p = h w f in (t, (p.0, omega arith))
      go misfit f = tt

  integer-cuts : (g : Sign) (m : ℕ) (i : Indicator) (r : List ℕ) → Text true [] r → length r ≤ n → Cut n (integer g m i r)
  unfolding integer
  integer-cuts unsigned m i r t l = judged-cuts m i (integer_token unsigned m) (int_sound unsigned m) r t l
  integer-cuts negative zero i r t l = tt
  integer-cuts negative (suc m) i r t l = judged-cuts m i (integer_token negative m) (int_sound negative m) r t l

  other-cuts : (g : Sign) (m : ℕ) (s : List ℕ) → Text true [] s → length s ≤ n → Cut n (other_integer g m s)
  unfolding other_integer
  other-cuts g m s t l = then-cut n _ _ (indicator-leaves n s t l) (integer-cuts g m)

  decimal-cuts : (g : Sign) (m : ℕ) (s : List ℕ) → Text true [] s → length s ≤ n → Cut n (decimal g m s)
  unfolding decimal
  decimal-cuts unsigned m s t l =
      then-cut n _ _ (indicator-leaves n s t l)
      (λ i r u k. then-cut n _ _ (whether-leaves n 0x28 (omega arith) r u k)
      (λ tag v x j. tested (Cut n) tag _ _ (λ e. judged-cuts m i (λ w. begins (opens (tagging w m))) (λ w h. (h, refl)) v x j) (λ e. integer-cuts unsigned m i v x j)))
  decimal-cuts negative m s t l = other-cuts negative m s t l

  digits-leaves : (radix v : ℕ) (s : List ℕ) → Text true [] s → length s ≤ n → Leaves (Upto n) (digits radix v s)
  unfolding digits
  digits-leaves radix v s t l = leaves-bind (Upto n) (Upto n) _ _ (run-leaves n (is_digit radix) (digit-alone radix) s t l) (λ w r u k. (u, k))

  based-cuts : (g : Sign) (radix v : ℕ) (s : List ℕ) → Text true [] s → length s ≤ n → Cut n (based g radix v s)
  unfolding based
  based-cuts g radix v s t l =
      tested (Cut n) (is_floating radix s) _ _ (λ e. tt) (λ e. then-cut n _ _ (digits-leaves radix v s t l) (other-cuts g))

  zero-cuts : (g : Sign) (s : List ℕ) → Text true [] s → length s ≤ n → Cut n (after_zero g s)
  unfolding after_zero
  zero-cuts g [] t l = decimal-cuts g 0 [] t l
  zero-cuts g (c ∷ []) t l = decimal-cuts g 0 (c ∷ []) t l
  zero-cuts g (c ∷ d ∷ s) t l = go (radix_of c) (radix_of_lem c)
    where
      go : (x : Radix) → Gives c x
          → Cut n (elim x [ in_radix n ↦ elim (is_digit n d) [ true ↦ based g n (digit_value d) s | false ↦ decimal g 0 (c ∷ d ∷ s) ] | no_radix ↦ decimal g 0 (c ∷ d ∷ s) ])
      go (in_radix m) a =
          tested (Cut n) (is_digit m d) _ _ (λ e. based-cuts g m (digit_value d) s (text-past (digit-alone m d e) (text-past (inl a) t).1).1 (omega arith)) (λ e. decimal-cuts g 0 (c ∷ d ∷ s) t l)
      go no_radix a = decimal-cuts g 0 (c ∷ d ∷ s) t l

  number-cuts : (g : Sign) (b : ℕ) (s : List ℕ) → Text true [] s → length s ≤ n → Cut n (number g b s)
  unfolding number
  number-cuts g b s t l =
      tested (Cut n) (is_floating 10 s) _ _ (λ e. tt)
      (λ e. tested (Cut n) (eqb b 0x30) _ _ (λ e. zero-cuts g s t l)
      (λ e. then-cut n _ _ (digits-leaves 10 (digit_value b) s t l) (decimal-cuts g)))

-- STRINGS, read from n, which is not too long

kind-text : (k : Kind) (b : List ℕ) → is_utf8 b ≡ true → is_text k b ≡ true
unfolding is_text
kind-text byte_string b e = refl
kind-text text_string b e = e

body-leaves : (gs : List Range) (s : List ℕ) → Text true gs s → Leaves (λ c k. length c + 9 * k ≤ 9 * length s) (body s)
unfolding body
body-leaves gs [] t = tt
body-leaves gs (b ∷ s) t =
    let P : List ℕ → ℕ → Type 0 = λ c k. length c + 9 * k ≤ 9 * suc (length s) in
    tested (Leaves P) (eqb b 0x27) _ _ (λ e. ((text-past (inl (omega (arith, eqb-true b 0x27 e))) t).1, omega arith))
    (λ e. tested (Leaves P) (eqb b 0x5c) _ _ (λ e. tt)
    (λ e. tested (Leaves P) (is_body b) _ _
    (λ e. leaves-bind (λ c k. length c + 9 * k ≤ 9 * length s) P _ _ (body-leaves (text_tail t).0 s (text_tail t).1) (λ c r u k. (u, omega arith))) (λ e. tt)))

module _ (n : ℕ) (short : n ≤ most) where
  literal-cuts : (k : Kind) (b : List ℕ) (i : Indicator) (r : List ℕ) → Bytes b → is_text k b ≡ true → Text true [] r → length b + 9 * length r ≤ 9 * n → Cut n (literal_token k b i r)
  unfolding literal_token limit
  literal-cuts k b i r u g t l = go (choose i (length b)) (choose-fits i (length b) (omega arith))
    where
      go : (c : Chosen) → Chose (length b) c → Cut n (elim c [ chosen w ↦ ok (begins (literal k (definite w) b)) r | misfit ↦ fault bad_indicator ])
      go (chosen w) f = (t, (record { fit = f; bytes = u; good = g }, l))
      go misfit f = tt

  quoted-token : (k : Kind) (b : List ℕ) (i : Indicator) (r : List ℕ) → Bytes b → is_text k b ≡ true → Text true [] r → length b + 9 * length r ≤ 9 * n → Cut n (quoted_token k b i r)
  unfolding quoted_token
  quoted-token k b absent r u g t l = literal-cuts k b absent r u g t l
  quoted-token k b unknown r u g t l = literal-cuts k b unknown r u g t l
  quoted-token k b (wide w) r u g t l = literal-cuts k b (wide w) r u g t l
  quoted-token k [] indefinitely r u g t l = (t, (refl, l))
  quoted-token k (c ∷ b) indefinitely r u g t l = literal-cuts k (c ∷ b) indefinitely r u g t l

  quoted-cuts : (k : Kind) (q : ℕ) → q < 128 → (s : List ℕ) → Text true [] s → length s ≤ n → Cut n (quoted k q s)
  unfolding quoted
  quoted-cuts k q h s t l =
      leaves-bind (Unquoted [] (length s)) (Cuts n) _ _ (unquote-text q h s t)
      (λ b r u m. leaves-bind (Upto (length r)) (Cuts n) _ _ (indicator-leaves (length r) r u (omega arith))
      (λ i v x j. quoted-token k b i v (text-bytes m.0) (kind-text k b (text-utf8 m.0)) x (omega (arith, m.1))))

  contained-cuts : (c : Content) (m : ℕ) (i : Indicator) (r : List ℕ) → Holds m c → Text true [] r → m + 9 * length r ≤ 9 * n → Cut n (contained c i r)
  unfolding contained is_text
  contained-cuts (stands_for b) m i r h t l = literal-cuts byte_string b i r h.0 refl t (omega arith)
  contained-cuts bad m i r h t l = tt

  encoded-cuts : (read : List ℕ → Content) → ((b : List ℕ) → Holds (length b) (read b)) → (s : List ℕ) → Text true [] s → length s ≤ n → Cut n (encoded_literal read s)
  unfolding encoded_literal
  encoded-cuts read h s t l =
      leaves-bind (λ c k. length c + 9 * k ≤ 9 * length s) (Cuts n) _ _ (body-leaves [] s t)
      (λ b r u m. leaves-bind (Upto (length r)) (Cuts n) _ _ (indicator-leaves (length r) r u (omega arith)) (λ i v x j. contained-cuts (read b) (length b) i v (h b) x (omega arith)))

  -- WORDS

  value-cuts : (m : ℕ) → is_simple m ≡ true → (r : List ℕ) → Text true [] r → length r ≤ n → Cut n (value m r)
  unfolding value Valid encode levels
  value-cuts m h r t l = (t, ((h, head-most simples (shortest m) m, refl), omega arith))

  simple-cuts : (s : List ℕ) → Text true [] s → length s ≤ n → Cut n (simple_token s)
  unfolding simple_token simple_by value
  simple-cuts s t l =
      then-cut n _ _ (whether-leaves n 0x28 (omega arith) s t l)
      (λ there r u k. tested (Cut n) there _ _
      (λ e. then-cut n _ _ (run-leaves n (is_digit 10) (digit-alone 10) r u k)
      (λ w v x j. then-cut n _ _ (expect-leaves n 0x29 (omega arith) unknown_word v x j)
      (λ o z y i. tested (Cut n) (is_plain_decimal w) _ _
      (λ e. tested (Cut n) (is_simple (number_from 10 0 w)) _ _ (λ f. value-cuts (number_from 10 0 w) f z y i) (λ f. tt)) (λ e. tt))))
      (λ e. tt))

  worded-cuts : (w r : List ℕ) → Text true [] r → length r ≤ n → Cut n (worded w r)
  unfolding worded is_simple
  worded-cuts w r t l =
      tested (Cut n) (same w false_word) _ _ (λ e. value-cuts 20 refl r t l)
      (λ e. tested (Cut n) (same w true_word) _ _ (λ e. value-cuts 21 refl r t l)
      (λ e. tested (Cut n) (same w null_word) _ _ (λ e. value-cuts 22 refl r t l)
      (λ e. tested (Cut n) (same w undefined_word) _ _ (λ e. value-cuts 23 refl r t l)
      (λ e. tested (Cut n) (same w simple_word) _ _ (λ e. simple-cuts r t l) (λ e. tested (Cut n) (is_float_word w) _ _ (λ e. tt) (λ e. tt))))))

  prefixed-cuts : (w r : List ℕ) → Text true [] r → length r ≤ n → Cut n (prefixed w r)
  unfolding prefixed
  prefixed-cuts w r t l =
      tested (Cut n) (same w hex_prefix) _ _ (λ e. encoded-cuts hex_content hex-content r t l)
      (λ e. tested (Cut n) (same w base64_prefix) _ _ (λ e. encoded-cuts base64_content base64_content_lem r t l) (λ e. tested (Cut n) (is_float_word w) _ _ (λ e. tt) (λ e. tt)))

  word-cuts : (b : ℕ) (s : List ℕ) → Text true [] s → length s ≤ n → Cut n (word b s)
  unfolding word
  word-cuts b s t l =
      then-cut n _ _ (run-leaves n is_word word-alone s t l)
      (λ w r u k. then-cut n _ _ (whether-leaves n 0x27 (omega arith) r u k)
      (λ quote v x j. tested (Cut n) quote _ _ (λ e. prefixed-cuts (b ∷ w) v x j) (λ e. worded-cuts (b ∷ w) v x j)))

  -- EVERY TOKEN

  minus_cuts : (s : List ℕ) → Text true [] s → length s ≤ n → Cut n (after_minus s)
  unfolding after_minus class_number
  minus_cuts [] t l = tt
  minus_cuts (b ∷ s) t l =
      tested (Cut n) (is digit b) _ _ (λ e. number-cuts n negative b s (text-past (is-alone digit b (omega arith) e) t).1 (omega arith))
      (λ e. tested (Cut n) (starts_with infinity_word (b ∷ s)) _ _ (λ e. tt) (λ e. tt))

  opening_cuts : (o : Indicator → Opener) → ((i : Indicator) → OpenerSound (o i)) → (s : List ℕ) → Text true [] s → length s ≤ n → Cut n (bind (indicator s) (opening_token o))
  unfolding opening_token
  opening_cuts o h s t l = then-cut n _ _ (indicator-leaves n s t l) go
    where
      go : (i : Indicator) (r : List ℕ) → Text true [] r → length r ≤ n → Cut n (opening_token o i r)
      go absent r u k = (u, (h absent, omega arith))
      go indefinitely r u k = (u, (h indefinitely, omega arith))
      go (wide w) r u k = (u, (h (wide w), omega arith))
      go unknown r u k = tt

  -- c must be next, and f goes on
  expect-cuts : (c k : ℕ) → c < 128 → (f : Unit → List ℕ → Result Token) → ((x : Unit) (r : List ℕ) → Text true [] r → length r ≤ n → Cut n (f x r))
      → (s : List ℕ) → Text true [] s → length s ≤ n → Cut n (bind (expect c k s) f)
  expect-cuts c k h f g s t l = then-cut n _ _ (expect-leaves n c h k s t l) g

  cut_by_lem : (c : Class) (b : ℕ) (s : List ℕ) → (1 ≤ class_number c → Text true [] s) → length s ≤ n → Cut n (cut_by c b s)
  unfolding cut_by class_number
  cut_by_lem digit b s h l = number-cuts n unsigned b s (h (omega arith)) l
  cut_by_lem minus b s h l = minus_cuts s (h (omega arith)) l
  cut_by_lem letter b s h l = word-cuts b s (h (omega arith)) l
  cut_by_lem quote b s h l = quoted-cuts text_string 0x22 (omega arith) s (h (omega arith)) l
  cut_by_lem apostrophe b s h l = quoted-cuts byte_string 0x27 (omega arith) s (h (omega arith)) l
  cut_by_lem open_bracket b s h l = opening_cuts bracket (λ i. tt) s (h (omega arith)) l
  cut_by_lem open_brace b s h l = opening_cuts brace (λ i. tt) s (h (omega arith)) l
  cut_by_lem open_paren b s h l = expect-cuts 0x5f no_token (omega arith) _ (λ u r t k. (t, (tt, omega arith))) s (h (omega arith)) l
  cut_by_lem less b s h l = expect-cuts 0x3c no_token (omega arith) _ (λ u r t k. (t, (tt, omega arith))) s (h (omega arith)) l
  cut_by_lem greater b s h l =
      expect-cuts 0x3e no_token (omega arith) _ (λ u r t k. then-cut n _ _ (indicator-leaves n r t k) (λ i v x j. (x, (tt, omega arith)))) s (h (omega arith)) l
  cut_by_lem dot b s h l = expect-cuts 0x2e no_token (omega arith) _ (λ u r t k. expect-cuts 0x2e no_token (omega arith) _ (λ u v x j. tt) r t k) s (h (omega arith)) l
  cut_by_lem close_bracket b s h l = (h (omega arith), (tt, omega arith))
  cut_by_lem close_brace b s h l = (h (omega arith), (tt, omega arith))
  cut_by_lem close_paren b s h l = (h (omega arith), (tt, omega arith))
  cut_by_lem comma b s h l = (h (omega arith), (tt, omega arith))
  cut_by_lem colon b s h l = (h (omega arith), (tt, omega arith))
  cut_by_lem end_mark b s h l = (h (omega arith), (tt, omega arith))
  cut_by_lem other b s h l = tt
  cut_by_lem blank b s h l = tt
  cut_by_lem underscore b s h l = tt
  cut_by_lem slash b s h l = tt
  cut_by_lem hash b s h l = tt

-- a token of s, with k left: its head and what it holds are at most nine times its text
abbrev pub Next : ℕ → Token → ℕ → Type 0
Next n t k = TokenSound t × (9 + weight t + 9 * k ≤ 9 * n)

pub next_sound : (s : List ℕ) → Text true [] s → length s ≤ most → Leaves (Next (length s)) (next s)
unfolding next placed cut
next_sound s t l = let p = skip-text s t in go (skip s) p.0 p.1
  where
    shut : (n : ℕ) → n < length s → (R : Result Token) → Cut n R → Leaves (Next (length s)) (placed (place s) R)
    shut n h (ok x r) k = (k.0, (k.1.0, omega arith))
    shut n h (refuse k w) u = tt

    go : (u : List ℕ) → Text true [] u → length u ≤ length s → Leaves (Next (length s)) (placed (place s) (cut u))
    go [] x k = tt
    go (b ∷ u) x k = shut (length u) k (cut_by (class_of b) b u) (cut_by_lem (length u) (omega arith) (class_of b) b u (λ h. (text-past (class-alone b h) x).1) (omega arith))
