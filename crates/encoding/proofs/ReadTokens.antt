-- What the reader needs of every token, whatever the text: a leaf is an integer that fits its head, or a simple value; a literal holds no
-- more than its text; a tag fits its head; and a refusal has a number from 1 to 17.
-- Assumes nothing.
use mathlib.Core.Path.{◌≡◌, refl}
use mathlib.Core.Bool.{Bool, true, false, ◌&&◌}
use mathlib.Core.List.{List, [], ◌∷◌, ◌++◌}
use Prim.Native.Nat.{ℕ, zero, suc, ◌+◌, ◌-◌, ◌*◌, ◌≤◌, min}
use native.Mathlib.Omega.{arith}
use lib.Dec.{leb, ltb, eqb}
use lib.ListN.{length, length-append}
use borrow.Author.Tests.{leb-true}
use Rattle.cbor.specs.Refusals.{Result, ok, refuse, bind, no_token, unknown_word, bad_indicator}
use Rattle.cbor.specs.Widths.{Width, w8, limit, shortest}
use Rattle.cbor.specs.Items.{Sign, unsigned, negative, Kind, byte_string, text_string, Size, definite, indefinite, Item, int, string, chunked, array, map, tag, simple}
use Rattle.cbor.specs.Utf8.{◌to◌, is_in}
use Rattle.cbor.specs.Valid.{is_simple}
use Rattle.cbor.proofs.DecodeEncode.{shortest-simple}
use Rattle.notation.specs.Classes.{Class, other, blank, digit, letter, underscore, minus, dot, quote, apostrophe, slash, hash, comma, colon, open_paren, close_paren, open_bracket, close_bracket, open_brace, close_brace, less, greater, end_mark, class_number, class_of, is, is_word}
use Rattle.notation.specs.Scanning.{skip, fault, run, whether, expect}
use Rattle.notation.specs.Indicators.{Indicator, absent, indefinitely, unknown, wide, indicator, Chosen, chosen, misfit, choose}
use Rattle.notation.specs.Numbers.{digit_value, is_digit, number_from, digits, is_floating, Radix, in_radix, no_radix, radix_of, judged, integer_token, integer, other_integer, decimal, based, after_zero, number}
use Rattle.notation.specs.Quoted.{utf8_of, Before, no_surrogate, high_surrogate, Quoting, character, escape, unicode, paired, Move, gives, closed, wrong, Escape, escapes, escaped_in, whole_unit, unit, move_at, unquote}
use Rattle.notation.specs.Literals.{literal_token, quoted_token, quoted, is_body, body, Content, stands_for, bad, hex_content, base64_content, contained, encoded_literal}
use Rattle.notation.specs.Words.{same, false_word, true_word, null_word, undefined_word, simple_word, infinity_word, hex_prefix, base64_prefix, is_float_word, is_plain_decimal, simple_by, simple_token, value, worded, prefixed, word}
use Rattle.notation.specs.Tokens.{Opener, bracket, brace, tagging, embedding, Beginning, leaf, literal, chunking, opens, Token, begins, closes, a_comma, a_colon}
use Rattle.notation.specs.Cutting.{starts_with, after_minus, opening_token, cut_by, cut, place, placed, next}
use Rattle.token.specs.TokenAnswers.{shape_code}
use Rattle.notation_theorems.proofs.TextScan.{tested}
use Rattle.notation_theorems.proofs.SoundContent.{Holds, hex-content, base64_content_lem}
use Rattle.notation_theorems.proofs.SoundToken.{Chose, choose-fits}

pub record Known (k : ℕ) : Type 0 where
  pub low : 1 ≤ k
  pub high : k ≤ 17

-- a result with a fact of its value and of how much is left
abbrev pub Keeps : {A : Type 0} → (A → ℕ → Type 0) → Result A → Type 0
Keeps P (ok x r) = P x (length r)
Keeps P (refuse k w) = Known k

keeps_bind : {A B : Type 0} (P : A → ℕ → Type 0) (Q : B → ℕ → Type 0) (R : Result A) (f : A → List ℕ → Result B) → Keeps P R → ((x : A) (r : List ℕ) → P x (length r) → Keeps Q (f x r)) → Keeps Q (bind R f)
unfolding bind
keeps_bind P Q (ok x r) f h k = k x r h
keeps_bind P Q (refuse n w) f h k = h

abbrev Upto : {A : Type 0} → ℕ → A → ℕ → Type 0
Upto n x k = k ≤ n

-- A TOKEN
abbrev pub LeafFine : Item → Type 0
LeafFine (int g w n) = n ≤ limit w
LeafFine (string k w b) = ⊥
LeafFine (chunked k cs) = ⊥
LeafFine (array z xs) = ⊥
LeafFine (map z ps) = ⊥
LeafFine (tag w n x) = ⊥
LeafFine (simple n) = n ≤ limit (shortest n)

abbrev pub SizeFine : Size → ℕ → Type 0
SizeFine (definite w) n = n ≤ limit w8 → n ≤ limit w
SizeFine indefinite n = Unit {0}

abbrev pub OpenerFine : Opener → Type 0
OpenerFine (bracket i) = Unit {0}
OpenerFine (brace i) = Unit {0}
OpenerFine (tagging w n) = n ≤ limit w
OpenerFine embedding = Unit {0}

-- one that was cut from n, with k left
abbrev pub BeginFine : ℕ → Beginning → ℕ → Type 0
BeginFine n (leaf x) k = LeafFine x
BeginFine n (literal d z b) k = SizeFine z (length b) × (length b + k ≤ n)
BeginFine n chunking k = Unit {0}
BeginFine n (opens o) k = OpenerFine o

abbrev pub Fine : ℕ → Token → ℕ → Type 0
Fine n (begins g) k = BeginFine n g k
Fine n (closes h i) k = Unit {0}
Fine n a_comma k = Unit {0}
Fine n a_colon k = Unit {0}

-- the same where it begins an item
abbrev Begun : ℕ → Token → ℕ → Type 0
Begun n (begins g) k = BeginFine n g k
Begun n (closes h i) k = ⊥
Begun n a_comma k = ⊥
Begun n a_colon k = ⊥

-- and where its first byte has the class c: the code of a token that begins no item is the number of that class
abbrev pub Led : Class → ℕ → Token → ℕ → Type 0
Led c n (begins g) k = BeginFine n g k
Led c n (closes h i) k = shape_code h ≡ class_number c
Led c n a_comma k = 11 ≡ class_number c
Led c n a_colon k = 12 ≡ class_number c

-- STEPS
module _ (n : ℕ) where
  run_keeps : (test : ℕ → Bool) (s : List ℕ) → length s ≤ n → Keeps (Upto n) (run test s)
  unfolding run
  run_keeps test [] l = l
  run_keeps test (b ∷ s) l =
      tested (Keeps (Upto n)) (test b) _ _ (λ e. keeps_bind (Upto n) (Upto n) (run test s) _ (run_keeps test s (omega arith)) (λ w r k. k)) (λ e. l)

  whether_keeps : (c : ℕ) (s : List ℕ) → length s ≤ n → Keeps (Upto n) (whether c s)
  unfolding whether
  whether_keeps c [] l = l
  whether_keeps c (b ∷ s) l = tested (Keeps (Upto n)) (eqb b c) _ _ (λ e. omega arith) (λ e. l)

  expect_keeps : (c k : ℕ) → Known k → (s : List ℕ) → length s ≤ n → Keeps (Upto n) (expect c k s)
  unfolding expect
  expect_keeps c k h [] l = h
  expect_keeps c k h (b ∷ s) l = tested (Keeps (Upto n)) (eqb b c) _ _ (λ e. omega arith) (λ e. h)

  indicator_keeps : (s : List ℕ) → length s ≤ n → Keeps (Upto n) (indicator s)
  unfolding indicator
  indicator_keeps s l =
      keeps_bind (Upto n) (Upto n) (whether 0x5f s) _ (whether_keeps 0x5f s l)
      (λ there r k. tested (Keeps (Upto n)) there _ _ (λ e. keeps_bind (Upto n) (Upto n) (run is_word r) _ (run_keeps is_word r k) (λ w u j. j)) (λ e. k))

  -- INTEGERS AND TAGS
  judged_keeps : (m : ℕ) (i : Indicator) (make : Width → Token) (r : List ℕ) → ((w : Width) → m ≤ limit w → Begun n (make w) (length r)) → Keeps (Begun n) (judged m (choose i m) make r)
  unfolding judged
  judged_keeps m i make r h =
      tested (Keeps (Begun n)) (leb m (limit w8)) _ _ (λ e. go (choose i m) (choose-fits i m (leb-true m (limit w8) e))) (λ e. record { low = omega arith; high = omega arith })
    where
      go : (c : Chosen) → Chose m c → Keeps (Begun n) (elim c [ chosen w ↦ ok (make w) r | misfit ↦ fault bad_indicator ])
      go (chosen w) f = h w f
      go misfit f = record { low = omega arith; high = omega arith }

  integer_keeps : (g : Sign) (m : ℕ) (i : Indicator) (r : List ℕ) → Keeps (Begun n) (integer g m i r)
  unfolding integer integer_token
  integer_keeps unsigned m i r = judged_keeps m i (integer_token unsigned m) r (λ w h. h)
  integer_keeps negative zero i r = record { low = omega arith; high = omega arith }
  integer_keeps negative (suc m) i r = judged_keeps m i (integer_token negative m) r (λ w h. h)

  other_keeps : (g : Sign) (m : ℕ) (s : List ℕ) → length s ≤ n → Keeps (Begun n) (other_integer g m s)
  unfolding other_integer
  other_keeps g m s l = keeps_bind (Upto n) (Begun n) (indicator s) _ (indicator_keeps s l) (λ i r k. integer_keeps g m i r)

  decimal_keeps : (g : Sign) (m : ℕ) (s : List ℕ) → length s ≤ n → Keeps (Begun n) (decimal g m s)
  unfolding decimal
  decimal_keeps unsigned m s l =
      keeps_bind (Upto n) (Begun n) (indicator s) _ (indicator_keeps s l)
      (λ i r k. keeps_bind (Upto n) (Begun n) (whether 0x28 r) _ (whether_keeps 0x28 r k)
      (λ tag u j. tested (Keeps (Begun n)) tag _ _ (λ e. judged_keeps m i (λ w. begins (opens (tagging w m))) u (λ w h. h)) (λ e. integer_keeps unsigned m i u)))
  decimal_keeps negative m s l = other_keeps negative m s l

  digits_keeps : (radix v : ℕ) (s : List ℕ) → length s ≤ n → Keeps (Upto n) (digits radix v s)
  unfolding digits
  digits_keeps radix v s l = keeps_bind (Upto n) (Upto n) (run (is_digit radix) s) _ (run_keeps (is_digit radix) s l) (λ w r k. k)

  based_keeps : (g : Sign) (radix v : ℕ) (s : List ℕ) → length s ≤ n → Keeps (Begun n) (based g radix v s)
  unfolding based
  based_keeps g radix v s l =
      tested (Keeps (Begun n)) (is_floating radix s) _ _ (λ e. record { low = omega arith; high = omega arith })
      (λ e. keeps_bind (Upto n) (Begun n) (digits radix v s) _ (digits_keeps radix v s l) (λ m r k. other_keeps g m r k))

  zero_keeps : (g : Sign) (s : List ℕ) → length s ≤ n → Keeps (Begun n) (after_zero g s)
  unfolding after_zero
  zero_keeps g [] l = decimal_keeps g 0 [] l
  zero_keeps g (c ∷ []) l = decimal_keeps g 0 (c ∷ []) l
  zero_keeps g (c ∷ d ∷ s) l = go (radix_of c)
    where
      go : (x : Radix)
          → Keeps {A = Token} (Begun n) (elim x [ in_radix m ↦ elim (is_digit m d) [ true ↦ based g m (digit_value d) s | false ↦ decimal g 0 (c ∷ d ∷ s) ] | no_radix ↦ decimal g 0 (c ∷ d ∷ s) ])
      go (in_radix m) = tested (Keeps (Begun n)) (is_digit m d) _ _ (λ e. based_keeps g m (digit_value d) s (omega arith)) (λ e. decimal_keeps g 0 (c ∷ d ∷ s) l)
      go no_radix = decimal_keeps g 0 (c ∷ d ∷ s) l

  number_keeps : (g : Sign) (b : ℕ) (s : List ℕ) → length s ≤ n → Keeps (Begun n) (number g b s)
  unfolding number
  number_keeps g b s l =
      tested (Keeps (Begun n)) (is_floating 10 s) _ _ (λ e. record { low = omega arith; high = omega arith })
      (λ e. tested (Keeps (Begun n)) (eqb b 0x30) _ _ (λ e. zero_keeps g s l)
      (λ e. keeps_bind (Upto n) (Begun n) (digits 10 (digit_value b) s) _ (digits_keeps 10 (digit_value b) s l) (λ m r k. decimal_keeps g m r k)))

-- QUOTED STRINGS: what may still be given for what is read already
credit : Quoting → ℕ
credit character = 0
credit (escape h) = 1
credit (unicode k c h) = min 3 (6 - k)
credit (paired h) = 0

abbrev Paid : ℕ → Move → Type 0
Paid n (gives w k) = length w + credit k ≤ n
Paid n closed = Unit {0}
Paid n wrong = Unit {0}

point-short : (c : ℕ) → length (utf8_of c) ≤ 4
unfolding utf8_of
point-short c =
    let P : List ℕ → Type 0 = λ w. length w ≤ 4 in
    tested P (ltb c 0x80) _ _ (λ e. omega arith) (λ e. tested P (ltb c 0x800) _ _ (λ e. omega arith) (λ e. tested P (ltb c 0x10000) _ _ (λ e. omega arith) (λ e. omega arith)))

escaped_paid : (es : List Escape) (b : ℕ) → Paid 2 (escaped_in es b)
unfolding escaped_in credit
escaped_paid [] b = tt
escaped_paid (e ∷ es) b = tested (Paid 2) (eqb b e.letter) _ _ (λ q. omega arith) (λ q. escaped_paid es b)

whole_paid : (h : Before) (c : ℕ) → Paid 4 (whole_unit h c)
unfolding whole_unit credit
whole_paid no_surrogate c =
    tested (Paid 4) (is_in (0xd800 to 0xdbff) c) _ _ (λ e. omega arith) (λ e. tested (Paid 4) (is_in (0xdc00 to 0xdfff) c) _ _ (λ e. tt) (λ e. omega (arith, point-short c)))
whole_paid (high_surrogate h) c = tested (Paid 4) (is_in (0xdc00 to 0xdfff) c) _ _ (λ e. omega (arith, point-short (0x10000 + (h - 0xd800) * 0x400 + (c - 0xdc00)))) (λ e. tt)

unit_paid : (k c : ℕ) (h : Before) → Paid (credit (unicode k 0 no_surrogate) + 1) (unit (k - 1) c h)
unfolding unit credit
unit_paid zero c h = whole_paid h c
unit_paid (suc zero) c h = whole_paid h c
unit_paid (suc (suc k)) c h =
    let e : suc (suc k) - 1 ≡ suc k = omega arith in
    let g : min 3 (6 - suc k) ≤ min 3 (6 - suc (suc k)) + 1 = omega arith in
    rw e (omega (arith, g))

move_paid : (q : ℕ) (k : Quoting) (b : ℕ) → Paid (credit k + 1) (move_at q k b)
unfolding move_at credit
move_paid q character b =
    tested (Paid 1) (eqb b q) _ _ (λ e. tt) (λ e. tested (Paid 1) (eqb b 0x5c) _ _ (λ e. omega arith) (λ e. tested (Paid 1) (leb 0x20 b && leb b 0xff) _ _ (λ e. omega arith) (λ e. tt)))
move_paid q (escape no_surrogate) b = tested (Paid 2) (eqb b q) _ _ (λ e. omega arith) (λ e. tested (Paid 2) (eqb b 0x75) _ _ (λ e. omega arith) (λ e. escaped_paid escapes b))
move_paid q (escape (high_surrogate h)) b = tested (Paid 2) (eqb b 0x75) _ _ (λ e. omega arith) (λ e. tt)
move_paid q (unicode k c h) b = tested (Paid (min 3 (6 - k) + 1)) (is_digit 16 b) _ _ (λ e. unit_paid k (c * 16 + digit_value b) h) (λ e. tt)
move_paid q (paired h) b = tested (Paid 1) (eqb b 0x5c) _ _ (λ e. omega arith) (λ e. tt)

abbrev Held : ℕ → List ℕ → ℕ → Type 0
Held n c k = length c + k ≤ n

unquote_keeps : (q : ℕ) (k : Quoting) (s : List ℕ) → Keeps (Held (length s + credit k)) (unquote q k s)
unfolding unquote
unquote_keeps q k [] = record { low = omega arith; high = omega arith }
unquote_keeps q k (b ∷ s) = go (λ k'. unquote_keeps q k' s) (move_at q k b) (move_paid q k b)
  where
    go : ((k' : Quoting) → Keeps (Held (length s + credit k')) (unquote q k' s)) → (v : Move) → Paid (credit k + 1) v
        → Keeps (Held (suc (length s) + credit k)) (elim v [ gives w k' ↦ bind (unquote q k' s) (λ c r. ok (w ++ c) r) | closed ↦ ok [] s | wrong ↦ fault no_token ])
    go f (gives w k') p = keeps_bind (Held (length s + credit k')) (Held (suc (length s) + credit k)) (unquote q k' s) _ (f k') (λ c r h. omega (arith, length-append w c))
    go f closed p = omega arith
    go f wrong p = record { low = omega arith; high = omega arith }

body_keeps : (s : List ℕ) → Keeps (Held (length s)) (body s)
unfolding body
body_keeps [] = record { low = omega arith; high = omega arith }
body_keeps (b ∷ s) =
    let P : List ℕ → ℕ → Type 0 = Held (suc (length s)) in
    tested (Keeps P) (eqb b 0x27) _ _ (λ e. omega arith)
    (λ e. tested (Keeps P) (eqb b 0x5c) _ _ (λ e. record { low = omega arith; high = omega arith })
    (λ e. tested (Keeps P) (is_body b) _ _ (λ e. keeps_bind (Held (length s)) P (body s) _ (body_keeps s) (λ c r h. omega arith)) (λ e. record { low = omega arith; high = omega arith })))

-- LITERALS
module _ (n : ℕ) where
  literal_keeps : (k : Kind) (b : List ℕ) (i : Indicator) (r : List ℕ) → length b + length r ≤ n → Keeps (Begun n) (literal_token k b i r)
  unfolding literal_token
  literal_keeps k b i r l = go (choose i (length b)) (λ h. choose-fits i (length b) h)
    where
      go : (c : Chosen) → (length b ≤ limit w8 → Chose (length b) c) → Keeps (Begun n) (elim c [ chosen w ↦ ok (begins (literal k (definite w) b)) r | misfit ↦ fault bad_indicator ])
      go (chosen w) f = (f, l)
      go misfit f = record { low = omega arith; high = omega arith }

  quoted-token : (k : Kind) (b : List ℕ) (i : Indicator) (r : List ℕ) → length b + length r ≤ n → Keeps (Begun n) (quoted_token k b i r)
  unfolding quoted_token
  quoted-token k b absent r l = literal_keeps k b absent r l
  quoted-token k b unknown r l = literal_keeps k b unknown r l
  quoted-token k b (wide w) r l = literal_keeps k b (wide w) r l
  quoted-token k [] indefinitely r l = (tt, l)
  quoted-token k (c ∷ b) indefinitely r l = literal_keeps k (c ∷ b) indefinitely r l

  quoted_keeps : (k : Kind) (q : ℕ) (s : List ℕ) → length s ≤ n → Keeps (Begun n) (quoted k q s)
  unfolding quoted credit
  quoted_keeps k q s l =
      keeps_bind (Held (length s + 0)) (Begun n) (unquote q character s) _ (unquote_keeps q character s)
      (λ b r m. keeps_bind (Upto (length r)) (Begun n) (indicator r) _ (indicator_keeps (length r) r (omega arith)) (λ i v j. quoted-token k b i v (omega arith)))

  contained_keeps : (c : Content) (m : ℕ) (i : Indicator) (r : List ℕ) → Holds m c → m + length r ≤ n → Keeps (Begun n) (contained c i r)
  unfolding contained
  contained_keeps (stands_for b) m i r h l = literal_keeps byte_string b i r (omega (arith, h.1))
  contained_keeps bad m i r h l = record { low = omega arith; high = omega arith }

  encoded_keeps : (read : List ℕ → Content) → ((b : List ℕ) → Holds (length b) (read b)) → (s : List ℕ) → length s ≤ n → Keeps (Begun n) (encoded_literal read s)
  unfolding encoded_literal
  encoded_keeps read h s l =
      keeps_bind (Held (length s)) (Begun n) (body s) _ (body_keeps s)
      (λ b r m. keeps_bind (Upto (length r)) (Begun n) (indicator r) _ (indicator_keeps (length r) r (omega arith)) (λ i v j. contained_keeps (read b) (length b) i v (h b) (omega arith)))

  -- WORDS
  simple_keeps : (s : List ℕ) → length s ≤ n → Keeps (Begun n) (simple_token s)
  unfolding simple_token simple_by
  simple_keeps s l =
      keeps_bind (Upto n) (Begun n) (whether 0x28 s) _ (whether_keeps n 0x28 s l)
      (λ there r k. tested (Keeps (Begun n)) there _ _
      (λ e. keeps_bind (Upto n) (Begun n) (run (is_digit 10) r) _ (run_keeps n (is_digit 10) r k)
      (λ w u j. keeps_bind (Upto n) (Begun n) (expect 0x29 unknown_word u) _ (expect_keeps n 0x29 unknown_word (record { low = omega arith; high = omega arith }) u j)
      (λ o v i. tested (Keeps (Begun n)) (is_plain_decimal w) _ _
      (λ e. tested (Keeps (Begun n)) (is_simple (number_from 10 0 w)) _ _ (λ f. (shortest-simple (number_from 10 0 w) f).fit) (λ f. record { low = omega arith; high = omega arith })) (λ e. record { low = omega arith; high = omega arith }))))
      (λ e. record { low = omega arith; high = omega arith }))

  worded_keeps : (w r : List ℕ) → length r ≤ n → Keeps (Begun n) (worded w r)
  unfolding worded value is_simple
  worded_keeps w r l =
      tested (Keeps (Begun n)) (same w false_word) _ _ (λ e. (shortest-simple 20 refl).fit)
      (λ e. tested (Keeps (Begun n)) (same w true_word) _ _ (λ e. (shortest-simple 21 refl).fit)
      (λ e. tested (Keeps (Begun n)) (same w null_word) _ _ (λ e. (shortest-simple 22 refl).fit)
      (λ e. tested (Keeps (Begun n)) (same w undefined_word) _ _ (λ e. (shortest-simple 23 refl).fit)
      (λ e. tested (Keeps (Begun n)) (same w simple_word) _ _ (λ e. simple_keeps r l)
      (λ e. tested (Keeps (Begun n)) (is_float_word w) _ _ (λ e. record { low = omega arith; high = omega arith }) (λ e. record { low = omega arith; high = omega arith }))))))

  prefixed_keeps : (w r : List ℕ) → length r ≤ n → Keeps (Begun n) (prefixed w r)
  unfolding prefixed
  prefixed_keeps w r l =
      tested (Keeps (Begun n)) (same w hex_prefix) _ _ (λ e. encoded_keeps hex_content hex-content r l)
      (λ e. tested (Keeps (Begun n)) (same w base64_prefix) _ _ (λ e. encoded_keeps base64_content base64_content_lem r l)
      (λ e. tested (Keeps (Begun n)) (is_float_word w) _ _ (λ e. record { low = omega arith; high = omega arith }) (λ e. record { low = omega arith; high = omega arith })))

  word_keeps : (b : ℕ) (s : List ℕ) → length s ≤ n → Keeps (Begun n) (word b s)
  unfolding word
  word_keeps b s l =
      keeps_bind (Upto n) (Begun n) (run is_word s) _ (run_keeps n is_word s l)
      (λ w r k. keeps_bind (Upto n) (Begun n) (whether 0x27 r) _ (whether_keeps n 0x27 r k)
      (λ q v j. tested (Keeps (Begun n)) q _ _ (λ e. prefixed_keeps (b ∷ w) v j) (λ e. worded_keeps (b ∷ w) v j)))

  -- EVERY TOKEN
  minus_keeps : (s : List ℕ) → length s ≤ n → Keeps (Begun n) (after_minus s)
  unfolding after_minus
  minus_keeps [] l = record { low = omega arith; high = omega arith }
  minus_keeps (b ∷ s) l =
      tested (Keeps (Begun n)) (is digit b) _ _ (λ e. number_keeps n negative b s (omega arith))
      (λ e. tested (Keeps (Begun n)) (starts_with infinity_word (b ∷ s)) _ _ (λ e. record { low = omega arith; high = omega arith }) (λ e. record { low = omega arith; high = omega arith }))

  opening_keeps : (o : Indicator → Opener) → ((i : Indicator) → OpenerFine (o i)) → (s : List ℕ) → length s ≤ n → Keeps (Begun n) (bind (indicator s) (opening_token o))
  unfolding opening_token
  opening_keeps o h s l = keeps_bind (Upto n) (Begun n) (indicator s) _ (indicator_keeps n s l) go
    where
      go : (i : Indicator) (r : List ℕ) → length r ≤ n → Keeps (Begun n) (opening_token o i r)
      go absent r k = h absent
      go indefinitely r k = h indefinitely
      go (wide w) r k = h (wide w)
      go unknown r k = record { low = omega arith; high = omega arith }

  none : Known no_token
  none = record { low = omega arith; high = omega arith }

  led : (c : Class) (R : Result Token) → Keeps (Begun n) R → Keeps (Led c n) R
  led c (ok (begins g) r) h = h
  led c (ok (closes h' i) r) h = absurd h
  led c (ok a_comma r) h = absurd h
  led c (ok a_colon r) h = absurd h
  led c (refuse k w) h = h

  cut_keeps : (c : Class) (b : ℕ) (s : List ℕ) → length s ≤ n → Keeps (Led c n) (cut_by c b s)
  unfolding cut_by shape_code class_number
  cut_keeps digit b s l = led digit (number unsigned b s) (number_keeps n unsigned b s l)
  cut_keeps minus b s l = led minus (after_minus s) (minus_keeps s l)
  cut_keeps letter b s l = led letter (word b s) (word_keeps b s l)
  cut_keeps quote b s l = led quote (quoted text_string 0x22 s) (quoted_keeps text_string 0x22 s l)
  cut_keeps apostrophe b s l = led apostrophe (quoted byte_string 0x27 s) (quoted_keeps byte_string 0x27 s l)
  cut_keeps open_bracket b s l = led open_bracket (bind (indicator s) (opening_token bracket)) (opening_keeps bracket (λ i. tt) s l)
  cut_keeps open_brace b s l = led open_brace (bind (indicator s) (opening_token brace)) (opening_keeps brace (λ i. tt) s l)
  cut_keeps open_paren b s l = keeps_bind (Upto n) (Led open_paren n) (expect 0x5f no_token s) _ (expect_keeps n 0x5f no_token none s l) (λ u r k. tt)
  cut_keeps less b s l = keeps_bind (Upto n) (Led less n) (expect 0x3c no_token s) _ (expect_keeps n 0x3c no_token none s l) (λ u r k. tt)
  cut_keeps greater b s l =
      keeps_bind (Upto n) (Led greater n) (expect 0x3e no_token s) _ (expect_keeps n 0x3e no_token none s l)
      (λ u r k. keeps_bind (Upto n) (Led greater n) (indicator r) _ (indicator_keeps n r k) (λ i v j. refl))
  cut_keeps dot b s l =
      keeps_bind (Upto n) (Led dot n) (expect 0x2e no_token s) _ (expect_keeps n 0x2e no_token none s l)
      (λ u r k. keeps_bind (Upto n) (Led dot n) (expect 0x2e no_token r) _ (expect_keeps n 0x2e no_token none r k) (λ u v j. record { low = omega arith; high = omega arith }))
  cut_keeps close_bracket b s l = refl
  cut_keeps close_brace b s l = refl
  cut_keeps close_paren b s l = refl
  cut_keeps comma b s l = refl
  cut_keeps colon b s l = refl
  cut_keeps end_mark b s l = refl
  cut_keeps other b s l = none
  cut_keeps blank b s l = none
  cut_keeps underscore b s l = none
  cut_keeps slash b s l = none
  cut_keeps hash b s l = none

pub cut_led : (b : ℕ) (u r : List ℕ) (tok : Token) → cut (b ∷ u) ≡ ok tok r → Led (class_of b) (length u) tok (length r)
unfolding cut
cut_led b u r tok e = rw e at (cut_keeps (length u) (class_of b) b u (omega arith))

led_fine : (c : Class) (n : ℕ) (tok : Token) (k : ℕ) → Led c n tok k → Fine n tok k
led_fine c n (begins g) k h = h
led_fine c n (closes h' i) k h = tt
led_fine c n a_comma k h = tt
led_fine c n a_colon k h = tt

-- of a token before which p is left; a refusal stands there
abbrev pub Cuts : ℕ → Result Token → Type 0
Cuts p (ok t r) = Fine (p - 1) t (length r) × (1 ≤ p)
Cuts p (refuse k w) = Known k × (w ≡ p)

pub next-fine : (s : List ℕ) → Cuts (place s) (next s)
unfolding next placed cut place
next-fine s = go (skip s)
  where
    shut : (c : Class) (n p : ℕ) → n + 1 ≡ p → (R : Result Token) → Keeps (Led c n) R → Cuts p (placed p R)
    shut c n p e (ok t r) h = let q : n ≡ p - 1 = omega arith in (rw q at (led_fine c n t (length r) h), omega arith)
    shut c n p e (refuse k w) h = (h, refl)

    go : (u : List ℕ) → Cuts (length u) (placed (length u) (cut u))
    go [] = (record { low = omega arith; high = omega arith }, refl)
    go (b ∷ u) = shut (class_of b) (length u) (suc (length u)) (omega arith) (cut_by (class_of b) b u) (cut_keeps (length u) (class_of b) b u (omega arith))
