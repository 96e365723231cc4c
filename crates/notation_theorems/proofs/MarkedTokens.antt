-- The end mark behind a text changes no token in front of it. Only more is left.
use Prim.Native.Nat.{ℕ, zero, suc}
use mathlib.Core.Path.{◌≡◌, refl, ap, ◌∙◌}
use mathlib.Core.Bool.{Bool, true, false, ◌&&◌}
use mathlib.Core.List.{List, [], ◌∷◌, ◌++◌}
use lib.Dec.{leb, eqb}
use lib.ListN.{length}
use Rattle.cbor.specs.Refusals.{Result, ok, refuse, bind, no_token, unknown_word, dots, float, out_of_range, bad_content, bad_indicator}
use Rattle.cbor.specs.Widths.{Width, w8, limit}
use Rattle.cbor.specs.Items.{Kind, byte_string, text_string, definite, indefinite, Sign, unsigned, negative, simple}
use Rattle.cbor.specs.Utf8.{is_in}
use Rattle.cbor.specs.Valid.{is_simple}
use Rattle.notation.specs.Classes.{Class, other, blank, digit, letter, underscore, minus, dot, quote, apostrophe, slash, hash, comma, colon, open_paren, close_paren, open_bracket, close_bracket, open_brace, close_brace, less, greater, end_mark, class_number, class_rows, class_in, class_of, is, is_word, goes_on}
use Rattle.notation.specs.Scanning.{run, whether, expect}
use Rattle.notation.specs.Indicators.{Indicator, absent, indefinitely, unknown, wide, indicated, indicator, Chosen, chosen, misfit, choose}
use Rattle.notation.specs.Tokens.{Opener, bracket, brace, tagging, embedding, chunking, opens, angle, square, curly, round, whole, Token, begins, closes, leaf, literal, a_comma, a_colon}
use Rattle.notation.specs.Numbers.{digit_value, is_digit, number_from, digits, makes_float, is_floating, Radix, in_radix, no_radix, radix_of, judged, integer_token, integer, other_integer, decimal, based, after_zero, number}
use Rattle.notation.specs.Quoted.{no_surrogate, high_surrogate, Quoting, character, escape, unicode, paired, Move, gives, closed, wrong, escapes, escaped_in, move_at, unquote}
use Rattle.notation.specs.Literals.{literal_token, quoted_token, quoted, is_body, body, Content, stands_for, bad, hex_content, base64_content, contained, encoded_literal}
use Rattle.notation.specs.Words.{same, false_word, true_word, null_word, undefined_word, simple_word, hex_prefix, base64_prefix, infinity_word, is_float_word, is_plain_decimal, simple_by, simple_token, value, worded, prefixed, word}
use Rattle.notation.specs.Cutting.{starts_with, after_minus, opening_token, cut_by}
use Rattle.notation.specs.Reading.{marked}
use Rattle.notation_theorems.proofs.ScanningElements.{off, digit-on, float-on}

-- a token's fault stands where it stood: it has no place yet
abbrev pub more : {A : Type 0} → Result A → Result A
more (ok x r) = ok x (marked r)
more (refuse n w) = refuse n w

abbrev pub Keeps : {A : Type 0} → (List ℕ → Result A) → List ℕ → Type 0
Keeps rd s = rd (marked s) ≡ more (rd s)

abbrev pub Marks : {A : Type 0} → (List ℕ → Result A) → Type 0
Marks rd = (s : List ℕ) → Keeps rd s

-- JOINING READERS
marks_ok : {A : Type 0} (x : A) → Marks (ok x)
marks_ok x s = refl

marks_refuse : {A : Type 0} (n w : ℕ) → Marks {A = A} (λ u. refuse n w)
marks_refuse n w s = refl

keeps_if : {A : Type 0} (v : Bool) (f g : List ℕ → Result A) (s : List ℕ) → Keeps f s → Keeps g s → Keeps {A = A} (λ u. elim v [ true ↦ f u | false ↦ g u ]) s
keeps_if true f g s hf hg = hf
keeps_if false f g s hf hg = hg

marks_if : {A : Type 0} (v : Bool) (f g : List ℕ → Result A) → Marks f → Marks g → Marks {A = A} (λ u. elim v [ true ↦ f u | false ↦ g u ])
marks_if v f g hf hg s = keeps_if v f g s (hf s) (hg s)

more-bind : {A B : Type 0} (R : Result B) (g : B → List ℕ → Result A) → ((x : B) → Marks (g x)) → bind (more R) g ≡ more (bind R g)
unfolding bind
more-bind (ok x r) g k = k x r
more-bind (refuse n w) g k = refl

keeps_then : {A B : Type 0} (f : List ℕ → Result B) (g : B → List ℕ → Result A) (s : List ℕ) → Keeps f s → ((x : B) → Marks (g x)) → Keeps (λ u. bind (f u) g) s
keeps_then f g s h k = ap (λ R. bind R g) h ∙ more-bind (f s) g k

marks_then : {A B : Type 0} (f : List ℕ → Result B) (g : B → List ℕ → Result A) → Marks f → ((x : B) → Marks (g x)) → Marks (λ u. bind (f u) g)
marks_then f g h k s = keeps_then f g s (h s) k

-- THE STEPS
run_marks : (test : ℕ → Bool) → test 256 ≡ false → Marks (run test)
unfolding run marked
run_marks test h [] = rw (h, run)
run_marks test h (b ∷ s) =
    keeps_if (test b) (λ u. bind (run test u) (λ w r. ok (b ∷ w) r)) (λ u. ok [] (b ∷ u)) s
    (keeps_then (run test) (λ w r. ok (b ∷ w) r) s (run_marks test h s) (λ w. marks_ok (b ∷ w))) refl

whether_marks : (c : ℕ) → eqb 256 c ≡ false → Marks (whether c)
unfolding whether marked
whether_marks c h [] = rw (h, whether)
whether_marks c h (b ∷ s) = keeps_if (eqb b c) (ok true) (λ u. ok false (b ∷ u)) s refl refl

expect_marks : (c n : ℕ) → eqb 256 c ≡ false → Marks (expect c n)
unfolding expect marked
expect_marks c n h [] = rw (h, expect)
expect_marks c n h (b ∷ s) = keeps_if (eqb b c) (ok tt) (λ u. refuse n 0) s refl refl

indicator_marks : Marks indicator
unfolding indicator is_word is class_number class_of class_in class_rows is_in
indicator_marks =
    marks_then (whether 0x5f) (λ there r. elim there [ true ↦ bind (run is_word r) (λ w u. ok (indicated w) u) | false ↦ ok absent r ]) (whether_marks 0x5f refl)
    (λ there. marks_if there (λ r. bind (run is_word r) (λ w u. ok (indicated w) u)) (ok absent)
    (marks_then (run is_word) (λ w u. ok (indicated w) u) (run_marks is_word refl) (λ w. marks_ok (indicated w))) (marks_ok absent))

-- DIGITS: the mark is none, and makes no float
mark_off : goes_on 256 ≡ false
unfolding goes_on is_word is class_number class_of class_in class_rows is_in
mark_off = refl

module _ (radix : ℕ) where
  no_digit_lem : is_digit radix 256 ≡ false
  no_digit_lem = off (is_digit radix) (digit-on radix) 256 mark_off

  digits_marks : (v : ℕ) → Marks (digits radix v)
  unfolding digits
  digits_marks v = marks_then (run (is_digit radix)) (λ w r. ok (number_from radix v w) r) (run_marks (is_digit radix) no_digit_lem) (λ w. marks_ok (number_from radix v w))

  floating_marked : (s : List ℕ) → is_floating radix (marked s) ≡ is_floating radix s
  unfolding is_floating marked
  floating_marked [] = rw (no_digit_lem, is_floating) (off (makes_float radix) (float-on radix) 256 mark_off)
  floating_marked (b ∷ s) = ap (λ (v : Bool). elim (is_digit radix b) [ true ↦ v | false ↦ makes_float radix b ]) (floating_marked s)

  unless_floating : (rd : List ℕ → Result Token) → Marks rd → Marks {A = Token} (λ u. elim (is_floating radix u) [ true ↦ refuse float 0 | false ↦ rd u ])
  unless_floating rd h s = rw (floating_marked s) (keeps_if (is_floating radix s) (λ u. refuse float 0) rd s refl (h s))

-- INTEGERS
chosen_marks : (c : Chosen) (make : Width → Token) → Marks {A = Token} (λ r. elim c [ chosen w ↦ ok (make w) r | misfit ↦ refuse bad_indicator 0 ])
chosen_marks (chosen w) make = marks_ok (make w)
chosen_marks misfit make = marks_refuse bad_indicator 0

judged_marks : (n : ℕ) (c : Chosen) (make : Width → Token) → Marks (judged n c make)
unfolding judged
judged_marks n c make =
    marks_if (leb n (limit w8)) (λ r. elim c [ chosen w ↦ ok (make w) r | misfit ↦ refuse bad_indicator 0 ]) (λ r. refuse out_of_range 0) (chosen_marks c make)
    (marks_refuse out_of_range 0)

integer_marks : (g : Sign) (n : ℕ) (i : Indicator) → Marks (integer g n i)
unfolding integer
integer_marks unsigned n i = judged_marks n (choose i n) (integer_token unsigned n)
integer_marks negative zero i = marks_refuse no_token 0
integer_marks negative (suc n) i = judged_marks n (choose i n) (integer_token negative n)

other_marks : (g : Sign) (n : ℕ) → Marks (other_integer g n)
unfolding other_integer
other_marks g n = marks_then indicator (integer g n) indicator_marks (integer_marks g n)

decimal_marks : (g : Sign) (n : ℕ) → Marks (decimal g n)
unfolding decimal
decimal_marks unsigned n =
    marks_then indicator
    (λ i r. bind (whether 0x28 r) (λ tag u. elim tag [ true ↦ judged n (choose i n) (λ w. begins (opens (tagging w n))) u | false ↦ integer unsigned n i u ]))
    indicator_marks
    (λ i. marks_then (whether 0x28) (λ tag u. elim tag [ true ↦ judged n (choose i n) (λ w. begins (opens (tagging w n))) u | false ↦ integer unsigned n i u ]) (whether_marks 0x28 refl)
    (λ tag. marks_if tag (judged n (choose i n) (λ w. begins (opens (tagging w n)))) (integer unsigned n i)
    (judged_marks n (choose i n) (λ w. begins (opens (tagging w n)))) (integer_marks unsigned n i)))
decimal_marks negative n = other_marks negative n

based_marks : (g : Sign) (radix v : ℕ) → Marks (based g radix v)
unfolding based
based_marks g radix v =
    unless_floating radix (λ s. bind (digits radix v s) (other_integer g)) (marks_then (digits radix v) (other_integer g) (digits_marks radix v) (other_marks g))

zero_marks : (g : Sign) → Marks (after_zero g)
unfolding after_zero marked
zero_marks g [] = decimal_marks g 0 []
zero_marks g (c ∷ []) = go (radix_of c)
  where
    go : (x : Radix)
        → ◌≡◌ {A = Result Token} (elim x [ in_radix n ↦ elim (is_digit n 256) [ true ↦ based g n (digit_value 256) [] | false ↦ decimal g 0 (c ∷ 256 ∷ []) ] | no_radix ↦ decimal g 0 (c ∷ 256 ∷ []) ])
        (more (decimal g 0 (c ∷ [])))
    go (in_radix n) = rw (no_digit_lem n) (decimal_marks g 0 (c ∷ []))
    go no_radix = decimal_marks g 0 (c ∷ [])
zero_marks g (c ∷ d ∷ s) = go (radix_of c)
  where
    go : (x : Radix)
        → Keeps {A = Token} (λ u. elim x [ in_radix n ↦ elim (is_digit n d) [ true ↦ based g n (digit_value d) u | false ↦ decimal g 0 (c ∷ d ∷ u) ] | no_radix ↦ decimal g 0 (c ∷ d ∷ u) ]) s
    go (in_radix n) = keeps_if (is_digit n d) (based g n (digit_value d)) (λ u. decimal g 0 (c ∷ d ∷ u)) s (based_marks g n (digit_value d) s) (decimal_marks g 0 (c ∷ d ∷ s))
    go no_radix = decimal_marks g 0 (c ∷ d ∷ s)

number_marks : (g : Sign) (b : ℕ) → Marks (number g b)
unfolding number
number_marks g b =
    unless_floating 10 (λ s. elim (eqb b 0x30) [ true ↦ after_zero g s | false ↦ bind (digits 10 (digit_value b) s) (decimal g) ])
    (marks_if (eqb b 0x30) (after_zero g) (λ s. bind (digits 10 (digit_value b) s) (decimal g)) (zero_marks g)
    (marks_then (digits 10 (digit_value b)) (decimal g) (digits_marks 10 (digit_value b)) (decimal_marks g)))

-- STRINGS: the mark may not stand in one, so that one that does not end is refused alike
mark-wrong : (q : ℕ) → eqb 256 q ≡ false → (k : Quoting) → move_at q k 256 ≡ wrong
unfolding move_at escaped_in escapes is_digit digit_value is_in
mark-wrong q h character = rw (h, move_at)
mark-wrong q h (escape no_surrogate) = rw (h, move_at)
mark-wrong q h (escape (high_surrogate n)) = refl
mark-wrong q h (unicode n c u) = refl
mark-wrong q h (paired n) = refl

unquote_marks : (q : ℕ) → eqb 256 q ≡ false → (k : Quoting) → Marks (unquote q k)
unfolding unquote marked
unquote_marks q h k [] = rw (mark-wrong q h k, unquote)
unquote_marks q h k (b ∷ s) = go (move_at q k b) (λ k'. unquote_marks q h k' s)
  where
    go : (m : Move) → ((k' : Quoting) → Keeps (unquote q k') s)
        → Keeps {A = List ℕ} (λ u. elim m [ gives w k' ↦ bind (unquote q k' u) (λ c r. ok (w ++ c) r) | closed ↦ ok [] u | wrong ↦ refuse no_token 0 ]) s
    go (gives w k') i = keeps_then (unquote q k') (λ c r. ok (w ++ c) r) s (i k') (λ c. marks_ok (w ++ c))
    go closed i = refl
    go wrong i = refl

body_marks : Marks body
unfolding body marked is_body is class_number class_of class_in class_rows is_in
body_marks [] = refl
body_marks (b ∷ s) =
    keeps_if (eqb b 0x27) (ok []) (λ u. elim (eqb b 0x5c) [ true ↦ refuse no_token 0 | false ↦ elim (is_body b) [ true ↦ bind (body u) (λ c r. ok (b ∷ c) r) | false ↦ refuse no_token 0 ] ]) s refl
    (keeps_if (eqb b 0x5c) (λ u. refuse no_token 0) (λ u. elim (is_body b) [ true ↦ bind (body u) (λ c r. ok (b ∷ c) r) | false ↦ refuse no_token 0 ]) s refl
    (keeps_if (is_body b) (λ u. bind (body u) (λ c r. ok (b ∷ c) r)) (λ u. refuse no_token 0) s (keeps_then body (λ c r. ok (b ∷ c) r) s (body_marks s) (λ c. marks_ok (b ∷ c))) refl))

literal_marks : (k : Kind) (b : List ℕ) (i : Indicator) → Marks (literal_token k b i)
unfolding literal_token
literal_marks k b i = chosen_marks (choose i (length b)) (λ w. begins (literal k (definite w) b))

quoted_token_marks : (k : Kind) (b : List ℕ) (i : Indicator) → Marks (quoted_token k b i)
unfolding quoted_token
quoted_token_marks k b absent = literal_marks k b absent
quoted_token_marks k b unknown = literal_marks k b unknown
quoted_token_marks k b (wide w) = literal_marks k b (wide w)
quoted_token_marks k [] indefinitely = marks_ok (begins (literal k indefinite []))
quoted_token_marks k (c ∷ b) indefinitely = literal_marks k (c ∷ b) indefinitely

quoted_marks : (k : Kind) (q : ℕ) → eqb 256 q ≡ false → Marks (quoted k q)
unfolding quoted
quoted_marks k q h =
    marks_then (unquote q character) (λ b r. bind (indicator r) (quoted_token k b)) (unquote_marks q h character)
    (λ b. marks_then indicator (quoted_token k b) indicator_marks (quoted_token_marks k b))

contained_marks : (c : Content) (i : Indicator) → Marks (contained c i)
unfolding contained
contained_marks (stands_for b) i = literal_marks byte_string b i
contained_marks bad i = marks_refuse bad_content 0

encoded_marks : (read : List ℕ → Content) → Marks (encoded_literal read)
unfolding encoded_literal
encoded_marks read =
    marks_then body (λ b r. bind (indicator r) (contained (read b))) body_marks (λ b. marks_then indicator (contained (read b)) indicator_marks (contained_marks (read b)))

-- WORDS
simple_by_marks : (w : List ℕ) → Marks (simple_by w)
unfolding simple_by
simple_by_marks w =
    marks_if (is_plain_decimal w) (λ r. elim (is_simple (number_from 10 0 w)) [ true ↦ ok (begins (leaf (simple (number_from 10 0 w)))) r | false ↦ refuse bad_content 0 ])
    (λ r. refuse unknown_word 0)
    (marks_if (is_simple (number_from 10 0 w)) (ok (begins (leaf (simple (number_from 10 0 w))))) (λ r. refuse bad_content 0)
    (marks_ok (begins (leaf (simple (number_from 10 0 w))))) (marks_refuse bad_content 0))
    (marks_refuse unknown_word 0)

simple_marks : Marks simple_token
unfolding simple_token
simple_marks =
    marks_then (whether 0x28)
    (λ there r. elim there [ true ↦ bind (run (is_digit 10) r) (λ w u. bind (expect 0x29 unknown_word u) (λ x v. simple_by w v)) | false ↦ refuse unknown_word 0 ])
    (whether_marks 0x28 refl)
    (λ there. marks_if there (λ r. bind (run (is_digit 10) r) (λ w u. bind (expect 0x29 unknown_word u) (λ x v. simple_by w v))) (λ r. refuse unknown_word 0)
    (marks_then (run (is_digit 10)) (λ w u. bind (expect 0x29 unknown_word u) (λ x v. simple_by w v)) (run_marks (is_digit 10) (no_digit_lem 10))
    (λ w. marks_then (expect 0x29 unknown_word) (λ x v. simple_by w v) (expect_marks 0x29 unknown_word refl) (λ x. simple_by_marks w)))
    (marks_refuse unknown_word 0))

unknown_marks : (w : List ℕ) → Marks {A = Token} (λ r. elim (is_float_word w) [ true ↦ refuse float 0 | false ↦ refuse unknown_word 0 ])
unknown_marks w = marks_if (is_float_word w) (λ r. refuse float 0) (λ r. refuse unknown_word 0) (marks_refuse float 0) (marks_refuse unknown_word 0)

value_marks : (n : ℕ) → Marks (value n)
unfolding value
value_marks n = marks_ok (begins (leaf (simple n)))

worded_marks : (w : List ℕ) → Marks (worded w)
unfolding worded
worded_marks w = go (same w false_word) (same w true_word) (same w null_word) (same w undefined_word) (same w simple_word)
  where
    go : (a b c d e : Bool) → Marks {A = Token} (λ r.
        elim a [
          | true ↦ value 20 r
          | false ↦ elim b [
            | true ↦ value 21 r
            | false ↦ elim c [
              | true ↦ value 22 r
              | false ↦ elim d [ true ↦ value 23 r | false ↦ elim e [ true ↦ simple_token r | false ↦ elim (is_float_word w) [ true ↦ refuse float 0 | false ↦ refuse unknown_word 0 ] ] ]
            ]
          ]
        ])
    go true b c d e = value_marks 20
    go false true c d e = value_marks 21
    go false false true d e = value_marks 22
    go false false false true e = value_marks 23
    go false false false false true = simple_marks
    go false false false false false = unknown_marks w

prefixed_marks : (w : List ℕ) → Marks (prefixed w)
unfolding prefixed
prefixed_marks w =
    marks_if (same w hex_prefix) (encoded_literal hex_content)
    (λ r. elim (same w base64_prefix) [ true ↦ encoded_literal base64_content r | false ↦ elim (is_float_word w) [ true ↦ refuse float 0 | false ↦ refuse unknown_word 0 ] ])
    (encoded_marks hex_content)
    (marks_if (same w base64_prefix) (encoded_literal base64_content) (λ r. elim (is_float_word w) [ true ↦ refuse float 0 | false ↦ refuse unknown_word 0 ])
    (encoded_marks base64_content) (unknown_marks w))

word_marks : (b : ℕ) → Marks (word b)
unfolding word is_word is class_number class_of class_in class_rows is_in
word_marks b =
    marks_then (run is_word) (λ w r. bind (whether 0x27 r) (λ quote u. elim quote [ true ↦ prefixed (b ∷ w) u | false ↦ worded (b ∷ w) u ])) (run_marks is_word refl)
    (λ w. marks_then (whether 0x27) (λ quote u. elim quote [ true ↦ prefixed (b ∷ w) u | false ↦ worded (b ∷ w) u ]) (whether_marks 0x27 refl)
    (λ quote. marks_if quote (prefixed (b ∷ w)) (worded (b ∷ w)) (prefixed_marks (b ∷ w)) (worded_marks (b ∷ w))))

-- BEHIND `-`: no word has the mark in it
abbrev Plain : List ℕ → Type 0
Plain [] = Unit {0}
Plain (a ∷ w) = (eqb a 256 ≡ false) × Plain w

starts-marked : (w s : List ℕ) → Plain w → starts_with w (marked s) ≡ starts_with w s
unfolding starts_with marked
starts-marked [] s h = refl
starts-marked (a ∷ w) [] h = rw h.0
starts-marked (a ∷ w) (b ∷ s) h = ap (λ (v : Bool). eqb a b && v) (starts-marked w s h.1)

infinity_marks : (b : ℕ) → Marks {A = Token} (λ u. elim (starts_with infinity_word (b ∷ u)) [ true ↦ refuse float 0 | false ↦ refuse no_token 0 ])
unfolding marked
infinity_marks b s =
    rw (starts-marked infinity_word (b ∷ s) (refl, (refl, (refl, (refl, (refl, (refl, (refl, (refl, tt)))))))))
    (keeps_if (starts_with infinity_word (b ∷ s)) (λ u. refuse float 0) (λ u. refuse no_token 0) s refl refl)

minus_marks : Marks after_minus
unfolding after_minus marked starts_with is class_number class_of class_in class_rows is_in
minus_marks [] = refl
minus_marks (b ∷ s) =
    keeps_if (is digit b) (number negative b) (λ u. elim (starts_with infinity_word (b ∷ u)) [ true ↦ refuse float 0 | false ↦ refuse no_token 0 ]) s (number_marks negative b s)
    (infinity_marks b s)

-- TOKENS, a line for each class
opening_marks : (o : Indicator → Opener) (i : Indicator) → Marks (opening_token o i)
unfolding opening_token
opening_marks o absent = marks_ok (begins (opens (o absent)))
opening_marks o indefinitely = marks_ok (begins (opens (o indefinitely)))
opening_marks o (wide w) = marks_ok (begins (opens (o (wide w))))
opening_marks o unknown = marks_refuse bad_indicator 0

opened_marks : (o : Indicator → Opener) → Marks (λ s. bind (indicator s) (opening_token o))
opened_marks o = marks_then indicator (opening_token o) indicator_marks (opening_marks o)

expected_marks : (c : ℕ) → eqb 256 c ≡ false → (rd : List ℕ → Result Token) → Marks rd → Marks (λ s. bind (expect c no_token s) (λ u r. rd r))
expected_marks c h rd k = marks_then (expect c no_token) (λ u r. rd r) (expect_marks c no_token h) (λ u. k)

pub cut_by_marks : (k : Class) (b : ℕ) → Marks (cut_by k b)
unfolding cut_by
cut_by_marks digit b = number_marks unsigned b
cut_by_marks minus b = minus_marks
cut_by_marks letter b = word_marks b
cut_by_marks quote b = quoted_marks text_string 0x22 refl
cut_by_marks apostrophe b = quoted_marks byte_string 0x27 refl
cut_by_marks open_bracket b = opened_marks bracket
cut_by_marks open_brace b = opened_marks brace
cut_by_marks open_paren b = expected_marks 0x5f refl (ok (begins chunking)) (marks_ok (begins chunking))
cut_by_marks less b = expected_marks 0x3c refl (ok (begins (opens embedding))) (marks_ok (begins (opens embedding)))
cut_by_marks greater b =
    expected_marks 0x3e refl (λ r. bind (indicator r) (λ i v. ok (closes angle i) v)) (marks_then indicator (λ i v. ok (closes angle i) v) indicator_marks (λ i. marks_ok (closes angle i)))
cut_by_marks dot b = expected_marks 0x2e refl (λ r. bind (expect 0x2e no_token r) (λ u v. refuse dots 0)) (expected_marks 0x2e refl (λ v. refuse dots 0) (marks_refuse dots 0))
cut_by_marks close_bracket b = marks_ok (closes square absent)
cut_by_marks close_brace b = marks_ok (closes curly absent)
cut_by_marks close_paren b = marks_ok (closes round absent)
cut_by_marks comma b = marks_ok a_comma
cut_by_marks colon b = marks_ok a_colon
cut_by_marks end_mark b = marks_ok (closes whole absent)
cut_by_marks other b = marks_refuse no_token 0
cut_by_marks blank b = marks_refuse no_token 0
cut_by_marks underscore b = marks_refuse no_token 0
cut_by_marks slash b = marks_refuse no_token 0
cut_by_marks hash b = marks_refuse no_token 0
