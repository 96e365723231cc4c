-- Strings and words read well, and so does what stands behind the first element of any token.
use Prim.Native.Nat.{ℕ}
use mathlib.Core.Path.{◌≡◌, refl, sym}
use mathlib.Core.Bool.{Bool, true, false}
use mathlib.Core.List.{List, [], ◌∷◌, ◌++◌}
use lib.Dec.{eqb}
use lib.ListN.{length}
use Rattle.cbor.specs.Refusals.{Result, ok, refuse, bind, no_token, unknown_word, dots, float, bad_content, bad_indicator}
use Rattle.cbor.specs.Items.{Kind, byte_string, text_string, definite, indefinite, unsigned, negative, simple}
use Rattle.cbor.specs.Utf8.{is_in}
use Rattle.cbor.specs.Valid.{is_simple}
use Rattle.notation.specs.Classes.{Class, other, blank, digit, letter, underscore, minus, dot, quote, apostrophe, slash, hash, comma, colon, open_paren, close_paren, open_bracket, close_bracket, open_brace, close_brace, less, greater, end_mark, class_number, class_rows, class_in, class_of, is, is_word, goes_on}
use Rattle.notation.specs.Scanning.{run, whether, expect}
use Rattle.notation.specs.Indicators.{Indicator, absent, indefinitely, unknown, wide, indicator, choose}
use Rattle.notation.specs.Tokens.{Opener, bracket, brace, embedding, chunking, opens, angle, square, curly, round, whole, Token, begins, closes, leaf, literal, a_comma, a_colon}
use Rattle.notation.specs.Numbers.{is_digit, number_from, number}
use Rattle.notation.specs.Quoted.{Quoting, character, Move, gives, closed, wrong, move_at, unquote}
use Rattle.notation.specs.Literals.{literal_token, quoted_token, quoted, is_body, body, Content, stands_for, bad, hex_content, base64_content, contained, encoded_literal}
use Rattle.notation.specs.Words.{same, false_word, true_word, null_word, undefined_word, simple_word, hex_prefix, base64_prefix, infinity_word, is_float_word, is_plain_decimal, simple_by, simple_token, value, worded, prefixed, word}
use Rattle.notation.specs.Cutting.{starts_with, after_minus, opening_token, cut_by}
use Rattle.notation_theorems.proofs.Good.{Good, good_cons, good-ok}
use Rattle.cbor.proofs.Utf8Laws.{both_true}
use Rattle.cbor.proofs.Tests.{clash}
use Rattle.notation_theorems.proofs.ScanningElements.{word_on, digit-on}
use Rattle.notation_theorems.proofs.ScanningSteps.{Sure, sure_ok, sure_refuse, good_soft, sure_if, good-then, sure_then, run_sure, whether_sure, expect_sure}
use Rattle.notation_theorems.proofs.CuttingNumbers.{indicator_sure, chosen_sure, number_sure}

-- STRINGS end at their own closing quote
unquote_sure : (q : ℕ) (k : Quoting) → Sure (unquote q k)
unfolding unquote
unquote_sure q k [] = good_soft (λ p q'. unquote q k) [] 0
unquote_sure q k (b ∷ s) = go (move_at q k b) refl (λ k'. unquote_sure q k' s)
  where
    go : (m : Move) → move_at q k b ≡ m → ((k' : Quoting) → Good (λ p q'. unquote q k') s (unquote q k' s))
        → Good {A = List ℕ} (λ p q'. unquote q k) (b ∷ s) (elim m [ gives w k' ↦ bind (unquote q k' s) (λ c r. ok (w ++ c) r) | closed ↦ ok [] s | wrong ↦ refuse no_token 0 ])
    go (gives w k') e h =
        good_cons (λ p q'. unquote q k) (λ p q' u. bind (unquote q k' u) (λ c r. ok (w ++ c) r)) b (λ p q' u. rw (e, unquote)) s (bind (unquote q k' s) (λ c r. ok (w ++ c) r))
        (good-then (unquote q k') (λ c r. ok (w ++ c) r) s (h k') (λ c. sure_ok (w ++ c)))
    go closed e h = good_cons (λ p q'. unquote q k) (λ p q'. ok []) b (λ p q' u. rw (e, unquote)) s (ok [] s) (good-ok [] s)
    go wrong e h = good_soft (λ p q'. unquote q k) (b ∷ s) 0

body_sure : Sure body
unfolding body
body_sure [] = good_soft (λ p q. body) [] 0
body_sure (b ∷ s) = go (eqb b 0x27) (eqb b 0x5c) (is_body b) refl refl refl (body_sure s)
  where
    go : (u v w : Bool) → eqb b 0x27 ≡ u → eqb b 0x5c ≡ v → is_body b ≡ w → Good (λ p q. body) s (body s)
        → Good {A = List ℕ} (λ p q. body) (b ∷ s) (elim u [
          | true ↦ ok [] s
          | false ↦ elim v [
            | true ↦ refuse no_token 0
            | false ↦
                elim w [ true ↦ bind (body s) (λ c r. ok (b ∷ c) r) | false ↦ refuse no_token 0 ]
          ]
        ])
    go true v w e₁ e₂ e₃ h = good_cons (λ p q. body) (λ p q. ok []) b (λ p q u. rw (e₁, body)) s (ok [] s) (good-ok [] s)
    go false true w e₁ e₂ e₃ h = good_soft (λ p q. body) (b ∷ s) 0
    go false false true e₁ e₂ e₃ h =
        good_cons (λ p q. body) (λ p q u. bind (body u) (λ c r. ok (b ∷ c) r)) b (λ p q u. rw (e₁, body) (rw e₂ (rw e₃))) s (bind (body s) (λ c r. ok (b ∷ c) r))
        (good-then body (λ c r. ok (b ∷ c) r) s h (λ c. sure_ok (b ∷ c)))
    go false false false e₁ e₂ e₃ h = good_soft (λ p q. body) (b ∷ s) 0

literal_sure : (k : Kind) (b : List ℕ) (i : Indicator) → Sure (literal_token k b i)
unfolding literal_token
literal_sure k b i = chosen_sure (choose i (length b)) (λ w. begins (literal k (definite w) b))

quoted_token_sure : (k : Kind) (b : List ℕ) (i : Indicator) → Sure (quoted_token k b i)
unfolding quoted_token
quoted_token_sure k b absent = literal_sure k b absent
quoted_token_sure k b unknown = literal_sure k b unknown
quoted_token_sure k b (wide w) = literal_sure k b (wide w)
quoted_token_sure k [] indefinitely = sure_ok (begins (literal k indefinite []))
quoted_token_sure k (c ∷ b) indefinitely = literal_sure k (c ∷ b) indefinitely

quoted_sure : (k : Kind) (q : ℕ) → Sure (quoted k q)
unfolding quoted
quoted_sure k q =
    sure_then (unquote q character) (λ b r. bind (indicator r) (quoted_token k b)) (unquote_sure q character) (λ b. sure_then indicator (quoted_token k b) indicator_sure (quoted_token_sure k b))

contained_sure : (c : Content) (i : Indicator) → Sure (contained c i)
unfolding contained
contained_sure (stands_for b) i = literal_sure byte_string b i
contained_sure bad i = sure_refuse bad_content 0

encoded_sure : (read : List ℕ → Content) → Sure (encoded_literal read)
unfolding encoded_literal
encoded_sure read =
    sure_then body (λ b r. bind (indicator r) (contained (read b))) body_sure (λ b. sure_then indicator (contained (read b)) indicator_sure (contained_sure (read b)))

-- WORDS
simple_by_sure : (w : List ℕ) → Sure (simple_by w)
unfolding simple_by
simple_by_sure w =
    sure_if (is_plain_decimal w) (λ r. elim (is_simple (number_from 10 0 w)) [ true ↦ ok (begins (leaf (simple (number_from 10 0 w)))) r | false ↦ refuse bad_content 0 ])
    (λ r. refuse unknown_word 0)
    (sure_if (is_simple (number_from 10 0 w)) (ok (begins (leaf (simple (number_from 10 0 w))))) (λ r. refuse bad_content 0)
    (sure_ok (begins (leaf (simple (number_from 10 0 w))))) (sure_refuse bad_content 0))
    (sure_refuse unknown_word 0)

simple_sure : Sure simple_token
unfolding simple_token goes_on is_word is class_number class_of class_in class_rows is_in
simple_sure =
    sure_then (whether 0x28)
    (λ there r. elim there [ true ↦ bind (run (is_digit 10) r) (λ w u. bind (expect 0x29 unknown_word u) (λ x v. simple_by w v)) | false ↦ refuse unknown_word 0 ])
    (whether_sure 0x28 refl)
    (λ there. sure_if there (λ r. bind (run (is_digit 10) r) (λ w u. bind (expect 0x29 unknown_word u) (λ x v. simple_by w v))) (λ r. refuse unknown_word 0)
    (sure_then (run (is_digit 10)) (λ w u. bind (expect 0x29 unknown_word u) (λ x v. simple_by w v)) (run_sure (is_digit 10) (digit-on 10))
    (λ w. sure_then (expect 0x29 unknown_word) (λ x v. simple_by w v) (expect_sure 0x29 unknown_word refl) (λ x. simple_by_sure w)))
    (sure_refuse unknown_word 0))

unknown_sure : (w : List ℕ) → Sure {A = Token} (λ r. elim (is_float_word w) [ true ↦ refuse float 0 | false ↦ refuse unknown_word 0 ])
unknown_sure w = sure_if (is_float_word w) (λ r. refuse float 0) (λ r. refuse unknown_word 0) (sure_refuse float 0) (sure_refuse unknown_word 0)

value_sure : (n : ℕ) → Sure (value n)
unfolding value
value_sure n = sure_ok (begins (leaf (simple n)))

worded_sure : (w : List ℕ) → Sure (worded w)
unfolding worded
worded_sure w = go (same w false_word) (same w true_word) (same w null_word) (same w undefined_word) (same w simple_word)
  where
    go : (a b c d e : Bool) → Sure {A = Token} (λ r.
        elim a [
          | true ↦ value 20 r
          | false ↦ elim b [
            | true ↦ value 21 r
            | false ↦ elim c [
              | true ↦ value 22 r
              | false ↦ elim d [ true ↦ value 23 r | false ↦ elim e [ true ↦ simple_token r | false ↦ elim (is_float_word w) [ true ↦ refuse float 0 | false ↦ refuse unknown_word 0 ] ] ]
            ]
          ]
        ])
    go true b c d e = value_sure 20
    go false true c d e = value_sure 21
    go false false true d e = value_sure 22
    go false false false true e = value_sure 23
    go false false false false true = simple_sure
    go false false false false false = unknown_sure w

prefixed_sure : (w : List ℕ) → Sure (prefixed w)
unfolding prefixed
prefixed_sure w =
    sure_if (same w hex_prefix) (encoded_literal hex_content)
    (λ r. elim (same w base64_prefix) [ true ↦ encoded_literal base64_content r | false ↦ elim (is_float_word w) [ true ↦ refuse float 0 | false ↦ refuse unknown_word 0 ] ])
    (encoded_sure hex_content)
    (sure_if (same w base64_prefix) (encoded_literal base64_content) (λ r. elim (is_float_word w) [ true ↦ refuse float 0 | false ↦ refuse unknown_word 0 ])
    (encoded_sure base64_content) (unknown_sure w))

word_sure : (b : ℕ) → Sure (word b)
unfolding word goes_on is_word is class_number class_of class_in class_rows is_in
word_sure b =
    sure_then (run is_word) (λ w r. bind (whether 0x27 r) (λ quote u. elim quote [ true ↦ prefixed (b ∷ w) u | false ↦ worded (b ∷ w) u ])) (run_sure is_word word_on)
    (λ w. sure_then (whether 0x27) (λ quote u. elim quote [ true ↦ prefixed (b ∷ w) u | false ↦ worded (b ∷ w) u ]) (whether_sure 0x27 refl)
    (λ quote. sure_if quote (prefixed (b ∷ w)) (worded (b ∷ w)) (prefixed_sure (b ∷ w)) (worded_sure (b ∷ w))))

-- BEHIND `-`
starts_keeps : (w s r : List ℕ) → starts_with w s ≡ true → starts_with w (s ++ r) ≡ true
unfolding starts_with
starts_keeps [] s r e = refl
starts_keeps (a ∷ w) [] r e = absurd (clash (sym e))
starts_keeps (a ∷ w) (b ∷ s) r e = let p = both_true (eqb a b) (starts_with w s) e in rw (p.0, starts_keeps w s r p.1)

minus_sure : Sure after_minus
unfolding after_minus
minus_sure [] = good_soft (λ p q. after_minus) [] 0
minus_sure (b ∷ s) = go (is digit b) (starts_with infinity_word (b ∷ s)) refl refl
  where
    go : (u v : Bool) → is digit b ≡ u → starts_with infinity_word (b ∷ s) ≡ v
        → Good {A = Token} (λ p q. after_minus) (b ∷ s) (elim u [ true ↦ number negative b s | false ↦ elim v [ true ↦ refuse float 0 | false ↦ refuse no_token 0 ] ])
    go true v e₁ e₂ = good_cons (λ p q. after_minus) (λ p q. number negative b) b (λ p q u. rw (e₁, after_minus)) s (number negative b s) (number_sure negative b s)
    go false true e₁ e₂ = λ hard p q r st. (0, rw (e₁, after_minus) (rw (starts_keeps infinity_word (b ∷ s) r e₂)))
    go false false e₁ e₂ = good_soft (λ p q. after_minus) (b ∷ s) 0

-- TOKENS, a line for each class
opening_sure : (o : Indicator → Opener) (i : Indicator) → Sure (opening_token o i)
unfolding opening_token
opening_sure o absent = sure_ok (begins (opens (o absent)))
opening_sure o indefinitely = sure_ok (begins (opens (o indefinitely)))
opening_sure o (wide w) = sure_ok (begins (opens (o (wide w))))
opening_sure o unknown = sure_refuse bad_indicator 0

opened_sure : (o : Indicator → Opener) → Sure (λ s. bind (indicator s) (opening_token o))
opened_sure o = sure_then indicator (opening_token o) indicator_sure (opening_sure o)

-- c must be next
expected_sure : (c : ℕ) → is blank c ≡ false → (rd : List ℕ → Result Token) → Sure rd → Sure (λ s. bind (expect c no_token s) (λ u r. rd r))
expected_sure c h rd k = sure_then (expect c no_token) (λ u r. rd r) (expect_sure c no_token h) (λ u. k)

pub cut_by_sure : (k : Class) (b : ℕ) → Sure (cut_by k b)
unfolding cut_by is class_number class_of class_in class_rows is_in
cut_by_sure digit b = number_sure unsigned b
cut_by_sure minus b = minus_sure
cut_by_sure letter b = word_sure b
cut_by_sure quote b = quoted_sure text_string 0x22
cut_by_sure apostrophe b = quoted_sure byte_string 0x27
cut_by_sure open_bracket b = opened_sure bracket
cut_by_sure open_brace b = opened_sure brace
cut_by_sure open_paren b = expected_sure 0x5f refl (ok (begins chunking)) (sure_ok (begins chunking))
cut_by_sure less b = expected_sure 0x3c refl (ok (begins (opens embedding))) (sure_ok (begins (opens embedding)))
cut_by_sure greater b =
    expected_sure 0x3e refl (λ r. bind (indicator r) (λ i v. ok (closes angle i) v)) (sure_then indicator (λ i v. ok (closes angle i) v) indicator_sure (λ i. sure_ok (closes angle i)))
cut_by_sure dot b = expected_sure 0x2e refl (λ r. bind (expect 0x2e no_token r) (λ u v. refuse dots 0)) (expected_sure 0x2e refl (λ v. refuse dots 0) (sure_refuse dots 0))
cut_by_sure close_bracket b = sure_ok (closes square absent)
cut_by_sure close_brace b = sure_ok (closes curly absent)
cut_by_sure close_paren b = sure_ok (closes round absent)
cut_by_sure comma b = sure_ok a_comma
cut_by_sure colon b = sure_ok a_colon
cut_by_sure end_mark b = sure_ok (closes whole absent)
cut_by_sure other b = sure_refuse no_token 0
cut_by_sure blank b = sure_refuse no_token 0
cut_by_sure underscore b = sure_refuse no_token 0
cut_by_sure slash b = sure_refuse no_token 0
cut_by_sure hash b = sure_refuse no_token 0
