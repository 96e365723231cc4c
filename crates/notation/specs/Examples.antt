-- Examples of the papers, computed: what document 01 and docs/DECISIONS.md say of texts, a row for each rule that a reader would look
-- for, bytes in hexadecimal. One table, one statement; crates/vectors runs many more.
use Rattle.std.specs.Prelude.{ℕ, List, [], ◌∷◌, ◌≡◌, refl, length}
use Prim.Native.String.{String}
use mathlib.Core.List as L
use Rattle.cbor.specs.Ascii.{ascii}
use Rattle.cbor.specs.Refusals.{bind, Verdict, accepted, refused, verdict_of, no_such_path}
use Rattle.cbor.specs.Widths.{argument_bytes, limit, fits, shortest, information, big_endian, value_from}
use Rattle.cbor.specs.Items.{Item, Items, count, levels}
use Rattle.cbor.specs.Heads.{major_number, major_of, initial, head, information_of, is_float, is_allowed, taking, started, argued, head_by, next_head}
use Rattle.cbor.specs.Encode.{encode_string, opening_head, closing_break, enclosed, encode, encode_all}
use Rattle.cbor.specs.Utf8.{is_in, rows, follow_in, follow, are_in, sequence_by, first_bad_from, first_bad, is_utf8}
use Rattle.cbor.specs.TypedArrays.{element_size, divides, is_typed_array, may_tag}
use Rattle.cbor.specs.Decode.{step_at, several_by, several_within, several, extent, elements, item_by, item_with, item, decode, most_levels}
use Rattle.notation.specs.Classes.{class_number, class_rows, class_in, class_of, is, is_word}
use Rattle.notation.specs.Scanning.{is_comment, skipped, left_in, skip_from, skip, run, whether, expect}
use Rattle.notation.specs.Indicators.{indicated, indicator, choose}
use Rattle.notation.specs.Numbers.{digit_value, is_digit, number_from, digits, makes_float, is_floating, radix_of, judged, integer_token, integer, decimal, after_zero, number}
use Rattle.notation.specs.Quoted.{utf8_of, escapes, escaped_in, whole_unit, unit, move_at, unquote}
use Rattle.notation.specs.Literals.{literal_token, quoted_token, quoted, is_body, body, after, half_end, hex_digit, hex_from, hex_content, sextet_at, valued, is_padding, sextets, last_three, last_four, base64_from, base64_content, contained, encoded_literal}
use Rattle.notation.specs.Words.{same, is_float_word, value, worded, prefixed, word}
use Rattle.notation.specs.Cutting.{opening_token, cut_by, cut, place, placed, next}
use Rattle.notation.specs.Form.{then, stray_indicator, stray_closing, stray, strays, shape_number, closing_rule, width_rule, contains, tag_rule, after_tag, inside, literal_item, beginning, one_rule, after_item, items_rule, after_chunk, is_wanted, chunk_rule, chunks_rule, rules, obey, reads_within, reads as reads_by}
use Rattle.cbor.specs.Paths.{Found, found, nowhere}
use Rattle.notation.specs.Places.{separated, past, to_element, to_value, into, toward, levels_at, around, Span, span_of, span_at}
use Rattle.notation.specs.Printing.{width_name, indicator_of, blank_behind, size_of, print_item, print_text}
use Rattle.notation.specs.Reading.{marked, checked, sequence, read_text, outside, alone, single, read_item}

-- the bytes of a text, or its refusal
unfoldable pub bytes_of_text : Verdict Items → Verdict (List ℕ)
bytes_of_text (accepted xs) = accepted (encode_all xs)
bytes_of_text (refused n place) = refused n place

-- what is asked: a text; the text of one item, with 16 levels left, or those that are left behind steps; the text of bytes; where the
-- item at a path stands in a text
pub data TextQuestion : Type 0 where
  of_text of_one_item of_bytes : List ℕ → TextQuestion
  of_item_behind of_path : List ℕ → List ℕ → TextQuestion

unfoldable pub bytes_of_item : Verdict Item → Verdict (List ℕ)
bytes_of_item (accepted x) = accepted (encode x)
bytes_of_item (refused n place) = refused n place

unfoldable pub printed_of : Verdict Items → Verdict (List ℕ)
printed_of (accepted xs) = accepted (print_text xs)
printed_of (refused n place) = refused n place

unfoldable pub spanned : Found Span → Verdict (List ℕ)
spanned (found z) = accepted (z.start ∷ z.end ∷ [])
spanned (nowhere i) = refused no_such_path i

unfoldable pub text_answer_to : TextQuestion → Verdict (List ℕ)
text_answer_to (of_text t) = bytes_of_text (read_text t)
text_answer_to (of_one_item t) = bytes_of_item (read_item most_levels t)
text_answer_to (of_item_behind p t) = bytes_of_item (read_item (levels_at most_levels p) t)
text_answer_to (of_bytes s) = printed_of (verdict_of (length s) (decode s))
text_answer_to (of_path p t) = spanned (span_at p t)

pub record TextExample : Type 0 where
  pub question : TextQuestion
  pub expected : Verdict (List ℕ)

-- shorthands
reads : String → List ℕ → TextExample
reads t b = record { question = of_text (ascii t); expected = accepted b }

refuses : String → ℕ → ℕ → TextExample
refuses t n place = record { question = of_text (ascii t); expected = refused n place }

refuses_item : String → ℕ → ℕ → TextExample
refuses_item t n place = record { question = of_one_item (ascii t); expected = refused n place }

refuses_behind : List ℕ → String → ℕ → ℕ → TextExample
refuses_behind p t n place = record { question = of_item_behind p (ascii t); expected = refused n place }

prints : List ℕ → String → TextExample
prints b t = record { question = of_bytes b; expected = accepted (ascii t) }

stands : String → List ℕ → ℕ → ℕ → TextExample
stands t p a e = record { question = of_path p (ascii t); expected = accepted (a ∷ e ∷ []) }

pub text_examples : List TextExample
text_examples =
    -- an indicator is glued to its token, and `_` alone is indefinite length
    reads "[_1]" (0x99 ∷ 0x00 ∷ 0x00 ∷ [])
    ∷ reads "[_ 1]" (0x9f ∷ 0x01 ∷ 0xff ∷ [])
    -- a comment inside `h`
    ∷ reads "h'03 / cat / 01'" (0x42 ∷ 0x03 ∷ 0x01 ∷ [])
    -- escapes, the last two of them a pair of surrogates
    ∷ reads "\"a\\n\\u00fc\\ud800\\udd51\"" (0x68 ∷ 0x61 ∷ 0x0a ∷ 0xc3 ∷ 0xbc ∷ 0xf0 ∷ 0x90 ∷ 0x85 ∷ 0x91 ∷ [])
    -- a comment that ends with no newline
    ∷ refuses "1 # c" 3 2
    -- the longest token is `0`, and a word follows
    ∷ refuses "0xg" 4 1
    ∷ reads "null" (0xf6 ∷ [])
    -- dots, also where the form wants a comma
    ∷ refuses "1 ..." 5 2
    -- unused bits of `b64` are zero
    ∷ refuses "b64'AQJ='" 8 0
    -- an unknown indicator on a `>>` that the form does not allow
    ∷ refuses "<<1,>>_x" 9 4
    -- 17 levels
    ∷ refuses "[[[[[[[[[[[[[[[[[" 10 16
    -- chunks are of one kind
    ∷ refuses "(_ h'01', \"a\")" 12 10
    -- the elements of tag 65 have two bytes
    ∷ refuses "65(h'010203')" 13 0
    -- correct's text has no blank outside its item
    ∷ refuses_item "2 " 11 1
    ∷ refuses_item " 2" 11 0
    -- behind fifteen steps one level is left
    ∷ refuses_behind (0 ∷ 0 ∷ 0 ∷ 0 ∷ 0 ∷ 0 ∷ 0 ∷ 0 ∷ 0 ∷ 0 ∷ 0 ∷ 0 ∷ 0 ∷ 0 ∷ 0 ∷ []) "[[1]]" 10 1
    -- the printed layout: an indicator where a head is not the shortest, and a blank behind it
    ∷ prints (0x98 ∷ 0x00 ∷ []) "[_0 ]\n"
    -- an item runs from its first token to its last, here the value of a pair
    ∷ stands "[1, { 2 : 3 } ], 7" (0 ∷ 1 ∷ 0 ∷ []) 10 11
    ∷ []

pub text_examples_hold : L.map (λ (e : TextExample). text_answer_to e.question) text_examples ≡ L.map (λ (e : TextExample). e.expected) text_examples
unfolding text_examples reads refuses refuses_item refuses_behind prints stands text_answer_to bytes_of_text bytes_of_item printed_of spanned bind verdict_of argument_bytes limit fits shortest information big_endian value_from count levels major_number major_of initial head information_of is_float is_allowed taking started argued head_by next_head encode_string opening_head closing_break enclosed encode is_in rows follow_in follow are_in sequence_by first_bad_from first_bad is_utf8 element_size divides is_typed_array may_tag step_at several_by several_within several extent elements item_by item_with item decode class_number class_rows class_in class_of is is_word is_comment skipped left_in skip_from skip run whether expect indicated indicator choose digit_value is_digit number_from digits makes_float is_floating radix_of judged integer_token integer decimal after_zero number utf8_of escapes escaped_in whole_unit unit move_at unquote literal_token quoted_token quoted is_body body after half_end hex_digit hex_from hex_content sextet_at valued is_padding sextets last_three last_four base64_from base64_content contained encoded_literal same is_float_word value worded prefixed word opening_token cut_by cut place placed next then stray_indicator stray_closing stray strays shape_number closing_rule width_rule contains tag_rule after_tag inside literal_item beginning one_rule after_item items_rule after_chunk is_wanted chunk_rule chunks_rule rules obey reads_within reads_by marked checked sequence read_text outside alone single read_item width_name indicator_of blank_behind size_of print_item print_text separated past to_element to_value into toward levels_at around span_of span_at
text_examples_hold = refl
