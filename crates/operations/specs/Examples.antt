-- Examples of the papers: the starred examples of document 01 ("On both sides of the line"), computed of the operations: one table, one
-- statement.
use Rattle.std.specs.Prelude.{ℕ, ◌+◌, ◌-◌, List, [], ◌∷◌, ◌++◌, ◌≡◌, refl, length, take, replicate}
use Prim.Native.String.{String}
use mathlib.Core.List as L
use Rattle.cbor.specs.Ascii.{ascii}
use Rattle.cbor.specs.Refusals.{bind, Verdict, accepted, refused, verdict_of}
use Rattle.cbor.specs.Widths.{argument_bytes, limit, fits, shortest, information, big_endian, value_from}
use Rattle.cbor.specs.Items.{count, count₂, levels}
use Rattle.cbor.specs.Heads.{major_number, major_of, initial, head, information_of, is_float, is_allowed, is_indefinite, taking, started, argued, head_by, next_head}
use Rattle.cbor.specs.Encode.{encode_string, opening_head, closing_break, enclosed, encode_chunks, encode, encode_all}
use Rattle.cbor.specs.Utf8.{is_in, rows, follow_in, follow, are_in, sequence_by, first_bad_from, first_bad, is_utf8}
use Rattle.cbor.specs.TypedArrays.{element_size, chunks_length, divides, is_typed_array, may_tag}
use Rattle.cbor.specs.Valid.{is_text, is_simple}
use Rattle.cbor.specs.Decode.{step_at, several_by, several_within, several, content_at, chunk_by, chunk_at, entry_at, extent, tagged, elements, entries, chunks_of, item_by, item_with, item, decode}
use Rattle.cbor.specs.Paths.{within, nth, nth₂, child, onward, descend, locate, start, end}
use Rattle.memory.specs.Buffer.{over}
use Rattle.notation.specs.Classes.{class_number, class_rows, class_in, class_of, is, is_word}
use Rattle.notation.specs.Scanning.{is_comment, skipped, left_in, skip_from, skip, run, whether, expect}
use Rattle.notation.specs.Indicators.{indicated, indicator, choose}
use Rattle.notation.specs.Numbers.{digit_value, is_digit, number_from, digits, makes_float, is_floating, radix_of, judged, integer_token, integer, other_integer, decimal, based, after_zero, number}
use Rattle.notation.specs.Quoted.{utf8_of, escapes, escaped_in, whole_unit, unit, move_at, unquote}
use Rattle.notation.specs.Literals.{literal_token, quoted_token, quoted, is_body, body, after, half_end, hex_digit, hex_from, hex_content, contained, encoded_literal}
use Rattle.notation.specs.Words.{same, is_float_word, worded, prefixed, word}
use Rattle.notation.specs.Cutting.{after_minus, opening_token, cut_by, cut, place, placed, next}
use Rattle.notation.specs.Form.{then, stray_indicator, stray_closing, stray, strays, shape_number, closing_rule, width_rule, contains, tag_rule, after_tag, inside, literal_item, beginning, one_rule, add_item, after_item, items_rule, add_chunk, after_chunk, is_wanted, chunk_rule, chunks_rule, rules, obey, reads_within, reads}
use Rattle.notation.specs.Reading.{marked, checked, sequence, read_text, outside, alone, single, read_item}
use Rattle.notation.specs.Places.{levels_at}
use Rattle.operations.specs.Operations.{Outcome, and_then as onwards, room, fitting, written, bytes_of, read, items_of, spot_of, look_up, level, replaced, correction, zeroed, correct}

pub data Question : Type 0 where
  reading : String → Question
  checking : List ℕ → Question
  correcting : List ℕ → List ℕ → String → Question

-- the bytes that an operation leaves at the front of its buffer, or its refusal
unfoldable pub left : List ℕ → Verdict ℕ → Verdict (List ℕ)
left buffer (accepted n) = accepted (take n buffer)
left buffer (refused n place) = refused n place

unfoldable pub outcome : Outcome ℕ → Verdict (List ℕ)
outcome o = left o.buffer o.answer

-- in a buffer of 16 bytes
unfoldable pub answer : Question → Verdict (List ℕ)
answer (reading t) = outcome (read (ascii t) (replicate 16 0))
answer (checking s) = onwards (items_of s) (λ xs. accepted (encode_all xs))
answer (correcting s p t) = outcome (correct (s ++ replicate (16 - length s) 0) (length s) p (ascii t))

pub record Example : Type 0 where
  pub question : Question
  pub expected : Verdict (List ℕ)

infix 20 ◌gives◌
abbrev pub ◌gives◌ : Question → Verdict (List ℕ) → Example
q gives v = record { question = q; expected = v }

pub examples : List Example
examples =
    (reading "" gives accepted [])
    ∷ (reading "24" gives accepted (0x18 ∷ 0x18 ∷ []))
    ∷ (reading "-18446744073709551616" gives accepted (0x3b ∷ replicate 8 0xff))
    ∷ (reading "-18446744073709551617" gives refused 7 0)
    ∷ (reading "5_1" gives accepted (0x19 ∷ 0x00 ∷ 0x05 ∷ []))
    ∷ (reading "24_i" gives refused 9 0)
    ∷ (reading "h'03 / cat / 01'" gives accepted (0x42 ∷ 0x03 ∷ 0x01 ∷ []))
    ∷ (reading "65(h'0102')" gives accepted (0xd8 ∷ 0x41 ∷ 0x42 ∷ 0x01 ∷ 0x02 ∷ []))
    ∷ (reading "65(h'010203')" gives refused 13 0)
    ∷ (reading "[_ 1, ...]" gives refused 5 6)
    ∷ (reading "(_ h'01', \"a\")" gives refused 12 10)
    ∷ (checking (0xf8 ∷ 0x18 ∷ []) gives refused 16 0)
    ∷ (correcting (0x82 ∷ 0x01 ∷ 0x61 ∷ 0x61 ∷ []) (0 ∷ 1 ∷ []) "h'0203'" gives accepted (0x82 ∷ 0x01 ∷ 0x42 ∷ 0x02 ∷ 0x03 ∷ []))
    ∷ []

pub examples_hold : L.map (λ (e : Example). answer e.question) examples ≡ L.map (λ (e : Example). e.expected) examples
unfolding examples answer outcome left onwards room fitting written bytes_of read items_of spot_of look_up level replaced correction zeroed correct bind verdict_of argument_bytes limit fits shortest information big_endian value_from count count₂ levels major_number major_of initial head information_of is_float is_allowed is_indefinite taking started argued head_by next_head encode_string opening_head closing_break enclosed encode_chunks encode is_in rows follow_in follow are_in sequence_by first_bad_from first_bad is_utf8 element_size chunks_length divides is_typed_array may_tag is_text is_simple step_at several_by several_within several content_at chunk_by chunk_at entry_at extent tagged elements entries chunks_of item_by item_with item decode within nth nth₂ child onward descend locate start end over class_number class_rows class_in class_of is is_word is_comment skipped left_in skip_from skip run whether expect indicated indicator choose digit_value is_digit number_from digits makes_float is_floating radix_of judged integer_token integer other_integer decimal based after_zero number utf8_of escapes escaped_in whole_unit unit move_at unquote literal_token quoted_token quoted is_body body after half_end hex_digit hex_from hex_content contained encoded_literal same is_float_word worded prefixed word after_minus opening_token cut_by cut place placed next then stray_indicator stray_closing stray strays shape_number closing_rule width_rule contains tag_rule after_tag inside literal_item beginning one_rule add_item after_item items_rule add_chunk after_chunk is_wanted chunk_rule chunks_rule rules obey reads_within reads marked checked sequence read_text outside alone single read_item levels_at
examples_hold = refl
