-- Reading a whole printed text gives its items, and the printed text of one item gives that item.
use Prim.Native.Nat.{ℕ, ◌≤◌}
use mathlib.Core.Path.{◌≡◌, refl, sym, ap, ◌∙◌}
use mathlib.Core.Bool.{true, false}
use mathlib.Core.List.{List, [], ◌∷◌, ◌++◌, append_assoc, append-nil}
use lib.Dec.{eqb}
use lib.ListN.{length}
use borrow.Author.Tests.{eq-eqb, le-leb}
use Rattle.cbor.specs.Ascii.{ascii}
use Rattle.cbor.specs.Refusals.{ok, bind, Verdict, verdict_of}
use Rattle.cbor.specs.Decode.{most_bytes, most_levels}
use Rattle.cbor.specs.Items.{unsigned, negative, byte_string, text_string, Item, int, string, chunked, array, map, tag, simple, Items, none, more, levels, levels_all}
use Rattle.cbor.specs.Utf8.{is_in, is_utf8}
use Rattle.cbor.specs.Valid.{Valid, ValidAll}
use Rattle.notation.specs.Classes.{blank, class_number, class_rows, class_in, class_of, is, is_word, goes_on}
use Rattle.notation.specs.Scanning.{skip}
use Rattle.notation.specs.Indicators.{absent}
use Rattle.notation.specs.Tokens.{whole}
use Rattle.notation.specs.Cutting.{place}
use Rattle.notation.specs.Form.{at_start, one, items, reads}
use Rattle.notation.specs.Theorems.{TextOfPrint, ItemOfPrint}
use Rattle.notation.specs.Reading.{marked, checked, sequence, read_text, alone, single, read_item}
use Rattle.notation.specs.Printing.{decimal_of, indicator_of, print_string, print_chunked, print_int, print_item, print_all, print_text}
use Rattle.notation_theorems.proofs.Good.{Stop, stop_nil, stop_at}
use Rattle.notation_theorems.proofs.Locality.{lexing, next-skip}
use Rattle.notation_theorems.proofs.ByName.{bind_ok}
use Rattle.notation_theorems.proofs.PrintNumbers.{decimal-digits, gap, skip_at, digit-class}
use Rattle.notation_theorems.proofs.PrintTokens.{Simply, as_false, as_true, as_null, as_undefined, as_number, simply, marks, stops}
use Rattle.notation_theorems.proofs.PrintRead.{print-read, all_read}
use Rattle.notation_theorems.proofs.PrintUtf8.{item-utf8, print-utf8}

-- A TEXT

line : is blank 0x0a ≡ true
unfolding is class_number class_of class_in class_rows is_in
line = refl

mark_stop : Stop (256 ∷ [])
unfolding goes_on is_word is class_number class_of class_in class_rows is_in
mark_stop = stop_at refl

text-read : (xs : Items) → ValidAll xs → levels_all xs ≤ most_levels → sequence (print_text xs) ≡ ok (record { all = xs; indicator = absent }) []
unfolding sequence marked print_text print_all
text-read none v l = all_read none whole most_levels 0x0a (256 ∷ []) [] absent line v l mark_stop (marks []).end
text-read (more x xs) v l =
    ap (reads (items whole at_start most_levels)) (append_assoc (print_all (ascii ",\n") (more x xs)) (0x0a ∷ []) (256 ∷ []))
    ∙ all_read (more x xs) whole most_levels 0x0a (0x0a ∷ 256 ∷ []) [] absent line v l (stops _).line (next-skip _ (256 ∷ []) (lexing.blank_skip 0x0a (256 ∷ []) line) ∙ (marks []).end)

pub print-sequence : (xs : Items) → ValidAll xs → levels_all xs ≤ most_levels → bind (sequence (print_text xs)) (λ c r. ok c.all r) ≡ ok xs []
print-sequence xs v l = bind_ok _ (text-read xs v l)

-- a text that is not too long, and is UTF-8
checked-ok : {A : Type 0} (s : List ℕ) (w : Verdict A) → length s ≤ most_bytes → is_utf8 s ≡ true → checked s w ≡ w
unfolding checked
checked-ok s w l u = rw (le-leb (length s) most_bytes l, checked) (rw u)

pub text_of_print : TextOfPrint
unfolding read_text verdict_of
text_of_print xs v h l = checked-ok (print_text xs) _ l (print-utf8 xs v) ∙ rw (print-sequence xs v h)

-- AN ITEM: it begins with its first token
record Fronted (l : List ℕ) : Type 0 where
  first : ℕ
  rest : List ℕ
  is : l ≡ first ∷ rest
  solid : gap first ≡ false

fronted_more : (b : List ℕ) {a : List ℕ} → Fronted a → Fronted (a ++ b)
fronted_more b f = record { first = f.first; rest = f.rest ++ b; is = ap (λ (u : List ℕ). u ++ b) f.is; solid = f.solid }

fronted_decimal : (n : ℕ) → Fronted (decimal_of n)
unfolding is class_number
fronted_decimal n = let d = decimal-digits n in record { first = _; rest = d.rest; is = d.is; solid = rw (digit-class d.first d.small) }

fronted_by : (first : ℕ) (rest : List ℕ) → gap first ≡ false → Fronted (first ∷ rest)
fronted_by first rest h = record { first = first; rest = rest; is = refl; solid = h }

fronted_simply : {n : ℕ} {l : List ℕ} → Simply n l → Fronted l
unfolding is class_number class_of class_in class_rows is_in
fronted_simply (as_false e) = fronted_by 0x66 _ refl
fronted_simply (as_true e) = fronted_by 0x74 _ refl
fronted_simply (as_null e) = fronted_by 0x6e _ refl
fronted_simply (as_undefined e) = fronted_by 0x75 _ refl
fronted_simply as_number = fronted_by 0x73 _ refl

fronted : (x : Item) → Fronted (print_item x)
unfolding print_item print_int print_string print_chunked is class_number class_of class_in class_rows is_in
fronted (int unsigned w n) = fronted_more (indicator_of w n) (fronted_decimal n)
fronted (int negative w n) = fronted_by 0x2d _ refl
fronted (string byte_string w b) = fronted_by 0x68 _ refl
fronted (string text_string w b) = fronted_by 0x22 _ refl
fronted (chunked byte_string []) = fronted_by 0x27 _ refl
fronted (chunked text_string []) = fronted_by 0x22 _ refl
fronted (chunked k (c ∷ cs)) = fronted_by 0x28 _ refl
fronted (array z xs) = fronted_by 0x5b _ refl
fronted (map z ps) = fronted_by 0x7b _ refl
fronted (tag w n x) = fronted_more _ (fronted_more (indicator_of w n) (fronted_decimal n))
fronted (simple n) = fronted_simply (simply n)

print-skip : (x : Item) → skip (print_item x) ≡ print_item x
print-skip x = let f = fronted x in rw f.is (skip_at f.first f.rest f.solid)

print-place : (x : Item) → eqb (place (print_item x)) (length (print_item x)) ≡ true
unfolding place
print-place x = eq-eqb (length (skip (print_item x))) (length (print_item x)) (ap length (print-skip x))

print-alone : (x : Item) (d : ℕ) → Valid x → levels x ≤ d → reads (one d) (print_item x) ≡ ok x []
print-alone x d v h = ap (reads (one d)) (sym (append-nil (print_item x))) ∙ print-read x d [] v h stop_nil

pub item_of_print : ItemOfPrint
unfolding read_item single alone verdict_of bind
item_of_print x d v h l = checked-ok (print_item x) _ l (item-utf8 x v) ∙ rw (print-place x, single) (rw (print-alone x d v h))
