-- The other printed tokens are cut as themselves: simple values, opening and closing tokens, separators. Numbers: PrintNumbers; strings: PrintStrings.
use Prim.Native.Nat.{ℕ, zero, suc, ◌+◌, ◌≤◌}
use native.Mathlib.Omega.{arith}
use mathlib.Core.Path.{◌≡◌, refl, ◌∙◌}
use mathlib.Core.Bool.{Bool, true, false}
use mathlib.Core.List.{List, [], ◌∷◌, ◌++◌, append_assoc}
use lib.Dec.{T, eqb}
use borrow.Author.Tests.{eqb-true, le-leb}
use Rattle.cbor.specs.Ascii.{ascii}
use Rattle.cbor.specs.Refusals.{ok, bind}
use Rattle.cbor.specs.Widths.{Width, limit}
use Rattle.cbor.specs.Items.{Size, definite, indefinite, Item, simple}
use Rattle.cbor.specs.Utf8.{is_in}
use Rattle.cbor.specs.Valid.{Fits, is_simple}
use Rattle.cbor.proofs.Table.{both, every}
use Rattle.notation.specs.Classes.{class_number, class_rows, class_in, class_of, is, is_word, goes_on}
use Rattle.notation.specs.Scanning.{skipped, skip_from, skip, run, whether, expect}
use Rattle.notation.specs.Indicators.{Indicator, absent, indefinitely, wide, indicated, indicator}
use Rattle.notation.specs.Numbers.{is_digit, digit_value}
use Rattle.notation.specs.Words.{same, false_word, true_word, null_word, undefined_word, simple_word, is_plain_decimal, simple_by, simple_token, value, worded, word}
use Rattle.notation.specs.Tokens.{Opener, bracket, brace, leaf, chunking, opens, square, curly, round, whole, begins, closes, a_comma, a_colon}
use Rattle.notation.specs.Cutting.{opening_token, cut_by, next}
use Rattle.notation.specs.Form.{give, width_rule, contains}
use Rattle.notation.specs.Printing.{decimal_within, decimal_of, blank_behind, size_of, print_simple}
use Rattle.notation_theorems.proofs.ScanningElements.{off_is}
use Rattle.notation_theorems.proofs.Good.{Stop, stop_at}
use Rattle.notation_theorems.proofs.PrintNumbers.{Each, Halts, run-all, whether-no, sure, stop_halts, stop_word, decimal-digits, number-decimal, digits_decimal, gap, next_at, indicator-absent, indicator-wide, Shown, as_shortest, by_name, shown, choose-absent, choose-wide}

-- SIMPLE VALUES

each_of : (f : ℕ → Bool) (i : ℕ) (w : List ℕ) → T (every (λ k b. f b) i w) → Each f w
each_of f i [] t = tt
each_of f i (b ∷ w) t = let p = both (f b) (every (λ k b. f b) (suc i) w) t in (sure (f b) p.0, each_of f (suc i) w p.1)

word_read : (b : ℕ) (w r : List ℕ) → T (every (λ k c. is_word c) 0 w) → Halts is_word r → Halts (λ c. eqb c 0x27) r → word b (w ++ r) ≡ worded (b ∷ w) r
unfolding word bind
word_read b w r e h q = rw (run-all is_word w r (each_of is_word 0 w e) h) (rw (whether-no 0x27 r q))

-- a word with a text behind it that no token goes on into
word-alone : (b : ℕ) (w r : List ℕ) → T (every (λ k c. is_word c) 0 w) → Stop r → word b (w ++ r) ≡ worded (b ∷ w) r
unfolding goes_on is_word is class_number class_of class_in class_rows is_in
word-alone b w r e st = word_read b w r e (stop_halts is_word stop_word st) (stop_halts (λ c. eqb c 0x27) (off_is 0x27 refl) st)

plain_decimal : (n : ℕ) → is_plain_decimal (decimal_of n) ≡ true
unfolding decimal_of decimal_within is_plain_decimal
plain_decimal zero = refl
plain_decimal (suc n) = let d = decimal-digits (suc n) in rw d.is (go d.first d.rest (d.lead (omega arith)))
  where
    go : (k : ℕ) (w : List ℕ) → 1 ≤ k → is_plain_decimal ((0x30 + k) ∷ w) ≡ true
    go k [] l = refl
    go k (c ∷ w) l = le-leb 0x31 (0x30 + k) (omega arith)

simple-decimal : (n : ℕ) (r : List ℕ) → is_simple n ≡ true → simple_token (0x28 ∷ (decimal_of n ++ (0x29 ∷ r))) ≡ ok (begins (leaf (simple n))) r
unfolding simple_token simple_by whether expect bind is_digit digit_value is_in
simple-decimal n r h =
    rw (run-all (is_digit 10) (decimal_of n) (0x29 ∷ r) (digits_decimal n) refl) (rw (plain_decimal n, simple_by) (rw (number-decimal n) (rw h (rw (number-decimal n)))))

-- what is printed: one of four words, or the number
pub data Simply (n : ℕ) : List ℕ → Type 0 where
  as_false : n ≡ 20 → Simply n false_word
  as_true : n ≡ 21 → Simply n true_word
  as_null : n ≡ 22 → Simply n null_word
  as_undefined : n ≡ 23 → Simply n undefined_word
  as_number : Simply n (simple_word ++ (0x28 ∷ (decimal_of n ++ 0x29 ∷ [])))

pub simply : (n : ℕ) → Simply n (print_simple n)
unfolding print_simple
simply n = go (eqb n 20) refl (eqb n 21) refl (eqb n 22) refl (eqb n 23) refl
  where
    go : (a : Bool) → eqb n 20 ≡ a → (b : Bool) → eqb n 21 ≡ b → (c : Bool) → eqb n 22 ≡ c → (d : Bool) → eqb n 23 ≡ d
        → Simply n
        (elim a [
          | true ↦ false_word
          | false ↦ elim b [ true ↦ true_word | false ↦ elim c [ true ↦ null_word | false ↦ elim d [ true ↦ undefined_word | false ↦ simple_word ++ (0x28 ∷ (decimal_of n ++ 0x29 ∷ [])) ] ] ]
        ])
    go true p b q c i d j = as_false (eqb-true n 20 p)
    go false p true q c i d j = as_true (eqb-true n 21 q)
    go false p false q true i d j = as_null (eqb-true n 22 i)
    go false p false q false i true j = as_undefined (eqb-true n 23 j)
    go false p false q false i false j = as_number

simple_as : {n : ℕ} {l : List ℕ} (r : List ℕ) → is_simple n ≡ true → Stop r → Simply n l → next (l ++ r) ≡ ok (begins (leaf (simple n))) r
unfolding cut_by worded same value is_word is class_number class_of class_in class_rows is_in
simple_as r h st (as_false e) = rw e (next_at 0x66 _ refl (word-alone 0x66 (ascii "alse") r tt st))
simple_as r h st (as_true e) = rw e (next_at 0x74 _ refl (word-alone 0x74 (ascii "rue") r tt st))
simple_as r h st (as_null e) = rw e (next_at 0x6e _ refl (word-alone 0x6e (ascii "ull") r tt st))
simple_as r h st (as_undefined e) = rw e (next_at 0x75 _ refl (word-alone 0x75 (ascii "ndefined") r tt st))
simple_as {n} r h st as_number =
    let split : (decimal_of n ++ 0x29 ∷ []) ++ r ≡ decimal_of n ++ (0x29 ∷ r) = append_assoc (decimal_of n) (0x29 ∷ []) r in
    rw split (next_at 0x73 _ refl (word_read 0x73 (ascii "imple") (0x28 ∷ (decimal_of n ++ (0x29 ∷ r))) tt refl refl ∙ simple-decimal n r h))

pub next-simple : (n : ℕ) (r : List ℕ) → is_simple n ≡ true → Stop r → next (print_simple n ++ r) ≡ ok (begins (leaf (simple n))) r
next-simple n r h st = simple_as r h st (simply n)

-- OPENING TOKENS, with the size that is printed: a blank stands behind an indicator

record Sized (z : Size) (n : ℕ) (s text : List ℕ) : Type 0 where
  mark : Indicator
  rest : List ℕ
  is : indicator text ≡ ok mark rest
  opened : (o : Indicator → Opener) (r : List ℕ) → opening_token o mark r ≡ ok (begins (opens (o mark))) r
  skips : skip rest ≡ skip s
  sizes : (make : Size → Item) → contains mark n make ≡ give (make z)

sized_as : (w : Width) (n : ℕ) (s : List ℕ) {l : List ℕ} → n ≤ limit w → Halts (λ b. eqb b 0x5f) s → Shown w n l → Sized (definite w) n s (blank_behind l ++ s)
unfolding blank_behind opening_token contains width_rule skip skip_from skipped is_word is class_number class_of class_in class_rows is_in
sized_as w n s h o (as_shortest e) =
    record { mark = absent; rest = s; is = indicator-absent s o; opened = λ o r. refl; skips = refl; sizes = λ make. rw (choose-absent w n e) }
sized_as w n s h o by_name =
    record { mark = wide w; rest = 0x20 ∷ s; is = indicator-wide w (0x20 ∷ s) refl; opened = λ o r. refl; skips = refl; sizes = λ make. rw (choose-wide w n h) }

sized-read : (z : Size) (n : ℕ) (s : List ℕ) → Fits z n → Halts (λ b. eqb b 0x5f) s → Sized z n s (size_of z n ++ s)
unfolding Fits size_of opening_token contains indicator indicated whether run bind skip skip_from skipped is_word is class_number class_of class_in class_rows is_in
sized-read (definite w) n s h o = sized_as w n s h o (shown w n)
sized-read indefinite n s h o = record { mark = indefinitely; rest = 0x20 ∷ s; is = refl; opened = λ o r. refl; skips = refl; sizes = λ make. refl }

pub record Opened (o : Indicator → Opener) (z : Size) (n : ℕ) (s text : List ℕ) : Type 0 where
  pub mark : Indicator
  pub rest : List ℕ
  pub is : next text ≡ ok (begins (opens (o mark))) rest
  pub skips : skip rest ≡ skip s
  pub sizes : (make : Size → Item) → contains mark n make ≡ give (make z)

-- any opener whose byte is b
next_opener : (o : Indicator → Opener) (b : ℕ) → gap b ≡ false → ((u : List ℕ) → cut_by (class_of b) b u ≡ bind (indicator u) (opening_token o)) → (z : Size) (n : ℕ) (s : List ℕ) → Fits z n
    → Halts (λ b. eqb b 0x5f) s → Opened o z n s (b ∷ (size_of z n ++ s))
unfolding bind
next_opener o b g c z n s h u =
    let i = sized-read z n s h u in
    record { mark = i.mark; rest = i.rest; is = next_at b _ g (c _ ∙ rw i.is (i.opened o i.rest)); skips = i.skips; sizes = i.sizes }

pub next-bracket : (z : Size) (n : ℕ) (s : List ℕ) → Fits z n → Halts (λ b. eqb b 0x5f) s → Opened bracket z n s (0x5b ∷ (size_of z n ++ s))
unfolding cut_by is class_number class_of class_in class_rows is_in
next-bracket z n s h u = next_opener bracket 0x5b refl (λ u. refl) z n s h u

pub next_brace : (z : Size) (n : ℕ) (s : List ℕ) → Fits z n → Halts (λ b. eqb b 0x5f) s → Opened brace z n s (0x7b ∷ (size_of z n ++ s))
unfolding cut_by is class_number class_of class_in class_rows is_in
next_brace z n s h u = next_opener brace 0x7b refl (λ u. refl) z n s h u

-- THE REST: `(_`, what closes, and what separates
pub record Marks (s : List ℕ) : Type 0 where
  pub chunks : next (0x28 ∷ (0x5f ∷ s)) ≡ ok (begins chunking) s
  pub bracket : next (0x5d ∷ s) ≡ ok (closes square absent) s
  pub brace : next (0x7d ∷ s) ≡ ok (closes curly absent) s
  pub paren : next (0x29 ∷ s) ≡ ok (closes round absent) s
  pub end : next (256 ∷ s) ≡ ok (closes whole absent) s
  pub comma : next (0x2c ∷ s) ≡ ok a_comma s
  pub colon : next (0x3a ∷ s) ≡ ok a_colon s

pub marks : (s : List ℕ) → Marks s
unfolding cut_by expect bind is class_number class_of class_in class_rows is_in
marks s =
    record {
      chunks = next_at 0x28 (0x5f ∷ s) refl refl;
      bracket = next_at 0x5d s refl refl;
      brace = next_at 0x7d s refl refl;
      paren = next_at 0x29 s refl refl;
      end = next_at 256 s refl refl;
      comma = next_at 0x2c s refl refl;
      colon = next_at 0x3a s refl refl;
    }

-- no token goes on into them, nor into the end of a line
pub record Stops (s : List ℕ) : Type 0 where
  pub bracket : Stop (0x5d ∷ s)
  pub brace : Stop (0x7d ∷ s)
  pub paren : Stop (0x29 ∷ s)
  pub comma : Stop (0x2c ∷ s)
  pub colon : Stop (0x3a ∷ s)
  pub line : Stop (0x0a ∷ s)

pub stops : (s : List ℕ) → Stops s
unfolding goes_on is_word is class_number class_of class_in class_rows is_in
stops s = record { bracket = stop_at refl; brace = stop_at refl; paren = stop_at refl; comma = stop_at refl; colon = stop_at refl; line = stop_at refl }
