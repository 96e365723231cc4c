-- Words: what the code knows at each return and each turn of a loop, and that this is what the definitions say.
-- Assumes nothing.
use mathlib.Core.Path.{◌≡◌, refl, sym, ap, ◌∙◌}
use mathlib.Core.List.{List, [], ◌∷◌, ◌++◌}
use mathlib.Core.Bool.{Bool, true, false}
use Prim.Native.Nat.{ℕ, suc, ◌+◌, ◌-◌, ◌≤◌, ◌<◌}
use native.Mathlib.Omega.{arith}
use lib.Dec.{leb, eqb}
use lib.ListN.{length, take, drop, get_or, length-drop}
use borrow.Author.Tests.{le-leb, lt-leb, eq-eqb, ne_eqb}
use Rattle.cbor.specs.Refusals.{Result, bind, no_token, unknown_word, float}
use Rattle.cbor.specs.Items.{simple}
use Rattle.cbor.specs.Valid.{is_simple}
use Rattle.cbor.specs.Utf8.{is_in}
use Rattle.notation.specs.Classes.{digit, class_number, class_rows, class_in, class_of, is}
use Rattle.notation.specs.Scanning.{fault}
use Rattle.notation.specs.Numbers.{number_from, number}
use Rattle.notation.specs.Tokens.{Token, begins, leaf}
use Rattle.notation.specs.Words.{same, false_word, true_word, null_word, undefined_word, simple_word, nan_word, infinity_word, hex_prefix, base64_prefix, is_float_word, is_plain_decimal, simple_by, simple_token, value, worded}
use Rattle.notation.specs.Cutting.{starts_with, after_minus}
use Rattle.notation.specs.Reading.{marked}
use Rattle.scanning.specs.Stands.{span}
use Rattle.scanning.specs.ScanAnswers.{Classed, Peeked}
use Rattle.token.specs.TokenAnswers.{item_code, begin_code, code_of, item_mark, begin_mark, mark_of, item_number, begin_number, number_of, BeginsAs, Written, Says, Refused, TokenMade}
use Rattle.amounts.specs.AmountAnswers.{heavy, Counts, ScansDigits, Counted}
use Rattle.numbers.specs.NumberAnswers.{DigitAt}
use Rattle.cbor.specs.Flags.{sign_of}
use Rattle.cbor.proofs.Tests.{clash}
use Rattle.words.specs.WordAnswers.{WordPart, Enclosed, other_word, value_word, prefix_word, Simples, SimpleIn, front_class, Stood}
use Rattle.amounts.specs.declared.Amount.{Amount}
use Rattle.amounts.specs.declared.Digits.{Digits}
use Rattle.token.specs.declared.Token.{Token as Cut}
use Rattle.words.specs.declared.WordMeaning.{WordMeaning}
use Rattle.words.specs.declared.WordMeaning.TheVariants.{Value, SimpleOf}
use Rattle.std.specs.Prelude.{Ok, Err, Result as Answer}
use Rattle.std.proofs.lemmas.List.{drop-append-le, take-append-le}
use Rattle.std.specs.List.{starts_with as begins_with}
use lib.Pointwise.{pointwise}
use Rattle.notation_theorems.proofs.ScanningElements.{class-digit}
use Rattle.scanning.proofs.Marked.{length_marked, tail_is, at_byte, at-end, past_end, span_none, span-length}
use Rattle.scanning.proofs.ScanCode.{whether-yes, whether-no, expect-yes, expect-no}
use Rattle.numbers.proofs.NumberCode.{says_as, says_refuse, says_made}

-- A WORD AT A PLACE

-- the library's comparison of two lists is this one
same-is : (a b : List ℕ) → pointwise eqb a b ≡ same a b
unfolding same
same-is [] [] = refl
same-is [] (y ∷ b) = refl
same-is (x ∷ a) [] = refl
same-is (x ∷ a) (y ∷ b) = rw (same-is a b)

starts-is : (u r : List ℕ) → ((k : ℕ) → get_or u k 0 < 256) → pointwise eqb u (take (length u) r) ≡ starts_with u (r ++ 256 ∷ [])
unfolding starts_with
starts-is [] r f = refl
starts-is (x ∷ u) [] f = let h = f 0 in let n : x ≡ 256 → ⊥ = omega arith in rw (ne_eqb x 256 n)
starts-is (x ∷ u) (y ∷ r) f = rw (starts-is u r (λ k. f (suc k)))

pub starts-at : (s u : List ℕ) (at : ℕ) {t : Bool} → at ≤ length s → ((k : ℕ) → get_or u k 0 < 256) → t ≡ begins_with eqb (take (length s - at) (drop at s)) u → t ≡ starts_with u (drop at (marked s))
unfolding marked
starts-at s u at h f e = e ∙ (ap (λ (r : List ℕ). pointwise eqb u (take (length u) r)) (tail_is s at) ∙ starts-is u (drop at s) f ∙ ap (starts_with u) (sym (drop-append-le at s (256 ∷ []) h)))

module _ {s : List ℕ} {from end : ℕ} (u : List ℕ) (p : WordPart s from end) where
  pub part-is : span from end (marked s) ≡ take (end - from) (drop from s)
  unfolding span marked
  part-is =
      let h : from ≤ length s = omega (arith, p.ahead, p.inside) in
      let l : end - from ≤ length (drop from s) = simp length-drop (omega (arith, p.inside)) in
      ap (take (end - from)) (drop-append-le from s (256 ∷ []) h) ∙ take-append-le (end - from) (drop from s) (256 ∷ []) l

  pub same_word : {t : Bool} → t ≡ pointwise eqb (take (end - from) (drop from s)) u → t ≡ same (span from end (marked s)) u
  same_word e = e ∙ (same-is _ u ∙ ap (λ (w : List ℕ). same w u) (sym part-is))

-- WHAT WORDS STAND FOR
module _ (w : List ℕ) (a : Bool) (e₁ : a ≡ same w nan_word) where
  pub other_nan : a ≡ true → 6 ≡ other_word w
  unfolding other_word is_float_word
  other_nan h = rw (sym e₁ ∙ h, other_word)

  pub other_infinity : (b : Bool) → a ≡ false → b ≡ same w infinity_word → b ≡ true → 6 ≡ other_word w
  unfolding other_word is_float_word
  other_infinity b h e₂ g = rw (sym e₁ ∙ h, sym e₂ ∙ g, other_word)

  pub other_unknown : (b : Bool) → a ≡ false → b ≡ same w infinity_word → b ≡ false → 4 ≡ other_word w
  unfolding other_word is_float_word
  other_unknown b h e₂ g = rw (sym e₁ ∙ h, sym e₂ ∙ g, other_word)

pub ruleset other_ways = (other_nan, other_infinity, other_unknown)

module _ (w : List ℕ) (a : Bool) (e₁ : a ≡ same w false_word) where
  pub value_false : a ≡ true → Ok (Value 20) ≡ value_word w
  unfolding value_word
  value_false h = rw (sym e₁ ∙ h, value_word)

  module _ (h₁ : a ≡ false) (b : Bool) (e₂ : b ≡ same w true_word) where
    pub value_true : b ≡ true → Ok (Value 21) ≡ value_word w
    unfolding value_word
    value_true h = rw (sym e₁ ∙ h₁, value_word) (rw (sym e₂ ∙ h))

    module _ (h₂ : b ≡ false) (c : Bool) (e₃ : c ≡ same w null_word) where
      pub value_null : c ≡ true → Ok (Value 22) ≡ value_word w
      unfolding value_word
      value_null h = rw (sym e₁ ∙ h₁, value_word) (rw (sym e₂ ∙ h₂) (rw (sym e₃ ∙ h)))

      module _ (h₃ : c ≡ false) (d : Bool) (e₄ : d ≡ same w undefined_word) where
        pub value_undefined : d ≡ true → Ok (Value 23) ≡ value_word w
        unfolding value_word
        value_undefined h = rw (sym e₁ ∙ h₁, value_word) (rw (sym e₂ ∙ h₂) (rw (sym e₃ ∙ h₃) (rw (sym e₄ ∙ h))))

        module _ (h₄ : d ≡ false) (f : Bool) (e₅ : f ≡ same w simple_word) where
          pub value-simple : f ≡ true → Ok SimpleOf ≡ value_word w
          unfolding value_word
          value-simple h = rw (sym e₁ ∙ h₁, value_word) (rw (sym e₂ ∙ h₂) (rw (sym e₃ ∙ h₃) (rw (sym e₄ ∙ h₄) (rw (sym e₅ ∙ h)))))

          pub value-other : (k : ℕ) → f ≡ false → k ≡ other_word w → Err k ≡ value_word w
          unfolding value_word
          value-other k h g = rw (sym e₁ ∙ h₁, value_word) (rw (sym e₂ ∙ h₂) (rw (sym e₃ ∙ h₃) (rw (sym e₄ ∙ h₄) (rw (sym e₅ ∙ h) (ap Err g)))))

pub ruleset value_ways = (value_false, value_true, value_null, value_undefined, value-simple, value-other)

module _ (w : List ℕ) (a : Bool) (e₁ : a ≡ same w hex_prefix) where
  pub prefix_hex : a ≡ true → Ok 2 ≡ prefix_word w
  unfolding prefix_word
  prefix_hex h = rw (sym e₁ ∙ h, prefix_word)

  module _ (h₁ : a ≡ false) (b : Bool) (e₂ : b ≡ same w base64_prefix) where
    pub prefix_base64 : b ≡ true → Ok 3 ≡ prefix_word w
    unfolding prefix_word
    prefix_base64 h = rw (sym e₁ ∙ h₁, prefix_word) (rw (sym e₂ ∙ h))

    pub prefix_other : (k : ℕ) → b ≡ false → k ≡ other_word w → Err k ≡ prefix_word w
    unfolding prefix_word
    prefix_other k h g = rw (sym e₁ ∙ h₁, prefix_word) (rw (sym e₂ ∙ h) (ap Err g))

pub ruleset prefix_ways = (prefix_hex, prefix_base64, prefix_other)

-- SIMPLE VALUES
several : (b : ℕ) (l : List ℕ) → 0 < length l → leb 0x31 b ≡ is_plain_decimal (b ∷ l)
unfolding is_plain_decimal
several b [] h = absurd (omega arith)
several b (c ∷ l) h = refl

module _ {s : List ℕ} {from end : ℕ} (p : WordPart s from end) where
  pub plain_none : end - from ≡ 0 → false ≡ is_plain_decimal (span from end (marked s))
  unfolding is_plain_decimal
  plain_none e = let f : end ≡ from = omega (arith, p.ahead) in rw (f, span_none from (marked s))

  pub plain_index : (end - from ≡ 0 → ⊥) → from < length s
  plain_index n = omega (arith, n, p.inside)

  pub part_cons : (end - from ≡ 0 → ⊥) → span from end (marked s) ≡ get_or s from 0 ∷ span (from + 1) end (marked s)
  unfolding span
  part_cons n =
      let e : end - from ≡ suc (end - (from + 1)) = omega (arith, n) in
      rw (e, at_byte s from (plain_index n))

  pub plain_one : end - from ≡ 1 → true ≡ is_plain_decimal (span from end (marked s))
  unfolding is_plain_decimal
  plain_one e =
      let n : end - from ≡ 0 → ⊥ = λ z. omega arith in
      let f : end ≡ from + 1 = omega arith in
      rw (part_cons n, f, span_none (from + 1) (marked s))

  pub plain_more : (end - from ≡ 0 → ⊥) → (end - from ≡ 1 → ⊥) → leb 0x31 (get_or s from 0) ≡ is_plain_decimal (span from end (marked s))
  plain_more n m =
      let l : length (span (from + 1) end (marked s)) ≡ end - (from + 1) = span-length (from + 1) end (marked s) (omega (arith, n)) (omega (arith, p.inside, length_marked s)) in
      rw (part_cons n) (several (get_or s from 0) (span (from + 1) end (marked s)) (omega (arith, l, n, m)))

pub ruleset plain_ways = (plain_none, plain_one, plain_more)

module _ (a : Amount) where
  pub simple-over : a.over ≡ true → Simples a false
  unfolding heavy is_simple
  simple-over e =
      record { is = λ n c. let i = rw e at c.is in let h : 255 < n = omega arith in simp (lt-leb n 23 (omega arith), lt-leb n 255 h, le-leb 32 n (omega arith)) }

  module _ (e : a.over ≡ false) where
    amount_is : (n : ℕ) → Counts a n → n ≡ a.value
    unfolding heavy
    amount_is n c = let i = rw e at c.is in omega (arith, c.small)

    pub simple-low : a.value ≤ 23 → Simples a true
    unfolding is_simple
    simple-low h = record { is = λ n c. rw (amount_is n c, le-leb a.value 23 h) }

    pub simple_gap : 23 < a.value → a.value < 32 → Simples a false
    unfolding is_simple
    simple_gap h g = record { is = λ n c. rw (amount_is n c, lt-leb a.value 23 h, lt-leb 32 a.value g) }

    pub simple-high : 32 ≤ a.value → a.value ≤ 255 → Simples a true
    unfolding is_simple
    simple-high h g = let h' : 23 < a.value = omega arith in record { is = λ n c. rw (amount_is n c, lt-leb a.value 23 h', le-leb 32 a.value h, le-leb a.value 255 g) }

    pub simple-above : 255 < a.value → Simples a false
    unfolding is_simple
    simple-above g =
        let h' : 23 < a.value = omega arith in
        let h : 32 ≤ a.value = omega arith in
        record { is = λ n c. rw (amount_is n c, lt-leb a.value 23 h', le-leb 32 a.value h, lt-leb a.value 255 g) }

pub ruleset simple_tests = (simple-over, simple-low, simple_gap, simple-high, simple-above)

simple-value : (a : Amount) (n : ℕ) → Counts a n → is_simple n ≡ true → a.value ≡ n
unfolding heavy
simple-value a n c e = go a.over refl
  where
    go : (t : Bool) → a.over ≡ t → a.value ≡ n
    go true f = absurd (clash (sym e ∙ sym ((simple-over a f).is n c)))
    go false f = sym (amount_is a f n c)

pub enclosed-part : {s : List ℕ} {from end : ℕ} → Enclosed s from end → WordPart s from end
enclosed-part p = record { ahead = p.ahead; inside = omega (arith, p.inside) }

module _ {s : List ℕ} {place from end : ℕ} {a : Amount} {t : Cut} (q : Enclosed s from end) (u : Bool) (f : u ≡ is_plain_decimal (span from end (marked s))) where
  pub simple_shape : u ≡ false → Refused 4 place t → SimpleIn s place from end a t
  unfolding simple_by
  simple_shape h r = record { is = λ c. says_as (rw (sym f ∙ h, simple_by)) (says_refuse 0 r) }

  module _ (h : u ≡ true) (v : Bool) (g : Simples a v) where
    pub simple-bad : v ≡ false → Refused 8 place t → SimpleIn s place from end a t
    unfolding simple_by
    simple-bad k r = record { is = λ c. says_as (rw (sym f ∙ h, simple_by) (rw (sym (g.is _ c) ∙ k))) (says_refuse 0 r) }

    pub simple-good : v ≡ true → TokenMade 3 0 a.value place (end + 1) t → SimpleIn s place from end a t
    unfolding simple_by code_of begin_code item_code mark_of begin_mark item_mark number_of begin_number item_number Written BeginsAs
    simple-good k m =
        record {
          is =
              λ c.
              let n = number_from 10 0 (span from end (marked s)) in
              let e : is_simple n ≡ true = sym (g.is n c) ∙ k in
              says_as (rw (sym f ∙ h, simple_by) (rw e)) (says_made m (begins (leaf (simple n))) refl refl (simple-value a n c e) tt q.inside);
        }

pub ruleset simple_ins = (simple_shape, simple-bad, simple-good)

pub simple-scans : {s : List ℕ} {at : ℕ} {t : Bool} → Peeked s at 0x28 t → t ≡ true → ScansDigits s (at + 1) 10 0
simple-scans p e = record { inside = p.inside e; least = omega arith; most = omega arith; start = omega arith }

pub simple-enclosed : {s : List ℕ} {from : ℕ} {d : Digits} {t : Bool} → Counted s from 10 0 d → Peeked s d.next 0x29 t → t ≡ true → Enclosed s from d.next
simple-enclosed c p e = record { ahead = c.ran.ahead; inside = p.inside e }

module _ {s : List ℕ} {at place : ℕ} {t : Cut} {u : Bool} (p : Peeked s at 0x28 u) where
  pub simple_bare : u ≡ false → Refused 4 place t → Says s place t (simple_token (drop at (marked s)))
  unfolding simple_token bind
  simple_bare e r = says_as (rw (whether-no p e)) (says_refuse 0 r)

  module _ (e : u ≡ true) {d : Digits} (c : Counted s (at + 1) 10 0 d) {v : Bool} (q : Peeked s d.next 0x29 v) where
    pub simple_open : v ≡ false → Refused 4 place t → Says s place t (simple_token (drop at (marked s)))
    unfolding simple_token bind
    simple_open f r = says_as (rw (whether-yes p e) (rw c.ran.is (rw (expect-no q unknown_word f)))) (says_refuse 0 r)

    pub simple-whole : v ≡ true → SimpleIn s place (at + 1) d.next d.amount t → Says s place t (simple_token (drop at (marked s)))
    unfolding simple_token bind
    simple-whole f h = says_as (rw (whether-yes p e) (rw c.ran.is (rw (expect-yes q unknown_word f)))) (h.is c.counts)

pub ruleset simple_tokens = (simple_bare, simple_open, simple-whole)

-- A WORD WITH NO QUOTE
abbrev worded_by : Answer WordMeaning ℕ → List ℕ → Result Token
worded_by (Ok (Value v)) r = value v r
worded_by (Ok SimpleOf) r = simple_token r
worded_by (Err k) r = fault k

worded-is : (w r : List ℕ) → worded w r ≡ worded_by (value_word w) r
unfolding worded value_word other_word
worded-is w r = go (same w false_word) (same w true_word) (same w null_word) (same w undefined_word) (same w simple_word) (is_float_word w)
  where
    go : (a b c d e f : Bool) → ◌≡◌ {A = Result Token} (elim a [
      | true ↦ value 20 r
      | false ↦ elim b [
        | true ↦ value 21 r
        | false ↦ elim c [ true ↦ value 22 r | false ↦ elim d [ true ↦ value 23 r | false ↦ elim e [ true ↦ simple_token r | false ↦ elim f [ true ↦ fault float | false ↦ fault unknown_word ] ] ] ]
      ]
    ]) (worded_by (elim a [
      | true ↦ Ok (Value 20)
      | false ↦ elim b [
        | true ↦ Ok (Value 21)
        | false ↦ elim c [ true ↦ Ok (Value 22) | false ↦ elim d [ true ↦ Ok (Value 23) | false ↦ elim e [ true ↦ Ok SimpleOf | false ↦ Err (elim f [ true ↦ float | false ↦ unknown_word ]) ] ] ]
      ]
    ]) r)
    go true b c d e f = refl
    go false true c d e f = refl
    go false false true d e f = refl
    go false false false true e f = refl
    go false false false false true f = refl
    go false false false false false true = refl
    go false false false false false false = refl

by_meaning : (w r : List ℕ) {m : Answer WordMeaning ℕ} → m ≡ value_word w → worded w r ≡ worded_by m r
by_meaning w r e = worded-is w r ∙ ap (λ (k : Answer WordMeaning ℕ). worded_by k r) (sym e)

module _ {s : List ℕ} {place end : ℕ} {t : Cut} (p : WordPart s place end) where
  pub worded-value : (v : ℕ) → Ok (Value v) ≡ value_word (span place end (marked s)) → TokenMade 3 0 v place end t → Says s place t (worded (span place end (marked s)) (drop end (marked s)))
  unfolding value code_of begin_code item_code mark_of begin_mark item_mark number_of begin_number item_number Written BeginsAs
  worded-value v e h = says_as (by_meaning (span place end (marked s)) (drop end (marked s)) e) (says_made h (begins (leaf (simple v))) refl refl refl tt p.inside)

  pub worded-simple : Ok SimpleOf ≡ value_word (span place end (marked s)) → Says s place t (simple_token (drop end (marked s))) → Says s place t (worded (span place end (marked s)) (drop end (marked s)))
  worded-simple e h = says_as (by_meaning (span place end (marked s)) (drop end (marked s)) e) h

  pub worded-refused : (k : ℕ) → Err k ≡ value_word (span place end (marked s)) → Refused k place t → Says s place t (worded (span place end (marked s)) (drop end (marked s)))
  worded-refused k e r = says_as (by_meaning (span place end (marked s)) (drop end (marked s)) e) (says_refuse 0 r)

pub ruleset worded_ways = (worded-value, worded-simple, worded-refused)

-- BEHIND `-`
pub stood_byte : {s : List ℕ} {at k : ℕ} → at < length s → Classed (get_or s at 0) k → Stood s at k
unfolding front_class
stood_byte {s} {at} h c = record { is = rw (at_byte s at h) c.is; inside = λ l. h }

pub stood_end : {s : List ℕ} {at : ℕ} → at ≡ length s → Stood s at 21
unfolding front_class class_number class_of class_in class_rows is_in
stood_end {s} {at} e = record { is = rw (at-end s at e); inside = λ l. absurd (omega arith) }

pub stood_past : {s : List ℕ} {at : ℕ} → length s ≤ at → (at ≡ length s → ⊥) → Stood s at 22
unfolding front_class
stood_past {s} {at} l n = record { is = rw (past_end s at (omega (arith, n))); inside = λ h. absurd (omega arith) }

pub ruleset stood_ways = (stood_byte, stood_end, stood_past)

digit_two : class_number digit ≡ 2
unfolding class_number
digit_two = refl

minus_not : (r : List ℕ) → (front_class r ≡ 2 → ⊥) → after_minus r ≡ elim (starts_with infinity_word r) [ true ↦ fault float | false ↦ fault no_token ]
unfolding after_minus front_class is starts_with
minus_not [] n = refl
minus_not (b ∷ r) n = rw (ne_eqb (class_number digit) (class_number (class_of b)) (λ e. n (sym e ∙ digit_two)), after_minus)

is_digit_lem : {s : List ℕ} {at k : ℕ} → Stood s at k → k ≡ 2 → is digit (get_or s at 0) ≡ true
unfolding is front_class
is_digit_lem {s} {at} c e =
    let l = c.inside (omega arith) in
    let d : class_number digit ≡ class_number (class_of (get_or s at 0)) = digit_two ∙ (sym e ∙ (c.is ∙ rw (at_byte s at l))) in
    eq-eqb _ _ d

pub stood_digit : {s : List ℕ} {at k : ℕ} → Stood s at k → k ≡ 2 → DigitAt s at
stood_digit {s} {at} c e = record { inside = c.inside (omega arith); digit = class-digit (get_or s at 0) (is_digit_lem c e) }

module _ {s : List ℕ} {at place k : ℕ} {t : Cut} (c : Stood s at k) where
  pub minus_number : k ≡ 2 → Says s place t (number (sign_of true) (get_or s at 0) (drop (at + 1) (marked s))) → Says s place t (after_minus (drop at (marked s)))
  unfolding after_minus sign_of
  minus_number e h = says_as (rw (at_byte s at (c.inside (omega arith))) (rw (is_digit_lem c e, after_minus))) h

  pub minus_infinity : (u : Bool) → (k ≡ 2 → ⊥) → u ≡ starts_with infinity_word (drop at (marked s)) → u ≡ true → Refused 6 place t → Says s place t (after_minus (drop at (marked s)))
  minus_infinity u n f g r = says_as (minus_not (drop at (marked s)) (λ z. n (c.is ∙ z)) ∙ rw (sym f ∙ g)) (says_refuse 0 r)

  pub minus_none : (u : Bool) → (k ≡ 2 → ⊥) → u ≡ starts_with infinity_word (drop at (marked s)) → u ≡ false → Refused 3 place t → Says s place t (after_minus (drop at (marked s)))
  minus_none u n f g r = says_as (minus_not (drop at (marked s)) (λ z. n (c.is ∙ z)) ∙ rw (sym f ∙ g)) (says_refuse 0 r)

pub ruleset minus_ways = (minus_number, minus_infinity, minus_none)
