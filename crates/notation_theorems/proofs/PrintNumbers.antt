-- Printed numbers and indicators are cut as themselves, before every text that cannot go on in a token.
use Prim.Native.Nat.{ℕ, zero, suc, ◌+◌, ◌-◌, ◌*◌, ◌/◌, ◌%◌, ◌≤◌, ◌<◌}
use native.Mathlib.Omega.{arith}
use mathlib.Core.Path.{◌≡◌, refl, sym, ap, ◌∙◌}
use mathlib.Core.Bool.{Bool, true, false, ◌&&◌, ◌||◌, false≢true}
use mathlib.Core.List.{List, [], ◌∷◌, ◌++◌, append_assoc}
use lib.Dec.{T, leb, ltb, eqb, eqb→eq, lit≤}
use borrow.Author.Tests.{ltb-true, ltb-false, leb-true, eqb-true, le-leb, ne_eqb}
use Rattle.cbor.specs.Refusals.{ok, bind}
use Rattle.cbor.specs.Widths.{Width, w0, w1, w2, w4, w8, argument_bytes, limit, fits, shortest}
use Rattle.cbor.specs.Items.{Sign, unsigned, negative, int}
use Rattle.cbor.specs.Utf8.{◌to◌, is_in}
use Rattle.cbor.proofs.Table.{between}
use Rattle.notation.specs.Classes.{blank, digit, underscore, dot, slash, hash, class_number, class_rows, class_in, class_of, is, is_word, goes_on}
use Rattle.notation.specs.Scanning.{skipped, skip_from, skip, run, whether}
use Rattle.notation.specs.Indicators.{Indicator, absent, wide, indicated, indicator, Chosen, chosen, choose}
use Rattle.notation.specs.Numbers.{worth, no_digit, is_digit, digit_value, number_from, digits, makes_float, is_floating, no_radix, radix_of, judged, integer_token, integer, other_integer, decimal, after_zero, number}
use Rattle.notation.specs.Tokens.{Token, begins, leaf, opens, tagging}
use Rattle.notation.specs.Cutting.{after_minus, cut_by, cut, placed, next}
use Rattle.notation.specs.Printing.{decimal_within, decimal_of, width_name, indicator_of, print_int}
use Rattle.notation_theorems.proofs.ScanningElements.{digit_cases, off_is}
use Rattle.notation_theorems.proofs.Good.{Stop, stop_nil, stop_at}

-- TESTS AT THE FRONT OF A TEXT: all elements pass one; the first element, if there is one, does not
abbrev pub Each : (ℕ → Bool) → List ℕ → Type 0
Each f [] = Unit
Each f (b ∷ s) = (f b ≡ true) × Each f s

abbrev pub Halts : (ℕ → Bool) → List ℕ → Type 0
Halts f [] = Unit
Halts f (b ∷ s) = f b ≡ false

pub run-all : (f : ℕ → Bool) (w s : List ℕ) → Each f w → Halts f s → run f (w ++ s) ≡ ok w s
unfolding run bind
run-all f [] [] e h = refl
run-all f [] (b ∷ s) e h = rw (h, run)
run-all f (b ∷ w) s e h = rw (e.0, run) (rw (run-all f w s e.1 h))

each_snoc : (f : ℕ → Bool) (w : List ℕ) (b : ℕ) → Each f w → f b ≡ true → Each f (w ++ b ∷ [])
each_snoc f [] b e h = (h, tt)
each_snoc f (a ∷ w) b e h = (e.0, each_snoc f w b e.1 h)

pub whether-no : (c : ℕ) (s : List ℕ) → Halts (λ b. eqb b c) s → whether c s ≡ ok false s
unfolding whether
whether-no c [] h = refl
whether-no c (b ∷ s) h = rw (h, whether)

pub sure : (t : Bool) → T t → t ≡ true
sure true h = refl
sure false h = absurd h

pub either_false : (a b : Bool) → (a || b) ≡ false → (a ≡ false) × (b ≡ false)
either_false true b e = absurd (false≢true (sym e))
either_false false b e = (refl, e)

-- a test that fails at b and passes at c tells them apart
differs : (f : ℕ → Bool) (b c : ℕ) → f b ≡ false → f c ≡ true → eqb b c ≡ false
differs f b c e h = ne_eqb b c (λ q. false≢true (sym e ∙ ap f q ∙ h))

in_range : (low high b : ℕ) → is_in (low to high) b ≡ true → (low ≤ b) × (b ≤ high)
unfolding is_in
in_range low high b e = go (leb low b) refl (leb b high) refl e
  where
    go : (x : Bool) → leb low b ≡ x → (y : Bool) → leb b high ≡ y → (x && y) ≡ true → (low ≤ b) × (b ≤ high)
    go true p true q e = (leb-true low b p, leb-true b high q)
    go true p false q e = absurd (false≢true e)
    go false p y q e = absurd (false≢true e)

-- WHAT ENDS A NUMBER: no letter, digit or dot stands behind its digits
abbrev pub extends : ℕ → Bool
extends b = is_word b || is dot b

pub stop_halts : (f : ℕ → Bool) {r : List ℕ} → ((b : ℕ) → goes_on b ≡ false → f b ≡ false) → Stop r → Halts f r
stop_halts f h stop_nil = tt
stop_halts f h (stop_at {b} e) = h b e

pub stop_word : (b : ℕ) → goes_on b ≡ false → is_word b ≡ false
unfolding goes_on
stop_word b e = (either_false _ _ e).0

stop_extends : (b : ℕ) → goes_on b ≡ false → extends b ≡ false
unfolding goes_on
stop_extends b e =
    let p = either_false (is_word b) _ e in
    let q = either_false (is underscore b) _ p.1 in
    rw p.0 (either_false (is dot b) _ q.1).0

pub digit_range : (b : ℕ) → is_digit 10 b ≡ true → (0x30 ≤ b) × (b < 0x3a)
unfolding is_digit
digit_range b =
    digit_cases (λ d. ◌≡◌ {A = Bool} (elim d [ worth v ↦ ltb v 10 | no_digit ↦ false ]) true → (0x30 ≤ b) × (b < 0x3a)) b
    (λ p e. let i = in_range 0x30 0x39 b p in omega arith) (λ p e. let i = in_range 0x61 0x66 b p in let l = ltb-true (b - 0x57) 10 e in absurd (omega arith))
    (λ p e. let i = in_range 0x41 0x46 b p in let l = ltb-true (b - 0x37) 10 e in absurd (omega arith)) (λ e. absurd (false≢true e))

over-digit : (b : ℕ) → extends b ≡ false → is_digit 10 b ≡ false
unfolding is_word is class_number class_of class_in class_rows is_in
over-digit b e = go (is_digit 10 b) refl
  where
    go : (v : Bool) → is_digit 10 b ≡ v → v ≡ false
    go true h = let i = digit_range b h in absurd (false≢true (sym e ∙ sure (extends b) (between extends 0x30 0x3a tt b i.0 i.1)))
    go false h = refl

over-float : (b : ℕ) → extends b ≡ false → makes_float 10 b ≡ false
unfolding makes_float is_word is class_number class_of class_in class_rows is_in
over-float b e = rw (differs extends b 0x2e e refl, differs extends b 0x65 e refl, differs extends b 0x45 e refl)

over-radix : (b : ℕ) → extends b ≡ false → radix_of b ≡ no_radix
unfolding radix_of is_word is class_number class_of class_in class_rows is_in
over-radix b e = rw (differs extends b 0x78 e refl, radix_of) (rw (differs extends b 0x6f e refl) (rw (differs extends b 0x62 e refl)))

-- DECIMAL DIGITS

pub record Decimal (n : ℕ) (l : List ℕ) : Type 0 where
  pub first : ℕ
  pub rest : List ℕ
  pub small : first < 10
  pub is : l ≡ (0x30 + first) ∷ rest
  pub each : Each (is_digit 10) rest
  pub value : number_from 10 first rest ≡ n
  pub lead : 1 ≤ n → 1 ≤ first

digit_value_lem : (k : ℕ) → k < 10 → digit_value (0x30 + k) ≡ k
unfolding digit_value is_in
digit_value_lem k h = eqb→eq (digit_value (0x30 + k)) k (between (λ k. eqb (digit_value (0x30 + k)) k) 0 10 tt k (omega arith) h)

digit-is : (k : ℕ) → k < 10 → is_digit 10 (0x30 + k) ≡ true
unfolding is_digit is_in
digit-is k h = sure (is_digit 10 (0x30 + k)) (between (λ k. is_digit 10 (0x30 + k)) 0 10 tt k (omega arith) h)

number_snoc : (v : ℕ) (s : List ℕ) (b : ℕ) → number_from 10 v (s ++ b ∷ []) ≡ number_from 10 v s * 10 + digit_value b
unfolding number_from
number_snoc v [] b = refl
number_snoc v (a ∷ s) b = number_snoc (v * 10 + digit_value a) s b

decimal-within : (f n : ℕ) → n < f → Decimal n (decimal_within f n)
unfolding decimal_within number_from
decimal-within zero n h = absurd (omega arith)
decimal-within (suc f) n h = go (ltb n 10) refl (λ l. decimal-within f (n / 10) l)
  where
    go : (v : Bool) → ltb n 10 ≡ v → (n / 10 < f → Decimal (n / 10) (decimal_within f (n / 10)))
        → Decimal n (elim v [ true ↦ (0x30 + n) ∷ [] | false ↦ decimal_within f (n / 10) ++ (0x30 + n % 10) ∷ [] ])
    go true e d = let l = ltb-true n 10 e in record { first = n; rest = []; small = l; is = refl; each = tt; value = refl; lead = λ h. h }
    go false e d =
        let l = ltb-false n 10 e in
        let i = d (omega arith) in
        record {
          first = i.first;
          rest = i.rest ++ (0x30 + n % 10) ∷ [];
          small = i.small;
          is = ap (λ (u : List ℕ). u ++ (0x30 + n % 10) ∷ []) i.is;
          each = each_snoc (is_digit 10) i.rest (0x30 + n % 10) i.each (digit-is (n % 10) (omega arith));
          value = number_snoc i.first i.rest (0x30 + n % 10) ∙ (rw (i.value, digit_value_lem (n % 10) (omega arith)) (omega arith));
          lead = λ h. i.lead (omega arith);
        }

pub decimal-digits : (n : ℕ) → Decimal n (decimal_of n)
unfolding decimal_of
decimal-digits n = decimal-within (suc n) n (omega arith)

pub number-decimal : (n : ℕ) → number_from 10 0 (decimal_of n) ≡ n
unfolding number_from
number-decimal n =
    let d = decimal-digits n in
    let e : 0 * 10 + digit_value (0x30 + d.first) ≡ d.first = omega (arith, digit_value_lem d.first d.small) in
    rw d.is (ap (λ (v : ℕ). number_from 10 v d.rest) e ∙ d.value)

pub digits_decimal : (n : ℕ) → Each (is_digit 10) (decimal_of n)
digits_decimal n = let d = decimal-digits n in rw d.is (digit-is d.first d.small, d.each)

-- THE TOKEN THAT BEGINS WITH A BYTE, where no blank or comment does
abbrev pub gap : ℕ → Bool
gap b = is blank b || (is slash b || is hash b)

pub skip_at : (b : ℕ) (s : List ℕ) → gap b ≡ false → skip (b ∷ s) ≡ b ∷ s
unfolding skip skip_from skipped
skip_at b s e =
    let p = either_false (is blank b) _ e in
    let q = either_false (is slash b) _ p.1 in
    rw (p.0, skip_from) (rw q.0 (rw q.1))

pub next_at : (b : ℕ) (s : List ℕ) {t : Token} {r : List ℕ} → gap b ≡ false → cut_by (class_of b) b s ≡ ok t r → next (b ∷ s) ≡ ok t r
unfolding next cut placed
next_at b s e h = rw (skip_at b s e) (rw h)

pub digit-class : (k : ℕ) → k < 10 → class_of (0x30 + k) ≡ digit
unfolding class_of class_in class_rows is_in
digit-class zero h = refl
digit-class (suc zero) h = refl
digit-class (suc (suc zero)) h = refl
digit-class (suc (suc (suc zero))) h = refl
digit-class (suc (suc (suc (suc zero)))) h = refl
digit-class (suc (suc (suc (suc (suc zero))))) h = refl
digit-class (suc (suc (suc (suc (suc (suc zero)))))) h = refl
digit-class (suc (suc (suc (suc (suc (suc (suc zero))))))) h = refl
digit-class (suc (suc (suc (suc (suc (suc (suc (suc zero)))))))) h = refl
digit-class (suc (suc (suc (suc (suc (suc (suc (suc (suc zero))))))))) h = refl
digit-class (suc (suc (suc (suc (suc (suc (suc (suc (suc (suc k)))))))))) h = absurd (omega arith)

-- a number, with its sign
abbrev signed : Sign → List ℕ → List ℕ
signed unsigned s = s
signed negative s = 0x2d ∷ s

next-digit : (g : Sign) (k : ℕ) (s : List ℕ) {t : Token} {r : List ℕ} → k < 10 → number g (0x30 + k) s ≡ ok t r → next (signed g ((0x30 + k) ∷ s)) ≡ ok t r
unfolding is class_number class_of class_in class_rows is_in cut_by after_minus
next-digit unsigned k s h e = next_at (0x30 + k) s (rw (digit-class k h)) (rw (digit-class k h) e)
next-digit negative k s h e = next_at 0x2d ((0x30 + k) ∷ s) refl (rw (digit-class k h, after_minus) e)

no-float : (w s : List ℕ) → Each (is_digit 10) w → Halts extends s → is_floating 10 (w ++ s) ≡ false
unfolding is_floating
no-float [] [] e h = refl
no-float [] (b ∷ s) e h = rw (over-digit b h, is_floating) (over-float b h)
no-float (b ∷ w) s e h = rw (e.0, is_floating) (no-float w s e.1 h)

no-radix : (g : Sign) (s : List ℕ) → Halts extends s → after_zero g s ≡ decimal g 0 s
unfolding after_zero
no-radix g [] h = refl
no-radix g (c ∷ []) h = refl
no-radix g (c ∷ d ∷ s) h = rw (over-radix c h, after_zero)

halts_digits : (s : List ℕ) → Halts extends s → Halts (is_digit 10) s
halts_digits [] h = tt
halts_digits (b ∷ s) h = over-digit b h

number_more : (g : Sign) (k : ℕ) (w s : List ℕ) → 1 ≤ k → k < 10 → Each (is_digit 10) w → Halts extends s → number g (0x30 + k) (w ++ s) ≡ decimal g (number_from 10 k w) s
unfolding number digits bind
number_more g k w s l h e o =
    rw (no-float w s e o, number) (rw (ne_eqb (0x30 + k) 0x30 (λ q. omega arith)) (rw (run-all (is_digit 10) w s e (halts_digits s o)) (rw (digit_value_lem k h))))

-- digits in front of what is no letter, digit or dot
next-decimal : (g : Sign) (n : ℕ) (s : List ℕ) {t : Token} {r : List ℕ} → Halts extends s → decimal g n s ≡ ok t r → next (signed g (decimal_of n ++ s)) ≡ ok t r
unfolding decimal_of decimal_within number
next-decimal g zero s o e = next-digit g 0 s (omega arith) (rw (no-float [] s tt o, number) (no-radix g s o ∙ e))
next-decimal g (suc n) s o e =
    let d = decimal-digits (suc n) in
    let l = d.lead (omega arith) in
    rw d.is (next-digit g d.first (d.rest ++ s) d.small (number_more g d.first d.rest s l d.small d.each o ∙ ap (λ (m : ℕ). decimal g m s) d.value ∙ e))

-- INDICATORS: none, or a width that is named
pub data Plain : Indicator → Type 0 where
  plain_absent : Plain absent
  plain_wide : {w : Width} → Plain (wide w)

-- what goes on in an indicator, or begins one
abbrev pub indicates : ℕ → Bool
indicates b = is_word b || eqb b 0x5f

pub record Named (w : Width) (n : ℕ) (l : List ℕ) : Type 0 where
  pub mark : Indicator
  pub plain : Plain mark
  pub width : choose mark n ≡ chosen w
  pub reads : (s : List ℕ) → Halts indicates s → indicator (l ++ s) ≡ ok mark s
  pub over : (s : List ℕ) → Halts extends s → Halts extends (l ++ s)

-- the width that has so many bytes
abbrev width_of : ℕ → Width
width_of n = elim (eqb n 0) [ true ↦ w0 | false ↦ elim (eqb n 1) [ true ↦ w1 | false ↦ elim (eqb n 2) [ true ↦ w2 | false ↦ elim (eqb n 4) [ true ↦ w4 | false ↦ w8 ] ] ] ]

width_of_lem : (w : Width) → width_of (argument_bytes w) ≡ w
unfolding argument_bytes
width_of_lem w0 = refl
width_of_lem w1 = refl
width_of_lem w2 = refl
width_of_lem w4 = refl
width_of_lem w8 = refl

indicates_word : (s : List ℕ) → Halts indicates s → Halts is_word s
indicates_word [] h = tt
indicates_word (b ∷ s) h = (either_false (is_word b) _ h).0

indicates_mark : (s : List ℕ) → Halts indicates s → Halts (λ b. eqb b 0x5f) s
indicates_mark [] h = tt
indicates_mark (b ∷ s) h = (either_false (is_word b) _ h).1

pub indicator-absent : (s : List ℕ) → Halts (λ b. eqb b 0x5f) s → indicator s ≡ ok absent s
unfolding indicator bind
indicator-absent s h = rw (whether-no 0x5f s h)

width_name_lem : (w : Width) → is_word (width_name w) ≡ true
unfolding width_name is_word is class_number class_of class_in class_rows is_in
width_name_lem w0 = refl
width_name_lem w1 = refl
width_name_lem w2 = refl
width_name_lem w4 = refl
width_name_lem w8 = refl

name_width : (w : Width) → indicated (width_name w ∷ []) ≡ wide w
unfolding width_name indicated
name_width w0 = refl
name_width w1 = refl
name_width w2 = refl
name_width w4 = refl
name_width w8 = refl

pub indicator-wide : (w : Width) (s : List ℕ) → Halts indicates s → indicator (0x5f ∷ (width_name w ∷ s)) ≡ ok (wide w) s
unfolding indicator whether bind
indicator-wide w s h = rw (run-all is_word (width_name w ∷ []) s (width_name_lem w, tt) (indicates_word s h)) (rw (name_width w))

-- what is printed: nothing for the shortest width, or the width's name
pub data Shown (w : Width) (n : ℕ) : List ℕ → Type 0 where
  as_shortest : shortest n ≡ w → Shown w n []
  by_name : Shown w n (0x5f ∷ width_name w ∷ [])

pub shown : (w : Width) (n : ℕ) → Shown w n (indicator_of w n)
unfolding indicator_of
shown w n = go (eqb (argument_bytes w) (argument_bytes (shortest n))) refl
  where
    go : (v : Bool) → eqb (argument_bytes w) (argument_bytes (shortest n)) ≡ v → Shown w n (elim v [ true ↦ [] | false ↦ 0x5f ∷ width_name w ∷ [] ])
    go true e = as_shortest (sym (width_of_lem (shortest n)) ∙ ap width_of (sym (eqb-true (argument_bytes w) (argument_bytes (shortest n)) e)) ∙ width_of_lem w)
    go false e = by_name

pub choose-absent : (w : Width) (n : ℕ) → shortest n ≡ w → choose absent n ≡ chosen w
unfolding choose
choose-absent w n e = rw e

pub choose-wide : (w : Width) (n : ℕ) → n ≤ limit w → choose (wide w) n ≡ chosen w
unfolding choose fits
choose-wide w n h = rw (le-leb n (limit w) h, choose)

named_as : {w : Width} {n : ℕ} {l : List ℕ} → n ≤ limit w → Shown w n l → Named w n l
unfolding is_word is class_number class_of class_in class_rows is_in
named_as {w} {n} h (as_shortest e) =
    record { mark = absent; plain = plain_absent; width = choose-absent w n e; reads = λ s i. indicator-absent s (indicates_mark s i); over = λ s o. o }
named_as {w} {n} h by_name = record { mark = wide w; plain = plain_wide; width = choose-wide w n h; reads = indicator-wide w; over = λ s o. refl }

pub named : (w : Width) (n : ℕ) → n ≤ limit w → Named w n (indicator_of w n)
named w n h = named_as h (shown w n)

pub stop_indicates : {r : List ℕ} → Stop r → Halts indicates r
unfolding goes_on is_word is class_number class_of class_in class_rows is_in
stop_indicates st = stop_halts indicates (λ b e. rw (stop_word b e) (off_is 0x5f refl b e)) st

-- INTEGERS AND TAG OPENINGS
limit-most : (w : Width) → limit w ≤ limit w8
unfolding limit
limit-most w0 = lit≤ tt
limit-most w1 = lit≤ tt
limit-most w2 = lit≤ tt
limit-most w4 = lit≤ tt
limit-most w8 = lit≤ tt

judged-ok : (w : Width) (n : ℕ) (c : Chosen) (make : Width → Token) (r : List ℕ) → n ≤ limit w → c ≡ chosen w → judged n c make r ≡ ok (make w) r
unfolding judged
judged-ok w n c make r h e = rw (le-leb n (limit w8) (omega (arith, limit-most w)), judged) (rw e)

not_paren : {r : List ℕ} → Stop r → Halts (λ b. eqb b 0x28) r
unfolding goes_on is_word is class_number class_of class_in class_rows is_in
not_paren st = stop_halts (λ b. eqb b 0x28) (off_is 0x28 refl) st

decimal-integer : (g : Sign) (w : Width) (n : ℕ) (r : List ℕ) → n ≤ limit w → Stop r
    → decimal g (elim g [ unsigned ↦ n | negative ↦ suc n ]) (indicator_of w n ++ r) ≡ ok (begins (leaf (int g w n))) r
unfolding decimal other_integer integer integer_token bind
decimal-integer unsigned w n r h st =
    let i = named w n h in
    rw (i.reads r (stop_indicates st)) (rw (whether-no 0x28 r (not_paren st)) (judged-ok w n (choose i.mark n) (integer_token unsigned n) r h i.width))
decimal-integer negative w n r h st =
    let i = named w n h in
    rw (i.reads r (stop_indicates st)) (judged-ok w n (choose i.mark n) (integer_token negative n) r h i.width)

pub next-integer : (g : Sign) (w : Width) (n : ℕ) (r : List ℕ) → n ≤ limit w → Stop r → next (print_int g w n ++ r) ≡ ok (begins (leaf (int g w n))) r
unfolding print_int
next-integer unsigned w n r h st =
    rw (append_assoc (decimal_of n) (indicator_of w n) r)
    (next-decimal unsigned n _ ((named w n h).over r (stop_halts extends stop_extends st)) (decimal-integer unsigned w n r h st))
next-integer negative w n r h st =
    rw (append_assoc (decimal_of (suc n)) (indicator_of w n) r)
    (next-decimal negative (suc n) _ ((named w n h).over r (stop_halts extends stop_extends st)) (decimal-integer negative w n r h st))

pub next-tag : (w : Width) (n : ℕ) (r : List ℕ) → n ≤ limit w → next ((decimal_of n ++ indicator_of w n) ++ (0x28 ∷ r)) ≡ ok (begins (opens (tagging w n))) r
unfolding decimal whether bind is_word is class_number class_of class_in class_rows is_in
next-tag w n r h =
    let i = named w n h in
    rw (append_assoc (decimal_of n) (indicator_of w n) (0x28 ∷ r))
    (next-decimal unsigned n _ (i.over (0x28 ∷ r) refl) (rw (i.reads (0x28 ∷ r) refl) (judged-ok w n (choose i.mark n) (λ w. begins (opens (tagging w n))) r h i.width)))
