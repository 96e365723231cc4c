-- Integers and tag openings: what the code knows at each return, and that this is what the definitions say.
-- Assumes nothing.
use mathlib.Core.Path.{◌≡◌, refl, sym, ap, ◌∙◌}
use mathlib.Core.List.{List, [], ◌∷◌}
use mathlib.Core.Bool.{Bool, true, false}
use Prim.Native.Nat.{ℕ, zero, suc, ◌+◌, ◌-◌, ◌≤◌, ◌<◌}
use native.Mathlib.Omega.{arith}
use lib.Dec.{leb, eqb}
use lib.ListN.{length, drop, get_or}
use borrow.Author.Tests.{le-leb, lt-leb, ne_eqb, eqb-true, eqb-false, leb-true, leb-false}
use Rattle.cbor.specs.Refusals.{Result, ok, refuse, bind, float}
use Rattle.cbor.specs.Widths.{Width, w8, limit}
use Rattle.cbor.specs.Items.{Sign, unsigned, negative}
use Rattle.cbor.specs.Utf8.{◌to◌, is_in}
use Rattle.notation.specs.Indicators.{Indicator, indicator, Chosen, chosen, choose}
use Rattle.notation.specs.Numbers.{worth, no_digit, is_digit, digit_value, number_from, digits, Radix, in_radix, no_radix, radix_of, judged, integer_token, integer, other_integer, decimal, based, after_zero, number}
use Rattle.notation.specs.Tokens.{Token, begins, opens, tagging}
use Rattle.notation.specs.Reading.{marked}
use Rattle.scanning.specs.Stands.{span}
use Rattle.scanning.specs.ScanAnswers.{Peeked}
use Rattle.literal_body.specs.LiteralAnswers.{digit_number}
use Rattle.token.specs.TokenAnswers.{indicator_number, item_code, open_code, begin_code, code_of, item_mark, open_mark, begin_mark, mark_of, item_number, open_number, begin_number, number_of, BeginsAs, Written, Shown, Says, Refused, TokenMade}
use Rattle.amounts.specs.AmountAnswers.{heavy, Counts, float_at, ScansDigits, Counted}
use Rattle.numbers.specs.NumberAnswers.{Indicated, choose_by, chosen_number, Limited, Makes, Judging, Integral, Decimals, DigitAt, radix_number, Prefixed, BasedAt, Leading}
use Rattle.cbor.specs.Flags.{sign_of}
use Rattle.amounts.specs.declared.Amount.{Amount}
use Rattle.amounts.specs.declared.Digits.{Digits}
use Rattle.numbers.specs.declared.indicator.Mark.{Mark}
use Rattle.token.specs.declared.Token.{Token as Cut}
use Rattle.cbor.proofs.Utf8Laws.{is_in_lem}
use Rattle.cbor.proofs.Tests.{clash}
use Rattle.notation_theorems.proofs.ScanningElements.{digit_cases}
use Rattle.notation_theorems.proofs.TextScan.{tested, digit_less}
use Rattle.literal_body.proofs.LiteralCode.{digit-yes, digit-no, digit-number}
use Rattle.scanning.proofs.Marked.{at_byte, at-end, past_end, here}
use Rattle.scanning.proofs.ScanCode.{whether-yes, whether-no}
use Rattle.numbers.proofs.IndicatorCode.{choose-is, chosen_none, chosen-some}

-- ANSWERS
pub says_as : {s : List ℕ} {p : ℕ} {t : Cut} {R R' : Result Token} → R' ≡ R → Says s p t R → Says s p t R'
says_as e h = rw e h

pub says_refuse : {s : List ℕ} {k p : ℕ} {t : Cut} (q : ℕ) → Refused k p t → Says s p t (refuse k q)
unfolding Shown
says_refuse q r = record { shown = record { code = r.code; refusal = r.refusal }; place = r.place }

pub says_made : {s : List ℕ} {c i n p x : ℕ} {t : Cut} → TokenMade c i n p x t → (tok : Token) → c ≡ code_of tok → i ≡ mark_of tok → n ≡ number_of tok → Written s t tok → x ≤ length s
    → Says s p t (ok tok (drop x (marked s)))
unfolding Shown
says_made {s} m tok e₁ e₂ e₃ h l =
    record {
      shown = record { code = m.code ∙ e₁; indicator = m.indicator ∙ e₂; number = m.number ∙ e₃; written = h; next = rw m.next (here s l) };
      place = m.place;
    }

-- JUDGED
within : (mark v w n : ℕ) (over : Bool) (i : Indicator) → over ≡ false → w ≡ choose_by mark v → Limited v over n → mark ≡ indicator_number i
    → (leb n (limit w8) ≡ true) × (w ≡ chosen_number (choose i n))
within mark v w n over i e f lim mk =
    let q = lim.within e in
    (le-leb n (limit w8) (rw q lim.small), f ∙ (ap (λ (k : ℕ). choose_by k v) mk ∙ (ap (choose_by (indicator_number i)) (sym q) ∙ sym (choose-is i n))))

judged-ok : (n : ℕ) (c : Chosen) (w : Width) (make : Width → Token) (r : List ℕ) → leb n (limit w8) ≡ true → c ≡ chosen w → judged n c make r ≡ ok (make w) r
unfolding judged
judged-ok n c w make r e f = rw (e, judged) (rw f)

module _ {code mark v place next : ℕ} {over : Bool} {t : Cut} where
  pub judge_over : over ≡ true → Refused 7 place t → Judging code mark v over place next t
  unfolding judged
  judge_over e r =
      record { is = λ s n i make lim mk ms h. says_as (rw (lt-leb n (limit w8) (lim.above e), judged)) (says_refuse 0 r) }

  module _ (e : over ≡ false) (w : ℕ) (f : w ≡ choose_by mark v) where
    pub judge_misfit : w ≡ 0 → Refused 9 place t → Judging code mark v over place next t
    unfolding judged
    judge_misfit z r =
        record { is = λ s n i make lim mk ms h. let p = within mark v w n over i e f lim mk in says_as (rw (p.0, judged) (rw (chosen_none (choose i n) (sym p.1 ∙ z)))) (says_refuse 0 r) }

    pub judge_made : (w ≡ 0 → ⊥) → TokenMade code w v place next t → Judging code mark v over place next t
    unfolding judged
    judge_made z m =
        record {
          is =
              λ s n i make lim mk ms h.
              let p = within mark v w n over i e f lim mk in
              let c = chosen-some (choose i n) (λ k. z (p.1 ∙ k)) in
              says_as (judged-ok n (choose i n) c.0 make (drop next (marked s)) p.0 c.1.0)
              (says_made m (make c.0) (ms.code c.0) (p.1 ∙ (c.1.1 ∙ ms.mark c.0)) (sym (lim.within e) ∙ ms.number c.0) (ms.written s t c.0) h);
        }

pub ruleset judge_ways = (judge_over, judge_misfit, judge_made)

-- INTEGERS
limited : (a : Amount) (n : ℕ) → Counts a n → Limited a.value a.over n
unfolding heavy limit
limited a n c =
    record {
      within = λ e. let i = rw e at c.is in omega (arith, c.small);
      above = λ e. let i = rw e at c.is in omega arith;
      small = c.small;
    }

makes_unsigned : (n : ℕ) → Makes 1 n (integer_token unsigned n)
unfolding integer_token code_of begin_code item_code mark_of begin_mark item_mark number_of begin_number item_number Written BeginsAs
makes_unsigned n = record { code = λ w. refl; mark = λ w. refl; number = λ w. refl; written = λ s t w. tt }

makes_negative : (n : ℕ) → Makes 2 n (integer_token negative n)
unfolding integer_token code_of begin_code item_code mark_of begin_mark item_mark number_of begin_number item_number Written BeginsAs
makes_negative n = record { code = λ w. refl; mark = λ w. refl; number = λ w. refl; written = λ s t w. tt }

makes_tag : (n : ℕ) → Makes 6 n (λ w. begins (opens (tagging w n)))
unfolding code_of begin_code open_code mark_of begin_mark open_mark number_of begin_number open_number Written BeginsAs
makes_tag n = record { code = λ w. refl; mark = λ w. refl; number = λ w. refl; written = λ s t w. tt }

negative_is : (n : ℕ) (i : Indicator) (r : List ℕ) → 0 < n → integer negative n i r ≡ judged (n - 1) (choose i (n - 1)) (integer_token negative (n - 1)) r
unfolding integer
negative_is zero i r h = absurd (omega arith)
negative_is (suc n) i r h = let e : suc n - 1 ≡ n = omega arith in rw e

module _ {a : Amount} {m : Mark} {place : ℕ} {t : Cut} where
  by_judge : {v : ℕ} {over : Bool} → Judging 2 m.mark v over place m.next t → ((n : ℕ) → Counts a n → (0 < n) × Limited v over (n - 1)) → Integral true a m place t
  unfolding sign_of
  by_judge j h =
      record {
        is =
            λ s at n c x.
            let p = h n c in
            says_as (negative_is n x.ind (drop m.next (marked s)) p.0)
            (j.is s (n - 1) x.ind (integer_token negative (n - 1)) p.1 x.mark (makes_negative (n - 1)) x.inside);
      }

  pub minus_limit : a.over ≡ true → a.value ≡ 0 → Judging 2 m.mark 0xffff_ffff_ffff_ffff false place m.next t → Integral true a m place t
  unfolding heavy limit
  minus_limit e z j =
      by_judge j (λ n c. let i = rw e at c.is in let p : 0 < n = omega (arith, z) in
      (p, record { within = λ q. omega (arith, z); above = λ q. absurd (clash (sym q)); small = omega arith }))

  pub minus_over : a.over ≡ true → (a.value ≡ 0 → ⊥) → Judging 2 m.mark 0 true place m.next t → Integral true a m place t
  unfolding heavy limit
  minus_over e z j =
      by_judge j (λ n c. let i = rw e at c.is in let p : 0 < n = omega (arith, z) in
      (p, record { within = λ q. absurd (clash q); above = λ q. omega (arith, z); small = omega arith }))

  pub minus_zero : a.over ≡ false → a.value ≡ 0 → Refused 3 place t → Integral true a m place t
  unfolding sign_of heavy integer
  minus_zero e z r =
      record { is = λ s at n c x. let i = rw e at c.is in let q : n ≡ 0 = omega (arith, z) in says_as (rw q) (says_refuse 0 r) }

  pub minus_plain : a.over ≡ false → (a.value ≡ 0 → ⊥) → Judging 2 m.mark (a.value - 1) false place m.next t → Integral true a m place t
  unfolding heavy limit
  minus_plain e z j =
      by_judge j (λ n c. let i = rw e at c.is in let q : n ≡ a.value = omega (arith, c.small) in let p : 0 < n = omega (arith, z) in
      (p, record { within = λ k. omega (arith, q); above = λ k. absurd (clash (sym k)); small = omega (arith, c.small) }))

  pub integer_minus : (minus : Bool) → minus ≡ true → Integral true a m place t → Integral minus a m place t
  integer_minus minus e h = rw e h

  pub integer_plain : (minus : Bool) → minus ≡ false → Judging 1 m.mark a.value a.over place m.next t → Integral minus a m place t
  unfolding sign_of integer
  integer_plain minus e j =
      rw e (record { is = λ s at n c x. j.is s n x.ind (integer_token unsigned n) (limited a n c) x.mark (makes_unsigned n) x.inside })

  pub ruleset minus_ways = (minus_limit, minus_over, minus_zero, minus_plain)

  -- DECIMALS
  module _ {s : List ℕ} {at : ℕ} (minus : Bool) (x : Indicated s at m) where
    pub decimal_minus : minus ≡ true → Integral true a m place t → Decimals s place at minus a t
    unfolding sign_of decimal other_integer bind
    decimal_minus e h = rw e (record { is = λ n c. says_as (rw x.is) (h.is s at n c x) })

    module _ (e : minus ≡ false) {b : Bool} (p : Peeked s m.next 0x28 b) where
      pub decimal-tag : b ≡ true → Judging 6 m.mark a.value a.over place (m.next + 1) t → Decimals s place at minus a t
      unfolding sign_of decimal bind
      decimal-tag f j =
          rw e (record {
            is = λ n c. says_as (rw x.is (rw (whether-yes p f))) (j.is s n x.ind (λ w. begins (opens (tagging w n))) (limited a n c) x.mark (makes_tag n) (p.inside f));
          })

      pub decimal_plain : b ≡ false → Integral false a m place t → Decimals s place at minus a t
      unfolding sign_of decimal bind
      decimal_plain f h = rw e (record { is = λ n c. says_as (rw x.is (rw (whether-no p f))) (h.is s at n c x) })

pub ruleset decimal_ways = (decimal_minus, decimal-tag, decimal_plain)

-- RADIXES
module _ (b : ℕ) where
  pub radix_x : b ≡ 0x78 → 16 ≡ radix_number (radix_of b)
  unfolding radix_of radix_number
  radix_x e = rw e

  pub radix_o : b ≡ 0x6f → 8 ≡ radix_number (radix_of b)
  unfolding radix_of radix_number
  radix_o e = rw e

  pub radix_b : b ≡ 0x62 → 2 ≡ radix_number (radix_of b)
  unfolding radix_of radix_number
  radix_b e = rw e

  pub radix-none : (b ≡ 0x78 → ⊥) → (b ≡ 0x6f → ⊥) → (b ≡ 0x62 → ⊥) → 0 ≡ radix_number (radix_of b)
  unfolding radix_of radix_number
  radix-none n₁ n₂ n₃ = simp (radix_of, radix_number, ne_eqb b 0x78 n₁, ne_eqb b 0x6f n₂, ne_eqb b 0x62 n₃)

  radix_bounds : (radix_number (radix_of b) ≤ 16) × ((radix_number (radix_of b) ≡ 0 → ⊥) → 2 ≤ radix_number (radix_of b))
  unfolding radix_of radix_number
  radix_bounds =
      let P : Radix → Type 0 = λ x. (radix_number x ≤ 16) × ((radix_number x ≡ 0 → ⊥) → 2 ≤ radix_number x) in
      tested P (eqb b 0x78) _ _ (λ e. (omega arith, λ n. omega arith))
      (λ e. tested P (eqb b 0x6f) _ _ (λ e. (omega arith, λ n. omega arith))
      (λ e. tested P (eqb b 0x62) _ _ (λ e. (omega arith, λ n. omega arith)) (λ e. (omega arith, λ n. absurd (n refl)))))

pub ruleset radix_ways = (radix_x, radix_o, radix_b, radix-none)

no_prefix : {s : List ℕ} {at : ℕ} → ((g : Sign) → after_zero g (drop at (marked s)) ≡ decimal g 0 (drop at (marked s))) → Prefixed s at 0
no_prefix h = record { none = λ e. h; some = λ n. absurd (n refl); inside = λ n. absurd (n refl); least = λ n. absurd (n refl); most = omega arith }

module _ (g : Sign) (c d : ℕ) (r : List ℕ) where
  abbrev zero_by : Radix → Result Token
  zero_by (in_radix n) = elim (is_digit n d) [ true ↦ based g n (digit_value d) r | false ↦ decimal g 0 (c ∷ d ∷ r) ]
  zero_by no_radix = decimal g 0 (c ∷ d ∷ r)

  zero-none : is_digit (radix_number (radix_of c)) d ≡ false → after_zero g (c ∷ d ∷ r) ≡ decimal g 0 (c ∷ d ∷ r)
  unfolding after_zero radix_number
  zero-none = go (radix_of c)
    where
      go : (x : Radix) → is_digit (radix_number x) d ≡ false → zero_by x ≡ decimal g 0 (c ∷ d ∷ r)
      go (in_radix n) e = rw (e, zero_by)
      go no_radix e = refl

  zero-some : is_digit (radix_number (radix_of c)) d ≡ true → after_zero g (c ∷ d ∷ r) ≡ based g (radix_number (radix_of c)) (digit_value d) r
  unfolding after_zero radix_number
  zero-some = go (radix_of c)
    where
      go : (x : Radix) → is_digit (radix_number x) d ≡ true → zero_by x ≡ based g (radix_number x) (digit_value d) r
      go (in_radix n) e = rw (e, zero_by)
      go no_radix e = absurd (omega (arith, digit_less 0 d e))

pub prefix_past : (s : List ℕ) (at : ℕ) → length s ≤ at → Prefixed s at 0
unfolding after_zero
prefix_past s at h = no_prefix (λ g. go g (leb at (length s)) refl)
  where
    go : (g : Sign) (t : Bool) → leb at (length s) ≡ t → after_zero g (drop at (marked s)) ≡ decimal g 0 (drop at (marked s))
    go g true q = let f : at ≡ length s = omega (arith, leb-true at (length s) q) in rw (at-end s at f)
    go g false q = rw (past_end s at (leb-false at (length s) q))

pub prefix_last : (s : List ℕ) (at : ℕ) → at < length s → length s - at < 2 → Prefixed s at 0
unfolding is_digit is_in
prefix_last s at l h =
    let f : at + 1 ≡ length s = omega arith in
    let c = get_or s at 0 in
    let d : is_digit (radix_number (radix_of c)) 256 ≡ false = refl in
    let e : drop at (marked s) ≡ c ∷ 256 ∷ [] = at_byte s at l ∙ ap (λ (r : List ℕ). c ∷ r) (at-end s (at + 1) f) in
    no_prefix (λ g. rw e (zero-none g c 256 [] d))

module _ (s : List ℕ) (at radix v : ℕ) (l : at < length s) (h : 2 ≤ length s - at) (e : radix ≡ radix_number (radix_of (get_or s at 0))) (f : v ≡ digit_number (get_or s (at + 1) 0)) where
  two : drop at (marked s) ≡ get_or s at 0 ∷ get_or s (at + 1) 0 ∷ drop (at + 2) (marked s)
  two =
      let q : at + 1 + 1 ≡ at + 2 = omega arith in
      at_byte s at l ∙ ap (λ (r : List ℕ). get_or s at 0 ∷ r) (at_byte s (at + 1) (omega arith) ∙ ap (λ (k : ℕ). get_or s (at + 1) 0 ∷ drop k (marked s)) q)

  pub prefix_some : v < radix → Prefixed s at radix
  prefix_some k =
      let c = get_or s at 0 in
      let d = get_or s (at + 1) 0 in
      let l' : digit_number d < radix_number (radix_of c) = omega (arith, e, f) in
      let t = digit-yes (radix_number (radix_of c)) d l' (omega (arith, (radix_bounds c).0)) in
      record {
        none = λ z. absurd (omega arith);
        some = λ n g. rw two (zero-some g c d (drop (at + 2) (marked s)) t ∙ (λ j. based g (sym e j) (sym (digit-number (radix_number (radix_of c)) d t) j) (drop (at + 2) (marked s))));
        inside = λ n. omega arith;
        least = λ n. rw e ((radix_bounds c).1 (λ z. n (e ∙ z)));
        most = rw e (radix_bounds c).0;
      }

  pub prefix_none : radix ≤ v → Prefixed s at 0
  prefix_none k =
      let c = get_or s at 0 in
      let d = get_or s (at + 1) 0 in
      let l' : radix_number (radix_of c) ≤ digit_number d = omega (arith, e, f) in
      no_prefix (λ g. rw two (zero-none g c d (drop (at + 2) (marked s)) (digit-no (radix_number (radix_of c)) d l')))

pub ruleset prefix_ways = (prefix_past, prefix_last, prefix_some, prefix_none)

-- BEHIND A ZERO
pub digit-most : (b : ℕ) → digit_number b ≤ 99
unfolding digit_number
digit-most b =
    digit_cases (λ d. elim d [ worth v ↦ v | no_digit ↦ 99 ] ≤ 99) b (λ e. omega (arith, (is_in_lem (0x30 to 0x39) b e).1)) (λ e. omega (arith, (is_in_lem (0x61 to 0x66) b e).1))
    (λ e. omega (arith, (is_in_lem (0x41 to 0x46) b e).1)) (omega arith)

-- digits with what stands behind them
module _ {s : List ℕ} {at radix v : ℕ} {d : Digits} (c : Counted s at radix v d) where
  abbrev value_of : ℕ
  value_of = number_from radix v (span at d.next (marked s))

  digits-is : digits radix v (drop at (marked s)) ≡ ok (number_from radix v (span at d.next (marked s))) (drop d.next (marked s))
  unfolding digits bind
  digits-is = rw c.ran.is

module _ {s : List ℕ} {at radix : ℕ} (p : Prefixed s at radix) (n : radix ≡ 0 → ⊥) where
  pub zero_index : at + 1 < length s
  zero_index = omega (arith, p.inside n)

  pub zero-scans : {v : ℕ} → v ≡ digit_number (get_or s (at + 1) 0) → ScansDigits s (at + 2) radix v
  zero-scans e = record { inside = p.inside n; least = p.least n; most = p.most; start = rw e (digit-most (get_or s (at + 1) 0)) }

zero_is : {s : List ℕ} {at radix v : ℕ} {d : Digits} (minus b : Bool) → Prefixed s at radix → (radix ≡ 0 → ⊥) → v ≡ digit_number (get_or s (at + 1) 0) → Counted s (at + 2) radix v d
    → b ≡ float_at radix (drop d.next (marked s))
    → after_zero (sign_of minus) (drop at (marked s)) ≡ elim b [ true ↦ refuse float 0 | false ↦ bind (digits radix v (drop (at + 2) (marked s))) (other_integer (sign_of minus)) ]
unfolding based
zero_is {s} {at} {radix} minus b p n e c f =
    p.some n (sign_of minus) ∙ (ap (λ (k : ℕ). based (sign_of minus) radix k (drop (at + 2) (marked s))) (sym e) ∙ rw (c.floats ∙ sym f, based))

module _ {s : List ℕ} {at place radix : ℕ} {t : Cut} (minus : Bool) (p : Prefixed s at radix) where
  zero-decimal : radix ≡ 0 → Decimals s place at minus (record { value = 0; over = false }) t → Says s place t (after_zero (sign_of minus) (drop at (marked s)))
  unfolding heavy
  zero-decimal e h = says_as (p.none e (sign_of minus)) (h.is 0 (record { is = omega arith; small = omega arith }))

  module _ (n : radix ≡ 0 → ⊥) {v : ℕ} (e : v ≡ digit_number (get_or s (at + 1) 0)) {d : Digits} (c : Counted s (at + 2) radix v d) (b : Bool) (f : b ≡ float_at radix (drop d.next (marked s))) where
    pub zero-float : b ≡ true → Refused 6 place t → Says s place t (after_zero (sign_of minus) (drop at (marked s)))
    zero-float g r = says_as (zero_is minus b p n e c f ∙ rw g) (says_refuse 0 r)

    pub zero-integer : {m : Mark} → b ≡ false → Indicated s d.next m → Integral minus d.amount m place t → Says s place t (after_zero (sign_of minus) (drop at (marked s)))
    unfolding other_integer bind
    zero-integer {m} g x h = says_as (zero_is minus b p n e c f ∙ rw g (rw (digits-is c) (rw x.is))) (h.is s d.next (value_of c) c.counts x)

pub ruleset zero_ways = (zero-float, zero-integer)

-- NUMBERS
pub number-scans : (s : List ℕ) (at : ℕ) {v : ℕ} → v ≡ digit_number (get_or s at 0) → DigitAt s at → ScansDigits s (at + 1) 10 v
number-scans s at e h = record { inside = omega (arith, h.inside); least = omega arith; most = omega arith; start = rw e (digit-most (get_or s at 0)) }

module _ {s : List ℕ} (at : ℕ) {place : ℕ} {t : Cut} (minus : Bool) {v : ℕ} (e : v ≡ digit_number (get_or s at 0)) where
  module _ {d : Digits} (c : Counted s (at + 1) 10 v d) (b : Bool) (f : b ≡ float_at 10 (drop d.next (marked s))) where
    pub number-float : b ≡ true → Refused 6 place t → Says s place t (number (sign_of minus) (get_or s at 0) (drop (at + 1) (marked s)))
    unfolding number
    number-float g r = says_as (rw (c.floats ∙ (sym f ∙ g), number)) (says_refuse 0 r)

    number-zero : b ≡ false → get_or s at 0 ≡ 0x30 → Says s place t (after_zero (sign_of minus) (drop (at + 1) (marked s))) → Says s place t (number (sign_of minus) (get_or s at 0) (drop (at + 1) (marked s)))
    unfolding number
    number-zero g z h = says_as (rw (c.floats ∙ (sym f ∙ g), number) (rw z)) h

    number-decimal : DigitAt s at → b ≡ false → (get_or s at 0 ≡ 0x30 → ⊥) → Decimals s place d.next minus d.amount t → Says s place t (number (sign_of minus) (get_or s at 0) (drop (at + 1) (marked s)))
    unfolding number bind
    number-decimal x g z h =
        let i : digit_value (get_or s at 0) ≡ v = sym (e ∙ digit-number 10 (get_or s at 0) x.digit) in
        says_as (rw (c.floats ∙ (sym f ∙ g), number) (rw (ne_eqb (get_or s at 0) 0x30 z) (rw i (rw (digits-is c))))) (h.is (value_of c) c.counts)

    module _ (x : DigitAt s at) (g : b ≡ false) {radix : ℕ} (p : BasedAt s (at + 1) (get_or s at 0) radix) {t' : Cut} (w : t' ≡ t) where
      pub number-based : (radix ≡ 0 → ⊥) → Says s place t (after_zero (sign_of minus) (drop (at + 1) (marked s))) → Says s place t' (number (sign_of minus) (get_or s at 0) (drop (at + 1) (marked s)))
      number-based n h = rw w (number-zero g (p.some n) h)

      pub number_plain : {l : Digits} → radix ≡ 0 → Leading (get_or s at 0) (at + 1) d l → Decimals s place l.next minus l.amount t → Says s place t' (number (sign_of minus) (get_or s at 0) (drop (at + 1) (marked s)))
      number_plain {l} n y h = rw w (go (eqb (get_or s at 0) 0x30) refl)
        where
          go : (q : Bool) → eqb (get_or s at 0) 0x30 ≡ q → Says s place t (number (sign_of minus) (get_or s at 0) (drop (at + 1) (marked s)))
          go true q =
              let z = eqb-true (get_or s at 0) 0x30 q in
              let k : Decimals s place (at + 1) minus (record { value = 0; over = false }) t = rw (y.zero z) at h in
              number-zero g z (zero-decimal minus (p.zero z) n k)
          go false q =
              let z = eqb-false (get_or s at 0) 0x30 q in
              let k : Decimals s place d.next minus d.amount t = rw (y.other z) at h in
              number-decimal x g z k

-- the parts of a number
module _ {s : List ℕ} {at b : ℕ} where
  pub base_zero : {radix : ℕ} → b ≡ 0x30 → Prefixed s at radix → BasedAt s at b radix
  base_zero e p = record { zero = λ z. p; some = λ n. e }

  pub base_none : (b ≡ 0x30 → ⊥) → BasedAt s at b 0
  base_none n = record { zero = λ z. absurd (n z); some = λ k. absurd (k refl) }

pub ruleset base_ways = (base_zero, base_none)

module _ {b at : ℕ} {d : Digits} where
  pub leading_zero : b ≡ 0x30 → Leading b at d (record { amount = record { value = 0; over = false }; next = at })
  leading_zero e = record { zero = λ z. refl; other = λ n. absurd (n e); inside = λ n h k. h }

  pub leading_other : (b ≡ 0x30 → ⊥) → Leading b at d d
  leading_other n = record { zero = λ z. absurd (n z); other = λ z. refl; inside = λ n h k. k }

pub ruleset leading_ways = (leading_zero, leading_other)

pub leading_inside : {s : List ℕ} {at b radix v : ℕ} {d l : Digits} → at < length s → Counted s (at + 1) radix v d → Leading b (at + 1) d l → l.next ≤ length s
leading_inside {s} h c y = y.inside (length s) (omega arith) c.ran.inside

pub based-prefixed : {s : List ℕ} {at b radix : ℕ} → BasedAt s at b radix → (radix ≡ 0 → ⊥) → Prefixed s at radix
based-prefixed p n = p.zero (p.some n)
