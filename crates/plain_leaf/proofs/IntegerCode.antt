-- Decimal integers and the openings of tags: what the code knows at each return and each turn of its loop, and that this is what the
-- definitions say.
-- Assumes nothing.
use mathlib.Core.Path.{◌≡◌, refl, sym, ap, ◌∙◌}
use mathlib.Core.List.{List, [], ◌∷◌}
use mathlib.Core.Bool.{Bool, true, false, not}
use Prim.Native.Nat.{ℕ, zero, suc, ◌+◌, ◌-◌, ◌≤◌, ◌<◌}
use native.Mathlib.Omega.{arith}
use lib.Dec.{ltb, eqb}
use lib.ListN.{length, drop, get_or}
use borrow.Author.Tests.{ltb-false, le-leb, eqb-true, eqb-false, not-false}
use Rattle.cbor.specs.Refusals.{ok, bind}
use Rattle.cbor.specs.Widths.{Width, w8, limit, shortest}
use Rattle.cbor.specs.Items.{Sign, unsigned, negative, int, levels}
use Rattle.cbor.specs.Heads.{integers, major_number}
use Rattle.cbor.specs.Encode.{encode}
use Rattle.cbor.specs.Utf8.{is_in}
use Rattle.cbor.specs.Flags.{sign_of}
use Rattle.cbor.proofs.Tests.{clash}
use Rattle.notation.specs.Classes.{digit, class_number, class_rows, class_in, class_of, is}
use Rattle.notation.specs.Scanning.{whether}
use Rattle.notation.specs.Indicators.{absent, indicator, choose}
use Rattle.notation.specs.Numbers.{digit_value, is_digit, digits, is_floating, judged, integer_token, integer, other_integer, decimal, after_zero, number}
use Rattle.notation.specs.Tokens.{Token, tagging, leaf, opens, begins}
use Rattle.notation.specs.Cutting.{after_minus, cut_by, cut}
use Rattle.notation.specs.Reading.{marked}
use Rattle.notation_theorems.proofs.PrintNumbers.{digit_range, digit-class, indicator-absent, whether-no}
use Rattle.scanning.specs.ScanAnswers.{Peeked}
use Rattle.scanning.proofs.Marked.{length_marked, at_byte}
use Rattle.scanning.proofs.ScanCode.{peeked_yes}
use Rattle.numbers.specs.NumberAnswers.{DigitAt}
use Rattle.encoding.specs.ReadAnswers.{held_of, Tells}
use Rattle.encoding.specs.Cuts.{CutAt}
use Rattle.leaf_answer.specs.LeafAnswers.{LeafTold}
use Rattle.leaf_head.specs.HeadParts.{short_head, HeadMade}
use Rattle.decimals.specs.DigitParts.{Ends, EndsAt, Tally, Leads, Behind, DigitThere}
use Rattle.plain_leaf.specs.LeafParts.{IntegerMajor, argument_by, NumberAt}
use Rattle.leaf_answer.specs.declared.LeafRead.{LeafRead as LeafS}
use Rattle.leaf_answer.specs.declared.Found.TheVariants.{Leaf, Tag}
use Rattle.leaf_answer.proofs.LeafCode.{leaf_odd, leaf-made, leaf-whole, tag-opened}
use Rattle.leaf_head.proofs.HeadsCode.{head-is, some-head}
use Rattle.decimals.proofs.DigitCode.{worth-value, outside-paren, digits-none}

-- WHERE DIGITS END

module _ {s : List ℕ} {at : ℕ} (x : Ends s at) where
  ended-floats : is_floating 10 (drop at (marked s)) ≡ false
  unfolding is_floating
  ended-floats = rw x.left (rw (x.outside.digit, is_floating) x.outside.float)

  ended-counts : (v : ℕ) → digits 10 v (drop at (marked s)) ≡ ok v (drop at (marked s))
  ended-counts v = rw x.left (digits-none v x.next x.rest x.outside.digit)

  ended-zero : (g : Sign) → after_zero g (drop at (marked s)) ≡ decimal g 0 (drop at (marked s))
  unfolding after_zero
  ended-zero g = rw x.left (go x.rest)
    where
      go : (r : List ℕ) → after_zero g (x.next ∷ r) ≡ decimal g 0 (x.next ∷ r)
      go [] = refl
      go (c ∷ r) = rw (x.outside.radix, after_zero)

  ended-mark : indicator (drop at (marked s)) ≡ ok absent (drop at (marked s))
  ended-mark = rw x.left (indicator-absent (x.next ∷ x.rest) x.outside.mark)

-- the digits of a number, up to where they end
module _ {s : List ℕ} {place at end v : ℕ} {minus t : Bool} (x : NumberAt s place at minus) (y : Tally s (at + 1) (digit_value (get_or s at 0)) end v)
    (k : Leads (get_or s at 0) minus (ltb (at + 1) end) t) (f : not t ≡ false) where
  number_is : Ends s end → number (sign_of minus) (get_or s at 0) (drop (at + 1) (marked s)) ≡ decimal (sign_of minus) v (drop end (marked s))
  unfolding number bind digit_value is_in
  number_is z = rw (y.floats ∙ ended-floats z, number) (go (eqb (get_or s at 0) 0x30) refl)
    where
      go : (u : Bool) → eqb (get_or s at 0) 0x30 ≡ u
          → elim u [ true ↦ after_zero (sign_of minus) (drop (at + 1) (marked s)) | false ↦ bind (digits 10 (digit_value (get_or s at 0)) (drop (at + 1) (marked s))) (decimal (sign_of minus)) ] ≡ decimal (sign_of minus) v (drop end (marked s))
      go true e =
          let q = eqb-true (get_or s at 0) 0x30 e in
          let m : at + 1 ≡ end = omega (arith, ltb-false (at + 1) end (k.single (not-false t f) q), y.ahead) in
          let n : digit_value (get_or s at 0) ≡ 0 = ap digit_value q in
          let c : ok (digit_value (get_or s at 0)) (drop end (marked s)) ≡ ok v (drop end (marked s)) = sym (ended-counts z (digit_value (get_or s at 0))) ∙ (rw m at y.counts ∙ ended-counts z v) in
          let d : 0 ≡ v = cc in
          rw m (ended-zero z (sign_of minus) ∙ ap (λ (j : ℕ). decimal (sign_of minus) j (drop end (marked s))) d)
      go false e = rw (y.counts ∙ ended-counts z v)

  pub number-some : minus ≡ true → 1 ≤ v
  number-some e = go (eqb (get_or s at 0) 0x30) refl
    where
      go : (u : Bool) → eqb (get_or s at 0) 0x30 ≡ u → 1 ≤ v
      go true q = absurd (clash (sym e ∙ k.unsigned (not-false t f) (eqb-true (get_or s at 0) 0x30 q)))
      go false q =
          let n : digit_value (get_or s at 0) ≡ 0 → ⊥ = λ z. eqb-false (get_or s at 0) 0x30 q ((worth-value (get_or s at 0) x.there.digit).zero z) in
          omega (arith, y.grows)

-- TOKENS

judged-short : (n : ℕ) (make : Width → Token) (r : List ℕ) → n ≤ limit w8 → judged n (choose absent n) make r ≡ ok (make (shortest n)) r
unfolding judged choose
judged-short n make r h = rw (le-leb n (limit w8) h, judged)

decimal-token : (g : Sign) (v : ℕ) (r : List ℕ) → indicator r ≡ ok absent r → whether 0x28 r ≡ ok false r → v ≤ limit w8 → (g ≡ negative → 1 ≤ v)
    → decimal g v r ≡ ok (begins (leaf (int g (shortest (argument_by g v)) (argument_by g v)))) r
unfolding decimal other_integer integer integer_token bind argument_by
decimal-token unsigned v r e p h l = rw e (rw p (judged-short v (integer_token unsigned v) r h))
decimal-token negative zero r e p h l = absurd (omega (arith, l refl))
decimal-token negative (suc v) r e p h l =
    let q : suc v - 1 ≡ v = omega arith in
    rw (e, q) (judged-short v (integer_token negative v) r (omega arith))

decimal-tag : (v : ℕ) (r : List ℕ) → v ≤ limit w8 → decimal unsigned v (0x28 ∷ r) ≡ ok (begins (opens (tagging (shortest v) v))) r
unfolding decimal indicator whether bind
decimal-tag v r h = judged-short v (λ w. begins (opens (tagging w v))) r h

-- ANSWERS

sign_minus : (minus : Bool) → sign_of minus ≡ negative → minus ≡ true
unfolding sign_of
sign_minus true e = refl
sign_minus false e = let z : ◌≡◌ {A = ℕ} 0 1 = cc in absurd (omega arith)

argument-most : (g : Sign) (v : ℕ) → argument_by g v ≤ v
unfolding argument_by
argument-most unsigned v = omega arith
argument-most negative v = omega arith

module _ {s : List ℕ} {place at end v : ℕ} {minus t : Bool} (x : NumberAt s place at minus) (y : Tally s (at + 1) (digit_value (get_or s at 0)) end v)
    (k : Leads (get_or s at 0) minus (ltb (at + 1) end) t) (f : not t ≡ false) where
  integer-cut : {u : Bool} → EndsAt s end u → u ≡ true → CutAt s place end (begins (leaf (int (sign_of minus) (shortest (argument_by (sign_of minus) v)) (argument_by (sign_of minus) v))))
  unfolding limit
  integer-cut z e =
      let o = z.is e in
      let p : whether 0x28 (drop end (marked s)) ≡ ok false (drop end (marked s)) = rw o.left (whether-no 0x28 (o.next ∷ o.rest) (z.paren e)) in
      record {
        is = x.is ∙ (number_is x y k f o ∙ decimal-token (sign_of minus) v (drop end (marked s)) (ended-mark o) p y.most (λ j. number-some x y k f (sign_minus minus j)));
        inside = omega (arith, length_marked s, y.inside);
        ahead = omega (arith, x.before, y.ahead);
      }

  pub integer-leaf : {b b' : List ℕ} {pos : ℕ} {q : LeafS} {u : Bool} {major n size : ℕ} → EndsAt s end u → u ≡ true → IntegerMajor minus major → n ≡ argument_by (sign_of minus) v
      → HeadMade b b' pos major n size → q ≡ record { found = Leaf; next = end; size = size; binary = false; length = 0; number = 0 } → LeafTold s b b' place pos q
  unfolding levels encode Tells held_of limit
  integer-leaf {b} {b'} {pos} {q} {u} {major} {n} {size} z e m a h r =
      let g = sign_of minus in
      let j = argument_by g v in
      let hs : short_head major n ≡ encode (int g (shortest j) j) = rw (m.is, a) (head-is (integers g) j (omega (arith, argument-most g v, y.most))) in
      let c = integer-cut z e in
      leaf-made r
      (record {
        item = int g (shortest j) j;
        whole = leaf-whole refl c;
        sized = h.sized ∙ ap length hs;
        some = omega (arith, h.sized, some-head major n);
        short = omega (arith, h.short, c.ahead);
        tells = refl;
        wrote = rw hs at h.wrote;
      })
      h.kept

  pub integer-tag : {b : List ℕ} {pos : ℕ} {q : LeafS} {u : Bool} → minus ≡ false → Peeked s end 0x28 u → u ≡ true
      → q ≡ record { found = Tag; next = end + 1; size = 0; binary = false; length = 0; number = v } → LeafTold s b b place pos q
  unfolding sign_of limit
  integer-tag m p e r =
      let d = peeked_yes p e in
      let o : Ends s end = record { next = 0x28; rest = drop (end + 1) (marked s); left = d; outside = outside-paren } in
      let c : number (sign_of minus) (get_or s at 0) (drop (at + 1) (marked s)) ≡ decimal unsigned v (0x28 ∷ drop (end + 1) (marked s)) = number_is x y k f o ∙ (rw (m, d)) in
      tag-opened r
      (record {
        is = x.is ∙ (c ∙ decimal-tag v (drop (end + 1) (marked s)) y.most);
        inside = omega (arith, length_marked s, p.inside e);
        ahead = omega (arith, x.before, y.ahead);
      })

pub ruleset integer_ways = (integer-leaf, integer-tag, leaf_odd)

-- SMALL FUNCTIONS

module _ {minus : Bool} where
  pub major_negative : minus ≡ true → IntegerMajor minus 1
  unfolding major_number sign_of
  major_negative e = rw e (record { is = refl; most = omega arith })

  pub major-unsigned : minus ≡ false → IntegerMajor minus 0
  unfolding major_number sign_of
  major-unsigned e = rw e (record { is = refl; most = omega arith })

  pub argument_negative : (v : ℕ) → minus ≡ true → v - 1 ≡ argument_by (sign_of minus) v
  unfolding argument_by sign_of
  argument_negative v e = rw e

  pub argument-unsigned : (v : ℕ) → minus ≡ false → v ≡ argument_by (sign_of minus) v
  unfolding argument_by sign_of
  argument-unsigned v e = rw e

pub ruleset major_ways = (major_negative, major-unsigned)

pub ruleset argument_ways = (argument_negative, argument-unsigned)

-- WHERE A NUMBER BEGINS

class-digit : (b : ℕ) → is_digit 10 b ≡ true → class_of b ≡ digit
class-digit b e = let p = digit_range b e in let z : 0x30 + (b - 0x30) ≡ b = omega (arith, p.0) in rw z at (digit-class (b - 0x30) (omega (arith, p.0, p.1)))

cut_digit : (b : ℕ) (r : List ℕ) → class_of b ≡ digit → cut (b ∷ r) ≡ number unsigned b r
unfolding cut cut_by
cut_digit b r e = rw (e, cut)

cut_minus : (b : ℕ) (r : List ℕ) → class_of b ≡ digit → cut (0x2d ∷ b ∷ r) ≡ number negative b r
unfolding cut cut_by after_minus is class_number class_of class_in class_rows is_in
cut_minus b r e = rw (e, after_minus)

module _ {s : List ℕ} {at from : ℕ} {minus t : Bool} (e : minus ≡ eqb (get_or s at 0) 0x2d) (l : at < length s) (y : Behind at minus from) (d : DigitThere s from t) (f : not t ≡ false) where
  pub number_at : NumberAt s at from minus
  unfolding sign_of
  number_at =
      let h = d.is (not-false t f) in
      let c = class-digit (get_or s from 0) h.digit in
      let a = at_byte s from h.inside in
      go minus refl h c a
    where
      go : (m : Bool) → minus ≡ m → DigitAt s from → class_of (get_or s from 0) ≡ digit → drop from (marked s) ≡ get_or s from 0 ∷ drop (from + 1) (marked s) → NumberAt s at from minus
      go true q h c a =
          let z : get_or s at 0 ≡ 0x2d = eqb-true (get_or s at 0) 0x2d (sym e ∙ q) in
          let n = y.some q in
          let u : drop at (marked s) ≡ 0x2d ∷ get_or s from 0 ∷ drop (from + 1) (marked s) = at_byte s at l ∙ (rw (z, ← n) (ap (λ (r : List ℕ). 0x2d ∷ r) a)) in
          record { there = h; is = rw q (rw u (cut_minus (get_or s from 0) (drop (from + 1) (marked s)) c)); before = omega arith }
      go false q h c a =
          let n = y.none q in
          let u : drop at (marked s) ≡ get_or s from 0 ∷ drop (from + 1) (marked s) = ap (λ (k : ℕ). drop k (marked s)) (sym n) ∙ a in
          record { there = h; is = rw q (rw u (cut_digit (get_or s from 0) (drop (from + 1) (marked s)) c)); before = omega arith }

pub ruleset signed_ways = (number_at, leaf_odd)
