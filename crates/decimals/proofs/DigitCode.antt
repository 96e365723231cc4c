-- Decimal digits: where they end, what they make, and which may come first.
-- Assumes nothing.
use Rattle.std.proofs.Common.{◌≡◌, ℕ, ◌+◌, ◌-◌, ◌*◌, ◌<◌, ◌≤◌, Bool, true, false, not, leb, List, [], ◌∷◌, length, get_or, drop, sym, refl, ap, ◌∙◌, arith, lt-ltb, ne_eqb, le-leb}
use borrow.Author.Tests.{not-true, not-false}
use Rattle.cbor.specs.Refusals.{Result, ok, refuse, bind}
use Rattle.cbor.specs.Utf8.{is_in}
use Rattle.notation.specs.Scanning.{run}
use Rattle.notation.specs.Numbers.{digit_value, is_digit, number_from, digits, makes_float, is_floating, radix_of}
use Rattle.notation.specs.Reading.{marked}
use Rattle.notation_theorems.proofs.PrintNumbers.{digit_range}
use Rattle.scanning.proofs.Marked.{at_byte, at-end}
use Rattle.decimals.specs.DigitParts.{Worth, Outside, GoesOn, EndsAt, Tally}

-- A DIGIT

no_digit : (b : ℕ) → ((0x30 ≤ b) × (b < 0x3a) → ⊥) → is_digit 10 b ≡ false
no_digit b n = go (is_digit 10 b) refl
  where
    go : (t : Bool) → is_digit 10 b ≡ t → t ≡ false
    go true e = absurd (n (digit_range b e))
    go false e = refl

pub a-digit : (b : ℕ) → 0x30 ≤ b → b ≤ 0x39 → is_digit 10 b ≡ true
unfolding is_digit is_in
a-digit b h l = rw (le-leb 0x30 b h, is_digit) (rw (le-leb b 0x39 l) (lt-ltb (b - 0x30) 10 (omega arith)))

pub digit-below : (b : ℕ) → b < 0x30 → false ≡ is_digit 10 b
digit-below b h = sym (no_digit b (λ p. omega (arith, p.0)))

pub digit-in : (b : ℕ) → 0x30 ≤ b → b < 0x3a → true ≡ is_digit 10 b
digit-in b h l = sym (a-digit b h (omega arith))

pub digit-above : (b : ℕ) → 0x3a ≤ b → false ≡ is_digit 10 b
digit-above b h = sym (no_digit b (λ p. omega (arith, p.1)))

pub ruleset digit_ways = (digit-below, digit-in, digit-above)

module _ (b : ℕ) (e : is_digit 10 b ≡ true) where
  pub worth_sub : 0x30 ≤ b
  worth_sub = (digit_range b e).0

  pub worth-is : Worth b (b - 0x30)
  unfolding digit_value is_in
  worth-is =
      let p = digit_range b e in
      let h : 0x30 ≤ b = p.0 in
      let l : b ≤ 0x39 = omega (arith, p.1) in
      record { is = rw (le-leb 0x30 b h, digit_value) (rw (le-leb b 0x39 l)); most = omega arith; zero = λ z. omega arith }

  pub worth-value : Worth b (digit_value b)
  worth-value = rw worth-is.is at worth-is

-- WHAT GOES ON

pub on_not : {b : ℕ} (t : Bool) → t ≡ is_digit 10 b → (b ≡ 0x28 → ⊥) → (b ≡ 0x2e → ⊥) → (b ≡ 0x45 → ⊥) → (b ≡ 0x5f → ⊥) → (b ≡ 0x62 → ⊥) → (b ≡ 0x65 → ⊥) → (b ≡ 0x6f → ⊥) → (b ≡ 0x78 → ⊥) → GoesOn b t
unfolding makes_float radix_of
on_not {b} t e n₀ n₁ n₂ n₃ n₄ n₅ n₆ n₇ =
    record {
      is = λ f. record {
        digit = sym e ∙ f;
        float = rw (ne_eqb b 0x2e n₁, ne_eqb b 0x65 n₅, ne_eqb b 0x45 n₂);
        mark = ne_eqb b 0x5f n₃;
        radix = rw (ne_eqb b 0x78 n₇, radix_of) (rw (ne_eqb b 0x6f n₆) (rw (ne_eqb b 0x62 n₄)));
      };
      paren = λ f. ne_eqb b 0x28 n₀;
    }

-- the end mark, and an opening parenthesis, are outside
outside-end : Outside 256
unfolding is_digit makes_float radix_of is_in
outside-end = record { digit = refl; float = refl; mark = refl; radix = refl }

pub outside-paren : Outside 0x28
unfolding is_digit makes_float radix_of is_in
outside-paren = record { digit = refl; float = refl; mark = refl; radix = refl }

module _ {s : List ℕ} {at : ℕ} (h : at ≤ length s) where
  pub ends-text : length s ≤ at → EndsAt s at (leb (length s) at)
  ends-text l =
      let e : at ≡ length s = omega arith in
      rw (le-leb (length s) at l) (record { is = λ f. record { next = 256; rest = []; left = at-end s at e; outside = outside-end }; paren = λ f. refl })

pub ends_at : {s : List ℕ} {at : ℕ} {t : Bool} → at < length s → GoesOn (get_or s at 0) t → EndsAt s at (not t)
ends_at {s} {at} {t} l g =
    record { is = λ f. record { next = get_or s at 0; rest = drop (at + 1) (marked s); left = at_byte s at l; outside = g.is (not-true t f) }; paren = λ f. g.paren (not-true t f) }

pub ruleset ends_ways = (ends-text, ends_at)

-- DIGITS

-- one more digit
digits_more : (v b : ℕ) (r : List ℕ) → is_digit 10 b ≡ true → digits 10 v (b ∷ r) ≡ digits 10 (v * 10 + digit_value b) r
unfolding digits run bind number_from
digits_more v b r e = rw (e, digits, run) (go (run (is_digit 10) r))
  where
    go : (R : Result (List ℕ)) → bind (bind R (λ w r. ok (b ∷ w) r)) (λ w r. ok (number_from 10 v w) r) ≡ bind R (λ w r. ok (number_from 10 (v * 10 + digit_value b) w) r)
    go (ok w r) = refl
    go (refuse n q) = refl

pub digits-none : (v b : ℕ) (r : List ℕ) → is_digit 10 b ≡ false → digits 10 v (b ∷ r) ≡ ok v (b ∷ r)
unfolding digits run bind number_from
digits-none v b r e = rw (e, digits, run)

pub tally_start : {s : List ℕ} {from first : ℕ} → from ≤ length s → first ≤ 9 → Tally s from first from first
tally_start h m = record { counts = refl; floats = refl; grows = omega arith; most = omega arith; inside = h; ahead = omega arith }

module _ {s : List ℕ} {from first at v : ℕ} (inv : Tally s from first at v) (l : at < length s) where
  pub tally_digit : (t : Bool) → t ≡ is_digit 10 (get_or s at 0) → not t ≡ false → is_digit 10 (get_or s at 0) ≡ true
  tally_digit t e f = sym e ∙ not-false t f

  module _ (t : Bool) (e : t ≡ is_digit 10 (get_or s at 0)) (f : not t ≡ false) where
    pub tally_on : {d : ℕ} → v < 1844674407370955160 → Worth (get_or s at 0) d → Tally s from first (at + 1) (v * 10 + d)
    unfolding is_floating
    tally_on {d} u w =
        let g = tally_digit t e f in
        record {
          counts = inv.counts ∙ (rw (at_byte s at l) (digits_more v (get_or s at 0) (drop (at + 1) (marked s)) g ∙ ap (λ (k : ℕ). digits 10 (v * 10 + k) (drop (at + 1) (marked s))) (sym w.is)));
          floats = inv.floats ∙ (rw (at_byte s at l) (rw (g, is_floating)));
          grows = omega (arith, inv.grows);
          most = omega (arith, w.most);
          inside = omega arith;
          ahead = omega (arith, inv.ahead);
        }
