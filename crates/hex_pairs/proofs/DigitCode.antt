-- Hexadecimal digits: which bytes they are, and what one or two of them at the front of a text stand for.
-- Assumes nothing.
use mathlib.Core.Path.{◌≡◌, refl, sym, ap, ◌∙◌}
use mathlib.Core.List.{List, [], ◌∷◌}
use mathlib.Core.Bool.{Bool, true, false, ◌||◌}
use Prim.Native.Nat.{ℕ, ◌+◌, ◌-◌, ◌*◌, ◌/◌, ◌%◌, ◌≤◌, ◌<◌}
use native.Mathlib.Omega.{arith}
use lib.Dec.{T, leb, ltb, eqb, eqb→eq}
use lib.ListN.{length, get_or, replicate}
use borrow.Author.Tests.{leb-true, leb-false, ltb-true}
use Rattle.cbor.specs.Utf8.{is_in}
use Rattle.cbor.proofs.Table.{every, byte}
use Rattle.notation.specs.Classes.{blank, slash, hash, class_number, class_rows, class_in, class_of, is}
use Rattle.notation.specs.Numbers.{Digit, worth, no_digit, digit_at, is_digit, digit_value}
use Rattle.notation.specs.Literals.{Content, after, bad, no_comment, in_slash, in_hash, Half, no_half, high, hex_digit, hex_from, hex_content}
use Rattle.scanning.specs.Stands.{span}
use Rattle.literal_body.specs.LiteralReading.{Yields}
use Rattle.literal_body.proofs.LiteralCode.{true_false}
use Rattle.literal_body.proofs.MatchCode.{range_above}
use Rattle.literal_body.proofs.ReadingCode.{span-step}

not_none : (t : Bool) → T (elim t [ true ↦ false | false ↦ true ]) → t ≡ false
not_none true x = absurd x
not_none false x = refl

module _ (b : ℕ) where
  pub digit-small : is_digit 16 b ≡ true → digit_value b < 16
  unfolding is_digit digit_value
  digit-small = go (digit_at b)
    where
      go : (d : Digit) → ◌≡◌ {A = Bool} (elim d [ worth v ↦ ltb v 16 | no_digit ↦ false ]) true → elim d [ worth v ↦ v | no_digit ↦ 0 ] < 16
      go (worth v) e = ltb-true v 16 e
      go no_digit e = absurd (true_false (sym e))

  digit-above : 0x66 < b → is_digit 16 b ≡ false
  unfolding is_digit
  digit-above h =
      let e₁ = range_above 0x30 0x39 b (omega arith) in
      let e₂ = range_above 0x61 0x66 b h in
      let e₃ = range_above 0x41 0x46 b (omega arith) in
      λ j. by (e₁ j) (e₂ j) (e₃ j)
    where
      by : Bool → Bool → Bool → Bool
      by t u v =
          let d : Digit = elim t [ true ↦ worth (b - 0x30) | false ↦ elim u [ true ↦ worth (b - 0x57) | false ↦ elim v [ true ↦ worth (b - 0x37) | false ↦ no_digit ] ] ] in
          elim d [ worth w ↦ ltb w 16 | no_digit ↦ false ]

  digit-byte : is_digit 16 b ≡ true → b < 256
  digit-byte e = go (leb b 0x66) refl
    where
      go : (t : Bool) → leb b 0x66 ≡ t → b < 256
      go true q = let l = leb-true b 0x66 q in omega arith
      go false q = absurd (true_false (sym e ∙ digit-above (leb-false b 0x66 q)))

  -- a test that passes at each digit
  at-digit : (f : ℕ → Bool) → T (every (λ k x. elim (is_digit 16 k) [ true ↦ f k | false ↦ true ]) 0 (replicate 256 0)) → is_digit 16 b ≡ true → T (f b)
  at-digit f t e = rw e at (byte (λ k. elim (is_digit 16 k) [ true ↦ f k | false ↦ true ]) t b (digit-byte e))

  pub digit_value_lem : is_digit 16 b ≡ true → b % 16 + b / 64 * 9 ≡ digit_value b
  unfolding is_digit digit_value is_in
  digit_value_lem e = eqb→eq (b % 16 + b / 64 * 9) (digit_value b) (at-digit (λ k. eqb (k % 16 + k / 64 * 9) (digit_value k)) tt e)

  -- it is no blank and begins no comment
  no_gap : is_digit 16 b ≡ true → is blank b || (is slash b || is hash b) ≡ false
  unfolding is_digit is class_number class_of class_in class_rows is_in
  no_gap e = not_none (is blank b || (is slash b || is hash b)) (at-digit (λ k. elim (is blank k || (is slash k || is hash k)) [ true ↦ false | false ↦ true ]) tt e)

  pub digit-front : (h : Half) (s : List ℕ) → is_digit 16 b ≡ true → hex_from no_comment h (b ∷ s) ≡ hex_digit h (digit_value b) (λ h'. hex_from no_comment h' s)
  unfolding hex_from
  digit-front h s e = go (is blank b) (is slash b) (is hash b) (is_digit 16 b) (no_gap e) e
    where
      go : (t u v w : Bool) → t || (u || v) ≡ false → w ≡ true → ◌≡◌ {A = Content}
          (elim t [
            | true ↦ hex_from no_comment h s
            | false ↦ elim u [ true ↦ hex_from in_slash h s | false ↦ elim v [ true ↦ hex_from in_hash h s | false ↦ elim w [ true ↦ hex_digit h (digit_value b) (λ h'. hex_from no_comment h' s) | false ↦ bad ] ] ]
          ])
          (hex_digit h (digit_value b) (λ h'. hex_from no_comment h' s))
      go true u v w e₁ e₂ = absurd (true_false e₁)
      go false true v w e₁ e₂ = absurd (true_false e₁)
      go false false true w e₁ e₂ = absurd (true_false e₁)
      go false false false true e₁ e₂ = refl
      go false false false false e₁ e₂ = absurd (true_false (sym e₂))

-- a digit, then perhaps blanks, then another
pub two_digits : (a b : ℕ) (s t : List ℕ) → is_digit 16 a ≡ true → is_digit 16 b ≡ true → ((h : Half) → hex_from no_comment h s ≡ hex_from no_comment h (b ∷ t))
    → hex_content (a ∷ s) ≡ after ((digit_value a * 16 + digit_value b) ∷ []) (hex_content t)
unfolding hex_content hex_digit
two_digits a b s t p q f = digit-front a no_half s p ∙ f (high (digit_value a)) ∙ digit-front b (high (digit_value a)) t q

pub pair-yields : (s : List ℕ) (i stop : ℕ) → i + 2 ≤ stop → stop ≤ length s → is_digit 16 (get_or s i 0) ≡ true → is_digit 16 (get_or s (i + 1) 0) ≡ true
    → Yields hex_content s stop i (i + 2) ((digit_value (get_or s i 0) * 16 + digit_value (get_or s (i + 1) 0)) ∷ [])
pair-yields s i stop h l p q =
    let e : i + 1 + 1 ≡ i + 2 = omega arith in
    let f : span (i + 1) stop s ≡ get_or s (i + 1) 0 ∷ span (i + 2) stop s = span-step s (i + 1) stop (omega arith) l ∙ ap (λ (k : ℕ). get_or s (i + 1) 0 ∷ span k stop s) e in
    record {
      is = ap hex_content (span-step s i stop (omega arith) l)
          ∙ two_digits (get_or s i 0) (get_or s (i + 1) 0) (span (i + 1) stop s) (span (i + 2) stop s) p q (λ h'. ap (hex_from no_comment h') f);
      ahead = omega arith;
      inside = omega arith;
      short = omega arith;
    }
