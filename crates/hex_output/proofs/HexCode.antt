-- Hexadecimal: a digit, a byte, and pairs of digits one behind the other.
-- Assumes nothing.
use mathlib.Core.Path.{◌≡◌, refl, sym, ap, ◌∙◌, subst}
use mathlib.Core.Bool.{Bool, true, false}
use mathlib.Core.List.{List, [], ◌∷◌, ◌++◌, append_assoc, append-nil}
use Prim.Native.Nat.{ℕ, ◌+◌, ◌*◌, ◌/◌, ◌%◌, ◌^◌, ◌≤◌, ◌<◌}
use native.Mathlib.Omega.{arith}
use lib.Dec.{ltb}
use lib.ListN.{length, take, set, get_or, length-set}
use mir.Syntax.{w8 as bits8}
use mir.Val.{Fits}
use Rattle.notation.specs.Printing.{hex_digit_of, hex_byte_of, hex_of}
use Rattle.text_output.specs.PrintParts.{Prints, content_of}
use Rattle.hex_output.specs.HexLetters.{letters_at}
use Rattle.text_output.proofs.PrintLeaves.{prints-more, prints_as, prints-none, put_in, take_next, take_whole}

-- DIGITS

letters_few : (v : ℕ) → letters_at v ≤ 39
unfolding letters_at
letters_few v = go (ltb v 10)
  where
    go : (t : Bool) → elim t [ true ↦ 0 | false ↦ 39 ] ≤ 39
    go true = omega arith
    go false = omega arith

module _ (v : ℕ) {x : ℕ} (e : x ≡ letters_at v) where
  pub hex-fits : v < 16 → Fits bits8 (0x30 + v + x)
  hex-fits h = record { fits = omega (arith, letters_few v) }

  pub hex-is : 0x30 + v + x ≡ hex_digit_of v
  unfolding hex_digit_of letters_at
  hex-is = go (ltb v 10) e
    where
      go : (t : Bool) → x ≡ elim t [ true ↦ 0 | false ↦ 39 ] → 0x30 + v + x ≡ elim t [ true ↦ 0x30 + v | false ↦ 0x57 + v ]
      go true f = omega arith
      go false f = omega arith

module _ {b b₁ b₂ : List ℕ} {pos p q : ℕ} where
  pub hex_two : (c : ℕ) {v w : ℕ} → v ≡ hex_digit_of (c / 16) → w ≡ hex_digit_of (c % 16) → Prints b b₁ pos (v ∷ []) p → Prints b₁ b₂ p (w ∷ []) q → Prints b b₂ pos (hex_byte_of c) q
  unfolding hex_byte_of
  hex_two c e h f g = prints_as (λ j. e j ∷ h j ∷ []) (prints-more f g)

pub hex-append : (x y : List ℕ) → hex_of (x ++ y) ≡ hex_of x ++ hex_of y
unfolding hex_of
hex-append [] y = refl
hex-append (b ∷ x) y = rw (hex-append x y, append_assoc (hex_byte_of b) (hex_of x) (hex_of y))

pub hex-length : (s : List ℕ) → length (hex_of s) ≡ length s * 2
unfolding hex_of hex_byte_of
hex-length [] = refl
hex-length (b ∷ s) = let e = hex-length s in omega arith

-- PAIRS

pub record Pairs (s b₀ : List ℕ) (pos i : ℕ) (b : List ℕ) : Type 0 where
  pub done : Prints b₀ b pos (hex_of (take i s)) (pos + 2 * i)

hex-next : (s : List ℕ) (i : ℕ) → i < length s → hex_of (take (i + 1) s) ≡ hex_of (take i s) ++ hex_byte_of (get_or s i 0)
unfolding hex_of
hex-next s i h = ap hex_of (take_next s i h) ∙ hex-append (take i s) (get_or s i 0 ∷ []) ∙ ap (λ (x : List ℕ). hex_of (take i s) ++ x) (append-nil (hex_byte_of (get_or s i 0)))

module _ {s b : List ℕ} {pos : ℕ} where
  pub pairs_start : length b * 1 < 2 ^ 63 → pos + 2 * length s ≤ length b → Pairs s b pos 0 b
  unfolding hex_of
  pairs_start l h = let z : pos ≡ pos + 2 * 0 = omega arith in record { done = subst (Prints b b pos []) z (prints-none l (record { fits = omega arith })) }

  module _ {b' : List ℕ} {i : ℕ} (inv : Pairs s b pos i b') where
    pub pairs-on : {v w : ℕ} → length b * 1 < 2 ^ 63 → pos + 2 * length s ≤ length b → i < length s → v ≡ hex_digit_of (get_or s i 0 / 16) → w ≡ hex_digit_of (get_or s i 0 % 16)
        → Pairs s b pos (i + 1) (set (set b' (pos + 2 * i) v) (pos + 2 * i + 1) w)
    unfolding hex_byte_of
    pairs-on {v} {w} l h k ev ew =
        let e = inv.done.same in
        let z : pos + 2 * i + 1 + 1 ≡ pos + 2 * (i + 1) = omega arith in
        let q = length-set b' (pos + 2 * i) v in
        let two : Prints b' (set (set b' (pos + 2 * i) v) (pos + 2 * i + 1) w) (pos + 2 * i) (hex_byte_of (get_or s i 0)) (pos + 2 * i + 1 + 1)
        = prints_as (λ j. ev j ∷ ew j ∷ []) (prints-more (put_in (omega arith) (omega arith)) (put_in (omega arith) (omega arith))) in
        record { done = rw z at (prints_as (sym (hex-next s i k)) (prints-more inv.done two)) }

    pub pairs_end : i ≤ length s → length s ≤ i → Prints b b' pos (content_of false s) (pos + 2 * length s)
    unfolding content_of
    pairs_end g h =
        let z : pos + 2 * i ≡ pos + 2 * length s = omega arith in
        rw z at (prints_as (ap hex_of (take_whole s i h)) inv.done)
