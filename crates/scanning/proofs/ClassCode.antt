-- The class of a byte: the table's rule, and tests of single classes; each is one test of all bytes, which antt computes.
-- Assumes nothing.
use mathlib.Core.Path.{◌≡◌, refl, sym, ◌∙◌}
use mathlib.Core.List.{List}
use mathlib.Core.Bool.{Bool, true, false, ◌||◌}
use Prim.Native.Nat.{ℕ, ◌-◌, ◌≤◌, ◌<◌}
use native.Mathlib.Omega.{arith}
use lib.Dec.{T, eqb, eqb→eq}
use lib.ListN.{length, get_or, replicate}
use borrow.Author.Tests.{le-leb, lt-leb, ne_eqb}
use Rattle.cbor.specs.Utf8.{is_in}
use Rattle.cbor.proofs.Table.{every, at, between}
use Rattle.notation.specs.Classes.{blank, slash, hash, class_number, class_rows, class_in, class_of, is, is_word}
use Rattle.notation.specs.Scanning.{is_comment}
use Rattle.scanning.specs.ScanAnswers.{InComment}

unfoldable pub right : ℕ → ℕ → Bool
right k x = eqb x (class_number (class_of k))

-- so every table that passes the test has the rule
pub class_rule : (table : List ℕ) → T (every right 0 table) → (b : ℕ) → b < length table → get_or table b 0 ≡ class_number (class_of b)
unfolding right
class_rule table t b h = eqb→eq (get_or table b 0) (class_number (class_of b)) (at right table t b h)

-- a test of two bools
pub same : Bool → Bool → Bool
same true true = true
same true false = false
same false true = false
same false false = true

pub same-is : (a b : Bool) → T (same a b) → a ≡ b
unfolding same
same-is true true t = refl
same-is true false t = absurd t
same-is false true t = absurd t
same-is false false t = refl

-- SINGLE CLASSES, by the bytes that have them

is_blank : ℕ → Bool
is_blank b = eqb b 0x09 || (eqb b 0x0a || (eqb b 0x0d || eqb b 0x20))

module _ (b : ℕ) (h : b ≤ 256) where
  blank-is : is blank b ≡ is_blank b
  unfolding is class_number class_of class_in class_rows is_in is_blank same
  blank-is = same-is (is blank b) (is_blank b) (between (λ k. same (is blank k) (is_blank k)) 0 257 tt b (omega arith) (omega arith))

  pub slash-at : is slash b ≡ eqb b 0x2f
  unfolding is class_number class_of class_in class_rows is_in same
  slash-at = same-is (is slash b) (eqb b 0x2f) (between (λ k. same (is slash k) (eqb k 0x2f)) 0 257 tt b (omega arith) (omega arith))

  pub hash_at : is hash b ≡ eqb b 0x23
  unfolding is class_number class_of class_in class_rows is_in same
  hash_at = same-is (is hash b) (eqb b 0x23) (between (λ k. same (is hash k) (eqb k 0x23)) 0 257 tt b (omega arith) (omega arith))

module _ {b : ℕ} where
  pub blank_tabs : 0x09 ≤ b → b < 0x0b → true ≡ is blank b
  unfolding is class_number class_of class_in class_rows is_in same
  blank_tabs l h = same-is true (is blank b) (between (λ k. same true (is blank k)) 0x09 0x0b tt b l h)

  pub blank_return : b ≡ 0x0d → true ≡ is blank b
  unfolding is class_number class_of class_in class_rows is_in
  blank_return e = rw e

  pub blank-space : b ≡ 0x20 → true ≡ is blank b
  unfolding is class_number class_of class_in class_rows is_in
  blank-space e = rw e

  pub blank_none : b < 256 → (b ≡ 0x09 → ⊥) → (b ≡ 0x0a → ⊥) → (b ≡ 0x0d → ⊥) → (b ≡ 0x20 → ⊥) → false ≡ is blank b
  unfolding is_blank
  blank_none h n₁ n₂ n₃ n₄ = sym (blank-is b (omega arith) ∙ simp (is_blank, ne_eqb b 0x09 n₁, ne_eqb b 0x0a n₂, ne_eqb b 0x0d n₃, ne_eqb b 0x20 n₄))

-- WORDS: between two bounds all bytes are in them, or none

module _ {b : ℕ} where
  word_as : (t : Bool) (low high : ℕ) → T (every (λ k x. same t (is_word k)) low (replicate (high - low) 0)) → low ≤ b → b < high → t ≡ is_word b
  word_as t low high all l h = same-is t (is_word b) (between (λ k. same t (is_word k)) low high all b l h)

  pub word_below : b < 0x30 → false ≡ is_word b
  unfolding is_word is class_number class_of class_in class_rows is_in same
  word_below h = word_as false 0 0x30 tt (omega arith) h

  pub word-digit : 0x30 ≤ b → b < 0x3a → true ≡ is_word b
  unfolding is_word is class_number class_of class_in class_rows is_in same
  word-digit l h = word_as true 0x30 0x3a tt l h

  pub word-between : 0x3a ≤ b → b < 0x41 → false ≡ is_word b
  unfolding is_word is class_number class_of class_in class_rows is_in same
  word-between l h = word_as false 0x3a 0x41 tt l h

  pub word_upper : 0x41 ≤ b → b < 0x5b → true ≡ is_word b
  unfolding is_word is class_number class_of class_in class_rows is_in same
  word_upper l h = word_as true 0x41 0x5b tt l h

  pub word_beyond : 0x5b ≤ b → b < 0x61 → false ≡ is_word b
  unfolding is_word is class_number class_of class_in class_rows is_in same
  word_beyond l h = word_as false 0x5b 0x61 tt l h

  pub word_lower : 0x61 ≤ b → b < 0x7b → true ≡ is_word b
  unfolding is_word is class_number class_of class_in class_rows is_in same
  word_lower l h = word_as true 0x61 0x7b tt l h

  pub word-above : 0x7b ≤ b → b < 256 → false ≡ is_word b
  unfolding is_word is class_number class_of class_in class_rows is_in same
  word-above l h = word_as false 0x7b 256 tt l h

pub ruleset word_ways = (word_below, word-digit, word-between, word_upper, word_beyond, word_lower, word-above)

-- COMMENTS

module _ {b : ℕ} where
  pub comment_high : 0x20 ≤ b → b < 256 → InComment b true
  unfolding is_comment
  comment_high h l = record { is = rw (le-leb 0x20 b h, le-leb b 0xff (omega arith)) (rest (is blank b)); byte = l }
    where
      rest : (t : Bool) → true ≡ (t || true)
      rest true = refl
      rest false = refl

  pub comment_low : {t : Bool} → b < 0x20 → t ≡ is blank b → InComment b t
  unfolding is_comment
  comment_low {t} h e = record { is = e ∙ rw (lt-leb 0x20 b h) (rest (is blank b)); byte = omega arith }
    where
      rest : (u : Bool) → u ≡ (u || false)
      rest true = refl
      rest false = refl

pub ruleset comment_ways = (comment_high, comment_low)
