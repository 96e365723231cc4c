-- The lines that the programs write.
-- Assumes nothing.
use Prim.Native.Nat.{ℕ, ◌^◌, ◌≤◌, ◌<◌}
use native.Mathlib.Omega.{arith}
use mir.Syntax.{w8 as bits8, w64 as bits64}
use mir.Val.{Fits}
use mathlib.Core.Path.{◌≡◌}
use mathlib.Core.Bool.{false}
use mathlib.Core.List.{List, [], ◌∷◌}
use lib.ListN.{length, take, length-append, length-take}
use Rattle.cbor.specs.Ascii.{ascii}
use Rattle.cbor.specs.Decode.{most_bytes}
use Rattle.notation.specs.Printing.{decimal_of}
use Rattle.text_output.specs.PrintParts.{Prints, content_of}
use Rattle.text_output.proofs.PrintLeaves.{prints-more}
use Rattle.decimal_output.proofs.DecimalCode.{decimal-length}
use Rattle.hex_output.proofs.HexCode.{hex-length}
use Rattle.operations.specs.Programs.{accepted_line, accepted_lines, at_place, refused_line}
use Rattle.refusal.specs.RefusalKinds.{kind_number}
use Rattle.refusal.specs.declared.Refusal.{Refusal}
use Rattle.report_lines.specs.Reports.{Reports, itself, said_of}
use Rattle.std.specs.Prelude.{Ok, Err}
use Rattle.std.specs.Prelude as std

pub accepted-count : (n : ℕ) {b b₁ b₂ b₃ : List ℕ} {p q r : ℕ} → Prints b b₁ 0 (ascii "accepted ") p → Prints b₁ b₂ p (decimal_of n) q → Prints b₂ b₃ q (0x0a ∷ []) r → Prints b b₃ 0 (accepted_line n) r
unfolding accepted_line
accepted-count n f g h = prints-more f (prints-more g h)

pub accepted_lines_lem : (w : List ℕ) {b b₁ b₂ b₃ : List ℕ} {p q r : ℕ} → Prints b b₁ 0 (accepted_line (length w)) p → Prints b₁ b₂ p (content_of false w) q → Prints b₂ b₃ q (0x0a ∷ []) r
    → Prints b b₃ 0 (accepted_lines w) r
unfolding accepted_lines content_of
accepted_lines_lem w f g h = prints-more f (prints-more g h)

pub at_line : (place : ℕ) {b b₁ b₂ b₃ : List ℕ} {pos p q r : ℕ} → Prints b b₁ pos (ascii " at ") p → Prints b₁ b₂ p (decimal_of place) q → Prints b₂ b₃ q (0x0a ∷ []) r → Prints b b₃ pos (at_place place) r
unfolding at_place
at_line place f g h = prints-more f (prints-more g h)

-- a report whose length is a number of the code
pub reported : {b b' ws : List ℕ} {r : ℕ} → length ws < 2 ^ 64 → Prints b b' 0 ws r → Reports b b' ws r
reported h f = record { same = f.same; size = omega (arith, f.next); is = f.is }

refused-length : (n place : ℕ) → n < 2 ^ 64 → place < 2 ^ 64 → length (refused_line n place) < 2 ^ 64
unfolding refused_line at_place
refused-length n place h k =
    let i = decimal-length 19 n (omega arith) in
    let j = decimal-length 19 place (omega arith) in
    simp length-append (omega arith)

pub refused_line_lem : (n place : ℕ) {b b₁ b₂ b₃ : List ℕ} {k p q r : ℕ} → Fits bits8 k → Fits bits64 place → k ≡ n → Prints b b₁ 0 (ascii "refused ") p → Prints b₁ b₂ p (decimal_of k) q → Prints b₂ b₃ q (at_place place) r → Reports b b₃ (refused_line n place) r
unfolding refused_line
refused_line_lem n place {k = k} u v e f g h = rw e at (reported (refused-length k place (omega arith) (omega arith)) (prints-more f (prints-more g h)))

pub ruleset lines = (accepted-count, accepted_lines_lem, at_line, refused_line_lem)

-- WHAT IS SAID OF AN ANSWER, whose result stands at the front of b
accepted-length : (w : List ℕ) → length w ≤ most_bytes → length (accepted_lines w) < 2 ^ 64
unfolding accepted_lines accepted_line
accepted-length w h =
    let i = decimal-length 19 (length w) (omega arith) in
    let j = hex-length w in
    simp length-append (omega arith)

front_length : (b : List ℕ) → length b ≤ most_bytes → (n : ℕ) → length (take n b) ≤ most_bytes
front_length b l n = rw (length-take n b) (omega arith)

module _ (b : List ℕ) (l : length b ≤ most_bytes) {a : std.Result ℕ Refusal} {o o' : List ℕ} {r : ℕ} where
  pub said-bytes : {n : ℕ} {w : List ℕ} → a ≡ Ok n → w ≡ take n b → Prints o o' 0 (accepted_lines w) r → Reports o o' (said_of accepted_lines a b) r
  unfolding said_of
  said-bytes {n} i e p = rw i (reported (accepted-length (take n b) (front_length b l n)) (rw e at p))

  pub said-text : {n : ℕ} {w : List ℕ} → a ≡ Ok n → w ≡ take n b → Prints o o' 0 w r → Reports o o' (said_of itself a b) r
  unfolding said_of itself
  said-text {n} i e p =
      let k = front_length b l n in
      rw i (reported (omega arith) (rw e at p))

pub said-refused : (lines' : List ℕ → List ℕ) (b : List ℕ) {a : std.Result ℕ Refusal} {o o' : List ℕ} {r : ℕ} {e : Refusal} → a ≡ Err e → Reports o o' (refused_line (kind_number e.kind) e.place) r → Reports o o' (said_of lines' a b) r
unfolding said_of
said-refused lines' b i p = rw i p

pub ruleset said_ways = (said-bytes, said-text, said-refused)
