-- The content of a string: byte by byte, its size, and by parts one behind the other.
-- Assumes nothing.
use mathlib.Core.Path.{◌≡◌, refl, sym, ap, ◌∙◌, subst}
use mathlib.Core.Bool.{Bool, true, false}
use mathlib.Core.Logic.{◌⊎◌, inl, inr}
use mathlib.Core.List.{List, [], ◌∷◌, ◌++◌, append-nil}
use Prim.Native.Nat.{ℕ, ◌+◌, ◌-◌, ◌*◌, ◌^◌, ◌≤◌, ◌<◌}
use native.Mathlib.Omega.{arith}
use lib.Dec.{ltb}
use lib.ListN.{length, take, set, get_or, drop}
use lib.Seq.{take-add}
use mir.Syntax.{w64 as bits64}
use mir.Val.{Fits}
use borrow.Author.Tests.{ltb-false, lt-ltb, le-ltb, eq-eqb, ne_eqb, ltb-true}
use Rattle.cbor.specs.Ascii.{ascii}
use Rattle.notation.specs.Printing.{hex_byte_of, hex_of, escape_of, escaped_of}
use Rattle.text_output.specs.PrintParts.{Prints, content_of}
use Rattle.plain_bytes.specs.Runs.{AllPlain, PlainRun}
use Rattle.string_output.specs.Blocks.{Beyond}
use Rattle.text_output.proofs.PrintLeaves.{prints-more, prints_as, prints-none, put_in, take_next, take_whole}
use Rattle.plain_bytes.proofs.PlainRuns.{escaped_append, content_plain}
use Rattle.hex_output.proofs.HexCode.{hex-append}

-- BYTE BY BYTE

module _ {b b₁ b₂ : List ℕ} {pos p q : ℕ} where
  pub two : {v w : ℕ} → Prints b b₁ pos (v ∷ []) p → Prints b₁ b₂ p (w ∷ []) q → Prints b b₂ pos (v ∷ w ∷ []) q
  two f g = prints-more f g

module _ {b b₁ : List ℕ} {c pos p : ℕ} where
  pub escape-marked : (c ≡ 0x22) ⊎ (c ≡ 0x5c) → Prints b b₁ pos (0x5c ∷ c ∷ []) p → Prints b b₁ pos (escape_of c) p
  unfolding escape_of
  escape-marked (inl e) f = prints_as (sym (rw (eq-eqb c 0x22 e, escape_of))) f
  escape-marked (inr e) f = let n : c ≡ 0x22 → ⊥ = λ z. absurd (omega arith) in prints_as (sym (rw (ne_eqb c 0x22 n, eq-eqb c 0x5c e, escape_of))) f

  pub escape-low : {b₂ : List ℕ} {q : ℕ} → c < 0x20 → Prints b b₁ pos (ascii "\\u00") p → Prints b₁ b₂ p (hex_byte_of c) q → Prints b b₂ pos (escape_of c) q
  unfolding escape_of
  escape-low h f g =
      let n : c ≡ 0x22 → ⊥ = λ z. absurd (omega arith) in
      let m : c ≡ 0x5c → ⊥ = λ z. absurd (omega arith) in
      prints_as (sym (rw (ne_eqb c 0x22 n, ne_eqb c 0x5c m, escape_of) (rw (lt-ltb c 0x20 h)))) (prints-more f g)

  pub escape-none : ((c ≡ 0x22) ⊎ (c ≡ 0x5c) → ⊥) → 0x20 ≤ c → Prints b b₁ pos (c ∷ []) p → Prints b b₁ pos (escape_of c) p
  unfolding escape_of
  escape-none k h f =
      let n : c ≡ 0x22 → ⊥ = λ e. k (inl e) in
      let m : c ≡ 0x5c → ⊥ = λ e. k (inr e) in
      prints_as (sym (rw (ne_eqb c 0x22 n, ne_eqb c 0x5c m, escape_of) (rw (le-ltb c 0x20 h)))) f

pub ruleset escape_ways = (escape-marked, escape-low, escape-none)

module _ {b b₁ : List ℕ} {t : Bool} {pos p : ℕ} (c : ℕ) where
  pub content-text : t ≡ true → Prints b b₁ pos (escape_of c) p → Prints b b₁ pos (content_of t (c ∷ [])) p
  unfolding content_of escaped_of
  content-text e f = rw e (prints_as (sym (append-nil (escape_of c))) f)

  pub content-bytes : t ≡ false → Prints b b₁ pos (hex_byte_of c) p → Prints b b₁ pos (content_of t (c ∷ [])) p
  unfolding content_of hex_of
  content-bytes e f = rw e (prints_as (sym (append-nil (hex_byte_of c))) f)

pub ruleset content_ways = (content-text, content-bytes)

pub content-append : (t : Bool) (x y : List ℕ) → content_of t (x ++ y) ≡ content_of t x ++ content_of t y
unfolding content_of
content-append true x y = escaped_append x y
content-append false x y = hex-append x y

content_nil : (t : Bool) → [] ≡ content_of t []
unfolding content_of escaped_of hex_of
content_nil true = refl
content_nil false = refl

-- what stands before i is printed as the content of a string
pub record Filled (t : Bool) (s b₀ : List ℕ) (pos i p : ℕ) (b : List ℕ) : Type 0 where
  pub done : Prints b₀ b pos (content_of t (take i s)) p

module _ {t : Bool} {s b : List ℕ} {pos : ℕ} where
  pub fill_start : length b * 1 < 2 ^ 63 → Fits bits64 pos → Filled t s b pos 0 pos b
  fill_start h u = record { done = prints_as (content_nil t) (prints-none h u) }

  module _ {b' : List ℕ} {i p : ℕ} (inv : Filled t s b pos i p b') where
    pub fill_step : {c : List ℕ} {q : ℕ} → i < length s → Prints b' c p (content_of t (get_or s i 0 ∷ [])) q → Filled t s b pos (i + 1) q c
    fill_step h f =
        let e : content_of t (take i s) ++ content_of t (get_or s i 0 ∷ []) ≡ content_of t (take (i + 1) s) = sym (ap (content_of t) (take_next s i h) ∙ content-append t (take i s) (get_or s i 0 ∷ [])) in
        record { done = prints_as e (prints-more inv.done f) }

    pub fill_end : length s ≤ i → Prints b b' pos (content_of t s) p
    fill_end h = prints_as (ap (content_of t) (take_whole s i h)) inv.done

-- COPIES

pub record CopiedTo (s b₀ : List ℕ) (pos i : ℕ) (b : List ℕ) : Type 0 where
  pub done : Prints b₀ b pos (take i s) (pos + i)

module _ {s b : List ℕ} {pos : ℕ} where
  pub to_start : length b * 1 < 2 ^ 63 → pos + length s ≤ length b → CopiedTo s b pos 0 b
  to_start l h = let z : pos ≡ pos + 0 = omega arith in record { done = subst (Prints b b pos []) z (prints-none l (record { fits = omega arith })) }

  module _ {b' : List ℕ} {i : ℕ} (inv : CopiedTo s b pos i b') where
    pub to_on : length b * 1 < 2 ^ 63 → pos + length s ≤ length b → i < length s → CopiedTo s b pos (i + 1) (set b' (pos + i) (get_or s i 0))
    to_on l h k =
        let e = inv.done.same in
        let z : pos + i + 1 ≡ pos + (i + 1) = omega arith in
        record { done = rw z at (prints_as (sym (take_next s i k)) (prints-more inv.done (put_in (omega arith) (omega arith)))) }

    pub to_end : i ≤ length s → length s ≤ i → Prints b b' pos s (pos + length s)
    to_end g h =
        let z : pos + i ≡ pos + length s = omega arith in
        rw z at (prints_as (take_whole s i h) inv.done)

module _ {s b b' : List ℕ} {pos r : ℕ} where
  pub run-copied : AllPlain s → Prints b b' pos s r → Prints b b' pos (content_of true s) r
  run-copied p f = prints_as (content_plain p) f

-- PARTS OF A TEXT, one behind the other

take_part : (s : List ℕ) (i e : ℕ) → i ≤ e → take e s ≡ take i s ++ take (e - i) (drop i s)
take_part s i e h = let z : e ≡ i + (e - i) = omega arith in ap (λ (n : ℕ). take n s) z ∙ take-add i (e - i) s

pub fill_part : {t : Bool} {s b b' c : List ℕ} {pos i p e q : ℕ} → Filled t s b pos i p b' → i ≤ e → Prints b' c p (content_of t (take (e - i) (drop i s))) q → Filled t s b pos e q c
fill_part {t} {s} {i = i} {e = e} inv h f =
    record { done = prints_as (sym (ap (content_of t) (take_part s i e h) ∙ content-append t (take i s) (take (e - i) (drop i s)))) (prints-more inv.done f) }

module _ {s b b₁ b₂ b₃ : List ℕ} {pos i p e q n r : ℕ} (inv : Filled true s b pos i p b₁) (run : PlainRun s i e) (f : Prints b₁ b₂ p (content_of true (take (e - i) (drop i s))) q) (bl : Beyond e (length s) n) where
  pub fill_on : Prints b₂ b₃ q (content_of true (take (n - e) (drop e s))) r → Filled true s b pos n r b₃
  fill_on g = fill_part (fill_part inv run.ahead f) bl.behind g

pub fill_less : {s : List ℕ} {i e n : ℕ} → i < length s → PlainRun s i e → Beyond e (length s) n → length s - n < length s - i
fill_less {s} {i} {e} {n} h r b = by (ltb e (length s)) refl
  where
    by : (t : Bool) → ltb e (length s) ≡ t → length s - n < length s - i
    by true q = omega (arith, b.ahead (ltb-true e (length s) q), r.ahead, b.inside)
    by false q = omega (arith, ltb-false e (length s) q, b.behind, b.inside)
