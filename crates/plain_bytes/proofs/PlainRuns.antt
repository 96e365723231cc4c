-- Contents by blocks: how many bytes they take, and runs of bytes that stand for themselves.
-- Assumes nothing.
use mathlib.Core.Path.{◌≡◌, refl, sym}
use mathlib.Core.Bool.{Bool, true, false, not, ◌||◌}
use mathlib.Core.List.{List, [], ◌∷◌, ◌++◌, append_assoc}
use Prim.Native.Nat.{ℕ, suc, ◌+◌, ◌-◌, ◌≤◌, ◌<◌, max}
use native.Mathlib.Omega.{arith}
use lib.Dec.{ltb, eqb}
use lib.ListN.{length, take, get_or, drop, length-take, length-drop}
use lib.Seq.{get_or-take, get_or-drop}
use mir.Syntax.{w8 as bits8}
use mir.Val.{Fits}
use borrow.Author.Tests.{ltb-false, ltb-true, eqb-true, not-false}
use Rattle.cbor.specs.Ascii.{ascii}
use Rattle.notation.specs.Printing.{hex_byte_of, escape_of, escaped_of}
use Rattle.text_output.specs.PrintParts.{content_of}
use Rattle.plain_bytes.specs.Runs.{more_below, more_at, More, AllPlain, Plain, PlainRun}
use borrow.Author.Count.{below_more}

-- ONE BYTE

module _ (b : ℕ) {x y z : ℕ} (ex : x ≡ more_below b) (ey : y ≡ more_at b 0x22) (ez : z ≡ more_at b 0x5c) where
  sums : (1 + (x + y + z) ≡ length (escape_of b)) × (x + y + z ≤ 5)
  unfolding more_below more_at escape_of hex_byte_of
  sums = by (ltb b 0x20) (eqb b 0x22) (eqb b 0x5c) refl refl refl ex ey ez
    where
      by : (p q r : Bool) → ltb b 0x20 ≡ p → eqb b 0x22 ≡ q → eqb b 0x5c ≡ r → x ≡ elim p [ true ↦ 5 | false ↦ 0 ] → y ≡ elim q [ true ↦ 1 | false ↦ 0 ] → z ≡ elim r [ true ↦ 1 | false ↦ 0 ]
          → (1 + (x + y + z) ≡ length (escape_of b)) × (x + y + z ≤ 5)
      by true true r p q s a c e = absurd (omega (arith, ltb-true b 0x20 p, eqb-true b 0x22 q))
      by true false true p q s a c e = absurd (omega (arith, ltb-true b 0x20 p, eqb-true b 0x5c s))
      by true false false p q s a c e = (rw (q, s, escape_of) (rw p (omega arith)), omega arith)
      by false true true p q s a c e = absurd (omega (arith, eqb-true b 0x22 q, eqb-true b 0x5c s))
      by false true false p q s a c e = (rw (q, escape_of) (omega arith), omega arith)
      by false false true p q s a c e = (rw (q, s, escape_of) (omega arith), omega arith)
      by false false false p q s a c e = (rw (q, s, escape_of) (rw p (omega arith)), omega arith)

  pub more-is : More b (x + y + z)
  more-is = record { is = sums.0; small = sums.1 }

  pub more-fits : Fits bits8 (x + y + z)
  more-fits = record { fits = omega (arith, sums.1) }

pub below-fits : (b : ℕ) {x y : ℕ} → x ≡ more_below b → y ≡ more_at b 0x22 → Fits bits8 (x + y)
unfolding more_below more_at
below-fits b {x} {y} ex ey = by (ltb b 0x20) (eqb b 0x22) ex ey
  where
    by : (p q : Bool) → x ≡ elim p [ true ↦ 5 | false ↦ 0 ] → y ≡ elim q [ true ↦ 1 | false ↦ 0 ] → Fits bits8 (x + y)
    by true true a c = record { fits = omega arith }
    by true false a c = record { fits = omega arith }
    by false true a c = record { fits = omega arith }
    by false false a c = record { fits = omega arith }

pub escaped_append : (x y : List ℕ) → escaped_of (x ++ y) ≡ escaped_of x ++ escaped_of y
unfolding escaped_of
escaped_append [] y = refl
escaped_append (b ∷ x) y = rw (escaped_append x y, append_assoc (escape_of b) (escaped_of x) (escaped_of y))

-- RUNS

-- a byte that takes one stands for itself
plain_byte : (b : ℕ) → length (escape_of b) ≡ 1 → escape_of b ≡ b ∷ []
unfolding escape_of hex_byte_of
plain_byte b h = by (eqb b 0x22 || eqb b 0x5c) (ltb b 0x20) h
  where
    by : (p q : Bool) → length {A = ℕ} (elim p [ true ↦ 0x5c ∷ b ∷ [] | false ↦ elim q [ true ↦ ascii "\\u00" ++ hex_byte_of b | false ↦ b ∷ [] ] ]) ≡ 1
        → elim p [ true ↦ 0x5c ∷ b ∷ [] | false ↦ elim q [ true ↦ ascii "\\u00" ++ hex_byte_of b | false ↦ b ∷ [] ] ] ≡ b ∷ []
    by true q e = absurd (omega arith)
    by false true e = absurd (omega arith)
    by false false e = refl

plain_all : (s : List ℕ) → ((j : ℕ) → j < length s → length (escape_of (get_or s j 0)) ≡ 1) → escaped_of s ≡ s
unfolding escaped_of
plain_all [] f = refl
plain_all (b ∷ s) f = let e = plain_all s (λ j h. f (suc j) (omega arith)) in let g = plain_byte b (f 0 (omega arith)) in λ z. g z ++ e z

pub content_plain : {s : List ℕ} → AllPlain s → s ≡ content_of true s
unfolding content_of
content_plain {s} p = sym (plain_all s p.is)

-- none of the first i bytes takes more than 1 + m
pub record Most (s : List ℕ) (i m : ℕ) : Type 0 where
  pub is : m ≡ 0 → (j : ℕ) → j < i → length (escape_of (get_or s j 0)) ≡ 1

pub most-start : {s : List ℕ} → Most s 0 0
most-start = record { is = λ e j h. absurd (omega arith) }

pub most-on : {s : List ℕ} {i m : ℕ} → Most s i m → {x k : ℕ} → More (get_or s i 0) x → k ≡ max m x → Most s (i + 1) k
most-on {s} {i} {m} inv {x} {k} w e =
    record {
      is = λ z. below_more (λ j. length (escape_of (get_or s j 0)) ≡ 1) i (λ j h. inv.is (omega arith) j h) (omega (arith, w.is));
    }

pub most-end : {s : List ℕ} {i m : ℕ} → Most s i m → length s ≤ i → Plain s (eqb m 0)
most-end {s} {i} {m} inv h = record { is = λ e. record { is = λ j l. inv.is (eqb-true m 0 e) j (omega arith) } }

module _ {s : List ℕ} where
  pub run-start : {at : ℕ} → at ≤ length s → PlainRun s at at
  run-start h = record { is = λ j a b. absurd (omega arith); inside = h; ahead = omega arith }

  module _ {from at : ℕ} (inv : PlainRun s from at) where
    pub run_on : {t : Bool} → 32 ≤ length s - at → Plain (take (at + 32 - at) (drop at s)) t → not t ≡ false → PlainRun s from (at + 32)
    run_on {t} h p y = record { is = is; inside = omega arith; ahead = omega (arith, inv.ahead) }
      where
        is : (j : ℕ) → from ≤ j → j < at + 32 → length (escape_of (get_or s j 0)) ≡ 1
        is j g l = by (ltb j at) refl
          where
            by : (u : Bool) → ltb j at ≡ u → length (escape_of (get_or s j 0)) ≡ 1
            by true e = inv.is j g (ltb-true j at e)
            by false e =
                let k : at ≤ j = ltb-false j at e in
                let z : at + (j - at) ≡ j = omega arith in
                let q : j - at < at + 32 - at = omega arith in
                let w : j - at < length (take (at + 32 - at) (drop at s)) = omega (arith, length-take (at + 32 - at) (drop at s), length-drop at s) in
                let v = (p.is (not-false t y)).is (j - at) w in
                rw z at (rw (get_or-take (at + 32 - at) (drop at s) (j - at) 0 q, get_or-drop at s (j - at) 0) at v)

  pub run_plain : {from at : ℕ} → PlainRun s from at → AllPlain (take (at - from) (drop from s))
  run_plain {from} {at} r =
      record {
        is = λ j h.
            let q : j < at - from = omega (arith, length-take (at - from) (drop from s)) in
            rw (get_or-take (at - from) (drop from s) j 0 q, get_or-drop from s j 0) (r.is (from + j) (omega arith) (omega arith));
      }
