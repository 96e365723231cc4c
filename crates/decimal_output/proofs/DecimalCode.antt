-- A number, decimal: its digits, how many there are at most, and that they are written.
-- Assumes nothing.
use mathlib.Core.Path.{◌≡◌, refl, sym, ap}
use mathlib.Core.Bool.{Bool, true, false}
use mathlib.Core.List.{List, [], ◌∷◌, ◌++◌}
use Prim.Native.Nat.{ℕ, zero, suc, ◌+◌, ◌-◌, ◌/◌, ◌%◌, ◌^◌, ◌≤◌, ◌<◌}
use native.Mathlib.Numerals.{add-one}
use native.Mathlib.Nat.{pow-suc}
use native.Mathlib.Omega.{arith}
use lib.Dec.{ltb, leb}
use lib.ListN.{length, length-append}
use borrow.Author.Tests.{leb-true, leb-false, ltb-false, lt-ltb, le-ltb}
use Rattle.cbor.specs.Ascii.{ascii}
use Rattle.notation.specs.Printing.{decimal_within, decimal_of}
use Rattle.text_output.specs.PrintParts.{Prints}
use Rattle.text_output.proofs.PrintLeaves.{prints-more, prints_as}

-- DIGITS

pub decimal-one : (n : ℕ) → n < 10 → decimal_of n ≡ (0x30 + n) ∷ []
unfolding decimal_of decimal_within
decimal-one n h = rw (lt-ltb n 10 h, decimal_within)

-- the fuel does not matter
decimal_fuel : (f g n : ℕ) → n < f → n < g → decimal_within f n ≡ decimal_within g n
unfolding decimal_within
decimal_fuel zero g n h k = absurd (omega arith)
decimal_fuel (suc f) zero n h k = absurd (omega arith)
decimal_fuel (suc f) (suc g) n h k = go (ltb n 10) refl (λ a b. decimal_fuel f g (n / 10) a b)
  where
    go : (t : Bool) → ltb n 10 ≡ t → (n / 10 < f → n / 10 < g → decimal_within f (n / 10) ≡ decimal_within g (n / 10))
        → ◌≡◌ {A = List ℕ} (elim t [ true ↦ (0x30 + n) ∷ [] | false ↦ decimal_within f (n / 10) ++ (0x30 + n % 10) ∷ [] ]) (elim t [ true ↦ (0x30 + n) ∷ [] | false ↦ decimal_within g (n / 10) ++ (0x30 + n % 10) ∷ [] ])
    go true e r = refl
    go false e r =
        let l = ltb-false n 10 e in
        let a : n / 10 < f = omega arith in
        let b : n / 10 < g = omega arith in
        ap (λ (x : List ℕ). x ++ (0x30 + n % 10) ∷ []) (r a b)

pub decimal-more : (n : ℕ) → 10 ≤ n → decimal_of n ≡ decimal_of (n / 10) ++ (0x30 + n % 10) ∷ []
unfolding decimal_of decimal_within
decimal-more n h =
    let a : n / 10 < n = omega arith in
    let b : n / 10 < suc (n / 10) = omega arith in
    rw (le-ltb n 10 h, decimal_within) (ap (λ (x : List ℕ). x ++ (0x30 + n % 10) ∷ []) (decimal_fuel n (suc (n / 10)) (n / 10) a b))

-- how many digits it has at most
pub decimal-length : (k n : ℕ) → n < 10 ^ suc k → length (decimal_of n) ≤ suc k
decimal-length zero n h = let d = decimal-one n (omega arith) in rw d (omega arith)
decimal-length (suc k) n h = go (leb 10 n) refl (λ l. decimal-length k (n / 10) l)
  where
    go : (t : Bool) → leb 10 n ≡ t → (n / 10 < 10 ^ suc k → length (decimal_of (n / 10)) ≤ suc k) → length (decimal_of n) ≤ suc (suc k)
    go false e i = let l = leb-false 10 n e in rw (decimal-one n l) (omega arith)
    go true e i =
        let l = leb-true 10 n e in
        let p = pow-suc 10 (suc k) in
        let q : n / 10 < 10 ^ suc k = omega arith in
        let j = i q in
        rw (decimal-more n l) (simp length-append (omega arith))

module _ {b b₁ : List ℕ} {n pos p : ℕ} where
  pub decimal_digit : n < 10 → Prints b b₁ pos ((0x30 + n) ∷ []) p → Prints b b₁ pos (decimal_of n) p
  decimal_digit h f = prints_as (sym (decimal-one n h)) f

  pub decimal-on : {b₂ : List ℕ} {q : ℕ} → 10 ≤ n → Prints b b₁ pos (decimal_of (n / 10)) p → Prints b₁ b₂ p ((0x30 + n % 10) ∷ []) q → Prints b b₂ pos (decimal_of n) q
  decimal-on h f g = prints_as (sym (decimal-more n h)) (prints-more f g)

  pub next_last : n ≡ 18446744073709551615 → Prints b b₁ pos (ascii "18446744073709551616") p → Prints b b₁ pos (decimal_of (suc n)) p
  unfolding decimal_of decimal_within
  next_last e f = rw e f

  pub next-other : (n ≡ 18446744073709551615 → ⊥) → Prints b b₁ pos (decimal_of (n + 1)) p → Prints b b₁ pos (decimal_of (suc n)) p
  next-other m f = rw add-one at f

pub ruleset decimal_ways = (decimal_digit, decimal-on)

pub ruleset next_ways = (next_last, next-other)
