-- Runs of text bytes.
-- Assumes nothing.
use mathlib.Core.Path.{◌≡◌, refl}
use mathlib.Core.Bool.{Bool, true, false}
use mathlib.Core.List.{List}
use Prim.Native.Nat.{ℕ, ◌+◌, ◌-◌, ◌≤◌, ◌<◌}
use native.Mathlib.Omega.{arith}
use lib.Dec.{ltb}
use lib.ListN.{length, get_or}
use borrow.Author.Tests.{ltb-true, ltb-false}
use Rattle.scanning.specs.TextRuns.{Textual, TextBlock, TextRun}

-- A BLOCK: of the first i bytes, those before f are in the run

pub record Firsts (s : List ℕ) (x y at i f : ℕ) : Type 0 where
  pub is : (j : ℕ) → j < i → j < f → Textual x y (get_or s (at + j) 0)
  pub most : f ≤ 32

-- A RUN

pub run-start : {s : List ℕ} {x y at : ℕ} → at ≤ length s → TextRun s x y at at
run-start h = record { is = λ j l g. absurd (omega arith); inside = h; ahead = omega arith }

module _ {s : List ℕ} {x y from at : ℕ} (inv : TextRun s x y from at) where
  run_by : {n : ℕ} (k : ℕ) → 32 ≤ length s - at → TextBlock s x y at n → k ≤ n → TextRun s x y from (at + k)
  run_by {n} k l p h = record { is = is; inside = omega (arith, p.most); ahead = omega (arith, inv.ahead) }
    where
      is : (j : ℕ) → from ≤ j → j < at + k → Textual x y (get_or s j 0)
      is j g u = go (ltb j at) refl
        where
          go : (t : Bool) → ltb j at ≡ t → Textual x y (get_or s j 0)
          go true e = inv.is j g (ltb-true j at e)
          go false e =
              let m : at ≤ j = ltb-false j at e in
              let z : at + (j - at) ≡ j = omega arith in
              rw z at (p.is (j - at) (omega arith))

  pub run-block : {n : ℕ} → 32 ≤ length s - at → TextBlock s x y at n → 32 ≤ n → TextRun s x y from (at + 32)
  run-block l p h = run_by 32 l p h

  pub run-part : {n : ℕ} → 32 ≤ length s - at → TextBlock s x y at n → TextRun s x y from (at + n)
  run-part {n} l p = run_by n l p (omega arith)
