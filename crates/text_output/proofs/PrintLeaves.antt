-- Printing into a buffer: one part behind the other, and all of a text.
-- Assumes nothing.
use mathlib.Core.Path.{◌≡◌, refl, sym, ap, ◌∙◌}
use mathlib.Core.List.{List, [], ◌∷◌, ◌++◌}
use Prim.Native.Nat.{ℕ, zero, suc, ◌+◌, ◌-◌, ◌*◌, ◌^◌, ◌≤◌, ◌<◌}
use native.Mathlib.Numerals.{add-one}
use native.Mathlib.Omega.{arith}
use lib.ListN.{length, take, set, get_or, length-append, length-set}
use lib.Seq.{take-suc}
use mir.Syntax.{w64 as bits64}
use mir.Val.{Fits}
use Rattle.memory.specs.Buffer.{clipped}
use Rattle.memory.proofs.Buffer.{clipped-past, clipped_nil, clipped-one, clipped-more}
use Rattle.memory.specs.Sums.{capped}
use Rattle.text_output.specs.PrintParts.{Prints}

-- ONE PART BEHIND THE OTHER

pub prints-more : {b b₁ b₂ ws vs : List ℕ} {pos p q : ℕ} → Prints b b₁ pos ws p → Prints b₁ b₂ p vs q → Prints b b₂ pos (ws ++ vs) q
prints-more {b} {b₁} {b₂} {ws} {vs} {pos} {p} {q} f g =
    let l = length-append ws vs in
    record {
      same = g.same ∙ f.same;
      short = f.short;
      next = omega (arith, f.next, g.next, l);
      is =
          let i : length b ≤ 2 ^ 64 - 1 = omega (arith, f.short) in
          g.is ∙ (λ j. clipped (f.is j) (f.next j) vs) ∙ clipped-more b pos ws vs (2 ^ 64 - 1) i;
    }

-- what is printed, under another name
pub prints_as : {b b' ws vs : List ℕ} {pos p : ℕ} → ws ≡ vs → Prints b b' pos ws p → Prints b b' pos vs p
prints_as {b} {b'} {ws} {vs} {pos} {p} e f = rw e at f

module _ {b : List ℕ} {pos : ℕ} (s : length b * 1 < 2 ^ 63) where
  pub prints-none : Fits bits64 pos → Prints b b pos [] pos
  prints-none u = record { same = refl; short = omega arith; next = omega arith; is = sym (clipped_nil b pos) }

  pub put_in : {v : ℕ} → pos < length b → Prints b (set b pos v) pos (v ∷ []) (pos + 1)
  put_in {v} h = record { same = length-set b pos v; short = omega arith; next = omega arith; is = clipped-one b pos v h }

  pub put-past : {v r : ℕ} → length b ≤ pos → r ≡ capped pos 1 → Prints b b pos (v ∷ []) r
  put-past {v} h e = record { same = refl; short = omega arith; next = e; is = sym (clipped-past b pos (v ∷ []) h) }

-- ALL OF A TEXT

pub take_next : (s : List ℕ) (i : ℕ) → i < length s → take (i + 1) s ≡ take i s ++ get_or s i 0 ∷ []
take_next s i h = rw (add-one, take-suc s i 0 h)

pub take_whole : (s : List ℕ) (i : ℕ) → length s ≤ i → take i s ≡ s
take_whole [] zero h = refl
take_whole [] (suc i) h = refl
take_whole (b ∷ s) zero h = absurd (omega arith)
take_whole (b ∷ s) (suc i) h = ap (λ (t : List ℕ). b ∷ t) (take_whole s i (omega arith))

-- what stands before i is printed as it is
pub record Copied (s b₀ : List ℕ) (pos i p : ℕ) (b : List ℕ) : Type 0 where
  pub done : Prints b₀ b pos (take i s) p

module _ {s b : List ℕ} {pos : ℕ} where
  pub copy_start : length b * 1 < 2 ^ 63 → Fits bits64 pos → Copied s b pos 0 pos b
  copy_start h u = record { done = prints-none h u }

  module _ {b' : List ℕ} {i p : ℕ} (inv : Copied s b pos i p b') where
    pub copy_step : {c : List ℕ} {q : ℕ} → i < length s → Prints b' c p (get_or s i 0 ∷ []) q → Copied s b pos (i + 1) q c
    copy_step h f = record { done = prints_as (sym (take_next s i h)) (prints-more inv.done f) }
