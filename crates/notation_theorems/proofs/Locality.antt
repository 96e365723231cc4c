-- Cutting tokens is local: `next` reads well, and what is skipped in front of a token does not matter.
use Prim.Native.Nat.{ℕ, suc, ◌≤◌, ◌<◌}
use native.Mathlib.Omega.{arith}
use mathlib.Core.Path.{◌≡◌, refl, sym, ap, ◌∙◌}
use mathlib.Core.Bool.{Bool, true, false}
use mathlib.Core.List.{List, [], ◌∷◌, ◌++◌, append_assoc}
use mathlib.Core.Logic.{◌⊎◌, inl, inr}
use lib.Dec.{eqb, ltb}
use lib.ListN.{length, length-append}
use borrow.Author.Tests.{ltb-true, ltb-false, eqb-true, eqb-false}
use Rattle.cbor.specs.Refusals.{Result, ok, refuse, no_token}
use Rattle.notation.specs.Classes.{Class, blank, slash, hash, class_of, is}
use Rattle.notation.specs.Scanning.{skip}
use Rattle.notation.specs.Tokens.{Token}
use Rattle.notation.specs.Cutting.{cut_by, cut, place, placed, next}
use Rattle.notation_theorems.proofs.Good.{Good, Below, good_cons, good-below, Lexing}
use Rattle.notation_theorems.proofs.ScanningElements.{class-is, high-other}
use Rattle.notation_theorems.proofs.ScanningSteps.{good_soft}
use Rattle.notation_theorems.proofs.ScanningBlanks.{skip-front, skip-blank, skip-token, skip-none}
use Rattle.notation_theorems.proofs.CuttingTokens.{cut_by_sure}

-- a place changes nothing but where a refusal stands
placed-good : {A : Type 0} (rd : List ℕ → Result A) (at : List ℕ → ℕ) (s : List ℕ) (R : Result A) → Good (λ p q. rd) s R → Good (λ p q u. placed (at u) (rd u)) s (placed (at s) R)
unfolding placed
placed-good rd at s (ok x t) g = record { used = g.used; split = g.split; again = λ p q t' l. rw (g.again p q t' l) }
placed-good rd at s (refuse k w) g = λ hard p q r st. (at (s ++ r), rw (g hard p q r st).1)

placed_below : {A : Type 0} (q m n : ℕ) (R : Result A) → m ≤ n → Below m R → Below n (placed q R)
unfolding placed
placed_below q m n (ok x r) h b = omega arith
placed_below q m n (refuse k w) h b = tt

-- a reader that drops a front and goes on by itself
good-front : {A : Type 0} (rd : List ℕ → Result A) (front : List ℕ) → ((u : List ℕ) → rd (front ++ u) ≡ rd u) → (s : List ℕ) (R : Result A) → Good (λ p q. rd) s R
    → Good (λ p q. rd) (front ++ s) R
good-front rd front h s (ok x t) g =
    record { used = front ++ g.used; split = cc (append_assoc front g.used t); again = λ p q t' l. rw append_assoc (h (g.used ++ t') ∙ g.again p q t' l) }
good-front rd front h s (refuse k w) g = λ hard p q r st. let e = g hard p q r st in (e.0, rw append_assoc (h (s ++ r) ∙ e.1))

-- A TEXT THAT NOTHING IS SKIPPED OF begins with a token, or with what begins none
module _ (b : ℕ) where
  none-good : (k : Class) → is k b ≡ true → ((b : ℕ) (s : List ℕ) → cut_by k b s ≡ refuse no_token 0) → (s : List ℕ) → skip (b ∷ s) ≡ b ∷ s → Good (λ p q. next) (b ∷ s) (next (b ∷ s))
  unfolding next placed cut
  none-good k e h s f = rw (f, class-is k b e, h b s) (good_soft (λ p q. next) (b ∷ s) (place (b ∷ s)))

  pub token-is : is blank b ≡ false → is slash b ≡ false → is hash b ≡ false → (u : List ℕ) → next (b ∷ u) ≡ placed (suc (length u)) (cut_by (class_of b) b u)
  unfolding next cut place
  token-is e₁ e₂ e₃ u = rw (skip-token b u e₁ e₂ e₃)

  token-good : is blank b ≡ false → is slash b ≡ false → is hash b ≡ false → (s : List ℕ) → Good (λ p q. next) (b ∷ s) (next (b ∷ s))
  token-good e₁ e₂ e₃ s =
      rw (token-is e₁ e₂ e₃ s)
      (good_cons (λ p q. next) (λ p q u. placed (suc (length u)) (cut_by (class_of b) b u)) b (λ p q u. token-is e₁ e₂ e₃ u) s (placed (suc (length s)) (cut_by (class_of b) b s))
      (placed-good (cut_by (class_of b) b) (λ u. suc (length u)) s (cut_by (class_of b) b s) (cut_by_sure (class_of b) b s)))

settled : (s : List ℕ) → skip s ≡ s → Good (λ p q. next) s (next s)
unfolding next cut placed cut_by
settled [] e = rw e (λ hard. absurd (hard.not11 refl))
settled (b ∷ s) e = go (is blank b) (is slash b) (is hash b) refl refl refl
  where
    go : (u v w : Bool) → is blank b ≡ u → is slash b ≡ v → is hash b ≡ w → Good (λ p q. next) (b ∷ s) (next (b ∷ s))
    go true v w e₁ e₂ e₃ = none-good b blank e₁ (λ b s. refl) s e
    go false true w e₁ e₂ e₃ = none-good b slash e₂ (λ b s. refl) s e
    go false false true e₁ e₂ e₃ = none-good b hash e₃ (λ b s. refl) s e
    go false false false e₁ e₂ e₃ = token-good b e₁ e₂ e₃ s

-- WHAT IS SKIPPED
pub next-skip : (s t : List ℕ) → skip s ≡ skip t → next s ≡ next t
unfolding next place
next-skip s t e = rw e

front-good : (s front t : List ℕ) → s ≡ front ++ t → t ≡ skip s → ((u : List ℕ) → skip (front ++ u) ≡ skip u) → Good (λ p q. next) s (next s)
front-good s front t e f h =
    let g : skip s ≡ skip t = ap skip e ∙ h t in
    rw (next-skip s t g, e) (good-front next front (λ u. next-skip (front ++ u) u (h u)) t (next t) (settled t (sym g ∙ sym f)))

next-good : (s : List ℕ) → Good (λ p q. next) s (next s)
next-good s = let w = skip-front s in front-good s w.0 (skip s) w.1 refl w.2

pub cut_below : (s : List ℕ) → Below (length s) (cut s)
unfolding cut
cut_below [] = tt
cut_below (b ∷ s) = good-below (λ p q. cut_by (class_of b) b) s (cut_by (class_of b) b s) (cut_by_sure (class_of b) b s)

next-below : (s : List ℕ) → Below (length s) (next s)
unfolding next
next-below s =
    let w = skip-front s in
    placed_below (place s) (length (skip s)) (length s) (cut (skip s)) (omega (arith, simp length-append at (ap length w.1))) (cut_below (skip s))

-- THE FIRST ELEMENT
low : (q : ℕ) (u : List ℕ) (t : Token) (r : List ℕ) → placed q (cut u) ≡ ok t r → (b : ℕ) × (v : List ℕ) × (u ≡ b ∷ v) × ((b < 128) ⊎ (b ≡ 256))
unfolding placed cut cut_by
low q [] t r e = let z : ◌≡◌ {A = ℕ} 0 1 = cc in absurd (omega arith)
low q (b ∷ v) t r e = (b, v, refl, go (ltb b 128) (eqb b 256) refl refl)
  where
    go : (x y : Bool) → ltb b 128 ≡ x → eqb b 256 ≡ y → (b < 128) ⊎ (b ≡ 256)
    go true y e₁ e₂ = inl (ltb-true b 128 e₁)
    go false true e₁ e₂ = inr (eqb-true b 256 e₂)
    go false false e₁ e₂ =
        let i : ◌≡◌ {A = Result Token} (refuse no_token q) (ok t r) = rw (high-other b (ltb-false b 128 e₁) (eqb-false b 256 e₂)) at e in
        let z : ◌≡◌ {A = ℕ} 0 1 = cc in absurd (omega arith)

pub lexing : Lexing
unfolding next
lexing = record {
  good = next-good;
  less = next-below;
  ascii = λ s t r e. low (place s) (skip s) t r e;
  skips = skip-front;
  blank_skip = skip-blank;
  skip_nil = skip-none;
}
