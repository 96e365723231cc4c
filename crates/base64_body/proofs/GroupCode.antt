-- A group of letters: its letters, and that its bytes are written.
-- Assumes nothing.
use mathlib.Core.Path.{◌≡◌, refl, ap}
use mathlib.Core.List.{List, [], ◌∷◌}
use Prim.Native.Nat.{ℕ, zero, suc, ◌≤◌, ◌<◌}
use native.Mathlib.Omega.{arith}
use lib.ListN.{length, take}
use borrow.Author.Tests.{le-leb, lt-ltb, le-ltb}
use Rattle.notation.specs.Literals.{Content, bad, after, Sextet, sextet, padding, non_alphabet}
use Rattle.literal_body.specs.LiteralAnswers.{Put}
use Rattle.base64_letter.specs.LetterAnswers.{sextet_number}
use Rattle.base64_quantum.specs.QuantumAnswers.{sextet_of, first_byte, second_of, third_of, base64_bytes, flowing}
use Rattle.base64_quantum.specs.declared.Group.{Group}
use Rattle.notation_theorems.proofs.SoundContent.{Fits}
use Rattle.literal_body.proofs.LiteralCode.{take_none, put-none, put-more}

-- LETTERS

pub sextet-back : (x : Sextet) → Fits x → sextet_of (sextet_number x) ≡ x
unfolding sextet_of sextet_number
sextet-back (sextet v) f = rw (le-leb v 63 f, sextet_of)
sextet-back padding f = refl
sextet-back non_alphabet f = refl

-- BYTES OF A GROUP, WRITTEN

take_three : (n x y z : ℕ) → 3 ≤ n → take n (x ∷ y ∷ z ∷ []) ≡ x ∷ y ∷ z ∷ []
take_three zero x y z h = absurd (omega arith)
take_three (suc zero) x y z h = absurd (omega arith)
take_three (suc (suc zero)) x y z h = absurd (omega arith)
take_three (suc (suc (suc n))) x y z h = ap (λ (u : List ℕ). x ∷ y ∷ z ∷ u) (take_none n)

pub length_some : (n : ℕ) (g : Group) → n ≤ 3 → length (take n (base64_bytes g)) ≡ n
unfolding base64_bytes
length_some zero g h = refl
length_some (suc zero) g h = refl
length_some (suc (suc zero)) g h = refl
length_some (suc (suc (suc zero))) g h = refl
length_some (suc (suc (suc (suc n)))) g h = absurd (omega arith)

pub bytes-none : (b : List ℕ) (p n : ℕ) (g : Group) → n ≡ 0 → Put b b p p (take n (base64_bytes g))
unfolding base64_bytes
bytes-none b p n g e = rw e (put-none b p)

module _ {b b₁ : List ℕ} {p p₁ v₁ : ℕ} (n : ℕ) (g : Group) (e₁ : v₁ ≡ first_byte g) (x₁ : Put b b₁ p p₁ (v₁ ∷ [])) where
  pub bytes_one : n ≡ 1 → Put b b₁ p p₁ (take n (base64_bytes g))
  unfolding base64_bytes
  bytes_one e = rw (e, ← e₁) x₁

  module _ {b₂ : List ℕ} {p₂ v₂ : ℕ} (e₂ : v₂ ≡ second_of g) (x₂ : Put b₁ b₂ p₁ p₂ (v₂ ∷ [])) where
    pub bytes_two : n ≡ 2 → Put b b₂ p p₂ (take n (base64_bytes g))
    unfolding base64_bytes
    bytes_two e = rw (e, ← e₁, ← e₂) (put-more x₁ x₂)

    pub bytes_three : {b₃ : List ℕ} {p₃ v₃ : ℕ} → (n ≡ 0 → ⊥) → (n ≡ 1 → ⊥) → (n ≡ 2 → ⊥) → v₃ ≡ third_of g → Put b₂ b₃ p₂ p₃ (v₃ ∷ []) → Put b b₃ p p₃ (take n (base64_bytes g))
    unfolding base64_bytes
    bytes_three n₀ n₁ n₂ e₃ x₃ =
        let l : 3 ≤ n = omega arith in
        rw (take_three n (first_byte g) (second_of g) (third_of g) l, ← e₁, ← e₂, ← e₃) (put-more (put-more x₁ x₂) x₃)

pub ruleset bytes_ways = (bytes-none, bytes_one, bytes_two, bytes_three)

pub flow_bad : (n : ℕ) (g : Group) (c : Content) → 3 < n → flowing n g c ≡ bad
unfolding flowing
flow_bad n g c h = rw (lt-ltb 3 n h, flowing)

pub flow_on : (n : ℕ) (g : Group) (c : Content) → n ≤ 3 → flowing n g c ≡ after (take n (base64_bytes g)) c
unfolding flowing
flow_on n g c h = rw (le-ltb 3 n h, flowing)
