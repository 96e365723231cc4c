-- A code point in UTF-8: its bytes and their number.
-- Assumes nothing.
use mathlib.Core.Path.{◌≡◌, sym, ap, ◌∙◌, subst⁻¹}
use mathlib.Core.List.{List, [], ◌∷◌}
use Prim.Native.Nat.{ℕ, ◌+◌, ◌/◌, ◌%◌, ◌≤◌, ◌<◌}
use native.Mathlib.Omega.{arith}
use lib.Dec.{ltb}
use lib.ListN.{length}
use borrow.Author.Tests.{lt-ltb, le-ltb}
use Rattle.notation.specs.Quoted.{utf8_of}
use Rattle.literal_body.specs.LiteralAnswers.{Put}
use Rattle.code_point.specs.Points.{Tail}
use Rattle.notation_theorems.proofs.TextScan.{tested}
use Rattle.literal_body.proofs.LiteralCode.{put-more}

pub utf8-one : (c : ℕ) → c < 0x80 → utf8_of c ≡ c ∷ []
unfolding utf8_of
utf8-one c h = rw (lt-ltb c 0x80 h, utf8_of)

pub utf8_two : (c : ℕ) → 0x80 ≤ c → c < 0x800 → utf8_of c ≡ (0xc0 + c / 0x40) ∷ (0x80 + c % 0x40) ∷ []
unfolding utf8_of
utf8_two c g h = simp (utf8_of, le-ltb c 0x80 g, lt-ltb c 0x800 h)

pub utf8_three : (c : ℕ) → 0x800 ≤ c → c < 0x10000 → utf8_of c ≡ (0xe0 + c / 0x1000) ∷ (0x80 + c / 0x40 % 0x40) ∷ (0x80 + c % 0x40) ∷ []
unfolding utf8_of
utf8_three c g h = let f : 0x80 ≤ c = omega arith in simp (utf8_of, le-ltb c 0x80 f, le-ltb c 0x800 g, lt-ltb c 0x10000 h)

pub utf8-four : (c : ℕ) → 0x10000 ≤ c → utf8_of c ≡ (0xf0 + c / 0x40000) ∷ (0x80 + c / 0x1000 % 0x40) ∷ (0x80 + c / 0x40 % 0x40) ∷ (0x80 + c % 0x40) ∷ []
unfolding utf8_of
utf8-four c g = let f : 0x80 ≤ c = omega arith in let f₂ : 0x800 ≤ c = omega arith in simp (utf8_of, le-ltb c 0x80 f, le-ltb c 0x800 f₂, le-ltb c 0x10000 g)

pub utf8-most : (c : ℕ) → length (utf8_of c) ≤ 4
unfolding utf8_of
utf8-most c =
    tested (λ (w : List ℕ). length w ≤ 4) (ltb c 0x80) _ _ (λ p. omega arith)
    (λ p. tested (λ (w : List ℕ). length w ≤ 4) (ltb c 0x800) _ _ (λ q. omega arith)
    (λ q. tested (λ (w : List ℕ). length w ≤ 4) (ltb c 0x10000) _ _ (λ r. omega arith) (λ r. omega arith)))

module _ {c : ℕ} where
  pub size-one : c < 0x80 → 1 ≡ length (utf8_of c)
  size-one h = sym (ap length (utf8-one c h))

  pub size_two : 0x80 ≤ c → c < 0x800 → 2 ≡ length (utf8_of c)
  size_two g h = sym (ap length (utf8_two c g h))

  pub size_three : 0x800 ≤ c → c < 0x10000 → 3 ≡ length (utf8_of c)
  size_three g h = sym (ap length (utf8_three c g h))

  pub size-four : 0x10000 ≤ c → 4 ≡ length (utf8_of c)
  size-four g = sym (ap length (utf8-four c g))

pub ruleset size_ways = (size-one, size_two, size_three, size-four)

put_as : {b b' : List ℕ} {p r : ℕ} {ws vs : List ℕ} → vs ≡ ws → Put b b' p r ws → Put b b' p r vs
put_as {b} {b'} {p} {r} e x = subst⁻¹ (Put b b' p r) e x

module _ {b b₁ : List ℕ} {p r : ℕ} (c : ℕ) where
  pub point-one : c < 0x80 → Put b b₁ p r (c ∷ []) → Put b b₁ p r (utf8_of c)
  point-one h x = put_as (utf8-one c h) x

  pub point_two : {t : ℕ} → 0x80 ≤ c → c < 0x800 → Tail c t → Put b b₁ p r ((0xc0 + c / 0x40) ∷ t ∷ []) → Put b b₁ p r (utf8_of c)
  point_two g h t x = put_as (utf8_two c g h ∙ ap (λ (k : ℕ). (0xc0 + c / 0x40) ∷ k ∷ []) (sym t.is)) x

  module _ {b₂ : List ℕ} {r₂ : ℕ} {t t₁ : ℕ} (e : Tail c t) (e₁ : Tail (c / 0x40) t₁) where
    pub point_three : 0x800 ≤ c → c < 0x10000 → Put b b₁ p r ((0xe0 + c / 0x1000) ∷ []) → Put b₁ b₂ r r₂ (t₁ ∷ t ∷ []) → Put b b₂ p r₂ (utf8_of c)
    point_three g h x y = put_as (utf8_three c g h ∙ (λ j. (0xe0 + c / 0x1000) ∷ sym e₁.is j ∷ sym e.is j ∷ [])) (put-more x y)

    pub point-four : {t₂ : ℕ} → 0x10000 ≤ c → Tail (c / 0x1000) t₂ → Put b b₁ p r ((0xf0 + c / 0x40000) ∷ t₂ ∷ []) → Put b₁ b₂ r r₂ (t₁ ∷ t ∷ []) → Put b b₂ p r₂ (utf8_of c)
    point-four g e₂ x y = put_as (utf8-four c g ∙ (λ j. (0xf0 + c / 0x40000) ∷ sym e₂.is j ∷ sym e₁.is j ∷ sym e.is j ∷ [])) (put-more x y)

pub ruleset point_ways = (point-one, point_two, point_three, point-four)
