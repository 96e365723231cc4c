-- A group of letters: what it stands for, and how many bytes it makes.
-- Assumes nothing.
use mathlib.Core.Path.{◌≡◌, refl, sym, ap, ◌∙◌}
use mathlib.Core.List.{[], ◌∷◌}
use mathlib.Core.Bool.{Bool, true, false, ◌&&◌}
use Prim.Native.Nat.{ℕ, ◌+◌, ◌*◌, ◌/◌, ◌%◌, ◌≤◌}
use native.Mathlib.Omega.{arith}
use lib.Dec.{leb, eqb}
use borrow.Author.Tests.{leb-true, ne_eqb}
use Rattle.cbor.proofs.Utf8Laws.{both_true}
use Rattle.notation.specs.Literals.{Content, stands_for, bad, after, sextet, padding, non_alphabet, valued, last_two, last_three, is_padding, last_four, full_four, base64_from}
use Rattle.base64_quantum.specs.QuantumAnswers.{sextet_of, waits, waiting_of, all_sextets, first_byte, second_of, third_of, base64_bytes, flowing, full_size, last_two_size, last_three_size, last_four_size, Last}
use Rattle.base64_quantum.specs.declared.Group.{Group}

-- GROUPS

pub counted : (g : Group) (n : ℕ) → g.count ≡ n → waiting_of g ≡ waits n (sextet_of g.a) (sextet_of g.b) (sextet_of g.c) (sextet_of g.d)
unfolding waiting_of
counted g n e = ap (λ (k : ℕ). waits k (sextet_of g.a) (sextet_of g.b) (sextet_of g.c) (sextet_of g.d)) e

-- WHAT A GROUP STANDS FOR

-- letters by their numbers
module _ (n : ℕ) (k : ℕ → Content) where
  valued-is : valued (sextet_of n) k ≡ elim (leb n 63) [ true ↦ k n | false ↦ bad ]
  unfolding valued sextet_of
  valued-is = go (leb n 63) (eqb n 64)
    where
      go : (t u : Bool) → valued (elim t [ true ↦ sextet n | false ↦ elim u [ true ↦ padding | false ↦ non_alphabet ] ]) k ≡ elim t [ true ↦ k n | false ↦ bad ]
      go true u = refl
      go false true = refl
      go false false = refl

  valued_and : (t : Bool) (r : Content) → k n ≡ elim t [ true ↦ r | false ↦ bad ] → valued (sextet_of n) k ≡ elim (leb n 63 && t) [ true ↦ r | false ↦ bad ]
  valued_and t r e = valued-is ∙ go (leb n 63)
    where
      go : (u : Bool) → ◌≡◌ {A = Content} (elim u [ true ↦ k n | false ↦ bad ]) (elim (u && t) [ true ↦ r | false ↦ bad ])
      go true = e
      go false = refl

padding-is : (n : ℕ) → is_padding (sextet_of n) ≡ eqb n 64
unfolding is_padding sextet_of
padding-is n = go (leb n 63) refl (eqb n 64) refl
  where
    go : (t : Bool) → leb n 63 ≡ t → (u : Bool) → eqb n 64 ≡ u → is_padding (elim t [ true ↦ sextet n | false ↦ elim u [ true ↦ padding | false ↦ non_alphabet ] ]) ≡ u
    go true e u f = sym (ne_eqb n 64 (λ z. omega (arith, leb-true n 63 e))) ∙ f
    go false e true f = refl
    go false e false f = refl

-- four letters with what follows
pub full_is : (g : Group) (k : Content) → full_four (sextet_of g.a) (sextet_of g.b) (sextet_of g.c) (sextet_of g.d) k ≡ flowing (full_size g) g k
unfolding full_four full_size all_sextets flowing base64_bytes first_byte second_of third_of
full_is g k =
    valued_and g.a _ _ _ (valued_and g.b _ _ _ (valued_and g.c _ _ _ (valued-is g.d _)))
    ∙ go (leb g.a 63 && (leb g.b 63 && (leb g.c 63 && leb g.d 63))) refl
  where
    go : (t : Bool) → leb g.a 63 && (leb g.b 63 && (leb g.c 63 && leb g.d 63)) ≡ t
        → ◌≡◌ {A = Content} (elim t [ true ↦ after ((g.a * 4 + g.b / 16) ∷ (g.b % 16 * 16 + g.c / 4) ∷ (g.c % 4 * 64 + g.d) ∷ []) k | false ↦ bad ])
        (flowing (elim t [ true ↦ 3 | false ↦ 4 ]) g k)
    go false e = refl
    go true e =
        let p = both_true (leb g.a 63) _ e in
        let q = both_true (leb g.b 63) _ p.1 in
        let r = both_true (leb g.c 63) _ q.1 in
        let ha = leb-true g.a 63 p.0 in
        let hb = leb-true g.b 63 q.0 in
        let hc = leb-true g.c 63 r.0 in
        let hd = leb-true g.d 63 r.1 in
        let e₁ : g.a * 4 + g.b / 16 ≡ first_byte g = omega arith in
        let e₂ : g.b % 16 * 16 + g.c / 4 ≡ second_of g = omega arith in
        let e₃ : g.c % 4 * 64 + g.d ≡ third_of g = omega arith in
        λ j. after (e₁ j ∷ e₂ j ∷ e₃ j ∷ []) k

two_is : (g : Group) → last_two (sextet_of g.a) (sextet_of g.b) ≡ flowing (last_two_size g.a g.b) g (stands_for [])
unfolding last_two last_two_size flowing base64_bytes first_byte after
two_is g = valued_and g.a _ _ _ (valued_and g.b _ _ _ refl) ∙ go (leb g.a 63 && (leb g.b 63 && eqb (g.b % 16) 0)) refl
  where
    go : (t : Bool) → leb g.a 63 && (leb g.b 63 && eqb (g.b % 16) 0) ≡ t
        → ◌≡◌ {A = Content} (elim t [ true ↦ stands_for ((g.a * 4 + g.b / 16) ∷ []) | false ↦ bad ]) (flowing (elim t [ true ↦ 1 | false ↦ 4 ]) g (stands_for []))
    go false e = refl
    go true e =
        let p = both_true (leb g.a 63) _ e in
        let q = both_true (leb g.b 63) _ p.1 in
        let ha = leb-true g.a 63 p.0 in
        let hb = leb-true g.b 63 q.0 in
        let e₁ : g.a * 4 + g.b / 16 ≡ first_byte g = omega arith in
        λ j. stands_for (e₁ j ∷ [])

three_is : (g : Group) → last_three (sextet_of g.a) (sextet_of g.b) (sextet_of g.c) ≡ flowing (last_three_size g.a g.b g.c) g (stands_for [])
unfolding last_three last_three_size flowing base64_bytes first_byte second_of after
three_is g = valued_and g.a _ _ _ (valued_and g.b _ _ _ (valued_and g.c _ _ _ refl)) ∙ go (leb g.a 63 && (leb g.b 63 && (leb g.c 63 && eqb (g.c % 4) 0))) refl
  where
    go : (t : Bool) → leb g.a 63 && (leb g.b 63 && (leb g.c 63 && eqb (g.c % 4) 0)) ≡ t
        → ◌≡◌ {A = Content} (elim t [ true ↦ stands_for ((g.a * 4 + g.b / 16) ∷ (g.b % 16 * 16 + g.c / 4) ∷ []) | false ↦ bad ])
        (flowing (elim t [ true ↦ 2 | false ↦ 4 ]) g (stands_for []))
    go false e = refl
    go true e =
        let p = both_true (leb g.a 63) _ e in
        let q = both_true (leb g.b 63) _ p.1 in
        let r = both_true (leb g.c 63) _ q.1 in
        let ha = leb-true g.a 63 p.0 in
        let hb = leb-true g.b 63 q.0 in
        let hc = leb-true g.c 63 r.0 in
        let e₁ : g.a * 4 + g.b / 16 ≡ first_byte g = omega arith in
        let e₂ : g.b % 16 * 16 + g.c / 4 ≡ second_of g = omega arith in
        λ j. stands_for (e₁ j ∷ e₂ j ∷ [])

four_is : (g : Group) → base64_from (sextet_of g.a ∷ sextet_of g.b ∷ sextet_of g.c ∷ sextet_of g.d ∷ []) ≡ flowing (last_four_size g) g (stands_for [])
unfolding base64_from last_four last_four_size
four_is g = (λ j. ends (padding-is g.d j) (padding-is g.c j)) ∙ go (eqb g.d 64) (eqb g.c 64)
  where
    ends : Bool → Bool → Content
    ends t u =
        elim t [
          | true ↦ elim u [ true ↦ last_two (sextet_of g.a) (sextet_of g.b) | false ↦ last_three (sextet_of g.a) (sextet_of g.b) (sextet_of g.c) ]
          | false ↦ full_four (sextet_of g.a) (sextet_of g.b) (sextet_of g.c) (sextet_of g.d) (stands_for [])
        ]

    go : (t u : Bool) → ends t u ≡ flowing (elim t [ true ↦ elim u [ true ↦ last_two_size g.a g.b | false ↦ last_three_size g.a g.b g.c ] | false ↦ full_size g ]) g (stands_for [])
    go true true = two_is g
    go true false = three_is g
    go false u = full_is g (stands_for [])

picked : (P : ℕ → Type 0) (t : Bool) (x y : ℕ) → P x → P y → P (elim t [ true ↦ x | false ↦ y ])
picked P true x y p q = p
picked P false x y p q = q

full_most : (g : Group) → full_size g ≤ 4
unfolding full_size
full_most g = picked (λ (k : ℕ). k ≤ 4) (all_sextets g) 3 4 (omega arith) (omega arith)

two_most : (a b : ℕ) → last_two_size a b ≤ 4
unfolding last_two_size
two_most a b = picked (λ (k : ℕ). k ≤ 4) (leb a 63 && (leb b 63 && eqb (b % 16) 0)) 1 4 (omega arith) (omega arith)

three_most : (a b c : ℕ) → last_three_size a b c ≤ 4
unfolding last_three_size
three_most a b c = picked (λ (k : ℕ). k ≤ 4) (leb a 63 && (leb b 63 && (leb c 63 && eqb (c % 4) 0))) 2 4 (omega arith) (omega arith)

two_short : (a b : ℕ) → last_two_size a b ≤ 3 → last_two_size a b ≤ 2
unfolding last_two_size
two_short a b = picked (λ (k : ℕ). k ≤ 3 → k ≤ 2) (leb a 63 && (leb b 63 && eqb (b % 16) 0)) 1 4 (λ h. omega arith) (λ h. absurd (omega arith))

four-most : (g : Group) → last_four_size g ≤ 4
unfolding last_four_size
four-most g =
    picked (λ (k : ℕ). k ≤ 4) (eqb g.d 64) _ _
    (picked (λ (k : ℕ). k ≤ 4) (eqb g.c 64) _ _ (two_most g.a g.b) (three_most g.a g.b g.c)) (full_most g)

module _ (g : Group) where
  last-by : (n : ℕ) → g.count ≡ n → base64_from (waiting_of g) ≡ base64_from (waits n (sextet_of g.a) (sextet_of g.b) (sextet_of g.c) (sextet_of g.d))
  last-by n e = ap base64_from (counted g n e)

  pub last_none : g.count ≡ 0 → Last g 0
  unfolding waits base64_from flowing after
  last_none e = record { is = λ h. last-by 0 e; most = omega arith; short = λ k h. omega arith }

  pub last_one : g.count ≡ 1 → Last g 4
  unfolding waits base64_from flowing
  last_one e = record { is = λ h. last-by 1 e; most = omega arith; short = λ k h. absurd (omega arith) }

  pub last-pair : {r : ℕ} → g.count ≡ 2 → r ≡ last_two_size g.a g.b → Last g r
  unfolding waits base64_from
  last-pair {r} e p =
      record { is = λ h. last-by 2 e ∙ two_is g ∙ ap (λ (k : ℕ). flowing k g (stands_for [])) (sym p); most = omega (arith, two_most g.a g.b); short = λ k h. omega (arith, two_short g.a g.b (omega arith)) }

  pub last_triple : {r : ℕ} → g.count ≡ 3 → r ≡ last_three_size g.a g.b g.c → Last g r
  unfolding waits base64_from
  last_triple {r} e p =
      record { is = λ h. last-by 3 e ∙ three_is g ∙ ap (λ (k : ℕ). flowing k g (stands_for [])) (sym p); most = omega (arith, three_most g.a g.b g.c); short = λ k h. omega arith }

  pub last-whole : {r : ℕ} → (g.count ≡ 0 → ⊥) → (g.count ≡ 1 → ⊥) → (g.count ≡ 2 → ⊥) → (g.count ≡ 3 → ⊥) → r ≡ last_four_size g → Last g r
  unfolding waits
  last-whole {r} n₀ n₁ n₂ n₃ p =
      record {
        is = λ h. let e : g.count ≡ 4 = omega arith in last-by 4 e ∙ four_is g ∙ ap (λ (k : ℕ). flowing k g (stands_for [])) (sym p);
        most = omega (arith, four-most g);
        short = λ k h. omega arith;
      }
