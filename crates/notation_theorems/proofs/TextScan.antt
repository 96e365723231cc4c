-- What is scanned from the front of a text in UTF-8 leaves a text in UTF-8: blanks and comments, and the small steps of tokens.
use Prim.Native.Nat.{ℕ, ◌≤◌, ◌<◌}
use native.Mathlib.Omega.{arith}
use mathlib.Core.Path.{◌≡◌, refl, sym}
use mathlib.Core.Bool.{Bool, true, false, ◌&&◌, ◌||◌}
use mathlib.Core.Logic.{inl, inr}
use mathlib.Core.List.{List, [], ◌∷◌}
use lib.Dec.{T, leb, ltb, eqb, leb→le}
use lib.ListN.{length}
use borrow.Author.Tests.{eqb-true, ltb-true}
use Rattle.cbor.specs.Refusals.{Result, ok, refuse, bind}
use Rattle.cbor.specs.Utf8.{Range, ◌to◌, is_in}
use Rattle.cbor.proofs.Table.{both}
use Rattle.cbor.proofs.Utf8Laws.{is_in_lem}
use Rattle.cbor.proofs.Utf8Text.{Text, text_nil, Alone, text-past, text_tail}
use Rattle.cbor.proofs.Tests.{clash}
use Rattle.notation.specs.Classes.{Class, blank, slash, hash, letter, digit, class_number, ClassRow, class_rows, class_in, class_of, is, is_word}
use Rattle.notation.specs.Scanning.{is_comment, Skipping, between, slashed, hashed, Skipped, skips, stops, skipped, left_in, skip_from, skip, run, whether, expect}
use Rattle.notation.specs.Indicators.{indicator}
use Rattle.notation.specs.Numbers.{Digit, worth, no_digit, digit_at, is_digit, digit_value}
use Rattle.notation_theorems.proofs.ScanningElements.{digit_cases}

-- a fact of either case of a test is one of the test
pub tested : {A : Type 0} (P : A → Type 0) (v : Bool) (x y : A) → (v ≡ true → P x) → (v ≡ false → P y) → P (elim v [ true ↦ x | false ↦ y ])
tested P true x y f g = f refl
tested P false x y f g = g refl

-- A result that leaves a text in UTF-8, with a fact of the value and of how much is left
abbrev pub Leaves : {A : Type 0} → (A → ℕ → Type 0) → Result A → Type 0
Leaves P (ok x r) = Text true [] r × P x (length r)
Leaves P (refuse k w) = Unit {0}

pub leaves-bind : {A B : Type 0} (P : A → ℕ → Type 0) (Q : B → ℕ → Type 0) (R : Result A) (f : A → List ℕ → Result B) → Leaves P R
    → ((x : A) (r : List ℕ) → Text true [] r → P x (length r) → Leaves Q (f x r)) → Leaves Q (bind R f)
unfolding bind
leaves-bind P Q (ok x r) f h k = k x r h.0 h.1
leaves-bind P Q (refuse n w) f h k = tt

abbrev pub Upto : {A : Type 0} → ℕ → A → ℕ → Type 0
Upto n x k = k ≤ n

-- CLASSES: every byte of a class other than `other` stands alone

abbrev alone_row : ClassRow → Bool
alone_row w = leb w.bytes.high 127 || (leb 256 w.bytes.low && leb w.bytes.high 256)

abbrev alone_rows : List ClassRow → Bool
alone_rows [] = true
alone_rows (w ∷ ws) = alone_row w && alone_rows ws

row_alone : (w : ClassRow) (b : ℕ) → T (alone_row w) → is_in w.bytes b ≡ true → Alone b
row_alone w b t e = go (leb w.bytes.high 127) refl t
  where
    go : (v : Bool) → leb w.bytes.high 127 ≡ v → T (v || (leb 256 w.bytes.low && leb w.bytes.high 256)) → Alone b
    go true h t = let i = is_in_lem w.bytes b e in inl (omega (arith, leb→le w.bytes.high 127 (rw h tt)))
    go false h t =
        let i = is_in_lem w.bytes b e in
        let p = both (leb 256 w.bytes.low) (leb w.bytes.high 256) t in
        inr (omega (arith, leb→le 256 w.bytes.low p.0, leb→le w.bytes.high 256 p.1))

rows-alone : (ws : List ClassRow) (b : ℕ) → T (alone_rows ws) → 1 ≤ class_number (class_in ws b) → Alone b
unfolding class_in class_number
rows-alone [] b t h = absurd (omega arith)
rows-alone (w ∷ ws) b t h = let p = both (alone_row w) (alone_rows ws) t in go (is_in w.bytes b) refl p.0 (rows-alone ws b p.1) h
  where
    go : (v : Bool) → is_in w.bytes b ≡ v → T (alone_row w) → (1 ≤ class_number (class_in ws b) → Alone b) → 1 ≤ class_number (elim v [ true ↦ w.class | false ↦ class_in ws b ]) → Alone b
    go true e t ih h = row_alone w b t e
    go false e t ih h = ih h

pub class-alone : (b : ℕ) → 1 ≤ class_number (class_of b) → Alone b
unfolding class_of class_rows
class-alone b h = rows-alone class_rows b tt h

pub is-alone : (c : Class) (b : ℕ) → 1 ≤ class_number c → is c b ≡ true → Alone b
unfolding is
is-alone c b h e = class-alone b (omega (arith, eqb-true (class_number c) (class_number (class_of b)) e))

pub word-alone : (b : ℕ) → is_word b ≡ true → Alone b
unfolding is_word class_number
word-alone b e = go (is letter b) refl (is digit b) refl e
  where
    go : (u : Bool) → is letter b ≡ u → (v : Bool) → is digit b ≡ v → (u || v) ≡ true → Alone b
    go true p v q e = is-alone letter b (omega arith) p
    go false p true q e = is-alone digit b (omega arith) q
    go false p false q e = let z : ◌≡◌ {A = ℕ} 0 1 = cc in absurd (omega arith)

-- DIGITS, which are ASCII

pub digit-alone : (radix b : ℕ) → is_digit radix b ≡ true → Alone b
unfolding is_digit
digit-alone radix b =
    digit_cases (λ d. ◌≡◌ {A = Bool} (elim d [ worth v ↦ ltb v radix | no_digit ↦ false ]) true → Alone b) b
    (λ i e. let k = is_in_lem (0x30 to 0x39) b i in inl (omega arith)) (λ i e. let k = is_in_lem (0x61 to 0x66) b i in inl (omega arith))
    (λ i e. let k = is_in_lem (0x41 to 0x46) b i in inl (omega arith)) (λ e. absurd (clash (sym e)))

pub digit_less : (radix b : ℕ) → is_digit radix b ≡ true → digit_value b < radix
unfolding is_digit digit_value
digit_less radix b = go (digit_at b)
  where
    go : (d : Digit) → ◌≡◌ {A = Bool} (elim d [ worth v ↦ ltb v radix | no_digit ↦ false ]) true → elim d [ worth v ↦ v | no_digit ↦ 0 ] < radix
    go (worth v) e = ltb-true v radix e
    go no_digit e = absurd (clash (sym e))

-- BLANKS AND COMMENTS

abbrev Kept : ℕ → List Range → Skipping → Type 0
Kept n gs between = gs ≡ []
Kept n gs (slashed c) = Text true [] c × (length c ≤ n)
Kept n gs (hashed c) = Text true [] c × (length c ≤ n)

abbrev Skips : ℕ → List ℕ → Skipped → Type 0
Skips n s (skips k) = (gs : List Range) × Text true gs s × Kept n gs k
Skips n s (stops r) = Text true [] r × (length r ≤ n)

skipped-text : (n : ℕ) (k : Skipping) (gs : List Range) (b : ℕ) (s : List ℕ) → Kept n gs k → Text true gs (b ∷ s) → length (b ∷ s) ≤ n → Skips n s (skipped k b s)
unfolding skipped class_number
skipped-text n between gs b s k t l =
    let u : Text true [] (b ∷ s) = rw k at t in
    tested (Skips n s) (is blank b) _ _ (λ e. ([], (text-past (is-alone blank b (omega arith) e) u).1, refl))
    (λ e. tested (Skips n s) (is slash b) _ _ (λ e. ([], (text-past (is-alone slash b (omega arith) e) u).1, (u, l)))
    (λ e. tested (Skips n s) (is hash b) _ _ (λ e. ([], (text-past (is-alone hash b (omega arith) e) u).1, (u, l))) (λ e. (u, l))))
skipped-text n (slashed c) gs b s k t l =
    tested (Skips n s) (is slash b) _ _ (λ e. ([], (text-past (is-alone slash b (omega arith) e) t).1, refl))
    (λ e. tested (Skips n s) (is_comment b) _ _ (λ e. ((text_tail t).0, (text_tail t).1, k)) (λ e. k))
skipped-text n (hashed c) gs b s k t l =
    tested (Skips n s) (eqb b 0x0a) _ _ (λ e. ([], (text-past (inl (omega (arith, eqb-true b 0x0a e))) t).1, refl))
    (λ e. tested (Skips n s) (is_comment b) _ _ (λ e. ((text_tail t).0, (text_tail t).1, k)) (λ e. k))

skip-from : (n : ℕ) (k : Skipping) (gs : List Range) (s : List ℕ) → Kept n gs k → Text true gs s → length s ≤ n → Text true [] (skip_from k s) × (length (skip_from k s) ≤ n)
unfolding skip_from left_in
skip-from n between gs [] k t l = (text_nil, l)
skip-from n (slashed c) gs [] k t l = k
skip-from n (hashed c) gs [] k t l = k
skip-from n k gs (b ∷ s) h t l = go (skipped k b s) (skipped-text n k gs b s h t l) (λ k' gs' h' t'. skip-from n k' gs' s h' t' (omega arith))
  where
    go : (z : Skipped) → Skips n s z → ((k' : Skipping) (gs' : List Range) → Kept n gs' k' → Text true gs' s → Text true [] (skip_from k' s) × (length (skip_from k' s) ≤ n))
        → Text true [] (elim z [ skips k' ↦ skip_from k' s | stops r ↦ r ]) × (length {A = ℕ} (elim z [ skips k' ↦ skip_from k' s | stops r ↦ r ]) ≤ n)
    go (skips k') z ih = ih k' z.0 z.2 z.1
    go (stops r) z ih = z

pub skip-text : (s : List ℕ) → Text true [] s → Text true [] (skip s) × (length (skip s) ≤ length s)
unfolding skip
skip-text s t = skip-from (length s) between [] s refl t (omega arith)

-- STEPS OF A TOKEN, on a text of at most n

module _ (n : ℕ) where
  pub run-leaves : (test : ℕ → Bool) → ((b : ℕ) → test b ≡ true → Alone b) → (s : List ℕ) → Text true [] s → length s ≤ n → Leaves (Upto n) (run test s)
  unfolding run
  run-leaves test h [] t l = (t, l)
  run-leaves test h (b ∷ s) t l =
      tested (Leaves (Upto n)) (test b) _ _
      (λ e. leaves-bind (Upto n) (Upto n) _ _ (run-leaves test h s (text-past (h b e) t).1 (omega arith)) (λ w r u m. (u, m)))
      (λ e. (t, l))

  module _ (c : ℕ) (small : c < 128) where
    past : (b : ℕ) (s : List ℕ) → Text true [] (b ∷ s) → eqb b c ≡ true → Text true [] s
    past b s t e = (text-past (inl (omega (arith, eqb-true b c e))) t).1

    pub whether-leaves : (s : List ℕ) → Text true [] s → length s ≤ n → Leaves (Upto n) (whether c s)
    unfolding whether
    whether-leaves [] t l = (t, l)
    whether-leaves (b ∷ s) t l = tested (Leaves (Upto n)) (eqb b c) _ _ (λ e. (past b s t e, omega arith)) (λ e. (t, l))

    pub expect-leaves : (k : ℕ) (s : List ℕ) → Text true [] s → length s ≤ n → Leaves (Upto n) (expect c k s)
    unfolding expect
    expect-leaves k [] t l = tt
    expect-leaves k (b ∷ s) t l = tested (Leaves (Upto n)) (eqb b c) _ _ (λ e. (past b s t e, omega arith)) (λ e. tt)

  pub indicator-leaves : (s : List ℕ) → Text true [] s → length s ≤ n → Leaves (Upto n) (indicator s)
  unfolding indicator
  indicator-leaves s t l =
      leaves-bind (Upto n) (Upto n) _ _ (whether-leaves 0x5f (omega arith) s t l)
      (λ there r u m. tested (Leaves (Upto n)) there _ _ (λ e. leaves-bind (Upto n) (Upto n) _ _ (run-leaves is_word word-alone r u m) (λ w v x k. (x, k))) (λ e. (u, m)))
