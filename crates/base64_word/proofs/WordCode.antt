-- Four letters side by side: the word that they make and its bytes, and the loop over such.
-- Assumes nothing.
use mathlib.Core.Path.{◌≡◌, refl, sym, ap, ◌∙◌}
use mathlib.Core.List.{List, [], ◌∷◌}
use mathlib.Core.Bool.{Bool, true, false, ◌||◌}
use Prim.Native.Nat.{ℕ, zero, suc, ◌+◌, ◌-◌, ◌*◌, ◌/◌, ◌%◌, ◌≤◌, ◌<◌}
use native.Mathlib.Omega.{arith}
use lib.Dec.{T, leb, leb→le}
use lib.ListN.{length, set, get_or, length-set}
use native.Mathlib.Numerals.{add-one}
use mir.Syntax.{w64 as bits64}
use mir.Val as Bits
use borrow.Author.Tests.{leb-true, leb-false, ne_eqb}
use Rattle.cbor.specs.Utf8.{is_in}
use Rattle.cbor.proofs.Table.{byte}
use Rattle.notation.specs.Classes.{blank, class_number, class_rows, class_in, class_of, is}
use Rattle.notation.specs.Literals.{after, Sextet, sextet, padding, non_alphabet, sextet_at, sextets, valued, is_padding, full_four, base64_from, base64_content}
use Rattle.scanning.specs.Stands.{span}
use Rattle.literal_body.specs.LiteralAnswers.{Put}
use Rattle.literal_body.specs.LiteralReading.{Within, Yields, Progressed}
use Rattle.base64_letter.specs.LetterAnswers.{sextet_number, sextet_weight, Weighs}
use Rattle.base64_word.specs.WordAnswers.{word_at, WordThere, TooLate}
use Rattle.notation_theorems.proofs.SoundContent.{Fits, sextet-fits}
use Rattle.literal_body.proofs.LiteralCode.{put_one, put-more}
use Rattle.literal_body.proofs.MatchCode.{range_above}
use Rattle.literal_body.proofs.ReadingCode.{span-step, progress_start, progress_more}

-- LETTERS WITH A VALUE

-- they are no blanks
none_above : (b : ℕ) → 0x7a < b → sextet_at b ≡ non_alphabet
unfolding sextet_at
none_above b h =
    let e₁ = range_above 0x41 0x5a b (omega arith) in
    let e₂ = range_above 0x61 0x7a b h in
    let e₃ = range_above 0x30 0x39 b (omega arith) in
    let n₁ = ne_eqb b 0x2b (λ z. omega arith) in
    let n₂ = ne_eqb b 0x2d (λ z. omega arith) in
    let n₃ = ne_eqb b 0x2f (λ z. omega arith) in
    let n₄ = ne_eqb b 0x5f (λ z. omega arith) in
    let n₅ = ne_eqb b 0x3d (λ z. omega arith) in
    λ j. by (e₁ j) (e₂ j) (e₃ j) (n₁ j || n₂ j) (n₃ j || n₄ j) (n₅ j)
  where
    by : Bool → Bool → Bool → Bool → Bool → Bool → Sextet
    by t u v w x y =
        elim t [
          | true ↦ sextet (b - 0x41)
          | false ↦ elim u [
            | true ↦ sextet (b - 0x47)
            | false ↦ elim v [ true ↦ sextet (b + 4) | false ↦ elim w [ true ↦ sextet 62 | false ↦ elim x [ true ↦ sextet 63 | false ↦ elim y [ true ↦ padding | false ↦ non_alphabet ] ] ] ]
          ]
        ]

blank-no : (b v : ℕ) → is blank b ≡ true → sextet_at b ≡ sextet v → v ≤ 63 → ⊥
unfolding sextet_at sextet_number is_in is class_number class_of class_in class_rows
blank-no b v q e f = go (leb b 0x7a) refl
  where
    test : b < 256 → T (elim (is blank b) [ true ↦ leb 64 (sextet_number (sextet_at b)) | false ↦ true ])
    test u = byte (λ k. elim (is blank k) [ true ↦ leb 64 (sextet_number (sextet_at k)) | false ↦ true ]) tt b u

    go : (t : Bool) → leb b 0x7a ≡ t → ⊥
    go true p =
        let l = leb-true b 0x7a p in
        let x : T (leb 64 (sextet_number (sextet_at b))) = rw q at (test (omega arith)) in
        let y : 64 ≤ sextet_number (sextet_at b) = leb→le 64 (sextet_number (sextet_at b)) x in
        let z : sextet_number (sextet_at b) ≡ v = ap sextet_number e in
        omega arith
    go false p = let z : ◌≡◌ {A = ℕ} 0 1 = cc (none_above b (leb-false b 0x7a p)) in absurd (omega arith)

weight_letter : (b : ℕ) (s : List ℕ) → sextet_weight b < 0x100_0000 → (sextet_weight b ≤ 63) × (sextets (b ∷ s) ≡ sextet (sextet_weight b) ∷ sextets s)
unfolding sextet_weight sextets
weight_letter b s h = go (sextet_at b) refl (sextet-fits b) h (is blank b) refl
  where
    go : (x : Sextet) → sextet_at b ≡ x → Fits x → elim x [ sextet v ↦ v | padding ↦ 0x100_0000 | non_alphabet ↦ 0x100_0000 ] < 0x100_0000 → (t : Bool) → is blank b ≡ t
        → (elim x [ sextet v ↦ v | padding ↦ 0x100_0000 | non_alphabet ↦ 0x100_0000 ] ≤ 63)
        × (◌≡◌ {A = List Sextet} (elim t [ true ↦ sextets s | false ↦ x ∷ sextets s ]) (sextet (elim x [ sextet v ↦ v | padding ↦ 0x100_0000 | non_alphabet ↦ 0x100_0000 ]) ∷ sextets s))
    go (sextet v) e f l false q = (f, refl)
    go (sextet v) e f l true q = absurd (blank-no b v q e f)
    go padding e f l t q = absurd (omega arith)
    go non_alphabet e f l t q = absurd (omega arith)

-- WORDS OF FOUR LETTERS

pub bound : ℕ → ℕ
bound zero = 0
bound (suc k) = bound k * 64 + 0x200_0000

bound_most : (k : ℕ) → k < 4 → bound k ≤ 0x20_8200_0000
unfolding bound
bound_most zero h = omega arith
bound_most (suc zero) h = omega arith
bound_most (suc (suc zero)) h = omega arith
bound_most (suc (suc (suc zero))) h = omega arith
bound_most (suc (suc (suc (suc k)))) h = absurd (omega arith)

pub record Weighed (s : List ℕ) (at k w : ℕ) : Type 0 where
  pub is : w < 0x100_0000 → w ≡ word_at s at k
  pub most : k ≤ 4
  pub small : w ≤ bound k

pub weighed_start : (s : List ℕ) (at : ℕ) → Weighed s at 0 0
unfolding word_at bound
weighed_start s at = record { is = λ h. refl; most = omega arith; small = omega arith }

module _ {s : List ℕ} {at k w : ℕ} (inv : Weighed s at k w) where
  module _ (h : k < 4) where
    weighed_most : w ≤ 0x20_8200_0000
    weighed_most = omega (arith, inv.small, bound_most k h)

    pub weighed_high : Bits.Fits bits64 (w * 64)
    weighed_high = record { fits = omega (arith, weighed_most) }

    module _ {row v : ℕ} (e : row ≡ get_or s (at + k) 0 + 0x100) (y : Weighs (row - 0x100) v) where
      x : Weighs (get_or s (at + k) 0) v
      x = let f : row - 0x100 ≡ get_or s (at + k) 0 = omega arith in rw f at y

      pub weighed_sum : Bits.Fits bits64 (w * 64 + v)
      weighed_sum = record { fits = omega (arith, weighed_most, x.most) }

      next_is : w * 64 + v < 0x100_0000 → w * 64 + v ≡ word_at s at (suc k)
      unfolding word_at
      next_is l = let a = inv.is (omega arith) in let b = x.is (omega arith) in λ i. a i * 64 + b i

      next_small : w * 64 + v ≤ bound (suc k)
      unfolding bound
      next_small = omega (arith, inv.small, x.most)

      pub weighed_on : Weighed s at (k + 1) (w * 64 + v)
      weighed_on = record { is = rw (add-one k) next_is; most = omega arith; small = rw (add-one k) next_small }

-- four letters with values make three bytes, whatever follows
abbrev pub bytes_of : ℕ → ℕ → ℕ → ℕ → List ℕ
bytes_of a b c d = (a * 4 + b / 16) ∷ (b % 16 * 16 + c / 4) ∷ (c % 4 * 64 + d) ∷ []

pub four-front : (a b c d : ℕ) (r : List Sextet) → base64_from (sextet a ∷ sextet b ∷ sextet c ∷ sextet d ∷ r) ≡ after (bytes_of a b c d) (base64_from r)
unfolding base64_from is_padding full_four valued
four-front a b c d [] = refl
four-front a b c d (e ∷ r) = refl

-- the same bytes, by the word
module _ (a b c d : ℕ) (ha : a ≤ 63) (hb : b ≤ 63) (hc : c ≤ 63) (hd : d ≤ 63) where
  low_byte : c % 4 * 64 + d ≡ (((a * 64 + b) * 64 + c) * 64 + d) % 0x100
  low_byte = omega arith

  middle_byte : b % 16 * 16 + c / 4 ≡ (((a * 64 + b) * 64 + c) * 64 + d) / 0x100 % 0x100
  middle_byte = omega arith

  high_byte : a * 4 + b / 16 ≡ (((a * 64 + b) * 64 + c) * 64 + d) / 0x1_0000
  high_byte = omega arith

letter-step : (s : List ℕ) (i j stop : ℕ) → i + 1 ≡ j → i < stop → stop ≤ length s → sextet_weight (get_or s i 0) < 0x100_0000
    → (sextet_weight (get_or s i 0) ≤ 63) × (sextets (span i stop s) ≡ sextet (sextet_weight (get_or s i 0)) ∷ sextets (span j stop s))
letter-step s i j stop e h l w =
    let x = weight_letter (get_or s i 0) (span (i + 1) stop s) w in
    (x.0, ap sextets (span-step s i stop h l) ∙ x.1 ∙ ap (λ (k : ℕ). sextet (sextet_weight (get_or s i 0)) ∷ sextets (span k stop s)) e)

word-yields : (s : List ℕ) (at stop w : ℕ) → at + 4 ≤ stop → stop ≤ length s → w ≡ word_at s at 4 → w < 0x100_0000
    → Yields base64_content s stop at (at + 4) (w / 0x1_0000 ∷ w / 0x100 % 0x100 ∷ w % 0x100 ∷ [])
unfolding base64_content word_at
word-yields s at stop w h l e g =
    let a = sextet_weight (get_or s at 0) in
    let b = sextet_weight (get_or s (at + 1) 0) in
    let c = sextet_weight (get_or s (at + 2) 0) in
    let d = sextet_weight (get_or s (at + 3) 0) in
    let z : at + 0 ≡ at = omega arith in
    let e₀ : sextet_weight (get_or s (at + 0) 0) ≡ a = ap (λ (k : ℕ). sextet_weight (get_or s k 0)) z in
    let f : w ≡ ((a * 64 + b) * 64 + c) * 64 + d = omega (arith, e, e₀) in
    let x₀ = letter-step s at (at + 1) stop refl (omega arith) l (omega arith) in
    let x₁ = letter-step s (at + 1) (at + 2) stop (omega arith) (omega arith) l (omega arith) in
    let x₂ = letter-step s (at + 2) (at + 3) stop (omega arith) (omega arith) l (omega arith) in
    let x₃ = letter-step s (at + 3) (at + 4) stop (omega arith) (omega arith) l (omega arith) in
    let k : sextets (span at stop s) ≡ sextet a ∷ sextet b ∷ sextet c ∷ sextet d ∷ sextets (span (at + 4) stop s) =
    x₀.1 ∙ ap (λ (u : List Sextet). sextet a ∷ u) (x₁.1 ∙ ap (λ (u : List Sextet). sextet b ∷ u) (x₂.1 ∙ ap (λ (u : List Sextet). sextet c ∷ u) x₃.1)) in
    let p₁ : a * 4 + b / 16 ≡ w / 0x1_0000 = high_byte a b c d x₀.0 x₁.0 x₂.0 x₃.0 ∙ ap (λ (k : ℕ). k / 0x1_0000) (sym f) in
    let p₂ : b % 16 * 16 + c / 4 ≡ w / 0x100 % 0x100 = middle_byte a b c d x₀.0 x₁.0 x₂.0 x₃.0 ∙ ap (λ (k : ℕ). k / 0x100 % 0x100) (sym f) in
    let p₃ : c % 4 * 64 + d ≡ w % 0x100 = low_byte a b c d x₀.0 x₁.0 x₂.0 x₃.0 ∙ ap (λ (k : ℕ). k % 0x100) (sym f) in
    record {
      is = ap base64_from k ∙ four-front a b c d (sextets (span (at + 4) stop s)) ∙ (λ j. after (p₁ j ∷ p₂ j ∷ p₃ j ∷ []) (base64_from (sextets (span (at + 4) stop s))));
      ahead = omega arith;
      inside = omega arith;
      short = omega arith;
    }

-- PLACES THAT ARE TOO LATE

module _ (b : List ℕ) (p x y z : ℕ) {late : ℕ} (h : TooLate 0 (length b) 3 late) where
  pub word-past : late ≤ p → Put b b p p (x ∷ y ∷ z ∷ [])
  word-past g = record { same = refl; is = λ l. absurd (omega (arith, h.late p g)); next = λ l. absurd (omega (arith, h.late p g)) }

  pub word-put : p < late → Put b (set (set (set b p x) (p + 1) y) (p + 2) z) p (p + 3) (x ∷ y ∷ z ∷ [])
  word-put g =
      let q = h.early p (omega arith) g in
      let e₁ : p + 1 + 1 ≡ p + 2 = omega arith in
      let e₂ : p + 2 + 1 ≡ p + 3 = omega arith in
      let b₁ = set b p x in
      let l₁ : length b₁ ≡ length b = length-set b p x in
      let b₂ = set b₁ (p + 1) y in
      let l₂ : length b₂ ≡ length b₁ = length-set b₁ (p + 1) y in
      let u = put_one b p x (omega arith) in
      let v : Put b₁ b₂ (p + 1) (p + 2) (y ∷ []) = rw e₁ at (put_one b₁ (p + 1) y (omega arith)) in
      let w : Put b₂ (set b₂ (p + 2) z) (p + 2) (p + 3) (z ∷ []) = rw e₂ at (put_one b₂ (p + 2) z (omega arith)) in
      put-more (put-more u v) w

pub ruleset word_ways = (word-past, word-put)

-- THE LOOP

abbrev pub FoursRead : List ℕ → ℕ → ℕ → List ℕ → List ℕ → ℕ → ℕ → ℕ → Type 0
FoursRead s stop from b b₁ pos at p = Progressed base64_content s stop from b b₁ pos (record { next = at; pos = p; size = (at - from) / 4 * 3 })

module _ {s : List ℕ} {stop from : ℕ} {b : List ℕ} {pos : ℕ} where
  pub fours_start : FoursRead s stop from b b pos from pos
  fours_start =
      let e : 0 ≡ (from - from) / 4 * 3 = omega arith in
      let x : Progressed base64_content s stop from b b pos (record { next = from; pos = pos; size = 0 }) = progress_start in
      rw e at x

  pub fours_on : {b₁ b₂ : List ℕ} {at p w p' last : ℕ} → Within s from stop → FoursRead s stop from b b₁ pos at p → TooLate from stop 4 last → at < last → WordThere s at w → w < 0x100_0000
      → Put b₁ b₂ p p' (w / 0x1_0000 ∷ w / 0x100 % 0x100 ∷ w % 0x100 ∷ []) → FoursRead s stop from b b₂ pos (at + 4) p'
  fours_on {at = at} {w = w} i inv h g e k x =
      let l = inv.ahead in
      let z : (at - from) / 4 * 3 + 3 ≡ (at + 4 - from) / 4 * 3 = omega arith in
      rw z at (progress_more inv (word-yields s at stop w (h.early at l g) i.inside (e.is k) k) x refl)
