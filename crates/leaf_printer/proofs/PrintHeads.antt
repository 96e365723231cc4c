-- Printing what a head says: indicators, numbers, quotes, simple values.
-- Assumes nothing.
use mathlib.Core.Path.{◌≡◌, refl, sym, ap, ◌∙◌}
use mathlib.Core.Bool.{Bool, true, false}
use mathlib.Core.List.{List, [], ◌∷◌, ◌++◌}
use Prim.Native.Nat.{ℕ, suc, ◌*◌, ◌^◌, ◌≤◌, ◌<◌}
use native.Mathlib.Omega.{arith}
use lib.Dec.{leb, eqb}
use lib.ListN.{length}
use mir.Syntax.{w64 as bits64}
use mir.Val.{Fits}
use borrow.Author.Tests.{ne_eqb, leb-true}
use Rattle.cbor.specs.Ascii.{ascii}
use Rattle.cbor.specs.Widths.{Width, w0, w1, w2, w4, w8, argument_bytes, limit, fits, shortest, information}
use Rattle.cbor.specs.Items.{Size, definite}
use Rattle.head.specs.HeadAnswers.{argument_size}
use Rattle.notation.specs.Printing.{decimal_of, width_name, indicator_of, blank_behind, size_of, print_int, print_string}
use Rattle.cbor.specs.Flags.{kind_of, sign_of}
use Rattle.text_output.specs.PrintParts.{Prints, content_of, width_by, size_by, quote_of, open_quote, other_simple}
use Rattle.text_output.proofs.PrintLeaves.{prints-more, prints_as, prints-none}

-- WIDTHS

size-by : (i : ℕ) → argument_size i ≡ argument_bytes (width_by i)
unfolding argument_size width_by argument_bytes
size-by i = go (eqb i 24) (eqb i 25) (eqb i 26) (eqb i 27)
  where
    go : (a b c d : Bool) → elim a [ true ↦ 1 | false ↦ elim b [ true ↦ 2 | false ↦ elim c [ true ↦ 4 | false ↦ elim d [ true ↦ 8 | false ↦ 0 ] ] ] ]
        ≡ argument_bytes (elim a [ true ↦ w1 | false ↦ elim b [ true ↦ w2 | false ↦ elim c [ true ↦ w4 | false ↦ elim d [ true ↦ w8 | false ↦ w0 ] ] ] ])
    go true b c d = refl
    go false true c d = refl
    go false false true d = refl
    go false false false true = refl
    go false false false false = refl

-- additional information up to 23 is an argument itself
pub width_low : (n : ℕ) → n ≤ 23 → width_by n ≡ w0
unfolding width_by
width_low n h =
    let a : n ≡ 24 → ⊥ = omega arith in
    let b : n ≡ 25 → ⊥ = omega arith in
    let c : n ≡ 26 → ⊥ = omega arith in
    let d : n ≡ 27 → ⊥ = omega arith in
    simp (width_by, ne_eqb n 24 a, ne_eqb n 25 b, ne_eqb n 26 c, ne_eqb n 27 d)

pub width_back : (w : Width) (n : ℕ) → n ≤ limit w → width_by (information w n) ≡ w
unfolding width_by information limit
width_back w0 n h = width_low n h
width_back w1 n h = refl
width_back w2 n h = refl
width_back w4 n h = refl
width_back w8 n h = refl

-- the shortest width holds its argument, or is the widest, whose additional information is no argument
shortest-back : (n : ℕ) → width_by (information (shortest n) n) ≡ shortest n
unfolding shortest fits limit width_by information
shortest-back n = go (leb n 23) refl (leb n 0xff) (leb n 0xffff) (leb n 0xffff_ffff)
  where
    go : (a : Bool) → leb n 23 ≡ a → (b c d : Bool) → width_by (information (elim a [ true ↦ w0 | false ↦ elim b [ true ↦ w1 | false ↦ elim c [ true ↦ w2 | false ↦ elim d [ true ↦ w4 | false ↦ w8 ] ] ] ]) n)
        ≡ elim a [ true ↦ w0 | false ↦ elim b [ true ↦ w1 | false ↦ elim c [ true ↦ w2 | false ↦ elim d [ true ↦ w4 | false ↦ w8 ] ] ] ]
    go true e b c d = width_low n (leb-true n 23 e)
    go false e true c d = refl
    go false e false true d = refl
    go false e false false true = refl
    go false e false false false = refl

pub shortest_test : (i n : ℕ) {x y z : ℕ} → x ≡ argument_size i → y ≡ information (shortest n) n → z ≡ argument_size y
    → eqb x z ≡ eqb (argument_bytes (width_by i)) (argument_bytes (shortest n))
shortest_test i n {x} {y} {z} e f g =
    let a : x ≡ argument_bytes (width_by i) = e ∙ size-by i in
    let b : z ≡ argument_bytes (shortest n) = g ∙ size-by y ∙ ap (λ (k : ℕ). argument_bytes (width_by k)) f ∙ ap argument_bytes (shortest-back n) in
    λ j. eqb (a j) (b j)

-- INDICATORS

pub indicator-by : (w : Width) (n : ℕ) (t : Bool) → t ≡ eqb (argument_bytes w) (argument_bytes (shortest n)) → indicator_of w n ≡ elim t [ true ↦ [] | false ↦ 0x5f ∷ width_name w ∷ [] ]
unfolding indicator_of
indicator-by w n t e = rw (sym e, indicator_of)

module _ (i n : ℕ) {b : List ℕ} {pos : ℕ} {t : Bool} (e : t ≡ eqb (argument_bytes (width_by i)) (argument_bytes (shortest n))) where
  pub mark-none : length b * 1 < 2 ^ 63 → Fits bits64 pos → t ≡ true → Prints b b pos (indicator_of (width_by i) n) pos
  mark-none h u f = prints_as (sym (indicator-by (width_by i) n true (sym f ∙ e))) (prints-none h u)

  module _ {b₁ b₂ : List ℕ} {v p q : ℕ} where
    pub mark-some : t ≡ false → v ≡ width_name (width_by i) → Prints b b₁ pos (0x5f ∷ []) p → Prints b₁ b₂ p (v ∷ []) q → Prints b b₂ pos (indicator_of (width_by i) n) q
    mark-some f g x y = prints_as (ap (λ (k : ℕ). 0x5f ∷ k ∷ []) g ∙ sym (indicator-by (width_by i) n false (sym f ∙ e))) (prints-more x y)

-- behind a bracket
pub size_open : (i n : ℕ) → i ≡ 31 → size_of (size_by i) n ≡ ascii "_ "
unfolding size_of size_by
size_open i n e = rw e

pub size_shut : (i n : ℕ) → (i ≡ 31 → ⊥) → size_of (size_by i) n ≡ blank_behind (indicator_of (width_by i) n)
unfolding size_of size_by
size_shut i n e = let z : size_by i ≡ definite (width_by i) = rw (ne_eqb i 31 e, size_by) in ap (λ (x : Size). size_of x n) z

module _ (i n : ℕ) {b : List ℕ} {pos : ℕ} where
  pub size-indefinite : {b₁ : List ℕ} {p : ℕ} → i ≡ 31 → Prints b b₁ pos (ascii "_ ") p → Prints b b₁ pos (size_of (size_by i) n) p
  size-indefinite e f = prints_as (sym (size_open i n e)) f

  module _ {t : Bool} (m : i ≡ 31 → ⊥) (e : t ≡ eqb (argument_bytes (width_by i)) (argument_bytes (shortest n))) where
    pub size_none : length b * 1 < 2 ^ 63 → Fits bits64 pos → t ≡ true → Prints b b pos (size_of (size_by i) n) pos
    unfolding blank_behind
    size_none h u f = prints_as (sym (size_shut i n m ∙ ap blank_behind (indicator-by (width_by i) n true (sym f ∙ e)))) (prints-none h u)

    pub size-some : {b₁ b₂ : List ℕ} {p q : ℕ} → t ≡ false → Prints b b₁ pos (indicator_of (width_by i) n) p → Prints b₁ b₂ p (0x20 ∷ []) q → Prints b b₂ pos (size_of (size_by i) n) q
    unfolding blank_behind
    size-some f x y =
        let k = indicator-by (width_by i) n false (sym f ∙ e) in
        prints_as (ap (λ (v : List ℕ). v ++ 0x20 ∷ []) k ∙ sym (size_shut i n m ∙ ap blank_behind k)) (prints-more x y)

pub ruleset size_ways = (size-indefinite, size_none, size-some)

-- INTEGERS AND SIMPLE VALUES

module _ (i n : ℕ) {g : Bool} {b b₁ b₂ : List ℕ} {pos p q : ℕ} where
  pub int-unsigned : g ≡ false → Prints b b₁ pos (decimal_of n) p → Prints b₁ b₂ p (indicator_of (width_by i) n) q → Prints b b₂ pos (print_int (sign_of g) (width_by i) n) q
  unfolding sign_of print_int
  int-unsigned e x y = rw e (prints-more x y)

  pub int_negative : {b₃ : List ℕ} {r : ℕ} → g ≡ true → Prints b b₁ pos (0x2d ∷ []) p → Prints b₁ b₂ p (decimal_of (suc n)) q
      → Prints b₂ b₃ q (indicator_of (width_by i) n) r → Prints b b₃ pos (print_int (sign_of g) (width_by i) n) r
  unfolding sign_of print_int
  int_negative e x y z = rw e (prints-more x (prints-more y z))

pub ruleset int_ways = (int-unsigned, int_negative)

pub simple-other : (n : ℕ) {b b₁ b₂ b₃ : List ℕ} {pos p q r : ℕ} → Prints b b₁ pos (ascii "simple(") p → Prints b₁ b₂ p (decimal_of n) q → Prints b₂ b₃ q (0x29 ∷ []) r
    → Prints b b₃ pos (other_simple n) r
unfolding other_simple
simple-other n x y z = prints-more x (prints-more y z)

-- STRINGS

pub string-is : (t : Bool) (w : Width) (s : List ℕ) → open_quote t ++ (content_of t s ++ (quote_of t ∷ indicator_of w (length s))) ≡ print_string (kind_of t) w s
unfolding open_quote content_of quote_of kind_of print_string
string-is true w s = refl
string-is false w s = refl

pub string-whole : (t : Bool) (i : ℕ) (s : List ℕ) {b b₁ b₂ b₃ b₄ : List ℕ} {v pos p q e r : ℕ} → v ≡ quote_of t → Prints b b₁ pos (open_quote t) p → Prints b₁ b₂ p (content_of t s) q
    → Prints b₂ b₃ q (v ∷ []) e → Prints b₃ b₄ e (indicator_of (width_by i) (length s)) r → Prints b b₄ pos (print_string (kind_of t) (width_by i) s) r
string-whole t i s f x y z u =
    prints_as (ap (λ (k : ℕ). open_quote t ++ (content_of t s ++ (k ∷ indicator_of (width_by i) (length s)))) f ∙ string-is t (width_by i) s)
    (prints-more x (prints-more y (prints-more z u)))
