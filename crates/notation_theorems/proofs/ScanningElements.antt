-- Facts about single elements of a text: what can stand inside a token, and what can begin one.
use Prim.Native.Nat.{ℕ, suc, ◌-◌, ◌≤◌}
use native.Mathlib.Omega.{arith}
use mathlib.Core.Path.{◌≡◌, refl, sym, ap, ◌∙◌}
use mathlib.Core.Bool.{Bool, true, false, ◌&&◌, ◌||◌, not}
use mathlib.Core.List.{List, [], ◌∷◌}
use lib.Dec.{T, ltb, eqb}
use lib.ListN.{get_or, replicate}
use borrow.Author.Tests.{ltb-true, ltb-false, eqb-true}
use Rattle.cbor.specs.Utf8.{Range, ◌to◌, is_in}
use Rattle.cbor.proofs.Utf8Laws.{both_true, is_in_lem}
use Rattle.cbor.proofs.Table.{every, between}
use Rattle.cbor.proofs.Tests.{is_true, clash, either_true}
use Rattle.notation.specs.Classes.{Class, other, blank, digit, letter, underscore, minus, dot, quote, apostrophe, slash, hash, comma, colon, open_paren, close_paren, open_bracket, close_bracket, open_brace, close_brace, less, greater, end_mark, class_number, ClassRow, class_rows, class_in, class_of, is, is_word, goes_on}
use Rattle.notation.specs.Numbers.{Digit, worth, no_digit, digit_at, is_digit, makes_float, no_radix, radix_of}

-- WHAT GOES ON IN A TOKEN: words, digits of each radix, and what makes a float of digits
pub word_on : (b : ℕ) → is_word b ≡ true → goes_on b ≡ true
unfolding goes_on
word_on b e = rw e

one_on : (c : ℕ) → goes_on c ≡ true → (b : ℕ) → eqb b c ≡ true → goes_on b ≡ true
one_on c h b e = rw (eqb-true b c e) h

range_on : (g : Range) → T (every (λ k x. goes_on k) g.low (replicate (suc g.high - g.low) 0)) → (b : ℕ) → is_in g b ≡ true → goes_on b ≡ true
range_on g t b e = let i = is_in_lem g b e in is_true (goes_on b) (between goes_on g.low (suc g.high) t b i.0 (omega arith))

-- a fact of a digit in each of its ranges, and of none
pub digit_cases : (P : Digit → Type 0) (b : ℕ) → (is_in (0x30 to 0x39) b ≡ true → P (worth (b - 0x30))) → (is_in (0x61 to 0x66) b ≡ true → P (worth (b - 0x57)))
    → (is_in (0x41 to 0x46) b ≡ true → P (worth (b - 0x37))) → P no_digit → P (digit_at b)
digit_cases P b f g h k = go (is_in (0x30 to 0x39) b) (is_in (0x61 to 0x66) b) (is_in (0x41 to 0x46) b) f g h
  where
    go : (u v w : Bool) → (u ≡ true → P (worth (b - 0x30))) → (v ≡ true → P (worth (b - 0x57))) → (w ≡ true → P (worth (b - 0x37)))
        → P (elim u [ true ↦ worth (b - 0x30) | false ↦ elim v [ true ↦ worth (b - 0x57) | false ↦ elim w [ true ↦ worth (b - 0x37) | false ↦ no_digit ] ] ])
    go true v w f g h = f refl
    go false true w f g h = g refl
    go false false true f g h = h refl
    go false false false f g h = k

pub digit-on : (radix b : ℕ) → is_digit radix b ≡ true → goes_on b ≡ true
unfolding is_digit goes_on is_word is class_number class_of class_in class_rows is_in
digit-on radix b =
    digit_cases (λ d. ◌≡◌ {A = Bool} (elim d [ worth v ↦ ltb v radix | no_digit ↦ false ]) true → goes_on b ≡ true) b
    (λ i e. range_on (0x30 to 0x39) tt b i) (λ i e. range_on (0x61 to 0x66) tt b i) (λ i e. range_on (0x41 to 0x46) tt b i) (λ e. absurd (clash (sym e)))

pub float-on : (radix b : ℕ) → makes_float radix b ≡ true → goes_on b ≡ true
unfolding makes_float goes_on is_word is class_number class_of class_in class_rows is_in
float-on radix b e =
    either_true (eqb b 0x2e && (eqb radix 10 || eqb radix 16)) (eqb radix 10 && (eqb b 0x65 || eqb b 0x45) || eqb radix 16 && (eqb b 0x70 || eqb b 0x50)) e
    (λ h. one_on 0x2e refl b (both_true (eqb b 0x2e) (eqb radix 10 || eqb radix 16) h).0)
    (λ h. either_true (eqb radix 10 && (eqb b 0x65 || eqb b 0x45)) (eqb radix 16 && (eqb b 0x70 || eqb b 0x50)) h
    (λ k. either_true (eqb b 0x65) (eqb b 0x45) (both_true (eqb radix 10) (eqb b 0x65 || eqb b 0x45) k).1 (one_on 0x65 refl b) (one_on 0x45 refl b))
    (λ k. either_true (eqb b 0x70) (eqb b 0x50) (both_true (eqb radix 16) (eqb b 0x70 || eqb b 0x50) k).1 (one_on 0x70 refl b) (one_on 0x50 refl b)))

-- so an element that goes on in no token passes no such test
pub off : (test : ℕ → Bool) → ((b : ℕ) → test b ≡ true → goes_on b ≡ true) → (b : ℕ) → goes_on b ≡ false → test b ≡ false
off test h b g = go (test b) refl
  where
    go : (v : Bool) → test b ≡ v → v ≡ false
    go true e = absurd (clash (sym (h b e) ∙ g))
    go false e = refl

pub off_is : (c : ℕ) → goes_on c ≡ true → (b : ℕ) → goes_on b ≡ false → eqb b c ≡ false
off_is c h = off (λ b. eqb b c) (one_on c h)

pub radix-none : (c : ℕ) → goes_on c ≡ false → radix_of c ≡ no_radix
unfolding radix_of goes_on is_word is class_number class_of class_in class_rows is_in
radix-none c h = rw (off_is 0x78 refl c h, radix_of) (rw (off_is 0x6f refl c h) (rw (off_is 0x62 refl c h)))

-- BLANKS
pub blank-is_not : (c : ℕ) → is blank c ≡ false → (b : ℕ) → is blank b ≡ true → eqb b c ≡ false
blank-is_not c h b e = go (eqb b c) refl
  where
    go : (v : Bool) → eqb b c ≡ v → v ≡ false
    go true i = absurd (clash (sym e ∙ (ap (is blank) (eqb-true b c i) ∙ h)))
    go false i = refl

-- CLASSES, which their numbers tell apart
classes : List Class
classes =
    other ∷ blank ∷ digit ∷ letter ∷ underscore ∷ minus ∷ dot ∷ quote ∷ apostrophe ∷ slash ∷ hash ∷ comma ∷ colon
    ∷ open_paren ∷ close_paren ∷ open_bracket ∷ close_bracket ∷ open_brace ∷ close_brace ∷ less ∷ greater ∷ end_mark ∷ []

class-at : (k : Class) → get_or classes (class_number k) other ≡ k
unfolding classes class_number
class-at other = refl
class-at blank = refl
class-at digit = refl
class-at letter = refl
class-at underscore = refl
class-at minus = refl
class-at dot = refl
class-at quote = refl
class-at apostrophe = refl
class-at slash = refl
class-at hash = refl
class-at comma = refl
class-at colon = refl
class-at open_paren = refl
class-at close_paren = refl
class-at open_bracket = refl
class-at close_bracket = refl
class-at open_brace = refl
class-at close_brace = refl
class-at less = refl
class-at greater = refl
class-at end_mark = refl

pub class-is : (k : Class) (b : ℕ) → is k b ≡ true → class_of b ≡ k
unfolding is
class-is k b e = sym (class-at (class_of b)) ∙ (ap (λ n. get_or classes n other) (sym (eqb-true (class_number k) (class_number (class_of b)) e)) ∙ class-at k)

-- WHAT CAN BEGIN A TOKEN: nothing from 128 on but the end mark
abbrev narrow : ClassRow → Bool
narrow w = ltb w.bytes.high 128 || (eqb w.bytes.low 256 && eqb w.bytes.high 256)

abbrev all_narrow : List ClassRow → Bool
all_narrow [] = true
all_narrow (w ∷ ws) = narrow w && all_narrow ws

class-other : (ws : List ClassRow) → all_narrow ws ≡ true → (b : ℕ) → 128 ≤ b → (b ≡ 256 → ⊥) → class_in ws b ≡ other
unfolding class_in
class-other [] n b h k = refl
class-other (w ∷ ws) n b h k = let p = both_true (narrow w) (all_narrow ws) n in go (is_in w.bytes b) refl p.0 (class-other ws p.1 b h k)
  where
    out : is_in w.bytes b ≡ true → narrow w ≡ true → ⊥
    out e t =
        let i = is_in_lem w.bytes b e in
        either_true (ltb w.bytes.high 128) (eqb w.bytes.low 256 && eqb w.bytes.high 256) t (λ l. omega (arith, ltb-true w.bytes.high 128 l))
        (λ l. let m = both_true (eqb w.bytes.low 256) (eqb w.bytes.high 256) l in k (omega (arith, eqb-true w.bytes.low 256 m.0, eqb-true w.bytes.high 256 m.1)))

    go : (v : Bool) → is_in w.bytes b ≡ v → narrow w ≡ true → class_in ws b ≡ other → ◌≡◌ {A = Class} (elim v [ true ↦ w.class | false ↦ class_in ws b ]) other
    go true e t i = absurd (out e t)
    go false e t i = i

pub high-other : (b : ℕ) → 128 ≤ b → (b ≡ 256 → ⊥) → class_of b ≡ other
unfolding class_of class_rows
high-other b = class-other class_rows refl b

-- a byte of the class of digits is a decimal digit
pub class-digit : (b : ℕ) → is digit b ≡ true → is_digit 10 b ≡ true
unfolding is is_digit class_number class_of class_in class_rows is_in
class-digit b e = go (ltb b 257) refl
  where
    go : (v : Bool) → ltb b 257 ≡ v → is_digit 10 b ≡ true
    go true l = rw e at (is_true (not (is digit b) || is_digit 10 b) (between (λ k. not (is digit k) || is_digit 10 k) 0 257 tt b (omega arith) (ltb-true b 257 l)))
    go false l =
        let h = ltb-false b 257 l in
        absurd (clash (sym e ∙ ap (λ (k : Class). eqb (class_number digit) (class_number k)) (high-other b (omega arith) (λ z. omega arith))))
