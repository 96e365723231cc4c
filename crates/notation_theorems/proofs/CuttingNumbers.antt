-- Indicators, integers and tag openings read well.
use Prim.Native.Nat.{ℕ, zero, suc}
use mathlib.Core.Path.{◌≡◌, refl, sym, ap, ◌∙◌}
use mathlib.Core.Bool.{Bool, true, false}
use mathlib.Core.List.{List, [], ◌∷◌, ◌++◌}
use lib.Dec.{leb, eqb}
use Rattle.cbor.specs.Refusals.{Result, ok, refuse, bind, no_token, float, out_of_range, bad_indicator}
use Rattle.cbor.specs.Widths.{Width, w8, limit}
use Rattle.cbor.specs.Items.{Sign, unsigned, negative}
use Rattle.notation.specs.Classes.{is_word, goes_on, is, class_number, class_of, class_in, class_rows}
use Rattle.cbor.specs.Utf8.{is_in}
use Rattle.cbor.proofs.Tests.{clash}
use Rattle.notation.specs.Scanning.{run, whether}
use Rattle.notation.specs.Indicators.{Indicator, absent, indicated, indicator, Chosen, chosen, misfit, choose}
use Rattle.notation.specs.Tokens.{Token, begins, opens, tagging}
use Rattle.notation.specs.Numbers.{digit_value, is_digit, number_from, digits, makes_float, is_floating, Radix, in_radix, no_radix, radix_of, judged, integer_token, integer, other_integer, decimal, based, after_zero, number}
use Rattle.notation_theorems.proofs.Good.{Stop, stop_nil, stop_at, Like, Good, good_cons}
use Rattle.notation_theorems.proofs.ScanningElements.{word_on, digit-on, float-on, off, radix-none}
use Rattle.notation_theorems.proofs.ScanningSteps.{Sure, sure_ok, sure_refuse, sure_if, sure_then, good_as, like_nil, like_cons, sure_unless, run_sure, whether_sure}

-- INDICATORS
pub indicator_sure : Sure indicator
unfolding indicator goes_on is_word is class_number class_of class_in class_rows is_in
indicator_sure =
    sure_then (whether 0x5f) (λ there r. elim there [ true ↦ bind (run is_word r) (λ w u. ok (indicated w) u) | false ↦ ok absent r ]) (whether_sure 0x5f refl)
    (λ there. sure_if there (λ r. bind (run is_word r) (λ w u. ok (indicated w) u)) (ok absent)
    (sure_then (run is_word) (λ w u. ok (indicated w) u) (run_sure is_word word_on) (λ w. sure_ok (indicated w))) (sure_ok absent))

-- DIGITS, and whether they belong to a float
module _ (radix : ℕ) where
  pub digits_sure : (v : ℕ) → Sure (digits radix v)
  unfolding digits
  digits_sure v = sure_then (run (is_digit radix)) (λ w r. ok (number_from radix v w) r) (run_sure (is_digit radix) (digit-on radix)) (λ w. sure_ok (number_from radix v w))

  floating_stop : (u : List ℕ) → Stop u → is_floating radix u ≡ false
  unfolding is_floating
  floating_stop u stop_nil = refl
  floating_stop u (stop_at {b} h) = rw (off (is_digit radix) (digit-on radix) b h, is_floating) (off (makes_float radix) (float-on radix) b h)

  pub floating_keeps : (s r : List ℕ) → is_floating radix s ≡ true → is_floating radix (s ++ r) ≡ true
  unfolding is_floating
  floating_keeps [] r e = absurd (clash (sym e))
  floating_keeps (b ∷ s) r e = go (is_digit radix b) e (floating_keeps s r)
    where
      go : (v : Bool) → ◌≡◌ {A = Bool} (elim v [ true ↦ is_floating radix s | false ↦ makes_float radix b ]) true → (is_floating radix s ≡ true → is_floating radix (s ++ r) ≡ true)
          → ◌≡◌ {A = Bool} (elim v [ true ↦ is_floating radix (s ++ r) | false ↦ makes_float radix b ]) true
      go true e h = h e
      go false e h = e

  pub floating_lacks : (s t : List ℕ) → Like s t → is_floating radix s ≡ false → is_floating radix t ≡ false
  unfolding is_floating
  floating_lacks [] t l e = like_nil (λ t. is_floating radix t ≡ false) floating_stop t l
  floating_lacks (b ∷ s) t l e = like_cons (λ t. is_floating radix t ≡ false) floating_stop b s (λ u m. go u (is_digit radix b) e (floating_lacks s u m)) t l
    where
      go : (u : List ℕ) (v : Bool) → ◌≡◌ {A = Bool} (elim v [ true ↦ is_floating radix s | false ↦ makes_float radix b ]) false → (is_floating radix s ≡ false → is_floating radix u ≡ false)
          → ◌≡◌ {A = Bool} (elim v [ true ↦ is_floating radix u | false ↦ makes_float radix b ]) false
      go u true e h = h e
      go u false e h = e

  pub unless_floating : {A : Type 0} (rd : List ℕ → Result A) → Sure rd → Sure {A = A} (λ u. elim (is_floating radix u) [ true ↦ refuse float 0 | false ↦ rd u ])
  unless_floating rd h = sure_unless (is_floating radix) floating_keeps floating_lacks float 0 rd h

-- INTEGERS
pub chosen_sure : (c : Chosen) (make : Width → Token) → Sure {A = Token} (λ r. elim c [ chosen w ↦ ok (make w) r | misfit ↦ refuse bad_indicator 0 ])
chosen_sure (chosen w) make = sure_ok (make w)
chosen_sure misfit make = sure_refuse bad_indicator 0

pub judged_sure : (n : ℕ) (c : Chosen) (make : Width → Token) → Sure (judged n c make)
unfolding judged
judged_sure n c make =
    sure_if (leb n (limit w8)) (λ r. elim c [ chosen w ↦ ok (make w) r | misfit ↦ refuse bad_indicator 0 ]) (λ r. refuse out_of_range 0) (chosen_sure c make)
    (sure_refuse out_of_range 0)

integer_sure : (g : Sign) (n : ℕ) (i : Indicator) → Sure (integer g n i)
unfolding integer
integer_sure unsigned n i = judged_sure n (choose i n) (integer_token unsigned n)
integer_sure negative zero i = sure_refuse no_token 0
integer_sure negative (suc n) i = judged_sure n (choose i n) (integer_token negative n)

other_sure : (g : Sign) (n : ℕ) → Sure (other_integer g n)
unfolding other_integer
other_sure g n = sure_then indicator (integer g n) indicator_sure (integer_sure g n)

decimal_sure : (g : Sign) (n : ℕ) → Sure (decimal g n)
unfolding decimal goes_on is_word is class_number class_of class_in class_rows is_in
decimal_sure unsigned n =
    sure_then indicator
    (λ i r. bind (whether 0x28 r) (λ tag u. elim tag [ true ↦ judged n (choose i n) (λ w. begins (opens (tagging w n))) u | false ↦ integer unsigned n i u ]))
    indicator_sure
    (λ i. sure_then (whether 0x28) (λ tag u. elim tag [ true ↦ judged n (choose i n) (λ w. begins (opens (tagging w n))) u | false ↦ integer unsigned n i u ]) (whether_sure 0x28 refl)
    (λ tag. sure_if tag (judged n (choose i n) (λ w. begins (opens (tagging w n)))) (integer unsigned n i)
    (judged_sure n (choose i n) (λ w. begins (opens (tagging w n)))) (integer_sure unsigned n i)))
decimal_sure negative n = other_sure negative n

-- BEHIND A ZERO: whether a radix and a digit of it are next
based_sure : (g : Sign) (radix v : ℕ) → Sure (based g radix v)
unfolding based
based_sure g radix v =
    unless_floating radix (λ s. bind (digits radix v s) (other_integer g)) (sure_then (digits radix v) (other_integer g) (digits_sure radix v) (other_sure g))

abbrev is_digit_of : Radix → ℕ → Bool
is_digit_of (in_radix n) d = is_digit n d
is_digit_of no_radix d = false

is_based : List ℕ → Bool
is_based [] = false
is_based (c ∷ []) = false
is_based (c ∷ d ∷ s) = is_digit_of (radix_of c) d

based_stop : (u : List ℕ) → Stop u → is_based u ≡ false
unfolding is_based
based_stop [] st = refl
based_stop (c ∷ []) st = refl
based_stop (c ∷ d ∷ s) (stop_at h) = ap (λ (x : Radix). is_digit_of x d) (radix-none c h)

digit_off : (x : Radix) (b : ℕ) → goes_on b ≡ false → is_digit_of x b ≡ false
digit_off (in_radix n) b h = off (is_digit n) (digit-on n) b h
digit_off no_radix b h = refl

digit_stop : (c : ℕ) (u : List ℕ) → Stop u → is_based (c ∷ u) ≡ false
unfolding is_based
digit_stop c u stop_nil = refl
digit_stop c u (stop_at {b} h) = digit_off (radix_of c) b h

based_lacks : (s t : List ℕ) → Like s t → is_based s ≡ false → is_based t ≡ false
unfolding is_based
based_lacks [] t l e = like_nil (λ t. is_based t ≡ false) based_stop t l
based_lacks (c ∷ []) t l e = like_cons (λ t. is_based t ≡ false) based_stop c [] (λ u m. like_nil (λ u. is_based (c ∷ u) ≡ false) (digit_stop c) u m) t l
based_lacks (c ∷ d ∷ s) t l e =
    like_cons (λ t. is_based t ≡ false) based_stop c (d ∷ s) (λ u m. like_cons (λ u. is_based (c ∷ u) ≡ false) (digit_stop c) d s (λ v n. e) u m) t l

zero_plain : (g : Sign) (s : List ℕ) → is_based s ≡ false → after_zero g s ≡ decimal g 0 s
unfolding is_based after_zero
zero_plain g [] e = refl
zero_plain g (c ∷ []) e = refl
zero_plain g (c ∷ d ∷ s) e = go (radix_of c) e
  where
    go : (x : Radix) → is_digit_of x d ≡ false
        → ◌≡◌ {A = Result Token} (elim x [ in_radix n ↦ elim (is_digit n d) [ true ↦ based g n (digit_value d) s | false ↦ decimal g 0 (c ∷ d ∷ s) ] | no_radix ↦ decimal g 0 (c ∷ d ∷ s) ])
        (decimal g 0 (c ∷ d ∷ s))
    go (in_radix n) e = rw e
    go no_radix e = refl

zero-good : (g : Sign) (s : List ℕ) → is_based s ≡ false → Good (λ p q. after_zero g) s (decimal g 0 s)
zero-good g s e = good_as (after_zero g) (decimal g 0) s (λ t l. zero_plain g t (based_lacks s t l e)) (decimal g 0 s) (decimal_sure g 0 s)

zero_sure : (g : Sign) → Sure (after_zero g)
unfolding after_zero is_based
zero_sure g [] = zero-good g [] refl
zero_sure g (c ∷ []) = zero-good g (c ∷ []) refl
zero_sure g (c ∷ d ∷ s) = go (radix_of c) refl
  where
    tested : (n : ℕ) → radix_of c ≡ in_radix n → (v : Bool) → is_digit n d ≡ v
        → Good {A = Token} (λ p q. after_zero g) (c ∷ d ∷ s) (elim v [ true ↦ based g n (digit_value d) s | false ↦ decimal g 0 (c ∷ d ∷ s) ])
    tested n f true e =
        good_cons (λ p q. after_zero g) (λ p q u. after_zero g (c ∷ u)) c (λ p q u. refl) (d ∷ s) (based g n (digit_value d) s)
        (good_cons (λ p q u. after_zero g (c ∷ u)) (λ p q. based g n (digit_value d)) d (λ p q u. rw (f, after_zero) (rw e)) s (based g n (digit_value d) s)
        (based_sure g n (digit_value d) s))
    tested n f false e = zero-good g (c ∷ d ∷ s) (ap (λ (x : Radix). is_digit_of x d) f ∙ e)

    go : (x : Radix) → radix_of c ≡ x
        → Good {A = Token} (λ p q. after_zero g) (c ∷ d ∷ s)
        (elim x [ in_radix n ↦ elim (is_digit n d) [ true ↦ based g n (digit_value d) s | false ↦ decimal g 0 (c ∷ d ∷ s) ] | no_radix ↦ decimal g 0 (c ∷ d ∷ s) ])
    go (in_radix n) f = tested n f (is_digit n d) refl
    go no_radix f = zero-good g (c ∷ d ∷ s) (ap (λ (x : Radix). is_digit_of x d) f)

pub number_sure : (g : Sign) (b : ℕ) → Sure (number g b)
unfolding number
number_sure g b =
    unless_floating 10 (λ s. elim (eqb b 0x30) [ true ↦ after_zero g s | false ↦ bind (digits 10 (digit_value b) s) (decimal g) ])
    (sure_if (eqb b 0x30) (after_zero g) (λ s. bind (digits 10 (digit_value b) s) (decimal g)) (zero_sure g)
    (sure_then (digits 10 (digit_value b)) (decimal g) (digits_sure 10 (digit_value b)) (decimal_sure g)))
