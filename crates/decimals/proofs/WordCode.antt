-- Decimal digits by one word: which of its low bytes are digits, and what number they make. A word is taken apart from its low end,
-- one byte in each step.
-- Assumes nothing.
use Rattle.std.proofs.Common.{◌≡◌, ℕ, zero, suc, ◌+◌, ◌-◌, ◌*◌, ◌/◌, ◌%◌, ◌^◌, ◌<◌, ◌≤◌, max, true, List, length, get_or, sym, refl, ap, ◌∙◌, mul_assoc, add_comm, pow-suc, mul-one, mul-div_cancel, arith, pow_pos, pow-add, w8 as bits8, w64 as bits64, Fits}
use native.Mathlib.Nat.{mod-one, mul-mod_left, div-div-eq-div-mul, pow-le-pow_right, one-le-pow}
use lib.Arith.{mod-mul}
use lib.Bits.{bit_and, bit_or, and_high, and_mod, and_shr, or_mod, or_shifted_r, or_shr, or_step}
use lib.Count.{count_trailing_zeros, under, trailing_le}
use Rattle.notation.specs.Numbers.{digit_value, is_digit}
use Rattle.decimals.specs.DigitParts.{Worth, Tally}
use Rattle.decimals.specs.WordParts.{Wide, word_at, Eight, Small, none, one, joined, Marks, Clear, Raised}
use Rattle.decimals.proofs.DigitCode.{a-digit, worth-is, tally_start, tally_on}

-- BYTES

-- k bytes, each of them b
abbrev every : ℕ → ℕ → ℕ
every b zero = 0
every b (suc k) = b + 256 * every b k

-- the low byte and the others, of a number of k + 1 bytes
low_first : (n k : ℕ) → n % 256 ^ suc k ≡ (n / 256 % 256 ^ k) * 256 + n % 256
low_first n k = ap (λ (p : ℕ). n % p) (pow-suc 256 k) ∙ mod-mul n (one-le-pow k 256 (omega arith)) (omega arith)

-- THE WORD OF EIGHT

-- what was joined, and the byte that is joined to it at the next place
next-byte : {p b : ℕ} (r k : ℕ) → p < 2 ^ k → Wide b r → bit_or p (r * 2 ^ k) ≡ p + b * 2 ^ k
next-byte {p} r k l w = or_shifted_r r k p l ∙ (add_comm (r * 2 ^ k) p ∙ ap (λ (v : ℕ). p + v * 2 ^ k) w.is)

pub eight_is : {s : List ℕ} {at a b c d e f g h : ℕ} → ((i : ℕ) → Fits bits8 (get_or s i 0))
    → Wide (get_or s at 0) a → Wide (get_or s (at + 1) 0) b → Wide (get_or s (at + 2) 0) c → Wide (get_or s (at + 3) 0) d
    → Wide (get_or s (at + 4) 0) e → Wide (get_or s (at + 5) 0) f → Wide (get_or s (at + 6) 0) g → Wide (get_or s (at + 7) 0) h
    → Eight s at (bit_or (bit_or (bit_or (bit_or (bit_or (bit_or (bit_or a (b * 0x100)) (c * 0x1_0000)) (d * 0x100_0000)) (e * 0x1_0000_0000)) (f * 0x100_0000_0000)) (g * 0x1_0000_0000_0000)) (h * 0x100_0000_0000_0000))
unfolding word_at
eight_is {s} {at} {a} {b} {c} {d} {e} {f} {g} {h} l p₀ p₁ p₂ p₃ p₄ p₅ p₆ p₇ =
    let z₂ : at + 1 + 1 ≡ at + 2 = omega arith in
    let z₃ : at + 2 + 1 ≡ at + 3 = omega arith in
    let z₄ : at + 3 + 1 ≡ at + 4 = omega arith in
    let z₅ : at + 4 + 1 ≡ at + 5 = omega arith in
    let z₆ : at + 5 + 1 ≡ at + 6 = omega arith in
    let z₇ : at + 6 + 1 ≡ at + 7 = omega arith in
    let l₀ : get_or s at 0 < 256 = omega (arith, (l at).fits) in
    let l₁ : get_or s (at + 1) 0 < 256 = omega (arith, (l (at + 1)).fits) in
    let l₂ : get_or s (at + 2) 0 < 256 = omega (arith, (l (at + 2)).fits) in
    let l₃ : get_or s (at + 3) 0 < 256 = omega (arith, (l (at + 3)).fits) in
    let l₄ : get_or s (at + 4) 0 < 256 = omega (arith, (l (at + 4)).fits) in
    let l₅ : get_or s (at + 5) 0 < 256 = omega (arith, (l (at + 5)).fits) in
    let l₆ : get_or s (at + 6) 0 < 256 = omega (arith, (l (at + 6)).fits) in
    let e₀ = p₀.is in
    let e₁ = next-byte {p = a} b 8 (omega arith) p₁ in
    let e₂ = next-byte {p = bit_or a (b * 0x100)} c 16 (omega arith) p₂ in
    let e₃ = next-byte {p = bit_or (bit_or a (b * 0x100)) (c * 0x1_0000)} d 24 (omega arith) p₃ in
    let e₄ = next-byte {p = bit_or (bit_or (bit_or a (b * 0x100)) (c * 0x1_0000)) (d * 0x100_0000)} e 32 (omega arith) p₄ in
    let e₅ = next-byte {p = bit_or (bit_or (bit_or (bit_or a (b * 0x100)) (c * 0x1_0000)) (d * 0x100_0000)) (e * 0x1_0000_0000)} f 40 (omega arith) p₅ in
    let e₆ = next-byte {p = bit_or (bit_or (bit_or (bit_or (bit_or a (b * 0x100)) (c * 0x1_0000)) (d * 0x100_0000)) (e * 0x1_0000_0000)) (f * 0x100_0000_0000)} g 48 (omega arith) p₆ in
    let e₇ = next-byte {p = bit_or (bit_or (bit_or (bit_or (bit_or (bit_or a (b * 0x100)) (c * 0x1_0000)) (d * 0x100_0000)) (e * 0x1_0000_0000)) (f * 0x100_0000_0000)) (g * 0x1_0000_0000_0000)} h 56 (omega arith) p₇ in
    record { is = rw (z₂, z₃, z₄, z₅, z₆, z₇) (omega arith); bytes = λ i. omega (arith, (l i).fits) }

-- MARKS

both_even : (x y q o : ℕ) → x < 2 → y < 2 → o ≡ q * 2 + max (x % 2) (y % 2) → o % 2 ≡ 0 → (x ≡ 0) × (y ≡ 0)
both_even x y q o lx ly e h =
    let m : max (x % 2) (y % 2) ≡ 0 = omega arith in
    (omega arith, omega arith)

-- neither byte has the high bit
both_low : (a b : ℕ) → a < 256 → b < 256 → bit_and (bit_or a b) 0x80 ≡ 0 → (a < 128) × (b < 128)
both_low a b la lb e =
    let h : bit_and (bit_or a b) 0x80 ≡ (bit_or a b / 128 % 2) * 128 = and_high (bit_or a b) 1 7 in
    let z : bit_or a b / 128 % 2 ≡ 0 = omega arith in
    let o : bit_or (a / 128) (b / 128) % 2 ≡ 0 = ap (λ (v : ℕ). v % 2) (sym (or_shr a b 7)) ∙ z in
    let p = both_even (a / 128) (b / 128) (bit_or (a / 128 / 2) (b / 128 / 2)) (bit_or (a / 128) (b / 128)) (omega arith) (omega arith) (or_step (a / 128) (b / 128)) o in
    (omega (arith, p.0), omega (arith, p.1))

-- a low byte below 0x80 before and after 0x76 is added to it is at most 9, and carries nothing into the next one
small_marks : (n m x z t : ℕ) → n ≤ m → z ≡ (x + every 0x76 m) % 256 ^ m → t ≡ bit_and (bit_or z x) (every 0x80 m) → t % 256 ^ n ≡ 0 → Small n x
small_marks zero m x z t h p q r = none
small_marks (suc n) zero x z t h p q r = absurd (omega arith)
small_marks (suc n) (suc m) x z t h p q r =
    let t₁ = low_first t n in
    let z₁ = low_first (x + every 0x76 (suc m)) m in
    let eh : every 0x80 (suc m) % 256 ≡ 0x80 = omega arith in
    let eo : every 0x80 (suc m) / 256 ≡ every 0x80 m = omega arith in
    let lo : t % 256 ≡ bit_and (bit_or (z % 256) (x % 256)) 0x80 = ap (λ (v : ℕ). v % 256) q ∙ (and_mod (bit_or z x) (every 0x80 (suc m)) 8 ∙ (rw (or_mod z x 8, eh))) in
    let hi : t / 256 ≡ bit_and (bit_or (z / 256) (x / 256)) (every 0x80 m) = ap (λ (v : ℕ). v / 256) q ∙ (and_shr (bit_or z x) (every 0x80 (suc m)) 8 ∙ (rw (or_shr z x 8, eo))) in
    let b = both_low (z % 256) (x % 256) (omega arith) (omega arith) (sym lo ∙ omega arith) in
    let l : x % 256 ≤ 9 = omega arith in
    let c : (x + every 0x76 (suc m)) / 256 ≡ x / 256 + every 0x76 m = omega arith in
    let w : z / 256 ≡ (x / 256 + every 0x76 m) % 256 ^ m = omega (arith, ap (λ (v : ℕ). v % 256 ^ m) c) in
    one l (small_marks n m (x / 256) (z / 256) (t / 256) (omega arith) w hi (omega arith))

pub marks_are : {x z : ℕ} → z ≡ (x + 0x7676_7676_7676_7676) % 2 ^ 64 → Marks x (bit_and (bit_or z x) 0x8080_8080_8080_8080)
marks_are {x} {z} e = record { is = λ n h r. small_marks n 8 x z (bit_and (bit_or z x) 0x8080_8080_8080_8080) h e refl r }

-- ZEROS AT THE LOW END

-- as many low bits are zeros as are counted
tz_low : (d n k : ℕ) → k ≤ count_trailing_zeros d n → n % 2 ^ k ≡ 0
unfolding count_trailing_zeros
tz_low d n zero h = mod-one n
tz_low zero n (suc k) h = absurd (omega arith)
tz_low (suc d) n (suc k) h = go (n % 2) refl (tz_low d (n / 2) k) h
  where
    go : (r : ℕ) → n % 2 ≡ r → (k ≤ count_trailing_zeros d (n / 2) → n / 2 % 2 ^ k ≡ 0) → suc k ≤ under r (count_trailing_zeros d (n / 2)) → n % 2 ^ suc k ≡ 0
    go zero e f l =
        let i = f (omega arith) in
        ap (λ (p : ℕ). n % p) (pow-suc 2 k) ∙ (mod-mul n (pow_pos k) (omega arith) ∙ omega arith)
    go (suc r) e f l = absurd (omega arith)

-- a byte is eight bits
pow_bytes : (n : ℕ) → 256 ^ n ≡ 2 ^ (n * 8)
pow_bytes zero = refl
pow_bytes (suc n) =
    let z : suc n * 8 ≡ n * 8 + 8 = omega arith in
    pow-suc 256 n ∙ (ap (λ (p : ℕ). p * 256) (pow_bytes n) ∙ (rw z (sym (pow-add 2 (n * 8) 8))))

pub clear_is : (t : ℕ) → Clear t (count_trailing_zeros 64 t / 8)
clear_is t =
    let k = count_trailing_zeros 64 t in
    record { is = rw (pow_bytes (k / 8)) (tz_low 64 t (k / 8 * 8) (omega arith)); most = omega (arith, trailing_le 64 t) }

-- DIGITS IN THE HIGH BYTES

-- bytes above those that count change nothing
joined_mod : (v n x : ℕ) → joined v n (x % 256 ^ n) ≡ joined v n x
unfolding joined
joined_mod v zero x = refl
joined_mod v (suc n) x =
    let l = low_first x n in
    let a : x % 256 ^ suc n % 256 ≡ x % 256 = omega arith in
    let b : x % 256 ^ suc n / 256 ≡ x / 256 % 256 ^ n = omega arith in
    rw (a, b) (joined_mod (v * 10 + x % 256) n (x / 256))

small_mod : (n x : ℕ) → Small n x → Small n (x % 256 ^ n)
small_mod zero x h = none
small_mod (suc n) x (one l h) =
    let f = low_first x n in
    let a : x % 256 ^ suc n % 256 ≡ x % 256 = omega arith in
    let b : x % 256 ^ suc n / 256 ≡ x / 256 % 256 ^ n = omega arith in
    one {k = n} {x = x % 256 ^ suc n} (rw a l) (rw b (small_mod n (x / 256) h))

-- zeros below the digits are zeros before them
up_one : (x j : ℕ) → x * 256 ^ suc j ≡ x * 256 ^ j * 256
up_one x j = ap (λ (p : ℕ). x * p) (pow-suc 256 j) ∙ sym (mul_assoc x (256 ^ j) 256)

joined_up : (j n k x : ℕ) → k ≡ j + n → joined 0 k (x * 256 ^ j) ≡ joined 0 n x
unfolding joined
joined_up zero n k x e = let z : k ≡ n = omega arith in rw (z, mul-one x)
joined_up (suc j) n zero x e = absurd (omega arith)
joined_up (suc j) n (suc k) x e =
    let u = up_one x j in
    let a : x * 256 ^ suc j % 256 ≡ 0 = omega arith in
    let b : x * 256 ^ suc j / 256 ≡ x * 256 ^ j = omega arith in
    rw (a, b) (joined_up j n k x (omega arith))

small_up : (j n k x : ℕ) → k ≡ j + n → Small n x → Small k (x * 256 ^ j)
small_up zero n k x e h = let z : k ≡ n = omega arith in rw (z, mul-one x) h
small_up (suc j) n zero x e h = absurd (omega arith)
small_up (suc j) n (suc k) x e h =
    let u = up_one x j in
    let b : x * 256 ^ suc j / 256 ≡ x * 256 ^ j = omega arith in
    one {k = k} {x = x * 256 ^ suc j} (omega arith) (rw b (small_up j n k x (omega arith) h))

-- what is shifted out was above the digits
shifted : (x j n : ℕ) → (x * 256 ^ j) % 256 ^ (n + j) ≡ (x % 256 ^ n) * 256 ^ j
shifted x j n =
    let p = one-le-pow j 256 (omega arith) in
    ap (λ (m : ℕ). (x * 256 ^ j) % m) (pow-add 256 n j)
    ∙ (mod-mul (x * 256 ^ j) (one-le-pow n 256 (omega arith)) p
    ∙ (rw (mul-div_cancel x p, mul-mod_left x (256 ^ j)) (omega arith)))

pub raised_is : {x n : ℕ} → Small n x → n ≤ 8 → Raised x n (x * 2 ^ (64 - n * 8) % 2 ^ 64)
raised_is {x} {n} h l =
    let a : 64 - n * 8 ≡ (8 - n) * 8 = omega arith in
    let b : n + (8 - n) ≡ 8 = omega arith in
    let e : x * 2 ^ (64 - n * 8) % 2 ^ 64 ≡ (x % 256 ^ n) * 256 ^ (8 - n) = rw (a, ← pow_bytes (8 - n)) (rw b at (shifted x (8 - n) n)) in
    record {
      small = rw e (small_up (8 - n) n 8 (x % 256 ^ n) (omega arith) (small_mod n x h));
      same = rw e (joined_up (8 - n) n 8 (x % 256 ^ n) (omega arith) ∙ joined_mod 0 n x);
    }

-- THE NUMBER OF EIGHT DIGITS

-- a byte and the next one, as one number in place of the lower one: nothing is carried
two_low : (s : ℕ) → s % 256 ≤ 9 → s / 256 % 256 ≤ 9 → (s * 10 + s / 256) % 256 ≡ s % 256 * 10 + s / 256 % 256
two_low s a b = omega arith

two_next : (s : ℕ) → s % 256 ≤ 9 → s / 256 % 256 ≤ 9 → (s * 10 + s / 256) / 256 ≡ s / 256 * 10 + s / 256 / 256
two_next s a b = omega arith

-- eight digits, from the low end
pub record Digits (s : ℕ) : Type 0 where
  pub d₀ : s % 256 ≤ 9
  pub d₁ : s / 256 % 256 ≤ 9
  pub d₂ : s / 256 / 256 % 256 ≤ 9
  pub d₃ : s / 256 / 256 / 256 % 256 ≤ 9
  pub d₄ : s / 256 / 256 / 256 / 256 % 256 ≤ 9
  pub d₅ : s / 256 / 256 / 256 / 256 / 256 % 256 ≤ 9
  pub d₆ : s / 256 / 256 / 256 / 256 / 256 / 256 % 256 ≤ 9
  pub d₇ : s / 256 / 256 / 256 / 256 / 256 / 256 / 256 % 256 ≤ 9

all_digits : {s : ℕ} → Small 8 s → Digits s
all_digits (one a (one b (one c (one d (one e (one f (one g (one h none)))))))) = record { d₀ = a; d₁ = b; d₂ = c; d₃ = d; d₄ = e; d₅ = f; d₆ = g; d₇ = h }

module _ {s : ℕ} (h : Small 8 s) (l : Fits bits64 s) where
  -- from the high end: the digits and all below them
  most : s ≤ 0x0909_0909_0909_0909
  most =
      let d = all_digits h in
      let s₁ = s / 256 in
      let s₂ = s₁ / 256 in
      let s₃ = s₂ / 256 in
      let s₄ = s₃ / 256 in
      let s₅ = s₄ / 256 in
      let s₆ = s₅ / 256 in
      let s₇ = s₆ / 256 in
      let k₇ : s₇ ≤ 9 = omega (arith, l.fits, d.d₇) in
      let k₆ : s₆ ≤ 0x909 = omega (arith, d.d₆) in
      let k₅ : s₅ ≤ 0x9_0909 = omega (arith, d.d₅) in
      let k₄ : s₄ ≤ 0x909_0909 = omega (arith, d.d₄) in
      let k₃ : s₃ ≤ 0x9_0909_0909 = omega (arith, d.d₃) in
      let k₂ : s₂ ≤ 0x909_0909_0909 = omega (arith, d.d₂) in
      let k₁ : s₁ ≤ 0x9_0909_0909_0909 = omega (arith, d.d₁) in
      omega (arith, d.d₀)

  pub tens_fit : Fits bits64 (s * 10)
  tens_fit = record { fits = omega (arith, most) }

  pub twos_fit : Fits bits64 (s * 10 + s / 256)
  twos_fit = record { fits = omega (arith, most) }

-- two digits up, by the places of the word
two_up : (s : ℕ) → s % 256 ≤ 9 → s / 256 % 256 ≤ 9 → s / 256 / 256 % 256 ≤ 9 → (s * 10 + s / 256) / 0x1_0000 ≡ s / 256 / 256 * 10 + s / 256 / 256 / 256
two_up s a b c = sym (div-div-eq-div-mul (s * 10 + s / 256) 256 256) ∙ (rw (two_next s a b) (two_next (s / 256) b c))

pub number_is : {s : ℕ} → Small 8 s
    → (s * 10 + s / 256) % 256 * 1_000_000 + (s * 10 + s / 256) / 0x1_0000 % 256 * 10_000 + (s * 10 + s / 256) / 0x1_0000_0000 % 256 * 100 + (s * 10 + s / 256) / 0x1_0000_0000_0000 % 256 ≡ joined 0 8 s
unfolding joined
number_is {s} h =
    let d = all_digits h in
    let s₂ = s / 256 / 256 in
    let s₄ = s₂ / 256 / 256 in
    let s₆ = s₄ / 256 / 256 in
    let y = s * 10 + s / 256 in
    let y₂ : y / 0x1_0000 ≡ s₂ * 10 + s₂ / 256 = two_up s d.d₀ d.d₁ d.d₂ in
    let y₄ : y / 0x1_0000_0000 ≡ s₄ * 10 + s₄ / 256 = sym (div-div-eq-div-mul y 0x1_0000 0x1_0000) ∙ (rw y₂ (two_up s₂ d.d₂ d.d₃ d.d₄)) in
    let y₆ : y / 0x1_0000_0000_0000 ≡ s₆ * 10 + s₆ / 256 = sym (div-div-eq-div-mul y 0x1_0000_0000 0x1_0000) ∙ (rw y₄ (two_up s₄ d.d₄ d.d₅ d.d₆)) in
    let e₀ = two_low s d.d₀ d.d₁ in
    let e₂ = ap (λ (v : ℕ). v % 256) y₂ ∙ two_low s₂ d.d₂ d.d₃ in
    let e₄ = ap (λ (v : ℕ). v % 256) y₄ ∙ two_low s₄ d.d₄ d.d₅ in
    let e₆ = ap (λ (v : ℕ). v % 256) y₆ ∙ two_low s₆ d.d₆ d.d₇ in
    rw (e₀, e₂, e₄, e₆) (omega arith)

-- THE DIGITS OF A TEXT

-- x is k bytes of a text, less the digit zero in each of them
abbrev Less : List ℕ → ℕ → ℕ → ℕ → Type 0
Less s at k x = (x + every 0x30 k) % 256 ^ k ≡ word_at s at k

module _ (s : List ℕ) (bytes : (i : ℕ) → get_or s i 0 < 256) where
  -- the low byte is a digit, and takes nothing from the next one
  low_byte : (at k x : ℕ) → x % 256 ≤ 9 → Less s at (suc k) x → (get_or s at 0 ≡ x % 256 + 0x30) × Less s (at + 1) k (x / 256)
  unfolding word_at
  low_byte at k x l e =
      let f = low_first (x + every 0x30 (suc k)) k in
      let b = bytes at in
      let c : (x + every 0x30 (suc k)) / 256 ≡ x / 256 + every 0x30 k = omega arith in
      (omega arith, omega (arith, ap (λ (v : ℕ). v % 256 ^ k) c))

  worth-byte : (at d : ℕ) → d ≤ 9 → get_or s at 0 ≡ d + 0x30 → (is_digit 10 (get_or s at 0) ≡ true) × Worth (get_or s at 0) d
  worth-byte at d l e =
      let g = a-digit (get_or s at 0) (omega arith) (omega arith) in
      let z : get_or s at 0 - 0x30 ≡ d = omega arith in
      (g, rw z at (worth-is (get_or s at 0) g))

  -- j digits stand before: so few that one more has room
  tally_word : {from first : ℕ} (n k j at v x : ℕ) → n ≤ k → j + n ≤ 17 → v < 10 ^ j → at + n ≤ length s → Small n x → Less s at k x → Tally s from first at v → Tally s from first (at + n) (joined v n x)
  unfolding joined
  tally_word zero k j at v x h m u i y e t = let z : at + 0 ≡ at = omega arith in rw z t
  tally_word (suc n) zero j at v x h m u i y e t = absurd (omega arith)
  tally_word (suc n) (suc k) j at v x h m u i (one l y) e t =
      let z : at + suc n ≡ at + 1 + n = omega arith in
      let b = low_byte at k x l e in
      let w = worth-byte at (x % 256) l b.0 in
      let p = pow-suc 10 j in
      let r : v < 1844674407370955160 = omega (arith, pow-le-pow_right {n = 10} (omega arith) {i = j} {j = 17} (omega arith)) in
      let q = tally_on t (omega arith) true (sym w.0) refl r w.1 in
      rw z (tally_word n k (suc j) (at + 1) (v * 10 + x % 256) (x / 256) (omega arith) (omega arith) (omega arith) (omega arith) y b.1 q)

  -- the first digit is counted already
  word_first : (at n x : ℕ) → 0 < n → n ≤ 8 → at + 8 ≤ length s → Small n x → Less s at 8 x → Tally s (at + 1) (digit_value (get_or s at 0)) (at + n) (joined 0 n x)
  unfolding joined
  word_first at zero x h m i y e = absurd (omega arith)
  word_first at (suc n) x h m i (one l y) e =
      let z : at + suc n ≡ at + 1 + n = omega arith in
      let b = low_byte at 7 x l e in
      let w = (worth-byte at (x % 256) l b.0).1 in
      let o : 0 * 10 + x % 256 ≡ x % 256 = omega arith in
      rw (z, o, ← w.is) (tally_word n 7 1 (at + 1) (x % 256) (x / 256) (omega arith) (omega arith) (omega arith) (omega arith) y b.1 (tally_start (omega arith) l))

pub one_by_one : {s : List ℕ} {b from d end v : ℕ} → Worth b d → Tally s from d end v → Tally s from (digit_value b) end v
one_by_one w t = rw (← w.is) t

module _ {x t n : ℕ} (m : Marks x t) (c : Clear t n) where
  pub word_small : Small n x
  word_small = m.is n c.most c.is

  pub word-digits : {s : List ℕ} {at w r v : ℕ} → 8 ≤ length s - at → Eight s at w → (x + 0x3030_3030_3030_3030) % 2 ^ 64 ≡ w → (n ≡ 0 → ⊥) → Raised x n r → v ≡ joined 0 8 r
      → Tally s (at + 1) (digit_value (get_or s at 0)) (at + n) v
  word-digits {s} {at} {w} {r} {v} i e o z q u =
      rw (u, q.same) (word_first s e.bytes at n x (omega arith) c.most (omega arith) word_small (o ∙ e.is))
