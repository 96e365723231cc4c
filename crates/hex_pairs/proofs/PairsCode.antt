-- Runs of hexadecimal digits, and the bytes that they make two by two.
-- Assumes nothing.
use mathlib.Core.Path.{◌≡◌, refl, sym, ap, ◌∙◌}
use mathlib.Core.List.{List, [], ◌∷◌, ◌++◌, append_assoc, append-nil}
use mathlib.Core.Bool.{Bool, true, false}
use Prim.Native.Nat.{ℕ, zero, suc, ◌+◌, ◌-◌, ◌*◌, ◌/◌, ◌%◌, ◌≤◌, ◌<◌}
use native.Mathlib.Numerals.{add-one}
use native.Mathlib.Omega.{arith}
use lib.Dec.{leb, ltb}
use lib.ListN.{length, set, get_or, length-append, length-set}
use lib.Seq.{get_or-set_same, get_or-set_other}
use mir.Syntax.{w8 as bits8}
use mir.Val.{Fits}
use borrow.Author.Count.{below_more}
use borrow.Author.Tests.{le-leb, lt-leb, ltb-true, ltb-false}
use Rattle.cbor.specs.Utf8.{◌to◌, is_in}
use Rattle.cbor.proofs.Utf8Laws.{is_in_lem}
use Rattle.notation.specs.Numbers.{is_digit, digit_value}
use Rattle.notation.specs.Literals.{stands_for, after, hex_content, hex_from, half_end}
use Rattle.scanning.specs.Stands.{span}
use Rattle.literal_body.specs.LiteralAnswers.{digit_number, Put}
use Rattle.literal_body.specs.LiteralReading.{Yields}
use Rattle.hex_pairs.specs.PairAnswers.{DigitStop, DigitBlock, HexDigits, BlockValues, pair_bytes, PairsPut}
use Rattle.literal_body.proofs.LiteralCode.{digit-decimal, digit_upper, digit_lower, digit-yes, put-none, put_one, put-more}
use Rattle.literal_body.proofs.ReadingCode.{span-over, yields_none, yields_more}
use Rattle.hex_pairs.proofs.DigitCode.{digit-small, pair-yields}

-- A BYTE

pub stop_here : {b i : ℕ} → DigitStop b i i
stop_here = record { is = λ h. absurd (omega arith) }

module _ {b i : ℕ} {t : Bool} (q : t ≡ true) where
  pub stop_decimal : t ≡ is_in (0x30 to 0x39) b → DigitStop b i 32
  stop_decimal e =
      let l = is_in_lem (0x30 to 0x39) b (sym e ∙ q) in
      let n = digit-decimal {b = b} l.0 (omega (arith, l.1)) in
      record { is = λ h. digit-yes 16 b (omega (arith, l.1)) (omega arith) }

  pub stop_upper : t ≡ is_in (0x41 to 0x46) b → DigitStop b i 32
  stop_upper e =
      let l = is_in_lem (0x41 to 0x46) b (sym e ∙ q) in
      let n = digit_upper {b = b} l.0 (omega (arith, l.1)) in
      record { is = λ h. digit-yes 16 b (omega (arith, l.1)) (omega arith) }

  pub stop_lower : t ≡ is_in (0x61 to 0x66) b → DigitStop b i 32
  stop_lower e =
      let l = is_in_lem (0x61 to 0x66) b (sym e ∙ q) in
      let n = digit_lower {b = b} l.0 (omega (arith, l.1)) in
      record { is = λ h. digit-yes 16 b (omega (arith, l.1)) (omega arith) }

pub ruleset stop_ways = (stop_decimal, stop_upper, stop_lower, stop_here)

-- A BLOCK: of the first i bytes, those before f are digits

pub record Firsts (s : List ℕ) (at i f : ℕ) : Type 0 where
  pub is : (j : ℕ) → j < i → j < f → is_digit 16 (get_or s (at + j) 0) ≡ true
  pub most : f ≤ 32

-- A RUN

module _ {s : List ℕ} {from at : ℕ} (inv : HexDigits s from at) where
  run_by : {n : ℕ} (k : ℕ) → 32 ≤ length s - at → DigitBlock s at n → k ≤ n → HexDigits s from (at + k)
  run_by {n} k l x h = record { is = is; ahead = omega (arith, inv.ahead); inside = omega (arith, x.most) }
    where
      is : (j : ℕ) → from ≤ j → j < at + k → is_digit 16 (get_or s j 0) ≡ true
      is j g u = go (ltb j at) refl
        where
          go : (t : Bool) → ltb j at ≡ t → is_digit 16 (get_or s j 0) ≡ true
          go true e = inv.is j g (ltb-true j at e)
          go false e =
              let m : at ≤ j = ltb-false j at e in
              let z : at + (j - at) ≡ j = omega arith in
              rw z at (x.is (j - at) (omega arith))

  pub run-block : {n : ℕ} → 32 ≤ length s - at → DigitBlock s at n → 32 ≤ n → HexDigits s from (at + 32)
  run-block l x h = run_by 32 l x h

  pub run-part : {n : ℕ} → 32 ≤ length s - at → DigitBlock s at n → HexDigits s from (at + n)
  run-part {n} l x = run_by n l x (omega arith)

  pub run_on : {v : ℕ} → at < length s → v ≡ digit_number (get_or s at 0) → v < 16 → HexDigits s from (at + 1)
  run_on l e h =
      let d : is_digit 16 (get_or s at 0) ≡ true = digit-yes 16 (get_or s at 0) (omega arith) (omega arith) in
      record {
        is = λ j g k. below_more (λ i. from ≤ i → is_digit 16 (get_or s i 0) ≡ true) at (λ i a b. inv.is i b a) (λ b. d) j k g;
        ahead = omega (arith, inv.ahead);
        inside = omega arith;
      }

-- a part of one
pub run-within : {s : List ℕ} {from end : ℕ} (a c : ℕ) → HexDigits s from end → from ≤ a → a ≤ c → c ≤ end → HexDigits s a c
run-within a c x h l k = record { is = λ j g u. x.is j (omega arith) (omega arith); ahead = l; inside = omega (arith, x.inside) }

-- SIXTEEN DIGITS

pub record Values (s : List ℕ) (from i : ℕ) (t : List ℕ) : Type 0 where
  pub is : (j : ℕ) → j < i → get_or t j 0 ≡ digit_value (get_or s (from + j) 0)
  pub size : length t ≡ 32
  pub small : (j : ℕ) → j < i → get_or t j 0 < 16

module _ {s : List ℕ} {from i : ℕ} {t : List ℕ} (inv : Values s from i t) where
  pub values-on : {v : ℕ} → HexDigits s from (from + 32) → i < 32 → v ≡ digit_value (get_or s (from + i) 0) → Values s from (i + 1) (set t i v)
  values-on {v} x h e =
      let l : i < length t = omega (arith, inv.size) in
      let d : v < 16 = rw e (digit-small (get_or s (from + i) 0) (x.is (from + i) (omega arith) (omega arith))) in
      let same : get_or (set t i v) i 0 ≡ v = get_or-set_same t i v 0 l in
      record {
        is = below_more (λ j. get_or (set t i v) j 0 ≡ digit_value (get_or s (from + j) 0)) i
            (λ j g. get_or-set_other t i j v 0 (λ z. omega arith) ∙ inv.is j g)
            (same ∙ e);
        size = length-set t i v ∙ inv.size;
        small = below_more (λ j. get_or (set t i v) j 0 < 16) i (λ j g. rw (get_or-set_other t i j v 0 (λ z. omega arith)) (inv.small j g)) (rw same d);
      }

-- BYTES OF PAIRS

abbrev pair_at : List ℕ → ℕ → ℕ
pair_at s i = digit_value (get_or s i 0) * 16 + digit_value (get_or s (i + 1) 0)

pairs_snoc : (s : List ℕ) (from n : ℕ) → pair_bytes s from (n + 1) ≡ pair_bytes s from n ++ (pair_at s (from + 2 * n) ∷ [])
unfolding pair_bytes
pairs_snoc s from n = rw (add-one n)

pub length_pairs : (s : List ℕ) (from n : ℕ) → length (pair_bytes s from n) ≡ n
unfolding pair_bytes
length_pairs s from zero = refl
length_pairs s from (suc n) = let e = length_pairs s from n in length-append (pair_bytes s from n) (pair_at s (from + 2 * n) ∷ []) ∙ omega arith

pairs-append : (s : List ℕ) (from n k : ℕ) → pair_bytes s from (n + k) ≡ pair_bytes s from n ++ pair_bytes s (from + 2 * n) k
unfolding pair_bytes
pairs-append s from n zero = let z : n + 0 ≡ n = omega arith in rw z (sym (append-nil (pair_bytes s from n)))
pairs-append s from n (suc k) =
    let z : n + suc k ≡ suc (n + k) = omega arith in
    let y : from + 2 * (n + k) ≡ from + 2 * n + 2 * k = omega arith in
    rw (z, y) (ap (λ (u : List ℕ). u ++ (pair_at s (from + 2 * n + 2 * k) ∷ [])) (pairs-append s from n k) ∙ append_assoc (pair_bytes s from n) (pair_bytes s (from + 2 * n) k) (pair_at s (from + 2 * n + 2 * k) ∷ []))

-- one pair
pub pair-bytes : (s : List ℕ) (at : ℕ) → pair_bytes s at 1 ≡ pair_at s at ∷ []
unfolding pair_bytes
pair-bytes s at = let z : at + 2 * 0 ≡ at = omega arith in rw z

module _ {s : List ℕ} {at : ℕ} (x : HexDigits s at (at + 2)) where
  pub pair-first : is_digit 16 (get_or s at 0) ≡ true
  pair-first = x.is at (omega arith) (omega arith)

  pub pair-second : is_digit 16 (get_or s (at + 1) 0) ≡ true
  pair-second = x.is (at + 1) (omega arith) (omega arith)

  pub pair_put : {b b' : List ℕ} {p r u v : ℕ} → u ≡ digit_value (get_or s at 0) → v ≡ digit_value (get_or s (at + 1) 0) → Put b b' p r ((u * 16 + v) ∷ []) → Put b b' p r (pair_bytes s at 1)
  pair_put e f y = rw (pair-bytes s at, ← e, ← f) y

  module _ {u : ℕ} (e : u ≡ digit_value (get_or s at 0)) where
    small : u < 16
    small = rw e (digit-small (get_or s at 0) pair-first)

    pub pair-high : Fits bits8 (u * 16)
    pair-high = record { fits = omega (arith, small) }

    pub pair-byte : {v : ℕ} → v ≡ digit_value (get_or s (at + 1) 0) → Fits bits8 (u * 16 + v)
    pair-byte f = record { fits = omega (arith, small, digit-small (get_or s (at + 1) 0) pair-second) }

-- eight of them
pub record BlockPut (s : List ℕ) (from : ℕ) (b : List ℕ) (p j : ℕ) (b' : List ℕ) : Type 0 where
  pub put : Put b b' p (p + j) (pair_bytes s from j)
  pub most : j ≤ 16
  pub fits : p + 16 ≤ length b
  pub same : length b' ≡ length b

pub block_start : (s : List ℕ) (from : ℕ) (b : List ℕ) (p : ℕ) → p ≤ length b → 16 ≤ length b - p → BlockPut s from b p 0 b
unfolding pair_bytes
block_start s from b p g h = let z : p + 0 ≡ p = omega arith in record { put = rw z (put-none b p); most = omega arith; fits = omega arith; same = refl }

module _ {s : List ℕ} {from : ℕ} {t : List ℕ} (x : BlockValues s from t) {j : ℕ} (h : j < 16) where
  pub block_on : {b b' : List ℕ} {p : ℕ} → BlockPut s from b p j b' → BlockPut s from b p (j + 1) (set b' (p + j) (get_or t (2 * j) 0 * 16 + get_or t (2 * j + 1) 0))
  block_on {b} {b'} {p} y =
      let v = get_or t (2 * j) 0 * 16 + get_or t (2 * j + 1) 0 in
      let e : get_or t (2 * j) 0 ≡ digit_value (get_or s (from + 2 * j) 0) = x.is (2 * j) (omega arith) in
      let a : from + (2 * j + 1) ≡ from + 2 * j + 1 = omega arith in
      let f : get_or t (2 * j + 1) 0 ≡ digit_value (get_or s (from + 2 * j + 1) 0) = x.is (2 * j + 1) (omega arith) ∙ ap (λ (k : ℕ). digit_value (get_or s k 0)) a in
      let z : p + j + 1 ≡ p + (j + 1) = omega arith in
      let l : p + j < length b' = omega (arith, y.fits, y.same) in
      let w : Put b' (set b' (p + j) v) (p + j) (p + (j + 1)) (v ∷ []) = rw z at (put_one b' (p + j) v l) in
      let u : v ≡ pair_at s (from + 2 * j) = λ i. e i * 16 + f i in
      let k : Put b (set b' (p + j) v) p (p + (j + 1)) (pair_bytes s from (j + 1)) = rw (pairs_snoc s from j, ← u) (put-more y.put w) in
      record { put = k; most = omega arith; fits = y.fits; same = k.same }

module _ (s : List ℕ) (from : ℕ) {b : List ℕ} {p : ℕ} where
  pub block-past : length b < p → Put b b p p (pair_bytes s from 16)
  block-past h = let e = length_pairs s from 16 in record { same = refl; is = λ l. absurd (omega arith); next = λ l. absurd (omega arith) }

  pub block-short : length b - p < 16 → p ≤ length b → Put b b p p (pair_bytes s from 16)
  block-short h g = let e = length_pairs s from 16 in record { same = refl; is = λ l. absurd (omega arith); next = λ l. absurd (omega arith) }

pub block-end : {s : List ℕ} {from : ℕ} {b b' : List ℕ} {p j : ℕ} → BlockPut s from b p j b' → 16 ≤ j → Put b b' p (p + 16) (pair_bytes s from 16)
block-end {j = j} y l = let e : j ≡ 16 = omega (arith, y.most) in rw e at y.put

pub ruleset block_ways = (block-past, block-short, block-end)

-- ALL OF THEM: i eights, or i pairs, are written

pub blocks_end : (s : List ℕ) (from : ℕ) {i k : ℕ} {b b' : List ℕ} {p q : ℕ} → i ≤ k → k ≤ i → Put b b' p q (pair_bytes s from (16 * i)) → Put b b' p q (pair_bytes s from (16 * k))
blocks_end s from {i} {k} h g x = let e : i ≡ k = omega arith in rw e at x

pub blocks_start : (s : List ℕ) (from : ℕ) (b : List ℕ) (p : ℕ) → Put b b p p (pair_bytes s from (16 * 0))
unfolding pair_bytes
blocks_start s from b p = put-none b p

pub blocks_on : (s : List ℕ) (from i : ℕ) {b b₁ b₂ : List ℕ} {p q r : ℕ} → Put b b₁ p q (pair_bytes s from (16 * i)) → Put b₁ b₂ q r (pair_bytes s (from + 32 * i) 16)
    → Put b b₂ p r (pair_bytes s from (16 * (i + 1)))
blocks_on s from i x y =
    let z : 16 * (i + 1) ≡ 16 * i + 16 = omega arith in
    let w : from + 32 * i ≡ from + 2 * (16 * i) = omega arith in
    rw (z, pairs-append s from (16 * i) 16, ← w) (put-more x y)

pub pairs-on : (s : List ℕ) (from i : ℕ) {b b₁ b₂ : List ℕ} {p q r : ℕ} → Put b b₁ p q (pair_bytes s from i) → Put b₁ b₂ q r (pair_bytes s (from + 2 * i) 1)
    → Put b b₂ p r (pair_bytes s from (i + 1))
pairs-on s from i x y = rw (pairs-append s from i 1) (put-more x y)

module _ {s : List ℕ} {from : ℕ} where
  pub block-digits : {k i : ℕ} → HexDigits s from (from + 32 * k) → i < k → HexDigits s (from + 32 * i) (from + 32 * i + 32)
  block-digits {k} {i} x h = run-within (from + 32 * i) (from + 32 * i + 32) x (omega arith) (omega arith) (omega arith)

  pub pair-digits : {n i : ℕ} → HexDigits s from (from + 2 * n) → i < n → HexDigits s (from + 2 * i) (from + 2 * i + 2)
  pair-digits {n} {i} x h = run-within (from + 2 * i) (from + 2 * i + 2) x (omega arith) (omega arith) (omega arith)

  pub blocks_digits : (n : ℕ) → HexDigits s from (from + 2 * n) → HexDigits s from (from + 32 * (n / 16))
  blocks_digits n x = run-within from (from + 32 * (n / 16)) x (omega arith) (omega arith) (omega arith)

-- what they stand for
pairs-yields : (s : List ℕ) (from n stop : ℕ) → HexDigits s from (from + 2 * n) → from + 2 * n ≤ stop → stop ≤ length s → Yields hex_content s stop from (from + 2 * n) (pair_bytes s from n)
unfolding pair_bytes
pairs-yields s from zero stop x h l = let z : from + 2 * 0 ≡ from = omega arith in rw z yields_none
pairs-yields s from (suc n) stop x h l =
    let z : from + 2 * n + 2 ≡ from + 2 * suc n = omega arith in
    let y = pairs-yields s from n stop (run-within from (from + 2 * n) x (omega arith) (omega arith) (omega arith)) (omega arith) l in
    let a = x.is (from + 2 * n) (omega arith) (omega arith) in
    let b = x.is (from + 2 * n + 1) (omega arith) (omega arith) in
    yields_more y (rw z at (pair-yields s (from + 2 * n) stop (omega arith) l a b))

pub singly_start : (s : List ℕ) (from : ℕ) (b : List ℕ) (p : ℕ) → Put b b p p (pair_bytes s from 0)
unfolding pair_bytes
singly_start s from b p = put-none b p

pub singly_end : (s : List ℕ) (from : ℕ) {i n : ℕ} {b b' : List ℕ} {p q : ℕ} → i ≤ n → n ≤ i → Put b b' p q (pair_bytes s from i) → Put b b' p q (pair_bytes s from n)
singly_end s from {i} {n} h g x = let e : i ≡ n = omega arith in rw e at x

pub rest-digits : {s : List ℕ} {from : ℕ} (n : ℕ) → HexDigits s from (from + 2 * n) → HexDigits s (from + 32 * (n / 16)) (from + 32 * (n / 16) + 2 * (n % 16))
rest-digits {s} {from} n x = run-within (from + 32 * (n / 16)) (from + 32 * (n / 16) + 2 * (n % 16)) x (omega arith) (omega arith) (omega arith)

pub pairs-put : {s : List ℕ} {from : ℕ} {b b₁ b₂ : List ℕ} {p q r : ℕ} (n : ℕ) → HexDigits s from (from + 2 * n) → Put b b₁ p q (pair_bytes s from (16 * (n / 16)))
    → Put b₁ b₂ q r (pair_bytes s (from + 32 * (n / 16)) (n % 16)) → PairsPut s from n b b₂ p r
unfolding after span hex_content hex_from half_end
pairs-put {s} {from} {b} {b₁} {b₂} {p} {q} {r} n x y z =
    let k : from + 2 * n - from ≡ 2 * n = omega arith in
    let d = (pairs-yields s from n (from + 2 * n) x (omega arith) x.inside).is in
    let o : hex_content (span (from + 2 * n) (from + 2 * n) s) ≡ stands_for [] = ap hex_content (span-over s (from + 2 * n) (from + 2 * n) (omega arith)) in
    let e : n ≡ 16 * (n / 16) + n % 16 = omega arith in
    let f : from + 32 * (n / 16) ≡ from + 2 * (16 * (n / 16)) = omega arith in
    let g : pair_bytes s from n ≡ pair_bytes s from (16 * (n / 16)) ++ pair_bytes s (from + 32 * (n / 16)) (n % 16) =
    ap (pair_bytes s from) e ∙ pairs-append s from (16 * (n / 16)) (n % 16) ∙ ap (λ (i : ℕ). pair_bytes s from (16 * (n / 16)) ++ pair_bytes s i (n % 16)) (sym f) in
    record {
      bytes = pair_bytes s from n;
      stand = (rw k at d) ∙ ap (after (pair_bytes s from n)) o ∙ ap stands_for (append-nil (pair_bytes s from n));
      count = length_pairs s from n;
      put = rw g (put-more y z);
      yields = λ stop l m. pairs-yields s from n stop x l m;
    }
