-- Short strings by blocks: what the code knows at each return and each turn of its loops, and that this is what the definitions say.
-- Assumes nothing.
use mathlib.Core.Path.{◌≡◌, refl, sym, ap, ◌∙◌}
use mathlib.Core.List.{List, [], ◌∷◌, ◌++◌, append_assoc, append-nil}
use mathlib.Core.Bool.{true}
use Prim.Native.Nat.{ℕ, zero, suc, ◌+◌, ◌-◌, ◌*◌, ◌/◌, ◌%◌, ◌≤◌, ◌<◌}
use native.Mathlib.Numerals.{add-one}
use native.Mathlib.Omega.{arith}
use lib.ListN.{length, take, drop, set, get_or, length-append, length-drop, length-set, take-append-drop}
use lib.Seq.{take-take}
use mir.Syntax.{w8 as bits8}
use mir.Val.{Fits}
use Rattle.memory.specs.Buffer.{over, over_if_fits, copied}
use Rattle.memory.proofs.Buffer.{over_nil, over_snoc, length_part, written-fits, length-written, copied-yes, take-written, take-copied}
use Rattle.notation.specs.Numbers.{is_digit, digit_value}
use Rattle.notation.specs.Literals.{stands_for, after, hex_content, hex_from, half_end}
use Rattle.scanning.specs.Stands.{span}
use Rattle.scanning.proofs.Marked.{tail_is}
use Rattle.literal_body.specs.LiteralReading.{Yields}
use Rattle.literal_body.proofs.ReadingCode.{span-over, yields_none, yields_more}
use Rattle.hex_pairs.specs.PairAnswers.{HexDigits}
use Rattle.hex_pairs.proofs.DigitCode.{digit-small, digit_value_lem, pair-yields}
use Rattle.hex_pairs.proofs.PairsCode.{run-within}
use Rattle.encoding.specs.ReadAnswers.{Wrote}
use Rattle.encoding.proofs.Wrote.{wrote-written, wrote-more}
use Rattle.leaf_head.specs.HeadParts.{short_head}
use Rattle.plain_string.specs.StringParts.{StringMade, HexMade}
use Rattle.plain_string.specs.BlockParts.{nibble_of, pair_block, Nibbles, ShortPart, ShortPairs}
use Rattle.leaf_head.proofs.HeadsCode.{single, wrote-front_of}

-- A HEAD OF ONE BYTE, and more than the content behind it

short-made : {b b₁ b₂ : List ℕ} {pos major n : ℕ} (ws vs : List ℕ) → n ≤ 23 → length ws ≡ n → pos + (length (ws ++ vs) + 1) ≤ length b → b₁ ≡ over_if_fits b pos ((major * 32 + n) ∷ [])
    → Wrote b₁ b₂ (pos + 1) (ws ++ vs) → take pos b₂ ≡ take pos b₁ → StringMade b b₂ pos major ws (n + 1)
short-made {b} {b₁} {b₂} {pos} {major} {n} ws vs h l r e w k =
    let v = major * 32 + n in
    let t : short_head major (length ws) ≡ v ∷ [] = rw l (single major n h) in
    let u : Wrote b b₂ pos ((v ∷ ws) ++ vs) = wrote-more (wrote-written e) w refl in
    record {
      wrote = rw t (wrote-front_of (v ∷ ws) vs u (omega arith));
      sized = rw t (omega arith);
      kept = k ∙ (ap (take pos) e ∙ take-written b pos (v ∷ []) pos (omega arith));
      most = omega arith;
    }

pub short-text : {s b b₁ b₂ : List ℕ} {from n pos major : ℕ} → ShortPart s from n b pos → b₁ ≡ over_if_fits b pos ((major * 32 + n) ∷ []) → b₂ ≡ copied b₁ (pos + 1) (take (length s - from) (drop from s)) 32
    → StringMade b b₂ pos major (take n (drop from s)) (n + 1)
short-text {s} {b} {b₁} {b₂} {from} {n} {pos} {major} x e f =
    let c = drop from s in
    let h = x.few in
    let i = x.block in
    let l : 32 ≤ length c = simp length-drop (omega arith) in
    let g : b₂ ≡ copied b₁ (pos + 1) c 32 = f ∙ ap (λ (y : List ℕ). copied b₁ (pos + 1) y 32) (tail_is s from) in
    let z : length (take 32 c) ≡ 32 = length_part s from 32 i in
    let m : length (take n c) ≡ n = length_part s from n (omega arith) in
    let a : take n c ++ drop n (take 32 c) ≡ take 32 c = ap (λ (y : List ℕ). y ++ drop n (take 32 c)) (sym (take-take n 32 c (omega arith))) ∙ take-append-drop n (take 32 c) in
    let w : Wrote b₁ b₂ (pos + 1) (take n c ++ drop n (take 32 c)) = rw a (wrote-written (g ∙ copied-yes b₁ (pos + 1) c 32 l)) in
    short-made (take n c) (drop n (take 32 c)) h m (rw (a, z) (omega (arith, x.room))) e w (ap (take pos) g ∙ take-copied b₁ (pos + 1) c 32 pos (omega arith))

-- DIGITS OF A BLOCK

pub nibble_is : (b : ℕ) → (b % 16 + b / 64 * 9) % 16 ≡ nibble_of b
unfolding nibble_of
nibble_is b = refl

small : (b : ℕ) → nibble_of b < 16
unfolding nibble_of
small b = omega arith

nibble_digit : (b : ℕ) → is_digit 16 b ≡ true → nibble_of b ≡ digit_value b
unfolding nibble_of
nibble_digit b e = let v = digit_value_lem b e in let l = digit-small b e in rw v (omega arith)

pub record Nibbling (s : List ℕ) (from i : ℕ) (t : List ℕ) : Type 0 where
  pub is : (j : ℕ) → j < i → get_or t j 0 ≡ nibble_of (get_or s (from + j) 0)
  pub size : length t ≡ 32

-- BYTES OF A BLOCK

length-block : (s : List ℕ) (from k : ℕ) → length (pair_block s from k) ≡ k
unfolding pair_block
length-block s from zero = refl
length-block s from (suc k) = length-append (pair_block s from k) _ ∙ omega (arith, length-block s from k)

pub record Pairing (s : List ℕ) (from : ℕ) (b : List ℕ) (at i : ℕ) (l : List ℕ) : Type 0 where
  pub is : l ≡ over b at (pair_block s from i)
  pub room : at + 16 ≤ length b
  pub same : length l ≡ length b
  pub most : i ≤ 16

pub pairing_start : {s : List ℕ} {from : ℕ} {b : List ℕ} {at : ℕ} → at + 16 ≤ length b → Pairing s from b at 0 b
unfolding pair_block
pairing_start {b = b} {at = at} h = record { is = sym (over_nil b at); room = h; same = refl; most = omega arith }

module _ {s : List ℕ} {from : ℕ} {t : List ℕ} (x : Nibbles s from t) {i : ℕ} (h : i < 16) where
  first_small : get_or t (2 * i) 0 < 16
  first_small = rw (x.is (2 * i) (omega arith)) (small (get_or s (from + 2 * i) 0))

  second-small : get_or t (2 * i + 1) 0 < 16
  second-small = rw (x.is (2 * i + 1) (omega arith)) (small (get_or s (from + (2 * i + 1)) 0))

  pub pairing_high : Fits bits8 (get_or t (2 * i) 0 * 16)
  pairing_high = record { fits = omega (arith, first_small) }

  pub pairing_byte : Fits bits8 (get_or t (2 * i) 0 * 16 + get_or t (2 * i + 1) 0)
  pairing_byte = record { fits = omega (arith, first_small, second-small) }

  pub pairing_on : {b l : List ℕ} {at : ℕ} → Pairing s from b at i l → Pairing s from b at (i + 1) (set l (at + i) (get_or t (2 * i) 0 * 16 + get_or t (2 * i + 1) 0))
  unfolding pair_block
  pairing_on {b} {l} {at} y =
      let v = get_or t (2 * i) 0 * 16 + get_or t (2 * i + 1) 0 in
      let n = length-block s from i in
      let e : v ≡ nibble_of (get_or s (from + 2 * i) 0) * 16 + nibble_of (get_or s (from + (2 * i + 1)) 0) = λ k. x.is (2 * i) (omega arith) k * 16 + x.is (2 * i + 1) (omega arith) k in
      let p : at + length (pair_block s from i) < length b = omega (arith, y.room) in
      record {
        is = ap (λ (z : List ℕ). set z (at + i) v) y.is ∙ (ap (λ (z : ℕ). set (over b at (pair_block s from i)) (at + z) v) (sym n) ∙ (over_snoc b at v (pair_block s from i) p ∙ (rw (add-one i, ← e))));
        room = y.room;
        same = length-set l (at + i) v ∙ y.same;
        most = omega arith;
      }

-- the first n of them
record Fronts (s : List ℕ) (from n k : ℕ) : Type 0 where
  rest : List ℕ
  is : pair_block s from (n + k) ≡ pair_block s from n ++ rest

block-fronts : (s : List ℕ) (from n k : ℕ) → Fronts s from n k
unfolding pair_block
block-fronts s from n zero = let z : n + 0 ≡ n = omega arith in record { rest = []; is = rw z (sym (append-nil (pair_block s from n))) }
block-fronts s from n (suc k) =
    let i = block-fronts s from n k in
    let z : n + suc k ≡ suc (n + k) = omega arith in
    let v = nibble_of (get_or s (from + 2 * (n + k)) 0) * 16 + nibble_of (get_or s (from + (2 * (n + k) + 1)) 0) in
    record { rest = i.rest ++ (v ∷ []); is = rw z (ap (λ (l : List ℕ). l ++ (v ∷ [])) i.is ∙ append_assoc (pair_block s from n) i.rest (v ∷ [])) }

-- what they stand for, where digits stand
block-yields : (s : List ℕ) (from n stop : ℕ) → HexDigits s from (from + 2 * n) → from + 2 * n ≤ stop → stop ≤ length s → Yields hex_content s stop from (from + 2 * n) (pair_block s from n)
unfolding pair_block
block-yields s from zero stop x h l = let z : from + 2 * 0 ≡ from = omega arith in rw z yields_none
block-yields s from (suc n) stop x h l =
    let z : from + 2 * n + 2 ≡ from + 2 * suc n = omega arith in
    let u : from + (2 * n + 1) ≡ from + 2 * n + 1 = omega arith in
    let y = block-yields s from n stop (run-within from (from + 2 * n) x (omega arith) (omega arith) (omega arith)) (omega arith) l in
    let a = x.is (from + 2 * n) (omega arith) (omega arith) in
    let b = x.is (from + 2 * n + 1) (omega arith) (omega arith) in
    let p = pair-yields s (from + 2 * n) stop (omega arith) l a b in
    rw (u, nibble_digit (get_or s (from + 2 * n) 0) a, nibble_digit (get_or s (from + 2 * n + 1) 0) b) (yields_more y (rw z at p))

block-stands : (s : List ℕ) (from n : ℕ) → HexDigits s from (from + 2 * n) → hex_content (take (2 * n) (drop from s)) ≡ stands_for (pair_block s from n)
unfolding after span hex_content hex_from half_end
block-stands s from n x =
    let k : from + 2 * n - from ≡ 2 * n = omega arith in
    let d = (block-yields s from n (from + 2 * n) x (omega arith) x.inside).is in
    let o : hex_content (span (from + 2 * n) (from + 2 * n) s) ≡ stands_for [] = ap hex_content (span-over s (from + 2 * n) (from + 2 * n) (omega arith)) in
    (rw k at d) ∙ ap (after (pair_block s from n)) o ∙ ap stands_for (append-nil (pair_block s from n))

pub short-pairs : {s b b₁ b₂ : List ℕ} {from n pos : ℕ} → ShortPairs s from n b pos → b₁ ≡ over_if_fits b pos ((0x40 + n) ∷ []) → b₂ ≡ over b₁ (pos + 1) (pair_block s from 16) → HexMade s from n b b₂ pos (n + 1)
short-pairs {s} {b} {b₁} {b₂} {from} {n} {pos} x e f =
    let h = x.few in
    let q = x.room in
    let i = block-fronts s from n (16 - n) in
    let z : n + (16 - n) ≡ 16 = omega arith in
    let a : pair_block s from 16 ≡ pair_block s from n ++ i.rest = rw z at i.is in
    let m = length-block s from 16 in
    let y : length b₁ ≡ length b = ap length e ∙ length-written b pos ((0x40 + n) ∷ []) in
    let g : b₂ ≡ over_if_fits b₁ (pos + 1) (pair_block s from 16) = f ∙ sym (written-fits b₁ (pos + 1) (pair_block s from 16) (omega arith)) in
    let w : Wrote b₁ b₂ (pos + 1) (pair_block s from n ++ i.rest) = rw a at (wrote-written g) in
    let r : pos + (length (pair_block s from n ++ i.rest) + 1) ≤ length b = rw (← a) (omega arith) in
    record {
      bytes = pair_block s from n;
      stand = block-stands s from n x.digits;
      count = length-block s from n;
      made = short-made (pair_block s from n) i.rest (omega arith) (length-block s from n) r e w (ap (take pos) g ∙ take-written b₁ (pos + 1) (pair_block s from 16) pos (omega arith));
    }
