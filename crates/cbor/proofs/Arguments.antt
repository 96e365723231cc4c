-- Arguments of heads: their bytes make the number, and the number gives its bytes.
use Prim.Native.Nat.{ℕ, zero, suc, ◌+◌, ◌*◌, ◌/◌, ◌%◌, ◌^◌, ◌≤◌, ◌<◌}
use native.Mathlib.Nat.{add-zero, pow-suc, mul-le-mul_right}
use native.Mathlib.Omega.{arith}
use mathlib.Core.Path.{◌≡◌, refl, ap, ◌∙◌}
use mathlib.Core.List.{List, [], ◌∷◌, ◌++◌, append_assoc, append-nil}
use lib.ListN.{length, length-append}
use Rattle.cbor.specs.Widths.{Width, w0, w1, w2, w4, w8, argument_bytes, limit, big_endian, value_from}
use Rattle.cbor.specs.Heads.{started}
use Rattle.cbor.specs.Valid.{Bytes}

pub length_big : (k n : ℕ) → length (big_endian k n) ≡ k
unfolding big_endian
length_big zero n = refl
length_big (suc k) n = simp (length-append, length_big k (n / 256)) (omega arith)

pub value_snoc : (v : ℕ) (s : List ℕ) (b : ℕ) → value_from v (s ++ b ∷ []) ≡ value_from v s * 256 + b
unfolding value_from
value_snoc v [] b = refl
value_snoc v (a ∷ s) b = value_snoc (v * 256 + a) s b

pub value_big : (k n : ℕ) → n < 256 ^ k → value_from 0 (big_endian k n) ≡ n
unfolding big_endian value_from
value_big zero n h = omega arith
value_big (suc k) n h =
    let l : n / 256 < 256 ^ k = omega arith in
    value_snoc 0 (big_endian k (n / 256)) (n % 256) ∙ rw (value_big k (n / 256) l) (omega arith)

big_more : (k v : ℕ) (s : List ℕ) → Bytes s → big_endian (k + length s) (value_from v s) ≡ big_endian k v ++ s
unfolding big_endian value_from Bytes
big_more k v [] u = rw (add-zero k, append-nil (big_endian k v))
big_more k v (b ∷ s) u =
    let l : b < 256 = u.0 in
    let e : (v * 256 + b) / 256 ≡ v = omega arith in
    let f : (v * 256 + b) % 256 ≡ b = omega arith in
    let g : k + suc (length s) ≡ suc k + length s = omega arith in
    ap (λ (m : ℕ). big_endian m (value_from (v * 256 + b) s)) g ∙ big_more (suc k) (v * 256 + b) s u.1 ∙ rw (e, f) (append_assoc (big_endian k v) (b ∷ []) s)

pub big_value : (s : List ℕ) → Bytes s → big_endian (length s) (value_from 0 s) ≡ s
unfolding big_endian
big_value s u = let e : 0 + length s ≡ length s = omega arith in rw e at (big_more 0 0 s u)

grown : (x v b p q : ℕ) → b < 256 → q ≡ p * 256 → x < suc (v * 256 + b) * p → x < suc v * q
grown x v b p q l e h = let m : suc b ≤ 256 = l in rw e (omega (arith, mul-le-mul_right p m))

pub value-below : (v : ℕ) (s : List ℕ) → Bytes s → value_from v s < suc v * 256 ^ length s
unfolding value_from Bytes
value-below v [] u = omega arith
value-below v (b ∷ s) u = grown (value_from (v * 256 + b) s) v b _ _ u.0 (pow-suc 256 (length s)) (value-below (v * 256 + b) s u.1)

-- BY WIDTH: what the argument starts as, and its bytes

pub value-argument : (w : Width) (n : ℕ) → n ≤ limit w → (i : ℕ) → value_from (started w i) (big_endian (argument_bytes w) n) ≡ elim w [ w0 ↦ i | w1 ↦ n | w2 ↦ n | w4 ↦ n | w8 ↦ n ]
unfolding started argument_bytes limit big_endian value_from
value-argument w0 n h i = refl
value-argument w1 n h i = value_big 1 n (omega arith)
value-argument w2 n h i = value_big 2 n (omega arith)
value-argument w4 n h i = value_big 4 n (omega arith)
value-argument w8 n h i = value_big 8 n (omega arith)
