-- Leaves: the table of their sizes, the block behind an initial byte, and that each is the item that the definitions read.
-- Assumes nothing.
use Prim.Native.Nat.{ℕ, ◌/◌, ◌%◌, ◌<◌, min, max}
use native.Mathlib.Omega.{arith}
use mathlib.Core.Path.{◌≡◌, refl, ap, ◌∙◌}
use mathlib.Core.Bool.{Bool, true, false, not}
use mathlib.Core.List.{List}
use lib.Dec.{T, ltb, leb, eqb, eqb→eq, leb→le}
use lib.ListN.{length, get_or}
use mir.Syntax.{w8 as bits8}
use mir.Val.{Fits}
use borrow.Author.Tests.{not-false, lt-ltb, ltb-true, eq-eqb}
use Rattle.cbor.proofs.Table.{every, at}
use Rattle.quick_leaf.specs.WalkLeaves.{all_bits, leaf_content, leaf_size, is_leaf, LeafSize, LeafContent, Bounded, Topped, Blocked, Right}

-- THE TABLE

unfoldable pub right_size : ℕ → ℕ → Bool
right_size b n = elim (is_leaf b) [ true ↦ eqb n (leaf_size b) | false ↦ leb 0x80 n ]

-- so every table that passes the test has the rule
pub size_rule : (table : List ℕ) → T (every right_size 0 table) → (b : ℕ) → b < length table → b < 256 → LeafSize b (get_or table b 0)
unfolding right_size
size_rule table t b h u = by (is_leaf b) refl (get_or table b 0) (at right_size table t b h)
  where
    by : (l : Bool) → is_leaf b ≡ l → (r : ℕ) → T (elim l [ true ↦ eqb r (leaf_size b) | false ↦ leb 0x80 r ]) → LeafSize b r
    by true f r x = record { is = λ k. eqb→eq r (leaf_size b) x; leaf = λ k. f; byte = u }
    by false f r x = let k = leb→le 0x80 r x in record { is = λ l. absurd (omega arith); leaf = λ l. absurd (omega arith); byte = u }

-- THE BLOCK

pub bounded : {b i n m r : ℕ} → Fits bits8 b → m ≡ all_bits (ltb i n) → r ≡ min b m → Bounded b i n r
unfolding all_bits
bounded {b} {i} {n} {m} u e h = record { is = λ l. let f : m ≡ 255 = e ∙ ap all_bits (lt-ltb i n l) in omega arith }

pub content-is : {b m r : ℕ} → m ≡ all_bits (eqb (b / 64) 1) → r ≡ min (b % 32) m → LeafContent b r
unfolding leaf_content all_bits
content-is {b} {m} {r} e h = record { is = by (eqb (b / 64) 1) e; small = omega arith }
  where
    by : (t : Bool) → m ≡ all_bits t → r ≡ elim t [ true ↦ b % 32 | false ↦ 0 ]
    by true e = omega arith
    by false e = omega arith

pub right_by : {s : List ℕ} {at n : ℕ} {t : Bool} → Fits bits8 n → Blocked s at t → not t ≡ false → {x m r q : ℕ} → x ≡ all_bits (eqb (get_or s at 0 / 32) 3) → m ≡ min n x → Topped s at m 33 r → q ≡ max n r → Right s at n (ltb q 0x80)
unfolding all_bits
right_by {s} {at} {n} {t} u b y {x} {m} {r} {q} ex em tp eq =
    record {
      small = λ e. omega (arith, ltb-true q 0x80 e);
      inside = λ e. b.is (not-false t y);
      text = λ e i j p h l.
          let f : x ≡ 255 = ex ∙ ap all_bits (eq-eqb (get_or s at 0 / 32) 3 i) in
          let g : j < m = omega arith in
          omega (arith, ltb-true q 0x80 e, tp.is j p h g);
    }
