-- Of the code: the shortest head, and what its writers say of their parts.
use Rattle.std.specs.Prelude.{ℕ, ◌+◌, ◌*◌, ◌≤◌, ◌<◌, ◌≡◌, List, ◌++◌, length, take}
use Rattle.cbor.specs.Widths.{Width, w0, w1, w2, w4, w8, argument_bytes, limit, shortest, information, big_endian}
use Rattle.head.specs.HeadAnswers.{head_bytes}
use Rattle.encoding.specs.ReadAnswers.{Wrote}

-- the bytes of the shortest head
unfoldable pub short_head : ℕ → ℕ → List ℕ
short_head major n = head_bytes (major * 32 + information (shortest n) n) n

-- it was written, and has r bytes
pub record HeadMade (b b' : List ℕ) (pos major n r : ℕ) : Type 0 where
  pub wrote : Wrote b b' pos (short_head major n)
  pub sized : r ≡ length (short_head major n)
  pub short : r ≤ 9
  pub kept : take pos b' ≡ take pos b
  pub most : n ≤ 0xffff_ffff_ffff_ffff

-- a width by its place among the five
unfoldable pub steps : Width → ℕ
steps w0 = 0
steps w1 = 1
steps w2 = 2
steps w4 = 3
steps w8 = 4

pub record Above (n most r : ℕ) : Type 0 where
  pub no : n ≤ most → r ≡ 0
  pub yes : most < n → r ≡ 1
  pub small : r ≤ 1

pub record StepBytes (step r : ℕ) : Type 0 where
  pub is : (w : Width) → step ≡ steps w → r ≡ argument_bytes w
  pub most : r ≤ 8

-- m is eight bytes whose first k are those of n
pub record Fronted (k n m : ℕ) : Type 0 where
  pub rest : List ℕ
  pub is : big_endian 8 m ≡ big_endian k n ++ rest

pub record Scales (step r : ℕ) : Type 0 where
  pub fits : (w : Width) → step ≡ steps w → (n : ℕ) → n ≤ limit w → n * r < 0x1_0000_0000_0000_0000
  pub fronts : (w : Width) → step ≡ steps w → (n : ℕ) → Fronted (argument_bytes w) n (n * r)
