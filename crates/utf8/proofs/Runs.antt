-- Runs of ASCII: a block by its largest byte, and the walk over a run.
-- Assumes nothing.
use mathlib.Core.Path.{◌≡◌, refl, sym, subst}
use mathlib.Core.Bool.{Bool, true, false, true≢false}
use mathlib.Core.List.{List}
use Prim.Native.Nat.{ℕ, zero, suc, ◌+◌, ◌-◌, ◌≤◌, ◌<◌}
use native.Mathlib.Omega.{arith}
use lib.Dec.{ltb}
use lib.ListN.{length, get_or}
use borrow.Author.Tests.{ltb-true, ltb-false}
use Rattle.cbor.specs.Utf8.{first_bad}
use Rattle.cbor.proofs.Sequences.{Walked, walk_start, walk_ascii, walk_end}
use Rattle.utf8.specs.AsciiRuns.{Block, Ascii, AllAscii}

-- the loop over a block: none of the first i bytes is above m
pub record Topped (s : List ℕ) (at i m : ℕ) : Type 0 where
  pub is : (j : ℕ) → j < i → get_or s (at + j) 0 ≤ m

-- the loops over a run: one run behind the other
pub ascii_join : {s : List ℕ} {from at end : ℕ} → Ascii s from at → Ascii s at end → Ascii s from end
ascii_join {s} {from} {at} {end} x y = record { is = is; inside = y.inside; ahead = omega (arith, x.ahead, y.ahead) }
  where
    is : (j : ℕ) → from ≤ j → j < end → get_or s j 0 < 0x80
    is j g h = go (ltb j at) refl
      where
        go : (u : Bool) → ltb j at ≡ u → get_or s j 0 < 0x80
        go true e = x.is j g (ltb-true j at e)
        go false e = y.is j (ltb-false j at e) h

module _ {s : List ℕ} {from at : ℕ} (inv : Ascii s from at) where
  pub ascii-block : {k : ℕ} {t : Bool} → k ≤ length s - at → Block s at k t → t ≡ true → Ascii s from (at + k)
  ascii-block {k} {t} l x n = let i = inv.inside in ascii_join inv (record { is = is; inside = omega arith; ahead = omega arith })
    where
      is : (j : ℕ) → at ≤ j → j < at + k → get_or s j 0 < 0x80
      is j g h = let z : at + (j - at) ≡ j = omega arith in rw z at (x.is n (j - at) (omega arith))

-- the walk passes a run
walk_run : {s : List ℕ} {at : ℕ} (n : ℕ) → Walked s at → ((j : ℕ) → at ≤ j → j < at + n → get_or s j 0 < 0x80) → at + n ≤ length s → Walked s (at + n)
walk_run {s} {at} zero inv f h = let z : at ≡ at + 0 = omega arith in subst (Walked s) z inv
walk_run {s} {at} (suc n) inv f h =
    let z : at + n + 1 ≡ at + suc n = omega arith in
    let w = walk_run n inv (λ j a b. f j a (omega arith)) (omega arith) in
    subst (Walked s) z (walk_ascii w (omega arith) (f (at + n) (omega arith) (omega arith)))

pub walk_past : {s : List ℕ} {at r : ℕ} → Walked s at → at < length s → get_or s at 0 < 0x80 → Ascii s (at + 1) r → Walked s r
walk_past {s} {at} {r} inv l h x =
    let a = x.ahead in
    let i = x.inside in
    let z : at + 1 + (r - (at + 1)) ≡ r = omega arith in
    subst (Walked s) z (walk_run (r - (at + 1)) (walk_ascii inv l h) (λ j a b. x.is j a (omega arith)) (omega arith))

-- nothing is bad in ASCII
pub ascii-good : (s : List ℕ) → ((j : ℕ) → j < length s → get_or s j 0 < 0x80) → length s ≡ first_bad s
ascii-good s f =
    let z : 0 + length s ≡ length s = omega arith in
    walk_end (subst (Walked s) z (walk_run (length s) walk_start (λ j a b. f j (omega arith)) (omega arith))) (omega arith)

-- all of it, the last block once more
module _ {s : List ℕ} where
  pub all_not : AllAscii s false
  all_not = record { is = λ e. absurd (true≢false (sym e)) }

  pub all_blocks : {end k : ℕ} {t : Bool} → k ≤ length s → Ascii s 0 end → length s - end < k → Block s (length s - k) k t → AllAscii s t
  all_blocks {end} {k} {t} h x l y = record { is = is }
    where
      is : t ≡ true → (j : ℕ) → j < length s → get_or s j 0 < 0x80
      is e j g = go (ltb j end) refl
        where
          go : (u : Bool) → ltb j end ≡ u → get_or s j 0 < 0x80
          go true f = x.is j (omega arith) (ltb-true j end f)
          go false f = let b = ltb-false j end f in let z : length s - k + (j - (length s - k)) ≡ j = omega arith in rw z at (y.is e (j - (length s - k)) (omega arith))

pub ruleset all_ways = (all_not, all_blocks)

pub bad-none : {s : List ℕ} {t : Bool} → AllAscii s t → t ≡ true → length s ≡ first_bad s
bad-none {s} x e = ascii-good s (x.is e)
