-- Of the code: what the quick way over items answers, in one number: the end in its low half, the bytes of strings in its high half. All bits stand for
-- nothing that is known.
use Rattle.std.specs.Prelude.{ℕ, suc, ◌+◌, ◌-◌, ◌/◌, ◌%◌, ◌<◌, ◌≡◌, List, Bool, false, length, drop, get_or}
use Rattle.memory.specs.Sums.{capped}
use Rattle.quick_head.specs.QuickHeads.{Small}
use Rattle.walk_answer.specs.WalkAnswers.{PassTold, passed, told_of, one_of, all_of, until_by}
use Rattle.walk_answer.specs.declared.Mode.TheVariants.{Counted}

-- r is what is told, if it is known
pub record Quick (t : PassTold) (r : ℕ) : Type 0 where
  pub is : (r ≡ 0xffffffffffffffff → ⊥) → passed (r % 4294967296) (r / 4294967296) ≡ t

-- with a level left
pub record Deeper (s : List ℕ) (levels : ℕ) : Type 0 where
  pub small : Small s
  pub level : 0 < levels

pub record Halves (end size : ℕ) : Type 0 where
  pub ends : end < 4294967296
  pub small : size < 4294967296

-- an answer that can be counted from `end` places before
pub record Shifts (end r : ℕ) : Type 0 where
  pub is : (r ≡ 0xffffffffffffffff → ⊥) → end + r % 4294967296 < 4294967296

-- x: the answer r, counted from `end` places before
pub record Shifted (end r x : ℕ) : Type 0 where
  pub known : (x ≡ 0xffffffffffffffff → ⊥) → r ≡ 0xffffffffffffffff → ⊥
  pub ends : (x ≡ 0xffffffffffffffff → ⊥) → x % 4294967296 ≡ capped end (r % 4294967296)
  pub size : (x ≡ 0xffffffffffffffff → ⊥) → x / 4294967296 ≡ capped 0 (r / 4294967296)

-- the item at the front is passed over by n items behind its initial byte, with a level less, if n is below ff
pub record Opens (s : List ℕ) (levels n : ℕ) : Type 0 where
  pub level : n < 0xff → 0 < levels
  pub inside : n < 0xff → 0 < length s
  pub is : n < 0xff → told_of (length s) (all_of 4 (suc (levels - 1)) (until_by Counted n) (drop 1 s)) ≡ told_of (length s) (one_of 4 (suc levels) s)

-- if not r, there is a byte at the front, and it is no break
pub record Ends (s : List ℕ) (r : Bool) : Type 0 where
  pub some : r ≡ false → 0 < length s
  pub other : r ≡ false → get_or s 0 0 ≡ 0xff → ⊥
