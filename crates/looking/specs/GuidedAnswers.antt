-- Of the code: what a walk that a path guides answers. What it finds is so; where it finds nothing, nothing is said.
use Rattle.std.specs.Prelude.{ℕ, suc, ◌-◌, ◌≤◌, ◌≡◌, List, length, drop}
use Rattle.cbor.specs.Refusals.{ok}
use Rattle.cbor.specs.Valid.{Bytes}
use Rattle.cbor.specs.Decode.{Until, counted, ended, another, step_at, most_bytes}
use Rattle.cbor.specs.Paths.{found}
use Rattle.walk_answer.specs.WalkAnswers.{all_of, until_by}
use Rattle.path.specs.Following.{follow_from, trace}
use Rattle.looking.specs.declared.guided.Way.{Way}
use Rattle.std.specs.Prelude.{Some, None}
use Rattle.std.specs.Prelude as std
use Rattle.walk_answer.specs.declared.Mode.{Mode}

-- items are walked over, with d levels left for each: they begin s, and r is left behind them
pub record Walks (d : ℕ) (u : Until) (s r : List ℕ) : Type 0 where
  pub size : ℕ
  pub is : all_of 4 (suc d) u s ≡ ok size r

-- r is where the items from a place on end, if it is in the bytes
pub record Passes (s : List ℕ) (from d : ℕ) (u : Until) (r : ℕ) : Type 0 where
  pub is : r ≤ length s → Walks d u (drop from s) (drop r s)
  pub bytes : Bytes s

-- a place in the bytes, with levels left that there may be
pub record Below (s : List ℕ) (from d : ℕ) : Type 0 where
  pub inside : from ≤ length s
  pub low : d ≤ 16

-- what begins with t has, at the path, the item from start to end; it is an item wherever it stands
pub record Leads (s path t : List ℕ) (w : Way) : Type 0 where
  pub follows : (i : ℕ) → follow_from i path t ≡ found (drop w.start s)
  pub item : Walks 16 (counted 1) (drop w.start s) (drop w.end s)
  pub starts : w.start ≤ length s
  pub ends : w.end ≤ length s
  pub inside : w.behind ≤ length s

-- the item at a place, and the path inside it
pub record WayInside (s path : List ℕ) (from d : ℕ) (w : Way) : Type 0 where
  pub walks : Walks d (counted 1) (drop from s) (drop w.behind s)
  pub leads : Leads s path (drop from s) w

-- several items from a place on: some before the one at `at`, in which the path goes on
pub record WayAmong (s path : List ℕ) (from d : ℕ) (mode : Mode) (count before : ℕ) (w : Way) : Type 0 where
  pub at : ℕ
  pub front : Walks 16 (counted before) (drop from s) (drop at s)
  pub stands : step_at (until_by mode (count - before)) (drop at s) ≡ another (until_by mode (count - before - 1))
  pub walks : Walks d (until_by mode count) (drop from s) (drop w.behind s)
  pub leads : Leads s path (drop at s) w

-- all of the bytes
pub record WayThrough (s path : List ℕ) (w : Way) : Type 0 where
  pub bytes : Bytes s
  pub short : length s ≤ most_bytes
  pub walks : Walks 16 ended s (drop w.behind s)
  pub traces : trace path s ≡ found (drop w.start s)
  pub item : Walks 16 (counted 1) (drop w.start s) (drop w.end s)
  pub starts : w.start ≤ length s
  pub ends : w.end ≤ length s

-- of what is found
unfoldable pub IfFound : (Way → Type 0) → std.Option Way → Type 0
IfFound P (Some w) = P w
IfFound P None = Unit

pub record Inside (s path : List ℕ) (from d : ℕ) (r : std.Option Way) : Type 0 where
  pub told : IfFound (WayInside s path from d) r

pub record Among (s path : List ℕ) (from d : ℕ) (mode : Mode) (count before : ℕ) (r : std.Option Way) : Type 0 where
  pub told : IfFound (WayAmong s path from d mode count before) r

pub record Through (s path : List ℕ) (r : std.Option Way) : Type 0 where
  pub told : IfFound (WayThrough s path) r
