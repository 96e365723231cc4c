-- Of the code: what the code that follows a path answers.
use Rattle.std.specs.Prelude.{ℕ, ◌*◌, ◌≤◌, ◌<◌, ◌≡◌, List, Bool, true, false, length, drop}
use Rattle.cbor.specs.Decode.{counted}
use Rattle.walk_answer.specs.WalkAnswers.{all_of}
use Rattle.cbor.specs.Paths.{Found, found, nowhere}
use Rattle.path.specs.Following.{Place, at, astray, behind_one, trace}
use Rattle.std.specs.Prelude.{Ok, Err, Some, None}
use Rattle.std.specs.Prelude as std
use Rattle.path.specs.declared.Cursor.{Cursor}

-- A PATH, STEP BY STEP

unfoldable pub place_of : List ℕ → std.Option Cursor → Place
place_of s (Some c) = at (drop c.at s)
place_of s None = astray

unfoldable pub ReachedInside : List ℕ → std.Option Cursor → Type 0
ReachedInside s (Some c) = c.at ≤ length s
ReachedInside s None = Unit

pub record ReachedAt (s : List ℕ) (r : std.Option Cursor) (p : Place) : Type 0 where
  pub is : place_of s r ≡ p
  pub inside : ReachedInside s r

-- a number of a path, of at most 16 bits
pub record Step (k r : ℕ) : Type 0 where
  pub is : r ≡ k
  pub small : r < 65536

-- elements of an array, or entries of a map, which are pairs of items
unfoldable pub major_by : Bool → ℕ
major_by true = 5
major_by false = 4

unfoldable pub items_before : Bool → ℕ → ℕ
items_before true k = k * 2
items_before false k = k

-- behind a number of items
unfoldable pub past_items : ℕ → List ℕ → Place
past_items n s = behind_one (all_of 4 17 (counted n) s)

unfoldable pub traced_to : List ℕ → std.Result Cursor ℕ → Found (List ℕ)
traced_to s (Ok c) = found (drop c.at s)
traced_to s (Err i) = nowhere i

unfoldable pub Still : List ℕ → std.Result Cursor ℕ → Type 0
Still s (Ok c) = c.at ≤ length s
Still s (Err i) = Unit

pub record Traced (s path : List ℕ) (r : std.Result Cursor ℕ) : Type 0 where
  pub is : traced_to s r ≡ trace path s
  pub inside : Still s r
