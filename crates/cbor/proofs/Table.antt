-- A fact of each entry of a table, or of each byte, by one test that antt computes.
-- Assumes nothing.
use mathlib.Core.Path.{◌≡◌, refl, sym, subst}
use mathlib.Core.Bool.{Bool, true, false, ◌&&◌}
use mathlib.Core.List.{List, [], ◌∷◌}
use mathlib.Core.Logic.{inl, inr}
use Prim.Native.Nat.{ℕ, zero, suc, ◌+◌, ◌-◌, ◌≤◌, ◌<◌}
use native.Mathlib.Nat.{add-zero, zero-add, add-suc, suc-add}
use native.Mathlib.Omega.{arith}
use lib.Dec.{T}
use lib.ListN.{length, get_or, replicate, length-replicate}
use types.Run.{OneOf}

pub both : (a b : Bool) → T (a && b) → T a × T b
both true b t = (tt, t)
both false b t = absurd t

-- the test f passes at each entry and its place, counted from i
abbrev pub every : (ℕ → ℕ → Bool) → ℕ → List ℕ → Bool
every f i [] = true
every f i (x ∷ xs) = f i x && every f (suc i) xs

pub from : (f : ℕ → ℕ → Bool) (i : ℕ) (xs : List ℕ) → T (every f i xs) → (k : ℕ) → k < length xs → T (f (i + k) (get_or xs k 0))
from f i [] t k h = absurd (omega arith)
from f i (x ∷ xs) t zero h = rw add-zero (both (f i x) (every f (suc i) xs) t).0
from f i (x ∷ xs) t (suc k) h = rw (add-suc, ← suc-add) (from f (suc i) xs (both (f i x) (every f (suc i) xs) t).1 k (omega arith))

pub at : (f : ℕ → ℕ → Bool) (xs : List ℕ) → T (every f 0 xs) → (k : ℕ) → k < length xs → T (f k (get_or xs k 0))
at f xs t k h = rw zero-add at (from f 0 xs t k h)

-- a test that passes at each number from low on, below high
pub between : (f : ℕ → Bool) (low high : ℕ) → T (every (λ k x. f k) low (replicate (high - low) 0)) → (b : ℕ) → low ≤ b → b < high → T (f b)
between f low high t b l h =
    let k : b - low < length {A = ℕ} (replicate (high - low) 0) = simp length-replicate (omega arith) in
    let e : low + (b - low) ≡ b = omega arith in
    rw e at (from (λ k x. f k) low (replicate (high - low) 0) t (b - low) k)

pub byte : (f : ℕ → Bool) → T (every (λ k x. f k) 0 (replicate 256 0)) → (b : ℕ) → b < 256 → T (f b)
byte f t b h = at (λ k x. f k) (replicate 256 0) t b h

-- a test that passes at each of some keys, as the arm of a match has them
abbrev pub all : (ℕ → Bool) → List ℕ → Bool
all f [] = true
all f (k ∷ ks) = f k && all f ks

pub each : (f : ℕ → Bool) (ks : List ℕ) (b : ℕ) → OneOf ks b → T (all f ks) → T (f b)
each f [] b o t = absurd o
each f (k ∷ []) b o t = subst (λ (x : ℕ). T (f x)) (sym o) (both (f k) true t).0
each f (k ∷ k' ∷ ks) b (inl e) t = subst (λ (x : ℕ). T (f x)) (sym e) (both (f k) (all f (k' ∷ ks)) t).0
each f (k ∷ k' ∷ ks) b (inr o) t = each f (k' ∷ ks) b o (both (f k) (all f (k' ∷ ks)) t).1

pub yes : (t : Bool) → T t → t ≡ true
yes true x = refl
yes false x = absurd x
