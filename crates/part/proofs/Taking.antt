-- The bytes of a part, as the code takes them.
-- Assumes nothing.
use Prim.Native.Nat.{ℕ, ◌-◌, ◌≤◌}
use native.Mathlib.Omega.{arith}
use mathlib.Core.Path.{◌≡◌, refl}
use mathlib.Core.List.{List}
use lib.ListN.{length, take, drop}
use Rattle.cbor.specs.Refusals.{Verdict, accepted, refused}
use Rattle.cbor.specs.Paths.{Spot, start, end}
use Rattle.refusal.specs.declared.Refusal.{Refusal}
use Rattle.operations.specs.Operations.{part_of}
use Rattle.part.specs.PartAnswers.{locate_told, locate_of, Ordered, taken}
use Rattle.part.specs.declared.Part.{Part}
use Rattle.std.specs.Prelude.{Ok, Err}
use Rattle.std.specs.Prelude as std

module _ (s : List ℕ) {r : std.Result Part Refusal} where
  pub take_none : {e : Refusal} → r ≡ Err e → take (0 - 0) (drop 0 s) ≡ taken s r
  unfolding taken
  take_none f = rw f

  module _ {p : Part} (f : r ≡ Ok p) where
    ordered : Ordered s r → (p.start ≤ p.end) × (p.end ≤ length s)
    unfolding Ordered
    ordered o = rw f at o

    pub take-order : Ordered s r → p.start ≤ p.end
    take-order o = (ordered o).0

    pub take-inside : Ordered s r → p.end ≤ length s
    take-inside o = (ordered o).1

    pub take-some : take (p.end - p.start) (drop p.start s) ≡ taken s r
    unfolding taken
    take-some = rw f

pub ruleset take_ways = (take_none, take-some)

-- the bytes taken are the part that a verdict asks for, if the answer told it
pub taken_is : (s : List ℕ) (r : std.Result Part Refusal) (v : Verdict Spot) → locate_told r ≡ locate_of v → taken s r ≡ part_of s v
unfolding locate_told locate_of part_of taken
taken_is s (Ok p) (accepted z) h =
    let a : p.start ≡ start z = cc in
    let b : p.end ≡ end z = cc in
    λ j. take (b j - a j) (drop (a j) s)
taken_is s (Ok p) (refused n q) h = let z : ◌≡◌ {A = ℕ} 0 1 = cc in absurd (omega arith)
taken_is s (Err e) (accepted z) h = let z : ◌≡◌ {A = ℕ} 0 1 = cc in absurd (omega arith)
taken_is s (Err e) (refused n q) h = refl
