-- Kinds: each row of the table is tested at each of its bytes.
-- Assumes nothing.
use mathlib.Core.Path.{◌≡◌, refl}
use mathlib.Core.Bool.{Bool, true, false, ◌&&◌, false≢true}
use Prim.Native.Nat.{ℕ, ◌/◌, ◌%◌, ◌<◌}
use lib.Dec.{ltb, eqb}
use borrow.Author.Tests.{eqb-true, ltb-true}
use Rattle.leaf_kind.specs.LeafKinds.{begins, KindOf}
use Rattle.leaf_kind.specs.declared.Kind.{Kind}
use Rattle.leaf_kind.specs.declared.Kind.TheVariants.{Small, One, Two, Four, Bytes, Text, False, True, Null}

-- WHAT A KIND SAYS

pub kind_as : {b : ℕ} {k j : Kind} → KindOf b k → k ≡ j → KindOf b j
kind_as x e = rw e at x

and-true : (p q : Bool) → p && q ≡ true → (p ≡ true) × (q ≡ true)
and-true true q e = (refl, e)
and-true false q e = absurd (false≢true e)

module _ {b : ℕ} where
  pub small_is : KindOf b Small → (b / 64 ≡ 0) × (b % 32 < 24)
  unfolding begins
  small_is k = let p = and-true (eqb (b / 64) 0) (ltb (b % 32) 24) k.is in (eqb-true (b / 64) 0 p.0, ltb-true (b % 32) 24 p.1)

  pub one-is : KindOf b One → (b / 64 ≡ 0) × (b % 32 ≡ 24)
  unfolding begins
  one-is k = let p = and-true (eqb (b / 64) 0) (eqb (b % 32) 24) k.is in (eqb-true (b / 64) 0 p.0, eqb-true (b % 32) 24 p.1)

  pub two_is : KindOf b Two → (b / 64 ≡ 0) × (b % 32 ≡ 25)
  unfolding begins
  two_is k = let p = and-true (eqb (b / 64) 0) (eqb (b % 32) 25) k.is in (eqb-true (b / 64) 0 p.0, eqb-true (b % 32) 25 p.1)

  pub four_is : KindOf b Four → (b / 64 ≡ 0) × (b % 32 ≡ 26)
  unfolding begins
  four_is k = let p = and-true (eqb (b / 64) 0) (eqb (b % 32) 26) k.is in (eqb-true (b / 64) 0 p.0, eqb-true (b % 32) 26 p.1)

  pub bytes-is : KindOf b Bytes → (b / 32 ≡ 2) × (b % 32 < 24)
  unfolding begins
  bytes-is k = let p = and-true (eqb (b / 32) 2) (ltb (b % 32) 24) k.is in (eqb-true (b / 32) 2 p.0, ltb-true (b % 32) 24 p.1)

  pub text-is : KindOf b Text → (b / 32 ≡ 3) × (b % 32 < 24)
  unfolding begins
  text-is k = let p = and-true (eqb (b / 32) 3) (ltb (b % 32) 24) k.is in (eqb-true (b / 32) 3 p.0, ltb-true (b % 32) 24 p.1)

  pub false_is : KindOf b False → b ≡ 0xf4
  unfolding begins
  false_is k = eqb-true b 0xf4 k.is

  pub true_is : KindOf b True → b ≡ 0xf5
  unfolding begins
  true_is k = eqb-true b 0xf5 k.is

  pub null_is : KindOf b Null → b ≡ 0xf6
  unfolding begins
  null_is k = eqb-true b 0xf6 k.is
