-- Of the code: what an item is, by its initial byte.
use Rattle.std.specs.Prelude.{ℕ, ◌/◌, ◌%◌, ◌<◌, ◌≡◌, Bool, true, ◌&&◌, ltb, eqb}
use Rattle.leaf_kind.specs.declared.Kind.{Kind}
use Rattle.leaf_kind.specs.declared.Kind.TheVariants.{Small, One, Two, Four, Bytes, Text, False, True, Null, Other}

-- whether an item of a kind begins with b: its major type, and its additional information
unfoldable pub begins : ℕ → Kind → Bool
begins b Small = eqb (b / 64) 0 && ltb (b % 32) 24
begins b One = eqb (b / 64) 0 && eqb (b % 32) 24
begins b Two = eqb (b / 64) 0 && eqb (b % 32) 25
begins b Four = eqb (b / 64) 0 && eqb (b % 32) 26
begins b Bytes = eqb (b / 32) 2 && ltb (b % 32) 24
begins b Text = eqb (b / 32) 3 && ltb (b % 32) 24
begins b False = eqb b 0xf4
begins b True = eqb b 0xf5
begins b Null = eqb b 0xf6
begins b Other = true

pub record KindOf (b : ℕ) (k : Kind) : Type 0 where
  pub is : begins b k ≡ true
  pub byte : b < 256
