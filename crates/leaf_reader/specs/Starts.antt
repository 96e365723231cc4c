-- Of the code: what a leaf may begin with.
use Rattle.std.specs.Prelude.{ℕ, ◌≡◌}
use Rattle.leaf_reader.specs.declared.Start.{Start}
use Rattle.leaf_reader.specs.declared.Start.TheVariants.{Quoted, Hex}
use Rattle.plain_string.specs.StringParts.{Quote}

pub record StartsAs (b : ℕ) (k : Start) : Type 0 where
  pub quoted : k ≡ Quoted → Quote b
  pub hex : k ≡ Hex → b ≡ 0x68
