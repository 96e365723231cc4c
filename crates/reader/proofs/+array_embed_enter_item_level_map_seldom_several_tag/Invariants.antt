-- The cycle of readers meets its contracts.
-- Assumes nothing.
use Prim.Native.Nat.{◌+◌, ◌-◌, ◌*◌}
use lib.ListN.{length}
use Rattle.notation.specs.Reading.{marked}
use Rattle.reader.proofs.ReadSeveral.{Listing}
use Rattle.reader.proofs.+array_embed_enter_item_level_map_seldom_several_tag.Given as goal

abbrev pub decreases-array : goal.decreases-array
decreases-array l = 8 * l.levels + 6

abbrev pub decreases-embed : goal.decreases-embed
decreases-embed l = 8 * l.levels + 6

abbrev pub decreases-enter : goal.decreases-enter
decreases-enter l = 8 * l.levels + 2

abbrev pub decreases-item : goal.decreases-item
decreases-item l = 8 * l.levels + 3

abbrev pub decreases-level : goal.decreases-level
decreases-level l = 8 * l.levels

abbrev pub decreases-map : goal.decreases-map
decreases-map l = 8 * l.levels + 6

abbrev pub decreases-seldom : goal.decreases-seldom
decreases-seldom l = 8 * l.levels + 1

abbrev pub decreases-several : goal.decreases-several
decreases-several l = 8 * l.levels + 5

abbrev pub decreases-tag : goal.decreases-tag
decreases-tag l = 8 * l.levels + 6

abbrev pub invariant-several-loop-m : goal.invariant-several-loop-m
invariant-several-loop-m l = Listing l.closer l.levels l.text l.initial.buf l.from l.pos l.at l.n l.size l.key l.buf

abbrev pub decreases-several-loop-m : goal.decreases-several-loop-m
decreases-several-loop-m l = length (marked l.text) - l.at
