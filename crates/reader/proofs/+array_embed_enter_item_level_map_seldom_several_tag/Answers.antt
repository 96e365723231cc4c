-- The cycle of readers meets its contracts.
-- Assumes nothing.
use Rattle.std.proofs.lemmas.Result.{err_from_is_err_and}
use borrow.Author.Rules.{rules}
use native.Mathlib.Omega.{arith}
use Rattle.encoding.proofs.Telling.{made_inside}
use Rattle.reader.proofs.ReadItems.{item-leaf, item_deep, item-whole, level_odd, room-inside, flat_deep, flat_opening, level-at, level_open, level-skips, level-some}
use Rattle.reader.proofs.ReadContainers.{array_ways, map_ways, embed_ways, tag_ways, tag-place, tag-room, bracket-fits, bracket-room, bracket_light, embed_fits, embed_room, embed_heavy, embed_light, short-few, heavy_4, heavy_5, level_ways, bare_ways, open_rooms, bare_array-room, bare_map-room}
use Rattle.reader.proofs.ReadSeveral.{several_ways, several-start, several-place, several-room, several-count, several-fits, several-same, several_less, several-on}
use Rattle.reader.proofs.+array_embed_enter_item_level_map_seldom_several_tag.Goals as goal

pub array-overflow_add-pos : goal.array-overflow_add-pos
array-overflow_add-pos t c = search bracket-fits

pub array-several-requires : goal.array-several-requires
array-several-requires t c = (omega arith, search bracket-room)

pub array-finish_short-requires : goal.array-finish_short-requires
array-finish_short-requires t c = let w = c.in_ok-m.was {u = tt} in record { heavy = search heavy_4; few = search short-few }

pub array-returns-then-is_short : goal.array-returns-then-is_short
array-returns-then-is_short t c = let w = c.in_ok-m.was {u = tt} in search array_ways

pub array-endless-requires : goal.array-endless-requires
array-endless-requires t c = let w = c.in_ok-m.was {u = tt} in search bracket_light

pub array-returns-then-indicator-eq-INDEFINITE : goal.array-returns-then-indicator-eq-INDEFINITE
array-returns-then-indicator-eq-INDEFINITE t c = let w = c.in_ok-m.was {u = tt} in search array_ways

pub array-finish-requires : goal.array-finish-requires
array-finish-requires t c = let w = c.in_ok-m.was {u = tt} in search heavy_4

pub array-returns-in_err-m : goal.array-returns-in_err-m
array-returns-in_err-m t c = let w = c.in_err-m.was {u = tt} in let p = err_from_is_err_and c.from_residual.result c.from_residual.ensures.1 in rw (p.1, p.2) (search array_ways)

pub array-returns : goal.array-returns
array-returns t c = let w = c.in_ok-m.was {u = tt} in search array_ways

pub embed-overflow_add-pos : goal.embed-overflow_add-pos
embed-overflow_add-pos t c = search embed_fits

pub embed-several-requires : goal.embed-several-requires
embed-several-requires t c = (omega arith, search embed_room)

pub embed-enclose-requires : goal.embed-enclose-requires
embed-enclose-requires t c = let w = c.in_ok-m.was {u = tt} in record { heavy = search embed_heavy; light = search embed_light }

pub embed-returns-in_err-m : goal.embed-returns-in_err-m
embed-returns-in_err-m t c = let w = c.in_err-m.was {u = tt} in let p = err_from_is_err_and c.from_residual.result c.from_residual.ensures.1 in rw (p.1, p.2) (search embed_ways)

pub embed-returns : goal.embed-returns
embed-returns t c = let w = c.in_ok-m.was {u = tt} in search embed_ways

pub enter-opens_bare-requires : goal.enter-opens_bare-requires
enter-opens_bare-requires t c = record { skips = search level-skips; from_in_bounds = search room-inside }

pub enter-overflow_add-at : goal.enter-overflow_add-at
enter-overflow_add-at t c = record { fits = omega (arith, c.opens_bare.ensures.inside c.if-opens_bare.true) }

pub enter-overflow_sub-levels : goal.enter-overflow_sub-levels
enter-overflow_sub-levels t c = search level-some

pub enter-array-requires : goal.enter-array-requires
enter-array-requires t c = (omega arith, search bare_array-room)

pub enter-returns-then-opens_bare : goal.enter-returns-then-opens_bare
enter-returns-then-opens_bare t c = search bare_ways

pub enter-opens_bare-requires-2 : goal.enter-opens_bare-requires-2
enter-opens_bare-requires-2 t c = record { skips = search level-skips; from_in_bounds = search room-inside }

pub enter-overflow_add-at-then-opens_bare-2 : goal.enter-overflow_add-at-then-opens_bare-2
enter-overflow_add-at-then-opens_bare-2 t c = record { fits = omega (arith, c.opens_bare-2.ensures.inside c.if-opens_bare-2.true) }

pub enter-overflow_sub-levels-then-opens_bare-2 : goal.enter-overflow_sub-levels-then-opens_bare-2
enter-overflow_sub-levels-then-opens_bare-2 t c = search level-some

pub enter-map-requires : goal.enter-map-requires
enter-map-requires t c = (omega arith, bare_map-room _ c.if-opens_bare-2.true c.opens_bare-2.ensures (search rules))

pub enter-returns-then-opens_bare-2 : goal.enter-returns-then-opens_bare-2
enter-returns-then-opens_bare-2 t c = search bare_ways

pub enter-seldom-requires : goal.enter-seldom-requires
enter-seldom-requires t c = (omega arith, (search rules, search rules))

pub item-skip-here-requires : goal.item-skip-here-requires
item-skip-here-requires t c = search room-inside

pub item-returns-then-is_leaf : goal.item-returns-then-is_leaf
item-returns-then-is_leaf t c = search item-leaf

pub item-flat-requires : goal.item-flat-requires
item-flat-requires t c = record { flat = search flat_deep; room = search rules }

pub item-returns-then-levels-eq0 : goal.item-returns-then-levels-eq0
item-returns-then-levels-eq0 t c = search item_deep

pub item-enter-requires : goal.item-enter-requires
item-enter-requires t c = (omega arith, (search level-at, search rules))

pub item-returns : goal.item-returns
item-returns t c = search item-whole

pub level-opening_at-o-requires : goal.level-opening_at-o-requires
level-opening_at-o-requires t c = record { opened = search level_open; from_in_bounds = search room-inside }

pub level-overflow_sub-levels : goal.level-overflow_sub-levels
level-overflow_sub-levels t c = search level-some

pub level-array-requires : goal.level-array-requires
level-array-requires t c = (omega arith, search open_rooms)

pub level-overflow_sub-levels-in-Map : goal.level-overflow_sub-levels-in-Map
level-overflow_sub-levels-in-Map t c = search level-some

pub level-map-requires : goal.level-map-requires
level-map-requires t c = (omega arith, search open_rooms)

pub level-overflow_sub-levels-in-Tag : goal.level-overflow_sub-levels-in-Tag
level-overflow_sub-levels-in-Tag t c = search level-some

pub level-tag-requires : goal.level-tag-requires
level-tag-requires t c = (omega arith, search open_rooms)

pub level-overflow_sub-levels-in-Embedded : goal.level-overflow_sub-levels-in-Embedded
level-overflow_sub-levels-in-Embedded t c = search level-some

pub level-embed-requires : goal.level-embed-requires
level-embed-requires t c = (omega arith, search open_rooms)

pub level-flat-requires : goal.level-flat-requires
level-flat-requires t c = record { flat = flat_opening c.opening_at-o.ensures (search rules); room = search rules }

pub level-returns-in-Array : goal.level-returns-in-Array
level-returns-in-Array t c = search level_ways

pub level-returns-in-Map : goal.level-returns-in-Map
level-returns-in-Map t c = search level_ways

pub level-returns-in-Tag : goal.level-returns-in-Tag
level-returns-in-Tag t c = search level_ways

pub level-returns-in-Embedded : goal.level-returns-in-Embedded
level-returns-in-Embedded t c = search level_ways

pub level-returns-in-Nothing : goal.level-returns-in-Nothing
level-returns-in-Nothing t c = search level_ways

pub map-overflow_add-pos : goal.map-overflow_add-pos
map-overflow_add-pos t c = search bracket-fits

pub map-several-requires : goal.map-several-requires
map-several-requires t c = (omega arith, search bracket-room)

pub map-finish_short-requires : goal.map-finish_short-requires
map-finish_short-requires t c = let w = c.in_ok-m.was {u = tt} in record { heavy = search heavy_5; few = search short-few }

pub map-returns-then-is_short : goal.map-returns-then-is_short
map-returns-then-is_short t c = let w = c.in_ok-m.was {u = tt} in search map_ways

pub map-endless-requires : goal.map-endless-requires
map-endless-requires t c = let w = c.in_ok-m.was {u = tt} in search bracket_light

pub map-returns-then-indicator-eq-INDEFINITE : goal.map-returns-then-indicator-eq-INDEFINITE
map-returns-then-indicator-eq-INDEFINITE t c = let w = c.in_ok-m.was {u = tt} in search map_ways

pub map-finish-requires : goal.map-finish-requires
map-finish-requires t c = let w = c.in_ok-m.was {u = tt} in search heavy_5

pub map-returns-in_err-m : goal.map-returns-in_err-m
map-returns-in_err-m t c = let w = c.in_err-m.was {u = tt} in let p = err_from_is_err_and c.from_residual.result c.from_residual.ensures.1 in rw (p.1, p.2) (search map_ways)

pub map-returns : goal.map-returns
map-returns t c = let w = c.in_ok-m.was {u = tt} in search map_ways

pub seldom-returns-then-is_leaf : goal.seldom-returns-then-is_leaf
seldom-returns-then-is_leaf t c = search level_odd

pub seldom-level-requires : goal.seldom-level-requires
seldom-level-requires t c = (omega arith, (search rules, search rules))

pub seldom-returns : goal.seldom-returns
seldom-returns t c = search item-whole

pub several-first-start-requires : goal.several-first-start-requires
several-first-start-requires t c = search room-inside

pub several-returns-then-empty : goal.several-returns-then-empty
several-returns-then-empty t c = search several_ways

pub several-loop-m-init : goal.several-loop-m-init
several-loop-m-init t c = search several-start

pub several-overflow_add-pos : goal.several-overflow_add-pos
several-overflow_add-pos t c = search several-place

pub several-item-requires : goal.several-item-requires
several-item-requires t c = (omega arith, search several-room)

pub several-shape_of-buf-in_err-m : goal.several-shape_of-buf-in_err-m
several-shape_of-buf-in_err-m t c = search (several-same, rules)

pub several-returns-in_err-m : goal.several-returns-in_err-m
several-returns-in_err-m t c = let w = c.in_err-m.was {u = tt} in let p = err_from_is_err_and c.from_residual.result c.from_residual.ensures.1 in rw (p.1, p.2) (search several_ways)

pub several-overflow_add-n : goal.several-overflow_add-n
several-overflow_add-n t c = let w = c.in_ok-m.was {u = tt} in search several-count

pub several-overflow_add-size : goal.several-overflow_add-size
several-overflow_add-size t c = let w = c.in_ok-m.was {u = tt} in search several-fits

pub several-followed-f-requires : goal.several-followed-f-requires
several-followed-f-requires t c = let w = c.in_ok-m.was {u = tt} in search (made_inside, c.item.ensures)

pub several-shape_of-buf-in-Over : goal.several-shape_of-buf-in-Over
several-shape_of-buf-in-Over t c = let w = c.in_ok-m.was {u = tt} in search (several-same, rules)

pub several-returns-in-Over : goal.several-returns-in-Over
several-returns-in-Over t c = let w = c.in_ok-m.was {u = tt} in search several_ways

pub several-stray-requires : goal.several-stray-requires
several-stray-requires t c = let w = c.in_ok-m.was {u = tt} in search (made_inside, c.item.ensures)

pub several-shape_of-buf-in-Stray : goal.several-shape_of-buf-in-Stray
several-shape_of-buf-in-Stray t c = let w = c.in_ok-m.was {u = tt} in search (several-same, rules)

pub several-returns-in-Stray : goal.several-returns-in-Stray
several-returns-in-Stray t c = let w = c.in_ok-m.was {u = tt} in search several_ways

pub several-loop-m-smaller : goal.several-loop-m-smaller
several-loop-m-smaller t c = let w = c.in_ok-m.was {u = tt} in search several_less

pub several-loop-m-preserved : goal.several-loop-m-preserved
several-loop-m-preserved t c = let w = c.in_ok-m.was {u = tt} in search several-on

pub tag-overflow_add-pos : goal.tag-overflow_add-pos
tag-overflow_add-pos t c = search tag-place

pub tag-several-requires : goal.tag-several-requires
tag-several-requires t c = (omega arith, search tag-room)

pub tag-returns-in_err-m : goal.tag-returns-in_err-m
tag-returns-in_err-m t c = let w = c.in_err-m.was {u = tt} in let p = err_from_is_err_and c.from_residual.result c.from_residual.ensures.1 in rw (p.1, p.2) (search tag_ways)

pub tag-returns : goal.tag-returns
tag-returns t c = let w = c.in_ok-m.was {u = tt} in search tag_ways
