-- `opening::bracket` meets its contract.
-- Assumes nothing.
use borrow.Author.Rules.{rules}
use Rattle.opening.proofs.Openers.{bracket-behind, bracket-before, bracket-inside, bracket-done}
use Rattle.opening.proofs.bracket.Goals as goal

pub overflow_add-at : goal.overflow_add-at
overflow_add-at c = search (bracket-inside, rules)

pub indicator_at-m-requires : goal.indicator_at-m-requires
indicator_at-m-requires c = search bracket-behind

pub cut_opening-requires : goal.cut_opening-requires
cut_opening-requires c = search bracket-before

pub returns : goal.returns
returns c = search bracket-done
