-- `quick_leaf::leaf_size` meets its contract.
-- Assumes nothing.
use borrow.Author.Rules.{rules}
use Rattle.head.specs.HeadAnswers.{argument_size}
use Rattle.quick_leaf.specs.WalkLeaves.{leaf_content, leaf_size, is_leaf}
use Rattle.quick_leaf.proofs.LeafCode.{right_size, size_rule}
use Rattle.quick_leaf.proofs.leaf_size.Goals as goal

pub returns : goal.returns
unfolding right_size leaf_size leaf_content is_leaf argument_size
returns c = search (size_rule, rules)
