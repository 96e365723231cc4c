-- `reader::is_leaf` meets its contract.
-- Assumes nothing.
use borrow.Author.Rules.{rules}
use Rattle.reader.specs.OneItem.{is_leaf}
use Rattle.reader.proofs.is_leaf.Goals as goal

pub enum_told-1 : goal.enum_told-1
unfolding is_leaf
enum_told-1 c = search rules

pub enum_told-in-Tag : goal.enum_told-in-Tag
unfolding is_leaf
enum_told-in-Tag c = search rules

pub enum_told-in-Odd : goal.enum_told-in-Odd
unfolding is_leaf
enum_told-in-Odd c = search rules

pub enum_told-in-Nothing : goal.enum_told-in-Nothing
unfolding is_leaf
enum_told-in-Nothing c = search rules

pub returns-in-Leaf : goal.returns-in-Leaf
unfolding is_leaf
returns-in-Leaf c = search rules

pub returns-in-Tag : goal.returns-in-Tag
unfolding is_leaf
returns-in-Tag c = search rules

pub returns-in-Odd : goal.returns-in-Odd
unfolding is_leaf
returns-in-Odd c = search rules

pub returns-in-Nothing : goal.returns-in-Nothing
unfolding is_leaf
returns-in-Nothing c = search rules
