-- `closers::is_single` meets its contract.
-- Assumes nothing.
use borrow.Author.Rules.{rules}
use Rattle.closers.specs.CloserTables.{is_single}
use Rattle.closers.proofs.is_single.Goals as goal

pub enum_told-1 : goal.enum_told-1
unfolding is_single
enum_told-1 c = search rules

pub enum_told-in-Square : goal.enum_told-in-Square
unfolding is_single
enum_told-in-Square c = search rules

pub enum_told-in-Curly : goal.enum_told-in-Curly
unfolding is_single
enum_told-in-Curly c = search rules

pub enum_told-in-Round : goal.enum_told-in-Round
unfolding is_single
enum_told-in-Round c = search rules

pub enum_told-in-Angle : goal.enum_told-in-Angle
unfolding is_single
enum_told-in-Angle c = search rules

pub enum_told-in-Whole : goal.enum_told-in-Whole
unfolding is_single
enum_told-in-Whole c = search rules

pub returns-in-Nothing : goal.returns-in-Nothing
unfolding is_single
returns-in-Nothing c = search rules

pub returns-in-Square : goal.returns-in-Square
unfolding is_single
returns-in-Square c = search rules

pub returns-in-Curly : goal.returns-in-Curly
unfolding is_single
returns-in-Curly c = search rules

pub returns-in-Round : goal.returns-in-Round
unfolding is_single
returns-in-Round c = search rules

pub returns-in-Angle : goal.returns-in-Angle
unfolding is_single
returns-in-Angle c = search rules

pub returns-in-Whole : goal.returns-in-Whole
unfolding is_single
returns-in-Whole c = search rules
