-- `closers::starts` meets its contract.
-- Assumes nothing.
use borrow.Author.Rules.{rules}
use Rattle.closers.specs.CloserTables.{starts}
use Rattle.closers.proofs.starts.Goals as goal

pub enum_told-1 : goal.enum_told-1
unfolding starts
enum_told-1 c = search rules

pub enum_told-in-Square : goal.enum_told-in-Square
unfolding starts
enum_told-in-Square c = search rules

pub enum_told-in-Round : goal.enum_told-in-Round
unfolding starts
enum_told-in-Round c = search rules

pub enum_told-in-Angle : goal.enum_told-in-Angle
unfolding starts
enum_told-in-Angle c = search rules

pub enum_told-in-Whole : goal.enum_told-in-Whole
unfolding starts
enum_told-in-Whole c = search rules

pub enum_told-in-Nothing : goal.enum_told-in-Nothing
unfolding starts
enum_told-in-Nothing c = search rules

pub returns-in-Curly : goal.returns-in-Curly
unfolding starts
returns-in-Curly c = search rules

pub returns-in-Square : goal.returns-in-Square
unfolding starts
returns-in-Square c = search rules

pub returns-in-Round : goal.returns-in-Round
unfolding starts
returns-in-Round c = search rules

pub returns-in-Angle : goal.returns-in-Angle
unfolding starts
returns-in-Angle c = search rules

pub returns-in-Whole : goal.returns-in-Whole
unfolding starts
returns-in-Whole c = search rules

pub returns-in-Nothing : goal.returns-in-Nothing
unfolding starts
returns-in-Nothing c = search rules
