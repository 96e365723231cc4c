-- `closers::turned` meets its contract.
-- Assumes nothing.
use borrow.Author.Rules.{rules}
use Rattle.closers.specs.CloserTables.{turned}
use Rattle.closers.proofs.turned.Goals as goal

pub enum_told-1 : goal.enum_told-1
unfolding turned
enum_told-1 c = search rules

pub enum_told-in-Square : goal.enum_told-in-Square
unfolding turned
enum_told-in-Square c = search rules

pub enum_told-in-Round : goal.enum_told-in-Round
unfolding turned
enum_told-in-Round c = search rules

pub enum_told-in-Angle : goal.enum_told-in-Angle
unfolding turned
enum_told-in-Angle c = search rules

pub enum_told-in-Whole : goal.enum_told-in-Whole
unfolding turned
enum_told-in-Whole c = search rules

pub enum_told-in-Nothing : goal.enum_told-in-Nothing
unfolding turned
enum_told-in-Nothing c = search rules

pub returns-in-Curly : goal.returns-in-Curly
unfolding turned
returns-in-Curly c = search rules

pub returns-in-Square : goal.returns-in-Square
unfolding turned
returns-in-Square c = search rules

pub returns-in-Round : goal.returns-in-Round
unfolding turned
returns-in-Round c = search rules

pub returns-in-Angle : goal.returns-in-Angle
unfolding turned
returns-in-Angle c = search rules

pub returns-in-Whole : goal.returns-in-Whole
unfolding turned
returns-in-Whole c = search rules

pub returns-in-Nothing : goal.returns-in-Nothing
unfolding turned
returns-in-Nothing c = search rules
