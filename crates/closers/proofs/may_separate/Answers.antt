use borrow.Author.Rules.{rules}
use Rattle.closers.specs.CloserTables.{may_separate}
use Rattle.closers.proofs.may_separate.Goals as goal

pub enum_told-1 : goal.enum_told-1
unfolding may_separate
enum_told-1 c = search rules

pub enum_told-in-Curly : goal.enum_told-in-Curly
unfolding may_separate
enum_told-in-Curly c = search rules

pub enum_told-in-Angle : goal.enum_told-in-Angle
unfolding may_separate
enum_told-in-Angle c = search rules

pub enum_told-in-Whole : goal.enum_told-in-Whole
unfolding may_separate
enum_told-in-Whole c = search rules

pub enum_told-in-Round : goal.enum_told-in-Round
unfolding may_separate
enum_told-in-Round c = search rules

pub enum_told-in-Nothing : goal.enum_told-in-Nothing
unfolding may_separate
enum_told-in-Nothing c = search rules

pub returns-in-Square : goal.returns-in-Square
unfolding may_separate
returns-in-Square c = search rules

pub returns-in-Curly : goal.returns-in-Curly
unfolding may_separate
returns-in-Curly c = search rules

pub returns-in-Angle : goal.returns-in-Angle
unfolding may_separate
returns-in-Angle c = search rules

pub returns-in-Whole : goal.returns-in-Whole
unfolding may_separate
returns-in-Whole c = search rules

pub returns-in-Round : goal.returns-in-Round
unfolding may_separate
returns-in-Round c = search rules

pub returns-in-Nothing : goal.returns-in-Nothing
unfolding may_separate
returns-in-Nothing c = search rules
