use borrow.Author.Rules.{rules}
use Rattle.closers.specs.CloserTables.{has_sign}
use Rattle.closers.proofs.has_sign.Goals as goal

pub enum_told-1 : goal.enum_told-1
unfolding has_sign
enum_told-1 c = search rules

pub enum_told-in-Curly : goal.enum_told-in-Curly
unfolding has_sign
enum_told-in-Curly c = search rules

pub enum_told-in-Round : goal.enum_told-in-Round
unfolding has_sign
enum_told-in-Round c = search rules

pub enum_told-in-Angle : goal.enum_told-in-Angle
unfolding has_sign
enum_told-in-Angle c = search rules

pub enum_told-in-Whole : goal.enum_told-in-Whole
unfolding has_sign
enum_told-in-Whole c = search rules

pub enum_told-in-Nothing : goal.enum_told-in-Nothing
unfolding has_sign
enum_told-in-Nothing c = search rules

pub returns-in-Square : goal.returns-in-Square
unfolding has_sign
returns-in-Square c = search rules

pub returns-in-Curly : goal.returns-in-Curly
unfolding has_sign
returns-in-Curly c = search rules

pub returns-in-Round : goal.returns-in-Round
unfolding has_sign
returns-in-Round c = search rules

pub returns-in-Angle : goal.returns-in-Angle
unfolding has_sign
returns-in-Angle c = search rules

pub returns-in-Whole : goal.returns-in-Whole
unfolding has_sign
returns-in-Whole c = search rules

pub returns-in-Nothing : goal.returns-in-Nothing
unfolding has_sign
returns-in-Nothing c = search rules
