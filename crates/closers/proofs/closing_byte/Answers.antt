use borrow.Author.Rules.{rules}
use Rattle.closers.specs.CloserTables.{closing_byte}
use Rattle.closers.proofs.closing_byte.Goals as goal

pub enum_told-1 : goal.enum_told-1
unfolding closing_byte
enum_told-1 c = search rules

pub enum_told-in-Curly : goal.enum_told-in-Curly
unfolding closing_byte
enum_told-in-Curly c = search rules

pub enum_told-in-Round : goal.enum_told-in-Round
unfolding closing_byte
enum_told-in-Round c = search rules

pub enum_told-in-Angle : goal.enum_told-in-Angle
unfolding closing_byte
enum_told-in-Angle c = search rules

pub enum_told-in-Whole : goal.enum_told-in-Whole
unfolding closing_byte
enum_told-in-Whole c = search rules

pub enum_told-in-Nothing : goal.enum_told-in-Nothing
unfolding closing_byte
enum_told-in-Nothing c = search rules

pub returns-in-Square : goal.returns-in-Square
unfolding closing_byte
returns-in-Square c = search rules

pub returns-in-Curly : goal.returns-in-Curly
unfolding closing_byte
returns-in-Curly c = search rules

pub returns-in-Round : goal.returns-in-Round
unfolding closing_byte
returns-in-Round c = search rules

pub returns-in-Angle : goal.returns-in-Angle
unfolding closing_byte
returns-in-Angle c = search rules

pub returns-in-Whole : goal.returns-in-Whole
unfolding closing_byte
returns-in-Whole c = search rules

pub returns-in-Nothing : goal.returns-in-Nothing
unfolding closing_byte
returns-in-Nothing c = search rules
