use borrow.Author.Rules.{rules}
use Rattle.opening.specs.Openings.{bracket_byte}
use Rattle.opening.proofs.bracket_byte.Goals as goal

pub enum_told-1 : goal.enum_told-1
unfolding bracket_byte
enum_told-1 c = search rules

pub enum_told-in-Map : goal.enum_told-in-Map
unfolding bracket_byte
enum_told-in-Map c = search rules

pub enum_told-in-Tag : goal.enum_told-in-Tag
unfolding bracket_byte
enum_told-in-Tag c = search rules

pub enum_told-in-Embedded : goal.enum_told-in-Embedded
unfolding bracket_byte
enum_told-in-Embedded c = search rules

pub enum_told-in-Nothing : goal.enum_told-in-Nothing
unfolding bracket_byte
enum_told-in-Nothing c = search rules

pub returns-in-Array : goal.returns-in-Array
unfolding bracket_byte
returns-in-Array c = search rules

pub returns-in-Map : goal.returns-in-Map
unfolding bracket_byte
returns-in-Map c = search rules

pub returns-in-Tag : goal.returns-in-Tag
unfolding bracket_byte
returns-in-Tag c = search rules

pub returns-in-Embedded : goal.returns-in-Embedded
unfolding bracket_byte
returns-in-Embedded c = search rules

pub returns-in-Nothing : goal.returns-in-Nothing
unfolding bracket_byte
returns-in-Nothing c = search rules
