-- `scanning::class::class` meets its contract.
-- Assumes nothing.
use borrow.Author.Rules.{rules}
use Rattle.cbor.specs.Utf8.{is_in}
use Rattle.notation.specs.Classes.{class_number, class_rows, class_in, class_of}
use Rattle.scanning.proofs.ClassCode.{right, class_rule}
use Rattle.scanning.proofs.class.class.Goals as goal

pub bounds-b : goal.bounds-b
unfolding right class_number class_rows class_in class_of is_in
bounds-b c = search rules

pub returns : goal.returns
unfolding right class_number class_rows class_in class_of is_in
returns c = record { is = search (class_rule, rules); byte = search rules }
