-- `scanning::scan::next_is` meets its contract.
-- Assumes nothing.
use Rattle.scanning.proofs.ScanCode.{peek_none, peek_at}
use lib.ListN.{length}
use Rattle.std.proofs.lemmas.Bool.{le-ltb}
use borrow.Author.Rules.{rules}
use Rattle.scanning.proofs.scan.next_is.Goals as goal

pub returns-then-at-text : goal.returns-then-at-text
returns-then-at-text c = search peek_at

pub returns-else-at-text : goal.returns-else-at-text
returns-else-at-text c = rw (le-ltb c.args.at (length c.args.text.now) c.if-at-text.false) (peek_none _ _ _ (search rules) (search rules))
