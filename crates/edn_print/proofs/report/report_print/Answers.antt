-- `edn_print::report::report_print` meets its contract.
-- Assumes nothing.
use borrow.Author.Rules.{rules}
use Rattle.edn_print.proofs.Printing.{report_size, report_is}
use Rattle.edn_print.proofs.report.report_print.Goals as goal

pub returns-clause-value : goal.returns-clause-value
returns-clause-value c = search (report_size, rules)

pub returns-clause-out_after : goal.returns-clause-out_after
returns-clause-out_after c = search (report_is, rules)
