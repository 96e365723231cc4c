-- `edn_read::report::report_read` meets its contract.
-- Assumes nothing.
use borrow.Author.Rules.{rules}
use Rattle.edn_read.proofs.Reading.{report_size, report_is}
use Rattle.edn_read.proofs.report.report_read.Goals as goal

pub returns-clause-value : goal.returns-clause-value
returns-clause-value c = search (report_size, rules)

pub returns-clause-out_after : goal.returns-clause-out_after
returns-clause-out_after c = search (report_is, rules)
