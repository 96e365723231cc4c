-- `string_reader::is_binary` meets its contract.
-- Assumes nothing.
use Rattle.encoding.specs.ReadAnswers.{is_bytes_by}
use borrow.Author.Rules.{rules}
use Rattle.string_reader.proofs.is_binary.Goals as goal

pub returns : goal.returns
unfolding is_bytes_by
returns c = search rules
