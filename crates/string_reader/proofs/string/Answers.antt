-- `string_reader::string` meets its contract.
-- Assumes nothing.
use Rattle.encoding.proofs.ReadWriting.{string-place, string-size, string-is}
use Rattle.string_reader.proofs.string.Goals as goal

pub overflow_add-pos : goal.overflow_add-pos
overflow_add-pos c = search string-place

pub overflow_add-result : goal.overflow_add-result
overflow_add-result c = search string-size

pub returns : goal.returns
returns c = search string-is
