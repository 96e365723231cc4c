-- `encoding::close::finish_short` meets its contract.
-- Assumes nothing.
use Rattle.encoding.proofs.ReadSmall.{heavy_mul, short_cast, short-first, short-size, short-done}
use Rattle.encoding.proofs.close.finish_short.Goals as goal

pub overflow_mul-major : goal.overflow_mul-major
overflow_mul-major c = search heavy_mul

pub overflow_cast-n : goal.overflow_cast-n
overflow_cast-n c = search short_cast

pub overflow_add-major : goal.overflow_add-major
overflow_add-major c = search short-first

pub overflow_add-size : goal.overflow_add-size
overflow_add-size c = search short-size

pub returns : goal.returns
returns c = search short-done
