-- `fitting_text::text_size` meets its contract.
-- Assumes nothing.
use Rattle.fitting_text.proofs.Fitting.{measured}
use Rattle.fitting_text.proofs.text_size.Goals as goal

pub returns : goal.returns
returns c = search measured
