-- `fitting_text::lay` meets its contract.
-- Assumes nothing.
use Rattle.fitting_text.proofs.Fitting.{lay_ways}
use Rattle.fitting_text.proofs.lay.Goals as goal

pub returns-then-fits : goal.returns-then-fits
returns-then-fits c = search lay_ways

pub returns : goal.returns
returns c = search lay_ways
