-- `outcome::fits` meets its contract.
-- Assumes nothing.
use Rattle.outcome.proofs.Room.{fits_ways}
use Rattle.outcome.proofs.fits.Goals as goal

pub returns-then-size-gt-MOST_BYTES : goal.returns-then-size-gt-MOST_BYTES
returns-then-size-gt-MOST_BYTES c = search fits_ways

pub returns : goal.returns
returns c = search fits_ways
