-- `utf8::whole` meets its contract.
-- Assumes nothing.
use native.Mathlib.Omega.{arith}
use Rattle.cbor.proofs.Sequences.{behind-start, behind-on, behind-bad, behind-end}
use Rattle.utf8.proofs.whole.Goals as goal

pub loop-i-init : goal.loop-i-init
loop-i-init g c = behind-start c.requires.inside c.requires.first

pub returns-then-not-within : goal.returns-then-not-within
returns-then-not-within g c = search behind-bad

pub loop-i-preserved : goal.loop-i-preserved
loop-i-preserved g c = search behind-on

pub returns : goal.returns
returns g c = (search behind-end, omega arith)
