use Rattle.closing.proofs.Closers.{closes_open}
use Rattle.closing.proofs.closes.Goals as goal

pub returns-then-is_open : goal.returns-then-is_open
returns-then-is_open c = search closes_open
