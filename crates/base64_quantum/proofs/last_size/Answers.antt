-- `base64_quantum::last_size` meets its contract.
-- Assumes nothing.
use native.Mathlib.Omega.{arith}
use Rattle.base64_quantum.proofs.QuantumCode.{last_none, last_one, last-pair, last_triple, last-whole}
use Rattle.base64_quantum.proofs.last_size.Goals as goal
use Rattle.base64_quantum.proofs.last_size.Goals.{in-0, in-1, in-2, in-3, in_default}

pub returns : goal.returns
returns c =
    rw c.unwrap_or.ensures (elim c.match-g.branch [
      | in-0 w ↦ rw w.size-is (last_none c.args.g w.in-0.is)
      | in-1 w ↦ rw w.size-is (last_one c.args.g w.in-1.is)
      | in-2 w ↦ rw w.size-is (last-pair c.args.g w.in-2.is w.last_two-size.ensures)
      | in-3 w ↦ rw w.size-is (last_triple c.args.g w.in-3.is w.last_three-size.ensures)
      | in_default w ↦ rw w.size-is (last-whole c.args.g (omega arith) (omega arith) (omega arith) (omega arith) w.last_four-size.ensures)
    ])
