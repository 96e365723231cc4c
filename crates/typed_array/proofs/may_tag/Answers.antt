-- `typed_array::may_tag` meets its contract.
-- Assumes nothing.
use mathlib.Core.Path.{refl}
use mathlib.Core.Bool.{false}
use native.Mathlib.Omega.{arith}
use Rattle.typed_array.proofs.TypedCode.{may-low, may-high, may-reserved, may-other, may-bytes}
use Rattle.typed_array.proofs.may_tag.Goals as goal

pub returns-in-76 : goal.returns-in-76
returns-in-76 c = may-reserved c.args.number c.args.bytes c.args.length (omega arith) (omega arith) c.in-76.is

pub returns-then-bytes : goal.returns-then-bytes
returns-then-bytes c = may-bytes c.args.number c.args.bytes c.args.length (omega arith) (omega arith) (omega arith) c.if-bytes.true c.element_size.ensures

pub returns-else-bytes : goal.returns-else-bytes
returns-else-bytes c = rw c.if-bytes.false (may-other c.args.number false c.args.length (omega arith) (omega arith) (omega arith) refl)

pub returns-in_default : goal.returns-in_default
returns-in_default c = may-low c.args.number c.args.bytes c.args.length (omega arith)

pub returns-in_default-2 : goal.returns-in_default-2
returns-in_default-2 c = may-high c.args.number c.args.bytes c.args.length (omega arith) (omega arith)
