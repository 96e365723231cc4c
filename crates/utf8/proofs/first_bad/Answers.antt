-- `utf8::first_bad` meets its contract.
-- Assumes nothing.
use Rattle.cbor.proofs.Sequences.{walk_on, walk_bad, walk_end}
use Rattle.utf8.proofs.Runs.{walk_past, bad-none}
use Rattle.std.proofs.Common.{rules, refl}
use native.Mathlib.Omega.{arith}
use Rattle.utf8.proofs.first_bad.Goals as goal

pub returns-then-is_ascii : goal.returns-then-is_ascii
returns-then-is_ascii c = search bad-none

pub loop-at-preserved-then-bytes-at-lt-BEHIND_ASCII : goal.loop-at-preserved-then-bytes-at-lt-BEHIND_ASCII
loop-at-preserved-then-bytes-at-lt-BEHIND_ASCII c = search walk_past

pub returns-in_default : goal.returns-in_default
returns-in_default c = walk_bad c.loop-at.invariant (search rules) c.in_default.ensures refl

pub loop-at-preserved : goal.loop-at-preserved
loop-at-preserved c = walk_on c.loop-at.invariant (search rules) c.in-Some.ensures.0 (λ z. let l = c.in-Some.ensures.1 in omega arith)

pub returns : goal.returns
returns c = search walk_end
