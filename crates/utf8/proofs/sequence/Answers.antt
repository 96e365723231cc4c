-- `utf8::sequence` meets its contract: each row is tested at each byte that comes there.
-- Assumes nothing.
use native.Mathlib.Omega.{arith}
use lib.ListN.{get_or}
use Rattle.cbor.specs.Utf8.{is_in, rows, follow_in, follow}
use Rattle.cbor.specs.Sequences.{ranges, behind_first}
use Rattle.cbor.proofs.Sequences.{lead_rule, lead_ascii, behind-start, behind-end}
use Rattle.utf8.proofs.sequence.Goals as goal

pub whole-requires-then-b-lt225-clause-first : goal.whole-requires-then-b-lt225-clause-first
unfolding is_in rows follow_in follow ranges behind_first
whole-requires-then-b-lt225-clause-first c = lead_rule {b = get_or c.args.bytes.now c.args.at 0} {lo = 0xe0} {hi = 0xe1} 3 0xa0 0xbf (omega arith) (omega arith) tt

pub whole-requires-then-b-lt238-clause-first : goal.whole-requires-then-b-lt238-clause-first
unfolding is_in rows follow_in follow ranges behind_first
whole-requires-then-b-lt238-clause-first c = lead_rule {b = get_or c.args.bytes.now c.args.at 0} {lo = 0xed} {hi = 0xee} 3 0x80 0x9f (omega arith) (omega arith) tt

pub whole-requires-then-b-lt241-clause-first : goal.whole-requires-then-b-lt241-clause-first
unfolding is_in rows follow_in follow ranges behind_first
whole-requires-then-b-lt241-clause-first c = lead_rule {b = get_or c.args.bytes.now c.args.at 0} {lo = 0xf0} {hi = 0xf1} 4 0x90 0xbf (omega arith) (omega arith) tt

pub whole-requires-then-b-lt245-clause-first : goal.whole-requires-then-b-lt245-clause-first
unfolding is_in rows follow_in follow ranges behind_first
whole-requires-then-b-lt245-clause-first c = lead_rule {b = get_or c.args.bytes.now c.args.at 0} {lo = 0xf4} {hi = 0xf5} 4 0x80 0x8f (omega arith) (omega arith) tt

pub whole-requires-clause-first : goal.whole-requires-clause-first
unfolding is_in rows follow_in follow ranges behind_first
whole-requires-clause-first c = lead_rule {b = get_or c.args.bytes.now c.args.at 0} {lo = 0xc2} {hi = 0xe0} 2 0x80 0xbf (omega arith) (omega arith) tt

pub whole-requires-then-b-lt237-clause-first : goal.whole-requires-then-b-lt237-clause-first
unfolding is_in rows follow_in follow ranges behind_first
whole-requires-then-b-lt237-clause-first c = lead_rule {b = get_or c.args.bytes.now c.args.at 0} {lo = 0xe1} {hi = 0xed} 3 0x80 0xbf (omega arith) (omega arith) tt

pub whole-requires-else-b-lt238-clause-first : goal.whole-requires-else-b-lt238-clause-first
unfolding is_in rows follow_in follow ranges behind_first
whole-requires-else-b-lt238-clause-first c = lead_rule {b = get_or c.args.bytes.now c.args.at 0} {lo = 0xee} {hi = 0xf0} 3 0x80 0xbf (omega arith) (omega arith) tt

pub whole-requires-then-b-lt244-clause-first : goal.whole-requires-then-b-lt244-clause-first
unfolding is_in rows follow_in follow ranges behind_first
whole-requires-then-b-lt244-clause-first c = lead_rule {b = get_or c.args.bytes.now c.args.at 0} {lo = 0xf1} {hi = 0xf4} 4 0x80 0xbf (omega arith) (omega arith) tt

pub returns-then-b-lt128 : goal.returns-then-b-lt128
returns-then-b-lt128 c = (behind-end (behind-start c.requires (lead_ascii (omega arith))) (omega arith), omega arith)

pub returns-then-b-lt194 : goal.returns-then-b-lt194
unfolding is_in rows follow_in follow ranges behind_first
returns-then-b-lt194 c = behind-end {low = 0x80} {high = 0xbf} (behind-start c.requires (lead_rule {b = get_or c.args.bytes.now c.args.at 0} {lo = 0x80} {hi = 0xc2} 0 0x80 0xbf (omega arith) (omega arith) tt)) (omega arith)

pub returns-else-b-lt245 : goal.returns-else-b-lt245
unfolding is_in rows follow_in follow ranges behind_first
returns-else-b-lt245 c = behind-end {low = 0x80} {high = 0xbf} (behind-start c.requires (lead_rule {b = get_or c.args.bytes.now c.args.at 0} {lo = 0xf5} {hi = 0x100} 0 0x80 0xbf (omega arith) (omega (arith, c.type_inv.bytes c.args.at)) tt)) (omega arith)
