-- `hex_gaps::past_gap` meets its contract.
-- Assumes nothing.
use Prim.Native.Nat.{◌<◌}
use native.Mathlib.Omega.{arith}
use lib.ListN.{get_or}
use Rattle.hex_gaps.proofs.BlankCode.{closing_slash, closing_line, gap_hash, gap_ways}
use borrow.Author.Rules.{rules}
use Rattle.hex_gaps.proofs.past_gap.Goals as goal

pub returns-then-is_blank : goal.returns-then-is_blank
returns-then-is_blank c = search gap_ways

pub past_comment-requires-clause-closing : goal.past_comment-requires-clause-closing
past_comment-requires-clause-closing c = closing_slash

pub returns-in-47 : goal.returns-in-47
returns-in-47 c = let u : get_or c.args.text.now c.args.at 0 < 256 = omega (arith, c.type_inv.text c.args.at) in search gap_ways

pub past_comment-requires-in-35-clause-closing : goal.past_comment-requires-in-35-clause-closing
past_comment-requires-in-35-clause-closing c = closing_line

pub returns-in-35 : goal.returns-in-35
returns-in-35 c = let u : get_or c.args.text.now c.args.at 0 < 256 = omega (arith, c.type_inv.text c.args.at) in gap_hash c.requires c.is_blank.ensures c.if-is_blank.false u c.past_comment-in-35.result (search rules) c.in-35.is c.past_comment-in-35.ensures c.unwrap_or-in-35.ensures

pub returns-in_default : goal.returns-in_default
returns-in_default c = let u : get_or c.args.text.now c.args.at 0 < 256 = omega (arith, c.type_inv.text c.args.at) in search gap_ways
