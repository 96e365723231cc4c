-- What the program that prints bytes writes.
-- Assumes nothing.
use Prim.Native.Nat.{ℕ}
use mathlib.Core.Path.{◌≡◌}
use mathlib.Core.List.{List}
use lib.ListN.{length}
use Rattle.cbor.specs.Decode.{most_bytes}
use Rattle.memory.specs.Buffer.{clipped}
use Rattle.notation.specs.Printing.{print_text}
use Rattle.operations.specs.Operations.{items_of, text_of, print}
use Rattle.operations.specs.Programs.{print_program}
use Rattle.outcome.specs.Outcomes.{outcome_of}
use Rattle.report_lines.specs.Reports.{Reports, itself, said_of}
use Rattle.report_lines.proofs.Programs.{program_said}
use Rattle.std.specs.Prelude as std
use Rattle.refusal.specs.declared.Refusal.{Refusal}

module _ (s b b' : List ℕ) (a : std.Result ℕ Refusal) {o o' : List ℕ} {r : ℕ} (h : outcome_of a b' ≡ print s b) (l : length b ≡ most_bytes) (p : Reports o o' (said_of itself a b') r) where
  report : Reports o o' (print_program s) r
  unfolding print print_program text_of itself
  report = program_said itself (items_of s) print_text b b' l a h p

  pub report_size : r ≡ length (print_program s)
  report_size = report.size

  pub report_is : o' ≡ clipped o 0 (print_program s)
  report_is = report.is
