-- What the program that reads a text writes.
-- Assumes nothing.
use Prim.Native.Nat.{ℕ}
use mathlib.Core.Path.{◌≡◌}
use mathlib.Core.List.{List}
use lib.ListN.{length}
use Rattle.cbor.specs.Decode.{most_bytes}
use Rattle.cbor.specs.Encode.{encode_all}
use Rattle.memory.specs.Buffer.{clipped}
use Rattle.notation.specs.Reading.{read_text}
use Rattle.operations.specs.Operations.{bytes_of, read}
use Rattle.operations.specs.Programs.{accepted_lines, read_program}
use Rattle.outcome.specs.Outcomes.{outcome_of}
use Rattle.report_lines.specs.Reports.{Reports, said_of}
use Rattle.report_lines.proofs.Programs.{program_said}
use Rattle.std.specs.Prelude as std
use Rattle.refusal.specs.declared.Refusal.{Refusal}

module _ (s b b' : List ℕ) (a : std.Result ℕ Refusal) {o o' : List ℕ} {r : ℕ} (h : outcome_of a b' ≡ read s b) (l : length b ≡ most_bytes) (p : Reports o o' (said_of accepted_lines a b') r) where
  report : Reports o o' (read_program s) r
  unfolding read read_program bytes_of
  report = program_said accepted_lines (read_text s) encode_all b b' l a h p

  pub report_size : r ≡ length (read_program s)
  report_size = report.size

  pub report_is : o' ≡ clipped o 0 (read_program s)
  report_is = report.is
