-- `literal_body::is_hex` meets its contract.
-- Assumes nothing.
use mathlib.Core.Path.{refl}
use mathlib.Core.List.{List, [], ◌∷◌}
use Prim.Native.Nat.{ℕ}
use borrow.Author.Rules.{rules}
use Rattle.cbor.specs.Utf8.{is_in}
use Rattle.literal_body.specs.LiteralAnswers.{digit_number}
use Rattle.literal_body.proofs.LiteralCode.{ruled, hex-key, hex-none}
use Rattle.literal_body.proofs.MatchCode.{each, rest}
use Rattle.literal_body.proofs.is_hex.Goals as goal

-- the digits of each arm, behind its first
abbrev evens : List ℕ
evens = 0x32 ∷ 0x34 ∷ 0x36 ∷ 0x38 ∷ 0x41 ∷ 0x43 ∷ 0x45 ∷ 0x61 ∷ 0x63 ∷ 0x65 ∷ []

abbrev odds : List ℕ
odds = 0x33 ∷ 0x35 ∷ 0x37 ∷ 0x39 ∷ 0x42 ∷ 0x44 ∷ 0x46 ∷ 0x62 ∷ 0x64 ∷ 0x66 ∷ []

pub returns-in-48 : goal.returns-in-48
unfolding ruled digit_number is_in
returns-in-48 c = hex-key refl (each ruled 0x30 evens c.args.b c.in-48.is tt)

pub returns-in-49 : goal.returns-in-49
unfolding ruled digit_number is_in
returns-in-49 c = hex-key refl (each ruled 0x31 odds c.args.b c.in-49.is tt)

pub returns-in_default : goal.returns-in_default
unfolding digit_number is_in
returns-in_default c = hex-none (rest digit_number ((0x30 ∷ evens) ∷ (0x31 ∷ odds) ∷ []) 99 {b = c.args.b} (search rules) tt (search rules))
