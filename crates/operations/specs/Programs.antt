-- From the papers: what the two programs write on standard output (document 01, "The pieces").
use Rattle.std.specs.Prelude.{ℕ, List, [], ◌∷◌, ◌++◌, length, replicate}
use Rattle.cbor.specs.Refusals.{Verdict, accepted, refused}
use Rattle.cbor.specs.Ascii.{ascii}
use Rattle.cbor.specs.Decode.{most_bytes}
use Rattle.notation.specs.Printing.{decimal_of, hex_of}
use Rattle.operations.specs.Operations.{bytes_of, text_of}

-- "`accepted N`, a newline, the bytes in lower-case hex and a newline"
unfoldable pub accepted_line : ℕ → List ℕ
accepted_line n = ascii "accepted " ++ (decimal_of n ++ 0x0a ∷ [])

unfoldable pub accepted_lines : List ℕ → List ℕ
accepted_lines w = accepted_line (length w) ++ (hex_of w ++ 0x0a ∷ [])

-- "or `refused C at P` and a newline"
unfoldable pub at_place : ℕ → List ℕ
at_place place = ascii " at " ++ (decimal_of place ++ 0x0a ∷ [])

unfoldable pub refused_line : ℕ → ℕ → List ℕ
refused_line n place = ascii "refused " ++ (decimal_of n ++ at_place place)

unfoldable pub said : (List ℕ → List ℕ) → Verdict (List ℕ) → List ℕ
said lines (accepted w) = lines w
said lines (refused n place) = refused_line n place

-- a program's own buffer has room for every result
unfoldable pub empty : List ℕ
empty = replicate most_bytes 0

-- "one reads EDN on standard input"
unfoldable pub read_program : List ℕ → List ℕ
read_program text = said accepted_lines (bytes_of text empty)

-- "one reads bytes and writes the printed text, or that refusal line"
unfoldable pub print_program : List ℕ → List ℕ
print_program bytes = said (λ w. w) (text_of bytes empty)
