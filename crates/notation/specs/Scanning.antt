-- From the papers: scanning from the front of a text: blanks and comments, and the small steps that tokens are cut with.
-- A text is a list of bytes, with the end mark 256 behind it where all of it is read.
use Rattle.std.specs.Prelude.{ℕ, List, [], ◌∷◌, Bool, true, false, ◌&&◌, ◌||◌, leb, eqb}
use Rattle.cbor.specs.Refusals.{Result, ok, refuse, bind}
use Rattle.notation.specs.Classes.{blank, slash, hash, is}

-- BLANKS AND COMMENTS

-- "inside them, bytes of 20 hex and over and the blanks may stand"
unfoldable pub is_comment : ℕ → Bool
is_comment b = is blank b || (leb 0x20 b && leb b 0xff)

-- between tokens, or in a comment, whose text from its first byte on is kept: a comment that does not end well is not skipped
pub data Skipping : Type 0 where
  between : Skipping
  slashed hashed : List ℕ → Skipping

-- what is skipped, or what is left where it ends
pub data Skipped : Type 0 where
  skips : Skipping → Skipped
  stops : List ℕ → Skipped

unfoldable pub skipped : Skipping → ℕ → List ℕ → Skipped
skipped between b s = elim (is blank b) [ true ↦ skips between | false ↦ elim (is slash b) [ true ↦ skips (slashed (b ∷ s)) | false ↦ elim (is hash b) [ true ↦ skips (hashed (b ∷ s)) | false ↦ stops (b ∷ s) ] ] ]
skipped (slashed c) b s = elim (is slash b) [ true ↦ skips between | false ↦ elim (is_comment b) [ true ↦ skips (slashed c) | false ↦ stops c ] ]
skipped (hashed c) b s = elim (eqb b 0x0a) [ true ↦ skips between | false ↦ elim (is_comment b) [ true ↦ skips (hashed c) | false ↦ stops c ] ]

unfoldable pub left_in : Skipping → List ℕ
left_in between = []
left_in (slashed c) = c
left_in (hashed c) = c

unfoldable pub skip_from : Skipping → List ℕ → List ℕ
skip_from k [] = left_in k
skip_from k (b ∷ s) = elim (skipped k b s) [ skips k' ↦ skip_from k' s | stops r ↦ r ]

-- "Between tokens any number of blanks and comments"
unfoldable pub skip : List ℕ → List ℕ
skip s = skip_from between s

-- STEPS OF A TOKEN. A fault has a number; its place is the token's first byte (Cutting, `next`).
abbrev pub fault : {A : Type 0} → ℕ → Result A
fault n = refuse n 0

-- the longest front whose elements pass a test
unfoldable pub run : (ℕ → Bool) → List ℕ → Result (List ℕ)
run test [] = ok [] []
run test (b ∷ s) = elim (test b) [ true ↦ bind (run test s) (λ w r. ok (b ∷ w) r) | false ↦ ok [] (b ∷ s) ]

-- whether c is next; it is then taken
unfoldable pub whether : ℕ → List ℕ → Result Bool
whether c [] = ok false []
whether c (b ∷ s) = elim (eqb b c) [ true ↦ ok true s | false ↦ ok false (b ∷ s) ]

-- c must be next: else the fault n
unfoldable pub expect : ℕ → ℕ → List ℕ → Result Unit
expect c n [] = fault n
expect c n (b ∷ s) = elim (eqb b c) [ true ↦ ok tt s | false ↦ fault n ]
