-- From the papers: reading a whole text, and the text of one item (document 01, "Refusal numbers": "Text: 1, then 2 over all of it,
-- then tokens").
use Rattle.std.specs.Prelude.{ℕ, suc, List, [], ◌∷◌, ◌++◌, Bool, true, false, leb, eqb, length}
use Rattle.cbor.specs.Refusals.{Result, ok, refuse, bind, too_long, not_utf8, not_allowed, Verdict, refused, verdict_of}
use Rattle.cbor.specs.Items.{Item, Items}
use Rattle.cbor.specs.Utf8.{first_bad, is_utf8}
use Rattle.cbor.specs.Decode.{most_bytes, most_levels}
use Rattle.notation.specs.Tokens.{whole}
use Rattle.notation.specs.Cutting.{next, place}
use Rattle.notation.specs.Form.{at_start, one, items, Closed, stray, reads}

-- the end mark, which is no byte, stands behind the text
unfoldable pub marked : List ℕ → List ℕ
marked s = s ++ 256 ∷ []

-- 1, then 2, then what reading gives
unfoldable pub checked : {A : Type 0} → List ℕ → Verdict A → Verdict A
checked s v = elim (leb (length s) most_bytes) [ true ↦ elim (is_utf8 s) [ true ↦ v | false ↦ refused not_utf8 (first_bad s) ] | false ↦ refused too_long 0 ]

-- A TEXT: its items, up to the end mark
unfoldable pub sequence : List ℕ → Result Closed
sequence s = reads (items whole at_start most_levels) (marked s)

unfoldable pub read_text : List ℕ → Verdict Items
read_text s = checked s (verdict_of (suc (length s)) (bind (sequence s) (λ c r. ok c.all r)))

-- THE TEXT OF ONE ITEM, "with no blank or comment outside it, else 11 at the extra token, blank or comment"; a token there is asked
-- for 3 to 10 first. d levels are left

-- a token, or the end, stands right here: no blank and no comment before it
abbrev pub is_at_token : List ℕ → Bool
is_at_token s = eqb (place s) (length s)

-- what stands outside: a blank or a comment; a token that is refused; or a token that may not stand there
unfoldable pub outside : {A : Type 0} → ℕ → List ℕ → Result A
outside d s = elim (is_at_token s) [ true ↦ bind (next s) (λ t r. refuse (stray d t) (length s)) | false ↦ refuse not_allowed (length s) ]

unfoldable pub alone : ℕ → Item → List ℕ → Result Item
alone d x [] = ok x []
alone d x (b ∷ r) = outside d (b ∷ r)

unfoldable pub single : ℕ → List ℕ → Result Item
single d s = elim (is_at_token s) [ true ↦ bind (reads (one d) s) (alone d) | false ↦ refuse not_allowed (length s) ]

unfoldable pub read_item : ℕ → List ℕ → Verdict Item
read_item d s = checked s (verdict_of (length s) (single d s))
