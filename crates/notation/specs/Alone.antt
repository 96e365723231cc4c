-- Of the code: the text of one item, read with its end mark (Reading, `single`): the mark is left behind all that is read.
use Rattle.std.specs.Prelude.{ℕ, suc, List, true, false, eqb, length}
use Rattle.cbor.specs.Refusals.{Result, ok, refuse, bind, not_allowed}
use Rattle.cbor.specs.Items.{Item}
use Rattle.notation.specs.Form.{one, reads}
use Rattle.notation.specs.Reading.{marked, is_at_token, outside}

-- the result for a marked text, of what is read without the mark
unfoldable pub plus : {A : Type 0} → Result A → Result A
plus (ok x r) = ok x (marked r)
plus (refuse n left) = refuse n (suc left)

-- behind the item stands the mark alone, or what may not stand there
unfoldable pub alone_marked : ℕ → Item → List ℕ → Result Item
alone_marked d x w = elim (eqb (length w) 1) [ true ↦ ok x w | false ↦ outside d w ]

unfoldable pub single_marked : ℕ → List ℕ → Result Item
single_marked d w = elim (is_at_token w) [ true ↦ bind (reads (one d) w) (alone_marked d) | false ↦ refuse not_allowed (length w) ]
