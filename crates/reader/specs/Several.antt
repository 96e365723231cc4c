-- Of the code: the items up to a closing token, whatever closes them, as one machine. s is a text.
use Rattle.std.specs.Prelude.{ℕ, ◌+◌, Bool, true, false, List, ◌++◌, eqb}
use Rattle.cbor.specs.Refusals.{Result, ok, refuse, bind}
use Rattle.cbor.specs.Items.{Item}
use Rattle.cbor.specs.Encode.{encode}
use Rattle.notation.specs.Tokens.{square, curly, angle, whole, Token}
use Rattle.notation.specs.Cutting.{next, place}
use Rattle.notation.specs.Form.{at_start, behind_comma, one, items, pairs, stray, reads}
use Rattle.token.specs.TokenAnswers.{shape_code, code_of, mark_of, Took}
use Rattle.token.specs.declared.Token.{Token as Cut}
use Rattle.encoding.specs.ReadAnswers.{View, Held, unsaid, held_of, of_item, of_closed, of_pairs, followed, Strayed}
use Rattle.closers.specs.declared.Closer.{Closer}
use Rattle.closers.specs.declared.Closer.TheVariants.{Square, Curly, Round, Angle, Whole, Nothing}
use Rattle.closers.specs.CloserTables.{is_single, turned, counted, separator_code, closer_code, shown_by}
use Rattle.std.specs.Prelude as std
use Rattle.encoding.specs.declared.answer.MadeItem.{MadeItem}
use Rattle.refusal.specs.declared.Refusal.{Refusal}

-- WHAT IS READ, as the code sees it
unfoldable pub as_seen : View → View
as_seen v = v

unfoldable pub seen : {A : Type 0} → (A → View) → Result A → Result View
seen v u = bind u (λ x r. ok (v x) r)

unfoldable pub several_read : Closer → ℕ → List ℕ → Result View
several_read Square d s = seen of_closed (reads (items square at_start d) s)
several_read Curly d s = seen of_pairs (reads (pairs at_start d) s)
several_read Round d s = seen of_item (followed 14 d s)
several_read Angle d s = seen of_closed (reads (items angle at_start d) s)
several_read Whole d s = seen of_closed (reads (items whole at_start d) s)
several_read Nothing d s = seen of_item (reads (one d) s)

-- an item before others, and the last one
unfoldable pub added : ℕ → Item → View → View
added n x v = record { bytes = encode x ++ v.bytes; count = n + v.count; indicator = v.indicator; held = v.held }

unfoldable pub held_by : Closer → Item → Held
held_by Square x = unsaid
held_by Curly x = unsaid
held_by Round x = held_of x
held_by Angle x = unsaid
held_by Whole x = unsaid
held_by Nothing x = held_of x

unfoldable pub last_of : Closer → Item → ℕ → View
last_of h x i = record { bytes = encode x; count = 1; indicator = shown_by h i; held = held_by h x }

-- behind an item x: rd reads the next ones, the last one ends the list, or a token may not stand there
unfoldable pub step_to : (List ℕ → Result View) → ℕ → ℕ → ℕ → (Item → ℕ → View) → ℕ → Item → Token → ℕ → List ℕ → Result View
step_to rd separator closer n last d x u p r =
    elim (eqb (code_of u) separator) [
      | true ↦ bind (rd r) (λ v r'. ok (added n x v) r')
      | false ↦ elim (eqb (code_of u) closer) [ true ↦ ok (last x (mark_of u)) r | false ↦ refuse (stray d u) p ]
    ]

-- the values of a map, from behind a key on
unfoldable pub value_read : ℕ → List ℕ → Result View
value_read d s = bind (reads (one d) s) (λ x r. bind (next r) (λ u r'. step_to (λ w. seen of_pairs (reads (pairs behind_comma d) w)) 11 (shape_code curly) 1 (last_of Curly) d x u (place r) r'))

-- what is left to read before an item, which may be a key
unfoldable pub tail_read : Closer → Bool → ℕ → List ℕ → Result View
tail_read Square k d s = seen of_closed (reads (items square behind_comma d) s)
tail_read Curly true d s = seen of_pairs (reads (pairs behind_comma d) s)
tail_read Curly false d s = value_read d s
tail_read Round k d s = seen of_item (followed 14 d s)
tail_read Angle k d s = seen of_closed (reads (items angle behind_comma d) s)
tail_read Whole k d s = seen of_closed (reads (items whole behind_comma d) s)
tail_read Nothing k d s = seen of_item (reads (one d) s)

-- and behind it
unfoldable pub onward : Closer → Bool → ℕ → Item → List ℕ → Result View
onward h k d x r =
    elim (is_single h) [
      | true ↦ ok (last_of h x 0) r
      | false ↦ bind (next r) (λ u r'. step_to (tail_read h (turned h k) d) (separator_code h k) (closer_code h k) (counted k) (last_of h) d x u (place r) r')
    ]

-- a refusal at the next token, which may not stand there
pub record StrayTold (s : List ℕ) (from d : ℕ) (a : std.Result MadeItem Refusal) : Type 0 where
  pub token : Cut
  pub took : Took s from token
  pub strayed : Strayed d token a
