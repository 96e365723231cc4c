-- Of the code: what opens a level. s is a text.
use Rattle.std.specs.Prelude.{ℕ, ◌+◌, ◌-◌, ◌≤◌, ◌<◌, ◌≡◌, Bool, true, List, ◌∷◌, length, drop}
use Rattle.cbor.specs.Refusals.{ok}
use Rattle.cbor.specs.Widths.{Width, limit, shortest, information}
use Rattle.cbor.specs.Heads.{tags, initial}
use Rattle.notation.specs.Tokens.{Opener as Opens, bracket, brace, tagging, embedding, opens, begins}
use Rattle.notation.specs.Cutting.{next, place}
use Rattle.notation.specs.Reading.{marked}
use Rattle.token.specs.TokenAnswers.{indicator_number}
use Rattle.token.specs.declared.Token.{Token as Cut}
use Rattle.leaf_answer.specs.declared.Found.TheVariants.{Tag as TagFound}
use Rattle.leaf_answer.specs.declared.LeafRead.{LeafRead}
use Rattle.encoding.specs.Cuts.{CutAt, NextAt}
use Rattle.encoding.specs.ReadAnswers.{indicator_for, initial_by}
use Rattle.scanning.specs.ScanAnswers.{Skips}
use Rattle.opening.specs.declared.Opener.{Opener}
use Rattle.opening.specs.declared.Opener.TheVariants.{Array, Map, Tag, Embedded, Nothing}
use Rattle.opening.specs.declared.Opening.{Opening}

-- the next token from a place on opens a level by op
pub record OpensAs (s : List ℕ) (from : ℕ) (o : Opening) (op : Opens) : Type 0 where
  pub next_at : NextAt s from o.next (begins (opens op))
  pub place_is : place (drop from (marked s)) ≡ length (marked s) - o.place
  pub before : o.place ≤ length (marked s)

pub record Bracketing (s : List ℕ) (from : ℕ) (o : Opening) (op : Opens) : Type 0 where
  pub opens_as : OpensAs s from o op
  pub known : indicator_number (indicator_for o.indicator) ≡ o.indicator

pub record Tagging (s : List ℕ) (from : ℕ) (o : Opening) : Type 0 where
  pub width : Width
  pub opens_as : OpensAs s from o (tagging width o.number)
  pub fits : o.number ≤ limit width
  pub first : o.first ≡ initial tags (information width o.number)

-- what opens a level there, or that nothing does
pub record OpeningTold (s : List ℕ) (from : ℕ) (o : Opening) : Type 0 where
  pub array : o.opener ≡ Array → Bracketing s from o (bracket (indicator_for o.indicator))
  pub map : o.opener ≡ Map → Bracketing s from o (brace (indicator_for o.indicator))
  pub tag : o.opener ≡ Tag → Tagging s from o
  pub embedded : o.opener ≡ Embedded → OpensAs s from o embedding
  pub none : o.opener ≡ Nothing → (op : Opens) (r : List ℕ) → next (drop from (marked s)) ≡ ok (begins (opens op)) r → ⊥

-- a place behind blanks and comments where no leaf was read: a tag, or nothing is known
pub record Opened (s : List ℕ) (from at : ℕ) (q : LeafRead) : Type 0 where
  pub skips : Skips s from at
  pub tag : q.found ≡ TagFound → CutAt s at q.next (begins (opens (tagging (shortest q.number) q.number)))

-- what a token makes of it
pub record ByToken (t : Cut) (o : Opening) : Type 0 where
  pub array : t.kind ≡ 15 → o ≡ record { opener = Array; indicator = t.indicator; first = 0; number = 0; place = t.place; next = t.next }
  pub map : t.kind ≡ 17 → o ≡ record { opener = Map; indicator = t.indicator; first = 0; number = 0; place = t.place; next = t.next }
  pub embedded : t.kind ≡ 19 → o ≡ record { opener = Embedded; indicator = 0; first = 0; number = 0; place = t.place; next = t.next }
  pub tag : t.kind ≡ 6 → o ≡ record { opener = Tag; indicator = 0; first = initial_by t; number = t.argument; place = t.place; next = t.next }
  pub none : (t.kind ≡ 6 → ⊥) → (t.kind ≡ 15 → ⊥) → (t.kind ≡ 17 → ⊥) → (t.kind ≡ 19 → ⊥) → o.opener ≡ Nothing

-- the byte of an array, or of a map, stands behind blanks and comments
unfoldable pub bracket_byte : Opener → ℕ
bracket_byte Array = 0x5b
bracket_byte Map = 0x7b
bracket_byte Tag = 0
bracket_byte Embedded = 0
bracket_byte Nothing = 0

pub record BracketAt (s : List ℕ) (from at : ℕ) (o : Opener) : Type 0 where
  pub skips : Skips s from at
  pub before : from ≤ length (marked s)
  pub inside : at < length s
  pub is : drop at (marked s) ≡ bracket_byte o ∷ drop (at + 1) (marked s)
  pub some : (bracket_byte o ≡ 0 → ⊥)

-- it does so with no indicator behind it
pub record OpensBare (s : List ℕ) (from at : ℕ) (o : Opener) (t : Bool) : Type 0 where
  pub inside : t ≡ true → at < length s
  pub is : t ≡ true → (bracket_byte o ≡ 0 → ⊥) → OpeningTold s from (record { opener = o; indicator = 0; first = 0; number = 0; place = at; next = at + 1 })
