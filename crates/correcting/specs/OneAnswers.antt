-- Of the code: what the code answers that reads the text of one item.
use Rattle.std.specs.Prelude.{ℕ, List, drop}
use Rattle.cbor.specs.Items.{Item}
use Rattle.notation.specs.Reading.{marked}
use Rattle.notation.specs.Alone.{alone_marked}
use Rattle.encoding.specs.ReadAnswers.{of_item, MovedOn, ReadTold}
use Rattle.encoding.specs.declared.answer.MadeItem.{MadeItem}
use Rattle.std.specs.Prelude as std
use Rattle.refusal.specs.declared.Refusal.{Refusal}

-- behind an item x, which m says was read
pub record Behind (s : List ℕ) (d : ℕ) (m : MadeItem) (a : std.Result MadeItem Refusal) : Type 0 where
  pub is : (x : Item) (b b' : List ℕ) (most pos : ℕ) → MovedOn s b b' most pos m (of_item x) (drop m.next (marked s))
      → ReadTold of_item s b b' most pos a (alone_marked d x (drop m.next (marked s)))
