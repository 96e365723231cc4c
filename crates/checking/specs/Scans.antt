-- Of the code: the item that is scanned.
use Rattle.std.specs.Prelude.{ℕ, ◌-◌, List, length}
use Rattle.cbor.specs.Refusals.{Result, ok, refuse, bind}
use Rattle.cbor.specs.Items.{Item}
use Rattle.cbor.specs.Heads.{Head, major_number, item_major, next_head}
use Rattle.cbor.specs.Decode.{item as item_at, most_levels}
use Rattle.head.specs.HeadAnswers.{size_information}
use Rattle.checked.specs.CheckAnswers.{ScanTold, item_scanned, scan_refused}

-- a head and what is left behind it, with the item that it is the head of
pub record HeadOf : Type 0 where
  pub head : Head
  pub rest : List ℕ
  pub item : Item

unfoldable pub scan_from : ℕ → Result HeadOf → ScanTold
scan_from size (ok x r) = item_scanned (major_number (item_major x.item)) (size_information x.head.size x.head.argument) x.head.argument (size - length x.rest) (size - length r)
scan_from size (refuse n left) = scan_refused n (size - left)

-- the item at the front, 16 levels left
unfoldable pub scanned : List ℕ → Result HeadOf
scanned s = bind (next_head s) (λ h t. bind (item_at most_levels s) (λ x r. ok (record { head = h; rest = t; item = x }) r))
