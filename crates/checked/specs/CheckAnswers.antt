-- Of the code: what checking and scanning answer.
use Rattle.std.specs.Prelude.{ℕ}
use Rattle.cbor.specs.Refusals.{Verdict, accepted, refused}
use Rattle.cbor.specs.Items.{Items}
use Rattle.refusal.specs.RefusalKinds.{kind_number}
use Rattle.head.specs.declared.HeadAt.{HeadAt}
use Rattle.walk_answer.specs.WalkAnswers.{PassTold, passed, pass_refused, WalkTold, item_passed, walk_refused}
use Rattle.std.specs.Prelude.{Ok, Err}
use Rattle.std.specs.Prelude as std
use Rattle.checked.specs.declared.ItemAt.{ItemAt}
use Rattle.refusal.specs.declared.Refusal.{Refusal}

-- CHECK

pub data CheckTold : Type 0 where
  fine : CheckTold
  check_refused : ℕ → ℕ → CheckTold

unfoldable pub check_told : std.Result Unit Refusal → CheckTold
check_told (Ok tt) = fine
check_told (Err e) = check_refused (kind_number e.kind) e.place

unfoldable pub check_of : Verdict Items → CheckTold
check_of (accepted xs) = fine
check_of (refused n place) = check_refused n place

-- by the walk over all bytes
unfoldable pub check_by : PassTold → CheckTold
check_by (passed end size) = fine
check_by (pass_refused n place) = check_refused n place

-- SCAN

-- one item: its major type, additional information and argument, where its head ends and where it ends; or a refusal
pub data ScanTold : Type 0 where
  item_scanned : ℕ → ℕ → ℕ → ℕ → ℕ → ScanTold
  scan_refused : ℕ → ℕ → ScanTold

unfoldable pub scan_told : std.Result ItemAt Refusal → ScanTold
scan_told (Ok x) = item_scanned x.major x.info x.argument x.content x.end
scan_told (Err e) = scan_refused (kind_number e.kind) e.place

-- by the item's head and the walk over it
unfoldable pub scan_by : HeadAt → WalkTold → ScanTold
scan_by h (item_passed end major size) = item_scanned major h.info h.argument h.end end
scan_by h (walk_refused n place) = scan_refused n place
