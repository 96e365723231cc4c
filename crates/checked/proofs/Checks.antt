-- What checking and scanning answer, by what the walk told.
-- Assumes nothing.
use Prim.Native.Nat.{ℕ}
use mathlib.Core.Path.{◌≡◌, refl}
use Rattle.cbor.specs.Refusals.{Result, ok, refuse, verdict_of}
use Rattle.cbor.specs.Items.{Items}
use Rattle.refusal.specs.declared.Refusal.{Refusal}
use Rattle.head.specs.declared.HeadAt.{HeadAt}
use Rattle.walk_answer.specs.WalkAnswers.{pass_told, walk_told, map_result, told_of, walk_all_of}
use Rattle.walk_answer.specs.declared.WalkedItem.{WalkedItem}
use Rattle.walk_answer.specs.declared.Passage.{Passage}
use Rattle.checked.specs.CheckAnswers.{check_told, check_of, check_by, scan_told, scan_by}
use Rattle.std.specs.Prelude.{Ok, Err}
use Rattle.std.specs.Prelude as std

-- CHECK
module _ {a : std.Result Passage Refusal} where
  pub check_refused_lem : {e : Refusal} → a ≡ Err e → check_told (Err e) ≡ check_by (pass_told a)
  unfolding check_told check_by pass_told
  check_refused_lem f = rw f

  pub check_fine : {m : Passage} → a ≡ Ok m → check_told (Ok tt) ≡ check_by (pass_told a)
  unfolding check_told check_by pass_told
  check_fine f = rw f

pub ruleset check_ways = (check_refused_lem, check_fine)

-- of items read from n bytes
pub check_read : (n : ℕ) (res : Result Items) → check_by (walk_all_of n res) ≡ check_of (verdict_of n res)
unfolding check_by walk_all_of told_of map_result check_of verdict_of
check_read n (ok xs r) = refl
check_read n (refuse k l) = refl

-- SCAN
module _ (h : HeadAt) {a : std.Result WalkedItem Refusal} where
  pub scan_refused_lem : {e : Refusal} → a ≡ Err e → scan_told (Err e) ≡ scan_by h (walk_told a)
  unfolding scan_told scan_by walk_told
  scan_refused_lem f = rw f

  pub scan_made : {m : WalkedItem} → a ≡ Ok m → scan_told (Ok (record { major = m.major; info = h.info; argument = h.argument; content = h.end; end = m.end })) ≡ scan_by h (walk_told a)
  unfolding scan_told scan_by walk_told
  scan_made f = rw f

pub ruleset scan_ways = (scan_refused_lem, scan_made)
