-- The byte side's code: checking, and scanning an item.
-- Assumes nothing.
use Prim.Native.Nat.{ℕ, ◌-◌, ◌*◌, ◌^◌, ◌≤◌, ◌<◌}
use native.Mathlib.Omega.{arith}
use mathlib.Core.Path.{◌≡◌, refl, sym, ap, ◌∙◌}
use mathlib.Core.List.{List}
use lib.ListN.{length, take, drop}
use Rattle.cbor.specs.Refusals.{Result, ok, refuse, bind}
use Rattle.cbor.specs.Items.{Item}
use Rattle.cbor.specs.Heads.{major_number, item_major, Head, next_head}
use Rattle.cbor.specs.Decode.{item as item_at, decode}
use Rattle.refusal.specs.RefusalKinds.{kind_number}
use Rattle.head.specs.HeadAnswers.{head_told, head_from, head_at}
use Rattle.walk_answer.specs.WalkAnswers.{pass_told, walk_told, walk_of, walk_all_of, item_after}
use Rattle.refusal.specs.declared.Refusal.{Refusal}
use Rattle.head.specs.declared.HeadAt.{HeadAt}
use Rattle.walk_parts.proofs.WalkItems.{item-told}
use Rattle.operations.specs.Operations.{items_of}
use Rattle.checked.specs.CheckAnswers.{check_told, check_of, check_by, item_scanned, scan_refused, scan_told, scan_by}
use Rattle.checked.proofs.Checks.{check_read}
use Rattle.checking.specs.Scans.{HeadOf, scan_from, scanned}
use Rattle.path.proofs.Stepping.{Got, got}
use Rattle.std.specs.Prelude.{Ok, Err}
use Rattle.std.specs.Prelude as std
use Rattle.checked.specs.declared.ItemAt.{ItemAt}
use Rattle.walk_answer.specs.declared.Passage.{Passage}
use Rattle.walk_answer.specs.declared.WalkedItem.{WalkedItem}

-- CHECK

pub check_told_lem : (s : List ℕ) (a : std.Result Passage Refusal) (r : std.Result Unit Refusal) → pass_told a ≡ walk_all_of (length s) (decode s) → check_told r ≡ check_by (pass_told a) → check_told r ≡ check_of (items_of s)
unfolding items_of
check_told_lem s a r told by = by ∙ ap check_by told ∙ check_read (length s) (decode s)

-- SCAN

scan_no : (n : ℕ) (e : Refusal) (res : Result Head) (go : Head → List ℕ → Result HeadOf) → head_told (Err e) ≡ head_from n res → scan_told (Err e) ≡ scan_from n (bind res go)
unfolding head_told head_from scan_told scan_from bind
scan_no n e (ok d r) go h = let z : ◌≡◌ {A = ℕ} 0 1 = cc in absurd (omega arith)
scan_no n e (refuse k l) go h =
    let i : kind_number e.kind ≡ k = cc in
    let j : e.place ≡ n - l = cc in
    λ x. scan_refused (i x) (j x)

module _ (s : List ℕ) (i : ℕ) (a : std.Result HeadAt Refusal) (told : head_told a ≡ head_at s i) where
  pub scan_refused_lem : {e : Refusal} → a ≡ Err e → scan_told (Err e) ≡ scan_from (length s) (scanned (drop i s))
  unfolding head_at scanned
  scan_refused_lem f = scan_no (length s) _ (next_head (drop i s)) _ (rw f at told)

  module _ {h : HeadAt} (f : a ≡ Ok h) where
    pub scan_room : i ≤ length s
    scan_room = let g = got s i a told f in omega (arith, g.early)

    -- an item read behind the head
    scan_read : (g : Got s i h) (res : Result Item) → scan_by h (walk_of (length s) res) ≡ scan_from (length s) (bind res (λ x r. ok (record { head = g.head; rest = g.rest; item = x }) r))
    unfolding scan_by walk_of scan_from bind
    scan_read g (ok x r) = λ j. item_scanned (major_number (item_major x)) (g.info j) (g.argument j) (g.ends j) (length s - length r)
    scan_read g (refuse k l) = refl

    scan_is : (g : Got s i h) → scanned (drop i s) ≡ bind (item_at 16 (drop i s)) (λ x r. ok (record { head = g.head; rest = g.rest; item = x }) r)
    unfolding scanned bind
    scan_is g = rw g.is

    module _ (inner : std.Result WalkedItem Refusal) (long : length s * 1 < 2 ^ 63)
        (walked : walk_told inner ≡ walk_of (length (take (length s - i) (drop i s))) (item_at 16 (take (length s - i) (drop i s)))) (part : std.Result WalkedItem Refusal) (after : walk_told part ≡ item_after i (walk_told inner)) where
      pub scan_told_lem : (r : std.Result ItemAt Refusal) → scan_told r ≡ scan_by h (walk_told part) → scan_told r ≡ scan_from (length s) (scanned (drop i s))
      scan_told_lem r by =
          let g = got s i a told f in
          by ∙ ap (scan_by h) (item-told 16 s i inner part scan_room long walked after) ∙ scan_read g (item_at 16 (drop i s)) ∙ ap (scan_from (length s)) (sym (scan_is g))

pub ruleset scan_ways = (scan_refused_lem, scan_told_lem)
