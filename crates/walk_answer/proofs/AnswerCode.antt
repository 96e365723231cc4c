-- What a walk answers: a lemma for each way through the functions that make an answer.
-- Assumes nothing.
use Prim.Native.Nat.{ℕ}
use mathlib.Core.Path.{◌≡◌, refl, ◌∙◌}
use Rattle.memory.specs.Sums.{capped}
use Rattle.refusal.specs.RefusalKinds.{kind_number}
use Rattle.walk_answer.specs.WalkAnswers.{PassTold, passed, pass_refused, pass_told, walk_told, with_major, after_told, item_after}
use Rattle.refusal.specs.declared.Refusal.{Refusal}
use Rattle.refusal.specs.declared.RefusalKind.{RefusalKind}
use Rattle.walk_answer.specs.declared.WalkedItem.{WalkedItem}
use Rattle.walk_answer.specs.declared.Passage.{Passage}
use Rattle.std.specs.Prelude.{Ok, Err}
use Rattle.std.specs.Prelude as std

-- ANSWERS

pub told-span : (end size : ℕ) → pass_told (Ok (record { end = end; size = size })) ≡ passed end size
unfolding pass_told
told-span end size = refl

pub told-refused : (kind : RefusalKind) (place : ℕ) → pass_told (Err (record { kind = kind; place = place })) ≡ pass_refused (kind_number kind) place
unfolding pass_told
told-refused kind place = refl

module _ (from size : ℕ) {t : PassTold} {part : std.Result Passage Refusal} {x y : ℕ} where
  pub after-made : {m : Passage} → part ≡ Ok m → x ≡ capped from m.end → y ≡ capped size m.size → t ≡ passed x y → t ≡ after_told from size (pass_told part)
  unfolding pass_told after_told
  after-made e i j h = h ∙ rw (e, i, j)

module _ (from size : ℕ) {t : PassTold} {part : std.Result Passage Refusal} {x : ℕ} where
  pub after-refused : {e : Refusal} → part ≡ Err e → x ≡ capped from e.place → t ≡ pass_refused (kind_number e.kind) x → t ≡ after_told from size (pass_told part)
  unfolding pass_told after_told
  after-refused e i h = h ∙ rw (e, i)

pub ruleset after_ways = (after-made, after-refused)

-- AN ITEM AND WHAT WAS PASSED OVER

module _ (major : ℕ) {span : std.Result Passage Refusal} where
  pub major-made : {m : Passage} → span ≡ Ok m → walk_told (Ok (record { end = m.end; major = major; size = m.size })) ≡ with_major major (pass_told span)
  unfolding walk_told pass_told with_major
  major-made e = rw e

  pub major-refused : {e : Refusal} → span ≡ Err e → walk_told (Err e) ≡ with_major major (pass_told span)
  unfolding walk_told pass_told with_major
  major-refused e = rw e

pub ruleset with_ways = (major-made, major-refused)

module _ (from x : ℕ) {inner : std.Result WalkedItem Refusal} where
  pub item-after-made : {m : WalkedItem} → inner ≡ Ok m → x ≡ capped from m.end → walk_told (Ok (record { end = x; major = m.major; size = m.size })) ≡ item_after from (walk_told inner)
  unfolding walk_told item_after
  item-after-made e h = rw (e, h)

  pub item-after-refused : {e : Refusal} → inner ≡ Err e → x ≡ capped from e.place → walk_told (Err (record { kind = e.kind; place = x })) ≡ item_after from (walk_told inner)
  unfolding walk_told item_after
  item-after-refused e h = rw (e, h)

pub ruleset item-after_ways = (item-after-made, item-after-refused)
