-- The byte side's code: checking, and the steps of a path.
-- Assumes nothing.
use Prim.Native.Nat.{ℕ, zero, suc, ◌+◌, ◌-◌, ◌*◌, ◌^◌, ◌≤◌, ◌<◌}
use native.Mathlib.Omega.{arith}
use mathlib.Core.Path.{◌≡◌, refl, sym, ap, ◌∙◌}
use mathlib.Core.Bool.{Bool, true, false}
use mathlib.Core.List.{List, [], ◌∷◌}
use lib.Dec.{eqb}
use lib.ListN.{length, take, drop, get_or, length-drop, drop_of_length-le}
use lib.Seq.{drop-cons}
use borrow.Author.Tests.{eq-eqb, ne_eqb, eqb-true, eqb-false}
use Rattle.cbor.specs.Refusals.{Result, ok, refuse, bind}
use Rattle.cbor.specs.Items.{Size}
use Rattle.cbor.specs.Heads.{Major, major_number, major_of, Head, information_of, is_indefinite, head_by, next_head}
use Rattle.cbor.specs.Decode.{Until, counted, broken, ended, finished, another, step_at, chunk_at, entry_at, item_by, item_with, item as item_at, extent}
use Rattle.head.specs.HeadAnswers.{head_told, size_information, head_from, head_at}
use Rattle.cbor.specs.Flags.{kind_of}
use Rattle.walk_answer.specs.WalkAnswers.{Within, pass_told, contents, entry_contents, chunk_contents, map_result, told_of, below, one_of, all_of, until_by, mode_by, step_by, Turned, after_told}
use Rattle.refusal.specs.declared.Refusal.{Refusal}
use Rattle.head.specs.declared.HeadAt.{HeadAt}
use Rattle.walk_answer.specs.declared.Passage.{Passage}
use Rattle.walk_answer.proofs.Leaves.{Left, Leaves, same, left_cut, left_weak, left-on}
use Rattle.walk_answer.proofs.ItemLeaves.{HeadLeft, head-left}
use Rattle.walk_parts.proofs.StringCode.{size-indefinite, size-definite}
use Rattle.walk_answer.proofs.WalkCycle.{Reached, reached, one-leaves, all-leaves, all_more, all_none, all_one, all_double}
use Rattle.walk_parts.proofs.WalkItems.{all_told}
use Rattle.path.specs.Following.{Place, at, astray, onto, behind_one, past_one, step_to, standing, nth_from, child_by, child_at, child_in, numbered, follow_from, trace}
use Rattle.path.specs.StepAnswers.{place_of, ReachedInside, ReachedAt, Step, major_by, items_before, past_items, traced_to, Still, Traced}
use Rattle.path.specs.declared.Cursor.{Cursor}
use Rattle.std.specs.Prelude.{Ok, Err, Some, None}
use Rattle.std.specs.Prelude as std
use Rattle.std.specs.Option.{ok_or}
use Rattle.walk_answer.specs.declared.Mode.{Mode}
use Rattle.walk_answer.specs.declared.Mode.TheVariants.{Counted, Broken, Ended}

-- PAST ONE

-- what is left behind a part is left of the whole
pub left_of : (k : ℕ) (s : List ℕ) (i : ℕ) (r : List ℕ) {z : ℕ} → i ≤ length s → Left k (drop i s) r z → Left 0 s r z
left_of k s i r h l = left_weak (omega arith) (omega arith) (left-on (left_cut 0 0 i s (omega arith) (omega arith) h) l)

past-at : (s : List ℕ) (i : ℕ) (m : Passage) (res : Result ℕ) → i ≤ length s → Leaves 0 same (drop i s) res → Reached (length s) m res → ReachedAt s (Some (record { at = m.end })) (behind_one res)
unfolding place_of ReachedInside behind_one
past-at s i m (ok k r) h l g =
    let e : g.rest ≡ r = cc g.is in
    let d = left_of 0 s i r h l in
    let p : m.end ≡ length s - length r = g.ends ∙ ap (λ (t : List ℕ). length s - length t) e in
    record { is = ap at (ap (λ (x : ℕ). drop x s) p ∙ sym d.drops); inside = omega arith }
past-at s i m (refuse k q) h l g = let f = g.is in let z : ◌≡◌ {A = ℕ} 0 1 = cc in absurd (omega arith)

past_not : (s : List ℕ) (e : Refusal) (res : Result ℕ) → pass_told (Err e) ≡ told_of (length s) res → astray ≡ behind_one res
unfolding pass_told told_of behind_one
past_not s e (ok k r) h = let z : ◌≡◌ {A = ℕ} 0 1 = cc in absurd (omega arith)
past_not s e (refuse k q) h = refl

module _ {s : List ℕ} {i : ℕ} (n : ℕ) (w : Within s i) (inner : std.Result Passage Refusal) (long : length s * 1 < 2 ^ 63)
    (told : pass_told inner ≡ told_of (length (take (length s - i) (drop i s))) (all_of 4 (suc 16) (until_by Counted n) (take (length s - i) (drop i s)))) (part : std.Result Passage Refusal) (after : pass_told part ≡ after_told i 0 (pass_told inner)) where
  items-told : pass_told part ≡ told_of (length s) (all_of 4 17 (counted n) (drop i s))
  unfolding until_by
  items-told = all_told 4 17 (counted n) inner part w long told after

  pub past-refused : {e : Refusal} → part ≡ Err e → ReachedAt s None (past_items n (drop i s))
  unfolding place_of ReachedInside past_items
  past-refused f = record { is = past_not s _ (all_of 4 17 (counted n) (drop i s)) (rw f at items-told); inside = tt }

  pub past_to : {m : Passage} → part ≡ Ok m → ReachedAt s (Some (record { at = m.end })) (past_items n (drop i s))
  unfolding past_items
  past_to {m} f = past-at s i m (all_of 4 17 (counted n) (drop i s)) w.inside (all-leaves 4 17 (counted n) (drop i s)) (reached (all_of 4 17 (counted n) (drop i s)) part items-told f)

pub ruleset past_ways = (past-refused, past_to)

-- TO ONE OF SEVERAL

pub nth-none : (major n : ℕ) (u : Until) (s r : List ℕ) → step_at u s ≡ finished r → nth_from major n u s ≡ astray
unfolding nth_from step_to
nth-none major zero u s r e = rw e
nth-none major (suc n) u s r e = rw e

pub nth-zero : (major n : ℕ) (u v : Until) (s : List ℕ) → step_at u s ≡ another v → n ≡ 0 → nth_from major n u s ≡ at s
unfolding nth_from step_to
nth-zero major zero u v s e z = rw e
nth-zero major (suc n) u v s e z = absurd (omega arith)

pub nth-more : (major n : ℕ) (u v : Until) (s : List ℕ) → step_at u s ≡ another v → (n ≡ 0 → ⊥) → nth_from major n u s ≡ onto (past_one major s) (nth_from major (n - 1) v)
unfolding nth_from step_to
nth-more major zero u v s e z = absurd (z refl)
nth-more major (suc n) u v s e z = let i : n ≡ suc n - 1 = omega arith in rw e (ap (λ (k : ℕ). onto (past_one major s) (nth_from major k v)) i)

-- All that stand before it are passed at once: then one must be left there.
unfoldable pub past_some : ℕ → ℕ → List ℕ → Place
past_some major k s = behind_one (all_of major 17 (counted k) s)

unfoldable pub less_by : ℕ → Until → Until
less_by k (counted n) = counted (n - k)
less_by k broken = broken
less_by k ended = ended

some_more : (major k : ℕ) (s : List ℕ) → past_some major (suc k) s ≡ onto (past_one major s) (past_some major k)
unfolding past_some past_one behind_one bind onto
some_more major k s = ap behind_one (all_more major 17 k s) ∙ by (one_of major 17 s)
  where
    last : (m : ℕ) (res : Result ℕ) → behind_one (bind res (λ n r. ok (m + n) r)) ≡ behind_one res
    last m (ok n r) = refl
    last m (refuse n l) = refl

    by : (res : Result ℕ) → behind_one (bind res (λ m r. bind (all_of major 17 (counted k) r) (λ n r'. ok (m + n) r'))) ≡ onto (behind_one res) (λ r. behind_one (all_of major 17 (counted k) r))
    by (ok m r) = last m (all_of major 17 (counted k) r)
    by (refuse n l) = refl

-- nothing can be read where they are over
refused-there : (major : ℕ) (res : Result ℕ) → Leaves 1 same [] res → behind_one res ≡ astray
unfolding behind_one
refused-there major (ok n r) l = absurd (omega (arith, l.less))
refused-there major (refuse n left) l = refl

at-break : (major : ℕ) (s : List ℕ) → past_one major (255 ∷ s) ≡ astray
unfolding past_one one_of below entry_at map_result bind behind_one item_at item_with next_head major_of information_of head_by is_indefinite item_by chunk_at major_number kind_of
at-break major s = by (eqb major 4) (eqb major 5) (eqb major 3)
  where
    by : (a b c : Bool)
        → behind_one (elim a [ true ↦ map_result contents (below 17 (255 ∷ s)) | false ↦ elim b [ true ↦ map_result entry_contents (entry_at (below 17) (255 ∷ s)) | false ↦ map_result chunk_contents (chunk_at (kind_of c) (255 ∷ s)) ] ]) ≡ astray
    by true b c = refl
    by false true c = refl
    by false false true = refl
    by false false false = refl

none-there : (major : ℕ) → past_one major [] ≡ astray
unfolding past_one
none-there major = refused-there major (one_of major 17 []) (one-leaves major 17 [])

-- they are over: whatever standing there, the place is lost
skip-over : (major k : ℕ) (u : Until) (s : List ℕ) → past_one major s ≡ astray → onto (past_some major (suc k) s) (standing (less_by (suc k) u)) ≡ astray
unfolding onto
skip-over major k u s e = ap (λ (p : Place). onto p (standing (less_by (suc k) u))) (some_more major k s ∙ ap (λ (p : Place). onto p (past_some major k)) e)

skip-none : (k : ℕ) (p : Place) → onto p (standing (less_by k (counted 0))) ≡ astray
unfolding onto standing less_by step_to step_at
skip-none k (at r) = let e : 0 - k ≡ 0 = omega arith in ap (λ (n : ℕ). standing (counted n) r) e
skip-none k astray = refl

skip-on : (major k : ℕ) (u v : Until) (s : List ℕ) → ((r : List ℕ) → nth_from major k v r ≡ onto (past_some major k r) (standing (less_by k v))) → step_at u s ≡ another v → less_by (suc k) u ≡ less_by k v
    → nth_from major (suc k) u s ≡ onto (past_some major (suc k) s) (standing (less_by (suc k) u))
unfolding nth_from step_to onto
skip-on major k u v s ih e l =
    rw e (by (past_one major s) ∙ ap (λ (x : Until). onto (onto (past_one major s) (past_some major k)) (standing x)) (sym l) ∙ ap (λ (p : Place). onto p (standing (less_by (suc k) u))) (sym (some_more major k s)))
  where
    by : (p : Place) → onto p (nth_from major k v) ≡ onto (onto p (past_some major k)) (standing (less_by k v))
    by (at r) = ih r
    by astray = refl

pub less_none : (u : Until) → less_by 0 u ≡ u
unfolding less_by
less_none (counted n) = let e : n - 0 ≡ n = omega arith in ap counted e
less_none broken = refl
less_none ended = refl

pub skip : (major k : ℕ) (u : Until) (s : List ℕ) → nth_from major k u s ≡ onto (past_some major k s) (standing (less_by k u))
unfolding nth_from past_some standing step_to step_at onto behind_one less_by
skip major zero u s = ap (λ (x : Until). standing x s) (sym (less_none u)) ∙ sym (ap (λ (res : Result ℕ). onto (behind_one res) (standing (less_by 0 u))) (all_none major 17 s))
skip major (suc k) (counted zero) s = sym (skip-none (suc k) (past_some major (suc k) s))
skip major (suc k) (counted (suc n)) s =
    let e : suc n - suc k ≡ n - k = omega arith in
    skip-on major k (counted (suc n)) (counted n) s (skip major k (counted n)) refl (ap counted e)
skip major (suc k) broken [] = skip-on major k broken broken [] (skip major k broken) refl refl
skip major (suc k) broken (b ∷ s) = by (eqb b 255) refl (skip major k broken)
  where
    by : (t : Bool) → eqb b 255 ≡ t → ((r : List ℕ) → nth_from major k broken r ≡ onto (past_some major k r) (standing (less_by k broken)))
        → step_to (elim t [ true ↦ finished s | false ↦ another broken ]) (λ v. onto (past_one major (b ∷ s)) (nth_from major k v)) ≡ onto (past_some major (suc k) (b ∷ s)) (standing broken)
    by true e ih = sym (skip-over major k broken (b ∷ s) (ap (λ (x : ℕ). past_one major (x ∷ s)) (eqb-true b 255 e) ∙ at-break major s))
    by false e ih = on-by (past_one major (b ∷ s)) ih ∙ ap (λ (p : Place). onto p (standing broken)) (sym (some_more major k (b ∷ s)))
      where
        on-by : (p : Place) → ((r : List ℕ) → nth_from major k broken r ≡ onto (past_some major k r) (standing (less_by k broken))) → onto p (nth_from major k broken) ≡ onto (onto p (past_some major k)) (standing broken)
        on-by (at r) ih = ih r
        on-by astray ih = refl
skip major (suc k) ended [] = sym (skip-over major k ended [] (none-there major))
skip major (suc k) ended (b ∷ s) = skip-on major k ended ended (b ∷ s) (skip major k ended) refl refl

pub less_mode : (k : ℕ) (mode : Mode) (n : ℕ) → less_by k (until_by mode n) ≡ until_by mode (n - k)
unfolding less_by until_by
less_mode k Counted n = refl
less_mode k Broken n = refl
less_mode k Ended n = refl

before-is : (pairs : Bool) (k : ℕ) (s : List ℕ) → past_items (items_before pairs k) s ≡ past_some (major_by pairs) k s
unfolding past_items items_before past_some major_by
before-is true k s = ap behind_one (all_double 17 k s)
before-is false k s = refl

module _ (pairs : Bool) (k : ℕ) {s : List ℕ} (i : ℕ) {n : ℕ} (en : n ≡ items_before pairs k) {move : std.Option Cursor} (mv : ReachedAt s move (past_items n (drop i s))) (mode : Mode) (count : ℕ) where
  on : nth_from (major_by pairs) k (until_by mode count) (drop i s) ≡ onto (place_of s move) (standing (until_by mode (count - k)))
  on =
      skip (major_by pairs) k (until_by mode count) (drop i s)
      ∙ (λ z. onto (sym (mv.is ∙ ap (λ (x : ℕ). past_items x (drop i s)) en ∙ before-is pairs k (drop i s)) z) (standing (less_mode k mode count z)))

  pub nth-lost : move ≡ None → ReachedAt s None (nth_from (major_by pairs) k (until_by mode count) (drop i s))
  unfolding place_of ReachedInside onto
  nth-lost e = record { is = sym (on ∙ ap (λ (m : std.Option Cursor). onto (place_of s m) (standing (until_by mode (count - k)))) e); inside = tt }

  module _ {c : Cursor} (e : move ≡ Some c) {w x : ℕ} (st : Step k w) (ex : x ≡ count - w) {t : Bool} (tu : Turned s c.at mode x t) where
    there : nth_from (major_by pairs) k (until_by mode count) (drop i s) ≡ step_to (step_by t mode x s c.at) (λ v. at (drop c.at s))
    unfolding place_of onto standing
    there =
        on ∙ ap (λ (m : std.Option Cursor). onto (place_of s m) (standing (until_by mode (count - k)))) e
        ∙ ap (λ (y : ℕ). step_to (step_at (until_by mode y) (drop c.at s)) (λ v. at (drop c.at s))) (ap (λ (y : ℕ). count - y) (sym st.is) ∙ sym ex)
        ∙ ap (λ (y : _). step_to y (λ v. at (drop c.at s))) tu.is

    pub nth-over : t ≡ true → ReachedAt s None (nth_from (major_by pairs) k (until_by mode count) (drop i s))
    unfolding place_of ReachedInside step_to step_by
    nth-over y = record { is = sym (there ∙ ap (λ (v : Bool). step_to (step_by v mode x s c.at) (λ v. at (drop c.at s))) y); inside = tt }

    pub nth_here : t ≡ false → ReachedAt s (Some c) (nth_from (major_by pairs) k (until_by mode count) (drop i s))
    unfolding place_of ReachedInside step_to step_by
    nth_here y = record { is = sym (there ∙ ap (λ (v : Bool). step_to (step_by v mode x s c.at) (λ v. at (drop c.at s))) y); inside = rw e at mv.inside }

pub ruleset nth_ways = (nth-lost, nth-over, nth_here)

pub before-pairs : {pairs : Bool} {k w : ℕ} → pairs ≡ true → Step k w → w * 2 ≡ items_before pairs k
unfolding items_before
before-pairs e st = rw e (ap (λ (x : ℕ). x * 2) st.is)

pub before_each : {pairs : Bool} {k w : ℕ} → pairs ≡ false → Step k w → w ≡ items_before pairs k
unfolding items_before
before_each e st = rw e st.is

pub ruleset before_ways = (before-pairs, before_each)

-- INTO AN ITEM

-- how far the elements behind a head go
pub extent_by : ℕ → ℕ → Until
extent_by info n = elim (eqb info 31) [ true ↦ broken | false ↦ counted n ]

pub mode_is : (info n : ℕ) → until_by (mode_by info) n ≡ extent_by info n
unfolding until_by mode_by extent_by
mode_is info n = by (eqb info 31)
  where
    by : (t : Bool) → until_by (elim t [ true ↦ Broken | false ↦ Counted ]) n ≡ elim t [ true ↦ broken | false ↦ counted n ]
    by true = refl
    by false = refl

pub record Got (s : List ℕ) (i : ℕ) (h : HeadAt) : Type 0 where
  pub head : Head
  pub rest : List ℕ
  pub is : next_head (drop i s) ≡ ok head rest
  pub major : h.major ≡ major_number head.major
  pub extends : extent_by h.info h.argument ≡ extent head.size head.argument
  pub info : h.info ≡ size_information head.size head.argument
  pub argument : h.argument ≡ head.argument
  pub ends : h.end ≡ length s - length rest
  pub drops : drop h.end s ≡ rest
  pub early : i < length s

extends_of : {s r : List ℕ} {m : Major} (h : Head) (l : HeadLeft s m h r) (info n : ℕ) → info ≡ size_information h.size h.argument → n ≡ h.argument → extent_by info n ≡ extent h.size h.argument
unfolding extent_by extent
extends_of h l info n e f = by (eqb info 31) refl
  where
    open_is : info ≡ 31 → broken ≡ extent h.size h.argument
    open_is i = sym (ap (λ (z : Size). extent z h.argument) (size-indefinite l (sym e ∙ i)))

    by : (t : Bool) → eqb info 31 ≡ t → elim t [ true ↦ broken | false ↦ counted n ] ≡ extent h.size h.argument
    by true i = open_is (eqb-true info 31 i)
    by false i = size-definite l (λ z. counted n ≡ extent z h.argument) (λ x. eqb-false info 31 i (e ∙ x)) (λ w. ap counted f)

got_of : (s : List ℕ) (i : ℕ) (h : HeadAt) (res : Result Head) → next_head (drop i s) ≡ res → head_told (Ok h) ≡ head_from (length s) res → Got s i h
unfolding head_told head_from
got_of s i h (ok d r) e f =
    let l = head-left (drop i s) e in
    let t = length-drop i s in
    let early : i < length s = omega (arith, l.left.less) in
    let le : i ≤ length s = omega arith in
    let n : h.end ≡ length s - length r = cc in
    let j : h.info ≡ size_information d.size d.argument = cc in
    let k : h.argument ≡ d.argument = cc in
    record {
      head = d;
      rest = r;
      is = e;
      major = cc;
      extends = extends_of d l h.info h.argument j k;
      info = j;
      argument = k;
      ends = n;
      drops = ap (λ (x : ℕ). drop x s) n ∙ sym (left_of 1 s i r le l.left).drops;
      early = early;
    }
got_of s i h (refuse n left) e f = let z : ◌≡◌ {A = ℕ} 0 1 = cc in absurd (omega arith)

pub got : (s : List ℕ) (i : ℕ) {h : HeadAt} (a : std.Result HeadAt Refusal) → head_told a ≡ head_at s i → a ≡ Ok h → Got s i h
unfolding head_at
got s i {h} a e f = got_of s i h (next_head (drop i s)) refl (rw f at e)

child-no : (k n : ℕ) (e : Refusal) (res : Result Head) → head_told (Err e) ≡ head_from n res → astray ≡ child_at k res
unfolding head_told head_from child_at
child-no k n e (ok d r) h = let z : ◌≡◌ {A = ℕ} 0 1 = cc in absurd (omega arith)
child-no k n e (refuse m left) h = refl

module _ (k : ℕ) (s : List ℕ) (i : ℕ) (a : std.Result HeadAt Refusal) (told : head_told a ≡ head_at s i) where
  pub into-refused : {e : Refusal} → a ≡ Err e → ReachedAt s None (child_in k (drop i s))
  unfolding place_of ReachedInside child_in head_at
  into-refused f = record { is = child-no k (length s) _ (next_head (drop i s)) (rw f at told); inside = tt }

  module _ {h : HeadAt} (f : a ≡ Ok h) where
    pub into-room : Within s h.end
    into-room = let g = got s i a told f in record { inside = omega (arith, g.ends) }

    pub child-is : child_in k (drop i s) ≡ child_by k h.major (extent_by h.info h.argument) (drop h.end s)
    unfolding child_in child_at
    child-is =
        let g = got s i a told f in
        ap (child_at k) g.is ∙ sym ((λ j. child_by k (g.major j) (g.extends j) (g.drops j)))

    pub into-other : (h.major ≡ 4 → ⊥) → (h.major ≡ 5 → ⊥) → ReachedAt s None (child_in k (drop i s))
    unfolding place_of ReachedInside child_by
    into-other p q = record { is = sym (child-is ∙ rw (ne_eqb h.major 4 p, child_by) (rw (ne_eqb h.major 5 q))); inside = tt }

    module _ {mode : Mode} (v : mode ≡ mode_by h.info) where
      until_is : until_by mode h.argument ≡ extent_by h.info h.argument
      until_is = ap (λ (m : Mode). until_by m h.argument) v ∙ mode_is h.info h.argument

      pub into-array : {move : std.Option Cursor} → h.major ≡ 4 → ReachedAt s move (nth_from (major_by false) k (until_by mode h.argument) (drop h.end s)) → ReachedAt s move (child_in k (drop i s))
      unfolding child_by major_by
      into-array e mv =
          record { is = mv.is ∙ ap (λ (x : Until). nth_from 4 k x (drop h.end s)) until_is ∙ sym (child-is ∙ rw (eq-eqb h.major 4 e, child_by)); inside = mv.inside }

      module _ {move : std.Option Cursor} (p : h.major ≡ 4 → ⊥) (e : h.major ≡ 5) (mv : ReachedAt s move (nth_from (major_by true) k (until_by mode h.argument) (drop h.end s))) where
        value-is : child_in k (drop i s) ≡ onto (place_of s move) (past_one 4)
        unfolding child_by major_by
        value-is = child-is ∙ rw (ne_eqb h.major 4 p, child_by) (rw (eq-eqb h.major 5 e) (ap (λ (x : Place). onto x (past_one 4)) (sym (mv.is ∙ ap (λ (x : Until). nth_from 5 k x (drop h.end s)) until_is))))

        pub into-none : move ≡ None → ReachedAt s None (child_in k (drop i s))
        unfolding place_of ReachedInside onto
        into-none o = record { is = sym (value-is ∙ ap (λ (m : std.Option Cursor). onto (place_of s m) (past_one 4)) o); inside = tt }

        pub value_room : {c : Cursor} → move ≡ Some c → Within s c.at
        unfolding ReachedInside
        value_room o = record { inside = rw o at mv.inside }

        pub into-value : {c : Cursor} {last : std.Option Cursor} → move ≡ Some c → ReachedAt s last (past_items 1 (drop c.at s)) → ReachedAt s last (child_in k (drop i s))
        unfolding place_of onto past_items past_one
        into-value {c} o m =
            record {
              is = m.is ∙ ap behind_one (all_one 4 17 (drop c.at s)) ∙ sym (value-is ∙ ap (λ (m : std.Option Cursor). onto (place_of s m) (past_one 4)) o);
              inside = m.inside;
            }

pub ruleset into_ways = (into-refused, into-other, into-array, into-none, into-value)

-- A PATH

pub record Tracing (s path : List ℕ) (move : std.Option Cursor) (i : ℕ) : Type 0 where
  pub below : i < length path
  pub inside : ReachedInside s move
  pub left : trace path s ≡ numbered i (place_of s move) (follow_from (suc i) (drop (suc i) path))

pub front-room : {s : List ℕ} → Within s 0
front-room = record { inside = omega arith }

start_of : (s path : List ℕ) {move : std.Option Cursor} → (length path ≡ 0 → ⊥) → ReachedAt s move (nth_from (major_by false) (get_or path 0 0) (until_by Ended 0) (drop 0 s)) → Tracing s path move 0
unfolding trace major_by until_by
start_of s [] n mv = absurd (n refl)
start_of s (k ∷ p) n mv = record { below = omega arith; inside = mv.inside; left = ap (λ (x : Place). numbered 0 x (follow_from 1 p)) (sym mv.is) }

pub trace-start : {s path : List ℕ} {move : std.Option Cursor} → (length path ≡ 0 → ⊥) → ReachedAt s move (nth_from (major_by false) (get_or path 0 0) (until_by Ended 0) (drop 0 s)) → Tracing s path move 0
trace-start n mv = start_of _ _ n mv

-- a path with no steps leads nowhere
none_of : (s path : List ℕ) → length path ≡ 0 → Traced s path (Err 0)
unfolding traced_to Still trace
none_of s [] h = record { is = refl; inside = tt }
none_of s (k ∷ p) h = absurd (omega arith)

pub trace-none : {s path : List ℕ} → length path ≡ 0 → Traced s path (Err 0)
trace-none h = none_of _ _ h

module _ {s path : List ℕ} {move : std.Option Cursor} {i : ℕ} (run : Tracing s path move i) where
  pub trace-lost : move ≡ None → Traced s path (Err i)
  unfolding traced_to Still place_of numbered
  trace-lost e = record { is = sym (run.left ∙ ap (λ (m : std.Option Cursor). numbered i (place_of s m) (follow_from (suc i) (drop (suc i) path))) e); inside = tt }

  module _ {c : Cursor} (e : move ≡ Some c) where
    going : trace path s ≡ follow_from (suc i) (drop (suc i) path) (drop c.at s)
    unfolding place_of numbered
    going = run.left ∙ ap (λ (m : std.Option Cursor). numbered i (place_of s m) (follow_from (suc i) (drop (suc i) path))) e

    pub trace-at : length path ≤ i + 1 → Traced s path (Ok c)
    unfolding traced_to Still ReachedInside follow_from
    trace-at h =
        let le : length path ≤ suc i = omega arith in
        record { is = sym (going ∙ ap (λ (p : List ℕ). follow_from (suc i) p (drop c.at s)) (drop_of_length-le path le)); inside = rw e at run.inside }

    pub trace-on : {next : std.Option Cursor} → i + 1 < length path → ReachedAt s next (child_in (get_or path (i + 1) 0) (drop c.at s)) → Tracing s path next (i + 1)
    unfolding follow_from
    trace-on {next} h mv =
        let j : i + 1 ≡ suc i = omega arith in
        let l : suc i < length path = omega arith in
        let q : get_or path (i + 1) 0 ≡ get_or path (suc i) 0 = ap (λ (x : ℕ). get_or path x 0) j in
        rw j (record {
          below = l;
          inside = mv.inside;
          left = going ∙ ap (λ (p : List ℕ). follow_from (suc i) p (drop c.at s)) (drop-cons path (suc i) 0 l)
              ∙ ap (λ (x : Place). numbered (suc i) x (follow_from (suc (suc i)) (drop (suc (suc i)) path))) (sym (mv.is ∙ ap (λ (x : ℕ). child_in x (drop c.at s)) q));
        })

-- a move handed on, or the step at which there is none
made_of : (o : std.Option Cursor) (i : ℕ) {c : Cursor} → ok_or o i ≡ Ok c → o ≡ Some c
made_of (Some x) i e = ap (λ (r : std.Result Cursor ℕ). elim r [ Ok y ↦ Some y | Err j ↦ Some x ]) e
made_of None i {c} e = let z : ◌≡◌ {A = ℕ} 0 1 = ap (λ (r : std.Result Cursor ℕ). elim r [ Ok y ↦ 1 | Err j ↦ 0 ]) e in absurd (omega arith)

none_of_move : (o : std.Option Cursor) (i : ℕ) {x : ℕ} → ok_or o i ≡ Err x → (o ≡ None) × (x ≡ i)
none_of_move (Some y) i {x} e = let z : ◌≡◌ {A = ℕ} 0 1 = ap (λ (r : std.Result Cursor ℕ). elim r [ Ok y ↦ 0 | Err j ↦ 1 ]) e in absurd (omega arith)
none_of_move None i {x} e = (refl, sym (ap (λ (r : std.Result Cursor ℕ). elim r [ Ok y ↦ i | Err j ↦ j ]) e))

module _ {s path : List ℕ} {o : std.Option Cursor} {r : std.Result Cursor ℕ} where
  module _ (n : length path ≡ 0 → ⊥) (mv : ReachedAt s o (nth_from (major_by false) (get_or path 0 0) (until_by Ended 0) (drop 0 s))) (v : r ≡ ok_or o 0) where
    pub first-made : {c : Cursor} → r ≡ Ok c → Tracing s path (Some c) 0
    first-made w = let e = made_of o _ (sym v ∙ w) in rw e at (trace-start n mv)

    pub first-lost : {x : ℕ} → r ≡ Err x → Traced s path (Err x)
    first-lost w = let e = none_of_move o _ (sym v ∙ w) in rw e.1 (trace-lost (trace-start n mv) e.0)

  module _ {i : ℕ} {here : Cursor} (l : 1 ≤ i) (h : i < length path) (run : Tracing s path (Some here) (i - 1)) (mv : ReachedAt s o (child_in (get_or path i 0) (drop here.at s))) (v : r ≡ ok_or o i) where
    next : Tracing s path o i
    next =
        let j : i - 1 + 1 ≡ i = omega arith in
        let k : i - 1 + 1 < length path = omega arith in
        rw j at (trace-on run refl k (rw (← j) at mv))

    pub next-made : {c : Cursor} → r ≡ Ok c → Tracing s path (Some c) (i + 1 - 1)
    next-made w =
        let e = made_of o _ (sym v ∙ w) in
        let j : i + 1 - 1 ≡ i = omega arith in
        rw j (rw e at next)

    pub next-lost : {x : ℕ} → r ≡ Err x → Traced s path (Err x)
    next-lost w = let e = none_of_move o _ (sym v ∙ w) in rw e.1 (trace-lost next e.0)

pub trace-end : {s path : List ℕ} {here : Cursor} {i : ℕ} → Tracing s path (Some here) (i - 1) → length path ≤ i → Traced s path (Ok here)
trace-end run h = trace-at run refl (omega arith)

pub ruleset trace_ways = (trace-none, trace-lost, trace-at)
