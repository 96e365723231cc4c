-- The walk over bytes: the cycle of items, tags, entries and several, a lemma for each way through its functions.
-- Assumes nothing.
use Prim.Native.Nat.{ℕ, zero, suc, ◌+◌, ◌-◌, ◌*◌, ◌^◌, ◌≤◌, ◌<◌, min}
use native.Mathlib.Omega.{arith}
use mathlib.Core.Path.{◌≡◌, refl, sym, ap, ◌∙◌}
use mathlib.Core.Bool.{Bool, true, false, not}
use mathlib.Core.List.{List, [], ◌∷◌}
use lib.Dec.{eqb}
use lib.ListN.{length, take, drop, length-drop}
use lib.Seq.{drop-drop, take_all}
use borrow.Author.Tests.{ne_eqb, not-true, not-false}
use Rattle.cbor.specs.Refusals.{Result, ok, refuse, bind}
use Rattle.cbor.specs.Items.{Item}
use Rattle.cbor.specs.Decode.{Until, counted, ended, Step, finished, another, step_at, several_by, chunk_at, entry_at, item}
use Rattle.walk_answer.specs.WalkAnswers.{PassTold, passed, pass_refused, pass_told, contents, map_result, told_of, pass_of, below, entry_contents, chunk_contents, one_of, all_of, until_by, behind_by, step_by, Turned, after_told}
use Rattle.cbor.specs.Flags.{kind_of}
use Rattle.refusal.specs.declared.Refusal.{Refusal}
use Rattle.walk_answer.specs.declared.Passage.{Passage}
use Rattle.memory.specs.Sums.{capped}
use Rattle.walk_answer.proofs.Leaves.{Leaves, same, leaves-sized, several_eq, several-leaves}
use Rattle.walk_answer.proofs.ItemLeaves.{chunk_leaves, entry_leaves, below-leaves}
use Rattle.std.specs.Prelude.{Ok, Err}
use Rattle.std.specs.Prelude as std
use Rattle.walk_answer.specs.declared.Mode.{Mode}
use Rattle.walk_answer.specs.declared.Mode.TheVariants.{Counted}

-- ANSWERS

-- the place at which n bytes less n are
pub at_front : (k n : ℕ) → ◌≡◌ {A = PassTold} (pass_refused k 0) (pass_refused k (n - n))
at_front k n = let z : 0 ≡ n - n = omega arith in ap (pass_refused k) z

pub record Reached (n : ℕ) (m : Passage) (res : Result ℕ) : Type 0 where
  pub rest : List ℕ
  pub is : res ≡ ok m.size rest
  pub ends : m.end ≡ n - length rest

reached_of : (n : ℕ) (m : Passage) (res : Result ℕ) → pass_told (Ok m) ≡ told_of n res → Reached n m res
unfolding pass_told told_of
reached_of n m (ok k r) e = let i : m.size ≡ k = cc in record { rest = r; is = ap (λ (x : ℕ). ok x r) (sym i); ends = cc }
reached_of n m (refuse k l) e = let z : ◌≡◌ {A = ℕ} 0 1 = cc in absurd (omega arith)

pub reached : {n : ℕ} {m : Passage} (res : Result ℕ) (a : std.Result Passage Refusal) → pass_told a ≡ told_of n res → a ≡ Ok m → Reached n m res
reached res a e i = reached_of _ _ res (rw i at e)

lost_of : (n : ℕ) (e : Refusal) (res : Result ℕ) (go : ℕ → List ℕ → Result ℕ) → pass_told (Err e) ≡ told_of n res → pass_told (Err e) ≡ told_of n (bind res go)
unfolding pass_told told_of bind
lost_of n e (ok k r) go h = let z : ◌≡◌ {A = ℕ} 0 1 = cc in absurd (omega arith)
lost_of n e (refuse k l) go h = h

-- a part that is refused, and whatever begins with it
pub lost : (n : ℕ) {e : Refusal} (res : Result ℕ) (go : ℕ → List ℕ → Result ℕ) (a : std.Result Passage Refusal) → pass_told a ≡ told_of n res → a ≡ Err e → pass_told (Err e) ≡ told_of n (bind res go)
lost n res go a h i = lost_of n _ res go (rw i at h)

-- the part of a slice from a place on, as the code has it
pub tail_is : (s : List ℕ) (at : ℕ) → take (length s - at) (drop at s) ≡ drop at s
tail_is s at = take_all (length s - at) (drop at s) (omega (arith, length-drop at s))

-- the answer for a part, as that for the whole
pub after-told : (k : ℕ) (s : List ℕ) (at size : ℕ) (res : Result ℕ) → at ≤ length s → size ≤ at → length s < 2 ^ 63 → Leaves k same (drop at s) res
    → after_told at size (told_of (length (drop at s)) res) ≡ told_of (length s) (bind res (λ m r. ok (size + m) r))
unfolding told_of after_told bind
after-told j s at size (ok k r) h z l v =
    let d = length-drop at s in
    let p : min (at + (length (drop at s) - length r)) (2 ^ 64 - 1) ≡ length s - length r = omega (arith, v.less) in
    let q : min (size + k) (2 ^ 64 - 1) ≡ size + k = omega (arith, v.small) in
    λ j. passed (p j) (q j)
after-told j s at size (refuse k q) h z l v =
    let d = length-drop at s in
    let p : min (at + (length (drop at s) - q)) (2 ^ 64 - 1) ≡ length s - q = omega arith in
    ap (pass_refused k) p

-- ONE AND MORE

bind-none : (res : Result ℕ) → res ≡ bind res (λ m r. ok (0 + m) r)
unfolding bind
bind-none (ok m r) = let e : m ≡ 0 + m = omega arith in ap (λ (n : ℕ). ok n r) e
bind-none (refuse n l) = refl

-- an item is an element of an array
pub one-item : (n d : ℕ) (s : List ℕ) {t : PassTold} → t ≡ pass_of n (item d s) → t ≡ told_of n (one_of 4 (suc d) s)
unfolding pass_of one_of below
one-item n d s h = h

-- an entry is two of them
entry_sized : (rd : List ℕ → Result Item) (s : List ℕ)
    → map_result entry_contents (entry_at rd s) ≡ bind (map_result contents (rd s)) (λ k r. bind (map_result contents (rd r)) (λ x r'. ok (k + x) r'))
unfolding entry_at entry_contents bind map_result
entry_sized rd s = by (rd s)
  where
    last : (k : Item) (res : Result Item) → map_result entry_contents (bind res (λ x r. ok (record { key = k; value = x }) r)) ≡ bind (map_result contents res) (λ x r. ok (contents k + x) r)
    last k (ok x r) = refl
    last k (refuse n l) = refl

    by : (res : Result Item) → map_result entry_contents (bind res (λ k r. bind (rd r) (λ x r'. ok (record { key = k; value = x }) r'))) ≡ bind (map_result contents res) (λ k r. bind (map_result contents (rd r)) (λ x r'. ok (k + x) r'))
    by (ok k r) = last k (rd r)
    by (refuse n l) = refl

entry_two : (d : ℕ) (s : List ℕ) → one_of 5 d s ≡ bind (one_of 4 d s) (λ k r. bind (one_of 4 d r) (λ x r'. ok (k + x) r'))
unfolding one_of
entry_two d s = entry_sized (below d) s

pub one-leaves : (major d : ℕ) (s : List ℕ) → Leaves 1 same s (one_of major d s)
unfolding one_of
one-leaves major d s = by (eqb major 4) (eqb major 5)
  where
    by : (a b : Bool)
        → Leaves {A = ℕ} 1 same s (elim a [ true ↦ map_result contents (below d s) | false ↦ elim b [ true ↦ map_result entry_contents (entry_at (below d) s) | false ↦ map_result chunk_contents (chunk_at (kind_of (eqb major 3)) s) ] ])
    by true b = leaves-sized 1 contents s (below d s) (below-leaves d s)
    by false true = leaves-sized 1 entry_contents s (entry_at (below d) s) (entry_leaves (below d) (below-leaves d) s)
    by false false = leaves-sized 1 chunk_contents s (chunk_at (kind_of (eqb major 3)) s) (chunk_leaves (kind_of (eqb major 3)) s)

-- SEVERAL

all_eq : (major d : ℕ) (u : Until) (s : List ℕ) → all_of major d u s ≡ several_by 0 ◌+◌ (one_of major d) (all_of major d) (step_at u s) s
unfolding all_of
all_eq major d u s = several_eq 0 ◌+◌ (one_of major d) same (one-leaves major d) u s

pub all-leaves : (major d : ℕ) (u : Until) (s : List ℕ) → Leaves 0 same s (all_of major d u s)
unfolding all_of
all-leaves major d u s = several-leaves (one_of major d) (one-leaves major d) u s

-- the others behind one
abbrev others : ℕ → ℕ → Until → ℕ → List ℕ → Result ℕ
others major d u m r = bind (all_of major d u r) (λ n r'. ok (m + n) r')

pub all_more : (major d n : ℕ) (s : List ℕ) → all_of major d (counted (suc n)) s ≡ bind (one_of major d s) (others major d (counted n))
unfolding step_at several_by
all_more major d n s = all_eq major d (counted (suc n)) s

pub all_none : (major d : ℕ) (s : List ℕ) → all_of major d (counted 0) s ≡ ok 0 s
unfolding step_at several_by
all_none major d s = all_eq major d (counted 0) s

-- one of a number of one
pub all_one : (major d : ℕ) (s : List ℕ) → all_of major d (counted 1) s ≡ one_of major d s
unfolding bind
all_one major d s = all_more major d 0 s ∙ by (one_of major d s)
  where
    by : (res : Result ℕ) → bind res (others major d (counted 0)) ≡ res
    by (ok m r) = let e : m + 0 ≡ m = omega arith in rw (all_none major d r) (ap (λ (n : ℕ). ok n r) e)
    by (refuse n l) = refl

-- the entries of a map are twice as many items
all_twice : (d n : ℕ) (s : List ℕ) → all_of 5 d (counted n) s ≡ all_of 4 d (counted (n + n)) s
unfolding bind
all_twice d zero s = all_none 5 d s ∙ sym (all_none 4 d s)
all_twice d (suc n) s =
    let e : suc n + suc n ≡ suc (suc (n + n)) = omega arith in
    all_more 5 d n s ∙ ap (λ (res : Result ℕ). bind res (others 5 d (counted n))) (entry_two d s) ∙ first (all_twice d n) (one_of 4 d s)
    ∙ sym (all_more 4 d (suc (n + n)) s) ∙ ap (λ (k : ℕ). all_of 4 d (counted k) s) (sym e)
  where
    last : (k m : ℕ) (res : Result ℕ) → bind res (λ x r. ok (k + m + x) r) ≡ bind (bind res (λ x r. ok (m + x) r)) (λ x r. ok (k + x) r)
    last k m (ok x r) = let e : k + m + x ≡ k + (m + x) = omega arith in ap (λ (y : ℕ). ok y r) e
    last k m (refuse n l) = refl

    second : ((r : List ℕ) → all_of 5 d (counted n) r ≡ all_of 4 d (counted (n + n)) r) → (k : ℕ) (res : Result ℕ) → bind (bind res (λ x r'. ok (k + x) r')) (others 5 d (counted n)) ≡ bind (bind res (others 4 d (counted (n + n)))) (λ x r. ok (k + x) r)
    second ih k (ok m r) = rw (ih r) (last k m (all_of 4 d (counted (n + n)) r))
    second ih k (refuse i l) = refl

    first : ((r : List ℕ) → all_of 5 d (counted n) r ≡ all_of 4 d (counted (n + n)) r) → (res : Result ℕ) → bind (bind res (λ k r. bind (one_of 4 d r) (λ x r'. ok (k + x) r'))) (others 5 d (counted n)) ≡ bind res (others 4 d (counted (suc (n + n))))
    first ih (ok k r) = second ih k (one_of 4 d r) ∙ ap (λ (res : Result ℕ). bind res (λ x r'. ok (k + x) r')) (sym (all_more 4 d (n + n) r))
    first ih (refuse i l) = refl

pub all_double : (d n : ℕ) (s : List ℕ) → all_of 4 d (counted (n * 2)) s ≡ all_of 5 d (counted n) s
all_double d n s = let e : n * 2 ≡ n + n = omega arith in ap (λ (k : ℕ). all_of 4 d (counted k) s) e ∙ sym (all_twice d n s)

-- a number of items, and then all to the end
pub all_rest : (d k : ℕ) (s : List ℕ) {z : ℕ} {r : List ℕ} → all_of 4 d (counted k) s ≡ ok z r → all_of 4 d ended s ≡ bind (all_of 4 d ended r) (λ n r'. ok (z + n) r')
unfolding bind step_at several_by
all_rest d zero s {z} {r} e =
    let f : ok 0 s ≡ ok z r = sym (all_none 4 d s) ∙ e in
    let a : 0 ≡ z = cc in
    let b : s ≡ r = cc in
    bind-none (all_of 4 d ended s) ∙ (λ j. bind (all_of 4 d ended (b j)) (λ n r'. ok (a j + n) r'))
all_rest d (suc k) s {z} {r} e = first (one_of 4 d s) refl (sym (all_more 4 d k s) ∙ e) (λ t x u h. all_rest d k t h)
  where
    last : (m x : ℕ) (res : Result ℕ) → bind (bind res (λ n r'. ok (x + n) r')) (λ n r'. ok (m + n) r') ≡ bind res (λ n r'. ok (m + x + n) r')
    last m x (ok n t) = let q : m + (x + n) ≡ m + x + n = omega arith in ap (λ (y : ℕ). ok y t) q
    last m x (refuse n l) = refl

    second : (m : ℕ) (t : List ℕ) (res : Result ℕ) → all_of 4 d (counted k) t ≡ res → bind res (λ n r'. ok (m + n) r') ≡ ok z r → ((x : ℕ) (u : List ℕ) → all_of 4 d (counted k) t ≡ ok x u → all_of 4 d ended t ≡ bind (all_of 4 d ended u) (λ n r'. ok (x + n) r'))
        → bind (all_of 4 d ended t) (λ n r'. ok (m + n) r') ≡ bind (all_of 4 d ended r) (λ n r'. ok (z + n) r')
    second m t (ok x u) h i ih =
        let a : m + x ≡ z = cc in
        let b : u ≡ r = cc in
        ap (λ (res : Result ℕ). bind res (λ n r'. ok (m + n) r')) (ih x u h) ∙ last m x (all_of 4 d ended u) ∙ (λ j. bind (all_of 4 d ended (b j)) (λ n r'. ok (a j + n) r'))
    second m t (refuse x l) h i ih = let o : ◌≡◌ {A = ℕ} 0 1 = cc in absurd (omega arith)

    going : (t : List ℕ) {m : ℕ} {u : List ℕ} → one_of 4 d t ≡ ok m u → all_of 4 d ended t ≡ bind (one_of 4 d t) (others 4 d ended)
    going [] h = let l = rw h at (one-leaves 4 d []) in absurd (omega (arith, l.less))
    going (b ∷ t) h = all_eq 4 d ended (b ∷ t)

    first : (res : Result ℕ) → one_of 4 d s ≡ res → bind res (others 4 d (counted k)) ≡ ok z r → ((t : List ℕ) (x : ℕ) (u : List ℕ) → all_of 4 d (counted k) t ≡ ok x u → all_of 4 d ended t ≡ bind (all_of 4 d ended u) (λ n r'. ok (x + n) r'))
        → all_of 4 d ended s ≡ bind (all_of 4 d ended r) (λ n r'. ok (z + n) r')
    first (ok m t) h i ih = going s h ∙ ap (λ (res : Result ℕ). bind res (others 4 d ended)) h ∙ second m t (all_of 4 d (counted k) t) refl i (ih t)
    first (refuse n l) h i ih = let o : ◌≡◌ {A = ℕ} 0 1 = cc in absurd (omega arith)

module _ (n d : ℕ) (s : List ℕ) {t : PassTold} where
  pub other_entry : {major : ℕ} → major ≡ 5 → t ≡ told_of n (all_of 4 d (until_by Counted 2) s) → t ≡ told_of n (one_of major d s)
  unfolding until_by
  other_entry e h = rw e (h ∙ ap (told_of n) (all_double d 1 s ∙ all_one 5 d s))

  pub other_chunk : {major : ℕ} → (major ≡ 4 → ⊥) → (major ≡ 5 → ⊥) → t ≡ told_of n (map_result chunk_contents (chunk_at (kind_of (eqb major 3)) s)) → t ≡ told_of n (one_of major d s)
  unfolding one_of
  other_chunk {major} o e h = h ∙ rw (ne_eqb major 4 o, one_of) (rw (ne_eqb major 5 e))

pub ruleset other_ways = (other_entry, other_chunk)

-- before a turn: what is left to walk over is the whole answer, with what was walked over before it
pub record Run (major d : ℕ) (s : List ℕ) (first : Until) (at size : ℕ) (u : Until) : Type 0 where
  pub inside : at ≤ length s
  pub small : size ≤ at
  pub left : all_of major d first s ≡ bind (all_of major d u (drop at s)) (λ m r. ok (size + m) r)

pub run-start : {major d : ℕ} {s : List ℕ} {u : Until} → Run major d s u 0 0 u
run-start {major} {d} {s} {u} = record { inside = omega arith; small = omega arith; left = bind-none (all_of major d u s) }

module _ {major d : ℕ} {s : List ℕ} {first : Until} {at size : ℕ} {mode : Mode} {n : ℕ} (run : Run major d s first at size (until_by mode n)) {t : Bool} (tu : Turned s at mode n t) where
  run_eq : (x : Step) → step_by t mode n s at ≡ x → all_of major d first s ≡ bind (several_by 0 ◌+◌ (one_of major d) (all_of major d) x (drop at s)) (λ m r. ok (size + m) r)
  run_eq x e =
      run.left ∙ ap (λ (k : Result ℕ). bind k (λ m r. ok (size + m) r)) (all_eq major d (until_by mode n) (drop at s)
      ∙ ap (λ (y : Step). several_by 0 ◌+◌ (one_of major d) (all_of major d) y (drop at s)) (tu.is ∙ e))

  pub run-over : {end : ℕ} {o : PassTold} → not t ≡ false → length s * 1 < 2 ^ 63 → end ≡ capped at (behind_by mode) → o ≡ passed end size → o ≡ told_of (length s) (all_of major d first s)
  unfolding step_by several_by bind told_of
  run-over {end} y long c h =
      let tr = not-false t y in
      let i = tu.inside tr run.inside in
      let p : end ≡ length s - length (drop (at + behind_by mode) s) = omega (arith, length-drop (at + behind_by mode) s) in
      let q : size ≡ size + 0 = omega arith in
      h ∙ (λ j. passed (p j) (q j)) ∙ sym (ap (told_of (length s)) (run_eq (finished (drop (at + behind_by mode) s)) (ap (λ (v : Bool). step_by v mode n s at) tr)))

  module _ (y : not t ≡ true) (one : std.Result Passage Refusal) (long : length s * 1 < 2 ^ 63) (told : pass_told one ≡ told_of (length (take (length s - at) (drop at s))) (one_of major d (take (length s - at) (drop at s)))) (part : std.Result Passage Refusal)
      (after : pass_told part ≡ after_told at size (pass_told one)) where
    -- this one, with what was walked over before it, and then the others
    on : all_of major d first s ≡ bind (bind (one_of major d (drop at s)) (λ m r. ok (size + m) r)) (others major d (until_by mode (n - 1)))
    unfolding step_by several_by bind
    on = run_eq (another (until_by mode (n - 1))) (ap (λ (v : Bool). step_by v mode n s at) (not-true t y)) ∙ by (one_of major d (drop at s))
      where
        last : (m : ℕ) (res : Result ℕ) → bind (bind res (λ n r. ok (m + n) r)) (λ n r. ok (size + n) r) ≡ bind res (λ n r. ok (size + m + n) r)
        last m (ok n r) = let z : size + (m + n) ≡ size + m + n = omega arith in ap (λ (k : ℕ). ok k r) z
        last m (refuse n l) = refl

        by : (res : Result ℕ) → bind (bind res (others major d (until_by mode (n - 1)))) (λ m r. ok (size + m) r) ≡ bind (bind res (λ m r. ok (size + m) r)) (others major d (until_by mode (n - 1)))
        by (ok m r) = last m (all_of major d (until_by mode (n - 1)) r)
        by (refuse n l) = refl

    part-told : pass_told part ≡ told_of (length s) (bind (one_of major d (drop at s)) (λ m r. ok (size + m) r))
    part-told =
        after ∙ ap (after_told at size) (told ∙ ap (λ (t : List ℕ). told_of (length t) (one_of major d t)) (tail_is s at)) ∙ after-told 1 s at size (one_of major d (drop at s)) run.inside run.small (omega arith) (one-leaves major d (drop at s))

    pub run-refused : {x : Refusal} → part ≡ Err x → pass_told (Err x) ≡ told_of (length s) (all_of major d first s)
    run-refused h = lost (length s) (bind (one_of major d (drop at s)) (λ m r. ok (size + m) r)) (others major d (until_by mode (n - 1))) part part-told h ∙ ap (told_of (length s)) (sym on)

    module _ {m : Passage} (h : part ≡ Ok m) where
      at_part : Reached (length s) m (bind (one_of major d (drop at s)) (λ m r. ok (size + m) r))
      at_part = reached _ part part-told h

      -- it ends behind where it starts
      part_left : (res : Result ℕ) → Leaves 1 same (drop at s) res → (r : List ℕ) → bind res (λ k t. ok (size + k) t) ≡ ok m.size r → (length r < length s - at) × (r ≡ drop (length s - length r) s) × (m.size + length r ≤ length s)
      unfolding bind
      part_left (ok k t) l r i =
          let a : size + k ≡ m.size = cc in
          let b : t ≡ r = cc in
          let dd = length-drop at s in
          let n : at + (length (drop at s) - length t) ≡ length s - length t = omega (arith, l.less, run.inside) in
          rw (← b) (omega (arith, l.less), l.drops ∙ drop-drop (length (drop at s) - length t) at s ∙ ap (λ (x : ℕ). drop x s) n, omega (arith, l.small, run.small, run.inside))
      part_left (refuse k q) l r i = let z : ◌≡◌ {A = ℕ} 0 1 = cc in absurd (omega arith)

      behind-part : (length at_part.rest < length s - at) × (at_part.rest ≡ drop (length s - length at_part.rest) s) × (m.size + length at_part.rest ≤ length s)
      behind-part = part_left (one_of major d (drop at s)) (one-leaves major d (drop at s)) at_part.rest at_part.is

      pub run_less : length s - m.end < length s - at
      run_less = let b = behind-part in omega (arith, at_part.ends, b.0)

      pub run_on : {k : ℕ} → k ≡ n - 1 → Run major d s first m.end m.size (until_by mode k)
      unfolding bind
      run_on {k} e =
          let g = at_part in
          let b = behind-part in
          let r : g.rest ≡ drop m.end s = b.1 ∙ ap (λ (n : ℕ). drop n s) (sym g.ends) in
          record {
            inside = omega (arith, g.ends);
            small = omega (arith, g.ends, b.0, b.2);
            left = on ∙ ap (λ (k : Result ℕ). bind k (others major d (until_by mode (n - 1)))) g.is
                ∙ ap (λ (t : List ℕ). bind (all_of major d (until_by mode (n - 1)) t) (λ n r'. ok (m.size + n) r')) r
                ∙ ap (λ (i : ℕ). bind (all_of major d (until_by mode i) (drop m.end s)) (λ n r'. ok (m.size + n) r')) (sym e);
          }

pub ruleset run_ways = (run-over, run-refused)
