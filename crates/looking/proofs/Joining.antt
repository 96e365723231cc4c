-- Walks over items, one behind the other and one inside the other, are one walk; and with more levels left it is the same.
-- Assumes nothing.
use Prim.Native.Nat.{ℕ, zero, suc, ◌+◌, ◌-◌, ◌≤◌}
use native.Mathlib.Omega.{arith}
use mathlib.Core.Path.{◌≡◌, refl, sym, ap, ◌∙◌}
use mathlib.Core.Bool.{Bool, true, false}
use mathlib.Core.List.{List, [], ◌∷◌}
use lib.Dec.{eqb}
use lib.ListN.{length}
use borrow.Author.Tests.{eqb-true}
use Rattle.cbor.specs.Refusals.{Result, ok, refuse, bind}
use Rattle.cbor.specs.Items.{Item, array, map, levels}
use Rattle.cbor.specs.Heads.{Head, Major, arrays, maps, major_number, major_of, information_of, head_by, is_indefinite, next_head}
use Rattle.cbor.specs.Encode.{encode}
use Rattle.cbor.specs.Valid.{Bytes, Valid}
use Rattle.cbor.specs.Decode.{Until, counted, broken, ended, Step, finished, another, step_at, several_by, elements, entries, item_by, item_with, item, extent}
use Rattle.cbor.proofs.DecodeEncode.{enter_at, by-head, item_of_encode}
use Rattle.cbor.proofs.EncodeDecode.{WellRead, item_well}
use Rattle.cbor.proofs.Heads.{major-back}
use Rattle.walk_answer.specs.WalkAnswers.{contents, contents_all, contents_all₂, map_result, below, one_of, all_of}
use Rattle.walk_answer.proofs.Leaves.{same, several_eq}
use Rattle.walk_answer.proofs.ItemLeaves.{elements-sized, entries-sized}
use Rattle.walk_parts.proofs.StringCode.{sized-made}
use Rattle.walk_answer.proofs.WalkCycle.{one-leaves, all_more, all_none}
use Rattle.path.proofs.Stepping.{less_by, less_none}

-- ONE AND THE OTHERS

all_eq : (d : ℕ) (u : Until) (s : List ℕ) → all_of 4 d u s ≡ several_by 0 ◌+◌ (one_of 4 d) (all_of 4 d) (step_at u s) s
unfolding all_of
all_eq d u s = several_eq 0 ◌+◌ (one_of 4 d) same (one-leaves 4 d) u s

pub all-over : (d : ℕ) (u : Until) (s : List ℕ) {r : List ℕ} → step_at u s ≡ finished r → all_of 4 d u s ≡ ok 0 r
unfolding several_by
all-over d u s e = all_eq d u s ∙ ap (λ (y : Step). several_by 0 ◌+◌ (one_of 4 d) (all_of 4 d) y s) e

pub all-on : (d : ℕ) (u v : Until) (s : List ℕ) {r t : List ℕ} {m n : ℕ} → step_at u s ≡ another v → one_of 4 d s ≡ ok m r → all_of 4 d v r ≡ ok n t → all_of 4 d u s ≡ ok (m + n) t
unfolding several_by bind
all-on d u v s {r} {t} {m} e f g =
    all_eq d u s ∙ ap (λ (y : Step). several_by 0 ◌+◌ (one_of 4 d) (all_of 4 d) y s) e
    ∙ ap (λ (x : Result ℕ). bind x (λ k q. bind (all_of 4 d v q) (λ n q'. ok (k + n) q'))) f
    ∙ ap (λ (x : Result ℕ). bind x (λ n q'. ok (m + n) q')) g

-- the first of a number of items, and what is behind it
record First (d k : ℕ) (s : List ℕ) (z : ℕ) (r : List ℕ) : Type 0 where
  one : ℕ
  others : ℕ
  behind : List ℕ
  first : one_of 4 d s ≡ ok one behind
  rest : all_of 4 d (counted k) behind ≡ ok others r
  sum : one + others ≡ z

first_of : (d k : ℕ) (s : List ℕ) {z : ℕ} {r : List ℕ} → all_of 4 d (counted (suc k)) s ≡ ok z r → First d k s z r
unfolding bind
first_of d k s {z} {r} e = by (one_of 4 d s) refl (sym (all_more 4 d k s) ∙ e)
  where
    next : (m : ℕ) (q : List ℕ) → one_of 4 d s ≡ ok m q → (res : Result ℕ) → all_of 4 d (counted k) q ≡ res → bind res (λ n r'. ok (m + n) r') ≡ ok z r → First d k s z r
    next m q f (ok n t) g h =
        let a : m + n ≡ z = cc in
        let b : t ≡ r = cc in
        record { one = m; others = n; behind = q; first = f; rest = g ∙ ap (ok n) b; sum = a }
    next m q f (refuse n l) g h = let o : ◌≡◌ {A = ℕ} 0 1 = cc in absurd (omega arith)

    by : (res : Result ℕ) → one_of 4 d s ≡ res → bind res (λ m r'. bind (all_of 4 d (counted k) r') (λ n r''. ok (m + n) r'')) ≡ ok z r → First d k s z r
    by (ok m q) f g = next m q f (all_of 4 d (counted k) q) refl g
    by (refuse n l) f g = let o : ◌≡◌ {A = ℕ} 0 1 = cc in absurd (omega arith)

-- the last of a number of items
pub record Last (d k : ℕ) (s r : List ℕ) : Type 0 where
  pub before : List ℕ
  pub size : ℕ
  pub own : ℕ
  pub front : all_of 4 d (counted k) s ≡ ok size before
  pub last : one_of 4 d before ≡ ok own r

pub last_of : (d k : ℕ) (s : List ℕ) {z : ℕ} {r : List ℕ} → all_of 4 d (counted (suc k)) s ≡ ok z r → Last d k s r
unfolding step_at
last_of d zero s {z} {r} e =
    let f = first_of d 0 s e in
    let n : ok 0 f.behind ≡ ok f.others r = sym (all_none 4 d f.behind) ∙ f.rest in
    let b : f.behind ≡ r = cc in
    record { before = s; size = 0; own = f.one; front = all_none 4 d s; last = f.first ∙ ap (ok f.one) b }
last_of d (suc k) s e =
    let f = first_of d (suc k) s e in
    let l = last_of d k f.behind f.rest in
    record { before = l.before; size = f.one + l.size; own = l.own; front = all-on d (counted (suc k)) (counted k) s refl f.first l.front; last = l.last }

-- A NUMBER OF ITEMS, AND THEN THE OTHERS

no-break : (d : ℕ) (s : List ℕ) {m : ℕ} {r : List ℕ} → one_of 4 d (255 ∷ s) ≡ ok m r → ⊥
unfolding one_of below map_result bind item item_with next_head major_of information_of head_by is_indefinite item_by
no-break zero s e = let o : ◌≡◌ {A = ℕ} 0 1 = cc in absurd (omega arith)
no-break (suc zero) s e = let o : ◌≡◌ {A = ℕ} 0 1 = cc in absurd (omega arith)
no-break (suc (suc d)) s e = let o : ◌≡◌ {A = ℕ} 0 1 = cc in absurd (omega arith)

no_none : (d : ℕ) {m : ℕ} {r : List ℕ} → one_of 4 d [] ≡ ok m r → ⊥
no_none d e = let l = rw e at (one-leaves 4 d []) in absurd (omega (arith, l.less))

pub not_ended : (d : ℕ) (s : List ℕ) {m : ℕ} {r : List ℕ} → one_of 4 d s ≡ ok m r → step_at ended s ≡ another ended
unfolding step_at
not_ended d [] e = absurd (no_none d e)
not_ended d (b ∷ s) e = refl

-- where an item stands they are not over, if that one and some more are asked for
goes : (d k : ℕ) (u : Until) (s r : List ℕ) {m : ℕ} {q : List ℕ} {v : Until} → one_of 4 d s ≡ ok m q → step_at (less_by (suc k) u) r ≡ another v → (w : Until) × (step_at u s ≡ another w) × (less_by (suc k) u ≡ less_by k w)
unfolding step_at less_by
goes d k (counted zero) s r {v = v} f e =
    let z : 0 - suc k ≡ 0 = omega arith in
    let g : finished r ≡ another v = sym (ap (λ (n : ℕ). step_at (counted n) r) z) ∙ e in
    let o : ◌≡◌ {A = ℕ} 0 1 = cc in
    absurd (omega arith)
goes d k (counted (suc n)) s r f e = let z : suc n - suc k ≡ n - k = omega arith in (counted n, refl, ap counted z)
goes d k broken [] r f e = (broken, refl, refl)
goes d k broken (b ∷ s) r {m} {q} f e = by (eqb b 255) refl
  where
    by : (t : Bool) → eqb b 255 ≡ t → (w : Until) × (elim t [ true ↦ finished s | false ↦ another broken ] ≡ another w) × (broken ≡ less_by k w)
    by true h = absurd (no-break d s (ap (λ (x : ℕ). one_of 4 d (x ∷ s)) (sym (eqb-true b 255 h)) ∙ f))
    by false h = (broken, refl, refl)
goes d k ended [] r f e = absurd (no_none d f)
goes d k ended (b ∷ s) r f e = (ended, refl, refl)

pub all_join : (d k : ℕ) (u : Until) (s : List ℕ) {z y : ℕ} {r t : List ℕ} {v : Until} → all_of 4 d (counted k) s ≡ ok z r → step_at (less_by k u) r ≡ another v → all_of 4 d (less_by k u) r ≡ ok y t → all_of 4 d u s ≡ ok (z + y) t
all_join d zero u s {z} {y} {r} {t} e st h =
    let f : ok 0 s ≡ ok z r = sym (all_none 4 d s) ∙ e in
    let a : 0 ≡ z = cc in
    let b : s ≡ r = cc in
    let n : y ≡ z + y = omega arith in
    (λ j. all_of 4 d (sym (less_none u) j) (b j)) ∙ h ∙ ap (λ (x : ℕ). ok x t) n
all_join d (suc k) u s {z} {y} {r} {t} {v} e st h =
    let f = first_of d k s e in
    let g = goes d k u s r f.first st in
    let i = all_join d k g.0 f.behind f.rest (ap (λ (x : Until). step_at x r) (sym g.2) ∙ st) (ap (λ (x : Until). all_of 4 d x r) (sym g.2) ∙ h) in
    let n : f.one + (f.others + y) ≡ z + y = omega (arith, f.sum) in
    all-on d u g.0 s g.1 f.first i ∙ ap (λ (x : ℕ). ok x t) n

-- MORE LEVELS

one_raised : (d : ℕ) (s : List ℕ) {m : ℕ} {r : List ℕ} → Bytes s → d ≤ 16 → one_of 4 (suc d) s ≡ ok m r → (one_of 4 17 s ≡ ok m r) × Bytes r
unfolding one_of below map_result
one_raised d s {m} {r} b l e = by (item d s) (item_well d s b) e
  where
    by : (res : Result Item) → WellRead encode (λ x. Valid x × (levels x ≤ d)) s res → map_result contents res ≡ ok m r → (map_result contents (item 16 s) ≡ ok m r) × Bytes r
    by (ok x t) w f =
        let c : t ≡ r = cc in
        (ap (map_result contents) (ap (item 16) w.is ∙ item_of_encode x 16 t w.good.0 (omega (arith, w.good.1))) ∙ f, rw (← c) w.rest)
    by (refuse n q) w f = let o : ◌≡◌ {A = ℕ} 0 1 = cc in absurd (omega arith)

pub all_raised : (d k : ℕ) (s : List ℕ) {z : ℕ} {r : List ℕ} → Bytes s → d ≤ 16 → all_of 4 (suc d) (counted k) s ≡ ok z r → all_of 4 17 (counted k) s ≡ ok z r
unfolding step_at
all_raised d zero s b l e = all_none 4 17 s ∙ sym (all_none 4 (suc d) s) ∙ e
all_raised d (suc k) s {z} {r} b l e =
    let f = first_of (suc d) k s e in
    let o = one_raised d s b l f.first in
    all-on 17 (counted (suc k)) (counted k) s refl o.0 (all_raised d k f.behind o.1 l f.rest) ∙ ap (λ (x : ℕ). ok x r) f.sum

-- INSIDE AN ITEM

major-is : (a m : Major) → major_number a ≡ major_number m → a ≡ m
major-is a m f = sym (major-back a) ∙ ap major_of f ∙ major-back m

module _ (d : ℕ) (s : List ℕ) (h : Head) (r : List ℕ) (e : next_head s ≡ ok h r) {z : ℕ} {t : List ℕ} where
  pub array-one : major_number h.major ≡ 4 → all_of 4 (suc d) (extent h.size h.argument) r ≡ ok z t → one_of 4 (suc (suc d)) s ≡ ok z t
  unfolding one_of below all_of item_by contents major_number
  array-one f g =
      ap (map_result contents) (by-head (suc d) s h r e ∙ ap (λ (m : Major). item_by (enter_at (suc d)) m h.size h.argument (length s) r) (major-is h.major arrays f))
      ∙ sized-made contents contents_all (array h.size) (λ xs. refl) (elements (item d) (extent h.size h.argument) r)
      ∙ elements-sized (item d) (extent h.size h.argument) r
      ∙ g

  pub map-one : major_number h.major ≡ 5 → all_of 5 (suc d) (extent h.size h.argument) r ≡ ok z t → one_of 4 (suc (suc d)) s ≡ ok z t
  unfolding one_of below all_of item_by contents major_number
  map-one f g =
      ap (map_result contents) (by-head (suc d) s h r e ∙ ap (λ (m : Major). item_by (enter_at (suc d)) m h.size h.argument (length s) r) (major-is h.major maps f))
      ∙ sized-made contents contents_all₂ (map h.size) (λ xs. refl) (entries (item d) (extent h.size h.argument) r)
      ∙ entries-sized (item d) (extent h.size h.argument) r
      ∙ g
