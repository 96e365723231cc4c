-- Leaves: each is the item that the definitions read, and the walk goes on behind it.
-- Assumes nothing.
use Prim.Native.Nat.{ℕ, suc, ◌+◌, ◌-◌, ◌*◌, ◌/◌, ◌%◌, ◌^◌, ◌≤◌, ◌<◌, min}
use native.Mathlib.Omega.{arith}
use mathlib.Core.Path.{◌≡◌, refl, sym, ap, ◌∙◌}
use mathlib.Core.Bool.{Bool, true, false, not}
use mathlib.Core.List.{List}
use lib.Dec.{ltb, eqb}
use lib.ListN.{length, take, drop, get_or, length-drop, length-take}
use lib.Seq.{get_or-take, get_or-drop}
use borrow.Author.Tests.{ltb-true, eqb-true, eq-eqb, ne_eqb, lt-leb}
use Rattle.cbor.specs.Valid.{is_text}
use Rattle.cbor.specs.Flags.{kind_of}
use Rattle.cbor.specs.Decode.{Until}
use Rattle.head.specs.HeadAnswers.{argument_size, argument_at, Widened, HeadEnd}
use Rattle.head.proofs.HeadCode.{size_none, size-most, argument-low, ends_plain}
use Rattle.utf8.proofs.Runs.{ascii-good}
use Rattle.walk_answer.specs.WalkAnswers.{passed, pass_told, told_of, one_of, until_by, Turned, after_told}
use Rattle.quick_leaf.specs.WalkLeaves.{leaf_content, leaf_size, is_leaf, LeafSize, LeafContent, LeafAt, Right}
use Rattle.walk_parts.proofs.StringCode.{text-yes, text-no, content-good}
use Rattle.walk_answer.proofs.WalkCycle.{tail_is, one-item, Run, run_on}
use Rattle.walk_parts.proofs.WalkItems.{behind-string, one_headed, one-leaf, one-simple}
use Rattle.std.specs.Prelude.{Ok, Some}
use Rattle.walk_answer.proofs.Turns.{over-count, over-break, over-end}
use Rattle.walk_answer.specs.declared.Mode.{Mode}
use Rattle.walk_answer.specs.declared.Mode.TheVariants.{Counted, Broken, Ended}

-- what a leaf is
data Kind (b : ℕ) : Type 0 where
  number : b / 64 ≡ 0 → b % 32 < 28 → Kind b
  string : b / 64 ≡ 1 → b % 32 < 24 → Kind b
  simple : b / 32 ≡ 7 → b % 32 < 24 → Kind b

kind : (b : ℕ) → is_leaf b ≡ true → Kind b
unfolding is_leaf
kind b e = first (eqb (b / 64) 0) refl e
  where
    third : (t : Bool) → eqb (b / 64) 1 ≡ t → b % 32 < 24 → elim t [ true ↦ true | false ↦ eqb (b / 32) 7 ] ≡ true → Kind b
    third true f l e = string (eqb-true (b / 64) 1 f) l
    third false f l e = simple (eqb-true (b / 32) 7 e) l

    second : (t : Bool) → ltb (b % 32) 24 ≡ t → elim t [ true ↦ elim (eqb (b / 64) 1) [ true ↦ true | false ↦ eqb (b / 32) 7 ] | false ↦ false ] ≡ true → Kind b
    second true f e = third (eqb (b / 64) 1) refl (ltb-true (b % 32) 24 f) e
    second false f e = let z : ◌≡◌ {A = ℕ} 0 1 = cc in absurd (omega arith)

    first : (t : Bool) → eqb (b / 64) 0 ≡ t → elim t [ true ↦ ltb (b % 32) 28 | false ↦ elim (ltb (b % 32) 24) [ true ↦ elim (eqb (b / 64) 1) [ true ↦ true | false ↦ eqb (b / 32) 7 ] | false ↦ false ] ] ≡ true → Kind b
    first true f e = number (eqb-true (b / 64) 0 f) (ltb-true (b % 32) 28 e)
    first false f e = second (ltb (b % 32) 24) refl e

pub short_none : (i : ℕ) → i < 24 → 0 ≡ argument_size i
short_none i h = size_none i (omega arith) (omega arith) (omega arith) (omega arith)

content-none : (b : ℕ) → (b / 64 ≡ 1 → ⊥) → leaf_content b ≡ 0
unfolding leaf_content
content-none b h = rw (ne_eqb (b / 64) 1 h, leaf_content)

content-some : (b : ℕ) → b / 64 ≡ 1 → leaf_content b ≡ b % 32
unfolding leaf_content
content-some b h = rw (eq-eqb (b / 64) 1 h, leaf_content)

-- the item at the front of the bytes s, n bytes of it
module _ (d : ℕ) (s : List ℕ) (n : ℕ) (room : 33 ≤ length s) (sz : n ≡ leaf_size (get_or s 0 0)) (byte : get_or s 0 0 < 256) (text : get_or s 0 0 / 32 ≡ 3 → (j : ℕ) → 0 < j → j < n → get_or s j 0 < 0x80) where
  told : Kind (get_or s 0 0) → passed n (leaf_content (get_or s 0 0)) ≡ told_of (length s) (one_of 4 (suc d) s)
  unfolding leaf_size
  told (number z l) =
      let a = size-most (get_or s 0 0 % 32) in
      let c = content-none (get_or s 0 0) (omega arith) in
      let he = ends_plain {s = s} {at = 0} byte l (omega arith) (omega arith) in
      let e : n ≡ 0 + 1 + argument_size (get_or s 0 0 % 32) = omega arith in
      one-leaf he refl d (omega arith) (λ j. passed (e j) (c j))
  told (simple z l) =
      let a = short_none (get_or s 0 0 % 32) l in
      let c = content-none (get_or s 0 0) (omega arith) in
      let he = ends_plain {s = s} {at = 0} byte (omega arith) (λ m. l) (omega arith) in
      let e : n ≡ 0 + 1 + argument_size (get_or s 0 0 % 32) = omega arith in
      one-simple he refl d z (omega arith) (λ j. passed (e j) (c j))
  told (string z l) =
      let a = short_none (get_or s 0 0 % 32) l in
      let c = content-some (get_or s 0 0) z in
      let k = get_or s 0 0 % 32 in
      let he : HeadEnd s 0 (Some 1) = let q : 0 + 1 + argument_size (get_or s 0 0 % 32) ≡ 1 = omega arith in rw q at (ends_plain {s = s} {at = 0} byte (omega arith) (λ m. l) (omega arith)) in
      let w : Widened k k = record { is = refl; byte = omega arith } in
      let g : k ≡ argument_at s 0 = argument-low s 0 {t = true} (record { is = λ e. l; byte = byte }) refl w in
      let e : n ≡ 1 + k = omega arith in
      let f : leaf_content (get_or s 0 0) ≡ 1 + k - 1 = omega arith in
      one-item (length s) d s (behind-string (one_headed he refl g) d (omega arith) (omega arith) (omega arith)
      (content-good {s = s} k (eqb (get_or s 0 0 / 32) 3) (record { inside = omega arith }) (omega arith) (right (eqb (get_or s 0 0 / 32) 3) refl) refl (λ j. passed (e j) (f j))))
    where
      low : (j : ℕ) → j < get_or s 0 0 % 32 → get_or s 0 0 / 32 ≡ 3 → get_or (take (1 + get_or s 0 0 % 32 - 1) (drop 1 s)) j 0 < 0x80
      low j h m =
          let q : j < 1 + get_or s 0 0 % 32 - 1 = omega arith in
          rw (get_or-take (1 + get_or s 0 0 % 32 - 1) (drop 1 s) j 0 q, get_or-drop 1 s j 0) (text m (1 + j) (omega arith) (omega (arith, sz, content-some (get_or s 0 0) (omega arith))))

      right : (t : Bool) → eqb (get_or s 0 0 / 32) 3 ≡ t → true ≡ is_text (kind_of t) (take (1 + get_or s 0 0 % 32 - 1) (drop 1 s))
      right true i =
          let u = take (1 + get_or s 0 0 % 32 - 1) (drop 1 s) in
          let p : length u ≡ get_or s 0 0 % 32 = omega (arith, length-take (1 + get_or s 0 0 % 32 - 1) (drop 1 s), length-drop 1 s) in
          sym (eq-eqb (length u) (length u) refl) ∙ text-yes u true refl (ascii-good u (λ j h. low j (omega arith) (eqb-true (get_or s 0 0 / 32) 3 i)))
      right false i = text-no (take (1 + get_or s 0 0 % 32 - 1) (drop 1 s)) false refl

-- THE WALK

-- where they are not counted, any number says how many go on
pub not_counted : (mode : Mode) (m n : ℕ) → (mode ≡ Counted → ⊥) → until_by mode m ≡ until_by mode n
unfolding until_by
not_counted Counted m n h = absurd (h refl)
not_counted Broken m n h = refl
not_counted Ended m n h = refl

module _ {s : List ℕ} {at n : ℕ} (la : LeafAt s at n) {v : Bool} (ri : Right s at n v) (y : v ≡ true) where
  size : LeafSize (get_or s at 0) n
  size = la.is (ri.small y)

  its-kind : Kind (get_or s at 0)
  its-kind = kind (get_or s at 0) (size.leaf (ri.small y))

  -- it has a byte, and no more than the block
  extent : (0 < n) × (n < 33)
  unfolding leaf_size
  extent = by its-kind
    where
      by : Kind (get_or s at 0) → (0 < n) × (n < 33)
      by (number z l) = let a = size-most (get_or s at 0 % 32) in (omega (arith, size.is (ri.small y)), omega (arith, size.is (ri.small y), content-none (get_or s at 0) (omega arith)))
      by (string z l) = let a = short_none (get_or s at 0 % 32) l in (omega (arith, size.is (ri.small y)), omega (arith, size.is (ri.small y), content-some (get_or s at 0) z))
      by (simple z l) = let a = short_none (get_or s at 0 % 32) l in (omega (arith, size.is (ri.small y)), omega (arith, size.is (ri.small y), content-none (get_or s at 0) (omega arith)))

  -- it is no break
  no_break : get_or s at 0 ≡ 0xff → ⊥
  no_break e = by its-kind
    where
      by : Kind (get_or s at 0) → ⊥
      by (number z l) = absurd (omega arith)
      by (string z l) = absurd (omega arith)
      by (simple z l) = absurd (omega arith)

  pub leaf-inside : at < length s
  leaf-inside = omega (arith, ri.inside y)

  pub leaf-end : at + n ≤ length s
  leaf-end = omega (arith, ri.inside y, extent.1)

  pub leaf_less : length s - (at + n) < length s - at
  leaf_less = omega (arith, leaf-end, extent.0)

  leaf-told : (d : ℕ) → passed n (leaf_content (get_or s at 0)) ≡ told_of (length (drop at s)) (one_of 4 (suc d) (drop at s))
  leaf-told d =
      let z : at + 0 ≡ at = omega arith in
      let b : get_or (drop at s) 0 0 ≡ get_or s at 0 = get_or-drop at s 0 0 ∙ ap (λ (k : ℕ). get_or s k 0) z in
      let q = told d (drop at s) n (omega (arith, length-drop at s, ri.inside y)) (size.is (ri.small y) ∙ ap leaf_size (sym b)) (rw (← b) at size.byte)
      (λ m j p h. rw (get_or-drop at s j 0) (ri.text y (ap (λ (k : ℕ). k / 32) (sym b) ∙ m) j p (omega (arith, extent.1)) h)) (kind (get_or (drop at s) 0 0) (ap is_leaf b ∙ size.leaf (ri.small y))) in
      ap (λ (k : ℕ). passed n (leaf_content k)) (sym b) ∙ q

  pub leaf_add : {d : ℕ} {first u : Until} {all c : ℕ} → Run 4 d s first at all u → length s * 1 < 2 ^ 63 → LeafContent (get_or s at 0) c → all + c < 2 ^ 64
  leaf_add run long c = omega (arith, run.small, c.small, leaf-inside)

  module _ {d : ℕ} {first : Until} {all : ℕ} {mode : Mode} {k : ℕ} (run : Run 4 (suc d) s first at all (until_by mode k)) (long : length s * 1 < 2 ^ 63) where
    module _ {t : Bool} (tu : Turned s at mode k t) (o : not t ≡ true) {c : ℕ} (lc : LeafContent (get_or s at 0) c) where
      pub leaf-on : {m : ℕ} → m ≡ k - 1 → Run 4 (suc d) s first (at + n) (all + c) (until_by mode m)
      unfolding pass_told after_told
      leaf-on {m} e =
          let p : at + n ≡ min (at + n) (2 ^ 64 - 1) = omega (arith, leaf-end) in
          let q : all + c ≡ min (all + c) (2 ^ 64 - 1) = omega (arith, leaf_add run long lc) in
          run_on run tu o (Ok (record { end = n; size = c })) long
          (ap (passed n) lc.is ∙ leaf-told d ∙ sym (ap (λ (x : List ℕ). told_of (length x) (one_of 4 (suc d) x)) (tail_is s at)))
          (Ok (record { end = at + n; size = all + c })) (λ j. passed (p j) (q j)) refl e

-- a byte of the rest of the bytes s
rest_byte : (s : List ℕ) (at j : ℕ) → at + j < length s → get_or (take (length s - at) (drop at s)) j 0 ≡ get_or s (at + j) 0
rest_byte s at j h = let q : j < length s - at = omega arith in get_or-take (length s - at) (drop at s) j 0 q ∙ get_or-drop at s j 0

rest_front : (s : List ℕ) (at : ℕ) → at < length s → get_or (take (length s - at) (drop at s)) 0 0 ≡ get_or s at 0
rest_front s at h = let z : at + 0 ≡ at = omega arith in rest_byte s at 0 (omega arith) ∙ ap (λ (i : ℕ). get_or s i 0) z

-- where there is a byte that is no break, and some are left, they go on
pub going : {s : List ℕ} {at k : ℕ} (mode : Mode) → 0 < k → 0 < length (take (length s - at) (drop at s)) → (get_or (take (length s - at) (drop at s)) 0 0 ≡ 0xff → ⊥) → Turned s at mode k false
going {s} {at} {k} mode more some other = by mode
  where
    inside : at < length s
    inside = omega (arith, some, length-take (length s - at) (drop at s), length-drop at s)

    by : (mode : Mode) → Turned s at mode k false
    by Counted = rw (ne_eqb k 0 (omega arith)) at (over-count {s = s} {at = at} {n = k} refl)
    by Broken = rw (ne_eqb (get_or s at 0) 0xff (λ e. other (rest_front s at inside ∙ e))) at (over-break {s = s} {at = at} {n = k} refl inside)
    by Ended = rw (lt-leb (length s) at inside) at (over-end {s = s} {at = at} {n = k} refl)

-- the item at a place of the bytes s, before which others were walked over, as it stands at the front of the rest of them
module _ {d : ℕ} {s : List ℕ} {first : Until} {at all : ℕ} (mode : Mode) (k : ℕ) (run : Run 4 (suc d) s first at all (until_by mode k)) (long : length s * 1 < 2 ^ 63) {n : ℕ} (la : LeafAt (take (length s - at) (drop at s)) 0 n) {v : Bool} (ri : Right (take (length s - at) (drop at s)) 0 n v) (y : v ≡ true) where
  room : at + 33 ≤ length s
  room = omega (arith, ri.inside y, length-take (length s - at) (drop at s), length-drop at s)

  front : get_or (take (length s - at) (drop at s)) 0 0 ≡ get_or s at 0
  front = rest_front s at (omega (arith, room))

  leaf-there : LeafAt s at n
  leaf-there = record { is = λ h. rw (← front) (la.is h) }

  right-there : Right s at n v
  right-there =
      record {
        small = ri.small;
        inside = λ e. room;
        text = λ e m j p h i. let z : 0 + j ≡ j = omega arith in rw (← rest_byte s at j (omega (arith, room))) (rw z at (ri.text e (rw front m) j p h i));
      }

  pub rest-end : at + n ≤ length s
  rest-end = leaf-end leaf-there right-there y

  pub rest_less : length s - (at + n) < length s - at
  rest_less = leaf_less leaf-there right-there y

  module _ {c : ℕ} (lc : LeafContent (get_or (take (length s - at) (drop at s)) 0 0) c) where
    content-there : LeafContent (get_or s at 0) c
    content-there = rw front at lc

    pub rest_add : all + c < 2 ^ 64
    rest_add = leaf_add leaf-there right-there y run long content-there

    pub rest-on : 0 < k → {m : ℕ} → m ≡ k - 1 → Run 4 (suc d) s first (at + n) (all + c) (until_by mode m)
    rest-on more e = leaf-on leaf-there right-there y run long (going mode more (leaf-inside la ri y) (no_break la ri y)) refl content-there e
