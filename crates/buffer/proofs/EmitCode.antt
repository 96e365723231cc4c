-- Writing into a buffer: what the code knows at each return and each turn of a loop.
-- Assumes nothing.
use mathlib.Core.Path.{◌≡◌, refl, sym, ap, ◌∙◌}
use mathlib.Core.List.{List, [], ◌∷◌, ◌++◌, append_assoc}
use mathlib.Core.Bool.{Bool, true, false}
use Prim.Native.Nat.{ℕ, suc, ◌+◌, ◌-◌, ◌*◌, ◌%◌, ◌^◌, ◌≤◌, ◌<◌, max}
use native.Mathlib.Numerals.{add-one}
use native.Mathlib.Nat.{add-zero}
use native.Mathlib.Omega.{arith}
use lib.Dec.{leb}
use lib.ListN.{length, take, drop, set, get_or, replicate, length-replicate}
use lib.Seq.{take-suc, take_all, drop-cons, drop-drop, length-take-le}
use borrow.Rule.Slice.PartMut.{put_mid}
use Rattle.std.specs.List.{copy_within}
use mir.Syntax.{w64 as bits64}
use mir.Val.{Fits}
use borrow.Author.Tests.{leb-true, leb-false}
use Rattle.memory.specs.Buffer.{over, over_if_fits, if_fits, moved_up, moved_down, moved, head_put, copied}
use Rattle.head.specs.HeadAnswers.{argument_size, head_bytes}
use Rattle.head.proofs.HeadCode.{size-most, length-head_bytes}
use Rattle.memory.proofs.Buffer.{over_nil, over-set, over_snoc, over-before, over_keep, get_d_front, get_d_behind, length_part, written-fits, written_not, written_one, fitting-yes, fitting-no, fitting_both, length-moved_up, copied-yes, copied-no, closed-over}

pub put_not : (b : List ℕ) (p v : ℕ) → length b ≤ p → b ≡ over_if_fits b p (v ∷ [])
put_not b p v h = sym (written_not b p (v ∷ []) (omega arith))

pub ruleset put_ways = (written_one, put_not)

-- what the test says, whether it fits
module _ {n end : ℕ} {t : Bool} (e : t ≡ leb n end) where
  fit : t ≡ true → n ≤ end
  fit h = leb-true n end (sym e ∙ h)

  unfit : t ≡ false → end < n
  unfit h = leb-false n end (sym e ∙ h)

-- WITH A METHOD OF SLICES

-- a part of the buffer in whose place something else stands
put_over : (b : List ℕ) (p k : ℕ) {l : List ℕ} (ws : List ℕ) → l ≡ ws → length ws ≡ k → put_mid p k b l ≡ over b p ws
unfolding over
put_over b p k ws q n = rw (q, n) (ap (λ (x : List ℕ). take p b ++ (ws ++ x)) (drop-drop k p b))

-- bytes of the buffer that are copied to another place
pub within_over : (b : List ℕ) (from to size : ℕ) → from + size ≤ length b → copy_within b from (from + size) to ≡ over b to (take size (drop from b))
unfolding over
within_over b from to size h =
    let z : from + size - from ≡ size = omega arith in
    let n = length_part b from size h in
    rw (z, n) (append_assoc (take to b) (take size (drop from b)) (drop (to + size) b))

-- UP

-- The bytes of b from `from` on, size of them, are moved up by some places, from the last one down to the one at i.
pub record Raising (b : List ℕ) (from by size i : ℕ) (l : List ℕ) : Type 0 where
  pub least : from ≤ i
  pub most : i ≤ from + size
  pub room : from + by + size ≤ length b
  pub is : l ≡ over b (i + by) (take (from + size - i) (drop i b))

-- the byte at i is moved, those above it have moved
raise_one : (b l : List ℕ) (i by m : ℕ) → i + by < length b → l ≡ over b (i + by + 1) (take m (drop (i + 1) b)) → set l (i + by) (get_or l i 0) ≡ over b (i + by) (take (suc m) (drop i b))
raise_one b l i by m h e =
    let ws : List ℕ = take m (drop (i + 1) b) in
    let f : i + by + 1 ≤ length b = omega arith in
    let lt : i < i + by + 1 = omega arith in
    let lb : i < length b = omega arith in
    let v : get_or l i 0 ≡ get_or b i 0 = ap (λ (x : List ℕ). get_or x i 0) e ∙ get_d_front b (i + by + 1) ws f i lt in
    let d : drop i b ≡ get_or b i 0 ∷ drop (i + 1) b = rw (add-one, drop-cons b i 0 lb) in
    ap (λ (x : List ℕ). set x (i + by) (get_or l i 0)) e
    ∙ over-set b (i + by) (get_or l i 0) ws h
    ∙ ap (λ (x : ℕ). over b (i + by) (x ∷ ws)) v
    ∙ ap (λ (x : List ℕ). over b (i + by) (take (suc m) x)) (sym d)

module _ (b : List ℕ) (from by size : ℕ) where
  pub raise_start : {t : Bool} → t ≡ leb (from + by + size) (length b) → t ≡ true → Raising b from by size (from + size) b
  raise_start e h =
      let z : from + size - (from + size) ≡ 0 = omega arith in
      record {
        least = omega arith;
        most = omega arith;
        room = fit e h;
        is = sym (ap (λ (x : ℕ). over b (from + size + by) (take x (drop (from + size) b))) z ∙ over_nil b (from + size + by));
      }

  pub raise_step : {i : ℕ} {l : List ℕ} → Raising b from by size i l → from < i → Raising b from by size (i - 1) (set l (i - 1 + by) (get_or l (i - 1) 0))
  raise_step {i} {l} inv h =
      let m : ℕ = from + size - i in
      let e₁ : i ≡ i - 1 + 1 = omega arith in
      let e₂ : i + by ≡ i - 1 + by + 1 = omega arith in
      let e₃ : suc m ≡ from + size - (i - 1) = omega (arith, inv.most) in
      let lt : i - 1 + by < length b = omega (arith, inv.room, inv.most) in
      let e : l ≡ over b (i - 1 + by + 1) (take m (drop (i - 1 + 1) b))
      = inv.is ∙ ap (λ (x : ℕ). over b x (take m (drop i b))) e₂ ∙ ap (λ (x : ℕ). over b (i - 1 + by + 1) (take m (drop x b))) e₁ in
      record {
        least = omega arith;
        most = omega (arith, inv.most);
        room = inv.room;
        is = raise_one b l (i - 1) by m lt e ∙ ap (λ (x : ℕ). over b (i - 1 + by) (take x (drop (i - 1) b))) e₃;
      }

  raised : {l : List ℕ} → from + by + size ≤ length b → l ≡ over b (from + by) (take size (drop from b)) → l ≡ moved_up b from by size
  unfolding moved_up
  raised f q = q ∙ sym (fitting-yes (from + by + size) b (over b (from + by) (take size (drop from b))) f)

  pub raise_end : {i : ℕ} {l : List ℕ} → Raising b from by size i l → i ≤ from → l ≡ moved_up b from by size
  raise_end {i} inv h =
      let e : i ≡ from = omega (arith, inv.least) in
      let z : from + size - from ≡ size = omega arith in
      raised inv.room
      (inv.is ∙ ap (λ (x : ℕ). over b (x + by) (take (from + size - x) (drop x b))) e ∙ ap (λ (x : ℕ). over b (from + by) (take x (drop from b))) z)

  pub raise_far : {t : Bool} {l : List ℕ} → t ≡ leb (from + by + size) (length b) → t ≡ true → l ≡ copy_within b from (from + size) (from + by) → l ≡ moved_up b from by size
  raise_far e h q = let f = fit e h in raised f (q ∙ within_over b from (from + by) size (omega arith))

  pub raise_not : {t : Bool} → t ≡ leb (from + by + size) (length b) → t ≡ false → b ≡ moved_up b from by size
  unfolding moved_up
  raise_not e h = sym (fitting-no (from + by + size) b (over b (from + by) (take size (drop from b))) (unfit e h))

  -- by which distance
  pub raise_by : {l : List ℕ} {n : ℕ} → by ≡ n → l ≡ moved_up b from n size → l ≡ moved_up b from by size
  raise_by {l} e q = q ∙ ap (λ (x : ℕ). moved_up b from x size) (sym e)

  by-nothing : b ≡ moved_up b from 0 size
  unfolding moved_up
  by-nothing =
      fitting_both (from + 0 + size) b (over b (from + 0) (take size (drop from b))) (λ (x : List ℕ). b ≡ x)
      (λ f. let g : from + size ≤ length b = omega arith in rw add-zero (sym (over_keep b from size g))) refl

  pub raise_none : by ≡ 0 → b ≡ moved_up b from by size
  raise_none e = raise_by e by-nothing

pub ruleset raise_ways = (raise_end, raise_far, raise_not)

-- DOWN

module _ (b : List ℕ) (to by size : ℕ) {t : Bool} (e : t ≡ leb (to + by + size) (length b)) where
  pub lower_is : {l : List ℕ} → t ≡ true → l ≡ copy_within b (to + by) (to + by + size) to → l ≡ moved_down b to by size
  unfolding moved_down
  lower_is h q = let f = fit e h in q ∙ within_over b (to + by) to size f ∙ sym (fitting-yes (to + by + size) b (over b to (take size (drop (to + by) b))) f)

  pub lower_not : t ≡ false → b ≡ moved_down b to by size
  unfolding moved_down
  lower_not h = sym (fitting-no (to + by + size) b (over b to (take size (drop (to + by) b))) (unfit e h))

pub ruleset lower_ways = (lower_is, lower_not)

-- FROM ONE BUFFER TO ANOTHER

-- of the bytes ws, i are written, from pos on
pub record Copying (ws b : List ℕ) (pos i : ℕ) (l : List ℕ) : Type 0 where
  pub room : pos + length ws ≤ length b
  pub is : l ≡ over b pos (take i ws)

module _ {ws b : List ℕ} {pos i : ℕ} {l : List ℕ} (inv : Copying ws b pos i l) where
  pub copy_step : i < length ws → Copying ws b pos (i + 1) (set l (pos + i) (get_or ws i 0))
  copy_step h =
      let n : length (take i ws) ≡ i = length-take-le i ws (omega arith) in
      let lt : pos + length (take i ws) < length b = rw n (omega (arith, inv.room)) in
      let e : take i ws ++ (get_or ws i 0 ∷ []) ≡ take (i + 1) ws = rw (add-one, take-suc ws i 0 h) in
      record {
        room = inv.room;
        is = ap (λ (x : List ℕ). set x (pos + i) (get_or ws i 0)) inv.is ∙ ap (λ (x : ℕ). set (over b pos (take i ws)) (pos + x) (get_or ws i 0)) (sym n)
            ∙ over_snoc b pos (get_or ws i 0) (take i ws) lt ∙ ap (over b pos) e;
      }

module _ (s b : List ℕ) (pos n : ℕ) where
  pub copy_start : {t : Bool} → t ≡ leb (pos + 0 + n) (length b) → t ≡ true → n ≤ length s → Copying (take n s) b pos 0 b
  copy_start e g h = let u = fit e g in record { room = rw (length-take-le n s h) (omega arith); is = sym (over_nil b pos) }

  pub copy_end : {i : ℕ} {l : List ℕ} → Copying (take n s) b pos i l → n ≤ length s → length (take n s) ≤ i → l ≡ copied b pos s n
  copy_end {i} inv g h = inv.is ∙ ap (over b pos) (take_all i (take n s) h) ∙ sym (copied-yes b pos s n g ∙ written-fits b pos (take n s) inv.room)

  pub copy_long : length s < n → b ≡ copied b pos s n
  copy_long h = sym (copied-no b pos s n h)

  pub copy_not : {t : Bool} → t ≡ leb (pos + 0 + n) (length b) → t ≡ false → b ≡ copied b pos s n
  copy_not e h =
      let u : length b < pos + 0 + n = unfit e h in
      go u (leb n (length s)) refl
    where
      go : length b < pos + 0 + n → (t : Bool) → leb n (length s) ≡ t → b ≡ copied b pos s n
      go u true q =
          let g : n ≤ length s = leb-true n (length s) q in
          let f : length b < pos + length (take n s) = rw (length-take-le n s g) (omega arith) in
          sym (copied-yes b pos s n g ∙ written_not b pos (take n s) f)
      go u false q = copy_long (leb-false n (length s) q)

-- zero bytes
module _ (b : List ℕ) (from size : ℕ) {t : Bool} (e : t ≡ leb (from + 0 + size) (length b)) where
  as_many : length {A = ℕ} (replicate size 0) ≡ size
  as_many = length-replicate size 0

  pub zero_is : {l : List ℕ} → t ≡ true → l ≡ replicate (length (take (from + size - from) (drop from b))) 0 → put_mid from (from + size - from) b l ≡ over_if_fits b from (replicate size 0)
  zero_is h q =
      let u = fit e h in
      let z : from + size - from ≡ size = omega arith in
      let k : length (take (from + size - from) (drop from b)) ≡ size = ap (λ (x : ℕ). length (take x (drop from b))) z ∙ length_part b from size (omega arith) in
      let f : from + length {A = ℕ} (replicate size 0) ≤ length b = rw as_many (omega arith) in
      put_over b from (from + size - from) (replicate size 0) (q ∙ ap (λ (x : ℕ). replicate x 0) k) (as_many ∙ sym z) ∙ sym (written-fits b from (replicate size 0) f)

  pub zero_not : t ≡ false → b ≡ over_if_fits b from (replicate size 0)
  zero_not h =
      let u = unfit e h in
      let f : length b < from + length {A = ℕ} (replicate size 0) = rw as_many (omega arith) in
      sym (written_not b from (replicate size 0) f)

-- FROM ONE PLACE TO ANOTHER

pub part_none : (b : List ℕ) (from to size : ℕ) → size ≡ 0 → b ≡ moved b from to size
unfolding moved if_fits
part_none b from to size e = rw e (go (leb (max from to + 0) (length b)))
  where
    go : (t : Bool) → b ≡ elim t [ true ↦ over b to (take 0 (drop from b)) | false ↦ b ]
    go true = sym (over_nil b to)
    go false = refl

module _ (b : List ℕ) {l : List ℕ} (from to size : ℕ) where
  pub part_up : from ≤ to → l ≡ moved_up b from (to - from) size → l ≡ moved b from to size
  unfolding moved_up moved
  part_up h q =
      let e : from + (to - from) ≡ to = omega arith in
      let m : to ≡ max from to = omega arith in
      q ∙ ap (λ (x : ℕ). if_fits (x + size) b (over b x (take size (drop from b)))) e ∙ ap (λ (x : ℕ). if_fits (x + size) b (over b to (take size (drop from b)))) m

  pub part_down : to < from → l ≡ moved_down b to (from - to) size → l ≡ moved b from to size
  unfolding moved_down moved
  part_down h q =
      let e : to + (from - to) ≡ from = omega arith in
      let m : from ≡ max from to = omega arith in
      q ∙ ap (λ (x : ℕ). if_fits (x + size) b (over b to (take size (drop x b)))) e ∙ ap (λ (x : ℕ). if_fits (x + size) b (over b to (take size (drop from b)))) m

-- A HEAD IN FRONT

pub close_count : (i by : ℕ) → by ≡ argument_size i → Fits bits64 (by + 1)
close_count i by e = record { fits = omega (arith, size-most i) }

pub close_place : (b : List ℕ) (pos by size : ℕ) {t : Bool} → t ≡ leb (pos + (by + 1) + size) (length b) → t ≡ true → length b * 1 < 2 ^ 63 → Fits bits64 (pos + 1)
close_place b pos by size e h lim = let u : pos + (by + 1) + size ≤ length b = fit e h in record { fits = omega arith }

module _ (b : List ℕ) (pos i n size : ℕ) {by : ℕ} {t : Bool} (s : by ≡ argument_size (i % 32)) (e : t ≡ leb (pos + (by + 1) + size) (length b)) where
  pub close_not : t ≡ false → b ≡ head_put b pos (head_bytes i n) size
  unfolding head_put
  close_not h =
      let u : length b < pos + (by + 1) + size = unfit e h in
      sym (fitting-no (pos + length (head_bytes i n) + size) b (over b pos (head_bytes i n ++ take size (drop (pos + 1) b))) (omega (arith, length-head_bytes i n)))

  pub close_done : {l r : List ℕ} → t ≡ true → l ≡ moved_up b (pos + 1) by size → r ≡ over_if_fits l pos (head_bytes i n) → r ≡ head_put b pos (head_bytes i n) size
  unfolding head_put moved_up
  close_done {l} {r} h p q =
      let hs : List ℕ = head_bytes i n in
      let ws : List ℕ = take size (drop (pos + 1) b) in
      let u : pos + (by + 1) + size ≤ length b = fit e h in
      let k : length hs ≡ suc by = length-head_bytes i n ∙ ap suc (sym s) in
      let f : pos + 1 + by + size ≤ length b = omega arith in
      let g : pos + length hs ≤ length b = omega arith in
      let m : length l ≡ length b = ap length p ∙ length-moved_up b (pos + 1) by size in
      let w : pos + length hs ≤ length l = omega arith in
      let a : pos + 1 + by ≡ pos + length hs = omega arith in
      let z : pos + length hs + size ≤ length b = omega arith in
      let d : l ≡ over b (pos + length hs) ws
      = p ∙ fitting-yes (pos + 1 + by + size) b (over b (pos + 1 + by) ws) f ∙ ap (λ (x : ℕ). over b x ws) a in
      q ∙ written-fits l pos hs w ∙ ap (λ (x : List ℕ). over x pos hs) d ∙ over-before b pos hs ws g
      ∙ sym (fitting-yes (pos + length hs + size) b (over b pos (hs ++ ws)) z)

-- a content that was written behind one byte of room gets its head
pub close_content : (b : List ℕ) (pos i n : ℕ) (ws : List ℕ) → pos + length (head_bytes i n) + length ws ≤ length b
    → head_put (over b (pos + 1) ws) pos (head_bytes i n) (length ws) ≡ over b pos (head_bytes i n ++ ws)
close_content b pos i n ws h = closed-over b pos (head_bytes i n) ws (omega (arith, length-head_bytes i n)) h
