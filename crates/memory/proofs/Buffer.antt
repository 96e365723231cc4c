-- Writing into a buffer: the laws of `over`, `clipped`, `over_if_fits` and what is made of them.
-- Assumes nothing.
use mathlib.Core.Path.{◌≡◌, refl, sym, ap, ◌∙◌}
use mathlib.Core.List.{List, [], ◌∷◌, ◌++◌, append_assoc}
use mathlib.Core.Bool.{Bool, true, false}
use Prim.Native.Nat.{ℕ, suc, ◌+◌, ◌-◌, ◌≤◌, ◌<◌, min, max}
use native.Mathlib.Numerals.{add-one}
use native.Mathlib.Nat.{add-zero, add_assoc}
use native.Mathlib.Omega.{arith}
use lib.Dec.{leb}
use lib.ListN.{length, take, drop, set, get_or, length-append, length-take, length-drop, take-append-drop}
use lib.Seq.{length-take-le, take_all, take_at, drop_at, drop-drop, take-append-le, take-append-add, take-take, get_or-take, get_or-drop, set_split}
use borrow.Author.Tests.{le-leb, lt-leb, leb-true, leb-false}
use Rattle.memory.specs.Buffer.{over, clipped, over_if_fits, if_fits, moved_up, moved_down, moved, head_put, copied}

-- OVER

pub over_nil : (b : List ℕ) (p : ℕ) → over b p [] ≡ b
unfolding over
over_nil b p = rw add-zero (take-append-drop p b)

-- what stands before p is kept, and what stands from p on is what was written with the rest behind it
module _ (b : List ℕ) (p : ℕ) (ws : List ℕ) (h : p ≤ length b) where
  pub take-over : (k : ℕ) → k ≤ p → take k (over b p ws) ≡ take k b
  unfolding over
  take-over k le =
      let l : k ≤ length (take p b) = rw (length-take-le p b h) le in
      rw (take-append-le k (take p b) (ws ++ drop (p + length ws) b) l, take-take k p b le)

  pub drop-over : drop p (over b p ws) ≡ ws ++ drop (p + length ws) b
  unfolding over
  drop-over = drop_at (take p b) (ws ++ drop (p + length ws) b) p (length-take-le p b h)

  pub over-read : take (length ws) (drop p (over b p ws)) ≡ ws
  over-read = rw drop-over (take_at ws (drop (p + length ws) b) (length ws) refl)

  -- behind what was written nothing is changed
  pub drop-behind : (k : ℕ) → drop (p + length ws + k) (over b p ws) ≡ drop (p + length ws + k) b
  drop-behind k =
      let e : drop (p + length ws) (over b p ws) ≡ drop (p + length ws) b
      = rw (← drop-drop (length ws) p (over b p ws), drop-over) (drop_at ws (drop (p + length ws) b) (length ws) refl) in
      rw (← drop-drop k (p + length ws) (over b p ws), e) (drop-drop k (p + length ws) b)

  -- a byte in front of what was written, and one behind it
  pub get_d_front : (i : ℕ) → i < p → get_or (over b p ws) i 0 ≡ get_or b i 0
  get_d_front i lt =
      let l : p ≤ p = omega arith in
      sym (get_or-take p (over b p ws) i 0 lt) ∙ ap (λ (x : List ℕ). get_or x i 0) (take-over p l) ∙ get_or-take p b i 0 lt

  pub get_d_behind : (i : ℕ) → p + length ws ≤ i → get_or (over b p ws) i 0 ≡ get_or b i 0
  get_d_behind i le =
      let e : p + length ws + (i - (p + length ws)) + 0 ≡ i = omega arith in
      let at : (x : List ℕ) → get_or (drop (p + length ws + (i - (p + length ws))) x) 0 0 ≡ get_or x i 0
      = λ x. get_or-drop (p + length ws + (i - (p + length ws))) x 0 0 ∙ ap (λ (k : ℕ). get_or x k 0) e in
      sym (at (over b p ws)) ∙ ap (λ (x : List ℕ). get_or x 0 0) (drop-behind (i - (p + length ws))) ∙ at b

  -- through what was written
  pub take_through : take (p + length ws) (over b p ws) ≡ take p b ++ ws
  unfolding over
  take_through =
      let l : length (take p b ++ ws) ≡ p + length ws = simp (length-append, length-take-le p b h) in
      rw (← append_assoc (take p b) ws (drop (p + length ws) b)) (take_at (take p b ++ ws) (drop (p + length ws) b) (p + length ws) l)

  -- a second part behind the first
  pub over-more : (vs : List ℕ) → over (over b p ws) (p + length ws) vs ≡ over b p (ws ++ vs)
  unfolding over
  over-more vs =
      rw (take_through, drop-behind (length vs)) (simp (append_assoc, length-append, ← add_assoc))

  -- a part that covers the first
  pub over_cover : (q : ℕ) (vs : List ℕ) → q ≤ p → p + length ws ≤ q + length vs → over (over b p ws) q vs ≡ over b q vs
  unfolding over
  over_cover q vs le ge =
      let e : q + length vs ≡ p + length ws + (q + length vs - (p + length ws)) = omega arith in
      let d : drop (q + length vs) (over b p ws) ≡ drop (q + length vs) b = rw e (drop-behind (q + length vs - (p + length ws))) in
      rw (take-over q le, d)

pub length_over : (b : List ℕ) (p : ℕ) (ws : List ℕ) → p + length ws ≤ length b → length (over b p ws) ≡ length b
unfolding over
length_over b p ws h =
    let l : p ≤ length b = omega arith in
    simp (length-append, length-take-le p b l, length-drop) (omega arith)

-- a part in front of one that was written
pub over-before : (b : List ℕ) (p : ℕ) (hs ws : List ℕ) → p + length hs ≤ length b → over (over b (p + length hs) ws) p hs ≡ over b p (hs ++ ws)
unfolding over
over-before b p hs ws h =
    let l : p ≤ p + length hs = omega arith in
    rw (take-over b (p + length hs) ws h p l, drop-over b (p + length hs) ws h) (simp (append_assoc, length-append, ← add_assoc))

-- one store, and one in front of a part that was written
pub over-one : (b : List ℕ) (p v : ℕ) → p < length b → set b p v ≡ over b p (v ∷ [])
unfolding over
over-one b p v h = rw add-one (set_split b p v h)

pub over-set : (b : List ℕ) (p v : ℕ) (ws : List ℕ) → p < length b → set (over b (p + 1) ws) p v ≡ over b p (v ∷ ws)
unfolding over
over-set b p v ws h =
    let f : p + 1 ≤ length b = omega arith in
    let l : p < length (over b (p + 1) ws) = simp (length-append, length-take-le (p + 1) b f) (omega arith) in
    over-one (over b (p + 1) ws) p v l ∙ over-before b p (v ∷ []) ws f

-- one store behind a part that was written
pub over_snoc : (b : List ℕ) (p v : ℕ) (ws : List ℕ) → p + length ws < length b → set (over b p ws) (p + length ws) v ≡ over b p (ws ++ (v ∷ []))
over_snoc b p v ws h =
    let f : p + length ws ≤ length b = omega arith in
    let g : p ≤ length b = omega arith in
    let l : p + length ws < length (over b p ws) = rw (length_over b p ws f) h in
    over-one (over b p ws) (p + length ws) v l ∙ over-more b p ws g (v ∷ [])

-- a part of the buffer, and that it is there already
pub length_part : (b : List ℕ) (p size : ℕ) → p + size ≤ length b → length (take size (drop p b)) ≡ size
length_part b p size h = length-take-le size (drop p b) (rw (length-drop p b) (omega arith))

pub over_keep : (b : List ℕ) (p size : ℕ) → p + size ≤ length b → over b p (take size (drop p b)) ≡ b
unfolding over
over_keep b p size h = rw (length_part b p size h, ← drop-drop size p b) (rw (take-append-drop size (drop p b)) (take-append-drop p b))

-- CLIPPED

-- where it fits, and past the end
module _ (b : List ℕ) (p : ℕ) (ws : List ℕ) where
  pub clipped-fits : p + length ws ≤ length b → clipped b p ws ≡ over b p ws
  unfolding clipped
  clipped-fits h = let l : length ws ≤ length b - p = omega arith in ap (over b p) (take_all (length b - p) ws l)

  pub clipped-past : length b ≤ p → clipped b p ws ≡ b
  unfolding clipped
  clipped-past h = let e : length b - p ≡ 0 = omega arith in ap (λ (n : ℕ). over b p (take n ws)) e ∙ over_nil b p

  pub length-clipped : length (clipped b p ws) ≡ length b
  unfolding clipped
  length-clipped = go (leb p (length b)) refl
    where
      go : (t : Bool) → leb p (length b) ≡ t → length (clipped b p ws) ≡ length b
      go true e =
          let h = leb-true p (length b) e in
          let l : p + length (take (length b - p) ws) ≤ length b = rw (length-take (length b - p) ws) (omega arith) in
          length_over b p (take (length b - p) ws) l
      go false e = let h : length b ≤ p = omega (arith, leb-false p (length b) e) in ap length (clipped-past h)

module _ (b : List ℕ) (p : ℕ) where
  pub clipped_nil : clipped b p [] ≡ b
  unfolding clipped
  clipped_nil = ap (over b p) (take_all (length b - p) [] (omega arith)) ∙ over_nil b p

  -- one store
  pub clipped-one : (v : ℕ) → p < length b → set b p v ≡ clipped b p (v ∷ [])
  clipped-one v h = let f : p + 1 ≤ length b = omega arith in over-one b p v h ∙ sym (clipped-fits b p (v ∷ []) f)

  -- a second part behind the first; the place may stop at a number m that is no place inside
  pub clipped-more : (ws vs : List ℕ) (m : ℕ) → length b ≤ m → clipped (clipped b p ws) (min (p + length ws) m) vs ≡ clipped b p (ws ++ vs)
  unfolding clipped
  clipped-more ws vs m k = go (leb (p + length ws) (length b)) refl
    where
      go : (t : Bool) → leb (p + length ws) (length b) ≡ t → clipped (clipped b p ws) (min (p + length ws) m) vs ≡ clipped b p (ws ++ vs)
      go true e =
          let h = leb-true (p + length ws) (length b) e in
          let i : p ≤ length b = omega arith in
          let q : min (p + length ws) m ≡ p + length ws = omega arith in
          let n : length b - p ≡ length ws + (length b - (p + length ws)) = omega arith in
          let r : take (length b - p) (ws ++ vs) ≡ ws ++ take (length b - (p + length ws)) vs = rw n (take-append-add ws vs (length b - (p + length ws))) in
          ap (λ (x : List ℕ). clipped x (min (p + length ws) m) vs) (clipped-fits b p ws h)
          ∙ ap (λ (x : ℕ). clipped (over b p ws) x vs) q
          ∙ ap (λ (x : ℕ). over (over b p ws) (p + length ws) (take (x - (p + length ws)) vs)) (length_over b p ws h)
          ∙ over-more b p ws i (take (length b - (p + length ws)) vs)
          ∙ ap (over b p) (sym r)
      go false e =
          let h = leb-false (p + length ws) (length b) e in
          let l : length (clipped b p ws) ≤ min (p + length ws) m = rw (length-clipped b p ws) (omega arith) in
          let n : length b - p ≤ length ws = omega arith in
          clipped-past (clipped b p ws) (min (p + length ws) m) vs l ∙ ap (over b p) (sym (take-append-le (length b - p) ws vs n))

-- WRITTEN

-- where it fits, and where not
module _ (b : List ℕ) (p : ℕ) (ws : List ℕ) where
  pub written-fits : p + length ws ≤ length b → over_if_fits b p ws ≡ over b p ws
  unfolding over_if_fits
  written-fits h = rw (le-leb (p + length ws) (length b) h, over_if_fits)

  pub written_not : length b < p + length ws → over_if_fits b p ws ≡ b
  unfolding over_if_fits
  written_not h = rw (lt-leb (p + length ws) (length b) h, over_if_fits)

  pub length-written : length (over_if_fits b p ws) ≡ length b
  length-written = go (leb (p + length ws) (length b)) refl
    where
      go : (t : Bool) → leb (p + length ws) (length b) ≡ t → length (over_if_fits b p ws) ≡ length b
      go true e = let h : p + length ws ≤ length b = leb-true (p + length ws) (length b) e in rw (written-fits h) (length_over b p ws h)
      go false e = rw (written_not (leb-false (p + length ws) (length b) e))

module _ (b : List ℕ) (p : ℕ) where
  -- one store
  pub written_one : (v : ℕ) → p < length b → set b p v ≡ over_if_fits b p (v ∷ [])
  written_one v h = let f : p + 1 ≤ length b = omega arith in over-one b p v h ∙ sym (written-fits b p (v ∷ []) f)

  -- a second part behind the first, if both fit
  pub written-more : (ws vs : List ℕ) → p + (length ws + length vs) ≤ length b → over_if_fits (over_if_fits b p ws) (p + length ws) vs ≡ over_if_fits b p (ws ++ vs)
  written-more ws vs h =
      let i : p ≤ length b = omega arith in
      let f : p + length ws ≤ length b = omega arith in
      let g : p + length ws + length vs ≤ length (over b p ws) = omega (arith, length_over b p ws f) in
      let l : p + length (ws ++ vs) ≤ length b = omega (arith, length-append ws vs) in
      rw (written-fits b p ws f) (written-fits (over b p ws) (p + length ws) vs g ∙ over-more b p ws i vs ∙ sym (written-fits b p (ws ++ vs) l))

  -- a store and a part behind it; a store in front of a part
  pub written_behind : (v : ℕ) (ws : List ℕ) → p + suc (length ws) ≤ length b → over_if_fits (set b p v) (p + 1) ws ≡ over_if_fits b p (v ∷ ws)
  written_behind v ws h =
      let f : p < length b = omega arith in
      let g : p + (1 + length ws) ≤ length b = omega arith in
      rw (written_one v f) (written-more (v ∷ []) ws g)

  pub written-front : (v : ℕ) (ws : List ℕ) → p + suc (length ws) ≤ length b → set (over_if_fits b (p + 1) ws) p v ≡ over_if_fits b p (v ∷ ws)
  written-front v ws h =
      let f : p < length b = omega arith in
      let g : p + 1 + length ws ≤ length b = omega arith in
      rw (written-fits b (p + 1) ws g) (over-set b p v ws f ∙ sym (written-fits b p (v ∷ ws) h))

-- WHERE IT FITS

module _ (n : ℕ) (b r : List ℕ) where
  pub fitting-yes : n ≤ length b → if_fits n b r ≡ r
  unfolding if_fits
  fitting-yes h = rw (le-leb n (length b) h, if_fits)

  pub fitting-no : length b < n → if_fits n b r ≡ b
  unfolding if_fits
  fitting-no h = rw (lt-leb n (length b) h, if_fits)

  -- what both have
  pub fitting_both : (P : List ℕ → Type 0) → (n ≤ length b → P r) → P b → P (if_fits n b r)
  fitting_both P y z = go (leb n (length b)) refl
    where
      go : (t : Bool) → leb n (length b) ≡ t → P (if_fits n b r)
      go true e = let h : n ≤ length b = leb-true n (length b) e in rw (fitting-yes h) (y h)
      go false e = rw (fitting-no (leb-false n (length b) e)) z

-- a write is as long as the buffer, and what is in front of it stays
module _ (n : ℕ) (b : List ℕ) (p : ℕ) (ws : List ℕ) (h : n ≤ length b → p + length ws ≤ length b) where
  fitting-length : length (if_fits n b (over b p ws)) ≡ length b
  fitting-length = fitting_both n b (over b p ws) (λ (x : List ℕ). length x ≡ length b) (λ f. length_over b p ws (h f)) refl

  fitting-front : (k : ℕ) → k ≤ p → take k (if_fits n b (over b p ws)) ≡ take k b
  fitting-front k le =
      fitting_both n b (over b p ws) (λ (x : List ℕ). take k x ≡ take k b) (λ f. let g : p ≤ length b = omega (arith, h f) in take-over b p ws g k le) refl

pub take-written : (b : List ℕ) (p : ℕ) (ws : List ℕ) (k : ℕ) → k ≤ p → take k (over_if_fits b p ws) ≡ take k b
unfolding over_if_fits if_fits
take-written b p ws = fitting-front (p + length ws) b p ws (λ f. f)

module _ (b : List ℕ) (from by size : ℕ) where
  up_fits : from + by + size ≤ length b → from + by + length (take size (drop from b)) ≤ length b
  up_fits f = let g : from + size ≤ length b = omega arith in rw (length_part b from size g) f

  pub length-moved_up : length (moved_up b from by size) ≡ length b
  unfolding moved_up
  length-moved_up = fitting-length (from + by + size) b (from + by) (take size (drop from b)) up_fits

  pub take-moved_up : (k : ℕ) → k ≤ from + by → take k (moved_up b from by size) ≡ take k b
  unfolding moved_up
  take-moved_up = fitting-front (from + by + size) b (from + by) (take size (drop from b)) up_fits

module _ (b : List ℕ) (to by size : ℕ) where
  down_fits : to + by + size ≤ length b → to + length (take size (drop (to + by) b)) ≤ length b
  down_fits f = rw (length_part b (to + by) size f) (omega arith)

  pub length-moved_down : length (moved_down b to by size) ≡ length b
  unfolding moved_down
  length-moved_down = fitting-length (to + by + size) b to (take size (drop (to + by) b)) down_fits

  pub take-moved_down : (k : ℕ) → k ≤ to → take k (moved_down b to by size) ≡ take k b
  unfolding moved_down
  take-moved_down = fitting-front (to + by + size) b to (take size (drop (to + by) b)) down_fits

module _ (b : List ℕ) (from to size : ℕ) where
  part-fits : max from to + size ≤ length b → to + length (take size (drop from b)) ≤ length b
  part-fits f = let g : from + size ≤ length b = omega arith in rw (length_part b from size g) (omega arith)

  pub length_moved : length (moved b from to size) ≡ length b
  unfolding moved
  length_moved = fitting-length (max from to + size) b to (take size (drop from b)) part-fits

  pub take-moved : (k : ℕ) → k ≤ to → take k (moved b from to size) ≡ take k b
  unfolding moved
  take-moved = fitting-front (max from to + size) b to (take size (drop from b)) part-fits

-- bytes put in front of others
module _ (b : List ℕ) (p : ℕ) (hs : List ℕ) (size : ℕ) (some : 0 < length hs) where
  closed-room : p + length hs + size ≤ length b → p + length (hs ++ take size (drop (p + 1) b)) ≤ length b
  closed-room f =
      let g : p + 1 + size ≤ length b = omega arith in
      rw (length-append hs (take size (drop (p + 1) b)), length_part b (p + 1) size g) (omega arith)

  pub length-closed : length (head_put b p hs size) ≡ length b
  unfolding head_put
  length-closed = fitting-length (p + length hs + size) b p (hs ++ take size (drop (p + 1) b)) closed-room

  pub take-closed : (k : ℕ) → k ≤ p → take k (head_put b p hs size) ≡ take k b
  unfolding head_put
  take-closed = fitting-front (p + length hs + size) b p (hs ++ take size (drop (p + 1) b)) closed-room

-- bytes that were written behind one byte of room get a head
module _ (b : List ℕ) (p : ℕ) (hs ws : List ℕ) (some : 0 < length hs) (h : p + length hs + length ws ≤ length b) where
  pub closed-over : head_put (over b (p + 1) ws) p hs (length ws) ≡ over b p (hs ++ ws)
  unfolding head_put
  closed-over =
      let f : p + 1 + length ws ≤ length b = omega arith in
      let i : p + 1 ≤ length b = omega arith in
      let g : p + length hs + length ws ≤ length (over b (p + 1) ws) = rw (length_over b (p + 1) ws f) h in
      let le : p ≤ p + 1 = omega arith in
      let ge : p + 1 + length ws ≤ p + length (hs ++ ws) = rw (length-append hs ws) (omega arith) in
      fitting-yes (p + length hs + length ws) (over b (p + 1) ws) (over (over b (p + 1) ws) p (hs ++ take (length ws) (drop (p + 1) (over b (p + 1) ws)))) g
      ∙ ap (λ (x : List ℕ). over (over b (p + 1) ws) p (hs ++ x)) (over-read b (p + 1) ws i)
      ∙ over_cover b (p + 1) ws i p (hs ++ ws) le ge

  pub closed-written : head_put (over_if_fits b (p + 1) ws) p hs (length ws) ≡ over_if_fits b p (hs ++ ws)
  closed-written =
      let f : p + 1 + length ws ≤ length b = omega arith in
      let g : p + length (hs ++ ws) ≤ length b = rw (length-append hs ws) (omega arith) in
      ap (λ (x : List ℕ). head_put x p hs (length ws)) (written-fits b (p + 1) ws f) ∙ closed-over ∙ sym (written-fits b p (hs ++ ws) g)

module _ (b : List ℕ) (p : ℕ) (s : List ℕ) (n : ℕ) where
  pub copied-yes : n ≤ length s → copied b p s n ≡ over_if_fits b p (take n s)
  unfolding copied
  copied-yes h = rw (le-leb n (length s) h, copied)

  pub copied-no : length s < n → copied b p s n ≡ b
  unfolding copied
  copied-no h = rw (lt-leb n (length s) h, copied)

  copied_both : (P : List ℕ → Type 0) → P (over_if_fits b p (take n s)) → P b → P (copied b p s n)
  copied_both P y z = go (leb n (length s)) refl
    where
      go : (t : Bool) → leb n (length s) ≡ t → P (copied b p s n)
      go true e = rw (copied-yes (leb-true n (length s) e)) y
      go false e = rw (copied-no (leb-false n (length s) e)) z

  pub length-copied : length (copied b p s n) ≡ length b
  length-copied = copied_both (λ (x : List ℕ). length x ≡ length b) (length-written b p (take n s)) refl

  pub take-copied : (k : ℕ) → k ≤ p → take k (copied b p s n) ≡ take k b
  take-copied k le = copied_both (λ (x : List ℕ). take k x ≡ take k b) (take-written b p (take n s) k le) refl
