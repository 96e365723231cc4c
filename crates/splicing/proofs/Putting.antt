-- A correction carried out: the bytes behind the item moved, the new ones before them, what is used no longer zeroed.
-- Assumes nothing.
use Prim.Native.Nat.{ℕ, ◌+◌, ◌-◌, ◌≤◌, ◌<◌, max}
use native.Mathlib.Omega.{arith}
use mathlib.Core.Path.{◌≡◌, sym, ap, ◌∙◌}
use mathlib.Core.List.{List, [], ◌++◌, append_assoc, append-nil}
use lib.ListN.{length, take, drop, replicate, length-append, length-take, length-drop, length-replicate}
use lib.Seq.{take-add, drop_at}
use Rattle.memory.specs.Buffer.{over, over_if_fits, moved, copied}
use Rattle.memory.proofs.Buffer.{written-fits, copied-yes, fitting-yes, length_over, over-before, over-more}
use Rattle.operations.specs.Operations.{zeroed}
use Rattle.planning.specs.declared.Plan.{Plan}
use Rattle.splicing.specs.Splices.{splice, Plans}

-- what is left of a front, and the front of what is left
drop-front : (k n : ℕ) (b : List ℕ) → k ≤ n → k ≤ length b → drop k (take n b) ≡ take (n - k) (drop k b)
drop-front k n b h l =
    let e : n ≡ k + (n - k) = omega arith in
    ap (λ (m : ℕ). drop k (take m b)) e ∙ ap (drop k) (take-add k (n - k) b) ∙ drop_at (take k b) (take (n - k) (drop k b)) k (length-take k b ∙ omega arith)

-- a front that stays
over-front : (b : List ℕ) (p : ℕ) (ws : List ℕ) → p ≤ length b → over b p ws ≡ over b 0 (take p b ++ ws)
unfolding over
over-front b p ws h =
    let e : p + length ws ≡ 0 + length (take p b ++ ws) = simp (length-append, length-take) (omega arith) in
    sym (append_assoc (take p b) ws (drop (p + length ws) b)) ∙ ap (λ (k : ℕ). (take p b ++ ws) ++ drop k b) e

module _ {b item : List ℕ} {used : ℕ} {p : Plan} (pl : Plans b used item p) where
  abbrev new : List ℕ
  new = take p.size item

  abbrev rest : List ℕ
  rest = drop p.end (take used b)

  new_length : length new ≡ p.size
  new_length = length-take p.size item ∙ omega (arith, pl.held)

  rest-length : length rest ≡ used - p.end
  rest-length = simp (length-drop, length-take) (omega (arith, pl.within))

  moved-is : moved b p.end (p.start + p.size) (used - p.end) ≡ over b (p.start + length new) rest
  unfolding moved
  moved-is =
      fitting-yes (max p.end (p.start + p.size) + (used - p.end)) b _ (omega (arith, pl.order, pl.inside, pl.within, pl.sized, pl.room))
      ∙ ap (over b (p.start + p.size)) (sym (drop-front p.end used b pl.inside (omega (arith, pl.inside, pl.within)))) ∙ ap (λ (k : ℕ). over b (p.start + k) rest) (sym new_length)

  moved_length : length (over b (p.start + length new) rest) ≡ length b
  moved_length = length_over b (p.start + length new) rest (omega (arith, new_length, rest-length, pl.sized, pl.room))

  copied_is : copied (over b (p.start + length new) rest) p.start item p.size ≡ over b p.start (new ++ rest)
  copied_is =
      copied-yes (over b (p.start + length new) rest) p.start item p.size pl.held
      ∙ written-fits (over b (p.start + length new) rest) p.start new (omega (arith, moved_length, new_length, pl.sized, pl.room))
      ∙ over-before b p.start new rest (omega (arith, new_length, pl.sized, pl.room))

  tail_length : length (new ++ rest) ≡ p.size + (used - p.end)
  tail_length = length-append new rest ∙ omega (arith, new_length, rest-length)

  pub whole_length : length (splice b used p.start p.end new) ≡ p.length
  unfolding splice
  whole_length = length-append (take p.start b) (new ++ rest) ∙ omega (arith, length-take p.start b, tail_length, pl.order, pl.inside, pl.within, pl.sized)

  before : p.start ≤ length b
  before = omega (arith, pl.order, pl.inside, pl.within)

  abbrev Result : List ℕ
  Result = over b 0 (zeroed used (splice b used p.start p.end new))

  -- the zeroes, if there are any
  result_is : over b p.start ((new ++ rest) ++ replicate (used - p.length) 0) ≡ Result
  unfolding splice zeroed
  result_is =
      over-front b p.start _ before ∙ ap (over b 0) (sym (append_assoc (take p.start b) (new ++ rest) (replicate (used - p.length) 0)))
      ∙ ap (λ (k : ℕ). over b 0 ((take p.start b ++ (new ++ rest)) ++ replicate (used - k) 0)) (sym whole_length)

  module _ {b₁ b₂ : List ℕ} (m : b₁ ≡ moved b p.end (p.start + p.size) (used - p.end)) (c : b₂ ≡ copied b₁ p.start item p.size) where
    laid : b₂ ≡ over b p.start (new ++ rest)
    laid = c ∙ ap (λ (v : List ℕ). copied v p.start item p.size) (m ∙ moved-is) ∙ copied_is

    pub put_longer : used ≤ p.length → b₂ ≡ Result
    put_longer h =
        let n : used - p.length ≡ 0 = omega arith in
        let z : replicate {A = ℕ} (used - p.length) 0 ≡ [] = ap (λ (k : ℕ). replicate {A = ℕ} k 0) n in
        laid ∙ ap (over b p.start) (sym (append-nil (new ++ rest)) ∙ ap (λ (v : List ℕ). (new ++ rest) ++ v) (sym z)) ∙ result_is

    pub put_shorter : {b₃ : List ℕ} → p.length < used → b₃ ≡ over_if_fits b₂ p.length (replicate (used - p.length) 0) → b₃ ≡ Result
    put_shorter {b₃} h z =
        let zs : List ℕ = replicate (used - p.length) 0 in
        let k : p.length ≡ p.start + length (new ++ rest) = omega (arith, pl.sized, tail_length) in
        let n : length (over b p.start (new ++ rest)) ≡ length b = length_over b p.start (new ++ rest) (omega (arith, k, pl.room)) in
        z ∙ ap (λ (v : List ℕ). over_if_fits v p.length zs) laid
        ∙ written-fits (over b p.start (new ++ rest)) p.length zs (omega (arith, n, length-replicate {A = ℕ} (used - p.length) 0, pl.within, h))
        ∙ ap (λ (v : ℕ). over (over b p.start (new ++ rest)) v zs) k
        ∙ over-more b p.start (new ++ rest) before zs ∙ result_is

pub ruleset put_ways = (put_longer, put_shorter)
