-- Texts that are laid one behind the other.
-- Assumes nothing.
use mathlib.Core.Path.{◌≡◌, refl, sym, ap, ◌∙◌}
use mathlib.Core.List.{List, [], ◌∷◌, ◌++◌, append_assoc, append-nil}
use Prim.Native.Nat.{ℕ, ◌+◌, ◌*◌, ◌^◌, ◌≤◌, ◌<◌}
use native.Mathlib.Omega.{arith}
use lib.ListN.{length, take, drop, set, length-append, length-set, length-take}
use lib.Seq.{take-take, take-append-le, take-append-add, take-append_seam}
use Rattle.memory.specs.Buffer.{over, over_if_fits}
use Rattle.memory.proofs.Buffer.{over-one, length_over, clipped-fits, written-fits}
use Rattle.text_output.specs.PrintParts.{Prints}
use Rattle.leaf_written.specs.Laying.{Laid}

-- LAYING

length_front : (b : List ℕ) (pos : ℕ) → pos ≤ length b → length (take pos b) ≡ pos
length_front b pos h = omega (arith, length-take pos b)

pub laid-over : (b : List ℕ) (pos : ℕ) (ws : List ℕ) {b' : List ℕ} → pos + length ws ≤ length b → b' ≡ over b pos ws → Laid b b' pos ws (pos + length ws)
unfolding over
laid-over b pos ws h e =
    let l = length_front b pos (omega arith) in
    record {
      same = ap length e ∙ length_over b pos ws h;
      next = refl;
      room = h;
      is =
          ap (take (pos + length ws)) e ∙ ap (λ (k : ℕ). take (k + length ws) (over b pos ws)) (sym l) ∙ take-append-add (take pos b) (ws ++ drop (pos + length ws) b) (length ws)
          ∙ ap (λ (x : List ℕ). take pos b ++ x) (take-append_seam ws (drop (pos + length ws) b));
    }

pub laid-set : (b : List ℕ) (pos v : ℕ) → pos < length b → Laid b (set b pos v) pos (v ∷ []) (pos + 1)
laid-set b pos v h = laid-over b pos (v ∷ []) (omega arith) (over-one b pos v h)

pub laid-written : (b : List ℕ) (pos : ℕ) (ws : List ℕ) {b' : List ℕ} → pos + length ws ≤ length b → b' ≡ over_if_fits b pos ws → Laid b b' pos ws (pos + length ws)
laid-written b pos ws h e = laid-over b pos ws h (e ∙ written-fits b pos ws h)

pub laid-prints : {b b' : List ℕ} {pos : ℕ} {ws : List ℕ} {r : ℕ} → length b * 1 < 2 ^ 63 → r ≤ length b → Prints b b' pos ws r → Laid b b' pos ws r
laid-prints {b} {b'} {pos} {ws} {r} l h p =
    let e : r ≡ pos + length ws = omega (arith, p.next) in
    let x = laid-over b pos ws (omega arith) (p.is ∙ clipped-fits b pos ws (omega arith)) in
    rw (← e) at x

pub laid_none : (b : List ℕ) (pos : ℕ) → pos ≤ length b → Laid b b pos [] pos
laid_none b pos h = record { same = refl; next = omega arith; room = h; is = sym (append-nil (take pos b)) }

module _ {b b₁ : List ℕ} {pos : ℕ} {ws : List ℕ} {p : ℕ} (x : Laid b b₁ pos ws p) where
  pub laid_more : {b₂ vs : List ℕ} {q : ℕ} → Laid b₁ b₂ p vs q → Laid b b₂ pos (ws ++ vs) q
  laid_more {b₂} {vs} {q} y =
      record {
        same = y.same ∙ x.same;
        next = omega (arith, x.next, y.next, length-append ws vs);
        room = omega (arith, y.room, x.same);
        is = y.is ∙ ap (λ (z : List ℕ). z ++ vs) x.is ∙ append_assoc (take pos b) ws vs;
      }

  pub laid_kept : take pos b₁ ≡ take pos b
  laid_kept =
      let l = length_front b pos (omega (arith, x.next, x.room)) in
      sym (take-take pos p b₁ (omega (arith, x.next))) ∙ ap (take pos) x.is ∙ take-append-le pos (take pos b) ws (omega arith) ∙ take-take pos pos b (omega arith)

  pub laid_as : {vs : List ℕ} → ws ≡ vs → Laid b b₁ pos vs p
  laid_as e = rw e at x

pub laid-front : {b b' : List ℕ} {pos : ℕ} (ws vs : List ℕ) {r : ℕ} → Laid b b' pos (ws ++ vs) r → Laid b b' pos ws (pos + length ws)
laid-front {b} {b'} {pos} ws vs {r} x =
    let n = length-append ws vs in
    let l = length_front b pos (omega (arith, x.next, x.room)) in
    record {
      same = x.same;
      next = refl;
      room = omega (arith, x.next, x.room);
      is =
          sym (take-take (pos + length ws) r b' (omega (arith, x.next))) ∙ ap (take (pos + length ws)) x.is ∙ ap (λ (k : ℕ). take (k + length ws) (take pos b ++ (ws ++ vs))) (sym l)
          ∙ take-append-add (take pos b) (ws ++ vs) (length ws) ∙ ap (λ (z : List ℕ). take pos b ++ z) (take-append_seam ws vs);
    }

-- something was written behind before
pub laid-after : {b b₁ b₂ : List ℕ} {pos : ℕ} {ws : List ℕ} {r : ℕ} → length b₁ ≡ length b → take pos b₁ ≡ take pos b → Laid b₁ b₂ pos ws r → Laid b b₂ pos ws r
laid-after {ws = ws} l e x = record { same = x.same ∙ l; next = x.next; room = omega (arith, x.room); is = x.is ∙ ap (λ (z : List ℕ). z ++ ws) e }

-- nothing of what was written is wanted
pub laid-drop : (b : List ℕ) (pos v : ℕ) → pos < length b → Laid b (set b pos v) pos [] pos
laid-drop b pos v h = laid-after (length-set b pos v) (laid_kept (laid-set b pos v h)) (laid_none (set b pos v) pos (omega (arith, length-set b pos v)))
