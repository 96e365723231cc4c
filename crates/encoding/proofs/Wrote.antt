-- What is written behind and before what was written: parts behind one another, a byte or a head in front.
-- Assumes nothing.
use mathlib.Core.Path.{◌≡◌, refl, sym, ap, ◌∙◌}
use mathlib.Core.List.{List, [], ◌∷◌, ◌++◌, append_assoc}
use mathlib.Core.Bool.{Bool, true, false}
use Prim.Native.Nat.{ℕ, ◌+◌, ◌≤◌, ◌<◌, max}
use native.Mathlib.Omega.{arith}
use lib.Dec.{leb}
use lib.ListN.{length, take, drop, length-append, take-append-drop}
use lib.Seq.{length-take-le, take_at, drop_at, take-take, take-append-le}
use borrow.Author.Tests.{leb-true, leb-false}
use Rattle.memory.specs.Buffer.{over, over_if_fits, moved, head_put}
use Rattle.memory.proofs.Buffer.{over-before, written-fits, length-written, length_moved, length-closed, fitting-yes}
use Rattle.encoding.specs.ReadAnswers.{Wrote}

-- a buffer that has ws from p on, seen from p, from a place before it, and from behind ws
module _ (b b' : List ℕ) (p : ℕ) (ws r : List ℕ) (e : b' ≡ take p b ++ (ws ++ r)) (h : p ≤ length b) where
  upto : (k : ℕ) → k ≤ p → take k b' ≡ take k b
  upto k le =
      let l : k ≤ length (take p b) = rw (length-take-le p b h) le in
      rw (e, take-append-le k (take p b) (ws ++ r) l, take-take k p b le)

  onward : drop p b' ≡ ws ++ r
  onward = rw e (drop_at (take p b) (ws ++ r) p (length-take-le p b h))

  through : take (p + length ws) b' ≡ take p b ++ ws
  through =
      let l : length (take p b ++ ws) ≡ p + length ws = length-append (take p b) ws ∙ ap (λ (k : ℕ). k + length ws) (length-take-le p b h) in
      rw (e, ← append_assoc (take p b) ws r) (take_at (take p b ++ ws) r (p + length ws) l)

pub wrote_nothing : (b : List ℕ) (p : ℕ) → Wrote b b p []
wrote_nothing b p = record { same = refl; behind = drop p b; is = λ f. sym (take-append-drop p b) }

pub wrote-written : {b b' : List ℕ} {p : ℕ} {ws : List ℕ} → b' ≡ over_if_fits b p ws → Wrote b b' p ws
unfolding over
wrote-written {b} {b'} {p} {ws} e = record { same = ap length e ∙ length-written b p ws; behind = drop (p + length ws) b; is = λ f. e ∙ written-fits b p ws f }

pub wrote-over : {b b' : List ℕ} {p : ℕ} {ws : List ℕ} → length b' ≡ length b → (p + length ws ≤ length b → b' ≡ over b p ws) → Wrote b b' p ws
unfolding over
wrote-over {b} {b'} {p} {ws} e f = record { same = e; behind = drop (p + length ws) b; is = f }

-- a second part behind the first
pub wrote-more : {b b₁ b₂ : List ℕ} {p q : ℕ} {ws vs : List ℕ} → Wrote b b₁ p ws → Wrote b₁ b₂ q vs → q ≡ p + length ws → Wrote b b₂ p (ws ++ vs)
wrote-more {b} {b₁} {b₂} {p} {q} {ws} {vs} h k e =
    record {
      same = k.same ∙ h.same;
      behind = k.behind;
      is = λ f.
          let l : length (ws ++ vs) ≡ length ws + length vs = length-append ws vs in
          let f₁ : p + length ws ≤ length b = omega (arith, l) in
          let i : p ≤ length b = omega (arith, l) in
          let f₂ : q + length vs ≤ length b₁ = omega (arith, l, e, h.same) in
          let t : take q b₁ ≡ take p b ++ ws = ap (λ (x : ℕ). take x b₁) e ∙ through b b₁ p ws h.behind (h.is f₁) i in
          k.is f₂ ∙ rw (t, append_assoc (take p b) ws (vs ++ k.behind), append_assoc ws vs k.behind);
    }

-- a byte before what stands behind it
pub wrote-front : {b b₁ b₂ : List ℕ} {p v : ℕ} {ws : List ℕ} → Wrote b b₁ (p + 1) ws → b₂ ≡ over_if_fits b₁ p (v ∷ []) → Wrote b b₂ p (v ∷ ws)
unfolding over
wrote-front {b} {b₁} {b₂} {p} {v} {ws} h e =
    record {
      same = ap length e ∙ length-written b₁ p (v ∷ []) ∙ h.same;
      behind = h.behind;
      is = λ f.
          let f₁ : p + 1 + length ws ≤ length b = omega arith in
          let f₂ : p + 1 ≤ length b₁ = omega (arith, h.same) in
          let i : p + 1 ≤ length b = omega arith in
          let le : p ≤ p + 1 = omega arith in
          e ∙ written-fits b₁ p (v ∷ []) f₂ ∙ rw (upto b b₁ (p + 1) ws h.behind (h.is f₁) i p le, onward b b₁ (p + 1) ws h.behind (h.is f₁) i);
    }

-- a head before what stands behind one byte of room for it
pub wrote-closed : {b b₁ b₂ : List ℕ} {p size : ℕ} {ws : List ℕ} (hs : List ℕ) → 0 < length hs → Wrote b b₁ (p + 1) ws → size ≡ length ws → b₂ ≡ head_put b₁ p hs size → Wrote b b₂ p (hs ++ ws)
unfolding over head_put
wrote-closed {b} {b₁} {b₂} {p} {size} {ws} hs z h e k =
    record {
      same = ap length k ∙ length-closed b₁ p hs size z ∙ h.same;
      behind = drop (p + length (hs ++ take size (drop (p + 1) b₁))) b₁;
      is = λ f.
          let l : length (hs ++ ws) ≡ length hs + length ws = length-append hs ws in
          let f₁ : p + 1 + length ws ≤ length b = omega (arith, l) in
          let i : p + 1 ≤ length b = omega (arith, l) in
          let le : p ≤ p + 1 = omega arith in
          let g : p + length hs + size ≤ length b₁ = omega (arith, l, e, h.same) in
          let t : take size (drop (p + 1) b₁) ≡ ws = rw (onward b b₁ (p + 1) ws h.behind (h.is f₁) i) (take_at ws h.behind size (sym e)) in
          k ∙ fitting-yes (p + length hs + size) b₁ (over b₁ p (hs ++ take size (drop (p + 1) b₁))) g ∙ rw (upto b b₁ (p + 1) ws h.behind (h.is f₁) i p le) (ap (λ (x : List ℕ). take p b ++ ((hs ++ x) ++ drop (p + length (hs ++ take size (drop (p + 1) b₁))) b₁)) t);
    }

-- a head before what stands behind some room for it, and was moved to where the head ends
pub wrote-moved : {b b₁ b₂ b₃ : List ℕ} {p room size : ℕ} {ws : List ℕ} (hs : List ℕ) → Wrote b b₁ (p + room) ws → size ≡ length ws → b₂ ≡ moved b₁ (p + room) (p + length hs) size → b₃ ≡ over_if_fits b₂ p hs
    → (length hs < room → p + room + size ≤ length b₁) → Wrote b b₃ p (hs ++ ws)
unfolding over moved
wrote-moved {b} {b₁} {b₂} {b₃} {p} {room} {size} {ws} hs h e m k far =
    record {
      same = ap length k ∙ length-written b₂ p hs ∙ ap length m ∙ length_moved b₁ (p + room) (p + length hs) size ∙ h.same;
      behind = drop (p + length (hs ++ ws)) b₁;
      is = λ f.
          let l : length (hs ++ ws) ≡ length hs + length ws = length-append hs ws in
          let g : p + room + size ≤ length b₁ = inside (leb room (length hs)) refl (omega (arith, l, e, h.same)) in
          let f₁ : p + room + length ws ≤ length b = omega (arith, e, h.same) in
          let i : p + room ≤ length b = omega (arith, e, h.same) in
          let le : p ≤ p + room = omega arith in
          let t : take size (drop (p + room) b₁) ≡ ws = rw (onward b b₁ (p + room) ws h.behind (h.is f₁) i) (take_at ws h.behind size (sym e)) in
          let y : max (p + room) (p + length hs) + size ≤ length b₁ = omega (arith, l, e, h.same) in
          let m₁ : b₂ ≡ over b₁ (p + length hs) ws = m ∙ fitting-yes (max (p + room) (p + length hs) + size) b₁ (over b₁ (p + length hs) (take size (drop (p + room) b₁))) y ∙ ap (over b₁ (p + length hs)) t in
          let z : p + length hs ≤ length b₁ = omega (arith, l, h.same) in
          let z₂ : p + length hs ≤ length b₂ = omega (arith, l, h.same, ap length m, length_moved b₁ (p + room) (p + length hs) size) in
          k ∙ written-fits b₂ p hs z₂ ∙ ap (λ (x : List ℕ). over x p hs) m₁ ∙ over-before b₁ p hs ws z ∙ rw (upto b b₁ (p + room) ws h.behind (h.is f₁) i p le);
    }
  where
    inside : (t : Bool) → leb room (length hs) ≡ t → p + (length hs + size) ≤ length b₁ → p + room + size ≤ length b₁
    inside true u f = omega (arith, leb-true room (length hs) u)
    inside false u f = far (leb-false room (length hs) u)

-- what was written to the front
pub wrote-held : {b b' : List ℕ} {ws : List ℕ} → Wrote b b' 0 ws → length ws ≤ length b → take (length ws) b' ≡ ws
wrote-held {b = b} {ws = ws} h f = let g : 0 + length ws ≤ length b = omega arith in rw (h.is g) (take_at ws h.behind (length ws) refl)
