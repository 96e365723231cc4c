-- The text of an encoded literal, read piece by piece: what the loops over it know.
-- Assumes nothing.
use mathlib.Core.Path.{◌≡◌, refl, sym, ap, ◌∙◌}
use mathlib.Core.List.{List, [], ◌∷◌, ◌++◌, append-nil}
use mathlib.Core.Bool.{Bool, true, false}
use Prim.Native.Nat.{ℕ, ◌+◌, ◌-◌, ◌≤◌, ◌<◌, min}
use native.Mathlib.Omega.{arith}
use lib.Dec.{leb}
use lib.ListN.{length, take, drop, get_or, length-append, length-drop}
use lib.Seq.{take_all}
use borrow.Author.Tests.{leb-true, leb-false}
use Rattle.std.specs.Prelude.{Some, None}
use Rattle.memory.specs.Buffer.{over}
use Rattle.notation.specs.Literals.{Content, stands_for, bad, after}
use Rattle.scanning.specs.Stands.{span}
use Rattle.literal_body.specs.LiteralAnswers.{decoded_by, Put}
use Rattle.literal_body.specs.LiteralReading.{Yields, Progressed, DecodesInto}
use Rattle.literal_body.specs.declared.Progress.{Progress}
use Rattle.literal_body.proofs.LiteralCode.{front-part, part_end, put-none, put-more, after_nil, after-after, content-is, decodes}

-- PLACES

pub span-step : (s : List ℕ) (i stop : ℕ) → i < stop → stop ≤ length s → span i stop s ≡ get_or s i 0 ∷ span (i + 1) stop s
unfolding span
span-step s i stop h l = front-part s i stop (omega arith)

pub span-over : (s : List ℕ) (i stop : ℕ) → stop ≤ i → span i stop s ≡ []
unfolding span
span-over s i stop h = part_end s i stop (omega arith)

-- up to an end that may lie behind the text
pub span-least : (s : List ℕ) (i end stop : ℕ) → stop ≡ min end (length s) → take (end - i) (drop i s) ≡ span i stop s
unfolding span
span-least s i end stop e = go (leb end (length s)) refl
  where
    go : (t : Bool) → leb end (length s) ≡ t → take (end - i) (drop i s) ≡ take (stop - i) (drop i s)
    go true q = let l = leb-true end (length s) q in let f : end ≡ stop = omega arith in rw f
    go false q =
        let l = leb-false end (length s) q in
        take_all (end - i) (drop i s) (simp length-drop (omega arith)) ∙ sym (take_all (stop - i) (drop i s) (simp length-drop (omega arith)))

-- PIECES

module _ {content : List ℕ → Content} {s : List ℕ} {stop from : ℕ} where
  pub yields_none : Yields content s stop from from []
  yields_none = record { is = sym (after_nil (content (span from stop s))); ahead = omega arith; inside = omega arith; short = omega arith }

  pub yields_more : {at to : ℕ} {ws vs : List ℕ} → Yields content s stop from at ws → Yields content s stop at to vs → Yields content s stop from to (ws ++ vs)
  yields_more {at} {to} {ws} {vs} x y =
      let n = length-append ws vs in
      record {
        is = x.is ∙ ap (after ws) y.is ∙ after-after ws vs (content (span to stop s));
        ahead = omega (arith, x.ahead, y.ahead);
        inside = omega (arith, x.inside, y.inside);
        short = omega (arith, x.ahead, y.ahead, x.short, y.short);
      }

module _ {content : List ℕ → Content} {s : List ℕ} {stop from : ℕ} {b : List ℕ} {p : ℕ} where
  pub progress_start : Progressed content s stop from b b p (record { next = from; pos = p; size = 0 })
  progress_start =
      record { done = []; yields = yields_none; put = put-none b p; size = refl; ahead = omega arith; inside = omega arith; short = omega arith; same = refl }

  pub progress_more : {b₁ b₂ : List ℕ} {r : Progress} {to p' n : ℕ} {ws : List ℕ} → Progressed content s stop from b b₁ p r → Yields content s stop r.next to ws
      → Put b₁ b₂ r.pos p' ws → n ≡ length ws → Progressed content s stop from b b₂ p (record { next = to; pos = p'; size = r.size + n })
  progress_more {b₁} {b₂} {r} {to} {p'} {n} {ws} x y z e =
      let w = put-more x.put z in
      let k = yields_more x.yields y in
      let f : r.size + n ≡ length (x.done ++ ws) = omega (arith, x.size, length-append x.done ws) in
      record { done = x.done ++ ws; yields = k; put = w; size = f; ahead = k.ahead; inside = k.inside; short = omega (arith, k.short); same = w.same }

  pub progress_append : {b₁ b₂ : List ℕ} {r q : Progress} → Progressed content s stop from b b₁ p r → Progressed content s stop r.next b₁ b₂ r.pos q
      → Progressed content s stop from b b₂ p (record { next = q.next; pos = q.pos; size = r.size + q.size })
  progress_append x y = progress_more x y.yields y.put y.size

-- THE WHOLE

whole : {content : List ℕ → Content} {s : List ℕ} {at stop : ℕ} (end : ℕ) → stop ≡ min end (length s) → {b b' : List ℕ} {p : ℕ} {r : Progress} (x : Progressed content s stop at b b' p r) (res : Content)
    → content (span r.next stop s) ≡ res → content (take (end - at) (drop at s)) ≡ after x.done res
whole {content} {s} {at} {stop} end e x res f = ap content (span-least s at end stop e) ∙ x.yields.is ∙ ap (after x.done) f

module _ {content : List ℕ → Content} {s : List ℕ} {at : ℕ} (end : ℕ) {stop : ℕ} (e : stop ≡ min end (length s)) {b b' : List ℕ} {p : ℕ} {r : Progress} (x : Progressed content s stop at b b' p r) where
  pub decodes-good : content (span r.next stop s) ≡ stands_for [] → DecodesInto b b' p (Some (record { next = end; size = r.size })) (content (take (end - at) (drop at s)))
  unfolding after decoded_by
  decodes-good f =
      let g : content (take (end - at) (drop at s)) ≡ stands_for x.done = whole end e x (stands_for []) f ∙ ap stands_for (append-nil x.done) in
      record {
        decodes = decodes (stands_for x.done) g x.size;
        fills = record {
          same = x.same;
          is = λ c q k.
              let d : c ≡ x.done = content-is (sym q ∙ g) in
              let k' : p + length x.done ≤ length b = rw d at k in
              x.put.is k' ∙ ap (over b p) (sym d);
        };
      }

  pub decodes-bad : content (span r.next stop s) ≡ bad → DecodesInto b b' p None (content (take (end - at) (drop at s)))
  unfolding after decoded_by
  decodes-bad f =
      let g = whole end e x bad f in
      record { decodes = decodes bad g tt; fills = record { same = x.same; is = λ c q. let w : ◌≡◌ {A = ℕ} 0 1 = cc in absurd (omega arith) } }
