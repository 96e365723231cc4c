-- The loop over a base64 text: what its functions find is what the text stands for.
-- Assumes nothing.
use mathlib.Core.Path.{◌≡◌, refl, sym, ap, ◌∙◌}
use mathlib.Core.List.{List, [], ◌∷◌, ◌++◌}
use mathlib.Core.Bool.{Bool, true, false}
use Prim.Native.Nat.{ℕ, ◌+◌, ◌-◌, ◌*◌, ◌/◌, ◌%◌, ◌≤◌, min}
use native.Mathlib.Omega.{arith}
use lib.Dec.{leb}
use lib.ListN.{length, take, drop}
use borrow.Author.Tests.{le-leb, leb-true}
use Rattle.cbor.proofs.Utf8Laws.{both_true}
use Rattle.notation.specs.Literals.{stands_for, bad, after, Sextet, sextet, sextets, base64_from, base64_content}
use Rattle.scanning.specs.Stands.{span}
use Rattle.literal_body.specs.LiteralAnswers.{Put}
use Rattle.literal_body.specs.LiteralReading.{Yields, Progressed, DecodesInto}
use Rattle.literal_body.specs.declared.Progress.{Progress}
use Rattle.base64_quantum.specs.QuantumAnswers.{sextet_of, waits, all_sextets, IsLast, first_byte, second_of, third_of, base64_bytes}
use Rattle.base64_quantum.specs.declared.Group.{Group}
use Rattle.base64_body.specs.GroupAnswers.{Letters, Ending}
use Rattle.literal_body.proofs.ReadingCode.{span-over, progress_more, progress_append, decodes-good, decodes-bad}
use Rattle.base64_quantum.proofs.QuantumCode.{counted}
use Rattle.base64_body.proofs.GroupCode.{length_some, flow_on}
use Rattle.base64_word.proofs.WordCode.{bytes_of, four-front}
use Rattle.std.specs.Prelude.{None, Some}

nothing_left : (s : List ℕ) (stop i : ℕ) → stop ≤ i → base64_content (span i stop s) ≡ stands_for []
unfolding base64_content base64_from sextets
nothing_left s stop i h = ap base64_content (span-over s i stop h)

sextet-is : (n : ℕ) → n ≤ 63 → sextet_of n ≡ sextet n
unfolding sextet_of
sextet-is n h = rw (le-leb n 63 h, sextet_of)

bytes_are : (g : Group) → g.a ≤ 63 → g.b ≤ 63 → g.c ≤ 63 → g.d ≤ 63 → bytes_of g.a g.b g.c g.d ≡ base64_bytes g
unfolding base64_bytes first_byte second_of third_of
bytes_are g ha hb hc hd =
    let e₁ : g.a * 4 + g.b / 16 ≡ first_byte g = omega arith in
    let e₂ : g.b % 16 * 16 + g.c / 4 ≡ second_of g = omega arith in
    let e₃ : g.c % 4 * 64 + g.d ≡ third_of g = omega arith in
    λ j. e₁ j ∷ e₂ j ∷ e₃ j ∷ []

module _ {s : List ℕ} {stop from : ℕ} {g : Group} (x : Letters s stop from g) {t : Bool} (y : IsLast g t) where
  four-yields : t ≡ false → Yields base64_content s stop from g.next (take 3 (base64_bytes g))
  unfolding base64_content waits all_sextets base64_bytes
  four-yields e =
      let c : g.count ≡ 4 = omega (arith, x.most, (y.four e).0) in
      let p = both_true (leb g.a 63) _ (y.four e).1 in
      let q = both_true (leb g.b 63) _ p.1 in
      let r = both_true (leb g.c 63) _ q.1 in
      let ha = leb-true g.a 63 p.0 in
      let hb = leb-true g.b 63 q.0 in
      let hc = leb-true g.c 63 r.0 in
      let hd = leb-true g.d 63 r.1 in
      let k : sextets (span from stop s) ≡ sextet g.a ∷ sextet g.b ∷ sextet g.c ∷ sextet g.d ∷ sextets (span g.next stop s) =
      x.is ∙ ap (λ (u : List Sextet). u ++ sextets (span g.next stop s)) (counted g 4 c)
      ∙ (λ j. sextet-is g.a ha j ∷ sextet-is g.b hb j ∷ sextet-is g.c hc j ∷ sextet-is g.d hd j ∷ sextets (span g.next stop s)) in
      record {
        is = ap base64_from k ∙ four-front g.a g.b g.c g.d (sextets (span g.next stop s))
            ∙ ap (λ (u : List ℕ). after u (base64_from (sextets (span g.next stop s)))) (bytes_are g ha hb hc hd);
        ahead = omega (arith, x.ahead);
        inside = omega (arith, x.inside);
        short = omega (arith, x.ahead);
      }

  module _ (e : t ≡ true) where
    ending_bad : Ending s stop g None → base64_content (span from stop s) ≡ bad
    unfolding base64_content
    ending_bad z = ap base64_from x.is ∙ z.is x.most x.few (y.last e)

    ending_yields : {n : ℕ} → Ending s stop g (Some n) → Yields base64_content s stop from stop (take n (base64_bytes g))
    unfolding base64_content
    ending_yields {n} z =
        let h = z.most n refl in
        let k = length_some n g h in
        record {
          is = ap base64_from x.is ∙ z.is x.most x.few (y.last e) ∙ flow_on n g (stands_for []) h ∙ ap (after (take n (base64_bytes g))) (sym (nothing_left s stop stop (omega arith)));
          ahead = omega (arith, x.ahead, x.inside);
          inside = omega arith;
          short = omega (arith, x.ahead, x.inside, z.short n refl x.most);
        }

module _ {s : List ℕ} {at stop : ℕ} {b b₀ : List ℕ} {pos i p size : ℕ} (inv : Progressed base64_content s stop at b b₀ pos (record { next = i; pos = p; size = size })) where
  pub read-end : {end : ℕ} → stop ≡ min end (length s) → stop ≤ i → DecodesInto b b₀ pos (Some (record { next = end; size = size })) (base64_content (take (end - at) (drop at s)))
  read-end e h = decodes-good _ e inv (nothing_left s stop i h)

  module _ {b₁ : List ℕ} {f : Progress} (x : Progressed base64_content s stop i b₀ b₁ p f) where
    module _ {g : Group} (y : Letters s stop f.next g) {t : Bool} (z : IsLast g t) where
      module _ (q : t ≡ true) (end : ℕ) (e : stop ≡ min end (length s)) where
        pub read-wrong : Ending s stop g None → DecodesInto b b₁ pos None (base64_content (take (end - at) (drop at s)))
        read-wrong w = decodes-bad _ e (progress_append inv x) (ending_bad y z q w)

        pub read-last : {n : ℕ} → Ending s stop g (Some n) → {b₂ : List ℕ} {p' : ℕ} → Put b₁ b₂ f.pos p' (take n (base64_bytes g))
            → DecodesInto b b₂ pos (Some (record { next = end; size = size + f.size + n })) (base64_content (take (end - at) (drop at s)))
        read-last {n} w k = decodes-good _ e (progress_more (progress_append inv x) (ending_yields y z q w) k (sym (length_some n g (w.most n refl)))) (nothing_left s stop stop (omega arith))

      module _ (q : t ≡ false) where
        pub read-on : {b₂ : List ℕ} {p' : ℕ} → Put b₁ b₂ f.pos p' (take 3 (base64_bytes g)) → Progressed base64_content s stop at b b₂ pos (record { next = g.next; pos = p'; size = size + f.size + 3 })
        read-on k = progress_more (progress_append inv x) (four-yields y z q) k (sym (length_some 3 g (omega arith)))
