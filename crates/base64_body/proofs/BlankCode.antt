-- Letters with blanks between, and the last of them.
-- Assumes nothing.
use mathlib.Core.Path.{◌≡◌, refl, sym, ap, ◌∙◌}
use mathlib.Core.List.{List, [], ◌∷◌, ◌++◌, append-nil}
use mathlib.Core.Bool.{Bool, true, false}
use Prim.Native.Nat.{ℕ, ◌+◌, ◌≤◌, ◌<◌}
use native.Mathlib.Omega.{arith}
use lib.Dec.{leb}
use lib.ListN.{length, get_or}
use borrow.Author.Tests.{leb-true, leb-false}
use Rattle.notation.specs.Classes.{blank, is}
use Rattle.notation.specs.Literals.{stands_for, Sextet, sextet_at, sextets, base64_from}
use Rattle.scanning.specs.Stands.{span}
use Rattle.literal_body.specs.LiteralReading.{Within}
use Rattle.base64_letter.specs.LetterAnswers.{sextet_number}
use Rattle.base64_quantum.specs.QuantumAnswers.{sextet_of, waits, waiting_of, flowing, full_size, Last}
use Rattle.base64_quantum.specs.declared.Group.{Group}
use Rattle.base64_body.specs.GroupAnswers.{Blanks, Letters, Ending}
use Rattle.notation_theorems.proofs.SoundContent.{sextet-fits}
use Rattle.literal_body.proofs.ReadingCode.{span-step, span-over}
use Rattle.base64_quantum.proofs.QuantumCode.{counted, full_is}
use Rattle.base64_body.proofs.GroupCode.{sextet-back, flow_bad}
use Rattle.std.specs.Prelude.{None, Some}
use Rattle.std.proofs.lemmas.Option.{none-some, same_Some}

-- LETTERS, BLANKS BETWEEN

pub record Passed (s : List ℕ) (stop from at : ℕ) : Type 0 where
  pub same : sextets (span from stop s) ≡ sextets (span at stop s)
  pub ahead : from ≤ at

module _ {s : List ℕ} {stop from : ℕ} where
  module _ {at : ℕ} (inv : Passed s stop from at) (i : Within s from stop) where
    pub blanks_on : {t : Bool} → at < stop → t ≡ is blank (get_or s at 0) → t ≡ true → Passed s stop from (at + 1)
    unfolding sextets
    blanks_on l x e = record { same = inv.same ∙ ap sextets (span-step s at stop l i.inside) ∙ rw (sym x ∙ e, sextets); ahead = omega (arith, inv.ahead) }

letter_at : {s : List ℕ} {stop from i v : ℕ} → stop ≤ length s → Blanks s stop from i → i < stop → v ≡ sextet_number (sextet_at (get_or s i 0)) → sextets (span from stop s) ≡ sextet_of v ∷ sextets (span (i + 1) stop s)
unfolding sextets
letter_at {s} {stop} {from} {i} l x h e =
    x.same ∙ ap sextets (span-step s i stop h l) ∙ rw (x.letter h, sextets) (ap (λ (k : Sextet). k ∷ sextets (span (i + 1) stop s)) (sym (ap sextet_of e ∙ sextet-back (sextet_at (get_or s i 0)) (sextet-fits (get_or s i 0)))))

module _ {s : List ℕ} {stop from i : ℕ} (w : Within s from stop) (x : Blanks s stop from i) where
  pub letters_none : {g : Group} → stop ≤ i → g ≡ record { count = 0; a = 0; b = 0; c = 0; d = 0; next = i } → Letters s stop from g
  unfolding waiting_of waits
  letters_none h p = rw p (record { is = x.same; few = λ k. h; most = omega arith; ahead = omega (arith, x.ahead); inside = x.inside })

  module _ {a j : ℕ} (h₁ : i < stop) (e₁ : a ≡ sextet_number (sextet_at (get_or s i 0))) (y : Blanks s stop (i + 1) j) where
    one : sextets (span from stop s) ≡ sextet_of a ∷ sextets (span j stop s)
    one = letter_at w.inside x h₁ e₁ ∙ ap (λ (u : List Sextet). sextet_of a ∷ u) y.same

    pub letters_one : {g : Group} → stop ≤ j → g ≡ record { count = 1; a = a; b = 0; c = 0; d = 0; next = j } → Letters s stop from g
    unfolding waiting_of waits
    letters_one h p = rw p (record { is = one; few = λ k. h; most = omega arith; ahead = omega (arith, x.ahead, y.ahead); inside = y.inside })

    module _ {b k : ℕ} (h₂ : j < stop) (e₂ : b ≡ sextet_number (sextet_at (get_or s j 0))) (z : Blanks s stop (j + 1) k) where
      two : sextets (span from stop s) ≡ sextet_of a ∷ sextet_of b ∷ sextets (span k stop s)
      two = letter_at w.inside x h₁ e₁ ∙ ap (λ (u : List Sextet). sextet_of a ∷ u) (letter_at w.inside y h₂ e₂ ∙ ap (λ (u : List Sextet). sextet_of b ∷ u) z.same)

      pub letters_two : {g : Group} → stop ≤ k → g ≡ record { count = 2; a = a; b = b; c = 0; d = 0; next = k } → Letters s stop from g
      unfolding waiting_of waits
      letters_two h p = rw p (record { is = two; few = λ k. h; most = omega arith; ahead = omega (arith, x.ahead, y.ahead, z.ahead); inside = z.inside })

      module _ {c l : ℕ} (h₃ : k < stop) (e₃ : c ≡ sextet_number (sextet_at (get_or s k 0))) (v : Blanks s stop (k + 1) l) where
        three : sextets (span from stop s) ≡ sextet_of a ∷ sextet_of b ∷ sextet_of c ∷ sextets (span l stop s)
        three =
            letter_at w.inside x h₁ e₁
            ∙ ap (λ (u : List Sextet). sextet_of a ∷ u)
            (letter_at w.inside y h₂ e₂ ∙ ap (λ (u : List Sextet). sextet_of b ∷ u) (letter_at w.inside z h₃ e₃ ∙ ap (λ (u : List Sextet). sextet_of c ∷ u) v.same))

        pub letters_three : {g : Group} → stop ≤ l → g ≡ record { count = 3; a = a; b = b; c = c; d = 0; next = l } → Letters s stop from g
        unfolding waiting_of waits
        letters_three h p = rw p (record { is = three; few = λ k. h; most = omega arith; ahead = omega (arith, x.ahead, y.ahead, z.ahead, v.ahead); inside = v.inside })

        pub letters_four : {g : Group} {d : ℕ} → l < stop → d ≡ sextet_number (sextet_at (get_or s l 0)) → g ≡ record { count = 4; a = a; b = b; c = c; d = d; next = l + 1 } → Letters s stop from g
        unfolding waiting_of waits
        letters_four h e p =
            rw p
            (record {
              is = three ∙ ap (λ (u : List Sextet). sextet_of a ∷ sextet_of b ∷ sextet_of c ∷ u) (sym v.same ∙ letter_at w.inside v h e);
              few = λ k. absurd (omega arith);
              most = omega arith;
              ahead = omega (arith, x.ahead, y.ahead, z.ahead, v.ahead);
              inside = omega arith;
            })

pub ruleset letters_ways = (letters_none, letters_one, letters_two, letters_three, letters_four)

-- THE LAST LETTERS

module _ {s : List ℕ} {stop : ℕ} (g : Group) {q : ℕ} (w : Within s g.next stop) (x : Blanks s stop g.next q) where
  pub ending_more : q < stop → Ending s stop g None
  unfolding waits base64_from full_size sextets
  ending_more h =
      record {
        is = λ m f n.
            let e : g.count ≡ 4 = four_of m f in
            let y : sextets (span g.next stop s) ≡ sextet_at (get_or s q 0) ∷ sextets (span (q + 1) stop s) = x.same ∙ ap sextets (span-step s q stop h w.inside) ∙ rw (x.letter h, sextets) in
            let z : full_size g ≡ 4 = rw (n (omega arith), full_size) in
            (λ j. base64_from (counted g 4 e j ++ y j))
            ∙ full_is g (base64_from (sextet_at (get_or s q 0) ∷ sextets (span (q + 1) stop s)))
            ∙ ap (λ (k : ℕ). flowing k g (base64_from (sextet_at (get_or s q 0) ∷ sextets (span (q + 1) stop s)))) z
            ∙ flow_bad 4 g (base64_from (sextet_at (get_or s q 0) ∷ sextets (span (q + 1) stop s))) (omega arith);
        most = λ k u. absurd (none-some k u);
        short = λ k u. absurd (none-some k u);
      }
    where
      four_of : g.count ≤ 4 → (g.count < 4 → stop ≤ g.next) → g.count ≡ 4
      four_of m f = go (leb 4 g.count) refl
        where
          go : (t : Bool) → leb 4 g.count ≡ t → g.count ≡ 4
          go true p = let l = leb-true 4 g.count p in omega arith
          go false p = let l = f (leb-false 4 g.count p) in absurd (omega (arith, x.ahead))

  module _ (h : stop ≤ q) {r : ℕ} (y : Last g r) where
    last_is : g.count ≤ 4 → base64_from (waiting_of g ++ sextets (span g.next stop s)) ≡ flowing r g (stands_for [])
    unfolding sextets
    last_is m = ap (λ (u : List Sextet). base64_from (waiting_of g ++ u)) (x.same ∙ ap sextets (span-over s q stop h)) ∙ ap base64_from (append-nil (waiting_of g)) ∙ y.is m

    pub ending_wrong : 4 ≤ r → Ending s stop g None
    ending_wrong l =
        record {
          is = λ m f n. last_is m ∙ flow_bad r g (stands_for []) (omega arith);
          most = λ k u. absurd (none-some k u);
          short = λ k u. absurd (none-some k u);
        }

    pub ending_last : r < 4 → Ending s stop g (Some r)
    ending_last l =
        let l' : r ≤ 3 = omega arith in
        record {
          is = λ m f n. last_is m;
          most = λ k u. rw (← same_Some r k u) l';
          short = λ k u m. rw (← same_Some r k u) (y.short l' m);
        }

pub ruleset ending_ways = (ending_more, ending_wrong, ending_last)
