-- Blanks and comments: what is skipped is a front of the text, and is skipped alike in front of any other text.
use Prim.Native.Nat.{ℕ}
use mathlib.Core.Path.{◌≡◌, refl, sym, ap, ◌∙◌}
use mathlib.Core.Bool.{Bool, true, false}
use mathlib.Core.List.{List, [], ◌∷◌, ◌++◌}
use mathlib.Core.Logic.{◌⊎◌, inl, inr}
use lib.Dec.{eqb}
use Rattle.notation.specs.Classes.{blank, slash, hash, is}
use Rattle.notation.specs.Scanning.{is_comment, Skipping, between, slashed, hashed, skips, stops, skipped, left_in, skip_from, skip}

-- a comment in a text of which c is the rest from the comment's first element on
abbrev kept : Skipping → List ℕ → Skipping
kept between c = between
kept (slashed d) c = slashed c
kept (hashed d) c = hashed c

-- skipping s from state k ends between tokens
record Passed (k : Skipping) (s : List ℕ) : Type 0 where
  front : List ℕ
  split : s ≡ front ++ skip_from k s
  again : (c u : List ℕ) → skip_from (kept k c) (front ++ u) ≡ skip_from between u

-- or a comment does not end well
abbrev Ended : Skipping → List ℕ → Type 0
Ended k s = (skip_from k s ≡ left_in k) ⊎ Passed k s

abbrev Walked : Skipping → List ℕ → Type 0
Walked between s = Passed between s
Walked (slashed c) s = Ended (slashed c) s
Walked (hashed c) s = Ended (hashed c) s

-- A STEP
skip-on : (k : Skipping) (b : ℕ) (s : List ℕ) {k' : Skipping} → skipped k b s ≡ skips k' → skip_from k (b ∷ s) ≡ skip_from k' s
unfolding skip_from
skip-on k b s e = rw (e, skip_from)

skip-end : (k : Skipping) (b : ℕ) (s : List ℕ) {r : List ℕ} → skipped k b s ≡ stops r → skip_from k (b ∷ s) ≡ r
unfolding skip_from
skip-end k b s e = rw (e, skip_from)

passed_cons : (k k' : Skipping) (b : ℕ) (s : List ℕ) → skipped k b s ≡ skips k' → ((c u : List ℕ) → (c' : List ℕ) × (skipped (kept k c) b u ≡ skips (kept k' c'))) → Passed k' s → Passed k (b ∷ s)
passed_cons k k' b s e h w =
    record {
      front = b ∷ w.front;
      split = rw (skip-on k b s e) (ap (λ (u : List ℕ). b ∷ u) w.split);
      again = λ c u. let i = h c (w.front ++ u) in skip-on (kept k c) b (w.front ++ u) i.1 ∙ w.again i.0 u;
    }

passed_none : (s : List ℕ) → skip_from between s ≡ s → Passed between s
passed_none s e = record { front = []; split = sym e; again = λ c u. refl }

-- a comment begins, or goes on
comment_begins : (k : Skipping) (b : ℕ) (s : List ℕ) → skipped between b s ≡ skips k → left_in k ≡ b ∷ s → ((u : List ℕ) → (c : List ℕ) × (skipped between b u ≡ skips (kept k c))) → Ended k s
    → Passed between (b ∷ s)
comment_begins k b s e f h (inl i) = passed_none (b ∷ s) (skip-on between b s e ∙ (i ∙ f))
comment_begins k b s e f h (inr p) = passed_cons between k b s e (λ c u. h u) p

comment_cons : (k : Skipping) (b : ℕ) (s : List ℕ) → skipped k b s ≡ skips k → ((c u : List ℕ) → skipped (kept k c) b u ≡ skips (kept k c)) → Ended k s → Ended k (b ∷ s)
comment_cons k b s e h (inl i) = inl (skip-on k b s e ∙ i)
comment_cons k b s e h (inr p) = inr (passed_cons k k b s e (λ c u. (c, h c u)) p)

walk : (k : Skipping) (s : List ℕ) → Walked k s
unfolding skip_from left_in skipped
walk between [] = passed_none [] refl
walk (slashed c) [] = inl refl
walk (hashed c) [] = inl refl
walk between (b ∷ s) = go (is blank b) (is slash b) (is hash b) refl refl refl (walk between s) (walk (slashed (b ∷ s)) s) (walk (hashed (b ∷ s)) s)
  where
    go : (u v w : Bool) → is blank b ≡ u → is slash b ≡ v → is hash b ≡ w → Passed between s → Ended (slashed (b ∷ s)) s → Ended (hashed (b ∷ s)) s → Passed between (b ∷ s)
    go true v w e₁ e₂ e₃ p q r = passed_cons between between b s (rw (e₁, skipped)) (λ c u. (c, rw (e₁, skipped))) p
    go false true w e₁ e₂ e₃ p q r = comment_begins (slashed (b ∷ s)) b s (rw (e₁, skipped) (rw e₂)) refl (λ u. (b ∷ u, rw (e₁, skipped) (rw e₂))) q
    go false false true e₁ e₂ e₃ p q r = comment_begins (hashed (b ∷ s)) b s (rw (e₁, skipped) (rw e₂ (rw e₃))) refl (λ u. (b ∷ u, rw (e₁, skipped) (rw e₂ (rw e₃)))) r
    go false false false e₁ e₂ e₃ p q r = passed_none (b ∷ s) (skip-end between b s (rw (e₁, skipped) (rw e₂ (rw e₃))))
walk (slashed c) (b ∷ s) = go (is slash b) (is_comment b) refl refl (walk between s) (walk (slashed c) s)
  where
    go : (u v : Bool) → is slash b ≡ u → is_comment b ≡ v → Passed between s → Ended (slashed c) s → Ended (slashed c) (b ∷ s)
    go true v e₁ e₂ p q = inr (passed_cons (slashed c) between b s (rw (e₁, skipped)) (λ c u. (c, rw (e₁, skipped))) p)
    go false true e₁ e₂ p q = comment_cons (slashed c) b s (rw (e₁, skipped) (rw e₂)) (λ c u. rw (e₁, skipped) (rw e₂)) q
    go false false e₁ e₂ p q = inl (skip-end (slashed c) b s (rw (e₁, skipped) (rw e₂)))
walk (hashed c) (b ∷ s) = go (eqb b 0x0a) (is_comment b) refl refl (walk between s) (walk (hashed c) s)
  where
    go : (u v : Bool) → eqb b 0x0a ≡ u → is_comment b ≡ v → Passed between s → Ended (hashed c) s → Ended (hashed c) (b ∷ s)
    go true v e₁ e₂ p q = inr (passed_cons (hashed c) between b s (rw (e₁, skipped)) (λ c u. (c, rw (e₁, skipped))) p)
    go false true e₁ e₂ p q = comment_cons (hashed c) b s (rw (e₁, skipped) (rw e₂)) (λ c u. rw (e₁, skipped) (rw e₂)) q
    go false false e₁ e₂ p q = inl (skip-end (hashed c) b s (rw (e₁, skipped) (rw e₂)))

-- SKIPPING
pub skip-front : (s : List ℕ) → (front : List ℕ) × (s ≡ front ++ skip s) × ((u : List ℕ) → skip (front ++ u) ≡ skip u)
unfolding skip
skip-front s = let w = walk between s in (w.front, w.split, w.again [])

pub skip-blank : (b : ℕ) (s : List ℕ) → is blank b ≡ true → skip (b ∷ s) ≡ skip s
unfolding skip skipped
skip-blank b s e = skip-on between b s (rw (e, skipped))

pub skip-token : (b : ℕ) (s : List ℕ) → is blank b ≡ false → is slash b ≡ false → is hash b ≡ false → skip (b ∷ s) ≡ b ∷ s
unfolding skip skipped
skip-token b s e₁ e₂ e₃ = skip-end between b s (rw (e₁, skipped) (rw e₂ (rw e₃)))

pub skip-none : skip [] ≡ []
unfolding skip skip_from left_in
skip-none = refl
