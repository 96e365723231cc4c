-- Blanks and comments in hexadecimal text.
-- Assumes nothing.
use mathlib.Core.Path.{◌≡◌, refl, sym, ap, ◌∙◌}
use mathlib.Core.List.{List, [], ◌∷◌}
use mathlib.Core.Bool.{Bool, true, false}
use Prim.Native.Nat.{ℕ, ◌+◌, ◌≤◌, ◌<◌}
use native.Mathlib.Omega.{arith}
use lib.Dec.{eqb}
use lib.ListN.{length, get_or}
use borrow.Author.Tests.{eq-eqb, ne_eqb, eqb-true, eqb-false}
use Rattle.std.specs.Prelude.{Option, None, Some}
use Rattle.std.specs.Option.{unwrap_or}
use Rattle.notation.specs.Classes.{blank, is}
use Rattle.notation.specs.Literals.{Content, bad, no_comment, in_slash, in_hash, Half, hex_from}
use Rattle.scanning.specs.Stands.{span}
use Rattle.literal_body.specs.LiteralReading.{Before}
use Rattle.hex_gaps.specs.GapAnswers.{comment_by, Closing, Ended, Unended, Commented, Blank, Gap, Gaps}
use Rattle.literal_body.proofs.LiteralCode.{slash-is, hash-is}
use Rattle.literal_body.proofs.ReadingCode.{span-step, span-over}

-- COMMENTS

pub closing_slash : Closing 0x2f
closing_slash = record { is = λ n. absurd (n refl) }

pub closing_line : Closing 0x0a
closing_line = record { is = λ n. refl }

comment_step : {last : ℕ} → Closing last → (b : ℕ) → b < 256 → (h : Half) (t : List ℕ)
    → hex_from (comment_by last) h (b ∷ t) ≡ elim (eqb b last) [ true ↦ hex_from no_comment h t | false ↦ hex_from (comment_by last) h t ]
unfolding comment_by hex_from
comment_step {last} x b u h t = go (eqb last 0x2f) refl
  where
    by : Content → Bool → Content
    by c v = elim v [ true ↦ hex_from no_comment h t | false ↦ c ]

    go : (v : Bool) → eqb last 0x2f ≡ v
        → hex_from (elim v [ true ↦ in_slash | false ↦ in_hash ]) h (b ∷ t) ≡ elim (eqb b last) [ true ↦ hex_from no_comment h t | false ↦ hex_from (elim v [ true ↦ in_slash | false ↦ in_hash ]) h t ]
    go true e = ap (by (hex_from in_slash h t)) (slash-is b u ∙ ap (eqb b) (sym (eqb-true last 0x2f e)))
    go false e = ap (by (hex_from in_hash h t)) (ap (eqb b) (sym (x.is (eqb-false last 0x2f e))))

-- up to i nothing ends it
pub record InComment (s : List ℕ) (stop at last i : ℕ) : Type 0 where
  pub is : (h : Half) → hex_from (comment_by last) h (span (at + 1) stop s) ≡ hex_from (comment_by last) h (span i stop s)
  pub ahead : at < i
  pub inside : i ≤ stop

pub comment_start : {s : List ℕ} {stop at last : ℕ} → Before s at stop → InComment s stop at last (at + 1)
comment_start x = record { is = λ h. refl; ahead = omega arith; inside = omega (arith, x.before) }

module _ {s : List ℕ} {stop at last i : ℕ} (inv : InComment s stop at last i) (p : Before s at stop) where
  module _ (x : Closing last) (u : get_or s i 0 < 256) (l : i < stop) where
    here : (h : Half) → hex_from (comment_by last) h (span (at + 1) stop s) ≡ elim (eqb (get_or s i 0) last) [ true ↦ hex_from no_comment h (span (i + 1) stop s) | false ↦ hex_from (comment_by last) h (span (i + 1) stop s) ]
    here h = inv.is h ∙ ap (hex_from (comment_by last) h) (span-step s i stop l p.inside) ∙ comment_step x (get_or s i 0) u h (span (i + 1) stop s)

    pub comment_ends : get_or s i 0 ≡ last → Ended s stop at last (i + 1)
    comment_ends e = record { is = λ h. rw (eq-eqb (get_or s i 0) last e) at (here h); ahead = omega (arith, inv.ahead); inside = omega arith }

    pub comment_goes : (get_or s i 0 ≡ last → ⊥) → InComment s stop at last (i + 1)
    comment_goes n = record { is = λ h. rw (ne_eqb (get_or s i 0) last n) at (here h); ahead = omega (arith, inv.ahead); inside = omega arith }

  pub comment_none : stop ≤ i → Unended s stop at last
  unfolding comment_by hex_from
  comment_none l = record { is = λ h. inv.is h ∙ ap (hex_from (comment_by last) h) (span-over s i stop l) ∙ go (eqb last 0x2f) h }
    where
      go : (v : Bool) (h : Half) → hex_from (elim v [ true ↦ in_slash | false ↦ in_hash ]) h [] ≡ bad
      go true h = refl
      go false h = refl

-- GAPS

blank_none : {s : List ℕ} {stop at : ℕ} → Blank s stop at at
blank_none = record { is = λ h. refl; ahead = omega arith; inside = omega arith }

pub blank-more : {s : List ℕ} {stop from at r : ℕ} → Blank s stop from at → Blank s stop at r → Blank s stop from r
blank-more x y = record { is = λ h. x.is h ∙ y.is h; ahead = omega (arith, x.ahead, y.ahead); inside = omega (arith, x.inside, y.inside) }

module _ {s : List ℕ} {stop at : ℕ} (p : Before s at stop) {t : Bool} (x : t ≡ is blank (get_or s at 0)) where
  front : (h : Half) → hex_from no_comment h (span at stop s) ≡ hex_from no_comment h (get_or s at 0 ∷ span (at + 1) stop s)
  front h = ap (hex_from no_comment h) (span-step s at stop p.before p.inside)

  blank-one : t ≡ true → Blank s stop at (at + 1)
  unfolding hex_from
  blank-one e = record { is = λ h. front h ∙ rw (sym x ∙ e, hex_from); ahead = omega arith; inside = omega (arith, p.before) }

  pub gap_blank : t ≡ true → Gap s stop at (at + 1)
  gap_blank e = record { blank = blank-one e; none = λ z. absurd (omega arith) }

  module _ (q : t ≡ false) (u : get_or s at 0 < 256) where
    opens : (h : Half) → get_or s at 0 ≡ 0x2f → hex_from no_comment h (span at stop s) ≡ hex_from in_slash h (span (at + 1) stop s)
    unfolding hex_from
    opens h e = front h ∙ rw (sym x ∙ q, slash-is (get_or s at 0) u ∙ eq-eqb (get_or s at 0) 0x2f e, hex_from)

    opens' : (h : Half) → (get_or s at 0 ≡ 0x2f → ⊥) → get_or s at 0 ≡ 0x23 → hex_from no_comment h (span at stop s) ≡ hex_from in_hash h (span (at + 1) stop s)
    unfolding hex_from
    opens' h n e = front h ∙ rw (sym x ∙ q, slash-is (get_or s at 0) u ∙ ne_eqb (get_or s at 0) 0x2f n, hash-is (get_or s at 0) u ∙ eq-eqb (get_or s at 0) 0x23 e, hex_from)

    pub gap_none : (get_or s at 0 ≡ 0x2f → ⊥) → (get_or s at 0 ≡ 0x23 → ⊥) → Gap s stop at at
    unfolding hex_from
    gap_none n n' =
        record {
          blank = blank_none;
          none = λ z d h. front h ∙ rw (sym x ∙ q, slash-is (get_or s at 0) u ∙ ne_eqb (get_or s at 0) 0x2f n, hash-is (get_or s at 0) u ∙ ne_eqb (get_or s at 0) 0x23 n', d, hex_from);
        }

-- a comment, by what it opens
gap_by : {s : List ℕ} {stop at r : ℕ} (last : ℕ) → ((h : Half) → hex_from no_comment h (span at stop s) ≡ hex_from (comment_by last) h (span (at + 1) stop s)) → (o : Option ℕ) → Commented s stop at last o → r ≡ unwrap_or o at → Gap s stop at r
gap_by last f None y e = rw e (record { blank = blank_none; none = λ z d h. f h ∙ y.is h })
gap_by last f (Some r) y e =
    rw e (record {
      blank = record { is = λ h. f h ∙ y.is h; ahead = omega (arith, y.ahead); inside = omega (arith, y.inside) };
      none = λ z. absurd (omega (arith, y.ahead));
    })

module _ {s : List ℕ} {stop at : ℕ} (p : Before s at stop) {t : Bool} (x : t ≡ is blank (get_or s at 0)) (q : t ≡ false) (u : get_or s at 0 < 256) where
  pub gap_slash : {r : ℕ} (o : Option ℕ) → get_or s at 0 ≡ 0x2f → Commented s stop at 0x2f o → r ≡ unwrap_or o at → Gap s stop at r
  unfolding comment_by
  gap_slash o e y = gap_by 0x2f (λ h. opens p x q u h e) o y

  pub gap_hash : {r : ℕ} (o : Option ℕ) → (get_or s at 0 ≡ 0x2f → ⊥) → get_or s at 0 ≡ 0x23 → Commented s stop at 0x0a o → r ≡ unwrap_or o at → Gap s stop at r
  unfolding comment_by
  gap_hash o n e y = gap_by 0x0a (λ h. opens' p x q u h n e) o y

pub ruleset gap_ways = (gap_blank, gap_slash, gap_hash, gap_none)

-- ALL OF THEM

pub gaps_start : {s : List ℕ} {stop from : ℕ} → Blank s stop from from
gaps_start = blank_none

module _ {s : List ℕ} {stop from at : ℕ} (x : Blank s stop from at) where
  pub gaps_on : {r : ℕ} → Gap s stop at r → Blank s stop from r
  gaps_on y = blank-more x y.blank

  pub gaps_stop : {r : ℕ} → Gap s stop at r → r ≡ at → Gaps s stop from at
  gaps_stop y e = record { blank = x; none = λ l d h. y.none e d h }

  pub gaps_end : stop ≤ at → Gaps s stop from at
  gaps_end l = record { blank = x; none = λ k. absurd (omega arith) }

-- ONE BLANK

pub after_one : {s : List ℕ} {stop at : ℕ} {t : Bool} → stop ≤ length s → at < stop → t ≡ is blank (get_or s at 0) → t ≡ true → Blank s stop at (at + 1)
after_one l h x e = blank-one (record { before = h; inside = l }) x e
