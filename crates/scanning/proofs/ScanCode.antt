-- Scanning: what the code knows at each return and each turn of a loop, and that this is what the definitions say.
-- Assumes nothing.
use mathlib.Core.Path.{◌≡◌, refl, sym, subst, ap, ◌∙◌}
use mathlib.Core.List.{List, [], ◌∷◌}
use Rattle.std.specs.Prelude.{Option}
use mathlib.Core.Bool.{Bool, true, false, not}
use Prim.Native.Nat.{ℕ, zero, suc, ◌+◌, ◌-◌, ◌≤◌, ◌<◌}
use native.Mathlib.Nat.{add-zero}
use native.Mathlib.Omega.{arith}
use lib.Dec.{leb, eqb}
use lib.ListN.{length, drop, get_or}
use borrow.Author.Tests.{eqb-true, eqb-false, ne_eqb, eq-eqb, leb-true, leb-false, not-true, not-false}
use Rattle.cbor.specs.Refusals.{ok}
use Rattle.cbor.specs.Utf8.{is_in}
use Rattle.cbor.proofs.Tests.{clash}
use Rattle.notation.specs.Classes.{blank, class_number, class_rows, class_in, class_of, is, is_word}
use Rattle.notation.specs.Scanning.{is_comment, Skipping, between, Skipped, skips, stops, skipped, left_in, skip_from, skip, fault, whether, expect}
use Rattle.notation.specs.Reading.{marked}
use Rattle.scanning.specs.TextRuns.{Textual, TextRun}
use Rattle.scanning.specs.ScanAnswers.{Unblank, InComment, in_comment, Ends, Begins, Unbegun, CommentEnd, Passed, Ran, is_next, Peeked}
use Rattle.scanning.proofs.ClassCode.{slash-at, hash_at, comment_high}
use Rattle.scanning.proofs.Marked.{length_marked, at_byte, at-end, past_end, Running, run-start, run_step, run_stop, run_end}

pub eqb_sym : (a b : ℕ) → eqb a b ≡ eqb b a
eqb_sym a b = go (eqb a b) refl
  where
    go : (t : Bool) → eqb a b ≡ t → t ≡ eqb b a
    go true e = sym (eq-eqb b a (sym (eqb-true a b e)))
    go false e = sym (ne_eqb b a (λ q. eqb-false a b e (sym q)))

-- BLANKS

skip_by : (b : ℕ) (r : List ℕ) {k : Skipping} → skipped between b r ≡ skips k → skip (b ∷ r) ≡ skip_from k r
unfolding skip skip_from
skip_by b r e = rw (e, skip_from)

skip-stops : (b : ℕ) (r : List ℕ) {c : List ℕ} → skipped between b r ≡ stops c → skip (b ∷ r) ≡ c
unfolding skip skip_from
skip-stops b r e = rw (e, skip_from)

pub record Blanking (s : List ℕ) (i at : ℕ) : Type 0 where
  pub same : skip (drop i (marked s)) ≡ skip (drop at (marked s))
  pub inside : at ≤ length (marked s)
  pub ahead : i ≤ at

module _ {s : List ℕ} {i at : ℕ} (inv : Blanking s i at) where
  module _ {t : Bool} (h : at < length s) (e : t ≡ is blank (get_or s at 0)) where
    pub blanks_on : not t ≡ false → Blanking s i (at + 1)
    unfolding skip skipped
    blanks_on f =
        let g : is blank (get_or s at 0) ≡ true = sym e ∙ not-false t f in
        record {
          same = inv.same ∙ (ap skip (at_byte s at h) ∙ skip_by (get_or s at 0) (drop (at + 1) (marked s)) (rw (g, skipped)));
          inside = omega (arith, length_marked s);
          ahead = omega (arith, inv.ahead);
        }

-- WHERE A COMMENT BEGINS

ends-slash : Ends 0x2f
unfolding in_comment skipped
ends-slash = record { is = λ c b s h. rw (slash-at b h, skipped) }

ends_line : Ends 0x0a
unfolding in_comment skipped
ends_line = record { is = λ c b s h. refl }

module _ {s : List ℕ} {at : ℕ} (u : Unblank s at) where
  pub comment_past : length s ≤ at → Unbegun s at
  unfolding skip skip_from skipped left_in is class_number class_of class_in class_rows is_in
  comment_past h = record { is = go (leb at (length s)) refl; inside = u.inside }
    where
      go : (t : Bool) → leb at (length s) ≡ t → skip (drop at (marked s)) ≡ drop at (marked s)
      go true q = let f : at ≡ length s = omega (arith, leb-true at (length s) q) in rw (at-end s at f)
      go false q = rw (past_end s at (leb-false at (length s) q))

  module _ (h : at < length s) where
    here : {k : Skipping} → skipped between (get_or s at 0) (drop (at + 1) (marked s)) ≡ skips k → skip (drop at (marked s)) ≡ skip_from k (drop (at + 1) (marked s))
    here e = ap skip (at_byte s at h) ∙ skip_by (get_or s at 0) (drop (at + 1) (marked s)) e

    pub comment_slash : get_or s at 0 ≡ 0x2f → Begins s at 0x2f
    unfolding skipped in_comment is class_number class_of class_in class_rows is_in
    comment_slash e =
        record {
          here = h;
          is = here (rw (at_byte s at h, e));
          ends = ends-slash;
          byte = omega arith;
        }

    pub comment_hash : get_or s at 0 ≡ 0x23 → Begins s at 0x0a
    unfolding skipped in_comment is class_number class_of class_in class_rows is_in
    comment_hash e =
        record {
          here = h;
          is = here (rw (at_byte s at h, e));
          ends = ends_line;
          byte = omega arith;
        }

    pub comment_none : (get_or s at 0 ≡ 0x2f → ⊥) → (get_or s at 0 ≡ 0x23 → ⊥) → get_or s at 0 < 256 → Unbegun s at
    unfolding skipped
    comment_none n m l =
        let b = get_or s at 0 in
        let k : b ≤ 256 = omega arith in
        record {
          is =
              ap skip (at_byte s at h)
              ∙ (skip-stops b (drop (at + 1) (marked s)) (simp (skipped, u.is h, slash-at b k, ne_eqb b 0x2f n, hash_at b k, ne_eqb b 0x23 m)) ∙ sym (at_byte s at h));
          inside = u.inside;
        }

pub ruleset comment_end_ways = (comment_past, comment_slash, comment_hash, comment_none)

-- INSIDE A COMMENT

pub record Commenting (s : List ℕ) (from end at : ℕ) : Type 0 where
  pub begins : Begins s from end
  pub same : skip (drop from (marked s)) ≡ skip_from (in_comment end (drop from (marked s))) (drop at (marked s))
  pub inside : at ≤ length s
  pub ahead : from < at

-- a byte of the comment
module _ {s : List ℕ} {from end at : ℕ} (inv : Commenting s from end at) (h : at < length s) (l : get_or s at 0 < 256) where
  next_is : (k : Skipped) → elim (eqb (get_or s at 0) end) [ true ↦ skips between | false ↦ elim (is_comment (get_or s at 0)) [ true ↦ skips (in_comment end (drop from (marked s))) | false ↦ stops (drop from (marked s)) ] ] ≡ k
      → skip (drop from (marked s)) ≡ elim k [ skips k' ↦ skip_from k' (drop (at + 1) (marked s)) | stops r ↦ r ]
  unfolding skip_from
  next_is k e =
      let c = drop from (marked s) in
      inv.same ∙ (rw (at_byte s at h) (rw (inv.begins.ends.is c (get_or s at 0) (drop (at + 1) (marked s)) (omega arith) ∙ e, skip_from)))

  next_in : (get_or s at 0 ≡ end → ⊥) → is_comment (get_or s at 0) ≡ true → Commenting s from end (at + 1)
  next_in n e = record { begins = inv.begins; same = next_is (skips (in_comment end (drop from (marked s)))) (simp (ne_eqb (get_or s at 0) end n, e)); inside = omega arith; ahead = omega (arith, inv.ahead) }

  next_out : (get_or s at 0 ≡ end → ⊥) → is_comment (get_or s at 0) ≡ false → skip (drop from (marked s)) ≡ drop from (marked s)
  next_out n e = next_is (stops (drop from (marked s))) (simp (ne_eqb (get_or s at 0) end n, e))

  next-end : get_or s at 0 ≡ end → skip (drop from (marked s)) ≡ skip (drop (at + 1) (marked s))
  unfolding skip
  next-end e = next_is (skips between) (rw (eq-eqb (get_or s at 0) end e))

-- a comment that does not end well
unended : {s : List ℕ} {from : ℕ} → from < length s → skip (drop from (marked s)) ≡ drop from (marked s) → Unbegun s from
unended {s} h e = record { is = e; inside = omega (arith, length_marked s) }

run_in : {s : List ℕ} {from end at : ℕ} (n : ℕ) → Commenting s from end at → ((j : ℕ) → at ≤ j → j < at + n → Textual end end (get_or s j 0)) → at + n ≤ length s → Commenting s from end (at + n)
run_in {s} {from} {end} {at} zero inv f l = rw add-zero inv
run_in {s} {from} {end} {at} (suc n) inv f l =
    let t = f at (omega arith) (omega arith) in
    let z : at + 1 + n ≡ at + suc n = omega arith in
    rw z at (run_in {at = at + 1} n (next_in inv (omega arith) t.high t.first (sym (comment_high t.low t.high).is)) (λ j a b. f j (omega arith) (omega arith)) (omega arith))

module _ {s : List ℕ} {from end at : ℕ} (inv : Commenting s from end at) where
  -- at the end mark
  pub comment_ended : length s ≤ at → Unbegun s from
  unfolding skip_from is_comment is class_number class_of class_in class_rows is_in
  comment_ended h =
      let e : at ≡ length s = omega (arith, inv.inside) in
      let n : 256 ≡ end → ⊥ = omega (arith, inv.begins.byte) in
      let g : skipped (in_comment end (drop from (marked s))) 256 [] ≡ stops (drop from (marked s)) = inv.begins.ends.is (drop from (marked s)) 256 [] (omega arith) ∙ rw (ne_eqb 256 end n) in
      unended inv.begins.here (inv.same ∙ (rw (at-end s at e) (rw (g, skip_from))))

  module _ {stop : ℕ} (r : TextRun s end end at stop) where
    run_to : Commenting s from end stop
    run_to =
        let z : at + (stop - at) ≡ stop = omega (arith, r.ahead) in
        rw z at (run_in (stop - at) inv (λ j a b. r.is j a (omega arith)) (omega (arith, r.inside)))

    module _ (h : stop < length s) where
      pub comment_closed : get_or s stop 0 ≡ end → Passed s from (stop + 1)
      comment_closed e =
          let i = run_to in
          let l : get_or s stop 0 < 256 = omega (arith, inv.begins.byte) in
          record { same = next-end i h l e; inside = omega (arith, length_marked s); ahead = omega (arith, i.ahead) }

      module _ {t : Bool} (n : get_or s stop 0 ≡ end → ⊥) (x : InComment (get_or s stop 0) t) where
        pub comment_on : not t ≡ false → Commenting s from end (stop + 1)
        comment_on f = next_in run_to h x.byte n (sym x.is ∙ not-false t f)

        pub comment_wrong : not t ≡ true → Unbegun s from
        comment_wrong f = unended inv.begins.here (next_out run_to h x.byte n (sym x.is ∙ not-true t f))

pub comment_open : {s : List ℕ} {from end at stop : ℕ} → Commenting s from end at → TextRun s end end at stop → length s ≤ stop → Unbegun s from
comment_open inv r h = comment_ended (run_to inv r) h

pub ruleset comment_ways = (comment_closed, comment_wrong, comment_open, comment_ended)

-- BLANKS AND COMMENTS IN TURN

pub record Skimming (s : List ℕ) (i at : ℕ) (end : Option ℕ) : Type 0 where
  pub same : skip (drop i (marked s)) ≡ skip (drop at (marked s))
  pub next : CommentEnd s at end
  pub ahead : i ≤ at

-- WORDS
module _ (s : List ℕ) {i : ℕ} where
  pub word-start : i ≤ length s → Running s is_word i i
  word-start h = run-start s is_word i h

  module _ {at : ℕ} (r : Running s is_word i at) where
    pub word-step : (t : Bool) → at < length s → t ≡ is_word (get_or s at 0) → not t ≡ false → Running s is_word i (at + 1)
    word-step t h e f = run_step s is_word i r h (sym e ∙ not-false t f)

    pub word_stop : (t : Bool) → at < length s → t ≡ is_word (get_or s at 0) → not t ≡ true → Ran s is_word i at
    word_stop t h e f = run_stop s is_word i r h (sym e ∙ not-true t f)

    pub word_end : length s ≤ at → Ran s is_word i (length s)
    unfolding is_word is class_number class_of class_in class_rows is_in
    word_end h = let e : at ≡ length s = omega (arith, r.inside) in subst (Ran s is_word i) e (run_end s is_word i r h refl)

-- THE NEXT ELEMENT
pub peek_none : (s : List ℕ) (at c : ℕ) → length s ≤ at → c < 256 → Peeked s at c false
unfolding is_next
peek_none s at c h l = go (leb at (length s)) refl
  where
    go : (t : Bool) → leb at (length s) ≡ t → Peeked s at c false
    go true q =
        let f : at ≡ length s = omega (arith, leb-true at (length s) q) in
        let n : eqb 256 c ≡ false = ne_eqb 256 c (λ e. omega arith) in
        record { is = rw (at-end s at f) (sym n); inside = λ e. absurd (clash (sym e)) }
    go false q = record { is = rw (past_end s at (leb-false at (length s) q)); inside = λ e. absurd (clash (sym e)) }

pub peek_at : (s : List ℕ) (at c : ℕ) → at < length s → Peeked s at c (eqb (get_or s at 0) c)
unfolding is_next
peek_at s at c h = record { is = rw (at_byte s at h); inside = λ e. omega arith }

whether-none : (c : ℕ) (r : List ℕ) → is_next c r ≡ false → whether c r ≡ ok false r
unfolding whether is_next
whether-none c [] h = refl
whether-none c (b ∷ r) h = rw (h, whether)

expect-none : (c n : ℕ) (r : List ℕ) → is_next c r ≡ false → expect c n r ≡ fault n
unfolding expect is_next
expect-none c n [] h = refl
expect-none c n (b ∷ r) h = rw (h, expect)

-- what is next, in the words of the definitions
module _ {s : List ℕ} {at c : ℕ} {t : Bool} (p : Peeked s at c t) where
  pub peeked_yes : t ≡ true → drop at (marked s) ≡ c ∷ drop (at + 1) (marked s)
  unfolding is_next
  peeked_yes e = let h : at < length s = omega (arith, p.inside e) in at_byte s at h ∙ ap (λ (b : ℕ). b ∷ drop (at + 1) (marked s)) (eqb-true _ c (sym (p.is ∙ rw (at_byte s at h)) ∙ e))

  pub whether-yes : t ≡ true → whether c (drop at (marked s)) ≡ ok true (drop (at + 1) (marked s))
  unfolding whether
  whether-yes e = rw (peeked_yes e) (rw (eq-eqb c c refl, whether))

  pub whether-no : t ≡ false → whether c (drop at (marked s)) ≡ ok false (drop at (marked s))
  whether-no e = whether-none c (drop at (marked s)) (sym p.is ∙ e)

  pub expect-yes : (n : ℕ) → t ≡ true → expect c n (drop at (marked s)) ≡ ok tt (drop (at + 1) (marked s))
  unfolding expect
  expect-yes n e = rw (peeked_yes e) (rw (eq-eqb c c refl, expect))

  pub expect-no : (n : ℕ) → t ≡ false → expect c n (drop at (marked s)) ≡ fault n
  expect-no n e = expect-none c n (drop at (marked s)) (sym p.is ∙ e)
