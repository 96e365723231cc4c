-- What closes a list and what parts its items, by the byte that stands there.
-- Assumes nothing.
use mathlib.Core.Path.{◌≡◌, refl, sym, ap, ◌∙◌}
use mathlib.Core.Bool.{Bool, true, false, not, ◌||◌, true≢false}
use mathlib.Core.List.{List, [], ◌∷◌}
use Prim.Native.Nat.{ℕ, ◌+◌, ◌≤◌, ◌<◌}
use native.Mathlib.Omega.{arith}
use lib.Dec.{T, eqb, ltb, leb}
use lib.ListN.{length, drop, get_or, replicate}
use borrow.Author.Tests.{eq-eqb, eqb-true, eqb-false, ltb-true, ltb-false, lt-leb, ne_eqb}
use Rattle.cbor.specs.Refusals.{Result, ok, bind}
use Rattle.cbor.proofs.Results.{refuse_not_ok}
use Rattle.cbor.proofs.Table.{every, between}
use Rattle.cbor.specs.Utf8.{is_in}
use Rattle.cbor.proofs.Tests.{is_true}
use Rattle.notation.specs.Classes.{class_number, class_of, class_in, class_rows, is, blank, slash, hash}
use Rattle.notation.specs.Scanning.{expect, between as apart-from-tokens, stops, skip, skip_from, skipped}
use Rattle.notation.specs.Indicators.{Indicator, absent, indicator}
use Rattle.notation.specs.Tokens.{Shape, square, curly, round, angle, whole, Token, begins, closes, a_comma, a_colon}
use Rattle.notation.specs.Cutting.{cut, cut_by, next}
use Rattle.notation.specs.Reading.{marked}
use Rattle.notation_theorems.proofs.ScanningElements.{high-other}
use Rattle.scanning.specs.ScanAnswers.{is_next, Peeked, Skips}
use Rattle.scanning.proofs.Marked.{length_marked, at_byte, at-end, past_end}
use Rattle.scanning.proofs.ScanCode.{peeked_yes, expect-no}
use Rattle.numbers.specs.NumberAnswers.{Indicated}
use Rattle.numbers.specs.declared.indicator.Mark.{Mark}
use Rattle.token.specs.TokenAnswers.{indicator_number, shape_code, code_of}
use Rattle.encoding.proofs.Cuts.{next-ok, next-cut}
use Rattle.encoding.proofs.ReadTokens.{cut_led}
use Rattle.encoding.specs.ReadAnswers.{shape_for}
use Rattle.encoding.proofs.ReadRules.{opens_by, begin_not, begin_close, shape_low, code-some}
use Rattle.closers.specs.declared.Closer.{Closer}
use Rattle.closers.specs.declared.Closer.TheVariants.{Square, Curly, Round, Angle, Whole, Nothing}
use Rattle.closing.specs.declared.Closing.{Closing}
use Rattle.closing.specs.declared.Follow.TheVariants.{On, Over, Stray}
use Rattle.closing.specs.declared.Follower.{Follower}
use Rattle.closers.specs.CloserTables.{shape_of, is_single, may_be_empty, comma_code, separator_code, closer_code, shown_by, has_sign, separator_byte, colon_code, may_separate, closing_byte}
use Rattle.closing.specs.Closings.{SignAt, GoesOn, ClosesAt, SeparatesAt, StartsAt, IsFirm, Solid, StartsAtOnce, Differs, OpenAt, ClosesAtOnce, Follows, Ends}

-- A BYTE
module _ {s : List ℕ} {at c : ℕ} {t : Bool} (p : Peeked s at c t) where
  pub peek_no : t ≡ false → (u : List ℕ) → drop at (marked s) ≡ c ∷ u → ⊥
  unfolding is_next
  peek_no e u q = true≢false (sym (eq-eqb c c refl) ∙ sym (p.is ∙ ap (is_next c) q) ∙ e)

  pub sign_is : SignAt s at c (record { found = t; next = at + 1; indicator = 0 })
  sign_is = record { yes = λ e. (peeked_yes p e, omega (arith, p.inside e, length_marked s)); no = peek_no; next = refl; indicator = refl }

-- the only element of a class
abbrev Only : ℕ → ℕ → ℕ → Bool
Only k v b = not (eqb (class_number (class_of b)) k) || eqb b v

class-only : (k v : ℕ) → T (every (λ b x. Only k v b) 0 (replicate 257 0)) → (k ≡ 0 → ⊥) → (b : ℕ) → k ≡ class_number (class_of b) → b ≡ v
unfolding class_number
class-only k v t n b e = go (ltb b 257) refl
  where
    go : (w : Bool) → ltb b 257 ≡ w → b ≡ v
    go true l = eqb-true b v (rw (eq-eqb (class_number (class_of b)) k (sym e)) at (is_true (Only k v b) (between (Only k v) 0 257 t b (omega arith) (ltb-true b 257 l))))
    go false l = let h = ltb-false b 257 l in let o = high-other b (omega arith) (λ z. omega arith) in absurd (n (e ∙ ap class_number o))

-- A CLOSING TOKEN OF ONE BYTE
abbrev Signs : Closer → ℕ → Type 0
Signs h c = ((u : List ℕ) → cut (c ∷ u) ≡ ok (closes (shape_of h) absent) u) × ((b : ℕ) → shape_code (shape_of h) ≡ class_number (class_of b) → b ≡ c)

squares : Signs Square 0x5d
unfolding cut cut_by class_of class_in class_rows is_in shape_of shape_code class_number
squares = ((λ u. refl), (λ b e. class-only 16 0x5d tt (λ z. absurd (omega arith)) b e))

curlies : Signs Curly 0x7d
unfolding cut cut_by class_of class_in class_rows is_in shape_of shape_code class_number
curlies = ((λ u. refl), (λ b e. class-only 18 0x7d tt (λ z. absurd (omega arith)) b e))

rounds : Signs Round 0x29
unfolding cut cut_by class_of class_in class_rows is_in shape_of shape_code class_number
rounds = ((λ u. refl), (λ b e. class-only 14 0x29 tt (λ z. absurd (omega arith)) b e))

pub shown-zero : (h : Closer) → shown_by h 0 ≡ 0
unfolding shown_by
shown-zero Square = refl
shown-zero Curly = refl
shown-zero Round = refl
shown-zero Angle = refl
shown-zero Whole = refl
shown-zero Nothing = refl

zero-absent : 0 ≡ indicator_number absent
unfolding indicator_number
zero-absent = refl

-- what is cut from a list that does not begin with the byte of a token's class
not_cut : (k c : ℕ) (w : List ℕ) → ((b : ℕ) → k ≡ class_number (class_of b) → b ≡ c) → ((u : List ℕ) → w ≡ c ∷ u → ⊥) → (h : Closer) (i : Indicator) (r : List ℕ) → shape_code (shape_of h) ≡ k → cut w ≡ ok (closes (shape_of h) i) r → ⊥
unfolding cut
not_cut k c [] o n h i r q e = refuse_not_ok e
not_cut k c (b ∷ u) o n h i r q e = n u (ap (λ (x : ℕ). x ∷ u) (o b (sym q ∙ cut_led b u r (closes (shape_of h) i) e)))

closes_sign : {s : List ℕ} {at : ℕ} {r : Closing} (h : Closer) (c : ℕ) → Signs h c → SignAt s at c r → ClosesAt s at h r
closes_sign {s} {at} {r} h c sg x =
    record {
      yes = λ e.
          let y = x.yes e in
          record {
            by = absent;
            is = x.indicator ∙ zero-absent;
            shown = rw x.indicator (shown-zero h);
            cut_at = record { is = ap cut y.0 ∙ sg.0 (drop (at + 1) (marked s)) ∙ ap (λ (k : ℕ). ok (closes (shape_of h) absent) (drop k (marked s))) (sym x.next); inside = rw x.next y.1; ahead = omega (arith, x.next) };
          };
      no = λ e i u q. not_cut (shape_code (shape_of h)) c (drop at (marked s)) sg.1 (x.no e) h i u refl q;
    }

module _ {s : List ℕ} {at : ℕ} {h : Closer} {r : Closing} where
  pub closes-square : h ≡ Square → SignAt s at 0x5d r → ClosesAt s at h r
  closes-square e x = rw e (closes_sign Square 0x5d squares x)

  pub closes-curly : h ≡ Curly → SignAt s at 0x7d r → ClosesAt s at h r
  closes-curly e x = rw e (closes_sign Curly 0x7d curlies x)

  pub closes_round : h ≡ Round → SignAt s at 0x29 r → ClosesAt s at h r
  closes_round e x = rw e (closes_sign Round 0x29 rounds x)

  pub closes_angle : h ≡ Angle → ClosesAt s at Angle r → ClosesAt s at h r
  closes_angle e x = rw e x

  pub closes-whole : h ≡ Whole → ClosesAt s at Whole r → ClosesAt s at h r
  closes-whole e x = rw e x

  pub closes-nothing : h ≡ Nothing → ClosesAt s at Whole r → ClosesAt s at h r
  unfolding shape_of shown_by
  closes-nothing e x = rw e (record { yes = λ f. let y = x.yes f in record { by = y.by; is = y.is; shown = y.shown; cut_at = y.cut_at }; no = λ f i u q. x.no f i u q })

pub ruleset closes_ways = (closes-square, closes-curly, closes_round, closes_angle, closes-whole, closes-nothing)

-- THE END OF THE TEXT
whole-only : (b : ℕ) → shape_code (shape_of Whole) ≡ class_number (class_of b) → b ≡ 256
unfolding class_of class_in class_rows is_in shape_of shape_code class_number
whole-only b e = class-only 21 256 tt (λ z. absurd (omega arith)) b e

pub end_on : {s : List ℕ} {at : ℕ} {r : Closing} → at < length s → GoesOn (get_or s at 0) at r → ClosesAt s at Whole r
end_on {s} {at} {r} l g =
    let f : r.found ≡ false = ap (λ (x : Closing). x.found) g.is in
    record {
      yes = λ e. absurd (true≢false (sym e ∙ f));
      no = λ e i u q. not_cut (shape_code (shape_of Whole)) 256 (drop at (marked s)) whole-only (λ v z. let k : get_or s at 0 ≡ 256 = cc (at_byte s at l) in omega (arith, g.byte)) Whole i u refl q;
    }

pub end-here : {s : List ℕ} {at : ℕ} → at ≤ length s + 1 → length s ≤ at → ClosesAt s at Whole (record { found = eqb at (length s); next = at + 1; indicator = 0 })
unfolding cut cut_by class_of class_in class_rows is_in shape_of shown_by
end-here {s} {at} h n =
    record {
      yes = λ f.
          let q : at ≡ length s = eqb-true at (length s) f in
          let z : drop (at + 1) (marked s) ≡ [] = past_end s (at + 1) (omega arith) in
          record { by = absent; is = zero-absent; shown = refl; cut_at = record { is = ap cut (at-end s at q) ∙ ap (λ (x : List ℕ). ok (closes whole absent) x) (sym z); inside = omega (arith, length_marked s); ahead = omega arith } };
      no = λ f i u q.
          let m : at ≡ length s → ⊥ = eqb-false at (length s) f in
          refuse_not_ok (sym (ap cut (past_end s at (omega (arith, n, m)))) ∙ q);
    }

-- `>>`
angle_cut : (w : List ℕ) → cut (0x3e ∷ 0x3e ∷ w) ≡ bind (indicator w) (λ i v. ok (closes angle i) v)
unfolding cut cut_by class_of class_in class_rows is_in expect bind
angle_cut w = refl

angle_only : (b : ℕ) → shape_code (shape_of Angle) ≡ class_number (class_of b) → b ≡ 0x3e
unfolding class_of class_in class_rows is_in shape_of shape_code class_number
angle_only b e = class-only 20 0x3e tt (λ z. absurd (omega arith)) b e

module _ {s : List ℕ} {at : ℕ} where
  pub angles_not : {r : Closing} {t : Bool} → Peeked s at 0x3e t → t ≡ false → r ≡ record { found = false; next = at; indicator = 0 } → ClosesAt s at Angle r
  angles_not {r} p e f =
      let g : r.found ≡ false = ap (λ (x : Closing). x.found) f in
      record { yes = λ q. absurd (true≢false (sym q ∙ g)); no = λ q i u z. not_cut (shape_code (shape_of Angle)) 0x3e (drop at (marked s)) angle_only (peek_no p e) Angle i u refl z }

  module _ {t : Bool} (p : Peeked s at 0x3e t) (e : t ≡ true) where
    pub angles_one : {r : Closing} {v : Bool} → Peeked s (at + 1) 0x3e v → v ≡ false → r ≡ record { found = false; next = at; indicator = 0 } → ClosesAt s at Angle r
    unfolding cut cut_by class_of class_in class_rows is_in bind
    angles_one {r} p₂ e₂ f =
        let g : r.found ≡ false = ap (λ (x : Closing). x.found) f in
        record {
          yes = λ q. absurd (true≢false (sym q ∙ g));
          no = λ q i u z. refuse_not_ok (sym (ap cut (peeked_yes p e) ∙ ap (λ (x : Result Unit). bind x (λ o w. bind (indicator w) (λ i v. ok (closes angle i) v))) (expect-no p₂ _ e₂)) ∙ z);
        }

    pub angles_two : {v : Bool} {m : Mark} → Peeked s (at + 1) 0x3e v → v ≡ true → Indicated s (at + 2) m → ClosesAt s at Angle (record { found = true; next = m.next; indicator = m.mark })
    unfolding shape_of shown_by bind
    angles_two {v} {m} p₂ e₂ x =
        let two : at + 1 + 1 ≡ at + 2 = omega arith in
        let q : drop at (marked s) ≡ 0x3e ∷ 0x3e ∷ drop (at + 2) (marked s) = peeked_yes p e ∙ ap (λ (l : List ℕ). 0x3e ∷ l) (peeked_yes p₂ e₂ ∙ ap (λ (k : ℕ). 0x3e ∷ drop k (marked s)) two) in
        record {
          yes = λ f. record { by = x.ind; is = x.mark; shown = refl; cut_at = record { is = ap cut q ∙ angle_cut (drop (at + 2) (marked s)) ∙ ap (λ (R : Result Indicator). bind R (λ i v. ok (closes angle i) v)) x.is; inside = omega (arith, x.inside, length_marked s); ahead = omega (arith, x.ahead) } };
          no = λ f. absurd (true≢false f);
        }

pub angles_behind : {s : List ℕ} {v : Bool} (at : ℕ) → Peeked s (at + 1) 0x3e v → v ≡ true → at + 2 ≤ length s
angles_behind at p e = omega (arith, p.inside e)

pub ruleset angles_ways = (angles_not, angles_one, angles_two)

-- WHAT PARTS TWO ITEMS
comma_cut : (u : List ℕ) → cut (0x2c ∷ u) ≡ ok a_comma u
unfolding cut cut_by class_of class_in class_rows is_in
comma_cut u = refl

colon_cut : (u : List ℕ) → cut (0x3a ∷ u) ≡ ok a_colon u
unfolding cut cut_by class_of class_in class_rows is_in
colon_cut u = refl

comma_only : (b : ℕ) → 11 ≡ class_number (class_of b) → b ≡ 0x2c
unfolding class_of class_in class_rows is_in class_number
comma_only b e = class-only 11 0x2c tt (λ z. absurd (omega arith)) b e

colon_only : (b : ℕ) → 12 ≡ class_number (class_of b) → b ≡ 0x3a
unfolding class_of class_in class_rows is_in class_number
colon_only b e = class-only 12 0x3a tt (λ z. absurd (omega arith)) b e

-- a token of such a code has its class
coded : (c b : ℕ) (u r : List ℕ) (tok : Token) → opens_by c ≡ false → c < 14 → cut (b ∷ u) ≡ ok tok r → code_of tok ≡ c → c ≡ class_number (class_of b)
unfolding code_of
coded c b u r (begins g) o l e q = absurd (begin_not g c o q)
coded c b u r (closes h i) o l e q = absurd (omega (arith, shape_low h))
coded c b u r a_comma o l e q = sym q ∙ cut_led b u r a_comma e
coded c b u r a_colon o l e q = sym q ∙ cut_led b u r a_colon e

separator_at : {s : List ℕ} {at : ℕ} {h : Closer} {k t : Bool} (c : ℕ) (tok : Token) → opens_by c ≡ false → c < 14 → ((b : ℕ) → c ≡ class_number (class_of b) → b ≡ separator_byte k) → ((u : List ℕ) → cut (separator_byte k ∷ u) ≡ ok tok u) → code_of tok ≡ c
    → separator_code h k ≡ c → Peeked s at (separator_byte k) t → SeparatesAt s at h k t
unfolding cut
separator_at {s} {at} {h} {k} {t} c tok o l only cuts z q p =
    record {
      here = peeked_yes p;
      inside = λ e. omega (arith, p.inside e);
      yes = λ e. record { tok = tok; cut_at = record { is = ap cut (peeked_yes p e) ∙ cuts (drop (at + 1) (marked s)); inside = omega (arith, p.inside e, length_marked s); ahead = omega arith }; is = z ∙ sym q };
      no = λ e. never (drop at (marked s)) (peek_no p e);
    }
  where
    never : (w : List ℕ) → ((u : List ℕ) → w ≡ separator_byte k ∷ u → ⊥) → (tok : Token) (u : List ℕ) → cut w ≡ ok tok u → code_of tok ≡ separator_code h k → ⊥
    never [] n tok u e f = refuse_not_ok e
    never (b ∷ w) n tok u e f = n w (ap (λ (x : ℕ). x ∷ w) (only b (coded c b w u tok o l e (f ∙ q))))

no-token : (tok : Token) → code_of tok ≡ 0 → ⊥
unfolding code_of opens_by
no-token tok e = omega (arith, code-some tok)

parts_some : {s : List ℕ} {at : ℕ} {h : Closer} {t : Bool} (k : Bool) → comma_code h ≡ 11 → colon_code h ≡ 12 → Peeked s at (separator_byte k) t → SeparatesAt s at h k t
unfolding separator_byte separator_code code_of opens_by
parts_some true e f p = separator_at 12 a_colon refl (omega arith) colon_only colon_cut refl f p
parts_some false e f p = separator_at 11 a_comma refl (omega arith) comma_only comma_cut refl e p

parts_none : {s : List ℕ} {at : ℕ} {h : Closer} (k : Bool) → comma_code h ≡ 0 → colon_code h ≡ 0 → SeparatesAt s at h k false
unfolding separator_code
parts_none true e f = record { here = λ g. absurd (true≢false (sym g)); inside = λ g. absurd (true≢false (sym g)); yes = λ g. absurd (true≢false (sym g)); no = λ g tok u q z. no-token tok (z ∙ f) }
parts_none false e f = record { here = λ g. absurd (true≢false (sym g)); inside = λ g. absurd (true≢false (sym g)); yes = λ g. absurd (true≢false (sym g)); no = λ g tok u q z. no-token tok (z ∙ e) }

-- a byte that stands there parts the items of those lists that have it
parts_yes : {s : List ℕ} {at : ℕ} (h : Closer) (k : Bool) → Peeked s at (separator_byte k) true → SeparatesAt s at h k (may_separate h)
unfolding may_separate comma_code colon_code
parts_yes Square k p = parts_some k refl refl p
parts_yes Curly k p = parts_some k refl refl p
parts_yes Angle k p = parts_some k refl refl p
parts_yes Whole k p = parts_some k refl refl p
parts_yes Round k p = parts_none k refl refl
parts_yes Nothing k p = parts_none k refl refl

parts_not : {s : List ℕ} {at : ℕ} (h : Closer) (k : Bool) → Peeked s at (separator_byte k) false → SeparatesAt s at h k false
unfolding comma_code colon_code
parts_not Square k p = parts_some k refl refl p
parts_not Curly k p = parts_some k refl refl p
parts_not Angle k p = parts_some k refl refl p
parts_not Whole k p = parts_some k refl refl p
parts_not Round k p = parts_none k refl refl
parts_not Nothing k p = parts_none k refl refl

module _ {s : List ℕ} {at c : ℕ} {k t : Bool} (e : c ≡ separator_byte k) (p : Peeked s at c t) where
  pub separates-yes : {h : Closer} {m : Bool} → t ≡ true → m ≡ may_separate h → SeparatesAt s at h k m
  separates-yes {h} f q = rw q (parts_yes h k (rw (f, e) at p))

  pub separates_not : {h : Closer} → t ≡ false → SeparatesAt s at h k false
  separates_not {h} f = parts_not h k (rw (f, e) at p)

-- what a closing token, or none, makes of it
module _ {c : Closing} where
  pub ended-over : c.found ≡ true → Ends c (record { follow = Over; next = c.next; indicator = c.indicator })
  ended-over e = record { over = λ f. (refl, refl, refl); stray = λ f. absurd (true≢false (sym e ∙ f)) }

  pub ended-stray : c.found ≡ false → Ends c (record { follow = Stray; next = c.next; indicator = 0 })
  ended-stray e = record { over = λ f. absurd (true≢false (sym f ∙ e)); stray = λ f. refl }

pub ruleset ended_ways = (ended-over, ended-stray)

pub ruleset separates_ways = (separates-yes, separates_not)

-- the three that can follow are not the same
on-over : On ≡ Over → ⊥
on-over e = let z : ◌≡◌ {A = ℕ} 0 1 = cc in omega arith

on-stray : On ≡ Stray → ⊥
on-stray e = let z : ◌≡◌ {A = ℕ} 0 1 = cc in omega arith

over-stray : Over ≡ Stray → ⊥
over-stray e = let z : ◌≡◌ {A = ℕ} 0 1 = cc in omega arith

shape_back : (h : Shape) → shape_for (shape_code h) ≡ h
unfolding shape_for shape_code
shape_back square = refl
shape_back curly = refl
shape_back round = refl
shape_back angle = refl
shape_back whole = refl

-- a token with the code of what closes is that token
pub closing_is : (h : Shape) (tok : Token) → code_of tok ≡ shape_code h → (i : Indicator) × (tok ≡ closes h i)
unfolding code_of
closing_is h (begins g) q = absurd (begin_close g h q)
closing_is h (closes h' i) q = (i, ap (λ (x : Shape). closes x i) (sym (shape_back h') ∙ ap shape_for q ∙ shape_back h))
closing_is h a_comma q = absurd (omega (arith, shape_low h))
closing_is h a_colon q = absurd (omega (arith, shape_low h))

closing_not : (w : List ℕ) (h : Closer) (tok : Token) (u : List ℕ) → cut w ≡ ok tok u → code_of tok ≡ shape_code (shape_of h) → ((i : Indicator) (u : List ℕ) → cut w ≡ ok (closes (shape_of h) i) u → ⊥) → ⊥
closing_not w h tok u e q n = let c = closing_is (shape_of h) tok q in n c.0 u (e ∙ ap (λ (t : Token). ok t u) c.1)

-- FROM A PLACE BEFORE BLANKS AND COMMENTS
pub skip-inside : {s : List ℕ} {from at : ℕ} → Skips s from at → at ≤ length s + 1
skip-inside {s} sk = omega (arith, sk.stands.inside, length_marked s)

pub follow-single : {s : List ℕ} {from : ℕ} {h : Closer} {k v : Bool} {g : Follower} → v ≡ is_single h → v ≡ true → g ≡ record { follow = Over; next = from; indicator = 0 } → Follows s from h k g
follow-single e f q =
    rw q (record { on = λ z. absurd (on-over (sym z)); single = λ z w. (refl, refl); over = λ z w. absurd (true≢false (sym f ∙ e ∙ w)); stray = λ z. absurd (over-stray z) })

pub first-none : {s : List ℕ} {from : ℕ} {h : Closer} {r : Closing} {v : Bool} → v ≡ may_be_empty h → v ≡ false → r ≡ record { found = false; next = from; indicator = 0 } → StartsAt s from h r
first-none {r = r} e f q =
    let g : r.found ≡ false = ap (λ (x : Closing). x.found) q in
    record { yes = λ z. absurd (true≢false (sym z ∙ g)); no = λ z m i u w. true≢false (sym m ∙ sym e ∙ f) }

module _ {s : List ℕ} {from at : ℕ} (sk : Skips s from at) where
  pub first-closes : {h : Closer} {r : Closing} {v : Bool} → v ≡ may_be_empty h → v ≡ true → ClosesAt s at h r → StartsAt s from h r
  first-closes {h} e f x =
      record {
        yes = λ q. let y = x.yes q in record { may = sym e ∙ f; by = y.by; is = y.is; shown = y.shown; next_at = next-cut sk y.cut_at };
        no = λ q m i u z. x.no q i u (next-ok sk (closes (shape_of h) i) u z);
      }

  module _ {h : Closer} {k : Bool} (n : is_single h ≡ false) where
    pub follow-on : {t : Bool} {g : Follower} → SeparatesAt s at h k t → t ≡ true → g ≡ record { follow = On; next = at + 1; indicator = 0 } → Follows s from h k g
    follow-on x f q =
        let y = x.yes f in
        rw q (record {
          on = λ q. record { several = n; tok = y.tok; next_at = next-cut sk y.cut_at; is = y.is };
          single = λ q z. absurd (true≢false (sym z ∙ n));
          over = λ q z. absurd (on-over q);
          stray = λ q. absurd (on-stray q);
        })

    module _ {t : Bool} (x : SeparatesAt s at h k t) (f : t ≡ false) where
      apart : (tok : Token) (u : List ℕ) → next (drop from (marked s)) ≡ ok tok u → code_of tok ≡ separator_code h k → ⊥
      apart tok u q z = x.no f tok u (next-ok sk tok u q) z

      pub follow-key : k ≡ true → Follows s from h k (record { follow = Stray; next = at; indicator = 0 })
      unfolding closer_code
      follow-key q =
          record {
            on = λ z. absurd (on-stray (sym z));
            single = λ z w. absurd (over-stray (sym z));
            over = λ z w. absurd (over-stray (sym z));
            stray = λ z. record { several = n; separates = apart; closes = λ tok u w y. no-token tok (y ∙ rw q) };
          }

      pub follow-end : {c : Closing} {g : Follower} → k ≡ false → ClosesAt s at h c → Ends c g → Follows s from h k g
      unfolding closer_code
      follow-end {c} {g} kf y en = go c.found refl
        where
          go : (v : Bool) → c.found ≡ v → Follows s from h k g
          go true q =
              let o = en.over q in
              let cl = y.yes q in
              record {
                on = λ z. absurd (on-over (sym z ∙ o.0));
                single = λ z w. absurd (true≢false (sym w ∙ n));
                over = λ z w. (kf, record { by = cl.by; is = o.2 ∙ cl.is; shown = rw o.2 cl.shown; next_at = rw o.1 (next-cut sk cl.cut_at) });
                stray = λ z. absurd (over-stray (sym o.0 ∙ z));
              }
          go false q =
              let o = en.stray q in
              record {
                on = λ z. absurd (on-stray (sym z ∙ o));
                single = λ z w. absurd (over-stray (sym z ∙ o));
                over = λ z w. absurd (over-stray (sym z ∙ o));
                stray = λ z. record { several = n; separates = apart; closes = λ tok u w z. closing_not (drop at (marked s)) h tok u (next-ok sk tok u w) (z ∙ rw kf) (y.no q) };
              }

-- AT ONCE: neither a blank nor a comment stands there
abbrev Firm : ℕ → Bool
Firm b = leb b 0x20 || (eqb b 0x23 || (eqb b 0x2f || not (is blank b || (is slash b || is hash b))))

all_firm : T (every (λ b x. Firm b) 0 (replicate 257 0))
unfolding is class_number class_of class_in class_rows is_in
all_firm = tt

stop_here : (b : ℕ) (u : List ℕ) → is blank b ≡ false → is slash b ≡ false → is hash b ≡ false → skipped apart-from-tokens b u ≡ stops (b ∷ u)
unfolding skipped
stop_here b u e f g = simp (skipped, e, f, g)

skip-here : (b : ℕ) (u : List ℕ) → skipped apart-from-tokens b u ≡ stops (b ∷ u) → skip (b ∷ u) ≡ b ∷ u
unfolding skip skip_from
skip-here b u e = rw (e, skip_from)

firm_skip : (b : ℕ) (u : List ℕ) → Solid b → b < 256 → skip (b ∷ u) ≡ b ∷ u
firm_skip b u l m = go (is blank b) (is slash b) (is hash b) refl refl refl
  where
    firm : not (is blank b || (is slash b || is hash b)) ≡ true
    firm = rw (lt-leb b 0x20 l.above, ne_eqb b 0x23 l.hash, ne_eqb b 0x2f l.slash) at (is_true (Firm b) (between Firm 0 257 all_firm b (omega arith) (omega arith)))

    go : (x y z : Bool) → is blank b ≡ x → is slash b ≡ y → is hash b ≡ z → skip (b ∷ u) ≡ b ∷ u
    go true y z e f g = absurd (true≢false (sym (rw e at firm)))
    go false true z e f g = absurd (true≢false (sym (rw (e, f) at firm)))
    go false false true e f g = absurd (true≢false (sym (rw (e, f, g) at firm)))
    go false false false e f g = skip-here b u (stop_here b u e f g)

parted_skip : (k : Bool) (u : List ℕ) → skip (separator_byte k ∷ u) ≡ separator_byte k ∷ u
unfolding separator_byte skip skip_from skipped is class_number class_of class_in class_rows is_in
parted_skip true u = refl
parted_skip false u = refl

skips-here : {s : List ℕ} {at b : ℕ} → at < length (marked s) → drop at (marked s) ≡ b ∷ drop (at + 1) (marked s) → skip (b ∷ drop (at + 1) (marked s)) ≡ b ∷ drop (at + 1) (marked s) → Skips s at at
skips-here l e f = record { stands = record { inside = omega arith; drops = e ∙ sym (ap skip e ∙ f) }; ahead = omega arith }

pub follow-at_once : {s : List ℕ} {from : ℕ} {h : Closer} {k v t : Bool} {g : Follower} → v ≡ is_single h → v ≡ false → SeparatesAt s from h k t → t ≡ true → g ≡ record { follow = On; next = from + 1; indicator = 0 } → Follows s from h k g
follow-at_once {s} {from} {k = k} e n x f q =
    let sk : Skips s from from = skips-here (omega (arith, (x.yes f).cut_at.inside)) (x.here f) (parted_skip k (drop (from + 1) (marked s))) in
    follow-on sk (sym e ∙ n) x f q

pub room-here : (s : List ℕ) {at : ℕ} → at ≤ length (marked s) → at ≤ length s + 1
room-here s l = omega (arith, length_marked s)

-- no other byte begins what closes
closing_only : (h : Closer) (b : ℕ) → b < 256 → shape_code (shape_of h) ≡ class_number (class_of b) → b ≡ closing_byte h
unfolding closing_byte shape_of
closing_only Square b l e = squares.1 b e
closing_only Curly b l e = curlies.1 b e
closing_only Round b l e = rounds.1 b e
closing_only Angle b l e = angle_only b e
closing_only Whole b l e = absurd (omega (arith, whole-only b e))
closing_only Nothing b l e = absurd (omega (arith, whole-only b e))

module _ {b c : ℕ} (l : b < 256) where
  pub firm_no : IsFirm b c false
  firm_no = record { byte = l; solid = λ e. absurd (true≢false (sym e)); other = λ e. absurd (true≢false (sym e)) }

  pub firm_yes : 0x20 < b → (b ≡ 0x23 → ⊥) → (b ≡ 0x2f → ⊥) → IsFirm b c (not (eqb b c))
  firm_yes g h k = record { byte = l; solid = λ e. record { above = g; hash = h; slash = k }; other = λ e q. true≢false (sym e ∙ ap not (eq-eqb b c q)) }

pub differs_is : {b c : ℕ} → b < 256 → Differs b c (not (eqb b c))
differs_is {b} {c} l = record { byte = l; other = λ e q. true≢false (sym e ∙ ap not (eq-eqb b c q)) }

module _ {s : List ℕ} {at : ℕ} {h : Closer} where
  pub open_not : OpenAt s at h false
  open_not = record { is = λ e. absurd (true≢false (sym e)) }

  pub open_yes : {c : ℕ} {t : Bool} → at < length s → c ≡ closing_byte h → Differs (get_or s at 0) c t → OpenAt s at h t
  unfolding code_of
  open_yes {c} {t} l e x =
      record {
        is = λ f i u q.
            let b = get_or s at 0 in
            x.other f (closing_only h b x.byte (cut_led b (drop (at + 1) (marked s)) u (closes (shape_of h) i) (ap cut (sym (at_byte s at l)) ∙ q)) ∙ sym e);
      }

  pub closes_open : {t : Bool} {r : Closing} → OpenAt s at h t → t ≡ true → r ≡ record { found = false; next = at; indicator = 0 } → ClosesAt s at h r
  closes_open {r = r} x f q =
      let g : r.found ≡ false = ap (λ (y : Closing). y.found) q in
      record { yes = λ z. absurd (true≢false (sym z ∙ g)); no = λ z i u w. x.is f i u w }

pub ruleset open_ways = (open_not, open_yes)

-- a sign that closes, with nothing to skip before it
sign_once : {s : List ℕ} {at : ℕ} {k t : Bool} (h : Closer) (c : ℕ) → Signs h c → ((u : List ℕ) → skip (c ∷ u) ≡ c ∷ u) → k ≡ false → Peeked s at c t → ClosesAtOnce s at h k t
sign_once {s} {at} h c sg f e p =
    record {
      key = λ z. e;
      skips = λ z. skips-here (omega (arith, p.inside z, length_marked s)) (peeked_yes p z) (f (drop (at + 1) (marked s)));
      closed = λ z. (closes_sign h c sg (sign_is p)).yes z;
      inside = λ z. omega (arith, p.inside z);
    }

square-skip : (u : List ℕ) → skip (0x5d ∷ u) ≡ 0x5d ∷ u
unfolding skip skip_from skipped is class_number class_of class_in class_rows is_in
square-skip u = refl

curly-skip : (u : List ℕ) → skip (0x7d ∷ u) ≡ 0x7d ∷ u
unfolding skip skip_from skipped is class_number class_of class_in class_rows is_in
curly-skip u = refl

round_skip : (u : List ℕ) → skip (0x29 ∷ u) ≡ 0x29 ∷ u
unfolding skip skip_from skipped is class_number class_of class_in class_rows is_in
round_skip u = refl

signs_once : {s : List ℕ} {at : ℕ} {k t : Bool} (h : Closer) → has_sign h ≡ true → k ≡ false → Peeked s at (closing_byte h) t → ClosesAtOnce s at h k t
unfolding has_sign closing_byte
signs_once Square m e p = sign_once Square 0x5d squares square-skip e p
signs_once Curly m e p = sign_once Curly 0x7d curlies curly-skip e p
signs_once Round m e p = sign_once Round 0x29 rounds round_skip e p
signs_once Angle m e p = absurd (true≢false (sym m))
signs_once Whole m e p = absurd (true≢false (sym m))
signs_once Nothing m e p = absurd (true≢false (sym m))

module _ {s : List ℕ} {at : ℕ} {h : Closer} {k : Bool} where
  pub closes_once_not : ClosesAtOnce s at h k false
  closes_once_not = record { key = λ e. absurd (true≢false (sym e)); skips = λ e. absurd (true≢false (sym e)); closed = λ e. absurd (true≢false (sym e)); inside = λ e. absurd (true≢false (sym e)) }

  pub closes_once_yes : {c : ℕ} {m t : Bool} → m ≡ has_sign h → m ≡ true → k ≡ false → c ≡ closing_byte h → Peeked s at c t → ClosesAtOnce s at h k t
  closes_once_yes m n e q p = signs_once h (sym m ∙ n) e (rw q at p)

  pub follow-closed : {v t : Bool} {f : Follower} → v ≡ is_single h → v ≡ false → ClosesAtOnce s at h k t → t ≡ true → f ≡ record { follow = Over; next = at + 1; indicator = 0 } → Follows s at h k f
  follow-closed e n x z q =
      let cl = x.closed z in
      rw q (record {
        on = λ y. absurd (on-over (sym y));
        single = λ y w. absurd (true≢false (sym w ∙ sym e ∙ n));
        over = λ y w. (x.key z, record { by = cl.by; is = cl.is; shown = cl.shown; next_at = next-cut (x.skips z) cl.cut_at });
        stray = λ y. absurd (over-stray y);
      })

pub ruleset closes_once_ways = (closes_once_not, closes_once_yes)

module _ {s : List ℕ} {at : ℕ} {h : Closer} where
  pub once_not : StartsAtOnce s at h false
  once_not = record { is = λ e. absurd (true≢false (sym e)) }

  pub once_yes : {c : ℕ} {t : Bool} → at < length s → c ≡ closing_byte h → IsFirm (get_or s at 0) c t → StartsAtOnce s at h t
  unfolding code_of
  once_yes {c} {t} l e x =
      record {
        is = λ f.
            let b = get_or s at 0 in
            let w : drop at (marked s) ≡ b ∷ drop (at + 1) (marked s) = at_byte s at l in
            let sk : Skips s at at = skips-here (omega (arith, length_marked s)) w (firm_skip b (drop (at + 1) (marked s)) (x.solid f) x.byte) in
            record {
              yes = λ z. absurd (true≢false (sym z));
              no = λ z y i u v.
                  let k : cut (b ∷ drop (at + 1) (marked s)) ≡ ok (closes (shape_of h) i) u = ap cut (sym w) ∙ next-ok sk (closes (shape_of h) i) u v in
                  x.other f (closing_only h b x.byte (cut_led b (drop (at + 1) (marked s)) u (closes (shape_of h) i) k) ∙ sym e);
            };
      }

pub first_once : {s : List ℕ} {from : ℕ} {h : Closer} {r : Closing} {v : Bool} → StartsAtOnce s from h v → v ≡ true → r ≡ record { found = false; next = from; indicator = 0 } → StartsAt s from h r
first_once x f q = rw q (x.is f)

pub ruleset firm_ways = (firm_no, firm_yes)

pub ruleset once_ways = (once_not, once_yes)

pub ruleset first_ways = (first-none, first-closes, first_once)

pub ruleset blank_ways = (follow-on, follow-key, follow-end)

pub ruleset follow_ways = (follow-single, follow-at_once, follow-closed)

pub several_still : (h : Closer) {v : Bool} → v ≡ is_single h → v ≡ false → is_single h ≡ false
several_still h e f = sym e ∙ f
