-- Digits and amounts: what the code knows at each return and each turn of a loop, and that this is what the definitions say.
-- Assumes nothing.
use mathlib.Core.Path.{◌≡◌, refl, sym, subst, ap, ◌∙◌}
use mathlib.Core.List.{List, [], ◌∷◌, ◌++◌}
use mathlib.Core.Logic.{◌⊎◌, inl, inr}
use mathlib.Core.Bool.{Bool, true, false, ◌&&◌, ◌||◌}
use Prim.Native.Nat.{ℕ, ◌+◌, ◌-◌, ◌*◌, ◌≤◌, ◌<◌}
use native.Mathlib.Nat.{le-div_iff_mul-le, div-lt_iff_lt-mul, mul-le-mul_left, add-mul, one-mul}
use native.Mathlib.Omega.{arith}
use lib.Dec.{leb, ltb, eqb}
use lib.ListN.{length, drop, get_or}
use mir.Syntax.{w64 as bits64}
use mir.Val.{Fits}
use borrow.Author.Tests.{le-leb, lt-leb, leb-true, leb-false, le-ltb, ne_eqb}
use Rattle.cbor.specs.Widths.{w8, limit}
use Rattle.cbor.specs.Utf8.{is_in}
use Rattle.notation.specs.Numbers.{digit_value, is_digit, number_from, makes_float, is_floating}
use Rattle.notation.specs.Reading.{marked}
use Rattle.scanning.specs.Stands.{span}
use Rattle.literal_body.specs.LiteralAnswers.{digit_number}
use Rattle.amounts.specs.AmountAnswers.{heavy, Counts, Base, bound64, Grown, float_at, ScansDigits, Counted}
use Rattle.amounts.specs.declared.Amount.{Amount}
use Rattle.literal_body.proofs.LiteralCode.{digit-yes, digit-no, digit-number}
use Rattle.scanning.proofs.Marked.{length_marked, at_byte, byte_at, at-end, past_end, span_none, span_more, Running, run-start, run_step, run_stop, run_end}

-- THE LIMIT
same_test : (a b c d : ℕ) → (a ≤ b → c ≤ d) → (c ≤ d → a ≤ b) → leb a b ≡ leb c d
same_test a b c d f g = go (leb a b) refl
  where
    go : (t : Bool) → leb a b ≡ t → t ≡ leb c d
    go true e = sym (le-leb c d (f (leb-true a b e)))
    go false e = let l = leb-false a b e in sym (lt-leb c d (less (leb c d) refl l))
      where
        less : (t : Bool) → leb c d ≡ t → b < a → d < c
        less true q l = let m = g (leb-true c d q) in absurd (omega arith)
        less false q l = leb-false c d q

module _ {radix d : ℕ} (v : ℕ) (base : Base radix d) {b : ℕ} (e : b ≡ bound64 radix) where
  pub limit-over : b < v → leb v b ≡ leb (v * radix + d) (limit w8)
  unfolding bound64 limit
  limit-over h =
      let l = (div-lt_iff_lt-mul {k = radix} {x = 0xffff_ffff_ffff_ffff} {y = v} (omega (arith, base.least))).0 (rw (sym e) h) in
      lt-leb v b h ∙ sym (lt-leb (v * radix + d) 0xffff_ffff_ffff_ffff (omega arith))

  module _ (h : v ≤ b) where
    pub limit_sub : v * radix ≤ 0xffff_ffff_ffff_ffff
    unfolding bound64 limit
    limit_sub = (le-div_iff_mul-le {k = radix} {x = v} {y = 0xffff_ffff_ffff_ffff} (omega (arith, base.least))).0 (rw (sym e) h)

    pub limit_mul : Fits bits64 (v * radix)
    limit_mul = record { fits = omega (arith, limit_sub) }

    pub limit_is : leb d (0xffff_ffff_ffff_ffff - v * radix) ≡ leb (v * radix + d) (limit w8)
    unfolding limit
    limit_is = same_test d (0xffff_ffff_ffff_ffff - v * radix) (v * radix + d) 0xffff_ffff_ffff_ffff (λ l. omega (arith, limit_sub)) (λ l. omega (arith, limit_sub))

module _ {radix d : ℕ} (v : ℕ) (base : Base radix d) where
  pub nearly_digit : (t : Bool) → 0 < d → t ≡ leb (v * radix + (d - 1)) (limit w8) → t ≡ leb (v * radix + d) 0x1_0000_0000_0000_0000
  unfolding limit
  nearly_digit t h e = e ∙ same_test (v * radix + (d - 1)) 0xffff_ffff_ffff_ffff (v * radix + d) 0x1_0000_0000_0000_0000 (λ l. omega arith) (λ l. omega arith)

  pub nearly_zero : (t : Bool) → d ≤ 0 → (v ≡ 0 → ⊥) → t ≡ leb ((v - 1) * radix + (radix - 1)) (limit w8) → t ≡ leb (v * radix + d) 0x1_0000_0000_0000_0000
  unfolding limit
  nearly_zero t h n e =
      let q : v ≡ (v - 1) + 1 = omega (arith, n) in
      let p : v * radix ≡ (v - 1) * radix + radix = ap (λ (k : ℕ). k * radix) q ∙ (add-mul (v - 1) 1 radix ∙ ap (λ (k : ℕ). (v - 1) * radix + k) (one-mul radix)) in
      e ∙ same_test ((v - 1) * radix + (radix - 1)) 0xffff_ffff_ffff_ffff (v * radix + d) 0x1_0000_0000_0000_0000
      (λ l. omega (arith, p, base.least)) (λ l. omega (arith, p, base.least))

-- AMOUNTS
module _ (a : Amount) {radix d : ℕ} (base : Base radix d) where
  counted : {n : ℕ} → Counts a n → a.over ≡ false → n ≡ a.value
  unfolding heavy
  counted c e = let i = rw e at c.is in omega (arith, c.small)

  pub grow_over : a.over ≡ true → Grown a radix d (record { value = 1; over = true })
  unfolding heavy
  grow_over e =
      record { is = λ n c. let i = rw e at c.is in record { is = omega (arith, mul-le-mul_left n base.least); small = omega arith } }

  module _ (e : a.over ≡ false) (t : Bool) (h : t ≡ leb (a.value * radix + d) (limit w8)) where
    value-is : {n : ℕ} → Counts a n → n * radix ≡ a.value * radix
    value-is c = ap (λ (k : ℕ). k * radix) (counted c e)

    within : t ≡ true → a.value * radix + d ≤ 0xffff_ffff_ffff_ffff
    unfolding limit
    within f = leb-true (a.value * radix + d) 0xffff_ffff_ffff_ffff (sym h ∙ f)

    beyond : t ≡ false → 0xffff_ffff_ffff_ffff < a.value * radix + d
    unfolding limit
    beyond f = leb-false (a.value * radix + d) 0xffff_ffff_ffff_ffff (sym h ∙ f)

    pub grow_mul : t ≡ true → Fits bits64 (a.value * radix)
    grow_mul f = record { fits = omega (arith, within f) }

    pub grow_add : t ≡ true → Fits bits64 (a.value * radix + d)
    grow_add f = record { fits = omega (arith, within f) }

    pub grow_fits : t ≡ true → Grown a radix d (record { value = a.value * radix + d; over = false })
    unfolding heavy
    grow_fits f = record { is = λ n c. record { is = omega (arith, value-is c, within f); small = within f } }

    pub grow_nearly : (u : Bool) → t ≡ false → u ≡ leb (a.value * radix + d) 0x1_0000_0000_0000_0000 → u ≡ true → Grown a radix d (record { value = 0; over = true })
    unfolding heavy
    grow_nearly u f g k =
        let l = leb-true (a.value * radix + d) 0x1_0000_0000_0000_0000 (sym g ∙ k) in
        record { is = λ n c. record { is = omega (arith, value-is c, beyond f); small = omega arith } }

    pub grow_above : (u : Bool) → t ≡ false → u ≡ leb (a.value * radix + d) 0x1_0000_0000_0000_0000 → u ≡ false → Grown a radix d (record { value = 1; over = true })
    unfolding heavy
    grow_above u f g k =
        let l = leb-false (a.value * radix + d) 0x1_0000_0000_0000_0000 (sym g ∙ k) in
        record { is = λ n c. record { is = omega (arith, value-is c); small = omega arith } }

  -- a number that is small
  module _ (h : a.value ≤ 0x0fff_ffff_ffff_ffff) where
    sure_within : a.value * radix + d ≤ 0xffff_ffff_ffff_ffff
    sure_within = omega (arith, mul-le-mul_left a.value base.most, base.digit, base.most)

    pub sure_grown : a.over ≡ false → Grown a radix d (record { value = a.value * radix + d; over = false })
    unfolding limit
    sure_grown e = grow_fits e true (sym (le-leb (a.value * radix + d) 0xffff_ffff_ffff_ffff sure_within)) refl

pub ruleset grow_ways = (grow_over, grow_fits, grow_nearly, grow_above)

-- DIGITS: the state of the loop
pub record Tallying (s : List ℕ) (i radix first at : ℕ) (a : Amount) : Type 0 where
  pub running : Running s (is_digit radix) i at
  pub counts : Counts a (number_from radix first (span i at (marked s)))
  pub floats : is_floating radix (drop i (marked s)) ≡ is_floating radix (drop at (marked s))
  pub least : 2 ≤ radix
  pub most : radix ≤ 16

number_snoc : (radix v : ℕ) (l : List ℕ) (b : ℕ) → number_from radix v (l ++ (b ∷ [])) ≡ number_from radix v l * radix + digit_value b
unfolding number_from
number_snoc radix v [] b = refl
number_snoc radix v (c ∷ l) b = number_snoc radix (v * radix + digit_value c) l b

module _ {s : List ℕ} {i radix first : ℕ} where
  pub tally_start : ScansDigits s i radix first → Tallying s i radix first i (record { value = first; over = false })
  unfolding heavy number_from
  tally_start h =
      record {
        running = run-start s (is_digit radix) i h.inside;
        counts = rw (span_none i (marked s)) (record { is = omega (arith, h.start); small = omega (arith, h.start) });
        floats = refl;
        least = h.least;
        most = h.most;
      }

  module _ {at : ℕ} {a : Amount} (m : Tallying s i radix first at a) where
    module _ {d : ℕ} (h : at < length s) (e : d ≡ digit_number (get_or s at 0)) where
      pub tally_step : {a' : Amount} → d < radix → Grown a radix d a' → Tallying s i radix first (at + 1) a'
      unfolding is_floating
      tally_step {a'} l g =
          let l' : digit_number (get_or s at 0) < radix = rw (sym e) l in
          let t = digit-yes radix (get_or s at 0) l' (omega (arith, m.most)) in
          let n = number_from radix first (span i at (marked s)) in
          let c : number_from radix first (span i (at + 1) (marked s)) ≡ n * radix + d =
          ap (number_from radix first) (span_more i at (marked s) m.running.ahead (omega (arith, length_marked s)))
          ∙ (number_snoc radix first (span i at (marked s)) (get_or (marked s) at 0)
          ∙ ap (λ (k : ℕ). n * radix + k) (ap digit_value (byte_at s at h) ∙ sym (e ∙ digit-number radix (get_or s at 0) t))) in
          record {
            running = run_step s (is_digit radix) i m.running h t;
            counts = rw c (g.is n m.counts);
            floats = m.floats ∙ (rw (at_byte s at h) (rw (t, is_floating)));
            least = m.least;
            most = m.most;
          }

      pub tally_stop : radix ≤ d → Counted s i radix first (record { amount = a; next = at })
      unfolding is_floating float_at
      tally_stop l =
          let l' : radix ≤ digit_number (get_or s at 0) = rw (sym e) l in
          let t = digit-no radix (get_or s at 0) l' in
          record { ran = run_stop s (is_digit radix) i m.running h t; counts = m.counts; floats = m.floats ∙ (rw (at_byte s at h) (rw (t, is_floating))) }

    pub tally_end : length s ≤ at → Counted s i radix first (record { amount = a; next = length s })
    unfolding is_digit is_floating float_at is_in
    tally_end l =
        let e : at ≡ length s = omega (arith, m.running.inside) in
        subst (λ (k : ℕ). Counted s i radix first (record { amount = a; next = k })) e (record { ran = run_end s (is_digit radix) i m.running l refl; counts = m.counts; floats = m.floats ∙ (rw (at-end s at e)) })

-- FLOATS
module _ (radix b : ℕ) where
  pub float_ten : radix ≡ 10 → (b ≡ 0x2e) ⊎ ((b ≡ 0x45) ⊎ (b ≡ 0x65)) → true ≡ makes_float radix b
  unfolding makes_float
  float_ten e (inl f) = rw (e, f)
  float_ten e (inr (inl f)) = rw (e, f)
  float_ten e (inr (inr f)) = rw (e, f)

  pub float_sixteen : radix ≡ 16 → (b ≡ 0x2e) ⊎ ((b ≡ 0x50) ⊎ (b ≡ 0x70)) → true ≡ makes_float radix b
  unfolding makes_float
  float_sixteen e (inl f) = rw (e, f)
  float_sixteen e (inr (inl f)) = rw (e, f)
  float_sixteen e (inr (inr f)) = rw (e, f)

  pub float_ten_none : radix ≡ 10 → (b ≡ 0x2e → ⊥) → (b ≡ 0x65 → ⊥) → (b ≡ 0x45 → ⊥) → false ≡ makes_float radix b
  unfolding makes_float
  float_ten_none e n₁ n₂ n₃ = rw e (rw (ne_eqb b 0x2e n₁, ne_eqb b 0x65 n₂, ne_eqb b 0x45 n₃))

  pub float_sixteen_none : radix ≡ 16 → (b ≡ 0x2e → ⊥) → (b ≡ 0x70 → ⊥) → (b ≡ 0x50 → ⊥) → false ≡ makes_float radix b
  unfolding makes_float
  float_sixteen_none e n₁ n₂ n₃ = rw e (rw (ne_eqb b 0x2e n₁, ne_eqb b 0x70 n₂, ne_eqb b 0x50 n₃))

  pub float-other : (radix ≡ 10 → ⊥) → (radix ≡ 16 → ⊥) → false ≡ makes_float radix b
  unfolding makes_float
  float-other n₁ n₂ = rw (ne_eqb radix 10 n₁, ne_eqb radix 16 n₂) (go (eqb b 0x2e))
    where
      go : (t : Bool) → false ≡ ((t && (false || false)) || ((false && (eqb b 0x65 || eqb b 0x45)) || (false && (eqb b 0x70 || eqb b 0x50))))
      go true = refl
      go false = refl

pub float-end : (s : List ℕ) (at radix : ℕ) → length s ≤ at → ltb at (length s) ≡ float_at radix (drop at (marked s))
unfolding float_at makes_float
float-end s at radix h = le-ltb at (length s) h ∙ go (leb at (length s)) refl
  where
    none : (u v : Bool) → false ≡ ((false && (u || v)) || ((u && (false || false)) || (v && (false || false))))
    none true true = refl
    none true false = refl
    none false true = refl
    none false false = refl

    go : (t : Bool) → leb at (length s) ≡ t → false ≡ float_at radix (drop at (marked s))
    go true q = let f : at ≡ length s = omega (arith, leb-true at (length s) q) in rw (at-end s at f) (none (eqb radix 10) (eqb radix 16))
    go false q = rw (past_end s at (leb-false at (length s) q))

pub float-at : (s : List ℕ) (at radix : ℕ) (t : Bool) → at < length s → t ≡ makes_float radix (get_or s at 0) → t ≡ float_at radix (drop at (marked s))
unfolding float_at
float-at s at radix t h e = rw (at_byte s at h) e
