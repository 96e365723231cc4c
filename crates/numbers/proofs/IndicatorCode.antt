-- Indicators: what the code knows at each return, and that this is what the definitions say.
-- Assumes nothing.
use mathlib.Core.Path.{◌≡◌, refl, sym, ap, ◌∙◌}
use mathlib.Core.List.{List, [], ◌∷◌}
use mathlib.Core.Bool.{Bool, true, false}
use Prim.Native.Nat.{ℕ, ◌+◌, ◌-◌, ◌≤◌, ◌<◌}
use native.Mathlib.Omega.{arith}
use lib.Dec.{leb}
use lib.ListN.{length, get_or}
use borrow.Author.Tests.{le-leb, lt-leb, ne_eqb}
use Rattle.cbor.specs.Refusals.{bind}
use Rattle.cbor.specs.Widths.{Width, w0, w1, w2, w4, w8, limit, fits, shortest}
use Rattle.notation.specs.Classes.{is_word}
use Rattle.notation.specs.Indicators.{Indicator, absent, indefinitely, unknown, wide, indicated, indicator, Chosen, chosen, misfit, choose}
use Rattle.notation.specs.Reading.{marked}
use Rattle.scanning.specs.Stands.{span}
use Rattle.scanning.specs.ScanAnswers.{Ran, Peeked}
use Rattle.token.specs.TokenAnswers.{width_number, indicator_number}
use Rattle.numbers.specs.NumberAnswers.{Indicated, limit_by, choose_by, chosen_number}
use Rattle.scanning.proofs.Marked.{length_marked, byte_at, span_none, span_more, span-length}
use Rattle.scanning.proofs.ScanCode.{whether-yes, whether-no}

-- NAMES
many : (l : List ℕ) → 1 < length l → 2 ≡ indicator_number (indicated l)
unfolding indicator_number indicated
many [] h = absurd (omega arith)
many (b ∷ []) h = absurd (omega arith)
many (b ∷ c ∷ l) h = refl

module _ {s : List ℕ} {from end : ℕ} (ran : Ran s is_word from end) where
  pub name_none : end - from ≡ 0 → 1 ≡ indicator_number (indicated (span from end (marked s)))
  unfolding indicator_number indicated
  name_none e = let f : end ≡ from = omega (arith, ran.ahead) in rw (f, span_none from (marked s))

  pub name_long : 1 < end - from → 2 ≡ indicator_number (indicated (span from end (marked s)))
  name_long h =
      many (span from end (marked s)) (rw (span-length from end (marked s) ran.ahead (omega (arith, ran.inside, length_marked s))) h)

  module _ (n : end - from ≡ 0 → ⊥) (h : end - from ≤ 1) where
    pub name_index : from < length s
    name_index = omega (arith, n, ran.inside)

    one : span from end (marked s) ≡ get_or s from 0 ∷ []
    one =
        let e : end ≡ from + 1 = omega (arith, n) in
        ap (λ (k : ℕ). span from k (marked s)) e
        ∙ (span_more from from (marked s) (omega arith) (omega (arith, name_index, length_marked s)) ∙ rw (span_none from (marked s)) (ap (λ (b : ℕ). b ∷ []) (byte_at s from name_index)))

    named_as : {b : ℕ} (k : ℕ) → get_or s from 0 ≡ b → k ≡ indicator_number (indicated (b ∷ [])) → k ≡ indicator_number (indicated (span from end (marked s)))
    named_as k e i = i ∙ ap (λ (l : List ℕ). indicator_number (indicated l)) (ap (λ (b : ℕ). b ∷ []) (sym e) ∙ sym one)

    pub name_i : get_or s from 0 ≡ 0x69 → 3 ≡ indicator_number (indicated (span from end (marked s)))
    unfolding indicator_number indicated width_number
    name_i e = named_as 3 e refl

    pub name_0 : get_or s from 0 ≡ 0x30 → 4 ≡ indicator_number (indicated (span from end (marked s)))
    unfolding indicator_number indicated width_number
    name_0 e = named_as 4 e refl

    pub name_1 : get_or s from 0 ≡ 0x31 → 5 ≡ indicator_number (indicated (span from end (marked s)))
    unfolding indicator_number indicated width_number
    name_1 e = named_as 5 e refl

    pub name_2 : get_or s from 0 ≡ 0x32 → 6 ≡ indicator_number (indicated (span from end (marked s)))
    unfolding indicator_number indicated width_number
    name_2 e = named_as 6 e refl

    pub name_3 : get_or s from 0 ≡ 0x33 → 7 ≡ indicator_number (indicated (span from end (marked s)))
    unfolding indicator_number indicated width_number
    name_3 e = named_as 7 e refl

    pub name_other : (get_or s from 0 ≡ 0x69 → ⊥) → (get_or s from 0 ≡ 0x30 → ⊥) → (get_or s from 0 ≡ 0x31 → ⊥) → (get_or s from 0 ≡ 0x32 → ⊥) → (get_or s from 0 ≡ 0x33 → ⊥)
        → 2 ≡ indicator_number (indicated (span from end (marked s)))
    unfolding indicator_number indicated
    name_other ni n0 n1 n2 n3 =
        let b = get_or s from 0 in
        named_as 2 refl (simp (indicated, ne_eqb b 0x69 ni, ne_eqb b 0x30 n0, ne_eqb b 0x31 n1, ne_eqb b 0x32 n2, ne_eqb b 0x33 n3))

pub ruleset name_ways = (name_none, name_long, name_i, name_0, name_1, name_2, name_3, name_other)

-- INDICATORS
module _ {s : List ℕ} {at : ℕ} {t : Bool} (p : Peeked s at 0x5f t) where
  pub indicator-some : (next k : ℕ) → t ≡ true → Ran s is_word (at + 1) next → k ≡ indicator_number (indicated (span (at + 1) next (marked s)))
      → Indicated s at (record { mark = k; next = next })
  unfolding indicator bind
  indicator-some next k e ran i =
      record {
        ind = indicated (span (at + 1) next (marked s));
        is = rw (whether-yes p e) (rw ran.is);
        mark = i;
        inside = ran.inside;
        ahead = omega (arith, ran.ahead);
      }

  pub indicator-none : t ≡ false → at ≤ length s → Indicated s at (record { mark = 0; next = at })
  unfolding indicator bind indicator_number
  indicator-none e h = record { ind = absent; is = rw (whether-no p e); mark = refl; inside = h; ahead = omega arith }

  pub indicator-from : t ≡ true → at + 1 ≤ length s
  indicator-from e = p.inside e

-- WIDTHS
module _ (m n : ℕ) where
  pub limit_0 : m ≡ 3 → 23 ≡ limit_by m
  unfolding limit_by limit
  limit_0 e = rw e

  pub limit_1 : m ≡ 4 → 0xff ≡ limit_by m
  unfolding limit_by limit
  limit_1 e = rw e

  pub limit_2 : m ≡ 5 → 0xffff ≡ limit_by m
  unfolding limit_by limit
  limit_2 e = rw e

  pub limit_4 : m ≡ 6 → 0xffff_ffff ≡ limit_by m
  unfolding limit_by limit
  limit_4 e = rw e

  pub limit_8 : (m ≡ 3 → ⊥) → (m ≡ 4 → ⊥) → (m ≡ 5 → ⊥) → (m ≡ 6 → ⊥) → 0xffff_ffff_ffff_ffff ≡ limit_by m
  unfolding limit_by limit
  limit_8 n3 n4 n5 n6 = simp (limit_by, ne_eqb m 3 n3, ne_eqb m 4 n4, ne_eqb m 5 n5, ne_eqb m 6 n6)

  pub short_0 : n ≤ 23 → 3 ≡ width_number (shortest n)
  unfolding shortest fits limit width_number
  short_0 h = rw (le-leb n 23 h, shortest)

  pub short_1 : 23 < n → n ≤ 0xff → 4 ≡ width_number (shortest n)
  unfolding shortest fits limit width_number
  short_1 l h = rw (lt-leb n 23 l, shortest) (rw (le-leb n 0xff h))

  pub short_2 : 23 < n → 0xff < n → n ≤ 0xffff → 5 ≡ width_number (shortest n)
  unfolding shortest fits limit width_number
  short_2 l l₁ h = rw (lt-leb n 23 l, shortest) (rw (lt-leb n 0xff l₁) (rw (le-leb n 0xffff h)))

  pub short_4 : 23 < n → 0xff < n → 0xffff < n → n ≤ 0xffff_ffff → 6 ≡ width_number (shortest n)
  unfolding shortest fits limit width_number
  short_4 l l₁ l₂ h = rw (lt-leb n 23 l, shortest) (rw (lt-leb n 0xff l₁) (rw (lt-leb n 0xffff l₂) (rw (le-leb n 0xffff_ffff h))))

  pub short_8 : 23 < n → 0xff < n → 0xffff < n → 0xffff_ffff < n → 7 ≡ width_number (shortest n)
  unfolding shortest fits limit width_number
  short_8 l l₁ l₂ l₄ = rw (lt-leb n 23 l, shortest) (rw (lt-leb n 0xff l₁) (rw (lt-leb n 0xffff l₂) (rw (lt-leb n 0xffff_ffff l₄))))

  pub choose-short : (r : ℕ) → m ≡ 0 → r ≡ width_number (shortest n) → r ≡ choose_by m n
  unfolding choose_by
  choose-short r e h = rw (e, choose_by) h

  pub choose-none : (m ≡ 0 → ⊥) → m ≤ 2 → 0 ≡ choose_by m n
  unfolding choose_by
  choose-none k h = rw (ne_eqb m 0 k, choose_by) (rw (le-leb m 2 h))

  module _ (k : m ≡ 0 → ⊥) (h : 2 < m) (l : ℕ) (e : l ≡ limit_by m) where
    pub choose-wide : n ≤ l → m ≡ choose_by m n
    unfolding choose_by
    choose-wide g = rw (ne_eqb m 0 k, choose_by) (rw (lt-leb m 2 h) (rw (sym e) (rw (le-leb n l g))))

    pub choose-small : l < n → 0 ≡ choose_by m n
    unfolding choose_by
    choose-small g = rw (ne_eqb m 0 k, choose_by) (rw (lt-leb m 2 h) (rw (sym e) (rw (lt-leb n l g))))

pub ruleset limit_ways = (limit_0, limit_1, limit_2, limit_4, limit_8)

pub ruleset short_ways = (short_0, short_1, short_2, short_4, short_8)

pub ruleset choose_ways = (choose-short, choose-none, choose-wide, choose-small)

-- what the numbers say of the definition
number_if : (t : Bool) (w : Width) → chosen_number (elim t [ true ↦ chosen w | false ↦ misfit ]) ≡ elim t [ true ↦ width_number w | false ↦ 0 ]
unfolding chosen_number
number_if true w = refl
number_if false w = refl

pub choose-is : (i : Indicator) (n : ℕ) → chosen_number (choose i n) ≡ choose_by (indicator_number i) n
unfolding chosen_number choose choose_by indicator_number width_number limit_by fits
choose-is absent n = refl
choose-is indefinitely n = refl
choose-is unknown n = refl
choose-is (wide w0) n = number_if (leb n (limit w0)) w0
choose-is (wide w1) n = number_if (leb n (limit w1)) w1
choose-is (wide w2) n = number_if (leb n (limit w2)) w2
choose-is (wide w4) n = number_if (leb n (limit w4)) w4
choose-is (wide w8) n = number_if (leb n (limit w8)) w8

pub width_some : (w : Width) → 3 ≤ width_number w
unfolding width_number
width_some w0 = omega arith
width_some w1 = omega arith
width_some w2 = omega arith
width_some w4 = omega arith
width_some w8 = omega arith

pub chosen_none : (c : Chosen) → chosen_number c ≡ 0 → c ≡ misfit
unfolding chosen_number
chosen_none (chosen w) e = absurd (omega (arith, width_some w))
chosen_none misfit e = refl

pub chosen-some : (c : Chosen) → (chosen_number c ≡ 0 → ⊥) → (w : Width) × ((c ≡ chosen w) × (chosen_number c ≡ width_number w))
unfolding chosen_number
chosen-some (chosen w) n = (w, (refl, refl))
chosen-some misfit n = absurd (n refl)
