-- Brackets and dots: what the code knows at each return, and that this is what the definitions say.
-- Assumes nothing.
use mathlib.Core.Path.{◌≡◌, refl, sym, ap, ◌∙◌}
use mathlib.Core.List.{List}
use mathlib.Core.Bool.{Bool, true, false}
use Prim.Native.Nat.{ℕ, ◌+◌, ◌≤◌}
use native.Mathlib.Omega.{arith}
use lib.ListN.{length, drop}
use Rattle.cbor.specs.Refusals.{ok, bind, no_token, bad_indicator}
use Rattle.notation.specs.Classes.{dot, greater}
use Rattle.notation.specs.Scanning.{fault}
use Rattle.notation.specs.Indicators.{Indicator, absent, indefinitely, unknown, wide}
use Rattle.notation.specs.Tokens.{Opener, bracket, brace, opens, square, curly, angle, begins, closes}
use Rattle.notation.specs.Cutting.{opening_token, cut_by}
use Rattle.notation.specs.Reading.{marked}
use Rattle.scanning.specs.ScanAnswers.{Peeked}
use Rattle.token.specs.TokenAnswers.{indicator_number, open_code, begin_code, shape_code, code_of, open_mark, begin_mark, mark_of, open_number, begin_number, number_of, BeginsAs, Written, Says, Refused, TokenMade}
use Rattle.numbers.specs.NumberAnswers.{Indicated}
use Rattle.signs.specs.SignAnswers.{Opens, Paired}
use Rattle.numbers.specs.declared.indicator.Mark.{Mark}
use Rattle.token.specs.declared.Token.{Token as Cut}
use Rattle.scanning.proofs.ScanCode.{expect-yes, expect-no}
use Rattle.numbers.proofs.IndicatorCode.{width_some}
use Rattle.numbers.proofs.NumberCode.{says_as, says_refuse, says_made}

-- `[` AND `{`
pub opening_known : (o : Indicator → Opener) (i : Indicator) (r : List ℕ) → (indicator_number i ≡ 2 → ⊥) → opening_token o i r ≡ ok (begins (opens (o i))) r
unfolding opening_token indicator_number
opening_known o absent r n = refl
opening_known o indefinitely r n = refl
opening_known o unknown r n = absurd (n refl)
opening_known o (wide w) r n = refl

opening_unknown : (o : Indicator → Opener) (i : Indicator) (r : List ℕ) → indicator_number i ≡ 2 → opening_token o i r ≡ fault bad_indicator
unfolding opening_token indicator_number
opening_unknown o absent r e = absurd (omega arith)
opening_unknown o indefinitely r e = absurd (omega arith)
opening_unknown o unknown r e = refl
opening_unknown o (wide w) r e = absurd (omega (arith, width_some w))

module _ {s : List ℕ} {place code : ℕ} {m : Mark} {t : Cut} (x : Indicated s (place + 1) m) where
  pub opens-bad : m.mark ≡ 2 → Refused 9 place t → Opens s place code t
  unfolding bind
  opens-bad e r =
      let n = sym x.mark ∙ e in
      record {
        square = λ c. says_as (rw x.is (opening_unknown bracket x.ind (drop m.next (marked s)) n)) (says_refuse 0 r);
        curly = λ c. says_as (rw x.is (opening_unknown brace x.ind (drop m.next (marked s)) n)) (says_refuse 0 r);
      }

  pub opens-good : (m.mark ≡ 2 → ⊥) → TokenMade code m.mark 0 place m.next t → Opens s place code t
  unfolding bind code_of begin_code open_code mark_of begin_mark open_mark number_of begin_number open_number Written BeginsAs
  opens-good n h =
      let k : indicator_number x.ind ≡ 2 → ⊥ = λ z. n (x.mark ∙ z) in
      record {
        square = λ c. says_as (rw x.is (opening_known bracket x.ind (drop m.next (marked s)) k)) (says_made h (begins (opens (bracket x.ind))) c x.mark refl tt x.inside);
        curly = λ c. says_as (rw x.is (opening_known brace x.ind (drop m.next (marked s)) k)) (says_made h (begins (opens (brace x.ind))) c x.mark refl tt x.inside);
      }

-- SIGNS OF MORE BYTES
module _ {s : List ℕ} {place : ℕ} {t : Cut} where
  module _ {c : ℕ} {b : Bool} (p : Peeked s (place + 1) c b) where
    pub pair-yes : {code : ℕ} → b ≡ true → TokenMade code 0 0 place (place + 2) t → Paired s place c code t
    unfolding bind
    pair-yes e m =
        let n : place + 1 + 1 ≡ place + 2 = omega arith in
        record {
          is =
              λ tok ec em en w.
              says_as (rw (expect-yes p no_token e) (ap (λ (k : ℕ). ok tok (drop k (marked s))) n)) (says_made m tok ec em en w (omega (arith, p.inside e)));
        }

    pub pair-no : {code : ℕ} → b ≡ false → Refused 3 place t → Paired s place c code t
    unfolding bind
    pair-no e r = record { is = λ tok ec em en w. says_as (rw (expect-no p no_token e)) (says_refuse 0 r) }

  module _ {b : Bool} (p : Peeked s (place + 1) 0x3e b) where
    pub close_yes : {m : Mark} → b ≡ true → Indicated s (place + 2) m → TokenMade 20 m.mark 0 place m.next t → Says s place t (cut_by greater 0 (drop (place + 1) (marked s)))
    unfolding bind cut_by code_of shape_code mark_of number_of Written
    close_yes {m} e x h =
        let n : place + 1 + 1 ≡ place + 2 = omega arith in
        says_as (rw (expect-yes p no_token e) (rw n (rw x.is))) (says_made h (closes angle x.ind) refl x.mark refl tt x.inside)

    pub close_no : b ≡ false → Refused 3 place t → Says s place t (cut_by greater 0 (drop (place + 1) (marked s)))
    unfolding bind cut_by
    close_no e r = says_as (rw (expect-no p no_token e)) (says_refuse 0 r)

  module _ {b : Bool} (p : Peeked s (place + 1) 0x2e b) where
    pub dots-one : b ≡ false → Refused 3 place t → Says s place t (cut_by dot 0 (drop (place + 1) (marked s)))
    unfolding bind cut_by
    dots-one e r = says_as (rw (expect-no p no_token e)) (says_refuse 0 r)

    module _ (e : b ≡ true) {d : Bool} (q : Peeked s (place + 2) 0x2e d) where
      pub dots_two : d ≡ false → Refused 3 place t → Says s place t (cut_by dot 0 (drop (place + 1) (marked s)))
      unfolding bind cut_by
      dots_two f r = let n : place + 1 + 1 ≡ place + 2 = omega arith in says_as (rw (expect-yes p no_token e) (rw n (rw (expect-no q no_token f)))) (says_refuse 0 r)

      pub dots_three : d ≡ true → Refused 5 place t → Says s place t (cut_by dot 0 (drop (place + 1) (marked s)))
      unfolding bind cut_by
      dots_three f r = let n : place + 1 + 1 ≡ place + 2 = omega arith in says_as (rw (expect-yes p no_token e) (rw n (rw (expect-yes q no_token f)))) (says_refuse 0 r)

pub close_from : {s : List ℕ} (place : ℕ) {b : Bool} → Peeked s (place + 1) 0x3e b → b ≡ true → place + 2 ≤ length s
close_from place p e = omega (arith, p.inside e)

pub ruleset dot_ways = (dots-one, dots_two, dots_three)
