-- Reading: what is asked of all of a text, and the bytes that were made of it.
-- Assumes nothing.
use Prim.Native.Nat.{ℕ, ◌-◌, ◌≤◌, ◌<◌}
use mathlib.Core.Path.{◌≡◌, refl, sym, ◌∙◌}
use mathlib.Core.Bool.{Bool, true, false}
use mathlib.Core.List.{List, []}
use lib.Dec.{leb}
use lib.ListN.{length}
use borrow.Author.Tests.{le-leb, lt-leb, leb-true, eq-eqb, ne_eqb}
use Rattle.cbor.specs.Refusals.{Verdict, accepted, refused, too_long, not_utf8}
use Rattle.cbor.specs.Utf8.{first_bad, is_utf8}
use Rattle.cbor.specs.Decode.{most_bytes}
use Rattle.refusal.specs.RefusalKinds.{kind_number}
use Rattle.refusal.specs.declared.RefusalKind.TheVariants.{TooLong, NotUtf8}
use Rattle.cbor.proofs.Results.{refused_not_accepted}
use Rattle.notation.specs.Reading.{checked}
use Rattle.text_check.specs.TextAnswers.{text_told, passing}
use Rattle.std.specs.Prelude.{Ok, Err}

-- A TEXT: 1, then 2
module _ (s : List ℕ) where
  pub text_long : 65535 < length s → text_told (Err (record { kind = TooLong; place = 0 })) ≡ passing s
  unfolding text_told passing checked kind_number
  text_long h = rw (lt-leb (length s) most_bytes h, checked)

  pub text-good : {k : ℕ} → length s ≤ 65535 → k ≡ first_bad s → k ≡ length s → text_told (Ok tt) ≡ passing s
  unfolding text_told passing checked is_utf8
  text-good h f e = rw (le-leb (length s) most_bytes h, checked) (rw (eq-eqb (first_bad s) (length s) (sym f ∙ e)))

  pub text-bad : {k : ℕ} → length s ≤ 65535 → k ≡ first_bad s → (k ≡ length s → ⊥) → text_told (Err (record { kind = NotUtf8; place = k })) ≡ passing s
  unfolding text_told passing checked is_utf8 kind_number
  text-bad h f e = rw (le-leb (length s) most_bytes h, checked) (rw (ne_eqb (first_bad s) (length s) (λ i. e (f ∙ i)), f))

pub ruleset text_ways = (text_long, text-good, text-bad)

-- a text that passed is read; one that did not is refused as such
pub passes : {A : Type 0} (s : List ℕ) (v : Verdict A) → passing s ≡ accepted tt → checked s v ≡ v
unfolding passing checked
passes {A} s v e = long? (leb (length s) most_bytes) e
  where
    text? : (b : Bool) → ◌≡◌ {A = Verdict Unit} (elim b [ true ↦ accepted tt | false ↦ refused not_utf8 (first_bad s) ]) (accepted tt)
        → ◌≡◌ {A = Verdict A} (elim b [ true ↦ v | false ↦ refused not_utf8 (first_bad s) ]) v
    text? true f = refl
    text? false f = absurd (refused_not_accepted f)

    long? : (b : Bool) → ◌≡◌ {A = Verdict Unit} (elim b [ true ↦ elim (is_utf8 s) [ true ↦ accepted tt | false ↦ refused not_utf8 (first_bad s) ] | false ↦ refused too_long 0 ]) (accepted tt)
        → ◌≡◌ {A = Verdict A} (elim b [ true ↦ elim (is_utf8 s) [ true ↦ v | false ↦ refused not_utf8 (first_bad s) ] | false ↦ refused too_long 0 ]) v
    long? true f = text? (is_utf8 s) f
    long? false f = absurd (refused_not_accepted f)

pub fails : {A : Type 0} (s : List ℕ) (v : Verdict A) {n q : ℕ} → passing s ≡ refused n q → checked s v ≡ refused n q
unfolding passing checked
fails {A} s v {n} {q} e = long? (leb (length s) most_bytes) e
  where
    text? : (b : Bool) → ◌≡◌ {A = Verdict Unit} (elim b [ true ↦ accepted tt | false ↦ refused not_utf8 (first_bad s) ]) (refused n q)
        → ◌≡◌ {A = Verdict A} (elim b [ true ↦ v | false ↦ refused not_utf8 (first_bad s) ]) (refused n q)
    text? true f = absurd (refused_not_accepted (sym f))
    text? false f = let i : not_utf8 ≡ n = cc in let j : first_bad s ≡ q = cc in rw (i, j)

    long? : (b : Bool) → ◌≡◌ {A = Verdict Unit} (elim b [ true ↦ elim (is_utf8 s) [ true ↦ accepted tt | false ↦ refused not_utf8 (first_bad s) ] | false ↦ refused too_long 0 ]) (refused n q)
        → ◌≡◌ {A = Verdict A} (elim b [ true ↦ elim (is_utf8 s) [ true ↦ v | false ↦ refused not_utf8 (first_bad s) ] | false ↦ refused too_long 0 ]) (refused n q)
    long? true f = text? (is_utf8 s) f
    long? false f = let i : too_long ≡ n = cc in let j : 0 ≡ q = cc in rw (i, j)

pub passed-short : (s : List ℕ) → passing s ≡ accepted tt → length s ≤ most_bytes
unfolding passing checked
passed-short s e = go (leb (length s) most_bytes) refl e
  where
    go : (b : Bool) → leb (length s) most_bytes ≡ b → ◌≡◌ {A = Verdict Unit} (elim b [ true ↦ elim (is_utf8 s) [ true ↦ accepted tt | false ↦ refused not_utf8 (first_bad s) ] | false ↦ refused too_long 0 ]) (accepted tt)
        → length s ≤ most_bytes
    go true i f = leb-true (length s) most_bytes i
    go false i f = absurd (refused_not_accepted f)
