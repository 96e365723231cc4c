-- Heads that are known at a glance: a lemma for each way through the functions.
-- Assumes nothing.
use Prim.Native.Nat.{ℕ, ◌+◌, ◌*◌, ◌/◌, ◌%◌, ◌≤◌, ◌<◌}
use native.Mathlib.Omega.{arith}
use mathlib.Core.Path.{◌≡◌, refl, sym, ap, ◌∙◌}
use mathlib.Core.List.{List, [], ◌∷◌}
use lib.ListN.{length, take, drop, get_or}
use mir.Syntax.{w8 as bits8}
use mir.Val.{Fits}
use Rattle.cbor.specs.Widths.{value_from}
use Rattle.head.specs.HeadAnswers.{argument_size, argument_at, Widened, HeadEnd}
use Rattle.head.proofs.HeadCode.{size_two, form-wide, argument-some, argument-wide, not_argument, ends_plain}
use Rattle.std.specs.Prelude.{Some}
use Rattle.std.specs.Prelude as std
use Rattle.quick_head.specs.QuickHeads.{Small, TwoBytes, Lengthy}

-- LENGTHS IN TWO BYTES

module _ {s : List ℕ} {end : ℕ} {r : std.Option ℕ} (he : HeadEnd s 0 r) (is : r ≡ Some end) where
  pub lengthy : {n : ℕ} → Small s → n ≡ argument_at s 0 → 2 ≤ get_or s 0 0 / 32 → get_or s 0 0 / 32 ≤ 3 → (get_or s 0 0 % 32 ≡ 31 → ⊥) → Lengthy s end n
  lengthy sm e l u o = record { small = sm; head = rw is at he; argument = e; low = l; high = u; definite = o }

two_value : (s : List ℕ) {x y : ℕ} → 3 ≤ length s → x ≡ get_or s 1 0 → y ≡ get_or s 2 0 → x * 256 + y ≡ value_from 0 (take 2 (drop (0 + 1) s))
unfolding value_from
two_value [] h a b = absurd (omega arith)
two_value (c ∷ []) h a b = absurd (omega arith)
two_value (c ∷ (d ∷ [])) h a b = absurd (omega arith)
two_value (c ∷ (d ∷ (e ∷ s))) h a b = let z : 0 * 256 + d ≡ d = omega arith in (λ j. a j * 256 + b j) ∙ ap (λ (v : ℕ). v * 256 + e) (sym z)

pub two_made : {s : List ℕ} {x y r : ℕ} → 3 ≤ length s → Fits bits8 (get_or s 0 0) → get_or s 0 0 / 64 ≡ 1 → get_or s 0 0 % 32 ≡ 25 → Widened (get_or s 1 0) x → Widened (get_or s 2 0) y → r ≡ x * 256 + y → TwoBytes s r
two_made {s} {x} {y} {r} l u m i a b e =
    let z : 2 ≡ argument_size (get_or s 0 0 % 32) = size_two (get_or s 0 0 % 32) i in
    let q : 0 + 1 + argument_size (get_or s 0 0 % 32) ≡ 3 = omega arith in
    let he : HeadEnd s 0 (Some 3) = rw q at (ends_plain {s = s} {at = 0} u.fits (omega arith) (λ o. omega arith) (omega arith)) in
    let f = form-wide (get_or s 0 0) u (omega arith) (omega arith) (λ o. omega arith) in
    let v : x * 256 + y ≡ argument_at s 0 = argument-wide s 0 f not_argument z (argument-some 2 (get_or s 0 0 % 32) (take 2 (drop (0 + 1) s)) (omega arith) (two_value s l a.is b.is)) in
    record { is = λ h sm. lengthy he refl sm (e ∙ v) (omega arith) (omega arith) (omega arith) }

pub two_lengthy : {s : List ℕ} {r : ℕ} → TwoBytes s r → r < 65536 → Small s → Lengthy s 3 r
two_lengthy t h sm = t.is h sm
