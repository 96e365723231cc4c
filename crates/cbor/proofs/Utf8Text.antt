-- UTF-8 as a derivation, byte by byte: what the sequence that is open still asks for, and what is left of the text.
-- A byte below 80 hex stands alone, so that a scan that stops at such bytes passes whole sequences.
use Prim.Native.Nat.{ℕ, suc, ◌≤◌, ◌<◌}
use native.Mathlib.Omega.{arith}
use mathlib.Core.Path.{◌≡◌, refl, sym, ap, ◌∙◌}
use mathlib.Core.Bool.{Bool, true, false}
use mathlib.Core.Logic.{◌⊎◌, inl, inr}
use mathlib.Core.List.{List, [], ◌∷◌, ◌++◌}
use lib.Dec.{T}
use lib.ListN.{length}
use Rattle.cbor.specs.Utf8.{Range, is_in, rows, Follow, nothing, these, follow_in, follow, are_in, sequence_by, first_bad_from, is_utf8}
use Rattle.cbor.specs.Sequences.{ranges, behind_first}
use Rattle.cbor.specs.Valid.{Bytes}
use Rattle.cbor.proofs.Sequences.{lead_ascii, first-bad_stop, first-bad-on}
use Rattle.cbor.proofs.Utf8Laws.{both_true, is_in_lem, continuing, Right, follow_right, first_range, in_sequence, valid, is-valid, utf8-bytes}

-- Text e gs s: s begins with bytes in the ranges gs, which end a sequence, and whole sequences follow. 256 may end it, if e is true.
pub data Text : Bool → List Range → List ℕ → Type 0 where
  text_nil : {e : Bool} → Text e [] []
  text-mark : Text true [] (256 ∷ [])
  text-first : {e : Bool} {gs : List Range} {b : ℕ} {s : List ℕ} → follow b ≡ these gs → Text e gs s → Text e [] (b ∷ s)
  text_later : {e : Bool} {g : Range} {gs : List Range} {b : ℕ} {s : List ℕ} → is_in g b ≡ true → 0x80 ≤ b → b ≤ 0xbf → Text e gs s → Text e (g ∷ gs) (b ∷ s)

-- FROM THE TEST, AND BACK

these-is : (gs hs : List Range) → these gs ≡ these hs → gs ≡ hs
these-is gs hs h = cc

module _ {e : Bool} where
  text-from : (gs : List Range) (s : List ℕ) → T (continuing gs) → are_in gs s ≡ true → first_bad_from (length gs) s ≡ length s → Text e gs s
  unfolding are_in first_bad_from sequence_by
  text-from [] [] t a h = text_nil
  text-from (g ∷ gs) [] t a h = let z : ◌≡◌ {A = ℕ} 0 1 = cc in absurd (omega arith)
  text-from (g ∷ gs) (b ∷ s) t a h =
      let p = both_true (is_in g b) (are_in gs s) a in
      let i = is_in_lem g b p.0 in
      let r = first_range g gs t in
      text_later p.0 (omega arith) (omega arith) (text-from gs s r.2 p.1 (omega arith))
  text-from [] (b ∷ s) t a h = go (follow b) refl (follow_right b) (λ gs. text-from gs s)
    where
      go : (f : Follow) → follow b ≡ f → Right b f → ((gs : List Range) → T (continuing gs) → are_in gs s ≡ true → first_bad_from (length gs) s ≡ length s → Text e gs s) → Text e [] (b ∷ s)
      go nothing q r ih = absurd (omega (arith, first-bad_stop b s (ap (λ (f : Follow). sequence_by f s) q)))
      go (these gs) q r ih = by (are_in gs s) refl
        where
          by : (v : Bool) → are_in gs s ≡ v → Text e [] (b ∷ s)
          by true a = text-first q (ih gs r.1 a (omega (arith, first-bad-on b (length gs) s (ap (λ (f : Follow). sequence_by f s) q ∙ in_sequence gs s (length gs) a refl))))
          by false a = absurd (omega (arith, first-bad_stop b s (ap (λ (f : Follow). sequence_by f s) q ∙ rw (a, sequence_by))))

  pub text_of : (s : List ℕ) → is_utf8 s ≡ true → Text e [] s
  unfolding are_in
  text_of s h = text-from [] s tt refl (valid s h)

-- with the end mark behind it
pub text-marked : {gs : List Range} {s : List ℕ} → Text false gs s → Text true gs (s ++ 256 ∷ [])
text-marked text_nil = text-mark
text-marked (text-first h t) = text-first h (text-marked t)
text-marked (text_later h l u t) = text_later h l u (text-marked t)

from-text : {gs : List Range} {s : List ℕ} → Text false gs s → (are_in gs s ≡ true) × (first_bad_from (length gs) s ≡ length s)
unfolding are_in first_bad_from
from-text text_nil = (refl, refl)
from-text (text-first {gs = gs} {b} {s} h t) =
    let p = from-text t in
    (refl, first-bad-on b (length gs) s (ap (λ (f : Follow). sequence_by f s) h ∙ in_sequence gs s (length gs) p.0 refl) ∙ ap suc p.1)
from-text (text_later h l u t) = let p = from-text t in (rw (h, p.0), ap suc p.1)

pub text-utf8 : {s : List ℕ} → Text false [] s → is_utf8 s ≡ true
text-utf8 {s} t = is-valid s (from-text t).1

pub text-bytes : {s : List ℕ} → Text false [] s → Bytes s
text-bytes {s} t = utf8-bytes s (text-utf8 t)

-- STEPS

pub text-append : {e : Bool} {gs : List Range} {a b : List ℕ} → Text false gs a → Text e [] b → Text e gs (a ++ b)
text-append text_nil u = u
text-append (text-first h t) u = text-first h (text-append t u)
text-append (text_later h l m t) u = text_later h l m (text-append t u)

-- a byte below 80 hex, or the mark
abbrev pub Alone : ℕ → Type 0
Alone b = (b < 128) ⊎ (b ≡ 256)

pub follow-ascii : (b : ℕ) → b < 128 → follow b ≡ these []
unfolding behind_first ranges
follow-ascii b h = lead_ascii h

pub text-ascii : {e : Bool} {b : ℕ} {s : List ℕ} → b < 128 → Text e [] s → Text e [] (b ∷ s)
text-ascii {b = b} h t = text-first (follow-ascii b h) t

no-follow : (gs : List Range) → follow 256 ≡ these gs → ⊥
unfolding follow follow_in rows is_in
no-follow gs h = let z : ◌≡◌ {A = ℕ} 0 1 = cc in omega arith

-- no sequence is open at such a byte, nor behind it
pub text-past : {e : Bool} {gs : List Range} {b : ℕ} {s : List ℕ} → Alone b → Text e gs (b ∷ s) → (gs ≡ []) × Text e [] s
text-past a text-mark = (refl, text_nil)
text-past (inl l) (text-first {gs = gs} {b} h t) = (refl, rw (these-is gs [] (sym h ∙ follow-ascii b l)) at t)
text-past (inr m) (text-first {gs = gs} h t) = absurd (no-follow gs (rw m at h))
text-past (inl a) (text_later h l u t) = absurd (omega arith)
text-past (inr a) (text_later h l u t) = absurd (omega arith)

-- any byte may be dropped
pub text_tail : {e : Bool} {gs : List Range} {b : ℕ} {s : List ℕ} → Text e gs (b ∷ s) → (hs : List Range) × Text e hs s
text_tail text-mark = ([], text_nil)
text_tail (text-first {gs = gs} h t) = (gs, t)
text_tail (text_later {gs = gs} h l u t) = (gs, t)

-- and a byte that stays makes the same step in another text
pub record Step (gs : List Range) (b : ℕ) (s : List ℕ) : Type 0 where
  pub asks : List Range
  pub rest : Text true asks s
  pub again : (c : List ℕ) → Text false asks c → Text false gs (b ∷ c)

pub text-step : {gs : List Range} {b : ℕ} {s : List ℕ} → b ≤ 255 → Text true gs (b ∷ s) → Step gs b s
text-step m text-mark = absurd (omega arith)
text-step m (text-first {gs = gs} h t) = record { asks = gs; rest = t; again = λ c u. text-first h u }
text-step m (text_later {gs = gs} h l k t) = record { asks = gs; rest = t; again = λ c u. text_later h l k u }
