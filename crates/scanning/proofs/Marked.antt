-- A text with its end mark: what is left at a place; runs.
-- Assumes nothing.
use mathlib.Core.Path.{◌≡◌, refl, sym, ap, ◌∙◌}
use mathlib.Core.List.{List, [], ◌∷◌, ◌++◌, append-nil}
use mathlib.Core.Bool.{Bool, true, false}
use Prim.Native.Nat.{ℕ, zero, suc, ◌+◌, ◌-◌, ◌≤◌, ◌<◌}
use native.Mathlib.Numerals.{add-one}
use native.Mathlib.Omega.{arith}
use lib.ListN.{length, take, drop, get_or, take-append-drop, drop_of_length-le, length-drop, length-append, get_or-append}
use lib.Seq.{drop-cons, drop_at, take-suc, take_all}
use Rattle.cbor.specs.Refusals.{Result, ok, refuse, bind}
use Rattle.cbor.proofs.Results.{bind_assoc}
use Rattle.notation.specs.Scanning.{run}
use Rattle.notation.specs.Reading.{marked}
use Rattle.scanning.specs.Stands.{Stands, span}
use Rattle.scanning.specs.ScanAnswers.{Ran}

pub front : (s : List ℕ) (at : ℕ) → at < length s → drop at s ≡ get_or s at 0 ∷ drop (at + 1) s
front s at h = rw (add-one, drop-cons s at 0)

-- a tail of a list, lent by itself
pub tail_is : (s : List ℕ) (at : ℕ) → take (length s - at) (drop at s) ≡ drop at s
tail_is s at = take_all (length s - at) (drop at s) (omega (arith, length-drop at s))

pub length_marked : (s : List ℕ) → length (marked s) ≡ length s + 1
unfolding marked
length_marked s = length-append s (256 ∷ [])

pub at_byte : (s : List ℕ) (at : ℕ) → at < length s → drop at (marked s) ≡ get_or s at 0 ∷ drop (at + 1) (marked s)
unfolding marked
at_byte s at h =
    front (s ++ 256 ∷ []) at (simp length-append (omega arith))
    ∙ ap (λ (b : ℕ). b ∷ drop (at + 1) (s ++ 256 ∷ [])) (get_or-append s (256 ∷ []) 0 at h)

pub byte_at : (s : List ℕ) (at : ℕ) → at < length s → get_or (marked s) at 0 ≡ get_or s at 0
unfolding marked
byte_at s at h = get_or-append s (256 ∷ []) 0 at h

pub at-end : (s : List ℕ) (at : ℕ) → at ≡ length s → drop at (marked s) ≡ 256 ∷ []
unfolding marked
at-end s at e = drop_at s (256 ∷ []) at (sym e)

pub past_end : (s : List ℕ) (at : ℕ) → length s < at → drop at (marked s) ≡ []
past_end s at h = let g : length (marked s) ≤ at = omega (arith, length_marked s) in drop_of_length-le (marked s) g

-- where a cursor stands, by what is left
pub stands-left : {w r : List ℕ} {at : ℕ} → Stands w at r → length r ≡ length w - at
stands-left {w} {r} {at} st = sym (ap length st.drops) ∙ length-drop at w

pub stands_at : {w r : List ℕ} {at : ℕ} → Stands w at r → at ≡ length w - length r
stands_at {w} {r} {at} st = let e = stands-left st in let i = st.inside in omega arith

pub here : (s : List ℕ) {at : ℕ} → at ≤ length s → Stands (marked s) at (drop at (marked s))
here s h = record { inside = omega (arith, length_marked s); drops = refl }

-- SPANS
pub drop-drop : (i j : ℕ) (w : List ℕ) → drop j (drop i w) ≡ drop (i + j) w
drop-drop zero j w = let e : 0 + j ≡ j = omega arith in rw e
drop-drop (suc i) j [] = lib.Seq.drop-nil j ∙ sym (lib.Seq.drop-nil (suc i + j))
drop-drop (suc i) j (x ∷ w) = let e : suc i + j ≡ suc (i + j) = omega arith in rw e (drop-drop i j w)

pub span_none : (i : ℕ) (w : List ℕ) → span i i w ≡ []
unfolding span
span_none i w = let e : i - i ≡ 0 = omega arith in rw e

get_d_drop : (i k : ℕ) (w : List ℕ) → get_or (drop i w) k 0 ≡ get_or w (i + k) 0
get_d_drop zero k w = let e : 0 + k ≡ k = omega arith in rw e
get_d_drop (suc i) k [] = refl
get_d_drop (suc i) k (x ∷ w) = let e : suc i + k ≡ suc (i + k) = omega arith in rw e (get_d_drop i k w)

pub span_more : (i at : ℕ) (w : List ℕ) → i ≤ at → at < length w → span i (at + 1) w ≡ span i at w ++ (get_or w at 0 ∷ [])
unfolding span
span_more i at w h l =
    let e : at + 1 - i ≡ suc (at - i) = omega arith in
    let f : i + (at - i) ≡ at = omega arith in
    let m : at - i < length (drop i w) = omega (arith, length-drop i w) in
    rw e (take-suc (drop i w) (at - i) 0 m ∙ ap (λ (b : ℕ). take (at - i) (drop i w) ++ (b ∷ [])) (get_d_drop i (at - i) w ∙ ap (λ (k : ℕ). get_or w k 0) f))

pub span_split : (i at : ℕ) (w : List ℕ) → i ≤ at → drop i w ≡ span i at w ++ drop at w
unfolding span
span_split i at w h =
    let f : i + (at - i) ≡ at = omega arith in
    sym (take-append-drop (at - i) (drop i w)) ∙ ap (λ (r : List ℕ). take (at - i) (drop i w) ++ r) (drop-drop i (at - i) w ∙ ap (λ (k : ℕ). drop k w) f)

pub span-length : (i at : ℕ) (w : List ℕ) → i ≤ at → at ≤ length w → length (span i at w) ≡ at - i
unfolding span
span-length i at w h l =
    let m : at - i ≤ length (drop i w) = omega (arith, length-drop i w) in
    lib.Seq.length-take-le (at - i) (drop i w) m

-- RUNS: the state of a loop at a place
pub bind-same-ok : {A : Type 0} (R : Result A) → bind R (λ x r. ok x r) ≡ R
unfolding bind
bind-same-ok (ok x r) = refl
bind-same-ok (refuse n q) = refl

pub record Running (s : List ℕ) (test : ℕ → Bool) (i at : ℕ) : Type 0 where
  pub same : run test (drop i (marked s)) ≡ bind (run test (drop at (marked s))) (λ u r. ok (span i at (marked s) ++ u) r)
  pub inside : at ≤ length s
  pub ahead : i ≤ at

module _ (s : List ℕ) (test : ℕ → Bool) (i : ℕ) where
  pub run-start : i ≤ length s → Running s test i i
  run-start h = record { same = rw (span_none i (marked s)) (sym (bind-same-ok (run test (drop i (marked s))))); inside = h; ahead = omega arith }

  module _ {at : ℕ} (r : Running s test i at) where
    pub run_step : at < length s → test (get_or s at 0) ≡ true → Running s test i (at + 1)
    unfolding run bind
    run_step h t =
        let w = marked s in
        let e₁ : run test (drop at w) ≡ bind (run test (drop (at + 1) w)) (λ v q. ok (get_or s at 0 ∷ v) q) = rw (at_byte s at h) (rw (t, run)) in
        let e₂ : get_or w at 0 ≡ get_or s at 0 = byte_at s at h in
        let e₃ : span i (at + 1) w ≡ span i at w ++ (get_or s at 0 ∷ []) = span_more i at w r.ahead (omega (arith, length_marked s)) ∙ ap (λ (b : ℕ). span i at w ++ (b ∷ [])) e₂ in
        record {
          same =
              r.same
              ∙ (ap (λ R. bind R (λ u q. ok (span i at w ++ u) q)) e₁
              ∙ (bind_assoc (run test (drop (at + 1) w)) (λ v q. ok (get_or s at 0 ∷ v) q) (λ u q. ok (span i at w ++ u) q)
              ∙ ap (λ (f : List ℕ → List ℕ). bind (run test (drop (at + 1) w)) (λ u q. ok (f u) q)) (fronts e₃)));
          inside = omega arith;
          ahead = omega (arith, r.ahead);
        }
      where
        fronts : span i (at + 1) (marked s) ≡ span i at (marked s) ++ (get_or s at 0 ∷ []) → ◌≡◌ {A = List ℕ → List ℕ} (λ v. span i at (marked s) ++ (get_or s at 0 ∷ v)) (λ u. span i (at + 1) (marked s) ++ u)
        fronts e = λ j v. (sym (lib.Seq.append_snoc (span i at (marked s)) (get_or s at 0) v) ∙ ap (λ (l : List ℕ). l ++ v) (sym e)) j

    stop : run test (drop at (marked s)) ≡ ok [] (drop at (marked s)) → Ran s test i at
    unfolding bind
    stop e = record { is = r.same ∙ (rw e (ap (λ (l : List ℕ). ok l (drop at (marked s))) (append-nil (span i at (marked s))))); inside = r.inside; ahead = r.ahead }

    pub run_stop : at < length s → test (get_or s at 0) ≡ false → Ran s test i at
    unfolding run
    run_stop h t = stop (rw (at_byte s at h) (rw (t, run)))

    pub run_end : length s ≤ at → test 256 ≡ false → Ran s test i at
    unfolding run
    run_end h t = let e : at ≡ length s = omega (arith, r.inside) in stop (rw (at-end s at e) (rw (t, run)))
