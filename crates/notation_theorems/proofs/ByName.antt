-- Whatever is read by name reads well, and satisfies the equation that one expects: for every table of rules. The bound on calls does
-- not matter, if it is more than the length of the text.
use Prim.Native.Nat.{ℕ, zero, suc, ◌+◌, ◌<◌}
use native.Mathlib.Omega.{arith}
use mathlib.Core.Path.{◌≡◌, refl, sym, ap, ◌∙◌}
use mathlib.Core.List.{List, [], ◌++◌, append_cancel_right}
use lib.ListN.{length}
use Rattle.cbor.specs.Refusals.{Result, ok, refuse, bind}
use Rattle.notation.specs.Scanning.{skip}
use Rattle.notation.specs.Tokens.{Token}
use Rattle.notation.specs.Cutting.{next, place}
use Rattle.notation.specs.Form.{Name, Value, Rule, give, deny, deny_first, take, call, rules, Calls, obey, reads_within, reads}
use Rattle.notation_theorems.proofs.Good.{Blank, Hard, Took, Good, Below, good-below, good-bind}
use Rattle.notation_theorems.proofs.Locality.{lexing, next-skip}

pub bind_ok : {A B : Type 0} {R : Result A} {x : A} {t : List ℕ} (f : A → List ℕ → Result B) → R ≡ ok x t → bind R f ≡ f x t
unfolding bind
bind_ok f e = rw e

pub bind-refuse : {A B : Type 0} {R : Result A} {k w : ℕ} (f : A → List ℕ → Result B) → R ≡ refuse k w → bind R f ≡ refuse k w
unfolding bind
bind-refuse f e = rw e

-- EVERY RULE READS WELL, if what it calls does
module _ (c : Calls) (c-good : (n : Name) (s : List ℕ) → Good (λ p q. c n) s (c n s)) where
  pub obey-good : {A : Type 0} (r : Rule A) (p q : ℕ) (s : List ℕ) → Good (obey c r) s (obey c r p q s)
  unfolding obey
  obey-good (give x) p q s = record { used = []; split = refl; again = λ p' q' t l. refl }
  obey-good (deny k) p q s = λ h p' q' r st. (q', refl)
  obey-good (deny_first k) p q s = λ h p' q' r st. (p', refl)
  obey-good (take f) p q s =
      good-bind (obey c (take f)) (λ p q. next) (λ t. obey c (f t)) (λ p q u t r e. (p, place u, bind_ok _ e)) (λ p q u k w e. bind-refuse _ e) s (next s) (lexing.good s)
      (λ t r. obey c (f t) p (place s) r) (λ t r. obey-good (f t) p (place s) r)
  obey-good (call n k) p q s =
      good-bind (obey c (call n k)) (λ p q. c n) (λ x. obey c (k x)) (λ p q u x r e. (p, q, bind_ok _ e)) (λ p q u k w e. bind-refuse _ e) s (c n s) (c-good n s)
      (λ x r. obey c (k x) p q r) (λ x r. obey-good (k x) p q r)

within-good : (f : ℕ) (n : Name) (s : List ℕ) → Good (λ p q. reads_within f n) s (reads_within f n s)
unfolding reads_within
within-good zero n s = λ h p q r st. (0, refl)
within-good (suc f) n s =
    good-bind (λ p q. reads_within (suc f) n) (λ p q. next) (λ t. obey (reads_within f) (rules n t)) (λ p q u t r e. (place u, place u, bind_ok _ e)) (λ p q u k w e. bind-refuse _ e) s (next s)
    (lexing.good s) (λ t r. obey (reads_within f) (rules n t) (place s) (place s) r) (λ t r. obey-good (reads_within f) (within-good f) (rules n t) (place s) (place s) r)

-- THE BOUND
bind_alike : {A B : Type 0} (n : ℕ) (R : Result A) (f f' : A → List ℕ → Result B) → Below n R → ((x : A) (t : List ℕ) → length t < n → f x t ≡ f' x t) → bind R f ≡ bind R f'
unfolding bind
bind_alike n (ok x t) f f' b h = h x t b
bind_alike n (refuse k w) f f' b h = refl

-- calls that are alike on texts of fewer than m elements
module _ (m : ℕ) (c c' : Calls) (alike : (n : Name) (s : List ℕ) → length s < m → c n s ≡ c' n s) (c-below : (n : Name) (s : List ℕ) → Below (suc (length s)) (c n s)) where
  obey_alike : {A : Type 0} (r : Rule A) (p q : ℕ) (s : List ℕ) → length s < m → obey c r p q s ≡ obey c' r p q s
  unfolding obey
  obey_alike (give x) p q s h = refl
  obey_alike (deny k) p q s h = refl
  obey_alike (deny_first k) p q s h = refl
  obey_alike (take f) p q s h = bind_alike (length s) (next s) _ _ (lexing.less s) (λ t r b. obey_alike (f t) p (place s) r (omega arith))
  obey_alike (call n k) p q s h =
      bind_alike (suc (length s)) (c n s) _ _ (c-below n s) (λ x r b. obey_alike (k x) p q r (omega arith))
      ∙ ap (λ R. bind R (λ x r. obey c' (k x) p q r)) (alike n s h)

within-below : (f : ℕ) (n : Name) (s : List ℕ) → Below (suc (length s)) (reads_within f n s)
within-below f n s = good-below (λ p q. reads_within f n) s (reads_within f n s) (within-good f n s)

fuel : (f f' : ℕ) (n : Name) (s : List ℕ) → length s < f → length s < f' → reads_within f n s ≡ reads_within f' n s
unfolding reads_within
fuel zero f' n s h h' = absurd (omega arith)
fuel (suc f) zero n s h h' = absurd (omega arith)
fuel (suc f) (suc f') n s h h' =
    bind_alike (length s) (next s) _ _ (lexing.less s)
    (λ t r b. obey_alike (length s) (reads_within f) (reads_within f') (λ n' u b'. fuel f f' n' u (omega arith) (omega arith)) (within-below f) (rules n t) (place s) (place s) r b)

-- THE EQUATION of what is read by name
pub reads-is : (n : Name) (s : List ℕ) → reads n s ≡ bind (next s) (λ t r. obey reads (rules n t) (place s) (place s) r)
unfolding reads reads_within
reads-is n s =
    bind_alike (length s) (next s) _ _ (lexing.less s)
    (λ t r b. obey_alike (length s) (reads_within (length s)) reads (λ n' u b'. fuel (length s) (suc (length u)) n' u b' (omega arith)) (within-below (length s)) (rules n t) (place s) (place s) r b)

-- and it reads well
pub reads-good : (n : Name) (s : List ℕ) → Good (λ p q. reads n) s (reads n s)
unfolding reads
reads-good n s = go (reads_within (suc (length s)) n s) refl (within-good (suc (length s)) n s)
  where
    go : (R : Result (Value n)) → reads_within (suc (length s)) n s ≡ R → Good (λ p q. reads_within (suc (length s)) n) s R → Good (λ p q. reads n) s R
    go (ok x t) e g =
        record {
          used = g.used;
          split = g.split;
          again = λ p q t' l.
              let f = suc (length s) + suc (length (g.used ++ t')) in
              let h = rw (fuel f (suc (length s)) n s (omega arith) (omega arith) ∙ e) at (within-good f n s) in
              let c : h.used ≡ g.used = append_cancel_right h.used g.used t (sym h.split ∙ g.split) in
              fuel (suc (length (g.used ++ t'))) f n (g.used ++ t') (omega arith) (omega arith) ∙ (rw c at (h.again p q t' l));
        }
    go (refuse k w) e g = λ hard p q r st.
        let f = suc (length s) + suc (length (s ++ r)) in
        let h = (rw (fuel f (suc (length s)) n s (omega arith) (omega arith) ∙ e) at (within-good f n s)) hard p q r st in
        (h.0, fuel (suc (length (s ++ r))) f n (s ++ r) (omega arith) (omega arith) ∙ h.1)

pub rule_good : {A : Type 0} (r : Rule A) (p q : ℕ) (s : List ℕ) → Good (obey reads r) s (obey reads r p q s)
rule_good r p q s = obey-good reads reads-good r p q s

-- a success, and a refusal that stays, of anything read by name
pub took : (n : Name) (s : List ℕ) {x : Value n} {t : List ℕ} → reads n s ≡ ok x t → Took (λ p q. reads n) s x t
took n s e = rw e at (reads-good n s)

pub refused_stays : (n : Name) (s : List ℕ) {k w : ℕ} → reads n s ≡ refuse k w → Hard k → (r : List ℕ) → Blank r → (w' : ℕ) × (reads n (s ++ r) ≡ refuse k w')
refused_stays n s e hard r st = (rw e at (reads-good n s)) hard 0 0 r st

pub took-next : (s : List ℕ) {t : Token} {r : List ℕ} → next s ≡ ok t r → Took (λ p q. next) s t r
took-next s e = rw e at (lexing.good s)

-- the next token, its place, and all that is read depend on what is behind the blanks alone
pub reads-skips : (n : Name) (s s' : List ℕ) → skip s' ≡ skip s → reads n s' ≡ reads n s
unfolding place
reads-skips n s s' e = reads-is n s' ∙ (rw (next-skip s' s e, e)) ∙ sym (reads-is n s)
