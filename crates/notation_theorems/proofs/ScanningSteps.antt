-- The steps that tokens are cut with read well, and so does what is made of them.
use Prim.Native.Nat.{ℕ}
use native.Mathlib.Omega.{arith}
use mathlib.Core.Path.{◌≡◌, refl, ◌∙◌}
use mathlib.Core.Bool.{Bool, true, false}
use mathlib.Core.List.{List, [], ◌∷◌, ◌++◌}
use lib.Dec.{eqb}
use Rattle.cbor.specs.Refusals.{Result, ok, refuse, bind, no_token}
use Rattle.notation.specs.Classes.{blank, is, goes_on}
use Rattle.notation.specs.Scanning.{run, whether, expect}
use Rattle.notation_theorems.proofs.Good.{Stop, stop_nil, stop_at, Blank, blank_nil, blank-at, Like, like_app, like_more, Good, good_cons, good-ok, good-bind, blank_stop}
use Rattle.notation_theorems.proofs.ScanningElements.{off, off_is, blank-is_not}

-- a reader without places that reads every text well
abbrev pub Sure : {A : Type 0} → (List ℕ → Result A) → Type 0
Sure rd = (s : List ℕ) → Good (λ p q. rd) s (rd s)

-- JOINING READERS
pub sure_ok : {A : Type 0} (x : A) → Sure (ok x)
sure_ok x s = good-ok x s

pub sure_refuse : {A : Type 0} (k w : ℕ) → Sure {A = A} (λ u. refuse k w)
sure_refuse k w s = λ hard p q r st. (w, refl)

-- of a refusal by 3 nothing is said
pub good_soft : {A : Type 0} (rd : ℕ → ℕ → List ℕ → Result A) (s : List ℕ) (w : ℕ) → Good {A = A} rd s (refuse no_token w)
good_soft rd s w = λ hard. absurd (hard.not3 refl)

pub sure_if : {A : Type 0} (v : Bool) (f g : List ℕ → Result A) → Sure f → Sure g → Sure {A = A} (λ u. elim v [ true ↦ f u | false ↦ g u ])
sure_if true f g hf hg = hf
sure_if false f g hf hg = hg

pub good-then : {A B : Type 0} (f : List ℕ → Result B) (g : B → List ℕ → Result A) (s : List ℕ) → Good (λ p q. f) s (f s) → ((x : B) → Sure (g x))
    → Good (λ p q u. bind (f u) g) s (bind (f s) g)
unfolding bind
good-then f g s h k = good-bind (λ p q u. bind (f u) g) (λ p q. f) (λ x p q. g x) (λ p q u x t e. (p, q, rw e)) (λ p q u n w e. rw e) s (f s) h g k

pub sure_then : {A B : Type 0} (f : List ℕ → Result B) (g : B → List ℕ → Result A) → Sure f → ((x : B) → Sure (g x)) → Sure (λ u. bind (f u) g)
sure_then f g h k s = good-then f g s (h s) k

-- a reader that reads every text like s as rd' does
pub good_as : {A : Type 0} (rd rd' : List ℕ → Result A) (s : List ℕ) → ((t : List ℕ) → Like s t → rd t ≡ rd' t) → (R : Result A) → Good (λ p q. rd') s R → Good (λ p q. rd) s R
good_as rd rd' s h (ok x t) g =
    record { used = g.used; split = g.split; again = λ p q t' l. h (g.used ++ t') (rw g.split (like_app g.used t t' l)) ∙ g.again p q t' l }
good_as rd rd' s h (refuse k w) g = λ hard p q r st. let e = g hard p q r st in (e.0, h (s ++ r) (like_more s r (blank_stop st)) ∙ e.1)

-- LOOKING AHEAD
-- a text like an empty one, or like one with an element in front
pub like_nil : (P : List ℕ → Type 0) → ((u : List ℕ) → Stop u → P u) → (t : List ℕ) → Like [] t → P t
like_nil P h t l = rw l.now (go l.shared l.was)
  where
    go : (k : List ℕ) → [] ≡ k ++ l.old → P (k ++ l.new)
    go [] e = h l.new l.ends
    go (c ∷ k) e = let z : ◌≡◌ {A = ℕ} 0 1 = cc in absurd (omega arith)

pub like_cons : (P : List ℕ → Type 0) → ((u : List ℕ) → Stop u → P u) → (b : ℕ) (s : List ℕ) → ((u : List ℕ) → Like s u → P (b ∷ u)) → (t : List ℕ) → Like (b ∷ s) t → P t
like_cons P h b s g t l = rw l.now (go l.shared l.was)
  where
    go : (k : List ℕ) → b ∷ s ≡ k ++ l.old → P (k ++ l.new)
    go [] e = h l.new l.ends
    go (c ∷ k) e =
        let e₁ : b ≡ c = cc in
        let e₂ : s ≡ k ++ l.old = cc in
        rw e₁ at (g (k ++ l.new) (record { shared = k; old = l.old; new = l.new; was = e₂; now = refl; ends = l.ends }))

-- a test of the text ahead, which stays true when text is added, and stays false in a like text
pub sure_unless : {A : Type 0} (test : List ℕ → Bool) → ((s r : List ℕ) → test s ≡ true → test (s ++ r) ≡ true) → ((s t : List ℕ) → Like s t → test s ≡ false → test t ≡ false)
    → (k w : ℕ) (rd : List ℕ → Result A) → Sure rd → Sure {A = A} (λ u. elim (test u) [ true ↦ refuse k w | false ↦ rd u ])
sure_unless {A} test keeps lacks k w rd h s = go (test s) refl
  where
    go : (v : Bool) → test s ≡ v → Good {A = A} (λ p q u. elim (test u) [ true ↦ refuse k w | false ↦ rd u ]) s (elim v [ true ↦ refuse k w | false ↦ rd s ])
    go true e = λ hard p q r st. (w, rw (keeps s r e))
    go false e = good_as (λ u. elim (test u) [ true ↦ refuse k w | false ↦ rd u ]) rd s (λ t l. rw (lacks s t l e)) (rd s) (h s)

-- THE STEPS
module _ (test : ℕ → Bool) (on : (b : ℕ) → test b ≡ true → goes_on b ≡ true) where
  run_stop : (u : List ℕ) → Stop u → run test u ≡ ok [] u
  unfolding run
  run_stop u stop_nil = refl
  run_stop u (stop_at {b} h) = rw (off test on b h, run)

  pub run_sure : Sure (run test)
  unfolding run
  run_sure [] = good_as (run test) (ok []) [] (like_nil (λ t. run test t ≡ ok [] t) run_stop) (ok [] []) (good-ok [] [])
  run_sure (b ∷ s) = go (test b) refl (run_sure s)
    where
      go : (v : Bool) → test b ≡ v → Good (λ p q. run test) s (run test s)
          → Good {A = List ℕ} (λ p q. run test) (b ∷ s) (elim v [ true ↦ bind (run test s) (λ w r. ok (b ∷ w) r) | false ↦ ok [] (b ∷ s) ])
      go true e g =
          good_cons (λ p q. run test) (λ p q u. bind (run test u) (λ w r. ok (b ∷ w) r)) b (λ p q u. rw (e, run)) s (bind (run test s) (λ w r. ok (b ∷ w) r))
          (good-then (run test) (λ w r. ok (b ∷ w) r) s g (λ w. sure_ok (b ∷ w)))
      go false e g =
          good_as (run test) (ok []) (b ∷ s) (like_cons (λ t. run test t ≡ ok [] t) run_stop b s (λ u l. rw (e, run))) (ok [] (b ∷ s)) (good-ok [] (b ∷ s))

module _ (c : ℕ) (on : goes_on c ≡ true) where
  whether_stop : (u : List ℕ) → Stop u → whether c u ≡ ok false u
  unfolding whether
  whether_stop u stop_nil = refl
  whether_stop u (stop_at {b} h) = rw (off_is c on b h, whether)

  pub whether_sure : Sure (whether c)
  unfolding whether
  whether_sure [] = good_as (whether c) (ok false) [] (like_nil (λ t. whether c t ≡ ok false t) whether_stop) (ok false []) (good-ok false [])
  whether_sure (b ∷ s) = go (eqb b c) refl
    where
      go : (v : Bool) → eqb b c ≡ v → Good {A = Bool} (λ p q. whether c) (b ∷ s) (elim v [ true ↦ ok true s | false ↦ ok false (b ∷ s) ])
      go true e = good_cons (λ p q. whether c) (λ p q. ok true) b (λ p q u. rw (e, whether)) s (ok true s) (good-ok true s)
      go false e =
          good_as (whether c) (ok false) (b ∷ s) (like_cons (λ t. whether c t ≡ ok false t) whether_stop b s (λ u l. rw (e, whether))) (ok false (b ∷ s)) (good-ok false (b ∷ s))

-- c is no blank, so that a refusal stays when blanks follow
module _ (c n : ℕ) (not-blank : is blank c ≡ false) where
  pub expect_sure : Sure (expect c n)
  unfolding expect
  expect_sure [] = λ hard p q r st. (0, go r st)
    where
      go : (r : List ℕ) → Blank r → expect c n r ≡ refuse n 0
      go r blank_nil = refl
      go r (blank-at {b} h) = rw (blank-is_not c not-blank b h, expect)
  expect_sure (b ∷ s) = go (eqb b c) refl
    where
      go : (v : Bool) → eqb b c ≡ v → Good {A = Unit} (λ p q. expect c n) (b ∷ s) (elim v [ true ↦ ok tt s | false ↦ refuse n 0 ])
      go true e = good_cons (λ p q. expect c n) (λ p q. ok tt) b (λ p q u. rw (e, expect)) s (ok tt s) (good-ok tt s)
      go false e = λ hard p q r st. (0, rw (e, expect))
