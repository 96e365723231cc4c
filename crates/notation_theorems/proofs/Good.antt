-- What is said of a reader of text: it takes a front of the text; it reads that front alike before any tail that cannot go on in its
-- last token; and a refusal other than 3 and 11 stays when blanks follow.
use Prim.Native.Nat.{ℕ, suc, ◌<◌}
use native.Mathlib.Omega.{arith}
use mathlib.Core.Path.{◌≡◌, refl, sym, ap, ◌∙◌}
use mathlib.Core.Bool.{true, false}
use mathlib.Core.List.{List, [], ◌∷◌, ◌++◌, append_assoc, append-nil}
use lib.ListN.{length, length-append}
use Rattle.cbor.specs.Refusals.{Result, ok, refuse, bind, no_token, not_allowed}
use mathlib.Core.Logic.{◌⊎◌}
use borrow.Author.Tests.{eqb-true}
use Rattle.notation.specs.Classes.{class_number, class_of, blank, is, is_word, goes_on}
use Rattle.notation.specs.Scanning.{skip}
use Rattle.notation.specs.Tokens.{Token}
use Rattle.notation.specs.Cutting.{next}

-- a text that no token goes on into
pub data Stop : List ℕ → Type 0 where
  stop_nil : Stop []
  stop_at : {b : ℕ} {s : List ℕ} → goes_on b ≡ false → Stop (b ∷ s)

-- a text that begins with a blank, or is empty
pub data Blank : List ℕ → Type 0 where
  blank_nil : Blank []
  blank-at : {b : ℕ} {s : List ℕ} → is blank b ≡ true → Blank (b ∷ s)

-- t stands behind what was read; t' may stand there as well: it is t to begin with, and then a text that no token goes on into
pub record Like (t t' : List ℕ) : Type 0 where
  pub shared : List ℕ
  pub old : List ℕ
  pub new : List ℕ
  pub was : t ≡ shared ++ old
  pub now : t' ≡ shared ++ new
  pub ends : Stop new

pub like : {t t' : List ℕ} → Stop t' → Like t t'
like {t} {t'} h = record { shared = []; old = t; new = t'; was = refl; now = refl; ends = h }

pub like_app : (k t t' : List ℕ) → Like t t' → Like (k ++ t) (k ++ t')
like_app k t t' l =
    record { shared = k ++ l.shared; old = l.old; new = l.new; was = cc (append_assoc k l.shared l.old); now = cc (append_assoc k l.shared l.new); ends = l.ends }

pub like_more : (t r : List ℕ) → Stop r → Like t (t ++ r)
like_more t r h = record { shared = t; old = []; new = r; was = sym (append-nil t); now = refl; ends = h }

-- the refusals that more text cannot take back
pub record Hard (k : ℕ) : Type 0 where
  pub not3 : k ≡ no_token → ⊥
  pub not11 : k ≡ not_allowed → ⊥

-- A success: the text that was taken, and that it is read alike in front of other texts. rd has two places first, which only its
-- refusals name.
pub record Took {A : Type 0} (rd : ℕ → ℕ → List ℕ → Result A) (s : List ℕ) (x : A) (t : List ℕ) : Type 0 where
  pub used : List ℕ
  pub split : s ≡ used ++ t
  pub again : (p q : ℕ) (t' : List ℕ) → Like t t' → rd p q (used ++ t') ≡ ok x t'

-- what is said of the result of rd on s: of a success, and of a refusal
abbrev pub Good : {A : Type 0} → (ℕ → ℕ → List ℕ → Result A) → List ℕ → Result A → Type 0
Good rd s (ok x t) = Took rd s x t
Good rd s (refuse k w) = Hard k → (p q : ℕ) (r : List ℕ) → Blank r → (w' : ℕ) × (rd p q (s ++ r) ≡ refuse k w')

-- a success leaves less than n
abbrev pub Below : {A : Type 0} → ℕ → Result A → Type 0
Below n (ok x r) = length r < n
Below n (refuse k w) = Unit {0}

pub good-below : {A : Type 0} (rd : ℕ → ℕ → List ℕ → Result A) (s : List ℕ) (R : Result A) → Good rd s R → Below (suc (length s)) R
good-below rd s (ok x t) g = omega (arith, simp length-append at (ap length g.split))
good-below rd s (refuse k w) g = tt

-- a reader that drops b and goes on as rd' does
pub good_cons : {A : Type 0} (rd rd' : ℕ → ℕ → List ℕ → Result A) (b : ℕ) → ((p q : ℕ) (u : List ℕ) → rd p q (b ∷ u) ≡ rd' p q u) → (s : List ℕ) (R : Result A) → Good rd' s R
    → Good rd (b ∷ s) R
good_cons rd rd' b h s (ok x t) g =
    record { used = b ∷ g.used; split = ap (λ (u : List ℕ). b ∷ u) g.split; again = λ p q t' l. h p q (g.used ++ t') ∙ g.again p q t' l }
good_cons rd rd' b h s (refuse k w) g = λ hard p q r st. let e = g hard p q r st in (e.0, h p q (s ++ r) ∙ e.1)

pub good-ok : {A : Type 0} (x : A) (s : List ℕ) → Good (λ p q. ok x) s (ok x s)
good-ok x s = record { used = []; split = refl; again = λ p q t l. refl }

-- a blank ends every token
pub blank-ends : (b : ℕ) → is blank b ≡ true → goes_on b ≡ false
unfolding is goes_on is_word class_number
blank-ends b h = let e : 1 ≡ class_number (class_of b) = eqb-true 1 (class_number (class_of b)) h in rw (← e)

pub blank_stop : {r : List ℕ} → Blank r → Stop r
blank_stop blank_nil = stop_nil
blank_stop (blank-at {b} h) = stop_at (blank-ends b h)

-- A reader behind another.
module _ {A B : Type 0} (rd : ℕ → ℕ → List ℕ → Result A) (rd₁ : ℕ → ℕ → List ℕ → Result B) (rd₂ : B → ℕ → ℕ → List ℕ → Result A)
    (goes : (p q : ℕ) (u : List ℕ) (x : B) (t : List ℕ) → rd₁ p q u ≡ ok x t → (p' q' : ℕ) × (rd p q u ≡ rd₂ x p' q' t))
    (stays : (p q : ℕ) (u : List ℕ) (k w : ℕ) → rd₁ p q u ≡ refuse k w → rd p q u ≡ refuse k w) where
  good-step : (s : List ℕ) (x : B) (t : List ℕ) → Took rd₁ s x t → (R : Result A) → Good (rd₂ x) t R → Good rd s R
  good-step s x t g (ok y u) h =
      record {
        used = g.used ++ h.used;
        split = cc (append_assoc g.used h.used u);
        again = λ p q t' l.
            let m = goes p q (g.used ++ (h.used ++ t')) x (h.used ++ t') (g.again p q (h.used ++ t') (rw h.split (like_app h.used u t' l))) in
            rw append_assoc (m.2 ∙ h.again _ _ t' l);
      }
  good-step s x t g (refuse k w) h = λ hard p q u st.
      let m = goes p q (s ++ u) x (t ++ u) (rw (g.split, append_assoc) (g.again p q (t ++ u) (like_more t u (blank_stop st)))) in
      let e = h hard m.0 m.1 u st in
      (e.0, m.2 ∙ e.1)

  pub good-bind : (s : List ℕ) (R : Result B) → Good rd₁ s R → (f : B → List ℕ → Result A) → ((x : B) (t : List ℕ) → Good (rd₂ x) t (f x t)) → Good rd s (bind R f)
  unfolding bind
  good-bind s (ok x t) g f h = good-step s x t g (f x t) (h x t)
  good-bind s (refuse k w) g f h = λ hard p q u st. let e = g hard p q u st in (e.0, stays p q (s ++ u) k e.0 e.1)

-- WHAT CUTTING TOKENS SUPPLIES (proofs/Locality): nothing else looks into `next`
pub record Lexing : Type 0 where
  -- `next` is a reader as above
  pub good : (s : List ℕ) → Good (λ p q. next) s (next s)
  -- a token is not empty
  pub less : (s : List ℕ) → Below (length s) (next s)
  -- a token begins with an ASCII byte, or is the end mark
  pub ascii : (s : List ℕ) (t : Token) (r : List ℕ) → next s ≡ ok t r → (b : ℕ) × (u : List ℕ) × (skip s ≡ b ∷ u) × ((b < 128) ⊎ (b ≡ 256))
  -- what is skipped is skipped alike in front of any other text
  pub skips : (s : List ℕ) → (front : List ℕ) × (s ≡ front ++ skip s) × ((u : List ℕ) → skip (front ++ u) ≡ skip u)
  pub blank_skip : (b : ℕ) (s : List ℕ) → is blank b ≡ true → skip (b ∷ s) ≡ skip s
  pub skip_nil : skip [] ≡ []
