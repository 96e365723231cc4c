-- Reading several, one behind the other, whatever they are: from written to read.
use Prim.Native.Nat.{ℕ, zero, suc, ◌<◌}
use native.Mathlib.Omega.{arith}
use mathlib.Core.Path.{◌≡◌, refl, ap, ◌∙◌}
use mathlib.Core.List.{List, [], ◌∷◌, ◌++◌, append_assoc}
use lib.ListN.{length, length-append}
use borrow.Author.Tests.{ne_eqb}
use Rattle.cbor.specs.Refusals.{Result, ok, bind}
use Rattle.cbor.specs.Heads.{break}
use Rattle.cbor.specs.Decode.{Until, counted, broken, ended, finished, another, step_at, several_by, several_within, several}

-- what stands behind the last one, and before r
abbrev pub tail_of : Until → List ℕ → List ℕ
tail_of (counted n) r = r
tail_of broken r = break ∷ r
tail_of ended r = r

-- there are k, and then it is over
abbrev pub Meets : Until → ℕ → List ℕ → Type 0
Meets (counted n) k r = n ≡ k
Meets broken k r = Unit
Meets ended k r = r ≡ []

-- bytes that begin with another byte than a break
pub record Begins (s : List ℕ) : Type 0 where
  pub first : ℕ
  pub rest : List ℕ
  pub is : s ≡ first ∷ rest
  pub low : first < 255

pub begins-more : {s : List ℕ} (t : List ℕ) → Begins s → Begins (s ++ t)
begins-more t b = record { first = b.first; rest = b.rest ++ t; is = ap (λ (x : List ℕ). x ++ t) b.is; low = b.low }

-- nothing is left to be read
pub step-over : (u : Until) (r : List ℕ) → Meets u 0 r → step_at u (tail_of u r) ≡ finished r
unfolding step_at
step-over (counted n) r h = rw (h, step_at)
step-over broken r h = refl
step-over ended r h = rw (h, step_at)

pub record Goes (u : Until) (n : ℕ) (s r : List ℕ) : Type 0 where
  pub next : Until
  pub step : step_at u s ≡ another next
  pub meets : Meets next n r
  pub tail : tail_of next r ≡ tail_of u r

goes_cons : (u : Until) (n b : ℕ) (s r : List ℕ) → b < 255 → Meets u (suc n) r → Goes u n (b ∷ s) r
unfolding step_at
goes_cons (counted m) n b s r l h = record { next = counted n; step = rw (h, step_at); meets = refl; tail = refl }
goes_cons broken n b s r l h = let e : b ≡ break → ⊥ = omega arith in record { next = broken; step = rw (ne_eqb b break e, step_at); meets = tt; tail = refl }
goes_cons ended n b s r l h = record { next = ended; step = refl; meets = h; tail = refl }

pub goes : (u : Until) (n : ℕ) (s r : List ℕ) → Begins s → Meets u (suc n) r → Goes u n s r
goes u n s r b h = rw b.is (goes_cons u n b.first b.rest r b.low h)

module _ {A L : Type 0} (nil : L) (cons : A → L → L) (rd : List ℕ → Result A) where
  -- c is n elements written one behind the other, and read they are xs
  abbrev pub Reads : L → ℕ → List ℕ → Type 0
  Reads xs n c =
      (f : ℕ) (u : Until) (r : List ℕ) → Meets u n r → length (c ++ tail_of u r) < f → several_within nil cons rd f u (c ++ tail_of u r) ≡ ok xs r

  pub reads_nil : Reads nil 0 []
  unfolding several_within several_by
  reads_nil zero u r m h = absurd (omega arith)
  reads_nil (suc f) u r m h = rw (step-over u r m)

  several-step : (f : ℕ) (u u' : Until) (s : List ℕ) (x : A) (t : List ℕ) (xs : L) (r : List ℕ) → step_at u s ≡ another u' → rd s ≡ ok x t
      → several_within nil cons rd f u' t ≡ ok xs r → several_within nil cons rd (suc f) u s ≡ ok (cons x xs) r
  unfolding several_within several_by bind
  several-step f u u' s x t xs r e g k = rw e (rw g (rw k))

  pub reads_cons : (x : A) (xs : L) (n : ℕ) (b c : List ℕ) → Begins b → ((s : List ℕ) → rd (b ++ s) ≡ ok x s) → Reads xs n c → Reads (cons x xs) (suc n) (b ++ c)
  reads_cons x xs n b c g e k zero u r m h = absurd (omega arith)
  reads_cons x xs n b c g e k (suc f) u r m h =
      let o = goes u n ((b ++ c) ++ tail_of u r) r (begins-more (tail_of u r) (begins-more c g)) m in
      let short : length (c ++ tail_of u r) < f = simp length-append (omega (arith, simp length-append at h, ap length g.is)) in
      several-step f u o.next ((b ++ c) ++ tail_of u r) x (c ++ tail_of u r) xs r o.step (ap rd (append_assoc b c (tail_of u r)) ∙ e (c ++ tail_of u r))
      (rw o.tail at (k f o.next r o.meets (rw o.tail short)))

  pub reads_all : (xs : L) (n : ℕ) (c : List ℕ) → Reads xs n c → (u : Until) (r : List ℕ) → Meets u n r → several nil cons rd u (c ++ tail_of u r) ≡ ok xs r
  unfolding several
  reads_all xs n c k u r m = k (suc (length (c ++ tail_of u r))) u r m (omega arith)
