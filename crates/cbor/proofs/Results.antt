-- What reading gives: a value, or a refusal, and never both.
use Prim.Native.Nat.{ℕ}
use native.Mathlib.Omega.{arith}
use mathlib.Core.List.{List}
use mathlib.Core.Path.{◌≡◌, refl, ap}
use Rattle.cbor.specs.Refusals.{Result, ok, refuse, bind, Verdict, accepted, refused, verdict_of}

pub refuse_not_ok : {A : Type 0} {n left : ℕ} {x : A} {r : List ℕ} → ◌≡◌ {A = Result A} (refuse n left) (ok x r) → ⊥
refuse_not_ok e = let z : ◌≡◌ {A = ℕ} 0 1 = cc in omega arith

pub refused_not_accepted : {A : Type 0} {x : A} {n q : ℕ} → ◌≡◌ {A = Verdict A} (refused n q) (accepted x) → ⊥
refused_not_accepted e = let z : ◌≡◌ {A = ℕ} 0 1 = cc in omega arith

-- what a verdict comes from
pub verdict_ok : {A : Type 0} (n : ℕ) (R : Result A) {x : A} → verdict_of n R ≡ accepted x → (r : List ℕ) × (R ≡ ok x r)
unfolding verdict_of
verdict_ok n (ok y r) e = (r, ap (λ z. ok z r) (cc))
verdict_ok n (refuse k w) e = absurd (refused_not_accepted e)

-- one reading behind another
pub bind-same : {A B : Type 0} (R : Result A) (f f' : A → List ℕ → Result B) → ((x : A) (t : List ℕ) → R ≡ ok x t → f x t ≡ f' x t) → bind R f ≡ bind R f'
unfolding bind
bind-same (ok x t) f f' h = h x t refl
bind-same (refuse k w) f f' h = refl

pub bind_assoc : {A B C : Type 0} (R : Result A) (f : A → List ℕ → Result B) (g : B → List ℕ → Result C) → bind (bind R f) g ≡ bind R (λ x t. bind (f x t) g)
unfolding bind
bind_assoc (ok x t) f g = refl
bind_assoc (refuse k w) f g = refl
