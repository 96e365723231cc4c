-- Reading takes bytes from the front: what is left is an end of what there was, and a refusal stands within it.
-- So several, one behind the other, are read one by one, whatever their number.
-- Assumes nothing.
use Prim.Native.Nat.{ℕ, zero, suc, ◌+◌, ◌-◌, ◌≤◌, ◌<◌}
use native.Mathlib.Omega.{arith}
use mathlib.Core.Path.{◌≡◌, refl, ap, ◌∙◌}
use mathlib.Core.Bool.{Bool, true, false}
use mathlib.Core.List.{List, [], ◌∷◌}
use lib.Dec.{eqb}
use lib.ListN.{length, drop, length-drop}
use lib.Seq.{drop-drop}
use Rattle.cbor.specs.Refusals.{Result, ok, refuse, bind}
use Rattle.cbor.specs.Heads.{break}
use Rattle.cbor.specs.Decode.{Until, counted, broken, ended, Step, finished, another, step_at, several_by, several_within, several}
use Rattle.walk_answer.specs.WalkAnswers.{map_result}

-- r is an end of s, with at least k bytes before it, and a number of bytes among these
pub record Left (k : ℕ) (s r : List ℕ) (size : ℕ) : Type 0 where
  pub less : k + length r ≤ length s
  pub drops : r ≡ drop (length s - length r) s
  pub small : size + length r ≤ length s

abbrev pub Leaves : {A : Type 0} → ℕ → (A → ℕ) → List ℕ → Result A → Type 0
Leaves k f s (ok x r) = Left k s r (f x)
Leaves k f s (refuse n left) = left ≤ length s

pub left_cut : (k size at : ℕ) (s : List ℕ) → k ≤ at → size ≤ at → at ≤ length s → Left k s (drop at s) size
left_cut k size at s h z i =
    let l = length-drop at s in
    let e : at ≡ length s - length (drop at s) = omega arith in
    record { less = omega arith; drops = ap (λ (m : ℕ). drop m s) e; small = omega arith }

pub left-all : (s : List ℕ) → Left 0 s s 0
left-all s = left_cut 0 0 0 s (omega arith) (omega arith) (omega arith)

pub left_weak : {k j size z : ℕ} {s r : List ℕ} → j ≤ k → z ≤ size → Left k s r size → Left j s r z
left_weak h i l = record { less = omega (arith, l.less); drops = l.drops; small = omega (arith, l.small) }

pub left-on : {k j a b : ℕ} {s t r : List ℕ} → Left k s t a → Left j t r b → Left k s r (a + b)
left-on {k} {j} {a} {b} {s} {t} {r} l m =
    let e : length s - length t + (length t - length r) ≡ length s - length r = omega (arith, l.less, m.less) in
    record {
      less = omega (arith, l.less, m.less);
      drops = m.drops ∙ ap (drop (length t - length r)) l.drops ∙ drop-drop (length t - length r) (length s - length t) s ∙ ap (λ (n : ℕ). drop n s) e;
      small = omega (arith, l.small, m.small);
    }

-- what is read behind a part
pub leaves-behind : {A : Type 0} {k a : ℕ} (j : ℕ) (f g : A → ℕ) {s t : List ℕ} → Left k s t a → ((x : A) → g x ≤ a + f x) → (res : Result A) → Leaves j f t res → Leaves k g s res
leaves-behind j f g l h (ok x r) m = left_weak (omega arith) (h x) (left-on l m)
leaves-behind j f g l h (refuse n left) m = omega (arith, l.less)

-- a part, and then what is read behind it
pub leaves-bind : {A B : Type 0} {k : ℕ} (f : A → ℕ) (g : B → ℕ) {s : List ℕ} (res : Result A) (go : A → List ℕ → Result B) → Leaves k f s res
    → ((x : A) (r : List ℕ) → Left k s r (f x) → Leaves k g s (go x r)) → Leaves k g s (bind res go)
unfolding bind
leaves-bind f g (ok x r) go l h = h x r l
leaves-bind f g (refuse n left) go l h = l

pub leaves_weak : {A : Type 0} (k j : ℕ) (f : A → ℕ) (s : List ℕ) → j ≤ k → (res : Result A) → Leaves k f s res → Leaves j f s res
leaves_weak k j f s h (ok x r) l = left_weak h (omega arith) l
leaves_weak k j f s h (refuse n left) l = l

abbrev pub same : ℕ → ℕ
same n = n

pub leaves-sized : {A : Type 0} (k : ℕ) (f : A → ℕ) (s : List ℕ) (res : Result A) → Leaves k f s res → Leaves k same s (map_result f res)
unfolding map_result
leaves-sized k f s (ok x r) l = l
leaves-sized k f s (refuse n left) l = l

pub sized-leaves : {A : Type 0} (k : ℕ) (f : A → ℕ) (s : List ℕ) (res : Result A) → Leaves k same s (map_result f res) → Leaves k f s res
unfolding map_result
sized-leaves k f s (ok x r) l = l
sized-leaves k f s (refuse n left) l = l

-- SEVERAL

abbrev Fewer : {A : Type 0} → List ℕ → Result A → Type 0
Fewer s (ok x r) = length r < length s
Fewer s (refuse n left) = Unit

leaves_fewer : {A : Type 0} (f : A → ℕ) (s : List ℕ) (res : Result A) → Leaves 1 f s res → Fewer s res
leaves_fewer f s (ok x r) l = omega (arith, l.less)
leaves_fewer f s (refuse n left) l = tt

-- the bound on their number has no effect
module _ {A L : Type 0} (nil : L) (cons : A → L → L) (rd : List ℕ → Result A) (f : A → ℕ) (one : (s : List ℕ) → Leaves 1 f s (rd s)) where
  by-same : (go to : Until → List ℕ → Result L) (s : List ℕ) → ((u : Until) (r : List ℕ) → length r < length s → go u r ≡ to u r) → (t : Step)
      → several_by nil cons rd go t s ≡ several_by nil cons rd to t s
  unfolding several_by bind
  by-same go to s h (finished r) = refl
  by-same go to s h (another u) = by (rd s) (leaves_fewer f s (rd s) (one s))
    where
      by : (res : Result A) → Fewer s res → bind res (λ x r. bind (go u r) (λ xs r'. ok (cons x xs) r')) ≡ bind res (λ x r. bind (to u r) (λ xs r'. ok (cons x xs) r'))
      by (ok x r) i = ap (λ (k : Result L). bind k (λ xs r'. ok (cons x xs) r')) (h u r i)
      by (refuse n left) i = refl

  within_same : (f g : ℕ) (u : Until) (s : List ℕ) → length s < f → length s < g → several_within nil cons rd f u s ≡ several_within nil cons rd g u s
  unfolding several_within
  within_same zero g u s h i = absurd (omega arith)
  within_same (suc f) zero u s h i = absurd (omega arith)
  within_same (suc f) (suc g) u s h i =
      by-same (several_within nil cons rd f) (several_within nil cons rd g) s (λ v r l. within_same f g v r (omega arith) (omega arith)) (step_at u s)

  pub several_eq : (u : Until) (s : List ℕ) → several nil cons rd u s ≡ several_by nil cons rd (several nil cons rd) (step_at u s) s
  unfolding several several_within
  several_eq u s =
      by-same (several_within nil cons rd (length s)) (several nil cons rd) s (λ v r l. within_same (length s) (suc (length r)) v r l (omega arith)) (step_at u s)

-- only a number of what was read is kept
module _ {A L : Type 0} (nil : L) (cons : A → L → L) (rd : List ℕ → Result A) (f : A → ℕ) (g : L → ℕ) (z : g nil ≡ 0) (p : (x : A) (xs : L) → g (cons x xs) ≡ f x + g xs) where
  last-sized : (x : A) (res : Result L) (k : Result ℕ) → map_result g res ≡ k → map_result g (bind res (λ xs r. ok (cons x xs) r)) ≡ bind k (λ m r. ok (f x + m) r)
  unfolding map_result bind
  last-sized x (ok xs r) k e = rw (← e) (ap (λ (m : ℕ). ok m r) (p x xs))
  last-sized x (refuse i left) k e = rw (← e)

  by-sized : (go : Until → List ℕ → Result L) (to : Until → List ℕ → Result ℕ) (s : List ℕ) → ((u : Until) (r : List ℕ) → map_result g (go u r) ≡ to u r) → (t : Step)
      → map_result g (several_by nil cons rd go t s) ≡ several_by 0 ◌+◌ (λ t. map_result f (rd t)) to t s
  unfolding several_by map_result bind
  by-sized go to s h (finished r) = ap (λ (m : ℕ). ok m r) z
  by-sized go to s h (another u) = by (rd s)
    where
      by : (res : Result A) → map_result g (bind res (λ x r. bind (go u r) (λ xs r'. ok (cons x xs) r'))) ≡ bind (map_result f res) (λ m r. bind (to u r) (λ ms r'. ok (m + ms) r'))
      by (ok x r) = last-sized x (go u r) (to u r) (h u r)
      by (refuse i left) = refl

  within-sized : (n : ℕ) (u : Until) (s : List ℕ) → map_result g (several_within nil cons rd n u s) ≡ several_within 0 ◌+◌ (λ t. map_result f (rd t)) n u s
  unfolding several_within map_result
  within-sized zero u s = refl
  within-sized (suc n) u s = by-sized (several_within nil cons rd n) (several_within 0 ◌+◌ (λ t. map_result f (rd t)) n) s (within-sized n) (step_at u s)

  pub several-sized : (u : Until) (s : List ℕ) → map_result g (several nil cons rd u s) ≡ several 0 ◌+◌ (λ t. map_result f (rd t)) u s
  unfolding several
  several-sized u s = within-sized (suc (length s)) u s

-- what several leave
abbrev StepLeft : List ℕ → Step → Type 0
StepLeft s (finished r) = Left 0 s r 0
StepLeft s (another u) = Unit

step_left : (u : Until) (s : List ℕ) → StepLeft s (step_at u s)
unfolding step_at
step_left (counted zero) s = left-all s
step_left (counted (suc n)) s = tt
step_left broken [] = tt
step_left broken (b ∷ s) = by (eqb b break)
  where
    by : (t : Bool) → StepLeft (b ∷ s) (elim t [ true ↦ finished s | false ↦ another broken ])
    by true = left_cut 0 0 1 (b ∷ s) (omega arith) (omega arith) (omega arith)
    by false = tt
step_left ended [] = left-all []
step_left ended (b ∷ s) = tt

module _ (rd : List ℕ → Result ℕ) (one : (s : List ℕ) → Leaves 1 same s (rd s)) where
  by-leaves : (go : Until → List ℕ → Result ℕ) (s : List ℕ) → ((u : Until) (r : List ℕ) → Leaves 0 same r (go u r)) → (t : Step) → StepLeft s t → Leaves 0 same s (several_by 0 ◌+◌ rd go t s)
  unfolding several_by
  by-leaves go s h (finished r) l = l
  by-leaves go s h (another u) l =
      leaves-bind same same (rd s) _ (leaves_weak 1 0 same s (omega arith) (rd s) (one s))
      (λ x r i. leaves-bind (λ m. x + m) same (go u r) _ (leaves-behind 0 same (λ m. x + m) i (λ m. omega arith) (go u r) (h u r)) (λ m r' j. j))

  within-leaves : (n : ℕ) (u : Until) (s : List ℕ) → Leaves 0 same s (several_within 0 ◌+◌ rd n u s)
  unfolding several_within
  within-leaves zero u s = omega arith
  within-leaves (suc n) u s = by-leaves (several_within 0 ◌+◌ rd n) s (within-leaves n) (step_at u s) (step_left u s)

  pub several-leaves : (u : Until) (s : List ℕ) → Leaves 0 same s (several 0 ◌+◌ rd u s)
  unfolding several
  several-leaves u s = within-leaves (suc (length s)) u s
