-- Another text in the place of an item's text: for any reader that is made of others, one behind another.
use Prim.Native.Nat.{ℕ}
use mathlib.Core.Path.{◌≡◌, refl, ◌∙◌}
use mathlib.Core.List.{List, ◌++◌, append_assoc}
use Rattle.cbor.specs.Refusals.{Result, ok, refuse, bind}
use Rattle.cbor.specs.Items.{Item}
use Rattle.cbor.proofs.Results.{refuse_not_ok}
use Rattle.notation.specs.Scanning.{skip}
use Rattle.notation.specs.Tokens.{Token}
use Rattle.notation.specs.Cutting.{next, place}
use Rattle.notation.specs.Form.{Name, one, Value, Rule, take, call, stray, obey, reads}
use Rattle.notation_theorems.proofs.Good.{Like, like_app, Hard, Took}
use Rattle.notation_theorems.proofs.ByName.{bind_ok, took, took-next}

-- RESULTS

pub bind_inv : {A B : Type 0} (R : Result A) (f : A → List ℕ → Result B) {y : B} {u : List ℕ} → bind R f ≡ ok y u → (x : A) × (t : List ℕ) × (R ≡ ok x t) × (f x t ≡ ok y u)
unfolding bind
bind_inv (ok x t) f e = (x, t, refl, e)
bind_inv (refuse k w) f e = absurd (refuse_not_ok e)

pub bind-map : {A B : Type 0} (R : Result A) (f : A → B) {y : B} {u : List ℕ} → bind R (λ x t. ok (f x) t) ≡ ok y u → (x : A) × (R ≡ ok x u) × (f x ≡ y)
unfolding bind
bind-map (ok x t) f e = (x, cc, cc)
bind-map (refuse k w) f e = absurd (refuse_not_ok e)

-- a refusal by the number k
abbrev pub Refuses : {A : Type 0} → ℕ → Result A → Type 0
Refuses k (ok x r) = ⊥
Refuses k (refuse k' w) = k' ≡ k

-- the next token is refused by k, or may not stand behind an item, d levels being left, and that is k
abbrev pub Behind : ℕ → ℕ → Result Token → Type 0
Behind d k (ok t r) = stray d t ≡ k
Behind d k (refuse k' w) = k' ≡ k

-- an item is refused by k, or what stands behind it is
abbrev pub Blocked : ℕ → ℕ → Result Item → Type 0
Blocked d k (ok x r) = Behind d k (next r)
Blocked d k (refuse k' w) = k' ≡ k

pub refuses-bind : {A B : Type 0} (k : ℕ) (R : Result A) (f : A → List ℕ → Result B) → Refuses k R → Refuses k (bind R f)
unfolding bind
refuses-bind k (ok x r) f h = absurd h
refuses-bind k (refuse k' w) f h = h

pub refuses_blocks : (d k : ℕ) (R : Result Item) → Refuses k R → Blocked d k R
refuses_blocks d k (ok x r) h = absurd h
refuses_blocks d k (refuse k' w) h = h

-- A HOLE

-- a text in place of the one that is left: itself, or one that begins with other blanks
abbrev pub Equal : List ℕ → List ℕ → Type 0
Equal t' t = t' ≡ t

abbrev pub Skips : List ℕ → List ℕ → Type 0
Skips t' t = skip t' ≡ skip t

-- a token stands next; anything does
abbrev pub Next : List ℕ → Type 0
Next r = (t : Token) × (u : List ℕ) × (next r ≡ ok t u)

abbrev pub Any : List ℕ → Type 0
Any r = Unit {0}

-- rd reads x off s and leaves r; an item with e levels left stands at b in s, with a behind it. So s is a front and b; Holds holds of x;
-- another item y in its place makes it g y x; where that item is blocked, so is rd, in the sense B; and where N holds of r, a token
-- stands behind the item. (rd has two places first, which only its refusals name.)
pub record Hole {A : Type 0} (E : List ℕ → List ℕ → Type 0) (B : ℕ → Result A → Type 0) (N : List ℕ → Type 0) (e : ℕ) (b a : List ℕ) (Holds : A → Type 0) (g : Item → A → A) (rd : ℕ → ℕ → List ℕ → Result A)
    (s : List ℕ) (x : A) (r : List ℕ) : Type 0 where
  pub front : List ℕ
  pub split : s ≡ front ++ b
  pub holds : Holds x
  pub fill : (b' a' : List ℕ) (y : Item) → Like b b' → reads (one e) b' ≡ ok y a' → skip a' ≡ skip a → (p q : ℕ) → (r' : List ℕ) × E r' r × (rd p q (front ++ b') ≡ ok (g y x) r')
  pub ends : N r → Next a
  pub block : (b' : List ℕ) (k : ℕ) → Like b b' → Hard k → Blocked e k (reads (one e) b') → (p q : ℕ) → B k (rd p q (front ++ b'))

module _ {A : Type 0} (E : List ℕ → List ℕ → Type 0) (B : ℕ → Result A → Type 0) (N : List ℕ → Type 0) (e : ℕ) (b a : List ℕ) (Holds : A → Type 0) (g : Item → A → A) where
  -- behind what rd₁ reads
  pub hole_step : {C : Type 0} (rd₁ : List ℕ → Result C) (rd₂ rd : ℕ → ℕ → List ℕ → Result A) {s s' r : List ℕ} {z : C} {x : A} → Took (λ p q. rd₁) s z s'
      → ((p q : ℕ) (u t : List ℕ) → rd₁ u ≡ ok z t → (p' q' : ℕ) × (rd p q u ≡ rd₂ p' q' t)) → Hole E B N e b a Holds g rd₂ s' x r → Hole E B N e b a Holds g rd s x r
  hole_step rd₁ rd₂ rd {s} {s'} {r} {z} {x} k goes h =
      let redo : (b' : List ℕ) → Like b b' → (p q : ℕ) → (p' q' : ℕ) × (rd p q ((k.used ++ h.front) ++ b') ≡ rd₂ p' q' (h.front ++ b'))
      = λ b' l p q. rw append_assoc (goes p q _ (h.front ++ b') (k.again 0 0 (h.front ++ b') (rw h.split (like_app h.front b b' l)))) in
      record {
        front = k.used ++ h.front;
        split = cc (append_assoc k.used h.front b);
        holds = h.holds;
        ends = h.ends;
        fill = λ b' a' y l i n p q. let m = redo b' l p q in let f = h.fill b' a' y l i n m.0 m.1 in (f.0, f.1, m.2 ∙ f.2);
        block = λ b' n l hard i p q. let m = redo b' l p q in rw m.2 (h.block b' n l hard i m.0 m.1);
      }

  -- in front of what k makes of it
  pub hole_over : {C : Type 0} (E' : List ℕ → List ℕ → Type 0) (B' : ℕ → Result C → Type 0) (N' : List ℕ → Type 0) (Holds' : C → Type 0) (g' : Item → C → C) (rd₁ : ℕ → ℕ → List ℕ → Result A) (rd : ℕ → ℕ → List ℕ → Result C)
      (k : A → ℕ → ℕ → List ℕ → Result C) {s t r : List ℕ} {z : A} {x : C} → Hole E B N e b a Holds g rd₁ s z t
      → ((p q : ℕ) (u : List ℕ) (z' : A) (t' : List ℕ) → rd₁ p q u ≡ ok z' t' → (p' q' : ℕ) × (rd p q u ≡ k z' p' q' t'))
      → ((p q : ℕ) (u : List ℕ) (n : ℕ) → Hard n → B n (rd₁ p q u) → B' n (rd p q u))
      → Holds' x → (N' r → N t) → ((y : Item) (p q : ℕ) (t' : List ℕ) → E t' t → (r' : List ℕ) × E' r' r × (k (g y z) p q t' ≡ ok (g' y x) r'))
      → Hole E' B' N' e b a Holds' g' rd s x r
  hole_over E' B' N' Holds' g' rd₁ rd k {s} {t} {r} {z} {x} h goes stays u on redo =
      record {
        front = h.front;
        split = h.split;
        holds = u;
        ends = λ n. h.ends (on n);
        fill = λ b' a' y l i n p q.
            let f = h.fill b' a' y l i n p q in
            let m = goes p q (h.front ++ b') (g y z) f.0 f.2 in
            let j = redo y m.0 m.1 f.0 f.1 in
            (j.0, j.1, m.2 ∙ j.2);
        block = λ b' n l hard i p q. stays p q (h.front ++ b') n hard (h.block b' n l hard i p q);
      }

-- HOLES IN RULES

module _ {A : Type 0} (E : List ℕ → List ℕ → Type 0) (B : ℕ → Result A → Type 0) (N : List ℕ → Type 0) (e : ℕ) (b a : List ℕ) (Holds : A → Type 0) (g : Item → A → A) where
  -- behind a token
  pub hole_take : (f : Token → Rule A) {s u r : List ℕ} {t : Token} {x : A} → next s ≡ ok t u → Hole E B N e b a Holds g (obey reads (f t)) u x r → Hole E B N e b a Holds g (obey reads (take f)) s x r
  unfolding obey
  hole_take f {s} {u} {r} {t} i h = hole_step E B N e b a Holds g next (obey reads (f t)) (obey reads (take f)) (took-next s i) (λ p q u t e. (p, place u, bind_ok _ e)) h

  -- behind what is called
  pub hole_past : (n : Name) (f : Value n → Rule A) {s u r : List ℕ} {z : Value n} {x : A} → reads n s ≡ ok z u → Hole E B N e b a Holds g (obey reads (f z)) u x r
      → Hole E B N e b a Holds g (obey reads (call n f)) s x r
  unfolding obey
  hole_past n f {s} {u} {r} {z} i h = hole_step E B N e b a Holds g (reads n) (obey reads (f z)) (obey reads (call n f)) (took n s i) (λ p q u t e. (p, q, bind_ok _ e)) h
