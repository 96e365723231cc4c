-- Single bytes. A match whose arms have values: what holds of an arm's values, and of the bytes that no arm names, by one test of all bytes.
-- Assumes nothing.
use mathlib.Core.Path.{◌≡◌, refl, sym, subst}
use mathlib.Core.List.{List, [], ◌∷◌}
use mathlib.Core.Logic.{inl, inr}
use mathlib.Core.Bool.{Bool, true, false, ◌&&◌, ◌||◌}
use Prim.Native.Nat.{ℕ, ◌<◌}
use lib.Dec.{T, leb, eqb, eqb→eq}
use lib.ListN.{replicate}
use mir.Val.{has_key}
use types.Run.{OneOf, hit}
use borrow.Author.Tests.{lt-leb}
use Rattle.cbor.specs.Utf8.{◌to◌, is_in}
use Rattle.cbor.proofs.Table.{every, byte}

and_left : (s t : Bool) → T (s && t) → T s
and_left true t h = tt
and_left false t h = h

and_right : (s t : Bool) → T (s && t) → T t
and_right true t h = h
and_right false t h = absurd h

abbrev pub all : (ℕ → Bool) → List ℕ → Bool
all P [] = true
all P (k ∷ ks) = P k && all P ks

-- f says what the match is to answer
module _ (f : ℕ → ℕ) {b : ℕ} where
  pub arm : {r k : ℕ} → b ≡ k → T (eqb r (f k)) → r ≡ f b
  arm {r} {k} e t = eqb→eq r (f b) (subst (λ (x : ℕ). T (eqb r (f x))) (sym e) t)

-- what holds of each value of an arm holds of the byte that is one of them
pub each : (P : ℕ → Bool) (k : ℕ) (ks : List ℕ) (b : ℕ) → OneOf (k ∷ ks) b → T (P k && all P ks) → T (P b)
each P k [] b e t = subst (λ (x : ℕ). T (P x)) (sym e) (and_left (P k) true t)
each P k (j ∷ ks) b (inl e) t = subst (λ (x : ℕ). T (P x)) (sym e) (and_left (P k) _ t)
each P k (j ∷ ks) b (inr o) t = each P j ks b o (and_right (P k) _ t)

-- b is no value of the arms, in their order
abbrev pub Neither : List (List ℕ) → Type 0 → ℕ → Type 0
Neither [] n b = n
Neither (ks ∷ arms) n b = Neither arms (n × (OneOf ks b → ⊥)) b

abbrev pub some : List (List ℕ) → ℕ → Bool
some [] b = false
some (ks ∷ arms) b = has_key ks b || some arms b

either : (A : Type 0) (s t : Bool) → T (s || t) → (T s → A) → (T t → A) → A
either A true t h f g = f tt
either A false t h f g = g h

no_key : (arms : List (List ℕ)) (n : Type 0) (b : ℕ) → Neither arms n b → n × (T (some arms b) → ⊥)
no_key [] n b x = (x, λ t. t)
no_key (ks ∷ arms) n b x =
    let p = no_key arms (n × (OneOf ks b → ⊥)) b x in
    (p.0.0, λ t. either ⊥ (has_key ks b) (some arms b) t (λ a. p.0.1 (hit ks b a)) p.1)

pub rest : (f : ℕ → ℕ) (arms : List (List ℕ)) (r : ℕ) {b : ℕ} → Neither arms Unit b → T (every (λ k x. eqb r (f k) || some arms k) 0 (replicate 256 0)) → b < 256 → r ≡ f b
rest f arms r {b} n t h = either (r ≡ f b) (eqb r (f b)) (some arms b) (byte (λ k. eqb r (f k) || some arms k) t b h) (eqb→eq r (f b)) (λ a. absurd ((no_key arms Unit b n).1 a))

-- A RANGE that lies below

and_false : (t : Bool) → t && false ≡ false
and_false true = refl
and_false false = refl

pub range_above : (lo hi b : ℕ) → hi < b → is_in (lo to hi) b ≡ false
unfolding is_in
range_above lo hi b h = rw (lt-leb b hi h) (and_false (leb lo b))
