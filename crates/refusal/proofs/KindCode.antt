-- The numbers of the kinds of refusal, in code.
use Prim.Native.Nat.{ℕ, suc, ◌-◌, ◌≤◌}
use native.Mathlib.Omega.{arith}
use mathlib.Core.Path.{◌≡◌, ◌∙◌, sym}
use Rattle.refusal.specs.RefusalKinds.{kind_number, Kinded}
use Rattle.refusal.specs.declared.RefusalKind.{RefusalKind}

-- a number that is none of 1 to m is above m
pub record Above (n m : ℕ) : Type 0 where
  pub is : 1 ≤ n → suc m ≤ n

pub above-none : (n : ℕ) → Above n 0
above-none n = record { is = λ l. l }

pub above-next : {n m : ℕ} → (n ≡ m → ⊥) → Above n (m - 1) → Above n m
above-next z a = record { is = λ l. omega (arith, a.is l, z) }

pub kinded : {k : RefusalKind} {n : ℕ} (m : ℕ) → n ≡ m → kind_number k ≡ m → Kinded n k
kinded m e f = record { is = λ l h. f ∙ sym e }

pub kinded_last : {k : RefusalKind} {n : ℕ} → kind_number k ≡ 17 → Above n 16 → Kinded n k
kinded_last {n = n} e a = record { is = λ l h. let i : n ≡ 17 = omega (arith, a.is l) in e ∙ sym i }

pub ruleset kinded_ways = (kinded, kinded_last, above-none, above-next)
