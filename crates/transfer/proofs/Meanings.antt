-- What the answer of a call means, from the tests that the code makes of it.
-- Assumes nothing.
use Rattle.std.proofs.Common.{◌≡◌, ℕ, zero, suc, ℤ, pos, negsuc, Ok, Err, w32, w64, to_z, of_z, sym, ap, ◌∙◌, refl, arith}
use lib.IntN.{nat_abs}
use mir.Val.{SFits}
use mir.Facts.{to_z-of_z}
use borrow.Author.Tests.{ne_eqb}
use Rattle.std.specs.Int.{FitsUnsignedBits}
use Rattle.transfer.specs.Transfers.{transfer_of, after_failure}
use Rattle.transfer.specs.declared.Moved.TheVariants.{Bytes, End}
use Rattle.transfer.specs.declared.Failure.{Failure}
use Rattle.transfer.specs.declared.Failure.TheVariants.{Interrupted, Other}

-- BYTES, OR NONE
module _ {z : ℤ} {n : ℕ} (f : SFits w64 z) (h : FitsUnsignedBits 64 (to_z w64 (of_z w64 z)) × (n ≡ nat_abs (to_z w64 (of_z w64 z)))) where
  is : z ≡ pos n
  is = go z (rw (to_z-of_z f) at h)
    where
      go : (z : ℤ) → FitsUnsignedBits 64 z × (n ≡ nat_abs z) → z ≡ pos n
      go (pos k) h = rw h.1
      go (negsuc k) h = absurd h.0

  pub end : n ≡ 0 → (e : ℤ) → Ok End ≡ transfer_of z e
  unfolding transfer_of
  end q e = rw (is, q)

  pub bytes : (n ≡ 0 → ⊥) → (e : ℤ) → Ok (Bytes n) ≡ transfer_of z e
  unfolding transfer_of
  bytes q e = rw is (go n q)
    where
      go : (n : ℕ) → (n ≡ 0 → ⊥) → Ok (Bytes n) ≡ transfer_of (pos n) e
      go zero q = absurd (q refl)
      go (suc n) q = refl

-- LESS THAN 0
module _ {z : ℤ} (f : SFits w64 z) (h : FitsUnsignedBits 64 (to_z w64 (of_z w64 z)) → ⊥) where
  less : (e : ℤ) {x : Failure} → x ≡ after_failure e → Err x ≡ transfer_of z e
  unfolding transfer_of
  less e {x} q = go z f (rw (to_z-of_z f) at h)
    where
      go : (z : ℤ) → SFits w64 z → (FitsUnsignedBits 64 z → ⊥) → Err x ≡ transfer_of z e
      go (pos k) f h = absurd (h (omega (arith, f.sfits)))
      go (negsuc k) f h = rw q

  pub interrupted : {e : ℤ} → SFits w32 e → of_z w32 e ≡ 4 → Err Interrupted ≡ transfer_of z e
  unfolding after_failure
  interrupted {e} g s = let is : e ≡ to_z w32 4 = sym (to_z-of_z g) ∙ ap (to_z w32) s in less e (rw is)

  pub other : {e : ℤ} → SFits w32 e → (of_z w32 e ≡ 4 → ⊥) → Err (Other (to_z w32 (of_z w32 e))) ≡ transfer_of z e
  unfolding after_failure
  other {e} g s = less e (rw (to_z-of_z g) (go e s))
    where
      go : (e : ℤ) → (of_z w32 e ≡ 4 → ⊥) → Other e ≡ after_failure e
      go (pos n) s = rw (ne_eqb n 4 s, after_failure)
      go (negsuc n) s = refl
