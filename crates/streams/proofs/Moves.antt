-- What holds of the bytes that a call told of holds of those that it moved, as `transfer_of` has them.
-- Assumes nothing.
use Rattle.std.proofs.Common.{◌≡◌, ℕ, zero, suc, ℤ, pos, negsuc, Result, Ok, Err, IfOk, IfErr, sym, subst}
use Rattle.std.specs.Prelude.{MatchResult}
use Rattle.transfer.specs.Transfers.{transfer_of}
use Rattle.transfer.specs.declared.Moved.{Moved}
use Rattle.transfer.specs.declared.Failure.{Failure}
use Rattle.streams.specs.Streams.{moved_in}

pub moved : {E : Type 0} (k : E → ℤ) (a : Result ℕ E) (r : Result Moved Failure) → IfOk a (λ n. r ≡ transfer_of (pos n) (pos 0)) → IfErr a (λ e. r ≡ transfer_of (negsuc 0) (k e)) → (F : ℕ → Type 0) (X : Type 0) → MatchResult a F (λ _. X) → MatchResult (moved_in r) F (λ _. X)
unfolding transfer_of
moved k (Ok zero) r o e F X h = subst (λ r. MatchResult (moved_in r) F (λ _. X)) (sym o) h
moved k (Ok (suc n)) r o e F X h = subst (λ r. MatchResult (moved_in r) F (λ _. X)) (sym o) h
moved k (Err x) r o e F X h = subst (λ r. MatchResult (moved_in r) F (λ _. X)) (sym e) h
