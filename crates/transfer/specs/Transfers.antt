-- Of the code: what the answer of a call of read or write means.
use Rattle.std.specs.Prelude.{ℕ, zero, suc, true, false, eqb, ℤ, pos, negsuc, Result, Ok, Err}
use Rattle.transfer.specs.declared.Moved.{Moved}
use Rattle.transfer.specs.declared.Moved.TheVariants.{Bytes, End}
use Rattle.transfer.specs.declared.Failure.{Failure}
use Rattle.transfer.specs.declared.Failure.TheVariants.{Interrupted, Other}

-- Linux's number of EINTR, errno where a signal came before a byte was moved
abbrev pub interrupted : ℕ
interrupted = 4

-- a call that answered less than 0, with errno
unfoldable pub after_failure : ℤ → Failure
after_failure (pos error) = elim (eqb error interrupted) [ true ↦ Interrupted | false ↦ Other (pos error) ]
after_failure (negsuc k) = Other (negsuc k)

-- what a call answered, with errno: the bytes that it moved; 0, the end; or less than 0, a failure
unfoldable pub transfer_of : ℤ → ℤ → Result Moved Failure
transfer_of (pos zero) error = Ok End
transfer_of (pos (suc n)) error = Ok (Bytes (suc n))
transfer_of (negsuc k) error = Err (after_failure error)
