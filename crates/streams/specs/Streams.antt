-- Of the code: how much of a stream was read, by all calls and by one.
use Rattle.std.specs.Prelude.{ℕ, Result, Ok, Err}
use Rattle.transfer.specs.declared.Moved.{Moved}
use Rattle.transfer.specs.declared.Moved.TheVariants.{Bytes, End}
use Rattle.transfer.specs.declared.Failure.{Failure}
use Rattle.streams.specs.declared.CutOff.{CutOff}

-- how many bytes were read, whether those are all or a read failed behind them
abbrev pub count_of : Result ℕ CutOff → ℕ
count_of (Ok n) = n
count_of (Err e) = e.size

-- how many bytes a call moved: none where it met the end
abbrev pub moved_in : Result Moved Failure → Result ℕ Failure
moved_in (Ok (Bytes n)) = Ok n
moved_in (Ok End) = Ok 0
moved_in (Err e) = Err e
