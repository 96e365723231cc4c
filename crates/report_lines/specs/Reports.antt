-- Of the code: what a report is in a lent buffer, and what is written of an operation's answer.
use Rattle.std.specs.Prelude.{ℕ, ◌≡◌, List, length, take}
use Rattle.memory.specs.Buffer.{clipped}
use Rattle.refusal.specs.RefusalKinds.{kind_number}
use Rattle.operations.specs.Programs.{refused_line}
use Rattle.std.specs.Prelude.{Ok, Err}
use Rattle.std.specs.Prelude as std
use Rattle.refusal.specs.declared.Refusal.{Refusal}

-- from b to b': the report ws was written at the front, as far as the buffer reaches. r is the length of all of it
pub record Reports (b b' ws : List ℕ) (r : ℕ) : Type 0 where
  pub same : length b' ≡ length b
  pub size : r ≡ length ws
  pub is : b' ≡ clipped b 0 ws

-- of an answer with the buffer b behind it: the lines of the result, which stands at the front of b, or that of the refusal
unfoldable pub said_of : (List ℕ → List ℕ) → std.Result ℕ Refusal → List ℕ → List ℕ
said_of lines (Ok n) b = lines (take n b)
said_of lines (Err e) b = refused_line (kind_number e.kind) e.place

-- a text is its own lines
unfoldable pub itself : List ℕ → List ℕ
itself w = w
