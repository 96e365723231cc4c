-- Of the code: words of four letters of base64 text, and the places at which they fit.
use Rattle.std.specs.Prelude.{ℕ, zero, suc, ◌+◌, ◌*◌, ◌≤◌, ◌<◌, ◌≡◌, List, get_or}
use Rattle.base64_letter.specs.LetterAnswers.{sextet_weight}

-- the word of k bytes
unfoldable pub word_at : List ℕ → ℕ → ℕ → ℕ
word_at s at zero = 0
word_at s at (suc k) = word_at s at k * 64 + sextet_weight (get_or s (at + k) 0)

-- r is the word of four letters, unless it is too large for one
pub record WordThere (s : List ℕ) (at r : ℕ) : Type 0 where
  pub is : r < 0x100_0000 → r ≡ word_at s at 4

-- r is the first place, from `from` on, from which n bytes do not end before `stop`
pub record TooLate (from stop n r : ℕ) : Type 0 where
  pub early : (k : ℕ) → from ≤ k → k < r → k + n ≤ stop
  pub late : (k : ℕ) → r ≤ k → stop < k + n
