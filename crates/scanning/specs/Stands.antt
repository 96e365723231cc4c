-- Of the code: places in a text with its end mark.
use Rattle.std.specs.Prelude.{ℕ, ◌-◌, ◌≤◌, ◌≡◌, List, length, take, drop}

-- a cursor stands within the text w, with r left from there on
pub record Stands (w : List ℕ) (at : ℕ) (r : List ℕ) : Type 0 where
  pub inside : at ≤ length w
  pub drops : drop at w ≡ r

-- what stands from one place up to another
unfoldable pub span : ℕ → ℕ → List ℕ → List ℕ
span from end w = take (end - from) (drop from w)
