-- From the papers: the refusal numbers of document 01, by name ("Refusal numbers"), and what reading gives.
use Rattle.std.specs.Prelude.{ℕ, ◌-◌, List}

abbrev pub too_long : ℕ
too_long = 1

abbrev pub not_utf8 : ℕ
not_utf8 = 2

abbrev pub no_token : ℕ
no_token = 3

abbrev pub unknown_word : ℕ
unknown_word = 4

abbrev pub dots : ℕ
dots = 5

abbrev pub float : ℕ
float = 6

abbrev pub out_of_range : ℕ
out_of_range = 7

abbrev pub bad_content : ℕ
bad_content = 8

abbrev pub bad_indicator : ℕ
bad_indicator = 9

abbrev pub too_deep : ℕ
too_deep = 10

abbrev pub not_allowed : ℕ
not_allowed = 11

abbrev pub mixed_chunks : ℕ
mixed_chunks = 12

abbrev pub bad_typed_array : ℕ
bad_typed_array = 13

abbrev pub no_room : ℕ
no_room = 14

abbrev pub ends_inside : ℕ
ends_inside = 15

abbrev pub not_well_formed : ℕ
not_well_formed = 16

abbrev pub no_such_path : ℕ
no_such_path = 17

-- Reading from the front of a list gives a value and what is left behind it, or a refusal number and how much was left where it
-- stands: its place is the length of the whole less that.
pub data Result (A : Type 0) : Type 0 where
  ok : A → List ℕ → Result A
  refuse : ℕ → ℕ → Result A

unfoldable pub bind : {A B : Type 0} → Result A → (A → List ℕ → Result B) → Result B
bind (ok x r) k = k x r
bind (refuse n left) k = refuse n left

-- what is said in the end: the value, or the refusal's number and place
pub data Verdict (A : Type 0) : Type 0 where
  accepted : A → Verdict A
  refused : ℕ → ℕ → Verdict A

-- the result of reading a list of n elements, with the place counted from its front
unfoldable pub verdict_of : {A : Type 0} → ℕ → Result A → Verdict A
verdict_of n (ok x r) = accepted x
verdict_of n (refuse k left) = refused k (n - left)
