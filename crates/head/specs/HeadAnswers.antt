-- Of the code: what the code that reads and writes heads answers.
use Rattle.std.specs.Prelude.{ℕ, ◌+◌, ◌-◌, ◌/◌, ◌%◌, ◌≤◌, ◌<◌, ◌≡◌, List, ◌∷◌, Bool, true, false, ltb, eqb, length, take, drop, get_or}
use Rattle.cbor.specs.Refusals.{Result, ok, refuse, float, not_well_formed}
use Rattle.cbor.specs.Widths.{information, big_endian, value_from}
use Rattle.cbor.specs.Items.{Size, definite, indefinite}
use Rattle.cbor.specs.Heads.{Major, major_number, major_of, Head, Information, argument, reserved, open_ended, information_of, is_float, is_indefinite, next_head}
use Rattle.refusal.specs.RefusalKinds.{kind_number}
use Rattle.std.specs.Prelude.{Ok, Err, Some, None}
use Rattle.std.specs.Prelude as std
use Rattle.head.specs.declared.HeadAt.{HeadAt}
use Rattle.refusal.specs.declared.Refusal.{Refusal}
use Rattle.refusal.specs.declared.RefusalKind.{RefusalKind}
use Rattle.head.specs.declared.Meaning.{Meaning}
use Rattle.head.specs.declared.Meaning.TheVariants.{Argument, OpenEnded, Refused}

-- READING

-- what is told of a head: major type, additional information, argument and where it ends; or a refusal's number and place
pub data HeadTold : Type 0 where
  head_found : ℕ → ℕ → ℕ → ℕ → HeadTold
  head_refused : ℕ → ℕ → HeadTold

unfoldable pub head_told : std.Result HeadAt Refusal → HeadTold
head_told (Ok h) = head_found h.major h.info h.argument h.end
head_told (Err e) = head_refused (kind_number e.kind) e.place

-- the additional information of a size whose argument is n
unfoldable pub size_information : Size → ℕ → ℕ
size_information (definite w) n = information w n
size_information indefinite n = 31

-- the same of what was read from bytes of some length
unfoldable pub head_from : ℕ → Result Head → HeadTold
head_from size (ok h r) = head_found (major_number h.major) (size_information h.size h.argument) h.argument (size - length r)
head_from size (refuse n left) = head_refused n (size - left)

unfoldable pub head_at : List ℕ → ℕ → HeadTold
head_at s at = head_from (length s) (next_head (drop at s))

-- what an initial byte says, as a number: 0 an argument, 31 an indefinite length or a break, else the refusal's
unfoldable pub form_by : Major → Information → ℕ
form_by m (argument w) = elim (is_float m w) [ true ↦ float | false ↦ 0 ]
form_by m reserved = not_well_formed
form_by m open_ended = elim (is_indefinite m) [ true ↦ 31 | false ↦ not_well_formed ]

unfoldable pub form_of : ℕ → ℕ
form_of b = form_by (major_of (b / 32)) (information_of (b % 32))

-- the code says it so
unfoldable pub form_number : Meaning → ℕ
form_number Argument = 0
form_number OpenEnded = 31
form_number (Refused kind) = kind_number kind

pub record Formed (b : ℕ) (r : Meaning) : Type 0 where
  pub is : form_number r ≡ form_of b
  pub byte : b < 256

pub record Widened (b r : ℕ) : Type 0 where
  pub is : r ≡ b
  pub byte : r < 256

-- bytes that make a number of at most 64 bits stand there
pub record Inside (s : List ℕ) (from size : ℕ) : Type 0 where
  pub inside : from + size ≤ length s
  pub short : size ≤ 8

-- the argument, of that many bytes bs, under the additional information i
unfoldable pub argument_by : ℕ → ℕ → List ℕ → ℕ
argument_by size i bs = elim (eqb size 0) [ true ↦ i | false ↦ value_from 0 bs ]

-- f8 is followed by 20 hex or more
unfoldable pub least_argument : ℕ → ℕ
least_argument b = elim (eqb b 0xf8) [ true ↦ 32 | false ↦ 0 ]

-- how many bytes hold the argument, by the additional information
unfoldable pub argument_size : ℕ → ℕ
argument_size i = elim (eqb i 24) [ true ↦ 1 | false ↦ elim (eqb i 25) [ true ↦ 2 | false ↦ elim (eqb i 26) [ true ↦ 4 | false ↦ elim (eqb i 27) [ true ↦ 8 | false ↦ 0 ] ] ] ]

-- whether the argument, of `size` bytes from a place on, is below the least that its initial byte b may have
pub record Little (s : List ℕ) (from b size : ℕ) (t : Bool) : Type 0 where
  pub is : t ≡ ltb (argument_by size (b % 32) (take size (drop from s))) (least_argument b)

-- if t, the additional information of an initial byte is the argument
pub record Short (b : ℕ) (t : Bool) : Type 0 where
  pub is : t ≡ true → b % 32 < 24
  pub byte : b < 256

-- the argument of the head at a place: an indefinite length has none
unfoldable pub argument_at : List ℕ → ℕ → ℕ
argument_at s at =
    elim (eqb (form_of (get_or s at 0)) 31) [
      | true ↦ 0
      | false ↦ argument_by (argument_size (get_or s at 0 % 32)) (get_or s at 0 % 32) (take (argument_size (get_or s at 0 % 32)) (drop (at + 1) s))
    ]

-- the bytes of its argument stand behind the initial byte
pub record HeadRoom (s : List ℕ) (at : ℕ) : Type 0 where
  pub inside : at + argument_size (get_or s at 0 % 32) < length s

-- the head at a place ends at r
pub record HeadEndsAt (s : List ℕ) (at r : ℕ) : Type 0 where
  pub room : HeadRoom s at
  pub found : head_found (get_or s at 0 / 32) (get_or s at 0 % 32) (argument_at s at) r ≡ head_at s at

-- where it ends; None: it is refused
pub record HeadEnd (s : List ℕ) (at : ℕ) (r : std.Option ℕ) : Type 0 where
  pub ends : (e : ℕ) → r ≡ Some e → HeadEndsAt s at e
  pub lost : r ≡ None → (m i n e : ℕ) → head_found m i n e ≡ head_at s at → ⊥

-- WRITING

-- the bytes of a head, from its initial byte
unfoldable pub head_bytes : ℕ → ℕ → List ℕ
head_bytes i n = i ∷ big_endian (argument_size (i % 32)) n
