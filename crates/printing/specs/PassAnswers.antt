-- Of the code: what the code that prints in one pass answers. What is said holds where something is told, and no more is said.
use Rattle.std.specs.Prelude.{ℕ, ◌-◌, ◌≤◌, ◌≡◌, Bool, true, false, List, [], ◌++◌, length, take, drop, IfSome}
use Rattle.std.specs.declared.option.Option.{Option}
use Rattle.cbor.specs.Refusals.{ok}
use Rattle.cbor.specs.Items.{Items, none, more}
use Rattle.cbor.specs.Decode.{Until, elements, item, decode}
use Rattle.notation.specs.Printing.{print_item, print_text}
use Rattle.leaf_written.specs.Laying.{Laid}
use Rattle.leaf_written.specs.declared.Written.{Written}
use Rattle.pass_parts.specs.PartAnswers.{comma_of, separator_of}

unfoldable pub text_of : Bool → ℕ → Bool → ℕ → Items → List ℕ
text_of map blank first left none = []
text_of map blank first left (more x xs) = separator_of first (comma_of map left) blank ++ (print_item x ++ text_of map blank false (left - 1) xs)

-- several of them, as far as u says, and their text
pub record AllMade (s : List ℕ) (from : ℕ) (u : Until) (d : ℕ) (map : Bool) (blank left : ℕ) (b b' : List ℕ) (pos : ℕ) (r : Written) : Type 0 where
  pub values : Items
  pub is : elements (item d) u (drop from s) ≡ ok values (drop r.end s)
  pub inside : r.end ≤ length s
  pub laid : Laid b b' pos (text_of map blank true left values) r.pos

pub record AllTold (s : List ℕ) (from : ℕ) (u : Until) (d : ℕ) (map : Bool) (blank left : ℕ) (b b' : List ℕ) (pos : ℕ) (r : Option Written) : Type 0 where
  pub same : length b' ≡ length b
  pub kept : take pos b' ≡ take pos b
  pub told : IfSome r (λ w. AllMade s from u d map blank left b b' pos w)

-- all items of the bytes, and their text at the front of the buffer
pub record AllPrinted (s b b' : List ℕ) (r : ℕ) : Type 0 where
  pub values : Items
  pub is : decode s ≡ ok values []
  pub laid : Laid b b' 0 (print_text values) r

pub record PassTold (s b b' : List ℕ) (r : Option ℕ) : Type 0 where
  pub same : length b' ≡ length b
  pub told : IfSome r (λ n. AllPrinted s b b' n)
