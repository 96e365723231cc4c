-- Of the code: what closes a list of items, and what stands behind one of them. s is a text.
use Rattle.std.specs.Prelude.{ℕ, ◌+◌, ◌≤◌, ◌<◌, ◌≡◌, Bool, true, false, List, ◌∷◌, length, drop}
use Rattle.cbor.specs.Refusals.{ok}
use Rattle.notation.specs.Indicators.{Indicator}
use Rattle.notation.specs.Tokens.{Token, closes}
use Rattle.notation.specs.Cutting.{cut, next}
use Rattle.notation.specs.Form.{stray}
use Rattle.notation.specs.Reading.{marked}
use Rattle.token.specs.TokenAnswers.{indicator_number, code_of}
use Rattle.scanning.specs.ScanAnswers.{Skips}
use Rattle.encoding.specs.Cuts.{CutAt, NextAt}
use Rattle.closers.specs.declared.Closer.{Closer}
use Rattle.closers.specs.CloserTables.{shape_of, is_single, may_be_empty, separator_code, separator_byte, closer_code, shown_by}
use Rattle.closing.specs.declared.Closing.{Closing}
use Rattle.closing.specs.declared.Follow.TheVariants.{On, Over, Stray}
use Rattle.closing.specs.declared.Follower.{Follower}

-- a byte c stands at a place, or not
pub record SignAt (s : List ℕ) (at c : ℕ) (r : Closing) : Type 0 where
  pub yes : r.found ≡ true → (drop at (marked s) ≡ c ∷ drop (at + 1) (marked s)) × (at + 1 ≤ length (marked s))
  pub no : r.found ≡ false → (u : List ℕ) → drop at (marked s) ≡ c ∷ u → ⊥
  pub next : r.next ≡ at + 1
  pub indicator : r.indicator ≡ 0

-- a byte is not the end mark
pub record GoesOn (b at : ℕ) (r : Closing) : Type 0 where
  pub is : r ≡ record { found = false; next = at; indicator = 0 }
  pub byte : b < 256

-- the token that closes a list stands at a place
pub record ClosedAt (s : List ℕ) (at : ℕ) (h : Closer) (next indicator : ℕ) : Type 0 where
  pub by : Indicator
  pub is : indicator ≡ indicator_number by
  pub shown : shown_by h indicator ≡ indicator
  pub cut_at : CutAt s at next (closes (shape_of h) by)

pub record ClosesAt (s : List ℕ) (at : ℕ) (h : Closer) (r : Closing) : Type 0 where
  pub yes : r.found ≡ true → ClosedAt s at h r.next r.indicator
  pub no : r.found ≡ false → (i : Indicator) (u : List ℕ) → cut (drop at (marked s)) ≡ ok (closes (shape_of h) i) u → ⊥

-- the token of a code stands at a place
pub record CodeAt (s : List ℕ) (at next code : ℕ) : Type 0 where
  pub tok : Token
  pub cut_at : CutAt s at next tok
  pub is : code_of tok ≡ code

pub record SeparatesAt (s : List ℕ) (at : ℕ) (h : Closer) (k t : Bool) : Type 0 where
  pub here : t ≡ true → drop at (marked s) ≡ separator_byte k ∷ drop (at + 1) (marked s)
  pub inside : t ≡ true → at < length s
  pub yes : t ≡ true → CodeAt s at (at + 1) (separator_code h k)
  pub no : t ≡ false → (tok : Token) (u : List ℕ) → cut (drop at (marked s)) ≡ ok tok u → code_of tok ≡ separator_code h k → ⊥

-- a list ends where it begins
pub record EmptyAt (s : List ℕ) (from : ℕ) (h : Closer) (next' indicator : ℕ) : Type 0 where
  pub may : may_be_empty h ≡ true
  pub by : Indicator
  pub is : indicator ≡ indicator_number by
  pub shown : shown_by h indicator ≡ indicator
  pub next_at : NextAt s from next' (closes (shape_of h) by)

pub record StartsAt (s : List ℕ) (from : ℕ) (h : Closer) (r : Closing) : Type 0 where
  pub yes : r.found ≡ true → EmptyAt s from h r.next r.indicator
  pub no : r.found ≡ false → may_be_empty h ≡ true → (i : Indicator) (u : List ℕ) → next (drop from (marked s)) ≡ ok (closes (shape_of h) i) u → ⊥

pub record Differs (b c : ℕ) (t : Bool) : Type 0 where
  pub byte : b < 256
  pub other : t ≡ true → b ≡ c → ⊥

-- a list is seen not to be closed at a place, by the byte that stands there
pub record OpenAt (s : List ℕ) (at : ℕ) (h : Closer) (t : Bool) : Type 0 where
  pub is : t ≡ true → (i : Indicator) (u : List ℕ) → cut (drop at (marked s)) ≡ ok (closes (shape_of h) i) u → ⊥

-- it is seen to be closed there
pub record ClosesAtOnce (s : List ℕ) (at : ℕ) (h : Closer) (k t : Bool) : Type 0 where
  pub key : t ≡ true → k ≡ false
  pub skips : t ≡ true → Skips s at at
  pub closed : t ≡ true → ClosedAt s at h (at + 1) 0
  pub inside : t ≡ true → at < length s

-- no blank, and no begin of a comment
pub record Solid (b : ℕ) : Type 0 where
  pub above : 0x20 < b
  pub hash : b ≡ 0x23 → ⊥
  pub slash : b ≡ 0x2f → ⊥

-- a byte is no blank, begins no comment and is not c
pub record IsFirm (b c : ℕ) (t : Bool) : Type 0 where
  pub byte : b < 256
  pub solid : t ≡ true → Solid b
  pub other : t ≡ true → b ≡ c → ⊥

-- a list is seen not to end at a place
pub record StartsAtOnce (s : List ℕ) (at : ℕ) (h : Closer) (t : Bool) : Type 0 where
  pub is : t ≡ true → StartsAt s at h (record { found = false; next = at; indicator = 0 })

-- what stands behind an item
pub record OnAt (s : List ℕ) (from : ℕ) (h : Closer) (k : Bool) (next' : ℕ) : Type 0 where
  pub several : is_single h ≡ false
  pub tok : Token
  pub next_at : NextAt s from next' tok
  pub is : code_of tok ≡ separator_code h k

pub record OverAt (s : List ℕ) (from : ℕ) (h : Closer) (next' indicator : ℕ) : Type 0 where
  pub by : Indicator
  pub is : indicator ≡ indicator_number by
  pub shown : shown_by h indicator ≡ indicator
  pub next_at : NextAt s from next' (closes (shape_of h) by)

pub record StrayAt (s : List ℕ) (from : ℕ) (h : Closer) (k : Bool) : Type 0 where
  pub several : is_single h ≡ false
  pub separates : (tok : Token) (u : List ℕ) → next (drop from (marked s)) ≡ ok tok u → code_of tok ≡ separator_code h k → ⊥
  pub closes : (tok : Token) (u : List ℕ) → next (drop from (marked s)) ≡ ok tok u → code_of tok ≡ closer_code h k → ⊥

pub record Follows (s : List ℕ) (from : ℕ) (h : Closer) (k : Bool) (f : Follower) : Type 0 where
  pub on : f.follow ≡ On → OnAt s from h k f.next
  pub single : f.follow ≡ Over → is_single h ≡ true → (f.next ≡ from) × (f.indicator ≡ 0)
  pub over : f.follow ≡ Over → is_single h ≡ false → (k ≡ false) × OverAt s from h f.next f.indicator
  pub stray : f.follow ≡ Stray → StrayAt s from h k

-- what a closing token, or none, makes of it
pub record Ends (c : Closing) (f : Follower) : Type 0 where
  pub over : c.found ≡ true → (f.follow ≡ Over) × (f.next ≡ c.next) × (f.indicator ≡ c.indicator)
  pub stray : c.found ≡ false → f.follow ≡ Stray
