-- Of the code: what closes a list, and what goes with it.
use Rattle.std.specs.Prelude.{ℕ, Bool, true, false, not}
use Rattle.notation.specs.Tokens.{Shape, square, curly, round, angle, whole}
use Rattle.token.specs.TokenAnswers.{shape_code}
use Rattle.closers.specs.declared.Closer.{Closer}
use Rattle.closers.specs.declared.Closer.TheVariants.{Square, Curly, Round, Angle, Whole, Nothing}

-- THE LIST that a closer closes; where it is `Nothing`, one item is all
unfoldable pub shape_of : Closer → Shape
shape_of Square = square
shape_of Curly = curly
shape_of Round = round
shape_of Angle = angle
shape_of Whole = whole
shape_of Nothing = whole

unfoldable pub is_single : Closer → Bool
is_single Square = false
is_single Curly = false
is_single Round = false
is_single Angle = false
is_single Whole = false
is_single Nothing = true

unfoldable pub may_be_empty : Closer → Bool
may_be_empty Square = true
may_be_empty Curly = true
may_be_empty Round = false
may_be_empty Angle = true
may_be_empty Whole = true
may_be_empty Nothing = false

-- whether the first item is a key; whether the next one is; how much one counts
unfoldable pub starts : Closer → Bool
starts Square = false
starts Curly = true
starts Round = false
starts Angle = false
starts Whole = false
starts Nothing = false

unfoldable pub turned : Closer → Bool → Bool
turned Square k = false
turned Curly k = not k
turned Round k = false
turned Angle k = false
turned Whole k = false
turned Nothing k = false

unfoldable pub counted : Bool → ℕ
counted true = 0
counted false = 1

-- the codes of what parts an item from the next one, and of what closes; 0, which no token has, where there is none
unfoldable pub comma_code : Closer → ℕ
comma_code Square = 11
comma_code Curly = 11
comma_code Round = 0
comma_code Angle = 11
comma_code Whole = 11
comma_code Nothing = 0

-- behind a key, which no list has but a map
unfoldable pub colon_code : Closer → ℕ
colon_code Square = 12
colon_code Curly = 12
colon_code Round = 0
colon_code Angle = 12
colon_code Whole = 12
colon_code Nothing = 0

unfoldable pub separator_code : Closer → Bool → ℕ
separator_code h true = colon_code h
separator_code h false = comma_code h

-- the bytes that they are or begin with, by which the code tells them apart
unfoldable pub separator_byte : Bool → ℕ
separator_byte true = 0x3a
separator_byte false = 0x2c

unfoldable pub may_separate : Closer → Bool
may_separate Square = true
may_separate Curly = true
may_separate Round = false
may_separate Angle = true
may_separate Whole = true
may_separate Nothing = false

unfoldable pub has_sign : Closer → Bool
has_sign Square = true
has_sign Curly = true
has_sign Round = true
has_sign Angle = false
has_sign Whole = false
has_sign Nothing = false

unfoldable pub closing_byte : Closer → ℕ
closing_byte Square = 0x5d
closing_byte Curly = 0x7d
closing_byte Round = 0x29
closing_byte Angle = 0x3e
closing_byte Whole = 0
closing_byte Nothing = 0

unfoldable pub closer_code : Closer → Bool → ℕ
closer_code h true = 0
closer_code h false = shape_code (shape_of h)

unfoldable pub shown_by : Closer → ℕ → ℕ
shown_by Square i = i
shown_by Curly i = 0
shown_by Round i = 0
shown_by Angle i = i
shown_by Whole i = i
shown_by Nothing i = i
