-- Of the code: the code's kinds of refusal, by the numbers of document 01.
use Rattle.std.specs.Prelude.{ℕ, ◌≤◌, ◌≡◌}
use Rattle.cbor.specs.Refusals.{too_long, not_utf8, no_token, unknown_word, dots, float, out_of_range, bad_content, bad_indicator, too_deep, not_allowed, mixed_chunks, bad_typed_array, no_room, ends_inside, not_well_formed, no_such_path}
use Rattle.refusal.specs.declared.RefusalKind.{RefusalKind}
use Rattle.refusal.specs.declared.RefusalKind.TheVariants.{TooLong, NotUtf8, NoToken, UnknownWord, Dots, Float, OutOfRange, BadContent, BadIndicator, TooDeep, NotAllowed, MixedChunks, BadTypedArray, NoRoom, EndsInside, NotWellFormed, NoSuchPath}

unfoldable pub kind_number : RefusalKind → ℕ
kind_number TooLong = too_long
kind_number NotUtf8 = not_utf8
kind_number NoToken = no_token
kind_number UnknownWord = unknown_word
kind_number Dots = dots
kind_number Float = float
kind_number OutOfRange = out_of_range
kind_number BadContent = bad_content
kind_number BadIndicator = bad_indicator
kind_number TooDeep = too_deep
kind_number NotAllowed = not_allowed
kind_number MixedChunks = mixed_chunks
kind_number BadTypedArray = bad_typed_array
kind_number NoRoom = no_room
kind_number EndsInside = ends_inside
kind_number NotWellFormed = not_well_formed
kind_number NoSuchPath = no_such_path

-- a kind by its number
pub record Kinded (n : ℕ) (k : RefusalKind) : Type 0 where
  pub is : 1 ≤ n → n ≤ 17 → kind_number k ≡ n
