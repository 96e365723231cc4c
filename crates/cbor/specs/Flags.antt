-- Of the code: a sign, and a kind of string, as a bool.
use Rattle.std.specs.Prelude.{Bool, true, false}
use Rattle.cbor.specs.Items.{Sign, unsigned, negative, Kind, byte_string, text_string}

unfoldable pub sign_of : Bool → Sign
sign_of true = negative
sign_of false = unsigned

unfoldable pub kind_of : Bool → Kind
kind_of true = text_string
kind_of false = byte_string
