-- Of the code: what is asked of all of a text, in code.
use Rattle.std.specs.Prelude.{List, ℕ}
use Rattle.cbor.specs.Refusals.{Verdict, accepted, refused}
use Rattle.refusal.specs.RefusalKinds.{kind_number}
use Rattle.notation.specs.Reading.{checked}
use Rattle.std.specs.Prelude.{Ok, Err}
use Rattle.std.specs.Prelude as std
use Rattle.refusal.specs.declared.Refusal.{Refusal}

-- what is asked of all of a text: 1, then 2
unfoldable pub text_told : std.Result Unit Refusal → Verdict Unit
text_told (Ok tt) = accepted tt
text_told (Err e) = refused (kind_number e.kind) e.place

unfoldable pub passing : List ℕ → Verdict Unit
passing s = checked s (accepted tt)
