-- What a leaf may begin with.
-- Assumes nothing.
use mathlib.Core.Path.{◌≡◌, refl, ◌∙◌}
use mathlib.Core.Bool.{Bool, true}
use mathlib.Core.List.{List}
use Prim.Native.Nat.{ℕ, ◌+◌, ◌<◌}
use native.Mathlib.Omega.{arith}
use lib.ListN.{length, get_or}
use Rattle.scanning.specs.ScanAnswers.{Peeked}
use Rattle.scanning.proofs.Marked.{at_byte}
use Rattle.scanning.proofs.ScanCode.{peeked_yes}
use Rattle.plain_string.specs.StringParts.{Quote, QuotedAt, HexAt}
use Rattle.plain_string.proofs.StringCode.{quote-text, quote-bytes}
use Rattle.leaf_reader.specs.Starts.{StartsAs}
use Rattle.leaf_reader.specs.declared.Start.{Start}
use Rattle.leaf_reader.specs.declared.Start.TheVariants.{Quoted, Hex}
use Rattle.std.specs.Prelude.{◌⊎◌}
use Rattle.std.proofs.Common.{inl, inr}

-- THE FIRST BYTE

module _ {b : ℕ} where
  starts-quote : Quote b → StartsAs b Quoted
  starts-quote q = record { quoted = λ e. q; hex = λ e. absurd (let z : ◌≡◌ {A = ℕ} 0 1 = cc in omega arith) }

  pub starts-quoted : (b ≡ 0x22) ⊎ (b ≡ 0x27) → StartsAs b Quoted
  starts-quoted (inl e) = starts-quote (quote-text e)
  starts-quoted (inr e) = starts-quote (quote-bytes e)

pub quoted-at : {s : List ℕ} {place : ℕ} {k : Start} → place < length s → StartsAs (get_or s place 0) k → k ≡ Quoted → QuotedAt s place (get_or s place 0)
quoted-at l x e = record { here = l; is = refl; quote = x.quoted e }

pub hex-at : {s : List ℕ} {place : ℕ} {k : Start} {t : Bool} → place < length s → StartsAs (get_or s place 0) k → k ≡ Hex → Peeked s (place + 1) 0x27 t → t ≡ true → HexAt s place
hex-at {s} {place} l x e p f =
    let z : place + 1 + 1 ≡ place + 2 = omega arith in
    record { inside = omega (arith, p.inside f); is = at_byte s place l ∙ (rw (x.hex e, peeked_yes p f, z)) }
