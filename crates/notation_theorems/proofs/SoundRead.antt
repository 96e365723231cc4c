-- Whatever the reader of texts accepts is well formed, within the levels.
use Prim.Native.Nat.{ℕ, suc, ◌≤◌}
use native.Mathlib.Omega.{arith}
use mathlib.Core.Path.{◌≡◌}
use mathlib.Core.Bool.{true}
use mathlib.Core.List.{List, [], ◌∷◌}
use lib.Dec.{leb, eqb}
use lib.ListN.{length, length-append}
use borrow.Author.Tests.{leb-true}
use Rattle.cbor.specs.Refusals.{Result, ok, refuse, bind, Verdict, accepted, refused, verdict_of}
use Rattle.cbor.specs.Items.{Item, Items, levels, levels_all}
use Rattle.cbor.specs.Utf8.{is_utf8}
use Rattle.cbor.specs.Valid.{Valid, ValidAll}
use Rattle.cbor.specs.Decode.{most_bytes, most_levels}
use Rattle.cbor.proofs.Utf8Text.{Text, text_of, text-marked}
use Rattle.notation.specs.Tokens.{Token, whole}
use Rattle.notation.specs.Cutting.{next, place}
use Rattle.notation.specs.Form.{at_start, one, items, stray}
use Rattle.notation.specs.Theorems.{TextValid, ItemValid}
use Rattle.notation.specs.Reading.{marked, checked, sequence, read_text, outside, alone, single, read_item}
use Rattle.notation_theorems.proofs.TextScan.{tested, Leaves, leaves-bind}
use Rattle.notation_theorems.proofs.SoundForm.{Sound, Reads, reads_sound}

abbrev Accepts : {A : Type 0} → (A → Type 0) → Verdict A → Type 0
Accepts P (accepted x) = P x
Accepts P (refused n p) = Unit {0}

verdict_accepts : {A : Type 0} (P : A → Type 0) (n : ℕ) (R : Result A) → Leaves (λ x k. P x) R → Accepts P (verdict_of n R)
unfolding verdict_of
verdict_accepts P n (ok x r) h = h.1
verdict_accepts P n (refuse k w) h = tt

checked-accepts : {A : Type 0} (P : A → Type 0) (s : List ℕ) (v : Verdict A) → (length s ≤ most_bytes → is_utf8 s ≡ true → Accepts P v) → Accepts P (checked s v)
unfolding checked
checked-accepts P s v h =
    tested (Accepts P) (leb (length s) most_bytes) _ _ (λ e. tested (Accepts P) (is_utf8 s) _ _ (λ f. h (leb-true (length s) most_bytes e) f) (λ f. tt)) (λ e. tt)

-- A TEXT

abbrev AllSound : Items → Type 0
AllSound xs = ValidAll xs × (levels_all xs ≤ most_levels)

sequence_sound : (s : List ℕ) → length s ≤ most_bytes → is_utf8 s ≡ true → Leaves (λ xs k. AllSound xs) (bind (sequence s) (λ c r. ok c.all r))
unfolding sequence marked
sequence_sound s l e =
    leaves-bind (Reads (Sound (items whole at_start most_levels)) (length (marked s))) (λ xs k. AllSound xs) _ _
    (reads_sound (items whole at_start most_levels) (marked s) (text-marked (text_of s e)) (rw length-append (omega arith))) (λ c r t h. (t, (h.2.good, h.2.deep)))

text-accepts : (s : List ℕ) → Accepts AllSound (read_text s)
unfolding read_text
text-accepts s = checked-accepts AllSound s _ (λ l f. verdict_accepts AllSound (suc (length s)) _ (sequence_sound s l f))

pub text-valid : TextValid
text-valid s xs e = rw e at (text-accepts s)

-- THE TEXT OF ONE ITEM

module _ (d : ℕ) where
  abbrev OneSound : Item → Type 0
  OneSound x = Valid x × (levels x ≤ d)

  denied : (s : List ℕ) (R : Result Token) → Leaves {A = Item} (λ x k. OneSound x) (bind R (λ t r. refuse (stray d t) (length s)))
  unfolding bind
  denied s (ok t r) = tt
  denied s (refuse k w) = tt

  alone_sound : (x : Item) (r : List ℕ) → Text true [] r → OneSound x → Leaves (λ x k. OneSound x) (alone d x r)
  unfolding alone outside
  alone_sound x [] t h = (t, h)
  alone_sound x (b ∷ r) t h = tested (Leaves (λ x k. OneSound x)) (eqb (place (b ∷ r)) (length (b ∷ r))) _ _ (λ e. denied (b ∷ r) (next (b ∷ r))) (λ e. tt)

  single_sound : (s : List ℕ) → length s ≤ most_bytes → is_utf8 s ≡ true → Leaves (λ x k. OneSound x) (single d s)
  unfolding single
  single_sound s l e =
      tested (Leaves (λ x k. OneSound x)) (eqb (place s) (length s)) _ _
      (λ f. leaves-bind (Reads (Sound (one d)) (length s)) (λ x k. OneSound x) _ _ (reads_sound (one d) s (text_of s e) (omega arith))
      (λ x r t h. alone_sound x r t (h.2.good, h.2.deep)))
      (λ f. tt)

  item-accepts : (s : List ℕ) → Accepts OneSound (read_item d s)
  unfolding read_item
  item-accepts s = checked-accepts OneSound s _ (λ l f. verdict_accepts OneSound (length s) _ (single_sound s l f))

pub item-valid : ItemValid
item-valid d s x e = rw e at (item-accepts d s)
