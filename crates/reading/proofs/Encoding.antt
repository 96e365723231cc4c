-- Reading: what is asked of all of a text, and the bytes that were made of it.
-- Assumes nothing.
use Prim.Native.Nat.{ℕ, suc, ◌-◌, ◌*◌, ◌≤◌, ◌+◌}
use native.Mathlib.Omega.{arith}
use mathlib.Core.Path.{◌≡◌, sym, ◌∙◌}
use mathlib.Core.List.{List, [], ◌∷◌}
use lib.ListN.{length, take, length-append}
use Rattle.cbor.specs.Refusals.{bind, accepted, refused, verdict_of}
use Rattle.cbor.specs.Encode.{encode_all}
use Rattle.cbor.specs.Decode.{most_bytes}
use Rattle.refusal.specs.RefusalKinds.{kind_number}
use Rattle.refusal.specs.declared.Refusal.{Refusal}
use Rattle.notation.specs.Reading.{marked, sequence, read_text}
use Rattle.encoding.specs.ReadAnswers.{ReadTold, of_closed}
use Rattle.encoding.proofs.Telling.{Got, got, Lost, lost}
use Rattle.encoding.specs.declared.answer.MadeItem.{MadeItem}
use Rattle.operations.specs.Operations.{and_then, room, written, bytes_of, read}
use Rattle.outcome.specs.Outcomes.{outcome_of, laid}
use Rattle.delivery.specs.Deliveries.{Delivered}
use Rattle.reading.specs.ReadOutcomes.{items_read, Ready, Encodes}
use Rattle.text_check.specs.TextAnswers.{text_told, passing}
use Rattle.outcome.proofs.Room.{roomy-small, roomy_large}
use Rattle.encoding.proofs.Wrote.{wrote-held}
use Rattle.text_check.proofs.Texts.{passes, fails, passed-short}
use Rattle.std.specs.Prelude.{Ok, Err}
use Rattle.std.specs.Prelude as std

marked-length : (s : List ℕ) → length (marked s) ≡ suc (length s)
unfolding marked
marked-length s = omega (arith, length-append s (256 ∷ []))

-- ENCODING
encode-yes : (s b b' made made' : List ℕ) {r : std.Result ℕ Refusal} {k : MadeItem} → Ready s made → Got of_closed s made made' (length (marked s)) 0 k (sequence s) → Delivered made' k.size b b' r → Encodes s b b' r
unfolding of_closed items_read bind verdict_of and_then laid
encode-yes s b b' made made' {k = k} l it d =
    let n : k.size ≡ length (encode_all it.thing.all) = it.moved.sized in
    let z : k.size ≤ 9 * suc (length s) = omega (arith, marked-length s, it.moved.short) in
    let h : k.size ≤ most_bytes → take k.size made' ≡ encode_all it.thing.all = λ m. rw n (wrote-held it.moved.wrote (omega (arith, n, z, l.roomy.room))) in
    record { is = rw it.is (d.is (encode_all it.thing.all) (record { sized = n; held = h })) }

encode-no : (s b : List ℕ) {e : Refusal} → Lost s e (sequence s) → Encodes s b b (Err e)
unfolding items_read bind verdict_of and_then outcome_of written
encode-no s b {e} x =
    let p : e.place ≡ suc (length s) - x.left = rw (marked-length s) at x.place in
    record { is = rw (x.is, p, x.kind) }

module _ {s made made' : List ℕ} (b : List ℕ) {a : std.Result MadeItem Refusal} (t : ReadTold of_closed s made made' (length (marked s)) 0 a (sequence s)) where
  pub encode-done : {k : MadeItem} {b' : List ℕ} {r : std.Result ℕ Refusal} → Ready s made → a ≡ Ok k → Delivered made' k.size b b' r → Encodes s b b' r
  encode-done l i d = encode-yes s b _ made made' l (got a t i) d

  pub encode-refused : {e : Refusal} → a ≡ Err e → Encodes s b b (Err e)
  encode-refused i = encode-no s b (lost a t i)

pub ruleset encode_ways = (encode-done, encode-refused)

-- THE BUFFERS
module _ {s made : List ℕ} where
  pub small_ready : {n : ℕ} → length s ≤ most_bytes → 9 * (length s + 1) ≤ n → length made ≡ n → Ready s made
  small_ready h f l = record { short = h; roomy = roomy-small f l }

  pub large_ready : length s ≤ most_bytes → length made ≡ most_bytes → Ready s made
  large_ready f l = record { short = f; roomy = roomy_large l }

pub ruleset ready_ways = (small_ready, large_ready)

-- THE OPERATION
module _ (s b : List ℕ) {t : std.Result Unit Refusal} (h : text_told t ≡ passing s) where
  pub read_short : t ≡ (Ok tt) → length s ≤ most_bytes
  unfolding text_told
  read_short e = passed-short s (sym h ∙ rw e)

  pub read_done : {b' : List ℕ} {r : std.Result ℕ Refusal} → t ≡ (Ok tt) → Encodes s b b' r → outcome_of r b' ≡ read s b
  unfolding text_told read bytes_of read_text items_read
  read_done e x = let p : passing s ≡ accepted tt = sym h ∙ rw e in x.is ∙ rw (passes s (items_read s) p)

  pub read-refused : {e : Refusal} → t ≡ Err e → outcome_of (Err e) b ≡ read s b
  unfolding text_told read bytes_of read_text items_read and_then written outcome_of
  read-refused {e} i =
      let p : passing s ≡ refused (kind_number e.kind) e.place = sym h ∙ rw i in
      rw (fails s (items_read s) p)

pub ruleset read_ways = (read_short, read_done, read-refused)
