-- Results laid into a buffer, and printing.
-- Assumes nothing.
use Prim.Native.Nat.{ℕ, ◌-◌, ◌≤◌, min}
use native.Mathlib.Omega.{arith}
use mathlib.Core.Path.{◌≡◌, refl, sym, ap, ◌∙◌}
use mathlib.Core.Bool.{Bool, true}
use mathlib.Core.List.{List, []}
use lib.Dec.{leb}
use lib.ListN.{length, take, get_or}
use mir.Syntax.{w8}
use mir.Val.{Fits}
use Rattle.cbor.specs.Refusals.{Result, ok, refuse, verdict_of}
use Rattle.cbor.specs.Items.{Items}
use Rattle.cbor.specs.Decode.{decode}
use Rattle.memory.specs.Buffer.{over, over_if_fits, copied}
use Rattle.memory.proofs.Buffer.{copied-yes, written-fits}
use Rattle.refusal.specs.RefusalKinds.{kind_number}
use Rattle.walk_answer.specs.WalkAnswers.{pass_told, map_result, told_of, walk_all_of, contents_all}
use Rattle.refusal.specs.declared.Refusal.{Refusal}
use Rattle.walk_answer.specs.declared.Passage.{Passage}
use Rattle.notation.specs.Printing.{print_text}
use Rattle.std.specs.declared.option.Option.TheVariants.{Some}
use Rattle.printing.specs.PassAnswers.{PassTold}
use Rattle.operations.specs.Operations.{written, items_of, text_of, and_then, print}
use Rattle.cbor.specs.Valid.{Bytes}
use Rattle.cbor.proofs.EncodeDecode.{encode_of_decode}
use Rattle.walk_answer.proofs.Slices.{bytes_of}
use Rattle.outcome.specs.Outcomes.{outcome_of, laid}
use Rattle.printing.specs.PrintOutcomes.{AtOnce}
use Rattle.fitting_text.specs.FittingAnswers.{Lays}
use Rattle.outcome.proofs.Room.{laid-room, laid-yes}
use Rattle.std.specs.Prelude.{Ok, Err}
use Rattle.std.specs.Prelude as std

print-no : (s b : List ℕ) (e : Refusal) (res : Result Items) → decode s ≡ res → pass_told (Err e) ≡ told_of (length s) (map_result contents_all res) → outcome_of (Err e) b ≡ print s b
unfolding pass_told told_of map_result items_of verdict_of text_of and_then print written outcome_of
print-no s b e (ok xs r) d h = let z : ◌≡◌ {A = ℕ} 0 1 = cc in absurd (omega arith)
print-no s b e (refuse k l) d h =
    let i : kind_number e.kind ≡ k = cc in
    let j : e.place ≡ length s - l = cc in
    rw (d, i, j, print)

print-yes : (s b b' : List ℕ) (r : std.Result ℕ Refusal) (m : Passage) (res : Result Items) → Bytes s → decode s ≡ res → pass_told (Ok m) ≡ told_of (length s) (map_result contents_all res) → Lays s b b' r → outcome_of r b' ≡ print s b
unfolding pass_told told_of map_result items_of verdict_of text_of and_then print laid
print-yes s b b' r m (ok xs q) u d h l =
    let e = encode_of_decode s xs q u d in
    let w = l.is xs (d ∙ ap (ok xs) e.done) in
    rw (d, print) w
print-yes s b b' r m (refuse k q) u d h l = let z : ◌≡◌ {A = ℕ} 0 1 = cc in absurd (omega arith)

module _ (s b : List ℕ) {a : std.Result Passage Refusal} (told : pass_told a ≡ walk_all_of (length s) (decode s)) where
  pub print-refused : {e : Refusal} → a ≡ Err e → outcome_of (Err e) b ≡ print s b
  unfolding walk_all_of
  print-refused {e} h = print-no s b e (decode s) refl (rw h at told)

  pub print-done : {m : Passage} {b' : List ℕ} {r : std.Result ℕ Refusal} → ((i : ℕ) → Fits w8 (get_or s i 0)) → a ≡ Ok m → Lays s b b' r → outcome_of r b' ≡ print s b
  unfolding walk_all_of
  print-done {m} g h l = print-yes s b _ _ m (decode s) (bytes_of s g) refl (rw h at told) l

pub ruleset whole_ways = (print-refused, print-done)

-- IN ONE PASS

print-text : (s b : List ℕ) (xs : Items) → decode s ≡ ok xs [] → print s b ≡ laid b (print_text xs)
unfolding items_of verdict_of text_of and_then print laid
print-text s b xs d = rw (d, print)

module _ {s made made' b : List ℕ} {n : ℕ} (p : PassTold s made made' (Some n)) where
  pub pass_done : {v : Bool} → v ≡ leb n (min (length b) 65535) → v ≡ true → {b' : List ℕ} → b' ≡ copied b 0 made' n → AtOnce s b b' (Some n)
  pass_done {v} f t {b'} e =
      let a = p.told in
      let w = print_text a.values in
      let k : n ≡ length w = omega (arith, a.laid.next) in
      let h : take n made' ≡ w = a.laid.is in
      let l : n ≤ length made' = omega (arith, a.laid.room, p.same) in
      let m = laid-room b f t in
      let c : b' ≡ over b 0 w = e ∙ copied-yes b 0 made' n l ∙ ap (over_if_fits b 0) h ∙ written-fits b 0 w (omega arith) in
      record { yes = rw c (laid-yes b f w k t) ∙ sym (print-text s b a.values a.is); no = tt }
