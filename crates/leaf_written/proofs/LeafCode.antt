-- Leaves: what the definitions read behind an initial byte.
-- Assumes nothing.
use mathlib.Core.Path.{◌≡◌, refl, ap, ◌∙◌}
use mathlib.Core.Bool.{true, false}
use mathlib.Core.List.{List, [], ◌∷◌}
use Prim.Native.Nat.{ℕ, ◌+◌, ◌/◌, ◌%◌, ◌≤◌, ◌<◌}
use native.Mathlib.Omega.{arith}
use lib.ListN.{length, take, drop, get_or, length-drop}
use lib.Seq.{drop-drop}
use borrow.Author.Tests.{le-leb, lt-leb, eq-eqb}
use Rattle.cbor.specs.Refusals.{ok, bind}
use Rattle.cbor.specs.Widths.{Width, w0, w1, w2, w4, argument_bytes, limit, fits, shortest, value_from}
use Rattle.cbor.specs.Items.{Item, definite}
use Rattle.cbor.specs.Heads.{major_of, argument, information_of, is_float, is_allowed, taking, started, argued, head_by, next_head}
use Rattle.cbor.specs.Decode.{item_by, item}
use Rattle.cbor.proofs.DecodeEncode.{enter_at, by-head}
use Rattle.memory.proofs.Lists.{front}
use Rattle.notation.specs.Printing.{indicator_of, print_item}
use Rattle.leaf_written.specs.Laying.{Laid}
use Rattle.leaf_written.specs.LeafTexts.{LeafTold}
use Rattle.std.specs.declared.option.Option.TheVariants.{None, Some}
use Rattle.leaf_written.proofs.LayCode.{laid_kept}

-- HEADS

-- additional information
pub low-information : (i : ℕ) → i < 24 → information_of i ≡ argument w0
unfolding information_of
low-information i h = rw (le-leb i 23 (omega arith), information_of)

-- the width that an argument is shown in without an indicator
pub indicator-none : (w : Width) (n : ℕ) → shortest n ≡ w → indicator_of w n ≡ []
unfolding indicator_of argument_bytes
indicator-none w n e = rw (e, eq-eqb (argument_bytes w) (argument_bytes w) refl, indicator_of)

module _ (n : ℕ) where
  pub shortest_0 : n < 24 → shortest n ≡ w0
  unfolding shortest fits limit
  shortest_0 h = rw (le-leb n 23 (omega arith), shortest)

  pub shortest_1 : 24 ≤ n → n < 0x100 → shortest n ≡ w1
  unfolding shortest fits limit
  shortest_1 h i = rw (lt-leb n 23 h, le-leb n 255 (omega arith), shortest)

  pub shortest_2 : 0x100 ≤ n → n < 0x1_0000 → shortest n ≡ w2
  unfolding shortest fits limit
  shortest_2 h i = rw (lt-leb n 23 (omega arith), lt-leb n 255 h, le-leb n 65535 (omega arith), shortest)

  pub shortest_4 : 0x1_0000 ≤ n → n < 0x1_0000_0000 → shortest n ≡ w4
  unfolding shortest fits limit
  shortest_4 h i = rw (lt-leb n 23 (omega arith), lt-leb n 255 (omega arith), lt-leb n 65535 h, le-leb n 4294967295 (omega arith), shortest)

-- the argument behind an initial byte b, of which t is left
abbrev pub argument_in : Width → ℕ → List ℕ → ℕ
argument_in w b t = value_from (started w (b % 32)) (take (argument_bytes w) t)

head_plain : (b : ℕ) (t : List ℕ) (w : Width) → information_of (b % 32) ≡ argument w → is_float (major_of (b / 32)) w ≡ false → is_allowed (major_of (b / 32)) w (argument_in w b t) ≡ true → argument_bytes w ≤ length t
    → next_head (b ∷ t) ≡ ok (record { major = major_of (b / 32); size = definite w; argument = argument_in w b t }) (drop (argument_bytes w) t)
unfolding next_head head_by taking argued bind
head_plain b t w i f a h = rw (i, head_by) (rw (f, le-leb (argument_bytes w) (length t) h, taking) (rw (a, argued)))

module _ (s : List ℕ) (at : ℕ) (w : Width) (h : at + 1 + argument_bytes w ≤ length s) where
  pub item_plain : information_of (get_or s at 0 % 32) ≡ argument w → is_float (major_of (get_or s at 0 / 32)) w ≡ false → is_allowed (major_of (get_or s at 0 / 32)) w (argument_in w (get_or s at 0) (drop (at + 1) s)) ≡ true
      → (d : ℕ) → item d (drop at s) ≡ item_by (enter_at d) (major_of (get_or s at 0 / 32)) (definite w) (argument_in w (get_or s at 0) (drop (at + 1) s)) (length (drop at s)) (drop (at + 1 + argument_bytes w) s)
  item_plain i f a d =
      let b = get_or s at 0 in
      let t = drop (at + 1) s in
      let l : argument_bytes w ≤ length t = omega (arith, length-drop (at + 1) s) in
      let e = ap next_head (front s at (omega arith)) ∙ head_plain b t w i f a l ∙ ap (λ (r : List ℕ). ok (record { major = major_of (b / 32); size = definite w; argument = argument_in w b t }) r) (drop-drop (argument_bytes w) (at + 1) s) in
      by-head d (drop at s) _ _ e

-- THE ANSWER

module _ {s : List ℕ} {at : ℕ} {b : List ℕ} {pos : ℕ} where
  pub told_none : {b' : List ℕ} → length b' ≡ length b → take pos b' ≡ take pos b → LeafTold s at b b' pos None
  told_none l k = record { same = l; kept = k; told = tt }

  pub told-leaf : {b' : List ℕ} (x : Item) {e q : ℕ} → ((d : ℕ) → item d (drop at s) ≡ ok x (drop e s)) → e ≤ length s → Laid b b' pos (print_item x) q → LeafTold s at b b' pos (Some (record { end = e; pos = q }))
  told-leaf x i l y = record { same = y.same; kept = laid_kept y; told = record { value = x; is = i; inside = l; laid = y } }
