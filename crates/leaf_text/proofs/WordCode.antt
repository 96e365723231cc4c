-- Words.
-- Assumes nothing.
use mathlib.Core.Path.{◌≡◌, ap, ◌∙◌}
use mathlib.Core.List.{List, [], ◌∷◌, ◌++◌}
use Prim.Native.Nat.{ℕ, ◌+◌, ◌/◌, ◌%◌, ◌≤◌, ◌<◌}
use native.Mathlib.Omega.{arith}
use native.Mathlib.Numerals.{add-one}
use lib.ListN.{length, take, drop, set, get_or}
use lib.Seq.{take-suc, take_all}
use Rattle.cbor.specs.Widths.{w0, argument_bytes, value_from}
use Rattle.cbor.specs.Items.{simple, definite}
use Rattle.cbor.specs.Heads.{Major, simples, major_of, is_float, is_allowed, started}
use Rattle.cbor.specs.Decode.{item_by}
use Rattle.cbor.proofs.DecodeEncode.{enter_at}
use Rattle.notation.specs.Printing.{print_simple, print_item}
use Rattle.leaf_kind.specs.LeafKinds.{KindOf}
use Rattle.leaf_kind.specs.declared.Kind.TheVariants.{False, True, Null}
use Rattle.leaf_kind.proofs.KindCode.{false_is, true_is, null_is}
use Rattle.leaf_written.specs.Laying.{Laid}
use Rattle.leaf_written.specs.LeafTexts.{Room, LeafTold}
use Rattle.std.specs.declared.option.Option.TheVariants.{Some}
use Rattle.leaf_written.proofs.LayCode.{laid_none, laid_more, laid_as, laid-set}
use Rattle.leaf_written.proofs.LeafCode.{low-information, item_plain, told-leaf}

-- LETTERS

-- of the letters, i are laid
pub record Lettered (ws b : List ℕ) (pos i : ℕ) (l : List ℕ) : Type 0 where
  pub done : Laid b l pos (take i ws) (pos + i)

pub letters_start : {ws b : List ℕ} {pos : ℕ} → pos + length ws ≤ length b → Lettered ws b pos 0 b
letters_start {ws} {b} {pos} h = let z : pos + 0 ≡ pos = omega arith in record { done = rw z (laid_none b pos (omega arith)) }

module _ {ws b : List ℕ} {pos i : ℕ} {l : List ℕ} (inv : Lettered ws b pos i l) where
  pub letters_step : pos + length ws ≤ length b → i < length ws → Lettered ws b pos (i + 1) (set l (pos + i) (get_or ws i 0))
  letters_step h k =
      let e : take i ws ++ get_or ws i 0 ∷ [] ≡ take (i + 1) ws = rw (add-one, take-suc ws i 0 k) in
      let z : pos + i + 1 ≡ pos + (i + 1) = omega arith in
      record { done = rw z at (laid_as (laid_more inv.done (laid-set l (pos + i) (get_or ws i 0) (omega (arith, inv.done.same)))) e) }

  pub letters_end : i ≤ length ws → length ws ≤ i → Laid b l pos ws (pos + length ws)
  letters_end g h =
      let z : pos + i ≡ pos + length ws = omega arith in
      rw z at (laid_as inv.done (take_all i ws h))

module _ {s : List ℕ} {at : ℕ} {b b₁ : List ℕ} {pos q : ℕ} (rm : Room s at b pos) where
  word-told : (v : ℕ) → v < 24 → get_or s at 0 ≡ 0xe0 + v → Laid b b₁ pos (print_simple v) q → LeafTold s at b b₁ pos (Some (record { end = at + 1; pos = q }))
  unfolding item_by is_float is_allowed argument_bytes started value_from print_item major_of
  word-told v h e x =
      let n : get_or s at 0 % 32 ≡ v = omega arith in
      let m : major_of (get_or s at 0 / 32) ≡ simples = let z : get_or s at 0 / 32 ≡ 7 = omega arith in ap major_of z in
      let z : at + 1 + 0 ≡ at + 1 = omega arith in
      told-leaf (simple v) (λ d.
      item_plain s at w0 (omega (arith, rm.block)) (low-information (get_or s at 0 % 32) (omega arith)) (ap (λ (y : Major). is_float y w0) m) (ap (λ (y : Major). is_allowed y w0 (get_or s at 0 % 32)) m) d
      ∙ (λ j. item_by (enter_at d) (m j) (definite w0) (n j) (length (drop at s)) (drop (z j) s))) (omega (arith, rm.block)) x

  pub false_told : KindOf (get_or s at 0) False → Laid b b₁ pos (0x66 ∷ 0x61 ∷ 0x6c ∷ 0x73 ∷ 0x65 ∷ []) q → LeafTold s at b b₁ pos (Some (record { end = at + 1; pos = q }))
  unfolding print_simple
  false_told k x = word-told 20 (omega arith) (false_is k) x

  pub true_told : KindOf (get_or s at 0) True → Laid b b₁ pos (0x74 ∷ 0x72 ∷ 0x75 ∷ 0x65 ∷ []) q → LeafTold s at b b₁ pos (Some (record { end = at + 1; pos = q }))
  unfolding print_simple
  true_told k x = word-told 21 (omega arith) (true_is k) x

  pub null_told : KindOf (get_or s at 0) Null → Laid b b₁ pos (0x6e ∷ 0x75 ∷ 0x6c ∷ 0x6c ∷ []) q → LeafTold s at b b₁ pos (Some (record { end = at + 1; pos = q }))
  unfolding print_simple
  null_told k x = word-told 22 (omega arith) (null_is k) x
