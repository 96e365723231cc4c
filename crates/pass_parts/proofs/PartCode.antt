-- What stands around items and between them; and items that are not written at a glance.
-- Assumes nothing.
use mathlib.Core.Path.{◌≡◌, refl, sym, ap, ◌∙◌}
use mathlib.Core.Bool.{Bool, true, false, false≢true}
use mathlib.Core.List.{List, [], ◌∷◌, ◌++◌}
use Prim.Native.Nat.{ℕ, ◌+◌, ◌-◌, ◌*◌, ◌/◌, ◌%◌, ◌^◌, ◌≤◌, ◌<◌}
use native.Mathlib.Omega.{arith}
use lib.Dec.{eqb}
use lib.ListN.{length, take, drop, get_or, length-append, length-take, length-drop}
use mir.Syntax.{w64 as bits64}
use mir.Val.{Fits}
use lib.Seq.{take_all, take-take}
use borrow.Author.Tests.{ne_eqb}
use Rattle.cbor.specs.Refusals.{Result, ok, refuse}
use Rattle.cbor.specs.Widths.{w0, argument_bytes, value_from}
use Rattle.cbor.specs.Items.{byte_string, Item, string, definite}
use Rattle.cbor.specs.Heads.{Major, strings, major_of, is_float, is_allowed, started}
use Rattle.cbor.specs.TypedArrays.{is_typed_array, asked, element_size, divides, may_tag}
use Rattle.cbor.specs.Decode.{content_at, item_by, item}
use Rattle.cbor.proofs.DecodeEncode.{enter_at}
use Rattle.typed_array.specs.TypedArrayAnswers.{may_tag_by}
use Rattle.memory.specs.Buffer.{clipped}
use Rattle.memory.proofs.Buffer.{take-over}
use Rattle.notation.specs.Printing.{decimal_of, size_of, blank_behind, indicator_of, print_int, print_item}
use Rattle.walk_answer.specs.WalkAnswers.{item_passed, walk_told, walk_of, map_result as mapped}
use Rattle.walk_answer.specs.declared.WalkedItem.{WalkedItem}
use Rattle.text_output.specs.PrintParts.{Prints, width_by, size_by}
use Rattle.leaf_printer.proofs.PrintHeads.{width_low}
use Rattle.cbor.specs.Flags.{sign_of}
use Rattle.decimal_output.proofs.DecimalCode.{decimal-length}
use Rattle.printer.proofs.PrintBounds.{indicator-length}
use Rattle.printer.specs.PrintAnswers.{Done, PrintTold}
use Rattle.printer.specs.declared.Printed.{Printed}
use Rattle.printer.proofs.PrintSeveral.{mapped_is}
use Rattle.printer.proofs.PrintCycle.{taking-ok, made, content-ok}
use Rattle.leaf_written.specs.Laying.{Laid}
use Rattle.std.specs.declared.option.Option.TheVariants.{None, Some}
use Rattle.leaf_written.proofs.LayCode.{laid_none, laid_more, laid_as, laid-front, laid-prints}
use Rattle.leaf_written.proofs.LeafCode.{low-information, indicator-none, shortest_0, item_plain}
use Rattle.pass_parts.specs.PartAnswers.{separator_of, tag_opening, IsItem, ItemTold, ShortString, MayTag}
use Rattle.std.specs.Prelude.{Ok}
use Rattle.std.specs.Prelude as std
use Rattle.refusal.specs.declared.Refusal.{Refusal}

-- BETWEEN ITEMS

module _ (first : Bool) {c k : ℕ} {b b₁ b₂ : List ℕ} {pos p q : ℕ} (x : Laid b b₁ pos (c ∷ []) p) (y : Laid b₁ b₂ p (k ∷ []) q) where
  pub separator_none : first ≡ true → Laid b b₂ pos (separator_of first c k) pos
  unfolding separator_of
  separator_none e =
      let z : pos + 0 ≡ pos = omega arith in
      let w : Laid b b₂ pos [] pos = rw z at (laid-front [] (c ∷ k ∷ []) (laid_more x y)) in
      rw e w

  pub separator_some : first ≡ false → Laid b b₂ pos (separator_of first c k) q
  unfolding separator_of
  separator_some e = rw e (laid_more x y)

pub ruleset separator_ways = (separator_none, separator_some)

-- BRACKETS

module _ (info n : ℕ) {b : List ℕ} {pos : ℕ} where
  pub mark-none : info < 24 → n < 24 → pos + 3 ≤ length b → Laid b b pos (size_of (size_by info) n) pos
  unfolding size_of size_by blank_behind
  mark-none h i l =
      let a : info ≡ 31 → ⊥ = omega arith in
      let e : size_of (size_by info) n ≡ [] = rw (ne_eqb info 31 a, size_by) (ap blank_behind (ap (λ w. indicator_of w n) (width_low info (omega arith)) ∙ indicator-none w0 n (shortest_0 n i))) in
      laid_as (laid_none b pos (omega arith)) (sym e)

  pub mark_open : {b₁ b₂ : List ℕ} {p q : ℕ} → info ≡ 31 → Laid b b₁ pos (0x5f ∷ []) p → Laid b₁ b₂ p (0x20 ∷ []) q → Laid b b₂ pos (size_of (size_by info) n) q
  unfolding size_of size_by
  mark_open e x y = rw e (laid_more x y)

  pub mark-wide : {b₁ : List ℕ} {r : ℕ} → length b * 1 < 2 ^ 63 → pos + 3 ≤ length b → length (size_of (size_by info) n) ≤ 3 → Prints b b₁ pos (size_of (size_by info) n) r → Laid b b₁ pos (size_of (size_by info) n) r
  mark-wide u l h p = laid-prints u (omega (arith, p.next)) p

pub opening_laid : {c : ℕ} {ws b b₁ b₂ : List ℕ} {pos p q : ℕ} → Laid b b₁ pos (c ∷ []) p → Laid b₁ b₂ p ws q → Laid b b₂ pos (c ∷ ws) q
opening_laid x y = laid_more x y

module _ (info : ℕ) {n : ℕ} (f : Fits bits64 n) where
  number-most : length (decimal_of n ++ indicator_of (width_by info) n) ≤ 22
  number-most = let a = f.fits in let i = decimal-length 19 n (omega arith) in let j = indicator-length (width_by info) n in simp length-append (omega arith)

  module _ {b b₁ : List ℕ} {pos p : ℕ} (l : pos + 80 ≤ length b) (x : Prints b b₁ pos (print_int (sign_of false) (width_by info) n) p) where
    pub number-room : p < length b₁
    unfolding print_int sign_of
    number-room = omega (arith, x.next, x.same, number-most)

    pub tag-laid : {b₂ : List ℕ} {q : ℕ} → length b * 1 < 2 ^ 63 → Laid b₁ b₂ p (0x28 ∷ []) q → Laid b b₂ pos (tag_opening info n) q
    unfolding print_int sign_of tag_opening
    tag-laid u y = laid_more (laid-prints u (omega (arith, x.next, number-most)) x) y

pub take_less : (b b' : List ℕ) (k pos : ℕ) → k ≤ pos → take pos b' ≡ take pos b → take k b' ≡ take k b
take_less b b' k pos h e = sym (take-take k pos b' h) ∙ ap (take k) e ∙ take-take k pos b h

-- TYPED ARRAYS

asked_any : (n : ℕ) (v : Bool) → asked n false ≡ true → asked n v ≡ true
asked_any n v = by (is_typed_array n) (eqb n 76)
  where
    by : (t u : Bool) → elim t [ true ↦ elim u [ true ↦ false | false ↦ false ] | false ↦ true ] ≡ true → elim t [ true ↦ elim u [ true ↦ false | false ↦ v ] | false ↦ true ] ≡ true
    by true true e = absurd (false≢true e)
    by true false e = absurd (false≢true e)
    by false u e = refl

-- a byte string whose head is its initial byte, as it was read
record StringOf (n : ℕ) (x : Item) : Type 0 where
  content : List ℕ
  is : x ≡ string byte_string w0 content
  size : length content ≡ n

string_of : (s : List ℕ) (from d : ℕ) (x : Item) (r : List ℕ) → from < length s → get_or s from 0 / 32 ≡ 2 → get_or s from 0 % 32 < 24 → item d (drop from s) ≡ ok x r → StringOf (get_or s from 0 % 32) x
unfolding item_by is_float is_allowed argument_bytes started value_from major_of
string_of s from d x r h m l e =
    let n = get_or s from 0 % 32 in
    let t = drop (from + 1 + 0) s in
    let g : major_of (get_or s from 0 / 32) ≡ strings byte_string = ap major_of m in
    let p = item_plain s from w0 (omega arith) (low-information n l) (ap (λ (z : Major). is_float z w0) g) (ap (λ (z : Major). is_allowed z w0 n) g) d in
    let q : item_by (enter_at d) (strings byte_string) (definite w0) n (length (drop from s)) t ≡ ok x r = ap (λ (z : Major). item_by (enter_at d) z (definite w0) n (length (drop from s)) t) (sym g) ∙ sym p ∙ e in
    let i = made (string byte_string w0) (content_at byte_string n (length (drop from s)) t) q in
    let k = taking-ok n 0 t (content-ok byte_string n (length (drop from s)) t i.read) in
    record { content = i.inner; is = i.is; size = sym (ap length k.content) ∙ omega (arith, length-take n t, k.fits) }

pub may-by : {s : List ℕ} {from n b : ℕ} {v t : Bool} → from < length s → b ≡ get_or s from 0 → ShortString b v → t ≡ may_tag_by n v (b % 32) → MayTag s from n t
unfolding may_tag_by may_tag divides
may-by {s} {from} {n} {b} {v} {t} h g w e = record { is = by v (rw g at w) (rw g at e) }
  where
    by : (v : Bool) → ShortString (get_or s from 0) v → t ≡ may_tag_by n v (get_or s from 0 % 32) → t ≡ true → (d : ℕ) (x : Item) (r : List ℕ) → item d (drop from s) ≡ ok x r → may_tag n x ≡ true
    by false w e y d x r g = asked_any n (divides (element_size n) x) (sym e ∙ y)
    by true w e y d x r g =
        let o = string_of s from d x r h (w.major refl) (w.short refl) g in
        ap (may_tag n) o.is ∙ ap (λ (k : ℕ). asked n (eqb (k % element_size n) 0)) o.size ∙ sym e ∙ y

-- ANY ITEM

pub told_none : {s : List ℕ} {at d : ℕ} {b b₁ : List ℕ} {pos : ℕ} → length b₁ ≡ length b → take pos b₁ ≡ take pos b → ItemTold s at d b b₁ pos None
told_none l k = record { same = l; kept = k; told = tt }

pub told-lost : {s : List ℕ} {at d : ℕ} {b : List ℕ} {pos : ℕ} → ItemTold s at d b b pos None
told-lost = told_none refl refl

module _ (s : List ℕ) (at d : ℕ) where
  walked_by : (res : Result Item) (m : WalkedItem) → item d (drop at s) ≡ res → (k : ℕ) → item_passed m.end m.major m.size ≡ walk_of k res → IsItem s at d
  unfolding walk_of
  walked_by (ok x r) m e k g = record { value = x; rest = r; is = e }
  walked_by (refuse i l) m e k g = let z : ◌≡◌ {A = ℕ} 0 1 = cc in absurd (omega arith)

  pub is-item : {w : std.Result WalkedItem Refusal} {m : WalkedItem} → walk_told w ≡ walk_of (length (take (length s - at) (drop at s))) (item d (take (length s - at) (drop at s))) → w ≡ Ok m → IsItem s at d
  unfolding walk_told
  is-item {w} {m} f e =
      let t : take (length s - at) (drop at s) ≡ drop at s = take_all (length s - at) (drop at s) (omega (arith, length-drop at s)) in
      walked_by (item d (drop at s)) m refl (length (drop at s)) (ap walk_told (sym e) ∙ f ∙ (λ j. walk_of (length (t j)) (item d (t j))))

module _ {s : List ℕ} {at d : ℕ} {b b₁ : List ℕ} {pos : ℕ} {p : Printed} (i : IsItem s at d) (l : pos ≤ length b) (f : PrintTold s (at + 1) b b₁ pos p (mapped print_item (item d (drop at s)))) where
  whole-done : Done s (at + 1) b b₁ pos p (print_item i.value) i.rest
  whole-done = f.done (print_item i.value) i.rest (mapped_is print_item i.is refl)

  whole-kept : take pos b₁ ≡ take pos b
  unfolding clipped
  whole-kept = let g = whole-done.prints in ap (take pos) g.is ∙ take-over b pos (take (length b - pos) (print_item i.value)) l pos (omega arith)

  pub whole_full : ItemTold s at d b b₁ pos None
  whole_full = told_none f.same whole-kept

  pub whole-made : length b * 1 < 2 ^ 63 → p.pos ≤ length b₁ → ItemTold s at d b b₁ pos (Some (record { end = p.end; pos = p.pos }))
  whole-made u h =
      let g = whole-done in
      record {
        same = f.same;
        kept = whole-kept;
        told = record { value = i.value; is = i.is ∙ ap (ok i.value) (sym g.drops); inside = omega (arith, g.inside); laid = laid-prints u (omega (arith, f.same)) g.prints };
      }

pub ruleset whole_ways = (whole-made, whole_full)
