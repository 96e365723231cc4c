-- Printing a whole text.
-- Assumes nothing.
use mathlib.Core.Path.{◌≡◌, refl, sym, ap, ◌∙◌}
use mathlib.Core.Bool.{Bool, true, false}
use mathlib.Core.List.{List, [], ◌∷◌, ◌++◌}
use Prim.Native.Nat.{ℕ, ◌+◌, ◌-◌, ◌^◌, ◌<◌}
use native.Mathlib.Omega.{arith}
use lib.Dec.{leb}
use lib.ListN.{length, drop, get_or, length-append}
use mir.Syntax.{w8 as bits8}
use mir.Val.{Fits}
use Rattle.cbor.specs.Ascii.{ascii}
use Rattle.cbor.specs.Refusals.{ok, refuse}
use Rattle.memory.specs.Buffer.{clipped}
use Rattle.cbor.specs.Items.{Items, none, more}
use Rattle.cbor.specs.Encode.{encode_all}
use Rattle.cbor.specs.Decode.{ended, step_at, several_by, several_within, several, elements, item, decode, most_bytes, most_levels}
use Rattle.cbor.specs.Theorems.{Decoded}
use Rattle.memory.proofs.Buffer.{clipped_nil}
use Rattle.cbor.proofs.Results.{refuse_not_ok}
use Rattle.cbor.proofs.EncodeDecode.{encode_of_decode}
use Rattle.notation.specs.Printing.{print_item, print_text}
use Rattle.walk_answer.specs.WalkAnswers.{map_result as mapped, below, until_by}
use Rattle.text_output.specs.PrintParts.{Prints}
use Rattle.printer.specs.PrintAnswers.{print_one_of, print_all_of, joined, PrintTold, PrintedAll}
use Rattle.printer.specs.declared.Printed.{Printed}
use Rattle.text_output.proofs.PrintLeaves.{prints-more, prints_as}
use Rattle.walk_answer.proofs.Slices.{bytes_of}
use Rattle.printer.proofs.PrintSeveral.{mapped_is, several_as}
use Rattle.printer.proofs.PrintCycle.{item_texts, all-joined}
use Rattle.printer.proofs.PrintBounds.{all-length}
use Rattle.walk_answer.specs.declared.Mode.TheVariants.{Ended}

elements_of : (s : List ℕ) {xs : Items} → decode s ≡ ok xs [] → elements (item most_levels) ended s ≡ ok xs []
unfolding decode
elements_of s {xs} e = go (leb (length s) most_bytes) e
  where
    go : (t : Bool) → elim t [ true ↦ elements (item most_levels) ended s | false ↦ refuse 1 (length s) ] ≡ ok xs [] → elements (item most_levels) ended s ≡ ok xs []
    go true k = k
    go false k = absurd (refuse_not_ok k)

-- no bytes, no text
none_of : (xs : Items) → decode [] ≡ ok xs [] → none ≡ xs
unfolding decode elements several several_within several_by step_at
none_of xs e = cc

nil_of : (s : List ℕ) → length s ≡ 0 → [] ≡ s
nil_of [] h = refl
nil_of (b ∷ s) h = absurd (omega arith)

pub text-none : {s b : List ℕ} → length s ≡ 0 → PrintedAll s b b 0
unfolding print_text
text-none {s} {b} h =
    let k : (xs : Items) → decode s ≡ ok xs [] → none ≡ xs = λ xs e. none_of xs (ap decode (nil_of s h) ∙ e) in
    record {
      same = refl;
      size = λ xs e. ap (λ (y : Items). length (print_text y)) (k xs e);
      is = λ xs e. sym (clipped_nil b 0) ∙ ap (λ (y : Items). clipped b 0 (print_text y)) (k xs e);
    }

module _ (s : List ℕ) (g : (i : ℕ) → Fits bits8 (get_or s i 0)) (n : length s ≡ 0 → ⊥) where
  -- the text is short, and ends with a newline
  record Text (xs : Items) : Type 0 where
    short : length (print_text xs) < 2 ^ 32
    is : joined 0x0a true (item_texts xs) ++ 0x0a ∷ [] ≡ print_text xs
    read : mapped (joined 0x0a true) (print_all_of 4 17 (until_by Ended 0) (drop 0 s)) ≡ ok (joined 0x0a true (item_texts xs)) []

  text_of : (xs : Items) → decode s ≡ ok xs [] → Text xs
  unfolding encode_all print_text elements print_all_of print_one_of below until_by item_texts
  text_of xs e = go xs e (encode_of_decode s xs [] (bytes_of s g) e)
    where
      go : (xs : Items) → decode s ≡ ok xs [] → Decoded s xs [] → Text xs
      go none e d = absurd (n (sym (ap length d.same)))
      go (more x xs) e d =
          let l = all-length (ascii ",\n") (more x xs) d.valid (omega arith) in
          let k = ap length d.same in
          let a : several [] ◌∷◌ (print_one_of 4 17) ended s ≡ ok (item_texts (more x xs)) []
          = several_as none more (item most_levels) print_item item_texts (print_one_of 4 17) refl (λ z zs. refl) (λ t. refl) ended s (more x xs) [] (elements_of s e) in
          record {
            short = simp length-append (omega (arith, d.short));
            is = ap (λ (t : List ℕ). t ++ 0x0a ∷ []) (sym (all-joined 0x0a (more x xs)));
            read = mapped_is (joined 0x0a true) a refl;
          }

  module _ {b b₁ b₂ : List ℕ} {r : ℕ} {part : Printed} (t : PrintTold s 0 b b₁ 0 part (mapped (joined 0x0a true) (print_all_of 4 17 (until_by Ended 0) (drop 0 s)))) (p : Prints b₁ b₂ part.pos (0x0a ∷ []) r) where
    whole : (xs : Items) → decode s ≡ ok xs [] → Prints b b₂ 0 (print_text xs) r
    whole xs e = let k = text_of xs e in prints_as k.is (prints-more (t.done (joined 0x0a true (item_texts xs)) [] k.read).prints p)

    pub text-all : PrintedAll s b b₂ r
    text-all =
        record {
          same = p.same ∙ t.same;
          size = λ xs e. omega (arith, (whole xs e).next, (text_of xs e).short);
          is = λ xs e. (whole xs e).is;
        }
