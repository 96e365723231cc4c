-- Leaves by their tokens: what the code knows at each return, and that this is what the definitions say.
-- Assumes nothing.
use mathlib.Core.Path.{◌≡◌, refl, sym, ap, ◌∙◌}
use mathlib.Core.List.{List, ◌∷◌}
use mathlib.Core.Bool.{Bool, true, false, not}
use Prim.Native.Nat.{ℕ, ◌+◌, ◌-◌, ◌*◌, ◌≤◌, ◌<◌}
use native.Mathlib.Omega.{arith}
use lib.ListN.{length, take, drop, get_or, length-drop}
use borrow.Author.Tests.{not-false}
use Rattle.cbor.specs.Refusals.{Result, ok, refuse, bind}
use Rattle.cbor.specs.Widths.{Width, limit, shortest}
use Rattle.cbor.specs.Items.{unsigned, negative, byte_string, text_string, Item, int, string, chunked, array, map, tag, simple, levels}
use Rattle.cbor.specs.Heads.{Major, integers, simples, major_number, initial, head}
use Rattle.cbor.specs.Encode.{encode}
use Rattle.cbor.specs.Flags.{sign_of}
use Rattle.cbor.specs.Utf8.{is_in}
use Rattle.memory.specs.Buffer.{over_if_fits}
use Rattle.memory.proofs.Buffer.{take-written}
use Rattle.notation.specs.Classes.{Class, class_number, class_rows, class_in, class_of, is, is_word}
use Rattle.notation.specs.Scanning.{run, whether}
use Rattle.notation.specs.Numbers.{number}
use Rattle.notation.specs.Words.{same, simple_token, worded, word}
use Rattle.notation.specs.Tokens.{bracket, brace, tagging, embedding, leaf, literal, chunking, opens, square, curly, round, angle, whole, Token, begins, closes, a_comma, a_colon}
use Rattle.notation.specs.Cutting.{cut_by, cut}
use Rattle.notation.specs.Reading.{marked}
use Rattle.notation_theorems.proofs.Locality.{cut_below}
use Rattle.scanning.specs.ScanAnswers.{Peeked}
use Rattle.scanning.proofs.Marked.{at_byte}
use Rattle.scanning.proofs.ScanCode.{peeked_yes}
use Rattle.head.specs.HeadAnswers.{head_bytes}
use Rattle.head.proofs.HeadCode.{head_bytes_lem}
use Rattle.token.specs.TokenAnswers.{width_number, item_code, open_code, kind_code, begin_code, shape_code, code_of, item_mark, begin_mark, mark_of, item_number, begin_number, number_of, Seen, Shown, Says}
use Rattle.token.specs.declared.Token.{Token as Cut}
use Rattle.numbers.specs.NumberAnswers.{DigitAt}
use Rattle.encoding.specs.ReadAnswers.{held_of, no_bytes, Tells, info_by, major_by, initial_by, HeadSize}
use Rattle.encoding.proofs.ReadTokens.{LeafFine, Led, cut_led}
use Rattle.encoding.proofs.ReadSmall.{head-some}
use Rattle.encoding.proofs.ReadWriting.{info_width}
use Rattle.encoding.proofs.Wrote.{wrote-written}
use Rattle.decimals.specs.DigitParts.{DigitThere}
use Rattle.plain_leaf.specs.LeafParts.{Four, NumberAt}
use Rattle.leaf_answer.specs.LeafAnswers.{LeafTold}
use Rattle.leaf_reader.specs.TokenParts.{TokenTold, SimpleAt}
use Rattle.leaf_answer.specs.declared.LeafRead.{LeafRead as LeafS}
use Rattle.leaf_answer.specs.declared.Found.TheVariants.{Leaf, Nothing}
use Rattle.leaf_answer.proofs.LeafCode.{leaf-none, leaf-made, leaf-whole}
use Rattle.plain_leaf.proofs.WordCode.{spelled}

-- A LEAF IS ITS HEAD

int-head : (m : Major) (w : Width) (n : ℕ) → n ≤ limit w → head_bytes (major_number m * 32 + info_by (width_number w) n) n ≡ head m w n
unfolding initial
int-head m w n h = rw (info_width w n h) (sym (head_bytes_lem m w n h))

simple-head : (n : ℕ) → n ≤ limit (shortest n) → head_bytes (7 * 32 + info_by 0 n) n ≡ head simples (shortest n) n
unfolding info_by initial major_number
simple-head n h = sym (head_bytes_lem simples (shortest n) n h)

record FineLeaf (x : Item) : Type 0 where
  code : item_code x ≤ 3
  flat : levels x ≡ 0
  bytes : head_bytes (major_by (item_code x) * 32 + info_by (item_mark x) (item_number x)) (item_number x) ≡ encode x
  held : held_of x ≡ no_bytes

leaf-fine : (x : Item) → LeafFine x → FineLeaf x
unfolding item_code item_mark item_number major_by major_number encode held_of levels
leaf-fine (int unsigned w n) f = record { code = omega arith; flat = refl; bytes = int-head (integers unsigned) w n f; held = refl }
leaf-fine (int negative w n) f = record { code = omega arith; flat = refl; bytes = int-head (integers negative) w n f; held = refl }
leaf-fine (simple n) f = record { code = omega arith; flat = refl; bytes = simple-head n f; held = refl }
leaf-fine (string k w b) f = absurd f
leaf-fine (chunked k cs) f = absurd f
leaf-fine (array z xs) f = absurd f
leaf-fine (map z ps) f = absurd f
leaf-fine (tag w n x) f = absurd f

-- a token by its code
record IsLeaf (tok : Token) : Type 0 where
  item : Item
  is : tok ≡ begins (leaf item)
  fine : LeafFine item

code-leaf : (c : Class) (n : ℕ) (tok : Token) (k : ℕ) → Led c n tok k → code_of tok ≤ 3 → IsLeaf tok
unfolding code_of begin_code kind_code open_code shape_code
code-leaf c n (begins (leaf x)) k f l = record { item = x; is = refl; fine = f }
code-leaf c n (begins (literal byte_string z b)) k f l = absurd (omega arith)
code-leaf c n (begins (literal text_string z b)) k f l = absurd (omega arith)
code-leaf c n (begins chunking) k f l = absurd (omega arith)
code-leaf c n (begins (opens (bracket i))) k f l = absurd (omega arith)
code-leaf c n (begins (opens (brace i))) k f l = absurd (omega arith)
code-leaf c n (begins (opens (tagging w m))) k f l = absurd (omega arith)
code-leaf c n (begins (opens embedding)) k f l = absurd (omega arith)
code-leaf c n (closes square i) k f l = absurd (omega arith)
code-leaf c n (closes curly i) k f l = absurd (omega arith)
code-leaf c n (closes round i) k f l = absurd (omega arith)
code-leaf c n (closes angle i) k f l = absurd (omega arith)
code-leaf c n (closes whole i) k f l = absurd (omega arith)
code-leaf c n a_comma k f l = absurd (omega arith)
code-leaf c n a_colon k f l = absurd (omega arith)

-- WRITING IT

module _ {t : Cut} {b : List ℕ} {place pos : ℕ} where
  pub token-none : {q : LeafS} → q.found ≡ Nothing → TokenTold t b b place pos q
  token-none e = record { is = λ s h x. leaf-none e }

  module _ {b' : List ℕ} {first size : ℕ} {q : LeafS} (l : 1 ≤ t.kind) (m : t.kind ≤ 3) (e : first ≡ initial_by t) (w : b' ≡ over_if_fits b pos (head_bytes first t.argument)) (z : HeadSize first size)
      (f : q ≡ record { found = Leaf; next = t.next; size = size; binary = false; length = 0; number = 0 }) where
    cut-made : (s : List ℕ) → place < length s → (tok : Token) (r : List ℕ) → cut (drop place (marked s)) ≡ ok tok r → Seen s t tok r → LeafTold s b b' place pos q
    unfolding code_of begin_code mark_of begin_mark number_of begin_number initial_by Tells
    cut-made s h tok r c x =
        let c' = ap cut (sym (at_byte s place h)) ∙ c in
        let i = code-leaf (class_of (get_or s place 0)) (length (drop (place + 1) (marked s))) tok (length r) (cut_led (get_or s place 0) (drop (place + 1) (marked s)) r tok c') (omega (arith, x.code)) in
        let v = i.item in
        let y = leaf-fine v i.fine in
        let ec : t.kind ≡ item_code v = x.code ∙ ap code_of i.is in
        let em : t.indicator ≡ item_mark v = x.indicator ∙ ap mark_of i.is in
        let en : t.argument ≡ item_number v = x.number ∙ ap number_of i.is in
        let hs : head_bytes first t.argument ≡ encode v = ap (λ (k : ℕ). head_bytes k t.argument) e ∙ (λ j. head_bytes (major_by (ec j) * 32 + info_by (em j) (en j)) (en j)) ∙ y.bytes in
        let n = x.next in
        let u : length r < length (drop place (marked s)) = rw c at (cut_below (drop place (marked s))) in
        let g : place < t.next = omega (arith, u, ap length n.drops, length-drop place (marked s), length-drop t.next (marked s)) in
        leaf-made f
        (record {
          item = v;
          whole = leaf-whole y.flat (record { is = c ∙ (λ j. ok (i.is j) (sym n.drops j)); inside = n.inside; ahead = g });
          sized = z.is t.argument ∙ ap length hs;
          some = omega (arith, z.is t.argument, head-some first t.argument);
          short = omega (arith, z.most);
          tells = rw y.held;
          wrote = rw hs at (wrote-written w);
        })
        (ap (take pos) w ∙ take-written b pos (head_bytes first t.argument) pos (omega arith))

    pub token-made : TokenTold t b b' place pos q
    unfolding Shown
    token-made = record { is = λ s h x. go s h (cut (drop place (marked s))) refl x.shown }
      where
        go : (s : List ℕ) → place < length s → (R : Result Token) → cut (drop place (marked s)) ≡ R → Shown s t R → LeafTold s b b' place pos q
        go s h (ok tok r) c x = cut-made s h tok r c x
        go s h (refuse k p) c x = absurd (omega (arith, x.code))

-- INTEGERS

pub integer-told : {s b b' : List ℕ} {place at pos : ℕ} {minus : Bool} {t : Cut} {q : LeafS} → place < length s → NumberAt s place at minus → Says s place t (number (sign_of minus) (get_or s at 0) (drop (at + 1) (marked s))) → TokenTold t b b' place pos q
    → LeafTold s b b' place pos q
integer-told {s} h x y z = z.is s h (rw x.is y)

pub digit-there : {s : List ℕ} {at : ℕ} {t : Bool} → DigitThere s at t → not t ≡ false → DigitAt s at
digit-there {t = t} d f = d.is (not-false t f)

-- SIMPLE VALUES

cut-simple : (r : List ℕ) → cut (0x73 ∷ 0x69 ∷ 0x6d ∷ 0x70 ∷ 0x6c ∷ 0x65 ∷ 0x28 ∷ r) ≡ simple_token (0x28 ∷ r)
unfolding cut cut_by word run whether bind worded same is_word is class_number class_of class_in class_rows is_in
cut-simple r = refl

module _ {s : List ℕ} {at : ℕ} where
  pub simple-yes : {w : ℕ} {t u v : Bool} → 7 ≤ length s - at → Four s at w → w ≡ 0x7369_6d70 → Peeked s (at + 4) 0x6c t → t ≡ true → Peeked s (at + 5) 0x65 u → u ≡ true → Peeked s (at + 6) 0x28 v → SimpleAt s at v
  simple-yes l f e p g q h x =
      let d = spelled (omega arith) f 0x73 0x69 0x6d 0x70 (omega arith) (omega arith) (omega arith) (omega arith) e in
      let z₁ : at + 4 + 1 ≡ at + 5 = omega arith in
      let z₂ : at + 5 + 1 ≡ at + 6 = omega arith in
      record {
        is = λ k. ap cut (d ∙ rw (peeked_yes p g, z₁, peeked_yes q h, z₂, peeked_yes x k)) ∙ (cut-simple (drop (at + 6 + 1) (marked s)) ∙ ap simple_token (sym (peeked_yes x k)));
        inside = λ k. omega (arith, x.inside k);
      }

pub simple-inside : {s : List ℕ} {at : ℕ} {t : Bool} → SimpleAt s at t → t ≡ true → at + 6 ≤ length s
simple-inside x e = x.inside e

pub simple-told : {s b b' : List ℕ} {place pos : ℕ} {v : Bool} {t : Cut} {q : LeafS} → place < length s → SimpleAt s place v → v ≡ true → Says s place t (simple_token (drop (place + 6) (marked s))) → TokenTold t b b' place pos q → LeafTold s b b' place pos q
simple-told {s} h x e y z = z.is s h (rw (x.is e) y)
