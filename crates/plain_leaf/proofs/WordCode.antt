-- The words that are simple values: what the code knows at each return, and that this is what the definitions say.
-- Assumes nothing.
use mathlib.Core.Path.{◌≡◌, refl, sym, ap, ◌∙◌}
use mathlib.Core.List.{List, [], ◌∷◌, ◌++◌}
use mathlib.Core.Bool.{Bool, true, false}
use Prim.Native.Nat.{ℕ, ◌+◌, ◌-◌, ◌*◌, ◌≤◌, ◌<◌}
use native.Mathlib.Omega.{arith}
use lib.Dec.{eqb}
use lib.ListN.{length, drop, get_or}
use borrow.Author.Tests.{ne_eqb}
use Rattle.cbor.specs.Refusals.{bind}
use Rattle.cbor.specs.Widths.{limit}
use Rattle.cbor.specs.Items.{simple, levels}
use Rattle.cbor.specs.Heads.{simples, major_number}
use Rattle.cbor.specs.Encode.{encode}
use Rattle.cbor.specs.Utf8.{is_in}
use Rattle.memory.specs.Buffer.{over_if_fits}
use Rattle.notation.specs.Classes.{letter, class_number, class_rows, class_in, class_of, is, is_word}
use Rattle.notation.specs.Words.{same, value, worded, word}
use Rattle.notation.specs.Cutting.{cut_by, cut}
use Rattle.notation.specs.Reading.{marked}
use Rattle.notation_theorems.proofs.PrintNumbers.{Each, run-all, whether-no}
use Rattle.scanning.specs.ScanAnswers.{Peeked}
use Rattle.scanning.proofs.ClassCode.{word_below}
use Rattle.scanning.proofs.Marked.{length_marked, at_byte, at-end}
use Rattle.scanning.proofs.ScanCode.{peeked_yes}
use Rattle.encoding.specs.ReadAnswers.{held_of, Tells}
use Rattle.leaf_answer.specs.LeafAnswers.{LeafTold}
use Rattle.leaf_head.specs.HeadParts.{short_head, HeadMade}
use Rattle.plain_leaf.specs.LeafParts.{Four, NoWord, EndsWord, WordEnds, Spells, KnownWord}
use Rattle.plain_leaf.specs.declared.word.SimpleWord.{SimpleWord}
use Rattle.std.specs.Prelude.{Some, ◌⊎◌}
use Rattle.std.proofs.Common.{inl, inr}
use Rattle.std.proofs.lemmas.Option.{same_Some}
use Rattle.leaf_answer.specs.declared.LeafRead.{LeafRead as LeafS}
use Rattle.leaf_answer.specs.declared.Found.TheVariants.{Leaf}
use Rattle.leaf_answer.proofs.LeafCode.{leaf-made, leaf-whole}
use Rattle.leaf_head.proofs.HeadsCode.{head-single, head-is}

-- THE BYTES of a text from a place on

drop-four : {s : List ℕ} {at w : ℕ} (a b c d : ℕ) → a < 256 → b < 256 → c < 256 → d < 256 → at + 4 ≤ length s → Four s at w → w ≡ a * 0x100_0000 + b * 0x1_0000 + c * 0x100 + d
    → drop at (marked s) ≡ a ∷ b ∷ c ∷ d ∷ drop (at + 4) (marked s)
drop-four {s} {at} {w} a b c d la lb lc ld h f e =
    let f₁ = f.first in
    let f₂ = f.second in
    let f₃ = f.third in
    let f₄ = f.fourth in
    let g = sym f.is ∙ e in
    let ea : get_or s at 0 ≡ a = omega arith in
    let eb : get_or s (at + 1) 0 ≡ b = omega arith in
    let ec : get_or s (at + 2) 0 ≡ c = omega arith in
    let ed : get_or s (at + 3) 0 ≡ d = omega arith in
    one at (at + 1) refl (omega arith) ea
    (one (at + 1) (at + 2) (omega arith) (omega arith) eb (one (at + 2) (at + 3) (omega arith) (omega arith) ec (one (at + 3) (at + 4) (omega arith) (omega arith) ed refl)))
  where
    one : (i k : ℕ) → i + 1 ≡ k → i < length s → {x : ℕ} → get_or s i 0 ≡ x → {r : List ℕ} → drop k (marked s) ≡ r → drop i (marked s) ≡ x ∷ r
    one i k z l p q = at_byte s i l ∙ (rw (p, z, q))

-- A WORD, and what it is cut as
word_cut : (b : ℕ) (w : List ℕ) (c : ℕ) (r : List ℕ) → class_of b ≡ letter → Each is_word w → NoWord c → cut (b ∷ (w ++ c ∷ r)) ≡ worded (b ∷ w) (c ∷ r)
unfolding cut cut_by word bind
word_cut b w c r e h n = rw (e, cut) (rw (run-all is_word w (c ∷ r) h n.word) (rw (whether-no 0x27 (c ∷ r) n.quote)))

word_at : {s : List ℕ} {at end n : ℕ} (b : ℕ) (w : List ℕ) → class_of b ≡ letter → Each is_word w → ((r : List ℕ) → worded (b ∷ w) r ≡ value n r) → drop at (marked s) ≡ b ∷ (w ++ drop end (marked s))
    → at < end → end ≤ length s → n ≤ 23 → Spells s at end n
unfolding value
word_at b w e h v d l i k = record { is = λ c r z m. rw (d, z) (word_cut b w c r e h m ∙ v (c ∷ r)); inside = i; ahead = l; small = k }

-- WORDS

known : {s : List ℕ} {at end n : ℕ} → Spells s at end n → KnownWord s at (Some (record { end = end; value = n }))
known x = record { is = λ w u. rw (← same_Some _ w u) x }

module _ {s : List ℕ} {at w : ℕ} (l : 4 ≤ length s - at) (f : Four s at w) where
  pub spelled : (a b c d : ℕ) → a < 256 → b < 256 → c < 256 → d < 256 → w ≡ a * 0x100_0000 + b * 0x1_0000 + c * 0x100 + d → drop at (marked s) ≡ a ∷ b ∷ c ∷ d ∷ drop (at + 4) (marked s)
  spelled a b c d la lb lc ld e = drop-four a b c d la lb lc ld (omega arith) f e

  pub word_true : w ≡ 0x7472_7565 → KnownWord s at (Some (record { end = at + 4; value = 21 }))
  unfolding worded same is_word is class_number class_of class_in class_rows is_in
  word_true e =
      let d = spelled 0x74 0x72 0x75 0x65 (omega arith) (omega arith) (omega arith) (omega arith) e in
      known (word_at 0x74 (0x72 ∷ 0x75 ∷ 0x65 ∷ []) refl (refl, (refl, (refl, tt))) (λ r. refl) d (omega arith) (omega arith) (omega arith))

  pub word_null : w ≡ 0x6e75_6c6c → KnownWord s at (Some (record { end = at + 4; value = 22 }))
  unfolding worded same is_word is class_number class_of class_in class_rows is_in
  word_null e =
      let d = spelled 0x6e 0x75 0x6c 0x6c (omega arith) (omega arith) (omega arith) (omega arith) e in
      known (word_at 0x6e (0x75 ∷ 0x6c ∷ 0x6c ∷ []) refl (refl, (refl, (refl, tt))) (λ r. refl) d (omega arith) (omega arith) (omega arith))

  pub word_false : {t : Bool} → w ≡ 0x6661_6c73 → Peeked s (at + 4) 0x65 t → t ≡ true → KnownWord s at (Some (record { end = at + 5; value = 20 }))
  unfolding worded same is_word is class_number class_of class_in class_rows is_in
  word_false e p g =
      let d = spelled 0x66 0x61 0x6c 0x73 (omega arith) (omega arith) (omega arith) (omega arith) e in
      let q : at + 4 + 1 ≡ at + 5 = omega arith in
      let h : drop (at + 4) (marked s) ≡ 0x65 ∷ drop (at + 5) (marked s) = rw q at (peeked_yes p g) in
      known (word_at 0x66 (0x61 ∷ 0x6c ∷ 0x73 ∷ 0x65 ∷ []) refl (refl, (refl, (refl, (refl, tt)))) (λ r. refl) (d ∙ rw h) (omega arith) (omega (arith, p.inside g)) (omega arith))

pub word_undefined : {s : List ℕ} {at v w : ℕ} {t : Bool} → 9 ≤ length s - at → Four s at v → v ≡ 0x756e_6465 → Four s (at + 4) w → w ≡ 0x6669_6e65 → Peeked s (at + 8) 0x64 t → t ≡ true
    → KnownWord s at (Some (record { end = at + 9; value = 23 }))
unfolding worded same is_word is class_number class_of class_in class_rows is_in
word_undefined {s} {at} l f e g h p k =
    let d = spelled (omega arith) f 0x75 0x6e 0x64 0x65 (omega arith) (omega arith) (omega arith) (omega arith) e in
    let d' = spelled (omega arith) g 0x66 0x69 0x6e 0x65 (omega arith) (omega arith) (omega arith) (omega arith) h in
    let z₁ : at + 4 + 4 ≡ at + 8 = omega arith in
    let z₂ : at + 8 + 1 ≡ at + 9 = omega arith in
    let d'' = peeked_yes p k in
    known
    (word_at 0x75 (0x6e ∷ 0x64 ∷ 0x65 ∷ 0x66 ∷ 0x69 ∷ 0x6e ∷ 0x65 ∷ 0x64 ∷ []) refl (refl, (refl, (refl, (refl, (refl, (refl, (refl, (refl, tt)))))))) (λ r. refl) (d ∙ rw (d', z₁, d'', z₂)) (omega arith) (omega (arith, p.inside k)) (omega arith))

-- WHERE A WORD ENDS

module _ {b : ℕ} where
  pub ends_low : b < 0x30 → (b ≡ 0x27 → ⊥) → EndsWord b true
  ends_low h n = record { is = λ e. record { word = sym (word_below h); quote = ne_eqb b 0x27 n } }

  ends_as : (c : ℕ) → b ≡ c → is_word c ≡ false → eqb c 0x27 ≡ false → EndsWord b true
  ends_as c e f g = record { is = λ t. record { word = rw e f; quote = rw e g } }

  pub ends_sign : (b ≡ 0x3a) ⊎ ((b ≡ 0x3e) ⊎ ((b ≡ 0x5d) ⊎ (b ≡ 0x7d))) → EndsWord b true
  unfolding is_word is class_number class_of class_in class_rows is_in
  ends_sign (inl e) = ends_as 0x3a e refl refl
  ends_sign (inr (inl e)) = ends_as 0x3e e refl refl
  ends_sign (inr (inr (inl e))) = ends_as 0x5d e refl refl
  ends_sign (inr (inr (inr e))) = ends_as 0x7d e refl refl

pub ends-text : {s : List ℕ} {at : ℕ} → at ≤ length s → length s ≤ at → WordEnds s at true
unfolding is_word is class_number class_of class_in class_rows is_in
ends-text {s} {at} h l =
    let e : at ≡ length s = omega arith in
    record { next = 256; rest = []; left = at-end s at e; is = λ t. record { word = refl; quote = refl } }

pub ends_at : {s : List ℕ} {at : ℕ} {t : Bool} → at < length s → EndsWord (get_or s at 0) t → WordEnds s at t
ends_at {s} {at} l x = record { next = get_or s at 0; rest = drop (at + 1) (marked s); left = at_byte s at l; is = x.is }

-- ANSWERS

module _ {s : List ℕ} {at : ℕ} {w : SimpleWord} (x : KnownWord s at (Some w)) where
  word_spells : Spells s at w.end w.value
  word_spells = x.is w refl

  pub word-leaf : {t : Bool} {b b' : List ℕ} {pos : ℕ} {q : LeafS} → WordEnds s w.end t → t ≡ true → b' ≡ over_if_fits b pos ((0xe0 + w.value) ∷ [])
      → q ≡ record { found = Leaf; next = w.end; size = 1; binary = false; length = 0; number = 0 } → LeafTold s b b' at pos q
  unfolding levels encode Tells held_of limit major_number
  word-leaf {t} {b} {b'} {pos} y g e r =
      let n = w.value in
      let p = word_spells in
      let m : HeadMade b b' pos 7 n 1 = head-single p.small e in
      let hs : short_head 7 n ≡ encode (simple n) = head-is simples n (omega (arith, p.small)) in
      leaf-made r
      (record {
        item = simple n;
        whole = leaf-whole refl (record { is = p.is y.next y.rest y.left (y.is g); inside = omega (arith, length_marked s, p.inside); ahead = p.ahead });
        sized = m.sized ∙ ap length hs;
        some = omega arith;
        short = omega (arith, p.ahead);
        tells = refl;
        wrote = rw hs at m.wrote;
      })
      m.kept
