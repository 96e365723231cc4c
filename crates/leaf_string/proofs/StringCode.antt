-- Short strings.
-- Assumes nothing.
use mathlib.Core.Path.{◌≡◌, refl, sym, ap, ◌∙◌}
use mathlib.Core.Bool.{true, false}
use mathlib.Core.List.{List, [], ◌∷◌, ◌++◌}
use Prim.Native.Nat.{ℕ, ◌+◌, ◌-◌, ◌*◌, ◌/◌, ◌%◌, ◌^◌, ◌≤◌, ◌<◌, min}
use native.Mathlib.Omega.{arith}
use lib.ListN.{length, take, drop, get_or, length-drop, take-append-drop}
use lib.Seq.{take_all, take-take, take-add, get_or-take, get_or-drop, drop-drop}
use borrow.Author.Count.{below_more}
use borrow.Author.Tests.{le-leb, eq-eqb}
use Rattle.cbor.specs.Ascii.{ascii}
use Rattle.cbor.specs.Refusals.{Result, ok, bind}
use Rattle.cbor.specs.Widths.{w0, argument_bytes, value_from}
use Rattle.cbor.specs.Items.{Kind, byte_string, text_string, string, definite}
use Rattle.cbor.specs.Heads.{Major, strings, major_of, is_float, is_allowed, started, taking}
use Rattle.cbor.specs.Utf8.{is_utf8, first_bad}
use Rattle.cbor.specs.Valid.{is_text}
use Rattle.cbor.specs.Decode.{content_at, item_by, item}
use Rattle.cbor.proofs.DecodeEncode.{enter_at}
use Rattle.memory.specs.Buffer.{copied}
use Rattle.memory.proofs.Buffer.{copied-yes, length_part}
use Rattle.notation.specs.Printing.{escape_of, hex_of, indicator_of, print_string, print_item}
use Rattle.utf8.proofs.Runs.{ascii-good}
use Rattle.text_output.specs.PrintParts.{Prints, content_of}
use Rattle.plain_bytes.specs.Runs.{AllPlain}
use Rattle.hex_output.proofs.HexCode.{hex-append}
use Rattle.hex_output.proofs.HexCode.{hex-length}
use Rattle.plain_bytes.proofs.PlainRuns.{content_plain}
use Rattle.leaf_kind.specs.LeafKinds.{KindOf}
use Rattle.leaf_kind.specs.declared.Kind.TheVariants.{Bytes, Text}
use Rattle.leaf_kind.proofs.KindCode.{bytes-is, text-is}
use Rattle.leaf_written.specs.Laying.{Laid}
use Rattle.leaf_written.specs.LeafTexts.{Room, LeafTold}
use Rattle.std.specs.declared.option.Option.TheVariants.{Some}
use Rattle.leaf_written.proofs.LayCode.{laid-written, laid-prints, laid_more, laid_as, laid-front}
use Rattle.leaf_written.proofs.LeafCode.{low-information, indicator-none, shortest_0, item_plain, told-leaf}
use Rattle.leaf_string.specs.StringParts.{Stop, Stops, quoted_hex}

-- BLOCKS

pub stops-start : {s : List ℕ} {from : ℕ} → Stops s from 0 32
stops-start = record { is = λ j a b. absurd (omega arith); most = omega arith }

pub stops-on : {s : List ℕ} {from i r : ℕ} → Stops s from i r → {x k : ℕ} → Stop (get_or s (from + i) 0) i x → k ≡ min r x → Stops s from (i + 1) k
stops-on {s} {from} {i} {r} inv {x} {k} w e =
    record {
      is = λ j a. below_more (λ j. j < k → (get_or s (from + j) 0 < 0x80) × (length (escape_of (get_or s (from + j) 0)) ≡ 1)) i (λ j a b. inv.is j a (omega arith)) (λ b. w.is (omega arith)) j a;
      most = omega (arith, inv.most);
    }

pub stops_end : {s : List ℕ} {from i r : ℕ} → Stops s from i r → 32 ≤ i → Stops s from 32 r
stops_end inv h = record { is = λ j a b. inv.is j (omega arith) b; most = inv.most }

-- STRINGS

content-good : (k : Kind) (n left : ℕ) (x : List ℕ) → n ≤ length x → is_text k (take n x) ≡ true → content_at k n left x ≡ ok (take n x) (drop n x)
unfolding content_at taking bind
content-good k n left x h t = rw (le-leb n (length x) h, content_at, taking, bind) (rw t)

module _ (s : List ℕ) (at : ℕ) (h : at + 33 ≤ length s) where
  length-content : (n : ℕ) → n ≤ 32 → length (take n (drop (at + 1) s)) ≡ n
  length-content n l = length_part s (at + 1) n (omega arith)

  string-item : (k : Kind) → major_of (get_or s at 0 / 32) ≡ strings k → get_or s at 0 % 32 < 24 → is_text k (take (get_or s at 0 % 32) (drop (at + 1) s)) ≡ true
      → (d : ℕ) → item d (drop at s) ≡ ok (string k w0 (take (get_or s at 0 % 32) (drop (at + 1) s))) (drop (at + 1 + get_or s at 0 % 32) s)
  unfolding item_by is_float is_allowed argument_bytes started value_from bind
  string-item k m l t d =
      let n = get_or s at 0 % 32 in
      let z : at + 1 + 0 ≡ at + 1 = omega arith in
      let i : n ≤ length (drop (at + 1) s) = omega (arith, length-drop (at + 1) s) in
      item_plain s at w0 (omega arith) (low-information n l) (ap (λ (x : Major). is_float x w0) m) (ap (λ (x : Major). is_allowed x w0 n) m) d
      ∙ (λ j. item_by (enter_at d) (m j) (definite w0) n (length (drop at s)) (drop (z j) s))
      ∙ ap (λ (res : Result (List ℕ)). bind res (λ b r'. ok (string k w0 b) r')) (content-good k n (length (drop at s)) (drop (at + 1) s) i t) ∙ ap (λ (r : List ℕ). ok (string k w0 (take n (drop (at + 1) s))) r) (drop-drop n (at + 1) s)

-- the digits of a front
front_of_lem : (n k : ℕ) (x : List ℕ) → n ≤ k → take n x ++ drop n (take k x) ≡ take k x
front_of_lem n k x h = ap (λ (y : List ℕ). y ++ drop n (take k x)) (sym (take-take n k x h)) ∙ take-append-drop n (take k x)

hex-front : {b b' : List ℕ} {pos : ℕ} (n k : ℕ) (x : List ℕ) {r : ℕ} → n ≤ k → length (take n x) ≡ n → Laid b b' pos (hex_of (take k x)) r → Laid b b' pos (hex_of (take n x)) (pos + 2 * n)
hex-front {b} {b'} {pos} n k x h l y =
    let e = ap hex_of (sym (front_of_lem n k x h)) ∙ hex-append (take n x) (drop n (take k x)) in
    let z : pos + length (hex_of (take n x)) ≡ pos + 2 * n = omega (arith, hex-length (take n x)) in
    rw z at (laid-front (hex_of (take n x)) (hex_of (drop n (take k x))) (laid_as y e))

module _ (s : List ℕ) where
  -- the digits of a part
  part-laid : (k at to : ℕ) {b b₁ : List ℕ} {pos r : ℕ} → length b * 1 < 2 ^ 63 → pos + 2 * k ≤ length b → to ≡ at + k → to ≤ length s → Prints b b₁ pos (content_of false (take (to - at) (drop at s))) r
      → Laid b b₁ pos (hex_of (take k (drop at s))) (pos + 2 * k)
  unfolding content_of
  part-laid k at to {b} {b₁} {pos} {r} u l e t p =
      let z : to - at ≡ k = omega arith in
      let m = length_part s at k (omega arith) in
      let g = hex-length (take k (drop at s)) in
      let p' : Prints b b₁ pos (hex_of (take k (drop at s))) r = rw z at p in
      let q : r ≡ pos + 2 * k = omega (arith, p'.next) in
      rw q at (laid-prints u (omega arith) p')

  -- and behind them those of the next
  parts_laid : (j k from : ℕ) {b b₁ b₂ : List ℕ} {pos r r' : ℕ} → Laid b b₁ pos (hex_of (take j (drop from s))) r → Laid b₁ b₂ r (hex_of (take k (drop (from + j) s))) r' → Laid b b₂ pos (hex_of (take (j + k) (drop from s))) r'
  parts_laid j k from p q =
      let x = drop from s in
      laid_as (laid_more p q)
      (ap (λ (y : List ℕ). hex_of (take j x) ++ hex_of (take k y)) (sym (drop-drop j from s)) ∙ sym (hex-append (take j x) (take k (drop j x))) ∙ ap hex_of (sym (take-add j k x)))

module _ (s : List ℕ) (from : ℕ) (h : from + 32 ≤ length s) {b b₁ : List ℕ} {pos r : ℕ} (i : pos + 64 ≤ length b) (u : length b * 1 < 2 ^ 63) (p : Prints b b₁ pos (content_of false (take (from + 8 - from) (drop from s))) r) where
  first-laid : Laid b b₁ pos (hex_of (take 8 (drop from s))) (pos + 16)
  first-laid = part-laid s 8 from (from + 8) u (omega arith) refl (omega arith) p

  pub quarter_told : {n : ℕ} → n ≤ 8 → Laid b b₁ pos (hex_of (take n (drop from s))) (pos + 2 * n)
  quarter_told {n} l = hex-front n 8 (drop from s) l (length_part s from n (omega arith)) first-laid

  module _ {b₂ : List ℕ} {r₂ : ℕ} (q : Prints b₁ b₂ (pos + 16) (content_of false (take (from + 16 - (from + 8)) (drop (from + 8) s))) r₂) where
    second-laid : Laid b b₂ pos (hex_of (take 16 (drop from s))) (pos + 16 + 16)
    second-laid = let v = p.same in parts_laid s 8 8 from first-laid (part-laid s 8 (from + 8) (from + 16) (omega arith) (omega arith) (omega arith) (omega arith) q)

    pub half_told : {n : ℕ} → n ≤ 16 → Laid b b₂ pos (hex_of (take n (drop from s))) (pos + 2 * n)
    half_told {n} l = hex-front n 16 (drop from s) l (length_part s from n (omega arith)) second-laid

    pub whole-told : {b₃ : List ℕ} {n r₃ : ℕ} → n ≤ 32 → Prints b₂ b₃ (pos + 32) (content_of false (take (from + 32 - (from + 16)) (drop (from + 16) s))) r₃ → Laid b b₃ pos (hex_of (take n (drop from s))) (pos + 2 * n)
    whole-told {b₃} {n} l t =
        let v = p.same in
        let w = q.same in
        let z : pos + 16 + 16 ≡ pos + 32 = omega arith in
        hex-front n 32 (drop from s) l (length_part s from n (omega arith))
        (parts_laid s 16 16 from (rw z at second-laid) (part-laid s 16 (from + 16) (from + 32) (omega arith) (omega arith) (omega arith) (omega arith) t))

pub ruleset digits_ways = (quarter_told, half_told, whole-told)

pub quoted-laid : (x : List ℕ) {b b₁ b₂ b₃ b₄ : List ℕ} {pos p q e o : ℕ} → Laid b b₁ pos (0x68 ∷ []) p → Laid b₁ b₂ p (0x27 ∷ []) q → Laid b₂ b₃ q (hex_of x) e → Laid b₃ b₄ e (0x27 ∷ []) o → Laid b b₄ pos (quoted_hex x) o
unfolding quoted_hex
quoted-laid x y z u v = laid_more y (laid_more z (laid_more u v))

module _ {s : List ℕ} {at : ℕ} {b b₁ : List ℕ} {pos q : ℕ} (rm : Room s at b pos) where
  pub bytes-told : KindOf (get_or s at 0) Bytes → Laid b b₁ pos (quoted_hex (take (get_or s at 0 % 32) (drop (at + 1) s))) q → LeafTold s at b b₁ pos (Some (record { end = at + 1 + get_or s at 0 % 32; pos = q }))
  unfolding print_item print_string is_text major_of quoted_hex
  bytes-told k x =
      let f = bytes-is k in
      let n = get_or s at 0 % 32 in
      let c = take n (drop (at + 1) s) in
      let l = length-content s at rm.block n (omega arith) in
      let i : indicator_of w0 (length c) ≡ [] = indicator-none w0 (length c) (shortest_0 (length c) (omega arith)) in
      told-leaf (string byte_string w0 c) (string-item s at rm.block byte_string (ap major_of f.0) f.1 refl) (omega (arith, rm.block))
      (laid_as x (ap (λ (t : List ℕ). ascii "h'" ++ (hex_of c ++ (0x27 ∷ t))) (sym i)))

  pub text-told : {b₂ b₃ : List ℕ} {p : ℕ} → KindOf (get_or s at 0) Text → {x : ℕ} → Stops s (at + 1) 32 x → get_or s at 0 % 32 ≤ x → Laid b b₁ pos (0x22 ∷ []) p → b₂ ≡ copied b₁ p (take (length s - (at + 1)) (drop (at + 1) s)) 32
      → Laid b₂ b₃ (p + get_or s at 0 % 32) (0x22 ∷ []) q → LeafTold s at b b₃ pos (Some (record { end = at + 1 + get_or s at 0 % 32; pos = q }))
  unfolding print_item print_string is_text is_utf8 major_of content_of
  text-told {b₂} {b₃} {p} k {x} st hx y g v =
      let f = text-is k in
      let n = get_or s at 0 % 32 in
      let t = drop (at + 1) s in
      let c = take n t in
      let l = length-content s at rm.block n (omega arith) in
      let tail : take (length s - (at + 1)) t ≡ t = take_all (length s - (at + 1)) t (omega (arith, length-drop (at + 1) s)) in
      let byte : (j : ℕ) → j < length c → (get_or c j 0 < 0x80) × (length (escape_of (get_or c j 0)) ≡ 1) = λ j a.
      let ge : get_or c j 0 ≡ get_or s (at + 1 + j) 0 = get_or-take n t j 0 (omega arith) ∙ get_or-drop (at + 1) s j 0 in
      let w = st.is j (omega arith) (omega arith) in
      rw ge w in
      let good = ascii-good c (λ j a. (byte j a).0) in
      let plain : AllPlain c = record { is = λ j a. (byte j a).1 } in
      let i : indicator_of w0 (length c) ≡ [] = indicator-none w0 (length c) (shortest_0 (length c) (omega arith)) in
      let whole = laid-written b₁ p (take 32 t) (omega (arith, y.next, y.same, rm.space, length-content s at rm.block 32 (omega arith)))
      (g ∙ ap (λ (u : List ℕ). copied b₁ p u 32) tail ∙ copied-yes b₁ p t 32 (omega (arith, length-drop (at + 1) s, rm.block))) in
      let z : p + length c ≡ p + n = omega arith in
      let mid : Laid b₁ b₂ p c (p + n) = rw z at (laid-front c (drop n (take 32 t)) (laid_as whole (sym (front_of_lem n 32 t (omega arith))))) in
      told-leaf (string text_string w0 c) (string-item s at rm.block text_string (ap major_of f.0) f.1 (eq-eqb (first_bad c) (length c) (sym good))) (omega (arith, rm.block))
      (laid_as (laid_more y (laid_more mid v)) (λ j. 0x22 ∷ (content_plain plain j ++ (0x22 ∷ sym i j))))
