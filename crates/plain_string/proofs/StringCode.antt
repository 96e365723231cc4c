-- Quoted strings with no escape: what the code knows at each return, and that this is what the definitions say.
-- Assumes nothing.
use mathlib.Core.Path.{◌≡◌, refl, sym, ap, ◌∙◌}
use mathlib.Core.List.{List, [], ◌∷◌, ◌++◌, append-nil, append_assoc}
use mathlib.Core.Bool.{Bool, true, false, ◌||◌}
use Prim.Native.Nat.{ℕ, zero, suc, ◌+◌, ◌-◌, ◌*◌, ◌/◌, ◌%◌, ◌≤◌, ◌<◌, min}
use native.Mathlib.Omega.{arith}
use lib.Dec.{leb, ltb, eqb}
use lib.ListN.{length, take, drop, get_or, length-append, length-drop, drop_of_length-le}
use lib.Seq.{length-take-le, take-append-le, take-take, take_all}
use borrow.Author.Tests.{le-leb, leb-true, leb-false, eq-eqb, ne_eqb}
use Rattle.cbor.specs.Refusals.{Result, ok, bind, no_token}
use Rattle.cbor.specs.Widths.{Width, limit, shortest}
use Rattle.cbor.specs.Items.{Kind, byte_string, definite, string}
use Rattle.cbor.specs.Heads.{strings, major_number, head}
use Rattle.cbor.specs.Encode.{encode_string, encode}
use Rattle.cbor.specs.Utf8.{◌to◌, is_in}
use Rattle.memory.specs.Buffer.{over, copied}
use Rattle.memory.proofs.Lists.{front}
use Rattle.memory.proofs.Buffer.{length_part, copied-yes, take-copied}
use Rattle.notation.specs.Classes.{blank, class_number, class_rows, class_in, class_of, is, is_word}
use Rattle.notation.specs.Scanning.{fault, run, whether}
use Rattle.notation.specs.Numbers.{worth, no_digit, is_digit}
use Rattle.notation.specs.Indicators.{absent, indicator, choose}
use Rattle.notation.specs.Quoted.{character, move_at, unquote}
use Rattle.notation.specs.Literals.{literal_token, quoted_token, quoted, is_body, body, stands_for, hex_content, contained, encoded_literal}
use Rattle.notation.specs.Words.{same, prefixed, word}
use Rattle.notation.specs.Tokens.{literal, begins}
use Rattle.notation.specs.Form.{literal_item, beginning, one_rule, obey}
use Rattle.notation.specs.Cutting.{cut_by, cut}
use Rattle.notation.specs.Reading.{marked}
use Rattle.cbor.proofs.Utf8Laws.{is_in_lem}
use Rattle.cbor.proofs.Tests.{clash}
use Rattle.notation_theorems.proofs.ScanningElements.{digit_cases}
use Rattle.scanning.specs.ScanAnswers.{Peeked}
use Rattle.scanning.specs.TextRuns.{Textual, TextRun}
use Rattle.scanning.proofs.Marked.{length_marked, tail_is, at_byte}
use Rattle.scanning.proofs.ScanCode.{peeked_yes, whether-no}
use Rattle.hex_pairs.specs.PairAnswers.{HexDigits, PairsPut}
use Rattle.encoding.specs.ReadAnswers.{held_of, Tells}
use Rattle.encoding.proofs.Wrote.{wrote-written, wrote-more}
use Rattle.encoding.specs.Cuts.{CutAt}
use Rattle.leaf_answer.specs.LeafAnswers.{Whole, LeafTold}
use Rattle.leaf_head.specs.HeadParts.{short_head, HeadMade}
use Rattle.plain_string.specs.StringParts.{TextPart, WrittenBehind, StringMade, quoted_kind, Quote, StringMajor, QuotedAt, HexPart, PairsBehind, HexMade, HexAt}
use Rattle.leaf_answer.specs.declared.LeafRead.{LeafRead as LeafS}
use Rattle.leaf_answer.specs.declared.Found.TheVariants.{Leaf}
use Rattle.leaf_answer.proofs.LeafCode.{leaf-made}
use Rattle.leaf_head.proofs.HeadsCode.{head-is, short-head, some-head}

-- WRITING

none : (l : List ℕ) → length l ≡ 0 → l ≡ []
none [] e = refl
none (x ∷ l) e = absurd (omega arith)

module _ {s b : List ℕ} {from n pos head : ℕ} (h : TextPart s from n) where
  pub behind-copied : {b' : List ℕ} → b' ≡ copied b (pos + head) (take (length s - from) (drop from s)) n → WrittenBehind b b' pos head (take n (drop from s))
  behind-copied {b'} e =
      let l : n ≤ length (drop from s) = simp length-drop (omega (arith, h.inside)) in
      let f : b' ≡ copied b (pos + head) (drop from s) n = e ∙ ap (λ (y : List ℕ). copied b (pos + head) y n) (tail_is s from) in
      record { wrote = wrote-written (f ∙ copied-yes b (pos + head) (drop from s) n l); kept = ap (take pos) f ∙ take-copied b (pos + head) (drop from s) n pos (omega arith) }

-- the buffer when a part of it, lent from a place on, is given back
abbrev pub back : List ℕ → ℕ → List ℕ → List ℕ
back b start m' = take start b ++ (m' ++ drop (length b - start) (drop start b))

-- a part that was lent from behind a head on, or from the end
module _ (b m m' : List ℕ) (pos head start : ℕ) (h : start ≡ min (pos + head) (length b)) (z : m ≡ take (length b - start) (drop start b)) (e : length m' ≡ length m) where
  lent_size : length m ≡ length b - start
  lent_size = ap length z ∙ length-take-le (length b - start) (drop start b) (omega (arith, length-drop start b))

  lent_rest : drop (length b - start) (drop start b) ≡ []
  lent_rest = let g : length (drop start b) ≤ length b - start = omega (arith, length-drop start b) in drop_of_length-le (drop start b) g

  pub lent_kept : take pos (back b start m') ≡ take pos b
  lent_kept = go (leb pos start) refl
    where
      q : length (take start b) ≡ start
      q = length-take-le start b (omega arith)

      go : (t : Bool) → leb pos start ≡ t → take pos (back b start m') ≡ take pos b
      go true f =
          let g = leb-true pos start f in
          let k : pos ≤ length (take start b) = omega (arith, q) in
          rw (take-append-le pos (take start b) (m' ++ drop (length b - start) (drop start b)) k, take-take pos start b g)
      go false f =
          let g = leb-false pos start f in
          let n : start ≡ length b = omega arith in
          let l : length m' ≡ 0 = omega (arith, lent_size) in
          ap (take pos) (rw (lent_rest, none m' l, append-nil) (take_all start b (omega arith)))

  pub lent_same : length (back b start m') ≡ length b
  lent_same =
      let r = drop (length b - start) (drop start b) in
      let c : length r ≡ 0 = ap length lent_rest in
      omega (arith, lent_size, length-take-le start b (omega arith), length-append (take start b) (m' ++ r), length-append m' r)

  pub lent_written : (ws : List ℕ) → (length ws ≤ length m → m' ≡ over m 0 ws) → WrittenBehind b (back b start m') pos head ws
  unfolding over
  lent_written ws f =
      let l = lent_size in
      let r = drop (length b - start) (drop start b) in
      record {
        wrote = record {
          same = lent_same;
          behind = drop (length ws) m ++ r;
          is = λ g.
              let n : 0 + length ws ≡ length ws = omega arith in
              let w : m' ≡ ws ++ drop (length ws) m = f (omega arith) ∙ ap (λ (i : ℕ). ws ++ drop i m) n in
              let p : start ≡ pos + head = omega arith in
              rw (w, append_assoc ws (drop (length ws) m) r, p);
        };
        kept = lent_kept;
      }

pub string-made : {b b₁ b₂ ws : List ℕ} {n pos major head : ℕ} → n ≡ length ws → n ≤ 0xffff_ffff → HeadMade b b₁ pos major n head → WrittenBehind b₁ b₂ pos head ws → StringMade b b₂ pos major ws (head + n)
string-made {ws = ws} {n = n} {pos = pos} {major = major} {head = head} l h m w =
    let e : short_head major n ≡ short_head major (length ws) = ap (short_head major) l in
    let z : head ≡ length (short_head major (length ws)) = m.sized ∙ ap length e in
    record {
      wrote = wrote-more (rw e at m.wrote) w.wrote (ap (λ (k : ℕ). pos + k) z);
      sized = omega (arith, z, l, length-append (short_head major (length ws)) ws);
      kept = w.kept ∙ m.kept;
      most = omega (arith, l);
    }

pub text-made : {s b b₁ b₂ : List ℕ} {from n pos major head : ℕ} → TextPart s from n → HeadMade b b₁ pos major n head → WrittenBehind b₁ b₂ pos head (take n (drop from s))
    → StringMade b b₂ pos major (take n (drop from s)) (head + n)
text-made {s} {from = from} {n = n} h m w = string-made (sym (length_part s from n h.inside)) h.most m w

pub pairs_lent : {s b m m' : List ℕ} {from n pos head start r : ℕ} → start ≡ min (pos + head) (length b) → m ≡ take (length b - start) (drop start b) → PairsPut s from n m m' 0 r
    → PairsBehind s from n b (back b start m') pos head
pairs_lent {b = b} {m = m} {m' = m'} {pos = pos} {head = head} {start = start} l z p =
    record { bytes = p.bytes; stand = p.stand; count = p.count; behind = lent_written b m m' pos head start l z p.put.same p.bytes (λ g. p.put.is (omega arith)) }

pub hex-made : {s b b₁ b₂ : List ℕ} {from n pos head : ℕ} → HexPart s from n → HeadMade b b₁ pos 2 n head → PairsBehind s from n b₁ b₂ pos head → HexMade s from n b b₂ pos (head + n)
hex-made x m p = record { bytes = p.bytes; stand = p.stand; count = p.count; made = string-made (sym p.count) x.most m p.behind }

-- A RUN of bytes that stand for themselves, up to where it ends

run-gives : (f : List ℕ → Result (List ℕ)) (P : ℕ → Type 0) → ((b : ℕ) (u : List ℕ) → P b → f (b ∷ u) ≡ bind (f u) (λ c r. ok (b ∷ c) r)) → {r : List ℕ} (s : List ℕ) (i n : ℕ)
    → i + n ≤ length s → ((j : ℕ) → i ≤ j → j < i + n → P (get_or s j 0)) → f (drop (i + n) (marked s)) ≡ ok [] r → f (drop i (marked s)) ≡ ok (take n (drop i s)) r
unfolding bind
run-gives f P step s i zero l p e = let z : i + 0 ≡ i = omega arith in rw z at e
run-gives f P step {r} s i (suc n) l p e =
    let b = get_or s i 0 in
    let h : i < length s = omega arith in
    let z : i + suc n ≡ i + 1 + n = omega arith in
    let k = run-gives f P step {r = r} s (i + 1) n (omega arith) (λ j a g. p j (omega arith) (omega arith)) (rw z at e) in
    rw (at_byte s i h, front s i h) (step b (drop (i + 1) (marked s)) (p i (omega arith) (omega arith)) ∙ rw k)

unquote-step : (q b : ℕ) (u : List ℕ) → Textual q 0x5c b → unquote q character (b ∷ u) ≡ bind (unquote q character u) (λ c r. ok (b ∷ c) r)
unfolding unquote move_at
unquote-step q b u t =
    let m : b ≤ 0xff = omega (arith, t.high) in
    rw (ne_eqb b q t.first, unquote, move_at) (rw (ne_eqb b 0x5c t.second) (rw (le-leb 0x20 b t.low, le-leb b 0xff m)))

run-closed : {s : List ℕ} {q at end : ℕ} → TextRun s q 0x5c at end → drop end (marked s) ≡ q ∷ drop (end + 1) (marked s) → unquote q character (drop at (marked s)) ≡ ok (take (end - at) (drop at s)) (drop (end + 1) (marked s))
unfolding unquote move_at
run-closed {s} {q} {at} {end} r d =
    let a = r.ahead in
    let z : at + (end - at) ≡ end = omega arith in
    run-gives (unquote q character) (Textual q 0x5c) (unquote-step q) s at (end - at) (omega (arith, r.inside)) (λ j g l. r.is j g (omega arith)) (rw (z, d) (rw (eq-eqb q q refl, unquote)))

-- TOKENS

unmarked : {s : List ℕ} {at : ℕ} {u : Bool} → Peeked s at 0x5f u → u ≡ false → indicator (drop at (marked s)) ≡ ok absent (drop at (marked s))
unfolding indicator bind
unmarked p e = rw (whether-no p e)

pub string-whole : {s c : List ℕ} {at next : ℕ} {k : Kind} {w : Width} → CutAt s at next (begins (literal k (definite w) c)) → Whole s at next (string k w c)
unfolding one_rule beginning obey literal_item
string-whole {c = c} {k = k} {w = w} x = record { begin = literal k (definite w) c; cut = x; gives = λ d p r. refl }

-- a string as short as can be
pub string-leaf : {s b b' c : List ℕ} {place next pos major size n : ℕ} {k : Kind} {binary : Bool} {q : LeafS} → CutAt s place next (begins (literal k (definite (shortest (length c))) c)) → place + length c < next
    → major ≡ major_number (strings k) → StringMade b b' pos major c size → ((w : Width) → Tells (held_of (string k w c)) binary n)
    → q ≡ record { found = Leaf; next = next; size = size; binary = binary; length = n; number = 0 } → LeafTold s b b' place pos q
unfolding encode encode_string limit
string-leaf {s} {b} {b'} {c} {place} {next} {pos} {major} {size} {n} {k} x l m h t r =
    let w = shortest (length c) in
    let hs : short_head major (length c) ++ c ≡ encode (string k w c) = rw m (ap (λ (u : List ℕ). u ++ c) (head-is (strings k) (length c) h.most)) in
    let z = length-append (short_head major (length c)) c in
    leaf-made r
    (record {
      item = string k w c;
      whole = string-whole x;
      sized = h.sized ∙ ap length hs;
      some = omega (arith, h.sized, z, some-head major (length c));
      short = omega (arith, h.sized, z, short-head major (length c));
      tells = t w;
      wrote = rw hs at h.wrote;
    })
    h.kept

-- QUOTED STRINGS

module _ {s : List ℕ} {place q end : ℕ} {t u : Bool} (x : QuotedAt s place q) (r : TextRun s q 0x5c (place + 1) end) (y : Peeked s end q t) (f : t ≡ true) (z : Peeked s (end + 1) 0x5f u) (g : u ≡ false) where
  quoted-cut : CutAt s place (end + 1) (begins (literal (quoted_kind q) (definite (shortest (length (take (end - (place + 1)) (drop (place + 1) s))))) (take (end - (place + 1)) (drop (place + 1) s))))
  unfolding quoted quoted_token literal_token choose bind
  quoted-cut =
      let a = r.ahead in
      record {
        is = ap cut (at_byte s place x.here ∙ ap (λ (b : ℕ). b ∷ drop (place + 1) (marked s)) x.is) ∙ (x.quote.cuts (drop (place + 1) (marked s)) ∙ (rw (run-closed r (peeked_yes y f)) (rw (unmarked z g))));
        inside = omega (arith, length_marked s, y.inside f);
        ahead = omega arith;
      }

  pub quoted-leaf : {b b' : List ℕ} {pos major size : ℕ} {v : LeafS} → StringMajor q major → StringMade b b' pos major (take (end - (place + 1)) (drop (place + 1) s)) size
      → v ≡ record { found = Leaf; next = end + 1; size = size; binary = eqb q 0x27; length = end - (place + 1); number = 0 } → LeafTold s b b' place pos v
  quoted-leaf m h e =
      let l : length (take (end - (place + 1)) (drop (place + 1) s)) ≡ end - (place + 1) = length_part s (place + 1) (end - (place + 1)) (omega (arith, r.ahead, r.inside)) in
      string-leaf quoted-cut (omega (arith, l, r.ahead)) m.is h (λ w. rw l at (x.quote.binary w (take (end - (place + 1)) (drop (place + 1) s)))) e

-- QUOTES

module _ {b : ℕ} where
  pub quote-text : b ≡ 0x22 → Quote b
  unfolding cut cut_by class_of class_in class_rows is_in quoted_kind Tells held_of
  quote-text e = rw e (record { cuts = λ r. refl; binary = λ w c. refl })

  pub quote-bytes : b ≡ 0x27 → Quote b
  unfolding cut cut_by class_of class_in class_rows is_in quoted_kind Tells held_of
  quote-bytes e = rw e (record { cuts = λ r. refl; binary = λ w c. (refl, refl) })

  pub major-text : b ≡ 0x22 → StringMajor b 3
  unfolding quoted_kind major_number
  major-text e = rw e (record { is = refl; most = omega arith })

  pub major-bytes : (b ≡ 0x22 → ⊥) → StringMajor b 2
  unfolding quoted_kind major_number
  major-bytes n = record { is = rw (ne_eqb b 0x22 n, quoted_kind); most = omega arith }

-- HEXADECIMAL STRINGS

digit_places : (b : ℕ) → is_digit 16 b ≡ true → (0x30 ≤ b) × ((b ≤ 0x66) × (b ≡ 0x5c → ⊥))
unfolding is_digit
digit_places b =
    digit_cases (λ d. ◌≡◌ {A = Bool} (elim d [ worth v ↦ ltb v 16 | no_digit ↦ false ]) true → (0x30 ≤ b) × ((b ≤ 0x66) × (b ≡ 0x5c → ⊥))) b
    (λ i e. let p = is_in_lem (0x30 to 0x39) b i in (omega (arith, p), (omega (arith, p), λ z. omega (arith, p))))
    (λ i e. let p = is_in_lem (0x61 to 0x66) b i in (omega (arith, p), (omega (arith, p), λ z. omega (arith, p))))
    (λ i e. let p = is_in_lem (0x41 to 0x46) b i in (omega (arith, p), (omega (arith, p), λ z. omega (arith, p)))) (λ e. absurd (clash (sym e)))

body-step : (b : ℕ) (u : List ℕ) → is_digit 16 b ≡ true → body (b ∷ u) ≡ bind (body u) (λ c r. ok (b ∷ c) r)
unfolding body is_body
body-step b u e =
    let p = digit_places b e in
    let l : 0x20 ≤ b = omega (arith, p.0) in
    let m : b ≤ 0xff = omega (arith, p.1.0) in
    rw (ne_eqb b 0x27 (λ z. omega (arith, p.0)), body) (rw (ne_eqb b 0x5c p.1.1) (rw (le-leb 0x20 b l, le-leb b 0xff m) (go (is blank b))))
  where
    go : (t : Bool) → elim (t || true) [ true ↦ bind (body u) (λ c r. ok (b ∷ c) r) | false ↦ fault no_token ] ≡ bind (body u) (λ c r. ok (b ∷ c) r)
    go true = refl
    go false = refl

body_closed : {s : List ℕ} {at end : ℕ} → HexDigits s at end → drop end (marked s) ≡ 0x27 ∷ drop (end + 1) (marked s) → body (drop at (marked s)) ≡ ok (take (end - at) (drop at s)) (drop (end + 1) (marked s))
unfolding body
body_closed {s} {at} {end} r d =
    let a = r.ahead in
    let z : at + (end - at) ≡ end = omega arith in
    run-gives body (λ b. is_digit 16 b ≡ true) body-step s at (end - at) (omega (arith, r.inside)) (λ j g l. r.is j g (omega arith)) (rw (z, d))

pub cut-hex : (r : List ℕ) → cut (0x68 ∷ 0x27 ∷ r) ≡ encoded_literal hex_content r
unfolding cut cut_by word run whether bind prefixed same is_word is class_number class_of class_in class_rows is_in
cut-hex r = refl

hex_even : (n : ℕ) → n % 2 ≡ 0 → 2 * (n / 2) ≡ n
hex_even n h = omega arith

module _ {s : List ℕ} {place end : ℕ} {t u : Bool} (x : HexAt s place) (r : HexDigits s (place + 2) end) (y : Peeked s end 0x27 t) (f : t ≡ true) (z : Peeked s (end + 1) 0x5f u) (g : u ≡ false) (h : (end - (place + 2)) % 2 ≡ 0) where
  pub hex-leaf : {b b' : List ℕ} {pos size : ℕ} {v : LeafS} → HexMade s (place + 2) ((end - (place + 2)) / 2) b b' pos size
      → v ≡ record { found = Leaf; next = end + 1; size = size; binary = true; length = (end - (place + 2)) / 2; number = 0 } → LeafTold s b b' place pos v
  unfolding encoded_literal contained literal_token choose bind major_number Tells held_of
  hex-leaf m e =
      let a = r.ahead in
      let n = m.count in
      let c : hex_content (take (end - (place + 2)) (drop (place + 2) s)) ≡ stands_for m.bytes = rw (hex_even (end - (place + 2)) h) at m.stand in
      string-leaf {k = byte_string}
      (record {
        is = rw x.is (cut-hex (drop (place + 2) (marked s)) ∙ (rw (body_closed r (peeked_yes y f)) (rw (unmarked z g) (rw c))));
        inside = omega (arith, length_marked s, y.inside f);
        ahead = omega arith;
      })
      (omega (arith, hex_even (end - (place + 2)) h)) refl m.made (λ w. (refl, sym n)) e
