-- String literals as they are seldom written: what the code knows at each return, and that this is what the definitions say.
-- Assumes nothing.
use mathlib.Core.Path.{◌≡◌, refl, sym, ap, ◌∙◌}
use mathlib.Core.List.{List, [], ◌∷◌, ◌++◌}
use mathlib.Core.Bool.{Bool, true, false}
use Prim.Native.Nat.{ℕ, ◌+◌, ◌-◌, ◌*◌, ◌≤◌, ◌<◌, min}
use native.Mathlib.Omega.{arith}
use lib.Dec.{eqb}
use lib.ListN.{length, take, drop, get_or, length-append, length-drop}
use lib.Seq.{length-take-le}
use Rattle.std.specs.Prelude.{Option, None, Some, ◌⊎◌}
use Rattle.std.proofs.Common.{inl, inr}
use Rattle.std.proofs.lemmas.Option.{none-some, same_Some}
use Rattle.cbor.specs.Refusals.{ok, bind}
use Rattle.cbor.specs.Widths.{Width, w8, limit}
use Rattle.cbor.specs.Items.{Kind, byte_string, definite, string}
use Rattle.cbor.specs.Heads.{Major, strings, major_number, initial, head}
use Rattle.cbor.specs.Encode.{encode_string, encode}
use Rattle.cbor.specs.Utf8.{is_in}
use Rattle.memory.specs.Buffer.{over_if_fits, head_put}
use Rattle.memory.proofs.Buffer.{length-written, take-written, length-closed, take-closed}
use Rattle.notation.specs.Classes.{class_number, class_rows, class_in, class_of, is, is_word}
use Rattle.notation.specs.Scanning.{run, whether}
use Rattle.notation.specs.Indicators.{Indicator, absent, indefinitely, unknown, wide, indicator, chosen, choose}
use Rattle.notation.specs.Quoted.{character, unquote}
use Rattle.notation.specs.Literals.{literal_token, quoted_token, quoted, body, Content, stands_for, hex_content, base64_content, contained, encoded_literal}
use Rattle.notation.specs.Words.{same, prefixed, word}
use Rattle.notation.specs.Tokens.{literal, begins}
use Rattle.notation.specs.Cutting.{cut_by, cut}
use Rattle.notation.specs.Reading.{marked}
use Rattle.notation_theorems.proofs.SoundToken.{Chose, choose-fits}
use Rattle.scanning.specs.ScanAnswers.{Peeked}
use Rattle.scanning.proofs.Marked.{length_marked, at_byte}
use Rattle.scanning.proofs.ScanCode.{peeked_yes}
use Rattle.head.specs.HeadAnswers.{head_bytes}
use Rattle.head.proofs.HeadCode.{head_bytes_lem}
use Rattle.literal_body.specs.LiteralAnswers.{Scans, Raw, Decodes, Quotes}
use Rattle.literal_body.specs.LiteralReading.{DecodesInto}
use Rattle.literal_body.specs.declared.LiteralScan.{LiteralScan}
use Rattle.literal_body.proofs.LiteralViews.{scan_good, raw_good, Stood, hex-good, base64_good}
use Rattle.token.specs.TokenAnswers.{width_number}
use Rattle.numbers.specs.NumberAnswers.{Indicated, choose_by, chosen_number}
use Rattle.numbers.specs.declared.indicator.Mark.{Mark}
use Rattle.numbers.proofs.IndicatorCode.{choose-is, chosen-some}
use Rattle.encoding.specs.ReadAnswers.{held_of, Tells, info_by, Informed, HeadSize}
use Rattle.encoding.proofs.ReadSmall.{head-some, before-short, before_long}
use Rattle.encoding.proofs.ReadWriting.{info_width}
use Rattle.leaf_answer.specs.LeafAnswers.{LeafTold}
use Rattle.plain_string.specs.StringParts.{quoted_kind, StringMajor, QuotedAt}
use Rattle.leaf_reader.specs.LiteralParts.{IsQuote}
use Rattle.leaf_reader.specs.LiteralParts.{content_by, EncodedFrom, EncodedThere, ContentMade, ContentTold, HeadBefore, Headed}
use Rattle.leaf_answer.specs.declared.LeafRead.{LeafRead as LeafS}
use Rattle.leaf_answer.specs.declared.Found.TheVariants.{Leaf, Nothing}
use Rattle.leaf_answer.proofs.LeafCode.{leaf_still, leaf-made}
use Rattle.plain_string.proofs.StringCode.{back, lent_same, lent_kept, lent_written, string-whole, cut-hex, quote-text, quote-bytes}

-- WHAT STANDS THERE

module _ {b : ℕ} where
  pub is-quote : (b ≡ 0x22) ⊎ (b ≡ 0x27) → IsQuote b true
  is-quote (inl e) = record { is = λ t. quote-text e }
  is-quote (inr e) = record { is = λ t. quote-bytes e }

pub quote-at : {s : List ℕ} {place : ℕ} {t : Bool} → place < length s → IsQuote (get_or s place 0) t → t ≡ true → QuotedAt s place (get_or s place 0)
quote-at l x e = record { here = l; is = refl; quote = x.is e }

cut_base64 : (r : List ℕ) → cut (0x62 ∷ 0x36 ∷ 0x34 ∷ 0x27 ∷ r) ≡ encoded_literal base64_content r
unfolding cut cut_by word run whether bind prefixed same is_word is class_number class_of class_in class_rows is_in
cut_base64 r = refl

module _ {s : List ℕ} {at : ℕ} where
  pub there-hex : {t u : Bool} → Peeked s at 0x68 t → t ≡ true → Peeked s (at + 1) 0x27 u → EncodedThere s at (at + 2) false u
  unfolding content_by
  there-hex p f q =
      record {
        is = λ e.
            let z : at + 1 + 1 ≡ at + 2 = omega arith in
            record { is = ap cut (peeked_yes p f ∙ rw (peeked_yes q e, z)) ∙ cut-hex (drop (at + 2) (marked s)); ahead = omega arith; inside = omega (arith, q.inside e) };
      }

  pub there_base64 : {t u v w : Bool} → Peeked s at 0x62 t → t ≡ true → Peeked s (at + 1) 0x36 u → u ≡ true → Peeked s (at + 2) 0x34 v → v ≡ true → Peeked s (at + 3) 0x27 w → EncodedThere s at (at + 4) true w
  unfolding content_by
  there_base64 p f q g r h x =
      record {
        is = λ e.
            let z₁ : at + 1 + 1 ≡ at + 2 = omega arith in
            let z₂ : at + 2 + 1 ≡ at + 3 = omega arith in
            let z₃ : at + 3 + 1 ≡ at + 4 = omega arith in
            record { is = ap cut (peeked_yes p f ∙ rw (peeked_yes q g, z₁, peeked_yes r h, z₂, peeked_yes x e, z₃)) ∙ cut_base64 (drop (at + 4) (marked s)); ahead = omega arith; inside = omega (arith, x.inside e) };
      }

pub encoded-there : {s : List ℕ} {place at : ℕ} {base64 t : Bool} → EncodedThere s place at base64 t → t ≡ true → EncodedFrom s place at base64
encoded-there x e = x.is e

-- THE HEAD

module _ {b b' : List ℕ} {pos first n r : ℕ} (h : HeadSize first r) where
  pub put-short : r ≡ 1 → b' ≡ over_if_fits b pos (first ∷ []) → HeadBefore b b' pos (head_bytes first n) n r
  put-short e f =
      rw e (record { closes = before-short n h e f; same = ap length f ∙ length-written b pos (first ∷ []); kept = ap (take pos) f ∙ take-written b pos (first ∷ []) pos (omega arith); short = omega arith })

  pub put_long : b' ≡ head_put b pos (head_bytes first n) n → HeadBefore b b' pos (head_bytes first n) n r
  put_long f =
      let some = head-some first n in
      record { closes = before_long n h f; same = ap length f ∙ length-closed b pos (head_bytes first n) n some; kept = ap (take pos) f ∙ take-closed b pos (head_bytes first n) n some pos (omega arith); short = h.most }

wide-head : (m : Major) (w : Width) (n : ℕ) → n ≤ limit w → head_bytes (major_number m * 32 + info_by (width_number w) n) n ≡ head m w n
unfolding initial
wide-head m w n h = rw (info_width w n h) (sym (head_bytes_lem m w n h))

-- the width that was chosen
record Fitted (s : List ℕ) (next n width : ℕ) (m : Mark) : Type 0 where
  ind : Indicator
  wide_as : Width
  reads : indicator (drop next (marked s)) ≡ ok ind (drop m.next (marked s))
  chose : choose ind n ≡ chosen wide_as
  is : width ≡ width_number wide_as
  fits : n ≤ limit wide_as

fitted : {s : List ℕ} {next n width : ℕ} {m : Mark} → Indicated s next m → width ≡ choose_by m.mark n → (width ≡ 0 → ⊥) → n ≤ limit w8 → Fitted s next n width m
fitted {n = n} {width = width} {m = m} x e z l =
    let j : width ≡ chosen_number (choose x.ind n) = e ∙ ap (λ (k : ℕ). choose_by k n) x.mark ∙ sym (choose-is x.ind n) in
    let y = chosen-some (choose x.ind n) (λ k. z (j ∙ k)) in
    let f : Chose n (chosen y.0) = rw y.1.0 at (choose-fits x.ind n l) in
    record { ind = x.ind; wide_as = y.0; reads = x.is; chose = y.1.0; is = j ∙ y.1.1; fits = f }

module _ {s b : List ℕ} {place pos major : ℕ} {binary : Bool} where
  pub headed_none : {r : Option LiteralScan} {q : LeafS} → q.found ≡ Nothing → Headed s b b place pos major binary r q
  headed_none e = record { is = λ b₀ k t m x. leaf_still t.same t.kept e }

  pub headed_leaf : {r : LiteralScan} {b' : List ℕ} {width info head' : ℕ} {m : Mark} {q : LeafS} → r.size ≤ 0xffff_ffff → Indicated s r.next m → width ≡ choose_by m.mark r.size → (width ≡ 0 → ⊥)
      → Informed width r.size info → HeadBefore b b' pos (head_bytes (major * 32 + info) r.size) r.size head'
      → q ≡ record { found = Leaf; next = m.next; size = head' + r.size; binary = binary; length = r.size; number = 0 } → Headed s b b' place pos major binary (Some r) q
  unfolding encode encode_string limit
  headed_leaf {r} {b'} {width} {info} {head'} {m} {q} l x e z i h f =
      record {
        is = λ b₀ k t j u.
            let c = t.made r refl in
            let ws = c.bytes in
            let n = r.size in
            let y = fitted x e z (omega arith) in
            let w = y.wide_as in
            let hs = head_bytes (major * 32 + info) n in
            let a : hs ≡ head (strings k) w n = ap (λ (v : ℕ). head_bytes (major * 32 + v) n) (i.is ∙ ap (λ (v : ℕ). info_by v n) y.is) ∙ rw j (wide-head (strings k) w n y.fits) in
            let d : hs ++ ws ≡ encode (string k w ws) = ap (λ (v : List ℕ). v ++ ws) (a ∙ ap (head (strings k) w) c.count) in
            let v = length-append hs ws in
            let o = c.is.gives y.ind w (drop m.next (marked s)) y.reads (ap (choose y.ind) (sym c.count) ∙ y.chose) in
            let told : (p : ℕ) → p ≡ length ws → Tells (held_of (string k w ws)) binary p = λ p e. rw e (u w ws) in
            leaf-made f
            (record {
              item = string k w ws;
              whole = string-whole (record { is = o; inside = omega (arith, length_marked s, x.inside); ahead = omega (arith, c.is.short, x.ahead) });
              sized = omega (arith, ap length d, v, h.closes.sized, c.count);
              some = omega (arith, h.closes.sized, head-some (major * 32 + info) n);
              short = omega (arith, h.short, c.is.short, x.ahead, c.count);
              tells = told n c.count;
              wrote = rw d at (h.closes.is b₀ ws c.wrote c.count);
            })
            (h.kept ∙ t.kept);
      }

-- WHAT A QUOTED STRING HOLDS

literal-chosen : (k : Kind) (b : List ℕ) (i : Indicator) (w : Width) (r : List ℕ) → choose i (length b) ≡ chosen w → literal_token k b i r ≡ ok (begins (literal k (definite w) b)) r
unfolding literal_token
literal-chosen k b i w r e = rw (e, literal_token)

quoted-chosen : (k : Kind) (b : List ℕ) (i : Indicator) (w : Width) (r : List ℕ) → choose i (length b) ≡ chosen w → quoted_token k b i r ≡ ok (begins (literal k (definite w) b)) r
unfolding quoted_token choose
quoted-chosen k b absent w r e = literal-chosen k b absent w r e
quoted-chosen k b indefinitely w r e = absurd (let z : ◌≡◌ {A = ℕ} 0 1 = cc in omega arith)
quoted-chosen k b unknown w r e = literal-chosen k b unknown w r e
quoted-chosen k b (wide v) w r e = literal-chosen k b (wide v) w r e

quoted_as : (k : Kind) (q : ℕ) (u c t r : List ℕ) (i : Indicator) (w : Width) → unquote q character u ≡ ok c t → indicator t ≡ ok i r → choose i (length c) ≡ chosen w → quoted k q u ≡ ok (begins (literal k (definite w) c)) r
unfolding quoted bind
quoted_as k q u c t r i w e f g = rw e (rw f (quoted-chosen k c i w r g))

encoded_as : (read : List ℕ → Content) (u raw c t r : List ℕ) (i : Indicator) (w : Width) → body u ≡ ok raw t → read raw ≡ stands_for c → indicator t ≡ ok i r → choose i (length c) ≡ chosen w
    → encoded_literal read u ≡ ok (begins (literal byte_string (definite w) c)) r
unfolding encoded_literal contained bind
encoded_as read u raw c t r i w e d f g = rw e (rw f (rw d (literal-chosen byte_string c i w r g)))

-- the part of the buffer behind a byte of room is lent
behind-one : (b : List ℕ) (pos : ℕ) → pos < length b → pos + 1 ≡ min (pos + 1) (length b)
behind-one b pos h = omega arith

module _ {s b m m' : List ℕ} {place pos q : ℕ} {r : Option LiteralScan} (x : QuotedAt s place q) (h : pos < length b) (z : m ≡ take (length b - (pos + 1)) (drop (pos + 1) b)) where
  pub quoted-told : Scans s (place + 1) r (unquote q character (drop (place + 1) (marked s))) → Quotes m m' 0 (unquote q character (drop (place + 1) (marked s))) → ContentTold s b (back b (pos + 1) m') place pos (quoted_kind q) r
  quoted-told y w =
      let u = behind-one b pos h in
      record {
        same = lent_same b m m' pos 1 (pos + 1) u z w.same;
        kept = lent_kept b m m' pos 1 (pos + 1) u z w.same;
        made = λ v g.
            let a = scan_good (unquote q character (drop (place + 1) (marked s))) (rw g at y) in
            let f = a.found in
            record {
              bytes = a.all;
              is = record {
                gives = λ i w t j c.
                    ap cut (at_byte s place x.here ∙ ap (λ (k : ℕ). k ∷ drop (place + 1) (marked s)) x.is)
                    ∙ (x.quote.cuts (drop (place + 1) (marked s)) ∙ quoted_as (quoted_kind q) q (drop (place + 1) (marked s)) a.all (drop v.next (marked s)) t i w (a.is ∙ ap (ok a.all) (sym f.left)) j c);
                short = omega (arith, f.short, f.size);
              };
              count = f.size;
              wrote = (lent_written b m m' pos 1 (pos + 1) u z w.same a.all (λ l. w.is a.all a.rest a.is (omega arith))).wrote;
            };
      }

-- WHAT AN ENCODED ONE HOLDS

content-good : {r : LiteralScan} (base64 : Bool) (raw : List ℕ) → Decodes (Some r) (content_by base64 raw) → Stood r (length raw) (content_by base64 raw)
unfolding content_by
content-good true raw d = base64_good raw d
content-good false raw d = hex-good raw d

module _ {b b' : List ℕ} {p : ℕ} {r : Option LiteralScan} (base64 : Bool) (l : List ℕ) where
  pub into-hex : base64 ≡ false → DecodesInto b b' p r (hex_content l) → DecodesInto b b' p r (content_by base64 l)
  unfolding content_by
  into-hex e d = rw e d

  pub into_base64 : base64 ≡ true → DecodesInto b b' p r (base64_content l) → DecodesInto b b' p r (content_by base64 l)
  unfolding content_by
  into_base64 e d = rw e d

module _ {s b : List ℕ} {place pos : ℕ} where
  pub encoded-none : ContentTold s b b place pos byte_string None
  encoded-none = record { same = refl; kept = refl; made = λ c u. absurd (none-some c u) }

  module _ {m m' : List ℕ} (h : pos < length b) (z : m ≡ take (length b - (pos + 1)) (drop (pos + 1) b)) where
    pub encoded-wrong : {c : Option LiteralScan} {res : Content} → DecodesInto m m' 0 c res → ContentTold s b (back b (pos + 1) m') place pos byte_string None
    encoded-wrong d =
        let u = behind-one b pos h in
        record { same = lent_same b m m' pos 1 (pos + 1) u z d.fills.same; kept = lent_kept b m m' pos 1 (pos + 1) u z d.fills.same; made = λ c e. absurd (none-some c e) }

    pub encoded-told : {at : ℕ} {base64 : Bool} {r c : LiteralScan} → EncodedFrom s place at base64 → Raw s at (Some r) (body (drop at (marked s)))
        → DecodesInto m m' 0 (Some c) (content_by base64 (take (r.next - 1 - at) (drop at s))) → ContentTold s b (back b (pos + 1) m') place pos byte_string (Some (record { next = r.next; size = c.size }))
    encoded-told {at} {base64} {r} {c} x y d =
        let u = behind-one b pos h in
        let f = d.fills in
        let raw = take (r.next - 1 - at) (drop at s) in
        let a = content-good base64 raw d.decodes in
        let n = (scan_good (body (drop at (marked s))) y.scans).found in
        let l : length raw ≡ r.next - 1 - at = length-take-le (r.next - 1 - at) (drop at s) (omega (arith, length-drop at s, n.inside)) in
        let k : ContentMade s b (back b (pos + 1) m') place pos byte_string (record { next = r.next; size = c.size }) = record {
          bytes = a.all;
          is = record {
            gives = λ i v t j o. x.is ∙ encoded_as (content_by base64) (drop at (marked s)) raw a.all (drop r.next (marked s)) t i v (raw_good y) a.is j o;
            short = omega (arith, a.short, a.size, l, n.ahead, x.ahead);
          };
          count = a.size;
          wrote = (lent_written b m m' pos 1 (pos + 1) u z f.same a.all (λ l. f.is a.all a.is (omega arith))).wrote;
        } in
        record {
          same = lent_same b m m' pos 1 (pos + 1) u z f.same;
          kept = lent_kept b m m' pos 1 (pos + 1) u z f.same;
          made = λ v e. rw (← same_Some _ v e) k;
        }

-- LITERALS

pub quoted-literal : {s b₀ b b' : List ℕ} {place pos q major : ℕ} {r : Option LiteralScan} {v : LeafS} → QuotedAt s place q → ContentTold s b₀ b place pos (quoted_kind q) r → StringMajor q major → Headed s b b' place pos major (eqb q 0x27) r v → LeafTold s b₀ b' place pos v
quoted-literal {b₀ = b₀} {q = q} x t m h = h.is b₀ (quoted_kind q) t m.is x.quote.binary

pub encoded-literal : {s b₀ b b' : List ℕ} {place pos : ℕ} {r : Option LiteralScan} {v : LeafS} → ContentTold s b₀ b place pos byte_string r → Headed s b b' place pos 2 true r v → LeafTold s b₀ b' place pos v
unfolding major_number Tells held_of
encoded-literal {b₀ = b₀} t h = h.is b₀ byte_string t refl (λ w c. (refl, refl))
