-- What opens a level: by its token, or by the byte that stands there.
-- Assumes nothing.
use mathlib.Core.Path.{◌≡◌, refl, sym, ap, ◌∙◌}
use mathlib.Core.List.{List, [], ◌∷◌}
use mathlib.Core.Bool.{Bool, true, false, not, true≢false}
use Prim.Native.Nat.{ℕ, ◌+◌, ◌-◌, ◌*◌, ◌≤◌, ◌<◌}
use native.Mathlib.Omega.{arith}
use lib.Dec.{eqb}
use lib.ListN.{length, drop}
use mir.Syntax.{w8 as bits8}
use mir.Val.{Fits}
use borrow.Author.Tests.{eqb-true, eqb-false, not-true}
use Rattle.cbor.specs.Refusals.{Result, ok, bind}
use Rattle.cbor.proofs.Results.{refuse_not_ok}
use Rattle.cbor.specs.Widths.{Width, w0, w1, w2, w4, w8, limit, shortest, information}
use Rattle.cbor.specs.Items.{unsigned, negative, byte_string, text_string, Item, int, string, chunked, array, map, tag, simple}
use Rattle.cbor.specs.Heads.{Major, integers, tags, simples, major_number, initial, head}
use Rattle.cbor.specs.Encode.{encode}
use Rattle.cbor.specs.Utf8.{is_in}
use Rattle.head.specs.HeadAnswers.{head_bytes}
use Rattle.head.proofs.HeadCode.{head_bytes_lem}
use Rattle.notation.specs.Classes.{class_of, class_in, class_rows}
use Rattle.notation.specs.Indicators.{Indicator, absent, indefinitely, unknown, wide, indicator}
use Rattle.notation.specs.Tokens.{Opener as Opens, bracket, brace, tagging, embedding, leaf, literal, chunking, opens, Token, begins, closes, a_comma, a_colon}
use Rattle.notation.specs.Cutting.{opening_token, cut, cut_by, next, place}
use Rattle.notation.specs.Reading.{marked}
use Rattle.scanning.specs.ScanAnswers.{Peeked, Skips}
use Rattle.scanning.proofs.Marked.{length_marked, stands-left}
use Rattle.scanning.proofs.ScanCode.{peeked_yes, expect-yes}
use Rattle.numbers.specs.NumberAnswers.{Indicated}
use Rattle.numbers.specs.declared.indicator.Mark.{Mark}
use Rattle.token.specs.TokenAnswers.{width_number, indicator_number, item_code, open_code, kind_code, begin_code, code_of, open_mark, begin_mark, mark_of, open_number, begin_number, number_of, item_mark, item_number, Seen, Took}
use Rattle.numbers.proofs.IndicatorCode.{indicator-none}
use Rattle.signs.proofs.SignCode.{opening_known}
use Rattle.token.specs.declared.Token.{Token as Cut}
use Rattle.encoding.specs.Cuts.{CutAt}
use Rattle.leaf_answer.specs.declared.LeafRead.{LeafRead}
use Rattle.leaf_answer.specs.declared.Found.TheVariants.{Tag as TagFound}
use Rattle.encoding.specs.ReadAnswers.{held_of, no_bytes, indicator_for, info_by, major_by, initial_by}
use Rattle.encoding.proofs.ReadTokens.{LeafFine, OpenerFine, Fine, cut_led}
use Rattle.encoding.proofs.ReadSmall.{short-most}
use Rattle.encoding.proofs.ReadWriting.{info_width}
use Rattle.encoding.proofs.ReadRules.{opens_by, shape_shuts}
use Rattle.encoding.proofs.Telling.{token, seen_as, past, place-left}
use Rattle.encoding.proofs.Cuts.{next-cut}
use Rattle.opening.specs.Openings.{OpensAs, Bracketing, Tagging, OpeningTold, ByToken, Opened, bracket_byte, BracketAt, OpensBare}
use Rattle.opening.specs.declared.Opener.{Opener}
use Rattle.opening.specs.declared.Opener.TheVariants.{Array, Map, Tag, Embedded, Nothing}
use Rattle.opening.specs.declared.Opening.{Opening}

-- A LEAF: its head
int-head : (m : Major) (w : Width) (n : ℕ) → n ≤ limit w → head_bytes (major_number m * 32 + info_by (width_number w) n) n ≡ head m w n
unfolding initial
int-head m w n h = rw (info_width w n h) (sym (head_bytes_lem m w n h))

simple-head : (n : ℕ) → n ≤ limit (shortest n) → head_bytes (7 * 32 + info_by 0 n) n ≡ head simples (shortest n) n
unfolding info_by initial major_number
simple-head n h = sym (head_bytes_lem simples (shortest n) n h)

pub leaf-bytes : (x : Item) → LeafFine x → (item_code x ≤ 3) × (head_bytes (major_by (item_code x) * 32 + info_by (item_mark x) (item_number x)) (item_number x) ≡ encode x) × (held_of x ≡ no_bytes)
unfolding item_code item_mark item_number major_by major_number encode held_of
leaf-bytes (int unsigned w n) f = (omega arith, int-head (integers unsigned) w n f, refl)
leaf-bytes (int negative w n) f = (omega arith, int-head (integers negative) w n f, refl)
leaf-bytes (simple n) f = (omega arith, simple-head n f, refl)
leaf-bytes (string k w b) f = absurd f
leaf-bytes (chunked k cs) f = absurd f
leaf-bytes (array z xs) f = absurd f
leaf-bytes (map z ps) f = absurd f
leaf-bytes (tag w n x) f = absurd f

-- what opens a level, by its code
pub thirteen : opens_by 13 ≡ true
unfolding opens_by
thirteen = refl

code_opener : (n : ℕ) (tok : Token) (k c : ℕ) → Fine n tok k → code_of tok ≡ c → opens_by c ≡ true → 5 < c → (c ≡ 7 → ⊥) → (c ≡ 13 → ⊥) → (o : Opens) × (tok ≡ begins (opens o)) × OpenerFine o
unfolding code_of begin_code kind_code opens_by
code_opener n (begins (leaf x)) k c f e b l n7 n13 = absurd (omega (arith, (leaf-bytes x f).0))
code_opener n (begins (literal byte_string s w)) k c f e b l n7 n13 = absurd (omega arith)
code_opener n (begins (literal text_string s w)) k c f e b l n7 n13 = absurd (omega arith)
code_opener n (begins chunking) k c f e b l n7 n13 = absurd (n13 (sym e))
code_opener n (begins (opens o)) k c f e b l n7 n13 = (o, refl, f)
code_opener n (closes h i) k c f e b l n7 n13 = absurd (true≢false (sym b ∙ ap opens_by (sym e) ∙ shape_shuts h))
code_opener n a_comma k c f e b l n7 n13 = absurd (true≢false (sym b ∙ ap opens_by (sym e)))
code_opener n a_colon k c f e b l n7 n13 = absurd (true≢false (sym b ∙ ap opens_by (sym e)))

pub indicator-back : (i : Indicator) → indicator_for (indicator_number i) ≡ i
unfolding indicator_for indicator_number width_number
indicator-back absent = refl
indicator-back indefinitely = refl
indicator-back unknown = refl
indicator-back (wide w0) = refl
indicator-back (wide w1) = refl
indicator-back (wide w2) = refl
indicator-back (wide w4) = refl
indicator-back (wide w8) = refl

-- the head of a tag
tag-initial : (t : Cut) (w : Width) (n : ℕ) → t.kind ≡ 6 → t.indicator ≡ width_number w → t.argument ≡ n → n ≤ limit w → initial_by t ≡ initial tags (information w n)
unfolding initial_by major_by initial major_number
tag-initial t w n e m k h = rw (e, m, k, info_width w n h)

apart : {A : Type 0} → ◌≡◌ {A = ℕ} 0 1 → A
apart e = absurd (omega arith)

-- OPENING TOKENS
record OpenerAt (s : List ℕ) (at : ℕ) (t : Cut) : Type 0 where
  pub opener : Opens
  pub rest : List ℕ
  pub is : next (drop at (marked s)) ≡ ok (begins (opens opener)) rest
  pub seen : Seen s t (begins (opens opener)) rest
  pub fine : OpenerFine opener
  pub ahead : t.place < t.next

opener_at : {s : List ℕ} {at : ℕ} {t : Cut} (c : ℕ) → Took s at t → t.kind ≡ c → opens_by c ≡ true → 5 < c → (c ≡ 7 → ⊥) → (c ≡ 13 → ⊥) → OpenerAt s at t
opener_at {s} {at} {t} c tk e b l n7 n13 =
    let ta = token tk (λ z. omega arith) in
    let co = code_opener (place (drop at (marked s)) - 1) ta.tok (length ta.rest) c ta.fine (sym ta.seen.code ∙ e) b l n7 n13 in
    record { opener = co.0; rest = ta.rest; is = ta.is ∙ ap (λ (u : Token). ok u ta.rest) co.1; seen = rw co.1 at ta.seen; fine = co.2; ahead = ta.ahead }

-- a fact of each opener of a code
by_15 : (P : Opens → Type 0) (o : Opens) → open_code o ≡ 15 → ((i : Indicator) → o ≡ bracket i → P (bracket i)) → P o
unfolding open_code
by_15 P (bracket i) e f = f i refl
by_15 P (brace i) e f = absurd (omega arith)
by_15 P (tagging w n) e f = absurd (omega arith)
by_15 P embedding e f = absurd (omega arith)

by_17 : (P : Opens → Type 0) (o : Opens) → open_code o ≡ 17 → ((i : Indicator) → o ≡ brace i → P (brace i)) → P o
unfolding open_code
by_17 P (bracket i) e f = absurd (omega arith)
by_17 P (brace i) e f = f i refl
by_17 P (tagging w n) e f = absurd (omega arith)
by_17 P embedding e f = absurd (omega arith)

by_19 : (P : Opens → Type 0) (o : Opens) → open_code o ≡ 19 → P embedding → P o
unfolding open_code
by_19 P (bracket i) e f = absurd (omega arith)
by_19 P (brace i) e f = absurd (omega arith)
by_19 P (tagging w n) e f = absurd (omega arith)
by_19 P embedding e f = f

by_6 : (P : Opens → Type 0) (o : Opens) → open_code o ≡ 6 → ((w : Width) (n : ℕ) → o ≡ tagging w n → P (tagging w n)) → P o
unfolding open_code
by_6 P (bracket i) e f = absurd (omega arith)
by_6 P (brace i) e f = absurd (omega arith)
by_6 P (tagging w n) e f = f w n refl
by_6 P embedding e f = absurd (omega arith)

opener_code : {s : List ℕ} {t : Cut} {r : List ℕ} (o : Opens) → Seen s t (begins (opens o)) r → t.kind ≡ open_code o
unfolding code_of begin_code
opener_code o se = se.code

opener_mark : {s : List ℕ} {t : Cut} {r : List ℕ} (o : Opens) → Seen s t (begins (opens o)) r → t.indicator ≡ open_mark o
unfolding mark_of begin_mark
opener_mark o se = se.indicator

opener_number : {s : List ℕ} {t : Cut} {r : List ℕ} (o : Opens) → Seen s t (begins (opens o)) r → t.argument ≡ open_number o
unfolding number_of begin_number
opener_number o se = se.number

-- what is told by each kind
module _ {s : List ℕ} {from : ℕ} {o : Opening} where
  told_array : o.opener ≡ Array → Bracketing s from o (bracket (indicator_for o.indicator)) → OpeningTold s from o
  told_array e b = record { array = λ f. b; map = λ f. apart cc; tag = λ f. apart cc; embedded = λ f. apart cc; none = λ f op r q. apart cc }

  told-map : o.opener ≡ Map → Bracketing s from o (brace (indicator_for o.indicator)) → OpeningTold s from o
  told-map e b = record { array = λ f. apart cc; map = λ f. b; tag = λ f. apart cc; embedded = λ f. apart cc; none = λ f op r q. apart cc }

  told-tag : o.opener ≡ Tag → Tagging s from o → OpeningTold s from o
  told-tag e b = record { array = λ f. apart cc; map = λ f. apart cc; tag = λ f. b; embedded = λ f. apart cc; none = λ f op r q. apart cc }

  told-embedded : o.opener ≡ Embedded → OpensAs s from o embedding → OpeningTold s from o
  told-embedded e b = record { array = λ f. apart cc; map = λ f. apart cc; tag = λ f. apart cc; embedded = λ f. b; none = λ f op r q. apart cc }

  told_none : o.opener ≡ Nothing → ((op : Opens) (r : List ℕ) → next (drop from (marked s)) ≡ ok (begins (opens op)) r → ⊥) → OpeningTold s from o
  told_none e b = record { array = λ f. apart cc; map = λ f. apart cc; tag = λ f. apart cc; embedded = λ f. apart cc; none = λ f op r q. b op r q }

-- BY A TOKEN
module _ {t : Cut} where
  pub token-tag : {first : ℕ} {o : Opening} → t.kind ≡ 6 → first ≡ initial_by t → o ≡ record { opener = Tag; indicator = 0; first = first; number = t.argument; place = t.place; next = t.next } → ByToken t o
  token-tag e i f = record { array = λ q. absurd (omega arith); map = λ q. absurd (omega arith); embedded = λ q. absurd (omega arith); tag = λ q. f ∙ ap (λ (k : ℕ). record { opener = Tag; indicator = 0; first = k; number = t.argument; place = t.place; next = t.next }) i; none = λ n6 n15 n17 n19. absurd (n6 e) }

  pub token-array : {o : Opening} → t.kind ≡ 15 → o ≡ record { opener = Array; indicator = t.indicator; first = 0; number = 0; place = t.place; next = t.next } → ByToken t o
  token-array e f = record { array = λ q. f; map = λ q. absurd (omega arith); embedded = λ q. absurd (omega arith); tag = λ q. absurd (omega arith); none = λ n6 n15 n17 n19. absurd (n15 e) }

  pub token-map : {o : Opening} → t.kind ≡ 17 → o ≡ record { opener = Map; indicator = t.indicator; first = 0; number = 0; place = t.place; next = t.next } → ByToken t o
  token-map e f = record { array = λ q. absurd (omega arith); map = λ q. f; embedded = λ q. absurd (omega arith); tag = λ q. absurd (omega arith); none = λ n6 n15 n17 n19. absurd (n17 e) }

  pub token-embedded : {o : Opening} → t.kind ≡ 19 → o ≡ record { opener = Embedded; indicator = 0; first = 0; number = 0; place = t.place; next = t.next } → ByToken t o
  token-embedded e f = record { array = λ q. absurd (omega arith); map = λ q. absurd (omega arith); embedded = λ q. f; tag = λ q. absurd (omega arith); none = λ n6 n15 n17 n19. absurd (n19 e) }

  pub token-none : {o : Opening} {p n : ℕ} → (t.kind ≡ 6 → ⊥) → (t.kind ≡ 15 → ⊥) → (t.kind ≡ 17 → ⊥) → (t.kind ≡ 19 → ⊥) → o ≡ record { opener = Nothing; indicator = 0; first = 0; number = 0; place = p; next = n } → ByToken t o
  token-none n6 n15 n17 n19 f = record { array = λ q. absurd (n15 q); map = λ q. absurd (n17 q); embedded = λ q. absurd (n19 q); tag = λ q. absurd (n6 q); none = λ a b c d. ap (λ (x : Opening). x.opener) f }

pub ruleset token_ways = (token-tag, token-array, token-map, token-embedded, token-none)

opens-code : (op : Opens) → (code_of (begins (opens op)) ≡ 6 → ⊥) → (code_of (begins (opens op)) ≡ 15 → ⊥) → (code_of (begins (opens op)) ≡ 17 → ⊥) → (code_of (begins (opens op)) ≡ 19 → ⊥) → ⊥
unfolding code_of begin_code open_code
opens-code (bracket i) a b c d = b refl
opens-code (brace i) a b c d = c refl
opens-code (tagging w n) a b c d = a refl
opens-code embedding a b c d = d refl

module _ {s : List ℕ} {from : ℕ} {t : Cut} (tk : Took s from t) where
  -- what opens a level by op
  as_opener : {o : Opening} (op : Opens) (oa : OpenerAt s from t) → oa.opener ≡ op → o.place ≡ t.place → o.next ≡ t.next → OpensAs s from o op
  as_opener op oa e p n =
      record {
        next_at =
            record {
              is = oa.is ∙ ap (λ (x : Opens). ok (begins (opens x)) oa.rest) e ∙ ap (λ (r : List ℕ). ok (begins (opens op)) r) (sym oa.seen.next.drops ∙ ap (λ (k : ℕ). drop k (marked s)) (sym n));
              inside = rw n oa.seen.next.inside;
              ahead = omega (arith, n, past tk oa.ahead);
            };
        place_is = place-left tk ∙ ap (λ (k : ℕ). length (marked s) - k) (sym p);
        before = rw p tk.place.inside;
      }

  bracketing : {o : Opening} (mk : Indicator → Opens) (i : Indicator) (oa : OpenerAt s from t) → oa.opener ≡ mk i → o.indicator ≡ t.indicator → t.indicator ≡ indicator_number i → o.place ≡ t.place → o.next ≡ t.next
      → Bracketing s from o (mk (indicator_for o.indicator))
  bracketing {o} mk i oa z m k p n =
      let b : indicator_for o.indicator ≡ i = ap indicator_for (m ∙ k) ∙ indicator-back i in
      record { opens_as = as_opener (mk (indicator_for o.indicator)) oa (z ∙ ap mk (sym b)) p n; known = ap indicator_number b ∙ sym (m ∙ k) }

  opener_of : (c : ℕ) → t.kind ≡ c → opens_by c ≡ true → 5 < c → (c ≡ 7 → ⊥) → (c ≡ 13 → ⊥) → OpenerAt s from t
  opener_of c e b l n7 n13 = opener_at c tk e b l n7 n13

  pub opening_by_lem : {o : Opening} → ByToken t o → OpeningTold s from o
  unfolding opens_by open_mark open_number
  opening_by_lem {o} by = go (eqb t.kind 6) refl
    where
      none : (t.kind ≡ 6 → ⊥) → (t.kind ≡ 15 → ⊥) → (t.kind ≡ 17 → ⊥) → (t.kind ≡ 19 → ⊥) → OpeningTold s from o
      none n6 n15 n17 n19 = told_none (by.none n6 n15 n17 n19) (λ op r q. let se = seen_as tk q in opens-code op (λ z. n6 (se.code ∙ z)) (λ z. n15 (se.code ∙ z)) (λ z. n17 (se.code ∙ z)) (λ z. n19 (se.code ∙ z)))

      embeds : t.kind ≡ 19 → OpeningTold s from o
      embeds e =
          let oa = opener_of 19 e refl (omega arith) (λ z. absurd (omega arith)) (λ z. absurd (omega arith)) in
          let f = by.embedded e in
          told-embedded (ap (λ (x : Opening). x.opener) f)
          (by_19 (λ op. (op' : Opens) → oa.opener ≡ op → op' ≡ embedding → OpensAs s from o op') oa.opener (sym (opener_code oa.opener oa.seen) ∙ e) (λ op' z y. rw y (as_opener embedding oa z (ap (λ (x : Opening). x.place) f) (ap (λ (x : Opening). x.next) f))) embedding refl refl)

      maps : t.kind ≡ 17 → OpeningTold s from o
      maps e =
          let oa = opener_of 17 e refl (omega arith) (λ z. absurd (omega arith)) (λ z. absurd (omega arith)) in
          let f = by.map e in
          let m : o.indicator ≡ t.indicator = ap (λ (x : Opening). x.indicator) f in
          told-map (ap (λ (x : Opening). x.opener) f)
          (by_17 (λ op. oa.opener ≡ op → Bracketing s from o (brace (indicator_for o.indicator))) oa.opener (sym (opener_code oa.opener oa.seen) ∙ e)
          (λ i z y. bracketing brace i oa y m (opener_mark oa.opener oa.seen ∙ ap open_mark z) (ap (λ (x : Opening). x.place) f) (ap (λ (x : Opening). x.next) f)) refl)

      arrays : t.kind ≡ 15 → OpeningTold s from o
      arrays e =
          let oa = opener_of 15 e refl (omega arith) (λ z. absurd (omega arith)) (λ z. absurd (omega arith)) in
          let f = by.array e in
          let m : o.indicator ≡ t.indicator = ap (λ (x : Opening). x.indicator) f in
          told_array (ap (λ (x : Opening). x.opener) f)
          (by_15 (λ op. oa.opener ≡ op → Bracketing s from o (bracket (indicator_for o.indicator))) oa.opener (sym (opener_code oa.opener oa.seen) ∙ e)
          (λ i z y. bracketing bracket i oa y m (opener_mark oa.opener oa.seen ∙ ap open_mark z) (ap (λ (x : Opening). x.place) f) (ap (λ (x : Opening). x.next) f)) refl)

      tags_by : t.kind ≡ 6 → OpeningTold s from o
      tags_by e =
          let oa = opener_of 6 e refl (omega arith) (λ z. absurd (omega arith)) (λ z. absurd (omega arith)) in
          let f = by.tag e in
          let nm : o.number ≡ t.argument = ap (λ (x : Opening). x.number) f in
          told-tag (ap (λ (x : Opening). x.opener) f)
          (by_6 (λ op. oa.opener ≡ op → Tagging s from o) oa.opener (sym (opener_code oa.opener oa.seen) ∙ e)
          (λ w k z y.
          let num : t.argument ≡ k = opener_number oa.opener oa.seen ∙ ap open_number z in
          let mark : t.indicator ≡ width_number w = opener_mark oa.opener oa.seen ∙ ap open_mark z in
          let fit : k ≤ limit w = rw z at oa.fine in
          let q : o.number ≡ k = nm ∙ num in
          record {
            width = w;
            opens_as = as_opener (tagging w o.number) oa (y ∙ ap (λ (x : ℕ). tagging w x) (sym q)) (ap (λ (x : Opening). x.place) f) (ap (λ (x : Opening). x.next) f);
            fits = rw q fit;
            first = ap (λ (x : Opening). x.first) f ∙ tag-initial t w o.number e mark (num ∙ sym q) (rw q fit);
          }) refl)

      go : (v : Bool) → eqb t.kind 6 ≡ v → OpeningTold s from o
      go true e = tags_by (eqb-true t.kind 6 e)
      go false e = go₂ (eqb t.kind 15) refl
        where
          go₂ : (v : Bool) → eqb t.kind 15 ≡ v → OpeningTold s from o
          go₂ true f = arrays (eqb-true t.kind 15 f)
          go₂ false f = go₃ (eqb t.kind 17) refl
            where
              go₃ : (v : Bool) → eqb t.kind 17 ≡ v → OpeningTold s from o
              go₃ true g = maps (eqb-true t.kind 17 g)
              go₃ false g = go₄ (eqb t.kind 19) refl
                where
                  go₄ : (v : Bool) → eqb t.kind 19 ≡ v → OpeningTold s from o
                  go₄ true h = embeds (eqb-true t.kind 19 h)
                  go₄ false h = none (eqb-false t.kind 6 e) (eqb-false t.kind 15 f) (eqb-false t.kind 17 g) (eqb-false t.kind 19 h)

-- BY A BYTE
tag_fits : (u r : List ℕ) (w : Width) (n : ℕ) → cut u ≡ ok (begins (opens (tagging w n))) r → n ≤ limit w
unfolding cut
tag_fits [] r w n e = absurd (refuse_not_ok e)
tag_fits (b ∷ u) r w n e = cut_led b u r (begins (opens (tagging w n))) e

opens-here : {s : List ℕ} {from at nx : ℕ} {o : Opening} (op : Opens) → Skips s from at → CutAt s at nx (begins (opens op)) → o.place ≡ at → o.next ≡ nx → OpensAs s from o op
unfolding place
opens-here {s} {from} {at} {nx} {o} op sk c p n =
    let x = next-cut sk c in
    record {
      next_at = record { is = x.is ∙ ap (λ (k : ℕ). ok (begins (opens op)) (drop k (marked s))) (sym n); inside = rw n x.inside; ahead = omega (arith, n, x.ahead) };
      place_is = stands-left sk.stands ∙ ap (λ (k : ℕ). length (marked s) - k) (sym p);
      before = rw p sk.stands.inside;
    }

bracket-cut : (o : Opener) (u : List ℕ) → o ≡ Array → cut (bracket_byte o ∷ u) ≡ bind (indicator u) (opening_token bracket)
unfolding cut cut_by class_of class_in class_rows is_in bracket_byte
bracket-cut o u e = rw e

brace_cut : (o : Opener) (u : List ℕ) → o ≡ Map → cut (bracket_byte o ∷ u) ≡ bind (indicator u) (opening_token brace)
unfolding cut cut_by class_of class_in class_rows is_in bracket_byte
brace_cut o u e = rw e

module _ {s : List ℕ} {from at : ℕ} where
  bracket-told : {k : Opener} {m : Mark} {o : Opening} (mk : Indicator → Opens) → BracketAt s from at k → ((u : List ℕ) → cut (bracket_byte k ∷ u) ≡ bind (indicator u) (opening_token mk)) → (x : Indicated s (at + 1) m) → (m.mark ≡ 2 → ⊥)
      → o ≡ record { opener = k; indicator = m.mark; first = 0; number = 0; place = at; next = m.next } → Bracketing s from o (mk (indicator_for o.indicator))
  unfolding bind
  bracket-told {k} {m} {o} mk b cuts x n e =
      let f : o.indicator ≡ indicator_number x.ind = ap (λ (y : Opening). y.indicator) e ∙ x.mark in
      let g : indicator_for o.indicator ≡ x.ind = ap indicator_for f ∙ indicator-back x.ind in
      let c : CutAt s at m.next (begins (opens (mk x.ind))) =
      record {
        is = ap cut b.is ∙ cuts (drop (at + 1) (marked s)) ∙ ap (λ (R : Result Indicator). bind R (opening_token mk)) x.is ∙ opening_known mk x.ind (drop m.next (marked s)) (λ z. n (x.mark ∙ z));
        inside = omega (arith, x.inside, length_marked s);
        ahead = omega (arith, x.ahead);
      } in
      record { opens_as = opens-here (mk (indicator_for o.indicator)) b.skips (rw g c) (ap (λ (y : Opening). y.place) e) (ap (λ (y : Opening). y.next) e); known = ap indicator_number g ∙ sym f }

  bracket-by : {m : Mark} {o : Opening} (k : Opener) → BracketAt s from at k → Indicated s (at + 1) m → (m.mark ≡ 2 → ⊥) → o ≡ record { opener = k; indicator = m.mark; first = 0; number = 0; place = at; next = m.next } → OpeningTold s from o
  unfolding bracket_byte
  bracket-by Array b x n e = told_array (ap (λ (y : Opening). y.opener) e) (bracket-told bracket b (λ u. bracket-cut Array u refl) x n e)
  bracket-by Map b x n e = told-map (ap (λ (y : Opening). y.opener) e) (bracket-told brace b (λ u. brace_cut Map u refl) x n e)
  bracket-by Tag b x n e = absurd (b.some refl)
  bracket-by Embedded b x n e = absurd (b.some refl)
  bracket-by Nothing b x n e = absurd (b.some refl)

  pub bracket-done : {k : Opener} {m : Mark} {o : Opening} → BracketAt s from at k → Indicated s (at + 1) m → (m.mark ≡ 2 → ⊥) → o ≡ record { opener = k; indicator = m.mark; first = 0; number = 0; place = at; next = m.next } → OpeningTold s from o
  bracket-done {k} b x n e = bracket-by k b x n e

  module _ {t : Bool} (sk : Skips s from at) (h : from ≤ length (marked s)) where
    pub at-square : Peeked s at 0x5b t → t ≡ true → BracketAt s from at Array
    unfolding bracket_byte
    at-square p e = record { skips = sk; before = h; inside = omega (arith, p.inside e); is = peeked_yes p e; some = λ z. omega arith }

    pub at-curly : Peeked s at 0x7b t → t ≡ true → BracketAt s from at Map
    unfolding bracket_byte
    at-curly p e = record { skips = sk; before = h; inside = omega (arith, p.inside e); is = peeked_yes p e; some = λ z. omega arith }

  pub bare_no : {k : Opener} → OpensBare s from at k false
  bare_no = record { inside = λ e. absurd (true≢false (sym e)); is = λ e n. absurd (true≢false (sym e)) }

  pub bare_yes : {k : Opener} {c : ℕ} {t v : Bool} → Skips s from at → from ≤ length (marked s) → c ≡ bracket_byte k → Peeked s at c t → t ≡ true → Peeked s (at + 1) 0x5f v → OpensBare s from at k (not v)
  bare_yes {k} {c} {t} {v} sk h i p e p₂ =
      record {
        inside = λ f. omega (arith, p.inside e);
        is = λ f n.
            let b : BracketAt s from at k = record { skips = sk; before = h; inside = omega (arith, p.inside e); is = rw i at (peeked_yes p e); some = n } in
            bracket-by k b (indicator-none p₂ (not-true v f) (omega (arith, p.inside e))) (λ z. omega arith) refl;
      }

  pub embeds-here : {t v : Bool} {o : Opening} → Skips s from at → Peeked s at 0x3c t → t ≡ true → Peeked s (at + 1) 0x3c v → v ≡ true → o ≡ record { opener = Embedded; indicator = 0; first = 0; number = 0; place = at; next = at + 2 } → OpeningTold s from o
  unfolding cut cut_by class_of class_in class_rows is_in bind
  embeds-here {o = o} sk p e p₂ e₂ f =
      let two : at + 1 + 1 ≡ at + 2 = omega arith in
      let c : CutAt s at (at + 2) (begins (opens embedding)) =
      record {
        is = ap cut (peeked_yes p e) ∙ ap (λ (R : Result Unit). bind R (λ u r. ok (begins (opens embedding)) r)) (expect-yes p₂ _ e₂) ∙ ap (λ (k : ℕ). ok (begins (opens embedding)) (drop k (marked s))) two;
        inside = omega (arith, p₂.inside e₂, length_marked s);
        ahead = omega arith;
      } in
      told-embedded (ap (λ (y : Opening). y.opener) f) (opens-here embedding sk c (ap (λ (y : Opening). y.place) f) (ap (λ (y : Opening). y.next) f))

  pub tag-here : {q : LeafRead} {i : ℕ} {o : Opening} → Opened s from at q → q.found ≡ TagFound → i ≡ information (shortest q.number) q.number
      → o ≡ record { opener = Tag; indicator = 0; first = 0xc0 + i; number = q.number; place = at; next = q.next } → OpeningTold s from o
  unfolding initial major_number
  tag-here {q} {i} {o} x e ie f =
      let n : o.number ≡ q.number = ap (λ (y : Opening). y.number) f in
      told-tag (ap (λ (y : Opening). y.opener) f)
      (record {
        width = shortest q.number;
        opens_as = opens-here (tagging (shortest q.number) o.number) x.skips (rw n (x.tag e)) (ap (λ (y : Opening). y.place) f) (ap (λ (y : Opening). y.next) f);
        fits = rw n (tag_fits (drop at (marked s)) (drop q.next (marked s)) (shortest q.number) q.number (x.tag e).is);
        first = ap (λ (y : Opening). y.first) f ∙ ap (λ (k : ℕ). 0xc0 + k) (ie ∙ ap (information (shortest q.number)) (sym n));
      })

pub bracket-inside : {s : List ℕ} {from at : ℕ} {o : Opener} → BracketAt s from at o → at < length s
bracket-inside b = b.inside

pub bracket-behind : {s : List ℕ} {from : ℕ} {o : Opener} (at : ℕ) → BracketAt s from at o → at + 1 ≤ length s
bracket-behind at b = omega (arith, b.inside)

pub bracket-before : {s : List ℕ} {from at : ℕ} {o : Opener} → BracketAt s from at o → from ≤ length (marked s)
bracket-before b = b.before

pub tag-first : {i : ℕ} (n : ℕ) → i ≡ information (shortest n) n → Fits bits8 (0xc0 + i)
tag-first n e = record { fits = omega (arith, e, short-most n) }

pub ruleset bare_ways = (bare_no, bare_yes)
