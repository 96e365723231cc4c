-- String literals as tokens: what the code knows at each return, and that this is what the definitions say.
-- Assumes nothing.
use mathlib.Core.Path.{◌≡◌, refl, sym, ap, ◌∙◌}
use mathlib.Core.List.{List, [], ◌∷◌}
use mathlib.Core.Bool.{Bool, true, false}
use Prim.Native.Nat.{ℕ, zero, suc, ◌+◌, ◌-◌, ◌≤◌}
use native.Mathlib.Omega.{arith}
use lib.ListN.{length, take, drop, get_or}
use borrow.Author.Tests.{ne_eqb}
use Rattle.cbor.specs.Refusals.{Result, ok, bind, no_token, unknown_word, float, bad_indicator}
use Rattle.cbor.specs.Items.{Kind, byte_string, definite, indefinite}
use Rattle.notation.specs.Classes.{is_word}
use Rattle.notation.specs.Scanning.{fault}
use Rattle.notation.specs.Indicators.{Indicator, absent, indefinitely, unknown, wide, Chosen, chosen, misfit, choose}
use Rattle.notation.specs.Quoted.{character, unquote}
use Rattle.notation.specs.Literals.{literal_token, quoted_token, quoted, body, Content, stands_for, bad, hex_content, base64_content, contained, encoded_literal}
use Rattle.notation.specs.Tokens.{Token, begins, literal}
use Rattle.notation.specs.Words.{same, hex_prefix, base64_prefix, is_float_word, worded, prefixed, word}
use Rattle.notation.specs.Reading.{marked}
use Rattle.scanning.specs.Stands.{span}
use Rattle.scanning.specs.ScanAnswers.{Ran, Peeked}
use Rattle.literal_body.specs.LiteralAnswers.{Scans, Raw, decoded_by, Decodes}
use Rattle.token.specs.TokenAnswers.{indicator_number, size_number, kind_code, begin_code, code_of, begin_mark, mark_of, begin_number, number_of, QuotedAs, Spelled, BeginsAs, Written, Shown, Says, Refused}
use Rattle.numbers.specs.NumberAnswers.{Indicated, choose_by, chosen_number}
use Rattle.words.specs.WordAnswers.{WordPart, Enclosed, other_word, prefix_word}
use Rattle.tokens.specs.CutAnswers.{quote_kind, quote_byte, literal_content, QuotedAt, EncodedAt, Spells, Literally, Quotedly}
use Rattle.literal_body.specs.declared.LiteralScan.{LiteralScan}
use Rattle.numbers.specs.declared.indicator.Mark.{Mark}
use Rattle.token.specs.declared.Token.{Token as Cut}
use Rattle.std.specs.Prelude.{Option, None, Some, Result as Answer, Ok, Err}
use Rattle.scanning.proofs.Marked.{here}
use Rattle.scanning.proofs.ScanCode.{whether-yes, whether-no}
use Rattle.literal_body.proofs.LiteralViews.{scan_good, raw_good, quoted-bad, raw_bad, decodes-bad}
use Rattle.numbers.proofs.IndicatorCode.{choose-is, width_some, chosen_none, chosen-some}
use Rattle.numbers.proofs.NumberCode.{says_as, says_refuse}
use Rattle.words.proofs.WordCode.{part_cons}

-- FORMS
module _ (form : ℕ) where
  pub code-text : form ≡ 0 → 4 ≡ kind_code (quote_kind form)
  unfolding kind_code quote_kind
  code-text e = rw e

  pub code-bytes : (form ≡ 0 → ⊥) → 5 ≡ kind_code (quote_kind form)
  unfolding kind_code quote_kind
  code-bytes n = rw (ne_eqb form 0 n, quote_kind)

  pub quote-text : form ≡ 0 → 0x22 ≡ quote_byte form
  unfolding quote_byte
  quote-text e = rw e

  pub quote-bytes : (form ≡ 0 → ⊥) → 0x27 ≡ quote_byte form
  unfolding quote_byte
  quote-bytes n = rw (ne_eqb form 0 n, quote_byte)

  pub content-hex : {r : Option LiteralScan} (l : List ℕ) → form ≡ 2 → Decodes r (hex_content l) → Decodes r (literal_content form l)
  unfolding literal_content
  content-hex l e d = rw e d

  pub content_base64 : {r : Option LiteralScan} (l : List ℕ) → (form ≡ 2 → ⊥) → Decodes r (base64_content l) → Decodes r (literal_content form l)
  unfolding literal_content
  content_base64 l n d = rw (ne_eqb form 2 n, literal_content) d

-- LITERALS OF A SIZE
literal-ok : (k : Kind) (b : List ℕ) (i : Indicator) (r : List ℕ) {c : Chosen} → choose i (length b) ≡ c
    → literal_token k b i r ≡ elim c [ chosen w ↦ ok (begins (literal k (definite w) b)) r | misfit ↦ fault bad_indicator ]
unfolding literal_token
literal-ok k b i r e = rw (e, literal_token)

module _ {form mark size start stop place next : ℕ} (w : ℕ) (f : w ≡ choose_by mark size) where
  pub lit_misfit : {t : Cut} → w ≡ 0 → Refused 9 place t → Literally form mark size start stop place next t
  lit_misfit z r =
      record {
        is =
            λ s b i es em sp.
            let c : chosen_number (choose i (length b)) ≡ 0 = choose-is i (length b) ∙ (sym (f ∙ (ap (λ (k : ℕ). choose_by k size) em ∙ ap (choose_by (indicator_number i)) es)) ∙ z) in
            says_as (literal-ok (quote_kind form) b i (drop next (marked s)) (chosen_none (choose i (length b)) c)) (says_refuse 0 r);
      }

  pub lit_made : (c : ℕ) → (w ≡ 0 → ⊥) → c ≡ kind_code (quote_kind form)
      → Literally form mark size start stop place next (record { kind = c; refusal = 0; indicator = w; argument = size; form = form; start = start; stop = stop; place = place; next = next })
  unfolding Shown code_of begin_code mark_of begin_mark size_number number_of begin_number Written BeginsAs
  lit_made c z g =
      record {
        is =
            λ s b i es em sp.
            let q : w ≡ chosen_number (choose i (length b)) = f ∙ (ap (λ (k : ℕ). choose_by k size) em ∙ (ap (choose_by (indicator_number i)) es ∙ sym (choose-is i (length b)))) in
            let x = chosen-some (choose i (length b)) (λ k. z (q ∙ k)) in
            says_as (literal-ok (quote_kind form) b i (drop next (marked s)) x.1.0)
            (record { shown = record { code = g; indicator = q ∙ x.1.1; number = es; written = sp.is; next = here s sp.inside }; place = refl });
      }

-- QUOTED ONES
indicator-one : (i : Indicator) → indicator_number i ≡ 1 → i ≡ indefinitely
unfolding indicator_number
indicator-one absent e = absurd (omega arith)
indicator-one indefinitely e = refl
indicator-one unknown e = absurd (omega arith)
indicator-one (wide w) e = absurd (omega (arith, width_some w))

quoted_plain : (k : Kind) (b : List ℕ) (i : Indicator) (r : List ℕ) → (indicator_number i ≡ 1 → ⊥) → quoted_token k b i r ≡ literal_token k b i r
unfolding quoted_token indicator_number
quoted_plain k b absent r n = refl
quoted_plain k b indefinitely r n = absurd (n refl)
quoted_plain k b unknown r n = refl
quoted_plain k b (wide w) r n = refl

quoted_open : (k : Kind) (b : List ℕ) (r : List ℕ) → (length b ≡ 0 → ⊥) → quoted_token k b indefinitely r ≡ fault bad_indicator
unfolding quoted_token literal_token choose
quoted_open k [] r n = absurd (n refl)
quoted_open k (c ∷ b) r n = refl

empty : (b : List ℕ) → 0 ≡ length b → b ≡ []
empty [] e = refl
empty (c ∷ b) e = absurd (omega arith)

module _ {form size start place : ℕ} {m : Mark} where
  pub quoted-empty : (c : ℕ) → m.mark ≡ 1 → size ≡ 0 → c ≡ kind_code (quote_kind form)
      → Quotedly form size start place m (record { kind = c; refusal = 0; indicator = 1; argument = 0; form = form; start = start; stop = 0; place = place; next = m.next })
  unfolding Shown code_of begin_code mark_of begin_mark size_number number_of begin_number Written BeginsAs quoted_token
  quoted-empty c e z g =
      record {
        is =
            λ s b at es x sp.
            let i : x.ind ≡ indefinitely = indicator-one x.ind (sym x.mark ∙ e) in
            let n : b ≡ [] = empty b (sym z ∙ es) in
            let sp' : Spelled s form start 0 [] = rw n at sp.is in
            let q : quoted_token (quote_kind form) b x.ind (drop m.next (marked s)) ≡ ok (begins (literal (quote_kind form) indefinite [])) (drop m.next (marked s)) =
            ap (λ (j : Indicator). quoted_token (quote_kind form) b j (drop m.next (marked s))) i ∙ ap (λ (l : List ℕ). quoted_token (quote_kind form) l indefinitely (drop m.next (marked s))) n in
            says_as q (record { shown = record { code = g; indicator = refl; number = refl; written = sp'; next = here s sp.inside }; place = refl });
      }

  module _ {t : Cut} where
    pub quoted-misfit : m.mark ≡ 1 → (size ≡ 0 → ⊥) → Refused 9 place t → Quotedly form size start place m t
    quoted-misfit e z r =
        record {
          is =
              λ s b at es x sp.
              let i : x.ind ≡ indefinitely = indicator-one x.ind (sym x.mark ∙ e) in
              says_as (ap (λ (j : Indicator). quoted_token (quote_kind form) b j (drop m.next (marked s))) i ∙ quoted_open (quote_kind form) b (drop m.next (marked s)) (λ k. z (es ∙ k))) (says_refuse 0 r);
        }

    pub quoted-literal : (m.mark ≡ 1 → ⊥) → Literally form m.mark size start 0 place m.next t → Quotedly form size start place m t
    quoted-literal n l =
        record {
          is =
              λ s b at es x sp.
              says_as (quoted_plain (quote_kind form) b x.ind (drop m.next (marked s)) (λ k. n (x.mark ∙ k))) (l.is s b x.ind es x.mark sp);
        }

pub ruleset quoted_tokens = (quoted-empty, quoted-misfit, quoted-literal)

-- QUOTED STRINGS
pub scan_inside : {s : List ℕ} {at : ℕ} {r : LiteralScan} (res : Result (List ℕ)) → Scans s at (Some r) res → r.next ≤ length s
scan_inside res h = (scan_good res h).found.inside

spelled-quote : (s : List ℕ) (form start stop : ℕ) (b : List ℕ) → form ≤ 1 → QuotedAs s (quote_byte form) start b → Spelled s form start stop b
unfolding Spelled quote_byte
spelled-quote s zero start stop b h q = q
spelled-quote s (suc zero) start stop b h q = q
spelled-quote s (suc (suc form)) start stop b h q = absurd (omega arith)

module _ {s : List ℕ} {place form : ℕ} {t : Cut} (p : QuotedAt s place form) {q : ℕ} (e : q ≡ quote_byte form) where
  pub quoted-good : {r : LiteralScan} {m : Mark} → Scans s (place + 1) (Some r) (unquote q character (drop (place + 1) (marked s))) → Indicated s r.next m
      → Quotedly form r.size (place + 1) place m t → Says s place t (quoted (quote_kind form) (quote_byte form) (drop (place + 1) (marked s)))
  unfolding quoted bind
  quoted-good {r} {m} h x j =
      let a = scan_good (unquote q character (drop (place + 1) (marked s))) h in
      let i : unquote (quote_byte form) character (drop (place + 1) (marked s)) ≡ ok a.all (drop r.next (marked s)) =
      ap (λ (k : ℕ). unquote k character (drop (place + 1) (marked s))) (sym e) ∙ (a.is ∙ ap (λ (l : List ℕ). ok a.all l) (sym a.found.left)) in
      let sp : Spells s form (place + 1) 0 m.next a.all =
      record { is = spelled-quote s form (place + 1) 0 a.all p.quoted (record { rest = drop r.next (marked s); is = i }); inside = x.inside } in
      says_as (rw i (rw x.is)) (j.is s a.all r.next a.found.size x sp)

  pub quoted-wrong : Scans s (place + 1) None (unquote q character (drop (place + 1) (marked s))) → Refused 3 place t → Says s place t (quoted (quote_kind form) (quote_byte form) (drop (place + 1) (marked s)))
  unfolding quoted bind
  quoted-wrong h f =
      let i : unquote (quote_byte form) character (drop (place + 1) (marked s)) ≡ fault no_token = ap (λ (k : ℕ). unquote k character (drop (place + 1) (marked s))) (sym e) ∙ quoted-bad q h in
      says_as (rw i) (says_refuse 0 f)

-- ENCODED ONES
decoded : {r : LiteralScan} (res : Content) → Decodes (Some r) res → (c : List ℕ) × ((res ≡ stands_for c) × (r.size ≡ length c))
unfolding decoded_by
decoded (stands_for c) d = (c, (refl, d.by))
decoded bad d = absurd d.by

spelled-encoded : (s : List ℕ) (form start stop : ℕ) (b : List ℕ) → 2 ≤ form → literal_content form (take (stop - start) (drop start s)) ≡ stands_for b → Spelled s form start stop b
unfolding Spelled literal_content
spelled-encoded s zero start stop b h e = absurd (omega arith)
spelled-encoded s (suc zero) start stop b h e = absurd (omega arith)
spelled-encoded s (suc (suc zero)) start stop b h e = record { is = e }
spelled-encoded s (suc (suc (suc form))) start stop b h e =
    record { is = sym (rw (ne_eqb (suc (suc (suc form))) 2 (λ k. omega arith), literal_content)) ∙ e }

kind-encoded : (form : ℕ) → 2 ≤ form → quote_kind form ≡ byte_string
unfolding quote_kind
kind-encoded form h = rw (ne_eqb form 0 (λ e. omega arith), quote_kind)

pub raw_inside : {s : List ℕ} {at : ℕ} {r : LiteralScan} (res : Result (List ℕ)) → Raw s at (Some r) res → r.next ≤ length s
raw_inside res h = scan_inside res h.scans

encoded-is : {s : List ℕ} {at form : ℕ} {r : LiteralScan} {m : Mark} → EncodedAt s at form → Raw s at (Some r) (body (drop at (marked s))) → (x : Indicated s r.next m)
    → encoded_literal (literal_content form) (drop at (marked s)) ≡ contained (literal_content form (take (r.next - 1 - at) (drop at s))) x.ind (drop m.next (marked s))
unfolding encoded_literal bind
encoded-is p h x = rw (raw_good h) (rw x.is)

module _ {s : List ℕ} {place at form : ℕ} {t : Cut} (p : EncodedAt s at form) where
  pub encoded-bad : Raw s at None (body (drop at (marked s))) → Refused 3 place t → Says s place t (encoded_literal (literal_content form) (drop at (marked s)))
  unfolding encoded_literal bind
  encoded-bad h f = says_as (rw (raw_bad h)) (says_refuse 0 f)

  module _ {r : LiteralScan} (h : Raw s at (Some r) (body (drop at (marked s)))) {m : Mark} (x : Indicated s r.next m) where
    pub encoded-wrong : Decodes None (literal_content form (take (r.next - 1 - at) (drop at s))) → Refused 8 place t → Says s place t (encoded_literal (literal_content form) (drop at (marked s)))
    unfolding contained
    encoded-wrong d f = says_as (encoded-is p h x ∙ ap (λ (j : Content). contained j x.ind (drop m.next (marked s))) (decodes-bad _ d)) (says_refuse 0 f)

    pub encoded-good : {c : LiteralScan} → Decodes (Some c) (literal_content form (take (r.next - 1 - at) (drop at s))) → Literally form m.mark c.size at (r.next - 1) place m.next t
        → Says s place t (encoded_literal (literal_content form) (drop at (marked s)))
    unfolding contained
    encoded-good d l =
        let v = decoded (literal_content form (take (r.next - 1 - at) (drop at s))) d in
        let sp : Spells s form at (r.next - 1) m.next v.0 = record { is = spelled-encoded s form at (r.next - 1) v.0 p.encoded v.1.0; inside = x.inside } in
        says_as (encoded-is p h x ∙ (ap (λ (j : Content). contained j x.ind (drop m.next (marked s))) v.1.0 ∙ ap (λ (k : Kind). literal_token k v.0 x.ind (drop m.next (marked s))) (sym (kind-encoded form p.encoded))))
        (l.is s v.0 x.ind v.1.1 x.mark sp)

-- WORDS
abbrev prefixed_by : Answer ℕ ℕ → List ℕ → Result Token
prefixed_by (Ok f) r = encoded_literal (literal_content f) r
prefixed_by (Err k) r = fault k

prefixed-is : (w r : List ℕ) → prefixed w r ≡ prefixed_by (prefix_word w) r
unfolding prefixed prefix_word other_word literal_content
prefixed-is w r = go (same w hex_prefix) (same w base64_prefix) (is_float_word w)
  where
    go : (a b c : Bool) → ◌≡◌ {A = Result Token} (elim a [ true ↦ encoded_literal hex_content r | false ↦ elim b [ true ↦ encoded_literal base64_content r | false ↦ elim c [ true ↦ fault float | false ↦ fault unknown_word ] ] ])
        (prefixed_by (elim a [ true ↦ Ok 2 | false ↦ elim b [ true ↦ Ok 3 | false ↦ Err (elim c [ true ↦ float | false ↦ unknown_word ]) ] ]) r)
    go true b c = refl
    go false true c = refl
    go false false true = refl
    go false false false = refl

-- a form that a prefix gives is one of an encoded literal
abbrev Encodes : Answer ℕ ℕ → Type 0
Encodes (Ok f) = 2 ≤ f
Encodes (Err k) = Unit

prefix_encodes : (w : List ℕ) → Encodes (prefix_word w)
unfolding prefix_word
prefix_encodes w = go (same w hex_prefix) (same w base64_prefix)
  where
    go : (a b : Bool) → Encodes (elim a [ true ↦ Ok 2 | false ↦ elim b [ true ↦ Ok 3 | false ↦ Err (other_word w) ] ])
    go true b = omega arith
    go false true = omega arith
    go false false = tt

module _ {s : List ℕ} {place end : ℕ} (p : Enclosed s place end) where
  pub prefix_encoded : {form : ℕ} → Ok form ≡ prefix_word (span place end (marked s)) → EncodedAt s (end + 1) form
  prefix_encoded e = record { inside = p.inside; encoded = rw (sym e) at (prefix_encodes (span place end (marked s))) }

  prefixed-by : {x : Answer ℕ ℕ} → x ≡ prefix_word (span place end (marked s)) → prefixed (span place end (marked s)) (drop (end + 1) (marked s)) ≡ prefixed_by x (drop (end + 1) (marked s))
  prefixed-by e = prefixed-is (span place end (marked s)) (drop (end + 1) (marked s)) ∙ ap (λ (y : Answer ℕ ℕ). prefixed_by y (drop (end + 1) (marked s))) (sym e)

  module _ {t : Cut} where
    pub prefixed-encoded : {form : ℕ} → Ok form ≡ prefix_word (span place end (marked s)) → Says s place t (encoded_literal (literal_content form) (drop (end + 1) (marked s)))
        → Says s place t (prefixed (span place end (marked s)) (drop (end + 1) (marked s)))
    prefixed-encoded e h = says_as (prefixed-by e) h

    pub prefixed-refused : {k : ℕ} → Err k ≡ prefix_word (span place end (marked s)) → Refused k place t → Says s place t (prefixed (span place end (marked s)) (drop (end + 1) (marked s)))
    prefixed-refused e r = says_as (prefixed-by e) (says_refuse 0 r)

module _ {s : List ℕ} (place : ℕ) {end : ℕ} (r : Ran s is_word (place + 1) end) where
  pub word-part : WordPart s place end
  word-part = record { ahead = omega (arith, r.ahead); inside = r.inside }

  pub word-enclosed : {b : Bool} → Peeked s end 0x27 b → b ≡ true → Enclosed s place end
  word-enclosed p e = record { ahead = omega (arith, r.ahead); inside = p.inside e }

  word-is : span place end (marked s) ≡ get_or s place 0 ∷ span (place + 1) end (marked s)
  word-is = part_cons word-part (λ z. omega (arith, r.ahead))

  pub word-prefixed : {t : Cut} {b : Bool} → Peeked s end 0x27 b → b ≡ true → Says s place t (prefixed (span place end (marked s)) (drop (end + 1) (marked s)))
      → Says s place t (word (get_or s place 0) (drop (place + 1) (marked s)))
  unfolding word bind
  word-prefixed p e h = says_as (rw r.is (rw (whether-yes p e) (ap (λ (w : List ℕ). prefixed w (drop (end + 1) (marked s))) (sym word-is)))) h

  pub word-worded : {t : Cut} {b : Bool} → Peeked s end 0x27 b → b ≡ false → Says s place t (worded (span place end (marked s)) (drop end (marked s)))
      → Says s place t (word (get_or s place 0) (drop (place + 1) (marked s)))
  unfolding word bind
  word-worded p e h = says_as (rw r.is (rw (whether-no p e) (ap (λ (w : List ℕ). worded w (drop end (marked s))) (sym word-is)))) h
