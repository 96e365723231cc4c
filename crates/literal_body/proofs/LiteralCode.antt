-- String literals: single bytes, writes of a few bytes, and the raw text of an encoded literal.
-- Assumes nothing.
use mathlib.Core.Path.{◌≡◌, refl, sym, ap, ◌∙◌, subst⁻¹}
use mathlib.Core.List.{List, [], ◌∷◌, ◌++◌, append_assoc, append-nil}
use mathlib.Core.Bool.{Bool, true, false, ◌||◌}
use Prim.Native.Nat.{ℕ, zero, suc, ◌+◌, ◌-◌, ◌*◌, ◌/◌, ◌%◌, ◌≤◌, ◌<◌, min}
use native.Mathlib.Numerals.{add-one}
use native.Mathlib.Nat.{add-zero}
use native.Mathlib.Omega.{arith}
use lib.Dec.{T, leb, ltb, eqb, eqb→eq}
use lib.ListN.{length, take, drop, set, get_or, replicate, length-append, length-set, drop_of_length-le}
use lib.Seq.{drop-cons, drop_at, take_at}
use borrow.Author.Tests.{le-leb, lt-leb, lt-ltb, le-ltb, eq-eqb, ne_eqb, eqb-true, leb-true, leb-false}
use Rattle.cbor.specs.Refusals.{Result, ok, refuse, bind, no_token}
use Rattle.cbor.specs.Utf8.{is_in}
use Rattle.memory.specs.Buffer.{over}
use Rattle.memory.proofs.Buffer.{over_nil, over-one, over-more}
use Rattle.cbor.proofs.Table.{every, between}
use Rattle.notation.specs.Classes.{blank, slash, hash, class_number, class_rows, class_in, class_of, is}
use Rattle.notation.specs.Numbers.{Digit, worth, no_digit, digit_at, is_digit, digit_value}
use Rattle.notation.specs.Scanning.{fault}
use Rattle.notation.specs.Literals.{is_body, body, Content, stands_for, bad, after}
use Rattle.notation.specs.Reading.{marked}
use Rattle.scanning.specs.TextRuns.{Textual, TextRun}
use Rattle.scanning.proofs.ClassCode.{slash-at, hash_at}
use Rattle.literal_body.specs.LiteralAnswers.{digit_number, HexThere, scanned_by, Raw, decoded_by, Decodes, Put, body_byte, BodyByte}
use Rattle.literal_body.specs.declared.LiteralScan.{LiteralScan}
use Rattle.literal_body.specs.declared.RawByte.{RawByte}
use Rattle.literal_body.specs.declared.RawByte.TheVariants.{Stands, Ends, Refused}
use Rattle.std.specs.Prelude.{Option, None, Some}
use Rattle.std.proofs.lemmas.Option.{none-some, same_Some}

-- BYTES

pub true_false : ◌≡◌ {A = Bool} true false → ⊥
true_false z = let w : ◌≡◌ {A = ℕ} 0 1 = cc in absurd (omega arith)

module _ (b : ℕ) (h : b < 256) where
  pub slash-is : is slash b ≡ eqb b 0x2f
  slash-is = slash-at b (omega arith)

  pub hash-is : is hash b ≡ eqb b 0x23
  hash-is = hash_at b (omega arith)

-- the value of a digit between two bounds, counted from a base
module _ {b : ℕ} (lo hi : ℕ) (p : lo ≤ b) (q : b < hi) where
  a-digit : (z : ℕ) → T (every (λ k x. eqb (k - z) (digit_number k)) lo (replicate (hi - lo) 0)) → b - z ≡ digit_number b
  a-digit z t = eqb→eq (b - z) (digit_number b) (between (λ k. eqb (k - z) (digit_number k)) lo hi t b p q)

module _ {b : ℕ} where
  pub digit-decimal : 0x30 ≤ b → b < 0x3a → b - 0x30 ≡ digit_number b
  unfolding digit_number is_in
  digit-decimal l h = a-digit 0x30 0x3a l h 0x30 tt

  pub digit_upper : 0x41 ≤ b → b < 0x47 → b - 0x37 ≡ digit_number b
  unfolding digit_number is_in
  digit_upper l h = a-digit 0x41 0x47 l h 0x37 tt

  pub digit_lower : 0x61 ≤ b → b < 0x67 → b - 0x57 ≡ digit_number b
  unfolding digit_number is_in
  digit_lower l h = a-digit 0x61 0x67 l h 0x57 tt

-- the value of a digit, by one rule for all of them
unfoldable pub ruled : ℕ → Bool
ruled k = eqb (k % 16 + k / 64 * 9) (digit_number k)

module _ {b : ℕ} where
  pub hex-key : {k : ℕ} → b ≡ k → T (ruled k) → HexThere b true
  unfolding ruled
  hex-key {k} e t = record { some = λ u. eqb→eq (b % 16 + b / 64 * 9) (digit_number b) (rw e t); none = λ u. absurd (true_false u) }

  pub hex-none : 99 ≡ digit_number b → HexThere b false
  hex-none e = record { some = λ u. absurd (true_false (sym u)); none = λ u. e }

  pub value-some : {t : Bool} → HexThere b t → t ≡ true → b % 16 + b / 64 * 9 ≡ digit_number b
  value-some x e = x.some e

  pub value_none : {t : Bool} → HexThere b t → t ≡ false → 99 ≡ digit_number b
  value_none x e = x.none e

pub ruleset digit_ways = (value-some, value_none)

-- a number below the radix is that of a digit, and then its value
module _ (radix b : ℕ) where
  pub digit-yes : digit_number b < radix → radix ≤ 99 → is_digit radix b ≡ true
  unfolding digit_number is_digit
  digit-yes = go (digit_at b)
    where
      go : (d : Digit) → elim d [ worth v ↦ v | no_digit ↦ 99 ] < radix → radix ≤ 99 → ◌≡◌ {A = Bool} (elim d [ worth v ↦ ltb v radix | no_digit ↦ false ]) true
      go (worth v) l h = lt-ltb v radix l
      go no_digit l h = absurd (omega arith)

  pub digit-no : radix ≤ digit_number b → is_digit radix b ≡ false
  unfolding digit_number is_digit
  digit-no = go (digit_at b)
    where
      go : (d : Digit) → radix ≤ elim d [ worth v ↦ v | no_digit ↦ 99 ] → ◌≡◌ {A = Bool} (elim d [ worth v ↦ ltb v radix | no_digit ↦ false ]) false
      go (worth v) l = le-ltb v radix l
      go no_digit l = refl

  pub digit-number : is_digit radix b ≡ true → digit_number b ≡ digit_value b
  unfolding digit_number is_digit digit_value
  digit-number = go (digit_at b)
    where
      go : (d : Digit) → ◌≡◌ {A = Bool} (elim d [ worth v ↦ ltb v radix | no_digit ↦ false ]) true → ◌≡◌ {A = ℕ} (elim d [ worth v ↦ v | no_digit ↦ 99 ]) (elim d [ worth v ↦ v | no_digit ↦ 0 ])
      go (worth v) e = refl
      go no_digit e = let z : ◌≡◌ {A = ℕ} 0 1 = cc in absurd (omega arith)

-- PLACES IN A TEXT

pub front : (s : List ℕ) (at : ℕ) → at < length s → drop at s ≡ get_or s at 0 ∷ drop (at + 1) s
front s at h = rw (add-one, drop-cons s at 0)

drop-append : (s t : List ℕ) (i : ℕ) → i ≤ length s → drop i (s ++ t) ≡ drop i s ++ t
drop-append s t zero h = refl
drop-append [] t (suc i) h = absurd (omega arith)
drop-append (b ∷ s) t (suc i) h = drop-append s t i (omega arith)

-- a byte of the text, and the end mark behind it
pub front-marked : (s : List ℕ) (i : ℕ) → i < length s → drop i (marked s) ≡ get_or s i 0 ∷ drop (i + 1) (marked s)
unfolding marked
front-marked s i h =
    let a : i ≤ length s = omega arith in
    let b : i + 1 ≤ length s = omega arith in
    drop-append s (256 ∷ []) i a ∙ ap (λ (x : List ℕ). x ++ 256 ∷ []) (front s i h) ∙ ap (λ (x : List ℕ). get_or s i 0 ∷ x) (sym (drop-append s (256 ∷ []) (i + 1) b))

-- what holds of the end mark alone and of nothing holds behind the text
pub past : (P : List ℕ → Type 0) (s : List ℕ) (i : ℕ) → length s ≤ i → P (256 ∷ []) → P [] → P (drop i (marked s))
unfolding marked
past P s i h p q = go (eqb i (length s)) refl
  where
    go : (t : Bool) → eqb i (length s) ≡ t → P (drop i (s ++ 256 ∷ []))
    go true e =
        let e' : length s ≡ i = sym (eqb-true i (length s) e) in
        subst⁻¹ P (drop_at s (256 ∷ []) i e') p
    go false e =
        let n : i ≡ length s → ⊥ = λ y. let z : ◌≡◌ {A = Bool} true false = sym (eq-eqb i (length s) y) ∙ e in true_false z in
        let l : length (s ++ 256 ∷ []) ≤ i = omega (arith, length-append s (256 ∷ [])) in
        subst⁻¹ P (drop_of_length-le (s ++ 256 ∷ []) l) q

-- a part of a text, from i to an end
pub front-part : (s : List ℕ) (i end : ℕ) → i < min end (length s) → take (end - i) (drop i s) ≡ get_or s i 0 ∷ take (end - (i + 1)) (drop (i + 1) s)
front-part s i end h =
    let l : i < length s = omega arith in
    let e : end - i ≡ suc (end - (i + 1)) = omega arith in
    rw (e, front s i l)

pub take_none : (n : ℕ) → take {A = ℕ} n [] ≡ []
take_none zero = refl
take_none (suc n) = refl

pub part_end : (s : List ℕ) (i end : ℕ) → min end (length s) ≤ i → take (end - i) (drop i s) ≡ []
part_end s i end h = go (leb end i) refl
  where
    go : (t : Bool) → leb end i ≡ t → take (end - i) (drop i s) ≡ []
    go true e = let h' = leb-true end i e in let z : end - i ≡ 0 = omega arith in rw z
    go false e =
        let h' = leb-false end i e in
        let l : length s ≤ i = omega arith in
        rw (drop_of_length-le s l) (take_none (end - i))

-- WRITES

pub put-none : (b : List ℕ) (p : ℕ) → Put b b p p []
put-none b p = record { same = refl; is = λ h. sym (over_nil b p); next = λ h. sym (add-zero p) }

pub put-past : (b : List ℕ) (p v : ℕ) → length b ≤ p → Put b b p p (v ∷ [])
put-past b p v h = record { same = refl; is = λ l. absurd (omega arith); next = λ l. absurd (omega arith) }

pub put_one : (b : List ℕ) (p v : ℕ) → p < length b → Put b (set b p v) p (p + 1) (v ∷ [])
put_one b p v h = record { same = length-set b p v; is = λ l. over-one b p v h; next = λ l. refl }

-- two writes in a row
pub put-more : {b b₁ b₂ : List ℕ} {p p₁ p₂ : ℕ} {ws vs : List ℕ} → Put b b₁ p p₁ ws → Put b₁ b₂ p₁ p₂ vs → Put b b₂ p p₂ (ws ++ vs)
put-more {b} {b₁} {b₂} {p} {p₁} {p₂} {ws} {vs} x y =
    let n = length-append ws vs in
    record {
      same = y.same ∙ x.same;
      is = λ h.
          let l : p + length ws ≤ length b = omega arith in
          let i : p ≤ length b = omega arith in
          let e = x.next l in
          let f : p₁ + length vs ≤ length b₁ = omega (arith, x.same) in
          y.is f ∙ (λ j. over (x.is l j) (e j) vs) ∙ over-more b p ws i vs;
      next = λ h.
          let l : p + length ws ≤ length b = omega arith in
          let e = x.next l in
          let f : p₁ + length vs ≤ length b₁ = omega (arith, x.same) in
          y.next f ∙ omega arith;
    }

pub put_two : {b b₁ b₂ : List ℕ} {p p₁ p₂ v w : ℕ} → Put b b₁ p p₁ (v ∷ []) → Put b₁ b₂ p₁ p₂ (w ∷ []) → Put b b₂ p p₂ (v ∷ w ∷ [])
put_two x y = put-more x y

-- THE RAW TEXT

module _ (b : ℕ) where
  pub body-quote : b ≡ 0x27 → BodyByte b Ends
  unfolding body_byte
  body-quote e = record { is = rw e }

  pub body_backslash : b ≡ 0x5c → BodyByte b Refused
  unfolding body_byte
  body_backslash e = record { is = rw e }

  module _ (n : b ≡ 0x27 → ⊥) (n₂ : b ≡ 0x5c → ⊥) where
    body_is : (t : Bool) → is_body b ≡ t → body_byte b ≡ elim t [ true ↦ Stands | false ↦ Refused ]
    unfolding body_byte
    body_is t e = simp (body_byte, ne_eqb b 0x27 n, ne_eqb b 0x5c n₂, e)

    pub body_plain : b < 256 → 0x20 ≤ b → BodyByte b Stands
    unfolding is_body
    body_plain u h =
        let l : b ≤ 0xff = omega arith in
        let e : is_body b ≡ true = rw (le-leb 0x20 b h, le-leb b 0xff l) (or_true (is blank b)) in
        record { is = sym (body_is true e) }
      where
        or_true : (t : Bool) → t || true ≡ true
        or_true true = refl
        or_true false = refl

    module _ (h : b < 0x20) {t : Bool} (x : t ≡ is blank b) where
      body-low : is_body b ≡ t
      unfolding is_body
      body-low = rw (lt-leb 0x20 b h, ← x) (or_false t)
        where
          or_false : (t : Bool) → t || false ≡ t
          or_false true = refl
          or_false false = refl

      pub body-blank : t ≡ true → BodyByte b Stands
      body-blank e = record { is = sym (body_is true (body-low ∙ e)) }

      pub body-other : t ≡ false → BodyByte b Refused
      body-other e = record { is = sym (body_is false (body-low ∙ e)) }

pub ruleset body_ways = (body-quote, body_backslash, body_plain, body-blank, body-other)

-- what is read goes before what follows
abbrev pub pre : List ℕ → Result (List ℕ) → Result (List ℕ)
pre w res = bind res (λ c r. ok (w ++ c) r)

pub pre_nil : (res : Result (List ℕ)) → pre [] res ≡ res
unfolding bind
pre_nil (ok c r) = refl
pre_nil (refuse n q) = refl

pub pre_pre : (u w : List ℕ) (res : Result (List ℕ)) → pre u (pre w res) ≡ pre (u ++ w) res
unfolding bind
pre_pre u w (ok c r) = ap (λ (x : List ℕ). ok x r) (sym (append_assoc u w c))
pre_pre u w (refuse n q) = refl

body_next : RawByte → ℕ → List ℕ → Result (List ℕ)
body_next Stands b s = pre (b ∷ []) (body s)
body_next Ends b s = ok [] s
body_next Refused b s = fault no_token

body-next : (b : ℕ) (k : RawByte) (s : List ℕ) → k ≡ body_byte b → body (b ∷ s) ≡ body_next k b s
unfolding body body_byte body_next
body-next b k s e = go (eqb b 0x27) (eqb b 0x5c) (is_body b) ∙ ap (λ (x : RawByte). body_next x b s) (sym e)
  where
    go : (t u v : Bool) → ◌≡◌ {A = Result (List ℕ)}
        (elim t [ true ↦ ok [] s | false ↦ elim u [ true ↦ fault no_token | false ↦ elim v [ true ↦ bind (body s) (λ c r. ok (b ∷ c) r) | false ↦ fault no_token ] ] ])
        (body_next (elim t [ true ↦ Ends | false ↦ elim u [ true ↦ Refused | false ↦ elim v [ true ↦ Stands | false ↦ Refused ] ] ]) b s)
    go true u v = refl
    go false true v = refl
    go false false true = refl
    go false false false = refl

pub ok-content : {c d r t : List ℕ} → ◌≡◌ {A = Result (List ℕ)} (ok c r) (ok d t) → c ≡ d
ok-content e = cc

-- the loop: the raw text up to i is read
pub record Body (s : List ℕ) (at i : ℕ) : Type 0 where
  pub done : List ℕ
  pub from : at ≤ i
  pub sized : length done ≡ i - at
  pub split : drop at s ≡ done ++ drop i s
  pub left : body (drop at (marked s)) ≡ pre done (body (drop i (marked s)))

pub body-start : {s : List ℕ} {at : ℕ} → Body s at at
body-start {s} {at} =
    record { done = []; from = omega arith; sized = omega arith; split = refl; left = sym (pre_nil (body (drop at (marked s)))) }

-- a raw text that does not end well
raw_no : {s : List ℕ} {at : ℕ} {res : Result (List ℕ)} → res ≡ fault no_token → Raw s at None res
unfolding scanned_by
raw_no e =
    record {
      scans = rw e (record { by = tt });
      is = λ x c rest u q. absurd (none-some x u);
      next = λ x u. absurd (none-some x u);
    }

-- a byte of it
module _ {s : List ℕ} {at i : ℕ} (inv : Body s at i) {k : RawByte} (h : i < length s) (x : BodyByte (get_or s i 0) k) where
  here : body (drop at (marked s)) ≡ pre inv.done (body_next k (get_or s i 0) (drop (i + 1) (marked s)))
  here =
      inv.left
      ∙ ap (λ (u : List ℕ). pre inv.done (body u)) (front-marked s i h)
      ∙ ap (pre inv.done) (body-next (get_or s i 0) k (drop (i + 1) (marked s)) x.is)

  byte-closes : k ≡ Ends → Raw s at (Some (record { next = i + 1; size = i - at })) (body (drop at (marked s)))
  unfolding scanned_by body_next bind
  byte-closes e =
      let r : body (drop at (marked s)) ≡ ok (inv.done ++ []) (drop (i + 1) (marked s)) = rw e at here in
      let r' : body (drop at (marked s)) ≡ ok inv.done (drop (i + 1) (marked s)) = r ∙ ap (λ (u : List ℕ). ok u (drop (i + 1) (marked s))) (append-nil inv.done) in
      record {
        scans = rw r' (record { by = record { size = sym inv.sized; left = refl; inside = omega arith; ahead = omega (arith, inv.from); short = omega (arith, inv.from) } });
        is = λ x c rest u q.
            let f : c ≡ inv.done = ok-content (sym q ∙ r') in
            let n : x.size ≡ i - at = sym (ap (λ (y : LiteralScan). y.size) (same_Some _ _ u)) in
            rw n (f ∙ sym (ap (take (i - at)) inv.split ∙ take_at inv.done (drop i s) (i - at) inv.sized));
        next = λ x u. rw (← same_Some _ _ u) (omega (arith, inv.from));
      }

  byte-wrong : k ≡ Refused → body (drop at (marked s)) ≡ fault no_token
  unfolding body_next bind
  byte-wrong e = rw e at here

  byte-stands : k ≡ Stands → Body s at (i + 1)
  unfolding body_next
  byte-stands z =
      let b = get_or s i 0 in
      record {
        done = inv.done ++ (b ∷ []);
        from = omega (arith, inv.from);
        sized = length-append inv.done (b ∷ []) ∙ omega (arith, inv.sized, inv.from);
        split = inv.split ∙ ap (λ (u : List ℕ). inv.done ++ u) (front s i h) ∙ sym (append_assoc inv.done (b ∷ []) (drop (i + 1) s));
        left = (rw z at here) ∙ pre_pre inv.done (b ∷ []) (body (drop (i + 1) (marked s)));
      }

-- the run before it
bytes-stand : {s : List ℕ} {at i : ℕ} (n : ℕ) → Body s at i → ((j : ℕ) → i ≤ j → j < i + n → Textual 0x27 0x5c (get_or s j 0)) → i + n ≤ length s → Body s at (i + n)
bytes-stand zero inv f l = rw add-zero inv
bytes-stand {s} {at} {i} (suc n) inv f l =
    let t = f i (omega arith) (omega arith) in
    let z : i + 1 + n ≡ i + suc n = omega arith in
    let x = body_plain (get_or s i 0) t.first t.second t.high t.low in
    rw z at (bytes-stand {i = i + 1} n (byte-stands inv (omega arith) x refl) (λ j a b. f j (omega arith) (omega arith)) (omega arith))

pub body_end : {s : List ℕ} {at i : ℕ} → Body s at i → length s ≤ i → Raw s at None (body (drop at (marked s)))
unfolding body is_body is class_number class_of class_in class_rows is_in bind
body_end {s} {at} {i} inv h =
    let e : body (drop i (marked s)) ≡ fault no_token = past (λ u. body u ≡ fault no_token) s i h refl refl in
    raw_no (inv.left ∙ ap (pre inv.done) e)

module _ {s : List ℕ} {at i stop : ℕ} (inv : Body s at i) (y : TextRun s 0x27 0x5c i stop) where
  body_run : Body s at stop
  body_run =
      let z : i + (stop - i) ≡ stop = omega (arith, y.ahead) in
      rw z at (bytes-stand (stop - i) inv (λ j a b. y.is j a (omega arith)) (omega (arith, y.inside)))

  pub body_open : length s ≤ stop → Raw s at None (body (drop at (marked s)))
  body_open h = body_end body_run h

  module _ (h : stop < length s) where
    pub body_close : BodyByte (get_or s stop 0) Ends → Raw s at (Some (record { next = stop + 1; size = stop - at })) (body (drop at (marked s)))
    body_close x = byte-closes body_run h x refl

    pub body-wrong : BodyByte (get_or s stop 0) Refused → Raw s at None (body (drop at (marked s)))
    body-wrong x = raw_no (byte-wrong body_run h x refl)

    pub body-on : BodyByte (get_or s stop 0) Stands → Body s at (stop + 1)
    body-on x = byte-stands body_run h x refl

pub ruleset raw_ways = (body_open, body_close, body-wrong, body_end)

-- CONTENT

pub after_nil : (c : Content) → after [] c ≡ c
unfolding after
after_nil (stands_for c) = refl
after_nil bad = refl

pub after-after : (u w : List ℕ) (c : Content) → after u (after w c) ≡ after (u ++ w) c
unfolding after
after-after u w (stands_for c) = ap stands_for (sym (append_assoc u w c))
after-after u w bad = refl

pub content-is : {c d : List ℕ} → stands_for c ≡ stands_for d → c ≡ d
content-is e = cc

pub decodes : {r : Option LiteralScan} {res : Content} (res' : Content) → res ≡ res' → decoded_by r res' → Decodes r res
decodes res' e d = rw e (record { by = d })
