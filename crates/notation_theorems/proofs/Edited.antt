-- The substitution theorem for whole texts: with their length, and UTF-8.
use Prim.Native.Nat.{ℕ, suc, ◌-◌, ◌≤◌, ◌<◌}
use native.Mathlib.Omega.{arith}
use mathlib.Core.Path.{◌≡◌, refl, sym, ap, ◌∙◌}
use mathlib.Core.Logic.{◌⊎◌, inl, inr, ⊎_elim}
use mathlib.Core.Bool.{Bool, true, false}
use mathlib.Core.List.{List, [], ◌∷◌, ◌++◌, append_assoc, append-nil, head-eq_of_cons-eq, append_cancel_right}
use lib.Dec.{leb, eqb}
use lib.Seq.{take_at, drop_at}
use lib.ListN.{length, take as takeN, drop as dropN, length-append, length-take, length-drop, take-append-drop}
use borrow.Author.Tests.{le-leb, leb-true, leb-false, eq-eqb, eqb-true, eqb-false}
use Rattle.cbor.specs.Refusals.{Result, ok, refuse, bind, Verdict, accepted, refused, verdict_of, too_long, not_utf8, no_token, not_allowed}
use Rattle.cbor.specs.Items.{Item, Items}
use Rattle.cbor.specs.Utf8.{is_in, rows, follow_in, follow, are_in, sequence_by, first_bad_from, first_bad, is_utf8}
use Rattle.cbor.specs.Valid.{Bytes}
use Rattle.cbor.proofs.Table.{between}
use Rattle.cbor.proofs.Heads.{bytes_cut}
use Rattle.cbor.specs.Decode.{most_bytes, most_levels}
use Rattle.cbor.specs.Paths.{locate, change_nth, change_in, change_at, replace_at}
use Rattle.cbor.proofs.Results.{refuse_not_ok, refused_not_accepted, verdict_ok}
use Rattle.cbor.proofs.Utf8Laws.{utf8_append, utf8_join, utf8-bytes, utf8-ascii-cut}
use Rattle.cbor.proofs.Tests.{is_true, clash}
use Rattle.notation.specs.Classes.{Class, other, blank, slash, hash, class_number, class_rows, class_in, class_of, is}
use Rattle.notation.specs.Scanning.{skip}
use Rattle.notation.specs.Tokens.{begins}
use Rattle.notation.specs.Cutting.{cut_by, cut, place, placed, next}
use Rattle.notation.specs.Form.{one, Closed, reads}
use Rattle.notation.specs.Reading.{marked, checked, sequence, read_text, alone, single, read_item}
use Rattle.notation.specs.Places.{levels_at, Span, text_at, edited}
use Rattle.notation.specs.Theorems.{EditedText}
use Rattle.notation_theorems.proofs.Good.{stop_nil, like, Took}
use Rattle.notation_theorems.proofs.ScanningElements.{class-is, high-other}
use Rattle.notation_theorems.proofs.ScanningBlanks.{skip-token}
use Rattle.notation_theorems.proofs.Locality.{lexing}
use Rattle.notation_theorems.proofs.Splice.{bind-map, Refuses, Next}
use Rattle.notation_theorems.proofs.ByName.{bind_ok, took, reads-skips}
use Rattle.notation_theorems.proofs.Equations.{one-starts}
use Rattle.notation_theorems.proofs.Substitution.{not_empty, Spanned, spanned, filled, blocked, located, text_hole, first-token, start-cut, behind-cut}

-- WHAT A VERDICT COMES FROM

-- a text that passes 1 and 2
pub record Passes (s : List ℕ) : Type 0 where
  pub short : length s ≤ most_bytes
  pub utf8 : is_utf8 s ≡ true

pub checked-ok : {A : Type 0} (s : List ℕ) (v : Verdict A) {x : A} → checked s v ≡ accepted x → Passes s × (v ≡ accepted x)
unfolding checked
checked-ok {A} s v {x} e = long (leb (length s) most_bytes) refl e
  where
    text : length s ≤ most_bytes → (b : Bool) → is_utf8 s ≡ b → ◌≡◌ {A = Verdict A} (elim b [ true ↦ v | false ↦ refused not_utf8 (first_bad s) ]) (accepted x) → Passes s × (v ≡ accepted x)
    text h true i f = (record { short = h; utf8 = i }, f)
    text h false i f = absurd (refused_not_accepted f)

    long : (b : Bool) → leb (length s) most_bytes ≡ b
        → ◌≡◌ {A = Verdict A} (elim b [ true ↦ elim (is_utf8 s) [ true ↦ v | false ↦ refused not_utf8 (first_bad s) ] | false ↦ refused too_long 0 ]) (accepted x) → Passes s × (v ≡ accepted x)
    long true i f = text (leb-true (length s) most_bytes i) (is_utf8 s) refl f
    long false i f = absurd (refused_not_accepted f)

pub checked-is : {A : Type 0} (s : List ℕ) (v : Verdict A) → Passes s → checked s v ≡ v
unfolding checked
checked-is s v h = rw (le-leb (length s) most_bytes h.short, checked) (rw h.utf8)

-- UTF-8

pub ascii-utf8 : (c : ℕ) → c < 128 → is_utf8 (c ∷ []) ≡ true
unfolding is_utf8 first_bad first_bad_from follow follow_in rows is_in sequence_by are_in
ascii-utf8 c h = is_true (is_utf8 (c ∷ [])) (between (λ k. is_utf8 (k ∷ [])) 0 128 tt c (omega arith) h)

utf8_cons : (c : ℕ) (s : List ℕ) → c < 128 → is_utf8 s ≡ true → is_utf8 (c ∷ s) ≡ true
utf8_cons c s h i = utf8_join (c ∷ []) s (ascii-utf8 c h) i

utf8_tail : (c : ℕ) (s : List ℕ) → c < 128 → is_utf8 (c ∷ s) ≡ true → is_utf8 s ≡ true
unfolding is_utf8
utf8_tail c s h i =
    let e = eqb-true (first_bad (c ∷ s)) (suc (length s)) i in
    let f = utf8_append (c ∷ []) s (ascii-utf8 c h) in
    eq-eqb (first_bad s) (length s) (omega arith)

-- an element is ASCII, or the end mark, or no token begins with it
data Element (b : ℕ) : Type 0 where
  low : b < 128 → Element b
  mark : b ≡ 256 → Element b
  high : class_of b ≡ other → Element b

element_of : (b : ℕ) → Element b
element_of b = go (leb 128 b) refl (eqb b 256) refl
  where
    go : (v : Bool) → leb 128 b ≡ v → (w : Bool) → eqb b 256 ≡ w → Element b
    go false i w j = low (leb-false 128 b i)
    go true i true j = mark (eqb-true b 256 j)
    go true i false j = high (high-other b (leb-true 128 b i) (eqb-false b 256 j))

blank-ascii : (b : ℕ) → is blank b ≡ true → b < 128
unfolding is class_number class_of class_in class_rows is_in
blank-ascii b h = go (element_of b)
  where
    go : Element b → b < 128
    go (low i) = i
    go (mark i) = absurd (clash (sym (rw i at h)))
    go (high i) = absurd (clash (sym (rw i at h)))

-- a text that begins with an ASCII byte, or with the end mark
abbrev HeadAscii : List ℕ → Type 0
HeadAscii s = (b : ℕ) × (u : List ℕ) × (s ≡ b ∷ u) × ((b < 128) ⊎ (b ≡ 256))

next-ascii : (s : List ℕ) → Next s → HeadAscii s
unfolding is class_number
next-ascii [] n = absurd (omega (arith, not_empty [] n))
next-ascii (b ∷ u) n = go (element_of b)
  where
    go : Element b → HeadAscii (b ∷ u)
    go (low i) = (b, u, refl, inl i)
    go (mark i) = (b, u, refl, inr i)
    go (high i) =
        let m = lexing.ascii (b ∷ u) n.0 n.1 n.2 in
        let k : b ≡ m.0 = head-eq_of_cons-eq (sym (skip-token b u (rw i) (rw i) (rw i)) ∙ m.2) in
        (b, u, refl, rw k m.3)

-- a text may be cut where such a text stands
cut-utf8 : (n : ℕ) (s : List ℕ) → is_utf8 s ≡ true → HeadAscii (marked (dropN n s)) → (is_utf8 (takeN n s) ≡ true) × (is_utf8 (dropN n s) ≡ true)
unfolding marked Bytes is_utf8 first_bad first_bad_from
cut-utf8 n s h (b, u, i, j) = go (dropN n s) refl i
  where
    split : takeN n s ++ dropN n s ≡ s
    split = take-append-drop n s

    go : (d : List ℕ) → dropN n s ≡ d → d ++ 256 ∷ [] ≡ b ∷ u → (is_utf8 (takeN n s) ≡ true) × (is_utf8 d ≡ true)
    go [] f k = (rw (← append-nil (takeN n s), ← f, split) h, refl)
    go (c ∷ v) f k =
        ⊎_elim (λ l. utf8-ascii-cut (takeN n s) v c (rw (head-eq_of_cons-eq k) l) (rw (← f, split) h))
        (λ m. absurd (omega (arith, rw f at (bytes_cut n s (utf8-bytes s h)).1, head-eq_of_cons-eq k))) j

-- THE EDITED TEXT

module _ (s : List ℕ) (z : Span) (b₁ b₂ : ℕ) (h₁ : is blank b₁ ≡ true) (h₂ : is blank b₂ ≡ true) (new : List ℕ) where
  edited-utf8 : is_utf8 (takeN z.start s) ≡ true → is_utf8 (dropN z.end s) ≡ true → is_utf8 new ≡ true → is_utf8 (edited s z b₁ new b₂) ≡ true
  unfolding edited
  edited-utf8 f d n =
      utf8_join (takeN z.start s) (b₁ ∷ (new ++ (b₂ ∷ dropN z.end s))) f
      (utf8_cons b₁ (new ++ (b₂ ∷ dropN z.end s)) (blank-ascii b₁ h₁) (utf8_join new (b₂ ∷ dropN z.end s) n (utf8_cons b₂ (dropN z.end s) (blank-ascii b₂ h₂) d)))

  new_utf8 : is_utf8 (edited s z b₁ new b₂) ≡ true → is_utf8 new ≡ true
  unfolding edited
  new_utf8 h =
      let f = utf8-ascii-cut (takeN z.start s) (new ++ (b₂ ∷ dropN z.end s)) b₁ (blank-ascii b₁ h₁) h in
      (utf8-ascii-cut new (dropN z.end s) b₂ (blank-ascii b₂ h₂) (utf8_tail b₁ (new ++ (b₂ ∷ dropN z.end s)) (blank-ascii b₁ h₁) f.1)).0

  new_short : length (edited s z b₁ new b₂) ≤ most_bytes → length new ≤ most_bytes
  unfolding edited
  new_short h = omega (arith, simp length-append at h)

-- what a refusal comes from
data Refusal {A : Type 0} (s : List ℕ) (R : Result A) (n : ℕ) : Type 0 where
  long : most_bytes < length s → Refusal s R n
  broken : is_utf8 s ≡ false → Refusal s R n
  inside : (w : ℕ) → R ≡ refuse n w → Refusal s R n

verdict_refused : {A : Type 0} (m : ℕ) (R : Result A) {n q : ℕ} → verdict_of m R ≡ refused n q → (w : ℕ) × (R ≡ refuse n w)
unfolding verdict_of
verdict_refused m (ok x r) e = absurd (refused_not_accepted (sym e))
verdict_refused m (refuse k w) e = (w, ap (λ (v : ℕ). refuse v w) (cc))

checked_refused : {A : Type 0} (s : List ℕ) (m : ℕ) (R : Result A) {n q : ℕ} → checked s (verdict_of m R) ≡ refused n q → Refusal s R n
unfolding checked
checked_refused {A} s m R {n} {q} e = long? (leb (length s) most_bytes) refl e
  where
    text? : (b : Bool) → is_utf8 s ≡ b → ◌≡◌ {A = Verdict A} (elim b [ true ↦ verdict_of m R | false ↦ refused not_utf8 (first_bad s) ]) (refused n q) → Refusal s R n
    text? true i f = let v = verdict_refused m R f in inside v.0 v.1
    text? false i f = broken i

    long? : (b : Bool) → leb (length s) most_bytes ≡ b
        → ◌≡◌ {A = Verdict A} (elim b [ true ↦ elim (is_utf8 s) [ true ↦ verdict_of m R | false ↦ refused not_utf8 (first_bad s) ] | false ↦ refused too_long 0 ]) (refused n q) → Refusal s R n
    long? true i f = text? (is_utf8 s) refl f
    long? false i f = long (leb-false (length s) most_bytes i)

-- a text that is not accepted is refused
abbrev NotAccepted : {A : Type 0} → Verdict A → Type 0
NotAccepted v = (m : ℕ) × (w : ℕ) × (v ≡ refused m w)

broken-refused : {A : Type 0} (s : List ℕ) (v : Verdict A) → is_utf8 s ≡ false → NotAccepted (checked s v)
unfolding checked
broken-refused {A} s v i = go (leb (length s) most_bytes)
  where
    go : (b : Bool) → NotAccepted {A = A} (elim b [ true ↦ elim (is_utf8 s) [ true ↦ v | false ↦ refused not_utf8 (first_bad s) ] | false ↦ refused too_long 0 ])
    go true = (not_utf8, first_bad s, rw i)
    go false = (too_long, 0, refl)

refuses-refused : {A B : Type 0} (s : List ℕ) (m n : ℕ) (R : Result A) (f : A → List ℕ → Result B) → Refuses n R → NotAccepted (checked s (verdict_of m (bind R f)))
unfolding checked bind verdict_of
refuses-refused s m n (ok x r) f h = absurd h
refuses-refused {B = B} s m n (refuse k w) f h = go (leb (length s) most_bytes) (is_utf8 s)
  where
    go : (a b : Bool) → NotAccepted {A = B} (elim a [ true ↦ elim b [ true ↦ refused k (m - w) | false ↦ refused not_utf8 (first_bad s) ] | false ↦ refused too_long 0 ])
    go true true = (k, m - w, refl)
    go true false = (not_utf8, first_bad s, refl)
    go false b = (too_long, 0, refl)

-- a text and the items that it has
pub record Read (t : List ℕ) (xs : Items) : Type 0 where
  pub passes : Passes t
  pub closed : Closed
  pub rest : List ℕ
  pub reading : sequence t ≡ ok closed rest
  pub all : closed.all ≡ xs

pub read_ok : (t : List ℕ) (xs : Items) → read_text t ≡ accepted xs → Read t xs
unfolding read_text
read_ok t xs e =
    let c = checked-ok t _ e in
    let v = verdict_ok (suc (length t)) (bind (sequence t) (λ c r. ok c.all r)) c.1 in
    let i = bind-map (sequence t) (λ c. c.all) v.1 in
    record { passes = c.0; closed = i.0; rest = v.0; reading = i.1; all = i.2 }

read_is : (t : List ℕ) (c : Closed) (r : List ℕ) → Passes t → sequence t ≡ ok c r → read_text t ≡ accepted c.all
unfolding read_text verdict_of
read_is t c r h e = checked-is t _ h ∙ ap (verdict_of (suc (length t))) (bind_ok _ e)

-- nothing more is skipped of what is left
pub skip_twice : (s : List ℕ) → skip (skip s) ≡ skip s
skip_twice s = let f = lexing.skips s in sym (f.2 (skip s)) ∙ ap skip (sym f.1)

skip-most : (s : List ℕ) → length (skip s) ≤ length s
skip-most s = omega (arith, simp length-append at (ap length (lexing.skips s).1))

starts-next : (d : ℕ) (s : List ℕ) {x : Item} {r : List ℕ} → reads (one d) s ≡ ok x r → Next s
starts-next d s e = let o = one-starts d s e in (begins o.0, o.1, o.2)

-- a token's first byte is no blank and begins no comment, whatever follows it
solid : (b : ℕ) (u v : List ℕ) → skip (b ∷ u) ≡ b ∷ u → Next (b ∷ u) → skip (b ∷ v) ≡ b ∷ v
unfolding next place placed cut cut_by
solid b u v e n = skip-token b v (blank? (is blank b) refl) (no slash refl (is slash b) refl) (no hash refl (is hash b) refl)
  where
    blank? : (w : Bool) → is blank b ≡ w → is blank b ≡ false
    blank? true i = absurd (omega (arith, ap length (sym (lexing.blank_skip b u i) ∙ e), skip-most u))
    blank? false i = i

    no : (c : Class) → cut_by c b u ≡ refuse no_token 0 → (w : Bool) → is c b ≡ w → is c b ≡ false
    no c f true i =
        let q : next (b ∷ u) ≡ refuse no_token (suc (length u)) = rw e (rw (class-is c b i) (rw f)) in
        absurd (refuse_not_ok (sym q ∙ n.2))
    no c f false i = i

own_solid : (used behind from : List ℕ) → used ++ behind ≡ skip from → Next (skip from) → skip used ≡ used
own_solid [] behind from e n = lexing.skip_nil
own_solid (b ∷ u) behind from e n = solid b (u ++ behind) u (rw e (skip_twice from)) (rw e n)

module _ (t : List ℕ) (xs : Items) (k : ℕ) (p : List ℕ) (z : Span) (rd : Read t xs) (sp : Spanned k p t z) where
  front-utf8 : is_utf8 (takeN z.start t) ≡ true
  front-utf8 =
      let f = first-token k p t z rd.closed rd.rest rd.reading sp in
      (cut-utf8 z.start t rd.passes.utf8 (f.0, f.1, start-cut k p t z rd.closed rd.rest rd.reading sp ∙ f.2, f.3)).0

  back-utf8 : is_utf8 (dropN z.end t) ≡ true
  back-utf8 =
      let h = next-ascii sp.behind ((text_hole k p t z rd.closed rd.rest rd.reading sp).ends tt) in
      (cut-utf8 z.end t rd.passes.utf8 (h.0, h.1, behind-cut k p t z rd.closed rd.rest rd.reading sp ∙ h.2, h.3)).1

  -- THE ITEM'S OWN TEXT: what is used of the text from its first token on
  own_is : reads (one (levels_at most_levels p)) (skip sp.from) ≡ ok sp.old sp.behind
  own_is = reads-skips (one (levels_at most_levels p)) sp.from (skip sp.from) (skip_twice sp.from) ∙ sp.was

  pub own : Took (λ m n. reads (one (levels_at most_levels p))) (skip sp.from) sp.old sp.behind
  own = took (one (levels_at most_levels p)) (skip sp.from) own_is

  starts-at : marked (dropN z.start t) ≡ skip sp.from
  starts-at = start-cut k p t z rd.closed rd.rest rd.reading sp

  ends_at : marked (dropN z.end t) ≡ sp.behind
  ends_at = behind-cut k p t z rd.closed rd.rest rd.reading sp

  own_split : dropN z.start t ≡ own.used ++ dropN z.end t
  unfolding marked
  own_split =
      append_cancel_right (dropN z.start t) (own.used ++ dropN z.end t) (256 ∷ [])
      (starts-at ∙ own.split ∙ ap (λ (u : List ℕ). own.used ++ u) (sym ends_at) ∙ sym (append_assoc own.used (dropN z.end t) (256 ∷ [])))

  own_length : length own.used ≡ z.end - z.start
  unfolding marked
  own_length =
      omega
      (arith, sp.start, sp.end, simp length-append at (ap length own.split), simp (length-append, length-drop) at (ap length starts-at), simp (length-append, length-drop) at (ap length ends_at))

  pub own_text : text_at t z ≡ own.used
  unfolding text_at
  own_text = ap (takeN (z.end - z.start)) own_split ∙ take_at own.used (dropN z.end t) (z.end - z.start) own_length

  own_rest : dropN (z.end - z.start) (dropN z.start t) ≡ dropN z.end t
  own_rest = ap (dropN (z.end - z.start)) own_split ∙ drop_at own.used (dropN z.end t) (z.end - z.start) own_length

  own_reads : reads (one (levels_at most_levels p)) own.used ≡ ok sp.old []
  own_reads = ap (reads (one (levels_at most_levels p))) (sym (append-nil own.used)) ∙ own.again 0 0 [] (like stop_nil)

  own_single : single (levels_at most_levels p) own.used ≡ ok sp.old []
  unfolding single alone place
  own_single = rw (own_solid own.used sp.behind sp.from (sym own.split) (starts-next (levels_at most_levels p) (skip sp.from) own_is), eq-eqb (length own.used) (length own.used) refl, single) (bind_ok _ own_reads)

  own_utf8 : is_utf8 (text_at t z) ≡ true
  unfolding text_at
  own_utf8 =
      let f = first-token k p t z rd.closed rd.rest rd.reading sp in
      let h = next-ascii sp.behind ((text_hole k p t z rd.closed rd.rest rd.reading sp).ends tt) in
      let d = (cut-utf8 z.start t rd.passes.utf8 (f.0, f.1, starts-at ∙ f.2, f.3)).1 in
      (cut-utf8 (z.end - z.start) (dropN z.start t) d (h.0, h.1, ap marked own_rest ∙ ends_at ∙ h.2, h.3)).0

  own_short : length (text_at t z) ≤ most_bytes
  unfolding text_at
  own_short = simp (length-take, length-drop) (omega (arith, rd.passes.short))

  own_item : read_item (levels_at most_levels p) (text_at t z) ≡ accepted sp.old
  unfolding read_item verdict_of
  own_item = checked-is (text_at t z) _ (record { short = own_short; utf8 = own_utf8 }) ∙ ap (verdict_of (length (text_at t z))) (ap (single (levels_at most_levels p)) own_text ∙ own_single)

  module _ (b₁ b₂ : ℕ) (h₁ : is blank b₁ ≡ true) (h₂ : is blank b₂ ≡ true) (new : List ℕ) (short : length (edited t z b₁ new b₂) ≤ most_bytes) where
    replaces : (y : Item) → read_item (levels_at most_levels p) new ≡ accepted y → read_text (edited t z b₁ new b₂) ≡ accepted (replace_at (k ∷ p) y xs)
    unfolding read_item replace_at change_at
    replaces y i =
        let c = checked-ok new _ i in
        let v = verdict_ok (length new) (single (levels_at most_levels p) new) c.1 in
        let f = filled k p t z rd.closed rd.rest rd.reading sp b₁ b₂ h₁ h₂ new v.1 in
        let u = edited-utf8 t z b₁ b₂ h₁ h₂ new front-utf8 back-utf8 c.0.utf8 in
        read_is (edited t z b₁ new b₂) _ _ (record { short = short; utf8 = u }) f ∙ ap (λ (v : Items). accepted (change_nth k (change_in p (λ x. y)) v)) rd.all

    refuses : (n q : ℕ) → read_item (levels_at most_levels p) new ≡ refused n q → (n ≡ no_token → ⊥) → (n ≡ not_allowed → ⊥) → NotAccepted (read_text (edited t z b₁ new b₂))
    unfolding read_item read_text
    refuses n q i n3 n11 = go (checked_refused new (length new) (single (levels_at most_levels p) new) i)
      where
        go : Refusal new (single (levels_at most_levels p) new) n → NotAccepted (read_text (edited t z b₁ new b₂))
        go (long h) = absurd (omega (arith, new_short t z b₁ b₂ h₁ h₂ new short))
        go (broken h) = broken-refused (edited t z b₁ new b₂) _ (bad (is_utf8 (edited t z b₁ new b₂)) refl)
          where
            bad : (v : Bool) → is_utf8 (edited t z b₁ new b₂) ≡ v → is_utf8 (edited t z b₁ new b₂) ≡ false
            bad true f = absurd (clash (sym (new_utf8 t z b₁ b₂ h₁ h₂ new f) ∙ h))
            bad false f = f
        go (inside w h) =
            refuses-refused (edited t z b₁ new b₂) (suc (length (edited t z b₁ new b₂))) n (sequence (edited t z b₁ new b₂)) (λ c r. ok c.all r)
            (blocked k p t z rd.closed rd.rest rd.reading sp b₁ b₂ h₁ h₂ new n w (record { not3 = n3; not11 = n11 }) h)

pub edited-text : EditedText
edited-text t xs k p z e f =
    let rd = read_ok t xs e in
    let sp = spanned k p t z f in
    let o = located k p t z rd.closed rd.rest rd.reading sp in
    record {
      spot = o.0;
      place = ap (locate (k ∷ p)) (sym rd.all) ∙ o.1;
      same = own_item t xs k p z rd sp ∙ ap accepted (sym o.2);
      replaces = λ b₁ b₂ h₁ h₂ new y l i. replaces t xs k p z rd sp b₁ b₂ h₁ h₂ new l y i;
      refuses = λ b₁ b₂ h₁ h₂ new n q l i n3 n11. refuses t xs k p z rd sp b₁ b₂ h₁ h₂ new l n q i n3 n11;
    }
