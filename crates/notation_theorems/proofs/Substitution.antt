-- THE SUBSTITUTION THEOREM: the text of one item in the place of an item of a text.
use Prim.Native.Nat.{ℕ, zero, suc, ◌-◌, ◌≤◌, ◌<◌}
use native.Mathlib.Omega.{arith}
use mathlib.Core.Path.{◌≡◌, refl, sym, ap, ◌∙◌}
use mathlib.Core.Bool.{Bool, true, false}
use mathlib.Core.Logic.{◌⊎◌}
use mathlib.Core.List.{List, [], ◌∷◌, ◌++◌, append_assoc, append-nil}
use lib.Dec.{eqb}
use lib.ListN.{length, length-append, take as takeN, drop as dropN}
use lib.Seq.{take_at, drop_at, take-append-le, drop-append-le}
use Rattle.cbor.specs.Refusals.{Result, ok, refuse, bind, not_allowed}
use Rattle.cbor.specs.Items.{Item}
use Rattle.cbor.specs.Decode.{most_levels}
use Rattle.cbor.specs.Paths.{Spot, found, onward, descend, locate, change_in}
use Rattle.cbor.proofs.Results.{refuse_not_ok}
use Rattle.notation.specs.Classes.{blank, is}
use Rattle.notation.specs.Scanning.{skip}
use Rattle.notation.specs.Tokens.{Beginning, whole, Token, begins, closes, a_comma, a_colon}
use Rattle.notation.specs.Cutting.{next, place, placed, cut}
use Rattle.notation.specs.Form.{at_start, one, items, Closed, Rule, stray, shape_number, obey, reads}
use Rattle.notation.specs.Reading.{marked, sequence, outside, alone, single}
use Rattle.notation.specs.Places.{into, to_element, toward, levels_at, around, Span, span_of, span_at, edited}
use Rattle.notation_theorems.proofs.Good.{blank-at, blank_stop, Like, like, like_more, Hard}
use Rattle.notation_theorems.proofs.Locality.{lexing}
use Rattle.notation_theorems.proofs.ByName.{took, refused_stays, took-next, reads-skips}
use Rattle.notation_theorems.proofs.Splice.{bind_inv, Refuses, Behind, Blocked, Equal, Skips, Next, Any, Hole}
use Rattle.notation_theorems.proofs.Equations.{one-starts}
use Rattle.notation_theorems.proofs.Replace.{HasNth, Has, change_all, has_down, spot-within, items_hole, into_hole}

-- DOWN A PATH

into-begins : (d : ℕ) (go : Rule Unit) (k : ℕ) (t : Token) (p q : ℕ) (u : List ℕ) {b : List ℕ} → obey reads (into d go k t) p q u ≡ ok tt b → (w : Beginning) × (t ≡ begins w)
unfolding into obey
into-begins d go k (begins w) p q u e = (w, refl)
into-begins d go k (closes h i) p q u e = absurd (refuse_not_ok e)
into-begins d go k a_comma p q u e = absurd (refuse_not_ok e)
into-begins d go k a_colon p q u e = absurd (refuse_not_ok e)

toward-starts : (p : List ℕ) (d : ℕ) (b a : List ℕ) (y : Item) → reads (one (levels_at d p)) b ≡ ok y a → (m n : ℕ) (s : List ℕ) → obey reads (toward d p) m n s ≡ ok tt b
    → (w : Beginning) × (r : List ℕ) × (next s ≡ ok (begins w) r)
unfolding toward levels_at obey
toward-starts [] d b a y ey m n s o = let e : s ≡ b = cc in one-starts d s (ap (reads (one d)) e ∙ ey)
toward-starts (k ∷ p) zero b a y ey m n s o = absurd (refuse_not_ok o)
toward-starts (k ∷ p) (suc d) b a y ey m n s o =
    let i = bind_inv (next s) _ o in
    let w = into-begins d (toward d p) k i.0 m (place s) i.1 i.3 in
    (w.0, i.1, i.2 ∙ ap (λ t. ok t i.1) w.1)

one_hole : (p : List ℕ) (d : ℕ) (b a : List ℕ) (y : Item) → reads (one (levels_at d p)) b ≡ ok y a → (m n : ℕ) (s : List ℕ) → obey reads (toward d p) m n s ≡ ok tt b
    → (x : Item) (r : List ℕ) → reads (one d) s ≡ ok x r
    → Hole Skips (Blocked d) Next (levels_at d p) b a (Has p y) (λ z. change_in p (λ x. z)) (λ p q. reads (one d)) s x r
unfolding toward levels_at obey change_in descend
one_hole [] d b a y ey m n s o x r er =
    let e : s ≡ b = cc in
    let f : ok x r ≡ ok y a = sym er ∙ ap (reads (one d)) e ∙ ey in
    let g : a ≡ r = cc in
    record { front = []; split = e; holds = λ i. (_, refl, cc); ends = λ n. rw g n; fill = λ b' a' z l i n p q. (a', n ∙ ap skip g, i); block = λ b' k l hard i p q. i }
one_hole (k ∷ p) zero b a y ey m n s o x r er = absurd (refuse_not_ok o)
one_hole (k ∷ p) (suc d) b a y ey m n s o x r er =
    let i = bind_inv (next s) _ o in
    let h = into_hole (levels_at d p) b a d k (toward d p) (Has p y) (λ z. change_in p (λ x. z)) (toward-starts p d b a y ey) (one_hole p d b a y ey) i.0 s i.1 m (place s) i.2 i.3 x r er in
    record { front = h.front; split = h.split; holds = has_down k p y x h.holds; ends = h.ends; fill = h.fill; block = h.block }

-- THE TEXT OF ONE ITEM, in front of a blank

outside_not : {A : Type 0} (d : ℕ) (s : List ℕ) {x : A} {r : List ℕ} → outside d s ≡ ok x r → ⊥
unfolding outside bind
outside_not {A} d s {x} {r} e = go (eqb (place s) (length s)) e
  where
    at-token : (R : Result Token) → bind {B = A} R (λ t u. refuse (stray d t) (length s)) ≡ ok x r → ⊥
    at-token (ok t u) f = refuse_not_ok f
    at-token (refuse k w) f = refuse_not_ok f

    go : (v : Bool) → ◌≡◌ {A = Result A} (elim v [ true ↦ bind (next s) (λ t u. refuse (stray d t) (length s)) | false ↦ refuse not_allowed (length s) ]) (ok x r) → ⊥
    go true f = at-token (next s) f
    go false f = refuse_not_ok f

alone-ok : (d : ℕ) (x : Item) (z : List ℕ) {y : Item} {r : List ℕ} → alone d x z ≡ ok y r → ok x z ≡ ok y []
unfolding alone
alone-ok d x [] e = ap (λ (v : Item). ok v []) (cc)
alone-ok d x (b ∷ z) e = absurd (outside_not d (b ∷ z) e)

pub single-ok : (d : ℕ) (new : List ℕ) {y : Item} {r : List ℕ} → single d new ≡ ok y r → reads (one d) new ≡ ok y []
unfolding single
single-ok d new {y} {r} e = go (eqb (place new) (length new)) e
  where
    go : (v : Bool) → elim v [ true ↦ bind (reads (one d) new) (alone d) | false ↦ refuse not_allowed (length new) ] ≡ ok y r → reads (one d) new ≡ ok y []
    go true f = let i = bind_inv (reads (one d) new) (alone d) f in i.2 ∙ alone-ok d i.0 i.1 i.3
    go false f = absurd (refuse_not_ok f)

module _ (d b₁ b₂ : ℕ) (h₁ : is blank b₁ ≡ true) (h₂ : is blank b₂ ≡ true) (new t : List ℕ) where
  between_blanks : reads (one d) (b₁ ∷ (new ++ (b₂ ∷ t))) ≡ reads (one d) (new ++ (b₂ ∷ t))
  between_blanks = reads-skips (one d) (new ++ (b₂ ∷ t)) (b₁ ∷ (new ++ (b₂ ∷ t))) (lexing.blank_skip b₁ (new ++ (b₂ ∷ t)) h₁)

  single-fills : {y : Item} {r : List ℕ} → single d new ≡ ok y r → reads (one d) (b₁ ∷ (new ++ (b₂ ∷ t))) ≡ ok y (b₂ ∷ t)
  single-fills e =
      let k = took (one d) new (single-ok d new e) in
      between_blanks
      ∙ ap (λ (u : List ℕ). reads (one d) (u ++ (b₂ ∷ t))) (k.split ∙ append-nil k.used)
      ∙ k.again 0 0 (b₂ ∷ t) (like (blank_stop (blank-at h₂)))

  -- behind an item, a token that is refused, or may not stand there
  outside_behind : (n w : ℕ) → Hard n → (z : List ℕ) → outside {A = Item} d z ≡ refuse n w → Behind d n (next (z ++ (b₂ ∷ t)))
  unfolding outside bind
  outside_behind n w hard z e = go (eqb (place z) (length z)) e
    where
      at-token : (R : Result Token) → next z ≡ R → bind {B = Item} R (λ t u. refuse (stray d t) (length z)) ≡ refuse n w → Behind d n (next (z ++ (b₂ ∷ t)))
      at-token (ok k u) i f =
          let h = took-next z i in
          let j : next (z ++ (b₂ ∷ t)) ≡ ok k (u ++ (b₂ ∷ t)) = rw (h.split, append_assoc) (h.again 0 0 (u ++ (b₂ ∷ t)) (like_more u (b₂ ∷ t) (blank_stop (blank-at h₂)))) in
          rw j (cc)
      at-token (refuse k v) i f =
          let m : k ≡ n = cc in
          let h = (rw i at (lexing.good z)) (rw m hard) 0 0 (b₂ ∷ t) (blank-at h₂) in
          rw h.1 m

      go : (v : Bool) → ◌≡◌ {A = Result Item} (elim v [ true ↦ bind (next z) (λ t u. refuse (stray d t) (length z)) | false ↦ refuse not_allowed (length z) ]) (refuse n w)
          → Behind d n (next (z ++ (b₂ ∷ t)))
      go true f = at-token (next z) refl f
      go false f = absurd (hard.not11 (cc))

  alone-behind : (n w : ℕ) → Hard n → (x : Item) (z : List ℕ) → alone d x z ≡ refuse n w → Behind d n (next (z ++ (b₂ ∷ t)))
  unfolding alone
  alone-behind n w hard x [] e = absurd (refuse_not_ok (sym e))
  alone-behind n w hard x (b ∷ z) e = outside_behind n w hard (b ∷ z) e

  single_blocks : (n w : ℕ) → Hard n → single d new ≡ refuse n w → Blocked d n (reads (one d) (b₁ ∷ (new ++ (b₂ ∷ t))))
  unfolding single bind
  single_blocks n w hard e = rw between_blanks (go (eqb (place new) (length new)) e)
    where
      at_item : (R : Result Item) → reads (one d) new ≡ R → bind R (alone d) ≡ refuse n w → Blocked d n (reads (one d) (new ++ (b₂ ∷ t)))
      at_item (ok x z) i f =
          let h = took (one d) new i in
          let j : reads (one d) (new ++ (b₂ ∷ t)) ≡ ok x (z ++ (b₂ ∷ t)) = rw (h.split, append_assoc) (h.again 0 0 (z ++ (b₂ ∷ t)) (like_more z (b₂ ∷ t) (blank_stop (blank-at h₂)))) in
          rw j (alone-behind n w hard x z f)
      at_item (refuse k v) i f =
          let m : k ≡ n = cc in
          let h = refused_stays (one d) new i (rw m hard) (b₂ ∷ t) (blank-at h₂) in
          rw h.1 m

      go : (v : Bool) → ◌≡◌ {A = Result Item} (elim v [ true ↦ bind (reads (one d) new) (alone d) | false ↦ refuse not_allowed (length new) ]) (refuse n w) → Blocked d n (reads (one d) (new ++ (b₂ ∷ t)))
      go true f = at_item (reads (one d) new) refl f
      go false f = absurd (hard.not11 (cc))

-- A TEXT AND THE SPAN OF THE ITEM AT A PATH

pub record Spanned (k : ℕ) (p s : List ℕ) (z : Span) : Type 0 where
  pub from : List ℕ
  pub behind : List ℕ
  pub old : Item
  pub way : obey reads (to_element most_levels (toward most_levels p) k) 0 0 (marked s) ≡ ok tt from
  pub was : reads (one (levels_at most_levels p)) from ≡ ok old behind
  pub start : z.start ≡ suc (length s) - length (skip from)
  pub end : z.end ≡ suc (length s) - length behind

span-ok : (n : ℕ) (R : Result (List ℕ)) (z : Span) → span_of n R ≡ found z → (b a : List ℕ) × (R ≡ ok b a) × (z.start ≡ n - length b) × (z.end ≡ n - length a)
unfolding span_of
span-ok n (ok b a) z e = let f : record { start = n - length b; end = n - length a } ≡ z = cc in (b, a, refl, ap (λ (v : Span). v.start) (sym f), ap (λ (v : Span). v.end) (sym f))
span-ok n (refuse k w) z e = let c : ◌≡◌ {A = ℕ} 0 1 = cc in absurd (omega arith)

pub spanned : (k : ℕ) (p s : List ℕ) (z : Span) → span_at (k ∷ p) s ≡ found z → Spanned k p s z
unfolding span_at around
spanned k p s z e =
    let i = span-ok (suc (length s)) (around k p s) z e in
    let j = bind_inv (obey reads (to_element most_levels (toward most_levels p) k) 0 0 (marked s)) _ i.2 in
    let m = bind_inv (reads (one (levels_at most_levels p)) j.1) _ j.3 in
    made j.1 m.1 m.0 i.0 i.1 j.2 m.2 m.3 i.3 i.4
  where
    made : (b a : List ℕ) (y : Item) (b' a' : List ℕ) → obey reads (to_element most_levels (toward most_levels p) k) 0 0 (marked s) ≡ ok tt b → reads (one (levels_at most_levels p)) b ≡ ok y a
        → ok (skip b) a ≡ ok b' a' → z.start ≡ suc (length s) - length b' → z.end ≡ suc (length s) - length a' → Spanned k p s z
    made b a y b' a' w r f st en =
        let u : b' ≡ skip b = cc in
        let v : a' ≡ a = cc in
        record { from = b; behind = a; old = y; way = w; was = r; start = rw u at st; end = rw v at en }

-- what a list is cut into by its length
cut-front : (s m f v : List ℕ) → s ++ m ≡ f ++ v → length f ≤ length s → takeN (length f) s ≡ f
cut-front s m f v e h = sym (take-append-le (length f) s m h) ∙ ap (takeN (length f)) e ∙ take_at f v (length f) refl

cut-back : (s m f v : List ℕ) → s ++ m ≡ f ++ v → length f ≤ length s → dropN (length f) s ++ m ≡ v
cut-back s m f v e h = sym (drop-append-le (length f) s m h) ∙ ap (dropN (length f)) e ∙ drop_at f v (length f) refl

pub not_empty : (s : List ℕ) → Next s → 0 < length s
unfolding next place placed cut
not_empty [] n = absurd (refuse_not_ok (rw lexing.skip_nil at n.2))
not_empty (b ∷ s) n = omega arith

join : (t f g new d m v : List ℕ) (b₁ b₂ : ℕ) → t ≡ f ++ g → d ++ m ≡ v → (t ++ (b₁ ∷ (new ++ (b₂ ∷ d)))) ++ m ≡ f ++ (g ++ (b₁ ∷ (new ++ (b₂ ∷ v))))
join t f g new d m v b₁ b₂ i j = rw (i, ← j) (simp append_assoc)

module _ (k : ℕ) (p s : List ℕ) (z : Span) (c : Closed) (r : List ℕ) (reading : sequence s ≡ ok c r) (sp : Spanned k p s z) where
  abbrev pub e : ℕ
  e = levels_at most_levels p

  pub text_hole : Hole Equal Refuses Any e sp.from sp.behind (λ c. HasNth k (Has p sp.old) c.all) (λ y. change_all k (change_in p (λ x. y))) (λ p q. reads (items whole at_start most_levels)) (marked s) c r
  unfolding sequence shape_number
  text_hole =
      items_hole e sp.from sp.behind most_levels (toward most_levels p) (Has p sp.old) (λ y. change_in p (λ x. y)) (toward-starts p most_levels sp.from sp.behind sp.old sp.was)
      (one_hole p most_levels sp.from sp.behind sp.old sp.was) whole refl k at_start (marked s) 0 0 sp.way c r reading

  -- all in front of the item's first token
  front : List ℕ
  front = text_hole.front ++ (lexing.skips sp.from).0

  front_split : s ++ 256 ∷ [] ≡ front ++ skip sp.from
  unfolding front marked
  front_split = text_hole.split ∙ ap (λ (u : List ℕ). text_hole.front ++ u) (lexing.skips sp.from).1 ∙ sym (append_assoc text_hole.front (lexing.skips sp.from).0 (skip sp.from))

  -- all up to the item's last byte
  upto : List ℕ
  upto = text_hole.front ++ (took (one e) sp.from sp.was).used

  upto_split : s ++ 256 ∷ [] ≡ upto ++ sp.behind
  unfolding upto marked
  upto_split =
      text_hole.split ∙ ap (λ (u : List ℕ). text_hole.front ++ u) (took (one e) sp.from sp.was).split ∙ sym (append_assoc text_hole.front (took (one e) sp.from sp.was).used sp.behind)

  pub first-token : (b : ℕ) × (u : List ℕ) × (skip sp.from ≡ b ∷ u) × ((b < 128) ⊎ (b ≡ 256))
  first-token = let st = one-starts e sp.from sp.was in lexing.ascii sp.from (begins st.0) st.1 st.2

  front-least : length front ≤ length s
  front-least =
      let l = simp length-append at (ap length front_split) in
      let f = ap length first-token.2 in
      omega arith

  start_is : z.start ≡ length front
  start_is = let l = simp length-append at (ap length front_split) in sp.start ∙ omega arith

  front_cut : takeN z.start s ≡ front
  front_cut = ap (λ (n : ℕ). takeN n s) start_is ∙ cut-front s (256 ∷ []) front (skip sp.from) front_split front-least

  pub start-cut : marked (dropN z.start s) ≡ skip sp.from
  unfolding marked
  start-cut = ap (λ (n : ℕ). dropN n s ++ 256 ∷ []) start_is ∙ cut-back s (256 ∷ []) front (skip sp.from) front_split front-least

  pub behind-cut : marked (dropN z.end s) ≡ sp.behind
  unfolding marked
  behind-cut =
      let l = simp length-append at (ap length upto_split) in
      let f = not_empty sp.behind (text_hole.ends tt) in
      let h : length upto ≤ length s = omega arith in
      let q : z.end ≡ length upto = sp.end ∙ omega arith in
      ap (λ (n : ℕ). dropN n s ++ 256 ∷ []) q ∙ cut-back s (256 ∷ []) upto sp.behind upto_split h

  -- the edited text, as the hole has it
  pre : List ℕ
  pre = (lexing.skips sp.from).0

  inserted : ℕ → List ℕ → ℕ → List ℕ
  inserted b₁ new b₂ = pre ++ (b₁ ∷ (new ++ (b₂ ∷ sp.behind)))

  edited-is : (b₁ : ℕ) (new : List ℕ) (b₂ : ℕ) → marked (edited s z b₁ new b₂) ≡ text_hole.front ++ inserted b₁ new b₂
  unfolding marked edited inserted front pre
  edited-is b₁ new b₂ = join (takeN z.start s) text_hole.front pre new (dropN z.end s) (256 ∷ []) sp.behind b₁ b₂ front_cut behind-cut

  module _ (b₁ b₂ : ℕ) (h₁ : is blank b₁ ≡ true) (h₂ : is blank b₂ ≡ true) (new : List ℕ) where
    inserted_like : Like sp.from (inserted b₁ new b₂)
    unfolding inserted pre
    inserted_like = record { shared = pre; old = skip sp.from; new = b₁ ∷ (new ++ (b₂ ∷ sp.behind)); was = (lexing.skips sp.from).1; now = refl; ends = blank_stop (blank-at h₁) }

    inserted_reads : reads (one e) (inserted b₁ new b₂) ≡ reads (one e) (b₁ ∷ (new ++ (b₂ ∷ sp.behind)))
    unfolding inserted pre
    inserted_reads = reads-skips (one e) (b₁ ∷ (new ++ (b₂ ∷ sp.behind))) (inserted b₁ new b₂) ((lexing.skips sp.from).2 (b₁ ∷ (new ++ (b₂ ∷ sp.behind))))

    pub filled : {y : Item} {v : List ℕ} → single e new ≡ ok y v → sequence (edited s z b₁ new b₂) ≡ ok (change_all k (change_in p (λ x. y)) c) r
    unfolding sequence
    filled {y} i =
        let f = text_hole.fill (inserted b₁ new b₂) (b₂ ∷ sp.behind) y inserted_like (inserted_reads ∙ single-fills e b₁ b₂ h₁ h₂ new sp.behind i) (lexing.blank_skip b₂ sp.behind h₂) 0 0 in
        ap (reads (items whole at_start most_levels)) (edited-is b₁ new b₂) ∙ f.2 ∙ ap (λ (u : List ℕ). ok (change_all k (change_in p (λ x. y)) c) u) f.1

    pub blocked : (n w : ℕ) → Hard n → single e new ≡ refuse n w → Refuses n (sequence (edited s z b₁ new b₂))
    unfolding sequence
    blocked n w hard i =
        rw (edited-is b₁ new b₂) (text_hole.block (inserted b₁ new b₂) n inserted_like hard (rw inserted_reads (single_blocks e b₁ b₂ h₁ h₂ new sp.behind n w hard i)) 0 0)

-- what is found at the path in the items is what stands there in the text
pub located : (k : ℕ) (p s : List ℕ) (z : Span) (c : Closed) (r : List ℕ) → sequence s ≡ ok c r → (sp : Spanned k p s z)
    → (o : Spot) × (locate (k ∷ p) c.all ≡ found o) × (o.item ≡ sp.old)
unfolding locate onward
located k p s z c r reading sp =
    let h = (text_hole k p s z c r reading sp).holds 0 in
    let d = spot-within h.0.before h.0.behind (λ x. x ≡ sp.old) (descend 1 p h.0.item) (h.2 1) in
    (d.0, ap (λ f. onward f (descend 1 p)) h.1 ∙ d.1, d.2)
