-- An item's text in place of another's, by the rules of the form.
use Prim.Native.Nat.{ℕ, zero, suc}
use mathlib.Core.Path.{◌≡◌, refl, sym, ap, ◌∙◌}
use mathlib.Core.Bool.{Bool, true, false}
use mathlib.Core.List.{List, [], ◌∷◌, ◌++◌}
use lib.Dec.{eqb}
use Rattle.cbor.specs.Refusals.{Result, ok, refuse, bind, not_allowed}
use Rattle.cbor.specs.Items.{Size, definite, indefinite, Item, array, map, Items, none, more, Pairs, none₂, more₂, count, count₂}
use Rattle.cbor.specs.Heads.{arrays, maps}
use Rattle.cbor.specs.Encode.{encode, opening_head, closing_break as closing_bytes}
use Rattle.cbor.specs.Paths.{Spot, Found, found, within, nth, nth₂, child, onward, descend, change_nth, change_nth₂, change_child}
use Rattle.cbor.proofs.Results.{refuse_not_ok}
use Rattle.cbor.proofs.Paths.{count_change, count_change₂}
use Rattle.notation.specs.Scanning.{skip}
use Rattle.notation.specs.Indicators.{Indicator, absent, indefinitely, unknown, wide, Chosen, chosen, misfit, choose}
use Rattle.notation.specs.Tokens.{Opener, bracket, brace, tagging, embedding, Beginning, leaf, literal, chunking, opens, Shape, square, curly, round, angle, whole, Token, begins, closes, a_comma, a_colon}
use Rattle.notation.specs.Cutting.{next, place}
use Rattle.notation.specs.Form.{Position, at_start, behind_comma, Name, one, items, pairs, Closed, Value, Rule, give, take, stray_closing, stray, strays, shape_number, closing_rule, width_rule, contains, inside, beginning, one_rule, add_item, after_item, items_rule, after_value, after_key, pairs_rule, rules, obey, reads}
use Rattle.notation.specs.Places.{Separator, by_comma, by_colon, separated, past, to_element, to_value, into}
use Rattle.notation_theorems.proofs.Good.{Hard}
use Rattle.notation_theorems.proofs.Locality.{next-skip}
use Rattle.notation_theorems.proofs.ByName.{bind_ok, bind-refuse, reads-is, took-next}
use Rattle.notation_theorems.proofs.Splice.{bind_inv, bind-map, Refuses, Behind, Blocked, refuses-bind, refuses_blocks, Equal, Skips, Next, Any, Hole, hole_step, hole_over, hole_take, hole_past}
use Rattle.notation_theorems.proofs.Equations.{element, items-begin, pairs-begin, one-starts}

-- THE ITEM AT A PATH, of which P holds
abbrev pub HasNth : ℕ → (Item → Type 0) → Items → Type 0
HasNth k P xs = (i : ℕ) → (z : Spot) × (nth i k xs ≡ found z) × P z.item

abbrev pub HasNth₂ : ℕ → (Item → Type 0) → Pairs → Type 0
HasNth₂ k P ps = (i : ℕ) → (z : Spot) × (nth₂ i k ps ≡ found z) × P z.item

abbrev pub HasChild : ℕ → (Item → Type 0) → Item → Type 0
HasChild k P x = (i : ℕ) → (z : Spot) × (child i k x ≡ found z) × P z.item

abbrev pub Has : List ℕ → Item → Item → Type 0
Has p y x = (i : ℕ) → (z : Spot) × (descend i p x ≡ found z) × (z.item ≡ y)

pub spot-within : (a b : List ℕ) (P : Item → Type 0) (f : Found Spot) → (z : Spot) × (f ≡ found z) × P z.item → (z : Spot) × (within a b f ≡ found z) × P z.item
unfolding within
spot-within a b P f h = (record { before = a ++ h.0.before; item = h.0.item; behind = h.0.behind ++ b }, ap (within a b) h.1, h.2)

has_zero : (P : Item → Type 0) (x : Item) (xs : Items) → P x → HasNth 0 P (more x xs)
unfolding nth
has_zero P x xs u = λ i. (_, refl, u)

has_suc : (P : Item → Type 0) (k : ℕ) (x : Item) (xs : Items) → HasNth k P xs → HasNth (suc k) P (more x xs)
unfolding nth
has_suc P k x xs h = λ i. spot-within (encode x) [] P (nth i k xs) (h i)

has_zero₂ : (P : Item → Type 0) (y x : Item) (ps : Pairs) → P x → HasNth₂ 0 P (more₂ y x ps)
unfolding nth₂
has_zero₂ P y x ps u = λ i. (_, refl, u)

has_suc₂ : (P : Item → Type 0) (k : ℕ) (y x : Item) (ps : Pairs) → HasNth₂ k P ps → HasNth₂ (suc k) P (more₂ y x ps)
unfolding nth₂
has_suc₂ P k y x ps h = λ i. spot-within (encode y ++ encode x) [] P (nth₂ i k ps) (h i)

has_array : (P : Item → Type 0) (k : ℕ) (z : Size) (xs : Items) → HasNth k P xs → HasChild k P (array z xs)
unfolding child
has_array P k z xs h = λ i. spot-within (opening_head arrays z (count xs)) (closing_bytes z) P (nth i k xs) (h i)

has_map : (P : Item → Type 0) (k : ℕ) (z : Size) (ps : Pairs) → HasNth₂ k P ps → HasChild k P (map z ps)
unfolding child
has_map P k z ps h = λ i. spot-within (opening_head maps z (count₂ ps)) (closing_bytes z) P (nth₂ i k ps) (h i)

pub has_down : (k : ℕ) (p : List ℕ) (y x : Item) → HasChild k (Has p y) x → Has (k ∷ p) y x
unfolding descend onward
has_down k p y x h = λ i.
    let c = h i in
    let s = spot-within c.0.before c.0.behind (λ z. z ≡ y) (descend (suc i) p c.0.item) (c.2 (suc i)) in
    (s.0, ap (λ f. onward f (descend (suc i) p)) c.1 ∙ s.1, s.2)

-- TOKENS THAT MAY NOT STAND BEHIND AN ITEM, with a number other than 3 and 11
not_eleven : {A : Type 0} (k : ℕ) → Hard k → not_allowed ≡ k → A
not_eleven k hard e = absurd (hard.not11 (sym e))

-- a shape that `>>` does not close
abbrev Plain : Shape → Type 0
Plain h = eqb (shape_number h) (shape_number angle) ≡ false

closing_not : {A : Type 0} (d : ℕ) (h h' : Shape) (i : Indicator) (x : A) → eqb (shape_number h) (shape_number h') ≡ false → closing_rule d h h' i x ≡ strays d (closes h' i)
unfolding closing_rule
closing_not d h h' i x e = rw (e, closing_rule)

closing_bars : {A : Type 0} (d : ℕ) (h h' : Shape) (i : Indicator) (x : A) → Plain h → (k : ℕ) → Hard k → stray d (closes h' i) ≡ k → (p q : ℕ) (s : List ℕ) → Refuses k (obey reads (closing_rule d h h' i x) p q s)
unfolding stray stray_closing strays obey
closing_bars d h square i x u k hard e p q s = not_eleven k hard e
closing_bars d h curly i x u k hard e p q s = not_eleven k hard e
closing_bars d h round i x u k hard e p q s = not_eleven k hard e
closing_bars d h angle i x u k hard e p q s = rw (closing_not d h angle i x u) e
closing_bars d h whole i x u k hard e p q s = not_eleven k hard e

-- AN ELEMENT: an item and what stands behind it. P is what holds of the item, Q of the whole; g and g' put another item in
module _ {A : Type 0} (e : ℕ) (b a : List ℕ) (d : ℕ) (after : Item → Token → Rule A) (P : Item → Type 0) (g : Item → Item → Item) (Q : A → Type 0) (g' : Item → A → A)
    (redo : (z : Item) → P z → (t : Token) (p q : ℕ) (s : List ℕ) (c : A) (r : List ℕ) → obey reads (after z t) p q s ≡ ok c r
    → Q c × ((y : Item) (p q : ℕ) → obey reads (after (g y z) t) p q s ≡ ok (g' y c) r))
    (bars : (x : Item) (t : Token) (k : ℕ) → Hard k → stray d t ≡ k → (p q : ℕ) (s : List ℕ) → Refuses k (obey reads (after x t) p q s)) where
  element_bars : (k : ℕ) → Hard k → (p q : ℕ) (R : Result Item) → Blocked d k R → Refuses k (bind R (λ x t. obey reads (take (after x)) p q t))
  unfolding bind obey
  element_bars k hard p q (refuse n w) h = h
  element_bars k hard p q (ok x r) h = go (next r) h
    where
      go : (R : Result Token) → Behind d k R → Refuses k (bind R (λ t u. obey reads (after x t) p (place r) u))
      go (refuse n w) h = h
      go (ok t u) h = bars x t k hard h p (place r) u

  element_hole : (s u r : List ℕ) (z : Item) (c : A) (p q : ℕ) → Hole Skips (Blocked d) Next e b a P g (λ p q. reads (one d)) s z u → obey reads (take (after z)) p q u ≡ ok c r
      → Hole Equal Refuses Any e b a Q g' (obey reads (element d after)) s c r
  unfolding obey
  element_hole s u r z c p q h i =
      let j = bind_inv (next u) (λ t v. obey reads (after z t) p (place u) v) i in
      let m = redo z h.holds j.0 p (place u) j.1 c r j.3 in
      hole_over Skips (Blocked d) Next e b a P g Equal Refuses Any Q g' (λ p q. reads (one d)) (obey reads (element d after)) (λ z p q t. obey reads (take (after z)) p q t) h
      (λ p q u z t e. (p, q, bind_ok _ e)) (λ p q u k hard h. element_bars k hard p q (reads (one d) u) h) m.0 (λ n. (j.0, j.1, j.2))
      (λ y p q t' n. (r, refl, bind_ok _ (next-skip t' u n ∙ j.2) ∙ m.1 y p (place t')))

-- BY NAME: what begins with an element where an item begins, and bars what may not stand there
record Element (n : Name) (d : ℕ) (after : Item → Token → Rule (Value n)) : Type 0 where
  begin : (g : Beginning) (s r : List ℕ) → next s ≡ ok (begins g) r → reads n s ≡ obey reads (element d after) (place s) (place s) s
  bar : (h : Shape) (i : Indicator) (k : ℕ) → Hard k → stray d (closes h i) ≡ k → (p q : ℕ) (s : List ℕ) → Refuses k (obey reads (rules n (closes h i)) p q s)

module _ (n : Name) (d : ℕ) (after : Item → Token → Rule (Value n)) (el : Element n d after) (e : ℕ) (b a : List ℕ) (P : Value n → Type 0) (g : Item → Value n → Value n) where
  -- what an element is refused for at its first token
  at_first : (k k' w : ℕ) (s : List ℕ) → reads (one d) s ≡ refuse k' w → Refuses k (obey reads (element d after) (place s) (place s) s) → k' ≡ k
  unfolding bind obey
  at_first k k' w s i h = rw i at h

  named_bars : (k : ℕ) → Hard k → (s : List ℕ) → Refuses k (obey reads (element d after) (place s) (place s) s) → Refuses k (reads n s)
  unfolding bind obey rules one_rule strays stray
  named_bars k hard s h = go (next s) refl
    where
      go : (R : Result Token) → next s ≡ R → Refuses k (reads n s)
      go (ok (begins w) r) i = rw (el.begin w s r i) h
      go (ok (closes h' j) r) i =
          rw (reads-is n s ∙ bind_ok _ i) (el.bar h' j k hard (at_first k (stray_closing h' j) (place s) s (reads-is (one d) s ∙ bind_ok _ i) h) (place s) (place s) r)
      go (ok a_comma r) i = not_eleven k hard (at_first k not_allowed (place s) s (reads-is (one d) s ∙ bind_ok _ i) h)
      go (ok a_colon r) i = not_eleven k hard (at_first k not_allowed (place s) s (reads-is (one d) s ∙ bind_ok _ i) h)
      go (refuse k' w) i = rw (reads-is n s ∙ bind-refuse _ i) (at_first k k' w s (reads-is (one d) s ∙ bind-refuse _ i) h)

  named_ok : (s : List ℕ) {x : Value n} {r : List ℕ} → obey reads (element d after) (place s) (place s) s ≡ ok x r → reads n s ≡ ok x r
  unfolding obey
  named_ok s i =
      let j = bind_inv (reads (one d) s) _ i in
      let o = one-starts d s j.2 in
      el.begin o.0 s o.1 o.2 ∙ i

  named_hole : {s r : List ℕ} {x : Value n} → Hole Equal Refuses Any e b a P g (obey reads (element d after)) s x r → Hole Equal Refuses Any e b a P g (λ p q. reads n) s x r
  named_hole h =
      record {
        front = h.front;
        split = h.split;
        holds = h.holds;
        ends = h.ends;
        fill = λ b' a' y l i m p q. let f = h.fill b' a' y l i m (place (h.front ++ b')) (place (h.front ++ b')) in (f.0, f.1, named_ok (h.front ++ b') f.2);
        block = λ b' k l hard i p q. named_bars k hard (h.front ++ b') (h.block b' k l hard i (place (h.front ++ b')) (place (h.front ++ b')));
      }

items_element : (h : Shape) (bo : Position) (d : ℕ) → Plain h → Element (items h bo d) d (after_item h d)
unfolding rules items_rule strays obey
items_element h at_start d u = record { begin = λ g s r i. items-begin h at_start d g s r i; bar = λ h' i k hard f p q s. closing_bars d h h' i _ u k hard f p q s }
items_element h behind_comma d u = record { begin = λ g s r i. items-begin h behind_comma d g s r i; bar = λ h' i k hard f p q s. f }

pairs_element : (bo : Position) (d : ℕ) → Element (pairs bo d) d (after_key d)
unfolding rules pairs_rule strays obey shape_number
pairs_element at_start d = record { begin = λ g s r i. pairs-begin at_start d g s r i; bar = λ h' i k hard f p q s. closing_bars d curly h' i _ refl k hard f p q s }
pairs_element behind_comma d = record { begin = λ g s r i. pairs-begin behind_comma d g s r i; bar = λ h' i k hard f p q s. f }

-- THE WAY PAST AN ITEM AND A SEPARATOR
unfoldable pub token_of : Separator → Token
token_of by_comma = a_comma
token_of by_colon = a_colon

record Passed (d : ℕ) (c : Separator) (go : Rule Unit) (s b : List ℕ) : Type 0 where
  item : Item
  behind : List ℕ
  rest : List ℕ
  p : ℕ
  q : ℕ
  reading : reads (one d) s ≡ ok item behind
  parts : next behind ≡ ok (token_of c) rest
  on : obey reads go p q rest ≡ ok tt b

separated-ok : (c : Separator) (go : Rule Unit) (t : Token) (p q : ℕ) (s : List ℕ) {b : List ℕ} → obey reads (separated c go t) p q s ≡ ok tt b
    → (t ≡ token_of c) × (obey reads go p q s ≡ ok tt b)
unfolding separated obey token_of
separated-ok c go (begins g) p q s e = absurd (refuse_not_ok e)
separated-ok c go (closes h i) p q s e = absurd (refuse_not_ok e)
separated-ok by_comma go a_comma p q s e = (refl, e)
separated-ok by_colon go a_comma p q s e = absurd (refuse_not_ok e)
separated-ok by_comma go a_colon p q s e = absurd (refuse_not_ok e)
separated-ok by_colon go a_colon p q s e = (refl, e)

passed : (d : ℕ) (c : Separator) (go : Rule Unit) (p q : ℕ) (s : List ℕ) {b : List ℕ} → obey reads (past d c go) p q s ≡ ok tt b → Passed d c go s b
unfolding past obey
passed d c go p q s {b} e = let h = bind_inv (reads (one d) s) _ e in at_separator h.0 h.1 h.2 h.3
  where
    at-token : (x : Item) (t : List ℕ) → reads (one d) s ≡ ok x t → (k : Token) (r : List ℕ) → next t ≡ ok k r → (k ≡ token_of c) × (obey reads go p (place t) r ≡ ok tt b) → Passed d c go s b
    at-token x t e k r e' i = record { item = x; behind = t; rest = r; p = p; q = place t; reading = e; parts = e' ∙ ap (λ z. ok z r) i.0; on = i.1 }

    at_separator : (x : Item) (t : List ℕ) → reads (one d) s ≡ ok x t → bind (next t) (λ k r. obey reads (separated c go k) p (place t) r) ≡ ok tt b → Passed d c go s b
    at_separator x t e e' = let i = bind_inv (next t) _ e' in at-token x t e i.0 i.1 i.2 (separated-ok c go i.0 p (place t) i.1 i.3)

-- BEHIND THE ITEM, with another item
closed-ok : {A : Type 0} (d : ℕ) (h h' : Shape) (i : Indicator) (x : A) (p q : ℕ) (s : List ℕ) {c : A} {r : List ℕ} → obey reads (closing_rule d h h' i x) p q s ≡ ok c r
    → (x ≡ c) × ((y : A) (p q : ℕ) → obey reads (closing_rule d h h' i y) p q s ≡ ok y r)
unfolding closing_rule strays obey
closed-ok {A} d h h' i x p q s {c} {r} e = go (eqb (shape_number h) (shape_number h')) e
  where
    go : (v : Bool) → ◌≡◌ {A = Result A} (obey {A = A} reads (elim v [ true ↦ give x | false ↦ strays d (closes h' i) ]) p q s) (ok c r)
        → (x ≡ c) × ((y : A) (p q : ℕ) → ◌≡◌ {A = Result A} (obey {A = A} reads (elim v [ true ↦ give y | false ↦ strays d (closes h' i) ]) p q s) (ok y r))
    go true e = let f : s ≡ r = cc in (cc, λ y p q. ap (λ (v : List ℕ). ok y v) f)
    go false e = absurd (refuse_not_ok e)

abbrev pub change_all : ℕ → (Item → Item) → Closed → Closed
change_all k g c = record { all = change_nth k g c.all; indicator = c.indicator }

module _ (d : ℕ) (P : Item → Type 0) (g : Item → Item → Item) where
  redo_item : (h : Shape) (z : Item) → P z → (t : Token) (p q : ℕ) (s : List ℕ) (c : Closed) (r : List ℕ) → obey reads (after_item h d z t) p q s ≡ ok c r
      → HasNth 0 P c.all × ((y : Item) (p q : ℕ) → obey reads (after_item h d (g y z) t) p q s ≡ ok (change_all 0 (g y) c) r)
  unfolding after_item strays obey change_nth add_item
  redo_item h z u (begins w) p q s c r e = absurd (refuse_not_ok e)
  redo_item h z u (closes h' i) p q s c r e =
      let f = closed-ok d h h' i _ p q s e in
      rw (← f.0) (has_zero P z none u, λ y p q. f.1 _ p q)
  redo_item h z u a_comma p q s c r e =
      let f = bind-map (reads (items h behind_comma d) s) (add_item z) e in
      rw (← f.2) (has_zero P z f.0.all u, λ y p q. bind_ok _ f.1)
  redo_item h z u a_colon p q s c r e = absurd (refuse_not_ok e)

  redo_value : (key z : Item) → P z → (t : Token) (p q : ℕ) (s : List ℕ) (c : Pairs) (r : List ℕ) → obey reads (after_value d key z t) p q s ≡ ok c r
      → HasNth₂ 0 P c × ((y : Item) (p q : ℕ) → obey reads (after_value d key (g y z) t) p q s ≡ ok (change_nth₂ 0 (g y) c) r)
  unfolding after_value strays obey change_nth₂
  redo_value key z u (begins w) p q s c r e = absurd (refuse_not_ok e)
  redo_value key z u (closes h i) p q s c r e =
      let f = closed-ok d curly h i _ p q s e in
      rw (← f.0) (has_zero₂ P key z none₂ u, λ y p q. f.1 _ p q)
  redo_value key z u a_comma p q s c r e =
      let f = bind-map (reads (pairs behind_comma d) s) (λ ps. more₂ key z ps) e in
      rw (← f.2) (has_zero₂ P key z f.0 u, λ y p q. bind_ok _ f.1)
  redo_value key z u a_colon p q s c r e = absurd (refuse_not_ok e)

item_bars : (h : Shape) (d : ℕ) → Plain h → (x : Item) (t : Token) (k : ℕ) → Hard k → stray d t ≡ k → (p q : ℕ) (s : List ℕ) → Refuses k (obey reads (after_item h d x t) p q s)
unfolding after_item strays stray obey
item_bars h d u x (begins w) k hard e p q s = e
item_bars h d u x (closes h' i) k hard e p q s = closing_bars d h h' i _ u k hard e p q s
item_bars h d u x a_comma k hard e p q s = not_eleven k hard e
item_bars h d u x a_colon k hard e p q s = e

value_bars : (d : ℕ) (key x : Item) (t : Token) (k : ℕ) → Hard k → stray d t ≡ k → (p q : ℕ) (s : List ℕ) → Refuses k (obey reads (after_value d key x t) p q s)
unfolding after_value strays stray obey shape_number
value_bars d key x (begins w) k hard e p q s = e
value_bars d key x (closes h i) k hard e p q s = closing_bars d curly h i _ refl k hard e p q s
value_bars d key x a_comma k hard e p q s = not_eleven k hard e
value_bars d key x a_colon k hard e p q s = e

-- IN THE ITEM NUMBER k of a sequence, in the value number k of a map: go leads to b from the front of an item that d levels are left
-- around, and such an item has a hole there
module _ (e : ℕ) (b a : List ℕ) (d : ℕ) (go : Rule Unit) (P : Item → Type 0) (g : Item → Item → Item)
    (starts : (p q : ℕ) (s : List ℕ) → obey reads go p q s ≡ ok tt b → (w : Beginning) × (r : List ℕ) × (next s ≡ ok (begins w) r))
    (at : (p q : ℕ) (s : List ℕ) → obey reads go p q s ≡ ok tt b → (x : Item) (r : List ℕ) → reads (one d) s ≡ ok x r → Hole Skips (Blocked d) Next e b a P g (λ p q. reads (one d)) s x r) where
  items_later : (h : Shape) (k : ℕ) (s : List ℕ) (w : Passed d by_comma (to_element d go k) s b) (c : Closed) (r : List ℕ)
      → Hole Equal Refuses Any e b a (λ c. HasNth k P c.all) (λ y. change_all k (g y)) (λ p q. reads (items h behind_comma d)) w.rest c r
      → Hole Equal Refuses Any e b a (λ c. HasNth (suc k) P c.all) (λ y. change_all (suc k) (g y)) (obey reads (element d (after_item h d))) s (add_item w.item c) r
  unfolding obey after_item token_of add_item change_nth
  items_later h k s w c r i =
      hole_past Equal Refuses Any e b a _ _ (one d) (λ x. take (after_item h d x)) w.reading
      (hole_take Equal Refuses Any e b a _ _ (after_item h d w.item) w.parts
      (hole_over Equal Refuses Any e b a (λ c. HasNth k P c.all) (λ y. change_all k (g y)) Equal Refuses Any (λ c. HasNth (suc k) P c.all) (λ y. change_all (suc k) (g y))
      (λ p q. reads (items h behind_comma d)) (obey reads (after_item h d w.item a_comma)) (λ c p q t. ok (add_item w.item c) t) i (λ p q u z t e. (p, q, bind_ok _ e))
      (λ p q u n hard f. refuses-bind n (reads (items h behind_comma d) u) _ f) (has_suc P k w.item c.all i.holds) (λ n. n) (λ y p q t' n. (t', n, refl))))

  items-first : (h : Shape) → Plain h → (bo : Position) (s : List ℕ) (p q : ℕ) → obey reads go p q s ≡ ok tt b → (c : Closed) (r : List ℕ) → reads (items h bo d) s ≡ ok c r
      → Hole Equal Refuses Any e b a (λ c. HasNth 0 P c.all) (λ y. change_all 0 (g y)) (λ p q. reads (items h bo d)) s c r
  unfolding obey
  items-first h u bo s p q o c r i =
      let w = starts p q s o in
      let j = bind_inv (reads (one d) s) _ (sym (items-begin h bo d w.0 s w.1 w.2) ∙ i) in
      named_hole (items h bo d) d (after_item h d) (items_element h bo d u) e b a (λ c. HasNth 0 P c.all) (λ y. change_all 0 (g y))
      (element_hole e b a d (after_item h d) P g (λ c. HasNth 0 P c.all) (λ y. change_all 0 (g y)) (redo_item d P g h) (item_bars h d u) s j.1 r j.0 c (place s) (place s)
      (at p q s o j.0 j.1 j.2) j.3)

  -- what is read behind an item and a comma
  items-rest : (h : Shape) (bo : Position) (k : ℕ) (s : List ℕ) (w : Passed d by_comma (to_element d go k) s b) (c : Closed) (r : List ℕ) → reads (items h bo d) s ≡ ok c r
      → (c' : Closed) × (reads (items h behind_comma d) w.rest ≡ ok c' r) × (add_item w.item c' ≡ c)
  unfolding obey after_item token_of
  items-rest h bo k s w c r i =
      let st = one-starts d s w.reading in
      bind-map (reads (items h behind_comma d) w.rest) (add_item w.item) (sym (bind_ok _ w.reading ∙ bind_ok _ w.parts) ∙ (sym (items-begin h bo d st.0 s st.1 st.2) ∙ i))

  items_more : (h : Shape) → Plain h → (bo : Position) (k : ℕ) (s : List ℕ) (w : Passed d by_comma (to_element d go k) s b) (c c' : Closed) (r : List ℕ) → add_item w.item c' ≡ c
      → Hole Equal Refuses Any e b a (λ c. HasNth k P c.all) (λ y. change_all k (g y)) (λ p q. reads (items h behind_comma d)) w.rest c' r
      → Hole Equal Refuses Any e b a (λ c. HasNth (suc k) P c.all) (λ y. change_all (suc k) (g y)) (λ p q. reads (items h bo d)) s c r
  items_more h u bo k s w c c' r m i =
      rw (← m)
      (named_hole (items h bo d) d (after_item h d) (items_element h bo d u) e b a (λ c. HasNth (suc k) P c.all) (λ y. change_all (suc k) (g y)) (items_later h k s w c' r i))

  pub items_hole : (h : Shape) → Plain h → (k : ℕ) (bo : Position) (s : List ℕ) (p q : ℕ) → obey reads (to_element d go k) p q s ≡ ok tt b → (c : Closed) (r : List ℕ) → reads (items h bo d) s ≡ ok c r
      → Hole Equal Refuses Any e b a (λ c. HasNth k P c.all) (λ y. change_all k (g y)) (λ p q. reads (items h bo d)) s c r
  unfolding to_element
  items_hole h u zero bo s p q o c r i = items-first h u bo s p q o c r i
  items_hole h u (suc k) bo s p q o c r i =
      let w = passed d by_comma (to_element d go k) p q s o in
      let m = items-rest h bo k s w c r i in
      items_more h u bo k s w c m.0 r m.2 (items_hole h u k behind_comma w.rest w.p w.q w.on m.0 r m.1)

  -- behind the key and the colon
  value-is : (bo : Position) (s : List ℕ) (go' : Rule Unit) (w : Passed d by_colon go' s b) {ps : Pairs} {r : List ℕ} → reads (pairs bo d) s ≡ ok ps r
      → obey reads (element d (after_value d w.item)) (place s) (place w.behind) w.rest ≡ ok ps r
  unfolding obey after_key token_of
  value-is bo s go' w i =
      let st = one-starts d s w.reading in
      sym (bind_ok _ w.reading ∙ bind_ok _ w.parts) ∙ (sym (pairs-begin bo d st.0 s st.1 st.2) ∙ i)

  pairs-key : (Q : Pairs → Type 0) (g' : Item → Pairs → Pairs) (bo : Position) (s : List ℕ) (go' : Rule Unit) (w : Passed d by_colon go' s b) (ps : Pairs) (r : List ℕ)
      → Hole Equal Refuses Any e b a Q g' (obey reads (element d (after_value d w.item))) w.rest ps r → Hole Equal Refuses Any e b a Q g' (λ p q. reads (pairs bo d)) s ps r
  unfolding after_key token_of
  pairs-key Q g' bo s go' w ps r i =
      named_hole (pairs bo d) d (after_key d) (pairs_element bo d) e b a Q g'
      (hole_past Equal Refuses Any e b a Q g' (one d) (λ k. take (after_key d k)) w.reading (hole_take Equal Refuses Any e b a Q g' (after_key d w.item) w.parts i))

  pairs_first : (bo : Position) (s : List ℕ) (w : Passed d by_colon go s b) (ps : Pairs) (r : List ℕ) → reads (pairs bo d) s ≡ ok ps r
      → Hole Equal Refuses Any e b a (HasNth₂ 0 P) (λ y. change_nth₂ 0 (g y)) (λ p q. reads (pairs bo d)) s ps r
  unfolding obey
  pairs_first bo s w ps r i =
      let j = bind_inv (reads (one d) w.rest) _ (value-is bo s go w i) in
      pairs-key (HasNth₂ 0 P) (λ y. change_nth₂ 0 (g y)) bo s go w ps r
      (element_hole e b a d (after_value d w.item) P g (HasNth₂ 0 P) (λ y. change_nth₂ 0 (g y)) (redo_value d P g w.item) (value_bars d w.item) w.rest j.1 r j.0 ps (place s) (place w.behind)
      (at w.p w.q w.rest w.on j.0 j.1 j.2) j.3)

  pairs-rest : (bo : Position) (k : ℕ) (s : List ℕ) (go' : Rule Unit) (w : Passed d by_colon go' s b) (w' : Passed d by_comma (to_value d go k) w.rest b) (ps : Pairs) (r : List ℕ)
      → reads (pairs bo d) s ≡ ok ps r → (ps' : Pairs) × (reads (pairs behind_comma d) w'.rest ≡ ok ps' r) × (more₂ w.item w'.item ps' ≡ ps)
  unfolding obey after_value token_of
  pairs-rest bo k s go' w w' ps r i =
      bind-map (reads (pairs behind_comma d) w'.rest) (λ ps. more₂ w.item w'.item ps) (sym (bind_ok _ w'.reading ∙ bind_ok _ w'.parts) ∙ value-is bo s go' w i)

  pairs_later : (key : Item) (k : ℕ) (s : List ℕ) (w : Passed d by_comma (to_value d go k) s b) (ps : Pairs) (r : List ℕ)
      → Hole Equal Refuses Any e b a (HasNth₂ k P) (λ y. change_nth₂ k (g y)) (λ p q. reads (pairs behind_comma d)) w.rest ps r
      → Hole Equal Refuses Any e b a (HasNth₂ (suc k) P) (λ y. change_nth₂ (suc k) (g y)) (obey reads (element d (after_value d key))) s (more₂ key w.item ps) r
  unfolding obey after_value token_of change_nth₂
  pairs_later key k s w ps r i =
      hole_past Equal Refuses Any e b a _ _ (one d) (λ x. take (after_value d key x)) w.reading
      (hole_take Equal Refuses Any e b a _ _ (after_value d key w.item) w.parts
      (hole_over Equal Refuses Any e b a (HasNth₂ k P) (λ y. change_nth₂ k (g y)) Equal Refuses Any (HasNth₂ (suc k) P) (λ y. change_nth₂ (suc k) (g y)) (λ p q. reads (pairs behind_comma d))
      (obey reads (after_value d key w.item a_comma)) (λ ps p q t. ok (more₂ key w.item ps) t) i (λ p q u z t e. (p, q, bind_ok _ e))
      (λ p q u n hard f. refuses-bind n (reads (pairs behind_comma d) u) _ f) (has_suc₂ P k key w.item ps i.holds) (λ n. n) (λ y p q t' n. (t', n, refl))))

  pairs-more : (bo : Position) (k : ℕ) (s : List ℕ) (go' : Rule Unit) (w : Passed d by_colon go' s b) (w' : Passed d by_comma (to_value d go k) w.rest b) (ps ps' : Pairs) (r : List ℕ)
      → more₂ w.item w'.item ps' ≡ ps → Hole Equal Refuses Any e b a (HasNth₂ k P) (λ y. change_nth₂ k (g y)) (λ p q. reads (pairs behind_comma d)) w'.rest ps' r
      → Hole Equal Refuses Any e b a (HasNth₂ (suc k) P) (λ y. change_nth₂ (suc k) (g y)) (λ p q. reads (pairs bo d)) s ps r
  pairs-more bo k s go' w w' ps ps' r m i =
      rw (← m) (pairs-key (HasNth₂ (suc k) P) (λ y. change_nth₂ (suc k) (g y)) bo s go' w (more₂ w.item w'.item ps') r (pairs_later w.item k w.rest w' ps' r i))

  pub pairs_hole : (k : ℕ) (bo : Position) (s : List ℕ) (p q : ℕ) → obey reads (to_value d go k) p q s ≡ ok tt b → (ps : Pairs) (r : List ℕ) → reads (pairs bo d) s ≡ ok ps r
      → Hole Equal Refuses Any e b a (HasNth₂ k P) (λ y. change_nth₂ k (g y)) (λ p q. reads (pairs bo d)) s ps r
  unfolding to_value
  pairs_hole zero bo s p q o ps r i = pairs_first bo s (passed d by_colon go p q s o) ps r i
  pairs_hole (suc k) bo s p q o ps r i =
      let w = passed d by_colon (past d by_comma (to_value d go k)) p q s o in
      let w' = passed d by_comma (to_value d go k) w.p w.q w.rest w.on in
      let m = pairs-rest bo k s (past d by_comma (to_value d go k)) w w' ps r i in
      pairs-more bo k s (past d by_comma (to_value d go k)) w w' ps m.0 r m.2 (pairs_hole k behind_comma w'.rest w'.p w'.q w'.on m.0 r m.1)

-- WHAT MAKES A CONTAINER looks at no text
sized-ok : (c : Chosen) (make : Size → Item) (p q : ℕ) (s : List ℕ) {x : Item} {r : List ℕ} → obey reads (width_rule c (λ w. make (definite w))) p q s ≡ ok x r
    → (z : Size) × (x ≡ make z) × (s ≡ r) × ((make' : Size → Item) (p q : ℕ) (t : List ℕ) → obey reads (width_rule c (λ w. make' (definite w))) p q t ≡ ok (make' z) t)
unfolding width_rule obey
sized-ok (chosen w) make p q s e = (definite w, cc, cc, λ make' p q t. refl)
sized-ok misfit make p q s e = absurd (refuse_not_ok e)

contains-ok : (i : Indicator) (n : ℕ) (make : Size → Item) (p q : ℕ) (s : List ℕ) {x : Item} {r : List ℕ} → obey reads (contains i n make) p q s ≡ ok x r
    → (z : Size) × (x ≡ make z) × (s ≡ r) × ((make' : Size → Item) (p q : ℕ) (t : List ℕ) → obey reads (contains i n make') p q t ≡ ok (make' z) t)
unfolding contains obey
contains-ok absent n make p q s e = sized-ok (choose absent n) make p q s e
contains-ok indefinitely n make p q s e = (indefinite, cc, cc, λ make' p q t. refl)
contains-ok unknown n make p q s e = sized-ok (choose unknown n) make p q s e
contains-ok (wide w) n make p q s e = sized-ok (choose (wide w) n) make p q s e

-- AN ITEM THAT IS OPENED: an array or a map
module _ (e : ℕ) (b a : List ℕ) (d k : ℕ) (go : Rule Unit) (P : Item → Type 0) (g : Item → Item → Item)
    (starts : (p q : ℕ) (s : List ℕ) → obey reads go p q s ≡ ok tt b → (w : Beginning) × (r : List ℕ) × (next s ≡ ok (begins w) r))
    (at : (p q : ℕ) (s : List ℕ) → obey reads go p q s ≡ ok tt b → (x : Item) (r : List ℕ) → reads (one d) s ≡ ok x r → Hole Skips (Blocked d) Next e b a P g (λ p q. reads (one d)) s x r) where
  array_hole : (i : Indicator) (s : List ℕ) (p q p' q' : ℕ) → obey reads (to_element d go k) p q s ≡ ok tt b → (x : Item) (r : List ℕ) → obey reads (inside d (bracket i)) p' q' s ≡ ok x r
      → Hole Skips Refuses Any e b a (HasChild k P) (λ y. change_child k (g y)) (obey reads (inside d (bracket i))) s x r
  unfolding inside obey shape_number change_child
  array_hole i s p q p' q' o x r f =
      let j = bind_inv (reads (items square at_start d) s) _ f in
      let h = items_hole e b a d go P g starts at square refl k at_start s p q o j.0 j.1 j.2 in
      let m = contains-ok i (count j.0.all) (λ z. array z j.0.all) p' q' j.1 j.3 in
      rw m.1
      (hole_over Equal Refuses Any e b a _ _ Skips Refuses Any (HasChild k P) (λ y. change_child k (g y)) (λ p q. reads (items square at_start d)) (obey reads (inside d (bracket i)))
      (λ c p q t. obey reads (contains i (count c.all) (λ z. array z c.all)) p q t) h (λ p q u z t e. (p, q, bind_ok _ e))
      (λ p q u n hard f. refuses-bind n (reads (items square at_start d) u) _ f) (has_array P k m.0 j.0.all h.holds) (λ n. n)
      (λ y p q t n. (t, ap skip (n ∙ m.2), rw (count_change k (g y) j.0.all) (m.3 (λ z. array z (change_nth k (g y) j.0.all)) p q t))))

  map_hole : (i : Indicator) (s : List ℕ) (p q p' q' : ℕ) → obey reads (to_value d go k) p q s ≡ ok tt b → (x : Item) (r : List ℕ) → obey reads (inside d (brace i)) p' q' s ≡ ok x r
      → Hole Skips Refuses Any e b a (HasChild k P) (λ y. change_child k (g y)) (obey reads (inside d (brace i))) s x r
  unfolding inside obey change_child
  map_hole i s p q p' q' o x r f =
      let j = bind_inv (reads (pairs at_start d) s) _ f in
      let h = pairs_hole e b a d go P g starts at k at_start s p q o j.0 j.1 j.2 in
      let m = contains-ok i (count₂ j.0) (λ z. map z j.0) p' q' j.1 j.3 in
      rw m.1
      (hole_over Equal Refuses Any e b a _ _ Skips Refuses Any (HasChild k P) (λ y. change_child k (g y)) (λ p q. reads (pairs at_start d)) (obey reads (inside d (brace i)))
      (λ ps p q t. obey reads (contains i (count₂ ps) (λ z. map z ps)) p q t) h (λ p q u z t e. (p, q, bind_ok _ e))
      (λ p q u n hard f. refuses-bind n (reads (pairs at_start d) u) _ f) (has_map P k m.0 j.0 h.holds) (λ n. n)
      (λ y p q t n. (t, ap skip (n ∙ m.2), rw (count_change₂ k (g y) j.0) (m.3 (λ z. map z (change_nth₂ k (g y) j.0)) p q t))))

  -- behind the opening token
  opened : (o : Opener) (s u : List ℕ) (x : Item) (r : List ℕ) → next s ≡ ok (begins (opens o)) u → Hole Skips Refuses Any e b a (HasChild k P) (λ y. change_child k (g y)) (obey reads (inside d o)) u x r
      → Hole Skips (Blocked (suc d)) Next e b a (HasChild k P) (λ y. change_child k (g y)) (λ p q. reads (one (suc d))) s x r
  unfolding rules one_rule beginning
  opened o s u x r i h =
      let w = hole_step Skips Refuses Any e b a (HasChild k P) (λ y. change_child k (g y)) next (obey reads (inside d o)) (λ p q. reads (one (suc d))) (took-next s i)
      (λ p q u t e. (place u, place u, reads-is (one (suc d)) u ∙ bind_ok _ e)) h in
      record {
        front = w.front;
        split = w.split;
        holds = w.holds;
        ends = λ n. w.ends tt;
        fill = w.fill;
        block = λ b' n l hard f p q. refuses_blocks (suc d) n (reads (one (suc d)) (w.front ++ b')) (w.block b' n l hard f p q);
      }

  inside_is : (o : Opener) (s u : List ℕ) (x : Item) (r : List ℕ) → next s ≡ ok (begins (opens o)) u → reads (one (suc d)) s ≡ ok x r → obey reads (inside d o) (place s) (place s) u ≡ ok x r
  unfolding rules one_rule beginning
  inside_is o s u x r i f = sym (reads-is (one (suc d)) s ∙ bind_ok _ i) ∙ f

  pub into_hole : (t : Token) (s u : List ℕ) (p q : ℕ) → next s ≡ ok t u → obey reads (into d go k t) p q u ≡ ok tt b → (x : Item) (r : List ℕ) → reads (one (suc d)) s ≡ ok x r
      → Hole Skips (Blocked (suc d)) Next e b a (HasChild k P) (λ y. change_child k (g y)) (λ p q. reads (one (suc d))) s x r
  unfolding into obey
  into_hole (begins (opens (bracket j))) s u p q i o x r f = opened (bracket j) s u x r i (array_hole j u p q (place s) (place s) o x r (inside_is (bracket j) s u x r i f))
  into_hole (begins (opens (brace j))) s u p q i o x r f = opened (brace j) s u x r i (map_hole j u p q (place s) (place s) o x r (inside_is (brace j) s u x r i f))
  into_hole (begins (opens (tagging w n))) s u p q i o x r f = absurd (refuse_not_ok o)
  into_hole (begins (opens embedding)) s u p q i o x r f = absurd (refuse_not_ok o)
  into_hole (begins (leaf y)) s u p q i o x r f = absurd (refuse_not_ok o)
  into_hole (begins (literal y z c)) s u p q i o x r f = absurd (refuse_not_ok o)
  into_hole (begins chunking) s u p q i o x r f = absurd (refuse_not_ok o)
  into_hole (closes h j) s u p q i o x r f = absurd (refuse_not_ok o)
  into_hole a_comma s u p q i o x r f = absurd (refuse_not_ok o)
  into_hole a_colon s u p q i o x r f = absurd (refuse_not_ok o)
