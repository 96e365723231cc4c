-- What is read by name of a text with its end mark: all but a whole text is read as without it. Where a text ends without the mark,
-- a rule meets the mark as a token, and denies it by the same number.
use Prim.Native.Nat.{ℕ, zero, suc, ◌<◌}
use native.Mathlib.Omega.{arith}
use mathlib.Core.Path.{◌≡◌, refl, sym, ap, ◌∙◌}
use mathlib.Core.Bool.{Bool, true, false}
use mathlib.Core.List.{List, [], ◌∷◌}
use lib.Dec.{leb, eqb}
use lib.ListN.{length}
use Rattle.cbor.specs.Refusals.{Result, ok, refuse, bind, too_deep, not_allowed, mixed_chunks, bad_typed_array}
use Rattle.cbor.specs.Widths.{Width}
use Rattle.cbor.specs.Items.{Kind, Size, definite, indefinite, Chunk, Item, array, map, tag, none, more, none₂, more₂, count, count₂, levels}
use Rattle.cbor.specs.TypedArrays.{may_tag}
use Rattle.notation.specs.Scanning.{skip}
use Rattle.notation.specs.Indicators.{Indicator, absent, indefinitely, unknown, wide, Chosen, chosen, misfit, choose}
use Rattle.notation.specs.Tokens.{Opener, bracket, brace, tagging, embedding, Beginning, leaf, literal, chunking, opens, Shape, whole, round, Token, begins, closes, a_comma, a_colon}
use Rattle.notation.specs.Cutting.{next, place}
use Rattle.notation.specs.Form.{Position, at_start, behind_comma, Wanted, Name, one, items, pairs, chunks, Closed, Value, Rule, give, deny, deny_first, take, call, then, stray, stray_closing, strays, shape_number, closing_rule, width_rule, contains, embeds, tag_rule, after_tag, inside, beginning, one_rule, after_item, items_rule, after_value, after_key, pairs_rule, after_chunk, is_wanted, chunk_rule, chunks_rule, rules, obey, reads}
use Rattle.notation.specs.Reading.{marked}
use Rattle.notation.specs.Alone.{plus}
use Rattle.notation_theorems.proofs.Good.{Below, good-below}
use Rattle.notation_theorems.proofs.Locality.{lexing}
use Rattle.notation_theorems.proofs.ByName.{reads-is, reads-good}
use Rattle.notation_theorems.proofs.MarkedText.{place-marked, next-marked, place_end, next-end, next-mark}

-- WHAT STANDS INSIDE A TEXT: the end closes none of it
abbrev pub Inner : Name → Type 0
Inner (one d) = Unit {0}
Inner (items h b d) = eqb (shape_number h) 4 ≡ false
Inner (pairs b d) = Unit {0}
Inner (chunks w d) = Unit {0}

-- a rule for any token, which denies the end
abbrev Ends : {A : Type 0} → (Token → Rule A) → Type 0
Ends f = f (closes whole absent) ≡ deny not_allowed

-- wherever the rule takes a token, the end is denied, and what it calls stands inside
abbrev Safe : {A : Type 0} → Rule A → Type 0
Safe (give x) = Unit {0}
Safe (deny n) = Unit {0}
Safe (deny_first n) = Unit {0}
Safe (take f) = ((t : Token) → Safe (f t)) × Ends f
Safe (call n k) = Inner n × ((x : Value n) → Safe (k x))

-- EVERY RULE IS SAFE
safe_if : {A : Type 0} (v : Bool) (r r' : Rule A) → Safe r → Safe r' → Safe {A = A} (elim v [ true ↦ r | false ↦ r' ])
safe_if true r r' h h' = h
safe_if false r r' h h' = h'

safe_then : {A B : Type 0} (r : Rule A) (k : A → Rule B) → Safe r → ((x : A) → Safe (k x)) → Safe (then r k)
unfolding then
safe_then (give x) k h g = g x
safe_then (deny n) k h g = tt
safe_then (deny_first n) k h g = tt
safe_then (take f) k h g = (λ t. safe_then (f t) k (h.0 t) g, ap (λ r. then r k) h.1)
safe_then (call n j) k h g = (h.0, λ x. safe_then (j x) k (h.1 x) g)

closing_safe : {A : Type 0} (d : ℕ) (h h' : Shape) (i : Indicator) (x : A) → Safe (closing_rule d h h' i x)
unfolding closing_rule strays
closing_safe d h h' i x = safe_if (eqb (shape_number h) (shape_number h')) (give x) (strays d (closes h' i)) tt tt

sized_safe : (c : Chosen) (make : Width → Item) → Safe (width_rule c make)
unfolding width_rule
sized_safe (chosen w) make = tt
sized_safe misfit make = tt

contains_safe : (i : Indicator) (n : ℕ) (make : Size → Item) → Safe (contains i n make)
unfolding contains
contains_safe absent n make = sized_safe (choose absent n) (λ w. make (definite w))
contains_safe indefinitely n make = tt
contains_safe unknown n make = sized_safe (choose unknown n) (λ w. make (definite w))
contains_safe (wide w) n make = sized_safe (choose (wide w) n) (λ w. make (definite w))

embeds_safe : (c : Closed) → Safe (embeds c)
unfolding embeds
embeds_safe c = sized_safe _ _

tags_safe : (w : Width) (n : ℕ) (x : Item) → Safe (tag_rule w n x)
unfolding tag_rule
tags_safe w n x = safe_if (may_tag n x) (give (tag w n x)) (deny_first bad_typed_array) tt tt

after_tag_safe : (d : ℕ) (w : Width) (n : ℕ) (x : Item) (t : Token) → Safe (after_tag d w n x t)
unfolding after_tag strays
after_tag_safe d w n x (begins g) = tt
after_tag_safe d w n x (closes h i) = safe_then (closing_rule d round h i x) (tag_rule w n) (closing_safe d round h i x) (tags_safe w n)
after_tag_safe d w n x a_comma = tt
after_tag_safe d w n x a_colon = tt

inside_safe : (d : ℕ) (o : Opener) → Safe (inside d o)
unfolding inside shape_number after_tag closing_rule strays then stray stray_closing
inside_safe d (bracket i) = (refl, λ c. contains_safe i (count c.all) (λ z. array z c.all))
inside_safe d (brace i) = (tt, λ ps. contains_safe i (count₂ ps) (λ z. map z ps))
inside_safe d (tagging w n) = (tt, λ x. (after_tag_safe d w n x, refl))
inside_safe d embedding = (refl, embeds_safe)

beginning_safe : (d : ℕ) (g : Beginning) → Safe (beginning d g)
unfolding beginning
beginning_safe d (leaf x) = safe_if (leb (levels x) d) (give x) (deny too_deep) tt tt
beginning_safe d (literal k z b) = tt
beginning_safe d chunking = (tt, λ c. tt)
beginning_safe zero (opens o) = tt
beginning_safe (suc d) (opens o) = inside_safe d o

one_safe : (d : ℕ) (t : Token) → Safe (one_rule d t)
unfolding one_rule strays
one_safe d (begins g) = beginning_safe d g
one_safe d (closes h i) = tt
one_safe d a_comma = tt
one_safe d a_colon = tt

-- the end is not what closes h
closing_ends : {A : Type 0} (d : ℕ) (h : Shape) (x : A) → eqb (shape_number h) 4 ≡ false → closing_rule d h whole absent x ≡ deny not_allowed
unfolding closing_rule shape_number strays stray stray_closing
closing_ends d h x e = rw (e, closing_rule)

module _ (h : Shape) (inner : eqb (shape_number h) 4 ≡ false) where
  after_item_safe : (d : ℕ) (x : Item) (t : Token) → Safe (after_item h d x t)
  unfolding after_item strays
  after_item_safe d x (begins g) = tt
  after_item_safe d x (closes h' i) = closing_safe d h h' i (record { all = more x none; indicator = i })
  after_item_safe d x a_comma = (inner, λ c. tt)
  after_item_safe d x a_colon = tt

  items_safe : (b : Position) (d : ℕ) (t : Token) → Safe (items_rule h b d t)
  unfolding items_rule strays after_item
  items_safe b d (begins g) =
      safe_then (beginning d g) (λ x. take (after_item h d x)) (beginning_safe d g)
      (λ x. (after_item_safe d x, closing_ends d h (record { all = more x none; indicator = absent }) inner))
  items_safe at_start d (closes h' i) = closing_safe d h h' i (record { all = none; indicator = i })
  items_safe behind_comma d (closes h' i) = tt
  items_safe b d a_comma = tt
  items_safe b d a_colon = tt

  items-end : (b : Position) (d : ℕ) → Ends (items_rule h b d)
  unfolding items_rule strays stray stray_closing
  items-end at_start d = closing_ends d h (record { all = none; indicator = absent }) inner
  items-end behind_comma d = refl

after_value_safe : (d : ℕ) (k x : Item) (t : Token) → Safe (after_value d k x t)
unfolding after_value strays
after_value_safe d k x (begins g) = tt
after_value_safe d k x (closes h i) = closing_safe d _ h i (more₂ k x none₂)
after_value_safe d k x a_comma = (tt, λ ps. tt)
after_value_safe d k x a_colon = tt

after_key_safe : (d : ℕ) (k : Item) (t : Token) → Safe (after_key d k t)
unfolding after_key after_value closing_rule shape_number strays stray stray_closing
after_key_safe d k (begins g) = tt
after_key_safe d k (closes h i) = tt
after_key_safe d k a_comma = tt
after_key_safe d k a_colon = (tt, λ x. (after_value_safe d k x, refl))

pairs_safe : (b : Position) (d : ℕ) (t : Token) → Safe (pairs_rule b d t)
unfolding pairs_rule after_key strays stray stray_closing
pairs_safe b d (begins g) = safe_then (beginning d g) (λ k. take (after_key d k)) (beginning_safe d g) (λ k. (after_key_safe d k, refl))
pairs_safe at_start d (closes h i) = closing_safe d _ h i none₂
pairs_safe behind_comma d (closes h i) = tt
pairs_safe b d a_comma = tt
pairs_safe b d a_colon = tt

after_chunk_safe : (d : ℕ) (k : Kind) (c : Chunk) (t : Token) → Safe (after_chunk d k c t)
unfolding after_chunk strays
after_chunk_safe d k c (begins g) = tt
after_chunk_safe d k c (closes h i) = closing_safe d round h i (record { kind = k; all = c ∷ [] })
after_chunk_safe d k c a_comma = (tt, λ cs. tt)
after_chunk_safe d k c a_colon = tt

chunk_safe : (want : Wanted) (d : ℕ) (k : Kind) (z : Size) (b : List ℕ) → Safe (chunk_rule want d k z b)
unfolding chunk_rule after_chunk closing_rule shape_number strays stray stray_closing
chunk_safe want d k (definite w) b =
    safe_if (is_wanted want k) (take (after_chunk d k (record { width = w; content = b }))) (deny mixed_chunks) (after_chunk_safe d k (record { width = w; content = b }), refl) tt
chunk_safe want d k indefinite b = tt

chunks_safe : (want : Wanted) (d : ℕ) (t : Token) → Safe (chunks_rule want d t)
unfolding chunks_rule strays
chunks_safe want d (begins (leaf x)) = tt
chunks_safe want d (begins (literal k z b)) = chunk_safe want d k z b
chunks_safe want d (begins chunking) = tt
chunks_safe want d (begins (opens o)) = tt
chunks_safe want d (closes h i) = tt
chunks_safe want d a_comma = tt
chunks_safe want d a_colon = tt

-- THE TABLE
rules_safe : (n : Name) → Inner n → (t : Token) → Safe (rules n t)
unfolding rules
rules_safe (one d) i = one_safe d
rules_safe (items h b d) i = items_safe h i b d
rules_safe (pairs b d) i = pairs_safe b d
rules_safe (chunks w d) i = chunks_safe w d

rules-end : (n : Name) → Inner n → Ends (rules n)
unfolding rules one_rule pairs_rule chunks_rule closing_rule shape_number strays stray stray_closing
rules-end (one d) i = refl
rules-end (items h b d) i = items-end h i b d
rules-end (pairs at_start d) i = refl
rules-end (pairs behind_comma d) i = refl
rules-end (chunks w d) i = refl

-- A RULE ON A MARKED TEXT
bind-plus : {A B : Type 0} (n : ℕ) (R : Result B) (f g : B → List ℕ → Result A) → Below n R → ((x : B) (r : List ℕ) → length r < n → f x (marked r) ≡ plus (g x r)) → bind (plus R) f ≡ plus (bind R g)
unfolding bind plus
bind-plus n (ok x r) f g b h = h x r b
bind-plus n (refuse k w) f g b h = refl

-- a token is taken: there is one, or only the mark is left
take-marked : {A : Type 0} (f : Token → Rule A) (p : ℕ) (s : List ℕ) → Ends f
    → ((t : Token) (r : List ℕ) → length r < length s → obey reads (f t) (suc p) (suc (place s)) (marked r) ≡ plus (obey reads (f t) p (place s) r))
    → bind (next (marked s)) (λ t r. obey reads (f t) (suc p) (suc (place s)) r) ≡ plus (bind (next s) (λ t r. obey reads (f t) p (place s) r))
unfolding bind obey plus
take-marked f p s e h = go (skip s) refl
  where
    go : (w : List ℕ) → skip s ≡ w → bind (next (marked s)) (λ t r. obey reads (f t) (suc p) (suc (place s)) r) ≡ plus (bind (next s) (λ t r. obey reads (f t) p (place s) r))
    go [] i = rw (next-mark s i, next-end s i, e, place_end s i)
    go (b ∷ u) i =
        ap (λ R. bind R (λ t r. obey reads (f t) (suc p) (suc (place s)) r)) (next-marked s i)
        ∙ bind-plus (length s) (next s) (λ t r. obey reads (f t) (suc p) (suc (place s)) r) (λ t r. obey reads (f t) p (place s) r) (lexing.less s) h

reads-below : (n : Name) (s : List ℕ) → Below (suc (length s)) (reads n s)
reads-below n s = good-below (λ p q. reads n) s (reads n s) (reads-good n s)

-- if what it calls, on texts of fewer than m elements, is read alike
module _ (m : ℕ) (calls : (n : Name) → Inner n → (s : List ℕ) → length s < m → reads n (marked s) ≡ plus (reads n s)) where
  obey-marked : {A : Type 0} (r : Rule A) → Safe r → (p q : ℕ) (s : List ℕ) → length s < m → obey reads r (suc p) (suc q) (marked s) ≡ plus (obey reads r p q s)
  unfolding obey plus
  obey-marked (give x) h p q s l = refl
  obey-marked (deny k) h p q s l = refl
  obey-marked (deny_first k) h p q s l = refl
  obey-marked (take f) h p q s l = rw (place-marked s) (take-marked f p s h.1 (λ t r b. obey-marked (f t) (h.0 t) p (place s) r (omega arith)))
  obey-marked (call n k) h p q s l =
      ap (λ R. bind R (λ x r. obey reads (k x) (suc p) (suc q) r)) (calls n h.0 s l)
      ∙ bind-plus (suc (length s)) (reads n s) (λ x r. obey reads (k x) (suc p) (suc q) r) (λ x r. obey reads (k x) p q r) (reads-below n s)
      (λ x r b. obey-marked (k x) (h.1 x) p q r (omega arith))

-- BY NAME
within-marked : (m : ℕ) (n : Name) → Inner n → (s : List ℕ) → length s < m → reads n (marked s) ≡ plus (reads n s)
within-marked zero n i s l = absurd (omega arith)
within-marked (suc m) n i s l =
    reads-is n (marked s)
    ∙ rw (place-marked s)
    (take-marked (rules n) (place s) s (rules-end n i) (λ t r b. obey-marked m (within-marked m) (rules n t) (rules_safe n i t) (place s) (place s) r (omega arith)))
    ∙ ap plus (sym (reads-is n s))

pub name_marked : (n : Name) → Inner n → (s : List ℕ) → reads n (marked s) ≡ plus (reads n s)
name_marked n i s = within-marked (suc (length s)) n i s (omega arith)

pub reads-marked : (d : ℕ) (s : List ℕ) → reads (one d) (marked s) ≡ plus (reads (one d) s)
reads-marked d s = name_marked (one d) tt s
