-- The items of a text are all found: where a path leads to an item, the way by that path through the text leads to the item's text.
use Prim.Native.Nat.{ℕ, suc, ◌-◌}
use native.Mathlib.Omega.{arith}
use mathlib.Core.Path.{◌≡◌, refl, sym, ap, ◌∙◌}
use mathlib.Core.Logic.{◌⊎◌, inl, inr, ⊎_elim}
use mathlib.Core.List.{List, [], ◌∷◌, ◌++◌, append-nil, append_cancel_right}
use lib.Dec.{leb}
use lib.ListN.{length}
use Rattle.cbor.specs.Refusals.{ok, accepted}
use Rattle.cbor.specs.Items.{Item, int, string, chunked, array, map, tag, simple, Items, levels}
use Rattle.cbor.specs.Decode.{most_levels}
use Rattle.cbor.specs.Paths.{Spot, found, nth, child, descend, locate}
use Rattle.cbor.proofs.Results.{verdict_ok}
use Rattle.cbor.proofs.Utf8Text.{text_of}
use Rattle.notation.specs.Scanning.{skip}
use Rattle.notation.specs.Tokens.{leaf, whole, Token, begins}
use Rattle.notation.specs.Cutting.{next, place}
use Rattle.notation.specs.Form.{at_start, one, take, beginning, obey, reads}
use Rattle.notation.specs.Reading.{marked, sequence, read_text, single, read_item}
use Rattle.notation.specs.Places.{to_element, into, toward, levels_at, around, Span, span_of, span_at, text_at}
use Rattle.notation.specs.Theorems.{IntoLeaf, ItemsFound}
use Rattle.notation_theorems.proofs.Good.{stop_nil, like}
use Rattle.notation_theorems.proofs.TextScan.{tested}
use Rattle.notation_theorems.proofs.Locality.{next-skip}
use Rattle.notation_theorems.proofs.ByName.{bind_ok, took-next}
use Rattle.notation_theorems.proofs.Equations.{one-begins}
use Rattle.notation_theorems.proofs.SoundToken.{next_sound}
use Rattle.notation_theorems.proofs.Substitution.{single-ok, Spanned}
use Rattle.notation_theorems.proofs.Edited.{Passes, checked-ok, Read, read_ok, skip_twice, own, own_text, edited-text}
use Rattle.notation_theorems.proofs.Ways.{Leads, leads-map, leads_any, leads-onward, onward-leads, Gives, gives-ok, Way, ToElement, items_lead, Step, enters, halts, child-leads}

-- DOWN A PATH: d levels are left at s; the way by the path p leads to the text of the item y
record Walk (d : ℕ) (p s : List ℕ) (y : Item) : Type 0 where
  from : List ℕ
  behind : List ℕ
  was : reads (one (levels_at d p)) from ≡ ok y behind
  way : (m n : ℕ) → obey reads (toward d p) m n s ≡ ok tt from

-- or a front of p leads to an item that is one token
record Halt (d : ℕ) (p s : List ℕ) : Type 0 where
  front : List ℕ
  step : ℕ
  rest : List ℕ
  path : p ≡ front ++ (step ∷ rest)
  item : Item
  walk : Walk d front s item
  token : next walk.from ≡ ok (begins (leaf item)) walk.behind

abbrev Goes : ℕ → List ℕ → List ℕ → Item → Type 0
Goes d p s y = Walk d p s y ⊎ Halt d p s

walk_here : (d : ℕ) (s a : List ℕ) (x : Item) → reads (one d) s ≡ ok x a → Walk d [] s x
unfolding toward levels_at obey
walk_here d s a x e = record { from = s; behind = a; was = e; way = λ m n. refl }

walk_on : (e k : ℕ) (p s : List ℕ) (x y : Item) (w : Way e (λ go. take (into e go k)) s x) → Walk e p w.from y → Walk (suc e) (k ∷ p) s y
unfolding toward levels_at
walk_on e k p s x y w h = record { from = h.from; behind = h.behind; was = h.was; way = λ m n. let o = w.on (toward e p) m n in o.2 ∙ h.way o.0 o.1 }

goes_on_lem : (e k : ℕ) (p s : List ℕ) (x y : Item) (w : Way e (λ go. take (into e go k)) s x) → Goes e p w.from y → Goes (suc e) (k ∷ p) s y
unfolding walk_on
goes_on_lem e k p s x y w (inl h) = inl (walk_on e k p s x y w h)
goes_on_lem e k p s x y w (inr h) =
    inr
    (record {
      front = k ∷ h.front;
      step = h.step;
      rest = h.rest;
      path = ap (λ (u : List ℕ). k ∷ u) h.path;
      item = h.item;
      walk = walk_on e k h.front s x h.item w h.walk;
      token = h.token;
    })

path-leads : (p : List ℕ) (i d : ℕ) (s a : List ℕ) (x : Item) → reads (one d) s ≡ ok x a → Leads (Goes d p s) (descend i p x)
unfolding descend walk_here
path-leads [] i d s a x e = inl (walk_here d s a x e)
path-leads (k ∷ p) i d s a x e =
    leads-onward (Step d k s x a) (Goes d (k ∷ p) s) (child i k x) (descend (suc i) p) (child-leads i k s d x a e) (λ y c. go y (λ m u b e. path-leads p (suc i) m u b y e) c)
  where
    go : (y : Item) → ((m : ℕ) (u b : List ℕ) → reads (one m) u ≡ ok y b → Leads (Goes m p u) (descend (suc i) p y)) → Step d k s x a y → Leads (Goes d (k ∷ p) s) (descend (suc i) p y)
    go y ih (enters m f w) =
        rw f (leads-map (Goes m p w.from) (Goes (suc m) (k ∷ p) s) (descend (suc i) p y) (λ z h. goes_on_lem m k p s y z w h) (ih m w.from w.behind w.was))
    go y ih (halts f) =
        leads_any (Goes d (k ∷ p) s) (descend (suc i) p y) (λ z. inr (record { front = []; step = k; rest = p; path = refl; item = x; walk = walk_here d s a x e; token = f }))

-- IN A TEXT: the place of an item that a way leads to
module _ (t : List ℕ) (k : ℕ) (p : List ℕ) {x y : Item} (w : ToElement most_levels (marked t) k x) (h : Walk most_levels p w.from y) where
  span : Span
  span = record { start = suc (length t) - length (skip h.from); end = suc (length t) - length h.behind }

  way_is : obey reads (to_element most_levels (toward most_levels p) k) 0 0 (marked t) ≡ ok tt h.from
  way_is = let o = w.on (toward most_levels p) 0 0 in o.2 ∙ h.way o.0 o.1

  span-is : span_at (k ∷ p) t ≡ found span
  unfolding span_at around span_of span
  span-is = ap (span_of (suc (length t))) (bind_ok _ way_is ∙ bind_ok _ h.was)

  spanned-is : Spanned k p t span
  unfolding span
  spanned-is = record { from = h.from; behind = h.behind; old = y; way = way_is; was = h.was; start = refl; end = refl }

-- a token is read of its own text alone as it is in front of what stands behind
next-alone : (s used a : List ℕ) (t : Token) → s ≡ used ++ a → next s ≡ ok t a → next used ≡ ok t []
next-alone s used a t f e =
    let k = took-next s e in
    rw (append_cancel_right used k.used a (sym f ∙ k.split)) (ap next (sym (append-nil k.used)) ∙ k.again 0 0 [] (like stop_nil))

module _ (t : List ℕ) (xs : Items) (rd : Read t xs) (k : ℕ) (p : List ℕ) {x y : Item} (w : ToElement most_levels (marked t) k x) (h : Walk most_levels p w.from y) where
  token-is : next h.from ≡ ok (begins (leaf y)) h.behind → next (text_at t (span t k p w h)) ≡ ok (begins (leaf y)) []
  unfolding spanned-is
  token-is e =
      let sp = spanned-is t k p w h in
      rw (own_text t xs k p (span t k p w h) rd sp)
      (next-alone (skip h.from) (own t xs k p (span t k p w h) rd sp).used h.behind (begins (leaf y)) (own t xs k p (span t k p w h) rd sp).split (next-skip (skip h.from) h.from (skip_twice h.from) ∙ e))

-- what `every` says of a path
abbrev Placed : List ℕ → List ℕ → Type 0
Placed t p = ((w : Span) × (span_at p t ≡ found w)) ⊎ IntoLeaf t p

text-leads : (t : List ℕ) (xs : Items) → Read t xs → (p : List ℕ) → Leads (λ y. Placed t p) (locate p xs)
unfolding locate sequence
text-leads t xs rd [] = tt
text-leads t xs rd (k ∷ p) =
    rw (← rd.all)
    (leads-onward (ToElement most_levels (marked t) k) (λ y. Placed t (k ∷ p)) (nth 0 k rd.closed.all) (descend 1 p) (items_lead k 0 whole at_start most_levels (marked t) rd.closed rd.rest rd.reading)
    (λ x w. leads-map (Goes most_levels p w.from) (λ y. Placed t (k ∷ p)) (descend 1 p x) (λ y h. go x y w h) (path-leads p 1 most_levels w.from w.behind x w.was)))
  where
    go : (x y : Item) (w : ToElement most_levels (marked t) k x) → Goes most_levels p w.from y → Placed t (k ∷ p)
    go x y w (inl h) = inl (span t k p w h, span-is t k p w h)
    go x y w (inr h) =
        inr
        (record {
          front = k ∷ h.front;
          step = h.step;
          rest = h.rest;
          path = ap (λ (u : List ℕ). k ∷ u) h.path;
          span = span t k h.front w h.walk;
          place = span-is t k h.front w h.walk;
          item = h.item;
          token = token-is t xs rd k h.front w h.walk h.token;
        })

-- WHAT IS WRITTEN AS ONE TOKEN has no items inside

-- an item that no path enters, and a path that goes on from such an item
abbrev Childless : Item → Type 0
Childless x = (i k : ℕ) → Leads (λ y. ⊥) (child i k x)

childless_ends : (q : List ℕ) (i : ℕ) (x : Item) (k : ℕ) (p : List ℕ) → Leads Childless (descend i q x) → Leads (λ y. ⊥) (descend i (q ++ (k ∷ p)) x)
unfolding descend
childless_ends [] i x k p h = leads-onward (λ y. ⊥) (λ y. ⊥) (child i k x) (descend (suc i) p) (h i k) (λ y e. absurd e)
childless_ends (j ∷ q) i x k p h =
    onward-leads Childless (λ y. ⊥) (child i j x) (descend (suc i) q) (descend (suc i) (q ++ (k ∷ p))) (λ y h. childless_ends q (suc i) y k p h) h

flat_childless : (x : Item) → levels x ≡ 0 → Childless x
unfolding levels child
flat_childless (int g w n) e i k = tt
flat_childless (string g w b) e i k = tt
flat_childless (chunked g cs) e i k = tt
flat_childless (array z xs) e i k = absurd (omega arith)
flat_childless (map z ps) e i k = absurd (omega arith)
flat_childless (tag w n x) e i k = tt
flat_childless (simple n) e i k = tt

leaf_flat : (s : List ℕ) (x : Item) → Passes s → next s ≡ ok (begins (leaf x)) [] → levels x ≡ 0
leaf_flat s x h e = (rw e at (next_sound s (text_of s h.utf8) (omega (arith, h.short)))).1.0.2

-- what is read where such a token stands alone
leaf-reads : (d : ℕ) (s : List ℕ) (x y : Item) → read_item d s ≡ accepted y → next s ≡ ok (begins (leaf x)) [] → Childless y
unfolding read_item beginning
leaf-reads d s x y e f =
    let c = checked-ok s _ e in
    let v = verdict_ok (length s) (single d s) c.1 in
    gives-ok (λ y r. Childless y) (beginning d (leaf x)) (place s) (place s) []
    (tested (λ r. Gives (λ y r. Childless y) r []) (leb (levels x) d) _ _ (λ g. flat_childless x (leaf_flat s x c.0 f)) (λ g. tt))
    (sym (one-begins d (leaf x) s [] f) ∙ single-ok d s v.1)

leaf-ends : (t : List ℕ) (xs : Items) → read_text t ≡ accepted xs → (p : List ℕ) → IntoLeaf t p → Leads (λ y. ⊥) (locate p xs)
unfolding locate span_at
leaf-ends t xs e p l = go l.front l.path l.place
  where
    go : (q : List ℕ) → p ≡ q ++ (l.step ∷ l.rest) → span_at q t ≡ found l.span → Leads (λ y. ⊥) (locate p xs)
    go [] f g = let c : ◌≡◌ {A = ℕ} 0 1 = cc in absurd (omega arith)
    go (k ∷ q) f g =
        let ed = edited-text t xs k q l.span e g in
        rw f
        (onward-leads Childless (λ y. ⊥) (nth 0 k xs) (descend 1 q) (descend 1 (q ++ (l.step ∷ l.rest))) (λ x h. childless_ends q 1 x l.step l.rest h)
        (rw ed.place (leaf-reads (levels_at most_levels q) (text_at t l.span) l.item ed.spot.item ed.same l.token)))

pub items-found : ItemsFound
items-found t xs e =
    record {
      every = λ p z f. rw f at (text-leads t xs (read_ok t xs e) p);
      leaves = λ p z f l. rw f at (leaf-ends t xs e p l);
    }

-- so each item has its place
pub item-found : (t : List ℕ) (xs : Items) (p : List ℕ) (z : Spot) → read_text t ≡ accepted xs → locate p xs ≡ found z → (w : Span) × (span_at p t ≡ found w)
item-found t xs p z e f = ⊎_elim (λ w. w) (λ l. absurd ((items-found t xs e).leaves p z f l)) ((items-found t xs e).every p z f)
