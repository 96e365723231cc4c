-- Where items are read, there is a way to the text of each one; where an array or a map is read, to the text of each item inside.
use Prim.Native.Nat.{ℕ, zero, suc}
use mathlib.Core.Path.{◌≡◌, refl, sym, ◌∙◌}
use mathlib.Core.List.{List, [], ◌++◌}
use lib.Dec.{leb, eqb}
use Rattle.cbor.specs.Refusals.{Result, ok, refuse}
use Rattle.cbor.specs.Widths.{Width}
use Rattle.cbor.specs.Items.{Size, definite, indefinite, Item, array, map, Items, none, more, Pairs, none₂, more₂, count, count₂, levels}
use Rattle.cbor.specs.Heads.{arrays, maps}
use Rattle.cbor.specs.Encode.{encode, opening_head, closing_break as closing_bytes}
use Rattle.cbor.specs.TypedArrays.{may_tag}
use Rattle.cbor.specs.Paths.{Spot, Found, found, nowhere, within, nth, nth₂, child, onward}
use Rattle.cbor.proofs.Results.{refuse_not_ok}
use Rattle.notation.specs.Indicators.{Indicator, absent, indefinitely, unknown, wide, Chosen, chosen, misfit, choose}
use Rattle.notation.specs.Tokens.{Opener, bracket, brace, tagging, embedding, Beginning, leaf, literal, chunking, opens, Shape, square, curly, round, Token, begins, closes, a_comma, a_colon}
use Rattle.notation.specs.Cutting.{next, place}
use Rattle.notation.specs.Form.{Position, at_start, behind_comma, Name, one, items, pairs, Closed, Value, Rule, give, deny, deny_first, take, call, then, strays, shape_number, closing_rule, width_rule, contains, embeds, tag_rule, after_tag, inside, literal_item, beginning, add_item, after_item, items_rule, after_value, after_key, pairs_rule, rules, obey, reads}
use Rattle.notation.specs.Places.{Separator, by_comma, by_colon, separated, past, to_element, to_value, into}
use Rattle.notation_theorems.proofs.TextScan.{tested}
use Rattle.notation_theorems.proofs.ByName.{bind_ok, reads-is}
use Rattle.notation_theorems.proofs.Equations.{element, one-begins, one-starts, items-begin, pairs-begin}
use Rattle.notation_theorems.proofs.Splice.{bind_inv}
use Rattle.notation_theorems.proofs.Replace.{token_of}

-- WHAT A PATH FINDS: where it finds an item, P holds of that item
abbrev pub Leads : (Item → Type 0) → Found Spot → Type 0
Leads P (found z) = P z.item
Leads P (nowhere i) = Unit {0}

pub leads-map : (P Q : Item → Type 0) (f : Found Spot) → ((x : Item) → P x → Q x) → Leads P f → Leads Q f
leads-map P Q (found z) g h = g z.item h
leads-map P Q (nowhere i) g h = tt

pub leads_any : (P : Item → Type 0) (f : Found Spot) → ((x : Item) → P x) → Leads P f
leads_any P (found z) g = g z.item
leads_any P (nowhere i) g = tt

leads-within : (P : Item → Type 0) (a b : List ℕ) (f : Found Spot) → Leads P f → Leads P (within a b f)
unfolding within
leads-within P a b (found z) h = h
leads-within P a b (nowhere i) h = tt

within-leads : (P : Item → Type 0) (a b : List ℕ) (f : Found Spot) → Leads P (within a b f) → Leads P f
unfolding within
within-leads P a b (found z) h = h
within-leads P a b (nowhere i) h = tt

pub leads-onward : (P Q : Item → Type 0) (f : Found Spot) (go : Item → Found Spot) → Leads P f → ((x : Item) → P x → Leads Q (go x)) → Leads Q (onward f go)
unfolding onward
leads-onward P Q (found z) go h k = leads-within Q z.before z.behind (go z.item) (k z.item h)
leads-onward P Q (nowhere i) go h k = tt

pub onward-leads : (P Q : Item → Type 0) (f : Found Spot) (go go' : Item → Found Spot) → ((x : Item) → Leads P (go x) → Leads Q (go' x)) → Leads P (onward f go) → Leads Q (onward f go')
unfolding onward
onward-leads P Q (found z) go go' k h = leads-within Q z.before z.behind (go' z.item) (k z.item (within-leads P z.before z.behind (go z.item) h))
onward-leads P Q (nowhere i) go go' k h = tt

-- WHAT A RULE GIVES: whenever r succeeds on s, P holds of the value and of what is left
abbrev pub Gives : {A : Type 0} → (A → List ℕ → Type 0) → Rule A → List ℕ → Type 0
Gives P (give x) s = P x s
Gives P (deny k) s = Unit {0}
Gives P (deny_first k) s = Unit {0}
Gives P (take f) s = (t : Token) (u : List ℕ) → next s ≡ ok t u → Gives P (f t) u
Gives P (call n k) s = (x : Value n) (u : List ℕ) → reads n s ≡ ok x u → Gives P (k x) u

pub gives-ok : {A : Type 0} (P : A → List ℕ → Type 0) (r : Rule A) (p q : ℕ) (s : List ℕ) {x : A} {t : List ℕ} → Gives P r s → obey reads r p q s ≡ ok x t → P x t
unfolding obey
gives-ok P (give y) p q s {x} {t} g e = let f : y ≡ x = cc in let h : s ≡ t = cc in rw (← f, ← h) g
gives-ok P (deny k) p q s g e = absurd (refuse_not_ok e)
gives-ok P (deny_first k) p q s g e = absurd (refuse_not_ok e)
gives-ok P (take f) p q s g e = let i = bind_inv (next s) _ e in gives-ok P (f i.0) p (place s) i.1 (g i.0 i.1 i.2) i.3
gives-ok P (call n k) p q s g e = let i = bind_inv (reads n s) _ e in gives-ok P (k i.0) p q i.1 (g i.0 i.1 i.2) i.3

closing_gives : {A : Type 0} (P : A → List ℕ → Type 0) (d : ℕ) (h h' : Shape) (i : Indicator) (x : A) (s : List ℕ) → P x s → Gives P (closing_rule d h h' i x) s
unfolding closing_rule strays
closing_gives P d h h' i x s g = tested (λ r. Gives P r s) (eqb (shape_number h) (shape_number h')) _ _ (λ e. g) (λ e. tt)

-- by name, where an element stands or what closes the whole
named_gives : (n : Name) (d : ℕ) (after : Item → Token → Rule (Value n)) (P : Value n → List ℕ → Type 0)
    → ((g : Beginning) (s r : List ℕ) → next s ≡ ok (begins g) r → reads n s ≡ obey reads (element d after) (place s) (place s) s)
    → ((h : Shape) (i : Indicator) (u : List ℕ) → Gives P (rules n (closes h i)) u) → ((u : List ℕ) → Gives P (rules n a_comma) u) → ((u : List ℕ) → Gives P (rules n a_colon) u)
    → (s : List ℕ) → Gives P (element d after) s → (x : Value n) (r : List ℕ) → reads n s ≡ ok x r → P x r
named_gives n d after P begin at-close at-comma at-colon s h x r e = go (next s) refl
  where
    on : (t : Token) (u : List ℕ) → next s ≡ ok t u → Gives P (rules n t) u → P x r
    on t u f g = gives-ok P (rules n t) (place s) (place s) u g (sym (reads-is n s ∙ bind_ok _ f) ∙ e)

    go : (R : Result Token) → next s ≡ R → P x r
    go (ok (begins g) u) f = gives-ok P (element d after) (place s) (place s) s h (sym (begin g s u f) ∙ e)
    go (ok (closes j i) u) f = on (closes j i) u f (at-close j i u)
    go (ok a_comma u) f = on a_comma u f (at-comma u)
    go (ok a_colon u) f = on a_colon u f (at-colon u)
    go (refuse k w) f = absurd (refuse_not_ok (sym f ∙ (bind_inv (next s) _ (sym (reads-is n s) ∙ e)).2))

-- Items are none; one, the last; or one, a comma and more
items_cases : (P : Items → Type 0) (h : Shape) (b : Position) (d : ℕ) (s : List ℕ) → P none → ((x : Item) (u : List ℕ) → reads (one d) s ≡ ok x u → P (more x none))
    → ((x : Item) (u v : List ℕ) (c : Closed) (r : List ℕ) → reads (one d) s ≡ ok x u → next u ≡ ok a_comma v → reads (items h behind_comma d) v ≡ ok c r → P (more x c.all))
    → (c : Closed) (r : List ℕ) → reads (items h b d) s ≡ ok c r → P c.all
unfolding rules items_rule after_item strays add_item
items_cases P h b d s empty last further =
    named_gives (items h b d) d (after_item h d) (λ c r. P c.all) (items-begin h b d) (close b) (λ u. tt) (λ u. tt) s (λ x u e t v f. behind x u e t v f)
  where
    close : (b : Position) (h' : Shape) (i : Indicator) (u : List ℕ) → Gives (λ c r. P c.all) (items_rule h b d (closes h' i)) u
    close at_start h' i u = closing_gives (λ c r. P c.all) d h h' i _ u empty
    close behind_comma h' i u = tt

    behind : (x : Item) (u : List ℕ) → reads (one d) s ≡ ok x u → (t : Token) (v : List ℕ) → next u ≡ ok t v → Gives (λ c r. P c.all) (after_item h d x t) v
    behind x u e (begins g) v f = tt
    behind x u e (closes h' i) v f = closing_gives (λ c r. P c.all) d h h' i _ v (last x u e)
    behind x u e a_comma v f = λ c r g. further x u v c r e f g
    behind x u e a_colon v f = tt

-- and so are pairs
pairs_cases : (P : Pairs → Type 0) (b : Position) (d : ℕ) (s : List ℕ) → P none₂
    → ((y x : Item) (u v w : List ℕ) → reads (one d) s ≡ ok y u → next u ≡ ok a_colon v → reads (one d) v ≡ ok x w → P (more₂ y x none₂))
    → ((y x : Item) (u v w z : List ℕ) (ps : Pairs) (r : List ℕ) → reads (one d) s ≡ ok y u → next u ≡ ok a_colon v → reads (one d) v ≡ ok x w → next w ≡ ok a_comma z → reads (pairs behind_comma d) z ≡ ok ps r
    → P (more₂ y x ps))
    → (ps : Pairs) (r : List ℕ) → reads (pairs b d) s ≡ ok ps r → P ps
unfolding rules pairs_rule after_key after_value strays
pairs_cases P b d s empty last further =
    named_gives (pairs b d) d (after_key d) (λ ps r. P ps) (pairs-begin b d) (close b) (λ u. tt) (λ u. tt) s (λ y u e t v f. key y u e t v f)
  where
    close : (b : Position) (h : Shape) (i : Indicator) (u : List ℕ) → Gives (λ ps r. P ps) (pairs_rule b d (closes h i)) u
    close at_start h i u = closing_gives (λ ps r. P ps) d curly h i _ u empty
    close behind_comma h i u = tt

    behind : (y : Item) (u v : List ℕ) → reads (one d) s ≡ ok y u → next u ≡ ok a_colon v → (x : Item) (w : List ℕ) → reads (one d) v ≡ ok x w → (t : Token) (z : List ℕ) → next w ≡ ok t z
        → Gives (λ ps r. P ps) (after_value d y x t) z
    behind y u v e f x w e' (begins g) z f' = tt
    behind y u v e f x w e' (closes h i) z f' = closing_gives (λ ps r. P ps) d curly h i _ z (last y x u v w e f e')
    behind y u v e f x w e' a_comma z f' = λ ps r g. further y x u v w z ps r e f e' f' g
    behind y u v e f x w e' a_colon z f' = tt

    key : (y : Item) (u : List ℕ) → reads (one d) s ≡ ok y u → (t : Token) (v : List ℕ) → next u ≡ ok t v → Gives (λ ps r. P ps) (after_key d y t) v
    key y u e (begins g) v f = tt
    key y u e (closes h i) v f = tt
    key y u e a_comma v f = tt
    key y u e a_colon v f = λ x w e' t z f'. behind y u v e f x w e' t z f'

-- A WAY: from s, with d levels left, `to go` leads to the text of the item x and goes on there by go
pub record Way (d : ℕ) (to : Rule Unit → Rule Unit) (s : List ℕ) (x : Item) : Type 0 where
  pub from : List ℕ
  pub behind : List ℕ
  pub was : reads (one d) from ≡ ok x behind
  pub on : (go : Rule Unit) (p q : ℕ) → (p' q' : ℕ) × (obey reads (to go) p q s ≡ obey reads go p' q' from)

way_here : (d : ℕ) {s a : List ℕ} {x : Item} → reads (one d) s ≡ ok x a → Way d (λ go. go) s x
way_here d {s} {a} e = record { from = s; behind = a; was = e; on = λ go p q. (p, q, refl) }

way_take : (d : ℕ) (f : Rule Unit → Token → Rule Unit) {s u : List ℕ} {t : Token} {x : Item} → next s ≡ ok t u → Way d (λ go. f go t) u x → Way d (λ go. take (f go)) s x
unfolding obey
way_take d f {s = s} e w =
    record { from = w.from; behind = w.behind; was = w.was; on = λ go p q. let m = w.on go p (place s) in (m.0, m.1, bind_ok _ e ∙ m.2) }

past_is : (d : ℕ) (c : Separator) (go : Rule Unit) (p q : ℕ) (s : List ℕ) {u v : List ℕ} {y : Item} → reads (one d) s ≡ ok y u → next u ≡ ok (token_of c) v
    → obey reads (past d c go) p q s ≡ obey reads go p (place u) v
unfolding past separated token_of obey
past_is d by_comma go p q s e f = bind_ok _ e ∙ bind_ok _ f
past_is d by_colon go p q s e f = bind_ok _ e ∙ bind_ok _ f

way_past : (d : ℕ) (c : Separator) (to : Rule Unit → Rule Unit) {s u v : List ℕ} {y x : Item} → reads (one d) s ≡ ok y u → next u ≡ ok (token_of c) v → Way d to v x
    → Way d (λ go. past d c (to go)) s x
way_past d c to {s = s} {u = u} e f w =
    record { from = w.from; behind = w.behind; was = w.was; on = λ go p q. let m = w.on go p (place u) in (m.0, m.1, past_is d c (to go) p q s e f ∙ m.2) }

-- to the item number k of a sequence, and to the value number k of a map
abbrev pub ToElement : ℕ → List ℕ → ℕ → Item → Type 0
ToElement d s k = Way d (λ go. to_element d go k) s

abbrev ToValue : ℕ → List ℕ → ℕ → Item → Type 0
ToValue d s k = Way d (λ go. to_value d go k) s

pub items_lead : (k i : ℕ) (h : Shape) (b : Position) (d : ℕ) (s : List ℕ) (c : Closed) (r : List ℕ) → reads (items h b d) s ≡ ok c r → Leads (ToElement d s k) (nth i k c.all)
unfolding nth to_element token_of within
items_lead zero i h b d s = items_cases (λ xs. Leads (ToElement d s 0) (nth i 0 xs)) h b d s tt (λ x u e. way_here d e) (λ x u v c r e f g. way_here d e)
items_lead (suc k) i h b d s =
    items_cases (λ xs. Leads (ToElement d s (suc k)) (nth i (suc k) xs)) h b d s tt (λ x u e. tt)
    (λ x u v c r e f g. leads-within (ToElement d s (suc k)) (encode x) [] (nth i k c.all)
    (leads-map (ToElement d v k) (ToElement d s (suc k)) (nth i k c.all) (λ y w. way_past d by_comma (λ go. to_element d go k) e f w) (items_lead k i h behind_comma d v c r g)))

pairs_lead : (k i : ℕ) (b : Position) (d : ℕ) (s : List ℕ) (ps : Pairs) (r : List ℕ) → reads (pairs b d) s ≡ ok ps r → Leads (ToValue d s k) (nth₂ i k ps)
unfolding nth₂ to_value token_of within
pairs_lead zero i b d s =
    pairs_cases (λ ps. Leads (ToValue d s 0) (nth₂ i 0 ps)) b d s tt (λ y x u v w e f e'. way_past d by_colon (λ go. go) e f (way_here d e'))
    (λ y x u v w z ps r e f e' f' g. way_past d by_colon (λ go. go) e f (way_here d e'))
pairs_lead (suc k) i b d s =
    pairs_cases (λ ps. Leads (ToValue d s (suc k)) (nth₂ i (suc k) ps)) b d s tt (λ y x u v w e f e'. tt)
    (λ y x u v w z ps r e f e' f' g. leads-within (ToValue d s (suc k)) (encode y ++ encode x) [] (nth₂ i k ps)
    (leads-map (ToValue d z k) (ToValue d s (suc k)) (nth₂ i k ps)
    (λ y q. way_past d by_colon (λ go. past d by_comma (to_value d go k)) e f (way_past d by_comma (λ go. to_value d go k) e' f' q)) (pairs_lead k i behind_comma d z ps r g)))

-- ONE STEP INTO AN ITEM x, read at s with d levels left and a behind it: there is a way to its child y, or x is written as one token
pub data Step (d k : ℕ) (s : List ℕ) (x : Item) (a : List ℕ) (y : Item) : Type 0 where
  enters : (e : ℕ) → d ≡ suc e → Way e (λ go. take (into e go k)) s y → Step d k s x a y
  halts : next s ≡ ok (begins (leaf x)) a → Step d k s x a y

-- what makes a container
sized-gives : (P : Item → List ℕ → Type 0) (v : Chosen) (make : Width → Item) (s : List ℕ) → ((w : Width) → P (make w) s) → Gives P (width_rule v make) s
unfolding width_rule
sized-gives P (chosen w) make s h = h w
sized-gives P misfit make s h = tt

contains-gives : (P : Item → List ℕ → Type 0) (i : Indicator) (n : ℕ) (make : Size → Item) (s : List ℕ) → ((z : Size) → P (make z) s) → Gives P (contains i n make) s
unfolding contains
contains-gives P absent n make s h = sized-gives P (choose absent n) (λ w. make (definite w)) s (λ w. h (definite w))
contains-gives P indefinitely n make s h = h indefinite
contains-gives P unknown n make s h = sized-gives P (choose unknown n) (λ w. make (definite w)) s (λ w. h (definite w))
contains-gives P (wide w) n make s h = sized-gives P (choose (wide w) n) (λ w. make (definite w)) s (λ w. h (definite w))

module _ (i k : ℕ) (s : List ℕ) where
  abbrev Stepped : ℕ → Item → List ℕ → Type 0
  Stepped d x a = Leads (Step d k s x a) (child i k x)

  tag-gives : (d e : ℕ) (w : Width) (n : ℕ) (x : Item) (t : Token) (u : List ℕ) → Gives (Stepped e) (after_tag d w n x t) u
  unfolding after_tag strays closing_rule tag_rule then child
  tag-gives d e w n x (begins g) u = tt
  tag-gives d e w n x (closes h j) u =
      tested (λ r. Gives (Stepped e) (then r (tag_rule w n)) u) (eqb (shape_number round) (shape_number h)) _ _ (λ f. tested (λ r. Gives (Stepped e) r u) (may_tag n x) _ _ (λ f. tt) (λ f. tt)) (λ f. tt)
  tag-gives d e w n x a_comma u = tt
  tag-gives d e w n x a_colon u = tt

  inside-gives : (d : ℕ) (o : Opener) (u : List ℕ) → next s ≡ ok (begins (opens o)) u → Gives (Stepped (suc d)) (inside d o) u
  unfolding inside into embeds child
  inside-gives d (bracket j) u f = λ c a e.
      contains-gives (Stepped (suc d)) j (count c.all) (λ z. array z c.all) a
      (λ z. leads-within (Step (suc d) k s (array z c.all) a) (opening_head arrays z (count c.all)) (closing_bytes z) (nth i k c.all)
      (leads-map (ToElement d u k) (Step (suc d) k s (array z c.all) a) (nth i k c.all) (λ y w. enters d refl (way_take d (λ go. into d go k) f w))
      (items_lead k i square at_start d u c a e)))
  inside-gives d (brace j) u f = λ ps a e.
      contains-gives (Stepped (suc d)) j (count₂ ps) (λ z. map z ps) a
      (λ z. leads-within (Step (suc d) k s (map z ps) a) (opening_head maps z (count₂ ps)) (closing_bytes z) (nth₂ i k ps)
      (leads-map (ToValue d u k) (Step (suc d) k s (map z ps) a) (nth₂ i k ps) (λ y w. enters d refl (way_take d (λ go. into d go k) f w))
      (pairs_lead k i at_start d u ps a e)))
  inside-gives d (tagging w n) u f = λ x v e t z g. tag-gives d (suc d) w n x t z
  inside-gives d embedding u f = λ c a e. sized-gives (Stepped (suc d)) _ _ a (λ w. tt)

  beginning-gives : (d : ℕ) (g : Beginning) (u : List ℕ) → next s ≡ ok (begins g) u → Gives (Stepped d) (beginning d g) u
  unfolding beginning literal_item child
  beginning-gives d (leaf x) u f = tested (λ r. Gives (Stepped d) r u) (leb (levels x) d) _ _ (λ e. leads_any (Step d k s x u) (child i k x) (λ y. halts f)) (λ e. tt)
  beginning-gives d (literal j (definite w) b) u f = tt
  beginning-gives d (literal j indefinite b) u f = tt
  beginning-gives d chunking u f = λ c a e. tt
  beginning-gives zero (opens o) u f = tt
  beginning-gives (suc d) (opens o) u f = inside-gives d o u f

  pub child-leads : (d : ℕ) (x : Item) (a : List ℕ) → reads (one d) s ≡ ok x a → Leads (Step d k s x a) (child i k x)
  child-leads d x a e =
      let o = one-starts d s e in
      gives-ok (Stepped d) (beginning d o.0) (place s) (place s) o.1 (beginning-gives d o.0 o.1 o.2) (sym (one-begins d o.0 s o.1 o.2) ∙ e)
