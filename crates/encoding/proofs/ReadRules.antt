-- The readers' equations in the form that the code's loops have: an element, and what the token behind it decides.
-- Assumes nothing.
use mathlib.Core.Path.{◌≡◌, refl, sym, ap, ◌∙◌}
use mathlib.Core.Bool.{Bool, true, false, true≢false}
use mathlib.Core.List.{List, []}
use Prim.Native.Nat.{ℕ, ◌-◌, ◌≤◌}
use native.Mathlib.Omega.{arith}
use lib.Dec.{leb, eqb}
use borrow.Author.Tests.{eq-eqb, ne_eqb}
use Rattle.cbor.specs.Refusals.{Result, ok, refuse, bind}
use Rattle.cbor.specs.Items.{unsigned, negative, byte_string, text_string, Item, int, string, chunked, array, map, tag, simple, none, more, none₂}
use Rattle.cbor.proofs.Results.{bind-same}
use Rattle.notation.specs.Indicators.{Indicator, absent}
use Rattle.notation.specs.Tokens.{bracket, brace, tagging, embedding, Beginning, leaf, literal, chunking, opens, Shape, square, curly, round, angle, whole, Token, begins, closes, a_comma, a_colon}
use Rattle.notation.specs.Cutting.{next, place}
use Rattle.notation.specs.Form.{at_start, behind_comma, one, items, pairs, Closed, Rule, give, take, then, stray, strays, shape_number, closing_rule, beginning, one_rule, add_item, after_item, items_rule, after_key, pairs_rule, rules, obey, reads}
use Rattle.token.specs.TokenAnswers.{item_code, open_code, kind_code, begin_code, shape_code, code_of}
use Rattle.encoding.specs.ReadAnswers.{follow_by}
use Rattle.notation_theorems.proofs.ByName.{bind_ok, bind-refuse, reads-is}
use Rattle.notation_theorems.proofs.Equations.{first-is, obey_if}

-- CODES: those of tokens that begin an item are none of the others
unfoldable pub opens_by : ℕ → Bool
opens_by c =
    elim (leb c 7) [ true ↦ true | false ↦ elim (eqb c 13) [ true ↦ true | false ↦ elim (eqb c 15) [ true ↦ true | false ↦ elim (eqb c 17) [ true ↦ true | false ↦ eqb c 19 ] ] ] ]

item-opens : (x : Item) → opens_by (item_code x) ≡ true
unfolding item_code opens_by
item-opens (int unsigned w n) = refl
item-opens (int negative w n) = refl
item-opens (string k w b) = refl
item-opens (chunked k cs) = refl
item-opens (array z xs) = refl
item-opens (map z ps) = refl
item-opens (tag w n x) = refl
item-opens (simple n) = refl

begin-opens : (g : Beginning) → opens_by (begin_code g) ≡ true
unfolding begin_code kind_code open_code opens_by
begin-opens (leaf x) = item-opens x
begin-opens (literal byte_string z b) = refl
begin-opens (literal text_string z b) = refl
begin-opens chunking = refl
begin-opens (opens (bracket i)) = refl
begin-opens (opens (brace i)) = refl
begin-opens (opens (tagging w n)) = refl
begin-opens (opens embedding) = refl

pub shape_shuts : (h : Shape) → opens_by (shape_code h) ≡ false
unfolding shape_code opens_by
shape_shuts square = refl
shape_shuts curly = refl
shape_shuts round = refl
shape_shuts angle = refl
shape_shuts whole = refl

pub begin_not : (g : Beginning) (c : ℕ) → opens_by c ≡ false → begin_code g ≡ c → ⊥
begin_not g c f e = true≢false (sym (begin-opens g) ∙ ap opens_by e ∙ f)

pub begin_close : (g : Beginning) (h : Shape) → begin_code g ≡ shape_code h → ⊥
begin_close g h e = begin_not g (shape_code h) (shape_shuts h) e

pub shape_low : (h : Shape) → 14 ≤ shape_code h
unfolding shape_code
shape_low square = omega arith
shape_low curly = omega arith
shape_low round = omega arith
shape_low angle = omega arith
shape_low whole = omega arith

item-some : (x : Item) → 1 ≤ item_code x
unfolding item_code
item-some (int unsigned w n) = omega arith
item-some (int negative w n) = omega arith
item-some (string k w b) = omega arith
item-some (chunked k cs) = omega arith
item-some (array z xs) = omega arith
item-some (map z ps) = omega arith
item-some (tag w n x) = omega arith
item-some (simple n) = omega arith

pub code-some : (tok : Token) → 1 ≤ code_of tok
unfolding code_of begin_code kind_code open_code
code-some (begins (leaf x)) = item-some x
code-some (begins (literal byte_string z b)) = omega arith
code-some (begins (literal text_string z b)) = omega arith
code-some (begins chunking) = omega arith
code-some (begins (opens (bracket i))) = omega arith
code-some (begins (opens (brace i))) = omega arith
code-some (begins (opens (tagging w n))) = omega arith
code-some (begins (opens embedding)) = omega arith
code-some (closes h i) = omega (arith, shape_low h)
code-some a_comma = omega arith
code-some a_colon = omega arith

number_by : ℕ → ℕ
number_by c = elim (eqb c 16) [ true ↦ 0 | false ↦ elim (eqb c 18) [ true ↦ 1 | false ↦ elim (eqb c 14) [ true ↦ 2 | false ↦ elim (eqb c 20) [ true ↦ 3 | false ↦ 4 ] ] ] ]

number-code : (h : Shape) → number_by (shape_code h) ≡ shape_number h
unfolding number_by shape_code shape_number
number-code square = refl
number-code curly = refl
number-code round = refl
number-code angle = refl
number-code whole = refl

code_by : ℕ → ℕ
code_by k = elim (eqb k 0) [ true ↦ 16 | false ↦ elim (eqb k 1) [ true ↦ 18 | false ↦ elim (eqb k 2) [ true ↦ 14 | false ↦ elim (eqb k 3) [ true ↦ 20 | false ↦ 21 ] ] ] ]

code-number : (h : Shape) → code_by (shape_number h) ≡ shape_code h
unfolding code_by shape_code shape_number
code-number square = refl
code-number curly = refl
code-number round = refl
code-number angle = refl
code-number whole = refl

same_shape : (h h' : Shape) → shape_code h' ≡ shape_code h → eqb (shape_number h) (shape_number h') ≡ true
same_shape h h' e = eq-eqb (shape_number h) (shape_number h') (sym (number-code h) ∙ ap number_by (sym e) ∙ number-code h')

other_shape : (h h' : Shape) → (shape_code h' ≡ shape_code h → ⊥) → eqb (shape_number h) (shape_number h') ≡ false
other_shape h h' n = ne_eqb (shape_number h) (shape_number h') (λ e. n (sym (code-number h') ∙ ap code_by (sym e) ∙ code-number h))

-- the indicator of a closing token
unfoldable pub indicator_of : Token → Indicator
indicator_of (begins g) = absent
indicator_of (closes h i) = i
indicator_of a_comma = absent
indicator_of a_colon = absent

-- BEHIND AN ELEMENT x: the last one, one more, or a token that may not stand there
unfoldable pub step : {E A : Type 0} → (List ℕ → Result A) → (E → A → A) → (E → Indicator → A) → ℕ → Shape → E → Token → ℕ → List ℕ → Result A
step rd add last d h x (begins g) p r = refuse (stray d (begins g)) p
step rd add last d h x (closes h' i) p r = elim (eqb (shape_number h) (shape_number h')) [ true ↦ ok (last x i) r | false ↦ refuse (stray d (closes h' i)) p ]
step rd add last d h x a_comma p r = bind (rd r) (λ xs r'. ok (add x xs) r')
step rd add last d h x a_colon p r = refuse (stray d a_colon) p

module _ {E A : Type 0} (rd : List ℕ → Result A) (add : E → A → A) (last : E → Indicator → A) (d : ℕ) (h : Shape) (x : E) (p : ℕ) (r : List ℕ) where
  pub step_close : (tok : Token) → code_of tok ≡ shape_code h → step rd add last d h x tok p r ≡ ok (last x (indicator_of tok)) r
  unfolding step code_of indicator_of
  step_close (begins g) e = absurd (begin_close g h e)
  step_close (closes h' i) e = rw (same_shape h h' e, step)
  step_close a_comma e = absurd (omega (arith, shape_low h))
  step_close a_colon e = absurd (omega (arith, shape_low h))

  pub step_comma : (tok : Token) → code_of tok ≡ 11 → step rd add last d h x tok p r ≡ bind (rd r) (λ xs r'. ok (add x xs) r')
  unfolding step code_of opens_by
  step_comma (begins g) e = absurd (begin_not g 11 refl e)
  step_comma (closes h' i) e = absurd (omega (arith, shape_low h'))
  step_comma a_comma e = refl
  step_comma a_colon e = absurd (omega arith)

  pub step-stray : (tok : Token) → (code_of tok ≡ shape_code h → ⊥) → (code_of tok ≡ 11 → ⊥) → step rd add last d h x tok p r ≡ refuse (stray d tok) p
  unfolding step code_of
  step-stray (begins g) n m = refl
  step-stray (closes h' i) n m = rw (other_shape h h' n, step)
  step-stray a_comma n m = absurd (m refl)
  step-stray a_colon n m = refl

-- a closing token, of the shape that is open or of another
closing_on : {A : Type 0} (d : ℕ) (h h' : Shape) (i : Indicator) (x : A) (p q : ℕ) (r : List ℕ) → shape_code h' ≡ shape_code h → obey reads (closing_rule d h h' i x) p q r ≡ ok x r
unfolding closing_rule obey
closing_on d h h' i x p q r e = obey_if (eqb (shape_number h) (shape_number h')) (give x) (strays d (closes h' i)) p q r ∙ rw (same_shape h h' e)

closing_off : {A : Type 0} (d : ℕ) (h h' : Shape) (i : Indicator) (x : A) (p q : ℕ) (r : List ℕ) → (shape_code h' ≡ shape_code h → ⊥)
    → obey reads (closing_rule d h h' i x) p q r ≡ refuse (stray d (closes h' i)) q
unfolding closing_rule obey strays
closing_off d h h' i x p q r n = obey_if (eqb (shape_number h) (shape_number h')) (give x) (strays d (closes h' i)) p q r ∙ rw (other_shape h h' n)

-- READERS THAT BEGIN WITH AN ITEM
module _ {A : Type 0} (R : Token → Rule A) (after : Item → Token → Rule A) (d : ℕ) (bs : (g : Beginning) → R (begins g) ≡ then (beginning d g) (λ x. take (after x)))
    (cs : (h : Shape) (i : Indicator) → R (closes h i) ≡ strays d (closes h i)) (co : R a_comma ≡ strays d a_comma) (cl : R a_colon ≡ strays d a_colon) (s : List ℕ) where
  after_one : bind (next s) (λ t r. obey reads (R t) (place s) (place s) r) ≡ bind (reads (one d) s) (λ x r. bind (next r) (λ t r'. obey reads (after x t) (place s) (place r) r'))
  unfolding bind obey rules one_rule strays
  after_one = go (next s) refl
    where
      G : Item → List ℕ → Result A
      G x r = bind (next r) (λ t r'. obey reads (after x t) (place s) (place r) r')

      denies : (tok : Token) (r : List ℕ) → next s ≡ ok tok r → one_rule d tok ≡ strays d tok → bind (reads (one d) s) G ≡ refuse (stray d tok) (place s)
      denies tok r e q = bind-refuse G (reads-is (one d) s ∙ bind_ok _ e ∙ ap (λ (u : Rule Item). obey reads u (place s) (place s) r) q)

      go : (u : Result Token) → next s ≡ u → bind u (λ t r. obey reads (R t) (place s) (place s) r) ≡ bind (reads (one d) s) G
      go (ok (begins g) r) e = ap (λ (u : Rule A). obey reads u (place s) (place s) r) (bs g) ∙ first-is d g after s r e
      go (ok (closes h i) r) e = ap (λ (u : Rule A). obey reads u (place s) (place s) r) (cs h i) ∙ sym (denies (closes h i) r e refl)
      go (ok a_comma r) e = ap (λ (u : Rule A). obey reads u (place s) (place s) r) co ∙ sym (denies a_comma r e refl)
      go (ok a_colon r) e = ap (λ (u : Rule A). obey reads u (place s) (place s) r) cl ∙ sym (denies a_colon r e refl)
      go (refuse k q) e = sym (bind-refuse G (reads-is (one d) s ∙ bind-refuse _ e))

pub one-is : (d : ℕ) (s : List ℕ) → reads (one d) s ≡ bind (next s) (λ t r. obey reads (one_rule d t) (place s) (place s) r)
unfolding rules
one-is d s = reads-is (one d) s

-- ITEMS
unfoldable pub last_item : Item → Indicator → Closed
last_item x i = record { all = more x none; indicator = i }

item-step : (h : Shape) (d : ℕ) (x : Item) (u : Token) (p q : ℕ) (r : List ℕ) → obey reads (after_item h d x u) p q r ≡ step (reads (items h behind_comma d)) add_item last_item d h x u q r
unfolding obey after_item step strays closing_rule last_item
item-step h d x (begins g) p q r = refl
item-step h d x (closes h' i) p q r = obey_if (eqb (shape_number h) (shape_number h')) (give (last_item x i)) (strays d (closes h' i)) p q r
item-step h d x a_comma p q r = refl
item-step h d x a_colon p q r = refl

pub items_more : (h : Shape) (d : ℕ) (s : List ℕ) → reads (items h behind_comma d) s ≡ bind (reads (one d) s) (λ x r. bind (next r) (λ u r'. step (reads (items h behind_comma d)) add_item last_item d h x u (place r) r'))
unfolding rules items_rule
items_more h d s =
    reads-is (items h behind_comma d) s ∙ after_one (items_rule h behind_comma d) (after_item h d) d (λ g. refl) (λ h' i. refl) refl refl s
    ∙ bind-same (reads (one d) s) _ _ (λ x r e. bind-same (next r) _ _ (λ u r' e'. item-step h d x u (place s) (place r) r'))

pub items-end : (h : Shape) (d : ℕ) (s r : List ℕ) (tok : Token) → next s ≡ ok tok r → code_of tok ≡ shape_code h → reads (items h at_start d) s ≡ ok (record { all = none; indicator = indicator_of tok }) r
unfolding rules items_rule code_of indicator_of
items-end h d s r (begins g) e c = absurd (begin_close g h c)
items-end h d s r (closes h' i) e c = reads-is (items h at_start d) s ∙ bind_ok _ e ∙ closing_on d h h' i _ (place s) (place s) r c
items-end h d s r a_comma e c = absurd (omega (arith, shape_low h))
items-end h d s r a_colon e c = absurd (omega (arith, shape_low h))

-- two rules that differ only at a closing token which is not there
start-same : {A : Type 0} (h : Shape) (u : Result Token) (f g : Token → List ℕ → Result A) → ((tok : Token) (r : List ℕ) → u ≡ ok tok r → code_of tok ≡ shape_code h → ⊥)
    → ((tok : Token) (r : List ℕ) → (code_of tok ≡ shape_code h → ⊥) → f tok r ≡ g tok r) → bind u f ≡ bind u g
unfolding bind
start-same h (ok tok r) f g n k = k tok r (n tok r refl)
start-same h (refuse k q) f g n j = refl

items-by : (h : Shape) (d : ℕ) (tok : Token) (p : ℕ) (r : List ℕ) → (code_of tok ≡ shape_code h → ⊥) → obey reads (items_rule h at_start d tok) p p r ≡ obey reads (items_rule h behind_comma d tok) p p r
unfolding items_rule code_of obey strays
items-by h d (begins g) p r n = refl
items-by h d (closes h' i) p r n = closing_off d h h' i _ p p r n
items-by h d a_comma p r n = refl
items-by h d a_colon p r n = refl

pub items-start : (h : Shape) (d : ℕ) (s : List ℕ) → ((tok : Token) (r : List ℕ) → next s ≡ ok tok r → code_of tok ≡ shape_code h → ⊥) → reads (items h at_start d) s ≡ reads (items h behind_comma d) s
unfolding rules
items-start h d s n = reads-is (items h at_start d) s ∙ start-same h (next s) _ _ n (λ tok r c. items-by h d tok (place s) r c) ∙ sym (reads-is (items h behind_comma d) s)

-- an item, and behind it the token of a code
pub follow-yes : (code d : ℕ) (x : Item) (tok : Token) (p : ℕ) (r : List ℕ) → code_of tok ≡ code → follow_by code d x tok p r ≡ ok x r
unfolding follow_by
follow-yes code d x tok p r e = rw (eq-eqb (code_of tok) code e, follow_by)

pub follow-no : (code d : ℕ) (x : Item) (tok : Token) (p : ℕ) (r : List ℕ) → (code_of tok ≡ code → ⊥) → follow_by code d x tok p r ≡ refuse (stray d tok) p
unfolding follow_by
follow-no code d x tok p r n = rw (ne_eqb (code_of tok) code n, follow_by)

-- PAIRS: a key, and what the token behind it decides
pub pairs-more : (d : ℕ) (s : List ℕ) → reads (pairs behind_comma d) s ≡ bind (reads (one d) s) (λ k r. bind (next r) (λ u r'. obey reads (after_key d k u) (place s) (place r) r'))
unfolding rules pairs_rule
pairs-more d s = reads-is (pairs behind_comma d) s ∙ after_one (pairs_rule behind_comma d) (after_key d) d (λ g. refl) (λ h' i. refl) refl refl s

pub pairs_end : (d : ℕ) (s r : List ℕ) (tok : Token) → next s ≡ ok tok r → code_of tok ≡ shape_code curly → reads (pairs at_start d) s ≡ ok none₂ r
unfolding rules pairs_rule code_of
pairs_end d s r (begins g) e c = absurd (begin_close g curly c)
pairs_end d s r (closes h' i) e c = reads-is (pairs at_start d) s ∙ bind_ok _ e ∙ closing_on d curly h' i _ (place s) (place s) r c
pairs_end d s r a_comma e c = absurd (omega (arith, shape_low curly))
pairs_end d s r a_colon e c = absurd (omega (arith, shape_low curly))

pairs-by : (d : ℕ) (tok : Token) (p : ℕ) (r : List ℕ) → (code_of tok ≡ shape_code curly → ⊥) → obey reads (pairs_rule at_start d tok) p p r ≡ obey reads (pairs_rule behind_comma d tok) p p r
unfolding pairs_rule code_of obey strays
pairs-by d (begins g) p r n = refl
pairs-by d (closes h' i) p r n = closing_off d curly h' i _ p p r n
pairs-by d a_comma p r n = refl
pairs-by d a_colon p r n = refl

pub pairs_start : (d : ℕ) (s : List ℕ) → ((tok : Token) (r : List ℕ) → next s ≡ ok tok r → code_of tok ≡ shape_code curly → ⊥) → reads (pairs at_start d) s ≡ reads (pairs behind_comma d) s
unfolding rules
pairs_start d s n = reads-is (pairs at_start d) s ∙ start-same curly (next s) _ _ n (λ tok r c. pairs-by d tok (place s) r c) ∙ sym (reads-is (pairs behind_comma d) s)
