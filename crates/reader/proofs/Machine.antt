-- The machine that reads several items, in the code's words, is the definitions' readers of items, of pairs and of an item with what follows.
-- Assumes nothing.
use mathlib.Core.Path.{◌≡◌, refl, sym, ap, ◌∙◌}
use mathlib.Core.Bool.{Bool, true, false, true≢false}
use mathlib.Core.List.{List, [], ◌++◌, append-nil, append_assoc}
use Prim.Native.Nat.{ℕ, suc, ◌+◌, ◌-◌}
use native.Mathlib.Omega.{arith}
use lib.Dec.{eqb}
use borrow.Author.Tests.{eq-eqb, ne_eqb, eqb-true, eqb-false}
use Rattle.cbor.specs.Refusals.{Result, ok, refuse, bind}
use Rattle.cbor.specs.Items.{Item, Pairs, none₂, more₂, count, count₂}
use Rattle.cbor.specs.Encode.{encode, encode_all, encode_all₂}
use Rattle.cbor.proofs.Results.{bind-same, bind_assoc}
use Rattle.notation.specs.Indicators.{Indicator}
use Rattle.notation.specs.Tokens.{Shape, square, curly, round, angle, whole, Token, begins, closes, a_comma, a_colon}
use Rattle.notation.specs.Cutting.{next, place}
use Rattle.notation.specs.Form.{behind_comma, one, items, pairs, Closed, stray, strays, shape_number, closing_rule, add_item, after_key, after_value, obey, reads}
use Rattle.token.specs.TokenAnswers.{indicator_number, shape_code, code_of, mark_of}
use Rattle.encoding.specs.ReadAnswers.{View, unsaid, of_item, of_closed, of_pairs, follow_by, followed}
use Rattle.encoding.proofs.ReadRules.{opens_by, begin_not, begin_close, shape_low, code-some, indicator_of, step, step_close, step_comma, step-stray, items_more, items-end, items-start, last_item, follow-yes, follow-no, pairs-more, pairs_end, pairs_start}
use Rattle.closing.proofs.Closers.{closing_is}
use Rattle.closers.specs.CloserTables.{shape_of, is_single, may_be_empty, starts, turned, counted, comma_code, colon_code, separator_code, closer_code, shown_by}
use Rattle.reader.specs.Several.{seen, several_read, added, held_by, last_of, step_to, value_read, tail_read, onward}
use Rattle.closers.specs.declared.Closer.{Closer}
use Rattle.closers.specs.declared.Closer.TheVariants.{Square, Curly, Round, Angle, Whole, Nothing}

seen-bind : {A B : Type 0} (v : B → View) (u : Result A) (f : A → List ℕ → Result B) → seen v (bind u f) ≡ bind u (λ x r. seen v (f x r))
unfolding seen
seen-bind v u f = bind_assoc u f _

comma_shuts : opens_by 11 ≡ false
unfolding opens_by
comma_shuts = refl

-- STEPS by the code of a token
module _ (rd : List ℕ → Result View) (sep shut n : ℕ) (last : Item → ℕ → View) (d : ℕ) (x : Item) (u : Token) (p : ℕ) (r : List ℕ) where
  pub to_next : code_of u ≡ sep → step_to rd sep shut n last d x u p r ≡ bind (rd r) (λ v r'. ok (added n x v) r')
  unfolding step_to
  to_next e = rw (eq-eqb (code_of u) sep e, step_to)

  pub to_last : (code_of u ≡ sep → ⊥) → code_of u ≡ shut → step_to rd sep shut n last d x u p r ≡ ok (last x (mark_of u)) r
  unfolding step_to
  to_last k e = rw (ne_eqb (code_of u) sep k, eq-eqb (code_of u) shut e, step_to)

  pub to_stray : (code_of u ≡ sep → ⊥) → (code_of u ≡ shut → ⊥) → step_to rd sep shut n last d x u p r ≡ refuse (stray d u) p
  unfolding step_to
  to_stray k l = rw (ne_eqb (code_of u) sep k, ne_eqb (code_of u) shut l, step_to)

-- by cases of a code
cases : {A : Type 0} (c a b : ℕ) → (c ≡ a → A) → ((c ≡ a → ⊥) → c ≡ b → A) → ((c ≡ a → ⊥) → (c ≡ b → ⊥) → A) → A
cases {A} c a b f g h = go (eqb c a) refl
  where
    go : (v : Bool) → eqb c a ≡ v → A
    go true e = f (eqb-true c a e)
    go false e = go₂ (eqb c b) refl
      where
        go₂ : (v : Bool) → eqb c b ≡ v → A
        go₂ true k = g (eqb-false c a e) (eqb-true c b k)
        go₂ false k = h (eqb-false c a e) (eqb-false c b k)

no_code : (u : Token) → code_of u ≡ 0 → ⊥
no_code u e = omega (arith, code-some u)

-- ITEMS
close_mark : (h : Shape) (u : Token) → code_of u ≡ shape_code h → mark_of u ≡ indicator_number (indicator_of u)
unfolding code_of mark_of indicator_of
close_mark h (begins g) e = absurd (begin_close g h e)
close_mark h (closes h' i) e = refl
close_mark h a_comma e = absurd (omega (arith, shape_low h))
close_mark h a_colon e = absurd (omega (arith, shape_low h))

abbrev last_in : Item → ℕ → View
last_in x i = record { bytes = encode x; count = 1; indicator = i; held = unsaid }

items-last : (x : Item) (u : Token) (h : Shape) → code_of u ≡ shape_code h → of_closed (last_item x (indicator_of u)) ≡ last_in x (mark_of u)
unfolding of_closed last_item encode_all count
items-last x u h e = λ j. record { bytes = append-nil (encode x) j; count = 1; indicator = sym (close_mark h u e) j; held = unsaid }

items-added : (x : Item) (c : Closed) → of_closed (add_item x c) ≡ added 1 x (of_closed c)
unfolding of_closed add_item added encode_all count
items-added x c = let e : suc (count c.all) ≡ 1 + count c.all = omega arith in λ j. record { bytes = encode x ++ encode_all c.all; count = e j; indicator = indicator_number c.indicator; held = unsaid }

abbrev Rest : Shape → ℕ → List ℕ → Result View
Rest h d w = seen of_closed (reads (items h behind_comma d) w)

items-step : (h : Shape) (d : ℕ) (x : Item) (u : Token) (p : ℕ) (r : List ℕ) → seen of_closed (step (reads (items h behind_comma d)) add_item last_item d h x u p r) ≡ step_to (Rest h d) 11 (shape_code h) 1 last_in d x u p r
unfolding seen bind
items-step h d x u p r =
    cases (code_of u) 11 (shape_code h)
    (λ e. ap (seen of_closed) (step_comma (reads (items h behind_comma d)) add_item last_item d h x p r u e) ∙ bind_assoc (reads (items h behind_comma d) r) _ _
    ∙ bind-same (reads (items h behind_comma d) r) _ _ (λ c r' q. ap (λ (v : View). ok v r') (items-added x c)) ∙ sym (bind_assoc (reads (items h behind_comma d) r) _ _)
    ∙ sym (to_next (Rest h d) 11 (shape_code h) 1 last_in d x u p r e))
    (λ k e. ap (seen of_closed) (step_close (reads (items h behind_comma d)) add_item last_item d h x p r u e) ∙ ap (λ (v : View). ok v r) (items-last x u h e) ∙ sym (to_last (Rest h d) 11 (shape_code h) 1 last_in d x u p r k e))
    (λ k l. ap (seen of_closed) (step-stray (reads (items h behind_comma d)) add_item last_item d h x p r u l k) ∙ sym (to_stray (Rest h d) 11 (shape_code h) 1 last_in d x u p r k l))

items_tail : (h : Shape) (d : ℕ) (s : List ℕ) → Rest h d s ≡ bind (reads (one d) s) (λ x r. bind (next r) (λ u r'. step_to (Rest h d) 11 (shape_code h) 1 last_in d x u (place r) r'))
items_tail h d s =
    ap (seen of_closed) (items_more h d s) ∙ seen-bind of_closed (reads (one d) s) _
    ∙ bind-same (reads (one d) s) _ _ (λ x r e. seen-bind of_closed (next r) _ ∙ bind-same (next r) _ _ (λ u r' e'. items-step h d x u (place r) r'))

-- PAIRS
abbrev Pairs-rest : ℕ → List ℕ → Result View
Pairs-rest d w = seen of_pairs (reads (pairs behind_comma d) w)

abbrev last_value : Item → ℕ → View
last_value x i = record { bytes = encode x; count = 1; indicator = 0; held = unsaid }

pair-last : (k x : Item) (i : ℕ) → of_pairs (more₂ k x none₂) ≡ added 0 k (last_value x i)
unfolding of_pairs added encode_all₂ count₂
pair-last k x i = λ j. record { bytes = (append_assoc (encode k) (encode x) [] ∙ ap (λ (l : List ℕ). encode k ++ l) (append-nil (encode x))) j; count = 1; indicator = 0; held = unsaid }

pair-added : (k x : Item) (ps : Pairs) → of_pairs (more₂ k x ps) ≡ added 0 k (added 1 x (of_pairs ps))
unfolding of_pairs added encode_all₂ count₂
pair-added k x ps =
    let e : suc (count₂ ps) ≡ 0 + (1 + count₂ ps) = omega arith in
    λ j. record { bytes = append_assoc (encode k) (encode x) (encode_all₂ ps) j; count = e j; indicator = 0; held = unsaid }

value_close : (d : ℕ) (k x : Item) (h : Shape) (i : Indicator) (p q : ℕ) (r : List ℕ)
    → seen of_pairs (obey reads (closing_rule d curly h i (more₂ k x none₂)) p q r) ≡ bind (step_to (Pairs-rest d) 11 (shape_code curly) 1 last_value d x (closes h i) q r) (λ v r'. ok (added 0 k v) r')
unfolding seen bind obey closing_rule strays code_of shape_number step_to shape_code
value_close d k x square i p q r = refl
value_close d k x curly i p q r = ap (λ (v : View). ok v r) (pair-last k x 0)
value_close d k x round i p q r = refl
value_close d k x angle i p q r = refl
value_close d k x whole i p q r = refl

value-step : (d : ℕ) (k x : Item) (u : Token) (p q : ℕ) (r : List ℕ) → seen of_pairs (obey reads (after_value d k x u) p q r) ≡ bind (step_to (Pairs-rest d) 11 (shape_code curly) 1 last_value d x u q r) (λ v r'. ok (added 0 k v) r')
unfolding seen bind obey after_value strays code_of step_to shape_code
value-step d k x (begins g) p q r = sym (ap (λ (R : Result View). bind R (λ v r'. ok (added 0 k v) r')) (to_stray (Pairs-rest d) 11 (shape_code curly) 1 last_value d x (begins g) q r (λ e. begin_not g 11 comma_shuts e) (λ e. begin_close g curly e)))
value-step d k x a_colon p q r = refl
value-step d k x a_comma p q r =
    bind_assoc (reads (pairs behind_comma d) r) _ _ ∙ bind-same (reads (pairs behind_comma d) r) _ _ (λ ps r' e. ap (λ (v : View). ok v r') (pair-added k x ps))
    ∙ sym (bind_assoc (bind (reads (pairs behind_comma d) r) (λ ps r'. ok (of_pairs ps) r')) _ _ ∙ bind_assoc (reads (pairs behind_comma d) r) _ _)
value-step d k x (closes h i) p q r = value_close d k x h i p q r

abbrev Values : ℕ → List ℕ → Result View
Values d w = bind (reads (one d) w) (λ x r. bind (next r) (λ u r'. step_to (Pairs-rest d) 11 (shape_code curly) 1 last_value d x u (place r) r'))

colon_shuts : opens_by 12 ≡ false
unfolding opens_by
colon_shuts = refl

key_step : (d : ℕ) (k : Item) (u : Token) (p q : ℕ) (r : List ℕ) → seen of_pairs (obey reads (after_key d k u) p q r) ≡ step_to (Values d) 12 0 0 last_value d k u q r
unfolding seen bind obey after_key strays code_of
key_step d k (begins g) p q r = sym (to_stray (Values d) 12 0 0 last_value d k (begins g) q r (λ e. begin_not g 12 colon_shuts e) (λ e. no_code (begins g) e))
key_step d k (closes h i) p q r = sym (to_stray (Values d) 12 0 0 last_value d k (closes h i) q r (λ e. omega (arith, shape_low h)) (λ e. omega (arith, shape_low h)))
key_step d k a_comma p q r = sym (to_stray (Values d) 12 0 0 last_value d k a_comma q r (λ e. absurd (omega arith)) (λ e. absurd (omega arith)))
key_step d k a_colon p q r =
    bind_assoc (reads (one d) r) _ _
    ∙ bind-same (reads (one d) r) _ _ (λ x r' e. bind_assoc (next r') _ _ ∙ bind-same (next r') _ _ (λ u r'' e'. value-step d k x u p (place r') r'') ∙ sym (bind_assoc (next r') _ _))
    ∙ sym (bind_assoc (reads (one d) r) _ _) ∙ sym (to_next (Values d) 12 0 0 last_value d k a_colon q r refl)

pairs_tail : (d : ℕ) (s : List ℕ) → Pairs-rest d s ≡ bind (reads (one d) s) (λ k r. bind (next r) (λ u r'. step_to (Values d) 12 0 0 last_value d k u (place r) r'))
pairs_tail d s =
    ap (seen of_pairs) (pairs-more d s) ∙ seen-bind of_pairs (reads (one d) s) _
    ∙ bind-same (reads (one d) s) _ _ (λ k r e. seen-bind of_pairs (next r) _ ∙ bind-same (next r) _ _ (λ u r' e'. key_step d k u (place s) (place r) r'))

-- AN ITEM WITH WHAT CLOSES IT
round_step : (d : ℕ) (x : Item) (u : Token) (p : ℕ) (r : List ℕ) (rd : List ℕ → Result View) → seen of_item (follow_by 14 d x u p r) ≡ step_to rd 0 14 1 (λ x i. of_item x) d x u p r
unfolding seen bind
round_step d x u p r rd =
    cases (code_of u) 0 14 (λ e. absurd (no_code u e))
    (λ k e. ap (seen of_item) (follow-yes 14 d x u p r e) ∙ sym (to_last rd 0 14 1 (λ x i. of_item x) d x u p r k e))
    (λ k l. ap (seen of_item) (follow-no 14 d x u p r l) ∙ sym (to_stray rd 0 14 1 (λ x i. of_item x) d x u p r k l))

round_tail : (d : ℕ) (s : List ℕ) (rd : List ℕ → Result View) → seen of_item (followed 14 d s) ≡ bind (reads (one d) s) (λ x r. bind (next r) (λ u r'. step_to rd 0 14 1 (λ x i. of_item x) d x u (place r) r'))
unfolding followed
round_tail d s rd =
    seen-bind of_item (reads (one d) s) _ ∙ bind-same (reads (one d) s) _ _ (λ x r e. seen-bind of_item (next r) _ ∙ bind-same (next r) _ _ (λ u r' e'. round_step d x u (place r) r' rd))

-- two steps that go on alike
step_same : (rd rd' : List ℕ → Result View) → ((w : List ℕ) → rd w ≡ rd' w) → (sep shut n : ℕ) (last last' : Item → ℕ → View) → ((x : Item) (i : ℕ) → last x i ≡ last' x i) → (d : ℕ) (x : Item) (u : Token) (p : ℕ) (r : List ℕ)
    → step_to rd sep shut n last d x u p r ≡ step_to rd' sep shut n last' d x u p r
step_same rd rd' f sep shut n last last' g d x u p r =
    cases (code_of u) sep shut
    (λ e. to_next rd sep shut n last d x u p r e ∙ ap (λ (R : Result View). bind R (λ v r'. ok (added n x v) r')) (f r) ∙ sym (to_next rd' sep shut n last' d x u p r e))
    (λ k e. to_last rd sep shut n last d x u p r k e ∙ ap (λ (v : View). ok v r) (g x (mark_of u)) ∙ sym (to_last rd' sep shut n last' d x u p r k e))
    (λ k l. to_stray rd sep shut n last d x u p r k l ∙ sym (to_stray rd' sep shut n last' d x u p r k l))

tail_same : (rd rd' : List ℕ → Result View) → ((w : List ℕ) → rd w ≡ rd' w) → (sep shut n : ℕ) (last last' : Item → ℕ → View) → ((x : Item) (i : ℕ) → last x i ≡ last' x i) → (d : ℕ) (s : List ℕ)
    → bind (reads (one d) s) (λ x r. bind (next r) (λ u r'. step_to rd sep shut n last d x u (place r) r')) ≡ bind (reads (one d) s) (λ x r. bind (next r) (λ u r'. step_to rd' sep shut n last' d x u (place r) r'))
tail_same rd rd' f sep shut n last last' g d s = bind-same (reads (one d) s) _ _ (λ x r e. bind-same (next r) _ _ (λ u r' e'. step_same rd rd' f sep shut n last last' g d x u (place r) r'))

-- THE MACHINE
pub tail_is : (h : Closer) (k : Bool) (d : ℕ) (s : List ℕ) → (k ≡ true → h ≡ Curly) → tail_read h k d s ≡ bind (reads (one d) s) (λ x r. onward h k d x r)
unfolding tail_read onward is_single separator_code comma_code colon_code closer_code shape_of shape_code turned counted last_of shown_by held_by value_read of_item seen
tail_is Square false d s f = items_tail square d s ∙ tail_same _ _ (λ w. refl) 11 16 1 _ _ (λ x i. refl) d s
tail_is Angle false d s f = items_tail angle d s ∙ tail_same _ _ (λ w. refl) 11 20 1 _ _ (λ x i. refl) d s
tail_is Whole false d s f = items_tail whole d s ∙ tail_same _ _ (λ w. refl) 11 21 1 _ _ (λ x i. refl) d s
tail_is Curly true d s f = pairs_tail d s ∙ tail_same _ _ (λ w. refl) 12 0 0 _ _ (λ x i. refl) d s
tail_is Curly false d s f = tail_same _ _ (λ w. refl) 11 18 1 _ _ (λ x i. refl) d s
tail_is Round false d s f = round_tail d s (tail_read Round false d)
tail_is Nothing false d s f = refl
tail_is Square true d s f = let e = f refl in let z : ◌≡◌ {A = ℕ} 0 1 = cc in absurd (omega arith)
tail_is Angle true d s f = let e = f refl in let z : ◌≡◌ {A = ℕ} 0 1 = cc in absurd (omega arith)
tail_is Whole true d s f = let e = f refl in let z : ◌≡◌ {A = ℕ} 0 1 = cc in absurd (omega arith)
tail_is Round true d s f = let e = f refl in let z : ◌≡◌ {A = ℕ} 0 1 = cc in absurd (omega arith)
tail_is Nothing true d s f = let e = f refl in let z : ◌≡◌ {A = ℕ} 0 1 = cc in absurd (omega arith)

-- where a list begins, and not with what closes it
not_closing : (h : Shape) (s : List ℕ) → ((i : Indicator) (u : List ℕ) → next s ≡ ok (closes h i) u → ⊥) → (tok : Token) (r : List ℕ) → next s ≡ ok tok r → code_of tok ≡ shape_code h → ⊥
not_closing h s n tok r e q = let c = closing_is h tok q in n c.0 r (e ∙ ap (λ (t : Token). ok t r) c.1)

pub start_is : (h : Closer) (d : ℕ) (s : List ℕ) → (may_be_empty h ≡ true → (i : Indicator) (u : List ℕ) → next s ≡ ok (closes (shape_of h) i) u → ⊥) → several_read h d s ≡ tail_read h (starts h) d s
unfolding several_read tail_read starts may_be_empty shape_of
start_is Square d s n = ap (seen of_closed) (items-start square d s (not_closing square s (n refl)))
start_is Curly d s n = ap (seen of_pairs) (pairs_start d s (not_closing curly s (n refl)))
start_is Round d s n = refl
start_is Angle d s n = ap (seen of_closed) (items-start angle d s (not_closing angle s (n refl)))
start_is Whole d s n = ap (seen of_closed) (items-start whole d s (not_closing whole s (n refl)))
start_is Nothing d s n = refl

-- and where it does
abbrev pub empty_view : ℕ → View
empty_view i = record { bytes = []; count = 0; indicator = i; held = unsaid }

pub empty-is : (h : Closer) (d : ℕ) (s r : List ℕ) (i : Indicator) → may_be_empty h ≡ true → next s ≡ ok (closes (shape_of h) i) r → several_read h d s ≡ ok (empty_view (shown_by h (indicator_number i))) r
unfolding several_read may_be_empty shape_of shown_by seen bind of_closed of_pairs encode_all encode_all₂ count count₂ code_of indicator_of
empty-is Square d s r i m e = ap (seen of_closed) (items-end square d s r (closes square i) e refl)
empty-is Curly d s r i m e = ap (seen of_pairs) (pairs_end d s r (closes curly i) e refl)
empty-is Round d s r i m e = absurd (true≢false (sym m))
empty-is Angle d s r i m e = ap (seen of_closed) (items-end angle d s r (closes angle i) e refl)
empty-is Whole d s r i m e = ap (seen of_closed) (items-end whole d s r (closes whole i) e refl)
empty-is Nothing d s r i m e = absurd (true≢false (sym m))
