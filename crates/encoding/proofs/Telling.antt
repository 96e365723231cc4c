-- What an answer of the code says of the definitions', and a token of a code.
-- Assumes nothing.
use mathlib.Core.Path.{◌≡◌, refl, sym, ap, ap₂, ◌∙◌}
use mathlib.Core.Bool.{Bool, true, false}
use mathlib.Core.List.{List, []}
use Prim.Native.Nat.{ℕ, zero, suc, ◌+◌, ◌-◌, ◌≤◌, ◌<◌}
use native.Mathlib.Omega.{arith}
use lib.Dec.{leb, eqb}
use lib.ListN.{length, drop}
use borrow.Author.Tests.{le-leb, ne_eqb}
use Rattle.cbor.specs.Refusals.{Result, ok, refuse, bind, Verdict, accepted, refused, not_allowed}
use Rattle.cbor.specs.Widths.{w0, w1, w2, w4, w8}
use Rattle.cbor.specs.Items.{unsigned, negative, byte_string, text_string, Item, int, string, chunked, array, map, tag, simple, levels}
use Rattle.refusal.specs.RefusalKinds.{kind_number}
use Rattle.refusal.specs.declared.Refusal.{Refusal}
use Rattle.notation.specs.Indicators.{Indicator, absent, indefinitely, unknown, wide}
use Rattle.notation.specs.Tokens.{Opener, bracket, brace, tagging, embedding, leaf, literal, chunking, opens, Shape, square, curly, round, angle, whole, Token, begins, closes, a_comma, a_colon}
use Rattle.notation.specs.Cutting.{next, place}
use Rattle.notation.specs.Form.{stray, stray_closing, stray_indicator}
use Rattle.notation.specs.Reading.{marked}
use Rattle.token.specs.TokenAnswers.{width_number, indicator_number, item_code, open_code, kind_code, begin_code, shape_code, code_of, open_mark, item_mark, begin_mark, mark_of, Seen, Shown, Took}
use Rattle.encoding.specs.ReadAnswers.{View, stray_by, verdict_by, MovedOn, Denied, After, ReadTold, Strayed, Denies}
use Rattle.token.specs.declared.Token.{Token as Cut}
use Rattle.encoding.specs.declared.answer.MadeItem.{MadeItem}
use Rattle.scanning.proofs.Marked.{stands-left, stands_at}
use Rattle.encoding.proofs.ReadTokens.{Known, Fine, LeafFine, Cuts, next-fine}
use Rattle.std.specs.Prelude.{Ok, Err}
use Rattle.std.specs.Prelude as std

-- PLACES
pub place_at : {s : List ℕ} {at : ℕ} {t : Cut} → Took s at t → t.place ≡ length (marked s) - place (drop at (marked s))
unfolding place
place_at tk = stands_at tk.place

pub place-left : {s : List ℕ} {at : ℕ} {t : Cut} → Took s at t → place (drop at (marked s)) ≡ length (marked s) - t.place
unfolding place
place-left tk = stands-left tk.place

-- RESULTS
pub bind-no : {A B : Type 0} (u : Result A) (f : A → List ℕ → Result B) (k l : ℕ) → u ≡ refuse k l → bind u f ≡ refuse k l
unfolding bind
bind-no u f k l e = rw e

pub bind-yes : {A B : Type 0} (u : Result A) (f : A → List ℕ → Result B) (x : A) (r : List ℕ) → u ≡ ok x r → bind u f ≡ f x r
unfolding bind
bind-yes u f x r e = rw e

-- ANSWERS of the two kinds
module _ {A : Type 0} {v : A → View} {s b b' : List ℕ} {most pos : ℕ} {a : std.Result MadeItem Refusal} where
  pub told-no : (k q : ℕ) (res : Result A) → res ≡ refuse k q → Denied s a k q → ReadTold v s b b' most pos a res
  unfolding After
  told-no k q res e f = rw e (record { after = f })

  pub told-ok : {m : MadeItem} {r : List ℕ} (x : A) (res : Result A) → res ≡ ok x r → a ≡ Ok m → MovedOn s b b' most pos m (v x) r → ReadTold v s b b' most pos a res
  unfolding After verdict_by
  told-ok {m} {r} x res e f mv = rw e (record { after = record { made = m; is = ap verdict_by f; moved = mv } })

pub denied : {s : List ℕ} {a : std.Result MadeItem Refusal} {k p q : ℕ} → Denies k p a → p ≡ length (marked s) - q → Denied s a k q
denied {k = k} d e = record { is = d.is ∙ ap (refused k) e }

-- an answer that is a thing, of a reader whose result is res
pub record Got {A : Type 0} (v : A → View) (s b b' : List ℕ) (most pos : ℕ) (m : MadeItem) (res : Result A) : Type 0 where
  pub thing : A
  pub rest : List ℕ
  pub is : res ≡ ok thing rest
  pub moved : MovedOn s b b' most pos m (v thing) rest

-- what is said of a thing that was made, and of a refusal
said-made : (a : std.Result MadeItem Refusal) (m : MadeItem) → a ≡ Ok m → verdict_by a ≡ accepted m
unfolding verdict_by
said-made a m e = rw e

pub said-refused : (a : std.Result MadeItem Refusal) (e : Refusal) → a ≡ Err e → verdict_by a ≡ refused (kind_number e.kind) e.place
unfolding verdict_by
said-refused a e f = rw f

-- which are not the same
never_both : {m : MadeItem} {k p : ℕ} (u : Verdict MadeItem) → u ≡ accepted m → u ≡ refused k p → ⊥
never_both u e f = let z : ◌≡◌ {A = ℕ} 0 1 = cc in omega arith

pub made_never : {m : MadeItem} {k p : ℕ} {P : Type 0} (a : std.Result MadeItem Refusal) → verdict_by a ≡ refused k p → a ≡ Ok m → P
made_never {m} a f e = absurd (never_both (verdict_by a) (said-made a m e) f)

made-same : (a : std.Result MadeItem Refusal) (m m' : MadeItem) → a ≡ Ok m → verdict_by a ≡ accepted m' → m ≡ m'
made-same a m m' e f = let g = said-made a m e in cc

got_of : {A : Type 0} (v : A → View) (s b b' : List ℕ) (most pos : ℕ) (a : std.Result MadeItem Refusal) (m : MadeItem) (res : Result A) → a ≡ Ok m → After v s b b' most pos a res → Got v s b b' most pos m res
unfolding After
got_of v s b b' most pos a m (ok x r) e f = record { thing = x; rest = r; is = refl; moved = rw (made-same a m f.made e f.is) f.moved }
got_of v s b b' most pos a m (refuse k q) e f = made_never a f.is e

pub got : {A : Type 0} {v : A → View} {s b b' : List ℕ} {most pos : ℕ} {m : MadeItem} {res : Result A} (a : std.Result MadeItem Refusal) → ReadTold v s b b' most pos a res → a ≡ Ok m → Got v s b b' most pos m res
got {A} {v} {s} {b} {b'} {most} {pos} {m} {res} a h e = got_of v s b b' most pos a m res e h.after

pub made_inside : {A : Type 0} {v : A → View} {s b b' : List ℕ} {most pos : ℕ} {m : MadeItem} {res : Result A} (a : std.Result MadeItem Refusal) → ReadTold v s b b' most pos a res → a ≡ Ok m → m.next ≤ length (marked s)
made_inside a h e = (got a h e).moved.stands.inside

-- an answer that is a refusal
pub record Lost {A : Type 0} (s : List ℕ) (e : Refusal) (res : Result A) : Type 0 where
  pub number : ℕ
  pub left : ℕ
  pub is : res ≡ refuse number left
  pub kind : kind_number e.kind ≡ number
  pub place : e.place ≡ length (marked s) - left

lost_of : {A : Type 0} (v : A → View) (s b b' : List ℕ) (most pos : ℕ) (a : std.Result MadeItem Refusal) (e : Refusal) (res : Result A) → a ≡ Err e → After v s b b' most pos a res → Lost s e res
unfolding After
lost_of v s b b' most pos a e (ok x r) h f = absurd (never_both (verdict_by a) f.is (said-refused a e h))
lost_of v s b b' most pos a e (refuse k l) h f =
    let i = f.is in
    let g = said-refused a e h in
    record { number = k; left = l; is = refl; kind = cc; place = cc }

pub lost : {A : Type 0} {v : A → View} {s b b' : List ℕ} {most pos : ℕ} {e : Refusal} {res : Result A} (a : std.Result MadeItem Refusal) → ReadTold v s b b' most pos a res → a ≡ Err e → Lost s e res
lost {A} {v} {s} {b} {b'} {most} {pos} {e} {res} a h f = lost_of v s b b' most pos a e res f h.after

-- a reader that begins with a part that is refused
pub told-lost : {A B : Type 0} {v : B → View} {s b b' : List ℕ} {most pos : ℕ} {e : Refusal} {res : Result A} (res' : Result B) (f : A → List ℕ → Result B) → Lost s e res → res' ≡ bind res f
    → ReadTold v s b b' most pos (Err e) res'
told-lost {e = e} {res = res} res' f l q =
    told-no l.number l.left res' (q ∙ bind-no res f _ _ l.is) (record { is = said-refused (Err e) e refl ∙ ap₂ refused l.kind l.place })

-- more text than there was
after_more : {A : Type 0} (v : A → View) (s b b' : List ℕ) (m m' pos : ℕ) (a : std.Result MadeItem Refusal) (res : Result A) → m ≤ m' → After v s b b' m pos a res → After v s b b' m' pos a res
unfolding After
after_more v s b b' m m' pos a (ok x r) le f =
    record {
      made = f.made;
      is = f.is;
      moved = record { stands = f.moved.stands; sized = f.moved.sized; counted = f.moved.counted; indicated = f.moved.indicated; tells = f.moved.tells; many = f.moved.many; short = omega (arith, f.moved.short); wrote = f.moved.wrote };
    }
after_more v s b b' m m' pos a (refuse k left) le f = f

pub told_more : {A : Type 0} {v : A → View} {s b b' : List ℕ} {m m' pos : ℕ} {a : std.Result MadeItem Refusal} {res : Result A} → m ≤ m' → ReadTold v s b b' m pos a res → ReadTold v s b b' m' pos a res
told_more le h = record { after = after_more _ _ _ _ _ _ _ _ _ le h.after }

-- a thing that something else is made of, with the same view
after_map : {A B : Type 0} (v : A → View) (v' : B → View) (f : A → B) → ((x : A) → v x ≡ v' (f x)) → (s b b' : List ℕ) (most pos : ℕ) (a : std.Result MadeItem Refusal) (res : Result A)
    → After v s b b' most pos a res → After v' s b b' most pos a (bind res (λ x r. ok (f x) r))
unfolding After bind
after_map v v' f h s b b' most pos a (ok x r) g = record { made = g.made; is = g.is; moved = rw (h x) at g.moved }
after_map v v' f h s b b' most pos a (refuse k q) g = g

pub told-map : {A B : Type 0} {v : A → View} {v' : B → View} {s b b' : List ℕ} {most pos : ℕ} {a : std.Result MadeItem Refusal} {res : Result A} (f : A → B) → ((x : A) → v x ≡ v' (f x)) → ReadTold v s b b' most pos a res
    → ReadTold v' s b b' most pos a (bind res (λ x r. ok (f x) r))
told-map {v = v} {v' = v'} f h g = record { after = after_map v v' f h _ _ _ _ _ _ _ g.after }

-- TOKENS
pub record Token-at (s : List ℕ) (at : ℕ) (t : Cut) : Type 0 where
  pub tok : Token
  pub rest : List ℕ
  pub is : next (drop at (marked s)) ≡ ok tok rest
  pub seen : Seen s t tok rest
  pub fine : Fine (place (drop at (marked s)) - 1) tok (length rest)
  pub ahead : t.place < t.next

pub token : {s : List ℕ} {at : ℕ} {t : Cut} → Took s at t → (t.kind ≡ 0 → ⊥) → Token-at s at t
unfolding Shown
token {s} {at} {t} tk n = go (next (drop at (marked s))) refl tk.shown (next-fine (drop at (marked s)))
  where
    go : (u : Result Token) → next (drop at (marked s)) ≡ u → Shown s t u → Cuts (place (drop at (marked s))) u → Token-at s at t
    go (ok tok r) e h f = record { tok = tok; rest = r; is = e; seen = h; fine = f.0; ahead = tk.ahead n }
    go (refuse k q) e h f = absurd (n h.code)

pub seen_as : {s : List ℕ} {at : ℕ} {t : Cut} {tok : Token} {r : List ℕ} → Took s at t → next (drop at (marked s)) ≡ ok tok r → Seen s t tok r
unfolding Shown
seen_as tk e = rw e at tk.shown

-- the place behind a token
pub past : {s : List ℕ} {at : ℕ} {t : Cut} → Took s at t → t.place < t.next → at + 1 ≤ t.next
past tk h = omega (arith, tk.from)

-- A TOKEN THAT MAY NOT STAND
either_way : (v : Bool) → ◌≡◌ {A = ℕ} (elim v [ true ↦ 11 | false ↦ 11 ]) 11
either_way true = refl
either_way false = refl

leaf_flat : (d : ℕ) (x : Item) → LeafFine x → stray d (begins (leaf x)) ≡ not_allowed
unfolding stray levels
leaf_flat d (int g w n) f = let e : leb 0 d ≡ true = le-leb 0 d (omega arith) in rw (e, stray)
leaf_flat d (simple n) f = let e : leb 0 d ≡ true = le-leb 0 d (omega arith) in rw (e, stray)
leaf_flat d (string k w b) f = absurd f
leaf_flat d (chunked k cs) f = absurd f
leaf_flat d (array z xs) f = absurd f
leaf_flat d (map z ps) f = absurd f
leaf_flat d (tag w n x) f = absurd f

leaf-stray : (d n : ℕ) (x : Item) → LeafFine x → stray_by d (item_code x) n (item_mark x) ≡ not_allowed
unfolding stray_by item_code
leaf-stray d n' (int unsigned w n) f = either_way (eqb d 0)
leaf-stray d n' (int negative w n) f = either_way (eqb d 0)
leaf-stray d n' (simple n) f = either_way (eqb d 0)
leaf-stray d n' (string k w b) f = absurd f
leaf-stray d n' (chunked k cs) f = absurd f
leaf-stray d n' (array z xs) f = absurd f
leaf-stray d n' (map z ps) f = absurd f
leaf-stray d n' (tag w n x) f = absurd f

some_level : (d : ℕ) → eqb (suc d) 0 ≡ false
some_level d = ne_eqb (suc d) 0 (λ z. absurd (omega arith))

open_stray : (d n : ℕ) (o : Opener) → stray_by d (open_code o) n (open_mark o) ≡ stray d (begins (opens o))
unfolding stray_by open_code stray
open_stray zero n' (bracket i) = refl
open_stray zero n' (brace i) = refl
open_stray zero n' (tagging w n) = refl
open_stray zero n' embedding = refl
open_stray (suc d) n' (bracket i) = rw (some_level d, stray_by)
open_stray (suc d) n' (brace i) = rw (some_level d, stray_by)
open_stray (suc d) n' (tagging w n) = rw (some_level d, stray_by)
open_stray (suc d) n' embedding = rw (some_level d, stray_by)

angle_stray : (d n : ℕ) (i : Indicator) → stray_by d 20 n (indicator_number i) ≡ stray_indicator i
unfolding stray_by indicator_number width_number stray_indicator
angle_stray d n absent = refl
angle_stray d n indefinitely = refl
angle_stray d n unknown = refl
angle_stray d n (wide w0) = refl
angle_stray d n (wide w1) = refl
angle_stray d n (wide w2) = refl
angle_stray d n (wide w4) = refl
angle_stray d n (wide w8) = refl

close_stray : (d n : ℕ) (h : Shape) (i : Indicator) → stray_by d (shape_code h) n (indicator_number i) ≡ stray_closing h i
unfolding stray_by shape_code stray_closing
close_stray d n square i = either_way (eqb d 0)
close_stray d n curly i = either_way (eqb d 0)
close_stray d n round i = either_way (eqb d 0)
close_stray d n angle i = angle_stray d n i
close_stray d n whole i = either_way (eqb d 0)

stray-is : (n d m : ℕ) (tok : Token) (k : ℕ) → Fine n tok k → stray_by d (code_of tok) m (mark_of tok) ≡ stray d tok
unfolding code_of mark_of begin_code begin_mark kind_code stray_by stray
stray-is n d m (begins (leaf x)) k f = leaf-stray d m x f ∙ sym (leaf_flat d x f)
stray-is n d m (begins (literal byte_string z b)) k f = either_way (eqb d 0)
stray-is n d m (begins (literal text_string z b)) k f = either_way (eqb d 0)
stray-is n d m (begins chunking) k f = either_way (eqb d 0)
stray-is n d m (begins (opens o)) k f = open_stray d m o
stray-is n d m (closes h i) k f = close_stray d m h i
stray-is n d m a_comma k f = either_way (eqb d 0)
stray-is n d m a_colon k f = either_way (eqb d 0)

indicator-known : (i : Indicator) → Known (stray_indicator i)
unfolding stray_indicator
indicator-known absent = record { low = omega arith; high = omega arith }
indicator-known indefinitely = record { low = omega arith; high = omega arith }
indicator-known unknown = record { low = omega arith; high = omega arith }
indicator-known (wide w) = record { low = omega arith; high = omega arith }

eleven : Known 11
eleven = record { low = omega arith; high = omega arith }

stray-known : (n d : ℕ) (tok : Token) (k : ℕ) → Fine n tok k → Known (stray d tok)
unfolding stray stray_closing
stray-known n d (begins (leaf x)) k f = rw (leaf_flat d x f) eleven
stray-known n d (begins (literal c z b)) k f = eleven
stray-known n d (begins chunking) k f = eleven
stray-known n zero (begins (opens o)) k f = record { low = omega arith; high = omega arith }
stray-known n (suc d) (begins (opens o)) k f = eleven
stray-known n d (closes square i) k f = eleven
stray-known n d (closes curly i) k f = eleven
stray-known n d (closes round i) k f = eleven
stray-known n d (closes angle i) k f = indicator-known i
stray-known n d (closes whole i) k f = eleven
stray-known n d a_comma k f = eleven
stray-known n d a_colon k f = eleven

-- a reader that comes to a token which its rule denies, or to none
stop_of : {A : Type 0} (v : A → View) (s b b' : List ℕ) (most pos d at : ℕ) (a : std.Result MadeItem Refusal) (t : Cut) (f : Token → List ℕ → Result A) (u : Result Token)
    → Shown s t u → Cuts (place (drop at (marked s))) u → t.place ≡ length (marked s) - place (drop at (marked s)) → Strayed d t a
    → ((tok : Token) (r : List ℕ) → t.kind ≡ code_of tok → u ≡ ok tok r → f tok r ≡ refuse (stray d tok) (place (drop at (marked s)))) → ReadTold v s b b' most pos a (bind u f)
unfolding Shown bind stray_by
stop_of v s b b' most pos d at a t f (ok tok r) h c p st g =
    let e : stray_by d t.kind t.refusal t.indicator ≡ stray d tok = rw (h.code, h.indicator) (stray-is (place (drop at (marked s)) - 1) d t.refusal tok (length r) c.0) in
    let k : Known (stray_by d t.kind t.refusal t.indicator) = rw e (stray-known (place (drop at (marked s)) - 1) d tok (length r) c.0) in
    told-no (stray d tok) (place (drop at (marked s))) _ (g tok r h.code refl)
    (record { is = st.is ∙ ap₂ refused (st.known k.low k.high ∙ e) p })
stop_of v s b b' most pos d at a t f (refuse k q) h c p st g =
    let e : stray_by d t.kind t.refusal t.indicator ≡ k = rw h.code h.refusal in
    told-no k q _ refl
    (record { is = st.is ∙ ap₂ refused (st.known (omega (arith, e, c.0.low)) (omega (arith, e, c.0.high)) ∙ e) (p ∙ ap (λ (x : ℕ). length (marked s) - x) (sym c.1)) })

pub told_stop : {A : Type 0} {v : A → View} {s b b' : List ℕ} {most pos at : ℕ} {a : std.Result MadeItem Refusal} {t : Cut} (d : ℕ) (f : Token → List ℕ → Result A) (res : Result A)
    → Took s at t → Strayed d t a → res ≡ bind (next (drop at (marked s))) f
    → ((tok : Token) (r : List ℕ) → t.kind ≡ code_of tok → next (drop at (marked s)) ≡ ok tok r → f tok r ≡ refuse (stray d tok) (place (drop at (marked s)))) → ReadTold v s b b' most pos a res
told_stop {A} {v} {s} {b} {b'} {most} {pos} {at} {a} {t} d f res tk st q g =
    rw q (stop_of v s b b' most pos d at a t f _ tk.shown (next-fine (drop at (marked s))) (place_at tk) st g)
