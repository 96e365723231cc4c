-- One item: a leaf, one that opens no level, and what stands inside one that opens a level.
-- Assumes nothing.
use mathlib.Core.Path.{◌≡◌, refl, sym, ap, ◌∙◌}
use mathlib.Core.List.{List, [], ◌++◌}
use mathlib.Core.Bool.{Bool, true, false, true≢false}
use Prim.Native.Nat.{ℕ, zero, suc, ◌+◌, ◌-◌, ◌≤◌, ◌<◌, ◌^◌, min}
use native.Mathlib.Omega.{arith}
use lib.Dec.{leb}
use lib.ListN.{length, take, drop, length-drop}
use borrow.Author.Tests.{le-leb}
use Rattle.cbor.specs.Refusals.{Result, ok, refuse, bad_typed_array}
use Rattle.cbor.specs.Items.{byte_string, text_string, Item, int, string, chunked, array, map, tag, simple, levels}
use Rattle.cbor.specs.Heads.{head}
use Rattle.cbor.specs.Encode.{encode}
use Rattle.typed_array.specs.TypedArrayAnswers.{may_tag_by}
use Rattle.head.specs.HeadAnswers.{head_bytes}
use Rattle.refusal.specs.declared.Refusal.{Refusal}
use Rattle.notation.specs.Tokens.{Opener as Opens, bracket, brace, tagging, embedding, leaf, literal, chunking, opens, whole, Token, begins, closes, a_comma, a_colon}
use Rattle.notation.specs.Cutting.{next, place}
use Rattle.notation.specs.Form.{one, stray, strays, beginning, one_rule, inside, obey, reads}
use Rattle.notation.specs.Reading.{marked}
use Rattle.scanning.specs.ScanAnswers.{Skips}
use Rattle.scanning.proofs.Marked.{stands-left}
use Rattle.token.specs.TokenAnswers.{open_code, kind_code, begin_code, code_of, mark_of, begin_mark, number_of, begin_number, Seen, Took}
use Rattle.token.specs.declared.Token.{Token as Cut}
use Rattle.leaf_answer.specs.LeafAnswers.{LeafTold}
use Rattle.leaf_answer.specs.declared.LeafRead.{LeafRead}
use Rattle.leaf_answer.specs.declared.Found.{Found}
use Rattle.leaf_answer.specs.declared.Found.TheVariants.{Leaf, Tag as TagFound, Odd, Nothing as NoLeaf}
use Rattle.encoding.specs.ReadAnswers.{View, Held, Tells, no_bytes, of_item, chunked_read, initial_by, Room, Opened, Wrote, After, ReadTold, Strayed, Leafed, Denies}
use Rattle.encoding.specs.declared.answer.MadeItem.{MadeItem}
use Rattle.encoding.proofs.ReadTokens.{LeafFine, Fine, next-fine}
use Rattle.encoding.proofs.ReadSmall.{head-short, head-some}
use Rattle.encoding.proofs.Telling.{bind-yes, told-ok, told_more, told_stop, token, past}
use Rattle.encoding.proofs.ReadRules.{one-is, shape_low, shape_shuts, opens_by, code-some}
use Rattle.string_reader.proofs.ReadStrings.{item-literal}
use Rattle.encoding.proofs.Cuts.{next-cut}
use Rattle.opening.proofs.Openers.{leaf-bytes, thirteen}
use Rattle.opening.specs.Openings.{OpeningTold, Opened as LeafOpened}
use Rattle.reader.specs.OneItem.{LevelAt, is_leaf, Flat, TagMade}
use Rattle.opening.specs.declared.Opener.TheVariants.{Nothing}
use Rattle.opening.specs.declared.Opening.{Opening}
use Rattle.std.specs.Prelude.{Ok, Err}
use Rattle.std.specs.Prelude as std

-- THE SAME ANSWER
module _ {a : std.Result MadeItem Refusal} where
  pub again_made : {m : MadeItem} → a ≡ Ok m → Ok (record { next = m.next; size = m.size; count = m.count; indicator = m.indicator; binary = m.binary; length = m.length }) ≡ a
  again_made e = sym e

  pub again_refused : {e : Refusal} → a ≡ Err e → Err (record { kind = e.kind; place = e.place }) ≡ a
  again_refused e = sym e

pub ruleset again_ways = (again_made, again_refused)

-- from a buffer that is the same up to a place
wrote-from : {b b₁ b₂ : List ℕ} {pos : ℕ} {ws : List ℕ} → length b₁ ≡ length b → take pos b₁ ≡ take pos b → Wrote b₁ b₂ pos ws → Wrote b b₂ pos ws
wrote-from {pos = pos} {ws = ws} l k w = record { same = w.same ∙ l; behind = w.behind; is = λ f. w.is (rw l f) ∙ ap (λ (x : List ℕ). x ++ (ws ++ w.behind)) k }

after-from : {A : Type 0} (v : A → View) (s b b₁ b₂ : List ℕ) (most pos : ℕ) (a : std.Result MadeItem Refusal) (res : Result A) → length b₁ ≡ length b → take pos b₁ ≡ take pos b → After v s b₁ b₂ most pos a res → After v s b b₂ most pos a res
unfolding After
after-from v s b b₁ b₂ most pos a (ok x r) l k f =
    let m = f.moved in
    record { made = f.made; is = f.is; moved = record { stands = m.stands; sized = m.sized; counted = m.counted; indicated = m.indicated; tells = m.tells; many = m.many; short = m.short; wrote = wrote-from l k m.wrote } }
after-from v s b b₁ b₂ most pos a (refuse n q) l k f = f

pub told-from : {A : Type 0} {v : A → View} {s b b₁ b₂ : List ℕ} {at most pos : ℕ} {q : LeafRead} {a : std.Result MadeItem Refusal} {res : Result A} → LeafTold s b b₁ at pos q → ReadTold v s b₁ b₂ most pos a res → ReadTold v s b b₂ most pos a res
told-from lt h = record { after = after-from _ _ _ _ _ _ _ _ _ lt.same lt.kept h.after }

-- A LEAF
leaf-found : (f : Found) → is_leaf f ≡ true → f ≡ Leaf
unfolding is_leaf
leaf-found Leaf e = refl
leaf-found TagFound e = absurd (true≢false (sym e))
leaf-found Odd e = absurd (true≢false (sym e))
leaf-found NoLeaf e = absurd (true≢false (sym e))

pub item-leaf : {s b b' : List ℕ} {from at pos : ℕ} {q : LeafRead} {v : Bool} {a : std.Result MadeItem Refusal} (d : ℕ) → Skips s from at → LeafTold s b b' at pos q → v ≡ is_leaf q.found → v ≡ true
    → a ≡ Ok (record { next = q.next; size = q.size; count = 1; indicator = 0; binary = q.binary; length = q.length }) → ReadTold of_item s b b' (length (marked s) - from) pos a (reads (one d) (drop from (marked s)))
unfolding of_item
item-leaf {s} {from = from} {at = at} {q = q} d sk lt e t f =
    let m = lt.leaf (leaf-found q.found (sym e ∙ t)) in
    let n = next-cut sk m.whole.cut in
    let l = length-drop q.next (marked s) in
    told-ok m.item _ (one-is d (drop from (marked s)) ∙ bind-yes (next (drop from (marked s))) _ (begins m.whole.begin) (drop q.next (marked s)) n.is ∙ m.whole.gives d (place (drop from (marked s))) (drop q.next (marked s))) f
    (record {
      stands = record { inside = n.inside; drops = refl };
      sized = m.sized;
      counted = refl;
      indicated = refl;
      tells = m.tells;
      many = m.some;
      short = omega (arith, m.short, l, sk.ahead, n.inside, m.whole.cut.ahead);
      wrote = m.wrote;
    })

-- one that was read when none had been found
-- what is read from a buffer in which no leaf was found
module _ {s b b₁ b₂ : List ℕ} {pos at : ℕ} {q : LeafRead} {a : std.Result MadeItem Refusal} (from d : ℕ) where
  pub item-whole : LeafTold s b b₁ at pos q → ReadTold of_item s b₁ b₂ (length (marked s) - from) pos a (reads (one d) (drop from (marked s))) → ReadTold of_item s b b₂ (length (marked s) - from) pos a (reads (one d) (drop from (marked s)))
  item-whole lt h = told-from lt h

  pub item_deep : {a' : std.Result MadeItem Refusal} → LeafTold s b b₁ at pos q → ReadTold of_item s b₁ b₂ (length (marked s) - from) pos a (reads (one d) (drop from (marked s))) → a' ≡ a
      → ReadTold of_item s b b₂ (length (marked s) - from) pos a' (reads (one d) (drop from (marked s)))
  item_deep lt h e = rw e (told-from lt h)

-- AN ITEM THAT OPENS NO LEVEL, by its token
low-leaf : (n : ℕ) (tok : Token) (k : ℕ) → Fine n tok k → code_of tok ≤ 3 → (code_of tok ≡ 0 → ⊥) → (x : Item) × (tok ≡ begins (leaf x)) × LeafFine x
unfolding code_of begin_code kind_code open_code
low-leaf n (begins (leaf x)) k f h z = (x, refl, f)
low-leaf n (begins (literal byte_string s b)) k f h z = absurd (omega arith)
low-leaf n (begins (literal text_string s b)) k f h z = absurd (omega arith)
low-leaf n (begins chunking) k f h z = absurd (omega arith)
low-leaf n (begins (opens (bracket i))) k f h z = absurd (omega arith)
low-leaf n (begins (opens (brace i))) k f h z = absurd (omega arith)
low-leaf n (begins (opens (tagging w m))) k f h z = absurd (omega arith)
low-leaf n (begins (opens embedding)) k f h z = absurd (omega arith)
low-leaf n (closes h' i) k f h z = absurd (omega (arith, shape_low h'))
low-leaf n a_comma k f h z = absurd (omega arith)
low-leaf n a_colon k f h z = absurd (omega arith)

code-chunking : (n : ℕ) (tok : Token) (k : ℕ) → Fine n tok k → code_of tok ≡ 13 → tok ≡ begins chunking
unfolding code_of begin_code kind_code open_code
code-chunking n (begins (leaf x)) k f e = absurd (omega (arith, (leaf-bytes x f).0))
code-chunking n (begins (literal byte_string s b)) k f e = absurd (omega arith)
code-chunking n (begins (literal text_string s b)) k f e = absurd (omega arith)
code-chunking n (begins chunking) k f e = refl
code-chunking n (begins (opens (bracket i))) k f e = absurd (omega arith)
code-chunking n (begins (opens (brace i))) k f e = absurd (omega arith)
code-chunking n (begins (opens (tagging w m))) k f e = absurd (omega arith)
code-chunking n (begins (opens embedding)) k f e = absurd (omega arith)
code-chunking n (closes h i) k f e = absurd (true≢false (sym thirteen ∙ ap opens_by (sym e) ∙ shape_shuts h))
code-chunking n a_comma k f e = absurd (omega arith)
code-chunking n a_colon k f e = absurd (omega arith)

-- what an item's rule denies: all that does not begin an item, and what opens a level where none is left
none-begins : (d n : ℕ) (tok : Token) (k p : ℕ) (r : List ℕ) → Fine n tok k → 5 < code_of tok → (code_of tok ≡ 13 → ⊥) → ((d ≡ 0 → ⊥) → (op : Opens) → tok ≡ begins (opens op) → ⊥) → obey reads (one_rule d tok) p p r ≡ refuse (stray d tok) p
unfolding one_rule beginning obey strays stray code_of begin_code kind_code
none-begins d n (begins (leaf x)) k p r f l n13 h = absurd (omega (arith, (leaf-bytes x f).0))
none-begins d n (begins (literal byte_string s b)) k p r f l n13 h = absurd (omega arith)
none-begins d n (begins (literal text_string s b)) k p r f l n13 h = absurd (omega arith)
none-begins d n (begins chunking) k p r f l n13 h = absurd (n13 refl)
none-begins zero n (begins (opens o)) k p r f l n13 h = refl
none-begins (suc d) n (begins (opens o)) k p r f l n13 h = absurd (h (λ z. absurd (omega arith)) o refl)
none-begins d n (closes h' i) k p r f l n13 h = refl
none-begins d n a_comma k p r f l n13 h = refl
none-begins d n a_colon k p r f l n13 h = refl

leaf-gives : (d : ℕ) (x : Item) (p : ℕ) (r : List ℕ) → LeafFine x → obey reads (one_rule d (begins (leaf x))) p p r ≡ ok x r
unfolding one_rule beginning obey levels
leaf-gives d (int g w n) p r f = let e : leb 0 d ≡ true = le-leb 0 d (omega arith) in rw (e, beginning)
leaf-gives d (simple n) p r f = let e : leb 0 d ≡ true = le-leb 0 d (omega arith) in rw (e, beginning)
leaf-gives d (string k w b) p r f = absurd f
leaf-gives d (chunked k cs) p r f = absurd f
leaf-gives d (array z xs) p r f = absurd f
leaf-gives d (map z ps) p r f = absurd f
leaf-gives d (tag w n x) p r f = absurd f

fine-at : (u : List ℕ) (tok : Token) (r : List ℕ) → next u ≡ ok tok r → Fine (place u - 1) tok (length r)
fine-at u tok r e = (rw e at (next-fine u)).0

tells_none : {t : Bool} (n : ℕ) {h : Held} → h ≡ no_bytes → t ≡ false → Tells h t n
unfolding Tells
tells_none n e f = rw e f

module _ {s b b' : List ℕ} {pos at : ℕ} {t : Cut} {a : std.Result MadeItem Refusal} (d : ℕ) (tk : Took s at t) where
  pub flat_none : t.kind ≡ 0 → Strayed d t a → ReadTold of_item s b b' (length (marked s) - at) pos a (reads (one d) (drop at (marked s)))
  flat_none e f = told_stop d _ _ tk f (one-is d (drop at (marked s))) (λ tok r c u. absurd (omega (arith, code-some tok, c)))

  leaf-told : (x : Item) (r : List ℕ) → next (drop at (marked s)) ≡ ok (begins (leaf x)) r → Seen s t (begins (leaf x)) r → LeafFine x → t.place < t.next → Leafed t b b' pos a
      → ReadTold of_item s b b' (length (marked s) - at) pos a (reads (one d) (drop at (marked s)))
  unfolding of_item code_of mark_of number_of begin_code begin_mark begin_number initial_by one_rule
  leaf-told x r e se f ah lf =
      let lb = leaf-bytes x f in
      let hs : head_bytes (initial_by t) t.argument ≡ encode x = rw (se.code, se.indicator, se.number) lb.1 in
      told-ok x _ (one-is d (drop at (marked s)) ∙ bind-yes (next (drop at (marked s))) _ (begins (leaf x)) r e ∙ leaf-gives d x (place (drop at (marked s))) r f) lf.is
      (record {
        stands = se.next;
        sized = ap length hs;
        counted = refl;
        indicated = refl;
        tells = tells_none 0 lb.2 refl;
        many = head-some (initial_by t) t.argument;
        short = omega (arith, head-short (initial_by t) t.argument, stands-left se.next, se.next.inside, tk.from, ah);
        wrote = rw hs at lf.wrote;
      })

  pub flat_other : 5 < t.kind → (t.kind ≡ 13 → ⊥) → Flat s at d → Strayed d t a → ReadTold of_item s b b' (length (marked s) - at) pos a (reads (one d) (drop at (marked s)))
  flat_other l n13 h f =
      told_stop d _ _ tk f (one-is d (drop at (marked s)))
      (λ tok r c u. none-begins d (place (drop at (marked s)) - 1) tok (length r) (place (drop at (marked s))) r (fine-at (drop at (marked s)) tok r u) (rw c at l) (λ q. n13 (c ∙ q)) (λ z op e. h.is z op r (u ∙ ap (λ (x : Token). ok x r) e)))

  pub flat_leaf : (t.kind ≡ 0 → ⊥) → t.kind ≤ 3 → Leafed t b b' pos a → ReadTold of_item s b b' (length (marked s) - at) pos a (reads (one d) (drop at (marked s)))
  flat_leaf n h lf =
      let ta = token tk n in
      let lo = low-leaf (place (drop at (marked s)) - 1) ta.tok (length ta.rest) ta.fine (rw ta.seen.code at h) (λ z. n (ta.seen.code ∙ z)) in
      leaf-told lo.0 ta.rest (ta.is ∙ ap (λ (u : Token). ok u ta.rest) lo.1) (rw lo.1 at ta.seen) lo.2 ta.ahead lf

  pub flat_chunked : t.kind ≡ 13 → ReadTold of_item s b b' (length (marked s) - t.next + 1) pos a (chunked_read d (drop t.next (marked s)))
      → ReadTold of_item s b b' (length (marked s) - at) pos a (reads (one d) (drop at (marked s)))
  unfolding one_rule beginning obey chunked_read
  flat_chunked e h =
      let ta = token tk (λ z. omega arith) in
      let c : ta.tok ≡ begins chunking = code-chunking (place (drop at (marked s)) - 1) ta.tok (length ta.rest) ta.fine (sym ta.seen.code ∙ e) in
      let le : length (marked s) - t.next + 1 ≤ length (marked s) - at = omega (arith, past tk ta.ahead, ta.seen.next.inside) in
      let q : reads (one d) (drop at (marked s)) ≡ chunked_read d (drop t.next (marked s)) =
      one-is d (drop at (marked s)) ∙ bind-yes (next (drop at (marked s))) _ (begins chunking) ta.rest (ta.is ∙ ap (λ (u : Token). ok u ta.rest) c) ∙ ap (λ (r : List ℕ). chunked_read d r) (sym ta.seen.next.drops) in
      told_more le (rw q h)

pub ruleset flat_ways = (flat_none, flat_leaf, flat_chunked, flat_other, item-literal)

pub flat_open : {s : List ℕ} {at : ℕ} {t : Cut} (pos : ℕ) → Took s at t → Room s at pos → t.kind ≡ 13 → Opened s t.next pos t.next
flat_open pos tk rm e =
    let ta = token tk (λ z. omega arith) in
    record { inside = ta.seen.next.inside; room = omega (arith, rm.room, past tk ta.ahead, ta.seen.next.inside); before = ta.seen.next.inside }

pub room-inside : {s : List ℕ} {at pos : ℕ} → Room s at pos → at ≤ length (marked s)
room-inside r = r.inside

-- WHERE NO LEVEL MAY BE OPENED, or nothing opens one
pub flat_deep : {s : List ℕ} {from d : ℕ} → d ≡ 0 → Flat s from d
flat_deep e = record { is = λ n. absurd (n e) }

pub flat_opening : {s : List ℕ} {from d : ℕ} {o : Opening} → OpeningTold s from o → o.opener ≡ Nothing → Flat s from d
flat_opening x e = record { is = λ n op r q. x.none e op r q }

pub level-at : {s b b' : List ℕ} {from at pos d : ℕ} {q : LeafRead} → Skips s from at → LeafTold s b b' at pos q → (d ≡ 0 → ⊥) → LevelAt s from at q d
level-at sk lt n = record { opened = record { skips = sk; tag = lt.tag }; some = omega arith }

pub level_open : {s : List ℕ} {from at d : ℕ} {q : LeafRead} → LevelAt s from at q d → LeafOpened s from at q
level_open l = l.opened

pub level-skips : {s : List ℕ} {from at d : ℕ} {q : LeafRead} → LevelAt s from at q d → Skips s from at
level-skips l = l.opened.skips

pub level_odd : {s b b' : List ℕ} {from at pos d : ℕ} {q r : LeafRead} {v : Bool} {a : std.Result MadeItem Refusal} → LevelAt s from at q d → LeafTold s b b' at pos r → v ≡ is_leaf r.found → v ≡ true
    → a ≡ Ok (record { next = r.next; size = r.size; count = 1; indicator = 0; binary = r.binary; length = r.length }) → ReadTold of_item s b b' (length (marked s) - from) pos a (reads (one d) (drop from (marked s)))
level_odd {d = d} l lt e t f = item-leaf d (level-skips l) lt e t f

pub level-some : {s : List ℕ} {from at d : ℕ} {q : LeafRead} → LevelAt s from at q d → 1 ≤ d
level-some l = l.some

-- BEHIND THE HEAD OF A TAG
module _ {n head next' size length' place' : ℕ} {binary r : Bool} {a : std.Result MadeItem Refusal} (e : r ≡ may_tag_by n binary length') where
  pub tagged-yes : {k : ℕ} → r ≡ true → k ≡ min (head + size) (2 ^ 64 - 1) → a ≡ Ok (record { next = next'; size = k; count = 1; indicator = 0; binary = false; length = 0 }) → TagMade n head next' size binary length' place' a
  tagged-yes t q f = record { refused = λ z. absurd (true≢false (sym t ∙ e ∙ z)); made = λ z. f ∙ ap (λ (x : ℕ). Ok (record { next = next'; size = x; count = 1; indicator = 0; binary = false; length = 0 })) q }

  pub tagged-no : r ≡ false → Denies bad_typed_array place' a → TagMade n head next' size binary length' place' a
  tagged-no t f = record { refused = λ z. f; made = λ z. absurd (true≢false (sym z ∙ sym e ∙ t)) }

pub ruleset tagged_ways = (tagged-yes, tagged-no)
