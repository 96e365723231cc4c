-- Reading what was printed gives the same item, before every text that cannot go on in a token.
use Prim.Native.Nat.{ℕ, zero, suc, ◌≤◌}
use native.Mathlib.Omega.{arith}
use mathlib.Core.Path.{◌≡◌, refl, sym, ap, ◌∙◌}
use mathlib.Core.Bool.{Bool, true, false}
use mathlib.Core.List.{List, [], ◌∷◌, ◌++◌, append_assoc}
use lib.Dec.{eqb}
use borrow.Author.Tests.{eqb-true, eq-eqb, le-leb}
use Rattle.cbor.specs.Ascii.{ascii}
use Rattle.cbor.specs.Refusals.{ok, bind}
use Rattle.cbor.specs.Widths.{Width, limit}
use Rattle.cbor.specs.Items.{Kind, byte_string, text_string, Size, definite, indefinite, Chunk, Item, int, string, chunked, array, map, tag, simple, Items, none, more, Pairs, none₂, more₂, count, count₂, levels, levels_all, levels_all₂}
use Rattle.cbor.specs.TypedArrays.{may_tag}
use Rattle.cbor.specs.Utf8.{is_in}
use Rattle.cbor.specs.Valid.{ValidString, ValidChunks, Fits, Valid, ValidAll, ValidAll₂}
use Rattle.cbor.proofs.Results.{refuse_not_ok}
use Rattle.notation.specs.Classes.{blank, class_number, class_rows, class_in, class_of, is}
use Rattle.notation.specs.Scanning.{skip, skip_from, skipped}
use Rattle.notation.specs.Indicators.{Indicator, absent}
use Rattle.notation.specs.Tokens.{leaf, literal, Shape, square, curly, round, Token, begins, closes}
use Rattle.notation.specs.Cutting.{cut_by, cut, place, placed, next}
use Rattle.notation.specs.Form.{Position, at_start, behind_comma, Wanted, either, only, Name, one, items, pairs, chunks, Closed, Value, give, then, shape_number, closing_rule, tag_rule, after_tag, inside, literal_item, beginning, one_rule, add_item, after_item, items_rule, after_value, after_key, pairs_rule, add_chunk, after_chunk, is_wanted, chunk_rule, chunks_rule, rules, obey, reads}
use Rattle.notation.specs.Printing.{decimal_of, indicator_of, print_string, print_chunks, print_chunked, size_of, print_item, print_all, print_rest, print_all₂, print_rest₂}
use Rattle.notation_theorems.proofs.Good.{Stop}
use Rattle.notation_theorems.proofs.Locality.{lexing}
use Rattle.notation_theorems.proofs.ByName.{bind_ok, bind-refuse, reads-is, reads-skips}
use Rattle.notation_theorems.proofs.Equations.{items-begin, pairs-begin, one-starts}
use Rattle.notation_theorems.proofs.PrintNumbers.{Halts, next-integer, next-tag}
use Rattle.notation_theorems.proofs.PrintStrings.{next-string, next_unchunked}
use Rattle.notation_theorems.proofs.PrintTokens.{next-simple, next-bracket, next_brace, marks, stops}

-- RULES

closing_same : {A : Type 0} (d : ℕ) (h : Shape) (i : Indicator) (x : A) → closing_rule d h h i x ≡ give x
unfolding closing_rule
closing_same d h i x = rw (eq-eqb (shape_number h) (shape_number h) refl, closing_rule)

-- what is read by name, behind its first token
by_token : (n : Name) (s : List ℕ) {t : Token} {r : List ℕ} → next s ≡ ok t r → reads n s ≡ obey reads (rules n t) (place s) (place s) r
by_token n s e = reads-is n s ∙ bind_ok _ e

-- nothing that is read begins with `_`
no-indicator : (n : Name) (s : List ℕ) {x : Value n} {r : List ℕ} → reads n s ≡ ok x r → Halts (λ b. eqb b 0x5f) s
unfolding next placed cut cut_by skip skip_from skipped is class_number class_of class_in class_rows is_in
no-indicator n [] e = tt
no-indicator n (b ∷ s) {x} {r} e = go (eqb b 0x5f) refl
  where
    go : (v : Bool) → eqb b 0x5f ≡ v → v ≡ false
    go true h = let f : reads n (0x5f ∷ s) ≡ ok x r = rw (eqb-true b 0x5f h) at e in absurd (refuse_not_ok (sym (reads-is n (0x5f ∷ s) ∙ bind-refuse _ refl) ∙ f))
    go false h = refl

space : is blank 0x20 ≡ true
unfolding is class_number class_of class_in class_rows is_in
space = refl

behind-blank : (n : Name) (c : ℕ) (s : List ℕ) {x : Value n} {r : List ℕ} → is blank c ≡ true → reads n s ≡ ok x r → reads n (c ∷ s) ≡ ok x r
behind-blank n c s h e = reads-skips n s (c ∷ s) (lexing.blank_skip c s h) ∙ e

-- ITEMS WITH NOTHING INSIDE

leaf-read : (x : Item) (d : ℕ) (s r : List ℕ) → next s ≡ ok (begins (leaf x)) r → levels x ≤ d → reads (one d) s ≡ ok x r
unfolding rules one_rule beginning obey
leaf-read x d s r e h = by_token (one d) s e ∙ rw (le-leb (levels x) d h, beginning)

literal-read : (k : Kind) (z : Size) (b : List ℕ) (d : ℕ) (s r : List ℕ) → next s ≡ ok (begins (literal k z b)) r → reads (one d) s ≡ ok (literal_item k z b) r
unfolding rules one_rule beginning obey
literal-read k z b d s r e = by_token (one d) s e

-- CHUNKS

is_wanted_lem : (k : Kind) → is_wanted (only k) k ≡ true
unfolding is_wanted
is_wanted_lem byte_string = refl
is_wanted_lem text_string = refl

chunk_first : (want : Wanted) (d : ℕ) (k : Kind) (c : Chunk) (u : List ℕ) → is_wanted want k ≡ true → ValidString k c.width c.content → Stop u
    → let s = print_string k c.width c.content ++ u in reads (chunks want d) s ≡ bind (next u) (λ t v. obey reads (after_chunk d k c t) (place s) (place u) v)
unfolding rules chunks_rule chunk_rule obey
chunk_first want d k c u h v st = by_token (chunks want d) _ (next-string k c.width c.content u v st) ∙ rw (h, chunk_rule)

chunks_stop : (k : Kind) (cs : List Chunk) (r : List ℕ) → Stop (print_chunks k cs ++ (0x29 ∷ r))
unfolding print_chunks
chunks_stop k [] r = (stops r).paren
chunks_stop k (c ∷ cs) r = (stops _).comma

-- the chunks behind c
chunks-read : (cs : List Chunk) (d : ℕ) (k : Kind) (c : Chunk) (r : List ℕ) (p q : ℕ) → ValidChunks k cs
    → bind (next (print_chunks k cs ++ (0x29 ∷ r))) (λ t v. obey reads (after_chunk d k c t) p q v) ≡ ok (record { kind = k; all = c ∷ cs }) r
unfolding ValidChunks print_chunks after_chunk add_chunk obey bind
chunks-read [] d k c r p q v = bind_ok _ (marks r).paren ∙ rw (closing_same d round absent)
chunks-read (c' ∷ cs) d k c r p q v =
    let s = print_string k c'.width c'.content ++ (print_chunks k cs ++ (0x29 ∷ r)) in
    let e : reads (chunks (only k) d) s ≡ ok (record { kind = k; all = c' ∷ cs }) r
    = chunk_first (only k) d k c' _ (is_wanted_lem k) v.0 (chunks_stop k cs r) ∙ chunks-read cs d k c' r _ _ v.1 in
    ap (λ (u : List ℕ). bind (next (0x2c ∷ (0x20 ∷ u))) (λ t v. obey reads (after_chunk d k c t) p q v)) (append_assoc (print_string k c'.width c'.content) (print_chunks k cs) (0x29 ∷ r))
    ∙ bind_ok _ (marks (0x20 ∷ s)).comma
    ∙ bind_ok _ (behind-blank (chunks (only k) d) 0x20 s space e)

split₃ : (a b c r : List ℕ) → (a ++ (b ++ c)) ++ r ≡ a ++ (b ++ (c ++ r))
split₃ a b c r = simp append_assoc

chunked-read : (k : Kind) (cs : List Chunk) (d : ℕ) (r : List ℕ) → ValidChunks k cs → Stop r → reads (one d) (print_chunked k cs ++ r) ≡ ok (chunked k cs) r
unfolding ValidChunks print_chunked literal_item rules one_rule beginning is_wanted obey bind
chunked-read k [] d r v st = literal-read k indefinite [] d (print_chunked k [] ++ r) r (next_unchunked k r st)
chunked-read k (c ∷ cs) d r v st =
    let s = print_string k c.width c.content ++ (print_chunks k cs ++ (0x29 ∷ r)) in
    let e : reads (chunks either d) s ≡ ok (record { kind = k; all = c ∷ cs }) r = chunk_first either d k c _ refl v.0 (chunks_stop k cs r) ∙ chunks-read cs d k c r _ _ v.1 in
    ap (λ (u : List ℕ). reads (one d) (0x28 ∷ (0x5f ∷ (0x20 ∷ u)))) (split₃ (print_string k c.width c.content) (print_chunks k cs) (0x29 ∷ []) r)
    ∙ by_token (one d) _ (marks (0x20 ∷ s)).chunks
    ∙ bind_ok _ (behind-blank (chunks either d) 0x20 s space e)

-- ITEMS UP TO WHAT CLOSES THEM

-- behind the first item: the token after it
items-first : (h : Shape) (b : Position) (d : ℕ) (s : List ℕ) {x : Item} {u : List ℕ} → reads (one d) s ≡ ok x u
    → reads (items h b d) s ≡ bind (next u) (λ t v. obey reads (after_item h d x t) (place s) (place u) v)
unfolding obey
items-first h b d s e = let f = one-starts d s e in items-begin h b d f.0 s f.1 f.2 ∙ bind_ok _ e

-- that token closes the items, or is a comma, with a blank c behind it and more items
items-end : (h : Shape) (d : ℕ) (x : Item) (i : Indicator) (e r : List ℕ) (p q : ℕ) → next e ≡ ok (closes h i) r
    → bind (next e) (λ t v. obey reads (after_item h d x t) p q v) ≡ ok (record { all = more x none; indicator = i }) r
unfolding after_item obey
items-end h d x i e r p q f = bind_ok _ f ∙ rw (closing_same {A = Closed} d h i)

items_more : (h : Shape) (d : ℕ) (x : Item) (c : ℕ) (s r : List ℕ) (cs : Closed) (p q : ℕ) → is blank c ≡ true → reads (items h behind_comma d) s ≡ ok cs r
    → bind (next (0x2c ∷ (c ∷ s))) (λ t v. obey reads (after_item h d x t) p q v) ≡ ok (add_item x cs) r
unfolding after_item obey
items_more h d x c s r cs p q b e = bind_ok _ (marks (c ∷ s)).comma ∙ bind_ok _ (behind-blank (items h behind_comma d) c s b e)

rest_stop : (xs : Items) (c : ℕ) (e : List ℕ) → Stop e → Stop (print_rest (0x2c ∷ c ∷ []) xs ++ e)
unfolding print_rest
rest_stop none c e st = st
rest_stop (more x xs) c e st = (stops _).comma

array-read : (d : ℕ) (z : Size) (xs : Items) (s r : List ℕ) → Fits z (count xs) → reads (items square at_start d) s ≡ ok (record { all = xs; indicator = absent }) r
    → reads (one (suc d)) (0x5b ∷ (size_of z (count xs) ++ s)) ≡ ok (array z xs) r
unfolding rules one_rule beginning inside obey
array-read d z xs s r f e =
    let o = next-bracket z (count xs) s f (no-indicator (items square at_start d) s e) in
    by_token (one (suc d)) _ o.is ∙ bind_ok _ (reads-skips (items square at_start d) s o.rest o.skips ∙ e) ∙ rw (o.sizes (λ z. array z xs))

-- PAIRS

-- behind the first pair: the token after its value
pair-first : (b : Position) (d : ℕ) (s s' : List ℕ) {k x : Item} {u : List ℕ} → reads (one d) s ≡ ok k (0x3a ∷ (0x20 ∷ s')) → reads (one d) s' ≡ ok x u
    → reads (pairs b d) s ≡ bind (next u) (λ t v. obey reads (after_value d k x t) (place s) (place u) v)
unfolding after_key obey
pair-first b d s s' e e' =
    let f = one-starts d s e in
    pairs-begin b d f.0 s f.1 f.2
    ∙ bind_ok _ e
    ∙ bind_ok _ (marks (0x20 ∷ s')).colon
    ∙ bind_ok _ (behind-blank (one d) 0x20 s' space e')

pairs_end : (d : ℕ) (k x : Item) (r : List ℕ) (p q : ℕ) → bind (next (0x7d ∷ r)) (λ t v. obey reads (after_value d k x t) p q v) ≡ ok (more₂ k x none₂) r
unfolding after_value obey
pairs_end d k x r p q = bind_ok _ (marks r).brace ∙ rw (closing_same {A = Pairs} d curly absent)

pairs-more : (d : ℕ) (k x : Item) (s r : List ℕ) (ps : Pairs) (p q : ℕ) → reads (pairs behind_comma d) s ≡ ok ps r
    → bind (next (0x2c ∷ (0x20 ∷ s))) (λ t v. obey reads (after_value d k x t) p q v) ≡ ok (more₂ k x ps) r
unfolding after_value obey
pairs-more d k x s r ps p q e = bind_ok _ (marks (0x20 ∷ s)).comma ∙ bind_ok _ (behind-blank (pairs behind_comma d) 0x20 s space e)

rest₂_stop : (ps : Pairs) (r : List ℕ) → Stop (print_rest₂ ps ++ (0x7d ∷ r))
unfolding print_rest₂
rest₂_stop none₂ r = (stops r).brace
rest₂_stop (more₂ k x ps) r = (stops _).comma

map_read : (d : ℕ) (z : Size) (ps : Pairs) (s r : List ℕ) → Fits z (count₂ ps) → reads (pairs at_start d) s ≡ ok ps r → reads (one (suc d)) (0x7b ∷ (size_of z (count₂ ps) ++ s)) ≡ ok (map z ps) r
unfolding rules one_rule beginning inside obey
map_read d z ps s r f e =
    let o = next_brace z (count₂ ps) s f (no-indicator (pairs at_start d) s e) in
    by_token (one (suc d)) _ o.is ∙ bind_ok _ (reads-skips (pairs at_start d) s o.rest o.skips ∙ e) ∙ rw (o.sizes (λ z. map z ps))

pair_split : (a b u r : List ℕ) → (a ++ (ascii ": " ++ (b ++ u))) ++ r ≡ a ++ (0x3a ∷ (0x20 ∷ (b ++ (u ++ r))))
pair_split a b u r = simp append_assoc

-- TAGS

tag_read : (d : ℕ) (w : Width) (n : ℕ) (x : Item) (s r : List ℕ) → n ≤ limit w → may_tag n x ≡ true → reads (one d) s ≡ ok x (0x29 ∷ r)
    → reads (one (suc d)) ((decimal_of n ++ indicator_of w n) ++ (0x28 ∷ s)) ≡ ok (tag w n x) r
unfolding rules one_rule beginning inside after_tag tag_rule then obey
tag_read d w n x s r h t e =
    by_token (one (suc d)) _ (next-tag w n s h) ∙ bind_ok _ e ∙ bind_ok _ (marks r).paren ∙ rw (closing_same {A = Item} d round absent) (rw (t, tag_rule))

tag_split : (a b r : List ℕ) → (a ++ (0x28 ∷ (b ++ ascii ")"))) ++ r ≡ a ++ (0x28 ∷ (b ++ (0x29 ∷ r)))
tag_split a b r = simp append_assoc

-- ALL

mutual
  unfolding print_item print_all print_rest print_all₂ print_rest₂ Valid ValidAll ValidAll₂ levels levels_all levels_all₂ literal_item rules items_rule pairs_rule add_item obey

  pub print-read : (x : Item) (d : ℕ) (r : List ℕ) → Valid x → levels x ≤ d → Stop r → reads (one d) (print_item x ++ r) ≡ ok x r
  print-read (int g w n) d r v h st = leaf-read (int g w n) d _ r (next-integer g w n r v st) (omega arith)
  print-read (string k w b) d r v h st = literal-read k (definite w) b d _ r (next-string k w b r v st)
  print-read (chunked k cs) d r v h st = chunked-read k cs d r v st
  print-read (array z xs) zero r v h st = absurd (omega arith)
  print-read (array z xs) (suc d) r v h st =
      ap (λ (u : List ℕ). reads (one (suc d)) (0x5b ∷ u)) (split₃ (size_of z (count xs)) (print_all (ascii ", ") xs) (0x5d ∷ []) r)
      ∙ array-read d z xs _ r v.0 (all_read xs square d 0x20 (0x5d ∷ r) r absent space v.1 (omega arith) (stops r).bracket (marks r).bracket)
  print-read (map z ps) zero r v h st = absurd (omega arith)
  print-read (map z ps) (suc d) r v h st =
      ap (λ (u : List ℕ). reads (one (suc d)) (0x7b ∷ u)) (split₃ (size_of z (count₂ ps)) (print_all₂ ps) (0x7d ∷ []) r)
      ∙ map_read d z ps _ r v.0 (all₂_read ps d r v.1 (omega arith))
  print-read (tag w n x) zero r v h st = absurd (omega arith)
  print-read (tag w n x) (suc d) r v h st =
      ap (reads (one (suc d))) (tag_split (decimal_of n ++ indicator_of w n) (print_item x) r)
      ∙ tag_read d w n x (print_item x ++ (0x29 ∷ r)) r v.0 v.1 (print-read x d (0x29 ∷ r) v.2 (omega arith) (stops r).paren)
  print-read (simple n) d r v h st = leaf-read (simple n) d _ r (next-simple n r v st) (omega arith)

  -- items, a comma and a blank c between them, in front of e, which closes them
  pub all_read : (xs : Items) (h : Shape) (d c : ℕ) (e r : List ℕ) (i : Indicator) → is blank c ≡ true → ValidAll xs → levels_all xs ≤ d → Stop e → next e ≡ ok (closes h i) r
      → reads (items h at_start d) (print_all (0x2c ∷ c ∷ []) xs ++ e) ≡ ok (record { all = xs; indicator = i }) r
  all_read none h d c e r i b v l st en = by_token (items h at_start d) e en ∙ rw (closing_same {A = Closed} d h i)
  all_read (more x xs) h d c e r i b v l st en =
      ap (reads (items h at_start d)) (append_assoc (print_item x) (print_rest (0x2c ∷ c ∷ []) xs) e)
      ∙ items-first h at_start d _ (print-read x d _ v.0 (omega arith) (rest_stop xs c e st))
      ∙ rest_read xs x h d c e r i _ _ b v.1 (omega arith) st en

  rest_read : (xs : Items) (x : Item) (h : Shape) (d c : ℕ) (e r : List ℕ) (i : Indicator) (p q : ℕ) → is blank c ≡ true → ValidAll xs → levels_all xs ≤ d → Stop e → next e ≡ ok (closes h i) r
      → bind (next (print_rest (0x2c ∷ c ∷ []) xs ++ e)) (λ t v. obey reads (after_item h d x t) p q v) ≡ ok (record { all = more x xs; indicator = i }) r
  rest_read none x h d c e r i p q b v l st en = items-end h d x i e r p q en
  rest_read (more y ys) x h d c e r i p q b v l st en =
      items_more h d x c _ r (record { all = more y ys; indicator = i }) p q b
      (ap (reads (items h behind_comma d)) (append_assoc (print_item y) (print_rest (0x2c ∷ c ∷ []) ys) e)
      ∙ items-first h behind_comma d _ (print-read y d _ v.0 (omega arith) (rest_stop ys c e st))
      ∙ rest_read ys y h d c e r i _ _ b v.1 (omega arith) st en)

  pub all₂_read : (ps : Pairs) (d : ℕ) (r : List ℕ) → ValidAll₂ ps → levels_all₂ ps ≤ d → reads (pairs at_start d) (print_all₂ ps ++ (0x7d ∷ r)) ≡ ok ps r
  all₂_read none₂ d r v l = by_token (pairs at_start d) _ (marks r).brace ∙ rw (closing_same {A = Pairs} d curly absent)
  all₂_read (more₂ k x ps) d r v l =
      ap (reads (pairs at_start d)) (pair_split (print_item k) (print_item x) (print_rest₂ ps) (0x7d ∷ r))
      ∙ pair-first at_start d _ _ (print-read k d _ v.0 (omega arith) (stops _).colon) (print-read x d _ v.1 (omega arith) (rest₂_stop ps r))
      ∙ rest₂_read ps k x d r _ _ v.2 (omega arith)

  rest₂_read : (ps : Pairs) (k x : Item) (d : ℕ) (r : List ℕ) (p q : ℕ) → ValidAll₂ ps → levels_all₂ ps ≤ d
      → bind (next (print_rest₂ ps ++ (0x7d ∷ r))) (λ t v. obey reads (after_value d k x t) p q v) ≡ ok (more₂ k x ps) r
  rest₂_read none₂ k x d r p q v l = pairs_end d k x r p q
  rest₂_read (more₂ k' x' ps) k x d r p q v l =
      pairs-more d k x _ r (more₂ k' x' ps) p q
      (ap (reads (pairs behind_comma d)) (pair_split (print_item k') (print_item x') (print_rest₂ ps) (0x7d ∷ r))
      ∙ pair-first behind_comma d _ _ (print-read k' d _ v.0 (omega arith) (stops _).colon) (print-read x' d _ v.1 (omega arith) (rest₂_stop ps r))
      ∙ rest₂_read ps k' x' d r _ _ v.2 (omega arith))
