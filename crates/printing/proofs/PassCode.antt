-- Printing in one pass: each way to a return, and the loop.
-- Assumes nothing.
use mathlib.Core.Path.{◌≡◌, refl, sym, ap, subst, ◌∙◌}
use mathlib.Core.Bool.{Bool, true, false, not}
use mathlib.Core.List.{List, [], ◌∷◌, ◌++◌, append_assoc, append-nil}
use Prim.Native.Nat.{ℕ, zero, suc, ◌+◌, ◌-◌, ◌*◌, ◌/◌, ◌%◌, ◌^◌, ◌≤◌, ◌<◌}
use native.Mathlib.Omega.{arith}
use lib.ListN.{length, drop, get_or, length-drop}
use borrow.Author.Tests.{eq-eqb, ne_eqb, le-leb, not-true, not-false}
use Rattle.cbor.specs.Ascii.{ascii}
use Rattle.cbor.specs.Refusals.{ok, bind}
use Rattle.cbor.specs.Items.{Size, definite, indefinite, Item, array, map, tag, Items, none, more, Pairs, none₂, more₂, count, count₂}
use Rattle.cbor.specs.Heads.{tags, major_of}
use Rattle.cbor.specs.TypedArrays.{may_tag}
use Rattle.cbor.specs.Decode.{Until, counted, ended, finished, another, step_at, several_by, several, several_within, entry_at, extent, tagged, elements, pair, entries, item_by, item, decode}
use Rattle.cbor.proofs.Results.{refuse_not_ok}
use Rattle.cbor.proofs.DecodeEncode.{enter_at, by-head}
use Rattle.head.specs.HeadAnswers.{head_told, argument_at, HeadRoom, HeadEnd}
use Rattle.head.specs.declared.HeadAt.{HeadAt}
use Rattle.memory.specs.Sums.{capped}
use Rattle.notation.specs.Printing.{decimal_of, indicator_of, size_of, print_item, print_all, print_rest, print_all₂, print_rest₂, print_text}
use Rattle.walk_answer.specs.WalkAnswers.{contents, entry_contents, until_by, mode_by, behind_by, step_by, Turned, Within}
use Rattle.walk_answer.proofs.Leaves.{Left, several_eq}
use Rattle.walk_answer.proofs.ItemLeaves.{item-leaves, entry_leaves}
use Rattle.text_output.specs.PrintParts.{width_by, size_by}
use Rattle.printer.specs.PrintAnswers.{PrintHeaded}
use Rattle.printer.proofs.PrintSeveral.{bind_ok, ok-rest}
use Rattle.printer.proofs.PrintCycle.{headed}
use Rattle.printer.proofs.PrintWays.{until_is}
use Rattle.leaf_written.specs.Laying.{Laid}
use Rattle.leaf_written.specs.LeafTexts.{Room, HasBlock, HasSpace, LeafTold}
use Rattle.std.specs.Prelude.{IfSome, ⊤}
use Rattle.std.specs.declared.option.Option.{Option}
use Rattle.std.specs.declared.option.Option.TheVariants.{None, Some}
use Rattle.std.proofs.lemmas.Option.{IfSome_then, MatchOption-at_some}
use Rattle.leaf_written.specs.declared.Written.{Written}
use Rattle.leaf_written.proofs.LayCode.{laid_none, laid_more, laid_kept, laid_as, laid-after}
use Rattle.pass_parts.specs.PartAnswers.{comma_of, separator_of, tag_opening, ItemTold, Shut, Closed, MayTag}
use Rattle.printing.specs.PassAnswers.{text_of, AllMade, AllTold, AllPrinted, PassTold}
use Rattle.pass_parts.proofs.PartCode.{take_less}
use Rattle.std.specs.Prelude.{Ok}
use Rattle.walk_answer.specs.declared.Mode.{Mode}
use Rattle.walk_answer.specs.declared.Mode.TheVariants.{Counted, Ended}

-- ONE MORE OF SEVERAL

items_eq : (d : ℕ) (u : Until) (s : List ℕ) → elements (item d) u s ≡ several_by none more (item d) (elements (item d)) (step_at u s) s
unfolding elements
items_eq d u s = several_eq none more (item d) contents (item-leaves d) u s

items_more : (d : ℕ) (u v : Until) (s : List ℕ) {x : Item} {xs : Items} {t r : List ℕ} → step_at u s ≡ another v → item d s ≡ ok x t → elements (item d) v t ≡ ok xs r → elements (item d) u s ≡ ok (more x xs) r
unfolding several_by bind
items_more d u v s st e f = items_eq d u s ∙ rw (st, several_by) (rw (e, bind) (rw (f, bind)))

items-over : (d : ℕ) (u : Until) (s : List ℕ) {r : List ℕ} → step_at u s ≡ finished r → elements (item d) u s ≡ ok none r
unfolding several_by
items-over d u s st = items_eq d u s ∙ rw (st, several_by)

-- an item takes a byte at least
item-ahead : (s : List ℕ) (at d e : ℕ) {x : Item} → item d (drop at s) ≡ ok x (drop e s) → e ≤ length s → at < e
item-ahead s at d e g h = let l : Left 1 (drop at s) (drop e s) _ = rw g at (item-leaves d (drop at s)) in omega (arith, l.less, length-drop at s, length-drop e s)

-- THE LOOP

pub record Run (s : List ℕ) (from : ℕ) (mode : Mode) (count : ℕ) (map : Bool) (blank d : ℕ) (b : List ℕ) (pos at left p : ℕ) (first : Bool) (out : List ℕ) : Type 0 where
  pub prefix : Items → Items
  pub is : (xs : Items) (r : List ℕ) → elements (item d) (until_by mode left) (drop at s) ≡ ok xs r → elements (item d) (until_by mode count) (drop from s) ≡ ok (prefix xs) r
  pub text : List ℕ
  pub whole : (xs : Items) → text_of map blank true count (prefix xs) ≡ text ++ text_of map blank first left xs
  pub laid : Laid b out pos text p
  pub inside : at ≤ length s

pub run-start : {s : List ℕ} {from : ℕ} {mode : Mode} {count : ℕ} {map : Bool} {blank d : ℕ} {b : List ℕ} {pos : ℕ} → Within s from → pos ≤ length b → Run s from mode count map blank d b pos from count pos true b
run-start {b = b} {pos = pos} w h = record { prefix = λ xs. xs; is = λ xs r e. e; text = []; whole = λ xs. refl; laid = laid_none b pos h; inside = w.inside }

module _ {s : List ℕ} {from : ℕ} {mode : Mode} {count : ℕ} {map : Bool} {blank d : ℕ} {b : List ℕ} {pos at left p : ℕ} {first : Bool} {out : List ℕ} (inv : Run s from mode count map blank d b pos at left p first out) where
  pub run-within : Within s at
  run-within = record { inside = inv.inside }

  -- nothing is told
  pub run_full : AllTold s from (until_by mode count) d map blank count b out pos None
  run_full = record { same = inv.laid.same; kept = laid_kept inv.laid; told = tt }

  module _ {c q : ℕ} {o o₁ : List ℕ} (ec : c ≡ comma_of map left) (x : Laid out o p (separator_of first c blank) q) where
    pub run_stop : {part r : Option Written} → ItemTold s at d o o₁ q part → r ≡ None → AllTold s from (until_by mode count) d map blank count b o₁ pos r
    run_stop y e =
        rw e record {
          same = y.same ∙ x.same ∙ inv.laid.same;
          kept = take_less o o₁ pos q (omega (arith, inv.laid.next, x.next)) y.kept ∙ take_less out o pos p (omega (arith, inv.laid.next)) (laid_kept x) ∙ laid_kept inv.laid;
          told = tt;
        }

    module _ {part : Written} (y : ItemTold s at d o o₁ q (Some part)) where
      pub run_less : length s - part.end < length s - at
      run_less = let m = y.told in let l = item-ahead s at d part.end m.is m.inside in omega (arith, m.inside)

      pub run_on : {t : Bool} → Turned s at mode left t → not t ≡ true → {k : ℕ} → k ≡ left - 1 → Run s from mode count map blank d b pos part.end k part.pos false o₁
      unfolding text_of step_by
      run_on {t} tn e {k} ek =
          let m = y.told in
          let v = m.value in
          let sep = separator_of first (comma_of map left) blank in
          let st : step_at (until_by mode left) (drop at s) ≡ another (until_by mode k) = tn.is ∙ ap (λ (w : Bool). step_by w mode left s at) (not-true t e) ∙ ap (λ (j : ℕ). another (until_by mode j)) (sym ek) in
          let x' : Laid out o p sep q = ap_laid (ap (λ (j : ℕ). separator_of first j blank) ec) x in
          record {
            prefix = λ xs. inv.prefix (more v xs);
            is = λ xs r g. inv.is (more v xs) r (items_more d (until_by mode left) (until_by mode k) (drop at s) st m.is g);
            text = inv.text ++ (sep ++ print_item v);
            whole = λ xs.
                inv.whole (more v xs) ∙ ap (λ (j : ℕ). inv.text ++ (sep ++ (print_item v ++ text_of map blank false j xs))) (sym ek)
                ∙ ap (λ (z : List ℕ). inv.text ++ z) (sym (append_assoc sep (print_item v) (text_of map blank false k xs))) ∙ sym (append_assoc inv.text (sep ++ print_item v) (text_of map blank false k xs));
            laid = laid_more inv.laid (laid_more x' m.laid);
            inside = m.inside;
          }
        where
          ap_laid : {b b' : List ℕ} {pos r : ℕ} {ws vs : List ℕ} → ws ≡ vs → Laid b b' pos ws r → Laid b b' pos vs r
          ap_laid e x = laid_as x e

  pub run_end : {t : Bool} → Turned s at mode left t → not t ≡ false → length s * 1 < 2 ^ 63 → {e : ℕ} → e ≡ capped at (behind_by mode) → AllTold s from (until_by mode count) d map blank count b out pos (Some (record { end = e; pos = p }))
  unfolding text_of step_by
  run_end {t} tn n u {e} g =
      let y = not-false t n in
      let i = tn.inside y inv.inside in
      let z : e ≡ at + behind_by mode = omega (arith, g, i) in
      let st : step_at (until_by mode left) (drop at s) ≡ finished (drop e s) = tn.is ∙ ap (λ (w : Bool). step_by w mode left s at) y ∙ ap (λ (j : ℕ). finished (drop j s)) (sym z) in
      record {
        same = inv.laid.same;
        kept = laid_kept inv.laid;
        told = record {
          values = inv.prefix none;
          is = inv.is none (drop e s) (items-over d (until_by mode left) (drop at s) st);
          inside = omega (arith, i);
          laid = laid_as inv.laid (sym (inv.whole none ∙ append-nil inv.text));
        };
      }

-- LEAVES, AND OTHERS

pub leaf-told : {s : List ℕ} {at d : ℕ} {b b₁ : List ℕ} {pos : ℕ} {w : Written} → LeafTold s at b b₁ pos (Some w) → ItemTold s at d b b₁ pos (Some w)
leaf-told {d = d} x = let l = x.told in record { same = x.same; kept = x.kept; told = record { value = l.value; is = l.is d; inside = l.inside; laid = l.laid } }

pub other-told : {s : List ℕ} {at d : ℕ} {b b₁ b₂ : List ℕ} {pos : ℕ} {w r : Option Written} → LeafTold s at b b₁ pos w → ItemTold s at d b₁ b₂ pos r → ItemTold s at d b b₂ pos r
other-told {r = r} x y =
    record {
      same = y.same ∙ x.same;
      kept = y.kept ∙ x.kept;
      told = IfSome_then r y.told (λ v m. record { value = m.value; is = m.is; inside = m.inside; laid = laid-after x.same x.kept m.laid });
    }

module _ {s : List ℕ} {at : ℕ} {t : Bool} (h : HasBlock s at t) (e : not t ≡ false) {b : List ℕ} {pos : ℕ} (l : pos + 80 ≤ length b) where
  pub leaf_room : Room s at b pos
  leaf_room = record { block = h.is (not-false t e); space = l }

pub block_inside : {s : List ℕ} {at : ℕ} {t : Bool} → HasBlock s at t → not t ≡ false → at < length s
block_inside {t = t} h e = omega (arith, h.is (not-false t e))

module _ {b : List ℕ} {pos : ℕ} {t : Bool} (h : HasSpace b pos t) (e : not t ≡ false) where
  pub two_more : pos + 2 ≤ length b
  two_more = omega (arith, h.is (not-false t e))

  pub leaf-more : {b₁ ws : List ℕ} {r : ℕ} → Laid b b₁ pos ws r → r ≤ pos + 2 → r + 80 ≤ length b₁
  leaf-more x l = omega (arith, h.is (not-false t e), x.same)

pub at-within : {s : List ℕ} {at : ℕ} → at < length s → Within s at
at-within h = record { inside = omega arith }

pub head-room : {s : List ℕ} {at e : ℕ} {r : Option ℕ} → HeadEnd s at r → r ≡ Some e → HeadRoom s at
head-room {e = e} x n = (x.ends e n).room

pub headed_by : {s : List ℕ} {at e n m : ℕ} {r : Option ℕ} → HeadEnd s at r → r ≡ Some e → n ≡ argument_at s at → get_or s at 0 / 32 ≡ m → PrintHeaded s at (record { major = m; info = get_or s at 0 % 32; argument = n; end = e })
unfolding head_told
headed_by {s} {at} {e} {n} {m} x z i k =
    let h : HeadAt = record { major = m; info = get_or s at 0 % 32; argument = n; end = e } in
    headed s at {x = Ok h} ((λ j. head_told (Ok (record { major = sym k j; info = get_or s at 0 % 32; argument = i j; end = e }))) ∙ (x.ends e z).found) refl

-- WHAT HAS PARTS

-- several, as the definitions print them
plain_rest : (c n : ℕ) (xs : Items) → text_of false c false n xs ≡ print_rest (0x2c ∷ c ∷ []) xs
unfolding text_of separator_of comma_of print_rest
plain_rest c n none = refl
plain_rest c n (more x xs) = ap (λ (t : List ℕ). 0x2c ∷ c ∷ (print_item x ++ t)) (plain_rest c (n - 1) xs)

plain_all : (c n : ℕ) (xs : Items) → text_of false c true n xs ≡ print_all (0x2c ∷ c ∷ []) xs
unfolding text_of separator_of print_all
plain_all c n none = refl
plain_all c n (more x xs) = ap (λ (t : List ℕ). print_item x ++ t) (plain_rest c (n - 1) xs)

-- the first of those that are counted, and the others
record Next (d n : ℕ) (s : List ℕ) (xs : Items) (r : List ℕ) : Type 0 where
  value : Item
  left : List ℕ
  others : Items
  one : item d s ≡ ok value left
  on : elements (item d) (counted n) left ≡ ok others r
  is : more value others ≡ xs

next : (d n : ℕ) (s : List ℕ) (xs : Items) (r : List ℕ) → elements (item d) (counted (suc n)) s ≡ ok xs r → Next d n s xs r
unfolding several_by step_at
next d n s xs r e =
    let p = bind_ok (item d s) _ (sym (items_eq d (counted (suc n)) s) ∙ e) in
    let q = bind_ok (elements (item d) (counted n) p.rest) _ p.second in
    let o : q.rest ≡ r = cc q.second in
    record { value = p.value; left = p.rest; others = q.value; one = p.first; on = ok-rest q.first o; is = cc q.second }

record Last (s : List ℕ) (xs : Items) (r : List ℕ) : Type 0 where
  is : none ≡ xs
  rest : s ≡ r

last : (d : ℕ) (s : List ℕ) (xs : Items) (r : List ℕ) → elements (item d) (counted 0) s ≡ ok xs r → Last s xs r
unfolding several_by step_at
last d s xs r e = let g : ok none s ≡ ok xs r = sym (items_eq d (counted 0) s) ∙ e in record { is = cc (g); rest = cc (g) }

-- as many as were counted
counted-items : (d n : ℕ) (s : List ℕ) (xs : Items) (r : List ℕ) → elements (item d) (counted n) s ≡ ok xs r → count xs ≡ n
unfolding count
counted-items d zero s xs r e = sym (ap count (last d s xs r e).is)
counted-items d (suc n) s xs r e = let p = next d n s xs r e in sym (ap count p.is) ∙ ap suc (counted-items d n p.left p.others r p.on)

size-items : (d n : ℕ) (z : Size) (s : List ℕ) (xs : Items) (r : List ℕ) → elements (item d) (extent z n) s ≡ ok xs r → size_of z (count xs) ≡ size_of z n
unfolding extent size_of
size-items d n (definite w) s xs r e = ap (size_of (definite w)) (counted-items d n s xs r e)
size-items d n indefinite s xs r e = refl

size-definite : (i : ℕ) → (i ≡ 31 → ⊥) → size_by i ≡ definite (width_by i)
unfolding size_by
size-definite i o = rw (ne_eqb i 31 o, size_by)

module _ (s : List ℕ) (at info n end d : ℕ) where
  array-item : PrintHeaded s at (record { major = 4; info = info; argument = n; end = end }) → {xs : Items} {r : List ℕ} → elements (item d) (extent (size_by info) n) (drop end s) ≡ ok xs r
      → item (suc d) (drop at s) ≡ ok (array (size_by info) xs) r
  unfolding major_of item_by bind
  array-item hd e = by-head (suc d) (drop at s) _ _ hd.is ∙ rw (e, bind)

  map-item : PrintHeaded s at (record { major = 5; info = info; argument = n; end = end }) → {ps : Pairs} {r : List ℕ} → entries (item d) (extent (size_by info) n) (drop end s) ≡ ok ps r
      → item (suc d) (drop at s) ≡ ok (map (size_by info) ps) r
  unfolding major_of item_by bind
  map-item hd e = by-head (suc d) (drop at s) _ _ hd.is ∙ rw (e, bind)

  tag-item : PrintHeaded s at (record { major = 6; info = info; argument = n; end = end }) → (info ≡ 31 → ⊥) → {x : Item} {r : List ℕ} → item d (drop end s) ≡ ok x r → may_tag n x ≡ true
      → item (suc d) (drop at s) ≡ ok (tag (width_by info) n x) r
  unfolding major_of item_by bind tagged
  tag-item hd o e t =
      by-head (suc d) (drop at s) _ _ hd.is ∙ ap (λ (z : Size). item_by (enter_at (suc d)) tags z n (length (drop at s)) (drop end s)) (size-definite info o)
      ∙ rw (e, bind) (rw (t, tagged))

-- keys and values in turn
record Paired (d n : ℕ) (s : List ℕ) (xs : Items) (r : List ℕ) : Type 0 where
  pairs : Pairs
  is : entries (item d) (counted n) s ≡ ok pairs r
  all : text_of true 0x20 true (n * 2) xs ≡ print_all₂ pairs
  rest : text_of true 0x20 false (n * 2) xs ≡ print_rest₂ pairs
  size : count₂ pairs ≡ n

entries_eq : (d : ℕ) (u : Until) (s : List ℕ) → entries (item d) u s ≡ several_by none₂ pair (entry_at (item d)) (entries (item d)) (step_at u s) s
unfolding entries
entries_eq d u s = several_eq none₂ pair (entry_at (item d)) entry_contents (entry_leaves (item d) (item-leaves d)) u s

entries-more : (d n : ℕ) (s : List ℕ) {k x : Item} {ps : Pairs} {t t' r : List ℕ} → item d s ≡ ok k t → item d t ≡ ok x t' → entries (item d) (counted n) t' ≡ ok ps r → entries (item d) (counted (suc n)) s ≡ ok (more₂ k x ps) r
unfolding several_by step_at entry_at bind
entries-more d n s e f g = entries_eq d (counted (suc n)) s ∙ rw (e, entry_at, bind) (rw (f, bind) (rw (g, bind)))

comma_even : (m : ℕ) → m % 2 ≡ 0 → comma_of true m ≡ 0x2c
unfolding comma_of
comma_even m h = let n : m % 2 ≡ 1 → ⊥ = omega arith in rw (ne_eqb (m % 2) 1 n, comma_of)

comma_odd : (m : ℕ) → m % 2 ≡ 1 → comma_of true m ≡ 0x3a
unfolding comma_of
comma_odd m h = rw (eq-eqb (m % 2) 1 h, comma_of)

paired_none : (d : ℕ) (s : List ℕ) → Paired d 0 s none s
unfolding several_by step_at text_of print_all₂ print_rest₂ count₂
paired_none d s = record { pairs = none₂; is = entries_eq d (counted 0) s; all = refl; rest = refl; size = refl }

module _ (d n : ℕ) (s : List ℕ) {k x : Item} {xs : Items} {t t' r : List ℕ} (e : item d s ≡ ok k t) (f : item d t ≡ ok x t') (p : Paired d n t' xs r) where
  turn : (first : Bool) → text_of true 0x20 first (suc n * 2) (more k (more x xs)) ≡ separator_of first 0x2c 0x20 ++ (print_item k ++ (ascii ": " ++ (print_item x ++ print_rest₂ p.pairs)))
  unfolding text_of separator_of
  turn first =
      let a = comma_even (suc n * 2) (omega arith) in
      let b = comma_odd (suc n * 2 - 1) (omega arith) in
      let z : suc n * 2 - 1 - 1 ≡ n * 2 = omega arith in
      λ j. separator_of first (a j) 0x20 ++ (print_item k ++ ((b j ∷ 0x20 ∷ []) ++ (print_item x ++ (ap (λ (m : ℕ). text_of true 0x20 false m xs) z ∙ p.rest) j)))

  paired-more : Paired d (suc n) s (more k (more x xs)) r
  unfolding print_all₂ print_rest₂ count₂ separator_of
  paired-more = record { pairs = more₂ k x p.pairs; is = entries-more d n s e f p.is; all = turn true; rest = turn false; size = ap suc p.size }

paired_as : (d n : ℕ) (s : List ℕ) (xs ys : Items) (r t : List ℕ) → xs ≡ ys → r ≡ t → Paired d n s xs r → Paired d n s ys t
paired_as d n s xs ys r t e f p = subst (λ (y : Items). Paired d n s y t) e (subst (λ (z : List ℕ). Paired d n s xs z) f p)

paired : (d n : ℕ) (s : List ℕ) (xs : Items) (r : List ℕ) → elements (item d) (counted (n * 2)) s ≡ ok xs r → Paired d n s xs r
paired d zero s xs r e = let p = last d s xs r e in paired_as d 0 s none xs s r p.is p.rest (paired_none d s)
paired d (suc n) s xs r e =
    let z : suc n * 2 ≡ suc (suc (n * 2)) = omega arith in
    let p = next d (suc (n * 2)) s xs r (ap (λ (k : ℕ). elements (item d) (counted k) s) (sym z) ∙ e) in
    let q = next d (n * 2) p.left p.others r p.on in
    let y : more p.value (more q.value q.others) ≡ xs = ap (more p.value) q.is ∙ p.is in
    paired_as d (suc n) s (more p.value (more q.value q.others)) xs r r y refl (paired-more d n s p.one q.one (paired d n q.left q.others r q.on))

-- one item
record Single (d : ℕ) (s : List ℕ) (xs : Items) (r : List ℕ) : Type 0 where
  value : Item
  is : item d s ≡ ok value r
  text : text_of false 0x20 true 1 xs ≡ print_item value

single : (d : ℕ) (s : List ℕ) (xs : Items) (r : List ℕ) → elements (item d) (counted 1) s ≡ ok xs r → Single d s xs r
unfolding text_of separator_of
single d s xs r e =
    let p = next d 0 s xs r e in
    let q = last d p.left p.others r p.on in
    record {
      value = p.value;
      is = ok-rest p.one q.rest;
      text =
          ap (text_of false 0x20 true 1) (sym p.is) ∙ ap (λ (ys : Items). print_item p.value ++ text_of false 0x20 false 0 ys) (sym q.is) ∙ append-nil (print_item p.value);
    }

-- an item whose text is ws
record Reads (s : List ℕ) (at e : ℕ) (t ws : List ℕ) : Type 0 where
  value : Item
  is : item e (drop at s) ≡ ok value t
  text : ws ≡ print_item value

-- a part between brackets
module _ {s : List ℕ} {from : ℕ} {u : Until} {d : ℕ} {m : Bool} {k : ℕ} {b b₁ b₂ b₃ : List ℕ} {pos q c : ℕ} {part r : Option Written} (front : List ℕ) (x : Laid b b₁ pos front q) (y : AllTold s from u d m 0x20 k b₁ b₂ q part) (z : Closed b₂ b₃ part c r) where
  shut : (at e : ℕ) → ((xs : Items) (t : List ℕ) → elements (item d) u (drop from s) ≡ ok xs t → Reads s at e t (front ++ (text_of m 0x20 true k xs ++ c ∷ []))) → ItemTold s at e b b₃ pos r
  shut at e g =
      record {
        same = z.same ∙ y.same ∙ x.same;
        kept = z.kept pos (IfSome_then part y.told (λ v a. omega (arith, a.laid.next, x.next))) ∙ take_less b₁ b₂ pos q (omega (arith, x.next)) y.kept ∙ laid_kept x;
        told = IfSome_then r z.told (λ v h.
            let a = MatchOption-at_some ⊤ (λ (w : Written). AllMade s from u d m 0x20 k b₁ b₂ q w) (record { end = v.end; pos = h.place }) h.is y.told in
            let w = g a.values (drop v.end s) a.is in
            record { value = w.value; is = w.is; inside = a.inside; laid = laid_as (laid_more x (laid_more a.laid h.laid)) w.text });
      }

module _ {s : List ℕ} {at info n end levels : ℕ} {b b₁ b₂ b₃ : List ℕ} {pos p : ℕ} {part r : Option Written} (l : 0 < levels) where
  pub array_told : PrintHeaded s at (record { major = 4; info = info; argument = n; end = end }) → Laid b b₁ pos (0x5b ∷ size_of (size_by info) n) p → {mode : Mode} → mode ≡ mode_by info
      → AllTold s end (until_by mode n) (levels - 1) false 0x20 n b₁ b₂ p part → Closed b₂ b₃ part 0x5d r → ItemTold s at levels b b₃ pos r
  unfolding print_item
  array_told hd x {mode} e z w =
      let k : suc (levels - 1) ≡ levels = omega arith in
      shut (0x5b ∷ size_of (size_by info) n) x z w at levels (λ xs t g.
      let g' : elements (item (levels - 1)) (extent (size_by info) n) (drop end s) ≡ ok xs t = ap (λ (u : Until). elements (item (levels - 1)) u (drop end s)) (sym (ap (λ (j : Mode). until_by j n) e ∙ until_is info n)) ∙ g in
      record {
        value = array (size_by info) xs;
        is = ap (λ (j : ℕ). item j (drop at s)) (sym k) ∙ array-item s at info n end (levels - 1) hd g';
        text = λ j. 0x5b ∷ (sym (size-items (levels - 1) n (size_by info) (drop end s) xs t g') j ++ (plain_all 0x20 n xs j ++ ascii "]"));
      })

  pub map-told : PrintHeaded s at (record { major = 5; info = info; argument = n; end = end }) → (info ≡ 31 → ⊥) → Laid b b₁ pos (0x7b ∷ size_of (size_by info) n) p
      → AllTold s end (until_by Counted (n * 2)) (levels - 1) true 0x20 (n * 2) b₁ b₂ p part → Closed b₂ b₃ part 0x7d r → ItemTold s at levels b b₃ pos r
  unfolding print_item until_by extent
  map-told hd o x z w =
      let k : suc (levels - 1) ≡ levels = omega arith in
      let ex : extent (size_by info) n ≡ counted n = ap (λ (u : Size). extent u n) (size-definite info o) in
      shut (0x7b ∷ size_of (size_by info) n) x z w at levels (λ xs t g.
      let pr = paired (levels - 1) n (drop end s) xs t g in
      record {
        value = map (size_by info) pr.pairs;
        is = ap (λ (j : ℕ). item j (drop at s)) (sym k) ∙ map-item s at info n end (levels - 1) hd (ap (λ (u : Until). entries (item (levels - 1)) u (drop end s)) ex ∙ pr.is);
        text = λ j. 0x7b ∷ (ap (size_of (size_by info)) (sym pr.size) j ++ (pr.all j ++ ascii "}"));
      })

  pub tag-told : PrintHeaded s at (record { major = 6; info = info; argument = n; end = end }) → (info ≡ 31 → ⊥) → {t : Bool} → MayTag s end n t → not t ≡ false → Laid b b₁ pos (tag_opening info n) p
      → AllTold s end (until_by Counted 1) (levels - 1) false 0x20 1 b₁ b₂ p part → Closed b₂ b₃ part 0x29 r → ItemTold s at levels b b₃ pos r
  unfolding print_item until_by tag_opening
  tag-told hd o may ty x z w =
      let k : suc (levels - 1) ≡ levels = omega arith in
      let ws = decimal_of n ++ indicator_of (width_by info) n in
      shut (ws ++ 0x28 ∷ []) x z w at levels (λ xs t g.
      let sg = single (levels - 1) (drop end s) xs t g in
      record {
        value = tag (width_by info) n sg.value;
        is = ap (λ (j : ℕ). item j (drop at s)) (sym k) ∙ tag-item s at info n end (levels - 1) hd o sg.is (may.is (not-false _ ty) (levels - 1) sg.value t sg.is);
        text = append_assoc ws (0x28 ∷ []) (text_of false 0x20 true 1 xs ++ 0x29 ∷ []) ∙ ap (λ (v : List ℕ). ws ++ (0x28 ∷ (v ++ ascii ")"))) sg.text;
      })

-- THE WHOLE

ended-rest : (d : ℕ) (f : ℕ) (s : List ℕ) (xs : Items) (r : List ℕ) → several_within none more (item d) f ended s ≡ ok xs r → [] ≡ r
unfolding several_within several_by step_at
ended-rest d zero s xs r e = absurd (refuse_not_ok e)
ended-rest d (suc f) [] xs r e = cc
ended-rest d (suc f) (b ∷ s) xs r e =
    let p = bind_ok (item d (b ∷ s)) _ e in
    let q = bind_ok (several_within none more (item d) f ended p.rest) _ p.second in
    let w : q.rest ≡ r = cc q.second in
    ended-rest d f p.rest q.value q.rest q.first ∙ w

text-whole : (d b : ℕ) (s : List ℕ) (xs : Items) (r : List ℕ) → elements (item d) ended (b ∷ s) ≡ ok xs r → text_of false 0x0a true 0 xs ++ (0x0a ∷ []) ≡ print_text xs
unfolding several_by step_at print_text count
text-whole d b s none r e =
    let p = bind_ok (item d (b ∷ s)) _ (sym (items_eq d ended (b ∷ s)) ∙ e) in
    let q = bind_ok (elements (item d) ended p.rest) _ p.second in
    let c : more p.value q.value ≡ none = cc q.second in
    let z : suc (count q.value) ≡ 0 = ap count c in
    absurd (omega arith)
text-whole d b s (more x xs) r e = ap (λ (t : List ℕ). t ++ (0x0a ∷ [])) (plain_all 0x0a 0 (more x xs))

pub pass_all : {s b b₁ b₂ : List ℕ} {all : Option Written} {r : Written} → (length s ≡ 0 → ⊥) → length s ≤ 65535 → AllTold s 0 (until_by Ended 0) 16 false 0x0a 0 b b₁ 0 all → Closed b₁ b₂ all 0x0a (Some r) → PassTold s b b₂ (Some r.pos)
unfolding until_by decode elements several
pass_all {s} {b} {b₁} {b₂} {all} {r} n l y z = record { same = z.same ∙ y.same; told = go s n l y.told }
  where
    h : Shut b₁ b₂ all 0x0a r
    h = z.told

    go : (s : List ℕ) → (length s ≡ 0 → ⊥) → length s ≤ 65535 → IfSome all (λ w. AllMade s 0 (until_by Ended 0) 16 false 0x0a 0 b b₁ 0 w) → AllPrinted s b b₂ r.pos
    go [] n l y = absurd (n refl)
    go (c ∷ s) n l y =
        let a = MatchOption-at_some ⊤ (λ (w : Written). AllMade (c ∷ s) 0 (until_by Ended 0) 16 false 0x0a 0 b b₁ 0 w) (record { end = r.end; pos = h.place }) h.is y in
        let e = ended-rest 16 (suc (length (c ∷ s))) (c ∷ s) a.values (drop r.end (c ∷ s)) a.is in
        record {
          values = a.values;
          is = rw (le-leb (length (c ∷ s)) 65535 l, decode) (a.is ∙ ap (ok a.values) (sym e));
          laid = laid_as (laid_more a.laid h.laid) (text-whole 16 c s a.values (drop r.end (c ∷ s)) a.is);
        }
