-- Printing an item: what its head says, and what stands behind it.
-- Assumes nothing.
use mathlib.Core.Path.{◌≡◌, refl, sym, ap, ◌∙◌}
use mathlib.Core.Bool.{Bool, true, false, not, ◌||◌}
use mathlib.Core.List.{List, [], ◌∷◌, ◌++◌, append_assoc}
use Prim.Native.Nat.{ℕ, zero, suc, ◌+◌, ◌-◌, ◌/◌, ◌%◌, ◌≤◌, ◌<◌}
use native.Mathlib.Omega.{arith}
use lib.Dec.{T, leb, eqb}
use lib.ListN.{length, take, drop, length-drop}
use lib.Seq.{drop-drop}
use borrow.Author.Tests.{ne_eqb, eqb-true, eqb-false, leb-true}
use Rattle.cbor.specs.Ascii.{ascii}
use Rattle.cbor.specs.Refusals.{Result, ok, refuse, bind, float}
use Rattle.cbor.specs.Widths.{Width, w0, w1, w2, w4, w8, argument_bytes, information, value_from}
use Rattle.cbor.specs.Items.{Sign, Kind, byte_string, text_string, Size, definite, indefinite, Chunk, Item, int, string, chunked, array, map, tag, simple, Items, none, more, Pairs, none₂, more₂, count, count₂}
use Rattle.cbor.specs.Heads.{Major, integers, strings, arrays, maps, tags, simples, major_number, major_of, Head, Information, argument, reserved, open_ended, information_of, is_float, is_allowed, is_indefinite, taking, started, argued, head_by, next_head}
use Rattle.cbor.specs.Decode.{content_at, extent, tagged, elements, entries, chunks_of, item_by, item}
use Rattle.cbor.specs.TypedArrays.{may_tag}
use Rattle.cbor.specs.Valid.{is_text}
use Rattle.head.specs.HeadAnswers.{head_found as told_head, head_told, size_information, head_from, head_at}
use Rattle.refusal.specs.declared.Refusal.{Refusal}
use Rattle.head.specs.declared.HeadAt.{HeadAt}
use Rattle.cbor.proofs.Results.{refuse_not_ok}
use Rattle.cbor.proofs.Table.{between}
use Rattle.cbor.proofs.Heads.{major-back, major-most, taking-yes}
use Rattle.cbor.proofs.DecodeEncode.{enter_at}
use Rattle.notation.specs.Printing.{print_string, print_chunks, print_chunked, print_item, print_all, print_rest, print_all₂, print_rest₂}
use Rattle.walk_answer.specs.WalkAnswers.{below, Within}
use Rattle.text_output.specs.PrintParts.{width_by, size_by}
use Rattle.printer.specs.PrintAnswers.{entry_text, chunk_text, separator_of, joined, chunked_text, PrintHeaded}
use Rattle.leaf_printer.proofs.PrintHeads.{width_low}
use Rattle.printer.proofs.PrintSeveral.{bind_ok}
use Rattle.std.specs.Prelude.{Ok, Err}
use Rattle.std.specs.Prelude as std

-- THE HEAD

-- additional information that is an argument itself is at most 23
is_narrow : Information → Bool
is_narrow (argument w0) = true
is_narrow (argument w1) = false
is_narrow (argument w2) = false
is_narrow (argument w4) = false
is_narrow (argument w8) = false
is_narrow reserved = false
is_narrow open_ended = false

narrow : (i : ℕ) → i < 32 → information_of i ≡ argument w0 → i ≤ 23
unfolding is_narrow information_of
narrow i h e = go (leb i 23) refl (between (λ k. not (is_narrow (information_of k)) || leb k 23) 0 32 tt i (omega arith) h)
  where
    go : (t : Bool) → leb i 23 ≡ t → T (not (is_narrow (information_of i)) || t) → i ≤ 23
    go true f k = leb-true i 23 f
    go false f k = absurd (rw e at k)

pub record Taken (n : ℕ) (s x r : List ℕ) : Type 0 where
  pub fits : n ≤ length s
  pub content : take n s ≡ x
  pub rest : drop n s ≡ r

pub taking-ok : (n left : ℕ) (s : List ℕ) {x r : List ℕ} → taking n left s ≡ ok x r → Taken n s x r
unfolding taking
taking-ok n left s {x} {r} e = go (leb n (length s)) refl e
  where
    go : (t : Bool) → leb n (length s) ≡ t → elim t [ true ↦ ok (take n s) (drop n s) | false ↦ refuse 15 left ] ≡ ok x r → Taken n s x r
    go true f k = record { fits = leb-true n (length s) f; content = cc; rest = cc }
    go false f k = absurd (refuse_not_ok k)

-- what is left behind a head, and that its size is as its additional information says
record Behind (s : List ℕ) (h : Head) (r : List ℕ) : Type 0 where
  size : ℕ
  less : suc size ≤ length s
  drops : drop (suc size) s ≡ r
  back : size_by (size_information h.size h.argument) ≡ h.size

argument-back : (w : Width) (i : ℕ) (s x : List ℕ) → (w ≡ w0 → i ≤ 23) → take (argument_bytes w) s ≡ x → size_by (information w (value_from (started w i) x)) ≡ definite w
unfolding size_by information argument_bytes started value_from width_by
argument-back w0 i s x h e =
    let l = h refl in
    let a : i ≡ 31 → ⊥ = omega arith in
    let v : value_from i x ≡ i = ap (value_from i) (sym e) in
    let z : size_by i ≡ definite (width_by i) = rw (ne_eqb i 31 a, size_by) in
    ap size_by v ∙ z ∙ ap definite (width_low i l)
argument-back w1 i s x h e = refl
argument-back w2 i s x h e = refl
argument-back w4 i s x h e = refl
argument-back w8 i s x h e = refl

module _ (b left : ℕ) (s : List ℕ) (m : Major) (hd : Head) (r : List ℕ) where
  behind-argument : (w : Width) → information_of (b % 32) ≡ argument w → (res : Result (List ℕ)) → taking (argument_bytes w) left s ≡ res
      → bind res (λ x t. argued m w (value_from (started w (b % 32)) x) left t) ≡ ok hd r → Behind (b ∷ s) hd r
  unfolding bind argued size_information
  behind-argument w i (refuse n k) g e = absurd (refuse_not_ok e)
  behind-argument w i (ok x t) g e = go (is_allowed m w (value_from (started w (b % 32)) x)) e
    where
      go : (v : Bool) → elim v [ true ↦ ok (record { major = m; size = definite w; argument = value_from (started w (b % 32)) x }) t | false ↦ refuse 16 left ] ≡ ok hd r → Behind (b ∷ s) hd r
      go false k = absurd (refuse_not_ok k)
      go true k =
          let q = taking-ok (argument_bytes w) left s g in
          let p : t ≡ r = cc (k) in
          let y : record { major = m; size = definite w; argument = value_from (started w (b % 32)) x } ≡ hd = cc (k) in
          let u : w ≡ w0 → b % 32 ≤ 23 = λ f. narrow (b % 32) (omega arith) (i ∙ ap argument f) in
          record {
            size = argument_bytes w;
            less = omega (arith, q.fits);
            drops = q.rest ∙ p;
            back = ap (λ (z : Head). size_by (size_information z.size z.argument)) (sym y) ∙ argument-back w (b % 32) s x u q.content ∙ ap (λ (z : Head). z.size) y;
          }

  behind-by : (x : Information) → information_of (b % 32) ≡ x → head_by m x (b % 32) left s ≡ ok hd r → Behind (b ∷ s) hd r
  unfolding head_by size_information size_by
  behind-by (argument w) i e = go (is_float m w) e
    where
      go : (v : Bool) → elim v [ true ↦ refuse float left | false ↦ bind (taking (argument_bytes w) left s) (λ x t. argued m w (value_from (started w (b % 32)) x) left t) ] ≡ ok hd r → Behind (b ∷ s) hd r
      go true k = absurd (refuse_not_ok k)
      go false k = behind-argument w i (taking (argument_bytes w) left s) refl k
  behind-by reserved i e = absurd (refuse_not_ok e)
  behind-by open_ended i e = go (is_indefinite m) e
    where
      go : (v : Bool) → elim v [ true ↦ ok (record { major = m; size = indefinite; argument = 0 }) s | false ↦ refuse 16 left ] ≡ ok hd r → Behind (b ∷ s) hd r
      go true k =
          let p : s ≡ r = cc (k) in
          let y : record { major = m; size = indefinite; argument = 0 } ≡ hd = cc (k) in
          record { size = 0; less = omega arith; drops = p; back = ap (λ (z : Head). size_by (size_information z.size z.argument)) (sym y) ∙ ap (λ (z : Head). z.size) y }
      go false k = absurd (refuse_not_ok k)

behind-head : (s : List ℕ) (hd : Head) (r : List ℕ) → next_head s ≡ ok hd r → Behind s hd r
unfolding next_head
behind-head [] hd r e = absurd (refuse_not_ok e)
behind-head (b ∷ s) hd r e = behind-by b (suc (length s)) s (major_of (b / 32)) hd r (information_of (b % 32)) refl e

module _ {s : List ℕ} {at : ℕ} where
  headed_by : (h : HeadAt) (res : Result Head) → next_head (drop at s) ≡ res → told_head h.major h.info h.argument h.end ≡ head_from (length s) res → PrintHeaded s at h
  unfolding head_from
  headed_by h (refuse n l) e f = let z : ◌≡◌ {A = ℕ} 0 1 = cc in absurd (omega arith)
  headed_by h (ok hd r) e f =
      let m : h.major ≡ major_number hd.major = cc in
      let i : h.info ≡ size_information hd.size hd.argument = cc in
      let a : hd.argument ≡ h.argument = cc in
      let z : h.end ≡ length s - length r = cc in
      let q = behind-head (drop at s) hd r e in
      let l = length-drop at s in
      let k : length r ≡ length (drop at s) - suc q.size = sym (ap length q.drops) ∙ length-drop (suc q.size) (drop at s) in
      let n : h.end ≡ at + suc q.size = omega (arith, q.less) in
      let d : r ≡ drop h.end s = sym q.drops ∙ drop-drop (suc q.size) at s ∙ ap (λ (j : ℕ). drop j s) (sym n) in
      let x : hd.major ≡ major_of h.major = sym (ap major_of m ∙ major-back hd.major) in
      let y : hd.size ≡ size_by h.info = sym (ap size_by i ∙ q.back) in
      record {
        is = e ∙ (λ j. ok (record { major = x j; size = y j; argument = a j }) (d j));
        ahead = omega arith;
        inside = omega (arith, q.less);
        most = omega (arith, major-most hd.major);
      }

module _ (s : List ℕ) (at : ℕ) {x : std.Result HeadAt Refusal} (f : head_told x ≡ head_at s at) where
  pub headed : {h : HeadAt} → x ≡ Ok h → PrintHeaded s at h
  unfolding head_told head_at
  headed {h} e = headed_by h (next_head (drop at s)) refl (ap head_told (sym e) ∙ f)

  pub headed_within : {h : HeadAt} → x ≡ Ok h → Within s h.end
  headed_within {h} e = record { inside = (headed e).inside }

  -- no head
  pub lost : {k : Refusal} → x ≡ Err k → {hd : Head} {r : List ℕ} → next_head (drop at s) ≡ ok hd r → ⊥
  unfolding head_told head_at head_from
  lost e g =
      let n = sym (ap head_told (sym e) ∙ f) in
      let u = sym (ap (head_from (length s)) g) ∙ n in
      let z : ◌≡◌ {A = ℕ} 0 1 = cc in
      omega arith

-- WHAT AN ITEM COMES FROM, BY ITS HEAD

pub by_size : (P : Size → Type 0) (i : ℕ) → (i ≡ 31 → P indefinite) → ((i ≡ 31 → ⊥) → P (definite (width_by i))) → P (size_by i)
unfolding size_by
by_size P i a b = go (eqb i 31) refl
  where
    go : (t : Bool) → eqb i 31 ≡ t → P (elim t [ true ↦ indefinite | false ↦ definite (width_by i) ])
    go true e = a (eqb-true i 31 e)
    go false e = b (eqb-false i 31 e)

pub record Leaf (y x : Item) (r₀ r : List ℕ) : Type 0 where
  pub is : x ≡ y
  pub rest : r₀ ≡ r

pub record Inner {A : Type 0} (make : A → Item) (res : Result A) (x : Item) (r : List ℕ) : Type 0 where
  pub inner : A
  pub read : res ≡ ok inner r
  pub is : x ≡ make inner

-- what was read is made an item
pub made : {A : Type 0} (make : A → Item) (res : Result A) {x : Item} {r : List ℕ} → bind res (λ y t. ok (make y) t) ≡ ok x r → Inner make res x r
unfolding bind
made make (ok y t) {x} {r} e =
    let p : t ≡ r = cc in
    let q : x ≡ make y = cc in
    record { inner = y; read = ap (ok y) p; is = q }
made make (refuse n l) e = absurd (refuse_not_ok e)

pub content-ok : (k : Kind) (n left : ℕ) (s : List ℕ) {x r : List ℕ} → content_at k n left s ≡ ok x r → taking n 0 s ≡ ok x r
unfolding content_at
content-ok k n left s {x} {r} e =
    let m = bind_ok (taking n left s) _ e in
    let q = taking-ok n left s m.first in
    taking-yes n 0 s q.fits ∙ (λ j. ok (q.content j) (q.rest j)) ∙ go m.value m.rest (is_text k m.value) m.second
  where
    go : (y t : List ℕ) (v : Bool) → elim v [ true ↦ ok y t | false ↦ refuse 2 left ] ≡ ok x r → ok y t ≡ ok x r
    go y t true h = h
    go y t false h = absurd (refuse_not_ok h)

module _ (d i n left : ℕ) (r₀ : List ℕ) {x : Item} {r : List ℕ} where
  pub int_of : (g : Sign) → item_by (enter_at d) (integers g) (size_by i) n left r₀ ≡ ok x r → Leaf (int g (width_by i) n) x r₀ r
  unfolding item_by
  int_of g = by_size (λ z. item_by (enter_at d) (integers g) z n left r₀ ≡ ok x r → Leaf (int g (width_by i) n) x r₀ r) i (λ o e. absurd (refuse_not_ok e)) (λ o e. record { is = cc; rest = cc })

  pub simple_of : item_by (enter_at d) simples (size_by i) n left r₀ ≡ ok x r → Leaf (simple n) x r₀ r
  unfolding item_by
  simple_of = by_size (λ z. item_by (enter_at d) simples z n left r₀ ≡ ok x r → Leaf (simple n) x r₀ r) i (λ o e. absurd (refuse_not_ok e)) (λ o e. record { is = cc; rest = cc })

  pub string_of : (k : Kind) → (i ≡ 31 → ⊥) → item_by (enter_at d) (strings k) (size_by i) n left r₀ ≡ ok x r → Inner (string k (width_by i)) (taking n 0 r₀) x r
  unfolding item_by
  string_of k a =
      by_size (λ z. item_by (enter_at d) (strings k) z n left r₀ ≡ ok x r → Inner (string k (width_by i)) (taking n 0 r₀) x r) i (λ o e. absurd (a o))
      (λ o e. let m = made (string k (width_by i)) (content_at k n left r₀) e in record { inner = m.inner; read = content-ok k n left r₀ m.read; is = m.is })

  pub chunked_of : (k : Kind) → i ≡ 31 → item_by (enter_at d) (strings k) (size_by i) n left r₀ ≡ ok x r → Inner (chunked k) (chunks_of k r₀) x r
  unfolding item_by
  chunked_of k a =
      by_size (λ z. item_by (enter_at d) (strings k) z n left r₀ ≡ ok x r → Inner (chunked k) (chunks_of k r₀) x r) i (λ o e. made (chunked k) (chunks_of k r₀) e) (λ o e. absurd (o a))

pub array_of : (d : ℕ) (z : Size) (n left : ℕ) (r₀ : List ℕ) {x : Item} {r : List ℕ} → item_by (enter_at d) arrays z n left r₀ ≡ ok x r → Inner (array z) (elements (below d) (extent z n) r₀) x r
unfolding item_by below
array_of zero z n left r₀ e = absurd (refuse_not_ok e)
array_of (suc d) z n left r₀ e = made (array z) (elements (item d) (extent z n) r₀) e

pub map_of : (d : ℕ) (z : Size) (n left : ℕ) (r₀ : List ℕ) {x : Item} {r : List ℕ} → item_by (enter_at d) maps z n left r₀ ≡ ok x r → Inner (map z) (entries (below d) (extent z n) r₀) x r
unfolding item_by below
map_of zero z n left r₀ e = absurd (refuse_not_ok e)
map_of (suc d) z n left r₀ e = made (map z) (entries (item d) (extent z n) r₀) e

tag-by : (w : Width) (n left : ℕ) (res : Result Item) {x : Item} {r : List ℕ} → bind res (tagged w n left) ≡ ok x r → Inner (tag w n) res x r
unfolding bind tagged
tag-by w n left (refuse m l) e = absurd (refuse_not_ok e)
tag-by w n left (ok y t) {x} {r} e = go (may_tag n y) e
  where
    go : (v : Bool) → elim v [ true ↦ ok (tag w n y) t | false ↦ refuse 13 left ] ≡ ok x r → Inner (tag w n) (ok y t) x r
    go true h =
        let p : t ≡ r = cc (h) in
        let q : x ≡ tag w n y = cc (h) in
        record { inner = y; read = ap (ok y) p; is = q }
    go false h = absurd (refuse_not_ok h)

pub tag_of : (d i n left : ℕ) (r₀ : List ℕ) {x : Item} {r : List ℕ} → item_by (enter_at d) tags (size_by i) n left r₀ ≡ ok x r → Inner (tag (width_by i) n) (below d r₀) x r
unfolding item_by below
tag_of zero i n left r₀ {x} {r} =
    by_size (λ z. item_by (enter_at zero) tags z n left r₀ ≡ ok x r → Inner (tag (width_by i) n) (below zero r₀) x r) i (λ o e. absurd (refuse_not_ok e)) (λ o e. absurd (refuse_not_ok e))
tag_of (suc d) i n left r₀ {x} {r} =
    by_size (λ z. item_by (enter_at (suc d)) tags z n left r₀ ≡ ok x r → Inner (tag (width_by i) n) (item d r₀) x r) i (λ o e. absurd (refuse_not_ok e)) (λ o e. tag-by (width_by i) n left (item d r₀) e)

-- MANY, AS TEXTS

unfoldable pub item_texts : Items → List (List ℕ)
item_texts none = []
item_texts (more x xs) = print_item x ∷ item_texts xs

unfoldable pub pair_texts : Pairs → List (List ℕ)
pair_texts none₂ = []
pair_texts (more₂ k x ps) = entry_text (record { key = k; value = x }) ∷ pair_texts ps

unfoldable pub chunk_texts : Kind → List Chunk → List (List ℕ)
chunk_texts k [] = []
chunk_texts k (c ∷ cs) = chunk_text k c ∷ chunk_texts k cs

rest-joined : (c : ℕ) (xs : Items) → print_rest (0x2c ∷ c ∷ []) xs ≡ joined c false (item_texts xs)
unfolding print_rest joined separator_of item_texts
rest-joined c none = refl
rest-joined c (more x xs) = ap (λ (t : List ℕ). 0x2c ∷ c ∷ (print_item x ++ t)) (rest-joined c xs)

pub all-joined : (c : ℕ) (xs : Items) → print_all (0x2c ∷ c ∷ []) xs ≡ joined c true (item_texts xs)
unfolding print_all joined separator_of item_texts
all-joined c none = refl
all-joined c (more x xs) = ap (λ (t : List ℕ). print_item x ++ t) (rest-joined c xs)

entry_joined : (k x : Item) (t u : List ℕ) → t ≡ u → print_item k ++ (ascii ": " ++ (print_item x ++ t)) ≡ entry_text (record { key = k; value = x }) ++ u
unfolding entry_text
entry_joined k x t u e = simp append_assoc (rw e)

rest_joined₂ : (ps : Pairs) → print_rest₂ ps ≡ joined 0x20 false (pair_texts ps)
unfolding print_rest₂ joined separator_of pair_texts
rest_joined₂ none₂ = refl
rest_joined₂ (more₂ k x ps) = ap (λ (t : List ℕ). 0x2c ∷ 0x20 ∷ t) (entry_joined k x _ _ (rest_joined₂ ps))

pub all_joined₂ : (ps : Pairs) → print_all₂ ps ≡ joined 0x20 true (pair_texts ps)
unfolding print_all₂ joined separator_of pair_texts
all_joined₂ none₂ = refl
all_joined₂ (more₂ k x ps) = entry_joined k x _ _ (rest_joined₂ ps)

chunks-joined : (k : Kind) (cs : List Chunk) → print_chunks k cs ≡ joined 0x20 false (chunk_texts k cs)
unfolding print_chunks joined separator_of chunk_texts chunk_text
chunks-joined k [] = refl
chunks-joined k (c ∷ cs) = ap (λ (t : List ℕ). 0x2c ∷ 0x20 ∷ (print_string k c.width c.content ++ t)) (chunks-joined k cs)

chunked-some : (k : Kind) (c : Chunk) (cs : List Chunk) → ascii "(_ " ++ (print_string k c.width c.content ++ (print_chunks k cs ++ ascii ")")) ≡ chunked_text k (chunk_texts k (c ∷ cs))
unfolding chunked_text chunk_texts joined separator_of chunk_text
chunked-some k c cs =
    ap (λ (t : List ℕ). ascii "(_ " ++ (print_string k c.width c.content ++ (t ++ ascii ")"))) (chunks-joined k cs)
    ∙ ap (λ (t : List ℕ). ascii "(_ " ++ t) (sym (append_assoc (print_string k c.width c.content) (joined 0x20 false (chunk_texts k cs)) (ascii ")")))

pub chunked-joined : (k : Kind) (cs : List Chunk) → print_chunked k cs ≡ chunked_text k (chunk_texts k cs)
unfolding print_chunked chunked_text chunk_texts
chunked-joined k [] = refl
chunked-joined byte_string (c ∷ cs) = chunked-some byte_string c cs
chunked-joined text_string (c ∷ cs) = chunked-some text_string c cs

pub count_texts : (xs : Items) → count xs ≡ length (item_texts xs)
unfolding count item_texts
count_texts none = refl
count_texts (more x xs) = ap suc (count_texts xs)

pub count_texts₂ : (ps : Pairs) → count₂ ps ≡ length (pair_texts ps)
unfolding count₂ pair_texts
count_texts₂ none₂ = refl
count_texts₂ (more₂ k x ps) = ap suc (count_texts₂ ps)
