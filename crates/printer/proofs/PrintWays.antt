-- Printing an item: each way to a return.
-- Assumes nothing.
use mathlib.Core.Path.{◌≡◌, refl, sym, ap, ◌∙◌}
use mathlib.Core.Bool.{Bool, true, false}
use mathlib.Core.List.{List, [], ◌∷◌, ◌++◌, append_assoc}
use Prim.Native.Nat.{ℕ, zero, suc, ◌+◌, ◌-◌, ◌*◌, ◌/◌, ◌^◌, ◌≤◌, ◌<◌}
use native.Mathlib.Omega.{arith}
use lib.Dec.{eqb}
use lib.ListN.{length, take, drop, length-drop}
use lib.Seq.{drop-drop}
use borrow.Author.Tests.{ne_eqb}
use Rattle.cbor.specs.Ascii.{ascii}
use Rattle.cbor.specs.Refusals.{Result, ok, refuse, bind}
use Rattle.cbor.specs.Items.{unsigned, Kind, Size, definite, indefinite, Chunk, Item, array, map, Items, none, more, Pairs, none₂, count, count₂}
use Rattle.cbor.specs.Heads.{Major, integers, strings, arrays, maps, tags, simples, major_number, major_of, Head, taking, next_head}
use Rattle.cbor.specs.Decode.{Until, broken, several, content_at, chunk_by, chunk_at, entry_at, extent, elements, pair, entries, chunks_of, item_by, item_with, item}
use Rattle.head.specs.HeadAnswers.{head_told, head_at}
use Rattle.refusal.specs.declared.Refusal.{Refusal}
use Rattle.head.specs.declared.HeadAt.{HeadAt}
use Rattle.cbor.proofs.Results.{refuse_not_ok}
use Rattle.cbor.proofs.DecodeEncode.{enter_at, by-head}
use Rattle.notation.specs.Printing.{size_of, print_int, print_string, print_chunked, print_item, print_simple}
use Rattle.memory.specs.Sums.{capped}
use Rattle.walk_answer.specs.WalkAnswers.{map_result as mapped, below, Within, until_by, mode_by, behind_by, step_by, Turned}
use Rattle.cbor.specs.Flags.{kind_of, sign_of}
use Rattle.text_output.specs.PrintParts.{Prints, width_by, size_by}
use Rattle.printer.specs.PrintAnswers.{entry_text, chunk_text, print_one_of, print_all_of, joined, opening_by, closing_by, container_text, chunked_text, tag_text, PrintTold, PrintHeaded}
use Rattle.printer.specs.declared.Printed.{Printed}
use Rattle.text_output.proofs.PrintLeaves.{prints-more, prints_as}
use Rattle.printer.proofs.PrintSeveral.{bind_ok, ok-rest, mapped_ok, mapped_is, several_as, counted-all, last, next, told_via, told_none}
use Rattle.printer.proofs.PrintCycle.{taking-ok, lost, headed, by_size, content-ok, int_of, simple_of, string_of, chunked_of, array_of, map_of, tag_of, item_texts, pair_texts, chunk_texts, all-joined, all_joined₂, chunked-joined, count_texts, count_texts₂}
use Rattle.std.specs.Prelude.{Ok, Err}
use Rattle.std.specs.Prelude as std
use Rattle.walk_answer.specs.declared.Mode.{Mode}
use Rattle.walk_answer.specs.declared.Mode.TheVariants.{Counted, Broken}

-- STRINGS

module _ {s : List ℕ} {from : ℕ} (w : Within s from) (n i : ℕ) (t : Bool) {b : List ℕ} {pos : ℕ} where
  pub string-short : length s - from < n → {p : Printed} → PrintTold s from b b pos p (mapped (print_string (kind_of t) (width_by i)) (taking n 0 (drop from s)))
  string-short h =
      told_none refl (λ ws r e.
      let m = mapped_ok (print_string (kind_of t) (width_by i)) (taking n 0 (drop from s)) e in
      let q = taking-ok n 0 (drop from s) m.is in
      omega (arith, q.fits, length-drop from s))

  pub string-all : {b₁ : List ℕ} {p : ℕ} → n ≤ length s - from → Prints b b₁ pos (print_string (kind_of t) (width_by i) (take (from + n - from) (drop from s))) p
      → PrintTold s from b b₁ pos (record { end = from + n; pos = p }) (mapped (print_string (kind_of t) (width_by i)) (taking n 0 (drop from s)))
  string-all h f =
      record {
        same = f.same;
        done = λ ws r e.
            let m = mapped_ok (print_string (kind_of t) (width_by i)) (taking n 0 (drop from s)) e in
            let q = taking-ok n 0 (drop from s) m.is in
            let k : from + n - from ≡ n = omega arith in
            record {
              ahead = omega arith;
              inside = omega (arith, w.inside);
              drops = sym (drop-drop n from s) ∙ q.rest;
              prints = prints_as (ap (λ (j : ℕ). print_string (kind_of t) (width_by i) (take j (drop from s))) k ∙ ap (print_string (kind_of t) (width_by i)) q.content ∙ sym m.same) f;
            };
      }

pub ruleset string_ways = (string-short, string-all)

-- a chunk is its head and its content
chunk_by_lem : (t : Bool) (i n left : ℕ) (r₀ : List ℕ) {c : Chunk} {r : List ℕ} → chunk_by (kind_of t) (size_by i) n left r₀ ≡ ok c r
    → mapped (print_string (kind_of t) (width_by i)) (taking n 0 r₀) ≡ ok (chunk_text (kind_of t) c) r
unfolding chunk_by chunk_text
chunk_by_lem t i n left r₀ {c} {r} =
    by_size (λ z. chunk_by (kind_of t) z n left r₀ ≡ ok c r → mapped (print_string (kind_of t) (width_by i)) (taking n 0 r₀) ≡ ok (chunk_text (kind_of t) c) r) i
    (λ o e. absurd (refuse_not_ok e))
    (λ o e.
    let m = bind_ok (content_at (kind_of t) n left r₀) _ e in
    let q : m.rest ≡ r = cc m.second in
    let y : record { width = width_by i; content = m.value } ≡ c = cc m.second in
    mapped_is (print_string (kind_of t) (width_by i)) (ok-rest (content-ok (kind_of t) n left r₀ m.first) q) (ap (chunk_text (kind_of t)) (sym y)))

record ChunkOf (k : Kind) (s : List ℕ) (c : Chunk) (r : List ℕ) : Type 0 where
  head : Head
  rest : List ℕ
  is : next_head s ≡ ok head rest
  by : chunk_by k head.size head.argument (length s) rest ≡ ok c r

chunk_of : (k : Kind) (s : List ℕ) {c : Chunk} {r : List ℕ} → chunk_at k s ≡ ok c r → ChunkOf k s c r
unfolding chunk_at
chunk_of k [] e = absurd (refuse_not_ok e)
chunk_of k (b ∷ s) {c} {r} e = go (eqb (b / 32) (major_number (strings k))) e
  where
    go : (v : Bool) → elim v [ true ↦ bind (next_head (b ∷ s)) (λ h r. chunk_by k h.size h.argument (suc (length s)) r) | false ↦ refuse 16 (suc (length s)) ] ≡ ok c r → ChunkOf k (b ∷ s) c r
    go true h = let m = bind_ok (next_head (b ∷ s)) _ h in record { head = m.value; rest = m.rest; is = m.first; by = m.second }
    go false h = absurd (refuse_not_ok h)

module _ (s : List ℕ) (at : ℕ) {x : std.Result HeadAt Refusal} (f : head_told x ≡ head_at s at) (t : Bool) {b : List ℕ} {pos : ℕ} where
  pub chunk_lost : {k : Refusal} {p : Printed} → x ≡ Err k → PrintTold s (at + 1) b b pos p (mapped (chunk_text (kind_of t)) (chunk_at (kind_of t) (drop at s)))
  chunk_lost e =
      told_none refl (λ ws r g.
      let m = mapped_ok (chunk_text (kind_of t)) (chunk_at (kind_of t) (drop at s)) g in
      lost s at f e (chunk_of (kind_of t) (drop at s) m.is).is)

  pub chunk_found : {h : HeadAt} {b₁ : List ℕ} {p : Printed} → x ≡ Ok h → PrintTold s h.end b b₁ pos p (mapped (print_string (kind_of t) (width_by h.info)) (taking h.argument 0 (drop h.end s)))
      → PrintTold s (at + 1) b b₁ pos p (mapped (chunk_text (kind_of t)) (chunk_at (kind_of t) (drop at s)))
  chunk_found {h} e told =
      let hd = headed s at f e in
      told_via (omega (arith, hd.ahead)) (λ ws r g.
      let m = mapped_ok (chunk_text (kind_of t)) (chunk_at (kind_of t) (drop at s)) g in
      let c = chunk_of (kind_of t) (drop at s) m.is in
      let u = sym c.is ∙ hd.is in
      let y : c.head ≡ record { major = major_of h.major; size = size_by h.info; argument = h.argument } = cc (u) in
      let z : c.rest ≡ drop h.end s = cc (u) in
      let v : chunk_by (kind_of t) (size_by h.info) h.argument (length (drop at s)) (drop h.end s) ≡ ok m.value r
      = (λ j. chunk_by (kind_of t) (sym y j).size (sym y j).argument (length (drop at s)) (sym z j)) ∙ c.by in
      chunk_by_lem t h.info h.argument (length (drop at s)) (drop h.end s) v ∙ ap (λ (k : List ℕ). ok k r) (sym m.same))
      told

pub ruleset chunk_ways = (chunk_lost, chunk_found)

-- BY THE MAJOR TYPE

pub int-major : (m : ℕ) → m ≤ 1 → major_of m ≡ integers (sign_of (eqb m 1))
unfolding major_of sign_of
int-major zero h = refl
int-major (suc zero) h = refl
int-major (suc (suc m)) h = absurd (omega arith)

pub string-major : (m : ℕ) → 1 < m → m ≤ 3 → major_of m ≡ strings (kind_of (eqb m 3))
unfolding major_of kind_of
string-major m l h = go (m - 2) (omega arith) (omega arith)
  where
    go : (k : ℕ) → m ≡ k + 2 → k ≤ 1 → major_of m ≡ strings (kind_of (eqb m 3))
    go zero e h = rw e
    go (suc zero) e h = rw e
    go (suc (suc k)) e h = absurd (omega arith)

-- an item that was read, by its head
record ItemOf (d : ℕ) (s : List ℕ) (at : ℕ) (h : HeadAt) (m : Major) (ws r : List ℕ) : Type 0 where
  item : Item
  is : item_by (enter_at d) m (size_by h.info) h.argument (length (drop at s)) (drop h.end s) ≡ ok item r
  same : ws ≡ print_item item

item_of : (d : ℕ) (s : List ℕ) (at : ℕ) (h : HeadAt) (m : Major) → PrintHeaded s at h → major_of h.major ≡ m → (ws r : List ℕ) → mapped print_item (item d (drop at s)) ≡ ok ws r → ItemOf d s at h m ws r
item_of d s at h m hd e ws r g =
    let k = mapped_ok print_item (item d (drop at s)) g in
    let j = by-head d (drop at s) _ _ hd.is in
    record {
      item = k.value;
      is = ap (λ (x : Major). item_by (enter_at d) x (size_by h.info) h.argument (length (drop at s)) (drop h.end s)) (sym e) ∙ sym j ∙ k.is;
      same = k.same;
    }

module _ (s : List ℕ) (at : ℕ) {x : std.Result HeadAt Refusal} (f : head_told x ≡ head_at s at) (d : ℕ) {b : List ℕ} {pos : ℕ} where
  pub item-lost : {k : Refusal} {p : Printed} → x ≡ Err k → PrintTold s (at + 1) b b pos p (mapped print_item (item d (drop at s)))
  unfolding item item_with
  item-lost e = told_none refl (λ ws r g. let m = mapped_ok print_item (item d (drop at s)) g in go d m.is)
    where
      go : (d : ℕ) {y : Item} {r : List ℕ} → item d (drop at s) ≡ ok y r → ⊥
      go zero g = lost s at f e (bind_ok (next_head (drop at s)) _ g).first
      go (suc d) g = lost s at f e (bind_ok (next_head (drop at s)) _ g).first

-- an array's or a map's elements, as texts
pub until_is : (i n : ℕ) → until_by (mode_by i) n ≡ extent (size_by i) n
unfolding until_by mode_by extent size_by
until_is i n = go (eqb i 31)
  where
    go : (t : Bool) → until_by (elim t [ true ↦ Broken | false ↦ Counted ]) n ≡ extent (elim t [ true ↦ indefinite | false ↦ definite (width_by i) ]) n
    go true = refl
    go false = refl

size_is : (rd : List ℕ → Result (List ℕ)) (z : Size) (n : ℕ) (s : List ℕ) (ts : List (List ℕ)) (r : List ℕ) → several [] ◌∷◌ rd (extent z n) s ≡ ok ts r → size_of z (length ts) ≡ size_of z n
unfolding several extent size_of
size_is rd (definite w) n s ts r e = ap (size_of (definite w)) (counted-all rd (suc (length s)) n s ts r e)
size_is rd indefinite n s ts r e = refl

array_texts : (d i n : ℕ) (s : List ℕ) (xs : Items) (r : List ℕ) → elements (below d) (extent (size_by i) n) s ≡ ok xs r
    → mapped (container_text 4 i n) (print_all_of 4 d (until_by (mode_by i) n) s) ≡ ok (print_item (array (size_by i) xs)) r
unfolding elements print_all_of print_one_of container_text opening_by closing_by print_item item_texts
array_texts d i n s xs r e =
    let a : several [] ◌∷◌ (print_one_of 4 d) (extent (size_by i) n) s ≡ ok (item_texts xs) r
    = several_as none more (below d) print_item item_texts (print_one_of 4 d) refl (λ z zs. refl) (λ t. refl) (extent (size_by i) n) s xs r e in
    let c : size_of (size_by i) (count xs) ≡ size_of (size_by i) n = ap (size_of (size_by i)) (count_texts xs) ∙ size_is (print_one_of 4 d) (size_by i) n s (item_texts xs) r a in
    let j = all-joined 0x20 xs in
    ap (λ (u : Until). mapped (container_text 4 i n) (print_all_of 4 d u s)) (until_is i n) ∙ mapped_is (container_text 4 i n) a (λ k. 0x5b ∷ (c k ++ (j k ++ 0x5d ∷ [])))

map_texts : (d i n : ℕ) (s : List ℕ) (ps : Pairs) (r : List ℕ) → entries (below d) (extent (size_by i) n) s ≡ ok ps r
    → mapped (container_text 5 i n) (print_all_of 5 d (until_by (mode_by i) n) s) ≡ ok (print_item (map (size_by i) ps)) r
unfolding entries print_all_of print_one_of container_text opening_by closing_by print_item pair_texts
map_texts d i n s ps r e =
    let a : several [] ◌∷◌ (print_one_of 5 d) (extent (size_by i) n) s ≡ ok (pair_texts ps) r
    = several_as none₂ pair (entry_at (below d)) entry_text pair_texts (print_one_of 5 d) refl (λ z zs. refl) (λ t. refl) (extent (size_by i) n) s ps r e in
    let c : size_of (size_by i) (count₂ ps) ≡ size_of (size_by i) n = ap (size_of (size_by i)) (count_texts₂ ps) ∙ size_is (print_one_of 5 d) (size_by i) n s (pair_texts ps) r a in
    let j = all_joined₂ ps in
    ap (λ (u : Until). mapped (container_text 5 i n) (print_all_of 5 d u s)) (until_is i n) ∙ mapped_is (container_text 5 i n) a (λ k. 0x7b ∷ (c k ++ (j k ++ 0x7d ∷ [])))

pub item-within : {s : List ℕ} {at : ℕ} {h : HeadAt} → PrintHeaded s at h → Within s h.end
item-within hd = record { inside = hd.inside }

module _ {s : List ℕ} {at : ℕ} {h : HeadAt} (hd : PrintHeaded s at h) (d : ℕ) {b b₁ : List ℕ} {pos : ℕ} where
  pub item-int : {p : ℕ} → h.major ≤ 1 → Prints b b₁ pos (print_int (sign_of (eqb h.major 1)) (width_by h.info) h.argument) p
      → PrintTold s (at + 1) b b₁ pos (record { end = h.end; pos = p }) (mapped print_item (item d (drop at s)))
  unfolding print_item
  item-int l f =
      record {
        same = f.same;
        done = λ ws r e.
            let x = item_of d s at h (integers (sign_of (eqb h.major 1))) hd (int-major h.major l) ws r e in
            let y = int_of d h.info h.argument (length (drop at s)) (drop h.end s) (sign_of (eqb h.major 1)) x.is in
            record { ahead = omega (arith, hd.ahead); inside = hd.inside; drops = y.rest; prints = prints_as (sym (x.same ∙ ap print_item y.is)) f };
      }

  pub item-simple : {p : ℕ} → 5 < h.major → (h.major ≡ 6 → ⊥) → Prints b b₁ pos (print_simple h.argument) p
      → PrintTold s (at + 1) b b₁ pos (record { end = h.end; pos = p }) (mapped print_item (item d (drop at s)))
  unfolding print_item major_of
  item-simple l n f =
      let seven : h.major ≡ 7 = omega (arith, hd.most) in
      record {
        same = f.same;
        done = λ ws r e.
            let x = item_of d s at h simples hd (ap major_of seven) ws r e in
            let y = simple_of d h.info h.argument (length (drop at s)) (drop h.end s) x.is in
            record { ahead = omega (arith, hd.ahead); inside = hd.inside; drops = y.rest; prints = prints_as (sym (x.same ∙ ap print_item y.is)) f };
      }

  module _ {p : Printed} where
    pub item-string : 1 < h.major → h.major ≤ 3 → (h.info ≡ 31 → ⊥)
        → PrintTold s h.end b b₁ pos p (mapped (print_string (kind_of (eqb h.major 3)) (width_by h.info)) (taking h.argument 0 (drop h.end s))) → PrintTold s (at + 1) b b₁ pos p (mapped print_item (item d (drop at s)))
    unfolding print_item
    item-string l u n =
        told_via (omega (arith, hd.ahead)) (λ ws r e.
        let k = kind_of (eqb h.major 3) in
        let x = item_of d s at h (strings k) hd (string-major h.major l u) ws r e in
        let y = string_of d h.info h.argument (length (drop at s)) (drop h.end s) k n x.is in
        mapped_is (print_string k (width_by h.info)) y.read (x.same ∙ ap print_item y.is))

    pub item-chunked : 1 < h.major → h.major ≤ 3 → h.info ≡ 31
        → PrintTold s h.end b b₁ pos p (mapped (chunked_text (kind_of (eqb h.major 3))) (print_all_of h.major d (until_by Broken 0) (drop h.end s))) → PrintTold s (at + 1) b b₁ pos p (mapped print_item (item d (drop at s)))
    unfolding print_item chunks_of print_all_of until_by print_one_of chunk_texts
    item-chunked l u n =
        told_via (omega (arith, hd.ahead)) (λ ws r e.
        let k = kind_of (eqb h.major 3) in
        let x = item_of d s at h (strings k) hd (string-major h.major l u) ws r e in
        let y = chunked_of d h.info h.argument (length (drop at s)) (drop h.end s) k n x.is in
        let a : h.major ≡ 4 → ⊥ = omega arith in
        let c : h.major ≡ 5 → ⊥ = omega arith in
        let o : (t : List ℕ) → print_one_of h.major d t ≡ mapped (chunk_text k) (chunk_at k t) = λ t. simp (print_one_of, ne_eqb h.major 4 a, ne_eqb h.major 5 c) in
        mapped_is (chunked_text k) (several_as [] ◌∷◌ (chunk_at k) (chunk_text k) (chunk_texts k) (print_one_of h.major d) refl (λ z zs. refl) o broken (drop h.end s) y.inner r y.read)
        (x.same ∙ ap print_item y.is ∙ chunked-joined k y.inner))

    pub item-tag : h.major ≡ 6 → PrintTold s h.end b b₁ pos p (mapped (tag_text h.info h.argument) (below d (drop h.end s))) → PrintTold s (at + 1) b b₁ pos p (mapped print_item (item d (drop at s)))
    unfolding major_of tag_text
    item-tag m =
        told_via (omega (arith, hd.ahead)) (λ ws r e.
        let x = item_of d s at h tags hd (ap major_of m) ws r e in
        let y = tag_of d h.info h.argument (length (drop at s)) (drop h.end s) x.is in
        mapped_is (tag_text h.info h.argument) y.read (x.same ∙ ap print_item y.is))

    module _ (l : 3 < h.major) (u : h.major ≤ 5) where
      pub item_container : PrintTold s h.end b b₁ pos p (mapped (container_text h.major h.info h.argument) (print_all_of h.major d (until_by (mode_by h.info) h.argument) (drop h.end s)))
          → PrintTold s (at + 1) b b₁ pos p (mapped print_item (item d (drop at s)))
      unfolding major_of
      item_container = told_via (omega (arith, hd.ahead)) (λ ws r e. go (h.major - 4) (omega arith) (omega arith) ws r e)
        where
          go : (k : ℕ) → h.major ≡ k + 4 → k ≤ 1 → (ws r : List ℕ) → mapped print_item (item d (drop at s)) ≡ ok ws r
              → mapped (container_text h.major h.info h.argument) (print_all_of h.major d (until_by (mode_by h.info) h.argument) (drop h.end s)) ≡ ok ws r
          go zero e i ws r g =
              let x = item_of d s at h arrays hd (ap major_of e) ws r g in
              let y = array_of d (size_by h.info) h.argument (length (drop at s)) (drop h.end s) x.is in
              ap (λ (m : ℕ). mapped (container_text m h.info h.argument) (print_all_of m d (until_by (mode_by h.info) h.argument) (drop h.end s))) e
              ∙ array_texts d h.info h.argument (drop h.end s) y.inner r y.read ∙ ap (λ (z : List ℕ). ok z r) (sym (x.same ∙ ap print_item y.is))
          go (suc zero) e i ws r g =
              let x = item_of d s at h maps hd (ap major_of e) ws r g in
              let y = map_of d (size_by h.info) h.argument (length (drop at s)) (drop h.end s) x.is in
              ap (λ (m : ℕ). mapped (container_text m h.info h.argument) (print_all_of m d (until_by (mode_by h.info) h.argument) (drop h.end s))) e
              ∙ map_texts d h.info h.argument (drop h.end s) y.inner r y.read ∙ ap (λ (z : List ℕ). ok z r) (sym (x.same ∙ ap print_item y.is))
          go (suc (suc k)) e i ws r g = absurd (omega arith)

pub ruleset item_ways = (item-int, item-simple, item-string, item-chunked, item-tag, item_container)

-- ONE INSIDE ANOTHER

-- a part with something before and behind it
wrap : {A : Type 0} (f g : A → List ℕ) (front back : List ℕ) (res : Result A) {s : List ℕ} {least least' : ℕ} {b b₁ b₂ b₃ : List ℕ} {pos p e : ℕ} {part : Printed} → ((x : A) → g x ≡ front ++ (f x ++ back)) → least' ≤ least
    → Prints b b₁ pos front p → PrintTold s least b₁ b₂ p part (mapped f res) → Prints b₂ b₃ part.pos back e → PrintTold s least' b b₃ pos (record { end = part.end; pos = e }) (mapped g res)
wrap f g front back res i h x t y =
    record {
      same = y.same ∙ t.same ∙ x.same;
      done = λ ws r e.
          let m = mapped_ok g res e in
          let d = t.done (f m.value) r (mapped_is f m.is refl) in
          record { ahead = omega (arith, d.ahead); inside = d.inside; drops = d.drops; prints = prints_as (sym (m.same ∙ i m.value)) (prints-more x (prints-more d.prints y)) };
    }

module _ (s : List ℕ) (at d : ℕ) {b : List ℕ} {pos : ℕ} where
  pub below_none : {p : Printed} → d ≡ 0 → PrintTold s (at + 1) b b pos p (mapped print_item (below d (drop at s)))
  unfolding below
  below_none e = told_none refl (λ ws r g. let m = mapped_ok print_item (below d (drop at s)) g in refuse_not_ok (ap (λ (k : ℕ). below k (drop at s)) (sym e) ∙ m.is))

module _ (s : List ℕ) (at d : ℕ) {b b₁ : List ℕ} {pos : ℕ} where
  pub below-some : {p : Printed} → (d ≡ 0 → ⊥) → PrintTold s (at + 1) b b₁ pos p (mapped print_item (item (d - 1) (drop at s))) → PrintTold s (at + 1) b b₁ pos p (mapped print_item (below d (drop at s)))
  unfolding below
  below-some n t =
      let k : d ≡ suc (d - 1) = omega arith in
      told_via (omega arith) (λ ws r e. ap (λ (j : ℕ). mapped print_item (below j (drop at s))) (sym k) ∙ e) t

  module _ {p : Printed} where
    pub one-array : (m : ℕ) → m ≡ 4 → PrintTold s (at + 1) b b₁ pos p (mapped print_item (below d (drop at s))) → PrintTold s (at + 1) b b₁ pos p (print_one_of m d (drop at s))
    unfolding print_one_of
    one-array m e t = rw e t

    pub one_map : (m : ℕ) → m ≡ 5 → PrintTold s (at + 1) b b₁ pos p (mapped entry_text (entry_at (below d) (drop at s))) → PrintTold s (at + 1) b b₁ pos p (print_one_of m d (drop at s))
    unfolding print_one_of
    one_map m e t = rw e t

    pub one_chunk : (m : ℕ) → (m ≡ 4 → ⊥) → (m ≡ 5 → ⊥) → PrintTold s (at + 1) b b₁ pos p (mapped (chunk_text (kind_of (eqb m 3))) (chunk_at (kind_of (eqb m 3)) (drop at s)))
        → PrintTold s (at + 1) b b₁ pos p (print_one_of m d (drop at s))
    unfolding print_one_of
    one_chunk m a c t =
        let o : print_one_of m d (drop at s) ≡ mapped (chunk_text (kind_of (eqb m 3))) (chunk_at (kind_of (eqb m 3)) (drop at s)) = simp (print_one_of, ne_eqb m 4 a, ne_eqb m 5 c) in
        told_via (omega arith) (λ ws r e. sym o ∙ e) t

  pub entry_whole : {b₂ b₃ : List ℕ} {q : ℕ} {key value : Printed} → PrintTold s (at + 1) b b₁ pos key (mapped print_item (below d (drop at s))) → Prints b₁ b₂ key.pos (ascii ": ") q
      → PrintTold s (key.end + 1) b₂ b₃ q value (mapped print_item (below d (drop key.end s))) → PrintTold s (at + 1) b b₃ pos value (mapped entry_text (entry_at (below d) (drop at s)))
  unfolding entry_at entry_text
  entry_whole x y z =
      record {
        same = z.same ∙ y.same ∙ x.same;
        done = λ ws r e.
            let m = mapped_ok entry_text (entry_at (below d) (drop at s)) e in
            let k = bind_ok (below d (drop at s)) _ m.is in
            let v = bind_ok (below d k.rest) _ k.second in
            let u : v.rest ≡ r = cc v.second in
            let w : record { key = k.value; value = v.value } ≡ m.value = cc v.second in
            let i = x.done (print_item k.value) k.rest (mapped_is print_item k.first refl) in
            let j = z.done (print_item v.value) r (mapped_is print_item (ap (below d) i.drops ∙ ok-rest v.first u) refl) in
            record {
              ahead = omega (arith, i.ahead, j.ahead);
              inside = j.inside;
              drops = j.drops;
              prints = prints_as (sym (m.same ∙ ap entry_text (sym w))) (prints-more i.prints (prints-more y j.prints));
            };
      }

pub ruleset below_ways = (below_none, below-some)

pub ruleset one_ways = (one-array, one_map, one_chunk)

module _ (s : List ℕ) (from d i n : ℕ) {b b₁ b₂ b₃ b₄ : List ℕ} {pos p q e : ℕ} {part : Printed} where
  pub tag-whole : Prints b b₁ pos (print_int (sign_of false) (width_by i) n) p → Prints b₁ b₂ p (0x28 ∷ []) q → PrintTold s (from + 1) b₂ b₃ q part (mapped print_item (below d (drop from s)))
      → Prints b₃ b₄ part.pos (0x29 ∷ []) e → PrintTold s from b b₄ pos (record { end = part.end; pos = e }) (mapped (tag_text i n) (below d (drop from s)))
  unfolding tag_text print_item sign_of print_int
  tag-whole x y z w =
      wrap print_item (tag_text i n) (print_int unsigned (width_by i) n ++ (0x28 ∷ [])) (0x29 ∷ []) (below d (drop from s))
      (λ v. sym (append_assoc (print_int unsigned (width_by i) n) (0x28 ∷ []) (print_item v ++ 0x29 ∷ []))) (omega arith) (prints-more x y) z w

  pub container_whole : (major : ℕ) {u v : ℕ} {m : Mode} → u ≡ opening_by major → Prints b b₁ pos (u ∷ []) p → Prints b₁ b₂ p (size_of (size_by i) n) q → m ≡ mode_by i
      → PrintTold s from b₂ b₃ q part (mapped (joined 0x20 true) (print_all_of major d (until_by m n) (drop from s))) → v ≡ closing_by major → Prints b₃ b₄ part.pos (v ∷ []) e
      → PrintTold s from b b₄ pos (record { end = part.end; pos = e }) (mapped (container_text major i n) (print_all_of major d (until_by (mode_by i) n) (drop from s)))
  unfolding container_text
  container_whole major {u} {v} {m} f x y g z k w =
      let z' : PrintTold s from b₂ b₃ q part (mapped (joined 0x20 true) (print_all_of major d (until_by (mode_by i) n) (drop from s)))
      = told_via (omega arith) (λ ws r e. ap (λ (j : Mode). mapped (joined 0x20 true) (print_all_of major d (until_by j n) (drop from s))) g ∙ e) z in
      wrap (joined 0x20 true) (container_text major i n) (u ∷ size_of (size_by i) n) (v ∷ []) (print_all_of major d (until_by (mode_by i) n) (drop from s))
      (λ ts j. sym f j ∷ (size_of (size_by i) n ++ (joined 0x20 true ts ++ sym k j ∷ []))) (omega arith) (prints-more x y) z' w

-- a chunked string has chunks, or none
chunked-more : (k : Kind) (ts : List (List ℕ)) → ([] ≡ ts → ⊥) → chunked_text k ts ≡ ascii "(_ " ++ (joined 0x20 true ts ++ ascii ")")
unfolding chunked_text
chunked-more k [] n = absurd (n refl)
chunked-more k (t ∷ ts) n = refl

nil_not_cons : {t : List ℕ} {ts us : List (List ℕ)} → t ∷ ts ≡ us → [] ≡ us → ⊥
nil_not_cons e f = let z : ◌≡◌ {A = ℕ} 0 1 = cc in omega arith

module _ {s : List ℕ} {from : ℕ} (d major : ℕ) {t : Bool} (tn : Turned s from Broken 0 t) {b b₁ : List ℕ} {pos p : ℕ} where
  pub chunked-empty : {e : ℕ} → Within s from → t ≡ true → length s * 1 < 2 ^ 63 → Prints b b₁ pos (print_chunked (kind_of (eqb major 3)) []) p → e ≡ capped from 1
      → PrintTold s from b b₁ pos (record { end = e; pos = p }) (mapped (chunked_text (kind_of (eqb major 3))) (print_all_of major d (until_by Broken 0) (drop from s)))
  unfolding print_all_of several behind_by step_by chunked_text
  chunked-empty {e} w y l f g =
      let i = tn.inside y w.inside in
      let a : e ≡ from + 1 = omega (arith, g, i) in
      let st = tn.is ∙ ap (λ (v : Bool). step_by v Broken 0 s from) y in
      record {
        same = f.same;
        done = λ ws r k.
            let m = mapped_ok (chunked_text (kind_of (eqb major 3))) (print_all_of major d (until_by Broken 0) (drop from s)) k in
            let z = last (print_one_of major d) (suc (length (drop from s))) (until_by Broken 0) (drop from s) m.is st in
            record {
              ahead = omega arith;
              inside = omega (arith, i);
              drops = ap (λ (j : ℕ). drop j s) a ∙ z.rest;
              prints = prints_as (sym (m.same ∙ ap (chunked_text (kind_of (eqb major 3))) (sym z.none))) f;
            };
      }

  pub chunked_full : {b₂ b₃ : List ℕ} {e : ℕ} {part : Printed} → t ≡ false → Prints b b₁ pos (ascii "(_ ") p → PrintTold s from b₁ b₂ p part (mapped (joined 0x20 true) (print_all_of major d (until_by Broken 0) (drop from s)))
      → Prints b₂ b₃ part.pos (0x29 ∷ []) e → PrintTold s from b b₃ pos (record { end = part.end; pos = e }) (mapped (chunked_text (kind_of (eqb major 3))) (print_all_of major d (until_by Broken 0) (drop from s)))
  unfolding print_all_of several step_by
  chunked_full y x u v =
      let st = tn.is ∙ ap (λ (v : Bool). step_by v Broken 0 s from) y in
      record {
        same = v.same ∙ u.same ∙ x.same;
        done = λ ws r k.
            let m = mapped_ok (chunked_text (kind_of (eqb major 3))) (print_all_of major d (until_by Broken 0) (drop from s)) k in
            let z = next (print_one_of major d) (suc (length (drop from s))) (until_by Broken 0) (until_by Broken (0 - 1)) (drop from s) m.is st in
            let q = u.done (joined 0x20 true m.value) r (mapped_is (joined 0x20 true) m.is refl) in
            record {
              ahead = q.ahead;
              inside = q.inside;
              drops = q.drops;
              prints = prints_as (sym (m.same ∙ chunked-more (kind_of (eqb major 3)) m.value (nil_not_cons z.is))) (prints-more x (prints-more q.prints v));
            };
      }

pub ruleset chunked_ways = (chunked-empty, chunked_full)
