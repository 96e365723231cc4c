-- The walk over bytes: an item by its head, and the item behind a tag.
-- Assumes nothing.
use Prim.Native.Nat.{ℕ, zero, suc, ◌+◌, ◌-◌, ◌*◌, ◌/◌, ◌%◌, ◌^◌, ◌≤◌, ◌<◌, min}
use native.Mathlib.Omega.{arith}
use mathlib.Core.Path.{◌≡◌, refl, sym, ap, ◌∙◌}
use mathlib.Core.Bool.{Bool, true, false, ◌&&◌}
use mathlib.Core.List.{List}
use lib.Dec.{eqb, eqb→eq}
use lib.ListN.{length, take, drop, get_or, length-drop, drop_of_length-le}
use lib.Seq.{get_or-drop}
use mir.Syntax.{w8 as bits8}
use mir.Val.{Fits}
use borrow.Author.Tests.{le-leb, lt-leb, eqb-true, eqb-false}
use Rattle.cbor.specs.Refusals.{Result, ok, refuse, bind, too_long, too_deep, bad_typed_array, not_well_formed}
use Rattle.cbor.specs.Items.{unsigned, negative, Kind, byte_string, text_string, Size, definite, indefinite, Item, int, string, chunked, array, map, tag, simple}
use Rattle.cbor.specs.Heads.{Major, integers, strings, arrays, maps, tags, simples, major_number, major_of, item_major, Head, next_head, is_indefinite}
use Rattle.cbor.specs.TypedArrays.{chunks_length, element_size, divides, asked, may_tag}
use Rattle.typed_array.specs.TypedArrayAnswers.{may_tag_by}
use Rattle.cbor.specs.Decode.{Until, counted, broken, ended, content_at, extent, tagged, elements, entries, chunks_of, item_by, item_with, item, decode}
use Rattle.refusal.specs.RefusalKinds.{kind_number}
use Rattle.head.specs.HeadAnswers.{head_found, head_told, head_at, argument_at, HeadRoom, HeadEnd}
use Rattle.walk_answer.specs.WalkAnswers.{PassTold, passed, pass_refused, pass_told, WalkTold, item_passed, walk_refused, walk_told, with_major, walk_of, contents, contents_all, contents_all₂, map_result, told_of, pass_of, walk_all_of, below, one_of, all_of, tag_of, until_by, mode_by, after_told, item_after, Headed, Headless, Within}
use Rattle.cbor.specs.Flags.{kind_of}
use Rattle.refusal.specs.declared.Refusal.{Refusal}
use Rattle.refusal.specs.declared.RefusalKind.TheVariants.{TooLong, TooDeep, BadTypedArray, NotWellFormed}
use Rattle.head.specs.declared.HeadAt.{HeadAt}
use Rattle.walk_answer.specs.declared.Passage.{Passage}
use Rattle.cbor.proofs.DecodeEncode.{enter_at, by-head}
use Rattle.cbor.proofs.Heads.{major-back, major-most}
use Rattle.cbor.proofs.Table.{byte}
use Rattle.walk_answer.proofs.Leaves.{Leaves, same}
use Rattle.walk_answer.proofs.ItemLeaves.{LowSize, head-left, chunks-sized, elements-sized, entries-sized, item-leaves}
use Rattle.walk_parts.proofs.StringCode.{Got, got, got_both, head-room, head-lost, sized-made, size-definite, size-indefinite}
use Rattle.walk_answer.proofs.WalkCycle.{at_front, tail_is, after-told, all-leaves, one-item, all_one, all_double}
use Rattle.std.specs.Prelude.{Ok, Err, Some, None}
use Rattle.std.specs.Prelude as std
use Rattle.walk_answer.specs.declared.WalkedItem.{WalkedItem}
use Rattle.walk_answer.specs.declared.Mode.{Mode}
use Rattle.walk_answer.specs.declared.Mode.TheVariants.{Counted, Broken, Ended}

-- THE MAJOR TYPE

abbrev MajorIn : Major → Result Item → Type 0
MajorIn m (ok x r) = item_major x ≡ m
MajorIn m (refuse n l) = Unit

made-major : {A : Type 0} (m : Major) (mk : A → Item) → ((x : A) → item_major (mk x) ≡ m) → (res : Result A) → MajorIn m (bind res (λ x r. ok (mk x) r))
unfolding bind
made-major m mk h (ok x r) = h x
made-major m mk h (refuse n l) = tt

tagged-major : (w : _) (n left : ℕ) (res : Result Item) → MajorIn tags (bind res (tagged w n left))
unfolding bind tagged item_major
tagged-major w n left (ok x r) = by (may_tag n x)
  where
    by : (v : Bool) → MajorIn tags (elim v [ true ↦ ok (tag w n x) r | false ↦ refuse bad_typed_array left ])
    by true = refl
    by false = tt
tagged-major w n left (refuse k l) = tt

-- an item is of the major type of its head
by-major : (d : ℕ) (m : Major) (z : Size) (n left : ℕ) (r : List ℕ) → MajorIn m (item_by (enter_at d) m z n left r)
unfolding item_by item_major
by-major d (integers g) (definite w) n left r = refl
by-major d (integers g) indefinite n left r = tt
by-major d (strings k) (definite w) n left r = made-major (strings k) (string k w) (λ b. refl) (content_at k n left r)
by-major d (strings k) indefinite n left r = made-major (strings k) (chunked k) (λ cs. refl) (chunks_of k r)
by-major zero arrays z n left r = tt
by-major (suc d) arrays z n left r = made-major arrays (array z) (λ xs. refl) (elements (item d) (extent z n) r)
by-major zero maps z n left r = tt
by-major (suc d) maps z n left r = made-major maps (map z) (λ ps. refl) (entries (item d) (extent z n) r)
by-major zero tags (definite w) n left r = tt
by-major (suc d) tags (definite w) n left r = tagged-major w n left (item d r)
by-major d tags indefinite n left r = tt
by-major d simples (definite w) n left r = refl
by-major d simples indefinite n left r = tt

-- an item is read by its head
pub item_eq : (d : ℕ) (s : List ℕ) → item d s ≡ bind (next_head s) (λ h r. item_by (enter_at d) h.major h.size h.argument (length s) r)
unfolding item item_with
item_eq zero s = refl
item_eq (suc d) s = refl

item-major : (d : ℕ) (s : List ℕ) → MajorIn (major_of (get_or s 0 0 / 32)) (item d s)
unfolding bind
item-major d s = rw (item_eq d s) (by (next_head s) refl)
  where
    by : (res : Result Head) → next_head s ≡ res → MajorIn (major_of (get_or s 0 0 / 32)) (bind res (λ h r. item_by (enter_at d) h.major h.size h.argument (length s) r))
    by (ok h r) e = rw (← (head-left s e).major) (by-major d h.major h.size h.argument (length s) r)
    by (refuse n l) e = tt

with_major_lem : (n : ℕ) (m : Major) (res : Result Item) → MajorIn m res → with_major (major_number m) (pass_of n res) ≡ walk_of n res
unfolding with_major pass_of map_result told_of walk_of
with_major_lem n m (ok x r) h = ap (λ (k : Major). item_passed (n - length r) (major_number k) (contents x)) (sym h)
with_major_lem n m (refuse k l) h = refl

-- FROM A PLACE ON

bind-zero : (res : Result ℕ) → bind res (λ m r. ok (0 + m) r) ≡ res
unfolding bind
bind-zero (ok m r) = let e : 0 + m ≡ m = omega arith in ap (λ (n : ℕ). ok n r) e
bind-zero (refuse n l) = refl

pub part-told : (k : ℕ) (s : List ℕ) (at : ℕ) (rd : List ℕ → Result ℕ) (inner part : std.Result Passage Refusal) → at ≤ length s → length s * 1 < 2 ^ 63 → ((t : List ℕ) → Leaves k same t (rd t))
    → pass_told inner ≡ told_of (length (take (length s - at) (drop at s))) (rd (take (length s - at) (drop at s))) → pass_told part ≡ after_told at 0 (pass_told inner)
    → pass_told part ≡ told_of (length s) (rd (drop at s))
part-told k s at rd inner part h long one told after =
    after ∙ ap (after_told at 0) (told ∙ ap (λ (t : List ℕ). told_of (length t) (rd t)) (tail_is s at))
    ∙ after-told k s at 0 (rd (drop at s)) h (omega arith) (omega arith) (one (drop at s))
    ∙ ap (told_of (length s)) (bind-zero (rd (drop at s)))

-- several from a place on, in a part of the bytes
pub all_told : (major d : ℕ) (u : Until) {s : List ℕ} {from : ℕ} (inner part : std.Result Passage Refusal) → Within s from → length s * 1 < 2 ^ 63
    → pass_told inner ≡ told_of (length (take (length s - from) (drop from s))) (all_of major d u (take (length s - from) (drop from s))) → pass_told part ≡ after_told from 0 (pass_told inner)
    → pass_told part ≡ told_of (length s) (all_of major d u (drop from s))
all_told major d u {s} {from} inner part w long = part-told 0 s from (all_of major d u) inner part w.inside long (all-leaves major d u)

after-item : (s : List ℕ) (at : ℕ) (res : Result Item) → at ≤ length s → length s < 2 ^ 63 → Leaves 1 contents (drop at s) res → item_after at (walk_of (length (drop at s)) res) ≡ walk_of (length s) res
unfolding item_after walk_of
after-item s at (ok x r) h l v =
    let d = length-drop at s in
    let p : min (at + (length (drop at s) - length r)) (2 ^ 64 - 1) ≡ length s - length r = omega (arith, v.less) in
    ap (λ (e : ℕ). item_passed e (major_number (item_major x)) (contents x)) p
after-item s at (refuse k q) h l v =
    let d = length-drop at s in
    let p : min (at + (length (drop at s) - q)) (2 ^ 64 - 1) ≡ length s - q = omega arith in
    ap (walk_refused k) p

pub item-told : (d : ℕ) (s : List ℕ) (at : ℕ) (inner part : std.Result WalkedItem Refusal) → at ≤ length s → length s * 1 < 2 ^ 63
    → walk_told inner ≡ walk_of (length (take (length s - at) (drop at s))) (item d (take (length s - at) (drop at s))) → walk_told part ≡ item_after at (walk_told inner)
    → walk_told part ≡ walk_of (length s) (item d (drop at s))
item-told d s at inner part h long told after =
    after ∙ ap (item_after at) (told ∙ ap (λ (t : List ℕ). walk_of (length t) (item d t)) (tail_is s at)) ∙ after-item s at (item d (drop at s)) h (omega arith) (item-leaves d (drop at s))

-- TAGS

-- the rule of typed arrays, of what the code knows
divides-by : (z : ℕ) (x : Item) → divides z x ≡ eqb (major_number (item_major x)) 2 && eqb (contents x % z) 0
unfolding divides item_major major_number contents
divides-by z (int unsigned w n) = refl
divides-by z (int negative w n) = refl
divides-by z (string byte_string w b) = refl
divides-by z (string text_string w b) = refl
divides-by z (chunked byte_string cs) = refl
divides-by z (chunked text_string cs) = refl
divides-by z (array y xs) = refl
divides-by z (map y ps) = refl
divides-by z (tag w n x) = refl
divides-by z (simple n) = refl

pub may-tag : (n : ℕ) (x : Item) → may_tag n x ≡ may_tag_by n (eqb (major_number (item_major x)) 2) (contents x)
unfolding may_tag may_tag_by
may-tag n x = ap (asked n) (divides-by (element_size n) x)

tag-lost : (size : ℕ) (e : Refusal) (res : Result Item) (go : Item → List ℕ → Result ℕ) → pass_told (Err e) ≡ told_of size (map_result contents res) → pass_told (Err e) ≡ told_of size (bind res go)
unfolding pass_told map_result told_of bind
tag-lost size e (ok x r) go h = let z : ◌≡◌ {A = ℕ} 0 1 = cc in absurd (omega arith)
tag-lost size e (refuse k l) go h = h

-- what is told of the tag, by what is told of its item
abbrev tag_told : ℕ → Passage → Bool → PassTold
tag_told size m v = elim v [ true ↦ passed m.end m.size | false ↦ pass_refused bad_typed_array (size - size) ]

tag-told : (n size : ℕ) (m : Passage) (j : Major) (v : Bool) (res : Result Item) → pass_told (Ok m) ≡ told_of size (map_result contents res) → MajorIn j res → v ≡ may_tag_by n (eqb (major_number j) 2) m.size
    → tag_told size m v ≡ told_of size (bind res (λ x r. elim (may_tag n x) [ true ↦ ok (contents x) r | false ↦ refuse bad_typed_array size ]))
unfolding pass_told map_result told_of bind
tag-told n size m j v (ok x r) h i e = ap (tag_told size m) may ∙ by (may_tag n x)
  where
    may : v ≡ may_tag n x
    may = let k : m.size ≡ contents x = cc in e ∙ (λ z. may_tag_by n (eqb (major_number (sym i z)) 2) (k z)) ∙ sym (may-tag n x)

    by : (u : Bool) → tag_told size m u ≡ told_of size (elim u [ true ↦ ok (contents x) r | false ↦ refuse bad_typed_array size ])
    by true =
        let i : m.end ≡ size - length r = cc in
        let k : m.size ≡ contents x = cc in
        λ z. passed (i z) (k z)
    by false = refl
tag-told n size m j v (refuse k l) h i e = let z : ◌≡◌ {A = ℕ} 0 1 = cc in absurd (omega arith)

-- the item at the front, as the only one of several
pub only_one : (d : ℕ) (s : List ℕ) → all_of 4 (suc d) (until_by Counted 1) s ≡ map_result contents (item d s)
unfolding until_by one_of below
only_one d s = all_one 4 (suc d) s

module _ (n d : ℕ) {s : List ℕ} {from : ℕ} (w : Within s from) (inner : std.Result Passage Refusal) (long : length s * 1 < 2 ^ 63)
    (told : pass_told inner ≡ told_of (length (take (length s - from) (drop from s))) (all_of 4 (suc d) (until_by Counted 1) (take (length s - from) (drop from s)))) (part : std.Result Passage Refusal) (after : pass_told part ≡ after_told from 0 (pass_told inner)) where
  part-is : pass_told part ≡ told_of (length s) (map_result contents (item d (drop from s)))
  part-is = all_told 4 (suc d) (until_by Counted 1) inner part w long told after ∙ ap (told_of (length s)) (only_one d (drop from s))

  pub tag-refused : {e : Refusal} → part ≡ Err e → pass_told (Err e) ≡ told_of (length s) (tag_of n d (length s) (drop from s))
  unfolding tag_of
  tag-refused h = tag-lost (length s) _ (item d (drop from s)) _ (rw h at part-is)

  module _ {m : Passage} (h : part ≡ Ok m) {x : ℕ} (i : x ≡ major_number (major_of (get_or s from 0 / 32))) {v : Bool} (j : v ≡ may_tag_by n (eqb x 2) m.size) where
    tag_is : tag_told (length s) m v ≡ told_of (length s) (tag_of n d (length s) (drop from s))
    unfolding tag_of
    tag_is =
        let z : from + 0 ≡ from = omega arith in
        let b : get_or (drop from s) 0 0 ≡ get_or s from 0 = get_or-drop from s 0 0 ∙ ap (λ (k : ℕ). get_or s k 0) z in
        let q = rw b at (item-major d (drop from s)) in
        tag-told n (length s) m (major_of (get_or s from 0 / 32)) v (item d (drop from s)) (rw h at part-is) q (rw i at j)

    pub tag-good : {t : PassTold} → v ≡ true → t ≡ passed m.end m.size → t ≡ told_of (length s) (tag_of n d (length s) (drop from s))
    tag-good y f = f ∙ ap (tag_told (length s) m) (sym y) ∙ tag_is

    pub tag-bad : {t : PassTold} → v ≡ false → t ≡ pass_refused (kind_number BadTypedArray) 0 → t ≡ told_of (length s) (tag_of n d (length s) (drop from s))
    unfolding kind_number
    tag-bad y f = f ∙ at_front bad_typed_array (length s) ∙ ap (tag_told (length s) m) (sym y) ∙ tag_is

pub ruleset tag_turns = (tag-refused, tag-good, tag-bad)

-- ITEMS

pub major-none : (s : List ℕ) (at : ℕ) → length s ≤ at → 0 ≡ major_number (major_of (get_or s at 0 / 32))
unfolding major_number major_of
major-none s at h =
    let z : at ≡ at + 0 = omega arith in
    let e : get_or s at 0 ≡ 0 = ap (λ (k : ℕ). get_or s k 0) z ∙ sym (get_or-drop at s 0 0) ∙ ap (λ (l : List ℕ). get_or l 0 0) (drop_of_length-le s h) in
    rw e

pub major-byte : (b : ℕ) → Fits bits8 b → b / 32 ≡ major_number (major_of (b / 32))
unfolding major_number major_of
major-byte b u = let h : b < 256 = omega arith in sym (eqb→eq (major_number (major_of (b / 32))) (b / 32) (byte (λ k. eqb (major_number (major_of (k / 32))) (k / 32)) tt b h))

pub item-is : (d : ℕ) (s : List ℕ) (span : std.Result Passage Refusal) {m : ℕ} {t : WalkTold} → m ≡ major_number (major_of (get_or s 0 0 / 32)) → pass_told span ≡ told_of (length s) (all_of 4 (suc d) (until_by Counted 1) s) → t ≡ with_major m (pass_told span)
    → t ≡ walk_of (length s) (item d s)
unfolding pass_of
item-is d s span i e f =
    f ∙ (λ z. with_major (i z) ((e ∙ ap (told_of (length s)) (only_one d s)) z)) ∙ with_major_lem (length s) (major_of (get_or s 0 0 / 32)) (item d s) (item-major d s)

-- several inside an item, as the code walks over them
all-chunks : (k : Kind) (d : ℕ) (s : List ℕ) → all_of (major_number (strings k)) d broken s ≡ map_result chunks_length (chunks_of k s)
unfolding all_of one_of major_number kind_of
all-chunks byte_string d s = sym (chunks-sized byte_string s)
all-chunks text_string d s = sym (chunks-sized text_string s)

all-items : (d : ℕ) (u : Until) (s : List ℕ) → all_of 4 d u s ≡ map_result contents_all (elements (below d) u s)
unfolding all_of one_of
all-items d u s = sym (elements-sized (below d) u s)

all-entries : (d : ℕ) (u : Until) (s : List ℕ) → all_of 5 d u s ≡ map_result contents_all₂ (entries (below d) u s)
unfolding all_of one_of
all-entries d u s = sym (entries-sized (below d) u s)

text-back : (k : Kind) → kind_of (eqb (major_number (strings k)) 3) ≡ k
unfolding kind_of major_number
text-back byte_string = refl
text-back text_string = refl

-- what the item behind a head is told to be: m, z, n its head; r what stands behind it
abbrev Behind : ℕ → ℕ → Major → Size → ℕ → List ℕ → PassTold → Type 0
Behind d size m z n r t = t ≡ told_of size (map_result contents (item_by (enter_at d) m z n size r))

module _ (d size : ℕ) {t : PassTold} where
  leaf : (m : Major) (z : Size) (n : ℕ) (r : List ℕ) → LowSize m z n → major_number m ≤ 1 → t ≡ passed (size - length r) 0 → Behind d size m z n r t
  unfolding item_by map_result contents told_of major_number is_indefinite
  leaf (integers g) (definite w) n r l h e = e
  leaf (integers g) indefinite n r l h e = let z : ◌≡◌ {A = ℕ} 0 1 = cc in absurd (omega arith)
  leaf (strings byte_string) z n r l h e = absurd (omega arith)
  leaf (strings text_string) z n r l h e = absurd (omega arith)
  leaf arrays z n r l h e = absurd (omega arith)
  leaf maps z n r l h e = absurd (omega arith)
  leaf tags z n r l h e = absurd (omega arith)
  leaf simples z n r l h e = absurd (omega arith)

  a-string : (m : Major) (w : _) (n : ℕ) (r : List ℕ) → 1 < major_number m → major_number m ≤ 3 → t ≡ told_of size (map_result length (content_at (kind_of (eqb (major_number m) 3)) n size r)) → Behind d size m (definite w) n r t
  unfolding item_by contents major_number
  a-string (integers unsigned) w n r l h e = absurd (omega arith)
  a-string (integers negative) w n r l h e = absurd (omega arith)
  a-string (strings k) w n r l h e =
      e ∙ ap (λ (x : Kind). told_of size (map_result length (content_at x n size r))) (text-back k) ∙ ap (told_of size) (sym (sized-made contents length (string k w) (λ b. refl) (content_at k n size r)))
  a-string arrays w n r l h e = absurd (omega arith)
  a-string maps w n r l h e = absurd (omega arith)
  a-string tags w n r l h e = absurd (omega arith)
  a-string simples w n r l h e = absurd (omega arith)

  a-chunked : (e : ℕ) (m : Major) (n : ℕ) (r : List ℕ) → 1 < major_number m → major_number m ≤ 3 → t ≡ told_of size (all_of (major_number m) e broken r) → Behind d size m indefinite n r t
  unfolding item_by contents major_number
  a-chunked c (integers unsigned) n r l h e = absurd (omega arith)
  a-chunked c (integers negative) n r l h e = absurd (omega arith)
  a-chunked c (strings k) n r l h e = e ∙ ap (told_of size) (all-chunks k c r ∙ sym (sized-made contents chunks_length (chunked k) (λ cs. refl) (chunks_of k r)))
  a-chunked c arrays n r l h e = absurd (omega arith)
  a-chunked c maps n r l h e = absurd (omega arith)
  a-chunked c tags n r l h e = absurd (omega arith)
  a-chunked c simples n r l h e = absurd (omega arith)

  too_deep_lem : (m : Major) (z : Size) (n : ℕ) (r : List ℕ) → LowSize m z n → d ≡ 0 → 3 < major_number m → (major_number m ≡ 7 → ⊥) → t ≡ pass_refused too_deep 0 → Behind d size m z n r t
  unfolding item_by map_result told_of major_number is_indefinite
  too_deep_lem (integers unsigned) z n r l o h s e = absurd (omega arith)
  too_deep_lem (integers negative) z n r l o h s e = absurd (omega arith)
  too_deep_lem (strings byte_string) z n r l o h s e = absurd (omega arith)
  too_deep_lem (strings text_string) z n r l o h s e = absurd (omega arith)
  too_deep_lem arrays z n r l o h s e = rw o (e ∙ at_front too_deep size)
  too_deep_lem maps z n r l o h s e = rw o (e ∙ at_front too_deep size)
  too_deep_lem tags (definite w) n r l o h s e = rw o (e ∙ at_front too_deep size)
  too_deep_lem tags indefinite n r l o h s e = let z : ◌≡◌ {A = ℕ} 0 1 = cc in absurd (omega arith)
  too_deep_lem simples z n r l o h s e = absurd (s refl)

-- with a level left
module _ (size : ℕ) {t : PassTold} where
  a-tag : (d : ℕ) (z : Size) (n : ℕ) (r : List ℕ) → LowSize tags z n → (d ≡ 0 → ⊥) → t ≡ told_of size (tag_of n (d - 1) size r) → Behind d size tags z n r t
  unfolding item_by tag_of tagged contents is_indefinite map_result bind
  a-tag zero z n r l o e = absurd (o refl)
  a-tag (suc d) (definite w) n r l o e = let k : suc d - 1 ≡ d = omega arith in e ∙ ap (λ (j : ℕ). told_of size (tag_of n j size r)) k ∙ ap (told_of size) (by (item d r))
    where
      check : (x : Item) (r' : List ℕ) (v : Bool)
          → elim v [ true ↦ ok (contents x) r' | false ↦ refuse bad_typed_array size ] ≡ map_result contents (elim v [ true ↦ ok (tag w n x) r' | false ↦ refuse bad_typed_array size ])
      check x r' true = refl
      check x r' false = refl

      by : (res : Result Item) → bind res (λ x r'. elim (may_tag n x) [ true ↦ ok (contents x) r' | false ↦ refuse bad_typed_array size ]) ≡ map_result contents (bind res (λ x r'. elim (may_tag n x) [ true ↦ ok (tag w n x) r' | false ↦ refuse bad_typed_array size ]))
      by (ok x r') = check x r' (may_tag n x)
      by (refuse k q) = refl
  a-tag (suc d) indefinite n r l o e = let z : ◌≡◌ {A = ℕ} 0 1 = cc in absurd (omega arith)

  an_array : (d : ℕ) (z : Size) (n : ℕ) (r : List ℕ) → (d ≡ 0 → ⊥) → t ≡ told_of size (all_of 4 d (extent z n) r) → Behind d size arrays z n r t
  unfolding item_by below contents
  an_array zero z n r o e = absurd (o refl)
  an_array (suc d) z n r o e = e ∙ ap (told_of size) (all-items (suc d) (extent z n) r ∙ sym (sized-made contents contents_all (array z) (λ xs. refl) (elements (item d) (extent z n) r)))

  a-map : (d : ℕ) (z : Size) (n : ℕ) (r : List ℕ) → (d ≡ 0 → ⊥) → t ≡ told_of size (all_of 5 d (extent z n) r) → Behind d size maps z n r t
  unfolding item_by below contents
  a-map zero z n r o e = absurd (o refl)
  a-map (suc d) z n r o e = e ∙ ap (told_of size) (all-entries (suc d) (extent z n) r ∙ sym (sized-made contents contents_all₂ (map z) (λ xs. refl) (entries (item d) (extent z n) r)))

  several_in : (d : ℕ) (m : Major) (z : Size) (n : ℕ) (r : List ℕ) → (d ≡ 0 → ⊥) → 3 < major_number m → (major_number m ≡ 6 → ⊥) → (major_number m ≡ 7 → ⊥) → t ≡ told_of size (all_of (major_number m) d (extent z n) r)
      → Behind d size m z n r t
  unfolding major_number
  several_in d (integers unsigned) z n r o l p q e = absurd (omega arith)
  several_in d (integers negative) z n r o l p q e = absurd (omega arith)
  several_in d (strings byte_string) z n r o l p q e = absurd (omega arith)
  several_in d (strings text_string) z n r o l p q e = absurd (omega arith)
  several_in d arrays z n r o l p q e = an_array d z n r o e
  several_in d maps z n r o l p q e = a-map d z n r o e
  several_in d tags z n r o l p q e = absurd (p refl)
  several_in d simples z n r o l p q e = absurd (q refl)

-- the ways through the code, from the head that it has
module _ {s : List ℕ} {h : HeadAt} (hd : Headed s h) where
  g : Got s h
  g = got hd

  low : LowSize g.head.major g.head.size g.head.argument
  low = rw (← g.left.major) at g.left.low

  major-is : (m : Major) → h.major ≡ major_number m → g.head.major ≡ m
  major-is m e = sym (major-back g.head.major) ∙ ap major_of (sym g.major ∙ e) ∙ major-back m

  simply : h.major ≡ 7 → g.head.major ≡ simples
  unfolding major_number
  simply e = major-is simples e

  until_is : until_by (mode_by h.info) h.argument ≡ extent g.head.size h.argument
  unfolding until_by mode_by extent
  until_is = by (eqb h.info 31) refl
    where
      by : (v : Bool) → eqb h.info 31 ≡ v → until_by (elim v [ true ↦ Broken | false ↦ Counted ]) h.argument ≡ extent g.head.size h.argument
      by true i = sym (ap (λ (z : Size). extent z h.argument) (size-indefinite g.left (sym g.info ∙ eqb-true h.info 31 i)))
      by false i = size-definite g.left (λ z. counted h.argument ≡ extent z h.argument) (λ x. eqb-false h.info 31 i (g.info ∙ x)) (λ w. refl)

  module _ (d : ℕ) {t : PassTold} where
    known : Behind d (length s) g.head.major g.head.size g.head.argument g.rest t → t ≡ pass_of (length s) (item d s)
    unfolding pass_of
    known e = e ∙ ap (λ (u : Result Item). told_of (length s) (map_result contents u)) (sym (by-head d s g.head g.rest g.is))

    pub behind-leaf : h.major ≤ 1 → t ≡ passed h.end 0 → t ≡ pass_of (length s) (item d s)
    behind-leaf l e = known (leaf d (length s) g.head.major g.head.size g.head.argument g.rest low (omega (arith, g.major)) (e ∙ ap (λ (n : ℕ). passed n 0) g.ends))

    module _ (l : 1 < h.major) (u : h.major ≤ 3) where
      pub behind-string : (h.info ≡ 31 → ⊥) → t ≡ told_of (length s) (map_result length (content_at (kind_of (eqb h.major 3)) h.argument (length s) (drop h.end s))) → t ≡ pass_of (length s) (item d s)
      behind-string o e =
          known (size-definite g.left (λ z. Behind d (length s) g.head.major z g.head.argument g.rest t) (λ x. o (g.info ∙ x))
          (λ w. a-string d (length s) g.head.major w g.head.argument g.rest (omega (arith, g.major)) (omega (arith, g.major))
          (e ∙ got_both g (λ n r. told_of (length s) (map_result length (content_at (kind_of (eqb h.major 3)) n (length s) r)))
          ∙ ap (λ (m : ℕ). told_of (length s) (map_result length (content_at (kind_of (eqb m 3)) g.head.argument (length s) g.rest))) g.major)))

      chunks_in : (c : ℕ) → h.info ≡ 31 → t ≡ told_of (length s) (all_of h.major c broken (drop h.end s)) → t ≡ pass_of (length s) (item d s)
      chunks_in c o e =
          known (rw (size-indefinite g.left (sym g.info ∙ o))
          (a-chunked d (length s) c g.head.major g.head.argument g.rest (omega (arith, g.major)) (omega (arith, g.major))
          (e ∙ ap (λ (r : List ℕ). told_of (length s) (all_of h.major c broken r)) g.drops ∙ ap (λ (m : ℕ). told_of (length s) (all_of m c broken g.rest)) g.major)))

    module _ (e : h.major ≡ 7) where
      pub behind-break : h.info ≡ 31 → t ≡ pass_refused (kind_number NotWellFormed) 0 → t ≡ pass_of (length s) (item d s)
      unfolding item_by map_result told_of kind_number
      behind-break o f = known (rw (simply e, size-indefinite g.left (sym g.info ∙ o)) (f ∙ at_front not_well_formed (length s)))

      pub behind-simple : (h.info ≡ 31 → ⊥) → t ≡ passed h.end 0 → t ≡ pass_of (length s) (item d s)
      unfolding item_by map_result told_of contents
      behind-simple o f =
          known (size-definite g.left (λ z. Behind d (length s) g.head.major z g.head.argument g.rest t) (λ x. o (g.info ∙ x))
          (λ w. rw (simply e) (f ∙ ap (λ (n : ℕ). passed n 0) g.ends)))

    module _ (l : 3 < h.major) (o : h.major ≡ 7 → ⊥) where
      pub behind_deep : d ≡ 0 → t ≡ pass_refused (kind_number TooDeep) 0 → t ≡ pass_of (length s) (item d s)
      unfolding kind_number
      behind_deep z e = known (too_deep_lem d (length s) g.head.major g.head.size g.head.argument g.rest low z (omega (arith, g.major)) (λ x. o (g.major ∙ x)) e)

      module _ (p : d ≡ 0 → ⊥) where
        pub behind-tag : h.major ≡ 6 → t ≡ told_of (length s) (tag_of h.argument (d - 1) (length s) (drop h.end s)) → t ≡ pass_of (length s) (item d s)
        unfolding major_number
        behind-tag e f =
            let m = major-is tags e in
            known (rw m (a-tag (length s) d g.head.size g.head.argument g.rest (rw m at low) p (f ∙ got_both g (λ n r. told_of (length s) (tag_of n (d - 1) (length s) r)))))

        module _ (q : h.major ≡ 6 → ⊥) where
          several-at : (z : Size) → t ≡ told_of (length s) (all_of h.major d (extent z h.argument) (drop h.end s)) → Behind d (length s) g.head.major z g.head.argument g.rest t
          several-at z e =
              several_in (length s) d g.head.major z g.head.argument g.rest p (omega (arith, g.major)) (λ x. q (g.major ∙ x)) (λ x. o (g.major ∙ x))
              (e ∙ got_both g (λ n r. told_of (length s) (all_of h.major d (extent z n) r)) ∙ ap (λ (m : ℕ). told_of (length s) (all_of m d (extent z g.head.argument) g.rest)) g.major)

          pub inside : t ≡ told_of (length s) (all_of h.major (suc (d - 1)) (until_by (mode_by h.info) h.argument) (drop h.end s)) → t ≡ pass_of (length s) (item d s)
          inside e =
              let k : suc (d - 1) ≡ d = omega arith in
              known (several-at g.head.size (e ∙ (λ z. told_of (length s) (all_of h.major (k z) (until_is z) (drop h.end s)))))

          pub behind-map : (h.major ≡ 4 → ⊥) → {mode : Mode} → mode ≡ mode_by h.info → t ≡ told_of (length s) (all_of 5 (suc (d - 1)) (until_by mode h.argument) (drop h.end s)) → t ≡ pass_of (length s) (item d s)
          behind-map r m e =
              let five : 5 ≡ h.major = omega (arith, g.major, major-most g.head.major) in
              inside (e ∙ (λ z. told_of (length s) (all_of (five z) (suc (d - 1)) (until_by (m z) h.argument) (drop h.end s))))

-- what is inside, walked over in a part of the bytes
module _ {s : List ℕ} {h : HeadAt} (hd : Headed s h) (d : ℕ) (inner part : std.Result Passage Refusal) (long : length s * 1 < 2 ^ 63) (after : pass_told part ≡ after_told h.end 0 (pass_told inner)) where
  pub behind-chunks : 1 < h.major → h.major ≤ 3 → h.info ≡ 31
      → pass_told inner ≡ told_of (length (take (length s - h.end) (drop h.end s))) (all_of h.major (suc d) (until_by Broken 0) (take (length s - h.end) (drop h.end s))) → pass_told part ≡ pass_of (length s) (item d s)
  unfolding until_by
  behind-chunks l u o told = chunks_in hd d l u (suc d) o (all_told h.major (suc d) broken inner part (head-room hd) long told after)

  pub behind-array : (d ≡ 0 → ⊥) → h.major ≡ 4 → {mode : Mode} → mode ≡ mode_by h.info
      → pass_told inner ≡ told_of (length (take (length s - h.end) (drop h.end s))) (all_of 4 (suc (d - 1)) (until_by mode h.argument) (take (length s - h.end) (drop h.end s))) → pass_told part ≡ pass_of (length s) (item d s)
  behind-array p r {mode} m told =
      inside hd d (omega arith) (omega arith) p (omega arith)
      (all_told 4 (suc (d - 1)) (until_by mode h.argument) inner part (head-room hd) long told after
      ∙ (λ z. told_of (length s) (all_of (sym r z) (suc (d - 1)) (until_by (m z) h.argument) (drop h.end s))))

pub ruleset behind_ways = (behind-string, behind-chunks, behind_deep, behind-tag, behind-array, behind-map)

-- the entries of a map
module _ (d : ℕ) {s : List ℕ} {from : ℕ} (w : Within s from) (inner : std.Result Passage Refusal) (long : length s * 1 < 2 ^ 63) (part : std.Result Passage Refusal) (after : pass_told part ≡ after_told from 0 (pass_told inner)) (mode : Mode) (count : ℕ) where
  pub map_twice : mode ≡ Counted → pass_told inner ≡ told_of (length (take (length s - from) (drop from s))) (all_of 4 (suc d) (until_by Counted (count * 2)) (take (length s - from) (drop from s)))
      → pass_told part ≡ told_of (length s) (all_of 5 (suc d) (until_by mode count) (drop from s))
  unfolding until_by
  map_twice e told = rw e (all_told 4 (suc d) (counted (count * 2)) inner part w long told after ∙ ap (told_of (length s)) (all_double (suc d) count (drop from s)))

  pub map-several : pass_told inner ≡ told_of (length (take (length s - from) (drop from s))) (all_of 5 (suc d) (until_by mode count) (take (length s - from) (drop from s)))
      → pass_told part ≡ told_of (length s) (all_of 5 (suc d) (until_by mode count) (drop from s))
  map-several told = all_told 5 (suc d) (until_by mode count) inner part w long told after

pub ruleset map_ways = (map_twice, map-several)

-- AN ITEM BY WHERE ITS HEAD ENDS

pub no-head : {s : List ℕ} {at : ℕ} {r : std.Option ℕ} → HeadEnd s at r → r ≡ None → HeadEnd s at None
no-head h e = rw e at h

module _ {s : List ℕ} (he : HeadEnd s 0 None) (a : std.Result HeadAt Refusal) (told : head_told a ≡ head_at s 0) where
  pub headless_refused : {e : Refusal} → a ≡ Err e → Headless s (Err e)
  unfolding pass_of
  headless_refused i = record { is = λ d. rw (item_eq d s) (head-lost s contents _ a told i) }

  pub headless_not : {h : HeadAt} {r : std.Result Passage Refusal} → a ≡ Ok h → Headless s r
  unfolding head_told
  headless_not {h} i = absurd (he.lost refl h.major h.info h.argument h.end (rw i at told))

pub ruleset headless_ways = (headless_refused, headless_not)

pub one_headless : (d : ℕ) {s : List ℕ} {r : std.Result Passage Refusal} → Headless s r → pass_told r ≡ told_of (length s) (one_of 4 (suc d) s)
one_headless d {s} h = one-item (length s) d s (h.is d)

module _ {s : List ℕ} {end : ℕ} {r : std.Option ℕ} (he : HeadEnd s 0 r) (is : r ≡ Some end) where
  pub one-room : HeadRoom s 0
  one-room = (he.ends end is).room

  pub one_inside : 0 < length s
  one_inside = omega (arith, one-room.inside)

  pub one_headed : {n : ℕ} → n ≡ argument_at s 0 → Headed s (record { major = get_or s 0 0 / 32; info = get_or s 0 0 % 32; argument = n; end = end })
  unfolding head_told
  one_headed e = record { is = ap (λ (n : ℕ). head_found (get_or s 0 0 / 32) (get_or s 0 0 % 32) n end) e ∙ (he.ends end is).found }

  module _ (d : ℕ) {t : PassTold} where
    pub one-leaf : get_or s 0 0 / 32 ≤ 1 → t ≡ passed end 0 → t ≡ told_of (length s) (one_of 4 (suc d) s)
    one-leaf l e = one-item (length s) d s (behind-leaf (one_headed refl) d l e)

    pub one-break : get_or s 0 0 / 32 ≡ 7 → get_or s 0 0 ≡ 255 → t ≡ pass_refused (kind_number NotWellFormed) 0 → t ≡ told_of (length s) (one_of 4 (suc d) s)
    one-break m b e = one-item (length s) d s (behind-break (one_headed refl) d m (ap (λ (k : ℕ). k % 32) b) e)

    pub one-simple : get_or s 0 0 / 32 ≡ 7 → (get_or s 0 0 ≡ 255 → ⊥) → t ≡ passed end 0 → t ≡ told_of (length s) (one_of 4 (suc d) s)
    one-simple m b e = one-item (length s) d s (behind-simple (one_headed refl) d m (omega arith) e)

pub ruleset one_ways = (one_headless, one-leaf, one-break, one-simple, one-item)

-- THE WHOLE

pub all_long : (s : List ℕ) {t : PassTold} → 65535 < length s → t ≡ pass_refused (kind_number TooLong) 0 → t ≡ walk_all_of (length s) (decode s)
unfolding walk_all_of decode map_result told_of kind_number
all_long s h e = e ∙ rw (lt-leb (length s) 65535 h, decode) (at_front too_long (length s))

pub all_short : (s : List ℕ) {t : PassTold} → length s ≤ 65535 → t ≡ told_of (length s) (all_of 4 (suc 16) (until_by Ended 0) s) → t ≡ walk_all_of (length s) (decode s)
unfolding walk_all_of decode until_by below
all_short s h e = e ∙ ap (told_of (length s)) (all-items 17 ended s) ∙ sym (rw (le-leb (length s) 65535 h, decode))

pub ruleset all_ways = (all_long, all_short)
