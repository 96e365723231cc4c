-- What heads, strings, entries and items leave behind them.
-- Assumes nothing.
use Prim.Native.Nat.{ℕ, zero, suc, ◌+◌, ◌-◌, ◌/◌, ◌%◌, ◌≤◌}
use native.Mathlib.Omega.{arith}
use mathlib.Core.Path.{◌≡◌, refl}
use mathlib.Core.Bool.{Bool, true, false}
use mathlib.Core.List.{List, [], ◌∷◌}
use lib.Dec.{leb, eqb}
use lib.ListN.{length, take, drop, get_or, length-take}
use borrow.Author.Tests.{leb-true}
use Rattle.cbor.specs.Refusals.{Result, ok, refuse, bind, not_utf8, not_well_formed, ends_inside, float, bad_typed_array}
use Rattle.cbor.specs.Widths.{Width, w0, w1, w2, w4, w8, argument_bytes, information, value_from}
use Rattle.cbor.specs.Items.{Kind, Size, definite, indefinite, Chunk, Item, chunked, array, map, tag, none, more, none₂}
use Rattle.cbor.specs.Heads.{Major, integers, strings, arrays, maps, tags, simples, major_number, major_of, Head, Information, argument, reserved, open_ended, information_of, is_float, is_allowed, is_indefinite, taking, started, argued, head_by, next_head}
use Rattle.cbor.specs.TypedArrays.{chunks_length, may_tag}
use Rattle.cbor.specs.Valid.{is_text}
use Rattle.cbor.specs.Decode.{Until, broken, several, content_at, chunk_by, chunk_at, entry_at, extent, tagged, elements, pair, entries, chunks_of, item_by, item_with, item}
use Rattle.walk_answer.specs.WalkAnswers.{contents, contents_all, contents_all₂, map_result, below, entry_contents, chunk_contents}
use Rattle.cbor.proofs.DecodeEncode.{enter_at}
use Rattle.walk_answer.proofs.Leaves.{Left, Leaves, left_cut, left_weak, left-on, leaves-behind, leaves-bind, same, leaves-sized, sized-leaves, several-sized, several-leaves}

-- HEADS

abbrev pub nought : {A : Type 0} → A → ℕ
nought x = 0

-- the additional information of a definite length is at most 27
abbrev Low : ℕ → Information → Type 0
Low i (argument w) = information w i ≤ 27
Low i reserved = Unit
Low i open_ended = Unit

information-low : (i : ℕ) → Low i (information_of i)
unfolding information_of information
information-low i = by (leb i 23) refl
  where
    wide : (k : ℕ) → Low i (get_or (argument w1 ∷ argument w2 ∷ argument w4 ∷ argument w8 ∷ reserved ∷ reserved ∷ reserved ∷ []) k open_ended)
    wide zero = omega arith
    wide (suc zero) = omega arith
    wide (suc (suc zero)) = omega arith
    wide (suc (suc (suc zero))) = omega arith
    wide (suc (suc (suc (suc zero)))) = tt
    wide (suc (suc (suc (suc (suc zero))))) = tt
    wide (suc (suc (suc (suc (suc (suc zero)))))) = tt
    wide (suc (suc (suc (suc (suc (suc (suc k))))))) = tt

    by : (t : Bool) → leb i 23 ≡ t
        → Low i (elim t [ true ↦ argument w0 | false ↦ get_or (argument w1 ∷ argument w2 ∷ argument w4 ∷ argument w8 ∷ reserved ∷ reserved ∷ reserved ∷ []) (i - 24) open_ended ])
    by true e = omega (arith, leb-true i 23 e)
    by false e = wide (i - 24)

-- and an indefinite one stands where it may
abbrev pub LowSize : Major → Size → ℕ → Type 0
LowSize m (definite w) n = information w n ≤ 27
LowSize m indefinite n = is_indefinite m ≡ true

-- what is known of a head that was read
pub record HeadLeft (s : List ℕ) (m : Major) (h : Head) (r : List ℕ) : Type 0 where
  pub left : Left 1 s r 0
  pub major : h.major ≡ m
  pub low : LowSize m h.size h.argument

abbrev HeadLeaves : List ℕ → Major → Result Head → Type 0
HeadLeaves s m (ok h r) = HeadLeft s m h r
HeadLeaves s m (refuse n left) = left ≤ length s

module _ (b : ℕ) (s : List ℕ) (m : Major) where
  behind-one : (r : List ℕ) (z : ℕ) → Left 0 s r z → Left 1 (b ∷ s) r 0
  behind-one r z l = left_weak (omega arith) (omega arith) (left-on (left_cut 1 0 1 (b ∷ s) (omega arith) (omega arith) (omega arith)) l)

  argued-leaves : (w : Width) (n : ℕ) (r : List ℕ) → information w n ≤ 27 → Left 1 (b ∷ s) r 0 → HeadLeaves (b ∷ s) m (argued m w n (suc (length s)) r)
  unfolding argued
  argued-leaves w n r h l = by (is_allowed m w n)
    where
      by : (t : Bool) → HeadLeaves (b ∷ s) m (elim t [ true ↦ ok (record { major = m; size = definite w; argument = n }) r | false ↦ refuse not_well_formed (suc (length s)) ])
      by true = record { left = l; major = refl; low = h }
      by false = omega arith

  -- the bytes of the argument leave the additional information as it was
  kept : (w : Width) (i : ℕ) (bs : List ℕ) → length bs ≤ argument_bytes w → information w i ≤ 27 → information w (value_from (started w i) bs) ≤ 27
  unfolding information started argument_bytes value_from
  kept w0 i [] l h = h
  kept w0 i (b ∷ bs) l h = absurd (omega arith)
  kept w1 i bs l h = omega arith
  kept w2 i bs l h = omega arith
  kept w4 i bs l h = omega arith
  kept w8 i bs l h = omega arith

  -- an argument that was taken
  abbrev Taken : ℕ → Result (List ℕ) → Type 0
  Taken k (ok bs r) = length bs ≤ k
  Taken k (refuse n left) = Unit

  taken : (k left : ℕ) (t : List ℕ) → Taken k (taking k left t)
  unfolding taking
  taken k left t = by (leb k (length t))
    where
      by : (v : Bool) → Taken k (elim v [ true ↦ ok (take k t) (drop k t) | false ↦ refuse ends_inside left ])
      by true = omega (arith, length-take k t)
      by false = tt

  argument-leaves : (w : Width) (i : ℕ) → information w i ≤ 27 → (res : Result (List ℕ)) → Taken (argument_bytes w) res → Leaves 1 nought (b ∷ s) res
      → HeadLeaves (b ∷ s) m (bind res (λ bs r. argued m w (value_from (started w i) bs) (suc (length s)) r))
  unfolding bind
  argument-leaves w i h (ok bs r) t l = argued-leaves w (value_from (started w i) bs) r (kept w i bs t h) l
  argument-leaves w i h (refuse n left) t l = l

  by-leaves : (j : Information) (i : ℕ) → Low i j → HeadLeaves (b ∷ s) m (head_by m j i (suc (length s)) s)
  unfolding head_by taking
  by-leaves (argument w) i h = by (is_float m w)
    where
      by : (t : Bool)
          → HeadLeaves (b ∷ s) m (elim t [ true ↦ refuse float (suc (length s)) | false ↦ bind (taking (argument_bytes w) (suc (length s)) s) (λ bs r. argued m w (value_from (started w i) bs) (suc (length s)) r) ])
      by true = omega arith
      by false = argument-leaves w i h (taking (argument_bytes w) (suc (length s)) s) (taken (argument_bytes w) (suc (length s)) s) (cut (argument_bytes w))
        where
          cut : (k : ℕ) → Leaves 1 nought (b ∷ s) (taking k (suc (length s)) s)
          cut k = go (leb k (length s)) refl
            where
              go : (t : Bool) → leb k (length s) ≡ t → Leaves {A = List ℕ} 1 nought (b ∷ s) (elim t [ true ↦ ok (take k s) (drop k s) | false ↦ refuse ends_inside (suc (length s)) ])
              go true e = behind-one (drop k s) 0 (left_cut 0 0 k s (omega arith) (omega arith) (leb-true k (length s) e))
              go false e = omega arith
  by-leaves reserved i h = omega arith
  by-leaves open_ended i h = by (is_indefinite m) refl
    where
      by : (t : Bool) → is_indefinite m ≡ t → HeadLeaves (b ∷ s) m (elim t [ true ↦ ok (record { major = m; size = indefinite; argument = 0 }) s | false ↦ refuse not_well_formed (suc (length s)) ])
      by true e = record { left = left_cut 1 0 1 (b ∷ s) (omega arith) (omega arith) (omega arith); major = refl; low = e }
      by false e = omega arith

pub head-leaves : (s : List ℕ) → HeadLeaves s (major_of (get_or s 0 0 / 32)) (next_head s)
unfolding next_head
head-leaves [] = omega arith
head-leaves (b ∷ s) = by-leaves b s (major_of (b / 32)) (information_of (b % 32)) (b % 32) (information-low (b % 32))

pub head-left : (s : List ℕ) {h : Head} {r : List ℕ} → next_head s ≡ ok h r → HeadLeft s (major_of (get_or s 0 0 / 32)) h r
head-left s e = rw e at (head-leaves s)

head_weak : (s : List ℕ) (m : Major) (res : Result Head) → HeadLeaves s m res → Leaves 1 nought s res
head_weak s m (ok h r) l = l.left
head_weak s m (refuse n left) l = l

pub head-within : (s : List ℕ) → Leaves 1 nought s (next_head s)
head-within s = head_weak s (major_of (get_or s 0 0 / 32)) (next_head s) (head-leaves s)

-- STRINGS

module _ (s r : List ℕ) (l : Left 1 s r 0) where
  pub content-leaves : (k : Kind) (n : ℕ) → Leaves 1 length s (content_at k n (length s) r)
  unfolding content_at taking bind
  content-leaves k n = by (leb n (length r)) refl
    where
      text : (b : List ℕ) (t : Bool) → length b ≤ n → n ≤ length r → Leaves {A = List ℕ} 1 length s (elim t [ true ↦ ok b (drop n r) | false ↦ refuse not_utf8 (length s) ])
      text b true h i = left_weak (omega arith) (omega arith) (left-on l (left_cut 0 n n r (omega arith) (omega arith) i))
      text b false h i = omega arith

      by : (t : Bool) → leb n (length r) ≡ t
          → Leaves {A = List ℕ} 1 length s (bind {A = List ℕ} (elim t [ true ↦ ok (take n r) (drop n r) | false ↦ refuse ends_inside (length s) ]) (λ b r'. elim (is_text k b) [ true ↦ ok b r' | false ↦ refuse not_utf8 (length s) ]))
      by true e = text (take n r) (is_text k (take n r)) (omega (arith, length-take n r)) (leb-true n (length r) e)
      by false e = omega arith

  by_chunk_leaves : (k : Kind) (z : Size) (n : ℕ) → Leaves 1 chunk_contents s (chunk_by k z n (length s) r)
  unfolding chunk_by chunk_contents
  by_chunk_leaves k (definite w) n = leaves-bind length chunk_contents (content_at k n (length s) r) _ (content-leaves k n) (λ b t i. i)
  by_chunk_leaves k indefinite n = omega arith

pub chunk_leaves : (k : Kind) (s : List ℕ) → Leaves 1 chunk_contents s (chunk_at k s)
unfolding chunk_at
chunk_leaves k [] = omega arith
chunk_leaves k (b ∷ s) = by (eqb (b / 32) (major_number (strings k)))
  where
    by : (t : Bool)
        → Leaves {A = Chunk} 1 chunk_contents (b ∷ s) (elim t [ true ↦ bind (next_head (b ∷ s)) (λ h r. chunk_by k h.size h.argument (suc (length s)) r) | false ↦ refuse not_well_formed (suc (length s)) ])
    by true = leaves-bind nought chunk_contents (next_head (b ∷ s)) _ (head-within (b ∷ s)) (λ h r l. by_chunk_leaves (b ∷ s) r l k h.size h.argument)
    by false = omega arith

pub chunks-sized : (k : Kind) (s : List ℕ) → map_result chunks_length (chunks_of k s) ≡ several 0 ◌+◌ (λ t. map_result chunk_contents (chunk_at k t)) broken s
unfolding chunks_of chunks_length chunk_contents
chunks-sized k s = several-sized [] ◌∷◌ (chunk_at k) chunk_contents chunks_length refl (λ c cs. refl) broken s

-- ITEMS

abbrev pub ItemLeaves : (List ℕ → Result Item) → Type 0
ItemLeaves rd = (s : List ℕ) → Leaves 1 contents s (rd s)

pub entry_leaves : (rd : List ℕ → Result Item) → ItemLeaves rd → (s : List ℕ) → Leaves 1 entry_contents s (entry_at rd s)
unfolding entry_at entry_contents
entry_leaves rd well s =
    leaves-bind contents entry_contents (rd s) _ (well s)
    (λ k r l. leaves-bind (λ x. contents k + contents x) entry_contents (rd r) _ (leaves-behind 1 contents (λ x. contents k + contents x) l (λ x. omega arith) (rd r) (well r)) (λ x t i. i))

pub elements-sized : (rd : List ℕ → Result Item) (u : Until) (s : List ℕ) → map_result contents_all (elements rd u s) ≡ several 0 ◌+◌ (λ t. map_result contents (rd t)) u s
unfolding elements contents_all
elements-sized rd u s = several-sized none more rd contents contents_all refl (λ x xs. refl) u s

pub entries-sized : (rd : List ℕ → Result Item) (u : Until) (s : List ℕ) → map_result contents_all₂ (entries rd u s) ≡ several 0 ◌+◌ (λ t. map_result entry_contents (entry_at rd t)) u s
unfolding entries contents_all₂ entry_contents
entries-sized rd u s = several-sized none₂ pair (entry_at rd) entry_contents contents_all₂ refl (λ x xs. refl) u s

-- what reads one level down
abbrev Deeper : ℕ → Type 0
Deeper zero = Unit
Deeper (suc d) = ItemLeaves (item d)

-- several behind a head, of which a number is kept
several-behind : {L : Type 0} (g : L → ℕ) (made : L → Item) (s r : List ℕ) → Left 1 s r 0 → (rd : List ℕ → Result ℕ) → ((t : List ℕ) → Leaves 1 same t (rd t)) → (u : Until) (res : Result L)
    → map_result g res ≡ several 0 ◌+◌ rd u r → ((xs : L) → contents (made xs) ≡ g xs) → Leaves 1 contents s (bind res (λ xs r'. ok (made xs) r'))
several-behind g made s r l rd one u res e law =
    leaves-bind g contents res _ (leaves-behind {a = 0} 0 g g l (λ xs. omega arith) res (sized-leaves 0 g r res (rw e (several-leaves rd one u r))))
    (λ xs t i. left_weak (omega arith) (omega (arith, law xs)) i)

module _ (s r : List ℕ) (l : Left 1 s r 0) where
  tag-leaves : (d : ℕ) → ItemLeaves (item d) → (w : Width) (n : ℕ) → Leaves 1 contents s (bind (item d r) (tagged w n (length s)))
  unfolding tagged contents
  tag-leaves d well w n =
      leaves-bind contents contents (item d r) _ (leaves-behind {a = 0} 1 contents contents l (λ x. omega arith) (item d r) (well r))
      (λ x t i. go x t i (may_tag n x))
    where
      go : (x : Item) (t : List ℕ) → Left 1 s t (contents x) → (v : Bool) → Leaves {A = Item} 1 contents s (elim v [ true ↦ ok (tag w n x) t | false ↦ refuse bad_typed_array (length s) ])
      go x t i true = i
      go x t i false = omega arith

  item-by-leaves : (d : ℕ) → Deeper d → (m : Major) (z : Size) (n : ℕ) → Leaves 1 contents s (item_by (enter_at d) m z n (length s) r)
  unfolding item_by contents
  item-by-leaves d i (integers g) (definite w) n = l
  item-by-leaves d i (integers g) indefinite n = omega arith
  item-by-leaves d i (strings k) (definite w) n = leaves-bind length contents (content_at k n (length s) r) _ (content-leaves s r l k n) (λ b t j. j)
  item-by-leaves d i (strings k) indefinite n =
      several-behind chunks_length (chunked k) s r l (λ t. map_result chunk_contents (chunk_at k t)) (λ t. leaves-sized 1 chunk_contents t (chunk_at k t) (chunk_leaves k t)) broken (chunks_of k r) (chunks-sized k r) (λ cs. refl)
  item-by-leaves zero i arrays z n = omega arith
  item-by-leaves (suc d) i arrays z n =
      several-behind contents_all (array z) s r l (λ t. map_result contents (item d t)) (λ t. leaves-sized 1 contents t (item d t) (i t)) (extent z n) (elements (item d) (extent z n) r) (elements-sized (item d) (extent z n) r)
      (λ xs. refl)
  item-by-leaves zero i maps z n = omega arith
  item-by-leaves (suc d) i maps z n =
      several-behind contents_all₂ (map z) s r l (λ t. map_result entry_contents (entry_at (item d) t)) (λ t. leaves-sized 1 entry_contents t (entry_at (item d) t) (entry_leaves (item d) i t)) (extent z n)
      (entries (item d) (extent z n) r) (entries-sized (item d) (extent z n) r) (λ ps. refl)
  item-by-leaves zero i tags (definite w) n = omega arith
  item-by-leaves (suc d) i tags (definite w) n = tag-leaves d i w n
  item-by-leaves d i tags indefinite n = omega arith
  item-by-leaves d i simples (definite w) n = l
  item-by-leaves d i simples indefinite n = omega arith

with_leaves : (d : ℕ) → Deeper d → (s : List ℕ) → Leaves 1 contents s (item_with (enter_at d) s)
unfolding item_with
with_leaves d i s = leaves-bind nought contents (next_head s) _ (head-within s) (λ h r l. item-by-leaves s r l d i h.major h.size h.argument)

pub item-leaves : (d : ℕ) → ItemLeaves (item d)
unfolding item
item-leaves zero s = with_leaves zero tt s
item-leaves (suc d) s = with_leaves (suc d) (item-leaves d) s

pub below-leaves : (d : ℕ) → ItemLeaves (below d)
unfolding below
below-leaves zero s = omega arith
below-leaves (suc d) s = item-leaves d s
