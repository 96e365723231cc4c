-- A path followed through the bytes of items leads where the path leads in the items.
-- Assumes nothing.
use Prim.Native.Nat.{ℕ, zero, suc, ◌-◌, ◌≤◌}
use native.Mathlib.Omega.{arith}
use mathlib.Core.Path.{◌≡◌, refl, sym, ap, ◌∙◌}
use mathlib.Core.Bool.{Bool, true, false}
use mathlib.Core.List.{List, [], ◌∷◌, ◌++◌, append_assoc, append-nil}
use lib.ListN.{length}
use borrow.Author.Tests.{ne_eqb}
use Rattle.cbor.specs.Refusals.{Result, ok, refuse, bind, bad_typed_array}
use Rattle.cbor.specs.Items.{Kind, Size, definite, indefinite, unsigned, negative, byte_string, text_string, Item, int, string, chunked, array, map, tag, simple, Items, none, more, Pairs, none₂, more₂, count, count₂, levels, levels_all, levels_all₂}
use Rattle.cbor.specs.Heads.{Major, integers, strings, arrays, maps, tags, simples, major_number, Head, next_head, is_indefinite}
use Rattle.cbor.specs.Encode.{opening_head, closing_break, enclosed, encode, encode_all, encode_all₂}
use Rattle.cbor.specs.TypedArrays.{may_tag}
use Rattle.cbor.specs.Valid.{Fits, Valid, ValidAll, ValidAll₂}
use Rattle.cbor.specs.Decode.{Until, ended, content_at, chunks_of, elements, entries, entry_at, extent, tagged, item_by, item as item_at}
use Rattle.cbor.specs.Paths.{Spot, Found, found, nowhere, within, nth, nth₂, child, onward, descend, locate}
use Rattle.walk_answer.specs.WalkAnswers.{map_result, below, one_of, entry_contents, contents}
use Rattle.cbor.proofs.Results.{refuse_not_ok}
use Rattle.cbor.proofs.Several.{tail_of, Meets, Begins, begins-more, step-over, Goes, goes}
use Rattle.cbor.proofs.DecodeEncode.{enter_at, shown, plain_arrays, plain_maps, Plain, begins, opening_shown, closing_tail, shown_meets, item_of_encode}
use Rattle.walk_parts.proofs.WalkItems.{item_eq}
use Rattle.path.specs.Following.{Place, at, astray, onto, behind_one, past_one, nth_from, child_by, child_at, child_in, numbered, follow_from, trace}
use Rattle.path.proofs.Stepping.{nth-none, nth-zero, nth-more}

-- an item that can be read with 16 levels left
abbrev pub Sound : Item → Type 0
Sound x = Valid x × (levels x ≤ 16)

abbrev pub SoundAll : Items → Type 0
SoundAll xs = ValidAll xs × (levels_all xs ≤ 16)

abbrev SoundAll₂ : Pairs → Type 0
SoundAll₂ ps = ValidAll₂ ps × (levels_all₂ ps ≤ 16)

-- the place that is found, where b stands behind it all
abbrev placed : Found Spot → List ℕ → Place
placed (found z) b = at (encode z.item ++ (z.behind ++ b))
placed (nowhere i) b = astray

abbrev pub spotted : Found Spot → List ℕ → Found (List ℕ)
spotted (found z) b = found (encode z.item ++ (z.behind ++ b))
spotted (nowhere i) b = nowhere i

placed-within : (a b c : List ℕ) (f : Found Spot) → placed (within a b f) c ≡ placed f (b ++ c)
unfolding within
placed-within a b c (found z) = ap (λ (t : List ℕ). at (encode z.item ++ t)) (append_assoc z.behind b c)
placed-within a b c (nowhere i) = refl

spotted-within : (a b c : List ℕ) (f : Found Spot) → spotted (within a b f) c ≡ spotted f (b ++ c)
unfolding within
spotted-within a b c (found z) = ap (λ (t : List ℕ). found (encode z.item ++ t)) (append_assoc z.behind b c)
spotted-within a b c (nowhere i) = refl

-- ONE OF SEVERAL

past-item : (x : Item) (r : List ℕ) → Sound x → past_one 4 (encode x ++ r) ≡ at r
unfolding past_one one_of below map_result behind_one
past-item x r v = ap (λ (k : Result Item). behind_one (map_result contents k)) (item_of_encode x 16 r v.0 v.1)

past_entry : (y x : Item) (r : List ℕ) → Sound y → Sound x → past_one 5 ((encode y ++ encode x) ++ r) ≡ at r
unfolding past_one one_of below map_result behind_one entry_at bind
past_entry y x r v w =
    ap (λ (t : List ℕ). behind_one (map_result entry_contents (entry_at (item_at 16) t))) (append_assoc (encode y) (encode x) r)
    ∙ rw (item_of_encode y 16 (encode x ++ r) v.0 v.1) (rw (item_of_encode x 16 r w.0 w.1))

-- another one stands there
goes_on : (u : Until) (n : ℕ) (x c r : List ℕ) → Begins x → Meets u (suc n) r → Goes u n ((x ++ c) ++ tail_of u r) r
goes_on u n x c r b m = goes u n ((x ++ c) ++ tail_of u r) r (begins-more (tail_of u r) (begins-more c b)) m

nth-place : (i k : ℕ) (xs : Items) (u : Until) (r : List ℕ) → SoundAll xs → Meets u (count xs) r → nth_from 4 k u (encode_all xs ++ tail_of u r) ≡ placed (nth i k xs) (tail_of u r)
unfolding encode_all ValidAll levels_all count nth onto
nth-place i k none u r v m = nth-none 4 k u (tail_of u r) r (step-over u r m)
nth-place i zero (more x xs) u r v m =
    let g = goes_on u (count xs) (encode x) (encode_all xs) r (begins x v.0.0) m in
    nth-zero 4 0 u g.next _ g.step refl ∙ ap at (append_assoc (encode x) (encode_all xs) (tail_of u r))
nth-place i (suc k) (more x xs) u r v m =
    let g = goes_on u (count xs) (encode x) (encode_all xs) r (begins x v.0.0) m in
    let one : k ≡ suc k - 1 = omega arith in
    nth-more 4 (suc k) u g.next _ g.step (λ e. omega arith)
    ∙ ap (λ (n : ℕ). onto (past_one 4 ((encode x ++ encode_all xs) ++ tail_of u r)) (nth_from 4 n g.next)) (sym one)
    ∙ ap (λ (p : Place). onto p (nth_from 4 k g.next)) (ap (past_one 4) (append_assoc (encode x) (encode_all xs) (tail_of u r)) ∙ past-item x (encode_all xs ++ tail_of u r) (v.0.0, omega arith))
    ∙ ap (λ (t : List ℕ). nth_from 4 k g.next (encode_all xs ++ t)) (sym g.tail)
    ∙ nth-place i k xs g.next r (v.0.1, omega arith) g.meets
    ∙ ap (λ (t : List ℕ). placed (nth i k xs) t) g.tail
    ∙ sym (placed-within (encode x) [] (tail_of u r) (nth i k xs))

nth_place₂ : (i k : ℕ) (ps : Pairs) (u : Until) (r : List ℕ) → SoundAll₂ ps → Meets u (count₂ ps) r → onto (nth_from 5 k u (encode_all₂ ps ++ tail_of u r)) (past_one 4) ≡ placed (nth₂ i k ps) (tail_of u r)
unfolding encode_all₂ ValidAll₂ levels_all₂ count₂ nth₂ onto
nth_place₂ i k none₂ u r v m = ap (λ (p : Place). onto p (past_one 4)) (nth-none 5 k u (tail_of u r) r (step-over u r m))
nth_place₂ i zero (more₂ y x ps) u r v m =
    let g = goes_on u (count₂ ps) (encode y ++ encode x) (encode_all₂ ps) r (begins-more (encode x) (begins y v.0.0)) m in
    ap (λ (p : Place). onto p (past_one 4)) (nth-zero 5 0 u g.next _ g.step refl)
    ∙ ap (past_one 4) (append_assoc (encode y ++ encode x) (encode_all₂ ps) (tail_of u r) ∙ append_assoc (encode y) (encode x) (encode_all₂ ps ++ tail_of u r))
    ∙ past-item y (encode x ++ (encode_all₂ ps ++ tail_of u r)) (v.0.0, omega arith)
nth_place₂ i (suc k) (more₂ y x ps) u r v m =
    let g = goes_on u (count₂ ps) (encode y ++ encode x) (encode_all₂ ps) r (begins-more (encode x) (begins y v.0.0)) m in
    let one : k ≡ suc k - 1 = omega arith in
    ap (λ (p : Place). onto p (past_one 4)) (nth-more 5 (suc k) u g.next _ g.step (λ e. omega arith)
    ∙ ap (λ (n : ℕ). onto (past_one 5 (((encode y ++ encode x) ++ encode_all₂ ps) ++ tail_of u r)) (nth_from 5 n g.next)) (sym one)
    ∙ ap (λ (p : Place). onto p (nth_from 5 k g.next))
    (ap (past_one 5) (append_assoc (encode y ++ encode x) (encode_all₂ ps) (tail_of u r)) ∙ past_entry y x (encode_all₂ ps ++ tail_of u r) (v.0.0, omega arith) (v.0.1, omega arith))
    ∙ ap (λ (t : List ℕ). nth_from 5 k g.next (encode_all₂ ps ++ t)) (sym g.tail))
    ∙ nth_place₂ i k ps g.next r (v.0.2, omega arith) g.meets
    ∙ ap (λ (t : List ℕ). placed (nth₂ i k ps) t) g.tail
    ∙ sym (placed-within (encode y ++ encode x) [] (tail_of u r) (nth₂ i k ps))

-- INTO AN ITEM

-- the major type of an item
abbrev shape : Item → Major
shape (int g w n) = integers g
shape (string k w b) = strings k
shape (chunked k cs) = strings k
shape (array z xs) = arrays
shape (map z ps) = maps
shape (tag w n x) = tags
shape (simple n) = simples

abbrev Shaped : Major → Result Item → Type 0
Shaped m (ok x r) = shape x ≡ m
Shaped m (refuse n l) = Unit

made_shaped : {A : Type 0} (m : Major) (mk : A → Item) → ((x : A) → shape (mk x) ≡ m) → (res : Result A) → Shaped m (bind res (λ x r. ok (mk x) r))
unfolding bind
made_shaped m mk h (ok x r) = h x
made_shaped m mk h (refuse n l) = tt

tagged_shaped : (w : _) (n left : ℕ) (res : Result Item) → Shaped tags (bind res (tagged w n left))
unfolding bind tagged
tagged_shaped w n left (ok x r) = by (may_tag n x)
  where
    by : (v : Bool) → Shaped tags (elim v [ true ↦ ok (tag w n x) r | false ↦ refuse bad_typed_array left ])
    by true = refl
    by false = tt
tagged_shaped w n left (refuse k l) = tt

by_shaped : (d : ℕ) (m : Major) (z : Size) (n left : ℕ) (r : List ℕ) → Shaped m (item_by (enter_at d) m z n left r)
unfolding item_by
by_shaped d (integers g) (definite w) n left r = refl
by_shaped d (integers g) indefinite n left r = tt
by_shaped d (strings k) (definite w) n left r = made_shaped (strings k) (string k w) (λ b. refl) (content_at k n left r)
by_shaped d (strings k) indefinite n left r = made_shaped (strings k) (chunked k) (λ cs. refl) (chunks_of k r)
by_shaped zero arrays z n left r = tt
by_shaped (suc d) arrays z n left r = made_shaped arrays (array z) (λ xs. refl) (elements (item_at d) (extent z n) r)
by_shaped zero maps z n left r = tt
by_shaped (suc d) maps z n left r = made_shaped maps (map z) (λ xs. refl) (entries (item_at d) (extent z n) r)
by_shaped zero tags (definite w) n left r = tt
by_shaped (suc d) tags (definite w) n left r = tagged_shaped w n left (item_at d r)
by_shaped d tags indefinite n left r = tt
by_shaped d simples (definite w) n left r = refl
by_shaped d simples indefinite n left r = tt

-- an item that is no array and no map has no children
no-child : (k : ℕ) (x : Item) (b : List ℕ) → Sound x → (major_number (shape x) ≡ 4 → ⊥) → (major_number (shape x) ≡ 5 → ⊥) → child_in k (encode x ++ b) ≡ astray
unfolding child_in child_by child_at bind
no-child k x b v p q = by (next_head (encode x ++ b)) (sym (item_eq 16 (encode x ++ b)) ∙ item_of_encode x 16 b v.0 v.1)
  where
    not : (m : Major) → shape x ≡ m → (u : Until) (r : List ℕ) → child_by k (major_number m) u r ≡ astray
    not m e u r = simp (child_by, ne_eqb (major_number m) 4 (λ i. p (ap major_number e ∙ i)), ne_eqb (major_number m) 5 (λ i. q (ap major_number e ∙ i)))

    shaped : (m : Major) (res : Result Item) → Shaped m res → res ≡ ok x b → shape x ≡ m
    shaped m (ok y r) e f = let i : y ≡ x = cc in ap shape (sym i) ∙ e
    shaped m (refuse n l) e f = absurd (refuse_not_ok f)

    by : (res : Result Head) → bind res (λ h r. item_by (enter_at 16) h.major h.size h.argument (length (encode x ++ b)) r) ≡ ok x b → child_at k res ≡ astray
    by (ok h r) e = not h.major (shaped h.major _ (by_shaped 16 h.major h.size h.argument (length (encode x ++ b)) r) e) (extent h.size h.argument) r
    by (refuse n l) e = refl

-- behind the head of an array or a map
inside_is : (k : ℕ) (m : Major) (z : Size) (n : ℕ) (c b : List ℕ) → Plain m → is_indefinite m ≡ true → Fits z n
    → child_in k (enclosed m z n c ++ b) ≡ child_by k (major_number m) (extent z (shown z n)) (c ++ tail_of (extent z (shown z n)) b)
unfolding child_in child_at enclosed
inside_is k m z n c b p i h =
    let split : (opening_head m z n ++ (c ++ closing_break z)) ++ b ≡ opening_head m z n ++ (c ++ tail_of (extent z (shown z n)) b) = simp append_assoc (rw (closing_tail z (shown z n) b)) in
    ap (λ (t : List ℕ). child_at k (next_head t)) split ∙ ap (child_at k) (opening_shown m z n (c ++ tail_of (extent z (shown z n)) b) p i h)

child-place : (i k : ℕ) (x : Item) (b : List ℕ) → Sound x → child_in k (encode x ++ b) ≡ placed (child i k x) b
unfolding child encode Valid levels child_by is_indefinite major_number
child-place i k (int g w n) b v = no-child k (int g w n) b v (λ e. omega (arith, small g)) (λ e. omega (arith, small g))
  where
    small : (g : _) → major_number (integers g) ≤ 1
    small unsigned = omega arith
    small negative = omega arith
child-place i k (string s w c) b v = no-child k (string s w c) b v (λ e. omega (arith, small s)) (λ e. omega (arith, small s))
  where
    small : (s : Kind) → major_number (strings s) ≤ 3
    small byte_string = omega arith
    small text_string = omega arith
child-place i k (chunked s cs) b v = no-child k (chunked s cs) b v (λ e. omega (arith, small s)) (λ e. omega (arith, small s))
  where
    small : (s : Kind) → major_number (strings s) ≤ 3
    small byte_string = omega arith
    small text_string = omega arith
child-place i k (array z xs) b v =
    inside_is k arrays z (count xs) (encode_all xs) b plain_arrays refl v.0.0
    ∙ nth-place i k xs (extent z (shown z (count xs))) b (v.0.1, omega arith) (shown_meets z (count xs) b)
    ∙ ap (placed (nth i k xs)) (sym (closing_tail z (shown z (count xs)) b))
    ∙ sym (placed-within (opening_head arrays z (count xs)) (closing_break z) b (nth i k xs))
child-place i k (map z ps) b v =
    inside_is k maps z (count₂ ps) (encode_all₂ ps) b plain_maps refl v.0.0
    ∙ nth_place₂ i k ps (extent z (shown z (count₂ ps))) b (v.0.1, omega arith) (shown_meets z (count₂ ps) b)
    ∙ ap (placed (nth₂ i k ps)) (sym (closing_tail z (shown z (count₂ ps)) b))
    ∙ sym (placed-within (opening_head maps z (count₂ ps)) (closing_break z) b (nth₂ i k ps))
child-place i k (tag w n x) b v = no-child k (tag w n x) b v (λ e. omega arith) (λ e. omega arith)
child-place i k (simple n) b v = no-child k (simple n) b v (λ e. omega arith) (λ e. omega arith)

-- what is found can be read, and a step that fails is the one that was asked for
pub Well : ℕ → Found Spot → Type 0
Well i (found z) = Sound z.item
Well i (nowhere j) = j ≡ i

within_well : (i : ℕ) (a b : List ℕ) (f : Found Spot) → Well i f → Well i (within a b f)
unfolding within Well
within_well i a b (found z) h = h
within_well i a b (nowhere j) h = h

nth_well : (i k : ℕ) (xs : Items) → SoundAll xs → Well i (nth i k xs)
unfolding nth Well ValidAll levels_all
nth_well i k none v = refl
nth_well i zero (more x xs) v = (v.0.0, omega arith)
nth_well i (suc k) (more x xs) v = within_well i (encode x) [] (nth i k xs) (nth_well i k xs (v.0.1, omega arith))

nth_well₂ : (i k : ℕ) (ps : Pairs) → SoundAll₂ ps → Well i (nth₂ i k ps)
unfolding nth₂ Well ValidAll₂ levels_all₂
nth_well₂ i k none₂ v = refl
nth_well₂ i zero (more₂ y x ps) v = (v.0.1, omega arith)
nth_well₂ i (suc k) (more₂ y x ps) v = within_well i (encode y ++ encode x) [] (nth₂ i k ps) (nth_well₂ i k ps (v.0.2, omega arith))

child_well : (i k : ℕ) (x : Item) → Sound x → Well i (child i k x)
unfolding child Well Valid levels
child_well i k (int g w n) v = refl
child_well i k (string s w c) v = refl
child_well i k (chunked s cs) v = refl
child_well i k (array z xs) v = within_well i (opening_head arrays z (count xs)) (closing_break z) (nth i k xs) (nth_well i k xs (v.0.1, omega arith))
child_well i k (map z ps) v = within_well i (opening_head maps z (count₂ ps)) (closing_break z) (nth₂ i k ps) (nth_well₂ i k ps (v.0.1, omega arith))
child_well i k (tag w n x) v = refl
child_well i k (simple n) v = refl

-- THE PATH

-- a step, and those behind it
step-place : (i : ℕ) (p : List ℕ) (b : List ℕ) (f : Found Spot) → Well i f → ((x : Item) (c : List ℕ) → Sound x → follow_from (suc i) p (encode x ++ c) ≡ spotted (descend (suc i) p x) c)
    → numbered i (placed f b) (follow_from (suc i) p) ≡ spotted (onward f (descend (suc i) p)) b
unfolding numbered onward Well
step-place i p b (found z) w h = h z.item (z.behind ++ b) w ∙ sym (spotted-within z.before z.behind b (descend (suc i) p z.item))
step-place i p b (nowhere j) w h = ap nowhere (sym w)

descend-place : (p : List ℕ) (i : ℕ) (x : Item) (b : List ℕ) → Sound x → follow_from i p (encode x ++ b) ≡ spotted (descend i p x) b
unfolding follow_from descend
descend-place [] i x b v = refl
descend-place (k ∷ p) i x b v =
    ap (λ (q : Place). numbered i q (follow_from (suc i) p)) (child-place i k x b v) ∙ step-place i p b (child i k x) (child_well i k x v) (descend-place p (suc i))

pub locate-place : (p : List ℕ) (xs : Items) → SoundAll xs → trace p (encode_all xs) ≡ spotted (locate p xs) []
unfolding trace locate
locate-place [] xs v = refl
locate-place (k ∷ p) xs v =
    ap (λ (q : Place). numbered 0 q (follow_from 1 p)) (ap (nth_from 4 k ended) (sym (append-nil (encode_all xs))) ∙ nth-place 0 k xs ended [] v refl)
    ∙ step-place 0 p [] (nth 0 k xs) (nth_well 0 k xs v) (descend-place p 1)

-- the item at a path can be read
AnyWell : Found Spot → Type 0
AnyWell (found z) = Sound z.item
AnyWell (nowhere j) = Unit

any_within : (a b : List ℕ) (f : Found Spot) → AnyWell f → AnyWell (within a b f)
unfolding within AnyWell
any_within a b (found z) h = h
any_within a b (nowhere j) h = tt

onward_well : (i : ℕ) (f : Found Spot) (go : Item → Found Spot) → Well i f → ((x : Item) → Sound x → AnyWell (go x)) → AnyWell (onward f go)
unfolding onward Well AnyWell
onward_well i (found z) go w h = any_within z.before z.behind (go z.item) (h z.item w)
onward_well i (nowhere j) go w h = tt

descend_well : (p : List ℕ) (i : ℕ) (x : Item) → Sound x → AnyWell (descend i p x)
unfolding descend AnyWell
descend_well [] i x v = v
descend_well (k ∷ p) i x v = onward_well i (child i k x) (descend (suc i) p) (child_well i k x v) (descend_well p (suc i))

locate_well : (p : List ℕ) (xs : Items) → SoundAll xs → AnyWell (locate p xs)
unfolding locate AnyWell
locate_well [] xs v = tt
locate_well (k ∷ p) xs v = onward_well 0 (nth 0 k xs) (descend 1 p) (nth_well 0 k xs v) (descend_well p 1)

pub locate_sound : (p : List ℕ) (xs : Items) (z : Spot) → SoundAll xs → locate p xs ≡ found z → Sound z.item
unfolding AnyWell
locate_sound p xs z v e = rw e at (locate_well p xs v)
