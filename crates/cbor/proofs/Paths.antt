-- The part of the bytes at a path.
use Prim.Native.Nat.{ℕ, zero, suc}
use mathlib.Core.Path.{◌≡◌, refl, sym, ap, ◌∙◌}
use mathlib.Core.List.{List, [], ◌∷◌, ◌++◌, append_assoc, append-nil}
use Rattle.cbor.specs.Items.{Size, Item, int, string, chunked, array, map, tag, simple, Items, none, more, Pairs, none₂, more₂, count, count₂}
use Rattle.cbor.specs.Heads.{Major, arrays, maps}
use Rattle.cbor.specs.Encode.{opening_head, closing_break, enclosed, encode, encode_all, encode_all₂}
use Rattle.cbor.specs.Paths.{Spot, Found, found, nowhere, within, nth, nth₂, child, onward, descend, locate, change_nth, change_nth₂, change_child, change_in, change_at, replace_at}
use Rattle.cbor.specs.Theorems.{PartAtPath}

-- the bytes `old` have those of the spot's item between what stands before and behind it, and so has `new` with another item
pub record Between (old : List ℕ) (new : (Item → Item) → List ℕ) (z : Spot) : Type 0 where
  pub was : old ≡ z.before ++ (encode z.item ++ z.behind)
  pub now : (g : Item → Item) → new g ≡ z.before ++ (encode (g z.item) ++ z.behind)

abbrev At : List ℕ → ((Item → Item) → List ℕ) → Found Spot → Type 0
At old new (found z) = Between old new z
At old new (nowhere i) = Unit

-- a list within others
shuffle : (a b c d e : List ℕ) → (a ++ b) ++ (c ++ (d ++ e)) ≡ a ++ ((b ++ (c ++ d)) ++ e)
shuffle a b c d e = simp append_assoc

at-within : (a b old : List ℕ) (new : (Item → Item) → List ℕ) (f : Found Spot) → At old new f → At (a ++ (old ++ b)) (λ g. a ++ (new g ++ b)) (within a b f)
unfolding within
at-within a b old new (nowhere i) h = tt
at-within a b old new (found z) h =
    record {
      was = ap (λ (c : List ℕ). a ++ (c ++ b)) h.was ∙ sym (shuffle a z.before (encode z.item) z.behind b);
      now = λ g. ap (λ (c : List ℕ). a ++ (c ++ b)) (h.now g) ∙ sym (shuffle a z.before (encode (g z.item)) z.behind b);
    }

at_same : {old old' : List ℕ} {new new' : (Item → Item) → List ℕ} (f : Found Spot) → old' ≡ old → ((g : Item → Item) → new' g ≡ new g) → At old new f → At old' new' f
at_same (nowhere i) e h a = tt
at_same (found z) e h a = record { was = e ∙ a.was; now = λ g. h g ∙ a.now g }

-- behind a, and with nothing behind
at-behind : (a old : List ℕ) (new : (Item → Item) → List ℕ) (f : Found Spot) → At old new f → At (a ++ old) (λ g. a ++ new g) (within a [] f)
at-behind a old new f h =
    at_same (within a [] f) (ap (λ (c : List ℕ). a ++ c) (sym (append-nil old))) (λ g. ap (λ (c : List ℕ). a ++ c) (sym (append-nil (new g)))) (at-within a [] old new f h)

nth-at : (i k : ℕ) (xs : Items) → At (encode_all xs) (λ g. encode_all (change_nth k g xs)) (nth i k xs)
unfolding nth change_nth encode_all
nth-at i k none = tt
nth-at i zero (more x xs) = record { was = refl; now = λ g. refl }
nth-at i (suc k) (more x xs) = at-behind (encode x) (encode_all xs) (λ g. encode_all (change_nth k g xs)) (nth i k xs) (nth-at i k xs)

nth₂-at : (i k : ℕ) (ps : Pairs) → At (encode_all₂ ps) (λ g. encode_all₂ (change_nth₂ k g ps)) (nth₂ i k ps)
unfolding nth₂ change_nth₂ encode_all₂
nth₂-at i k none₂ = tt
nth₂-at i zero (more₂ y x ps) = record { was = append_assoc (encode y) (encode x) (encode_all₂ ps); now = λ g. append_assoc (encode y) (encode (g x)) (encode_all₂ ps) }
nth₂-at i (suc k) (more₂ y x ps) = at-behind (encode y ++ encode x) (encode_all₂ ps) (λ g. encode_all₂ (change_nth₂ k g ps)) (nth₂ i k ps) (nth₂-at i k ps)

-- heads hold counts, and they stay
pub count_change : (k : ℕ) (g : Item → Item) (xs : Items) → count (change_nth k g xs) ≡ count xs
unfolding count change_nth
count_change k g none = refl
count_change zero g (more x xs) = refl
count_change (suc k) g (more x xs) = ap suc (count_change k g xs)

pub count_change₂ : (k : ℕ) (g : Item → Item) (ps : Pairs) → count₂ (change_nth₂ k g ps) ≡ count₂ ps
unfolding count₂ change_nth₂
count_change₂ k g none₂ = refl
count_change₂ zero g (more₂ y x ps) = refl
count_change₂ (suc k) g (more₂ y x ps) = ap suc (count_change₂ k g ps)

enclosed-at : (m : Major) (z : Size) (n : ℕ) (old : List ℕ) (new : (Item → Item) → List ℕ) (n' : (Item → Item) → ℕ) → ((g : Item → Item) → n' g ≡ n) → (f : Found Spot) → At old new f
    → At (enclosed m z n old) (λ g. enclosed m z (n' g) (new g)) (within (opening_head m z n) (closing_break z) f)
unfolding enclosed
enclosed-at m z n old new n' e f h =
    at_same (within (opening_head m z n) (closing_break z) f) refl (λ g. ap (λ (c : ℕ). opening_head m z c ++ (new g ++ closing_break z)) (e g)) (at-within (opening_head m z n) (closing_break z) old new f h)

child-at : (i k : ℕ) (x : Item) → At (encode x) (λ g. encode (change_child k g x)) (child i k x)
unfolding child change_child encode
child-at i k (int g w n) = tt
child-at i k (string s w b) = tt
child-at i k (chunked s cs) = tt
child-at i k (array z xs) = enclosed-at arrays z (count xs) (encode_all xs) (λ g. encode_all (change_nth k g xs)) (λ g. count (change_nth k g xs)) (λ g. count_change k g xs) (nth i k xs) (nth-at i k xs)
child-at i k (map z ps) = enclosed-at maps z (count₂ ps) (encode_all₂ ps) (λ g. encode_all₂ (change_nth₂ k g ps)) (λ g. count₂ (change_nth₂ k g ps)) (λ g. count_change₂ k g ps) (nth₂ i k ps) (nth₂-at i k ps)
child-at i k (tag w n x) = tt
child-at i k (simple n) = tt

-- a further step, inside the item that was found
onward-at : (old : List ℕ) (new : (Item → Item) → List ℕ) (f : Found Spot) (go : Item → Found Spot) (change : (Item → Item) → Item → Item) → At old new f
    → ((x : Item) → At (encode x) (λ g. encode (change g x)) (go x)) → At old (λ g. new (change g)) (onward f go)
unfolding onward
onward-at old new (nowhere i) go change h k = tt
onward-at old new (found z) go change h k =
    at_same (within z.before z.behind (go z.item)) h.was (λ g. h.now (change g)) (at-within z.before z.behind (encode z.item) (λ g. encode (change g z.item)) (go z.item) (k z.item))

descend-at : (p : List ℕ) (i : ℕ) (x : Item) → At (encode x) (λ g. encode (change_in p g x)) (descend i p x)
unfolding descend change_in
descend-at [] i x = record { was = sym (append-nil (encode x)); now = λ g. sym (append-nil (encode (g x))) }
descend-at (k ∷ p) i x = onward-at (encode x) (λ g. encode (change_child k g x)) (child i k x) (descend (suc i) p) (change_in p) (child-at i k x) (descend-at p (suc i))

locate-at : (p : List ℕ) (xs : Items) → At (encode_all xs) (λ g. encode_all (change_at p g xs)) (locate p xs)
unfolding locate change_at
locate-at [] xs = tt
locate-at (k ∷ p) xs = onward-at (encode_all xs) (λ g. encode_all (change_nth k g xs)) (nth 0 k xs) (descend 1 p) (change_in p) (nth-at 0 k xs) (descend-at p 1)

pub part-at-path : PartAtPath
unfolding replace_at
part-at-path p xs z e = let h = rw e at (locate-at p xs) in record { was = h.was; now = λ y. h.now (λ x. y) }
