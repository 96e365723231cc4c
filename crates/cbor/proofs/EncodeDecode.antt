-- Whatever decoding accepts was written so: it is well formed, and encodes back to the very bytes.
use Prim.Native.Nat.{ℕ, zero, suc, ◌/◌, ◌≤◌}
use native.Mathlib.Omega.{arith}
use mathlib.Core.Path.{◌≡◌, refl, sym, ap, ◌∙◌}
use mathlib.Core.Bool.{Bool, true, false, true≢false}
use mathlib.Core.List.{List, [], ◌∷◌, ◌++◌, append_assoc, append-nil, head-eq_of_cons-eq}
use lib.Dec.{leb, eqb}
use lib.ListN.{length}
use borrow.Author.Tests.{eqb-true, le-leb, lt-leb, leb-true}
use Rattle.cbor.specs.Refusals.{Result, ok, refuse, bind, too_long, not_utf8, bad_typed_array, not_well_formed}
use Rattle.cbor.specs.Widths.{Width, w0, w1, w2, w4, w8, limit, shortest}
use Rattle.cbor.specs.Items.{Kind, Size, definite, indefinite, Chunk, Item, string, chunked, array, map, tag, Items, none, more, Pairs, none₂, count, count₂, levels, levels_all, levels_all₂}
use Rattle.cbor.specs.Heads.{Major, integers, strings, arrays, maps, tags, simples, major_number, major_of, initial, head, Head, is_float, is_allowed, taking, next_head, break}
use Rattle.cbor.specs.Encode.{encode_string, opening_head, closing_break, enclosed, encode_chunks, encode, encode_all, encode_all₂}
use Rattle.cbor.specs.TypedArrays.{may_tag}
use Rattle.cbor.specs.Valid.{Bytes, is_text, ValidString, ValidChunks, Fits, is_simple, Valid, ValidAll, ValidAll₂}
use Rattle.cbor.specs.Decode.{Until, counted, broken, ended, Step, finished, another, step_at, several_by, several_within, several, content_at, chunk_by, chunk_at, Entry, entry_at, extent, tagged, elements, pair, entries, chunks_of, item_by, item_with, item, decode, most_bytes, most_levels}
use Rattle.cbor.specs.Theorems.{Decoded, EncodeOfDecode}
use Rattle.cbor.proofs.Results.{refuse_not_ok}
use Rattle.cbor.proofs.Heads.{major-back, information-most, Taken, TakenWell, taking_well, Legal, HeadWell, head_well}
use Rattle.cbor.proofs.Several.{tail_of, Meets}
use Rattle.cbor.proofs.DecodeEncode.{enter_at, shortest-zero, shortest-one}

-- s is the code of x, of which P holds, and then r
pub record Written {A : Type 0} (code : A → List ℕ) (P : A → Type 0) (s : List ℕ) (x : A) (r : List ℕ) : Type 0 where
  pub is : s ≡ code x ++ r
  pub good : P x
  pub rest : Bytes r

abbrev pub WellRead : {A : Type 0} → (A → List ℕ) → (A → Type 0) → List ℕ → Result A → Type 0
WellRead code P s (ok x r) = Written code P s x r
WellRead code P s (refuse n left) = Unit

-- SEVERAL

abbrev StepWell : Until → List ℕ → Step → Type 0
StepWell u s (finished r) = (s ≡ tail_of u r) × Meets u 0 r × Bytes r
StepWell u s (another v) = (n : ℕ) (r : List ℕ) → Meets v n r → Meets u (suc n) r × (tail_of v r ≡ tail_of u r)

step_well : (u : Until) (s : List ℕ) → Bytes s → StepWell u s (step_at u s)
unfolding step_at Bytes
step_well (counted zero) s b = (refl, refl, b)
step_well (counted (suc n)) s b = λ k r e. (ap suc e, refl)
step_well broken [] b = λ k r e. (tt, refl)
step_well broken (c ∷ s) b = go (eqb c break) refl
  where
    go : (v : Bool) → eqb c break ≡ v → StepWell broken (c ∷ s) (elim v [ true ↦ finished s | false ↦ another broken ])
    go true e = (ap (λ (x : ℕ). x ∷ s) (eqb-true c break e), tt, b.1)
    go false e = λ k r e. (tt, refl)
step_well ended [] b = (refl, refl, tt)
step_well ended (c ∷ s) b = λ k r e. (e, refl)

-- a list that is written element by element, with what holds of it
pub record Listing {A L : Type 0} (nil : L) (cons : A → L → L) (code : A → List ℕ) (P : A → Type 0) (codes : L → List ℕ) (size : L → ℕ) (Q : L → Type 0) : Type 0 where
  pub codes_nil : codes nil ≡ []
  pub codes_cons : (x : A) (xs : L) → codes (cons x xs) ≡ code x ++ codes xs
  pub size_nil : size nil ≡ 0
  pub size_cons : (x : A) (xs : L) → size (cons x xs) ≡ suc (size xs)
  pub good_nil : Q nil
  pub good_cons : (x : A) (xs : L) → P x → Q xs → Q (cons x xs)

module _ {A L : Type 0} (nil : L) (cons : A → L → L) (code : A → List ℕ) (P : A → Type 0) (codes : L → List ℕ) (size : L → ℕ) (Q : L → Type 0)
    (l : Listing nil cons code P codes size Q) (rd : List ℕ → Result A) (well : (s : List ℕ) → Bytes s → WellRead code P s (rd s)) where
  pub record AllWritten (u : Until) (s : List ℕ) (xs : L) (r : List ℕ) : Type 0 where
    pub is : s ≡ codes xs ++ tail_of u r
    pub meets : Meets u (size xs) r
    pub good : Q xs
    pub rest : Bytes r

  abbrev pub AllWell : Until → List ℕ → Result L → Type 0
  AllWell u s (ok xs r) = AllWritten u s xs r
  AllWell u s (refuse n left) = Unit

  next_well : (u v : Until) (s : List ℕ) → StepWell u s (another v) → (x : A) (t : List ℕ) → Written code P s x t → (k : Result L) → AllWell v t k
      → AllWell u s (bind k (λ xs r. ok (cons x xs) r))
  unfolding bind
  next_well u v s h x t w (refuse n left) a = tt
  next_well u v s h x t w (ok xs r) a =
      let m = h (size xs) r a.meets in
      record {
        is = w.is ∙ ap (λ (c : List ℕ). code x ++ c) (a.is ∙ ap (λ (c : List ℕ). codes xs ++ c) m.1) ∙ sym (rw (l.codes_cons x xs) (append_assoc (code x) (codes xs) (tail_of u r)));
        meets = rw (l.size_cons x xs) m.0;
        good = l.good_cons x xs w.good a.good;
        rest = a.rest;
      }

  one_well : (u v : Until) (s : List ℕ) → StepWell u s (another v) → (go : List ℕ → Result L) → ((t : List ℕ) → Bytes t → AllWell v t (go t)) → (k : Result A) → WellRead code P s k
      → AllWell u s (bind k (λ x r. bind (go r) (λ xs r'. ok (cons x xs) r')))
  unfolding bind
  one_well u v s h go ih (refuse n left) w = tt
  one_well u v s h go ih (ok x t) w = next_well u v s h x t w (go t) (ih t w.rest)

  within_well : (f : ℕ) (u : Until) (s : List ℕ) → Bytes s → AllWell u s (several_within nil cons rd f u s)
  unfolding several_within several_by
  within_well zero u s b = tt
  within_well (suc f) u s b = by (step_at u s) (step_well u s b) (within_well f)
    where
      by : (t : Step) → StepWell u s t → ((v : Until) (t : List ℕ) → Bytes t → AllWell v t (several_within nil cons rd f v t)) → AllWell u s (several_by nil cons rd (several_within nil cons rd f) t s)
      by (finished r) h ih = record { is = h.0 ∙ sym (ap (λ (c : List ℕ). c ++ tail_of u r) l.codes_nil); meets = rw l.size_nil h.1; good = l.good_nil; rest = h.2 }
      by (another v) h ih = one_well u v s h (several_within nil cons rd f v) (ih v) (rd s) (well s b)

  pub several_well : (u : Until) (s : List ℕ) → Bytes s → AllWell u s (several nil cons rd u s)
  unfolding several
  several_well u s b = within_well (suc (length s)) u s b

-- WHAT IS ENCLOSED

-- a head that showed n, and k elements behind it
enclosed-back : (m : Major) (z : Size) (n k : ℕ) (c r : List ℕ) → Meets (extent z n) k r → opening_head m z n ++ (c ++ tail_of (extent z n) r) ≡ enclosed m z k c ++ r
unfolding extent enclosed opening_head closing_break
enclosed-back m (definite w) n k c r e = rw e (sym (simp (append_assoc, append-nil)))
enclosed-back m indefinite n k c r e = sym (simp append_assoc)

fits-back : (z : Size) (n k : ℕ) (r : List ℕ) → Meets (extent z n) k r → Fits z n → Fits z k
unfolding extent Fits
fits-back (definite w) n k r e h = rw e at h
fits-back indefinite n k r e h = tt

-- STRINGS

abbrev Text : Kind → ℕ → List ℕ → Type 0
Text k n b = (length b ≡ n) × Bytes b × (is_text k b ≡ true)

content_well : (k : Kind) (n left : ℕ) (s : List ℕ) → Bytes s → WellRead (λ b. b) (Text k n) s (content_at k n left s)
unfolding content_at bind
content_well k n left s u = by (taking n left s) (taking_well n left s u)
  where
    text : (b r : List ℕ) → Taken n s b r → (v : Bool) → is_text k b ≡ v → WellRead (λ b. b) (Text k n) s (elim v [ true ↦ ok b r | false ↦ refuse not_utf8 left ])
    text b r t true e = record { is = t.is; good = (t.long, t.bytes, e); rest = t.rest }
    text b r t false e = tt

    by : (t : Result (List ℕ)) → TakenWell n s t → WellRead (λ b. b) (Text k n) s (bind t (λ b r. elim (is_text k b) [ true ↦ ok b r | false ↦ refuse not_utf8 left ]))
    by (ok b r) t = text b r t (is_text k b) refl
    by (refuse m l) t = tt

module _ (k : Kind) (w : Width) {n : ℕ} {s t b r : List ℕ} (e : s ≡ head (strings k) w n ++ t) (f : n ≤ limit w) (c : Written (λ b. b) (Text k n) t b r) where
  string-is : s ≡ encode_string k w b ++ r
  unfolding encode_string
  string-is = e ∙ ap (λ (x : List ℕ). head (strings k) w n ++ x) c.is ∙ rw (← c.good.0) (sym (append_assoc (head (strings k) w (length b)) b r))

  string-good : ValidString k w b
  string-good = record { fit = rw c.good.0 f; bytes = c.good.1; good = c.good.2 }

-- CHUNKS

abbrev chunk_code : Kind → Chunk → List ℕ
chunk_code k c = encode_string k c.width c.content

abbrev ChunkGood : Kind → Chunk → Type 0
ChunkGood k c = ValidString k c.width c.content

-- the major type of a head that was read
same-major : (m : Major) (k : Kind) → major_number m ≡ major_number (strings k) → m ≡ strings k
same-major m k e = sym (major-back m) ∙ ap major_of e ∙ major-back (strings k)

opening_major : (m : Major) (z : Size) (n b : ℕ) (s r : List ℕ) → Fits z n → b ∷ s ≡ opening_head m z n ++ r → b / 32 ≡ major_number m
unfolding opening_head head initial Fits
opening_major m (definite w) n b s r h e = omega (arith, head-eq_of_cons-eq e, information-most w n h)
opening_major m indefinite n b s r h e = omega (arith, head-eq_of_cons-eq e)

chunk_well : (k : Kind) (s : List ℕ) → Bytes s → WellRead (chunk_code k) (ChunkGood k) s (chunk_at k s)
unfolding chunk_at chunk_by bind opening_head Fits
chunk_well k [] u = tt
chunk_well k (b ∷ s) u = right (eqb (b / 32) (major_number (strings k))) refl
  where
    filled : (m : Major) (w : Width) (n : ℕ) (t : List ℕ) → b ∷ s ≡ head (strings k) w n ++ t → n ≤ limit w → (a : Result (List ℕ)) → WellRead (λ b. b) (Text k n) t a
        → WellRead (chunk_code k) (ChunkGood k) (b ∷ s) (bind a (λ b r. ok (record { width = w; content = b }) r))
    filled m w n t e f (refuse i left) c = tt
    filled m w n t e f (ok c r) g = record { is = string-is k w e f g; good = string-good k w e f g; rest = g.rest }

    sized : (m : Major) (z : Size) (n : ℕ) (r : List ℕ) → b / 32 ≡ major_number (strings k) → b ∷ s ≡ opening_head m z n ++ r → Fits z n → Bytes r
        → WellRead (chunk_code k) (ChunkGood k) (b ∷ s) (chunk_by k z n (suc (length s)) r)
    sized m indefinite n r p e f v = tt
    sized m (definite w) n r p e f v =
        let q = same-major m k (sym (opening_major m (definite w) n b s r f e) ∙ p) in
        filled m w n r (e ∙ ap (λ (x : Major). opening_head x (definite w) n ++ r) q) f (content_at k n (suc (length s)) r) (content_well k n (suc (length s)) r v)

    headed : b / 32 ≡ major_number (strings k) → (a : Result Head) → HeadWell (b ∷ s) a
        → WellRead (chunk_code k) (ChunkGood k) (b ∷ s) (bind a (λ h r. chunk_by k h.size h.argument (suc (length s)) r))
    headed p (refuse n left) w = tt
    headed p (ok h r) w = sized h.major h.size h.argument r p w.is w.fit w.rest

    right : (v : Bool) → eqb (b / 32) (major_number (strings k)) ≡ v
        → WellRead (chunk_code k) (ChunkGood k) (b ∷ s)
        (elim v [ true ↦ bind (next_head (b ∷ s)) (λ h r. chunk_by k h.size h.argument (suc (length s)) r) | false ↦ refuse not_well_formed (suc (length s)) ])
    right true e = headed (eqb-true (b / 32) (major_number (strings k)) e) (next_head (b ∷ s)) (head_well (b ∷ s) u)
    right false e = tt

chunks_list : (k : Kind) → Listing [] ◌∷◌ (chunk_code k) (ChunkGood k) (encode_chunks k) length (ValidChunks k)
unfolding encode_chunks ValidChunks
chunks_list k = record { codes_nil = refl; codes_cons = λ c cs. refl; size_nil = refl; size_cons = λ c cs. refl; good_nil = tt; good_cons = λ c cs v vs. (v, vs) }

-- ITEMS

abbrev Sound : ℕ → Item → Type 0
Sound d x = Valid x × (levels x ≤ d)

abbrev SoundAll : ℕ → Items → Type 0
SoundAll d xs = ValidAll xs × (levels_all xs ≤ d)

abbrev SoundAll₂ : ℕ → Pairs → Type 0
SoundAll₂ d ps = ValidAll₂ ps × (levels_all₂ ps ≤ d)

items_list : (d : ℕ) → Listing none more encode (Sound d) encode_all count (SoundAll d)
unfolding encode_all count ValidAll levels_all
items_list d = record { codes_nil = refl; codes_cons = λ x xs. refl; size_nil = refl; size_cons = λ x xs. refl; good_nil = (tt, omega arith); good_cons = λ x xs v vs. ((v.0, vs.0), omega arith) }

abbrev entry_code : Entry → List ℕ
entry_code e = encode e.key ++ encode e.value

abbrev SoundEntry : ℕ → Entry → Type 0
SoundEntry d e = Sound d e.key × Sound d e.value

entries_list : (d : ℕ) → Listing none₂ pair entry_code (SoundEntry d) encode_all₂ count₂ (SoundAll₂ d)
unfolding encode_all₂ count₂ ValidAll₂ levels_all₂
entries_list d =
    record {
      codes_nil = refl;
      codes_cons = λ x xs. refl;
      size_nil = refl;
      size_cons = λ x xs. refl;
      good_nil = (tt, omega arith);
      good_cons = λ x xs v vs. ((v.0.0, v.1.0, vs.0), omega arith);
    }

-- an item's reader, well at a level
abbrev pub ItemWell : ℕ → Type 0
ItemWell d = (s : List ℕ) → Bytes s → WellRead encode (Sound d) s (item d s)

entry_well : (d : ℕ) → ItemWell d → (s : List ℕ) → Bytes s → WellRead entry_code (SoundEntry d) s (entry_at (item d) s)
unfolding entry_at bind
entry_well d well s u = key (item d s) (well s u)
  where
    value : (k : Item) (t : List ℕ) → Written encode (Sound d) s k t → (a : Result Item) → WellRead encode (Sound d) t a → WellRead entry_code (SoundEntry d) s (bind a (λ x r. ok (record { key = k; value = x }) r))
    value k t w (refuse n left) v = tt
    value k t w (ok x r) v = record { is = w.is ∙ ap (λ (c : List ℕ). encode k ++ c) v.is ∙ sym (append_assoc (encode k) (encode x) r); good = (w.good, v.good); rest = v.rest }

    key : (a : Result Item) → WellRead encode (Sound d) s a → WellRead entry_code (SoundEntry d) s (bind a (λ k r. bind (item d r) (λ x r'. ok (record { key = k; value = x }) r')))
    key (refuse n left) w = tt
    key (ok k t) w = value k t w (item d t) (well t w.rest)

-- a simple value has one head only
simple-back : (w : Width) (n : ℕ) → n ≤ limit w → Legal simples (definite w) n → (is_simple n ≡ true) × (shortest n ≡ w)
unfolding limit is_float is_allowed is_simple
simple-back w0 n h l = let e = le-leb n 23 h in (rw e, shortest-zero n e)
simple-back w1 n h l =
    let e : leb n 23 ≡ false = lt-leb n 23 (omega (arith, leb-true 32 n l.1)) in
    let f = le-leb n 255 h in
    (rw (e, l.1, f), shortest-one n e f)
simple-back w2 n h l = absurd (true≢false l.0)
simple-back w4 n h l = absurd (true≢false l.0)
simple-back w8 n h l = absurd (true≢false l.0)

-- what reads one level down
abbrev Inner : ℕ → Type 0
Inner zero = Unit
Inner (suc d) = ItemWell d

module _ (left : ℕ) (s r : List ℕ) (u : Bytes r) where
  string_well : (d : ℕ) (k : Kind) (w : Width) (n : ℕ) → s ≡ head (strings k) w n ++ r → n ≤ limit w → (a : Result (List ℕ)) → WellRead (λ b. b) (Text k n) r a
      → WellRead encode (Sound d) s (bind a (λ b r'. ok (string k w b) r'))
  unfolding bind encode Valid levels
  string_well d k w n e f (refuse m l) c = tt
  string_well d k w n e f (ok b t) c = record { is = string-is k w e f c; good = (string-good k w e f c, omega arith); rest = c.rest }

  -- an item that encloses a list, from the list
  module _ {A L : Type 0} (nil : L) (cons : A → L → L) (code : A → List ℕ) (P : A → Type 0) (codes : L → List ℕ) (size : L → ℕ) (Q : L → Type 0)
      (l : Listing nil cons code P codes size Q) (rd : List ℕ → Result A) (well : (s : List ℕ) → Bytes s → WellRead code P s (rd s)) (d : ℕ)
      (m : Major) (z : Size) (n : ℕ) (made : L → Item) (law : (xs : L) → encode (made xs) ≡ enclosed m z (size xs) (codes xs))
      (sound : (xs : L) → Fits z (size xs) → Q xs → Sound d (made xs)) where
    enclosed_well : s ≡ opening_head m z n ++ r → Fits z n → WellRead encode (Sound d) s (bind (several nil cons rd (extent z n) r) (λ xs r'. ok (made xs) r'))
    unfolding bind
    enclosed_well e f = by (several nil cons rd (extent z n) r) (several_well nil cons code P codes size Q l rd well (extent z n) r u)
      where
        by : (a : Result L) → AllWell nil cons code P codes size Q l rd well (extent z n) r a → WellRead encode (Sound d) s (bind a (λ xs r'. ok (made xs) r'))
        by (refuse k q) a = tt
        by (ok xs t) a =
            record {
              is = e ∙ ap (λ (c : List ℕ). opening_head m z n ++ c) a.is ∙ enclosed-back m z n (size xs) (codes xs) t a.meets ∙ sym (ap (λ (c : List ℕ). c ++ t) (law xs));
              good = sound xs (fits-back z n (size xs) t a.meets f) a.good;
              rest = a.rest;
            }

  tag_well : (d : ℕ) (w : Width) (n : ℕ) → s ≡ head tags w n ++ r → n ≤ limit w → (a : Result Item) → WellRead encode (Sound d) r a
      → WellRead encode (Sound (suc d)) s (bind a (tagged w n left))
  unfolding bind tagged encode Valid levels
  tag_well d w n e f (refuse m l) a = tt
  tag_well d w n e f (ok x t) a = go (may_tag n x) refl
    where
      go : (v : Bool) → may_tag n x ≡ v → WellRead encode (Sound (suc d)) s (elim v [ true ↦ ok (tag w n x) t | false ↦ refuse bad_typed_array left ])
      go true g =
          record {
            is = e ∙ ap (λ (c : List ℕ). head tags w n ++ c) a.is ∙ sym (append_assoc (head tags w n) (encode x) t);
            good = ((f, g, a.good.0), omega arith);
            rest = a.rest;
          }
      go false g = tt

  by_well : (d : ℕ) → Inner d → (m : Major) (z : Size) (n : ℕ) → s ≡ opening_head m z n ++ r → Fits z n → Legal m z n → WellRead encode (Sound d) s (item_by (enter_at d) m z n left r)
  unfolding item_by elements entries chunks_of opening_head enclosed extent Fits encode Valid levels
  by_well d i (integers g) (definite w) n e f l = record { is = e; good = (f, omega arith); rest = u }
  by_well d i (integers g) indefinite n e f l = tt
  by_well d i (strings k) (definite w) n e f l = string_well d k w n e f (content_at k n left r) (content_well k n left r u)
  by_well d i (strings k) indefinite n e f l =
      enclosed_well [] ◌∷◌ (chunk_code k) (ChunkGood k) (encode_chunks k) length (ValidChunks k) (chunks_list k) (chunk_at k) (chunk_well k) d (strings k) indefinite n (chunked k) (λ cs. refl)
      (λ cs f v. (v, omega arith)) e tt
  by_well zero i arrays z n e f l = tt
  by_well (suc d) i arrays z n e f l =
      enclosed_well none more encode (Sound d) encode_all count (SoundAll d) (items_list d) (item d) i (suc d) arrays z n (array z) (λ xs. refl) (λ xs f v. ((f, v.0), omega arith)) e f
  by_well zero i maps z n e f l = tt
  by_well (suc d) i maps z n e f l =
      enclosed_well none₂ pair entry_code (SoundEntry d) encode_all₂ count₂ (SoundAll₂ d) (entries_list d) (entry_at (item d)) (entry_well d i) (suc d) maps z n (map z) (λ xs. refl)
      (λ xs f v. ((f, v.0), omega arith)) e f
  by_well zero i tags (definite w) n e f l = tt
  by_well (suc d) i tags (definite w) n e f l = tag_well d w n e f (item d r) (i r u)
  by_well d i tags indefinite n e f l = tt
  by_well d i simples (definite w) n e f l =
      let b = simple-back w n f l in
      record { is = e ∙ ap (λ (x : Width). head simples x n ++ r) (sym b.1); good = (b.0, omega arith); rest = u }
  by_well d i simples indefinite n e f l = tt

with_well : (d : ℕ) → Inner d → (s : List ℕ) (a : Result Head) → HeadWell s a
    → WellRead encode (Sound d) s (bind a (λ h r. item_by (enter_at d) h.major h.size h.argument (length s) r))
unfolding bind
with_well d i s (refuse n left) w = tt
with_well d i s (ok h r) w = by_well (length s) s r w.rest d i h.major h.size h.argument w.is w.fit w.legal

pub item_well : (d : ℕ) → ItemWell d
unfolding item item_with
item_well zero s u = with_well zero tt s (next_head s) (head_well s u)
item_well (suc d) s u = with_well (suc d) (item_well d) s (next_head s) (head_well s u)

-- items to the end of the bytes
all_well : (s : List ℕ) → Bytes s
    → AllWell none more encode (Sound most_levels) encode_all count (SoundAll most_levels) (items_list most_levels) (item most_levels) (item_well most_levels) ended s
    (several none more (item most_levels) ended s)
all_well s u =
    several_well none more encode (Sound most_levels) encode_all count (SoundAll most_levels) (items_list most_levels) (item most_levels) (item_well most_levels) ended s u

pub encode_of_decode : EncodeOfDecode
unfolding decode elements
encode_of_decode s xs r u e = go (leb (length s) most_bytes) refl e
  where
    go : (v : Bool) → leb (length s) most_bytes ≡ v → elim v [ true ↦ several none more (item most_levels) ended s | false ↦ refuse too_long (length s) ] ≡ ok xs r → Decoded s xs r
    go true i f =
        let h = rw f at (all_well s u) in
        record {
          same = sym (h.is ∙ ap (λ (c : List ℕ). encode_all xs ++ c) h.meets ∙ append-nil (encode_all xs));
          valid = h.good.0;
          low = h.good.1;
          done = h.meets;
          short = leb-true (length s) most_bytes i;
        }
    go false i f = absurd (refuse_not_ok f)
