-- Arrays, maps, embedded items and tags: a lemma for each way that the code's readers return.
-- Assumes nothing.
use mathlib.Core.Path.{◌≡◌, refl, sym, ap, ◌∙◌}
use mathlib.Core.List.{List, [], ◌∷◌, ◌++◌}
use mathlib.Core.Bool.{Bool, true, false}
use Prim.Native.Nat.{ℕ, zero, suc, ◌+◌, ◌-◌, ◌*◌, ◌≤◌, ◌<◌, ◌^◌, min}
use native.Mathlib.Omega.{arith}
use lib.ListN.{length, drop, length-append}
use mir.Syntax.{w64 as bits64}
use mir.Val.{Fits}
use Rattle.cbor.specs.Refusals.{Result, ok, refuse, bind, bad_indicator, bad_typed_array}
use Rattle.cbor.specs.Widths.{Width, w0, w1, w2, w4, w8, limit, argument_bytes, information}
use Rattle.cbor.specs.Items.{byte_string, text_string, Size, definite, indefinite, Item, int, string, chunked, array, map, tag, simple, count, count₂}
use Rattle.cbor.specs.Heads.{Major, strings, arrays, maps, tags, major_number, initial, head}
use Rattle.cbor.specs.Encode.{encode_string, encode, encode_all, encode_all₂, enclosed, opening_head, closing_break}
use Rattle.cbor.specs.TypedArrays.{may_tag, divides}
use Rattle.cbor.proofs.Arguments.{length_big}
use Rattle.cbor.proofs.Results.{bind-same, bind_assoc}
use Rattle.typed_array.specs.TypedArrayAnswers.{may_tag_by}
use Rattle.head.specs.HeadAnswers.{head_bytes}
use Rattle.refusal.specs.declared.Refusal.{Refusal}
use Rattle.head.proofs.HeadCode.{head_bytes_lem}
use Rattle.notation.specs.Indicators.{Indicator, absent, indefinitely, unknown, wide, Chosen, chosen, misfit, choose}
use Rattle.notation.specs.Tokens.{Opener as Opens, bracket, brace, tagging, embedding, opens, square, curly, round, angle, whole, Token, begins, closes, a_comma, a_colon}
use Rattle.notation.specs.Cutting.{next, place}
use Rattle.notation.specs.Form.{at_start, one, items, pairs, give, deny_first, strays, then, shape_number, closing_rule, width_rule, contains, embeds, inside, after_tag, tag_rule, beginning, one_rule, obey, reads}
use Rattle.notation.specs.Reading.{marked, sequence}
use Rattle.notation_theorems.proofs.Equations.{obey_if}
use Rattle.notation_theorems.proofs.SoundToken.{Chose, choose-fits}
use Rattle.token.specs.TokenAnswers.{indicator_number, shape_code, code_of}
use Rattle.numbers.specs.NumberAnswers.{choose_by, chosen_number}
use Rattle.numbers.proofs.IndicatorCode.{choose-is}
use Rattle.scanning.proofs.Marked.{length_marked}
use Rattle.leaf_answer.specs.declared.LeafRead.{LeafRead}
use Rattle.encoding.specs.ReadAnswers.{View, no_bytes, held_of, Tells, of_item, of_closed, of_pairs, of_tagged, follow_by, followed, behind_opener, tagged_read, indicator_for, info_by, HeadWritten, Room, Opened, Bracketed, Light, Heavy, Few, IsShort, Roomed, MovedOn, After, ReadTold, Finished, FinishedShort, Ended}
use Rattle.encoding.specs.declared.answer.MadeItem.{MadeItem}
use Rattle.encoding.proofs.ReadSmall.{head-short, head-some}
use Rattle.encoding.proofs.ReadWriting.{info_width, width_some}
use Rattle.encoding.proofs.Wrote.{wrote-more, wrote-front}
use Rattle.encoding.proofs.Telling.{bind-yes, bind-no, told-no, told-ok, told-lost, told_more, told-map, denied, Got, got, lost}
use Rattle.encoding.proofs.ReadRules.{begin_not, opens_by, follow-yes, follow-no, one-is}
use Rattle.reader.specs.Several.{as_seen, seen, several_read}
use Rattle.opening.specs.Openings.{OpensAs, OpeningTold, bracket_byte, OpensBare}
use Rattle.reader.specs.OneItem.{LevelAt, TagMade}
use Rattle.closers.specs.declared.Closer.TheVariants.{Square, Curly, Round, Angle, Whole, Nothing}
use Rattle.opening.specs.declared.Opener.TheVariants.{Array, Map, Tag, Embedded}
use Rattle.opening.specs.declared.Opening.{Opening}
use Rattle.std.specs.Prelude.{Ok, Err}
use Rattle.std.specs.Prelude as std

-- WHAT IS SEEN of what is read
after-seen : {A : Type 0} (v : A → View) (s b b' : List ℕ) (most pos : ℕ) (a : std.Result MadeItem Refusal) (res : Result A) → After as_seen s b b' most pos a (seen v res) → After v s b b' most pos a res
unfolding After seen bind as_seen
after-seen v s b b' most pos a (ok x r) f = record { made = f.made; is = f.is; moved = f.moved }
after-seen v s b b' most pos a (refuse k q) f = f

pub told-seen : {A : Type 0} {s b b' : List ℕ} {most pos : ℕ} {a : std.Result MadeItem Refusal} (v : A → View) (res : Result A) → ReadTold as_seen s b b' most pos a (seen v res) → ReadTold v s b b' most pos a res
told-seen v res h = record { after = after-seen v _ _ _ _ _ _ res h.after }

fits_of : (i : Indicator) (n k : ℕ) → n ≡ k → n ≤ limit w8 → Chose n (choose i k)
fits_of i n k e h = rw (← e) (choose-fits i n h)

-- no head is smaller than one byte; where one is smaller than a larger room, what stands behind that has its place
head-one : {P : Type 0} (major : Major) (w : Width) (n : ℕ) → length (head major w n) < 1 → P
unfolding head
head-one major w n z = absurd (omega arith)

head-room : {pos end room : ℕ} (major : Major) (w : Width) (n : ℕ) → Roomed pos end room → n ≤ limit w → length (head major w n) < room → pos + room + n ≤ end
unfolding head limit argument_bytes
head-room major w0 n rm f z = omega (arith, rm.ample (omega arith), rm.most)
head-room major w1 n rm f z = omega (arith, rm.ample (omega arith), rm.most)
head-room major w2 n rm f z = absurd (omega (arith, rm.most, length_big 2 n))
head-room major w4 n rm f z = absurd (omega (arith, rm.most, length_big 4 n))
head-room major w8 n rm f z = absurd (omega (arith, rm.most, length_big 8 n))

-- A HEAD before what was read: rd reads it, v is its view, and make the item that is made of it under a width
module _ {A : Type 0} (rd : List ℕ → Result A) (v : A → View) (i : A → Indicator) (num : A → ℕ) (make : A → Width → Item) (major : Major)
    (law : (x : A) (w : Width) → encode (make x w) ≡ head major w (num x) ++ (v x).bytes) where
  abbrev Outer : ℕ → List ℕ → Result Item
  Outer p s = bind (rd s) (λ x r. obey reads (width_rule (choose (i x) (num x)) (make x)) p p r)

  module _ {s b b' b'' : List ℕ} {at pos room place' n mark length' : ℕ} {binary : Bool} {m : MadeItem} {a' : std.Result MadeItem Refusal} (a : std.Result MadeItem Refusal) (o : Opened s at pos place')
      (told : ReadTold v s b b' (length (marked s) - at) (pos + room) a (rd (drop at (marked s)))) (g : a ≡ Ok m)
      (far : (w : Width) → n ≤ limit w → length (head major w n) < room → pos + room + m.size ≤ length b') where
    kept_by : (x : A) (r : List ℕ) (c : Chosen) → choose (i x) (num x) ≡ c → rd (drop at (marked s)) ≡ ok x r → MovedOn s b b' (length (marked s) - at) (pos + room) m (v x) r → n ≡ num x → n ≤ limit w8
        → choose_by mark n ≡ chosen_number c → ((w : Width) → Tells (held_of (make x w)) binary length') → Finished b' b'' pos room (major_number major) mark n m.next m.size place' binary length' a'
        → ReadTold of_item s b b'' (length (marked s) - at + 1) pos a' (Outer (length (marked s) - place') (drop at (marked s)))
    unfolding width_rule obey chosen_number of_item initial
    kept_by x r (chosen w) ce e mv en few we ne fin =
        let nz : choose_by mark n ≡ 0 → ⊥ = λ z. omega (arith, we, width_some w) in
        let fit : n ≤ limit w = rw ce at (fits_of (i x) n (num x) en few) in
        let hn : head_bytes (major_number major * 32 + info_by (choose_by mark n) n) n ≡ head major w n = rw (we, info_width w n fit) (sym (head_bytes_lem major w n fit)) in
        let hs : head_bytes (major_number major * 32 + info_by (choose_by mark n) n) n ≡ head major w (num x) = hn ∙ ap (head major w) en in
        let q : encode (make x w) ≡ head_bytes (major_number major * 32 + info_by (choose_by mark n) n) n ++ (v x).bytes = law x w ∙ ap (λ (u : List ℕ). u ++ (v x).bytes) (sym hs) in
        let l : length (encode (make x w)) ≡ length (head_bytes (major_number major * 32 + info_by (choose_by mark n) n) n) + m.size = ap length q ∙ length-append (head_bytes (major_number major * 32 + info_by (choose_by mark n) n) n) (v x).bytes ∙ omega (arith, mv.sized) in
        told-ok (make x w) _ (bind-yes (rd (drop at (marked s))) _ x r e ∙ ap (λ (c : Chosen). obey reads (width_rule c (make x)) (length (marked s) - place') (length (marked s) - place') r) ce) (fin.made nz)
        (record {
          stands = mv.stands;
          sized = sym l;
          counted = refl;
          indicated = refl;
          tells = ne w;
          many = omega (arith, head-some (major_number major * 32 + info_by (choose_by mark n) n) n);
          short = omega (arith, head-short (major_number major * 32 + info_by (choose_by mark n) n) n, mv.short);
          wrote = rw q (fin.closed nz b (v x).bytes mv.wrote mv.sized (λ z. far w fit (rw hn at z)));
        })
    kept_by x r misfit ce e mv en few we ne fin =
        let p : place' ≡ length (marked s) - (length (marked s) - place') = omega (arith, o.before) in
        told-no bad_indicator (length (marked s) - place') _
        (bind-yes (rd (drop at (marked s))) _ x r e ∙ ap (λ (c : Chosen). obey reads (width_rule c (make x)) (length (marked s) - place') (length (marked s) - place') r) ce) (denied (fin.refused we) p)

    pub kept-done : ((x : A) (r : List ℕ) → MovedOn s b b' (length (marked s) - at) (pos + room) m (v x) r → (n ≡ num x) × (n ≤ m.size) × (mark ≡ indicator_number (i x)) × ((w : Width) → Tells (held_of (make x w)) binary length'))
        → Finished b' b'' pos room (major_number major) mark n m.next m.size place' binary length' a'
        → ReadTold of_item s b b'' (length (marked s) - at + 1) pos a' (Outer (length (marked s) - place') (drop at (marked s)))
    unfolding limit
    kept-done f fin =
        let it = got a told g in
        let h = f it.thing it.rest it.moved in
        let few : n ≤ limit w8 = omega (arith, h.1, it.moved.short, o.room) in
        kept_by it.thing it.rest (choose (i it.thing) (num it.thing)) refl it.is it.moved h.0 few
        (ap (λ (k : ℕ). choose_by k n) h.2 ∙ ap (choose_by (indicator_number (i it.thing))) h.0 ∙ sym (choose-is (i it.thing) (num it.thing))) h.3 fin

-- WITHOUT A LENGTH
kept_open : {A : Type 0} {s b b' b'' : List ℕ} {at pos place' first : ℕ} {m : MadeItem} {a' : std.Result MadeItem Refusal} (rd : List ℕ → Result A) (v : A → View) (make : A → Item)
    → ((x : A) → encode (make x) ≡ first ∷ ((v x).bytes ++ 255 ∷ [])) → ((x : A) → Tells (held_of (make x)) false 0) → (a : std.Result MadeItem Refusal) → Opened s at pos place'
    → ReadTold v s b b' (length (marked s) - at) (pos + 1) a (rd (drop at (marked s))) → a ≡ Ok m → Ended b' b'' pos first m.next m.size false 0 a'
    → ReadTold of_item s b b'' (length (marked s) - at + 1) pos a' (bind (rd (drop at (marked s))) (λ x r. ok (make x) r))
unfolding of_item
kept_open {s = s} {at = at} {pos = pos} {first = first} {m = m} rd v make law nl a o told g en =
    let it = got a told g in
    let x = it.thing in
    let l : length (encode (make x)) ≡ m.size + 2 = ap length (law x) ∙ ap suc (length-append (v x).bytes (255 ∷ [])) ∙ omega (arith, it.moved.sized) in
    let p : pos + m.size + 1 ≡ pos + length (first ∷ (v x).bytes) = omega (arith, it.moved.sized) in
    told-ok (make x) _ (bind-yes (rd (drop at (marked s))) _ x it.rest it.is) en.is
    (record {
      stands = it.moved.stands;
      sized = sym l;
      counted = refl;
      indicated = refl;
      tells = nl x;
      many = omega arith;
      short = omega (arith, it.moved.short);
      wrote = rw (law x) (wrote-more (wrote-front it.moved.wrote en.front) en.back p);
    })

-- an indicator that is no `_` alone, and that one
bounded_by : (i : Indicator) (n : ℕ) (make : Size → Item) (p q : ℕ) (r : List ℕ) → (indicator_number i ≡ 1 → ⊥) → obey reads (contains i n make) p q r ≡ obey reads (width_rule (choose i n) (λ w. make (definite w))) p q r
unfolding contains indicator_number
bounded_by absent n make p q r z = refl
bounded_by indefinitely n make p q r z = absurd (z refl)
bounded_by unknown n make p q r z = refl
bounded_by (wide w) n make p q r z = refl

open_by : (mark n : ℕ) (make : Size → Item) (p q : ℕ) (r : List ℕ) → mark ≡ 1 → obey reads (contains (indicator_for mark) n make) p q r ≡ ok (make indefinite) r
unfolding indicator_for contains obey
open_by mark n make p q r e = rw e

-- the sizes
module _ {A : Type 0} {v : A → View} {s b b' : List ℕ} {at here place' : ℕ} {m : MadeItem} {res : Result A} (pos : ℕ) (a : std.Result MadeItem Refusal) (o : Opened s at pos place') (told : ReadTold v s b b' (length (marked s) - at) here a res) (g : a ≡ Ok m) where
  pub kept_light : Light (pos + m.size)
  kept_light = record { fits = omega (arith, (got a told g).moved.short, o.room) }

  pub kept-heavy : (major : ℕ) → major ≤ 7 → Heavy major m.size
  kept-heavy major h = record { most = h; fits = omega (arith, (got a told g).moved.short, o.room) }

-- ARRAYS
module _ {s b b' : List ℕ} {at pos place' mark : ℕ} (d : ℕ) (a : std.Result MadeItem Refusal) (br : Bracketed s at pos place' mark) (several : ReadTold as_seen s b b' (length (marked s) - at) (pos + 1) a (several_read Square d (drop at (marked s)))) where
  told : ReadTold of_closed s b b' (length (marked s) - at) (pos + 1) a (reads (items square at_start d) (drop at (marked s)))
  unfolding several_read
  told = told-seen of_closed (reads (items square at_start d) (drop at (marked s))) several

  array_eq : behind_opener d (bracket (indicator_for mark)) (length (marked s) - place') (drop at (marked s))
      ≡ bind (reads (items square at_start d) (drop at (marked s))) (λ c r. obey reads (contains (indicator_for mark) (count c.all) (λ z. array z c.all)) (length (marked s) - place') (length (marked s) - place') r)
  unfolding behind_opener inside obey
  array_eq = refl

  pub array-refused : {b'' : List ℕ} {e : Refusal} → a ≡ Err e → ReadTold of_item s b b'' (length (marked s) - at + 1) pos (Err e) (behind_opener d (bracket (indicator_for mark)) (length (marked s) - place') (drop at (marked s)))
  array-refused f = told-lost _ _ (lost a told f) array_eq

  module _ {b'' : List ℕ} {m : MadeItem} {a' : std.Result MadeItem Refusal} (g : a ≡ Ok m) where
    pub array-done : (mark ≡ 1 → ⊥) → Finished b' b'' pos 1 4 mark m.count m.next m.size place' false 0 a'
        → ReadTold of_item s b b'' (length (marked s) - at + 1) pos a' (behind_opener d (bracket (indicator_for mark)) (length (marked s) - place') (drop at (marked s)))
    unfolding of_closed encode enclosed opening_head closing_break held_of Tells major_number
    array-done n1 fin =
        rw (array_eq ∙ bind-same (reads (items square at_start d) (drop at (marked s))) _ _ (λ c r e. bounded_by (indicator_for mark) (count c.all) (λ z. array z c.all) (length (marked s) - place') (length (marked s) - place') r (λ z. n1 (sym br.known ∙ z))))
        (kept-done (reads (items square at_start d)) of_closed (λ c. indicator_for mark) (λ c. count c.all) (λ c w. array (definite w) c.all) arrays
        (λ c w. ap (λ (u : List ℕ). head arrays w (count c.all) ++ u) (mathlib.Core.List.append-nil (encode_all c.all))) a br.opened told g (λ w f z. head-one arrays w m.count z)
        (λ c r mv. (mv.counted, omega (arith, mv.counted, mv.many), sym br.known, (λ w. refl))) fin)

    pub array-short : (t : Bool) → IsShort mark m.count t → t ≡ true → FinishedShort b' b'' pos 4 m.count m.next m.size a'
        → ReadTold of_item s b b'' (length (marked s) - at + 1) pos a' (behind_opener d (bracket (indicator_for mark)) (length (marked s) - place') (drop at (marked s)))
    array-short t h e fin = array-done (λ z. omega (arith, h.none e)) (rw (h.none e) (fin.is place'))

    pub array_open : mark ≡ 1 → Ended b' b'' pos 0x9f m.next m.size false 0 a' → ReadTold of_item s b b'' (length (marked s) - at + 1) pos a' (behind_opener d (bracket (indicator_for mark)) (length (marked s) - place') (drop at (marked s)))
    unfolding of_closed encode enclosed opening_head closing_break initial major_number held_of Tells
    array_open e en =
        rw (array_eq ∙ bind-same (reads (items square at_start d) (drop at (marked s))) _ _ (λ c r q. open_by mark (count c.all) (λ z. array z c.all) (length (marked s) - place') (length (marked s) - place') r e))
        (kept_open (reads (items square at_start d)) of_closed (λ c. array indefinite c.all) (λ c. refl) (λ c. refl) a br.opened told g en)

pub ruleset array_ways = (array-refused, array-short, array-done, array_open)

-- MAPS
module _ {s b b' : List ℕ} {at pos place' mark : ℕ} (d : ℕ) (a : std.Result MadeItem Refusal) (br : Bracketed s at pos place' mark) (several : ReadTold as_seen s b b' (length (marked s) - at) (pos + 1) a (several_read Curly d (drop at (marked s)))) where
  told₂ : ReadTold of_pairs s b b' (length (marked s) - at) (pos + 1) a (reads (pairs at_start d) (drop at (marked s)))
  unfolding several_read
  told₂ = told-seen of_pairs (reads (pairs at_start d) (drop at (marked s))) several

  map_eq : behind_opener d (brace (indicator_for mark)) (length (marked s) - place') (drop at (marked s))
      ≡ bind (reads (pairs at_start d) (drop at (marked s))) (λ c r. obey reads (contains (indicator_for mark) (count₂ c) (λ z. map z c)) (length (marked s) - place') (length (marked s) - place') r)
  unfolding behind_opener inside obey
  map_eq = refl

  pub map-refused : {b'' : List ℕ} {e : Refusal} → a ≡ Err e → ReadTold of_item s b b'' (length (marked s) - at + 1) pos (Err e) (behind_opener d (brace (indicator_for mark)) (length (marked s) - place') (drop at (marked s)))
  map-refused f = told-lost _ _ (lost a told₂ f) map_eq

  module _ {b'' : List ℕ} {m : MadeItem} {a' : std.Result MadeItem Refusal} (g : a ≡ Ok m) where
    pub map-done : (mark ≡ 1 → ⊥) → Finished b' b'' pos 1 5 mark m.count m.next m.size place' false 0 a'
        → ReadTold of_item s b b'' (length (marked s) - at + 1) pos a' (behind_opener d (brace (indicator_for mark)) (length (marked s) - place') (drop at (marked s)))
    unfolding of_pairs encode enclosed opening_head closing_break held_of Tells major_number
    map-done n1 fin =
        rw (map_eq ∙ bind-same (reads (pairs at_start d) (drop at (marked s))) _ _ (λ c r e. bounded_by (indicator_for mark) (count₂ c) (λ z. map z c) (length (marked s) - place') (length (marked s) - place') r (λ z. n1 (sym br.known ∙ z))))
        (kept-done (reads (pairs at_start d)) of_pairs (λ c. indicator_for mark) (λ c. count₂ c) (λ c w. map (definite w) c) maps
        (λ c w. ap (λ (u : List ℕ). head maps w (count₂ c) ++ u) (mathlib.Core.List.append-nil (encode_all₂ c))) a br.opened told₂ g (λ w f z. head-one maps w m.count z)
        (λ c r mv. (mv.counted, omega (arith, mv.counted, mv.many), sym br.known, (λ w. refl))) fin)

    pub map-short : (t : Bool) → IsShort mark m.count t → t ≡ true → FinishedShort b' b'' pos 5 m.count m.next m.size a'
        → ReadTold of_item s b b'' (length (marked s) - at + 1) pos a' (behind_opener d (brace (indicator_for mark)) (length (marked s) - place') (drop at (marked s)))
    map-short t h e fin = map-done (λ z. omega (arith, h.none e)) (rw (h.none e) (fin.is place'))

    pub map_open : mark ≡ 1 → Ended b' b'' pos 0xbf m.next m.size false 0 a' → ReadTold of_item s b b'' (length (marked s) - at + 1) pos a' (behind_opener d (brace (indicator_for mark)) (length (marked s) - place') (drop at (marked s)))
    unfolding of_pairs encode enclosed opening_head closing_break initial major_number held_of Tells
    map_open e en =
        rw (map_eq ∙ bind-same (reads (pairs at_start d) (drop at (marked s))) _ _ (λ c r q. open_by mark (count₂ c) (λ z. map z c) (length (marked s) - place') (length (marked s) - place') r e))
        (kept_open (reads (pairs at_start d)) of_pairs (λ c. map indefinite c) (λ c. refl) (λ c. refl) a br.opened told₂ g en)

pub ruleset map_ways = (map-refused, map-short, map-done, map_open)

-- EMBEDDED ITEMS
module _ {s b b' : List ℕ} {at pos room place' : ℕ} (d : ℕ) (a : std.Result MadeItem Refusal) (o : Opened s at pos place') (rm : Roomed pos (length b) room) (several : ReadTold as_seen s b b' (length (marked s) - at) (pos + room) a (several_read Angle d (drop at (marked s)))) where
  told₃ : ReadTold of_closed s b b' (length (marked s) - at) (pos + room) a (reads (items angle at_start d) (drop at (marked s)))
  unfolding several_read
  told₃ = told-seen of_closed (reads (items angle at_start d) (drop at (marked s))) several

  embed_eq : behind_opener d embedding (length (marked s) - place') (drop at (marked s))
      ≡ bind (reads (items angle at_start d) (drop at (marked s))) (λ c r. obey reads (width_rule (choose c.indicator (length (encode_all c.all))) (λ w. string byte_string w (encode_all c.all))) (length (marked s) - place') (length (marked s) - place') r)
  unfolding behind_opener inside obey embeds
  embed_eq = refl

  pub embed_refused : {b'' : List ℕ} {e : Refusal} → a ≡ Err e → ReadTold of_item s b b'' (length (marked s) - at + 1) pos (Err e) (behind_opener d embedding (length (marked s) - place') (drop at (marked s)))
  embed_refused f = told-lost _ _ (lost a told₃ f) embed_eq

  pub embed_done : {b'' : List ℕ} {m : MadeItem} {a' : std.Result MadeItem Refusal} → a ≡ Ok m → Finished b' b'' pos room 2 m.indicator m.size m.next m.size place' true m.size a'
      → ReadTold of_item s b b'' (length (marked s) - at + 1) pos a' (behind_opener d embedding (length (marked s) - place') (drop at (marked s)))
  unfolding of_closed encode encode_string held_of Tells major_number
  embed_done {m = m} g fin =
      rw embed_eq
      (kept-done (reads (items angle at_start d)) of_closed (λ c. c.indicator) (λ c. length (encode_all c.all)) (λ c w. string byte_string w (encode_all c.all)) (strings byte_string) (λ c w. refl) a o told₃ g
      (λ w f z. let h = (got a told₃ g).moved.wrote.same in omega (arith, head-room (strings byte_string) w m.size rm f z))
      (λ c r mv. (mv.sized, omega arith, mv.indicated, (λ w. (refl, mv.sized)))) fin)

pub ruleset embed_ways = (embed_refused, embed_done)

-- TAGS
may-held : (t : Bool) (l n : ℕ) (x : Item) → Tells (held_of x) t l → may_tag_by n t l ≡ may_tag n x
unfolding Tells held_of may_tag_by may_tag divides
may-held t l n (int g w k) h = rw h
may-held t l n (string byte_string w b) h = rw (h.0, h.1)
may-held t l n (string text_string w b) h = rw h
may-held t l n (chunked byte_string cs) h = rw (h.0, h.1)
may-held t l n (chunked text_string cs) h = rw h
may-held t l n (array z xs) h = rw h
may-held t l n (map z ps) h = rw h
may-held t l n (tag w k x) h = rw h
may-held t l n (simple k) h = rw h

module _ {s : List ℕ} {at place' first n size : ℕ} {b b' : List ℕ} (pos : ℕ) (o : Opened s at pos place') (hw : HeadWritten b b' pos first n size) where
  pub tag-place : Fits bits64 (pos + size)
  tag-place = record { fits = omega (arith, o.room, hw.size.most) }

  pub tag-room : Room s at (pos + size)
  tag-room = record { inside = o.inside; room = omega (arith, o.room, hw.size.most) }

held-item : {s b b' : List ℕ} {most pos : ℕ} {m : MadeItem} {r : List ℕ} (x : Item) → MovedOn s b b' most pos m (of_item x) r → Tells (held_of x) m.binary m.length
unfolding of_item
held-item x mv = mv.tells

-- by the check of typed arrays
tag_case : {s b b₁ b₂ : List ℕ} {at pos place' first size : ℕ} {m : MadeItem} {a' : std.Result MadeItem Refusal} (n d : ℕ) (v : Bool) → Opened s at pos place' → HeadWritten b b₁ pos first n size
    → (it : Got of_item s b₁ b₂ (length (marked s) - at) (pos + size) m (followed 14 d (drop at (marked s)))) → TagMade n size m.next m.size m.binary m.length place' a' → may_tag n it.thing ≡ v
    → ReadTold (of_tagged first n) s b b₂ (length (marked s) - at + 1) pos a' (tagged_read d n (length (marked s) - place') (drop at (marked s)))
unfolding tagged_read of_tagged of_item Tells
tag_case {s} {b} {b₁} {b₂} {at} {pos} {place'} {first} {size} {m} {a'} n d true o hw it tm e =
    let may : may_tag_by n m.binary m.length ≡ true = may-held m.binary m.length n it.thing (held-item it.thing it.moved) ∙ e in
    let h : size ≡ length (head_bytes first n) = hw.size.is n in
    let l : length (head_bytes first n ++ encode it.thing) ≡ length (head_bytes first n) + length (encode it.thing) = length-append (head_bytes first n) (encode it.thing) in
    let z : min (size + m.size) (2 ^ 64 - 1) ≡ size + m.size = omega (arith, hw.size.most, it.moved.short, o.room) in
    told-ok it.thing _ (bind-yes (followed 14 d (drop at (marked s))) _ it.thing it.rest it.is ∙ (rw e)) (tm.made may ∙ ap (λ (k : ℕ). Ok (record { next = m.next; size = k; count = 1; indicator = 0; binary = false; length = 0 })) z)
    (record {
      stands = it.moved.stands;
      sized = omega (arith, h, l, it.moved.sized);
      counted = refl;
      indicated = refl;
      tells = refl;
      many = omega (arith, h, head-some first n);
      short = omega (arith, hw.size.most, it.moved.short);
      wrote = wrote-more hw.wrote it.moved.wrote (ap (λ (k : ℕ). pos + k) h);
    })
tag_case {s} {b} {b₁} {b₂} {at} {pos} {place'} {first} {size} {m} {a'} n d false o hw it tm e =
    let may : may_tag_by n m.binary m.length ≡ false = may-held m.binary m.length n it.thing (held-item it.thing it.moved) ∙ e in
    let p : place' ≡ length (marked s) - (length (marked s) - place') = omega (arith, o.before) in
    told-no bad_typed_array (length (marked s) - place') _ (bind-yes (followed 14 d (drop at (marked s))) _ it.thing it.rest it.is ∙ (rw e)) (denied (tm.refused may) p)

module _ {s b b₁ b₂ : List ℕ} {at pos place' first size : ℕ} (n d : ℕ) (a : std.Result MadeItem Refusal) (o : Opened s at pos place') (hw : HeadWritten b b₁ pos first n size)
    (several : ReadTold as_seen s b₁ b₂ (length (marked s) - at) (pos + size) a (several_read Round d (drop at (marked s)))) where
  told₄ : ReadTold of_item s b₁ b₂ (length (marked s) - at) (pos + size) a (followed 14 d (drop at (marked s)))
  unfolding several_read
  told₄ = told-seen of_item (followed 14 d (drop at (marked s))) several

  pub tag-refused : {b'' : List ℕ} {e : Refusal} → a ≡ Err e → ReadTold (of_tagged first n) s b b'' (length (marked s) - at + 1) pos (Err e) (tagged_read d n (length (marked s) - place') (drop at (marked s)))
  unfolding tagged_read
  tag-refused f = told-lost _ _ (lost a told₄ f) refl

  pub tag-done : {m : MadeItem} {a' : std.Result MadeItem Refusal} → a ≡ Ok m → TagMade n size m.next m.size m.binary m.length place' a' → ReadTold (of_tagged first n) s b b₂ (length (marked s) - at + 1) pos a' (tagged_read d n (length (marked s) - place') (drop at (marked s)))
  tag-done {m} {a'} g tm = let it = got a told₄ g in tag_case n d (may_tag n it.thing) o hw it tm refl

pub ruleset tag_ways = (tag-refused, tag-done)

-- where the readers of lists are called, and the sizes that heads are put before
pub opened-room : {s : List ℕ} {at place' : ℕ} (pos : ℕ) → Opened s at pos place' → Room s at (pos + 1)
opened-room pos o = record { inside = o.inside; room = omega (arith, o.room) }

module _ {s : List ℕ} {at place' mark : ℕ} (pos : ℕ) (br : Bracketed s at pos place' mark) where
  pub bracket-fits : Fits bits64 (pos + 1)
  bracket-fits = record { fits = omega (arith, br.opened.room) }

  pub bracket-room : Room s at (pos + 1)
  bracket-room = opened-room pos br.opened

module _ {A : Type 0} {v : A → View} {s b b' : List ℕ} {at place' mark : ℕ} {m : MadeItem} {res : Result A} (pos : ℕ) (a : std.Result MadeItem Refusal) (br : Bracketed s at pos place' mark) (told : ReadTold v s b b' (length (marked s) - at) (pos + 1) a res) (g : a ≡ Ok m) where
  pub bracket_light : Light (pos + m.size)
  bracket_light = kept_light pos a br.opened told g

  pub heavy_4 : Heavy 4 m.size
  heavy_4 = kept-heavy pos a br.opened told g 4 (omega arith)

  pub heavy_5 : Heavy 5 m.size
  heavy_5 = kept-heavy pos a br.opened told g 5 (omega arith)

module _ {s : List ℕ} {at place' room end : ℕ} (pos : ℕ) (o : Opened s at pos place') (rm : Roomed pos end room) where
  pub embed_fits : Fits bits64 (pos + room)
  embed_fits = record { fits = omega (arith, o.room, rm.most) }

  pub embed_room : Room s at (pos + room)
  embed_room = record { inside = o.inside; room = omega (arith, o.room, rm.most) }

  pub embed_heavy : {A : Type 0} {v : A → View} {b b' : List ℕ} {m : MadeItem} {res : Result A} (a : std.Result MadeItem Refusal) → ReadTold v s b b' (length (marked s) - at) (pos + room) a res → a ≡ Ok m → Heavy room m.size
  embed_heavy a told g = kept-heavy pos a o told g room (omega (arith, rm.most))

pub embed_light : {s : List ℕ} {at place' : ℕ} (pos : ℕ) → Opened s at pos place' → Light pos
embed_light pos o = record { fits = omega (arith, o.room) }

-- few things, and no indicator
pub short-few : {indicator count : ℕ} (t : Bool) → IsShort indicator count t → t ≡ true → Few count
short-few t h e = record { most = h.few e }

-- WHAT OPENS A LEVEL, and what is told of the inside
goes_inside : (d : ℕ) (o : Opens) (p : ℕ) (r : List ℕ) → (d ≡ 0 → ⊥) → obey reads (one_rule d (begins (opens o))) p p r ≡ behind_opener (d - 1) o p r
unfolding one_rule beginning behind_opener
goes_inside zero o p r n = absurd (n refl)
goes_inside (suc d) o p r n = let e : suc d - 1 ≡ d = omega arith in rw e

pass : (v : Bool) (w : Width) (n : ℕ) (x : Item) (p : ℕ) (r : List ℕ)
    → ◌≡◌ {A = Result Item} (elim v [ true ↦ ok (tag w n x) r | false ↦ refuse bad_typed_array p ]) (bind (elim v [ true ↦ ok x r | false ↦ refuse bad_typed_array p ]) (λ x r. ok (tag w n x) r))
unfolding bind
pass true w n x p r = refl
pass false w n x p r = refl

abbrev Checked : ℕ → ℕ → Item → List ℕ → Result Item
Checked n p x r = elim (may_tag n x) [ true ↦ ok x r | false ↦ refuse bad_typed_array p ]

tag-step : (d : ℕ) (w : Width) (n : ℕ) (x : Item) (u : Token) (p q : ℕ) (r : List ℕ)
    → obey reads (after_tag d w n x u) p q r ≡ bind (follow_by 14 d x u q r) (λ x r. bind (Checked n p x r) (λ x r. ok (tag w n x) r))
unfolding after_tag obey strays then closing_rule tag_rule shape_number code_of shape_code bind opens_by
tag-step d w n x (begins g) p q r = sym (bind-no _ _ _ _ (follow-no 14 d x (begins g) q r (λ e. begin_not g 14 refl e)))
tag-step d w n x (closes square i) p q r = sym (bind-no _ _ _ _ (follow-no 14 d x (closes square i) q r (λ e. absurd (omega arith))))
tag-step d w n x (closes curly i) p q r = sym (bind-no _ _ _ _ (follow-no 14 d x (closes curly i) q r (λ e. absurd (omega arith))))
tag-step d w n x (closes angle i) p q r = sym (bind-no _ _ _ _ (follow-no 14 d x (closes angle i) q r (λ e. absurd (omega arith))))
tag-step d w n x (closes whole i) p q r = sym (bind-no _ _ _ _ (follow-no 14 d x (closes whole i) q r (λ e. absurd (omega arith))))
tag-step d w n x (closes round i) p q r =
    obey_if (may_tag n x) (give (tag w n x)) (deny_first bad_typed_array) p q r ∙ pass (may_tag n x) w n x p r ∙ sym (bind-yes _ _ _ _ (follow-yes 14 d x (closes round i) q r refl))
tag-step d w n x a_comma p q r = sym (bind-no _ _ _ _ (follow-no 14 d x a_comma q r (λ e. absurd (omega arith))))
tag-step d w n x a_colon p q r = sym (bind-no _ _ _ _ (follow-no 14 d x a_colon q r (λ e. absurd (omega arith))))

within-tag : (d : ℕ) (w : Width) (n p : ℕ) (s : List ℕ) → behind_opener d (tagging w n) p s ≡ bind (tagged_read d n p s) (λ x r. ok (tag w n x) r)
unfolding behind_opener inside obey tagged_read followed
within-tag d w n p s =
    bind-same (reads (one d) s) _ _ (λ x r e. bind-same (next r) _ _ (λ u r' e'. tag-step d w n x u p (place r) r') ∙ sym (bind_assoc (next r) _ _))
    ∙ sym (bind_assoc (reads (one d) s) _ _) ∙ sym (bind_assoc (followed 14 d s) _ _)

tag_view : (first : ℕ) (w : Width) (n : ℕ) (x : Item) → first ≡ initial tags (information w n) → n ≤ limit w → of_tagged first n x ≡ of_item (tag w n x)
unfolding of_tagged of_item encode held_of
tag_view first w n x e h =
    let q : head_bytes first n ++ encode x ≡ head tags w n ++ encode x = ap (λ (u : List ℕ). u ++ encode x) (ap (λ (k : ℕ). head_bytes k n) e ∙ sym (head_bytes_lem tags w n h)) in
    λ j. record { bytes = q j; count = 1; indicator = 0; held = no_bytes }

open_told : {s b b' : List ℕ} {pos from : ℕ} {a : std.Result MadeItem Refusal} {o : Opening} (d : ℕ) (op : Opens) → OpensAs s from o op → (d ≡ 0 → ⊥)
    → ReadTold of_item s b b' (length (marked s) - o.next + 1) pos a (behind_opener (d - 1) op (length (marked s) - o.place) (drop o.next (marked s)))
    → ReadTold of_item s b b' (length (marked s) - from) pos a (reads (one d) (drop from (marked s)))
open_told {s} {from = from} {o = o} d op x n h =
    let le : length (marked s) - o.next + 1 ≤ length (marked s) - from = omega (arith, x.next_at.ahead, x.next_at.inside) in
    let q : reads (one d) (drop from (marked s)) ≡ behind_opener (d - 1) op (length (marked s) - o.place) (drop o.next (marked s)) =
    one-is d (drop from (marked s)) ∙ bind-yes (next (drop from (marked s))) _ (begins (opens op)) (drop o.next (marked s)) x.next_at.is ∙ goes_inside d op (place (drop from (marked s))) (drop o.next (marked s)) n ∙ rw x.place_is in
    told_more le (rw q h)

module _ {s b b' : List ℕ} {pos from at : ℕ} {q : LeafRead} {a : std.Result MadeItem Refusal} {o : Opening} (d : ℕ) (l : LevelAt s from at q d) (ot : OpeningTold s from o) where
  pub item-array : o.opener ≡ Array → ReadTold of_item s b b' (length (marked s) - o.next + 1) pos a (behind_opener (d - 1) (bracket (indicator_for o.indicator)) (length (marked s) - o.place) (drop o.next (marked s)))
      → ReadTold of_item s b b' (length (marked s) - from) pos a (reads (one d) (drop from (marked s)))
  item-array e h = open_told d (bracket (indicator_for o.indicator)) (ot.array e).opens_as (λ z. omega (arith, l.some)) h

  pub item-map : o.opener ≡ Map → ReadTold of_item s b b' (length (marked s) - o.next + 1) pos a (behind_opener (d - 1) (brace (indicator_for o.indicator)) (length (marked s) - o.place) (drop o.next (marked s)))
      → ReadTold of_item s b b' (length (marked s) - from) pos a (reads (one d) (drop from (marked s)))
  item-map e h = open_told d (brace (indicator_for o.indicator)) (ot.map e).opens_as (λ z. omega (arith, l.some)) h

  pub item_embed : o.opener ≡ Embedded → ReadTold of_item s b b' (length (marked s) - o.next + 1) pos a (behind_opener (d - 1) embedding (length (marked s) - o.place) (drop o.next (marked s)))
      → ReadTold of_item s b b' (length (marked s) - from) pos a (reads (one d) (drop from (marked s)))
  item_embed e h = open_told d embedding (ot.embedded e) (λ z. omega (arith, l.some)) h

  pub item-tag : o.opener ≡ Tag → ReadTold (of_tagged o.first o.number) s b b' (length (marked s) - o.next + 1) pos a (tagged_read (d - 1) o.number (length (marked s) - o.place) (drop o.next (marked s)))
      → ReadTold of_item s b b' (length (marked s) - from) pos a (reads (one d) (drop from (marked s)))
  item-tag e h =
      let t = ot.tag e in
      open_told d (tagging t.width o.number) t.opens_as (λ z. omega (arith, l.some))
      (rw (within-tag (d - 1) t.width o.number (length (marked s) - o.place) (drop o.next (marked s))) (told-map (tag t.width o.number) (λ x. tag_view o.first t.width o.number x t.first t.fits) h))

-- where the readers of the inside are called
module _ {s : List ℕ} {from : ℕ} {o : Opening} (pos : ℕ) (ot : OpeningTold s from o) (rm : Room s from pos) where
  opened-by : (op : Opens) → OpensAs s from o op → Opened s o.next pos o.place
  opened-by op x = record { inside = x.next_at.inside; room = omega (arith, rm.room, x.next_at.ahead, x.next_at.inside); before = x.before }

  pub open_array : o.opener ≡ Array → Bracketed s o.next pos o.place o.indicator
  open_array e = let b = ot.array e in record { opened = opened-by (bracket (indicator_for o.indicator)) b.opens_as; known = b.known }

  pub open_map : o.opener ≡ Map → Bracketed s o.next pos o.place o.indicator
  open_map e = let b = ot.map e in record { opened = opened-by (brace (indicator_for o.indicator)) b.opens_as; known = b.known }

  pub open_tag : o.opener ≡ Tag → Opened s o.next pos o.place
  open_tag e = opened-by _ (ot.tag e).opens_as

  pub open_embed : o.opener ≡ Embedded → Opened s o.next pos o.place
  open_embed e = opened-by embedding (ot.embedded e)

-- and where no indicator stands behind the bracket
module _ {s : List ℕ} {from at : ℕ} {t : Bool} (pos : ℕ) (e : t ≡ true) where
  bare_array : OpensBare s from at Array t → OpeningTold s from (record { opener = Array; indicator = 0; first = 0; number = 0; place = at; next = at + 1 })
  unfolding bracket_byte
  bare_array x = x.is e (λ z. omega arith)

  bare_map : OpensBare s from at Map t → OpeningTold s from (record { opener = Map; indicator = 0; first = 0; number = 0; place = at; next = at + 1 })
  unfolding bracket_byte
  bare_map x = x.is e (λ z. omega arith)

  pub bare_array-room : OpensBare s from at Array t → Room s from pos → Bracketed s (at + 1) pos at 0
  bare_array-room x rm = open_array pos (bare_array x) rm refl

  pub bare_map-room : OpensBare s from at Map t → Room s from pos → Bracketed s (at + 1) pos at 0
  bare_map-room x rm = open_map pos (bare_map x) rm refl

  module _ {b b' : List ℕ} {q : LeafRead} {a : std.Result MadeItem Refusal} (d : ℕ) (l : LevelAt s from at q d) where
    pub item_bare_array : OpensBare s from at Array t → ReadTold of_item s b b' (length (marked s) - (at + 1) + 1) pos a (behind_opener (d - 1) (bracket (indicator_for 0)) (length (marked s) - at) (drop (at + 1) (marked s)))
        → ReadTold of_item s b b' (length (marked s) - from) pos a (reads (one d) (drop from (marked s)))
    item_bare_array x h = item-array d l (bare_array x) refl h

    pub item_bare_map : OpensBare s from at Map t → ReadTold of_item s b b' (length (marked s) - (at + 1) + 1) pos a (behind_opener (d - 1) (brace (indicator_for 0)) (length (marked s) - at) (drop (at + 1) (marked s)))
        → ReadTold of_item s b b' (length (marked s) - from) pos a (reads (one d) (drop from (marked s)))
    item_bare_map x h = item-map d l (bare_map x) refl h

-- no level is opened
pub item_flat : {s b b' : List ℕ} {pos : ℕ} {a a' : std.Result MadeItem Refusal} (from d : ℕ) → ReadTold of_item s b b' (length (marked s) - from) pos a (reads (one d) (drop from (marked s))) → a' ≡ a → ReadTold of_item s b b' (length (marked s) - from) pos a' (reads (one d) (drop from (marked s)))
item_flat from d h e = rw e h

pub ruleset bare_ways = (item_bare_array, item_bare_map)

pub ruleset level_ways = (item-array, item-map, item_embed, item-tag, item_flat)

pub ruleset open_rooms = (open_array, open_map, open_tag, open_embed)

-- ONE ITEM, AND ALL
pub one_told : {s b b' : List ℕ} {pos : ℕ} {a : std.Result MadeItem Refusal} (from d : ℕ) → ReadTold as_seen s b b' (length (marked s) - from) pos a (several_read Nothing d (drop from (marked s))) → ReadTold of_item s b b' (length (marked s) - from) pos a (reads (one d) (drop from (marked s)))
unfolding several_read
one_told {s} from d h = told-seen of_item (reads (one d) (drop from (marked s))) h

pub whole_room : (s : List ℕ) → length s ≤ 65535 → Room s 0 0
whole_room s h = record { inside = omega arith; room = omega (arith, length_marked s) }

pub whole-told : {s b b' : List ℕ} {a : std.Result MadeItem Refusal} → ReadTold as_seen s b b' (length (marked s) - 0) 0 a (several_read Whole 16 (drop 0 (marked s))) → ReadTold of_closed s b b' (length (marked s)) 0 a (sequence s)
unfolding several_read sequence
whole-told {s} h = let le : length (marked s) - 0 ≤ length (marked s) = omega arith in told_more le (told-seen of_closed (reads (items whole at_start 16) (drop 0 (marked s))) h)
