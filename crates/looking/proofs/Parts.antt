-- The part at a path, as the code finds it.
-- Assumes nothing.
use Prim.Native.Nat.{ℕ, ◌+◌, ◌-◌, ◌*◌, ◌^◌, ◌≤◌, ◌<◌}
use native.Mathlib.Omega.{arith}
use mathlib.Core.Path.{◌≡◌, refl, sym, ap, ◌∙◌}
use mathlib.Core.List.{List, [], ◌++◌, append-nil}
use lib.ListN.{length, take, drop, length-drop, length-append}
use Rattle.cbor.specs.Refusals.{Result, ok, refuse, accepted, refused as refused_v, verdict_of, no_such_path}
use Rattle.cbor.specs.Items.{Item, Items}
use Rattle.cbor.specs.Encode.{encode, encode_all}
use Rattle.cbor.specs.Valid.{Bytes}
use Rattle.cbor.specs.Decode.{item as item_at, decode}
use Rattle.cbor.specs.Paths.{Spot, Found, found, nowhere, locate, start, end}
use Rattle.refusal.specs.RefusalKinds.{kind_number}
use Rattle.walk_answer.specs.WalkAnswers.{pass_told, walk_told, contents, contents_all, map_result, told_of, walk_of, walk_all_of, below, one_of, until_by, item_after}
use Rattle.refusal.specs.declared.Refusal.{Refusal}
use Rattle.refusal.specs.declared.RefusalKind.TheVariants.{NoSuchPath}
use Rattle.walk_answer.specs.declared.WalkedItem.{WalkedItem}
use Rattle.walk_answer.specs.declared.Passage.{Passage}
use Rattle.cbor.proofs.DecodeEncode.{item_of_encode}
use Rattle.cbor.proofs.EncodeDecode.{encode_of_decode}
use Rattle.cbor.proofs.Paths.{part-at-path}
use Rattle.walk_answer.proofs.WalkCycle.{all_one}
use Rattle.walk_parts.proofs.WalkItems.{item-told, all_short}
use Rattle.operations.specs.Operations.{items_of, and_then, spot_of, look_up, part_of}
use Rattle.path.specs.Following.{at, trace}
use Rattle.path.specs.StepAnswers.{traced_to, Still, Traced}
use Rattle.looking.specs.GuidedAnswers.{WayThrough, IfFound, Through}
use Rattle.looking.specs.declared.guided.Way.{Way}
use Rattle.part.specs.PartAnswers.{part_found, locate_refused, locate_told, locate_of, Ordered, taken}
use Rattle.part.proofs.Taking.{taken_is}
use Rattle.looking.specs.Answers.{Checks, Accepts, Parts}
use Rattle.path.specs.declared.Cursor.{Cursor}
use Rattle.path.proofs.Traces.{SoundAll, spotted, locate-place, locate_sound}
use Rattle.std.specs.Prelude.{Ok, Err, Some}
use Rattle.std.specs.Prelude as std
use Rattle.part.specs.declared.Part.{Part}

-- bytes that were checked, with their items
pub record Read (s : List ℕ) : Type 0 where
  pub items : Items
  pub is : items_of s ≡ accepted items
  pub same : encode_all items ≡ s
  pub sound : SoundAll items

read_of : (s : List ℕ) (m : Passage) (res : Result Items) → Bytes s → decode s ≡ res → pass_told (Ok m) ≡ told_of (length s) (map_result contents_all res) → Read s
unfolding pass_told told_of map_result items_of verdict_of
read_of s m (ok xs r) b e h =
    let d = encode_of_decode s xs r b e in
    record { items = xs; is = ap (verdict_of (length s)) e; same = d.same; sound = (d.valid, d.low) }
read_of s m (refuse n l) b e h = let z : ◌≡◌ {A = ℕ} 0 1 = cc in absurd (omega arith)

refused_of : (s path : List ℕ) (e : Refusal) (res : Result Items) → decode s ≡ res → pass_told (Err e) ≡ told_of (length s) (map_result contents_all res) → locate_told (Err e) ≡ locate_of (look_up s path)
unfolding pass_told told_of map_result items_of verdict_of look_up and_then locate_told locate_of
refused_of s path e (ok xs r) d h = let z : ◌≡◌ {A = ℕ} 0 1 = cc in absurd (omega arith)
refused_of s path e (refuse k l) d h =
    let i : kind_number e.kind ≡ k = cc in
    let j : e.place ≡ length s - l = cc in
    (λ x. locate_refused (i x) (j x)) ∙ sym (rw d)

-- where the path leads, by where it was traced to
look_is : {s : List ℕ} (path : List ℕ) (r : Read s) → look_up s path ≡ spot_of (locate path r.items)
unfolding look_up and_then
look_is path r = rw r.is

trace-is : {s : List ℕ} (path : List ℕ) (r : Read s) → trace path s ≡ spotted (locate path r.items) []
trace-is path r = ap (trace path) (sym r.same) ∙ locate-place path r.items r.sound

-- the spot that a path leads to
pub record Stands (s : List ℕ) (i : ℕ) (z : Spot) : Type 0 where
  pub reads : item_at 16 (drop i s) ≡ ok z.item z.behind
  pub begins : i ≡ start z
  pub ends : length s - length z.behind ≡ end z
  pub inside : end z ≤ length s

stands_of : (s path : List ℕ) (r : Read s) (i : ℕ) (z : Spot) → i ≤ length s → locate path r.items ≡ found z → drop i s ≡ encode z.item ++ (z.behind ++ []) → Stands s i z
unfolding start end
stands_of s path r i z h e d =
    let p = part-at-path path r.items z e in
    let v = locate_sound path r.items z r.sound e in
    let w : drop i s ≡ encode z.item ++ z.behind = d ∙ ap (λ (t : List ℕ). encode z.item ++ t) (append-nil z.behind) in
    let n : length s ≡ length z.before + (length (encode z.item) + length z.behind) =
    ap length (sym r.same ∙ p.was) ∙ length-append z.before (encode z.item ++ z.behind) ∙ ap (λ (k : ℕ). length z.before + k) (length-append (encode z.item) z.behind) in
    let m : length s - i ≡ length (encode z.item) + length z.behind = sym (length-drop i s) ∙ ap length w ∙ length-append (encode z.item) z.behind in
    record {
      reads = ap (item_at 16) w ∙ item_of_encode z.item 16 z.behind v.0 v.1;
      begins = omega arith;
      ends = omega arith;
      inside = omega arith;
    }

spot-order : (z : Spot) → start z ≤ end z
unfolding start end
spot-order z = omega arith

lost-at : (s : List ℕ) (i : ℕ) (f : Found Spot) → nowhere i ≡ spotted f [] → spot_of f ≡ refused_v no_such_path i
unfolding spot_of
lost-at s i (found z) e = let z : ◌≡◌ {A = ℕ} 0 1 = cc in absurd (omega arith)
lost-at s i (nowhere j) e = let k : i ≡ j = cc in ap (refused_v no_such_path) (sym k)

found_at : (t : List ℕ) (f : Found Spot) → found t ≡ spotted f [] → (z : Spot) × (f ≡ found z) × (t ≡ encode z.item ++ (z.behind ++ []))
found_at t (found z) e = (z, refl, cc)
found_at t (nowhere j) e = let z : ◌≡◌ {A = ℕ} 0 1 = cc in absurd (omega arith)

-- THE CHECK

module _ {s : List ℕ} {a : std.Result Passage Refusal} (ch : Checks s a) where
  pub check_refused_lem : {path : List ℕ} {e : Refusal} → a ≡ Err e → Parts s path (Err e)
  unfolding walk_all_of Ordered
  check_refused_lem {path} {e} f = record { is = refused_of s path e (decode s) refl (rw f at ch.is); inside = tt }

  pub check_accepted : {m : Passage} → a ≡ Ok m → Accepts s
  check_accepted {m} f = record { whole = m; checks = rw f at ch }

-- STEP BY STEP

read_in : {s : List ℕ} → Accepts s → Read s
unfolding walk_all_of
read_in {s} ac = read_of s ac.whole (decode s) ac.checks.bytes refl ac.checks.is

module _ {s path : List ℕ} (ac : Accepts s) where
  module _ {tr : std.Result Cursor ℕ} (told : Traced s path tr) where
    pub part-lost : {i : ℕ} {r : std.Result Part Refusal} → tr ≡ Err i → r ≡ Err (record { kind = NoSuchPath; place = i }) → Parts s path r
    unfolding traced_to locate_told locate_of Ordered kind_number
    part-lost {i} e h =
        let t : nowhere i ≡ spotted (locate path (read_in ac).items) [] = sym (ap (traced_to s) e) ∙ told.is ∙ trace-is path (read_in ac) in
        rw h (record { is = sym (ap locate_of (look_is path (read_in ac) ∙ lost-at s i (locate path (read_in ac).items) t)); inside = tt })

    module _ {c : Cursor} (e : tr ≡ Ok c) where
      pub part_room : c.at ≤ length s
      unfolding Still
      part_room = rw e at told.inside

      spot : (z : Spot) × (locate path (read_in ac).items ≡ found z) × (drop c.at s ≡ encode z.item ++ (z.behind ++ []))
      unfolding traced_to
      spot = found_at (drop c.at s) (locate path (read_in ac).items) (sym (ap (traced_to s) e) ∙ told.is ∙ trace-is path (read_in ac))

      spot-stands : Stands s c.at spot.0
      spot-stands = stands_of s path (read_in ac) c.at spot.0 part_room spot.1 spot.2

      module _ (inner : std.Result WalkedItem Refusal) (long : length s * 1 < 2 ^ 63)
          (walked : walk_told inner ≡ walk_of (length (take (length s - c.at) (drop c.at s))) (item_at 16 (take (length s - c.at) (drop c.at s)))) (whole : std.Result WalkedItem Refusal)
          (after : walk_told whole ≡ item_after c.at (walk_told inner)) where
        whole-told : walk_told whole ≡ walk_of (length s) (ok spot.0.item spot.0.behind)
        whole-told = item-told 16 s c.at inner whole part_room long walked after ∙ ap (walk_of (length s)) spot-stands.reads

        pub part_gone : {x : Refusal} → whole ≡ Err x → Parts s path (Err x)
        unfolding walk_told walk_of
        part_gone g = let h = rw g at whole-told in let z : ◌≡◌ {A = ℕ} 0 1 = cc in absurd (omega arith)

        pub part-made : {w : WalkedItem} {r : std.Result Part Refusal} → whole ≡ Ok w → r ≡ Ok (record { start = c.at; end = w.end }) → Parts s path r
        unfolding walk_told walk_of locate_told locate_of spot_of Ordered
        part-made {w} g h =
            let k = rw g at whole-told in
            let st = spot-stands in
            let n : w.end ≡ length s - length spot.0.behind = cc in
            let q : w.end ≡ end spot.0 = n ∙ st.ends in
            let o : c.at ≤ w.end = omega (arith, st.begins, spot-order spot.0) in
            let b : w.end ≤ length s = omega (arith, st.inside) in
            rw h (record {
              is = (λ j. part_found (st.begins j) (q j)) ∙ sym (ap locate_of (look_is path (read_in ac) ∙ ap spot_of spot.1));
              inside = (o, b);
            })

pub ruleset part_ways = (part-lost, part_gone, part-made)

-- IN ONE WALK

module _ {s path : List ℕ} {w : Way} (v : WayThrough s path w) where
  through_all : Accepts s
  unfolding pass_told told_of until_by
  through_all =
      record {
        whole = record { end = length s - length (drop w.behind s); size = v.walks.size };
        checks = record { is = all_short s v.short (sym (ap (told_of (length s)) v.walks.is)); bytes = v.bytes };
      }

  through_trace : Traced s path (Ok (record { at = w.start }))
  unfolding traced_to Still
  through_trace = record { is = sym v.traces; inside = v.starts }

  -- the item that was walked over is the one at the path
  ends_alike : (res : Result Item) (x : Item) (r : List ℕ) (n : ℕ) → res ≡ ok x r → map_result contents res ≡ ok n (drop w.end s) → r ≡ drop w.end s
  unfolding map_result
  ends_alike (ok y t) x r n e f = let a : t ≡ r = cc in let b : t ≡ drop w.end s = cc in sym a ∙ b
  ends_alike (refuse k l) x r n e f = let z : ◌≡◌ {A = ℕ} 0 1 = cc in absurd (omega arith)

  part_through : Parts s path (Ok (record { start = w.start; end = w.end }))
  unfolding locate_told locate_of spot_of Ordered one_of below
  part_through =
      let z = spot through_all through_trace refl in
      let st = spot-stands through_all through_trace refl in
      let own : map_result contents (item_at 16 (drop w.start s)) ≡ ok v.item.size (drop w.end s) = sym (all_one 4 17 (drop w.start s)) ∙ v.item.is in
      let same = ends_alike (item_at 16 (drop w.start s)) z.0.item z.0.behind v.item.size st.reads own in
      let n : length z.0.behind ≡ length s - w.end = ap length same ∙ length-drop w.end s in
      let q : w.end ≡ end z.0 = omega (arith, st.ends, v.ends) in
      record {
        is = (λ j. part_found (st.begins j) (q j)) ∙ sym (ap locate_of (look_is path (read_in through_all) ∙ ap spot_of z.1));
        inside = (omega (arith, st.begins, spot-order z.0), v.ends);
      }

module _ {s path : List ℕ} {a : std.Option Way} (t : Through s path a) where
  pub at_once : {w : Way} {r : std.Result Part Refusal} → a ≡ Some w → r ≡ Ok (record { start = w.start; end = w.end }) → Parts s path r
  unfolding IfFound
  at_once e h = rw h (part_through (rw e at t.told))

-- LOOK UP

pub located : {s path : List ℕ} {r : std.Result Part Refusal} → Parts s path r → locate_told r ≡ locate_of (look_up s path)
located p = p.is

module _ {s path : List ℕ} {r : std.Result Part Refusal} (p : Parts s path r) where
  pub look_ordered : Ordered s r
  look_ordered = p.inside

  pub look_taken : {w : List ℕ} → w ≡ taken s r → w ≡ part_of s (look_up s path)
  look_taken e = e ∙ taken_is s r (look_up s path) p.is
