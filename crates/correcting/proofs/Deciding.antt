-- What a correction comes to, before anything is written.
-- Assumes nothing.
use Prim.Native.Nat.{ℕ, ◌+◌, ◌-◌, ◌≤◌, min}
use native.Mathlib.Omega.{arith}
use mathlib.Core.Path.{◌≡◌, refl, sym, ap, ◌∙◌}
use mathlib.Core.Bool.{Bool, true, false}
use mathlib.Core.List.{List, [], ◌++◌, append_assoc}
use lib.Dec.{leb}
use lib.ListN.{length, take, drop, length-append, length-take, take-append-drop}
use lib.Seq.{take_at, drop_at}
use borrow.Author.Tests.{leb-true}
use Rattle.cbor.specs.Refusals.{Verdict, accepted, refused, verdict_of, no_room}
use Rattle.cbor.specs.Items.{Item, Items}
use Rattle.cbor.specs.Encode.{encode}
use Rattle.cbor.specs.Valid.{Bytes}
use Rattle.cbor.specs.Decode.{most_bytes}
use Rattle.cbor.specs.Paths.{Spot, Found, locate, found, nowhere, start, end}
use Rattle.memory.specs.Buffer.{over}
use Rattle.refusal.specs.RefusalKinds.{kind_number}
use Rattle.refusal.specs.declared.Refusal.{Refusal}
use Rattle.refusal.specs.declared.RefusalKind.TheVariants.{TooLong}
use Rattle.cbor.proofs.Results.{refused_not_accepted}
use Rattle.cbor.proofs.Paths.{part-at-path}
use Rattle.notation.specs.Reading.{marked, single, read_item}
use Rattle.notation.specs.Alone.{plus}
use Rattle.notation_theorems.proofs.MarkedText.{marked-length}
use Rattle.encoding.specs.ReadAnswers.{Wrote, ReadTold, of_item}
use Rattle.encoding.proofs.Wrote.{wrote-held}
use Rattle.correcting.proofs.ReadOne.{one-accepted, one_denied}
use Rattle.encoding.specs.declared.answer.MadeItem.{MadeItem}
use Rattle.operations.specs.Operations.{and_then, room, fitting, written, items_of, spot_of, look_up, level, replaced, correction, zeroed, correct}
use Rattle.part.specs.PartAnswers.{locate_told, locate_of}
use Rattle.outcome.specs.Outcomes.{outcome_of, Roomy}
use Rattle.text_check.specs.TextAnswers.{text_told, passing}
use Rattle.planning.specs.PlanAnswers.{Bounded, length_for, PlanFor}
use Rattle.splicing.specs.Splices.{splice, Plans}
use Rattle.correcting.specs.Corrections.{Spots, NewRead, Newly, decision_of, Planned, room_for, Replaces, Decides, Corrects}
use Rattle.part.specs.declared.Part.{Part}
use Rattle.planning.specs.declared.Plan.{Plan}
use Rattle.operations.proofs.Verdicts.{and_then-ok, and_then-is, and_then-refused}
use Rattle.text_check.proofs.Texts.{passes, fails, passed-short}
use Rattle.operations.proofs.Demands.{items_of-ok}
use Rattle.splicing.proofs.Putting.{whole_length}
use Rattle.std.specs.Prelude.{Ok, Err}
use Rattle.std.specs.Prelude as std

-- THE NEW ITEM
newly : (s : List ℕ) (levels : ℕ) (item : List ℕ) (a : std.Result MadeItem Refusal) (v : Verdict Item) → read_item levels s ≡ v → NewRead item a v → Newly s levels item a
newly s levels item a v e n = record { read = rw e n }

stands : {b b' ws : List ℕ} {n : ℕ} → n ≡ length ws → Wrote b b' 0 ws → n ≤ length b → take n b' ≡ ws
stands {b} {b'} {ws} {n} e w f = let g : length ws ≤ length b = omega arith in rw e (wrote-held w g)

module _ (s : List ℕ) {t : std.Result Unit Refusal} (h : text_told t ≡ passing s) where
  pub new_short : t ≡ (Ok tt) → length s ≤ 65535
  unfolding text_told
  new_short e = passed-short s (sym h ∙ rw e)

  pub new_refused : {levels : ℕ} {item : List ℕ} {e : Refusal} → t ≡ Err e → Newly s levels item (Err e)
  unfolding text_told read_item NewRead
  new_refused {levels} {item} {e} i =
      let p : passing s ≡ refused (kind_number e.kind) e.place = sym h ∙ rw i in
      newly s levels item (Err e) _ (fails s (verdict_of (length s) (single levels s)) p) (e, refl, refl, refl)

  pub new_read : {levels : ℕ} {item item' : List ℕ} {a : std.Result MadeItem Refusal} → t ≡ (Ok tt) → Roomy s item → ReadTold of_item s item item' (length (marked s)) 0 a (plus (single levels s)) → Newly s levels item' a
  unfolding text_told read_item NewRead
  new_read {levels} {item} {item'} {a} i l told = go a told
    where
      passed : read_item levels s ≡ verdict_of (length s) (single levels s)
      passed = passes s (verdict_of (length s) (single levels s)) (sym h ∙ rw i)

      go : (a : std.Result MadeItem Refusal) → ReadTold of_item s item item' (length (marked s)) 0 a (plus (single levels s)) → Newly s levels item' a
      go (Ok m) x =
          let o = one-accepted levels (Ok m) x refl in
          let f : m.size ≤ most_bytes → m.size ≤ length item = λ n. omega (arith, n, o.short, l.room, marked-length s) in
          let w : m.size ≤ most_bytes → take m.size item' ≡ encode o.item = λ n. stands o.size o.wrote (f n) in
          newly s levels item' (Ok m) _ (passed ∙ o.is) (m, refl, record { sized = o.size; held = w }, λ n. omega (arith, f n, o.wrote.same))
      go (Err e) x = newly s levels item' (Err e) _ (passed ∙ one_denied levels (Err e) x refl) (e, refl, refl, refl)

pub ruleset new_ways = (new_refused, new_read)

-- THE PART THAT IS REPLACED
module _ (b : List ℕ) (p : Part) (used room : ℕ) (w : List ℕ) where
  room-yes : leb (length_for p used (length w)) (min room most_bytes) ≡ true → room_for b p used room w ≡ accepted (splice b used p.start p.end w)
  unfolding room_for
  room-yes t = rw (t, room_for)

  room-no : leb (length_for p used (length w)) (min room most_bytes) ≡ false → room_for b p used room w ≡ refused no_room 0
  unfolding room_for
  room-no t = rw (t, room_for)

replace_new : (p : Part) (used room levels : ℕ) (s item : List ℕ) (d : std.Result Plan Refusal) {a : std.Result MadeItem Refusal} {m : MadeItem} (v : Verdict Item) → read_item levels s ≡ v → NewRead item a v → a ≡ Ok m → Bounded p used
    → PlanFor p used m.size room d → Replaces p used room levels s item d
unfolding NewRead and_then decision_of Planned kind_number
replace_new p used room levels s item d {m = m} (accepted y) e (m', i, w, l) j k f = go (leb (length_for p used m.size) (min room most_bytes)) refl
  where
    same : m' ≡ m
    same = cc (i, j)

    sized : m.size ≡ length (encode y)
    sized = rw same at w.sized

    go : (t : Bool) → leb (length_for p used m.size) (min room most_bytes) ≡ t → Replaces p used room levels s item d
    go true t =
        let h = leb-true (length_for p used m.size) (min room most_bytes) t in
        let n : take m.size item ≡ encode y = (rw same at w.held) (omega arith) in
        let u : leb (length_for p used (length (encode y))) (min room most_bytes) ≡ true = rw sized at t in
        rw (f.yes t) (record {
          is = λ b. ap (λ (q : List ℕ). accepted (splice b used p.start p.end q)) n ∙ sym (room-yes b p used room (encode y) u) ∙ rw e;
          planned = λ b lb ub. record {
            order = k.order;
            inside = k.inside;
            within = omega arith;
            held = (rw same at l) (omega arith);
            sized = refl;
            room = omega arith;
            short = omega arith;
          };
        })
    go false t =
        let u : leb (length_for p used (length (encode y))) (min room most_bytes) ≡ false = rw sized at t in
        rw (f.no t) (record { is = λ b. sym (room-no b p used room (encode y) u) ∙ rw e; planned = λ b lb ub. tt })
replace_new p used room levels s item d (refused n q) e (x, i, j, k') g k f = let z : ◌≡◌ {A = ℕ} 0 1 = cc (i, g) in absurd (omega arith)

replace_no : (p : Part) (used room levels : ℕ) (s item : List ℕ) {a : std.Result MadeItem Refusal} {x : Refusal} (v : Verdict Item) → read_item levels s ≡ v → NewRead item a v → a ≡ Err x
    → Replaces p used room levels s item (Err x)
unfolding NewRead and_then decision_of Planned
replace_no p used room levels s item (accepted y) e (m, i, w, l) g = let z : ◌≡◌ {A = ℕ} 0 1 = cc (i, g) in absurd (omega arith)
replace_no p used room levels s item {x = x} (refused n q) e (x', i, j, k) g =
    let same : x' ≡ x = cc (i, g) in
    record { is = λ b. rw (e, rw same at j, rw same at k); planned = λ b lb ub. tt }

module _ (p : Part) (used room : ℕ) {levels : ℕ} {s item : List ℕ} {a : std.Result MadeItem Refusal} (nw : Newly s levels item a) where
  pub replace_done : {m : MadeItem} {d : std.Result Plan Refusal} → a ≡ Ok m → Bounded p used → PlanFor p used m.size room d → Replaces p used room levels s item d
  replace_done e k f = replace_new p used room levels s item _ (read_item levels s) refl nw.read e k f

  pub replace_refused : {x : Refusal} → a ≡ Err x → Replaces p used room levels s item (Err x)
  replace_refused e = replace_no p used room levels s item (read_item levels s) refl nw.read e

pub ruleset replace_ways = (replace_done, replace_refused)

-- WHERE THE ITEM IS
record Spotted (s path : List ℕ) (p : Part) : Type 0 where
  spot : Spot
  is : look_up s path ≡ accepted spot
  start : p.start ≡ length spot.before
  end : p.end ≡ length spot.before + length (encode spot.item)
  whole : s ≡ spot.before ++ (encode spot.item ++ spot.behind)

spot-found : (path : List ℕ) (xs : Items) (z : Spot) → spot_of (locate path xs) ≡ accepted z → locate path xs ≡ found z
unfolding spot_of
spot-found path xs z e = go (locate path xs) e
  where
    go : (f : Found Spot) → spot_of f ≡ accepted z → f ≡ found z
    go (found y) i = ap found (cc)
    go (nowhere k) i = absurd (refused_not_accepted i)

spotted : (s path : List ℕ) (p : Part) → Bytes s → (v : Verdict Spot) → look_up s path ≡ v → locate_told (Ok p) ≡ locate_of v → Spotted s path p
unfolding locate_told locate_of look_up start end
spotted s path p b (accepted z) e h =
    let o = and_then-ok (items_of s) (λ xs. spot_of (locate path xs)) e in
    let d = items_of-ok s o.0 b o.1 in
    let w = (part-at-path path o.0 z (spot-found path o.0 z o.2)).was in
    record { spot = z; is = e; start = cc; end = cc; whole = sym d.same ∙ w }
spotted s path p b (refused n q) e h = let z : ◌≡◌ {A = ℕ} 0 1 = cc in absurd (omega arith)

-- the bytes around the item
module _ (b : List ℕ) (used : ℕ) (path : List ℕ) (p : Part) (l : used ≤ length b) (sp : Spotted (take used b) path p) where
  abbrev z : Spot
  z = sp.spot

  used_is : used ≡ length z.before + (length (encode z.item) + length z.behind)
  used_is = omega (arith, length-take used b, simp length-append at (ap length sp.whole))

  front-is : take p.start b ≡ z.before
  front-is =
      ap (take p.start) (sym (take-append-drop used b) ∙ ap (λ (v : List ℕ). v ++ drop used b) sp.whole ∙ append_assoc z.before _ (drop used b))
      ∙ take_at z.before _ p.start (sym sp.start)

  back_is : drop p.end (take used b) ≡ z.behind
  back_is =
      ap (drop p.end) (sp.whole ∙ sym (append_assoc z.before (encode z.item) z.behind))
      ∙ drop_at (z.before ++ encode z.item) z.behind p.end (length-append z.before (encode z.item) ∙ sym sp.end)

  splice-is : (y : Item) → splice b used p.start p.end (encode y) ≡ replaced z y
  unfolding splice replaced
  splice-is y = λ j. front-is j ++ (encode y ++ back_is j)

  length-is : (y : Item) → length_for p used (length (encode y)) ≡ length (replaced z y)
  unfolding replaced
  length-is y = simp length-append (omega (arith, sp.start, sp.end, used_is))

  room-is : (y : Item) → room_for b p used (length b) (encode y) ≡ fitting b (replaced z y)
  unfolding room_for fitting room
  room-is y = λ j. elim (leb (length-is y j) (min (length b) most_bytes)) [ true ↦ accepted (splice-is y j) | false ↦ refused no_room 0 ]

  onward-room : (v : Verdict Item) → and_then v (λ y. room_for b p used (length b) (encode y)) ≡ and_then v (λ y. fitting b (replaced z y))
  unfolding and_then
  onward-room (accepted y) = room-is y
  onward-room (refused n q) = refl

refused-spot : (e : Refusal) (w : Verdict Spot) → locate_told (Err e) ≡ locate_of w → w ≡ refused (kind_number e.kind) e.place
unfolding locate_told locate_of
refused-spot e (accepted z) h = let z : ◌≡◌ {A = ℕ} 0 1 = cc in absurd (omega arith)
refused-spot e (refused n q) h = let i : kind_number e.kind ≡ n = cc in let j : e.place ≡ q = cc in rw (i, j)

-- THE DECISION: v says whether the used bytes are within the buffer
module _ (b : List ℕ) (used : ℕ) (path text : List ℕ) {v : Bool} (f : v ≡ leb used (min (length b) most_bytes)) where
  pub decide_long : {item : List ℕ} {d : std.Result Plan Refusal} → v ≡ false → d ≡ Err (record { kind = TooLong; place = 0 }) → Decides b used path text item d
  unfolding correction room decision_of Planned kind_number
  decide_long t e =
      let i : leb used (min (length b) most_bytes) ≡ false = sym f ∙ t in
      rw e (record { is = rw (i, correction); planned = tt })

  inside : v ≡ true → used ≤ min (length b) most_bytes
  inside t = leb-true used (min (length b) most_bytes) (sym f ∙ t)

  pub decide_inside : v ≡ true → used ≤ length b
  decide_inside t = omega (arith, inside t)

  onward_of : v ≡ true → correction b used path text ≡ and_then (look_up (take used b) path) (λ z. and_then (read_item (level path) text) (λ y. fitting b (replaced z y)))
  unfolding correction room
  onward_of t = let i : leb used (min (length b) most_bytes) ≡ true = sym f ∙ t in rw (i, correction)

  module _ (t : v ≡ true) {r : std.Result Part Refusal} (sp : Spots (take used b) path r) where
    pub decide_refused : {item : List ℕ} {e : Refusal} → r ≡ Err e → Decides b used path text item (Err e)
    unfolding decision_of Planned
    decide_refused {item} {e} i = record { is = sym (onward_of t ∙ and_then-refused _ (refused-spot e (look_up (take used b) path) (rw i at sp.told))); planned = tt }

    found_at : {p : Part} → r ≡ Ok p → Spotted (take used b) path p
    found_at {p} i = spotted (take used b) path p sp.bytes (look_up (take used b) path) refl (rw i at sp.told)

    pub decide_bounded : {p : Part} → r ≡ Ok p → Bounded p used
    decide_bounded {p} i =
        let s = found_at i in
        let u = used_is b used path p (omega (arith, inside t)) s in
        record { order = omega (arith, s.start, s.end); inside = omega (arith, s.end, u); short = omega (arith, inside t) }

    pub decide_done : {p : Part} {levels : ℕ} {item : List ℕ} {d : std.Result Plan Refusal} → r ≡ Ok p → levels ≡ level path → Replaces p used (length b) levels text item d → Decides b used path text item d
    decide_done {p} {levels} {item} {d} i e x =
        let s = found_at i in
        let l : used ≤ length b = omega (arith, inside t) in
        record {
          is = x.is b ∙ ap (λ (k : ℕ). and_then (read_item k text) (λ y. room_for b p used (length b) (encode y))) e ∙ onward-room b used path p l s (read_item (level path) text) ∙ sym (onward_of t ∙ and_then-is _ s.is);
          planned = x.planned b refl l;
        }

pub ruleset decide_ways = (decide_long, decide_refused, decide_done)

-- CARRIED OUT
module _ {b path text item : List ℕ} {used : ℕ} {d : std.Result Plan Refusal} (ds : Decides b used path text item d) where
  pub carry_plans : {p : Plan} → d ≡ Ok p → Plans b used item p
  unfolding Planned
  carry_plans e = rw e at ds.planned

  pub carry_refused : {e : Refusal} → d ≡ Err e → Corrects b b used path text (Err e)
  unfolding decision_of correct outcome_of written
  carry_refused {e} i = let c : refused (kind_number e.kind) e.place ≡ correction b used path text = rw i at ds.is in record { is = ap (written b (zeroed used)) c }

  pub carry_done : {p : Plan} {n : ℕ} {b' : List ℕ} → d ≡ Ok p → n ≡ p.length → b' ≡ over b 0 (zeroed used (splice b used p.start p.end (take p.size item))) → Corrects b b' used path text (Ok n)
  unfolding decision_of correct outcome_of written
  carry_done {p} i l e =
      let c : accepted (splice b used p.start p.end (take p.size item)) ≡ correction b used path text = rw i at ds.is in
      let m = whole_length (carry_plans i) in
      record { is = rw (e, l, ← m) (ap (written b (zeroed used)) c) }

pub ruleset carry_ways = (carry_refused, carry_done)

pub corrected : {b b' path text : List ℕ} {used : ℕ} {r : std.Result ℕ Refusal} → Corrects b b' used path text r → outcome_of r b' ≡ correct b used path text
corrected x = x.is
