-- The text of one item: its first place, and what stands behind the item.
-- Assumes nothing.
use mathlib.Core.Path.{◌≡◌, refl, sym, ap, ◌∙◌}
use mathlib.Core.Bool.{true, false}
use mathlib.Core.List.{List}
use Prim.Native.Nat.{ℕ, ◌-◌, ◌*◌, ◌≤◌}
use native.Mathlib.Omega.{arith}
use lib.Dec.{eqb}
use lib.ListN.{length, drop, length-drop}
use borrow.Author.Tests.{eq-eqb, ne_eqb}
use Rattle.cbor.specs.Refusals.{refuse, bind, not_allowed, accepted, refused, verdict_of}
use Rattle.cbor.specs.Items.{Item}
use Rattle.cbor.specs.Encode.{encode}
use Rattle.refusal.specs.RefusalKinds.{kind_number}
use Rattle.refusal.specs.declared.Refusal.{Refusal}
use Rattle.notation.specs.Cutting.{next, place}
use Rattle.notation.specs.Form.{one, stray, reads}
use Rattle.notation.specs.Reading.{marked, outside, single}
use Rattle.notation.specs.Alone.{plus, alone_marked, single_marked}
use Rattle.notation_theorems.proofs.MarkedItem.{single-is, verdict_marked}
use Rattle.scanning.specs.ScanAnswers.{Skips}
use Rattle.token.specs.TokenAnswers.{Took}
use Rattle.token.specs.declared.Token.{Token as Cut}
use Rattle.scanning.proofs.Marked.{length_marked, at-end, stands-left, stands_at}
use Rattle.encoding.specs.ReadAnswers.{Wrote, Room, of_item, ReadTold, Denies, Strayed}
use Rattle.correcting.specs.OneAnswers.{Behind}
use Rattle.encoding.specs.declared.answer.MadeItem.{MadeItem}
use Rattle.encoding.proofs.Telling.{place_at, place-left, bind-yes, told-no, told-ok, denied, got, lost, told-lost, told_more, told_stop}
use Rattle.std.specs.Prelude.{Ok, Err}
use Rattle.std.specs.Prelude as std

pub one-room : (s : List ℕ) → length s ≤ 65535 → Room s 0 0
one-room s h = record { inside = omega arith; room = omega (arith, length_marked s) }

-- THE FIRST PLACE
module _ {s : List ℕ} {at : ℕ} (d : ℕ) (sk : Skips s 0 at) where
  first-left : place (marked s) ≡ length (marked s) - at
  unfolding place
  first-left = stands-left sk.stands

  first-at : at ≡ length (marked s) - place (marked s)
  unfolding place
  first-at = stands_at sk.stands

  pub one-blank : {b b' : List ℕ} {a : std.Result MadeItem Refusal} → (at ≡ 0 → ⊥) → Denies not_allowed 0 a → ReadTold of_item s b b' (length (marked s)) 0 a (plus (single d s))
  unfolding single_marked
  one-blank n h =
      let e : eqb (place (marked s)) (length (marked s)) ≡ false = ne_eqb (place (marked s)) (length (marked s)) (λ i. n (omega (arith, first-at, i))) in
      told-no not_allowed (length (marked s)) _ (sym (single-is d s) ∙ rw (e, single_marked)) (denied h (omega arith))

  one-is : at ≡ 0 → plus (single d s) ≡ bind (reads (one d) (marked s)) (alone_marked d)
  unfolding single_marked
  one-is z =
      let e : eqb (place (marked s)) (length (marked s)) ≡ true = eq-eqb (place (marked s)) (length (marked s)) (omega (arith, first-left, z)) in
      sym (single-is d s) ∙ rw (e, single_marked)

  module _ {b b' : List ℕ} (a : std.Result MadeItem Refusal) (told : ReadTold of_item s b b' (length (marked s) - 0) 0 a (reads (one d) (drop 0 (marked s)))) (z : at ≡ 0) where
    pub one-refused : {b'' : List ℕ} {e : Refusal} → a ≡ Err e → ReadTold of_item s b b'' (length (marked s)) 0 (Err e) (plus (single d s))
    one-refused f = told-lost _ _ (lost a told f) (one-is z)

    pub one-behind : {m : MadeItem} {a' : std.Result MadeItem Refusal} → a ≡ Ok m → Behind s d m a' → ReadTold of_item s b b' (length (marked s)) 0 a' (plus (single d s))
    one-behind {m} g h =
        let it = got a told g in
        let e = it.moved.stands.drops in
        let le : length (marked s) - 0 ≤ length (marked s) = omega arith in
        rw (one-is z ∙ bind-yes (reads (one d) (marked s)) (alone_marked d) it.thing it.rest it.is ∙ ap (alone_marked d it.thing) (sym e))
        (told_more le (h.is it.thing b b' (length (marked s) - 0) 0 (rw e it.moved)))

pub ruleset one_ways = (one-blank, one-refused, one-behind)

-- BEHIND THE ITEM
pub behind-none : {s : List ℕ} {m : MadeItem} (d : ℕ) → m.next ≡ length s → Behind s d m (Ok m)
unfolding alone_marked
behind-none {s} {m} d e =
    let q : eqb (length (drop m.next (marked s))) 1 ≡ true = rw (at-end s m.next e) in
    record { is = λ x b b' most pos mv. told-ok x _ (rw (q, alone_marked)) refl mv }

-- anything but the mark alone
module _ (s : List ℕ) (k d : ℕ) (n : k ≡ length s → ⊥) where
  abbrev rest : List ℕ
  rest = drop k (marked s)

  outside-is : (x : Item) → alone_marked d x rest ≡ outside d rest
  unfolding alone_marked
  outside-is x = let q : eqb (length rest) 1 ≡ false = ne_eqb (length rest) 1 (λ i. n (omega (arith, length-drop k (marked s), length_marked s, i))) in rw (q, alone_marked)

  outside-blank : (x : Item) → (place rest ≡ length rest → ⊥) → alone_marked d x rest ≡ refuse not_allowed (length rest)
  unfolding outside
  outside-blank x h = outside-is x ∙ rw (ne_eqb (place rest) (length rest) h, outside)

  outside-token : (x : Item) → place rest ≡ length rest → alone_marked d x rest ≡ bind (next rest) (λ u r. refuse (stray d u) (length rest))
  unfolding outside
  outside-token x h = outside-is x ∙ rw (eq-eqb (place rest) (length rest) h, outside)

module _ {s : List ℕ} {m : MadeItem} {t : Cut} {a : std.Result MadeItem Refusal} (d : ℕ) (inside : m.next ≤ length (marked s)) (n : m.next ≡ length s → ⊥) (tk : Took s m.next t) where
  pub behind-blank : (t.place ≡ m.next → ⊥) → Denies not_allowed m.next a → Behind s d m a
  behind-blank p h =
      let l = length-drop m.next (marked s) in
      let q = place_at tk in
      record {
        is = λ x b b' most pos mv.
            told-no not_allowed (length (drop m.next (marked s))) _ (outside-blank s m.next d n x (λ i. p (omega (arith, q, l, inside, i)))) (denied h (omega (arith, l, inside)));
      }

  pub behind-token : t.place ≡ m.next → Strayed d t a → Behind s d m a
  behind-token p h =
      let e : place (drop m.next (marked s)) ≡ length (drop m.next (marked s)) = omega (arith, place-left tk, length-drop m.next (marked s), p) in
      record { is = λ x b b' most pos mv. told_stop d _ _ tk h (outside-token s m.next d n x e) (λ tok r c i. ap (λ (l : ℕ). refuse (stray d tok) l) (sym e)) }

pub ruleset behind_ways = (behind-none, behind-blank, behind-token)

-- THE VERDICT that an answer stands for
pub record Accepted (s b b' : List ℕ) (most d : ℕ) (m : MadeItem) : Type 0 where
  pub item : Item
  pub is : verdict_of (length s) (single d s) ≡ accepted item
  pub size : m.size ≡ length (encode item)
  pub wrote : Wrote b b' 0 (encode item)
  pub short : m.size ≤ 9 * most

module _ {s b b' : List ℕ} {most : ℕ} (d : ℕ) (a : std.Result MadeItem Refusal) (told : ReadTold of_item s b b' most 0 a (plus (single d s))) where
  pub one-accepted : {m : MadeItem} → a ≡ Ok m → Accepted s b b' most d m
  unfolding of_item verdict_of
  one-accepted g =
      let it = got a told g in
      record { item = it.thing; is = sym (verdict_marked s (single d s)) ∙ ap (verdict_of (length (marked s))) it.is; size = it.moved.sized; wrote = it.moved.wrote; short = omega (arith, it.moved.short) }

  pub one_denied : {e : Refusal} → a ≡ Err e → verdict_of (length s) (single d s) ≡ refused (kind_number e.kind) e.place
  unfolding verdict_of
  one_denied g = let l = lost a told g in sym (verdict_marked s (single d s)) ∙ ap (verdict_of (length (marked s))) l.is ∙ cc (l.kind, l.place)
