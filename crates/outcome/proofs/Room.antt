-- Room, and results laid into a buffer.
-- Assumes nothing.
use Prim.Native.Nat.{ℕ, ◌-◌, ◌≤◌, ◌<◌, min, ◌+◌, ◌*◌}
use native.Mathlib.Omega.{arith}
use mathlib.Core.Path.{◌≡◌, refl, sym, ◌∙◌}
use mathlib.Core.Bool.{Bool, true, false}
use mathlib.Core.List.{List, []}
use lib.Dec.{leb}
use lib.ListN.{length}
use borrow.Author.Tests.{le-leb, lt-leb, leb-true, leb-false}
use Rattle.cbor.specs.Refusals.{accepted, refused, no_room}
use Rattle.cbor.specs.Decode.{most_bytes}
use Rattle.memory.specs.Buffer.{over}
use Rattle.refusal.specs.RefusalKinds.{kind_number}
use Rattle.refusal.specs.declared.RefusalKind.TheVariants.{NoRoom}
use Rattle.operations.specs.Operations.{room, fitting, written}
use Rattle.outcome.specs.Outcomes.{outcome_of, laid, Refuses, Roomy}
use Rattle.operations.proofs.Verdicts.{fitting-yes, fitting-no}
use Rattle.std.specs.Prelude.{Ok}
use Rattle.std.specs.Prelude as std
use Rattle.refusal.specs.declared.Refusal.{Refusal}

-- ROOM

pub fits-no : (n m : ℕ) → 65535 < n → false ≡ leb n (min m 65535)
fits-no n m h = sym (lt-leb n (min m 65535) (omega arith))

pub fits-yes : (n m : ℕ) → n ≤ 65535 → leb n m ≡ leb n (min m 65535)
fits-yes n m h = go (leb n m) refl
  where
    go : (v : Bool) → leb n m ≡ v → v ≡ leb n (min m 65535)
    go true e = sym (le-leb n (min m 65535) (omega (arith, leb-true n m e)))
    go false e = sym (lt-leb n (min m 65535) (omega (arith, leb-false n m e)))

pub ruleset fits_ways = (fits-no, fits-yes)

-- THE BUFFER: v says whether w, of n bytes, has room in b
module _ (b : List ℕ) {n : ℕ} {v : Bool} (f : v ≡ leb n (min (length b) 65535)) where
  pub laid-room : v ≡ true → n ≤ min (length b) 65535
  laid-room t = leb-true n (min (length b) 65535) (sym f ∙ t)

  pub laid-yes : (w : List ℕ) → n ≡ length w → v ≡ true → outcome_of (Ok n) (over b 0 w) ≡ laid b w
  unfolding laid room outcome_of written
  laid-yes w e t =
      let m : length w ≤ min (length b) 65535 = rw e at (laid-room t) in
      let i : fitting b w ≡ accepted w = fitting-yes b w m in
      rw (i, e)

  pub laid-no : (w : List ℕ) → n ≡ length w → v ≡ false → {r : std.Result ℕ Refusal} → Refuses NoRoom 0 r → outcome_of r b ≡ laid b w
  unfolding laid room outcome_of written kind_number
  laid-no w e t x =
      let m : min (length b) 65535 < length w = rw e at (leb-false n (min (length b) 65535) (sym f ∙ t)) in
      let i : fitting b w ≡ refused no_room 0 = fitting-no b w m in
      rw (x.is, i)

-- BUFFERS for all that texts of a size can make
module _ {s m : List ℕ} where
  pub roomy-small : {n : ℕ} → 9 * (length s + 1) ≤ n → length m ≡ n → Roomy s m
  roomy-small f l = record { room = omega arith }

  pub roomy_large : length m ≡ most_bytes → Roomy s m
  roomy_large l = record { room = omega arith }

pub ruleset roomy_ways = (roomy-small, roomy_large)
