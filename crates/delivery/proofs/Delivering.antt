-- What was made, delivered.
-- Assumes nothing.
use Prim.Native.Nat.{ℕ, ◌≤◌, min}
use native.Mathlib.Omega.{arith}
use mathlib.Core.Path.{◌≡◌, sym, ap, ◌∙◌}
use mathlib.Core.Bool.{Bool, true, false}
use mathlib.Core.List.{List}
use lib.Dec.{leb}
use lib.ListN.{length, take, length-take}
use Rattle.memory.specs.Buffer.{over, over_if_fits as written_at, copied}
use Rattle.refusal.specs.declared.RefusalKind.TheVariants.{NoRoom}
use Rattle.memory.proofs.Buffer.{written-fits, copied-yes}
use Rattle.outcome.specs.Outcomes.{Refuses}
use Rattle.delivery.specs.Deliveries.{Delivered}
use Rattle.outcome.proofs.Room.{laid-room, laid-yes, laid-no}
use Rattle.std.specs.Prelude.{Ok}
use Rattle.std.specs.Prelude as std
use Rattle.refusal.specs.declared.Refusal.{Refusal}

module _ {m : List ℕ} {n : ℕ} (b : List ℕ) {v : Bool} (f : v ≡ leb n (min (length b) 65535)) where
  pub deliver_done : {b' : List ℕ} → v ≡ true → b' ≡ copied b 0 m n → Delivered m n b b' (Ok n)
  deliver_done t e = record {
    is = λ w x.
        let l : n ≤ min (length b) 65535 = laid-room b f t in
        let h : take n m ≡ w = x.held (omega arith) in
        let k : min n (length m) ≡ n = sym (length-take n m) ∙ (ap length h ∙ sym x.sized) in
        let c : copied b 0 m n ≡ over b 0 w = copied-yes b 0 m n (omega arith) ∙ (ap (written_at b 0) h ∙ written-fits b 0 w (omega (arith, x.sized))) in
        rw (e, c) (laid-yes b f w x.sized t);
  }

  pub deliver_refused : {r : std.Result ℕ Refusal} → v ≡ false → Refuses NoRoom 0 r → Delivered m n b b r
  deliver_refused t x = record { is = λ w y. laid-no b f w y.sized t x }

pub ruleset deliver_ways = (deliver_done, deliver_refused)
