-- A text that is measured, then laid where it has room.
-- Assumes nothing.
use Prim.Native.Nat.{ℕ, min}
use native.Mathlib.Omega.{arith}
use mathlib.Core.Path.{◌≡◌, ◌∙◌}
use mathlib.Core.Bool.{Bool, true, false}
use mathlib.Core.List.{List}
use lib.Dec.{leb}
use lib.ListN.{length}
use Rattle.memory.specs.Buffer.{over}
use Rattle.memory.proofs.Buffer.{clipped-fits}
use Rattle.refusal.specs.declared.RefusalKind.TheVariants.{NoRoom}
use Rattle.notation.specs.Printing.{print_text}
use Rattle.printer.specs.PrintAnswers.{PrintedAll}
use Rattle.outcome.specs.Outcomes.{Refuses}
use Rattle.outcome.proofs.Room.{laid-room, laid-yes, laid-no}
use Rattle.fitting_text.specs.FittingAnswers.{TextSize, Lays}
use Rattle.std.specs.Prelude.{Ok}
use Rattle.std.specs.Prelude as std
use Rattle.refusal.specs.declared.Refusal.{Refusal}

pub measured : {s b b' : List ℕ} {n : ℕ} → PrintedAll s b b' n → TextSize s n
measured p = record { size = p.size }

module _ {s : List ℕ} (b : List ℕ) {n : ℕ} (t : TextSize s n) {v : Bool} (f : v ≡ leb n (min (length b) 65535)) where
  pub lay_done : {b' : List ℕ} {k : ℕ} → v ≡ true → PrintedAll s b b' k → Lays s b b' (Ok n)
  lay_done {b'} h p = record {
    is = λ xs d.
        let z : n ≡ length (print_text xs) = t.size xs d in
        let m = laid-room b f h in
        let w : b' ≡ over b 0 (print_text xs) = p.is xs d ∙ clipped-fits b 0 (print_text xs) (omega arith) in
        rw w (laid-yes b f (print_text xs) z h);
  }

  pub lay_refused : {r : std.Result ℕ Refusal} → v ≡ false → Refuses NoRoom 0 r → Lays s b b r
  lay_refused h x = record { is = λ xs d. laid-no b f (print_text xs) (t.size xs d) h x }

pub ruleset lay_ways = (lay_done, lay_refused)
