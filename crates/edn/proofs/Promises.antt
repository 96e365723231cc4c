-- The demands, over what the public functions promise.
use Prim.Native.Nat.{ℕ, ◌≤◌}
use native.Mathlib.Omega.{arith}
use mathlib.Core.Path.{◌≡◌, refl, sym, ap, ◌∙◌}
use mathlib.Core.List.{List}
use lib.ListN.{length, take}
use Rattle.cbor.specs.Refusals.{accepted}
use Rattle.cbor.proofs.Results.{refused_not_accepted}
use Rattle.operations.specs.Operations.{Outcome, room, read, print, correct}
use Rattle.operations.specs.Demands.{Kept, Allowed, Stored, edited_text, Agree}
use Rattle.operations.proofs.Demands.{demand1, demand2, demand3}
use Rattle.refusal.specs.RefusalKinds.{kind_number}
use Rattle.refusal.specs.declared.Refusal.{Refusal}
use Rattle.refusal.specs.declared.RefusalKind.{RefusalKind}
use Rattle.refusal.specs.declared.RefusalKind.TheVariants.{TooLong, NotUtf8, NoToken, UnknownWord, Dots, Float, OutOfRange, BadContent, BadIndicator, TooDeep, NotAllowed, MixedChunks, BadTypedArray, NoRoom, EndsInside, NotWellFormed, NoSuchPath}
use Rattle.outcome.specs.Outcomes.{outcome_of}
use Rattle.edn.specs.Promises.{ReadRan, PrintRan, CorrectRan, Demand1Ran, Demand2Ran, Demand3Ran, StoredRan}
use Rattle.std.specs.Prelude.{Ok, Err}
use Rattle.std.specs.Prelude as std

-- what an answer says, and back
answer_of_lem : (r : std.Result ℕ Refusal) (b : List ℕ) (n : ℕ) → r ≡ Ok n → (outcome_of r b).answer ≡ accepted n
unfolding outcome_of
answer_of_lem r b n e = rw e

of_answer : (r : std.Result ℕ Refusal) (b : List ℕ) (n : ℕ) → (outcome_of r b).answer ≡ accepted n → r ≡ Ok n
unfolding outcome_of
of_answer (Ok k) b n e = ap Ok (cc)
of_answer (Err x) b n e = absurd (refused_not_accepted e)

buffer_of : (r : std.Result ℕ Refusal) (b : List ℕ) → (outcome_of r b).buffer ≡ b
unfolding outcome_of
buffer_of (Ok k) b = refl
buffer_of (Err x) b = refl

-- a run's answer and buffer, as the operation has them
module _ (r : std.Result ℕ Refusal) (b : List ℕ) {o : Outcome ℕ} (h : outcome_of r b ≡ o) where
  ran-answer : {n : ℕ} → o.answer ≡ accepted n → r ≡ Ok n
  ran-answer {n} e = of_answer r b n (ap (λ (v : Outcome ℕ). v.answer) h ∙ e)

  ran-accepted : {n : ℕ} → r ≡ Ok n → o.answer ≡ accepted n
  ran-accepted {n} e = sym (ap (λ (v : Outcome ℕ). v.answer) h) ∙ answer_of_lem r b n e

  ran-buffer : o.buffer ≡ b
  ran-buffer = sym (ap (λ (v : Outcome ℕ). v.buffer) h) ∙ buffer_of r b

-- what a refusal leaves
ran-kept : (e : Refusal) (b b' : List ℕ) (o : Outcome ℕ) → Kept b o → outcome_of (Err e) b' ≡ o → b' ≡ b
unfolding outcome_of
ran-kept e b b' o k h = sym (ran-buffer (Err e) b' h) ∙ k (kind_number e.kind) e.place (sym (ap (λ (v : Outcome ℕ). v.answer) h))

in_table : (k : RefusalKind) → (1 ≤ kind_number k) × (kind_number k ≤ 17)
unfolding kind_number
in_table TooLong = (omega arith, omega arith)
in_table NotUtf8 = (omega arith, omega arith)
in_table NoToken = (omega arith, omega arith)
in_table UnknownWord = (omega arith, omega arith)
in_table Dots = (omega arith, omega arith)
in_table Float = (omega arith, omega arith)
in_table OutOfRange = (omega arith, omega arith)
in_table BadContent = (omega arith, omega arith)
in_table BadIndicator = (omega arith, omega arith)
in_table TooDeep = (omega arith, omega arith)
in_table NotAllowed = (omega arith, omega arith)
in_table MixedChunks = (omega arith, omega arith)
in_table BadTypedArray = (omega arith, omega arith)
in_table NoRoom = (omega arith, omega arith)
in_table EndsInside = (omega arith, omega arith)
in_table NotWellFormed = (omega arith, omega arith)
in_table NoSuchPath = (omega arith, omega arith)

pub demand1_ran : Demand1Ran
unfolding ReadRan PrintRan CorrectRan
demand1_ran =
    record {
      numbers = in_table;
      reading = λ text b b' e h. ran-kept e b b' (read text b) (demand1.reading text b) h;
      printing = λ bytes b b' e h. ran-kept e b b' (print bytes b) (demand1.printing bytes b) h;
      correcting = λ b used path text b' e h. ran-kept e b b' (correct b used path text) (demand1.correcting b used path text) h;
    }

pub demand2_ran : Demand2Ran
unfolding ReadRan PrintRan
demand2_ran =
    record {
      acceptance = λ text b b' r h n. ((λ i. (demand2.acceptance text b n).0 (ran-accepted r b' h i)), (λ a. ran-answer r b' h ((demand2.acceptance text b n).1 a)));
      encoding = λ text b b' n xs e h. rw (ran-buffer (Ok n) b' h) at (demand2.encoding text b n xs e (ran-accepted (Ok n) b' h refl));
      round_trip = λ bytes u b b' n p c c' r l q.
          let t = demand2.round_trip bytes u b n (ran-accepted (Ok n) b' p refl) c l in
          let e : take n (print bytes b).buffer ≡ take n b' = ap (take n) (ran-buffer (Ok n) b' p) in
          let m : outcome_of r c' ≡ read (take n (print bytes b).buffer) c = q ∙ ap (λ (s : List ℕ). read s c) (sym e) in
          (ran-answer r c' m t.answers, ap (take (length bytes)) (sym (ran-buffer r c' m)) ∙ t.writes);
    }

-- DEMAND 3

pub demand3_ran : Demand3Ran
unfolding ReadRan CorrectRan
demand3_ran text buffer used path new e c b' q fresh f' r same g =
    let a = demand3.agrees text buffer used path new e fresh same in
    record { success = λ n. (there a n, back a n); bytes = λ n i. ap (take n) (sym (ran-buffer c b' q)) ∙ a.bytes n (ran-accepted c b' q i) (ran-accepted r f' g (there a n i)) ∙ ap (take n) (ran-buffer r f' g) }
  where
    there : Agree (correct buffer used path new) (read (edited_text e) fresh) → (n : ℕ) → c ≡ Ok n → r ≡ Ok n
    there a n i =
        let x = ran-accepted c b' q i in
        let s = a.success.0 (n, x) in
        ran-answer r f' g (s.1 ∙ ap accepted (sym (a.lengths n s.0 x s.1)))

    back : Agree (correct buffer used path new) (read (edited_text e) fresh) → (n : ℕ) → r ≡ Ok n → c ≡ Ok n
    back a n i =
        let x = ran-accepted r f' g i in
        let s = a.success.1 (n, x) in
        ran-answer c b' q (s.1 ∙ ap accepted (a.lengths s.0 n s.1 x))

pub stored-ran : StoredRan
unfolding ReadRan room
stored-ran text b b' used p buffer e l = made ((demand2_ran.acceptance text b b' (Ok used) p used).0 refl)
  where
    made : Allowed text b used → Stored text buffer used
    made a = record { items = a.items; accepts = a.allows; sized = a.sized; short = omega (arith, a.fits); within = l; held = e ∙ (demand2_ran.encoding text b b' used a.items a.allows p).bytes }
