-- What the programs write, from what an operation answers.
-- Assumes nothing.
use Prim.Native.Nat.{ℕ}
use mathlib.Core.Path.{◌≡◌, refl, sym, ap, ◌∙◌}
use mathlib.Core.List.{List}
use lib.ListN.{length, take, length-replicate}
use Rattle.cbor.specs.Refusals.{Verdict, accepted, refused}
use Rattle.refusal.specs.RefusalKinds.{kind_number}
use Rattle.cbor.specs.Decode.{most_bytes}
use Rattle.memory.specs.Buffer.{over}
use Rattle.refusal.specs.declared.Refusal.{Refusal}
use Rattle.operations.specs.Operations.{Outcome, and_then, fitting, written}
use Rattle.outcome.specs.Outcomes.{outcome_of}
use Rattle.operations.specs.Programs.{refused_line, said, empty}
use Rattle.cbor.proofs.Results.{refused_not_accepted}
use Rattle.report_lines.specs.Reports.{Reports, said_of}
use Rattle.operations.proofs.Verdicts.{front-all, fitting-same}
use Rattle.std.specs.Prelude.{Ok, Err}
use Rattle.std.specs.Prelude as std

-- THE PROGRAMS: an answer and the buffer behind it, as the verdict v has them
module _ (lines : List ℕ → List ℕ) (b b' : List ℕ) (a : std.Result ℕ Refusal) where
  said-done : (v : Verdict (List ℕ)) (n : ℕ) → outcome_of a b' ≡ written b (λ w. w) v → a ≡ Ok n → said lines v ≡ lines (take n b')
  unfolding outcome_of written said
  said-done (accepted w) n e i =
      let f : outcome_of (Ok n) b' ≡ written b (λ w. w) (accepted w) = rw i at e in
      let k : accepted n ≡ accepted (length w) = ap (λ (o : Outcome ℕ). o.answer) f in
      let m : n ≡ length w = cc in
      let j : b' ≡ over b 0 w = ap (λ (o : Outcome ℕ). o.buffer) f in
      ap lines (sym (rw (m, j) (front-all b w)))
  said-done (refused k q) n e i = absurd (refused_not_accepted (sym (ap (λ (o : Outcome ℕ). o.answer) (rw i at e))))

  said-refused : (v : Verdict (List ℕ)) (e : Refusal) → outcome_of a b' ≡ written b (λ w. w) v → a ≡ Err e → said lines v ≡ refused_line (kind_number e.kind) e.place
  unfolding outcome_of written said
  said-refused (accepted w) e f i = absurd (refused_not_accepted (ap (λ (o : Outcome ℕ). o.answer) (rw i at f)))
  said-refused (refused k q) e f i =
      let g : ◌≡◌ {A = Verdict ℕ} (refused (kind_number e.kind) e.place) (refused k q) = ap (λ (o : Outcome ℕ). o.answer) (rw i at f) in
      let j : kind_number e.kind ≡ k = cc in
      let l : e.place ≡ q = cc in
      rw (j, l)

  said_of_lem : (v : Verdict (List ℕ)) → outcome_of a b' ≡ written b (λ w. w) v → said_of lines a b' ≡ said lines v
  unfolding said_of
  said_of_lem v h = go a refl
    where
      go : (x : std.Result ℕ Refusal) → a ≡ x → said_of lines a b' ≡ said lines v
      go (Ok n) i = rw i (sym (said-done v n h i))
      go (Err e) i = rw i (sym (said-refused v e h i))

-- only the length of the buffer counts
onward-same : {A : Type 0} (u : Verdict A) (f : A → List ℕ) (b c : List ℕ) → length c ≡ length b → and_then u (λ x. fitting c (f x)) ≡ and_then u (λ x. fitting b (f x))
unfolding and_then
onward-same (accepted x) f b c e = fitting-same b c (f x) e
onward-same (refused k q) f b c e = refl

empty-length : length empty ≡ most_bytes
unfolding empty
empty-length = length-replicate {A = ℕ} most_bytes 0

-- a report under another name
reports_as : {b b' ws vs : List ℕ} {r : ℕ} → ws ≡ vs → Reports b b' ws r → Reports b b' vs r
reports_as {b} {b'} {ws} {vs} {r} e f = rw e at f

-- either program, from the operation's answer
module _ {A : Type 0} (lines : List ℕ → List ℕ) (u : Verdict A) (f : A → List ℕ) (b b' : List ℕ) (l : length b ≡ most_bytes) where
  program : said lines (and_then u (λ x. fitting b (f x))) ≡ said lines (and_then u (λ x. fitting empty (f x)))
  program = ap (said lines) (onward-same u f empty b (l ∙ sym empty-length))

  pub program_said : (a : std.Result ℕ Refusal) {o o' : List ℕ} {r : ℕ} → outcome_of a b' ≡ written b (λ w. w) (and_then u (λ x. fitting b (f x))) → Reports o o' (said_of lines a b') r → Reports o o' (said lines (and_then u (λ x. fitting empty (f x)))) r
  program_said a h p = reports_as (said_of_lem lines b b' a (and_then u (λ x. fitting b (f x))) h ∙ program) p
