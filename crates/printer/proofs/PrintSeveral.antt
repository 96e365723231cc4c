-- Printing several things, one behind the other: what is printed so far, and what is left to print, are the whole text.
-- Assumes nothing.
use mathlib.Core.Path.{◌≡◌, refl, sym, ap, ◌∙◌}
use mathlib.Core.Bool.{Bool, true, false, not, false≢true}
use mathlib.Core.List.{List, [], ◌∷◌, ◌++◌, append_assoc, append-nil}
use Prim.Native.Nat.{ℕ, zero, suc, ◌+◌, ◌-◌, ◌*◌, ◌^◌, ◌≤◌, ◌<◌}
use native.Mathlib.Omega.{arith}
use lib.Dec.{leb}
use lib.ListN.{length, drop}
use mir.Syntax.{w64 as bits64}
use mir.Val.{Fits}
use borrow.Author.Tests.{ne_eqb, leb-true, leb-false, not-true, not-false}
use Rattle.cbor.specs.Refusals.{Result, ok, refuse, bind}
use Rattle.cbor.specs.Decode.{Until, counted, Step, finished, another, step_at, several_by, several_within, several}
use Rattle.cbor.proofs.Results.{refuse_not_ok}
use Rattle.memory.specs.Sums.{capped}
use Rattle.walk_answer.specs.WalkAnswers.{map_result as mapped, Within, until_by, behind_by, step_by, Turned}
use Rattle.text_output.specs.PrintParts.{Prints}
use Rattle.printer.specs.PrintAnswers.{print_one_of, print_all_of, Moves, separator_of, joined, opening_by, closing_by, Done, PrintTold}
use Rattle.printer.specs.declared.Printed.{Printed}
use Rattle.text_output.proofs.PrintLeaves.{prints-more, prints_as, prints-none}
use Rattle.walk_answer.specs.declared.Mode.{Mode}

-- WHAT A RESULT COMES FROM

pub record Both {A B : Type 0} (res : Result A) (k : A → List ℕ → Result B) (y : B) (r : List ℕ) : Type 0 where
  pub value : A
  pub rest : List ℕ
  pub first : res ≡ ok value rest
  pub second : k value rest ≡ ok y r

pub bind_ok : {A B : Type 0} (res : Result A) (k : A → List ℕ → Result B) {y : B} {r : List ℕ} → bind res k ≡ ok y r → Both res k y r
unfolding bind
bind_ok (ok x t) k e = record { value = x; rest = t; first = refl; second = e }
bind_ok (refuse n l) k e = absurd (refuse_not_ok e)

pub record From {A B : Type 0} (f : A → B) (res : Result A) (y : B) (r : List ℕ) : Type 0 where
  pub value : A
  pub is : res ≡ ok value r
  pub same : y ≡ f value

pub mapped_ok : {A B : Type 0} (f : A → B) (res : Result A) {y : B} {r : List ℕ} → mapped f res ≡ ok y r → From f res y r
unfolding mapped
mapped_ok f (ok x t) {y} {r} e =
    let p : t ≡ r = cc in
    let q : y ≡ f x = cc in
    record { value = x; is = ap (ok x) p; same = q }
mapped_ok f (refuse n l) e = absurd (refuse_not_ok e)

pub mapped_is : {A B : Type 0} (f : A → B) {res : Result A} {x : A} {y : B} {r : List ℕ} → res ≡ ok x r → y ≡ f x → mapped f res ≡ ok y r
unfolding mapped
mapped_is f {res} {x} {y} {r} e q = ap (mapped f) e ∙ ap (λ z. ok z r) (sym q)

pub ok-rest : {A : Type 0} {res : Result A} {x : A} {t r : List ℕ} → res ≡ ok x t → t ≡ r → res ≡ ok x r
ok-rest {x = x} e p = e ∙ ap (ok x) p

-- SEVERAL, AS TEXTS

module _ {A L : Type 0} (nil : L) (cons : A → L → L) (rd : List ℕ → Result A) (f : A → List ℕ) (g : L → List (List ℕ)) (rd' : List ℕ → Result (List ℕ)) (gn : g nil ≡ [])
    (gc : (x : A) (xs : L) → g (cons x xs) ≡ f x ∷ g xs) (er : (s : List ℕ) → rd' s ≡ mapped f (rd s)) where
  within_as : (n : ℕ) (u : Until) (s : List ℕ) (xs : L) (r : List ℕ) → several_within nil cons rd n u s ≡ ok xs r → several_within [] ◌∷◌ rd' n u s ≡ ok (g xs) r
  unfolding several_within several_by bind
  within_as zero u s xs r e = absurd (refuse_not_ok e)
  within_as (suc n) u s xs r e = go (step_at u s) (λ v t ys h. within_as n v t ys r h) e
    where
      go : (st : Step) → ((v : Until) (t : List ℕ) (ys : L) → several_within nil cons rd n v t ≡ ok ys r → several_within [] ◌∷◌ rd' n v t ≡ ok (g ys) r)
          → several_by nil cons rd (several_within nil cons rd n) st s ≡ ok xs r → several_by [] ◌∷◌ rd' (several_within [] ◌∷◌ rd' n) st s ≡ ok (g xs) r
      go (finished t) ih e =
          let p : t ≡ r = cc in
          let q : nil ≡ xs = cc in
          let z : [] ≡ g xs = sym gn ∙ ap g q in
          λ j. ok (z j) (p j)
      go (another v) ih e =
          let p = bind_ok (rd s) _ e in
          let q = bind_ok (several_within nil cons rd n v p.rest) _ p.second in
          let w : q.rest ≡ r = cc q.second in
          let i = ih v p.rest q.value (ok-rest q.first w) in
          let a : rd' s ≡ ok (f p.value) p.rest = er s ∙ mapped_is f p.first refl in
          let c : cons p.value q.value ≡ xs = cc q.second in
          let z : f p.value ∷ g q.value ≡ g xs = sym (gc p.value q.value) ∙ ap g c in
          rw a (rw i (ap (λ (y : List (List ℕ)). ok y r) z))

  pub several_as : (u : Until) (s : List ℕ) (xs : L) (r : List ℕ) → several nil cons rd u s ≡ ok xs r → several [] ◌∷◌ rd' u s ≡ ok (g xs) r
  unfolding several
  several_as u s xs r e = within_as (suc (length s)) u s xs r e

-- as many as were counted
pub counted-all : (rd : List ℕ → Result (List ℕ)) (f n : ℕ) (s : List ℕ) (ts : List (List ℕ)) (r : List ℕ) → several_within [] ◌∷◌ rd f (counted n) s ≡ ok ts r → length ts ≡ n
unfolding several_within several_by step_at
counted-all rd zero n s ts r e = absurd (refuse_not_ok e)
counted-all rd (suc f) zero s ts r e = let q : [] ≡ ts = cc in sym (ap length q)
counted-all rd (suc f) (suc n) s ts r e =
    let p = bind_ok (rd s) _ e in
    let q = bind_ok (several_within [] ◌∷◌ rd f (counted n) p.rest) _ p.second in
    let i = counted-all rd f n p.rest q.value q.rest q.first in
    let c : p.value ∷ q.value ≡ ts = cc q.second in
    sym (ap length c) ∙ ap suc i

-- one turn
module _ (rd : List ℕ → Result (List ℕ)) where
  pub record Last (ts : List (List ℕ)) (r t : List ℕ) : Type 0 where
    pub none : [] ≡ ts
    pub rest : t ≡ r

  pub last : (f : ℕ) (u : Until) (s : List ℕ) {ts : List (List ℕ)} {r t : List ℕ} → several_within [] ◌∷◌ rd f u s ≡ ok ts r → step_at u s ≡ finished t → Last ts r t
  unfolding several_within several_by
  last zero u s e h = absurd (refuse_not_ok e)
  last (suc f) u s {ts} {r} {t} e h =
      let k : ok [] t ≡ ok ts r = ap (λ (st : Step). several_by [] ◌∷◌ rd (several_within [] ◌∷◌ rd f) st s) (sym h) ∙ e in
      record { none = cc; rest = cc }

  pub record Next (v : Until) (s : List ℕ) (ts : List (List ℕ)) (r : List ℕ) : Type 0 where
    pub fuel : ℕ
    pub text : List ℕ
    pub rest : List ℕ
    pub more : List (List ℕ)
    pub one : rd s ≡ ok text rest
    pub on : several_within [] ◌∷◌ rd fuel v rest ≡ ok more r
    pub is : text ∷ more ≡ ts

  pub next : (f : ℕ) (u v : Until) (s : List ℕ) {ts : List (List ℕ)} {r : List ℕ} → several_within [] ◌∷◌ rd f u s ≡ ok ts r → step_at u s ≡ another v → Next v s ts r
  unfolding several_within several_by
  next zero u v s e h = absurd (refuse_not_ok e)
  next (suc f) u v s {ts} {r} e h =
      let k : several_by [] ◌∷◌ rd (several_within [] ◌∷◌ rd f) (another v) s ≡ ok ts r = ap (λ (st : Step). several_by [] ◌∷◌ rd (several_within [] ◌∷◌ rd f) st s) (sym h) ∙ e in
      let p = bind_ok (rd s) _ k in
      let q = bind_ok (several_within [] ◌∷◌ rd f v p.rest) _ p.second in
      let w : q.rest ≡ r = cc q.second in
      record { fuel = f; text = p.value; rest = p.rest; more = q.value; one = p.first; on = ok-rest q.first w; is = cc q.second }

-- ON, OR NOT

module _ {at end size : ℕ} where
  pub moves_back : end ≤ at → Moves at end size false
  moves_back h = record { yes = λ e. absurd (false≢true e); no = λ e a b. omega arith }

  pub moves_to : at < end → Moves at end size (leb end size)
  moves_to h = record { yes = λ e. (h, leb-true end size e); no = λ e a b. omega (arith, leb-false end size e) }

pub ruleset moves_ways = (moves_back, moves_to)

module _ (i : ℕ) where
  pub opening_array : i ≡ 4 → 0x5b ≡ opening_by i
  unfolding opening_by
  opening_array e = rw e

  pub opening_map : (i ≡ 4 → ⊥) → 0x7b ≡ opening_by i
  unfolding opening_by
  opening_map a = rw (ne_eqb i 4 a, opening_by)

  pub closing_array : i ≡ 4 → 0x5d ≡ closing_by i
  unfolding closing_by
  closing_array e = rw e

  pub closing_map : (i ≡ 4 → ⊥) → 0x7d ≡ closing_by i
  unfolding closing_by
  closing_map a = rw (ne_eqb i 4 a, closing_by)

pub ruleset opening_ways = (opening_array, opening_map)

pub ruleset closing_ways = (closing_array, closing_map)

module _ {b : List ℕ} {pos : ℕ} (c : ℕ) {t : Bool} where
  pub separator_none : length b * 1 < 2 ^ 63 → Fits bits64 pos → t ≡ true → Prints b b pos (separator_of t c) pos
  unfolding separator_of
  separator_none h u e = rw e (prints-none h u)

  pub separator_some : {b₁ b₂ : List ℕ} {p q : ℕ} → t ≡ false → Prints b b₁ pos (0x2c ∷ []) p → Prints b₁ b₂ p (c ∷ []) q → Prints b b₂ pos (separator_of t c) q
  unfolding separator_of
  separator_some e f g = rw e (prints-more f g)

pub ruleset separator_ways = (separator_none, separator_some)

-- TOLD

pub told_via : {s : List ℕ} {least least' : ℕ} {b b' : List ℕ} {pos : ℕ} {p : Printed} {res res' : Result (List ℕ)} → least' ≤ least
    → ((ws r : List ℕ) → res' ≡ ok ws r → res ≡ ok ws r) → PrintTold s least b b' pos p res → PrintTold s least' b b' pos p res'
told_via h f t =
    record {
      same = t.same;
      done = λ ws r e. let d = t.done ws r (f ws r e) in record { ahead = omega (arith, d.ahead); inside = d.inside; drops = d.drops; prints = d.prints };
    }

pub told_none : {s : List ℕ} {least : ℕ} {b b' : List ℕ} {pos : ℕ} {p : Printed} {res : Result (List ℕ)} → length b' ≡ length b → ((ws r : List ℕ) → res ≡ ok ws r → ⊥) → PrintTold s least b b' pos p res
told_none h f = record { same = h; done = λ ws r e. absurd (f ws r e) }

-- THE LOOP

pub turn_less : {at end size : ℕ} {v : Bool} → Moves at end size v → not v ≡ false → size - end < size - at
turn_less {at} {end} {size} {v} g h = omega (arith, (g.yes (not-false v h)).0, (g.yes (not-false v h)).1)

-- ws is the whole text, and r is left behind the bytes of it: `before` is printed, and `texts` are left to print
pub record Left (major d c : ℕ) (mode : Mode) (n : ℕ) (s : List ℕ) (at : ℕ) (first : Bool) (b₀ b : List ℕ) (pos p : ℕ) (ws r : List ℕ) : Type 0 where
  pub fuel : ℕ
  pub texts : List (List ℕ)
  pub before : List ℕ
  pub rest : several_within [] ◌∷◌ (print_one_of major d) fuel (until_by mode n) (drop at s) ≡ ok texts r
  pub split : ws ≡ before ++ joined c first texts
  pub prints : Prints b₀ b pos before p

pub record Turns (s b₀ : List ℕ) (from : ℕ) (mode : Mode) (count major d c pos at n p : ℕ) (first : Bool) (b : List ℕ) : Type 0 where
  pub ahead : from ≤ at
  pub inside : at ≤ length s
  pub same : length b ≡ length b₀
  pub left : (ws r : List ℕ) → mapped (joined c true) (print_all_of major d (until_by mode count) (drop from s)) ≡ ok ws r → Left major d c mode n s at first b₀ b pos p ws r

pub turn_start : {s b : List ℕ} {from : ℕ} {mode : Mode} {count major d c pos : ℕ} → Within s from → length b * 1 < 2 ^ 63 → Fits bits64 pos → Turns s b from mode count major d c pos from count pos true b
unfolding print_all_of several
turn_start {s} {b} {from} {mode} {count} {major} {d} {c} {pos} w h u =
    record {
      ahead = omega arith;
      inside = w.inside;
      same = refl;
      left = λ ws r e.
          let m = mapped_ok (joined c true) (print_all_of major d (until_by mode count) (drop from s)) e in
          record { fuel = suc (length (drop from s)); texts = m.value; before = []; rest = m.is; split = m.same; prints = prints-none h u };
    }

module _ {s b₀ : List ℕ} {from : ℕ} {mode : Mode} {count major d c pos at n p : ℕ} {first : Bool} {b : List ℕ} (inv : Turns s b₀ from mode count major d c pos at n p first b) {t : Bool} (tn : Turned s at mode n t) where
  module _ (y : not t ≡ true) {b₁ b₂ : List ℕ} {q : ℕ} {part : Printed} (sep : Prints b b₁ p (separator_of first c) q) (one : PrintTold s (at + 1) b₁ b₂ q part (print_one_of major d (drop at s))) where
    step : step_at (until_by mode n) (drop at s) ≡ another (until_by mode (n - 1))
    unfolding step_by
    step = tn.is ∙ ap (λ (v : Bool). step_by v mode n s at) (not-true t y)

    length-on : length b₂ ≡ length b₀
    length-on = one.same ∙ sep.same ∙ inv.same

    module _ (ws r : List ℕ) (e : mapped (joined c true) (print_all_of major d (until_by mode count) (drop from s)) ≡ ok ws r) where
      l : Left major d c mode n s at first b₀ b pos p ws r
      l = inv.left ws r e

      nx : Next (print_one_of major d) (until_by mode (n - 1)) (drop at s) l.texts r
      nx = next (print_one_of major d) l.fuel (until_by mode n) (until_by mode (n - 1)) (drop at s) l.rest step

      dn : Done s (at + 1) b₁ b₂ q part nx.text nx.rest
      dn = one.done nx.text nx.rest nx.one

    pub turn_stuck : {v : Bool} {e : ℕ} → Moves at part.end (length s) v → not v ≡ true → PrintTold s from b₀ b₂ pos (record { end = e; pos = p }) (mapped (joined c true) (print_all_of major d (until_by mode count) (drop from s)))
    turn_stuck {v} h k = told_none length-on (λ ws r e. let i = dn ws r e in h.no (not-true v k) (omega (arith, i.ahead)) i.inside)

    pub turn_on : {v : Bool} {m : ℕ} → Moves at part.end (length s) v → not v ≡ false → m ≡ n - 1 → Turns s b₀ from mode count major d c pos part.end m part.pos false b₂
    unfolding joined
    turn_on {v} {m} g h k =
        record {
          ahead = omega (arith, inv.ahead, (g.yes (not-false v h)).0);
          inside = (g.yes (not-false v h)).1;
          same = length-on;
          left = λ ws r e.
              let x = l ws r e in
              let z = nx ws r e in
              let i = dn ws r e in
              record {
                fuel = z.fuel;
                texts = z.more;
                before = x.before ++ (separator_of first c ++ z.text);
                rest = ap (λ (j : ℕ). several_within [] ◌∷◌ (print_one_of major d) z.fuel (until_by mode j) (drop part.end s)) k ∙ ap (several_within [] ◌∷◌ (print_one_of major d) z.fuel (until_by mode (n - 1))) i.drops ∙ z.on;
                split =
                    x.split ∙ ap (λ (ts : List (List ℕ)). x.before ++ joined c first ts) (sym z.is)
                    ∙ ap (λ (v : List ℕ). x.before ++ v) (sym (append_assoc (separator_of first c) z.text (joined c false z.more)))
                    ∙ sym (append_assoc x.before (separator_of first c ++ z.text) (joined c false z.more));
                prints = prints-more x.prints (prints-more sep i.prints);
              };
        }

  pub turn_end : {e : ℕ} → not t ≡ false → length s * 1 < 2 ^ 63 → e ≡ capped at (behind_by mode)
      → PrintTold s from b₀ b pos (record { end = e; pos = p }) (mapped (joined c true) (print_all_of major d (until_by mode count) (drop from s)))
  unfolding step_by joined
  turn_end {e} y f g =
      let tr = not-false t y in
      let i = tn.inside tr inv.inside in
      let a : e ≡ at + behind_by mode = omega (arith, g, i) in
      let st : step_at (until_by mode n) (drop at s) ≡ finished (drop (at + behind_by mode) s) = tn.is ∙ ap (λ (v : Bool). step_by v mode n s at) tr in
      record {
        same = inv.same;
        done = λ ws r k.
            let x = inv.left ws r k in
            let z = last (print_one_of major d) x.fuel (until_by mode n) (drop at s) x.rest st in
            record {
              ahead = omega (arith, inv.ahead);
              inside = omega (arith, i);
              drops = ap (λ (j : ℕ). drop j s) a ∙ z.rest;
              prints = prints_as (sym (x.split ∙ ap (λ (ts : List (List ℕ)). x.before ++ joined c first ts) (sym z.none) ∙ append-nil x.before)) x.prints;
            };
      }
