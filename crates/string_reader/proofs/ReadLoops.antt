-- A sequence of elements, parted by commas, up to a closing token: the loop's invariant, and a lemma for each way through a turn. It is
-- said once, of any such sequence, and used for items, for the pairs of a map and for the chunks of a string.
-- Assumes nothing.
use mathlib.Core.Path.{◌≡◌, refl, sym, ap, ◌∙◌}
use mathlib.Core.List.{List, [], ◌++◌, append_assoc}
use mathlib.Core.Bool.{Bool}
use Prim.Native.Nat.{ℕ, ◌+◌, ◌-◌, ◌*◌, ◌≤◌, ◌<◌}
use native.Mathlib.Nat.{zero-add}
use native.Mathlib.Omega.{arith}
use lib.ListN.{length, drop, length-append}
use mir.Syntax.{w64 as bits64}
use mir.Val.{Fits}
use Rattle.cbor.specs.Refusals.{Result, ok, refuse, bind}
use Rattle.cbor.proofs.Results.{bind_assoc}
use Rattle.refusal.specs.declared.Refusal.{Refusal}
use Rattle.notation.specs.Indicators.{Indicator}
use Rattle.notation.specs.Tokens.{Shape, Token}
use Rattle.notation.specs.Cutting.{next, place}
use Rattle.notation.specs.Reading.{marked}
use Rattle.token.specs.TokenAnswers.{shape_code, code_of, Took}
use Rattle.encoding.specs.ReadAnswers.{View, Tells, Wrote, Room, ReadTold, Strayed}
use Rattle.token.specs.declared.Token.{Token as Cut}
use Rattle.encoding.specs.declared.answer.MadeItem.{MadeItem}
use Rattle.scanning.proofs.Marked.{stands-left}
use Rattle.encoding.proofs.Wrote.{wrote_nothing, wrote-more}
use Rattle.encoding.proofs.ReadRules.{indicator_of, step, step_close, step_comma, step-stray, shape_low}
use Rattle.encoding.proofs.Telling.{bind-yes, told-ok, told-lost, told_stop, Got, got, lost, token, past}
use Rattle.std.specs.Prelude.{Ok, Err}
use Rattle.std.specs.Prelude as std

-- a kind of sequence: how it is read, made, and seen by the code
pub record Row : Type 1 where
  pub Elem : Type 0
  pub All : Type 0
  pub of_elem : Elem → View
  pub of_all : All → View
  pub elem : List ℕ → Result Elem
  pub first : List ℕ → Result All
  pub rest : List ℕ → Result All
  pub add : Elem → All → All
  pub last : Elem → Indicator → All
  pub closer : Shape
  pub levels : ℕ
  pub rest-is : (s : List ℕ) → rest s ≡ bind (elem s) (λ x r. bind (next r) (λ u r'. step rest add last levels closer x u (place r) r'))
  pub add_bytes : (x : Elem) (xs : All) → (of_all (add x xs)).bytes ≡ (of_elem x).bytes ++ (of_all xs).bytes
  pub add_count : (x : Elem) (xs : All) → (of_all (add x xs)).count ≡ (of_elem x).count + (of_all xs).count
  pub last-bytes : (x : Elem) (i : Indicator) → (of_all (last x i)).bytes ≡ (of_elem x).bytes
  pub last-count : (x : Elem) (i : Indicator) → (of_all (last x i)).count ≡ (of_elem x).count
  pub plain : (xs : All) → (of_all xs).indicator ≡ 0
  pub binary : Bool
  pub add_tells : (x : Elem) (xs : All) → Tells (of_all xs).held binary (of_all xs).count → Tells (of_all (add x xs)).held binary (of_all (add x xs)).count
  pub last-tells : (x : Elem) (i : Indicator) → Tells (of_all (last x i)).held binary (of_all (last x i)).count

-- Before an element: n is counted, from i on up to at, and the bytes, size of them, stand in the buffer from pos on. `front` puts what
-- was read before further ones, and what is left to read is an equation.
pub record Run (L : Row) (s b₀ : List ℕ) (i pos at n size : ℕ) (b : List ℕ) : Type 0 where
  pub inside : at ≤ length (marked s)
  pub room : Room s i pos
  pub front : L.All → L.All
  pub bytes : List ℕ
  pub left : L.first (drop i (marked s)) ≡ bind (L.rest (drop at (marked s))) (λ xs r. ok (front xs) r)
  pub counted : (xs : L.All) → (L.of_all (front xs)).count ≡ n + (L.of_all xs).count
  pub coded : (xs : L.All) → (L.of_all (front xs)).bytes ≡ bytes ++ (L.of_all xs).bytes
  pub tells : (xs : L.All) → Tells (L.of_all xs).held L.binary (L.of_all xs).count → Tells (L.of_all (front xs)).held L.binary (L.of_all (front xs)).count
  pub sized : length bytes ≡ size
  pub many : n ≤ size
  pub short : size + 9 * (length (marked s) - at) ≤ 9 * (length (marked s) - i)
  pub wrote : Wrote b₀ b pos bytes

bind_self : {A : Type 0} (u : Result A) → u ≡ bind u (λ x r. ok x r)
unfolding bind
bind_self (ok x r) = refl
bind_self (refuse k q) = refl

comma_left : {A : Type 0} (rd : List ℕ → Result A) (add front : A → A) (r : List ℕ) → bind (bind (rd r) (λ xs r'. ok (add xs) r')) (λ xs r'. ok (front xs) r') ≡ bind (rd r) (λ xs r'. ok (front (add xs)) r')
unfolding bind
comma_left rd add front r = bind_assoc (rd r) _ _

module _ (L : Row) {s : List ℕ} {i : ℕ} where
  pub row_start : (b : List ℕ) (pos : ℕ) → L.first (drop i (marked s)) ≡ L.rest (drop i (marked s)) → Room s i pos → Run L s b i pos i 0 0 b
  row_start b pos e rm =
      record {
        inside = rm.inside;
        room = rm;
        front = λ xs. xs;
        bytes = [];
        left = e ∙ bind_self (L.rest (drop i (marked s)));
        counted = λ xs. sym (zero-add (L.of_all xs).count);
        coded = λ xs. refl;
        tells = λ xs h. h;
        sized = refl;
        many = omega arith;
        short = omega arith;
        wrote = wrote_nothing b pos;
      }

pub row_room : (L : Row) {s b₀ : List ℕ} {i pos at n size : ℕ} {b : List ℕ} → Run L s b₀ i pos at n size b → Room s at (pos + size)
row_room L r = record { inside = r.inside; room = omega (arith, r.room.room, r.short) }

module _ (L : Row) {s b₀ : List ℕ} {i pos at n size : ℕ} {b b' : List ℕ} (a : std.Result MadeItem Refusal)
    (run : Run L s b₀ i pos at n size b) (told : ReadTold L.of_elem s b b' (length (marked s) - at) (pos + size) a (L.elem (drop at (marked s)))) where
  pub row_refused : {b'' : List ℕ} {e : Refusal} → a ≡ Err e → ReadTold L.of_all s b₀ b'' (length (marked s) - i) pos (Err e) (L.first (drop i (marked s)))
  row_refused f =
      told-lost _ _ (lost a told f)
      (run.left ∙ ap (λ (u : Result L.All). bind u (λ xs r. ok (run.front xs) r)) (L.rest-is (drop at (marked s))) ∙ bind_assoc (L.elem (drop at (marked s))) _ _)

  module _ {m : MadeItem} (g : a ≡ Ok m) where
    it : Got L.of_elem s b b' (length (marked s) - at) (pos + size) m (L.elem (drop at (marked s)))
    it = got a told g

    abbrev x : L.Elem
    x = it.thing

    bounded : size + m.size + 9 * (length (marked s) - m.next) ≤ 9 * (length (marked s) - i)
    bounded = omega (arith, run.short, it.moved.short, stands-left it.moved.stands)

    pub row_fits : Fits bits64 (size + m.size)
    row_fits = record { fits = omega (arith, bounded, run.room.room) }

    pub row_count : Fits bits64 (n + m.count)
    row_count = record { fits = omega (arith, bounded, run.room.room, run.many, it.moved.many, it.moved.counted) }

    written : Wrote b₀ b' pos (run.bytes ++ (L.of_elem x).bytes)
    written = wrote-more run.wrote it.moved.wrote (ap (λ (k : ℕ). pos + k) (sym run.sized))

    abbrev Next_step : List ℕ → Token → List ℕ → Result L.All
    Next_step r u r' = step L.rest L.add L.last L.levels L.closer x u (place r) r'

    behind : L.first (drop i (marked s)) ≡ bind (next (drop m.next (marked s))) (λ u r'. bind (Next_step (drop m.next (marked s)) u r') (λ xs r. ok (run.front xs) r))
    behind =
        run.left ∙ ap (λ (u : Result L.All). bind u (λ xs r. ok (run.front xs) r))
        (L.rest-is (drop at (marked s)) ∙ bind-yes (L.elem (drop at (marked s))) _ x it.rest it.is ∙ ap (λ (r : List ℕ). bind (next r) (λ u r'. Next_step r u r')) (sym it.moved.stands.drops))
        ∙ bind_assoc (next (drop m.next (marked s))) _ _

    module _ {t : Cut} (tk : Took s m.next t) where
      pub row_comma : t.kind ≡ 11 → Run L s b₀ i pos t.next (n + m.count) (size + m.size) b'
      row_comma e =
          let tk' = token tk (λ z. omega arith) in
          let st = tk'.seen.next in
          let c : code_of tk'.tok ≡ 11 = sym tk'.seen.code ∙ e in
          record {
            inside = st.inside;
            room = run.room;
            front = λ xs. run.front (L.add x xs);
            bytes = run.bytes ++ (L.of_elem x).bytes;
            left =
                behind ∙ bind-yes (next (drop m.next (marked s))) _ tk'.tok tk'.rest tk'.is
                ∙ ap (λ (u : Result L.All). bind u (λ xs r. ok (run.front xs) r))
                (step_comma L.rest L.add L.last L.levels L.closer x (place (drop m.next (marked s))) tk'.rest tk'.tok c)
                ∙ comma_left L.rest (L.add x) run.front tk'.rest ∙ ap (λ (r : List ℕ). bind (L.rest r) (λ xs r'. ok (run.front (L.add x xs)) r')) (sym st.drops);
            counted = λ xs. run.counted (L.add x xs) ∙ omega (arith, L.add_count x xs, it.moved.counted);
            coded = λ xs. run.coded (L.add x xs) ∙ rw (L.add_bytes x xs) (sym (append_assoc run.bytes (L.of_elem x).bytes (L.of_all xs).bytes));
            tells = λ xs h. run.tells (L.add x xs) (L.add_tells x xs h);
            sized = length-append run.bytes (L.of_elem x).bytes ∙ cc (run.sized, it.moved.sized);
            many = omega (arith, run.many, it.moved.many, it.moved.counted);
            short = omega (arith, bounded, past tk tk'.ahead);
            wrote = written;
          }

      pub row_less : t.kind ≡ 11 → length (marked s) - t.next < length (marked s) - at
      row_less e =
          let tk' = token tk (λ z. omega arith) in
          omega (arith, past tk tk'.ahead, tk'.seen.next.inside, stands-left it.moved.stands, it.moved.stands.inside, it.moved.short, run.inside)

      module _ {a' : std.Result MadeItem Refusal} where
        pub row_close : t.kind ≡ shape_code L.closer → a' ≡ Ok (record { next = t.next; size = size + m.size; count = n + m.count; indicator = 0; binary = L.binary; length = n + m.count }) → ReadTold L.of_all s b₀ b' (length (marked s) - i) pos a' (L.first (drop i (marked s)))
        unfolding bind
        row_close e f =
            let tk' = token tk (λ z. omega (arith, shape_low L.closer)) in
            let c : code_of tk'.tok ≡ shape_code L.closer = sym tk'.seen.code ∙ e in
            let j : Indicator = indicator_of tk'.tok in
            let al : L.All = run.front (L.last x j) in
            let cn : (L.of_all al).count ≡ n + m.count = run.counted (L.last x j) ∙ omega (arith, L.last-count x j, it.moved.counted) in
            let q : (L.of_all al).bytes ≡ run.bytes ++ (L.of_elem x).bytes = run.coded (L.last x j) ∙ ap (λ (l : List ℕ). run.bytes ++ l) (L.last-bytes x j) in
            told-ok al _
            (behind ∙ bind-yes (next (drop m.next (marked s))) _ tk'.tok tk'.rest tk'.is
            ∙ ap (λ (u : Result L.All). bind u (λ xs r. ok (run.front xs) r))
            (step_close L.rest L.add L.last L.levels L.closer x (place (drop m.next (marked s))) tk'.rest tk'.tok c)) f
            (record {
              stands = tk'.seen.next;
              sized = sym (ap length q ∙ length-append run.bytes (L.of_elem x).bytes ∙ cc (run.sized, it.moved.sized));
              counted = sym cn;
              indicated = sym (L.plain al);
              tells = rw cn at (run.tells (L.last x j) (L.last-tells x j));
              many = omega (arith, run.counted (L.last x j), L.last-count x j, run.many, it.moved.many);
              short = omega (arith, bounded, stands-left tk'.seen.next, past tk tk'.ahead);
              wrote = rw q written;
            })

        pub row_stray : (t.kind ≡ shape_code L.closer → ⊥) → (t.kind ≡ 11 → ⊥) → Strayed L.levels t a' → ReadTold L.of_all s b₀ b' (length (marked s) - i) pos a' (L.first (drop i (marked s)))
        unfolding bind
        row_stray nc n11 f =
            told_stop L.levels _ _ tk f behind
            (λ tok r e u. ap (λ (v : Result L.All). bind v (λ xs r. ok (run.front xs) r))
            (step-stray L.rest L.add L.last L.levels L.closer x (place (drop m.next (marked s))) r tok (λ z. nc (e ∙ z)) (λ z. n11 (e ∙ z))))
