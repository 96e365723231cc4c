-- The loop over the items of a list: its invariant, and a lemma for each way through a turn.
-- Assumes nothing.
use mathlib.Core.Path.{◌≡◌, refl, sym, ap, ◌∙◌}
use mathlib.Core.List.{List, [], ◌++◌, append_assoc}
use mathlib.Core.Bool.{Bool, true, false, true≢false}
use Prim.Native.Nat.{ℕ, ◌+◌, ◌-◌, ◌*◌, ◌≤◌, ◌<◌}
use native.Mathlib.Omega.{arith}
use lib.ListN.{length, drop, length-append, length-drop}
use mir.Syntax.{w64 as bits64}
use mir.Val.{Fits}
use Rattle.cbor.specs.Refusals.{Result, ok, refuse, bind}
use Rattle.cbor.specs.Items.{Item}
use Rattle.cbor.specs.Encode.{encode}
use Rattle.cbor.proofs.Results.{bind-same, bind_assoc}
use Rattle.refusal.specs.declared.Refusal.{Refusal}
use Rattle.notation.specs.Indicators.{Indicator}
use Rattle.notation.specs.Tokens.{Token, closes}
use Rattle.notation.specs.Cutting.{next, place}
use Rattle.notation.specs.Form.{one, stray, reads}
use Rattle.notation.specs.Reading.{marked}
use Rattle.scanning.proofs.Marked.{stands-left}
use Rattle.token.specs.TokenAnswers.{indicator_number, code_of, mark_of}
use Rattle.encoding.specs.ReadAnswers.{View, Tells, held_of, of_item, Wrote, Room, ReadTold}
use Rattle.encoding.specs.declared.answer.MadeItem.{MadeItem}
use Rattle.encoding.proofs.Wrote.{wrote_nothing, wrote-more}
use Rattle.encoding.proofs.Telling.{bind-yes, told-ok, told-lost, told_stop, Got, got, lost}
use Rattle.encoding.proofs.ReadRules.{shape_low}
use Rattle.closing.proofs.Closers.{shown-zero}
use Rattle.reader.proofs.Machine.{to_next, to_last, to_stray, tail_is, start_is, empty_view, empty-is}
use Rattle.closers.specs.CloserTables.{shape_of, is_single, starts, turned, counted, comma_code, separator_code, closer_code, shown_by}
use Rattle.closing.specs.Closings.{StartsAt, Follows}
use Rattle.reader.specs.Several.{as_seen, several_read, added, held_by, last_of, step_to, tail_read, onward, StrayTold}
use Rattle.closers.specs.declared.Closer.{Closer}
use Rattle.closers.specs.declared.Closer.TheVariants.{Square, Curly, Round, Angle, Whole, Nothing}
use Rattle.closing.specs.declared.Closing.{Closing}
use Rattle.closing.specs.declared.Follow.TheVariants.{On, Over, Stray}
use Rattle.closing.specs.declared.Follower.{Follower}
use Rattle.std.specs.Prelude.{Ok, Err}
use Rattle.std.specs.Prelude as std

-- what was read before others
unfoldable pub before : List ℕ → ℕ → View → View
before bs n v = record { bytes = bs ++ v.bytes; count = n + v.count; indicator = v.indicator; held = v.held }

-- Before an item: n is counted, from i on up to at, and the bytes, size of them, stand in the buffer from pos on; what is left to read is an equation
pub record Listing (h : Closer) (d : ℕ) (s b₀ : List ℕ) (i pos at n size : ℕ) (key : Bool) (b : List ℕ) : Type 0 where
  pub inside : at ≤ length (marked s)
  pub room : Room s i pos
  pub keyed : key ≡ true → h ≡ Curly
  pub bytes : List ℕ
  pub left : several_read h d (drop i (marked s)) ≡ bind (tail_read h key d (drop at (marked s))) (λ v r. ok (before bytes n v) r)
  pub sized : length bytes ≡ size
  pub many : n ≤ size
  pub short : size + 9 * (length (marked s) - at) ≤ 9 * (length (marked s) - i)
  pub wrote : Wrote b₀ b pos bytes

before-none : (v : View) → v ≡ before [] 0 v
unfolding before
before-none v = let e : v.count ≡ 0 + v.count = omega arith in λ j. record { bytes = v.bytes; count = e j; indicator = v.indicator; held = v.held }

bind-before : (u : Result View) → u ≡ bind u (λ v r. ok (before [] 0 v) r)
unfolding bind
bind-before (ok v r) = ap (λ (x : View). ok x r) (before-none v)
bind-before (refuse k q) = refl

starts-curly : (h : Closer) → starts h ≡ true → h ≡ Curly
unfolding starts
starts-curly Square e = absurd (true≢false (sym e))
starts-curly Curly e = refl
starts-curly Round e = absurd (true≢false (sym e))
starts-curly Angle e = absurd (true≢false (sym e))
starts-curly Whole e = absurd (true≢false (sym e))
starts-curly Nothing e = absurd (true≢false (sym e))

turned-curly : (h : Closer) (k : Bool) → turned h k ≡ true → h ≡ Curly
unfolding turned
turned-curly Square k e = absurd (true≢false (sym e))
turned-curly Curly k e = refl
turned-curly Round k e = absurd (true≢false (sym e))
turned-curly Angle k e = absurd (true≢false (sym e))
turned-curly Whole k e = absurd (true≢false (sym e))
turned-curly Nothing k e = absurd (true≢false (sym e))

-- the last item, by what closes the list
tells-by : (t : Bool) (l : ℕ) (h : Closer) (x : Item) → Tells (held_of x) t l → Tells (held_by h x) t l
unfolding held_by Tells
tells-by t l Square x e = tt
tells-by t l Curly x e = tt
tells-by t l Round x e = e
tells-by t l Angle x e = tt
tells-by t l Whole x e = tt
tells-by t l Nothing x e = e

single-key : (h : Closer) (k : Bool) → is_single h ≡ true → (k ≡ true → h ≡ Curly) → k ≡ false
unfolding is_single
single-key h false e f = refl
single-key h true e f = absurd (true≢false (sym e ∙ ap is_single (f refl)))

comma_low : (h : Closer) → comma_code h ≤ 11
unfolding comma_code
comma_low Square = omega arith
comma_low Curly = omega arith
comma_low Round = omega arith
comma_low Angle = omega arith
comma_low Whole = omega arith
comma_low Nothing = omega arith

close_not : (h : Closer) (k : Bool) (j : Indicator) → k ≡ false → code_of (closes (shape_of h) j) ≡ separator_code h k → ⊥
unfolding code_of separator_code
close_not h true j e q = absurd (true≢false e)
close_not h false j e q = omega (arith, shape_low (shape_of h), comma_low h)

close_yes : (h : Closer) (k : Bool) (j : Indicator) → k ≡ false → code_of (closes (shape_of h) j) ≡ closer_code h k
unfolding code_of closer_code
close_yes h true j e = absurd (true≢false e)
close_yes h false j e = refl

close_mark : (h : Closer) (j : Indicator) → mark_of (closes (shape_of h) j) ≡ indicator_number j
unfolding mark_of
close_mark h j = refl

-- THE START
module _ {s b : List ℕ} {i pos : ℕ} {h : Closer} {c : Closing} (d : ℕ) (rm : Room s i pos) (st : StartsAt s i h c) where
  pub several-empty : {a : std.Result MadeItem Refusal} → c.found ≡ true → a ≡ Ok (record { next = c.next; size = 0; count = 0; indicator = c.indicator; binary = false; length = 0 })
      → ReadTold as_seen s b b (length (marked s) - i) pos a (several_read h d (drop i (marked s)))
  unfolding as_seen Tells
  several-empty e f =
      let y = st.yes e in
      let l = length-drop c.next (marked s) in
      told-ok (empty_view (shown_by h (indicator_number y.by))) _ (empty-is h d (drop i (marked s)) (drop c.next (marked s)) y.by y.may y.next_at.is) f
      (record {
        stands = record { inside = y.next_at.inside; drops = refl };
        sized = refl;
        counted = refl;
        indicated = sym y.shown ∙ ap (shown_by h) y.is;
        tells = tt;
        many = omega arith;
        short = omega (arith, l, y.next_at.ahead, y.next_at.inside);
        wrote = wrote_nothing b pos;
      })

  pub several-start : {key : Bool} → c.found ≡ false → key ≡ starts h → Listing h d s b i pos i 0 0 key b
  several-start {key} e k =
      record {
        inside = rm.inside;
        room = rm;
        keyed = λ z. starts-curly h (sym k ∙ z);
        bytes = [];
        left = start_is h d (drop i (marked s)) (st.no e) ∙ ap (λ (x : Bool). tail_read h x d (drop i (marked s))) (sym k) ∙ bind-before (tail_read h key d (drop i (marked s)));
        sized = refl;
        many = omega arith;
        short = omega arith;
        wrote = wrote_nothing b pos;
      }

module _ {h : Closer} {d : ℕ} {s b₀ : List ℕ} {i pos at n size : ℕ} {key : Bool} {b : List ℕ} (L : Listing h d s b₀ i pos at n size key b) where
  pub several-room : Room s at (pos + size)
  several-room = record { inside = L.inside; room = omega (arith, L.room.room, L.short) }

  pub several-place : Fits bits64 (pos + size)
  several-place = record { fits = omega (arith, several-room.room) }

counted-most : (k : Bool) → counted k ≤ 1
unfolding counted
counted-most true = omega arith
counted-most false = omega arith

-- one before others, and the last
before-added : (bs : List ℕ) (n k : ℕ) (x : Item) (v : View) → before bs n (added k x v) ≡ before (bs ++ encode x) (n + k) v
unfolding before added
before-added bs n k x v =
    let e : n + (k + v.count) ≡ n + k + v.count = omega arith in
    λ j. record { bytes = sym (append_assoc bs (encode x) v.bytes) j; count = e j; indicator = v.indicator; held = v.held }

module _ {h : Closer} {d : ℕ} {s b₀ : List ℕ} {i pos at n size : ℕ} {key : Bool} {b b' : List ℕ} (a : std.Result MadeItem Refusal)
    (L : Listing h d s b₀ i pos at n size key b) (told : ReadTold of_item s b b' (length (marked s) - at) (pos + size) a (reads (one d) (drop at (marked s)))) where
  whole : several_read h d (drop i (marked s)) ≡ bind (reads (one d) (drop at (marked s))) (λ x r. bind (onward h key d x r) (λ v r'. ok (before L.bytes n v) r'))
  whole = L.left ∙ ap (λ (u : Result View). bind u (λ v r. ok (before L.bytes n v) r)) (tail_is h key d (drop at (marked s)) L.keyed) ∙ bind_assoc (reads (one d) (drop at (marked s))) _ _

  pub several-refused : {b'' : List ℕ} {e : Refusal} → a ≡ Err e → ReadTold as_seen s b₀ b'' (length (marked s) - i) pos (Err e) (several_read h d (drop i (marked s)))
  several-refused f = told-lost _ _ (lost a told f) whole

  module _ {m : MadeItem} (g : a ≡ Ok m) where
    it : Got of_item s b b' (length (marked s) - at) (pos + size) m (reads (one d) (drop at (marked s)))
    it = got a told g

    abbrev x : Item
    x = it.thing

    sized-is : m.size ≡ length (encode x)
    unfolding of_item
    sized-is = it.moved.sized

    some : 1 ≤ m.size
    unfolding of_item
    some = it.moved.many

    held-is : Tells (held_of x) m.binary m.length
    unfolding of_item
    held-is = it.moved.tells

    wrote-is : Wrote b b' (pos + size) (encode x)
    unfolding of_item
    wrote-is = it.moved.wrote

    bounded : size + m.size + 9 * (length (marked s) - m.next) ≤ 9 * (length (marked s) - i)
    bounded = omega (arith, L.short, it.moved.short, stands-left it.moved.stands)

    pub several-fits : Fits bits64 (size + m.size)
    several-fits = record { fits = omega (arith, bounded, L.room.room) }

    pub several-count : {k : ℕ} → k ≡ counted key → Fits bits64 (n + k)
    several-count e = record { fits = omega (arith, bounded, L.room.room, L.many, e, counted-most key) }

    pub several-same : length b' ≡ length b₀
    several-same = it.moved.wrote.same ∙ L.wrote.same

    several-marked : m.next ≤ length (marked s)
    several-marked = it.moved.stands.inside

    written : Wrote b₀ b' pos (L.bytes ++ encode x)
    written = wrote-more L.wrote wrote-is (ap (λ (k : ℕ). pos + k) (sym L.sized))

    length-is : length (L.bytes ++ encode x) ≡ size + m.size
    length-is = length-append L.bytes (encode x) ∙ omega (arith, L.sized, sized-is)

    behind : several_read h d (drop i (marked s)) ≡ bind (onward h key d x (drop m.next (marked s))) (λ v r'. ok (before L.bytes n v) r')
    behind = whole ∙ bind-yes (reads (one d) (drop at (marked s))) _ x it.rest it.is ∙ ap (λ (r : List ℕ). bind (onward h key d x r) (λ v r'. ok (before L.bytes n v) r')) (sym it.moved.stands.drops)

    abbrev Step : Token → ℕ → List ℕ → Result View
    Step u p r = step_to (tail_read h (turned h key) d) (separator_code h key) (closer_code h key) (counted key) (last_of h) d x u p r

    several-is : is_single h ≡ false → several_read h d (drop i (marked s)) ≡ bind (next (drop m.next (marked s))) (λ u r'. bind (Step u (place (drop m.next (marked s))) r') (λ v r. ok (before L.bytes n v) r))
    unfolding onward
    several-is e = behind ∙ rw (e, onward) (bind_assoc (next (drop m.next (marked s))) _ _)

    module _ {f : Follower} (fo : Follows s m.next h key f) where
      pub several-on : {k : ℕ} {key' : Bool} → f.follow ≡ On → k ≡ counted key → key' ≡ turned h key → Listing h d s b₀ i pos f.next (n + k) (size + m.size) key' b'
      unfolding bind
      several-on {k} {key'} e ke te =
          let o = fo.on e in
          record {
            inside = o.next_at.inside;
            room = L.room;
            keyed = λ z. turned-curly h key (sym te ∙ z);
            bytes = L.bytes ++ encode x;
            left =
                several-is o.several ∙ bind-yes (next (drop m.next (marked s))) _ o.tok (drop f.next (marked s)) o.next_at.is
                ∙ ap (λ (u : Result View). bind u (λ v r. ok (before L.bytes n v) r)) (to_next (tail_read h (turned h key) d) (separator_code h key) (closer_code h key) (counted key) (last_of h) d x o.tok (place (drop m.next (marked s))) (drop f.next (marked s)) o.is)
                ∙ bind_assoc (tail_read h (turned h key) d (drop f.next (marked s))) _ _
                ∙ bind-same (tail_read h (turned h key) d (drop f.next (marked s))) _ _ (λ v r q. ap (λ (y : View). ok y r) (before-added L.bytes n (counted key) x v ∙ ap (λ (y : ℕ). before (L.bytes ++ encode x) (n + y) v) (sym ke)))
                ∙ ap (λ (y : Bool). bind (tail_read h y d (drop f.next (marked s))) (λ v r. ok (before (L.bytes ++ encode x) (n + k) v) r)) (sym te);
            sized = length-is;
            many = omega (arith, L.many, some, ke, counted-most key);
            short = omega (arith, bounded, o.next_at.ahead, o.next_at.inside);
            wrote = written;
          }

      pub several_less : f.follow ≡ On → length (marked s) - f.next < length (marked s) - at
      several_less e = let o = fo.on e in omega (arith, o.next_at.ahead, o.next_at.inside, stands-left it.moved.stands, it.moved.stands.inside, it.moved.short, some, L.inside)

      module _ {a' : std.Result MadeItem Refusal} where
        -- the last item
        ended : (j : ℕ) (nx : ℕ) → a' ≡ Ok (record { next = nx; size = size + m.size; count = n + counted key; indicator = j; binary = m.binary; length = m.length }) → key ≡ false → shown_by h j ≡ j → nx ≤ length (marked s) → m.next ≤ nx
            → several_read h d (drop i (marked s)) ≡ ok (before L.bytes n (last_of h x j)) (drop nx (marked s)) → ReadTold as_seen s b₀ b' (length (marked s) - i) pos a' (several_read h d (drop i (marked s)))
        unfolding as_seen before last_of counted
        ended j nx f kf sh le ge q =
            told-ok (before L.bytes n (last_of h x j)) _ q f
            (record {
              stands = record { inside = le; drops = refl };
              sized = sym length-is;
              counted = rw kf;
              indicated = sym sh;
              tells = tells-by m.binary m.length h x held-is;
              many = omega (arith, L.many, some);
              short = omega (arith, bounded, length-drop nx (marked s));
              wrote = written;
            })

        pub several-over : {k : ℕ} → f.follow ≡ Over → k ≡ counted key → a' ≡ Ok (record { next = f.next; size = size + m.size; count = n + k; indicator = f.indicator; binary = m.binary; length = m.length })
            → ReadTold as_seen s b₀ b' (length (marked s) - i) pos a' (several_read h d (drop i (marked s)))
        unfolding bind onward
        several-over {k} e ke fe = go (is_single h) refl
          where
            fe' : a' ≡ Ok (record { next = f.next; size = size + m.size; count = n + counted key; indicator = f.indicator; binary = m.binary; length = m.length })
            fe' = rw ke at fe

            go : (v : Bool) → is_single h ≡ v → ReadTold as_seen s b₀ b' (length (marked s) - i) pos a' (several_read h d (drop i (marked s)))
            go true q =
                let z = fo.single e q in
                ended f.indicator f.next fe' (single-key h key q L.keyed) (rw z.1 (shown-zero h)) (omega (arith, z.0, several-marked)) (omega (arith, z.0))
                (behind ∙ (rw (q, onward)) ∙ (λ j. ok (before L.bytes n (last_of h x (sym z.1 j))) (drop (sym z.0 j) (marked s))))
            go false q =
                let z = fo.over e q in
                let o = z.1 in
                ended f.indicator f.next fe' z.0 o.shown o.next_at.inside (omega (arith, o.next_at.ahead))
                (several-is q ∙ bind-yes (next (drop m.next (marked s))) _ (closes (shape_of h) o.by) (drop f.next (marked s)) o.next_at.is
                ∙ ap (λ (u : Result View). bind u (λ v r. ok (before L.bytes n v) r))
                (to_last (tail_read h (turned h key) d) (separator_code h key) (closer_code h key) (counted key) (last_of h) d x (closes (shape_of h) o.by) (place (drop m.next (marked s))) (drop f.next (marked s))
                (close_not h key o.by z.0) (close_yes h key o.by z.0))
                ∙ ap (λ (y : ℕ). ok (before L.bytes n (last_of h x y)) (drop f.next (marked s))) (close_mark h o.by ∙ sym o.is))

        pub several-stray : {a'' : std.Result MadeItem Refusal} → f.follow ≡ Stray → StrayTold s m.next d a'' → a' ≡ a'' → ReadTold as_seen s b₀ b' (length (marked s) - i) pos a' (several_read h d (drop i (marked s)))
        unfolding bind
        several-stray e st z =
            let t = fo.stray e in
            rw z (told_stop d _ _ st.took st.strayed (several-is t.several)
            (λ tok r c u. ap (λ (w : Result View). bind w (λ v r. ok (before L.bytes n v) r)) (to_stray (tail_read h (turned h key) d) (separator_code h key) (closer_code h key) (counted key) (last_of h) d x tok (place (drop m.next (marked s))) r (t.separates tok r u) (t.closes tok r u))))

pub ruleset several_ways = (several-empty, several-refused, several-over, several-stray)
