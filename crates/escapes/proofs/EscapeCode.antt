-- Escapes in quoted strings.
-- Assumes nothing.
use mathlib.Core.Path.{◌≡◌, refl, sym, ap, ◌∙◌}
use mathlib.Core.List.{List, [], ◌∷◌, ◌++◌}
use mathlib.Core.Bool.{Bool, true, false}
use Prim.Native.Nat.{ℕ, suc, ◌+◌, ◌-◌, ◌*◌, ◌≤◌, ◌<◌, max}
use native.Mathlib.Omega.{arith}
use lib.Dec.{ltb, eqb}
use lib.ListN.{length, drop, get_or}
use borrow.Author.Tests.{le-leb, lt-leb, ne_eqb, ltb-true, ltb-false}
use Rattle.cbor.specs.Refusals.{Result, ok, bind, no_token}
use Rattle.cbor.specs.Utf8.{◌to◌, is_in}
use Rattle.notation.specs.Numbers.{is_digit}
use Rattle.notation.specs.Reading.{marked}
use Rattle.notation.specs.Scanning.{fault}
use Rattle.notation.specs.Quoted.{utf8_of, Before, no_surrogate, high_surrogate, Quoting, character, escape, unicode, paired, Move, gives, closed, wrong, Escape, escapes, escaped_in, whole_unit, unit, move_at, unquote}
use Rattle.scanning.specs.ScanAnswers.{is_next, Peeked}
use Rattle.scanning.proofs.ScanCode.{peeked_yes}
use Rattle.literal_body.specs.LiteralAnswers.{digit_number}
use Rattle.escapes.specs.EscapeAnswers.{onward, escaped_as, Escaped, DigitHere, DigitAt, UnitHere, UnitAt, Surrogate, Unescapes, Behind, Escapes, EscapesUnquoted}
use Rattle.escapes.specs.declared.ReadEscape.{ReadEscape}
use Rattle.std.specs.Prelude.{Option, None, Some, ◌⊎◌}
use Rattle.std.proofs.Common.{inl, inr}
use Rattle.std.proofs.lemmas.Option.{none-some, same_Some}
use Rattle.literal_body.proofs.LiteralCode.{pre_nil, front-marked, past, digit-yes, digit-no, digit-number}
use Rattle.code_point.proofs.PointCode.{utf8-one, utf8-most}

-- ONE BYTE

pub unquote-next : (q : ℕ) (k : Quoting) (b : ℕ) (s : List ℕ) → unquote q k (b ∷ s) ≡ onward q (move_at q k b) s
unfolding unquote onward
unquote-next q k b s = go (move_at q k b)
  where
    go : (m : Move) → ◌≡◌ {A = Result (List ℕ)} (elim m [ gives w k' ↦ bind (unquote q k' s) (λ c r. ok (w ++ c) r) | closed ↦ ok [] s | wrong ↦ fault no_token ]) (onward q m s)
    go (gives w k') = refl
    go closed = refl
    go wrong = refl

-- at a byte of the text that moves as m says
pub unquote-by : (q : ℕ) (k : Quoting) {m : Move} (s : List ℕ) (i : ℕ) → i < length s → move_at q k (get_or s i 0) ≡ m → unquote q k (drop i (marked s)) ≡ onward q m (drop (i + 1) (marked s))
unquote-by q k s i h e =
    ap (unquote q k) (front-marked s i h) ∙ (unquote-next q k (get_or s i 0) (drop (i + 1) (marked s)) ∙ ap (λ (y : Move). onward q y (drop (i + 1) (marked s))) e)

-- nothing is given
pub onward-on : (q : ℕ) (k : Quoting) (s : List ℕ) → onward q (gives [] k) s ≡ unquote q k s
unfolding onward
onward-on q k s = pre_nil (unquote q k s)

-- behind the text, where the end mark may not stand
pub unquote-end : (q : ℕ) (k : Quoting) (s : List ℕ) (i : ℕ) → length s ≤ i → move_at q k 256 ≡ wrong → unquote q k (drop i (marked s)) ≡ fault no_token
unfolding unquote onward
unquote-end q k s i h e =
    past (λ (x : List ℕ). unquote q k x ≡ fault no_token) s i h (unquote-next q k 256 [] ∙ ap (λ (m : Move). onward q m []) e) refl

-- LETTERS

abbrev NoneOf : List Escape → ℕ → Type 0
NoneOf [] b = Unit
NoneOf (e ∷ es) b = (b ≡ e.letter → ⊥) × NoneOf es b

escaped_not : (es : List Escape) (b : ℕ) → NoneOf es b → escaped_in es b ≡ wrong
unfolding escaped_in
escaped_not [] b n = refl
escaped_not (e ∷ es) b n = (rw (ne_eqb b e.letter n.0, escaped_in)) ∙ escaped_not es b n.1

module _ {b : ℕ} where
  letter-is : (n : ℕ) → escaped_in escapes b ≡ gives (n ∷ []) character → n < 0x80 → Escaped b (Some n)
  unfolding escaped_as
  letter-is n e l = record { is = e; low = λ m u. rw (← same_Some n m u) l }

  pub escaped_itself : (b ≡ 0x2f) ⊎ (b ≡ 0x5c) → Escaped b (Some b)
  unfolding escaped_in escapes
  escaped_itself (inl e) = letter-is b (rw e) (omega arith)
  escaped_itself (inr e) = letter-is b (rw e) (omega arith)

  pub escaped_b : b ≡ 0x62 → Escaped b (Some 0x08)
  unfolding escaped_in escapes
  escaped_b e = letter-is 0x08 (rw e) (omega arith)

  pub escaped_f : b ≡ 0x66 → Escaped b (Some 0x0c)
  unfolding escaped_in escapes
  escaped_f e = letter-is 0x0c (rw e) (omega arith)

  pub escaped_n : b ≡ 0x6e → Escaped b (Some 0x0a)
  unfolding escaped_in escapes
  escaped_n e = letter-is 0x0a (rw e) (omega arith)

  pub escaped_r : b ≡ 0x72 → Escaped b (Some 0x0d)
  unfolding escaped_in escapes
  escaped_r e = letter-is 0x0d (rw e) (omega arith)

  pub escaped_t : b ≡ 0x74 → Escaped b (Some 0x09)
  unfolding escaped_in escapes
  escaped_t e = letter-is 0x09 (rw e) (omega arith)

  pub escaped_none : (b ≡ 0x5c → ⊥) → (b ≡ 0x2f → ⊥) → (b ≡ 0x62 → ⊥) → (b ≡ 0x66 → ⊥) → (b ≡ 0x6e → ⊥) → (b ≡ 0x72 → ⊥) → (b ≡ 0x74 → ⊥) → Escaped b None
  unfolding escaped_in escapes escaped_as
  escaped_none n₁ n₂ n₃ n₄ n₅ n₆ n₇ =
      record {
        is = escaped_not escapes b (n₁, (n₂, (n₃, (n₄, (n₅, (n₆, (n₇, tt)))))));
        low = λ m u. absurd (none-some m u);
      }

pub ruleset escaped_ways = (escaped_itself, escaped_b, escaped_f, escaped_n, escaped_r, escaped_t, escaped_none)

-- DIGITS

no_digit_at : {s : List ℕ} {at : ℕ} → ((q k c : ℕ) (h : Before) → unquote q (unicode k c h) (drop at (marked s)) ≡ fault no_token) → DigitAt s at None
no_digit_at f = record { none = λ u. f; some = λ v u. absurd (none-some v u) }

pub digit-past : {s : List ℕ} {at : ℕ} → length s ≤ at → DigitAt s at None
unfolding move_at is_digit is_in
digit-past {s} {at} h = no_digit_at (λ q k c u. unquote-end q (unicode k c u) s at h refl)

module _ {s : List ℕ} {at v : ℕ} (h : at < length s) (d : v ≡ digit_number (get_or s at 0)) where
  pub digit-wrong : 16 ≤ v → DigitAt s at None
  unfolding move_at onward
  digit-wrong l =
      let l' : 16 ≤ digit_number (get_or s at 0) = omega arith in
      no_digit_at (λ q k c u. unquote-by q (unicode k c u) {m = wrong} s at h (rw (digit-no 16 (get_or s at 0) l', move_at)))

  pub digit-here : v < 16 → DigitAt s at (Some v)
  unfolding move_at onward
  digit-here l =
      let b = get_or s at 0 in
      let l' : digit_number b < 16 = omega arith in
      let t = digit-yes 16 b l' (omega arith) in
      let x : DigitHere s at v = record {
        is = λ q k c u. unquote-by q (unicode k c u) s at h ((rw (t, move_at)) ∙ ap (λ (x : ℕ). unit (k - 1) (c * 16 + x) u) (sym (d ∙ digit-number 16 b t)));
        inside = h;
        low = l;
      } in
      record { none = λ u. absurd (none-some v (sym u)); some = λ w u. rw (← same_Some v w u) x }

pub ruleset digit_ways = (digit-past, digit-wrong, digit-here)

pub digit-found : {s : List ℕ} {at v : ℕ} → DigitAt s at (Some v) → DigitHere s at v
digit-found {v = v} x = x.some v refl

-- one digit more, that is not the last
digit-on : {s : List ℕ} {i v : ℕ} (k c q : ℕ) (h : Before) → DigitAt s i (Some v) → unquote q (unicode (suc (suc k)) c h) (drop i (marked s)) ≡ unquote q (unicode (suc k) (c * 16 + v) h) (drop (i + 1) (marked s))
unfolding unit
digit-on {s} {i} {v} k c q h x =
    let e : suc (suc k) - 1 ≡ suc k = omega arith in
    (rw e at ((digit-found x).is q (suc (suc k)) c h)) ∙ onward-on q (unicode (suc k) (c * 16 + v) h) (drop (i + 1) (marked s))

no-unit : {s : List ℕ} {at : ℕ} → ((q : ℕ) (h : Before) → unquote q (unicode 4 0 h) (drop at (marked s)) ≡ fault no_token) → UnitAt s at None
no-unit f = record { none = λ u. f; some = λ v u. absurd (none-some v u) }

pub unit-first : {s : List ℕ} {at : ℕ} → DigitAt s at None → UnitAt s at None
unit-first x = no-unit (λ q h. x.none refl q 4 0 h)

module _ {s : List ℕ} {at a : ℕ} (x : DigitAt s at (Some a)) where
  pub unit-second : DigitAt s (at + 1) None → UnitAt s at None
  unit-second y = no-unit (λ q h. digit-on 2 0 q h x ∙ y.none refl q 3 _ h)

  module _ {b : ℕ} (y : DigitAt s (at + 1) (Some b)) where
    two : (q : ℕ) (h : Before) → unquote q (unicode 4 0 h) (drop at (marked s)) ≡ unquote q (unicode 2 ((0 * 16 + a) * 16 + b) h) (drop (at + 2) (marked s))
    two q h = let e : at + 1 + 1 ≡ at + 2 = omega arith in rw e at (digit-on 2 0 q h x ∙ digit-on 1 (0 * 16 + a) q h y)

    pub unit-third : DigitAt s (at + 2) None → UnitAt s at None
    unit-third z = no-unit (λ q h. two q h ∙ z.none refl q 2 _ h)

    module _ {c : ℕ} (z : DigitAt s (at + 2) (Some c)) where
      three : (q : ℕ) (h : Before) → unquote q (unicode 4 0 h) (drop at (marked s)) ≡ unquote q (unicode 1 (((0 * 16 + a) * 16 + b) * 16 + c) h) (drop (at + 3) (marked s))
      three q h = let e : at + 2 + 1 ≡ at + 3 = omega arith in rw e at (two q h ∙ digit-on 0 ((0 * 16 + a) * 16 + b) q h z)

      pub unit-fourth : DigitAt s (at + 3) None → UnitAt s at None
      unit-fourth w = no-unit (λ q h. three q h ∙ w.none refl q 1 _ h)

      pub unit-whole : {d : ℕ} → DigitAt s (at + 3) (Some d) → UnitAt s at (Some (a * 0x1000 + b * 0x100 + c * 0x10 + d))
      unfolding unit
      unit-whole {d} w =
          let dw = digit-found w in
          let n = a * 0x1000 + b * 0x100 + c * 0x10 + d in
          let here : UnitHere s at n = record {
            is = λ q h.
                let e : at + 3 + 1 ≡ at + 4 = omega arith in
                let f : (((0 * 16 + a) * 16 + b) * 16 + c) * 16 + d ≡ a * 0x1000 + b * 0x100 + c * 0x10 + d = omega arith in
                let r : unquote q (unicode 4 0 h) (drop at (marked s)) ≡ onward q (whole_unit h ((((0 * 16 + a) * 16 + b) * 16 + c) * 16 + d)) (drop (at + 3 + 1) (marked s)) = three q h ∙ dw.is q 1 (((0 * 16 + a) * 16 + b) * 16 + c) h in
                rw (f, e) at r;
            inside = omega (arith, dw.inside);
            low = omega (arith, (digit-found x).low, (digit-found y).low, (digit-found z).low, dw.low);
          } in
          record { none = λ u. absurd (none-some n (sym u)); some = λ v u. rw (← same_Some n v u) here }

-- a digit of the value v stands at a place, and that is the value of the byte there
record Digit (s : List ℕ) (i v : ℕ) : Type 0 where
  at : DigitAt s i (Some v)
  is : v ≡ digit_number (get_or s i 0)

digit-any : (s : List ℕ) (i : ℕ) → DigitAt s i None ⊎ ((v : ℕ) × Digit s i v)
digit-any s i = by (ltb i (length s)) refl (ltb (digit_number (get_or s i 0)) 16) refl
  where
    by : (t : Bool) → ltb i (length s) ≡ t → (u : Bool) → ltb (digit_number (get_or s i 0)) 16 ≡ u → DigitAt s i None ⊎ ((v : ℕ) × Digit s i v)
    by false e u f = inl (digit-past (ltb-false i (length s) e))
    by true e false f = inl (digit-wrong (ltb-true i (length s) e) refl (ltb-false (digit_number (get_or s i 0)) 16 f))
    by true e true f = inr (digit_number (get_or s i 0), record { at = digit-here (ltb-true i (length s) e) refl (ltb-true (digit_number (get_or s i 0)) 16 f); is = refl })

module _ {s : List ℕ} {at : ℕ} where
  -- where not all four are digits
  unit-none : ((a b c d : ℕ) → Digit s at a → Digit s (at + 1) b → Digit s (at + 2) c → Digit s (at + 3) d → ⊥) → UnitAt s at None
  unit-none f = first (digit-any s at)
    where
      fourth : (a b c : ℕ) → Digit s at a → Digit s (at + 1) b → Digit s (at + 2) c → DigitAt s (at + 3) None ⊎ ((v : ℕ) × Digit s (at + 3) v) → UnitAt s at None
      fourth a b c x y z (inl w) = unit-fourth x.at y.at z.at w
      fourth a b c x y z (inr w) = absurd (f a b c w.0 x y z w.1)

      third : (a b : ℕ) → Digit s at a → Digit s (at + 1) b → DigitAt s (at + 2) None ⊎ ((v : ℕ) × Digit s (at + 2) v) → UnitAt s at None
      third a b x y (inl z) = unit-third x.at y.at z
      third a b x y (inr z) = fourth a b z.0 x y z.1 (digit-any s (at + 3))

      second : (a : ℕ) → Digit s at a → DigitAt s (at + 1) None ⊎ ((v : ℕ) × Digit s (at + 1) v) → UnitAt s at None
      second a x (inl y) = unit-second x.at y
      second a x (inr y) = third a y.0 x y.1 (digit-any s (at + 2))

      first : DigitAt s at None ⊎ ((v : ℕ) × Digit s at v) → UnitAt s at None
      first (inl x) = unit-first x
      first (inr x) = second x.0 x.1 (digit-any s (at + 1))

  pub unit-short : length s < at + 4 → UnitAt s at None
  unit-short h = unit-none (λ a b c d x y z w. absurd (omega (arith, (digit-found w.at).inside)))

  module _ {a b c d : ℕ} (room : at + 4 ≤ length s) (x : a ≡ digit_number (get_or s at 0)) (y : b ≡ digit_number (get_or s (at + 1) 0)) (z : c ≡ digit_number (get_or s (at + 2) 0)) (w : d ≡ digit_number (get_or s (at + 3) 0)) where
    pub unit-wrong : 16 ≤ max (max (max a b) c) d → UnitAt s at None
    unit-wrong h = unit-none (λ i j k l e f g m. absurd (omega (arith, e.is, f.is, g.is, m.is, (digit-found e.at).low, (digit-found f.at).low, (digit-found g.at).low, (digit-found m.at).low)))

    pub unit-values : max (max (max a b) c) d < 16 → UnitAt s at (Some (a * 0x1000 + b * 0x100 + c * 0x10 + d))
    unit-values h = unit-whole (digit-here (omega arith) x (omega arith)) (digit-here (omega arith) y (omega arith)) (digit-here (omega arith) z (omega arith)) (digit-here (omega arith) w (omega arith))

pub ruleset unit_ways = (unit-short, unit-wrong, unit-values)

pub unit-found : {s : List ℕ} {at u : ℕ} → UnitAt s at (Some u) → UnitHere s at u
unit-found {u = u} x = x.some u refl

-- A WHOLE UNIT

in_range : (l h c : ℕ) → l ≤ c → c ≤ h → is_in (l to h) c ≡ true
unfolding is_in
in_range l h c p q = rw (le-leb l c p, le-leb c h q)

below_range : (l h c : ℕ) → c < l → is_in (l to h) c ≡ false
unfolding is_in
below_range l h c p = rw (lt-leb l c p)

above_range : (l h c : ℕ) → l ≤ c → h < c → is_in (l to h) c ≡ false
unfolding is_in
above_range l h c p q = rw (le-leb l c p, lt-leb c h q)

-- behind none
whole_by : Bool → Bool → ℕ → Move
whole_by t u c = elim t [ true ↦ gives [] (paired c) | false ↦ elim u [ true ↦ wrong | false ↦ gives (utf8_of c) character ] ]

whole-zero : (c : ℕ) (t u : Bool) → is_in (0xd800 to 0xdbff) c ≡ t → is_in (0xdc00 to 0xdfff) c ≡ u → whole_unit no_surrogate c ≡ whole_by t u c
unfolding whole_unit whole_by
whole-zero c t u e f = λ j. whole_by (e j) (f j) c

-- ESCAPES

module _ {s : List ℕ} {at : ℕ} where
  unescapes_none : {q : ℕ} {k : Quoting} → unquote q k (drop at (marked s)) ≡ fault no_token → Unescapes s q k at None
  unescapes_none e = record { good = λ x u. absurd (none-some x u); bad = λ u. e }

  unescapes_as : {q : ℕ} {x : ReadEscape} {k : Quoting} → unquote q k (drop at (marked s)) ≡ onward q (gives (utf8_of x.point) character) (drop x.next (marked s)) → Unescapes s q k at (Some x)
  unescapes_as {x = x} e = record { good = λ y u. rw (← same_Some x y u) e; bad = λ u. absurd (none-some x (sym u)) }

  behind-as : {x : ReadEscape} → Behind s at x → (y : ReadEscape) → Some x ≡ Some y → Behind s at y
  behind-as {x} b y u = rw (← same_Some x y u) b

  no-escape : {k : Quoting} → ((q : ℕ) → unquote q k (drop at (marked s)) ≡ fault no_token) → Escapes s k at None
  no-escape f = record { reads = λ q. unescapes_none (f q); place = λ x u. absurd (none-some x u) }

  an_escape : {k : Quoting} {n c : ℕ} → ((q : ℕ) → unquote q k (drop at (marked s)) ≡ onward q (gives (utf8_of c) character) (drop n (marked s)))
      → c < 0x110000 → n ≤ length s → at + 4 ≤ n → Escapes s k at (Some (record { next = n; point = c }))
  an_escape {c = c} f p i l =
      record { reads = λ q. unescapes_as (f q); place = behind-as (record { point = p; inside = i; short = omega (arith, utf8-most c) }) }

-- what must be next, and is not
unless_next : (q : ℕ) (k : Quoting) (c : ℕ) → ((b : ℕ) → eqb b c ≡ false → move_at q k b ≡ wrong) → (r : List ℕ) → is_next c r ≡ false → unquote q k r ≡ fault no_token
unfolding unquote is_next onward
unless_next q k c f [] e = refl
unless_next q k c f (b ∷ r) e = unquote-next q k b r ∙ ap (λ (m : Move). onward q m r) (f b e)

-- the low surrogate
module _ (s : List ℕ) (at h : ℕ) {t : Bool} (x : Peeked s at 0x5c t) where
  pub low_bare : t ≡ false → Escapes s (paired h) at None
  unfolding move_at
  low_bare f = no-escape (λ q. unless_next q (paired h) 0x5c (λ b e. rw (e, move_at)) (drop at (marked s)) (sym x.is ∙ f))

  module _ {t₂ : Bool} (f : t ≡ true) (x₂ : Peeked s (at + 1) 0x75 t₂) where
    low_first : (q : ℕ) → unquote q (paired h) (drop at (marked s)) ≡ unquote q (escape (high_surrogate h)) (drop (at + 1) (marked s))
    unfolding move_at
    low_first q =
        ap (unquote q (paired h)) (peeked_yes x f)
        ∙ (unquote-next q (paired h) 0x5c (drop (at + 1) (marked s)) ∙ onward-on q (escape (high_surrogate h)) (drop (at + 1) (marked s)))

    pub low-letter : t₂ ≡ false → Escapes s (paired h) at None
    unfolding move_at
    low-letter g =
        no-escape (λ q. low_first q ∙ unless_next q (escape (high_surrogate h)) 0x75 (λ b e. rw (e, move_at)) (drop (at + 1) (marked s)) (sym x₂.is ∙ g))

    module _ (g : t₂ ≡ true) where
      low_second : (q : ℕ) → unquote q (paired h) (drop at (marked s)) ≡ unquote q (unicode 4 0 (high_surrogate h)) (drop (at + 2) (marked s))
      unfolding move_at
      low_second q =
          let e : at + 1 + 1 ≡ at + 2 = omega arith in
          let d : drop (at + 1) (marked s) ≡ 0x75 ∷ drop (at + 2) (marked s) = rw e at (peeked_yes x₂ g) in
          low_first q
          ∙ (ap (unquote q (escape (high_surrogate h))) d
          ∙ (unquote-next q (escape (high_surrogate h)) 0x75 (drop (at + 2) (marked s)) ∙ onward-on q (unicode 4 0 (high_surrogate h)) (drop (at + 2) (marked s))))

      pub low-none : UnitAt s (at + 2) None → Escapes s (paired h) at None
      low-none y = no-escape (λ q. low_second q ∙ y.none refl q (high_surrogate h))

      module _ {c : ℕ} (y : UnitAt s (at + 2) (Some c)) where
        low-unit : {m : Move} (q : ℕ) → whole_unit (high_surrogate h) c ≡ m → unquote q (paired h) (drop at (marked s)) ≡ onward q m (drop (at + 6) (marked s))
        low-unit q e =
            let z : at + 2 + 4 ≡ at + 6 = omega arith in
            low_second q ∙ ((rw z at ((unit-found y).is q (high_surrogate h))) ∙ ap (λ (m : Move). onward q m (drop (at + 6) (marked s))) e)

        pub low_below : c < 0xdc00 → Escapes s (paired h) at None
        unfolding whole_unit onward
        low_below l = no-escape (λ q. low-unit {m = wrong} q (rw (below_range 0xdc00 0xdfff c l, whole_unit)))

        pub low-above : 0xdc00 ≤ c → 0xe000 ≤ c → Escapes s (paired h) at None
        unfolding whole_unit onward
        low-above l g = let l₂ : 0xdfff < c = omega arith in no-escape (λ q. low-unit {m = wrong} q (rw (above_range 0xdc00 0xdfff c l l₂, whole_unit)))

        pub low-pair : Surrogate h → 0xdc00 ≤ c → c < 0xe000 → Escapes s (paired h) at (Some (record { next = at + 6; point = 0x10000 + (h - 0xd800) * 0x400 + (c - 0xdc00) }))
        unfolding whole_unit
        low-pair v l g =
            let l₂ : c ≤ 0xdfff = omega arith in
            an_escape (λ q. low-unit q (rw (in_range 0xdc00 0xdfff c l l₂, whole_unit))) (omega (arith, v.top)) (omega (arith, (unit-found y).inside)) (omega arith)

pub ruleset low_ways = (low_bare, low-letter, low-none, low_below, low-above, low-pair)

-- behind `\u`
pub unicode-none : {s : List ℕ} {at : ℕ} → UnitAt s at None → Escapes s (unicode 4 0 no_surrogate) at None
unicode-none y = no-escape (λ q. y.none refl q no_surrogate)

module _ {s : List ℕ} {at c : ℕ} (y : UnitAt s at (Some c)) where
  unicode-by : {m : Move} (q : ℕ) → whole_unit no_surrogate c ≡ m → unquote q (unicode 4 0 no_surrogate) (drop at (marked s)) ≡ onward q m (drop (at + 4) (marked s))
  unicode-by q e = (unit-found y).is q no_surrogate ∙ ap (λ (m : Move). onward q m (drop (at + 4) (marked s))) e

  unicode_as : whole_unit no_surrogate c ≡ gives (utf8_of c) character → Escapes s (unicode 4 0 no_surrogate) at (Some (record { next = at + 4; point = c }))
  unicode_as e = an_escape (λ q. unicode-by q e) (omega (arith, (unit-found y).low)) (unit-found y).inside (omega arith)

  pub unicode-low : c < 0xd800 → Escapes s (unicode 4 0 no_surrogate) at (Some (record { next = at + 4; point = c }))
  unfolding whole_by
  unicode-low a = let a₂ : c < 0xdc00 = omega arith in unicode_as (whole-zero c false false (below_range 0xd800 0xdbff c a) (below_range 0xdc00 0xdfff c a₂))

  module _ (g : 0xd800 ≤ c) where
    pub unicode-pair : {r : Option ReadEscape} → c < 0xdc00 → Escapes s (paired c) (at + 4) r → Escapes s (unicode 4 0 no_surrogate) at r
    unfolding whole_by
    unicode-pair a x =
        let a₂ : c ≤ 0xdbff = omega arith in
        let e : (q : ℕ) → unquote q (unicode 4 0 no_surrogate) (drop at (marked s)) ≡ unquote q (paired c) (drop (at + 4) (marked s)) = λ q.
        unicode-by q (whole-zero c true _ (in_range 0xd800 0xdbff c g a₂) refl) ∙ onward-on q (paired c) (drop (at + 4) (marked s)) in
        record {
          reads = λ q. record { good = λ y u. e q ∙ (x.reads q).good y u; bad = λ u. e q ∙ (x.reads q).bad u };
          place = λ y u. let p = x.place y u in record { point = p.point; inside = p.inside; short = omega (arith, p.short) };
        }

  module _ (a : 0xdc00 ≤ c) where
    not_first : is_in (0xd800 to 0xdbff) c ≡ false
    not_first = let a₂ : 0xdbff < c = omega arith in above_range 0xd800 0xdbff c (omega arith) a₂

    pub unicode_lone : c < 0xe000 → Escapes s (unicode 4 0 no_surrogate) at None
    unfolding whole_by onward
    unicode_lone a₂ = let a₃ : c ≤ 0xdfff = omega arith in no-escape (λ q. unicode-by q (whole-zero c false true not_first (in_range 0xdc00 0xdfff c a a₃)))

    pub unicode-top : 0xe000 ≤ c → Escapes s (unicode 4 0 no_surrogate) at (Some (record { next = at + 4; point = c }))
    unfolding whole_by
    unicode-top a₂ = let a₃ : 0xdfff < c = omega arith in unicode_as (whole-zero c false false not_first (above_range 0xdc00 0xdfff c a a₃))

-- where no surrogate stands
pub unicode-plain : {s : List ℕ} {at c : ℕ} → UnitAt s at (Some c) → (0xd800 ≤ c → 0xe000 ≤ c) → Escapes s (unicode 4 0 no_surrogate) at (Some (record { next = at + 4; point = c }))
unicode-plain {s} {at} {c} y f = go (ltb c 0xd800) refl
  where
    go : (t : Bool) → ltb c 0xd800 ≡ t → Escapes s (unicode 4 0 no_surrogate) at (Some (record { next = at + 4; point = c }))
    go true e = unicode-low y (ltb-true c 0xd800 e)
    go false e = let m = f (ltb-false c 0xd800 e) in unicode-top y (omega arith) m

-- behind a backslash
pub escape-past : {s : List ℕ} {at : ℕ} → length s ≤ at → EscapesUnquoted s at None
unfolding move_at escaped_in escapes
escape-past {s} {at} h =
    record {
      reads = λ q l f. unescapes_none (unquote-end q (escape no_surrogate) s at h (let n : 256 ≡ q → ⊥ = omega arith in rw (ne_eqb 256 q n, move_at)));
      place = λ x u. absurd (none-some x u);
    }

module _ (s : List ℕ) (at : ℕ) (h : at < length s) where
  -- no quote is next
  escape-by : {m : Move} (q : ℕ) → is_next q (drop at (marked s)) ≡ false
      → elim (eqb (get_or s at 0) 0x75) [ true ↦ gives [] (unicode 4 0 no_surrogate) | false ↦ escaped_in escapes (get_or s at 0) ] ≡ m
      → unquote q (escape no_surrogate) (drop at (marked s)) ≡ onward q m (drop (at + 1) (marked s))
  unfolding move_at is_next
  escape-by q f e =
      let g : eqb (get_or s at 0) q ≡ false = rw (front-marked s at h) at f in
      unquote-by q (escape no_surrogate) s at h ((rw (g, move_at)) ∙ e)

  pub escape_unicode : {r : Option ReadEscape} → get_or s at 0 ≡ 0x75 → Escapes s (unicode 4 0 no_surrogate) (at + 1) r → EscapesUnquoted s at r
  escape_unicode e x =
      let w : (q : ℕ) → is_next q (drop at (marked s)) ≡ false → unquote q (escape no_surrogate) (drop at (marked s)) ≡ unquote q (unicode 4 0 no_surrogate) (drop (at + 1) (marked s)) = λ q f.
      escape-by q f (rw e) ∙ onward-on q (unicode 4 0 no_surrogate) (drop (at + 1) (marked s)) in
      record {
        reads = λ q l f. record { good = λ y u. w q f ∙ (x.reads q).good y u; bad = λ u. w q f ∙ (x.reads q).bad u };
        place = λ y u. let p = x.place y u in record { point = p.point; inside = p.inside; short = omega (arith, p.short) };
      }

  module _ (n : get_or s at 0 ≡ 0x75 → ⊥) where
    letter : {r : Option ℕ} → Escaped (get_or s at 0) r → (q : ℕ) → is_next q (drop at (marked s)) ≡ false → unquote q (escape no_surrogate) (drop at (marked s)) ≡ onward q (escaped_as r) (drop (at + 1) (marked s))
    letter y q f = escape-by q f ((rw (ne_eqb (get_or s at 0) 0x75 n)) ∙ y.is)

    pub escape-wrong : Escaped (get_or s at 0) None → EscapesUnquoted s at None
    unfolding escaped_as onward
    escape-wrong y = record { reads = λ q l f. unescapes_none (letter y q f); place = λ x u. absurd (none-some x u) }

    pub escape-letter : {v : ℕ} → Escaped (get_or s at 0) (Some v) → EscapesUnquoted s at (Some (record { next = at + 1; point = v }))
    unfolding escaped_as
    escape-letter {v} y =
        let l = y.low v refl in
        let w = utf8-one v l in
        record {
          reads = λ q l f. unescapes_as (letter y q f ∙ ap (λ (x : List ℕ). onward q (gives x character) (drop (at + 1) (marked s))) (sym w));
          place = behind-as (record { point = omega arith; inside = omega arith; short = omega (arith, ap length w) });
        }

pub ruleset escape_ways = (escape-past, escape_unicode, escape-wrong, escape-letter)
