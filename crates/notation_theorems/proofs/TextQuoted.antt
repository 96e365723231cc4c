-- The content of a quoted string is UTF-8: the bytes that stand for themselves are whole sequences, and so is what an escape gives.
use Prim.Native.Nat.{ℕ, zero, suc, ◌+◌, ◌-◌, ◌*◌, ◌/◌, ◌%◌, ◌≤◌, ◌<◌}
use native.Mathlib.Omega.{arith}
use mathlib.Core.Path.{◌≡◌, refl}
use mathlib.Core.Bool.{Bool, true, false, ◌&&◌}
use mathlib.Core.Logic.{◌⊎◌, inl, inr}
use mathlib.Core.List.{List, [], ◌∷◌, ◌++◌}
use lib.Dec.{T, leb, ltb, eqb, leb→le}
use lib.ListN.{length, length-append, replicate}
use borrow.Author.Tests.{eqb-true, le-leb, leb-true, leb-false, ltb-true, ltb-false}
use Rattle.cbor.specs.Refusals.{ok, bind, no_token}
use Rattle.cbor.specs.Utf8.{Range, ◌to◌, is_in, rows, follow_in, follow, is_utf8}
use Rattle.cbor.specs.Sequences.{ranges, behind_first}
use Rattle.cbor.proofs.Table.{both, every}
use Rattle.cbor.proofs.Sequences.{same, lead_rule}
use Rattle.cbor.proofs.Utf8Laws.{both_true, is_in_lem}
use Rattle.cbor.proofs.Utf8Text.{Text, text_nil, text-utf8, text-first, text_later, text-append, text-ascii, Alone, text-past, text-step}
use Rattle.notation.specs.Scanning.{fault}
use Rattle.notation.specs.Numbers.{digit_value, is_digit}
use Rattle.notation.specs.Quoted.{utf8_of, Before, no_surrogate, high_surrogate, Quoting, character, escape, unicode, paired, Move, gives, closed, wrong, Escape, escapes, escaped_in, whole_unit, unit, move_at, unquote}
use Rattle.notation_theorems.proofs.TextScan.{tested, Leaves, leaves-bind, digit-alone, digit_less}

-- A CODE POINT

later : {gs : List Range} {s : List ℕ} (l h v : ℕ) → (l ≤ v) × (v ≤ h) × (0x80 ≤ v) × (v ≤ 0xbf) → Text false gs s → Text false ((l to h) ∷ gs) (v ∷ s)
unfolding is_in
later l h v p t = text_later {g = l to h} {b = v} (rw (le-leb l v p.0, le-leb v h p.1)) p.2 p.3 t

-- a sequence whose first byte b is in lo to hi, which asks for l to h next
lead : (n lo hi l h b v : ℕ) (s : List ℕ) → T (every (λ k x. same (follow k) (behind_first (suc (suc n)) l h)) lo (replicate (hi - lo) 0)) → (lo ≤ b) × (b < hi)
    → (l ≤ v) × (v ≤ h) × (0x80 ≤ v) × (v ≤ 0xbf) → Text false (ranges n 0x80 0xbf) s → Text false [] (b ∷ v ∷ s)
unfolding behind_first ranges
lead n lo hi l h b v s t p q x = text-first (lead_rule (suc (suc n)) l h p.0 p.1 t) (later l h v q x)

last : (c : ℕ) → Text false ((0x80 to 0xbf) ∷ []) ((0x80 + c % 0x40) ∷ [])
last c = later 0x80 0xbf (0x80 + c % 0x40) (omega arith) text_nil

last_two_lem : (c : ℕ) → Text false ((0x80 to 0xbf) ∷ (0x80 to 0xbf) ∷ []) ((0x80 + c / 0x40 % 0x40) ∷ (0x80 + c % 0x40) ∷ [])
last_two_lem c = later 0x80 0xbf (0x80 + c / 0x40 % 0x40) (omega arith) (last c)

-- all but the surrogates
abbrev pub Scalar : ℕ → Type 0
Scalar c = (c < 0xd800) ⊎ (0xe000 ≤ c)

two_text : (c : ℕ) → 0x80 ≤ c → c < 0x800 → Text false [] ((0xc0 + c / 0x40) ∷ (0x80 + c % 0x40) ∷ [])
unfolding rows follow_in follow is_in behind_first ranges
two_text c l h = lead 0 0xc2 0xe0 0x80 0xbf _ _ _ tt (omega arith) (omega arith) text_nil

three_text : (c : ℕ) → Scalar c → 0x800 ≤ c → c < 0x10000 → Text false [] ((0xe0 + c / 0x1000) ∷ (0x80 + c / 0x40 % 0x40) ∷ (0x80 + c % 0x40) ∷ [])
unfolding rows follow_in follow is_in behind_first ranges
three_text c (inr e) l h = lead 1 0xee 0xf0 0x80 0xbf _ _ _ tt (omega arith) (omega arith) (last c)
three_text c (inl e) l h = go (ltb c 0x1000) refl (ltb c 0xd000) refl
  where
    go : (u : Bool) → ltb c 0x1000 ≡ u → (v : Bool) → ltb c 0xd000 ≡ v → Text false [] ((0xe0 + c / 0x1000) ∷ (0x80 + c / 0x40 % 0x40) ∷ (0x80 + c % 0x40) ∷ [])
    go true p v q =
        let m = ltb-true c 0x1000 p in
        lead 1 0xe0 0xe1 0xa0 0xbf _ _ _ tt (omega arith) (omega arith) (last c)
    go false p true q =
        let m = ltb-false c 0x1000 p in
        let k = ltb-true c 0xd000 q in
        lead 1 0xe1 0xed 0x80 0xbf _ _ _ tt (omega arith) (omega arith) (last c)
    go false p false q =
        let k = ltb-false c 0xd000 q in
        lead 1 0xed 0xee 0x80 0x9f _ _ _ tt (omega arith) (omega arith) (last c)

four-text : (c : ℕ) → 0x10000 ≤ c → c < 0x110000 → Text false [] ((0xf0 + c / 0x40000) ∷ (0x80 + c / 0x1000 % 0x40) ∷ (0x80 + c / 0x40 % 0x40) ∷ (0x80 + c % 0x40) ∷ [])
unfolding rows follow_in follow is_in behind_first ranges
four-text c l h = go (ltb c 0x40000) refl (ltb c 0x100000) refl
  where
    go : (u : Bool) → ltb c 0x40000 ≡ u → (v : Bool) → ltb c 0x100000 ≡ v
        → Text false [] ((0xf0 + c / 0x40000) ∷ (0x80 + c / 0x1000 % 0x40) ∷ (0x80 + c / 0x40 % 0x40) ∷ (0x80 + c % 0x40) ∷ [])
    go true p v q =
        let m = ltb-true c 0x40000 p in
        lead 2 0xf0 0xf1 0x90 0xbf _ _ _ tt (omega arith) (omega arith) (last_two_lem c)
    go false p true q =
        let m = ltb-false c 0x40000 p in
        let k = ltb-true c 0x100000 q in
        lead 2 0xf1 0xf4 0x80 0xbf _ _ _ tt (omega arith) (omega arith) (last_two_lem c)
    go false p false q =
        let k = ltb-false c 0x100000 q in
        lead 2 0xf4 0xf5 0x80 0x8f _ _ _ tt (omega arith) (omega arith) (last_two_lem c)

-- it is UTF-8, of few bytes
abbrev Few : List ℕ → Type 0
Few w = Text false [] w × (length w ≤ 9)

utf8-few : (c : ℕ) → Scalar c → c < 0x110000 → Few (utf8_of c)
unfolding utf8_of
utf8-few c e h =
    tested Few (ltb c 0x80) _ _ (λ p. (text-ascii (ltb-true c 0x80 p) text_nil, omega arith))
    (λ p. tested Few (ltb c 0x800) _ _ (λ q. (two_text c (ltb-false c 0x80 p) (ltb-true c 0x800 q), omega arith))
    (λ q. tested Few (ltb c 0x10000) _ _ (λ r. (three_text c e (ltb-false c 0x800 q) (ltb-true c 0x10000 r), omega arith))
    (λ r. (four-text c (ltb-false c 0x10000 r) h, omega arith))))

pub utf8_of_lem : (c : ℕ) → Scalar c → c < 0x110000 → is_utf8 (utf8_of c) ≡ true
utf8_of_lem c e h = text-utf8 (utf8-few c e h).0

-- WHERE IN A STRING: a high surrogate is one, and digits make no more than they can

abbrev Surrogate : ℕ → Type 0
Surrogate h = (0xd800 ≤ h) × (h ≤ 0xdbff)

abbrev High : Before → Type 0
High no_surrogate = Unit
High (high_surrogate h) = Surrogate h

-- k digits are still to come
abbrev Small : ℕ → ℕ → Type 0
Small zero c = c < 0x10000
Small (suc zero) c = c < 0x1000
Small (suc (suc zero)) c = c < 0x100
Small (suc (suc (suc zero))) c = c < 0x10
Small (suc (suc (suc (suc zero)))) c = c < 1
Small (suc (suc (suc (suc (suc k))))) c = ⊥

abbrev State : Quoting → Type 0
State character = Unit
State (escape h) = High h
State (unicode k c h) = (1 ≤ k) × Small k c × High h
State (paired h) = Surrogate h

small_less : (k c v : ℕ) → 1 ≤ k → Small k c → v < 16 → Small (k - 1) (c * 16 + v)
small_less zero c v o h l = absurd (omega arith)
small_less (suc zero) c v o h l = omega arith
small_less (suc (suc zero)) c v o h l = omega arith
small_less (suc (suc (suc zero))) c v o h l = omega arith
small_less (suc (suc (suc (suc zero)))) c v o h l = omega arith
small_less (suc (suc (suc (suc (suc k))))) c v o h l = absurd h

outside : (g : Range) (b : ℕ) → is_in g b ≡ false → (b < g.low) ⊎ (g.high < b)
unfolding is_in
outside g b e = go (leb g.low b) refl (leb b g.high) refl e
  where
    go : (u : Bool) → leb g.low b ≡ u → (v : Bool) → leb b g.high ≡ v → (u && v) ≡ false → (b < g.low) ⊎ (g.high < b)
    go false p v q e = inl (leb-false g.low b p)
    go true p false q e = inr (leb-false b g.high q)
    go true p true q e = let z : ◌≡◌ {A = ℕ} 0 1 = cc in absurd (omega arith)

-- A BYTE'S MOVE: what it gives may stand in front of what the rest gives

record Goes (gs : List Range) (s w : List ℕ) (k : Quoting) : Type 0 where
  asks : List Range
  rest : Text true asks s
  state : State k
  again : (c : List ℕ) → Text false asks c → Text false gs (w ++ c)
  short : length w ≤ 9

abbrev Moves : List Range → List ℕ → Move → Type 0
Moves gs s (gives w k) = Goes gs s w k
Moves gs s closed = (gs ≡ []) × Text true [] s
Moves gs s wrong = Unit {0}

abbrev ascii_escapes : List Escape → Bool
ascii_escapes [] = true
ascii_escapes (e ∷ es) = leb e.letter 127 && (leb e.byte 127 && ascii_escapes es)

module _ (gs : List Range) (b : ℕ) (s : List ℕ) (t : Text true gs (b ∷ s)) where
  -- at an ASCII byte no sequence is open
  plain : Alone b → (w : List ℕ) (k : Quoting) → Few w → State k → Moves gs s (gives w k)
  plain a w k f h = let p = text-past a t in record { asks = []; rest = p.1; state = h; again = λ c u. rw p.0 (text-append f.0 u); short = f.1 }

  silent : Alone b → (k : Quoting) → State k → Moves gs s (gives [] k)
  silent a k h = plain a [] k (text_nil, omega arith) h

  raw : b ≤ 255 → Moves gs s (gives (b ∷ []) character)
  raw h = let p = text-step h t in record { asks = p.asks; rest = p.rest; state = tt; again = p.again; short = omega arith }

  whole-text : Alone b → (h : Before) (c : ℕ) → High h → c < 0x10000 → Moves gs s (whole_unit h c)
  unfolding whole_unit
  whole-text a no_surrogate c h l =
      tested (Moves gs s) (is_in (0xd800 to 0xdbff) c) _ _ (λ e. silent a (paired c) (is_in_lem (0xd800 to 0xdbff) c e))
      (λ e. tested (Moves gs s) (is_in (0xdc00 to 0xdfff) c) _ _ (λ f. tt)
      (λ f. plain a (utf8_of c) character (utf8-few c (scalar (outside (0xd800 to 0xdbff) c e) (outside (0xdc00 to 0xdfff) c f)) (omega arith)) tt))
    where
      scalar : (c < 0xd800) ⊎ (0xdbff < c) → (c < 0xdc00) ⊎ (0xdfff < c) → Scalar c
      scalar (inl x) y = inl x
      scalar (inr x) (inl y) = absurd (omega arith)
      scalar (inr x) (inr y) = inr y
  whole-text a (high_surrogate h) c (l, m) n =
      tested (Moves gs s) (is_in (0xdc00 to 0xdfff) c) _ _ (λ e. let i = is_in_lem (0xdc00 to 0xdfff) c e in plain a _ character (utf8-few _ (inr (omega arith)) (omega arith)) tt) (λ e. tt)

  unit-text : Alone b → (k c : ℕ) (h : Before) → Small k c → High h → Moves gs s (unit k c h)
  unfolding unit
  unit-text a zero c h l m = whole-text a h c m l
  unit-text a (suc k) c h l m = silent a (unicode (suc k) c h) (omega arith, l, m)

  escaped_text : (es : List Escape) → T (ascii_escapes es) → Moves gs s (escaped_in es b)
  unfolding escaped_in
  escaped_text [] h = tt
  escaped_text (e ∷ es) h =
      let p = both (leb e.letter 127) (leb e.byte 127 && ascii_escapes es) h in
      let q = both (leb e.byte 127) (ascii_escapes es) p.1 in
      let m = leb→le e.letter 127 p.0 in
      let n = leb→le e.byte 127 q.0 in
      tested (Moves gs s) (eqb b e.letter) _ _ (λ f. plain (inl (omega (arith, eqb-true b e.letter f))) (e.byte ∷ []) character (text-ascii (omega arith) text_nil, omega arith) tt)
      (λ f. escaped_text es q.1)

  module _ (q : ℕ) (small : q < 128) where
    move_text : (k : Quoting) → State k → Moves gs s (move_at q k b)
    unfolding move_at escapes
    move_text character h =
        tested (Moves gs s) (eqb b q) _ _ (λ e. text-past (inl (omega (arith, eqb-true b q e))) t)
        (λ e. tested (Moves gs s) (eqb b 0x5c) _ _ (λ e. silent (inl (omega (arith, eqb-true b 0x5c e))) (escape no_surrogate) tt)
        (λ e. tested (Moves gs s) (leb 0x20 b && leb b 0xff) _ _ (λ e. raw (leb-true b 0xff (both_true (leb 0x20 b) (leb b 0xff) e).1)) (λ e. tt)))
    move_text (escape no_surrogate) h =
        tested (Moves gs s) (eqb b q) _ _ (λ e. plain (inl (omega (arith, eqb-true b q e))) (q ∷ []) character (text-ascii small text_nil, omega arith) tt)
        (λ e. tested (Moves gs s) (eqb b 0x75) _ _ (λ e. silent (inl (omega (arith, eqb-true b 0x75 e))) (unicode 4 0 no_surrogate) (omega arith, omega arith, tt)) (λ e. escaped_text escapes tt))
    move_text (escape (high_surrogate h)) m =
        tested (Moves gs s) (eqb b 0x75) _ _ (λ e. silent (inl (omega (arith, eqb-true b 0x75 e))) (unicode 4 0 (high_surrogate h)) (omega arith, omega arith, m)) (λ e. tt)
    move_text (unicode k c h) m =
        tested (Moves gs s) (is_digit 16 b) _ _
        (λ e. unit-text (digit-alone 16 b e) (k - 1) (c * 16 + digit_value b) h (small_less k c (digit_value b) m.0 m.1 (digit_less 16 b e)) m.2) (λ e. tt)
    move_text (paired h) m = tested (Moves gs s) (eqb b 0x5c) _ _ (λ e. silent (inl (omega (arith, eqb-true b 0x5c e))) (escape (high_surrogate h)) m) (λ e. tt)

-- THE STRING: its content, read where the ranges gs are asked for, and what is left of n

abbrev pub Unquoted : List Range → ℕ → List ℕ → ℕ → Type 0
Unquoted gs n c k = Text false gs c × (length c + 9 * k ≤ 9 * n)

unquote-from : (q : ℕ) → q < 128 → (k : Quoting) (gs : List Range) (s : List ℕ) → State k → Text true gs s → Leaves (Unquoted gs (length s)) (unquote q k s)
unfolding unquote
unquote-from q small k gs [] h t = tt
unquote-from q small k gs (b ∷ s) h t = go (move_at q k b) (move_text gs b s t q small k h) (λ k' gs'. unquote-from q small k' gs' s)
  where
    go : (m : Move) → Moves gs s m → ((k' : Quoting) (gs' : List Range) → State k' → Text true gs' s → Leaves (Unquoted gs' (length s)) (unquote q k' s))
        → Leaves {A = List ℕ} (Unquoted gs (suc (length s))) (elim m [ gives w k' ↦ bind (unquote q k' s) (λ c r. ok (w ++ c) r) | closed ↦ ok [] s | wrong ↦ fault no_token ])
    go (gives w k') m ih =
        leaves-bind (Unquoted m.asks (length s)) (Unquoted gs (suc (length s))) _ _ (ih k' m.asks m.state m.rest)
        (λ c r t u. (t, (m.again c u.0, rw length-append (omega (arith, m.short, u.1)))))
    go closed m ih = (m.1, (rw m.0 text_nil, omega arith))
    go wrong m ih = tt

pub unquote-text : (q : ℕ) → q < 128 → (s : List ℕ) → Text true [] s → Leaves (Unquoted [] (length s)) (unquote q character s)
unquote-text q small s t = unquote-from q small character [] s tt t
