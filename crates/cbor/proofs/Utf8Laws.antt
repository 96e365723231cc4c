-- Laws of UTF-8: where the first bad sequence can stand, that texts may be joined, and cut before an ASCII byte.
-- Assumes nothing.
use mathlib.Core.Path.{◌≡◌, refl, sym, ap, ◌∙◌}
use mathlib.Core.Bool.{Bool, true, false, ◌&&◌}
use mathlib.Core.List.{List, [], ◌∷◌, ◌++◌}
use Prim.Native.Nat.{ℕ, zero, suc, ◌+◌, ◌≤◌, ◌<◌}
use native.Mathlib.Omega.{arith}
use lib.Dec.{T, leb, leb→le}
use lib.ListN.{length, length-append}
use borrow.Author.Tests.{leb-true, eq-eqb, eqb-true}
use Rattle.cbor.specs.Utf8.{Range, is_in, Row, rows, Follow, nothing, these, follow_in, follow, are_in, sequence_by, first_bad_from, first_bad, is_utf8}
use Rattle.cbor.specs.Valid.{Bytes}
use Rattle.cbor.proofs.Table.{both}
use Rattle.cbor.proofs.Sequences.{first-bad_stop, first-bad-on}

pub both_true : (a b : Bool) → a && b ≡ true → (a ≡ true) × (b ≡ true)
both_true true b e = (refl, e)
both_true false b e = let z : ◌≡◌ {A = ℕ} 0 1 = cc in absurd (omega arith)

pub is_in_lem : (g : Range) (b : ℕ) → is_in g b ≡ true → (g.low ≤ b) × (b ≤ g.high)
unfolding is_in
is_in_lem g b e =
    let p = both_true (leb g.low b) (leb b g.high) e in
    (leb-true g.low b p.0, leb-true b g.high p.1)

-- The table: a first byte is a byte, and those behind it are 80 to BF.
abbrev pub continuing : List Range → Bool
continuing [] = true
continuing (g ∷ gs) = leb 0x80 g.low && (leb g.high 0xbf && continuing gs)

abbrev right : List Row → Bool
right [] = true
right (w ∷ ws) = leb w.first.high 0xff && (continuing w.rest && right ws)

abbrev pub Right : ℕ → Follow → Type 0
Right b nothing = Unit
Right b (these gs) = (b < 256) × T (continuing gs)

follow_in_lem : (ws : List Row) (b : ℕ) → T (right ws) → Right b (follow_in ws b)
unfolding follow_in
follow_in_lem [] b t = tt
follow_in_lem (w ∷ ws) b t =
    let p = both (leb w.first.high 0xff) (continuing w.rest && right ws) t in
    let q = both (continuing w.rest) (right ws) p.1 in
    go (is_in w.first b) refl (leb→le w.first.high 0xff p.0) q.0 (follow_in_lem ws b q.1)
  where
    go : (y : Bool) → is_in w.first b ≡ y → w.first.high ≤ 0xff → T (continuing w.rest) → Right b (follow_in ws b)
        → Right b (elim y [ true ↦ these w.rest | false ↦ follow_in ws b ])
    go true e h c r = let i = is_in_lem w.first b e in (omega arith, c)
    go false e h c r = r

pub follow_right : (b : ℕ) → Right b (follow b)
unfolding follow rows
follow_right b = follow_in_lem rows b tt

-- the first k bytes are there, each 80 to BF
abbrev Continues : ℕ → List ℕ → Type 0
Continues zero s = Unit
Continues (suc k) [] = ⊥
Continues (suc k) (b ∷ s) = (0x80 ≤ b) × (b ≤ 0xbf) × Continues k s

-- What stands behind a first byte, by the ranges that it asks for.
pub first_range : (g : Range) (gs : List Range) → T (continuing (g ∷ gs)) → (0x80 ≤ g.low) × (g.high ≤ 0xbf) × T (continuing gs)
first_range g gs t =
    let p = both (leb 0x80 g.low) (leb g.high 0xbf && continuing gs) t in
    let q = both (leb g.high 0xbf) (continuing gs) p.1 in
    (leb→le 0x80 g.low p.0, leb→le g.high 0xbf q.0, q.1)

are_in_continues : (gs : List Range) (s : List ℕ) → T (continuing gs) → are_in gs s ≡ true → Continues (length gs) s
unfolding are_in
are_in_continues [] s t e = tt
are_in_continues (g ∷ gs) [] t e = let z : ◌≡◌ {A = ℕ} 0 1 = cc in absurd (omega arith)
are_in_continues (g ∷ gs) (b ∷ s) t e =
    let p = both_true (is_in g b) (are_in gs s) e in
    let i = is_in_lem g b p.0 in
    let r = first_range g gs t in
    (omega arith, omega arith, are_in_continues gs s r.2 p.1)

are_in_append : (gs : List Range) (s b : List ℕ) → are_in gs s ≡ true → are_in gs (s ++ b) ≡ true
unfolding are_in
are_in_append [] s b e = refl
are_in_append (g ∷ gs) [] b e = let z : ◌≡◌ {A = ℕ} 0 1 = cc in absurd (omega arith)
are_in_append (g ∷ gs) (x ∷ s) b e =
    let p = both_true (is_in g x) (are_in gs s) e in
    rw (p.0, are_in_append gs s b p.1)

are_in_cut : (gs : List Range) (a b : List ℕ) (c : ℕ) → c < 128 → T (continuing gs) → are_in gs (a ++ (c ∷ b)) ≡ true → are_in gs a ≡ true
unfolding are_in
are_in_cut [] a b c h t e = refl
are_in_cut (g ∷ gs) [] b c h t e =
    let i = is_in_lem g c (both_true (is_in g c) (are_in gs b) e).0 in
    let r = first_range g gs t in
    absurd (omega arith)
are_in_cut (g ∷ gs) (x ∷ a) b c h t e =
    let p = both_true (is_in g x) (are_in gs (a ++ (c ∷ b))) e in
    rw (p.0, are_in_cut gs a b c h (first_range g gs t).2 p.1)

-- A sequence that is there.
sequence_in : (gs : List Range) (s : List ℕ) (k : ℕ) → sequence_by (these gs) s ≡ suc k → (are_in gs s ≡ true) × (length gs ≡ k)
unfolding sequence_by
sequence_in gs s k e = go (are_in gs s) e
  where
    go : (t : Bool) → elim t [ true ↦ suc (length gs) | false ↦ 0 ] ≡ suc k → (t ≡ true) × (length gs ≡ k)
    go true e = (refl, omega arith)
    go false e = absurd (omega arith)

pub in_sequence : (gs : List Range) (s : List ℕ) (k : ℕ) → are_in gs s ≡ true → length gs ≡ k → sequence_by (these gs) s ≡ suc k
unfolding sequence_by
in_sequence gs s k e l = rw (e, sequence_by) (ap suc l)

sequence_continues : (f : Follow) (b k : ℕ) (s : List ℕ) → Right b f → sequence_by f s ≡ suc k → (b < 256) × Continues k s
unfolding sequence_by
sequence_continues nothing b k s r e = absurd (omega arith)
sequence_continues (these gs) b k s r e = let p = sequence_in gs s k e in (r.0, rw p.1 at (are_in_continues gs s r.1 p.0))

sequence-append : (f : Follow) (k : ℕ) (s b : List ℕ) → sequence_by f s ≡ suc k → sequence_by f (s ++ b) ≡ suc k
unfolding sequence_by
sequence-append nothing k s b e = e
sequence-append (these gs) k s b e = let p = sequence_in gs s k e in in_sequence gs (s ++ b) k (are_in_append gs s b p.0) p.1

sequence-cut : (f : Follow) (x k : ℕ) (a b : List ℕ) (c : ℕ) → Right x f → c < 128 → sequence_by f (a ++ (c ∷ b)) ≡ suc k → sequence_by f a ≡ suc k
unfolding sequence_by
sequence-cut nothing x k a b c r h e = e
sequence-cut (these gs) x k a b c r h e = let p = sequence_in gs (a ++ (c ∷ b)) k e in in_sequence gs a k (are_in_cut gs a b c h r.1 p.0) p.1

-- A valid text that is not empty begins with a sequence.
record Begins (b : ℕ) (s : List ℕ) : Type 0 where
  more : ℕ
  is : sequence_by (follow b) s ≡ suc more
  byte : b < 256
  continues : Continues more s
  rest : first_bad_from more s ≡ length s

begins : (b : ℕ) (s : List ℕ) → first_bad_from 0 (b ∷ s) ≡ length (b ∷ s) → Begins b s
begins b s h = go (sequence_by (follow b) s) refl
  where
    go : (n : ℕ) → sequence_by (follow b) s ≡ n → Begins b s
    go zero e = absurd (omega (arith, first-bad_stop b s e))
    go (suc k) e =
        let p = sequence_continues (follow b) b k s (follow_right b) e in
        record { more = k; is = e; byte = p.0; continues = p.1; rest = omega (arith, first-bad-on b k s e) }

-- The laws, for a text whose first k bytes end a sequence.
most-from : (k : ℕ) (s : List ℕ) → first_bad_from k s ≤ length s
unfolding first_bad_from
most-from k [] = omega arith
most-from (suc k) (b ∷ s) = omega (arith, most-from k s)
most-from zero (b ∷ s) = go (sequence_by (follow b) s) refl (λ k. most-from k s)
  where
    go : (n : ℕ) → sequence_by (follow b) s ≡ n → ((k : ℕ) → first_bad_from k s ≤ length s) → first_bad_from 0 (b ∷ s) ≤ length (b ∷ s)
    go zero e m = omega (arith, first-bad_stop b s e)
    go (suc k) e m = omega (arith, first-bad-on b k s e, m k)

bytes-from : (k : ℕ) (s : List ℕ) → Continues k s → first_bad_from k s ≡ length s → Bytes s
unfolding first_bad_from Bytes
bytes-from k [] c e = tt
bytes-from (suc k) (b ∷ s) c e = (omega arith, bytes-from k s c.2 (omega arith))
bytes-from zero (b ∷ s) c e = let w = begins b s e in (w.byte, bytes-from w.more s w.continues w.rest)

append-from : (k : ℕ) (a b : List ℕ) → Continues k a → first_bad_from k a ≡ length a → first_bad_from k (a ++ b) ≡ length a + first_bad_from 0 b
unfolding first_bad_from
append-from zero [] b c e = omega arith
append-from (suc k) [] b c e = absurd c
append-from (suc k) (x ∷ a) b c e = omega (arith, append-from k a b c.2 (omega arith))
append-from zero (x ∷ a) b c e =
    let w = begins x a e in
    omega (arith, first-bad-on x w.more (a ++ b) (sequence-append (follow x) w.more a b w.is), append-from w.more a b w.continues w.rest)

cut-from : (k : ℕ) (a b : List ℕ) (c : ℕ) → c < 128 → Continues k (a ++ (c ∷ b)) → first_bad_from k (a ++ (c ∷ b)) ≡ length (a ++ (c ∷ b))
    → (first_bad_from k a ≡ length a) × (first_bad_from 0 (c ∷ b) ≡ length (c ∷ b))
unfolding first_bad_from
cut-from zero [] b c h r e = (refl, e)
cut-from (suc k) [] b c h r e = absurd (omega arith)
cut-from (suc k) (x ∷ a) b c h r e = let p = cut-from k a b c h r.2 (omega arith) in (ap suc p.0, p.1)
cut-from zero (x ∷ a) b c h r e =
    let w = begins x (a ++ (c ∷ b)) e in
    let p = cut-from w.more a b c h w.continues w.rest in
    let q = sequence-cut (follow x) x w.more a b c (follow_right x) h w.is in
    (first-bad-on x w.more a q ∙ ap suc p.0, p.1)

-- a text is valid where no bad sequence stands before its end
pub valid : (s : List ℕ) → is_utf8 s ≡ true → first_bad_from 0 s ≡ length s
unfolding is_utf8 first_bad
valid s e = eqb-true (first_bad_from 0 s) (length s) e

pub is-valid : (s : List ℕ) → first_bad_from 0 s ≡ length s → is_utf8 s ≡ true
unfolding is_utf8 first_bad
is-valid s e = eq-eqb (first_bad_from 0 s) (length s) e

pub first-bad-most : (s : List ℕ) → first_bad s ≤ length s
unfolding first_bad
first-bad-most s = most-from 0 s

-- a valid front may be cut off
pub utf8_append : (a b : List ℕ) → is_utf8 a ≡ true → first_bad (a ++ b) ≡ length a + first_bad b
unfolding first_bad
utf8_append a b h = append-from 0 a b tt (valid a h)

pub utf8_join : (a b : List ℕ) → is_utf8 a ≡ true → is_utf8 b ≡ true → is_utf8 (a ++ b) ≡ true
utf8_join a b h i = is-valid (a ++ b) (append-from 0 a b tt (valid a h) ∙ ap (λ (n : ℕ). length a + n) (valid b i) ∙ sym (length-append a b))

pub utf8-bytes : (s : List ℕ) → is_utf8 s ≡ true → Bytes s
utf8-bytes s h = bytes-from 0 s tt (valid s h)

-- no sequence has an ASCII byte behind its first
pub utf8-ascii-cut : (a b : List ℕ) (c : ℕ) → c < 128 → is_utf8 (a ++ c ∷ b) ≡ true → (is_utf8 a ≡ true) × (is_utf8 (c ∷ b) ≡ true)
utf8-ascii-cut a b c l h = let p = cut-from 0 a b c l tt (valid (a ++ (c ∷ b)) h) in (is-valid a p.0, is-valid (c ∷ b) p.1)
