-- The shortest head: that it is written, and how it is that of the definitions.
-- Assumes nothing.
use mathlib.Core.Path.{◌≡◌, refl, sym, ap, ◌∙◌}
use mathlib.Core.List.{List, [], ◌∷◌, ◌++◌, append-nil, append_assoc}
use mathlib.Core.Bool.{Bool, true, false}
use Prim.Native.Nat.{ℕ, zero, suc, ◌+◌, ◌*◌, ◌-◌, ◌/◌, ◌%◌, ◌≤◌, ◌<◌, ◌^◌}
use native.Mathlib.Nat.{mul-one, mul_assoc, pow-suc}
use native.Mathlib.Omega.{arith}
use lib.ListN.{length, take}
use mir.Syntax.{w8 as bits8, w64 as bits64}
use mir.Val.{Fits}
use lib.Dec.{leb}
use borrow.Author.Tests.{le-leb, leb-true, leb-false, ne_eqb}
use Rattle.cbor.specs.Widths.{Width, w0, w1, w2, w4, w8, argument_bytes, limit, fits, shortest, information, big_endian}
use Rattle.cbor.specs.Heads.{Major, major_number, initial, head}
use Rattle.notation.specs.Indicators.{absent, choose}
use Rattle.notation_theorems.proofs.SoundToken.{choose-fits}
use Rattle.memory.specs.Buffer.{over_if_fits}
use Rattle.memory.proofs.Buffer.{take-written}
use Rattle.head.specs.HeadAnswers.{argument_size, head_bytes}
use Rattle.head.proofs.HeadCode.{head_bytes_lem}
use Rattle.encoding.specs.ReadAnswers.{HeadSize, Wrote}
use Rattle.encoding.proofs.ReadSmall.{info_0, head-short, head-some}
use Rattle.encoding.proofs.Wrote.{wrote-written, wrote-more}
use Rattle.cbor.proofs.Arguments.{length_big}
use Rattle.leaf_head.specs.HeadParts.{short_head, HeadMade, Above, steps, StepBytes, Fronted, Scales}

info_small : (n : ℕ) → n ≤ 23 → information (shortest n) n ≡ n
unfolding shortest fits limit information
info_small n h = rw (le-leb n 23 h, shortest)

-- a head of one byte
small : (i n : ℕ) → i % 32 ≤ 23 → head_bytes i n ≡ i ∷ []
unfolding head_bytes argument_size big_endian
small i n h =
    rw (ne_eqb (i % 32) 24 (λ q. omega arith), head_bytes, argument_size)
    (rw (ne_eqb (i % 32) 25 (λ q. omega arith)) (rw (ne_eqb (i % 32) 26 (λ q. omega arith)) (rw (ne_eqb (i % 32) 27 (λ q. omega arith)))))

pub single : (major n : ℕ) → n ≤ 23 → short_head major n ≡ (major * 32 + n) ∷ []
unfolding short_head
single major n h = ap (λ (x : ℕ). head_bytes (major * 32 + x) n) (info_small n h) ∙ small (major * 32 + n) n (omega arith)

pub short-head : (major n : ℕ) → length (short_head major n) ≤ 9
unfolding short_head
short-head major n = head-short (major * 32 + information (shortest n) n) n

written : {b b' : List ℕ} {pos r : ℕ} (major n : ℕ) → b' ≡ over_if_fits b pos (short_head major n) → r ≡ length (short_head major n) → n ≤ 0xffff_ffff_ffff_ffff → HeadMade b b' pos major n r
written {b} {b'} {pos} major n e z m = record { most = m; short = omega (arith, z, short-head major n); wrote = wrote-written e; sized = z; kept = ap (take pos) e ∙ take-written b pos (short_head major n) pos (omega arith) }

module _ {b b' : List ℕ} {pos major n : ℕ} where
  pub head-single : n ≤ 23 → b' ≡ over_if_fits b pos ((major * 32 + n) ∷ []) → HeadMade b b' pos major n 1
  head-single h e = let z = single major n h in written major n (e ∙ ap (over_if_fits b pos) (sym z)) (ap length (sym z)) (omega arith)

  pub head_more : {i r : ℕ} → n < 0x1_0000_0000_0000_0000 → i ≡ information (shortest n) n → b' ≡ over_if_fits b pos (head_bytes (major * 32 + i) n) → HeadSize (major * 32 + i) r → HeadMade b b' pos major n r
  unfolding short_head
  head_more {i} u e w z =
      written major n (w ∙ ap (λ (x : ℕ). over_if_fits b pos (head_bytes (major * 32 + x) n)) e) (z.is n ∙ ap (λ (x : ℕ). length (head_bytes (major * 32 + x) n)) e) (omega arith)

pub head_first : {major i : ℕ} (n : ℕ) → major ≤ 7 → i ≡ information (shortest n) n → Fits bits8 (major * 32 + i)
head_first n h e = record { fits = omega (arith, (info_0 {k = 0} {n = n} refl e).most) }

-- the head of the definitions
pub head-is : (m : Major) (n : ℕ) → n ≤ limit w8 → short_head (major_number m) n ≡ head m (shortest n) n
unfolding short_head initial choose
head-is m n h = sym (head_bytes_lem m (shortest n) n (choose-fits absent n h))

pub some-head : (major n : ℕ) → 0 < length (short_head major n)
unfolding short_head
some-head major n = head-some (major * 32 + information (shortest n) n) n

-- STEPS

pub step_is : (n : ℕ) {a b c d : ℕ} → Above n 23 a → Above n 0xff b → Above n 0xffff c → Above n 0xffff_ffff d → a + b + c + d ≡ steps (shortest n)
unfolding steps shortest fits limit
step_is n {a} {b} {c} {d} p q r t =
    go (leb n 23) refl (leb n 0xff) refl (leb n 0xffff) refl (leb n 0xffff_ffff) refl
  where
    go : (u : Bool) → leb n 23 ≡ u → (v : Bool) → leb n 0xff ≡ v → (x : Bool) → leb n 0xffff ≡ x → (y : Bool) → leb n 0xffff_ffff ≡ y
        → a + b + c + d ≡ steps (elim u [ true ↦ w0 | false ↦ elim v [ true ↦ w1 | false ↦ elim x [ true ↦ w2 | false ↦ elim y [ true ↦ w4 | false ↦ w8 ] ] ] ])
    go true e v f x g y h = let l = leb-true n 23 e in omega (arith, p.no l, q.no (omega arith), r.no (omega arith), t.no (omega arith))
    go false e true f x g y h = let l = leb-false n 23 e in let m = leb-true n 0xff f in omega (arith, p.yes l, q.no m, r.no (omega arith), t.no (omega arith))
    go false e false f true g y h = let l = leb-false n 0xff f in let m = leb-true n 0xffff g in omega (arith, p.yes (omega arith), q.yes l, r.no m, t.no (omega arith))
    go false e false f false g true h = let l = leb-false n 0xffff g in let m = leb-true n 0xffff_ffff h in omega (arith, p.yes (omega arith), q.yes (omega arith), r.yes l, t.no m)
    go false e false f false g false h = let l = leb-false n 0xffff_ffff h in omega (arith, p.yes (omega arith), q.yes (omega arith), r.yes (omega arith), t.yes l)

step-most : (w : Width) → steps w ≤ 4
unfolding steps
step-most w0 = omega arith
step-most w1 = omega arith
step-most w2 = omega arith
step-most w4 = omega arith
step-most w8 = omega arith

-- the width of a step
abbrev by_step : ℕ → Width
by_step zero = w0
by_step (suc zero) = w1
by_step (suc (suc zero)) = w2
by_step (suc (suc (suc zero))) = w4
by_step (suc (suc (suc (suc s)))) = w8

of_step : (P : Width → Type 0) (w : Width) → P (by_step (steps w)) → P w
unfolding steps
of_step P w0 p = p
of_step P w1 p = p
of_step P w2 p = p
of_step P w4 p = p
of_step P w8 p = p

-- what is so of the width of a step
at-step : {s : ℕ} (P : Width → Type 0) (k : ℕ) → s ≡ k → P (by_step k) → (w : Width) → s ≡ steps w → P w
at-step P k e p w f = of_step P w (rw (sym f ∙ e) p)

at_last : {s : ℕ} (P : Width → Type 0) → (s ≡ 0 → ⊥) → (s ≡ 1 → ⊥) → (s ≡ 2 → ⊥) → (s ≡ 3 → ⊥) → P w8 → (w : Width) → s ≡ steps w → P w
at_last P n₀ n₁ n₂ n₃ p w f = at-step P 4 (omega (arith, step-most w)) p w f

-- ADDITIONAL INFORMATION

module _ {s : ℕ} (n : ℕ) (e : s ≡ steps (shortest n)) where
  pub info_none : s ≡ 0 → n ≡ information (shortest n) n
  unfolding information
  info_none z = at-step (λ w. n ≡ information w n) 0 z refl (shortest n) e

  pub info_cast : s ≡ 0 → Fits bits8 n
  info_cast z = record { fits = omega (arith, (info_0 {k = 0} {n = n} refl (info_none z)).most) }

  pub info_some : (s ≡ 0 → ⊥) → 23 + s ≡ information (shortest n) n
  unfolding information
  info_some z = go s refl
    where
      go : (k : ℕ) → s ≡ k → 23 + s ≡ information (shortest n) n
      go zero f = absurd (z f)
      go (suc zero) f = at-step (λ w. 23 + s ≡ information w n) 1 f (omega arith) (shortest n) e
      go (suc (suc zero)) f = at-step (λ w. 23 + s ≡ information w n) 2 f (omega arith) (shortest n) e
      go (suc (suc (suc zero))) f = at-step (λ w. 23 + s ≡ information w n) 3 f (omega arith) (shortest n) e
      go (suc (suc (suc (suc k)))) f = at-step (λ w. 23 + s ≡ information w n) 4 (omega (arith, step-most (shortest n))) (omega (arith, step-most (shortest n))) (shortest n) e

  pub info_step : Fits bits8 s
  info_step = record { fits = omega (arith, step-most (shortest n)) }

  pub info_sum : Fits bits8 (23 + s)
  info_sum = record { fits = omega (arith, step-most (shortest n)) }

pub ruleset info_ways = (info_none, info_some)

pub ruleset info_fits = (info_cast, info_step, info_sum)

-- BYTES AND THEIR SCALE

module _ {s : ℕ} where
  pub bytes_0 : s ≡ 0 → StepBytes s 0
  unfolding argument_bytes
  bytes_0 e = record { is = at-step (λ w. 0 ≡ argument_bytes w) 0 e refl; most = omega arith }

  pub bytes_1 : s ≡ 1 → StepBytes s 1
  unfolding argument_bytes
  bytes_1 e = record { is = at-step (λ w. 1 ≡ argument_bytes w) 1 e refl; most = omega arith }

  pub bytes_2 : s ≡ 2 → StepBytes s 2
  unfolding argument_bytes
  bytes_2 e = record { is = at-step (λ w. 2 ≡ argument_bytes w) 2 e refl; most = omega arith }

  pub bytes_4 : s ≡ 3 → StepBytes s 4
  unfolding argument_bytes
  bytes_4 e = record { is = at-step (λ w. 4 ≡ argument_bytes w) 3 e refl; most = omega arith }

  pub bytes_8 : (s ≡ 0 → ⊥) → (s ≡ 1 → ⊥) → (s ≡ 2 → ⊥) → (s ≡ 3 → ⊥) → StepBytes s 8
  unfolding argument_bytes
  bytes_8 n₀ n₁ n₂ n₃ = record { is = at_last (λ w. 8 ≡ argument_bytes w) n₀ n₁ n₂ n₃ refl; most = omega arith }

pub ruleset bytes_ways = (bytes_0, bytes_1, bytes_2, bytes_4, bytes_8)

-- n with j bytes behind it
last-zero : (m x y : ℕ) → y ≡ x * 256 → big_endian (suc m) y ≡ big_endian m x ++ (0 ∷ [])
unfolding big_endian
last-zero m x y e =
    let q : y / 256 ≡ x = omega arith in
    let z : y % 256 ≡ 0 = omega arith in
    rw (q, z)

pub record Behind (m k n j : ℕ) : Type 0 where
  pub rest : List ℕ
  pub is : big_endian m (n * 256 ^ j) ≡ big_endian k n ++ rest

fronted : (k j n : ℕ) → Behind (j + k) k n j
fronted k zero n =
    let e : 0 + k ≡ k = omega arith in
    let f : n * 256 ^ 0 ≡ n = mul-one n in
    record { rest = []; is = rw (e, f) (sym (append-nil (big_endian k n))) }
fronted k (suc j) n =
    let i = fronted k j n in
    let e : suc j + k ≡ suc (j + k) = omega arith in
    let f : n * 256 ^ suc j ≡ n * 256 ^ j * 256 = ap (λ (x : ℕ). n * x) (pow-suc 256 j) ∙ sym (mul_assoc n (256 ^ j) 256) in
    record { rest = i.rest ++ (0 ∷ []); is = rw e (last-zero (j + k) (n * 256 ^ j) (n * 256 ^ suc j) f ∙ (rw i.is (append_assoc (big_endian k n) i.rest (0 ∷ [])))) }

fronts : (k j n : ℕ) → j + k ≡ 8 → Fronted k n (n * 256 ^ j)
fronts k j n e = let i = fronted k j n in record { rest = i.rest; is = rw e at i.is }

-- the additional information alone: all eight bytes are behind it
scaled_0 : (n r : ℕ) → Fronted 0 n (n * r)
unfolding big_endian
scaled_0 n r = record { rest = big_endian 8 (n * r); is = refl }

module _ {s : ℕ} where
  pub scale_0 : s ≡ 0 → Scales s 0x100_0000_0000_0000
  unfolding limit argument_bytes
  scale_0 e = record { fits = at-step (λ w. (n : ℕ) → n ≤ limit w → n * 0x100_0000_0000_0000 < 0x1_0000_0000_0000_0000) 0 e (λ n l. omega arith); fronts = at-step (λ w. (n : ℕ) → Fronted (argument_bytes w) n (n * 0x100_0000_0000_0000)) 0 e (λ n. scaled_0 n 0x100_0000_0000_0000) }

  pub scale_1 : s ≡ 1 → Scales s 0x100_0000_0000_0000
  unfolding limit argument_bytes
  scale_1 e = record { fits = at-step (λ w. (n : ℕ) → n ≤ limit w → n * 0x100_0000_0000_0000 < 0x1_0000_0000_0000_0000) 1 e (λ n l. omega arith); fronts = at-step (λ w. (n : ℕ) → Fronted (argument_bytes w) n (n * 0x100_0000_0000_0000)) 1 e (λ n. fronts 1 7 n refl) }

  pub scale_2 : s ≡ 2 → Scales s 0x1_0000_0000_0000
  unfolding limit argument_bytes
  scale_2 e = record { fits = at-step (λ w. (n : ℕ) → n ≤ limit w → n * 0x1_0000_0000_0000 < 0x1_0000_0000_0000_0000) 2 e (λ n l. omega arith); fronts = at-step (λ w. (n : ℕ) → Fronted (argument_bytes w) n (n * 0x1_0000_0000_0000)) 2 e (λ n. fronts 2 6 n refl) }

  pub scale_4 : s ≡ 3 → Scales s 0x1_0000_0000
  unfolding limit argument_bytes
  scale_4 e = record { fits = at-step (λ w. (n : ℕ) → n ≤ limit w → n * 0x1_0000_0000 < 0x1_0000_0000_0000_0000) 3 e (λ n l. omega arith); fronts = at-step (λ w. (n : ℕ) → Fronted (argument_bytes w) n (n * 0x1_0000_0000)) 3 e (λ n. fronts 4 4 n refl) }

  pub scale_8 : (s ≡ 0 → ⊥) → (s ≡ 1 → ⊥) → (s ≡ 2 → ⊥) → (s ≡ 3 → ⊥) → Scales s 1
  unfolding limit argument_bytes
  scale_8 n₀ n₁ n₂ n₃ = record { fits = at_last (λ w. (n : ℕ) → n ≤ limit w → n * 1 < 0x1_0000_0000_0000_0000) n₀ n₁ n₂ n₃ (λ n l. omega arith); fronts = at_last (λ w. (n : ℕ) → Fronted (argument_bytes w) n (n * 1)) n₀ n₁ n₂ n₃ (λ n. fronts 8 0 n refl) }

pub ruleset scale_ways = (scale_0, scale_1, scale_2, scale_4, scale_8)

-- THE HEAD, with more bytes behind it

-- of what was written, the front alone
pub wrote-front_of : {b b' : List ℕ} {p : ℕ} (ws vs : List ℕ) → Wrote b b' p (ws ++ vs) → p + length (ws ++ vs) ≤ length b → Wrote b b' p ws
wrote-front_of {b} {b'} {p} ws vs h f = record { same = h.same; behind = vs ++ h.behind; is = λ g. h.is f ∙ ap (λ (l : List ℕ). take p b ++ l) (append_assoc ws vs h.behind) }

size-by : (w : Width) (n : ℕ) → n ≤ limit w → argument_size (information w n) ≡ argument_bytes w
unfolding argument_size information argument_bytes limit
size-by w0 n h =
    rw (ne_eqb n 24 (λ q. omega arith), argument_size) (rw (ne_eqb n 25 (λ q. omega arith)) (rw (ne_eqb n 26 (λ q. omega arith)) (rw (ne_eqb n 27 (λ q. omega arith)))))
size-by w1 n h = refl
size-by w2 n h = refl
size-by w4 n h = refl
size-by w8 n h = refl

module _ {n step : ℕ} (l : n < 0x1_0000_0000_0000_0000) (s : step ≡ steps (shortest n)) where
  fit : n ≤ limit (shortest n)
  unfolding choose limit
  fit = choose-fits absent n (omega arith)

  pub head_scaled : {r : ℕ} → Scales step r → Fits bits64 (n * r)
  head_scaled x = record { fits = x.fits (shortest n) s n fit }

  pub head-wide : {b b₁ b₂ : List ℕ} {pos major info k r : ℕ} → 9 ≤ length b → pos ≤ length b - 9 → info ≡ information (shortest n) n → b₁ ≡ over_if_fits b pos ((major * 32 + info) ∷ []) → Scales step r
      → b₂ ≡ over_if_fits b₁ (pos + 1) (big_endian 8 (n * r)) → StepBytes step k → HeadMade b b₂ pos major n (1 + k)
  unfolding short_head head_bytes
  head-wide {b} {b₁} {b₂} {pos} {major} {info} {k} {r} h p i e x f y =
      let w = shortest n in
      let v = major * 32 + info in
      let c = x.fronts w s n in
      let m : info ≤ 31 = (info_0 {k = 0} {n = n} refl i).most in
      let z : v % 32 ≡ info = omega arith in
      let t : short_head major n ≡ v ∷ big_endian (argument_bytes w) n = ap (λ (a : ℕ). head_bytes (major * 32 + a) n) (sym i) ∙ ap (λ (a : ℕ). v ∷ big_endian a n) (ap argument_size (z ∙ i) ∙ size-by w n fit) in
      let u : Wrote b b₂ pos (v ∷ big_endian 8 (n * r)) = wrote-more (wrote-written e) (wrote-written f) refl in
      let g : length (v ∷ big_endian 8 (n * r)) ≡ 9 = ap suc (length_big 8 (n * r)) in
      let j : pos + length ((v ∷ big_endian (argument_bytes w) n) ++ c.rest) ≤ length b = rw (← c.is) (omega (arith, g)) in
      record {
        wrote = rw t (wrote-front_of (v ∷ big_endian (argument_bytes w) n) c.rest (rw c.is at u) j);
        sized = omega (arith, ap length t, length_big (argument_bytes w) n, y.is w s);
        short = omega (arith, ap length t, length_big (argument_bytes w) n, y.is w s, short-head major n);
        kept = ap (take pos) f ∙ (take-written b₁ (pos + 1) (big_endian 8 (n * r)) pos (omega arith) ∙ (ap (take pos) e ∙ take-written b pos (v ∷ []) pos (omega arith)));
        most = omega arith;
      }
