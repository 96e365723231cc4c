-- The reader's small functions: a lemma for each way that one returns.
-- Assumes nothing.
use mathlib.Core.Path.{◌≡◌, refl, sym, ap, ◌∙◌}
use mathlib.Core.Bool.{Bool, true, false}
use mathlib.Core.List.{List, [], ◌∷◌, ◌++◌}
use Prim.Native.Nat.{ℕ, ◌+◌, ◌-◌, ◌*◌, ◌%◌, ◌≤◌, ◌<◌}
use native.Mathlib.Omega.{arith}
use lib.Dec.{leb}
use lib.ListN.{length}
use mir.Syntax.{w8 as bits8, w64 as bits64}
use mir.Val.{Fits}
use borrow.Author.Tests.{le-leb, eq-eqb, ne_eqb}
use Rattle.cbor.specs.Refusals.{bad_indicator}
use Rattle.cbor.specs.Widths.{w0, w1, w2, w4, w8, limit, fits, shortest, information, big_endian}
use Rattle.refusal.specs.RefusalKinds.{kind_number, Kinded}
use Rattle.memory.specs.Buffer.{over_if_fits, moved, head_put}
use Rattle.head.specs.HeadAnswers.{argument_size, head_bytes}
use Rattle.refusal.specs.declared.RefusalKind.{RefusalKind}
use Rattle.cbor.proofs.Arguments.{length_big}
use Rattle.cbor.proofs.Tests.{clash}
use Rattle.head.proofs.HeadCode.{size_none, size-most}
use Rattle.numbers.specs.NumberAnswers.{choose_by}
use Rattle.encoding.specs.ReadAnswers.{verdict_by, info_by, Informed, major_by, initial_by, MajorBy, HeadSize, stray_by, Heavy, Light, Few, IsShort, Wrote, Strayed, Denies, Closes, Finished, FinishedShort}
use Rattle.token.specs.TokenAnswers.{width_number}
use Rattle.token.specs.declared.Token.{Token as Cut}
use Rattle.encoding.proofs.Wrote.{wrote-front, wrote-closed, wrote-moved}
use Rattle.std.specs.Prelude.{Ok, Err}
use Rattle.std.specs.Prelude as std
use Rattle.encoding.specs.declared.answer.MadeItem.{MadeItem}
use Rattle.refusal.specs.declared.Refusal.{Refusal}

-- THE MAJOR TYPE
module _ {c : ℕ} where
  pub major_1 : c ≡ 1 → MajorBy c 0
  unfolding major_by
  major_1 e = rw e (record { is = refl; most = omega arith })

  pub major_2 : c ≡ 2 → MajorBy c 1
  unfolding major_by
  major_2 e = rw e (record { is = refl; most = omega arith })

  pub major_3 : c ≡ 3 → MajorBy c 7
  unfolding major_by
  major_3 e = rw e (record { is = refl; most = omega arith })

  pub major_4 : c ≡ 4 → MajorBy c 3
  unfolding major_by
  major_4 e = rw e (record { is = refl; most = omega arith })

  pub major_5 : c ≡ 5 → MajorBy c 2
  unfolding major_by
  major_5 e = rw e (record { is = refl; most = omega arith })

  pub major_6 : (c ≡ 1 → ⊥) → (c ≡ 2 → ⊥) → (c ≡ 3 → ⊥) → (c ≡ 4 → ⊥) → (c ≡ 5 → ⊥) → MajorBy c 6
  unfolding major_by
  major_6 n1 n2 n3 n4 n5 = record { is = simp (major_by, ne_eqb c 1 n1, ne_eqb c 2 n2, ne_eqb c 3 n3, ne_eqb c 4 n4, ne_eqb c 5 n5); most = omega arith }

pub ruleset major_ways = (major_1, major_2, major_3, major_4, major_5, major_6)

-- ADDITIONAL INFORMATION
pub short-most : (n : ℕ) → information (shortest n) n ≤ 27
unfolding shortest fits limit information
short-most n = go (leb n 23) refl (leb n 0xff) (leb n 0xffff) (leb n 0xffff_ffff)
  where
    go : (t : Bool) → leb n 23 ≡ t → (u v x : Bool)
        → information (elim t [ true ↦ w0 | false ↦ elim u [ true ↦ w1 | false ↦ elim v [ true ↦ w2 | false ↦ elim x [ true ↦ w4 | false ↦ w8 ] ] ] ]) n ≤ 27
    go true e u v x = omega (arith, borrow.Author.Tests.leb-true n 23 e)
    go false e true v x = omega arith
    go false e false true x = omega arith
    go false e false false true = omega arith
    go false e false false false = omega arith

module _ {k n : ℕ} where
  pub info_0 : {r : ℕ} → k ≡ 0 → r ≡ information (shortest n) n → Informed k n r
  unfolding info_by
  info_0 e f = rw e (record { is = f; most = omega (arith, f, short-most n) })

  pub info_1 : k ≡ 1 → Informed k n 31
  unfolding info_by
  info_1 e = rw e (record { is = refl; most = omega arith })

  pub info_3 : k ≡ 3 → Informed k n (n % 32)
  unfolding info_by
  info_3 e = rw e (record { is = refl; most = omega arith })

  pub info_4 : k ≡ 4 → Informed k n 24
  unfolding info_by
  info_4 e = rw e (record { is = refl; most = omega arith })

  pub info_5 : k ≡ 5 → Informed k n 25
  unfolding info_by
  info_5 e = rw e (record { is = refl; most = omega arith })

  pub info_6 : k ≡ 6 → Informed k n 26
  unfolding info_by
  info_6 e = rw e (record { is = refl; most = omega arith })

  pub info_7 : (k ≡ 0 → ⊥) → (k ≡ 1 → ⊥) → (k ≡ 3 → ⊥) → (k ≡ 4 → ⊥) → (k ≡ 5 → ⊥) → (k ≡ 6 → ⊥) → Informed k n 27
  unfolding info_by
  info_7 n0 n1 n3 n4 n5 n6 = record { is = simp (info_by, ne_eqb k 0 n0, ne_eqb k 1 n1, ne_eqb k 3 n3, ne_eqb k 4 n4, ne_eqb k 5 n5, ne_eqb k 6 n6); most = omega arith }

pub ruleset info_ways = (info_0, info_1, info_3, info_4, info_5, info_6, info_7)

-- HEADS
pub size_fits : {r : ℕ} (i : ℕ) → r ≡ argument_size i → Fits bits64 (r + 1)
size_fits i e = record { fits = omega (arith, e, size-most i) }

pub length-head : (i n : ℕ) → length (head_bytes i n) ≡ argument_size (i % 32) + 1
unfolding head_bytes
length-head i n = omega (arith, length_big (argument_size (i % 32)) n)

pub head-short : (i n : ℕ) → length (head_bytes i n) ≤ 9
head-short i n = omega (arith, length-head i n, size-most (i % 32))

pub head-some : (i n : ℕ) → 0 < length (head_bytes i n)
head-some i n = omega (arith, length-head i n)

pub size_is : {i r : ℕ} → r ≡ argument_size (i % 32) → HeadSize i (r + 1)
size_is {i} e = record { is = λ n. omega (arith, e, length-head i n); most = omega (arith, e, size-most (i % 32)) }

module _ {c k n major info : ℕ} (a : MajorBy c major) (b : Informed k n info) where
  pub initial_mul : Fits bits8 (major * 32)
  initial_mul = record { fits = omega (arith, a.most) }

  pub initial_add : Fits bits8 (major * 32 + info)
  initial_add = record { fits = omega (arith, a.most, b.most) }

pub initial-is : {major info : ℕ} (t : Cut) → MajorBy t.kind major → Informed t.indicator t.argument info → major * 32 + info ≡ initial_by t
unfolding initial_by
initial-is t a b = rw (a.is, b.is)

-- REFUSALS AND ANSWERS
pub denies_is : {k : RefusalKind} {at : ℕ} → Denies (kind_number k) at (Err (record { kind = k; place = at }))
unfolding verdict_by
denies_is = record { is = refl }

pub strayed-is : {d k : ℕ} {t : Cut} {kind : RefusalKind} → k ≡ stray_by d t.kind t.refusal t.indicator → Kinded k kind → Strayed d t (Err (record { kind = kind; place = t.place }))
unfolding verdict_by
strayed-is {kind = kind} e h = record { number = kind_number kind; is = refl; known = λ l m. h.is (rw e l) (rw e m) ∙ e }

module _ (d code refusal mark : ℕ) where
  pub stray-none : code ≡ 0 → refusal ≡ stray_by d code refusal mark
  unfolding stray_by
  stray-none e = rw e

  module _ (n0 : code ≡ 0 → ⊥) where
    pub stray_angle_1 : code ≡ 20 → mark ≡ 1 → 9 ≡ stray_by d code refusal mark
    unfolding stray_by
    stray_angle_1 e f = rw (e, f)

    pub stray_angle_2 : code ≡ 20 → mark ≡ 2 → 9 ≡ stray_by d code refusal mark
    unfolding stray_by
    stray_angle_2 e f = rw (e, f)

    pub stray_angle : code ≡ 20 → (mark ≡ 1 → ⊥) → (mark ≡ 2 → ⊥) → 11 ≡ stray_by d code refusal mark
    unfolding stray_by
    stray_angle e n1 n2 = simp (stray_by, ne_eqb code 0 n0, eq-eqb code 20 e, ne_eqb mark 1 n1, ne_eqb mark 2 n2)

    module _ (n20 : code ≡ 20 → ⊥) where
      pub stray_plain : (d ≡ 0 → ⊥) → 11 ≡ stray_by d code refusal mark
      unfolding stray_by
      stray_plain nd = simp (stray_by, ne_eqb code 0 n0, ne_eqb code 20 n20, ne_eqb d 0 nd)

      module _ (z : d ≡ 0) where
        pub stray_6 : code ≡ 6 → 10 ≡ stray_by d code refusal mark
        unfolding stray_by
        stray_6 e = rw (e, z)

        pub stray_15 : code ≡ 15 → 10 ≡ stray_by d code refusal mark
        unfolding stray_by
        stray_15 e = rw (e, z)

        pub stray_17 : code ≡ 17 → 10 ≡ stray_by d code refusal mark
        unfolding stray_by
        stray_17 e = rw (e, z)

        pub stray_19 : code ≡ 19 → 10 ≡ stray_by d code refusal mark
        unfolding stray_by
        stray_19 e = rw (e, z)

        pub stray-rest : (code ≡ 6 → ⊥) → (code ≡ 15 → ⊥) → (code ≡ 17 → ⊥) → (code ≡ 19 → ⊥) → 11 ≡ stray_by d code refusal mark
        unfolding stray_by
        stray-rest n6 n15 n17 n19 = simp (stray_by, ne_eqb code 0 n0, ne_eqb code 20 n20, eq-eqb d 0 z, ne_eqb code 6 n6, ne_eqb code 15 n15, ne_eqb code 17 n17, ne_eqb code 19 n19)

pub ruleset stray_ways = (stray-none, stray_angle_1, stray_angle_2, stray_angle, stray_plain, stray_6, stray_15, stray_17, stray_19, stray-rest)

-- CONTAINERS
pub one_byte : (i n : ℕ) → length (head_bytes i n) ≡ 1 → head_bytes i n ≡ i ∷ []
unfolding head_bytes
one_byte i n e = ap (λ (l : List ℕ). i ∷ l) (nothing (big_endian (argument_size (i % 32)) n) (omega arith))
  where
    nothing : (l : List ℕ) → length l ≡ 0 → l ≡ []
    nothing [] z = refl
    nothing (x ∷ l) z = absurd (omega arith)

module _ {b b' : List ℕ} {pos first size r : ℕ} (n : ℕ) (h : HeadSize first r) where
  pub before-short : r ≡ 1 → b' ≡ over_if_fits b pos (first ∷ []) → Closes b b' pos (head_bytes first n) size 1
  before-short e f =
      let l : length (head_bytes first n) ≡ 1 = sym (h.is n) ∙ e in
      record { is = λ b₀ ws w z. rw (one_byte first n l) (wrote-front w f); sized = sym l }

  pub before_long : b' ≡ head_put b pos (head_bytes first n) size → Closes b b' pos (head_bytes first n) size r
  before_long f = record { is = λ b₀ ws w z. wrote-closed (head_bytes first n) (head-some first n) w z f; sized = h.is n }

pub ruleset before_ways = (before-short, before_long)

module _ {b : List ℕ} {pos room major indicator n next size place width : ℕ} {binary : Bool} {length' : ℕ} {a : std.Result MadeItem Refusal} (c : width ≡ choose_by indicator n) where
  pub finish_none : width ≡ 0 → Denies bad_indicator place a → Finished b b pos room major indicator n next size place binary length' a
  finish_none e f = record { refused = λ z. f; made = λ k. absurd (k (sym c ∙ e)); closed = λ k. absurd (k (sym c ∙ e)) }

  -- a head of `head` bytes, of the additional information that goes with the width
  finish_by : {b' : List ℕ} {info head : ℕ} → (width ≡ 0 → ⊥) → Informed width n info → head ≡ length (head_bytes (major * 32 + info) n)
      → ((b₀ ws : List ℕ) → Wrote b₀ b (pos + room) ws → size ≡ length ws → (length (head_bytes (major * 32 + info) n) < room → pos + room + size ≤ length b) → Wrote b₀ b' pos (head_bytes (major * 32 + info) n ++ ws))
      → a ≡ Ok (record { next = next; size = head + size; count = 1; indicator = 0; binary = binary; length = length' }) → Finished b b' pos room major indicator n next size place binary length' a
  finish_by {b'} {info} {head} k i h w f =
      let j : info ≡ info_by (choose_by indicator n) n = i.is ∙ ap (λ (w : ℕ). info_by w n) c in
      let q : head ≡ length (head_bytes (major * 32 + info_by (choose_by indicator n) n) n) = h ∙ ap (λ (x : ℕ). length (head_bytes (major * 32 + x) n)) j in
      record {
        refused = λ z. absurd (k (c ∙ z));
        made = λ z. f ∙ ap (λ (x : ℕ). Ok (record { next = next; size = x + size; count = 1; indicator = 0; binary = binary; length = length' })) q;
        closed = λ z b₀ ws u e far. rw j at (w b₀ ws u e (rw (← j) at far));
      }

module _ {b b' : List ℕ} {pos major indicator n next size place width info head : ℕ} {binary : Bool} {length' : ℕ} {a : std.Result MadeItem Refusal} (c : width ≡ choose_by indicator n) (k : width ≡ 0 → ⊥) (i : Informed width n info) where
  pub finish_done : Closes b b' pos (head_bytes (major * 32 + info) n) size head
      → a ≡ Ok (record { next = next; size = head + size; count = 1; indicator = 0; binary = binary; length = length' }) → Finished b b' pos 1 major indicator n next size place binary length' a
  finish_done h f = finish_by c k i h.sized (λ b₀ ws w e far. h.is b₀ ws w e) f

  -- behind any room: what was read is moved to where the head ends
  pub enclose_done : {b₁ : List ℕ} {room : ℕ} → HeadSize (major * 32 + info) head → b₁ ≡ moved b (pos + room) (pos + head) size → b' ≡ over_if_fits b₁ pos (head_bytes (major * 32 + info) n)
      → a ≡ Ok (record { next = next; size = head + size; count = 1; indicator = 0; binary = binary; length = length' }) → Finished b b' pos room major indicator n next size place binary length' a
  enclose_done {room = room} h m w f =
      let q : head ≡ length (head_bytes (major * 32 + info) n) = h.is n in
      finish_by c k i q (λ b₀ ws u e far. wrote-moved (head_bytes (major * 32 + info) n) u e (m ∙ ap (λ (x : ℕ). moved b (pos + room) (pos + x) size) q) w far) f

pub ruleset finish_ways = (finish_none, finish_done)

pub ruleset enclose_ways = (finish_none, enclose_done)

-- FEW THINGS
pub short_not : {indicator count : ℕ} → IsShort indicator count false
short_not = record { none = λ e. absurd (clash (sym e)); few = λ e. absurd (clash (sym e)) }

module _ {n : ℕ} (f : Few n) where
  few-width : shortest n ≡ w0
  unfolding shortest fits limit
  few-width = rw (le-leb n 23 (omega (arith, f.most)), shortest)

  few_choice : 3 ≡ choose_by 0 n
  unfolding choose_by width_number
  few_choice = sym (ap width_number few-width)

  few_informed : Informed 3 n n
  unfolding info_by
  few_informed = record { is = omega (arith, f.most); most = omega (arith, f.most) }

  few-size : (major : ℕ) → HeadSize (major * 32 + n) 1
  few-size major =
      let e : (major * 32 + n) % 32 ≡ n = omega (arith, f.most) in
      size_is (size_none n (λ z. omega (arith, f.most)) (λ z. omega (arith, f.most)) (λ z. omega (arith, f.most)) (λ z. omega (arith, f.most)) ∙ ap argument_size (sym e))

  pub short_cast : Fits bits8 n
  short_cast = record { fits = omega (arith, f.most) }

  pub short-first : {major size : ℕ} → Heavy major size → Fits bits8 (major * 32 + n)
  short-first h = record { fits = omega (arith, f.most, h.most) }

  pub short-done : {b b' : List ℕ} {pos next size : ℕ} {a : std.Result MadeItem Refusal} (major : ℕ) → b' ≡ over_if_fits b pos ((major * 32 + n) ∷ []) → a ≡ Ok (record { next = next; size = size + 1; count = 1; indicator = 0; binary = false; length = 0 })
      → FinishedShort b b' pos major n next size a
  short-done {next = next} {size = size} major w e =
      let q : size + 1 ≡ 1 + size = omega arith in
      record {
        is = λ place.
            finish_done few_choice (λ z. omega arith) few_informed (before-short n (few-size major) refl w)
            (e ∙ ap (λ (x : ℕ). Ok (record { next = next; size = x; count = 1; indicator = 0; binary = false; length = 0 })) q);
      }

pub short-size : {major size : ℕ} → Heavy major size → Fits bits64 (size + 1)
short-size h = record { fits = omega (arith, h.fits) }

-- ROOM
module _ {pos room size : ℕ} (h : Heavy room size) (l : Light pos) where
  pub room-place : Fits bits64 (pos + room)
  room-place = record { fits = omega (arith, h.most, l.fits) }

  pub head-place : {i r : ℕ} → HeadSize i r → Fits bits64 (pos + r)
  head-place s = record { fits = omega (arith, s.most, l.fits) }

  pub enclose_size : {i r : ℕ} → HeadSize i r → Fits bits64 (r + size)
  enclose_size s = record { fits = omega (arith, s.most, h.fits) }

pub finish_first : {major size width n info : ℕ} → Heavy major size → Informed width n info → Fits bits8 (major * 32 + info)
finish_first h i = record { fits = omega (arith, h.most, i.most) }

pub heavy_mul : {major size : ℕ} → Heavy major size → Fits bits8 (major * 32)
heavy_mul h = record { fits = omega (arith, h.most) }

pub finish_size : {b b' : List ℕ} {pos major size r : ℕ} (i n : ℕ) → Heavy major size → Closes b b' pos (head_bytes i n) size r → Fits bits64 (r + size)
finish_size i n h s = record { fits = omega (arith, h.fits, s.sized, head-short i n) }
