-- Heads: reading one that was written gives it back, and whatever is read as a head was written so.
use Prim.Native.Nat.{ℕ, zero, suc, ◌+◌, ◌-◌, ◌*◌, ◌/◌, ◌%◌, ◌^◌, ◌≤◌, ◌<◌}
use native.Mathlib.Omega.{arith}
use mathlib.Core.Path.{◌≡◌, refl, sym, ap, ◌∙◌}
use mathlib.Core.Bool.{Bool, true, false}
use mathlib.Core.List.{List, [], ◌∷◌, ◌++◌}
use lib.Dec.{leb}
use lib.ListN.{length, take, drop, get_or, length-append, take-append-drop}
use lib.Seq.{take_at, drop_at, length-take-le}
use borrow.Author.Tests.{le-leb, leb-true, leb-false}
use Rattle.cbor.specs.Refusals.{Result, ok, refuse, bind, ends_inside}
use Rattle.cbor.specs.Widths.{Width, w0, w1, w2, w4, w8, argument_bytes, limit, information, big_endian, value_from}
use Rattle.cbor.specs.Items.{unsigned, negative, byte_string, text_string, Size, definite, indefinite}
use Rattle.cbor.specs.Heads.{Major, integers, strings, arrays, maps, tags, simples, major_number, major_of, initial, head, Head, Information, argument, reserved, open_ended, information_of, is_float, is_allowed, is_indefinite, taking, started, argued, head_by, next_head}
use Rattle.cbor.specs.Encode.{opening_head}
use Rattle.cbor.specs.Valid.{Bytes, Fits}
use Rattle.cbor.proofs.Arguments.{length_big, value-argument, big_value, value-below}

-- THE INITIAL BYTE

pub major-back : (m : Major) → major_of (major_number m) ≡ m
unfolding major_of major_number
major-back (integers unsigned) = refl
major-back (integers negative) = refl
major-back (strings byte_string) = refl
major-back (strings text_string) = refl
major-back arrays = refl
major-back maps = refl
major-back tags = refl
major-back simples = refl

pub major-most : (m : Major) → major_number m ≤ 7
unfolding major_number
major-most (integers unsigned) = omega arith
major-most (integers negative) = omega arith
major-most (strings byte_string) = omega arith
major-most (strings text_string) = omega arith
major-most arrays = omega arith
major-most maps = omega arith
major-most tags = omega arith
major-most simples = omega arith

pub information-most : (w : Width) (n : ℕ) → n ≤ limit w → information w n ≤ 27
unfolding information limit
information-most w0 n h = omega arith
information-most w1 n h = omega arith
information-most w2 n h = omega arith
information-most w4 n h = omega arith
information-most w8 n h = omega arith

information-back : (w : Width) (n : ℕ) → n ≤ limit w → information_of (information w n) ≡ argument w
unfolding information_of information limit
information-back w0 n h = rw (le-leb n 23 h, information_of)
information-back w1 n h = refl
information-back w2 n h = refl
information-back w4 n h = refl
information-back w8 n h = refl

-- the initial byte taken apart
major_of_lem : (m : Major) (i : ℕ) → i < 32 → major_of (initial m i / 32) ≡ m
unfolding initial
major_of_lem m i h = let e : (major_number m * 32 + i) / 32 ≡ major_number m = omega arith in rw e (major-back m)

information_of_lem : (m : Major) (i : ℕ) → i < 32 → initial m i % 32 ≡ i
unfolding initial
information_of_lem m i h = omega arith

-- READING WHAT WAS WRITTEN

pub taking-yes : (k left : ℕ) (s : List ℕ) → k ≤ length s → taking k left s ≡ ok (take k s) (drop k s)
unfolding taking
taking-yes k left s h = rw (le-leb k (length s) h, taking)

pub taking-all : (k left : ℕ) (b r : List ℕ) → length b ≡ k → taking k left (b ++ r) ≡ ok b r
taking-all k left b r e =
    let h : k ≤ length (b ++ r) = simp length-append (omega arith) in
    taking-yes k left (b ++ r) h ∙ rw (take_at b r k e, drop_at b r k e)

started-value : (w : Width) (n : ℕ) → n ≤ limit w → value_from (started w (information w n)) (big_endian (argument_bytes w) n) ≡ n
unfolding information
started-value w0 n h = value-argument w0 n h n
started-value w1 n h = value-argument w1 n h 24
started-value w2 n h = value-argument w2 n h 25
started-value w4 n h = value-argument w4 n h 26
started-value w8 n h = value-argument w8 n h 27

pub head_read : (m : Major) (w : Width) (n : ℕ) (r : List ℕ) → n ≤ limit w → is_float m w ≡ false → is_allowed m w n ≡ true
    → next_head (head m w n ++ r) ≡ ok (record { major = m; size = definite w; argument = n }) r
unfolding next_head head head_by argued bind
head_read m w n r h f a =
    let i : information w n < 32 = omega (arith, information-most w n h) in
    let t = taking-all (argument_bytes w) (suc (length (big_endian (argument_bytes w) n ++ r))) (big_endian (argument_bytes w) n) r (length_big (argument_bytes w) n) in
    rw (major_of_lem m (information w n) i, information_of_lem m (information w n) i, information-back w n h)
    (rw (f, head_by) (rw (t, started-value w n h) (rw (a, argued))))

pub opening_read : (m : Major) (r : List ℕ) → is_indefinite m ≡ true → next_head (initial m 31 ∷ r) ≡ ok (record { major = m; size = indefinite; argument = 0 }) r
unfolding next_head information_of head_by
opening_read m r e = rw (major_of_lem m 31 (omega arith), information_of_lem m 31 (omega arith)) (rw (e, head_by))

-- WHAT WAS READ WAS WRITTEN SO

pub bytes_cut : (k : ℕ) (s : List ℕ) → Bytes s → Bytes (take k s) × Bytes (drop k s)
unfolding Bytes
bytes_cut zero s u = (tt, u)
bytes_cut (suc k) [] u = (tt, tt)
bytes_cut (suc k) (b ∷ s) u = let c = bytes_cut k s u.1 in ((u.0, c.0), c.1)

-- b was taken off the front of s, k bytes
pub record Taken (k : ℕ) (s b r : List ℕ) : Type 0 where
  pub is : s ≡ b ++ r
  pub long : length b ≡ k
  pub bytes : Bytes b
  pub rest : Bytes r

abbrev pub TakenWell : ℕ → List ℕ → Result (List ℕ) → Type 0
TakenWell k s (ok b r) = Taken k s b r
TakenWell k s (refuse n left) = Unit

pub taking_well : (k left : ℕ) (s : List ℕ) → Bytes s → TakenWell k s (taking k left s)
unfolding taking
taking_well k left s u = go (leb k (length s)) refl
  where
    go : (v : Bool) → leb k (length s) ≡ v → TakenWell k s (elim v [ true ↦ ok (take k s) (drop k s) | false ↦ refuse ends_inside left ])
    go true e =
        let c = bytes_cut k s u in
        record { is = sym (take-append-drop k s); long = length-take-le k s (leb-true k (length s) e); bytes = c.0; rest = c.1 }
    go false e = tt

-- a head that may stand: no float, no short form written long, an indefinite length where there is one
abbrev pub Legal : Major → Size → ℕ → Type 0
Legal m (definite w) n = (is_float m w ≡ false) × (is_allowed m w n ≡ true)
Legal m indefinite n = is_indefinite m ≡ true

pub record HeadWritten (s : List ℕ) (h : Head) (r : List ℕ) : Type 0 where
  pub is : s ≡ opening_head h.major h.size h.argument ++ r
  pub fit : Fits h.size h.argument
  pub legal : Legal h.major h.size h.argument
  pub rest : Bytes r

abbrev pub HeadWell : List ℕ → Result Head → Type 0
HeadWell s (ok h r) = HeadWritten s h r
HeadWell s (refuse n left) = Unit

major-number : (k : ℕ) → k < 8 → major_number (major_of k) ≡ k
unfolding major_number major_of
major-number zero h = refl
major-number (suc zero) h = refl
major-number (suc (suc zero)) h = refl
major-number (suc (suc (suc zero))) h = refl
major-number (suc (suc (suc (suc zero)))) h = refl
major-number (suc (suc (suc (suc (suc zero))))) h = refl
major-number (suc (suc (suc (suc (suc (suc zero)))))) h = refl
major-number (suc (suc (suc (suc (suc (suc (suc n))))))) h = omega arith

-- the additional information that says a thing
abbrev Says : ℕ → Information → Type 0
Says i (argument w0) = i ≤ 23
Says i (argument w1) = i ≡ 24
Says i (argument w2) = i ≡ 25
Says i (argument w4) = i ≡ 26
Says i (argument w8) = i ≡ 27
Says i reserved = Unit
Says i open_ended = i ≡ 31

says : (i : ℕ) → i < 32 → Says i (information_of i)
unfolding information_of
says i h = go (leb i 23) refl
  where
    far : (j : ℕ) → i ≡ 24 + j → Says i (get_or (argument w1 ∷ argument w2 ∷ argument w4 ∷ argument w8 ∷ reserved ∷ reserved ∷ reserved ∷ []) j open_ended)
    far zero e = e
    far (suc zero) e = e
    far (suc (suc zero)) e = e
    far (suc (suc (suc zero))) e = e
    far (suc (suc (suc (suc zero)))) e = tt
    far (suc (suc (suc (suc (suc zero))))) e = tt
    far (suc (suc (suc (suc (suc (suc zero)))))) e = tt
    far (suc (suc (suc (suc (suc (suc (suc n))))))) e = omega arith

    go : (v : Bool) → leb i 23 ≡ v
        → Says i (elim v [ true ↦ argument w0 | false ↦ get_or (argument w1 ∷ argument w2 ∷ argument w4 ∷ argument w8 ∷ reserved ∷ reserved ∷ reserved ∷ []) (i - 24) open_ended ])
    go true e = leb-true i 23 e
    go false e = let l = leb-false i 23 e in far (i - 24) (omega arith)

-- the argument's bytes and its additional information, from what was read of it
pub record Argued (w : Width) (i : ℕ) (b : List ℕ) (n : ℕ) : Type 0 where
  pub fit : n ≤ limit w
  pub same : information w n ≡ i
  pub back : big_endian (argument_bytes w) n ≡ b

wide-argued : (b : List ℕ) (k : ℕ) → length b ≡ k → Bytes b → (big_endian k (value_from 0 b) ≡ b) × (value_from 0 b < 1 * 256 ^ k)
wide-argued b k e u = rw (← e) (big_value b u, value-below 0 b u)

argued_well : (w : Width) (i : ℕ) (b : List ℕ) → Says i (argument w) → length b ≡ argument_bytes w → Bytes b → Argued w i b (value_from (started w i) b)
unfolding limit information started argument_bytes value_from big_endian
argued_well w0 i [] h e u = record { fit = h; same = refl; back = refl }
argued_well w0 i (c ∷ b) h e u = absurd (omega arith)
argued_well w1 i b h e u = let g = wide-argued b 1 e u in record { fit = omega arith; same = sym h; back = g.0 }
argued_well w2 i b h e u = let g = wide-argued b 2 e u in record { fit = omega arith; same = sym h; back = g.0 }
argued_well w4 i b h e u = let g = wide-argued b 4 e u in record { fit = omega arith; same = sym h; back = g.0 }
argued_well w8 i b h e u = let g = wide-argued b 8 e u in record { fit = omega arith; same = sym h; back = g.0 }

module _ (b left : ℕ) (s : List ℕ) (u : b < 256) (us : Bytes s) where
  m : Major
  m = major_of (b / 32)

  byte-back : (i : ℕ) → i ≡ b % 32 → initial m i ≡ b
  unfolding initial m
  byte-back i e = let f = major-number (b / 32) (omega arith) in omega arith

  head-back : (w : Width) (n : ℕ) (bs : List ℕ) → Argued w (b % 32) bs n → head m w n ≡ b ∷ bs
  unfolding head
  head-back w n bs a = rw (byte-back _ a.same, a.back)

  argument_well : (w : Width) → Says (b % 32) (argument w) → is_float m w ≡ false → (t : Result (List ℕ)) → TakenWell (argument_bytes w) s t
      → HeadWell (b ∷ s) (bind t (λ bs r. argued m w (value_from (started w (b % 32)) bs) left r))
  unfolding bind argued opening_head Fits
  argument_well w h f (refuse n p) g = tt
  argument_well w h f (ok bs r) g = go (is_allowed m w (value_from (started w (b % 32)) bs)) refl
    where
      n : ℕ
      n = value_from (started w (b % 32)) bs

      a : Argued w (b % 32) bs n
      a = argued_well w (b % 32) bs h g.long g.bytes

      go : (v : Bool) → is_allowed m w n ≡ v → HeadWell (b ∷ s) (elim v [ true ↦ ok (record { major = m; size = definite w; argument = n }) r | false ↦ refuse 16 left ])
      go true e =
          record {
            is = ap (λ (x : List ℕ). b ∷ x) g.is ∙ sym (ap (λ (x : List ℕ). x ++ r) (head-back w n bs a));
            fit = a.fit;
            legal = (f, e);
            rest = g.rest;
          }
      go false e = tt

  by_well : (t : Information) → Says (b % 32) t → HeadWell (b ∷ s) (head_by m t (b % 32) left s)
  unfolding head_by opening_head Fits
  by_well (argument w) h = go (is_float m w) refl
    where
      go : (v : Bool) → is_float m w ≡ v → HeadWell (b ∷ s) (elim v [ true ↦ refuse 6 left | false ↦ bind (taking (argument_bytes w) left s) (λ bs r. argued m w (value_from (started w (b % 32)) bs) left r) ])
      go true e = tt
      go false e = argument_well w h e (taking (argument_bytes w) left s) (taking_well (argument_bytes w) left s us)
  by_well reserved h = tt
  by_well open_ended h = go (is_indefinite m) refl
    where
      go : (v : Bool) → is_indefinite m ≡ v → HeadWell (b ∷ s) (elim v [ true ↦ ok (record { major = m; size = indefinite; argument = 0 }) s | false ↦ refuse 16 left ])
      go true e = record { is = ap (λ (x : ℕ). x ∷ s) (sym (byte-back 31 (sym h))); fit = tt; legal = e; rest = us }
      go false e = tt

pub head_well : (s : List ℕ) → Bytes s → HeadWell s (next_head s)
unfolding next_head Bytes m
head_well [] u = tt
head_well (b ∷ s) u = by_well b (suc (length s)) s u.0 u.1 (information_of (b % 32)) (says (b % 32) (omega arith))
