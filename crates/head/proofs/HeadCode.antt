-- Heads: what the code knows at each return and each turn of a loop, and that this is what the definitions say.
-- Assumes nothing.
use mathlib.Core.Path.{◌≡◌, refl, sym, ap, subst, ◌∙◌}
use mathlib.Core.List.{List, [], ◌∷◌, ◌++◌, append_assoc, append-nil}
use mathlib.Core.Bool.{Bool, true, false, ◌&&◌}
use Prim.Native.Nat.{ℕ, suc, ◌+◌, ◌-◌, ◌*◌, ◌/◌, ◌%◌, ◌^◌, ◌≤◌, ◌<◌}
use native.Mathlib.Numerals.{add-one}
use native.Mathlib.Nat.{add-zero, sub-zero, pow-suc, pow-le-pow_right}
use native.Mathlib.Omega.{arith}
use lib.Dec.{T, leb, ltb, eqb, eqb→eq}
use lib.ListN.{length, take, drop, set, get_or, length-drop, length-set, drop_of_length-le}
use mir.Syntax.{w8 as bits8, w64 as bits64}
use mir.Val.{Fits}
use borrow.Author.Tests.{leb-true, leb-false, le-leb, lt-leb, le-ltb, ltb-true, ltb-false, eq-eqb, ne_eqb}
use Rattle.cbor.specs.Refusals.{Result, ok, refuse, bind, float, ends_inside, not_well_formed}
use Rattle.cbor.specs.Widths.{Width, w0, w1, w2, w4, w8, argument_bytes, limit, fits, shortest, information, big_endian, value_from}
use Rattle.cbor.specs.Items.{Size, definite, indefinite}
use Rattle.cbor.specs.Heads.{Major, integers, strings, arrays, maps, tags, simples, major_number, major_of, initial, head, Head, Information, argument, reserved, open_ended, information_of, is_float, is_allowed, is_indefinite, taking, started, argued, head_by, next_head}
use Rattle.refusal.specs.RefusalKinds.{kind_number}
use Rattle.memory.specs.Buffer.{over, over_if_fits}
use Rattle.head.specs.HeadAnswers.{HeadTold, head_found as told_head, head_refused, head_told, size_information, head_from, head_at, form_by, form_of, form_number, Formed, Widened, Inside, argument_by, least_argument, argument_size, argument_at, Little, Short, HeadRoom, HeadEndsAt, HeadEnd, head_bytes}
use Rattle.std.specs.Prelude as std
use Rattle.std.specs.Prelude.{Ok, Err, Some, None}
use Rattle.head.specs.declared.Meaning.{Meaning}
use Rattle.head.specs.declared.Meaning.TheVariants.{Argument, OpenEnded, Refused}
use Rattle.refusal.specs.declared.RefusalKind.{RefusalKind}
use Rattle.refusal.specs.declared.RefusalKind.TheVariants.{TooLong, NotUtf8, NoToken, UnknownWord, Dots, Float, OutOfRange, BadContent, BadIndicator, TooDeep, NotAllowed, MixedChunks, BadTypedArray, NoRoom, EndsInside, NotWellFormed, NoSuchPath}
use Rattle.cbor.proofs.Arguments.{length_big}
use Rattle.memory.proofs.Lists.{front}
use Rattle.cbor.proofs.Table.{both, byte}
use Rattle.memory.proofs.Buffer.{over_nil, over-set, written-fits, written_not, length-written, written_behind}

-- THE INITIAL BYTE: its facts are one test, computed at every byte

-- what additional information says of the bytes behind it, of itself, and of the least argument
size_by : Information → ℕ
size_by (argument w) = argument_bytes w
size_by reserved = 0
size_by open_ended = 0

info_by : Information → ℕ → ℕ
info_by (argument w) i = information w i
info_by reserved i = i
info_by open_ended i = 31

least_by : Major → Information → ℕ
least_by (integers g) i = 0
least_by (strings k) i = 0
least_by arrays i = 0
least_by maps i = 0
least_by tags i = 0
least_by simples (argument w0) = 0
least_by simples (argument w1) = 32
least_by simples (argument w2) = 0
least_by simples (argument w4) = 0
least_by simples (argument w8) = 0
least_by simples reserved = 0
least_by simples open_ended = 0

-- the tests of the code's `form`
form_code : ℕ → ℕ → ℕ
form_code major info =
    elim (leb info 24) [
      | true ↦ 0
      | false ↦ elim (leb info 27) [
        | true ↦ elim (eqb major 7) [ true ↦ 6 | false ↦ 0 ]
        | false ↦ elim (leb info 30) [
          | true ↦ 16
          | false ↦ elim (leb major 1) [ true ↦ 16 | false ↦ elim (eqb major 6) [ true ↦ 16 | false ↦ 31 ] ]
        ]
      ]
    ]

test : ℕ → Bool
test b =
    ◌&&◌ (eqb (major_number (major_of (b / 32))) (b / 32))
    (◌&&◌ (eqb (info_by (information_of (b % 32)) (b % 32)) (b % 32))
    (◌&&◌ (eqb (size_by (information_of (b % 32))) (argument_size (b % 32)))
    (◌&&◌ (eqb (least_by (major_of (b / 32)) (information_of (b % 32))) (least_argument b))
    (eqb (form_code (b / 32) (b % 32)) (form_of b)))))

record Initial (b : ℕ) : Type 0 where
  number : major_number (major_of (b / 32)) ≡ b / 32
  info : info_by (information_of (b % 32)) (b % 32) ≡ b % 32
  size : size_by (information_of (b % 32)) ≡ argument_size (b % 32)
  least : least_by (major_of (b / 32)) (information_of (b % 32)) ≡ least_argument b
  form : form_code (b / 32) (b % 32) ≡ form_of b

initials : (b : ℕ) → b < 256 → Initial b
unfolding test major_number major_of information_of info_by information size_by argument_bytes argument_size least_by least_argument form_code form_of form_by is_float is_indefinite
initials b h =
    let t₀ : T (test b) = byte test tt b h in
    let t₁ = (both (eqb (major_number (major_of (b / 32))) (b / 32)) _ t₀).1 in
    let t₂ = (both (eqb (info_by (information_of (b % 32)) (b % 32)) (b % 32)) _ t₁).1 in
    let t₃ = (both (eqb (size_by (information_of (b % 32))) (argument_size (b % 32))) _ t₂).1 in
    let t₄ = (both (eqb (least_by (major_of (b / 32)) (information_of (b % 32))) (least_argument b)) _ t₃).1 in
    record {
      number = eqb→eq _ _ (both (eqb (major_number (major_of (b / 32))) (b / 32)) _ t₀).0;
      info = eqb→eq _ _ (both (eqb (info_by (information_of (b % 32)) (b % 32)) (b % 32)) _ t₁).0;
      size = eqb→eq _ _ (both (eqb (size_by (information_of (b % 32))) (argument_size (b % 32))) _ t₂).0;
      least = eqb→eq _ _ (both (eqb (least_by (major_of (b / 32)) (information_of (b % 32))) (least_argument b)) _ t₃).0;
      form = eqb→eq (form_code (b / 32) (b % 32)) (form_of b) t₄;
    }

-- `form`: a way to each of its returns
module _ (b : ℕ) (u : Fits bits8 b) where
  formed : (k : Meaning) → form_number k ≡ form_code (b / 32) (b % 32) → Formed b k
  formed k e = let h : b < 256 = omega arith in record { is = e ∙ (initials b h).form; byte = h }

  pub form_small : b % 32 ≤ 24 → Formed b Argument
  unfolding form_code form_number kind_number
  form_small h = formed Argument (sym (simp (form_code, le-leb (b % 32) 24 h)))

  module _ (a : 24 < b % 32) where
    pub form-float : b % 32 ≤ 27 → b / 32 ≡ 7 → Formed b (Refused Float)
    unfolding form_code form_number kind_number
    form-float h e = formed (Refused Float) (sym (simp (form_code, lt-leb (b % 32) 24 a, le-leb (b % 32) 27 h, eq-eqb (b / 32) 7 e)))

    pub form-wide : b % 32 ≤ 27 → (b / 32 ≡ 7 → ⊥) → Formed b Argument
    unfolding form_code form_number kind_number
    form-wide h n = formed Argument (sym (simp (form_code, lt-leb (b % 32) 24 a, le-leb (b % 32) 27 h, ne_eqb (b / 32) 7 n)))

    module _ (a₂ : 27 < b % 32) where
      pub form-reserved : b % 32 ≤ 30 → Formed b (Refused NotWellFormed)
      unfolding form_code form_number kind_number
      form-reserved h = formed (Refused NotWellFormed) (sym (simp (form_code, lt-leb (b % 32) 24 a, lt-leb (b % 32) 27 a₂, le-leb (b % 32) 30 h)))

      module _ (a₃ : 30 < b % 32) where
        pub form-integer : b / 32 ≤ 1 → Formed b (Refused NotWellFormed)
        unfolding form_code form_number kind_number
        form-integer h = formed (Refused NotWellFormed) (sym (simp (form_code, lt-leb (b % 32) 24 a, lt-leb (b % 32) 27 a₂, lt-leb (b % 32) 30 a₃, le-leb (b / 32) 1 h)))

        pub form-tag : 1 < b / 32 → b / 32 ≡ 6 → Formed b (Refused NotWellFormed)
        unfolding form_code form_number kind_number
        form-tag h e = formed (Refused NotWellFormed) (sym (simp (form_code, lt-leb (b % 32) 24 a, lt-leb (b % 32) 27 a₂, lt-leb (b % 32) 30 a₃, lt-leb (b / 32) 1 h, eq-eqb (b / 32) 6 e)))

        pub form_open : 1 < b / 32 → (b / 32 ≡ 6 → ⊥) → Formed b OpenEnded
        unfolding form_code form_number kind_number
        form_open h n = formed OpenEnded (sym (simp (form_code, lt-leb (b % 32) 24 a, lt-leb (b % 32) 27 a₂, lt-leb (b % 32) 30 a₃, lt-leb (b / 32) 1 h, ne_eqb (b / 32) 6 n)))

pub ruleset form_ways = (form_small, form-float, form-wide, form-reserved, form-integer, form-tag, form_open)

-- SIZES, AND THE SHORTEST HEAD

module _ (i : ℕ) where
  pub size-one : i ≡ 24 → 1 ≡ argument_size i
  unfolding argument_size
  size-one e = rw e

  pub size_two : i ≡ 25 → 2 ≡ argument_size i
  unfolding argument_size
  size_two e = rw e

  pub size-four : i ≡ 26 → 4 ≡ argument_size i
  unfolding argument_size
  size-four e = rw e

  pub size_eight : i ≡ 27 → 8 ≡ argument_size i
  unfolding argument_size
  size_eight e = rw e

  pub size_none : (i ≡ 24 → ⊥) → (i ≡ 25 → ⊥) → (i ≡ 26 → ⊥) → (i ≡ 27 → ⊥) → 0 ≡ argument_size i
  unfolding argument_size
  size_none n₁ n₂ n₃ n₄ = sym (simp (argument_size, ne_eqb i 24 n₁, ne_eqb i 25 n₂, ne_eqb i 26 n₃, ne_eqb i 27 n₄))

pub ruleset size_ways = (size-one, size_two, size-four, size_eight, size_none)

pub size-most : (i : ℕ) → argument_size i ≤ 8
unfolding argument_size
size-most i = go (eqb i 24) (eqb i 25) (eqb i 26) (eqb i 27)
  where
    go : (a b c d : Bool) → ◌≤◌ (elim a [ true ↦ 1 | false ↦ elim b [ true ↦ 2 | false ↦ elim c [ true ↦ 4 | false ↦ elim d [ true ↦ 8 | false ↦ 0 ] ] ] ]) 8
    go true b c d = omega arith
    go false true c d = omega arith
    go false false true d = omega arith
    go false false false true = omega arith
    go false false false false = omega arith

module _ (n : ℕ) where
  pub shortest-none : n ≤ 23 → n ≡ information (shortest n) n
  unfolding information shortest fits limit
  shortest-none h = sym (simp (shortest, le-leb n 23 h))

  module _ (a : 23 < n) where
    pub shortest-one : n ≤ 0xff → 24 ≡ information (shortest n) n
    unfolding information shortest fits limit
    shortest-one h = sym (simp (shortest, lt-leb n 23 a, le-leb n 0xff h))

    module _ (a₂ : 0xff < n) where
      pub shortest_two : n ≤ 0xffff → 25 ≡ information (shortest n) n
      unfolding information shortest fits limit
      shortest_two h = sym (simp (shortest, lt-leb n 23 a, lt-leb n 0xff a₂, le-leb n 0xffff h))

      module _ (a₃ : 0xffff < n) where
        pub shortest-four : n ≤ 0xffff_ffff → 26 ≡ information (shortest n) n
        unfolding information shortest fits limit
        shortest-four h = sym (simp (shortest, lt-leb n 23 a, lt-leb n 0xff a₂, lt-leb n 0xffff a₃, le-leb n 0xffff_ffff h))

        pub shortest_eight : 0xffff_ffff < n → 27 ≡ information (shortest n) n
        unfolding information shortest fits limit
        shortest_eight h = sym (simp (shortest, lt-leb n 23 a, lt-leb n 0xff a₂, lt-leb n 0xffff a₃, lt-leb n 0xffff_ffff h))

pub ruleset shortest_ways = (shortest-none, shortest-one, shortest_two, shortest-four, shortest_eight)

pub least-some : (b : ℕ) → b ≡ 0xf8 → 32 ≡ least_argument b
unfolding least_argument
least-some b e = rw e

pub least-none : (b : ℕ) → (b ≡ 0xf8 → ⊥) → 0 ≡ least_argument b
unfolding least_argument
least-none b n = sym (simp (least_argument, ne_eqb b 0xf8 n))

pub ruleset least_ways = (least-some, least-none)

-- NUMBERS, READ

-- a number of at most 8 bytes has at most 64 bits
below : (i v x : ℕ) → i < 8 → v < 256 ^ i → x < 256 → (v * 256 + x < 256 ^ (i + 1)) × (v * 256 + x < 2 ^ 64)
below i v x h s b =
    let e : 256 ^ (i + 1) ≡ 256 ^ i * 256 = rw add-one (pow-suc 256 i) in
    let z : 0 < 256 = omega arith in
    let o : i + 1 ≤ 8 = omega arith in
    let l : 256 ^ (i + 1) ≤ 256 ^ 8 = pow-le-pow_right z o in
    (omega arith, omega arith)

-- i bytes are read, and make v; those left, behind v, make the whole number
pub record Reading (s : List ℕ) (from size i v : ℕ) : Type 0 where
  pub room : Inside s from size
  pub most : i ≤ size
  pub small : v < 256 ^ i
  pub same : value_from v (take (size - i) (drop (from + i) s)) ≡ value_from 0 (take size (drop from s))

module _ {s : List ℕ} {from size : ℕ} where
  pub number-start : Inside s from size → Reading s from size 0 0
  number-start h = record { room = h; most = omega arith; small = omega arith; same = rw (add-zero, sub-zero) }

  module _ {i v : ℕ} (inv : Reading s from size i v) where
    pub number_mul : i < size → Fits bits64 (v * 256)
    number_mul h = record { fits = omega (arith, below i v 0 (omega (arith, inv.room.short)) inv.small (omega arith)) }

    pub number_add : {x b : ℕ} → i < size → Widened b x → Fits bits64 (v * 256 + x)
    number_add {x} h w = record { fits = omega (arith, below i v x (omega (arith, inv.room.short)) inv.small w.byte) }

    pub number_step : {x : ℕ} → i < size → Widened (get_or s (from + i) 0) x → Reading s from size (i + 1) (v * 256 + x)
    unfolding value_from
    number_step {x} h w =
        let lt : from + i < length s = omega (arith, inv.room.inside) in
        let e₁ : size - i ≡ suc (size - (i + 1)) = omega arith in
        let e₂ : from + i + 1 ≡ from + (i + 1) = omega arith in
        let e₃ : take (size - i) (drop (from + i) s) ≡ get_or s (from + i) 0 ∷ take (size - (i + 1)) (drop (from + (i + 1)) s)
        = rw (e₁, front s (from + i) lt, e₂) in
        record {
          room = inv.room;
          most = omega arith;
          small = (below i v x (omega (arith, inv.room.short)) inv.small w.byte).0;
          same = ap (λ (y : ℕ). value_from (v * 256 + y) (take (size - (i + 1)) (drop (from + (i + 1)) s))) w.is ∙ sym (ap (value_from v) e₃) ∙ inv.same;
        }

    pub number-end : size ≤ i → v ≡ value_from 0 (take size (drop from s))
    unfolding value_from
    number-end h =
        let e : size - i ≡ 0 = omega (arith, inv.most) in
        ap (λ (k : ℕ). value_from v (take k (drop (from + i) s))) (sym e) ∙ inv.same

-- the argument: of no bytes, or of some
pub argument-none : {b x : ℕ} (size : ℕ) (bs : List ℕ) → size ≡ 0 → Widened b x → x ≡ argument_by size b bs
unfolding argument_by
argument-none size bs e w = rw e w.is

pub argument-some : {x : ℕ} (size b : ℕ) (bs : List ℕ) → (size ≡ 0 → ⊥) → x ≡ value_from 0 bs → x ≡ argument_by size b bs
unfolding argument_by
argument-some size b bs n e = e ∙ sym (simp (argument_by, ne_eqb size 0 n))

pub ruleset argument_ways = (argument-none, argument-some)

-- HEADS, READ

pub told-refused : (kind : RefusalKind) (place : ℕ) → head_told (Err (record { kind = kind; place = place })) ≡ head_refused (kind_number kind) place
unfolding head_told
told-refused kind place = refl

pub told-head : (major info n end : ℕ) → head_told (Ok (record { major = major; info = info; argument = n; end = end })) ≡ told_head major info n end
unfolding head_told
told-head major info n end = refl

-- what an initial byte may say, with its number f
data Saying (m : Major) (x : Information) (f : ℕ) : Type 0 where
  is_argument : (w : Width) → x ≡ argument w → is_float m w ≡ false → f ≡ 0 → Saying m x f
  is_open : x ≡ open_ended → is_indefinite m ≡ true → f ≡ 31 → Saying m x f
  is_refused : (n : ℕ) → ((i left : ℕ) (s : List ℕ) → head_by m x i left s ≡ refuse n left) → f ≡ n → 0 < n → n < 31 → ((n ≡ 6 → ⊥) → n ≡ 16) → Saying m x f

form_view : (m : Major) (x : Information) → Saying m x (form_by m x)
unfolding form_by head_by
form_view m (argument w) = go (is_float m w) refl
  where
    go : (t : Bool) → is_float m w ≡ t → Saying m (argument w) (elim t [ true ↦ float | false ↦ 0 ])
    go true e = is_refused 6 (λ i left s. rw (e, head_by)) refl (omega arith) (omega arith) (λ n. absurd (n refl))
    go false e = is_argument w refl e refl
form_view m reserved = is_refused 16 (λ i left s. refl) refl (omega arith) (omega arith) (λ n. refl)
form_view m open_ended = go (is_indefinite m) refl
  where
    go : (t : Bool) → is_indefinite m ≡ t → Saying m open_ended (elim t [ true ↦ 31 | false ↦ not_well_formed ])
    go true e = is_open refl e refl
    go false e = is_refused 16 (λ i left s. rw (e, head_by)) refl (omega arith) (omega arith) (λ n. refl)

-- the head of an argument: its bytes are not there, or its value is too small, or it is read
allowed : (m : Major) (w : Width) (n : ℕ) → is_allowed m w n ≡ leb (least_by m (argument w)) n
unfolding is_allowed least_by
allowed (integers g) w n = sym (le-leb 0 n (omega arith))
allowed (strings k) w n = sym (le-leb 0 n (omega arith))
allowed arrays w n = sym (le-leb 0 n (omega arith))
allowed maps w n = sym (le-leb 0 n (omega arith))
allowed tags w n = sym (le-leb 0 n (omega arith))
allowed simples w0 n = sym (le-leb 0 n (omega arith))
allowed simples w1 n = refl
allowed simples w2 n = sym (le-leb 0 n (omega arith))
allowed simples w4 n = sym (le-leb 0 n (omega arith))
allowed simples w8 n = sym (le-leb 0 n (omega arith))

argument_is : (w : Width) (i : ℕ) (s : List ℕ) → argument_by (argument_bytes w) i (take (argument_bytes w) s) ≡ value_from (started w i) (take (argument_bytes w) s)
unfolding argument_by argument_bytes value_from started
argument_is w0 i s = refl
argument_is w1 i s = refl
argument_is w2 i s = refl
argument_is w4 i s = refl
argument_is w8 i s = refl

-- the additional information does not depend on the argument's bytes
information-is : (w : Width) (i : ℕ) (s : List ℕ) → information w (argument_by (argument_bytes w) i (take (argument_bytes w) s)) ≡ information w i
unfolding information argument_by argument_bytes
information-is w0 i s = refl
information-is w1 i s = refl
information-is w2 i s = refl
information-is w4 i s = refl
information-is w8 i s = refl

module _ (m : Major) (w : Width) (i left : ℕ) (s : List ℕ) (e : is_float m w ≡ false) where
  short : length s < argument_bytes w → head_by m (argument w) i left s ≡ refuse ends_inside left
  unfolding head_by taking bind
  short h = rw (e, head_by) (rw (lt-leb (argument_bytes w) (length s) h, taking))

  module _ (n : ℕ) (en : n ≡ argument_by (argument_bytes w) i (take (argument_bytes w) s)) (h : argument_bytes w ≤ length s) where
    value : head_by m (argument w) i left s ≡ argued m w n left (drop (argument_bytes w) s)
    unfolding head_by taking bind
    value =
        rw (e, head_by) (rw (le-leb (argument_bytes w) (length s) h, taking)
        (ap (λ (k : ℕ). argued m w k left (drop (argument_bytes w) s)) (sym (en ∙ argument_is w i s))))

    little : n < least_by m (argument w) → head_by m (argument w) i left s ≡ refuse not_well_formed left
    unfolding argued
    little l = value ∙ rw (allowed m w n ∙ lt-leb (least_by m (argument w)) n l, argued)

    whole : least_by m (argument w) ≤ n → head_by m (argument w) i left s ≡ ok (record { major = m; size = definite w; argument = n }) (drop (argument_bytes w) s)
    unfolding argued
    whole l = value ∙ rw (allowed m w n ∙ le-leb (least_by m (argument w)) n l, argued)

-- every kind's number is between that of an argument and that of an indefinite length
kind_range : (k : RefusalKind) → (0 < kind_number k) × (kind_number k < 31)
unfolding kind_number
kind_range TooLong = (omega arith, omega arith)
kind_range NotUtf8 = (omega arith, omega arith)
kind_range NoToken = (omega arith, omega arith)
kind_range UnknownWord = (omega arith, omega arith)
kind_range Dots = (omega arith, omega arith)
kind_range Float = (omega arith, omega arith)
kind_range OutOfRange = (omega arith, omega arith)
kind_range BadContent = (omega arith, omega arith)
kind_range BadIndicator = (omega arith, omega arith)
kind_range TooDeep = (omega arith, omega arith)
kind_range NotAllowed = (omega arith, omega arith)
kind_range MixedChunks = (omega arith, omega arith)
kind_range BadTypedArray = (omega arith, omega arith)
kind_range NoRoom = (omega arith, omega arith)
kind_range EndsInside = (omega arith, omega arith)
kind_range NotWellFormed = (omega arith, omega arith)
kind_range NoSuchPath = (omega arith, omega arith)

pub not_argument : ◌≡◌ {A = Meaning} Argument OpenEnded → ⊥
unfolding form_number
not_argument e = let o : ◌≡◌ {A = ℕ} 0 31 = ap form_number e in omega arith

-- `read_head`: a way to each of its returns
pub head-end : {t : HeadTold} (s : List ℕ) (at : ℕ) → length s ≤ at → t ≡ head_refused (kind_number EndsInside) (length s) → t ≡ head_at s at
unfolding head_at head_from next_head kind_number
head-end s at h e = e ∙ ap (head_refused ends_inside) (sym (sub-zero (length s))) ∙ rw (drop_of_length-le s h)

-- the parts of the initial byte at a place: major type, additional information and what it says
abbrev major_at : List ℕ → ℕ → Major
major_at s at = major_of (get_or s at 0 / 32)

abbrev low_at : List ℕ → ℕ → ℕ
low_at s at = get_or s at 0 % 32

abbrev says_at : List ℕ → ℕ → Information
says_at s at = information_of (get_or s at 0 % 32)

module _ (s : List ℕ) (at : ℕ) (h : at < length s) where
  -- the head, by the parts m, x, i of the initial byte and the bytes behind it
  head_here : Major → Information → ℕ → Result Head
  head_here m x i = head_by m x i (length s - at) (drop (at + 1) s)

  here : Result Head
  here = head_here (major_at s at) (says_at s at) (low_at s at)

  next : next_head (drop at s) ≡ here
  unfolding next_head here head_here
  next =
      let e : suc (length (drop (at + 1) s)) ≡ length s - at = rw (length-drop (at + 1) s) (omega arith) in
      rw (front s at h) (ap (λ (k : ℕ). head_by (major_at s at) (says_at s at) (low_at s at) k (drop (at + 1) s)) e)

  refusal : (n : ℕ) → here ≡ refuse n (length s - at) → head_refused n at ≡ head_at s at
  unfolding head_at head_from
  refusal n e =
      let p : at ≡ length s - (length s - at) = omega arith in
      ap (head_refused n) p ∙ sym (ap (head_from (length s)) (next ∙ e))

  module _ (f : Meaning) (k : Formed (get_or s at 0) f) where
    facts : Initial (get_or s at 0)
    facts = initials (get_or s at 0) k.byte

    refused_by : (kind : RefusalKind) → f ≡ Refused kind → head_refused (kind_number kind) at ≡ head_at s at
    unfolding form_of here head_here form_number
    refused_by kind e = go (form_view (major_at s at) (says_at s at))
      where
        n : ℕ
        n = kind_number kind

        is : n ≡ form_of (get_or s at 0)
        is = sym (ap form_number e) ∙ k.is

        go : Saying (major_at s at) (says_at s at) (form_by (major_at s at) (says_at s at)) → head_refused n at ≡ head_at s at
        go (is_argument w x y z) = absurd (omega (arith, is, (kind_range kind).0))
        go (is_open x y z) = absurd (omega (arith, is, (kind_range kind).1))
        go (is_refused c y z l' u' o) =
            let e' : c ≡ n = omega (arith, is) in
            refusal n (y (low_at s at) (length s - at) (drop (at + 1) s) ∙ ap (λ (x : ℕ). refuse x (length s - at)) e')

    pub head-bad : {t : HeadTold} {kind : RefusalKind} → f ≡ Refused kind → t ≡ head_refused (kind_number kind) at → t ≡ head_at s at
    head-bad {kind = kind} e q = q ∙ refused_by kind e

    -- a head that was read: its parts are the initial byte's, and r is left behind it
    telling : (m : Major) (z : Size) (n : ℕ) (r : List ℕ) → here ≡ ok (record { major = m; size = z; argument = n }) r
        → m ≡ major_at s at → size_information z n ≡ low_at s at → (end : ℕ) → end ≡ length s - length r
        → told_head (get_or s at 0 / 32) (low_at s at) n end ≡ head_at s at
    unfolding head_at head_from
    telling m z n r e em ei end ee =
        let a : get_or s at 0 / 32 ≡ major_number m = sym (ap major_number em ∙ facts.number) in
        cc (ap (head_from (length s)) (next ∙ e))

    opened : f ≡ OpenEnded → 31 ≡ form_of (get_or s at 0)
    unfolding form_number
    opened e = sym (ap form_number e) ∙ k.is

    pub head_open : {t : HeadTold} → f ≡ OpenEnded → t ≡ told_head (get_or s at 0 / 32) (get_or s at 0 % 32) 0 (at + 1) → t ≡ head_at s at
    unfolding form_of here head_here head_by size_information info_by
    head_open {t} e q = go (form_view (major_at s at) (says_at s at))
      where
        go : Saying (major_at s at) (says_at s at) (form_by (major_at s at) (says_at s at)) → t ≡ head_at s at
        go (is_argument w x y z) = absurd (omega (arith, opened e))
        go (is_open x y z) =
            let p : at + 1 ≡ length s - length (drop (at + 1) s) = rw (length-drop (at + 1) s) (omega arith) in
            let i : 31 ≡ low_at s at = sym (ap (λ (c : Information). info_by c (low_at s at)) x) ∙ facts.info in
            let o : head_here (major_at s at) open_ended (low_at s at) ≡ ok (record { major = major_at s at; size = indefinite; argument = 0 }) (drop (at + 1) s) = rw (y, head_by) in
            let r = ap (λ (c : Information). head_here (major_at s at) c (low_at s at)) x ∙ o in
            q ∙ telling (major_at s at) indefinite 0 (drop (at + 1) s) r refl i (at + 1) p
        go (is_refused c y z l' u' o) = absurd (omega (arith, opened e))

    open_low : f ≡ OpenEnded → low_at s at ≡ 31
    unfolding form_of info_by
    open_low e = go (form_view (major_at s at) (says_at s at))
      where
        go : Saying (major_at s at) (says_at s at) (form_by (major_at s at) (says_at s at)) → low_at s at ≡ 31
        go (is_argument w x y z) = absurd (omega (arith, opened e))
        go (is_open x y z) = sym (sym (ap (λ (c : Information). info_by c (low_at s at)) x) ∙ facts.info)
        go (is_refused c y z l' u' o) = absurd (omega (arith, opened e))

    module _ (a : f ≡ Argument) {size : ℕ} (es : size ≡ argument_size (get_or s at 0 % 32)) where
      record Given : Type 0 where
        width : Width
        exact : is_float (major_at s at) width ≡ false
        sized : size ≡ argument_bytes width
        same : information width (low_at s at) ≡ low_at s at
        least : least_by (major_at s at) (argument width) ≡ least_argument (get_or s at 0)
        reads : here ≡ head_here (major_at s at) (argument width) (low_at s at)

      argued_form : 0 ≡ form_of (get_or s at 0)
      unfolding form_number
      argued_form = sym (ap form_number a) ∙ k.is

      given : Given
      unfolding form_of here size_by info_by
      given = go (form_view (major_at s at) (says_at s at))
        where
          go : Saying (major_at s at) (says_at s at) (form_by (major_at s at) (says_at s at)) → Given
          go (is_argument w x y z) =
              record {
                width = w;
                exact = y;
                sized = es ∙ sym facts.size ∙ ap size_by x;
                same = sym (ap (λ (c : Information). info_by c (low_at s at)) x) ∙ facts.info;
                least = sym (ap (least_by (major_at s at)) x) ∙ facts.least;
                reads = ap (λ (c : Information). head_here (major_at s at) c (low_at s at)) x;
              }
          go (is_open x y z) = absurd (omega (arith, argued_form))
          go (is_refused c y z l' u' o) = absurd (omega (arith, argued_form))

      pub head-short : {t : HeadTold} → length s - at ≤ size → t ≡ head_refused (kind_number EndsInside) at → t ≡ head_at s at
      unfolding kind_number head_here
      head-short l q =
          let g = given in
          let b : length (drop (at + 1) s) < argument_bytes g.width = rw (length-drop (at + 1) s) (omega (arith, g.sized)) in
          q ∙ refusal ends_inside (g.reads ∙ short (major_at s at) g.width (low_at s at) (length s - at) (drop (at + 1) s) g.exact b)

      module _ (l : size < length s - at) {n : ℕ} (en : n ≡ argument_by size (get_or s at 0 % 32) (take size (drop (at + 1) s))) where
        pub head_little : {t : HeadTold} {x : ℕ} → x ≡ least_argument (get_or s at 0) → n < x → t ≡ head_refused (kind_number NotWellFormed) at → t ≡ head_at s at
        unfolding kind_number head_here
        head_little ex lt q =
            let g = given in
            let b : argument_bytes g.width ≤ length (drop (at + 1) s) = rw (length-drop (at + 1) s) (omega (arith, g.sized)) in
            let e : n ≡ argument_by (argument_bytes g.width) (low_at s at) (take (argument_bytes g.width) (drop (at + 1) s)) = rw g.sized at en in
            let c : n < least_by (major_at s at) (argument g.width) = omega (arith, g.least) in
            q ∙ refusal not_well_formed (g.reads ∙ little (major_at s at) g.width (low_at s at) (length s - at) (drop (at + 1) s) g.exact n e b c)

        pub head-found : {t : HeadTold} {x : ℕ} → x ≡ least_argument (get_or s at 0) → x ≤ n → t ≡ told_head (get_or s at 0 / 32) (get_or s at 0 % 32) n (at + 1 + size) → t ≡ head_at s at
        unfolding head_here size_information
        head-found ex le q =
            let g = given in
            let b : argument_bytes g.width ≤ length (drop (at + 1) s) = rw (length-drop (at + 1) s) (omega (arith, g.sized)) in
            let e : n ≡ argument_by (argument_bytes g.width) (low_at s at) (take (argument_bytes g.width) (drop (at + 1) s)) = rw g.sized at en in
            let c : least_by (major_at s at) (argument g.width) ≤ n = omega (arith, g.least) in
            let w = whole (major_at s at) g.width (low_at s at) (length s - at) (drop (at + 1) s) g.exact n e b c in
            let i : information g.width n ≡ low_at s at = ap (information g.width) e ∙ information-is g.width (low_at s at) (drop (at + 1) s) ∙ g.same in
            let p : at + 1 + size ≡ length s - length (drop (argument_bytes g.width) (drop (at + 1) s)) = simp length-drop (omega (arith, g.sized)) in
            q ∙ telling (major_at s at) (definite g.width) n (drop (argument_bytes g.width) (drop (at + 1) s)) (g.reads ∙ w) refl i (at + 1 + size) p

pub ruleset head_ways = (head-end, head-bad, head_open, head-short, head_little, head-found)

-- the bytes of the argument stand there
pub argument-room : {s : List ℕ} {at : ℕ} (size i : ℕ) → at < length s → size ≡ argument_size i → size < length s - at → Inside s (at + 1) size
argument-room size i h e l = record { inside = omega arith; short = omega (arith, size-most i) }

-- `head_end` and `head_argument`: the same ways
module _ {s : List ℕ} {from b size : ℕ} where
  pub little_no : (b ≡ 0xf8 → ⊥) → Little s from b size false
  little_no h = record { is = sym (le-ltb (argument_by size (b % 32) (take size (drop from s))) (least_argument b) (omega (arith, least-none b h))) }

  pub little_some : {x : ℕ} → b ≡ 0xf8 → x ≡ argument_by size (b % 32) (take size (drop from s)) → Little s from b size (ltb x 32)
  little_some e h = record { is = λ j. ltb (h j) (least-some b e j) }

pub ruleset little_ways = (little_no, little_some)

pub argument_open : (s : List ℕ) (at : ℕ) {f : Meaning} → Formed (get_or s at 0) f → f ≡ OpenEnded → 0 ≡ argument_at s at
unfolding argument_at form_number
argument_open s at k e = sym (rw (eq-eqb (form_of (get_or s at 0)) 31 (sym k.is ∙ ap form_number e), argument_at))

-- no other form has its number
not_open : (f : Meaning) → (f ≡ OpenEnded → ⊥) → form_number f ≡ 31 → ⊥
unfolding form_number
not_open Argument n e = omega arith
not_open OpenEnded n e = n refl
not_open (Refused kind) n e = omega (arith, (kind_range kind).1)

pub argument-wide : (s : List ℕ) (at : ℕ) {f : Meaning} {size n : ℕ} → Formed (get_or s at 0) f → (f ≡ OpenEnded → ⊥) → size ≡ argument_size (get_or s at 0 % 32) → n ≡ argument_by size (get_or s at 0 % 32) (take size (drop (at + 1) s))
    → n ≡ argument_at s at
unfolding argument_at
argument-wide s at {f} {size} {n} k x e h =
    (rw e at h) ∙ sym (rw (ne_eqb (form_of (get_or s at 0)) 31 (λ z. not_open f x (k.is ∙ z)), argument_at))

low-size : (i : ℕ) → i < 24 → 0 ≡ argument_size i
low-size i h = size_none i (omega arith) (omega arith) (omega arith) (omega arith)

low_formed : (b : ℕ) {t : Bool} → Short b t → t ≡ true → Formed b Argument
low_formed b k e = form_small b (record { fits = k.byte }) (omega (arith, k.is e))

pub argument-low : (s : List ℕ) (at : ℕ) {t : Bool} {n : ℕ} → Short (get_or s at 0) t → t ≡ true → Widened (get_or s at 0 % 32) n → n ≡ argument_at s at
argument-low s at k e w =
    argument-wide s at (low_formed (get_or s at 0) k e) (λ z. not_argument z) (low-size (get_or s at 0 % 32) (k.is e)) (argument-none 0 (take 0 (drop (at + 1) s)) refl w)

pub ruleset argued_ways = (argument-low, argument_open, argument-wide)

pub argued-room : (s : List ℕ) (at : ℕ) {size : ℕ} → HeadRoom s at → size ≡ argument_size (get_or s at 0 % 32) → Inside s (at + 1) size
argued-room s at h e = record { inside = omega (arith, h.inside); short = omega (arith, size-most (get_or s at 0 % 32)) }

none_some : {n : ℕ} → ◌≡◌ {A = std.Option ℕ} None (Some n) → ⊥
none_some e = let o : ◌≡◌ {A = ℕ} 0 1 = ap (λ (x : std.Option ℕ). elim x [ None ↦ 0 | Some y ↦ 1 ]) e in omega arith

some_same : {m n : ℕ} → Some m ≡ Some n → m ≡ n
some_same {m} e = ap (λ (x : std.Option ℕ). elim x [ None ↦ m | Some y ↦ y ]) e

module _ {s : List ℕ} {at : ℕ} where
  ends-lost : (n q : ℕ) → head_refused n q ≡ head_at s at → HeadEnd s at None
  ends-lost n q e = record { ends = λ r x. absurd (none_some x); lost = λ z m i a b h. let o : ◌≡◌ {A = ℕ} 0 1 = cc in omega arith }

  ends_at : {r : ℕ} → HeadRoom s at → told_head (get_or s at 0 / 32) (get_or s at 0 % 32) (argument_at s at) r ≡ head_at s at → HeadEnd s at (Some r)
  ends_at {r} i e = record { ends = λ q x. subst (λ (y : ℕ). HeadEndsAt s at y) (some_same x) (record { room = i; found = e }); lost = λ x. absurd (none_some (sym x)) }

  pub ends-none : length s ≤ at → HeadEnd s at None
  unfolding kind_number
  ends-none h = ends-lost ends_inside (length s) (head-end s at h refl)

  pub ends-short : {t : Bool} → at < length s → Short (get_or s at 0) t → t ≡ true → HeadEnd s at (Some (at + 1))
  ends-short h k e =
      let l = k.is e in
      let w : Widened (get_or s at 0 % 32) (get_or s at 0 % 32) = record { is = refl; byte = omega arith } in
      let n : argument_at s at ≡ argument_by 0 (get_or s at 0 % 32) (take 0 (drop (at + 1) s)) = sym (argument-low s at k e w) ∙ argument-none 0 (take 0 (drop (at + 1) s)) refl w in
      let x : get_or s at 0 ≡ 0xf8 → ⊥ = λ e. let y : get_or s at 0 % 32 ≡ 24 = ap (λ (b : ℕ). b % 32) e in omega arith in
      let p : at + 1 + 0 ≡ at + 1 = omega arith in
      let z = low-size (get_or s at 0 % 32) l in
      ends_at (record { inside = omega arith })
      (head-found s at h Argument (low_formed (get_or s at 0) k e) refl z (omega arith) n (least-none (get_or s at 0) x) (omega arith)
      (ap (told_head (get_or s at 0 / 32) (get_or s at 0 % 32) (argument_at s at)) (sym p)))

  module _ (h : at < length s) {f : Meaning} (k : Formed (get_or s at 0) f) where
    pub ends-bad : {kind : RefusalKind} → f ≡ Refused kind → HeadEnd s at None
    ends-bad e = ends-lost _ _ (head-bad s at h f k e refl)

    pub ends_open : f ≡ OpenEnded → HeadEnd s at (Some (at + 1))
    unfolding argument_size
    ends_open e =
        let z : 0 ≡ argument_size (get_or s at 0 % 32) = rw (open_low s at h f k e) in
        ends_at (record { inside = omega arith })
        (head_open s at h f k e (ap (λ (n : ℕ). told_head (get_or s at 0 / 32) (get_or s at 0 % 32) n (at + 1)) (sym (argument_open s at k e))))

    module _ (a : f ≡ Argument) {size : ℕ} (es : size ≡ argument_size (get_or s at 0 % 32)) where
      pub ends-cut : length s - at ≤ size → HeadEnd s at None
      ends-cut l = ends-lost _ _ (head-short s at h f k a es l refl)

      module _ (l : size < length s - at) {t : Bool} (lt : Little s (at + 1) (get_or s at 0) size t) where
        pub ends_little : t ≡ true → HeadEnd s at None
        ends_little y = ends-lost _ _ (head_little s at h f k a es l refl refl (ltb-true _ _ (sym lt.is ∙ y)) refl)

        pub ends_found : t ≡ false → HeadEnd s at (Some (at + 1 + size))
        ends_found y =
            let n = argument-wide s at k (λ o. not_argument (sym a ∙ o)) es refl in
            let q : least_argument (get_or s at 0) ≤ argument_by size (get_or s at 0 % 32) (take size (drop (at + 1) s)) = ltb-false _ _ (sym lt.is ∙ y) in
            ends_at (record { inside = omega arith }) (head-found s at h f k a es l (sym n) refl (omega (arith, n)) refl)

-- a head of a number or of a short argument, whose bytes are there
pub ends_plain : {s : List ℕ} {at : ℕ} → get_or s at 0 < 256 → get_or s at 0 % 32 < 28 → (get_or s at 0 / 32 ≡ 7 → get_or s at 0 % 32 < 24) → at + argument_size (get_or s at 0 % 32) < length s
    → HeadEnd s at (Some (at + 1 + argument_size (get_or s at 0 % 32)))
ends_plain {s} {at} u l z h =
    let x : get_or s at 0 ≡ 0xf8 → ⊥ = λ e.
    let m : get_or s at 0 / 32 ≡ 7 = ap (λ (b : ℕ). b / 32) e in
    let i : get_or s at 0 % 32 ≡ 24 = ap (λ (b : ℕ). b % 32) e in
    omega (arith, z m) in
    ends_found (omega arith) (by (leb (get_or s at 0 % 32) 24) refl) refl refl (omega arith) (little_no x) refl
  where
    by : (t : Bool) → leb (get_or s at 0 % 32) 24 ≡ t → Formed (get_or s at 0) Argument
    by true e = form_small (get_or s at 0) (record { fits = u }) (leb-true (get_or s at 0 % 32) 24 e)
    by false e =
        let a = leb-false (get_or s at 0 % 32) 24 e in
        form-wide (get_or s at 0) (record { fits = u }) a (omega arith) (λ m. omega (arith, z m))

pub ruleset ends_ways = (ends-none, ends-short)

pub ruleset long_ways = (ends-bad, ends_open, ends-cut, ends_little, ends_found)

-- NUMBERS AND HEADS, WRITTEN

-- the last byte goes to what is written already
last_byte : (k n : ℕ) (ws : List ℕ) → big_endian (suc k) n ++ ws ≡ big_endian k (n / 256) ++ (n % 256 ∷ ws)
unfolding big_endian
last_byte k n ws = append_assoc (big_endian k (n / 256)) (n % 256 ∷ []) ws

-- k bytes, those of m, are left to write before those of `done`
pub record Filling (b : List ℕ) (from size n k m : ℕ) (l : List ℕ) : Type 0 where
  pub done : List ℕ
  pub most : k ≤ size
  pub room : from + size ≤ length b
  pub same : length l ≡ length b
  pub sized : k + length done ≡ size
  pub is : l ≡ over b (from + k) done
  pub split : big_endian size n ≡ big_endian k m ++ done

module _ {b : List ℕ} {from size n : ℕ} where
  pub fill_start : size ≤ length b → from ≤ length b - size → Filling b from size n size n b
  fill_start h g =
      record {
        done = [];
        most = omega arith;
        room = omega arith;
        same = refl;
        sized = add-zero size;
        is = sym (over_nil b (from + size));
        split = sym (append-nil (big_endian size n));
      }

  pub fill_step : {k m : ℕ} {l : List ℕ} → Filling b from size n k m l → 0 < k → Filling b from size n (k - 1) (m / 256) (set l (from + (k - 1)) (m % 256))
  fill_step {k} {m} {l} inv h =
      let e₁ : k ≡ suc (k - 1) = omega arith in
      let e₂ : from + k ≡ from + (k - 1) + 1 = omega arith in
      let lt : from + (k - 1) < length b = omega (arith, inv.room, inv.most) in
      record {
        done = m % 256 ∷ inv.done;
        most = omega (arith, inv.most);
        room = inv.room;
        same = length-set l (from + (k - 1)) (m % 256) ∙ inv.same;
        sized = omega (arith, inv.sized);
        is = ap (λ (x : List ℕ). set x (from + (k - 1)) (m % 256)) (inv.is ∙ ap (λ (p : ℕ). over b p inv.done) e₂) ∙ over-set b (from + (k - 1)) (m % 256) inv.done lt;
        split = inv.split ∙ ap (λ (x : ℕ). big_endian x m ++ inv.done) e₁ ∙ last_byte (k - 1) m inv.done;
      }

  pub fill_end : {k m : ℕ} {l : List ℕ} → Filling b from size n k m l → k ≤ 0 → l ≡ over_if_fits b from (big_endian size n)
  unfolding big_endian
  fill_end {k} {m} {l} inv h =
      let e : k ≡ 0 = omega arith in
      let p : from + k ≡ from = omega arith in
      let q : big_endian size n ≡ inv.done = inv.split ∙ ap (λ (x : ℕ). big_endian x m ++ inv.done) e in
      let f : from + length inv.done ≤ length b = omega (arith, inv.room, inv.sized) in
      inv.is ∙ ap (λ (x : ℕ). over b x inv.done) p ∙ sym (written-fits b from inv.done f) ∙ ap (over_if_fits b from) (sym q)

pub fill_long : (b : List ℕ) (from size n : ℕ) → length b < size → b ≡ over_if_fits b from (big_endian size n)
fill_long b from size n h = sym (written_not b from (big_endian size n) (rw (length_big size n) (omega arith)))

pub fill_late : (b : List ℕ) (from size n : ℕ) → size ≤ length b → length b - size < from → b ≡ over_if_fits b from (big_endian size n)
fill_late b from size n h g = sym (written_not b from (big_endian size n) (rw (length_big size n) (omega arith)))

pub ruleset fill_ways = (fill_long, fill_late, fill_end)

pub length-head_bytes : (i n : ℕ) → length (head_bytes i n) ≡ suc (argument_size (i % 32))
unfolding head_bytes
length-head_bytes i n = ap suc (length_big (argument_size (i % 32)) n)

module _ (b : List ℕ) (at i n : ℕ) where
  pub write_past : length b ≤ at → b ≡ over_if_fits b at (head_bytes i n)
  write_past h = sym (written_not b at (head_bytes i n) (omega (arith, length-head_bytes i n)))

  module _ {size : ℕ} (e : size ≡ argument_size (i % 32)) (h : at < length b) where
    pub write_late : length b - at ≤ size → b ≡ over_if_fits b at (head_bytes i n)
    write_late g = sym (written_not b at (head_bytes i n) (omega (arith, length-head_bytes i n)))

    pub write_done : {l : List ℕ} → size < length b - at → l ≡ over_if_fits (set b at i) (at + 1) (big_endian size n) → l ≡ over_if_fits b at (head_bytes i n)
    unfolding head_bytes
    write_done g q =
        let f : at + suc (length (big_endian size n)) ≤ length b = rw (length_big size n) (omega arith) in
        q ∙ written_behind b at i (big_endian size n) f ∙ ap (λ (k : ℕ). over_if_fits b at (i ∷ big_endian k n)) e

pub write_same : {l : List ℕ} (b ws : List ℕ) (at v p : ℕ) → l ≡ over_if_fits (set b at v) p ws → length l ≡ length b
write_same b ws at v p e = ap length e ∙ length-written (set b at v) p ws ∙ length-set b at v

pub ruleset write_ways = (write_past, write_late, write_done)

-- THE HEAD OF A DEFINITION, BY ITS INITIAL BYTE

size-at : (m : Major) (w : Width) (n : ℕ) → n ≤ limit w → argument_size (initial m (information w n) % 32) ≡ argument_bytes w
unfolding limit information initial argument_bytes argument_size
size-at m w0 n h =
    let e : (major_number m * 32 + n) % 32 ≡ n = omega arith in
    rw e (simp (argument_size, ne_eqb n 24 (omega arith), ne_eqb n 25 (omega arith), ne_eqb n 26 (omega arith), ne_eqb n 27 (omega arith)))
size-at m w1 n h = let e : (major_number m * 32 + 24) % 32 ≡ 24 = omega arith in rw e
size-at m w2 n h = let e : (major_number m * 32 + 25) % 32 ≡ 25 = omega arith in rw e
size-at m w4 n h = let e : (major_number m * 32 + 26) % 32 ≡ 26 = omega arith in rw e
size-at m w8 n h = let e : (major_number m * 32 + 27) % 32 ≡ 27 = omega arith in rw e

pub head_bytes_lem : (m : Major) (w : Width) (n : ℕ) → n ≤ limit w → head m w n ≡ head_bytes (initial m (information w n)) n
unfolding head head_bytes
head_bytes_lem m w n h = ap (λ (k : ℕ). initial m (information w n) ∷ big_endian k n) (sym (size-at m w n h))
