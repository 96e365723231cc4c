-- The quick way over items: a lemma for each way through its functions. What it answers in one number is what the whole way answers in memory.
-- Assumes nothing.
use Prim.Native.Nat.{ℕ, suc, ◌+◌, ◌-◌, ◌*◌, ◌/◌, ◌%◌, ◌^◌, ◌≤◌, ◌<◌, min}
use native.Mathlib.Omega.{arith}
use mathlib.Core.Path.{◌≡◌, refl, sym, ap, ◌∙◌}
use mathlib.Core.Bool.{Bool, true, false, not}
use mathlib.Core.List.{List}
use lib.Dec.{eqb}
use lib.ListN.{length, take, drop, get_or, length-drop, length-take}
use borrow.Author.Tests.{lt-leb, ne_eqb}
use Rattle.memory.specs.Sums.{capped}
use Rattle.cbor.specs.Refusals.{Result, ok, refuse, bind, bad_typed_array}
use Rattle.cbor.specs.Items.{Item}
use Rattle.cbor.specs.Heads.{major_number, major_of}
use Rattle.cbor.specs.TypedArrays.{is_typed_array, may_tag}
use Rattle.cbor.specs.Valid.{is_text}
use Rattle.cbor.specs.Flags.{kind_of}
use Rattle.cbor.specs.Decode.{Until, counted, item}
use Rattle.typed_array.specs.TypedArrayAnswers.{may_tag_by}
use Rattle.head.specs.HeadAnswers.{argument_size, argument_at, Widened, HeadEnd}
use Rattle.head.proofs.HeadCode.{argument-low, ends_plain}
use Rattle.walk_answer.specs.WalkAnswers.{PassTold, passed, pass_told, contents, map_result, told_of, one_of, all_of, tag_of, until_by, mode_by, behind_by, Turned, after_told, Headed}
use Rattle.quick_walk.specs.QuickAnswers.{Quick, Deeper, Halves, Shifts, Shifted, Opens, Ends}
use Rattle.quick_head.specs.QuickHeads.{Small, Opening, of_array, of_map, of_tag, Inner, Lengthy}
use Rattle.walk_answer.specs.declared.Passage.{Passage}
use Rattle.walk_answer.proofs.Leaves.{Leaves, same}
use Rattle.walk_parts.proofs.StringCode.{content-good, head-room, head-inside}
use Rattle.walk_answer.proofs.WalkCycle.{tail_is, all-leaves, one-leaves, one-item, all_double, Run, run-over, run_on}
use Rattle.walk_parts.proofs.WalkItems.{all_told, only_one, inside, tag-good, behind-string, behind-array, behind-map, behind-tag, map_twice, one_inside, one_headed, one-leaf}
use Rattle.quick_walk.proofs.LeafRun.{short_none, going}
use Rattle.std.specs.Prelude.{Ok, Some}
use Rattle.std.specs.Prelude as std
use Rattle.refusal.specs.declared.Refusal.{Refusal}
use Rattle.walk_answer.specs.declared.Mode.{Mode}
use Rattle.walk_answer.specs.declared.Mode.TheVariants.{Counted}

-- ANSWERS

pub quick_not : {t : PassTold} {r : ℕ} → r ≡ 0xffffffffffffffff → Quick t r
quick_not e = record { is = λ n. absurd (n e) }

pub quick_made : {t : PassTold} {end size r : ℕ} → end < 4294967296 → r ≡ size * 4294967296 + end → passed end size ≡ t → Quick t r
quick_made {end = end} {size = size} {r = r} h e p =
    let a : r % 4294967296 ≡ end = omega arith in
    let b : r / 4294967296 ≡ size = omega arith in
    record { is = λ n. (λ j. passed (a j) (b j)) ∙ p }

-- what is told of s ends in it, behind j bytes at least, and no more bytes of strings are in it
record Told (j : ℕ) (s : List ℕ) (e k : ℕ) : Type 0 where
  ends : e ≤ length s
  size : k ≤ e
  some : j ≤ e

told_of_lem : (j : ℕ) (s : List ℕ) (e k : ℕ) (res : Result ℕ) → Leaves j same s res → passed e k ≡ told_of (length s) res → Told j s e k
unfolding told_of
told_of_lem j s e k (ok m r) l h =
    let a : e ≡ length s - length r = cc in
    let b : k ≡ m = cc in
    record { ends = omega arith; size = omega (arith, l.small); some = omega (arith, l.less) }
told_of_lem j s e k (refuse n q) l h = let z : ◌≡◌ {A = ℕ} 0 1 = cc in absurd (omega arith)

-- the part of a slice from a place on
pub small-part : (s : List ℕ) (at : ℕ) → Small s → Small (take (length s - at) (drop at s))
small-part s at h = record { is = rw (tail_is s at) (omega (arith, h.is, length-drop at s)) }

pub small_deeper : {s : List ℕ} {levels : ℕ} (at : ℕ) → Deeper s levels → Small (take (length s - at) (drop at s))
small_deeper {s} at d = small-part s at d.small

-- the number, as the answer in memory that it stands for
abbrev span : ℕ → std.Result Passage Refusal
span r = Ok (record { end = r % 4294967296; size = r / 4294967296 })

module _ {end r x : ℕ} (sh : Shifted end r x) (n : x ≡ 0xffffffffffffffff → ⊥) where
  shifted : pass_told (span x) ≡ after_told end 0 (pass_told (span r))
  unfolding pass_told after_told
  shifted = λ j. passed (sh.ends n j) (sh.size n j)

pub shifts_of : {s : List ℕ} {r : ℕ} (d end : ℕ) (u : Until) → end ≤ length s → Small s → Quick (told_of (length (take (length s - end) (drop end s))) (all_of 4 d u (take (length s - end) (drop end s)))) r → Shifts end r
shifts_of {s} {r} d end u h sm q =
    record {
      is = λ n.
          let t = take (length s - end) (drop end s) in
          let o = told_of_lem 0 t (r % 4294967296) (r / 4294967296) (all_of 4 d u t) (all-leaves 4 d u t) (q.is n) in
          omega (arith, o.ends, length-take (length s - end) (drop end s), length-drop end s, sm.is);
    }

pub level-some : {s : List ℕ} {levels : ℕ} → Deeper s levels → 1 ≤ levels
level-some d = omega (arith, d.level)

pub deeper_small : {s : List ℕ} {levels : ℕ} → Deeper s levels → Small s
deeper_small d = d.small

pub shift_add : {end r : ℕ} → Shifts end r → r < 2 ^ 64 → (r ≡ 0xffffffffffffffff → ⊥) → r + end < 2 ^ 64
shift_add s l n = let h = s.is n in omega arith

pub shift_not : {end x : ℕ} → x ≡ 0xffffffffffffffff → {r : ℕ} → Shifted end r x
shift_not e = record { known = λ n. absurd (n e); ends = λ n. absurd (n e); size = λ n. absurd (n e) }

pub shift_made : {end r x : ℕ} → Shifts end r → r < 2 ^ 64 → (r ≡ 0xffffffffffffffff → ⊥) → x ≡ r + end → Shifted end r x
shift_made {end} {r} {x} s l n e =
    let h = s.is n in
    let a : x % 4294967296 ≡ min (end + r % 4294967296) (2 ^ 64 - 1) = omega arith in
    let b : x / 4294967296 ≡ min (0 + r / 4294967296) (2 ^ 64 - 1) = omega arith in
    record { known = λ m. n; ends = λ m. a; size = λ m. b }

pub ruleset shift_ways = (shift_not, shift_made)

-- BY THE WHOLE WAY

module _ (d : ℕ) {s : List ℕ} (sm : Small s) (p : std.Result Passage Refusal) (told : pass_told p ≡ told_of (length s) (one_of 4 (suc d) s)) where
  whole-told : {m : Passage} → p ≡ Ok m → passed m.end m.size ≡ told_of (length s) (one_of 4 (suc d) s)
  unfolding pass_told
  whole-told e = rw e at told

  pub whole_halves : {m : Passage} → p ≡ Ok m → Halves m.end m.size
  whole_halves {m} e =
      let o = told_of_lem 1 s m.end m.size (one_of 4 (suc d) s) (one-leaves 4 (suc d) s) (whole-told e) in
      record { ends = omega (arith, o.ends, sm.is); small = omega (arith, o.ends, o.size, sm.is) }

  pub whole-made : {m : Passage} {r : ℕ} → p ≡ Ok m → r ≡ m.size * 4294967296 + m.end → Quick (told_of (length s) (one_of 4 (suc d) s)) r
  whole-made e i = quick_made (whole_halves e).ends i (whole-told e)

pub ruleset whole_ways = (quick_not, whole-made)

-- NUMBERS AND STRINGS

module _ {s : List ℕ} {end : ℕ} {o : std.Option ℕ} (he : HeadEnd s 0 o) (is : o ≡ Some end) where
  pub quick_end : end ≤ length s
  quick_end = head-inside (one_headed he is refl)

  pub shifts_deeper : {r : ℕ} (d : ℕ) (u : Until) {levels : ℕ} → Deeper s levels → Quick (told_of (length (take (length s - end) (drop end s))) (all_of 4 d u (take (length s - end) (drop end s)))) r → Shifts end r
  shifts_deeper d u dp q = shifts_of d end u quick_end dp.small q

  pub number_halves : Small s → Halves end 0
  number_halves sm = record { ends = omega (arith, quick_end, sm.is); small = omega arith }

  pub number-made : (d : ℕ) {r : ℕ} → Small s → get_or s 0 0 / 32 < 2 → r ≡ 0 * 4294967296 + end → Quick (told_of (length s) (one_of 4 (suc d) s)) r
  number-made d sm l e = quick_made (number_halves sm).ends e (one-leaf he is d (omega arith) refl)

pub ruleset plain_ways = (quick_not, number-made)

-- a string by its head
module _ {s : List ℕ} {end n : ℕ} (g : Lengthy s end n) where
  pub string-end : end ≤ length s
  string-end = quick_end g.head refl

  pub string-some : 0 < length s
  string-some = one_inside g.head refl

  module _ (h : n ≤ length s - end) where
    pub string-inside : end + n ≤ length s
    string-inside = omega (arith, string-end)

    pub string_add : length s * 1 < 2 ^ 63 → end + n < 2 ^ 64
    string_add long = omega (arith, string-inside)

    pub string_halves : Halves (end + n) (end + n - end)
    string_halves = record { ends = omega (arith, string-inside, g.small.is); small = omega (arith, string-inside, g.small.is) }

    pub string-made : (d : ℕ) {v : Bool} {r : ℕ} → v ≡ is_text (kind_of (eqb (get_or s 0 0 / 32) 3)) (take (end + n - end) (drop end s)) → v ≡ true → r ≡ (end + n - end) * 4294967296 + (end + n)
        → Quick (told_of (length s) (one_of 4 (suc d) s)) r
    string-made d i y e =
        quick_made string_halves.ends e (one-item (length s) d s (behind-string (one_headed g.head refl g.argument) d (omega (arith, g.low)) g.high g.definite
        (content-good {s = s} {from = end} n (eqb (get_or s 0 0 / 32) 3) (record { inside = string-end }) h i y refl)))

pub ruleset string_ways = (quick_not, string-made)

-- SHORT HEADS

module _ {s : List ℕ} (some : 0 < length s) (byte : get_or s 0 0 < 256) (short : get_or s 0 0 % 32 < 24) where
  short_headed : Headed s (record { major = get_or s 0 0 / 32; info = get_or s 0 0 % 32; argument = get_or s 0 0 % 32; end = 1 })
  short_headed =
      let a = short_none (get_or s 0 0 % 32) short in
      let k = get_or s 0 0 % 32 in
      let he : HeadEnd s 0 (Some 1) = let q : 0 + 1 + argument_size (get_or s 0 0 % 32) ≡ 1 = omega arith in rw q at (ends_plain {s = s} {at = 0} byte (omega arith) (λ m. short) (omega arith)) in
      let w : Widened k k = record { is = refl; byte = omega arith } in
      one_headed he refl (argument-low s 0 {t = true} (record { is = λ e. short; byte = byte }) refl w)

short_mode : (i : ℕ) → i < 24 → Counted ≡ mode_by i
unfolding mode_by
short_mode i h = sym (rw (ne_eqb i 31 (λ e. omega arith), mode_by))

-- tags below 24 ask nothing of their item
plain_tag : (n left : ℕ) → n < 24 → (res : Result Item) → map_result contents res ≡ bind res (λ x r. elim (may_tag n x) [ true ↦ ok (contents x) r | false ↦ refuse bad_typed_array left ])
unfolding map_result bind may_tag is_typed_array
plain_tag n left h (ok x r) = rw (lt-leb 64 n (omega arith))
plain_tag n left h (refuse k l) = refl

opened-by : (d : ℕ) (s : List ℕ) {n : ℕ} → 0 < length s → get_or s 0 0 < 256 → get_or s 0 0 % 32 < 24 → (d ≡ 0 → ⊥) → Opening (get_or s 0 0) n
    → told_of (length s) (all_of 4 (suc (d - 1)) (until_by Counted n) (drop 1 s)) ≡ told_of (length s) (one_of 4 (suc d) s)
unfolding until_by tag_of
opened-by d s {n} some byte short p (of_array z e) =
    one-item (length s) d s (inside {s = s} (short_headed {s = s} some byte short) d (omega arith) (omega arith) p (omega arith)
    (λ j. told_of (length s) (all_of (sym z j) (suc (d - 1)) (until_by (short_mode (get_or s 0 0 % 32) short j) (e j)) (drop 1 s))))
opened-by d s {n} some byte short p (of_map z e) =
    one-item (length s) d s (behind-map {s = s} (short_headed {s = s} some byte short) d (omega arith) (omega arith) p (omega arith) (omega arith) (short_mode (get_or s 0 0 % 32) short)
    (ap (λ (k : ℕ). told_of (length s) (all_of 4 (suc (d - 1)) (counted k) (drop 1 s))) e ∙ ap (told_of (length s)) (all_double (suc (d - 1)) (get_or s 0 0 % 32) (drop 1 s))))
opened-by d s {n} some byte short p (of_tag z e) =
    one-item (length s) d s (behind-tag {s = s} (short_headed {s = s} some byte short) d (omega arith) (omega arith) p z
    (ap (λ (k : ℕ). told_of (length s) (all_of 4 (suc (d - 1)) (until_by Counted k) (drop 1 s))) e ∙ ap (told_of (length s)) (only_one (d - 1) (drop 1 s) ∙ plain_tag (get_or s 0 0 % 32) (length s) short (item (d - 1) (drop 1 s)))))

pub opens_not : {s : List ℕ} {levels n : ℕ} → n ≡ 0xff → Opens s levels n
opens_not e = record { level = λ h. absurd (omega arith); inside = λ h. absurd (omega arith); is = λ h. absurd (omega arith) }

pub opens-made : {s : List ℕ} {levels n : ℕ} → (levels ≡ 0 → ⊥) → (length s ≡ 0 → ⊥) → Inner (get_or s 0 0) n → Opens s levels n
opens-made {s} {levels} {n} p o i =
    record { level = λ h. omega arith; inside = λ h. omega arith; is = λ h. opened-by levels s (omega arith) i.byte (i.short h) p (i.is h) }

pub open_inside : {s : List ℕ} {levels n : ℕ} → Opens s levels n → n < 0xff → 1 ≤ length s
open_inside o h = omega (arith, o.inside h)

pub shifts_open : {s : List ℕ} {r : ℕ} (d : ℕ) (u : Until) {levels n : ℕ} → Opens s levels n → n < 0xff → Small s → Quick (told_of (length (take (length s - 1) (drop 1 s))) (all_of 4 d u (take (length s - 1) (drop 1 s)))) r → Shifts 1 r
shifts_open d u o h sm q = shifts_of d 1 u (open_inside o h) sm q

pub ruleset opens_ways = (opens_not, opens-made)

-- ITEMS WITH PARTS

module _ {s : List ℕ} (long : length s * 1 < 2 ^ 63) {levels : ℕ} where
  pub part-opened : {n r x : ℕ} → Opens s levels n → n < 0xff → Quick (told_of (length (take (length s - 1) (drop 1 s))) (all_of 4 (suc (levels - 1)) (until_by Counted n) (take (length s - 1) (drop 1 s)))) r → Shifted 1 r x
      → Quick (told_of (length s) (one_of 4 (suc levels) s)) x
  unfolding pass_told
  part-opened {n} {r} {x} o h q sh =
      record { is = λ k. all_told 4 (suc (levels - 1)) (until_by Counted n) {s = s} {from = 1} (span r) (span x) (record { inside = omega (arith, o.inside h) }) long (q.is (sh.known k)) (shifted sh k) ∙ o.is h }

  module _ {end : ℕ} {o : std.Option ℕ} (he : HeadEnd s 0 o) (is : o ≡ Some end) {n : ℕ} (en : n ≡ argument_at s 0) (dp : Deeper s levels) {r x : ℕ} (sh : Shifted end r x) where
    pub list_array : {mode : Mode} → mode ≡ mode_by (get_or s 0 0 % 32) → get_or s 0 0 / 32 ≡ 4
        → Quick (told_of (length (take (length s - end) (drop end s))) (all_of 4 (suc (levels - 1)) (until_by mode n) (take (length s - end) (drop end s)))) r → Quick (told_of (length s) (one_of 4 (suc levels) s)) x
    unfolding pass_told
    list_array m z q =
        record { is = λ k. one-item (length s) levels s (behind-array (one_headed he is en) levels (span r) (span x) long (shifted sh k) (omega (arith, dp.level)) z m (q.is (sh.known k))) }

    pub list_map : {mode : Mode} → mode ≡ mode_by (get_or s 0 0 % 32) → get_or s 0 0 / 32 ≡ 5 → mode ≡ Counted
        → Quick (told_of (length (take (length s - end) (drop end s))) (all_of 4 (suc (levels - 1)) (until_by Counted (n * 2)) (take (length s - end) (drop end s)))) r → Quick (told_of (length s) (one_of 4 (suc levels) s)) x
    unfolding pass_told
    list_map {mode} m z o q =
        let hd = one_headed he is en in
        record {
          is = λ k. one-item (length s) levels s (behind-map hd levels (omega arith) (omega arith) (omega (arith, dp.level)) (omega arith) (omega arith) m
              (map_twice (levels - 1) (head-room hd) (span r) long (span x) (shifted sh k) mode n o (q.is (sh.known k))));
        }

    pub tag-made : get_or s 0 0 / 32 ≡ 6 → Quick (told_of (length (take (length s - end) (drop end s))) (all_of 4 (suc (levels - 1)) (until_by Counted 1) (take (length s - end) (drop end s)))) r
        → {m : ℕ} → m ≡ major_number (major_of (get_or s end 0 / 32)) → {y : ℕ} → y ≡ x / 4294967296 → {v : Bool} → v ≡ may_tag_by n (eqb m 2) y → v ≡ true → Quick (told_of (length s) (one_of 4 (suc levels) s)) x
    unfolding pass_told
    tag-made z q mj {y} ey {v} may ye =
        let hd = one_headed he is en in
        record {
          is = λ k. one-item (length s) levels s (behind-tag hd levels (omega arith) (omega arith) (omega (arith, dp.level)) z
              (tag-good n (levels - 1) (head-room hd) (span r) long (q.is (sh.known k)) (span x) (shifted sh k) refl mj (may ∙ ap (may_tag_by n _) ey) ye refl));
        }

pub deeper : {s : List ℕ} {levels : ℕ} → Small s → (levels ≡ 0 → ⊥) → Deeper s levels
deeper h n = record { small = h; level = omega arith }

pub ruleset list_ways = (quick_not, list_array, list_map)

pub ruleset tag_ways = (quick_not, tag-made)

pub ruleset part_ways = (quick_not, part-opened)

-- ITEMS, ONE BEHIND THE OTHER

module _ {d : ℕ} {s : List ℕ} {first : Until} {at size : ℕ} (mode : Mode) (n : ℕ) (run : Run 4 (suc d) s first at size (until_by mode n)) where
  module _ {r : ℕ} (q : Quick (told_of (length (take (length s - at) (drop at s))) (one_of 4 (suc d) (take (length s - at) (drop at s)))) r) (k : r ≡ 0xffffffffffffffff → ⊥) where
    step-told : Told 1 (take (length s - at) (drop at s)) (r % 4294967296) (r / 4294967296)
    step-told = let t = take (length s - at) (drop at s) in told_of_lem 1 t (r % 4294967296) (r / 4294967296) (one_of 4 (suc d) t) (one-leaves 4 (suc d) t) (q.is k)

    step-inside : at + r % 4294967296 ≤ length s
    step-inside = omega (arith, step-told.ends, run.inside, length-take (length s - at) (drop at s), length-drop at s)

    pub step_add : {e : ℕ} → e ≡ r % 4294967296 → length s * 1 < 2 ^ 63 → at + e < 2 ^ 64
    step_add h long = omega (arith, step-inside)

    pub step-size : {z : ℕ} → z ≡ r / 4294967296 → length s * 1 < 2 ^ 63 → size + z < 2 ^ 64
    step-size h long = omega (arith, step-told.size, step-inside, run.small)

    pub step_less : {e : ℕ} → e ≡ r % 4294967296 → length s - (at + e) < length s - at
    step_less h = omega (arith, step-told.some, step-inside)

    pub step-on : {t : Bool} → Turned s at mode n t → not t ≡ true → length s * 1 < 2 ^ 63 → {e z m : ℕ} → e ≡ r % 4294967296 → z ≡ r / 4294967296 → m ≡ n - 1 → Run 4 (suc d) s first (at + e) (size + z) (until_by mode m)
    unfolding pass_told after_told
    step-on tu y long {e} {z} {m} a b c =
        let p : at + e ≡ min (at + r % 4294967296) (2 ^ 64 - 1) = omega (arith, step_add a long) in
        let o : size + z ≡ min (size + r / 4294967296) (2 ^ 64 - 1) = omega (arith, step-size b long) in
        run_on run tu y (span r) long (q.is k) (Ok (record { end = at + e; size = size + z })) (λ j. passed (p j) (o j)) refl c

    pub step_going : 0 < n → {t : Bool} → Ends (take (length s - at) (drop at s)) t → t ≡ false → length s * 1 < 2 ^ 63 → {e z m : ℕ} → e ≡ r % 4294967296 → z ≡ r / 4294967296 → m ≡ n - 1 → Run 4 (suc d) s first (at + e) (size + z) (until_by mode m)
    step_going more en y = step-on (going mode more (en.some y) (en.other y)) refl

  module _ {t : Bool} (tu : Turned s at mode n t) (y : t ≡ true) (long : length s * 1 < 2 ^ 63) {end : ℕ} (c : end ≡ capped at (behind_by mode)) (sm : Small s) where
    pub over_halves : Halves end size
    over_halves =
        let i = tu.inside y run.inside in
        record { ends = omega (arith, sm.is); small = omega (arith, sm.is, run.small, run.inside) }

    pub run-made : {r : ℕ} → r ≡ size * 4294967296 + end → Quick (told_of (length s) (all_of 4 (suc d) first s)) r
    run-made e = quick_made over_halves.ends e (run-over run tu (ap not y) long c refl)

pub ruleset step_ways = (quick_not, run-made)

-- the answer for the caller
pub quick_told : (s : List ℕ) (res : Result ℕ) {r e k : ℕ} {o : PassTold} → Quick (told_of (length s) res) r → (r ≡ 0xffffffffffffffff → ⊥) → e ≡ r % 4294967296 → k ≡ r / 4294967296 → o ≡ passed e k → o ≡ told_of (length s) res
quick_told s res q n a b h = h ∙ (λ j. passed (a j) (b j)) ∙ q.is n

pub small_all : {s : List ℕ} → length s ≤ 0xfffffffe → Small s
small_all h = record { is = omega arith }
