-- A walk that a path guides: what its functions find is so.
-- Assumes nothing.
use Prim.Native.Nat.{ℕ, zero, suc, ◌+◌, ◌-◌, ◌*◌, ◌/◌, ◌%◌, ◌^◌, ◌≤◌, ◌<◌, min}
use native.Mathlib.Omega.{arith}
use mathlib.Core.Path.{◌≡◌, refl, sym, ap, ◌∙◌}
use mathlib.Core.Bool.{Bool, true, false}
use mathlib.Core.List.{List, [], ◌∷◌}
use lib.ListN.{length, take, drop, get_or}
use borrow.Author.Tests.{eq-eqb, ne_eqb}
use mir.Syntax.{w8}
use mir.Val.{Fits}
use Rattle.memory.specs.Sums.{capped}
use Rattle.cbor.specs.Refusals.{Result, ok}
use Rattle.cbor.specs.Valid.{Bytes}
use Rattle.cbor.specs.Decode.{Until, counted, ended, Step, finished, another, step_at, extent}
use Rattle.cbor.proofs.Heads.{bytes_cut}
use Rattle.head.specs.HeadAnswers.{head_told, head_at}
use Rattle.head.specs.declared.HeadAt.{HeadAt}
use Rattle.walk_answer.specs.WalkAnswers.{passed, pass_told, told_of, one_of, all_of, until_by, mode_by, behind_by, step_by, Turned, after_told}
use Rattle.quick_walk.specs.QuickAnswers.{Quick}
use Rattle.walk_answer.specs.declared.Passage.{Passage}
use Rattle.walk_answer.proofs.Leaves.{Left}
use Rattle.walk_answer.proofs.Slices.{bytes_of}
use Rattle.walk_answer.proofs.WalkCycle.{reached, tail_is, all-leaves, all_one, all_double}
use Rattle.walk_parts.proofs.WalkItems.{all_told}
use Rattle.path.specs.Following.{Place, at, onto, behind_one, past_one, step_to, standing, nth_from, child_by, child_in, numbered, follow_from, trace}
use Rattle.path.specs.StepAnswers.{Step as StepOf}
use Rattle.looking.specs.GuidedAnswers.{Walks, Passes, Below, Leads, WayInside, WayAmong, WayThrough, IfFound, Inside, Among, Through}
use Rattle.looking.specs.declared.guided.Way.{Way}
use Rattle.path.proofs.Stepping.{left_of, less_by, less_mode, past_some, skip, Got, got, mode_is, child-is}
use Rattle.looking.proofs.Joining.{all-over, all-on, Last, last_of, not_ended, all_join, all_raised, array-one, map-one}
use Rattle.std.specs.Prelude.{Ok, Some, None}
use Rattle.std.specs.Prelude as std
use Rattle.refusal.specs.declared.Refusal.{Refusal}
use Rattle.walk_answer.specs.declared.Mode.{Mode}
use Rattle.walk_answer.specs.declared.Mode.TheVariants.{Counted, Ended}

-- PAST ITEMS

raised : {d k : ℕ} (s : List ℕ) (i : ℕ) {r : List ℕ} → Bytes s → d ≤ 16 → Walks d (counted k) (drop i s) r → Walks 16 (counted k) (drop i s) r
raised {d} {k} s i b l w = record { size = w.size; is = all_raised d k (drop i s) (bytes_cut i s b).1 l w.is }

module _ {s : List ℕ} {from d : ℕ} (b : Below s from d) (g : (i : ℕ) → Fits w8 (get_or s i 0)) (mode : Mode) (count : ℕ) where
  pub pass_over : {t : Bool} {r : ℕ} → Turned s from mode count t → t ≡ true → length s * 1 < 2 ^ 63 → r ≡ capped from (behind_by mode) → Passes s from d (until_by mode count) r
  unfolding step_by
  pass_over {t} {r} tu y long e =
      let i = tu.inside y b.inside in
      let n : from + behind_by mode ≡ r = omega arith in
      record {
        is = λ h. record {
          size = 0;
          is = all-over (suc d) (until_by mode count) (drop from s) (tu.is ∙ ap (λ (v : Bool). step_by v mode count s from) y) ∙ ap (λ (x : ℕ). ok 0 (drop x s)) n;
        };
        bytes = bytes_of s g;
      }

  pub pass_not : {r : ℕ} → length s * 1 < 2 ^ 63 → r ≡ 0xffffffffffffffff → Passes s from d (until_by mode count) r
  pass_not long e = record { is = λ h. absurd (omega arith); bytes = bytes_of s g }

  module _ (inner : std.Result Passage Refusal) (long : length s * 1 < 2 ^ 63) (told : pass_told inner ≡ told_of (length (take (length s - from) (drop from s))) (all_of 4 (suc d) (until_by mode count) (take (length s - from) (drop from s)))) (part : std.Result Passage Refusal)
      (after : pass_told part ≡ after_told from 0 (pass_told inner)) where
    pub pass_made : {m : Passage} → part ≡ Ok m → Passes s from d (until_by mode count) m.end
    pass_made {m} f =
        let res = all_of 4 (suc d) (until_by mode count) (drop from s) in
        let q = reached res part (all_told 4 (suc d) (until_by mode count) inner part (record { inside = b.inside }) long told after) f in
        let l : Left 0 (drop from s) q.rest m.size = rw q.is at (all-leaves 4 (suc d) (until_by mode count) (drop from s)) in
        let r : q.rest ≡ drop m.end s = (left_of 0 s from q.rest b.inside l).drops ∙ ap (λ (x : ℕ). drop x s) (sym q.ends) in
        record { is = λ h. record { size = m.size; is = q.is ∙ ap (ok m.size) r }; bytes = bytes_of s g }

  pub pass_quick : {r x y : ℕ} → length s * 1 < 2 ^ 63 → Quick (told_of (length (take (length s - from) (drop from s))) (all_of 4 (suc d) (until_by mode count) (take (length s - from) (drop from s)))) r
      → (r ≡ 0xffffffffffffffff → ⊥) → r < 2 ^ 64 → x ≡ r % 4294967296 → y ≡ from + x → Passes s from d (until_by mode count) y
  unfolding pass_told after_told
  pass_quick {r} {x} {y} long q n l e f =
      let a : y ≡ min (from + r % 4294967296) (2 ^ 64 - 1) = omega (arith, b.inside) in
      let z : r / 4294967296 ≡ min (0 + r / 4294967296) (2 ^ 64 - 1) = omega arith in
      pass_made (Ok (record { end = r % 4294967296; size = r / 4294967296 })) long (q.is n) (Ok (record { end = y; size = r / 4294967296 })) (λ j. passed (a j) (z j)) refl

pub ruleset pass_ways = (pass_over, pass_not, pass_quick)

-- THE ITEM AT THE END OF THE PATH

pub whole_not : {s path : List ℕ} {i d : ℕ} → Inside s path i d None
unfolding IfFound
whole_not = record { told = tt }

pub whole-found : {s : List ℕ} {i d : ℕ} {end : ℕ} → Below s i d → Passes s i d (until_by Counted 1) end → end ≤ length s → Inside s [] i d (Some (record { start = i; end = end; behind = end }))
unfolding IfFound until_by follow_from
whole-found {s} {i} {d} b p h =
    let w = p.is h in
    record { told = record { walks = w; leads = record { follows = λ j. refl; item = raised s i p.bytes b.low w; starts = b.inside; ends = h; inside = h } } }

pub ruleset whole_ways = (whole_not, whole-found)

-- AMONG SEVERAL

pub among_not : {s path : List ℕ} {from d : ℕ} {mode : Mode} {count before : ℕ} → Among s path from d mode count before None
unfolding IfFound
among_not = record { told = tt }

pub among_at : {s : List ℕ} {from d i : ℕ} → Below s from d → i ≤ length s → Below s i d
among_at b h = record { inside = h; low = b.low }

inner_way : {s path : List ℕ} {i d : ℕ} {a : std.Option Way} {w : Way} → Inside s path i d a → a ≡ Some w → WayInside s path i d w
unfolding IfFound
inner_way inn e = rw e at inn.told

pub among_behind : {s path : List ℕ} {from d i : ℕ} {a : std.Option Way} {w : Way} → Below s from d → Inside s path i d a → a ≡ Some w → Below s w.behind d
among_behind b inn e = record { inside = (inner_way inn e).leads.inside; low = b.low }

module _ {s : List ℕ} {from d : ℕ} (mode : Mode) (count before : ℕ) {i : ℕ} (b : Below s from d) (p : Passes s from d (until_by Counted before) i) (h : i ≤ length s) {left : ℕ} (el : left ≡ count - before) {t : Bool} (tu : Turned s i mode left t) (no : t ≡ false) where
  stands : step_at (until_by mode (count - before)) (drop i s) ≡ another (until_by mode (count - before - 1))
  unfolding step_by
  stands =
      ap (λ (x : ℕ). step_at (until_by mode x) (drop i s)) (sym el) ∙ tu.is ∙ ap (λ (v : Bool). step_by v mode left s i) no
      ∙ ap (λ (x : ℕ). another (until_by mode (x - 1))) el

  module _ {path : List ℕ} {a : std.Option Way} (inn : Inside s path i d a) {w : Way} (e : a ≡ Some w) {n end : ℕ} (en : n ≡ left - 1) (q : Passes s w.behind d (until_by mode n) end) (k : end ≤ length s) where
    way : WayInside s path i d w
    way = inner_way inn e

    one : one_of 4 (suc d) (drop i s) ≡ ok way.walks.size (drop w.behind s)
    one = sym (all_one 4 (suc d) (drop i s)) ∙ way.walks.is

    others : all_of 4 (suc d) (until_by mode (count - before - 1)) (drop w.behind s) ≡ ok (q.is k).size (drop end s)
    others = ap (λ (x : ℕ). all_of 4 (suc d) (until_by mode x) (drop w.behind s)) (ap (λ (x : ℕ). x - 1) (sym el) ∙ sym en) ∙ (q.is k).is

    pub among_found : Among s path from d mode count before (Some (record { start = w.start; end = w.end; behind = end }))
    unfolding IfFound until_by
    among_found =
        let f = p.is h in
        let v = way.leads in
        let u = sym (less_mode before mode count) in
        let on = all-on (suc d) (until_by mode (count - before)) (until_by mode (count - before - 1)) (drop i s) stands one others in
        let join = all_join (suc d) before (until_by mode count) (drop from s) f.is (ap (λ (x : Until). step_at x (drop i s)) (sym u) ∙ stands) (ap (λ (x : Until). all_of 4 (suc d) x (drop i s)) (sym u) ∙ on) in
        record {
          told = record {
            at = i;
            front = raised s from p.bytes b.low f;
            stands = stands;
            walks = record { size = _; is = join };
            leads = record { follows = v.follows; item = v.item; starts = v.starts; ends = v.ends; inside = k };
          };
        }

pub ruleset among_ways = (among_not, among_found)

-- INSIDE AN ITEM

pub inside-empty : {s path : List ℕ} {i d : ℕ} {r : std.Option Way} → length path ≡ 0 → Inside s [] i d r → Inside s path i d r
inside-empty {s} {path} {i} {d} {r} h x = go path h
  where
    go : (q : List ℕ) → length q ≡ 0 → Inside s q i d r
    go [] h = x
    go (k ∷ q) h = absurd (omega arith)

-- the element or entry number k stands behind k of them
nth-at : (major k : ℕ) (u : Until) (s : List ℕ) {r : List ℕ} {z : ℕ} {v : Until} → all_of major 17 (counted k) s ≡ ok z r → step_at (less_by k u) r ≡ another v → nth_from major k u s ≡ at r
unfolding past_some onto behind_one standing step_to
nth-at major k u s {r} e st =
    skip major k u s ∙ ap (λ (x : Result ℕ). onto (behind_one x) (standing (less_by k u))) e ∙ ap (λ (y : Step). step_to y (λ v. at r)) st

-- a step into an item, and on from there
steps : {s p : List ℕ} {k : ℕ} {w : Way} (t q : List ℕ) → child_in k t ≡ at q → Leads s p q w → Leads s (k ∷ p) t w
unfolding follow_from numbered
steps {p = p} t q c l =
    record {
      follows = λ n. ap (λ (x : Place). numbered n x (follow_from (suc n) p)) c ∙ l.follows (suc n);
      item = l.item;
      starts = l.starts;
      ends = l.ends;
      inside = l.inside;
    }

none_left : (n : ℕ) (r : List ℕ) {v : Until} → step_at (counted n) r ≡ another v → n ≡ 0 → ⊥
unfolding step_at
none_left zero r {v} x o = let y : finished r ≡ another v = x in let o : ◌≡◌ {A = ℕ} 0 1 = cc in absurd (omega arith)
none_left (suc n) r x o = omega arith

some_left : (n : ℕ) (r : List ℕ) → (n ≡ 0 → ⊥) → step_at (counted n) r ≡ another (counted (n - 1))
unfolding step_at
some_left zero r o = absurd (o refl)
some_left (suc n) r o = let m : n ≡ suc n - 1 = omega arith in ap (λ (x : ℕ). another (counted x)) m

module _ (s : List ℕ) (i : ℕ) {h : HeadAt} (a : std.Result HeadAt Refusal) (told : head_told a ≡ head_at s i) (f : a ≡ Ok h) where
  g : Got s i h
  g = got s i a told f

  pub inside-room : {d e : ℕ} → Below s i d → e ≡ d - 1 → Below s h.end e
  inside-room b l = record { inside = omega (arith, g.ends); low = omega (arith, b.low) }

  until_is : {mode : Mode} → mode ≡ mode_by h.info → until_by mode h.argument ≡ extent g.head.size g.head.argument
  until_is v = ap (λ (m : Mode). until_by m h.argument) v ∙ mode_is h.info h.argument ∙ g.extends

  module _ {p : List ℕ} (k d : ℕ) {mode : Mode} (v : mode ≡ mode_by h.info) where
    module _ (e : h.major ≡ 4) {w : Way} (am : WayAmong s p h.end d mode h.argument k w) where
      to_element_lem : child_in k (drop i s) ≡ at (drop am.at s)
      unfolding child_by
      to_element_lem =
          child-is k s i a told f ∙ rw (eq-eqb h.major 4 e, child_by)
          (ap (λ (u : Until). nth_from 4 k u (drop h.end s)) (sym (mode_is h.info h.argument) ∙ ap (λ (m : Mode). until_by m h.argument) (sym v))
          ∙ nth-at 4 k (until_by mode h.argument) (drop h.end s) am.front.is (ap (λ (u : Until). step_at u (drop am.at s)) (less_mode k mode h.argument) ∙ am.stands))

      in_array : WayInside s (k ∷ p) i (suc d) w
      in_array =
          record {
            walks = record {
              size = am.walks.size;
              is = all_one 4 (suc (suc d)) (drop i s) ∙ array-one d (drop i s) g.head g.rest g.is (sym g.major ∙ e) ((λ z. all_of 4 (suc d) (sym (until_is v) z) (sym g.drops z)) ∙ am.walks.is);
            };
            leads = steps (drop i s) (drop am.at s) to_element_lem am.leads;
          }

    module _ (e : h.major ≡ 5) (c : mode ≡ Counted) {w : Way} (am : WayAmong s p h.end d Counted (h.argument * 2) (k * 2 + 1) w) where
      open_is : counted h.argument ≡ extent g.head.size g.head.argument
      unfolding until_by
      open_is = ap (λ (m : Mode). until_by m h.argument) (sym c) ∙ until_is v

      key : Last 17 (k * 2) (drop h.end s) (drop am.at s)
      key = let n : k * 2 + 1 ≡ suc (k * 2) = omega arith in last_of 17 (k * 2) (drop h.end s) (ap (λ (x : ℕ). all_of 4 17 (counted x) (drop h.end s)) (sym n) ∙ am.front.is)

      to_value_lem : child_in k (drop i s) ≡ at (drop am.at s)
      unfolding child_by onto past_one behind_one until_by less_by
      to_value_lem =
          let o = none_left (h.argument * 2 - (k * 2 + 1)) (drop am.at s) am.stands in
          child-is k s i a told f ∙ rw (ne_eqb h.major 4 (λ x. omega arith), child_by) (rw (eq-eqb h.major 5 e)
          (ap (λ (u : Until). onto (nth_from 5 k u (drop h.end s)) (past_one 4)) (g.extends ∙ sym open_is)
          ∙ ap (λ (x : Place). onto x (past_one 4)) (nth-at 5 k (counted h.argument) (drop h.end s) (sym (all_double 17 k (drop h.end s)) ∙ key.front) (some_left (h.argument - k) key.before (λ x. o (omega arith))))
          ∙ ap behind_one key.last))

      in_map : WayInside s (k ∷ p) i (suc d) w
      unfolding until_by
      in_map =
          record {
            walks = record {
              size = am.walks.size;
              is = all_one 4 (suc (suc d)) (drop i s)
                  ∙ map-one d (drop i s) g.head g.rest g.is (sym g.major ∙ e) ((λ z. all_of 5 (suc d) (sym open_is z) (sym g.drops z)) ∙ sym (all_double (suc d) h.argument (drop h.end s)) ∙ am.walks.is);
            };
            leads = steps (drop i s) (drop am.at s) to_value_lem am.leads;
          }

-- the steps behind the first, as the code has them
same_among : {s p q : List ℕ} {from d e : ℕ} {mode : Mode} {count x k : ℕ} {r : std.Option Way} → q ≡ p → e ≡ d → x ≡ k → Among s q from e mode count x r → Among s p from d mode count k r
same_among a b c m = rw (← a, ← b, ← c) m

module _ (s path : List ℕ) (i levels : ℕ) {h : HeadAt} (a : std.Result HeadAt Refusal) (told : head_told a ≡ head_at s i) (f : a ≡ Ok h) (some : length path ≡ 0 → ⊥) (deep : levels ≡ 0 → ⊥) {x : ℕ} (st : StepOf (get_or path 0 0) x) {mode : Mode} (v : mode ≡ mode_by h.info) where
  pub inside-array : {r : std.Option Way} → h.major ≡ 4 → Among s (take (length path - 1) (drop 1 path)) h.end (levels - 1) mode h.argument x r → Inside s path i levels r
  unfolding IfFound
  inside-array {r} e am = go path levels some deep st.is am
    where
      by : (k : ℕ) (p : List ℕ) (d : ℕ) (r : std.Option Way) → IfFound (WayAmong s p h.end d mode h.argument k) r → IfFound (WayInside s (k ∷ p) i (suc d)) r
      by k p d (Some w) m = in_array s i a told f k d v e m
      by k p d None m = tt

      go : (q : List ℕ) (l : ℕ) → (length q ≡ 0 → ⊥) → (l ≡ 0 → ⊥) → x ≡ get_or q 0 0 → Among s (take (length q - 1) (drop 1 q)) h.end (l - 1) mode h.argument x r → Inside s q i l r
      go [] l n o y m = absurd (n refl)
      go (k ∷ p) zero n o y m = absurd (o refl)
      go (k ∷ p) (suc d) n o y m = let u : suc d - 1 ≡ d = omega arith in record { told = by k p d r (same_among (tail_is (k ∷ p) 1) u y m).told }

  pub inside-map : {r : std.Option Way} → h.major ≡ 5 → mode ≡ Counted → Among s (take (length path - 1) (drop 1 path)) h.end (levels - 1) Counted (h.argument * 2) (x * 2 + 1) r → Inside s path i levels r
  unfolding IfFound
  inside-map {r} e c am = go path levels some deep st.is am
    where
      by : (k : ℕ) (p : List ℕ) (d : ℕ) (r : std.Option Way) → IfFound (WayAmong s p h.end d Counted (h.argument * 2) (k * 2 + 1)) r → IfFound (WayInside s (k ∷ p) i (suc d)) r
      by k p d (Some w) m = in_map s i a told f k d v e c m
      by k p d None m = tt

      go : (q : List ℕ) (l : ℕ) → (length q ≡ 0 → ⊥) → (l ≡ 0 → ⊥) → x ≡ get_or q 0 0 → Among s (take (length q - 1) (drop 1 q)) h.end (l - 1) Counted (h.argument * 2) (x * 2 + 1) r → Inside s q i l r
      go [] l n o y m = absurd (n refl)
      go (k ∷ p) zero n o y m = absurd (o refl)
      go (k ∷ p) (suc d) n o y m = let u : suc d - 1 ≡ d = omega arith in record { told = by k p d r (same_among (tail_is (k ∷ p) 1) u (ap (λ (z : ℕ). z * 2 + 1) y) m).told }

pub ruleset inside_ways = (whole_not, inside-empty, inside-array, inside-map)

-- ALL OF THE BYTES

pub through_not : {s path : List ℕ} → Through s path None
unfolding IfFound
through_not = record { told = tt }

pub through_start : {s : List ℕ} → Below s 0 16
through_start = record { inside = omega arith; low = omega arith }

way_through : {s p : List ℕ} {k : ℕ} {w : Way} → Bytes s → length s ≤ 65535 → WayAmong s p 0 16 Ended 0 k w → WayThrough s (k ∷ p) w
unfolding until_by trace numbered less_by
way_through {s} {p} {k} b l m =
    record {
      bytes = b;
      short = l;
      walks = m.walks;
      traces = ap (λ (x : Place). numbered 0 x (follow_from 1 p)) (nth-at 4 k ended s m.front.is m.stands) ∙ m.leads.follows 1;
      item = m.leads.item;
      starts = m.leads.starts;
      ends = m.leads.ends;
    }

pub through_found : (s path : List ℕ) {x : ℕ} {r : std.Option Way} → ((i : ℕ) → Fits w8 (get_or s i 0)) → length s ≤ 65535 → (length path ≡ 0 → ⊥) → StepOf (get_or path 0 0) x → Among s (take (length path - 1) (drop 1 path)) 0 16 Ended 0 x r → Through s path r
unfolding IfFound
through_found s path {x} {r} g l some st m = go path some st.is m
  where
    by : (k : ℕ) (p : List ℕ) (r : std.Option Way) → IfFound (WayAmong s p 0 16 Ended 0 k) r → IfFound (WayThrough s (k ∷ p)) r
    by k p (Some w) m = way_through (bytes_of s g) l m
    by k p None m = tt

    go : (q : List ℕ) → (length q ≡ 0 → ⊥) → x ≡ get_or q 0 0 → Among s (take (length q - 1) (drop 1 q)) 0 16 Ended 0 x r → Through s q r
    go [] n y m = absurd (n refl)
    go (k ∷ p) n y m = record { told = by k p r (same_among (tail_is (k ∷ p) 1) refl y m).told }

-- a top item
pub through_at : {s : List ℕ} {i : ℕ} → i ≤ length s → Below s i 16
through_at h = record { inside = h; low = omega arith }

pub top-found : {s : List ℕ} {k i end all : ℕ} → length s ≤ 65535 → Passes s 0 16 (until_by Counted k) i → i ≤ length s → Passes s i 16 (until_by Counted 1) end → end ≤ length s → Passes s end 16 (until_by Ended 0) all → all ≤ length s
    → Through s (k ∷ []) (Some (record { start = i; end = end; behind = all }))
unfolding IfFound until_by trace numbered follow_from less_by
top-found {s} {k} {i} {end} {all} short p h q l o m =
    let front = p.is h in
    let own = q.is l in
    let one = sym (all_one 4 17 (drop i s)) ∙ own.is in
    let stands = not_ended 17 (drop i s) one in
    record {
      told = record {
        bytes = p.bytes;
        short = short;
        walks = record { size = _; is = all_join 17 k ended s front.is stands (all-on 17 ended ended (drop i s) stands one (o.is m).is) };
        traces = ap (λ (x : Place). numbered 0 x (follow_from 1 [])) (nth-at 4 k ended s front.is stands);
        item = own;
        starts = h;
        ends = l;
      };
    }

pub ruleset top_ways = (through_not, top-found)

pub through_top : {s path : List ℕ} {x : ℕ} {r : std.Option Way} → length path ≡ 1 → StepOf (get_or path 0 0) x → Through s (x ∷ []) r → Through s path r
through_top {s} {path} {x} {r} n st t = go path n st.is
  where
    go : (q : List ℕ) → length q ≡ 1 → x ≡ get_or q 0 0 → Through s q r
    go [] n e = absurd (omega arith)
    go (k ∷ []) n e = rw (← e) t
    go (k ∷ (j ∷ q)) n e = absurd (omega arith)

pub ruleset through_ways = (through_not, through_top, through_found)
