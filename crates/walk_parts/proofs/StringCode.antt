-- The walk over bytes: strings, chunks and heads, a lemma for each way through the functions outside the cycle.
-- Assumes nothing.
use Prim.Native.Nat.{ℕ, suc, ◌+◌, ◌-◌, ◌/◌, ◌≤◌, ◌<◌}
use native.Mathlib.Omega.{arith}
use mathlib.Core.Path.{◌≡◌, refl, sym, ap, ◌∙◌}
use mathlib.Core.Bool.{Bool, true, false}
use mathlib.Core.List.{List, [], ◌∷◌}
use lib.Dec.{eqb}
use lib.ListN.{length, take, drop, get_or, length-drop, length-take}
use borrow.Author.Tests.{le-leb, lt-leb, eq-eqb, ne_eqb}
use Rattle.cbor.specs.Refusals.{Result, ok, refuse, bind, not_utf8, ends_inside, not_well_formed}
use Rattle.cbor.specs.Items.{Kind, Size, definite, indefinite, Chunk}
use Rattle.cbor.specs.Heads.{Major, strings, major_number, major_of, Head, next_head, taking}
use Rattle.cbor.specs.Utf8.{first_bad, is_utf8}
use Rattle.cbor.specs.Valid.{is_text}
use Rattle.cbor.specs.Decode.{content_at, chunk_by, chunk_at}
use Rattle.refusal.specs.RefusalKinds.{kind_number}
use Rattle.head.specs.HeadAnswers.{head_told, size_information, head_from, head_at}
use Rattle.walk_answer.specs.WalkAnswers.{PassTold, passed, pass_refused, pass_told, map_result, told_of, chunk_contents, Headed, Within}
use Rattle.cbor.specs.Flags.{kind_of}
use Rattle.refusal.specs.declared.Refusal.{Refusal}
use Rattle.refusal.specs.declared.RefusalKind.TheVariants.{NotUtf8, EndsInside, NotWellFormed}
use Rattle.head.specs.declared.HeadAt.{HeadAt}
use Rattle.walk_answer.proofs.ItemLeaves.{LowSize, HeadLeft, head-left}
use Rattle.std.specs.Prelude.{Ok, Err}
use Rattle.std.specs.Prelude as std

-- STRINGS

pub text-yes : {x : ℕ} (s : List ℕ) (t : Bool) → t ≡ true → x ≡ first_bad s → eqb x (length s) ≡ is_text (kind_of t) s
unfolding is_text kind_of is_utf8
text-yes s t e h = rw (e, h)

pub text-no : (s : List ℕ) (t : Bool) → t ≡ false → true ≡ is_text (kind_of t) s
unfolding is_text kind_of
text-no s t e = rw e

pub ruleset text_ways = (text-yes, text-no)

pub major-text : (t : Bool) → t ≡ true → 3 ≡ major_number (strings (kind_of t))
unfolding major_number kind_of
major-text t e = rw e

pub major-bytes : (t : Bool) → t ≡ false → 2 ≡ major_number (strings (kind_of t))
unfolding major_number kind_of
major-bytes t e = rw e

pub ruleset major_ways = (major-text, major-bytes)

content-is : (k : Kind) (n : ℕ) (left : ℕ) (r : List ℕ) → n ≤ length r → content_at k n left r ≡ elim (is_text k (take n r)) [ true ↦ ok (take n r) (drop n r) | false ↦ refuse not_utf8 left ]
unfolding content_at taking bind
content-is k n left r h = rw (le-leb n (length r) h, content_at, taking)

module _ (s : List ℕ) (from n : ℕ) (k : Bool) {t : PassTold} where
  pub content-short : length s - from < n → t ≡ pass_refused (kind_number EndsInside) 0 → t ≡ told_of (length s) (map_result length (content_at (kind_of k) n (length s) (drop from s)))
  unfolding content_at taking bind map_result told_of kind_number
  content-short h e =
      let l : length (drop from s) < n = omega (arith, length-drop from s) in
      let z : 0 ≡ length s - length s = omega arith in
      e ∙ rw (lt-leb n (length (drop from s)) l, content_at, taking) (ap (pass_refused ends_inside) z)

module _ {s : List ℕ} {from : ℕ} (n : ℕ) (k : Bool) {v : Bool} (w : Within s from) (h : n ≤ length s - from) (i : v ≡ is_text (kind_of k) (take (from + n - from) (drop from s))) where
  content-at : content_at (kind_of k) n (length s) (drop from s) ≡ elim v [ true ↦ ok (take n (drop from s)) (drop n (drop from s)) | false ↦ refuse not_utf8 (length s) ]
  content-at =
      let l : n ≤ length (drop from s) = omega (arith, length-drop from s) in
      let m : from + n - from ≡ n = omega arith in
      content-is (kind_of k) n (length s) (drop from s) l
      ∙ ap (λ (b : Bool). elim b [ true ↦ ok (take n (drop from s)) (drop n (drop from s)) | false ↦ refuse not_utf8 (length s) ]) (sym (i ∙ ap (λ (k' : ℕ). is_text (kind_of k) (take k' (drop from s))) m))

  pub content-good : {t : PassTold} → v ≡ true → t ≡ passed (from + n) (from + n - from) → t ≡ told_of (length s) (map_result length (content_at (kind_of k) n (length s) (drop from s)))
  unfolding map_result told_of
  content-good y e =
      let p : from + n ≡ length s - length (drop n (drop from s)) = omega (arith, length-drop n (drop from s), length-drop from s, w.inside) in
      let q : from + n - from ≡ length (take n (drop from s)) = omega (arith, length-take n (drop from s), length-drop from s) in
      e ∙ rw content-at (rw y (λ j. passed (p j) (q j)))

  pub content-bad : {t : PassTold} → v ≡ false → t ≡ pass_refused (kind_number NotUtf8) 0 → t ≡ told_of (length s) (map_result length (content_at (kind_of k) n (length s) (drop from s)))
  unfolding map_result told_of kind_number
  content-bad y e = let z : 0 ≡ length s - length s = omega arith in e ∙ rw content-at (rw y (ap (pass_refused not_utf8) z))

pub ruleset content_ways = (content-short, content-good, content-bad)

-- HEADS

-- a head that the code has, as it was read
pub record Got (s : List ℕ) (h : HeadAt) : Type 0 where
  pub head : Head
  pub rest : List ℕ
  pub is : next_head s ≡ ok head rest
  pub major : h.major ≡ major_number head.major
  pub info : h.info ≡ size_information head.size head.argument
  pub argument : h.argument ≡ head.argument
  pub left : HeadLeft s (major_of (get_or s 0 0 / 32)) head rest
  pub ends : h.end ≡ length s - length rest
  pub drops : drop h.end s ≡ rest

got_of : (s : List ℕ) (h : HeadAt) (res : Result Head) → next_head s ≡ res → head_told (Ok h) ≡ head_from (length s) res → Got s h
unfolding head_told head_from
got_of s h (ok d r) i e =
    let l = head-left s i in
    let n : h.end ≡ length s - length r = cc in
    record { head = d; rest = r; is = i; major = cc; info = cc; argument = cc; left = l; ends = n; drops = ap (λ (k : ℕ). drop k s) n ∙ sym l.left.drops }
got_of s h (refuse n left) i e = let z : ◌≡◌ {A = ℕ} 0 1 = cc in absurd (omega arith)

pub got : {s : List ℕ} {h : HeadAt} → Headed s h → Got s h
unfolding head_at
got {s} {h} e = got_of s h (next_head s) refl e.is

pub got_both : {X : Type 0} {s : List ℕ} {h : HeadAt} (g : Got s h) (f : ℕ → List ℕ → X) → f h.argument (drop h.end s) ≡ f g.head.argument g.rest
got_both g f = λ j. f (g.argument j) (g.drops j)

pub headed : (s : List ℕ) {h : HeadAt} (a : std.Result HeadAt Refusal) → head_told a ≡ head_at s 0 → a ≡ Ok h → Headed s h
headed s a e i = record { is = rw i at e }

pub head-room : {s : List ℕ} {h : HeadAt} → Headed s h → Within s h.end
head-room {s} e = let g = got e in record { inside = omega (arith, g.ends) }

pub head-inside : {s : List ℕ} {h : HeadAt} → Headed s h → h.end ≤ length s
head-inside e = (head-room e).inside

-- a head that is refused, and whatever begins with it
lost_of : {A : Type 0} (f : A → ℕ) (s : List ℕ) (e : Refusal) (res : Result Head) (go : Head → List ℕ → Result A) → head_told (Err e) ≡ head_from (length s) res
    → pass_told (Err e) ≡ told_of (length s) (map_result f (bind res go))
unfolding head_told head_from pass_told told_of map_result bind
lost_of f s e (ok d r) go h = let z : ◌≡◌ {A = ℕ} 0 1 = cc in absurd (omega arith)
lost_of f s e (refuse n left) go h =
    let i : kind_number e.kind ≡ n = cc in
    let j : e.place ≡ length s - left = cc in
    λ k. pass_refused (i k) (j k)

pub head-lost : {A : Type 0} (s : List ℕ) {e : Refusal} (f : A → ℕ) (go : Head → List ℕ → Result A) (a : std.Result HeadAt Refusal) → head_told a ≡ head_at s 0 → a ≡ Err e
    → pass_told (Err e) ≡ told_of (length s) (map_result f (bind (next_head s) go))
unfolding head_at
head-lost s {e} f go a h i = lost_of f s e (next_head s) go (rw i at h)

-- CHUNKS

pub sized-made : {A B : Type 0} (f : B → ℕ) (g : A → ℕ) (mk : A → B) → ((x : A) → f (mk x) ≡ g x) → (res : Result A) → map_result f (bind res (λ x r. ok (mk x) r)) ≡ map_result g res
unfolding map_result bind
sized-made f g mk h (ok x r) = ap (λ (n : ℕ). ok n r) (h x)
sized-made f g mk h (refuse n left) = refl

-- 31 is an indefinite length, and no other additional information
pub size-definite : {s r : List ℕ} {m : Major} {h : Head} → HeadLeft s m h r → (P : Size → Type 0) → (size_information h.size h.argument ≡ 31 → ⊥)
    → ((w : _) → P (definite w)) → P h.size
unfolding size_information
size-definite {h = h} l P n f = by h.size n
  where
    by : (z : Size) → (size_information z h.argument ≡ 31 → ⊥) → P z
    by (definite w) i = f w
    by indefinite i = absurd (i refl)

pub size-indefinite : {s r : List ℕ} {m : Major} {h : Head} → HeadLeft s m h r → size_information h.size h.argument ≡ 31 → h.size ≡ indefinite
unfolding size_information
size-indefinite {m = m} {h = h} l e = by h.size l.low e
  where
    by : (z : Size) → LowSize m z h.argument → size_information z h.argument ≡ 31 → z ≡ indefinite
    by (definite w) i e = absurd (omega arith)
    by indefinite i e = refl

pub chunk_none : (k : Bool) (s : List ℕ) {t : PassTold} → length s ≡ 0 → t ≡ pass_refused (kind_number EndsInside) 0 → t ≡ told_of (length s) (map_result chunk_contents (chunk_at (kind_of k) s))
unfolding chunk_at map_result told_of kind_number
chunk_none k [] h e = e
chunk_none k (b ∷ s) h e = absurd (omega arith)

pub chunk_other : (k : Bool) (s : List ℕ) {m : ℕ} {t : PassTold} → (length s ≡ 0 → ⊥) → m ≡ major_number (strings (kind_of k)) → (get_or s 0 0 / 32 ≡ m → ⊥) → t ≡ pass_refused (kind_number NotWellFormed) 0
    → t ≡ told_of (length s) (map_result chunk_contents (chunk_at (kind_of k) s))
unfolding chunk_at map_result told_of kind_number
chunk_other k [] n i h e = absurd (n refl)
chunk_other k (b ∷ s) {m} n i h e =
    let z : 0 ≡ suc (length s) - suc (length s) = omega arith in
    e ∙ rw (ne_eqb (b / 32) (major_number (strings (kind_of k))) (λ x. h (x ∙ sym i)), chunk_at) (ap (pass_refused not_well_formed) z)

-- a chunk of the right major type, by its head
chunk_is : (k : Kind) (s : List ℕ) {m : ℕ} → (length s ≡ 0 → ⊥) → m ≡ major_number (strings k) → get_or s 0 0 / 32 ≡ m
    → chunk_at k s ≡ bind (next_head s) (λ h r. chunk_by k h.size h.argument (length s) r)
unfolding chunk_at
chunk_is k [] n i h = absurd (n refl)
chunk_is k (b ∷ s) n i h = rw (eq-eqb (b / 32) (major_number (strings k)) (h ∙ i), chunk_at)

module _ (k : Bool) (s : List ℕ) {m : ℕ} (n : length s ≡ 0 → ⊥) (i : m ≡ major_number (strings (kind_of k))) (j : get_or s 0 0 / 32 ≡ m) (a : std.Result HeadAt Refusal) (told : head_told a ≡ head_at s 0) where
  pub chunk_lost : {e : Refusal} → a ≡ Err e → pass_told (Err e) ≡ told_of (length s) (map_result chunk_contents (chunk_at (kind_of k) s))
  chunk_lost h = rw (chunk_is (kind_of k) s n i j) (head-lost s chunk_contents _ a told h)

  module _ {h : HeadAt} (e : a ≡ Ok h) where
    pub chunk_room : Within s h.end
    chunk_room = head-room (headed s a told e)

    chunk_at_lem : (g : Got s h) → chunk_at (kind_of k) s ≡ chunk_by (kind_of k) g.head.size g.head.argument (length s) g.rest
    unfolding bind
    chunk_at_lem g = chunk_is (kind_of k) s n i j ∙ rw g.is

    pub chunk_open : {t : PassTold} → h.info ≡ 31 → t ≡ pass_refused (kind_number NotWellFormed) 0 → t ≡ told_of (length s) (map_result chunk_contents (chunk_at (kind_of k) s))
    unfolding chunk_by map_result told_of kind_number
    chunk_open o f =
        let g = got (headed s a told e) in
        let z : 0 ≡ length s - length s = omega arith in
        f ∙ ap (pass_refused not_well_formed) z
        ∙ sym (ap (λ (u : Result Chunk). told_of (length s) (map_result chunk_contents u)) (chunk_at_lem g
        ∙ ap (λ (x : Size). chunk_by (kind_of k) x g.head.argument (length s) g.rest) (size-indefinite g.left (sym g.info ∙ o))))

    pub chunk_content : {t : PassTold} → (h.info ≡ 31 → ⊥) → t ≡ told_of (length s) (map_result length (content_at (kind_of k) h.argument (length s) (drop h.end s)))
        → t ≡ told_of (length s) (map_result chunk_contents (chunk_at (kind_of k) s))
    unfolding chunk_by chunk_contents
    chunk_content o f =
        let g = got (headed s a told e) in
        f ∙ got_both g (λ n r. told_of (length s) (map_result length (content_at (kind_of k) n (length s) r)))
        ∙ size-definite g.left
        (λ z. told_of (length s) (map_result length (content_at (kind_of k) g.head.argument (length s) g.rest)) ≡ told_of (length s) (map_result chunk_contents (chunk_by (kind_of k) z g.head.argument (length s) g.rest)))
        (λ x. o (g.info ∙ x))
        (λ w. ap (told_of (length s)) (sym (sized-made chunk_contents length (λ b. record { width = w; content = b }) (λ b. refl) (content_at (kind_of k) g.head.argument (length s) g.rest))))
        ∙ sym (ap (λ (u : Result Chunk). told_of (length s) (map_result chunk_contents u)) (chunk_at_lem g))

pub ruleset chunk_ways = (chunk_none, chunk_other, chunk_lost, chunk_open, chunk_content)
