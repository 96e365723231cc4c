-- Hexadecimal text: pairs side by side, a byte whose digits may stand apart, and the loop over both.
-- Assumes nothing.
use mathlib.Core.Path.{◌≡◌, refl, sym, ap, ◌∙◌}
use mathlib.Core.List.{List, [], ◌∷◌}
use mathlib.Core.Bool.{true, false}
use Prim.Native.Nat.{ℕ, ◌+◌, ◌-◌, ◌*◌, ◌/◌, ◌≤◌, ◌<◌, min}
use native.Mathlib.Omega.{arith}
use lib.ListN.{length, take, drop, get_or}
use Rattle.notation.specs.Numbers.{is_digit, digit_value}
use Rattle.notation.specs.Literals.{stands_for, bad, after, no_comment, no_half, high, hex_digit, half_end, hex_from, hex_content}
use Rattle.scanning.specs.Stands.{span}
use Rattle.literal_body.specs.LiteralAnswers.{digit_number, Put}
use Rattle.literal_body.specs.LiteralReading.{Before, Within, Yields, Progressed, DecodesInto}
use Rattle.literal_body.specs.declared.Progress.{Progress}
use Rattle.hex_gaps.specs.GapAnswers.{Blank, Gap, Gaps}
use Rattle.hex_body.specs.HexAnswers.{byte_read, ByteRead}
use Rattle.hex_weight.specs.Weights.{pair_weight, PairThere}
use Rattle.hex_pairs.specs.PairAnswers.{HexDigits, PairsPut}
use Rattle.hex_body.specs.declared.NextByte.TheVariants.{Byte, End, Wrong}
use Rattle.std.specs.Prelude.{None, Some}
use Rattle.literal_body.proofs.LiteralCode.{put-none, digit-yes, digit-no, digit-number}
use Rattle.literal_body.proofs.ReadingCode.{span-step, span-over, yields_none, progress_start, progress_more, progress_append, decodes-good, decodes-bad}
use Rattle.hex_pairs.proofs.DigitCode.{digit-front, two_digits, pair-yields}
use Rattle.hex_pairs.proofs.PairsCode.{run-within}
use Rattle.hex_weight.proofs.WeightCode.{weight_digit}

-- PAIRS

word-yields : (s : List ℕ) (at stop w : ℕ) → at + 2 ≤ stop → stop ≤ length s → w ≡ pair_weight (get_or s at 0) * 16 + pair_weight (get_or s (at + 1) 0) → w < 256 → Yields hex_content s stop at (at + 2) (w ∷ [])
word-yields s at stop w h l e g =
    let a = weight_digit (get_or s at 0) (omega arith) in
    let b = weight_digit (get_or s (at + 1) 0) (omega arith) in
    let f : w ≡ digit_value (get_or s at 0) * 16 + digit_value (get_or s (at + 1) 0) = e ∙ (λ i. a.1 i * 16 + b.1 i) in
    rw f (pair-yields s at stop h l a.0 b.0)

-- with blanks behind
yields-blank : {s : List ℕ} {stop from at r : ℕ} {ws : List ℕ} → Yields hex_content s stop from at ws → Blank s stop at r → Yields hex_content s stop from r ws
unfolding hex_content
yields-blank {ws = ws} x y =
    record { is = x.is ∙ ap (after ws) (y.is no_half); ahead = omega (arith, x.ahead, y.ahead); inside = omega (arith, x.inside, y.inside); short = omega (arith, x.short, y.ahead) }

-- the loop over pairs
module _ {s : List ℕ} {stop from : ℕ} {b b₁ : List ℕ} {pos at p size : ℕ} (i : Within s from stop) (inv : Progressed hex_content s stop from b b₁ pos (record { next = at; pos = p; size = size })) where
  pub close_on : {b₂ : List ℕ} {w p' r : ℕ} → 2 ≤ stop - at → PairThere s at w → w < 256 → Put b₁ b₂ p p' (w ∷ []) → Blank s stop (at + 2) r
      → Progressed hex_content s stop from b b₂ pos (record { next = r; pos = p'; size = size + 1 })
  close_on {b₂} {w} {p'} {r} h e g x y = progress_more inv (yields-blank (word-yields s at stop w (omega arith) i.inside (e.is g) g) y) x refl

-- a blank or a comment between them
module _ {s : List ℕ} {stop from : ℕ} {b b₁ : List ℕ} {pos at p size r : ℕ} (y : Gap s stop at r) where
  pub close_gap : Progressed hex_content s stop from b b₁ pos (record { next = at; pos = p; size = size }) → Progressed hex_content s stop from b b₁ pos (record { next = r; pos = p; size = size })
  close_gap inv = let k : size + 0 ≡ size = omega arith in rw k at (progress_more {n = 0} inv (yields-blank yields_none y.blank) (put-none b₁ p) refl)

-- A BYTE

nothing_left : (s : List ℕ) (stop i : ℕ) → stop ≤ i → hex_content (span i stop s) ≡ stands_for []
unfolding hex_content hex_from half_end
nothing_left s stop i h = ap hex_content (span-over s i stop h)

module _ {s : List ℕ} {stop from i : ℕ} (l : stop ≤ length s) (w : from ≤ stop) (x : Gaps s stop from i) where
  up : i ≤ stop
  up = omega (arith, x.blank.inside)

  wrong-by : hex_content (span i stop s) ≡ bad → ByteRead s stop from Wrong
  unfolding hex_content byte_read
  wrong-by e = record { by = x.blank.is no_half ∙ e }

  pub byte-none : stop ≤ i → ByteRead s stop from End
  unfolding hex_content byte_read
  byte-none h = record { by = x.blank.is no_half ∙ nothing_left s stop i h }

  module _ (h : i < stop) {v : ℕ} (e : v ≡ digit_number (get_or s i 0)) where
    pub byte-wrong : 16 ≤ v → ByteRead s stop from Wrong
    unfolding hex_content
    byte-wrong g =
        let d : is_digit 16 (get_or s i 0) ≡ false = digit-no 16 (get_or s i 0) (omega arith) in
        wrong-by (x.none h d no_half)

    module _ (g : v < 16) {j : ℕ} (y : Gaps s stop (i + 1) j) where
      is_it : is_digit 16 (get_or s i 0) ≡ true
      is_it = digit-yes 16 (get_or s i 0) (omega arith) (omega arith)

      after-high : hex_content (span i stop s) ≡ hex_from no_comment (high (digit_value (get_or s i 0))) (span j stop s)
      unfolding hex_content hex_digit
      after-high = ap hex_content (span-step s i stop h l) ∙ digit-front (get_or s i 0) no_half (span (i + 1) stop s) is_it ∙ y.blank.is (high (digit_value (get_or s i 0)))

      pub byte_half : stop ≤ j → ByteRead s stop from Wrong
      unfolding hex_from half_end
      byte_half k = wrong-by (after-high ∙ ap (hex_from no_comment (high (digit_value (get_or s i 0)))) (span-over s j stop k))

      module _ (k : j < stop) {u : ℕ} (f : u ≡ digit_number (get_or s j 0)) where
        pub byte_odd : 16 ≤ u → ByteRead s stop from Wrong
        byte_odd m =
            let d : is_digit 16 (get_or s j 0) ≡ false = digit-no 16 (get_or s j 0) (omega arith) in
            wrong-by (after-high ∙ y.none k d (high (digit_value (get_or s i 0))))

        pub byte-whole : u < 16 → ByteRead s stop from (Byte (v * 16 + u) (j + 1))
        unfolding hex_content byte_read
        byte-whole m =
            let q : is_digit 16 (get_or s j 0) ≡ true = digit-yes 16 (get_or s j 0) (omega arith) (omega arith) in
            let a : v ≡ digit_value (get_or s i 0) = e ∙ digit-number 16 (get_or s i 0) is_it in
            let b : u ≡ digit_value (get_or s j 0) = f ∙ digit-number 16 (get_or s j 0) q in
            let c : hex_content (span i stop s) ≡ after ((v * 16 + u) ∷ []) (hex_content (span (j + 1) stop s)) =
            ap hex_content (span-step s i stop h l)
            ∙ two_digits (get_or s i 0) (get_or s j 0) (span (i + 1) stop s) (span (j + 1) stop s) is_it q (λ h'. y.blank.is h' ∙ ap (hex_from no_comment h') (span-step s j stop k l))
            ∙ (λ n. after ((sym a n * 16 + sym b n) ∷ []) (hex_content (span (j + 1) stop s))) in
            let o = x.blank.ahead in
            let o' = y.blank.ahead in
            record { by = (record { is = x.blank.is no_half ∙ c; ahead = omega arith; inside = omega arith; short = omega arith }, omega arith) }

pub ruleset byte_ways = (byte-none, byte-wrong, byte_half, byte_odd, byte-whole)

-- THE FRONT

module _ {s : List ℕ} {stop at e r : ℕ} (i : Before s at stop) (x : HexDigits s at e) (m : r ≡ min e stop) where
  pub front-digits : HexDigits s at (at + 2 * ((r - at) / 2))
  front-digits = let o = x.ahead in let h = i.before in run-within at (at + 2 * ((r - at) / 2)) x (omega arith) (omega arith) (omega arith)

  pub front-many : {b b' : List ℕ} {p q t : ℕ} → PairsPut s at ((r - at) / 2) b b' p q → Blank s stop (at + 2 * ((r - at) / 2)) t
      → Progressed hex_content s stop at b b' p (record { next = t; pos = q; size = (r - at) / 2 })
  front-many y z =
      let n = (r - at) / 2 in
      let o = x.ahead in
      let h = i.before in
      let l = i.inside in
      let k : 0 + n ≡ n = omega arith in
      rw k at (progress_more {n = n} progress_start (yields-blank (y.yields stop (omega arith) l) z) y.put (sym y.count))

module _ {s : List ℕ} {stop at : ℕ} {b b₁ b₂ : List ℕ} {pos : ℕ} {f g : Progress} (x : Progressed hex_content s stop at b b₁ pos f) (y : Progressed hex_content s stop f.next b₁ b₂ f.pos g) where
  pub stretch_on : Progressed hex_content s stop at b b₂ pos (record { next = g.next; pos = g.pos; size = f.size + g.size })
  stretch_on = progress_append x y

-- THE LOOP

module _ {s : List ℕ} {at stop : ℕ} {b b₀ : List ℕ} {pos i p size : ℕ} (inv : Progressed hex_content s stop at b b₀ pos (record { next = i; pos = p; size = size })) where
  pub read-end : {end : ℕ} → stop ≡ min end (length s) → stop ≤ i → DecodesInto b b₀ pos (Some (record { next = end; size = size })) (hex_content (take (end - at) (drop at s)))
  read-end e h = decodes-good _ e inv (nothing_left s stop i h)

  module _ {b₁ : List ℕ} {f : Progress} (x : Progressed hex_content s stop i b₀ b₁ p f) where
    module _ (end : ℕ) (e : stop ≡ min end (length s)) where
      pub read-whole : ByteRead s stop f.next End → DecodesInto b b₁ pos (Some (record { next = end; size = size + f.size })) (hex_content (take (end - at) (drop at s)))
      unfolding byte_read
      read-whole z = decodes-good _ e (progress_append inv x) z.by

      pub read-wrong : ByteRead s stop f.next Wrong → DecodesInto b b₁ pos None (hex_content (take (end - at) (drop at s)))
      unfolding byte_read
      read-wrong z = decodes-bad _ e (progress_append inv x) z.by

    module _ {v n t : ℕ} (z : ByteRead s stop f.next (Byte v n)) (w : Blank s stop n t) where
      pub read_less : i < stop → stop - t < stop - i
      unfolding byte_read
      read_less l = omega (arith, x.ahead, z.by.0.short, w.ahead)

      pub read-on : {b₂ : List ℕ} {p' : ℕ} → Put b₁ b₂ f.pos p' (v ∷ []) → Progressed hex_content s stop at b b₂ pos (record { next = t; pos = p'; size = size + f.size + 1 })
      unfolding byte_read
      read-on k = progress_more (progress_append inv x) (yields-blank z.by.0 w) k refl
