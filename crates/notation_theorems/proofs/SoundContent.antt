-- What `h'...'` and `b64'...'` stand for is bytes, no more of them than the literal's text has.
use Prim.Native.Nat.{ℕ, suc, ◌+◌, ◌*◌, ◌/◌, ◌%◌, ◌≤◌, ◌<◌}
use native.Mathlib.Omega.{arith}
use mathlib.Core.Bool.{◌||◌}
use mathlib.Core.List.{List, [], ◌∷◌}
use lib.Dec.{eqb}
use lib.ListN.{length, length-append}
use Rattle.cbor.specs.Utf8.{◌to◌, is_in}
use Rattle.cbor.specs.Valid.{Bytes}
use Rattle.cbor.proofs.EncodeBytes.{bytes-append}
use Rattle.cbor.proofs.Utf8Laws.{is_in_lem}
use Rattle.notation.specs.Classes.{blank, slash, hash, is}
use Rattle.notation.specs.Numbers.{digit_value, is_digit}
use Rattle.notation.specs.Literals.{Content, stands_for, bad, after, Commenting, no_comment, in_slash, in_hash, Half, no_half, high, half_end, hex_digit, hex_from, hex_content, Sextet, sextet, padding, non_alphabet, sextet_at, sextets, valued, last_two, last_three, is_padding, last_four, full_four, base64_from, base64_content}
use Rattle.notation_theorems.proofs.TextScan.{tested, digit_less}

abbrev pub Holds : ℕ → Content → Type 0
Holds n (stands_for c) = Bytes c × (length c ≤ n)
Holds n bad = Unit {0}

after_holds : (m n : ℕ) (w : List ℕ) (c : Content) → Bytes w → length w + m ≤ n → Holds m c → Holds n (after w c)
unfolding after
after_holds m n w (stands_for c) u l h = (bytes-append w c u h.0, rw length-append (omega arith))
after_holds m n w bad u l h = tt

-- HEXADECIMAL

abbrev Digit : Half → Type 0
Digit no_half = Unit
Digit (high u) = u < 16

half_holds : (n : ℕ) (h : Half) → Holds n (half_end h)
unfolding half_end Bytes
half_holds n no_half = (tt, omega arith)
half_holds n (high v) = tt

digit_holds : (m n : ℕ) → m < n → (h : Half) (v : ℕ) (k : Half → Content) → Digit h → v < 16 → ((l : ℕ) → m ≤ l → (h' : Half) → Digit h' → Holds l (k h')) → Holds n (hex_digit h v k)
unfolding hex_digit Bytes
digit_holds m n g no_half v k d l ih = ih n (omega arith) (high v) l
digit_holds m n g (high u) v k d l ih = after_holds m n ((u * 16 + v) ∷ []) (k no_half) (omega arith, tt) (omega arith) (ih m (omega arith) no_half tt)

hex_holds : (s : List ℕ) (n : ℕ) → length s ≤ n → (k : Commenting) (h : Half) → Digit h → Holds n (hex_from k h s)
unfolding hex_from
hex_holds [] n l no_comment h d = half_holds n h
hex_holds [] n l in_slash h d = tt
hex_holds [] n l in_hash h d = tt
hex_holds (b ∷ s) n l no_comment h d =
    tested (Holds n) (is blank b) _ _ (λ e. hex_holds s n (omega arith) no_comment h d)
    (λ e. tested (Holds n) (is slash b) _ _ (λ e. hex_holds s n (omega arith) in_slash h d)
    (λ e. tested (Holds n) (is hash b) _ _ (λ e. hex_holds s n (omega arith) in_hash h d)
    (λ e. tested (Holds n) (is_digit 16 b) _ _ (λ e. digit_holds (length s) n l h (digit_value b) _ d (digit_less 16 b e) (λ m k. hex_holds s m k no_comment)) (λ e. tt))))
hex_holds (b ∷ s) n l in_slash h d = tested (Holds n) (is slash b) _ _ (λ e. hex_holds s n (omega arith) no_comment h d) (λ e. hex_holds s n (omega arith) in_slash h d)
hex_holds (b ∷ s) n l in_hash h d = tested (Holds n) (eqb b 0x0a) _ _ (λ e. hex_holds s n (omega arith) no_comment h d) (λ e. hex_holds s n (omega arith) in_hash h d)

pub hex-content : (s : List ℕ) → Holds (length s) (hex_content s)
unfolding hex_content
hex-content s = hex_holds s (length s) (omega arith) no_comment no_half tt

-- BASE64

abbrev pub Fits : Sextet → Type 0
Fits (sextet v) = v ≤ 63
Fits padding = Unit {0}
Fits non_alphabet = Unit {0}

pub sextet-fits : (b : ℕ) → Fits (sextet_at b)
unfolding sextet_at
sextet-fits b =
    tested Fits (is_in (0x41 to 0x5a) b) _ _ (λ e. let i = is_in_lem (0x41 to 0x5a) b e in omega arith)
    (λ e. tested Fits (is_in (0x61 to 0x7a) b) _ _ (λ e. let i = is_in_lem (0x61 to 0x7a) b e in omega arith)
    (λ e. tested Fits (is_in (0x30 to 0x39) b) _ _ (λ e. let i = is_in_lem (0x30 to 0x39) b e in omega arith)
    (λ e. tested Fits (eqb b 0x2b || eqb b 0x2d) _ _ (λ e. omega arith)
    (λ e. tested Fits (eqb b 0x2f || eqb b 0x5f) _ _ (λ e. omega arith) (λ e. tested Fits (eqb b 0x3d) _ _ (λ e. tt) (λ e. tt))))))

valued_holds : (n : ℕ) (a : Sextet) (k : ℕ → Content) → Fits a → ((v : ℕ) → v ≤ 63 → Holds n (k v)) → Holds n (valued a k)
unfolding valued
valued_holds n (sextet v) k f h = h v f
valued_holds n padding k f h = tt
valued_holds n non_alphabet k f h = tt

two_holds : (n : ℕ) → 2 ≤ n → (a b : Sextet) → Fits a → Fits b → Holds n (last_two a b)
unfolding last_two Bytes
two_holds n l a b x y =
    valued_holds n a _ x (λ u i. valued_holds n b _ y (λ v j. tested (Holds n) (eqb (v % 16) 0) _ _ (λ e. ((omega arith, tt), omega arith)) (λ e. tt)))

three_holds : (n : ℕ) → 3 ≤ n → (a b c : Sextet) → Fits a → Fits b → Fits c → Holds n (last_three a b c)
unfolding last_three Bytes
three_holds n l a b c x y z =
    valued_holds n a _ x (λ u i. valued_holds n b _ y (λ v j. valued_holds n c _ z
    (λ w k. tested (Holds n) (eqb (w % 4) 0) _ _ (λ e. ((omega arith, (omega arith, tt)), omega arith)) (λ e. tt))))

four_holds : (m n : ℕ) → 4 + m ≤ n → (a b c d : Sextet) (k : Content) → Fits a → Fits b → Fits c → Fits d → Holds m k → Holds n (full_four a b c d k)
unfolding full_four Bytes
four_holds m n l a b c d k x y z t h =
    valued_holds n a _ x (λ u i. valued_holds n b _ y (λ v j. valued_holds n c _ z (λ w p. valued_holds n d _ t
    (λ r q. after_holds m n ((u * 4 + v / 16) ∷ (v % 16 * 16 + w / 4) ∷ (w % 4 * 64 + r) ∷ []) k (omega arith, (omega arith, (omega arith, tt))) (omega arith) h))))

abbrev AllFit : List Sextet → Type 0
AllFit [] = Unit {0}
AllFit (a ∷ s) = Fits a × AllFit s

base64_holds : (s : List Sextet) (n : ℕ) → AllFit s → length s ≤ n → Holds n (base64_from s)
unfolding base64_from last_four Bytes
base64_holds [] n f l = (tt, omega arith)
base64_holds (a ∷ []) n f l = tt
base64_holds (a ∷ b ∷ []) n (x, (y, f)) l = two_holds n l a b x y
base64_holds (a ∷ b ∷ c ∷ []) n (x, (y, (z, f))) l = three_holds n l a b c x y z
base64_holds (a ∷ b ∷ c ∷ d ∷ []) n (x, (y, (z, (t, f)))) l =
    tested (Holds n) (is_padding d) _ _ (λ e. tested (Holds n) (is_padding c) _ _ (λ e. two_holds n (omega arith) a b x y) (λ e. three_holds n (omega arith) a b c x y z))
    (λ e. four_holds 0 n l a b c d (stands_for []) x y z t (tt, omega arith))
base64_holds (a ∷ b ∷ c ∷ d ∷ e ∷ s) n (x, (y, (z, (t, f)))) l =
    four_holds (suc (length s)) n (omega arith) a b c d (base64_from (e ∷ s)) x y z t (base64_holds (e ∷ s) (suc (length s)) f (omega arith))

sextets-fit : (s : List ℕ) → AllFit (sextets s) × (length (sextets s) ≤ length s)
unfolding sextets
sextets-fit [] = (tt, omega arith)
sextets-fit (b ∷ s) =
    let h = sextets-fit s in
    tested (λ (u : List Sextet). AllFit u × (length u ≤ suc (length s))) (is blank b) _ _ (λ e. (h.0, omega (arith, h.1))) (λ e. ((sextet-fits b, h.0), omega (arith, h.1)))

pub base64_content_lem : (s : List ℕ) → Holds (length s) (base64_content s)
unfolding base64_content
base64_content_lem s = let h = sextets-fit s in base64_holds (sextets s) (length s) h.0 h.1
