-- Cutting: what the code knows at each return, and that this is what the definitions say.
-- Assumes nothing.
use mathlib.Core.Path.{◌≡◌, refl, sym, ap, ◌∙◌}
use mathlib.Core.List.{List, [], ◌∷◌}
use mathlib.Core.Bool.{Bool, true, false}
use Prim.Native.Nat.{ℕ, ◌+◌, ◌≤◌, ◌<◌}
use native.Mathlib.Omega.{arith}
use lib.Dec.{leb}
use lib.ListN.{length, drop, get_or, length-drop, drop_of_length-le}
use borrow.Author.Tests.{eq-eqb, leb-true, leb-false}
use Rattle.cbor.specs.Refusals.{Result, ok, refuse, no_token, not_allowed}
use Rattle.cbor.specs.Items.{unsigned}
use Rattle.notation.specs.Classes.{Class, other, blank, digit, letter, underscore, minus, dot, quote, apostrophe, slash, hash, comma, colon, open_paren, close_paren, open_bracket, close_bracket, open_brace, close_brace, less, greater, end_mark, class_number, class_of, is}
use Rattle.notation.specs.Scanning.{skip, fault}
use Rattle.notation.specs.Indicators.{absent}
use Rattle.notation.specs.Numbers.{number}
use Rattle.notation.specs.Literals.{quoted}
use Rattle.notation.specs.Words.{word}
use Rattle.notation.specs.Tokens.{embedding, chunking, opens, square, curly, round, whole, Token, begins, closes, a_comma, a_colon}
use Rattle.notation.specs.Cutting.{after_minus, cut_by, cut, place, placed, next}
use Rattle.notation.specs.Reading.{marked}
use Rattle.scanning.specs.ScanAnswers.{Skips}
use Rattle.token.specs.TokenAnswers.{indicator_number, open_code, begin_code, shape_code, code_of, open_mark, begin_mark, mark_of, open_number, begin_number, number_of, BeginsAs, Written, Shown, Says, Took, Refused, TokenMade}
use Rattle.cbor.specs.Flags.{sign_of}
use Rattle.words.specs.WordAnswers.{front_class, Stood}
use Rattle.signs.specs.SignAnswers.{Opens, Paired}
use Rattle.tokens.specs.CutAnswers.{quote_kind, quote_byte, QuotedAt}
use Rattle.token.specs.declared.Token.{Token as Cut}
use Rattle.notation_theorems.proofs.Good.{Below}
use Rattle.notation_theorems.proofs.Locality.{cut_below}
use Rattle.notation_theorems.proofs.ScanningElements.{class-is}
use Rattle.scanning.proofs.Marked.{front, length_marked, byte_at, stands_at}
use Rattle.numbers.proofs.NumberCode.{says_as, says_refuse}
use Rattle.words.proofs.WordCode.{stood_digit}

-- BY CLASS
class-most : (c : Class) → class_number c ≤ 21
unfolding class_number
class-most other = omega arith
class-most blank = omega arith
class-most digit = omega arith
class-most letter = omega arith
class-most underscore = omega arith
class-most minus = omega arith
class-most dot = omega arith
class-most quote = omega arith
class-most apostrophe = omega arith
class-most slash = omega arith
class-most hash = omega arith
class-most comma = omega arith
class-most colon = omega arith
class-most open_paren = omega arith
class-most close_paren = omega arith
class-most open_bracket = omega arith
class-most close_bracket = omega arith
class-most open_brace = omega arith
class-most close_brace = omega arith
class-most less = omega arith
class-most greater = omega arith
class-most end_mark = omega arith

pub stood_some : {s : List ℕ} {at k : ℕ} → Stood s at k → (c : Class) → k ≡ class_number c → at < length (marked s)
unfolding front_class
stood_some {s} {at} {k} st c e = go (leb (length (marked s)) at) refl
  where
    go : (t : Bool) → leb (length (marked s)) at ≡ t → at < length (marked s)
    go true q =
        let z : k ≡ 22 = st.is ∙ rw (drop_of_length-le (marked s) (leb-true (length (marked s)) at q)) in
        absurd (omega (arith, class-most c))
    go false q = leb-false (length (marked s)) at q

cut_at : {s : List ℕ} {at k : ℕ} → Stood s at k → (c : Class) → k ≡ class_number c → cut (drop at (marked s)) ≡ cut_by c (get_or (marked s) at 0) (drop (at + 1) (marked s))
unfolding cut front_class is
cut_at {s} {at} {k} st c e =
    let f = front (marked s) at (stood_some st c e) in
    let b = get_or (marked s) at 0 in
    let q : class_number c ≡ class_number (class_of b) = sym e ∙ (st.is ∙ rw f) in
    rw f (ap (λ (k : Class). cut_by k b (drop (at + 1) (marked s))) (class-is c b (eq-eqb (class_number c) (class_number (class_of b)) q)))

plain : {s : List ℕ} {at c : ℕ} {t : Cut} → TokenMade c 0 0 at (at + 1) t → (tok : Token) → c ≡ code_of tok → 0 ≡ mark_of tok → 0 ≡ number_of tok → Written s t tok → at < length (marked s)
    → Says s at t (ok tok (drop (at + 1) (marked s)))
unfolding Shown
plain m tok ec em en w h =
    record {
      shown = record { code = m.code ∙ ec; indicator = m.indicator ∙ em; number = m.number ∙ en; written = w; next = rw m.next (record { inside = omega arith; drops = refl }) };
      place = m.place;
    }

-- where such a class stands, a byte does
module _ {s : List ℕ} {at k : ℕ} (st : Stood s at k) where
  pub in_letter : k ≡ 3 → at < length s
  in_letter e = st.inside (omega arith)

  pub in_minus : k ≡ 5 → at < length s
  in_minus e = st.inside (omega arith)

  pub in_dot : k ≡ 6 → at < length s
  in_dot e = st.inside (omega arith)

  pub in_open_paren : k ≡ 13 → at < length s
  in_open_paren e = st.inside (omega arith)

  pub in_open_bracket : k ≡ 15 → at < length s
  in_open_bracket e = st.inside (omega arith)

  pub in_open_brace : k ≡ 17 → at < length s
  in_open_brace e = st.inside (omega arith)

  pub in_less : k ≡ 19 → at < length s
  in_less e = st.inside (omega arith)

  pub in_greater : k ≡ 20 → at < length s
  in_greater e = st.inside (omega arith)

  pub in_quote : k ≡ 7 → QuotedAt s at 0
  in_quote e = record { inside = st.inside (omega arith); quoted = omega arith }

  pub in_apostrophe : k ≡ 8 → QuotedAt s at 1
  in_apostrophe e = record { inside = st.inside (omega arith); quoted = omega arith }

  pub behind_minus : k ≡ 5 → at + 1 ≤ length s
  behind_minus e = let h : at < length s = st.inside (omega arith) in omega arith

pub ruleset insides = (stood_digit, in_letter, in_dot, in_open_paren, in_open_bracket, in_open_brace, in_less, in_greater, in_quote, in_apostrophe, behind_minus)

cut-nothing : (r : List ℕ) → front_class r ≡ 22 → cut r ≡ fault not_allowed
unfolding cut front_class
cut-nothing [] e = refl
cut-nothing (b ∷ r) e = absurd (omega (arith, class-most (class_of b)))

-- the classes that begin no token
rest : (c : Class) (b k : ℕ) (r : List ℕ) → k ≡ class_number c → (k ≡ 2 → ⊥) → (k ≡ 3 → ⊥) → (k ≡ 5 → ⊥) → (k ≡ 6 → ⊥) → (k ≡ 7 → ⊥) → (k ≡ 8 → ⊥) → (k ≡ 11 → ⊥) → (k ≡ 12 → ⊥) → (k ≡ 13 → ⊥) → (k ≡ 14 → ⊥) → (k ≡ 15 → ⊥) → (k ≡ 16 → ⊥) → (k ≡ 17 → ⊥) → (k ≡ 18 → ⊥) → (k ≡ 19 → ⊥) → (k ≡ 20 → ⊥) → (k ≡ 21 → ⊥) → cut_by c b r ≡ fault no_token
unfolding cut_by class_number
rest other b k r e n2 n3 n5 n6 n7 n8 n11 n12 n13 n14 n15 n16 n17 n18 n19 n20 n21 = refl
rest blank b k r e n2 n3 n5 n6 n7 n8 n11 n12 n13 n14 n15 n16 n17 n18 n19 n20 n21 = refl
rest digit b k r e n2 n3 n5 n6 n7 n8 n11 n12 n13 n14 n15 n16 n17 n18 n19 n20 n21 = absurd (n2 e)
rest letter b k r e n2 n3 n5 n6 n7 n8 n11 n12 n13 n14 n15 n16 n17 n18 n19 n20 n21 = absurd (n3 e)
rest underscore b k r e n2 n3 n5 n6 n7 n8 n11 n12 n13 n14 n15 n16 n17 n18 n19 n20 n21 = refl
rest minus b k r e n2 n3 n5 n6 n7 n8 n11 n12 n13 n14 n15 n16 n17 n18 n19 n20 n21 = absurd (n5 e)
rest dot b k r e n2 n3 n5 n6 n7 n8 n11 n12 n13 n14 n15 n16 n17 n18 n19 n20 n21 = absurd (n6 e)
rest quote b k r e n2 n3 n5 n6 n7 n8 n11 n12 n13 n14 n15 n16 n17 n18 n19 n20 n21 = absurd (n7 e)
rest apostrophe b k r e n2 n3 n5 n6 n7 n8 n11 n12 n13 n14 n15 n16 n17 n18 n19 n20 n21 = absurd (n8 e)
rest slash b k r e n2 n3 n5 n6 n7 n8 n11 n12 n13 n14 n15 n16 n17 n18 n19 n20 n21 = refl
rest hash b k r e n2 n3 n5 n6 n7 n8 n11 n12 n13 n14 n15 n16 n17 n18 n19 n20 n21 = refl
rest comma b k r e n2 n3 n5 n6 n7 n8 n11 n12 n13 n14 n15 n16 n17 n18 n19 n20 n21 = absurd (n11 e)
rest colon b k r e n2 n3 n5 n6 n7 n8 n11 n12 n13 n14 n15 n16 n17 n18 n19 n20 n21 = absurd (n12 e)
rest open_paren b k r e n2 n3 n5 n6 n7 n8 n11 n12 n13 n14 n15 n16 n17 n18 n19 n20 n21 = absurd (n13 e)
rest close_paren b k r e n2 n3 n5 n6 n7 n8 n11 n12 n13 n14 n15 n16 n17 n18 n19 n20 n21 = absurd (n14 e)
rest open_bracket b k r e n2 n3 n5 n6 n7 n8 n11 n12 n13 n14 n15 n16 n17 n18 n19 n20 n21 = absurd (n15 e)
rest close_bracket b k r e n2 n3 n5 n6 n7 n8 n11 n12 n13 n14 n15 n16 n17 n18 n19 n20 n21 = absurd (n16 e)
rest open_brace b k r e n2 n3 n5 n6 n7 n8 n11 n12 n13 n14 n15 n16 n17 n18 n19 n20 n21 = absurd (n17 e)
rest close_brace b k r e n2 n3 n5 n6 n7 n8 n11 n12 n13 n14 n15 n16 n17 n18 n19 n20 n21 = absurd (n18 e)
rest less b k r e n2 n3 n5 n6 n7 n8 n11 n12 n13 n14 n15 n16 n17 n18 n19 n20 n21 = absurd (n19 e)
rest greater b k r e n2 n3 n5 n6 n7 n8 n11 n12 n13 n14 n15 n16 n17 n18 n19 n20 n21 = absurd (n20 e)
rest end_mark b k r e n2 n3 n5 n6 n7 n8 n11 n12 n13 n14 n15 n16 n17 n18 n19 n20 n21 = absurd (n21 e)

cut-other : (r : List ℕ) (k : ℕ) → k ≡ front_class r → (k ≡ 2 → ⊥) → (k ≡ 3 → ⊥) → (k ≡ 5 → ⊥) → (k ≡ 6 → ⊥) → (k ≡ 7 → ⊥) → (k ≡ 8 → ⊥) → (k ≡ 11 → ⊥) → (k ≡ 12 → ⊥) → (k ≡ 13 → ⊥) → (k ≡ 14 → ⊥) → (k ≡ 15 → ⊥) → (k ≡ 16 → ⊥) → (k ≡ 17 → ⊥) → (k ≡ 18 → ⊥) → (k ≡ 19 → ⊥) → (k ≡ 20 → ⊥) → (k ≡ 21 → ⊥) → (k ≡ 22 → ⊥) → cut r ≡ fault no_token
unfolding cut front_class
cut-other [] k e n2 n3 n5 n6 n7 n8 n11 n12 n13 n14 n15 n16 n17 n18 n19 n20 n21 n22 = absurd (n22 e)
cut-other (b ∷ r) k e n2 n3 n5 n6 n7 n8 n11 n12 n13 n14 n15 n16 n17 n18 n19 n20 n21 n22 = rest (class_of b) b k r e n2 n3 n5 n6 n7 n8 n11 n12 n13 n14 n15 n16 n17 n18 n19 n20 n21

module _ {s : List ℕ} {at k : ℕ} {t : Cut} (st : Stood s at k) where
  pub cut_digit : k ≡ 2 → Says s at t (number (sign_of false) (get_or s at 0) (drop (at + 1) (marked s))) → Says s at t (cut (drop at (marked s)))
  unfolding cut_by class_number sign_of
  cut_digit e h = says_as (cut_at st digit e ∙ ap (λ (b : ℕ). number unsigned b (drop (at + 1) (marked s))) (byte_at s at (st.inside (omega arith)))) h

  pub cut-letter : k ≡ 3 → Says s at t (word (get_or s at 0) (drop (at + 1) (marked s))) → Says s at t (cut (drop at (marked s)))
  unfolding cut_by class_number
  cut-letter e h = says_as (cut_at st letter e ∙ ap (λ (b : ℕ). word b (drop (at + 1) (marked s))) (byte_at s at (st.inside (omega arith)))) h

  pub cut_minus : k ≡ 5 → Says s at t (after_minus (drop (at + 1) (marked s))) → Says s at t (cut (drop at (marked s)))
  unfolding cut_by class_number
  cut_minus e h = says_as (cut_at st minus e) h

  pub cut_dot : k ≡ 6 → Says s at t (cut_by dot 0 (drop (at + 1) (marked s))) → Says s at t (cut (drop at (marked s)))
  unfolding cut_by class_number
  cut_dot e h = says_as (cut_at st dot e) h

  pub cut_greater : k ≡ 20 → Says s at t (cut_by greater 0 (drop (at + 1) (marked s))) → Says s at t (cut (drop at (marked s)))
  unfolding cut_by class_number
  cut_greater e h = says_as (cut_at st greater e) h

  pub cut-quote : k ≡ 7 → Says s at t (quoted (quote_kind 0) (quote_byte 0) (drop (at + 1) (marked s))) → Says s at t (cut (drop at (marked s)))
  unfolding cut_by class_number quote_kind quote_byte
  cut-quote e h = says_as (cut_at st quote e) h

  pub cut_apostrophe : k ≡ 8 → Says s at t (quoted (quote_kind 1) (quote_byte 1) (drop (at + 1) (marked s))) → Says s at t (cut (drop at (marked s)))
  unfolding cut_by class_number quote_kind quote_byte
  cut_apostrophe e h = says_as (cut_at st apostrophe e) h

  pub cut-bracket : k ≡ 15 → Opens s at 15 t → Says s at t (cut (drop at (marked s)))
  unfolding cut_by class_number
  cut-bracket e h = says_as (cut_at st open_bracket e) (h.square refl)

  pub cut_brace : k ≡ 17 → Opens s at 17 t → Says s at t (cut (drop at (marked s)))
  unfolding cut_by class_number
  cut_brace e h = says_as (cut_at st open_brace e) (h.curly refl)

  pub cut-chunking : k ≡ 13 → Paired s at 0x5f 13 t → Says s at t (cut (drop at (marked s)))
  unfolding cut_by class_number code_of begin_code mark_of begin_mark number_of begin_number Written BeginsAs
  cut-chunking e h = says_as (cut_at st open_paren e) (h.is (begins chunking) refl refl refl tt)

  pub cut-embedding : k ≡ 19 → Paired s at 0x3c 19 t → Says s at t (cut (drop at (marked s)))
  unfolding cut_by class_number code_of begin_code open_code mark_of begin_mark open_mark number_of begin_number open_number Written BeginsAs
  cut-embedding e h = says_as (cut_at st less e) (h.is (begins (opens embedding)) refl refl refl tt)

  pub cut_comma : k ≡ 11 → TokenMade 11 0 0 at (at + 1) t → Says s at t (cut (drop at (marked s)))
  unfolding cut_by class_number code_of shape_code mark_of indicator_number number_of Written
  cut_comma e h = says_as (cut_at st comma e) (plain h a_comma refl refl refl tt (stood_some st comma e))

  pub cut_colon : k ≡ 12 → TokenMade 12 0 0 at (at + 1) t → Says s at t (cut (drop at (marked s)))
  unfolding cut_by class_number code_of shape_code mark_of indicator_number number_of Written
  cut_colon e h = says_as (cut_at st colon e) (plain h a_colon refl refl refl tt (stood_some st colon e))

  pub cut_round : k ≡ 14 → TokenMade 14 0 0 at (at + 1) t → Says s at t (cut (drop at (marked s)))
  unfolding cut_by class_number code_of shape_code mark_of indicator_number number_of Written
  cut_round e h = says_as (cut_at st close_paren e) (plain h (closes round absent) refl refl refl tt (stood_some st close_paren e))

  pub cut-square : k ≡ 16 → TokenMade 16 0 0 at (at + 1) t → Says s at t (cut (drop at (marked s)))
  unfolding cut_by class_number code_of shape_code mark_of indicator_number number_of Written
  cut-square e h = says_as (cut_at st close_bracket e) (plain h (closes square absent) refl refl refl tt (stood_some st close_bracket e))

  pub cut-curly : k ≡ 18 → TokenMade 18 0 0 at (at + 1) t → Says s at t (cut (drop at (marked s)))
  unfolding cut_by class_number code_of shape_code mark_of indicator_number number_of Written
  cut-curly e h = says_as (cut_at st close_brace e) (plain h (closes curly absent) refl refl refl tt (stood_some st close_brace e))

  pub cut-end : k ≡ 21 → TokenMade 21 0 0 at (at + 1) t → Says s at t (cut (drop at (marked s)))
  unfolding cut_by class_number code_of shape_code mark_of indicator_number number_of Written
  cut-end e h = says_as (cut_at st end_mark e) (plain h (closes whole absent) refl refl refl tt (stood_some st end_mark e))

  pub cut-past : k ≡ 22 → Refused 11 at t → Says s at t (cut (drop at (marked s)))
  cut-past e r = says_as (cut-nothing (drop at (marked s)) (sym st.is ∙ e)) (says_refuse 0 r)

  pub cut-none : (k ≡ 2 → ⊥) → (k ≡ 3 → ⊥) → (k ≡ 5 → ⊥) → (k ≡ 6 → ⊥) → (k ≡ 7 → ⊥) → (k ≡ 8 → ⊥) → (k ≡ 11 → ⊥) → (k ≡ 12 → ⊥) → (k ≡ 13 → ⊥) → (k ≡ 14 → ⊥) → (k ≡ 15 → ⊥) → (k ≡ 16 → ⊥) → (k ≡ 17 → ⊥) → (k ≡ 18 → ⊥) → (k ≡ 19 → ⊥) → (k ≡ 20 → ⊥) → (k ≡ 21 → ⊥) → (k ≡ 22 → ⊥) → Refused 3 at t → Says s at t (cut (drop at (marked s)))
  cut-none n2 n3 n5 n6 n7 n8 n11 n12 n13 n14 n15 n16 n17 n18 n19 n20 n21 n22 r = says_as (cut-other (drop at (marked s)) k st.is n2 n3 n5 n6 n7 n8 n11 n12 n13 n14 n15 n16 n17 n18 n19 n20 n21 n22) (says_refuse 0 r)

pub ruleset cut_ways = (cut_digit, cut-letter, cut_minus, cut_dot, cut-quote, cut_apostrophe, cut_comma, cut_colon, cut-chunking, cut_round, cut-bracket, cut-square, cut_brace, cut-curly, cut-embedding, cut_greater, cut-end, cut-past)

-- THE NEXT TOKEN
pub skips-inside : {s : List ℕ} {i at : ℕ} → Skips s i at → at ≤ length s + 1
skips-inside {s} sk = omega (arith, sk.stands.inside, length_marked s)

shown-placed : (s : List ℕ) (t : Cut) (q : ℕ) (R : Result Token) → Shown s t R → Shown s t (placed q R)
unfolding Shown placed
shown-placed s t q (ok tok r) h = h
shown-placed s t q (refuse k l) h = h

shown-ahead : (s : List ℕ) (t : Cut) (at : ℕ) (R : Result Token) → Below (length (drop at (marked s))) R → Shown s t R → (t.kind ≡ 0 → ⊥) → at < t.next
unfolding Shown
shown-ahead s t at (ok tok r) b h n =
    omega (arith, stands_at h.next, h.next.inside, length-drop at (marked s))
shown-ahead s t at (refuse k l) b h n = absurd (n h.code)

pub took : {s : List ℕ} {i : ℕ} {t : Cut} (at : ℕ) → Skips s i at → Says s at t (cut (drop at (marked s))) → Took s i t
unfolding next
took {s} {i} {t} at sk h =
    let w = marked s in
    let d : cut (drop at w) ≡ cut (skip (drop i w)) = ap cut sk.stands.drops in
    let sh : Shown s t (cut (skip (drop i w))) = rw d at h.shown in
    record {
      shown = shown-placed s t (place (drop i w)) (cut (skip (drop i w))) sh;
      place = rw h.place sk.stands;
      from = omega (arith, sk.ahead, h.place);
      ahead = λ n. let l = shown-ahead s t at (cut (drop at w)) (cut_below (drop at w)) h.shown n in omega (arith, h.place);
    }
