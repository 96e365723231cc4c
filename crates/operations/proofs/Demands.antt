-- The demands, proved of the operations' definitions.
use Prim.Native.Nat.{ℕ, ◌+◌, ◌-◌, ◌≤◌, min}
use native.Mathlib.Omega.{arith}
use mathlib.Core.Path.{◌≡◌, refl, sym, ap, ◌∙◌}
use mathlib.Core.Bool.{true}
use mathlib.Core.List.{List, [], ◌∷◌, ◌++◌}
use lib.ListN.{length, take, drop}
use lib.Seq.{take_at, drop_at}
use borrow.Author.Tests.{le-leb}
use Rattle.cbor.specs.Refusals.{Verdict, accepted, refused, verdict_of}
use Rattle.cbor.specs.Items.{Item, Items}
use Rattle.cbor.specs.Encode.{encode_all, encode}
use Rattle.cbor.specs.Valid.{Bytes}
use Rattle.cbor.specs.Decode.{decode, most_bytes, most_levels}
use Rattle.cbor.specs.Utf8.{is_in}
use Rattle.cbor.specs.Paths.{Spot, Found, found, nowhere, locate, start, end}
use Rattle.cbor.specs.Theorems.{Decoded}
use Rattle.cbor.proofs.Results.{refused_not_accepted, verdict_ok}
use Rattle.cbor.proofs.DecodeEncode.{decode_of_encode}
use Rattle.cbor.proofs.EncodeDecode.{encode_of_decode}
use Rattle.cbor.proofs.Paths.{part-at-path}
use Rattle.notation.specs.Classes.{blank, class_number, class_rows, class_in, class_of, is}
use Rattle.notation.specs.Reading.{read_text, read_item}
use Rattle.notation.specs.Printing.{print_text}
use Rattle.notation.specs.Places.{levels_at, Span, span_at, edited}
use Rattle.notation.specs.Theorems.{Edits}
use Rattle.notation_theorems.proofs.PrintWhole.{text_of_print}
use Rattle.notation_theorems.proofs.SoundRead.{text-valid}
use Rattle.notation_theorems.proofs.Edited.{edited-text}
use Rattle.notation_theorems.proofs.AllFound.{items-found}
use Rattle.operations.specs.Operations.{and_then, room, fitting, written, bytes_of, read, items_of, text_of, print, spot_of, look_up, part_of, level, replaced, correction, zeroed, correct}
use Rattle.operations.specs.Demands.{Demand1, Allowed, Encoded, Restores, Demand2, PartLookedUp, Blank, tab, newline, carriage_return, space, blank_byte, OneItem, Stored, Edit, edited_text, Agree, Demand3}
use Rattle.operations.proofs.Verdicts.{and_then-ok, and_then-is, and_then-refused, fitting-yes, fitting-ok, fitting-same, written-ok, written-kept, front-all, agree_same, agree_refused}

-- DEMAND 1

pub demand1 : Demand1
unfolding read print correct part_of
demand1 =
    record {
      reading = λ text buffer. written-kept buffer (λ w. w) (bytes_of text buffer);
      printing = λ bytes buffer. written-kept buffer (λ w. w) (text_of bytes buffer);
      correcting = λ buffer used path text. written-kept buffer (zeroed used) (correction buffer used path text);
      looking = λ bytes path n place e. rw e;
    }

-- DEMAND 2

-- what reading accepts, and where
module _ (text buffer : List ℕ) (n : ℕ) where
  allowed : (read text buffer).answer ≡ accepted n → Allowed text buffer n
  unfolding read bytes_of
  allowed e =
      let w = written-ok buffer (λ w. w) (bytes_of text buffer) e in
      let o = and_then-ok (read_text text) (λ xs. fitting buffer (encode_all xs)) w.1 in
      let f = fitting-ok buffer (encode_all o.0) o.2 in
      let m : length (encode_all o.0) ≡ n = ap length f.0 ∙ w.2 in
      record { items = o.0; allows = o.1; sized = m; fits = rw m at f.1 }

  bytes_are : (a : Allowed text buffer n) → bytes_of text buffer ≡ accepted (encode_all a.items)
  unfolding bytes_of
  bytes_are a = and_then-is (λ xs. fitting buffer (encode_all xs)) a.allows ∙ fitting-yes buffer (encode_all a.items) (rw a.sized a.fits)

  accepts : Allowed text buffer n → (read text buffer).answer ≡ accepted n
  unfolding read written
  accepts a = ap (λ (v : Verdict (List ℕ)). (written buffer (λ w. w) v).answer) (bytes_are a) ∙ ap accepted a.sized

-- a text has one reading
same-items : {xs ys : Items} → ◌≡◌ {A = Verdict Items} (accepted xs) (accepted ys) → xs ≡ ys
same-items e = cc

-- what checking accepts
pub items_of-ok : (bytes : List ℕ) (xs : Items) → Bytes bytes → items_of bytes ≡ accepted xs → Decoded bytes xs []
unfolding items_of
items_of-ok bytes xs u e =
    let v = verdict_ok (length bytes) (decode bytes) e in
    let d = encode_of_decode bytes xs v.0 u v.1 in
    rw d.done at d

-- what is written stands at the front
restores : (text bytes buffer : List ℕ) → bytes_of text buffer ≡ accepted bytes → Restores bytes (read text buffer)
unfolding read written
restores text bytes buffer e = rw e (record { answers = refl; writes = front-all buffer bytes })

printed : (bytes buffer w : List ℕ) → text_of bytes buffer ≡ accepted w → take (length w) (print bytes buffer).buffer ≡ w
unfolding print written
printed bytes buffer w e = rw e (front-all buffer w)

round_trip_lem : (bytes : List ℕ) → Bytes bytes → (buffer : List ℕ) (n : ℕ) → (print bytes buffer).answer ≡ accepted n → (buffer' : List ℕ) → length bytes ≤ length buffer'
    → Restores bytes (read (take n (print bytes buffer).buffer) buffer')
unfolding print text_of bytes_of room
round_trip_lem bytes u buffer n e buffer' h =
    let w = written-ok buffer (λ w. w) (text_of bytes buffer) e in
    let o = and_then-ok (items_of bytes) (λ xs. fitting buffer (print_text xs)) w.1 in
    let f = fitting-ok buffer (print_text o.0) o.2 in
    made w.0 w.1 w.2 o.0 f.0 f.1 (items_of-ok bytes o.0 u o.1)
  where
    made : (w : List ℕ) → text_of bytes buffer ≡ accepted w → length w ≡ n → (xs : Items) → print_text xs ≡ w → length (print_text xs) ≤ room buffer → Decoded bytes xs []
        → Restores bytes (read (take n (print bytes buffer).buffer) buffer')
    made w i l xs p r d =
        let t : take n (print bytes buffer).buffer ≡ w = rw (← l) (printed bytes buffer w i) in
        let q : read_text w ≡ accepted xs = rw (← p) (text_of_print xs d.valid d.low (omega arith)) in
        let k : length bytes ≤ room buffer' = omega (arith, d.short) in
        rw t (restores w bytes buffer' (and_then-is _ q ∙ ap (fitting buffer') d.same ∙ fitting-yes buffer' bytes k))

-- whatever reading makes, decoding accepts, as the items that were read
pub reading-checks : (text : List ℕ) (xs : Items) → read_text text ≡ accepted xs → length (encode_all xs) ≤ most_bytes → items_of (encode_all xs) ≡ accepted xs
unfolding items_of verdict_of
reading-checks text xs e h = let v = text-valid text xs e in rw (decode_of_encode xs v.0 v.1 h)

encoded : (text buffer : List ℕ) (n : ℕ) (xs : Items) → read_text text ≡ accepted xs → (read text buffer).answer ≡ accepted n → Encoded xs n (read text buffer).buffer
unfolding room
encoded text buffer n xs e f = made (allowed text buffer n f)
  where
    made : (a : Allowed text buffer n) → Encoded xs n (read text buffer).buffer
    made a =
        let i : a.items ≡ xs = same-items (sym a.allows ∙ e) in
        let w : take n (read text buffer).buffer ≡ encode_all xs = rw (← a.sized) ((restores text (encode_all a.items) buffer (bytes_are text buffer n a)).writes ∙ ap encode_all i) in
        record { bytes = w; decodes = rw w (reading-checks text xs e (omega (arith, a.fits, a.sized, ap (λ (x : Items). length (encode_all x)) i))) }

pub demand2 : Demand2
demand2 = record { acceptance = λ text buffer n. (allowed text buffer n, accepts text buffer n); encoding = encoded; round_trip = round_trip_lem }

-- LOOK UP

-- a part in its place
cut_out : (a w c : List ℕ) → take ((length a + length w) - length a) (drop (length a) (a ++ (w ++ c))) ≡ w
cut_out a w c =
    let n : (length a + length w) - length a ≡ length w = omega arith in
    rw (n, drop_at a (w ++ c) (length a) refl) (take_at w c (length w) refl)

spot-ok : (f : Found Spot) {z : Spot} → spot_of f ≡ accepted z → f ≡ found z
unfolding spot_of
spot-ok (found y) e = ap found (cc)
spot-ok (nowhere i) e = absurd (refused_not_accepted e)

pub part-looked_up : PartLookedUp
unfolding look_up part_of start end
part-looked_up bytes path z u e =
    let o = and_then-ok (items_of bytes) (λ xs. spot_of (locate path xs)) e in
    let w : bytes ≡ z.before ++ (encode z.item ++ z.behind) = sym (items_of-ok bytes o.0 u o.1).same ∙ (part-at-path path o.0 z (spot-ok (locate path o.0) o.2)).was in
    record { part = ap (λ (s : List ℕ). take ((length z.before + length (encode z.item)) - length z.before) (drop (length z.before) s)) w ∙ cut_out z.before (encode z.item) z.behind; whole = w }

-- DEMAND 3

-- the item is found in the bytes
looked_up : (bytes path : List ℕ) (xs : Items) (o : Spot) → items_of bytes ≡ accepted xs → locate path xs ≡ found o → look_up bytes path ≡ accepted o
unfolding look_up spot_of
looked_up bytes path xs o e f = and_then-is _ e ∙ rw f

module _ (text buffer : List ℕ) (used : ℕ) (old : Stored text buffer used) (k : ℕ) (p : List ℕ) (z : Span) (ed : Edits text old.items k p z) where
  -- so what is left is the text, and room for the result
  correction-is : (new : List ℕ) → correction buffer used (k ∷ p) new ≡ and_then (read_item (levels_at most_levels p) new) (λ y. fitting buffer (replaced ed.spot y))
  unfolding correction room level
  correction-is new =
      let l : used ≤ min (length buffer) most_bytes = omega (arith, old.short, old.within) in
      let c : items_of (take used buffer) ≡ accepted old.items = rw old.held (reading-checks text old.items old.accepts (rw old.sized old.short)) in
      rw (le-leb used (min (length buffer) most_bytes) l, correction) (and_then-is _ (looked_up (take used buffer) (k ∷ p) old.items ed.spot c ed.place))

  module _ (b₁ b₂ : ℕ) (h₁ : is blank b₁ ≡ true) (h₂ : is blank b₂ ≡ true) (new : List ℕ) (short : length (edited text z b₁ new b₂) ≤ most_bytes) (fresh : List ℕ) (same : length fresh ≡ length buffer) where
    -- the bytes of the edited text are those of the correction
    edited-bytes : (y : Item) → read_item (levels_at most_levels p) new ≡ accepted y → bytes_of (edited text z b₁ new b₂) fresh ≡ correction buffer used (k ∷ p) new
    unfolding bytes_of replaced
    edited-bytes y e =
        let w = (part-at-path (k ∷ p) old.items ed.spot ed.place).now y in
        and_then-is _ (ed.replaces b₁ b₂ h₁ h₂ new y short e) ∙ ap (fitting fresh) w ∙ fitting-same buffer fresh _ same ∙ sym (correction-is new ∙ and_then-is _ e)

    agrees : (v : Verdict Item) → read_item (levels_at most_levels p) new ≡ v → OneItem v → Agree (correct buffer used (k ∷ p) new) (read (edited text z b₁ new b₂) fresh)
    unfolding correct read bytes_of
    agrees (accepted y) e o = rw (edited-bytes y e) (agree_same buffer fresh used (correction buffer used (k ∷ p) new))
    agrees (refused n q) e o =
        let r = ed.refuses b₁ b₂ h₁ h₂ new n q short e o.0 o.1 in
        agree_refused buffer fresh (zeroed used) (λ w. w) _ _ (correction-is new ∙ and_then-refused _ e) (and_then-refused _ r.2)

blank-is : (b : Blank) → is blank (blank_byte b) ≡ true
unfolding blank_byte is class_of class_in class_rows is_in class_number
blank-is tab = refl
blank-is newline = refl
blank-is carriage_return = refl
blank-is space = refl

agreed : (text buffer : List ℕ) (used : ℕ) (path new : List ℕ) (e : Edit text buffer used path new) (fresh : List ℕ) → length fresh ≡ length buffer → Agree (correct buffer used path new) (read (edited_text e) fresh)
unfolding span_at level
agreed text buffer used [] new e fresh same = let f = e.place in let c : ◌≡◌ {A = ℕ} 0 1 = cc in absurd (omega arith)
agreed text buffer used (k ∷ p) new e fresh same =
    agrees text buffer used e.stored k p e.item (edited-text text e.stored.items k p e.item e.stored.accepts e.place) (blank_byte e.before) (blank_byte e.behind) (blank-is e.before) (blank-is e.behind) new e.short fresh same (read_item (levels_at most_levels p) new) refl e.form

pub demand3 : Demand3
demand3 = record { items = items-found; agrees = agreed }
