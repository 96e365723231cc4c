-- Quoted strings: pieces, which are an escape or a run of bytes that stand for themselves, and the loop over them.
-- Assumes nothing.
use mathlib.Core.Path.{◌≡◌, refl, sym, ap, ◌∙◌}
use mathlib.Core.List.{List, [], ◌∷◌, ◌++◌, append-nil}
use mathlib.Core.Bool.{Bool, true, false}
use Prim.Native.Nat.{ℕ, zero, suc, ◌+◌, ◌-◌, ◌≤◌, ◌<◌}
use native.Mathlib.Omega.{arith}
use lib.Dec.{eqb}
use lib.ListN.{length, take, drop, get_or, length-append, length-drop}
use borrow.Author.Tests.{le-leb, lt-leb, eq-eqb, ne_eqb, eqb-true, eqb-false}
use Rattle.cbor.specs.Refusals.{Result, ok, bind, no_token}
use Rattle.memory.specs.Buffer.{over, copied}
use Rattle.memory.proofs.Lists.{front}
use Rattle.memory.proofs.Buffer.{length_part, written-fits, copied-yes, length-copied}
use Rattle.notation.specs.Scanning.{fault}
use Rattle.notation.specs.Reading.{marked}
use Rattle.notation.specs.Quoted.{utf8_of, no_surrogate, character, escape, Move, gives, closed, wrong, move_at, unquote}
use Rattle.scanning.specs.ScanAnswers.{Peeked}
use Rattle.scanning.specs.TextRuns.{Textual, TextRun}
use Rattle.scanning.proofs.Marked.{tail_is}
use Rattle.scanning.proofs.ScanCode.{peeked_yes}
use Rattle.literal_body.specs.LiteralAnswers.{scanned_by, Scans, Put, Quotes}
use Rattle.escapes.specs.EscapeAnswers.{onward, EscapesUnquoted}
use Rattle.quoted.specs.QuotedAnswers.{Part, AtPiece, AtPlain, PieceGiven, Pieced}
use Rattle.escapes.specs.declared.ReadEscape.{ReadEscape}
use Rattle.quoted.specs.declared.ReadPiece.{ReadPiece}
use Rattle.std.specs.Prelude.{None, Some}
use Rattle.std.proofs.lemmas.Option.{none-some, same_Some}
use Rattle.literal_body.proofs.LiteralCode.{pre_pre, ok-content, put-none, put-more}
use Rattle.escapes.proofs.EscapeCode.{unquote-next, unquote-by, unquote-end, onward-on}

-- WRITING A PART

module _ {s : List ℕ} {from end : ℕ} (x : Part s from end) where
  part-size : length (take (end - from) (drop from s)) ≡ end - from
  part-size = let a = x.ahead in let i = x.inside in length_part s from (end - from) (omega arith)

  pub part_long : (b : List ℕ) (p : ℕ) → length b < end - from → Put b b p p (take (end - from) (drop from s))
  part_long b p h = let e = part-size in record { same = refl; is = λ l. absurd (omega arith); next = λ l. absurd (omega arith) }

  pub part-past : (b : List ℕ) (p : ℕ) → end - from ≤ length b → length b - (end - from) < p → Put b b p p (take (end - from) (drop from s))
  part-past b p g h = let e = part-size in record { same = refl; is = λ l. absurd (omega arith); next = λ l. absurd (omega arith) }

  pub part-put : (b : List ℕ) (p : ℕ) {b' : List ℕ} → b' ≡ copied b p (take (length s - from) (drop from s)) (end - from) → Put b b' p (p + (end - from)) (take (end - from) (drop from s))
  part-put b p {b'} e =
      let z = part-size in
      let a = x.ahead in
      let i = x.inside in
      let n : end - from ≤ length (drop from s) = simp length-drop (omega arith) in
      let f : b' ≡ copied b p (drop from s) (end - from) = e ∙ ap (λ (y : List ℕ). copied b p y (end - from)) (tail_is s from) in
      record {
        same = ap length f ∙ length-copied b p (drop from s) (end - from);
        is = λ l. f ∙ copied-yes b p (drop from s) (end - from) n ∙ written-fits b p (take (end - from) (drop from s)) l;
        next = λ l. ap (λ (k : ℕ). p + k) (sym z);
      }

pub ruleset part_ways = (part_long, part-past, part-put)

-- A RUN

plain_move : {q b : ℕ} → Textual q 0x5c b → move_at q character b ≡ gives (b ∷ []) character
unfolding move_at
plain_move {q} {b} t =
    let l : b ≤ 0xff = omega (arith, t.high) in
    simp (move_at, ne_eqb b q t.first, ne_eqb b 0x5c t.second, le-leb 0x20 b t.low, le-leb b 0xff l)

-- what is given before what follows
onward-more : (q : ℕ) (u w s : List ℕ) → bind (onward q (gives w character) s) (λ c r. ok (u ++ c) r) ≡ onward q (gives (u ++ w) character) s
unfolding onward
onward-more q u w s = pre_pre u w (unquote q character s)

unquote-run : (s : List ℕ) (q i n : ℕ) → i + n ≤ length s → ((j : ℕ) → i ≤ j → j < i + n → Textual q 0x5c (get_or s j 0))
    → unquote q character (drop i (marked s)) ≡ onward q (gives (take n (drop i s)) character) (drop (i + n) (marked s))
unfolding onward
unquote-run s q i zero l f =
    let z : i ≡ i + 0 = omega arith in
    sym (onward-on q character (drop i (marked s))) ∙ ap (λ (k : ℕ). onward q (gives [] character) (drop k (marked s))) z
unquote-run s q i (suc n) l f =
    let h : i < length s = omega arith in
    let b = get_or s i 0 in
    let z : i + 1 + n ≡ i + suc n = omega arith in
    let r = unquote-run s q (i + 1) n (omega arith) (λ j a g. f j (omega arith) (omega arith)) in
    unquote-by q character s i h (plain_move (f i (omega arith) (omega arith)))
    ∙ (ap (λ (y : Result (List ℕ)). bind y (λ c r. ok (b ∷ c) r)) r
    ∙ (onward-more q (b ∷ []) (take n (drop (i + 1) s)) (drop (i + 1 + n) (marked s))
    ∙ (ap (λ (k : ℕ). onward q (gives (b ∷ take n (drop (i + 1) s)) character) (drop k (marked s))) z
    ∙ ap (λ (y : List ℕ). onward q (gives (take (suc n) y) character) (drop (i + suc n) (marked s))) (sym (front s i h)))))

pub plain_pieced : {s b b' : List ℕ} {q at next p pos : ℕ} → AtPlain s q at → TextRun s q 0x5c (at + 1) next → Put b b' p pos (take (next - at) (drop at s)) → PieceGiven s q at b b' p (record { next = next; size = next - at; pos = pos })
plain_pieced {s} {b} {b'} {q} {at} {next} {p} {pos} x r w =
    let a = r.ahead in
    let i = r.inside in
    let z : at + (next - at) ≡ next = omega arith in
    record {
      given = take (next - at) (drop at s);
      is = rw z at (unquote-run s q at (next - at) (omega arith) all);
      put = w;
      size = sym (length_part s at (next - at) (omega arith));
      short = omega arith;
      ahead = omega arith;
      inside = i;
    }
  where
    all : (j : ℕ) → at ≤ j → j < at + (next - at) → Textual q 0x5c (get_or s j 0)
    all j g l = go (eqb j at) refl
      where
        go : (t : Bool) → eqb j at ≡ t → Textual q 0x5c (get_or s j 0)
        go true e = rw (eqb-true j at e) x.is
        go false e = let n = eqb-false j at e in let a = r.ahead in r.is j (omega arith) (omega arith)

-- AN ESCAPE

no_piece : {s b : List ℕ} {q at p : ℕ} → unquote q character (drop at (marked s)) ≡ fault no_token → Pieced s q at b b p None
no_piece e = record { good = λ x u. absurd (none-some x u); bad = λ u. e; same = refl }

pub a_piece : {s b b' : List ℕ} {q at p : ℕ} {x : ReadPiece} → PieceGiven s q at b b' p x → Pieced s q at b b' p (Some x)
a_piece {x = x} g = record { good = λ y u. rw (← same_Some x y u) g; bad = λ u. absurd (none-some x (sym u)); same = g.put.same }

module _ {s : List ℕ} {q at : ℕ} (x : AtPiece s q at 0x5c) where
  escape-starts : unquote q character (drop at (marked s)) ≡ unquote q (escape no_surrogate) (drop (at + 1) (marked s))
  unfolding move_at
  escape-starts =
      unquote-by q character s at x.here (rw x.is (rw (ne_eqb 0x5c q x.other, move_at)))
      ∙ onward-on q (escape no_surrogate) (drop (at + 1) (marked s))

  module _ {t : Bool} (y : Peeked s (at + 1) q t) where
    pub quote_pieced : {b b' : List ℕ} {p pos : ℕ} → t ≡ true → Put b b' p pos (q ∷ []) → Pieced s q at b b' p (Some (record { next = at + 2; size = 1; pos = pos }))
    unfolding move_at
    quote_pieced e w =
        let z : at + 1 + 1 ≡ at + 2 = omega arith in
        let d : drop (at + 1) (marked s) ≡ q ∷ drop (at + 2) (marked s) = rw z at (peeked_yes y e) in
        a_piece
        (record {
          given = q ∷ [];
          is = escape-starts
              ∙ (ap (unquote q (escape no_surrogate)) d
              ∙ (unquote-next q (escape no_surrogate) q (drop (at + 2) (marked s)) ∙ ap (λ (m : Move). onward q m (drop (at + 2) (marked s))) (rw (eq-eqb q q refl, move_at))));
          put = w;
          size = refl;
          short = omega arith;
          ahead = omega arith;
          inside = omega (arith, y.inside e);
        })

    module _ (f : t ≡ false) (l : q < 256) where
      pub escape_not_pieced : {b : List ℕ} {p : ℕ} → EscapesUnquoted s (at + 1) None → Pieced s q at b b p None
      escape_not_pieced v = no_piece (escape-starts ∙ (v.reads q l (sym y.is ∙ f)).bad refl)

      pub escape_pieced : {b b' : List ℕ} {p pos n : ℕ} {e : ReadEscape} → EscapesUnquoted s (at + 1) (Some e) → Put b b' p pos (utf8_of e.point) → n ≡ length (utf8_of e.point)
          → Pieced s q at b b' p (Some (record { next = e.next; size = n; pos = pos }))
      escape_pieced {e = e} v w z =
          let o = v.place e refl in
          a_piece
          (record {
            given = utf8_of e.point;
            is = escape-starts ∙ (v.reads q l (sym y.is ∙ f)).good e refl;
            put = w;
            size = z;
            short = omega (arith, o.short);
            ahead = omega (arith, o.short);
            inside = o.inside;
          })

pub ruleset escape_piece_ways = (quote_pieced, escape_not_pieced, escape_pieced)

-- A PIECE

module _ {s : List ℕ} {q at b : ℕ} (x : AtPiece s q at b) where
  pub piece_backslash : b ≡ 0x5c → AtPiece s q at 0x5c
  piece_backslash e = rw (← e) x

  module _ (n : b ≡ 0x5c → ⊥) where
    pub piece_control : {o : List ℕ} {p : ℕ} → b < 0x20 → Pieced s q at o o p None
    unfolding move_at onward
    piece_control h =
        no_piece (unquote-by q character {m = wrong} s at x.here (rw x.is (simp (move_at, ne_eqb b q x.other, ne_eqb b 0x5c n, lt-leb 0x20 b h))))

    pub piece_plain : 0x20 ≤ b → b < 256 → AtPlain s q at
    piece_plain h l = record { here = x.here; is = rw x.is (record { low = h; high = l; first = x.other; second = n }) }

-- THE LOOP

pub record QuoteRead (s b : List ℕ) (at q pos i p size : ℕ) (b' : List ℕ) : Type 0 where
  pub done : List ℕ
  pub quote : q < 256
  pub from : at ≤ i
  pub left : unquote q character (drop at (marked s)) ≡ onward q (gives done character) (drop i (marked s))
  pub wrote : Put b b' pos p done
  pub sized : size ≡ length done
  pub short : at + size ≤ i
  pub same : length b' ≡ length b

pub read-start : {s b : List ℕ} {at q pos : ℕ} → q < 256 → QuoteRead s b at q pos at pos 0 b
read-start {s} {b} {at} {q} {pos} h =
    record { done = []; quote = h; from = omega arith; left = sym (onward-on q character (drop at (marked s))); wrote = put-none b pos; sized = refl; short = omega arith; same = refl }

scans-no : {s : List ℕ} {at : ℕ} {res : Result (List ℕ)} → res ≡ fault no_token → Scans s at None res
unfolding scanned_by
scans-no e = rw e (record { by = tt })

quotes_no : {b b' : List ℕ} {pos : ℕ} {res : Result (List ℕ)} → length b' ≡ length b → res ≡ fault no_token → Quotes b b' pos res
quotes_no z f = record { same = z; is = λ c rest e. let w : ◌≡◌ {A = ℕ} 0 1 = cc in absurd (omega arith) }

module _ {s b b' : List ℕ} {at q pos i p size : ℕ} (inv : QuoteRead s b at q pos i p size b') where
  -- the closing quote
  module _ (l : i < length s) (e : get_or s i 0 ≡ q) where
    closed_is : unquote q character (drop at (marked s)) ≡ ok inv.done (drop (i + 1) (marked s))
    unfolding move_at onward bind
    closed_is =
        inv.left
        ∙ (ap (λ (y : Result (List ℕ)). bind y (λ c r. ok (inv.done ++ c) r)) (unquote-by q character {m = closed} s i l (rw (eq-eqb (get_or s i 0) q e, move_at)))
        ∙ ap (λ (y : List ℕ). ok y (drop (i + 1) (marked s))) (append-nil inv.done))

    pub read-closed : Scans s at (Some (record { next = i + 1; size = size })) (unquote q character (drop at (marked s)))
    unfolding scanned_by
    read-closed =
        rw closed_is
        (record { by = record { size = inv.sized; left = refl; inside = omega arith; ahead = omega (arith, inv.from); short = omega (arith, inv.short) } })

    pub quotes_closed : Quotes b b' pos (unquote q character (drop at (marked s)))
    quotes_closed =
        record {
          same = inv.same;
          is = λ c rest y g.
              let d : c ≡ inv.done = ok-content (sym y ∙ closed_is) in
              let g' : pos + length inv.done ≤ length b = rw d at g in
              inv.wrote.is g' ∙ ap (over b pos) (sym d);
        }

  -- a piece
  module _ {b'' : List ℕ} (x : Pieced s q i b' b'' p None) where
    wrong-is : unquote q character (drop at (marked s)) ≡ fault no_token
    unfolding onward bind
    wrong-is = inv.left ∙ ap (λ (y : Result (List ℕ)). bind y (λ c r. ok (inv.done ++ c) r)) (x.bad refl)

    pub read-wrong : Scans s at None (unquote q character (drop at (marked s)))
    read-wrong = scans-no wrong-is

    pub quotes_wrong : Quotes b b'' pos (unquote q character (drop at (marked s)))
    quotes_wrong = quotes_no (x.same ∙ inv.same) wrong-is

  module _ {m : ReadPiece} {b'' : List ℕ} (x : Pieced s q i b' b'' p (Some m)) where
    pub read-on : QuoteRead s b at q pos m.next m.pos (size + m.size) b''
    unfolding onward
    read-on =
        let g = x.good m refl in
        let w = put-more inv.wrote g.put in
        record {
          done = inv.done ++ g.given;
          quote = inv.quote;
          from = omega (arith, inv.from, g.ahead);
          left = inv.left
              ∙ (ap (λ (y : Result (List ℕ)). bind y (λ c r. ok (inv.done ++ c) r)) g.is ∙ onward-more q inv.done g.given (drop m.next (marked s)));
          wrote = w;
          sized = omega (arith, inv.sized, g.size, length-append inv.done g.given);
          short = omega (arith, inv.short, g.short);
          same = w.same;
        }

  -- behind the text
  module _ (l : length s ≤ i) where
    end_is : unquote q character (drop at (marked s)) ≡ fault no_token
    unfolding onward bind move_at
    end_is =
        let n : 256 ≡ q → ⊥ = omega (arith, inv.quote) in
        inv.left ∙ ap (λ (y : Result (List ℕ)). bind y (λ c r. ok (inv.done ++ c) r)) (unquote-end q character s i l (rw (ne_eqb 256 q n, move_at)))

    pub read-end : Scans s at None (unquote q character (drop at (marked s)))
    read-end = scans-no end_is

    pub quotes_end : Quotes b b' pos (unquote q character (drop at (marked s)))
    quotes_end = quotes_no inv.same end_is

pub ruleset read_ways = (read-closed, quotes_closed, read-wrong, quotes_wrong, read-end, quotes_end)
