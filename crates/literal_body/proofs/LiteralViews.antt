-- What a caller of the scans knows: the content where a scan found one, the fault where it did not, and how long a content is.
-- Assumes nothing.
use mathlib.Core.Path.{◌≡◌, refl, sym, ap, ◌∙◌}
use mathlib.Core.List.{List, [], ◌∷◌, ◌++◌}
use Prim.Native.Nat.{ℕ, ◌-◌, ◌≤◌}
use native.Mathlib.Omega.{arith}
use lib.Dec.{eqb}
use lib.ListN.{length, take, drop}
use Rattle.std.specs.Prelude.{Some, None}
use Rattle.cbor.specs.Refusals.{Result, ok, refuse, bind, no_token}
use Rattle.notation.specs.Scanning.{fault}
use Rattle.notation.specs.Reading.{marked}
use Rattle.notation.specs.Quoted.{Quoting, character, Move, gives, closed, wrong, move_at, unquote}
use Rattle.notation.specs.Literals.{is_body, body, Content, stands_for, bad, hex_content, base64_content}
use Rattle.literal_body.specs.LiteralAnswers.{FoundContent, scanned_by, Scans, Raw, decoded_by, Decodes}
use Rattle.literal_body.specs.declared.LiteralScan.{LiteralScan}
use Rattle.notation_theorems.proofs.TextScan.{tested}
use Rattle.notation_theorems.proofs.SoundContent.{Holds, hex-content, base64_content_lem}

-- A SCAN THAT FOUND A CONTENT

pub record Ended (s : List ℕ) (at : ℕ) (r : LiteralScan) (res : Result (List ℕ)) : Type 0 where
  pub all : List ℕ
  pub rest : List ℕ
  pub is : res ≡ ok all rest
  pub found : FoundContent s at r all rest

pub scan_good : {s : List ℕ} {at : ℕ} {r : LiteralScan} (res : Result (List ℕ)) → Scans s at (Some r) res → Ended s at r res
unfolding scanned_by
scan_good (ok c rest) x = record { all = c; rest = rest; is = refl; found = x.by }
scan_good (refuse n q) x = absurd x.by

-- the raw text of an encoded literal is the text up to the quote before `next`
pub raw_good : {s : List ℕ} {at : ℕ} {r : LiteralScan} {res : Result (List ℕ)} → Raw s at (Some r) res
    → res ≡ ok (take (r.next - 1 - at) (drop at s)) (drop r.next (marked s))
raw_good {s} {at} {r} {res} x =
    let y = scan_good res x.scans in
    let e : r.size ≡ r.next - 1 - at = omega (arith, x.next r refl) in
    let c : y.all ≡ take (r.next - 1 - at) (drop at s) = x.is r y.all y.rest refl y.is ∙ ap (λ (k : ℕ). take k (drop at s)) e in
    y.is ∙ (λ j. ok (c j) (sym y.found.left j))

-- A SCAN THAT FOUND NONE: the fault is 3 at the token

abbrev pub Faults : Result (List ℕ) → Type 0
Faults (ok c rest) = Unit {0}
Faults (refuse n q) = ◌≡◌ {A = Result (List ℕ)} (refuse n q) (fault no_token)

faults_on : (f : List ℕ → List ℕ) (res : Result (List ℕ)) → Faults res → Faults (bind res (λ c r. ok (f c) r))
unfolding bind
faults_on f (ok c rest) x = tt
faults_on f (refuse n q) x = x

pub body_faults : (s : List ℕ) → Faults (body s)
unfolding body
body_faults [] = refl
body_faults (b ∷ s) =
    tested Faults (eqb b 0x27) _ _ (λ p. tt)
    (λ p. tested Faults (eqb b 0x5c) _ _ (λ q. refl) (λ q. tested Faults (is_body b) _ _ (λ t. faults_on (λ c. b ∷ c) (body s) (body_faults s)) (λ t. refl)))

pub unquote_faults : (q : ℕ) (k : Quoting) (s : List ℕ) → Faults (unquote q k s)
unfolding unquote
unquote_faults q k [] = refl
unquote_faults q k (b ∷ s) = go (move_at q k b) (λ k'. unquote_faults q k' s)
  where
    go : (m : Move) → ((k' : Quoting) → Faults (unquote q k' s)) → Faults (elim m [ gives w k' ↦ bind (unquote q k' s) (λ c r. ok (w ++ c) r) | closed ↦ ok [] s | wrong ↦ fault no_token ])
    go (gives w k') f = faults_on (λ c. w ++ c) (unquote q k' s) (f k')
    go closed f = tt
    go wrong f = refl

scan_bad : {s : List ℕ} {at : ℕ} (res : Result (List ℕ)) → Faults res → Scans s at None res → res ≡ fault no_token
unfolding scanned_by
scan_bad (ok c rest) f x = absurd x.by
scan_bad (refuse n q) f x = f

pub quoted-bad : {s : List ℕ} {at : ℕ} (q : ℕ) → Scans s at None (unquote q character (drop at (marked s))) → unquote q character (drop at (marked s)) ≡ fault no_token
quoted-bad {s} {at} q x = scan_bad (unquote q character (drop at (marked s))) (unquote_faults q character (drop at (marked s))) x

pub raw_bad : {s : List ℕ} {at : ℕ} → Raw s at None (body (drop at (marked s))) → body (drop at (marked s)) ≡ fault no_token
raw_bad {s} {at} x = scan_bad (body (drop at (marked s))) (body_faults (drop at (marked s))) x.scans

-- WHAT A RAW TEXT STANDS FOR

pub record Stood (r : LiteralScan) (most : ℕ) (res : Content) : Type 0 where
  pub all : List ℕ
  pub is : res ≡ stands_for all
  pub size : r.size ≡ length all
  pub short : r.size ≤ most

decoded : {r : LiteralScan} {most : ℕ} (res : Content) → Holds most res → Decodes (Some r) res → Stood r most res
unfolding decoded_by
decoded (stands_for c) h x = record { all = c; is = refl; size = x.by; short = omega (arith, x.by, h.1) }
decoded bad h x = absurd x.by

pub decodes-bad : (res : Content) → Decodes None res → res ≡ bad
unfolding decoded_by
decodes-bad (stands_for c) x = absurd x.by
decodes-bad bad x = refl

pub hex-good : {r : LiteralScan} (s : List ℕ) → Decodes (Some r) (hex_content s) → Stood r (length s) (hex_content s)
hex-good s x = decoded (hex_content s) (hex-content s) x

pub base64_good : {r : LiteralScan} (s : List ℕ) → Decodes (Some r) (base64_content s) → Stood r (length s) (base64_content s)
base64_good s x = decoded (base64_content s) (base64_content_lem s) x
