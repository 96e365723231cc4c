-- The bytes that several calls moved: those of the calls before, and those of the last one.
-- Assumes nothing.
use Rattle.std.proofs.Common.{◌≡◌, ℕ, ◌+◌, ◌≤◌, List, ◌++◌, Option, length, take, drop, sym, ap, ◌∙◌, subst, arith, add-zero, append-nil, length-take, length-take-le, take-take}
use Rattle.std.proofs.KnownBytes.{Consumes-trans, Consumes-kept, Appends-trans}
use Rattle.std.proofs.Math.Seq.{take-add, take-append-add}
use Rattle.std.proofs.lemmas.List.{take-append-le}
use Rattle.std.specs.Io.KnownBytes.{Appends, Consumes, Keeps}
use borrow.Rule.Slice.PartMut.{put_mid}

-- the front of a buffer, the part of which that begins after it was lent
front : (at k n : ℕ) (xs ys : List ℕ) → at ≤ length xs → n ≤ length ys → take (at + n) (put_mid at k xs ys) ≡ take at xs ++ take n ys
front at k n xs ys within fits =
    ap (λ i. take (i + n) (put_mid at k xs ys)) (sym (length-take-le at xs within)) ∙ take-append-add (take at xs) _ n ∙ ap (λ l. take at xs ++ l) (take-append-le n ys _ fits)

pub read_on : (a b c : Option (List ℕ)) (at k n : ℕ) (xs ys : List ℕ) → at ≤ length xs → n ≤ length ys → Consumes a b (take at xs) → Consumes b c (take n ys) → Consumes a c (take (at + n) (put_mid at k xs ys))
read_on a b c at k n xs ys within fits before more = subst (Consumes a c) (sym (front at k n xs ys within fits)) (Consumes-trans a b c _ _ before more)

-- where a call moved no byte
pub read_kept : (a b c : Option (List ℕ)) (at n k : ℕ) (xs ys : List ℕ) → at ≤ length xs → n ≡ at → Consumes a b (take at xs) → Keeps b c → Consumes a c (take n (put_mid at k xs ys))
read_kept a b c at n k xs ys within e before kept =
    let same : take at (put_mid at k xs ys) ≡ take at xs = rw add-zero at (front at k 0 xs ys within (omega arith)) ∙ append-nil _ in
    rw (e, same) (Consumes-kept a b c _ before kept)

pub write_on : (a b c : Option (List ℕ)) (at k n : ℕ) (xs : List ℕ) → n ≤ length (take k (drop at xs)) → Appends a b (take at xs) → Appends b c (take n (take k (drop at xs))) → Appends a c (take (at + n) xs)
write_on a b c at k n xs fits before more =
    let rest = drop at xs in
    let within : n ≤ k = omega (arith, length-take k rest) in
    subst (Appends a c) (ap (λ l. take at xs ++ l) (take-take n k rest within) ∙ sym (take-add at n xs)) (Appends-trans a b c _ _ before more)
