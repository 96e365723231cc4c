-- For the operations and the code: writing into a buffer of fixed length.
use Rattle.std.specs.Prelude.{ℕ, ◌+◌, ◌-◌, max, List, ◌++◌, true, false, leb, length, take, drop}

-- the buffer b with ws from p on
unfoldable pub over : List ℕ → ℕ → List ℕ → List ℕ
over b p ws = take p b ++ (ws ++ drop (p + length ws) b)

-- the same where ws fits, else b as it is
unfoldable pub over_if_fits : List ℕ → ℕ → List ℕ → List ℕ
over_if_fits b p ws = elim (leb (p + length ws) (length b)) [ true ↦ over b p ws | false ↦ b ]

-- the buffer b with ws from p on as far as b reaches, so b as it is where p is past its end
unfoldable pub clipped : List ℕ → ℕ → List ℕ → List ℕ
clipped b p ws = over b p (take (length b - p) ws)

-- r where b has n bytes, else b as it is
unfoldable pub if_fits : ℕ → List ℕ → List ℕ → List ℕ
if_fits n b r = elim (leb n (length b)) [ true ↦ r | false ↦ b ]

-- the size bytes from `from` on, written `by` places further up
unfoldable pub moved_up : List ℕ → ℕ → ℕ → ℕ → List ℕ
moved_up b from by size = if_fits (from + by + size) b (over b (from + by) (take size (drop from b)))

-- the size bytes that stand `by` places above `to`, written from `to` on
unfoldable pub moved_down : List ℕ → ℕ → ℕ → ℕ → List ℕ
moved_down b to by size = if_fits (to + by + size) b (over b to (take size (drop (to + by) b)))

-- the size bytes from `from` on, written from `to` on; both ends are inside
unfoldable pub moved : List ℕ → ℕ → ℕ → ℕ → List ℕ
moved b from to size = if_fits (max from to + size) b (over b to (take size (drop from b)))

-- the bytes hs put in front of the size bytes that stand behind one byte of room at p
unfoldable pub head_put : List ℕ → ℕ → List ℕ → ℕ → List ℕ
head_put b p hs size = if_fits (p + length hs + size) b (over b p (hs ++ take size (drop (p + 1) b)))

-- the first n bytes of s from p on, where s has as many
unfoldable pub copied : List ℕ → ℕ → List ℕ → ℕ → List ℕ
copied b p s n = elim (leb n (length s)) [ true ↦ over_if_fits b p (take n s) | false ↦ b ]
