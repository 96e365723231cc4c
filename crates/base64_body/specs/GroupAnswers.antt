-- Of the code: letters of base64 text with blanks between, and the last of them.
use Rattle.std.specs.Prelude.{ℕ, ◌+◌, ◌≤◌, ◌<◌, ◌≡◌, List, [], ◌++◌, false, Option, None, Some, get_or}
use Rattle.notation.specs.Classes.{blank, is}
use Rattle.notation.specs.Literals.{stands_for, bad, sextets, base64_from}
use Rattle.scanning.specs.Stands.{span}
use Rattle.base64_quantum.specs.QuantumAnswers.{waiting_of, all_sextets, flowing}
use Rattle.base64_quantum.specs.declared.Group.{Group}

-- nothing but blanks stands between two places
pub record Blanks (s : List ℕ) (stop from r : ℕ) : Type 0 where
  pub same : sextets (span from stop s) ≡ sextets (span r stop s)
  pub ahead : from ≤ r
  pub inside : r ≤ stop
  pub letter : r < stop → is blank (get_or s r 0) ≡ false

-- the letters of a group, and what follows them
pub record Letters (s : List ℕ) (stop from : ℕ) (g : Group) : Type 0 where
  pub is : sextets (span from stop s) ≡ waiting_of g ++ sextets (span g.next stop s)
  pub few : g.count < 4 → stop ≤ g.next
  pub most : g.count ≤ 4
  pub ahead : from + g.count ≤ g.next
  pub inside : g.next ≤ stop

-- the letters of a group are the last, or what follows makes them wrong
pub record Ending (s : List ℕ) (stop : ℕ) (g : Group) (r : Option ℕ) : Type 0 where
  pub is : g.count ≤ 4 → (g.count < 4 → stop ≤ g.next) → (4 ≤ g.count → all_sextets g ≡ false)
      → base64_from (waiting_of g ++ sextets (span g.next stop s)) ≡ elim r [ Some n ↦ flowing n g (stands_for []) | None ↦ bad ]
  pub most : (n : ℕ) → r ≡ Some n → n ≤ 3
  pub short : (n : ℕ) → r ≡ Some n → g.count ≤ 4 → n ≤ g.count
