-- Of the code: how far the text of an encoded literal is read, and what was made of it. `content` says what a text stands for.
use Rattle.std.specs.Prelude.{ℕ, ◌-◌, ◌≤◌, ◌<◌, max, ◌≡◌, List, Option, length}
use Rattle.notation.specs.Literals.{Content, after}
use Rattle.scanning.specs.Stands.{span}
use Rattle.literal_body.specs.LiteralAnswers.{Decodes, Put, Fills}
use Rattle.literal_body.specs.declared.LiteralScan.{LiteralScan}
use Rattle.literal_body.specs.declared.Progress.{Progress}

-- a place before the end, and one that may be the end
pub record Before (s : List ℕ) (at stop : ℕ) : Type 0 where
  pub before : at < stop
  pub inside : stop ≤ length s

pub record Within (s : List ℕ) (at stop : ℕ) : Type 0 where
  pub within : at ≤ stop
  pub inside : stop ≤ length s

-- the text up to `stop` stands for ws between two places, and for what follows
pub record Yields (content : List ℕ → Content) (s : List ℕ) (stop from to : ℕ) (ws : List ℕ) : Type 0 where
  pub is : content (span from stop s) ≡ after ws (content (span to stop s))
  pub ahead : from ≤ to
  pub inside : to ≤ max from stop
  pub short : length ws ≤ to - from

-- what it stands for up to r.next is written from p on
pub record Progressed (content : List ℕ → Content) (s : List ℕ) (stop from : ℕ) (b b' : List ℕ) (p : ℕ) (r : Progress) : Type 0 where
  pub done : List ℕ
  pub yields : Yields content s stop from r.next done
  pub put : Put b b' p r.pos done
  pub size : r.size ≡ length done
  pub ahead : from ≤ r.next
  pub inside : r.next ≤ max from stop
  pub short : r.size ≤ r.next - from
  pub same : length b' ≡ length b

-- a whole literal is read
pub record DecodesInto (b b' : List ℕ) (p : ℕ) (r : Option LiteralScan) (res : Content) : Type 0 where
  pub decodes : Decodes r res
  pub fills : Fills b b' p res
