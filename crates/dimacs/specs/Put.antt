-- Bytes that are put at a place of a lent room; what stands before and behind them stays.
use Rattle.std.specs.Prelude.{ℕ, ◌+◌, ◌≤◌, ◌≡◌, List, length}
use Rattle.std.proofs.lemmas.List.Edits.{sets}

-- b is put at a: the room before and after, and the place r behind b
pub record Put (s t : List ℕ) (a r : ℕ) (b : List ℕ) : Type 0 where
  pub ends : r ≡ a + length b
  pub room : t ≡ sets s a b
  pub fits : r ≤ length s
