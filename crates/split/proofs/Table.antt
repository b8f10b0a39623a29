-- A table of which every entry is the one that the rule gives from the other entries is the table of the chosen splits: the test is
-- computed, and `tested` carries it to each odd number. Assumes nothing.
use Prim.Native.Nat.{ℕ, zero, suc, ◌+◌, ◌-◌, ◌*◌, ◌/◌, ◌%◌, ◌^◌, ◌≤◌, ◌<◌}
use mathlib.Core.Path.{◌≡◌, refl, sym, ap, ◌∙◌}
use mathlib.Core.Bool.{Bool, true, false}
use mathlib.Core.List.{List}
use native.Mathlib.Omega.{arith}
use native.Mathlib.Nat.{two-pow-succ}
use borrow.Author.Tests.{le-ltb}
use lib.Dec.{ltb}
use lib.ListN.{length, get_or}
use Rattle.line.specs.Number.{bit_length}
use Rattle.line.proofs.Number.{bits_le, lt_bits}
use Rattle.split.specs.Choose.{Cost, choose, Rule, split_for, look, splits_from}
use Rattle.split.proofs.Choose.{only}
use Rattle.split.proofs.Reach.{Depends}

-- a table's entry for n, as the rule gives it from the other entries
abbrev pub by_rule : Cost → List ℕ → ℕ → ℕ
by_rule cost table n = elim (ltb n 2) [ true ↦ 0 | false ↦ choose cost (look table) n ]

-- the test: every entry is the rule's
abbrev pub Tested : Cost → List ℕ → Type 0
Tested cost table = splits_from (by_rule cost table) 0 (length table) ≡ table

pub splits_at : (t : ℕ → ℕ) (k i j : ℕ) → j < k → get_or (splits_from t i k) j 0 ≡ t (2 * (i + j) + 1)
unfolding splits_from
splits_at t zero i j h = absurd (omega arith)
splits_at t (suc k) i zero h = ap t {x = 2 * i + 1} {y = 2 * (i + 0) + 1} (omega arith)
splits_at t (suc k) i (suc j) h = splits_at t k (suc i) j (omega arith) ∙ ap t {x = 2 * (suc i + j) + 1} {y = 2 * (i + suc j) + 1}
    (omega arith)

by_test : (cost : Cost) (table : List ℕ) (n : ℕ) → 1 < n → (b : Bool) → b ≡ false → elim b [ true ↦ 0 | false ↦ choose cost (look table) n ]
    ≡ choose cost (look table) n
by_test cost table n h b e = rw e

module _ (cost : Cost) (depends : Depends cost) (table : List ℕ) (L : ℕ) (some : 1 ≤ L) (long : length table ≡ 2 ^ (L - 1))
    (test : Tested cost table) where
  entry : (n : ℕ) → n % 2 ≡ 1 → bit_length n ≤ L → look table n ≡ by_rule cost table n
  unfolding look
  entry n odd few =
      let small : n < 2 ^ L = lt_bits L n few in
      let twice : 2 ^ L ≡ 2 * 2 ^ (L - 1) = ap (λ (k : ℕ). 2 ^ k) {x = L} {y = suc (L - 1)} (omega arith)
      ∙ (two-pow-succ (L - 1) ∙ omega arith) in
      ap (λ (l : List ℕ). get_or l (n / 2) 0) (sym test)
      ∙ (splits_at (by_rule cost table) (length table) 0 (n / 2) (omega arith)
      ∙ ap (by_rule cost table) {x = 2 * (0 + n / 2) + 1} {y = n} (omega arith))

  rule : Rule cost (look table) L
  rule =
      record {
        one = entry 1 refl (omega (arith, bits_le 1 1 (omega arith)));
        others = λ n big odd few. entry n odd few ∙ by_test cost table n big (ltb n 2) (le-ltb n 2 (omega arith));
      }

  -- the table of the chosen splits
  pub tested : L < 32 → (n : ℕ) → n % 2 ≡ 1 → bit_length n ≤ L → look table n ≡ split_for cost n
  tested small n odd few = only cost depends (look table) L rule small n odd few
