-- The definition of the chosen split gives the worked cases' splits, by computation. Assumes nothing.
use Prim.Native.Nat.{ℕ, ◌%◌, ◌≤◌}
use mathlib.Core.Path.{◌≡◌, refl, fun_ext}
use mathlib.Core.Bool.{Bool, true, false}
use mathlib.Core.List.{List, map}
use native.Mathlib.Omega.{arith}
use borrow.Author.Tests.{eqb-true, ltb-true}
use lib.Dec.{eqb, ltb}
use lib.ListN.{length}
use Rattle.line.specs.Number.{digits_by, bit_length}
use Rattle.line.specs.Line.{kind_of}
use Rattle.line.proofs.Number.{bits_le}
use Rattle.split.specs.Split.{low, high, left_at, right_at, legal_at}
use Rattle.split.specs.Reach.{follow, reach_by, fuel, reach, member, add, adds, set_by}
use Rattle.split.specs.Choose.{lines, pick, better, best_below, choose, split_by, split_for, split_of, look, splits_from}
use Rattle.split.proofs.Reach.{lines_depend}
use Rattle.split.proofs.Table.{Tested, tested}
use Rattle.cases.specs.Table.{Chosen}
use Rattle.cases.specs.Bench.{bench}
use Rattle.cases.specs.Agreed.{agreed, agreed_splits}

-- the case as a lookup of splits answers it
abbrev pub answered : (ℕ → ℕ) → Chosen → Chosen
answered t k = record { n = k.n; split = t k.n }

abbrev pub AsWorked : (ℕ → ℕ) → List Chosen → Type 0
AsWorked t cases = map (answered t) cases ≡ cases

pub bench_right : AsWorked split_of bench.chosen
unfolding bench digits_by bit_length kind_of low high left_at right_at legal_at follow reach_by fuel reach member add adds set_by lines pick better best_below choose split_by split_for
bench_right = refl

pub agreed_right : AsWorked split_of agreed.chosen
unfolding agreed digits_by bit_length kind_of low high left_at right_at legal_at follow reach_by fuel reach member add adds set_by lines pick better best_below choose split_by split_for
agreed_right = refl

-- the rule gives every entry of the second engine's table, so it is the table of the chosen splits
agreed_splits_tested : Tested lines agreed_splits
unfolding agreed_splits digits_by bit_length kind_of low high left_at right_at legal_at follow reach_by fuel reach member add adds set_by lines pick better best_below choose look splits_from
agreed_splits_tested = refl

agreed_splits_long : length agreed_splits ≡ 256
unfolding agreed_splits
agreed_splits_long = refl

pub agreed_splits_right : (n : ℕ) → n % 2 ≡ 1 → bit_length n ≤ 9 → look agreed_splits n ≡ split_of n
agreed_splits_right n odd few = tested lines lines_depend agreed_splits 9 (omega arith) agreed_splits_long agreed_splits_tested
    (omega arith) n odd few

-- To follow the rule takes too long to compute. A lookup that has the table's split where the table has an entry, of an odd n below 512,
-- and else follows the rule, is the rule's own.
abbrev by_tests : Bool → Bool → ℕ → ℕ
by_tests true true n = look agreed_splits n
by_tests true false n = split_of n
by_tests false b n = split_of n

abbrev pub agreed_lookup : ℕ → ℕ
agreed_lookup n = by_tests (eqb (n % 2) 1) (ltb n 512) n

pub agreed_lookup_is : agreed_lookup ≡ split_of
agreed_lookup_is = fun_ext λ n. right n (eqb (n % 2) 1) (ltb n 512) refl refl
  where
    right : (n : ℕ) (a b : Bool) → eqb (n % 2) 1 ≡ a → ltb n 512 ≡ b → by_tests a b n ≡ split_of n
    right n true true odd few = agreed_splits_right n (eqb-true (n % 2) 1 odd) (bits_le 9 n (ltb-true n 512 few))
    right n true false odd few = refl
    right n false b odd few = refl
