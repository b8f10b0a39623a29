-- A table that agrees with a lookup t, whose splits are legal, at each odd number before the turn R: there it serves as t does.
use Prim.Native.Nat.{ℕ, ◌%◌, ◌<◌}
use mathlib.Core.Path.{◌≡◌, sym, ap, ◌∙◌, subst}
use mathlib.Core.Bool.{true}
use mathlib.Core.List.{List, []}
use native.Mathlib.Omega.{arith}
use lib.ListN.{length}
use Rattle.line.specs.Number.{bit_length}
use Rattle.split.specs.Choose.{Cost, best_below, choose, line_count, look, split_for}
use Rattle.split.specs.Reach.{adds, set_of, turn}
use Rattle.split.specs.Split.{legal}
use Rattle.split.proofs.Choose.{best_cost, choose_cong, chosen, split_rule, splits_legal}
use Rattle.split.proofs.Reach.{Depends, Legal, reach_cong}

module _ (t : ℕ → ℕ) (R : ℕ) (ok : Legal t R) (l : List ℕ) (agrees : (m : ℕ) → m % 2 ≡ 1 → turn m < R → look l m ≡ t m) where
  pub legals : Legal (look l) R
  legals m big odd less = subst (λ (s : ℕ). legal s m ≡ true) (sym (agrees m odd less)) (ok m big odd less)

  pub same_set : (m : ℕ) → m % 2 ≡ 1 → bit_length m < 64 → turn m < R → set_of (look l) m ≡ set_of t m
  unfolding set_of
  same_set m odd fits less = ap (λ (z : List ℕ). adds z []) (reach_cong R (look l) t legals (λ x big o r. agrees x o r) m odd fits less)

  pub same_count : (m : ℕ) → m % 2 ≡ 1 → bit_length m < 64 → turn m < R → line_count (look l) m ≡ line_count t m
  unfolding line_count
  same_count m odd fits less = ap (λ (z : List ℕ). length z) (same_set m odd fits less)

-- before n's turn the choice at n is the same, and so is its cost
module _ (cost : Cost) (depends : Depends cost) (l : List ℕ) {n : ℕ} (big : 1 < n) (odd : n % 2 ≡ 1) (few : bit_length n < 32)
    (agrees : (m : ℕ) → m % 2 ≡ 1 → turn m < turn n → look l m ≡ split_for cost m) where
  legal_before : Legal (look l) (turn n)
  legal_before = legals (split_for cost) (turn n) (λ m b o less. splits_legal cost depends n few m b o (omega arith)) l agrees

  pub chosen_is : choose cost (look l) n ≡ split_for cost n
  chosen_is =
      choose_cong cost depends (look l) (split_for cost) n legal_before (λ m b o less. agrees m o less) big odd (omega arith)
      ∙ sym (split_rule cost depends n big odd few)

  pub cost_is : (best_below cost (look l) n 128).cost ≡ cost (split_for cost) (split_for cost n) n
  cost_is =
      let s : ℕ = choose cost (look l) n in
      best_cost cost (look l) n (omega arith) few
      ∙ depends (look l) (split_for cost) n legal_before (λ m b o less. agrees m o less) big odd (omega arith) s
      (chosen cost (look l) n (omega arith) few).is_legal
      ∙ ap (λ (z : ℕ). cost (split_for cost) z n) chosen_is
