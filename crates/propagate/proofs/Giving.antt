-- The literals that hold, one by one; and a room without a value. Assumes nothing.
use mathlib.Core.Path.{◌≡◌, refl, sym, ap, ap₂, ◌∙◌}
use mathlib.Core.Bool.{Bool, true, false, cond, ◌&&◌, false≢true}
use mathlib.Core.List.{List, [], ◌∷◌}
use Prim.Native.Nat.{ℕ, suc, ◌+◌, ◌-◌, ◌≤◌, ◌<◌}
use native.Mathlib.Numerals.{add-one}
use native.Mathlib.Omega.{arith}
use lib.Dec.{eqb}
use lib.IntN.{ℤ, pos}
use lib.ListN.{length, get_or, drop, set}
use lib.Seq.{drop-cons}
use borrow.Author.Tests.{eqb-true}
use Rattle.std.proofs.lemmas.Bool.Decides.{nat_tests}
use Rattle.cnf.specs.Words.{named}
use Rattle.propagate.specs.Clause.{wanted, value_at}
use Rattle.propagate.specs.Pass.{unknowns, all_unknown, not_given, given_rest}
use Rattle.std.proofs.lemmas.List.{drop_all, get_or_default}

-- ---- the loop over the given literals: what is left is the whole

module _ (gs : List ℤ) (i : ℕ) (room : List ℕ) where
  pub all_given : length gs ≤ i → given_rest (drop i gs) room ≡ record { held = true; room = room }
  unfolding given_rest
  all_given h = ap (λ (l : List ℤ). given_rest l room) (drop_all i gs h)

  module _ (h : i < length gs) where
    next_given : (b : Bool) → not_given (get_or gs i (pos 0)) room ≡ b
        → given_rest (drop i gs) room
        ≡ cond b (record { held = false; room = room })
        (given_rest (drop (suc i) gs) (set room (named (get_or gs i (pos 0)) - 1) (wanted (get_or gs i (pos 0)))))
    unfolding given_rest
    next_given b q =
        ap (λ (l : List ℤ). given_rest l room) (drop-cons gs i (pos 0) h)
        ∙ ap (λ (t : Bool). cond t (record { held = false; room = room })
        (given_rest (drop (suc i) gs) (set room (named (get_or gs i (pos 0)) - 1) (wanted (get_or gs i (pos 0)))))) q

    pub none_given : not_given (get_or gs i (pos 0)) room ≡ true → given_rest (drop i gs) room ≡ record { held = false; room = room }
    none_given q = next_given true q

    pub one_given : not_given (get_or gs i (pos 0)) room ≡ false → (v : ℕ) → v ≡ named (get_or gs i (pos 0))
        → given_rest (drop i gs) room ≡ given_rest (drop (i + 1) gs) (set room (v - 1) (wanted (get_or gs i (pos 0))))
    one_given q v e =
        next_given false q
        ∙ ap₂ (λ (m j : ℕ). given_rest (drop m gs) (set room (j - 1) (wanted (get_or gs i (pos 0))))) (sym (add-one i)) (sym e)

-- the value of a variable in the room, at any default
pub value_found : (room : List ℕ) (v : ℕ) → 0 < v → v ≤ length room → value_at room v ≡ get_or room (v - 1) 0
value_found room v p l = get_or_default room (v - 1) 2 0 (omega arith)

-- the literals one by one
pub ruleset literal_by_literal = (all_given, none_given, one_given, value_found, nat_tests)

-- ---- a room without a value

pub unknown_room : (room : List ℕ) → all_unknown room ≡ true → room ≡ unknowns (length room)
unfolding all_unknown
unknown_room [] e = refl
unknown_room (b ∷ bs) e = go (eqb b 2) refl e (unknown_room bs)
  where
    go : (t : Bool) → eqb b 2 ≡ t → t && all_unknown bs ≡ true → (all_unknown bs ≡ true → bs ≡ unknowns (length bs))
        → b ∷ bs ≡ 2 ∷ unknowns (length bs)
    go true q f r = ap₂ (λ (x : ℕ) (l : List ℕ). x ∷ l) (eqb-true b 2 q) (r f)
    go false q f r = absurd (false≢true f)
