-- Literals that are given are taken, are true in the room behind them, and nothing else is known there. Assumes nothing.
use mathlib.Core.Path.{◌≡◌, refl, sym, ap, ◌∙◌}
use mathlib.Core.Logic.{⊎_elim}
use mathlib.Core.Bool.{true, false, false≢true}
use mathlib.Core.List.{List, [], ◌∷◌}
use Prim.Native.Nat.{ℕ, zero, suc, ◌-◌, ◌≤◌, ◌<◌}
use native.Mathlib.Omega.{arith}
use lib.Dec.{eqb, ltb}
use lib.IntN.{ℤ}
use lib.ListN.{length, get_or, set, length-set}
use lib.Seq.{get_or-set_same, get_or-set_other}
use borrow.Author.Tests.{ne_eqb, le-ltb}
use Rattle.cnf.specs.Words.{named, names, DistinctBelow}
use Rattle.cnf.proofs.Words.{names_below, names_either, names_first, names_later, names_none}
use Rattle.propagate.specs.Clause.{byte, wanted, value_at}
use Rattle.propagate.specs.Pass.{unknowns, all_unknown, Held, given_rest}
use Rattle.propagate.specs.Promise.{read_off, TrueIn}
use Rattle.propagate.proofs.Literals.{wanted_le}

pub value_unknowns : (m v : ℕ) → value_at (unknowns m) v ≡ 2
value_unknowns m v = go m (v - 1)
  where
    go : (m i : ℕ) → get_or (unknowns m) i 2 ≡ 2
    go zero i = refl
    go (suc m) zero = refl
    go (suc m) (suc i) = go m i

pub all_unknowns : (m : ℕ) → all_unknown (unknowns m) ≡ true
unfolding all_unknown
all_unknowns zero = refl
all_unknowns (suc m) = all_unknowns m

-- ---- the room behind the given literals

pub record Taken (gs : List ℤ) (room room' : List ℕ) (h : Held) : Type 0 where
  pub is : h ≡ record { held = true; room = room' }
  pub long : length room' ≡ length room
  pub others : (v : ℕ) → 0 < v → (names v gs ≡ false) → value_at room' v ≡ value_at room v
  pub true_in : TrueIn room' gs

pub taken : (n : ℕ) (gs : List ℤ) (room : List ℕ) → DistinctBelow n gs → n ≤ suc (length room)
    → ((v : ℕ) → names v gs ≡ true → value_at room v ≡ 2)
    → (room' : List ℕ) × Taken gs room room' (given_rest gs room)
unfolding given_rest
taken n [] room d h f = (room, record { is = refl; long = refl; others = λ v p m. refl; true_in = tt })
taken n (g ∷ gs) room d h f =
    let room₁ : List ℕ = set room (named g - 1) (wanted g) in
    let away : (v : ℕ) → 0 < v → (v ≡ named g → ⊥) → value_at room₁ v ≡ value_at room v =
    λ v p e. get_or-set_other room (named g - 1) (v - 1) (wanted g) 2 (λ q. e (omega (arith, d.0, q))) in
    let e₁ : length room₁ ≡ length room = length-set room (named g - 1) (wanted g) in
    let r =
    taken n gs room₁ d.3 (omega arith)
    (λ v m. away v (names_below n gs v d.3 m).0 (λ e. false≢true (sym d.2 ∙ ap (λ (u : ℕ). names u gs) (sym e) ∙ m))
    ∙ f v (names_later v g gs m)) in
    let q₁ : eqb (named g) 0 ≡ false = ne_eqb (named g) 0 (λ e. omega (arith, d.0)) in
    let q₂ : ltb (length room) (named g) ≡ false = le-ltb (length room) (named g) (omega (arith, d.1)) in
    let q₃ : ltb (value_at room (named g)) 2 ≡ false =
    le-ltb (value_at room (named g)) 2 (omega (arith, f (named g) (names_first (named g) g gs refl))) in (
      r.0,
      record {
        is = rw (q₁, q₂, q₃) r.1.is;
        long = r.1.long ∙ e₁;
        others = λ v p m. r.1.others v p (names_none v g gs m).1 ∙ away v p (names_none v g gs m).0;
        true_in = (
          r.1.others (named g) d.0 d.2 ∙ get_or-set_same room (named g - 1) (wanted g) 2 (omega (arith, d.0, d.1)),
          r.1.true_in,
        );
      },
    )

-- a given variable has a value
pub given_value : (gs : List ℤ) (room : List ℕ) (v : ℕ) → TrueIn room gs → names v gs ≡ true → value_at room v ≤ 1
given_value [] room v t m = absurd (false≢true m)
given_value (g ∷ gs) room v t m =
    ⊎_elim (λ (e : v ≡ named g). omega (arith, ap (value_at room) e, t.0, wanted_le g)) (λ r. given_value gs room v t.1 r)
    (names_either v g gs m)

pub value_read_off : (room : List ℕ) (v : ℕ) → value_at room v ≤ 1 → value_at room v ≡ byte (read_off room v)
value_read_off room v h = go (value_at room v) h
  where
    go : (k : ℕ) → k ≤ 1 → k ≡ byte (eqb k 1)
    go zero h = refl
    go (suc zero) h = refl
    go (suc (suc k)) h = absurd (omega arith)
