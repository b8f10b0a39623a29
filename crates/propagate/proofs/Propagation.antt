-- One pass over the words of clauses that open variables step by step (crates/cnf, Extend), with the variables below the first of them
-- given, reads every clause, sets every variable opened, and leaves a room that satisfies all clauses (`sets_all`).
--
-- The variables that may stand in the clauses are those that are given, all below n, and those from n on. So it holds where n is w + 1 and
-- the variables 1 to w are given, and where given are some variables below any first free number.
use Rattle.std.specs.Prelude.{Ok}
use Prim.Native.Nat.{ℕ, zero, suc, ◌+◌, ◌-◌, ◌≤◌, ◌<◌}
use mathlib.Core.Path.{◌≡◌, refl, sym, ap, ap₂, ◌∙◌, subst}
use mathlib.Core.Logic.{inl, inr, ⊎_elim}
use mathlib.Core.Bool.{Bool, true, false}
use mathlib.Core.List.{List, [], ◌∷◌, append-nil}
use native.Mathlib.Nat.{zero-add}
use native.Mathlib.Omega.{arith}
use lib.Dec.{eqb}
use lib.IntN.{ℤ}
use lib.ListN.{length}
use Rattle.cnf.specs.Clause.{Clause, Assignment, satisfies}
use Rattle.cnf.specs.Words.{named, names, DistinctBelow, words}
use Rattle.cnf.proofs.Words.{names_below, names_first, names_later}
use Rattle.cnf.proofs.Extend.{Agree, Extends, satisfies_local}
use Rattle.propagate.specs.Clause.{byte, value_at}
use Rattle.propagate.specs.Pass.{Propagating, passed, unknowns, all_unknown, Held, given_rest, propagated}
use Rattle.propagate.specs.Promise.{read_off, TrueIn, GivenOrNew, SetsAll}
use Rattle.propagate.proofs.Literals.{byte_le, not-true}
use Rattle.propagate.proofs.Passing.{passed_nil}
use Rattle.propagate.proofs.Giving.{unknown_room}
use Rattle.propagate.proofs.Verdicts.{PassesOver}
use Rattle.propagate.proofs.StepSets.{Knows, SetTo, extends_set}
use Rattle.propagate.proofs.GivenKnown.{value_unknowns, all_unknowns, Taken, taken, given_value, value_read_off}

length_unknowns : (m : ℕ) → length (unknowns m) ≡ m
length_unknowns zero = refl
length_unknowns (suc m) = ap suc (length_unknowns m)

-- a pass over all words, with allowance for every clause
pass_over_all : (room room' : List ℕ) (cs : List Clause) (allowance : ℕ) → PassesOver room cs room' → length cs ≤ allowance
    → passed allowance 0 (words cs) room ≡ record { answer = Ok (length cs); room = room' }
pass_over_all room room' cs allowance p h =
    let e : allowance ≡ length cs + (allowance - length cs) = omega arith in
    ap₂ (λ (a : ℕ) (ws : List ℤ). passed a 0 ws room) e (sym (append-nil (words cs)))
    ∙ p (allowance - length cs) 0 []
    ∙ passed_nil (allowance - length cs) (0 + length cs) room'
    ∙ ap (λ (n : ℕ). record { answer = Ok n; room = room' }) (zero-add (length cs))

-- the call, where the literals are taken and the pass reads every clause
call_reads : (ws gs : List ℤ) (allowance m k : ℕ) (room₁ room₂ : List ℕ) → given_rest gs (unknowns m) ≡ record { held = true; room = room₁ }
    → passed allowance 0 ws room₁ ≡ record { answer = Ok k; room = room₂ }
    → propagated ws gs allowance (unknowns m) ≡ record { answer = Ok k; room = room₂ }
unfolding propagated
call_reads ws gs allowance m k room₁ room₂ e f = rw (all_unknowns m, e, f)

-- given literals stay true where their variables keep their values
still_true : (hs : List ℤ) (room₁ room₂ : List ℕ) → ((v : ℕ) → names v hs ≡ true → value_at room₂ v ≡ value_at room₁ v) → TrueIn room₁ hs
    → TrueIn room₂ hs
still_true [] room₁ room₂ f t = tt
still_true (g ∷ hs) room₁ room₂ f t =
    (f (named g) (names_first (named g) g hs refl) ∙ t.0, still_true hs room₁ room₂ (λ v m. f v (names_later v g hs m)) t.1)

module _ (n : ℕ) (p : 0 < n) (gs : List ℤ) (d : DistinctBelow n gs) where
  abbrev Used : ℕ → Type 0
  Used = GivenOrNew gs n

  positive : (v : ℕ) → Used v → 0 < v
  positive v u = ⊎_elim (λ (m : names v gs ≡ true). (names_below n gs v d m).0) (λ (l : n ≤ v). let h : 0 < v = omega arith in h) u

  covered : (v : ℕ) → Used v → v < n → names v gs ≡ true
  covered v u q = ⊎_elim (λ (m : names v gs ≡ true). m) (λ (l : n ≤ v). absurd (omega arith)) u

  -- behind the given literals the room knows an assignment below n
  given_known : (room room₁ : List ℕ) (h : Held) → ((v : ℕ) → value_at room v ≡ 2) → Taken gs room room₁ h
      → Knows Used positive n (read_off room₁) room₁
  given_known room room₁ h f t = record {
    below = λ v u q. value_read_off room₁ v (given_value gs room₁ v t.true_in (covered v u q));
    above = λ v q. t.others v (omega arith) (not-true (names v gs) (λ m. omega (arith, (names_below n gs v d m).1))) ∙ f v;
  }

  -- what is known of one assignment is known of another that agrees with it
  knows_same : (α β : Assignment) (room : List ℕ) → Agree Used n α β → Knows Used positive n α room → Knows Used positive n β room
  knows_same α β room a k = record { below = λ v u q. k.below v u q ∙ ap byte (a v u q); above = k.above }

  module _ (next : ℕ) (cs : List Clause) (e : Extends Used n next cs) where
    -- the room behind the pass is the assignment β, below the next free variable
    promise : (room room₁ : List ℕ) (h : Held) → Taken gs room room₁ h → (β : Assignment) → Knows Used positive n β room₁
        → satisfies β cs ≡ true
        → (r : SetTo Used positive next β room₁ cs) → SetsAll n next cs gs room (record { answer = Ok (length cs); room = r.room' })
    promise room room₁ h t β k b r =
        let agree : Agree Used next (read_off r.room') β = λ v u l. ap (λ (w : ℕ). eqb w 1) (r.knows.below v u l) ∙ eqb_byte (β v) in
        record {
          read = refl;
          long = r.long ∙ t.long;
          holds = still_true gs room₁ r.room'
              (λ v m. let l = (names_below n gs v d m).1 in
              r.knows.below v (inl m) (omega (arith, l, e.grows)) ∙ sym (k.below v (inl m) l))
              t.true_in;
          set = λ v l h. omega (arith, r.knows.below v (inr l) h, byte_le (β v));
          rest = r.knows.above;
          satisfied = satisfies_local Used cs e.names agree ∙ b;
        }
      where
        eqb_byte : (b : Bool) → eqb (byte b) 1 ≡ b
        eqb_byte true = refl
        eqb_byte false = refl

    sets_unknowns : (allowance m : ℕ) → length cs ≤ allowance → next ≤ suc m
        → SetsAll n next cs gs (unknowns m) (propagated (words cs) gs allowance (unknowns m))
    sets_unknowns allowance m ha hm =
        let t = taken n gs (unknowns m) d (omega (arith, e.grows, length_unknowns m)) (λ v _. value_unknowns m v) in
        let b = e.exists (read_off t.0) in
        let k =
        knows_same (read_off t.0) b.0 t.0 b.1
        (given_known (unknowns m) t.0 (given_rest gs (unknowns m)) (value_unknowns m) t.1) in
        let r = extends_set Used positive n next cs b.0 t.0 e (omega (arith, t.1.long, length_unknowns m)) k b.2 in
        subst (λ (z : Propagating). SetsAll n next cs gs (unknowns m) z)
        (sym (call_reads (words cs) gs allowance m (length cs) t.0 r.room' t.1.is
        (pass_over_all t.0 r.room' cs allowance r.over ha)))
        (promise (unknowns m) t.0 (given_rest gs (unknowns m)) t.1 b.0 k b.2 r)

    pub sets_all : (allowance : ℕ) (room : List ℕ) → all_unknown room ≡ true → length cs ≤ allowance → next ≤ suc (length room)
        → SetsAll n next cs gs room (propagated (words cs) gs allowance room)
    sets_all allowance room u ha hm =
        subst (λ (r : List ℕ). SetsAll n next cs gs r (propagated (words cs) gs allowance r)) (sym (unknown_room room u))
        (sets_unknowns allowance (length room) ha hm)
