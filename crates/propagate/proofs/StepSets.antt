-- One pass over clauses that are steps (crates/cnf, Extend) sets each variable that they open.
--
-- The room knows the values below n, and none from n on. No case analysis on the kind of step is needed: if no clause of a step sets its
-- variable n, then every clause holds with n's value flipped too, and the step's own law forbids that. After n is set every later clause of
-- the step has a true literal. Nothing here asks which function a step is, or whether two literals of a clause name one variable.
use mathlib.Core.Path.{◌≡◌, refl, sym, ap, ap₂, ◌∙◌, subst}
use mathlib.Core.Logic.{◌⊎◌, inl, inr, ⊎_elim}
use mathlib.Core.Bool.{Bool, true, false, cond, not, ◌||◌, false≢true}
use mathlib.Core.List.{List, [], ◌∷◌}
use Prim.Native.Nat.{ℕ, suc, ◌-◌, ◌≤◌, ◌<◌}
use native.Mathlib.Nat.{eq-or-lt_of_le, le_of_suc-le-suc}
use native.Mathlib.Omega.{arith}
use lib.ListN.{length, set, length-set}
use lib.Seq.{get_or-set_same, get_or-set_other}
use Rattle.cnf.specs.Clause.{Literal, Clause, Assignment, value, holds, satisfies}
use Rattle.cnf.specs.Words.{From1}
use Rattle.cnf.proofs.Extend.{and_left, and_right, and_both, not_itself, joined, put, put_same, put_other, eq_of_beq, Agree, Within}
use Rattle.cnf.proofs.Extend.{Literals, value_local, Shape, Shapes, shape_literals, Step, Steps, Extends, satisfies_left, satisfies_right}
use Rattle.propagate.specs.Clause.{byte, value_at, with_literal}
use Rattle.propagate.specs.declared.Verdict.{Verdict}
use Rattle.propagate.specs.declared.Verdict.TheVariants.{AllFalse, Sets, Passes}
use Rattle.propagate.proofs.Literals.{value_of_true}
use Rattle.propagate.proofs.Verdicts.{verdict, literal_seen, PassesOver, over_none, over_append, over_passed, over_set, with_known}
use Rattle.propagate.proofs.Verdicts.{with_first_unknown, verdict_passes}

module _ (Used : ℕ → Type 0) (positive : (v : ℕ) → Used v → 0 < v) where
  -- the room knows the values of α below n, and none from n on
  pub record Knows (n : ℕ) (α : Assignment) (room : List ℕ) : Type 0 where
    pub below : (v : ℕ) → Used v → v < n → value_at room v ≡ byte (α v)
    pub above : (v : ℕ) → n ≤ v → value_at room v ≡ 2

  in_room : (n m : ℕ) (c : Clause) → Literals Used n c → n ≤ suc m → Literals From1 (suc m) c
  in_room n m [] i h = tt
  in_room n m (l ∷ c) i h = ((positive l.variable i.0.0, omega (arith, i.0.1)), in_room n m c i.1 h)

  shape_in_room : (n m : ℕ) (c : Clause) → Used n → Shape Used n c → n ≤ m → Literals From1 (suc m) c
  shape_in_room n m c u s h = in_room (suc n) m c (shape_literals Used c u s) (omega arith)

  -- a literal below n is known
  seen_known : (n : ℕ) (α : Assignment) (room : List ℕ) (d : Verdict) (l : Literal) → Knows n α room → Within Used n l
      → literal_seen room d l ≡ cond (value α l) Passes d
  seen_known n α room d l k i =
      ap (with_literal d l.variable (byte (not l.negated))) (k.below l.variable i.0 i.1)
      ∙ with_known d l.variable l.negated (α l.variable)

  -- ---- behind n: all literals are known, and one of them is true

  true_passes : (n : ℕ) (α : Assignment) (room : List ℕ) (c : Clause) → Knows n α room → Literals Used n c → holds α c ≡ true
      → verdict room AllFalse c ≡ Passes
  true_passes n α room [] k i h = absurd (false≢true h)
  true_passes n α room (l ∷ c) k i h =
      ap (λ (d : Verdict). verdict room d c) (seen_known n α room AllFalse l k i.0) ∙ go (value α l) (true_passes n α room c k i.1) h
    where
      go : (b : Bool) → (holds α c ≡ true → verdict room AllFalse c ≡ Passes) → b || holds α c ≡ true
          → verdict room (cond b Passes AllFalse) c ≡ Passes
      go true f e = verdict_passes room c
      go false f e = f e

  later : (n : ℕ) (α : Assignment) (room : List ℕ) (cs : List Clause) → Used n → n ≤ length room → Knows (suc n) α room → Shapes Used n cs
      → satisfies α cs ≡ true → PassesOver room cs room
  later n α room [] u h k s t = over_none room
  later n α room (c ∷ cs) u h k s t =
      over_passed room c cs room (shape_in_room n (length room) c u s.0 h)
      (true_passes (suc n) α room c k (shape_literals Used c u s.0) (and_left (holds α c) (satisfies α cs) t))
      (later n α room cs u h k s.1 (and_right (holds α c) (satisfies α cs) t))

  -- ---- up to n: a clause is passed, and holds with n flipped too, or it gives n its value

  abbrev First : ℕ → Assignment → Assignment → List ℕ → Clause → Type 0
  First n α β room c = ((verdict room AllFalse c ≡ Passes) × (holds β c ≡ true)) ⊎ (verdict room AllFalse c ≡ Sets n (byte (α n)))

  first : (n : ℕ) (α β : Assignment) (room : List ℕ) (c : Clause) → Agree Used n α β → Knows n α room → Shape Used n c → holds α c ≡ true
      → First n α β room c
  first n α β room [] a k s h = absurd s
  first n α β room (l ∷ []) a k s h =
      inr (ap (with_literal AllFalse l.variable (byte (not l.negated))) (k.above l.variable (omega (arith, s)))
      ∙ with_first_unknown l.variable l.negated
      ∙ ap₂ Sets s (ap byte (value_of_true l.negated (α l.variable) (or_false (value α l) h) ∙ ap α s)))
    where
      or_false : (b : Bool) → b || false ≡ true → b ≡ true
      or_false true e = refl
      or_false false e = e
  first n α β room (l ∷ m ∷ c) a k s h = go (value α l) refl (first n α β room (m ∷ c) a k s.1) h
    where
      seen : (b : Bool) → value α l ≡ b → verdict room AllFalse (l ∷ m ∷ c) ≡ verdict room (cond b Passes AllFalse) (m ∷ c)
      seen b e =
          ap (λ (d : Verdict). verdict room d (m ∷ c))
          (seen_known n α room AllFalse l k s.0 ∙ ap (λ (x : Bool). cond x Passes AllFalse) e)

      or_right : (x y : Bool) → y ≡ true → x || y ≡ true
      or_right true y e = refl
      or_right false y e = e

      go : (b : Bool) → value α l ≡ b → (holds α (m ∷ c) ≡ true → First n α β room (m ∷ c)) → b || holds α (m ∷ c) ≡ true
          → First n α β room (l ∷ m ∷ c)
      go true e f g =
          inl (seen true e ∙ verdict_passes room (m ∷ c), ap (λ (x : Bool). x || holds β (m ∷ c)) (sym (value_local Used l s.0 a) ∙ e))
      go false e f g =
          ⊎_elim
          (λ (r : (verdict room AllFalse (m ∷ c) ≡ Passes) × (holds β (m ∷ c) ≡ true)). inl
          (seen false e ∙ r.0, or_right (value β l) (holds β (m ∷ c)) r.1))
          (λ (r : verdict room AllFalse (m ∷ c) ≡ Sets n (byte (α n))). inr (seen false e ∙ r))
          (f g)

  learns : (n : ℕ) (α : Assignment) (room : List ℕ) → Used n → n ≤ length room → Knows n α room
      → Knows (suc n) α (set room (n - 1) (byte (α n)))
  learns n α room u h k = record {
    below = λ v uv q. ⊎_elim
        (λ (d : v ≡ n). ap (value_at (set room (n - 1) (byte (α n)))) d
        ∙ get_or-set_same room (n - 1) (byte (α n)) 2 (omega (arith, positive n u)) ∙ ap (λ (w : ℕ). byte (α w)) (sym d))
        (λ (d : v < n). get_or-set_other room (n - 1) (v - 1) (byte (α n)) 2 (λ e. omega (arith, positive n u, positive v uv))
        ∙ k.below v uv d)
        (eq-or-lt_of_le (le_of_suc-le-suc q));
    above = λ v q. get_or-set_other room (n - 1) (v - 1) (byte (α n)) 2 (λ e. omega (arith, positive n u)) ∙ k.above v (omega arith);
  }

  -- what one pass over cs makes of the room
  pub record SetTo (n : ℕ) (α : Assignment) (room : List ℕ) (cs : List Clause) : Type 0 where
    pub room' : List ℕ
    pub long : length room' ≡ length room
    pub over : PassesOver room cs room'
    pub knows : Knows n α room'

  up_to : (n : ℕ) (α β : Assignment) (room : List ℕ) (cs : List Clause) → Used n → n ≤ length room → Agree Used n α β → Knows n α room
      → Shapes Used n cs → satisfies α cs ≡ true
      → SetTo (suc n) α room cs ⊎ (satisfies β cs ≡ true)
  up_to n α β room [] u h a k s t = inr refl
  up_to n α β room (c ∷ cs) u h a k s t =
      let i = shape_in_room n (length room) c u s.0 h in
      let tl = and_right (holds α c) (satisfies α cs) t in
      ⊎_elim
      (λ (r : (verdict room AllFalse c ≡ Passes) × (holds β c ≡ true)). ⊎_elim
      (λ (q : SetTo (suc n) α room cs). inl record
      { room' = q.room'; long = q.long; over = over_passed room c cs q.room' i r.0 q.over; knows = q.knows })
      (λ (q : satisfies β cs ≡ true). inr (and_both (holds β c) (satisfies β cs) r.1 q))
      (up_to n α β room cs u h a k s.1 tl))
      (λ (r : verdict room AllFalse c ≡ Sets n (byte (α n))).
      let room₁ : List ℕ = set room (n - 1) (byte (α n)) in
      let e : length room₁ ≡ length room = length-set room (n - 1) (byte (α n)) in
      let j = learns n α room u h k in
      inl record {
        room' = room₁;
        long = e;
        over = over_set room c cs room₁ i n (byte (α n)) r (later n α room₁ cs u (omega arith) j s.1 tl);
        knows = j;
      })
      (first n α β room c a k s.0 (and_left (holds α c) (satisfies α cs) t))

  step_sets : (n : ℕ) (cs : List Clause) (α : Assignment) (room : List ℕ) → Step Used n cs → n ≤ length room → Knows n α room
      → satisfies α cs ≡ true → SetTo (suc n) α room cs
  step_sets n cs α room s h k t =
      let β : Assignment = put n (not (α n)) α in
      let below : Agree Used n α β = λ v p q. put_other n (not (α n)) α v (λ e. omega arith) in
      let says : (γ : Assignment) → satisfies γ cs ≡ true → γ n ≡ s.function γ =
      λ γ r. eq_of_beq (γ n) (s.function γ) (sym (s.forced γ) ∙ r) in
      ⊎_elim (λ (r : SetTo (suc n) α room cs). r)
      (λ (r : satisfies β cs ≡ true). absurd
      (not_itself (α n) (sym (put_same n (not (α n)) α) ∙ says β r ∙ sym (s.low α β below) ∙ sym (says α t))))
      (up_to n α β room cs s.used h below k s.shapes t)

  steps_set : (a b : ℕ) (css : List (List Clause)) (α : Assignment) (room : List ℕ) → Steps Used a b css → b ≤ suc (length room)
      → Knows a α room → satisfies α (joined css) ≡ true
      → SetTo b α room (joined css)
  steps_set a b [] α room e h k t =
      record { room' = room; long = refl; over = over_none room; knows = subst (λ (n : ℕ). Knows n α room) e k }
  steps_set a b (cs ∷ css) α room s h k t =
      let q = step_sets a cs α room s.0 (omega (arith, steps_grow (suc a) b css s.1)) k (satisfies_left α cs (joined css) t) in
      let r = steps_set (suc a) b css α q.room' s.1 (omega (arith, q.long)) q.knows (satisfies_right α cs (joined css) t) in
      record {
        room' = r.room';
        long = r.long ∙ q.long;
        over = over_append room q.room' r.room' cs (joined css) q.over r.over;
        knows = r.knows;
      }
    where
      steps_grow : (a b : ℕ) (css : List (List Clause)) → Steps Used a b css → a ≤ b
      steps_grow a b [] e = omega (arith, e)
      steps_grow a b (cs ∷ css) s = omega (arith, steps_grow (suc a) b css s.1)

  pub extends_set : (a b : ℕ) (cs : List Clause) (α : Assignment) (room : List ℕ) → Extends Used a b cs → b ≤ suc (length room)
      → Knows a α room → satisfies α cs ≡ true → SetTo b α room cs
  extends_set a b cs α room e h k t =
      let s = e.steps in
      subst (λ (ds : List Clause). SetTo b α room ds) s.1 (steps_set a b s.0 α room s.2 h k (ap (satisfies α) s.1 ∙ t))
