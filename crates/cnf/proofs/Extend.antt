-- Unique extension, once: clauses that open the variables from a up to b and tie each of them to those before it.
--
-- A step is a list of clauses that open one variable n: each clause is literals below n and then one of n (`Shapes`), and together they
-- hold exactly when n has the value that a function of the variables below n gives (`step`). Steps in a row extend every assignment of
-- the variables below the first to exactly one below the last that satisfies all clauses (`extends_append`, `extends_nil`). The steps
-- themselves are kept (`steps`), for whoever asks more of them: unit propagation goes step by step (crates/propagate).
-- Nothing here asks which function it is. Where no clause of a step names a variable twice, none of steps in a row does (`distinct`).
use Prim.Native.Nat.{ℕ, suc, ◌≤◌, ◌<◌, max}
use mathlib.Core.Path.{◌≡◌, refl, sym, ap, ap₂, ◌∙◌, subst}
use mathlib.Core.Logic.{◌⊎◌, inl, inr, ⊎_elim}
use mathlib.Core.Bool.{Bool, true, false, not, ◌&&◌, ◌||◌, beq, false≢true, and_assoc}
use mathlib.Core.List.{List, [], ◌∷◌, ◌++◌, append-nil, append_assoc}
use native.Mathlib.Decide.{ℕ_discrete}
use native.Mathlib.Nat.{le_refl, le-suc, eq-or-lt_of_le, le_of_suc-le-suc, max-eq_left, max-eq_right}
use native.Mathlib.Omega.{arith}
use borrow.Author.Tests.{eq-eqb, eqb-true, eqb-false}
use lib.Dec.{eqb}
use Rattle.cnf.specs.Clause.{Literal, Clause, Assignment, flips, negation, value, holds, satisfies, clause_names, clauses_name}
use Rattle.cnf.specs.Clause.{Distinct, AllDistinct, StandsIn}

-- ---- clauses in a row

pub and_left : (a b : Bool) → a && b ≡ true → a ≡ true
and_left true b e = refl
and_left false b e = e

pub and_right : (a b : Bool) → a && b ≡ true → b ≡ true
and_right true b e = e
and_right false b e = absurd (false≢true e)

pub and_both : (a b : Bool) → a ≡ true → b ≡ true → a && b ≡ true
and_both true b e f = f
and_both false b e f = e

pub satisfies_append : (α : Assignment) (cs ds : List Clause) → satisfies α (cs ++ ds) ≡ satisfies α cs && satisfies α ds
satisfies_append α [] ds = refl
satisfies_append α (c ∷ cs) ds =
    ap (λ (b : Bool). holds α c && b) (satisfies_append α cs ds) ∙ sym (and_assoc (holds α c) (satisfies α cs) (satisfies α ds))

pub satisfies_left : (α : Assignment) (cs ds : List Clause) → satisfies α (cs ++ ds) ≡ true → satisfies α cs ≡ true
satisfies_left α cs ds e = and_left (satisfies α cs) (satisfies α ds) (sym (satisfies_append α cs ds) ∙ e)

pub satisfies_right : (α : Assignment) (cs ds : List Clause) → satisfies α (cs ++ ds) ≡ true → satisfies α ds ≡ true
satisfies_right α cs ds e = and_right (satisfies α cs) (satisfies α ds) (sym (satisfies_append α cs ds) ∙ e)

satisfies_both : (α : Assignment) (cs ds : List Clause) → satisfies α cs ≡ true → satisfies α ds ≡ true → satisfies α (cs ++ ds) ≡ true
satisfies_both α cs ds e f = satisfies_append α cs ds ∙ and_both (satisfies α cs) (satisfies α ds) e f

-- lists of clauses in a row
abbrev pub joined : List (List Clause) → List Clause
joined [] = []
joined (cs ∷ css) = cs ++ joined css

joined_append : (css dss : List (List Clause)) → joined (css ++ dss) ≡ joined css ++ joined dss
joined_append [] dss = refl
joined_append (cs ∷ css) dss = ap (λ (ds : List Clause). cs ++ ds) (joined_append css dss) ∙ sym (append_assoc cs (joined css) (joined dss))

pub all_distinct_append : (cs ds : List Clause) → AllDistinct cs → AllDistinct ds → AllDistinct (cs ++ ds)
all_distinct_append [] ds s t = t
all_distinct_append (c ∷ cs) ds s t = (s.0, all_distinct_append cs ds s.1 t)

-- ---- the first number past n and past every variable that is named

abbrev pub past_clause : ℕ → Clause → ℕ
past_clause n [] = n
past_clause n (l ∷ c) = past_clause (max n (suc l.variable)) c

abbrev pub past : ℕ → List Clause → ℕ
past n [] = n
past n (c ∷ cs) = past (past_clause n c) cs

past_append : (n : ℕ) (cs ds : List Clause) → past n (cs ++ ds) ≡ past (past n cs) ds
past_append n [] ds = refl
past_append n (c ∷ cs) ds = past_append (past_clause n c) cs ds

-- ---- an assignment changed at one variable

put_by : {v n : ℕ} → Dec (v ≡ n) → Bool → Bool → Bool
put_by (yes e) b c = b
put_by (no e) b c = c

pub put : ℕ → Bool → Assignment → Assignment
put n b α v = put_by (ℕ_discrete v n) b (α v)

pub put_same : (n : ℕ) (b : Bool) (α : Assignment) → put n b α n ≡ b
unfolding put put_by
put_same n b α = go (ℕ_discrete n n)
  where
    go : (d : Dec (n ≡ n)) → put_by d b (α n) ≡ b
    go (yes e) = refl
    go (no e) = absurd (e refl)

pub put_other : (n : ℕ) (b : Bool) (α : Assignment) (v : ℕ) → (v ≡ n → ⊥) → α v ≡ put n b α v
unfolding put put_by
put_other n b α v h = go (ℕ_discrete v n)
  where
    go : (d : Dec (v ≡ n)) → α v ≡ put_by d b (α v)
    go (yes e) = absurd (h e)
    go (no e) = refl

pub not_itself : (b : Bool) → not b ≡ b → ⊥
not_itself true e = false≢true e
not_itself false e = false≢true (sym e)

beq_true : (a b : Bool) → a ≡ b → beq a b ≡ true
beq_true true true e = refl
beq_true true false e = sym e
beq_true false true e = e
beq_true false false e = refl

pub eq_of_beq : (a b : Bool) → beq a b ≡ true → a ≡ b
eq_of_beq true true e = refl
eq_of_beq true false e = sym e
eq_of_beq false true e = e
eq_of_beq false false e = refl

-- ---- the variables that may stand in clauses are those that are Used: all from 1 on, for DIMACS

module _ (Used : ℕ → Type 0) where
  -- the two assignments give the variables below n the same values
  abbrev pub Agree : ℕ → Assignment → Assignment → Type 0
  Agree n α β = (v : ℕ) → Used v → v < n → α v ≡ β v

  -- the variables from n on may be opened
  abbrev pub Fresh : ℕ → Type 0
  Fresh n = (v : ℕ) → n ≤ v → Used v

  pub fresh_more : {n m : ℕ} → n ≤ m → Fresh n → Fresh m
  fresh_more l f v h = f v (omega arith)

  abbrev pub Within : ℕ → Literal → Type 0
  Within n l = Used l.variable × (l.variable < n)

  abbrev pub Literals : ℕ → List Literal → Type 0
  Literals n [] = Unit {0}
  Literals n (l ∷ ls) = Within n l × Literals n ls

  -- every literal of the clauses is below n
  abbrev pub Names : ℕ → List Clause → Type 0
  Names n [] = Unit {0}
  Names n (c ∷ cs) = Literals n c × Names n cs

  pub literals_more : {n m : ℕ} (ls : List Literal) → n ≤ m → Literals n ls → Literals m ls
  literals_more [] h i = tt
  literals_more (l ∷ ls) h i = ((i.0.0, omega arith), literals_more ls h i.1)

  names_more : {n m : ℕ} (cs : List Clause) → n ≤ m → Names n cs → Names m cs
  names_more [] h i = tt
  names_more (c ∷ cs) h i = (literals_more c h i.0, names_more cs h i.1)

  names_append : (n : ℕ) (cs ds : List Clause) → Names n cs → Names n ds → Names n (cs ++ ds)
  names_append n [] ds i j = j
  names_append n (c ∷ cs) ds i j = (i.0, names_append n cs ds i.1 j)

  pub value_local : {n : ℕ} {α β : Assignment} (l : Literal) → Within n l → Agree n α β → value α l ≡ value β l
  value_local l i h = ap (flips l.negated) (h l.variable i.0 i.1)

  holds_local : {n : ℕ} {α β : Assignment} (c : Clause) → Literals n c → Agree n α β → holds α c ≡ holds β c
  holds_local [] i h = refl
  holds_local (l ∷ c) i h = ap₂ ◌||◌ (value_local l i.0 h) (holds_local c i.1 h)

  pub satisfies_local : {n : ℕ} {α β : Assignment} (cs : List Clause) → Names n cs → Agree n α β → satisfies α cs ≡ satisfies β cs
  satisfies_local [] i h = refl
  satisfies_local (c ∷ cs) i h = ap₂ ◌&&◌ (holds_local c i.0 h) (satisfies_local cs i.1 h)

  past_literals : {n : ℕ} (c : Clause) → Literals n c → past_clause n c ≡ n
  past_literals [] i = refl
  past_literals (l ∷ c) i = ap (λ (k : ℕ). past_clause k c) (max-eq_left i.0.1) ∙ past_literals c i.1

  past_names : {n : ℕ} (cs : List Clause) → Names n cs → past n cs ≡ n
  past_names [] i = refl
  past_names (c ∷ cs) i = ap (λ (k : ℕ). past k cs) (past_literals c i.0) ∙ past_names cs i.1

  -- ---- clauses that open variables

  -- literals below n, and then one of n
  abbrev pub Shape : ℕ → Clause → Type 0
  Shape n [] = ⊥
  Shape n (l ∷ []) = l.variable ≡ n
  Shape n (l ∷ k ∷ c) = Within n l × Shape n (k ∷ c)

  abbrev pub Shapes : ℕ → List Clause → Type 0
  Shapes n [] = Unit {0}
  Shapes n (c ∷ cs) = Shape n c × Shapes n cs

  -- a step: together the clauses say that the variable n has the value of a function of the variables below n
  pub record Step (n : ℕ) (cs : List Clause) : Type 0 where
    pub used : Used n
    pub function : Assignment → Bool
    pub low : (α β : Assignment) → Agree n α β → function α ≡ function β
    pub shapes : Shapes n cs
    pub forced : (α : Assignment) → satisfies α cs ≡ beq (α n) (function α)

  -- steps in a row, which open the variables from a up to b
  abbrev pub Steps : ℕ → ℕ → List (List Clause) → Type 0
  Steps a b [] = a ≡ b
  Steps a b (cs ∷ css) = Step a cs × Steps (suc a) b css

  steps_append : (a b c : ℕ) (css dss : List (List Clause)) → Steps a b css → Steps b c dss → Steps a c (css ++ dss)
  steps_append a b c [] dss e t = subst (λ (n : ℕ). Steps n c dss) (sym e) t
  steps_append a b c (cs ∷ css) dss s t = (s.0, steps_append (suc a) b c css dss s.1 t)

  -- every assignment below a extends to exactly one below b that satisfies cs; cs names variables below b only, and the highest of them
  -- where b is above a; no clause names one twice; and cs are steps
  pub record Extends (a b : ℕ) (cs : List Clause) : Type 0 where
    pub grows : a ≤ b
    pub exists : (α : Assignment) → (β : Assignment) × Agree a α β × (satisfies β cs ≡ true)
    pub unique : (α β : Assignment) → Agree a α β → satisfies α cs ≡ true → satisfies β cs ≡ true → Agree b α β
    pub names : Names b cs
    pub opens : past a cs ≡ b
    pub distinct : AllDistinct cs
    pub steps : (css : List (List Clause)) × (joined css ≡ cs) × Steps a b css

  agree_less : {a b : ℕ} {α β : Assignment} → a ≤ b → Agree b α β → Agree a α β
  agree_less l h v p q = h v p (omega arith)

  agree_trans : {n : ℕ} {α β γ : Assignment} → Agree n α β → Agree n β γ → Agree n α γ
  agree_trans h k v p q = h v p q ∙ k v p q

  pub extends_nil : (n : ℕ) → Extends n n []
  extends_nil n = record {
    grows = le_refl n;
    exists = λ α. (α, (λ v p q. refl), refl);
    unique = λ α β h s t. h;
    names = tt;
    opens = refl;
    distinct = tt;
    steps = ([], refl, refl);
  }

  pub extends_append : {a b c : ℕ} {cs ds : List Clause} → Extends a b cs → Extends b c ds → Extends a c (cs ++ ds)
  extends_append {a} {b} {c} {cs} {ds} p q = record {
    grows = omega (arith, p.grows, q.grows);
    exists = λ α.
        let r = p.exists α in
        let s = q.exists r.0 in (
          s.0,
          agree_trans r.1 (agree_less p.grows s.1),
          satisfies_both s.0 cs ds (sym (satisfies_local cs p.names s.1) ∙ r.2) s.2,
        );
    unique = λ α β h s t.
        q.unique α β (p.unique α β h (satisfies_left α cs ds s) (satisfies_left β cs ds t)) (satisfies_right α cs ds s)
        (satisfies_right β cs ds t);
    names = names_append c cs ds (names_more cs q.grows p.names) q.names;
    opens = past_append a cs ds ∙ ap (λ (n : ℕ). past n ds) p.opens ∙ q.opens;
    distinct = all_distinct_append cs ds p.distinct q.distinct;
    steps =
        let s = p.steps in
        let t = q.steps in
        (s.0 ++ t.0, joined_append s.0 t.0 ∙ ap₂ ◌++◌ s.1 t.1, steps_append a b c s.0 t.0 s.2 t.2);
  }

  pub shape_literals : {n : ℕ} (c : Clause) → Used n → Shape n c → Literals (suc n) c
  shape_literals [] u s = tt
  shape_literals (l ∷ []) u s = ((subst Used (sym s) u, omega arith), tt)
  shape_literals (l ∷ k ∷ c) u s = ((s.0.0, omega arith), shape_literals (k ∷ c) u s.1)

  shapes_names : {n : ℕ} (cs : List Clause) → Used n → Shapes n cs → Names (suc n) cs
  shapes_names [] u s = tt
  shapes_names (c ∷ cs) u s = (shape_literals c u s.0, shapes_names cs u s.1)

  past_shape : {n : ℕ} (c : Clause) → Used n → Shape n c → past_clause n c ≡ suc n
  past_shape [] u s = absurd s
  past_shape {n} (l ∷ []) u s = ap (λ (v : ℕ). max n (suc v)) s ∙ max-eq_right (le-suc n)
  past_shape (l ∷ k ∷ c) u s = ap (λ (m : ℕ). past_clause m (k ∷ c)) (max-eq_left s.0.1) ∙ past_shape (k ∷ c) u s.1

  past_shapes : {n : ℕ} (cs : List Clause) → Used n → (cs ≡ [] → ⊥) → Shapes n cs → past n cs ≡ suc n
  past_shapes [] u f s = absurd (f refl)
  past_shapes (c ∷ cs) u f s = ap (λ (k : ℕ). past k cs) (past_shape c u s.0) ∙ past_names cs (shapes_names cs u s.1)

  -- ---- one step: its clauses say that the variable n has the value f, which the variables below n decide

  pub step : (n : ℕ) (cs : List Clause) (f : Assignment → Bool) → Used n
      → ((α β : Assignment) → Agree n α β → f α ≡ f β)
      → Shapes n cs
      → AllDistinct cs
      → ((α : Assignment) → satisfies α cs ≡ beq (α n) (f α))
      → Extends n (suc n) cs
  step n cs f u low shapes distinct forced = record {
    grows = omega arith;
    exists = λ α.
        let β : Assignment = put n (f α) α in
        (β, below (f α) α, forced β ∙ beq_true (β n) (f β) (put_same n (f α) α ∙ low α β (below (f α) α)));
    unique = λ α β h s t v p q.
        ⊎_elim (λ (e : v ≡ n). subst (λ (u : ℕ). α u ≡ β u) (sym e) (says α s ∙ low α β h ∙ sym (says β t))) (λ l. h v p l)
        (eq-or-lt_of_le (le_of_suc-le-suc q));
    names = shapes_names cs u shapes;
    opens = past_shapes cs u some shapes;
    distinct = distinct;
    steps = (cs ∷ [], append-nil cs, (record { used = u; function = f; low = low; shapes = shapes; forced = forced }, refl));
  }
    where
      says : (α : Assignment) → satisfies α cs ≡ true → α n ≡ f α
      says α s = eq_of_beq (α n) (f α) (sym (forced α) ∙ s)

      below : (b : Bool) (α : Assignment) → Agree n α (put n b α)
      below b α v p q = put_other n b α v (λ e. omega arith)

      -- without a clause the other value of n would do as well
      some : cs ≡ [] → ⊥
      some e =
          let α : Assignment = λ v. false in
          let β : Assignment = put n (not (f α)) α in
          let h : satisfies β cs ≡ true = ap (satisfies β) e in
          not_itself (f α) (sym (put_same n (not (f α)) α) ∙ says β h ∙ sym (low α β (below (not (f α)) α)))

-- ---- the variables that stand in clauses

pub or_true : (a b : Bool) → a || b ≡ true → (a ≡ true) ⊎ (b ≡ true)
or_true true b e = inl e
or_true false b e = inr e

pub or_false : (a b : Bool) → a || b ≡ false → (a ≡ false) × (b ≡ false)
or_false true b e = absurd (false≢true (sym e))
or_false false b e = (refl, e)

module _ (Used : ℕ → Type 0) (n : ℕ) where
  literal_used : (c : Clause) → Literals Used n c → (v : ℕ) → clause_names v c ≡ true → Used v × (v < n)
  literal_used [] i v e = absurd (false≢true e)
  literal_used (l ∷ c) i v e =
      ⊎_elim (λ h. subst (λ (u : ℕ). Used u × (u < n)) (eqb-true l.variable v h) i.0) (λ h. literal_used c i.1 v h)
      (or_true (eqb l.variable v) _ e)

  -- a variable that stands in some clause may stand there
  pub named_used : (cs : List Clause) → Names Used n cs → (v : ℕ) → clauses_name v cs ≡ true → Used v × (v < n)
  named_used [] i v e = absurd (false≢true e)
  named_used (c ∷ cs) i v e = ⊎_elim (λ h. literal_used c i.0 v h) (λ h. named_used cs i.1 v h) (or_true (clause_names v c) _ e)

  -- a variable that stands in no clause is another one than each that does
  literals_other : (c : Clause) → Literals Used n c → (v : ℕ) → clause_names v c ≡ false → Literals (λ u. u ≡ v → ⊥) n c
  literals_other [] i v e = tt
  literals_other (l ∷ c) i v e =
      let o = or_false (eqb l.variable v) (clause_names v c) e in
      ((eqb-false l.variable v o.0, i.0.1), literals_other c i.1 v o.1)

  names_other : (cs : List Clause) → Names Used n cs → (v : ℕ) → clauses_name v cs ≡ false → Names (λ u. u ≡ v → ⊥) n cs
  names_other [] i v e = tt
  names_other (c ∷ cs) i v e =
      let o = or_false (clause_names v c) (clauses_name v cs) e in
      (literals_other c i.0 v o.0, names_other cs i.1 v o.1)

-- each variable that is opened stands in some clause: with none of it both its values would do
pub opened_named : (Used : ℕ → Type 0) {a b : ℕ} {cs : List Clause} → Extends Used a b cs → (v : ℕ) → Used v → a ≤ v → v < b
    → clauses_name v cs ≡ true
opened_named Used {a} {b} {cs} x v u l h = go (clauses_name v cs) refl
  where
    go : (d : Bool) → clauses_name v cs ≡ d → d ≡ true
    go true e = refl
    go false e =
        let α : Assignment = (x.exists (λ k. false)).0 in
        let s : satisfies α cs ≡ true = (x.exists (λ k. false)).2 in
        let β : Assignment = put v (not (α v)) α in
        let t : satisfies β cs ≡ true =
        sym (satisfies_local (λ k. k ≡ v → ⊥) cs (names_other Used b cs x.names v e) (λ k p q. put_other v (not (α v)) α k p)) ∙ s in
        let q = x.unique α β (λ k p q. put_other v (not (α v)) α k (λ r. omega arith)) s t in
        absurd (not_itself (α v) (sym (put_same v (not (α v)) α) ∙ sym (q v u h)))

-- ---- no variable twice

stands_named : (l : Literal) (c : Clause) → StandsIn l c → clause_names l.variable c ≡ true
stands_named l [] s = absurd s
stands_named l (k ∷ c) s =
    ⊎_elim
    (λ (e : l ≡ k). rw (eq-eqb k.variable l.variable (ap (λ (m : Literal). m.variable) (sym e))))
    (λ t. ap (λ (b : Bool). eqb k.variable l.variable || b) (stands_named l c t) ∙ or_either (eqb k.variable l.variable))
    s
  where
    or_either : (a : Bool) → a || true ≡ true
    or_either true = refl
    or_either false = refl

-- no literal of k's variable stands behind k
named_once : (k l : Literal) (c : Clause) → clause_names k.variable c ≡ false → k.variable ≡ l.variable → StandsIn l c → ⊥
named_once k l c f e s = false≢true (sym f ∙ ap (λ (v : ℕ). clause_names v c) e ∙ stands_named l c s)

-- a literal never stands beside its own negation in a clause that names no variable twice
never_beside : (c : Clause) → Distinct c → (l : Literal) → StandsIn l c → StandsIn (negation l) c → ⊥
never_beside [] d l s t = s
never_beside (k ∷ c) d l s t =
    ⊎_elim
    (λ (e : l ≡ k).
    ⊎_elim
    (λ (g : negation l ≡ k). not_itself l.negated (ap (λ (m : Literal). m.negated) (g ∙ sym e)))
    (λ u. named_once k (negation l) c d.0 (ap (λ (m : Literal). m.variable) (sym e)) u)
    t)
    (λ r.
    ⊎_elim (λ (g : negation l ≡ k). named_once k l c d.0 (ap (λ (m : Literal). m.variable) (sym g)) r)
    (λ u. never_beside c d.1 l r u) t)
    s

pub never_beside_in : (cs : List Clause) → AllDistinct cs → (c : Clause) → StandsIn c cs
    → (l : Literal) → StandsIn l c → StandsIn (negation l) c → ⊥
never_beside_in [] d c i l s t = i
never_beside_in (b ∷ cs) d c i l s t =
    ⊎_elim (λ (e : c ≡ b). never_beside c (subst Distinct (sym e) d.0) l s t) (λ j. never_beside_in cs d.1 c j l s t) i
