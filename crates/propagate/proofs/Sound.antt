-- The engine believes only the clauses, for all words, literals and rooms.
--
-- `count_read`: the count of a success is the number of clauses that the words are.
-- `sound`: in an assignment that makes the given literals true and satisfies the words, every value that the engine left is the
-- assignment's, and the engine does not answer 22. So 22 says that the clauses and the literals contradict each other.
use Prim.Native.Nat.{ℕ, zero, suc, ◌+◌, ◌-◌, ◌≤◌, ◌<◌}
use mathlib.Core.Path.{◌≡◌, refl, sym, ap, ◌∙◌, subst}
use mathlib.Core.Logic.{⊎_elim}
use mathlib.Core.Bool.{Bool, true, false, cond, not, ◌&&◌, ◌||◌, false≢true}
use mathlib.Core.List.{List, [], ◌∷◌, ◌++◌}
use native.Mathlib.Decide.{ℕ_discrete}
use native.Mathlib.Omega.{arith}
use lib.Dec.{eqb, ltb}
use lib.IntN.{ℤ, pos, negsuc}
use lib.ListN.{length, drop, set}
use lib.Seq.{get_or-set_same, get_or-set_other}
use borrow.Author.Tests.{eqb-true, eqb-false, ltb-true}
use Rattle.line.specs.Refusal.{number_of}
use Rattle.std.specs.Prelude.{Option, Some, None, Ok, Err}
use Rattle.cnf.specs.Clause.{Literal, Clause, Assignment, flips, value, holds, satisfies}
use Rattle.cnf.specs.Words.{named, clauses_from, clauses_of, satisfies_words}
use Rattle.cnf.proofs.Extend.{and_left, and_right, or_true}
use Rattle.propagate.specs.Clause.{byte, wanted, value_at, with_unknown, with_literal, closed, unless_above, reading, reading_clause}
use Rattle.propagate.specs.Pass.{turn_by, turn_of, room_by, room_of, Propagating, on_or_stop, passed, all_unknown, not_given}
use Rattle.propagate.specs.Pass.{given_rest, settled, propagated}
use Rattle.propagate.specs.Promise.{read_off, GivenTrue, Agrees}
use Rattle.propagate.specs.declared.Verdict.{Verdict}
use Rattle.propagate.specs.declared.Verdict.TheVariants.{AllFalse, Sets, Passes}
use Rattle.propagate.specs.declared.Reading.{Reading}
use Rattle.line.specs.declared.Refusal.TheVariants.{Given}
use Rattle.propagate.specs.Pass.{Propagated}
use Rattle.propagate.proofs.Literals.{value_of_true, wanted_true}
use Rattle.propagate.proofs.Passing.{Inside, ReadInside, inside}
use Rattle.propagate.proofs.Giving.{unknown_room}
use Rattle.propagate.proofs.GivenKnown.{value_unknowns, value_read_off}
use Rattle.propagate.proofs.Exact.{takes}

-- ---- a verdict under an assignment α that has the room's values

-- of the literals c so far: all false; or, if one is true, v has the value
Means : Assignment → Verdict → Clause → Type 0
Means α AllFalse c = holds α c ≡ false
Means α (Sets v b) c = holds α c ≡ true → byte (α v) ≡ b
Means α Passes c = Unit {0}

holds_snoc : (α : Assignment) (c : Clause) (l : Literal) → holds α (c ++ (l ∷ [])) ≡ holds α c || value α l
holds_snoc α [] l = or_false (value α l)
  where
    or_false : (b : Bool) → b || false ≡ b
    or_false true = refl
    or_false false = refl
holds_snoc α (k ∷ c) l = ap (λ (b : Bool). value α k || b) (holds_snoc α c l) ∙ or_assoc (value α k) (holds α c) (value α l)
  where
    or_assoc : (a b d : Bool) → a || (b || d) ≡ (a || b) || d
    or_assoc true b d = refl
    or_assoc false b d = refl

-- a literal of the variable v that wants 1, or 0 where it is negated
lit : ℕ → Bool → Literal
lit v s = record { variable = v; negated = s }

true_wants : (s b : Bool) → flips s b ≡ true → byte b ≡ byte (not s)
true_wants s b e = ap byte (sym (value_of_true s b e))

false_wants : (s b : Bool) → (byte b ≡ byte (not s) → ⊥) → flips s b ≡ false
false_wants true true f = refl
false_wants true false f = absurd (f refl)
false_wants false true f = absurd (f refl)
false_wants false false f = refl

or_falses : (a b : Bool) → a ≡ false → b ≡ false → a || b ≡ false
or_falses true b e f = e
or_falses false b e f = f

module _ (α : Assignment) (room : List ℕ) (a : Agrees α room) (v : ℕ) (p : 0 < v) (s : Bool) where
  -- a false literal changes nothing
  means_false : (d : Verdict) (c : Clause) → flips s (α v) ≡ false → Means α d c → Means α d (c ++ (lit v s ∷ []))
  unfolding Means lit
  means_false AllFalse c f m = holds_snoc α c (lit v s) ∙ or_falses (holds α c) (flips s (α v)) m f
  means_false (Sets u b) c f m = λ h.
      ⊎_elim m (λ (e : flips s (α v) ≡ true). absurd (false≢true (sym f ∙ e)))
      (or_true (holds α c) (flips s (α v)) (sym (holds_snoc α c (lit v s)) ∙ h))
  means_false Passes c f m = tt

  means_unknown : (d : Verdict) (c : Clause) → Means α d c → Means α (with_unknown d v (byte (not s))) (c ++ (lit v s ∷ []))
  unfolding Means lit
  means_unknown AllFalse c m = λ h.
      ⊎_elim (λ (e : holds α c ≡ true). absurd (false≢true (sym m ∙ e))) (λ (e : flips s (α v) ≡ true). true_wants s (α v) e)
      (or_true (holds α c) (flips s (α v)) (sym (holds_snoc α c (lit v s)) ∙ h))
  means_unknown (Sets u b) c m = go (eqb u v) (eqb b (byte (not s))) refl refl
    where
      go : (x y : Bool) → eqb u v ≡ x → eqb b (byte (not s)) ≡ y → Means α (cond (x && y) (Sets u b) Passes) (c ++ (lit v s ∷ []))
      go true true ex ey = λ h.
          ⊎_elim m (λ (e : flips s (α v) ≡ true). ap (λ (w : ℕ). byte (α w)) (eqb-true u v ex) ∙ true_wants s (α v) e
          ∙ sym (eqb-true b (byte (not s)) ey))
          (or_true (holds α c) (flips s (α v)) (sym (holds_snoc α c (lit v s)) ∙ h))
      go true false ex ey = tt
      go false y ex ey = tt
  means_unknown Passes c m = tt

  means_literal : (d : Verdict) (c : Clause) → Means α d c
      → Means α (with_literal d v (byte (not s)) (value_at room v)) (c ++ (lit v s ∷ []))
  unfolding with_literal Means
  means_literal d c m = go (eqb (value_at room v) (byte (not s))) refl (ltb (value_at room v) 2) refl
    where
      go : (x : Bool) → eqb (value_at room v) (byte (not s)) ≡ x → (y : Bool) → ltb (value_at room v) 2 ≡ y
          → Means α (cond x Passes (cond y d (with_unknown d v (byte (not s))))) (c ++ (lit v s ∷ []))
      go true ex y ey = tt
      go false ex true ey =
          means_false d c
          (false_wants s (α v) (λ e. eqb-false (value_at room v) (byte (not s)) ex (a v p (ltb-true (value_at room v) 2 ey) ∙ e))) m
      go false ex false ey = means_unknown d c m

-- what the meanings give
never : (α : Assignment) (c : Clause) → Means α AllFalse c → holds α c ≡ false
unfolding Means
never α c m = m

forced : (α : Assignment) (c : Clause) (v b : ℕ) → Means α (Sets v b) c → holds α c ≡ true → byte (α v) ≡ b
unfolding Means
forced α c v b m = m

-- ---- the first clause of words

record First (α : Assignment) (c : Clause) (ws : List ℤ) (j : ℕ) (d : Verdict) (k : ℕ) : Type 0 where
  clause : Clause
  taken : ℕ
  words_are : k ≡ j + suc taken
  clauses_are : clauses_from c ws ≡ clause ∷ clauses_of (drop (suc taken) ws)
  means : Means α d clause

unless_closed : (m v : ℕ) (later : Option Reading) (d : Verdict) (k : ℕ) → unless_above (ltb m v) later ≡ closed d k → later ≡ closed d k
unless_closed m v later d k e = go (ltb m v) e
  where
    go : (b : Bool) → unless_above b later ≡ closed d k → later ≡ closed d k
    go true f = absurd (let z : ◌≡◌ {A = ℕ} 0 1 = cc in omega arith)
    go false f = f

first : (α : Assignment) (room : List ℕ) → Agrees α room → (d₀ : Verdict) (c : Clause) (j : ℕ) (ws : List ℤ) (d : Verdict) (k : ℕ)
    → Means α d₀ c → reading room d₀ j ws ≡ closed d k → First α c ws j d k
unfolding reading clauses_from lit
first α room a d₀ c j [] d k m e = absurd (let z : ◌≡◌ {A = ℕ} 0 1 = cc in omega arith)
first α room a d₀ c j (pos zero ∷ ws) d k m e =
    let r : ◌≡◌ {A = Reading} (record { verdict = d₀; words = suc j }) (record { verdict = d; words = k }) = cc in
    let q : d₀ ≡ d = ap (λ (x : Reading). x.verdict) r in
    let f : suc j ≡ k = ap (λ (x : Reading). x.words) r in
    record { clause = c; taken = 0; words_are = sym f ∙ omega arith; clauses_are = refl; means = subst (λ (x : Verdict). Means α x c) q m }
first α room a d₀ c j (pos (suc v) ∷ ws) d k m e =
    let l : Literal = lit (suc v) false in
    let r =
    first α room a (with_literal d₀ (suc v) 1 (value_at room (suc v))) (c ++ (l ∷ [])) (suc j) ws d k
    (means_literal α room a (suc v) (omega arith) false d₀ c m)
    (unless_closed (length room) (suc v) (reading room (with_literal d₀ (suc v) 1 (value_at room (suc v))) (suc j) ws) d k e) in
    record {
      clause = r.clause;
      taken = suc r.taken;
      words_are = r.words_are ∙ omega arith;
      clauses_are = r.clauses_are;
      means = r.means;
    }
first α room a d₀ c j (negsuc v ∷ ws) d k m e =
    let l : Literal = lit (suc v) true in
    let r =
    first α room a (with_literal d₀ (suc v) 0 (value_at room (suc v))) (c ++ (l ∷ [])) (suc j) ws d k
    (means_literal α room a (suc v) (omega arith) true d₀ c m)
    (unless_closed (length room) (suc v) (reading room (with_literal d₀ (suc v) 0 (value_at room (suc v))) (suc j) ws) d k e) in
    record {
      clause = r.clause;
      taken = suc r.taken;
      words_are = r.words_are ∙ omega arith;
      clauses_are = r.clauses_are;
      means = r.means;
    }

-- the clause that was read in front of the others
first_of : (α : Assignment) (room : List ℕ) (ws : List ℤ) (d : Verdict) (k : ℕ) → Agrees α room → reading_clause room ws ≡ closed d k
    → (c : Clause) × (clauses_of ws ≡ c ∷ clauses_of (drop k ws)) × Means α d c
unfolding Means
first_of α room ws d k a e =
    let r = first α room a AllFalse [] 0 ws d k refl e in
    let q : suc r.taken ≡ k = sym (r.words_are ∙ omega arith) in
    (r.clause, r.clauses_are ∙ ap (λ (n : ℕ). r.clause ∷ clauses_of (drop n ws)) q, r.means)

-- ---- setting what is so

agrees_set : (α : Assignment) (room : List ℕ) (v b : ℕ) → Agrees α room → byte (α v) ≡ b → 0 < v → v ≤ length room
    → Agrees α (set room (v - 1) b)
agrees_set α room v b a e p l u q h =
    elim (ℕ_discrete u v) [
      | yes f ↦ ap (value_at (set room (v - 1) b)) f ∙ get_or-set_same room (v - 1) b 2 (omega arith) ∙ sym e
          ∙ ap (λ (w : ℕ). byte (α w)) (sym f)
      | no f ↦ let g = get_or-set_other room (v - 1) (u - 1) b 2 (λ z. f (omega (arith, q, p, z))) in g ∙ a u q (omega (arith, g))
    ]

pub record Sound (α : Assignment) (o : Propagating) : Type 0 where
  pub agrees : Agrees α o.room
  pub no_conflict : number_of o.answer ≡ 22 → ⊥

pass_sound : (α : Assignment) (allowance count : ℕ) (ws : List ℤ) (room : List ℕ) → Agrees α room → satisfies α (clauses_of ws) ≡ true
    → Sound α (passed allowance count ws room)
unfolding passed
pass_sound α zero count [] room a t = record { agrees = a; no_conflict = λ e. omega arith }
pass_sound α zero count (w ∷ ws) room a t = record { agrees = a; no_conflict = λ e. omega arith }
pass_sound α (suc allowance) count [] room a t = record { agrees = a; no_conflict = λ e. omega arith }
pass_sound α (suc allowance) count (w ∷ ws) room a t =
    go (reading_clause room (w ∷ ws)) refl (inside room (w ∷ ws)) (λ n r. pass_sound α allowance (suc count) (drop n (w ∷ ws)) r)
  where
    -- the clause holds, and the clauses behind it do
    holds_first : (d : Verdict) (n : ℕ) → reading_clause room (w ∷ ws) ≡ closed d n
        → (c : Clause) × (holds α c ≡ true) × Means α d c × (satisfies α (clauses_of (drop n (w ∷ ws))) ≡ true)
    holds_first d n e =
        let f = first_of α room (w ∷ ws) d n a e in
        let q : holds α f.0 && satisfies α (clauses_of (drop n (w ∷ ws))) ≡ true = sym (ap (satisfies α) f.1) ∙ t in (
          f.0,
          and_left (holds α f.0) (satisfies α (clauses_of (drop n (w ∷ ws)))) q,
          f.2,
          and_right (holds α f.0) (satisfies α (clauses_of (drop n (w ∷ ws)))) q,
        )

    by : (d : Verdict) (n : ℕ) → reading_clause room (w ∷ ws) ≡ closed d n → Inside (length room) d
        → ((n : ℕ) (l : List ℕ) → Agrees α l → satisfies α (clauses_of (drop n (w ∷ ws))) ≡ true
        → Sound α (passed allowance (suc count) (drop n (w ∷ ws)) l))
        → Sound α (on_or_stop (turn_by d n) (room_by d room) (λ n. passed allowance (suc count) (drop n (w ∷ ws)) (room_by d room)))
    by AllFalse n e i f = let h = holds_first AllFalse n e in absurd (false≢true (sym (never α h.0 h.2) ∙ h.1))
    by (Sets v b) n e i f =
        let h = holds_first (Sets v b) n e in
        f n (set room (v - 1) b) (agrees_set α room v b a (forced α h.0 v b h.2 h.1) i.0 i.1) h.3
    by Passes n e i f = let h = holds_first Passes n e in f n room a h.3

    go : (r : Option Reading) → reading_clause room (w ∷ ws) ≡ r → ReadInside (length room) (0 + length (w ∷ ws)) r
        → ((n : ℕ) (l : List ℕ) → Agrees α l → satisfies α (clauses_of (drop n (w ∷ ws))) ≡ true
        → Sound α (passed allowance (suc count) (drop n (w ∷ ws)) l))
        → Sound α (on_or_stop (turn_of r) (room_of r room) (λ n. passed allowance (suc count) (drop n (w ∷ ws)) (room_of r room)))
    go None e i f = record { agrees = a; no_conflict = λ z. omega arith }
    go (Some r) e i f = by r.verdict r.words e i.0 f

-- ---- the call

given_sound : (α : Assignment) (gs : List ℤ) (room : List ℕ) → Agrees α room → GivenTrue α gs → Agrees α (given_rest gs room).room
unfolding given_rest
given_sound α [] room a t = a
given_sound α (g ∷ gs) room a t = go (not_given g room) refl (λ b. given_sound α gs (set room (named g - 1) (wanted g)) b t.1)
  where
    go : (b : Bool) → not_given g room ≡ b
        → (Agrees α (set room (named g - 1) (wanted g)) → Agrees α (given_rest gs (set room (named g - 1) (wanted g))).room)
        → Agrees α (cond b (record { held = false; room = room }) (given_rest gs (set room (named g - 1) (wanted g)))).room
    go true e f = a
    go false e f = let k = takes g room e in f (agrees_set α room (named g) (wanted g) a (wanted_true α g t.0) k.some k.inside)

settled_sound : (α : Assignment) (came : List ℕ) (o : Propagating) → Agrees α came → Sound α o
    → Sound α (settled came o.answer o.room)
settled_sound α came o a s = go o.answer s.no_conflict
  where
    go : (x : Propagated) → (number_of x ≡ 22 → ⊥) → Sound α (settled came x o.room)
    go (Ok n) f = record { agrees = s.agrees; no_conflict = f }
    go (Err x) f = record { agrees = a; no_conflict = f }

pub sound : (ws gs : List ℤ) (allowance : ℕ) (room : List ℕ) → all_unknown room ≡ true → (α : Assignment) → GivenTrue α gs
    → satisfies_words α ws ≡ true → Sound α (propagated ws gs allowance room)
unfolding propagated
sound ws gs allowance room u α t h =
    let e = unknown_room room u in
    let a : Agrees α room = λ v p l. absurd (omega (arith, ap (λ (r : List ℕ). value_at r v) e, value_unknowns (length room) v)) in
    let s = pass_sound α allowance 0 ws (given_rest gs room).room (given_sound α gs room a t) h in
    go (all_unknown room && (given_rest gs room).held) (settled_sound α room (passed allowance 0 ws (given_rest gs room).room) a s) a
  where
    go : (b : Bool) {o : Propagating} → Sound α o → Agrees α room → Sound α (cond b o (record { answer = Err Given; room = room }))
    go true s a = s
    go false s a = record { agrees = a; no_conflict = λ z. omega arith }

-- ---- the count

pass_count : (allowance count : ℕ) (ws : List ℤ) (room : List ℕ) (n : ℕ) → (passed allowance count ws room).answer ≡ Ok n
    → n ≡ count + length (clauses_of ws)
unfolding passed clauses_from
pass_count zero count [] room n e = let f : count ≡ n = cc in omega arith
pass_count zero count (w ∷ ws) room n e = absurd (let z : ◌≡◌ {A = ℕ} 0 1 = cc in omega arith)
pass_count (suc allowance) count [] room n e = let f : count ≡ n = cc in omega arith
pass_count (suc allowance) count (w ∷ ws) room n e =
    go (reading_clause room (w ∷ ws)) refl (λ k l. pass_count allowance (suc count) (drop k (w ∷ ws)) l n) e
  where
    counted : (d : Verdict) (k : ℕ) → reading_clause room (w ∷ ws) ≡ closed d k → n ≡ suc count + length (clauses_of (drop k (w ∷ ws)))
        → n ≡ count + length (clauses_of (w ∷ ws))
    counted d k q f =
        let r = first_of (read_off room) room (w ∷ ws) d k (λ v p h. value_read_off room v (omega arith)) q in
        omega (arith, f, ap length r.1)

    by : (d : Verdict) (k : ℕ) → reading_clause room (w ∷ ws) ≡ closed d k
        → ((k : ℕ) (l : List ℕ) → (passed allowance (suc count) (drop k (w ∷ ws)) l).answer ≡ Ok n
        → n ≡ suc count + length (clauses_of (drop k (w ∷ ws))))
        → (on_or_stop (turn_by d k) (room_by d room) (λ k. passed allowance (suc count) (drop k (w ∷ ws)) (room_by d room))).answer ≡ Ok n
        → n ≡ count + length (clauses_of (w ∷ ws))
    by AllFalse k q f h = absurd (let z : ◌≡◌ {A = ℕ} 0 1 = cc in omega arith)
    by (Sets v b) k q f h = counted (Sets v b) k q (f k (set room (v - 1) b) h)
    by Passes k q f h = counted Passes k q (f k room h)

    go : (r : Option Reading) → reading_clause room (w ∷ ws) ≡ r
        → ((k : ℕ) (l : List ℕ) → (passed allowance (suc count) (drop k (w ∷ ws)) l).answer ≡ Ok n
        → n ≡ suc count + length (clauses_of (drop k (w ∷ ws))))
        → (on_or_stop (turn_of r) (room_of r room) (λ k. passed allowance (suc count) (drop k (w ∷ ws)) (room_of r room))).answer ≡ Ok n
        → n ≡ count + length (clauses_of (w ∷ ws))
    go None q f h = absurd (let z : ◌≡◌ {A = ℕ} 0 1 = cc in omega arith)
    go (Some r) q f h = by r.verdict r.words q f h

pub count_read : (ws gs : List ℤ) (allowance : ℕ) (room : List ℕ) (n : ℕ) → (propagated ws gs allowance room).answer ≡ Ok n
    → n ≡ length (clauses_of ws)
unfolding propagated
count_read ws gs allowance room n e =
    go (all_unknown room && (given_rest gs room).held) e
  where
    o : Propagating
    o = passed allowance 0 ws (given_rest gs room).room

    after : (a : Propagated) → o.answer ≡ a → (settled room a o.room).answer ≡ Ok n → n ≡ length (clauses_of ws)
    after (Ok k) q f = pass_count allowance 0 ws (given_rest gs room).room n (q ∙ f) ∙ omega arith
    after (Err x) q f = absurd (let z : ◌≡◌ {A = ℕ} 0 1 = cc in omega arith)

    go : (b : Bool) → (cond b (settled room o.answer o.room) (record { answer = Err Given; room = room })).answer ≡ Ok n
        → n ≡ length (clauses_of ws)
    go true f = after o.answer refl f
    go false f = absurd (let z : ◌≡◌ {A = ℕ} 0 1 = cc in omega arith)
