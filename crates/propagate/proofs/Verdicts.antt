-- The pass over clauses that are written as words: what each clause of known and unknown literals makes of the room. Assumes nothing.
use mathlib.Core.Path.{◌≡◌, refl, sym, ap, ap₂, ◌∙◌}
use mathlib.Core.Bool.{Bool, true, false, cond, not}
use mathlib.Core.List.{List, [], ◌∷◌, ◌++◌, map, append_assoc}
use Prim.Native.Nat.{ℕ, zero, suc, ◌+◌, ◌-◌, ◌≤◌, ◌<◌}
use native.Mathlib.Nat.{not-suc-le-zero, suc-add, zero-add, add-zero, add-suc}
use native.Mathlib.Omega.{arith}
use lib.Dec.{eqb, ltb}
use lib.IntN.{ℤ, pos}
use lib.ListN.{length, drop, set, length-append}
use Rattle.std.specs.Prelude.{Option}
use Rattle.cnf.specs.Clause.{Literal, Clause, flips}
use Rattle.cnf.specs.Words.{From1, word_by, word, words}
use Rattle.cnf.proofs.Extend.{Literals}
use Rattle.cnf.proofs.Words.{named_word, words_append}
use Rattle.propagate.specs.Clause.{byte, wanted, value_at, with_literal, closed, reading}
use Rattle.propagate.specs.Pass.{turn_of, room_of, on_or_stop, passed}
use Rattle.propagate.specs.declared.Verdict.{Verdict}
use Rattle.propagate.specs.declared.Verdict.TheVariants.{AllFalse, Sets, Passes}
use Rattle.propagate.specs.declared.Reading.{Reading}
use Rattle.propagate.proofs.Scan.{reading_closed, reading_on}
use Rattle.propagate.proofs.Passing.{passed_clause}

-- ---- a literal, and then a clause, as its words are read

wanted_word : (l : Literal) → 0 < l.variable → wanted (word l) ≡ byte (not l.negated)
wanted_word l h = go l.negated l.variable h
  where
    go : (s : Bool) (v : ℕ) → 0 < v → wanted (word_by s v) ≡ byte (not s)
    go s zero h = absurd (not-suc-le-zero h)
    go false (suc v) h = refl
    go true (suc v) h = refl

abbrev pub literal_seen : List ℕ → Verdict → Literal → Verdict
literal_seen room d l = with_literal d l.variable (byte (not l.negated)) (value_at room l.variable)

-- the verdict d with the literals of a clause more
abbrev pub verdict : List ℕ → Verdict → Clause → Verdict
verdict room d [] = d
verdict room d (l ∷ c) = verdict room (literal_seen room d l) c

reading_word : (room : List ℕ) (d : Verdict) (n : ℕ) (l : Literal) (ws : List ℤ) → 0 < l.variable → l.variable ≤ length room
    → reading room d n (word l ∷ ws) ≡ reading room (literal_seen room d l) (suc n) ws
reading_word room d n l ws p h =
    let e = named_word l in
    reading_on room d n (word l) ws (λ z. omega (arith, e)) (omega (arith, e))
    ∙ ap₂ (λ (v m : ℕ). reading room (with_literal d v m (value_at room v)) (suc n) ws) e (wanted_word l p)

reading_words : (room : List ℕ) (d : Verdict) (n : ℕ) (c : Clause) (ws : List ℤ) → Literals From1 (suc (length room)) c
    → reading room d n (map word c ++ (pos 0 ∷ ws)) ≡ closed (verdict room d c) (n + suc (length c))
reading_words room d n [] ws i = reading_closed room d n (pos 0) ws refl ∙ ap (closed d) (sym (omega arith))
reading_words room d n (l ∷ c) ws i =
    reading_word room d n l (map word c ++ (pos 0 ∷ ws)) i.0.0 (omega (arith, i.0.1))
    ∙ reading_words room (literal_seen room d l) (suc n) c ws i.1
    ∙ ap (closed (verdict room d (l ∷ c))) (suc-add n (suc (length c)) ∙ sym (add-suc n (suc (length c))))

-- ---- clauses in a row: the pass goes over them and leaves another room

abbrev pub PassesOver : List ℕ → List Clause → List ℕ → Type 0
PassesOver room cs room' =
    (allowance count : ℕ) (ws : List ℤ)
    → passed (length cs + allowance) count (words cs ++ ws) room ≡ passed allowance (count + length cs) ws room'

pub over_none : (room : List ℕ) → PassesOver room [] room
over_none room allowance count ws = ap₂ (λ (a n : ℕ). passed a n ws room) (zero-add allowance) (sym (add-zero count))

pub over_append : (room room' room'' : List ℕ) (cs ds : List Clause) → PassesOver room cs room' → PassesOver room' ds room''
    → PassesOver room (cs ++ ds) room''
over_append room room' room'' cs ds p q allowance count ws =
    let e : length (cs ++ ds) + allowance ≡ length cs + (length ds + allowance) = omega (arith, length-append cs ds) in
    let f : count + length cs + length ds ≡ count + length (cs ++ ds) = omega (arith, length-append cs ds) in
    ap₂ (λ (a : ℕ) (l : List ℤ). passed a count l room) e
    (ap (λ (l : List ℤ). l ++ ws) (words_append cs ds) ∙ append_assoc (words cs) (words ds) ws)
    ∙ p (length ds + allowance) count (words ds ++ ws)
    ∙ q allowance (count + length cs) ws
    ∙ ap (λ (n : ℕ). passed allowance n ws room'') f

drop_clause : (c : Clause) (ws : List ℤ) → drop (0 + suc (length c)) (map word c ++ (pos 0 ∷ ws)) ≡ ws
drop_clause c ws = ap (λ (k : ℕ). drop k (map word c ++ (pos 0 ∷ ws))) (zero-add (suc (length c))) ∙ go c
  where
    go : (c : Clause) → drop (suc (length c)) (map word c ++ (pos 0 ∷ ws)) ≡ ws
    go [] = refl
    go (l ∷ c) = go c

some_word : (c : Clause) (ws : List ℤ) → length (map word c ++ (pos 0 ∷ ws)) ≡ 0 → ⊥
some_word [] ws e = omega arith
some_word (l ∷ c) ws e = omega arith

module _ (room : List ℕ) (c : Clause) (cs : List Clause) (room' : List ℕ) (i : Literals From1 (suc (length room)) c) where
  -- a clause in front
  over_clause : (d : Verdict) → verdict room AllFalse c ≡ d → (allowance count : ℕ) (ws : List ℤ) → let r = closed d (0 + suc (length c)) in
      passed (length (c ∷ cs) + allowance) count (words (c ∷ cs) ++ ws) room
      ≡ on_or_stop (turn_of r) (room_of r room)
      (λ n. passed (length cs + allowance) (suc count) (drop n (map word c ++ (pos 0 ∷ (words cs ++ ws)))) (room_of r room))
  over_clause d e allowance count ws =
      let l : List ℤ = map word c ++ (pos 0 ∷ (words cs ++ ws)) in
      ap₂ (λ (a : ℕ) (k : List ℤ). passed a count k room) (suc-add (length cs) allowance) (append_assoc (map word c) (pos 0 ∷ words cs) ws)
      ∙ passed_clause (length cs + allowance) count l room (some_word c (words cs ++ ws))
      ∙ ap (λ (r : Option Reading). on_or_stop (turn_of r) (room_of r room)
      (λ n. passed (length cs + allowance) (suc count) (drop n l) (room_of r room)))
      (reading_words room AllFalse 0 c (words cs ++ ws) i ∙ ap (λ (x : Verdict). closed x (0 + suc (length c))) e)

  rest_of : (r : List ℕ) → PassesOver r cs room' → (allowance count : ℕ) (ws : List ℤ)
      → passed (length cs + allowance) (suc count) (drop (0 + suc (length c)) (map word c ++ (pos 0 ∷ (words cs ++ ws)))) r
      ≡ passed allowance (count + length (c ∷ cs)) ws room'
  rest_of r p allowance count ws =
      ap (λ (l : List ℤ). passed (length cs + allowance) (suc count) l r) (drop_clause c (words cs ++ ws))
      ∙ p allowance (suc count) ws
      ∙ ap (λ (n : ℕ). passed allowance n ws room') (suc-add count (length cs) ∙ sym (add-suc count (length cs)))

  -- that is passed
  pub over_passed : verdict room AllFalse c ≡ Passes → PassesOver room cs room' → PassesOver room (c ∷ cs) room'
  over_passed e p allowance count ws = over_clause Passes e allowance count ws ∙ rest_of room p allowance count ws

  -- that sets a variable
  pub over_set : (v value : ℕ) → verdict room AllFalse c ≡ Sets v value → PassesOver (set room (v - 1) value) cs room'
      → PassesOver room (c ∷ cs) room'
  over_set v value e p allowance count ws =
      over_clause (Sets v value) e allowance count ws ∙ rest_of (set room (v - 1) value) p allowance count ws

-- ---- known and unknown literals

-- of a known variable: a true one, or a false one
pub with_known : (d : Verdict) (v : ℕ) (s b : Bool) → with_literal d v (byte (not s)) (byte b) ≡ cond (flips s b) Passes d
unfolding with_literal
with_known d v true true = refl
with_known d v true false = refl
with_known d v false true = refl
with_known d v false false = refl

pub with_first_unknown : (v : ℕ) (s : Bool) → with_literal AllFalse v (byte (not s)) 2 ≡ Sets v (byte (not s))
unfolding with_literal
with_first_unknown v true = refl
with_first_unknown v false = refl

with_passes : (v wants value : ℕ) → with_literal Passes v wants value ≡ Passes
unfolding with_literal
with_passes v wants value = go (eqb value wants) (ltb value 2)
  where
    go : (a b : Bool) → cond a Passes (cond b Passes Passes) ≡ Passes
    go true b = refl
    go false true = refl
    go false false = refl

pub verdict_passes : (room : List ℕ) (c : Clause) → verdict room Passes c ≡ Passes
verdict_passes room [] = refl
verdict_passes room (l ∷ c) =
    ap (λ (d : Verdict). verdict room d c) (with_passes l.variable (byte (not l.negated)) (value_at room l.variable))
    ∙ verdict_passes room c
