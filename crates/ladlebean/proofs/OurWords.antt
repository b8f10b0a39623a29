-- Document 02 i: one pass over the words that writing left (`pass_multiplies`). Any answer and rooms that meet the contract of `write` and
-- are no refusal; given literals of distinct variables below the first free number, among them each of x or its negation, in any order; an
-- allowance for every clause, and an all_unknown room for every variable.
--
-- Of the clauses only this is used: they are steps that each open one variable (crates/cnf, `Extends`), and where they hold y is c times x.
use Prim.Native.Nat.{ℕ, zero, suc, ◌+◌, ◌*◌, ◌≤◌, ◌<◌}
use mathlib.Core.Path.{◌≡◌, refl, sym, ap, ap₂, ◌∙◌, subst}
use mathlib.Core.Logic.{inl, inr, ⊎_elim}
use mathlib.Core.Bool.{Bool, true, false, not, ◌&&◌, ◌||◌, false≢true}
use mathlib.Core.List.{List, [], ◌∷◌}
use native.Mathlib.Omega.{arith}
use borrow.Author.Tests.{eq-eqb, eqb-true, eqb-false}
use lib.Dec.{eqb}
use lib.IntN.{ℤ, pos, negsuc}
use lib.ListN.{length}
use Rattle.line.specs.Refusal.{number_of}
use Rattle.cnf.specs.Clause.{Clause}
use Rattle.cnf.specs.Words.{named, names, DistinctBelow}
use Rattle.cnf.proofs.Words.{clauses_of_words, names_either, names_first, names_later}
use Rattle.product.specs.Bit.{num}
use Rattle.product.specs.Product.{product_of, clause_words}
use Rattle.product.specs.Write.{clauses_written, next_free, writing, written}
use Rattle.product.specs.Demand.{entry_value, entries_read, words_at_exit, entries_at_exit}
use Rattle.product.specs.Write.{Written}
use Rattle.product.proofs.Given.{given_named}
use Rattle.product.proofs.WordsMean.{entries_multiply}
use Rattle.product.proofs.AcceptedMeans.{product_by, product_of_multiplies}
use Rattle.product.proofs.Success.{success}
use Rattle.propagate.specs.Clause.{wanted, value_at}
use Rattle.propagate.specs.Pass.{all_unknown, propagated}
use Rattle.propagate.specs.Promise.{read_off, TrueIn, GivenOrNew, SetsAll}
use Rattle.propagate.proofs.GivenKnown.{given_value}
use Rattle.propagate.proofs.Propagation.{sets_all}
use Rattle.ladlebean.specs.OurWords.{says, number_given, PassMultiplies}

-- ---- the number that is given, read off a room in which the given literals are true

module _ (room : List ℕ) (l : ℤ) where
  -- whether the literal l is true in the room
  abbrev true_there : Bool
  true_there = eqb (value_at room (named l)) (wanted l)

  abbrev same : ℤ → Bool
  same g = eqb (named g) (named l) && eqb (wanted g) (wanted l)

  -- a given literal of l's variable is l where l is true
  same_is : (g : ℤ) → value_at room (named g) ≡ wanted g → named g ≡ named l → same g ≡ true_there
  same_is g t e = ap₂ ◌&&◌ (eq-eqb (named g) (named l) e) (ap (λ (k : ℕ). eqb k (wanted l)) (sym t ∙ ap (value_at room) e))

  not_same : (g : ℤ) → (named g ≡ named l → ⊥) → same g ≡ false
  not_same g f = ap (λ (b : Bool). b && eqb (wanted g) (wanted l)) (ne (eqb (named g) (named l)) refl)
    where
      ne : (b : Bool) → eqb (named g) (named l) ≡ b → b ≡ false
      ne true e = absurd (f (eqb-true (named g) (named l) e))
      ne false e = refl

  never_said : (gs : List ℤ) → TrueIn room gs → true_there ≡ false → says gs l ≡ false
  never_said [] t f = refl
  never_said (g ∷ gs) t f = ap₂ ◌||◌ (go (eqb (named g) (named l)) refl) (never_said gs t.1 f)
    where
      go : (b : Bool) → eqb (named g) (named l) ≡ b → same g ≡ false
      go true e = same_is g t.0 (eqb-true (named g) (named l) e) ∙ f
      go false e = not_same g (eqb-false (named g) (named l) e)

  -- one of the given literals is l or its negation: it is l where l is true
  said : (gs : List ℤ) → TrueIn room gs → names (named l) gs ≡ true → says gs l ≡ true_there
  said [] t m = absurd (false≢true m)
  said (g ∷ gs) t m = go (eqb (named g) (named l)) refl (said gs t.1)
    where
      first_or_later : (b : Bool) → true_there ≡ b → b || says gs l ≡ b
      first_or_later true e = refl
      first_or_later false e = never_said gs t.1 e

      go : (b : Bool) → eqb (named g) (named l) ≡ b → (names (named l) gs ≡ true → says gs l ≡ true_there)
          → same g || says gs l ≡ true_there
      go true e f = ap (λ (b : Bool). b || says gs l) (same_is g t.0 (eqb-true (named g) (named l) e)) ∙ first_or_later true_there refl
      go false e f =
          ap (λ (b : Bool). b || says gs l) (not_same g (eqb-false (named g) (named l) e))
          ∙ f (⊎_elim (λ (q : named l ≡ named g). absurd (eqb-false (named g) (named l) e (sym q))) (λ q. q)
          (names_either (named l) g gs m))

  -- a literal of a known variable, read off the room
  entry_there : 0 < named l → value_at room (named l) ≤ 1 → entry_value (read_off room) l ≡ num true_there
  entry_there p h = go l p h
    where
      flipped : (k : ℕ) → k ≤ 1 → num (not (eqb k 1)) ≡ num (eqb k 0)
      flipped zero h = refl
      flipped (suc zero) h = refl
      flipped (suc (suc k)) h = absurd (omega arith)

      go : (l : ℤ) → 0 < named l → value_at room (named l) ≤ 1
          → entry_value (read_off room) l ≡ num (eqb (value_at room (named l)) (wanted l))
      go (pos zero) p h = absurd (omega arith)
      go (pos (suc v)) p h = refl
      go (negsuc v) p h = flipped (value_at room (suc v)) h

number_there : (first : ℕ) (room : List ℕ) (gs x : List ℤ) → DistinctBelow first x → TrueIn room gs
    → ((v : ℕ) → names v x ≡ true → names v gs ≡ true)
    → entries_read (read_off room) x ≡ number_given gs x
number_there first room gs [] d t f = refl
number_there first room gs (l ∷ x) d t f =
    let m = f (named l) (names_first (named l) l x refl) in
    ap₂ (λ (b n : ℕ). b + 2 * n)
    (entry_there room l d.0 (given_value gs room (named l) t m) ∙ ap num (sym (said room l gs t m)))
    (number_there first room gs x d.3 t (λ v e. f v (names_later v l x e)))

-- ---- the theorem

module _ (c w : ℕ) (x : List ℤ) (first : ℕ) (recipe : List ℕ) (bits clauses : List ℤ) (answer : Written) (bits' clauses' : List ℤ)
    (meets : writing answer bits' clauses' ≡ written c w x first recipe bits clauses) (succeeds : number_of answer ≡ 0)
    (gs : List ℤ) (distinct : DistinctBelow first gs) (every : (v : ℕ) → names v x ≡ true → names v gs ≡ true)
    (allowance : ℕ) (enough : clauses_written answer ≤ allowance)
    (room : List ℕ) (unknown : all_unknown room ≡ true) (long : next_free answer ≤ suc (length room)) where
  pub pass_multiplies :
      PassMultiplies c x first (next_free answer) (words_at_exit answer clauses') (entries_at_exit answer bits') gs room
      (propagated (words_at_exit answer clauses') gs allowance room)
  pass_multiplies =
      let s = success c w x first recipe bits clauses answer bits' clauses' meets succeeds in
      let p = product_of c x first recipe in
      let o = propagated (clause_words p) gs allowance room in
      let fit = s.tests.inputs.fit in
      let f = product_of_multiplies c x first recipe s.tests.inputs.makes s.some fit in
      let g = product_by c x first recipe s.tests.inputs.makes (GivenOrNew gs first) (λ v l. inr l)
      (given_named (GivenOrNew gs first) first x fit (λ v e. inl (every v e))) in
      let en = ap next_free s.is in
      let a : SetsAll first p.next p.clauses gs room o =
      sets_all first s.some gs distinct p.next p.clauses g.extends allowance room unknown
      (omega (arith, enough, ap clauses_written s.is)) (omega (arith, long, en)) in
      rw (s.words_are, s.entries_are, en)
      record {
        sets =
            subst (λ (cs : List Clause). SetsAll first p.next cs gs room o)
            (sym (clauses_of_words p.next p.clauses f.extends.names)) a;
        value = entries_multiply c x first fit s.some p f (read_off o.room) a.satisfied
            ∙ ap (λ (k : ℕ). c * k) (number_there first o.room gs x fit a.holds every);
      }
