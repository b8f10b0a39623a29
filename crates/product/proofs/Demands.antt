-- Demands 2 and 3 for the clauses: what document 01 claims of every call of `write` that is not refused.
--
-- A call gets a constant c, a width w, literals for x, the first free number, a recipe's bytes and two rooms of words. Its contract fixes
-- the answer and both rooms at exit as those of `written c w x first recipe bits clauses` (crates/product/specs/Write.antt). What is
-- said below is said of any answer and any two rooms at exit that are what `written` leaves, and so of the call. An answer is no refusal
-- where its number is 0. Then its counts tell which part of the rooms was written: the first `words_used` words of the clause room at exit and the
-- first `bits_of_y` entries of the bit room at exit. Everything below is said of these words and entries, as they stand in the rooms, and
-- of no list of clauses beside them.
--
-- The meaning is that of DIMACS. Words up to each 0 are a clause; a word v above 0 is the variable v, and -v its negation; a clause holds
-- when one of its literals holds. An assignment of the variables below n is the list of the values of the variables 1 to n - 1. An entry of
-- the bit room is 0, for a bit fixed at 0, or a literal; the entries, lowest first, are the number y. In the same way the given literals
-- read as a number.
--
-- Not refused (`not_refused`). Where the check accepts the recipe for c, w is from 1 to 16, x is w literals of distinct variables below
-- first, the next free number is at most 2^31, and the rooms have as many entries as c * (2^w - 1) has binary digits and as many words as
-- the clauses need, the answer's number is 0: the claims below are not about nothing.
--
-- Demand 2 (`demand_2`). Each assignment of the variables below first extends to one of the variables below next that satisfies the clauses
-- (existence), every such one is this one (uniqueness), and there y is c times the number that the given literals read as (value). For
-- document 01's call, where x is the variables 1 to w and first is w + 1, this is document 01's own statement (`plain_demand_2`): each
-- input below 2^w has exactly one list of values of the variables 1 to the highest, and there y is c times the input.
--
-- Names do not matter (`renamed`). Another call of the same recipe leaves the words and entries of document 01's with the variables
-- renamed, with signs: those of x to the given literals, new ones to new ones. So its counts are the same.
--
-- The same stands of the product's words and entries before they are in any room (`demand_2_of_product`), for every width.
--
-- Inside (`demand_2_inside`). The same where x is any bits over the variables below a first free variable n, and the lines any that name
-- earlier operands and have the coefficients that their kinds give: each assignment of the variables below n extends to exactly one of
-- those below `next` that satisfies the clauses, and there y is the lines' product, times 2^t, times x.
--
-- Counted (`counted`). The answer's counts are those of the rooms: as many words and entries as it says stand before what was left as it
-- came; as many clauses as are read off the words; and the next free number is one past the highest variable that the words name, or first
-- where they name none from first on. The new variables are those from first to the one before next (`opened`): each of them stands in some
-- clause, since else both its values would do, and no other variable does but x's.
--
-- No variable twice (`no_variable_twice`). No clause that is read off the words names a variable twice, so none holds a variable and its
-- own negation (`no_negation_beside`).
--
-- No bit of y is ever fixed at 1 (`no_bit_fixed_at_1`): literals of distinct variables can all be false, and then y is 0. So an entry 0
-- always is a bit fixed at 0.
--
-- Demand 3, clauses (`demand_3_clauses`). Where the lines' coefficients have at most L binary digits, as a planned recipe's have for c's
-- odd part of L digits, the clauses that are read off the room are at most 14 * (L + w) for each line.
--
-- Why. Each new variable comes with clauses that hold exactly when it equals a function of literals whose variables came before
-- (ShapeMeans), and that name no variable twice, since two inputs of one variable are a pair and leave the sum (PairMeans, Distinct);
-- steps of this kind extend every assignment in exactly one way (crates/cnf, Extend). A column adds (ColumnMeans), so m columns add mod
-- 2^m (AdderMeans), so a line's bits are its coefficient times x mod 2^m (LineMeans), and exactly that, since m columns are enough
-- (RecipeMeans). A column has at most 8 + 6 clauses, a line at most L + w columns (Bounds). Words are read back as the clauses that were
-- written (crates/cnf, Words).
use Rattle.line.specs.Refusal.{number_of}
use Rattle.std.specs.Prelude.{Ok}
use Prim.Native.Nat.{ℕ, suc, ◌+◌, ◌-◌, ◌*◌, ◌/◌, ◌^◌, ◌≤◌, ◌<◌}
use mathlib.Core.Path.{◌≡◌, sym, ap, ◌∙◌, subst}
use mathlib.Core.Logic.{◌≢◌, ◌⊎◌, ⊎_elim}
use mathlib.Core.Bool.{Bool, true, false, false≢true}
use mathlib.Core.List.{List, [], ◌∷◌, map}
use native.Mathlib.Omega.{arith}
use lib.IntN.{ℤ}
use lib.ListN.{length, get_or, length-map}
use Rattle.line.specs.Number.{bit_length, twos}
use Rattle.line.specs.declared.Line.{Line}
use Rattle.recipe.specs.Check.{line_at, checked}
use Rattle.recipe.proofs.Accepted.{accepted_right}
use Rattle.cnf.specs.Words.{From1, words, clauses_of, names, highest_named, DistinctBelow}
use Rattle.cnf.specs.Clause.{Literal, Clause, negation, clauses_name, AllDistinct, StandsIn}
use Rattle.cnf.proofs.Extend.{named_used, opened_named, never_beside_in}
use Rattle.cnf.proofs.Words.{clauses_of_words}
use Rattle.product.specs.Bit.{Bit, fixed, given, numbered, stored}
use Rattle.product.specs.Product.{product_made, lines_of, product_of, y_entries, clause_words}
use Rattle.product.specs.Renaming.{renaming, word_renamed}
use Rattle.line.specs.Limits.{most_next}
use Rattle.product.specs.Write.{words_used, clauses_written, next_free, bits_of_y, y_length, Writing, writing}
use Rattle.product.specs.Write.{written}
use Rattle.product.specs.Demand.{LinesRight, lines_product, BitsBelow, Multiplies, Demand2, words_at_exit, entries_at_exit}
use Rattle.product.specs.Demand.{Counted, Opened, Renamed, PlainDemand2}
use Rattle.product.specs.Write.{Written}
use Rattle.product.proofs.Bounds.{few_clauses}
use Rattle.product.proofs.Given.{renames, product_as_numbered, counts_as_numbered}
use Rattle.product.proofs.Renamed.{ProductRenamed, CountsSame}
use Rattle.product.proofs.RenamedWords.{words_renamed, entries_renamed}
use Rattle.product.proofs.Plain as plain-call
use Rattle.product.proofs.ProductMeans as product-means
use Rattle.product.proofs.ProductMeans.{ProductMultiplies, product_multiplies}
use Rattle.product.proofs.WordsMean as words-mean
use Rattle.product.proofs.AcceptedMeans.{product_of_multiplies, product_of_names}
use Rattle.product.proofs.Success.{passes_all, answer_of, Success, success}

-- ---- the inside's general form

pub demand_2_inside : (t : ℕ) (lines : List Line) (x : List Bit) (n : ℕ) → 0 < n → BitsBelow From1 n x → LinesRight lines (1 ∷ [])
    → Multiplies (lines_product lines * 2 ^ t) x n (product_made t lines x n)
demand_2_inside t lines x n p i g =
    product-means.multiplies (lines_product lines * 2 ^ t) x n (product_made t lines x n)
    (product_multiplies From1 t lines x n (λ v h. omega arith) i g)

-- ---- a recipe that the check accepts

module _ (c : ℕ) (x : List ℤ) (first : ℕ) (recipe : List ℕ) (e : checked c recipe ≡ Ok tt) (some : 0 < first)
    (fit : DistinctBelow first x) where
  multiplies : ProductMultiplies From1 c (given x) first (product_of c x first recipe)
  multiplies = product_of_multiplies c x first recipe (accepted_right c recipe e).makes some fit

  pub demand_2_of_product : (before : List Bool) → length before ≡ first - 1
      → Demand2 c x first (product_of c x first recipe).next (clause_words (product_of c x first recipe))
      (y_entries (product_of c x first recipe)) before
  demand_2_of_product = words-mean.demand_2 c x first fit some (product_of c x first recipe) multiplies

  pub no_bit_fixed_at_1 : (k : ℕ) → get_or (product_of c x first recipe).y k (fixed false) ≢ fixed true
  no_bit_fixed_at_1 = words-mean.no_bit_fixed_at_1 c x first fit some (product_of c x first recipe) multiplies

pub not_refused : (c w : ℕ) (x : List ℤ) (first : ℕ) (recipe : List ℕ) (bits clauses : List ℤ) (answer : Written) (bits' clauses' : List ℤ)
    → writing answer bits' clauses' ≡ written c w x first recipe bits clauses
    → checked c recipe ≡ Ok tt → 1 ≤ w → w ≤ 16 → length x ≡ w → DistinctBelow first x → (product_of c x first recipe).next ≤ most_next
    → y_length c w ≤ length bits → length (clause_words (product_of c x first recipe)) ≤ length clauses
    → number_of answer ≡ 0
not_refused c w x first recipe bits clauses answer bits' clauses' r e p q l i n f h =
    let g = accepted_right c recipe e in
    ap number_of (ap (λ (o : Writing). o.answer) r ∙ answer_of c w x first recipe bits clauses)
    ∙ passes_all c w x first recipe (length bits) (length clauses)
    (record { constant = (g.least, g.most); width = (p, q); literals = l; fit = i; makes = g.makes })
    (record { next_fits = n; bits_fit = f; clauses_fit = h })

-- ---- every call that is not refused

module _ (c w : ℕ) (x : List ℤ) (first : ℕ) (recipe : List ℕ) (bits clauses : List ℤ) (answer : Written) (bits' clauses' : List ℤ)
    (r : writing answer bits' clauses' ≡ written c w x first recipe bits clauses) (z : number_of answer ≡ 0) where
  succeeds : Success c w x first recipe bits clauses answer bits' clauses'
  succeeds = success c w x first recipe bits clauses answer bits' clauses' r z

  made : ProductMultiplies From1 c (given x) first (product_of c x first recipe)
  made = product_of_multiplies c x first recipe succeeds.tests.inputs.makes succeeds.some succeeds.tests.inputs.fit

  pub demand_2 : (before : List Bool) → length before ≡ first - 1
      → Demand2 c x first (next_free answer) (words_at_exit answer clauses') (entries_at_exit answer bits') before
  demand_2 before h =
      rw (succeeds.words_are, succeeds.entries_are, ap next_free succeeds.is)
      (words-mean.demand_2 c x first succeeds.tests.inputs.fit succeeds.some (product_of c x first recipe) made before h)

  pub counted : Counted first bits clauses answer bits' clauses'
  counted =
      let s = succeeds in
      let p = product_of c x first recipe in
      let fit = s.tests.inputs.fit in
      record {
        words = ap length s.words_are ∙ sym (ap words_used s.is);
        words_stay = s.words_stay;
        clauses_read =
            ap (λ (ws : List ℤ). length (clauses_of ws)) s.words_are ∙ words-mean.clauses_counted c x first fit s.some p made
            ∙ sym (ap clauses_written s.is);
        next =
            ap (λ (ws : List ℤ). suc (highest_named (first - 1) ws)) s.words_are
            ∙ words-mean.next_counted c x first fit s.some p made ∙ sym (ap next_free s.is);
        entries = ap length s.entries_are ∙ (length-map p.y stored ∙ s.long ∙ sym (ap bits_of_y s.is));
        entries_stay = s.entries_stay;
      }

  -- the new variables, off the room
  pub opened : Opened x first (next_free answer) (words_at_exit answer clauses')
  opened =
      let s = succeeds in
      let p = product_of c x first recipe in
      let ns = product_of_names c x first recipe s.tests.inputs.makes s.tests.inputs.fit in
      let read : clauses_of (words_at_exit answer clauses') ≡ p.clauses =
      ap clauses_of s.words_are ∙ clauses_of_words p.next p.clauses made.extends.names in
      let next : next_free answer ≡ p.next = ap next_free s.is in
      record {
        each = λ v l h. ap (clauses_name v) read ∙ opened_named From1 made.extends v (omega (arith, s.some)) l (omega (arith, next));
        no_other = λ v e n.
            let u = named_used (λ u. (names u x ≡ true) ⊎ (first ≤ u)) p.next p.clauses ns v (sym (ap (clauses_name v) read) ∙ e) in
            (⊎_elim (λ q. absurd (false≢true (sym n ∙ q))) (λ l. l) u.0, omega (arith, next, u.1));
      }

  pub no_variable_twice : AllDistinct (clauses_of (words_at_exit answer clauses'))
  no_variable_twice =
      rw succeeds.words_are
      (words-mean.words_distinct c x first succeeds.tests.inputs.fit succeeds.some (product_of c x first recipe) made)

  pub no_negation_beside : (k : Clause) → StandsIn k (clauses_of (words_at_exit answer clauses'))
      → (l : Literal) → StandsIn l k → StandsIn (negation l) k → ⊥
  no_negation_beside = never_beside_in (clauses_of (words_at_exit answer clauses')) no_variable_twice

  pub demand_3_clauses : (L : ℕ) → ((i : ℕ) → i < length recipe / 5 → bit_length (line_at recipe i).coefficient ≤ L)
      → length (clauses_of (words_at_exit answer clauses')) ≤ 14 * (L + w) * (length recipe / 5)
  demand_3_clauses L h =
      let s = succeeds in
      let e = counted.clauses_read ∙ ap clauses_written s.is in
      subst (λ (k : ℕ). k ≤ 14 * (L + w) * (length recipe / 5)) (sym e)
      (subst (λ (v : ℕ). length (product_of c x first recipe).clauses ≤ 14 * (L + v) * (length recipe / 5)) s.tests.inputs.literals
      (few_clauses c x first recipe L h))

-- ---- document 01's call, beside every other

module _ (c w : ℕ) (recipe : List ℕ) (bits clauses : List ℤ) (answer : Written) (bits' clauses' : List ℤ)
    (r : writing answer bits' clauses' ≡ written c w (numbered 1 w) (suc w) recipe bits clauses) (z : number_of answer ≡ 0) where
  plain_succeeds : Success c w (numbered 1 w) (suc w) recipe bits clauses answer bits' clauses'
  plain_succeeds = success c w (numbered 1 w) (suc w) recipe bits clauses answer bits' clauses' r z

  pub plain_demand_2 : (v : ℕ) → v < 2 ^ w
      → PlainDemand2 c w v (next_free answer - 1) (words_at_exit answer clauses') (entries_at_exit answer bits')
  plain_demand_2 =
      let s = plain_succeeds in
      let m = made c w (numbered 1 w) (suc w) recipe bits clauses answer bits' clauses' r z in
      plain-call.plain_demand_2 c w (next_free answer) (words_at_exit answer clauses') (entries_at_exit answer bits')
      (omega (arith, m.extends.grows, ap next_free s.is))
      (λ before h. demand_2 c w (numbered 1 w) (suc w) recipe bits clauses answer bits' clauses' r z before (h ∙ omega arith))

  -- the same recipe over other literals and from another number on, in other rooms
  pub renamed : (x : List ℤ) (first : ℕ) (bits₂ clauses₂ : List ℤ) (answer₂ : Written) (bits₂' clauses₂' : List ℤ)
      → writing answer₂ bits₂' clauses₂' ≡ written c w x first recipe bits₂ clauses₂ → number_of answer₂ ≡ 0
      → Renamed x first answer bits' clauses' answer₂ bits₂' clauses₂'
  unfolding product_of
  renamed x first bits₂ clauses₂ answer₂ bits₂' clauses₂' r₂ z₂ =
      let s = plain_succeeds in
      let m = made c w (numbered 1 w) (suc w) recipe bits clauses answer bits' clauses' r z in
      let s₂ = success c w x first recipe bits₂ clauses₂ answer₂ bits₂' clauses₂' r₂ z₂ in
      let ρ = renaming x first in
      let p = product_of c (numbered 1 w) (suc w) recipe in
      let p₂ = product_of c x first recipe in
      let q : ProductRenamed ρ (suc w) first p p₂ =
      subst (λ (k : ℕ). ProductRenamed ρ (suc k) first (product_of c (numbered 1 k) (suc k) recipe) p₂) s₂.tests.inputs.literals
      (product_as_numbered x first s₂.some s₂.tests.inputs.fit (twos c) (lines_of recipe)) in
      let k : CountsSame (suc w) first p p₂ =
      subst (λ (k : ℕ). CountsSame (suc k) first (product_of c (numbered 1 k) (suc k) recipe) p₂) s₂.tests.inputs.literals
      (counts_as_numbered x first s₂.some s₂.tests.inputs.fit (twos c) (lines_of recipe)) in
      record {
        distinct = (renames x first s₂.some s₂.tests.inputs.fit).apart;
        words =
            s₂.words_are ∙ ap words q.clauses ∙ words_renamed ρ p.next p.clauses m.extends.names
            ∙ ap (map (word_renamed ρ)) (sym s.words_are);
        entries =
            s₂.entries_are ∙ ap (map stored) q.y ∙ entries_renamed ρ p.next p.y m.below
            ∙ ap (map (word_renamed ρ)) (sym s.entries_are);
        words_same = ap words_used s₂.is ∙ k.words ∙ sym (ap words_used s.is);
        clauses_same = ap clauses_written s₂.is ∙ k.clauses ∙ sym (ap clauses_written s.is);
        bits_same = ap bits_of_y s₂.is ∙ sym (ap bits_of_y s.is);
        opened_same = omega (arith, k.next, ap next_free s₂.is, ap next_free s.is, m.extends.grows, s₂.tests.inputs.literals);
      }
