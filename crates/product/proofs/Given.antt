-- Given literals for x: what passing test 14 means, and the renaming that takes document 01's x, the variables 1 to w, to them and the new
-- variables from w + 1 on to those from the first free number on.
use Prim.Native.Nat.{ℕ, zero, suc, ◌+◌, ◌≤◌, ◌<◌}
use mathlib.Core.Path.{◌≡◌, refl, sym, ap, ap₂, ◌∙◌, subst}
use mathlib.Core.Bool.{Bool, true, false, not, cond}
use mathlib.Core.List.{List, [], ◌∷◌}
use native.Mathlib.Nat.{not-suc-le-zero, add-zero, zero-add, suc-add}
use native.Mathlib.Omega.{arith}
use borrow.Author.Tests.{eqb-true, eqb-false, ltb-true, eq-eqb, ne_eqb, lt-ltb, not-false}
use lib.Dec.{eqb, ltb}
use lib.IntN.{ℤ, pos, negsuc}
use lib.ListN.{length, get_or, length-map}
use Rattle.cnf.specs.Clause.{Literal, Assignment, flips, new, value}
use Rattle.cnf.specs.Words.{From1, named, names, literal_of_word, DistinctBelow}
use Rattle.cnf.proofs.Words.{names_first, names_later}
use Rattle.line.specs.declared.Line.{Line}
use Rattle.line.proofs.Order.{neither}
use Rattle.product.specs.Bit.{Bit, unfixed, given, numbered, num, reads}
use Rattle.product.specs.Product.{Product, product_made}
use Rattle.product.specs.Write.{unfit, not_literals}
use Rattle.product.specs.Demand.{BitsBelow, entry_value, entries_read}
use Rattle.product.specs.Renaming.{Renaming, name, renaming}
use Rattle.product.proofs.Renamed.{bits_renamed, Renames, ProductRenamed, product_renamed, CountsSame, counts_same}
use Rattle.cnf.proofs.Flips.{flips_self}

-- ---- test 14

pub fit_of : (first : ℕ) (x : List ℤ) → unfit first x ≡ false → DistinctBelow first x
fit_of first [] e = tt
fit_of first (l ∷ ls) e =
    let a = neither (eqb (named l) 0) _ e in
    let b = neither (not (ltb (named l) first)) _ a.1 in
    let c = neither (names (named l) ls) _ b.1 in
    (omega (arith, eqb-false (named l) 0 a.0), ltb-true (named l) first (not-false _ b.0), c.0, fit_of first ls c.1)

pub unfit_of : (first : ℕ) (x : List ℤ) → DistinctBelow first x → unfit first x ≡ false
unfit_of first [] i = refl
unfit_of first (l ∷ ls) i =
    rw (ne_eqb (named l) 0 (λ e. omega (arith, i.0)), lt-ltb (named l) first i.1, i.2, unfit_of first ls i.3)

pub fit_at : (first : ℕ) (x : List ℤ) → DistinctBelow first x → (j : ℕ) → j < length x → named (get_or x j (pos 0)) < first
fit_at first [] i j h = absurd (not-suc-le-zero h)
fit_at first (l ∷ ls) i zero h = i.1
fit_at first (l ∷ ls) i (suc j) h = fit_at first ls i.3 j (omega arith)

-- ---- the bits

pub length_given : (x : List ℤ) → length (given x) ≡ length x
length_given x = length-map x (λ (l : ℤ). unfixed (literal_of_word l))

variable_named : (l : ℤ) → (literal_of_word l).variable ≡ named l
variable_named (pos v) = refl
variable_named (negsuc v) = refl

pub given_below : (first : ℕ) (x : List ℤ) → DistinctBelow first x → BitsBelow From1 first (given x)
given_below first [] i = tt
given_below first (l ∷ ls) i = ((omega (arith, variable_named l, i.0), omega (arith, variable_named l, i.1)), given_below first ls i.3)

-- and over the variables that x names, whatever may be said of them
pub given_named : (Used : ℕ → Type 0) (first : ℕ) (x : List ℤ) → DistinctBelow first x → ((u : ℕ) → names u x ≡ true → Used u)
    → BitsBelow Used first (given x)
given_named Used first [] i f = tt
given_named Used first (l ∷ ls) i f =
    let v : ℕ = (literal_of_word l).variable in (
      (f v (names_first v l ls (variable_named l)), omega (arith, variable_named l, i.1)),
      given_named Used first ls i.3 (λ u q. f u (names_later u l ls q)),
    )

value_of_word : (α : Assignment) (l : ℤ) → 0 < named l → num (value α (literal_of_word l)) ≡ entry_value α l
value_of_word α (pos zero) h = absurd (not-suc-le-zero h)
value_of_word α (pos (suc v)) h = refl
value_of_word α (negsuc v) h = refl

-- the number that the literals read as
pub reads_given : (first : ℕ) (α : Assignment) (x : List ℤ) → DistinctBelow first x → reads α (given x) ≡ entries_read α x
reads_given first α [] i = refl
reads_given first α (l ∷ ls) i = omega (arith, value_of_word α l i.0, reads_given first α ls i.3)

-- ---- distinct literals can all be false

abbrev pub all_false : List ℤ → Assignment
all_false [] v = false
all_false (l ∷ ls) v = cond (eqb (named l) v) (literal_of_word l).negated (all_false ls v)

reads_apart : (α β : Assignment) (u : ℕ) → ((v : ℕ) → (u ≡ v → ⊥) → α v ≡ β v) → (ls : List ℤ) → names u ls ≡ false
    → reads α (given ls) ≡ reads β (given ls)
reads_apart α β u f [] e = refl
reads_apart α β u f (l ∷ ls) e =
    let a = neither (eqb (named l) u) (names u ls) e in
    let b : value α (literal_of_word l) ≡ value β (literal_of_word l) =
    ap (flips (literal_of_word l).negated)
    (f (literal_of_word l).variable (λ q. eqb-false (named l) u a.0 (sym (variable_named l) ∙ sym q))) in
    omega (arith, ap num b, reads_apart α β u f ls a.1)

pub reads_all_false : (first : ℕ) (x : List ℤ) → DistinctBelow first x → reads (all_false x) (given x) ≡ 0
reads_all_false first [] i = refl
reads_all_false first (l ∷ ls) i =
    let α = all_false (l ∷ ls) in
    let s = (literal_of_word l).negated in
    let a : α (literal_of_word l).variable ≡ s =
    ap (λ (t : Bool). cond t s (all_false ls (literal_of_word l).variable)) (eq-eqb (named l) _ (sym (variable_named l))) in
    let b : value α (literal_of_word l) ≡ false = ap (flips s) a ∙ flips_self s in
    let d =
    reads_apart α (all_false ls) (named l) (λ v ne. ap (λ (t : Bool). cond t s (all_false ls v)) (ne_eqb (named l) v ne)) ls i.2 in
    omega (arith, ap num b, d, reads_all_false first ls i.3)

-- ---- the renaming

name_at : (x : List ℤ) (first j : ℕ) → j < length x → name x first j ≡ literal_of_word (get_or x j (pos 0))
unfolding name
name_at [] first j h = absurd (not-suc-le-zero h)
name_at (l ∷ ls) first zero h = refl
name_at (l ∷ ls) first (suc j) h = name_at ls first j (omega arith)

name_later : (x : List ℤ) (first j : ℕ) → name x first (length x + j) ≡ new (first + j)
unfolding name
name_later [] first j = ap (λ (k : ℕ). new (first + k)) (zero-add j)
name_later (l ∷ ls) first j = ap (name (l ∷ ls) first) (suc-add (length ls) j) ∙ name_later ls first j

name_pos : (x : List ℤ) (first i : ℕ) → 0 < first → DistinctBelow first x → 0 < (name x first i).variable
unfolding name
name_pos [] first i h f = omega arith
name_pos (l ∷ ls) first zero h f = omega (arith, variable_named l, f.0)
name_pos (l ∷ ls) first (suc i) h f = name_pos ls first i h f.3

-- a variable below first that no literal names is nobody's
name_other : (u : ℕ) (x : List ℤ) (first i : ℕ) → u < first → names u x ≡ false → (name x first i).variable ≡ u → ⊥
unfolding name
name_other u [] first i h e q = omega arith
name_other u (l ∷ ls) first zero h e q = eqb-false (named l) u (neither (eqb (named l) u) _ e).0 (sym (variable_named l) ∙ q)
name_other u (l ∷ ls) first (suc i) h e q = name_other u ls first i h (neither (eqb (named l) u) _ e).1 q

name_apart : (x : List ℤ) (first : ℕ) → DistinctBelow first x → (i j : ℕ) → (name x first i).variable ≡ (name x first j).variable → i ≡ j
unfolding name
name_apart [] first f i j e = omega arith
name_apart (l ∷ ls) first f zero zero e = refl
name_apart (l ∷ ls) first f zero (suc j) e = absurd (name_other (named l) ls first j f.1 f.2 (sym e ∙ variable_named l))
name_apart (l ∷ ls) first f (suc i) zero e = absurd (name_other (named l) ls first i f.1 f.2 (e ∙ variable_named l))
name_apart (l ∷ ls) first f (suc i) (suc j) e = ap suc (name_apart ls first f.3 i j e)

pub renames : (x : List ℤ) (first : ℕ) → 0 < first → DistinctBelow first x → Renames (renaming x first) (suc (length x)) first
unfolding renaming
renames x first h f = record { apart = apart; later = λ j. ap (renaming x first) (suc-add (length x) j) ∙ name_later x first j }
  where
    apart : (u v : ℕ) → (renaming x first u).variable ≡ (renaming x first v).variable → u ≡ v
    apart zero zero e = refl
    apart zero (suc j) e = absurd (omega (arith, name_pos x first j h f))
    apart (suc i) zero e = absurd (omega (arith, name_pos x first i h f))
    apart (suc i) (suc j) e = ap suc (name_apart x first f i j e)

numbered_renamed : (ρ : Renaming) (x : List ℤ) (v : ℕ) → ((j : ℕ) → j < length x → ρ (v + j) ≡ literal_of_word (get_or x j (pos 0)))
    → bits_renamed ρ (given (numbered v (length x))) ≡ given x
unfolding numbered
numbered_renamed ρ [] v f = refl
numbered_renamed ρ (l ∷ ls) v f =
    ap₂ (λ (k : Literal) (bs : List Bit). unfixed k ∷ bs) (ap ρ (sym (add-zero v)) ∙ f 0 (omega arith))
    (numbered_renamed ρ ls (suc v) (λ j h. ap ρ (omega arith) ∙ f (suc j) (omega arith)))

-- document 01's x becomes the given literals
pub x_renamed : (x : List ℤ) (first : ℕ) → bits_renamed (renaming x first) (given (numbered 1 (length x))) ≡ given x
unfolding renaming
x_renamed x first = numbered_renamed (renaming x first) x 1 (λ j h.
    let e : 1 + j ≡ suc j = omega arith in
    ap (renaming x first) e ∙ name_at x first j h)

-- ---- document 01's x passes the test

pub length_numbered : (v w : ℕ) → length (numbered v w) ≡ w
unfolding numbered
length_numbered v zero = refl
length_numbered v (suc w) = ap suc (length_numbered (suc v) w)

numbered_other : (u v w : ℕ) → u < v → names u (numbered v w) ≡ false
unfolding numbered
numbered_other u v zero h = refl
numbered_other u v (suc w) h = rw (ne_eqb v u (λ e. omega arith)) (numbered_other u (suc v) w (omega arith))

numbered_fits : (v w first : ℕ) → 0 < v → v + w ≤ first → DistinctBelow first (numbered v w)
unfolding numbered
numbered_fits v zero first p h = tt
numbered_fits v (suc w) first p h =
    (p, omega arith, numbered_other v (suc v) w (omega arith), numbered_fits (suc v) w first (omega arith) (omega arith))

pub numbered_fit : (w : ℕ) → DistinctBelow (suc w) (numbered 1 w)
numbered_fit w = numbered_fits 1 w (suc w) (omega arith) (omega arith)

pub above_0 : (first : ℕ) (x : List ℤ) → 0 < length x → DistinctBelow first x → 0 < first
above_0 first [] h f = absurd (not-suc-le-zero h)
above_0 first (l ∷ ls) h f = omega (arith, f.1)

-- ---- a product over given literals is that over the variables 1 to w with other names, and is counted alike

module _ (x : List ℤ) (first : ℕ) (h : 0 < first) (f : DistinctBelow first x) (t : ℕ) (lines : List Line) where
  abbrev plain : Product
  plain = product_made t lines (given (numbered 1 (length x))) (suc (length x))

  pub product_as_numbered : ProductRenamed (renaming x first) (suc (length x)) first plain (product_made t lines (given x) first)
  product_as_numbered =
      let ρ = renaming x first in
      subst (λ (b : List Bit). ProductRenamed ρ (suc (length x)) first plain (product_made t lines b first)) (x_renamed x first)
      (product_renamed ρ (renames x first h f) t lines (given (numbered 1 (length x))))

  pub counts_as_numbered : CountsSame (suc (length x)) first plain (product_made t lines (given x) first)
  counts_as_numbered = counts_same (renaming x first) plain (product_made t lines (given x) first) product_as_numbered

-- what passing test 14 means
pub literals_of : (w : ℕ) (x : List ℤ) (first : ℕ) → not_literals w x first ≡ false → (length x ≡ w) × DistinctBelow first x
literals_of w x first e =
    let l = neither (not (eqb (length x) w)) (unfit first x) e in
    (eqb-true (length x) w (not-false _ l.0), fit_of first x l.1)

pub of_literals : (w : ℕ) (x : List ℤ) (first : ℕ) → length x ≡ w → DistinctBelow first x → not_literals w x first ≡ false
of_literals w x first e f = rw (eq-eqb (length x) w e, unfit_of first x f)
