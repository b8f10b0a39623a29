-- What a recipe's lines mean: every operand reads as its coefficient times x; by induction over the lines.
use Prim.Native.Nat.{ℕ, zero, suc, ◌*◌, ◌^◌, ◌≤◌, ◌<◌}
use mathlib.Core.Path.{◌≡◌, subst}
use mathlib.Core.Bool.{true}
use mathlib.Core.List.{List, [], ◌∷◌, ◌++◌}
use lib.ListN.{length, get_or}
use Rattle.line.specs.Line.{kind_of}
use Rattle.line.specs.declared.Line.{Line}
use Rattle.cnf.specs.Clause.{Assignment, satisfies}
use Rattle.cnf.proofs.Extend.{Extends, Fresh, fresh_more, extends_nil, extends_append, satisfies_left, satisfies_right}
use Rattle.product.specs.Bit.{Bit, reads}
use Rattle.product.specs.Lines.{line_sum, columns, line_encoded, encoded}
use Rattle.product.specs.Product.{last_or}
use Rattle.product.specs.Demand.{BitsBelow, LinesRight}
use Rattle.product.proofs.BitLengths.{enough_columns}
use Rattle.product.proofs.Lengths.{length_line}
use Rattle.product.proofs.ColumnMeans.{bits_more}
use Rattle.product.proofs.LineMeans.{Congruent, congruent_of_eq, eq_of_congruent, line_multiplies, reads_lt}

-- the coefficients of the operands so far, and then of all lines
abbrev pub coefficients : List Line → List ℕ → List ℕ
coefficients [] ks = ks
coefficients (l ∷ ls) ks = coefficients ls (ks ++ (l.coefficient ∷ []))

-- ---- operands and coefficients, place by place: P c o says what the bits o are for the coefficient c

abbrev pub Related : (ℕ → List Bit → Type 0) → List (List Bit) → List ℕ → Type 0
Related P [] [] = Unit {0}
Related P [] (c ∷ ks) = ⊥
Related P (o ∷ os) [] = ⊥
Related P (o ∷ os) (c ∷ ks) = P c o × Related P os ks

pub related_snoc : (P : ℕ → List Bit → Type 0) (os : List (List Bit)) (ks : List ℕ) (o : List Bit) (c : ℕ)
    → Related P os ks → P c o → Related P (os ++ (o ∷ [])) (ks ++ (c ∷ []))
related_snoc P [] [] o c h e = (e, tt)
related_snoc P [] (d ∷ ks) o c h e = absurd h
related_snoc P (p ∷ os) [] o c h e = absurd h
related_snoc P (p ∷ os) (d ∷ ks) o c h e = (h.0, related_snoc P os ks o c h.1 e)

related_at : (P : ℕ → List Bit → Type 0) (os : List (List Bit)) (ks : List ℕ) (k : ℕ) → P 0 [] → Related P os ks
    → P (get_or ks k 0) (get_or os k [])
related_at P [] [] k z h = z
related_at P [] (d ∷ ks) k z h = absurd h
related_at P (p ∷ os) [] k z h = absurd h
related_at P (p ∷ os) (d ∷ ks) zero z h = h.0
related_at P (p ∷ os) (d ∷ ks) (suc k) z h = related_at P os ks k z h.1

pub related_last : (P : ℕ → List Bit → Type 0) (o : List Bit) (c : ℕ) (os : List (List Bit)) (ks : List ℕ) → P c o → Related P os ks
    → P (last_or c ks) (last_or o os)
related_last P o c [] [] e h = e
related_last P o c [] (d ∷ ks) e h = absurd h
related_last P o c (p ∷ os) [] e h = absurd h
related_last P o c (p ∷ os) (d ∷ ks) e h = related_last P p d os ks h.0 h.1

-- P goes from a line's operands to its bits, where the bits are congruent to a multiple as those of the operands are
abbrev pub Keeps : (ℕ → ℕ) → Assignment → (ℕ → List Bit → Type 0) → Type 0
Keeps m α P = (k l r : ℕ) (bits L R : List Bit) → length bits ≡ m k → P l L → P r R
    → ((x : ℕ) → Congruent (m k) (reads α L) (l * x) → Congruent (m k) (reads α R) (r * x) → Congruent (m k) (reads α bits) (k * x))
    → P k bits

-- with enough columns: the bits read as the multiple itself
pub exact : (w x : ℕ) (α : Assignment) → x < 2 ^ w → Keeps (columns w) α (λ c o. reads α o ≡ c * x)
exact w x α lt k l r bits L R e hl hr f =
    let q = columns w k in
    eq_of_congruent q (reads α bits) (k * x) (subst (λ (j : ℕ). reads α bits < 2 ^ j) e (reads_lt α bits)) (enough_columns w k x lt)
    (f x (congruent_of_eq q hl) (congruent_of_eq q hr))

module _ (Used : ℕ → Type 0) where
  abbrev pub AllBelow : ℕ → List (List Bit) → Type 0
  AllBelow n [] = Unit {0}
  AllBelow n (o ∷ os) = BitsBelow Used n o × AllBelow n os

  all_more : {n k : ℕ} (os : List (List Bit)) → n ≤ k → AllBelow n os → AllBelow k os
  all_more [] h i = tt
  all_more (o ∷ os) h i = (bits_more Used o h i.0, all_more os h i.1)

  all_snoc : (n : ℕ) (os : List (List Bit)) (o : List Bit) → AllBelow n os → BitsBelow Used n o → AllBelow n (os ++ (o ∷ []))
  all_snoc n [] o i h = (h, tt)
  all_snoc n (p ∷ os) o i h = (i.0, all_snoc n os o i.1 h)

  all_at : (n : ℕ) (os : List (List Bit)) (k : ℕ) → AllBelow n os → BitsBelow Used n (get_or os k [])
  all_at n [] k i = tt
  all_at n (o ∷ os) zero i = i.0
  all_at n (o ∷ os) (suc k) i = all_at n os k i.1

  -- ---- the lines in turn

  -- m says how many columns a coefficient has, as in `encoded`; what of a line's operands goes on to its bits goes on through all lines
  pub record RecipeMultiplies (m : ℕ → ℕ) (ls : List Line) (operands : List (List Bit)) (ks : List ℕ) (n : ℕ) : Type 1 where
    pub extends : Extends Used n (encoded m ls operands n).next (encoded m ls operands n).clauses
    pub below : AllBelow (encoded m ls operands n).next (encoded m ls operands n).operands
    pub value : (α : Assignment) → satisfies α (encoded m ls operands n).clauses ≡ true → (P : ℕ → List Bit → Type 0) → P 0 []
        → Keeps m α P → Related P operands ks
        → Related P (encoded m ls operands n).operands (coefficients ls ks)

  pub recipe_multiplies : (m : ℕ → ℕ) (ls : List Line) (operands : List (List Bit)) (ks : List ℕ) (n : ℕ) → Fresh Used n
      → AllBelow n operands → LinesRight ls ks → RecipeMultiplies m ls operands ks n
  unfolding encoded line_encoded line_sum
  recipe_multiplies m [] operands ks n fresh i g = record { extends = extends_nil Used n; below = i; value = λ α h P z keeps k. k }
  recipe_multiplies m (l ∷ ls) operands ks n fresh i g =
      let s = line_encoded m l operands n in
      let L = get_or operands l.left [] in
      let R = get_or operands l.right [] in
      let t =
      line_multiplies Used (m l.coefficient) l.shift n fresh L R (all_at n operands l.left i) (all_at n operands l.right i)
      (kind_of l.kind) in
      let r =
      recipe_multiplies m ls (operands ++ (s.bits ∷ [])) (ks ++ (l.coefficient ∷ [])) s.next
      (fresh_more Used t.extends.grows fresh)
      (all_snoc s.next operands s.bits (all_more operands t.extends.grows i) t.below) g.3 in
      record {
        extends = extends_append Used t.extends r.extends;
        below = r.below;
        value = λ α h P z keeps k.
            let u = encoded m ls (operands ++ (s.bits ∷ [])) s.next in
            let cl = get_or ks l.left 0 in
            let cr = get_or ks l.right 0 in
            let e : P l.coefficient s.bits =
            keeps l.coefficient cl cr s.bits L R (length_line (kind_of l.kind) (m l.coefficient) l.shift L R n)
            (related_at P operands ks l.left z k) (related_at P operands ks l.right z k)
            (λ x. t.value α (satisfies_left α s.clauses u.clauses h) cl cr l.coefficient x g.2) in
            r.value α (satisfies_right α s.clauses u.clauses h) P z keeps
            (related_snoc P operands ks s.bits l.coefficient k e);
      }
