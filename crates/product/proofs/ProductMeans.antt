-- What a product means: y reads as d * 2^t * x, for d the lines' product, over any bits x and from any first free variable on; each
-- assignment of the variables below the first free one extends to exactly one; y's number of bits; and no bit of y is fixed at 1.
use Prim.Native.Nat.{ℕ, zero, suc, ◌+◌, ◌*◌, ◌^◌, ◌<◌}
use mathlib.Core.Path.{◌≡◌, refl, sym, ap, ◌∙◌}
use mathlib.Core.Logic.{◌≢◌}
use mathlib.Core.Bool.{true, false}
use mathlib.Core.List.{List, [], ◌∷◌, ◌++◌, map}
use native.Mathlib.Omega.{arith}
use lib.ListN.{length, get_or}
use Rattle.line.specs.Line.{kind_of}
use Rattle.line.specs.declared.Line.{Line}
use Rattle.cnf.specs.Clause.{Assignment, satisfies}
use Rattle.cnf.proofs.Extend.{Agree, Extends, Fresh, value_local}
use Rattle.cnf.specs.Words.{From1}
use Rattle.product.specs.Bit.{Bit, fixed, unfixed, num, reads}
use Rattle.product.specs.Lines.{columns, line_encoded, encoded}
use Rattle.product.specs.Product.{last_or, Product, product_made}
use Rattle.product.specs.Demand.{BitBelow, BitsBelow, LinesRight, lines_product, Multiplies}
use Rattle.product.proofs.BitLengths.{columns_of_0, columns_of_x}
use Rattle.product.proofs.Lengths.{length_shifted, length_line}
use Rattle.product.proofs.PairMeans.{bit_number}
use Rattle.product.proofs.LineMeans.{reads_lt, reads_shifted, shifted_below}
use Rattle.product.proofs.RecipeMeans.{coefficients, Related, related_snoc, related_last, AllBelow, exact, recipe_multiplies}

-- ---- the last operand

last_snoc : (d : ℕ) (ks : List ℕ) (k : ℕ) → last_or d (ks ++ (k ∷ [])) ≡ k
last_snoc d [] k = refl
last_snoc d (e ∷ ks) k = last_snoc e ks k

last_coefficient : (d : ℕ) (ls : List Line) (ks : List ℕ)
    → last_or d (coefficients ls ks) ≡ last_or (last_or d ks) (map (λ (l : Line). l.coefficient) ls)
last_coefficient d [] ks = refl
last_coefficient d (l ∷ ls) ks =
    last_coefficient d ls (ks ++ (l.coefficient ∷ []))
    ∙ ap (λ (e : ℕ). last_or e (map (λ (l : Line). l.coefficient) ls)) (last_snoc d ks l.coefficient)

-- ---- no bit is fixed at 1 where the bits can read 0

false_true : fixed false ≡ fixed true → ⊥
false_true h = let z : ◌≡◌ {A = ℕ} 0 1 = cc in omega arith

none_fixed_at_1 : (α : Assignment) (bs : List Bit) → reads α bs ≡ 0 → (k : ℕ) → get_or bs k (fixed false) ≢ fixed true
none_fixed_at_1 α [] e k h = absurd (false_true h)
none_fixed_at_1 α (b ∷ bs) e zero h = let o : bit_number α b ≡ 1 = ap (bit_number α) h in absurd (omega (arith, o))
none_fixed_at_1 α (b ∷ bs) e (suc k) h = none_fixed_at_1 α bs (omega arith) k h

module _ (Used : ℕ → Type 0) where
  -- what depends on the variables below n alone
  bit_local : {n : ℕ} {α β : Assignment} (b : Bit) → BitBelow Used n b → Agree Used n α β → bit_number α b ≡ bit_number β b
  bit_local (fixed b) i h = refl
  bit_local (unfixed l) i h = ap num (value_local Used l i h)

  pub reads_local : {n : ℕ} {α β : Assignment} (bs : List Bit) → BitsBelow Used n bs → Agree Used n α β → reads α bs ≡ reads β bs
  reads_local [] i h = refl
  reads_local (b ∷ bs) i h = omega (arith, bit_local b i.0 h, reads_local bs i.1 h)

  last_below : (n : ℕ) (o : List Bit) (os : List (List Bit)) → BitsBelow Used n o → AllBelow Used n os → BitsBelow Used n (last_or o os)
  last_below n o [] h i = h
  last_below n o (p ∷ os) h i = last_below n p os i.0 i.1

  -- ---- the product

  pub record ProductMultiplies (c : ℕ) (x : List Bit) (n : ℕ) (p : Product) : Type 0 where
    pub value : (α : Assignment) → satisfies α p.clauses ≡ true → reads α p.y ≡ c * reads α x
    pub extends : Extends Used n p.next p.clauses
    pub below : BitsBelow Used p.next p.y

  pub product_multiplies : (t : ℕ) (ls : List Line) (x : List Bit) (n : ℕ) → Fresh Used n → BitsBelow Used n x → LinesRight ls (1 ∷ [])
      → ProductMultiplies (lines_product ls * 2 ^ t) x n (product_made t ls x n)
  unfolding product_made encoded
  product_multiplies t ls x n fresh i g =
      let r = recipe_multiplies Used (columns (length x)) ls (x ∷ []) (1 ∷ []) n fresh (i, tt) g in
      let e = encoded (columns (length x)) ls (x ∷ []) n in
      record {
        value = λ α h.
            let v : ℕ = reads α x in
            let m = r.value α h (λ k o. reads α o ≡ k * v) (omega arith) (exact (length x) v α (reads_lt α x)) (omega arith, tt) in
            let q : reads α (last_or [] e.operands) ≡ lines_product ls * reads α x =
            related_last (λ k o. reads α o ≡ k * v) [] 0 e.operands (coefficients ls (1 ∷ [])) (omega arith) m
            ∙ ap (λ (k : ℕ). k * reads α x) (last_coefficient 0 ls (1 ∷ [])) in
            reads_shifted α t (last_or [] e.operands) ∙ ap (λ (k : ℕ). 2 ^ t * k) q ∙ omega arith;
        extends = r.extends;
        below = shifted_below Used e.next t (last_or [] e.operands) (last_below e.next [] e.operands tt r.below);
      }

-- ---- y's number of bits

-- every operand has a bit in each column of its coefficient
sized : (w : ℕ) (ls : List Line) (operands : List (List Bit)) (ks : List ℕ) (n : ℕ) → Related (λ k o. length o ≡ columns w k) operands ks
    → Related (λ k o. length o ≡ columns w k) (encoded (columns w) ls operands n).operands (coefficients ls ks)
unfolding encoded line_encoded
sized w [] operands ks n h = h
sized w (l ∷ ls) operands ks n h =
    let s = line_encoded (columns w) l operands n in
    sized w ls (operands ++ (s.bits ∷ [])) (ks ++ (l.coefficient ∷ [])) s.next
    (related_snoc (λ k o. length o ≡ columns w k) operands ks s.bits l.coefficient h
    (length_line (kind_of l.kind) (columns w l.coefficient) l.shift (get_or operands l.left []) (get_or operands l.right []) n))

pub length_y : (t : ℕ) (ls : List Line) (x : List Bit) (n : ℕ) → 0 < length x
    → length (product_made t ls x n).y ≡ t + columns (length x) (lines_product ls)
unfolding product_made
length_y t ls x n p =
    let w : ℕ = length x in
    let os = (encoded (columns w) ls (x ∷ []) n).operands in
    let e : length (last_or [] os) ≡ columns w (last_or 0 (coefficients ls (1 ∷ []))) =
    related_last (λ k o. length o ≡ columns w k) [] 0 os (coefficients ls (1 ∷ [])) (sym (columns_of_0 w))
    (sized w ls (x ∷ []) (1 ∷ []) n (sym (columns_of_x w p), tt)) in
    length_shifted t (last_or [] os) ∙ ap (λ (k : ℕ). t + k) (e ∙ ap (λ (k : ℕ). columns w k) (last_coefficient 0 ls (1 ∷ [])))

-- ---- in DIMACS, where the variables are those from 1 on

pub multiplies : (c : ℕ) (x : List Bit) (n : ℕ) (p : Product) → ProductMultiplies From1 c x n p → Multiplies c x n p
multiplies c x n p f = record { existence = f.extends.exists; uniqueness = f.extends.unique; value = f.value }

-- where x can be 0 no bit of y is fixed at 1
pub y_not_fixed_at_1 : (c : ℕ) (x : List Bit) (n : ℕ) (p : Product) → ProductMultiplies From1 c x n p → BitsBelow From1 n x
    → (α : Assignment) → reads α x ≡ 0 → (k : ℕ) → get_or p.y k (fixed false) ≢ fixed true
y_not_fixed_at_1 c x n p f i α z k =
    let b = f.extends.exists α in
    let e : reads b.0 x ≡ 0 = sym (reads_local From1 x i b.1) ∙ z in
    none_fixed_at_1 b.0 p.y (f.value b.0 b.2 ∙ ap (λ (v : ℕ). c * v) e ∙ omega arith) k
