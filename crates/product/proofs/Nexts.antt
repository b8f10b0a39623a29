-- The next free variable only grows: by at most 2 in a column, 2 * m in a line of m columns, 2 * k a line in a recipe of lines of at most k
-- columns.
use Prim.Native.Nat.{ℕ, zero, suc, ◌+◌, ◌*◌, ◌≤◌}
use mathlib.Core.Path.{subst}
use mathlib.Core.Bool.{Bool, true, false}
use mathlib.Core.List.{List, [], ◌∷◌, ◌++◌}
use native.Mathlib.Nat.{mul-suc}
use native.Mathlib.Omega.{arith}
use lib.ListN.{length, get_or}
use Rattle.line.specs.Line.{Kind, splus, sminus, minuss, kind_of}
use Rattle.line.specs.declared.Line.{Line}
use Rattle.cnf.specs.Clause.{Literal}
use Rattle.product.specs.Bit.{Bit}
use Rattle.product.specs.Column.{Pair, none, equal, opposite, first_pair, sum_made, carry_made, sum_of, carry_of, carry_unless}
use Rattle.product.specs.Column.{column}
use Rattle.product.specs.Lines.{none_left, adder, fitted, line_sum, columns, line_encoded, encoded}
use Rattle.product.specs.Product.{product_made}
use Rattle.product.proofs.Lengths.{length_fitted}

-- from n on, at most k more
abbrev pub Grows : ℕ → ℕ → ℕ → Type 0
Grows n k next = (n ≤ next) × (next ≤ n + k)

sum_grows : (f n : ℕ) (ps : List Literal) → Grows n 1 (sum_made f ps n).next
unfolding sum_made
sum_grows f n [] = (omega arith, omega arith)
sum_grows f n (p ∷ []) = (omega arith, omega arith)
sum_grows f n (p ∷ q ∷ ps) = (omega arith, omega arith)

carry_grows : (f n : ℕ) (ps : List Literal) → Grows n 1 (carry_made f ps n).next
unfolding carry_made
carry_grows f n [] = (omega arith, omega arith)
carry_grows zero n (p ∷ []) = (omega arith, omega arith)
carry_grows (suc zero) n (p ∷ []) = (omega arith, omega arith)
carry_grows (suc (suc f)) n (p ∷ []) = (omega arith, omega arith)
carry_grows zero n (p ∷ q ∷ []) = (omega arith, omega arith)
carry_grows (suc f) n (p ∷ q ∷ []) = (omega arith, omega arith)
carry_grows zero n (p ∷ q ∷ r ∷ ps) = (omega arith, omega arith)
carry_grows (suc f) n (p ∷ q ∷ r ∷ ps) = (omega arith, omega arith)

sum_of_grows : (k : Pair) (bs : List Bit) (n : ℕ) → Grows n 1 (sum_of k bs n).next
unfolding sum_of
sum_of_grows none bs n = sum_grows _ n _
sum_of_grows (equal p r) bs n = sum_grows _ n _
sum_of_grows (opposite r) bs n = sum_grows _ n _

pub carry_unless_grows : (last : Bool) (k : Pair) (bs : List Bit) (n : ℕ) → Grows n 1 (carry_unless last k bs n).next
unfolding carry_of carry_unless
carry_unless_grows true k bs n = (omega arith, omega arith)
carry_unless_grows false none bs n = carry_grows _ n _
carry_unless_grows false (equal p r) bs n = (omega arith, omega arith)
carry_unless_grows false (opposite r) bs n = (omega arith, omega arith)

pub column_grows : (l r c : Bit) (last : Bool) (n : ℕ) → Grows n 2 (column l r c last n).next
unfolding column
column_grows l r c last n =
    let inputs : List Bit = l ∷ r ∷ c ∷ [] in
    let k : Pair = first_pair l r c in
    let s = sum_of_grows k inputs n in
    let t = carry_unless_grows last k inputs (sum_of k inputs n).next in
    (omega (arith, s.0, t.0), omega (arith, s.1, t.1))

pub adder_grows : (ls rs : List Bit) (c : Bit) (n : ℕ) → Grows n (2 * length ls) (adder ls rs c n).next
unfolding adder
adder_grows [] rs c n = (omega arith, omega arith)
adder_grows (l ∷ ls) [] c n = (omega arith, omega arith)
adder_grows (l ∷ ls) (r ∷ rs) c n =
    let k = column l r c (none_left ls) n in
    let a = column_grows l r c (none_left ls) n in
    let b = adder_grows ls rs k.carry_bit k.next in
    (omega (arith, a.0, b.0), omega (arith, a.1, b.1))

fitted_grows : (m : ℕ) (ls rs : List Bit) (c : Bit) (n : ℕ) → Grows n (2 * m) (adder (fitted m ls) rs c n).next
fitted_grows m ls rs c n =
    subst (λ (k : ℕ). Grows n (2 * k) (adder (fitted m ls) rs c n).next) (length_fitted m ls) (adder_grows (fitted m ls) rs c n)

pub line_grows : (d : Kind) (m s : ℕ) (l r : List Bit) (n : ℕ) → Grows n (2 * m) (line_sum d m l s r n).next
unfolding line_sum
line_grows splus m s l r n = fitted_grows m _ _ _ n
line_grows sminus m s l r n = fitted_grows m _ _ _ n
line_grows minuss m s l r n = fitted_grows m _ _ _ n

pub line_encoded_grows : (f : ℕ → ℕ) (l : Line) (operands : List (List Bit)) (n : ℕ)
    → Grows n (2 * f l.coefficient) (line_encoded f l operands n).next
unfolding line_encoded
line_encoded_grows f l operands n =
    line_grows (kind_of l.kind) (f l.coefficient) l.shift (get_or operands l.left []) (get_or operands l.right []) n

pub encoded_grows : (f : ℕ → ℕ) (ls : List Line) (operands : List (List Bit)) (n : ℕ) → n ≤ (encoded f ls operands n).next
unfolding encoded
encoded_grows f [] operands n = omega arith
encoded_grows f (l ∷ ls) operands n =
    let s = line_encoded f l operands n in
    omega (arith, (line_encoded_grows f l operands n).0, encoded_grows f ls (operands ++ (s.bits ∷ [])) s.next)

-- every line has at most k columns
abbrev pub Narrow : (ℕ → ℕ) → ℕ → List Line → Type 0
Narrow f k [] = Unit {0}
Narrow f k (l ∷ ls) = (f l.coefficient ≤ k) × Narrow f k ls

pub encoded_few : (f : ℕ → ℕ) (k : ℕ) (ls : List Line) (operands : List (List Bit)) (n : ℕ) → Narrow f k ls
    → (encoded f ls operands n).next ≤ n + 2 * k * length ls
unfolding encoded
encoded_few f k [] operands n h = omega arith
encoded_few f k (l ∷ ls) operands n h =
    let s = line_encoded f l operands n in
    omega (
      arith,
      (line_encoded_grows f l operands n).1,
      h.0,
      encoded_few f k ls (operands ++ (s.bits ∷ [])) s.next h.1,
      mul-suc (2 * k) (length ls),
    )

pub product_grows : (t : ℕ) (ls : List Line) (x : List Bit) (n : ℕ) → n ≤ (product_made t ls x n).next
unfolding product_made
product_grows t ls x n = encoded_grows (columns (length x)) ls (x ∷ []) n
