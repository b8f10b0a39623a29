-- The planner's rules as what a split and a recipe are, and not as how they are found (document 01, "The planner").
use Rattle.std.specs.Prelude.{ℕ, zero, suc, ◌/◌, ◌%◌, ◌≤◌, ◌<◌, ◌≡◌, true, List, [], ◌∷◌, map, ◌⊎◌, length, get_or}
use Rattle.line.specs.Number.{bit_length}
use Rattle.line.specs.declared.Line.{Line}
use Rattle.split.specs.Split.{left, right, legal}
use Rattle.split.specs.Reach.{member, set_of}
use Rattle.split.specs.Choose.{lines}
use Rattle.split.specs.Order.{Earlier}

-- ---- the chosen split; a split is 32 * kind + p

-- the order of ties: SPLUS before SMINUS before MINUSS, then smaller p
abbrev pub Before : ℕ → ℕ → Type 0
Before s r = (s / 32 < r / 32) ⊎ ((s / 32 ≡ r / 32) × (s % 32 < r % 32))

-- s is n's split by the rule, where t gives the splits of the others
pub record ByRule (t : ℕ → ℕ) (n s : ℕ) : Type 0 where
  pub is_legal : legal s n ≡ true
  pub fewest : (r : ℕ) → legal r n ≡ true → lines t s n ≤ lines t r n
  pub first : (r : ℕ) → legal r n ≡ true → lines t r n ≡ lines t s n → (r ≡ s) ⊎ Before s r

-- t gives each odd number of at most L bits its split by the rule, and 0 to 1
pub record Lookup (t : ℕ → ℕ) (L : ℕ) : Type 0 where
  pub one : t 1 ≡ 0
  pub others : (n : ℕ) → 1 < n → n % 2 ≡ 1 → bit_length n ≤ L → ByRule t n (t n)

-- ---- the lines

abbrev pub claimed : List Line → List ℕ
claimed ls = map (λ (l : Line). l.coefficient) ls

-- the operand of a number has the coefficient k, where the lines claim ks: operand 0 is x itself, of coefficient 1
abbrev pub HasCoefficient : List ℕ → ℕ → ℕ → Type 0
HasCoefficient ks zero k = k ≡ 1
HasCoefficient ks (suc i) k = (i < length ks) × (get_or ks i 0 ≡ k)

-- a line's kind and s are those of its coefficient's split, and its operands are the split's
pub record LineByRules (t : ℕ → ℕ) (ks : List ℕ) (l : Line) : Type 0 where
  pub top : l.top ≡ 0
  pub kind : l.kind ≡ t l.coefficient / 32
  pub shift : l.shift ≡ t l.coefficient % 32
  pub left : HasCoefficient ks l.left (left (t l.coefficient) l.coefficient)
  pub right : HasCoefficient ks l.right (right (t l.coefficient) l.coefficient)

abbrev pub LinesByRules : (ℕ → ℕ) → List ℕ → List Line → Type 0
LinesByRules t ks [] = Unit {0}
LinesByRules t ks (l ∷ ls) = LineByRules t ks l × LinesByRules t ks ls

-- a recipe of d by the rules: the coefficients of d's set, in order, each with its line
pub record RecipeByRules (t : ℕ → ℕ) (d : ℕ) (ls : List Line) : Type 0 where
  pub set : (x : ℕ) → member x (claimed ls) ≡ member x (set_of t d)
  pub order : (i : ℕ) → suc i < length (claimed ls) → Earlier (get_or (claimed ls) i 0) (get_or (claimed ls) (suc i) 0)
  pub each : LinesByRules t (claimed ls) ls
