-- The rules give one split for each odd number and one recipe for each odd part (document 01, "The planner").
--
-- Statement. The lookup that planning uses keeps the rule (`keeps_rule`) and no other does (`only_lookup`). Its recipe is one by the rules
-- (`recipe_by_rules`), and so is no other, whichever lookup keeps the rule (`one_recipe`).
use Prim.Native.Nat.{ℕ, zero, suc, ◌/◌, ◌%◌, ◌≤◌, ◌<◌}
use mathlib.Core.Path.{◌≡◌, refl, sym, ap, ap₂, ◌∙◌, subst}
use mathlib.Core.Bool.{Bool, true, false≢true}
use mathlib.Core.List.{List, [], ◌∷◌, map}
use mathlib.Core.Logic.{inl, inr, ⊎_elim}
use native.Mathlib.Nat.{le_refl, le_antisymm, eq-or-lt_of_le}
use native.Mathlib.Omega.{arith}
use borrow.Author.Tests.{leb-true}
use lib.Dec.{leb}
use lib.ListN.{length, get_or}
use Rattle.line.specs.Number.{bit_length}
use Rattle.line.specs.declared.Line.{Line}
use Rattle.line.proofs.Number.{lt_or_le}
use Rattle.split.specs.Split.{kind, left, right, legal, legal_at}
use Rattle.split.specs.Reach.{turn, reach, member, adds, set_of}
use Rattle.split.specs.Choose.{Chosen, choose, lines, split_of}
use Rattle.split.specs.Order.{Earlier, key, coefficients, ordered, place_in, operand, line_for, recipe_for}
use Rattle.split.specs.Rules.{ByRule, Lookup, claimed, HasCoefficient, LineByRules, LinesByRules, RecipeByRules}
use Rattle.split.proofs.Splits.{and₃}
use Rattle.split.proofs.Sets.{bool, member_none, member_head, member_cons, cons_member, adds_distinct}
use Rattle.split.proofs.Reach.{Agree, Legal, lines_depend, reach_cong, turn_bits}
use Rattle.split.proofs.Choose.{chosen, chosen_one, only, split_chosen, split_1}
use Rattle.split.proofs.Closed.{Has, Lined, Root, set_lined}
use Rattle.split.proofs.Order.{Found, coefficients_distinct, coefficients_members, found, member_of, operand_1, operand_more}
use Rattle.split.proofs.Order.{place_at}
use Rattle.split.proofs.Earlier.{key_order, ordered_earlier}

-- ---- the chosen split

legal_small : (s n : ℕ) → legal s n ≡ true → s < 128
legal_small s n e =
    let k = and₃ (leb 1 (s / 32)) (leb (s / 32) 3) (legal_at (kind s) (s % 32) n) e in
    omega (arith, leb-true (s / 32) 3 k.1)

module _ (t : ℕ → ℕ) (n s : ℕ) where
  chosen_by_rule : Chosen lines t n s → ByRule t n s
  chosen_by_rule c = record {
    is_legal = c.is_legal;
    fewest = λ r e. c.cheapest r (legal_small r n e) e;
    first = λ r e q. ⊎_elim
        (λ z. inl (sym z))
        (λ l. inr (⊎_elim inl (λ h. inr (omega arith, omega arith)) (lt_or_le (s / 32) (r / 32))))
        (eq-or-lt_of_le {n = s} {m = r} (c.first r (legal_small r n e) e (omega (arith, q))));
  }

  by_rule_chosen : ByRule t n s → Chosen lines t n s
  by_rule_chosen h = record {
    is_legal = h.is_legal;
    small = legal_small s n h.is_legal;
    cheapest = λ r l e. h.fewest r e;
    first = λ r l e c. ⊎_elim
        (λ q. omega (arith, q))
        (λ b. ⊎_elim (λ k. omega (arith, k)) (λ k. omega (arith, k.0, k.1)) b)
        (h.first r e (le_antisymm c (h.fewest r e)));
  }

-- the lookup that planning uses keeps the rule
pub keeps_rule : (L : ℕ) → L < 32 → Lookup split_of L
keeps_rule L small = record {
  one = split_1 lines;
  others = λ n big odd few. chosen_by_rule split_of n (split_of n) (split_chosen lines lines_depend n big odd (omega arith));
}

-- and no other does
pub only_lookup : (t : ℕ → ℕ) (L : ℕ) → Lookup t L → L < 32 → (n : ℕ) → n % 2 ≡ 1 → bit_length n ≤ L → t n ≡ split_of n
only_lookup t L h small = only lines lines_depend t L (record {
  one = h.one;
  others = λ n big odd few.
      chosen_one lines t n (t n) (choose lines t n) (by_rule_chosen t n (t n) (h.others n big odd few))
      (chosen lines t n (omega arith) (omega arith));
}) small

-- ---- lists in strict order with the same members are one

abbrev Rising : List ℕ → Type 0
Rising [] = Unit {0}
Rising (x ∷ xs) = ((y : ℕ) → member y xs ≡ true → key x < key y) × Rising xs

rising : (l : List ℕ) → ((i : ℕ) → suc i < length l → key (get_or l i 0) < key (get_or l (suc i) 0)) → Rising l
rising [] h = tt
rising (x ∷ []) h = ((λ y m. absurd (false≢true (sym (member_none y) ∙ m))), tt)
rising (x ∷ y ∷ l) h =
    let r = rising (y ∷ l) (λ i k. h (suc i) (omega arith)) in
    let first = h 0 (omega arith) in
    ((λ z m. ⊎_elim (λ e. omega (arith, ap key e)) (λ n. omega (arith, r.0 z n)) (member_cons z y l m)), r)

both_or_none : (a b : Bool) → (a ≡ true → b ≡ true) → (b ≡ true → a ≡ true) → a ≡ b
both_or_none a b f g = ⊎_elim
    (λ e. e ∙ sym (f e))
    (λ e. ⊎_elim (λ q. g q ∙ sym q) (λ q. e ∙ sym q) (bool b))
    (bool a)

same_members : (xs ys : List ℕ) → Rising xs → Rising ys → ((z : ℕ) → member z xs ≡ member z ys) → xs ≡ ys
same_members [] [] r s h = refl
same_members [] (y ∷ ys) r s h = absurd (false≢true (sym (member_none y) ∙ (h y ∙ member_head y ys)))
same_members (x ∷ xs) [] r s h = absurd (false≢true (sym (member_none x) ∙ (sym (h x) ∙ member_head x xs)))
same_members (x ∷ xs) (y ∷ ys) r s h =
    let e : x ≡ y = ⊎_elim
    (λ q. q)
    (λ m. ⊎_elim (λ q. sym q) (λ n. absurd (omega (arith, s.0 x m, r.0 y n))) (member_cons y x xs (h y ∙ member_head y ys)))
    (member_cons x y ys (sym (h x) ∙ member_head x xs)) in
    ap₂ ◌∷◌ e (same_members xs ys r.1 s.1 (λ z. both_or_none (member z xs) (member z ys)
    (λ m. ⊎_elim (λ q. absurd (omega (arith, r.0 z m, ap key q, ap key e))) (λ n. n)
    (member_cons z y ys (sym (h z) ∙ cons_member z x xs m)))
    (λ m. ⊎_elim (λ q. absurd (omega (arith, s.0 z m, ap key q, ap key e))) (λ n. n)
    (member_cons z x xs (h z ∙ cons_member z y ys m)))))

-- ---- the recipe of d, over any lookup whose splits are legal

claimed_are : (t : ℕ → ℕ) (ks xs : List ℕ) → claimed (map (line_for t ks) xs) ≡ xs
unfolding line_for
claimed_are t ks [] = refl
claimed_are t ks (x ∷ xs) = ap (λ (l : List ℕ). x ∷ l) (claimed_are t ks xs)

module _ (t : ℕ → ℕ) (L : ℕ) (small : L < 32) (d : ℕ) (root : Root t L d) where
  abbrev ks : List ℕ
  ks = coefficients t d

  lined : Lined t L (set_of t d)
  lined = set_lined t L (omega arith) d root

  few : (x : ℕ) → member x (set_of t d) ≡ true → bit_length x < 32
  few x m = omega (arith, (lined x m).few)

  in_order : (i : ℕ) → suc i < length ks → Earlier (get_or ks i 0) (get_or ks (suc i) 0)
  unfolding coefficients set_of
  in_order = ordered_earlier (set_of t d) (adds_distinct (reach t d) [] tt) few

  -- the operand that a line names
  named : (y : ℕ) → Has y (set_of t d) → HasCoefficient ks (operand y ks) y
  unfolding Has
  named y h = ⊎_elim
      (λ e. subst (λ (z : ℕ). HasCoefficient ks (operand z ks) z) (sym e)
      (subst (λ (o : ℕ). HasCoefficient ks o 1) (sym (operand_1 ks)) refl))
      (λ m.
      let f : Found y ks = found y ks (coefficients_members t d y ∙ m) in
      subst (λ (o : ℕ). HasCoefficient ks o y) (sym (operand_more y ks (λ e. omega (arith, (lined y m).big)) ∙ f.number))
      (f.inside, f.there))
      h

  line_is_right : (x : ℕ) → member x ks ≡ true → LineByRules t ks (line_for t ks x)
  unfolding line_for
  line_is_right x m =
      let g = lined x (sym (coefficients_members t d x) ∙ m) in
      record {
        top = refl;
        kind = refl;
        shift = refl;
        left = named (left (t x) x) g.has_left;
        right = named (right (t x) x) g.has_right;
      }

  lines_right : (xs : List ℕ) → ((x : ℕ) → member x xs ≡ true → member x ks ≡ true) → LinesByRules t ks (map (line_for t ks) xs)
  lines_right [] h = tt
  lines_right (x ∷ xs) h = (line_is_right x (h x (member_head x xs)), lines_right xs (λ y m. h y (cons_member y x xs m)))

  by_rules : RecipeByRules t d (recipe_for t d)
  unfolding recipe_for
  by_rules =
      let e = claimed_are t ks ks in
      record {
        set = λ x. ap (member x) e ∙ coefficients_members t d x;
        order = subst (λ (l : List ℕ). (i : ℕ) → suc i < length l → Earlier (get_or l i 0) (get_or l (suc i) 0)) (sym e) in_order;
        each = subst (λ (l : List ℕ). LinesByRules t l (map (line_for t ks) ks)) (sym e) (lines_right ks (λ x m. m));
      }

  -- ---- and no other

  rising_of : (l : List ℕ) → ((x : ℕ) → member x l ≡ member x (set_of t d))
      → ((i : ℕ) → suc i < length l → Earlier (get_or l i 0) (get_or l (suc i) 0)) → Rising l
  rising_of l h o = rising l (λ i k.
      (key_order (get_or l i 0) (get_or l (suc i) 0)
      (few (get_or l i 0) (sym (h (get_or l i 0)) ∙ member_of l i (omega arith)))
      (few (get_or l (suc i) 0) (sym (h (get_or l (suc i) 0)) ∙ member_of l (suc i) k))).1 (o i k))

  names_operand : (o y : ℕ) → HasCoefficient ks o y → o ≡ operand y ks
  names_operand zero y e = sym (ap (λ (z : ℕ). operand z ks) e ∙ operand_1 ks)
  names_operand (suc i) y h =
      let m : member y ks ≡ true = subst (λ (z : ℕ). member z ks ≡ true) h.1 (member_of ks i h.0) in
      sym (operand_more y ks (λ e. omega (arith, (lined y (sym (coefficients_members t d y) ∙ m)).big))
      ∙ subst (λ (z : ℕ). place_in z ks ≡ suc i) h.1 (place_at ks (coefficients_distinct t d) i h.0))

  line_is : (l : Line) → LineByRules t ks l → l ≡ line_for t ks l.coefficient
  unfolding line_for
  line_is l h =
      let a = names_operand l.left _ h.left in
      let b = names_operand l.right _ h.right in
      λ i. record {
        top = h.top i;
        kind = h.kind i;
        left = a i;
        shift = h.shift i;
        right = b i;
        coefficient = l.coefficient;
      }

  lines_are : (ls : List Line) → LinesByRules t ks ls → ls ≡ map (line_for t ks) (claimed ls)
  lines_are [] h = refl
  lines_are (l ∷ ls) h = ap₂ ◌∷◌ (line_is l h.0) (lines_are ls h.1)

  only_recipe : (ls : List Line) → RecipeByRules t d ls → ls ≡ recipe_for t d
  unfolding recipe_for
  only_recipe ls h =
      let e : claimed ls ≡ ks = same_members (claimed ls) ks (rising_of (claimed ls) h.set h.order)
      (rising_of ks (coefficients_members t d) in_order) (λ z. h.set z ∙ sym (coefficients_members t d z)) in
      lines_are ls (subst (λ (l : List ℕ). LinesByRules t l ls) e h.each) ∙ ap (map (line_for t ks)) e

-- ---- whichever lookup keeps the rule

-- lookups that agree at the coefficients give the same lines
pub lines_cong : (t u : ℕ → ℕ) (ks xs : List ℕ) → ((x : ℕ) → member x xs ≡ true → t x ≡ u x)
    → map (line_for t ks) xs ≡ map (line_for u ks) xs
unfolding line_for
lines_cong t u all [] h = refl
lines_cong t u all (x ∷ xs) h = ap₂ (λ (s : ℕ) (ls : List Line).
    record { top = 0; kind = s / 32; left = operand (left s x) all; shift = s % 32; right = operand (right s x) all; coefficient = x } ∷ ls)
    (h x (member_head x xs))
    (lines_cong t u all xs (λ y m. h y (cons_member y x xs m)))

module _ (t : ℕ → ℕ) (L : ℕ) (small : L < 32) (h : Lookup t L) (d : ℕ) (odd : d % 2 ≡ 1) (short : bit_length d ≤ L) where
  legals : Legal t (suc (turn d))
  legals m big o less = (h.others m big o (omega (arith, turn_bits m d (omega arith)))).is_legal

  root_of : Root t L d
  root_of = record { odd = odd; few = short; legals = legals }

  agree : Agree t split_of (suc (turn d))
  agree m big o less = only_lookup t L h small m o (omega (arith, turn_bits m d (omega arith)))

  same_recipe : recipe_for t d ≡ recipe_for split_of d
  unfolding recipe_for coefficients set_of
  same_recipe =
      let e : coefficients t d ≡ coefficients split_of d = ap (λ (l : List ℕ). ordered (adds l []))
      (reach_cong (suc (turn d)) t split_of legals agree d odd (omega arith) (le_refl (suc (turn d)))) in
      lines_cong t split_of (coefficients t d) (coefficients t d)
      (λ x m.
      let g = set_lined t L (omega arith) d root_of x (sym (coefficients_members t d x) ∙ m) in
      only_lookup t L h small x g.odd g.few)
      ∙ ap (λ (l : List ℕ). map (line_for split_of l) l) e

  -- two recipes by the rules are one recipe
  pub one_recipe : (ls : List Line) → RecipeByRules t d ls → ls ≡ recipe_for split_of d
  one_recipe ls r = only_recipe t L small d root_of ls r ∙ same_recipe

pub recipe_by_rules : (d : ℕ) → d % 2 ≡ 1 → bit_length d < 32 → RecipeByRules split_of d (recipe_for split_of d)
recipe_by_rules d odd few = by_rules split_of (bit_length d) few d
    (root_of split_of (bit_length d) few (keeps_rule (bit_length d) few) d odd (le_refl (bit_length d)))
