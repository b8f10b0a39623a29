-- The planned recipe is right, and its lines' coefficients are the set, each once.
--
-- Statement. For c from 1 to 65,535 the check accepts the bytes of the planned recipe (`planned_accepted`); line i + 1 claims the i-th
-- coefficient of d in order (`planned_claims`), and these are the members of d's set (`coefficients_members`, `coefficients_distinct` of
-- Order). It has at most L div 2 lines, and fewer than any non-adjacent signed form of d has nonzero digits (`planned_lines_half`,
-- `planned_lines_form`), and its coefficients have at most L bits (`planned_bits`).
--
-- Why. Each coefficient x of the set has a legal split, whose operands are 1 or in the set, and come earlier in the order; so the line of
-- x names earlier lines, which claim these operands, and the split's equation is the kind's. d itself comes last. All but the number of
-- lines holds for every lookup of legal splits.
use Rattle.std.specs.Prelude.{Ok}
use Prim.Native.Nat.{ℕ, suc, ◌-◌, ◌*◌, ◌/◌, ◌%◌, ◌≤◌, ◌<◌}
use mathlib.Core.Path.{◌≡◌, refl, sym, ap, ap₂, ◌∙◌, subst}
use mathlib.Core.Bool.{true}
use mathlib.Core.List.{List, [], ◌∷◌, map}
use mathlib.Core.Logic.{inl, inr, ⊎_elim}
use native.Mathlib.Nat.{pos_of_ne-zero}
use native.Mathlib.Omega.{arith}
use lib.Dec.{leb}
use lib.ListN.{length, get_or}
use borrow.Author.Tests.{leb-true}
use Rattle.recipe.specs.Check.{line_at, coefficient_at, checked}
use Rattle.recipe.specs.Accepted.{LineRight, Makes}
use Rattle.recipe.proofs.Accepted.{right_accepted}
use Rattle.line.proofs.RoundTrip as round
use Rattle.line.specs.Limits.{line_bytes, most_bits, most_constant, most_lines}
use Rattle.line.specs.Line.{gives, line_of, number}
use Rattle.line.specs.Number.{bit_length, odd_part}
use Rattle.line.specs.declared.Line.{Line}
use Rattle.split.specs.Choose.{line_count, lines, split_of}
use Rattle.split.specs.Form.{Digit, SignedForm, nonzero}
use Rattle.split.specs.Order.{Earlier, coefficients, line_for, lines_bytes, operand, ordered, place_in, recipe_for}
use Rattle.split.specs.Reach.{adds, member, reach, set_of}
use Rattle.split.specs.Split.{kind, left, legal_at, right}
use Rattle.plan.specs.Plan.{odd_bits}
use Rattle.line.proofs.Number.{bits_le, lt_bits, odd_part_le, odd_part_odd}
use Rattle.split.proofs.Choose.{splits_legal}
use Rattle.split.proofs.Closed.{CanLine, Has, Lined, Root, set_lined}
use Rattle.split.proofs.Form.{lines_form}
use Rattle.split.proofs.Lines.{lines_half}
use Rattle.split.proofs.Order.{Found, coefficients_last, coefficients_members, found, member_of, operand_1, operand_more, operands_earlier}
use Rattle.split.proofs.Order.{ordered_distinct, ordered_from, ordered_has, ordered_length, place_at}
use Rattle.split.proofs.Earlier.{ordered_earlier}
use Rattle.split.proofs.Reach.{lines_depend, odd_case, reach_1}
use Rattle.split.proofs.Sets.{Distinct, adds_distinct}
use Rattle.split.proofs.Splits.{Operands, and₃, operands}
use Rattle.plan.proofs.Bytes.{bytes_length, line_bytes_at, map_length}
use Rattle.plan.proofs.Plans.{recipe_length}

nothing_at : (l : List ℕ) → length l ≡ 0 → get_or l (length l - 1) 0 ≡ 0
nothing_at [] h = refl
nothing_at (x ∷ l) h = absurd (omega arith)

-- ---- the lines of any set that can be lines

module _ (t : ℕ → ℕ) (L : ℕ) (few : L ≤ 20) (S : List ℕ) (lined : Lined t L S) (each : Distinct S) (short : length S ≤ most_lines) where
  abbrev ks : List ℕ
  ks = ordered S

  abbrev bytes : List ℕ
  bytes = lines_bytes (map (line_for t ks) ks)

  count : length ks ≡ length S
  count = ordered_length S

  in_order : (x : ℕ) → Has x S → Has x ks
  unfolding Has
  in_order x h = ⊎_elim (λ e. inl e) (λ m. inr (ordered_has S x m)) h

  can : (x : ℕ) → member x ks ≡ true → CanLine t L S x
  can x m = lined x (ordered_from S x m)

  -- ---- a line

  earlier : (x : ℕ) → member x ks ≡ true → (operand (left (t x) x) ks < place_in x ks) × (operand (right (t x) x) ks < place_in x ks)
  earlier x m = operands_earlier t L S (omega arith) lined x m

  sized : (x : ℕ) → member x ks ≡ true → round.Sized (line_for t ks x)
  unfolding line_for
  sized x m =
      let h : CanLine t L S x = can x m in
      let e = earlier x m in
      let f : Found x ks = found x ks m in
      let k = and₃ (leb 1 (t x / 32)) (leb (t x / 32) 3) (legal_at (kind (t x)) (t x % 32) x) h.is_legal in
      record {
        top = omega arith;
        kind = omega (arith, leb-true (t x / 32) 3 k.1);
        left = omega (arith, e.0, f.number, f.inside, count, short);
        shift = omega arith;
        right = omega (arith, e.1, f.number, f.inside, count, short);
        coefficient = lt_bits 20 x (omega (arith, h.few));
      }

  line_there : (i : ℕ) → i < length ks → line_at bytes i ≡ line_for t ks (get_or ks i 0)
  line_there i h =
      ap (λ (b : List ℕ). line_of (number b)) (line_bytes_at (line_for t ks) ks i h)
      ∙ round.read_packed (line_for t ks (get_or ks i 0)) (sized (get_or ks i 0) (member_of ks i h))

  claims_there : (i : ℕ) → i < length ks → coefficient_at bytes (suc i) ≡ get_or ks i 0
  unfolding line_for
  claims_there i h = ap (λ (l : Line). l.coefficient) (line_there i h)

  -- the operand that is named has the coefficient that is asked
  operand_there : (x : ℕ) → Has x S → coefficient_at bytes (operand x ks) ≡ x
  unfolding Has
  operand_there x h = ⊎_elim
      (λ e. ap (coefficient_at bytes) (ap (λ (z : ℕ). operand z ks) e ∙ operand_1 ks) ∙ sym e)
      (λ m.
      let f : Found x ks = found x ks m in
      ap (coefficient_at bytes) (operand_more x ks (λ e. omega (arith, (can x m).big)) ∙ f.number)
      ∙ claims_there f.index f.inside ∙ f.there)
      (in_order x h)

  right_by : (i x : ℕ) → member x ks ≡ true → place_in x ks ≡ suc i
      → LineRight (line_for t ks x) i (coefficient_at bytes (operand (left (t x) x) ks))
      (coefficient_at bytes (operand (right (t x) x) ks))
  unfolding line_for
  right_by i x m p =
      let h : CanLine t L S x = can x m in
      let e = earlier x m in
      let k = and₃ (leb 1 (t x / 32)) (leb (t x / 32) 3) (legal_at (kind (t x)) (t x % 32) x) h.is_legal in
      let o : Operands (kind (t x)) (t x % 32) x (left (t x) x) (right (t x) x) =
      operands (t x) x h.big h.odd (omega (arith, h.few)) h.is_legal in
      record {
        top = refl;
        kind_least = leb-true 1 (t x / 32) k.0;
        kind_most = leb-true (t x / 32) 3 k.1;
        left = omega (arith, e.0, p);
        right = omega (arith, e.1, p);
        odd = h.odd;
        most = omega (arith, lt_bits 20 x (omega (arith, h.few)));
        value = o.value
            ∙ sym (ap₂ (λ (l r : ℕ). gives (kind (t x)) l (t x % 32) r)
            (operand_there (left (t x) x) h.has_left) (operand_there (right (t x) x) h.has_right));
      }

  -- ---- all of them

  bytes_are : length bytes ≡ line_bytes * length ks
  bytes_are = bytes_length (map (line_for t ks) ks) ∙ ap (λ (n : ℕ). line_bytes * n) (map_length (line_for t ks) ks)

  lines_are : length bytes / line_bytes ≡ length ks
  lines_are = omega (arith, bytes_are)

  line_right : (i : ℕ) → i < length bytes / line_bytes
      → let l = line_at bytes i in LineRight l i (coefficient_at bytes l.left) (coefficient_at bytes l.right)
  unfolding line_for
  line_right i h =
      let n : i < length ks = omega (arith, lines_are) in
      subst (λ (l : Line). LineRight l i (coefficient_at bytes l.left) (coefficient_at bytes l.right)) (sym (line_there i n))
      (right_by i (get_or ks i 0) (member_of ks i n) (place_at ks (ordered_distinct S each) i n))

-- ---- of one number

module _ (t : ℕ → ℕ) (L : ℕ) (few : L ≤ 20) (d : ℕ) (root : Root t L d) (short : line_count t d ≤ most_lines) where
  abbrev own_bytes : List ℕ
  own_bytes = lines_bytes (recipe_for t d)

  own_lined : Lined t L (set_of t d)
  own_lined = set_lined t L (omega arith) d root

  own_each : Distinct (set_of t d)
  unfolding set_of
  own_each = adds_distinct (reach t d) [] tt

  own_short : length (set_of t d) ≤ most_lines
  unfolding line_count
  own_short = short

  own_line : (i : ℕ) → i < length (coefficients t d)
      → line_at own_bytes i ≡ line_for t (coefficients t d) (get_or (coefficients t d) i 0)
  unfolding recipe_for coefficients
  own_line = line_there t L few (set_of t d) own_lined own_each own_short

  own_claims : (i : ℕ) → i < length (coefficients t d) → coefficient_at own_bytes (suc i) ≡ get_or (coefficients t d) i 0
  unfolding recipe_for coefficients
  own_claims = claims_there t L few (set_of t d) own_lined own_each own_short

  own_order : (i : ℕ) → suc i < length (coefficients t d) → Earlier (get_or (coefficients t d) i 0) (get_or (coefficients t d) (suc i) 0)
  unfolding coefficients
  own_order = ordered_earlier (set_of t d) own_each (λ x m. omega (arith, (own_lined x m).few))

  own_lines : length own_bytes / line_bytes ≡ length (coefficients t d)
  unfolding recipe_for coefficients
  own_lines = lines_are t L few (set_of t d) own_lined own_each own_short

  own_bits : (i : ℕ) → i < length own_bytes / line_bytes → bit_length (line_at own_bytes i).coefficient ≤ L
  own_bits i h =
      let ks = coefficients t d in
      let l : i < length ks = omega (arith, own_lines) in
      omega (
        arith,
        ap bit_length (own_claims i l),
        (own_lined (get_or ks i 0) (sym (coefficients_members t d (get_or ks i 0)) ∙ member_of ks i l)).few,
      )

  product_1 : d ≡ 1 → coefficient_at own_bytes (length own_bytes / line_bytes) ≡ d
  unfolding coefficients set_of adds ordered
  product_1 e =
      let none : coefficients t d ≡ [] = ap (λ (z : ℕ). coefficients t z) e ∙ ap (λ (z : List ℕ). ordered (adds z [])) (reach_1 t) in
      ap (coefficient_at own_bytes) {x = length own_bytes / line_bytes} {y = 0}
      (omega (arith, own_lines, ap (λ (z : List ℕ). length z) none))
      ∙ sym e

  product_more : 1 < d → coefficient_at own_bytes (length own_bytes / line_bytes) ≡ d
  product_more big =
      let ks = coefficients t d in
      let last = coefficients_last t d root.legals big root.odd (omega (arith, root.few)) in
      let some : 0 < length ks = pos_of_ne-zero (λ z. omega (arith, last, nothing_at ks z)) in
      ap (coefficient_at own_bytes) {x = length own_bytes / line_bytes} {y = suc (length ks - 1)} (omega (arith, own_lines))
      ∙ own_claims (length ks - 1) (omega arith) ∙ last

  makes : Makes d own_bytes
  unfolding recipe_for coefficients
  makes = record {
    whole = omega (arith, bytes_are t L few (set_of t d) own_lined own_each own_short);
    short = omega (
      arith,
      bytes_are t L few (set_of t d) own_lined own_each own_short,
      count t L few (set_of t d) own_lined own_each own_short,
      own_short,
    );
    line = line_right t L few (set_of t d) own_lined own_each own_short;
    product = ⊎_elim product_1 product_more (odd_case d root.odd);
  }

-- ---- document 01's choice

module _ (c : ℕ) (least : 1 ≤ c) (most : c ≤ most_constant) where
  abbrev d : ℕ
  d = odd_part c

  d_odd : d % 2 ≡ 1
  d_odd = odd_part_odd c least

  d_few : bit_length d ≤ most_bits
  d_few = bits_le most_bits d (omega (arith, odd_part_le c))

  -- at most L bits
  d_root : Root split_of (odd_bits c) d
  d_root = record { odd = d_odd; few = omega arith; legals = splits_legal lines lines_depend d (omega (arith, d_few)) }

  d_short : line_count split_of d ≤ most_lines
  d_short = omega (arith, lines_half d d_odd (omega (arith, d_few)), d_few)

  -- the check accepts the planned recipe
  pub planned_accepted : checked c (lines_bytes (recipe_for split_of d)) ≡ Ok tt
  planned_accepted = right_accepted c (lines_bytes (recipe_for split_of d))
      (record { least = least; most = most; makes = makes split_of (odd_bits c) (omega (arith, d_few)) d d_root d_short })

  -- its lines are those of the coefficients in order
  pub planned_line : (i : ℕ) → i < length (coefficients split_of d)
      → line_at (lines_bytes (recipe_for split_of d)) i
      ≡ line_for split_of (coefficients split_of d) (get_or (coefficients split_of d) i 0)
  planned_line = own_line split_of (odd_bits c) (omega (arith, d_few)) d d_root d_short

  -- .. and claim them
  pub planned_claims : (i : ℕ) → i < length (coefficients split_of d)
      → coefficient_at (lines_bytes (recipe_for split_of d)) (suc i) ≡ get_or (coefficients split_of d) i 0
  planned_claims = own_claims split_of (odd_bits c) (omega (arith, d_few)) d d_root d_short

  -- .. which is document 01's order
  pub planned_order : (i : ℕ) → suc i < length (coefficients split_of d)
      → Earlier (get_or (coefficients split_of d) i 0) (get_or (coefficients split_of d) (suc i) 0)
  planned_order = own_order split_of (odd_bits c) (omega (arith, d_few)) d d_root d_short

  -- .. each of at most L bits
  pub planned_bits : (i : ℕ) → i < length (lines_bytes (recipe_for split_of d)) / line_bytes
      → bit_length (line_at (lines_bytes (recipe_for split_of d)) i).coefficient ≤ odd_bits c
  planned_bits = own_bits split_of (odd_bits c) (omega (arith, d_few)) d d_root d_short

  -- demand 3: at most L div 2 lines ..
  pub planned_lines_half : length (recipe_for split_of d) ≤ odd_bits c / 2
  planned_lines_half = omega (arith, recipe_length split_of d, lines_half d d_odd (omega (arith, d_few)))

  -- .. and at most one less than the nonzero digits of d's non-adjacent signed form, whoever found it
  pub planned_lines_form : (ds : List Digit) → SignedForm d ds → suc (length (recipe_for split_of d)) ≤ nonzero ds
  planned_lines_form ds f = omega (arith, recipe_length split_of d, lines_form d ds f d_odd (omega (arith, d_few)))
