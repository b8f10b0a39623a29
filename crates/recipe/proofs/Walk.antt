-- The check of a recipe's lines, a line at a time. Assumes nothing.
use Rattle.std.specs.Prelude.{ℤ, Ok, Err}
use mathlib.Core.Path.{◌≡◌, ap, ap₂, ◌∙◌, sym, subst}
use mathlib.Core.List.{List, [], ◌∷◌}
use Prim.Native.Nat.{ℕ, zero, suc, ◌+◌, ◌-◌, ◌*◌, ◌/◌, ◌%◌, ◌^◌, ◌≤◌, ◌<◌}
use native.Mathlib.Numerals.{add-one}
use native.Mathlib.Decide.{dec_le}
use native.Mathlib.Omega.{arith}
use lib.Dec.{eqb, ltb, lit<}
use lib.ListN.{length, get_or, set, take, drop, length-set}
use lib.Seq.{get_or-set_same, get_or-set_other}
use borrow.Author.Tests.{eq-eqb, ne_eqb, le-ltb, ltb-false}
use Rattle.line.specs.Line.{kind_gives, line_of, number}
use Rattle.line.specs.declared.Line.{Line}
use Rattle.line.specs.declared.Refusal.{Refusal}
use Rattle.line.specs.declared.Refusal.TheVariants.{Form, Operand, Even}
use Rattle.line.specs.Order.{Verdict}
use Rattle.line.specs.Order.{refuses, unless_broken, first_broken}
use Rattle.line.proofs.Order.{missed, alone, later_same}
use Rattle.recipe.specs.Check.{value_judged, judged, judged_at, line_at, coefficient_at, lines_judged, form_judged}

-- ---- the walk

-- rule 3 kept
pub walk_start : (s : List ℕ) → length s % 5 ≡ 0 → length s ≤ 160 → form_judged s ≡ lines_judged s (length s / 5 - 0) 0
unfolding form_judged
walk_start s h₁ h₂ =
    let z : length s / 5 ≡ length s / 5 - 0 = omega arith in
    simp (eq-eqb (length s % 5) 0 h₁, le-ltb 160 (length s) h₂)
    (alone (lines_judged s (length s / 5) 0) ∙ ap (λ (n : ℕ). lines_judged s n 0) z)

-- no line left
pub walk_end : (s : List ℕ) (n i : ℕ) → n ≤ i → lines_judged s (n - i) i ≡ Ok tt
unfolding lines_judged
walk_end s n i h =
    let e : n - i ≡ 0 = omega arith in
    ap (λ (m : ℕ). lines_judged s m i) e

-- a line left
walk_line : (s : List ℕ) (n i : ℕ) → i < n → lines_judged s (n - i) i ≡ unless_broken (judged_at s i) (lines_judged s (n - (i + 1)) (suc i))
unfolding lines_judged
walk_line s n i h =
    let e : n - i ≡ suc (n - (i + 1)) = omega arith in
    ap (λ (m : ℕ). lines_judged s m i) e

pub walk_on : (s : List ℕ) (n i : ℕ) → i < n → judged_at s i ≡ Ok tt → lines_judged s (n - i) i ≡ lines_judged s (n - (i + 1)) (i + 1)
walk_on s n i h e =
    walk_line s n i h
    ∙ ap (λ (x : Verdict). unless_broken x (lines_judged s (n - (i + 1)) (suc i))) e
    ∙ ap (lines_judged s (n - (i + 1))) (sym (add-one i))

pub walk_broken : (s : List ℕ) (n i : ℕ) (x : Refusal) → i < n → judged_at s i ≡ Err x → lines_judged s (n - i) i ≡ Err x
walk_broken s n i x h e = walk_line s n i h ∙ ap (λ (y : Verdict). unless_broken y (lines_judged s (n - (i + 1)) (suc i))) e

-- ---- a line and its operands

-- the five bytes from 5 * i on are line i + 1
pub part_line : (s : List ℕ) (i : ℕ) → line_of (number (take (i * 5 + 5 - i * 5) (drop (i * 5) s))) ≡ line_at s i
part_line s i =
    let e : i * 5 + 5 - i * 5 ≡ 5 = omega arith in
    ap (λ (m : ℕ). line_of (number (take m (drop (i * 5) s)))) e

pub coefficient_lt : (s : List ℕ) (i : ℕ) → coefficient_at s i < 2 ^ 20
coefficient_lt s zero = lit< tt
coefficient_lt s (suc i) = omega arith

-- operands matter only where they are earlier
judged_same : (line : Line) (i l l' r r' : ℕ) → (line.left ≤ i → l ≡ l') → (line.right ≤ i → r ≡ r')
    → judged line i l r ≡ judged line i l' r'
unfolding judged
judged_same line i l l' r r' hl hr =
    ap (λ (v : Verdict). unless_broken (refuses (ltb 0 line.top) (Form (i + 1)))
    (unless_broken (refuses (eqb line.kind 0) (Form (i + 1))) v))
    (later_same (refuses (ltb i line.left) (Operand (i + 1))) (λ e.
    later_same (refuses (ltb i line.right) (Operand (i + 1))) (λ e'.
    ap₂ (λ (x y : ℕ). first_broken (
    refuses (eqb (line.coefficient % 2) 0) (Even (i + 1)) ∷ value_judged line.coefficient (i + 1) (kind_gives line x y) ∷ []))
    (hl (ltb-false _ _ (missed _ _ e))) (hr (ltb-false _ _ (missed _ _ e'))))))

-- rules 4 to 6 kept: only the value is left
pub judged_value : (line : Line) (i l r : ℕ)
    → line.top ≤ 0 → (line.kind ≡ 0 → ⊥) → line.left ≤ i → line.right ≤ i → (line.coefficient % 2 ≡ 0 → ⊥)
    → judged line i l r ≡ value_judged line.coefficient (i + 1) (kind_gives line l r)
unfolding judged
judged_value line i l r top kind left right even =
    simp (
      le-ltb 0 line.top top,
      ne_eqb line.kind 0 kind,
      le-ltb i line.left left,
      le-ltb i line.right right,
      ne_eqb (line.coefficient % 2) 0 even,
    ) (alone (value_judged line.coefficient (i + 1) (kind_gives line l r)))

-- the same of a number that the line gives
pub judged_given : (line : Line) (i l r : ℕ) (z : ℤ)
    → line.top ≤ 0 → (line.kind ≡ 0 → ⊥) → line.left ≤ i → line.right ≤ i → (line.coefficient % 2 ≡ 0 → ⊥) → z ≡ kind_gives line l r
    → judged line i l r ≡ value_judged line.coefficient (i + 1) z
judged_given line i l r z top kind left right even e =
    judged_value line i l r top kind left right even ∙ ap (value_judged line.coefficient (i + 1)) (sym e)

pub judged_seen : (s seen : List ℕ) (line : Line) (i : ℕ) (v : Verdict)
    → v ≡ judged line i (get_or seen line.left 0) (get_or seen line.right 0) → line ≡ line_at s i
    → ((j : ℕ) → j ≤ i → get_or seen j 0 ≡ coefficient_at s j) → v ≡ judged_at s i
judged_seen s seen line i v q e h =
    q ∙ ap (λ (l : Line). judged l i (get_or seen l.left 0) (get_or seen l.right 0)) e
    ∙ judged_same (line_at s i) i _ _ _ _ (h (line_at s i).left) (h (line_at s i).right)

-- one coefficient more
pub seen_more : (s seen : List ℕ) (i k : ℕ) → i + 1 < length seen → k ≡ (line_at s i).coefficient
    → ((j : ℕ) → j ≤ i → get_or seen j 0 ≡ coefficient_at s j)
    → (j : ℕ) → j ≤ i + 1 → get_or (set seen (i + 1) k) j 0 ≡ coefficient_at s j
seen_more s seen i k hi e h j hj =
    elim (dec_le j i) [
      | yes p ↦ get_or-set_other seen (i + 1) j k 0 (omega arith) ∙ h j p
      | no q ↦
          let ej : j ≡ suc i = omega arith in
          subst (λ (x : ℕ). get_or (set seen (i + 1) k) x 0 ≡ coefficient_at s x) (sym ej)
          (ap (λ (m : ℕ). get_or (set seen m k) (suc i) 0) (add-one i) ∙ get_or-set_same seen (suc i) k 0 (omega arith) ∙ e)
    ]

-- ---- the loop over the lines

-- at line i + 1 of n: what is left of the walk is the whole answer, and `seen` holds the coefficients of the operands up to i
pub record Walking (s : List ℕ) (n : ℕ) (seen : List ℕ) (i : ℕ) : Type 0 where
  pub within : i ≤ n
  pub room : length seen ≡ 33
  pub rest : form_judged s ≡ lines_judged s (n - i) i
  pub operands : (j : ℕ) → j ≤ i → get_or seen j 0 ≡ coefficient_at s j

at_zero : (P : ℕ → Type 0) → P 0 → (j : ℕ) → j ≤ 0 → P j
at_zero P p j h =
    let e : 0 ≡ j = omega arith in
    subst P e p

pub walking_begins : (s seen : List ℕ) → length s % 5 ≡ 0 → length s ≤ 160 → length seen ≡ 33 → get_or seen 0 0 ≡ 1
    → Walking s (length s / 5) seen 0
walking_begins s seen h₁ h₂ z o =
    record {
      within = omega arith;
      room = z;
      rest = walk_start s h₁ h₂;
      operands = at_zero (λ (j : ℕ). get_or seen j 0 ≡ coefficient_at s j) o;
    }

pub walking_on : (s : List ℕ) (n : ℕ) (seen : List ℕ) (i k : ℕ) → Walking s n seen i → i < n → n ≤ 32 → judged_at s i ≡ Ok tt
    → k ≡ (line_at s i).coefficient
    → Walking s n (set seen (i + 1) k) (i + 1)
walking_on s n seen i k w h m e q =
    record {
      within = omega arith;
      room = length-set seen (i + 1) k ∙ w.room;
      rest = w.rest ∙ walk_on s n i h e;
      operands = seen_more s seen i k (omega arith) q w.operands;
    }
