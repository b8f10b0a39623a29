-- The bits behind codes: a code that the writer makes decodes to the bit that document 01 means.
use Prim.Native.Nat.{ℕ, zero, suc, ◌+◌, ◌-◌, ◌*◌, ◌/◌, ◌%◌, ◌<◌, ◌≤◌}
use mathlib.Core.Path.{◌≡◌, refl, sym, ap, ap₂, ◌∙◌}
use mathlib.Core.Bool.{Bool, true, false, not, cond}
use mathlib.Core.List.{List}
use native.Mathlib.Omega.{arith}
use native.Mathlib.Decide.{dec_lt}
use lib.Dec.{eqb}
use lib.ListN.{get_or, get_or-map}
use borrow.Author.Tests.{eq-eqb, ne_eqb, eqb-true, eqb-false, lt-ltb, le-ltb}
use lib.IntN.{pos, neg_ℤ}
use Rattle.cnf.specs.Clause.{Literal, signed, negation, new}
use Rattle.cnf.specs.Words.{word}
use Rattle.product.specs.Bit.{Bit, fixed, unfixed, flip, num, stored}
use Rattle.product.specs.Column.{is_odd}
use Rattle.product.proofs.ColumnMeans.{odd_mod}
use Rattle.gates.specs.Code.{code_sign, literal_of, bit_of, bits_of, negated_code, flipped_code}

-- ---- even and odd

pub sign_even : (b : ℕ) → b % 2 ≡ 0 → code_sign b ≡ false
sign_even b e = ap (λ (t : Bool). cond t false true) (eq-eqb (b % 2) 0 e)

pub sign_odd : (b : ℕ) → (b % 2 ≡ 0 → ⊥) → code_sign b ≡ true
sign_odd b e = ap (λ (t : Bool). cond t false true) (ne_eqb (b % 2) 0 e)

pub negated_even : (b : ℕ) → b % 2 ≡ 0 → negated_code b ≡ b + 1
unfolding negated_code
negated_even b e = ap (λ (t : Bool). cond t (b + 1) (b - 1)) (eq-eqb (b % 2) 0 e)

pub negated_odd : (b : ℕ) → (b % 2 ≡ 0 → ⊥) → negated_code b ≡ b - 1
unfolding negated_code
negated_odd b e = ap (λ (t : Bool). cond t (b + 1) (b - 1)) (ne_eqb (b % 2) 0 e)

even_or_odd_by : {A : Type 0} (b : ℕ) → (b % 2 ≡ 0 → A) → ((b % 2 ≡ 0 → ⊥) → A) → (t : Bool) → eqb (b % 2) 0 ≡ t → A
even_or_odd_by b f g true e = f (eqb-true (b % 2) 0 e)
even_or_odd_by b f g false e = g (eqb-false (b % 2) 0 e)

pub even_or_odd : {A : Type 0} (b : ℕ) → (b % 2 ≡ 0 → A) → ((b % 2 ≡ 0 → ⊥) → A) → A
even_or_odd b f g = even_or_odd_by b f g (eqb (b % 2) 0) refl

by_odd_at : {A : Type 0} (f : ℕ) → (f % 2 ≡ 1 → is_odd f ≡ true → A) → (f % 2 ≡ 0 → is_odd f ≡ false → A) → (t : Bool) → is_odd f ≡ t → A
by_odd_at f g h true e = g (sym (odd_mod f) ∙ ap num e) e
by_odd_at f g h false e = h (sym (odd_mod f) ∙ ap num e) e

-- the parity of f, in the two ways that it is said
by_odd : {A : Type 0} (f : ℕ) → (f % 2 ≡ 1 → is_odd f ≡ true → A) → (f % 2 ≡ 0 → is_odd f ≡ false → A) → A
by_odd f g h = by_odd_at f g h (is_odd f) refl

-- ---- literals

literal_eq : (v u : ℕ) (s t : Bool) → v ≡ u → s ≡ t
    → ◌≡◌ {A = Literal} (record { variable = v; negated = s }) (record { variable = u; negated = t })
literal_eq v u s t p q = ap₂ (λ (x : ℕ) (y : Bool). record { variable = x; negated = y }) p q

pub literal_negated : (b : ℕ) → literal_of (negated_code b) ≡ negation (literal_of b)
unfolding literal_of
literal_negated b =
    even_or_odd b
    (λ e.
    ap (λ (x : ℕ). literal_of x) (negated_even b e)
    ∙ literal_eq ((b + 1) / 2) (b / 2) (code_sign (b + 1)) (not (code_sign b)) (omega arith)
    (sign_odd (b + 1) (λ q. omega arith) ∙ ap not (sym (sign_even b e))))
    (λ e.
    ap (λ (x : ℕ). literal_of x) (negated_odd b e)
    ∙ literal_eq ((b - 1) / 2) (b / 2) (code_sign (b - 1)) (not (code_sign b)) (omega (arith, e))
    (sign_even (b - 1) (omega (arith, e)) ∙ ap not (sym (sign_odd b e))))

pub literal_new : (z : ℕ) → literal_of (2 * z) ≡ new z
unfolding literal_of
literal_new z = literal_eq (2 * z / 2) z (code_sign (2 * z)) false (omega arith) (sign_even (2 * z) (omega arith))

pub flipped_odd : (b f : ℕ) → f % 2 ≡ 1 → flipped_code b f ≡ negated_code b
unfolding flipped_code
flipped_odd b f e = ap (λ (t : Bool). cond t b (negated_code b)) (ne_eqb (f % 2) 0 (λ q. omega arith))

pub flipped_even : (b f : ℕ) → f % 2 ≡ 0 → flipped_code b f ≡ b
unfolding flipped_code
flipped_even b f e = ap (λ (t : Bool). cond t b (negated_code b)) (eq-eqb (f % 2) 0 e)

literal_flipped : (b f : ℕ) → literal_of (flipped_code b f) ≡ signed (is_odd f) (literal_of b)
literal_flipped b f =
    by_odd f
    (λ e o. ap (λ (x : ℕ). literal_of x) (flipped_odd b f e) ∙ (literal_negated b ∙ ap (λ (t : Bool). signed t (literal_of b)) (sym o)))
    (λ e o. ap (λ (x : ℕ). literal_of x) (flipped_even b f e) ∙ ap (λ (t : Bool). signed t (literal_of b)) (sym o))

pub new_flipped : (z f : ℕ) → literal_of (flipped_code (2 * z) f) ≡ signed (is_odd f) (new z)
new_flipped z f = literal_flipped (2 * z) f ∙ ap (λ (l : Literal). signed (is_odd f) l) (literal_new z)

-- ---- bits

pub bit_zero : bit_of 0 ≡ fixed false
unfolding bit_of
bit_zero = refl

pub bit_one : bit_of 1 ≡ fixed true
unfolding bit_of
bit_one = refl

pub bit_fixed : (b : ℕ) → b < 2 → bit_of b ≡ fixed (code_sign b)
unfolding bit_of
bit_fixed b h = ap (λ (t : Bool). cond t (fixed (code_sign b)) (unfixed (literal_of b))) (lt-ltb b 2 h)

pub bit_literal : (b : ℕ) → 2 ≤ b → bit_of b ≡ unfixed (literal_of b)
unfolding bit_of
bit_literal b h = ap (λ (t : Bool). cond t (fixed (code_sign b)) (unfixed (literal_of b))) (le-ltb b 2 h)

pub bit_new : (z : ℕ) → 0 < z → bit_of (2 * z) ≡ unfixed (new z)
bit_new z h = bit_literal (2 * z) (omega arith) ∙ ap (λ (l : Literal). unfixed l) (literal_new z)

negated_ge : (b : ℕ) → 2 ≤ b → 2 ≤ negated_code b
negated_ge b h = even_or_odd b (λ e. omega (arith, negated_even b e)) (λ e. omega (arith, e, negated_odd b e))

negated_small : (b : ℕ) → b < 2 → bit_of (negated_code b) ≡ flip (bit_of b)
unfolding bit_of negated_code
negated_small zero h = refl
negated_small (suc zero) h = refl
negated_small (suc (suc b)) h = absurd (omega arith)

pub bit_negated : (b : ℕ) → bit_of (negated_code b) ≡ flip (bit_of b)
bit_negated b = go (dec_lt b 2)
  where
    go : Dec (b < 2) → bit_of (negated_code b) ≡ flip (bit_of b)
    go (no h) =
        bit_literal (negated_code b) (negated_ge b (omega arith))
        ∙ (ap (λ (l : Literal). unfixed l) (literal_negated b) ∙ ap flip (sym (bit_literal b (omega arith))))
    go (yes h) = negated_small b h

pub bit_at : (l : List ℕ) (j : ℕ) → get_or (bits_of l) j (fixed false) ≡ bit_of (get_or l j 0)
bit_at l j = sym (ap (λ (b : Bit). get_or (bits_of l) j b) bit_zero) ∙ get_or-map bit_of l j 0

-- ---- words

pub word_even : (b : ℕ) → b % 2 ≡ 0 → word (literal_of b) ≡ pos (b / 2)
unfolding literal_of
word_even b e = rw (sign_even b e)

pub word_odd : (b : ℕ) → (b % 2 ≡ 0 → ⊥) → word (literal_of b) ≡ neg_ℤ (pos (b / 2))
unfolding literal_of
word_odd b e = rw (sign_odd b e)

stored_small : (b : ℕ) → b < 2 → stored (bit_of b) ≡ word (literal_of b)
unfolding bit_of literal_of
stored_small zero h = refl
stored_small (suc zero) h = refl
stored_small (suc (suc b)) h = absurd (omega arith)

-- also of a fixed bit
pub stored_word : (b : ℕ) → stored (bit_of b) ≡ word (literal_of b)
stored_word b = go (dec_lt b 2)
  where
    go : Dec (b < 2) → stored (bit_of b) ≡ word (literal_of b)
    go (yes h) = stored_small b h
    go (no h) = ap stored (bit_literal b (omega arith))
