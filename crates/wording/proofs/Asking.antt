-- The request, test by test, and what a number in it says, a byte at a time. Assumes nothing.
use Rattle.std.specs.Prelude.{Some, None}
use mathlib.Core.Path.{◌≡◌, refl, sym}
use mathlib.Core.List.{List, [], ◌∷◌}
use Prim.Native.Nat.{ℕ, ◌+◌, ◌-◌, ◌*◌, ◌^◌, ◌≤◌, ◌<◌}
use native.Mathlib.Nat.{pow-suc}
use native.Mathlib.Numerals.{add-one}
use native.Mathlib.Omega.{arith}
use lib.ListN.{length, get_or, take, drop}
use lib.Seq.{take-suc}
use borrow.Author.Tests.{lt-ltb, le-ltb, eq-eqb, ne_eqb}
use Rattle.std.specs.Char.{is_ascii_digit}
use Rattle.std.specs.List.{prefix_len}
use Rattle.std.proofs.lemmas.Bool.Decides.{nat_tests}
use Rattle.wording.specs.Decimal.{value_of}
use Rattle.wording.specs.Request.{front, width_asked, asked}
use Rattle.wording.proofs.Decimal.{value_more}

-- the digits in front, as the library counts them
pub front_digits : (s : List ℕ) → front s ≡ prefix_len is_ascii_digit s
unfolding front
front_digits [] = refl
front_digits (b ∷ bs) = grind (arith, nat_tests, front_digits bs)

-- a byte more
pub value_next : (s : List ℕ) (i : ℕ) → i < length s → value_of (take (i + 1) s) ≡ value_of (take i s) * 10 + (get_or s i 0 - 48)
value_next s i h = rw (add-one, take-suc s i 0 h) (value_more 0 (get_or s i 0) (take i s))

pub ten_more : (v d i : ℕ) → v + 23 ≤ 23 * 10 ^ i → d ≤ 207 → v * 10 + d + 23 ≤ 23 * 10 ^ (i + 1)
ten_more v d i h hd = rw add-one (omega (arith, pow-suc 10 i))

module _ (c : ℕ) (t : List ℕ) (b : ℕ) (e : b ≡ front t) where
  pub width_none : b ≡ 0 → None ≡ width_asked c t
  unfolding width_asked
  width_none h = simp (sym e, eq-eqb b 0 h)

  pub width_long : 2 < b → None ≡ width_asked c t
  unfolding width_asked
  width_long h = simp (sym e, ne_eqb b 0 (omega arith), lt-ltb 2 b h)

  pub width_more : (b ≡ 0 → ⊥) → b ≤ 2 → (length t ≡ b + 1 → ⊥) → None ≡ width_asked c t
  unfolding width_asked
  width_more p q h = simp (sym e, ne_eqb b 0 p, le-ltb 2 b q, ne_eqb (length t) (b + 1) h)

  pub width_other : (b ≡ 0 → ⊥) → b ≤ 2 → length t ≡ b + 1 → (get_or t b 0 ≡ 10 → ⊥) → None ≡ width_asked c t
  unfolding width_asked
  width_other p q l h = simp (sym e, ne_eqb b 0 p, le-ltb 2 b q, eq-eqb (length t) (b + 1) l, ne_eqb (get_or t b 0) 10 h)

  pub width_right : (b ≡ 0 → ⊥) → b ≤ 2 → length t ≡ b + 1 → get_or t b 0 ≡ 10 → Some (c, (value_of (take b t))) ≡ width_asked c t
  unfolding width_asked
  width_right p q l h = simp (sym e, ne_eqb b 0 p, le-ltb 2 b q, eq-eqb (length t) (b + 1) l, eq-eqb (get_or t b 0) 10 h)

module _ (s : List ℕ) (a : ℕ) (e : a ≡ front s) where
  pub request_none : a ≡ 0 → None ≡ asked s
  unfolding asked
  request_none h = simp (sym e, eq-eqb a 0 h)

  pub request_long : 5 < a → None ≡ asked s
  unfolding asked
  request_long h = simp (sym e, ne_eqb a 0 (omega arith), lt-ltb 5 a h)

  pub request_end : (a ≡ 0 → ⊥) → a ≤ 5 → a ≡ length s → None ≡ asked s
  unfolding asked
  request_end p q h = simp (sym e, ne_eqb a 0 p, le-ltb 5 a q, eq-eqb a (length s) h)

  pub request_other : (a ≡ 0 → ⊥) → a ≤ 5 → (a ≡ length s → ⊥) → (get_or s a 0 ≡ 32 → ⊥) → None ≡ asked s
  unfolding asked
  request_other p q l h = simp (sym e, ne_eqb a 0 p, le-ltb 5 a q, ne_eqb a (length s) l, ne_eqb (get_or s a 0) 32 h)

  pub request_on : (a ≡ 0 → ⊥) → a ≤ 5 → (a ≡ length s → ⊥) → get_or s a 0 ≡ 32
      → width_asked (value_of (take a s)) (drop (a + 1) s) ≡ asked s
  unfolding asked
  request_on p q l h = simp (sym e, ne_eqb a 0 p, le-ltb 5 a q, ne_eqb a (length s) l, eq-eqb (get_or s a 0) 32 h)

-- ---- each answer of `read_width` and `read_request`

pub ruleset width_tests = (width_none, width_long, width_more, width_other, width_right)

pub ruleset request_tests = (request_none, request_long, request_end, request_other, request_on)
