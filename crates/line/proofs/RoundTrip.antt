-- A line and its five bytes: reading what a line packs to gives the line (`read_packed`), and packing what five bytes read as gives the
-- bytes (`packed_read`), whatever their top bit. Both go through the forty bits as one number. Assumes nothing.
use mathlib.Core.Path.{◌≡◌, ap, ◌∙◌, sym}
use mathlib.Core.List.{List, [], ◌∷◌}
use Prim.Native.Nat.{ℕ, ◌+◌, ◌*◌, ◌/◌, ◌%◌, ◌^◌, ◌<◌}
use native.Mathlib.Nat.{mod-mod}
use native.Mathlib.Omega.{arith}
use lib.ListN.{length, get_or}
use lib.Pow.{split, shr-shr, shr_mod}
use Rattle.line.specs.declared.Line.{Line}
use Rattle.line.specs.Line.{line_of, number, forty_bits, bytes_of}

-- a line whose fields have no more than the bits that the form gives them
pub record Sized (l : Line) : Type 0 where
  pub top : l.top < 2
  pub kind : l.kind < 2 ^ 2
  pub left : l.left < 2 ^ 6
  pub shift : l.shift < 2 ^ 5
  pub right : l.right < 2 ^ 6
  pub coefficient : l.coefficient < 2 ^ 20

-- ---- the line and its forty bits

pub forty_bits_lt : (l : Line) → forty_bits l < 2 ^ 40
forty_bits_lt l = omega arith

line_of_forty_bits : (l : Line) → Sized l → line_of (forty_bits l) ≡ l
line_of_forty_bits l z = λ i.
    record {
      top = top i;
      kind = kind i;
      left = left i;
      shift = shift i;
      right = right i;
      coefficient = coefficient i;
    }
  where
    top : forty_bits l / 2 ^ 39 ≡ l.top
    top = omega arith

    kind : forty_bits l / 2 ^ 37 % 2 ^ 2 ≡ l.kind
    kind = omega arith

    left : forty_bits l / 2 ^ 31 % 2 ^ 6 ≡ l.left
    left = omega arith

    shift : forty_bits l / 2 ^ 26 % 2 ^ 5 ≡ l.shift
    shift = omega arith

    right : forty_bits l / 2 ^ 20 % 2 ^ 6 ≡ l.right
    right = omega arith

    coefficient : forty_bits l % 2 ^ 20 ≡ l.coefficient
    coefficient = omega arith

-- v's bits from k on: those from k + j on, and j bits
bits_from : (v k j : ℕ) → v / 2 ^ k ≡ v / 2 ^ (k + j) * 2 ^ j + v / 2 ^ k % 2 ^ j
bits_from v k j = sym (ap (λ (x : ℕ). x * 2 ^ j + v / 2 ^ k % 2 ^ j) (sym (shr-shr v k j)) ∙ split (v / 2 ^ k) j)

-- the same, of a field that was taken once already
field_from : (v k j : ℕ) → v / 2 ^ k ≡ v / 2 ^ (k + j) * 2 ^ j + v / 2 ^ k % 2 ^ j % 2 ^ j
field_from v k j = bits_from v k j ∙ ap (λ (x : ℕ). v / 2 ^ (k + j) * 2 ^ j + x) (sym (mod-mod (v / 2 ^ k) (2 ^ j)))

fields_joined : (v v₂₀ v₂₆ v₃₁ v₃₇ v₃₉ k r s l c t : ℕ) → v ≡ v₂₀ * 2 ^ 20 + k → v₂₀ ≡ v₂₆ * 2 ^ 6 + r → v₂₆ ≡ v₃₁ * 2 ^ 5 + s
    → v₃₁ ≡ v₃₇ * 2 ^ 6 + l
    → v₃₇ ≡ v₃₉ * 2 ^ 2 + c → t ≡ v₃₉ → ((((t * 2 ^ 2 + c) * 2 ^ 6 + l) * 2 ^ 5 + s) * 2 ^ 6 + r) * 2 ^ 20 + k ≡ v
fields_joined v v₂₀ v₂₆ v₃₁ v₃₇ v₃₉ k r s l c t e₁ e₂ e₃ e₄ e₅ e₆ = omega arith

forty_bits_of_line : (v : ℕ) → v < 2 ^ 40 → forty_bits (line_of v) ≡ v
forty_bits_of_line v h =
    let low : v ≡ v / 2 ^ 20 * 2 ^ 20 + v % 2 ^ 20 % 2 ^ 20 = omega arith in
    fields_joined v _ _ _ _ _ _ _ _ _ _ _ low (field_from v 20 6) (field_from v 26 5) (field_from v 31 6) (field_from v 37 2)
    (shr_mod {n = v} 1 39 h)

-- ---- forty bits and five bytes

bytes_joined : (v v₁ v₂ v₃ v₄ b₀ b₁ b₂ b₃ b₄ : ℕ) → v ≡ v₁ * 256 + b₀ → v₁ ≡ v₂ * 256 + b₁ → v₂ ≡ v₃ * 256 + b₂ → v₃ ≡ v₄ * 256 + b₃
    → b₄ ≡ v₄
    → (((b₄ * 256 + b₃) * 256 + b₂) * 256 + b₁) * 256 + b₀ ≡ v
bytes_joined v v₁ v₂ v₃ v₄ b₀ b₁ b₂ b₃ b₄ e₀ e₁ e₂ e₃ e₄ = omega arith

number_of_bytes : (v : ℕ) → v < 2 ^ 40 → number (bytes_of v) ≡ v
number_of_bytes v h =
    bytes_joined _ _ _ _ _ _ _ _ _ _ (sym (split v 8)) (bits_from v 8 8) (bits_from v 16 8) (bits_from v 24 8) (shr_mod {n = v} 8 32 h)

bytes_of_five : (a b c d e : ℕ) → a < 256 → b < 256 → c < 256 → d < 256 → e < 256
    → bytes_of (number (a ∷ b ∷ c ∷ d ∷ e ∷ [])) ≡ a ∷ b ∷ c ∷ d ∷ e ∷ []
bytes_of_five a b c d e ha hb hc hd he = λ i. first i ∷ second i ∷ third i ∷ fourth i ∷ fifth i ∷ []
  where
    first : number (a ∷ b ∷ c ∷ d ∷ e ∷ []) / 2 ^ 32 % 2 ^ 8 ≡ a
    first = omega arith

    second : number (a ∷ b ∷ c ∷ d ∷ e ∷ []) / 2 ^ 24 % 2 ^ 8 ≡ b
    second = omega arith

    third : number (a ∷ b ∷ c ∷ d ∷ e ∷ []) / 2 ^ 16 % 2 ^ 8 ≡ c
    third = omega arith

    fourth : number (a ∷ b ∷ c ∷ d ∷ e ∷ []) / 2 ^ 8 % 2 ^ 8 ≡ d
    fourth = omega arith

    fifth : number (a ∷ b ∷ c ∷ d ∷ e ∷ []) % 2 ^ 8 ≡ e
    fifth = omega arith

-- ---- the line and its five bytes

pub read_packed : (l : Line) → Sized l → line_of (number (bytes_of (forty_bits l))) ≡ l
read_packed l z = ap line_of (number_of_bytes (forty_bits l) (forty_bits_lt l)) ∙ line_of_forty_bits l z

pub packed_read : (b : List ℕ) → length b ≡ 5 → ((i : ℕ) → get_or b i 0 < 256) → bytes_of (forty_bits (line_of (number b))) ≡ b
packed_read [] e h = absurd (omega arith)
packed_read (a ∷ []) e h = absurd (omega arith)
packed_read (a ∷ b ∷ []) e h = absurd (omega arith)
packed_read (a ∷ b ∷ c ∷ []) e h = absurd (omega arith)
packed_read (a ∷ b ∷ c ∷ d ∷ []) e h = absurd (omega arith)
packed_read (a ∷ b ∷ c ∷ d ∷ f ∷ []) e h =
    let small : number (a ∷ b ∷ c ∷ d ∷ f ∷ []) < 2 ^ 40 = omega (arith, h 0, h 1, h 2, h 3, h 4) in
    ap bytes_of (forty_bits_of_line (number (a ∷ b ∷ c ∷ d ∷ f ∷ [])) small) ∙ bytes_of_five a b c d f (h 0) (h 1) (h 2) (h 3) (h 4)
packed_read (a ∷ b ∷ c ∷ d ∷ f ∷ g ∷ r) e h = absurd (omega arith)
