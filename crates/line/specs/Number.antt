-- Numbers: their binary digits, and c = d * 2^t with d odd.
use Rattle.std.specs.Prelude.{ℕ, zero, suc, ◌/◌, ◌%◌, ◌^◌, true, false, eqb}

-- the binary digits of v, if it has at most f
unfoldable pub digits_by : ℕ → ℕ → ℕ
digits_by zero v = zero
digits_by (suc f) zero = zero
digits_by (suc f) (suc v) = suc (digits_by f (suc v / 2))

-- "bit length": the number of binary digits of v, which has no more than v
unfoldable pub bit_length : ℕ → ℕ
bit_length v = digits_by v v

-- how often v can be halved, if that is at most f times
unfoldable pub halvings_by : ℕ → ℕ → ℕ
halvings_by zero v = 0
halvings_by (suc f) v = elim (eqb (v % 2) 0) [ true ↦ suc (halvings_by f (v / 2)) | false ↦ 0 ]

-- t of c = d * 2^t
unfoldable pub twos : ℕ → ℕ
twos c = halvings_by c c

-- d of c = d * 2^t
unfoldable pub odd_part : ℕ → ℕ
odd_part c = c / 2 ^ twos c
