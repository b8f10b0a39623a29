-- What a number reaches depends on the lookup at earlier numbers alone, and on no fuel past its turn.
use Prim.Native.Nat.{ℕ, zero, suc, ◌%◌, ◌≤◌, ◌<◌}
use mathlib.Core.Path.{◌≡◌, refl, sym, ap, ap₂, ◌∙◌}
use mathlib.Core.Bool.{true}
use mathlib.Core.List.{List, [], ◌∷◌, ◌++◌}
use mathlib.Core.Logic.{◌⊎◌, inl, inr, ⊎_elim}
use native.Mathlib.Nat.{le_refl, eq-or-lt_of_le, two-pow-succ, lt_of_not-le, le_of_suc-le-suc}
use lib.Pow.{pow_mono}
use native.Mathlib.Omega.{arith}
use lib.ListN.{length}
use borrow.Author.Tests.{lt-ltb, le-ltb}
use Rattle.line.specs.Number.{bit_length}
use Rattle.split.specs.Split.{kind, left, right, legal}
use Rattle.split.specs.Reach.{turn, follow, reach_by, fuel, reach, set_by, adds}
use Rattle.split.specs.Choose.{Cost, lines}
use Rattle.line.proofs.Number.{bits_lt}
use Rattle.split.proofs.Splits.{Operands, operands}

-- a lookup has legal splits, and two lookups agree, at the odd numbers above 1 whose turn is below R
abbrev pub Legal : (ℕ → ℕ) → ℕ → Type 0
Legal t R = (m : ℕ) → 1 < m → m % 2 ≡ 1 → turn m < R → legal (t m) m ≡ true

abbrev pub Agree : (ℕ → ℕ) → (ℕ → ℕ) → ℕ → Type 0
Agree t u R = (m : ℕ) → 1 < m → m % 2 ≡ 1 → turn m < R → t m ≡ u m

pub turn_pos : (n : ℕ) → 0 < turn n
unfolding turn
turn_pos n = omega (arith, bits_lt n)

pub turn_bits : (m n : ℕ) → turn m ≤ turn n → bit_length m ≤ bit_length n
unfolding turn
turn_bits m n k = le_of_suc-le-suc (lt_of_not-le (λ g. omega
    (arith, bits_lt m, bits_lt n, two-pow-succ (bit_length n), pow_mono {i = suc (bit_length n)} {j = bit_length m} g)))

reach_one : (f : ℕ) (t : ℕ → ℕ) (n : ℕ) → n < 2 → reach_by f t n ≡ []
unfolding reach_by
reach_one zero t n h = refl
reach_one (suc f) t n h = rw (lt-ltb n 2 h, reach_by)

reach_more : (f : ℕ) (t : ℕ → ℕ) (n : ℕ) → 2 ≤ n → reach_by (suc f) t n ≡ follow (reach_by f t) (t n) n
unfolding reach_by
reach_more f t n h = rw (le-ltb n 2 h, reach_by)

follow_cong : (r q : ℕ → List ℕ) (s n : ℕ) → r (left s n) ≡ q (left s n) → r (right s n) ≡ q (right s n) → follow r s n ≡ follow q s n
unfolding follow
follow_cong r q s n d e = ap₂ (λ (a b : List ℕ). a ++ (b ++ (n ∷ []))) d e

pub odd_case : (n : ℕ) → n % 2 ≡ 1 → (n ≡ 1) ⊎ (1 < n)
odd_case n odd = ⊎_elim (λ e. inl (sym e)) (λ h. inr h) (eq-or-lt_of_le {n = 1} {m = n} (omega arith))

same : (R : ℕ) (t u : ℕ → ℕ) → Legal t R → Agree t u R → (f g n : ℕ) → n % 2 ≡ 1 → bit_length n < 64 → turn n < R → turn n ≤ f → turn n ≤ g
    → reach_by f t n ≡ reach_by g u n
same R t u ok ag zero g n odd fits lt hf hg = absurd (omega (arith, turn_pos n))
same R t u ok ag (suc f) zero n odd fits lt hf hg = absurd (omega (arith, turn_pos n))
same R t u ok ag (suc f) (suc g) n odd fits lt hf hg = ⊎_elim
    (λ e. reach_one (suc f) t n (omega arith) ∙ sym (reach_one (suc g) u n (omega arith)))
    (λ big.
    let o : Operands (kind (t n)) (t n % 32) n (left (t n) n) (right (t n) n) = operands (t n) n big odd fits (ok n big odd lt) in
    reach_more f t n big
    ∙ follow_cong (reach_by f t) (reach_by g u) (t n) n
    (same R t u ok ag f g (left (t n) n) o.left.odd (omega arith) (omega arith) (omega arith) (omega arith))
    (same R t u ok ag f g (right (t n) n) o.right.odd (omega arith) (omega arith) (omega arith) (omega arith))
    ∙ ap (λ (s : ℕ). follow (reach_by g u) s n) (ag n big odd lt)
    ∙ sym (reach_more g u n big))
    (odd_case n odd)

pub turn_fuel : (n : ℕ) → turn n ≤ fuel n
unfolding turn fuel
turn_fuel n = omega arith

-- a lookup and what agrees with it before R reach the same
pub reach_cong : (R : ℕ) (t u : ℕ → ℕ) → Legal t R → Agree t u R → (n : ℕ) → n % 2 ≡ 1 → bit_length n < 64 → turn n < R
    → reach t n ≡ reach u n
unfolding reach
reach_cong R t u ok ag n odd fits lt = same R t u ok ag (fuel n) (fuel n) n odd fits lt (turn_fuel n) (turn_fuel n)

pub reach_1 : (t : ℕ → ℕ) → reach t 1 ≡ []
unfolding reach
reach_1 t = reach_one (fuel 1) t 1 (omega arith)

-- the recursion: n's operands' own, and n
pub reach_step : (t : ℕ → ℕ) (n : ℕ) → Legal t (suc (turn n)) → 1 < n → n % 2 ≡ 1 → bit_length n < 64 → reach t n ≡ follow (reach t) (t n) n
unfolding reach
reach_step t n ok big odd fits =
    let o : Operands (kind (t n)) (t n % 32) n (left (t n) n) (right (t n) n) =
    operands (t n) n big odd fits (ok n big odd (le_refl (suc (turn n)))) in
    let R : ℕ = suc (turn n) in
    let F : ℕ = fuel n in
    let rf : turn n ≤ F = turn_fuel n in
    same R t t ok (λ m b o l. refl) F (suc F) n odd fits (le_refl R) rf (omega arith)
    ∙ reach_more F t n big
    ∙ follow_cong (reach_by F t) (λ m. reach_by (fuel m) t m) (t n) n
    (same R t t ok (λ m b o l. refl) F (fuel (left (t n) n)) (left (t n) n) o.left.odd (omega arith) (omega arith) (omega arith)
    (turn_fuel (left (t n) n)))
    (same R t t ok (λ m b o l. refl) F (fuel (right (t n) n)) (right (t n) n) o.right.odd (omega arith) (omega arith) (omega arith)
    (turn_fuel (right (t n) n)))

-- ---- costs

-- a cost that depends on the lookup at earlier numbers alone
abbrev pub Depends : Cost → Type 0
Depends cost = (t u : ℕ → ℕ) (n : ℕ) → Legal t (turn n) → Agree t u (turn n) → 1 < n → n % 2 ≡ 1 → bit_length n < 64
    → (s : ℕ) → legal s n ≡ true → cost t s n ≡ cost u s n

pub lines_depend : Depends lines
unfolding lines set_by
lines_depend t u n ok ag big odd fits s e =
    let o : Operands (kind s) (s % 32) n (left s n) (right s n) = operands s n big odd fits e in
    ap (λ (l : List ℕ). length (adds l []))
    (follow_cong (reach t) (reach u) s n
    (reach_cong (turn n) t u ok ag (left s n) o.left.odd (omega arith) (omega arith))
    (reach_cong (turn n) t u ok ag (right s n) o.right.odd (omega arith) (omega arith)))
