-- The bytes of lines, one after the other.
use Prim.Native.Nat.{ℕ, zero, suc, ◌+◌, ◌*◌, ◌/◌, ◌%◌, ◌≤◌, ◌<◌}
use mathlib.Core.Path.{◌≡◌, refl, sym, ap, ◌∙◌}
use mathlib.Core.List.{List, [], ◌∷◌, ◌++◌, map, append_assoc, append-nil}
use native.Mathlib.Omega.{arith}
use lib.ListN.{length, take, drop, get_or}
use lib.Seq.{drop-drop, sets, sets-eq}
use borrow.Rule.Slice.PartMut.{put_mid}
use Rattle.line.specs.Limits.{line_bytes}
use Rattle.line.specs.Line.{bytes_of, forty_bits}
use Rattle.line.specs.declared.Line.{Line}
use Rattle.line.proofs.Room.{sets_append}
use Rattle.split.specs.Choose.{look}
use Rattle.split.specs.Order.{line_for, lines_bytes, operand}
use Rattle.split.specs.Split.{left, right}
use Rattle.plan.proofs.Rooms.{take_next}

pub bytes_length : (ls : List Line) → length (lines_bytes ls) ≡ line_bytes * length ls
unfolding lines_bytes
bytes_length [] = refl
bytes_length (l ∷ ls) = omega (arith, bytes_length ls)

module _ (f : ℕ → Line) where
  bytes_snoc : (xs : List ℕ) (x : ℕ) → lines_bytes (map f (xs ++ (x ∷ []))) ≡ lines_bytes (map f xs) ++ bytes_of (forty_bits (f x))
  unfolding lines_bytes
  bytes_snoc [] x = append-nil (bytes_of (forty_bits (f x)))
  bytes_snoc (y ∷ xs) x = ap (λ (z : List ℕ). bytes_of (forty_bits (f y)) ++ z) (bytes_snoc xs x)
      ∙ sym (append_assoc (bytes_of (forty_bits (f y))) (lines_bytes (map f xs)) (bytes_of (forty_bits (f x))))

  pub map_length : (xs : List ℕ) → length (map f xs) ≡ length xs
  map_length [] = refl
  map_length (x ∷ xs) = ap suc (map_length xs)

  -- the bytes of a line, from its own place
  pub line_bytes_at : (xs : List ℕ) (i : ℕ) → i < length xs → take 5 (drop (i * 5) (lines_bytes (map f xs)))
      ≡ bytes_of (forty_bits (f (get_or xs i 0)))
  unfolding lines_bytes
  line_bytes_at [] i h = absurd (omega arith)
  line_bytes_at (x ∷ xs) zero h = refl
  line_bytes_at (x ∷ xs) (suc i) h =
      ap (λ (k : ℕ). take 5 (drop k (lines_bytes (map f (x ∷ xs))))) {x = suc i * 5} {y = suc (suc (suc (suc (suc (i * 5)))))} (omega arith)
      ∙ line_bytes_at xs i (omega arith)

  -- one line more, behind those that were stored
  pub lines_next : (l room₀ : List ℕ) (i : ℕ) → i < length l → length (take i l) ≡ i
      → sets (sets room₀ 0 (lines_bytes (map f (take i l)))) (line_bytes * i) (bytes_of (forty_bits (f (get_or l i 0))))
      ≡ sets room₀ 0 (lines_bytes (map f (take (i + 1) l)))
  lines_next l room₀ i h k =
      let B = lines_bytes (map f (take i l)) in
      let w = bytes_of (forty_bits (f (get_or l i 0))) in
      let n : line_bytes * i ≡ 0 + length B = omega (arith, bytes_length (map f (take i l)), map_length (take i l), k) in
      ap (λ (j : ℕ). sets (sets room₀ 0 B) j w) n
      ∙ sets_append B w room₀ 0
      ∙ ap (sets room₀ 0) (sym (bytes_snoc (take i l) (get_or l i 0)) ∙ ap (λ (z : List ℕ). lines_bytes (map f z)) (sym (take_next l i h)))

-- no line
pub lines_none : (f : ℕ → Line) (room : List ℕ) → room ≡ sets room 0 (lines_bytes (map f []))
unfolding lines_bytes
lines_none f room = refl

-- a part of a room that was copied over
pub stored : (l ws : List ℕ) (at k : ℕ) → k ≡ length ws → at + length ws ≤ length l → put_mid at k l ws ≡ sets l at ws
stored l ws at k e h = sym (sets-eq ws l at h ∙ append_assoc (take at l) ws (drop (at + length ws) l)
    ∙ ap (λ (z : List ℕ). take at l ++ (ws ++ z)) (ap (λ (n : ℕ). drop (at + n) l) (sym e) ∙ sym (drop-drop k at l)))

-- a line by the byte that was read, and by the operands that were found
pub line_is : (l ks : List ℕ) (x : ℕ) {c u a v b : ℕ} → c ≡ look l x → u ≡ left c x → a ≡ operand u ks → v ≡ right c x → b ≡ operand v ks
    → record { top = 0; kind = c / 32; left = a; shift = c % 32; right = b; coefficient = x } ≡ line_for (look l) ks x
unfolding line_for
line_is l ks x {c} {u} {a} {v} {b} e d f g h =
    let T : ℕ = look l x in
    let ea : a ≡ operand (left T x) ks = f ∙ ap (λ (z : ℕ). operand z ks) (d ∙ ap (λ (z : ℕ). left z x) e) in
    let eb : b ≡ operand (right T x) ks = h ∙ ap (λ (z : ℕ). operand z ks) (g ∙ ap (λ (z : ℕ). right z x) e) in
    λ i. record { top = 0; kind = e i / 32; left = ea i; shift = e i % 32; right = eb i; coefficient = x }
