-- The public call: a room that is too short and one that is not. Assumes nothing.
use Rattle.std.specs.Prelude.{Some, None}
use Prim.Native.Nat.{ℕ, ◌≤◌, ◌<◌}
use mathlib.Core.Path.{◌≡◌, sym, ap₂, ◌∙◌}
use mathlib.Core.List.{List}
use native.Mathlib.Omega.{arith}
use lib.ListN.{length}
use lib.Seq.{sets}
use borrow.Author.Tests.{lt-ltb, le-ltb}
use Rattle.wording.specs.Print.{printed, printing, file_room, filed, Files}

module _ (input room : List ℕ) where
  pub short_outcome : length room < file_room → filed input room ≡ printing None room
  unfolding filed
  short_outcome h = rw (lt-ltb (length room) file_room h)

  pub long_outcome : file_room ≤ length room → filed input room ≡ printing (Some (length (printed input))) (sets room 0 (printed input))
  unfolding filed
  long_outcome h = rw (le-ltb (length room) file_room h)

  pub too_short : length room < file_room → Files input room None room
  too_short h = record { left = sym (short_outcome h); within = omega arith }

  pub long_enough : {room' : List ℕ} {n : ℕ} → file_room ≤ length room → n ≡ length (printed input) → n ≤ length room
      → room' ≡ sets room 0 (printed input)
      → Files input room (Some n) room'
  long_enough h p k q = record { left = ap₂ (λ (m : ℕ) (r : List ℕ). printing (Some m) r) p q ∙ sym (long_outcome h); within = k }
