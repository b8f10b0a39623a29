-- Writes into a room, one behind the other: together they are one write. Assumes nothing.
use mathlib.Core.Path.{◌≡◌, refl, ap, ap₂, ◌∙◌, sym}
use mathlib.Core.List.{List, [], ◌++◌}
use Prim.Native.Nat.{ℕ, ◌+◌, ◌≤◌}
use native.Mathlib.Nat.{add-zero}
use native.Mathlib.Omega.{arith}
use lib.ListN.{length, length-append, take, drop}
use lib.Seq.{sets, sets-eq}
use borrow.Rule.Slice.PartMut.{put_mid}
use Rattle.std.proofs.Common.{append_assoc}
use Rattle.std.proofs.lemmas.List.{drop-drop, take-append-drop}
use Rattle.line.proofs.Room.{sets_append}
use Rattle.dimacs.specs.declared.put.Out.{Out}
use Rattle.dimacs.specs.Puts.{Puts}

-- bytes between what stood before and behind them
between : (s b : List ℕ) (a : ℕ) → a + length b ≤ length s → take a s ++ (b ++ drop (a + length b) s) ≡ sets s a b
between s b a h = sym (sets-eq b s a h ∙ append_assoc (take a s) b (drop (a + length b) s))

-- bytes that were copied into a part of the room
pub copied : (s b : List ℕ) (a k : ℕ) → k ≡ length b → a + k ≤ length s → put_mid a k s b ≡ sets s a b
copied s b a k e h = rw e (ap (λ r. take a s ++ (b ++ r)) (drop-drop (length b) a s) ∙ between s b a (omega arith))

-- digits that were put so that they end at e, what stood before and behind them left
pub put_to_end : (s t b : List ℕ) (a r e : ℕ) → r + length b ≡ e → e ≡ a + length b → e ≤ length s
    → drop r t ≡ b ++ drop e s → take r t ≡ take r s → t ≡ sets s a b
put_to_end s t b a r e p q h w u =
    let i : r ≡ a = omega arith in
    sym (take-append-drop r t) ∙ ap₂ (λ (x y : List ℕ). x ++ y) u w ∙ rw (i, q) (between s b a (omega arith))

-- nothing was written
pub puts_none : (s : Out) → s.at ≤ length s.room.now → Puts s s []
puts_none s h = record {
  same_room = refl;
  same_length = refl;
  put = record { ends = sym (add-zero s.at); room = refl; fits = h };
}

-- a write behind a write is a write of both
pub puts_two : {s t u : Out} {b c : List ℕ} → Puts s t b → Puts t u c → Puts s u (b ++ c)
puts_two {s} {t} {u} {b} {c} x y = record {
  same_room = y.same_room ∙ x.same_room;
  same_length = y.same_length ∙ x.same_length;
  put = record {
    ends = simp length-append (omega (arith, x.put.ends, y.put.ends));
    room = y.put.room ∙ ap₂ (λ (l : List ℕ) (n : ℕ). sets l n c) x.put.room x.put.ends ∙ sets_append b c s.room.now s.at;
    fits = omega (arith, x.same_length, y.put.fits);
  };
}
