-- The program: it lends a buffer of ten bytes and a room of 262,144, and hands on the bytes that the answer counts. Whatever its input,
-- these are what document 01 prints; ten bytes are enough, since a longer input is malformed as its first ten are. Assumes nothing.
use Rattle.std.specs.Prelude.{Some, None}
use Prim.Native.Nat.{ℕ, ◌≤◌, ◌<◌}
use mathlib.Core.Path.{◌≡◌, refl, sym, ap, ◌∙◌}
use mathlib.Core.List.{List, [], ◌∷◌, ◌++◌}
use native.Mathlib.Decide.{dec_le}
use native.Mathlib.Omega.{arith}
use lib.ListN.{length, take, length-append}
use lib.Seq.{sets, length-sets, take_all, length-take-le}
use Rattle.line.proofs.Room.{take_sets}
use Rattle.split.specs.Choose.{split_of}
use Rattle.wording.specs.Request.{asked, Says}
use Rattle.wording.specs.Decimal.{decimal}
use Rattle.wording.specs.Print.{answered, printed_by, printed, Printing, file_room, bytes_counted, Files}
use Rattle.wording.specs.Request.{Request}
use Rattle.wording.specs.Print.{Printed}
use Rattle.wording.proofs.Filed.{short_outcome, long_outcome}
use Rattle.wording.proofs.ReadsBack.{digits_below, asked_back}
use Rattle.wording.proofs.Says.{asked_when, when_asked}

-- ---- the bytes that are handed on

pub handed_on : (input room : List ℕ) {room' : List ℕ} {a : Printed} {n : ℕ} → Files input room a room' → a ≡ Some n
    → (n ≤ length room') × (take n room' ≡ printed input)
handed_on input room {room'} {a} {n} f counted =
    elim (dec_le file_room (length room)) [
      | yes h ↦
          let b = printed input in
          let o = f.left ∙ long_outcome input room h in
          let e : n ≡ length b = sym (ap bytes_counted counted) ∙ ap (λ (p : Printing). bytes_counted p.answer) o in
          let r : room' ≡ sets room 0 b = ap (λ (p : Printing). p.room) o in
          let k : n ≤ length room = omega (arith, f.within, ap bytes_counted counted) in
          rw r (omega (arith, k, length-sets room 0 b), take_sets room b n (sym e) k)
      | no h ↦
          let o = f.left ∙ short_outcome input room (omega arith) in
          let q = sym counted ∙ ap (λ (p : Printing). p.answer) o in
          let z : ◌≡◌ {A = ℕ} 0 1 = cc in
          absurd (omega arith)
    ]

-- ---- the buffer

long_malformed : (s : List ℕ) → 9 < length s → asked s ≡ None
long_malformed s h = by_answer (asked s) refl
  where
    by_answer : (r : Request) → asked s ≡ r → r ≡ None
    by_answer None e = refl
    by_answer (Some (c, w)) e =
        let k = asked_when s c w e in
        let l = ap length k.text in
        absurd (omega (
          arith,
          l,
          length-append k.constant_digits (32 ∷ (k.width_digits ++ (10 ∷ []))),
          length-append k.width_digits (10 ∷ []),
          k.few,
        ))

pub ten_bytes : (input : List ℕ) → printed (take 10 input) ≡ printed input
unfolding printed printed_by
ten_bytes input =
    elim (dec_le (length input) 10) [
      | yes h ↦ ap printed (take_all 10 input h)
      | no h ↦ ap (answered split_of)
          (long_malformed (take 10 input) (omega (arith, length-take-le 10 input (omega arith))) ∙ sym (long_malformed input (omega arith)))
    ]

-- ---- leading zeros are taken, and printed without: a request is answered as its numbers without them are

pub zeros_dropped : (s : List ℕ) (c w : ℕ) → Says s c w → printed s ≡ printed (decimal c ++ (32 ∷ (decimal w ++ (10 ∷ []))))
unfolding printed printed_by
zeros_dropped s c w h =
    let hc : c < 100000 = omega (arith, h.constant, digits_below h.constant_digits 5 h.digits.0 h.few.0) in
    let hw : w < 100 = omega (arith, h.width, digits_below h.width_digits 2 h.digits.1 h.few.1) in
    ap (answered split_of) (when_asked s c w h ∙ sym (asked_back c w hc hw))
