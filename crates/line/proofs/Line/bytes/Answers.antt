-- `line::Line::bytes` meets its contract: each mask is a remainder. Assumes nothing.
use mathlib.Core.Path.{ap, ◌∙◌}
use mathlib.Core.List.{[], ◌∷◌}
use Prim.Native.Nat.{◌/◌, ◌^◌}
use lib.Bits.{and_mask, mask_lt}
use Rattle.line.specs.Line.{bytes_of}
use Rattle.line.proofs.Line.bytes.Goals as goal

pub overflow_cast-result : goal.overflow_cast-result
overflow_cast-result c = record { fits = mask_lt (c.packed-v.result / 2 ^ 32) 8 }

pub overflow_cast-result-2 : goal.overflow_cast-result-2
overflow_cast-result-2 c = record { fits = mask_lt (c.packed-v.result / 2 ^ 24) 8 }

pub overflow_cast-result-3 : goal.overflow_cast-result-3
overflow_cast-result-3 c = record { fits = mask_lt (c.packed-v.result / 2 ^ 16) 8 }

pub overflow_cast-result-4 : goal.overflow_cast-result-4
overflow_cast-result-4 c = record { fits = mask_lt (c.packed-v.result / 2 ^ 8) 8 }

pub overflow_cast-result-5 : goal.overflow_cast-result-5
overflow_cast-result-5 c = record { fits = mask_lt c.packed-v.result 8 }

pub returns : goal.returns
returns c =
    let v = c.packed-v.result in
    (λ i. and_mask (v / 2 ^ 32) 8 i ∷ and_mask (v / 2 ^ 24) 8 i ∷ and_mask (v / 2 ^ 16) 8 i ∷ and_mask (v / 2 ^ 8) 8 i ∷ and_mask v 8 i
    ∷ [])
    ∙ ap bytes_of c.packed-v.ensures.0
