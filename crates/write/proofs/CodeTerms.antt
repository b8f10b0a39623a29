-- The terms of a line in codes are document 01's terms, so that their sum is the line.
use Prim.Native.Nat.{ℕ, zero, suc, ◌+◌, ◌-◌, ◌*◌, ◌<◌}
use mathlib.Core.Path.{◌≡◌, refl, sym, ap, ap₂, subst, ◌∙◌}
use mathlib.Core.Bool.{Bool, false, cond}
use mathlib.Core.List.{List, [], ◌∷◌, map}
use native.Mathlib.Omega.{arith}
use native.Mathlib.Decide.{dec_lt}
use lib.IntN.{ℤ}
use lib.ListN.{length, get_or, take, replicate, length-map, length-replicate}
use lib.Seq.{sets, ext_get_or}
use borrow.Author.Tests.{lt-ltb, le-ltb}
use borrow.Rule.Slice.PartMut.{put_mid, mid_of}
use Rattle.line.specs.declared.Line.{Line}
use Rattle.line.specs.Line.{Kind, splus, sminus, minuss, kind_of}
use Rattle.product.specs.Bit.{Bit, fixed, flip}
use Rattle.product.specs.Lines.{Sum, adder, shifted, fitted, line_sum}
use Rattle.gates.specs.Code.{bit_of, bits_of, flipped_code}
use Rattle.write.specs.Terms.{listed, shifted_code, term_code, shift_of_left, shift_of_right, taken_off, operand_at}
use Rattle.write.specs.Rooms.{CanLine, TermsAre, SumIs}
use Rattle.write.specs.declared.lines.Place.{Place}
use Rattle.product.proofs.At.{fitted_at, shifted_low, shifted_high}
use Rattle.product.proofs.Lengths.{length_fitted}
use Rattle.gates.proofs.Codes.{bit_zero, bit_one, bit_negated, bit_at}
use Rattle.line.proofs.Room.{take_sets, lent}
use Rattle.write.proofs.Tables.{length_listed, listed_at}
use Rattle.write.specs.Sizes.{most_columns}

-- ---- one column

-- entry j of codes with zeros put below, where the codes are some bits below the end
pub shifted_at : (bits : List ℕ) (o : List Bit) (s j end : ℕ) → ((k : ℕ) → k < end → bit_of (get_or bits k 0) ≡ get_or o k (fixed false))
    → j < s + end
    → bit_of (shifted_code bits s j) ≡ get_or (shifted s o) j (fixed false)
shifted_at bits o s j end f h = go (dec_lt j s)
  where
    go : Dec (j < s) → bit_of (shifted_code bits s j) ≡ get_or (shifted s o) j (fixed false)
    go (yes q) = ap (λ (t : Bool). bit_of (cond t 0 (get_or bits (j - s) 0))) (lt-ltb j s q) ∙ (bit_zero ∙ sym (shifted_low s o j q))
    go (no q) =
        let e : s + (j - s) ≡ j = omega arith in
        ap (λ (t : Bool). bit_of (cond t 0 (get_or bits (j - s) 0))) (le-ltb j s (omega arith))
        ∙ (f (j - s) (omega arith) ∙ (sym (shifted_high s o (j - s)) ∙ ap (λ (k : ℕ). get_or (shifted s o) k (fixed false)) e))

own_bits : (bits : List ℕ) (s j : ℕ) → bit_of (shifted_code bits s j) ≡ get_or (shifted s (bits_of bits)) j (fixed false)
own_bits bits s j = shifted_at bits (bits_of bits) s j (j + 1) (λ k h. sym (bit_at bits k)) (omega arith)

flip_at : (bs : List Bit) (j : ℕ) → j < length bs → get_or (map flip bs) j (fixed false) ≡ flip (get_or bs j (fixed false))
flip_at [] j h = absurd (omega arith)
flip_at (b ∷ bs) zero h = refl
flip_at (b ∷ bs) (suc j) h = flip_at bs j (omega arith)

-- ---- all columns

module _ (bits : List ℕ) (s m : ℕ) where
  abbrev Fitted : List Bit
  Fitted = fitted m (shifted s (bits_of bits))

  term_long : (f : ℕ) → length (bits_of (listed (term_code bits s f) m)) ≡ m
  term_long f = length-map (listed (term_code bits s f) m) bit_of ∙ length_listed (term_code bits s f) m

  term_at : (f j : ℕ) → j < m → get_or (bits_of (listed (term_code bits s f) m)) j (fixed false) ≡ bit_of (term_code bits s f j)
  term_at f j h = bit_at (listed (term_code bits s f) m) j ∙ ap bit_of (listed_at (term_code bits s f) m j 0 h)

  plain_term : bits_of (listed (term_code bits s 0) m) ≡ Fitted
  unfolding term_code flipped_code
  plain_term =
      ext_get_or (fixed false) (bits_of (listed (term_code bits s 0) m)) Fitted
      (term_long 0 ∙ sym (length_fitted m (shifted s (bits_of bits))))
      (λ j h.
      let k : j < m = omega (arith, term_long 0) in
      term_at 0 j k ∙ (own_bits bits s j ∙ sym (fitted_at m (shifted s (bits_of bits)) j k)))

  negated_term : bits_of (listed (term_code bits s 1) m) ≡ map flip Fitted
  unfolding term_code flipped_code
  negated_term =
      ext_get_or (fixed false) (bits_of (listed (term_code bits s 1) m)) (map flip Fitted)
      (term_long 1 ∙ sym (length-map Fitted flip ∙ length_fitted m (shifted s (bits_of bits))))
      (λ j h.
      let k : j < m = omega (arith, term_long 1) in
      term_at 1 j k
      ∙ (bit_negated (shifted_code bits s j)
      ∙ (ap flip (own_bits bits s j ∙ sym (fitted_at m (shifted s (bits_of bits)) j k))
      ∙ sym (flip_at Fitted j (omega (arith, length_fitted m (shifted s (bits_of bits))))))))

-- ---- the line

same_sum : {xs xs' ys ys' : List Bit} {c c' : Bit} (n : ℕ) → xs ≡ xs' → ys ≡ ys' → c ≡ c' → adder xs ys c n ≡ adder xs' ys' c' n
same_sum {xs} {xs'} {ys} {ys'} {c} {c'} n p q r = ap₂ (λ (x y : List Bit). adder x y c n) p q ∙ ap (λ (z : Bit). adder xs' ys' z n) r

-- the sum of a line's two terms in codes is the line
line_adds : (k : Kind) (s m next : ℕ) (left right lt rt : List ℕ)
    → lt ≡ listed (term_code left (shift_of_left k s) 0) m → rt ≡ listed (term_code right (shift_of_right k s) (taken_off k)) m
    → adder (bits_of lt) (bits_of rt) (bit_of (taken_off k)) next ≡ line_sum k m (bits_of left) s (bits_of right) next
unfolding line_sum shift_of_left shift_of_right taken_off shifted
line_adds splus s m next left right lt rt el er =
    same_sum next (ap (λ (x : List ℕ). bits_of x) el ∙ plain_term left s m) (ap (λ (x : List ℕ). bits_of x) er ∙ plain_term right 0 m)
    bit_zero
line_adds sminus s m next left right lt rt el er =
    same_sum next (ap (λ (x : List ℕ). bits_of x) el ∙ plain_term left s m) (ap (λ (x : List ℕ). bits_of x) er ∙ negated_term right 0 m)
    bit_one
line_adds minuss s m next left right lt rt el er =
    same_sum next (ap (λ (x : List ℕ). bits_of x) el ∙ plain_term left 0 m) (ap (λ (x : List ℕ). bits_of x) er ∙ negated_term right s m)
    bit_one

-- two arrays hold a line's two terms in their fronts
module _ (l : Line) (m at : ℕ) (from : Place) (scratch lt rt : List ℕ) (f : ℕ) (p : CanLine l m at from scratch)
    (ef : f ≡ taken_off (kind_of l.kind))
    (t : TermsAre l m scratch (replicate most_columns 0) lt (replicate most_columns 0) rt) where
  front : {x : List ℕ} (h : ℕ → ℕ) → x ≡ sets (replicate most_columns 0) 0 (listed h m) → take m x ≡ listed h m
  front h e = ap (λ (x : List ℕ). take m x) e
      ∙ take_sets (replicate most_columns 0) (listed h m) m (length_listed h m)
      (omega (arith, p.columns, length-replicate {A = ℕ} most_columns 0))

  pub line_terms : adder (bits_of (take m lt)) (bits_of (take m rt)) (bit_of f) from.next
      ≡ line_sum (kind_of l.kind) m (bits_of (operand_at scratch l.left)) l.shift (bits_of (operand_at scratch l.right))
      from.next
  line_terms =
      ap (λ (x : ℕ). adder (bits_of (take m lt)) (bits_of (take m rt)) (bit_of x) from.next) ef
      ∙ line_adds (kind_of l.kind) l.shift m from.next (operand_at scratch l.left) (operand_at scratch l.right) (take m lt)
      (take m rt)
      (front _ t.left_is) (front _ t.right_is)

  -- the line from the sum of its terms; its bits were stored in the rest of the scratch room from its place on
  pub line_is : (r : Place) (part : List ℕ) (room room' : List ℤ)
      → SumIs (adder (bits_of (take m lt)) (bits_of (take m rt)) (bit_of f) from.next) from m 0 r
      (mid_of (most_columns * at) (length scratch - most_columns * at) scratch) part room room'
      → SumIs (line_sum (kind_of l.kind) m (bits_of (operand_at scratch l.left)) l.shift (bits_of (operand_at scratch l.right))
      from.next)
      from m (most_columns * at) r scratch (put_mid (most_columns * at) (length scratch - most_columns * at) scratch part) room room'
  line_is r part room room' g =
      subst (λ (s : Sum). SumIs s from m (most_columns * at) r scratch
      (put_mid (most_columns * at) (length scratch - most_columns * at) scratch part) room room')
      line_terms
      (record {
        codes = g.codes;
        bits_are = g.bits_are;
        stored = lent scratch part g.codes (most_columns * at) (omega (arith, p.bits)) g.stored;
        next_is = g.next_is;
        words_are = g.words_are;
        clauses_are = g.clauses_are;
        room_is = g.room_is;
        grows = g.grows;
        words_few = g.words_few;
        clauses_few = g.clauses_few;
      })
