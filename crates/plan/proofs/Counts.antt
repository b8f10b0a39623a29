-- A split against the best so far, over any cost, and over tables that are filled before n's turn.
use Prim.Native.Nat.{ℕ, suc, ◌+◌, ◌*◌, ◌/◌, ◌%◌, ◌≤◌, ◌<◌}
use mathlib.Core.Path.{◌≡◌, refl, sym, ap, ◌∙◌, subst, subst₂}
use mathlib.Core.Bool.{Bool, true, false, ◌&&◌, false≢true}
use mathlib.Core.List.{List, []}
use native.Mathlib.Nat.{pos_of_ne-zero}
use native.Mathlib.Omega.{arith}
use borrow.Author.Tests.{lt-leb}
use lib.Dec.{leb}
use lib.ListN.{length}
use Rattle.line.specs.Line.{Kind, kind_of, minuss, sminus, splus}
use Rattle.split.specs.Choose.{Cost, best_below, better, lines, look}
use Rattle.split.specs.Reach.{set_by}
use Rattle.split.specs.Split.{kind, left, left_at, legal, legal_at, right, right_at}
use Rattle.split.specs.declared.Best.{Best}
use Rattle.plan.specs.Steps.{Hopeless, Known, Ready, Splits}
use Rattle.split.proofs.Choose.{as_left, as_legal, as_right, best_skip, better_is, pick_less, pick_more, pick_none}
use Rattle.split.proofs.Sets.{member_none}
use Rattle.split.proofs.Splits.{Operands, operands}
use Rattle.plan.proofs.Above.{hopeless_is}
use Rattle.plan.proofs.Rooms.{in_table}

abbrev best : ℕ → ℕ → Best
best s k = record { split = s; cost = k }

-- ---- a split of the kind j at p against the best so far
module _ {j p n : ℕ} (sp : Splits j p n) where
  abbrev s : ℕ
  s = 32 * j + p

  is_legal : legal s n ≡ true
  is_legal = as_legal j p n sp.one sp.three sp.short ∙ sp.is_legal

  module _ (cost : Cost) (t : ℕ → ℕ) where
    pub found_first : (b : Best) (c : ℕ) → b.split ≡ 0 → c ≡ cost t s n → best s c ≡ better cost t n s b
    found_first b c z e = sym (better_is cost t n s b is_legal ∙ pick_none s (cost t s n) b z ∙ ap (best s) (sym e))

    pub found_less : (b : Best) (c : ℕ) → (b.split ≡ 0 → ⊥) → c ≡ cost t s n → c < b.cost → best s c ≡ better cost t n s b
    found_less b c z e less =
        sym (better_is cost t n s b is_legal ∙ pick_less s (cost t s n) b (pos_of_ne-zero z) (omega arith) ∙ ap (best s) (sym e))

    pub found_no_less : (b : Best) → (b.split ≡ 0 → ⊥) → b.cost ≤ cost t s n → b ≡ better cost t n s b
    found_no_less b z le = sym (better_is cost t n s b is_legal ∙ pick_more s (cost t s n) b (pos_of_ne-zero z) le)

  module _ {l k : List ℕ} (h : Known l k n) where
    ops : Operands (kind s) (s % 32) n (left s n) (right s n)
    ops = operands s n h.big h.odd (omega (arith, h.few)) is_legal

    pub walk_asks : Ready l [] s n
    unfolding lines set_by
    walk_asks = record {
      big = h.big;
      odd = h.odd;
      few = h.few;
      is_legal = is_legal;
      long = h.long;
      legals = h.legals;
      held = λ x m. absurd (false≢true (sym (member_none x) ∙ m));
      new = member_none n;
      room = h.room s is_legal;
    }

    -- the operands x and y as they were found
    module _ {x y : ℕ} (d : x ≡ left_at (kind_of j) p n) (e : y ≡ right_at (kind_of j) p n) where
      left_is : x ≡ left s n
      left_is = d ∙ as_left j p n sp.short

      right_is : y ≡ right s n
      right_is = e ∙ as_right j p n sp.short

      pub hopeless_asks : (x / 2 < length k) × (y / 2 < length k)
      hopeless_asks =
          let o = ops in (
            subst (λ (z : ℕ). z / 2 < length k) (sym left_is) (in_table k (left s n) n (omega (arith, o.left.odd)) o.left.bits
                h.wide),
            subst (λ (z : ℕ). z / 2 < length k) (sym right_is)
                (in_table k (right s n) n (omega (arith, o.right.odd)) o.right.bits h.wide),
          )

      -- what the counts show
      pub is_hopeless : (b : Best) → (b.split ≡ 0 → ⊥) → Hopeless x (look k x) y (look k y) b.cost → b ≡ better lines (look l) n s b
      is_hopeless b z q =
          let o = ops in
          let here = subst₂ (λ (u v : ℕ). Hopeless u (look k u) v (look k v) b.cost) left_is right_is q in
          found_no_less lines (look l) b z (hopeless_is (look l) s n h.legals h.big h.odd h.few is_legal
          (subst₂ (λ (a c : ℕ). Hopeless (left s n) a (right s n) c b.cost) (h.counted (left s n) o.left.odd o.left.turn)
          (h.counted (right s n) o.right.odd o.right.turn) here))

-- ---- from kind to kind, and from place to place
module _ (cost : Cost) (t : ℕ → ℕ) (n : ℕ) where
  -- a kind starts with p = 0, which is none
  pub first_place : (k : ℕ) → 1 ≤ k → k ≤ 3 → best_below cost t n (32 * k + 1) ≡ best_below cost t n (32 * k)
  unfolding legal_at
  first_place k one three = best_skip cost t n (32 * k) (32 * k + 1) (omega arith)
      (λ r lo hi. ap (λ (x : ℕ). legal x n) {x = r} {y = 32 * k + 0} (omega arith) ∙ as_legal k 0 n one three (omega arith)
      ∙ none_at (kind_of k) n)
    where
      none_at : (k : Kind) (n : ℕ) → legal_at k 0 n ≡ false
      none_at splus n = refl
      none_at sminus n = refl
      none_at minuss n = refl

  -- there is no kind 0
  pub none_first : best_below cost t n 32 ≡ record { split = 0; cost = 0 }
  unfolding best_below
  none_first = best_skip cost t n 0 32 (omega arith)
      (λ r lo hi. ap (λ (b : Bool). b && leb (r / 32) 3 && legal_at (kind r) (r % 32) n) (lt-leb 1 (r / 32) (omega arith)))

  -- the best of the splits below s, and at s
  pub best_next : (k p : ℕ) → best_below cost t n (32 * k + (p + 1)) ≡ better cost t n (32 * k + p) (best_below cost t n (32 * k + p))
  unfolding best_below
  best_next k p = ap (λ (z : ℕ). best_below cost t n z) {x = 32 * k + (p + 1)} {y = suc (32 * k + p)} (omega arith)
