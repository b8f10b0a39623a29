-- Following a split's operands, left and then right, over one set: what each call asks and gives.
use Prim.Native.Nat.{ℕ, suc, ◌-◌, ◌/◌, ◌%◌, ◌≤◌, ◌<◌}
use mathlib.Core.Path.{◌≡◌, sym, ap, ◌∙◌, subst}
use mathlib.Core.Bool.{true, false}
use mathlib.Core.List.{List, [], ◌∷◌, ◌++◌}
use mathlib.Core.Logic.{◌⊎◌, ⊎_elim}
use native.Mathlib.Omega.{arith}
use lib.ListN.{length, take}
use lib.Dec.{leb}
use lib.Pow.{pow_mono}
use lib.Seq.{length-take-le}
use borrow.Author.Tests.{leb-true}
use Rattle.line.specs.Number.{bit_length}
use Rattle.split.specs.Choose.{lines, look}
use Rattle.split.specs.Reach.{Held, add, adds, follow, member, reach, set_by, turn}
use Rattle.split.specs.Split.{kind, left, legal, legal_at, right}
use Rattle.plan.specs.Steps.{Ready, Splits, set_room}
use Rattle.split.proofs.Closed.{held_adds, later, spread}
use Rattle.split.proofs.Reach.{Legal, reach_1, reach_step}
use Rattle.split.proofs.Sets.{add_long, add_monotone, add_new, adds_lacks, adds_monotone, adds_within}
use Rattle.split.proofs.Splits.{Operand, Operands, and₃, operands}
use Rattle.plan.proofs.Rooms.{in_table}

-- a legal split as kind and p
pub splits_of : (s n : ℕ) → 1 < n → n % 2 ≡ 1 → bit_length n < 32 → legal s n ≡ true → Splits (s / 32) (s % 32) n
splits_of s n big odd few ok =
    let t = and₃ (leb 1 (s / 32)) (leb (s / 32) 3) (legal_at (kind s) (s % 32) n) ok in
    record { big = big; odd = odd; few = few; short = omega arith; one = leb-true _ _ t.0; three = leb-true _ _ t.1; is_legal = t.2 }

-- 1, and what the set has, add nothing
pub adds_nothing : (t : ℕ → ℕ) {a : List ℕ} (x : ℕ) → x % 2 ≡ 1 → Held t a → (x < 2) ⊎ (member x a ≡ true) → a ≡ adds (reach t x) a
unfolding adds
adds_nothing t {a} x odd held w = sym (⊎_elim
    (λ small. ap (λ (m : ℕ). adds (reach t m) a) {y = 1} (omega arith) ∙ ap (λ (z : List ℕ). adds z a) (reach_1 t))
    (λ m. adds_within (reach t x) a (held x m))
    w)

-- from an empty set, a walk counts the lines
pub walk_counts : (t : ℕ → ℕ) (s n : ℕ) (b : List ℕ) {k : ℕ} → take k b ≡ adds (follow (reach t) s n) [] → k ≤ length b → k ≡ lines t s n
unfolding lines set_by
walk_counts t s n b {k} w within = sym (length-take-le k b within) ∙ ap (λ (z : List ℕ). length z) w

module _ {l a : List ℕ} {s n : ℕ} (h : Ready l a s n) where
  ops : Operands (kind s) (s % 32) n (left s n) (right s n)
  ops = operands s n h.big h.odd (omega (arith, h.few)) h.is_legal

  pub left_is : {x : ℕ} → x ≡ left s n → Operand n x
  left_is e = subst (λ (z : ℕ). Operand n z) (sym e) ops.left

  pub right_is : {x : ℕ} → x ≡ right s n → Operand n x
  right_is e = subst (λ (z : ℕ). Operand n z) (sym e) ops.right

  module _ {x : ℕ} (o : Operand n x) where
    legal_to : Legal (look l) (suc (turn x))
    legal_to m b d r = h.legals m b d (omega (arith, o.turn))

    fits : bit_length x < 64
    fits = omega (arith, h.few, o.bits)

    pub index_in : x / 2 < length l
    index_in = in_table l x n (omega (arith, o.odd)) o.bits h.long

    holds_on : (base : List ℕ) → Held (look l) base → Held (look l) (adds (reach (look l) x) base)
    holds_on base g = held_adds (look l) x legal_to o.odd fits base g

    unreached : member n (reach (look l) x) ≡ false
    unreached = later (look l) n x legal_to o.odd fits o.turn

    -- a walk from the table's split of x is all that x reaches
    pub reached : 1 < x → {c : ℕ} → c ≡ look l x → (b : List ℕ) {k : List ℕ} → k ≡ adds (follow (reach (look l)) c x) b
        → k ≡ adds (reach (look l) x) b
    reached big e b w = w ∙ ap (λ (z : ℕ). adds (follow (reach (look l)) z x) b) e
        ∙ sym (ap (λ (z : List ℕ). adds z b) (reach_step (look l) x legal_to big o.odd fits))

    -- an operand that is new to a set
    ready : {b : List ℕ} {c : ℕ} → c ≡ look l x → Held (look l) b → (1 < x) × (member x b ≡ false)
        → length (adds (reach (look l) x) b) ≤ set_room → Ready l b c x
    ready {b} e held new room = subst (λ (z : ℕ). Ready l b z x) (sym e) (record {
      big = new.0;
      odd = o.odd;
      few = omega (arith, h.few, o.bits);
      is_legal = h.legals x new.0 o.odd o.turn;
      long = omega (arith, h.long, pow_mono {i = bit_length x - 1} {j = bit_length n - 1} (omega (arith, o.bits)));
      legals = λ m p q r. h.legals m p q (omega (arith, o.turn));
      held = held;
      new = new.1;
      room = subst (λ (z : List ℕ). length (adds z b) ≤ set_room) (reach_step (look l) x legal_to new.0 o.odd fits) room;
    })

  L : List ℕ
  L = reach (look l) (left s n)

  Q : List ℕ
  Q = reach (look l) (right s n)

  both : length (add n (adds Q (adds L a))) ≤ set_room
  unfolding L Q
  both = subst (λ (z : List ℕ). length z ≤ set_room) (spread (look l) s n a) h.room

  pub left_ready : {x c : ℕ} → x ≡ left s n → c ≡ look l x → (1 < x) × (member x a ≡ false) → Ready l a c x
  unfolding L Q
  left_ready e q new = ready (left_is e) q h.held new
      (subst (λ (z : ℕ). length (adds (reach (look l) z) a) ≤ set_room) (sym e)
      (omega (arith, both, adds_monotone Q (adds L a), add_monotone n (adds Q (adds L a)))))

  module _ {x : ℕ} (e : x ≡ left s n) {b : List ℕ} (w : b ≡ adds (reach (look l) x) a) where
    got : b ≡ adds L a
    unfolding L
    got = w ∙ ap (λ (z : ℕ). adds (reach (look l) z) a) e

    pub left_held : Held (look l) b
    left_held = subst (λ (z : List ℕ). Held (look l) z) (sym w) (holds_on (left_is e) a h.held)

    pub right_ready : {y c : ℕ} → y ≡ right s n → c ≡ look l y → (1 < y) × (member y b ≡ false) → Ready l b c y
    unfolding L Q
    right_ready d q new = ready (right_is d) q left_held new
        (subst (λ (z : ℕ). length (adds (reach (look l) z) b) ≤ set_room) (sym d)
        (omega (arith, both, ap (λ (z : List ℕ). length (adds Q z)) got, add_monotone n (adds Q (adds L a)))))

    module _ {y : ℕ} (d : y ≡ right s n) {f : List ℕ} (v : f ≡ adds (reach (look l) y) b) where
      all : f ≡ adds Q (adds L a)
      unfolding Q
      all = v ∙ ap (λ (z : ℕ). adds (reach (look l) z) b) d ∙ ap (λ (z : List ℕ). adds (reach (look l) (right s n)) z) got

      lacks : member n f ≡ false
      lacks = ap (member n) (v ∙ ap (adds (reach (look l) y)) w)
          ∙ adds_lacks n (reach (look l) y) (adds (reach (look l) x) a)
          (adds_lacks n (reach (look l) x) a h.new (unreached (left_is e)))
          (unreached (right_is d))

      pub room_left : length f < set_room
      room_left = omega (arith, both, ap (λ (z : List ℕ). length (add n z)) (sym all) ∙ add_long n f lacks)

      pub walked_through : f ++ (n ∷ []) ≡ adds (follow (reach (look l)) s n) a
      unfolding L Q
      walked_through = sym (add_new n f lacks) ∙ ap (add n) all ∙ sym (spread (look l) s n a)
