-- What a number reaches holds the operands of its members and all that they reach; nothing in it comes later than the number, or has more
-- bits.
use Prim.Native.Nat.{ℕ, zero, suc, ◌%◌, ◌≤◌, ◌<◌}
use mathlib.Core.Path.{◌≡◌, refl, sym, ap, ◌∙◌, subst}
use mathlib.Core.Bool.{true, false, false≢true}
use mathlib.Core.List.{List, [], ◌∷◌, ◌++◌}
use mathlib.Core.Logic.{◌⊎◌, inl, inr, ⊎_elim}
use native.Mathlib.Nat.{le_refl}
use native.Mathlib.Omega.{arith}
use Rattle.line.specs.Number.{bit_length}
use Rattle.split.specs.Split.{kind, left, right, legal}
use Rattle.split.specs.Order.{rank}
use Rattle.split.specs.Reach.{turn, follow, reach, member, add, adds, set_of, Held}
use Rattle.split.proofs.Splits.{Operand, Operands, operands}
use Rattle.split.proofs.Sets.{bool, member_none, member_left, member_last, member_other, member_right, member_both, adds_append}
use Rattle.split.proofs.Sets.{adds_one, adds_keeps, adds_has, adds_from, Within}
use Rattle.split.proofs.Reach.{Legal, turn_pos, turn_bits, odd_case, reach_1, reach_step}

unfoldable pub Has : ℕ → List ℕ → Type 0
Has y xs = (y ≡ 1) ⊎ (member y xs ≡ true)

pub record Closed (t : ℕ → ℕ) (n : ℕ) (xs : List ℕ) : Type 0 where
  pub member : (x : ℕ) → member x xs ≡ true → (1 < x) × (x % 2 ≡ 1) × (turn x ≤ turn n) × Has (left (t x) x) xs × Has (right (t x) x) xs

wider : (y : ℕ) (us vs : List ℕ) → Within us vs → Has y us → Has y vs
unfolding Has
wider y us vs f (inl e) = inl e
wider y us vs f (inr m) = inr (f y m)

pub reach_self : (t : ℕ → ℕ) (n : ℕ) → Legal t (suc (turn n)) → n % 2 ≡ 1 → bit_length n < 64 → Has n (reach t n)
unfolding Has follow
reach_self t n ok odd fits = ⊎_elim
    (λ e. inl e)
    (λ big. inr (ap (member n) (reach_step t n ok big odd fits)
    ∙ member_right n (reach t (left (t n) n)) (reach t (right (t n) n) ++ (n ∷ [])) (member_last n (reach t (right (t n) n)))))
    (odd_case n odd)

-- a number above 1 that is reached: its operands are reached with it, or are 1
record Here (t : ℕ → ℕ) (n : ℕ) : Type 0 where
  big : 1 < n
  odd : n % 2 ≡ 1
  has_left : Has (left (t n) n) (reach t n)
  has_right : Has (right (t n) n) (reach t n)

-- what holds of each number itself, and goes on from an operand to the number, holds of all that a number reaches
module _ (t : ℕ → ℕ) (P : ℕ → ℕ → Type 0) (here : (n : ℕ) → Here t n → P n n)
    (on : (n m x : ℕ) → Operand n m → Within (reach t m) (reach t n) → P m x → P n x) where
  along : (f n : ℕ) → turn n ≤ f → Legal t (suc (turn n)) → n % 2 ≡ 1 → bit_length n < 64 → (x : ℕ) → member x (reach t n) ≡ true → P n x
  unfolding follow
  along zero n h ok odd fits x m = absurd (omega (arith, turn_pos n))
  along (suc f) n h ok odd fits x m = ⊎_elim
      (λ e. absurd (false≢true (sym (member_none x) ∙ sym (ap (member x) (ap (reach t) e ∙ reach_1 t)) ∙ m)))
      (λ big.
      let l : ℕ = left (t n) n in
      let r : ℕ = right (t n) n in
      let o : Operands (kind (t n)) (t n % 32) n l r = operands (t n) n big odd fits (ok n big odd (le_refl (suc (turn n)))) in
      let L : List ℕ = reach t l in
      let R : List ℕ = reach t r in
      let is : reach t n ≡ L ++ (R ++ (n ∷ [])) = reach_step t n ok big odd fits in
      let from_left : Within L (reach t n) = λ y q. ap (member y) is ∙ member_left y L (R ++ (n ∷ [])) q in
      let from_right : Within R (reach t n) = λ y q. ap (member y) is ∙ member_right y L (R ++ (n ∷ [])) (member_left y R (n ∷ []) q) in
      let ok_to : (m : ℕ) → Operand n m → Legal t (suc (turn m)) = λ m p j b d q. ok j b d (omega (arith, p.turn)) in
      let itself : Here t n = record {
        big = big;
        odd = odd;
        has_left = wider l L (reach t n) from_left (reach_self t l (ok_to l o.left) o.left.odd (omega (arith, o.left.bits)));
        has_right = wider r R (reach t n) from_right (reach_self t r (ok_to r o.right) o.right.odd (omega (arith, o.right.bits)));
      } in
      let down : (m : ℕ) → Operand n m → Within (reach t m) (reach t n) → member x (reach t m) ≡ true → P n x =
      λ m p w q. on n m x p w (along f m (omega (arith, p.turn)) (ok_to m p) p.odd (omega (arith, p.bits)) x q) in
      ⊎_elim (down l o.left from_left)
      (λ b. ⊎_elim (down r o.right from_right) (λ e. subst (P n) (sym e) (here n itself)) (member_other x n R b))
      (member_both x L (R ++ (n ∷ [])) (sym (ap (member x) is) ∙ m)))
      (odd_case n odd)

pub reach_closed : (t : ℕ → ℕ) (n : ℕ) → Legal t (suc (turn n)) → n % 2 ≡ 1 → bit_length n < 64 → Closed t n (reach t n)
reach_closed t n ok odd fits = record {
  member = along t (λ m x. (1 < x) × (x % 2 ≡ 1) × (turn x ≤ turn m) × Has (left (t x) x) (reach t m) × Has (right (t x) x) (reach t m))
      (λ m h. (h.big, h.odd, le_refl (turn m), h.has_left, h.has_right))
      (λ m k x o w g. (
        g.0,
        g.1,
        omega (arith, o.turn, g.2),
        wider (left (t x) x) (reach t k) (reach t m) w g.3,
        wider (right (t x) x) (reach t k) (reach t m) w g.4,
      ))
      (turn n) n (le_refl (turn n)) ok odd fits;
}

-- ---- sets whose coefficients can all be lines

-- x is odd, above 1 and of at most L bits, its split is legal, and each operand is in the set or 1
pub record CanLine (t : ℕ → ℕ) (L : ℕ) (set : List ℕ) (x : ℕ) : Type 0 where
  pub big : 1 < x
  pub odd : x % 2 ≡ 1
  pub few : bit_length x ≤ L
  pub is_legal : legal (t x) x ≡ true
  pub has_left : Has (left (t x) x) set
  pub has_right : Has (right (t x) x) set

abbrev pub Lined : (ℕ → ℕ) → ℕ → List ℕ → Type 0
Lined t L set = (x : ℕ) → member x set ≡ true → CanLine t L set x

-- an odd number of at most L bits, from which every split is legal
pub record Root (t : ℕ → ℕ) (L n : ℕ) : Type 0 where
  pub odd : n % 2 ≡ 1
  pub few : bit_length n ≤ L
  pub legals : Legal t (suc (turn n))

can_wider : (t : ℕ → ℕ) (L : ℕ) (us vs : List ℕ) → Within us vs → (x : ℕ) → CanLine t L us x → CanLine t L vs x
can_wider t L us vs w x c = record {
  big = c.big;
  odd = c.odd;
  few = c.few;
  is_legal = c.is_legal;
  has_left = wider (left (t x) x) us vs w c.has_left;
  has_right = wider (right (t x) x) us vs w c.has_right;
}

module _ (t : ℕ → ℕ) (L : ℕ) (small : L < 64) where
  reach_lined : (n : ℕ) → Root t L n → Lined t L (reach t n)
  reach_lined n r x m =
      let g = (reach_closed t n r.legals r.odd (omega (arith, r.few))).member x m in
      record {
        big = g.0;
        odd = g.1;
        few = omega (arith, r.few, turn_bits x n g.2);
        is_legal = r.legals x g.0 g.1 (omega (arith, g.2));
        has_left = g.3;
        has_right = g.4;
      }

  -- with what a root reaches a set stays so
  adds_lined : (n : ℕ) → Root t L n → (base : List ℕ) → Lined t L base → Lined t L (adds (reach t n) base)
  adds_lined n r base h x m = ⊎_elim
      (λ a. can_wider t L base (adds (reach t n) base) (adds_keeps (reach t n) base) x (h x a))
      (λ a. can_wider t L (reach t n) (adds (reach t n) base) (adds_has (reach t n) base) x (reach_lined n r x a))
      (adds_from (reach t n) base x m)

  -- the set of a number
  pub set_lined : (n : ℕ) → Root t L n → Lined t L (set_of t n)
  unfolding set_of
  set_lined n r = adds_lined n r [] (λ x m. absurd (false≢true (sym (member_none x) ∙ m)))

-- ---- reaching is transitive

module _ (t : ℕ → ℕ) where
  reach_trans : (n : ℕ) → Legal t (suc (turn n)) → n % 2 ≡ 1 → bit_length n < 64 → (x : ℕ) → member x (reach t n) ≡ true
      → Within (reach t x) (reach t n)
  reach_trans n = along t (λ m x. Within (reach t x) (reach t m)) (λ m h y q. q) (λ m k x o w g y q. w y (g y q)) (turn n) n
      (le_refl (turn n))

  -- what is reached is the number itself or comes before it in (bit length, zero bits)
  pub reach_falls : (n : ℕ) → Legal t (suc (turn n)) → n % 2 ≡ 1 → bit_length n < 64 → (x : ℕ) → member x (reach t n) ≡ true
      → (x ≡ n) ⊎ (rank x < rank n)
  reach_falls n = along t (λ m x. (x ≡ m) ⊎ (rank x < rank m)) (λ m h. inl refl)
      (λ m k x o w g. inr (⊎_elim (λ e. omega (arith, o.falls, ap rank e)) (λ r. omega (arith, o.falls)) g)) (turn n) n (le_refl (turn n))

  pub held_adds : (n : ℕ) → Legal t (suc (turn n)) → n % 2 ≡ 1 → bit_length n < 64 → (base : List ℕ) → Held t base
      → Held t (adds (reach t n) base)
  held_adds n ok odd fits base h x m y q = ⊎_elim
      (λ a. adds_keeps (reach t n) base y (h x a y q))
      (λ a. adds_has (reach t n) base y (reach_trans n ok odd fits x a y q))
      (adds_from (reach t n) base x m)

  -- what is reached stands no later
  pub later : (n x : ℕ) → Legal t (suc (turn x)) → x % 2 ≡ 1 → bit_length x < 64 → turn x < turn n → member n (reach t x) ≡ false
  later n x ok odd fits less = ⊎_elim
      (λ m. absurd (omega (arith, ((reach_closed t x ok odd fits).member n m).2)))
      (λ m. m)
      (bool (member n (reach t x)))

pub spread : (t : ℕ → ℕ) (s n : ℕ) (base : List ℕ)
    → adds (follow (reach t) s n) base ≡ add n (adds (reach t (right s n)) (adds (reach t (left s n)) base))
unfolding follow
spread t s n base =
    let L = reach t (left s n) in
    let R = reach t (right s n) in
    adds_append L (R ++ (n ∷ [])) base ∙ adds_append R (n ∷ []) (adds L base) ∙ adds_one n (adds R (adds L base))
