-- The chosen split is legal, the cheapest and the first such; it depends on the lookup at earlier numbers alone. So exactly one lookup
-- keeps the rule. All of it holds for every cost that depends on earlier numbers alone.
use Prim.Native.Nat.{ℕ, zero, suc, ◌+◌, ◌*◌, ◌/◌, ◌%◌, ◌≤◌, ◌<◌}
use mathlib.Core.Path.{◌≡◌, refl, sym, ap, ap₂, ◌∙◌, subst}
use mathlib.Core.Bool.{true, false, false≢true}
use mathlib.Core.Logic.{◌⊎◌, inl, inr, ⊎_elim}
use native.Mathlib.Nat.{le_refl, le_antisymm, eq-or-lt_of_le, eq-zero-or-pos, div-eq_of_lt}
use native.Mathlib.Omega.{arith}
use native.Mathlib.Decide.{ℕ_discrete}
use borrow.Author.Tests.{lt-ltb, le-ltb, le-leb, eq-eqb, ne_eqb}
use Rattle.line.specs.Number.{bit_length}
use Rattle.line.specs.Line.{sminus, kind_of}
use Rattle.split.specs.Split.{high, left_at, right_at, legal_at, left, right, legal}
use Rattle.split.specs.Reach.{turn, fuel}
use Rattle.split.specs.Choose.{Cost, Chosen, pick, better, best_below, choose, Rule, split_by, split_for}
use Rattle.split.specs.declared.Best.{Best}
use Rattle.line.proofs.Number.{lt_or_le, bits_pos, bits_lt}
use Rattle.split.proofs.Sets.{bool}
use Rattle.split.proofs.Reach.{Legal, Agree, Depends, turn_pos, turn_bits, odd_case, turn_fuel}

pub same_or : (a b : ℕ) → (a ≡ b) ⊎ (a ≡ b → ⊥)
same_or a b = elim (ℕ_discrete a b) [ yes e ↦ inl e | no e ↦ inr e ]

-- ---- the cases of `pick` and of `better`

pub pick_none : (s k : ℕ) (b : Best) → b.split ≡ 0 → pick s k b ≡ record { split = s; cost = k }
unfolding pick
pick_none s k b e = rw (eq-eqb b.split 0 e, pick)

pub pick_less : (s k : ℕ) (b : Best) → 0 < b.split → k < b.cost → pick s k b ≡ record { split = s; cost = k }
unfolding pick
pick_less s k b h l = rw (ne_eqb b.split 0 (omega arith), lt-ltb k b.cost l, pick)

pub pick_more : (s k : ℕ) (b : Best) → 0 < b.split → b.cost ≤ k → pick s k b ≡ b
unfolding pick
pick_more s k b h l = rw (ne_eqb b.split 0 (omega arith), le-ltb k b.cost l, pick)

better_not : (cost : Cost) (t : ℕ → ℕ) (n s : ℕ) (b : Best) → legal s n ≡ false → better cost t n s b ≡ b
unfolding better
better_not cost t n s b e = rw (e, better)

pub better_is : (cost : Cost) (t : ℕ → ℕ) (n s : ℕ) (b : Best) → legal s n ≡ true → better cost t n s b ≡ pick s (cost t s n) b
unfolding better
better_is cost t n s b e = rw (e, better)

-- ---- the best of the splits below k

record Some (cost : Cost) (t : ℕ → ℕ) (n k : ℕ) (b : Best) : Type 0 where
  found : 0 < b.split
  below : b.split < k
  is_legal : legal b.split n ≡ true
  is_cost : b.cost ≡ cost t b.split n
  cheapest : (r : ℕ) → r < k → legal r n ≡ true → b.cost ≤ cost t r n
  first : (r : ℕ) → r < k → legal r n ≡ true → cost t r n ≤ b.cost → b.split ≤ r

abbrev None : (n k : ℕ) (b : Best) → Type 0
None n k b = (b.split ≡ 0) × ((r : ℕ) → r < k → legal r n ≡ true → ⊥)

no_zero : (n : ℕ) → legal 0 n ≡ true → ⊥
no_zero n e = false≢true e

-- what holds below k, and at k, holds below suc k
upto : (P : ℕ → Type 0) (k : ℕ) → ((r : ℕ) → r < k → P r) → P k → (r : ℕ) → r < suc k → P r
upto P k h p r l = ⊎_elim (λ e. subst P (sym e) p) (λ q. h r q) (eq-or-lt_of_le {n = r} {m = k} (omega arith))

module _ (cost : Cost) (t : ℕ → ℕ) (n k : ℕ) (b : Best) where
  keep_none : legal k n ≡ false → None n k b → None n (suc k) b
  keep_none e h = (h.0, upto (λ r. legal r n ≡ true → ⊥) k h.1 (λ q. false≢true (sym e ∙ q)))

  keep_some : Some cost t n k b → (legal k n ≡ true → b.cost ≤ cost t k n) → Some cost t n (suc k) b
  keep_some h l = record {
    found = h.found;
    below = omega arith;
    is_legal = h.is_legal;
    is_cost = h.is_cost;
    cheapest = upto (λ r. legal r n ≡ true → b.cost ≤ cost t r n) k h.cheapest l;
    first = upto (λ r. legal r n ≡ true → cost t r n ≤ b.cost → b.split ≤ r) k h.first (λ _ _. omega arith);
  }

  take_it : legal k n ≡ true → ((r : ℕ) → r < k → legal r n ≡ true → cost t k n < cost t r n)
      → Some cost t n (suc k) (record { split = k; cost = cost t k n })
  take_it e h = record {
    found = ⊎_elim (λ z. absurd (no_zero n (subst (λ (j : ℕ). legal j n ≡ true) z e))) (λ p. p) (eq-zero-or-pos k);
    below = omega arith;
    is_legal = e;
    is_cost = refl;
    cheapest = upto (λ r. legal r n ≡ true → cost t k n ≤ cost t r n) k (λ r l q. omega (arith, h r l q)) (λ _. le_refl _);
    first = upto (λ r. legal r n ≡ true → cost t r n ≤ cost t k n → k ≤ r) k (λ r l q c. absurd (omega (arith, h r l q)))
        (λ _ _. le_refl _);
  }

  step : None n k b ⊎ Some cost t n k b → None n (suc k) (better cost t n k b) ⊎ Some cost t n (suc k) (better cost t n k b)
  step (inl h) = ⊎_elim
      (λ e. inr (subst (λ (x : Best). Some cost t n (suc k) x) (sym (better_is cost t n k b e ∙ pick_none k (cost t k n) b h.0))
      (take_it e (λ r l q. absurd (h.1 r l q)))))
      (λ e. inl (subst (λ (x : Best). None n (suc k) x) (sym (better_not cost t n k b e)) (keep_none e h)))
      (bool (legal k n))
  step (inr h) = ⊎_elim
      (λ e. inr (⊎_elim
      (λ l. subst (λ (x : Best). Some cost t n (suc k) x) (sym (better_is cost t n k b e ∙ pick_less k (cost t k n) b h.found l))
      (take_it e (λ r j q. omega (arith, h.cheapest r j q))))
      (λ l. subst (λ (x : Best). Some cost t n (suc k) x) (sym (better_is cost t n k b e ∙ pick_more k (cost t k n) b h.found l))
      (keep_some h (λ _. l)))
      (lt_or_le (cost t k n) b.cost)))
      (λ e. inr (subst (λ (x : Best). Some cost t n (suc k) x) (sym (better_not cost t n k b e))
      (keep_some h (λ q. absurd (false≢true (sym e ∙ q))))))
      (bool (legal k n))

-- SMINUS at p = N is always there
last_at : (n : ℕ) → 0 < n → legal_at sminus (bit_length n) n ≡ true
unfolding legal_at high
last_at n h = rw (
  le-leb 1 (bit_length n) (bits_pos n h),
  le-leb (bit_length n) (bit_length n) (le_refl (bit_length n)),
  div-eq_of_lt (bits_lt n),
  legal_at,
)

-- 32 * kind + p as kind and p
pub as_legal : (k p n : ℕ) → 1 ≤ k → k ≤ 3 → p < 32 → legal (32 * k + p) n ≡ legal_at (kind_of k) p n
as_legal k p n one three h =
    let s : ℕ = 32 * k + p in
    rw (le-leb 1 (s / 32) (omega arith), le-leb (s / 32) 3 (omega arith))
    (ap₂ (λ (a b : ℕ). legal_at (kind_of a) b n) {x = s / 32} {y = k} {u = s % 32} {v = p} (omega arith) (omega arith))

pub as_left : (k p n : ℕ) → p < 32 → left_at (kind_of k) p n ≡ left (32 * k + p) n
as_left k p n h =
    ap₂ (λ (a b : ℕ). left_at (kind_of a) b n) {x = k} {y = (32 * k + p) / 32} {u = p} {v = (32 * k + p) % 32} (omega arith) (omega arith)

pub as_right : (k p n : ℕ) → p < 32 → right_at (kind_of k) p n ≡ right (32 * k + p) n
as_right k p n h =
    ap₂ (λ (a b : ℕ). right_at (kind_of a) b n) {x = k} {y = (32 * k + p) / 32} {u = p} {v = (32 * k + p) % 32} (omega arith) (omega arith)

last_legal : (n : ℕ) → 0 < n → bit_length n < 32 → legal (64 + bit_length n) n ≡ true
unfolding kind_of
last_legal n h l = as_legal 2 (bit_length n) n (omega arith) (omega arith) l ∙ last_at n h

module _ (cost : Cost) (t : ℕ → ℕ) where
  best : (n k : ℕ) → None n k (best_below cost t n k) ⊎ Some cost t n k (best_below cost t n k)
  unfolding best_below
  best n zero = inl (refl, λ r l. absurd (omega arith))
  best n (suc k) = step cost t n k (best_below cost t n k) (best n k)

  pub chosen : (n : ℕ) → 0 < n → bit_length n < 32 → Chosen cost t n (choose cost t n)
  unfolding choose
  chosen n big l = ⊎_elim
      (λ h. absurd (h.1 (64 + bit_length n) (omega arith) (last_legal n big l)))
      (λ h. record {
        is_legal = h.is_legal;
        small = h.below;
        cheapest = λ r s e. omega (arith, h.is_cost, h.cheapest r s e);
        first = λ r s e c. h.first r s e (omega (arith, h.is_cost));
      })
      (best n 128)

  -- the best's cost is that of the chosen split
  pub best_cost : (n : ℕ) → 0 < n → bit_length n < 32 → (best_below cost t n 128).cost ≡ cost t (choose cost t n) n
  unfolding choose
  best_cost n big l = ⊎_elim
      (λ h. absurd (h.1 (64 + bit_length n) (omega arith) (last_legal n big l)))
      (λ h. h.is_cost)
      (best n 128)

  -- splits that are not legal change nothing
  pub best_skip : (n a b : ℕ) → a ≤ b → ((r : ℕ) → a ≤ r → r < b → legal r n ≡ false) → best_below cost t n b ≡ best_below cost t n a
  unfolding best_below
  best_skip n a zero le h = ap (λ (k : ℕ). best_below cost t n k) {x = zero} {y = a} (omega arith)
  best_skip n a (suc b) le h = ⊎_elim
      (λ e. ap (λ (k : ℕ). best_below cost t n k) (sym e))
      (λ lt. better_not cost t n b (best_below cost t n b) (h b (omega arith) (omega arith))
      ∙ best_skip n a b (omega arith) (λ r g l. h r g (omega arith)))
      (eq-or-lt_of_le le)

-- and only one split is all of that
pub chosen_one : (cost : Cost) (t : ℕ → ℕ) (n r s : ℕ) → Chosen cost t n r → Chosen cost t n s → r ≡ s
chosen_one cost t n r s c d = le_antisymm
    (c.first s d.small d.is_legal (d.cheapest r c.small c.is_legal))
    (d.first r c.small c.is_legal (c.cheapest s d.small d.is_legal))

-- ---- what the choice depends on

below : (n : ℕ) → bit_length n < 32 → (m : ℕ) → turn m < turn n → bit_length m < 32
below n few m l = omega (arith, turn_bits m n (omega arith))

split_one : (cost : Cost) (f n : ℕ) → n < 2 → split_by cost f n ≡ 0
unfolding split_by
split_one cost zero n h = refl
split_one cost (suc f) n h = rw (lt-ltb n 2 h, split_by)

split_more : (cost : Cost) (f n : ℕ) → 2 ≤ n → split_by cost (suc f) n ≡ choose cost (split_by cost f) n
unfolding split_by
split_more cost f n h = rw (le-ltb n 2 h, split_by)

-- with fuel for every number before R, all are legal
split_legal : (cost : Cost) (f R : ℕ) → R ≤ suc f → ((m : ℕ) → turn m < R → bit_length m < 32) → Legal (split_by cost f) R
split_legal cost zero R h small m big odd l = absurd (omega (arith, turn_pos m))
split_legal cost (suc f) R h small m big odd l =
    subst (λ (s : ℕ). legal s m ≡ true) (sym (split_more cost f m big))
    (chosen cost (split_by cost f) m (omega arith) (small m l)).is_legal

pub split_1 : (cost : Cost) → split_for cost 1 ≡ 0
unfolding split_for
split_1 cost = split_one cost (fuel 1) 1 (omega arith)

module _ (cost : Cost) (depends : Depends cost) where
  better_cong : (t u : ℕ → ℕ) (n : ℕ) → Legal t (turn n) → Agree t u (turn n) → 1 < n → n % 2 ≡ 1 → bit_length n < 64
      → (s : ℕ) (b : Best) → better cost t n s b ≡ better cost u n s b
  better_cong t u n ok ag big odd fits s b = ⊎_elim
      (λ e. better_is cost t n s b e ∙ ap (λ (k : ℕ). pick s k b) (depends t u n ok ag big odd fits s e) ∙ sym (better_is cost u n s b e))
      (λ e. better_not cost t n s b e ∙ sym (better_not cost u n s b e))
      (bool (legal s n))

  best_cong : (t u : ℕ → ℕ) (n : ℕ) → Legal t (turn n) → Agree t u (turn n) → 1 < n → n % 2 ≡ 1 → bit_length n < 64
      → (k : ℕ) → best_below cost t n k ≡ best_below cost u n k
  unfolding best_below
  best_cong t u n ok ag big odd fits zero = refl
  best_cong t u n ok ag big odd fits (suc k) =
      better_cong t u n ok ag big odd fits k (best_below cost t n k)
      ∙ ap (λ (b : Best). better cost u n k b) (best_cong t u n ok ag big odd fits k)

  -- the chosen split depends on the lookup at earlier numbers alone
  pub choose_cong : (t u : ℕ → ℕ) (n : ℕ) → Legal t (turn n) → Agree t u (turn n) → 1 < n → n % 2 ≡ 1 → bit_length n < 64
      → choose cost t n ≡ choose cost u n
  unfolding choose
  choose_cong t u n ok ag big odd fits = ap (λ (b : Best). b.split) (best_cong t u n ok ag big odd fits 128)

  -- ---- each number's chosen split: fuel past its turn changes nothing

  split_same : (f g n : ℕ) → n % 2 ≡ 1 → bit_length n < 32 → turn n ≤ f → turn n ≤ g → split_by cost f n ≡ split_by cost g n
  split_same zero g n odd few hf hg = absurd (omega (arith, turn_pos n))
  split_same (suc f) zero n odd few hf hg = absurd (omega (arith, turn_pos n))
  split_same (suc f) (suc g) n odd few hf hg = ⊎_elim
      (λ e. split_one cost (suc f) n (omega arith) ∙ sym (split_one cost (suc g) n (omega arith)))
      (λ big.
      split_more cost f n big
      ∙ choose_cong (split_by cost f) (split_by cost g) n (split_legal cost f (turn n) hf (below n few))
      (λ m b o l. split_same f g m o (below n few m l) (omega arith) (omega arith)) big odd (omega arith)
      ∙ sym (split_more cost g n big))
      (odd_case n odd)

  pub split_rule : (n : ℕ) → 1 < n → n % 2 ≡ 1 → bit_length n < 32 → split_for cost n ≡ choose cost (split_for cost) n
  unfolding split_for
  split_rule n big odd few =
      let F : ℕ = fuel n in
      let rf : turn n ≤ F = turn_fuel n in
      split_same F (suc F) n odd few rf (omega arith)
      ∙ split_more cost F n big
      ∙ choose_cong (split_by cost F) (λ m. split_by cost (fuel m) m) n (split_legal cost F (turn n) (omega arith) (below n few))
      (λ m b o l. let mb : bit_length m < 32 = below n few m l in split_same F (fuel m) m o mb (omega arith) (turn_fuel m)) big odd
      (omega arith)

  -- the chosen splits keep the rule
  pub split_keeps : (L : ℕ) → L < 32 → Rule cost (split_for cost) L
  split_keeps L h = record { one = split_1 cost; others = λ n big odd l. split_rule n big odd (omega arith) }

  pub split_chosen : (n : ℕ) → 1 < n → n % 2 ≡ 1 → bit_length n < 32 → Chosen cost (split_for cost) n (split_for cost n)
  split_chosen n big odd few = subst (λ (s : ℕ). Chosen cost (split_for cost) n s) (sym (split_rule n big odd few))
      (chosen cost (split_for cost) n (omega arith) few)

  pub splits_legal : (n : ℕ) → bit_length n < 32 → Legal (split_for cost) (suc (turn n))
  splits_legal n few m big odd lt = (split_chosen m big odd (omega (arith, turn_bits m n (omega arith)))).is_legal

  -- ---- and no other lookup does

  only_by : (t : ℕ → ℕ) (L : ℕ) → Rule cost t L → L < 32 → (f n : ℕ) → turn n < f → n % 2 ≡ 1 → bit_length n ≤ L → t n ≡ split_for cost n
  only_by t L h few zero n lt odd l = absurd (omega arith)
  only_by t L h few (suc f) n lt odd l = ⊎_elim
      (λ e. subst (λ (m : ℕ). t m ≡ split_for cost m) (sym e) (h.one ∙ sym (split_1 cost)))
      (λ big.
      h.others n big odd l
      ∙ choose_cong t (split_for cost) n
      (λ m b o r. subst (λ (s : ℕ). legal s m ≡ true) (sym (h.others m b o (omega (arith, turn_bits m n (omega arith)))))
      (chosen cost t m (omega arith) (below n (omega arith) m r)).is_legal)
      (λ m b o r. only_by t L h few f m (omega arith) o (omega (arith, turn_bits m n (omega arith))))
      big odd (omega arith)
      ∙ sym (split_rule n big odd (omega arith)))
      (odd_case n odd)

  -- exactly one lookup keeps the rule
  pub only : (t : ℕ → ℕ) (L : ℕ) → Rule cost t L → L < 32 → (n : ℕ) → n % 2 ≡ 1 → bit_length n ≤ L → t n ≡ split_for cost n
  only t L h few n odd l = only_by t L h few (suc (turn n)) n (le_refl (suc (turn n))) odd l
