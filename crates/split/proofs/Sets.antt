-- Sets as lists: their members, and how long they grow where a coefficient met twice counts once.
use Prim.Native.Nat.{ℕ, suc, ◌+◌, ◌≤◌}
use mathlib.Core.Path.{◌≡◌, refl, sym, ap, ◌∙◌, subst}
use mathlib.Core.Bool.{Bool, true, false, false≢true}
use mathlib.Core.List.{List, [], ◌∷◌, ◌++◌}
use mathlib.Core.Logic.{◌⊎◌, inl, inr, ⊎_elim}
use native.Mathlib.Nat.{le_refl}
use native.Mathlib.Omega.{arith}
use lib.Dec.{eqb}
use lib.ListN.{length, length-append}
use borrow.Author.Tests.{eqb-true, eq-eqb}
use Rattle.split.specs.Reach.{member, add, adds}

pub bool : (b : Bool) → (b ≡ true) ⊎ (b ≡ false)
bool true = inl refl
bool false = inr refl

add_in : (x : ℕ) (base : List ℕ) → member x base ≡ true → add x base ≡ base
unfolding add
add_in x base e = rw (e, add)

pub add_new : (x : ℕ) (base : List ℕ) → member x base ≡ false → add x base ≡ base ++ (x ∷ [])
unfolding add
add_new x base e = rw (e, add)

pub adds_append : (xs ys base : List ℕ) → adds (xs ++ ys) base ≡ adds ys (adds xs base)
unfolding adds
adds_append [] ys base = refl
adds_append (x ∷ xs) ys base = adds_append xs ys (add x base)

pub adds_one : (x : ℕ) (base : List ℕ) → adds (x ∷ []) base ≡ add x base
unfolding adds
adds_one x base = refl

-- ---- membership after one more

pub member_none : (x : ℕ) → member x [] ≡ false
unfolding member
member_none x = refl

pub member_head : (x : ℕ) (ys : List ℕ) → member x (x ∷ ys) ≡ true
unfolding member
member_head x ys = rw (eq-eqb x x refl, member)

pub member_skip : (x y : ℕ) (ys : List ℕ) → eqb x y ≡ false → member x (y ∷ ys) ≡ member x ys
unfolding member
member_skip x y ys e = rw (e, member)

pub member_here : (x y : ℕ) (ys : List ℕ) → eqb x y ≡ true → member x (y ∷ ys) ≡ true
unfolding member
member_here x y ys e = rw (e, member)

pub member_cons : (x y : ℕ) (ys : List ℕ) → member x (y ∷ ys) ≡ true → (x ≡ y) ⊎ (member x ys ≡ true)
member_cons x y ys h = ⊎_elim (λ e. inl (eqb-true x y e)) (λ e. inr (sym (member_skip x y ys e) ∙ h)) (bool (eqb x y))

pub cons_member : (x y : ℕ) (ys : List ℕ) → member x ys ≡ true → member x (y ∷ ys) ≡ true
cons_member x y ys h = ⊎_elim (λ e. member_here x y ys e) (λ e. member_skip x y ys e ∙ h) (bool (eqb x y))

pub cons_self : (x y : ℕ) (ys : List ℕ) → x ≡ y → member x (y ∷ ys) ≡ true
cons_self x y ys e = member_here x y ys (eq-eqb x y e)

pub member_left : (x : ℕ) (us bs : List ℕ) → member x us ≡ true → member x (us ++ bs) ≡ true
unfolding member
member_left x [] bs h = absurd (false≢true h)
member_left x (a ∷ us) bs h =
    ⊎_elim (λ e. member_here x a (us ++ bs) e) (λ e. member_skip x a (us ++ bs) e ∙ member_left x us bs (sym (member_skip x a us e) ∙ h))
    (bool (eqb x a))

pub member_last : (x : ℕ) (us : List ℕ) → member x (us ++ (x ∷ [])) ≡ true
member_last x [] = member_head x []
member_last x (a ∷ us) = ⊎_elim (λ e. member_here x a (us ++ (x ∷ [])) e) (λ e. member_skip x a (us ++ (x ∷ [])) e ∙ member_last x us)
    (bool (eqb x a))

pub member_other : (x y : ℕ) (us : List ℕ) → member x (us ++ (y ∷ [])) ≡ true → (member x us ≡ true) ⊎ (x ≡ y)
unfolding member
member_other x y [] h = ⊎_elim (λ e. inr (eqb-true x y e)) (λ e. absurd (false≢true (sym (member_skip x y [] e) ∙ h))) (bool (eqb x y))
member_other x y (a ∷ us) h = ⊎_elim
    (λ e. inl (member_here x a us e))
    (λ e. ⊎_elim (λ m. inl (member_skip x a us e ∙ m)) (λ q. inr q) (member_other x y us (sym (member_skip x a (us ++ (y ∷ [])) e) ∙ h)))
    (bool (eqb x a))

pub member_right : (x : ℕ) (us vs : List ℕ) → member x vs ≡ true → member x (us ++ vs) ≡ true
member_right x [] vs h = h
member_right x (u ∷ us) vs h = ⊎_elim (λ e. member_here x u (us ++ vs) e) (λ e. member_skip x u (us ++ vs) e ∙ member_right x us vs h)
    (bool (eqb x u))

pub member_both : (x : ℕ) (us vs : List ℕ) → member x (us ++ vs) ≡ true → (member x us ≡ true) ⊎ (member x vs ≡ true)
member_both x [] vs h = inr h
member_both x (u ∷ us) vs h = ⊎_elim
    (λ e. inl (member_here x u us e))
    (λ e. ⊎_elim (λ m. inl (member_skip x u us e ∙ m)) (λ m. inr m) (member_both x us vs (sym (member_skip x u (us ++ vs) e) ∙ h)))
    (bool (eqb x u))

member_add : (x y : ℕ) (base : List ℕ) → member x (add y base) ≡ true → (member x base ≡ true) ⊎ (x ≡ y)
member_add x y base h = ⊎_elim
    (λ e. inl (sym (ap (member x) (add_in y base e)) ∙ h))
    (λ e. member_other x y base (sym (ap (member x) (add_new y base e)) ∙ h))
    (bool (member y base))

add_keeps : (x y : ℕ) (base : List ℕ) → member x base ≡ true → member x (add y base) ≡ true
add_keeps x y base h = ⊎_elim
    (λ e. ap (member x) (add_in y base e) ∙ h)
    (λ e. ap (member x) (add_new y base e) ∙ member_left x base (y ∷ []) h)
    (bool (member y base))

add_has : (y : ℕ) (base : List ℕ) → member y (add y base) ≡ true
add_has y base = ⊎_elim (λ e. ap (member y) (add_in y base e) ∙ e) (λ e. ap (member y) (add_new y base e) ∙ member_last y base)
    (bool (member y base))

pub adds_keeps : (xs base : List ℕ) (x : ℕ) → member x base ≡ true → member x (adds xs base) ≡ true
unfolding adds
adds_keeps [] base x h = h
adds_keeps (y ∷ xs) base x h = adds_keeps xs (add y base) x (add_keeps x y base h)

pub adds_has : (xs base : List ℕ) (x : ℕ) → member x xs ≡ true → member x (adds xs base) ≡ true
unfolding adds
adds_has [] base x h = absurd (false≢true (sym (member_none x) ∙ h))
adds_has (y ∷ xs) base x h = ⊎_elim
    (λ e. subst (λ (k : ℕ). member k (adds xs (add y base)) ≡ true) (sym (eqb-true x y e)) (adds_keeps xs (add y base) y (add_has y base)))
    (λ e. adds_has xs (add y base) x (sym (member_skip x y xs e) ∙ h))
    (bool (eqb x y))

pub adds_from : (xs base : List ℕ) (x : ℕ) → member x (adds xs base) ≡ true → (member x base ≡ true) ⊎ (member x xs ≡ true)
unfolding adds
adds_from [] base x h = inl h
adds_from (y ∷ xs) base x h = ⊎_elim
    (λ m. ⊎_elim (λ p. inl p) (λ q. inr (member_here x y xs (eq-eqb x y q))) (member_add x y base m))
    (λ m. inr (cons_member x y xs m))
    (adds_from xs (add y base) x h)

-- each member of b is one of base
abbrev pub Within : List ℕ → List ℕ → Type 0
Within b base = (x : ℕ) → member x b ≡ true → member x base ≡ true

-- what a set has already adds nothing
pub adds_within : (xs base : List ℕ) → Within xs base → adds xs base ≡ base
unfolding adds
adds_within [] base w = refl
adds_within (x ∷ xs) base w =
    ap (λ (z : List ℕ). adds xs z) (add_in x base (w x (member_here x x xs (eq-eqb x x refl))))
    ∙ adds_within xs base (λ y m. w y (cons_member y x xs m))

pub adds_lacks : (n : ℕ) (xs base : List ℕ) → member n base ≡ false → member n xs ≡ false → member n (adds xs base) ≡ false
adds_lacks n xs base p q = ⊎_elim
    (λ m. absurd (⊎_elim (λ a. false≢true (sym p ∙ a)) (λ a. false≢true (sym q ∙ a)) (adds_from xs base n m)))
    (λ m. m)
    (bool (member n (adds xs base)))

-- ---- lengths

snoc : (xs : List ℕ) (x : ℕ) → length (xs ++ (x ∷ [])) ≡ suc (length xs)
snoc xs x = length-append xs (x ∷ []) ∙ omega arith

-- from a larger start no more is added than from a smaller
grow : (xs b base : List ℕ) → Within b base → length (adds xs base) + length b ≤ length base + length (adds xs b)
unfolding adds
grow [] b base w = omega arith
grow (x ∷ xs) b base w = ⊎_elim
    (λ inb. rw (add_in x b inb, add_in x base (w x inb)) (grow xs b base w))
    (λ outb. ⊎_elim
    (λ ina. rw (add_new x b outb, add_in x base ina)
    (let ih : length (adds xs base) + length (b ++ (x ∷ [])) ≤ length base + length (adds xs (b ++ (x ∷ []))) =
    grow xs (b ++ (x ∷ [])) base (λ y h. ⊎_elim (λ m. w y m) (λ q. subst (λ (z : ℕ). member z base ≡ true) (sym q) ina)
    (member_other y x b h)) in
    omega (arith, snoc b x)))
    (λ outa. rw (add_new x b outb, add_new x base outa)
    (let ih : length (adds xs (base ++ (x ∷ []))) + length (b ++ (x ∷ [])) ≤ length (base ++ (x ∷ [])) + length (adds xs (b ++ (x ∷ []))) =
    grow xs (b ++ (x ∷ [])) (base ++ (x ∷ []))
    (λ y h. ⊎_elim (λ m. member_left y base (x ∷ []) (w y m))
    (λ q. subst (λ (z : ℕ). member z (base ++ (x ∷ [])) ≡ true) (sym q) (member_last x base)) (member_other y x b h)) in
    omega (arith, snoc b x, snoc base x)))
    (bool (member x base)))
    (bool (member x b))

-- the union is at most as long as both together
pub adds_length : (xs base : List ℕ) → length (adds xs base) ≤ length base + length (adds xs [])
unfolding member
adds_length xs base = omega (arith, grow xs [] base (λ x h. absurd (false≢true h)))

pub add_length : (x : ℕ) (base : List ℕ) → length (add x base) ≤ suc (length base)
add_length x base = ⊎_elim (λ e. rw (add_in x base e) (omega arith)) (λ e. rw (add_new x base e) (omega (arith, snoc base x)))
    (bool (member x base))

pub add_monotone : (x : ℕ) (base : List ℕ) → length base ≤ length (add x base)
add_monotone x base = ⊎_elim (λ e. rw (add_in x base e) (le_refl (length base))) (λ e. rw (add_new x base e) (omega (arith, snoc base x)))
    (bool (member x base))

pub adds_monotone : (xs base : List ℕ) → length base ≤ length (adds xs base)
unfolding adds
adds_monotone [] base = le_refl (length base)
adds_monotone (x ∷ xs) base = omega (arith, adds_monotone xs (add x base), add_monotone x base)

pub add_long : (n : ℕ) (base : List ℕ) → member n base ≡ false → length (add n base) ≡ suc (length base)
add_long n base e = ap (λ (z : List ℕ). length z) (add_new n base e) ∙ length-append base (n ∷ []) ∙ omega arith

-- ---- no repeats

-- base without the first x
without : ℕ → List ℕ → List ℕ
without x [] = []
without x (y ∷ ys) = elim (eqb x y) [ true ↦ ys | false ↦ y ∷ without x ys ]

without_here : (x y : ℕ) (ys : List ℕ) → eqb x y ≡ true → without x (y ∷ ys) ≡ ys
unfolding without
without_here x y ys e = rw (e, without)

without_skip : (x y : ℕ) (ys : List ℕ) → eqb x y ≡ false → without x (y ∷ ys) ≡ y ∷ without x ys
unfolding without
without_skip x y ys e = rw (e, without)

without_length : (x : ℕ) (l : List ℕ) → member x l ≡ true → length l ≡ suc (length (without x l))
without_length x [] h = absurd (false≢true (sym (member_none x) ∙ h))
without_length x (y ∷ ys) h = ⊎_elim
    (λ e. ap suc (sym (ap (λ (z : List ℕ). length z) (without_here x y ys e))))
    (λ e. ap suc (without_length x ys (sym (member_skip x y ys e) ∙ h) ∙ sym (ap (λ (z : List ℕ). length z) (without_skip x y ys e))))
    (bool (eqb x y))

without_keeps : (x z : ℕ) (l : List ℕ) → (z ≡ x → ⊥) → member z l ≡ true → member z (without x l) ≡ true
without_keeps x z [] ne h = absurd (false≢true (sym (member_none z) ∙ h))
without_keeps x z (y ∷ ys) ne h = ⊎_elim
    (λ e. ap (member z) (without_here x y ys e) ∙ ⊎_elim (λ q. absurd (ne (eqb-true z y q ∙ sym (eqb-true x y e))))
    (λ q. sym (member_skip z y ys q) ∙ h) (bool (eqb z y)))
    (λ e. ap (member z) (without_skip x y ys e) ∙ ⊎_elim (λ q. member_here z y (without x ys) q)
    (λ q. member_skip z y (without x ys) q ∙ without_keeps x z ys ne (sym (member_skip z y ys q) ∙ h)) (bool (eqb z y)))
    (bool (eqb x y))

abbrev pub Distinct : List ℕ → Type 0
Distinct [] = Unit {0}
Distinct (x ∷ xs) = (member x xs ≡ false) × Distinct xs

pub fits_in : (ys base : List ℕ) → Distinct ys → Within ys base → length ys ≤ length base
fits_in [] base d w = omega arith
fits_in (y ∷ ys) base d w =
    let here : member y base ≡ true = w y (member_here y y ys (eq-eqb y y refl)) in
    omega (
      arith,
      without_length y base here,
      fits_in ys (without y base) d.1 (λ z m. without_keeps y z base
          (λ q. false≢true (sym d.0 ∙ subst (λ (k : ℕ). member k ys ≡ true) q m)) (w z (cons_member z y ys m))),
    )

snoc_distinct : (x : ℕ) (base : List ℕ) → member x base ≡ false → Distinct base → Distinct (base ++ (x ∷ []))
snoc_distinct x [] e d = (member_none x, tt)
snoc_distinct x (a ∷ base) e d = ⊎_elim
    (λ q. absurd (false≢true (sym e ∙ member_here x a base q)))
    (λ q. (
      ⊎_elim (λ t. absurd (⊎_elim (λ m. false≢true (sym d.0 ∙ m)) (λ r. false≢true (sym q ∙ eq-eqb x a (sym r)))
          (member_other a x base t))) (λ f. f) (bool (member a (base ++ (x ∷ [])))),
      snoc_distinct x base (sym (member_skip x a base q) ∙ e) d.1,
    ))
    (bool (eqb x a))

pub adds_distinct : (xs base : List ℕ) → Distinct base → Distinct (adds xs base)
unfolding adds
adds_distinct [] base d = d
adds_distinct (x ∷ xs) base d = adds_distinct xs (add x base)
    (⊎_elim (λ e. subst Distinct (sym (add_in x base e)) d) (λ e. subst Distinct (sym (add_new x base e)) (snoc_distinct x base e d))
    (bool (member x base)))
