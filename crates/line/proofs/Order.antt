-- Tests in their order (`first_broken`). The first that refuses decides, whatever comes behind it (`first_hit`); where each is kept there
-- is no refusal (`all_kept`), and the other way round (`kept_all`). A list of tests may be asked in two parts (`in_parts`). Assumes
-- nothing.
use Rattle.std.specs.Prelude.{Ok, Err}
use mathlib.Core.Path.{◌≡◌, refl, ap, ◌∙◌}
use mathlib.Core.Bool.{Bool, true, false, ◌||◌}
use mathlib.Core.List.{List, [], ◌∷◌, ◌++◌}
use Prim.Native.Nat.{ℕ, ◌<◌, ◌≤◌}
use native.Mathlib.Omega.{arith}
use borrow.Author.Tests.{eqb-false, ltb-false, ne_eqb, le-ltb, lt-ltb}
use lib.Dec.{eqb, ltb}
use Rattle.line.specs.Order.{refuses, unless_broken, first_broken, answer_by, in_order}
use Rattle.line.specs.declared.Refusal.{Refusal}
use Rattle.line.specs.Order.{Verdict}

-- ---- one test

pub hits : (t : Bool) (x : Refusal) → t ≡ true → refuses t x ≡ Err x
hits t x e = ap (λ (b : Bool). refuses b x) e

pub misses : (t : Bool) (x : Refusal) → t ≡ false → refuses t x ≡ Ok tt
misses t x e = ap (λ (b : Bool). refuses b x) e

pub missed : (t : Bool) (x : Refusal) → refuses t x ≡ Ok tt → t ≡ false
missed true x e = let z : ◌≡◌ {A = ℕ} 0 1 = cc in absurd (omega arith)
missed false x e = refl

-- a test of two parts
pub neither : (t u : Bool) → t || u ≡ false → (t ≡ false) × (u ≡ false)
neither true u e = let z : ◌≡◌ {A = ℕ} 0 1 = cc in absurd (omega arith)
neither false u e = (refl, e)

-- what holds of the refusal where a test hits, and of the later ones where it does not, holds of them in their order
pub by_test : (P : Verdict → Type 0) (t : Bool) (x : Refusal) (later : Verdict) → (t ≡ true → P (Err x)) → (t ≡ false → P later)
    → P (unless_broken (refuses t x) later)
by_test P true x later f g = f refl
by_test P false x later f g = g refl

-- ---- tests in their order

-- the last test stands alone
pub alone : (v : Verdict) → unless_broken v (Ok tt) ≡ v
alone (Ok u) = refl
alone (Err x) = refl

-- later tests matter only behind one that is kept
pub later_same : (v : Verdict) {u w : Verdict} → (v ≡ Ok tt → u ≡ w) → unless_broken v u ≡ unless_broken v w
later_same (Ok u) f = f refl
later_same (Err x) f = refl

abbrev pub AllKept : List Verdict → Type 0
AllKept [] = Unit {0}
AllKept (v ∷ vs) = (v ≡ Ok tt) × AllKept vs

pub in_parts : (vs ws : List Verdict) → first_broken (vs ++ ws) ≡ unless_broken (first_broken vs) (first_broken ws)
in_parts [] ws = refl
in_parts ((Ok u) ∷ vs) ws = in_parts vs ws
in_parts (Err x ∷ vs) ws = refl

-- two verdicts, one behind the other
pub kept_both : (v w : Verdict) → unless_broken v w ≡ Ok tt → (v ≡ Ok tt) × (w ≡ Ok tt)
kept_both (Ok u) w e = (refl, e)
kept_both (Err x) w e = let z : ◌≡◌ {A = ℕ} 0 1 = cc in absurd (omega arith)

pub both_kept : (v w : Verdict) → v ≡ Ok tt → w ≡ Ok tt → unless_broken v w ≡ Ok tt
both_kept v w e f = ap (λ (u : Verdict). unless_broken u w) e ∙ f

pub all_kept : (vs : List Verdict) → AllKept vs → first_broken vs ≡ Ok tt
all_kept [] k = refl
all_kept (v ∷ vs) k = both_kept v (first_broken vs) k.0 (all_kept vs k.1)

pub kept_all : (vs : List Verdict) → first_broken vs ≡ Ok tt → AllKept vs
kept_all [] e = tt
kept_all (v ∷ vs) e = let k = kept_both v (first_broken vs) e in (k.0, kept_all vs k.1)

-- behind tests that are kept the later ones decide
pub kept_front : (vs ws : List Verdict) → first_broken vs ≡ Ok tt → first_broken (vs ++ ws) ≡ first_broken ws
kept_front vs ws e = in_parts vs ws ∙ ap (λ (u : Verdict). unless_broken u (first_broken ws)) e

pub first_hit : (vs : List Verdict) (v : Verdict) (ws : List Verdict) (x : Refusal) → AllKept vs → v ≡ Err x
    → first_broken (vs ++ v ∷ ws) ≡ Err x
first_hit vs v ws x k e =
    kept_front vs (v ∷ ws) (all_kept vs k) ∙ ap (λ (u : Verdict). unless_broken u (first_broken ws)) e

-- a refusal stays what it is, whatever comes behind
pub broken_front : (vs ws : List Verdict) (x : Refusal) → first_broken vs ≡ Err x → first_broken (vs ++ ws) ≡ Err x
broken_front vs ws x e = in_parts vs ws ∙ ap (λ (u : Verdict). unless_broken u (first_broken ws)) e

-- an answer that no refusal gives came from behind the tests
pub behind_kept : {A : Type 0} (P : A → Type 0) (refused : Refusal → A) (behind : A) → ((x : Refusal) → P (refused x) → ⊥) → (v : Verdict)
    → P (answer_by refused behind v) → (v ≡ Ok tt) × P behind
behind_kept P refused behind never (Ok u) p = (refl, p)
behind_kept P refused behind never (Err x) p = absurd (never x p)

-- what holds of the refusal of each test, and of what comes behind, holds of the answer
abbrev pub OfRefusal : (Refusal → Type 0) → Verdict → Type 0
OfRefusal P (Ok u) = Unit {0}
OfRefusal P (Err x) = P x

abbrev pub OfRefusals : (Refusal → Type 0) → List Verdict → Type 0
OfRefusals P [] = Unit {0}
OfRefusals P (v ∷ vs) = OfRefusal P v × OfRefusals P vs

pub of_test : (P : Refusal → Type 0) (t : Bool) (x : Refusal) → P x → OfRefusal P (refuses t x)
of_test P true x p = p
of_test P false x p = tt

pub of_answer : {A : Type 0} (P : A → Type 0) (refused : Refusal → A) (behind : A) → P behind → (vs : List Verdict)
    → OfRefusals (λ x. P (refused x)) vs → P (in_order refused vs behind)
of_answer P refused behind p [] q = p
of_answer P refused behind p ((Ok u) ∷ vs) q = of_answer P refused behind p vs q.1
of_answer P refused behind p (Err x ∷ vs) q = q.0

-- ---- a number from 1 to a limit, as rules 1 and 2 ask for

pub within : (limit n : ℕ) → eqb n 0 || ltb limit n ≡ false → (0 < n) × (n ≤ limit)
within limit n e = let h = neither (eqb n 0) (ltb limit n) e in (omega (arith, eqb-false n 0 h.0), ltb-false limit n h.1)

pub within_kept : (limit n : ℕ) → 0 < n → n ≤ limit → eqb n 0 || ltb limit n ≡ false
within_kept limit n h k = rw (ne_eqb n 0 (λ e. omega arith), le-ltb limit n k)

-- ---- a room of n entries, of which m are asked

pub room_kept : (n m : ℕ) (x : Refusal) → m ≤ n → refuses (ltb n m) x ≡ Ok tt
room_kept n m x h = misses (ltb n m) x (le-ltb n m h)

pub kept_room : (n m : ℕ) (x : Refusal) → refuses (ltb n m) x ≡ Ok tt → m ≤ n
kept_room n m x e = ltb-false n m (missed (ltb n m) x e)

pub room_hits : (n m : ℕ) (x : Refusal) → n < m → refuses (ltb n m) x ≡ Err x
room_hits n m x h = hits (ltb n m) x (lt-ltb n m h)
