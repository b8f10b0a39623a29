-- The order of a call's refusals is a list: its tests, each with the refusal that it gives, one behind the other. The first that refuses
-- decides; where none does, the call goes on.
use Rattle.std.specs.Prelude.{Bool, cond, List, [], ◌∷◌, ⊤, Result, Ok, Err}
use Rattle.line.specs.declared.Refusal.{Refusal}

-- what one test of a call says: nothing against it, or why the call refuses
abbrev pub Verdict : Type 0
Verdict = Result ⊤ Refusal

-- a test that refuses by x where it hits
abbrev pub refuses : Bool → Refusal → Verdict
refuses hits x = cond hits (Err x) (Ok tt)

-- what one test says, and then the next
abbrev pub unless_broken : Verdict → Verdict → Verdict
unless_broken (Ok u) later = later
unless_broken (Err x) later = Err x

-- the first refusal of tests in their order
abbrev pub first_broken : List Verdict → Verdict
first_broken [] = Ok tt
first_broken (v ∷ vs) = unless_broken v (first_broken vs)

-- an answer by a verdict: a refusal, or what comes behind
abbrev pub answer_by : {A : Type 0} → (Refusal → A) → A → Verdict → A
answer_by refused behind (Ok u) = behind
answer_by refused behind (Err x) = refused x

-- an answer by tests in their order
abbrev pub in_order : {A : Type 0} → (Refusal → A) → List Verdict → A → A
in_order refused tests behind = answer_by refused behind (first_broken tests)
