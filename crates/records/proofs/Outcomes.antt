-- What the contracts of `to_the_end` and `read_full` fix of an outcome, as laws over plain values, and that the clauses as they stand in
-- the code (`Learnt`) are what these laws ask. Assumes nothing.
use Rattle.std.proofs.Common.{◌≡◌, ℕ, ◌+◌, ◌<◌, ◌≤◌, List, ◌++◌, length, take, drop, min, refl, sym, ap, ◌∙◌, subst, arith}
use Rattle.std.proofs.Common.{length-take-le, length-append}
use Rattle.std.proofs.Math.Decide.{dec_lt}
use Rattle.std.proofs.Math.Nat.{min-eq_left, min-eq_right}
use Rattle.std.proofs.Math.Seq.{take-append_seam, drop-append_seam}
use Rattle.std.specs.Prelude.{◌≢◌, [], Bool, true, false, Option, None, Some, is_some, Result, Ok, Err, MatchResult}
use Rattle.std.specs.Io.KnownBytes.{Consumes, IsAtEnd}
use Rattle.std.specs.IoError.{error_kind}
use Rattle.std.specs.declared.io.Error.{Error}
use Rattle.std.specs.declared.io.ErrorKind.{ErrorKind}
use Rattle.std.specs.declared.io.ErrorKind.TheVariants.{UnexpectedEof}
use Rattle.std.specs.declared.io.traits.Read as Read
use Rattle.records.proofs.read_full.Kinds as ReadFullKinds
use Rattle.records.proofs.read_full.Reads as ReadFull
use Rattle.records.proofs.to_the_end.Kinds as ToTheEndKinds
use Rattle.records.proofs.to_the_end.Reads as ToTheEnd
use borrow.Fn.Kinds.{Dens, res_t, ended_of}
use contract.Lifetimes.{Lfts}
use denote.Param.Laws.{Laws}
use denote.RattleType.{RattleType}
use denote.Triple.Clauses.{AtExit}
use mathlib.Core.Bool.{false≢true}
use mathlib.Core.Logic.{◌⊎◌, inl, inr}
use mir.Syntax.{Dict}

-- ---- the end of the input

is_end : ErrorKind → Bool
is_end UnexpectedEof = true
is_end _ = false

end_or_other : (k : ErrorKind) → (k ≡ UnexpectedEof) ⊎ (k ≢ UnexpectedEof)
unfolding is_end
end_or_other UnexpectedEof = inl refl
end_or_other k = inr (λ p. false≢true (ap is_end p))

-- what `to_the_end` says of its answer
abbrev pub Ended : Result (Unit {0}) Error → Result (Unit {0}) Error → Type 0
Ended done answer = MatchResult done (λ _. answer ≡ done)
    (λ e. (error_kind e ≡ UnexpectedEof → answer ≡ Ok tt) × (error_kind e ≢ UnexpectedEof → answer ≡ done))

pub ended_once : (done r s : Result (Unit {0}) Error) → Ended done r → Ended done s → r ≡ s
ended_once (Ok x) r s p q = p ∙ sym q
ended_once (Err e) r s p q = elim (end_or_other (error_kind e)) [ inl k ↦ p.0 k ∙ sym (q.0 k) | inr k ↦ p.1 k ∙ sym (q.1 k) ]

pub to_the_end_said : (κs : Lfts 0) (a : Dens κs ToTheEndKinds.ps) (x : (res_t ToTheEndKinds.r κs).Denot)
    (e : AtExit (ended_of 0 ToTheEndKinds.ps ToTheEndKinds.r) κs)
    → ToTheEnd.Learnt κs a x e → Ended a.0 x
to_the_end_said κs a x e p = p

-- ---- reading into a room

-- what `read_full` says where it tells n, of the bytes before and after
abbrev pub Reads : Option (List ℕ) → Option (List ℕ) → List ℕ → ℕ → Type 0
Reads known left room n = (n ≤ length room) × Consumes known left (take n room) × (n < length room → IsAtEnd left)

-- Of the bytes xs: as many as the room holds, or as there are; they stand at the room's front; the others are left.
record Filled (xs : List ℕ) (left : Option (List ℕ)) (room : List ℕ) (n : ℕ) : Type 0 where
  count : n ≡ min (length room) (length xs)
  front : take n room ≡ take n xs
  rest : left ≡ Some (drop n xs)

parted : (xs ys room : List ℕ) (n : ℕ) → n ≤ length room → xs ≡ take n room ++ ys → (n < length room → ys ≡ [])
    → Filled xs (Some ys) room n
parted xs ys room n within bytes end =
    let long = length-take-le n room within in
    let all : length xs ≡ n + length ys = ap length bytes ∙ length-append (take n room) ys ∙ ap (λ k. k + length ys) long in
    record {
      count = elim (dec_lt n (length room)) [
        | yes part ↦ let none = ap length (end part) in omega arith ∙ sym (min-eq_right (omega arith))
        | no full ↦ omega arith ∙ sym (min-eq_left (omega arith))
      ];
      front = sym (ap (take n) bytes ∙ subst (λ k. take k (take n room ++ ys) ≡ take n room) long (take-append_seam (take n room) ys));
      rest = ap Some (sym (ap (drop n) bytes ∙ subst (λ k. drop k (take n room ++ ys) ≡ ys) long (drop-append_seam (take n room) ys)));
    }

filled : (xs : List ℕ) (known left : Option (List ℕ)) (room : List ℕ) (n : ℕ) → known ≡ Some xs → Reads known left room n
    → Filled xs left room n
filled xs None left room n is p = absurd (false≢true (ap is_some is))
filled xs (Some zs) None room n is p = absurd p.1
filled xs (Some zs) (Some ys) room n is p =
    parted xs ys room n p.0 (subst (λ o. Consumes o (Some ys) (take n room)) is p.1) p.2

pub reads_once : (xs : List ℕ) (known left left' : Option (List ℕ)) (room room' : List ℕ) (n n' : ℕ) → known ≡ Some xs
    → length room ≡ length room'
    → Reads known left room n
    → Reads known left' room' n'
    → (n ≡ n') × (take n room ≡ take n' room') × (left ≡ left')
reads_once xs known left left' room room' n n' is long p q =
    let P = filled xs known left room n is p in
    let Q = filled xs known left' room' n' is q in
    let same = P.count ∙ ap (λ k. min k (length xs)) long ∙ sym Q.count in
    (same, P.front ∙ ap (λ k. take k xs) same ∙ sym Q.front, P.rest ∙ ap (λ k. Some (drop k xs)) same ∙ sym Q.rest)

pub read_full_said : (A : RattleType) (h : Laws A) (reader : Read.Ghosts A.Denot) (dict : Dict) (κs : Lfts 3)
    (a : Dens κs (ReadFullKinds.ps A h)) (x : (res_t (ReadFullKinds.r A h) κs).Denot)
    (e : AtExit (ended_of 3 (ReadFullKinds.ps A h) (ReadFullKinds.r A h)) κs) (n : ℕ) → x ≡ Ok n
    → ReadFull.Learnt A h reader dict κs a x e
    → Reads (reader.remaining a.0.now) (reader.remaining e.0.now) e.1.0.now n
read_full_said A h reader dict κs a x e n is p =
    let q = subst (λ z. ReadFull.Learnt A h reader dict κs a z e) is p in
    (q.0, q.1.0, q.1.1.0)
