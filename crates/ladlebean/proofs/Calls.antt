-- The calls as a caller sees them. An outcome of a call is what came in, an answer and the parameters at exit, of which nothing is known
-- but what a caller learns: the call's `ensures` as it stands in the code (`learnt`). What is asked of checking, planning, writing and a
-- pass is asked of the crate's own call and of the archive's entry point alike; so the outcomes of both are one kind of thing here, and
-- what is seen of them has one set of names, those of the documents. These names are nothing but places among the parameters.
use Prim.Native.Nat.{ℕ, suc}
use mathlib.Core.List.{List}
use lib.IntN.{ℤ}
use lib.ListN.{take}
use contract.Lifetimes.{Lfts}
use denote.Triple.Clauses.{AtExit}
use borrow.Fn.Kinds.{ParamKind, ResultKind, Out, Dens, res_t, ended_of}
use Rattle.line.specs.Refusal.{told_of, number_of}
use Rattle.line.specs.declared.Told.{Told}
use Rattle.plan.specs.Plan.{planned_lines}
use Rattle.product.specs.Bit.{numbered}
use Rattle.product.specs.Write.{words_used, clauses_written, next_free, bits_of_y}
use Rattle.propagate.specs.Pass.{clauses_read}
use Rattle.recipe.proofs.check.Kinds as CheckKinds
use Rattle.recipe.proofs.check.Reads as Check
use Rattle.plan.proofs.plan.Kinds as PlanKinds
use Rattle.plan.proofs.plan.Reads as Plan
use Rattle.write.proofs.write.Kinds as WriteKinds
use Rattle.write.proofs.write.Reads as Write
use Rattle.write.proofs.write_plain.Kinds as WritePlainKinds
use Rattle.write.proofs.write_plain.Reads as WritePlain
use Rattle.propagate.proofs.propagate.Kinds as PropagateKinds
use Rattle.propagate.proofs.propagate.Reads as Propagate
use Rattle.ladlebean.proofs.ladlebean_check.Kinds as ArchiveCheckKinds
use Rattle.ladlebean.proofs.ladlebean_check.Reads as ArchiveCheck
use Rattle.ladlebean.proofs.ladlebean_plan.Kinds as ArchivePlanKinds
use Rattle.ladlebean.proofs.ladlebean_plan.Reads as ArchivePlan
use Rattle.ladlebean.proofs.ladlebean_write.Kinds as ArchiveWriteKinds
use Rattle.ladlebean.proofs.ladlebean_write.Reads as ArchiveWrite
use Rattle.ladlebean.proofs.ladlebean_write_plain.Kinds as ArchiveWritePlainKinds
use Rattle.ladlebean.proofs.ladlebean_write_plain.Reads as ArchiveWritePlain
use Rattle.ladlebean.proofs.ladlebean_propagate.Kinds as ArchivePropagateKinds
use Rattle.ladlebean.proofs.ladlebean_propagate.Reads as ArchivePropagate

pub record Outcome {n : ℕ} (ps : List (ParamKind n)) (r : ResultKind n) (Learnt : Out n ps r) : Type 0 where
  pub lifetimes : Lfts n
  pub came : Dens lifetimes ps
  pub answer : (res_t r lifetimes).Denot
  pub left : AtExit (ended_of n ps r) lifetimes
  pub learnt : Learnt lifetimes came answer left

-- ---- checking

pub data Checking : Type 0 where
  by_check : Outcome CheckKinds.ps CheckKinds.r Check.Learnt → Checking
  by_archive_check : Outcome ArchiveCheckKinds.ps ArchiveCheckKinds.r ArchiveCheck.Learnt → Checking

pub record CheckSeen : Type 0 where
  pub c : ℕ
  pub recipe : List ℕ
  pub told : Told

abbrev pub check_seen : Checking → CheckSeen
check_seen (by_check o) = record { c = o.came.0; recipe = o.came.1.0.now; told = told_of o.answer }
check_seen (by_archive_check o) = record {
  c = o.came.0;
  recipe = o.came.1.0.now;
  told = record { number = o.answer; line = o.left.1.1.0.now; value = o.left.1.1.1.0.now };
}

-- ---- planning

pub data Planning : Type 0 where
  by_plan : Outcome PlanKinds.ps PlanKinds.r Plan.Learnt → Planning
  by_archive_plan : Outcome ArchivePlanKinds.ps ArchivePlanKinds.r ArchivePlan.Learnt → Planning

pub record PlanSeen : Type 0 where
  pub c : ℕ
  pub work : List ℕ
  pub recipe : List ℕ
  pub number : ℕ
  pub lines : ℕ
  pub work' : List ℕ
  pub recipe' : List ℕ

abbrev pub plan_seen : Planning → PlanSeen
plan_seen (by_plan o) = record {
  c = o.came.0;
  work = o.came.1.0.now;
  recipe = o.came.1.1.0.now;
  number = number_of o.answer;
  lines = planned_lines o.answer;
  work' = o.left.1.0.now;
  recipe' = o.left.1.1.0.now;
}
plan_seen (by_archive_plan o) = record {
  c = o.came.0;
  work = o.came.1.0.now;
  recipe = o.came.1.1.0.now;
  number = o.answer;
  lines = o.left.1.1.1.0.now;
  work' = o.left.1.0.now;
  recipe' = o.left.1.1.0.now;
}

-- ---- writing

pub data Writing : Type 0 where
  by_write : Outcome WriteKinds.ps WriteKinds.r Write.Learnt → Writing
  by_write_plain : Outcome WritePlainKinds.ps WritePlainKinds.r WritePlain.Learnt → Writing
  by_archive_write : Outcome ArchiveWriteKinds.ps ArchiveWriteKinds.r ArchiveWrite.Learnt → Writing
  by_archive_write_plain : Outcome ArchiveWritePlainKinds.ps ArchiveWritePlainKinds.r ArchiveWritePlain.Learnt → Writing

pub record WriteSeen : Type 0 where
  pub c : ℕ
  pub w : ℕ
  pub x : List ℤ
  pub first : ℕ
  pub recipe : List ℕ
  pub bits : List ℤ
  pub clauses : List ℤ
  pub told : Told
  pub words_used : ℕ
  pub clauses_written : ℕ
  pub next : ℕ
  pub bits_of_y : ℕ
  pub bits' : List ℤ
  pub clauses' : List ℤ

abbrev pub write_seen : Writing → WriteSeen
write_seen (by_write o) = record {
  c = o.came.0;
  w = o.came.1.0;
  x = o.came.1.1.0.now;
  first = o.came.1.1.1.0;
  recipe = o.came.1.1.1.1.0.now;
  bits = o.came.1.1.1.1.1.0.now;
  clauses = o.came.1.1.1.1.1.1.0.now;
  told = told_of o.answer;
  words_used = words_used o.answer;
  clauses_written = clauses_written o.answer;
  next = next_free o.answer;
  bits_of_y = bits_of_y o.answer;
  bits' = o.left.1.1.1.1.1.0.now;
  clauses' = o.left.1.1.1.1.1.1.0.now;
}
write_seen (by_write_plain o) = record {
  c = o.came.0;
  w = o.came.1.0;
  x = numbered 1 o.came.1.0;
  first = suc o.came.1.0;
  recipe = o.came.1.1.0.now;
  bits = o.came.1.1.1.0.now;
  clauses = o.came.1.1.1.1.0.now;
  told = told_of o.answer;
  words_used = words_used o.answer;
  clauses_written = clauses_written o.answer;
  next = next_free o.answer;
  bits_of_y = bits_of_y o.answer;
  bits' = o.left.1.1.1.0.now;
  clauses' = o.left.1.1.1.1.0.now;
}
write_seen (by_archive_write o) = record {
  c = o.came.0;
  w = o.came.1.0;
  x = o.came.1.1.0.now;
  first = o.came.1.1.1.0;
  recipe = o.came.1.1.1.1.0.now;
  bits = o.came.1.1.1.1.1.0.now;
  clauses = o.came.1.1.1.1.1.1.0.now;
  told = record {
    number = o.answer;
    line = o.left.1.1.1.1.1.1.1.1.1.1.1.0.now;
    value = o.left.1.1.1.1.1.1.1.1.1.1.1.1.0.now;
  };
  words_used = o.left.1.1.1.1.1.1.1.0.now;
  clauses_written = o.left.1.1.1.1.1.1.1.1.0.now;
  next = o.left.1.1.1.1.1.1.1.1.1.0.now;
  bits_of_y = o.left.1.1.1.1.1.1.1.1.1.1.0.now;
  bits' = o.left.1.1.1.1.1.0.now;
  clauses' = o.left.1.1.1.1.1.1.0.now;
}
write_seen (by_archive_write_plain o) = record {
  c = o.came.0;
  w = o.came.1.0;
  x = numbered 1 o.came.1.0;
  first = suc o.came.1.0;
  recipe = o.came.1.1.0.now;
  bits = o.came.1.1.1.0.now;
  clauses = o.came.1.1.1.1.0.now;
  told = record {
    number = o.answer;
    line = o.left.1.1.1.1.1.1.1.1.1.0.now;
    value = o.left.1.1.1.1.1.1.1.1.1.1.0.now;
  };
  words_used = o.left.1.1.1.1.1.0.now;
  clauses_written = o.left.1.1.1.1.1.1.0.now;
  next = o.left.1.1.1.1.1.1.1.0.now;
  bits_of_y = o.left.1.1.1.1.1.1.1.1.0.now;
  bits' = o.left.1.1.1.0.now;
  clauses' = o.left.1.1.1.1.0.now;
}

-- the words and the entries that stand in the rooms at exit
abbrev pub words_there : WriteSeen → List ℤ
words_there s = take s.words_used s.clauses'

abbrev pub entries_there : WriteSeen → List ℤ
entries_there s = take s.bits_of_y s.bits'

-- ---- one pass over words

pub data Passing : Type 0 where
  by_propagate : Outcome PropagateKinds.ps PropagateKinds.r Propagate.Learnt → Passing
  by_archive_propagate : Outcome ArchivePropagateKinds.ps ArchivePropagateKinds.r ArchivePropagate.Learnt → Passing

pub record PassSeen : Type 0 where
  pub words : List ℤ
  pub given : List ℤ
  pub allowance : ℕ
  pub values : List ℕ
  pub number : ℕ
  pub clauses : ℕ
  pub values' : List ℕ

abbrev pub pass_seen : Passing → PassSeen
pass_seen (by_propagate o) = record {
  words = o.came.0.now;
  given = o.came.1.0.now;
  allowance = o.came.1.1.0;
  values = o.came.1.1.1.0.now;
  number = number_of o.answer;
  clauses = clauses_read o.answer;
  values' = o.left.1.1.1.0.now;
}
pass_seen (by_archive_propagate o) = record {
  words = o.came.0.now;
  given = o.came.1.0.now;
  allowance = o.came.1.1.0;
  values = o.came.1.1.1.0.now;
  number = o.answer;
  clauses = o.left.1.1.1.1.0.now;
  values' = o.left.1.1.1.0.now;
}
