-- What each public call leaves is fixed by its contract alone: two outcomes of one call that satisfy it have the same answer and leave
-- the same in each room and field. `Learnt` is what a caller learns of an outcome, the contract's `ensures` as it stands in the code;
-- nothing else is taken for granted, so a contract that left something open would be refused here. Of `records::read_full`, which reads by
-- std's contract of a reader, it is said of two successes over known bytes (`read_full_once` names what it asks).
use Prim.Native.Nat.{ℕ}
use mathlib.Core.Path.{◌≡◌, sym, ap, ◌∙◌}
use mathlib.Core.List.{List}
use Rattle.std.specs.Prelude.{length, take, Some, Ok}
use Rattle.std.specs.declared.clone.Clone as Clone
use Rattle.std.specs.declared.io.traits.Read as Read
use mir.Syntax.{Dict}
use lib.IntN.{ℤ}
use contract.Lifetimes.{Lfts}
use denote.Triple.Clauses.{AtExit}
use denote.RattleType.{RattleType}
use denote.Param.Laws.{Laws, IsCopy}
use borrow.Fn.Kinds.{ParamKind, ResultKind, Out, Dens, res_t, ended_of}
use Rattle.line.proofs.Line.read.Kinds as LineReadKinds
use Rattle.line.proofs.Line.read.Reads as LineRead
use Rattle.line.proofs.Line.made.Kinds as LineMadeKinds
use Rattle.line.proofs.Line.made.Reads as LineMade
use Rattle.line.proofs.Line.bytes.Kinds as LineBytesKinds
use Rattle.line.proofs.Line.bytes.Reads as LineBytes
use Rattle.line.proofs.bit_length.Kinds as BitLengthKinds
use Rattle.line.proofs.bit_length.Reads as BitLength
use Rattle.line.proofs.twos.Kinds as TwosKinds
use Rattle.line.proofs.twos.Reads as Twos
use Rattle.line.proofs.odd_part.Kinds as OddPartKinds
use Rattle.line.proofs.odd_part.Reads as OddPart
use Rattle.line.proofs.out_of_range.Kinds as OutOfRangeKinds
use Rattle.line.proofs.out_of_range.Reads as OutOfRange
use Rattle.line.proofs.not_a_width.Kinds as NotAWidthKinds
use Rattle.line.proofs.not_a_width.Reads as NotAWidth
use Rattle.line.proofs.Line.gives.Kinds as LineGivesKinds
use Rattle.line.proofs.Line.gives.Reads as LineGives
use Rattle.line.proofs.magnitude.Kinds as MagnitudeKinds
use Rattle.line.proofs.magnitude.Reads as Magnitude
use Rattle.line.proofs.told_of.Kinds as ToldOfKinds
use Rattle.line.proofs.told_of.Reads as ToldOf
use Rattle.line.proofs.number_of.Kinds as NumberOfKinds
use Rattle.line.proofs.number_of.Reads as NumberOf
use Rattle.line.proofs.Refusal.told.Kinds as RefusalToldKinds
use Rattle.line.proofs.Refusal.told.Reads as RefusalTold
use Rattle.line.proofs.Refusal.number.Kinds as RefusalNumberKinds
use Rattle.line.proofs.Refusal.number.Reads as RefusalNumber
use Rattle.records.specs.declared.Entry as Entry
use Rattle.records.proofs.Outcomes.{ended_once, to_the_end_said, reads_once, read_full_said}
use Rattle.records.proofs.read_full.Kinds as ReadFullKinds
use Rattle.records.proofs.read_full.Reads as ReadFull
use Rattle.records.proofs.to_the_end.Kinds as ToTheEndKinds
use Rattle.records.proofs.to_the_end.Reads as ToTheEnd
use Rattle.records.proofs.checksum.Kinds as ChecksumKinds
use Rattle.records.proofs.checksum.Reads as Checksum
use Rattle.records.proofs.Entry.unsigned.Kinds as EntryUnsignedKinds
use Rattle.records.proofs.Entry.unsigned.Reads as EntryUnsigned
use Rattle.recipe.proofs.check.Kinds as CheckKinds
use Rattle.recipe.proofs.check.Reads as Check
use Rattle.recipe.proofs.check_lines.Kinds as CheckLinesKinds
use Rattle.recipe.proofs.check_lines.Reads as CheckLines
use Rattle.plan.specs.Plan.{Planning}
use Rattle.plan.proofs.plan.Kinds as PlanKinds
use Rattle.plan.proofs.plan.Reads as Plan
use Rattle.plan.proofs.lines_of.Kinds as PlannedLinesKinds
use Rattle.plan.proofs.lines_of.Reads as PlannedLines
use Rattle.product.proofs.counts_of.Kinds as WrittenCountsKinds
use Rattle.product.proofs.counts_of.Reads as WrittenCounts
use Rattle.gates.proofs.flipped.Kinds as FlippedKinds
use Rattle.gates.proofs.flipped.Reads as Flipped
use Rattle.gates.proofs.word.Kinds as WordKinds
use Rattle.gates.proofs.word.Reads as Word
use Rattle.gates.proofs.write_column.Kinds as WriteColumnKinds
use Rattle.gates.proofs.write_column.Reads as WriteColumn
use Rattle.cnf.proofs.named.Kinds as NamedKinds
use Rattle.cnf.proofs.named.Reads as Named
use Rattle.propagate.proofs.propagate.Kinds as PropagateKinds
use Rattle.propagate.proofs.propagate.Reads as Propagate
use Rattle.propagate.proofs.clauses_of.Kinds as PropagatedClausesKinds
use Rattle.propagate.proofs.clauses_of.Reads as PropagatedClauses
use Rattle.write.proofs.write_plain.Kinds as WritePlainKinds
use Rattle.write.proofs.write_plain.Reads as WritePlain
use Rattle.write.proofs.write.Kinds as WriteKinds
use Rattle.write.proofs.write.Reads as Write
use Rattle.dimacs.proofs.file.Kinds as FileKinds
use Rattle.dimacs.proofs.file.Reads as File
use Rattle.propagate.specs.Pass.{Propagating}
use Rattle.wording.specs.Print.{Printing}
use Rattle.product.specs.Write.{Writing, writing}
use Rattle.product.specs.Write.{Written}
use Rattle.ladlebean.proofs.Apart.{told_once, apart_once}
use Rattle.ladlebean.proofs.ladlebean_check.Kinds as ArchiveCheckKinds
use Rattle.ladlebean.proofs.ladlebean_check.Reads as ArchiveCheck
use Rattle.ladlebean.proofs.ladlebean_plan.Kinds as ArchivePlanKinds
use Rattle.ladlebean.proofs.ladlebean_plan.Reads as ArchivePlan
use Rattle.ladlebean.proofs.ladlebean_write.Kinds as ArchiveWriteKinds
use Rattle.ladlebean.proofs.ladlebean_write.Reads as ArchiveWrite
use Rattle.ladlebean.proofs.ladlebean_write_plain.Kinds as ArchiveWritePlainKinds
use Rattle.ladlebean.proofs.ladlebean_write_plain.Reads as ArchiveWritePlain
use Rattle.ladlebean.proofs.ladlebean_propagate.Kinds as ArchivePropagateKinds
use Rattle.ladlebean.proofs.ladlebean_propagate.Reads as ArchivePropagate

-- an outcome is an answer and the parameters at exit; `Same` compares two of them
abbrev Coincide : {n : ℕ} (ps : List (ParamKind n)) (r : ResultKind n) → Out n ps r
    → ((κs : Lfts n) → (res_t r κs).Denot → (res_t r κs).Denot → AtExit (ended_of n ps r) κs → AtExit (ended_of n ps r) κs → Type 0)
    → Type 0
Coincide {n} ps r P Same =
    (κs : Lfts n) (a : Dens κs ps) (x y : (res_t r κs).Denot) (e f : AtExit (ended_of n ps r) κs) → P κs a x e → P κs a y f
    → Same κs x y e f

-- where a call only answers
abbrev Answers : {n : ℕ} (ps : List (ParamKind n)) (r : ResultKind n) → Out n ps r → Type 0
Answers ps r P = Coincide ps r P (λ κs x y e f. x ≡ y)

pub line_read_once : Answers LineReadKinds.ps LineReadKinds.r LineRead.Learnt
line_read_once κs a x y e f p q = p ∙ sym q

pub line_made_once : Answers LineMadeKinds.ps LineMadeKinds.r LineMade.Learnt
line_made_once κs a x y e f p q = p ∙ sym q

pub line_bytes_once : Answers LineBytesKinds.ps LineBytesKinds.r LineBytes.Learnt
line_bytes_once κs a x y e f p q = p ∙ sym q

pub bit_length_once : Answers BitLengthKinds.ps BitLengthKinds.r BitLength.Learnt
bit_length_once κs a x y e f p q = p.0 ∙ sym q.0

pub twos_once : Answers TwosKinds.ps TwosKinds.r Twos.Learnt
twos_once κs a x y e f p q = p.0 ∙ sym q.0

pub odd_part_once : Answers OddPartKinds.ps OddPartKinds.r OddPart.Learnt
odd_part_once κs a x y e f p q = p.0 ∙ sym q.0

pub out_of_range_once : Answers OutOfRangeKinds.ps OutOfRangeKinds.r OutOfRange.Learnt
out_of_range_once κs a x y e f p q = p ∙ sym q

pub not_a_width_once : Answers NotAWidthKinds.ps NotAWidthKinds.r NotAWidth.Learnt
not_a_width_once κs a x y e f p q = p ∙ sym q

pub line_gives_once : Answers LineGivesKinds.ps LineGivesKinds.r LineGives.Learnt
line_gives_once κs a x y e f p q = p ∙ sym q

pub magnitude_once : Answers MagnitudeKinds.ps MagnitudeKinds.r Magnitude.Learnt
magnitude_once κs a x y e f p q = p ∙ sym q

pub refusal_told_once : Answers RefusalToldKinds.ps RefusalToldKinds.r RefusalTold.Learnt
refusal_told_once κs a x y e f p q = p.0 ∙ sym q.0

pub refusal_number_once : Answers RefusalNumberKinds.ps RefusalNumberKinds.r RefusalNumber.Learnt
refusal_number_once κs a x y e f p q = p.0 ∙ sym q.0

pub told_of_once : (A : RattleType) (h : Laws A) → Answers (ToldOfKinds.ps A h) (ToldOfKinds.r A h) (ToldOf.Learnt A h)
told_of_once A h κs a x y e f p q = p ∙ sym q

pub number_of_once : (A : RattleType) (h : Laws A) → Answers (NumberOfKinds.ps A h) (NumberOfKinds.r A h) (NumberOf.Learnt A h)
number_of_once A h κs a x y e f p q = p.0 ∙ sym q.0

pub check_once : Answers CheckKinds.ps CheckKinds.r Check.Learnt
check_once κs a x y e f p q = p ∙ sym q

pub check_lines_once : Answers CheckLinesKinds.ps CheckLinesKinds.r CheckLines.Learnt
check_lines_once κs a x y e f p q = p ∙ sym q

pub plan_once : Coincide PlanKinds.ps PlanKinds.r Plan.Learnt
    (λ κs x y e f. (x ≡ y) × (e.1.0.now ≡ f.1.0.now) × (e.1.1.0.now ≡ f.1.1.0.now))
plan_once κs a x y e f p q =
    let z = p ∙ sym q in
    (ap (λ (o : Planning). o.answer) z, ap (λ (o : Planning). o.work) z, ap (λ (o : Planning). o.recipe) z)

pub planned_lines_once : Answers PlannedLinesKinds.ps PlannedLinesKinds.r PlannedLines.Learnt
planned_lines_once κs a x y e f p q = p ∙ sym q

pub written_counts_once : Answers WrittenCountsKinds.ps WrittenCountsKinds.r WrittenCounts.Learnt
written_counts_once κs a x y e f p q = p ∙ sym q

pub flipped_once : Answers FlippedKinds.ps FlippedKinds.r Flipped.Learnt
flipped_once κs a x y e f p q = p ∙ sym q

pub word_once : Answers WordKinds.ps WordKinds.r Word.Learnt
word_once κs a x y e f p q = p ∙ sym q

pub named_once : Answers NamedKinds.ps NamedKinds.r Named.Learnt
named_once κs a x y e f p q = p.0 ∙ sym q.0

pub write_column_once : Coincide WriteColumnKinds.ps WriteColumnKinds.r WriteColumn.Learnt
    (λ κs x y e f. (x ≡ y) × (e.1.1.0.now ≡ f.1.1.0.now))
write_column_once κs a x y e f p q = (p.0 ∙ sym q.0, p.1 ∙ sym q.1)

written_once : {o : Writing} {a a' : Written} {b b' c c' : List ℤ} → writing a b c ≡ o → writing a' b' c' ≡ o → (a ≡ a') × (b ≡ b')
    × (c ≡ c')
written_once p q =
    let e = p ∙ sym q in
    (ap (λ (w : Writing). w.answer) e, ap (λ (w : Writing). w.bits) e, ap (λ (w : Writing). w.clauses) e)

pub write_once : Coincide WriteKinds.ps WriteKinds.r Write.Learnt
    (λ κs x y e f. (x ≡ y) × (e.1.1.1.1.1.0.now ≡ f.1.1.1.1.1.0.now)
    × (e.1.1.1.1.1.1.0.now ≡ f.1.1.1.1.1.1.0.now))
write_once κs a x y e f p q = written_once p q

pub write_plain_once : Coincide WritePlainKinds.ps WritePlainKinds.r WritePlain.Learnt
    (λ κs x y e f. (x ≡ y) × (e.1.1.1.0.now ≡ f.1.1.1.0.now) × (e.1.1.1.1.0.now ≡ f.1.1.1.1.0.now))
write_plain_once κs a x y e f p q = written_once p q

pub file_once : Coincide FileKinds.ps FileKinds.r File.Learnt (λ κs x y e f. (x ≡ y) × (e.1.0.now ≡ f.1.0.now))
file_once κs a x y e f p q =
    let s = p.left ∙ sym q.left in
    (ap (λ (o : Printing). o.answer) s, ap (λ (o : Printing). o.room) s)

pub archive_check_once : Coincide ArchiveCheckKinds.ps ArchiveCheckKinds.r ArchiveCheck.Learnt (λ κs x y e f.
    (x ≡ y)
    × (e.1.1.0.now ≡ f.1.1.0.now)
    × (e.1.1.1.0.now ≡ f.1.1.1.0.now))
archive_check_once κs a x y e f p q = told_once p q

pub archive_plan_once : Coincide ArchivePlanKinds.ps ArchivePlanKinds.r ArchivePlan.Learnt
    (λ κs x y e f. (x ≡ y) × (e.1.0.now ≡ f.1.0.now) × (e.1.1.0.now ≡ f.1.1.0.now)
    × (e.1.1.1.0.now ≡ f.1.1.1.0.now))
archive_plan_once κs a x y e f p q = (
  p.number_told ∙ sym q.number_told,
  p.work_room ∙ sym q.work_room,
  p.recipe_room ∙ sym q.recipe_room,
  p.lines_told ∙ sym q.lines_told,
)

pub archive_write_once : Coincide ArchiveWriteKinds.ps ArchiveWriteKinds.r ArchiveWrite.Learnt (λ κs x y e f.
    (x ≡ y)
    × (e.1.1.1.1.1.0.now ≡ f.1.1.1.1.1.0.now)
    × (e.1.1.1.1.1.1.0.now ≡ f.1.1.1.1.1.1.0.now)
    × (e.1.1.1.1.1.1.1.0.now ≡ f.1.1.1.1.1.1.1.0.now)
    × (e.1.1.1.1.1.1.1.1.0.now ≡ f.1.1.1.1.1.1.1.1.0.now)
    × (e.1.1.1.1.1.1.1.1.1.0.now ≡ f.1.1.1.1.1.1.1.1.1.0.now)
    × (e.1.1.1.1.1.1.1.1.1.1.0.now ≡ f.1.1.1.1.1.1.1.1.1.1.0.now)
    × (e.1.1.1.1.1.1.1.1.1.1.1.0.now ≡ f.1.1.1.1.1.1.1.1.1.1.1.0.now)
    × (e.1.1.1.1.1.1.1.1.1.1.1.1.0.now ≡ f.1.1.1.1.1.1.1.1.1.1.1.1.0.now))
archive_write_once κs a x y e f p q = apart_once p q

pub archive_write_plain_once : Coincide ArchiveWritePlainKinds.ps ArchiveWritePlainKinds.r ArchiveWritePlain.Learnt (λ κs x y e f.
    (x ≡ y)
    × (e.1.1.1.0.now ≡ f.1.1.1.0.now)
    × (e.1.1.1.1.0.now ≡ f.1.1.1.1.0.now)
    × (e.1.1.1.1.1.0.now ≡ f.1.1.1.1.1.0.now)
    × (e.1.1.1.1.1.1.0.now ≡ f.1.1.1.1.1.1.0.now)
    × (e.1.1.1.1.1.1.1.0.now ≡ f.1.1.1.1.1.1.1.0.now)
    × (e.1.1.1.1.1.1.1.1.0.now ≡ f.1.1.1.1.1.1.1.1.0.now)
    × (e.1.1.1.1.1.1.1.1.1.0.now ≡ f.1.1.1.1.1.1.1.1.1.0.now)
    × (e.1.1.1.1.1.1.1.1.1.1.0.now ≡ f.1.1.1.1.1.1.1.1.1.1.0.now))
archive_write_plain_once κs a x y e f p q = apart_once p q

pub propagated_clauses_once : Answers PropagatedClausesKinds.ps PropagatedClausesKinds.r PropagatedClauses.Learnt
propagated_clauses_once κs a x y e f p q = p ∙ sym q

pub propagate_once : Coincide PropagateKinds.ps PropagateKinds.r Propagate.Learnt
    (λ κs x y e f. (x ≡ y) × (e.1.1.1.0.now ≡ f.1.1.1.0.now))
propagate_once κs a x y e f p q =
    let s = p ∙ sym q in
    (ap (λ (o : Propagating). o.answer) s, ap (λ (o : Propagating). o.room) s)

pub archive_propagate_once : Coincide ArchivePropagateKinds.ps ArchivePropagateKinds.r ArchivePropagate.Learnt
    (λ κs x y e f. (x ≡ y) × (e.1.1.1.0.now ≡ f.1.1.1.0.now) × (e.1.1.1.1.0.now ≡ f.1.1.1.1.0.now))
archive_propagate_once κs a x y e f p q =
    (p.number_told ∙ sym q.number_told, p.value_room ∙ sym q.value_room, p.clauses_told ∙ sym q.clauses_told)

-- Two successes of one call, over a reader whose bytes are known: the number told, that many bytes at the room's front, and what the
-- reader has left are the same. A lent room keeps its length by its type, which `Learnt` leaves out, so that is asked for. What stands
-- behind these bytes, and all of it where a read fails or the reader's bytes are not known, the contract leaves open.
pub read_full_once : (A : RattleType) (h : Laws A) (reader : Read.Ghosts A.Denot) (dict : Dict) (known : List ℕ)
    → Coincide (ReadFullKinds.ps A h) (ReadFullKinds.r A h)
    (λ κs a x e. ReadFull.Learnt A h reader dict κs a x e × (length e.1.0.now ≡ length a.1.0.now)
    × (reader.remaining a.0.now ≡ Some known))
    (λ κs x y e f. (n m : ℕ) → x ≡ Ok n → y ≡ Ok m
    → (n ≡ m) × (take n e.1.0.now ≡ take m f.1.0.now) × (reader.remaining e.0.now ≡ reader.remaining f.0.now))
read_full_once A h reader dict known κs a x y e f p q n m is_n is_m =
    reads_once known _ _ _ e.1.0.now f.1.0.now n m p.2 (p.1 ∙ sym q.1) (read_full_said A h reader dict κs a x e n is_n p.0)
    (read_full_said A h reader dict κs a y f m is_m q.0)

pub to_the_end_once : Answers ToTheEndKinds.ps ToTheEndKinds.r ToTheEnd.Learnt
to_the_end_once κs a x y e f p q = ended_once a.0 x y (to_the_end_said κs a x e p) (to_the_end_said κs a y f q)

pub checksum_once : (A : RattleType) (h : Laws A) (c : IsCopy A) (entry : Entry.Ghosts A.Denot) (entry-dict : Dict)
    (clone : Clone.Ghosts A.Denot) (clone-dict : Dict)
    → Answers (ChecksumKinds.ps A h c) (ChecksumKinds.r A h c) (Checksum.Learnt A h c entry entry-dict clone clone-dict)
checksum_once A h c entry entry-dict clone clone-dict κs a x y e f p q = p ∙ sym q

pub entry_unsigned_once : (A : RattleType) (h : Laws A) (c : IsCopy A) (entry : Entry.Ghosts A.Denot) (entry-dict : Dict)
    (clone : Clone.Ghosts A.Denot) (clone-dict : Dict)
    → Answers (EntryUnsignedKinds.ps A h c) (EntryUnsignedKinds.r A h c) (EntryUnsigned.Learnt A h c entry entry-dict clone clone-dict)
entry_unsigned_once A h c entry entry-dict clone clone-dict κs a x y e f p q = p ∙ sym q
