-- The loop over the columns of a sum: what holds after j columns, where it begins, and one column more.
use Prim.Native.Nat.{ℕ, suc, ◌+◌, ◌-◌, ◌*◌, ◌<◌, ◌≤◌}
use mathlib.Core.Path.{◌≡◌, refl, sym, ap, ap₂, ◌∙◌}
use mathlib.Core.Bool.{Bool}
use mathlib.Core.List.{List, [], ◌∷◌, ◌++◌, append-nil, append_assoc, map-append}
use mathlib.Core.Logic.{⊎_elim}
use native.Mathlib.Omega.{arith}
use native.Mathlib.Nat.{eq-or-lt_of_le}
use native.Mathlib.Numerals.{add-one}
use lib.ListN.{length, get_or, drop, set, length-append, length-map}
use lib.Dec.{eqb}
use lib.IntN.{ℤ}
use lib.Seq.{sets}
use borrow.Author.Tests.{eq-eqb, ne_eqb}
use borrow.Rule.Slice.PartMut.{put_mid, mid_of}
use Rattle.cnf.specs.Clause.{Clause}
use Rattle.cnf.specs.Words.{words}
use Rattle.cnf.proofs.Words.{words_append}
use Rattle.product.specs.Bit.{Bit}
use Rattle.product.specs.Column.{Column, column}
use Rattle.product.specs.Lines.{Sum, none_left, adder}
use Rattle.gates.specs.Code.{bit_of, bits_of}
use Rattle.gates.specs.Gate.{taken, after}
use Rattle.gates.specs.declared.Taken.{Taken}
use Rattle.write.specs.Sizes.{most_column_words, most_column_clauses}
use Rattle.write.specs.Column.{made_clauses, MatchesColumn}
use Rattle.write.specs.Rooms.{SumIs}
use Rattle.write.specs.declared.column.MadeColumn.{MadeColumn}
use Rattle.write.specs.declared.lines.Place.{Place}
use Rattle.product.proofs.Nexts.{adder_grows}
use Rattle.product.proofs.At.{rest, rest_step, rest_end, last_column, not_last}
use Rattle.gates.proofs.Codes.{bit_at}
use Rattle.gates.proofs.GateWords.{column_few, fits}
use Rattle.line.proofs.Room.{sets_append, store_last, length_rest, length_put, lent}

-- after j columns: the whole sum is what was made, and then the rest from column j on
pub record UptoColumn (whole : Sum) (xs ys : List Bit) (from : Place) (sums₀ : List ℕ) (room₀ : List ℤ) (sums : List ℕ) (room : List ℤ)
    (carry : ℕ) (at : Place) (j : ℕ) : Type 0 where
  pub codes : List ℕ
  pub made : List Clause
  pub bits_are : whole.bits ≡ bits_of codes ++ (rest xs ys j (bit_of carry) at.next).bits
  pub clauses_are : whole.clauses ≡ made ++ (rest xs ys j (bit_of carry) at.next).clauses
  pub next_is : whole.next ≡ (rest xs ys j (bit_of carry) at.next).next
  pub used_is : at.words ≡ from.words + length (words made)
  pub n_is : at.clauses ≡ from.clauses + length made
  pub sums_are : sums ≡ sets sums₀ 0 codes
  pub sums_long : length codes ≡ j
  pub room_is : at.words ≤ length room₀ → room ≡ sets room₀ from.words (words made)
  pub room_same : length room ≡ length room₀
  pub free_pos : 0 < at.next
  pub grows : from.next ≤ at.next
  pub used_small : at.words ≤ from.words + most_column_words * j
  pub n_small : at.clauses ≤ from.clauses + most_column_clauses * j

module _ (left right : List ℕ) (first m : ℕ) (from : Place) (sums₀ : List ℕ) (room₀ : List ℤ) (hl : length left ≡ m) (hr : length right ≡ m)
  where
    abbrev whole : Sum
    whole = adder (bits_of left) (bits_of right) (bit_of first) from.next

    pub sum_begins : 0 < from.next
        → UptoColumn whole (bits_of left) (bits_of right) from sums₀ room₀ sums₀ room₀ first from 0
    unfolding rest
    sum_begins h = record {
      codes = [];
      made = [];
      bits_are = refl;
      clauses_are = refl;
      next_is = refl;
      used_is = omega arith;
      n_is = omega arith;
      sums_are = refl;
      sums_long = refl;
      room_is = λ h. refl;
      room_same = refl;
      free_pos = h;
      grows = omega arith;
      used_small = omega arith;
      n_small = omega arith;
    }

    last_is : (j : ℕ) → j < m → none_left (drop (suc j) (bits_of left)) ≡ eqb (j + 1) m
    last_is j h =
        ⊎_elim
        (λ (e : suc j ≡ m). last_column (bits_of left) (suc j) (omega (arith, length-map left bit_of))
        ∙ sym (eq-eqb (j + 1) m (omega arith)))
        (λ (l : suc j < m). not_last (bits_of left) (suc j) (omega (arith, length-map left bit_of))
        ∙ sym (ne_eqb (j + 1) m (λ e. omega arith)))
        (eq-or-lt_of_le {n = suc j} {m = m} h)

    -- column j, of codes
    abbrev column_made : ℕ → ℕ → ℕ → Column
    column_made carry free j = column (bit_of (get_or left j 0)) (bit_of (get_or right j 0)) (bit_of carry) (eqb (j + 1) m) free

    -- the rest from column j on is this column, and then the rest behind it
    column_step : (carry free j : ℕ) → j < m → let k = column_made carry free j in
        let all = rest (bits_of left) (bits_of right) j (bit_of carry) free in
        let behind = rest (bits_of left) (bits_of right) (suc j) k.carry_bit k.next in
        (all.bits ≡ k.sum_bit ∷ behind.bits) × (all.clauses ≡ k.clauses ++ behind.clauses) × (all.next ≡ behind.next)
    column_step carry free j h =
        rest_step (bits_of left) (bits_of right) j (bit_of carry) free (column_made carry free j)
        (omega (arith, length-map left bit_of)) (omega (arith, length-map right bit_of))
        (ap₂ (λ (a b : Bit). column a b (bit_of carry) (none_left (drop (suc j) (bits_of left))) free) (bit_at left j) (bit_at right j)
        ∙ ap (λ (t : Bool). column (bit_of (get_or left j 0)) (bit_of (get_or right j 0)) (bit_of carry) t free) (last_is j h))

    -- a column's next free variable is at most that of the whole
    pub column_fits : (sums : List ℕ) (room : List ℤ) (carry : ℕ) (at : Place) (j k : ℕ) → j < m
        → UptoColumn whole (bits_of left) (bits_of right) from sums₀ room₀ sums room carry at j → whole.next ≤ k
        → (column_made carry at.next j).next ≤ k
    unfolding rest
    column_fits sums room carry at j k h u f =
        let col = column_made carry at.next j in
        let later = (adder_grows (drop (suc j) (bits_of left)) (drop (suc j) (bits_of right)) col.carry_bit col.next).0 in
        omega (arith, f, u.next_is, (column_step carry at.next j h).2, later)

    -- one column more, lent the rest of the room from `start` on
    pub sum_goes_on : (sums : List ℕ) (room : List ℤ) (carry : ℕ) (at : Place) (j : ℕ) → j < m
        → UptoColumn whole (bits_of left) (bits_of right) from sums₀ room₀ sums room carry at j
        → (c : MadeColumn)
        → MatchesColumn at.next c (column_made carry at.next j)
        → (start : ℕ) → start ≤ length room → (at.words ≤ length room → start ≡ at.words)
        → (took : Taken) → took ≡ taken (made_clauses c)
        → (part : List ℤ) → part ≡ after (made_clauses c) (mid_of start (length room - start) room)
        → length part ≡ length (mid_of start (length room - start) room)
        → (to : Place) → to ≡ record { next = c.next; words = at.words + took.words; clauses = at.clauses + took.clauses }
        → UptoColumn whole (bits_of left) (bits_of right) from sums₀ room₀ (set sums j c.sum)
        (put_mid start (length room - start) room part) c.carry to (j + 1)
    unfolding taken
    sum_goes_on sums room carry at j h u c g start le is took et part ep same-part to eto =
        let free = at.next in
        let used = at.words in
        let to_next : to.next ≡ c.next = ap (λ (p : Place). p.next) eto in
        let to_words : to.words ≡ at.words + took.words = ap (λ (p : Place). p.words) eto in
        let to_clauses : to.clauses ≡ at.clauses + took.clauses = ap (λ (p : Place). p.clauses) eto in
        let needs : took.words ≡ length (words (made_clauses c)) = ap (λ (t : Taken). t.words) et in
        let counts : took.clauses ≡ length (made_clauses c) = ap (λ (t : Taken). t.clauses) et in
        let few = column_few c.parity c.majority in
        let xs = bits_of left in
        let ys = bits_of right in
        let col = column_made carry free j in
        let s = column_step carry free j h in
        let R = rest xs ys (j + 1) (bit_of c.carry) to.next in
        let same : rest xs ys (suc j) col.carry_bit col.next ≡ R =
        ap₂ (λ (x : Bit) (y : ℕ). rest xs ys (suc j) x y) (sym g.carry) (sym g.next)
        ∙ ap₂ (λ (i y : ℕ). rest xs ys i (bit_of c.carry) y) (sym (add-one j)) (sym to_next) in
        let ws : words (made_clauses c) ≡ words col.clauses = ap (λ (x : List Clause). words x) g.clauses in
        let wa = words_append u.made col.clauses in
        let wl : length (words (u.made ++ col.clauses)) ≡ length (words u.made) + length (words (made_clauses c)) =
        ap (λ (x : List ℤ). length x) wa
        ∙ (length-append (words u.made) (words col.clauses) ∙ ap (λ (x : List ℤ). length (words u.made) + length x) (sym ws)) in
        record {
          codes = u.codes ++ (c.sum ∷ []);
          made = u.made ++ col.clauses;
          bits_are =
              u.bits_are
              ∙ (ap (λ (b : List Bit). bits_of u.codes ++ b) (s.0 ∙ ap₂ (λ (t : Bit) (q : Sum). t ∷ q.bits) (sym g.sum) same)
              ∙ (sym (append_assoc (bits_of u.codes) (bit_of c.sum ∷ []) R.bits)
              ∙ ap (λ (b : List Bit). b ++ R.bits) (sym (map-append bit_of u.codes (c.sum ∷ [])))));
          clauses_are =
              u.clauses_are
              ∙ (ap (λ (b : List Clause). u.made ++ b) (s.1 ∙ ap (λ (q : Sum). col.clauses ++ q.clauses) same)
              ∙ sym (append_assoc u.made col.clauses R.clauses));
          next_is = u.next_is ∙ (s.2 ∙ ap (λ (q : Sum). q.next) same);
          used_is = omega (arith, needs, u.used_is, wl, to_words);
          n_is = omega (arith, to_clauses, counts, ap (λ (x : List Clause). length x) g.clauses, u.n_is, length-append u.made col.clauses);
          sums_are = ap (λ (x : List ℕ). set x j c.sum) u.sums_are ∙ store_last sums₀ u.codes c.sum j u.sums_long;
          sums_long = omega (arith, u.sums_long, length-append u.codes (c.sum ∷ []));
          room_is = λ h.
              let begins : start ≡ used = is (omega (arith, u.room_same, to_words)) in
              lent room part (words (made_clauses c)) start le
              (ep ∙ sym (fits (made_clauses c) (mid_of start (length room - start) room)
              (omega (arith, needs, length_rest room start le, u.room_same, to_words))))
              ∙ (ap₂ (λ (i : ℕ) (x : List ℤ). sets room i x) begins ws
              ∙ (ap₂ (λ (x : List ℤ) (i : ℕ). sets x i (words col.clauses)) (u.room_is (omega (arith, u.room_same, to_words))) u.used_is
              ∙ (sets_append (words u.made) (words col.clauses) room₀ from.words
              ∙ ap (λ (w : List ℤ). sets room₀ from.words w) (sym wa))));
          room_same = length_put room part start le same-part ∙ u.room_same;
          free_pos = omega (arith, g.grows, u.free_pos, to_next);
          grows = omega (arith, g.grows, u.grows, to_next);
          used_small = omega (arith, needs, few, u.used_small, to_words);
          n_small = omega (arith, counts, few, u.n_small, to_clauses);
        }

    pub sum_ends : (sums : List ℕ) (room : List ℤ) (carry : ℕ) (at : Place) (j : ℕ) → j ≡ m
        → UptoColumn whole (bits_of left) (bits_of right) from sums₀ room₀ sums room carry at j
        → SumIs whole from m 0 at sums₀ sums room₀ room
    sum_ends sums room carry at j ej u =
        let e = rest_end (bits_of left) (bits_of right) j (bit_of carry) at.next (omega (arith, length-map left bit_of)) in
        let cl : whole.clauses ≡ u.made = u.clauses_are ∙ (ap (λ (q : Sum). u.made ++ q.clauses) e ∙ append-nil u.made) in
        record {
          codes = u.codes;
          bits_are = sym (u.bits_are ∙ (ap (λ (q : Sum). bits_of u.codes ++ q.bits) e ∙ append-nil (bits_of u.codes)));
          stored = u.sums_are;
          next_is = sym (u.next_is ∙ ap (λ (q : Sum). q.next) e);
          words_are = u.used_is ∙ ap (λ (x : List Clause). from.words + length (words x)) (sym cl);
          clauses_are = u.n_is ∙ ap (λ (x : List Clause). from.clauses + length x) (sym cl);
          room_is = λ h. u.room_is h ∙ ap (λ (x : List Clause). sets room₀ from.words (words x)) (sym cl);
          grows = u.grows;
          words_few = omega (arith, u.used_small);
          clauses_few = omega (arith, u.n_small);
        }
