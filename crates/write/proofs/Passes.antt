-- One pass: x in the scratch room, and from the lines to the product; what two passes make of the rooms. Assumes nothing.
use Rattle.std.specs.Prelude.{Ok, Err}
use Prim.Native.Nat.{ℕ, zero, suc, ◌+◌, ◌-◌, ◌<◌, ◌≤◌}
use mathlib.Core.Path.{◌≡◌, refl, sym, ap, ap₂, subst, ◌∙◌}
use mathlib.Core.Bool.{Bool, true, false, cond}
use mathlib.Core.List.{List, [], ◌∷◌, ◌++◌, map}
use native.Mathlib.Omega.{arith}
use native.Mathlib.Nat.{add-zero, add-suc, suc-add}
use native.Mathlib.Numerals.{add-one}
use lib.Dec.{ltb}
use lib.IntN.{ℤ, pos}
use lib.ListN.{length, get_or, take, length-map, replicate, get_or-replicate, length-replicate, get_or-map, get_or-eq_default}
use lib.Seq.{sets, ext_get_or}
use native.Mathlib.Decide.{dec_lt}
use Rattle.line.specs.Limits.{most_next}
use Rattle.line.specs.Order.{first_broken, answer_by}
use Rattle.line.specs.declared.Line.{Line}
use Rattle.line.specs.declared.Refusal.{Refusal}
use Rattle.line.specs.Order.{Verdict}
use Rattle.cnf.specs.Clause.{Clause}
use Rattle.cnf.specs.Words.{word, words}
use Rattle.product.specs.Bit.{Bit, fixed, given, numbered, stored}
use Rattle.product.specs.Lines.{shifted, columns, Encoded, encoded}
use Rattle.product.specs.Product.{last_or, Product, product_made, lines_from, clause_words}
use Rattle.product.specs.Write.{unfit, need_tests, product_tests, clauses_of_product, Writing, writing, write_by, product_written}
use Rattle.product.specs.Write.{Written}
use Rattle.product.proofs.Lengths.{length_operands, length_lines}
use Rattle.product.proofs.Nexts.{Narrow, encoded_few}
use Rattle.product.proofs.Given.{fit_of, length_given, length_numbered, counts_as_numbered}
use Rattle.product.proofs.Tests.{kept_fits}
use Rattle.gates.specs.Code.{literal_of, bit_of, bits_of, code_of_word}
use Rattle.gates.proofs.Codes.{bit_zero, stored_word}
use Rattle.gates.proofs.Given.{bits_given}
use Rattle.line.proofs.Room.{take_sets, sets_above}
use Rattle.write.specs.Terms.{listed, shifted_code, operand_at, given_code, plain_literal, y_entry}
use Rattle.write.specs.Rooms.{Writable, LinesAre, CountsAre, PassIs}
use Rattle.write.specs.declared.lines.Place.{Place}
use Rattle.write.proofs.Tables.{length_listed, listed_at}
use Rattle.write.proofs.CodeTerms.{shifted_at}
use Rattle.write.proofs.CodeLines.{operand_bits}
use Rattle.write.specs.Sizes.{most_columns, scratch_size}

-- ---- x

numbered_snoc : (v w : ℕ) → numbered v (suc w) ≡ numbered v w ++ (pos (v + w) ∷ [])
unfolding numbered
numbered_snoc v zero = ap (λ (k : ℕ). pos k ∷ []) (sym (add-zero v))
numbered_snoc v (suc w) =
    ap (λ (l : List ℤ). pos v ∷ l)
    (numbered_snoc (suc v) w ∙ ap (λ (k : ℕ). numbered (suc v) w ++ (pos k ∷ [])) (suc-add v w ∙ sym (add-suc v w)))

numbered_none : [] ≡ numbered 1 0
unfolding numbered
numbered_none = refl

-- document 01's x as literals, and in the front of a room
plain_literals : (w : ℕ) → listed plain_literal w ≡ numbered 1 w
unfolding listed
plain_literals zero = numbered_none
plain_literals (suc w) = ap₂ (λ (l : List ℤ) (k : ℕ). l ++ (pos k ∷ [])) (plain_literals w) (omega arith) ∙ sym (numbered_snoc 1 w)

-- given literals as codes
given_bits : (first : ℕ) (x : List ℤ) → unfit first x ≡ false → bits_of (listed (given_code x) (length x)) ≡ given x
given_bits first x e =
    let f = given_code x in
    let n = length x in
    ap (λ (l : List ℕ). bits_of l)
    (ext_get_or 0 (listed f n) (map code_of_word x) (length_listed f n ∙ sym (length-map x code_of_word)) (λ j h.
    listed_at f n j 0 (omega (arith, length_listed f n)) ∙ sym (get_or-map code_of_word x j (pos 0))))
    ∙ bits_given first x (fit_of first x e)

-- x over zeros: it stands in the front, and behind it all is zero
abbrev blank : List ℕ
blank = replicate scratch_size 0

length_blank : length blank ≡ scratch_size
length_blank = length-replicate {A = ℕ} scratch_size 0

zeros_behind : (x : List ℕ) (j : ℕ) → length x ≤ j → get_or (sets blank 0 x) j 0 ≡ 0
zeros_behind x j h = sets_above blank x 0 j 0 (omega arith) ∙ go (dec_lt j scratch_size)
  where
    go : Dec (j < scratch_size) → ◌≡◌ {A = ℕ} (get_or blank j 0) 0
    go (yes q) = get_or-replicate scratch_size j 0 0 q
    go (no q) = get_or-eq_default blank 0 {n = j} (omega (arith, length_blank))

-- the codes of given literals over zeros
module _ (first : ℕ) (x : List ℤ) (few : length x ≤ 16) (fit : unfit first x ≡ false)
    (codes : List ℕ) (is : codes ≡ sets blank 0 (listed (given_code x) (length x))) where
  long : length (listed (given_code x) (length x)) ≡ length x
  long = length_listed (given_code x) (length x)

  pub x_bits : bits_of (take (length x) codes) ≡ given x
  x_bits =
      ap (λ (l : List ℕ). bits_of (take (length x) l)) is
      ∙ ap (λ (l : List ℕ). bits_of l) (take_sets blank (listed (given_code x) (length x)) (length x) long (omega (arith, length_blank)))
      ∙ given_bits first x fit

  pub x_behind : (j : ℕ) → length x ≤ j → get_or codes j 0 ≡ 0
  x_behind j h = ap (λ (l : List ℕ). get_or l j 0) is ∙ zeros_behind (listed (given_code x) (length x)) j (omega (arith, long))

-- document 01's x in the front of an array
module _ (w : ℕ) (x : List ℤ) (few : w ≤ 16) (e : x ≡ sets (replicate 16 (pos 0)) 0 (listed plain_literal w)) where
  pub plain_front : take w x ≡ numbered 1 w
  plain_front =
      ap (λ (l : List ℤ). take w l) e
      ∙ (take_sets (replicate 16 (pos 0)) (listed plain_literal w) w (length_listed plain_literal w)
      (omega (arith, length-replicate {A = ℤ} 16 (pos 0))) ∙ plain_literals w)

  pub plain_long : length (take w x) ≡ w
  plain_long = ap (λ (l : List ℤ). length l) plain_front ∙ length_numbered 1 w

-- ---- y

entry_is : (bits : List ℕ) (t j : ℕ) → y_entry bits t j ≡ stored (bit_of (shifted_code bits t j))
unfolding y_entry
entry_is bits t j = go (ltb j t)
  where
    go : (b : Bool) → cond b (pos 0) (word (literal_of (get_or bits (j - t) 0))) ≡ stored (bit_of (cond b 0 (get_or bits (j - t) 0)))
    go true = ap stored (sym bit_zero)
    go false = sym (stored_word (get_or bits (j - t) 0))

-- y's entries, of bits that stand as codes in 36 entries
y_means : (bits : List ℕ) (o : List Bit) (t size : ℕ) → size ≤ t + most_columns → size ≡ length (shifted t o)
    → ((k : ℕ) → k < most_columns → bit_of (get_or bits k 0) ≡ get_or o k (fixed false))
    → listed (y_entry bits t) size ≡ map stored (shifted t o)
y_means bits o t size small e f =
    let y = shifted t o in
    let long = length_listed (y_entry bits t) size in
    ext_get_or (pos 0) (listed (y_entry bits t) size) (map stored y) (long ∙ (e ∙ sym (length-map y stored)))
    (λ j h.
    let q : j < size = omega (arith, long) in
    listed_at (y_entry bits t) size j (pos 0) q
    ∙ (entry_is bits t j ∙ (ap stored (shifted_at bits o t j most_columns f (omega arith)) ∙ sym (get_or-map stored y j (fixed false)))))

-- ---- the product of a pass

-- the last of n + 1, whatever the default
last_at : {A : Type 0} (d e : A) (xs : List A) (n : ℕ) → length xs ≡ n + 1 → last_or d xs ≡ get_or xs n e
last_at d e [] n h = absurd (omega arith)
last_at d e (x ∷ []) zero h = refl
last_at d e (x ∷ []) (suc n) h = absurd (omega arith)
last_at d e (x ∷ y ∷ xs) zero h = absurd (omega arith)
last_at d e (x ∷ y ∷ xs) (suc n) h = last_at x e (y ∷ xs) n (omega arith)

module _ (recipe : List ℕ) (n : ℕ) (x : List ℤ) (first t : ℕ) where
  abbrev LinesMade : Encoded
  LinesMade = encoded (columns (length x)) (lines_from recipe 0 n) (given x ∷ []) first

  abbrev ProductMade : Product
  ProductMade = product_made t (lines_from recipe 0 n) (given x) first

  product_is : ProductMade
      ≡ record { y = shifted t (last_or [] LinesMade.operands); clauses = LinesMade.clauses; next = LinesMade.next }
  unfolding product_made
  product_is =
      ap (λ (k : ℕ).
      let e : Encoded = encoded (columns k) (lines_from recipe 0 n) (given x ∷ []) first in
      record { y = shifted t (last_or [] e.operands); clauses = e.clauses; next = e.next }) (length_given x)

  module _ (codes : List ℕ) (front : bits_of (take (length x) codes) ≡ given x) where
    abbrev CodesMade : Encoded
    CodesMade = encoded (columns (length x)) (lines_from recipe 0 n) (bits_of (take (length x) codes) ∷ []) first

    codes_made : CodesMade ≡ LinesMade
    codes_made = ap (λ (b : List Bit). encoded (columns (length x)) (lines_from recipe 0 n) (b ∷ []) first) front

    -- what the pass asks of the lines
    pub lines_fit : (k : ℕ) → ProductMade.next ≤ k → CodesMade.next ≤ k
    lines_fit k h = omega (arith, h, ap (λ (e : Encoded). e.next) codes_made, ap (λ (p : Product). p.next) product_is)

    pub pass_is : (size : ℕ) (r : Place) (scratch : List ℕ) (y y' room room' : List ℤ) → LinesAre CodesMade first r scratch room room'
        → size ≤ t + most_columns
        → (size ≤ length y
        → y' ≡ sets y 0 (listed (y_entry (operand_at scratch n) t) size))
        → PassIs ProductMade first size r y y' room room'
    pass_is size r scratch y y' room room' made small f =
        let l : LinesAre LinesMade first r scratch room room' =
        subst (λ (e : Encoded). LinesAre e first r scratch room room') codes_made made in
        let ops = LinesMade.operands in
        let long : length ops ≡ n + 1 =
        omega (arith, length_operands (columns (length x)) (lines_from recipe 0 n) (given x ∷ []) first, length_lines recipe 0 n) in
        let la : last_or [] ops ≡ get_or ops n [] = last_at [] [] ops n long in
        let ye : size ≡ length (shifted t (last_or [] ops))
        → listed (y_entry (operand_at scratch n) t) size ≡ map stored (shifted t (last_or [] ops)) = λ es.
        y_means (operand_at scratch n) (last_or [] ops) t size small es
        (λ k q. operand_bits scratch ops l.held n (omega (arith, long)) k q ∙ ap (λ (o : List Bit). get_or o k (fixed false)) (sym la)) in
        subst (λ (k : Product). PassIs k first size r y y' room room') (sym product_is)
        (record {
          counts = record { next_is = l.next_is; words_are = l.words_are; clauses_are = l.clauses_are; grows = l.grows };
          room_is = l.room_is;
          y_is = λ es q. f q ∙ ap (λ (o : List ℤ). sets y 0 o) (ye es);
        })

-- ---- the pass that counts

narrow_from : (w : ℕ) (recipe : List ℕ) (m i n : ℕ) → i + m ≤ n → Writable w recipe n
    → Narrow (columns w) most_columns (lines_from recipe i m)
unfolding lines_from
narrow_from w recipe zero i n h ok = tt
narrow_from w recipe (suc m) i n h ok = (ok.columns i (omega arith), narrow_from w recipe m (suc i) n (omega arith) ok)

-- it starts low, so it stays low
pub count_fits : (recipe : List ℕ) (n : ℕ) (x : List ℤ) → length x ≤ 16 → Writable (length x) recipe n
    → (product_made 0 (lines_from recipe 0 n) (given x) (length x + 1)).next ≤ most_next
count_fits recipe n x h ok =
    let w : ℕ = length x in
    omega (
      arith,
      encoded_few (columns w) most_columns (lines_from recipe 0 n) (given x ∷ []) (w + 1) (narrow_from w recipe n 0 n (omega arith) ok),
      length_lines recipe 0 n,
      ok.few,
      ap (λ (p : Product). p.next) (product_is recipe n x (w + 1) 0),
    )

-- what it counts is what the product over given literals needs
pub record Needs (first : ℕ) (x : List ℤ) (p : Product) (r : Place) : Type 0 where
  pub next : first + r.next - (length x + 1) ≡ p.next
  pub words : r.words ≡ length (clause_words p)
  pub first_below : first ≤ p.next

-- the zeros below y change nothing else
any_shift : (ls : List Line) (bs : List Bit) (m t u : ℕ)
    → ((product_made t ls bs m).next ≡ (product_made u ls bs m).next)
    × ((product_made t ls bs m).clauses ≡ (product_made u ls bs m).clauses)
unfolding product_made
any_shift ls bs m t u = (refl, refl)

pub needs_of : (recipe : List ℕ) (n t first : ℕ) (x : List ℤ) (r : Place) → 0 < first → unfit first x ≡ false
    → CountsAre (product_made 0 (lines_from recipe 0 n) (given (numbered 1 (length x))) (length x + 1)) (length x + 1) r
    → Needs first x (product_made t (lines_from recipe 0 n) (given x) first) r
needs_of recipe n t first x r h e k =
    let w : ℕ = length x in
    let ls = lines_from recipe 0 n in
    let P : ℕ → Product = λ (m : ℕ). product_made 0 ls (given (numbered 1 w)) m in
    let c = counts_as_numbered x first h (fit_of first x e) t ls in
    let next : first + r.next - (w + 1) ≡ (product_made t ls (given x) first).next =
    omega (
      arith,
      k.next_is ∙ ap (λ (m : ℕ). (P m).next) (add-one w) ∙ (any_shift ls (given (numbered 1 w)) (suc w) 0 t).0,
      c.next,
      k.grows,
    ) in
    record {
      next = next;
      words = k.words_are ∙ ap (λ (m : ℕ). length (words (P m).clauses)) (add-one w)
          ∙ ap (λ (q : List Clause). length (words q)) (any_shift ls (given (numbered 1 w)) (suc w) 0 t).1 ∙ sym c.words;
      first_below = omega (arith, next, k.grows);
    }

-- the tests of what was counted are those of the product
pub needs_tested : (first : ℕ) (x : List ℤ) (p : Product) (r : Place) → Needs first x p r → (size bits clauses next : ℕ)
    → next ≡ first + r.next - (length x + 1) → (v : Verdict) → v ≡ first_broken (need_tests next size r.words bits clauses)
    → {u : Verdict} → v ≡ u → first_broken (product_tests p size bits clauses) ≡ u
needs_tested first x p r n size bits clauses next e v t k =
    sym (t ∙ ap₂ (λ (i j : ℕ). first_broken (need_tests i size j bits clauses)) (e ∙ n.next) n.words) ∙ k

-- ---- the answer and the rooms, behind tests 15, 9 and 10

module _ (p : Product) (size : ℕ) (bits clauses : List ℤ) where
  abbrev tests : List Verdict
  tests = product_tests p size (length bits) (length clauses)

  abbrev left_by : Verdict → Writing
  left_by v = write_by (answer_by Err (clauses_of_product p size) v) p bits clauses

  -- a test refuses
  pub need_refused : (r : Refusal) → first_broken tests ≡ Err r → writing (Err r) bits clauses ≡ product_written p size bits clauses
  need_refused r e = sym (ap left_by e)

  -- none does
  pub both_fit : first_broken tests ≡ Ok tt → (first : ℕ) (r : Place) (bits' clauses' : List ℤ) → size ≡ length p.y
      → PassIs p first size r bits bits' clauses clauses'
      → writing (Ok (record { words = r.words; clauses = r.clauses; next = r.next; bits = size })) bits' clauses'
      ≡ product_written p size bits clauses
  both_fit e first r bits' clauses' es d =
      let f = kept_fits p size (length bits) (length clauses) e in
      let k = d.counts in
      let counts : ◌≡◌ {A = Written} (Ok (record { words = r.words; clauses = r.clauses; next = r.next; bits = size }))
      (clauses_of_product p size) =
      rw (k.words_are, k.clauses_are, k.next_is) refl in
      let rooms =
      ap₂ (λ (b q : List ℤ). writing (clauses_of_product p size) b q) (d.y_is es f.bits_fit)
      (d.room_is (omega (arith, k.words_are, f.clauses_fit))) in
      ap (λ (a : Written). writing a bits' clauses') counts ∙ rooms ∙ sym (ap left_by e)
