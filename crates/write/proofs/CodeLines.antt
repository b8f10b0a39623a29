-- The loop over the lines of a recipe: operands in a scratch room, what holds after i lines, where it begins, and one line more.
use Prim.Native.Nat.{ℕ, suc, ◌+◌, ◌-◌, ◌*◌, ◌%◌, ◌^◌, ◌<◌, ◌≤◌}
use mathlib.Core.Path.{◌≡◌, refl, sym, ap, ap₂, subst, ◌∙◌}
use mathlib.Core.Logic.{⊎_elim}
use mathlib.Core.List.{List, [], ◌∷◌, ◌++◌, map, append-nil, append_assoc}
use mathlib.Core.Bool.{true, false}
use native.Mathlib.Omega.{arith}
use native.Mathlib.Nat.{zero-add, mul-le-mul, eq-or-lt_of_le}
use native.Mathlib.Numerals.{add-one}
use native.Mathlib.Decide.{dec_lt}
use lib.Pow.{shl_exact, pow_pos, pow_mono}
use lib.ListN.{length, get_or, take, drop, length-append, length-map, length-take, get_or-append, get_or-eq_default}
use lib.IntN.{ℤ}
use lib.Seq.{sets, length-sets, ext_get_or, get_or-append_seam, get_or-take, get_or-drop}
use Rattle.line.specs.declared.Line.{Line}
use Rattle.line.proofs.Number.{lt_or_le}
use Rattle.line.specs.Line.{Kind, splus, sminus, minuss, kind_of}
use Rattle.recipe.specs.Check.{line_at}
use Rattle.cnf.specs.Clause.{Clause}
use Rattle.cnf.specs.Words.{words}
use Rattle.cnf.proofs.Words.{words_append}
use Rattle.product.specs.Bit.{Bit, fixed, flip}
use Rattle.product.specs.Lines.{Sum, adder, shifted, fitted, line_sum, columns, Encoded, line_encoded, encoded}
use Rattle.product.specs.Product.{lines_from}
use Rattle.gates.specs.Code.{bit_of, bits_of}
use Rattle.write.specs.Terms.{operand_at}
use Rattle.write.specs.Rooms.{SumIs, Holds, Writable, LinesAre}
use Rattle.write.specs.declared.lines.Place.{Place}
use Rattle.product.proofs.Nexts.{encoded_grows}
use Rattle.product.proofs.At.{fitted_at, shifted_low, shifted_high}
use Rattle.product.proofs.Lengths.{length_fitted, length_line}
use Rattle.gates.proofs.Codes.{bit_at}
use Rattle.line.proofs.Room.{sets_append, sets_below, sets_above, sets_in}
use Rattle.write.specs.Sizes.{most_line_clauses, most_line_words, most_columns, scratch_size}

-- ---- numbers

-- 1 shifted by w
pub power : (w : ℕ) → w ≤ 16 → ((1 * 2 ^ w) % 2 ^ 64 ≡ 2 ^ w) × (1 ≤ 2 ^ w) × (2 ^ w ≤ 65536)
power w h = (shl_exact {a = 1} 1 w 64 (omega arith) (omega arith) ∙ omega arith, pow_pos w, pow_mono {i = w} {j = 16} h)

pub small_product : (a b : ℕ) → a < 2 ^ 20 → b < 65536 → a * b < 2 ^ 36
small_product a b h k = omega (arith, mul-le-mul {n₁ = a} {m₁ = b} {n₂ = 1048575} {m₂ = 65535} (omega arith) (omega arith))

-- ---- a line goes by its operands' bits alone

abbrev Alike : List Bit → List Bit → Type 0
Alike a b = (k : ℕ) → k < most_columns → get_or a k (fixed false) ≡ get_or b k (fixed false)

shifted_same : (a b : List Bit) (s j : ℕ) → j < most_columns → Alike a b
    → get_or (shifted s a) j (fixed false) ≡ get_or (shifted s b) j (fixed false)
shifted_same a b s j h f = go (dec_lt j s)
  where
    go : Dec (j < s) → get_or (shifted s a) j (fixed false) ≡ get_or (shifted s b) j (fixed false)
    go (yes q) = shifted_low s a j q ∙ sym (shifted_low s b j q)
    go (no q) =
        let e : j ≡ s + (j - s) = omega arith in
        ap (λ (k : ℕ). get_or (shifted s a) k (fixed false)) e
        ∙ (shifted_high s a (j - s)
        ∙ (f (j - s) (omega arith) ∙ (sym (shifted_high s b (j - s)) ∙ ap (λ (k : ℕ). get_or (shifted s b) k (fixed false)) (sym e))))

fitted_same : (a b : List Bit) (s m : ℕ) → m ≤ most_columns → Alike a b → fitted m (shifted s a) ≡ fitted m (shifted s b)
fitted_same a b s m h f =
    ext_get_or (fixed false) (fitted m (shifted s a)) (fitted m (shifted s b))
    (length_fitted m (shifted s a) ∙ sym (length_fitted m (shifted s b)))
    (λ j q.
    let k : j < m = omega (arith, length_fitted m (shifted s a)) in
    fitted_at m (shifted s a) j k ∙ (shifted_same a b s j (omega arith) f ∙ sym (fitted_at m (shifted s b) j k)))

line_same : (d : Kind) (m s n : ℕ) (a b a' b' : List Bit) → m ≤ most_columns → Alike a a' → Alike b b'
    → line_sum d m a s b n ≡ line_sum d m a' s b' n
unfolding line_sum shifted
line_same splus m s n a b a' b' h p q =
    ap₂ (λ (x y : List Bit). adder x y (fixed false) n) (fitted_same a a' s m h p) (fitted_same b b' 0 m h q)
line_same sminus m s n a b a' b' h p q =
    ap₂ (λ (x y : List Bit). adder x (map flip y) (fixed true) n) (fitted_same a a' s m h p) (fitted_same b b' 0 m h q)
line_same minuss m s n a b a' b' h p q =
    ap₂ (λ (x y : List Bit). adder x (map flip y) (fixed true) n) (fitted_same a a' 0 m h p) (fitted_same b b' s m h q)

-- ---- operands in the scratch room

pub operand_bits : (scratch : List ℕ) (operands : List (List Bit)) → Holds scratch operands → (i : ℕ) → i < length operands → (k : ℕ)
    → k < most_columns
    → bit_of (get_or (operand_at scratch i) k 0) ≡ get_or (get_or operands i []) k (fixed false)
unfolding operand_at
operand_bits scratch operands h i q k r =
    ap (λ (x : ℕ). bit_of x) (get_or-take most_columns (drop (most_columns * i) scratch) k 0 r ∙ get_or-drop (most_columns * i) scratch k 0)
    ∙ h.bits i k q r

-- x alone, with zeros behind it
x_holds : (scratch : List ℕ) (w : ℕ) → w ≤ 16 → ((j : ℕ) → w ≤ j → get_or scratch j 0 ≡ 0) → Holds scratch (bits_of (take w scratch) ∷ [])
x_holds scratch w h blank =
    record {
      bits = λ k j p q.
          let e : most_columns * k + j ≡ j = omega arith in
          let z : k ≡ 0 = omega arith in
          let same : get_or scratch j 0 ≡ get_or (take w scratch) j 0 =
          ⊎_elim (λ (l : j < w). sym (get_or-take w scratch j 0 l))
          (λ (l : w ≤ j). blank j l ∙ sym (get_or-eq_default (take w scratch) 0 (omega (arith, length-take w scratch))))
          (lt_or_le j w) in
          ap (λ (i : ℕ). bit_of (get_or scratch i 0)) e
          ∙ (ap bit_of same
          ∙ (sym (bit_at (take w scratch) j) ∙ ap (λ (i : ℕ). get_or (get_or (bits_of (take w scratch) ∷ []) i []) j (fixed false))
          (sym z)));
      behind = λ j p. blank j (omega arith);
    }

-- one operand more
holds_more : (scratch : List ℕ) (operands : List (List Bit)) (codes : List ℕ) (n : ℕ) → length operands ≡ n
    → most_columns * n + most_columns ≤ length scratch → length codes ≤ most_columns
    → Holds scratch operands → Holds (sets scratch (most_columns * n) codes) (operands ++ (bits_of codes ∷ []))
holds_more scratch operands codes n e long few h =
    let ops : List (List Bit) = operands ++ (bits_of codes ∷ []) in
    let k₁ : length ops ≡ n + 1 = omega (arith, length-append operands (bits_of codes ∷ [])) in
    record {
      bits = λ k j p q.
          ⊎_elim
          (λ w.
          let at_codes : get_or ops k [] ≡ bits_of codes =
          ap (λ (x : ℕ). get_or ops x []) (w ∙ sym e) ∙ get_or-append_seam operands (bits_of codes) [] [] in
          let idx : most_columns * k + j ≡ most_columns * n + j = omega arith in
          let val : get_or (sets scratch (most_columns * n) codes) (most_columns * k + j) 0 ≡ get_or codes j 0 =
          ap (λ (x : ℕ). get_or (sets scratch (most_columns * n) codes) x 0) idx
          ∙ ⊎_elim
          (λ v. sets_in scratch codes (most_columns * n) j 0 (omega arith) v)
          (λ v. sets_above scratch codes (most_columns * n) (most_columns * n + j) 0 (omega arith)
          ∙ (h.behind (most_columns * n + j) (omega arith) ∙ sym (get_or-eq_default codes 0 v)))
          (lt_or_le j (length codes)) in
          ap (λ (x : ℕ). bit_of x) val ∙ (sym (bit_at codes j) ∙ ap (λ (x : List Bit). get_or x j (fixed false)) (sym at_codes)))
          (λ w.
          ap (λ (x : ℕ). bit_of x) (sets_below scratch codes (most_columns * n) (most_columns * k + j) 0 (omega arith))
          ∙ (h.bits k j (omega arith) q
          ∙ ap (λ (x : List Bit). get_or x j (fixed false)) (sym (get_or-append operands (bits_of codes ∷ []) [] k (omega arith)))))
          (eq-or-lt_of_le {n = k} {m = n} (omega (arith, k₁)));
      behind = λ j p. sets_above scratch codes (most_columns * n) j 0 (omega (arith, k₁)) ∙ h.behind j (omega (arith, k₁));
    }

-- ---- after some lines

-- the whole is what was made, and then the lines from line i + 1 on
pub record UptoLine (whole : Encoded) (w : ℕ) (recipe : List ℕ) (n next : ℕ) (room₀ : List ℤ) (scratch : List ℕ) (room : List ℤ)
    (at : Place) (i : ℕ) : Type 0 where
  pub operands : List (List Bit)
  pub made : List Clause
  pub operands_are : whole.operands ≡ (encoded (columns w) (lines_from recipe i (n - i)) operands at.next).operands
  pub clauses_are : whole.clauses ≡ made ++ (encoded (columns w) (lines_from recipe i (n - i)) operands at.next).clauses
  pub next_is : whole.next ≡ (encoded (columns w) (lines_from recipe i (n - i)) operands at.next).next
  pub used_is : at.words ≡ length (words made)
  pub count_is : at.clauses ≡ length made
  pub operands_long : length operands ≡ i + 1
  pub holds : Holds scratch operands
  pub long : length scratch ≡ scratch_size
  pub room_is : at.words ≤ length room₀ → room ≡ sets room₀ 0 (words made)
  pub room_same : length room ≡ length room₀
  pub free_pos : 0 < at.next
  pub grows : next ≤ at.next
  pub used_small : at.words ≤ most_line_words * i
  pub count_small : at.clauses ≤ most_line_clauses * i

module _ (w : ℕ) (recipe : List ℕ) (x : List Bit) (n next : ℕ) (room₀ : List ℤ) where
  abbrev whole : Encoded
  whole = encoded (columns w) (lines_from recipe 0 n) (x ∷ []) next

  begin_over : (scratch : List ℕ) → 0 < next → Holds scratch (x ∷ []) → length scratch ≡ scratch_size
      → UptoLine whole w recipe n next room₀ scratch room₀ (record { next = next; words = 0; clauses = 0 }) 0
  begin_over scratch p h k =
      let e : n ≡ n - 0 = omega arith in
      let E : ℕ → Encoded = λ (m : ℕ). encoded (columns w) (lines_from recipe 0 m) (x ∷ []) next in
      record {
        operands = x ∷ [];
        made = [];
        operands_are = ap (λ (m : ℕ). (E m).operands) e;
        clauses_are = ap (λ (m : ℕ). (E m).clauses) e;
        next_is = ap (λ (m : ℕ). (E m).next) e;
        used_is = refl;
        count_is = refl;
        operands_long = refl;
        holds = h;
        long = k;
        room_is = λ h. refl;
        room_same = refl;
        free_pos = p;
        grows = omega arith;
        used_small = omega arith;
        count_small = omega arith;
      }

  -- the line that the scratch room's operands give is that of the operands so far
  line_read : (scratch : List ℕ) (room : List ℤ) (at : Place) (i : ℕ)
      → (u : UptoLine whole w recipe n next room₀ scratch room at i) → i < n → Writable w recipe n
      → let L = line_at recipe i in
      line_sum (kind_of L.kind) (columns w L.coefficient) (bits_of (operand_at scratch L.left)) L.shift
      (bits_of (operand_at scratch L.right)) at.next
      ≡ line_sum (kind_of L.kind) (columns w L.coefficient) (get_or u.operands L.left []) L.shift
      (get_or u.operands L.right []) at.next
  line_read scratch room at i u lt ok =
      let L = line_at recipe i in
      line_same (kind_of L.kind) (columns w L.coefficient) L.shift at.next (bits_of (operand_at scratch L.left))
      (bits_of (operand_at scratch L.right))
      (get_or u.operands L.left []) (get_or u.operands L.right []) (ok.columns i lt)
      (λ j q. bit_at (operand_at scratch L.left) j
      ∙ operand_bits scratch u.operands u.holds L.left (omega (arith, u.operands_long, ok.lefts i lt)) j q)
      (λ j q. bit_at (operand_at scratch L.right) j
      ∙ operand_bits scratch u.operands u.holds L.right (omega (arith, u.operands_long, ok.rights i lt)) j q)

  -- a line's next free variable is at most that of the whole
  pub line_fits : (scratch : List ℕ) (room : List ℤ) (at : Place) (i k : ℕ)
      → UptoLine whole w recipe n next room₀ scratch room at i → i < n → Writable w recipe n
      → (l : Line) → l ≡ line_at recipe i → (m : ℕ) → m ≡ columns w l.coefficient → whole.next ≤ k
      → (line_sum (kind_of l.kind) m (bits_of (operand_at scratch l.left)) l.shift (bits_of (operand_at scratch l.right))
      at.next).next ≤ k
  unfolding encoded line_encoded lines_from
  line_fits scratch room at i k u lt ok l el m em h =
      let L = line_at recipe i in
      let Q : Line → ℕ → Type 0 = λ (q : Line) (j : ℕ).
      (line_sum (kind_of q.kind) j (bits_of (operand_at scratch q.left)) q.shift (bits_of (operand_at scratch q.right))
      at.next).next ≤ k in
      let S : Sum =
      line_sum (kind_of L.kind) (columns w L.coefficient) (get_or u.operands L.left []) L.shift
      (get_or u.operands L.right []) at.next in
      let one : n - i ≡ suc (n - (i + 1)) = omega arith in
      let a : whole.next ≡ (encoded (columns w) (lines_from recipe (suc i) (n - (i + 1))) (u.operands ++ (S.bits ∷ [])) S.next).next =
      u.next_is ∙ ap (λ (j : ℕ). (encoded (columns w) (lines_from recipe i j) u.operands at.next).next) one in
      let b = encoded_grows (columns w) (lines_from recipe (suc i) (n - (i + 1))) (u.operands ++ (S.bits ∷ [])) S.next in
      let c : Q L (columns w L.coefficient) =
      omega (arith, h, a, b, ap (λ (s : Sum). s.next) (line_read scratch room at i u lt ok)) in
      subst (λ (q : Line). Q q m) (sym el) (subst (λ (j : ℕ). Q L j) (sym (em ∙ ap (λ (q : Line). columns w q.coefficient) el)) c)

  pub lines_go_on : (scratch scratch' : List ℕ) (room room' : List ℤ) (at : Place) (i : ℕ)
      → UptoLine whole w recipe n next room₀ scratch room at i
      → i < n → Writable w recipe n → (l : Line) → l ≡ line_at recipe i → (m : ℕ) → m ≡ columns w l.coefficient → (r : Place)
      → SumIs (line_sum (kind_of l.kind) m (bits_of (operand_at scratch l.left)) l.shift (bits_of (operand_at scratch l.right))
      at.next)
      at m (most_columns * (i + 1)) r scratch scratch' room room'
      → length room' ≡ length room
      → UptoLine whole w recipe n next room₀ scratch' room' r (i + 1)
  unfolding encoded line_encoded lines_from
  lines_go_on scratch scratch' room room' at i u lt ok l el m em r y k =
      let L = line_at recipe i in
      let M = columns w L.coefficient in
      let P : Line → ℕ → Type 0 = λ (q : Line) (j : ℕ).
      SumIs (line_sum (kind_of q.kind) j (bits_of (operand_at scratch q.left)) q.shift (bits_of (operand_at scratch q.right))
      at.next) at j (most_columns * (i + 1)) r scratch scratch' room room' in
      let y₁ : P L M =
      subst (λ (j : ℕ). P L j) (em ∙ ap (λ (q : Line). columns w q.coefficient) el) (subst (λ (q : Line). P q m) el y) in
      let S : Sum = line_sum (kind_of L.kind) M (get_or u.operands L.left []) L.shift (get_or u.operands L.right []) at.next in
      let eS = line_read scratch room at i u lt ok in
      let z : SumIs S at M (most_columns * (i + 1)) r scratch scratch' room room' =
      subst (λ (q : Sum). SumIs q at M (most_columns * (i + 1)) r scratch scratch' room room') eS y₁ in
      let ops = u.operands ++ (S.bits ∷ []) in
      let R = encoded (columns w) (lines_from recipe (i + 1) (n - (i + 1))) ops r.next in
      let one : n - i ≡ suc (n - (i + 1)) = omega arith in
      let same : encoded (columns w) (lines_from recipe (suc i) (n - (i + 1))) ops S.next ≡ R =
      ap₂ (λ (j q : ℕ). encoded (columns w) (lines_from recipe j (n - (i + 1))) ops q) (sym (add-one i)) (sym z.next_is) in
      let E : ℕ → Encoded = λ (j : ℕ). encoded (columns w) (lines_from recipe i j) u.operands at.next in
      let wa = words_append u.made S.clauses in
      let few_codes : length z.codes ≤ most_columns =
      omega (
        arith,
        ok.columns i lt,
        length-map z.codes bit_of,
        ap (λ (q : List Bit). length q) z.bits_are,
        length_line (kind_of L.kind) M L.shift (get_or u.operands L.left []) (get_or u.operands L.right []) at.next,
      ) in
      record {
        operands = ops;
        made = u.made ++ S.clauses;
        operands_are = u.operands_are ∙ (ap (λ (j : ℕ). (E j).operands) one ∙ ap (λ (q : Encoded). q.operands) same);
        clauses_are =
            u.clauses_are
            ∙ (ap (λ (q : List Clause). u.made ++ q)
            (ap (λ (j : ℕ). (E j).clauses) one ∙ ap (λ (q : Encoded). S.clauses ++ q.clauses) same)
            ∙ sym (append_assoc u.made S.clauses R.clauses));
        next_is = u.next_is ∙ (ap (λ (j : ℕ). (E j).next) one ∙ ap (λ (q : Encoded). q.next) same);
        used_is =
            omega (arith, z.words_are, u.used_is, ap (λ (q : List ℤ). length q) wa, length-append (words u.made) (words S.clauses));
        count_is = omega (arith, z.clauses_are, u.count_is, length-append u.made S.clauses);
        operands_long = omega (arith, u.operands_long, length-append u.operands (S.bits ∷ []));
        holds =
            subst (λ (q : List ℕ). Holds q ops) (sym z.stored)
            (subst (λ (q : List Bit). Holds (sets scratch (most_columns * (i + 1)) z.codes) (u.operands ++ (q ∷ []))) z.bits_are
            (holds_more scratch u.operands z.codes (i + 1) u.operands_long (omega (arith, u.long, ok.few)) few_codes
            u.holds));
        long = ap (λ (q : List ℕ). length q) z.stored ∙ (length-sets scratch (most_columns * (i + 1)) z.codes ∙ u.long);
        room_is = λ h.
            z.room_is (omega (arith, u.room_same))
            ∙ (ap₂ (λ (q : List ℤ) (j : ℕ). sets q j (words S.clauses)) (u.room_is (omega (arith, z.words_are)))
            (u.used_is ∙ sym (zero-add (length (words u.made))))
            ∙ (sets_append (words u.made) (words S.clauses) room₀ 0 ∙ ap (λ (q : List ℤ). sets room₀ 0 q) (sym wa)));
        room_same = k ∙ u.room_same;
        free_pos = omega (arith, z.grows, u.free_pos);
        grows = omega (arith, z.grows, u.grows);
        used_small = omega (arith, z.words_few, u.used_small, ok.columns i lt);
        count_small = omega (arith, z.clauses_few, u.count_small, ok.columns i lt);
      }

  pub lines_end : (scratch : List ℕ) (room : List ℤ) (at : Place) (i : ℕ) → i ≡ n
      → UptoLine whole w recipe n next room₀ scratch room at i
      → LinesAre whole next at scratch room₀ room
  unfolding encoded lines_from
  lines_end scratch room at i e u =
      let z : n - i ≡ 0 = omega arith in
      let E : ℕ → Encoded = λ (j : ℕ). encoded (columns w) (lines_from recipe i j) u.operands at.next in
      let cl : whole.clauses ≡ u.made = u.clauses_are ∙ (ap (λ (j : ℕ). u.made ++ (E j).clauses) z ∙ append-nil u.made) in
      record {
        next_is = sym (u.next_is ∙ ap (λ (j : ℕ). (E j).next) z);
        words_are = u.used_is ∙ ap (λ (q : List Clause). length (words q)) (sym cl);
        clauses_are = u.count_is ∙ ap (λ (q : List Clause). length q) (sym cl);
        room_is = λ h. u.room_is h ∙ ap (λ (q : List Clause). sets room₀ 0 (words q)) (sym cl);
        held = subst (λ (q : List (List Bit)). Holds scratch q) (sym (u.operands_are ∙ ap (λ (j : ℕ). (E j).operands) z)) u.holds;
        grows = u.grows;
      }

pub lines_begin : (w : ℕ) (recipe : List ℕ) (n next : ℕ) (room : List ℤ) (scratch : List ℕ) → w ≤ 16 → 0 < next
    → length scratch ≡ scratch_size → ((j : ℕ) → w ≤ j → get_or scratch j 0 ≡ 0)
    → UptoLine (encoded (columns w) (lines_from recipe 0 n) (bits_of (take w scratch) ∷ []) next) w recipe n next room scratch room
    (record { next = next; words = 0; clauses = 0 }) 0
lines_begin w recipe n next room scratch h p k blank =
    begin_over w recipe (bits_of (take w scratch)) n next room scratch p (x_holds scratch w h blank) k
