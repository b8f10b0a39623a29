-- What the entry points leave is one; and that of writing, from what writing left and from what is told of its answer. Assumes nothing.
use Prim.Native.Nat.{ℕ}
use mathlib.Core.Path.{◌≡◌, sym, ap, ◌∙◌, subst}
use mathlib.Core.List.{List}
use lib.IntN.{ℤ}
use Rattle.line.specs.declared.Told.{Told}
use Rattle.product.specs.Write.{Writing, writing}
use Rattle.product.specs.Write.{Written}
use Rattle.ladlebean.specs.Archive.{ToldApart, Fields, Apart}

pub told_as : {t u : Told} {n l : ℕ} {v : ℤ} → t ≡ u → ToldApart t n l v → ToldApart u n l v
told_as {t} {u} {n} {l} {v} e = subst (λ (x : Told). ToldApart x n l v) e

pub told_once : {t : Told} {n n' l l' : ℕ} {v v' : ℤ} → ToldApart t n l v → ToldApart t n' l' v' → (n ≡ n') × (l ≡ l') × (v ≡ v')
told_once p q = (p.number_told ∙ sym q.number_told, p.line_told ∙ sym q.line_told, p.value_told ∙ sym q.value_told)

module _ {o : Writing} {n : ℕ} {b c : List ℤ} {w k f s l : ℕ} {v : ℤ} where
  pub apart : {a : Written} → writing a b c ≡ o → Fields a n w k f s l v → Apart o n b c w k f s l v
  apart e r = record {
    bit_room = ap (λ (q : Writing). q.bits) e;
    clause_room = ap (λ (q : Writing). q.clauses) e;
    fields = subst (λ (x : Written). Fields x n w k f s l v) (ap (λ (q : Writing). q.answer) e) r;
  }

  pub apart_once : {n' : ℕ} {b' c' : List ℤ} {w' k' f' s' l' : ℕ} {v' : ℤ} → Apart o n b c w k f s l v → Apart o n' b' c' w' k' f' s' l' v'
      → (n ≡ n') × (b ≡ b') × (c ≡ c') × (w ≡ w') × (k ≡ k') × (f ≡ f') × (s ≡ s') × (l ≡ l') × (v ≡ v')
  apart_once p q =
      let x = p.fields in
      let y = q.fields in
      let t = told_once x.told y.told in (
        t.0,
        p.bit_room ∙ sym q.bit_room,
        p.clause_room ∙ sym q.clause_room,
        x.words_told ∙ sym y.words_told,
        x.clauses_told ∙ sym y.clauses_told,
        x.next_told ∙ sym y.next_told,
        x.bits_told ∙ sym y.bits_told,
        t.1,
        t.2,
      )
