-- A room that is read into from a place on: its front grows by what was read. Assumes nothing.
use Rattle.std.proofs.Common.{◌≡◌, ℕ, ◌+◌, ◌≤◌, List, ◌++◌, length, take, sym, ap, ◌∙◌, subst, length-take-le}
use Rattle.std.specs.Prelude.{Option}
use Rattle.std.specs.Io.KnownBytes.{Consumes}
use Rattle.std.proofs.KnownBytes.{Consumes-trans}
use Rattle.std.proofs.Math.Seq.{take-append-add}
use Rattle.std.proofs.lemmas.List.{take-append-le}
use borrow.Rule.Slice.PartMut.{put_mid, post_of}

take-put_mid-more : (a k n : ℕ) (xs ys : List ℕ) → a ≤ length xs → n ≤ length ys → take (a + n) (put_mid a k xs ys) ≡ take a xs ++ take n ys
take-put_mid-more a k n xs ys within fits =
    let after = post_of a k xs in
    ap (λ i. take (i + n) (take a xs ++ (ys ++ after))) (sym (length-take-le a xs within)) ∙ take-append-add (take a xs) (ys ++ after) n
    ∙ ap (λ l. take a xs ++ l) (take-append-le n ys after fits)

-- the k bytes from a on are lent, and n of them are read
pub front_grows : (known mid rest : Option (List ℕ)) (a k n : ℕ) (room part : List ℕ) → a ≤ length room → n ≤ length part
    → Consumes known mid (take a room)
    → Consumes mid rest (take n part)
    → Consumes known rest (take (a + n) (put_mid a k room part))
front_grows known mid rest a k n room part within fits before read =
    subst (Consumes _ _) (sym (take-put_mid-more a k n room part within fits)) (Consumes-trans _ _ _ _ _ before read)
