-- `plan::walk::walk`: the left operand, then the right, then n.
use Prim.Native.Nat.{ℕ, ◌<◌}
use mathlib.Core.Path.{◌≡◌, ◌∙◌, subst}
use Rattle.split.specs.Choose.{look}
use Rattle.split.specs.Order.{rank}
use Rattle.split.specs.Reach.{adds, reach}
use Rattle.plan.proofs.Walks.{adds_nothing, index_in, left_held, left_is, left_ready, reached, right_is, right_ready}
use Rattle.plan.proofs.Walks.{room_left, walked_through}
use Rattle.plan.proofs.walk.+walk.Goals as goal
use Rattle.plan.proofs.walk.+walk.Goals.{then-fresh, else-fresh, then-fresh-2, else-fresh-2}

pub split_in-requires : goal.split_in-requires
split_in-requires t c = index_in c.requires (left_is c.requires c.at-o.ensures.0)

pub walk-requires : goal.walk-requires
walk-requires t c =
    let h = c.requires in
    let x = c.at-o.ensures.0 in (
      subst (λ (j : ℕ). rank c.at-o.result.left < j) c.decreases (left_is h x).falls,
      left_ready h x c.split_in.ensures (c.fresh.ensures.when c.if-fresh.true),
    )

pub split_in-requires-then-fresh-2 : goal.split_in-requires-then-fresh-2
split_in-requires-then-fresh-2 t c = index_in c.requires (right_is c.requires c.at-o.ensures.1)

pub walk-requires-then-fresh-2 : goal.walk-requires-then-fresh-2
walk-requires-then-fresh-2 t c =
    -- after the left operand: walked, or nothing to add
    let h = c.requires in
    let x = c.at-o.ensures.0 in
    let o = left_is h x in
    let f = c.fresh.ensures in
    let w : c.if-fresh.set ≡ adds (reach (look c.args.work.now) c.at-o.result.left) c.args.set.now = elim c.if-fresh.branch [
      | then-fresh b ↦ b.set-is ∙ reached h o (f.when b.if-fresh.true).0 b.split_in.ensures _ b.walk.ensures
      | else-fresh b ↦ b.set-is ∙ adds_nothing _ _ o.odd h.held (f.unless b.if-fresh.false)
    ] in
    let y = c.at-o.ensures.1 in (
      subst (λ (j : ℕ). rank c.at-o.result.right < j) c.decreases (right_is h y).falls,
      right_ready h x w y c.split_in-then-fresh-2.ensures (c.fresh-2.ensures.when c.if-fresh-2.true),
    )

pub push-requires : goal.push-requires
push-requires t c =
    -- after the left operand: walked, or nothing to add
    let h = c.requires in
    let x = c.at-o.ensures.0 in
    let o = left_is h x in
    let f = c.fresh.ensures in
    let w : c.if-fresh.set ≡ adds (reach (look c.args.work.now) c.at-o.result.left) c.args.set.now = elim c.if-fresh.branch [
      | then-fresh b ↦ b.set-is ∙ reached h o (f.when b.if-fresh.true).0 b.split_in.ensures _ b.walk.ensures
      | else-fresh b ↦ b.set-is ∙ adds_nothing _ _ o.odd h.held (f.unless b.if-fresh.false)
    ] in
    -- after the right operand
    let y = c.at-o.ensures.1 in
    let p = right_is h y in
    let g = c.fresh-2.ensures in
    let v : c.if-fresh-2.set ≡ adds (reach (look c.args.work.now) c.at-o.result.right) c.if-fresh.set = elim c.if-fresh-2.branch [
      | then-fresh-2 b ↦ b.set-is ∙ reached h p (g.when b.if-fresh-2.true).0 b.split_in-then-fresh-2.ensures _ b.walk-then-fresh-2.ensures
      | else-fresh-2 b ↦ b.set-is ∙ adds_nothing _ _ p.odd (left_held h x w) (g.unless b.if-fresh-2.false)
    ] in
    room_left h x w y v

pub returns : goal.returns
returns t c =
    -- after the left operand: walked, or nothing to add
    let h = c.requires in
    let x = c.at-o.ensures.0 in
    let o = left_is h x in
    let f = c.fresh.ensures in
    let w : c.if-fresh.set ≡ adds (reach (look c.args.work.now) c.at-o.result.left) c.args.set.now = elim c.if-fresh.branch [
      | then-fresh b ↦ b.set-is ∙ reached h o (f.when b.if-fresh.true).0 b.split_in.ensures _ b.walk.ensures
      | else-fresh b ↦ b.set-is ∙ adds_nothing _ _ o.odd h.held (f.unless b.if-fresh.false)
    ] in
    -- after the right operand
    let y = c.at-o.ensures.1 in
    let p = right_is h y in
    let g = c.fresh-2.ensures in
    let v : c.if-fresh-2.set ≡ adds (reach (look c.args.work.now) c.at-o.result.right) c.if-fresh.set = elim c.if-fresh-2.branch [
      | then-fresh-2 b ↦ b.set-is ∙ reached h p (g.when b.if-fresh-2.true).0 b.split_in-then-fresh-2.ensures _ b.walk-then-fresh-2.ensures
      | else-fresh-2 b ↦ b.set-is ∙ adds_nothing _ _ p.odd (left_held h x w) (g.unless b.if-fresh-2.false)
    ] in
    c.push.ensures ∙ walked_through h x w y v
