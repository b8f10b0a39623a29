-- The worked cases as whole tables. `bench_right` is document 01's bench sums: every sum marked P is a row of `bench`, the last of writing
-- as request b has it, and each row is what the definitions give. `agreed_right` says the same of the second engine's answers. Assumes
-- nothing.
use mathlib.Core.Path.{refl}
use Rattle.cases.specs.Table.{Table}
use Rattle.cases.specs.Bench.{bench}
use Rattle.cases.specs.Agreed.{agreed}
use Rattle.split.specs.Choose.{split_of}
use Rattle.split.proofs.Cases as split
use Rattle.plan.proofs.Cases as plan
use Rattle.recipe.proofs.Cases as recipe
use Rattle.product.proofs.Cases as product
use Rattle.propagate.proofs.Cases as propagate
use Rattle.wording.proofs.Cases as dimacs

-- every row of a table is what the definitions give
pub record AsWorked (table : Table) : Type 0 where
  pub chosen : split.AsWorked split_of table.chosen
  pub planned : plan.AsWorked split_of table.planned
  pub plan_rooms : plan.RoomsRight split_of table.plan_rooms
  pub checked : recipe.AsWorked table.checked
  pub written : product.AsWorked table
  pub propagated : propagate.AsWorked table.propagated
  pub printed : dimacs.AsWorked split_of table.printed

pub bench_right : AsWorked bench
unfolding bench
bench_right =
    record {
      chosen = split.bench_right;
      planned = plan.bench_right;
      plan_rooms = refl;
      checked = recipe.bench_right;
      written = product.bench_right;
      propagated = refl;
      printed = refl;
    }

pub agreed_right : AsWorked agreed
agreed_right =
    record {
      chosen = split.agreed_right;
      planned = plan.agreed_right;
      plan_rooms = plan.agreed_rooms_right;
      checked = recipe.agreed_right;
      written = product.agreed_right;
      propagated = propagate.agreed_right;
      printed = dimacs.agreed_right;
    }
