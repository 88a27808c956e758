-- What bounds hold, as a view.
use Rattle.std.specs.Prelude.{cond, ◌&&◌, pos, nat_lt}
use Rattle.model.specs.Plans.{View}
use Rattle.tables.specs.Rows.{bound_in}
use Rattle.tables.specs.declared.bounds.Bounds.{Bounds}

-- a pair that is not there counts as 10,080
unfoldable pub bounds_view : Bounds → View
bounds_view b =
    record {
      points = b.points;
      at = λ i j. cond (nat_lt i b.points && nat_lt j b.points) (bound_in b.entries i j) (pos 10080);
    }
