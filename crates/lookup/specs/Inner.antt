-- What the functions that evaluate a leaf at a point require. Only inner contracts cite this.
use Rattle.std.specs.Prelude.{◌≡◌, List, []}
use Rattle.sheet.specs.declared.Record.{Record}
use Rattle.cube.specs.declared.Point.{Point}
use Rattle.cube.specs.Limits.{Near}
use Rattle.cube.specs.Points.{point_cube}
use Rattle.colour.specs.Entries.{first_past}

-- a point over which no record passes the limit, near enough for its bounds to be computed
pub record Judgeable (rs : List Record) (p : Point) : Type 0 where
  pub near : Near 0 (point_cube p)
  pub none : first_past rs (point_cube p) ≡ []
