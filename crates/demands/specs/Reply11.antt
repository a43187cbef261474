-- What request 2026-11 asks for.
use Rattle.std.specs.Prelude.{◌≡◌, List, ℕ}
use Rattle.interval.specs.Claims.{Inside}
use Rattle.sheet.specs.declared.Record.{Record}
use Rattle.cube.specs.declared.Root.{Root}
use Rattle.cube.specs.declared.Cube.{Cube}
use Rattle.cube.specs.declared.Point.{Point}
use Rattle.cube.specs.Points.{CubeInside}
use Rattle.zone.specs.Replies.{zone_check_of, zone_build_of, zone_refine_of, zone_open_of, zone_lookup_of}
use Rattle.demands.specs.Terms.{Never, bounds_over, KeepsLimit}
use Rattle.demands.specs.Row11.{build_with_row11}

-- Request 2026-11: reply 11, for a record's bounds over a smaller cube, is dropped, and that changed no outcome.
pub record Reply11 : Type 0 where
  -- over a cube inside another, each record's bounds lie in its bounds over the other
  pub inside : (rs : List Record) (inner outer : Cube) → CubeInside inner outer → (i : ℕ) → Inside (bounds_over rs inner i) (bounds_over rs outer i)
  -- so if every record keeps the limit over a cube, every record keeps it over each cube inside it, whatever tree that belongs to
  pub keeps : (rs : List Record) (inner outer : Cube) → CubeInside inner outer → KeepsLimit rs outer → KeepsLimit rs inner
  -- for every input zone_build has the outcome of document 01's table as it was, with row 11 tested at each cube of the tree: the reply, and every byte
  pub same : (sheet : List ℕ) (root : Root) (before : List ℕ) → zone_build_of sheet root before ≡ build_with_row11 sheet root before
  -- and no call returns 11
  pub never : (sheet map before : List ℕ) (root : Root) (p : Point)
      → Never 11 (zone_check_of sheet) × Never 11 (zone_build_of sheet root before).reply × Never 11 (zone_open_of map) × Never 11 (zone_lookup_of sheet map p)
  pub refine-never : (sheet map : List ℕ) (d : ℕ) (before : List ℕ) → Never 11 (zone_refine_of sheet map d before).reply
