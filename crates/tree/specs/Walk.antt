-- A walk over a tree of cubes with what is carried down. Only inner contracts cite this.
use Rattle.std.specs.Prelude.{ℕ, ◌<◌, ◌≡◌, true, List, []}
use Rattle.sheet.specs.declared.Record.{Record}
use Rattle.cube.specs.declared.Cube.{Cube}
use Rattle.cube.specs.Limits.{Near}
use Rattle.colour.specs.declared.State.{State}
use Rattle.colour.specs.Entries.{first_past}
use Rattle.tape.specs.declared.Tape.{Tape}
use Rattle.tape.specs.Lent.{Work, LentTo, Carries, Stays}
use Rattle.tree.specs.Solid.{is_gray}

-- a cube that is split
pub record Split (over : Cube → State) (left : ℕ) (q : Cube) : Type 0 where
  pub deep : 0 < left
  pub gray : is_gray over q ≡ true

module _ (rs : List Record) where
  -- what a walk below a cube asks: the tape is carried down to it, and no record passes the limit over it
  pub record Ready (left : ℕ) (q : Cube) (w : Work) (t : Tape) : Type 0 where
    pub near : Near left q
    pub none : first_past rs q ≡ []
    pub carries : Carries rs q w.words t
    pub lent : LentTo rs w

  -- what it leaves: the words of the tape stay, so that it serves the next cube too
  pub record Left (t : Tape) (w₀ w : Work) : Type 0 where
    pub stays : Stays t.from w₀.words w.words
    pub lent : LentTo rs w
