-- `sheet::checking::is_version` meets its contract: its two tests are those of the rule.
use borrow.Author.Tests.{ne_eqb}
use Rattle.sheet.specs.Check.{is_version}
use Rattle.sheet.proofs.checking.is_version.Goals as goal

pub returns-then-version-eq1 : goal.returns-then-version-eq1
unfolding is_version
returns-then-version-eq1 c = rw c.if-version-eq1.true

pub returns-else-version-eq1 : goal.returns-else-version-eq1
unfolding is_version
returns-else-version-eq1 c = rw (ne_eqb _ _ c.if-version-eq1.false)
