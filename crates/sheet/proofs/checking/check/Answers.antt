-- `sheet::checking::check` meets its contract: at each return the tests that led there pick the row of the table of replies.
use Rattle.sheet.proofs.Replies.{too_short, disagrees, other-version, bad-record, all-framed}
use borrow.Author.Rules.{rules}
use Rattle.sheet.proofs.checking.check.Goals as goal

pub returns-then-s-lt3 : goal.returns-then-s-lt3
returns-then-s-lt3 c = search (rules, too_short)

pub returns-then-u16_at-s : goal.returns-then-u16_at-s
returns-then-u16_at-s c = search (rules, disagrees)

pub returns-then-not-is_version : goal.returns-then-not-is_version
returns-then-not-is_version c = search (rules, other-version)

pub returns-then-at-s : goal.returns-then-at-s
returns-then-at-s c = search (rules, bad-record)

pub returns : goal.returns
returns c = search (rules, all-framed)
