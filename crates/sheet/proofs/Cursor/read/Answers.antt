-- `sheet::Cursor::read` meets its contract: at each return, the tests that led there determine what is read.
use Rattle.sheet.proofs.Rows.{refused_full, refused_end, refused_over, refused-row, found-row, byte_fits}
use mathlib.Core.Logic.{⊎_elim}
use borrow.Author.Rules.{rules}
use Rattle.sheet.proofs.Cursor.read.Goals as goal

pub returns-then-self-eq0 : goal.returns-then-self-eq0
returns-then-self-eq0 c = ⊎_elim (λ e. refused_full _ _ e) (λ e. search (rules, refused_end)) c.then-self-eq0.either

pub overflow_cast-size : goal.overflow_cast-size
overflow_cast-size c = search (rules, byte_fits, c.shared_slice_known-2-1.given)

pub returns-then-s-at-2 : goal.returns-then-s-at-2
returns-then-s-at-2 c = search (rules, refused_over)

pub returns-in_err-r : goal.returns-in_err-r
returns-in_err-r c = search (rules, refused-row)

pub returns : goal.returns
returns c = search (rules, found-row)
