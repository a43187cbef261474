-- `interval::times` meets its contract.
use borrow.Author.Rules.{rules}
use Rattle.interval.proofs.Products.{short-fits, short-exact, times-exact, times_above, times_below}
use Rattle.interval.proofs.times.Goals as goal

pub overflow_mul-result : goal.overflow_mul-result
overflow_mul-result c = search (rules, short-fits)

pub returns-then-is_short-2 : goal.returns-then-is_short-2
returns-then-is_short-2 c = search (rules, short-exact)

pub returns-then-is_small_product : goal.returns-then-is_small_product
returns-then-is_small_product c = search (rules, times-exact)

pub returns-then-a-b : goal.returns-then-a-b
returns-then-a-b c = search (rules, times_above)

pub returns : goal.returns
returns c = search (rules, times_below)
