-- `vectors::with_input` hands `answer` the front of the buffer, which is what was consumed.
use Rattle.std.proofs.Common.{rules, refl, take}
use Rattle.std.proofs.lemmas.Fn.{gave_at}
use Rattle.vectors.proofs.with_input.Goals as goal

pub returns : goal.returns
returns g c = (take c.read_full-n.result c.read_full-n.new.buffer, search rules, c.read_full-n.ensures.bytes, gave_at g.F.FnOnce c.answer.ensures refl)
