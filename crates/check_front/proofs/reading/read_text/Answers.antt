use Rattle.std.proofs.Common.{refl}
use Rattle.check_front.proofs.Taken.{past}
use Rattle.check_front.proofs.reading.read_text.Goals as goal

pub returns-in-Err-TooLong-clause-text : goal.returns-in-Err-TooLong-clause-text
returns-in-Err-TooLong-clause-text g c = past c.args.most _ _ ((rw c.in-Err-TooLong.field-0-is at c.in-Err-TooLong.ensures.past) refl)
