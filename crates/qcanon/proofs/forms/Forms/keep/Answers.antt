use Rattle.std.proofs.Common.{refl}
use Rattle.qcanon.proofs.Known.{AreForms-put, AreForms-same}
use Rattle.qcanon.proofs.forms.Forms.keep.Goals as goal

pub returns-in_err-put : goal.returns-in_err-put
returns-in_err-put c = record { right = λ ts f h r. AreForms-same ts c.args.self.now _ f c.in_err-put.ensures.err refl refl }

pub returns : goal.returns
returns c = record { right = λ ts f h r. AreForms-put ts c.args.self.now _ c.args.id c.args.found.now h r f c.in_ok-put.ensures.ok refl refl }
