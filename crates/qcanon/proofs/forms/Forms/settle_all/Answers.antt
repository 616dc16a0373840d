use Rattle.std.proofs.Common.{refl}
use Rattle.qcanon.proofs.Known.{AreForms_settled}
use Rattle.qcanon.proofs.forms.Forms.settle_all.Goals as goal

pub returns-in_err-found-clause-forms : goal.returns-in_err-found-clause-forms
returns-in_err-found-clause-forms c = AreForms_settled c.args.store.now c.link_all.new.store c.args.self.now _ c.link_all.ensures.extends c.requires.forms refl refl c.link_all.ensures.settled

pub returns-clause-forms : goal.returns-clause-forms
returns-clause-forms c = AreForms_settled c.args.store.now c.link_all.new.store c.args.self.now _ c.in_ok-found.ensures.extends c.requires.forms refl refl c.in_ok-found.ensures.settled
