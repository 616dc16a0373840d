use Rattle.qlin.proofs.Growing.{IsForm_extends, form_at_extends}
use Rattle.qlin.proofs.laws.forms_stay.Goals as goal

pub returns : goal.returns
returns c = record { form = IsForm_extends; same = form_at_extends }
