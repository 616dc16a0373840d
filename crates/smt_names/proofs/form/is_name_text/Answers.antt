use Rattle.smt_names.proofs.Texts.{text_decides, same_test}
use Rattle.smt_names.proofs.form.is_name_text.Goals as goal

pub returns-clause-test : goal.returns-clause-test
returns-clause-test c = same_test _ _ (λ h. (text_decides c.args.text.now).1 (c.allows.ensures.0 h)) (λ h. c.allows.ensures.1 ((text_decides c.args.text.now).0 h))
