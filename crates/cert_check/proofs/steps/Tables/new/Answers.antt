use Rattle.cert_check.proofs.steps.Tables.new.Goals as goal

pub returns : goal.returns
returns c = λ ts. record { forms = c.new.ensures.right ts; depths = c.new-2.ensures ts }
