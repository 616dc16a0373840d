use Rattle.sat_rows.proofs.Refuted.{none_models}
use Rattle.sat_rows.proofs.laws.refuted_lists_have_no_model.Goals as goal

pub returns : goal.returns
returns c f cs known lines read refuted = none_models f cs known read (c.refuted_clauses_have_no_model.ensures known lines refuted)
