use Rattle.lang_rows.proofs.Growing.{joined_none}
use Rattle.lang_rows.proofs.joined.Joined.new.Goals as goal

pub returns : goal.returns
returns c = λ ups. record { goals = c.new.ensures; above = joined_none ups _ c.new-2.ensures; models = c.new-3.ensures.items; proofs = c.new-4.ensures.items }
