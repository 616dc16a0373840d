use Rattle.std.proofs.Common.{nat_lt, ap, ◌∙◌}
use Rattle.qterm.specs.declared.term.TheConstants.{SUBTERMS}
use Rattle.qterm.specs.Store.{tree_at}
use Rattle.answer_text.specs.Sizes.{nodes, is_large, capped}
use Rattle.answer_text.proofs.Counting.{past_limit}
use Rattle.answer_text.proofs.goals.push_formula.Goals as goal

pub push_shown-requires-clause-large : goal.push_shown-requires-clause-large
unfolding is_large capped
push_shown-requires-clause-large c = ap (nat_lt SUBTERMS) c.requires.size ∙ past_limit SUBTERMS (nodes (tree_at c.args.store.now c.args.formula))
