use Rattle.std.proofs.Common.{◌≡◌, map, take, drop}
use Rattle.smt_words.specs.Command.{asked_tree}
use Rattle.script_text.specs.Shown.{value_row, first_wide}
use Rattle.script_text.proofs.asking.rows_of.Given as goal

abbrev pub invariant-loop-term : goal.invariant-loop-term
invariant-loop-term l = record {
  rows : l.rows.items ≡ map (λ a. value_row l.model (asked_tree l.store a)) (take l.term-index l.asked);
  later : first_wide l.model (map (asked_tree l.store) l.asked) ≡ first_wide l.model (map (asked_tree l.store) (drop l.term-index l.asked));
}
