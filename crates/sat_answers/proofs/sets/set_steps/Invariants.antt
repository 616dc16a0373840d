use Rattle.std.proofs.Common.{◌≡◌, take, length, List}
use Rattle.qterm.specs.declared.name.Name.{Name}
use Rattle.model_conv.specs.Step.{AreLawful}
use Rattle.reducer_iface.specs.SatRow.{sets}
use Rattle.sat_clauses.specs.Coding.{name_at}
use Rattle.sat_rows.specs.Names.{AreNames}
use Rattle.sat_answers.proofs.sets.set_steps.Given as goal

abbrev pub invariant-loop-value : goal.invariant-loop-value
invariant-loop-value l = record {
  number : l.number ≡ l.value-index;
  steps : (ns : List Name) → AreNames ns (name_at l.store l.numbers) → length ns ≡ length l.numbers → l.steps ≡ sets (take l.value-index ns) (take l.value-index l.values);
  lawful : AreLawful l.steps;
}
