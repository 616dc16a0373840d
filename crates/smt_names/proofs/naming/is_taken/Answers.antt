use Rattle.std.proofs.Common.{sym, ap, ◌∙◌}
use Rattle.std.specs.Prelude.{is_some, ◌||◌}
use Rattle.std.specs.Map.{lookup}
use Rattle.std.specs.Str.{bytes_eq}
use Rattle.smt_names.proofs.Names.{taken_seen}
use Rattle.smt_names.proofs.naming.is_taken.Goals as goal

pub returns-else-is_theory_name-clause-taken : goal.returns-else-is_theory_name-clause-taken
returns-else-is_theory_name-clause-taken c = λ ts.
    c.has.ensures
    ∙ sym (taken_seen ts c.args.symbols.now c.args.name.now ∙ ap (λ b. b || is_some (lookup (bytes_eq c.args.name.now) c.args.symbols.now)) (sym c.is_theory_name.ensures ∙ c.if-is_theory_name.false))
