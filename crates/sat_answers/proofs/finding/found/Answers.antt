use Rattle.std.proofs.Common.{sym, subst, ◌∙◌, length}
use Rattle.qterm.specs.Store.{trees_of}
use Rattle.qsubst.specs.Names.{names_of}
use Rattle.qgoal.specs.declared.goal.Goal.{Goal}
use Rattle.sat_core.specs.Models as solver
use Rattle.sat_clauses.specs.Coding.{name_at, AreDifferent, AllBelow}
use Rattle.sat_lines.specs.Terms.{AreBool}
use Rattle.sat_rows.proofs.Naming.{many, names_are}
use Rattle.sat_answers.specs.Answers.{IsOne}
use Rattle.sat_answers.proofs.Answering.{found_answered}
use Rattle.sat_answers.proofs.finding.found.Goals as goal

pub returns : goal.returns
returns c =
    let ts = c.args.store.now in
    let vars = c.args.numbers.now in
    let f = name_at ts vars in
    let fs = trees_of ts c.args.goal.now.formulas in
    let cs = trees_of ts c.args.list.now in
    let ns = names_of cs in
    let v = c.requires.values in
    let size = many ts vars ns v.coded.names in
    let are = names_are ts vars ns v.coded.names in
    let model : solver.IsModel (length ns) v.known c.args.values.now = subst (λ n. solver.IsModel n v.known c.args.values.now) size v.model in
    let holds = c.found_values_are_a_model.ensures f ns cs v.known c.args.values.now are (subst (λ n. AreDifferent n f) size v.coded.different) (subst (λ n. AreBool n f) size v.coded.stand.bool) v.coded.read (subst (λ n. AllBelow n v.known) size v.coded.below) model in
    let h : Goal = record { formulas = c.from_vec.result; precision = c.args.goal.now.precision } in
    let one = subst (λ ss. IsOne h ss c.keep_none.new.steps c.args.lemmas c.in_ok-applied.applied) (c.in_ok-lifts.ensures.steps ns are (sym size)) c.in_ok-applied.ensures in
    record { answered = found_answered ts fs cs h c.args.values.now c.args.steps c.keep_none.new.steps c.args.lemmas c.in_ok-applied.applied (c.from_vec.ensures ∙ c.new.ensures.items) one model.size holds c.requires.leads c.in_ok-keep_none.ensures }
