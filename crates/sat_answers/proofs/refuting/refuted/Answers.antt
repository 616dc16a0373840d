use Rattle.std.proofs.Common.{subst}
use Rattle.qterm.specs.Store.{trees_of}
use Rattle.qterm.proofs.Extending.{Extends_trans}
use Rattle.qterm.proofs.KidsLaws.{length-trees_of}
use Rattle.sat_clauses.specs.Coding.{name_at}
use Rattle.sat_answers.specs.Answers.{IsOne, IsAnswered}
use Rattle.sat_answers.proofs.Coding.{are_formulas}
use Rattle.sat_answers.proofs.Answering.{refuted_answered}
use Rattle.sat_answers.proofs.refuting.refuted.Goals as goal

pub refutation-requires-clause-vars : goal.refutation-requires-clause-vars
refutation-requires-clause-vars c = are_formulas c.args.store.now c.args.numbers.now (name_at c.args.store.now c.args.numbers.now) c.requires.refutes.coded.stand

pub returns-clause-answered : goal.returns-clause-answered
returns-clause-answered c =
    let ts = c.args.store.now in
    let ss = c.refutation.new.store in
    let us = c.false_goal.new.store in
    let vars = c.args.numbers.now in
    let f = name_at ts vars in
    let fs = trees_of ts c.args.goal.now.formulas in
    let cs = trees_of ts c.args.list.now in
    let r = c.requires.refutes in
    let h = c.in_ok-subgoal.subgoal in
    let k = c.in_ok-subgoal.ensures in
    let more = c.in_ok-last.ensures.leads f cs r.known r.coded.stand r.coded.different (length-trees_of ts c.args.list.now) r.coded.read r.coded.below r.refutes in
    let one = subst (λ ls. IsOne h ls c.append.new.self c.args.lemmas c.in_ok-applied.applied) c.new.ensures c.in_ok-applied.ensures in
    let answered = refuted_answered ts ss us fs cs h c.args.steps c.in_ok-last.last c.append.new.self c.args.lemmas c.in_ok-applied.applied (Extends_trans ts ss us c.in_ok-last.ensures.extends k.extends) k.extends k.formulas k.has one (c.refuted_lists_have_no_model.ensures f cs r.known c.args.lines.items r.coded.read r.refutes) c.requires.leads more c.in_ok-append.ensures in
    subst (λ p. IsAnswered us fs cs p c.args.lemmas c.in_ok-applied.applied) k.precision answered
