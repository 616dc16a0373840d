use Rattle.std.proofs.Common.{◌<◌, ◌^◌, subst, length, MatchOption}
use Rattle.qterm.specs.Store.{trees_of}
use Rattle.qsubst.specs.Names.{names_of}
use Rattle.qgoal.specs.Goal.{goal_tree}
use Rattle.sat_clauses.specs.Coding.{name_at}
use Rattle.sat_core.specs.declared.solver.Solved.TheVariants as solved
use Rattle.sat_rows.proofs.Naming.{many}
use Rattle.sat_rows.proofs.Learning.{are_clauses}
use Rattle.sat_watch.specs.Deciding.{IsHalted, IsSolved}
use Rattle.sat_watch.specs.declared.halt.Halt.TheVariants.{Pool}
use Rattle.tac_sat.proofs.Rows.{answered}
use Rattle.tac_sat.proofs.deciding.decide_clauses.Goals as goal

pub returns-in-Found-clause-allowed : goal.returns-in-Found-clause-allowed
returns-in-Found-clause-allowed c =
    let ts = c.args.store.now in
    let vars = c.args.numbers.now in
    let cs = trees_of ts c.args.list.now in
    let known = c.args.clauses.items in
    let env = c.args.env.now in
    let k = c.requires.coded in
    let p = c.in_ok-solved.field-0 in
    let d : IsSolved (length vars) known env.limit c.args.racer.now c.decide_numbered.new.racer p.lemmas p.halt (solved.Found c.in-Found.values) = subst (IsSolved (length vars) known env.limit c.args.racer.now c.decide_numbered.new.racer p.lemmas p.halt) c.in-Found.is c.in_ok-solved.ensures.decided in
    answered c.keeps_models.ensures ts (goal_tree ts c.args.goal.now) cs env c.decide_numbered.new.racer.view.top p.lemmas c.in_ok-applied-in-Found.applied c.requires.listed (are_clauses (name_at ts vars) cs known k.read) c.in_ok-applied-in-Found.ensures.answered
    d.1.in_limit (subst (λ v. p.lemmas < 3 ^ v) (many ts vars (names_of cs) k.names) d.1.few)

pub returns-in-Refuted-clause-allowed : goal.returns-in-Refuted-clause-allowed
returns-in-Refuted-clause-allowed c =
    let ts = c.args.store.now in
    let vars = c.args.numbers.now in
    let cs = trees_of ts c.args.list.now in
    let known = c.args.clauses.items in
    let env = c.args.env.now in
    let k = c.requires.coded in
    let p = c.in_ok-solved.field-0 in
    let d : IsSolved (length vars) known env.limit c.args.racer.now c.decide_numbered.new.racer p.lemmas p.halt (solved.Refuted c.in-Refuted.lines) = subst (IsSolved (length vars) known env.limit c.args.racer.now c.decide_numbered.new.racer p.lemmas p.halt) c.in-Refuted.is c.in_ok-solved.ensures.decided in
    answered c.keeps_models.ensures c.refuted.new.store (goal_tree ts c.args.goal.now) cs env c.decide_numbered.new.racer.view.top p.lemmas c.in_ok-applied-in-Refuted.applied c.requires.listed (are_clauses (name_at ts vars) cs known k.read) c.in_ok-applied-in-Refuted.ensures.answered
    d.1.in_limit (subst (λ v. p.lemmas < 3 ^ v) (many ts vars (names_of cs) k.names) d.1.few)

pub returns-in-Spent-clause-allowed : goal.returns-in-Spent-clause-allowed
returns-in-Spent-clause-allowed c = c.spent.ensures.allowed c.args.racer.now.chain c.decide_numbered.new.racer.view

pub returns-in-Some-Pool-clause-allowed : goal.returns-in-Some-Pool-clause-allowed
returns-in-Some-Pool-clause-allowed c =
    let vars = c.args.numbers.now in
    let known = c.args.clauses.items in
    let limit = c.args.env.now.limit in
    let p = c.in_ok-solved.field-0 in
    let d : IsSolved (length vars) known limit c.args.racer.now c.decide_numbered.new.racer p.lemmas p.halt (solved.Halted c.in-Halted.lines) = subst (IsSolved (length vars) known limit c.args.racer.now c.decide_numbered.new.racer p.lemmas p.halt) c.in-Halted.is c.in_ok-solved.ensures.decided in
    let some : IsHalted known limit c.args.racer.now c.decide_numbered.new.racer p.lemmas c.in-Halted.lines.items c.in-Some-Pool.field-0 = subst (λ o. MatchOption o (Unit {0}) (IsHalted known limit c.args.racer.now c.decide_numbered.new.racer p.lemmas c.in-Halted.lines.items)) c.in-Some-Pool.is d in
    let halted : IsHalted known limit c.args.racer.now c.decide_numbered.new.racer p.lemmas c.in-Halted.lines.items (Pool c.in-Some-Pool.end) = subst (IsHalted known limit c.args.racer.now c.decide_numbered.new.racer p.lemmas c.in-Halted.lines.items) c.in-Some-Pool.field-0-is some in
    c.pool_spent.ensures.allowed c.args.racer.now.chain c.decide_numbered.new.racer.view halted.halted.why.1
