use Rattle.std.proofs.Common.{sym, subst, length, get_or}
use Rattle.std.proofs.lemmas.List.Elements.{Contains-get_or}
use Rattle.qterm.specs.Store.{tree_at, trees_of}
use Rattle.qwalk.proofs.Finding.{Contains-trees_of}
use Rattle.qgoal.specs.Goal.{goal_tree}
use Rattle.reducer_iface.specs.Listed.{most_clausal, IsListed}
use Rattle.sat_clauses.specs.Coding.{name_at}
use Rattle.sat_clauses.specs.Reading.{IsReading}
use Rattle.sat_clauses.specs.declared.clauses.ReadClauses.TheVariants as read
use Rattle.sat_rows.proofs.Naming.{names_there}
use Rattle.sat_rows.proofs.Learning.{first_is}
use Rattle.sat_answers.proofs.Coding.{coded}
use Rattle.tac_sat.proofs.Rows.{other_fails}
use Rattle.tac_sat.proofs.sat.decide_list.Goals as goal

pub read_clauses-requires-clause-names : goal.read_clauses-requires-clause-names
read_clauses-requires-clause-names c k d l =
    let ts = c.args.store.now in
    let is = c.as_slice-list.result.now in
    names_there ts c.in_ok-numbers.numbers (trees_of ts is) c.in_ok-numbers.ensures.names (tree_at ts (get_or is k d)) (Contains-trees_of ts is (get_or is k d) (Contains-get_or is k d l))

pub returns-in-Other-clause-allowed : goal.returns-in-Other-clause-allowed
returns-in-Other-clause-allowed c =
    let ts = c.args.store.now in
    let vars = c.in_ok-numbers.numbers in
    let cs = trees_of ts c.as_slice-list.result.now in
    let f = name_at ts vars in
    let g = goal_tree ts c.args.goal.now in
    let other : IsReading f (length vars) cs (read.Other c.in-Other.number) = subst (IsReading f (length vars) cs) c.in-Other.is c.in_ok-read.ensures in
    other_fails ts g cs c.args.env.now c.args.racer.now.view.top c.in-Other.number (subst (λ is. IsListed most_clausal g.formulas (trees_of ts is)) (sym c.as_slice-list.ensures) c.requires.listed) (first_is f cs c.in-Other.number other)

pub decide_clauses-requires-clause-coded : goal.decide_clauses-requires-clause-coded
decide_clauses-requires-clause-coded c =
    let ts = c.args.store.now in
    let vars = c.in_ok-numbers.numbers in
    let cs = trees_of ts c.as_slice-list.result.now in
    let f = name_at ts vars in
    let clauses : IsReading f (length vars) cs (read.Clauses c.in-Clauses.clauses) = subst (IsReading f (length vars) cs) c.in-Clauses.is c.in_ok-read.ensures in
    coded ts vars cs c.in-Clauses.clauses.items c.in_ok-numbers.ensures.names c.in_ok-numbers.ensures.has clauses.0 clauses.1
