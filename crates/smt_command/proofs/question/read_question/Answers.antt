use Rattle.std.proofs.Common.{sym}
use Rattle.smt_names.specs.Given.{scopes_in, seen}
use Rattle.smt_command.proofs.Opening.{question_none, question_atom, question_row}
use Rattle.smt_command.proofs.question.read_question.Goals as goal

pub returns-in-empty-clause-read : goal.returns-in-empty-clause-read
returns-in-empty-clause-read c =
    let ts = c.args.store.now in
    let s = c.args.state.now in
    rw c.bad.ensures (question_none (scopes_in ts s.scopes) c.args.bytes.now c.args.at (seen ts s) c.args.args.now c.in-empty.len_below)

pub returns-in-Atom-clause-read : goal.returns-in-Atom-clause-read
returns-in-Atom-clause-read c =
    let ts = c.args.store.now in
    let s = c.args.state.now in
    rw c.bad-in-Atom.ensures (question_atom (scopes_in ts s.scopes) c.args.bytes.now c.args.at (seen ts s) c.args.args.now c.row-item.result c.in-Atom.kind c.in-Atom.start c.in-Atom.end c.in-len1-up.len_at_least c.row-item.is c.in-Atom.is)

pub returns-in-List-clause-read : goal.returns-in-List-clause-read
returns-in-List-clause-read c =
    let ts = c.args.store.now in
    let s = c.args.state.now in
    rw (question_row (scopes_in ts s.scopes) c.args.bytes.now c.args.at (seen ts s) c.args.args.now c.row-item.result c.in-List.items c.in-List.start c.in-List.end c.in-len1-up.len_at_least c.row-item.is c.in-List.is, sym c.as_slice.ensures) c.asked_row.ensures.read
