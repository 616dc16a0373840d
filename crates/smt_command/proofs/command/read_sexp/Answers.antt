use Rattle.std.proofs.Common.{sym}
use Rattle.std.specs.Option.{option_copied}
use Rattle.smt_names.specs.Given.{scopes_in, seen}
use Rattle.smt_command.proofs.Opening.{read_atom, read_list}
use Rattle.smt_command.proofs.command.read_sexp.Goals as goal

pub returns-in-Atom-clause-read : goal.returns-in-Atom-clause-read
returns-in-Atom-clause-read c =
    let ts = c.args.store.now in
    let s = c.args.state.now in
    rw (c.refused.ensures, c.in-Atom.is) (read_atom (option_copied c.args.reducers) (scopes_in ts s.scopes) c.args.levels c.args.bytes.now (seen ts s) c.in-Atom.kind c.in-Atom.start c.in-Atom.end)

pub returns-in-List-clause-read : goal.returns-in-List-clause-read
returns-in-List-clause-read c =
    let ts = c.args.store.now in
    let s = c.args.state.now in
    rw (c.in-List.is, read_list (option_copied c.args.reducers) (scopes_in ts s.scopes) c.args.levels c.args.bytes.now (seen ts s) c.in-List.items c.in-List.start c.in-List.end, sym c.as_slice.ensures) c.read_items.ensures.read
