use Rattle.std.proofs.Common.{◌≡◌, ◌∙◌, ap, sym, subst, take}
use Rattle.smt_names.specs.Table.{AreThere}
use Rattle.smt_command.proofs.Forces.{front_taken, force_extends, there_take}
use Rattle.smt_command.proofs.read.read_command.Goals as goal

pub returns-in-Err-clause-unchanged : goal.returns-in-Err-clause-unchanged
returns-in-Err-clause-unchanged c =
    let old = c.args.symbols.now in
    let late = c.taken.new.symbols in
    let symbols : c.cut.new.self ≡ old.state.symbols =
    c.cut.ensures ∙ ap (λ n. take n late.state.symbols) c.len-before.ensures ∙ front_taken old.state.symbols late.state.symbols c.in-Err.ensures.front in
    force_extends c.args.store.now c.taken.new.store old (record { state = record { symbols = c.cut.new.self; scopes = late.state.scopes; bound = late.state.bound; in_body = late.state.in_body }; asserts = late.asserts; levels = late.levels }) c.in-Err.ensures.extends c.requires.there c.requires.counted symbols c.in-Err.ensures.asserts c.in-Err.ensures.levels

pub returns-in-Err-clause-there : goal.returns-in-Err-clause-there
returns-in-Err-clause-there c =
    let late = c.taken.new.symbols in
    subst (AreThere c.taken.new.store) (sym c.cut.ensures) (there_take c.taken.new.store c.len-before.result late.state.symbols c.in-Err.ensures.there)
