use Rattle.std.proofs.Common.{◌≡◌, ◌∙◌, ap, sym, ◌++◌, refl, length, subst}
use Rattle.std.specs.Option.{option_copied}
use Rattle.smt_words.specs.Command.{command_tree}
use Rattle.smt_command.specs.Laws.{IsLawful}
use Rattle.qterm.specs.Store.{trees_of}
use Rattle.qterm.proofs.Extending.{trees_of_extends}
use Rattle.smt_names.specs.Given.{Refuses}
use Rattle.term_limits.specs.Limits.{Counted, IsCounted}
use Rattle.term_limits.proofs.Counting.{counted_stays}
use Rattle.smt_command.specs.Limits.{terms_of, limited}
use Rattle.smt_command.proofs.Settling.{taken_fault, taken_lawful, taken_new, taken_past, taken_read}
use Rattle.smt_command.proofs.read.taken.Goals as goal

pub returns-in_err-command-clause-read : goal.returns-in_err-command-clause-read
returns-in_err-command-clause-read c =
    let b = c.begin.ensures in
    taken_fault (option_copied c.args.reducers) c.args.bytes.now c.args.sexp.now c.args.store.now c.args.symbols.now c.begin.new.self.state c.len-levels.result b.symbols b.scopes b.bound b.in_body (c.len-levels.ensures ∙ ap length b.levels)
    c.read_sexp.new.store (record { state = c.read_sexp.new.state; asserts = c.begin.new.self.asserts; levels = c.begin.new.self.levels }) c.in_err-command.field-0.0 c.from_residual.result c.from_residual.ensures.1 c.in_err-command.ensures.read

pub settle-requires-clause-counted : goal.settle-requires-clause-counted
settle-requires-clause-counted c =
    let us = c.read_sexp.new.store in
    subst (λ (k : Counted). IsCounted us k) (sym c.begin.ensures.asserts) (counted_stays c.args.store.now us c.args.symbols.now.asserts c.in_ok-command.ensures.goes.extends c.requires.counted)

pub settle-requires-clause-lawful : goal.settle-requires-clause-lawful
settle-requires-clause-lawful c =
    let b = c.begin.ensures in
    let us = c.read_sexp.new.store in
    subst (λ n. IsLawful n (command_tree us c.in_ok-command.command)) (sym (ap length b.levels))
    (taken_lawful (option_copied c.args.reducers) c.args.bytes.now c.args.sexp.now c.args.store.now c.args.symbols.now c.begin.new.self.state c.len-levels.result b.symbols b.scopes b.bound b.in_body (c.len-levels.ensures ∙ ap length b.levels)
    us c.read_sexp.new.state c.in_ok-command.command c.in_ok-command.ensures.read)

pub settle-requires-clause-new : goal.settle-requires-clause-new
settle-requires-clause-new c =
    let b = c.begin.ensures in
    taken_new (option_copied c.args.reducers) c.args.bytes.now c.args.sexp.now c.args.store.now c.args.symbols.now c.begin.new.self.state c.len-levels.result b.symbols b.scopes b.bound b.in_body (c.len-levels.ensures ∙ ap length b.levels)
    c.read_sexp.new.store c.read_sexp.new.state c.in_ok-command.command c.in_ok-command.ensures.read

pub returns-in_err-settle-clause-read : goal.returns-in_err-settle-clause-read
returns-in_err-settle-clause-read c =
    let b = c.begin.ensures in
    let ts = c.args.store.now in
    let us = c.read_sexp.new.store in
    let e = c.in_err-settle.field-0.0 in
    let old = c.args.symbols.now.asserts in
    let asserts : trees_of us c.begin.new.self.asserts.ids ≡ trees_of ts old.ids = ap (λ (k : Counted). trees_of us k.ids) b.asserts ∙ trees_of_extends ts us old.ids c.in_ok-command.ensures.goes.extends c.requires.counted.has in
    let read = terms_of (command_tree us c.in_ok-command.command) ++ trees_of us c.read_sexp.new.state.bound in
    taken_past (option_copied c.args.reducers) c.args.bytes.now c.args.sexp.now c.args.store.now c.args.symbols.now c.begin.new.self.state c.len-levels.result b.symbols b.scopes b.bound b.in_body (c.len-levels.ensures ∙ ap length b.levels)
    us c.read_sexp.new.state c.in_ok-command.command c.in_ok-command.ensures.read
    c.settle.new.store c.settle.new.symbols e c.from_residual-in_err-settle.result c.from_residual-in_err-settle.ensures.1
    (subst (Refuses e) ((λ i. limited (c.start.ensures i) (asserts i) read)) c.in_err-settle.ensures.settled)

pub returns-clause-read : goal.returns-clause-read
returns-clause-read c =
    let b = c.begin.ensures in
    let given = c.in_ok-settle.ensures in
    let ts = c.args.store.now in
    let us = c.read_sexp.new.store in
    let old = c.args.symbols.now.asserts in
    let asserts : trees_of us c.begin.new.self.asserts.ids ≡ trees_of ts old.ids = ap (λ (k : Counted). trees_of us k.ids) b.asserts ∙ trees_of_extends ts us old.ids c.in_ok-command.ensures.goes.extends c.requires.counted.has in
    let read = terms_of (command_tree us c.in_ok-command.command) ++ trees_of us c.read_sexp.new.state.bound in
    let kept = sym (λ i. limited (c.start.ensures i) (asserts i) read) ∙ given.settled in
    taken_read (option_copied c.args.reducers) c.args.bytes.now c.args.sexp.now c.args.store.now c.args.symbols.now c.begin.new.self.state c.len-levels.result b.symbols b.scopes b.bound b.in_body (c.len-levels.ensures ∙ ap length b.levels)
    c.read_sexp.new.store c.read_sexp.new.state c.in_ok-command.command c.in_ok-command.ensures.read
    c.settle.new.store (record { state = c.read_sexp.new.state; asserts = c.begin.new.self.asserts; levels = c.begin.new.self.levels }) c.settle.new.symbols refl asserts b.levels kept given.changed given.extends c.in_ok-command.ensures.in_store
