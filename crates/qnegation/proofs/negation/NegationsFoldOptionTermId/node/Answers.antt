use Rattle.std.proofs.Common.{sym, subst}
use Rattle.qterm.proofs.Fitting.{Has_extends}
use Rattle.qnegation.specs.Negation.{IsNegation}
use Rattle.qnegation.proofs.Negated.{AreNegations_extends, AreNegations-note, AreNegations-same}
use Rattle.qnegation.proofs.negation.NegationsFoldOptionTermId.node.Goals as goal

pub returns-in_err-found-clause-ready : goal.returns-in_err-found-clause-ready
returns-in_err-found-clause-ready c = AreNegations_extends c.args.store.now c.negation.new.store c.args.self.now c.negation.ensures.extends c.requires.ready

pub returns-in_err-note-clause-ready : goal.returns-in_err-note-clause-ready
returns-in_err-note-clause-ready c =
    let us = c.negation.new.store in
    AreNegations-same us c.args.self.now c.note.new.self (AreNegations_extends c.args.store.now us c.args.self.now c.in_ok-found.ensures.extends c.requires.ready) c.in_err-note.ensures.err

pub returns-clause-ready : goal.returns-clause-ready
returns-clause-ready c =
    let ts = c.args.store.now in
    let us = c.negation.new.store in
    let e = c.in_ok-found.ensures.extends in
    let n = subst (λ t. IsNegation us t c.in_ok-found.found) (sym (e.same c.args.id c.requires.has)) c.in_ok-found.ensures.right in
    AreNegations-note us c.args.self.now c.note.new.self c.args.id c.in_ok-found.found (Has_extends ts us c.args.id e c.requires.has) n
    (AreNegations_extends ts us c.args.self.now e c.requires.ready) c.in_ok-note.ensures.ok
