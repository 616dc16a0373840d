use Rattle.std.proofs.Common.{◌+◌, sym, subst}
use Rattle.qterm.specs.Store.{tree_at}
use Rattle.smt_names.specs.Given.{scopes_in, seen}
use Rattle.smt_term.specs.declared.frame.Frame.{Frame}
use Rattle.smt_term.specs.Frames.{around, left_in, with_term}
use Rattle.smt_term.specs.Turns.{Turns, frame_in}
use Rattle.smt_term.proofs.stack.resume.Goals as goal

pub returns-in-Body-clause-turns : goal.returns-in-Body-clause-turns
returns-in-Body-clause-turns c =
    let bytes = c.args.bytes.now in
    let ts = c.args.store.now in
    let s = c.args.state.now in
    subst (λ (f : Frame). Turns bytes (around (frame_in bytes ts f) s.scopes) (1 + left_in (frame_in bytes ts f)) ts c.resume_body.new.state (with_term (scopes_in ts s.scopes) (frame_in bytes ts f) (tree_at ts c.args.id) (seen ts s)) c.resume_body.result)
    (sym c.in-Body.is) (c.resume_body.ensures.turns bytes ts c.requires.has)
