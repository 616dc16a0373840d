use Rattle.std.proofs.Common.{◌≡◌, ◌∙◌, [], reverse, All, ap, sym, subst}
use Rattle.std.proofs.lemmas.List.Elements.{All-nil}
use Rattle.qterm.proofs.Extending.{Extends_refl}
use Rattle.smt_names.specs.Given.{scopes_in}
use Rattle.smt_names.proofs.Readings.{goes_stays}
use Rattle.smt_term.specs.Frames.{outside}
use Rattle.smt_term.specs.Turns.{IsFrame, turn_reads, turn_around, all_reads, all_around}
use Rattle.smt_term.proofs.Stepping.{goes_on_none}
use Rattle.smt_term.proofs.term.finish.Goals as goal

pub loop-fault-init : goal.loop-fault-init
unfolding outside
loop-fault-init c =
    let bytes = c.args.bytes.now in
    let ts = c.args.store.now in
    let s = c.args.state.now in
    let first = c.args.first in
    let none : reverse c.new-stack.result.items ≡ [] = ap reverse c.new-stack.ensures.items in
    record {
      reads = ap (λ fs. all_reads bytes ts s first fs) none ∙ goes_on_none (turn_reads bytes ts s first) (turn_around bytes ts first (scopes_in ts s.scopes));
      scopes = ap (λ fs. all_around bytes ts s first fs) none;
      has = c.requires.has;
      frames = subst (All (IsFrame ts)) (sym none) (All-nil (IsFrame ts));
      goes = goes_stays ts ts s (Extends_refl ts) c.requires.there;
    }
