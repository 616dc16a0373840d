use Rattle.std.proofs.Common.{◌∙◌, ap, subst, sym}
use Rattle.qterm.specs.Tree.{sort_of}
use Rattle.qterm.specs.Store.{HasSort}
use Rattle.qterm.specs.declared.name.Name.{Name}
use Rattle.qterm.proofs.Alls.{All-nil}
use Rattle.std.proofs.Common.{ℕ}
use Rattle.qsubst.specs.Substitution.{AreImages}
use Rattle.goal_tables.proofs.names.with_two.Goals as goal

pub substitute-requires-clause-images : goal.substitute-requires-clause-images
substitute-requires-clause-images c =
    let us = c.intern.new.self in
    let w = c.in_ok-two.ensures.shows in
    let none : AreImages us c.new-images.result = subst (AreImages us) (sym c.new-images.ensures) (All-nil (λ (e : Name × ℕ). HasSort e.0.sort us e.1)) in
    c.in_ok-put.ensures.sorts us none (w.has, ap sort_of w.is ∙ sym c.requires.int)
