use Rattle.std.proofs.Common.{get_or, ap, sym, ◌∙◌}
use Rattle.qterm.specs.Tree.{Var}
use Rattle.sat_lines.proofs.laws.names_are_different.Goals as goal

pub returns : goal.returns
returns c ts vars f distinct apart stand i j p q e =
    apart.apart i j p q (distinct (get_or vars i 0) (get_or vars j 0) (stand.has i p) (stand.has j q) (stand.is i p ∙ ap Var e ∙ sym (stand.is j q)))
