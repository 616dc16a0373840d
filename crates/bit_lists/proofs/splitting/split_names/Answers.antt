use Rattle.std.proofs.Common.{◌≡◌, ◌∙◌, ◌++◌, None, sym, ap, subst}
use Rattle.qterm.specs.Store.{trees_of}
use Rattle.qsubst.specs.Substitution.{replaced_each}
use Rattle.bit_lists.specs.Splits.{negative}
use Rattle.bit_lists.specs.Row.{images_of, unbounded, following}
use Rattle.bit_lists.proofs.Making.{splits_are, plain_list}
use Rattle.bit_lists.proofs.splitting.split_names.Goals as goal

pub returns-clause-splits : goal.returns-clause-splits
returns-clause-splits c =
    let S = c.args.store.now in
    let F = trees_of S c.args.list.now in
    let before = ap (trees_of S) c.as_slice-in-None.ensures.value ∙ c.in_ok-names.ensures.names in
    let names = ap (trees_of S) c.as_slice-in-None-2.ensures.value ∙ c.in_ok-names.ensures.names in
    let none : negative F ≡ None = sym (c.in_ok-name-in-None.ensures F before c.in_ok-table.ensures) ∙ c.in-None-2.is in
    splits_are c.in_ok-taken-in-None-2.taken (trees_of S c.args.goal.now) F c.in_ok-splits-in-None-2.splits.items c.in_ok-taken-in-None-2.ensures none (c.in_ok-splits-in-None-2.ensures.splits F names c.in_ok-table.ensures)

pub returns-clause-split : goal.returns-clause-split
returns-clause-split c =
    let S = c.args.store.now in
    let T = c.split_list.new.store in
    let F = trees_of S c.args.list.now in
    let found = c.in_ok-formulas-in-None-2.formulas.items in
    let before = ap (trees_of S) c.as_slice-in-None.ensures.value ∙ c.in_ok-names.ensures.names in
    let none : None ≡ negative F = sym c.in-None-2.is ∙ c.in_ok-name-in-None.ensures F before c.in_ok-table.ensures in
    plain_list F (trees_of T found) c.in_ok-splits-in-None-2.splits.items none (subst (λ ss. trees_of T found ≡ replaced_each (images_of ss) (unbounded ss F) ++ following ss) c.as_slice-in-None-2-2.ensures.value c.in_ok-formulas-in-None-2.ensures.split)
