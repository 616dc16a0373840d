use Rattle.std.proofs.Common.{◌∙◌, ap, sym, subst, All}
use Rattle.qterm.specs.declared.name.Sort.TheVariants as sort
use Rattle.qterm.specs.Store.{trees_of, HasSort}
use Rattle.qsubst.specs.Substitution.{replaced_each, images_at}
use Rattle.bit_lists.proofs.Looping.{all_split}
use Rattle.bit_lists.proofs.row.split_list.Goals as goal

pub returns-clause-split : goal.returns-clause-split
returns-clause-split c =
    all_split c.args.store.now c.images.new.store c.substitute.new.store c.push_following.new.store c.in_ok-images.images c.args.splits.now c.args.list.now c.in_ok-kept.kept.items c.in_ok-formulas.formulas.items c.push_following.new.formulas.items c.images.ensures.extends
    c.requires.formulas c.in_ok-images.ensures.has (c.in_ok-kept.ensures.unbounded c.args.splits.now c.in_ok-images.ensures.has) (c.in_ok-formulas.ensures.replaced ∙ ap (λ is. replaced_each (images_at c.images.new.store c.in_ok-images.images) (trees_of c.images.new.store is)) c.as_slice.ensures.value) c.in_ok-push_following.ensures.following

pub push_following-requires-clause-formulas : goal.push_following-requires-clause-formulas
push_following-requires-clause-formulas c = c.in_ok-formulas.ensures.sorts sort.Bool (subst (All (HasSort sort.Bool c.images.new.store)) (sym c.as_slice.ensures.value) c.in_ok-kept.ensures.formulas)
