use Rattle.std.proofs.Common.{All, ◌≡◌, ◌∙◌, length, refl, sym, ap, subst, arith, rules}
use Rattle.qterm.specs.declared.name.Sort.TheVariants as sort
use Rattle.qterm.specs.Store.{HasSort, trees_of}
use Rattle.qlin.specs.CanonList.{canon_list}
use Rattle.qlist_laws.specs.Formulas.{AreFormulas}
use Rattle.name_bounds.specs.Missing.{bounded}
use Rattle.reduce_base.proofs.Tidying.{are_formulas}
use Rattle.tac_bounds.proofs.Missing.{fits_wide, lacks_some, lacks_none}
use Rattle.tac_bounds.proofs.bounding.bound_list.Goals as goal

pub returns-in_ok-ids-clause-bounded : goal.returns-in_ok-ids-clause-bounded
returns-in_ok-ids-clause-bounded c =
    let S = c.args.store.now in
    let T = c.bounded.new.store in
    let is = c.args.listed.formulas in
    let l = c.args.params.now.add_bound_lower in
    let u = c.args.params.now.add_bound_upper in
    let low = fits_wide l c.requires.params.lower in
    let up = fits_wide u c.requires.params.upper in
    let all : trees_of T c.in_ok-all.all.items ≡ bounded l u (trees_of S is) = c.in_ok-all.ensures.all ∙ (λ i. bounded (low i) (up i) (trees_of S (c.as_slice.ensures i))) in
    let m : c.len-2.result ≡ length c.in_ok-all.all.items = search rules in
    record {
      lacked = lacks_some S T is c.in_ok-all.all.items l u c.len.result c.len-2.result all c.len.ensures m (omega (arith, c.if-len.true));
      canonical = ap canon_list (sym all) ∙ ap (λ js. canon_list (trees_of T js)) (sym c.as_slice-then-len.ensures.value) ∙ c.in_ok-ids.ensures.listed;
      formulas = c.in_ok-ids.ensures.formulas (subst (All (HasSort sort.Bool T)) (sym c.as_slice-then-len.ensures.value) c.in_ok-all.ensures.formulas);
    }

pub returns-in_ok-ids-clause-formulas : goal.returns-in_ok-ids-clause-formulas
returns-in_ok-ids-clause-formulas c =
    let S = c.args.store.now in
    let T = c.bounded.new.store in
    let low = fits_wide c.args.params.now.add_bound_lower c.requires.params.lower in
    let up = fits_wide c.args.params.now.add_bound_upper c.requires.params.upper in
    subst AreFormulas (c.in_ok-all.ensures.all ∙ (λ i. bounded (low i) (up i) (trees_of S (c.as_slice.ensures i)))) (are_formulas T c.in_ok-all.all.items c.is_lawful.ensures c.in_ok-all.ensures.formulas)

pub returns-else-len-clause-bounded : goal.returns-else-len-clause-bounded
returns-else-len-clause-bounded c =
    let S = c.args.store.now in
    let T = c.bounded.new.store in
    let is = c.args.listed.formulas in
    let l = c.args.params.now.add_bound_lower in
    let u = c.args.params.now.add_bound_upper in
    let low = fits_wide l c.requires.params.lower in
    let up = fits_wide u c.requires.params.upper in
    let all : trees_of T c.in_ok-all.all.items ≡ bounded l u (trees_of S is) = c.in_ok-all.ensures.all ∙ (λ i. bounded (low i) (up i) (trees_of S (c.as_slice.ensures i))) in
    let m : c.len-2.result ≡ length c.in_ok-all.all.items = search rules in
    (refl, lacks_none S T is c.in_ok-all.all.items l u c.len.result c.len-2.result all c.len.ensures m (omega (arith, c.if-len.false)))

pub returns-else-len-clause-formulas : goal.returns-else-len-clause-formulas
returns-else-len-clause-formulas c =
    let S = c.args.store.now in
    let T = c.bounded.new.store in
    let low = fits_wide c.args.params.now.add_bound_lower c.requires.params.lower in
    let up = fits_wide c.args.params.now.add_bound_upper c.requires.params.upper in
    subst AreFormulas (c.in_ok-all.ensures.all ∙ (λ i. bounded (low i) (up i) (trees_of S (c.as_slice.ensures i)))) (are_formulas T c.in_ok-all.all.items c.is_lawful.ensures c.in_ok-all.ensures.formulas)
