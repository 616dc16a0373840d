use Rattle.std.proofs.Common.{◌≡◌, ◌∙◌, Ok, sym, ap, subst}
use Rattle.strat_text.specs.Form.{form_of, forms_of}
use Rattle.qterm.specs.Store.{tree_at}
use Rattle.smt_theory.specs.Sorts.{same_sort}
use Rattle.smt_names.specs.Annotated.{newly}
use Rattle.smt_names.specs.Given.{seen}
use Rattle.smt_command.proofs.Counted.{counted_seen, defined_read}
use Rattle.smt_command.proofs.definition.defined.Goals as goal

pub returns-clause-read : goal.returns-clause-read
returns-clause-read c =
    let ts = c.args.store.now in
    let bytes = c.args.bytes.now in
    defined_read c.args.at (form_of bytes c.args.name.now) c.args.params c.args.sort c.args.place (forms_of bytes c.args.rest.now) (tree_at ts c.args.id) (seen ts c.args.state.now) (seen ts c.define.new.state) (seen ts c.count.new.state)
    (ap (λ x. same_sort x c.args.sort) (sym c.sort.ensures) ∙ sym c.same_sort.ensures.value ∙ c.if-not-same_sort.false) c.in_ok-nothing.ensures (subst (λ m. newly c.args.at m (form_of bytes c.args.name.now) (seen ts c.args.state.now) ≡ Ok (tt {0}, seen ts c.define.new.state)) (c.meaning_over.ensures.over ts) (c.in_ok-define.ensures.read ts))
    (counted_seen ts c.define.new.state c.count.new.state c.args.id c.in_ok-count.ensures.counted)
