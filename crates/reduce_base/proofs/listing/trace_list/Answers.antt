use Rattle.qterm.specs.Store.{trees_of}
use Rattle.tac_cert.specs.Accepts.{as_items}
use Rattle.reduce_base.proofs.Rewriting.{forms_sorted}
use Rattle.reduce_base.proofs.Leading.{start_leads}
use Rattle.reduce_base.proofs.listing.trace_list.Goals as goal

pub chosen-requires-clause-has : goal.chosen-requires-clause-has
chosen-requires-clause-has c = forms_sorted c.args.store.now c.args.goal.now c.args.forms.now c.is_lawful.ensures c.requires.formulas c.requires.forms

pub returns-clause-leads : goal.returns-clause-leads
returns-clause-leads c =
    let items = as_items (trees_of c.args.store.now c.args.goal.now) in
    c.in_ok-listed.ensures.leads items (c.in_ok-places.ensures.leads items (c.in_ok-rewrite_all.ensures.leads items
    (start_leads c.args.store.now c.args.goal.now (record { items = c.in_ok-items.items; steps = c.new.result }) c.in_ok-items.ensures.items c.new.ensures)))
