-- A name that is fresh is in no item, also over the store that has grown.
use Rattle.std.proofs.Common.{◌∙◌, ap, sym, [], ◌∷◌}
use Rattle.tac_cert.specs.Items.{in_items}
use Rattle.cert_items.specs.State.{items_of}
use Rattle.cert_items.proofs.Bools.{not_true}
use Rattle.cert_items.proofs.Finding.{stays, items_stay}
use Rattle.cert_rules.proofs.formulas.define_fits.Goals as goal

pub occurs_in-requires-clause-state : goal.occurs_in-requires-clause-state
occurs_in-requires-clause-state c = stays c.args.store.now c.are_fresh.new.store c.args.state.now c.in_ok-are_fresh.ensures.extends c.requires.state

pub occurs_in-requires-clause-apart : goal.occurs_in-requires-clause-apart
occurs_in-requires-clause-apart c =
    let ts = c.args.store.now in
    let s = c.args.state.now in
    ap (in_items (c.args.name.now ∷ [])) (items_stay ts c.are_fresh.new.store s c.in_ok-are_fresh.ensures.extends c.requires.state)
    ∙ ap (λ n. in_items (n ∷ []) (items_of ts s)) (sym c.in_ok-copy_name.ensures)
    ∙ not_true (in_items (c.in_ok-copy_name.field-0 ∷ []) (items_of ts s)) (sym c.in_ok-are_fresh.ensures.value ∙ c.if-not-branch.false)
