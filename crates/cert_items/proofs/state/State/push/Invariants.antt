use Rattle.cert_items.specs.Seen.{all_roots}
use Rattle.cert_items.proofs.state.State.push.Given as goal

abbrev pub ghost-see_item : goal.ghost-see_item
ghost-see_item a = all_roots a.items.now
