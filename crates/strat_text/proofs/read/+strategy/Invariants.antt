use Rattle.std.proofs.Common.{◌≡◌, ◌+◌, ◌*◌, drop}
use Rattle.std.specs.Option.{option_copied}
use Rattle.strat_text.specs.Form.{forms_of}
use Rattle.strat_text.specs.Reading as spec
use Rattle.strat_text.specs.Given.{after}
use Rattle.strat_text.proofs.read.+strategy.Given as goal

abbrev pub decreases-read_at : goal.decreases-read_at
decreases-read_at l = l.left * 5

abbrev pub decreases-read_form : goal.decreases-read_form
decreases-read_form l = l.left * 5 + 4

abbrev pub decreases-read_by : goal.decreases-read_by
decreases-read_by l = l.left * 5 + 3

abbrev pub decreases-read_all : goal.decreases-read_all
decreases-read_all l = l.left * 5 + 2

abbrev pub decreases-read_each : goal.decreases-read_each
decreases-read_each l = l.left * 5 + 1

abbrev pub invariant-read_each-loop-item : goal.invariant-read_each-loop-item
invariant-read_each-loop-item l =
    after l.parts (spec.read_each (option_copied l.names) (forms_of l.bytes (drop l.item-index l.items)) l.left) ≡ after l.initial.parts (spec.read_each (option_copied l.names) (forms_of l.bytes l.items) l.left)
