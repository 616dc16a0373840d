-- The tables of a check are right.
use Rattle.std.specs.Prelude.{◌≡◌, length, take, ℕ, zero, suc, List, Option, Some, None, Bool as Truth, true, false}
use Rattle.qterm.specs.Tree.{Tree}
use Rattle.qcanon.specs.Chain.{AreForms}
use Rattle.cert_rules.specs.Depths.{AreDepths}
use Rattle.cert_items.specs.declared.held.Held.{Held}
use Rattle.cert_items.specs.declared.state.State.{State}
use Rattle.cert_items.specs.State.{items_of}
use Rattle.tac_cert.specs.Items.{Item}
use Rattle.tac_cert.specs.Accepts.{Closing, CloseFits, ProofFits}
use Rattle.cert_check.specs.declared.steps.Tables.{Tables}
use Rattle.cert_check.specs.declared.verdict.Ran.{Ran}
use Rattle.cert_check.specs.declared.verdict.Ran.TheVariants as ran
use Rattle.cert_check.specs.Walking.{Passed, Through, Stopped}

pub record AreReady (ts : List Tree) (t : Tables) : Type 0 where
  pub forms : AreForms ts t.forms
  pub depths : AreDepths ts t.depths

-- the items, where the step is accepted
abbrev pub given : Truth → List Item → Option (List Item)
given true items = Some items
given false items = None

-- what the steps left
abbrev pub passed : List Tree → State → Ran → Passed
passed ts s (ran.Through n) = Through (items_of ts s) n
passed ts s (ran.Stopped n w) = Stopped n w

-- the items are still there, and new ones stand behind them
abbrev pub Grows : List Held → List Held → Type 0
Grows old new = take (length old) new ≡ old

-- the terms of a closing line are there, where left more splits may stand
abbrev pub EndFits : List Tree → ℕ → Closing → Type 0
EndFits ts zero c = Unit {0}
EndFits ts (suc left) c = CloseFits (ProofFits ts left) c
