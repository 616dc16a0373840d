-- How many tickets a racer drew over a first part and the runs behind it.
use Rattle.std.specs.Prelude.{◌+◌}
use Rattle.std.specs.List.{sum_by}
use Rattle.race_word.specs.declared.view.View.{View}
use Rattle.lang_runs.specs.Drawn.{total_in, Tallies, Tally}
use Rattle.lang_rows.specs.declared.row.Row.{Row}
use Rattle.lang_rows.specs.declared.beside.Part.{Part}
use Rattle.lang_rows.specs.declared.beside.Part.TheVariants as part
use Rattle.lang_rows.specs.declared.beside.Beside.{Beside}

-- over the runs of a row
abbrev pub RowTally : View → View → Row → Type 0
RowTally old new row = Tallies old new (λ c. total_in c row.first.deriv + sum_by (total_in c) row.derivs)

-- over runs side by side
abbrev pub BesideTally : View → View → Beside → Type 0
BesideTally old new b = Tallies old new (λ c. total_in c b.first.deriv + sum_by (λ p. total_in c p.1) b.derivs)

-- over what came of the second
abbrev pub PartTally : View → View → Part → Type 0
PartTally old new (part.Ended ran) = Tally old new ran.deriv
PartTally old new (part.Stopped d) = Tally old new d
