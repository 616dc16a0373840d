-- What a reducer of each kind may answer. A kind without a row here isn't built yet, and nothing is allowed to it.
use Rattle.deriv.specs.declared.kind.Kind.TheVariants as kinds
use Rattle.deriv.specs.Derives.{Rows}
use Rattle.reducer_iface.specs.SkipRow.{SkipRow}
use Rattle.reducer_iface.specs.FailRow.{FailRow}
use Rattle.reducer_iface.specs.SimplifyRow.{SimplifyRow}
use Rattle.reducer_iface.specs.SatRow.{SatRow}
use Rattle.reducer_iface.specs.DropWideRow.{DropWideRow}
use Rattle.reducer_iface.specs.NormalizeBoundsRow.{NormalizeBoundsRow}
use Rattle.reducer_iface.specs.AddBoundsRow.{AddBoundsRow}
use Rattle.reducer_iface.specs.CustomRow.{CustomRow}

-- by kind, under these parameters, of this goal, limit, pool and total drawn: the outcome, the steps of lifting and the spent lemmas
abbrev pub rows : Rows
rows kinds.Skip ps g l pool drawn out lifts spent = SkipRow g out lifts spent
rows kinds.Fail ps g l pool drawn out lifts spent = FailRow out lifts spent
rows kinds.Simplify ps g l pool drawn out lifts spent = SimplifyRow g out lifts spent
rows kinds.Sat ps g l pool drawn out lifts spent = SatRow g l pool drawn out lifts spent
rows kinds.DropWide ps g l pool drawn out lifts spent = DropWideRow ps.drop_wide_max g out lifts spent
rows kinds.NormalizeBounds ps g l pool drawn out lifts spent = NormalizeBoundsRow g out lifts spent
rows kinds.AddBounds ps g l pool drawn out lifts spent = AddBoundsRow ps.add_bound_lower ps.add_bound_upper g out lifts spent
rows kinds.Custom ps g l pool drawn out lifts spent = CustomRow g out lifts
rows _ ps g l pool drawn out lifts spent = ⊥
