use Rattle.std.proofs.Common.{◌≡◌, ◌&&◌, nat_le, length, is_some, true}
use Rattle.std.specs.List.{list_all}
use Rattle.strat_text.specs.Allowed.{are_settings}
use Rattle.reducer_iface.specs.Names.{kind_at}
use Rattle.lang_runs.specs.Strategies.{runs}
use Rattle.check_record.proofs.Levels.{runs-Prim, runs-Then, runs-OrElse, runs-ParOr, runs-ParThen, runs-If, runs-When, runs-FailIf, runs-Repeat, runs-Params, runs-TryFor}
use Rattle.check_record.proofs.runnable.+strategy.Goals as goal

pub runs-returns-in-Prim : goal.runs-returns-in-Prim
runs-returns-in-Prim g t c =
    let names = g.R.Reducers.kinds c.args.reducers.now in
    let parts : runs names c.args.strategy.now ≡ is_some (kind_at names c.in-Prim.name) = runs-Prim names c.args.strategy.now c.in-Prim.name (cc) in
    cc

pub runs-returns-in-Then : goal.runs-returns-in-Then
runs-returns-in-Then g t c =
    let names = g.R.Reducers.kinds c.args.reducers.now in
    let parts : runs names c.args.strategy.now ≡ (nat_le 2 (length c.as_slice.result.now) && list_all (runs names) c.as_slice.result.now) = runs-Then names c.args.strategy.now c.as_slice.result.now (cc) in
    cc

pub runs-returns-in-OrElse : goal.runs-returns-in-OrElse
runs-returns-in-OrElse g t c =
    let names = g.R.Reducers.kinds c.args.reducers.now in
    let parts : runs names c.args.strategy.now ≡ (nat_le 2 (length c.as_slice-in-OrElse.result.now) && list_all (runs names) c.as_slice-in-OrElse.result.now) = runs-OrElse names c.args.strategy.now c.as_slice-in-OrElse.result.now (cc) in
    cc

pub runs-returns-in-ParOr : goal.runs-returns-in-ParOr
runs-returns-in-ParOr g t c =
    let names = g.R.Reducers.kinds c.args.reducers.now in
    let parts : runs names c.args.strategy.now ≡ (nat_le 2 (length c.as_slice-in-ParOr.result.now) && list_all (runs names) c.as_slice-in-ParOr.result.now) = runs-ParOr names c.args.strategy.now c.as_slice-in-ParOr.result.now (cc) in
    cc

pub runs-returns-in-ParThen : goal.runs-returns-in-ParThen
runs-returns-in-ParThen g t c =
    let names = g.R.Reducers.kinds c.args.reducers.now in
    let parts : runs names c.args.strategy.now ≡ (runs names c.get.result.now && runs names c.get-in-ParThen.result.now) = runs-ParThen names c.args.strategy.now c.get.result.now c.get-in-ParThen.result.now (cc) in
    cc

pub runs-returns-in-If : goal.runs-returns-in-If
runs-returns-in-If g t c =
    let names = g.R.Reducers.kinds c.args.reducers.now in
    let parts : runs names c.args.strategy.now ≡ (runs names c.get-in-If.result.now && runs names c.get-in-If-2.result.now) = runs-If names c.args.strategy.now c.in-If.field-0 c.get-in-If.result.now c.get-in-If-2.result.now (cc) in
    cc

pub runs-returns-in-When : goal.runs-returns-in-When
runs-returns-in-When g t c =
    let names = g.R.Reducers.kinds c.args.reducers.now in
    let parts : runs names c.args.strategy.now ≡ runs names c.get-in-When.result.now = runs-When names c.args.strategy.now c.in-When.field-0 c.get-in-When.result.now (cc) in
    cc

pub runs-returns-in-FailIf : goal.runs-returns-in-FailIf
runs-returns-in-FailIf g t c =
    let names = g.R.Reducers.kinds c.args.reducers.now in
    let parts : runs names c.args.strategy.now ≡ true = runs-FailIf names c.args.strategy.now c.in-FailIf.field-0 (cc) in
    cc

pub runs-returns-in-Repeat : goal.runs-returns-in-Repeat
runs-returns-in-Repeat g t c =
    let names = g.R.Reducers.kinds c.args.reducers.now in
    let parts : runs names c.args.strategy.now ≡ runs names c.get-in-Repeat.result.now = runs-Repeat names c.args.strategy.now c.get-in-Repeat.result.now c.in-Repeat.field-1 (cc) in
    cc

pub runs-returns-in-Params : goal.runs-returns-in-Params
runs-returns-in-Params g t c =
    let names = g.R.Reducers.kinds c.args.reducers.now in
    let parts : runs names c.args.strategy.now ≡ (runs names c.get-in-Params.result.now && are_settings c.as_slice-in-Params.result.now) = runs-Params names c.args.strategy.now c.get-in-Params.result.now c.as_slice-in-Params.result.now (cc) in
    cc

pub runs-returns-in-TryFor : goal.runs-returns-in-TryFor
runs-returns-in-TryFor g t c =
    let names = g.R.Reducers.kinds c.args.reducers.now in
    let parts : runs names c.args.strategy.now ≡ runs names c.get-in-TryFor.result.now = runs-TryFor names c.args.strategy.now c.get-in-TryFor.result.now c.in-TryFor.field-1 (cc) in
    cc
