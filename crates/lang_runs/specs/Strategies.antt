-- Which strategies may run: their names are there, their forms have parts, and their settings are in range.
use Rattle.std.specs.Prelude.{◌≡◌, List, length, Bool as Truth, true, ◌&&◌, nat_le, is_some, All}
use Rattle.std.specs.List.{list_all}
use Rattle.strat_text.specs.declared.strategy.Strategy.{Strategy}
use Rattle.strat_text.specs.declared.strategy.Strategy.TheOpen.{Strategy-F}
use Rattle.strat_text.specs.declared.strategy.Strategy.TheFolds.{fold-Strategy}
use Rattle.strat_text.specs.Allowed.{are_settings}
use Rattle.reducer_iface.specs.Names.{Names, kind_at}

abbrev pub all_true : List Truth → Truth
all_true bs = list_all (λ b. b) bs

-- one level of a strategy
abbrev pub runs_layer : Names → Strategy-F Truth → Truth
runs_layer names (Strategy-F.Prim name) = is_some (kind_at names name)
runs_layer names (Strategy-F.Then parts) = nat_le 2 (length parts) && all_true parts
runs_layer names (Strategy-F.OrElse parts) = nat_le 2 (length parts) && all_true parts
runs_layer names (Strategy-F.ParOr parts) = nat_le 2 (length parts) && all_true parts
runs_layer names (Strategy-F.ParThen a b) = a && b
runs_layer names (Strategy-F.If p a b) = a && b
runs_layer names (Strategy-F.When p a) = a
runs_layer names (Strategy-F.FailIf p) = true
runs_layer names (Strategy-F.Repeat a turns) = a
runs_layer names (Strategy-F.Params a settings) = a && are_settings settings
runs_layer names (Strategy-F.TryFor a limit) = a

unfoldable pub runs : Names → Strategy → Truth
runs names s = fold-Strategy Truth (runs_layer names) s

abbrev pub AllRun : Names → List Strategy → Type 0
AllRun names ss = All (λ s. runs names s ≡ true) ss
