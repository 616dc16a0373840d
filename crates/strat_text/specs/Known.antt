-- Which strategies have only known names.
use Rattle.std.specs.Prelude.{Bool, true, ◌&&◌}
use Rattle.strat_text.specs.declared.strategy.Strategy.{Strategy}
use Rattle.strat_text.specs.declared.strategy.Strategy.TheOpen.{Strategy-F}
use Rattle.strat_text.specs.declared.strategy.Strategy.TheFolds.{fold-Strategy}
use Rattle.strat_text.specs.Grammar.{Names, is_known}
use Rattle.strat_text.specs.Allowed.{all_true}

-- one level of a strategy
abbrev pub known_layer : Names → Strategy-F Bool → Bool
known_layer names (Strategy-F.Prim name) = is_known names name
known_layer names (Strategy-F.Then parts) = all_true parts
known_layer names (Strategy-F.OrElse parts) = all_true parts
known_layer names (Strategy-F.ParOr parts) = all_true parts
known_layer names (Strategy-F.ParThen a b) = a && b
known_layer names (Strategy-F.If p a b) = a && b
known_layer names (Strategy-F.When p a) = a
known_layer names (Strategy-F.FailIf p) = true
known_layer names (Strategy-F.Repeat a turns) = a
known_layer names (Strategy-F.Params a settings) = a
known_layer names (Strategy-F.TryFor a limit) = a

-- each name of the strategy is known
unfoldable pub are_known : Names → Strategy → Bool
are_known names = fold-Strategy Bool (known_layer names)
