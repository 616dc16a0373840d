use Rattle.std.proofs.Common.{◌≡◌, ◌++◌, map, take}
use Rattle.strat_text.specs.Spelled.{spaced}
use Rattle.cert_text.specs.TermLines.{name_text}
use Rattle.cert_text.proofs.words.push_names.Given as goal

abbrev pub invariant-loop-name : goal.invariant-loop-name
invariant-loop-name l = l.text.items ≡ l.fn.text.items ++ spaced (map name_text (take l.name-index l.names))
