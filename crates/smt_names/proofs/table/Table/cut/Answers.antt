use Rattle.std.proofs.Common.{◌∙◌, sym, ap, map, take}
use Rattle.std.proofs.lemmas.List.{take-map}
use Rattle.smt_names.specs.Table.{Entry}
use Rattle.smt_names.proofs.table.Table.cut.Goals as goal

pub returns : goal.returns
returns c =
    ap (map {B = Entry} (λ e. (e.0.items, e.1))) c.cut.ensures ∙ sym (take-map {Y = Entry} (λ e. (e.0.items, e.1)) c.args.len c.self.inside.meanings.entries) ∙ ap (take c.args.len) c.self.view_is
