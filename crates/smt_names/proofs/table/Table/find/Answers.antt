use Rattle.std.proofs.Common.{◌∙◌, sym, ap}
use Rattle.std.specs.Map.{lookup}
use Rattle.std.specs.Str.{bytes_eq}
use Rattle.smt_names.proofs.Tables.{lookup_seen, found_as}
use Rattle.smt_names.proofs.table.Table.find.Goals as goal

pub returns : goal.returns
returns c =
    found_as c.get.result (lookup (bytes_eq c.args.text.now) c.args.self.now)
    (c.get.ensures.value ∙ sym (lookup_seen (λ k. k.items) (bytes_eq c.args.text.now) c.self.inside.meanings.entries) ∙ ap (lookup (bytes_eq c.args.text.now)) c.self.view_is)
