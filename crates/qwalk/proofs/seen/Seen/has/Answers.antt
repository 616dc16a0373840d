use Rattle.std.proofs.Common.{◌≡◌, ◌∙◌, sym, ap}
use Rattle.std.specs.List.{list_any}
use Rattle.qwalk.specs.Walk.{same_id}
use Rattle.qwalk.proofs.Finding.{any_there, there_any}
use Rattle.qwalk.proofs.seen.Seen.has.Goals as goal

pub returns : goal.returns
returns c =
    let e : c.contains.result ≡ list_any (same_id c.args.id) c.args.self.now = c.contains.ensures ∙ ap (list_any (same_id c.args.id)) c.self.view_is in
    (λ h. any_there c.args.self.now c.args.id (sym e ∙ h), λ h. e ∙ there_any c.args.self.now c.args.id h)
