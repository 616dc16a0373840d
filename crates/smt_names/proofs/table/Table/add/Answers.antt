use Rattle.std.proofs.Common.{◌≡◌, ℕ, List, ◌∙◌, sym, ap, map, None, ◌∷◌, ◌++◌, []}
use Rattle.std.specs.Map.{lookup}
use Rattle.std.specs.Str.{bytes_eq}
use Rattle.indexmap.proofs.CallerLemmas.{insert_entry-new}
use Rattle.smt_names.specs.Table.{Entry}
use Rattle.smt_names.proofs.Tables.{lookup_seen, seen_push}
use Rattle.smt_names.proofs.table.Table.add.Goals as goal

pub returns-clause-ok : goal.returns-clause-ok
returns-clause-ok c =
    let entries = c.self.inside.meanings.entries in
    let text = c.args.text.now in
    let is : c.in_ok-key.key.items ≡ text = c.in_ok-key.ensures.items in
    let absent : lookup (λ k. bytes_eq c.in_ok-key.key.items k.items) entries ≡ None =
    ap (λ (t : List ℕ). lookup (λ k. bytes_eq t k.items) entries) is ∙ sym (lookup_seen (λ k. k.items) (bytes_eq text) entries)
    ∙ ap (lookup (bytes_eq text)) c.self.view_is ∙ c.requires.new in
    ap (map {B = Entry} (λ e. (e.0.items, e.1))) (c.in_ok-insert.ensures.entries ∙ insert_entry-new (λ a b. bytes_eq a.items b.items) c.self.inside.meanings c.in_ok-key.key c.args.meaning absent)
    ∙ seen_push (λ k. k.items) entries c.in_ok-key.key c.args.meaning ∙ (λ x. c.self.view_is x ++ (is x, c.args.meaning) ∷ [])
