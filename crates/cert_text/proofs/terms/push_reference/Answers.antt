use Rattle.std.proofs.Common.{◌≡◌, ap, sym, ◌∙◌}
use Rattle.std.specs.List.{position, position_or_len}
use Rattle.std.specs.Option.{unwrap_or}
use Rattle.std.proofs.lemmas.Result.{on_ok_weaker}
use Rattle.qterm.specs.Store.{tree_at, trees_of}
use Rattle.qlin.specs.Order.{same}
use Rattle.qwalk.specs.Walk.{same_id}
use Rattle.cert_text.proofs.Growing.{reference_written}
use Rattle.cert_text.proofs.Places.{line_place, or_len}
use Rattle.cert_text.proofs.terms.push_reference.Goals as goal

pub returns : goal.returns
returns c =
    let place : c.unwrap_or-place.result ≡ position_or_len (same (tree_at c.args.store.now c.args.id)) (trees_of c.args.store.now c.args.lines.now) =
    c.unwrap_or-place.ensures ∙ ap (λ o. unwrap_or o c.len.result) c.place.ensures.place ∙ ap (λ n. unwrap_or (position (same_id c.args.id) c.args.lines.now) n) c.len.ensures ∙ or_len (same_id c.args.id) c.args.lines.now
    ∙ sym (line_place c.args.store.now c.is_distinct.ensures c.args.id c.requires.has c.args.lines.now c.requires.lines) in
    on_ok_weaker c.put-2.result (reference_written c.args.text.now.items c.put.new.text.items c.put-2.new.text.items c.as_bytes.result.now c.unwrap_or-place.result _ c.in_ok-put.ensures (c.as_bytes.ensures.value ∙ c.format.ensures.text) place) c.put-2.ensures
