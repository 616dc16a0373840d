use Rattle.std.proofs.Common.{ℤ, ◌++◌, ◌∙◌, ap, rules, SFits}
use Rattle.answer_text.proofs.Writing.{product_begins, scaled_other, told_so}
use mir.Val.{of_z}
use Rattle.std.specs.Int.{w128}
use Rattle.std.proofs.lemmas.Int.{to_z-of_z}
use Rattle.strat_text.specs.Spelled.{number_text}
use Rattle.answer_text.specs.Terms.{text_at}
use Rattle.answer_text.proofs.term.begin_product.Goals as goal

pub returns-clause-text : goal.returns-clause-text
returns-clause-text c =
    let fits : SFits w128 c.args.by = search rules in
    told_so c.args.store.now c.args.text.now.items c.push_number.new.text.items _ _ c.args.parts.now.items c.push-2.new.self.items (scaled_other c.args.by (text_at c.args.store.now c.args.child) (λ e. c.if-by-eqminus1.false (ap (of_z w128) e)))
    (product_begins c.args.store.now c.args.text.now.items c.put.new.text.items c.push_number.new.text.items c.args.parts.now.items c.push.new.self.items c.push-2.new.self.items c.args.by c.args.child
    c.in_ok-put.ensures.text (c.in_ok-push_number.ensures ∙ ap (λ (z : ℤ). c.put.new.text.items ++ number_text z) (to_z-of_z w128 c.args.by fits)) c.in_ok-push.ensures.items c.in_ok-push-2.ensures.items)
