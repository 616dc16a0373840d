use Rattle.std.proofs.Common.{sym}
use Rattle.std.specs.Option.{option_copied}
use Rattle.strat_text.specs.Form.{form_of, forms_of}
use Rattle.strat_text.specs.Reading.{read_strategy, read_each}
use Rattle.strat_text.specs.Given.{after}
use Rattle.strat_text.proofs.Levels.{form_of_atom, form_of_list}
use Rattle.strat_text.proofs.Each.{each_fault, each_more, each_done}
use Rattle.strat_text.proofs.Readings.{read_strategy_deep, read_strategy_atom, read_strategy_list, strategies_each, list_read_empty}
use Rattle.strat_text.proofs.read.+strategy.Goals as goal

pub read_at-returns-then-left-eq0 : goal.read_at-returns-then-left-eq0
read_at-returns-then-left-eq0 t c = record { strategy = rw (c.if-left-eq0.true, c.place.ensures) (read_strategy_deep (option_copied c.args.names) (form_of c.args.bytes.now c.args.sexp.now)) }

pub read_at-returns-in-Atom : goal.read_at-returns-in-Atom
read_at-returns-in-Atom t c =
    let names = option_copied c.args.names in
    record {
      strategy = rw (
        c.in-Atom.is,
        form_of_atom c.args.bytes.now c.in-Atom.kind c.in-Atom.start c.in-Atom.end,
        sym c.text_at.ensures,
        read_strategy_atom names c.in-Atom.kind c.text_at.result.now c.in-Atom.start c.args.left c.if-left-eq0.false,
      ) c.atom.ensures.strategy;
    }

pub read_at-returns-in-List : goal.read_at-returns-in-List
read_at-returns-in-List t c =
    let names = option_copied c.args.names in
    record {
      strategy = rw (
        c.in-List.is,
        form_of_list c.args.bytes.now c.in-List.items c.in-List.start c.in-List.end,
        sym c.as_slice.ensures,
        read_strategy_list names (forms_of c.args.bytes.now c.as_slice.result.now) c.in-List.start c.args.left c.if-left-eq0.false,
      ) c.read_form.ensures.strategy;
    }

pub read_each-returns-in_err-part : goal.read_each-returns-in_err-part
read_each-returns-in_err-part t c =
    let names = option_copied c.args.names in
    let bytes = c.args.bytes.now in
    let left = c.args.left in
    record {
      strategies =
          each_fault (λ x. read_strategy names (form_of bytes x) left) (λ xs. read_each names (forms_of bytes xs) left) (strategies_each names bytes left) c.loop-item.parts c.args.items.now c.loop-item.item-index c.item-item.result
          (after c.args.front (read_each names (forms_of bytes c.args.items.now) left)) c.in_err-part.field-0.0 c.from_residual.result c.loop-item-test.true c.item-item.is c.loop-item.invariant c.in_err-part.ensures.strategy c.from_residual.ensures.1;
    }

pub read_each-loop-item-preserved : goal.read_each-loop-item-preserved
read_each-loop-item-preserved t c =
    let names = option_copied c.args.names in
    let bytes = c.args.bytes.now in
    let left = c.args.left in
    rw c.in_ok-push.ensures.ok
    (each_more (λ x. read_strategy names (form_of bytes x) left) (λ xs. read_each names (forms_of bytes xs) left) (strategies_each names bytes left) c.loop-item.parts c.args.items.now c.loop-item.item-index c.item-item.result c.in_ok-part.part
    (after c.args.front (read_each names (forms_of bytes c.args.items.now) left)) c.loop-item-test.true c.item-item.is c.loop-item.invariant c.in_ok-part.ensures.strategy)

pub read_each-returns : goal.read_each-returns
read_each-returns t c =
    let names = option_copied c.args.names in
    let bytes = c.args.bytes.now in
    let left = c.args.left in
    record {
      strategies = each_done (λ x. read_strategy names (form_of bytes x) left) (λ xs. read_each names (forms_of bytes xs) left) (strategies_each names bytes left) c.loop-item.parts c.args.items.now c.loop-item.item-index
          (after c.args.front (read_each names (forms_of bytes c.args.items.now) left)) c.loop-item-test.false c.loop-item.invariant;
    }

pub read_form-returns-in-empty : goal.read_form-returns-in-empty
read_form-returns-in-empty t c = record { strategy = list_read_empty (option_copied c.args.names) c.args.at c.args.left c.args.bytes.now c.args.items.now c.in-empty.len_below }
