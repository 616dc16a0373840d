use Rattle.std.proofs.Common.{arith, ◌≡◌, ◌≤◌, ◌<◌, [], reverse, length}
use Rattle.std.proofs.lemmas.List.{reverse-append, length-reverse}
use Rattle.sexp_read.specs.declared.parsing.TheConstants.{NESTING}
use Rattle.sexp_read.proofs.Opened.{turns_space, turns_wrong, turns_extra, turns_deep, turns_open, turns_atom, turns_close, none_left}
use Rattle.sexp_read.proofs.parsing.turn.Goals as goal

pub returns-in-Space-clause-turns : goal.returns-in-Space-clause-turns
returns-in-Space-clause-turns c = rw c.in-Space.is (turns_space _ _ _)

pub returns-in-Wrong-clause-turns : goal.returns-in-Wrong-clause-turns
returns-in-Wrong-clause-turns c = rw (c.in-Wrong.is, c.bad.ensures.value) (turns_wrong _ _ _ (reverse c.args.frames.now.items))

pub returns-then-len-ge-NESTING-clause-turns : goal.returns-then-len-ge-NESTING-clause-turns
returns-then-len-ge-NESTING-clause-turns c =
    let deep : NESTING ≤ length (reverse c.args.frames.now.items) = rw length-reverse (grind arith) in
    rw (c.in-Open.is, c.bad-then-len-ge-NESTING.ensures.value) (turns_deep _ _ _ (reverse c.args.frames.now.items) deep)

pub returns-in_ok-push-in-Open-clause-turns : goal.returns-in_ok-push-in-Open-clause-turns
returns-in_ok-push-in-Open-clause-turns c =
    let shallow : length (reverse c.args.frames.now.items) < NESTING = rw length-reverse (grind arith) in
    rw (c.in-Open.is, c.in_ok-push-in-Open.ensures.items, reverse-append, c.new-items.ensures) (turns_open _ _ _ shallow)

pub returns-in_ok-next-in-Atom-clause-turns : goal.returns-in_ok-next-in-Atom-clause-turns
returns-in_ok-next-in-Atom-clause-turns c = rw c.in-Atom.is (turns_atom _ _ _ _ _ _ c.in_ok-next-in-Atom.ensures.placed)

pub returns-in-None-clause-turns : goal.returns-in-None-clause-turns
returns-in-None-clause-turns c =
    let none : c.args.frames.now.items ≡ [] = none_left c.args.frames.now.items (grind arith) in
    rw (c.in-Close.is, c.bad-in-None.ensures.value, none) (turns_extra _ _ [])

pub returns-in_ok-next-in-Some-clause-turns : goal.returns-in_ok-next-in-Some-clause-turns
returns-in_ok-next-in-Some-clause-turns c =
    rw (c.in-Close.is, c.in-Some.ensures.items, reverse-append) (turns_close _ _ c.in-Some.field-0 _ _ _ c.in_ok-next-in-Some.ensures.placed)
