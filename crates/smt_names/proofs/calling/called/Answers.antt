use Rattle.std.proofs.Common.{◌≡◌, Some, None, refl, ap, ◌∙◌}
use Rattle.smt_names.specs.Table.{symbols_in, meaning_of, meaning_in}
use Rattle.smt_names.proofs.Calls.{meaning_there}
use Rattle.smt_names.proofs.Lookups.{meaning_seen, meaning_at}
use Rattle.smt_names.proofs.calling.called.Goals as goal

pub meant_over-requires-clause-there : goal.meant_over-requires-clause-there
meant_over-requires-clause-there c = meaning_there c.args.store.now c.args.symbols.now c.args.name.now c.in-Some.meaning.now c.requires.there c.in-Some.ensures

pub returns-in-Some-clause-read : goal.returns-in-Some-clause-read
returns-in-Some-clause-read c =
    let ts = c.args.store.now in
    let found : meaning_of (symbols_in ts c.args.symbols.now) c.args.name.now ≡ Some (meaning_in ts c.in-Some.meaning.now) = meaning_seen ts c.args.symbols.now c.args.name.now ∙ ap (meaning_at ts) c.in-Some.ensures in
    rw found c.meant_over.ensures.read

pub returns-in-None-clause-read : goal.returns-in-None-clause-read
returns-in-None-clause-read c =
    let ts = c.args.store.now in
    let absent : meaning_of (symbols_in ts c.args.symbols.now) c.args.name.now ≡ None = meaning_seen ts c.args.symbols.now c.args.name.now ∙ ap (meaning_at ts) c.in-None.ensures in
    rw (absent, c.refused.ensures) refl
