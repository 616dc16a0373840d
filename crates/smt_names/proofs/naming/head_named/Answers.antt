use Rattle.std.proofs.Common.{◌≡◌, true, false, Some, None, sym, ◌∙◌, refl, ap}
use Rattle.std.specs.Prelude.{is_some}
use Rattle.smt_names.specs.Table.{symbols_in, meaning_of, meaning_in}
use Rattle.smt_names.specs.Names.{local_of}
use Rattle.smt_names.specs.Given.{scopes_in}
use Rattle.smt_names.proofs.Lookups.{local_some, meaning_seen, meaning_at}
use Rattle.smt_names.proofs.naming.head_named.Goals as goal

pub returns-then-is_some : goal.returns-then-is_some
returns-then-is_some c = λ ts.
    let found : is_some (local_of (scopes_in ts c.args.state.now.scopes) c.args.name.now) ≡ true =
    local_some ts c.args.state.now.scopes c.args.name.now ∙ sym (ap is_some c.find.ensures) ∙ sym c.is_some.ensures ∙ c.if-is_some.true in
    rw found refl

pub returns-in-Some : goal.returns-in-Some
returns-in-Some c = λ ts.
    let none : is_some (local_of (scopes_in ts c.args.state.now.scopes) c.args.name.now) ≡ false =
    local_some ts c.args.state.now.scopes c.args.name.now ∙ sym (ap is_some c.find.ensures) ∙ sym c.is_some.ensures ∙ c.if-is_some.false in
    let found : meaning_of (symbols_in ts c.args.state.now.symbols) c.args.name.now ≡ Some (meaning_in ts c.in-Some.meaning.now) = meaning_seen ts c.args.state.now.symbols c.args.name.now ∙ ap (meaning_at ts) c.in-Some.ensures in
    rw (none, found) (c.meant_head.ensures ts)

pub returns-in-None : goal.returns-in-None
returns-in-None c = λ ts.
    let none : is_some (local_of (scopes_in ts c.args.state.now.scopes) c.args.name.now) ≡ false =
    local_some ts c.args.state.now.scopes c.args.name.now ∙ sym (ap is_some c.find.ensures) ∙ sym c.is_some.ensures ∙ c.if-is_some.false in
    let absent : meaning_of (symbols_in ts c.args.state.now.symbols) c.args.name.now ≡ None = meaning_seen ts c.args.state.now.symbols c.args.name.now ∙ ap (meaning_at ts) c.in-None.ensures in
    rw (none, absent) c.theory_head.ensures
