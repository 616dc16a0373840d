-- Readings one after the other, and what calls answer for them.
use Rattle.std.proofs.Common.{◌≡◌, ap, Result, Ok, Err}
use Rattle.std.specs.Prelude.{IsErrAnd}
use Rattle.strat_text.specs.declared.error.StratError.{StratError}
use Rattle.strat_text.specs.declared.error.StratError.TheVariants.{UnknownReducer, UnknownProbe, UnknownParam, BadStrategy, Memory}
use Rattle.strat_text.specs.Given.{Gives}
use Rattle.strat_text.specs.Reading.{and_then}

-- a fault stays the fault of what comes after
pub gives_fault : {A B : Type 0} (e : StratError) (r : Result A StratError) (next : A → Result B StratError) → Gives {A = A} (Err e) r → Gives {A = B} (Err e) (and_then r next)
gives_fault (UnknownReducer at) r next h = ap (λ x. and_then x next) h
gives_fault (UnknownProbe at) r next h = ap (λ x. and_then x next) h
gives_fault (UnknownParam at) r next h = ap (λ x. and_then x next) h
gives_fault (BadStrategy at) r next h = ap (λ x. and_then x next) h
gives_fault (Memory cause) r next h = tt

-- what is read goes on
pub gives_next : {A B : Type 0} (a : A) (r : Result A StratError) (next : A → Result B StratError) (answer : Result B StratError) →
    Gives (Ok a) r → Gives answer (next a) → Gives answer (and_then r next)
gives_next a r next answer h g = rw (ap (λ x. and_then x next) h) g

-- the fault that `?` hands out is the one that it was given
pub gives_handed : {A B : Type 0} (e : StratError) (r : Result A StratError) (next : A → Result B StratError) (answer : Result B StratError) →
    IsErrAnd answer (λ told. told ≡ e) → Gives {A = A} (Err e) r → Gives answer (and_then r next)
gives_handed e r next (Ok b) told h = absurd told
gives_handed e r next (Err d) told h = rw told (gives_fault e r next h)
