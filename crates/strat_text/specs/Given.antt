-- What calls answer for readings, where want of memory is free.
use Rattle.std.specs.Prelude.{◌≡◌, ⊤, ℕ, ◌^◌, nat_lt, if◌then◌else◌, ℤ, List, [], ◌∷◌, ◌++◌, Option, None, Some, Result, Ok, Err}
use Rattle.strat_text.specs.declared.error.StratError.{StratError}
use Rattle.strat_text.specs.declared.error.StratError.TheVariants.{UnknownReducer, UnknownProbe, UnknownParam, BadStrategy, Memory}
use Rattle.strat_text.specs.declared.number.Number.{Number}
use Rattle.strat_text.specs.declared.number.Number.TheVariants.{Absent, Wide, Fits}
use Rattle.strat_text.specs.Number.{is_wide}
use Rattle.strat_text.specs.declared.strategy.ParamKey.{ParamKey}
use Rattle.strat_text.specs.Reading.{and_then, appended}

-- the answer is this one, or want of memory
abbrev pub Gives : {A : Type 0} → Result A StratError → Result A StratError → Type 0
Gives (Ok a) reading = reading ≡ Ok a
Gives (Err (UnknownReducer at)) reading = reading ≡ Err (UnknownReducer at)
Gives (Err (UnknownProbe at)) reading = reading ≡ Err (UnknownProbe at)
Gives (Err (UnknownParam at)) reading = reading ≡ Err (UnknownParam at)
Gives (Err (BadStrategy at)) reading = reading ≡ Err (BadStrategy at)
Gives (Err (Memory cause)) reading = ⊤

-- items in front of those that are read
abbrev pub after : {A : Type 0} → List A → Result (List A) StratError → Result (List A) StratError
after front rest = and_then rest (λ items. Ok (front ++ items))

-- settings in front of those that are read
abbrev pub behind_settings : Option (List (ParamKey × ℤ)) → Result (Option (List (ParamKey × ℤ))) StratError → Result (Option (List (ParamKey × ℤ))) StratError
behind_settings front rest = and_then rest (λ settings. Ok (appended front settings))

-- a number, if it is in the range of 128 bits without sign
abbrev pub narrow : ℕ → Option ℕ
narrow n = if nat_lt n (2 ^ 128) then Some n else None

-- a number as the code sees it
abbrev pub seen : Option ℤ → Number
seen None = Absent
seen (Some z) = if is_wide z then Wide else Fits z

-- The fault that is told is the first of these; there is none where something is read.
abbrev pub Tells : {A : Type 0} → Result A StratError → List StratError → Type 0
Tells (Ok a) faults = faults ≡ []
Tells (Err (UnknownReducer at)) faults = (rest : List StratError) × (faults ≡ UnknownReducer at ∷ rest)
Tells (Err (UnknownProbe at)) faults = (rest : List StratError) × (faults ≡ UnknownProbe at ∷ rest)
Tells (Err (UnknownParam at)) faults = (rest : List StratError) × (faults ≡ UnknownParam at ∷ rest)
Tells (Err (BadStrategy at)) faults = (rest : List StratError) × (faults ≡ BadStrategy at ∷ rest)
Tells (Err (Memory cause)) faults = ⊤
