-- Why a command can't be done, by what it is told.
use Rattle.std.specs.Prelude.{◌≡◌}
use Rattle.script_text.specs.Shown.{Told, Refused}
use Rattle.script_text.specs.Output.{Deed, Refuses}
use Rattle.script_shown.specs.declared.stop.Stop.{Stop}
use Rattle.script_shown.specs.declared.stop.Stop.TheVariants.{Memory, Fault, WriteFault}

-- the stop is the fault that was told, or want of memory
abbrev pub IsTold : Told → Stop → Type 0
IsTold told Memory = Unit {0}
IsTold told (Fault error) = told ≡ Refused error
IsTold told WriteFault = ⊥

-- the stop is the fault of a command that can't be done, or want of memory
abbrev pub IsRefused : Deed → Stop → Type 0
IsRefused d Memory = Unit {0}
IsRefused d (Fault error) = d ≡ Refuses error
IsRefused d WriteFault = ⊥
