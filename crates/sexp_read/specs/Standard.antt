-- What the source and the sink over a stream tell: how often they have failed, and whether there is a stream.
use Rattle.std.specs.Prelude.{ℕ, Bool, is_some}
use Rattle.sexp_read.specs.declared.standard.StdSource.{StdSource}
use Rattle.sexp_read.specs.declared.standard.StdSink.{StdSink}

-- whether the source could be opened
abbrev pub is_opened : {R : Type 0} → StdSource R → Bool
is_opened s = is_some s.inner

-- how often the source has failed, up to the last u64
abbrev pub source_faults : {R : Type 0} → StdSource R → ℕ
source_faults s = s.faults

-- how often the sink has failed, up to the last u64
abbrev pub sink_faults : {W : Type 0} → StdSink W → ℕ
sink_faults s = s.faults
