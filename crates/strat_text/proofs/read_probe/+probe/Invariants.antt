use Rattle.std.proofs.Common.{◌≡◌, ◌≤◌, drop}
use Rattle.strat_text.specs.Form.{behind, forms_of}
use Rattle.strat_text.specs.Reading.{read_probes}
use Rattle.strat_text.specs.Given.{after}
use Rattle.strat_text.proofs.read_probe.+probe.Given as goal

abbrev pub invariant-read_args-loop-at : goal.invariant-read_args-loop-at
invariant-read_args-loop-at l = record {
  read : after l.probes (read_probes (forms_of l.bytes (drop l.at l.items))) ≡ read_probes (behind (forms_of l.bytes l.items));
  first : 1 ≤ l.at;
}
