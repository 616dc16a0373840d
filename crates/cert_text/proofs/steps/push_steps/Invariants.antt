use Rattle.std.proofs.Common.{◌≡◌, ◌++◌, List, drop}
use Rattle.qterm.specs.Tree.{Tree}
use Rattle.qterm.specs.Store.{trees_of}
use Rattle.cert_text.specs.CertText.{Written, steps_then}
use Rattle.cert_text.specs.Waiting.{AreLines}
use Rattle.cert_text.proofs.steps.push_steps.Given as goal

-- the steps that are left come behind what is written
abbrev pub invariant-loop-step : goal.invariant-loop-step
invariant-loop-step l = record {
  text : (rest : List Tree → Written) → l.text.items ++ (steps_then l.store (trees_of l.store l.lines) (drop l.step-index l.steps) rest).text ≡ l.fn.text.items ++ (steps_then l.store (trees_of l.store l.fn.lines) l.steps rest).text;
  known : (rest : List Tree → Written) → (steps_then l.store (trees_of l.store l.lines) (drop l.step-index l.steps) rest).known ≡ (steps_then l.store (trees_of l.store l.fn.lines) l.steps rest).known;
  lines : AreLines l.store l.lines;
}
