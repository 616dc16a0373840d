use Rattle.std.proofs.Common.{◌≡◌, ◌+◌, ◌*◌, ◌++◌, drop}
use Rattle.qterm.specs.Store.{trees_of}
use Rattle.cert_text.specs.CertText.{each_case, written}
use Rattle.cert_text.specs.Waiting.{AreLines}
use Rattle.cert_text.proofs.write.+proof.Given as goal

-- the cases that are left come behind what is written
abbrev pub invariant-push_cases-loop-case : goal.invariant-push_cases-loop-case
invariant-push_cases-loop-case l = record {
  text : l.text.items ++ (each_case (written l.store l.left) (trees_of l.store l.lines) (drop l.case-index l.cases)).text ≡ l.fn.text.items ++ (each_case (written l.store l.left) (trees_of l.store l.fn.lines) l.cases).text;
  known : (each_case (written l.store l.left) (trees_of l.store l.lines) (drop l.case-index l.cases)).known ≡ (each_case (written l.store l.left) (trees_of l.store l.fn.lines) l.cases).known;
  lines : AreLines l.store l.lines;
}

abbrev pub decreases-push_proof : goal.decreases-push_proof
decreases-push_proof l = 2 * l.left

abbrev pub decreases-push_cases : goal.decreases-push_cases
decreases-push_cases l = 2 * l.left + 1
