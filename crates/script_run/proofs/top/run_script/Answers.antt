use Rattle.std.proofs.Common.{◌≡◌, ◌≤◌, List, [], ℕ, length, refl, arith}
use Rattle.std.proofs.KnownBytes.{Consumes-whole}
use Rattle.script_run.specs.declared.top.TheConstants.{MOST}
use Rattle.script_run.proofs.Runs.{ran_none, ran_long, ran_short, past}
use Rattle.script_run.proofs.Lefts.{read_to_end, read_past, ran_leaves}
use Rattle.script_run.proofs.top.run_script.Goals as goal

pub returns-in-Err-Memory-clause-ran : goal.returns-in-Err-Memory-clause-ran
returns-in-Err-Memory-clause-ran g c = rw c.requires (ran_none _ _ _ _)

pub returns-in-Err-TooLong-clause-ran : goal.returns-in-Err-TooLong-clause-ran
returns-in-Err-TooLong-clause-ran g c =
    let bytes = past _ _ ((rw c.in-Err-TooLong.field-0-is at c.in-Err-TooLong.ensures.past) refl) in
    rw c.requires (ran_long c.too_long.result _ _ bytes.0 _ _ _ bytes.1 bytes.2 (c.too_long.ensures.ran bytes.0))

pub returns-in-Ok-clause-ran : goal.returns-in-Ok-clause-ran
returns-in-Ok-clause-ran g c =
    let bytes = c.in-Ok.bytes.items in
    let P = λ (all : List ℕ). all ≡ bytes in
    let short : length bytes ≤ MOST = grind arith in
    let read = c.deref.ensures.value in
    ran_short c.run_bytes.result _ _ bytes _ _ _ _ (Consumes-whole _ _ bytes P c.in-Ok.ensures.all c.in-Ok.ensures.end refl) short
    (rw read at c.run_bytes.ensures.records) (rw read at c.run_bytes.ensures.ran)

pub returns-in-Err-TooLong-clause-read : goal.returns-in-Err-TooLong-clause-read
returns-in-Err-TooLong-clause-read g c = λ is. absurd (rw is at (c.too_long.ensures.ran []))

pub returns-in-Err-TooLong-clause-left : goal.returns-in-Err-TooLong-clause-left
returns-in-Err-TooLong-clause-left g c =
    let read = c.in-Err-TooLong.ensures in
    ran_leaves c.too_long.result _ _ _ _ _ _ _ (c.too_long.ensures.ran []) (read_past _ _ ((rw c.in-Err-TooLong.field-0-is at read.past) refl)) read.front

pub returns-in-Ok-clause-left : goal.returns-in-Ok-clause-left
returns-in-Ok-clause-left g c =
    let bytes = c.in-Ok.bytes.items in
    let short : length bytes ≤ MOST = grind arith in
    ran_leaves c.run_bytes.result _ _ _ _ _ _ _ c.run_bytes.ensures.ran (read_to_end _ _ bytes c.in-Ok.ensures.all c.in-Ok.ensures.end short) c.in-Ok.ensures.front
