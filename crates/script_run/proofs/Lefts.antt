-- What a run has left of its source once it was read.
use Rattle.std.proofs.Common.{◌≡◌, ℕ, ◌+◌, ◌≤◌, List, [], ◌++◌, drop, length, Option, None, Some, sym, ap, ◌∙◌, append-nil, arith}
use Rattle.std.proofs.Math.Seq.{drop-append_seam}
use Rattle.std.proofs.Math.ListN.{drop_of_length-le}
use Rattle.std.specs.Io.KnownBytes.{Consumes, IsAtEnd}
use Rattle.sexp_read.specs.Outside.{TakesFront, TakesPast}
use Rattle.script_run.specs.declared.top.Ended.{Ended}
use Rattle.script_run.specs.declared.top.Ended.TheVariants as e
use Rattle.script_run.specs.declared.top.TheConstants.{MOST}
use Rattle.script_text.specs.Output.{End}
use Rattle.script_run.specs.Run.{Ran, ReadWhole, TakesScript}

-- all of it was read
pub read_to_end : (old new : Option (List ℕ)) (bytes : List ℕ) → Consumes old new bytes → IsAtEnd new → length bytes ≤ MOST → ReadWhole old new
read_to_end None new bytes c at short = tt
read_to_end (Some all) None bytes c at short = absurd c
read_to_end (Some all) (Some rest) bytes c at short =
    let whole : all ≡ bytes = c ∙ ap (λ l. bytes ++ l) at ∙ append-nil bytes in
    let none_left : drop (MOST + 1) all ≡ [] = ap (drop (MOST + 1)) whole ∙ drop_of_length-le bytes {i = MOST + 1} (omega arith) in
    ap Some (at ∙ sym none_left)

-- a byte too many was read
pub read_past : (old new : Option (List ℕ)) → TakesPast MOST old new → ReadWhole old new
read_past None new t = tt
read_past (Some all) None t = absurd t.2
read_past (Some all) (Some rest) t =
    ap Some (sym (ap (λ n. drop n all) (sym t.1) ∙ (ap (drop (length t.0)) t.2 ∙ drop-append_seam t.0 rest)))

-- what was read is left so, however the run of it ends
pub ran_leaves : (ended : Ended) (text : List ℕ) (end : End) (before now : Option (List ℕ)) (flushed : Option ℕ) (old new : Option (List ℕ)) → Ran text end before now flushed ended
    → ReadWhole old new → TakesFront MOST old new → TakesScript old new ended
ran_leaves e.Done text end before now flushed old new ran whole front = whole
ran_leaves e.Fault text end before now flushed old new ran whole front = whole
ran_leaves e.WriteFault text end before now flushed old new ran whole front = whole
ran_leaves e.Memory text end before now flushed old new ran whole front = front
ran_leaves e.ReadFault text end before now flushed old new ran whole front = absurd ran
ran_leaves e.Usage text end before now flushed old new ran whole front = absurd ran
