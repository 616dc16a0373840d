-- A run that goes on after a text is one over the whole.
use Rattle.std.proofs.Common.{◌≡◌, ◌<◌, ◌≤◌, true, false, nat_lt, length, arith, ℕ, List, [], ◌++◌, Option, None, Some, IfSome, unwrap_or, length-append, subst, refl, ap, sym, ◌∙◌, append_assoc}
use Rattle.std.proofs.lemmas.Bool.Decides.{nat_tests}
use Rattle.std.specs.Io.KnownBytes.{Appends}
use Rattle.std.proofs.KnownBytes.{Appends-trans, Appends-nil}
use Rattle.sexp_read.specs.Outside.{AppendsFront, TakesPast}
use Rattle.smt_words.specs.declared.error.ScriptError.{ScriptError}
use Rattle.smt_words.specs.Command.{ScriptTree}
use Rattle.smt_command.specs.Script.{script_of}
use Rattle.reducer_iface.specs.Names.{Names}
use Rattle.answer_text.specs.Errors.{error_line}
use Rattle.script_text.specs.Answers.{RecordTree}
use Rattle.script_text.specs.Session.{start}
use Rattle.script_text.specs.Shown.{fault_line}
use Rattle.script_text.specs.Output.{End, over, output, end_of, AreRecords}
use Rattle.script_text.proofs.Reaching.{none_right}
use Rattle.script_run.specs.declared.top.Ended.{Ended}
use Rattle.script_run.specs.declared.top.Ended.TheVariants as e
use Rattle.script_run.specs.declared.top.TheConstants.{MOST}
use Rattle.script_run.specs.Steps.{setting}
use Rattle.script_run.specs.Run.{Ran, RanOver, RanFrom, names_of, too_long, whole_script}

pub ran_after : (ended : Ended) (found : Option ScriptError) (line text whole : List ℕ) (end : End) (old mid new : Option (List ℕ)) (flushed : Option ℕ)
    → Appends old mid text → whole ≡ text ++ line → end ≡ over found → Ran line (over found) mid new flushed ended → Ran whole end old new flushed ended
ran_after e.Done found line text whole end old mid new flushed w told ends r = (ends ∙ r.0, record { whole = rw told (Appends-trans old mid new text line w r.1.whole); flush = r.1.flush })
ran_after e.Fault found line text whole end old mid new flushed w told ends r = (r.0, ends ∙ r.1, record { whole = rw told (Appends-trans old mid new text line w r.2.whole); flush = r.2.flush })
ran_after e.Memory found line text whole end old mid new flushed w told ends r = (text ++ r.0, r.1, told ∙ ap (λ t. text ++ t) r.2 ∙ sym (append_assoc text r.0 r.1), Appends-trans old mid new text r.0 w r.3)
ran_after e.WriteFault found line text whole end old mid new flushed w told ends r = (text ++ r.0, r.1, told ∙ ap (λ t. text ++ t) r.2 ∙ sym (append_assoc text r.0 r.1), Appends-trans old mid new text r.0 w r.3)
ran_after e.ReadFault found line text whole end old mid new flushed w told ends r = r
ran_after e.Usage found line text whole end old mid new flushed w told ends r = r

-- the line of a script that is too long, whatever its bytes are
pub line_too_long : (bytes : List ℕ) → fault_line [] (Some too_long) ≡ fault_line bytes (Some too_long)
unfolding fault_line error_line
line_too_long bytes = refl

whole_short : (kinds : Names) (bytes : List ℕ) → length bytes ≤ MOST → whole_script kinds bytes ≡ script_of (names_of kinds) bytes
unfolding whole_script
whole_short kinds bytes h = let test : nat_lt MOST (length bytes) ≡ false = grind (arith, nat_tests) in rw test refl

whole_long : (kinds : Names) (bytes : List ℕ) → MOST < length bytes → whole_script kinds bytes ≡ record { commands = []; fault = Some too_long }
unfolding whole_script
whole_long kinds bytes h = let test : nat_lt MOST (length bytes) ≡ true = grind (arith, nat_tests) in rw test refl

front_none : (text : List ℕ) (old : Option (List ℕ)) → AppendsFront old old text
front_none text old = ([], text, refl, Appends-nil old)

ran_from : (ended : Ended) (kinds : Names) (left : Option (List ℕ)) (bytes : List ℕ) (journal : List RecordTree) (old new : Option (List ℕ)) (flushed : Option ℕ)
    → IfSome left (λ all. all ≡ bytes) → AreRecords (setting kinds bytes) start (whole_script kinds bytes).commands journal → RanOver kinds bytes (whole_script kinds bytes) journal old new flushed ended
    → RanFrom kinds left journal old new flushed ended
ran_from e.Done kinds left bytes journal old new flushed told records ran = (bytes, record { told = told; records = records; ran = ran })
ran_from e.Fault kinds left bytes journal old new flushed told records ran = (bytes, record { told = told; records = records; ran = ran })
ran_from e.Memory kinds left bytes journal old new flushed told records ran = (bytes, record { told = told; records = records; ran = ran })
ran_from e.WriteFault kinds left bytes journal old new flushed told records ran = (bytes, record { told = told; records = records; ran = ran })
ran_from e.ReadFault kinds left bytes journal old new flushed told records ran = absurd ran
ran_from e.Usage kinds left bytes journal old new flushed told records ran = absurd ran

pub ran_short : (ended : Ended) (kinds : Names) (left : Option (List ℕ)) (bytes : List ℕ) (journal : List RecordTree) (old new : Option (List ℕ)) (flushed : Option ℕ)
    → IfSome left (λ all. all ≡ bytes) → length bytes ≤ MOST → AreRecords (setting kinds bytes) start (script_of (names_of kinds) bytes).commands journal
    → RanOver kinds bytes (script_of (names_of kinds) bytes) journal old new flushed ended → RanFrom kinds left journal old new flushed ended
ran_short ended kinds left bytes journal old new flushed told short records ran =
    let same = sym (whole_short kinds bytes short) in
    ran_from ended kinds left bytes journal old new flushed told
    (subst (λ (s : ScriptTree). AreRecords (setting kinds bytes) start s.commands journal) same records)
    (subst (λ (s : ScriptTree). RanOver kinds bytes s journal old new flushed ended) same ran)

long_script : ScriptTree
long_script = record { commands = []; fault = Some too_long }

ran_too_long : (ended : Ended) (kinds : Names) (bytes : List ℕ) (old new : Option (List ℕ)) (flushed : Option ℕ) → Ran (fault_line bytes (Some too_long)) (over (Some too_long)) old new flushed ended
    → RanOver kinds bytes long_script [] old new flushed ended
unfolding long_script output end_of
ran_too_long ended kinds bytes old new flushed r = r

none_too_long : (kinds : Names) (bytes : List ℕ) → AreRecords (setting kinds bytes) start long_script.commands []
unfolding long_script
none_too_long kinds bytes = none_right (setting kinds bytes) start []

pub ran_long : (ended : Ended) (kinds : Names) (left : Option (List ℕ)) (bytes : List ℕ) (old new : Option (List ℕ)) (flushed : Option ℕ)
    → IfSome left (λ all. all ≡ bytes) → MOST < length bytes → Ran (fault_line bytes (Some too_long)) (over (Some too_long)) old new flushed ended
    → RanFrom kinds left [] old new flushed ended
unfolding long_script
ran_long ended kinds left bytes old new flushed told long ran =
    let same : long_script ≡ whole_script kinds bytes = sym (whole_long kinds bytes long) in
    ran_from ended kinds left bytes [] old new flushed told
    (subst (λ (s : ScriptTree). AreRecords (setting kinds bytes) start s.commands []) same (none_too_long kinds bytes))
    (subst (λ (s : ScriptTree). RanOver kinds bytes s [] old new flushed ended) same (ran_too_long ended kinds bytes old new flushed ran))

-- want of memory before the script was read
pub ran_none : (kinds : Names) (left : Option (List ℕ)) (written : Option (List ℕ)) (flushed : Option ℕ) → RanFrom kinds left [] written written flushed e.Memory
ran_none kinds left written flushed =
    let bytes = unwrap_or left [] in
    ran_from e.Memory kinds left bytes [] written written flushed (told_all left) (none_right (setting kinds bytes) start (whole_script kinds bytes).commands) (front_none _ written)
  where
    told_all : (left : Option (List ℕ)) → IfSome left (λ all. all ≡ unwrap_or left [])
    told_all None = tt
    told_all (Some all) = refl

-- bytes that begin with too many
pub past : (old new : Option (List ℕ)) → TakesPast MOST old new → (bytes : List ℕ) × IfSome old (λ all. all ≡ bytes) × (MOST < length bytes)
past None new t = (t.0, tt, omega arith)
past (Some all) None t = absurd t.2
past (Some all) (Some rest) t = (all, refl, rw (t.2, length-append) (omega arith))
