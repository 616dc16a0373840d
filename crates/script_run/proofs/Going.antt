-- How the commands go on, and how they end.
use Rattle.std.proofs.Common.{◌≡◌, ℕ, suc, ◌+◌, ◌<◌, inl, inr, List, [], ◌∷◌, ◌++◌, length, get_or, drop, map, add-one, Option, Ok, Err, ap, sym, ◌∙◌, append_assoc}
use Rattle.std.proofs.Math.Seq.{drop-cons}
use Rattle.std.proofs.lemmas.List.{drop-map}
use Rattle.std.specs.Io.KnownBytes.{Appends}
use Rattle.std.proofs.KnownBytes.{Appends-trans, Appends-kept}
use Rattle.smt_words.specs.declared.error.ScriptError.{ScriptError}
use Rattle.smt_words.specs.Command.{PlacedTree}
use Rattle.script_text.specs.Answers.{RecordTree}
use Rattle.script_text.specs.Session.{SessionTree, start}
use Rattle.script_text.specs.Output.{Setting, deed_of, output, AreRecords}
use Rattle.script_text.proofs.Reaching.{Reached, reached_step, reached_right, told_so_far, told_at_end, ends_at_end, told_refused, ends_refused}
use Rattle.script_shown.specs.declared.stop.Stop.{Stop}
use Rattle.script_shown.specs.declared.stop.Stop.TheVariants.{Memory, Fault, WriteFault}
use Rattle.script_run.specs.Steps.{Leaves, DoneInPart}
use Rattle.script_run.specs.Went.{WroteBefore, WroteFront, Went}

-- a command that was done leads on
pub reached_on : (k : Setting) (ps : List PlacedTree) (fault : Option ScriptError) (old_journal journal : List RecordTree) (s new : SessionTree) (p : PlacedTree) (rest : List PlacedTree) (text : List ℕ) (first old now : Option (List ℕ))
    → Reached k ps fault old_journal s (p ∷ rest) text → Appends first old text → Leaves (deed_of k s p) s new old_journal journal old now (Ok tt)
    → (text : List ℕ) × Reached k ps fault journal new rest text × Appends first now text
reached_on k ps fault old_journal journal s new p rest text first old now r w l =
    (text ++ l.1, rw l.3 (reached_step k ps fault old_journal l.0 s new p rest text l.1 r l.2), Appends-trans first old now text l.1 w l.4)

-- all commands are done
pub reached_end : (k : Setting) (ps : List PlacedTree) (fault : Option ScriptError) (journal : List RecordTree) (s : SessionTree) (text : List ℕ) (old new : Option (List ℕ))
    → Reached k ps fault journal s [] text → Appends old new text → WroteBefore k fault ps fault journal old new
reached_end k ps fault journal s text old new r w = (text, w, told_at_end k ps fault journal s text r, ends_at_end k ps fault journal s text r)

-- what is written is a front of what the records make
reached_front : (k : Setting) (ps : List PlacedTree) (fault : Option ScriptError) (journal : List RecordTree) (s : SessionTree) (rest : List PlacedTree) (text : List ℕ) (old new : Option (List ℕ))
    → Reached k ps fault journal s rest text → Appends old new text → WroteFront k ps fault journal old new
reached_front k ps fault journal s rest text old new r w = (text, output k s rest fault [], told_so_far k ps fault journal s rest text r, w)

-- the same where the last text was cut off
reached_part : (k : Setting) (ps : List PlacedTree) (fault : Option ScriptError) (old_journal journal : List RecordTree) (s : SessionTree) (p : PlacedTree) (rest : List PlacedTree) (text : List ℕ) (first old now : Option (List ℕ))
    → Reached k ps fault old_journal s (p ∷ rest) text → Appends first old text → DoneInPart (deed_of k s p) s old_journal journal old now
    → WroteFront k ps fault journal first now × AreRecords k start ps journal
reached_part k ps fault old_journal journal s p rest text first old now r w l =
    let after = reached_step k ps fault old_journal l.0 s l.2 p rest text l.1 r l.3 in
    let left = output k l.2 rest fault [] in
    rw l.4 (
      (
        text ++ l.5.0,
        l.5.1 ++ left,
        told_so_far k ps fault (old_journal ++ l.0) l.2 rest (text ++ l.1) after ∙ ap (λ t. (text ++ t) ++ left) l.5.2 ∙ simp append_assoc,
        Appends-trans first old now text l.5.0 w l.5.3,
      ),
      reached_right k ps fault (old_journal ++ l.0) l.2 rest (text ++ l.1) after,
    )

-- a command that was not done ends the run
pub went_stopped : (k : Setting) (ps : List PlacedTree) (fault : Option ScriptError) (old_journal journal : List RecordTree) (s new : SessionTree) (p : PlacedTree) (rest : List PlacedTree) (text : List ℕ) (first old now : Option (List ℕ)) (stop : Stop)
    → Reached k ps fault old_journal s (p ∷ rest) text → Appends first old text → Leaves (deed_of k s p) s new old_journal journal old now (Err stop)
    → Went k ps fault journal first now (Err stop) × AreRecords k start ps journal
went_stopped k ps fault old_journal journal s new p rest text first old now WriteFault r w l = reached_part k ps fault old_journal journal s p rest text first old now r w l
went_stopped k ps fault old_journal journal s new p rest text first old now Memory r w (inl l) =
    rw l.0 (reached_front k ps fault old_journal s (p ∷ rest) text first now r (Appends-kept first old now text w l.1), reached_right k ps fault old_journal s (p ∷ rest) text r)
went_stopped k ps fault old_journal journal s new p rest text first old now Memory r w (inr l) = reached_part k ps fault old_journal journal s p rest text first old now r w l
went_stopped k ps fault old_journal journal s new p rest text first old now (Fault found) r w l =
    rw l.1 (
      (
        text,
        Appends-kept first old now text w l.2,
        told_refused k ps fault old_journal s p rest text found r l.0,
        ends_refused k ps fault old_journal s p rest text found r l.0,
      ),
      reached_right k ps fault old_journal s (p ∷ rest) text r,
    )

-- the commands from a place on are that command and those behind it
pub drop_mapped : {A B : Type 0} (f : A → B) (xs : List A) (i : ℕ) (x : A) → i < length xs → x ≡ get_or xs i x → drop i (map f xs) ≡ f x ∷ drop (i + 1) (map f xs)
drop_mapped f xs i x within is =
    rw add-one (drop-map f i xs ∙ ap (map f) (drop-cons xs i x within ∙ ap (λ y. y ∷ drop (suc i) xs) (sym is)) ∙ ap (λ rest. f x ∷ rest) (sym (drop-map f (suc i) xs)))
