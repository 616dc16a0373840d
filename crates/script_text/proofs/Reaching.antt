-- How far the commands have come: what is written, and what the records still to come add to it.
use Rattle.std.proofs.Common.{◌≡◌, ℕ, List, [], ◌∷◌, ◌++◌, Option, Some, refl, ap, sym, subst, ◌∙◌, append_assoc, append-nil}
use Rattle.smt_words.specs.declared.error.ScriptError.{ScriptError}
use Rattle.smt_words.specs.Command.{PlacedTree}
use Rattle.script_text.specs.Answers.{RecordTree}
use Rattle.script_text.specs.Session.{SessionTree, start}
use Rattle.script_text.specs.Shown.{fault_line}
use Rattle.script_text.specs.Output.{Setting, Deed, Writes, Refuses, Checks, Applies, deed_of, End, over, output, end_of, AreRecords, text_by, end_by, records_by, Acts}

-- The commands up to here wrote this text, and have this journal and session.
pub record Reached (k : Setting) (ps : List PlacedTree) (fault : Option ScriptError) (journal : List RecordTree) (s : SessionTree) (rest : List PlacedTree) (text : List ℕ) : Type 0 where
  pub told : (more : List RecordTree) → output k start ps fault (journal ++ more) ≡ text ++ output k s rest fault more
  pub ends : (more : List RecordTree) → end_of k start ps fault (journal ++ more) ≡ end_of k s rest fault more
  pub right : (more : List RecordTree) → AreRecords k s rest more → AreRecords k start ps (journal ++ more)

pub reached_start : (k : Setting) (ps : List PlacedTree) (fault : Option ScriptError) → Reached k ps fault [] start ps []
reached_start k ps fault = record { told = λ more. refl; ends = λ more. refl; right = λ more h. h }

text_acts : (bytes : List ℕ) (d : Deed) (s next : SessionTree) (rs more : List RecordTree) (text : List ℕ) (after : SessionTree → List RecordTree → List ℕ)
    → Acts d s rs text next → text_by bytes d s (rs ++ more) after ≡ text ++ after next more
text_acts bytes (Writes told new) s next rs more text after a = rw (a.0, a.1, a.2) refl
text_acts bytes (Refuses error) s next rs more text after a = absurd a
text_acts bytes (Checks strategy) s next rs more text after a = rw (a.2, a.3, a.4) refl
text_acts bytes (Applies strategy) s next rs more text after a = rw (a.2, a.3, a.4) refl

acts_told : (k : Setting) (s next : SessionTree) (p : PlacedTree) (rs : List RecordTree) (text : List ℕ) (rest : List PlacedTree) (fault : Option ScriptError) (more : List RecordTree)
    → Acts (deed_of k s p) s rs text next → output k s (p ∷ rest) fault (rs ++ more) ≡ text ++ output k next rest fault more
unfolding output
acts_told k s next p rs text rest fault more a = text_acts k.bytes (deed_of k s p) s next rs more text (λ n m. output k n rest fault m) a

end_acts : (d : Deed) (s next : SessionTree) (rs more : List RecordTree) (text : List ℕ) (after : SessionTree → List RecordTree → End)
    → Acts d s rs text next → end_by d s (rs ++ more) after ≡ after next more
end_acts (Writes told new) s next rs more text after a = rw (a.0, a.2) refl
end_acts (Refuses error) s next rs more text after a = absurd a
end_acts (Checks strategy) s next rs more text after a = rw (a.2, a.4) refl
end_acts (Applies strategy) s next rs more text after a = rw (a.2, a.4) refl

acts_ends : (k : Setting) (s next : SessionTree) (p : PlacedTree) (rs : List RecordTree) (text : List ℕ) (rest : List PlacedTree) (fault : Option ScriptError) (more : List RecordTree)
    → Acts (deed_of k s p) s rs text next → end_of k s (p ∷ rest) fault (rs ++ more) ≡ end_of k next rest fault more
unfolding end_of
acts_ends k s next p rs text rest fault more a = end_acts (deed_of k s p) s next rs more text (λ n m. end_of k n rest fault m) a

records_acts : (d : Deed) (s next : SessionTree) (rs more : List RecordTree) (text : List ℕ) (After : SessionTree → List RecordTree → Type 0)
    → Acts d s rs text next → After next more → records_by d s (rs ++ more) After
records_acts (Writes told new) s next rs more text After a h = rw a.0 (rw a.2 at h)
records_acts (Refuses error) s next rs more text After a h = absurd a
records_acts (Checks strategy) s next rs more text After a h = rw a.2 (a.1, rw a.4 at h)
records_acts (Applies strategy) s next rs more text After a h = rw a.2 (a.1, rw a.4 at h)

acts_right : (k : Setting) (s next : SessionTree) (p : PlacedTree) (rs : List RecordTree) (text : List ℕ) (rest : List PlacedTree) (more : List RecordTree)
    → Acts (deed_of k s p) s rs text next → AreRecords k next rest more → AreRecords k s (p ∷ rest) (rs ++ more)
unfolding AreRecords
acts_right k s next p rs text rest more a h = records_acts (deed_of k s p) s next rs more text (λ n m. AreRecords k n rest m) a h

-- a command that was done leads on
pub reached_step : (k : Setting) (ps : List PlacedTree) (fault : Option ScriptError) (journal rs : List RecordTree) (s next : SessionTree) (p : PlacedTree) (rest : List PlacedTree) (text more_text : List ℕ)
    → Reached k ps fault journal s (p ∷ rest) text → Acts (deed_of k s p) s rs more_text next → Reached k ps fault (journal ++ rs) next rest (text ++ more_text)
reached_step k ps fault journal rs s next p rest text more_text r a = record {
  told = λ more. rw (append_assoc journal rs more, append_assoc text more_text (output k next rest fault more)) (r.told (rs ++ more) ∙ ap (λ t. text ++ t) (acts_told k s next p rs more_text rest fault more a));
  ends = λ more. rw append_assoc (r.ends (rs ++ more) ∙ acts_ends k s next p rs more_text rest fault more a);
  right = λ more h. rw append_assoc (r.right (rs ++ more) (acts_right k s next p rs more_text rest more a h));
}

none_by : (d : Deed) (s : SessionTree) (After : SessionTree → List RecordTree → Type 0) → ((next : SessionTree) → After next []) → records_by d s [] After
none_by (Writes told new) s After none = none new
none_by (Refuses error) s After none = refl
none_by (Checks strategy) s After none = tt
none_by (Applies strategy) s After none = tt

-- no records are those of any commands, as far as they go
pub none_right : (k : Setting) (s : SessionTree) (rest : List PlacedTree) → AreRecords k s rest []
unfolding AreRecords
none_right k s [] = refl
none_right k s (p ∷ rest) = none_by (deed_of k s p) s (λ n m. AreRecords k n rest m) (λ next. none_right k next rest)

-- the records so far are right
pub reached_right : (k : Setting) (ps : List PlacedTree) (fault : Option ScriptError) (journal : List RecordTree) (s : SessionTree) (rest : List PlacedTree) (text : List ℕ)
    → Reached k ps fault journal s rest text → AreRecords k start ps journal
reached_right k ps fault journal s rest text r = subst (AreRecords k start ps) (append-nil journal) (r.right [] (none_right k s rest))

-- what the records so far make of the text
pub told_so_far : (k : Setting) (ps : List PlacedTree) (fault : Option ScriptError) (journal : List RecordTree) (s : SessionTree) (rest : List PlacedTree) (text : List ℕ)
    → Reached k ps fault journal s rest text → output k start ps fault journal ≡ text ++ output k s rest fault []
told_so_far k ps fault journal s rest text r = ap (output k start ps fault) (sym (append-nil journal)) ∙ r.told []

-- how the commands end by the records so far
pub ends_so_far : (k : Setting) (ps : List PlacedTree) (fault : Option ScriptError) (journal : List RecordTree) (s : SessionTree) (rest : List PlacedTree) (text : List ℕ)
    → Reached k ps fault journal s rest text → end_of k start ps fault journal ≡ end_of k s rest fault []
ends_so_far k ps fault journal s rest text r = ap (end_of k start ps fault) (sym (append-nil journal)) ∙ r.ends []

-- all commands are done
pub told_at_end : (k : Setting) (ps : List PlacedTree) (fault : Option ScriptError) (journal : List RecordTree) (s : SessionTree) (text : List ℕ)
    → Reached k ps fault journal s [] text → output k start ps fault journal ≡ text ++ fault_line k.bytes fault
unfolding output
told_at_end k ps fault journal s text r = told_so_far k ps fault journal s [] text r

pub ends_at_end : (k : Setting) (ps : List PlacedTree) (fault : Option ScriptError) (journal : List RecordTree) (s : SessionTree) (text : List ℕ)
    → Reached k ps fault journal s [] text → end_of k start ps fault journal ≡ over fault
unfolding end_of
ends_at_end k ps fault journal s text r = ends_so_far k ps fault journal s [] text r

-- the next command can't be done
text_refused : (bytes : List ℕ) (d : Deed) (error : ScriptError) (s : SessionTree) (after : SessionTree → List RecordTree → List ℕ)
    → d ≡ Refuses error → text_by bytes d s [] after ≡ fault_line bytes (Some error)
text_refused bytes d error s after is = rw is refl

end_refused : (d : Deed) (error : ScriptError) (s : SessionTree) (after : SessionTree → List RecordTree → End)
    → d ≡ Refuses error → end_by d s [] after ≡ over (Some error)
end_refused d error s after is = rw is refl

pub told_refused : (k : Setting) (ps : List PlacedTree) (fault : Option ScriptError) (journal : List RecordTree) (s : SessionTree) (p : PlacedTree) (rest : List PlacedTree) (text : List ℕ) (error : ScriptError)
    → Reached k ps fault journal s (p ∷ rest) text → deed_of k s p ≡ Refuses error → output k start ps fault journal ≡ text ++ fault_line k.bytes (Some error)
unfolding output
told_refused k ps fault journal s p rest text error r is =
    told_so_far k ps fault journal s (p ∷ rest) text r ∙ ap (λ t. text ++ t) (text_refused k.bytes (deed_of k s p) error s (λ n m. output k n rest fault m) is)

pub ends_refused : (k : Setting) (ps : List PlacedTree) (fault : Option ScriptError) (journal : List RecordTree) (s : SessionTree) (p : PlacedTree) (rest : List PlacedTree) (text : List ℕ) (error : ScriptError)
    → Reached k ps fault journal s (p ∷ rest) text → deed_of k s p ≡ Refuses error → end_of k start ps fault journal ≡ over (Some error)
unfolding end_of
ends_refused k ps fault journal s p rest text error r is =
    ends_so_far k ps fault journal s (p ∷ rest) text r ∙ end_refused (deed_of k s p) error s (λ n m. end_of k n rest fault m) is
