-- How far the commands have come, over a store that has grown since.
use Rattle.std.proofs.Common.{◌≡◌, ◌∙◌, ℕ, List, ◌∷◌, All, Option, ap, sym, subst}
use Rattle.qterm.specs.Tree.{Tree}
use Rattle.qterm.specs.Store.{Extends}
use Rattle.smt_words.specs.declared.error.ScriptError.{ScriptError}
use Rattle.smt_words.specs.Command.{PlacedTree}
use Rattle.check_record.specs.declared.kept.CheckRecord.{CheckRecord}
use Rattle.script_text.specs.declared.session.Session.{Session}
use Rattle.script_text.specs.Session.{SessionTree, session_tree}
use Rattle.script_text.specs.Output.{Setting}
use Rattle.script_text.proofs.Reaching.{Reached}
use Rattle.script_run.specs.Records.{record_trees, last_answer, HasRecord}
use Rattle.script_run.specs.Steps.{IsSound}
use Rattle.script_run.proofs.Staying.{records_stay, session_stays}

-- a session with the answer that its journal ends with
abbrev pub session_in : List Tree → List CheckRecord → Session → SessionTree
session_in ts rs s = session_tree ts (last_answer (record_trees ts rs)) s

pub reached_later : (k : Setting) (ps : List PlacedTree) (fault : Option ScriptError) (ts us : List Tree) (rs : List CheckRecord) (s : Session) (p q : PlacedTree) (rest : List PlacedTree) (text : List ℕ)
    → Extends ts us → All (HasRecord ts) rs → IsSound ts s → q ≡ p
    → Reached k ps fault (record_trees ts rs) (session_in ts rs s) (p ∷ rest) text → Reached k ps fault (record_trees us rs) (session_in us rs s) (q ∷ rest) text
reached_later k ps fault ts us rs s p q rest text e has sound is r =
    let records = records_stay ts us rs e has in
    let session = ap (λ all. session_tree us (last_answer all) s) records ∙ session_stays ts us (last_answer (record_trees ts rs)) s e sound in
    let first = subst (λ j. Reached k ps fault j (session_in ts rs s) (p ∷ rest) text) (sym records) r in
    let second = subst (λ t. Reached k ps fault (record_trees us rs) t (p ∷ rest) text) (sym session) first in
    subst (λ o. Reached k ps fault (record_trees us rs) (session_in us rs s) (o ∷ rest) text) (sym is) second
