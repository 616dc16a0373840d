-- One more record in a journal, over a store that has grown.
use Rattle.std.proofs.Common.{◌≡◌, ◌+◌, true, false, List, [], ◌∷◌, ◌++◌, All, Some, refl}
use Rattle.qterm.specs.Tree.{Tree}
use Rattle.qterm.specs.Store.{Extends}
use Rattle.qterm.proofs.Alls.{All-push}
use Rattle.qterm.proofs.Extending.{Extends_refl}
use Rattle.reducer_iface.specs.Names.{Names}
use Rattle.check_record.specs.declared.kept.CheckRecord.{CheckRecord}
use Rattle.script_text.specs.declared.session.Session.{Session}
use Rattle.script_text.specs.Session.{checked, hidden}
use Rattle.script_run.specs.Records.{record_tree, record_trees, last_answer, HasRecord, IsRight, IsMade, IsKept}
use Rattle.script_run.proofs.Later.{session_in}
use Rattle.script_run.proofs.Staying.{records_later, all_right_later, all_kept_later}
use Rattle.script_run.proofs.Stepped.{record_trees-more, last_pushed}

pub has_pushed : (ts us : List Tree) (rs all : List CheckRecord) (r : CheckRecord) → Extends ts us → All (HasRecord ts) rs → HasRecord us r → all ≡ rs ++ r ∷ [] → All (HasRecord us) all
has_pushed ts us rs all r e h new is = rw is (All-push (HasRecord us) rs r (records_later ts us rs e h) new)

pub right_pushed : (ts us : List Tree) (rs all : List CheckRecord) (r : CheckRecord) → Extends ts us → All (HasRecord ts) rs → IsRight us r → all ≡ rs ++ r ∷ [] → All (IsRight ts) rs → All (IsRight us) all
right_pushed ts us rs all r e h new is right = rw is (All-push (IsRight us) rs r (all_right_later ts us rs e h right) new)

pub kept_pushed : (names : Names) (ts us : List Tree) (rs all : List CheckRecord) (r : CheckRecord) → Extends ts us → IsMade names us r → all ≡ rs ++ r ∷ [] → All (IsKept names ts) rs → All (IsKept names us) all
kept_pushed names ts us rs all r e made is kept = rw is (All-push (IsKept names us) rs r (all_kept_later names ts us rs e kept) (us, made, Extends_refl us))

-- the session after a check
pub session_checked : (us : List Tree) (rs all : List CheckRecord) (s new : Session) (r : CheckRecord) → all ≡ rs ++ r ∷ [] → r.number ≡ s.checks + 1 → new ≡ record s { checks = r.number; shows = true }
    → session_in us all new ≡ checked (session_in us rs s) (record_tree us r).answer
session_checked us rs all s new r is number after =
    let last : last_answer (record_trees us all) ≡ Some (record_tree us r).answer = last_pushed (record_trees us rs) (record_trees us all) (record_tree us r) (record_trees-more us rs all r is) in
    rw (after, last, number) refl

-- the session after an `apply`
pub session_applied : (us : List Tree) (rs all : List CheckRecord) (s new : Session) → new ≡ record s { shows = false } → session_in us all new ≡ hidden (session_in us rs s)
session_applied us rs all s new after = rw after refl
