-- Records, sessions and commands stay what they are as the store grows.
use Rattle.std.proofs.Common.{◌≡◌, ℕ, List, [], ◌∷◌, map, All, Option, refl, ap, sym, subst}
use Rattle.qterm.specs.declared.name.Sort.TheVariants as sort
use Rattle.qterm.specs.Tree.{Tree}
use Rattle.qterm.specs.Store.{Has, HasSort, Extends}
use Rattle.qterm.proofs.Alls.{All-head, All-tail, All-weaker}
use Rattle.qterm.proofs.Fitting.{Has_extends, HasSort_extends, All_HasSort_extends}
use Rattle.qterm.proofs.Extending.{Extends_trans, All_Has_extends, trees_of_extends}
use Rattle.qgoal.specs.Meaning.{IsModel}
use Rattle.goal_depth.specs.Depths.{IsShallow, AreShallow}
use Rattle.cert_items.specs.Truth.{Unsatisfiable}
use Rattle.smt_words.specs.declared.command.Asked.{Asked}
use Rattle.smt_words.specs.declared.command.Command.{Command}
use Rattle.smt_words.specs.declared.command.Command.TheVariants as command
use Rattle.smt_words.specs.declared.script.Placed.{Placed}
use Rattle.smt_words.specs.Command.{Assert, GetValue, PlacedTree, asked_tree, command_tree, placed_tree}
use Rattle.reducer_iface.specs.Names.{Names}
use Rattle.check_answer.specs.Answers.{IfSat, IfUnsat}
use Rattle.check_record.specs.declared.kept.CheckRecord.{CheckRecord}
use Rattle.script_text.specs.declared.session.Session.{Session}
use Rattle.script_text.specs.Answers.{AnswerTree}
use Rattle.script_shown.proofs.AnswersStay.{answer_stays, has_answer_later}
use Rattle.script_text.specs.Session.{SessionTree, session_tree}
use Rattle.script_run.specs.Records.{record_tree, record_trees, HasRecord, IsRight, IsKept}
use Rattle.script_run.specs.Steps.{IsCommandIn, IsSound}

-- ---- records
record_stays : (ts us : List Tree) (r : CheckRecord) → Extends ts us → HasRecord ts r → record_tree us r ≡ record_tree ts r
record_stays ts us r e h = λ k. record {
  number = r.number;
  asserts = trees_of_extends ts us r.asserts e h.asserts k;
  strategy = r.strategy;
  answer = answer_stays ts us r.answer e h.answer k;
}

pub records_stay : (ts us : List Tree) (rs : List CheckRecord) → Extends ts us → All (HasRecord ts) rs → record_trees us rs ≡ record_trees ts rs
records_stay ts us [] e h = refl
records_stay ts us (r ∷ rs) e h =
    λ k. record_stays ts us r e (All-head (HasRecord ts) r rs h) k ∷ records_stay ts us rs e (All-tail (HasRecord ts) r rs h) k

has_record_later : (ts us : List Tree) (r : CheckRecord) → Extends ts us → HasRecord ts r → HasRecord us r
has_record_later ts us r e h = record { asserts = All_Has_extends ts us r.asserts e h.asserts; answer = has_answer_later ts us r.answer e h.answer }

pub records_later : (ts us : List Tree) (rs : List CheckRecord) → Extends ts us → All (HasRecord ts) rs → All (HasRecord us) rs
records_later ts us rs e h = All-weaker (HasRecord ts) (HasRecord us) rs (λ r. has_record_later ts us r e) h

right_later : (ts us : List Tree) (r : CheckRecord) → Extends ts us → HasRecord ts r → IsRight ts r → IsRight us r
right_later ts us r e h right =
    let same = sym (trees_of_extends ts us r.asserts e h.asserts) in
    record {
      sat = subst (λ fs. IfSat (λ model. IsModel model fs) r.answer) same right.sat;
      unsat = subst (λ fs. IfUnsat (λ cert. Unsatisfiable fs) r.answer) same right.unsat;
    }

pub all_right_later : (ts us : List Tree) (rs : List CheckRecord) → Extends ts us → All (HasRecord ts) rs → All (IsRight ts) rs → All (IsRight us) rs
all_right_later ts us rs e h right = λ k d l. right_later ts us _ e (h k d l) (right k d l)

pub all_kept_later : (names : Names) (ts us : List Tree) (rs : List CheckRecord) → Extends ts us → All (IsKept names ts) rs → All (IsKept names us) rs
all_kept_later names ts us rs e h = All-weaker (IsKept names ts) (IsKept names us) rs (λ r kept. (kept.0, kept.1, Extends_trans kept.0 ts us kept.2 e)) h

-- ---- sessions
pub session_stays : (ts us : List Tree) (last : Option AnswerTree) (s : Session) → Extends ts us → IsSound ts s → session_tree us last s ≡ session_tree ts last s
session_stays ts us last s e sound =
    ap (λ fs. let r : SessionTree = record (session_tree ts last s) { asserts = fs } in r)
    (trees_of_extends ts us s.asserts e (All-weaker (HasSort sort.Bool ts) (Has ts) s.asserts (λ i h. h.0) sound.asserts))

pub sound_later : (ts us : List Tree) (s : Session) → Extends ts us → IsSound ts s → IsSound us s
sound_later ts us s e sound = record {
  asserts = All_HasSort_extends sort.Bool ts us s.asserts e sound.asserts;
  shallow = subst AreShallow (sym (trees_of_extends ts us s.asserts e (All-weaker (HasSort sort.Bool ts) (Has ts) s.asserts (λ i h. h.0) sound.asserts))) sound.shallow;
}

-- ---- commands
asked_stay : (ts us : List Tree) (asked : List Asked) → Extends ts us → All (λ a. Has ts a.term) asked → map (asked_tree us) asked ≡ map (asked_tree ts) asked
asked_stay ts us [] e h = refl
asked_stay ts us (a ∷ asked) e h =
    λ k. record { term = e.same a.term (All-head (λ b. Has ts b.term) a asked h) k; start = a.start; end = a.end } ∷ asked_stay ts us asked e (All-tail (λ b. Has ts b.term) a asked h) k

command_stays : (ts us : List Tree) (bytes : List ℕ) (c : Command) → Extends ts us → IsCommandIn ts bytes c → command_tree us c ≡ command_tree ts c
command_stays ts us bytes command.SetLogic e h = refl
command_stays ts us bytes (command.PrintSuccess on) e h = refl
command_stays ts us bytes (command.SetOption known) e h = refl
command_stays ts us bytes command.SetInfo e h = refl
command_stays ts us bytes (command.Declare name) e h = refl
command_stays ts us bytes command.Define e h = refl
command_stays ts us bytes (command.Assert id) e h = ap Assert (e.same id h.0.0)
command_stays ts us bytes (command.Push n) e h = refl
command_stays ts us bytes (command.Pop n) e h = refl
command_stays ts us bytes command.CheckSat e h = refl
command_stays ts us bytes (command.CheckSatUsing s) e h = refl
command_stays ts us bytes (command.Apply s) e h = refl
command_stays ts us bytes command.GetModel e h = refl
command_stays ts us bytes (command.GetValue asked) e h = ap GetValue (asked_stay ts us asked e h.0)
command_stays ts us bytes command.GetProof e h = refl
command_stays ts us bytes (command.GetInfo info) e h = refl
command_stays ts us bytes (command.Echo text) e h = refl
command_stays ts us bytes command.ResetAssertions e h = refl
command_stays ts us bytes command.Exit e h = refl

pub placed_stays : (ts us : List Tree) (bytes : List ℕ) (p : Placed) → Extends ts us → IsCommandIn ts bytes p.command → placed_tree us p ≡ placed_tree ts p
placed_stays ts us bytes p e h = ap (λ c. let q : PlacedTree = record { command = c; place = p.place } in q) (command_stays ts us bytes p.command e h)

command_later : (ts us : List Tree) (bytes : List ℕ) (c : Command) → Extends ts us → IsCommandIn ts bytes c → IsCommandIn us bytes c
command_later ts us bytes (command.Assert id) e h = (HasSort_extends sort.Bool ts us id e h.0, subst IsShallow (sym (e.same id h.0.0)) h.1)
command_later ts us bytes (command.GetValue asked) e h = (All-weaker (λ a. Has ts a.term) (λ a. Has us a.term) asked (λ a. Has_extends ts us a.term e) h.0, h.1)
command_later ts us bytes c e h = h

pub placed_later : (ts us : List Tree) (bytes : List ℕ) (p : Placed) → Extends ts us → IsCommandIn ts bytes p.command → IsCommandIn us bytes p.command
placed_later ts us bytes p e h = command_later ts us bytes p.command e h
