-- What each command leaves, by the session before it.
use Rattle.std.proofs.Common.{◌≡◌, ◌-◌, ℕ, true, false, List, [], ◌∷◌, ◌++◌, ◌⊎◌, inl, inr, length, slice_get, option_map, length-append, arith, Option, Result, Ok, Err, None, Some, OnOk, OnErr, IfErr, refl, sym, ap, append-nil, ◌∙◌}
use Rattle.std.proofs.lemmas.List.{map-append, length-map}
use Rattle.std.proofs.lemmas.Option.{slice_get-map}
use Rattle.std.specs.Io.KnownBytes.{Appends, Keeps}
use Rattle.sexp_read.specs.Outside.{AppendsFront}
use Rattle.qterm.specs.Tree.{Tree}
use Rattle.smt_words.specs.declared.command.Command.{Command}
use Rattle.smt_words.specs.declared.command.Command.TheVariants as command
use Rattle.smt_words.specs.Command.{PlacedTree, CheckSatUsing, Apply}
use Rattle.strat_text.specs.declared.strategy.Strategy.{Strategy}
use Rattle.check_record.specs.declared.kept.CheckRecord.{CheckRecord}
use Rattle.script_text.specs.Answers.{RecordTree}
use Rattle.script_text.specs.Session.{SessionTree}
use Rattle.script_text.specs.Output.{Setting, Deed, Writes, Refuses, Checks, Applies, Acts, deed, deed_of, unknown_reducer}
use Rattle.script_shown.specs.declared.stop.Stop.{Stop}
use Rattle.script_shown.specs.declared.stop.Stop.TheVariants.{Memory, Fault, WriteFault}
use Rattle.script_run.specs.Records.{record_tree, record_trees, last_answer}
use Rattle.script_shown.specs.Trees.{answer_tree}
use Rattle.script_run.specs.Steps.{IsPlain, Leaves, DoneInPart, HasFault}
use Rattle.script_shown.specs.Stops.{IsRefused}

-- a command of another kind than a check by a strategy, or an `apply`, makes no record
pub plain_other : (c : Command) → ((s : Strategy) → c ≡ command.CheckSatUsing s → ⊥) → ((s : Strategy) → c ≡ command.Apply s → ⊥) → IsPlain c
plain_other command.SetLogic a b = tt
plain_other (command.PrintSuccess on) a b = tt
plain_other (command.SetOption known) a b = tt
plain_other command.SetInfo a b = tt
plain_other (command.Declare name) a b = tt
plain_other command.Define a b = tt
plain_other (command.Assert id) a b = tt
plain_other (command.Push n) a b = tt
plain_other (command.Pop n) a b = tt
plain_other command.CheckSat a b = tt
plain_other (command.CheckSatUsing s) a b = absurd (a s refl)
plain_other (command.Apply s) a b = absurd (b s refl)
plain_other command.GetModel a b = tt
plain_other (command.GetValue asked) a b = tt
plain_other command.GetProof a b = tt
plain_other (command.GetInfo info) a b = tt
plain_other (command.Echo text) a b = tt
plain_other command.ResetAssertions a b = tt
plain_other command.Exit a b = tt

-- one more record
pub record_trees-more : (ts : List Tree) (rs all : List CheckRecord) (r : CheckRecord) → all ≡ rs ++ r ∷ [] → record_trees ts all ≡ record_trees ts rs ++ record_tree ts r ∷ []
record_trees-more ts rs all r is = rw is (map-append (record_tree ts) rs (r ∷ []))

-- the last answer
get_last : (rs : List RecordTree) (r : RecordTree) → slice_get (rs ++ r ∷ []) (length rs) ≡ Some r
get_last [] r = refl
get_last (x ∷ rs) r = get_last rs r

pub last_pushed : (rs all : List RecordTree) (r : RecordTree) → all ≡ rs ++ r ∷ [] → last_answer all ≡ Some r.answer
last_pushed rs all r is =
    let place : length (rs ++ r ∷ []) - 1 ≡ length rs = simp length-append (omega arith) in
    rw (is, place, get_last) refl

-- the answer of a record that may be shown
pub last_shown : (ts : List Tree) (rs : List CheckRecord) → last_answer (record_trees ts rs) ≡ option_map (λ (r : CheckRecord). answer_tree ts r.answer) (slice_get rs (length rs - 1))
last_shown ts rs =
    rw length-map (ap (option_map (λ (r : RecordTree). r.answer)) (slice_get-map (record_tree ts) rs (length rs - 1)) ∙ mapped (slice_get rs (length rs - 1)))
  where
    mapped : (o : Option CheckRecord) → option_map (λ (r : RecordTree). r.answer) (option_map (record_tree ts) o) ≡ option_map (λ (r : CheckRecord). answer_tree ts r.answer) o
    mapped None = refl
    mapped (Some r) = refl

-- ---- commands that make no record
pub leaves_written : (d : Deed) (s next : SessionTree) (text : List ℕ) (journal : List RecordTree) (old new : Option (List ℕ))
    → d ≡ Writes text next → Appends old new text → Leaves d s next journal journal old new (Ok tt)
leaves_written d s next text journal old new is w = ([], text, rw is (refl, refl, refl), sym (append-nil journal), w)

pub leaves_front : (d : Deed) (s next last : SessionTree) (text : List ℕ) (journal : List RecordTree) (old new : Option (List ℕ))
    → d ≡ Writes text next → AppendsFront old new text → Leaves d s last journal journal old new (Err WriteFault)
leaves_front d s next last text journal old new is w = ([], text, next, rw is (refl, refl, refl), sym (append-nil journal), w)

-- a text that was written, or a front of it
pub leaves_wrote : (d : Deed) (s next : SessionTree) (text : List ℕ) (journal : List RecordTree) (old new : Option (List ℕ)) (result : Result Unit Stop)
    → d ≡ Writes text next → OnOk result (Appends old new text) → OnErr result (AppendsFront old new text) → IfErr result (λ stop. stop ≡ WriteFault) → Leaves d s next journal journal old new result
leaves_wrote d s next text journal old new (Ok tt) is whole front stop = leaves_written d s next text journal old new is whole
leaves_wrote d s next text journal old new (Err e) is whole front stop = rw stop (leaves_front d s next next text journal old new is front)

pub leaves_refused : (d : Deed) (s last : SessionTree) (stop : Stop) (journal : List RecordTree) (old new : Option (List ℕ))
    → IsRefused d stop → Keeps old new → Leaves d s last journal journal old new (Err stop)
leaves_refused d s last Memory journal old new is w = inl (refl, w)
leaves_refused d s last (Fault error) journal old new is w = (is, refl, w)
leaves_refused d s last WriteFault journal old new is w = absurd is

-- a deed that was done in part was stopped by the sink, or by want of memory
pub leaves_part : (d : Deed) (s last : SessionTree) (stop : Stop) (old_journal journal : List RecordTree) (old new : Option (List ℕ))
    → DoneInPart d s old_journal journal old new → (stop ≡ Memory) ⊎ (stop ≡ WriteFault) → Leaves d s last old_journal journal old new (Err stop)
leaves_part d s last stop old_journal journal old new part (inl is) = rw is (inr part)
leaves_part d s last stop old_journal journal old new part (inr is) = rw is part

-- a record that was made, by what the call that wrote its answer left
pub leaves_made : (d : Deed) (s new : SessionTree) (text : List ℕ) (r : RecordTree) (old_journal journal : List RecordTree) (old now : Option (List ℕ)) (result : Result Unit Stop)
    → Acts d s (r ∷ []) text new → journal ≡ old_journal ++ r ∷ [] → OnOk result (Appends old now text) → OnErr result (AppendsFront old now text)
    → IfErr result (λ stop. (stop ≡ Memory) ⊎ (stop ≡ WriteFault)) → Leaves d s new old_journal journal old now result
leaves_made d s new text r old_journal journal old now (Ok tt) acts kept whole front stop = (r ∷ [], text, acts, kept, whole)
leaves_made d s new text r old_journal journal old now (Err e) acts kept whole front stop =
    leaves_part d s new e old_journal journal old now (r ∷ [], text, new, acts, kept, front) stop

-- ---- commands with a strategy
pub leaves_by : (d deed : Deed) (s new : SessionTree) (old_journal journal : List RecordTree) (old now : Option (List ℕ)) (result : Result Unit Stop)
    → deed ≡ d → Leaves d s new old_journal journal old now result → Leaves deed s new old_journal journal old now result
leaves_by d deed s new old_journal journal old now result is leaves = rw is leaves

pub deed_checks : (k : Setting) (s : SessionTree) (p : PlacedTree) (strategy : Strategy) → p.command ≡ CheckSatUsing strategy → k.can_run strategy ≡ true → deed_of k s p ≡ Checks strategy
unfolding deed
deed_checks k s p strategy is can = rw is (rw can refl)

pub deed_applies : (k : Setting) (s : SessionTree) (p : PlacedTree) (strategy : Strategy) → p.command ≡ Apply strategy → k.can_run strategy ≡ true → deed_of k s p ≡ Applies strategy
unfolding deed
deed_applies k s p strategy is can = rw is (rw can refl)

pub deed_cannot_check : (k : Setting) (s : SessionTree) (p : PlacedTree) (strategy : Strategy) → p.command ≡ CheckSatUsing strategy → k.can_run strategy ≡ false → deed_of k s p ≡ Refuses (unknown_reducer p.place)
unfolding deed
deed_cannot_check k s p strategy is can = rw is (rw can refl)

pub deed_cannot_apply : (k : Setting) (s : SessionTree) (p : PlacedTree) (strategy : Strategy) → p.command ≡ Apply strategy → k.can_run strategy ≡ false → deed_of k s p ≡ Refuses (unknown_reducer p.place)
unfolding deed
deed_cannot_apply k s p strategy is can = rw is (rw can refl)

-- bytes that stay as they were
pub keeps_self : (o : Option (List ℕ)) → Keeps o o
keeps_self None = tt
keeps_self (Some bytes) = refl

-- a text that is empty
pub appends_nothing : (o : Option (List ℕ)) (text : List ℕ) → text ≡ [] → Appends o o text
appends_nothing None text none = tt
appends_nothing (Some bytes) text none = rw none (sym (append-nil bytes))

-- no memory, before anything was done
pub leaves_none : (d : Deed) (s new : SessionTree) (old_journal journal : List RecordTree) (old : Option (List ℕ)) (stop : Stop)
    → stop ≡ Memory → journal ≡ old_journal → Leaves d s new old_journal journal old old (Err stop)
leaves_none d s new old_journal journal old stop is same = rw is (inl (same, keeps_self old))

-- what holds at all holds where there is no error
pub on_ok : (P : Type 0) (r : Result Unit Stop) → P → OnOk r P
on_ok P (Ok done) h = h
on_ok P (Err e) h = tt

-- a command that can't be done is no failure of the sink
pub cause_refused : (d : Deed) (stop : Stop) (n : ℕ) → IsRefused d stop → HasFault n n (Err stop)
cause_refused d Memory n h = record { later = omega arith; failed = λ is. let none : ⊥ = cc in absurd none }
cause_refused d (Fault error) n h = record { later = omega arith; failed = λ is. let none : ⊥ = cc in absurd none }
cause_refused d WriteFault n h = absurd h
