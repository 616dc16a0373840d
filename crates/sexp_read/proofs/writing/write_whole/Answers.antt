use Rattle.std.proofs.Common.{arith, take, drop, sym}
use Rattle.std.proofs.lemmas.List.{take-append-drop, take_rest}
use Rattle.std.proofs.Math.Seq.{take-add}
use Rattle.std.proofs.KnownBytes.{Appends-kept, Appends-nil, Appends-trans}
use Rattle.sexp_read.proofs.Told.{StaysTold-refl, StaysTold-trans}
use Rattle.sexp_read.proofs.writing.write_whole.Goals as goal

-- what a failed write leaves is the front so far
pub returns-in_err-done-clause-front : goal.returns-in_err-done-clause-front
returns-in_err-done-clause-front g c = (
  take c.loop-done.done c.args.text.now,
  drop c.loop-done.done c.args.text.now,
  sym (take-append-drop c.loop-done.done c.args.text.now),
  Appends-kept _ _ _ _ c.loop-done.invariant.so_far c.in_err-done.ensures.bytes,
)

pub loop-done-preserved : goal.loop-done-preserved
loop-done-preserved g c = record {
  within = grind arith;
  so_far = rw take-add (Appends-trans _ _ _ _ _ c.loop-done.invariant.so_far (rw take_rest at c.in_ok-done.ensures.bytes));
  told = StaysTold-trans _ _ _ c.loop-done.invariant.told c.in_ok-done.ensures.told;
  later = grind arith;
}

pub returns-in_err-done-clause-told : goal.returns-in_err-done-clause-told
returns-in_err-done-clause-told g c = StaysTold-trans _ _ _ c.loop-done.invariant.told c.in_err-done.ensures.told

pub loop-done-init : goal.loop-done-init
loop-done-init g c = record {
  within = grind arith;
  so_far = Appends-nil _;
  told = StaysTold-refl _;
  later = grind arith;
}
