-- Steps that aren't wide keep the values of a valuation within 128 bits.
use Rattle.std.proofs.Common.{◌≡◌, pos, List, [], ◌∷◌, Bool as Truth, true, false, cond, not, ◌||◌, Option, Some, None, if◌then◌else◌, refl}
use Rattle.std.specs.Map.{remove_entry}
use Rattle.indexmap.specs.IndexMap.{insert_entry}
use Rattle.std.specs.Prelude.{◌+ℤ◌, ◌-ℤ◌}
use Rattle.qterm.specs.declared.name.Name.{Name}
use Rattle.qterm.specs.Number.{fits}
use Rattle.qeval.specs.declared.model.Value.{Value}
use Rattle.qeval.specs.declared.model.Value.TheVariants.{Int}
use Rattle.qeval.specs.Value as value
use Rattle.qeval.specs.Value.{Valuation, same_name, with_value, without}
use Rattle.model_conv.specs.declared.step.LiftStep.{LiftStep}
use Rattle.model_conv.specs.declared.step.LiftStep.TheVariants.{Set, Assign, Choose, Bit, Forget}
use Rattle.model_conv.specs.Form.{is_true, total, passes}
use Rattle.model_conv.specs.Lift.{name_of, chosen, run, is_wide, lifted, first_of, wide_name, wide_at}
use Rattle.model_conv.specs.Narrow.{IsNarrow, SetsNarrow, AllSetNarrow}
use Rattle.model_conv.proofs.Forgets.{neither}

-- ---- one value
with_narrow : (V : Valuation) (n : Name) (v : Value) → IsNarrow V → value.is_wide v ≡ false → IsNarrow (with_value V n v)
with_narrow [] n v h k = (k, tt)
with_narrow (e ∷ V) n v h k = by (with_narrow V n v h.1 k) (same_name n e.0)
  where
    by : IsNarrow (with_value V n v) → (b : Truth) → IsNarrow (if b then (e.0, v) ∷ V else e ∷ insert_entry same_name V n v)
    by r true = (k, h.1)
    by r false = (h.0, r)

without_narrow : (V : Valuation) (n : Name) → IsNarrow V → IsNarrow (without V n)
without_narrow [] n h = tt
without_narrow (e ∷ V) n h = by (without_narrow V n h.1) (same_name n e.0)
  where
    by : IsNarrow (without V n) → (b : Truth) → IsNarrow (cond b V (e ∷ remove_entry (same_name n) V))
    by r true = h.1
    by r false = (h.0, r)

-- ---- one step
bit_narrow : (b : Truth) → value.is_wide (Int (if b then pos 1 else pos 0)) ≡ false
bit_narrow true = refl
bit_narrow false = refl

run_narrow : (s : LiftStep) (V : Valuation) → SetsNarrow s → is_wide s V ≡ false → IsNarrow V → IsNarrow (run s V)
run_narrow (Set n v) V k w h = with_narrow V n v h k
run_narrow (Assign n ps c) V k w h = with_narrow V n (Int (total V ps +ℤ c)) h (neither (passes V (pos 0) ps) (not (fits (total V ps +ℤ c))) w).1
run_narrow (Choose n by ps c p) V k w h =
    let q = neither (passes V (pos 0) ps) (not (fits (c -ℤ total V ps)) || not (fits (chosen V by ps c p))) w in
    with_narrow V n (Int (chosen V by ps c p)) h (neither (not (fits (c -ℤ total V ps))) (not (fits (chosen V by ps c p))) q.1).1
run_narrow (Bit n p) V k w h = with_narrow V n (Int (if is_true V p then pos 1 else pos 0)) h (bit_narrow (is_true V p))
run_narrow (Forget n) V k w h = without_narrow V n h

-- ---- all steps
none_first : (a b : Option Name) → first_of a b ≡ None → (a ≡ None) × (b ≡ None)
none_first None b e = (refl, e)
none_first (Some n) b e = cc

not_wide : (s : LiftStep) (V : Valuation) → wide_name s V ≡ None → is_wide s V ≡ false
not_wide s V e = by (is_wide s V) e
  where
    by : (b : Truth) → (if b then Some (name_of s) else None) ≡ None → b ≡ false
    by false e = refl
    by true e = cc

pub lifted_narrow : (ss : List LiftStep) (V : Valuation) → AllSetNarrow ss → IsNarrow V → wide_at ss V ≡ None → IsNarrow (lifted ss V)
lifted_narrow [] V k h e = h
lifted_narrow (s ∷ ss) V k h e =
    let f = none_first (wide_at ss V) (wide_name s (lifted ss V)) e in
    run_narrow s (lifted ss V) k.0 (not_wide s (lifted ss V) f.1) (lifted_narrow ss V k.1 h f.0)
