-- All steps, from the canonical list of a goal to the list with its names shifted.
use Rattle.std.proofs.Common.{◌≡◌, ℕ, List, [], ◌∷◌, ◌++◌, All, Ok, Option, length, refl, sym, subst}
use Rattle.qterm.specs.declared.name.Sort.TheVariants as sort
use Rattle.qterm.specs.Tree.{Tree, True, IsLawful}
use Rattle.qterm.specs.Store.{HasSort, trees_of}
use Rattle.qterm.proofs.Alls.{All-head, All-tail}
use Rattle.qlin.specs.CanonList.{canon_list}
use Rattle.qsubst.specs.Names.{names_of}
use Rattle.qsubst.specs.Fresh.{texts_of}
use Rattle.qsubst.specs.Substitution.{replaced_each}
use Rattle.qsubst.proofs.Members.{Member-from_Contains}
use Rattle.qlist_laws.specs.Formulas.{AreFormulas}
use Rattle.qlist_laws.proofs.Lists.{keeps_list_names}
use Rattle.tac_cert.specs.declared.cert.Step.TheVariants as step
use Rattle.tac_cert.specs.Accepts.{as_items}
use Rattle.goal_depth.specs.Depths.{AreShallow}
use Rattle.goal_depth.proofs.Lists.{list_shallow}
use Rattle.proof_conv.specs.Leaves.{StepsLeave}
use Rattle.shift_lists.specs.declared.shifting.Shift.{Shift}
use Rattle.shift_lists.specs.Shifts.{images_of, AreShifts}
use Rattle.shift_lists.proofs.Freshness.{occurs_taken}
use Rattle.shift_steps.specs.declared.trace.Trace.{Trace}
use Rattle.shift_steps.specs.declared.defining.Turn.{Turn}
use Rattle.shift_steps.specs.Items.{Holds}
use Rattle.shift_steps.specs.Defining.{AreNarrow, CanShift, with_definitions, AllDefined}
use Rattle.shift_steps.specs.Replacing.{AllShift}
use Rattle.shift_steps.proofs.Canonical.{AllFit, list_fits, shifts_narrow, each_shallow}
use Rattle.shift_steps.proofs.Moving.{low_images, one_images}
use Rattle.shift_steps.proofs.Occurring.{replaced_occurs}
use Rattle.shift_steps.proofs.Stepping.{leave_push}

pub are_formulas : (ts : List Tree) (is : List ℕ) → All IsLawful ts → All (HasSort sort.Bool ts) is → AreFormulas (trees_of ts is)
are_formulas ts [] w h = tt
are_formulas ts (i ∷ is) w h = let a = All-head (HasSort sort.Bool ts) i is h in (w i True a.0, a.1, are_formulas ts is w (All-tail (HasSort sort.Bool ts) i is h))

module _ (g c : List Tree) (ss : List Shift) (w : AreFormulas g) (d : AreShallow g) (e : canon_list g ≡ Ok c) (a : AreShifts g c ss) where
  fit : AllFit c
  fit = list_fits g c w d e

  pub narrow : AreNarrow ss
  narrow = shifts_narrow c (names_of c) ss fit a.lows

  pub shallow : AreShallow (replaced_each (images_of ss) c)
  shallow = each_shallow (images_of ss) (low_images ss) (one_images ss) c fit

  can : CanShift c ss
  can = record {
    ints = a.ints;
    narrow = narrow;
    taken = texts_of (names_of g);
    fresh = a.fresh;
    names = λ n h. occurs_taken g n (keeps_list_names g c n e h);
    olds = λ s m. occurs_taken g s.name (keeps_list_names g c s.name e (replaced_occurs c ss s a.lows (Member-from_Contains s ss m)));
  }

  pub leaves : (S T : List Tree) (t u v : Trace) (table : ℕ → Option Turn) (numbers : List ℕ) → AreFormulas c → Holds S c c t → AllDefined S T t u table ss → AllShift T table u v c numbers
      → StepsLeave T (as_items c) (v.steps ++ step.Keep numbers ∷ []) (as_items (replaced_each (images_of ss) c))
  leaves S T t u v table numbers f held defined shift =
      let h = defined c can held in
      let r = shift ss (record { can = can; turns = h.turns }) f (list_shallow g c w d e) h.holds in
      leave_push T (as_items c) (as_items (with_definitions c ss ++ r.new)) (as_items (replaced_each (images_of ss) c)) v.steps (step.Keep numbers) r.holds.leaves tt r.are

-- no step leaves the formulas as they are
pub holds_none : (ts fs : List Tree) (t : Trace) → t.steps ≡ [] → t.count ≡ length fs → Holds ts fs fs t
holds_none ts fs t e n = record { leaves = subst (λ ss. StepsLeave ts (as_items fs) ss (as_items fs)) (sym e) (record { there = tt; run = refl }); count = n }
