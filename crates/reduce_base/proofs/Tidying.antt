-- The canonical list of a goal, within its size.
use Rattle.std.proofs.Common.{◌≡◌, ℕ, ◌<◌, ◌≤◌, List, [], ◌∷◌, All, Ok, sym, ap, subst, ◌∙◌}
use Rattle.std.specs.List.{AllZip}
use Rattle.qterm.specs.declared.name.Sort.TheVariants as sort
use Rattle.qterm.specs.Tree.{Tree, True, IsLawful}
use Rattle.qterm.specs.Store.{Has, HasSort, trees_of, Extends}
use Rattle.qterm.proofs.Alls.{All-head, All-tail, All-weaker}
use Rattle.qterm.proofs.Extending.{trees_of_extends}
use Rattle.qwalk.specs.Subterms.{HasSubterms}
use Rattle.qwalk.proofs.Counts.{HasSubterms-same}
use Rattle.qlin.specs.Canon.{after}
use Rattle.qlin.specs.CanonList.{canon_each, canon_list, tidied}
use Rattle.qcanon.specs.declared.error.CanonError.{CanonError}
use Rattle.qcanon.specs.declared.error.CanonError.TheVariants as canon
use Rattle.qcanon.specs.Walk.{NamesFault}
use Rattle.qlist_laws.specs.Formulas.{AreFormulas}
use Rattle.reducer_iface.specs.Listed.{IsListed, IsLarge}
use Rattle.reduce_base.specs.Fault.{fault_of, IsFault}
use Rattle.reduce_base.specs.Forms.{IsForm}
use Rattle.reduce_base.proofs.Forming.{forms_each}

pub are_formulas : (ts : List Tree) (is : List ℕ) → All IsLawful ts → All (HasSort sort.Bool ts) is → AreFormulas (trees_of ts is)
are_formulas ts [] w h = tt
are_formulas ts (i ∷ is) w h = let a = All-head (HasSort sort.Bool ts) i is h in (w i True a.0, a.1, are_formulas ts is w (All-tail (HasSort sort.Bool ts) i is h))

pub canonical : (ts us : List Tree) (is cs js : List ℕ) → AllZip (IsForm ts us) is cs → trees_of us js ≡ tidied (trees_of us cs) → canon_list (trees_of ts is) ≡ Ok (trees_of us js)
canonical ts us is cs js z e = ap (λ o. after o (λ ds. Ok (tidied ds))) (forms_each ts us is cs z) ∙ ap Ok (sym e)

pub listed : (most n : ℕ) (fs cs : List Tree) → AreFormulas fs → canon_list fs ≡ Ok cs → HasSubterms cs n → n ≤ most → IsListed most fs cs
listed most n fs cs formulas e h l = record { formulas = formulas; canonical = e; small = λ m k. subst (λ x. x ≤ most) (HasSubterms-same cs n m h k) l }

pub large : (most n : ℕ) (fs cs : List Tree) → canon_list fs ≡ Ok cs → HasSubterms cs n → most < n → IsLarge most fs n
large most n fs cs e h l = record { list = cs; canonical = e; count = h; above = l }

-- ---- over the store that has grown
pub fault_is : (most : ℕ) (us : List Tree) (fs : List Tree) (cause : CanonError) → NamesFault us (canon_each fs) cause → IsFault most us fs (fault_of cause)
fault_is most us fs (canon.TooWide t) h = (h.0, ap (λ o. after o (λ ds. Ok (tidied ds))) h.1)
fault_is most us fs (canon.Memory m) h = tt

pub same_trees : (ts us : List Tree) (is : List ℕ) → Extends ts us → All (HasSort sort.Bool ts) is → trees_of us is ≡ trees_of ts is
same_trees ts us is e a = trees_of_extends ts us is e (All-weaker (HasSort sort.Bool ts) (Has ts) is (λ i h. h.0) a)
