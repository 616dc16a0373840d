-- A chain goes on with the parent's.
use Rattle.std.proofs.Common.{◌≡◌, ℕ, zero, suc, true, eqb, List, Some, refl, eq-eqb}
use Rattle.race_core.specs.declared.machine.Place.{Place}
use Rattle.race_core.specs.declared.machine.Place.TheVariants.{Root, At}
use Rattle.race_core.specs.declared.machine.Race.{Race}
use Rattle.race_core.specs.Machine.{race_at, chain_branch}
use Rattle.race_core.specs.Lawful.{IsEarlier, IsLawful}
use Rattle.race_core.specs.Chains.{FollowsParent, ChainsFollowParents}
use Rattle.race_core.proofs.Keeps.{IsBelow, chain_up}

below : (k : ℕ) (p : Place) → IsEarlier k p → IsBelow k p
below k Root h = tt
below k (At r b) h = h

own : (xs : List Race) (k b : ℕ) → chain_branch xs (At (suc k) b) (suc k) ≡ Some b
own xs k b = let here : eqb (suc k) (suc k) ≡ true = eq-eqb (suc k) (suc k) refl in rw here refl

follows : (xs : List Race) → IsLawful xs → (r b : ℕ) (x : Race) → race_at xs r ≡ Some x → FollowsParent xs r b x
follows xs h zero b x e = absurd (cc)
follows xs h (suc k) b x e = record { own = own xs k b; others = λ q ne. chain_up xs k b q x e (below k x.parent (h k x e).0) ne }

pub chains_follow : ChainsFollowParents
chains_follow xs h = (follows xs h, λ q. refl)
