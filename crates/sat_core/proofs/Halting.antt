-- A watch that goes on at each lemma.
use Rattle.std.proofs.Common.{◌≡◌, true, List, [], ◌∷◌}
use Rattle.rup.specs.declared.literal.Lit.{Lit}
use Rattle.sat_core.specs.Calls.{HeardUntil}

-- it halts no search
pub never_halted : {W : Type 0} (w u : W) (cs : List (List Lit)) → HeardUntil (λ (before : W) c goes_on (after : W). goes_on ≡ true) w cs u → ⊥
never_halted w u [] h = h
never_halted w u (c ∷ []) h = cc
never_halted w u (c ∷ d ∷ cs) h = never_halted h.0 u (d ∷ cs) h.2
