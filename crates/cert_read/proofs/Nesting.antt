-- Splits that are opened and closed.
use Rattle.std.proofs.Common.{◌≡◌, ℕ, zero, suc, ◌+◌, ◌<◌, List, [], ◌∷◌, ◌++◌, length, All, refl, sym, subst, arith}
use Rattle.tac_cert.specs.declared.cert.Proof.{Proof}
use Rattle.tac_cert.specs.declared.cert.Close.TheVariants as close
use Rattle.tac_cert.specs.declared.cert.Step.{Step}
use Rattle.cert_read.specs.declared.nest.Split.{Split}
use Rattle.cert_read.specs.Nesting.{HasNoSplit, ClosesOver, Nests, AreOpen}

pub open_push : (left : ℕ) (ss : List Split) (s : Split) (room : ℕ) → AreOpen left ss (suc room) → All (Nests room) s.cases → AreOpen left (ss ++ s ∷ []) room
unfolding AreOpen
open_push left [] s room all cases = subst (λ n. AreOpen n (s ∷ []) room) (sym all) (cases, refl)
open_push zero (t ∷ ss) s room all cases = absurd all
open_push (suc left) (t ∷ ss) s room all cases = (all.0, open_push left ss s room all.1 cases)

pub open_pop : (left : ℕ) (ss : List Split) (s : Split) (room : ℕ) → AreOpen left (ss ++ s ∷ []) room → AreOpen left ss (suc room) × All (Nests room) s.cases
unfolding AreOpen
open_pop zero [] s room all = absurd all
open_pop (suc left) [] s room all = let e : suc left ≡ suc room = omega (arith, all.1) in (e, subst (λ n. All (Nests n) s.cases) all.1 all.0)
open_pop zero (t ∷ ss) s room all = absurd all
open_pop (suc left) (t ∷ ss) s room all = let below = open_pop left ss s room all.1 in ((all.0, below.0), below.1)

pub open_count : (left : ℕ) (ss : List Split) (room : ℕ) → AreOpen left ss room → left ≡ length ss + room
unfolding AreOpen
open_count left [] room all = omega (arith, all)
open_count zero (t ∷ ss) room all = absurd all
open_count (suc left) (t ∷ ss) room all = omega (arith, open_count left ss room all.1)

-- where none is open all may still stand
pub none_open : (left : ℕ) (ss : List Split) (room : ℕ) (p : Proof) → length ss ≡ 0 → AreOpen left ss room → Nests room p → Nests left p
unfolding AreOpen
none_open left [] room p none all nests = subst (λ n. Nests n p) (sym all) nests
none_open left (t ∷ ss) room p none all nests = absurd (omega (arith, none))

-- a proof by `false` nests nothing
pub false_nests : (room item : ℕ) (steps : List Step) → Nests room (record { steps = steps; close = close.False item })
unfolding Nests
false_nests zero item steps = subst HasNoSplit (sym (close.outs-False item)) tt
false_nests (suc room) item steps = subst (ClosesOver (Nests room)) (sym (close.outs-False item)) tt

-- a split nests its cases
pub split_nests : (room item : ℕ) (cases : List Proof) (steps : List Step) → All (Nests room) cases → Nests (suc room) (record { steps = steps; close = close.Split item cases })
unfolding Nests
split_nests room item cases steps all = subst (ClosesOver (Nests room)) (sym (close.outs-Split item cases)) all

-- none is open yet
pub none_yet : (left : ℕ) (ss : List Split) → ss ≡ [] → AreOpen left ss left
unfolding AreOpen
none_yet left ss none = subst (λ (open_splits : List Split). AreOpen left open_splits left) (sym none) refl

-- there is room for one more
pub some_room : (room : ℕ) → 0 < room → (r : ℕ) × (room ≡ suc r)
some_room zero none = absurd (omega (arith, none))
some_room (suc r) some = (r, refl)
