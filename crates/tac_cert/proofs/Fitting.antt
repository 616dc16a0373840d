-- Tests of each of a list, one by one.
use Rattle.std.proofs.Common.{◌≡◌, ℕ, zero, suc, ◌+◌, ◌-◌, ◌<◌, ◌≤◌, ◌↔◌, List, [], ◌∷◌, length, get_or, drop, sym, subst, refl, arith}
use Rattle.qterm.specs.Tree.{Tree}
use Rattle.tac_cert.specs.declared.cert.Proof.{Proof, out-Proof}
use Rattle.tac_cert.specs.declared.cert.Close.{out-Close}
use Rattle.tac_cert.specs.declared.cert.Close.TheOpen.{Close-F}
use Rattle.tac_cert.specs.Accepts.{EachFits, StepsFit, CloseFits, ProofFits}

drop_next : {X : Type 0} (xs : List X) (k : ℕ) (d : X) → k < length xs → drop k xs ≡ get_or xs k d ∷ drop (k + 1) xs
drop_next {X = X} xs k d l = let e : k + 1 ≡ suc k = omega arith in rw e (by xs k l)
  where
    by : (xs : List X) (k : ℕ) → k < length xs → drop k xs ≡ get_or xs k d ∷ drop (suc k) xs
    by [] k l = absurd (omega (arith, l))
    by (x ∷ xs) zero l = refl
    by (x ∷ xs) (suc k) l = by xs k (omega (arith, l))

-- the whole list has P exactly where the rest has, as those before it have P
abbrev pub Rests : {X : Type 0} → (X → Type 0) → List X → ℕ → Type 0
Rests P xs k = EachFits P (drop k xs) ↔ EachFits P xs

pub rests_first : {X : Type 0} (P : X → Type 0) (xs : List X) → Rests P xs 0
rests_first P [] = ((λ h. h), (λ h. h))
rests_first P (x ∷ xs) = ((λ h. h), (λ h. h))

pub rests_next : {X : Type 0} (P : X → Type 0) (xs : List X) (k : ℕ) (d : X) → k < length xs → P (get_or xs k d) → Rests P xs k → Rests P xs (k + 1)
rests_next P xs k d l p r =
    let e = drop_next xs k d l in
    ((λ h. r.0 (subst (EachFits P) (sym e) (p, h))), (λ h. (subst (EachFits P) e (r.1 h)).1))

pub rests_last : {X : Type 0} (P : X → Type 0) (xs : List X) (k : ℕ) → length xs ≤ k → Rests P xs k → EachFits P xs
rests_last {X = X} P xs k l r = r.0 (by xs k l)
  where
    by : (xs : List X) (k : ℕ) → length xs ≤ k → EachFits P (drop k xs)
    by [] zero l = tt
    by [] (suc k) l = tt
    by (x ∷ xs) zero l = absurd (omega (arith, l))
    by (x ∷ xs) (suc k) l = by xs k (omega (arith, l))

pub rests_fail : {X : Type 0} (P : X → Type 0) (xs : List X) (k : ℕ) (d : X) → k < length xs → (P (get_or xs k d) → ⊥) → Rests P xs k → EachFits P xs → ⊥
rests_fail P xs k d l n r h = n ((subst (EachFits P) (drop_next xs k d l) (r.1 h)).0)

-- a proof that ends with a split, where one more split may stand
pub split_fits : (ts : List Tree) (left i : ℕ) (p : Proof) (cases : List Proof) → 0 < left → StepsFit ts (out-Proof p).steps → out-Close (out-Proof p).close ≡ Close-F.Split i cases
    → EachFits (ProofFits ts (left - 1)) cases ↔ ProofFits ts left p
split_fits ts zero i p cases l h e = absurd (omega (arith, l))
split_fits ts (suc left) i p cases l h e =
    let k : suc left - 1 ≡ left = omega arith in
    ((λ f. (h, subst (CloseFits (ProofFits ts left)) (sym e) (subst (λ m. EachFits (ProofFits ts m) cases) k f))), (λ f. subst (λ m. EachFits (ProofFits ts m) cases) (sym k) (subst (CloseFits (ProofFits ts left)) e f.1)))
