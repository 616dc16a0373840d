-- The terms of a closed proof are there.
use Rattle.std.proofs.Common.{ℕ, zero, suc, ◌≤◌, List, [], ◌∷◌, ◌++◌, map, All, Option, Some, None, sym, subst, arith}
use Rattle.std.proofs.lemmas.List.Elements.{All-head, All-tail}
use Rattle.qterm.specs.Tree.{Tree, Trees, more}
use Rattle.tac_cert.specs.Items.{Item}
use Rattle.tac_cert.specs.declared.cert.Step.{Step}
use Rattle.tac_cert.specs.declared.cert.Proof.{Proof}
use Rattle.tac_cert.specs.declared.cert.Cert.{Cert}
use Rattle.tac_cert.specs.declared.cert.Close.{out-Close}
use Rattle.tac_cert.specs.declared.cert.Close.TheOpen.{Close-F}
use Rattle.tac_cert.specs.declared.cert.Close.TheVariants as close
use Rattle.tac_cert.specs.Accepts.{Closing, EachFits, StepsFit, CloseFits, ProofFits, CertFits, most_splits}
use Rattle.proof_conv.specs.declared.plan.Plan.{Plan}
use Rattle.proof_conv.specs.Putting.{Puts, puts_open, puts_split, PutEach, put_none, put_more, prepend, divide}
use Rattle.proof_conv.specs.Leaves.{Leaves, leaves_open, leaves_split, LeaveEach, leave_more}
use Rattle.proof_conv.specs.Conv.{IsClosed, LeavesOf}
use Rattle.proof_conv.proofs.Fuel.{fits_before}
use Rattle.proof_conv.proofs.ClosingLaw.{open_split, same_cases}

-- ---- fewer levels
each_fits : {X : Type 0} (P Q : X → Type 0) (xs : List X) → ((x : X) → P x → Q x) → EachFits P xs → EachFits Q xs
each_fits P Q [] f h = tt
each_fits P Q (x ∷ xs) f h = (f x h.0, each_fits P Q xs f h.1)

close_fits : (P Q : Proof → Type 0) (c : Closing) → ((q : Proof) → P q → Q q) → CloseFits P c → CloseFits Q c
close_fits P Q (Close-F.False i) f h = tt
close_fits P Q (Close-F.Split i cs) f h = each_fits P Q cs f h

fits_less : (ts : List Tree) (n m : ℕ) (p : Proof) → n ≤ m → ProofFits ts m p → ProofFits ts n p
fits_less ts zero zero p l h = h
fits_less ts zero (suc m) p l h = h.0
fits_less ts (suc n) zero p l h = absurd (omega (arith, l))
fits_less ts (suc n) (suc m) p l h = (h.0, close_fits (ProofFits ts m) (ProofFits ts n) (out-Close p.close) (λ q k. fits_less ts n m q (omega (arith, l)) k) h.1)

-- ---- steps before a proof, and a split
prepend_fits : (ts : List Tree) (n : ℕ) (ss : List Step) (q : Proof) → StepsFit ts ss → ProofFits ts n q → ProofFits ts n (prepend ss q)
prepend_fits ts zero ss q a h = fits_before ts ss q.steps a h
prepend_fits ts (suc n) ss q a h = (fits_before ts ss q.steps a h.0, h.1)

divide_fits : (ts : List Tree) (n : ℕ) (ss : List Step) (i : ℕ) (rs : List Proof) → StepsFit ts ss → EachFits (ProofFits ts n) rs → ProofFits ts (suc n) (divide ss i rs)
divide_fits ts n ss i rs a h = (a, subst (CloseFits (ProofFits ts n)) (sym (close.outs-Split i rs)) h)

-- ---- proofs in the places of a plan
first_fit : {X : Type 0} (P : X → Type 0) (xs ys : List X) → EachFits P (xs ++ ys) → EachFits P xs × EachFits P ys
first_fit P [] ys h = (tt, h)
first_fit P (x ∷ xs) ys h = let k = first_fit P xs ys h.1 in ((h.0, k.0), k.1)

mutual
  put_fits : {ts : List Tree} {m : ℕ} {p : Plan} {qs : List Proof} {r : Proof} {items : List Item} {outs : List (List Item)} → Puts prepend divide p qs r → Leaves ts p items outs → EachFits (ProofFits ts m) qs → (n : ℕ) → n ≤ m → ProofFits ts n r
  put_fits {ts = ts} {m = m} {p = p} (puts_open {q = q} at is) (leaves_open after steps at2) h n l =
      subst (ProofFits ts n) (sym is) (prepend_fits ts n p.steps q steps.there (fits_less ts n m q l h.0))
  put_fits {p = p} (puts_open at is) (leaves_split after i cs t us steps at2 item each) h n l = absurd (open_split p i cs at at2)
  put_fits {p = p} (puts_split i cs rs at each is) (leaves_open after steps at2) h n l = absurd (open_split p i cs at2 at)
  put_fits {ts = ts} {p = p} (puts_split i cs rs at each is) (leaves_split after j ds t us steps at2 item leave) h zero l = subst (ProofFits ts zero) (sym is) steps.there
  put_fits {ts = ts} {p = p} {outs = outs} (puts_split i cs rs at each is) (leaves_split after j ds t us steps at2 item leave) h (suc n) l =
      let same = same_cases p j i ds cs at2 at in
      let k = subst (λ es. LeaveEach ts es (more t us) after outs) same.1 leave in
      subst (ProofFits ts (suc n)) (sym is) (divide_fits ts n p.steps i rs steps.there (each_put_fits each k h n (omega (arith, l))))

  each_put_fits : {ts : List Tree} {m : ℕ} {cs : List Plan} {qs rs : List Proof} {us : Trees} {items : List Item} {outs : List (List Item)} → PutEach prepend divide cs qs rs → LeaveEach ts cs us items outs → EachFits (ProofFits ts m) qs → (n : ℕ) → n ≤ m → EachFits (ProofFits ts n) rs
  each_put_fits put_none leave h n l = tt
  each_put_fits {ts = ts} {m = m} (put_more qs others one rest all) (leave_more outs more_outs leave leaves whole) h n l =
      let k = first_fit (ProofFits ts m) qs others (subst (EachFits (ProofFits ts m)) all h) in
      (put_fits one leave k.0 n l, each_put_fits rest leaves k.1 n l)

-- ---- a converter
roots_fit : (ts : List Tree) (certs : List Cert) → All (CertFits ts) certs → EachFits (ProofFits ts most_splits) (map (λ c. c.root) certs)
roots_fit ts [] h = tt
roots_fit ts (c ∷ cs) h = (All-head (CertFits ts) c cs h, roots_fit ts cs (All-tail (CertFits ts) c cs h))

pub closed_fits : (o : Option Plan) (certs : List Cert) (r : Proof) → IsClosed o certs r → (ts : List Tree) (items : List Item) (outs : List (List Item)) → LeavesOf ts o items outs → All (CertFits ts) certs → ProofFits ts most_splits r
closed_fits None certs r is ts items outs l h = absurd is
closed_fits (Some p) certs r is ts items outs l h = put_fits is l (roots_fit ts certs h) most_splits (omega arith)
