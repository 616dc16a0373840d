-- How deep the places of a filled proof stand.
use Rattle.std.proofs.Common.{◌≡◌, ℕ, suc, ◌+◌, ◌≤◌, List, [], ◌∷◌, ◌++◌, length, map, Option, Some, None, refl, sym, ap, subst, ◌∙◌, arith, append-nil, append_assoc}
use Rattle.tac_cert.specs.declared.cert.Step.{Step}
use Rattle.proof_conv.specs.declared.plan.Plan.{Plan}
use Rattle.proof_conv.specs.Plan.{depths, joined}
use Rattle.proof_conv.specs.Putting.{Puts, puts_open, puts_split, PutEach, put_none, put_more, before, cases}
use Rattle.proof_conv.specs.Conv.{Converter, open_plan, split_plan, all_plans, with_plan, IsThen}
use Rattle.proof_conv.specs.Leads.{AtMostEach, NestAtMost, NestEach, raised, deepened, for_each}
use Rattle.proof_conv.proofs.Levels.{depths-Open, depths-Split, depths-same}
use Rattle.proof_conv.proofs.ClosingLaw.{put_count}

-- ---- one place, and a split
pub open_nests : (ss : List Step) (o : Option Plan) → o ≡ Some (open_plan ss) → NestAtMost o (0 ∷ [])
open_nests ss o is = subst (λ x. NestAtMost x (0 ∷ [])) (sym is) (subst (λ ds. AtMostEach ds (0 ∷ [])) (sym (depths-Open (open_plan ss) refl)) (omega arith, tt))

cases_nest : (sss : List (List Step)) → AtMostEach (map suc (joined (map depths (map open_plan sss)))) (for_each 1 sss)
cases_nest [] = tt
cases_nest (ss ∷ sss) = subst (λ ds. AtMostEach (map suc (ds ++ joined (map depths (map open_plan sss)))) (1 ∷ for_each 1 sss)) (sym (depths-Open (open_plan ss) refl)) (omega arith, cases_nest sss)

pub split_nests : (n : ℕ) (sss : List (List Step)) (o : Option Plan) → o ≡ Some (split_plan n sss) → NestAtMost o (for_each 1 sss)
split_nests n sss o is = subst (λ x. NestAtMost x (for_each 1 sss)) (sym is) (subst (λ ds. AtMostEach ds (for_each 1 sss)) (sym (depths-Split (split_plan n sss) n (map open_plan sss) refl)) (cases_nest sss))

-- ---- numbers added to lists
raised_none : (ms : List ℕ) → raised 0 ms ≡ ms
raised_none [] = refl
raised_none (m ∷ ms) = let e : 0 + m ≡ m = omega arith in λ i. e i ∷ raised_none ms i

map_both : {X Y : Type 0} (f : X → Y) (xs ys : List X) → map f (xs ++ ys) ≡ map f xs ++ map f ys
map_both f [] ys = refl
map_both f (x ∷ xs) ys = ap (λ u. f x ∷ u) (map_both f xs ys)

raised_suc : (n : ℕ) (ms : List ℕ) → map suc (raised n ms) ≡ raised (suc n) ms
raised_suc n [] = refl
raised_suc n (m ∷ ms) = let e : suc (n + m) ≡ suc n + m = omega arith in λ i. e i ∷ raised_suc n ms i

deepened_suc : (ns : List ℕ) (mss : List (List ℕ)) → map suc (deepened ns mss) ≡ deepened (map suc ns) mss
deepened_suc [] mss = refl
deepened_suc (n ∷ ns) [] = refl
deepened_suc (n ∷ ns) (ms ∷ mss) = map_both suc (raised n ms) (deepened ns mss) ∙ ap (λ u. u ++ map suc (deepened ns mss)) (raised_suc n ms) ∙ ap (λ u. raised (suc n) ms ++ u) (deepened_suc ns mss)

deepened_both : (ns ks : List ℕ) (mss lss : List (List ℕ)) → length ns ≡ length mss → deepened (ns ++ ks) (mss ++ lss) ≡ deepened ns mss ++ deepened ks lss
deepened_both [] ks [] lss e = refl
deepened_both (n ∷ ns) ks (ms ∷ mss) lss e = ap (λ u. raised n ms ++ u) (deepened_both ns ks mss lss (omega (arith, e))) ∙ sym (append_assoc (raised n ms) (deepened ns mss) (deepened ks lss))
deepened_both [] ks (ms ∷ mss) lss e = absurd (omega (arith, e))
deepened_both (n ∷ ns) ks [] lss e = absurd (omega (arith, e))

length_mapped : {X Y : Type 0} (f : X → Y) (xs : List X) → length (map f xs) ≡ length xs
length_mapped f [] = refl
length_mapped f (x ∷ xs) = let h = length_mapped f xs in omega (arith, h)

-- ---- the depths of a filled proof
mutual
  put_depths : {p : Plan} {qs : List Plan} {r : Plan} → Puts before cases p qs r → depths r ≡ deepened (depths p) (map depths qs)
  put_depths {p = p} {r = r} (puts_open {q = q} at is) =
      depths-same r q (ap (λ (x : Plan). x.end) is) ∙ sym (raised_none (depths q)) ∙ sym (append-nil (raised 0 (depths q))) ∙ ap (λ ds. deepened ds (depths q ∷ [])) (sym (depths-Open p at))
  put_depths {p = p} {qs = qs} {r = r} (puts_split i cs rs at each is) =
      depths-Split r i rs (ap (λ (x : Plan). x.end) is) ∙ ap (map suc) (each_depths each) ∙ deepened_suc (joined (map depths cs)) (map depths qs) ∙ ap (λ ds. deepened ds (map depths qs)) (sym (depths-Split p i cs at))

  each_depths : {cs qs rs : List Plan} → PutEach before cases cs qs rs → joined (map depths rs) ≡ deepened (joined (map depths cs)) (map depths qs)
  each_depths put_none = refl
  each_depths {cs = c ∷ cs} (put_more {r = r} {rs = rs} qs others one rest all) =
      ap (λ u. u ++ joined (map depths rs)) (put_depths one) ∙ ap (λ u. deepened (depths c) (map depths qs) ++ u) (each_depths rest)
      ∙ sym (deepened_both (depths c) (joined (map depths cs)) (map depths qs) (map depths others) (sym (put_count one) ∙ sym (length_mapped depths qs)))
      ∙ ap (deepened (depths c ++ joined (map depths cs))) (sym (map_both depths qs others)) ∙ ap (λ u. deepened (depths c ++ joined (map depths cs)) (map depths u)) (sym all)

-- ---- at most
most_raised : (d n : ℕ) (ms ns : List ℕ) → d ≤ n → AtMostEach ms ns → AtMostEach (raised d ms) (raised n ns)
most_raised d n [] [] l h = tt
most_raised d n (m ∷ ms) (k ∷ ns) l h = let a = h.0 in (omega (arith, l, a), most_raised d n ms ns l h.1)
most_raised d n [] (k ∷ ns) l h = absurd h
most_raised d n (m ∷ ms) [] l h = absurd h

most_both : (ks ls ms ns : List ℕ) → AtMostEach ks ls → AtMostEach ms ns → AtMostEach (ks ++ ms) (ls ++ ns)
most_both [] [] ms ns h k = k
most_both (d ∷ ks) (n ∷ ls) ms ns h k = (h.0, most_both ks ls ms ns h.1 k)
most_both [] (n ∷ ls) ms ns h k = absurd h
most_both (d ∷ ks) [] ms ns h k = absurd h

abbrev MostEach : List (List ℕ) → List (List ℕ) → Type 0
MostEach [] [] = Unit {0}
MostEach (ms ∷ mss) (ns ∷ nss) = AtMostEach ms ns × MostEach mss nss
MostEach [] (ns ∷ nss) = ⊥
MostEach (ms ∷ mss) [] = ⊥

most_deepened : (ds ns : List ℕ) (mss nss : List (List ℕ)) → AtMostEach ds ns → MostEach mss nss → AtMostEach (deepened ds mss) (deepened ns nss)
most_deepened [] [] mss nss h k = tt
most_deepened (d ∷ ds) (n ∷ ns) [] [] h k = tt
most_deepened (d ∷ ds) (n ∷ ns) (ms ∷ mss) (ks ∷ nss) h k = most_both (raised d ms) (raised n ks) (deepened ds mss) (deepened ns nss) (most_raised d n ms ks h.0 k.0) (most_deepened ds ns mss nss h.1 k.1)
most_deepened (d ∷ ds) (n ∷ ns) [] (ks ∷ nss) h k = absurd k
most_deepened (d ∷ ds) (n ∷ ns) (ms ∷ mss) [] h k = absurd k
most_deepened [] (n ∷ ns) mss nss h k = absurd h
most_deepened (d ∷ ds) [] mss nss h k = absurd h

each_most : (cs : List Converter) (qs : List Plan) (nss : List (List ℕ)) → all_plans cs ≡ Some qs → NestEach cs nss → MostEach (map depths qs) nss
each_most [] qs [] e h = let is : [] ≡ qs = cc in subst (λ x. MostEach (map depths x) []) is tt
each_most (c ∷ cs) qs (ns ∷ nss) e h = by (λ ps a. each_most cs ps nss a h.1) c.0 (all_plans cs) refl e h.0
  where
    by : ((ps : List Plan) → all_plans cs ≡ Some ps → MostEach (map depths ps) nss) → (p : Option Plan) (o : Option (List Plan)) → all_plans cs ≡ o → with_plan p o ≡ Some qs → NestAtMost p ns → MostEach (map depths qs) (ns ∷ nss)
    by below None o a e l = cc
    by below (Some p) None a e l = cc
    by below (Some p) (Some ps) a e l = let is : (p ∷ ps) ≡ qs = cc in subst (λ x. MostEach (map depths x) (ns ∷ nss)) is (l, below ps a)
each_most [] qs (ns ∷ nss) e h = absurd h
each_most (c ∷ cs) qs [] e h = absurd h

pub then_nests : (o : Option Plan) (cs : List Converter) (r : Option Plan) → IsThen o (all_plans cs) r → (ns : List ℕ) (nss : List (List ℕ)) → NestAtMost o ns → NestEach cs nss → NestAtMost r (deepened ns nss)
then_nests o cs None is ns nss h each = tt
then_nests None cs (Some r) is ns nss h each = cc
then_nests (Some p) cs (Some r) is ns nss h each = by (all_plans cs) refl is
  where
    by : (qs : Option (List Plan)) → all_plans cs ≡ qs → IsThen (Some p) qs (Some r) → NestAtMost (Some r) (deepened ns nss)
    by None e is = cc
    by (Some qs) e is = subst (λ ds. AtMostEach ds (deepened ns nss)) (sym (put_depths is)) (most_deepened (depths p) ns (map depths qs) nss h (each_most cs qs nss e each))
