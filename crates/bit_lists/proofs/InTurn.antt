-- Names that are split one after the other.
use Rattle.std.proofs.Common.{◌≡◌, ℕ, pos, ◌*◌, inl, inr, Bool as Truth, true, false, cond, unwrap_or, Some, List, [], ◌∷◌, refl, sym, ap, ◌∙◌}
use Rattle.std.specs.Map.{lookup}
use Rattle.qterm.specs.declared.name.Name.{Name}
use Rattle.qterm.specs.Tree.{Tree, Trees, True, False, Var, Num, Sum, Scale, Le, Eq, Iff, Not, And, Or, Ite, none, more}
use Rattle.qterm.specs.Kids.{row}
use Rattle.qeval.specs.Value.{same_name}
use Rattle.qsubst.specs.Substitution.{Substitution, image, replaced, replaced_all, replaced_each}
use Rattle.qsubst.proofs.Members.{Member}
use Rattle.bit_lists.specs.declared.splits.Split.{Split}
use Rattle.bit_lists.specs.Row.{weighted, bit_sum, images_of, split_one}

-- a sum of names that aren't replaced stays
sum_stays : (s : Substitution) (w : ℕ) (bs : List Name) → ((b : Name) → Member b bs → image s b ≡ Var b) → replaced_all s (row (weighted w bs)) ≡ row (weighted w bs)
sum_stays s w [] h = refl
sum_stays s w (b ∷ bs) h =
    let e = h b (inl refl) in
    let f = sum_stays s (w * 2) bs (λ c m. h c (inr m)) in
    λ i. more (Scale (pos w) (e i)) (f i)

-- where the bits of the first aren't replaced by the others, all at once are the first and then the others
module _ (s : Split) (ss : List Split) (apart : (b : Name) → Member b s.bits → image (images_of ss) b ≡ Var b) where
  fixed : replaced (images_of ss) (bit_sum s.bits) ≡ bit_sum s.bits
  fixed = ap Sum (sum_stays (images_of ss) 1 s.bits apart)

  at_name : (n : Name) → image (images_of (s ∷ ss)) n ≡ replaced (images_of ss) (image (split_one s) n)
  at_name n = by (same_name n s.name) refl
    where
      all : (b : Truth) → same_name n s.name ≡ b → image (images_of (s ∷ ss)) n ≡ unwrap_or (cond b (Some (bit_sum s.bits)) (lookup (same_name n) (images_of ss))) (Var n)
      all b q = ap (λ k. unwrap_or (cond k (Some (bit_sum s.bits)) (lookup (same_name n) (images_of ss))) (Var n)) q

      one : (b : Truth) → same_name n s.name ≡ b → image (split_one s) n ≡ unwrap_or (cond b (Some (bit_sum s.bits)) (lookup (same_name n) [])) (Var n)
      one b q = ap (λ k. unwrap_or (cond k (Some (bit_sum s.bits)) (lookup (same_name n) [])) (Var n)) q

      by : (b : Truth) → same_name n s.name ≡ b → image (images_of (s ∷ ss)) n ≡ replaced (images_of ss) (image (split_one s) n)
      by true q = all true q ∙ sym fixed ∙ sym (ap (replaced (images_of ss)) (one true q))
      by false q = all false q ∙ sym (ap (replaced (images_of ss)) (one false q))

  mutual
    pub in_turn : (t : Tree) → replaced (images_of (s ∷ ss)) t ≡ replaced (images_of ss) (replaced (split_one s) t)
    in_turn True = refl
    in_turn False = refl
    in_turn (Var n) = at_name n
    in_turn (Num z) = refl
    in_turn (Sum ts) = ap Sum (all_in_turn ts)
    in_turn (Scale z a) = ap (Scale z) (in_turn a)
    in_turn (Le a b) = let e = in_turn a in let f = in_turn b in λ i. Le (e i) (f i)
    in_turn (Eq a b) = let e = in_turn a in let f = in_turn b in λ i. Eq (e i) (f i)
    in_turn (Iff a b) = let e = in_turn a in let f = in_turn b in λ i. Iff (e i) (f i)
    in_turn (Not a) = ap Not (in_turn a)
    in_turn (And ts) = ap And (all_in_turn ts)
    in_turn (Or ts) = ap Or (all_in_turn ts)
    in_turn (Ite c a b) = let e = in_turn c in let f = in_turn a in let g = in_turn b in λ i. Ite (e i) (f i) (g i)

    pub all_in_turn : (ts : Trees) → replaced_all (images_of (s ∷ ss)) ts ≡ replaced_all (images_of ss) (replaced_all (split_one s) ts)
    all_in_turn none = refl
    all_in_turn (more t ts) = let e = in_turn t in let f = all_in_turn ts in λ i. more (e i) (f i)

  pub each_in_turn : (ts : List Tree) → replaced_each (images_of (s ∷ ss)) ts ≡ replaced_each (images_of ss) (replaced_each (split_one s) ts)
  each_in_turn [] = refl
  each_in_turn (t ∷ ts) = let e = in_turn t in let f = each_in_turn ts in λ i. e i ∷ f i
