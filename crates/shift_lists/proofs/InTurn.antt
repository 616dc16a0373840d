-- Names that are shifted one after the other.
use Rattle.std.proofs.Common.{◌≡◌, Bool as Truth, true, false, cond, unwrap_or, Some, List, [], ◌∷◌, refl, sym, ap, ◌∙◌}
use Rattle.std.specs.Map.{lookup}
use Rattle.qterm.specs.declared.name.Name.{Name}
use Rattle.qterm.specs.Tree.{Tree, Trees, True, False, Var, Num, Sum, Scale, Le, Eq, Iff, Not, And, Or, Ite, none, more}
use Rattle.qeval.specs.Value.{same_name}
use Rattle.qsubst.specs.Substitution.{image, replaced, replaced_all, replaced_each}
use Rattle.shift_lists.specs.declared.shifting.Shift.{Shift}
use Rattle.shift_lists.specs.Shifts.{shifted, images_of, shift_one}

-- where the fresh name of the first isn't replaced by the others, all at once are the first and then the others
module _ (s : Shift) (ss : List Shift) (apart : image (images_of ss) s.fresh ≡ Var s.fresh) where
  fixed : replaced (images_of ss) (shifted s) ≡ shifted s
  fixed = ap (λ v. Sum (more v (more (Num s.by) none))) apart

  at_name : (n : Name) → image (images_of (s ∷ ss)) n ≡ replaced (images_of ss) (image (shift_one s) n)
  at_name n = by (same_name n s.name) refl
    where
      all : (b : Truth) → same_name n s.name ≡ b → image (images_of (s ∷ ss)) n ≡ unwrap_or (cond b (Some (shifted s)) (lookup (same_name n) (images_of ss))) (Var n)
      all b q = ap (λ k. unwrap_or (cond k (Some (shifted s)) (lookup (same_name n) (images_of ss))) (Var n)) q

      one : (b : Truth) → same_name n s.name ≡ b → image (shift_one s) n ≡ unwrap_or (cond b (Some (shifted s)) (lookup (same_name n) [])) (Var n)
      one b q = ap (λ k. unwrap_or (cond k (Some (shifted s)) (lookup (same_name n) [])) (Var n)) q

      by : (b : Truth) → same_name n s.name ≡ b → image (images_of (s ∷ ss)) n ≡ replaced (images_of ss) (image (shift_one s) n)
      by true q = all true q ∙ sym fixed ∙ sym (ap (replaced (images_of ss)) (one true q))
      by false q = all false q ∙ sym (ap (replaced (images_of ss)) (one false q))

  mutual
    pub in_turn : (t : Tree) → replaced (images_of (s ∷ ss)) t ≡ replaced (images_of ss) (replaced (shift_one s) t)
    in_turn True = refl
    in_turn False = refl
    in_turn (Var n) = at_name n
    in_turn (Num z) = refl
    in_turn (Sum ts) = ap Sum (all_in_turn ts)
    in_turn (Scale z a) = ap (Scale z) (in_turn a)
    in_turn (Le a b) = let e = in_turn a in let f = in_turn b in λ i. Le (e i) (f i)
    in_turn (Eq a b) = let e = in_turn a in let f = in_turn b in λ i. Eq (e i) (f i)
    in_turn (Iff a b) = let e = in_turn a in let f = in_turn b in λ i. Iff (e i) (f i)
    in_turn (Not a) = ap Not (in_turn a)
    in_turn (And ts) = ap And (all_in_turn ts)
    in_turn (Or ts) = ap Or (all_in_turn ts)
    in_turn (Ite c a b) = let e = in_turn c in let f = in_turn a in let g = in_turn b in λ i. Ite (e i) (f i) (g i)

    pub all_in_turn : (ts : Trees) → replaced_all (images_of (s ∷ ss)) ts ≡ replaced_all (images_of ss) (replaced_all (shift_one s) ts)
    all_in_turn none = refl
    all_in_turn (more t ts) = let e = in_turn t in let f = all_in_turn ts in λ i. more (e i) (f i)

  pub each_in_turn : (ts : List Tree) → replaced_each (images_of (s ∷ ss)) ts ≡ replaced_each (images_of ss) (replaced_each (shift_one s) ts)
  each_in_turn [] = refl
  each_in_turn (t ∷ ts) = let e = in_turn t in let f = each_in_turn ts in λ i. e i ∷ f i
