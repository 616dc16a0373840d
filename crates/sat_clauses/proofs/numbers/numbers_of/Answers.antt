use Rattle.std.proofs.Common.{◌≡◌, ◌<◌, ◌++◌, ◌∷◌, [], false, if◌then◌else◌, length, get_or, take, sym, ◌∙◌, ap, arith, nat_eq}
use Rattle.std.proofs.lemmas.List.{take_more}
use Rattle.std.specs.List.{list_any}
use Rattle.sat_clauses.proofs.Places.{none_before}
use Rattle.sat_clauses.proofs.numbers.numbers_of.Goals as goal

pub loop-id-preserved : goal.loop-id-preserved
loop-id-preserved c =
    let i = c.loop-id.id-index in
    let ks = c.args.vars.now in
    let k = c.id-item.result in
    let within : i < length ks = grind arith in
    let here : get_or ks i k ≡ k = grind arith in
    let new : list_any (nat_eq k) (take i ks) ≡ false = none_before ks i k c.requires within here in
    let added : c.insert.new.self.keys ≡ (if list_any (nat_eq k) c.loop-id.numbers.keys then c.loop-id.numbers.keys else c.loop-id.numbers.keys ++ k ∷ []) = c.in_ok-insert.ensures.keys in
    let added' : c.insert.new.self.keys ≡ (if list_any (nat_eq k) (take i ks) then take i ks else take i ks ++ k ∷ []) = rw c.loop-id.invariant at added in
    added' ∙ ap (λ b. if b then take i ks else take i ks ++ k ∷ []) new ∙ ap (λ x. take i ks ++ x ∷ []) (sym here) ∙ sym (take_more ks i k within)
