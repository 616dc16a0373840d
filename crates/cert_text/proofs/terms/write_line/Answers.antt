use Rattle.std.proofs.Common.{◌≡◌, ◌++◌, ◌∷◌, [], ℕ, List, All, true, false, is_some, map, codes, ap, sym, subst, ◌∙◌, append-nil, rules}
use Rattle.std.proofs.lemmas.Result.{on_ok_weaker}
use Rattle.std.proofs.lemmas.List.Elements.{All-push}
use Rattle.qterm.specs.Store.{tree_at, trees_of, Has}
use Rattle.qterm.specs.Kids.{kids, listed}
use Rattle.qterm.proofs.KidsLaws.{trees_of-append}
use Rattle.cert_text.specs.TermLines.{term_line, term_lines, head_texts, reference}
use Rattle.cert_text.proofs.Known.{IsClosed, passed_one, added_one, none_more, closed_more}
use Rattle.cert_text.proofs.Growing.{more_words, whole_line}
use Rattle.cert_text.proofs.Places.{line_any}
use Rattle.cert_text.proofs.terms.write_line.Goals as goal

pub returns-then-is_some-clause-text : goal.returns-then-is_some-clause-text
returns-then-is_some-clause-text c =
    let known = trees_of c.args.store.now c.args.lines.now in
    let t = tree_at c.args.store.now c.args.id in
    let found : is_some c.place.result ≡ true = search rules in
    let has = line_any c.args.store.now c.is_distinct.ensures c.args.id c.requires.has c.args.lines.now c.requires.lines.has ∙ sym c.place.ensures.found ∙ found in
    sym (append-nil c.args.text.now.items) ∙ ap (λ (bs : List ℕ). c.args.text.now.items ++ bs) (sym ((passed_one known t [] has).0 ∙ (none_more known).0))

pub returns-then-is_some-clause-known : goal.returns-then-is_some-clause-known
returns-then-is_some-clause-known c =
    let known = trees_of c.args.store.now c.args.lines.now in
    let t = tree_at c.args.store.now c.args.id in
    let found : is_some c.place.result ≡ true = search rules in
    let has = line_any c.args.store.now c.is_distinct.ensures c.args.id c.requires.has c.args.lines.now c.requires.lines.has ∙ sym c.place.ensures.found ∙ found in
    sym ((passed_one known t [] has).1 ∙ (none_more known).1)

pub add-requires : goal.add-requires
add-requires c =
    let found : is_some c.place.result ≡ false = search rules in
    record { absent = sym c.place.ensures.found ∙ found }

pub returns-clause-text : goal.returns-clause-text
unfolding term_line
returns-clause-text c =
    let known = trees_of c.args.store.now c.args.lines.now in
    let t = tree_at c.args.store.now c.args.id in
    let found : is_some c.place.result ≡ false = search rules in
    let has = line_any c.args.store.now c.is_distinct.ensures c.args.id c.requires.has c.args.lines.now c.requires.lines.has ∙ sym c.place.ensures.found ∙ found in
    let texts = map (reference known) (listed (kids t)) in
    let words = more_words c.put.new.text.items c.push_head.new.text.items c.push_children.new.text.items (head_texts t) texts c.in_ok-push_head.ensures c.in_ok-push_children.ensures in
    let whole = whole_line c.args.text.now.items c.put.new.text.items c.push_children.new.text.items c.put-2.new.text.items (codes ".") (head_texts t ++ texts) c.in_ok-put.ensures words c.in_ok-put-2.ensures in
    let is : term_line known t ≡ term_lines known (t ∷ []) = sym ((added_one known t [] has).0 ∙ ap (λ (bs : List ℕ). term_line known t ++ bs) (none_more (known ++ t ∷ [])).0 ∙ append-nil (term_line known t)) in
    on_ok_weaker c.add.result (λ added. whole ∙ ap (λ (bs : List ℕ). c.args.text.now.items ++ bs) is) c.add.ensures

pub returns-clause-known : goal.returns-clause-known
returns-clause-known c =
    let known = trees_of c.args.store.now c.args.lines.now in
    let t = tree_at c.args.store.now c.args.id in
    let found : is_some c.place.result ≡ false = search rules in
    let has = line_any c.args.store.now c.is_distinct.ensures c.args.id c.requires.has c.args.lines.now c.requires.lines.has ∙ sym c.place.ensures.found ∙ found in
    on_ok_weaker c.add.result
    (λ added. ap (trees_of c.args.store.now) added ∙ trees_of-append c.args.store.now c.args.lines.now (c.args.id ∷ []) ∙ sym ((added_one known t [] has).1 ∙ (none_more (known ++ t ∷ [])).1)) c.add.ensures

pub returns-clause-lines : goal.returns-clause-lines
returns-clause-lines c =
    let ts = c.args.store.now in
    let known = trees_of ts c.args.lines.now in
    let t = tree_at ts c.args.id in
    on_ok_weaker c.add.result
    (λ added. record {
      has = subst (λ (is : List ℕ). All (Has ts) is) (sym added) (All-push (Has ts) c.args.lines.now c.args.id c.requires.lines.has c.requires.has);
      closed = subst IsClosed (sym (ap (trees_of ts) added ∙ trees_of-append ts c.args.lines.now (c.args.id ∷ []))) (closed_more known t c.requires.lines.closed c.requires.due);
    }) c.add.ensures
