use Rattle.std.proofs.Common.{◌≡◌, ◌++◌, [], ℕ, List, codes, ap, ◌∙◌, append_assoc}
use Rattle.qterm.specs.Store.{trees_of}
use Rattle.tac_cert.specs.Accepts.{most_splits}
use Rattle.cert_text.specs.TermLines.{line}
use Rattle.cert_text.specs.CertText.{written, head_line, cert_text}
use Rattle.cert_text.proofs.write.write_cert.Goals as goal

pub push_proof-requires-clause-fits : goal.push_proof-requires-clause-fits
unfolding most_splits
push_proof-requires-clause-fits c = c.requires.fits

pub returns : goal.returns
unfolding most_splits cert_text
returns c =
    let ts = c.args.store.now in
    let cert = c.args.cert.now in
    let end = line (codes "end") [] in
    let whole = (written ts most_splits [] cert.root).text in
    let head : c.push_head.new.text.items ≡ head_line cert = c.in_ok-push_head.ensures ∙ ap (λ (bs : List ℕ). bs ++ head_line cert) c.new-text.ensures.items in
    let proof : c.push_proof.new.text.items ≡ c.push_head.new.text.items ++ whole =
    c.in_ok-push_proof.ensures.text ∙ ap (λ (is : List ℕ). c.push_head.new.text.items ++ (written ts most_splits (trees_of ts is) cert.root).text) c.new-lines.ensures in
    c.in_ok-put.ensures ∙ ap (λ (bs : List ℕ). bs ++ end) proof ∙ append_assoc c.push_head.new.text.items whole end ∙ ap (λ (bs : List ℕ). bs ++ (whole ++ end)) head
