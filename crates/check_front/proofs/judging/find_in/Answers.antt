use Rattle.check_front.proofs.Judgements.{if_ok, found_by}
use Rattle.check_front.proofs.judging.find_in.Goals as goal

pub returns : goal.returns
returns c bytes holds short =
    let read = c.in_ok-bad.ensures in
    let text = rw c.in-Ok.is at read.text in
    let fits = rw c.in-Ok.is at read.fits in
    let nests = rw c.in-Ok.is at read.nests in
    if_ok c.find_against.result (λ f later. found_by bytes c.args.source.now c.cut.result.now c.read_cert.new.store c.in-Ok.cert f short c.cut.ensures text fits nests later) (c.find_against.ensures bytes holds)
