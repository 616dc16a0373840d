use Rattle.cert_read.proofs.read.read_whole.Goals as goal

pub returns-in_err-end-clause-line : goal.returns-in_err-end-clause-line
returns-in_err-end-clause-line c whole behind =
    let root = c.in_ok-root.ensures.behind whole (c.in_ok-line.ensures.behind whole behind) in
    c.end.ensures.number whole (c.in_ok-line-2.ensures.behind whole root) (c.line-2.ensures.number whole root)

pub returns-clause-line : goal.returns-clause-line
returns-clause-line c whole behind =
    let root = c.in_ok-root.ensures.behind whole (c.in_ok-line.ensures.behind whole behind) in
    c.end.ensures.number whole (c.in_ok-line-2.ensures.behind whole root) (c.line-2.ensures.number whole root)
