use Rattle.std.proofs.Common.{arith}
use Rattle.std.proofs.lemmas.Result.{err_from_is_err_and}
use Rattle.treetext.proofs.Serving.{read_beyond, read_within}
use Rattle.treetext.proofs.texts.read_draft.Goals as goal

pub returns-then-text-gt-TEXT_LIMIT-clause-failed : goal.returns-then-text-gt-TEXT_LIMIT-clause-failed
returns-then-text-gt-TEXT_LIMIT-clause-failed c = read_beyond c.args.text.now (omega (arith, c.if-text-gt-TEXT_LIMIT.true))

pub returns-in_err-enter_lines-clause-failed : goal.returns-in_err-enter_lines-clause-failed
returns-in_err-enter_lines-clause-failed c =
    let p = err_from_is_err_and c.from_residual-in_err-enter_lines.result c.from_residual-in_err-enter_lines.ensures.1 in
    rw (p.1, p.2) (read_within c.args.text.now _ (omega (arith, c.if-text-gt-TEXT_LIMIT.false)) c.in_err-enter_lines.ensures)

pub returns-clause-read : goal.returns-clause-read
returns-clause-read c = read_within c.args.text.now _ (omega (arith, c.if-text-gt-TEXT_LIMIT.false)) c.in_ok-enter_lines.ensures
