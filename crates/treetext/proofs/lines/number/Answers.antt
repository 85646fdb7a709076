use Rattle.std.proofs.Common.{get_or, arith, pow-add}
use Rattle.std.proofs.lemmas.Int.Digits.{digits_value_more}
use Rattle.std.proofs.lemmas.Str.{digit_value_digit}
use Rattle.std.proofs.lemmas.Str.Parse.{digit_at}
use Rattle.treetext.proofs.lines.number.Goals as goal

pub overflow_sub-b : goal.overflow_sub-b
overflow_sub-b c = omega (arith, digit_at c.args.digits.now c.loop-b.b-index c.requires.digits c.loop-b-test.true)

pub loop-b-preserved : goal.loop-b-preserved
loop-b-preserved c =
    let digit = digit_at c.args.digits.now c.loop-b.b-index c.requires.digits c.loop-b-test.true in
    let more = digits_value_more 10 c.args.digits.now c.loop-b.b-index c.loop-b-test.true in
    let same = digit_value_digit (get_or c.args.digits.now c.loop-b.b-index 0) digit in
    let power = pow-add 10 c.loop-b.b-index 1 in
    (omega (arith, c.from.ensures), omega (arith, c.from.ensures))
