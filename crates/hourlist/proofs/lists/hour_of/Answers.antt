use Rattle.std.proofs.Common.{◌≡◌, ◌/◌, length, string_bytes, ap, ◌∙◌, subst, arith}
use Rattle.std.proofs.lemmas.Result.{IfOk-weaker}
use Rattle.hourlist.specs.Lists.{first_hour, HoursOf}
use Rattle.hourlist.proofs.Lines.{printed_lines}
use Rattle.hourlist.proofs.lists.hour_of.Goals as goal

pub returns-in-Ok : goal.returns-in-Ok
returns-in-Ok c =
    let ps = c.args.points.now in
    let book = c.args.book.now in
    let half : length c.args.hours.now / 2 ≡ length ps = omega (arith, c.requires) in
    IfOk-weaker c.hour_lines.result _ _
    (λ s e. printed_lines (first_hour book (length ps)) ps book (string_bytes s) c.first_hour.new.hours
    (c.in-Ok.ensures.tests ∙ ap (first_hour book) half) (subst (λ n. HoursOf book n c.first_hour.new.hours) half c.in-Ok.ensures.sums) e)
    c.hour_lines.ensures
