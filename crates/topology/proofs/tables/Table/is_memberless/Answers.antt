use Rattle.std.proofs.Common.{◌≡◌, not, ap, ◌∙◌, rules, tests}
use Rattle.std.specs.List.{list_any}
use Rattle.std.proofs.lemmas.Iterator.{YieldsList-from_slice}
use Rattle.std.proofs.lemmas.Iterator.Search.{any_from_yields_List}
use Rattle.points.specs.Points.{member_of}
use Rattle.topology.specs.Tables.{listed}
use Rattle.topology.proofs.Ready.{none_counted}
use Rattle.topology.proofs.tables.Table.is_memberless.Goals as goal

pub returns : goal.returns
returns c =
    let ps = listed c.args.self.now in
    let some : c.any.result ≡ list_any (member_of c.args.m) ps =
    any_from_yields_List (member_of c.args.m) _ _ _ c.any.ensures.ran (YieldsList-from_slice ps (c.iter.ensures.rest ∙ c.points.ensures)) (λ x b q k. search (rules, tests)) in
    ap not some ∙ none_counted (member_of c.args.m) ps
