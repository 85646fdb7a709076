use Rattle.std.proofs.Common.{◌≡◌, string_bytes}
use Rattle.terms.specs.declared.channels.Channel.TheVariants.{C, G}
use Rattle.hourlist.specs.Lists.{lines_to, standing}
use Rattle.hourlist.proofs.lists.hour_lines.Given as goal

abbrev pub invariant-loop-i : goal.invariant-loop-i
invariant-loop-i l = string_bytes l.text ≡ lines_to l.points (standing l.hours C) (standing l.hours G) l.i
