use Rattle.std.proofs.Common.{◌≡◌, ◌+◌, ◌-◌, ◌*◌, ◌≤◌}
use Rattle.readings.specs.Hours.{sum_from, Written}
use Rattle.readings.specs.Places.{limit}
use Rattle.readings.proofs.Progress.{Passed}
use Rattle.readings.proofs.hours.integrate_hour.Given as goal

-- the intervals that are left begin at the next place
abbrev pub invariant-loop-interval : goal.invariant-loop-interval
invariant-loop-interval g l = record {
  low : 12 * l.hour ≤ l.interval-iterator.start;
  high : l.interval-iterator.start ≤ 12 * l.hour + 12;
  end : l.interval-iterator.end ≡ 12 * l.hour + 12;
  passed : Passed (g.S.Source.at l.source) l.hour l.point l.channel-index l.interval-iterator.start;
  total : l.sum ≡ sum_from (g.S.Source.at l.source) l.point l.channel (12 * l.hour) (l.interval-iterator.start - 12 * l.hour);
  bounded : l.sum ≤ limit * (l.interval-iterator.start - 12 * l.hour);
}

abbrev pub invariant-loop-channel : goal.invariant-loop-channel
invariant-loop-channel g l = record {
  passed : Passed (g.S.Source.at l.source) l.hour l.point l.channel-index 0;
  written : Written (g.S.Source.at l.source) l.hour l.initial.hours l.hours l.point l.channel-index;
}

abbrev pub invariant-loop-point : goal.invariant-loop-point
invariant-loop-point g l = record {
  passed : Passed (g.S.Source.at l.source) l.hour l.point 0 0;
  written : Written (g.S.Source.at l.source) l.hour l.initial.hours l.hours l.point 0;
  high : l.point ≤ l.n + 1;
}
